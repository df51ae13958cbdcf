-- Ids that are kept.
use Rattle.std.specs.Prelude.{◌==◌, ◌+◌, ℕ, List, [], ◌∷◌, length, Option, Some, None, slice_get, if◌then◌else◌}
use Rattle.mg_bson.specs.declared.object_id.ObjectId.{ObjectId}
use Rattle.mg_players.specs.declared.drawn.DrawnIds.{DrawnIds}

abbrev pub zeros : List ℕ
zeros = 0 ∷ 0 ∷ 0 ∷ 0 ∷ 0 ∷ 0 ∷ 0 ∷ 0 ∷ 0 ∷ 0 ∷ 0 ∷ 0 ∷ []

-- bytes as those of an id, which are twelve
abbrev pub as_id : List ℕ → List ℕ
as_id bytes = if length bytes == 12 then bytes else zeros

-- the bytes of an id, or zeros where there is none
abbrev pub id_or_zeros : Option ObjectId → List ℕ
id_or_zeros None = zeros
id_or_zeros (Some id) = as_id id.0

-- the kept id of this number
abbrev pub kept_id : List ObjectId → ℕ → List ℕ
kept_id ids k = id_or_zeros (slice_get ids k)

-- those that are left
abbrev pub ids_left : DrawnIds → ℕ → List ℕ
ids_left d k = kept_id d.ids.items (d.next + k)
