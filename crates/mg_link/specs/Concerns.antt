-- The words of concerns and read preferences (drivers' specifications of read and write concern, and of server selection).
use Rattle.std.specs.Prelude.{◌≡◌, ℕ, List, [], ◌∷◌, codes, string_bytes, Bool, Option, option_map, if◌then◌else◌}
use Rattle.std.specs.Str.{bytes_eq}
use Rattle.mg_link.specs.Words.{Word, spelled, other}
use Rattle.mg_link.specs.declared.concern.ReadConcernLevel.{ReadConcernLevel}
use Rattle.mg_link.specs.declared.concern.ReadConcernLevel.TheVariants as level
use Rattle.mg_link.specs.declared.concern.Acknowledgment.{Acknowledgment}
use Rattle.mg_link.specs.declared.concern.Acknowledgment.TheVariants as acknowledgment
use Rattle.mg_link.specs.declared.concern.WriteConcern.{WriteConcern}
use Rattle.mg_link.specs.declared.read_preference.ReadPreference.{ReadPreference}
use Rattle.mg_link.specs.declared.read_preference.ReadPreference.TheVariants as preference

-- the word of each level
abbrev pub level_word : ReadConcernLevel → Word
level_word level.Local = spelled "local"
level_word level.Majority = spelled "majority"
level_word level.Linearizable = spelled "linearizable"
level_word level.Available = spelled "available"
level_word level.Snapshot = spelled "snapshot"
level_word (level.Custom s) = other (string_bytes s)

abbrev pub levels : List ReadConcernLevel
levels = level.Local ∷ level.Majority ∷ level.Linearizable ∷ level.Available ∷ level.Snapshot ∷ []

-- some members of a replica set: so many, or those that a word tells
pub data Members : Type 0 where
  so_many : ℕ → Members
  told_by : Word → Members

-- who is to have a write
abbrev pub acknowledged : Acknowledgment → Members
acknowledged (acknowledgment.Nodes n) = so_many n
acknowledged acknowledgment.Majority = told_by (spelled "majority")
acknowledged (acknowledgment.Custom s) = told_by (other (string_bytes s))

-- what a word is read as: `majority`, or else a setting of that name
abbrev pub IsAcknowledged : List ℕ → Acknowledgment → Type 0
IsAcknowledged w a = acknowledged a ≡ told_by (if bytes_eq w (codes "majority") then spelled "majority" else other w)

-- the parts of a write concern
pub record Concerned : Type 0 where
  pub w : Option Members
  pub w_timeout : Option ℕ
  pub journal : Option Bool

abbrev pub concerned : WriteConcern → Concerned
concerned c = record { w = option_map acknowledged c.w; w_timeout = c.w_timeout; journal = c.journal }

-- the word of each mode
abbrev pub preference_word : ReadPreference → Word
preference_word preference.Primary = spelled "primary"
preference_word preference.PrimaryPreferred = spelled "primaryPreferred"
preference_word preference.Secondary = spelled "secondary"
preference_word preference.SecondaryPreferred = spelled "secondaryPreferred"
preference_word preference.Nearest = spelled "nearest"

abbrev pub preferences : List ReadPreference
preferences = preference.Primary ∷ preference.PrimaryPreferred ∷ preference.Secondary ∷ preference.SecondaryPreferred ∷ preference.Nearest ∷ []
