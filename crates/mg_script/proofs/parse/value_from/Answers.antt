use Rattle.std.proofs.Common.{◌≡◌, List, ℕ, Bool, true, false, cond, None, Err, IsUtf8, refl, sym, ◌∙◌, true≢false}
use Rattle.std.specs.Str.{is_utf8}
use Rattle.std.proofs.lemmas.Str.{IsUtf8-from_is_utf8, is_utf8-from_IsUtf8}
use Rattle.serde_json.specs.Read.{read}
use Rattle.mg_script.specs.declared.fault.Place.TheVariants as place
use Rattle.mg_script.specs.Reads.{found}
use Rattle.mg_script.specs.Script.{data_of}
use Rattle.mg_script.proofs.parse.value_from.Goals as goal

not_json : (bytes : List ℕ) (b : Bool) → is_utf8 bytes ≡ b → (IsUtf8 bytes → read bytes ≡ None) → cond b (found place.NotJson (read bytes)) (Err place.NotJson) ≡ Err place.NotJson
not_json bytes true e h = rw (h (IsUtf8-from_is_utf8 bytes e)) refl
not_json bytes false e h = refl

pub returns-in-Ok : goal.returns-in-Ok
unfolding data_of
returns-in-Ok c = rw (is_utf8-from_IsUtf8 c.args.bytes.now c.in-Ok.ensures.ok.0, c.in-Ok.ensures.ok.1) refl

pub returns-else-is_memory : goal.returns-else-is_memory
unfolding data_of
returns-else-is_memory c = not_json c.args.bytes.now (is_utf8 c.args.bytes.now) refl (c.in-Err.ensures.err (λ m. true≢false (sym (c.is_memory.ensures.1 m) ∙ c.if-is_memory.false)))
