-- What a reply to a command says (the server's replies: `ok`, `code`, `codeName`, `errmsg`, `errorLabels`).
use Rattle.std.specs.Prelude.{ℕ, ℤ, pos, List, [], ◌∷◌, Bool, Option, Some, None, option_and_then, unwrap_or, codes, if◌then◌else◌}
use Rattle.std.specs.Ordering.{int_eq}
use Rattle.std.specs.Str.{bytes_eq}
use Rattle.mg_bson.specs.Tree.{Tree, double, int32, int64, Fields, Items, no_items, item}
use Rattle.mg_bson.specs.Find.{get, as_int32, as_string, as_array}
use Rattle.mg_link.specs.declared.reply.Verdict.{Verdict}
use Rattle.mg_link.specs.declared.reply.Verdict.TheVariants as verdict

-- the bytes of the double 1, the lowest first
abbrev pub one : List ℕ
one = 0 ∷ 0 ∷ 0 ∷ 0 ∷ 0 ∷ 0 ∷ 240 ∷ 63 ∷ []

abbrev pub succeeds_if : Bool → Verdict
succeeds_if is_one = if is_one then verdict.Success else verdict.Refusal

-- a number as `ok`: 1 is a success, another a refusal, and all else is neither
abbrev pub verdict_by : Tree → Verdict
verdict_by (int32 n) = succeeds_if (int_eq n (pos 1))
verdict_by (int64 n) = succeeds_if (int_eq n (pos 1))
verdict_by (double bits) = succeeds_if (bytes_eq bits one)
verdict_by _ = verdict.NoOk

abbrev pub verdict_at : Option Tree → Verdict
verdict_at None = verdict.NoOk
verdict_at (Some t) = verdict_by t

-- what the reply says of its command
unfoldable pub verdict_of : Fields → Verdict
verdict_of reply = verdict_at (get (codes "ok") reply)

-- a text, or none
abbrev pub text_at : List ℕ → Fields → List ℕ
text_at name reply = unwrap_or (option_and_then as_string (get name reply)) []

-- the code of a refusal, 0 where it has none
unfoldable pub code_of : Fields → ℤ
code_of reply = unwrap_or (option_and_then as_int32 (get (codes "code") reply)) (pos 0)

-- a text in front of others
abbrev pub with_text : Option (List ℕ) → List (List ℕ) → List (List ℕ)
with_text None texts = texts
with_text (Some text) texts = text ∷ texts

-- the texts among the items
abbrev pub texts_of : Items → List (List ℕ)
texts_of no_items = []
texts_of (item t ts) = with_text (as_string t) (texts_of ts)

-- the labels of a refusal
unfoldable pub labels_of : Fields → List (List ℕ)
labels_of reply = texts_of (unwrap_or (option_and_then as_array (get (codes "errorLabels") reply)) no_items)

-- what a refusal says
pub record Refusal : Type 0 where
  pub code : ℤ
  pub name : List ℕ
  pub message : List ℕ
  pub labels : List (List ℕ)

unfoldable pub refusal_of : Fields → Refusal
refusal_of reply = record { code = code_of reply; name = text_at (codes "codeName") reply; message = text_at (codes "errmsg") reply; labels = labels_of reply }
