-- A reply that is a success tells of no refusal.
use Rattle.std.proofs.Common.{ℕ, Bool, true, false, List, Option, Some, None, ap, subst}
use Rattle.std.specs.Prelude.{if◌then◌else◌, codes, option_and_then, option_map, unwrap_or}
use Rattle.mg_bson.specs.Find.{get}
use Rattle.mg_bson.specs.Raw.{fields}
use Rattle.mg_bson.specs.Tree.{Fields}
use Rattle.mg_link.specs.Numbers.{as_integer}
use Rattle.mg_server.specs.Commands.{Asked, Told, asks_create, asks_delete, asks_drop, asks_indexes, asks_insert, asks_kill, asks_more, asks_other, asks_query, asks_update, asks_watch, batch_of, deleted, deleted_by, done, failures_at, garbled, gave_by, inserted, inserted_by, keeps_grammar, opened_by, success_by, time_in, told, told_by, updated, updated_by}
use Rattle.mg_link.specs.Exec.{IsSuccess}
use Rattle.mg_server.specs.Prompt.{IsRefused}
use Rattle.mg_link.specs.declared.reply.Verdict.{Verdict}

abbrev RefusesNot : Option Told → Type 0
RefusesNot o = IsRefused (unwrap_or o garbled) → ⊥

within : (b : Bool) (o : Option Told) → RefusesNot o → RefusesNot (if b then o else None)
within true o not = not
within false o not = λ r. r

mapped : {A : Type 0} (f : A → Told) (o : Option A) → ((x : A) → IsRefused (f x) → ⊥) → RefusesNot (option_map f o)
mapped f (Some x) not = not x
mapped f None not = λ r. r

behind : {A : Type 0} (f : A → Option Told) (o : Option A) → ((x : A) → RefusesNot (f x)) → RefusesNot (option_and_then f o)
behind f (Some x) not = not x
behind f None not = λ r. r

inserts_not : (said : Fields) → RefusesNot (inserted_by said)
unfolding inserted_by
inserts_not said = behind _ (option_and_then as_integer (get (codes "n") said)) (λ n. mapped (inserted n) (failures_at (get (codes "writeErrors") said)) (λ fs r. r))

updates_not : (said : Fields) → RefusesNot (updated_by said)
unfolding updated_by
updates_not said =
    behind _ (option_and_then as_integer (get (codes "n") said)) (λ n. behind _ (option_and_then as_integer (get (codes "nModified") said)) (λ changed. mapped (updated n changed) (failures_at (get (codes "writeErrors") said)) (λ fs r. r)))

deletes_not : (said : Fields) → RefusesNot (deleted_by said)
unfolding deleted_by
deletes_not said = behind _ (option_and_then as_integer (get (codes "n") said)) (λ n. mapped (deleted n) (failures_at (get (codes "writeErrors") said)) (λ fs r. r))

success_not : (a : Asked) (said : Fields) → RefusesNot (success_by a said)
success_not (asks_insert space documents ordered) said = within (keeps_grammar said) (inserted_by said) (inserts_not said)
success_not (asks_update space conditions modification many) said = within (keeps_grammar said) (updated_by said) (updates_not said)
success_not (asks_delete space conditions many) said = within (keeps_grammar said) (deleted_by said) (deletes_not said)
success_not (asks_query q) said = mapped (opened_by (time_in said)) (batch_of said) (λ b r. r)
success_not (asks_watch w start) said = mapped (opened_by (time_in said)) (batch_of said) (λ b r. r)
success_not (asks_more id space) said = mapped gave_by (batch_of said) (λ b r. r)
success_not (asks_kill ids) said = λ r. r
success_not (asks_create space) said = within (keeps_grammar said) (Some done) (λ r. r)
success_not (asks_indexes space indexes) said = within (keeps_grammar said) (Some done) (λ r. r)
success_not (asks_drop space) said = within (keeps_grammar said) (Some done) (λ r. r)
success_not asks_other said = λ r. r

-- what it tells the caller of any command
pub granted : (a : Asked) (reply : List ℕ) → IsSuccess reply → IsRefused (told a reply) → ⊥
unfolding told
granted a reply success refused = success_not a (fields reply) (subst IsRefused (ap (λ (v : Verdict). told_by v a (fields reply)) success) refused)
