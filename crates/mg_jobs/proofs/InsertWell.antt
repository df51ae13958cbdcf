-- What a server that holds nothing back tells an insert of fresh documents: that all are inserted.
use Rattle.std.proofs.Common.{◌≡◌, ℕ, suc, ℤ, pos, Bool, true, List, [], ◌∷◌, ◌++◌, length, map, Option, Some, None, Contains, option_map, Result, Ok, refl, sym, ap, ◌∙◌, subst, inl, inr, arith, false}
use Rattle.std.specs.Prelude.{codes, option_and_then, unwrap_or, if◌then◌else◌}
use Rattle.mg_bson.specs.Tree.{Tree, Fields, Items, no_items, item}
use Rattle.mg_bson.specs.Find.{as_array, as_document, get}
use Rattle.mg_bson.specs.Raw.{fields}
use Rattle.mg_link.specs.Numbers.{as_integer}
use Rattle.mg_server.specs.Commands.{Asked, Failure, Told, asked, asks_insert, documents_in, failure_of, failures_at, failures_by, garbled, inserted, inserted_by, told_by, keeps_grammar, within_grammar}
use Rattle.mg_server.specs.History.{Step, step_after, told_at}
use Rattle.mg_link.specs.Namespace.{Space}
use Rattle.mg_server.specs.Prompt.{AnswersAtOnce, MeetsConcern, rule_failures}
use Rattle.mg_server.specs.Rules.{choose, insert_entry, inserted_reply, inserting, no_more, with_document, with_error}
use Rattle.mg_server.specs.State.{State}
use Rattle.mg_server.specs.Step.{Made, MayTell, documents_of, grown, written}
use Rattle.mg_link.specs.declared.error.ErrorKind.{ErrorKind}
use Rattle.mg_link.specs.declared.error.ErrorKind.TheVariants as kind
use Rattle.mg_link.specs.declared.error.Malformed.TheVariants as malformed
use Rattle.mg_link.specs.declared.reply.Verdict.TheVariants as verdict
use Rattle.mg_ops.specs.Cursors.{found, ◌>>=◌}
use Rattle.mg_ops.specs.Writes.{Inserted, ListsAs, as_count, count_of, failure, failures_of, last_index, write_errors_at, write_errors_in}
use Rattle.mg_jobs.specs.Completing.{AreFresh}
use Rattle.mg_players.proofs.Creating.{creates}
use Rattle.mg_players.proofs.Prompting.{IsPrompted, lawful, may_tell, prompt_success, told_so}

-- ---- the rules of the store let them in

none_refused : (space : Space) (ordered : Bool) (index place : ℕ) (there documents : List Fields) → AreFresh there documents → (inserting space ordered index place there documents).errors ≡ no_items
unfolding inserting
none_refused space ordered index place there [] fresh = refl
none_refused space ordered index place there (d ∷ ds) fresh =
    ap (λ (r : Result Tree ℤ). (choose r (λ id. with_document d (insert_entry (suc place) space id d) (inserting space ordered (suc index) (suc place) (there ++ d ∷ []) ds)) (λ code. with_error index code (if ordered then no_more else inserting space ordered (suc index) place there ds))).errors) fresh.0.1
    ∙ none_refused space ordered (suc index) (suc place) (there ++ d ∷ []) ds fresh.1

no_rule_failures : (s : State) (space : Space) (documents : List Fields) → AreFresh (documents_of s space) documents → rule_failures s space documents true ≡ []
no_rule_failures s space documents fresh =
    let i = inserting space true 0 (length s.changes) (documents_of s space) documents in
    ap (λ (errors : Items). unwrap_or (failures_at (get (codes "writeErrors") (inserted_reply (record i { errors = errors })))) []) (none_refused space true 0 (length s.changes) (documents_of s space) documents fresh)

-- ---- so the reply tells of no failure

none_within : {A : Type 0} (xs : List A) → ((x : A) → Contains xs x → Contains [] x) → xs ≡ []
none_within [] within = refl
none_within (x ∷ xs) within = let none = within x (0, omega arith, refl) in let lt = none.1 in absurd (omega arith)

module _ (s s' : State) (made : Made) (space : Space) (documents : List Fields) where
  -- what the server may tell, and tells at once
  abbrev TellsAtOnce : Told → Type 0
  TellsAtOnce t = MayTell s (grown s made) (asks_insert space documents true) t made × AnswersAtOnce s s' (asks_insert space documents true) t

  tells_all : (n : Option ℤ) (fs : Option (List Failure)) → AreFresh (documents_of s space) documents → TellsAtOnce (unwrap_or (option_and_then (λ (n : ℤ). option_map (inserted n) fs) n) garbled) → (count : ℕ) × (n ≡ Some (pos count)) × (fs ≡ Some [])
  tells_all None fs fresh tells = absurd tells.0
  tells_all (Some n) None fresh tells = absurd tells.0
  tells_all (Some n) (Some fs) fresh tells = (
    length (written true fs 0 documents),
    ap (λ (z : ℤ). Some z) tells.0.count,
    ap (λ (l : List Failure). Some l) (none_within fs (λ f has. subst (λ (l : List Failure). Contains l f) (no_rule_failures s space documents fresh) (tells.1 f has))),
  )

  -- a reply that breaks the grammar tells nothing
  tells_within : (b : Bool) (o : Option Told) → TellsAtOnce (unwrap_or (if b then o else None) garbled) → TellsAtOnce (unwrap_or o garbled)
  tells_within true o tells = tells
  tells_within false o tells = absurd tells.0

-- ---- and none is read from it

never_joined : {A : Type 0} (first : Option A) (rest : Option (List A)) → option_and_then (λ (x : A). option_map (λ (xs : List A). x ∷ xs) rest) first ≡ Some [] → ⊥
never_joined None rest h = cc
never_joined (Some x) None h = cc
never_joined (Some x) (Some xs) h = cc

no_failures : (ds : Option (List Fields)) → option_and_then failures_by ds ≡ Some [] → ds ≡ Some []
no_failures None h = absurd cc
no_failures (Some []) h = refl
no_failures (Some (d ∷ ds)) h = absurd (never_joined (failure_of d) (failures_by ds) h)

none_in : (ts : Items) → documents_in ts ≡ Some [] → write_errors_in ts ≡ Ok []
none_in no_items h = refl
none_in (item t ts) h = absurd (never_joined (as_document t) (documents_in ts) h)

none_of : (o : Option Items) → option_and_then failures_by (option_and_then documents_in o) ≡ Some [] → (found malformed.BadItem o >>= write_errors_in) ≡ Ok []
none_of None h = absurd cc
none_of (Some ts) h = none_in ts (no_failures (documents_in ts) h)

none_at : (o : Option Tree) → failures_at o ≡ Some [] → write_errors_at o ≡ Ok []
none_at None h = refl
none_at (Some t) h = none_of (as_array t) h

pub reads_count : (said : Fields) (n : ℕ) → option_and_then as_integer (get (codes "n") said) ≡ Some (pos n) → count_of said ≡ Ok n
unfolding count_of
reads_count said n is = ap (λ (o : Option ℤ). found malformed.BadCount (option_and_then as_count o)) is

pub reads_none : (count : ℕ) (said : Fields) → failures_at (get (codes "writeErrors") said) ≡ Some [] → get (codes "writeConcernError") said ≡ None → failures_of count said ≡ Ok []
unfolding failures_of
reads_none count said none met = rw (none_at (get (codes "writeErrors") said) none, met) refl

map_none : {A B : Type 0} (f : A → B) (xs : List A) → map f xs ≡ [] → xs ≡ []
map_none f [] h = refl
map_none f (x ∷ xs) h = absurd cc

lists_not : (count : ℕ) (said : Fields) (n : ℕ) (k : ErrorKind) → Inserted count said n → ListsAs count said k → ⊥
lists_not count said n (kind.InsertMany failures) i lists =
    let both : Ok (map failure failures.items) ≡ Ok [] = sym lists.2 ∙ i.none_failed in
    let none : map failure failures.items ≡ [] = cc in
    lists.3 (map_none failure failures.items none)
lists_not count said n (kind.InvalidResponse m) i (inl bad) = let counted = i.counted in cc
lists_not count said n (kind.InvalidResponse m) i (inr bad) = let none = i.none_failed in let breaks = bad.2 in cc
lists_not count said n k i lists = lists

-- ---- the reply to a step

module _ (step : Step) (p : IsPrompted step) (space : Space) (documents : List Fields) (asks : asked step.command ≡ asks_insert space documents true) (fresh : AreFresh (documents_of p.before space) documents) where
  tells_at_once : (said : Told) → told_at step ≡ said → TellsAtOnce p.before (step_after p.before step) step.made space documents said
  tells_at_once said is = (
    may_tell step (lawful step p) (asks_insert space documents true) said asks is,
    subst (λ (c : Asked). AnswersAtOnce p.before (step_after p.before step) c said) asks (subst (λ (t : Told). AnswersAtOnce p.before (step_after p.before step) (asked step.command) t) is p.prompt),
  )

  told_inserted : told_at step ≡ unwrap_or (within_grammar (fields step.reply) (inserted_by (fields step.reply))) garbled
  told_inserted = told_so step (lawful step p) verdict.Success (prompt_success step p (ap creates asks)) ∙ ap (λ (c : Asked). told_by verdict.Success c (fields step.reply)) asks

  -- it is no failure
  pub never_lists : (count : ℕ) (k : ErrorKind) → ListsAs count (fields step.reply) k → ⊥
  unfolding inserted_by
  never_lists count k lists =
      let met = subst (λ (c : Asked). MeetsConcern c step.reply) asks p.met in
      let said : Fields = fields step.reply in
      let all = tells_all p.before (step_after p.before step) step.made space documents (option_and_then as_integer (get (codes "n") said)) (failures_at (get (codes "writeErrors") said)) fresh (tells_within p.before (step_after p.before step) step.made space documents (keeps_grammar said) (inserted_by said) (tells_at_once (unwrap_or (within_grammar said (inserted_by said)) garbled) told_inserted)) in
      lists_not count said all.0 k (record { counted = reads_count said all.0 all.1; none_failed = reads_none (last_index count) said all.2 met }) lists
