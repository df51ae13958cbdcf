-- What a step that inserts the record of a file leaves of it.
use Rattle.std.proofs.Common.{◌≡◌, ◌⊎◌, ◌++◌, ◌∷◌, [], ℕ, ℤ, Bool, true, false, List, Option, refl, sym, ap, ap₂, ◌∙◌, subst, inl, inr, append-nil}
use Rattle.std.specs.Prelude.{codes, if◌then◌else◌, unwrap_or}
use Rattle.std.proofs.lemmas.List.Elements.{filter-append}
use Rattle.mg_bson.specs.Tree.{Fields, Tree}
use Rattle.mg_server.specs.Commands.{Asked, Failure, Told, asked, asks_insert, deleted, done, garbled, gave, inserted, killed, opened, refuses, updated}
use Rattle.mg_server.specs.Files.{Bucket, File, Spares, by_number, chunks_space, file_of, files_space, has_value, with_value}
use Rattle.mg_server.specs.Filing.{part, whole_with}
use Rattle.mg_server.specs.Filter.{meets}
use Rattle.mg_server.specs.History.{Step, step_after, told_at}
use Rattle.mg_link.specs.Namespace.{Space}
use Rattle.mg_server.specs.Query.{sorted}
use Rattle.mg_server.specs.State.{State}
use Rattle.mg_server.specs.Step.{Made, May, MayTell, documents_of, effect, grown, is_listed, written}
use Rattle.mg_server.proofs.Chunking.{apart_back}
use Rattle.mg_server.proofs.Collections.{documents_here}
use Rattle.mg_server.proofs.Files.{spared_stay}
use Rattle.mg_players.specs.Behind.{WritesFirst}

-- what an insert of documents that listed these failures leaves of a collection
put_there : (s : State) (space : Space) (ds : List Fields) (n : ℤ) (failures : List Failure) (made : Made) → documents_of (effect (grown s made) (asks_insert space ds true) (inserted n failures)) space ≡ documents_of s space ++ written true failures 0 ds
unfolding effect grown
put_there s space ds n failures made = ap (λ (o : Option (List Fields)). unwrap_or o []) (documents_here (grown s made) space (documents_of s space ++ written true failures 0 ds))

-- one that was refused leaves it
refused_there : (s : State) (space : Space) (ds : List Fields) (code : ℤ) (labels : List (List ℕ)) (made : Made) → documents_of (effect (grown s made) (asks_insert space ds true) (refuses code labels)) space ≡ documents_of s space
unfolding effect grown
refused_there s space ds code labels made = refl

-- one document is written, or is not
one_written : (d : Fields) (failures : List Failure) (t : Bool) → is_listed 0 failures ≡ t → written true failures 0 (d ∷ []) ≡ (if t then [] else d ∷ [])
one_written d failures t is = ap (λ (x : Bool). if x then [] else d ∷ []) is

module _ (s : State) (step : Step) (b : Bucket) (id : Tree) (r : Fields) (asks : asked step.command ≡ asks_insert (files_space b) (r ∷ []) true) where
  abbrev there : List Fields
  there = documents_of s (files_space b)

  told_so : (x : Told) → told_at step ≡ x → documents_of (step_after s step) (files_space b) ≡ documents_of (effect (grown s step.made) (asks_insert (files_space b) (r ∷ []) true) x) (files_space b)
  told_so x tells = ap₂ (λ (a : Asked) (y : Told). documents_of (effect (grown s step.made) a y) (files_space b)) asks tells

  -- the records behind it
  behind_it : (n : ℤ) (failures : List Failure) (t : Bool) → told_at step ≡ inserted n failures → is_listed 0 failures ≡ t → documents_of (step_after s step) (files_space b) ≡ there ++ (if t then [] else r ∷ [])
  behind_it n failures t tells is = told_so (inserted n failures) tells ∙ put_there s (files_space b) (r ∷ []) n failures step.made ∙ ap (λ (l : List Fields). there ++ l) (one_written r failures t is)

  -- Where it was written behind the chunks of its file, it stands alone there.
  pub record_written : May s (asked step.command) (told_at step) step.made → WritesFirst (told_at step) → meets (has_value (codes "_id") id) r ≡ true → (chunks : List Fields) → file_of s b id ≡ part chunks → file_of (step_after s step) b id ≡ whole_with r chunks
  unfolding file_of
  record_written may w its chunks was =
      let records : with_value (codes "_id") id there ≡ [] = ap (λ (f : File). f.records) was in
      let old : sorted by_number (with_value (codes "files_id") id (documents_of s (chunks_space b))) ≡ chunks = ap (λ (f : File). f.chunks) was in
      let new : with_value (codes "_id") id (documents_of (step_after s step) (files_space b)) ≡ r ∷ []
      = ap (with_value (codes "_id") id) (behind_it w.0 w.1 false w.2 w.3) ∙ filter-append (meets (has_value (codes "_id") id)) there (r ∷ [])
      ∙ ap₂ (λ (l : List Fields) (t : Bool). l ++ (if t then r ∷ [] else [])) records its in
      let stay : with_value (codes "files_id") id (documents_of (step_after s step) (chunks_space b)) ≡ with_value (codes "files_id") id (documents_of s (chunks_space b))
      = spared_stay s step (chunks_space b) (has_value (codes "files_id") id) may (subst (λ (a : Asked). Spares a (chunks_space b) (has_value (codes "files_id") id)) (sym asks) (λ same. absurd (apart_back b same))) in
      ap₂ (λ (rs ks : List Fields). record { records = rs; chunks = ks }) new (ap (sorted by_number) stay ∙ old)

  abbrev RecordsStay : Type 0
  RecordsStay = (file_of (step_after s step) b id).records ≡ (file_of s b id).records

  records_stay : documents_of (step_after s step) (files_space b) ≡ there → RecordsStay
  unfolding file_of
  records_stay same = ap (with_value (codes "_id") id) same

  by_listed : (n : ℤ) (failures : List Failure) (t : Bool) → told_at step ≡ inserted n failures → is_listed 0 failures ≡ t → WritesFirst (told_at step) ⊎ RecordsStay
  by_listed n failures true tells is = inr (records_stay (behind_it n failures true tells is ∙ append-nil there))
  by_listed n failures false tells is = inl (n, failures, tells, is)

  by_told : (x : Told) → told_at step ≡ x → MayTell s (grown s step.made) (asks_insert (files_space b) (r ∷ []) true) x step.made → WritesFirst (told_at step) ⊎ RecordsStay
  by_told (refuses code labels) tells may = inr (records_stay (told_so (refuses code labels) tells ∙ refused_there s (files_space b) (r ∷ []) code labels step.made))
  by_told (inserted n failures) tells may = by_listed n failures (is_listed 0 failures) tells refl
  by_told (updated n changed failures) tells may = absurd may
  by_told (deleted n failures) tells may = absurd may
  by_told done tells may = absurd may
  by_told (opened x space events token time) tells may = absurd may
  by_told (gave x space events token) tells may = absurd may
  by_told killed tells may = absurd may
  by_told garbled tells may = absurd may

  -- It was written, or the records stay as they were.
  pub written_or : May s (asked step.command) (told_at step) step.made → WritesFirst (told_at step) ⊎ RecordsStay
  written_or may = by_told (told_at step) refl (subst (λ (a : Asked). MayTell s (grown s step.made) a (told_at step) step.made) asks may.tells)
