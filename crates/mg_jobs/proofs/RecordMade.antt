-- A record that stands, of a file that only one put touches, was inserted by this put.
use Rattle.std.proofs.Common.{◌≡◌, ◌⊎◌, ◌<◌, ◌≤◌, [], ℕ, zero, suc, ℤ, List, Some, None, length, take, refl, sym, ap, ◌∙◌, subst, inl, inr, arith}
use Rattle.std.specs.Prelude.{codes, slice_get}
use Rattle.std.proofs.lemmas.Bool.{cases_lt}
use Rattle.std.proofs.lemmas.List.{take_all}
use Rattle.mg_bson.specs.Raw.{fields}
use Rattle.mg_bson.specs.Tree.{Fields}
use Rattle.mg_server.specs.Commands.{Asked, asked}
use Rattle.mg_server.specs.Files.{File, Spares, chunks_space, file_of, files_space, has_value}
use Rattle.mg_server.specs.Filing.{Leaves}
use Rattle.mg_server.specs.History.{IsLegal, Step, state_after, state_of, step_after, told_at}
use Rattle.mg_link.specs.Log.{Call}
use Rattle.mg_server.specs.Standing.{Stands}
use Rattle.mg_server.specs.State.{State}
use Rattle.mg_server.specs.Step.{May}
use Rattle.mg_server.proofs.Chunking.{apart}
use Rattle.mg_server.proofs.Files.{spared_stay}
use Rattle.mg_server.proofs.Owners.{same_some}
use Rattle.mg_link.proofs.Places.{get_there}
use Rattle.mg_options.specs.Fields.{fields_in}
use Rattle.mg_ops.specs.Naming.{IsNamed}
use Rattle.mg_gridfs.specs.Causes.{a_creation, a_find, a_listing, an_index}
use Rattle.mg_gridfs.specs.Commands.{chunk_documents, record_document}
use Rattle.mg_gridfs.proofs.Meaning.{any_leaves, creation_leaves, index_leaves, listing_leaves}
use Rattle.mg_players.specs.Behind.{RecordsAt, WritesFirst}
use Rattle.mg_players.specs.Causes.{Course}
use Rattle.mg_players.specs.Files.{IsStepOf, OthersLeave}
use Rattle.mg_players.specs.PutSends.{IsCheckCommand, chunks_removal, of_check, reads_on, record_insert}
use Rattle.mg_players.specs.Puts.{PutTask, Supply, put_bucket, total}
use Rattle.mg_players.specs.Sends.{IsPutCommand, SendsOnly, checks, inserts, records, removes}
use Rattle.mg_jobs.proofs.Filed.{next_leaves}
use Rattle.mg_players.proofs.PutWhich.{IntoChunks, into_chunks, of_record, of_removal}
use Rattle.mg_jobs.proofs.RecordWritten.{written_or}
use Rattle.mg_jobs.proofs.StepsAt.{may_at, next_state}

-- ---- what the commands of a put leave

module _ (t : PutTask) (files : IsNamed (files_space t.at)) (chunks : IsNamed (chunks_space t.at)) where
  -- a command of its check leaves each file
  check_leaves : (command : List ℕ) → IsCheckCommand (put_bucket t) (fields command) → Leaves command t.at t.id
  check_leaves command (of_check lines (a_find same) is) = any_leaves (put_bucket t) t.at t.id command (is ∙ ap fields_in same)
  check_leaves command (of_check lines (a_creation k same) is) = creation_leaves (put_bucket t) t.at t.id files chunks k command (is ∙ ap fields_in same)
  check_leaves command (of_check lines (a_listing k same) is) = listing_leaves (put_bucket t) t.at t.id files chunks k command (is ∙ ap fields_in same)
  check_leaves command (of_check lines (an_index k same) is) = index_leaves (put_bucket t) t.at t.id files chunks k command (is ∙ ap fields_in same)
  check_leaves command (reads_on id space is) = next_leaves command t.at t.id id space is

  module _ (s : State) (step : Step) (may : May s (asked step.command) (told_at step) step.made) where
    abbrev RecordsStay : Type 0
    RecordsStay = (file_of (step_after s step) t.at t.id).records ≡ (file_of s t.at t.id).records

    -- so a command that spares the records
    spared_records : Spares (asked step.command) (files_space t.at) (has_value (codes "_id") t.id) → RecordsStay
    unfolding file_of
    spared_records spares = spared_stay s step (files_space t.at) (has_value (codes "_id") t.id) may spares

    check_stays : IsCheckCommand (put_bucket t) (fields step.command) → RecordsStay
    check_stays is = ap (λ (f : File). f.records) (check_leaves step.command is s step refl may)

    chunks_stay : IntoChunks t (fields step.command) → RecordsStay
    chunks_stay into =
        let asks = into_chunks t files chunks step.command into in
        spared_records (subst (λ (a : Asked). Spares a (files_space t.at) (has_value (codes "_id") t.id)) (sym asks.1) (λ same. absurd (apart t.at same)))

    removal_stays : fields step.command ≡ chunks_removal t → RecordsStay
    removal_stays is = spared_records (subst (λ (a : Asked). Spares a (files_space t.at) (has_value (codes "_id") t.id)) (sym (of_removal t files chunks step.command is)) (λ same. absurd (apart t.at same)))

    record_or : (m : ℤ) → fields step.command ≡ record_insert t m → WritesFirst (told_at step) ⊎ RecordsStay
    record_or m is = written_or s step t.at t.id (record_document t.id (total t.pieces) t.chunk m t.name None) (of_record t files chunks step.command m is) may

-- ---- where a record stands

-- job j inserted the record of its file before this position
pub record RecordsBefore (c : Course) (j : ℕ) (calls : List Call) (history : List Step) (t : PutTask) (upto : ℕ) : Type 0 where
  pub position : ℕ
  pub before : position < upto
  pub recorded : RecordsAt c j calls history t position

module _ (supply : Supply) (t : PutTask) (files : IsNamed (files_space t.at)) (chunks : IsNamed (chunks_space t.at)) (c : Course) (j : ℕ) (calls : List Call) (sends : SendsOnly (IsPutCommand supply t) c j calls) (history : List Step) (legal : IsLegal history) (stands : Stands calls history) (leave : OthersLeave c j calls history t.at t.id) where
  abbrev state_at : ℕ → State
  state_at n = state_of (take n history)

  -- the records behind so many steps
  abbrev records_at : ℕ → List Fields
  records_at n = (file_of (state_at n) t.at t.id).records

  abbrev InsertedOr : ℕ → Type 0
  InsertedOr position = RecordsAt c j calls history t position ⊎ (records_at (suc position) ≡ records_at position)

  module _ (position : ℕ) (step : Step) (found : slice_get history position ≡ Some step) where
    stay_at : (file_of (step_after (state_at position) step) t.at t.id).records ≡ records_at position → InsertedOr position
    stay_at stays = inr (ap (λ (s : State). (file_of s t.at t.id).records) (next_state history position step found) ∙ stays)

    may : May (state_at position) (asked step.command) (told_at step) step.made
    may = may_at history position step legal found

    -- a step of the put
    by_command : (own : IsStepOf c j calls position) → step.command ≡ own.call.command → IsPutCommand supply t (fields own.call.command) → InsertedOr position
    by_command own same (checks is) = stay_at (check_stays t files chunks (state_at position) step may (subst (λ (command : List ℕ). IsCheckCommand (put_bucket t) (fields command)) (sym same) is))
    by_command own same (inserts from upto is) = stay_at (chunks_stay t files chunks (state_at position) step may (chunk_documents is.ids 0 t.id from is.piece, ap fields same ∙ is.command_is))
    by_command own same (records m timely is) =
        elim (record_or t files chunks (state_at position) step may m (ap fields same ∙ is)) [
          | inl writes ↦ inl (record { moment = m; by = record { own = own; sends = is }; step = step; there = found; took = writes })
          | inr stays ↦ stay_at stays
        ]
    by_command own same (removes is) = stay_at (removal_stays t files chunks (state_at position) step may (ap fields same ∙ is))

    by_own : IsStepOf c j calls position → InsertedOr position
    by_own own =
        let x = stands.same own.place own.call position own.there own.placed in
        let same : x.0 ≡ step = same_some x.0 step (sym x.1 ∙ found) in
        by_command own (ap (λ (y : Step). y.command) (sym same) ∙ x.2) (sends.each own.done own.place own.call own.sent own.there)

    -- any step
    by_step : leave.from ≤ position → position < length history → InsertedOr position
    by_step low within = elim (leave.leave position step low within found) [
      | inl own ↦ by_own own
      | inr leaves ↦ stay_at (ap (λ (f : File). f.records) leaves)
    ]

  none_at_first : records_at leave.from ≡ []
  none_at_first = ap (λ (f : File). f.records) leave.nothing

  -- it was inserted in one of so many steps, or in none
  in_step : (n : ℕ) → InsertedOr n → ((records_at n ≡ [] → ⊥) → RecordsBefore c j calls history t n) → (records_at (suc n) ≡ [] → ⊥) → RecordsBefore c j calls history t (suc n)
  in_step n (inl here) before some = record { position = n; before = omega arith; recorded = here }
  in_step n (inr stays) before some =
      let r = before (λ none. some (stays ∙ none)) in
      let less = r.before in
      record { position = r.position; before = omega (arith, less); recorded = r.recorded }

  none_there : (n : ℕ) → leave.from ≡ n → records_at n ≡ []
  none_there n is = subst (λ (m : ℕ). records_at m ≡ []) is none_at_first

  -- A record that stands while nobody else touches the file was inserted by the put before.
  pub inserted_before : (n : ℕ) → leave.from ≤ n → (records_at n ≡ [] → ⊥) → RecordsBefore c j calls history t n
  inserted_before zero low some = absurd (some (none_there zero (omega (arith, low))))
  inserted_before (suc n) low some = elim (cases_lt n leave.from) [
    | inl short ↦ absurd (some (none_there (suc n) (omega (arith, low, short))))
    | inr behind ↦ in_step n (at_step behind) (λ before. inserted_before n behind before) some
  ]
    where
      at_step : leave.from ≤ n → InsertedOr n
      at_step low = elim (cases_lt n (length history)) [
        | inl within ↦ (let there = get_there history n within in by_step n there.0 there.1 low within)
        | inr beyond ↦ inr (ap (λ (h : List Step). (file_of (state_of h) t.at t.id).records) (take_all (suc n) history (omega (arith, beyond)) ∙ sym (take_all n history beyond)))
      ]
