-- The file of a put behind the step of its record.
use Rattle.std.proofs.Common.{◌≡◌, ◌+◌, ◌-◌, ◌<◌, ◌≤◌, ◌∷◌, [], ℕ, ℤ, pos, suc, Bool, true, false, List, Some, None, length, take, refl, sym, ap, ◌∙◌, subst, inl, inr, arith}
use Rattle.std.specs.Prelude.{◌||◌, codes, slice_get}
use Rattle.std.proofs.lemmas.Bool.{cases_lt}
use Rattle.std.proofs.lemmas.List.{take_all}
use Rattle.std.proofs.lemmas.Slice.Eq.{bytes_eq-Decides}
use Rattle.mg_bson.specs.Raw.{fields}
use Rattle.mg_bson.specs.Tree.{Fields, Tree}
use Rattle.mg_server.specs.Commands.{asked, asks_delete, asks_insert, asks_query}
use Rattle.mg_link.specs.Chunks.{chunked}
use Rattle.mg_server.specs.Files.{AreChunks, Bucket, File, IsWhole, LeavesFile, chunks_space, file_of, files_space, has_value}
use Rattle.mg_server.specs.Filing.{part, whole_with}
use Rattle.mg_server.specs.Filter.{key, meets}
use Rattle.mg_server.specs.History.{IsLegal, Step, state_of}
use Rattle.mg_link.specs.Log.{Call}
use Rattle.mg_server.specs.Standing.{Stands}
use Rattle.mg_server.specs.State.{State, nothing}
use Rattle.mg_server.proofs.Files.{quiet_stays}
use Rattle.mg_server.proofs.Owners.{same_some}
use Rattle.mg_link.proofs.Places.{get_within}
use Rattle.mg_link.specs.declared.error.Error.{Error}
use Rattle.mg_server.specs.Query.{Query}
use Rattle.mg_ops.specs.Naming.{IsNamed}
use Rattle.mg_ops.proofs.Asking.{asks_to_insert}
use Rattle.mg_ops.proofs.AskingMore.{asks_to_delete}
use Rattle.mg_records.specs.FileRecords.{file_record_of}
use Rattle.mg_chunks.specs.Filters.{of_file}
use Rattle.mg_gridfs.specs.Commands.{insert_options}
use Rattle.mg_gridfs.specs.Uploads.{Aim, Ending, record_of}
use Rattle.mg_players.specs.Causes.{Course}
use Rattle.mg_players.specs.Files.{OthersLeave, ReadsOther}
use Rattle.mg_players.proofs.GetJudged.{whole_says}
use Rattle.mg_players.specs.PutSends.{chunks_removal, record_insert}
use Rattle.mg_players.specs.Puts.{PutTask, joined, put_aim, total}
use Rattle.mg_players.proofs.PutSending.{joined_total}
use Rattle.mg_players.proofs.GetDiffering.{never_differ}
use Rattle.mg_players.specs.Behind.{IsStepWith, KeepsUntil, RecordsAt, RecordsOver, RemovedBefore, RemovesOnce, WholeBehind}
use Rattle.mg_jobs.proofs.Filed.{may_in}
use Rattle.mg_jobs.proofs.RecordWritten.{record_written}
use Rattle.mg_jobs.proofs.StepsAt.{next_state}

-- ---- states of a history

-- a file that is left from one position up to another, which may lie behind the history
pub stays_until : (history : List Step) (b : Bucket) (id : Tree) (from upto : ℕ) → from ≤ upto → from ≤ length history
    → ((position : ℕ) (step : Step) → from ≤ position → position < upto → slice_get history position ≡ Some step → LeavesFile (state_of (take position history)) step b id)
    → file_of (state_of (take upto history)) b id ≡ file_of (state_of (take from history)) b id
stays_until history b id from upto le within leaves = elim (cases_lt (length history) upto) [
  | inl beyond ↦
      let n : ℕ = length history - from in
      let e : from + n ≡ length history = omega arith in
      let all : take upto history ≡ take (from + n) history = take_all upto history (omega arith) ∙ sym (take_all (from + n) history (omega arith)) in
      ap (λ (h : List Step). file_of (state_of h) b id) all
      ∙ quiet_stays history b id from n (omega arith) (λ position step low high there. leaves position step low (omega arith) there)
  | inr inside ↦
      let n : ℕ = upto - from in
      let e : from + n ≡ upto = omega arith in
      ap (λ (k : ℕ). file_of (state_of (take k history)) b id) (sym e)
      ∙ quiet_stays history b id from n (omega arith) (λ position step low high there. leaves position step low (omega arith) there)
]

-- ---- behind the record

-- a record has the id of its file
record_has_id : (aim : Aim) (ending : Ending) → meets (has_value (codes "_id") aim.id) (record_of aim ending) ≡ true
record_has_id aim ending = ap (λ (t : Bool). t || false) ((bytes_eq-Decides (key aim.id) (key aim.id)).1 refl)

module _ (c : Course) (i : ℕ) (calls : List Call) (t : PutTask) (over : (moment : ℤ) → RecordsOver c i calls t moment) (history : List Step) (legal : IsLegal history) (stands : Stands calls history) (leave : OthersLeave c i calls history t.at t.id) (recorded : ℕ) (r : RecordsAt c i calls history t recorded) where
  abbrev ending : Ending
  ending = record { length = total t.pieces; moment = r.moment }

  -- the step inserts the record
  inserts : fields r.step.command ≡ record_insert t r.moment
  inserts =
      let x = stands.same r.by.own.place r.by.own.call recorded r.by.own.there r.by.own.placed in
      let same : x.0 ≡ r.step = same_some x.0 r.step (sym x.1 ∙ r.there) in
      ap fields (ap (λ (y : Step). y.command) (sym same) ∙ x.2) ∙ r.by.sends

  asks : asked r.step.command ≡ asks_insert (files_space t.at) (record_of (put_aim t) ending ∷ []) true
  asks = asks_to_insert r.step.command (files_space t.at) (record_of (put_aim t) ending ∷ []) (insert_options None) None (over r.moment).named inserts

  -- right behind it the file has its record and all its chunks
  file_recorded : (chunks : List Fields) → file_of (state_of (take recorded history)) t.at t.id ≡ part chunks → file_of (state_of (take (suc recorded) history)) t.at t.id ≡ whole_with (record_of (put_aim t) ending) chunks
  file_recorded chunks was =
      ap (λ (s : State). file_of s t.at t.id) (next_state history recorded r.step r.there)
      ∙ record_written (state_of (take recorded history)) r.step t.at t.id (record_of (put_aim t) ending) asks (may_in nothing history recorded r.step legal r.there) r.took (record_has_id (put_aim t) ending) chunks was

  -- nothing touches it from there on, as long as its chunks are kept
  nobody_touches : (upto : ℕ) → KeepsUntil c i calls t upto → (position : ℕ) (step : Step) → suc recorded ≤ position → position < upto → slice_get history position ≡ Some step → LeavesFile (state_of (take position history)) step t.at t.id
  nobody_touches upto keeps position step low high found =
      let early = leave.later recorded r.by.own in
      elim (leave.leave position step (omega (arith, early, low)) (get_within history position step found) found) [
        | inl own ↦ let late : upto ≤ position = keeps position ((over r.moment).later history stands recorded position r.by own (omega (arith, low))) in absurd (omega (arith, late, high))
        | inr leaves ↦ leaves
      ]

  whole_behind_it : (upto : ℕ) → recorded < upto → KeepsUntil c i calls t upto → IsWhole (state_of (take upto history)) t.at t.id (joined t.pieces) t.chunk
  whole_behind_it upto behind keeps =
      let before = (over r.moment).stood history legal stands leave recorded r.by in
      let within = get_within history recorded r.step r.there in
      let file_is : file_of (state_of (take upto history)) t.at t.id ≡ whole_with (record_of (put_aim t) ending) before.0
      = stays_until history t.at t.id (suc recorded) upto (omega (arith, behind)) (omega (arith, within)) (nobody_touches upto keeps) ∙ file_recorded before.0 before.2 in
      record {
        record_of = record_of (put_aim t) ending;
        alone = ap (λ (f : File). f.records) file_is;
        length_is = ap (λ (n : ℕ). Some (pos n)) (sym (joined_total t.pieces));
        size_is = refl;
        chunks_are = subst (λ (ks : List Fields). AreChunks 0 (chunked t.chunk (joined t.pieces)) ks) (sym (ap (λ (f : File). f.chunks) file_is)) before.1;
      }

-- Behind the record of a put that sends it over all of its chunks the file is whole, until it has them removed.
pub whole_behind : (c : Course) (i : ℕ) (calls : List Call) (t : PutTask) → ((moment : ℤ) → RecordsOver c i calls t moment) → WholeBehind c i calls t
whole_behind c i calls t over history legal stands leave recorded upto r behind keeps = whole_behind_it c i calls t over history legal stands leave recorded r upto behind keeps

-- ---- chunks that a get blames

-- what removes chunks asks for no query
removes_no_query : (t : PutTask) (command : List ℕ) (q : Query) → IsNamed (chunks_space t.at) → fields command ≡ chunks_removal t → asked command ≡ asks_query q → ⊥
removes_no_query t command q named is asks =
    let deletes : asked command ≡ asks_delete (chunks_space t.at) (has_value (codes "files_id") t.id ∷ []) true
    = asks_to_delete command (chunks_space t.at) (of_file t.id) (has_value (codes "files_id") t.id ∷ []) true None None named refl is in
    let both : asks_delete (chunks_space t.at) (has_value (codes "files_id") t.id ∷ []) true ≡ asks_query q = sym deletes ∙ asks in
    absurd cc

module _ (c : Course) (j i : ℕ) (calls : List Call) (t : PutTask) (e : Error) (named : IsNamed (chunks_space t.at)) (whole : WholeBehind c j calls t) (history : List Step) (legal : IsLegal history) (stands : Stands calls history) (leave : OthersLeave c j calls history t.at t.id) (x : ReadsOther c i calls history t.at t.id e) (recorded : ℕ) (r : RecordsAt c j calls history t recorded) (behind : recorded ≤ x.found.opened) where
  -- the chunks that it listed were not kept
  never_kept : KeepsUntil c j calls t (suc x.fetched) → ⊥
  never_kept keeps =
      let opened : ℕ = x.found.opened in
      let later : opened < x.fetched = x.later in
      let early = whole history legal stands leave recorded (suc opened) r (omega (arith, behind)) (λ position s. (let late : suc x.fetched ≤ position = keeps position s in omega (arith, late, later))) in
      let late = whole history legal stands leave recorded (suc x.fetched) r (omega (arith, behind, later)) keeps in
      let first_is : x.found.first ≡ early.record_of = same_some x.found.first early.record_of (ap (λ (l : List Fields). slice_get l 0) (sym x.found.stood ∙ early.alone)) in
      let says = whole_says (state_of (take (suc opened) history)) t.at t.id (joined t.pieces) t.chunk x.file early (ap file_record_of (sym first_is) ∙ x.reads_as) in
      let same : (file_of (state_of (take (suc x.fetched) history)) t.at t.id).chunks ≡ (file_of (state_of (take (suc x.fetched) history)) t.at x.file.id).chunks
      = ap (λ (f : File). f.chunks) (sym (says.one (state_of (take (suc x.fetched) history)))) in
      never_differ x.file x.count (joined t.pieces) t.chunk says.length_is says.size_is says.some x.counted (file_of (state_of (take (suc x.fetched) history)) t.at x.file.id).chunks e
      (subst (AreChunks 0 (chunked t.chunk (joined t.pieces))) same late.chunks_are) x.differ

  -- the step that removes them is not the one that lists them
  other_step : IsStepWith c j calls x.fetched (chunks_removal t) → ⊥
  other_step s =
      let y = stands.same s.own.place s.own.call x.fetched s.own.there s.own.placed in
      let same : y.0 ≡ x.lists.step = same_some y.0 x.lists.step (sym y.1 ∙ x.lists.there) in
      removes_no_query t s.own.call.command _ named s.sends (ap asked (sym y.2 ∙ ap (λ (z : Step). z.command) same) ∙ x.lists.asks)

  -- Where other chunks were listed than the record says, which the put inserted, it had had them removed.
  pub removed_before : RemovesOnce c j calls t → RemovedBefore c j calls t x.fetched
  removed_before (inl never) = absurd (never_kept (λ position s. absurd (never position s)))
  removed_before (inr (at, removes, alone)) = elim (cases_lt at x.fetched) [
    | inl before ↦ record { at = at; removes = removes; before = before }
    | inr from ↦ absurd (never_kept (λ position s. (let is = alone position s in let other = not_there from in omega (arith, is, other))))
  ]
    where
      not_there : x.fetched ≤ at → x.fetched < at
      not_there low = elim (cases_lt x.fetched at) [
        | inl above ↦ above
        | inr below ↦ (let is : at ≡ x.fetched = omega (arith, low, below) in absurd (other_step (subst (λ (p : ℕ). IsStepWith c j calls p (chunks_removal t)) is removes)))
      ]
