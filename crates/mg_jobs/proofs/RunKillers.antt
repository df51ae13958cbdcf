-- Each cursor that a command of a run kills was opened by the job that sent it.
use Rattle.std.proofs.Common.{◌≡◌, ◌⊎◌, ◌++◌, ℕ, ℤ, Bool, List, [], length, Option, Some, None, refl, sym, ap, ◌∙◌, subst, inl, inr, arith}
use Rattle.std.specs.Prelude.{slice_get}
use Rattle.std.specs.List.{concat, sum_by}
use Rattle.std.proofs.lemmas.Bool.{cases_eq}
use Rattle.mg_bson.specs.Raw.{fields}
use Rattle.mg_bson.specs.Tree.{Fields, Tree}
use Rattle.mg_server.specs.History.{IsLegal, Step}
use Rattle.mg_link.specs.Link.{Awaited}
use Rattle.mg_link.specs.Log.{Call}
use Rattle.mg_link.specs.Namespace.{Target}
use Rattle.mg_server.specs.Owner.{IsOf}
use Rattle.mg_server.specs.Standing.{Stands}
use Rattle.mg_link.proofs.Places.{get_some, get_within}
use Rattle.mg_store.proofs.Standing.{same_some}
use Rattle.mg_options.specs.Fields.{Line, fields_in}
use Rattle.mg_change.specs.ClientOpenings.{first_aggregate}
use Rattle.mg_change.specs.ClientStreams.{ClientStream}
use Rattle.mg_change.specs.OpenedStreams.{IsOpening}
use Rattle.mg_gridfs.specs.Buckets.{ClientBucket}
use Rattle.mg_gridfs.specs.Causes.{IsOfCheck, a_creation, a_find, a_listing, an_index}
use Rattle.mg_gridfs.specs.Commands.{any_lines, chunk_documents, chunks_lines, creation_lines, index_lines, listing_lines}
use Rattle.mg_ops.specs.Bodies.{insert_command}
use Rattle.mg_ops.specs.declared.change_stream.WatchArgs.{WatchArgs}
use Rattle.mg_script.specs.Plan.{Begin, Task, follow, get, insert, put}
use Rattle.mg_script.specs.Script.{first_missing}
use Rattle.mg_script.specs.declared.outcome.Answer.{Answer}
use Rattle.mg_script.specs.declared.outcome.Ended.{Ended}
use Rattle.mg_script.specs.declared.outcome.Ended.TheVariants as ended
use Rattle.mg_script.specs.declared.outcome.Outcome.{Outcome}
use Rattle.mg_script.specs.declared.outcome.Outcome.TheVariants as outcome
use Rattle.mg_turns.specs.declared.turned.Turned.{Turned}
use Rattle.mg_players.specs.Causes.{CloseCaused, Course, FallsAt, FollowCaused, OpenCaused, OutcomeCaused, SentIn, at_rest, course, in_call, in_closing, places_of, sent_at}
use Rattle.mg_turns.specs.Counts.{StartedBy}
use Rattle.mg_players.specs.Drawing.{as_sent, supply_of}
use Rattle.mg_players.specs.Follows.{IsArgsFor}
use Rattle.mg_players.specs.Gets.{GetTask, IsGetCommand, chunks_find, for_chunks, for_more, for_record, get_of, no_manner, record_find}
use Rattle.mg_players.specs.Kinds.{OfFollow}
use Rattle.mg_players.specs.Progress.{FollowPlayed, IsPlayed, pends_last, turns_done}
use Rattle.mg_players.specs.PutSends.{chunks_removal, of_check, reads_on, record_insert}
use Rattle.mg_players.specs.Puts.{PutTask, Supply, put_bucket, put_of}
use Rattle.mg_players.specs.Sends.{IsPutCommand, MaySend, SendsOnly, checks, inserts, records, removes}
use Rattle.mg_players.proofs.CallPlaces.{call_falls, opens_falls}
use Rattle.mg_jobs.proofs.Identified.{StandsWell, opened_well}
use Rattle.mg_jobs.proofs.Killers.{IsSparing, creates_spare, deletes_spare, finds_spare, indexes_spare, inserts_spare, lists_spare, next_spares, resuming_spares}
use Rattle.mg_jobs.proofs.Openers.{IsOpenedIn, call_mine, calls_mine, honest_all, last_mine, opened_place}
use Rattle.mg_jobs.proofs.PlacesRise.{of_either, of_first, of_second, one_job, sent_pends}
use Rattle.mg_jobs.proofs.Positions.{sent_place}
use Rattle.mg_jobs.proofs.Refusing.{falls_each}
use Rattle.mg_jobs.proofs.SaidTwice.{follow_both}
use Rattle.mg_jobs.proofs.Senders.{none_missing, turn_of}
use Rattle.mg_jobs.proofs.WatchStands.{KillsIt}

-- ---- jobs that are no follows

check_spares : (b : ClientBucket) (ls : List Line) → IsOfCheck b ls → IsSparing (fields_in ls)
check_spares b ls (a_find is) = subst (λ (ls : List Line). IsSparing (fields_in ls)) (sym is) (finds_spare (fields_in (any_lines b)) refl)
check_spares b ls (a_creation at is) = subst (λ (ls : List Line). IsSparing (fields_in ls)) (sym is) (creates_spare (fields_in (creation_lines b at)) refl)
check_spares b ls (a_listing at is) = subst (λ (ls : List Line). IsSparing (fields_in ls)) (sym is) (lists_spare (fields_in (listing_lines b at)) refl)
check_spares b ls (an_index at is) = subst (λ (ls : List Line). IsSparing (fields_in ls)) (sym is) (indexes_spare (fields_in (index_lines b at)) refl)

put_spares : (supply : Supply) (t : PutTask) (fs : Fields) → IsPutCommand supply t fs → IsSparing fs
put_spares supply t fs (checks (of_check ls of is)) = subst IsSparing (sym is) (check_spares (put_bucket t) ls of)
put_spares supply t fs (checks (reads_on id space is)) = subst IsSparing (sym is) (next_spares id space no_manner)
put_spares supply t fs (inserts from upto its) = subst IsSparing (sym its.command_is) (inserts_spare (fields_in (chunks_lines (put_bucket t) (chunk_documents its.ids 0 t.id from its.piece))) refl)
put_spares supply t fs (records moment its is) = subst IsSparing (sym is) (inserts_spare (record_insert t moment) refl)
put_spares supply t fs (removes is) = subst IsSparing (sym is) (deletes_spare (chunks_removal t) refl)

get_spares : (g : GetTask) (fs : Fields) → IsGetCommand g fs → IsSparing fs
get_spares g fs (for_record room is) = subst IsSparing (sym is) (finds_spare (record_find g) refl)
get_spares g fs (for_chunks room id is) = subst IsSparing (sym is) (finds_spare (chunks_find g id) refl)
get_spares g fs (for_more room cursor space is) = subst IsSparing (sym is) (next_spares cursor space no_manner)

-- ---- a follow

opening_spares : (calls : List Call) (wire : ℤ) (args : WatchArgs) (places : List ℕ) → FallsAt (IsOpening args wire None) calls 3 places 1 → (place : ℕ) (call : Call) (x : ℤ) → IsOf places place → slice_get calls place ≡ Some call → KillsIt (fields call.command) x → ⊥
opening_spares calls wire args places falls place call x of there kills =
    let is = (falls_each (IsOpening args wire None) calls 3 places 1 falls.falling place call of there).1 in
    resuming_spares (first_aggregate args) wire None x (subst (λ (fs : Fields). KillsIt fs x) is kills)

pub always : (Said : Type 0) (r : Outcome) → OfFollow (λ opened said token alive closed. Said) r → Said
always Said (outcome.Follow opened said token alive closed) s = s
always Said (outcome.Insert end) s = absurd s
always Said (outcome.Put end) s = absurd s
always Said (outcome.Get bytes end) s = absurd s

module _ (history : List Step) (calls : List Call) (legal : IsLegal history) (stands : Stands calls history) (awaited : Awaited) (wire : ℤ) (c : Course) (i : ℕ) where
  abbrev its : List ℕ
  its = places_of c i

  -- what the command at a place of it kills it opened
  abbrev KillsItsOwn : Type 0
  KillsItsOwn = (place : ℕ) (call : Call) (x : ℤ) → IsOf its place → slice_get calls place ≡ Some call → KillsIt (fields call.command) x → IsOpenedIn calls history its x

  module _ (on : Target) (count : ℕ) (start : Begin) (filter : Option Fields) (batch : Option ℕ) where
    abbrev AreIts : WatchArgs → Type 0
    AreIts = IsArgsFor on start filter batch

    abbrev Kills : ℕ → Type 0
    Kills place = (call : Call) → slice_get calls place ≡ Some call → (x : ℤ) → KillsIt (fields call.command) x → IsOpenedIn calls history its x

    end_kills : {A : Type 0} (closed : Ended A) (answered : ℕ) (last : ClientStream) (places : List ℕ) → ((p : ℕ) → IsOf places p → IsOf its p) → StandsWell (IsOpenedIn calls history its) AreIts last → CloseCaused awaited c i count answered calls wire last places closed → (place : ℕ) → IsOf places place → Kills place
    end_kills ended.Unfinished answered last places sub well (at_rest pended less none) place of = absurd (subst (λ (l : List ℕ). IsOf l place) none of)
    end_kills ended.Unfinished answered last places sub well (in_call pended less sent waits sends) place of = call_mine history calls legal stands wire AreIts its last places 0 sub well (call_falls calls wire last places sends) place of
    end_kills ended.Unfinished answered last places sub well (in_closing pended all sent waits falls) place of = last_mine history calls legal stands wire AreIts its last places well falls place of
    end_kills (ended.Gave x) answered last places sub well close place of = last_mine history calls legal stands wire AreIts its last places well close.kills place of
    end_kills (ended.Failed e) answered last places sub well close place of = last_mine history calls legal stands wire AreIts its last places well close.kills place of

    open_kills : {A : Type 0} (said : List Answer) (token : Option Tree) (alive : Bool) (closed : Ended A) → OpenCaused awaited c i count calls wire on start filter batch said token alive closed → (place : ℕ) → IsOf its place → Kills place
    open_kills said token alive closed o place of =
        let a = o.answers in
        let rest : List ℕ = concat a.owns ++ o.now in
        let sub : (p : ℕ) → IsOf (a.places ++ rest) p → IsOf its p = λ p in_all. subst (λ (l : List ℕ). IsOf l p) o.whole in_all in
        let sub_first : (p : ℕ) → IsOf a.places p → IsOf its p = λ p h. sub p (of_first a.places rest p h) in
        let sub_owns : (p : ℕ) → IsOf (concat a.owns) p → IsOf its p = λ p h. sub p (of_second a.places rest p (of_first (concat a.owns) o.now p h)) in
        let sub_now : (p : ℕ) → IsOf o.now p → IsOf its p = λ p h. sub p (of_second a.places rest p (of_second (concat a.owns) o.now p h)) in
        let first = opened_well (IsOpenedIn calls history its) AreIts (sent_at a.places calls wire) (honest_all history calls legal stands wire AreIts its a.places sub_first) o.args o.args_are a.first a.opened in
        let called = calls_mine history calls legal stands wire AreIts its a.first a.owns said o.last a.answered sub_owns first in
        elim (of_either a.places rest place (subst (λ (l : List ℕ). IsOf l place) (sym o.whole) of)) [
          | inl opening ↦ λ call there x kills. absurd (opening_spares calls wire o.args a.places (opens_falls calls wire o.args a.places a.opens) place call x opening there kills)
          | inr later ↦ elim (of_either (concat a.owns) o.now place later) [
            | inl here ↦ called.1 place here
            | inr now ↦ end_kills closed (length said) o.last o.now sub_now called.0 o.close place now
          ]
        ]

    follow_kills : (opened closed : Ended (Unit {0})) (said : List Answer) (token : Option Tree) (alive : Bool) (k : ℕ) → k ≡ turns_done i c.order c.notes → (last : Bool) → FollowCaused awaited c i count calls wire on start filter batch opened said token alive closed → FollowPlayed opened closed count (length said) alive k last → KillsItsOwn
    follow_kills ended.Unfinished closed said token alive k done last caused played place call x of there kills =
        let w = caused (sent_pends c i place (sym done ∙ played.0) of) in
        absurd (opening_spares calls wire w.args its (subst (λ (l : List ℕ). FallsAt (IsOpening w.args wire None) calls 3 l 1) w.whole (opens_falls calls wire w.args w.places w.opens)) place call x of there kills)
    follow_kills (ended.Gave y) closed said token alive k done last caused played place call x of there kills = open_kills said token alive closed caused place of call there x kills
    follow_kills (ended.Failed e) closed said token alive k done last (inl room) played place call x of there kills = absurd (subst (λ (l : List ℕ). IsOf l place) room.1 of)
    follow_kills (ended.Failed e) closed said token alive k done last (inr f) played place call x of there kills =
        absurd (opening_spares calls wire f.args its (subst (λ (l : List ℕ). FallsAt (IsOpening f.args wire None) calls 3 l 1) f.whole (opens_falls calls wire f.args f.places f.opens)) place call x of there kills)

  -- ---- any job

  -- What the command at a place of a job kills, the job opened.
  pub job_kills : (supply : Supply) (t : Task) (r : Outcome) → SendsOnly (MaySend supply t) c i calls → OutcomeCaused awaited c i calls wire supply t r → IsPlayed t (turns_done i c.order c.notes) (pends_last i c.order c.notes) r
      → (k place : ℕ) (call : Call) (x : ℤ) → SentIn c i k place → slice_get calls place ≡ Some call → KillsIt (fields call.command) x → IsOpenedIn calls history its x
  job_kills supply (follow on count start filter batch) r sends caused played k place call x sent there kills =
      always KillsItsOwn r
      (follow_both (λ opened said token alive closed. FollowCaused awaited c i count calls wire on start filter batch opened said.items token alive closed) (λ opened said token alive closed. FollowPlayed opened closed count (length said.items) alive (turns_done i c.order c.notes) (pends_last i c.order c.notes))
      (λ opened said token alive closed. KillsItsOwn) (λ opened said token alive closed why plays. follow_kills on count start filter batch opened closed said.items token alive (turns_done i c.order c.notes) refl (pends_last i c.order c.notes) why plays) r caused played)
      place call x (sent_place c i k place sent) there kills
  job_kills supply (insert ns docs) r sends caused played k place call x sent there kills =
      let p = sends.each k place call sent there in
      absurd (inserts_spare (insert_command ns p.piece) refl x (subst (λ (fs : Fields). KillsIt fs x) p.command_is kills))
  job_kills supply (put db bucket name id chunk pieces) r sends caused played k place call x sent there kills = absurd (put_spares supply (put_of db bucket name id chunk pieces) (fields call.command) (sends.each k place call sent there) x kills)
  job_kills supply (get db bucket id read) r sends caused played k place call x sent there kills = absurd (get_spares (get_of db bucket id read) (fields call.command) (sends.each k place call sent there) x kills)

-- ---- a run

-- What a call of a run kills its own job opened: it is job i, or the cursor is none of its.
pub run_kills : (history : List Step) (calls : List Call) → IsLegal history → Stands calls history → (awaited : Awaited) (wire : ℤ) (supply : Supply) (ts : List Task) (order : List ℕ) (notes : List Turned) (rs : List Outcome) → first_missing (length ts) order ≡ None → length notes ≡ length order → length rs ≡ length ts
    → StartedBy (sum_by (λ (n : Turned). n.started) notes) (Some []) (Some calls)
    → ((j : ℕ) (t : Task) → slice_get ts j ≡ Some t → SendsOnly (MaySend (supply_of supply ts order j) (as_sent supply.ids ts order j t)) (course [] order notes) j calls)
    → ((j : ℕ) (t : Task) (r : Outcome) → slice_get ts j ≡ Some t → slice_get rs j ≡ Some r → OutcomeCaused awaited (course [] order notes) j calls wire (supply_of supply ts order j) (as_sent supply.ids ts order j t) r)
    → ((j : ℕ) (t : Task) (r : Outcome) → slice_get ts j ≡ Some t → slice_get rs j ≡ Some r → IsPlayed (as_sent supply.ids ts order j t) (turns_done j order notes) (pends_last j order notes) r)
    → (i place : ℕ) (call : Call) (x : ℤ) → slice_get calls place ≡ Some call → KillsIt (fields call.command) x → IsOf (places_of (course [] order notes) i) place ⊎ (IsOpenedIn calls history (places_of (course [] order notes) i) x → ⊥)
run_kills history calls legal stands awaited wire supply ts order notes rs named abreast counted started sends caused played i place call x there kills =
    let c : Course = course [] order notes in
    let all = started [] refl in
    let same : all.0 ≡ calls = same_some all.0 calls (sym all.1) in
    let long = ap length same in
    let count = all.2 in
    let within = get_within calls place call there in
    let none : sum_by (λ (n : Turned). n.started) [] ≡ 0 = refl in
    let turn = turn_of 0 [] [] order notes place refl abreast (omega (arith, none)) (omega (arith, none, within, long, count)) in
    let j = turn.0 in
    let below = none_missing (length ts) turn.2.before j turn.2.after (ap (first_missing (length ts)) (sym turn.2.order_is) ∙ named) in
    let t = get_some ts j below in
    let r = get_some rs j (omega (arith, below, counted)) in
    let opened = job_kills history calls legal stands awaited wire c j (supply_of supply ts order j) (as_sent supply.ids ts order j t.0) r.0 (sends j t.0 t.1) (caused j t.0 r.0 t.1 r.1) (played j t.0 r.0 t.1 r.1) turn.1 place call x turn.2 there kills in
    elim (cases_eq i j) [
      | inl same_job ↦ inl (subst (λ (n : ℕ). IsOf (places_of c n) place) (sym same_job) (sent_place c j turn.1 place turn.2))
      | inr other ↦ inr (λ o.
          let at = opened_place calls history legal stands (places_of c i) (places_of c j) x o opened in
          other (one_job c i j o.place o.of (subst (IsOf (places_of c j)) (sym at) opened.of)))
    ]
