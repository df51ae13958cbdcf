-- When the program ends with which status, and what it writes then.
use Rattle.std.specs.Prelude.{◌≡◌, ◌⊎◌, slice_get, ℕ, List, [], ◌∷◌, ◌++◌, length, true, Option, Some, None, Vec, codes}
use Rattle.std.specs.declared.alloc.Global.{Global}
use Rattle.mg_link.specs.Causes.{Rose}
use Rattle.mg_link.specs.Ids.{counted_id}
use Rattle.mg_server.specs.History.{IsLegal}
use Rattle.mg_server.specs.Kept.{IsByRules, state_of_kept, steps_of}
use Rattle.mg_link.specs.Log.{Call}
use Rattle.mg_server.specs.Owner.{NamesItsOwn}
use Rattle.mg_link.specs.Places.{out_at, polls_in}
use Rattle.mg_server.specs.Standing.{Stands}
use Rattle.mg_players.specs.Blaming.{GetsBehind}
use Rattle.mg_players.specs.Causes.{AllPollOwn, AllWaitAlone, OutcomeCaused, course}
use Rattle.mg_jobs.specs.Completing.{AnswersWellIn, JobTaken, JobWell, JobWellIn, NoneRefused}
use Rattle.mg_turns.specs.Counts.{AreNoted, turns_pended}
use Rattle.mg_jobs.specs.Fated.{AreItsSteps}
use Rattle.mg_jobs.specs.Grammar.{NeverGarbled}
use Rattle.mg_players.specs.Owned.{NamesNoOthers}
use Rattle.mg_players.specs.Drawing.{as_sent, supplied, supply_of}
use Rattle.mg_players.specs.Puts.{Supply}
use Rattle.mg_players.specs.Progress.{AllPlayed}
use Rattle.mg_players.specs.Sends.{MaySend, SendsOnly}
use Rattle.mg_players.specs.Headline.{OutcomeFiled, OutcomeFollowed}
use Rattle.mg_script.specs.Plan.{Plan, Task, plan, tasks}
use Rattle.mg_script.specs.Plan as plans
use Rattle.mg_store.specs.InMemory.{AreAsFates, AreKept, pends_in}
use Rattle.mg_store.specs.Stored.{AreOpen}
use Rattle.mg_store.specs.declared.fate.Fate.{Fate}
use Rattle.mg_script.specs.declared.outcome.Outcome.{Outcome}
use Rattle.mg_turns.specs.declared.turned.Turned.{Turned}
use Rattle.mg_program.specs.Refusals.{EndingTold, HasJobs, IsRefusalOf, IsScript, ReadScript, RefusedFor, is_run, refusal_status, refusal_text, short_refusal}
use Rattle.mg_script.specs.Text.{text_of}
use Rattle.mg_script.specs.declared.outcome.Run.{Run}
use Rattle.mg_script.specs.declared.script.Script.{Script}
use Rattle.mg_jobs.specs.declared.program.Ending.{Ending}
use Rattle.mg_jobs.specs.declared.program.Ending.TheVariants as endings

-- ---- what came of the words and the input

-- the ids that a script's inserts and puts draw: the bytes that it names, a byte 0, and eight bytes that count up
abbrev pub script_ids : Script → ℕ → List ℕ
script_ids script n = counted_id (script.ids ++ 0 ∷ []) n

-- what its jobs are supplied with: these ids, and the moment that it names
abbrev pub script_supply : Script → Supply
script_supply script = supplied (script_ids script) script.moment.millis

-- What the jobs of a run over one link came to. The link's log stands in the history of the run's own store, which is legal and whose steps are by the
-- rules; the ids that are printed as open are those of the cursors in the state that it leads to; each of its calls is as the fate of its number in the script says, and each of them names the log's own cursors only. In every legal history in
-- which the log stands each follow answered consecutive entries from its own opening place on, and each get that ended well gave the bytes of its file; each answer of a follow has its cause among the commands of
-- its own turns; each put that ended well left its file whole, where nobody else touched it, and however one ended its file is whole behind its record up to a step that is to remove its chunks; each insert sends its documents with the script's next ids. A get that blames a
-- chunk of a file which a job puts, and nobody else touches, listed the chunks only behind a step by which that job was to remove them. There is one outcome for each job and one note for each turn, by which it
-- follows how far each job came. Each note says rightly whether its turn pended: one poll pended in it, or none, and that of the newest command which its
-- job sent up to then, by the notes; and each call pended as often as its fate says, or less while it waits. A call that waits was sent in a turn of a job
-- whose newest turn pended by its note, and which waits for no other. Each command that a turn sent, by the notes, is one that its job may send: what a put stores has
-- the script's next ids and its moment. Where every
-- fate keeps its command, each job ends as its kind promises whose steps were answered at once; and so were, in the history of the run's own
-- store, the steps of each job of which it refused none, but the creation of a collection that is there.
-- There each insert of fresh documents ends well, each follow that may begin is opened and ends well, and so ends each valid put of fresh documents, and each get of a
-- file that is whole, whose collections have short names, whatever else the run's store did: it refused no step of such an insert, such a follow and such a get, but the
-- creation of a collection that is there, and none of such a put but a getMore of a namespace that no server takes. No job names a cursor that another one opened.
-- In no legal history in which the log stands does an answer of a follow, or the failure of an insert or a put, say that a reply is no document or breaks its grammar;
-- nor does the failure of a get say that one is no document.
pub record RunFollowed (run : Run) : Type 0 where
  pub calls : List Call
  pub log_is : run.logs.items ≡ calls ∷ []
  pub by_rules : IsByRules run.store.history
  pub legal : IsLegal (steps_of run.store.history)
  pub cursors : AreOpen (state_of_kept run.store.history) run.store.open_ids
  pub stands : Stands calls (steps_of run.store.history)
  pub alone : AreItsSteps run.store.history calls
  pub turns : Vec Turned Global
  pub turns_are : run.turns.items ≡ turns ∷ []
  pub followed : (i : ℕ) (t : Task) (r : Outcome) → slice_get (tasks run.script.jobs.items) i ≡ Some t → slice_get run.outcomes.items i ≡ Some r → OutcomeFollowed (course [] run.script.order.items turns.items) i calls t r
  pub filed : (i : ℕ) (t : Task) (r : Outcome) → slice_get (tasks run.script.jobs.items) i ≡ Some t → slice_get run.outcomes.items i ≡ Some r → OutcomeFiled (course [] run.script.order.items turns.items) i calls t r
  pub behind : GetsBehind (course [] run.script.order.items turns.items) calls (tasks run.script.jobs.items) run.outcomes.items
  pub own : NamesItsOwn calls
  pub caused : (i : ℕ) (t : Task) (r : Outcome) → slice_get (tasks run.script.jobs.items) i ≡ Some t → slice_get run.outcomes.items i ≡ Some r
      → OutcomeCaused (out_at calls) (course [] run.script.order.items turns.items) i calls run.script.wire (supply_of (script_supply run.script) (tasks run.script.jobs.items) run.script.order.items i) (as_sent (script_ids run.script) (tasks run.script.jobs.items) run.script.order.items i t) r
  pub grammar : (i : ℕ) (r : Outcome) → slice_get run.outcomes.items i ≡ Some r → NeverGarbled calls r
  pub fates : List Fate
  pub fates_are : plans.fates fates ≡ plans.fates run.script.fates.items
  pub pended : List ℕ
  pub as_fates : AreAsFates run.store.history fates calls pended
  pub outcomes : length run.outcomes.items ≡ length run.script.jobs.items
  pub rows : AllPlayed (tasks run.script.jobs.items) run.script.order.items turns.items run.outcomes.items
  pub notes : length turns.items ≡ length run.script.order.items
  pub noted : AreNoted turns.items (Some []) (Some calls) 0 (pends_in pended)
  pub pended_in_turns : pends_in pended ≡ turns_pended turns.items
  pub polled : AllPollOwn (Some []) run.script.order.items turns.items (polls_in []) (polls_in pended)
  pub waits_alone : AllWaitAlone (out_at []) (out_at calls) (Some []) run.script.order.items turns.items
  pub sends : (i : ℕ) (t : Task) → slice_get (tasks run.script.jobs.items) i ≡ Some t
      → SendsOnly (MaySend (supply_of (script_supply run.script) (tasks run.script.jobs.items) run.script.order.items i) (as_sent (script_ids run.script) (tasks run.script.jobs.items) run.script.order.items i t)) (course [] run.script.order.items turns.items) i calls
  pub prompt : (i : ℕ) → NoneRefused (course [] run.script.order.items turns.items) i calls (steps_of run.store.history) → AnswersWellIn (course [] run.script.order.items turns.items) i calls (steps_of run.store.history)
  pub names : (i : ℕ) → NamesNoOthers calls (course [] run.script.order.items turns.items) i
  pub well : AreKept 0 fates → (i : ℕ) (t : Task) (r : Outcome) → slice_get (tasks run.script.jobs.items) i ≡ Some t → slice_get run.outcomes.items i ≡ Some r
      → JobWell (course [] run.script.order.items turns.items) i calls (as_sent (script_ids run.script) (tasks run.script.jobs.items) run.script.order.items i t) r
  pub well_here : AreKept 0 fates → (i : ℕ) (t : Task) (r : Outcome) → slice_get (tasks run.script.jobs.items) i ≡ Some t → slice_get run.outcomes.items i ≡ Some r
      → JobWellIn (course [] run.script.order.items turns.items) i calls (steps_of run.store.history) (as_sent (script_ids run.script) (tasks run.script.jobs.items) run.script.order.items i t) r
  pub taken : AreKept 0 fates → (i : ℕ) (t : Task) → slice_get (tasks run.script.jobs.items) i ≡ Some t → JobTaken (course [] run.script.order.items turns.items) i calls (steps_of run.store.history) t

-- the run is of the script that was read, over one link
pub record Ran (old new : Option (List ℕ)) (run : Run) : Type 0 where
  pub followed : RunFollowed run
  pub script : ReadScript old new (plan run.script)
  pub jobs : HasJobs (plan run.script)
  pub log : length run.logs.items ≡ 1
  pub turns : length run.turns.items ≡ 1

-- when it comes to each
abbrev pub Caused : List (List ℕ) → Option (List ℕ) → Option (List ℕ) → ℕ → ℕ → Ending → Type 0
Caused words old new before now (endings.Refused refusal) = RefusedFor words old new before now refusal
Caused words old new before now (endings.Unprinted run) = (is_run words ≡ true) × Ran old new run
Caused words old new before now (endings.Done run) = (is_run words ≡ true) × Ran old new run

-- The ending is of these words and these bytes, which were all that was left. But for a failed read and want of memory, one ending alone
-- is of the same words and bytes.
abbrev pub IsOf : List (List ℕ) → List ℕ → Ending → Type 0
IsOf words bytes (endings.Refused refusal) = IsRefusalOf words bytes refusal
IsOf words bytes (endings.Unprinted run) = (is_run words ≡ true) × IsScript bytes (plan run.script) × HasJobs (plan run.script)
IsOf words bytes (endings.Done run) = (is_run words ≡ true) × IsScript bytes (plan run.script) × HasJobs (plan run.script)

abbrev pub status_of : Ending → ℕ
status_of (endings.Refused refusal) = refusal_status refusal
status_of (endings.Unprinted run) = 6
status_of (endings.Done run) = 0

abbrev pub ending_text : Ending → List ℕ
ending_text (endings.Refused refusal) = refusal_text refusal
ending_text (endings.Unprinted run) = codes "out of memory\n"
ending_text (endings.Done run) = text_of run

-- the run that was played to its end
abbrev pub run_of : Ending → Option Run
run_of (endings.Refused refusal) = None
run_of (endings.Unprinted run) = Some run
run_of (endings.Done run) = Some run

-- the words are `run`, and what is left is a script whose order names its jobs only
abbrev pub IsAsked : List (List ℕ) → Option (List ℕ) → Type 0
IsAsked words left = (is_run words ≡ true) × ((bytes : List ℕ) × (left ≡ Some bytes) × ((script : Plan) × IsScript bytes script × HasJobs script))

-- where such a run is asked for and no end fails, the jobs are run, and the status says that their text was written, or that memory ran out
abbrev pub RunsThrough : List (List ℕ) → Option (List ℕ) → (read read' written written' : ℕ) → ℕ → Type 0
RunsThrough words left read read' written written' status = IsAsked words left → (Rose read read' → ⊥) → (Rose written written' → ⊥) → (status ≡ 0) ⊎ (status ≡ 6)

-- as what an ending is told where memory runs out for its text
abbrev pub short_of : Ending → Ending
short_of (endings.Refused refusal) = endings.Refused (short_refusal refusal)
short_of (endings.Unprinted run) = endings.Unprinted run
short_of (endings.Done run) = endings.Unprinted run

-- the status, the text and the run are those of the ending
abbrev pub ToldAs : Ending → Option Run → ℕ → Option (List ℕ) → Option (List ℕ) → ℕ → ℕ → Type 0
ToldAs ending run status old new before now = (run ≡ run_of ending) × EndingTold (status_of ending) (ending_text ending) status old new before now

-- it was told as itself, or memory ran out for its text
abbrev pub IsToldAs : Ending → Option Run → ℕ → Option (List ℕ) → Option (List ℕ) → ℕ → ℕ → Type 0
IsToldAs ending run status old new before now = ToldAs ending run status old new before now ⊎ ToldAs (short_of ending) run status old new before now
