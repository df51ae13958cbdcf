-- What the store of a run refuses of the commands of its jobs, and so how they end there.
use Rattle.std.proofs.Common.{◌≡◌, ◌≤◌, ◌+◌, ◌++◌, ℕ, suc, ℤ, List, [], ◌∷◌, length, None, Some, ap, arith, refl, subst}
use Rattle.std.specs.Prelude.{slice_get}
use Rattle.std.specs.List.{concat, sum_by}
use Rattle.std.proofs.lemmas.Option.{slice_get_within}
use Rattle.mg_bson.specs.Raw.{fields}
use Rattle.mg_bson.specs.Tree.{Fields}
use Rattle.mg_server.specs.Calls.{Past}
use Rattle.mg_server.specs.History.{IsLegal, Step}
use Rattle.mg_server.specs.Kept.{IsByRules as AreByRules, Kept, steps_of}
use Rattle.mg_link.specs.Link.{Awaited}
use Rattle.mg_link.specs.Log.{Call}
use Rattle.mg_link.specs.Namespace.{Space}
use Rattle.mg_server.specs.Owner.{NamesItsOwn}
use Rattle.mg_server.specs.Prompt.{HoldsBackNone}
use Rattle.mg_server.specs.Standing.{Stands}
use Rattle.mg_link.proofs.Places.{get_some}
use Rattle.mg_store.specs.InMemory.{AreAsFates, AreKept}
use Rattle.mg_store.specs.declared.fate.Fate.{Fate}
use Rattle.mg_script.specs.Plan.{Task, follow, get, insert, put, tasks}
use Rattle.mg_script.specs.Script.{first_missing}
use Rattle.mg_script.specs.declared.outcome.Ended.{Ended}
use Rattle.mg_script.specs.declared.outcome.Ended.TheVariants as ended
use Rattle.mg_script.specs.declared.outcome.Outcome.{Outcome}
use Rattle.mg_script.specs.declared.outcome.Outcome.TheVariants as outcome
use Rattle.mg_turns.specs.declared.turned.Turned.{Turned}
use Rattle.mg_script.specs.declared.script.Job.{Job}
use Rattle.mg_players.specs.Causes.{AllSentIn, Course, FollowCaused, GetCaused, ReadGoesOn, GetStands, InsertEnds, OutcomeCaused, PutEnds, SentIfPends, commands_at, course, has_opened, places_of, sent_at, unopened}
use Rattle.mg_gridfs.specs.Downloads.{ClientDownload}
use Rattle.mg_jobs.specs.Completing.{EndsWell, HasShortFiles, JobTaken, JobWell, JobWellIn, NoneRefused, SendFresh, own_excuses, positions_at}
use Rattle.mg_jobs.specs.Own.{IsHeard}
use Rattle.mg_jobs.specs.PutLimits.{IsExcusedPut, IsValidPut}
use Rattle.mg_turns.specs.Counts.{StartedBy}
use Rattle.mg_players.specs.Drawing.{as_sent, first_id, sent_from, supply_of}
use Rattle.mg_players.specs.Gets.{GetTask, get_of}
use Rattle.mg_players.specs.Kinds.{OfGet, OfInsert, OfPut}
use Rattle.mg_players.specs.Owned.{NamesNoOthers}
use Rattle.mg_jobs.specs.Fated.{AreItsSteps}
use Rattle.mg_players.specs.Progress.{FollowPlayed, IsPlayed, PutPlayed, pends_last, turns_done}
use Rattle.mg_players.specs.Puts.{PutTask, Supply, put_of}
use Rattle.mg_players.specs.Sends.{MaySend, SendsOnly}
use Rattle.mg_jobs.proofs.FollowTaken.{follow_taken}
use Rattle.mg_jobs.proofs.GetTaken.{get_taken}
use Rattle.mg_jobs.proofs.Makers.{MakesCommand, sends_make}
use Rattle.mg_jobs.proofs.Mild.{IsMildCommand}
use Rattle.mg_jobs.proofs.PlacesRise.{of_rise}
use Rattle.mg_jobs.proofs.PutFiled.{SomeSent, some_sent}
use Rattle.mg_jobs.proofs.PutKinds.{put_kinds}
use Rattle.mg_jobs.proofs.PutTaken.{put_here, put_taken}
use Rattle.mg_jobs.proofs.Refusing.{PutsWell, job_ends_in, none_refused, run_each}
use Rattle.mg_jobs.proofs.RunKillers.{always, run_kills}
use Rattle.mg_jobs.proofs.SaidTwice.{follow_both, put_both}
use Rattle.mg_jobs.proofs.Whose.{owned, whose}

-- ---- what a get sent

-- what it sent as it stands, however it ended
abbrev HasSentSo : Course → ℕ → List Call → ℤ → GetTask → List ℕ → Type 0
HasSentSo c i calls wire g bytes = (well : ℕ) × GetStands c i calls wire g bytes well (λ (now : List ℕ). Unit {0}) (λ (last : ClientDownload) (now : List ℕ). Unit {0})

loose : (c : Course) (i : ℕ) (calls : List Call) (wire : ℤ) (g : GetTask) (bytes : List ℕ) (well : ℕ) (So : List ℕ → Type 0) (Goes : ClientDownload → List ℕ → Type 0) → GetStands c i calls wire g bytes well So Goes → GetStands c i calls wire g bytes well (λ (now : List ℕ). Unit {0}) (λ (last : ClientDownload) (now : List ℕ). Unit {0})
loose c i calls wire g bytes well So Goes (unopened none empty sent so found asks) = unopened none empty sent tt found asks
loose c i calls wire g bytes well So Goes (has_opened f opened k is now so sent last read goes) = has_opened f opened k is now tt sent last read tt

end_stands : (awaited : Awaited) (c : Course) (i : ℕ) (calls : List Call) (wire : ℤ) (g : GetTask) (bytes : List ℕ) (end : Ended (Unit {0})) → GetCaused awaited c i calls wire g bytes end → HasSentSo c i calls wire g bytes
end_stands awaited c i calls wire g bytes ended.Unfinished k = (turns_done i c.order c.notes, loose c i calls wire g bytes (turns_done i c.order c.notes) (SentIfPends c i) (ReadGoesOn awaited c i calls wire g) k.1)
end_stands awaited c i calls wire g bytes (ended.Gave x) k = (suc k.3, has_opened k.1 k.2 k.3 refl k.5 tt k.6 k.7 k.8 tt)
end_stands awaited c i calls wire g bytes (ended.Failed e) k = (k.1.well, k.1.stands)

get_stands : (awaited : Awaited) (c : Course) (i : ℕ) (calls : List Call) (wire : ℤ) (g : GetTask) (r : Outcome) → OfGet (λ bytes end. GetCaused awaited c i calls wire g bytes.items end) r → (given : List ℕ) × HasSentSo c i calls wire g given
get_stands awaited c i calls wire g (outcome.Get bytes end) why = (bytes.items, end_stands awaited c i calls wire g bytes.items end why)
get_stands awaited c i calls wire g (outcome.Insert end) why = absurd why
get_stands awaited c i calls wire g (outcome.Follow opened said token alive closed) why = absurd why
get_stands awaited c i calls wire g (outcome.Put end) why = absurd why

-- ---- what an insert and a put sent

insert_sent : (awaited : Awaited) (c : Course) (i : ℕ) (calls : List Call) (wire : ℤ) (ns : Space) (docs : List Fields) (r : Outcome) → OfInsert (λ end. InsertEnds awaited c i calls wire ns docs end) r → AllSentIn c i 0 (places_of c i)
insert_sent awaited c i calls wire ns docs (outcome.Insert end) why = subst (AllSentIn c i 0) why.whole why.sent
insert_sent awaited c i calls wire ns docs (outcome.Get bytes end) why = absurd why
insert_sent awaited c i calls wire ns docs (outcome.Follow opened said token alive closed) why = absurd why
insert_sent awaited c i calls wire ns docs (outcome.Put end) why = absurd why

put_sent : (awaited : Awaited) (c : Course) (i : ℕ) (calls : List Call) (wire : ℤ) (supply : Supply) (t : PutTask) (r : Outcome) → OfPut (λ end. PutEnds awaited c i calls wire supply t end) r → (ever : Past) × SomeSent supply t ever (commands_at calls (places_of c i))
put_sent awaited c i calls wire supply t (outcome.Put end) why =
    let ever : Past = sent_at (concat why.owns ++ why.places) calls wire in
    (ever, some_sent supply t (length why.owns) ever (sent_at why.places calls wire) (commands_at calls (places_of c i)) end why.sends)
put_sent awaited c i calls wire supply t (outcome.Insert end) why = absurd why
put_sent awaited c i calls wire supply t (outcome.Get bytes end) why = absurd why
put_sent awaited c i calls wire supply t (outcome.Follow opened said token alive closed) why = absurd why

-- what is taken of a task with the ids that are drawn is taken of it as it stands in the script
taken_unsent : (c : Course) (i : ℕ) (calls : List Call) (history : List Step) (ids : ℕ → List ℕ) (n : ℕ) (t : Task) → JobTaken c i calls history (sent_from ids n t) → JobTaken c i calls history t
taken_unsent c i calls history ids n (insert ns docs) taken = taken
taken_unsent c i calls history ids n (follow on count start filter batch) taken = taken
taken_unsent c i calls history ids n (put db bucket name id chunk pieces) taken = taken
taken_unsent c i calls history ids n (get db bucket id read) taken = taken

-- ---- the jobs of a run

module _ (history : List Kept) (fates : List Fate) (kept : AreKept 0 fates) (calls : List Call) (pended : List ℕ) (as_fates : AreAsFates history fates calls pended) (stands : Stands calls (steps_of history)) (alone : AreItsSteps history calls)
    (ruled : AreByRules history) (mild : (p : ℕ) (k : Kept) → slice_get history p ≡ Some k → IsMildCommand (fields k.command)) (legal : IsLegal (steps_of history)) (prompt : HoldsBackNone (steps_of history)) (own : NamesItsOwn calls)
    (awaited : Awaited) (wire : ℤ) (supply : Supply) (ts : List Task) (order : List ℕ) (notes : List Turned) (rs : List Outcome) (named : first_missing (length ts) order ≡ None) (abreast : length notes ≡ length order) (counted : length rs ≡ length ts)
    (started : StartedBy (sum_by (λ (n : Turned). n.started) notes) (Some []) (Some calls)) (sends : (j : ℕ) (t : Task) → slice_get ts j ≡ Some t → SendsOnly (MaySend (supply_of supply ts order j) (as_sent supply.ids ts order j t)) (course [] order notes) j calls)
    (names : (j : ℕ) → NamesNoOthers calls (course [] order notes) j) (caused : (j : ℕ) (t : Task) (r : Outcome) → slice_get ts j ≡ Some t → slice_get rs j ≡ Some r → OutcomeCaused awaited (course [] order notes) j calls wire (supply_of supply ts order j) (as_sent supply.ids ts order j t) r)
    (played : (j : ℕ) (t : Task) (r : Outcome) → slice_get ts j ≡ Some t → slice_get rs j ≡ Some r → IsPlayed (as_sent supply.ids ts order j t) (turns_done j order notes) (pends_last j order notes) r) where
  abbrev turns : Course
  turns = course [] order notes

  takes : (i : ℕ) (supply-i : Supply) (t : Task) (r : Outcome) → SendsOnly (MaySend supply-i t) turns i calls → OutcomeCaused awaited turns i calls wire supply-i t r → IsPlayed t (turns_done i order notes) (pends_last i order notes) r → JobTaken turns i calls (steps_of history) t
  takes i supply-i (follow on count start filter batch) r its why plays = λ small may.
      always (NoneRefused turns i calls (steps_of history)) r
      (follow_both (λ opened said token alive closed. FollowCaused awaited turns i count calls wire on start filter batch opened said.items token alive closed) (λ opened said token alive closed. FollowPlayed opened closed count (length said.items) alive (turns_done i order notes) (pends_last i order notes))
      (λ opened said token alive closed. NoneRefused turns i calls (steps_of history))
      (λ opened said token alive closed by comes.
      follow_taken history fates kept calls pended as_fates stands alone ruled mild legal prompt turns i on start filter batch small may own its
      (λ place call x there kills. run_kills (steps_of history) calls legal stands awaited wire supply ts order notes rs named abreast counted started sends caused played i place call x there kills)
      awaited count wire opened closed said.items token alive by comes) r why plays)
  takes i supply-i (insert ns docs) r its why plays = λ short. none_refused history fates kept calls pended as_fates stands supply-i turns i ns docs its (insert_sent awaited turns i calls wire ns docs r why) short
  takes i supply-i (put db bucket name id chunk pieces) r its why plays = λ may.
      let t : PutTask = put_of db bucket name id chunk pieces in
      let s = put_sent awaited turns i calls wire supply-i t r why in
      put_taken history fates kept calls pended as_fates stands alone ruled mild legal prompt (run_each MakesCommand sends_make history calls alone stands supply ts order notes named abreast started sends) own t may turns i
      (put_kinds calls t s.0 supply-i turns.begun (places_of turns i) (commands_at calls (places_of turns i)) s.1.upto s.1.moment s.1.removed (of_rise turns i) refl s.1.sends) (names i)
  takes i supply-i (get db bucket id read) r its why plays = λ may bytes whole.
      let g : GetTask = get_of db bucket id read in
      let s = get_stands awaited turns i calls wire g r why in
      get_taken history fates kept calls pended as_fates stands alone ruled mild legal prompt turns i g wire s.0 s.1.0 s.1.1 (owned calls order notes abreast started i) (whose calls order notes abreast started) names its may bytes whole

  takes_sent : (i : ℕ) (t : Task) (r : Outcome) → slice_get ts i ≡ Some t → slice_get rs i ≡ Some r → JobTaken turns i calls (steps_of history) (as_sent supply.ids ts order i t)
  takes_sent i t r ht hr = takes i (supply_of supply ts order i) (as_sent supply.ids ts order i t) r (sends i t ht) (caused i t r ht hr) (played i t r ht hr)

  -- What it refuses of no job of the run.
  pub run_takes : (i : ℕ) (t : Task) → slice_get ts i ≡ Some t → JobTaken turns i calls (steps_of history) t
  run_takes i t ht =
      let within = slice_get_within ts i t ht in
      let r = get_some rs i (omega (arith, within, counted)) in
      taken_unsent turns i calls (steps_of history) supply.ids (first_id ts order i) t (takes_sent i t r.0 ht r.1)

  -- A valid put ends well.
  puts : (i : ℕ) (supply-i : Supply) (t : Task) (r : Outcome) → OutcomeCaused awaited turns i calls wire supply-i t r → IsPlayed t (turns_done i order notes) (pends_last i order notes) r → PutsWell (own_excuses turns i calls t) turns i calls (steps_of history) t r
  puts i supply-i (follow on count start filter batch) r why plays = tt
  puts i supply-i (insert ns docs) r why plays = tt
  puts i supply-i (put db bucket name id chunk pieces) r why plays =
      let t : PutTask = put_of db bucket name id chunk pieces in
      let k : ℕ = turns_done i order notes in
      put_both (λ end. PutEnds awaited turns i calls wire supply-i t end) (λ end. PutPlayed end (length pieces) k (pends_last i order notes))
      (λ end. HasShortFiles t.at → IsValidPut t → SendFresh (positions_at calls (places_of turns i)) (steps_of history) → length pieces + 2 ≤ k → EndsWell (IsExcusedPut (IsHeard turns i calls) t) end)
      (λ end ends comes may valid fresh enough.
      put_here history fates kept calls pended as_fates stands alone ruled mild legal prompt (run_each MakesCommand sends_make history calls alone stands supply ts order notes named abreast started sends) own awaited turns i wire supply-i t may valid fresh end k (pends_last i order notes) ends comes enough)
      r why plays
  puts i supply-i (get db bucket id read) r why plays = tt

  -- and each job ends so in its history that ends well over a prompt link
  pub run_ends_in : (i : ℕ) (t : Task) (r : Outcome) → slice_get ts i ≡ Some t → slice_get rs i ≡ Some r → JobWell turns i calls (as_sent supply.ids ts order i t) r → JobWellIn turns i calls (steps_of history) (as_sent supply.ids ts order i t) r
  run_ends_in i t r ht hr well =
      job_ends_in history fates kept calls pended as_fates stands ruled mild legal prompt awaited wire turns i (supply_of supply ts order i) (as_sent supply.ids ts order i t) r (caused i t r ht hr) (played i t r ht hr) well (takes_sent i t r ht hr) (puts i (supply_of supply ts order i) (as_sent supply.ids ts order i t) r (caused i t r ht hr) (played i t r ht hr))

-- there is one task for each job
pub tasks_counted : (jobs : List Job) → length (tasks jobs) ≡ length jobs
tasks_counted [] = refl
tasks_counted (job ∷ jobs) = ap suc (tasks_counted jobs)
