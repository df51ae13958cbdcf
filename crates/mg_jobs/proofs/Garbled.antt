-- In a legal history each reply keeps its grammar, so no answer of a job says that one breaks it.
use Rattle.std.proofs.Common.{◌≡◌, ◌⊎◌, ℕ, zero, suc, ℤ, Bool, true, false, List, [], ◌∷◌, length, Option, Some, None, Result, Ok, Err, ◌∙◌, subst, inl, inr, arith}
use Rattle.std.specs.Prelude.{IfOk, slice_get}
use Rattle.mg_bson.specs.Tree.{Fields, Tree}
use Rattle.mg_server.specs.Calls.{NoneBroken, Past, RequestFails}
use Rattle.mg_link.specs.Exec.{IsSuccess}
use Rattle.mg_server.specs.History.{IsLegal, Step}
use Rattle.mg_link.specs.Link.{Awaited, LogTold}
use Rattle.mg_link.specs.Log.{Call}
use Rattle.mg_link.specs.Namespace.{Space, Target, target}
use Rattle.mg_server.specs.Standing.{Stands}
use Rattle.mg_link.specs.declared.error.Error.{Error}
use Rattle.mg_link.specs.declared.error.ErrorKind.TheVariants as kind
use Rattle.mg_server.proofs.Owners.{same_some}
use Rattle.mg_server.proofs.Watched.{IsWatched}
use Rattle.mg_ops.specs.Bodies.{insert_command}
use Rattle.mg_ops.specs.Failing.{CannotBeSent}
use Rattle.mg_ops.specs.InsertCauses.{InsertFails, ListsFor, cannot_encode, cannot_insert, command_fails, no_memory}
use Rattle.mg_ops.specs.declared.change_stream.WatchArgs.{WatchArgs}
use Rattle.mg_cursor.specs.Causes.{MoreFails, TellsNoCursor}
use Rattle.mg_cursor.specs.Client.{get_more}
use Rattle.mg_change.specs.Causes as causes
use Rattle.mg_change.specs.Causes.{CallFails, Called}
use Rattle.mg_change.specs.ClientOpenings.{first_aggregate}
use Rattle.mg_change.specs.ClientStreams.{ClientStream, is_read_again, resuming_in}
use Rattle.mg_change.specs.ClosingCauses.{last_kill}
use Rattle.mg_change.specs.OpeningCauses as openings
use Rattle.mg_change.specs.OpeningCauses.{OpeningFails}
use Rattle.mg_players.specs.Causes.{AllCaused, Answered, CloseCaused, Course, FollowCaused, InsertEnds, OpenCaused, OutcomeCaused, PutEnds, course, sent_at}
use Rattle.mg_players.specs.Drawing.{as_sent, supply_of}
use Rattle.mg_players.specs.Gets.{get_of}
use Rattle.mg_players.specs.Follows.{IsArgsFor, IsUnfinished, poll_of}
use Rattle.mg_players.specs.Progress.{AllPlayed, FollowPlayed, IsPlayed, pends_last, turns_done}
use Rattle.mg_players.specs.Puts.{PutTask, Supply, put_of}
use Rattle.mg_players.proofs.Batches.{breaks_not, tells_not}
use Rattle.mg_players.proofs.Drawing.{played_as_sent}
use Rattle.mg_players.proofs.GetSteps.{took}
use Rattle.mg_players.proofs.Knowing.{get_length}
use Rattle.mg_players.proofs.Prompting.{lawful_at}
use Rattle.mg_script.specs.Plan.{Begin, Task, follow, get, insert, put}
use Rattle.mg_script.specs.declared.outcome.Answer.{Answer}
use Rattle.mg_script.specs.declared.outcome.Answer.TheVariants as answers
use Rattle.mg_script.specs.declared.outcome.Ended.{Ended}
use Rattle.mg_script.specs.declared.outcome.Ended.TheVariants as ended
use Rattle.mg_script.specs.declared.outcome.Outcome.{Outcome}
use Rattle.mg_script.specs.declared.outcome.Outcome.TheVariants as outcome
use Rattle.mg_script.specs.declared.outcome.Played.{Played}
use Rattle.mg_turns.specs.declared.turned.Turned.{Turned}
use Rattle.mg_jobs.specs.Grammar.{AllNeverGarbled, NeverAnswers, NeverEnds, NeverGarbled, SaysGarbled}
use Rattle.mg_jobs.proofs.GetsRead.{get_reads}
use Rattle.mg_jobs.proofs.Identified.{IsHonest, StandsWell, called_stands, heard_more, honest_over, opened_well, replied_well, resumed_brings}
use Rattle.mg_jobs.proofs.KeptGrammar.{never_unlisted}
use Rattle.mg_jobs.proofs.PutsKept.{put_kept, put_unopened}
use Rattle.mg_jobs.proofs.Unread.{as_said, piece_kept, plainly_said, request_kept, size_kept}
use Rattle.mg_jobs.proofs.WriteAsks.{inserting_counts}

-- ---- a job

module _ (history : List Step) (calls : List Call) (wire : ℤ) (legal : IsLegal history) (stands : Stands calls history) where
  abbrev watched : ℤ → Type 0
  watched = IsWatched history

  honest : (places : List ℕ) → IsHonest watched (sent_at places calls wire)
  honest places = honest_over history calls legal stands places wire

  module _ (are_its : WatchArgs → Type 0) where
    -- ---- a call of a follow

    module _ (places : List ℕ) (at : ClientStream) (well : StandsWell watched are_its at) where
      abbrev past : Past
      past = sent_at places calls wire

      more_kept : (e : Error) → MoreFails past at.cursor e → SaysGarbled e.kind → ⊥
      more_kept e f garbled =
          request_kept past history legal stands (get_more at.cursor f.session) false TellsNoCursor e
          (λ bytes h success breaks. let b = (heard_more watched are_its past (honest places) at well bytes (record { session = f.session; heard = h; success = success })).0 in tells_not bytes b.batch e b.there breaks) f.fails garbled

      call_kept : (after : ClientStream) (e : Error) → CallFails past None at after e → SaysGarbled e.kind → ⊥
      call_kept after e (causes.may_lose room owes may) garbled = as_said e kind.OutOfMemory room garbled
      call_kept after e (causes.no_memory room stays) garbled = as_said e kind.OutOfMemory room garbled
      call_kept after e (causes.not_resumed owes why fails) garbled =
          request_kept past history legal stands (resuming_in at.aggregate wire fails.session) (is_read_again fails.session) TellsNoCursor e
          (λ bytes h success breaks. let b = (resumed_brings watched are_its past (honest places) at well fails.session bytes h success).0 in tells_not bytes b.batch e b.there breaks) fails.fails garbled
      call_kept after e (causes.batch_broken bytes owes r breaks) garbled = let b = (replied_well watched are_its past (honest places) at well true bytes after.cursor r).0 in breaks_not bytes b.batch e b.there breaks
      call_kept after e (causes.cannot_resume owes why now by) garbled = size_kept at.aggregate.args.options.batch_size (resuming_in at.aggregate wire now) e by.1 garbled
      call_kept after e (causes.refused_more may fails final is empty settled) garbled = more_kept e fails garbled
      call_kept after e (causes.cannot_ask may by is empty settled) garbled = size_kept at.cursor.manner.size (get_more at.cursor None) e by garbled
      call_kept after e (causes.no_id event next lacks is settled) garbled = plainly_said e kind.MissingResumeToken is garbled

      answer_kept : (answer : Answer) (after : ClientStream) → Called past None at after (poll_of answer) → (e : Error) → answer ≡ answers.Failed e → SaysGarbled e.kind → ⊥
      answer_kept (answers.Event event) after called e is garbled = absurd cc
      answer_kept answers.Nothing after called e is garbled = absurd cc
      answer_kept (answers.Failed f) after called e is garbled = let same : e ≡ f = cc in call_kept after f called.why (subst (λ (x : Error). SaysGarbled x.kind) same garbled)

    answers_kept : (at : ClientStream) (owns : List (List ℕ)) (said : List Answer) (last : ClientStream) → Answered calls wire at owns said last → StandsWell watched are_its at → (k : ℕ) (e : Error) → slice_get said k ≡ Some (answers.Failed e) → SaysGarbled e.kind → ⊥
    answers_kept at [] [] last is well k e there garbled = absurd cc
    answers_kept at (places ∷ owns) (answer ∷ said) last answered well zero e there garbled = answer_kept places at well answer answered.0 answered.1 e (same_some answer (answers.Failed e) there) garbled
    answers_kept at (places ∷ owns) (answer ∷ said) last answered well (suc k) e there garbled =
        answers_kept answered.0 owns said last answered.2 (called_stands watched are_its (sent_at places calls wire) (honest places) at well answer answered.0 answered.1).0 k e there garbled
    answers_kept at [] (answer ∷ said) last answered well k e there garbled = absurd answered
    answers_kept at (places ∷ owns) [] last answered well k e there garbled = absurd answered

  -- ---- its opening and its closing

  opening_kept : (places : List ℕ) (args : WatchArgs) (e : Error) → OpeningFails (sent_at places calls wire) None args e → SaysGarbled e.kind → ⊥
  opening_kept places args e (openings.out_of_memory full) garbled = plainly_said e kind.OutOfMemory full garbled
  opening_kept places args e (openings.request sent fails) garbled =
      request_kept (sent_at places calls wire) history legal stands (resuming_in (first_aggregate args) wire sent) (is_read_again sent) TellsNoCursor e
      (λ bytes h success breaks. let b = ((honest places).watch (target args.target) args.pipeline.items args.options sent bytes h success).0 in tells_not bytes b.batch e b.there breaks) fails garbled
  opening_kept places args e (openings.not_built by) garbled = size_kept args.options.batch_size (resuming_in (first_aggregate args) wire None) e by garbled

  kill_kept : (places : List ℕ) (last : ClientStream) (e : Error) → (e.kind ≡ kind.OutOfMemory) ⊎ (RequestFails (sent_at places calls wire) (last_kill last) false NoneBroken e ⊎ CannotBeSent (last_kill last) e) → SaysGarbled e.kind → ⊥
  kill_kept places last e (inl room) garbled = as_said e kind.OutOfMemory room garbled
  kill_kept places last e (inr (inl fails)) garbled = request_kept (sent_at places calls wire) history legal stands (last_kill last) false NoneBroken e (λ bytes h success none. none) fails garbled
  kill_kept places last e (inr (inr by)) garbled = plainly_said e kind.BsonSerialization by.0 garbled

  -- ---- an insert

  insert_kept : (places : List ℕ) (at : Space) (sent : List Fields) (e : Error) → InsertFails (sent_at places calls wire) at sent e → SaysGarbled e.kind → ⊥
  insert_kept places at sent e (no_memory room) garbled = as_said e kind.OutOfMemory room garbled
  insert_kept places at sent e (command_fails piece part fails) garbled =
      let past = sent_at places calls wire in
      request_kept past history legal stands (insert_command at piece) false (ListsFor piece) e
      (λ bytes h success lists.
      let t = took past history stands (insert_command at piece) bytes h in
      let l = lawful_at history t.position t.step legal t.there in
      never_unlisted t.step l (subst IsSuccess t.reply_is success) (inserting_counts t.step.command at piece t.command_is) (length piece) e.kind (subst (λ (b : List ℕ). ListsFor piece b e) t.reply_is lists).1 garbled) fails garbled
  insert_kept places at sent e (cannot_encode d part by) garbled = plainly_said e kind.BsonSerialization by.0 garbled
  insert_kept places at sent e (cannot_insert piece part by) garbled = piece_kept piece (insert_command at piece) e by garbled

-- ---- outcomes

module _ (awaited : Awaited) (c : Course) (i : ℕ) (calls : List Call) (wire : ℤ) where
  module _ (on : Target) (start : Begin) (filter : Option Fields) (batch : Option ℕ) where
    closes : {A : Type 0} (count answered : ℕ) (last : ClientStream) (now : List ℕ) (closed : Ended A) → CloseCaused awaited c i count answered calls wire last now closed → NeverEnds calls SaysGarbled closed
    closes count answered last now ended.Unfinished by = tt
    closes count answered last now (ended.Gave x) by = tt
    closes count answered last now (ended.Failed e) by = λ history legal stands garbled. kill_kept history calls wire legal stands now last e by.by.why garbled

    opened_says : {A : Type 0} (count : ℕ) (said : List Answer) (token : Option Tree) (alive : Bool) (closed : Ended A) → OpenCaused awaited c i count calls wire on start filter batch said token alive closed → NeverAnswers calls SaysGarbled said
    opened_says count said token alive closed o k e there history legal stands garbled =
        let a = o.answers in
        let its : WatchArgs → Type 0 = IsArgsFor on start filter batch in
        let well = opened_well (IsWatched history) its (sent_at a.places calls wire) (honest history calls wire legal stands a.places) o.args o.args_are a.first a.opened in
        answers_kept history calls wire legal stands its a.first a.owns said o.last a.answered well k e there garbled

    none_said : (said : List Answer) → length said ≡ 0 → NeverAnswers calls SaysGarbled said
    none_said [] none k e there history legal stands garbled = absurd cc
    none_said (answer ∷ said) none k e there history legal stands garbled = absurd (omega (arith, none))

    unclosed : {A : Type 0} (closed : Ended A) → IsUnfinished closed → NeverEnds calls SaysGarbled closed
    unclosed ended.Unfinished is = tt
    unclosed (ended.Gave x) is = absurd is
    unclosed (ended.Failed e) is = absurd is

    follow_kept : {A : Type 0} (count k : ℕ) (pended : Bool) (opened : Ended A) (said : List Answer) (token : Option Tree) (alive : Bool) (closed : Ended A) → FollowCaused awaited c i count calls wire on start filter batch opened said token alive closed → FollowPlayed opened closed count (length said) alive k pended
        → NeverEnds calls SaysGarbled opened × NeverAnswers calls SaysGarbled said × NeverEnds calls SaysGarbled closed
    follow_kept count k pended ended.Unfinished said token alive closed caused played = (tt, none_said said played.1, unclosed closed played.3)
    follow_kept count k pended (ended.Gave x) said token alive closed caused played = (tt, opened_says count said token alive closed caused, closes count (length said) caused.last caused.now closed caused.close)
    follow_kept count k pended (ended.Failed e) said token alive closed caused played = (
      (λ history legal stands garbled. elim caused [
        | inl none ↦ as_said e kind.OutOfMemory none.0 garbled
        | inr f ↦ opening_kept history calls wire legal stands f.places f.args e f.fails garbled
      ]),
      none_said said played.1,
      unclosed closed played.3,
    )

  inserted_kept : (at : Space) (sent : List Fields) (end : Ended ℕ) → InsertEnds awaited c i calls wire at sent end → NeverEnds calls SaysGarbled end
  inserted_kept at sent ended.Unfinished ends = tt
  inserted_kept at sent (ended.Gave n) ends = tt
  inserted_kept at sent (ended.Failed e) ends = λ history legal stands garbled. insert_kept history calls wire legal stands ends.places at sent e ends.by garbled

  stored_kept : (supply : Supply) (t : PutTask) (end : Ended ℕ) → PutEnds awaited c i calls wire supply t end → NeverEnds calls SaysGarbled end
  stored_kept supply t ended.Unfinished ends = tt
  stored_kept supply t (ended.Gave n) ends = tt
  stored_kept supply t (ended.Failed e) ends = λ history legal stands garbled. elim ends.by [
    | inl cannot ↦ put_unopened t e cannot.0 garbled
    | inr failed ↦ put_kept (sent_at ends.places calls wire) history legal stands t e failed.1 garbled
  ]

  outcome_kept : (supply : Supply) (t : Task) (k : ℕ) (pended : Bool) (r : Outcome) → OutcomeCaused awaited c i calls wire supply t r → IsPlayed t k pended r → NeverGarbled calls r
  outcome_kept supply (follow on count start filter batch) k pended (outcome.Follow opened said token alive closed) caused played = follow_kept on start filter batch count k pended opened said.items token alive closed caused played
  outcome_kept supply (follow on count start filter batch) k pended (outcome.Insert end) caused played = absurd caused
  outcome_kept supply (follow on count start filter batch) k pended (outcome.Put end) caused played = absurd caused
  outcome_kept supply (follow on count start filter batch) k pended (outcome.Get bytes end) caused played = absurd caused
  outcome_kept supply (insert ns docs) k pended (outcome.Insert end) caused played = inserted_kept ns docs end caused
  outcome_kept supply (insert ns docs) k pended (outcome.Follow opened said token alive closed) caused played = absurd caused
  outcome_kept supply (insert ns docs) k pended (outcome.Put end) caused played = absurd caused
  outcome_kept supply (insert ns docs) k pended (outcome.Get bytes end) caused played = absurd caused
  outcome_kept supply (put db bucket name id chunk pieces) k pended (outcome.Put end) caused played = stored_kept supply (put_of db bucket name id chunk pieces) end caused
  outcome_kept supply (put db bucket name id chunk pieces) k pended (outcome.Follow opened said token alive closed) caused played = absurd caused
  outcome_kept supply (put db bucket name id chunk pieces) k pended (outcome.Insert end) caused played = absurd caused
  outcome_kept supply (put db bucket name id chunk pieces) k pended (outcome.Get bytes end) caused played = absurd caused
  outcome_kept supply (get db bucket id read) k pended (outcome.Get bytes end) caused played = get_reads c i calls wire (get_of db bucket id read) bytes.items awaited end caused
  outcome_kept supply (get db bucket id read) k pended (outcome.Follow opened said token alive closed) caused played = absurd caused
  outcome_kept supply (get db bucket id read) k pended (outcome.Insert end) caused played = absurd caused
  outcome_kept supply (get db bucket id read) k pended (outcome.Put end) caused played = absurd caused

-- ---- a run

module _ (supply : Supply) (awaited : Awaited) (log log' : LogTold) (wire : ℤ) (tasks : List Task) (order : List ℕ) where
  all_kept : (notes : List Turned) (outcomes : List Outcome) → length outcomes ≡ length tasks → AllCaused supply awaited log log' wire tasks order notes outcomes → AllPlayed tasks order notes outcomes → AllNeverGarbled log log' outcomes
  all_kept notes outcomes count caused played calls told =
      let by = caused calls told in (
        by.0,
        by.1,
        λ i r hr.
            let t = get_length tasks outcomes count i r hr in
            let k : ℕ = turns_done i order notes in
            let last : Bool = pends_last i order notes in
            outcome_kept awaited (course calls order notes) i by.0 wire (supply_of supply tasks order i) (as_sent supply.ids tasks order i t.0) k last r (by.2 i t.0 r t.1 hr) (played_as_sent supply.ids tasks order i t.0 k last r (played i t.0 r t.1 hr)),
      )

  -- the same of a run, unless memory ran out
  pub kept_so : (result : Result Played Error) (n : ℕ) → n ≡ length tasks → IfOk result (λ p. length p.outcomes.items ≡ n) → IfOk result (λ p. AllCaused supply awaited log log' wire tasks order p.turns.items p.outcomes.items) → IfOk result (λ p. AllPlayed tasks order p.turns.items p.outcomes.items)
      → IfOk result (λ p. AllNeverGarbled log log' p.outcomes.items)
  kept_so (Ok p) n jobs count caused played = all_kept p.turns.items p.outcomes.items (count ∙ jobs) caused played
  kept_so (Err e) n jobs count caused played = tt
