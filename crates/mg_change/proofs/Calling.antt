-- What a call of a stream sends, step by step.
use Rattle.std.proofs.Common.{◌≡◌, ◌-◌, ◌&&◌, ◌++◌, ℕ, ℤ, Bool, true, false, List, [], ◌∷◌, length, Option, Some, None, refl, sym, ap, ◌∙◌, subst, inl, inr, arith, append-nil, length-append}
use Rattle.std.specs.Prelude.{slice_get}
use Rattle.mg_bson.specs.Tree.{Fields}
use Rattle.mg_bson.specs.Raw.{fields}
use Rattle.mg_server.specs.Calls.{Keeps}
use Rattle.mg_link.specs.Exec.{Attempt, AttemptGives, Begins, GoesOn, Once, Runs, Sending, Stage, Tries, Twice, answered, first, holding, is_repeated, not_sent, second, ticket_at, unsent, waits}
use Rattle.mg_link.specs.Link.{Awaited, LogTold}
use Rattle.mg_link.specs.Log.{Call, Sight, see, waiting}
use Rattle.mg_link.specs.Retry.{is_retried}
use Rattle.mg_link.specs.Session.{Session}
use Rattle.mg_link.specs.declared.action.Step.{Step}
use Rattle.mg_link.specs.declared.action.Step.TheVariants as step
use Rattle.mg_exec.proofs.Execs.{runs_of}
use Rattle.mg_link.proofs.Outs.{length-see}
use Rattle.mg_link.proofs.Places.{get_front, get_seam}
use Rattle.mg_server.proofs.Calls.{keeps_longer, same_keeps, see_keeps}
use Rattle.mg_server.proofs.Owners.{same_some, see_here}
use Rattle.mg_cursor.specs.Client.{ClientCursor, asks, at_rest, get_more, holds, kill, rests}
use Rattle.mg_cursor.specs.Client as cursors
use Rattle.mg_cursor.specs.Closing.{closing_ticket_by}
use Rattle.mg_change.specs.Causes.{Resumed, Resumes}
use Rattle.mg_ops.specs.declared.change_stream.WatchArgs.{WatchArgs}
use Rattle.mg_change.specs.ClientOpenings.{ClientOpening, HearsOpening, IsSoundOpening, OpensStream, ReadsOpening, RunsOpening, SendsSoundly, first_aggregate, sending_ticket}
use Rattle.mg_change.specs.ClientOpenings as openings
use Rattle.mg_change.specs.ClientStreams.{ClientStream, Doing, IsAggregate, IsIdle, follows, is_read_again, kills, owes, renewed, resumes, resuming_in, ticket_by}
use Rattle.mg_cursor.specs.Closing.{IsNotAsking}
use Rattle.mg_change.proofs.Growing.{resumed_grows, resumes_grows}
use Rattle.mg_change.specs.Calling.{AggregatesAt, AsksFar, CallSends, IsCommandAt, IsRequestAt, IsRetriedAt, KillingFar, KillingsAt, MoresAt, OpensAt, OpensFar, RequestFar, SentBy, nowhere, once, twice}
use Rattle.mg_change.specs.Calling.{places_from, sent_at, sent_since}
use Rattle.mg_change.proofs.Grown.{grows_later}
use Rattle.mg_change.proofs.Grown.{since_none, since_on}

-- ---- requests, by a later log

module _ (calls calls' : List Call) (keeps : Keeps calls calls') where
  pub command_later : (command : Fields) (place : ℕ) → IsCommandAt calls command place → IsCommandAt calls' command place
  command_later command place h = let k = keeps place h.call h.there in record { call = k.0; there = k.1; command_is = ap fields k.2 ∙ h.command_is }

  retried_later : (place : ℕ) → IsRetriedAt calls place → IsRetriedAt calls' place
  retried_later place h =
      let k = keeps place h.call h.there in
      let answer : h.call.seen ≡ waiting → ⊥ = λ e. let bad : is_retried waiting ≡ true = sym (ap is_retried e) ∙ h.passes in cc in
      record { call = k.0; there = k.1; passes = ap (λ (c : Call). is_retried c.seen) (k.3 answer) ∙ h.passes }

  pub request_later : (command : Fields) (repeats : Bool) (places : List ℕ) → IsRequestAt calls command repeats places → IsRequestAt calls' command repeats places
  request_later command repeats places (nowhere none) = nowhere none
  request_later command repeats places (once place is there) = once place is (command_later command place there)
  request_later command repeats places (twice place later is may there lost again) = twice place later is may (command_later command place there) (retried_later place lost) (command_later command later again)

  pub far_later : (old new : Awaited) (command : Fields) (repeats : Bool) (stage : Stage) (places : List ℕ) → ((n : ℕ) → ticket_at stage ≡ Some n → new n ≡ old n) → RequestFar old calls command repeats stage places → RequestFar new calls' command repeats stage places
  far_later old new command repeats unsent places same far = far
  far_later old new command repeats (first ticket) places same far = (far.0, far.1, command_later command far.0 far.2, same ticket refl ∙ far.3)
  far_later old new command repeats (second ticket) places same far = (far.0, far.1, far.2, far.3, command_later command far.0 far.4, retried_later far.0 far.5, command_later command far.1 far.6)

-- of an opening
pub opens_far_later : (calls calls' : List Call) (keeps : Keeps calls calls') (wire : ℤ) (old new : Awaited) (args : WatchArgs) (o : Option Sending) (places : List ℕ) → ((n : ℕ) → sending_ticket o ≡ Some n → new n ≡ old n) → OpensFar old calls wire args o places → OpensFar new calls' wire args o places
opens_far_later calls calls' keeps wire old new args None places same far = far
opens_far_later calls calls' keeps wire old new args (Some sending) places same far = far_later calls calls' keeps old new (resuming_in (first_aggregate args) wire None) true sending.stage places same far

pub far_request : (awaited : Awaited) (calls : List Call) (command : Fields) (repeats : Bool) (stage : Stage) (places : List ℕ) → RequestFar awaited calls command repeats stage places → IsRequestAt calls command repeats places
far_request awaited calls command repeats unsent places far = nowhere far
far_request awaited calls command repeats (first ticket) places far = once far.0 far.1 far.2
far_request awaited calls command repeats (second ticket) places far = twice far.0 far.1 far.2 far.3 far.4 far.5 far.6

pub opens_any : (awaited : Awaited) (calls : List Call) (wire : ℤ) (args : WatchArgs) (o : Option Sending) (places : List ℕ) → OpensFar awaited calls wire args o places → OpensAt calls wire args places
opens_any awaited calls wire args None places far = nowhere far
opens_any awaited calls wire args (Some sending) places far = far_request awaited calls (resuming_in (first_aggregate args) wire None) true sending.stage places far

-- ---- one attempt

-- what stands at the one place saw this
record SawOne (calls : List Call) (command : Fields) (seen : Sight) (places : List ℕ) : Type 0 where
  place : ℕ
  only : places ≡ place ∷ []
  call : Call
  there : slice_get calls place ≡ Some call
  command_is : fields call.command ≡ command
  has_seen : call.seen ≡ seen

abbrev SawAt : List Call → Fields → Bool → Sight → Stage → List ℕ → Type 0
SawAt calls command repeats seen unsent places = SawOne calls command seen places
SawAt calls command repeats seen (first ticket) places = SawOne calls command seen places
SawAt calls command repeats seen (second ticket) places = IsRequestAt calls command repeats places

abbrev NoneAt : Stage → List ℕ → Type 0
NoneAt unsent places = places ≡ []
NoneAt (first ticket) places = ⊥
NoneAt (second ticket) places = ⊥

abbrev AttemptCame : Awaited → List Call → Fields → Bool → Stage → List ℕ → Attempt → Type 0
AttemptCame awaited calls command repeats stage places not_sent = NoneAt stage places
AttemptCame awaited calls command repeats stage places (waits ticket) = RequestFar awaited calls command repeats (holding stage ticket) places
AttemptCame awaited calls command repeats stage places (answered seen) = SawAt calls command repeats seen stage places

record Attempted (new : Awaited) (calls : List Call) (log' : LogTold) (command : Fields) (repeats : Bool) (stage : Stage) (places : List ℕ) (attempt : Attempt) : Type 0 where
  calls' : List Call
  told : log' ≡ Some calls'
  keeps : Keeps calls calls'
  came : AttemptCame new calls' command repeats stage (sent_since places (length calls) (length calls')) attempt

-- one call more
one_more : (calls : List Call) (call : Call) → sent_since [] (length calls) (length (calls ++ call ∷ [])) ≡ length calls ∷ []
one_more calls call =
    let joined = length-append calls (call ∷ []) in
    let count : length (calls ++ call ∷ []) - length calls ≡ 1 = omega (arith, joined) in
    ap (λ (k : ℕ). places_from (length calls) k) count

none_more : (places : List ℕ) (k : ℕ) (seen : Sight) (calls : List Call) → sent_since places (length calls) (length (see k seen calls)) ≡ places
none_more places k seen calls = ap (λ (n : ℕ). sent_since places (length calls) n) (length-see k seen calls) ∙ since_none places (length calls)

module _ (old new : Awaited) (log log' : LogTold) (calls : List Call) (told : log ≡ Some calls) (repeats : Bool) where
  pushed_keeps : (call : Call) → Keeps calls (calls ++ call ∷ [])
  pushed_keeps call place c there = (c, get_front calls (call ∷ []) place c there, refl, λ saw. refl)

  begun : (command : List ℕ) (attempt : Attempt) → Begins old new log log' command attempt → Attempted new calls log' (fields command) repeats unsent [] attempt
  begun command not_sent b = record { calls' = calls; told = b.log_same ∙ told; keeps = same_keeps calls; came = since_none [] (length calls) }
  begun command (waits ticket) b =
      let add = b.adds calls told in
      let call : Call = record { command = command; position = add.0; seen = waiting } in
      record { calls' = calls ++ call ∷ []; told = add.1; keeps = pushed_keeps call; came = (length calls, one_more calls call, record { call = call; there = get_seam calls [] call; command_is = refl }, b.place calls told) }
  begun command (answered seen) b =
      let add = b.adds calls told in
      let call : Call = record { command = command; position = add.0; seen = seen } in
      record {
        calls' = calls ++ call ∷ [];
        told = add.1;
        keeps = pushed_keeps call;
        came = record { place = length calls; only = one_more calls call; call = call; there = get_seam calls [] call; command_is = refl; has_seen = refl };
      }

  -- the place of the call that was waited for
  heeds_first : (command : Fields) (places : List ℕ) (ticket : ℕ) (attempt : Attempt) → RequestFar old calls command repeats (first ticket) places → GoesOn old new log log' ticket attempt → Attempted new calls log' command repeats (first ticket) places attempt
  heeds_first command places ticket not_sent far g = absurd g
  heeds_first command places ticket (waits given) far g =
      record { calls' = calls; told = g.log_same ∙ told; keeps = same_keeps calls; came = (far.0, since_none places (length calls) ∙ far.1, far.2, g.rest given ∙ ap old g.same ∙ far.3) }
  heeds_first command places ticket (answered seen) far g =
      let s = g.sees calls told in
      let at : s.0 ≡ far.0 = same_some s.0 far.0 (sym s.2 ∙ far.3) in
      let found : slice_get calls far.0 ≡ Some s.1 = sym (ap (λ (k : ℕ). slice_get calls k) at) ∙ s.3 in
      let same : s.1 ≡ far.2.call = same_some s.1 far.2.call (sym found ∙ far.2.there) in
      record {
        calls' = see s.0 seen calls;
        told = s.5;
        keeps = see_keeps s.0 seen calls s.1 s.3 s.4;
        came = record {
          place = far.0;
          only = none_more places s.0 seen calls ∙ far.1;
          call = record s.1 { seen = seen };
          there = subst (λ (k : ℕ). slice_get (see s.0 seen calls) k ≡ Some (record s.1 { seen = seen })) at (see_here s.0 seen calls s.1 s.3);
          command_is = ap (λ (c : Call). fields c.command) same ∙ far.2.command_is;
          has_seen = refl;
        };
      }

  heeds_second : (command : Fields) (places : List ℕ) (ticket : ℕ) (attempt : Attempt) → RequestFar old calls command repeats (second ticket) places → GoesOn old new log log' ticket attempt → Attempted new calls log' command repeats (second ticket) places attempt
  heeds_second command places ticket not_sent far g = absurd g
  heeds_second command places ticket (waits given) far g =
      record { calls' = calls; told = g.log_same ∙ told; keeps = same_keeps calls; came = (far.0, far.1, since_none places (length calls) ∙ far.2, far.3, far.4, far.5, far.6) }
  heeds_second command places ticket (answered seen) far g =
      let s = g.sees calls told in
      let keeps = see_keeps s.0 seen calls s.1 s.3 s.4 in
      record {
        calls' = see s.0 seen calls;
        told = s.5;
        keeps = keeps;
        came = subst (IsRequestAt (see s.0 seen calls) command repeats) (sym (none_more places s.0 seen calls))
            (request_later calls (see s.0 seen calls) keeps command repeats places (far_request old calls command repeats (second ticket) places far));
      }

  attempted : (command : List ℕ) (stage : Stage) (places : List ℕ) (attempt : Attempt) → RequestFar old calls (fields command) repeats stage places → Tries old new log log' command stage attempt → Attempted new calls log' (fields command) repeats stage places attempt
  attempted command unsent places attempt far t = subst (λ (l : List ℕ). Attempted new calls log' (fields command) repeats unsent l attempt) (sym far) (begun command attempt t)
  attempted command (first ticket) places attempt far t = heeds_first (fields command) places ticket attempt far t
  attempted command (second ticket) places attempt far t = heeds_second (fields command) places ticket attempt far t

-- what two attempts sent stands behind what was sent before
since_both : (places : List ℕ) (calls mid calls' : List Call) → Keeps calls mid → Keeps mid calls' → sent_since (sent_since places (length calls) (length mid)) (length mid) (length calls') ≡ sent_since places (length calls) (length calls')
since_both places calls mid calls' before behind = since_on places (length calls) (length mid) (length calls') (keeps_longer calls mid before) (keeps_longer mid calls' behind)

-- whatever came of it
came_any : (awaited : Awaited) (calls : List Call) (command : Fields) (repeats : Bool) (stage : Stage) (places : List ℕ) (attempt : Attempt) → AttemptCame awaited calls command repeats stage places attempt → IsRequestAt calls command repeats places
came_any awaited calls command repeats unsent places not_sent came = nowhere came
came_any awaited calls command repeats (first ticket) places not_sent came = absurd came
came_any awaited calls command repeats (second ticket) places not_sent came = absurd came
came_any awaited calls command repeats stage places (waits ticket) came = far_request awaited calls command repeats (holding stage ticket) places came
came_any awaited calls command repeats unsent places (answered seen) came = once came.place came.only (record { call = came.call; there = came.there; command_is = came.command_is })
came_any awaited calls command repeats (first ticket) places (answered seen) came = once came.place came.only (record { call = came.call; there = came.there; command_is = came.command_is })
came_any awaited calls command repeats (second ticket) places (answered seen) came = came

-- ---- a poll of a request

abbrev pub RequestCame : Awaited → List Call → Fields → Bool → List ℕ → Step Sending (List ℕ) → Type 0
RequestCame awaited calls command repeats places (step.Pending s) = RequestFar awaited calls command repeats s.stage places
RequestCame awaited calls command repeats places (step.Done bytes) = IsRequestAt calls command repeats places
RequestCame awaited calls command repeats places (step.Failed e) = IsRequestAt calls command repeats places

record Requested (new : Awaited) (calls : List Call) (log' : LogTold) (command : Fields) (repeats : Bool) (places : List ℕ) (result : Step Sending (List ℕ)) : Type 0 where
  calls' : List Call
  told : log' ≡ Some calls'
  came : RequestCame new calls' command repeats (sent_since places (length calls) (length calls')) result

by_gives : (awaited : Awaited) (calls : List Call) (command : Fields) (repeats : Bool) (places : List ℕ) (wire : ℤ) (hold : ℕ → Sending) (attempt : Attempt) (result : Step Sending (List ℕ))
    → ((ticket : ℕ) → attempt ≡ waits ticket → RequestFar awaited calls command repeats (hold ticket).stage places) → IsRequestAt calls command repeats places → AttemptGives attempt wire hold result → RequestCame awaited calls command repeats places result
by_gives awaited calls command repeats places wire hold attempt (step.Pending s) far any g = subst (λ (x : Sending). RequestFar awaited calls command repeats x.stage places) (sym g.2) (far g.0 g.1)
by_gives awaited calls command repeats places wire hold attempt (step.Done bytes) far any g = any
by_gives awaited calls command repeats places wire hold attempt (step.Failed e) far any g = any

-- a first attempt behind which the command is sent once more
record Repeated (calls : List Call) (command : Fields) (retries : Bool) (places : List ℕ) : Type 0 where
  may : retries ≡ true
  place : ℕ
  only : places ≡ place ∷ []
  there : IsCommandAt calls command place
  lost : IsRetriedAt calls place

both_true : (a b : Bool) → (a && b) ≡ true → (a ≡ true) × (b ≡ true)
both_true true b h = (refl, h)
both_true false b h = absurd cc

saw_repeated : (calls : List Call) (command : Fields) (retries : Bool) (seen : Sight) (places : List ℕ) → (retries && is_retried seen) ≡ true → SawOne calls command seen places → Repeated calls command retries places
saw_repeated calls command retries seen places h one =
    let both = both_true retries (is_retried seen) h in
    record { may = both.0; place = one.place; only = one.only; there = record { call = one.call; there = one.there; command_is = one.command_is }; lost = record { call = one.call; there = one.there; passes = ap is_retried one.has_seen ∙ both.1 } }

never_false : {A : Type 0} (retries : Bool) → (retries && false) ≡ true → A
never_false retries h = let both = both_true retries false h in let bad : false ≡ true = both.1 in absurd cc

repeated_by : (awaited : Awaited) (calls : List Call) (command : Fields) (retries : Bool) (stage : Stage) (places : List ℕ) (attempt : Attempt) → is_repeated retries stage attempt ≡ true → AttemptCame awaited calls command retries stage places attempt → Repeated calls command retries places
repeated_by awaited calls command retries unsent places not_sent h came = never_false retries h
repeated_by awaited calls command retries unsent places (waits ticket) h came = never_false retries h
repeated_by awaited calls command retries unsent places (answered seen) h came = saw_repeated calls command retries seen places h came
repeated_by awaited calls command retries (first ticket) places not_sent h came = never_false retries h
repeated_by awaited calls command retries (first ticket) places (waits given) h came = never_false retries h
repeated_by awaited calls command retries (first ticket) places (answered seen) h came = saw_repeated calls command retries seen places h came
repeated_by awaited calls command retries (second ticket) places attempt h came = absurd cc

-- the second attempt, at these places behind the first
module _ (awaited : Awaited) (calls : List Call) (command : Fields) (repeats : Bool) (place : ℕ) (may : repeats ≡ true) (there : IsCommandAt calls command place) (lost : IsRetriedAt calls place) where
  again_request : (places : List ℕ) (attempt : Attempt) → AttemptCame awaited calls command repeats unsent places attempt → IsRequestAt calls command repeats (place ∷ places)
  again_request places not_sent came = once place (ap (λ (l : List ℕ). place ∷ l) came) there
  again_request places (waits ticket) came = twice place came.0 (ap (λ (l : List ℕ). place ∷ l) came.1) may there lost came.2
  again_request places (answered seen) came = twice place came.place (ap (λ (l : List ℕ). place ∷ l) came.only) may there lost (record { call = came.call; there = came.there; command_is = came.command_is })

  again_far : (places : List ℕ) (ticket : ℕ) → AttemptCame awaited calls command repeats unsent places (waits ticket) → RequestFar awaited calls command repeats (second ticket) (place ∷ places)
  again_far places ticket came = (place, came.0, ap (λ (l : List ℕ). place ∷ l) came.1, may, there, lost, came.2)

module _ (old new : Awaited) (log log' : LogTold) (wire : ℤ) (s : Sending) (result : Step Sending (List ℕ)) (calls : List Call) (told : log ≡ Some calls) (places : List ℕ) (far : RequestFar old calls (fields s.command) s.retries s.stage places) where
  once_sent : Once old new log log' wire s result → Requested new calls log' (fields s.command) s.retries places result
  once_sent h =
      let t = attempted old new log log' calls told s.retries s.command s.stage places h.attempt far h.tries in
      let own : List ℕ = sent_since places (length calls) (length t.calls') in
      record {
        calls' = t.calls';
        told = t.told;
        came = by_gives new t.calls' (fields s.command) s.retries own wire (λ ticket. record s { stage = holding s.stage ticket }) h.attempt result
            (λ ticket is. subst (λ (a : Attempt). AttemptCame new t.calls' (fields s.command) s.retries s.stage own a) is t.came)
            (came_any new t.calls' (fields s.command) s.retries s.stage own h.attempt t.came) h.gives;
      }

  twice_sent : Twice old new log log' wire s result → Requested new calls log' (fields s.command) s.retries places result
  twice_sent h =
      let t = attempted old h.between log h.log_between calls told s.retries s.command s.stage places h.attempt far h.tries in
      let mid : List ℕ = sent_since places (length calls) (length t.calls') in
      let r = repeated_by h.between t.calls' (fields s.command) s.retries s.stage mid h.attempt h.repeated t.came in
      let u = begun h.between new h.log_between log' t.calls' t.told s.retries s.command h.again h.begins in
      let more : List ℕ = sent_since [] (length t.calls') (length u.calls') in
      let there = command_later t.calls' u.calls' u.keeps (fields s.command) r.place r.there in
      let lost = retried_later t.calls' u.calls' u.keeps r.place r.lost in
      let is : sent_since places (length calls) (length u.calls') ≡ r.place ∷ more = sym (since_both places calls t.calls' u.calls' t.keeps u.keeps) ∙ ap (λ (l : List ℕ). sent_since l (length t.calls') (length u.calls')) r.only in
      record {
        calls' = u.calls';
        told = u.told;
        came = subst (λ (l : List ℕ). RequestCame new u.calls' (fields s.command) s.retries l result) (sym is)
            (by_gives new u.calls' (fields s.command) s.retries (r.place ∷ more) wire (λ ticket. record s { stage = second ticket }) h.again result
            (λ ticket at. again_far new u.calls' (fields s.command) s.retries r.place r.may there lost more ticket (subst (λ (a : Attempt). AttemptCame new u.calls' (fields s.command) s.retries unsent more a) at u.came))
            (again_request new u.calls' (fields s.command) s.retries r.place r.may there lost more h.again u.came) h.gives);
      }

  run_sent : Runs old new log log' wire s result → Requested new calls log' (fields s.command) s.retries places result
  run_sent (inl h) = once_sent h
  run_sent (inr h) = twice_sent h

-- A poll of a request of which so much had been sent sent more of it.
pub request_sent : (old new : Awaited) (log log' : LogTold) (wire : ℤ) (s : Sending) (command : Fields) (repeats : Bool) (result : Step Sending (List ℕ)) → fields s.command ≡ command → s.retries ≡ repeats → Runs old new log log' wire s result → (calls calls' : List Call) → log ≡ Some calls → log' ≡ Some calls' → (places : List ℕ)
    → RequestFar old calls command repeats s.stage places → RequestCame new calls' command repeats (sent_since places (length calls) (length calls')) result
request_sent old new log log' wire s command repeats result sends may runs calls calls' told told' places far =
    let so : RequestFar old calls (fields s.command) s.retries s.stage places = subst (λ (b : Bool). RequestFar old calls (fields s.command) b s.stage places) (sym may) (subst (λ (c : Fields). RequestFar old calls c repeats s.stage places) (sym sends) far) in
    let r = run_sent old new log log' wire s result calls told places so runs in
    subst (λ (l : List Call). RequestCame new l command repeats (sent_since places (length calls) (length l)) result) (same_some r.calls' calls' (sym r.told ∙ told'))
    (subst (λ (b : Bool). RequestCame new r.calls' command b (sent_since places (length calls) (length r.calls')) result) may
    (subst (λ (c : Fields). RequestCame new r.calls' c s.retries (sent_since places (length calls) (length r.calls')) result) sends r.came))

-- ---- a call, by a later log

module _ (calls calls' : List Call) (wire : ℤ) (keeps : Keeps calls calls') (at : ClientStream) where
  pub mores_later : (more : List ℕ) → MoresAt calls at more → MoresAt calls' at more
  mores_later more (inl none) = inl none
  mores_later more (inr some) = inr (some.0, request_later calls calls' keeps (get_more at.cursor None) false more some.1)

  pub why_later : (before : List ℕ) (c : ClientCursor) → Resumes (sent_at before calls wire) at c → Resumes (sent_at before calls' wire) at c
  why_later before c why = resumes_grows (sent_at before calls wire) (sent_at before calls' wire) (grows_later before calls calls' wire keeps) at c why

  pub resumed_later : (before : List ℕ) (old : ClientCursor) (bytes : List ℕ) (new : ClientCursor) → Resumed (sent_at before calls wire) true at old bytes new → Resumed (sent_at before calls' wire) true at old bytes new
  resumed_later before old bytes new r = resumed_grows (sent_at before calls wire) (sent_at before calls' wire) (grows_later before calls calls' wire keeps) true at old bytes new r

  pub aggregates_later : (more again : List ℕ) → AggregatesAt calls wire at more again → AggregatesAt calls' wire at more again
  aggregates_later more again (inl none) = inl none
  aggregates_later more again (inr some) = inr (some.0, why_later more some.0 some.1, request_later calls calls' keeps (resuming_in at.aggregate wire None) true again some.2)

  killings_later : (before killing : List ℕ) → KillingsAt calls wire at before killing → KillingsAt calls' wire at before killing
  killings_later before killing (inl none) = inl none
  killings_later before killing (inr k) = inr (record { old = k.old; there = k.there; new = k.new; bytes = k.bytes; resumed = resumed_later before k.old k.bytes k.new k.resumed; request = request_later calls calls' keeps (kill k.old) false killing k.request })

  -- What a call sent it has sent still.
  pub sends_later : (own : List ℕ) → CallSends calls wire at own → CallSends calls' wire at own
  sends_later own h = record {
    more = h.more;
    again = h.again;
    killing = h.killing;
    whole = h.whole;
    asks = mores_later h.more h.asks;
    resumes = aggregates_later h.more h.again h.resumes;
    kills = killings_later (h.more ++ h.again) h.killing h.kills;
  }

  module _ (old new : Awaited) (own : List ℕ) where
    asks_far_later : (d : cursors.Doing) → ((n : ℕ) → cursors.ticket_by d ≡ Some n → new n ≡ old n) → AsksFar old calls at own d → AsksFar new calls' at own d
    asks_far_later rests same far = far
    asks_far_later (holds bytes) same far = far
    asks_far_later (asks sending) same far = (far.0, far_later calls calls' keeps old new (get_more at.cursor None) false sending.stage own same far.1)

    killing_far_later : (c : ClientCursor) (o : Option Sending) (killing : List ℕ) → ((n : ℕ) → closing_ticket_by c o ≡ Some n → new n ≡ old n) → KillingFar old calls c o killing → KillingFar new calls' c o killing
    killing_far_later c None killing same far = far
    killing_far_later c (Some sending) killing same far = (far.0, far_later calls calls' keeps old new (kill c) false sending.stage killing same far.1)

    -- so has one that goes on, where its own ticket goes with the same call
    pub sent_later : (c : ClientCursor) (d : Doing) → ((n : ℕ) → ticket_by c d ≡ Some n → new n ≡ old n) → SentBy old calls wire at own c d → SentBy new calls' wire at own c d
    sent_later c follows same h = asks_far_later c.doing same h
    sent_later c owes same h = mores_later own h
    sent_later c (resumes sending) same h = record {
      more = h.more;
      again = h.again;
      whole = h.whole;
      asks = mores_later h.more h.asks;
      left = h.left;
      why = why_later h.more h.left h.why;
      far = far_later calls calls' keeps old new (resuming_in at.aggregate wire None) true sending.stage h.again same h.far;
    }
    sent_later c (kills before) same h = record {
      more = h.more;
      again = h.again;
      killing = h.killing;
      whole = h.whole;
      asks = mores_later h.more h.asks;
      resumes = aggregates_later h.more h.again h.resumes;
      new = h.new;
      bytes = h.bytes;
      resumed = resumed_later (h.more ++ h.again) (at_rest before.cursor) h.bytes h.new h.resumed;
      far = killing_far_later before.cursor before.killing h.killing same h.far;
    }
    sent_later c renewed same h = sends_later own h

-- ---- what a call that goes on sent

module _ (awaited : Awaited) (calls : List Call) (wire : ℤ) (at : ClientStream) where
  -- its getMore alone
  pub mores_sends : (own : List ℕ) → MoresAt calls at own → CallSends calls wire at own
  mores_sends own h = record { more = own; again = []; killing = []; whole = sym (append-nil own); asks = h; resumes = inl refl; kills = inl refl }

  pub aggregates_sends : (own more again : List ℕ) → own ≡ more ++ again → MoresAt calls at more → AggregatesAt calls wire at more again → CallSends calls wire at own
  aggregates_sends own more again is asks_so resumes_so =
      record { more = more; again = again; killing = []; whole = is ∙ ap (λ (l : List ℕ). more ++ l) (sym (append-nil again)); asks = asks_so; resumes = resumes_so; kills = inl refl }

  asks_any : (own : List ℕ) (d : cursors.Doing) → AsksFar awaited calls at own d → MoresAt calls at own
  asks_any own rests h = inl h
  asks_any own (holds bytes) h = inl h
  asks_any own (asks sending) h = inr (h.0, far_request awaited calls (get_more at.cursor None) false sending.stage own h.1)

  killing_any : (c : ClientCursor) (o : Option Sending) (before killing : List ℕ) (new : ClientCursor) (bytes : List ℕ) → Resumed (sent_at before calls wire) true at (at_rest c) bytes new → KillingFar awaited calls c o killing → KillingsAt calls wire at before killing
  killing_any c None before killing new bytes r h = inl h
  killing_any c (Some sending) before killing new bytes r h =
      inr (record { old = at_rest c; there = h.0; new = new; bytes = bytes; resumed = r; request = far_request awaited calls (kill c) false sending.stage killing h.1 })

  pub sent_any : (own : List ℕ) (c : ClientCursor) (d : Doing) → SentBy awaited calls wire at own c d → CallSends calls wire at own
  sent_any own c follows h = mores_sends own (asks_any own c.doing h)
  sent_any own c owes h = mores_sends own h
  sent_any own c (resumes sending) h =
      aggregates_sends own h.more h.again h.whole h.asks (inr (h.left, h.why, far_request awaited calls (resuming_in at.aggregate wire None) true sending.stage h.again h.far))
  sent_any own c (kills before) h =
      record { more = h.more; again = h.again; killing = h.killing; whole = h.whole; asks = h.asks; resumes = h.resumes; kills = killing_any before.cursor before.killing (h.more ++ h.again) h.killing h.new h.bytes h.resumed h.far }
  sent_any own c renewed h = h

  -- a call that begins has sent nothing
  begins_asking : (own : List ℕ) (d : cursors.Doing) → own ≡ [] → IsNotAsking d → AsksFar awaited calls at own d
  begins_asking own rests none quiet = none
  begins_asking own (holds bytes) none quiet = none
  begins_asking own (asks sending) none quiet = absurd quiet

  pub begins_sent : (own : List ℕ) (c : ClientCursor) (d : Doing) → own ≡ [] → IsIdle d → IsNotAsking c.doing → SentBy awaited calls wire at own c d
  begins_sent own c follows none idle quiet = begins_asking own c.doing none quiet
  begins_sent own c owes none idle quiet = inl none
  begins_sent own c (resumes sending) none idle quiet = absurd idle
  begins_sent own c (kills before) none idle quiet = absurd idle
  begins_sent own c renewed none idle quiet = absurd idle

-- ---- a poll of an opening

-- what the opening sent behind it: so far, or in all
abbrev pub BehindOpening : Awaited → List Call → ℤ → WatchArgs → List ℕ → Step ClientOpening ClientStream → Type 0
BehindOpening awaited calls wire args own (step.Pending o) = OpensFar awaited calls wire args o.sending own
BehindOpening awaited calls wire args own (step.Done s) = OpensAt calls wire args own
BehindOpening awaited calls wire args own (step.Failed e) = OpensAt calls wire args own

module _ (old new : Awaited) (log log' : LogTold) (wire : ℤ) (started : Bool) (o : ClientOpening) (r : Step ClientOpening ClientStream) (own : List ℕ) (calls calls' : List Call) (told : log ≡ Some calls) (told' : log' ≡ Some calls') where
  abbrev first_of : Fields
  first_of = resuming_in (first_aggregate o.args) wire None

  abbrev own' : List ℕ
  own' = sent_since own (length calls) (length calls')

  abbrev Opened : Step ClientOpening ClientStream → Type 0
  Opened = BehindOpening new calls' wire o.args own'

  opening_read : (bytes : List ℕ) → IsRequestAt calls' first_of true own' → ReadsOpening wire o bytes r → Opened r
  opening_read bytes request (openings.opened out opens_so answer) = subst Opened (sym answer) request
  opening_read bytes request (openings.broke e by answer) = subst Opened (sym answer) request

  opening_came : (x : Step Sending (List ℕ)) → RequestCame new calls' first_of true own' x → HearsOpening wire o x r → Opened r
  opening_came (step.Pending later) came heard = subst Opened (sym heard) came
  opening_came (step.Done bytes) came heard = opening_read bytes came heard
  opening_came (step.Failed e) came heard = subst Opened (sym heard) came

  opening_ran : (sending : Sending) → fields sending.command ≡ first_of → sending.retries ≡ true → RequestFar old calls first_of true sending.stage own → RunsOpening old new log log' wire started o sending r → Opened r
  opening_ran sending is repeats far h =
      opening_came h.came (request_sent old new log log' wire sending first_of true h.came is repeats (runs_of old new log log' wire sending h.came started h.runs) calls calls' told told' own far) h.hears

  -- A poll of an opening sends its aggregate alone.
  pub opening_sends : IsSoundOpening true o → OpensStream old new log log' wire None started o r → OpensFar old calls wire o.args o.sending own → Opened r
  opening_sends sound (openings.not_built unsent_so e by nothing not_so answer) far =
      let none : own ≡ [] = subst (λ (x : Option Sending). OpensFar old calls wire o.args x own) unsent_so far in
      let same : calls' ≡ calls = same_some calls' calls (sym told' ∙ nothing.log_same ∙ told) in
      subst Opened (sym answer) (nowhere (ap (λ (l : List Call). sent_since own (length calls) (length l)) same ∙ since_none own (length calls) ∙ none))
  opening_sends sound (openings.begins unsent_so sending new_one h) far =
      let none : own ≡ [] = subst (λ (x : Option Sending). OpensFar old calls wire o.args x own) unsent_so far in
      opening_ran sending new_one.command_is new_one.retries_is (subst (λ (stage : Stage). RequestFar old calls first_of true stage own) (sym new_one.new) none) h
  opening_sends sound (openings.goes_on sending at h) far =
      let its : IsAggregate true (first_aggregate o.args) sending = subst (SendsSoundly true o.args) at sound in
      let is : fields sending.command ≡ first_of = subst (λ (x : Option Session). fields sending.command ≡ resuming_in (first_aggregate o.args) its.wire x) its.plainly its.command_is in
      let repeats : sending.retries ≡ true = subst (λ (x : Option Session). sending.retries ≡ is_read_again x) its.plainly its.retries_is in
      opening_ran sending is repeats (subst (λ (x : Option Sending). OpensFar old calls wire o.args x own) at far) h
