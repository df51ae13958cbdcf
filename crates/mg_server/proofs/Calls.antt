-- What a poll of a request comes to, in a call that sent it.
use Rattle.std.proofs.Common.{◌≡◌, ℕ, zero, suc, ◌≤◌, ℤ, ◌&&◌, Bool, true, false, List, [], ◌∷◌, ◌++◌, length, Some, refl, sym, ap, ◌∙◌, subst, inl, inr, arith}
use Rattle.std.specs.Prelude.{◌<◌, IsSome, slice_get}
use Rattle.mg_bson.specs.Tree.{Fields}
use Rattle.mg_bson.specs.Raw.{fields}
use Rattle.mg_server.specs.Calls.{Came, Flies, Grows, HeardAt, HeardLast, IsAwaited, IsOwn, IsRetried, Keeps, NoneBroken, Past, RequestFails, WaitsAt, out_of_memory, past_of, was_lost, was_refused}
use Rattle.mg_link.specs.Exec.{Attempt, not_sent, waits, answered, Stage, unsent, first, second, Sending, Begins, AttemptFails, AttemptGives, GoesOn, IsSuccess, Once, Runs, Tries, Twice, holding, is_repeated, is_retried_attempt, ticket_at}
use Rattle.mg_link.specs.Link.{Awaited, LogTold}
use Rattle.mg_link.specs.Log.{Sight, waiting, reply, fault, memory, Call, see}
use Rattle.mg_link.specs.Retry.{is_retried}
use Rattle.mg_link.specs.declared.action.Step.{Step}
use Rattle.mg_link.specs.declared.action.Step.TheVariants as step
use Rattle.mg_link.specs.declared.error.Error.{Error}
use Rattle.mg_server.proofs.Owners.{same_some, see_here}
use Rattle.mg_server.proofs.Pasts.{heard_at_grows, retried_grows}
use Rattle.mg_link.proofs.Places.{get_front, get_seam, get_within}

-- ---- logs

-- only the call at this place is changed
pub see_keeps : (k : ℕ) (seen : Sight) (calls : List Call) (call : Call) → slice_get calls k ≡ Some call → call.seen ≡ waiting → Keeps calls (see k seen calls)
see_keeps k seen [] call found here j c h = absurd cc
see_keeps zero seen (d ∷ calls) call found here zero c h =
    let same : d ≡ c = same_some d c h in
    (record d { seen = seen }, refl, ap (λ (x : Call). x.command) same, λ saw. absurd (saw (ap (λ (x : Call). x.seen) (same_some c call (sym h ∙ found)) ∙ here)))
see_keeps zero seen (d ∷ calls) call found here (suc j) c h = (c, h, refl, λ saw. refl)
see_keeps (suc k) seen (d ∷ calls) call found here zero c h = (c, h, refl, λ saw. refl)
see_keeps (suc k) seen (d ∷ calls) call found here (suc j) c h = see_keeps k seen calls call found here j c h

pub same_keeps : (calls : List Call) → Keeps calls calls
same_keeps calls place call there = (call, there, refl, λ saw. refl)

pub keeps_on : (a b c : List Call) → Keeps a b → Keeps b c → Keeps a c
keeps_on a b c p q place call there =
    let x = p place call there in
    let y = q place x.0 x.1 in
    (y.0, y.1, y.2 ∙ x.2, λ saw. let same = x.3 saw in y.3 (λ e. saw (ap (λ (d : Call). d.seen) (sym same) ∙ e)) ∙ same)

longer : (calls calls' : List Call) → ((place : ℕ) (call : Call) → slice_get calls place ≡ Some call → (call' : Call) × (slice_get calls' place ≡ Some call')) → length calls ≤ length calls'
longer [] calls' keeps = omega arith
longer (c ∷ calls) [] keeps = absurd (let bad = (keeps zero c refl).1 in cc)
longer (c ∷ calls) (d ∷ calls') keeps = let less = longer calls calls' (λ place call there. keeps (suc place) call there) in omega arith

pub keeps_longer : (calls calls' : List Call) → Keeps calls calls' → length calls ≤ length calls'
keeps_longer calls calls' keeps = longer calls calls' (λ place call there. let kept = keeps place call there in (kept.0, kept.1))

-- a call whose log has grown
pub log_grows : (places : List ℕ) (since : ℕ) (calls calls' : List Call) (wire : ℤ) → Keeps calls calls' → Grows (past_of places since calls wire) (past_of places since calls' wire)
log_grows places since calls calls' wire keeps = record { own = λ place call there own. own; keeps = keeps; wire = refl }

pub grows_on : (a b c : Past) → Grows a b → Grows b c → Grows a c
grows_on a b c p q = record {
  own = λ place call there own. let x = p.keeps place call there in q.own place x.0 x.1 (p.own place call there own);
  keeps = keeps_on a.calls b.calls c.calls p.keeps q.keeps;
  wire = q.wire ∙ p.wire;
}

-- ---- one attempt

-- where an attempt stands, and what it has seen
abbrev pub StandsIn : Awaited → Past → Fields → (ℕ → Type 0) → Attempt → Type 0
StandsIn awaited past command Here not_sent = Unit {0}
StandsIn awaited past command Here (waits ticket) = (place : ℕ) × WaitsAt awaited past ticket command place × Here place
StandsIn awaited past command Here (answered seen) = (place : ℕ) × HeardAt past place command seen × Here place

-- what an attempt comes to
pub record Tried (awaited : Awaited) (places : List ℕ) (since : ℕ) (calls : List Call) (log' : LogTold) (wire : ℤ) (command : Fields) (Here : ℕ → Type 0) (attempt : Attempt) : Type 0 where
  pub calls' : List Call
  pub told : log' ≡ Some calls'
  pub keeps : Keeps calls calls'
  pub stands : StandsIn awaited (past_of places since calls' wire) command Here attempt

module _ (old new : Awaited) (log log' : LogTold) (calls : List Call) (told : log ≡ Some calls) (places : List ℕ) (since : ℕ) (wire : ℤ) where
  pub begun : (command : List ℕ) (attempt : Attempt) (Here : ℕ → Type 0) → since ≤ length calls → Here (length calls) → Begins old new log log' command attempt → Tried new places since calls log' wire (fields command) Here attempt
  begun command not_sent Here room here b = record { calls' = calls; told = b.log_same ∙ told; keeps = same_keeps calls; stands = tt }
  begun command (waits ticket) Here room here b =
      let add = b.adds calls told in
      let call : Call = record { command = command; position = add.0; seen = waiting } in
      record {
        calls' = calls ++ call ∷ [];
        told = add.1;
        keeps = λ place c there. (c, get_front calls (call ∷ []) place c there, refl, λ saw. refl);
        stands = (length calls, record { at = b.place calls told; own = inr room; call = call; there = get_seam calls [] call; command_is = refl }, here);
      }
  begun command (answered seen) Here room here b =
      let add = b.adds calls told in
      let call : Call = record { command = command; position = add.0; seen = seen } in
      record {
        calls' = calls ++ call ∷ [];
        told = add.1;
        keeps = λ place c there. (c, get_front calls (call ∷ []) place c there, refl, λ saw. refl);
        stands = (length calls, record { own = inr room; call = call; there = get_seam calls [] call; command_is = refl; has_seen = refl }, here);
      }

  pub gone_on : (ticket : ℕ) (command : Fields) (attempt : Attempt) (Here : ℕ → Type 0) (place : ℕ) → WaitsAt old (past_of places since calls wire) ticket command place → Here place → GoesOn old new log log' ticket attempt → Tried new places since calls log' wire command Here attempt
  gone_on ticket command not_sent Here place w here g = absurd g
  gone_on ticket command (waits given) Here place w here g =
      record {
        calls' = calls;
        told = g.log_same ∙ told;
        keeps = same_keeps calls;
        stands = (place, record { at = g.rest given ∙ ap old g.same ∙ w.at; own = w.own; call = w.call; there = w.there; command_is = w.command_is }, here);
      }
  gone_on ticket command (answered seen) Here place w here g =
      let s = g.sees calls told in
      let at : s.0 ≡ place = same_some s.0 place (sym s.2 ∙ w.at) in
      let found : slice_get calls place ≡ Some s.1 = sym (ap (λ (k : ℕ). slice_get calls k) at) ∙ s.3 in
      let same : s.1 ≡ w.call = same_some s.1 w.call (sym found ∙ w.there) in
      record {
        calls' = see s.0 seen calls;
        told = s.5;
        keeps = see_keeps s.0 seen calls s.1 s.3 s.4;
        stands = (
          place,
          record {
            own = w.own;
            call = record s.1 { seen = seen };
            there = subst (λ (k : ℕ). slice_get (see s.0 seen calls) k ≡ Some (record s.1 { seen = seen })) at (see_here s.0 seen calls s.1 s.3);
            command_is = ap (λ (c : Call). fields c.command) same ∙ w.command_is;
            has_seen = refl;
          },
          here,
        );
      }

-- a second attempt stands behind one that was lost or refused
abbrev pub IsBehind : Past → Fields → Stage → ℕ → Type 0
IsBehind past command unsent place = Unit {0}
IsBehind past command (first ticket) place = Unit {0}
IsBehind past command (second ticket) place = IsRetried past place command

pub tried : (old new : Awaited) (log log' : LogTold) (calls : List Call) → log ≡ Some calls → (places : List ℕ) (since : ℕ) (wire : ℤ) (command : List ℕ) (stage : Stage) (attempt : Attempt) → since ≤ length calls → Flies old (past_of places since calls wire) (fields command) stage → Tries old new log log' command stage attempt → Tried new places since calls log' wire (fields command) (IsBehind (past_of places since calls wire) (fields command) stage) attempt
tried old new log log' calls told places since wire command unsent attempt room flies t = begun old new log log' calls told places since wire command attempt (λ place. Unit {0}) room tt t
tried old new log log' calls told places since wire command (first ticket) attempt room flies t = gone_on old new log log' calls told places since wire ticket (fields command) attempt (λ place. Unit {0}) flies.0 flies.1 tt t
tried old new log log' calls told places since wire command (second ticket) attempt room flies t =
    gone_on old new log log' calls told places since wire ticket (fields command) attempt (λ place. IsRetried (past_of places since calls wire) place (fields command)) flies.0 flies.1 flies.2 t

-- ---- a poll

failed_by : (past : Past) (command : Fields) (retries : Bool) (e : Error) (attempt : Attempt) → ((seen : Sight) → attempt ≡ answered seen → HeardLast past command retries seen) → AttemptFails attempt past.wire e → RequestFails past command retries NoneBroken e
failed_by past command retries e not_sent heard by = out_of_memory (ap (λ (x : Error). x.kind) by)
failed_by past command retries e (waits ticket) heard by = absurd by
failed_by past command retries e (answered waiting) heard by = absurd by
failed_by past command retries e (answered (reply bytes)) heard by = was_refused bytes (heard (reply bytes) refl) by
failed_by past command retries e (answered fault) heard by = was_lost by (heard fault refl)
failed_by past command retries e (answered memory) heard by = out_of_memory (ap (λ (x : Error). x.kind) by)

-- by where its last attempt stands
came_by : (awaited : Awaited) (past : Past) (command : Fields) (retries : Bool) (hold : ℕ → Sending) (attempt : Attempt) (result : Step Sending (List ℕ))
    → ((ticket : ℕ) → attempt ≡ waits ticket → Flies awaited past command (hold ticket).stage)
    → ((seen : Sight) → attempt ≡ answered seen → HeardLast past command retries seen)
    → AttemptGives attempt past.wire hold result → Came awaited past command retries result
came_by awaited past command retries hold attempt (step.Pending s) flies heard g = subst (λ (x : Sending). Flies awaited past command x.stage) (sym g.2) (flies g.0 g.1)
came_by awaited past command retries hold attempt (step.Done bytes) flies heard g = heard (reply bytes) g.0
came_by awaited past command retries hold attempt (step.Failed e) flies heard g = failed_by past command retries e attempt heard g

module _ (awaited : Awaited) (past past' : Past) (grows : Grows past past') (command : Fields) (retries : Bool) where
  held_by : (stage : Stage) (ticket : ℕ) → StandsIn awaited past' command (IsBehind past command stage) (waits ticket) → Flies awaited past' command (holding stage ticket)
  held_by unsent ticket s = (s.0, s.1)
  held_by (first given) ticket s = (s.0, s.1)
  held_by (second given) ticket s = (s.0, s.1, retried_grows past past' grows s.0 command s.2)

  last_by : (stage : Stage) (seen : Sight) → is_repeated retries stage (answered seen) ≡ false → StandsIn awaited past' command (IsBehind past command stage) (answered seen) → HeardLast past' command retries seen
  last_by unsent seen last s = record { place = s.0; heard = s.1; last = inl last }
  last_by (first given) seen last s = record { place = s.0; heard = s.1; last = inl last }
  last_by (second given) seen last s = record { place = s.0; heard = s.1; last = inr (retried_grows past past' grows s.0 command s.2) }

-- an attempt after which the command is sent once more was the first, and saw something that is retried
retried_by : (a b : Bool) → (a && b) ≡ true → b ≡ true
retried_by true b h = h
retried_by false b h = absurd cc

record RepeatedBy (awaited : Awaited) (past : Past) (command : Fields) (attempt : Attempt) : Type 0 where
  seen : Sight
  place : ℕ
  heard : HeardAt past place command seen
  passes : is_retried seen ≡ true

repeats_at : (awaited : Awaited) (past : Past) (command : Fields) (retries : Bool) (Here : ℕ → Type 0) (attempt : Attempt) → (retries && is_retried_attempt attempt) ≡ true → StandsIn awaited past command Here attempt → RepeatedBy awaited past command attempt
repeats_at awaited past command retries Here not_sent h s = absurd (let bad : false ≡ true = retried_by retries false h in cc)
repeats_at awaited past command retries Here (waits ticket) h s = absurd (let bad : false ≡ true = retried_by retries false h in cc)
repeats_at awaited past command retries Here (answered seen) h s = record { seen = seen; place = s.0; heard = s.1; passes = retried_by retries (is_retried seen) h }

repeats_by : (awaited : Awaited) (past : Past) (command : Fields) (retries : Bool) (Here : ℕ → Type 0) (stage : Stage) (attempt : Attempt) → is_repeated retries stage attempt ≡ true → StandsIn awaited past command Here attempt → RepeatedBy awaited past command attempt
repeats_by awaited past command retries Here unsent attempt h s = repeats_at awaited past command retries Here attempt h s
repeats_by awaited past command retries Here (first ticket) attempt h s = repeats_at awaited past command retries Here attempt h s
repeats_by awaited past command retries Here (second ticket) attempt h s = absurd cc

-- what a poll of a request of a call comes to
pub record RequestRan (awaited : Awaited) (places : List ℕ) (since : ℕ) (calls : List Call) (log' : LogTold) (wire : ℤ) (command : Fields) (retries : Bool) (result : Step Sending (List ℕ)) : Type 0 where
  pub calls' : List Call
  pub told : log' ≡ Some calls'
  pub room : since ≤ length calls'
  pub grows : Grows (past_of places since calls wire) (past_of places since calls' wire)
  pub came : Came awaited (past_of places since calls' wire) command retries result

module _ (old new : Awaited) (log log' : LogTold) (wire : ℤ) (s : Sending) (result : Step Sending (List ℕ)) (calls : List Call) (told : log ≡ Some calls) (places : List ℕ) (since : ℕ) (room : since ≤ length calls) (flies : Flies old (past_of places since calls wire) (fields s.command) s.stage) where
  once_ran : Once old new log log' wire s result → RequestRan new places since calls log' wire (fields s.command) s.retries result
  once_ran once =
      let t = tried old new log log' calls told places since wire s.command s.stage once.attempt room flies once.tries in
      let past : Past = past_of places since calls wire in
      let past' : Past = past_of places since t.calls' wire in
      let grows = log_grows places since calls t.calls' wire t.keeps in
      let stands : (a : Attempt) → once.attempt ≡ a → StandsIn new past' (fields s.command) (IsBehind past (fields s.command) s.stage) a
      = λ a is. subst (λ (x : Attempt). StandsIn new past' (fields s.command) (IsBehind past (fields s.command) s.stage) x) is t.stands in
      record {
        calls' = t.calls';
        told = t.told;
        room = let less = keeps_longer calls t.calls' t.keeps in omega arith;
        grows = grows;
        came = came_by new past' (fields s.command) s.retries (λ ticket. record s { stage = holding s.stage ticket }) once.attempt result
            (λ ticket is. held_by new past past' grows (fields s.command) s.retries s.stage ticket (stands (waits ticket) is))
            (λ seen is. last_by new past past' grows (fields s.command) s.retries s.stage seen (subst (λ (x : Attempt). is_repeated s.retries s.stage x ≡ false) is once.last) (stands (answered seen) is))
            once.gives;
      }

  twice_ran : Twice old new log log' wire s result → RequestRan new places since calls log' wire (fields s.command) s.retries result
  twice_ran twice =
      let t = tried old twice.between log twice.log_between calls told places since wire s.command s.stage twice.attempt room flies twice.tries in
      let past : Past = past_of places since calls wire in
      let mid : Past = past_of places since t.calls' wire in
      let room' : since ≤ length t.calls' = let less = keeps_longer calls t.calls' t.keeps in omega arith in
      let r = repeats_by twice.between mid (fields s.command) s.retries (IsBehind past (fields s.command) s.stage) s.stage twice.attempt twice.repeated t.stands in
      let u = begun twice.between new twice.log_between log' t.calls' t.told places since wire s.command twice.again (λ place. place ≡ length t.calls') room' refl twice.begins in
      let past' : Past = past_of places since u.calls' wire in
      let later = log_grows places since t.calls' u.calls' wire u.keeps in
      let answer : r.seen ≡ waiting → ⊥ = λ e. let bad : is_retried waiting ≡ true = sym (ap is_retried e) ∙ r.passes in cc in
      let heard : HeardAt past' r.place (fields s.command) r.seen = heard_at_grows mid past' later r.place (fields s.command) r.seen answer r.heard in
      let behind : (place : ℕ) → place ≡ length t.calls' → IsRetried past' place (fields s.command)
      = λ place is. let within = get_within t.calls' r.place r.heard.call r.heard.there in record { earlier = r.place; before = omega arith; seen = r.seen; heard = heard; passes = r.passes } in
      let stands : (a : Attempt) → twice.again ≡ a → StandsIn new past' (fields s.command) (λ place. place ≡ length t.calls') a
      = λ a is. subst (λ (x : Attempt). StandsIn new past' (fields s.command) (λ place. place ≡ length t.calls') x) is u.stands in
      record {
        calls' = u.calls';
        told = u.told;
        room = let less = keeps_longer t.calls' u.calls' u.keeps in omega arith;
        grows = grows_on past mid past' (log_grows places since calls t.calls' wire t.keeps) later;
        came = came_by new past' (fields s.command) s.retries (λ ticket. record s { stage = second ticket }) twice.again result
            (λ ticket is. let x = stands (waits ticket) is in (x.0, x.1, behind x.0 x.2))
            (λ seen is. let x = stands (answered seen) is in record { place = x.0; heard = x.1; last = inr (behind x.0 x.2) })
            twice.gives;
      }

  ran_by : Runs old new log log' wire s result → RequestRan new places since calls log' wire (fields s.command) s.retries result
  ran_by (inl once) = once_ran once
  ran_by (inr twice) = twice_ran twice

pub request_ran : (old new : Awaited) (log log' : LogTold) (wire : ℤ) (s : Sending) (command : Fields) (retries : Bool) (result : Step Sending (List ℕ)) → fields s.command ≡ command → s.retries ≡ retries → Runs old new log log' wire s result → (calls : List Call) → log ≡ Some calls → (places : List ℕ) (since : ℕ) → since ≤ length calls → Flies old (past_of places since calls wire) command s.stage → RequestRan new places since calls log' wire command retries result
request_ran old new log log' wire s command retries result sends repeats runs calls told places since room flies =
    subst (λ (b : Bool). RequestRan new places since calls log' wire command b result) repeats
    (subst (λ (c : Fields). RequestRan new places since calls log' wire c s.retries result) sends
    (ran_by old new log log' wire s result calls told places since room (subst (λ (c : Fields). Flies old (past_of places since calls wire) c s.stage) (sym sends) flies) runs))

-- a reply that it gives is a success
pub success_ran : (old new : Awaited) (log log' : LogTold) (wire : ℤ) (s : Sending) (bytes : List ℕ) → Runs old new log log' wire s (step.Done bytes) → IsSuccess bytes
success_ran old new log log' wire s bytes (inl once) = once.gives.1
success_ran old new log log' wire s bytes (inr twice) = twice.gives.1

-- ---- what waits

pub none_held : {A : Type 0} → false ≡ true → A
none_held held = absurd cc

-- a command with a ticket was sent
pub awaited_by : (awaited : Awaited) (past : Past) (command : Fields) (stage : Stage) → Flies awaited past command stage → IsSome (ticket_at stage) → IsAwaited awaited past command
awaited_by awaited past command unsent flies held = none_held held
awaited_by awaited past command (first ticket) flies held = record { ticket = ticket; place = flies.0; waits = flies.1 }
awaited_by awaited past command (second ticket) flies held = record { ticket = ticket; place = flies.0; waits = flies.1 }

-- the call of a ticket is the caller's own
pub record HoldsOwn (awaited : Awaited) (past : Past) (ticket : ℕ) : Type 0 where
  pub place : ℕ
  pub at : awaited ticket ≡ Some place
  pub own : IsOwn past place
  pub within : place < length past.calls

own_call : (awaited : Awaited) (past : Past) (command : Fields) (held ticket place : ℕ) → Some held ≡ Some ticket → WaitsAt awaited past held command place → HoldsOwn awaited past ticket
own_call awaited past command held ticket place same out =
    record { place = place; at = ap awaited (sym (same_some held ticket same)) ∙ out.at; own = out.own; within = get_within past.calls place out.call out.there }

pub own_by : (awaited : Awaited) (past : Past) (command : Fields) (stage : Stage) (ticket : ℕ) → Flies awaited past command stage → ticket_at stage ≡ Some ticket → HoldsOwn awaited past ticket
own_by awaited past command unsent ticket flies held = absurd cc
own_by awaited past command (first at) ticket flies held = own_call awaited past command at ticket flies.0 held flies.1
own_by awaited past command (second at) ticket flies held = own_call awaited past command at ticket flies.0 held flies.1
