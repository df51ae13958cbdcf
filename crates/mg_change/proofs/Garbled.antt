-- How a poll comes to a reply, and openings whose reply is none that a server may give.
use Rattle.std.proofs.Common.{◌≡◌, ℕ, ℤ, Bool, true, false, List, [], ◌∷◌, ◌++◌, length, Option, Some, None, refl, sym, ap, ◌∙◌, subst, inl, inr}
use Rattle.std.specs.Prelude.{slice_get}
use Rattle.mg_bson.specs.Tree.{Tree, Fields}
use Rattle.mg_server.specs.Commands.{asks_watch, Told, garbled, Batch, told, asked}
use Rattle.mg_server.specs.History.{Step, IsLegal}
use Rattle.mg_link.specs.declared.action.Step.{Step as Polled}
use Rattle.mg_link.specs.declared.action.Step.TheVariants as step
use Rattle.mg_link.specs.Exec.{Stage, unsent, first, second, Sending, Attempt, not_sent, waits, answered, Begins, GoesOn, Tries, IsSuccess, is_repeated, holding as held_at, Once, Runs}
use Rattle.mg_link.specs.Log.{Sight, waiting, reply, Call, see}
use Rattle.mg_link.specs.Link as link
use Rattle.mg_link.specs.Link.{Awaited, Adds, Sees}
use Rattle.mg_server.specs.Standing.{Stands}
use Rattle.mg_server.specs.Follow.{starting, holding, Follow, AfterStart, KnowsStarting, Moved}
use Rattle.mg_exec.proofs.Attempting.{see_last}
use Rattle.mg_link.proofs.Places.{get_seam}
use Rattle.mg_server.proofs.Owners.{same_some, see_here, stands_unseen}
use Rattle.mg_server.proofs.Heard.{heard_at, told_heard}
use Rattle.mg_server.proofs.Moving.{known_as, moved_seen}
use Rattle.mg_server.proofs.Moves.{stayed, moved}
use Rattle.mg_server.specs.Moves.{at_stage}
use Rattle.mg_server.proofs.Retries.{Request, tried, next_place, next_is}
use Rattle.mg_link.proofs.Waits.{never_again}

-- ---- the stage of a request that waits

abbrev pub IsHeld : Stage → Type 0
IsHeld unsent = ⊥
IsHeld (first ticket) = Unit {0}
IsHeld (second ticket) = Unit {0}

-- the request that waits is the one that was polled
pub record Waiting (s s' : Sending) : Type 0 where
  pub same_command : s'.command ≡ s.command
  pub same_retries : s'.retries ≡ s.retries
  pub held : IsHeld s'.stage

holding_held : (stage : Stage) (ticket : ℕ) → IsHeld (held_at stage ticket)
holding_held unsent ticket = tt
holding_held (first old) ticket = tt
holding_held (second old) ticket = tt

as_waiting : (s s' : Sending) (stage : Stage) → IsHeld stage → s' ≡ record s { stage = stage } → Waiting s s'
as_waiting s s' stage held same =
    record {
      same_command = ap (λ (x : Sending). x.command) same;
      same_retries = ap (λ (x : Sending). x.retries) same;
      held = subst (λ (x : Sending). IsHeld x.stage) (sym same) held;
    }

pub still_waits : (old new : Awaited) (log log' : link.LogTold) (wire : ℤ) (s s' : Sending) → Runs old new log log' wire s (step.Pending s') → Waiting s s'
still_waits old new log log' wire s s' (inl once) = let g = once.gives in as_waiting s s' (held_at s.stage g.0) (holding_held s.stage g.0) g.2
still_waits old new log log' wire s s' (inr twice) = let g = twice.gives in as_waiting s s' (second g.0) tt g.2

-- a command that is sent once has one attempt
pub runs_once : (old new : Awaited) (log log' : link.LogTold) (wire : ℤ) (s : Sending) (result : Polled Sending (List ℕ)) → s.retries ≡ false → Runs old new log log' wire s result → Once old new log log' wire s result
runs_once old new log log' wire s result single (inl once) = once
runs_once old new log log' wire s result single (inr twice) = absurd (never_again s.retries s.stage twice.attempt single twice.repeated)

-- ---- how a reply came

-- a call that was sent and answered in one was out in between
record Midway (log log' : link.LogTold) (command : List ℕ) (seen : Sight) : Type 0 where
  mid : link.LogTold
  adds : Adds log mid command waiting
  sees : Sees mid log' (next_place log) seen

midway : (log log' : link.LogTold) (command : List ℕ) (seen : Sight) → Adds log log' command seen → Midway log log' command seen
midway None log' command seen adds = record { mid = None; adds = λ calls is. absurd cc; sees = λ calls is. absurd cc }
midway (Some calls) log' command seen adds =
    let add = adds calls refl in
    let w : Call = record { command = command; position = add.0; seen = waiting } in
    record {
      mid = Some (calls ++ w ∷ []);
      adds = λ other is. (add.0, ap (λ (l : List Call). Some (l ++ w ∷ [])) (same_some calls other is));
      sees = λ other is.
          let same : calls ++ w ∷ [] ≡ other = same_some (calls ++ w ∷ []) other is in (
            length calls,
            w,
            refl,
            subst (λ (l : List Call). slice_get l (length calls) ≡ Some w) same (get_seam calls [] w),
            refl,
            add.1 ∙ ap Some (sym (see_last calls w seen)) ∙ ap (λ (l : List Call). Some (see (length calls) seen l)) same,
          );
    }

-- the place at which a reply to an attempt is heard, by the stage before it
abbrev pub place_at : Awaited → link.LogTold → Stage → Option ℕ
place_at old log unsent = next_place log
place_at old log (first ticket) = old ticket
place_at old log (second ticket) = old ticket

-- the same of a poll: it is that of its last attempt
abbrev pub place_heard : (old new : Awaited) (log log' : link.LogTold) (wire : ℤ) (s : Sending) (result : Polled Sending (List ℕ)) → Runs old new log log' wire s result → Option ℕ
place_heard old new log log' wire s result (inl once) = place_at old log s.stage
place_heard old new log log' wire s result (inr twice) = next_place twice.log_between

-- A poll ended with a reply: the request was out, and then this was seen at its place.
pub record Came (waiting_at : Option ℕ → Follow) (log log' : link.LogTold) (f : Follow) (bytes : List ℕ) (place : Option ℕ) : Type 0 where
  pub mid : link.LogTold
  pub out : Moved log mid f (waiting_at place)
  pub sees : Sees mid log' place (reply bytes)
  pub success : IsSuccess bytes

module _ (command : List ℕ) (idle : Follow) (waiting_at : Option ℕ → Follow) (done : Option ℕ → Batch → Follow) (r : Request command idle waiting_at done) where
  came_begun : (old new : Awaited) (log log' : link.LogTold) (bytes : List ℕ) → IsSuccess bytes → Begins old new log log' command (answered (reply bytes)) → Came waiting_at log log' idle bytes (next_place log)
  came_begun old new log log' bytes success b =
      let m = midway log log' command (reply bytes) b.adds in
      record { mid = m.mid; out = r.sent log m.mid (next_place log) m.adds (next_is log); sees = m.sees; success = success }

  came_on : (old new : Awaited) (log log' : link.LogTold) (ticket : ℕ) (bytes : List ℕ) → IsSuccess bytes → GoesOn old new log log' ticket (answered (reply bytes)) → Came waiting_at log log' (waiting_at (old ticket)) bytes (old ticket)
  came_on old new log log' ticket bytes success g = record { mid = log; out = stayed log log (waiting_at (old ticket)) refl; sees = g.sees; success = success }

  came_tried : (old new : Awaited) (log log' : link.LogTold) (stage : Stage) (bytes : List ℕ) → IsSuccess bytes → Tries old new log log' command stage (answered (reply bytes)) → Came waiting_at log log' (at_stage idle waiting_at old stage) bytes (place_at old log stage)
  came_tried old new log log' unsent bytes success t = came_begun old new log log' bytes success t
  came_tried old new log log' (first ticket) bytes success t = came_on old new log log' ticket bytes success t
  came_tried old new log log' (second ticket) bytes success t = came_on old new log log' ticket bytes success t

  -- an attempt behind which the command is sent once more left the stream idle
  idle_again : (old new : Awaited) (log log' : link.LogTold) (retries : Bool) (stage : Stage) (attempt : Attempt) → is_repeated retries stage attempt ≡ true → Tries old new log log' command stage attempt → Moved log log' (at_stage idle waiting_at old stage) idle
  idle_again old new log log' retries stage not_sent again t = tried command idle waiting_at done r old new log log' stage not_sent t
  idle_again old new log log' retries stage (waits ticket) again t = absurd (not_repeated retries stage ticket again)
    where
      not_repeated : (retries : Bool) (stage : Stage) (ticket : ℕ) → is_repeated retries stage (waits ticket) ≡ true → ⊥
      not_repeated true unsent ticket h = cc
      not_repeated false unsent ticket h = cc
      not_repeated true (first old) ticket h = cc
      not_repeated false (first old) ticket h = cc
      not_repeated retries (second old) ticket h = cc
  idle_again old new log log' retries stage (answered seen) again t = (tried command idle waiting_at done r old new log log' stage (answered seen) t).0

  pub came : (old new : Awaited) (log log' : link.LogTold) (wire : ℤ) (s : Sending) (bytes : List ℕ) → s.command ≡ command → (runs : Runs old new log log' wire s (step.Done bytes)) → Came waiting_at log log' (at_stage idle waiting_at old s.stage) bytes (place_heard old new log log' wire s (step.Done bytes) runs)
  came old new log log' wire s bytes is (inl once) =
      let t = subst (λ (c : List ℕ). Tries old new log log' c s.stage once.attempt) is once.tries in
      came_tried old new log log' s.stage bytes once.gives.1 (subst (λ (a : Attempt). Tries old new log log' command s.stage a) once.gives.0 t)
  came old new log log' wire s bytes is (inr twice) =
      let t = subst (λ (c : List ℕ). Tries old twice.between log twice.log_between c s.stage twice.attempt) is twice.tries in
      let first_try = idle_again old twice.between log twice.log_between s.retries s.stage twice.attempt twice.repeated t in
      let b = subst (λ (c : List ℕ). Begins twice.between new twice.log_between log' c twice.again) is twice.begins in
      let last = came_begun twice.between new twice.log_between log' bytes twice.gives.1 (subst (λ (a : Attempt). Begins twice.between new twice.log_between log' command a) twice.gives.0 b) in
      record {
        mid = last.mid;
        out = moved log twice.log_between last.mid (at_stage idle waiting_at old s.stage) idle (waiting_at (next_place twice.log_between)) first_try last.out;
        sees = last.sees;
        success = last.success;
      }

-- ---- openings

-- a stream that is open, whatever is in hand
abbrev pub opened_as : Follow → Option ℕ → ℤ → List Fields → Option Tree → Option Tree → Follow
opened_as f place cursor ahead upto token = record f { doing = holding; opened = place; cursor = cursor; ahead = ahead; upto = upto; token = token }

-- The reply to an opening is none that a server may give: whatever is kept of it, in no legal history does the log stand.
pub start_garbled : (log log' : link.LogTold) (f : Follow) (place : Option ℕ) (bytes : List ℕ) (cursor : ℤ) (ahead : List Fields) (upto token : Option Tree) → f.doing ≡ starting place → told (asks_watch f.watch f.start) bytes ≡ garbled → Sees log log' place (reply bytes)
    → Moved log log' f (opened_as f place cursor ahead upto token)
start_garbled log log' f place bytes cursor ahead upto token is spoiled sees calls is_told =
    let s = sees calls is_told in
    let f' = opened_as f place cursor ahead upto token in
    let never = λ (kn : KnowsStarting calls f place) (history : List Step) (legal : IsLegal history) (stands : Stands calls history) (stands' : Stands (see s.0 (reply bytes) calls) history).
    let h = heard_at s.0 bytes calls s.1 history s.3 stands' in
    let asks = ap asked h.command ∙ kn.watches s.0 s.1 s.2 s.3 in
    let tells : AfterStart history f.watch f.start h.position garbled = subst (λ (t : Told). AfterStart history f.watch f.start h.position t) (told_heard h.step bytes (asks_watch f.watch f.start) asks h.fits ∙ spoiled) (kn.coming history legal stands h.position h.step (s.0, s.2, h.took)) in
    tells in (
      see s.0 (reply bytes) calls,
      s.5,
      moved_seen s.0 (reply bytes) calls s.1 f f' s.3 s.4 refl
          (λ k history legal stands stands' x owns. absurd (never (known_as calls f (starting place) is k) history legal stands stands'))
          (λ k history legal stands stands' x of ne. absurd (never (known_as calls f (starting place) is k) history legal stands stands'))
          (λ k.
          let kn = known_as calls f (starting place) is k in
          record {
            opened = record { at = s.0; is = s.2; call = record s.1 { seen = reply bytes }; bytes = bytes; found = see_here s.0 (reply bytes) calls s.1 s.3; watches = kn.watches s.0 s.1 s.2 s.3; heard = refl };
            facts = λ history legal stands' position placed.
                let stands = stands_unseen s.0 (reply bytes) calls s.1 history s.3 s.4 stands' in
                absurd (never kn history legal stands stands');
          }),
    )
