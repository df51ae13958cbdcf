-- What an insert tells goes on to hold, turn by turn.
use Rattle.std.proofs.Common.{◌≡◌, ◌⊎◌, ℕ, ℤ, true, List, [], length, Some, refl, sym, ap, ◌∙◌, subst, inl, inr, Bool, append-nil}
use Rattle.mg_bson.specs.Tree.{Fields}
use Rattle.mg_server.specs.Calls.{Grows, Past, past_of, AddsOnly}
use Rattle.mg_link.specs.Errors.{plain}
use Rattle.mg_link.specs.Link.{Awaited, LogTold}
use Rattle.mg_link.specs.Log.{Call}
use Rattle.mg_link.specs.Namespace.{Space}
use Rattle.mg_link.specs.declared.action.Step.{Step}
use Rattle.mg_link.specs.declared.action.Step.TheVariants as step
use Rattle.mg_link.specs.declared.error.Error.{Error}
use Rattle.mg_link.specs.declared.error.ErrorKind.TheVariants as kind
use Rattle.mg_server.proofs.Owners.{same_some}
use Rattle.mg_ops.specs.Appended.{Appended}
use Rattle.mg_players.specs.Causes.{EndsBy, EndsSent, sent_at}
use Rattle.mg_ops.specs.InsertCauses.{HasSent, InsertCaused, InsertFails, IsInsertOf, no_memory}
use Rattle.mg_players.specs.Playing.{end_of, inserts_ended, inserts_ticket}
use Rattle.mg_players.specs.Progress.{InsertAt}
use Rattle.mg_ops.specs.Drawn.{with_ids}
use Rattle.mg_players.specs.Telling.{InsertTells, InsertTurns, StageSends, StageSent, TellsOn}
use Rattle.mg_players.specs.Drawing.{HadTurn}
use Rattle.mg_ops.specs.InsertSends.{InsertPieces, SendsOn}
use Rattle.mg_ops.specs.Underway.{GivesCount, HasInserted, Inserts, IsStarted}
use Rattle.mg_ops.specs.declared.inserting.Inserting.{Inserting}
use Rattle.mg_script.specs.declared.outcome.Ended.{Ended}
use Rattle.mg_script.specs.declared.outcome.Ended.TheVariants as ended
use Rattle.mg_players.specs.declared.insert.InsertStage.{InsertStage}
use Rattle.mg_players.specs.declared.insert.InsertStage.TheVariants as inserts
use Rattle.mg_server.proofs.Adding.{adds_none}
use Rattle.mg_ops.proofs.Appending.{appended_grown, sent_length}
use Rattle.mg_ops.proofs.InsertCauses.{insert_fails_grow, inserts_begin, inserts_grow}
use Rattle.mg_ops.proofs.InsertSends.{poll_sends, starts_sent}
use Rattle.mg_ops.proofs.Logs.{just_none}
use Rattle.mg_ops.proofs.Sendings.{has_grown, started}

-- ---- before its first turn

-- an insert that drew its ids
pub begun_tells : (awaited : Awaited) (past : Past) (at : Space) (ds : List Fields) (i : Inserting) → IsStarted at ds i → InsertTells awaited past at ds (inserts.Goes i)
begun_tells awaited past at ds i is = (inserts_begin awaited past at ds i is, λ named. started awaited past at ds i is)

-- one for whose ids there was no memory
pub unbegun_tells : (awaited : Awaited) (past : Past) (at : Space) (ds : List Fields) (e : Error) → e ≡ plain kind.OutOfMemory → InsertTells awaited past at ds (inserts.Ended (ended.Failed e))
unbegun_tells awaited past at ds e room = no_memory (ap (λ (x : Error). x.kind) room)

-- the two have sent nothing
pub begun_sent : (at : Space) (ds : List Fields) (i : Inserting) → IsStarted at ds i → StageSent at ds [] (inserts.Goes i)
begun_sent at ds i is = starts_sent at ds i is

pub unbegun_sent : (at : Space) (ds : List Fields) (e : Error) → StageSent at ds [] (inserts.Ended (ended.Failed e))
unbegun_sent at ds e = (0, refl)

-- ---- its own turns

pub stage_stays : (awaited : Awaited) (log : LogTold) (wire : ℤ) (at : Space) (ds : List Fields) (s : InsertStage) → InsertTurns awaited awaited log log wire at ds s s
stage_stays awaited log wire at ds s calls calls' told told' places t = subst (λ (c : List Call). InsertTells awaited (past_of places (length calls) c wire) at ds s × AddsOnly (IsInsertOf at ds) calls c) (same_some calls calls' (sym told ∙ told')) (t, adds_none (IsInsertOf at ds) calls)

module _ (old new : Awaited) (log log' : LogTold) (wire : ℤ) (at : Space) (ds : List Fields) (i : Inserting) where
  -- what it sent inserts some of its documents
  stage_adds : (result : Step Inserting ℕ) → InsertCaused old new log log' wire i result → (calls calls' : List Call) → log ≡ Some calls → log' ≡ Some calls' → (places : List ℕ) → InsertTells old (sent_at places calls wire) at ds (inserts.Goes i) → AddsOnly (IsInsertOf at ds) calls calls'
  stage_adds result caused calls calls' told told' places t = let x = caused calls told places at ds t.0 in subst (λ (c : List Call). AddsOnly (IsInsertOf at ds) calls c) (same_some x.0 calls' (sym x.1 ∙ told')) x.3

  pub stage_waits : (i' : Inserting) → InsertCaused old new log log' wire i (step.Pending i') → Inserts old new log log' i (step.Pending i') → InsertTurns old new log log' wire at ds (inserts.Goes i) (inserts.Goes i')
  stage_waits i' caused sends calls calls' told told' places t = (
    (
      (let x = caused calls told places at ds t.0 in subst (λ (c : List Call). HasSent new (past_of places (length calls) c wire) at ds i') (same_some x.0 calls' (sym x.1 ∙ told')) x.2),
      (λ named. let x = sends calls told places wire at ds named (t.1 named) in subst (λ (c : List Call). HasInserted new (past_of places (length calls) c wire) at ds i') (same_some x.0 calls' (sym x.1 ∙ told')) x.2),
    ),
    stage_adds (step.Pending i') caused calls calls' told told' places t,
  )

  pub stage_done : (n : ℕ) → n ≡ length i.batches.documents.now → InsertCaused old new log log' wire i (step.Done n) → Inserts old new log log' i (step.Done n) → InsertTurns old new log log' wire at ds (inserts.Goes i) (inserts.Ended (ended.Gave n))
  stage_done n count caused sends calls calls' told told' places t = (
    (count ∙ sym (sent_length i.batches.drawn.items i.batches.documents.now) ∙ ap (λ (l : List Fields). length l) t.0.sent_is, λ named. let x = sends calls told places wire at ds named (t.1 named) in subst (λ (c : List Call). Appended (past_of places (length calls) c wire) at ds n) (same_some x.0 calls' (sym x.1 ∙ told')) x.2),
    stage_adds (step.Done n) caused calls calls' told told' places t,
  )

  pub stage_fails : (e : Error) → InsertCaused old new log log' wire i (step.Failed e) → InsertTurns old new log log' wire at ds (inserts.Goes i) (inserts.Ended (ended.Failed e))
  stage_fails e caused calls calls' told told' places t = (
    (let x = caused calls told places at ds t.0 in subst (λ (c : List Call). InsertFails (past_of places (length calls) c wire) at ds e) (same_some x.0 calls' (sym x.1 ∙ told')) x.2),
    stage_adds (step.Failed e) caused calls calls' told told' places t,
  )

-- what it sends in one
pub sends_none : (log : LogTold) (at : Space) (ds : List Fields) (s : InsertStage) → StageSends log log at ds s s
sends_none log at ds s commands so = ([], just_none log log refl, subst (λ (l : List Fields). StageSent at ds l s) (sym (append-nil commands)) so)

module _ (log log' : LogTold) (at : Space) (ds : List Fields) (i : Inserting) where
  pub waits_sent : (i' : Inserting) → GivesCount i (step.Pending i') → SendsOn log log' i (step.Pending i') → StageSends log log' at ds (inserts.Goes i) (inserts.Goes i')
  waits_sent i' same sends commands so = poll_sends log log' at ds commands i so (step.Pending i') same sends

  pub done_sent : (n : ℕ) → GivesCount i (step.Done n) → SendsOn log log' i (step.Done n) → StageSends log log' at ds (inserts.Goes i) (inserts.Ended (ended.Gave n))
  done_sent n count sends commands so = poll_sends log log' at ds commands i so (step.Done n) count sends

  pub fails_sent : (e : Error) → SendsOn log log' i (step.Failed e) → StageSends log log' at ds (inserts.Goes i) (inserts.Ended (ended.Failed e))
  fails_sent e sends commands so = poll_sends log log' at ds commands i so (step.Failed e) tt sends

-- An insert that got ready tells what it told, where these are the documents that it sends with the ids of its source.
pub stage_on : (ids : ℕ → List ℕ) (at : Space) (ds sent : List Fields) (awaited : Awaited) (past : Past) (s s' : InsertStage) → TellsOn ids at ds s s' → (s ≡ inserts.Unsent → sent ≡ with_ids ids 0 ds) → InsertTells awaited past at sent s → InsertTells awaited past at sent s'
stage_on ids at ds sent awaited past inserts.Unsent s' on drawn t = subst (λ (l : List Fields). InsertTells awaited past at l s') (sym (drawn refl)) (on.tells awaited past)
stage_on ids at ds sent awaited past (inserts.Goes i) s' on drawn t = subst (λ (x : InsertStage). InsertTells awaited past at sent x) (sym on) t
stage_on ids at ds sent awaited past (inserts.Ended end) s' on drawn t = subst (λ (x : InsertStage). InsertTells awaited past at sent x) (sym on) t

-- and has sent what it had sent
pub sent_on : (ids : ℕ → List ℕ) (at : Space) (ds sent commands : List Fields) (s s' : InsertStage) → TellsOn ids at ds s s' → (s ≡ inserts.Unsent → sent ≡ with_ids ids 0 ds) → StageSent at sent commands s → StageSent at sent commands s'
sent_on ids at ds sent commands inserts.Unsent s' on drawn none = subst (λ (l : List Fields). StageSent at sent l s') (sym none) (subst (λ (l : List Fields). StageSent at l [] s') (sym (drawn refl)) on.sent)
sent_on ids at ds sent commands (inserts.Goes i) s' on drawn so = subst (λ (x : InsertStage). StageSent at sent commands x) (sym on) so
sent_on ids at ds sent commands (inserts.Ended end) s' on drawn so = subst (λ (x : InsertStage). StageSent at sent commands x) (sym on) so

-- the same over the same wire version, by another name
pub turns_over : (old new : Awaited) (log log' : LogTold) (wire wire' : ℤ) (at : Space) (ds : List Fields) (s s' : InsertStage) → wire' ≡ wire → InsertTurns old new log log' wire at ds s s' → InsertTurns old new log log' wire' at ds s s'
turns_over old new log log' wire wire' at ds s s' same turns = subst (λ (w : ℤ). InsertTurns old new log log' w at ds s s') (sym same) turns

-- an insert goes on where it was after so many turns, unless it has ended
pub none_done : (s : InsertStage) (done : ℕ) (last : Bool) → InsertAt s done last → (0 ≡ done) ⊎ (inserts_ended s ≡ true)
none_done inserts.Unsent done last at = inl (sym at.0)
none_done (inserts.Goes i) done last at = inl (sym at.0)
none_done (inserts.Ended end) done last at = inr refl

-- ---- a later time

module _ (past past' : Past) (grows : Grows past past') (at : Space) (ds : List Fields) where
  ends_grow : (end : Ended ℕ) → EndsBy past at ds end → EndsBy past' at ds end
  ends_grow ended.Unfinished t = tt
  ends_grow (ended.Gave n) t = (t.0, λ named. appended_grown past past' at ds n grows (t.1 named))
  ends_grow (ended.Failed e) t = insert_fails_grow past past' grows at ds e t

  pub insert_tells_grow : (old new : Awaited) (s : InsertStage) → ((m : ℕ) → inserts_ticket s ≡ Some m → new m ≡ old m) → InsertTells old past at ds s → InsertTells new past' at ds s
  insert_tells_grow old new inserts.Unsent same t = tt
  insert_tells_grow old new (inserts.Goes i) same t = (inserts_grow past past' grows at ds old new i same t.0, λ named. has_grown old new past past' grows at ds i same (t.1 named))
  insert_tells_grow old new (inserts.Ended end) same t = ends_grow end t

-- It tells the same of other documents before it had a turn.
pub stage_of_others : (awaited : Awaited) (past : Past) (at : Space) (ds ds' : List Fields) (had : Bool) (s : InsertStage) → HadTurn had s → (had ≡ true → ds' ≡ ds) → InsertTells awaited past at ds s → InsertTells awaited past at ds' s
stage_of_others awaited past at ds ds' had inserts.Unsent turn same t = tt
stage_of_others awaited past at ds ds' had (inserts.Goes i) turn same t = subst (λ (l : List Fields). InsertTells awaited past at l (inserts.Goes i)) (sym (same turn)) t
stage_of_others awaited past at ds ds' had (inserts.Ended end) turn same t = subst (λ (l : List Fields). InsertTells awaited past at l (inserts.Ended end)) (sym (same turn)) t

-- So it is with what it sent.
pub sent_of_others : (at : Space) (ds ds' commands : List Fields) (had : Bool) (s : InsertStage) → HadTurn had s → (had ≡ true → ds' ≡ ds) → StageSent at ds commands s → StageSent at ds' commands s
sent_of_others at ds ds' commands had inserts.Unsent turn same so = so
sent_of_others at ds ds' commands had (inserts.Goes i) turn same so = subst (λ (l : List Fields). StageSent at l commands (inserts.Goes i)) (sym (same turn)) so
sent_of_others at ds ds' commands had (inserts.Ended end) turn same so = subst (λ (l : List Fields). StageSent at l commands (inserts.Ended end)) (sym (same turn)) so

-- ---- at the end

pub ends_of : (awaited : Awaited) (past : Past) (at : Space) (ds : List Fields) (s : InsertStage) → InsertTells awaited past at ds s → EndsBy past at ds (end_of s)
ends_of awaited past at ds inserts.Unsent t = tt
ends_of awaited past at ds (inserts.Goes i) t = tt
ends_of awaited past at ds (inserts.Ended end) t = t

pub ends_sent : (at : Space) (ds commands : List Fields) (s : InsertStage) → StageSent at ds commands s → EndsSent at ds commands (end_of s)
ends_sent at ds commands inserts.Unsent none = (0, subst (λ (l : List Fields). InsertPieces at ds 0 l 0) (sym none) refl)
ends_sent at ds commands (inserts.Goes i) so = (i.batches.upto, so.pieces)
ends_sent at ds commands (inserts.Ended end) so = so
