-- The turns of follows that watch nothing: no server takes their aggregates.
use Rattle.std.proofs.Common.{◌≡◌, ℕ, List, [], Option, Some, None, refl, sym, ap, ◌∙◌, subst}
use Rattle.mg_bson.specs.Tree.{Tree}
use Rattle.mg_link.specs.declared.action.Step.TheVariants as step
use Rattle.mg_link.specs.declared.error.Error.{Error}
use Rattle.mg_link.specs.Exec.{Sending, ticket_of}
use Rattle.mg_link.specs.Link.{Awaited, LogTold}
use Rattle.mg_link.specs.Log.{Call}
use Rattle.mg_server.specs.Owner.{Onward, nobody}
use Rattle.mg_server.proofs.Apart.{holds_nobody, passes_on, passes_same}
use Rattle.mg_change.specs.Following.{AsksNothing}
use Rattle.mg_change.specs.Growths.{GoesOnward, HasCommand, IsInFlight, OpensInVain, StandsNowhere}
use Rattle.mg_change.specs.ClientOpenings.{sending_ticket}
use Rattle.mg_change.specs.ClosingStreams.{ClosingStream}
use Rattle.mg_change.specs.OpeningView.{IsPlainOpening, opening_of}
use Rattle.mg_change.specs.StreamView.{stream_of}
use Rattle.mg_change.specs.Sent.{Sent}
use Rattle.mg_change.proofs.Growths.{passes_nowhere, still_nowhere}
use Rattle.mg_bson.specs.Tree.{Fields}
use Rattle.mg_change.specs.declared.opening.Opening.{Opening}
use Rattle.mg_change.specs.declared.stream.ChangeStream.{ChangeStream}
use Rattle.mg_players.specs.Follows.{EndsSo, FollowsNothing, HasGiven, HasNothing, IsFailed, IsInOrder, IsInVain, IsUnwatched, NeverFollowed, VainMoves, events_of, token_at}
use Rattle.mg_players.specs.Playing.{stage_ticket}
use Rattle.mg_script.specs.declared.outcome.Ended.{Ended}
use Rattle.mg_script.specs.declared.outcome.Ended.TheVariants as ended
use Rattle.mg_players.specs.declared.follow.FollowPlayer.{FollowPlayer}
use Rattle.mg_players.specs.declared.follow.Stage.{Stage}
use Rattle.mg_players.specs.declared.follow.Stage.TheVariants as stage
use Rattle.mg_players.proofs.Turning.{KeepsNothing, KeepsOpen, SameParts, ends_given, never_opened, nothing_kept, parts_order, unfinished_not_given}

-- ---- others

same_flight : (old new : Awaited) (calls : List Call) (exec : Option Sending) (command : List ℕ) (ticket : Option ℕ) → ((m : ℕ) → ticket ≡ Some m → new m ≡ old m) → HasCommand old calls command ticket → HasCommand new calls command ticket
same_flight old new calls exec command None same has = tt
same_flight old new calls exec command (Some n) same has = (has.0, has.1, same n refl ∙ has.2, has.3, has.4)

same_opening : (old new : Awaited) (calls : List Call) (exec : Option Sending) → ((m : ℕ) → sending_ticket exec ≡ Some m → new m ≡ old m) → IsInFlight old calls exec → IsInFlight new calls exec
same_opening old new calls None same has = tt
same_opening old new calls (Some e) same has = same_flight old new calls (Some e) e.command (ticket_of e) same has

same_vain_at : (old new : Awaited) (calls : List Call) (s : Stage) → ((m : ℕ) → stage_ticket s ≡ Some m → new m ≡ old m) → IsInVain old calls s → IsInVain new calls s
same_vain_at old new calls stage.Unopened same v = tt
same_vain_at old new calls (stage.Opens opening) same v = (v.0, v.1, same_opening old new calls (opening_of opening).sending same v.2)
same_vain_at old new calls (stage.Open stream) same v = tt
same_vain_at old new calls (stage.Closes closing) same v = tt
same_vain_at old new calls stage.Ended same v = tt

-- Its own ticket goes with the same call.
pub same_vain : (old new : Awaited) (calls : List Call) (s : Stage) (p : FollowPlayer) → ((m : ℕ) → stage_ticket s ≡ Some m → new m ≡ old m) → FollowsNothing old calls s p → FollowsNothing new calls s p
same_vain old new calls s p same v = record { unwatched = v.unwatched; vain = same_vain_at old new calls s same v.vain; in_order = v.in_order; never = v.never }

kept_flight : (awaited : Awaited) (calls calls' : List Call) (command : List ℕ) (ticket : Option ℕ) → Onward calls calls' nobody → HasCommand awaited calls command ticket → HasCommand awaited calls' command ticket
kept_flight awaited calls calls' command None onward has = tt
kept_flight awaited calls calls' command (Some n) onward has =
    let k = onward.grown.keeps has.0 has.1 has.3 in
    (has.0, k.0, has.2, k.1, k.2 ∙ has.4)

kept_opening : (awaited : Awaited) (calls calls' : List Call) (exec : Option Sending) → Onward calls calls' nobody → IsInFlight awaited calls exec → IsInFlight awaited calls' exec
kept_opening awaited calls calls' None onward has = tt
kept_opening awaited calls calls' (Some e) onward has = kept_flight awaited calls calls' e.command (ticket_of e) onward has

kept_vain_at : (awaited : Awaited) (calls calls' : List Call) (s : Stage) → Onward calls calls' nobody → IsInVain awaited calls s → IsInVain awaited calls' s
kept_vain_at awaited calls calls' stage.Unopened onward v = tt
kept_vain_at awaited calls calls' (stage.Opens opening) onward v = (v.0, v.1, kept_opening awaited calls calls' (opening_of opening).sending onward v.2)
kept_vain_at awaited calls calls' (stage.Open stream) onward v = tt
kept_vain_at awaited calls calls' (stage.Closes closing) onward v = tt
kept_vain_at awaited calls calls' stage.Ended onward v = tt

-- What others do changes nothing of it.
pub kept_vain : (awaited : Awaited) (calls calls' : List Call) (s : Stage) (p : FollowPlayer) → Onward calls calls' nobody → FollowsNothing awaited calls s p → FollowsNothing awaited calls' s p
kept_vain awaited calls calls' s p onward v =
    record { unwatched = v.unwatched; vain = kept_vain_at awaited calls calls' s onward v.vain; in_order = v.in_order; never = λ given. still_nowhere calls calls' onward (v.never given) }

-- ---- one turn

-- nothing was sent
vain_stays : (awaited : Awaited) (log : LogTold) (s : Stage) (p : FollowPlayer) (s' : Stage) (p' : FollowPlayer) → ((calls : List Call) → FollowsNothing awaited calls s p → FollowsNothing awaited calls s' p') → VainMoves awaited awaited log log s p s' p'
vain_stays awaited log s p s' p' on calls told v = (calls, told, on calls v, passes_same calls nobody (holds_nobody calls))

-- an open stream of it goes on: no honest server could have given the log
vain_grows : (old new : Awaited) (log log' : LogTold) (s : Stage) (p : FollowPlayer) (s' : Stage) (p' : FollowPlayer) → GoesOnward log log' → p'.watched ≡ p.watched → (IsInOrder p s → HasGiven p.opened) → (IsInOrder p s → IsInOrder p' s') → ((calls : List Call) → IsInVain new calls s') → VainMoves old new log log' s p s' p'
vain_grows old new log log' s p s' p' grows same given order vain calls told v =
    let m = grows calls told in
    let nowhere = v.never (given v.in_order) in (
      m.0,
      m.1,
      record { unwatched = subst (λ x. IsUnwatched x) (sym same) v.unwatched; vain = vain m.0; in_order = order v.in_order; never = λ g. still_nowhere calls m.0 m.2 nowhere },
      passes_nowhere calls m.0 m.2 nowhere,
    )

-- One part of a turn after another.
pub vain_on : (old mid new : Awaited) (log log_mid log' : LogTold) (s : Stage) (p : FollowPlayer) (s_mid : Stage) (p_mid : FollowPlayer) (s' : Stage) (p' : FollowPlayer) → VainMoves old mid log log_mid s p s_mid p_mid → VainMoves mid new log_mid log' s_mid p_mid s' p' → VainMoves old new log log' s p s' p'
vain_on old mid new log log_mid log' s p s_mid p_mid s' p' first second calls told v =
    let a = first calls told v in
    let b = second a.0 a.1 a.2 in
    (b.0, b.1, b.2, passes_on calls a.0 b.0 nobody nobody nobody a.3 b.3)

pub vain_same : (awaited : Awaited) (log : LogTold) (s : Stage) (p : FollowPlayer) → VainMoves awaited awaited log log s p s p
vain_same awaited log s p = vain_stays awaited log s p s p (λ calls v. v)

pub vain_ended : (awaited : Awaited) (log : LogTold) (s : Stage) (p : FollowPlayer) → s ≡ stage.Ended → VainMoves awaited awaited log log s p stage.Ended p
vain_ended awaited log s p is = subst (λ x. VainMoves awaited awaited log log x p stage.Ended p) (sym is) (vain_same awaited log stage.Ended p)

-- the same follow, of which its stage was taken out
pub vain_parts : (awaited : Awaited) (calls : List Call) (s : Stage) (p t : FollowPlayer) → SameParts p t → FollowsNothing awaited calls s p → FollowsNothing awaited calls s t
vain_parts awaited calls s p t same v =
    record { unwatched = subst (λ x. IsUnwatched x) (sym same.watched) v.unwatched; vain = v.vain; in_order = parts_order s p t same v.in_order; never = λ given. v.never (subst (λ o. HasGiven o) same.opened given) }

pub vain_other : (old new : Awaited) (log log' : LogTold) (s s0 : Stage) (p t : FollowPlayer) (s' : Stage) (q r : FollowPlayer) → s ≡ s0 → SameParts p t → SameParts q r → r.stage ≡ s' → VainMoves old new log log' s t s' q → VainMoves old new log log' s0 p r.stage r
vain_other old new log log' s s0 p t s' q r from before behind at moves calls told v =
    let m = moves calls told (vain_parts old calls s p t before (subst (λ x. FollowsNothing old calls x p) (sym from) v)) in
    (m.0, m.1, subst (λ x. FollowsNothing new m.0 x r) (sym at) (vain_parts new m.0 s' q r behind m.2), m.3)

-- ---- the arms of a turn

failed_not_given : {A : Type 0} (o : Ended A) → IsFailed o → HasGiven o → ⊥
failed_not_given ended.Unfinished failed given = given
failed_not_given (ended.Gave x) failed given = failed
failed_not_given (ended.Failed e) failed given = given

-- The arguments of the watch were not built.
pub vain_begin_failed : (awaited : Awaited) (log : LogTold) (p p' : FollowPlayer) → KeepsNothing p p' → IsFailed p'.opened → VainMoves awaited awaited log log stage.Unopened p stage.Ended p'
vain_begin_failed awaited log p p' same failed =
    vain_stays awaited log stage.Unopened p stage.Ended p' (λ calls v. record {
      unwatched = subst (λ x. IsUnwatched x) (sym same.watched) v.unwatched;
      vain = tt;
      in_order = never_opened p'.opened p' failed (nothing_kept p p' same.answers same.token v.in_order.1);
      never = λ given. absurd (failed_not_given p'.opened failed given);
    })

-- The watch is to be opened.
pub vain_begins : (awaited : Awaited) (log : LogTold) (p : FollowPlayer) (opening : Opening Fields) → (IsUnwatched p.watched → AsksNothing (opening_of opening).args) → IsPlainOpening opening → (opening_of opening).sending ≡ None → VainMoves awaited awaited log log stage.Unopened p (stage.Opens opening) p
vain_begins awaited log p opening asks sent none =
    vain_stays awaited log stage.Unopened p (stage.Opens opening) p (λ calls v. record {
      unwatched = v.unwatched;
      vain = (asks v.unwatched, sent, subst (λ (x : Option Sending). IsInFlight awaited calls x) (sym none) tt);
      in_order = v.in_order;
      never = v.never;
    })

-- The reply to the opening pends.
pub vain_open_pends : (old new : Awaited) (log log' : LogTold) (p : FollowPlayer) (opening opening' : Opening Fields) → (opening_of opening').args ≡ (opening_of opening).args → (IsPlainOpening opening → IsPlainOpening opening')
    → (IsPlainOpening opening → AsksNothing (opening_of opening).args → OpensInVain old new log log' (opening_of opening).sending (step.Pending (opening_of opening'))) → VainMoves old new log log' (stage.Opens opening) p (stage.Opens opening') p
vain_open_pends old new log log' p opening opening' args sent vain calls told v =
    let m = vain v.vain.1 v.vain.0 calls told v.vain.2 in (
      m.0,
      m.1,
      record {
        unwatched = v.unwatched;
        vain = (subst (λ a. AsksNothing a) (sym args) v.vain.0, sent v.vain.1, m.3);
        in_order = v.in_order;
        never = λ given. absurd (unfinished_not_given p.opened v.in_order.0 given);
      },
      m.2,
    )

-- It failed.
pub vain_open_failed : (old new : Awaited) (log log' : LogTold) (p p' : FollowPlayer) (opening : Opening Fields) (e : Error) → KeepsNothing p p' → IsFailed p'.opened
    → (IsPlainOpening opening → AsksNothing (opening_of opening).args → OpensInVain old new log log' (opening_of opening).sending (step.Failed e)) → VainMoves old new log log' (stage.Opens opening) p stage.Ended p'
vain_open_failed old new log log' p p' opening e same failed vain calls told v =
    let m = vain v.vain.1 v.vain.0 calls told v.vain.2 in (
      m.0,
      m.1,
      record {
        unwatched = subst (λ x. IsUnwatched x) (sym same.watched) v.unwatched;
        vain = tt;
        in_order = never_opened p'.opened p' failed (nothing_kept p p' same.answers same.token v.in_order.1);
        never = λ given. absurd (failed_not_given p'.opened failed given);
      },
      m.2,
    )

-- The stream is open.
pub vain_open_done : (old new : Awaited) (log log' : LogTold) (p p' : FollowPlayer) (opening : Opening Fields) (stream : ChangeStream Fields) → KeepsNothing p p' → HasGiven p'.opened
    → (IsPlainOpening opening → AsksNothing (opening_of opening).args → OpensInVain old new log log' (opening_of opening).sending (step.Done (stream_of stream))) → VainMoves old new log log' (stage.Opens opening) p (stage.Open stream) p'
vain_open_done old new log log' p p' opening stream same given vain calls told v =
    let m = vain v.vain.1 v.vain.0 calls told v.vain.2 in
    (m.0, m.1, record { unwatched = subst (λ x. IsUnwatched x) (sym same.watched) v.unwatched; vain = tt; in_order = given; never = λ g. m.3 }, m.2)

-- The stream is to be closed.
pub vain_to_close : (awaited : Awaited) (log : LogTold) (p p' : FollowPlayer) (stream : ChangeStream Fields) (closing : ClosingStream) → KeepsOpen p p' → VainMoves awaited awaited log log (stage.Open stream) p (stage.Closes closing) p'
vain_to_close awaited log p p' stream closing same =
    vain_stays awaited log (stage.Open stream) p (stage.Closes closing) p' (λ calls v. record {
      unwatched = subst (λ x. IsUnwatched x) (sym same.watched) v.unwatched;
      vain = tt;
      in_order = subst (λ o. HasGiven o) (sym same.opened) v.in_order;
      never = λ given. v.never v.in_order;
    })

sent_grows : (log log' : LogTold) (commands : List Fields) → Sent log log' commands → GoesOnward log log'
sent_grows log log' commands sent calls told = let m = sent calls told in (m.0, m.1, m.3)

-- A call of the stream pends, or answered.
pub vain_call : (old new : Awaited) (log log' : LogTold) (p p' : FollowPlayer) (stream stream' : ChangeStream Fields) (commands : List Fields) → p'.watched ≡ p.watched → p'.opened ≡ p.opened → Sent log log' commands → VainMoves old new log log' (stage.Open stream) p (stage.Open stream') p'
vain_call old new log log' p p' stream stream' commands watched opened sent =
    vain_grows old new log log' (stage.Open stream) p (stage.Open stream') p' (sent_grows log log' commands sent) watched (λ order. order) (λ order. subst (λ o. HasGiven o) (sym opened) order) (λ calls. tt)

-- The killing of its cursors pends.
pub vain_close_pends : (old new : Awaited) (log log' : LogTold) (p : FollowPlayer) (closing closing' : ClosingStream) → GoesOnward log log' → VainMoves old new log log' (stage.Closes closing) p (stage.Closes closing') p
vain_close_pends old new log log' p closing closing' grows = vain_grows old new log log' (stage.Closes closing) p (stage.Closes closing') p grows refl (λ order. order) (λ order. order) (λ calls. tt)

-- The stream is closed, or its closing failed.
pub vain_close_ends : (old new : Awaited) (log log' : LogTold) (p p' : FollowPlayer) (closing : ClosingStream) → KeepsOpen p p' → GoesOnward log log' → VainMoves old new log log' (stage.Closes closing) p stage.Ended p'
vain_close_ends old new log log' p p' closing same grows =
    vain_grows old new log log' (stage.Closes closing) p stage.Ended p' grows same.watched (λ order. order) (λ order. ends_given p'.opened p' (subst (λ o. HasGiven o) (sym same.opened) order)) (λ calls. tt)

-- ---- what it comes to

ends_nothing : {A : Type 0} (o : Ended A) (p : FollowPlayer) → EndsSo o p → (HasGiven o → ⊥) → HasNothing p
ends_nothing ended.Unfinished p so none = so
ends_nothing (ended.Gave x) p so none = absurd (none tt)
ends_nothing (ended.Failed e) p so none = so

pub nothing_at : (s : Stage) (p : FollowPlayer) → IsInOrder p s → (HasGiven p.opened → ⊥) → (events_of p.answers.items ≡ []) × (token_at s p.token ≡ None)
nothing_at stage.Unopened p order none = (ap events_of order.1.no_answer, refl)
nothing_at (stage.Opens opening) p order none = (ap events_of order.1.no_answer, refl)
nothing_at (stage.Open stream) p order none = absurd (none order)
nothing_at (stage.Closes closing) p order none = absurd (none order)
nothing_at stage.Ended p order none = let n = ends_nothing p.opened p order none in (ap events_of n.no_answer, n.no_token)

never_by : {A : Type 0} (calls : List Call) (o : Ended A) (answered : List Fields) (token : Option Tree) → ((HasGiven o → ⊥) → (answered ≡ []) × (token ≡ None)) → (HasGiven o → StandsNowhere calls) → NeverFollowed o calls answered token
never_by calls ended.Unfinished answered token none never = none (λ given. given)
never_by calls (ended.Gave x) answered token none never = never tt
never_by calls (ended.Failed e) answered token none never = none (λ given. given)

pub outcome_vain : (awaited : Awaited) (calls : List Call) (s : Stage) (p : FollowPlayer) → FollowsNothing awaited calls s p → NeverFollowed p.opened calls (events_of p.answers.items) (token_at s p.token)
outcome_vain awaited calls s p v = never_by calls p.opened (events_of p.answers.items) (token_at s p.token) (nothing_at s p v.in_order) v.never
