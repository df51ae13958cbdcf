use Rattle.std.proofs.Common.{◌≡◌, ℕ, true, false, List, None, refl, sym, ap, ◌∙◌, subst}
use Rattle.mg_link.specs.Acts.{IsOut}
use Rattle.mg_link.specs.Exec.{ticket_of}
use Rattle.mg_link.specs.Moment.{moment}
use Rattle.mg_cursor.specs.Client.{ClientCursor, at_rest, holds}
use Rattle.mg_cursor.specs.Closing.{IsNotAsking, closing_ticket}
use Rattle.mg_cursor.specs.View.{client_of}
use Rattle.mg_cursor.proofs.Hearing.{keeps_from}
use Rattle.mg_change.specs.ClientStreams.{ClientStream, IsHolding, kills, renewed, resumes, stream_ticket, ticket_by}
use Rattle.mg_change.specs.Steps.{DoesStep, LooksAt, closes, renews, waits_resumption}
use Rattle.mg_change.specs.StreamCalls.{steps_left}
use Rattle.mg_change.specs.StreamView.{IsStream, KeepsOwn, changes_of, doing_of}
use Rattle.mg_change.specs.declared.changes.Changes.{Changes}
use Rattle.mg_change.specs.declared.changes.Phase.{Phase}
use Rattle.mg_change.specs.declared.changes.Phase.TheVariants as phase
use Rattle.mg_change.specs.declared.event_poll.Stepped.{Stepped}
use Rattle.mg_change.proofs.Linking.{placed_saved, saved_is}
use Rattle.mg_change.proofs.Parts.{by_phase, close_any, falls_from, look_any, looked_falls, looked_keeps, owns_still, phase_back, phase_same, run_any, saved_still, saves_phase}
use Rattle.mg_change.proofs.Turning.{held_reply}
use Rattle.mg_change.proofs.changes.Changes.step.Goals as goal

-- ---- it goes on with its cursor

pub follow-requires-clause-held : goal.follow-requires-clause-held
follow-requires-clause-held g c = subst (λ (s : Changes). IsOut (g.L.Link.awaited c.args.link.now) (stream_ticket (changes_of s))) (sym (phase_same c.args.self.now c.take_phase.new.self c.take_phase.ensures.rest c.in-Follows.ensures.taken)) c.requires.held

pub follow-requires-clause-sound : goal.follow-requires-clause-sound
follow-requires-clause-sound g c = subst (IsStream false) (sym (phase_same c.args.self.now c.take_phase.new.self c.take_phase.ensures.rest c.in-Follows.ensures.taken)) c.requires.sound

pub follow-requires-clause-given : goal.follow-requires-clause-given
follow-requires-clause-given g c = ap (λ (s : Changes). (changes_of s).current) (phase_same c.args.self.now c.take_phase.new.self c.take_phase.ensures.rest c.in-Follows.ensures.taken) ∙ c.requires.given

pub follow-requires-clause-follows : goal.follow-requires-clause-follows
follow-requires-clause-follows g c = ap (λ (s : Changes). (changes_of s).doing) c.take_phase.ensures.rest

pub returns-in-Follows-clause-keeps : goal.returns-in-Follows-clause-keeps
returns-in-Follows-clause-keeps g c = keeps_from _ _ (stream_ticket (changes_of c.take_phase.new.self)) (stream_ticket (changes_of c.args.self.now)) _ _ (ap (λ (s : Changes). stream_ticket (changes_of s)) (phase_same c.args.self.now c.take_phase.new.self c.take_phase.ensures.rest c.in-Follows.ensures.taken)) c.follow.ensures.keeps

pub returns-in-Follows-clause-does : goal.returns-in-Follows-clause-does
returns-in-Follows-clause-does g c =
    let did = c.follow.ensures.does in
    (did.0, subst (λ (s : Changes). DoesStep (g.L.Link.awaited c.args.link.now) (g.L.Link.awaited c.follow.new.link) (g.L.Link.log c.args.link.now) (g.L.Link.log c.follow.new.link) (g.L.Link.wire c.args.link.now) (g.H.ClientSessionHandle.asked c.args.handle.now) did.0 (changes_of s) (changes_of c.follow.new.self) c.follow.result) (phase_same c.args.self.now c.take_phase.new.self c.take_phase.ensures.rest c.in-Follows.ensures.taken) did.1, did.2)

pub returns-in-Follows-clause-owned : goal.returns-in-Follows-clause-owned
returns-in-Follows-clause-owned g c = subst (λ (s : Changes). KeepsOwn s.token c.follow.new.self.token) (phase_same c.args.self.now c.take_phase.new.self c.take_phase.ensures.rest c.in-Follows.ensures.taken) c.follow.ensures.owned

pub returns-in-Follows-clause-falls : goal.returns-in-Follows-clause-falls
returns-in-Follows-clause-falls g c = falls_from c.follow.result c.args.self.now phase.Follows (steps_left (doing_of c.follow.new.self.phase)) c.in-Follows.ensures.taken c.follow.ensures.falls

-- ---- a resumption is owed

pub resume-requires-clause-saved : goal.resume-requires-clause-saved
resume-requires-clause-saved g c = saved_still c.args.self.now.token c.take_phase.new.self.token (ap (λ (s : Changes). s.token) c.take_phase.ensures.rest) (saves_phase false c.args.self.now phase.Owes c.in-Owes.ensures.taken c.requires.sound)

pub resume-requires-clause-none_left : goal.resume-requires-clause-none_left
resume-requires-clause-none_left g c = ap (λ (s : Changes). (changes_of s).behind) c.take_phase.ensures.rest ∙ (by_phase false c.args.self.now phase.Owes c.in-Owes.ensures.taken c.requires.sound).none_left

pub resume-requires-clause-quiet : goal.resume-requires-clause-quiet
resume-requires-clause-quiet g c = subst (λ (x : ClientCursor). IsNotAsking x.doing) (sym (ap (λ (s : Changes). (changes_of s).cursor) c.take_phase.ensures.rest)) (by_phase false c.args.self.now phase.Owes c.in-Owes.ensures.taken c.requires.sound).quiet

pub returns-in-Owes-clause-keeps : goal.returns-in-Owes-clause-keeps
returns-in-Owes-clause-keeps g c = keeps_from _ _ None (stream_ticket (changes_of c.args.self.now)) _ _ (ap (λ (q : Phase). ticket_by (client_of c.args.self.now.batches) (doing_of q)) c.in-Owes.ensures.taken) c.resume.ensures.keeps

pub returns-in-Owes-clause-does : goal.returns-in-Owes-clause-does
returns-in-Owes-clause-does g c =
    let did = c.resume.ensures.does in
    (did.0, subst (λ (s : ClientStream). DoesStep (g.L.Link.awaited c.args.link.now) (g.L.Link.awaited c.resume.new.link) (g.L.Link.log c.args.link.now) (g.L.Link.log c.resume.new.link) (g.L.Link.wire c.args.link.now) (g.H.ClientSessionHandle.asked c.args.handle.now) did.0 s (changes_of c.resume.new.self) c.resume.result) (phase_back c.args.self.now c.take_phase.new.self phase.Owes c.take_phase.ensures.rest c.in-Owes.ensures.taken) did.1, did.2)

pub returns-in-Owes-clause-placed : goal.returns-in-Owes-clause-placed
returns-in-Owes-clause-placed g c = placed_saved c.resume.new.self (c.resume.ensures.place ∙ ap (λ (s : Changes). s.token) c.take_phase.ensures.rest ∙ saved_is c.args.self.now.token (saves_phase false c.args.self.now phase.Owes c.in-Owes.ensures.taken c.requires.sound))

pub returns-in-Owes-clause-owned : goal.returns-in-Owes-clause-owned
returns-in-Owes-clause-owned g c = owns_still c.args.self.now.token c.resume.new.self.token (c.resume.ensures.place ∙ ap (λ (s : Changes). s.token) c.take_phase.ensures.rest)

pub returns-in-Owes-clause-falls : goal.returns-in-Owes-clause-falls
returns-in-Owes-clause-falls g c = falls_from c.resume.result c.args.self.now phase.Owes (steps_left (doing_of c.resume.new.self.phase)) c.in-Owes.ensures.taken c.resume.ensures.falls

-- ---- the aggregate of a resumption is on its way

pub wait_for_resumption-requires-clause-held : goal.wait_for_resumption-requires-clause-held
wait_for_resumption-requires-clause-held g c = subst (λ (q : Phase). IsOut (g.L.Link.awaited c.args.link.now) (ticket_by (client_of c.args.self.now.batches) (doing_of q))) (sym c.in-Resumes.ensures.taken) c.requires.held

pub wait_for_resumption-requires-clause-saved : goal.wait_for_resumption-requires-clause-saved
wait_for_resumption-requires-clause-saved g c = saved_still c.args.self.now.token c.take_phase.new.self.token (ap (λ (s : Changes). s.token) c.take_phase.ensures.rest) (saves_phase false c.args.self.now (phase.Resumes c.in-Resumes.exec) c.in-Resumes.ensures.taken c.requires.sound)

pub wait_for_resumption-requires-clause-none_left : goal.wait_for_resumption-requires-clause-none_left
wait_for_resumption-requires-clause-none_left g c = ap (λ (s : Changes). (changes_of s).behind) c.take_phase.ensures.rest ∙ (by_phase false c.args.self.now (phase.Resumes c.in-Resumes.exec) c.in-Resumes.ensures.taken c.requires.sound).0.none_left

pub wait_for_resumption-requires-clause-quiet : goal.wait_for_resumption-requires-clause-quiet
wait_for_resumption-requires-clause-quiet g c = subst (λ (x : ClientCursor). IsNotAsking x.doing) (sym (ap (λ (s : Changes). (changes_of s).cursor) c.take_phase.ensures.rest)) (by_phase false c.args.self.now (phase.Resumes c.in-Resumes.exec) c.in-Resumes.ensures.taken c.requires.sound).0.quiet

pub returns-in-Resumes-clause-keeps : goal.returns-in-Resumes-clause-keeps
returns-in-Resumes-clause-keeps g c = keeps_from _ _ (ticket_of c.in-Resumes.exec) (stream_ticket (changes_of c.args.self.now)) _ _ (ap (λ (q : Phase). ticket_by (client_of c.args.self.now.batches) (doing_of q)) c.in-Resumes.ensures.taken) c.wait_for_resumption.ensures.keeps

pub returns-in-Resumes-clause-does : goal.returns-in-Resumes-clause-does
returns-in-Resumes-clause-does g c =
    let did = c.wait_for_resumption.ensures.runs in
    let ran = run_any (g.L.Link.awaited c.args.link.now) (g.L.Link.awaited c.wait_for_resumption.new.link) (g.L.Link.log c.args.link.now) (g.L.Link.log c.wait_for_resumption.new.link) (g.L.Link.wire c.args.link.now) did.0 (changes_of c.take_phase.new.self) (resumes c.in-Resumes.exec) c.in-Resumes.exec (changes_of c.wait_for_resumption.new.self) c.wait_for_resumption.result did.1 in (
      did.0,
      subst (λ (s : ClientStream). DoesStep (g.L.Link.awaited c.args.link.now) (g.L.Link.awaited c.wait_for_resumption.new.link) (g.L.Link.log c.args.link.now) (g.L.Link.log c.wait_for_resumption.new.link) (g.L.Link.wire c.args.link.now) (g.H.ClientSessionHandle.asked c.args.handle.now) did.0 s (changes_of c.wait_for_resumption.new.self) c.wait_for_resumption.result) (phase_back c.args.self.now c.take_phase.new.self (phase.Resumes c.in-Resumes.exec) c.take_phase.ensures.rest c.in-Resumes.ensures.taken) (waits_resumption c.in-Resumes.exec refl ran),
      did.2,
    )

pub returns-in-Resumes-clause-placed : goal.returns-in-Resumes-clause-placed
returns-in-Resumes-clause-placed g c = placed_saved c.wait_for_resumption.new.self (c.wait_for_resumption.ensures.place ∙ ap (λ (s : Changes). s.token) c.take_phase.ensures.rest ∙ saved_is c.args.self.now.token (saves_phase false c.args.self.now (phase.Resumes c.in-Resumes.exec) c.in-Resumes.ensures.taken c.requires.sound))

pub returns-in-Resumes-clause-owned : goal.returns-in-Resumes-clause-owned
returns-in-Resumes-clause-owned g c = owns_still c.args.self.now.token c.wait_for_resumption.new.self.token (c.wait_for_resumption.ensures.place ∙ ap (λ (s : Changes). s.token) c.take_phase.ensures.rest)

pub returns-in-Resumes-clause-falls : goal.returns-in-Resumes-clause-falls
returns-in-Resumes-clause-falls g c = falls_from c.wait_for_resumption.result c.args.self.now (phase.Resumes c.in-Resumes.exec) (steps_left (doing_of c.wait_for_resumption.new.self.phase)) c.in-Resumes.ensures.taken c.wait_for_resumption.ensures.falls

-- ---- the cursor before is closed

pub kill-requires : goal.kill-requires
kill-requires g c = subst (λ (q : Phase). IsOut (g.L.Link.awaited c.args.link.now) (ticket_by (client_of c.args.self.now.batches) (doing_of q))) (sym c.in-Kills.ensures.taken) c.requires.held

pub returns-in-Kills-clause-keeps : goal.returns-in-Kills-clause-keeps
returns-in-Kills-clause-keeps g c = keeps_from _ _ (closing_ticket c.in-Kills.closing) (stream_ticket (changes_of c.args.self.now)) _ _ (ap (λ (q : Phase). ticket_by (client_of c.args.self.now.batches) (doing_of q)) c.in-Kills.ensures.taken) c.kill.ensures.keeps

pub returns-in-Kills-clause-does : goal.returns-in-Kills-clause-does
returns-in-Kills-clause-does g c =
    let did = c.kill.ensures.closes in (
      false,
      subst (λ (s : ClientStream). DoesStep (g.L.Link.awaited c.args.link.now) (g.L.Link.awaited c.kill.new.link) (g.L.Link.log c.args.link.now) (g.L.Link.log c.kill.new.link) (g.L.Link.wire c.args.link.now) (g.H.ClientSessionHandle.asked c.args.handle.now) false s (changes_of c.kill.new.self) c.kill.result) (phase_back c.args.self.now c.take_phase.new.self (phase.Kills c.in-Kills.closing) c.take_phase.ensures.rest c.in-Kills.ensures.taken)
          (closes c.in-Kills.closing refl refl did.came did.closes (close_any (changes_of c.take_phase.new.self) (kills c.in-Kills.closing) did.came (changes_of c.kill.new.self) c.kill.result did.hears)),
      refl,
    )

pub returns-in-Kills-clause-placed : goal.returns-in-Kills-clause-placed
returns-in-Kills-clause-placed g c = placed_saved c.kill.new.self (c.kill.ensures.place ∙ ap (λ (s : Changes). s.token) c.take_phase.ensures.rest ∙ saved_is c.args.self.now.token (saves_phase false c.args.self.now (phase.Kills c.in-Kills.closing) c.in-Kills.ensures.taken c.requires.sound))

pub returns-in-Kills-clause-owned : goal.returns-in-Kills-clause-owned
returns-in-Kills-clause-owned g c = owns_still c.args.self.now.token c.kill.new.self.token (c.kill.ensures.place ∙ ap (λ (s : Changes). s.token) c.take_phase.ensures.rest)

pub returns-in-Kills-clause-falls : goal.returns-in-Kills-clause-falls
returns-in-Kills-clause-falls g c = falls_from c.kill.result c.args.self.now (phase.Kills c.in-Kills.closing) (steps_left (doing_of c.kill.new.self.phase)) c.in-Kills.ensures.taken c.kill.ensures.falls

-- ---- the first batch of a resumption is in hand

pub renew-requires-clause-saved : goal.renew-requires-clause-saved
renew-requires-clause-saved g c = saved_still c.args.self.now.token c.take_phase.new.self.token (ap (λ (s : Changes). s.token) c.take_phase.ensures.rest) (saves_phase false c.args.self.now phase.Renewed c.in-Renewed.ensures.taken c.requires.sound)

pub renew-requires-clause-in_hand : goal.renew-requires-clause-in_hand
renew-requires-clause-in_hand g c = subst (λ (x : ClientCursor). IsHolding x.doing) (sym (ap (λ (s : Changes). (changes_of s).cursor) c.take_phase.ensures.rest)) (by_phase false c.args.self.now phase.Renewed c.in-Renewed.ensures.taken c.requires.sound).1

pub renew-requires-clause-follows : goal.renew-requires-clause-follows
renew-requires-clause-follows g c = ap (λ (s : Changes). s.phase) c.take_phase.ensures.rest

pub renew-requires-clause-given : goal.renew-requires-clause-given
renew-requires-clause-given g c = ap (λ (s : Changes). (changes_of s).current) c.take_phase.ensures.rest ∙ c.requires.given

-- what was looked at, as the stream stood
looked_at : (s t : Changes) (s' : ClientStream) (r : Stepped) → t ≡ record s { phase = phase.Follows } → phase.Renewed ≡ s.phase → (said : List ℕ) → (changes_of s).cursor.doing ≡ holds said → ((reply : List ℕ) → (changes_of t).cursor.doing ≡ holds reply → LooksAt true (changes_of t) (at_rest (changes_of t).cursor) reply s' r)
    → LooksAt true (changes_of s) (at_rest (changes_of s).cursor) said s' r
looked_at s t s' r rest taken said at looks_so =
    subst (λ (x : ClientStream). LooksAt true x (at_rest x.cursor) said s' r) (phase_back s t phase.Renewed rest taken)
    (look_any true (changes_of t) renewed (at_rest (changes_of t).cursor) said s' r (looks_so said (ap (λ (x : Changes). (changes_of x).cursor.doing) rest ∙ at)))

pub returns-in-Renewed-clause-keeps : goal.returns-in-Renewed-clause-keeps
returns-in-Renewed-clause-keeps g c =
    let s = changes_of c.args.self.now in
    let said = held_reply s.cursor.doing (by_phase false c.args.self.now phase.Renewed c.in-Renewed.ensures.taken c.requires.sound).1 in
    looked_keeps (moment (g.L.Link.awaited c.args.link.now) (g.L.Link.log c.args.link.now) (g.L.Link.faults c.args.link.now) (g.L.Link.pends c.args.link.now) (g.L.Link.wire c.args.link.now) (g.L.Link.prompt c.args.link.now)) s (at_rest s.cursor) said.0 (changes_of c.renew.new.self) c.renew.result refl (ap doing_of (sym c.in-Renewed.ensures.taken))
    (looked_at c.args.self.now c.take_phase.new.self (changes_of c.renew.new.self) c.renew.result c.take_phase.ensures.rest c.in-Renewed.ensures.taken said.0 said.1 c.renew.ensures.looks)

pub returns-in-Renewed-clause-does : goal.returns-in-Renewed-clause-does
returns-in-Renewed-clause-does g c =
    let s = changes_of c.args.self.now in
    let said = held_reply s.cursor.doing (by_phase false c.args.self.now phase.Renewed c.in-Renewed.ensures.taken c.requires.sound).1 in (
      false,
      renews (ap doing_of (sym c.in-Renewed.ensures.taken)) said.0 said.1 (record { rest = λ n. refl; log_same = refl }) refl
          (looked_at c.args.self.now c.take_phase.new.self (changes_of c.renew.new.self) c.renew.result c.take_phase.ensures.rest c.in-Renewed.ensures.taken said.0 said.1 c.renew.ensures.looks),
      refl,
    )

pub returns-in-Renewed-clause-owned : goal.returns-in-Renewed-clause-owned
returns-in-Renewed-clause-owned g c = λ own. c.renew.ensures.owned

pub returns-in-Renewed-clause-falls : goal.returns-in-Renewed-clause-falls
returns-in-Renewed-clause-falls g c =
    let s = changes_of c.args.self.now in
    let said = held_reply s.cursor.doing (by_phase false c.args.self.now phase.Renewed c.in-Renewed.ensures.taken c.requires.sound).1 in
    falls_from c.renew.result c.args.self.now phase.Renewed (steps_left (doing_of c.renew.new.self.phase)) c.in-Renewed.ensures.taken
    (looked_falls s (at_rest s.cursor) said.0 (changes_of c.renew.new.self) c.renew.result (steps_left (doing_of c.renew.new.self.phase))
    (looked_at c.args.self.now c.take_phase.new.self (changes_of c.renew.new.self) c.renew.result c.take_phase.ensures.rest c.in-Renewed.ensures.taken said.0 said.1 c.renew.ensures.looks))
