use Rattle.std.proofs.Common.{None, refl, sym, ap, subst}
use Rattle.mg_link.specs.Acts.{IsOut}
use Rattle.mg_link.specs.Exec.{ticket_of}
use Rattle.mg_link.specs.Moment.{moment}
use Rattle.mg_link.proofs.Moments.{keeps_step}
use Rattle.mg_cursor.specs.Client.{ClientCursor, client_ticket, ticket_by}
use Rattle.mg_cursor.specs.Closing.{IsNotAsking, heard, quiet}
use Rattle.mg_cursor.specs.Polling.{Hears}
use Rattle.mg_cursor.specs.View.{client_of, doing_of}
use Rattle.mg_cursor.specs.declared.batches.Batches.{Batches}
use Rattle.mg_cursor.specs.declared.batches.Flight.{Flight}
use Rattle.mg_cursor.specs.declared.polls.NextPoll.TheVariants as next
use Rattle.mg_cursor.proofs.Hearing.{hears_rested, keeps_from, keeps_heard, keeps_quiet}
use Rattle.mg_cursor.proofs.Keeping.{sound_lands}
use Rattle.mg_cursor.proofs.batches.Batches.land.Goals as goal

pub poll-step-requires : goal.poll-step-requires
poll-step-requires g c = subst (IsOut (g.L.Link.awaited c.args.link.now)) (sym (ap (λ (f : Flight). ticket_by (doing_of f)) c.in-More.ensures.taken)) c.requires

pub hear-requires : goal.hear-requires
hear-requires g c = ap (λ (b : Batches). b.flight) c.take.ensures.rest

pub returns-in-Nothing-clause-keeps : goal.returns-in-Nothing-clause-keeps
returns-in-Nothing-clause-keeps g c =
    keeps_from _ _ None (client_ticket (client_of c.args.self.now)) _ _ (ap (λ (f : Flight). ticket_by (doing_of f)) c.in-Nothing.ensures.taken)
    (keeps_quiet _ (client_of c.take.new.self) (ap (λ (b : Batches). doing_of b.flight) c.take.ensures.rest))

pub returns-in-Nothing-clause-lands : goal.returns-in-Nothing-clause-lands
returns-in-Nothing-clause-lands g c = quiet (subst IsNotAsking (ap doing_of c.in-Nothing.ensures.taken) tt) refl refl (ap client_of c.take.ensures.rest) refl

pub returns-in-Reply-clause-keeps : goal.returns-in-Reply-clause-keeps
returns-in-Reply-clause-keeps g c =
    keeps_from _ _ None (client_ticket (client_of c.args.self.now)) _ _ (ap (λ (f : Flight). ticket_by (doing_of f)) c.in-Reply.ensures.taken)
    (keeps_quiet _ (client_of c.take.new.self) (ap (λ (b : Batches). doing_of b.flight) c.take.ensures.rest))

pub returns-in-Reply-clause-lands : goal.returns-in-Reply-clause-lands
returns-in-Reply-clause-lands g c = quiet (subst IsNotAsking (ap doing_of c.in-Reply.ensures.taken) tt) refl refl (ap client_of c.take.ensures.rest) refl

pub returns-clause-keeps : goal.returns-clause-keeps
returns-clause-keeps g c =
    let link = c.args.link.now in
    let later = c.poll-step.new.link in
    let before = moment (g.L.Link.awaited link) (g.L.Link.log link) (g.L.Link.faults link) (g.L.Link.pends link) (g.L.Link.wire link) (g.L.Link.prompt link) in
    let after = moment (g.L.Link.awaited later) (g.L.Link.log later) (g.L.Link.faults later) (g.L.Link.pends later) (g.L.Link.wire later) (g.L.Link.prompt later) in
    keeps_from before after (ticket_of c.in-More.exec) (client_ticket (client_of c.args.self.now)) _ _ (ap (λ (f : Flight). ticket_by (doing_of f)) c.in-More.ensures.taken)
    (keeps_heard before after (ticket_of c.in-More.exec) (client_of c.take.new.self) c.poll-step.result (client_of c.hear.new.self) c.hear.result c.hear.ensures
    (keeps_step before after ticket_of (ticket_of c.in-More.exec) c.poll-step.result c.poll-step.ensures.tickets c.poll-step.ensures.pended c.poll-step.ensures.lost c.poll-step.ensures.prompt c.poll-step.ensures.later))

pub returns-clause-lands : goal.returns-clause-lands
returns-clause-lands g c =
    heard c.in-More.exec (sym (ap doing_of c.in-More.ensures.taken)) c.poll-step.result c.poll-step.ensures.runs
    (hears_rested (client_of c.args.self.now) c.poll-step.result (client_of c.hear.new.self) c.hear.result
    (subst (λ (x : ClientCursor). Hears x c.poll-step.result (client_of c.hear.new.self) c.hear.result) (ap client_of c.take.ensures.rest) c.hear.ensures))

pub returns-in-Nothing-clause-sound : goal.returns-in-Nothing-clause-sound
returns-in-Nothing-clause-sound g c = λ sound. sound_lands (g.L.Link.awaited c.args.link.now) (g.L.Link.awaited c.args.link.now) (g.L.Link.log c.args.link.now) (g.L.Link.log c.args.link.now) (g.L.Link.wire c.args.link.now) (client_of c.args.self.now) (client_of c.take.new.self) next.End sound (returns-in-Nothing-clause-lands g c)

pub returns-in-Reply-clause-sound : goal.returns-in-Reply-clause-sound
returns-in-Reply-clause-sound g c = λ sound. sound_lands (g.L.Link.awaited c.args.link.now) (g.L.Link.awaited c.args.link.now) (g.L.Link.log c.args.link.now) (g.L.Link.log c.args.link.now) (g.L.Link.wire c.args.link.now) (client_of c.args.self.now) (client_of c.take.new.self) next.End sound (returns-in-Reply-clause-lands g c)

pub returns-clause-sound : goal.returns-clause-sound
returns-clause-sound g c = λ sound. sound_lands (g.L.Link.awaited c.args.link.now) (g.L.Link.awaited c.poll-step.new.link) (g.L.Link.log c.args.link.now) (g.L.Link.log c.poll-step.new.link) (g.L.Link.wire c.args.link.now) (client_of c.args.self.now) (client_of c.hear.new.self) c.hear.result sound (returns-clause-lands g c)
