use Rattle.std.proofs.Common.{◌≡◌, false, None, refl, sym, ap, ◌∙◌, subst}
use Rattle.mg_link.specs.Acts.{IsOut}
use Rattle.mg_link.specs.Exec.{ticket_of}
use Rattle.mg_cursor.specs.Client.{client_ticket, ticket_by}
use Rattle.mg_cursor.specs.Polling.{goes_on, hands_out}
use Rattle.mg_cursor.specs.View.{client_of, doing_of}
use Rattle.mg_cursor.specs.declared.batches.Batches.{Batches}
use Rattle.mg_cursor.specs.declared.batches.Flight.{Flight}
use Rattle.mg_cursor.specs.declared.polls.NextPoll.TheVariants as next
use Rattle.mg_cursor.proofs.Caused.{next_caused}
use Rattle.mg_cursor.proofs.Hearing.{keeps_from, keeps_quiet, polls_as, rested, runs_rested}
use Rattle.mg_cursor.proofs.Keeping.{sound_in_any, sound_next}
use Rattle.mg_cursor.proofs.Reading.{next_read}
use Rattle.mg_cursor.proofs.batches.Batches.poll_next.Goals as goal

pub begin-requires : goal.begin-requires
begin-requires g c = ap (λ (b : Batches). b.flight) c.take.ensures.rest

pub go_on-requires-clause-held : goal.go_on-requires-clause-held
go_on-requires-clause-held g c = subst (IsOut (g.L.Link.awaited c.args.link.now)) (sym (ap (λ (f : Flight). ticket_by (doing_of f)) c.in-More.ensures.taken)) c.requires

pub go_on-requires-clause-idle : goal.go_on-requires-clause-idle
go_on-requires-clause-idle g c = ap (λ (b : Batches). b.flight) c.take.ensures.rest

-- ---- at rest

pub returns-in-Nothing-clause-keeps : goal.returns-in-Nothing-clause-keeps
returns-in-Nothing-clause-keeps g c = keeps_from _ _ None (client_ticket (client_of c.args.self.now)) _ _ (ap (λ (f : Flight). ticket_by (doing_of f)) c.in-Nothing.ensures.taken) c.begin.ensures.keeps

pub returns-in-Nothing-clause-polls : goal.returns-in-Nothing-clause-polls
returns-in-Nothing-clause-polls g c =
    let before = client_of c.args.self.now in
    let same : client_of c.take.new.self ≡ before = ap client_of c.take.ensures.rest ∙ rested before (sym (ap doing_of c.in-Nothing.ensures.taken)) in
    (c.begin.ensures.polls.0, polls_as (g.L.Link.awaited c.args.link.now) (g.L.Link.awaited c.begin.new.link) (g.L.Link.log c.args.link.now) (g.L.Link.log c.begin.new.link) (g.L.Link.wire c.args.link.now) (g.H.ClientSessionHandle.asked c.args.handle.now) c.begin.ensures.polls.0 before (client_of c.take.new.self) (client_of c.begin.new.self) c.begin.result same c.begin.ensures.polls.1, c.begin.ensures.polls.2)

-- ---- a reply in hand

pub returns-in-Reply-clause-keeps : goal.returns-in-Reply-clause-keeps
returns-in-Reply-clause-keeps g c =
    keeps_from _ _ None (client_ticket (client_of c.args.self.now)) _ _ (ap (λ (f : Flight). ticket_by (doing_of f)) c.in-Reply.ensures.taken)
    (keeps_quiet _ (client_of c.take.new.self) (ap (λ (b : Batches). doing_of b.flight) c.take.ensures.rest))

pub returns-in-Reply-clause-polls : goal.returns-in-Reply-clause-polls
returns-in-Reply-clause-polls g c =
    (false, hands_out c.in-Reply.batch (sym (ap doing_of c.in-Reply.ensures.taken)) (record { rest = λ n. refl; log_same = refl }) refl (ap client_of c.take.ensures.rest) refl, refl)

-- ---- a getMore on its way

pub returns-in-More-clause-keeps : goal.returns-in-More-clause-keeps
returns-in-More-clause-keeps g c = keeps_from _ _ (ticket_of c.in-More.exec) (client_ticket (client_of c.args.self.now)) _ _ (ap (λ (f : Flight). ticket_by (doing_of f)) c.in-More.ensures.taken) c.go_on.ensures.keeps

pub returns-in-More-clause-polls : goal.returns-in-More-clause-polls
returns-in-More-clause-polls g c = (
  c.go_on.ensures.asks.0,
  goes_on c.in-More.exec (sym (ap doing_of c.in-More.ensures.taken))
      (runs_rested (g.L.Link.awaited c.args.link.now) (g.L.Link.awaited c.go_on.new.link) (g.L.Link.log c.args.link.now) (g.L.Link.log c.go_on.new.link) (g.L.Link.wire c.args.link.now) c.go_on.ensures.asks.0 (client_of c.args.self.now) (client_of c.take.new.self) c.in-More.exec (client_of c.go_on.new.self) c.go_on.result (ap client_of c.take.ensures.rest) c.go_on.ensures.asks.1),
  c.go_on.ensures.asks.2,
)

-- ---- what follows from the poll

pub returns-in-Nothing-clause-sound : goal.returns-in-Nothing-clause-sound
returns-in-Nothing-clause-sound g c = λ plain sound plainly.
    let polled = returns-in-Nothing-clause-polls g c in
    sound_next plain (g.L.Link.awaited c.args.link.now) (g.L.Link.awaited c.begin.new.link) (g.L.Link.log c.args.link.now) (g.L.Link.log c.begin.new.link) (g.L.Link.wire c.args.link.now) (g.H.ClientSessionHandle.asked c.args.handle.now) polled.0 (client_of c.args.self.now) (client_of c.begin.new.self) c.begin.result sound plainly polled.1

pub returns-in-Nothing-clause-caused : goal.returns-in-Nothing-clause-caused
returns-in-Nothing-clause-caused g c = λ plain sound.
    let polled = returns-in-Nothing-clause-polls g c in
    next_caused (g.L.Link.awaited c.args.link.now) (g.L.Link.awaited c.begin.new.link) (g.L.Link.log c.args.link.now) (g.L.Link.log c.begin.new.link) (g.L.Link.wire c.args.link.now) (g.H.ClientSessionHandle.asked c.args.handle.now) polled.0 (client_of c.args.self.now) (client_of c.begin.new.self) c.begin.result (sound_in_any plain (client_of c.args.self.now) sound) polled.1

pub returns-in-Nothing-clause-list : goal.returns-in-Nothing-clause-list
returns-in-Nothing-clause-list g c = λ plain sound named r.
    let polled = returns-in-Nothing-clause-polls g c in
    next_read plain (g.L.Link.awaited c.args.link.now) (g.L.Link.awaited c.begin.new.link) (g.L.Link.log c.args.link.now) (g.L.Link.log c.begin.new.link) (g.L.Link.wire c.args.link.now) (g.H.ClientSessionHandle.asked c.args.handle.now) polled.0 (client_of c.args.self.now) (client_of c.begin.new.self) c.begin.result sound named polled.1 r

pub returns-in-Reply-clause-sound : goal.returns-in-Reply-clause-sound
returns-in-Reply-clause-sound g c = λ plain sound plainly.
    let polled = returns-in-Reply-clause-polls g c in
    sound_next plain (g.L.Link.awaited c.args.link.now) (g.L.Link.awaited c.args.link.now) (g.L.Link.log c.args.link.now) (g.L.Link.log c.args.link.now) (g.L.Link.wire c.args.link.now) (g.H.ClientSessionHandle.asked c.args.handle.now) polled.0 (client_of c.args.self.now) (client_of c.take.new.self) (next.Batch c.in-Reply.batch) sound plainly polled.1

pub returns-in-Reply-clause-caused : goal.returns-in-Reply-clause-caused
returns-in-Reply-clause-caused g c = λ plain sound.
    let polled = returns-in-Reply-clause-polls g c in
    next_caused (g.L.Link.awaited c.args.link.now) (g.L.Link.awaited c.args.link.now) (g.L.Link.log c.args.link.now) (g.L.Link.log c.args.link.now) (g.L.Link.wire c.args.link.now) (g.H.ClientSessionHandle.asked c.args.handle.now) polled.0 (client_of c.args.self.now) (client_of c.take.new.self) (next.Batch c.in-Reply.batch) (sound_in_any plain (client_of c.args.self.now) sound) polled.1

pub returns-in-Reply-clause-list : goal.returns-in-Reply-clause-list
returns-in-Reply-clause-list g c = λ plain sound named r.
    let polled = returns-in-Reply-clause-polls g c in
    next_read plain (g.L.Link.awaited c.args.link.now) (g.L.Link.awaited c.args.link.now) (g.L.Link.log c.args.link.now) (g.L.Link.log c.args.link.now) (g.L.Link.wire c.args.link.now) (g.H.ClientSessionHandle.asked c.args.handle.now) polled.0 (client_of c.args.self.now) (client_of c.take.new.self) (next.Batch c.in-Reply.batch) sound named polled.1 r

pub returns-in-More-clause-sound : goal.returns-in-More-clause-sound
returns-in-More-clause-sound g c = λ plain sound plainly.
    let polled = returns-in-More-clause-polls g c in
    sound_next plain (g.L.Link.awaited c.args.link.now) (g.L.Link.awaited c.go_on.new.link) (g.L.Link.log c.args.link.now) (g.L.Link.log c.go_on.new.link) (g.L.Link.wire c.args.link.now) (g.H.ClientSessionHandle.asked c.args.handle.now) polled.0 (client_of c.args.self.now) (client_of c.go_on.new.self) c.go_on.result sound plainly polled.1

pub returns-in-More-clause-caused : goal.returns-in-More-clause-caused
returns-in-More-clause-caused g c = λ plain sound.
    let polled = returns-in-More-clause-polls g c in
    next_caused (g.L.Link.awaited c.args.link.now) (g.L.Link.awaited c.go_on.new.link) (g.L.Link.log c.args.link.now) (g.L.Link.log c.go_on.new.link) (g.L.Link.wire c.args.link.now) (g.H.ClientSessionHandle.asked c.args.handle.now) polled.0 (client_of c.args.self.now) (client_of c.go_on.new.self) c.go_on.result (sound_in_any plain (client_of c.args.self.now) sound) polled.1

pub returns-in-More-clause-list : goal.returns-in-More-clause-list
returns-in-More-clause-list g c = λ plain sound named r.
    let polled = returns-in-More-clause-polls g c in
    next_read plain (g.L.Link.awaited c.args.link.now) (g.L.Link.awaited c.go_on.new.link) (g.L.Link.log c.args.link.now) (g.L.Link.log c.go_on.new.link) (g.L.Link.wire c.args.link.now) (g.H.ClientSessionHandle.asked c.args.handle.now) polled.0 (client_of c.args.self.now) (client_of c.go_on.new.self) c.go_on.result sound named polled.1 r
