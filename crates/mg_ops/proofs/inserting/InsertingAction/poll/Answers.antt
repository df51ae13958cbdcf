use Rattle.std.proofs.Common.{length, refl, sym, ◌∙◌, arith}
use Rattle.mg_link.proofs.Onward.{later_on, later_same, tickets_on, tickets_same}
use Rattle.mg_server.proofs.Killing.{plain_on, plain_stayed}
use Rattle.mg_ops.specs.InsertCauses.{IsInsertOf}
use Rattle.mg_ops.specs.Inserts.{held}
use Rattle.mg_ops.proofs.InsertCauses.{led_failed, led_finished, led_inserted, led_pending, led_stopped}
use Rattle.mg_ops.proofs.InsertSends.{leads_first, sent_failed, sent_finished, sent_inserted, sent_pending, sent_stopped}
use Rattle.mg_ops.proofs.Plainly.{tickets_from}
use Rattle.mg_server.proofs.Adding.{adds_none}
use Rattle.mg_ops.proofs.Sendings.{leads_failed, leads_finished, leads_inserted, leads_pending, leads_stopped, same_list_on}
use Rattle.mg_ops.proofs.inserting.InsertingAction.poll.Goals as goal

pub commands-init : goal.commands-init
commands-init g c = record {
  tickets = tickets_same _ (held c.args.self.command) c.requires;
  plain = λ plain. (plain_stayed _ _ refl, plain);
  pended = refl;
  inserts = λ calls told places wire at documents named has. (calls, told, omega arith, has);
  caused = λ calls told places at documents has. (calls, told, omega arith, has, adds_none (IsInsertOf at documents) calls);
  sends = leads_first _ c.args.self;
  list = (refl, refl, refl);
  later = later_same _ _ _ _;
}

pub hear-requires : goal.hear-requires
hear-requires g c n e = c.commands.invariant.tickets.held n (sym c.in-Send.ensures.ticket ∙ e)

pub returns-in-Pending-clause-tickets : goal.returns-in-Pending-clause-tickets
returns-in-Pending-clause-tickets g c = tickets_on c.commands.invariant.tickets (tickets_from _ _ _ _ _ c.in-Send.ensures.ticket c.in-Pending.ensures.tickets)

pub returns-in-Pending-clause-plain : goal.returns-in-Pending-clause-plain
returns-in-Pending-clause-plain g c = λ plain.
    let before = c.commands.invariant.plain plain in
    let heard = c.in-Pending.ensures.plain (c.in-Send.ensures.plain before.1) in
    (plain_on _ _ _ before.0 heard.0, heard.1)

pub commands-preserved : goal.commands-preserved
commands-preserved g c = record {
  tickets = tickets_on c.commands.invariant.tickets (tickets_from _ _ _ _ _ c.in-Send.ensures.ticket c.in-Inserted.ensures.tickets);
  plain = λ plain.
      let before = c.commands.invariant.plain plain in
      let heard = c.in-Inserted.ensures.plain (c.in-Send.ensures.plain before.1) in
      (plain_on _ _ _ before.0 heard.0, tt);
  pended = c.in-Inserted.ensures.pended ∙ c.commands.invariant.pended;
  inserts = leads_inserted _ _ _ _ c.args.self _ _ _ c.commands.invariant.inserts _ _ c.in-Send.next c.in-Send.ensures.sends c.in-Inserted.ensures.sent;
  caused = led_inserted _ _ _ _ _ c.args.self _ _ _ c.commands.invariant.caused _ _ _ c.commands.invariant.later.wire c.in-Send.next c.in-Send.ensures.caused c.in-Inserted.ensures.caused;
  sends = sent_inserted _ _ c.args.self c.commands.batches c.current.new.self c.commands.command c.commands.invariant.list c.commands.invariant.sends _ c.in-Send.ensures.same c.in-Send.next c.in-Send.ensures.once c.in-Inserted.ensures.once;
  list = same_list_on c.args.self.batches c.commands.batches c.current.new.self c.commands.invariant.list c.in-Send.ensures.same;
  later = later_on c.commands.invariant.later c.hear.ensures.later;
}

pub returns-in-Failed-clause-plain : goal.returns-in-Failed-clause-plain
returns-in-Failed-clause-plain g c = λ plain.
    let before = c.commands.invariant.plain plain in
    let heard = c.in-Failed.ensures.plain (c.in-Send.ensures.plain before.1) in
    (plain_on _ _ _ before.0 heard.0, tt)

pub returns-in-Failed-clause-tickets : goal.returns-in-Failed-clause-tickets
returns-in-Failed-clause-tickets g c = tickets_on c.commands.invariant.tickets (tickets_from _ _ _ _ _ c.in-Send.ensures.ticket c.in-Failed.ensures.tickets)

pub returns-in-Finished-clause-number : goal.returns-in-Finished-clause-number
returns-in-Finished-clause-number g c = rw ((same_list_on c.args.self.batches c.commands.batches c.current.new.self c.commands.invariant.list c.in-Finished.ensures.same).1) refl

pub returns-in-Pending-clause-number : goal.returns-in-Pending-clause-number
returns-in-Pending-clause-number g c = same_list_on c.args.self.batches c.commands.batches c.current.new.self c.commands.invariant.list c.in-Send.ensures.same

pub returns-in-Finished-clause-inserts : goal.returns-in-Finished-clause-inserts
returns-in-Finished-clause-inserts g c = leads_finished _ _ _ _ c.args.self c.commands.batches c.current.new.self c.commands.command c.commands.invariant.inserts _ refl c.in-Finished.ensures.sends

pub returns-in-Stopped-clause-inserts : goal.returns-in-Stopped-clause-inserts
returns-in-Stopped-clause-inserts g c = leads_stopped _ _ _ _ c.args.self c.commands.batches c.commands.batches _ c.commands.invariant.inserts c.in-Stopped.error

pub returns-in-Pending-clause-inserts : goal.returns-in-Pending-clause-inserts
returns-in-Pending-clause-inserts g c = leads_pending _ _ _ _ c.args.self _ _ _ c.commands.invariant.inserts _ _ c.in-Send.next c.in-Send.ensures.sends c.in-Pending.waiting c.in-Pending.ensures.sent

pub returns-in-Failed-clause-inserts : goal.returns-in-Failed-clause-inserts
returns-in-Failed-clause-inserts g c = leads_failed _ _ _ _ c.args.self _ _ _ c.commands.invariant.inserts (g.L.Link.awaited c.hear.new.link) (g.L.Link.log c.hear.new.link) c.in-Send.next c.in-Send.ensures.sends c.in-Failed.error c.in-Failed.error c.in-Failed.ensures.sent

pub returns-in-Finished-clause-caused : goal.returns-in-Finished-clause-caused
returns-in-Finished-clause-caused g c = led_finished _ _ _ _ _ c.args.self c.commands.batches c.current.new.self c.commands.command c.commands.invariant.caused (length c.current.new.self.documents.now)

pub returns-in-Stopped-clause-caused : goal.returns-in-Stopped-clause-caused
returns-in-Stopped-clause-caused g c = led_stopped _ _ _ _ _ c.args.self c.commands.batches c.current.new.self c.commands.command c.commands.invariant.caused c.in-Stopped.error c.in-Stopped.ensures.caused

pub returns-in-Pending-clause-caused : goal.returns-in-Pending-clause-caused
returns-in-Pending-clause-caused g c = led_pending _ _ _ _ _ c.args.self _ _ _ c.commands.invariant.caused _ _ _ c.commands.invariant.later.wire c.in-Send.next c.in-Send.ensures.caused c.in-Pending.waiting c.in-Pending.ensures.caused

pub returns-in-Failed-clause-caused : goal.returns-in-Failed-clause-caused
returns-in-Failed-clause-caused g c = led_failed _ _ _ _ _ c.args.self _ _ _ c.commands.invariant.caused (g.L.Link.awaited c.hear.new.link) _ _ c.commands.invariant.later.wire c.in-Send.next c.in-Send.ensures.caused c.in-Failed.error c.in-Failed.ensures.caused

pub returns-in-Finished-clause-sends : goal.returns-in-Finished-clause-sends
returns-in-Finished-clause-sends g c = sent_finished _ _ c.args.self c.commands.batches c.current.new.self c.commands.command c.commands.invariant.list c.commands.invariant.sends (length c.current.new.self.documents.now) c.in-Finished.ensures.once

pub returns-in-Stopped-clause-sends : goal.returns-in-Stopped-clause-sends
returns-in-Stopped-clause-sends g c = sent_stopped _ _ c.args.self c.commands.batches c.commands.batches c.commands.command c.commands.invariant.list c.commands.invariant.sends c.in-Stopped.error

pub returns-in-Pending-clause-sends : goal.returns-in-Pending-clause-sends
returns-in-Pending-clause-sends g c = sent_pending _ _ c.args.self c.commands.batches c.current.new.self c.commands.command c.commands.invariant.list c.commands.invariant.sends _ c.in-Send.ensures.same c.in-Send.next c.in-Send.ensures.once c.in-Pending.waiting c.in-Pending.ensures.once

pub returns-in-Failed-clause-sends : goal.returns-in-Failed-clause-sends
returns-in-Failed-clause-sends g c = sent_failed _ _ c.args.self c.commands.batches c.current.new.self c.commands.command c.commands.invariant.list c.commands.invariant.sends (g.L.Link.log c.hear.new.link) c.in-Send.ensures.same c.in-Send.next c.in-Send.ensures.once c.in-Failed.error c.in-Failed.ensures.once
