use Rattle.std.proofs.Common.{List, ℕ, refl, sym, ap, subst}
use Rattle.mg_link.specs.Exec.{Sending}
use Rattle.mg_link.specs.declared.action.Step.{Step}
use Rattle.mg_cursor.specs.Client.{asks}
use Rattle.mg_cursor.specs.Polling.{Hears}
use Rattle.mg_cursor.specs.View.{client_of, doing_of}
use Rattle.mg_cursor.specs.declared.polls.NextPoll.TheVariants as next
use Rattle.mg_cursor.proofs.Hearing.{noted}
use Rattle.mg_cursor.proofs.batches.Batches.hear.Goals as goal

pub returns-in-Pending : goal.returns-in-Pending
returns-in-Pending c = subst (λ (came : Step Sending (List ℕ)). Hears (client_of c.args.self.now) came (record (client_of c.args.self.now) { doing = asks c.in-Pending.exec }) next.Pending) (sym c.in-Pending.is) (refl, refl)

pub returns-in-Done : goal.returns-in-Done
returns-in-Done c = subst (λ (came : Step Sending (List ℕ)). Hears (client_of c.args.self.now) came (client_of c.read.new.self) c.read.result) (sym c.in-Done.is) c.read.ensures

pub returns-in-Failed : goal.returns-in-Failed
returns-in-Failed c =
    subst (λ (came : Step Sending (List ℕ)). Hears (client_of c.args.self.now) came (client_of c.note.new.self) (next.Failed c.in-Failed.error)) (sym c.in-Failed.is)
    (noted c.in-Failed.error (client_of c.args.self.now) (client_of c.note.new.self) (ap doing_of c.requires) c.note.ensures, refl)
