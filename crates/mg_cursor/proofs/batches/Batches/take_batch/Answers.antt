use Rattle.std.proofs.Common.{ap, ◌∙◌}
use Rattle.mg_cursor.specs.Client.{asks, reply_in, without_reply}
use Rattle.mg_cursor.specs.View.{client_of, doing_of}
use Rattle.mg_cursor.specs.declared.batches.Batches.{Batches}
use Rattle.mg_cursor.specs.declared.batches.Flight.{Flight}
use Rattle.mg_cursor.proofs.batches.Batches.take_batch.Goals as goal

pub returns-in-Nothing-clause-batch : goal.returns-in-Nothing-clause-batch
returns-in-Nothing-clause-batch c = ap (λ (f : Flight). reply_in (doing_of f)) c.in-Nothing.ensures.taken

pub returns-in-Nothing-clause-rest : goal.returns-in-Nothing-clause-rest
returns-in-Nothing-clause-rest c = ap client_of c.take.ensures.rest ∙ ap (λ (f : Flight). record (client_of c.args.self.now) { doing = without_reply (doing_of f) }) c.in-Nothing.ensures.taken

pub returns-in-Reply-clause-batch : goal.returns-in-Reply-clause-batch
returns-in-Reply-clause-batch c = ap (λ (f : Flight). reply_in (doing_of f)) c.in-Reply.ensures.taken

pub returns-in-Reply-clause-rest : goal.returns-in-Reply-clause-rest
returns-in-Reply-clause-rest c = ap client_of c.take.ensures.rest ∙ ap (λ (f : Flight). record (client_of c.args.self.now) { doing = without_reply (doing_of f) }) c.in-Reply.ensures.taken

pub returns-in-More-clause-batch : goal.returns-in-More-clause-batch
returns-in-More-clause-batch c = ap (λ (f : Flight). reply_in (doing_of f)) c.in-More.ensures.taken

pub returns-in-More-clause-rest : goal.returns-in-More-clause-rest
returns-in-More-clause-rest c =
    ap (λ (b : Batches). record (client_of b) { doing = asks c.in-More.exec }) c.take.ensures.rest ∙ ap (λ (f : Flight). record (client_of c.args.self.now) { doing = without_reply (doing_of f) }) c.in-More.ensures.taken
