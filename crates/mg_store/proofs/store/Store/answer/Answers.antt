use Rattle.std.proofs.Common.{List, ap, subst}
use Rattle.mg_server.specs.Kept.{IsReply, Kept, given_of, state_of_kept}
use Rattle.mg_server.specs.Kept as kept
use Rattle.mg_server.proofs.Ordered.{state_ordered}
use Rattle.mg_store.specs.Contents.{AnswersBy, MayKeep}
use Rattle.mg_store.specs.InMemory.{by_rules}
use Rattle.mg_store.specs.Stored.{Stored, steps_of}
use Rattle.mg_store.proofs.Keeping.{may_by_rules}
use Rattle.mg_store.proofs.Performing.{performed}
use Rattle.mg_store.proofs.store.Store.answer.Goals as goal

pub keep-requires : goal.keep-requires
keep-requires c =
    let history : List Kept = steps_of c.self.inside.history.items in
    subst (λ (h : List Kept). MayKeep h c.args.command.now c.in_ok-answer.answer) (ap (λ (s : Stored). s.history) c.self.view_is)
    (may_by_rules history c.args.command.now c.in_ok-answer.answer (c.in_ok-answer.ensures (state_of_kept history) (given_of history) c.self.invariant.content_is (state_ordered (kept.steps_of history))))

pub returns-clause-performed : goal.returns-clause-performed
returns-clause-performed c =
    let history : List Kept = steps_of c.self.inside.history.items in
    let answers : AnswersBy (state_of_kept history) (given_of history) c.args.command.now c.in_ok-answer.answer = c.in_ok-answer.ensures (state_of_kept history) (given_of history) c.self.invariant.content_is (state_ordered (kept.steps_of history)) in
    performed (by_rules c.args.command.now) c.args.self.now c.keep.new.self c.args.command.now c.in_ok-answer.answer.reply c.keep.result
    (subst (λ (h : List Kept). IsReply (by_rules c.args.command.now h) c.in_ok-answer.answer.reply) (ap (λ (s : Stored). s.history) c.self.view_is) answers.reply)
    c.keep.ensures.step c.keep.ensures.reply
