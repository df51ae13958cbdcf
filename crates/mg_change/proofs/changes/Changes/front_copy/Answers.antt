use Rattle.std.proofs.Common.{◌≡◌, Some, ap, ◌∙◌}
use Rattle.std.proofs.lemmas.Result.{IfOk-weaker}
use Rattle.mg_bson.specs.Walks.{front_of}
use Rattle.mg_cursor.specs.View.{behind_of}
use Rattle.mg_change.proofs.Parts.{none_next}
use Rattle.mg_change.proofs.changes.Changes.front_copy.Goals as goal

pub unreachable-requires : goal.unreachable-requires
unreachable-requires c = c.requires (none_next (behind_of c.args.self.now.buffer) c.in-None.ensures)

pub returns-clause-ok : goal.returns-clause-ok
returns-clause-ok c =
    IfOk-weaker c.copied_event.result (λ copy. copy ≡ c.in-Some.event) (λ copy. Some copy ≡ front_of (behind_of c.args.self.now.buffer)) (λ copy same. ap Some same ∙ c.in-Some.ensures) c.copied_event.ensures.ok
