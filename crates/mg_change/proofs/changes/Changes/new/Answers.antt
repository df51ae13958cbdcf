use Rattle.mg_cursor.specs.View.{behind_of, client_of, current_of}
use Rattle.mg_change.proofs.Parts.{opens_as}
use Rattle.mg_change.proofs.changes.Changes.new.Goals as goal

pub returns-clause-seen : goal.returns-clause-seen
returns-clause-seen c =
    opens_as c.args.aggregate c.args.opened (current_of c.new-2.result) (client_of c.new.result).token (client_of c.new.result) (behind_of c.new-2.result) c.none.result c.new.ensures c.new-2.ensures.behind c.none.ensures
