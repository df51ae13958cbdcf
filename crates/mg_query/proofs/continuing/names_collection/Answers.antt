use Rattle.std.proofs.Common.{sym, ◌∙◌}
use Rattle.mg_bson.specs.Raw.{fields}
use Rattle.mg_query.proofs.Continued.{both_there, dotted_database, empty_database, no_collection, no_database}
use Rattle.mg_query.proofs.continuing.names_collection.Goals as goal

pub returns-in_default : goal.returns-in_default
returns-in_default c = no_database (fields c.args.command.now) c.in_default.ensures

pub returns-then-db-eq0 : goal.returns-then-db-eq0
returns-then-db-eq0 c = empty_database (fields c.args.command.now) c.in-Some.db.now c.in-Some.ensures c.if-db-eq0.true

pub returns-then-has_dot : goal.returns-then-has_dot
returns-then-has_dot c = dotted_database (fields c.args.command.now) c.in-Some.db.now c.in-Some.ensures (sym c.has_dot.ensures ∙ c.if-has_dot.true)

pub returns-in_default-text_at : goal.returns-in_default-text_at
returns-in_default-text_at c = no_collection (fields c.args.command.now) c.in_default-text_at.ensures

pub returns : goal.returns
returns c =
    both_there (fields c.args.command.now) c.in-Some.db.now c.in-Some-text_at.coll.now c.in-Some.ensures c.if-db-eq0.false (sym c.has_dot.ensures ∙ c.if-has_dot.false) c.in-Some-text_at.ensures
