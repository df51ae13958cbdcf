use Rattle.std.proofs.Common.{ap, map}
use Rattle.std.specs.Map.{values_of}
use Rattle.mg_bson.specs.Raw.{fields}
use Rattle.mg_query.proofs.Numbers.{none_keeps}
use Rattle.mg_query.proofs.collection.Collection.new.Goals as goal

pub returns-clause-none : goal.returns-clause-none
returns-clause-none c = ap (λ es. map fields (values_of es)) c.new.ensures.empty

pub returns-clause-ids : goal.returns-clause-ids
returns-clause-ids c = none_keeps record { documents = c.new.result; ids = c.new-2.result; groups = c.new-3.result; next = 0; indexes = c.new-4.result } c.new.ensures.empty c.new-2.ensures.empty
