use Rattle.std.proofs.Common.{map}
use Rattle.mg_query.specs.Asking.{held}
use Rattle.mg_query.proofs.Covering.{chunks_covered, files_covered}
use Rattle.mg_query.proofs.lookup.numbers_of_files.Goals as goal

pub returns-in_default-keys_at : goal.returns-in_default-keys_at
returns-in_default-keys_at c keeps = files_covered (map held c.args.conditions.now.items) c.args.collection.now c.in-Some.files.now.items c.grouped.result keeps c.in-Some.ensures c.grouped.ensures

pub returns : goal.returns
returns c keeps = chunks_covered (map held c.args.conditions.now.items) c.args.collection.now c.in-Some.files.now.items c.in-Some-keys_at.places.now.items c.in_ok-pairs.pairs.items c.grouped-2.result keeps c.in-Some.ensures c.in-Some-keys_at.ensures c.in_ok-pairs.ensures c.grouped-2.ensures
