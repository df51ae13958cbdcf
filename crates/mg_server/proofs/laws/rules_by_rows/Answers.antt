use Rattle.std.proofs.Common.{refl}
use Rattle.std.specs.Fmt.{digits}
use Rattle.mg_bson.specs.Bytes.{le32, le64}
use Rattle.hex.specs.Hex.{encode_with}
use Rattle.mg_server.specs.Rules.{inserting}
use Rattle.mg_server.proofs.laws.rules_by_rows.Goals as goal

pub returns-clause-inserts : goal.returns-clause-inserts
unfolding le32 le64 encode_with digits inserting
returns-clause-inserts c = record { stopped = refl; went_on = refl; twice_in_one = refl }

pub returns-clause-writes : goal.returns-clause-writes
unfolding le32 le64 encode_with digits
returns-clause-writes c = record { updated = refl; twice = refl; replaced = refl; deleted_all = refl; deleted_one = refl; deleted_none = refl }

pub returns-clause-collections : goal.returns-clause-collections
unfolding le32 le64 encode_with digits
returns-clause-collections c = record { created = refl; there = refl; indexed = refl; made = refl; gone = refl; missing = refl }

pub returns-clause-queries : goal.returns-clause-queries
unfolding le32 le64 encode_with digits
returns-clause-queries c = record { all = refl; sorted = refl; skipped = refl; first_one = refl; single = refl; empty_first = refl; second_one = refl; unsorted = refl; collections = refl; indexes = refl; no_indexes = refl }
