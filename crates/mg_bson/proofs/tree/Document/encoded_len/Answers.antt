use Rattle.std.proofs.Common.{◌≢◌, ◌+◌, length, arith}
use Rattle.std.proofs.lemmas.Result.{IfErr-weaker}
use Rattle.mg_bson.specs.Bytes.{bytes, levels}
use Rattle.mg_bson.specs.Writable.{Refuses, fields_have_bad_name, max_levels}
use Rattle.mg_bson.specs.Writing.{StopsAt}
use Rattle.mg_bson.specs.declared.error.BsonError.TheVariants.{OutOfMemory}
use Rattle.mg_bson.proofs.Measuring.{no_memory, refused}
use Rattle.mg_bson.proofs.tree.Document.encoded_len.Goals as goal

pub returns-clause-err : goal.returns-clause-err
returns-clause-err c =
    let d = c.args.self.now in
    let n = 0 + length (bytes d) in
    IfErr-weaker c.measure_document.result (λ e. StopsAt e n max_levels (levels d) (fields_have_bad_name d)) (λ e. Refuses e d) (λ e h. refused e n d (omega arith) h) c.measure_document.ensures.err

pub returns-clause-memory : goal.returns-clause-memory
returns-clause-memory c =
    let d = c.args.self.now in
    let n = 0 + length (bytes d) in
    IfErr-weaker c.measure_document.result (λ e. StopsAt e n max_levels (levels d) (fields_have_bad_name d)) (λ e. e ≢ OutOfMemory) (λ e h. no_memory e n max_levels (levels d) (fields_have_bad_name d) h) c.measure_document.ensures.err
