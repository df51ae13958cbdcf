use Rattle.std.proofs.Common.{map, string_bytes}
use Rattle.mg_jobs.proofs.Statuses.{long_so, missing_so, read_so, refused_so, run_so, script_so, through_so, told_by, usage_so, whole_so, write_so}
use Rattle.mg_jobs.proofs.program.run_program.Goals as goal

pub returns-clause-told : goal.returns-clause-told
returns-clause-told g c =
    told_by (map string_bytes c.args.words.now) (g.S.Source.left c.args.source.now) (g.S.Source.left c.play.new.source) (g.S.Source.faults c.args.source.now) (g.S.Source.faults c.play.new.source) c.tell.result.status (g.K.Sink.taken c.args.sink.now) (g.K.Sink.taken c.tell.new.sink) (g.K.Sink.faults c.args.sink.now) (g.K.Sink.faults c.tell.new.sink)
    c.play.result c.tell.result.run c.play.ensures c.tell.ensures

pub returns-clause-usage : goal.returns-clause-usage
returns-clause-usage g c = let t = returns-clause-told g c in usage_so (map string_bytes c.args.words.now) (g.S.Source.left c.args.source.now) (g.S.Source.left c.play.new.source) (g.S.Source.faults c.args.source.now) (g.S.Source.faults c.play.new.source) c.tell.result.status (g.K.Sink.taken c.args.sink.now) (g.K.Sink.taken c.tell.new.sink) (g.K.Sink.faults c.args.sink.now) (g.K.Sink.faults c.tell.new.sink) t.0 t.1 t.3

pub returns-clause-refused : goal.returns-clause-refused
returns-clause-refused g c = let t = returns-clause-told g c in refused_so (map string_bytes c.args.words.now) (g.S.Source.left c.args.source.now) (g.S.Source.left c.play.new.source) (g.S.Source.faults c.args.source.now) (g.S.Source.faults c.play.new.source) c.tell.result.status (g.K.Sink.taken c.args.sink.now) (g.K.Sink.taken c.tell.new.sink) (g.K.Sink.faults c.args.sink.now) (g.K.Sink.faults c.tell.new.sink) t.0 t.1 t.3

pub returns-clause-read : goal.returns-clause-read
returns-clause-read g c = let t = returns-clause-told g c in read_so (map string_bytes c.args.words.now) (g.S.Source.left c.args.source.now) (g.S.Source.left c.play.new.source) (g.S.Source.faults c.args.source.now) (g.S.Source.faults c.play.new.source) c.tell.result.status (g.K.Sink.taken c.args.sink.now) (g.K.Sink.taken c.tell.new.sink) (g.K.Sink.faults c.args.sink.now) (g.K.Sink.faults c.tell.new.sink) t.0 t.1 t.3

pub returns-clause-script : goal.returns-clause-script
returns-clause-script g c = let t = returns-clause-told g c in script_so (map string_bytes c.args.words.now) (g.S.Source.left c.args.source.now) (g.S.Source.left c.play.new.source) (g.S.Source.faults c.args.source.now) (g.S.Source.faults c.play.new.source) c.tell.result.status (g.K.Sink.taken c.args.sink.now) (g.K.Sink.taken c.tell.new.sink) (g.K.Sink.faults c.args.sink.now) (g.K.Sink.faults c.tell.new.sink) t.0 t.1 t.3

pub returns-clause-write : goal.returns-clause-write
returns-clause-write g c = let t = returns-clause-told g c in write_so (map string_bytes c.args.words.now) (g.S.Source.left c.args.source.now) (g.S.Source.left c.play.new.source) (g.S.Source.faults c.args.source.now) (g.S.Source.faults c.play.new.source) c.tell.result.status (g.K.Sink.taken c.args.sink.now) (g.K.Sink.taken c.tell.new.sink) (g.K.Sink.faults c.args.sink.now) (g.K.Sink.faults c.tell.new.sink) t.0 t.3

pub returns-clause-missing : goal.returns-clause-missing
returns-clause-missing g c = let t = returns-clause-told g c in missing_so (map string_bytes c.args.words.now) (g.S.Source.left c.args.source.now) (g.S.Source.left c.play.new.source) (g.S.Source.faults c.args.source.now) (g.S.Source.faults c.play.new.source) c.tell.result.status (g.K.Sink.taken c.args.sink.now) (g.K.Sink.taken c.tell.new.sink) (g.K.Sink.faults c.args.sink.now) (g.K.Sink.faults c.tell.new.sink) t.0 t.1 t.3

pub returns-clause-long : goal.returns-clause-long
returns-clause-long g c = let t = returns-clause-told g c in long_so (map string_bytes c.args.words.now) (g.S.Source.left c.args.source.now) (g.S.Source.left c.play.new.source) (g.S.Source.faults c.args.source.now) (g.S.Source.faults c.play.new.source) c.tell.result.status (g.K.Sink.taken c.args.sink.now) (g.K.Sink.taken c.tell.new.sink) (g.K.Sink.faults c.args.sink.now) (g.K.Sink.faults c.tell.new.sink) t.0 t.1 t.3

pub returns-clause-run : goal.returns-clause-run
returns-clause-run g c = let t = returns-clause-told g c in run_so (map string_bytes c.args.words.now) (g.S.Source.left c.args.source.now) (g.S.Source.left c.play.new.source) (g.S.Source.faults c.args.source.now) (g.S.Source.faults c.play.new.source) c.tell.result.status (g.K.Sink.taken c.args.sink.now) (g.K.Sink.taken c.tell.new.sink) (g.K.Sink.faults c.args.sink.now) (g.K.Sink.faults c.tell.new.sink) t.0 c.tell.result.run t.2 t.1

pub returns-clause-whole : goal.returns-clause-whole
returns-clause-whole g c = let t = returns-clause-told g c in whole_so (map string_bytes c.args.words.now) (g.S.Source.left c.args.source.now) (g.S.Source.left c.play.new.source) (g.S.Source.faults c.args.source.now) (g.S.Source.faults c.play.new.source) c.tell.result.status (g.K.Sink.taken c.args.sink.now) (g.K.Sink.taken c.tell.new.sink) (g.K.Sink.faults c.args.sink.now) (g.K.Sink.faults c.tell.new.sink) t.0 c.tell.result.run t.2 t.3

pub returns-clause-through : goal.returns-clause-through
returns-clause-through g c = let t = returns-clause-told g c in through_so (map string_bytes c.args.words.now) (g.S.Source.left c.args.source.now) (g.S.Source.left c.play.new.source) (g.S.Source.faults c.args.source.now) (g.S.Source.faults c.play.new.source) c.tell.result.status (g.K.Sink.taken c.args.sink.now) (g.K.Sink.taken c.tell.new.sink) (g.K.Sink.faults c.args.sink.now) (g.K.Sink.faults c.tell.new.sink) t.0 t.1 t.3
