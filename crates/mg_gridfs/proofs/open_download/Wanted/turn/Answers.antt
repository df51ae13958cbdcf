use Rattle.std.proofs.Common.{None, Option, option_map, refl, ap, subst}
use Rattle.mg_link.specs.Moment.{finished, moment}
use Rattle.mg_link.specs.declared.error.ErrorKind.TheVariants as kind
use Rattle.mg_link.specs.declared.error.GridFsErrorKind.TheVariants as grid
use Rattle.mg_link.specs.declared.error.GridFsFileIdentifier.TheVariants as identifier
use Rattle.mg_link.proofs.Moments.{keeps_same}
use Rattle.mg_cursor.proofs.Hearing.{failing, other_kind}
use Rattle.mg_records.specs.FileRecords.{FileRecord, file_record}
use Rattle.mg_gridfs.specs.Findings.{ReadsRecord, is_found, none_found}
use Rattle.mg_gridfs.proofs.open_download.Wanted.turn.Goals as goal

pub returns-in-Some-clause-keeps : goal.returns-in-Some-clause-keeps
returns-in-Some-clause-keeps g c = c.received.ensures.keeps

pub returns-in-Some-clause-hears : goal.returns-in-Some-clause-hears
returns-in-Some-clause-hears g c = λ reply reads_so. is_found (file_record c.in-Some.file) (subst (λ (o : Option FileRecord). ReadsRecord reply o) (ap (option_map file_record) c.in-Some.is) reads_so) c.received.ensures.opens

pub returns-in-Some-clause-same : goal.returns-in-Some-clause-same
returns-in-Some-clause-same g c = c.received.ensures.same

pub returns-in-Some-clause-sound : goal.returns-in-Some-clause-sound
returns-in-Some-clause-sound g c = c.received.ensures.sound

pub returns-in-None-clause-keeps : goal.returns-in-None-clause-keeps
returns-in-None-clause-keeps g c =
    let none = c.missing.ensures in
    failing _ _ None None c.missing.result (other_kind c.missing.result (kind.GridFs (grid.FileNotFound (identifier.Id none.value))) none.error (λ bad. cc))
    (keeps_same (moment (g.L.Link.awaited c.args.link.now) (g.L.Link.log c.args.link.now) (g.L.Link.faults c.args.link.now) (g.L.Link.pends c.args.link.now) (g.L.Link.wire c.args.link.now) (g.L.Link.prompt c.args.link.now)) None finished (λ n e. cc) refl tt tt)

pub returns-in-None-clause-hears : goal.returns-in-None-clause-hears
returns-in-None-clause-hears g c = λ reply reads_so. none_found (subst (λ (o : Option FileRecord). ReadsRecord reply o) (ap (option_map file_record) c.in-None.is) reads_so) c.missing.result c.missing.ensures (record { rest = λ n. refl; log_same = refl }) refl
