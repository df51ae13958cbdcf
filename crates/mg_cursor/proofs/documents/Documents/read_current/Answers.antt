use Rattle.std.proofs.Common.{◌≡◌, true, false, is_some, sym, ap, ◌∙◌}
use Rattle.mg_cursor.specs.View.{document_cursor}
use Rattle.mg_cursor.proofs.Giving.{reads_as}
use Rattle.mg_cursor.proofs.documents.Documents.read_current.Goals as goal

pub unreachable-requires : goal.unreachable-requires
unreachable-requires g c = let bad : true ≡ false = sym c.requires ∙ sym (ap is_some c.in-None.ensures) in cc

pub returns : goal.returns
returns g c =
    reads_as g.T.ReadRaw.stands_for g.T.ReadRaw.seen c.in-Some.document (document_cursor c.args.self.now).current c.read_raw.result c.in-Some.ensures c.read_raw.ensures.ok c.read_raw.ensures.err
