use Rattle.std.proofs.Common.{refl, sym, ap, subst}
use Rattle.std.proofs.lemmas.Bool.{iff_false}
use Rattle.mg_gridfs.specs.DownloadView.{HoldsBytes, download_of}
use Rattle.mg_gridfs.specs.Fetching.{has_next}
use Rattle.mg_gridfs.specs.declared.download.GridFsDownloadStream.{GridFsDownloadStream}
use Rattle.mg_gridfs.proofs.download.GridFsDownloadStream.pass.Goals as goal

pub returns-then-has_next-clause-passes : goal.returns-then-has_next-clause-passes
returns-then-has_next-clause-passes c = has_next (c.has_next.ensures.0 c.if-has_next.true) (ap download_of c.enter.ensures) refl

pub returns-then-has_next-clause-holds : goal.returns-then-has_next-clause-holds
returns-then-has_next-clause-holds c = subst (λ (s : GridFsDownloadStream). HoldsBytes s.hand) (sym c.enter.ensures) c.requires.holds

pub end-requires-clause-holds : goal.end-requires-clause-holds
end-requires-clause-holds c = c.requires.holds

pub end-requires-clause-empty : goal.end-requires-clause-empty
end-requires-clause-empty c = c.requires.empty

pub returns-clause-passes : goal.returns-clause-passes
returns-clause-passes c = c.end.ensures.ends c.args.cursor (iff_false c.has_next.ensures c.if-has_next.false)

pub returns-clause-holds : goal.returns-clause-holds
returns-clause-holds c = c.end.ensures.holds
