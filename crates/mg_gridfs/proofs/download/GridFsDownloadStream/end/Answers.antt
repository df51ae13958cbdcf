use Rattle.std.proofs.Common.{ℕ, List, refl, sym, ap, subst, ◌∙◌}
use Rattle.std.proofs.lemmas.Bool.{iff_false}
use Rattle.mg_gridfs.specs.Downloads.{ended}
use Rattle.mg_gridfs.specs.DownloadView.{HoldsBytes, download_of}
use Rattle.mg_gridfs.specs.Fetching.{is_whole, other_count}
use Rattle.mg_gridfs.specs.declared.download.GridFsDownloadStream.{GridFsDownloadStream}
use Rattle.mg_gridfs.specs.declared.polls.ReadPoll.TheVariants as read
use Rattle.mg_link.specs.declared.error.Error.{Error}
use Rattle.mg_gridfs.proofs.download.GridFsDownloadStream.end.Goals as goal

-- ---- as many chunks came as there are

pub returns-then-has_all_chunks-clause-ends : goal.returns-then-has_all_chunks-clause-ends
returns-then-has_all_chunks-clause-ends c = λ cursor over.
    is_whole over (c.has_all_chunks.ensures.0 c.if-has_all_chunks.true) (ap download_of c.enter.ensures ∙ ap (λ (l : List ℕ). record (download_of c.args.self.now) { ahead = l; doing = ended }) c.requires.empty) refl

pub returns-then-has_all_chunks-clause-holds : goal.returns-then-has_all_chunks-clause-holds
returns-then-has_all_chunks-clause-holds c = subst (λ (s : GridFsDownloadStream). HoldsBytes s.hand) (sym c.enter.ensures) c.requires.holds

-- ---- or another number of them

pub returns-clause-ends : goal.returns-clause-ends
returns-clause-ends c = λ cursor over. other_count over (iff_false c.has_all_chunks.ensures c.if-has_all_chunks.false) c.spoil.ensures.spoiled (ap (λ (e : Error). read.Failed e) c.missing_chunk.ensures)

pub returns-clause-holds : goal.returns-clause-holds
returns-clause-holds c = c.spoil.ensures.holds
