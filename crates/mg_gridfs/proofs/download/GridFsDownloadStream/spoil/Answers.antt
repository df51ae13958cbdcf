use Rattle.std.proofs.Common.{ℕ, List, sym, ap, subst, ◌∙◌}
use Rattle.mg_records.specs.FileRecords.{file_record}
use Rattle.mg_gridfs.specs.Downloads.{spoiled}
use Rattle.mg_gridfs.specs.DownloadView.{HoldsBytes, download_of, hand_of}
use Rattle.mg_gridfs.specs.declared.download.GridFsDownloadStream.{GridFsDownloadStream}
use Rattle.mg_gridfs.proofs.download.GridFsDownloadStream.spoil.Goals as goal

pub returns-clause-spoiled : goal.returns-clause-spoiled
returns-clause-spoiled c =
    let s = c.args.self.now in
    ap download_of c.enter.ensures ∙ ap (λ (l : List ℕ). record { file = file_record s.file; count = s.count; taken = s.taken; ahead = l; doing = spoiled }) (ap hand_of c.replace.ensures.after ∙ c.new-none.ensures.empty)

pub returns-clause-holds : goal.returns-clause-holds
returns-clause-holds c = subst (λ (s : GridFsDownloadStream). HoldsBytes s.hand) (sym c.enter.ensures) (subst HoldsBytes (sym c.replace.ensures.after) c.new-none.ensures.holds)
