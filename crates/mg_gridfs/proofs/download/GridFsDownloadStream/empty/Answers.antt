use Rattle.std.proofs.Common.{◌≤◌, ◌^◌, ℕ, List, ap, refl, sym, subst, arith}
use Rattle.mg_records.specs.FileRecords.{file_record}
use Rattle.mg_gridfs.specs.Downloads.{IsBetween, empty_download, ended}
use Rattle.mg_gridfs.proofs.download.GridFsDownloadStream.empty.Goals as goal

pub returns-clause-started : goal.returns-clause-started
returns-clause-started c = ap (λ (l : List ℕ). record { file = file_record c.args.file; count = 0; taken = 0; ahead = l; doing = ended }) c.new-hand.ensures.empty

pub returns-clause-sound : goal.returns-clause-sound
returns-clause-sound c =
    let few : 0 ≤ 2 ^ 31 = omega arith in
    let start : IsBetween (empty_download (file_record c.args.file)) = record {
      sound = record { sizes = record { counted = c.requires; few = few; given = 0; parts = λ ok. refl }; by = (refl, refl) };
      rests_so = tt;
    } in
    record { between = subst IsBetween (sym (returns-clause-started c)) start; hand = c.new-hand.ensures.holds }
