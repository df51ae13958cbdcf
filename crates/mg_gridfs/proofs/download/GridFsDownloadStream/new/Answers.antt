use Rattle.std.proofs.Common.{◌≤◌, ◌^◌, ℕ, List, ap, refl, sym, subst, arith}
use Rattle.mg_records.specs.FileRecords.{file_record}
use Rattle.mg_gridfs.specs.Downloads.{IsBetween, idle, new_download}
use Rattle.mg_gridfs.proofs.Sounding.{rest_sound}
use Rattle.mg_gridfs.proofs.download.GridFsDownloadStream.new.Goals as goal

pub returns-clause-started : goal.returns-clause-started
returns-clause-started c = ap (λ (l : List ℕ). record { file = file_record c.args.file; count = c.args.count; taken = 0; ahead = l; doing = idle c.args.cursor }) c.new-hand.ensures.empty

pub returns-clause-sound : goal.returns-clause-sound
returns-clause-sound c = λ counted free rests.
    let few : 0 ≤ 2 ^ 31 = omega arith in
    let start : IsBetween (new_download (file_record c.args.file) c.args.count c.args.cursor) = record {
      sound = record { sizes = record { counted = counted; few = few; given = 0; parts = λ ok. refl }; by = (free, rest_sound c.args.cursor rests, rests, λ more. absurd (more refl)) };
      rests_so = tt;
    } in
    record { between = subst IsBetween (sym (returns-clause-started c)) start; hand = c.new-hand.ensures.holds }
