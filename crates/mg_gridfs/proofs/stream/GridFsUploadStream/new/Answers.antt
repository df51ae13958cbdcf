use Rattle.std.proofs.Common.{Bool, ℕ, List, refl, sym, ap, ◌∙◌, subst, arith}
use Rattle.mg_gridfs.specs.Buckets.{IsSize}
use Rattle.mg_chunks.specs.Buffers.{held_of}
use Rattle.mg_gridfs.specs.Uploads as uploads
use Rattle.mg_gridfs.specs.Uploads.{IsBetween, fresh_upload}
use Rattle.mg_gridfs.specs.UploadView.{aim_of}
use Rattle.mg_gridfs.specs.declared.aim.Aim.{Aim}
use Rattle.mg_gridfs.proofs.stream.GridFsUploadStream.new.Goals as goal

pub new-requires : goal.new-requires
new-requires c = c.requires.some

pub returns-clause-started : goal.returns-clause-started
returns-clause-started c =
    ap (λ (a : Aim). record (fresh_upload (aim_of a)) { checked = c.new.result.checked; sent = c.new.result.sent; behind = held_of c.new.result.buffer }) c.new.ensures.aim
    ∙ ap (λ (b : Bool). record (fresh_upload (aim_of c.args.aim)) { checked = b; sent = c.new.result.sent; behind = held_of c.new.result.buffer }) c.new.ensures.unchecked
    ∙ ap (λ (n : ℕ). record (fresh_upload (aim_of c.args.aim)) { sent = n; behind = held_of c.new.result.buffer }) c.new.ensures.unsent
    ∙ ap (λ (bs : List ℕ). record (fresh_upload (aim_of c.args.aim)) { behind = bs }) c.new.ensures.untaken

-- nothing was taken
fresh_between : (a : uploads.Aim) → IsSize a.size → IsBetween (fresh_upload a)
fresh_between a size = record {
  sound = record { bounds = record { size = size; few = omega arith; unchecked = λ h. refl }; by = size.some };
  rests_so = tt;
}

pub returns-clause-sound : goal.returns-clause-sound
returns-clause-sound c = record { between = subst IsBetween (sym (returns-clause-started c)) (fresh_between (aim_of c.args.aim) c.requires); buffer = c.new.ensures.buffer }
