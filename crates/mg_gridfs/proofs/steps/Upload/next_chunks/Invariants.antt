use Rattle.std.proofs.Common.{◌≡◌, ◌<◌, ◌≤◌, ◌*◌, ℕ, length, drop}
use Rattle.mg_ops.specs.Drawn.{AreLater}
use Rattle.mg_chunks.specs.Buffers.{held_of}
use Rattle.mg_gridfs.specs.Steps.{first_chunks}
use Rattle.mg_gridfs.specs.Turns.{SameButBytes}
use Rattle.mg_gridfs.specs.UploadView.{HasBuffer, worker_of}
use Rattle.mg_gridfs.proofs.steps.Upload.next_chunks.Given as goal

-- the chunks so far are the first ones, and their bytes are taken out
abbrev pub invariant-loop-place : goal.invariant-loop-place
invariant-loop-place g l = record {
  these : l.documents.items ≡ first_chunks (worker_of l.fn.self) (g.I.IdSource.ids l.fn.ids) l.place;
  left : held_of l.self.buffer ≡ drop (l.place * l.fn.self.aim.size) (held_of l.fn.self.buffer);
  within : l.count * l.fn.self.aim.size ≤ length (held_of l.fn.self.buffer);
  same : SameButBytes (worker_of l.fn.self) (worker_of l.self);
  buffer : HasBuffer l.self;
  twelve : (k : ℕ) → k < l.place → length (g.I.IdSource.ids l.fn.ids k) ≡ 12;
  drawn : AreLater (g.I.IdSource.ids l.fn.ids) l.place (g.I.IdSource.ids l.ids);
}
