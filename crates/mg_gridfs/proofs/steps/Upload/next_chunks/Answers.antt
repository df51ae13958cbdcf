use Rattle.std.proofs.Common.{◌≡◌, ◌<◌, ◌+◌, ◌*◌, ℕ, List, ◌∷◌, ◌++◌, [], length, drop, inl, sym, ap, ◌∙◌, subst, arith}
use Rattle.std.proofs.lemmas.Result.{err_from_is_err_and}
use Rattle.mg_bson.specs.Tree.{Fields}
use Rattle.mg_ops.specs.Drawn.{AreLater}
use Rattle.mg_ops.proofs.Drawn.{later_on}
use Rattle.mg_gridfs.specs.Steps.{first_chunks}
use Rattle.mg_gridfs.specs.UploadView.{worker_of}
use Rattle.mg_gridfs.proofs.Filling.{but_on, first_more, first_one, next_as, next_full, next_left, next_within, same_but, twelve_more, twelve_one}
use Rattle.mg_gridfs.proofs.steps.Upload.next_chunks.Goals as goal

pub begin_chunks-requires-clause-buffer : goal.begin_chunks-requires-clause-buffer
begin_chunks-requires-clause-buffer g c = c.requires.buffer

pub begin_chunks-requires-clause-sound : goal.begin_chunks-requires-clause-sound
begin_chunks-requires-clause-sound g c = c.requires.sound

pub begin_chunks-requires-clause-full : goal.begin_chunks-requires-clause-full
begin_chunks-requires-clause-full g c = c.requires.full

pub loop-place-init : goal.loop-place-init
loop-place-init g c =
    let u = (worker_of c.args.self.now) in
    let b = c.in_ok-first.ensures.ok in
    let e : u.aim.size ≡ 1 * u.aim.size = omega arith in
    record {
      these = c.in_ok-documents.ensures.ok ∙ ap (λ (d : Fields). d ∷ []) b.first_is ∙ sym (first_one u (g.I.IdSource.ids c.args.ids.now) c.requires.sound.size.some c.requires.full);
      left = b.left ∙ ap (λ (n : ℕ). drop n u.behind) e;
      within = b.within;
      same = c.begin_chunks.ensures.same.0;
      buffer = c.begin_chunks.ensures.same.1;
      twelve = twelve_one (g.I.IdSource.ids c.args.ids.now) b.twelve;
      drawn = b.drawn;
    }

pub next_chunk-requires-clause-buffer : goal.next_chunk-requires-clause-buffer
next_chunk-requires-clause-buffer g c = c.loop-place.invariant.buffer

pub next_chunk-requires-clause-full : goal.next_chunk-requires-clause-full
next_chunk-requires-clause-full g c =
    let so = c.loop-place.invariant in
    let lt = c.loop-place-test.true in
    next_full (worker_of c.args.self.now) (worker_of c.loop-place.self) c.loop-place.place so.same so.left (next_within c.loop-place.place c.in_ok-first.field-0.count (worker_of c.args.self.now).aim.size (length (worker_of c.args.self.now).behind) lt so.within)

pub next_chunk-requires-clause-small : goal.next_chunk-requires-clause-small
next_chunk-requires-clause-small g c =
    let so = c.loop-place.invariant in
    let lt = c.loop-place-test.true in
    let small = c.in_ok-first.ensures.ok.small in
    let sent = so.same.sent in
    omega (arith, lt, small, sent)

-- ---- one more

pub loop-place-preserved : goal.loop-place-preserved
loop-place-preserved g c =
    let so = c.loop-place.invariant in
    let lt = c.loop-place-test.true in
    let u = (worker_of c.args.self.now) in
    let within = next_within c.loop-place.place c.in_ok-first.field-0.count u.aim.size (length u.behind) lt so.within in
    let e : c.loop-place.place + 0 ≡ c.loop-place.place = omega arith in
    let here : (g.I.IdSource.ids c.loop-place.ids) 0 ≡ (g.I.IdSource.ids c.args.ids.now) c.loop-place.place = so.drawn 0 ∙ ap (g.I.IdSource.ids c.args.ids.now) e in
    let next = c.in_ok-next.ensures.chunk ∙ next_as u (worker_of c.loop-place.self) (g.I.IdSource.ids c.args.ids.now) (g.I.IdSource.ids c.loop-place.ids) c.loop-place.place so.same so.left here in
    record {
      these = c.in_ok-push.ensures.items
          ∙ ap (λ (ds : List Fields). ds ++ c.in_ok-next.next ∷ []) so.these
          ∙ ap (λ (d : Fields). first_chunks u (g.I.IdSource.ids c.args.ids.now) c.loop-place.place ++ d ∷ []) next
          ∙ sym (first_more u (g.I.IdSource.ids c.args.ids.now) c.requires.sound.size.some c.loop-place.place within);
      left = next_left u (worker_of c.loop-place.self) c.loop-place.place (worker_of c.next_chunk.new.self).behind so.same so.left c.next_chunk.ensures.left;
      within = so.within;
      same = but_on u (worker_of c.loop-place.self) (worker_of c.next_chunk.new.self) so.same c.next_chunk.ensures.same.0;
      buffer = c.next_chunk.ensures.same.1;
      twelve = twelve_more (g.I.IdSource.ids c.args.ids.now) c.loop-place.place so.twelve (ap length (sym here) ∙ c.next_chunk.ensures.twelve);
      drawn = later_on (g.I.IdSource.ids c.args.ids.now) (g.I.IdSource.ids c.loop-place.ids) (g.I.IdSource.ids c.next_chunk.new.ids) c.loop-place.place 1 so.drawn c.next_chunk.ensures.drawn;
    }

-- ---- it failed

pub returns-in_err-documents-clause-err : goal.returns-in_err-documents-clause-err
returns-in_err-documents-clause-err g c =
    let p = err_from_is_err_and c.from_residual-in_err-documents.result c.from_residual-in_err-documents.ensures.1 in
    rw (p.1, p.2) (inl c.in_err-documents.ensures.err)

pub returns-in_err-documents-clause-same : goal.returns-in_err-documents-clause-same
returns-in_err-documents-clause-same g c = c.begin_chunks.ensures.same

pub returns-in_err-documents-clause-drawn : goal.returns-in_err-documents-clause-drawn
returns-in_err-documents-clause-drawn g c =
    let p = err_from_is_err_and c.from_residual-in_err-documents.result c.from_residual-in_err-documents.ensures.1 in
    let full = c.requires.full in
    rw p.1 (1, omega (arith, full), c.in_ok-first.ensures.ok.drawn)

pub returns-in_err-next-clause-err : goal.returns-in_err-next-clause-err
returns-in_err-next-clause-err g c =
    let p = err_from_is_err_and c.from_residual-in_err-next.result c.from_residual-in_err-next.ensures.1 in
    rw (p.1, p.2) (inl c.in_err-next.ensures.err)

pub returns-in_err-next-clause-same : goal.returns-in_err-next-clause-same
returns-in_err-next-clause-same g c = (but_on (worker_of c.args.self.now) (worker_of c.loop-place.self) (worker_of c.next_chunk.new.self) c.loop-place.invariant.same c.next_chunk.ensures.same.0, c.next_chunk.ensures.same.1)

pub returns-in_err-next-clause-drawn : goal.returns-in_err-next-clause-drawn
returns-in_err-next-clause-drawn g c =
    let p = err_from_is_err_and c.from_residual-in_err-next.result c.from_residual-in_err-next.ensures.1 in
    let within = next_within c.loop-place.place c.in_ok-first.field-0.count (worker_of c.args.self.now).aim.size (length (worker_of c.args.self.now).behind) c.loop-place-test.true c.loop-place.invariant.within in
    rw p.1 (c.loop-place.place + 1, within, later_on (g.I.IdSource.ids c.args.ids.now) (g.I.IdSource.ids c.loop-place.ids) (g.I.IdSource.ids c.next_chunk.new.ids) c.loop-place.place 1 c.loop-place.invariant.drawn c.next_chunk.ensures.drawn)

pub returns-in_err-push-clause-same : goal.returns-in_err-push-clause-same
returns-in_err-push-clause-same g c = (but_on (worker_of c.args.self.now) (worker_of c.loop-place.self) (worker_of c.next_chunk.new.self) c.loop-place.invariant.same c.next_chunk.ensures.same.0, c.next_chunk.ensures.same.1)

pub returns-in_err-push-clause-drawn : goal.returns-in_err-push-clause-drawn
returns-in_err-push-clause-drawn g c =
    let p = err_from_is_err_and c.from_residual-in_err-push.result c.from_residual-in_err-push.ensures.1 in
    let within = next_within c.loop-place.place c.in_ok-first.field-0.count (worker_of c.args.self.now).aim.size (length (worker_of c.args.self.now).behind) c.loop-place-test.true c.loop-place.invariant.within in
    rw p.1 (c.loop-place.place + 1, within, later_on (g.I.IdSource.ids c.args.ids.now) (g.I.IdSource.ids c.loop-place.ids) (g.I.IdSource.ids c.next_chunk.new.ids) c.loop-place.place 1 c.loop-place.invariant.drawn c.next_chunk.ensures.drawn)

-- ---- all are taken

pub returns-clause-ok : goal.returns-clause-ok
returns-clause-ok g c =
    let so = c.loop-place.invariant in
    let u = (worker_of c.args.self.now) in
    let b = c.in_ok-first.ensures.ok in
    let all : c.loop-place.place ≡ c.in_ok-first.field-0.count = let past = c.loop-place-test.false in let within = c.loop-place.auto.place-end b.some in omega (arith, past, within) in
    record {
      these = so.these ∙ ap (λ (n : ℕ). first_chunks u (g.I.IdSource.ids c.args.ids.now) n) all;
      portion = b.portion (subst (λ (n : ℕ). (k : ℕ) → k < n → length ((g.I.IdSource.ids c.args.ids.now) k) ≡ 12) all so.twelve);
      small = b.small;
      left = same_but u (worker_of c.loop-place.self) so.same ∙ ap (λ (bs : List ℕ). record u { behind = bs }) (so.left ∙ ap (λ (n : ℕ). drop (n * u.aim.size) u.behind) all);
      drawn = subst (λ (n : ℕ). AreLater (g.I.IdSource.ids c.args.ids.now) n (g.I.IdSource.ids c.loop-place.ids)) all so.drawn;
    }

pub returns-clause-same : goal.returns-clause-same
returns-clause-same g c = (c.loop-place.invariant.same, c.loop-place.invariant.buffer)
