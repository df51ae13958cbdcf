use Rattle.std.proofs.Common.{◌≡◌, ◌+◌, ◌∷◌, ◌++◌, [], Bool, true, false, List, length, length-append, take, sym, ap, ◌∙◌, arith}
use Rattle.std.specs.Prelude.{if◌then◌else◌}
use Rattle.mg_ops.specs.Underway.{sent_of}
use Rattle.mg_ops.proofs.Appending.{at_of}
use Rattle.mg_ops.proofs.Drawn.{drawn_step, kept_step}
use Rattle.mg_ops.proofs.inserting.draw.Goals as goal
use Rattle.mg_ops.proofs.inserting.draw.Goals.{then-fits, else-fits}

-- one that fits was pushed
pushed : {A : Type 0} (was more now : List A) (b : Bool) → b ≡ true → now ≡ (if b then more else was) → now ≡ more
pushed was more now true fits is = is
pushed was more now false fits is = absurd cc

pub loop-document-preserved : goal.loop-document-preserved
loop-document-preserved g c =
    let ids = g.I.IdSource.ids in
    let documents = c.args.documents.now in
    let k = c.loop-document.document-index in
    let d = c.document-item.result in
    let o = c.drawn_for-id.result in
    let os = c.loop-document.drawn.items in
    let there = at_of documents k d (omega arith) c.document-item.is in
    record {
      drawn = drawn_step (ids c.args.ids.now) (ids c.loop-document.ids) (ids c.drawn_for-id.new.ids) documents k d there c.loop-document.invariant.drawn c.drawn_for-id.ensures.drawn;
      count = λ fits. elim c.if-fits.branch [
        | then-fits w ↦
            let all = pushed os (os ++ o ∷ []) w.push.new.self.items _ (sym w.is_ok-fits.ensures.value ∙ sym w.fits-is ∙ fits) w.push.ensures.items in
            ap (λ v. length v.items) w.drawn-is ∙ ap length all ∙ length-append os (o ∷ []) ∙ ap (λ n. n + 1) (c.loop-document.invariant.count w.if-fits.true)
        | else-fits w ↦ absurd (let bad : false ≡ true = sym w.if-fits.false ∙ sym w.fits-is ∙ fits in cc)
      ];
      kept = λ fits. elim c.if-fits.branch [
        | then-fits w ↦
            let all = pushed os (os ++ o ∷ []) w.push.new.self.items _ (sym w.is_ok-fits.ensures.value ∙ sym w.fits-is ∙ fits) w.push.ensures.items in
            ap (λ v. sent_of v.items (take (k + 1) documents)) w.drawn-is ∙ ap (λ es. sent_of es (take (k + 1) documents)) all
            ∙ kept_step (ids c.args.ids.now) (ids c.loop-document.ids) documents os k d o there (c.loop-document.invariant.count w.if-fits.true) c.loop-document.invariant.drawn c.drawn_for-id.ensures.sent (c.loop-document.invariant.kept w.if-fits.true)
        | else-fits w ↦ absurd (let bad : false ≡ true = sym w.if-fits.false ∙ sym w.fits-is ∙ fits in cc)
      ];
    }
