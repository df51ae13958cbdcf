use Rattle.std.proofs.Common.{◌≡◌, ◌+◌, ◌∷◌, ◌++◌, [], Bool, true, false, List, length, length-append, sym, ap, ◌∙◌, rules}
use Rattle.std.specs.Prelude.{if◌then◌else◌}
use Rattle.mg_players.specs.Kept.{kept_id}
use Rattle.mg_players.proofs.KeptIds.{one_kept, one_later}
use Rattle.mg_players.proofs.drawn.draw.Goals as goal
use Rattle.mg_players.proofs.drawn.draw.Goals.{then-fits, else-fits}

-- one that fits was pushed
pushed : {A : Type 0} (was more now : List A) (b : Bool) → b ≡ true → now ≡ (if b then more else was) → now ≡ more
pushed was more now true fits is = is
pushed was more now false fits is = absurd cc

pub loop-number-preserved : goal.loop-number-preserved
loop-number-preserved g c =
    let ids = g.I.IdSource.ids in
    let n = c.loop-number._number in
    let id = c.next_id-id.result in
    let kept = c.loop-number.kept.items in
    let long : length c.next_id-id.result.0 ≡ 12 = search rules in
    record {
      drawn = one_later (ids c.args.ids.now) (ids c.loop-number.ids) (ids c.next_id-id.new.self) n c.loop-number.invariant.drawn c.next_id-id.ensures.later;
      count = λ fits. elim c.if-fits.branch [
        | then-fits w ↦
            let all = pushed kept (kept ++ id ∷ []) w.push.new.self.items _ (sym w.is_ok-fits.ensures.value ∙ sym w.fits-is ∙ fits) w.push.ensures.items in
            ap (λ v. length v.items) w.kept-is ∙ ap length all ∙ length-append kept (id ∷ []) ∙ ap (λ m. m + 1) (c.loop-number.invariant.count w.if-fits.true)
        | else-fits w ↦ absurd (let bad : false ≡ true = sym w.if-fits.false ∙ sym w.fits-is ∙ fits in cc)
      ];
      kept = λ fits. elim c.if-fits.branch [
        | then-fits w ↦
            let all = pushed kept (kept ++ id ∷ []) w.push.new.self.items _ (sym w.is_ok-fits.ensures.value ∙ sym w.fits-is ∙ fits) w.push.ensures.items in
            λ k within. ap (λ v. kept_id v.items k) w.kept-is ∙ ap (λ l. kept_id l k) all
            ∙ one_kept (ids c.args.ids.now) (ids c.loop-number.ids) kept id n (c.loop-number.invariant.count w.if-fits.true) c.loop-number.invariant.drawn long c.next_id-id.ensures.id (c.loop-number.invariant.kept w.if-fits.true) k within
        | else-fits w ↦ absurd (let bad : false ≡ true = sym w.if-fits.false ∙ sym w.fits-is ∙ fits in cc)
      ];
    }
