use Rattle.std.proofs.Common.{◌≡◌, true, false, ℕ, Some, None, sym, ap, ◌∙◌, arith}
use Rattle.std.proofs.lemmas.Slice.Eq.{bytes_eq-Decides}
use Rattle.mg_bson.specs.Tree.{Fields, document}
use Rattle.mg_bson.specs.RawView.{value}
use Rattle.mg_server.specs.Filter.{key}
use Rattle.mg_server.specs.Rules.{token_of}
use Rattle.mg_server.proofs.Tokens.{no_place}
use Rattle.mg_store.proofs.Places.{place_by_key}
use Rattle.mg_store.proofs.token.place_of.Goals as goal
use Rattle.mg_store.proofs.token.place_of.Goals.{then-eq, else-eq}

pub returns-in_default : goal.returns-in_default
returns-in_default c = sym (no_place c.args.end (value c.args.found.now) c.in_ok-given.ensures.writable (λ p le e. let bad : None ≡ Some p = c.in_default.ensures p (omega (arith, c.ranges.end.fits)) e in absurd cc))

pub returns-then-place-end : goal.returns-then-place-end
returns-then-place-end c =
    sym (no_place c.args.end (value c.args.found.now) c.in_ok-given.ensures.writable
    (λ p le e.
    let same : Some c.in-Some.place ≡ Some p = c.in-Some.ensures p (omega (arith, c.ranges.end.fits)) e in
    let f : c.in-Some.place ≡ p = cc in
    omega (arith, f, c.if-place-end.true)))

pub returns : goal.returns
returns c =
    let own : c.in_ok-own.own.items ≡ key (token_of c.in-Some.place) = c.in_ok-own.ensures.key ∙ ap (λ (fs : Fields). key (document fs)) c.in_ok-token.ensures in
    elim c.if-eq.branch [
      | then-eq w ↦
          let same : c.in_ok-own.own.items ≡ c.in_ok-given.given.items = (bytes_eq-Decides c.in_ok-own.own.items c.in_ok-given.given.items).0 (sym w.if-eq.ensures) in
          w.result-is ∙ sym (place_by_key c.args.end c.in-Some.place (value c.args.found.now) (sym c.in_ok-given.ensures.key ∙ sym same ∙ own) (omega (arith, c.if-place-end.false)) (omega (arith, c.ranges.end.fits)))
      | else-eq w ↦
          w.result-is ∙ sym (no_place c.args.end (value c.args.found.now) c.in_ok-given.ensures.writable
          (λ p le e.
          let f : Some c.in-Some.place ≡ Some p = c.in-Some.ensures p (omega (arith, c.ranges.end.fits)) e in
          let at : c.in-Some.place ≡ p = cc in
          let same : c.in_ok-own.own.items ≡ c.in_ok-given.given.items = own ∙ ap (λ (n : ℕ). key (token_of n)) at ∙ sym (ap key e) ∙ sym c.in_ok-given.ensures.key in
          let bad : true ≡ false = sym ((bytes_eq-Decides c.in_ok-own.own.items c.in_ok-given.given.items).1 same) ∙ sym w.if-eq.ensures in
          absurd cc))
    ]
