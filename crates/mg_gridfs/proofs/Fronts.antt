-- What the reader of a query's result knows that lost nothing: the documents it received are the first of the result, and at its end all.
use Rattle.std.proofs.Common.{◌≡◌, ◌≤◌, ◌<◌, ◌++◌, ◌+◌, ℕ, suc, ℤ, pos, Bool, true, false, List, [], ◌∷◌, length, take, Some, refl, sym, ap, ◌∙◌, subst, inl, inr, arith}
use Rattle.mg_bson.specs.Tree.{Fields}
use Rattle.mg_server.specs.History.{Step, state_of}
use Rattle.mg_link.specs.Log.{Call}
use Rattle.mg_server.specs.Owner.{Onward, Owner, Owns, Passes, by_id, by_reply, nobody}
use Rattle.mg_server.specs.Query.{Query, result}
use Rattle.mg_server.specs.Reader.{FactsOf, HasEnded, KnowsRead, Portion, Reader, all_in, kept_in, kept_of, losses_in, one_lost}
use Rattle.mg_server.proofs.Apart.{holds_nobody}
use Rattle.mg_link.proofs.Places.{get_within}
use Rattle.mg_server.proofs.Readers.{fixed_kept}
use Rattle.mg_gridfs.specs.Downloaded.{IsFront}

all_kept : (ps : List Portion) → losses_in ps ≤ 0 → kept_in ps ≡ all_in ps
all_kept [] few = refl
all_kept (p ∷ ps) few = by_loss p.lost refl (all_kept ps)
  where
    by_loss : (lost : Bool) → p.lost ≡ lost → (losses_in ps ≤ 0 → kept_in ps ≡ all_in ps) → kept_in (p ∷ ps) ≡ all_in (p ∷ ps)
    by_loss true is rest = let e = subst (λ (t : Bool). one_lost t + losses_in ps ≤ 0) is few in absurd (omega arith)
    by_loss false is rest =
        let e = subst (λ (t : Bool). one_lost t + losses_in ps ≤ 0) is few in
        let le : losses_in ps ≤ 0 = omega arith in
        ap (λ (t : Bool). kept_of t p.documents ++ kept_in ps) is ∙ ap (λ (l : List Fields). p.documents ++ l) (rest le)

module _ (calls : List Call) (r : Reader) (documents : List Fields) (k : KnowsRead calls r) (none_lost : r.losses ≡ 0) (these : r.given ++ r.ahead ≡ documents) where
  result_is : (history : List Step) (position : ℕ) (f : FactsOf calls history r position) → result (state_of (take (suc position) history)) r.query ≡ Some (documents ++ f.left)
  result_is history position f =
      let few : losses_in f.portions ≤ 0 = subst (λ (n : ℕ). losses_in f.portions ≤ n) none_lost f.few in
      f.fixed ∙ ap (λ (l : List Fields). Some l) (f.cut ∙ ap (λ (l : List Fields). l ++ f.left) (sym (all_kept f.portions few) ∙ f.these ∙ these))

  pub front_known : IsFront calls r.query documents false
  front_known =
      record {
        place = r.opened;
        call = k.opened.call;
        found = k.opened.found;
        bytes = k.opened.bytes;
        heard = k.opened.heard;
        each = λ history legal stands.
            let placed = stands.placed r.opened k.opened.call k.opened.bytes k.opened.found k.opened.heard in
            let f = k.facts history legal stands placed.0 placed.1 in
            (placed.0, placed.1, f.left, result_is history placed.0 f, λ whole. absurd cc);
      }

  pub front_opened : front_known.place ≡ r.opened
  unfolding front_known
  front_opened = refl

  none_left : (left : List Fields) (portions : List Portion) → r.query.single ≡ false → r.refused ≡ false → HasEnded r.query r.refused left portions → left ≡ []
  none_left left portions many fine (inl none) = none
  none_left left portions many fine (inr (inl one)) = let e : true ≡ false = sym one.0 ∙ many in absurd cc
  none_left left portions many fine (inr (inr refused)) = let e : true ≡ false = sym refused ∙ fine in absurd cc

  -- its cursor has ended
  pub all_known : r.query.single ≡ false → r.refused ≡ false → r.cursor ≡ pos 0 → IsFront calls r.query documents true
  all_known many fine ended_so =
      record {
        place = r.opened;
        call = k.opened.call;
        found = k.opened.found;
        bytes = k.opened.bytes;
        heard = k.opened.heard;
        each = λ history legal stands.
            let placed = stands.placed r.opened k.opened.call k.opened.bytes k.opened.found k.opened.heard in
            let f = k.facts history legal stands placed.0 placed.1 in
            (placed.0, placed.1, f.left, result_is history placed.0 f, λ whole. none_left f.left f.portions many fine (f.ends ended_so));
      }

  pub all_opened : (many : r.query.single ≡ false) (fine : r.refused ≡ false) (ended_so : r.cursor ≡ pos 0) → (all_known many fine ended_so).place ≡ r.opened
  unfolding all_known
  all_opened many fine ended_so = refl

-- ---- a later time

owns_none : (calls : List Call) (history : List Step) (x : ℤ) → Owns calls history nobody x → ⊥
owns_none calls history x (by_id is ne) = is
owns_none calls history x (by_reply k position step is took opens) = is

-- whoever called, who owns nothing is left alone
pub nobody_onward : (calls calls' : List Call) (o o' : Owner) → Passes calls calls' o o' → Onward calls calls' nobody
nobody_onward calls calls' o o' p = p.onward nobody (holds_nobody calls) (λ history legal stands x mine theirs. owns_none calls history x theirs)

pub front_later : (calls calls' : List Call) (o : Owner) (q : Query) (documents : List Fields) (whole : Bool) → Onward calls calls' o → (f : IsFront calls q documents whole) → (g : IsFront calls' q documents whole) × (g.place ≡ f.place)
front_later calls calls' o q documents whole onward f =
    let kept = onward.grown.keeps f.place f.call f.found in
    let g : IsFront calls' q documents whole = record {
      place = f.place;
      call = kept.0;
      found = kept.1;
      bytes = f.bytes;
      heard = kept.4 f.bytes f.heard;
      each = λ history legal stands.
          let e = onward.earlier history legal stands in
          let at = f.each e.before e.legal e.stands in
          let step = e.stands.same f.place f.call at.0 f.found at.1 in
          let within : at.0 < length e.before = get_within e.before at.0 step.0 step.1 in
          let same : result (state_of (take (suc at.0) history)) q ≡ result (state_of (take (suc at.0) e.before)) q
          = ap (λ (h : List Step). result (state_of (take (suc at.0) h)) q) e.whole ∙ fixed_kept e.before e.tail at.0 q within in
          (at.0, kept.3 ∙ at.1, at.2, same ∙ at.3, at.4);
    } in
    (g, refl)
