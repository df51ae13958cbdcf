use mir.Val.{SFits}
use Rattle.std.proofs.Common.{◌≡◌, List, Ok, ℕ, ℤ, refl, rules, sym, ap, ◌∙◌, subst, w64}
use Rattle.std.proofs.lemmas.Int.{to_z-of_z}
use Rattle.mg_bson.specs.Raw.{fields}
use Rattle.mg_link.specs.Namespace.{space}
use Rattle.mg_ops.specs.Cursors.{cursor_of}
use Rattle.mg_gridfs.proofs.check.opened.Goals as goal

pub returns : goal.returns
returns c = λ reply given.
    let at = c.args.gave in
    let fits : SFits w64 at.id = search rules in
    record {
      opens = record {
        batch = given.batch;
        says = subst (λ (id : ℤ). cursor_of (fields reply) ≡ Ok (record { id = id; space = space at.ns; token = at.post_batch_resume_token; batch = given.batch })) (sym (to_z-of_z w64 at.id fits)) given.says;
        whole = given.whole;
        first = c.has_none-is_empty.ensures _ (ap (λ (b : List ℕ). cursor_of (fields b)) (c.as_raw.ensures ∙ given.whole) ∙ given.says);
        size_is = refl;
      };
      time_is = refl;
      comment_is = refl;
    }
