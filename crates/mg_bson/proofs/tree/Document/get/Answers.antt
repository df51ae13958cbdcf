use Rattle.std.proofs.Common.{sym, ap, ◌∙◌, arith, Some}
use Rattle.mg_bson.specs.Find.{get}
use Rattle.mg_bson.specs.View.{tree, place}
use Rattle.mg_bson.proofs.Places.{place_some, place_none}
use Rattle.mg_bson.proofs.tree.Document.get.Goals as goal

pub returns-in_err-i : goal.returns-in_err-i
returns-in_err-i c =
    let k = c.args.name.now in
    let s = place_none k c.self.inside.fields.items (sym (ap (place k) c.deref.ensures.value) ∙ sym c.in_err-i.ensures) in
    rw (c.from_residual.ensures, ← c.self.view_is) (sym s.missing)

pub index-requires : goal.index-requires
index-requires c =
    let k = c.args.name.now in
    let s = place_some k c.self.inside.fields.items c.in_ok-i.i (sym (ap (place k) c.deref.ensures.value) ∙ sym c.in_ok-i.ensures) in
    omega (arith, s.within, c.self.inside.fields.ok.0)

pub returns : goal.returns
returns c =
    let k = c.args.name.now in
    let s = place_some k c.self.inside.fields.items c.in_ok-i.i (sym (ap (place k) c.deref.ensures.value) ∙ sym c.in_ok-i.ensures) in
    ap (λ f. Some (tree f.value)) c.index.ensures ∙ sym (s.found c.index.result.now) ∙ ap (get k) c.self.view_is
