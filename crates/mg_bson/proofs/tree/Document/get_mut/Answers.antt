use Rattle.std.proofs.Common.{sym, ap, ◌∙◌, arith, Some, inl, inr}
use Rattle.mg_bson.specs.Find.{get, put}
use Rattle.mg_bson.specs.View.{tree, place}
use Rattle.mg_bson.specs.declared.tree.Bson.{Bson}
use Rattle.mg_bson.proofs.Places.{place_some, place_none, everywhere}
use Rattle.mg_bson.proofs.tree.Document.get_mut.Goals as goal

pub returns-in_err-i : goal.returns-in_err-i
returns-in_err-i c =
    let k = c.args.name.now in
    let s = place_none k c.self.inside.fields.items (sym (ap (place k) c.deref.ensures.value) ∙ sym c.in_err-i.ensures) in
    rw c.from_residual.ensures (ap inr c.self.view_is, sym s.missing ∙ ap (get k) c.self.view_is)

pub index_mut-field-requires : goal.index_mut-field-requires
index_mut-field-requires c =
    let k = c.args.name.now in
    let s = place_some k c.self.inside.fields.items c.in_ok-i.i (sym (ap (place k) c.deref.ensures.value) ∙ sym c.in_ok-i.ensures) in
    omega (arith, s.within, c.self.inside.fields.ok.0)

pub returns : goal.returns
returns c =
    let k = c.args.name.now in
    let s = place_some k c.self.inside.fields.items c.in_ok-i.i (sym (ap (place k) c.deref.ensures.value) ∙ sym c.in_ok-i.ensures) in
    let f = c.index_mut-field.result.now in
    let same = λ (w : Bson). sym (s.replaced f (record { name = f.name; value = w }) (ap (λ f. f.name) c.index_mut-field.ensures.value)) ∙ ap (put k (tree w)) c.self.view_is in (
      ap inl (everywhere same),
      ap (λ f. Some (tree f.value)) c.index_mut-field.ensures.value ∙ sym (s.found f) ∙ ap (get k) c.self.view_is,
    )
