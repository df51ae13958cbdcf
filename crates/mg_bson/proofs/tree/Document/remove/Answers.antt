use Rattle.std.proofs.Common.{sym, ap, ◌∙◌, arith, Some}
use Rattle.mg_bson.specs.Find.{get, without}
use Rattle.mg_bson.specs.View.{tree, fields_of, place}
use Rattle.mg_bson.proofs.Places.{place_some, place_none}
use Rattle.mg_bson.proofs.tree.Document.remove.Goals as goal

pub returns-in_err-i-clause-rest : goal.returns-in_err-i-clause-rest
returns-in_err-i-clause-rest c =
    let k = c.args.name.now in
    let s = place_none k c.self.inside.fields.items (sym (ap (place k) c.deref.ensures.value) ∙ sym c.in_err-i.ensures) in
    rw (← c.self.view_is) (sym s.kept)

pub returns-in_err-i-clause-removed : goal.returns-in_err-i-clause-removed
returns-in_err-i-clause-removed c =
    let k = c.args.name.now in
    let s = place_none k c.self.inside.fields.items (sym (ap (place k) c.deref.ensures.value) ∙ sym c.in_err-i.ensures) in
    rw (c.from_residual.ensures, ← c.self.view_is) (sym s.missing)

pub remove-requires : goal.remove-requires
remove-requires c =
    let k = c.args.name.now in
    let s = place_some k c.self.inside.fields.items c.in_ok-i.i (sym (ap (place k) c.deref.ensures.value) ∙ sym c.in_ok-i.ensures) in
    omega (arith, s.within, c.self.inside.fields.ok.0)

pub returns-clause-rest : goal.returns-clause-rest
returns-clause-rest c =
    let k = c.args.name.now in
    let s = place_some k c.self.inside.fields.items c.in_ok-i.i (sym (ap (place k) c.deref.ensures.value) ∙ sym c.in_ok-i.ensures) in
    ap fields_of c.remove.ensures.items ∙ sym s.removed ∙ ap (without k) c.self.view_is

pub returns-clause-removed : goal.returns-clause-removed
returns-clause-removed c =
    let k = c.args.name.now in
    let s = place_some k c.self.inside.fields.items c.in_ok-i.i (sym (ap (place k) c.deref.ensures.value) ∙ sym c.in_ok-i.ensures) in
    ap (λ f. Some (tree f.value)) c.remove.ensures.value ∙ sym (s.found c.remove.result) ∙ ap (get k) c.self.view_is
