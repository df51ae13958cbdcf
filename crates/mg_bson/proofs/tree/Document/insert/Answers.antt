use Rattle.std.proofs.Common.{sym, ap, ◌∙◌, arith, Some}
use Rattle.mg_bson.specs.Find.{get, put, with_field}
use Rattle.mg_bson.specs.View.{tree, fields_of, place}
use Rattle.mg_bson.specs.declared.tree.Field.{Field}
use Rattle.mg_bson.proofs.Places.{place_some, place_none}
use Rattle.mg_bson.proofs.tree.Document.insert.Goals as goal

pub index_mut-field-requires : goal.index_mut-field-requires
index_mut-field-requires c =
    let k = c.args.name.now in
    let s = place_some k c.self.inside.fields.items c.in-Some.i (sym (ap (place k) c.deref.ensures.value) ∙ sym c.in-Some.ensures) in
    omega (arith, s.within, c.self.inside.fields.ok.0)

pub returns-in-Some-clause-ok : goal.returns-in-Some-clause-ok
returns-in-Some-clause-ok c =
    let k = c.args.name.now in
    let s = place_some k c.self.inside.fields.items c.in-Some.i (sym (ap (place k) c.deref.ensures.value) ∙ sym c.in-Some.ensures) in
    let f = c.index_mut-field.result.now in
    let g : Field = record { name = f.name; value = c.replace.new.dest } in
    sym (s.replaced f g (ap (λ f. f.name) c.index_mut-field.ensures.value)) ∙ ap (λ v. put k (tree v) (fields_of c.self.inside.fields.items)) c.replace.ensures.after ∙ ap (put k (tree c.args.value)) c.self.view_is

pub returns-in-Some-clause-old : goal.returns-in-Some-clause-old
returns-in-Some-clause-old c =
    let k = c.args.name.now in
    let s = place_some k c.self.inside.fields.items c.in-Some.i (sym (ap (place k) c.deref.ensures.value) ∙ sym c.in-Some.ensures) in
    let f = c.index_mut-field.result.now in
    ap (λ v. Some (tree v)) c.replace.ensures.value ∙ ap (λ f. Some (tree f.value)) c.index_mut-field.ensures.value ∙ sym (s.found f) ∙ ap (get k) c.self.view_is

pub returns-in_ok-append-in-None-clause-ok : goal.returns-in_ok-append-in-None-clause-ok
returns-in_ok-append-in-None-clause-ok c =
    let k = c.args.name.now in
    let t = tree c.args.value in
    let s = place_none k c.self.inside.fields.items (sym (ap (place k) c.deref.ensures.value) ∙ sym c.in-None.ensures) in
    c.in_ok-append-in-None.ensures.ok ∙ ap (λ d. with_field d k t) (sym c.self.view_is) ∙ sym (s.added t) ∙ ap (put k t) c.self.view_is

pub returns-in_ok-append-in-None-clause-old : goal.returns-in_ok-append-in-None-clause-old
returns-in_ok-append-in-None-clause-old c =
    let k = c.args.name.now in
    let s = place_none k c.self.inside.fields.items (sym (ap (place k) c.deref.ensures.value) ∙ sym c.in-None.ensures) in
    sym s.missing ∙ ap (get k) c.self.view_is
