use Rattle.std.proofs.Common.{◌≡◌, ◌⊎◌, ◌≤◌, ◌^◌, ℕ, Option, Some, ap, ◌∙◌, subst, inl, inr}
use Rattle.std.proofs.lemmas.Result.{err_from_is_err_and}
use Rattle.std.specs.Prelude.{option_map}
use Rattle.mg_bson.specs.Tree.{Fields, Tree, object_id}
use Rattle.mg_gridfs.specs.Buckets.{Destination, destination_of, opening_of, size_in}
use Rattle.mg_gridfs.specs.Uploads.{fresh_upload, id_by}
use Rattle.mg_gridfs.specs.declared.open_upload.Draft.{Draft}
use Rattle.mg_gridfs.proofs.open_upload.OpenUploadStream.open.Goals as goal

pub new-requires : goal.new-requires
new-requires g c = c.in_ok-size.ensures.ok.1

pub returns-in_default-clause-err : goal.returns-in_default-clause-err
returns-in_default-clause-err g c = inl c.plain.ensures

pub returns-in_err-size-clause-err : goal.returns-in_err-size-clause-err
returns-in_err-size-clause-err g c =
    let d : Destination = destination_of c.in-Some.draft in
    let there : (opening_of c.args.self).destination ≡ Some d = ap (λ (o : Option Draft). option_map destination_of o) c.in-Some.is in
    let p = err_from_is_err_and c.from_residual.result c.from_residual.ensures.1 in
    rw (p.1, p.2) (inr (record {
      destination = d;
      there = there;
      none = subst (λ (n : ℕ). (n ≡ 0) ⊎ (2 ^ 31 ≤ n)) c.unwrap_or.ensures c.in_err-size.ensures.err.0;
      error = c.in_err-size.ensures.err.1;
    }))

pub returns-clause-ok : goal.returns-clause-ok
returns-clause-ok g c =
    let d : Destination = destination_of c.in-Some.draft in
    let o = opening_of c.args.self in
    let own = id_by o.id (object_id (g.I.IdSource.ids c.args.ids.now 0)) in
    let there : o.destination ≡ Some d = ap (λ (s : Option Draft). option_map destination_of s) c.in-Some.is in
    record {
      destination = d;
      there = there;
      is = c.new.ensures.started
          ∙ ap (λ (t : Tree). fresh_upload (record { bucket = d.bucket; id = t; size = c.in_ok-size.size; filename = d.filename; metadata = c.take-metadata.result })) c.id_of-id.ensures.given
          ∙ ap (λ (n : ℕ). fresh_upload (record { bucket = d.bucket; id = own; size = n; filename = d.filename; metadata = c.take-metadata.result })) (c.in_ok-size.ensures.ok.0 ∙ c.unwrap_or.ensures)
          ∙ ap (λ (m : Option Fields). fresh_upload (record { bucket = d.bucket; id = own; size = size_in o d; filename = d.filename; metadata = m })) c.take-metadata.ensures.value;
    }

pub returns-clause-sound : goal.returns-clause-sound
returns-clause-sound g c = c.new.ensures.sound

pub returns-clause-drawn : goal.returns-clause-drawn
returns-clause-drawn g c = c.id_of-id.ensures.drawn
