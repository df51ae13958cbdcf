use Rattle.std.proofs.Common.{◌≡◌, ◌⊎◌, List, ℕ, Option, None, Some, Result, Ok, Err, refl, sym, ap, subst, inl, inr}
use Rattle.std.specs.Prelude.{IfOk, option_map}
use Rattle.std.specs.Result.{result_ok}
use Rattle.std.specs.declared.alloc.AllocError.{AllocError}
use Rattle.mg_options.specs.declared.grid_fs.GridFsUploadOptions.{GridFsUploadOptions}
use Rattle.mg_gridfs.specs.Buckets.{ClientBucket, Destination, IsDraft, bucket_of, destination_of}
use Rattle.mg_gridfs.specs.declared.open_upload.Draft.{Draft}
use Rattle.mg_gridfs.proofs.open_upload.OpenUploadStream.new.Goals as goal

-- it goes there, unless memory ran out
abbrev GoesTo : ClientBucket → List ℕ → Option Draft → Type 0
GoesTo b filename o = (option_map destination_of o ≡ None) ⊎ ((d : Destination) × (option_map destination_of o ≡ Some d) × IsDraft b filename d)

goes_to : (b : ClientBucket) (filename : List ℕ) (r : Result Draft AllocError) → IfOk r (λ d. IsDraft b filename (destination_of d)) → GoesTo b filename (result_ok r)
goes_to b filename (Ok d) is = inr (destination_of d, refl, is)
goes_to b filename (Err e) is = inl refl

pub returns : goal.returns
returns c = record {
  destination = subst (GoesTo (bucket_of c.args.bucket.now) c.args.filename.now) (sym c.ok.ensures.value) (goes_to (bucket_of c.args.bucket.now) c.args.filename.now c.drafted.result c.drafted.ensures);
  id = refl;
  size = ap (λ (o : GridFsUploadOptions). o.chunk_size_bytes) c.builder.ensures;
  metadata = ap (λ (o : GridFsUploadOptions). o.metadata) c.builder.ensures;
}
