-- An opening of the file that a get is to read.
use Rattle.std.proofs.Common.{◌≡◌, Option, Some, None, string_bytes, refl, sym, ap, ◌∙◌, subst, inl, inr}
use Rattle.std.specs.Prelude.{option_map}
use Rattle.mg_bson.specs.Tree.{Tree}
use Rattle.mg_link.specs.Namespace.{as_database}
use Rattle.mg_server.specs.Files.{Bucket, chunks_space, files_space}
use Rattle.mg_link.specs.declared.concern.ReadConcern.{ReadConcern}
use Rattle.mg_options.specs.Copies.{SameIn, level_of}
use Rattle.mg_options.specs.declared.grid_fs.GridFsBucketOptions.{GridFsBucketOptions}
use Rattle.mg_ops.specs.Naming.{IsNamed}
use Rattle.mg_gridfs.specs.Buckets.{ClientBucket, SameBucket, bucket_by}
use Rattle.mg_gridfs.specs.declared.bucket.DatabaseDefaults.{DatabaseDefaults}
use Rattle.mg_gridfs.specs.Downloaded.{IsPlainAt}
use Rattle.mg_gridfs.specs.Findings.{ClientFinding, IsNewFinding}
use Rattle.mg_players.specs.Buckets.{plain_bucket}
use Rattle.mg_players.specs.Gets.{GetTask, IsOpeningFor}
use Rattle.mg_players.proofs.Naming.{chunks_named, files_named}

-- a new bucket by its names, of which nothing else is given
pub new_is_plain : (at : Bucket) (d : DatabaseDefaults) (o : GridFsBucketOptions) → string_bytes d.name ≡ at.db → d.read_concern ≡ None → d.write_concern ≡ None → d.selection_criteria ≡ None → option_map string_bytes o.bucket_name ≡ Some at.name → o.chunk_size_bytes ≡ None → o.read_concern ≡ None → o.write_concern ≡ None → o.selection_criteria ≡ None
    → bucket_by d o ≡ plain_bucket at
new_is_plain at d o db reads writes asks named size less more others = rw (db, reads, writes, asks, named, size, less, more, others) refl

none_given : (reads : Option ReadConcern) → SameIn level_of None reads → reads ≡ None
none_given None same = refl
none_given (Some c) same = absurd same

-- a copy of the bucket
plain_copy : (at : Bucket) (b c : ClientBucket) → b ≡ plain_bucket at → as_database at.db ≡ Some at.db → SameBucket b c → IsPlainAt c at
plain_copy at b c is named same =
    let files : c.files ≡ files_space at = same.files ∙ ap (λ (x : ClientBucket). x.files) is in
    let chunks : c.chunks ≡ chunks_space at = same.chunks ∙ ap (λ (x : ClientBucket). x.chunks) is in
    record {
      named = record { place = record { files = files; chunks = chunks }; files = subst IsNamed (sym files) (files_named at named); chunks = subst IsNamed (sym chunks) (chunks_named at named) };
      no_concern = none_given c.reads (subst (λ (x : ClientBucket). SameIn level_of x.reads c.reads) is same.reads);
      no_criteria = same.asks ∙ ap (λ (x : ClientBucket). x.asks) is;
    }

-- A new opening in it is of the file.
pub opening_for : (g : GetTask) (b : ClientBucket) (id : Tree) (o : ClientFinding) → b ≡ plain_bucket g.at → as_database g.at.db ≡ Some g.at.db → id ≡ g.id → IsNewFinding b id o → IsOpeningFor g o
opening_for g b id o is named same new_one = record {
  id_is = new_one.id_is ∙ same;
  placed = λ c there. elim new_one.bucket [
    | inl none ↦ absurd (let bad : Some c ≡ None = sym there ∙ none in cc)
    | inr x ↦
        let here : x.0 ≡ c = (let e : Some x.0 ≡ Some c = sym x.1 ∙ there in cc) in
        subst (λ (y : ClientBucket). IsPlainAt y g.at) here (plain_copy g.at b x.0 is named x.2)
  ];
}
