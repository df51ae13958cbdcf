-- The bucket of a put, and its upload as it is opened.
use Rattle.std.proofs.Common.{◌≡◌, ◌+◌, ℕ, List, Option, Some, None, Result, Ok, Err, refl, sym, ap, ◌∙◌, subst, inl, inr, arith}
use Rattle.std.specs.Prelude.{OnOk}
use Rattle.mg_bson.specs.Tree.{Fields, Tree}
use Rattle.mg_server.specs.Files.{chunks_space, files_space}
use Rattle.mg_link.specs.Concerns.{concerned}
use Rattle.mg_link.specs.declared.concern.ReadConcern.{ReadConcern}
use Rattle.mg_link.specs.declared.concern.WriteConcern.{WriteConcern}
use Rattle.mg_link.specs.declared.error.Error.{Error}
use Rattle.mg_link.specs.declared.read_preference.SelectionCriteria.{SelectionCriteria}
use Rattle.mg_link.specs.Namespace.{Space}
use Rattle.mg_options.specs.Copies.{SameIn, level_of}
use Rattle.mg_ops.specs.Drawn.{AreLater, one_unless_there}
use Rattle.mg_ops.specs.Failing.{FailsBy}
use Rattle.mg_gridfs.specs.Buckets.{ClientBucket, ClientOpening, HasNoSize, IsDraft, IsNewOpening, SameBucket}
use Rattle.mg_gridfs.specs.Uploads.{ClientUpload, fresh_upload}
use Rattle.mg_gridfs.specs.UploadView.{IsOpened}
use Rattle.mg_players.specs.Puts.{CannotOpen, PutTask, put_aim, put_bucket}

-- ---- a copy of its bucket

none_given : {A B : Type 0} (view : A → B) (x : Option A) → SameIn view None x → x ≡ None
none_given view None given = refl
none_given view (Some y) given = absurd given

-- a copy of a bucket without concerns is the same
copied : (t : PutTask) (c : ClientBucket) → SameBucket (put_bucket t) c → c ≡ put_bucket t
copied t c s =
    ap (λ (x : Space). record c { files = x }) s.files
    ∙ ap (λ (x : Space). record c { files = files_space t.at; chunks = x }) s.chunks
    ∙ ap (λ (n : ℕ). record c { files = files_space t.at; chunks = chunks_space t.at; chunk_size = n }) s.chunk_size
    ∙ ap (λ (w : Option WriteConcern). record (put_bucket t) { writes = w; reads = c.reads; asks = c.asks }) (none_given concerned c.writes s.writes)
    ∙ ap (λ (w : Option ReadConcern). record (put_bucket t) { reads = w; asks = c.asks }) (none_given level_of c.reads s.reads)
    ∙ ap (λ (w : Option SelectionCriteria). record (put_bucket t) { asks = w }) s.asks

-- ---- its upload

-- how it is to be opened
abbrev given_in : PutTask → ClientOpening → ClientOpening
given_in t p = record p { id = Some t.id; size = Some t.chunk }

-- It is opened so, and has taken nothing.
pub opened_fresh : (t : PutTask) (b : ClientBucket) (p o : ClientOpening) (ids : ℕ → List ℕ) (u : ClientUpload) → b ≡ put_bucket t → IsNewOpening b t.name p → o ≡ given_in t p → IsOpened o ids u → u ≡ fresh_upload (put_aim t)
opened_fresh t b p o ids u bucket new is opened =
    let own = subst (λ (x : ClientOpening). IsOpened x ids u) is opened in
    elim new.destination [
      | inl none ↦ absurd (let bad : None ≡ Some own.destination = sym none ∙ own.there in cc)
      | inr draft ↦
          let same : draft.0 ≡ own.destination = (let e : Some draft.0 ≡ Some own.destination = sym draft.1 ∙ own.there in cc) in
          let of : IsDraft (put_bucket t) t.name own.destination = subst (λ (x : ClientBucket). IsDraft x t.name own.destination) bucket (subst (IsDraft b t.name) same draft.2) in
          own.is
          ∙ ap (λ (x : ClientBucket). fresh_upload (record { bucket = x; id = t.id; size = t.chunk; filename = own.destination.filename; metadata = p.metadata })) (copied t own.destination.bucket of.bucket)
          ∙ ap (λ (n : List ℕ). fresh_upload (record { bucket = put_bucket t; id = t.id; size = t.chunk; filename = n; metadata = p.metadata })) of.named
          ∙ ap (λ (m : Option Fields). fresh_upload (record { bucket = put_bucket t; id = t.id; size = t.chunk; filename = t.name; metadata = m })) new.metadata
    ]

-- Why it is not.
pub open_fails : (t : PutTask) (p o : ClientOpening) (e : Error) → o ≡ given_in t p → FailsBy (HasNoSize o) e → CannotOpen t e
open_fails t p o e is (inl room) = inl room
open_fails t p o e is (inr fails) = let own = subst (λ (x : ClientOpening). HasNoSize x e) is fails in inr (own.none, own.error)

-- Its id is given, so that none is drawn.
pub none_by_id : {T E : Type 0} (r : Result T E) (o : ClientOpening) (id : Tree) (ids ids' : ℕ → List ℕ) → o.id ≡ Some id → OnOk r (AreLater ids (one_unless_there o.id) ids') → OnOk r ((k : ℕ) → ids' k ≡ ids k)
none_by_id (Ok s) o id ids ids' given drawn = λ k.
    let none : one_unless_there o.id ≡ 0 = ap one_unless_there given in
    let same : one_unless_there o.id + k ≡ k = omega (arith, none) in
    drawn k ∙ ap ids same
none_by_id (Err e) o id ids ids' given drawn = tt
