-- Errors that are no fault of the link.
use Rattle.std.proofs.Common.{◌≡◌, ℕ, List, Option, Some, None, subst, inl, inr}
use Rattle.mg_bson.specs.Tree.{Fields}
use Rattle.mg_link.specs.declared.error.BadArgument.{BadArgument}
use Rattle.mg_link.specs.declared.error.BadArgument.TheVariants as argument
use Rattle.mg_link.specs.declared.error.Error.{Error}
use Rattle.mg_link.specs.declared.error.ErrorKind.{ErrorKind}
use Rattle.mg_link.specs.declared.error.ErrorKind.TheVariants as kind
use Rattle.mg_options.specs.Fields.{Line, Refuses, fields_in, first_unfit}
use Rattle.mg_ops.specs.Failing.{CannotBeInserted, CannotBeSent, CannotInsert, FailsBy}
use Rattle.mg_ops.specs.Writes.{ListsAs, NotInserted}
use Rattle.mg_cursor.proofs.Hearing.{no_room, other_kind}
use Rattle.mg_gridfs.specs.Commands.{CannotSend, CannotStore, chunks_lines}
use Rattle.mg_gridfs.specs.Steps as steps
use Rattle.mg_gridfs.specs.Steps.{CannotEnd, CannotFill, first_chunks, not_encoded}
use Rattle.mg_gridfs.specs.Uploads.{ClientUpload}

too_big : (d : Fields) (e : Error) → CannotBeSent d e → e.kind ≡ kind.Io → ⊥
too_big d e limit = other_kind e kind.BsonSerialization limit.0 (λ bad. cc)

refused_not_io : (unfit : Option BadArgument) (e : Error) → Refuses unfit e → e.kind ≡ kind.Io → ⊥
refused_not_io None e refuses = absurd refuses
refused_not_io (Some a) e refuses = other_kind e (kind.InvalidArgument a) refuses (λ bad. cc)

-- a command that is not built
pub unsent_not_io : (lines : List Line) (e : Error) → FailsBy (CannotSend lines) e → e.kind ≡ kind.Io → ⊥
unsent_not_io lines e (inl room) = no_room e room
unsent_not_io lines e (inr (inl refuses)) = refused_not_io (first_unfit lines) e refuses
unsent_not_io lines e (inr (inr limit)) = too_big (fields_in lines) e limit

not_together : (ds : List Fields) (e : Error) → CannotBeInserted ds e → e.kind ≡ kind.Io → ⊥
not_together ds e (inl none) = other_kind e (kind.InvalidArgument argument.NoDocuments) none.0 (λ bad. cc)
not_together ds e (inr big) = other_kind e kind.BsonSerialization big.0 (λ bad. cc)

not_insertable : (unfit : Option BadArgument) (ds : List Fields) (e : Error) → CannotInsert unfit ds e → e.kind ≡ kind.Io → ⊥
not_insertable None ds e why = not_together ds e why
not_insertable (Some a) ds e (inl why) = not_together ds e why
not_insertable (Some a) ds e (inr is) = other_kind e (kind.InvalidArgument a) is (λ bad. cc)

not_storable : (lines : List Line) (ds : List Fields) (e : Error) → CannotStore lines ds e → e.kind ≡ kind.Io → ⊥
not_storable lines ds e (inl cannot) = not_insertable (first_unfit lines) ds e cannot
not_storable lines ds e (inr limit) = too_big (fields_in lines) e limit

-- an insert that is not built
pub unstored_not_io : (lines : List Line) (ds : List Fields) (e : Error) → FailsBy (CannotStore lines ds) e → e.kind ≡ kind.Io → ⊥
unstored_not_io lines ds e (inl room) = no_room e room
unstored_not_io lines ds e (inr cannot) = not_storable lines ds e cannot

-- full chunks, or the last one, are in no command
pub unfilled_not_io : (u : ClientUpload) (ids : ℕ → List ℕ) (e : Error) → FailsBy (CannotFill u ids) e → e.kind ≡ kind.Io → ⊥
unfilled_not_io u ids e (inl room) = no_room e room
unfilled_not_io u ids e (inr (steps.too_many count some few within past why is)) = other_kind e kind.FileTooLarge is (λ bad. cc)
unfilled_not_io u ids e (inr (steps.too_large count portion small cannot)) = not_storable (chunks_lines u.aim.bucket (first_chunks u ids count)) (first_chunks u ids count) e cannot
unfilled_not_io u ids e (inr (not_encoded d is limit)) = too_big d e limit

pub unended_not_io : (u : ClientUpload) (ds : List Fields) (e : Error) → FailsBy (CannotEnd u ds) e → e.kind ≡ kind.Io → ⊥
unended_not_io u ds e (inl room) = no_room e room
unended_not_io u ds e (inr (steps.too_many past is)) = other_kind e kind.FileTooLarge is (λ bad. cc)
unended_not_io u ds e (inr (steps.too_large small cannot)) = not_storable (chunks_lines u.aim.bucket ds) ds e cannot

-- the reply to an insert is none of success
pub not_inserted_io : (count : ℕ) (said : Fields) (e : Error) → FailsBy (NotInserted count said) e → e.kind ≡ kind.Io → ⊥
not_inserted_io count said e (inl room) io = no_room e room io
not_inserted_io count said e (inr why) io = subst (λ (k : ErrorKind). ListsAs count said k) io why.1
