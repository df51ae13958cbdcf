-- Which errors the calls of a put's upload may have.
use Rattle.std.proofs.Common.{◌≡◌, ◌⊎◌, ℕ, ℤ, false, List, [], ◌∷◌, Option, Some, None, sym, subst, inl, inr}
use Rattle.mg_bson.specs.Reading.{doc}
use Rattle.mg_bson.specs.Tree.{Fields}
use Rattle.mg_server.specs.Calls.{Past, RequestFails}
use Rattle.mg_link.specs.Errors.{plain}
use Rattle.mg_link.specs.Exec.{Attempt, AttemptFails, FailsAs, FailsByReply, Runs, Sending, answered, not_sent, waits}
use Rattle.mg_link.specs.Failures.{refusal_by}
use Rattle.mg_link.specs.Link.{Awaited, LogTold}
use Rattle.mg_link.specs.Log as seen
use Rattle.mg_link.specs.Reply.{Refusal, refusal_of, verdict_of}
use Rattle.mg_link.specs.declared.action.Step.TheVariants as came
use Rattle.mg_link.specs.declared.error.BadArgument.{BadArgument}
use Rattle.mg_link.specs.declared.error.BadArgument.TheVariants as argument
use Rattle.mg_link.specs.declared.error.Error.{Error}
use Rattle.mg_link.specs.declared.error.ErrorKind.{ErrorKind}
use Rattle.mg_link.specs.declared.error.ErrorKind.TheVariants as kind
use Rattle.mg_link.specs.declared.error.Malformed.TheVariants as malformed
use Rattle.mg_link.specs.declared.reply.Verdict.{Verdict}
use Rattle.mg_link.specs.declared.reply.Verdict.TheVariants as verdict
use Rattle.mg_options.specs.Fields.{Line, fields_in, first_unfit}
use Rattle.mg_ops.specs.Failing.{CannotBeInserted, CannotBeSent, CannotInsert, FailsBy}
use Rattle.mg_ops.specs.Writes.{ListsAs, NotInserted}
use Rattle.mg_gridfs.specs.Causes as causes
use Rattle.mg_gridfs.specs.Causes.{ListsFor, UploadFails}
use Rattle.mg_gridfs.specs.Commands.{CannotStore, chunk_document, chunks_lines, record_lines}
use Rattle.mg_gridfs.specs.Uploads.{Aim, Ending, record_of}
use Rattle.mg_players.specs.PutFailures.{IsCommonKind, NotBuilt, full_chunks, last_chunk, one_chunk, the_record}

is_plain : (e : Error) (k : ErrorKind) → e ≡ plain k → IsCommonKind k → IsCommonKind e.kind
is_plain e k is h = subst (λ (x : Error). IsCommonKind x.kind) (sym is) h

pub memory_or : (Cause : Error → Type 0) (e : Error) → ((x : Error) → Cause x → IsCommonKind x.kind) → FailsBy Cause e → IsCommonKind e.kind
memory_or Cause e each (inl full) = is_plain e kind.OutOfMemory full tt
memory_or Cause e each (inr cause) = each e cause

-- ---- requests

told_kind : (k : ErrorKind) (labels : List (List ℕ)) (told : Refusal) → refusal_by k labels ≡ Some told → IsCommonKind k
told_kind (kind.Command c) labels told h = tt
told_kind k labels told h = absurd cc

verdict_kind : (v : Verdict) (said : Fields) (wire : ℤ) (e : Error) → FailsAs v said wire e → IsCommonKind e.kind
verdict_kind verdict.Success said wire e h = absurd h
verdict_kind verdict.Refusal said wire e (inl full) = is_plain e kind.OutOfMemory full tt
verdict_kind verdict.Refusal said wire e (inr tells) = told_kind e.kind e.labels (refusal_of said) tells.refusal
verdict_kind verdict.NoOk said wire e h = is_plain e (kind.InvalidResponse malformed.NoOk) h tt

reply_kind : (o : Option Fields) (wire : ℤ) (e : Error) → FailsByReply o wire e → IsCommonKind e.kind
reply_kind None wire e h = is_plain e kind.BsonDeserialization h tt
reply_kind (Some said) wire e h = verdict_kind (verdict_of said) said wire e h

attempt_kind : (a : Attempt) (wire : ℤ) (e : Error) → AttemptFails a wire e → IsCommonKind e.kind
attempt_kind not_sent wire e h = is_plain e kind.OutOfMemory h tt
attempt_kind (waits ticket) wire e h = absurd h
attempt_kind (answered seen.waiting) wire e h = absurd h
attempt_kind (answered (seen.reply bytes)) wire e h = reply_kind (doc bytes) wire e h
attempt_kind (answered seen.fault) wire e h = is_plain e kind.Io h tt
attempt_kind (answered seen.memory) wire e h = is_plain e kind.OutOfMemory h tt

pub ran_kind : (old new : Awaited) (log log' : LogTold) (wire : ℤ) (s : Sending) (e : Error) → Runs old new log log' wire s (came.Failed e) → IsCommonKind e.kind
ran_kind old new log log' wire s e (inl once) = attempt_kind once.attempt wire e once.gives
ran_kind old new log log' wire s e (inr twice) = attempt_kind twice.again wire e twice.gives

lists_kind : (count : ℕ) (said : Fields) (k : ErrorKind) → ListsAs count said k → IsCommonKind k
lists_kind count said (kind.InsertMany failures) h = tt
lists_kind count said (kind.InvalidResponse m) h = tt
lists_kind count said k h = absurd h

pub inserted_kind : (count : ℕ) (said : Fields) (e : Error) → NotInserted count said e → IsCommonKind e.kind
inserted_kind count said e h = lists_kind count said e.kind h.1

-- ---- what is not built

-- any other cause of a first error
abbrev pub NoLimit : Past → Aim → Error → Type 0
NoLimit past aim e = (e.kind ≡ kind.OutOfMemory)
    ⊎ (((documents : List Fields) × RequestFails past (fields_in (chunks_lines aim.bucket documents)) false (ListsFor documents) e)
    ⊎ (((ending : Ending) × RequestFails past (fields_in (record_lines aim.bucket (record_of aim ending))) false (ListsFor (record_of aim ending ∷ [])) e)
    ⊎ (e ≡ plain kind.FileTooLarge)))

-- the kinds of such errors
abbrev pub IsLimitKind : ErrorKind → Type 0
IsLimitKind kind.BsonSerialization = Unit {0}
IsLimitKind (kind.InvalidArgument a) = Unit {0}
IsLimitKind k = ⊥

pub never_both : (k : ErrorKind) → IsLimitKind k → IsCommonKind k → ⊥
never_both kind.BsonSerialization limit common = common
never_both (kind.InvalidArgument a) limit common = common
never_both k limit common = limit

is_limit : (e : Error) (k : ErrorKind) → e ≡ plain k → IsLimitKind k → IsLimitKind e.kind
is_limit e k is h = subst (λ (x : Error). IsLimitKind x.kind) (sym is) h

sent_limit : (d : Fields) (e : Error) → CannotBeSent d e → IsLimitKind e.kind
sent_limit d e h = is_limit e kind.BsonSerialization h.0 tt

none_limit : (ds : List Fields) (e : Error) → CannotBeInserted ds e → IsLimitKind e.kind
none_limit ds e (inl none) = is_limit e (kind.InvalidArgument argument.NoDocuments) none.0 tt
none_limit ds e (inr large) = is_limit e kind.BsonSerialization large.0 tt

insert_limit : (o : Option BadArgument) (ds : List Fields) (e : Error) → CannotInsert o ds e → IsLimitKind e.kind
insert_limit None ds e cannot = none_limit ds e cannot
insert_limit (Some a) ds e (inl cannot) = none_limit ds e cannot
insert_limit (Some a) ds e (inr is) = is_limit e (kind.InvalidArgument a) is tt

store_limit : (lines : List Line) (ds : List Fields) (e : Error) → CannotStore lines ds e → IsLimitKind e.kind
store_limit lines ds e (inl cannot) = insert_limit (first_unfit lines) ds e cannot
store_limit lines ds e (inr cannot) = sent_limit (fields_in lines) e cannot

pub built_limit : (aim : Aim) (e : Error) → NotBuilt aim e → IsLimitKind e.kind
built_limit aim e (full_chunks documents portion twelve cannot) = store_limit (chunks_lines aim.bucket documents) documents e cannot
built_limit aim e (one_chunk id number bytes twelve long cannot) = sent_limit (chunk_document id aim.id number bytes) e cannot
built_limit aim e (last_chunk document rest twelve cannot) = store_limit (chunks_lines aim.bucket (document ∷ [])) (document ∷ []) e cannot
built_limit aim e (the_record ending cannot) = store_limit (record_lines aim.bucket (record_of aim ending)) (record_of aim ending ∷ []) e cannot

-- an upload that could not build something failed with that
pub first_limit : (past : Past) (aim : Aim) (e : Error) → UploadFails past aim e → IsLimitKind e.kind ⊎ NoLimit past aim e
first_limit past aim e (causes.out_of_memory full) = inr (inl full)
first_limit past aim e (causes.chunks_not_built documents portion cannot) = inl (store_limit (chunks_lines aim.bucket documents) documents e cannot)
first_limit past aim e (causes.document_not_built id number bytes long cannot) = inl (sent_limit (chunk_document id aim.id number bytes) e cannot)
first_limit past aim e (causes.last_not_built document rest cannot) = inl (store_limit (chunks_lines aim.bucket (document ∷ [])) (document ∷ []) e cannot)
first_limit past aim e (causes.record_not_built ending cannot) = inl (store_limit (record_lines aim.bucket (record_of aim ending)) (record_of aim ending ∷ []) e cannot)
first_limit past aim e (causes.by_chunks documents failed) = inr (inr (inl (documents, failed)))
first_limit past aim e (causes.by_record ending failed) = inr (inr (inr (inl (ending, failed))))
first_limit past aim e (causes.too_large first count small some few most is) = inr (inr (inr (inr is)))
