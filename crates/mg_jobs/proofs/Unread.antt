-- Why a request fails in a legal history: not since the reply to it is no document, or says neither success nor refusal.
use Rattle.std.proofs.Common.{◌≡◌, ◌⊎◌, ℕ, ℤ, Bool, List, Option, Some, None, refl, sym, ap, ◌∙◌, subst, inl, inr}
use Rattle.std.specs.Prelude.{unwrap_or}
use Rattle.mg_bson.specs.Raw.{fields}
use Rattle.mg_bson.specs.Reading.{doc}
use Rattle.mg_bson.specs.Tree.{Fields, no_fields}
use Rattle.mg_server.specs.Calls.{HeardBy, Past, RequestFails, out_of_memory, was_broken, was_lost, was_refused}
use Rattle.mg_link.specs.Errors.{plain}
use Rattle.mg_link.specs.Exec.{FailsAs, FailsByReply, IsSuccess}
use Rattle.mg_link.specs.Failures.{refusal_by}
use Rattle.mg_server.specs.History.{IsLegal, Step}
use Rattle.mg_link.specs.Log.{reply}
use Rattle.mg_link.specs.Reply.{Refusal, refusal_of, verdict_of}
use Rattle.mg_server.specs.Standing.{Stands}
use Rattle.mg_link.specs.declared.error.BadArgument.{BadArgument}
use Rattle.mg_link.specs.declared.error.BadArgument.TheVariants as argument
use Rattle.mg_link.specs.declared.error.Error.{Error}
use Rattle.mg_link.specs.declared.error.ErrorKind.{ErrorKind}
use Rattle.mg_link.specs.declared.error.ErrorKind.TheVariants as kind
use Rattle.mg_link.specs.declared.reply.Verdict.{Verdict}
use Rattle.mg_link.specs.declared.reply.Verdict.TheVariants as verdict
use Rattle.mg_server.proofs.Pasts.{heard_by}
use Rattle.mg_options.specs.Fields.{Line, Refuses, first_unfit}
use Rattle.mg_ops.specs.Failing.{CannotBeInserted, CannotBeSent, CannotInsert, HasBadSize}
use Rattle.mg_gridfs.specs.Commands.{CannotSend, CannotStore}
use Rattle.mg_players.proofs.GetSteps.{took}
use Rattle.mg_players.proofs.Prompting.{lawful_at, never_garbled, told_so}
use Rattle.mg_jobs.specs.Grammar.{SaysGarbled, SaysNoDocument}

-- ---- what an error of one kind says

pub as_said : (e : Error) (k : ErrorKind) → e.kind ≡ k → SaysGarbled e.kind → SaysGarbled k
as_said e k is garbled = subst SaysGarbled is garbled

pub plainly_said : (e : Error) (k : ErrorKind) → e ≡ plain k → SaysGarbled e.kind → SaysGarbled k
plainly_said e k is garbled = subst (λ (x : Error). SaysGarbled x.kind) is garbled

pub garbled_so : (k : ErrorKind) → SaysNoDocument k → SaysGarbled k
garbled_so kind.BsonDeserialization none = tt
garbled_so k none = absurd none

-- ---- what is not built

pub size_kept : (size : Option ℕ) (command : Fields) (e : Error) → HasBadSize size e ⊎ CannotBeSent command e → SaysGarbled e.kind → ⊥
size_kept size command e (inl bad) garbled = plainly_said e (kind.InvalidArgument argument.BatchSize) bad.0 garbled
size_kept size command e (inr by) garbled = plainly_said e kind.BsonSerialization by.0 garbled

documents_kept : (documents : List Fields) (e : Error) → CannotBeInserted documents e → SaysGarbled e.kind → ⊥
documents_kept documents e (inl none) garbled = plainly_said e (kind.InvalidArgument argument.NoDocuments) none.0 garbled
documents_kept documents e (inr large) garbled = plainly_said e kind.BsonSerialization large.0 garbled

pub piece_kept : (documents : List Fields) (command : Fields) (e : Error) → CannotBeInserted documents e ⊎ CannotBeSent command e → SaysGarbled e.kind → ⊥
piece_kept documents command e (inl cannot) garbled = documents_kept documents e cannot garbled
piece_kept documents command e (inr by) garbled = plainly_said e kind.BsonSerialization by.0 garbled

argument_kept : (o : Option BadArgument) (e : Error) → Refuses o e → SaysGarbled e.kind → ⊥
argument_kept None e refuses garbled = refuses
argument_kept (Some a) e refuses garbled = plainly_said e (kind.InvalidArgument a) refuses garbled

pub send_kept : (lines : List Line) (e : Error) → CannotSend lines e → SaysGarbled e.kind → ⊥
send_kept lines e (inl bad) garbled = argument_kept (first_unfit lines) e bad garbled
send_kept lines e (inr by) garbled = plainly_said e kind.BsonSerialization by.0 garbled

insertion_kept : (o : Option BadArgument) (documents : List Fields) (e : Error) → CannotInsert o documents e → SaysGarbled e.kind → ⊥
insertion_kept None documents e cannot garbled = documents_kept documents e cannot garbled
insertion_kept (Some a) documents e (inl cannot) garbled = documents_kept documents e cannot garbled
insertion_kept (Some a) documents e (inr bad) garbled = plainly_said e (kind.InvalidArgument a) bad garbled

pub store_kept : (lines : List Line) (documents : List Fields) (e : Error) → CannotStore lines documents e → SaysGarbled e.kind → ⊥
store_kept lines documents e (inl cannot) garbled = insertion_kept (first_unfit lines) documents e cannot garbled
store_kept lines documents e (inr by) garbled = plainly_said e kind.BsonSerialization by.0 garbled

-- ---- a reply that is no success

told_says : (k : ErrorKind) (labels : List (List ℕ)) (told : Refusal) → refusal_by k labels ≡ Some told → SaysGarbled k → ⊥
told_says (kind.Command c) labels told h garbled = garbled
told_says k labels told h garbled = absurd cc

verdict_says : (v : Verdict) (said : Fields) (wire : ℤ) (e : Error) → FailsAs v said wire e → SaysGarbled e.kind → v ≡ verdict.NoOk
verdict_says verdict.Success said wire e fails garbled = absurd fails
verdict_says verdict.Refusal said wire e (inl full) garbled = absurd (plainly_said e kind.OutOfMemory full garbled)
verdict_says verdict.Refusal said wire e (inr tells) garbled = absurd (told_says e.kind e.labels (refusal_of said) tells.refusal garbled)
verdict_says verdict.NoOk said wire e fails garbled = refl

document_says : (o : Option Fields) (wire : ℤ) (e : Error) → FailsByReply o wire e → SaysGarbled e.kind → verdict_of (unwrap_or o no_fields) ≡ verdict.NoOk
unfolding verdict_of
document_says None wire e fails garbled = refl
document_says (Some said) wire e fails garbled = verdict_says (verdict_of said) said wire e fails garbled

reply_says : (bytes : List ℕ) (wire : ℤ) (e : Error) → FailsByReply (doc bytes) wire e → SaysGarbled e.kind → verdict_of (fields bytes) ≡ verdict.NoOk
unfolding fields
reply_says bytes wire e fails garbled = document_says (doc bytes) wire e fails garbled

-- where each reply to a request has a verdict
pub request_by : (past : Past) (command : Fields) (retries : Bool) (Broken : List ℕ → Error → Type 0) (e : Error) → ((bytes : List ℕ) → HeardBy past command (reply bytes) → verdict_of (fields bytes) ≡ verdict.NoOk → ⊥)
    → ((bytes : List ℕ) → HeardBy past command (reply bytes) → IsSuccess bytes → Broken bytes e → ⊥) → RequestFails past command retries Broken e → SaysGarbled e.kind → ⊥
request_by past command retries Broken e judged whole (out_of_memory room) garbled = as_said e kind.OutOfMemory room garbled
request_by past command retries Broken e judged whole (was_lost is heard) garbled = plainly_said e kind.Io is garbled
request_by past command retries Broken e judged whole (was_refused bytes heard fails) garbled = judged bytes (heard_by past command retries (reply bytes) heard) (reply_says bytes past.wire e fails garbled)
request_by past command retries Broken e judged whole (was_broken bytes heard success broken) garbled = whole bytes (heard_by past command retries (reply bytes) heard) success broken

-- ---- in a history

module _ (past : Past) (history : List Step) (legal : IsLegal history) (stands : Stands past.calls history) where
  -- each reply has a verdict
  pub has_verdict : (command : Fields) (bytes : List ℕ) → HeardBy past command (reply bytes) → verdict_of (fields bytes) ≡ verdict.NoOk → ⊥
  has_verdict command bytes h is =
      let t = took past history stands command bytes h in
      let l = lawful_at history t.position t.step legal t.there in
      never_garbled t.step l (told_so t.step l verdict.NoOk (ap (λ (b : List ℕ). verdict_of (fields b)) (sym t.reply_is) ∙ is))

  -- so only what breaks a success says so
  pub request_kept : (command : Fields) (retries : Bool) (Broken : List ℕ → Error → Type 0) (e : Error) → ((bytes : List ℕ) → HeardBy past command (reply bytes) → IsSuccess bytes → Broken bytes e → ⊥) → RequestFails past command retries Broken e → SaysGarbled e.kind → ⊥
  request_kept command retries Broken e whole fails garbled = request_by past command retries Broken e (has_verdict command) whole fails garbled
