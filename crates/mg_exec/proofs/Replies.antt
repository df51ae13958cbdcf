-- Replies that were read.
use Rattle.std.proofs.Common.{◌≡◌, ℕ, ℤ, List, true, false, Option, Some, None, refl, sym, ap, ◌∙◌, subst}
use Rattle.std.specs.Prelude.{is_some, unwrap_or}
use Rattle.mg_bson.specs.Tree.{Fields, no_fields}
use Rattle.mg_bson.specs.Raw.{IsDocument, fields}
use Rattle.mg_bson.specs.Reading.{doc}
use Rattle.mg_link.specs.declared.error.Error.{Error}
use Rattle.mg_link.specs.declared.error.ErrorKind.TheVariants as kind
use Rattle.mg_link.specs.declared.error.Malformed.TheVariants as malformed
use Rattle.mg_link.specs.declared.reply.Verdict.TheVariants as verdict
use Rattle.mg_link.specs.Errors.{plain}
use Rattle.mg_link.specs.Codes.{is_among}
use Rattle.mg_link.specs.Reply.{code_of, verdict_of}
use Rattle.mg_link.specs.Retry.{retried_codes, is_retried_as, is_retried_reply}
use Rattle.mg_link.specs.Exec.{FailsAs, FailsByReply}

some_is : (o : Option Fields) → is_some o ≡ true → o ≡ Some (unwrap_or o no_fields)
some_is None h = cc
some_is (Some fs) h = refl

-- bytes that were checked are a document with those fields
pub doc_is : (bs : List ℕ) → IsDocument bs → doc bs ≡ Some (fields bs)
unfolding fields
doc_is bs h = some_is (doc bs) h

pub retried_success : (bs : List ℕ) → IsDocument bs → verdict_of (fields bs) ≡ verdict.Success → is_retried_reply (doc bs) ≡ false
retried_success bs h v = ap is_retried_reply (doc_is bs h) ∙ ap (λ w. is_retried_as w (fields bs)) v

pub retried_refusal : (bs : List ℕ) → IsDocument bs → verdict_of (fields bs) ≡ verdict.Refusal → is_retried_reply (doc bs) ≡ is_among (code_of (fields bs)) retried_codes
retried_refusal bs h v = ap is_retried_reply (doc_is bs h) ∙ ap (λ w. is_retried_as w (fields bs)) v

pub retried_no_ok : (bs : List ℕ) → IsDocument bs → verdict_of (fields bs) ≡ verdict.NoOk → is_retried_reply (doc bs) ≡ false
retried_no_ok bs h v = ap is_retried_reply (doc_is bs h) ∙ ap (λ w. is_retried_as w (fields bs)) v

-- a reply that is a document fails by what it says
pub fails_as : (bs : List ℕ) (wire : ℤ) (e : Error) → IsDocument bs → FailsAs (verdict_of (fields bs)) (fields bs) wire e → FailsByReply (doc bs) wire e
fails_as bs wire e h f = subst (λ o. FailsByReply o wire e) (sym (doc_is bs h)) f

pub fails_no_ok : (bs : List ℕ) (wire : ℤ) (e : Error) → IsDocument bs → verdict_of (fields bs) ≡ verdict.NoOk → e ≡ plain (kind.InvalidResponse malformed.NoOk) → FailsByReply (doc bs) wire e
fails_no_ok bs wire e h v is = fails_as bs wire e h (subst (λ w. FailsAs w (fields bs) wire e) (sym v) is)
