-- When a read is sent once more (drivers' specification of retryable reads).
use Rattle.std.specs.Prelude.{ℤ, pos, List, [], ◌∷◌, Bool, true, false, Option, Some, None}
use Rattle.mg_bson.specs.Tree.{Fields}
use Rattle.mg_bson.specs.Reading.{doc}
use Rattle.mg_link.specs.declared.reply.Verdict.{Verdict}
use Rattle.mg_link.specs.declared.reply.Verdict.TheVariants as verdict
use Rattle.mg_link.specs.Codes.{is_among}
use Rattle.mg_link.specs.Log.{Sight, waiting, reply, fault, memory}
use Rattle.mg_link.specs.Reply.{code_of, verdict_of}

-- the codes of refusals after which a read is sent once more
abbrev pub retried_codes : List ℤ
retried_codes = pos 6 ∷ pos 7 ∷ pos 89 ∷ pos 91 ∷ pos 134 ∷ pos 189 ∷ pos 262 ∷ pos 9001 ∷ pos 10107 ∷ pos 11600 ∷ pos 11602 ∷ pos 13435 ∷ pos 13436 ∷ []

abbrev pub is_retried_as : Verdict → Fields → Bool
is_retried_as verdict.Success said = false
is_retried_as verdict.Refusal said = is_among (code_of said) retried_codes
is_retried_as verdict.NoOk said = false

abbrev pub is_retried_reply : Option Fields → Bool
is_retried_reply None = false
is_retried_reply (Some said) = is_retried_as (verdict_of said) said

-- a read that has seen this is sent once more: a fault, or a refusal with one of the codes
abbrev pub is_retried : Sight → Bool
is_retried waiting = false
is_retried (reply bytes) = is_retried_reply (doc bytes)
is_retried fault = true
is_retried memory = false
