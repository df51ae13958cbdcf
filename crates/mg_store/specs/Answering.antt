-- The answer to a command: its reply, and what it does.
use Rattle.std.specs.Prelude.{◌≡◌, false, Result, Ok, Err}
use Rattle.mg_bson.specs.Tree.{Fields}
use Rattle.mg_query.specs.Replies.{IsWritten, fits}
use Rattle.mg_query.specs.declared.refusal.Refusal.TheVariants.{BadRequest}
use Rattle.mg_query.specs.declared.refusal.Stop.{Stop}
use Rattle.mg_query.specs.declared.refusal.Stop.TheVariants as stops
use Rattle.mg_store.specs.declared.perform.Answer.{Answer}
use Rattle.mg_store.specs.declared.content.Effect.{Effect}
use Rattle.mg_store.specs.declared.content.Effect.TheVariants.{Nothing}

-- the reply is written, and the command does this
pub record Replies (d : Fields) (effect : Effect) (answer : Answer) : Type 0 where
  pub reply : IsWritten d answer.reply
  pub effect_is : answer.effect ≡ effect

-- the answer of a reply that fits, or the refusal of another
abbrev pub AnswersAs : Result Answer Stop → Fields → Effect → Type 0
AnswersAs (Ok answer) d effect = Replies d effect answer
AnswersAs (Err stops.Memory) d effect = Unit {0}
AnswersAs (Err (stops.Refused refusal)) d effect = (refusal ≡ BadRequest) × (fits d ≡ false)

-- the answer with this reply, which does nothing
abbrev pub AnswersRefusal : Fields → Answer → Type 0
AnswersRefusal d answer = Replies d Nothing answer
