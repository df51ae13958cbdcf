-- What is said of an outcome of one kind: of any other it does not hold.
use Rattle.std.specs.Prelude.{Bool, ℕ, Option, Vec}
use Rattle.std.specs.declared.alloc.Global.{Global}
use Rattle.mg_bson.specs.Tree.{Tree}
use Rattle.mg_script.specs.declared.outcome.Answer.{Answer}
use Rattle.mg_script.specs.declared.outcome.Ended.{Ended}
use Rattle.mg_script.specs.declared.outcome.Outcome.{Outcome}
use Rattle.mg_script.specs.declared.outcome.Outcome.TheVariants as outcome

-- what is said of the end of an insert, or of a put
abbrev pub SaysEnd : Type 1
SaysEnd = Ended ℕ → Type 0

-- what is said of a follow: of its opening, its answers, its token, whether it is alive, and its closing
abbrev pub SaysFollow : Type 1
SaysFollow = Ended (Unit {0}) → Vec Answer Global → Option Tree → Bool → Ended (Unit {0}) → Type 0

-- what is said of a get: of its bytes and its end
abbrev pub SaysGet : Type 1
SaysGet = Vec ℕ Global → Ended (Unit {0}) → Type 0

abbrev pub OfInsert : SaysEnd → Outcome → Type 0
OfInsert says (outcome.Insert end) = says end
OfInsert says (outcome.Follow opened said token alive closed) = ⊥
OfInsert says (outcome.Put end) = ⊥
OfInsert says (outcome.Get bytes end) = ⊥

abbrev pub OfFollow : SaysFollow → Outcome → Type 0
OfFollow says (outcome.Follow opened said token alive closed) = says opened said token alive closed
OfFollow says (outcome.Insert end) = ⊥
OfFollow says (outcome.Put end) = ⊥
OfFollow says (outcome.Get bytes end) = ⊥

abbrev pub OfPut : SaysEnd → Outcome → Type 0
OfPut says (outcome.Put end) = says end
OfPut says (outcome.Insert end) = ⊥
OfPut says (outcome.Follow opened said token alive closed) = ⊥
OfPut says (outcome.Get bytes end) = ⊥

abbrev pub OfGet : SaysGet → Outcome → Type 0
OfGet says (outcome.Get bytes end) = says bytes end
OfGet says (outcome.Insert end) = ⊥
OfGet says (outcome.Follow opened said token alive closed) = ⊥
OfGet says (outcome.Put end) = ⊥
