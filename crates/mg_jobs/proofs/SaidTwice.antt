-- Two things that are said of an outcome of one kind, said as a third.
use Rattle.std.proofs.Common.{Bool, ℕ, Option}
use Rattle.std.specs.Prelude.{Vec}
use Rattle.std.specs.declared.alloc.Global.{Global}
use Rattle.mg_bson.specs.Tree.{Tree}
use Rattle.mg_players.specs.Kinds.{OfFollow, OfGet, OfInsert, OfPut, SaysEnd, SaysFollow, SaysGet}
use Rattle.mg_script.specs.declared.outcome.Answer.{Answer}
use Rattle.mg_script.specs.declared.outcome.Ended.{Ended}
use Rattle.mg_script.specs.declared.outcome.Outcome.{Outcome}
use Rattle.mg_script.specs.declared.outcome.Outcome.TheVariants as outcome

pub insert_both : (first second third : SaysEnd) → ((end : Ended ℕ) → first end → second end → third end) → (r : Outcome) → OfInsert first r → OfInsert second r → OfInsert third r
insert_both first second third both (outcome.Insert end) a b = both end a b
insert_both first second third both (outcome.Follow opened said token alive closed) a b = a
insert_both first second third both (outcome.Put end) a b = a
insert_both first second third both (outcome.Get bytes end) a b = a

pub put_both : (first second third : SaysEnd) → ((end : Ended ℕ) → first end → second end → third end) → (r : Outcome) → OfPut first r → OfPut second r → OfPut third r
put_both first second third both (outcome.Put end) a b = both end a b
put_both first second third both (outcome.Insert end) a b = a
put_both first second third both (outcome.Follow opened said token alive closed) a b = a
put_both first second third both (outcome.Get bytes end) a b = a

pub follow_both : (first second third : SaysFollow)
    → ((opened : Ended (Unit {0})) (said : Vec Answer Global) (token : Option Tree) (alive : Bool) (closed : Ended (Unit {0})) → first opened said token alive closed → second opened said token alive closed → third opened said token alive closed) → (r : Outcome) → OfFollow first r → OfFollow second r → OfFollow third r
follow_both first second third both (outcome.Follow opened said token alive closed) a b = both opened said token alive closed a b
follow_both first second third both (outcome.Insert end) a b = a
follow_both first second third both (outcome.Put end) a b = a
follow_both first second third both (outcome.Get bytes end) a b = a

pub get_both : (first second third : SaysGet) → ((bytes : Vec ℕ Global) (end : Ended (Unit {0})) → first bytes end → second bytes end → third bytes end) → (r : Outcome) → OfGet first r → OfGet second r → OfGet third r
get_both first second third both (outcome.Get bytes end) a b = both bytes end a b
get_both first second third both (outcome.Insert end) a b = a
get_both first second third both (outcome.Follow opened said token alive closed) a b = a
get_both first second third both (outcome.Put end) a b = a
