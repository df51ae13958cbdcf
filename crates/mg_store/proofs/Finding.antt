-- What a query finds, by the stages that the code holds.
use Rattle.std.proofs.Common.{◌≡◌, ℕ, Bool, List, [], ◌∷◌, Option, Some, None, option_and_then, map, Err, refl, sym, ap, ap₂, ◌∙◌, subst}
use Rattle.std.specs.Prelude.{if◌then◌else◌}
use Rattle.std.specs.List.{filter}
use Rattle.mg_bson.specs.Tree.{Fields}
use Rattle.mg_link.specs.Namespace.{Space}
use Rattle.mg_server.specs.Filter.{Condition, matches}
use Rattle.mg_server.specs.Commands.{query_by}
use Rattle.mg_server.specs.Query.{Stage, selects, sorts, skips, limits, shows_id, hides_id, of_collection, result, staged, through}
use Rattle.mg_server.specs.State.{State}
use Rattle.mg_server.specs.Step.{documents_of}
use Rattle.mg_server.specs.Rules as rules
use Rattle.mg_server.specs.Rules.{refused}
use Rattle.mg_query.specs.Asking.{keyed, matches_keys}
use Rattle.mg_query.specs.Querying.{Doing, Results, all_done, doing, done}
use Rattle.mg_query.specs.Wanted.{refusal_code, find}
use Rattle.mg_query.specs.declared.refusal.Refusal.{Refusal}
use Rattle.mg_query.specs.declared.refusal.Stop.{Stop}
use Rattle.mg_query.specs.declared.refusal.Stop.TheVariants as stops
use Rattle.mg_store.specs.Contents.{Misses, Settles}
use Rattle.mg_store.proofs.Holdings.{find_refused}
use Rattle.mg_store.proofs.Seeing.{matches_by_keys}

-- ---- stages

filter_same : (cs : List Condition) (ds : List Fields) → filter (matches_keys (map keyed cs)) ds ≡ filter (matches cs) ds
filter_same cs [] = refl
filter_same cs (d ∷ ds) = ap (λ (b : Bool). if b then d ∷ filter (matches_keys (map keyed cs)) ds else filter (matches_keys (map keyed cs)) ds) (matches_by_keys cs d) ∙ ap (λ l. if matches cs d then d ∷ l else l) (filter_same cs ds)

stage_same : (stage : Stage) (ds : List Fields) → done (doing stage) ds ≡ staged stage ds
stage_same (selects cs) ds = ap Some (filter_same cs ds)
stage_same (sorts keys) ds = refl
stage_same (skips n) ds = refl
stage_same (limits n) ds = refl
stage_same shows_id ds = refl
stage_same hides_id ds = refl

then_same : (stages : List Stage) (o : Option (List Fields)) → ((ds : List Fields) → all_done (map doing stages) ds ≡ through stages ds) → option_and_then (all_done (map doing stages)) o ≡ option_and_then (through stages) o
then_same stages None h = refl
then_same stages (Some ds) h = h ds

-- the stages do what those of the rules do
pub stages_same : (stages : List Stage) (ds : List Fields) → all_done (map doing stages) ds ≡ through stages ds
stages_same [] ds = refl
stages_same (stage ∷ stages) ds = ap (option_and_then (all_done (map doing stages))) (stage_same stage ds) ∙ then_same stages (staged stage ds) (stages_same stages)

-- ---- results

-- what a query of a collection finds
pub collection_found : (s : State) (sp : Space) (stages : List Stage) (single : Bool) (size : Option ℕ) (steps : List Doing) (rows : List Fields) (found : List Fields) → steps ≡ map doing stages → rows ≡ documents_of s sp → all_done steps rows ≡ Some found
    → result s (query_by (of_collection sp) single stages size) ≡ Some found
unfolding result
collection_found s sp stages single size steps rows found same there is = sym (stages_same stages (documents_of s sp)) ∙ ap₂ all_done (sym same) (sym there) ∙ is

pub find_stops : (s : State) (given : ℕ) (sp : Space) (stages : List Stage) (single : Bool) (size : Option ℕ) (steps : List Doing) (rows : List Fields) (stop : Stop) → steps ≡ map doing stages → rows ≡ documents_of s sp → Results (Err stop) (all_done steps rows)
    → Settles s given (rules.find (query_by (of_collection sp) single stages size)) (Err stop)
find_stops s given sp stages single size steps rows stops.Memory same there is = tt
find_stops s given sp stages single size steps rows (stops.Refused refusal) same there is = (
  find_refused s given (query_by (of_collection sp) single stages size) (documents_of s sp) refl (sym (stages_same stages (documents_of s sp)) ∙ ap₂ all_done (sym same) (sym there) ∙ is.1) ∙ ap (λ (x : Refusal). refused (refusal_code x)) (sym is.0),
  subst (λ (x : Refusal). Misses s x (rules.find (query_by (of_collection sp) single stages size))) (sym is.0) tt,
)
