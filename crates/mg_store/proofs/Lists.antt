-- What lists of collections find.
use Rattle.std.proofs.Common.{◌≡◌, ℕ, Bool, true, false, List, [], ◌∷◌, map, Option, Some, is_some, Err, refl, sym, ap, ap₂, ◌∙◌, subst}
use Rattle.std.specs.Prelude.{cond, if◌then◌else◌, ◌||◌}
use Rattle.std.specs.BTreeMap.{keys}
use Rattle.std.specs.List.{filter, list_any}
use Rattle.std.specs.List.Sorted.{IsStrictlySortedBy}
use Rattle.std.specs.Map.{keys_of, lookup}
use Rattle.std.specs.Ordering.{is_eq}
use Rattle.std.specs.Str.{bytes_eq}
use Rattle.std.proofs.lemmas.Map.Lookups.{btree_set_from_contains}
use Rattle.mg_bson.specs.Tree.{Fields}
use Rattle.mg_link.specs.declared.namespace.Namespace.{Namespace}
use Rattle.mg_link.specs.Namespace.{Space, space}
use Rattle.mg_server.specs.Commands.{query_by}
use Rattle.mg_server.specs.Query.{Stage, collection_listed, of_database, result}
use Rattle.mg_server.specs.Rules as rules
use Rattle.mg_server.specs.Rules.{refused}
use Rattle.mg_server.specs.State as state
use Rattle.mg_server.specs.State.{State, collection_in, is_space, space_cmp, names_of, AreInOrder}
use Rattle.mg_server.proofs.Ordered.{spaces_total, tied_is}
use Rattle.mg_query.specs.Listing.{name_listed, names_listed}
use Rattle.mg_query.specs.Querying.{Doing, Results, all_done, doing}
use Rattle.mg_query.specs.Wanted.{refusal_code}
use Rattle.mg_query.specs.declared.collection.Collection.{Collection}
use Rattle.mg_query.specs.declared.refusal.Refusal.{Refusal}
use Rattle.mg_query.specs.declared.refusal.Stop.{Stop}
use Rattle.mg_query.specs.declared.refusal.Stop.TheVariants as stops
use Rattle.mg_store.specs.Contents.{Misses, Represents, Settles}
use Rattle.mg_store.specs.declared.content.Content.{Content}
use Rattle.mg_store.proofs.Finding.{stages_same}
use Rattle.mg_store.proofs.Holdings.{find_refused, is_there}
use Rattle.mg_store.proofs.Maps.{same_space}

-- ---- the names that are held

name_if : (b : Bool) (c : state.Collection) (o : Option state.Collection) → (b || is_some o) ≡ is_some (if b then Some c else o)
name_if true c o = refl
name_if false c o = refl

-- a name is among those of the collections where one of it is there
names_any : (sp : Space) (cs : List state.Collection) → list_any (λ n. is_eq (space_cmp sp n)) (names_of cs) ≡ is_some (collection_in cs sp)
names_any sp [] = refl
names_any sp (c ∷ cs) = ap₂ (λ (a b : Bool). a || b) (tied_is sp c.space) (names_any sp cs) ∙ name_if (is_space sp c.space) c (collection_in cs sp)

key_if : (b : Bool) (c : Collection) (o : Option Collection) → (b || is_some o) ≡ is_some (cond b (Some c) o)
key_if true c o = refl
key_if false c o = refl

keys_any : (sp : Space) (es : List (Namespace × Collection)) → list_any (λ n. is_eq (space_cmp sp n)) (map space (keys_of es)) ≡ is_some (lookup (λ ns. is_space sp (space ns)) es)
keys_any sp [] = refl
keys_any sp (e ∷ es) = ap₂ (λ (a b : Bool). a || b) (tied_is sp (space e.0)) (keys_any sp es) ∙ key_if (is_space sp (space e.0)) e.1 (lookup (λ ns. is_space sp (space ns)) es)

-- the names of the state are those that the content holds, in their order
pub names_held : (c : Content) (s : State) (given : ℕ) → Represents c s given → AreInOrder s.collections → IsStrictlySortedBy space_cmp (map space (keys c.collections)) → names_of s.collections ≡ map space (keys c.collections)
names_held c s given h order ordered =
    btree_set_from_contains spaces_total (record { keys = names_of s.collections }) (record { keys = map space (keys c.collections) }) order ordered
    (λ q. names_any q s.collections ∙ is_there c s given q h ∙ sym (keys_any q c.collections.entries)) (λ x y e. same_space x y (sym (tied_is x y) ∙ ap is_eq e))

-- ---- what is listed

listed_if : (b : Bool) (c : state.Collection) (cs : List state.Collection) (ns : List Space) → map collection_listed cs ≡ map name_listed ns → map collection_listed (cond b (c ∷ cs) cs) ≡ map name_listed (cond b (c.space ∷ ns) ns)
listed_if true c cs ns e = ap (λ (l : List Fields). name_listed c.space ∷ l) e
listed_if false c cs ns e = e

-- a collection is listed by its name
by_names : (db : List ℕ) (cs : List state.Collection) → map collection_listed (filter (λ (c : state.Collection). bytes_eq db c.space.db) cs) ≡ names_listed db (names_of cs)
by_names db [] = refl
by_names db (c ∷ cs) =
    listed_if (bytes_eq db c.space.db) c (filter (λ (c : state.Collection). bytes_eq db c.space.db) cs) (filter (λ (n : Space). bytes_eq db n.db) (names_of cs)) (by_names db cs)

rows_are : (c : Content) (s : State) (given : ℕ) (db : List ℕ) (rows : List Fields) → Represents c s given → AreInOrder s.collections → IsStrictlySortedBy space_cmp (map space (keys c.collections)) → rows ≡ names_listed db (map space (keys c.collections))
    → rows ≡ map collection_listed (filter (λ (c : state.Collection). bytes_eq db c.space.db) s.collections)
rows_are c s given db rows h order ordered is = is ∙ ap (names_listed db) (sym (names_held c s given h order ordered)) ∙ sym (by_names db s.collections)

pub collections_found : (c : Content) (s : State) (given : ℕ) (db : List ℕ) (stages : List Stage) (single : Bool) (size : Option ℕ) (steps : List Doing) (rows found : List Fields) → Represents c s given → AreInOrder s.collections
    → IsStrictlySortedBy space_cmp (map space (keys c.collections)) → steps ≡ map doing stages → rows ≡ names_listed db (map space (keys c.collections)) → all_done steps rows ≡ Some found → result s (query_by (of_database db) single stages size) ≡ Some found
unfolding result
collections_found c s given db stages single size steps rows found h order ordered same these is =
    let there : List Fields = map collection_listed (filter (λ (c : state.Collection). bytes_eq db c.space.db) s.collections) in
    sym (stages_same stages there) ∙ ap₂ all_done (sym same) (sym (rows_are c s given db rows h order ordered these)) ∙ is

pub collections_stop : (c : Content) (s : State) (given : ℕ) (db : List ℕ) (stages : List Stage) (single : Bool) (size : Option ℕ) (steps : List Doing) (rows : List Fields) (stop : Stop) → Represents c s given → AreInOrder s.collections
    → IsStrictlySortedBy space_cmp (map space (keys c.collections)) → steps ≡ map doing stages → rows ≡ names_listed db (map space (keys c.collections)) → Results (Err stop) (all_done steps rows) → Settles s given (rules.find (query_by (of_database db) single stages size)) (Err stop)
collections_stop c s given db stages single size steps rows stops.Memory h order ordered same these is = tt
collections_stop c s given db stages single size steps rows (stops.Refused refusal) h order ordered same these is =
    let there : List Fields = map collection_listed (filter (λ (c : state.Collection). bytes_eq db c.space.db) s.collections) in (
      find_refused s given (query_by (of_database db) single stages size) there refl (sym (stages_same stages there) ∙ ap₂ all_done (sym same) (sym (rows_are c s given db rows h order ordered these)) ∙ is.1) ∙ ap (λ (x : Refusal). refused (refusal_code x)) (sym is.0),
      subst (λ (x : Refusal). Misses s x (rules.find (query_by (of_database db) single stages size))) (sym is.0) tt,
    )
