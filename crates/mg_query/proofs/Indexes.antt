-- Indexes, read one after another.
use Rattle.std.proofs.Common.{◌≡◌, List, [], ◌∷◌, ◌++◌, Bool, true, false, Option, Some, None, option_map, option_and_then, codes, if◌then◌else◌, refl, sym, ap, ◌∙◌, append_assoc, append-nil}
use Rattle.mg_bson.specs.Tree.{Tree, Fields, Items, no_items, item}
use Rattle.mg_bson.specs.Find.{as_document}
use Rattle.mg_bson.specs.Reading.{◌>>=◌}
use Rattle.mg_link.specs.Namespace.{Space}
use Rattle.mg_server.specs.Commands.{documents_in, has_only, index_of, indexes_by, indexing_fields}
use Rattle.mg_server.specs.Rules.{Request, array_at, create_indexes, indexes_request, named_space}
use Rattle.mg_server.specs.State.{Index}
use Rattle.mg_query.specs.Indexing.{indexes_among}
use Rattle.mg_query.specs.Wanted.{Indexing, indexing_of}

abbrev pub behind : List Index → Option (List Index) → Option (List Index)
behind front found = option_map (λ (is : List Index). front ++ is) found

pub behind_none : (front : List Index) (found : Option (List Index)) → front ≡ [] → behind front found ≡ found
behind_none front None none = refl
behind_none front (Some is) none = ap (λ (l : List Index). Some (l ++ is)) none

one_by : (d : Option Fields) (ds : Option (List Fields)) → (option_and_then (λ x. option_map (λ xs. x ∷ xs) ds) d >>= indexes_by) ≡ option_and_then (λ i. option_map (λ is. i ∷ is) (ds >>= indexes_by)) (option_and_then index_of d)
one_by None ds = refl
one_by (Some d) (Some ds) = refl
one_by (Some d) None = none_by (index_of d)
  where
    none_by : (o : Option Index) → None ≡ option_and_then (λ i. option_map (λ (is : List Index). i ∷ is) None) o
    none_by None = refl
    none_by (Some i) = refl

one_stops : (found : Option Index) (more : Option (List Index)) (front : List Index) (all : Option (List Index)) → None ≡ found → behind front (option_and_then (λ i. option_map (λ is. i ∷ is) more) found) ≡ all → None ≡ all
one_stops None more front all none so_far = so_far
one_stops (Some i) more front all none so_far = absurd cc

one_more : (found : Option Index) (more : Option (List Index)) (front after : List Index) (x : Index) (all : Option (List Index)) → Some x ≡ found → after ≡ front ++ x ∷ []
    → behind front (option_and_then (λ i. option_map (λ is. i ∷ is) more) found) ≡ all → behind after more ≡ all
one_more None more front after x all some e so_far = absurd cc
one_more (Some i) None front after x all some e so_far = so_far
one_more (Some i) (Some is) front after x all some e so_far =
    let same : x ≡ i = cc in
    ap (λ (f : List Index). Some (f ++ is)) (e ∙ ap (λ v. front ++ v ∷ []) same) ∙ ap Some (append_assoc front (i ∷ []) is) ∙ so_far

pub indexes_stop : (ts rest : Items) (t : Tree) (front : List Index) (all : Option (List Index)) → ts ≡ item t rest → None ≡ option_and_then index_of (as_document t) → behind front (indexes_among ts) ≡ all → None ≡ all
indexes_stop ts rest t front all is none so_far =
    one_stops (option_and_then index_of (as_document t)) (indexes_among rest) front all none (ap (behind front) (sym (one_by (as_document t) (documents_in rest))) ∙ ap (λ us. behind front (indexes_among us)) (sym is) ∙ so_far)

pub indexes_more : (ts rest : Items) (t : Tree) (front after : List Index) (x : Index) (all : Option (List Index)) → ts ≡ item t rest → Some x ≡ option_and_then index_of (as_document t) → after ≡ front ++ x ∷ []
    → behind front (indexes_among ts) ≡ all → behind after (indexes_among rest) ≡ all
indexes_more ts rest t front after x all is some e so_far =
    one_more (option_and_then index_of (as_document t)) (indexes_among rest) front after x all some e (ap (behind front) (sym (one_by (as_document t) (documents_in rest))) ∙ ap (λ us. behind front (indexes_among us)) (sym is) ∙ so_far)

pub indexes_end : (ts : Items) (front : List Index) (all : Option (List Index)) → ts ≡ no_items → behind front (indexes_among ts) ≡ all → Some front ≡ all
indexes_end ts front all none so_far = ap Some (sym (append-nil front)) ∙ ap (λ us. behind front (indexes_among us)) (sym none) ∙ so_far

-- ---- the request

-- the request of a collection and the indexes that were found
abbrev pub made_with : Space → Option (List Index) → Option Request
made_with space found = found >>= λ indexes. Some (create_indexes space indexes)

abbrev pub made_of : Option Indexing → Option Request
made_of found = found >>= λ i. made_with i.space (indexes_among i.indexes)

asked_by_parts : (b : Bool) (o : Option Space) (p : Option Items)
    → (if b then (o >>= λ space. p >>= documents_in >>= indexes_by >>= λ indexes. Some (create_indexes space indexes)) else None) ≡ made_of (if b then (o >>= λ space. p >>= λ items. Some (record { space = space; indexes = items })) else None)
asked_by_parts false o p = refl
asked_by_parts true None p = refl
asked_by_parts true (Some space) None = refl
asked_by_parts true (Some space) (Some items) = refl

pub indexes_asked : (fs : Fields) → indexes_request fs ≡ made_of (indexing_of fs)
unfolding indexes_request indexing_of
indexes_asked fs = asked_by_parts (has_only indexing_fields fs) (named_space (codes "createIndexes") fs) (array_at (codes "indexes") fs)
