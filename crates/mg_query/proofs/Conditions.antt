-- The conditions of a filter, read one after another.
use Rattle.std.proofs.Common.{◌≡◌, ℕ, List, [], ◌∷◌, ◌++◌, Option, Some, None, map, option_map, option_and_then, sym, ap, ◌∙◌, append_assoc}
use Rattle.mg_bson.specs.Tree.{Tree, Fields, field}
use Rattle.mg_server.specs.Filter.{Condition, condition_of, conditions_of}
use Rattle.mg_query.specs.Asking.{Keyed, keyed}

abbrev pub behind : List Keyed → Option (List Condition) → Option (List Keyed)
behind front found = option_map (λ cs. front ++ map keyed cs) found

one_stops : (found : Option Condition) (more : Option (List Condition)) (front : List Keyed) (all : Option (List Keyed)) → None ≡ option_map keyed found → behind front (option_and_then (λ c. option_map (λ cs. c ∷ cs) more) found) ≡ all → None ≡ all
one_stops None more front all none so_far = so_far
one_stops (Some c) more front all none so_far = cc

one_more : (found : Option Condition) (more : Option (List Condition)) (front after : List Keyed) (x : Keyed) (all : Option (List Keyed)) → Some x ≡ option_map keyed found → after ≡ front ++ x ∷ []
    → behind front (option_and_then (λ c. option_map (λ cs. c ∷ cs) more) found) ≡ all → behind after more ≡ all
one_more None more front after x all some e so_far = cc
one_more (Some c) None front after x all some e so_far = so_far
one_more (Some c) (Some cs) front after x all some e so_far =
    let same : x ≡ keyed c = cc in
    ap (λ f. Some (f ++ map keyed cs)) (e ∙ ap (λ v. front ++ v ∷ []) same) ∙ ap Some (append_assoc front (keyed c ∷ []) (map keyed cs)) ∙ so_far

pub conditions_stop : (fs rest : Fields) (k : List ℕ) (t : Tree) (front : List Keyed) (all : Option (List Keyed)) → fs ≡ field k t rest → None ≡ option_map keyed (condition_of k t) → behind front (conditions_of fs) ≡ all → None ≡ all
conditions_stop fs rest k t front all is none so_far = one_stops (condition_of k t) (conditions_of rest) front all none (ap (λ gs. behind front (conditions_of gs)) (sym is) ∙ so_far)

pub conditions_more : (fs rest : Fields) (k : List ℕ) (t : Tree) (front after : List Keyed) (x : Keyed) (all : Option (List Keyed)) → fs ≡ field k t rest → Some x ≡ option_map keyed (condition_of k t) → after ≡ front ++ x ∷ []
    → behind front (conditions_of fs) ≡ all → behind after (conditions_of rest) ≡ all
conditions_more fs rest k t front after x all is some e so_far = one_more (condition_of k t) (conditions_of rest) front after x all some e (ap (λ gs. behind front (conditions_of gs)) (sym is) ∙ so_far)
