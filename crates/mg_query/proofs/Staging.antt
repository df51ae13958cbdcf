-- The stages of a command, read one after another.
use Rattle.std.proofs.Common.{◌≡◌, ℕ, Bool, true, false, List, [], ◌∷◌, ◌++◌, Option, Some, None, map, option_map, option_and_then, codes, refl, sym, ap, ◌∙◌, append_assoc}
use Rattle.std.specs.Prelude.{if◌then◌else◌}
use Rattle.std.proofs.lemmas.List.{map-append}
use Rattle.std.specs.Str.{bytes_eq}
use Rattle.mg_bson.specs.Tree.{Tree, Fields, no_fields, field, Items, item}
use Rattle.mg_bson.specs.Find.{as_document, get}
use Rattle.mg_bson.specs.Reading.{◌>>=◌}
use Rattle.mg_link.specs.Numbers.{as_integer}
use Rattle.mg_server.specs.Commands.{documents_in, find_stages, pipeline_of, stage_of, keys_of, projection_of, rising_by, showing_by, stage_by, stages_by}
use Rattle.mg_server.specs.Filter.{is_top_name}
use Rattle.mg_server.specs.Query.{Key, Stage}
use Rattle.mg_query.specs.Asking.{is_single}
use Rattle.mg_query.specs.Querying.{Doing, doing, joined_stages, one_key, pipeline_doing}

-- ---- names to sort by

key_more : (b : Bool) (o : Option Bool) (k : List ℕ) (r : Option (List Key)) (front after : List Key) (x : Key) (all : Option (List Key)) → Some x ≡ (if b then option_map (λ rising. record { name = k; rising = rising }) o else None) → after ≡ front ++ x ∷ []
    → option_map (λ ks. front ++ ks) (if b then option_and_then (λ rising. option_map (λ keys. record { name = k; rising = rising } ∷ keys) r) o else None) ≡ all → option_map (λ ks. after ++ ks) r ≡ all
key_more false o k r front after x all some e h = absurd cc
key_more true None k r front after x all some e h = absurd cc
key_more true (Some rising) k None front after x all some e h = h
key_more true (Some rising) k (Some ks) front after x all some e h =
    let y : Key = record { name = k; rising = rising } in
    let same : x ≡ y = cc in
    ap (λ l. Some (l ++ ks)) e ∙ ap Some (append_assoc front (x ∷ []) ks) ∙ ap (λ z. Some (front ++ z ∷ ks)) same ∙ h

pub keys_more : (fs rest : Fields) (k : List ℕ) (t : Tree) (front after : List Key) (x : Key) (all : Option (List Key)) → fs ≡ field k t rest → Some x ≡ one_key k t → after ≡ front ++ x ∷ [] → option_map (λ ks. front ++ ks) (keys_of fs) ≡ all → option_map (λ ks. after ++ ks) (keys_of rest) ≡ all
keys_more fs rest k t front after x all is some e h =
    key_more (is_top_name k) (option_and_then rising_by (as_integer t)) k (keys_of rest) front after x all some e (ap (λ gs. option_map (λ ks. front ++ ks) (keys_of gs)) (sym is) ∙ h)

-- ---- projections

projection_is : (fs : Fields) → is_single fs ≡ true → projection_of fs ≡ option_and_then (λ t. option_and_then showing_by (as_integer t)) (get (codes "_id") fs)
projection_is no_fields one = absurd cc
projection_is (field k t no_fields) one = elim (bytes_eq k (codes "_id")) as (λ b. (if b then option_and_then showing_by (as_integer t) else None) ≡ option_and_then (λ u. option_and_then showing_by (as_integer u)) (if b then Some t else None)) [ true ↦ refl | false ↦ refl ]
projection_is (field k t (field l u fs)) one = absurd cc

pub projection_none : (fs : Fields) (t : Tree) → is_single fs ≡ true → Some t ≡ get (codes "_id") fs → None ≡ as_integer t → None ≡ option_map (map doing) (projection_of fs)
projection_none fs t one found none =
    sym (ap (option_map (map doing)) (projection_is fs one ∙ ap (option_and_then (λ u. option_and_then showing_by (as_integer u))) (sym found) ∙ ap (option_and_then showing_by) (sym none)))

-- ---- the stages of a find

abbrev pub part : List ℕ → Option Tree → Option (List Doing)
part name o = option_map (map doing) (stages_by (stage_by name) o)

abbrev done_by : Option (List Stage) → Option (List Doing)
done_by p = option_map (map doing) p

five : (a b c d e : List Stage) → (((([] ++ map doing a) ++ map doing b) ++ map doing c) ++ map doing d) ++ map doing e ≡ map doing ((((a ++ b) ++ c) ++ d) ++ e)
five a b c d e =
    sym (map-append doing (((a ++ b) ++ c) ++ d) e ∙ ap (λ l. l ++ map doing e) (map-append doing ((a ++ b) ++ c) d ∙ ap (λ l. l ++ map doing d) (map-append doing (a ++ b) c ∙ ap (λ l. l ++ map doing c) (map-append doing a b))))

joins : (p q r s t : Option (List Stage)) → joined_stages (joined_stages (joined_stages (joined_stages (joined_stages (Some []) (done_by p)) (done_by q)) (done_by r)) (done_by s)) (done_by t)
    ≡ done_by (p >>= λ a. q >>= λ b. r >>= λ c. s >>= λ d. t >>= λ e. Some (a ++ b ++ c ++ d ++ e))
joins None q r s t = refl
joins (Some a) None r s t = refl
joins (Some a) (Some b) None s t = refl
joins (Some a) (Some b) (Some c) None t = refl
joins (Some a) (Some b) (Some c) (Some d) None = refl
joins (Some a) (Some b) (Some c) (Some d) (Some e) = ap Some (five a b c d e)

-- what a find does is read value by value
pub find_read : (fs : Fields) (o s t u v : Option (List Doing)) (f g h i j : Option Tree) → f ≡ get (codes "filter") fs → g ≡ get (codes "sort") fs → h ≡ get (codes "skip") fs → i ≡ get (codes "limit") fs → j ≡ get (codes "projection") fs
    → o ≡ Some [] → s ≡ joined_stages o (part (codes "$match") f) → t ≡ joined_stages s (part (codes "$sort") g) → u ≡ joined_stages t (part (codes "$skip") h) → v ≡ joined_stages u (part (codes "$limit") i)
    → joined_stages v (part (codes "$project") j) ≡ option_map (map doing) (find_stages fs)
find_read fs o s t u v f g h i j ef eg eh ei ej eo es et eu ev =
    rw (ev, eu, et, es, eo, ef, eg, eh, ei, ej)
    (joins (stages_by (stage_by (codes "$match")) (get (codes "filter") fs)) (stages_by (stage_by (codes "$sort")) (get (codes "sort") fs)) (stages_by (stage_by (codes "$skip")) (get (codes "skip") fs)) (stages_by (stage_by (codes "$limit")) (get (codes "limit") fs)) (stages_by (stage_by (codes "$project")) (get (codes "projection") fs)))

-- ---- the stages of a pipeline

abbrev one_step : Option Fields → Option (List Stage)
one_step d = option_and_then stage_of d

-- the stages so far, and those of one more
step_more : (d : Option Fields) (rest : Option (List Fields)) (front after : Option (List Doing)) → after ≡ joined_stages front (done_by (one_step d))
    → joined_stages front (done_by (option_and_then (λ e. option_map (λ es. e ∷ es) rest) d >>= pipeline_of)) ≡ joined_stages after (done_by (rest >>= pipeline_of))
step_more d rest None after e = sym (ap (λ x. joined_stages x (done_by (rest >>= pipeline_of))) e)
step_more None rest (Some xs) after e = sym (ap (λ x. joined_stages x (done_by (rest >>= pipeline_of))) e)
step_more (Some d) None (Some xs) after e = sym (ap (λ x. joined_stages x None) e ∙ nothing_joined (joined_stages (Some xs) (done_by (stage_of d))))
  where
    nothing_joined : (o : Option (List Doing)) → joined_stages o None ≡ None
    nothing_joined None = refl
    nothing_joined (Some ys) = refl
step_more (Some d) (Some ds) (Some xs) after e = steps (stage_of d) (pipeline_of ds) ∙ sym (ap (λ x. joined_stages x (done_by (pipeline_of ds))) e)
  where
    steps : (a b : Option (List Stage)) → joined_stages (Some xs) (done_by (a >>= λ p. b >>= λ q. Some (p ++ q))) ≡ joined_stages (joined_stages (Some xs) (done_by a)) (done_by b)
    steps None b = refl
    steps (Some p) None = refl
    steps (Some p) (Some q) = ap (λ l. Some (xs ++ l)) (map-append doing p q) ∙ ap Some (sym (append_assoc xs (map doing p) (map doing q)))

pub pipeline_more : (ts rest : Items) (t : Tree) (front after : Option (List Doing)) (all : Option (List Doing)) → ts ≡ item t rest → after ≡ joined_stages front (done_by (one_step (as_document t))) → joined_stages front (pipeline_doing ts) ≡ all → joined_stages after (pipeline_doing rest) ≡ all
pipeline_more ts rest t front after all is e h = sym (step_more (as_document t) (documents_in rest) front after e) ∙ ap (λ l. joined_stages front (pipeline_doing l)) (sym is) ∙ h
