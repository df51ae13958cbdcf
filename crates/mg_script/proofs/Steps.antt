-- Parts of a document, read one after another as a loop does.
use Rattle.std.proofs.Common.{◌≡◌, ◌≢◌, None, ℕ, suc, ◌+◌, add-one, append_assoc, append-nil, ◌<◌, ◌≤◌, List, [], ◌∷◌, ◌++◌, length, get_or, drop, Result, Ok, Err, refl, sym, ap, ◌∙◌}
use Rattle.std.proofs.lemmas.List.{drop_more, drop_all}
use Rattle.serde_json.specs.Data.{Data, item, Members, no_members, member}
use Rattle.serde_json.specs.Events.{items_len}
use Rattle.serde_json.specs.View.{view, items_view, members_view}
use Rattle.serde_json.specs.declared.value.Value.{Value}
use Rattle.mg_bson.specs.Tree as bson
use Rattle.mg_bson.specs.Find.{with_item, with_field, joined, items_joined}
use Rattle.mg_script.specs.declared.fault.Place.{Place}
use Rattle.mg_script.specs.declared.fault.ScriptError.{ScriptError}
use Rattle.mg_script.specs.declared.fault.ScriptError.TheVariants as errors
use Rattle.mg_script.specs.Reads.{◌>>=◌, Fails, each}
use Rattle.serde_json.proofs.Views.{Entry}
use Rattle.mg_script.specs.Parts.{only_member}
use Rattle.mg_script.specs.Values.{value_at, items_at, fields_at}

-- a fault of a step is a fault of what follows it
pub Fails-bind : {A B : Type 0} (e : ScriptError) (r : Result A Place) (f : A → Result B Place) → Fails e r → Fails e (r >>= f)
Fails-bind errors.OutOfMemory r f h = tt
Fails-bind (errors.Fault p) r f h = rw h

pub Fails-along : {A : Type 0} (e : ScriptError) (r s : Result A Place) → Fails e r → r ≡ s → Fails e s
Fails-along errors.OutOfMemory r s h same = tt
Fails-along (errors.Fault p) r s h same = sym same ∙ h

pub view_here : (vs : List Value) (i : ℕ) (v : Value) → i < length vs → v ≡ get_or vs i v → items_view (drop i vs) ≡ item (view v) (items_view (drop (i + 1) vs))
view_here vs i v lt is = ap items_view (drop_more vs i v lt ∙ ap (λ (x : Value). x ∷ drop (i + 1) vs) (sym is))

-- ---- items

items_joined_more : (front : bson.Items) (t : bson.Tree) (rest : bson.Items) → items_joined (with_item front t) rest ≡ items_joined front (bson.item t rest)
items_joined_more bson.no_items t rest = refl
items_joined_more (bson.item u ts) t rest = ap (bson.item u) (items_joined_more ts t rest)

items_joined_all : (ts : bson.Items) → items_joined ts bson.no_items ≡ ts
items_joined_all bson.no_items = refl
items_joined_all (bson.item t ts) = ap (bson.item t) (items_joined_all ts)

abbrev pub with_items : bson.Items → Result bson.Items Place → Result bson.Items Place
with_items front r = r >>= λ ts. Ok (items_joined front ts)

items_regroup : (front : bson.Items) (t : bson.Tree) (r : Result bson.Items Place) → with_items front (r >>= λ ts. Ok (bson.item t ts)) ≡ with_items (with_item front t) r
items_regroup front t (Ok ts) = ap Ok (sym (items_joined_more front t ts))
items_regroup front t (Err p) = refl

pub items_go_on : (p : Place) (front after : bson.Items) (t : bson.Tree) (vs : List Value) (i : ℕ) (v : Value) (total : Result bson.Items Place) → i < length vs → v ≡ get_or vs i v → value_at p (view v) ≡ Ok t → after ≡ with_item front t
    → with_items front (items_at p (items_view (drop i vs))) ≡ total → with_items after (items_at p (items_view (drop (i + 1) vs))) ≡ total
items_go_on p front after t vs i v total lt is h e so_far =
    let here : with_items front (items_at p (items_view (drop i vs))) ≡ with_items (with_item front t) (items_at p (items_view (drop (i + 1) vs))) =
    rw (view_here vs i v lt is, h) (items_regroup front t (items_at p (items_view (drop (i + 1) vs)))) in
    ap (λ a. with_items a (items_at p (items_view (drop (i + 1) vs)))) e ∙ sym here ∙ so_far

pub items_end : (p : Place) (front : bson.Items) (vs : List Value) (i : ℕ) (total : Result bson.Items Place) → length vs ≤ i → with_items front (items_at p (items_view (drop i vs))) ≡ total → total ≡ Ok front
items_end p front vs i total le so_far =
    sym so_far ∙ ap (λ xs. with_items front (items_at p (items_view xs))) (drop_all i vs le) ∙ ap Ok (items_joined_all front)

-- ---- fields

joined_more : (front : bson.Fields) (k : List ℕ) (t : bson.Tree) (rest : bson.Fields) → joined (with_field front k t) rest ≡ joined front (bson.field k t rest)
joined_more bson.no_fields k t rest = refl
joined_more (bson.field l u fs) k t rest = ap (bson.field l u) (joined_more fs k t rest)

joined_all : (fs : bson.Fields) → joined fs bson.no_fields ≡ fs
joined_all bson.no_fields = refl
joined_all (bson.field k t fs) = ap (bson.field k t) (joined_all fs)

abbrev pub with_fields : bson.Fields → Result bson.Fields Place → Result bson.Fields Place
with_fields front r = r >>= λ fs. Ok (joined front fs)

fields_regroup : (front : bson.Fields) (k : List ℕ) (t : bson.Tree) (r : Result bson.Fields Place) → with_fields front (r >>= λ fs. Ok (bson.field k t fs)) ≡ with_fields (with_field front k t) r
fields_regroup front k t (Ok fs) = ap Ok (sym (joined_more front k t fs))
fields_regroup front k t (Err p) = refl

pub fields_go_on : (p : Place) (front after : bson.Fields) (k : List ℕ) (t : bson.Tree) (d : Data) (ms : Members) (total : Result bson.Fields Place) → value_at p d ≡ Ok t → after ≡ with_field front k t
    → with_fields front (fields_at p (member k d ms)) ≡ total → with_fields after (fields_at p ms) ≡ total
fields_go_on p front after k t d ms total h e so_far =
    let here : with_fields front (fields_at p (member k d ms)) ≡ with_fields (with_field front k t) (fields_at p ms) = rw h (fields_regroup front k t (fields_at p ms)) in
    ap (λ a. with_fields a (fields_at p ms)) e ∙ sym here ∙ so_far

pub fields_end : (p : Place) (front : bson.Fields) (total : Result bson.Fields Place) → with_fields front (fields_at p no_members) ≡ total → total ≡ Ok front
fields_end p front total so_far = sym so_far ∙ ap Ok (joined_all front)

-- ---- lists

abbrev pub with_list : {A : Type 0} → List A → Result (List A) Place → Result (List A) Place
with_list front r = r >>= λ xs. Ok (front ++ xs)

list_regroup : {A : Type 0} (front : List A) (x : A) (r : Result (List A) Place) → with_list front (r >>= λ xs. Ok (x ∷ xs)) ≡ with_list (front ++ x ∷ []) r
list_regroup front x (Ok xs) = ap Ok (sym (append_assoc front (x ∷ []) xs))
list_regroup front x (Err p) = refl

pub list_go_on : {A : Type 0} (f : ℕ → Data → Result A Place) (front after : List A) (x : A) (vs : List Value) (i : ℕ) (v : Value) (total : Result (List A) Place) → i < length vs → v ≡ get_or vs i v → f i (view v) ≡ Ok x → after ≡ front ++ x ∷ []
    → with_list front (each f i (items_view (drop i vs))) ≡ total → with_list after (each f (i + 1) (items_view (drop (i + 1) vs))) ≡ total
unfolding each
list_go_on f front after x vs i v total lt is h e so_far =
    let here : with_list front (each f i (items_view (drop i vs))) ≡ with_list (front ++ x ∷ []) (each f (suc i) (items_view (drop (i + 1) vs))) =
    rw (view_here vs i v lt is, h) (list_regroup front x (each f (suc i) (items_view (drop (i + 1) vs)))) in
    ap (λ a. with_list a (each f (i + 1) (items_view (drop (i + 1) vs)))) e ∙ ap (λ n. with_list (front ++ x ∷ []) (each f n (items_view (drop (i + 1) vs)))) (add-one i) ∙ sym here ∙ so_far

pub list_stop : {A : Type 0} (e : ScriptError) (f : ℕ → Data → Result A Place) (front : List A) (vs : List Value) (i : ℕ) (v : Value) (total : Result (List A) Place) → i < length vs → v ≡ get_or vs i v → Fails e (f i (view v))
    → with_list front (each f i (items_view (drop i vs))) ≡ total → Fails e total
unfolding each
list_stop e f front vs i v total lt is h so_far =
    Fails-along e _ _ (Fails-bind e _ (λ xs. Ok (front ++ xs)) (rw (view_here vs i v lt is) (Fails-bind e (f i (view v)) _ h))) so_far

pub list_end : {A : Type 0} (f : ℕ → Data → Result A Place) (front : List A) (vs : List Value) (i : ℕ) (total : Result (List A) Place) → length vs ≤ i → with_list front (each f i (items_view (drop i vs))) ≡ total → total ≡ Ok front
unfolding each
list_end f front vs i total le so_far =
    sym so_far ∙ ap (λ xs. with_list front (each f i (items_view xs))) (drop_all i vs le) ∙ ap Ok (append-nil front)

pub lengths : (vs : List Value) → items_len (items_view vs) ≡ length vs
lengths [] = refl
lengths (v ∷ vs) = ap suc (lengths vs)

pub not_one : (es : List Entry) → length es ≢ 1 → only_member (members_view es) ≡ None
not_one [] other = refl
not_one (e ∷ []) other = absurd (other refl)
not_one (e ∷ f ∷ es) other = refl
