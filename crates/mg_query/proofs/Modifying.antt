-- What an update makes of a document.
use Rattle.std.proofs.Common.{◌≡◌, ℕ, Bool, true, false, List, map, Option, Some, None, option_map, codes, refl, sym, ap, ◌∙◌, inl, inr, ◌<◌, ◌≤◌, length, Err, subst}
use Rattle.std.specs.Prelude.{if◌then◌else◌, option_and_then}
use Rattle.std.specs.Str.{bytes_eq}
use Rattle.std.proofs.lemmas.Bool.{cases_Bool}
use Rattle.std.proofs.lemmas.Slice.Eq.{bytes_eq-Decides}
use Rattle.mg_bson.specs.Tree.{Tree, Fields, no_fields, field, document}
use Rattle.mg_bson.specs.Find.{as_document, get, without, joined, with_field}
use Rattle.mg_bson.proofs.Joining.{joined_more, joined_all}
use Rattle.mg_bson.specs.Reading.{◌>>=◌}
use Rattle.mg_bson.specs.Bytes.{bytes}
use Rattle.mg_bson.specs.Writable.{max_len}
use Rattle.mg_link.specs.Namespace.{Space}
use Rattle.mg_server.specs.Filter.{Condition, conditions_of}
use Rattle.mg_link.specs.Numbers.{count_of}
use Rattle.mg_server.specs.Commands.{begin_without_dollar, delete_by, delete_fields, delete_parts, flag_or, has_only, many_by, may_set, modification_of, one_at, setting, update_by, update_fields, update_parts}
use Rattle.mg_server.specs.Rules.{Request, delete, delete_request, named_space, update, update_request, same_id, set_anew}
use Rattle.mg_server.specs.Write.{Modification, sets, puts, differs, modified}
use Rattle.mg_query.specs.Asking.{Keyed, keyed, only_document}
use Rattle.mg_query.specs.Wanted as wants
use Rattle.mg_query.specs.Wanted.{Deleting, Updating, deleting_by, deleting_of, updating_by, updating_of, wanted}
use Rattle.mg_query.specs.Modifying.{AltersOr, EncodesOr}
use Rattle.mg_query.specs.declared.refusal.Stop.{Stop}
use Rattle.mg_query.specs.declared.refusal.Stop.TheVariants as stops

-- ---- modifications

abbrev pub set_or_none : Fields → Option Modification
set_or_none fs = if may_set fs then Some (sets fs) else None

-- the fields of `$set`, or the document that is put
abbrev pub either_of : Option Fields → Fields → Option Modification
either_of (Some fs) d = set_or_none fs
either_of None d = if begin_without_dollar d then Some (puts d) else None

set_alone_is : (t : Tree) (d : Fields) → begin_without_dollar d ≡ false → setting t ≡ either_of (as_document t) d
set_alone_is (document fs) d e = refl
set_alone_is t d e = sym (ap (λ (b : Bool). if b then Some (puts d) else None) e)

dollar_first : (k : List ℕ) (t : Tree) (fs : Fields) → bytes_eq k (codes "$set") ≡ true → begin_without_dollar (field k t fs) ≡ false
dollar_first k t fs same = ap (λ (n : List ℕ). begin_without_dollar (field n t fs)) ((bytes_eq-Decides k (codes "$set")).0 same)

pub modification_is : (fs : Fields) → either_of (only_document (codes "$set") fs) fs ≡ modification_of fs
modification_is no_fields = refl
modification_is (field k t no_fields) =
    elim (cases_Bool (bytes_eq k (codes "$set"))) [
      | inl same ↦
          ap (λ (b : Bool). either_of (if b then as_document t else None) (field k t no_fields)) same
          ∙ sym (set_alone_is t (field k t no_fields) (dollar_first k t no_fields same))
          ∙ sym (ap (λ (b : Bool). if b then setting t else either_of None (field k t no_fields)) same)
      | inr differs ↦
          ap (λ (b : Bool). either_of (if b then as_document t else None) (field k t no_fields)) differs
          ∙ sym (ap (λ (b : Bool). if b then setting t else either_of None (field k t no_fields)) differs)
    ]
modification_is (field k t (field l u fs)) =
    elim (cases_Bool (bytes_eq k (codes "$set"))) [
      | inl same ↦
          ap (λ (b : Bool). if b then Some (puts (field k t (field l u fs))) else None) (dollar_first k t (field l u fs) same)
          ∙ sym (ap (λ (b : Bool). if b then None else either_of None (field k t (field l u fs))) same)
      | inr differs ↦ sym (ap (λ (b : Bool). if b then None else either_of None (field k t (field l u fs))) differs)
    ]

-- ---- fields behind an `_id`

-- what is left of a document whose first `_id` was passed, or is to be passed
abbrev pub rest_behind : Bool → Fields → Fields
rest_behind true fs = fs
rest_behind false fs = without (codes "_id") fs

pub passes_id : (before left rest all : Fields) (k : List ℕ) (t : Tree) (passed : Bool) → left ≡ field k t rest → bytes_eq k (codes "_id") ≡ true → passed ≡ false → joined before (rest_behind passed left) ≡ all → joined before (rest_behind true rest) ≡ all
passes_id before left rest all k t passed is same none so_far =
    sym (ap (λ (b : Bool). joined before (if b then rest else field k t (without (codes "_id") rest))) same) ∙ sym (ap (λ (fs : Fields). joined before (without (codes "_id") fs)) is) ∙ sym (ap (λ (b : Bool). joined before (rest_behind b left)) none) ∙ so_far

-- a field more behind those before it
pub goes_behind : (before left rest all : Fields) (k : List ℕ) (t : Tree) (passed : Bool) → left ≡ field k t rest → (passed ≡ false → bytes_eq k (codes "_id") ≡ false) → joined before (rest_behind passed left) ≡ all → joined (with_field before k t) (rest_behind passed rest) ≡ all
goes_behind before left rest all k t true is other so_far = joined_more before k t rest ∙ ap (joined before) (sym is) ∙ so_far
goes_behind before left rest all k t false is other so_far =
    joined_more before k t (without (codes "_id") rest) ∙ sym (ap (λ (b : Bool). joined before (if b then rest else field k t (without (codes "_id") rest))) (other refl))
    ∙ sym (ap (λ (fs : Fields). joined before (without (codes "_id") fs)) is) ∙ so_far

pub first_passes : (before left rest all : Fields) (k : List ℕ) (t : Tree) (passed b : Bool) → left ≡ field k t rest → b ≡ (if passed then false else bytes_eq k (codes "_id")) → b ≡ true → joined before (rest_behind passed left) ≡ all → joined before (rest_behind true rest) ≡ all
first_passes before left rest all k t true b is first holds so_far = let bad : true ≡ false = sym holds ∙ first in absurd cc
first_passes before left rest all k t false b is first holds so_far = passes_id before left rest all k t false is (sym first ∙ holds) refl so_far

pub other_goes : (before left rest all new : Fields) (k : List ℕ) (t : Tree) (passed b : Bool) → left ≡ field k t rest → b ≡ (if passed then false else bytes_eq k (codes "_id")) → b ≡ false → new ≡ with_field before k t → joined before (rest_behind passed left) ≡ all → joined new (rest_behind passed rest) ≡ all
other_goes before left rest all new k t true b is first never made so_far = ap (λ (d : Fields). joined d rest) made ∙ goes_behind before left rest all k t true is (λ e. let bad : true ≡ false = e in absurd cc) so_far
other_goes before left rest all new k t false b is first never made so_far = ap (λ (d : Fields). joined d (without (codes "_id") rest)) made ∙ goes_behind before left rest all k t false is (λ e. sym first ∙ never) so_far

pub all_behind : (before left all : Fields) (passed : Bool) → left ≡ no_fields → joined before (rest_behind passed left) ≡ all → before ≡ all
all_behind before left all true is so_far = sym (joined_all before) ∙ ap (joined before) (sym is) ∙ so_far
all_behind before left all false is so_far = sym (joined_all before) ∙ ap (λ (fs : Fields). joined before (without (codes "_id") fs)) (sym is) ∙ so_far

-- ---- the requests

-- the request of an update whose filter has these conditions
abbrev pub updated_with : Updating → Option (List Condition) → Option Request
updated_with u found = found >>= λ cs. Some (update u.space cs u.modification u.many)

abbrev pub updated_by : Option Updating → Option Request
updated_by found = found >>= λ u. updated_with u (conditions_of u.filter)

no_request : (o : Option (List Condition)) (r : Option Request) → r ≡ None → (o >>= λ cs. r) ≡ None
no_request None r e = refl
no_request (Some cs) r e = e

update_turned : (space : Space) (filter : Fields) (c : Option (List Condition)) (m : Option Modification) (f : Option Bool) → conditions_of filter ≡ c
    → (c >>= λ cs. m >>= λ m. f >>= λ many. Some (update space cs m many)) ≡ updated_by (m >>= λ m. f >>= λ many. Some (record { space = space; filter = filter; modification = m; many = many }))
update_turned space filter None None f e = refl
update_turned space filter (Some cs) None f e = refl
update_turned space filter None (Some m) None e = refl
update_turned space filter (Some cs) (Some m) None e = refl
update_turned space filter c (Some m) (Some many) e = sym (ap (updated_with (record { space = space; filter = filter; modification = m; many = many })) e)

update_parted : (space : Space) (b : Bool) (q d : Option Fields) (f : Option Bool)
    → (if b then (option_and_then conditions_of q >>= λ cs. d >>= λ d. modification_of d >>= λ m. f >>= λ many. Some (update space cs m many)) else None)
    ≡ updated_by (if b then (q >>= λ filter. d >>= modification_of >>= λ m. f >>= λ many. Some (record { space = space; filter = filter; modification = m; many = many })) else None)
update_parted space false q d f = refl
update_parted space true None d f = refl
update_parted space true (Some q) None f = no_request (conditions_of q) None refl
update_parted space true (Some q) (Some d) f = update_turned space q (conditions_of q) (modification_of d) f refl

update_within : (b : Bool) (s : Option Space) (u : Option Fields) → (if b then (s >>= λ space. u >>= update_by (update space)) else None) ≡ updated_by (if b then (s >>= λ space. u >>= updating_by space) else None)
unfolding updating_by
update_within false s u = refl
update_within true None u = refl
update_within true (Some s) None = refl
update_within true (Some s) (Some u) = update_parted s (has_only update_parts u) (option_and_then as_document (get (codes "q") u)) (option_and_then as_document (get (codes "u") u)) (flag_or false (get (codes "multi") u))

pub update_asked : (fs : Fields) → update_request fs ≡ updated_by (updating_of fs)
unfolding update_request updating_of
update_asked fs = update_within (has_only update_fields fs) (named_space (codes "update") fs) (one_at (codes "updates") fs)

-- the request of a delete whose filter has these conditions
abbrev pub deleted_with : Deleting → Option (List Condition) → Option Request
deleted_with d found = found >>= λ cs. Some (delete d.space cs d.many)

abbrev pub deleted_by : Option Deleting → Option Request
deleted_by found = found >>= λ d. deleted_with d (conditions_of d.filter)

delete_turned : (space : Space) (filter : Fields) (c : Option (List Condition)) (f : Option Bool) → conditions_of filter ≡ c
    → (c >>= λ cs. f >>= λ many. Some (delete space cs many)) ≡ deleted_by (f >>= λ many. Some (record { space = space; filter = filter; many = many }))
delete_turned space filter None None e = refl
delete_turned space filter (Some cs) None e = refl
delete_turned space filter c (Some many) e = sym (ap (deleted_with (record { space = space; filter = filter; many = many })) e)

delete_parted : (space : Space) (b : Bool) (q : Option Fields) (f : Option Bool)
    → (if b then (option_and_then conditions_of q >>= λ cs. f >>= λ many. Some (delete space cs many)) else None) ≡ deleted_by (if b then (q >>= λ filter. f >>= λ many. Some (record { space = space; filter = filter; many = many })) else None)
delete_parted space false q f = refl
delete_parted space true None f = refl
delete_parted space true (Some q) f = delete_turned space q (conditions_of q) f refl

delete_within : (b : Bool) (s : Option Space) (d : Option Fields) → (if b then (s >>= λ space. d >>= delete_by (delete space)) else None) ≡ deleted_by (if b then (s >>= λ space. d >>= deleting_by space) else None)
unfolding deleting_by
delete_within false s d = refl
delete_within true None d = refl
delete_within true (Some s) None = refl
delete_within true (Some s) (Some d) = delete_parted s (has_only delete_parts d) (option_and_then as_document (get (codes "q") d)) (option_and_then count_of (get (codes "limit") d) >>= many_by)

pub delete_asked : (fs : Fields) → delete_request fs ≡ deleted_by (deleting_of fs)
unfolding delete_request deleting_of
delete_asked fs = delete_within (has_only delete_fields fs) (named_space (codes "delete") fs) (one_at (codes "deletes") fs)

no_update : (u : Updating) (c : Option (List Condition)) → None ≡ option_map (map keyed) c → None ≡ option_map wanted (updated_with u c)
no_update u None e = refl
no_update u (Some cs) e = absurd cc

pub update_unfiltered : (fs : Fields) (u : Updating) → Some u ≡ updating_of fs → None ≡ option_map (map keyed) (conditions_of u.filter) → None ≡ option_map wanted (update_request fs)
update_unfiltered fs u is none = no_update u (conditions_of u.filter) none ∙ ap (λ (o : Option Updating). option_map wanted (updated_by o)) is ∙ ap (option_map wanted) (sym (update_asked fs))

an_update : (u : Updating) (keys : List Keyed) (c : Option (List Condition)) → Some keys ≡ option_map (map keyed) c → Some (wants.update u.space keys u.modification u.many) ≡ option_map wanted (updated_with u c)
an_update u keys None e = absurd cc
an_update u keys (Some cs) e = let same : keys ≡ map keyed cs = cc in ap (λ (ks : List Keyed). Some (wants.update u.space ks u.modification u.many)) same

pub update_some : (fs : Fields) (u : Updating) (keys : List Keyed) → Some u ≡ updating_of fs → Some keys ≡ option_map (map keyed) (conditions_of u.filter) → Some (wants.update u.space keys u.modification u.many) ≡ option_map wanted (update_request fs)
update_some fs u keys is some = an_update u keys (conditions_of u.filter) some ∙ ap (λ (o : Option Updating). option_map wanted (updated_by o)) is ∙ ap (option_map wanted) (sym (update_asked fs))

no_delete : (d : Deleting) (c : Option (List Condition)) → None ≡ option_map (map keyed) c → None ≡ option_map wanted (deleted_with d c)
no_delete d None e = refl
no_delete d (Some cs) e = absurd cc

pub delete_unfiltered : (fs : Fields) (d : Deleting) → Some d ≡ deleting_of fs → None ≡ option_map (map keyed) (conditions_of d.filter) → None ≡ option_map wanted (delete_request fs)
delete_unfiltered fs d is none = no_delete d (conditions_of d.filter) none ∙ ap (λ (o : Option Deleting). option_map wanted (deleted_by o)) is ∙ ap (option_map wanted) (sym (delete_asked fs))

a_delete : (d : Deleting) (keys : List Keyed) (c : Option (List Condition)) → Some keys ≡ option_map (map keyed) c → Some (wants.delete d.space keys d.many) ≡ option_map wanted (deleted_with d c)
a_delete d keys None e = absurd cc
a_delete d keys (Some cs) e = let same : keys ≡ map keyed cs = cc in ap (λ (ks : List Keyed). Some (wants.delete d.space ks d.many)) same

pub delete_some : (fs : Fields) (d : Deleting) (keys : List Keyed) → Some d ≡ deleting_of fs → Some keys ≡ option_map (map keyed) (conditions_of d.filter) → Some (wants.delete d.space keys d.many) ≡ option_map wanted (delete_request fs)
delete_some fs d keys is some = a_delete d keys (conditions_of d.filter) some ∙ ap (λ (o : Option Deleting). option_map wanted (deleted_by o)) is ∙ ap (option_map wanted) (sym (delete_asked fs))

-- ---- fields that are set anew

anew_if : (b : Bool) (before more : Fields) (k : List ℕ) (t : Tree) → joined (if b then before else with_field before k t) more ≡ joined before (if b then more else field k t more)
anew_if true before more k t = refl
anew_if false before more k t = joined_more before k t more

pub anew_goes : (d before after left rest all : Fields) (k : List ℕ) (t : Tree) → left ≡ field k t rest → after ≡ (if same_id t (get k d) then before else with_field before k t) → joined before (set_anew d left) ≡ all → joined after (set_anew d rest) ≡ all
anew_goes d before after left rest all k t is made so_far =
    ap (λ (x : Fields). joined x (set_anew d rest)) made ∙ anew_if (same_id t (get k d)) before (set_anew d rest) k t ∙ sym (ap (λ (fs : Fields). joined before (set_anew d fs)) is) ∙ so_far

pub anew_ends : (d before left all : Fields) → left ≡ no_fields → joined before (set_anew d left) ≡ all → before ≡ all
anew_ends d before left all is so_far = sym (joined_all before) ∙ sym (ap (λ (fs : Fields). joined before (set_anew d fs)) is) ∙ so_far

-- ---- what is too large

pub not_encoded : (m : Modification) (d held made : Fields) (stop : Stop) → held ≡ d → made ≡ modified m d → length (bytes held) ≤ max_len → EncodesOr made (Err stop) → AltersOr m d (Err stop)
not_encoded m d held made stops.Memory same is short got = tt
not_encoded m d held made (stops.Refused refusal) same is short got = (got.0, subst (λ (e : Fields). max_len < length (bytes e)) is got.1, subst (λ (e : Fields). length (bytes e) ≤ max_len) same short)
