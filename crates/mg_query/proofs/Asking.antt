-- Values that are all documents, or all ids.
use Rattle.std.proofs.Common.{◌≡◌, ℕ, Bool, true, false, is_some, List, ◌∷◌, Option, Some, None, option_map, option_and_then, refl, ap}
use Rattle.std.specs.Prelude.{if◌then◌else◌}
use Rattle.std.specs.Str.{bytes_eq}
use Rattle.mg_bson.specs.Tree.{Tree, double, string, document, array, binary, undefined, object_id, boolean, date_time, null, regex, db_pointer, script, symbol, scoped, int32, timestamp, int64, decimal128, min_key, max_key, Fields, no_fields, field, Items, no_items, item}
use Rattle.mg_bson.specs.Find.{as_document, get}
use Rattle.mg_bson.specs.Reading.{◌>>=◌}
use Rattle.mg_server.specs.Filter.{begins_with_dollar, document_values, operator_values, values_of}
use Rattle.mg_server.specs.Commands.{documents_in}
use Rattle.mg_server.specs.Rules.{id_of, ids_in}
use Rattle.mg_query.specs.Asking.{ahead, begins_operator, documents_among, ids_among, is_single, only_document}

one_more : {A : Type 0} (o : Option A) (r : Option (List A)) (xs : List A) → (is_some r ≡ true → r ≡ Some xs) → is_some (option_and_then (λ x. option_map (λ ys. x ∷ ys) r) o) ≡ true → option_and_then (λ x. option_map (λ ys. x ∷ ys) r) o ≡ Some (ahead o xs)
one_more None r xs h some = cc
one_more (Some x) None xs h some = cc
one_more (Some x) (Some ys) xs h some = ap (option_map (λ zs. x ∷ zs)) (h refl)

bind_more : {A : Type 0} (o : Option A) (r : Option (List A)) (xs : List A) → (is_some r ≡ true → r ≡ Some xs) → is_some (o >>= λ x. r >>= λ ys. Some (x ∷ ys)) ≡ true → (o >>= λ x. r >>= λ ys. Some (x ∷ ys)) ≡ Some (ahead o xs)
bind_more None r xs h some = cc
bind_more (Some x) None xs h some = cc
bind_more (Some x) (Some ys) xs h some = ap (option_map (λ zs. x ∷ zs)) (h refl)

pub all_documents : (ts : Items) → is_some (documents_in ts) ≡ true → documents_in ts ≡ Some (documents_among ts)
all_documents no_items some = refl
all_documents (item t ts) some = one_more (as_document t) (documents_in ts) (documents_among ts) (all_documents ts) some

pub all_ids : (ts : Items) → is_some (ids_in ts) ≡ true → ids_in ts ≡ Some (ids_among ts)
all_ids no_items some = refl
all_ids (item t ts) some = bind_more (id_of t) (ids_in ts) (ids_among ts) (all_ids ts) some

pub plain_values : (t : Tree) → as_document t ≡ None → values_of t ≡ Some (item t no_items)
plain_values (document fs) none = cc
plain_values (double a) none = refl
plain_values (string a) none = refl
plain_values (array a) none = refl
plain_values (binary a b) none = refl
plain_values undefined none = refl
plain_values (object_id a) none = refl
plain_values (boolean a) none = refl
plain_values (date_time a) none = refl
plain_values null none = refl
plain_values (regex a b) none = refl
plain_values (db_pointer a b) none = refl
plain_values (script a) none = refl
plain_values (symbol a) none = refl
plain_values (scoped a b) none = refl
plain_values (int32 a) none = refl
plain_values (timestamp a b) none = refl
plain_values (int64 a) none = refl
plain_values (decimal128 a) none = refl
plain_values min_key none = refl
plain_values max_key none = refl

pub document_is : (t : Tree) (fs : Fields) → as_document t ≡ Some fs → t ≡ document fs
document_is (document gs) fs e = cc
document_is (double a) fs e = cc
document_is (string a) fs e = cc
document_is (array a) fs e = cc
document_is (binary a b) fs e = cc
document_is undefined fs e = cc
document_is (object_id a) fs e = cc
document_is (boolean a) fs e = cc
document_is (date_time a) fs e = cc
document_is null fs e = cc
document_is (regex a b) fs e = cc
document_is (db_pointer a b) fs e = cc
document_is (script a) fs e = cc
document_is (symbol a) fs e = cc
document_is (scoped a b) fs e = cc
document_is (int32 a) fs e = cc
document_is (timestamp a b) fs e = cc
document_is (int64 a) fs e = cc
document_is (decimal128 a) fs e = cc
document_is min_key fs e = cc
document_is max_key fs e = cc

-- ---- the only field

chosen : (b : Bool) (t : Tree) → (if b then as_document t else None) ≡ option_and_then as_document (if b then Some t else None)
chosen true t = refl
chosen false t = refl

pub only_of_one : (name : List ℕ) (fs : Fields) → is_single fs ≡ true → only_document name fs ≡ option_and_then as_document (get name fs)
only_of_one name no_fields e = cc
only_of_one name (field k t no_fields) e = chosen (bytes_eq k name) t
only_of_one name (field k t (field l u fs)) e = cc

pub only_of_more : (name : List ℕ) (fs : Fields) → is_single fs ≡ false → only_document name fs ≡ None
only_of_more name no_fields e = refl
only_of_more name (field k t no_fields) e = cc
only_of_more name (field k t (field l u fs)) e = refl

-- ---- what a document in a filter stands for

whole : (b : Bool) (x y : Option Items) → b ≡ false → (if b then x else y) ≡ y
whole true x y e = cc
whole false x y e = refl

part : (b : Bool) (x y : Option Items) → b ≡ true → (if b then x else y) ≡ x
part true x y e = refl
part false x y e = cc

pub values_of_whole : (fs : Fields) → begins_operator fs ≡ false → document_values fs ≡ Some (item (document fs) no_items)
values_of_whole no_fields e = refl
values_of_whole (field k t no_fields) e = whole (begins_with_dollar k) (operator_values k t) (Some (item (document (field k t no_fields)) no_items)) e
values_of_whole (field k t (field l u fs)) e = whole (begins_with_dollar k) None (Some (item (document (field k t (field l u fs))) no_items)) e

pub values_of_many : (fs : Fields) → begins_operator fs ≡ true → is_single fs ≡ false → document_values fs ≡ None
values_of_many no_fields e f = cc
values_of_many (field k t no_fields) e f = cc
values_of_many (field k t (field l u fs)) e f = part (begins_with_dollar k) None (Some (item (document (field k t (field l u fs))) no_items)) e

pub values_of_operator : (k : List ℕ) (t : Tree) (fs : Fields) → begins_operator (field k t fs) ≡ true → is_single (field k t fs) ≡ true → document_values (field k t fs) ≡ operator_values k t
values_of_operator k t no_fields e f = part (begins_with_dollar k) (operator_values k t) (Some (item (document (field k t no_fields)) no_items)) e
values_of_operator k t (field l u fs) e f = cc
