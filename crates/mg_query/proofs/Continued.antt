-- Which commands are about cursors, and which cursor one goes on with.
use Rattle.std.proofs.Common.{◌≡◌, ℕ, ℤ, Bool, true, false, List, [], ◌∷◌, length, Option, Some, None, option_map, option_and_then, codes, is_some, refl, sym, ap, ◌∙◌, arith, if◌then◌else◌}
use Rattle.std.specs.Prelude.{nat_lt, unwrap_or}
use Rattle.std.specs.Str.{bytes_eq}
use Rattle.std.proofs.lemmas.Bool.{lt-ltb}
use Rattle.std.proofs.lemmas.Slice.Eq.{bytes_eq-Decides}
use Rattle.mg_bson.specs.Tree.{Fields, no_fields, field}
use Rattle.mg_bson.specs.Find.{get, as_array, as_document}
use Rattle.mg_bson.specs.Raw.{fields}
use Rattle.mg_link.specs.Namespace.{Space, Target, has_dot, as_collection, as_database}
use Rattle.mg_server.specs.Filter.{Condition}
use Rattle.mg_server.specs.State.{Start, Index}
use Rattle.mg_link.specs.Numbers.{as_integer, count_of}
use Rattle.mg_server.specs.Commands.{Asked, asks_insert, asks_watch, asks_more, asks_kill, asks_other, asked, asked_by, documents_in, filter_stages, flag_or, insert_of, integers_in, kill_of, more_of, space_at, start_of, target_of, text_of, watch_by, watch_from, watch_of, watch_stage_options, or_asks, pipeline_query, update_of, delete_of, find_of, collections_query, indexes_query, create_of, indexing_of, drop_of, further_by, asks_update, asks_delete, asks_create, asks_indexes, asks_drop, has_only, update_parts, update_fields, delete_parts, delete_fields, find_fields, pipeline_fields, collections_fields, indexes_fields, create_fields, indexing_fields, drop_fields, filter_at, one_at, modification_of, update_by, delete_by, many_by, database_at, asks_query, find_query, piped, stages_in, listing_of, indexes_listed, indexes_in}
use Rattle.mg_query.specs.Continued.{continued, continued_by, is_about_cursors, is_cursor_command}
use Rattle.mg_bson.specs.Reading.{◌>>=◌}
use Rattle.mg_server.specs.Query.{Query}
use Rattle.mg_server.specs.Write.{Modification}

abbrev goes_on : Option Asked → Option ℤ
goes_on found = continued (unwrap_or found asks_other)

abbrev about : Option Asked → Bool
about found = is_about_cursors (unwrap_or found asks_other)

by_insert : (s : Option Space) (d : Option (List Fields)) (f : Option Bool) → about (option_and_then (λ space. option_and_then (λ ds. option_map (asks_insert space ds) f) d) s) ≡ false
by_insert None d f = refl
by_insert (Some s) None f = refl
by_insert (Some s) (Some d) None = refl
by_insert (Some s) (Some d) (Some f) = refl

insert_not : (fs : Fields) → about (insert_of fs) ≡ false
unfolding insert_of
insert_not fs = by_insert (space_at (codes "insert") fs) (option_and_then documents_in (option_and_then as_array (get (codes "documents") fs))) (flag_or true (get (codes "ordered") fs))

by_watch : (c : Option (List Condition)) (s : Option Start) (t : Option Target) → about (option_and_then (λ filter. option_and_then (λ start. option_map (λ target. asks_watch (record { target = target; filter = filter }) start) t) s) c) ≡ false
by_watch None s t = refl
by_watch (Some c) None t = refl
by_watch (Some c) (Some s) None = refl
by_watch (Some c) (Some s) (Some t) = refl

by_options : (fs : Fields) (stages : List Fields) (o : Option Fields) → about (option_and_then (λ options. watch_by fs options stages) o) ≡ false
by_options fs stages None = refl
by_options fs stages (Some options) = by_watch (filter_stages stages) (start_of options) (target_of options fs)

by_stages : (fs : Fields) (o : Option (List Fields)) → about (option_and_then (watch_from fs) o) ≡ false
by_stages fs None = refl
by_stages fs (Some []) = refl
by_stages fs (Some (stage ∷ stages)) = by_options fs stages (watch_stage_options stage)

watch_not : (fs : Fields) → about (watch_of fs) ≡ false
unfolding watch_of
watch_not fs = by_stages fs (option_and_then documents_in (option_and_then as_array (get (codes "pipeline") fs)))

-- ---- those that name no cursor

either_not : (b : Bool) (o p : Option Asked) → about o ≡ false → about p ≡ false → about (if b then o else p) ≡ false
either_not true o p h g = h
either_not false o p h g = g

first_not : (o p : Option Asked) → about o ≡ false → about p ≡ false → about (or_asks o p) ≡ false
first_not None p h g = g
first_not (Some a) p h g = h

by_change : (space : Space) (q : List Condition) (m : Option Modification) (f : Option Bool) → about (m >>= λ m. f >>= λ many. Some (asks_update space q m many)) ≡ false
by_change space q None f = refl
by_change space q (Some m) None = refl
by_change space q (Some m) (Some many) = refl

by_update_parts : (space : Space) (b : Bool) (q : Option (List Condition)) (d : Option Fields) (f : Option Bool) → about (if b then (q >>= λ q. d >>= λ d. modification_of d >>= λ m. f >>= λ many. Some (asks_update space q m many)) else None) ≡ false
by_update_parts space false q d f = refl
by_update_parts space true None d f = refl
by_update_parts space true (Some q) None f = refl
by_update_parts space true (Some q) (Some d) f = by_change space q (modification_of d) f

update_by_not : (space : Space) (u : Fields) → about (update_by (asks_update space) u) ≡ false
update_by_not space u = by_update_parts space (has_only update_parts u) (filter_at (codes "q") u) (option_and_then as_document (get (codes "u") u)) (flag_or false (get (codes "multi") u))

by_update : (b : Bool) (s : Option Space) (u : Option Fields) → about (if b then (s >>= λ space. u >>= update_by (asks_update space)) else None) ≡ false
by_update false s u = refl
by_update true None u = refl
by_update true (Some s) None = refl
by_update true (Some s) (Some u) = update_by_not s u

update_not : (fs : Fields) → about (update_of fs) ≡ false
unfolding update_of
update_not fs = by_update (has_only update_fields fs) (space_at (codes "update") fs) (one_at (codes "updates") fs)

by_delete_parts : (space : Space) (b : Bool) (q : Option (List Condition)) (f : Option Bool) → about (if b then (q >>= λ q. f >>= λ many. Some (asks_delete space q many)) else None) ≡ false
by_delete_parts space false q f = refl
by_delete_parts space true None f = refl
by_delete_parts space true (Some q) None = refl
by_delete_parts space true (Some q) (Some many) = refl

delete_by_not : (space : Space) (d : Fields) → about (delete_by (asks_delete space) d) ≡ false
delete_by_not space d = by_delete_parts space (has_only delete_parts d) (filter_at (codes "q") d) (option_and_then count_of (get (codes "limit") d) >>= many_by)

by_delete : (b : Bool) (s : Option Space) (d : Option Fields) → about (if b then (s >>= λ space. d >>= delete_by (asks_delete space)) else None) ≡ false
by_delete false s d = refl
by_delete true None d = refl
by_delete true (Some s) None = refl
by_delete true (Some s) (Some d) = delete_by_not s d

delete_not : (fs : Fields) → about (delete_of fs) ≡ false
unfolding delete_of
delete_not fs = by_delete (has_only delete_fields fs) (space_at (codes "delete") fs) (one_at (codes "deletes") fs)

by_query : (b : Bool) (q : Option Query) → about (if b then option_map asks_query q else None) ≡ false
by_query false q = refl
by_query true None = refl
by_query true (Some q) = refl

find_not : (fs : Fields) → about (find_of fs) ≡ false
unfolding find_of
find_not fs = by_query (has_only find_fields fs) (space_at (codes "find") fs >>= find_query fs)

pipeline_not : (fs : Fields) → about (pipeline_query fs) ≡ false
unfolding pipeline_query
pipeline_not fs = by_query (has_only pipeline_fields fs) (space_at (codes "aggregate") fs >>= piped fs (stages_in fs))

collections_not : (fs : Fields) → about (collections_query fs) ≡ false
unfolding collections_query
collections_not fs = by_query (has_only collections_fields fs) (database_at fs >>= listing_of fs)

indexes_not : (fs : Fields) → about (indexes_query fs) ≡ false
unfolding indexes_query
indexes_not fs = by_query (has_only indexes_fields fs) (space_at (codes "listIndexes") fs >>= indexes_listed fs)

by_space : (b : Bool) (asks : Space → Asked) (s : Option Space) → ((space : Space) → is_about_cursors (asks space) ≡ false) → about (if b then option_map asks s else None) ≡ false
by_space false asks s h = refl
by_space true asks None h = refl
by_space true asks (Some s) h = h s

create_not : (fs : Fields) → about (create_of fs) ≡ false
unfolding create_of
create_not fs = by_space (has_only create_fields fs) asks_create (space_at (codes "create") fs) (λ space. refl)

by_indexing : (b : Bool) (s : Option Space) (is : Option (List Index)) → about (if b then (s >>= λ space. option_map (asks_indexes space) is) else None) ≡ false
by_indexing false s is = refl
by_indexing true None is = refl
by_indexing true (Some s) None = refl
by_indexing true (Some s) (Some is) = refl

indexing_not : (fs : Fields) → about (indexing_of fs) ≡ false
unfolding indexing_of
indexing_not fs = by_indexing (has_only indexing_fields fs) (space_at (codes "createIndexes") fs) (indexes_in fs)

drop_not : (fs : Fields) → about (drop_of fs) ≡ false
unfolding drop_of
drop_not fs = by_space (has_only drop_fields fs) asks_drop (space_at (codes "drop") fs) (λ space. refl)

further_not : (k : List ℕ) (fs : Fields) → about (further_by k fs) ≡ false
further_not k fs =
    either_not (bytes_eq k (codes "update")) (update_of fs) _ (update_not fs)
    (either_not (bytes_eq k (codes "delete")) (delete_of fs) _ (delete_not fs)
    (either_not (bytes_eq k (codes "find")) (find_of fs) _ (find_not fs)
    (either_not (bytes_eq k (codes "listCollections")) (collections_query fs) _ (collections_not fs)
    (either_not (bytes_eq k (codes "listIndexes")) (indexes_query fs) _ (indexes_not fs)
    (either_not (bytes_eq k (codes "create")) (create_of fs) _ (create_not fs)
    (either_not (bytes_eq k (codes "createIndexes")) (indexing_of fs) _ (indexing_not fs)
    (either_not (bytes_eq k (codes "drop")) (drop_of fs) None (drop_not fs) refl)))))))

-- ---- any command

about_by : (a b c d : Bool) (i w m k f : Option Asked) → about i ≡ false → about w ≡ false → about f ≡ false → (if c then true else d) ≡ false → about (if a then i else (if b then w else (if c then m else (if d then k else f)))) ≡ false
about_by true b c d i w m k f hi hw hf none = hi
about_by false true c d i w m k f hi hw hf none = hw
about_by false false true d i w m k f hi hw hf none = absurd cc
about_by false false false true i w m k f hi hw hf none = absurd cc
about_by false false false false i w m k f hi hw hf none = hf

about_fields : (fs : Fields) → is_cursor_command fs ≡ false → about (asked_by fs) ≡ false
about_fields no_fields h = refl
about_fields (field k t fs) h =
    about_by (bytes_eq k (codes "insert")) (bytes_eq k (codes "aggregate")) (bytes_eq k (codes "getMore")) (bytes_eq k (codes "killCursors")) (insert_of (field k t fs)) (or_asks (watch_of (field k t fs)) (pipeline_query (field k t fs))) (more_of (field k t fs)) (kill_of (field k t fs)) (further_by k (field k t fs))
    (insert_not (field k t fs)) (first_not (watch_of (field k t fs)) (pipeline_query (field k t fs)) (watch_not (field k t fs)) (pipeline_not (field k t fs))) (further_not k (field k t fs)) h

-- one that is no getMore and no killCursors is about no cursor
pub about_none : (command : List ℕ) → is_cursor_command (fields command) ≡ false → is_about_cursors (asked command) ≡ false
unfolding asked
about_none command h = about_fields (fields command) h

not_on : (a : Asked) → is_about_cursors a ≡ false → continued a ≡ None
not_on (asks_more id space) h = absurd cc
not_on (asks_insert space documents ordered) h = refl
not_on (asks_update space conditions modification many) h = refl
not_on (asks_delete space conditions many) h = refl
not_on (asks_query query) h = refl
not_on (asks_create space) h = refl
not_on (asks_indexes space indexes) h = refl
not_on (asks_drop space) h = refl
not_on (asks_watch watch start) h = refl
not_on (asks_kill ids) h = refl
not_on asks_other h = refl

stays_off : (o : Option Asked) → about o ≡ false → goes_on o ≡ None
stays_off o h = not_on (unwrap_or o asks_other) h

by_kill : (ids : Option (List ℤ)) → goes_on (option_map asks_kill ids) ≡ None
by_kill None = refl
by_kill (Some ids) = refl

kill_not : (fs : Fields) → goes_on (kill_of fs) ≡ None
unfolding kill_of
kill_not fs = by_kill (option_and_then integers_in (option_and_then as_array (get (codes "cursors") fs)))

by_more : (z : Option ℤ) (s : Option Space) → goes_on (option_and_then (λ id. option_map (asks_more id) s) z) ≡ (if is_some s then z else None)
by_more None None = refl
by_more None (Some s) = refl
by_more (Some z) None = refl
by_more (Some z) (Some s) = refl

more_goes : (fs : Fields) → goes_on (more_of fs) ≡ (if is_some (space_at (codes "collection") fs) then option_and_then as_integer (get (codes "getMore") fs) else None)
unfolding more_of
more_goes fs = by_more (option_and_then as_integer (get (codes "getMore") fs)) (space_at (codes "collection") fs)

chosen : (a b c d : Bool) (i w m k f : Option Asked) (o : Option ℤ) → goes_on i ≡ None → goes_on w ≡ None → goes_on k ≡ None → goes_on f ≡ None → goes_on m ≡ o → (a ≡ true → c ≡ false) → (b ≡ true → c ≡ false)
    → goes_on (if a then i else (if b then w else (if c then m else (if d then k else f)))) ≡ (if c then o else None)
chosen true b true d i w m k f o hi hw hk hf hm ha hb = let bad : true ≡ false = ha refl in absurd cc
chosen true b false d i w m k f o hi hw hk hf hm ha hb = hi
chosen false true true d i w m k f o hi hw hk hf hm ha hb = let bad : true ≡ false = hb refl in absurd cc
chosen false true false d i w m k f o hi hw hk hf hm ha hb = hw
chosen false false true d i w m k f o hi hw hk hf hm ha hb = hm
chosen false false false true i w m k f o hi hw hk hf hm ha hb = hk
chosen false false false false i w m k f o hi hw hk hf hm ha hb = hf

not_both : (k l m : List ℕ) → bytes_eq l m ≡ false → bytes_eq k l ≡ true → bytes_eq k m ≡ false
not_both k l m differ h = ap (λ (x : List ℕ). bytes_eq x m) ((bytes_eq-Decides k l).0 h) ∙ differ

by_fields : (fs : Fields) → goes_on (asked_by fs) ≡ continued_by fs
by_fields no_fields = refl
by_fields (field k t fs) =
    chosen (bytes_eq k (codes "insert")) (bytes_eq k (codes "aggregate")) (bytes_eq k (codes "getMore")) (bytes_eq k (codes "killCursors")) (insert_of (field k t fs)) (or_asks (watch_of (field k t fs)) (pipeline_query (field k t fs))) (more_of (field k t fs)) (kill_of (field k t fs)) (further_by k (field k t fs))
    (if is_some (space_at (codes "collection") (field k t fs)) then option_and_then as_integer (get (codes "getMore") (field k t fs)) else None)
    (stays_off (insert_of (field k t fs)) (insert_not (field k t fs)))
    (stays_off (or_asks (watch_of (field k t fs)) (pipeline_query (field k t fs))) (first_not (watch_of (field k t fs)) (pipeline_query (field k t fs)) (watch_not (field k t fs)) (pipeline_not (field k t fs))))
    (kill_not (field k t fs)) (stays_off (further_by k (field k t fs)) (further_not k (field k t fs))) (more_goes (field k t fs))
    (not_both k (codes "insert") (codes "getMore") refl) (not_both k (codes "aggregate") (codes "getMore") refl)

pub continued_is : (command : List ℕ) → continued (asked command) ≡ continued_by (fields command)
unfolding asked
continued_is command = by_fields (fields command)

-- ---- the collection that a command names

abbrev spaced : List ℕ → List ℕ → Space
spaced db coll = record { db = db; coll = coll }

abbrev named_by : Option (List ℕ) → Option (List ℕ) → Bool
named_by d c = is_some (option_and_then (λ (db : List ℕ). option_map (λ (coll : List ℕ). spaced db coll) (option_and_then as_collection c)) (option_and_then as_database d))

named_is : (fs : Fields) → is_some (space_at (codes "collection") fs) ≡ named_by (text_of (codes "$db") fs) (text_of (codes "collection") fs)
unfolding space_at
named_is fs = refl

pub no_database : (fs : Fields) → None ≡ text_of (codes "$db") fs → false ≡ is_some (space_at (codes "collection") fs)
no_database fs e = sym (named_is fs ∙ ap (λ (d : Option (List ℕ)). named_by d (text_of (codes "collection") fs)) (sym e))

none_named : (o : Option (List ℕ)) → false ≡ is_some (option_and_then (λ (db : List ℕ). option_map (λ (coll : List ℕ). spaced db coll) None) o)
none_named None = refl
none_named (Some db) = refl

pub no_collection : (fs : Fields) → None ≡ text_of (codes "collection") fs → false ≡ is_some (space_at (codes "collection") fs)
no_collection fs e = none_named (option_and_then as_database (text_of (codes "$db") fs)) ∙ sym (named_is fs ∙ ap (named_by (text_of (codes "$db") fs)) (sym e))

empty_named : (d : List ℕ) (c : Option (List ℕ)) → length d ≡ 0 → false ≡ named_by (Some d) c
empty_named [] c e = refl
empty_named (b ∷ bs) c e = cc

pub empty_database : (fs : Fields) (d : List ℕ) → Some d ≡ text_of (codes "$db") fs → length d ≡ 0 → false ≡ is_some (space_at (codes "collection") fs)
empty_database fs d e none = empty_named d (text_of (codes "collection") fs) none ∙ sym (named_is fs ∙ ap (λ (x : Option (List ℕ)). named_by x (text_of (codes "collection") fs)) (sym e))

dotted_named : (d : List ℕ) (c : Option (List ℕ)) → has_dot d ≡ true → false ≡ named_by (Some d) c
dotted_named [] c e = refl
dotted_named (b ∷ bs) c e = sym (ap (λ (x : Bool). is_some (option_and_then (λ (db : List ℕ). option_map (λ (coll : List ℕ). spaced db coll) (option_and_then as_collection c)) (if x then None else Some (b ∷ bs)))) e)

pub dotted_database : (fs : Fields) (d : List ℕ) → Some d ≡ text_of (codes "$db") fs → has_dot d ≡ true → false ≡ is_some (space_at (codes "collection") fs)
dotted_database fs d e dot = dotted_named d (text_of (codes "collection") fs) dot ∙ sym (named_is fs ∙ ap (λ (x : Option (List ℕ)). named_by x (text_of (codes "collection") fs)) (sym e))

some_coll : (d c : List ℕ) → nat_lt 0 (length c) ≡ is_some (option_map (λ (coll : List ℕ). spaced d coll) (as_collection c))
some_coll d [] = refl
some_coll d (b ∷ bs) = lt-ltb 0 (length (b ∷ bs)) (omega arith)

both_named : (d c : List ℕ) → (length d ≡ 0 → ⊥) → has_dot d ≡ false → nat_lt 0 (length c) ≡ named_by (Some d) (Some c)
both_named [] c some dot = absurd (some refl)
both_named (b ∷ bs) c some dot = some_coll (b ∷ bs) c ∙ sym (ap (λ (x : Bool). is_some (option_and_then (λ (db : List ℕ). option_map (λ (coll : List ℕ). spaced db coll) (as_collection c)) (if x then None else Some (b ∷ bs)))) dot)

pub both_there : (fs : Fields) (d c : List ℕ) → Some d ≡ text_of (codes "$db") fs → (length d ≡ 0 → ⊥) → has_dot d ≡ false → Some c ≡ text_of (codes "collection") fs → nat_lt 0 (length c) ≡ is_some (space_at (codes "collection") fs)
both_there fs d c e some dot f = both_named d c some dot ∙ sym (named_is fs ∙ ap (λ (x : Option (List ℕ)). named_by x (text_of (codes "collection") fs)) (sym e) ∙ ap (named_by (Some d)) (sym f))
