-- The indexes behind a step.
use Rattle.std.proofs.Common.{◌≡◌, ℕ, ℤ, pos, Bool, true, false, List, [], ◌∷◌, Option, Some, None, refl, sym, ap, ap₂, ◌∙◌, subst}
use Rattle.std.specs.Prelude.{if◌then◌else◌, option_map, unwrap_or}
use Rattle.std.specs.Ordering.{int_eq}
use Rattle.mg_bson.specs.Tree.{Fields}
use Rattle.mg_bson.specs.Raw.{fields}
use Rattle.mg_link.specs.Namespace.{Space}
use Rattle.mg_server.specs.State.{Collection, Cursor, Index, State, is_space, collection_in, put_collection, change_documents, indexes_of, collections_with}
use Rattle.mg_server.specs.Commands.{Asked, asks_insert, asks_update, asks_delete, asks_query, asks_watch, asks_more, asks_kill, asks_create, asks_indexes, asks_drop, asks_other, asked, Told, refuses, inserted, updated, deleted, done, opened, gave, killed, told}
use Rattle.mg_server.specs.Step.{Made, documents_of, grown, effect, ends_cursor}
use Rattle.mg_server.specs.Write.{with_indexes}
use Rattle.mg_server.specs.Rules.{done_reply, refusal}
use Rattle.mg_server.specs.Kept.{Kept, told_kept, state_behind, made_of}
use Rattle.mg_server.proofs.Collections.{put_is, same_space, without_is}
use Rattle.mg_server.proofs.Telling.{told_reads, refusal_tells, indexed_tells, dropped_tells}

-- ---- collections

-- the indexes of what was found
abbrev pub indexes_in : Option Collection → List Index
indexes_in o = unwrap_or (option_map (λ (c : Collection). c.indexes) o) []

if_found : (b : Bool) (c : Collection) (o : Option Collection) → indexes_in (if b then Some c else o) ≡ (if b then c.indexes else indexes_in o)
if_found true c o = refl
if_found false c o = refl

-- a collection that is put brings its indexes
pub indexes_put : (c : Collection) (cs : List Collection) (sp : Space) → indexes_in (collection_in (put_collection c cs) sp) ≡ (if is_space sp c.space then c.indexes else indexes_in (collection_in cs sp))
indexes_put c cs sp = ap indexes_in (put_is c cs sp) ∙ if_found (is_space sp c.space) c (collection_in cs sp)

same_here : (b : Bool) (xs ys : List Index) → (b ≡ true → xs ≡ ys) → (if b then xs else ys) ≡ ys
same_here true xs ys h = h refl
same_here false xs ys h = refl

documents_put : (s : State) (space : Space) (ds : List Fields) (sp : Space) → indexes_in (collection_in (collections_with s space ds) sp) ≡ indexes_of s sp
documents_put s space ds sp =
    let c : Collection = record { space = space; documents = ds; indexes = indexes_of s space } in
    indexes_put c s.collections sp ∙ same_here (is_space sp space) (indexes_of s space) (indexes_of s sp) (λ here. ap (indexes_of s) (sym (same_space sp space here)))

if_changed : (a : Bool) (c : Collection) (ds : List Fields) (cs changed : List Collection) (sp : Space) → indexes_in (collection_in changed sp) ≡ indexes_in (collection_in cs sp)
    → indexes_in (collection_in (if a then record c { documents = ds } ∷ cs else c ∷ changed) sp) ≡ indexes_in (collection_in (c ∷ cs) sp)
if_changed true c ds cs changed sp h = if_found (is_space sp c.space) (record c { documents = ds }) (collection_in cs sp) ∙ sym (if_found (is_space sp c.space) c (collection_in cs sp))
if_changed false c ds cs changed sp h = if_found (is_space sp c.space) c (collection_in changed sp) ∙ ap (λ (l : List Index). if is_space sp c.space then c.indexes else l) h ∙ sym (if_found (is_space sp c.space) c (collection_in cs sp))

-- other documents leave the indexes
documents_changed : (space : Space) (g : List Fields → List Fields) (cs : List Collection) (sp : Space) → indexes_in (collection_in (change_documents space g cs) sp) ≡ indexes_in (collection_in cs sp)
documents_changed space g [] sp = refl
documents_changed space g (c ∷ cs) sp = if_changed (is_space space c.space) c (g c.documents) cs (change_documents space g cs) sp (documents_changed space g cs sp)

-- ---- steps

-- the command is for documents or cursors alone
abbrev pub LeavesIndexes : Asked → Type 0
LeavesIndexes (asks_insert space documents ordered) = Unit {0}
LeavesIndexes (asks_update space conditions modification many) = Unit {0}
LeavesIndexes (asks_delete space conditions many) = Unit {0}
LeavesIndexes (asks_query q) = Unit {0}
LeavesIndexes (asks_watch watch start) = Unit {0}
LeavesIndexes (asks_more id space) = Unit {0}
LeavesIndexes (asks_kill ids) = Unit {0}
LeavesIndexes (asks_create space) = Unit {0}
LeavesIndexes (asks_indexes space indexes) = ⊥
LeavesIndexes (asks_drop space) = ⊥
LeavesIndexes asks_other = Unit {0}

-- the state has the indexes of the other
abbrev pub HasIndexesOf : State → State → Type 0
HasIndexesOf s s' = (sp : Space) → indexes_of s' sp ≡ indexes_of s sp

opened_has : (b : Bool) (s : State) (cursors : ℤ → Option Cursor) (ids : ℤ → Bool) → HasIndexesOf s (if b then s else record s { cursors = cursors; given = ids })
opened_has true s cursors ids sp = refl
opened_has false s cursors ids sp = refl

ended_has : (b : Bool) (s : State) (cursors : ℤ → Option Cursor) → HasIndexesOf s (if b then record s { cursors = cursors } else s)
ended_has true s cursors sp = refl
ended_has false s cursors sp = refl

effect_has : (s : State) (command : Asked) (reply : Told) → LeavesIndexes command → HasIndexesOf s (effect s command reply)
unfolding effect
effect_has s (asks_insert space documents ordered) (inserted n failures) leaves sp = documents_put s space _ sp
effect_has s (asks_update space conditions m many) (updated n changed []) leaves sp = documents_changed space _ s.collections sp
effect_has s (asks_delete space conditions many) (deleted n []) leaves sp = documents_changed space _ s.collections sp
effect_has s (asks_create space) done leaves sp = documents_put s space [] sp
effect_has s (asks_indexes space indexes) done leaves sp = absurd leaves
effect_has s (asks_drop space) done leaves sp = absurd leaves
effect_has s (asks_query q) (opened id at documents token time) leaves sp = opened_has (int_eq id (pos 0)) s _ _ sp
effect_has s (asks_watch watch start) (opened id at events token time) leaves sp = opened_has (int_eq id (pos 0)) s _ _ sp
effect_has s (asks_more id space) (gave left at events token) leaves sp = refl
effect_has s (asks_more id space) (refuses code labels) leaves sp = ended_has (ends_cursor code) s _ sp
effect_has s (asks_kill ids) killed leaves sp = refl
effect_has s command reply leaves sp = refl

refused_has : (s : State) (command : Asked) (code : ℤ) (labels : List (List ℕ)) → HasIndexesOf s (effect s command (refuses code labels))
unfolding effect
refused_has s (asks_more id space) code labels sp = ended_has (ends_cursor code) s _ sp
refused_has s command code labels sp = refl

grown_has : (s : State) (made : Made) → HasIndexesOf s (grown s made)
unfolding grown
grown_has s made sp = refl

-- behind a command for documents or cursors the indexes are as they were
pub indexes_stay : (s : State) (given : ℕ) (started : Bool) (kept : Kept) (command : Asked) → asked kept.command ≡ command → LeavesIndexes command → HasIndexesOf s (state_behind s given started kept)
indexes_stay s given started kept command asks leaves sp =
    let made : Made = made_of s given started kept in
    effect_has (grown s made) (asked kept.command) (told_kept kept) (subst LeavesIndexes (sym asks) leaves) sp ∙ grown_has s made sp

-- and so behind a refusal
pub indexes_refused : (s : State) (given : ℕ) (started : Bool) (kept : Kept) (code : ℤ) (labels : List (List ℕ)) → fields kept.reply ≡ refusal code labels → HasIndexesOf s (state_behind s given started kept)
indexes_refused s given started kept code labels e sp =
    let made : Made = made_of s given started kept in
    let tells : told_kept kept ≡ refuses code labels = told_reads (asked kept.command) kept.reply (refusal code labels) e ∙ refusal_tells (asked kept.command) code labels in
    ap (λ (t : Told). indexes_of (effect (grown s made) (asked kept.command) t) sp) tells ∙ refused_has (grown s made) (asked kept.command) code labels sp ∙ grown_has s made sp

created_has : (s : State) (space : Space) (indexes : List Index) (sp : Space) → indexes_of (effect s (asks_indexes space indexes) done) sp ≡ (if is_space sp space then with_indexes (indexes_of s space) indexes else indexes_of s sp)
unfolding effect
created_has s space indexes sp = indexes_put (record { space = space; documents = documents_of s space; indexes = with_indexes (indexes_of s space) indexes }) s.collections sp

grown_indexes : (s : State) (made : Made) (space : Space) (indexes : List Index) (sp : Space)
    → (if is_space sp space then with_indexes (indexes_of (grown s made) space) indexes else indexes_of (grown s made) sp) ≡ (if is_space sp space then with_indexes (indexes_of s space) indexes else indexes_of s sp)
unfolding grown
grown_indexes s made space indexes sp = refl

-- behind a command for indexes the collection has them
pub indexes_created : (s : State) (given : ℕ) (started : Bool) (kept : Kept) (space : Space) (indexes : List Index) → asked kept.command ≡ asks_indexes space indexes → fields kept.reply ≡ done_reply
    → (sp : Space) → indexes_of (state_behind s given started kept) sp ≡ (if is_space sp space then with_indexes (indexes_of s space) indexes else indexes_of s sp)
indexes_created s given started kept space indexes asks e sp =
    let made : Made = made_of s given started kept in
    let tells : told_kept kept ≡ done = ap (λ (c : Asked). told c kept.reply) asks ∙ told_reads (asks_indexes space indexes) kept.reply done_reply e ∙ indexed_tells space indexes in
    ap₂ (λ (c : Asked) (t : Told). indexes_of (effect (grown s made) c t) sp) asks tells ∙ created_has (grown s made) space indexes sp ∙ grown_indexes s made space indexes sp

if_none : (b : Bool) (o : Option Collection) → indexes_in (if b then None else o) ≡ (if b then [] else indexes_in o)
if_none true o = refl
if_none false o = refl

dropped_has : (s : State) (space : Space) (sp : Space) → indexes_of (effect s (asks_drop space) done) sp ≡ (if is_space sp space then [] else indexes_of s sp)
unfolding effect
dropped_has s space sp = ap indexes_in (without_is space s.collections sp) ∙ if_none (is_space sp space) (collection_in s.collections sp)

grown_dropped : (s : State) (made : Made) (space : Space) (sp : Space) → (if is_space sp space then [] else indexes_of (grown s made) sp) ≡ (if is_space sp space then [] else indexes_of s sp)
unfolding grown
grown_dropped s made space sp = refl

-- behind a drop the collection has none
pub indexes_dropped : (s : State) (given : ℕ) (started : Bool) (kept : Kept) (space : Space) → asked kept.command ≡ asks_drop space → fields kept.reply ≡ done_reply
    → (sp : Space) → indexes_of (state_behind s given started kept) sp ≡ (if is_space sp space then [] else indexes_of s sp)
indexes_dropped s given started kept space asks e sp =
    let made : Made = made_of s given started kept in
    let tells : told_kept kept ≡ done = ap (λ (c : Asked). told c kept.reply) asks ∙ told_reads (asks_drop space) kept.reply done_reply e ∙ dropped_tells space in
    ap₂ (λ (c : Asked) (t : Told). indexes_of (effect (grown s made) c t) sp) asks tells ∙ dropped_has (grown s made) space sp ∙ grown_dropped s made space sp
