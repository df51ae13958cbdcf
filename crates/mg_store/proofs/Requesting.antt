-- From what the code reads of a command to the request of the rules.
use Rattle.std.proofs.Common.{◌≡◌, ℕ, ℤ, List, [], ◌∷◌, map, Option, Bool, Result, Ok, Err, refl, ap, ◌∙◌, subst}
use Rattle.std.specs.Prelude.{false}
use Rattle.mg_bson.specs.Tree.{Fields}
use Rattle.mg_bson.specs.Raw.{fields}
use Rattle.mg_link.specs.Namespace.{Space, Target}
use Rattle.mg_server.specs.State.{Watch, State, Start, Index}
use Rattle.mg_server.specs.Commands.{query_by, KeepsId}
use Rattle.mg_server.specs.Query.{Query, Source, Stage, of_collection, of_indexes}
use Rattle.mg_server.specs.Rules as rules
use Rattle.mg_server.specs.Rules.{map_ok, request_of}
use Rattle.mg_query.specs.Asking.{Keyed, keyed}
use Rattle.mg_query.specs.Querying.{Doing, doing}
use Rattle.mg_query.specs.Wanted.{Wanted, StopsBy, create_collection, create_indexes, drop_collection, insert, kill, more, wanted, watch, find, update, delete}
use Rattle.mg_query.specs.declared.refusal.Stop.{Stop}
use Rattle.mg_query.specs.declared.refusal.Stop.TheVariants as stops
use Rattle.mg_store.specs.Contents.{AnswersOr, Settles}
use Rattle.mg_store.specs.declared.perform.Answer.{Answer}
use Rattle.mg_store.proofs.Settling.{answers_or, answers_unread}
use Rattle.mg_server.specs.Filter.{Condition}
use Rattle.mg_server.specs.Write.{Modification}
use Rattle.mg_server.proofs.Requests.{request_reads}

-- a request that is wanted so
pub record Read (x : Result rules.Request ℤ) (w : Wanted) : Type 0 where
  pub request : rules.Request
  pub is : x ≡ Ok request
  pub wants : wanted request ≡ w

abbrev pub read : (x : Result rules.Request ℤ) (w : Wanted) → map_ok wanted x ≡ Ok w → Read x w
read (Ok r) w e = record { request = r; is = refl; wants = cc }
read (Err code) w e = absurd cc

insert_is : (r : rules.Request) (sp : Space) (ds : List Fields) (ordered : Bool) → wanted r ≡ insert sp ds ordered → r ≡ rules.insert sp ds ordered
insert_is (rules.insert a b c) sp ds ordered e = cc
insert_is (rules.find q) sp ds ordered e = cc
insert_is (rules.watch a b c d) sp ds ordered e = cc
insert_is (rules.more a b c) sp ds ordered e = cc
insert_is (rules.kill a) sp ds ordered e = cc
insert_is (rules.create_collection a) sp ds ordered e = cc
insert_is (rules.create_indexes a b) sp ds ordered e = cc
insert_is (rules.drop_collection a) sp ds ordered e = cc
insert_is (rules.update a b c d) sp ds ordered e = cc
insert_is (rules.delete a b c) sp ds ordered e = cc

more_is : (r : rules.Request) (id : ℤ) (sp : Space) (size : Option ℕ) → wanted r ≡ more id sp size → r ≡ rules.more id sp size
more_is (rules.insert a b c) id sp size e = cc
more_is (rules.find q) id sp size e = cc
more_is (rules.watch a b c d) id sp size e = cc
more_is (rules.more a b c) id sp size e = cc
more_is (rules.kill a) id sp size e = cc
more_is (rules.create_collection a) id sp size e = cc
more_is (rules.create_indexes a b) id sp size e = cc
more_is (rules.drop_collection a) id sp size e = cc
more_is (rules.update a b c d) id sp size e = cc
more_is (rules.delete a b c) id sp size e = cc

kill_is : (r : rules.Request) (ids : List ℤ) → wanted r ≡ kill ids → r ≡ rules.kill ids
kill_is (rules.insert a b c) ids e = cc
kill_is (rules.find q) ids e = cc
kill_is (rules.watch a b c d) ids e = cc
kill_is (rules.more a b c) ids e = cc
kill_is (rules.kill a) ids e = cc
kill_is (rules.create_collection a) ids e = cc
kill_is (rules.create_indexes a b) ids e = cc
kill_is (rules.drop_collection a) ids e = cc
kill_is (rules.update a b c d) ids e = cc
kill_is (rules.delete a b c) ids e = cc

create_is : (r : rules.Request) (sp : Space) → wanted r ≡ create_collection sp → r ≡ rules.create_collection sp
create_is (rules.insert a b c) sp e = cc
create_is (rules.find q) sp e = cc
create_is (rules.watch a b c d) sp e = cc
create_is (rules.more a b c) sp e = cc
create_is (rules.kill a) sp e = cc
create_is (rules.create_collection a) sp e = cc
create_is (rules.create_indexes a b) sp e = cc
create_is (rules.drop_collection a) sp e = cc
create_is (rules.update a b c d) sp e = cc
create_is (rules.delete a b c) sp e = cc

indexes_is : (r : rules.Request) (sp : Space) (indexes : List Index) → wanted r ≡ create_indexes sp indexes → r ≡ rules.create_indexes sp indexes
indexes_is (rules.insert a b c) sp indexes e = cc
indexes_is (rules.find q) sp indexes e = cc
indexes_is (rules.watch a b c d) sp indexes e = cc
indexes_is (rules.more a b c) sp indexes e = cc
indexes_is (rules.kill a) sp indexes e = cc
indexes_is (rules.create_collection a) sp indexes e = cc
indexes_is (rules.create_indexes a b) sp indexes e = cc
indexes_is (rules.drop_collection a) sp indexes e = cc
indexes_is (rules.update a b c d) sp indexes e = cc
indexes_is (rules.delete a b c) sp indexes e = cc

drop_is : (r : rules.Request) (sp : Space) → wanted r ≡ drop_collection sp → r ≡ rules.drop_collection sp
drop_is (rules.insert a b c) sp e = cc
drop_is (rules.find q) sp e = cc
drop_is (rules.watch a b c d) sp e = cc
drop_is (rules.more a b c) sp e = cc
drop_is (rules.kill a) sp e = cc
drop_is (rules.create_collection a) sp e = cc
drop_is (rules.create_indexes a b) sp e = cc
drop_is (rules.drop_collection a) sp e = cc
drop_is (rules.update a b c d) sp e = cc
drop_is (rules.delete a b c) sp e = cc

pub record IsWatched (r : rules.Request) (target : Target) (keys : List Keyed) (start : Start) (resumes : Bool) (size : Option ℕ) : Type 0 where
  pub watch : Watch
  pub is : r ≡ rules.watch watch start resumes size
  pub target_is : watch.target ≡ target
  pub keys_are : keys ≡ map keyed watch.filter

abbrev pub watch_is : (r : rules.Request) (target : Target) (keys : List Keyed) (start : Start) (resumes : Bool) (size : Option ℕ) → wanted r ≡ watch target keys start resumes size → IsWatched r target keys start resumes size
watch_is (rules.watch w b c d) target keys start resumes size e = record { watch = w; is = cc; target_is = cc; keys_are = cc }
watch_is (rules.insert a b c) target keys start resumes size e = absurd cc
watch_is (rules.find q) target keys start resumes size e = absurd cc
watch_is (rules.more a b c) target keys start resumes size e = absurd cc
watch_is (rules.kill a) target keys start resumes size e = absurd cc
watch_is (rules.create_collection a) target keys start resumes size e = absurd cc
watch_is (rules.create_indexes a b) target keys start resumes size e = absurd cc
watch_is (rules.drop_collection a) target keys start resumes size e = absurd cc
watch_is (rules.update a b c d) target keys start resumes size e = absurd cc
watch_is (rules.delete a b c) target keys start resumes size e = absurd cc

pub found_by_stages : (q : Query) (source : Source) (single : Bool) (size : Option ℕ) → source ≡ q.source → single ≡ q.single → size ≡ q.size → rules.find q ≡ rules.find (query_by source single q.stages size)
found_by_stages q source single size a b c = ap rules.find (rw (a, b, c) refl)

pub record IsFound (r : rules.Request) (source : Source) (steps : List Doing) (single : Bool) (size : Option ℕ) : Type 0 where
  pub stages : List Stage
  pub is : r ≡ rules.find (query_by source single stages size)
  pub steps_are : steps ≡ map doing stages

abbrev pub find_is : (r : rules.Request) (source : Source) (steps : List Doing) (single : Bool) (size : Option ℕ) → wanted r ≡ find source steps single size → IsFound r source steps single size
find_is (rules.find q) source steps single size e =
    let a : source ≡ q.source = cc in
    let b : single ≡ q.single = cc in
    let c : size ≡ q.size = cc in
    record { stages = q.stages; is = found_by_stages q source single size a b c; steps_are = cc }
find_is (rules.insert a b c) source steps single size e = absurd cc
find_is (rules.watch a b c d) source steps single size e = absurd cc
find_is (rules.more a b c) source steps single size e = absurd cc
find_is (rules.kill a) source steps single size e = absurd cc
find_is (rules.create_collection a) source steps single size e = absurd cc
find_is (rules.create_indexes a b) source steps single size e = absurd cc
find_is (rules.drop_collection a) source steps single size e = absurd cc
find_is (rules.update a b c d) source steps single size e = absurd cc
find_is (rules.delete a b c) source steps single size e = absurd cc

pub record IsUpdated (r : rules.Request) (sp : Space) (keys : List Keyed) (m : Modification) (many : Bool) : Type 0 where
  pub conditions : List Condition
  pub is : r ≡ rules.update sp conditions m many
  pub keys_are : keys ≡ map keyed conditions

abbrev pub update_is : (r : rules.Request) (sp : Space) (keys : List Keyed) (m : Modification) (many : Bool) → wanted r ≡ update sp keys m many → IsUpdated r sp keys m many
update_is (rules.update a cs c d) sp keys m many e = record { conditions = cs; is = cc; keys_are = cc }
update_is (rules.insert a b c) sp keys m many e = absurd cc
update_is (rules.find q) sp keys m many e = absurd cc
update_is (rules.watch a b c d) sp keys m many e = absurd cc
update_is (rules.more a b c) sp keys m many e = absurd cc
update_is (rules.kill a) sp keys m many e = absurd cc
update_is (rules.create_collection a) sp keys m many e = absurd cc
update_is (rules.create_indexes a b) sp keys m many e = absurd cc
update_is (rules.drop_collection a) sp keys m many e = absurd cc
update_is (rules.delete a b c) sp keys m many e = absurd cc

pub record IsDeleted (r : rules.Request) (sp : Space) (keys : List Keyed) (many : Bool) : Type 0 where
  pub conditions : List Condition
  pub is : r ≡ rules.delete sp conditions many
  pub keys_are : keys ≡ map keyed conditions

abbrev pub delete_is : (r : rules.Request) (sp : Space) (keys : List Keyed) (many : Bool) → wanted r ≡ delete sp keys many → IsDeleted r sp keys many
delete_is (rules.delete a cs c) sp keys many e = record { conditions = cs; is = cc; keys_are = cc }
delete_is (rules.insert a b c) sp keys many e = absurd cc
delete_is (rules.find q) sp keys many e = absurd cc
delete_is (rules.watch a b c d) sp keys many e = absurd cc
delete_is (rules.more a b c) sp keys many e = absurd cc
delete_is (rules.kill a) sp keys many e = absurd cc
delete_is (rules.create_collection a) sp keys many e = absurd cc
delete_is (rules.create_indexes a b) sp keys many e = absurd cc
delete_is (rules.drop_collection a) sp keys many e = absurd cc
delete_is (rules.update a b c d) sp keys many e = absurd cc

-- ---- the answers

pub insert_answers : (s : State) (given : ℕ) (command : List ℕ) (sp at : Space) (ds : List Fields) (ordered : Bool) (result : Result Answer Stop) → map_ok wanted (request_of (fields command)) ≡ Ok (insert sp ds ordered) → at ≡ sp
    → Settles s given (rules.insert at ds ordered) result → AnswersOr s given command result
insert_answers s given command sp at ds ordered result e same h =
    let r = read (request_of (fields command)) (insert sp ds ordered) e in
    answers_or s given command (rules.insert sp ds ordered) result (r.is ∙ ap (λ (x : rules.Request). Ok x) (insert_is r.request sp ds ordered r.wants)) (subst (λ (x : Space). Settles s given (rules.insert x ds ordered) result) same h)

pub find_answers : (s : State) (given : ℕ) (command : List ℕ) (sp at : Space) (steps : List Doing) (single : Bool) (size : Option ℕ) (result : Result Answer Stop) → map_ok wanted (request_of (fields command)) ≡ Ok (find (of_collection sp) steps single size) → at ≡ sp
    → ((stages : List Stage) → steps ≡ map doing stages → Settles s given (rules.find (query_by (of_collection at) single stages size)) result) → AnswersOr s given command result
find_answers s given command sp at steps single size result e same h =
    let r = read (request_of (fields command)) (find (of_collection sp) steps single size) e in
    let f = find_is r.request (of_collection sp) steps single size r.wants in
    answers_or s given command (rules.find (query_by (of_collection sp) single f.stages size)) result (r.is ∙ ap (λ (x : rules.Request). Ok x) f.is)
    (subst (λ (x : Space). Settles s given (rules.find (query_by (of_collection x) single f.stages size)) result) same (h f.stages f.steps_are))

pub more_answers : (s : State) (given : ℕ) (command : List ℕ) (id : ℤ) (sp at : Space) (size : Option ℕ) (result : Result Answer Stop) → map_ok wanted (request_of (fields command)) ≡ Ok (more id sp size) → at ≡ sp
    → Settles s given (rules.more id at size) result → AnswersOr s given command result
more_answers s given command id sp at size result e same h =
    let r = read (request_of (fields command)) (more id sp size) e in
    answers_or s given command (rules.more id sp size) result (r.is ∙ ap (λ (x : rules.Request). Ok x) (more_is r.request id sp size r.wants)) (subst (λ (x : Space). Settles s given (rules.more id x size) result) same h)

pub kill_answers : (s : State) (given : ℕ) (command : List ℕ) (ids : List ℤ) (result : Result Answer Stop) → map_ok wanted (request_of (fields command)) ≡ Ok (kill ids) → Settles s given (rules.kill ids) result → AnswersOr s given command result
kill_answers s given command ids result e h =
    let r = read (request_of (fields command)) (kill ids) e in
    answers_or s given command (rules.kill ids) result (r.is ∙ ap (λ (x : rules.Request). Ok x) (kill_is r.request ids r.wants)) h

pub create_answers : (s : State) (given : ℕ) (command : List ℕ) (sp at : Space) (result : Result Answer Stop) → map_ok wanted (request_of (fields command)) ≡ Ok (create_collection sp) → at ≡ sp → Settles s given (rules.create_collection at) result → AnswersOr s given command result
create_answers s given command sp at result e same h =
    let r = read (request_of (fields command)) (create_collection sp) e in
    answers_or s given command (rules.create_collection sp) result (r.is ∙ ap (λ (x : rules.Request). Ok x) (create_is r.request sp r.wants)) (subst (λ (x : Space). Settles s given (rules.create_collection x) result) same h)

pub indexes_answer : (s : State) (given : ℕ) (command : List ℕ) (sp at : Space) (indexes : List Index) (result : Result Answer Stop) → map_ok wanted (request_of (fields command)) ≡ Ok (create_indexes sp indexes) → at ≡ sp
    → Settles s given (rules.create_indexes at indexes) result → AnswersOr s given command result
indexes_answer s given command sp at indexes result e same h =
    let r = read (request_of (fields command)) (create_indexes sp indexes) e in
    answers_or s given command (rules.create_indexes sp indexes) result (r.is ∙ ap (λ (x : rules.Request). Ok x) (indexes_is r.request sp indexes r.wants)) (subst (λ (x : Space). Settles s given (rules.create_indexes x indexes) result) same h)

pub drop_answers : (s : State) (given : ℕ) (command : List ℕ) (sp at : Space) (result : Result Answer Stop) → map_ok wanted (request_of (fields command)) ≡ Ok (drop_collection sp) → at ≡ sp → Settles s given (rules.drop_collection at) result → AnswersOr s given command result
drop_answers s given command sp at result e same h =
    let r = read (request_of (fields command)) (drop_collection sp) e in
    answers_or s given command (rules.drop_collection sp) result (r.is ∙ ap (λ (x : rules.Request). Ok x) (drop_is r.request sp r.wants)) (subst (λ (x : Space). Settles s given (rules.drop_collection x) result) same h)

-- a list is a query of any source
pub list_answers : (s : State) (given : ℕ) (command : List ℕ) (source : Source) (steps : List Doing) (single : Bool) (size : Option ℕ) (result : Result Answer Stop) → map_ok wanted (request_of (fields command)) ≡ Ok (find source steps single size)
    → ((stages : List Stage) → steps ≡ map doing stages → Settles s given (rules.find (query_by source single stages size)) result) → AnswersOr s given command result
list_answers s given command source steps single size result e h =
    let r = read (request_of (fields command)) (find source steps single size) e in
    let f = find_is r.request source steps single size r.wants in
    answers_or s given command (rules.find (query_by source single f.stages size)) result (r.is ∙ ap (λ (x : rules.Request). Ok x) f.is) (h f.stages f.steps_are)

no_stages : (stages : List Stage) → [] ≡ map doing stages → [] ≡ stages
no_stages [] e = refl
no_stages (x ∷ xs) e = absurd cc

pub indexes_list_answers : (s : State) (given : ℕ) (command : List ℕ) (sp at : Space) (size : Option ℕ) (result : Result Answer Stop) → map_ok wanted (request_of (fields command)) ≡ Ok (find (of_indexes sp) [] false size) → at ≡ sp
    → Settles s given (rules.find (query_by (of_indexes at) false [] size)) result → AnswersOr s given command result
indexes_list_answers s given command sp at size result e same h =
    list_answers s given command (of_indexes sp) [] false size result e
    (λ stages none. subst (λ (l : List Stage). Settles s given (rules.find (query_by (of_indexes sp) false l size)) result) (no_stages stages none) (subst (λ (x : Space). Settles s given (rules.find (query_by (of_indexes x) false [] size)) result) same h))

pub watch_answers : (s : State) (given : ℕ) (command : List ℕ) (target : Target) (keys : List Keyed) (start : Start) (resumes : Bool) (size : Option ℕ) (result : Result Answer Stop) → map_ok wanted (request_of (fields command)) ≡ Ok (watch target keys start resumes size)
    → ((w : Watch) → w.target ≡ target → keys ≡ map keyed w.filter → Settles s given (rules.watch w start resumes size) result) → AnswersOr s given command result
watch_answers s given command target keys start resumes size result e h =
    let r = read (request_of (fields command)) (watch target keys start resumes size) e in
    let w = watch_is r.request target keys start resumes size r.wants in
    answers_or s given command (rules.watch w.watch start resumes size) result (r.is ∙ ap (λ (x : rules.Request). Ok x) w.is) (h w.watch w.target_is w.keys_are)

-- an update by the rules sets no `_id`
pub update_answers : (s : State) (given : ℕ) (command : List ℕ) (sp at : Space) (keys : List Keyed) (m : Modification) (many : Bool) (result : Result Answer Stop) → map_ok wanted (request_of (fields command)) ≡ Ok (update sp keys m many) → at ≡ sp
    → ((conditions : List Condition) → keys ≡ map keyed conditions → KeepsId m → Settles s given (rules.update at conditions m many) result) → AnswersOr s given command result
update_answers s given command sp at keys m many result e same h =
    let r = read (request_of (fields command)) (update sp keys m many) e in
    let u = update_is r.request sp keys m many r.wants in
    let asks : request_of (fields command) ≡ Ok (rules.update sp u.conditions m many) = r.is ∙ ap (λ (x : rules.Request). Ok x) u.is in
    answers_or s given command (rules.update sp u.conditions m many) result asks
    (subst (λ (x : Space). Settles s given (rules.update x u.conditions m many) result) same (h u.conditions u.keys_are (request_reads (fields command) (rules.update sp u.conditions m many) asks).named.1))

pub delete_answers : (s : State) (given : ℕ) (command : List ℕ) (sp at : Space) (keys : List Keyed) (many : Bool) (result : Result Answer Stop) → map_ok wanted (request_of (fields command)) ≡ Ok (delete sp keys many) → at ≡ sp
    → ((conditions : List Condition) → keys ≡ map keyed conditions → Settles s given (rules.delete at conditions many) result) → AnswersOr s given command result
delete_answers s given command sp at keys many result e same h =
    let r = read (request_of (fields command)) (delete sp keys many) e in
    let d = delete_is r.request sp keys many r.wants in
    answers_or s given command (rules.delete sp d.conditions many) result (r.is ∙ ap (λ (x : rules.Request). Ok x) d.is)
    (subst (λ (x : Space). Settles s given (rules.delete x d.conditions many) result) same (h d.conditions d.keys_are))

pub stops_answer : (s : State) (given : ℕ) (command : List ℕ) (stop : Stop) → StopsBy stop (request_of (fields command)) → AnswersOr s given command (Err stop)
stops_answer s given command stops.Memory h = tt
stops_answer s given command (stops.Refused refusal) h = answers_unread s given command refusal h
