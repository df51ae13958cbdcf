-- The rules of the store refuse no getMore of a cursor of a watch that stands, and no killing in its namespace.
use Rattle.std.proofs.Common.{◌≡◌, ◌≤◌, ℕ, zero, suc, ℤ, pos, Bool, true, false, List, [], ◌∷◌, length, Option, Some, None, Result, Ok, Err, refl, ap, ◌∙◌, subst, arith}
use Rattle.std.specs.Prelude.{if◌then◌else◌, codes}
use Rattle.std.proofs.lemmas.Fmt.{length-decimal-le}
use Rattle.mg_bson.specs.Tree.{Fields, Items, int32, int64, array, no_items, item}
use Rattle.mg_bson.specs.Bytes.{fields_bytes, items_bytes, le32, le64, levels, value_bytes}
use Rattle.mg_bson.specs.Literal.{◌⇒◌⨾◌, empty}
use Rattle.mg_bson.specs.Raw.{fields}
use Rattle.mg_server.specs.Commands.{Asked, asked, asks_kill, asks_more, gave, killed, told}
use Rattle.mg_link.specs.Namespace.{Space, Target, database, collection, cluster}
use Rattle.mg_server.specs.Prompt.{IsRefused}
use Rattle.mg_server.specs.Rules.{Answer, Request, answer, answer_of, answer_with, as_name, bad_request, batch_events, batch_id, batch_place, fitting, is_killed, is_watch_of, kill, kill_request, killed_reply, more, more_reply, more_request, named_space, request_of, same_answer, size_of, some_size, token_of, watch_space, where_ok, without_dot}
use Rattle.mg_server.specs.State.{State, Watch}
use Rattle.mg_server.proofs.Collections.{is_space_self}
use Rattle.mg_server.proofs.Filling.{is_full_batch}
use Rattle.mg_server.proofs.Requests.{asked_is, request_reads}
use Rattle.mg_server.proofs.Telling.{gave_tells, killed_tells, told_reads}
use Rattle.mg_ops.specs.Commands.{kill_command}
use Rattle.mg_ops.specs.Cursors.{Manner, next_command}
use Rattle.mg_jobs.specs.Completing.{HasShortTarget}
use Rattle.mg_jobs.proofs.Added.{AreModestEntries, events_modest}
use Rattle.mg_jobs.proofs.OpeningRead.{FitsSize}
use Rattle.mg_jobs.proofs.OpeningTaken.{short_space, takes}
use Rattle.mg_jobs.proofs.Replying.{fits}
use Rattle.mg_jobs.proofs.Sizes.{IsSmall, field_long, framed_long, item_long, more_small}
use Rattle.mg_jobs.proofs.WatchStands.{StandsFor, more_answer}

-- ---- names

-- the store takes the names of a namespace
pub record TakesSpace (space : Space) : Type 0 where
  pub db : as_name space.db ≡ Some space.db
  pub plain : without_dot space.db ≡ Some space.db
  pub coll : as_name space.coll ≡ Some space.coll

-- so it does those of a watch
pub watch_taken : (on : Target) → HasShortTarget on → TakesSpace (watch_space on)
watch_taken (collection space) short = let t = takes (collection space) short in record { db = t.0; plain = t.1; coll = t.2 }
watch_taken (database db) short = let t = takes (database db) short in record { db = t.0; plain = t.1; coll = refl }
watch_taken cluster short = record { db = refl; plain = refl; coll = refl }

-- ---- a getMore

-- batches are asked for so
abbrev pub sized : Option ℕ → Manner
sized size = record { size = size; wait = None; comment = None }

-- it is read
pub more_reads : (id : ℕ) (space : Space) (size : Option ℕ) → TakesSpace space → FitsSize size → request_of (next_command (pos id) space (sized size)) ≡ Ok (more (pos id) space (some_size size))
unfolding more_request named_space
more_reads id space None t few = rw (t.db, t.plain, t.coll) refl
more_reads id space (Some zero) t few = rw (t.db, t.plain, t.coll) refl
more_reads id space (Some (suc n)) t few = rw (t.db, t.plain, t.coll) refl

module _ (s : State) (given : ℕ) (modest : AreModestEntries s.changes) (on : Target) (short : HasShortTarget on) (x : ℤ) (w : Watch) (aims : w.target ≡ on) (stands : StandsFor s x w) (size : Option ℕ) where
  -- the place behind its batch, and its events
  abbrev pub upto : ℕ
  upto = batch_place w s.changes stands.from (size_of size)

  abbrev pub shown : List Fields
  shown = batch_events w s.changes stands.from upto

  of_watch : is_watch_of (watch_space on) w ≡ true
  of_watch = subst (λ (t : Target). is_watch_of (watch_space t) w ≡ true) aims (is_space_self (watch_space w.target))

  -- the rules' answer to it
  pub more_answered : (fs : Fields) → request_of fs ≡ Ok (more x (watch_space on) size) → answer_of s (pos (suc given)) fs ≡ answer_with [] (more_reply s x (watch_space on) w stands.from (size_of size))
  more_answered fs reads =
      let fit = short_space on short in
      let full = is_full_batch w s.changes stands.from (size_of size) stands.within in
      let small = more_small (batch_id x w s.changes stands.from upto) (watch_space on) shown upto fit.0 fit.1 (events_modest w s.changes stands.from upto modest) full.fits in
      more_answer s x w stands.from stands.stood (pos (suc given)) fs (watch_space on) size reads
      ∙ ap (λ (b : Bool). fitting (if b then Ok (answer_with [] (more_reply s x (watch_space on) w stands.from (size_of size))) else Err bad_request)) of_watch
      ∙ fits (answer_with [] (more_reply s x (watch_space on) w stands.from (size_of size))) small

  -- it is not refused
  pub more_taken : (command reply : List ℕ) → request_of (fields command) ≡ Ok (more x (watch_space on) size) → fields reply ≡ (answer_of s (pos (suc given)) (fields command)).reply → IsRefused (told (asked command) reply) → ⊥
  more_taken command reply reads read refused =
      let tells : told (asked command) reply ≡ gave (batch_id x w s.changes stands.from upto) (watch_space on) shown (Some (token_of upto)) =
      ap (λ (a : Asked). told a reply) (asked_is command (more x (watch_space on) size) reads)
      ∙ told_reads (asks_more x (watch_space on)) reply (more_reply s x (watch_space on) w stands.from (size_of size)) (read ∙ ap (λ (a : Answer). a.reply) (more_answered (fields command) reads))
      ∙ gave_tells x (watch_space on) (batch_id x w s.changes stands.from upto) (watch_space on) shown upto (request_reads (fields command) (more x (watch_space on) size) reads).named.0 in
      subst IsRefused tells refused

-- ---- a killing

-- ids of which a command kills one or none
abbrev pub few_ids : Option ℕ → List ℤ
few_ids None = []
few_ids (Some id) = pos id ∷ []

kill_reads : (space : Space) (o : Option ℕ) → TakesSpace space → request_of (kill_command space (few_ids o)) ≡ Ok (kill (few_ids o))
unfolding kill_request named_space
kill_reads space None t = rw (t.db, t.plain, t.coll) refl
kill_reads space (Some id) t = rw (t.db, t.plain, t.coll) refl

abbrev listed_if : Bool → Bool → ℕ → Items
listed_if wanted b id = if same_answer wanted b then item (int64 (pos id)) no_items else no_items

abbrev killed_by : Bool → ℕ → Fields
killed_by b id = "cursorsKilled" ⇒ array (listed_if true b id) ⨾ "cursorsNotFound" ⇒ array (listed_if false b id) ⨾ "cursorsAlive" ⇒ array no_items ⨾ "cursorsUnknown" ⇒ array no_items ⨾ "ok" ⇒ int32 (pos 1) ⨾ empty

one_long : (id : ℕ) → length (value_bytes (array (item (int64 (pos id)) no_items))) ≤ 40
unfolding le64
one_long id =
    let a = framed_long (items_bytes 0 (item (int64 (pos id)) no_items)) in
    let b = item_long 0 (int64 (pos id)) no_items in
    let c = length-decimal-le 1 0 (omega arith) (omega arith) (omega arith) in
    omega (arith, a, b, c)

none_long : length (value_bytes (array no_items)) ≤ 40
unfolding le32
none_long = omega arith

listed_long : (b wanted : Bool) (id : ℕ) → length (value_bytes (array (listed_if wanted b id))) ≤ 40
listed_long true true id = one_long id
listed_long true false id = none_long
listed_long false true id = none_long
listed_long false false id = one_long id

rest_long : length (fields_bytes ("cursorsAlive" ⇒ array no_items ⨾ "cursorsUnknown" ⇒ array no_items ⨾ "ok" ⇒ int32 (pos 1) ⨾ empty)) ≤ 200
unfolding le32
rest_long = omega arith

listed_levels : (b : Bool) (id : ℕ) → levels (killed_by b id) ≤ 100
listed_levels true id = omega arith
listed_levels false id = omega arith

small_by : (b : Bool) (id : ℕ) → IsSmall (killed_by b id)
small_by b id =
    let rest : Fields = "cursorsAlive" ⇒ array no_items ⨾ "cursorsUnknown" ⇒ array no_items ⨾ "ok" ⇒ int32 (pos 1) ⨾ empty in
    let later : Fields = "cursorsNotFound" ⇒ array (listed_if false b id) ⨾ rest in
    let a = framed_long (fields_bytes (killed_by b id)) in
    let c = field_long (codes "cursorsKilled") (array (listed_if true b id)) later in
    let d = field_long (codes "cursorsNotFound") (array (listed_if false b id)) rest in
    let e = listed_long b true id in
    let f = listed_long b false id in
    let g = rest_long in
    (omega (arith, a, c, d, e, f, g), listed_levels b id)

killed_small : (s : State) (o : Option ℕ) → IsSmall (killed_reply s (few_ids o))
unfolding le32
killed_small s None = (omega arith, omega arith)
killed_small s (Some id) = small_by (is_killed s [] (pos id)) id

-- the rules' answer to it
pub kill_answered : (s : State) (given : ℕ) (fs : Fields) (space : Space) (o : Option ℕ) → TakesSpace space → fs ≡ kill_command space (few_ids o) → answer_of s (pos (suc given)) fs ≡ answer_with [] (killed_reply s (few_ids o))
unfolding answer_of
kill_answered s given fs space o t is =
    ap (λ (r : Result Request ℤ). fitting (where_ok (answer s (pos (suc given))) r)) (ap request_of is ∙ kill_reads space o t) ∙ fits (answer_with [] (killed_reply s (few_ids o))) (killed_small s o)

-- it is not refused
pub kill_taken : (s : State) (given : ℕ) (command reply : List ℕ) (space : Space) (o : Option ℕ) → TakesSpace space → fields command ≡ kill_command space (few_ids o) → fields reply ≡ (answer_of s (pos (suc given)) (fields command)).reply → IsRefused (told (asked command) reply) → ⊥
kill_taken s given command reply space o t is read refused =
    let reads : request_of (fields command) ≡ Ok (kill (few_ids o)) = ap request_of is ∙ kill_reads space o t in
    let tells : told (asked command) reply ≡ killed =
    ap (λ (c : Asked). told c reply) (asked_is command (kill (few_ids o)) reads)
    ∙ told_reads (asks_kill (few_ids o)) reply (killed_reply s (few_ids o)) (read ∙ ap (λ (x : Answer). x.reply) (kill_answered s given (fields command) space o t is))
    ∙ killed_tells s (few_ids o) in
    subst IsRefused tells refused
