-- The rules of the store do not refuse an aggregate that opens a watch, where no entry ended a watch.
use Rattle.std.proofs.Common.{◌≡◌, ◌≤◌, ◌<◌, ◌^◌, ℕ, zero, suc, ℤ, pos, Bool, true, false, List, [], ◌∷◌, length, Option, Some, None, Result, Ok, Err, refl, ap, ◌∙◌, subst, arith}
use Rattle.std.specs.Prelude.{if◌then◌else◌, ◌&&◌, slice_get}
use Rattle.std.proofs.lemmas.Bool.{lt-ltb}
use Rattle.mg_bson.specs.Tree.{Tree, Fields}
use Rattle.mg_bson.specs.Raw.{fields}
use Rattle.mg_server.specs.Commands.{Asked, asked, asks_watch, filter_stages, opened, told}
use Rattle.mg_server.specs.Filter.{Condition}
use Rattle.mg_link.specs.Namespace.{Target, database, collection, cluster}
use Rattle.mg_server.specs.Prompt.{IsRefused}
use Rattle.mg_server.specs.Rules.{Answer, Request, where_ok, answer, answer_of, answer_with, batch_events, batch_id, batch_place, ended_before, ends_with, fitting, map_ok, max_name, no_such_token, place_after, place_at, request_of, size_of, token_of, token_place, watch, watch_reply, watch_space, now_of}
use Rattle.mg_server.specs.State.{Entry, Start, State, Watch, is_invalidate, sees}
use Rattle.mg_server.specs.State as state
use Rattle.mg_server.proofs.Allowed.{place_fits}
use Rattle.mg_server.proofs.Filling.{is_full_batch}
use Rattle.mg_server.proofs.Requests.{request_reads, asked_is}
use Rattle.mg_server.proofs.Telling.{opened_tells, told_reads}
use Rattle.mg_ops.specs.Bodies.{watch_command}
use Rattle.mg_ops.specs.Limits.{SizePasses}
use Rattle.mg_jobs.proofs.Sizes.{watch_small}
use Rattle.mg_jobs.proofs.Added.{AreModestEntries, events_modest}
use Rattle.mg_jobs.specs.Completing.{HasShortTarget, IsThere}
use Rattle.mg_players.specs.Follows.{options_of, stages_of, start_of}
use Rattle.mg_script.specs.Plan.{Begin, at_time, nowhere, resume_after, start_after}
use Rattle.mg_jobs.proofs.OpeningRead.{FitsSize, Takes, is_resumed, reads_watch}
use Rattle.mg_jobs.proofs.Replying.{collection_there, database_there, fits, named, undotted}

-- ---- names and sizes

pub takes : (on : Target) → HasShortTarget on → Takes on
takes (collection space) short =
    let db = database_there space.db short.named.db in
    let coll = collection_there space.coll short.named.coll in
    (named space.db db.0 short.db_fits, undotted space.db db.1, named space.coll coll short.coll_fits, short.named.coll)
takes (database db) short = let there = database_there db short.0 in (named db there.0 short.1, undotted db there.1)
takes cluster short = tt

pub short_space : (on : Target) → HasShortTarget on → (length (watch_space on).db ≤ max_name) × (length (watch_space on).coll ≤ max_name)
short_space (collection space) short = (short.db_fits, short.coll_fits)
short_space (database db) short = (short.1, omega arith)
short_space cluster short = (omega arith, omega arith)

pub fits_size : (batch : Option ℕ) → (SizePasses batch → ⊥) → FitsSize batch
fits_size None small = tt
fits_size (Some n) small = lt-ltb n (2 ^ 31) (below n small)
  where
    below : (n : ℕ) → (2 ^ 31 ≤ n → ⊥) → n < 2 ^ 31
    below n not = omega (arith, not)

-- ---- where it begins

going_at : (changes : List Entry) (n : ℕ) (e : Entry) → AreModestEntries changes → slice_get changes n ≡ Some e → is_invalidate e.change ≡ false
going_at [] n e a at = absurd cc
going_at (f ∷ changes) zero e a at = let same : f ≡ e = cc in subst (λ (x : Entry). is_invalidate x.change ≡ false) same a.0.1
going_at (f ∷ changes) (suc n) e a at = going_at changes n e a.1 at

and_none : (b : Bool) → (b && false) ≡ false
and_none true = refl
and_none false = refl

ends_not : (w : Watch) (o : Option Entry) → ((e : Entry) → o ≡ Some e → is_invalidate e.change ≡ false) → ends_with w o ≡ false
ends_not w None each = refl
ends_not w (Some e) each = ap (λ (b : Bool). sees w e && b) (each e refl) ∙ and_none (sees w e)

never_ended : (w : Watch) (changes : List Entry) (place : ℕ) → AreModestEntries changes → ended_before w changes place ≡ false
never_ended w changes zero a = refl
never_ended w changes (suc n) a = ends_not w (slice_get changes n) (λ e is. going_at changes n e a is)

unresumed : (b : Bool) (w : Watch) (changes : List Entry) (place : ℕ) → AreModestEntries changes → place_after w changes b (Some place) ≡ Ok place
unresumed b w changes place a = ap (λ (c : Bool). if c then Err no_such_token else Ok place) (ap (λ (c : Bool). b && c) (never_ended w changes place a) ∙ and_none b)

module _ (s : State) (given : ℕ) (modest : AreModestEntries s.changes) (w : Watch) where
  behind : (b : Bool) (token : Tree) (place : ℕ) → token_place (length s.changes) token ≡ Some place → place_at s w (state.after token) b ≡ Ok place
  behind b token place is = ap (place_after w s.changes b) is ∙ unresumed b w s.changes place modest

  pub begins : (start : Begin) → IsThere s (start_of start) → (from : ℕ) × (place_at s w (start_of start) (is_resumed start) ≡ Ok from)
  begins nowhere there = (length s.changes, refl)
  begins (resume_after token) there = (there.0, behind true token there.0 there.1)
  begins (start_after token) there = (there.0, behind false token there.0 there.1)
  begins (at_time seconds increment) there = (state.count_before (state.time_of seconds increment) s.changes, refl)

  -- ---- its reply

  abbrev reply_from : ℕ → ℕ → Fields
  reply_from from size = watch_reply s (pos (suc given)) w from size

  pub answered : (fs : Fields) (start : Start) (resumes : Bool) (size : Option ℕ) (from : ℕ) → length (watch_space w.target).db ≤ max_name → length (watch_space w.target).coll ≤ max_name → request_of fs ≡ Ok (watch w start resumes size) → place_at s w start resumes ≡ Ok from
      → answer_of s (pos (suc given)) fs ≡ answer_with [] (reply_from from (size_of size))
  unfolding answer_of
  answered fs start resumes size from db coll reads at =
      let place = batch_place w s.changes from (size_of size) in
      let full = is_full_batch w s.changes from (size_of size) (place_fits s w start resumes from at) in
      let small = watch_small (batch_id (pos (suc given)) w s.changes from place) (watch_space w.target) (batch_events w s.changes from place) place (length s.changes) db coll (events_modest w s.changes from place modest) full.fits in
      ap (λ (r : Result Request ℤ). fitting (where_ok (answer s (pos (suc given))) r)) reads
      ∙ ap (λ (r : Result ℕ ℤ). fitting (map_ok (λ (p : ℕ). answer_with [] (reply_from p (size_of size))) r)) at
      ∙ fits (answer_with [] (reply_from from (size_of size))) small

-- It is not refused.
pub opening_taken : (s : State) (given : ℕ) → AreModestEntries s.changes → (command reply : List ℕ) (on : Target) (start : Begin) (filter : Option Fields) (batch : Option ℕ) (conditions : List Condition)
    → HasShortTarget on → FitsSize batch → filter_stages (stages_of filter) ≡ Some conditions → IsThere s (start_of start) → fields command ≡ watch_command on (stages_of filter) (options_of on start batch) → fields reply ≡ (answer_of s (pos (suc given)) (fields command)).reply
    → IsRefused (told (asked command) reply) → ⊥
opening_taken s given modest command reply on start filter batch conditions short size by there is read refused =
    let w : Watch = record { target = on; filter = conditions } in
    let reads : request_of (fields command) ≡ Ok (watch w (start_of start) (is_resumed start) batch) = ap request_of is ∙ reads_watch on start filter batch conditions (takes on short) size by in
    let from = begins s given modest w start there in
    let fit = short_space on short in
    let place = batch_place w s.changes from.0 (size_of batch) in
    let answer_is = answered s given modest w (fields command) (start_of start) (is_resumed start) batch from.0 fit.0 fit.1 reads from.1 in
    let tells : told (asked command) reply ≡ opened (batch_id (pos (suc given)) w s.changes from.0 place) (watch_space on) (batch_events w s.changes from.0 place) (Some (token_of place)) (Some (now_of (length s.changes))) =
    ap (λ (a : Asked). told a reply) (asked_is command (watch w (start_of start) (is_resumed start) batch) reads)
    ∙ told_reads (asks_watch w (start_of start)) reply (watch_reply s (pos (suc given)) w from.0 (size_of batch)) (read ∙ ap (λ (a : Answer). a.reply) answer_is)
    ∙ opened_tells w (start_of start) (batch_id (pos (suc given)) w s.changes from.0 place) (watch_space on) (batch_events w s.changes from.0 place) place (length s.changes) (request_reads (fields command) (watch w (start_of start) (is_resumed start) batch) reads).named in
    subst IsRefused tells refused
