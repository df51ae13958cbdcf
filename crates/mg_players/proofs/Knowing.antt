-- What the jobs of a run know goes on to hold, turn by turn.
use Rattle.std.proofs.Common.{◌≡◌, ◌⊎◌, ℕ, zero, suc, ℤ, pos, List, [], ◌∷◌, ◌++◌, Option, Some, None, refl, sym, ap, ◌∙◌, subst, inl, inr, length, map, arith, append_assoc, length-append, ◌+◌, take}
use Rattle.std.specs.Prelude.{Vec, cond, nat_eq, slice_get, slice_set, string_bytes}
use Rattle.std.specs.declared.alloc.Global.{Global}
use Rattle.mg_link.specs.Link.{Awaited, LogTold}
use Rattle.mg_link.specs.Log.{Call}
use Rattle.mg_server.specs.Owner.{Owner, Holds, Onward, Passes, nobody, PassesPlain}
use Rattle.mg_server.proofs.Apart.{holds_nobody, passes_same, onward_refl}
use Rattle.mg_server.proofs.Runs.{OwnsNothing, apart_after, apart_at_first, others_onward}
use Rattle.mg_bson.specs.Tree.{Fields}
use Rattle.mg_bson.specs.View.{tree}
use Rattle.mg_link.specs.Namespace.{Space, Target, space, target}
use Rattle.mg_server.specs.State.{Start, Watch}
use Rattle.mg_server.proofs.Answering.{knows_new}
use Rattle.mg_change.specs.Following.{not_open}
use Rattle.mg_script.specs.Plan as plan
use Rattle.mg_script.specs.Plan.{Begin, Task, begin, pieces, task, tasks}
use Rattle.mg_script.specs.declared.script.Job.{Job}
use Rattle.mg_players.specs.Follows.{FollowKnows, FollowTurns, FollowsNothing, HasNothing, IsUnfinished, IsUnwatched, IsWatched, Placing, filter_in}
use Rattle.mg_players.specs.Playing.{IsPlainInsert, IsPlainJob, IsSameFollow, job_ticket}
use Rattle.mg_players.specs.Headline.{AllKnow, AreFirst, DoTasks, Does, IsFirst, IsSameTask, Knowing, Made, OutcomeOf, OutcomesOf, Plays, PlaysAt, Took, Turns, FollowPlays, InsertPlays, insert_task, written_task}
use Rattle.mg_players.specs.Plays as words
use Rattle.mg_players.specs.Plays.{Moves, by_placing, no_move}
use Rattle.mg_players.specs.declared.follow.FollowPlayer.{FollowPlayer}
use Rattle.mg_players.specs.declared.follow.Stage.{Stage}
use Rattle.mg_players.specs.declared.follow.Stage.TheVariants as stage
use Rattle.mg_players.specs.Runs.{MayAllGo, Goes}
use Rattle.mg_players.specs.declared.player.Player.{Player}
use Rattle.mg_players.specs.declared.player.Player.TheVariants as player
use Rattle.mg_server.proofs.Owners.{same_some}
use Rattle.mg_link.proofs.Places.{get_past_other, get_set_other, get_set_same}
use Rattle.mg_players.proofs.Apart.{stays, which}
use Rattle.std.proofs.lemmas.Bool.{cases_eq, eq-eqb, ne_eqb}
use Rattle.std.proofs.lemmas.List.{length-map}
use Rattle.mg_players.proofs.GetKnowing.{get_first, get_same, holds_get}
use Rattle.mg_players.proofs.PutKnowing.{holds_put, kept_put, same_put}
use Rattle.mg_players.specs.Puts.{PutKnows, Supply}
use Rattle.mg_players.specs.declared.put.PutPlayer.{PutPlayer}
use Rattle.mg_players.specs.declared.put.PutStage.{PutStage}
use Rattle.mg_players.specs.declared.put.Written.{Written}
use Rattle.mg_players.proofs.Turning.{SameParts, kept_follow, parts_knows, same_follow, unfinished_not_given}
use Rattle.mg_players.proofs.Vainly.{kept_vain, same_vain, vain_parts}
use Rattle.mg_players.proofs.Watched.{watch_or_nothing}
use Rattle.mg_script.specs.declared.outcome.Outcome.{Outcome}
use Rattle.mg_players.specs.declared.insert.InsertPlayer.{InsertPlayer}

pub same_player : (old new : Awaited) (calls : List Call) (p : Player) (o : Owner) (at : Option ℕ) → ((m : ℕ) → job_ticket p ≡ Some m → new m ≡ old m) → Plays old calls p o at → Plays new calls p o at
same_player old new calls (player.Insert job) o at same plays = plays
same_player old new calls (player.Follow job) o at same (inl knows) = inl (same_follow old new calls job.stage job o at same knows)
same_player old new calls (player.Follow job) o at same (inr vain) = inr (vain.0, same_vain old new calls job.stage job same vain.1)
same_player old new calls (player.Put job) o at same plays = same_put old new calls job.stage o same plays
same_player old new calls (player.Get job) o at same plays = get_same old new calls calls job o at (onward_refl calls o) same plays

pub kept_player : (awaited : Awaited) (calls calls' : List Call) (p : Player) (o : Owner) (at : Option ℕ) → Onward calls calls' o → Plays awaited calls p o at → Plays awaited calls' p o at
kept_player awaited calls calls' (player.Insert job) o at onward plays = plays
kept_player awaited calls calls' (player.Follow job) o at onward (inl knows) = inl (kept_follow awaited calls calls' job.stage job o at onward knows)
kept_player awaited calls calls' (player.Follow job) o at onward (inr vain) = inr (vain.0, kept_vain awaited calls calls' job.stage job (subst (Onward calls calls') vain.0 onward) vain.1)
kept_player awaited calls calls' (player.Put job) o at onward plays = kept_put awaited calls calls' o onward job.stage plays
kept_player awaited calls calls' (player.Get job) o at onward plays = get_same awaited awaited calls calls' job o at onward (λ m e. refl) plays

module _ {so : Supply → Task → Type 0} (old new : Awaited) (log log' : LogTold) (wire : ℤ) (players : List Player) (k : ℕ) (p p' : Player) (at : slice_get players k ≡ Some p) (apart : MayAllGo old wire players) (goes : Goes so old new log log' wire p p') where
  -- the places where streams were opened, behind the turn
  abbrev pub places_on : Option ℕ → (ℕ → Option ℕ) → ℕ → Option ℕ
  places_on place places i = cond (nat_eq i k) place (places i)

  pub place_here : (place : Option ℕ) (places : ℕ → Option ℕ) (i : ℕ) → i ≡ k → places_on place places i ≡ place
  place_here place places i e = ap (λ b. cond b place (places i)) (eq-eqb i k e)

  pub place_other : (place : Option ℕ) (places : ℕ → Option ℕ) (i : ℕ) → (i ≡ k → ⊥) → places_on place places i ≡ places i
  place_other place places i ne = ap (λ b. cond b place (places i)) (ne_eqb i k ne)

  abbrev pub knowing_turn : (calls calls' : List Call) (all : AllKnow old calls players) (here : PlaysAt old calls p all.owners k (all.places k)) → Took new calls calls' p' here.owner goes.next (all.places k) → AllKnow new calls' (slice_set players k p')
  knowing_turn calls calls' all here took =
      record {
        owners = slice_set all.owners k took.owner;
        places = places_on took.place all.places;
        apart = apart_after calls calls' all.owners k here.owner took.owner here.there took.passes all.apart;
        each = λ i a ha. elim (which old new log log' wire players k p p' at apart goes i a ha) [
          | inl mine ↦ record {
            owner = took.owner;
            there = subst (λ n. slice_get (slice_set all.owners k took.owner) n ≡ Some took.owner) (sym mine.0) (get_set_same all.owners k here.owner took.owner here.there);
            plays = subst (λ (at : Option ℕ). Plays new calls' a took.owner at) (sym (place_here took.place all.places i mine.0)) (subst (λ (x : Player). Plays new calls' x took.owner took.place) mine.1 took.plays);
          }
          | inr other ↦
              let was = all.each i a other.1 in
              let onward = others_onward calls calls' all.owners k here.owner took.owner here.there took.passes all.apart i was.owner other.0 was.there in
              record {
                owner = was.owner;
                there = get_past_other all.owners k i was.owner took.owner other.0 was.there;
                plays = subst (λ (at : Option ℕ). Plays new calls' a was.owner at) (sym (place_other took.place all.places i other.0))
                    (same_player old new calls' a was.owner (all.places i) (stays old new log log' wire players k p p' at apart goes i a other.0 other.1) (kept_player old calls calls' a was.owner (all.places i) onward was.plays));
              }
        ];
      }

  -- A run stands after the turn of one of its jobs.
  pub knowing_on : (begun : LogTold) → Knowing old begun log players → Knowing new begun log' (slice_set players k p')
  knowing_on begun knowing calls e =
      let before = knowing calls e in
      let here = before.2.each k p at in
      let on = goes.turned before.0 before.1 here.owner (before.2.places k) here.plays in
      (on.0, on.1, knowing_turn before.0 on.0 before.2 here on.2, λ made. on.2.passes.made (before.3 made))

-- ---- turns of each kind

-- an insert names no cursor, and leaves every other job alone
pub turned_insert : (old new : Awaited) (log log' : LogTold) (job job' : InsertPlayer) → (IsPlainJob job → PassesPlain log log' × IsPlainJob job') → words.Turns InsertPlays old new log log' job job' no_move
turned_insert old new log log' job job' plain calls told o at plays =
    let on = plain plays.1 in
    let m = on.0 calls told in
    (m.0, m.1, record { place = at; placed = refl; owner = nobody; plays = (refl, on.1); passes = subst (λ (x : Owner). Passes calls m.0 x nobody) (sym plays.0) m.2 })

pub turned_follow : (old new : Awaited) (log log' : LogTold) (job job' : FollowPlayer) (next : Placing) → FollowTurns old new log log' job.stage job job'.stage job' next → words.Turns FollowPlays old new log log' job job' (by_placing next)
turned_follow old new log log' job job' next turned calls told o at (inl knows) =
    let m = turned.watching calls told o at knows in
    (m.0, m.1, record { place = next at; placed = refl; owner = m.2.owner; plays = inl m.2.knows; passes = m.2.passes })
turned_follow old new log log' job job' next turned calls told o at (inr vain) =
    let m = turned.vainly calls told vain.1 in
    (m.0, m.1, record { place = next at; placed = refl; owner = nobody; plays = inr (refl, m.2); passes = subst (λ (x : Owner). Passes calls m.0 x nobody) (sym vain.0) m.3 })

holds_player : (awaited : Awaited) (calls : List Call) (p : Player) (o : Owner) (at : Option ℕ) → Plays awaited calls p o at → Holds calls o
holds_player awaited calls (player.Insert job) o at plays = subst (Holds calls) (sym plays.0) (holds_nobody calls)
holds_player awaited calls (player.Follow job) o at (inl knows) = subst (Holds calls) (sym knows.owns) knows.knows.owned
holds_player awaited calls (player.Follow job) o at (inr vain) = subst (Holds calls) (sym vain.0) (holds_nobody calls)
holds_player awaited calls (player.Put job) o at plays = holds_put awaited calls o job.stage plays
holds_player awaited calls (player.Get job) o at plays = holds_get awaited calls job o at plays

-- a job that does nothing
pub turned_not : (awaited : Awaited) (log : LogTold) (p p' : Player) → ((calls : List Call) (o : Owner) (at : Option ℕ) → Plays awaited calls p o at → Plays awaited calls p' o at) → Turns awaited awaited log log p p' no_move
turned_not awaited log p p' knows calls told o at plays = (calls, told, record { place = at; placed = refl; owner = o; plays = knows calls o at plays; passes = passes_same calls o (holds_player awaited calls p o at plays) })

-- a job that found a place for its answer, and then took its turn
pub turned_ready : (old new : Awaited) (log log' : LogTold) (p q p' : Player) (next : Moves) → ((awaited : Awaited) (calls : List Call) (o : Owner) (at : Option ℕ) → Plays awaited calls p o at → Plays awaited calls q o at) → Turns old new log log' q p' next → Turns old new log log' p p' next
turned_ready old new log log' p q p' next knows turned calls told o at plays = turned calls told o at (knows old calls o at plays)

-- what differs at most in the room for answers knows the same
same_parts : (f f' : FollowPlayer) → IsSameFollow f f' → SameParts f f'
same_parts f f' same = record { watched = same.watched_same; opened = same.opened_same; answers = same.answers_same; token = same.token_same }

pub same_knows : (f f' : FollowPlayer) → IsSameFollow f f' → (awaited : Awaited) (calls : List Call) (o : Owner) (at : Option ℕ) → FollowPlays awaited calls f o at → FollowPlays awaited calls f' o at
same_knows f f' same awaited calls o at (inl k) = inl (subst (λ s. FollowKnows awaited calls s f' o at) (sym same.stage_same) (parts_knows awaited calls f.stage f f' o at (same_parts f f' same) k))
same_knows f f' same awaited calls o at (inr v) = inr (v.0, subst (λ s. FollowsNothing awaited calls s f') (sym same.stage_same) (vain_parts awaited calls f.stage f f' (same_parts f f' same) v.1))

-- ---- at first

pub get_map : {A B : Type 0} (f : A → B) (xs : List A) (i : ℕ) (x : A) → slice_get xs i ≡ Some x → slice_get (map f xs) i ≡ Some (f x)
get_map f [] i x h = absurd cc
get_map f (y ∷ ys) zero x h = ap (λ z. Some (f z)) (same_some y x h)
get_map f (y ∷ ys) (suc i) x h = get_map f ys i x h

pub get_mapped : {A B : Type 0} (f : A → B) (xs : List A) (i : ℕ) (z : B) → slice_get (map f xs) i ≡ Some z → (x : A) × (f x ≡ z)
get_mapped f [] i z h = absurd cc
get_mapped f (y ∷ ys) zero z h = (y, same_some (f y) z h)
get_mapped f (y ∷ ys) (suc i) z h = get_mapped f ys i z h

-- whether a follow watches something
abbrev decided : FollowPlayer → Type 0
decided job = ((w : Watch) × (start : Start) × IsWatched job.watched w start) ⊎ IsUnwatched job.watched

abbrev owner_by : (job : FollowPlayer) → decided job → Owner
owner_by job (inl watched) = record { ids = pos 0 ∷ pos 0 ∷ []; coming = None ∷ [] }
owner_by job (inr none) = nobody

-- what a job is to the others before it has done anything
abbrev first_owner : Player → Owner
first_owner (player.Insert job) = nobody
first_owner (player.Follow job) = owner_by job (watch_or_nothing (target job.watched.target.now) (begin job.watched.start.now) (filter_in job.watched))
first_owner (player.Put job) = nobody
first_owner (player.Get job) = nobody

owns_none : OwnsNothing nobody
owns_none = record { ids = λ x of. absurd of; coming = λ k of. absurd of }

owns_zero : OwnsNothing (record { ids = pos 0 ∷ pos 0 ∷ []; coming = None ∷ [] })
owns_zero =
    record {
      ids = λ x of. elim of [ inl e ↦ sym e | inr more ↦ elim more [ inl e ↦ sym e | inr none ↦ absurd none ] ];
      coming = λ k of. elim of [ inl e ↦ let bad : None ≡ Some k = e in absurd cc | inr none ↦ none ];
    }

owns_by : (job : FollowPlayer) (d : decided job) → OwnsNothing (owner_by job d)
owns_by job (inl watched) = owns_zero
owns_by job (inr none) = owns_none

pub owns_first : (p : Player) → OwnsNothing (first_owner p)
owns_first (player.Insert job) = owns_none
owns_first (player.Follow job) = owns_by job (watch_or_nothing (target job.watched.target.now) (begin job.watched.start.now) (filter_in job.watched))
owns_first (player.Put job) = owns_none
owns_first (player.Get job) = owns_none

at_first : (awaited : Awaited) (calls : List Call) (s : Stage) (p : FollowPlayer) (w : Watch) (start : Start) → s ≡ stage.Unopened → IsUnfinished p.opened → HasNothing p → IsWatched p.watched w start → FollowKnows awaited calls s p (record { ids = pos 0 ∷ pos 0 ∷ []; coming = None ∷ [] }) None
at_first awaited calls stage.Unopened p w start is unfinished nothing watched =
    record {
      watch = w;
      start = start;
      watches = watched;
      asks = tt;
      knows = knows_new calls (not_open w start) refl (record { none_answered = refl; no_cursor = refl; no_old = refl });
      owns = refl;
      in_order = (unfinished, nothing);
    }
at_first awaited calls (stage.Opens opening) p w start is unfinished nothing watched = absurd cc
at_first awaited calls (stage.Open stream) p w start is unfinished nothing watched = absurd cc
at_first awaited calls (stage.Closes closing) p w start is unfinished nothing watched = absurd cc
at_first awaited calls stage.Ended p w start is unfinished nothing watched = absurd cc

vain_first : (awaited : Awaited) (calls : List Call) (s : Stage) (p : FollowPlayer) → s ≡ stage.Unopened → IsUnfinished p.opened → HasNothing p → IsUnwatched p.watched → FollowsNothing awaited calls s p
vain_first awaited calls stage.Unopened p is unfinished nothing none =
    record { unwatched = none; vain = tt; in_order = (unfinished, nothing); never = λ given. absurd (unfinished_not_given p.opened unfinished given) }
vain_first awaited calls (stage.Opens opening) p is unfinished nothing none = absurd cc
vain_first awaited calls (stage.Open stream) p is unfinished nothing none = absurd cc
vain_first awaited calls (stage.Closes closing) p is unfinished nothing none = absurd cc
vain_first awaited calls stage.Ended p is unfinished nothing none = absurd cc

plays_by : (awaited : Awaited) (calls : List Call) (job : FollowPlayer) (d : decided job) → IsFirst (player.Follow job) → Plays awaited calls (player.Follow job) (owner_by job d) None
plays_by awaited calls job (inl w) first = inl (at_first awaited calls job.stage job w.0 w.1 first.0 first.1 first.2 w.2)
plays_by awaited calls job (inr none) first = inr (refl, vain_first awaited calls job.stage job first.0 first.1 first.2 none)

pub plays_first : (awaited : Awaited) (calls : List Call) (p : Player) → IsFirst p → Plays awaited calls p (first_owner p) None
plays_first awaited calls (player.Insert job) first = (refl, subst (λ s. IsPlainInsert s) (sym first) tt)
plays_first awaited calls (player.Follow job) first = plays_by awaited calls job (watch_or_nothing (target job.watched.target.now) (begin job.watched.start.now) (filter_in job.watched)) first
plays_first awaited calls (player.Put job) first = subst (λ (s : PutStage). PutKnows awaited calls s nobody) (sym first.0) refl
plays_first awaited calls (player.Get job) first = get_first awaited calls job first.0 first.1

pub get_length : {A B : Type 0} (xs : List A) (ys : List B) → length ys ≡ length xs → (i : ℕ) (y : B) → slice_get ys i ≡ Some y → (x : A) × (slice_get xs i ≡ Some x)
get_length xs [] same i y h = absurd cc
get_length [] (z ∷ zs) same i y h = absurd cc
get_length (x ∷ xs) (z ∷ zs) same zero y h = (x, refl)
get_length (x ∷ xs) (z ∷ zs) same (suc i) y h = get_length xs zs (omega (arith, same)) i y h

-- jobs that have done nothing own nothing
pub owners_first : (players : List Player) (i : ℕ) (o : Owner) → slice_get (map first_owner players) i ≡ Some o → OwnsNothing o
owners_first players i o h = let x = get_mapped first_owner players i o h in subst OwnsNothing x.1 (owns_first x.0)

-- what jobs know that have done nothing, whatever was called before
abbrev pub know_first : (awaited : Awaited) (calls : List Call) (players : List Player) → AreFirst players → AllKnow awaited calls players
know_first awaited calls players first =
    record {
      owners = map first_owner players;
      places = λ i. None;
      apart = apart_at_first calls (map first_owner players) (owners_first players);
      each = λ i p h. record { owner = first_owner p; there = get_map first_owner players i p h; plays = plays_first awaited calls p (first i p h) };
    }

pub knowing_first : (awaited : Awaited) (log : LogTold) (players : List Player) → AreFirst players → Knowing awaited log log players
knowing_first awaited log players first calls e = (calls, e, know_first awaited calls players first, λ made. made)

-- ---- tasks

-- an insert does the same task, however far it has come
pub same_insert : (a b : InsertPlayer) → b.ns ≡ a.ns → b.documents ≡ a.documents → insert_task b ≡ insert_task a
same_insert a b ns documents = ap (λ n. plan.insert (space n.now) b.documents.now) ns ∙ ap (λ d. plan.insert (space a.ns.now) d.now) documents

-- an insert of these documents, and a follow of this, do these tasks
pub does_insert : (ns : Space) (docs : List Fields) (job : InsertPlayer) → space job.ns.now ≡ ns → job.documents.now ≡ docs → Does (plan.insert ns docs) (player.Insert job)
does_insert ns docs job on these = sym (ap (λ (s : Space). plan.insert s job.documents.now) on ∙ ap (plan.insert ns) these)

pub does_put : (w : Written) (cut : List (Vec ℕ Global)) (job : PutPlayer) → job.what ≡ w → w.pieces.now ≡ cut → Does (plan.put w.db.now (string_bytes w.bucket.now) (string_bytes w.name.now) (tree w.id.now) w.chunk (pieces cut)) (player.Put job)
does_put w cut job is these = sym (ap written_task is ∙ ap (λ (ps : List (Vec ℕ Global)). plan.put w.db.now (string_bytes w.bucket.now) (string_bytes w.name.now) (tree w.id.now) w.chunk (pieces ps)) these)

pub does_follow : (on : Target) (calls : ℕ) (start : Begin) (filter : Option Fields) (batch : Option ℕ) (job : FollowPlayer) → target job.watched.target.now ≡ on → job.watched.calls ≡ calls → begin job.watched.start.now ≡ start → filter_in job.watched ≡ filter → job.watched.batch_size ≡ batch → Does (plan.follow on calls start filter batch) (player.Follow job)
does_follow on calls start filter batch job target_is calls_are start_is filter_is batch_is =
    let v = job.watched in
    sym (ap (λ (u : Target). plan.follow u v.calls (begin v.start.now) (filter_in v) v.batch_size) target_is
    ∙ ap (λ (k : ℕ). plan.follow on k (begin v.start.now) (filter_in v) v.batch_size) calls_are
    ∙ ap (λ (b : Begin). plan.follow on calls b (filter_in v) v.batch_size) start_is
    ∙ ap (λ (f : Option Fields). plan.follow on calls start f v.batch_size) filter_is
    ∙ ap (λ (b : Option ℕ). plan.follow on calls start filter b) batch_is)

-- jobs of which one went on do the same tasks
pub tasks_after : (players : List Player) (k : ℕ) (p p' : Player) → slice_get players k ≡ Some p → IsSameTask p p' → (ts : List Task) → DoTasks ts players → DoTasks ts (slice_set players k p')
tasks_after players k p p' at same ts does i t a ht ha =
    elim (cases_eq i k) [
      | inl e ↦
          let here : slice_get players i ≡ Some p = ap (slice_get players) e ∙ at in
          let is : p' ≡ a = same_some p' a (sym (get_set_same players k p p' at) ∙ ap (λ n. slice_get (slice_set players k p') n) (sym e) ∙ ha) in
          subst (λ (x : Player). Does t x) is (does i t p ht here ∙ sym same)
      | inr ne ↦ does i t a ht (get_set_other players k i a p' ne ha)
    ]

pub first_more : (players : List Player) (p : Player) → AreFirst players → IsFirst p → AreFirst (players ++ p ∷ [])
first_more [] p first is zero a h = subst IsFirst (same_some p a h) is
first_more [] p first is (suc i) a h = absurd cc
first_more (q ∷ qs) p first is zero a h = first zero a h
first_more (q ∷ qs) p first is (suc i) a h = first_more qs p (λ j b hb. first (suc j) b hb) is i a h

-- the players made so far do the tasks of the jobs gone through
pub tasks_more : (ts : List Task) (players : List Player) (t : Task) (p : Player) → length players ≡ length ts → DoTasks ts players → Does t p → DoTasks (ts ++ t ∷ []) (players ++ p ∷ [])
tasks_more [] [] t p same does is zero u a hu ha = subst (λ (x : Player). Does u x) (same_some p a ha) (subst (λ (x : Task). Does x p) (same_some t u hu) is)
tasks_more [] [] t p same does is (suc i) u a hu ha = absurd cc
tasks_more [] (q ∷ qs) t p same does is i u a hu ha = absurd cc
tasks_more (v ∷ vs) [] t p same does is i u a hu ha = absurd cc
tasks_more (v ∷ vs) (q ∷ qs) t p same does is zero u a hu ha = does zero u a hu ha
tasks_more (v ∷ vs) (q ∷ qs) t p same does is (suc i) u a hu ha = tasks_more vs qs t p (omega (arith, same)) (λ j w b hw hb. does (suc j) w b hw hb) is i u a hu ha

pub outcomes_more : (players : List Player) (outcomes : List Outcome) (p : Player) (r : Outcome) → length players ≡ length outcomes → OutcomesOf players outcomes → OutcomeOf p r → OutcomesOf (players ++ p ∷ []) (outcomes ++ r ∷ [])
outcomes_more [] [] p r same of is zero a b ha hb = subst (λ (x : Outcome). OutcomeOf a x) (same_some r b hb) (subst (λ (x : Player). OutcomeOf x r) (same_some p a ha) is)
outcomes_more [] [] p r same of is (suc i) a b ha hb = absurd cc
outcomes_more [] (s ∷ ss) p r same of is i a b ha hb = absurd cc
outcomes_more (q ∷ qs) [] p r same of is i a b ha hb = absurd cc
outcomes_more (q ∷ qs) (s ∷ ss) p r same of is zero a b ha hb = of zero a b ha hb
outcomes_more (q ∷ qs) (s ∷ ss) p r same of is (suc i) a b ha hb = outcomes_more qs ss p r (omega (arith, same)) (λ j c d hc hd. of (suc j) c d hc hd) is i a b ha hb

pub made_more : (players rest rest' : List Player) (outcomes : List Outcome) (p : Player) (r : Outcome) → rest ≡ p ∷ rest' → Made players rest outcomes → OutcomeOf p r → Made players rest' (outcomes ++ r ∷ [])
made_more players rest rest' outcomes p r is made of =
    record {
      gone = made.gone ++ p ∷ [];
      whole = made.whole ∙ ap (λ l. made.gone ++ l) is ∙ sym (append_assoc made.gone (p ∷ []) rest');
      count = length-append made.gone (p ∷ []) ∙ ap (λ n. n + 1) made.count ∙ sym (length-append outcomes (r ∷ []));
      of = outcomes_more made.gone outcomes p r made.count made.of of;
    }

pub take_next : {A : Type 0} (xs : List A) (k : ℕ) (x : A) → slice_get xs k ≡ Some x → take (suc k) xs ≡ take k xs ++ x ∷ []
take_next [] k x h = absurd cc
take_next (y ∷ ys) zero x h = ap (λ z. z ∷ []) (same_some y x h)
take_next (y ∷ ys) (suc k) x h = ap (λ l. y ∷ l) (take_next ys k x h)

pub one_more : (k : ℕ) → suc k ≡ k + 1
one_more k = omega (arith)

pub map_joined : {A B : Type 0} (f : A → B) (xs ys : List A) → map f (xs ++ ys) ≡ map f xs ++ map f ys
map_joined f [] ys = refl
map_joined f (x ∷ xs) ys = ap (λ l. f x ∷ l) (map_joined f xs ys)

pub length_take : {A : Type 0} (xs : List A) (k : ℕ) (x : A) → slice_get xs k ≡ Some x → length (take k xs) ≡ k
length_take [] k x h = absurd cc
length_take (y ∷ ys) zero x h = refl
length_take (y ∷ ys) (suc k) x h = ap suc (length_take ys k x h)

-- one job more was gone through
pub tasks_step : (jobs : List Job) (k : ℕ) (players : List Player) (job : Job) (p : Player) → slice_get jobs k ≡ Some job → length players ≡ k → DoTasks (tasks (take k jobs)) players → Does (task job) p → DoTasks (tasks (take (k + 1) jobs)) (players ++ p ∷ [])
tasks_step jobs k players job p at count does is =
    subst (λ ts. DoTasks ts (players ++ p ∷ [])) (sym (ap (λ n. tasks (take n jobs)) (sym (one_more k)) ∙ ap tasks (take_next jobs k job at) ∙ map_joined task (take k jobs) (job ∷ [])))
    (tasks_more (tasks (take k jobs)) players (task job) p (count ∙ sym (length-map (take k jobs) task ∙ length_take jobs k job at)) does is)
