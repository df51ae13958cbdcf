-- A turn that was shown its own tickets alone is one over all of them.
use Rattle.std.proofs.Common.{◌≡◌, ◌⊎◌, ℕ, ℤ, List, true, false, Option, Some, None, refl, sym, ap, ◌∙◌, subst, inl, inr}
use Rattle.std.specs.Prelude.{is_some, IsSome}
use Rattle.mg_link.specs.Acts.{Tickets}
use Rattle.mg_server.specs.Calls.{Keeps}
use Rattle.mg_link.specs.Link.{Awaited, LogTold}
use Rattle.mg_link.specs.Log.{Call}
use Rattle.mg_turns.specs.Counts.{OthersStay, is_held, shown}
use Rattle.mg_players.specs.Plays.{Moves}
use Rattle.mg_players.specs.Drawing.{sent_from, supply_from}
use Rattle.mg_players.specs.Headline.{Turns, task_of}
use Rattle.mg_players.specs.Playing.{job_ticket}
use Rattle.mg_players.specs.Puts.{Supply}
use Rattle.mg_players.specs.Runs.{Goes}
use Rattle.mg_players.specs.Telling.{TurnTells}
use Rattle.mg_script.specs.Plan.{Task}
use Rattle.mg_players.specs.declared.player.Player.{Player}
use Rattle.mg_server.specs.Owner.{nobody}
use Rattle.mg_server.proofs.Apart.{onward_refl}
use Rattle.mg_players.proofs.JobTelling.{job_later}
use Rattle.mg_players.proofs.Knowing.{same_player}
use Rattle.mg_turns.proofs.OwnTickets.{cases_held, held_is, is_held_so, none_is_not, shown_held, shown_new, shown_out, shown_own}

-- ---- other tickets, and the same log

-- the tickets that are held go with the same calls
abbrev Agree : Option ℕ → Awaited → Awaited → Type 0
Agree ticket old new = (m : ℕ) → ticket ≡ Some m → new m ≡ old m

keeps_same : (calls : List Call) → Keeps calls calls
keeps_same calls place call there = (call, there, refl, λ seen. refl)

module _ (old old' new new' : Awaited) (log log' : LogTold) where
  turns_agree : (p p' : Player) (next : Moves) → Agree (job_ticket p) old old' → Agree (job_ticket p') new new' → Turns old' new log log' p p' next → Turns old new' log log' p p' next
  turns_agree p p' next before after turns calls told o at plays =
      let r = turns calls told o at (same_player old old' calls p o at before plays) in
      (r.0, r.1, record { place = r.2.place; placed = r.2.placed; owner = r.2.owner; plays = same_player new new' r.0 p' r.2.owner r.2.place after r.2.plays; passes = r.2.passes })

  module _ (wire : ℤ) where
    tells_agree : (so : Supply → Task → Type 0) (p p' : Player) (next : Moves) → Agree (job_ticket p) old old' → Agree (job_ticket p') new new' → TurnTells so old' new log log' wire p p' next → TurnTells so old new' log log' wire p p' next
    tells_agree so p p' next before after turn calls calls' is is' supply n may q at at' placed o plays told =
        let own : Supply = supply_from supply n in
        let t : Task = sent_from supply.ids n (task_of p) in
        let r = turn calls calls' is is' supply n may q at at' placed o (same_player old old' calls p o at before plays) (job_later own t old old' calls calls wire q p at (keeps_same calls) (onward_refl calls nobody) before told) in
        record { longer = r.longer; places = r.places; tells = job_later own t new new' calls' calls' wire r.places p' at' (keeps_same calls') (onward_refl calls' nobody) after r.tells; extends = r.extends; adds = r.adds }

-- ---- the tickets of a turn

module _ (held : Option ℕ) (began new : Awaited) (others : OthersStay held began new) where
  not_held : (m : ℕ) → (held ≡ Some m → ⊥) → is_held held m ≡ false
  not_held m ne = elim (cases_held (is_held held m)) [ inl mine ↦ absurd (ne (held_is held m mine)) | inr other ↦ other ]

  was_out : (m : ℕ) (o : Option ℕ) → began m ≡ o → (IsSome (began m)) ⊎ (began m ≡ None)
  was_out m None at = inr at
  was_out m (Some k) at = inl (ap (λ x. is_some x) at)

  module _ (after : Option ℕ) (t : Tickets (shown held began began) (shown held began new) held after) where
    origin_shown : (m : ℕ) → after ≡ Some m → (held ≡ Some m) ⊎ (began m ≡ None)
    origin_shown m e = elim (cases_held (is_held held m)) [
      | inl mine ↦ inl (held_is held m mine)
      | inr other ↦ elim (was_out m (began m) refl) [
        | inl was ↦ absurd (shown_own held began new m (t.held m e) other was)
        | inr none ↦ inr none
      ]
    ]

    only_new : (m : ℕ) → IsSome (new m) → began m ≡ None → (after ≡ Some m) ⊎ (IsSome (began m) × (held ≡ Some m → ⊥))
    only_new m out none = elim (t.only m (subst (λ (o : Option ℕ). IsSome o) (sym (shown_new held began new m none)) out)) [
      | inl e ↦ inl e
      | inr was ↦ absurd (none_is_not (began m) none (subst (λ (o : Option ℕ). IsSome o) (shown_new held began began m none) was.0))
    ]

    only_mine : (m : ℕ) → IsSome (new m) → held ≡ Some m → (after ≡ Some m) ⊎ (IsSome (began m) × (held ≡ Some m → ⊥))
    only_mine m out mine = elim (t.only m (subst (λ (o : Option ℕ). IsSome o) (sym (shown_held held began new m mine)) out)) [
      | inl e ↦ inl e
      | inr was ↦ absurd (was.1 mine)
    ]

    only_shown : (m : ℕ) → IsSome (new m) → (after ≡ Some m) ⊎ (IsSome (began m) × (held ≡ Some m → ⊥))
    only_shown m out = elim (cases_held (is_held held m)) [
      | inl mine ↦ only_mine m out (held_is held m mine)
      | inr other ↦ elim (was_out m (began m) refl) [
        | inl was ↦ inr (was, λ e. (let bad : true ≡ false = sym (is_held_so held m e) ∙ other in cc))
        | inr none ↦ only_new m out none
      ]
    ]

    pub tickets_shown : Tickets began new held after
    tickets_shown = record {
      held = λ m e. subst (λ (o : Option ℕ). IsSome o) (shown_out held began new m (t.held m e)) (t.held m e);
      rest = λ m ne was. others m (not_held m ne) was;
      origin = origin_shown;
      only = only_shown;
    }

pub goes_shown : (so : Supply → Task → Type 0) (held : Option ℕ) (began new : Awaited) (log log' : LogTold) (wire : ℤ) (p p' : Player) → job_ticket p ≡ held → OthersStay held began new → Goes so (shown held began began) (shown held began new) log log' wire p p' → Goes so began new log log' wire p p'
goes_shown so held began new log log' wire p p' mine others goes =
    let t = subst (λ (o : Option ℕ). Tickets (shown held began began) (shown held began new) o (job_ticket p')) mine goes.tickets in
    let before = λ (m : ℕ) (e : job_ticket p ≡ Some m). shown_held held began began m (sym mine ∙ e) in
    let after = λ (m : ℕ) (e : job_ticket p' ≡ Some m). sym (shown_out held began new m (t.held m e)) in
    record {
      tickets = subst (λ (o : Option ℕ). Tickets began new o (job_ticket p')) (sym mine) (tickets_shown held began new others (job_ticket p') t);
      holds = goes.holds;
      next = goes.next;
      turned = turns_agree began (shown held began began) (shown held began new) new log log' p p' goes.next before after goes.turned;
      told = tells_agree began (shown held began began) (shown held began new) new log log' wire so p p' goes.next before after goes.told;
      task = goes.task;
      has = goes.has;
    }
