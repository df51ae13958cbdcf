-- What else a call sent, as its log grows and as others go on with it.
use Rattle.std.proofs.Common.{◌≡◌, ◌⊎◌, ◌<◌, ◌≤◌, ℕ, zero, suc, ℤ, List, length, Some, refl, ap, ◌∙◌, inl, inr, arith}
use Rattle.mg_server.specs.Calls.{Grows, IsOwn, Keeps, Past, past_of}
use Rattle.mg_link.specs.Link.{Awaited}
use Rattle.mg_link.specs.Log.{Call}
use Rattle.mg_server.specs.Owner.{IsOf}
use Rattle.mg_server.proofs.Calls.{keeps_longer, log_grows, same_keeps}
use Rattle.mg_cursor.specs.Client.{ClientCursor, client_ticket, ticket_by}
use Rattle.mg_players.specs.Causes.{sent_at, sent_since}
use Rattle.mg_players.specs.InTurn.{AloneBehind, HasSentAt, NoneBehind}
use Rattle.mg_players.proofs.Telling.{grows_ended, grows_later, since_is}

pub before_or : (a b : ℕ) → (a < b) ⊎ (b ≤ a)
before_or a zero = inr (omega arith)
before_or zero (suc b) = inl (omega arith)
before_or (suc a) (suc b) = elim (before_or a b) [ inl less ↦ inl (omega (arith, less)) | inr more ↦ inr (omega (arith, more)) ]

-- what was the call's own is so still, and of what stood in its log nothing else became so
pub record GrowsJust (past past' : Past) : Type 0 where
  pub grows : Grows past past'
  pub just : (place : ℕ) → place < length past.calls → IsOwn past' place → IsOwn past place

-- behind this place nothing else of what stood in its log became the call's own
abbrev pub NoneElse : Past → Past → ℕ → Type 0
NoneElse past past' last = (place : ℕ) → last < place → place < length past.calls → IsOwn past' place → IsOwn past place

-- so it is behind its first command, and what was its own is so still
pub record GrowsBehind (past past' : Past) : Type 0 where
  pub grows : Grows past past'
  pub behind : (first : ℕ) → HasSentAt past first → NoneElse past past' first

pub just_behind : (past past' : Past) → GrowsJust past past' → GrowsBehind past past'
just_behind past past' just = record { grows = just.grows; behind = λ first of place less within own. just.just place within own }

-- nor did it send anything since
pub record SendsNoMore (past past' : Past) : Type 0 where
  pub just : GrowsJust past past'
  pub none : (place : ℕ) → HasSentAt past' place → place < length past.calls

-- a call whose log has grown
pub log_just : (places : List ℕ) (since : ℕ) (calls calls' : List Call) (wire : ℤ) → Keeps calls calls' → GrowsJust (past_of places since calls wire) (past_of places since calls' wire)
log_just places since calls calls' wire keeps = record { grows = log_grows places since calls calls' wire keeps; just = λ place within own. own }

-- what was sent at these places is told so by a later log
pub later_just : (places : List ℕ) (calls calls' : List Call) (wire : ℤ) → Keeps calls calls' → ((place : ℕ) → IsOf places place → place < length calls) → SendsNoMore (sent_at places calls wire) (sent_at places calls' wire)
later_just places calls calls' wire keeps below = record {
  just = record { grows = grows_later places calls calls' wire keeps; just = λ place within own. elim own [ inl of ↦ inl of | inr beyond ↦ absurd (let longer = keeps_longer calls calls' keeps in omega (arith, within, beyond, longer)) ] };
  none = λ place of. elim of.0 [ inl among ↦ below place among | inr beyond ↦ absurd (let within = of.1 in omega (arith, within, beyond)) ];
}

-- what a poll sent is told by the places from which on it sent
pub ended_just : (places : List ℕ) (since : ℕ) (calls : List Call) (wire : ℤ) → since ≤ length calls → SendsNoMore (past_of places since calls wire) (sent_at (sent_since places since (length calls)) calls wire)
ended_just places since calls wire room = record {
  just = record {
    grows = grows_ended places since calls wire;
    just = λ place within own. elim own [
      | inl of ↦ elim (since_is places since (length calls) place room of) [ inl among ↦ inl among | inr range ↦ inr range.0 ]
      | inr beyond ↦ absurd (omega (arith, within, beyond))
    ];
  };
  none = λ place of. of.1;
}

-- by a log that has grown
pub log_behind : (places : List ℕ) (since : ℕ) (calls calls' : List Call) (wire : ℤ) → Keeps calls calls' → GrowsBehind (past_of places since calls wire) (past_of places since calls' wire)
log_behind places since calls calls' wire keeps = just_behind (past_of places since calls wire) (past_of places since calls' wire) (log_just places since calls calls' wire keeps)

-- by a later log
pub later_behind : (places : List ℕ) (calls calls' : List Call) (wire : ℤ) → Keeps calls calls' → GrowsBehind (sent_at places calls wire) (sent_at places calls' wire)
later_behind places calls calls' wire keeps = record {
  grows = grows_later places calls calls' wire keeps;
  behind = λ first of place less within own. elim own [ inl among ↦ inl among | inr beyond ↦ absurd (let longer = keeps_longer calls calls' keeps in omega (arith, within, beyond, longer)) ];
}

-- by the end of a poll
pub ended_behind : (places : List ℕ) (since : ℕ) (calls : List Call) (wire : ℤ) → since ≤ length calls → GrowsBehind (past_of places since calls wire) (sent_at (sent_since places since (length calls)) calls wire)
ended_behind places since calls wire room = just_behind (past_of places since calls wire) (sent_at (sent_since places since (length calls)) calls wire) (ended_just places since calls wire room).just

-- these places are the last of all, which are before this one
pub record AreLastOf (places : List ℕ) (since : ℕ) (ever : List ℕ) : Type 0 where
  pub among : (k : ℕ) → IsOf places k → IsOf ever k
  pub others : (k m : ℕ) → IsOf ever k → IsOf places m → IsOf places k ⊎ (k < m)
  pub within : (k : ℕ) → IsOf ever k → k < since

-- by all of them: behind the first of a call's own places stands none of the others
module _ (places ever : List ℕ) (since : ℕ) (last : AreLastOf places since ever) (calls : List Call) (wire : ℤ) where
  none_of_others : (first place : ℕ) → IsOf places first ⊎ (since ≤ first) → first < place → IsOf ever place → IsOf places place ⊎ (since ≤ place)
  none_of_others first place (inl its) less of = elim (last.others place first of its) [ inl own ↦ inl own | inr before ↦ absurd (omega (arith, less, before)) ]
  none_of_others first place (inr late) less of = absurd (let low = last.within place of in omega (arith, less, late, low))

  pub wider_behind : GrowsBehind (past_of places since calls wire) (past_of ever since calls wire)
  wider_behind = record {
    grows = record { own = λ place call there own. elim own [ inl of ↦ inl (last.among place of) | inr from ↦ inr from ]; keeps = same_keeps calls; wire = refl };
    behind = λ first of place less within own. elim own [ inl among ↦ none_of_others first place of.0 less among | inr from ↦ inr from ];
  }

-- nothing stands behind it, so nothing but what is on its way
pub none_after : (awaited : Awaited) (past : Past) (c : ClientCursor) (last : ℕ) → NoneBehind past last → AloneBehind awaited past c last
none_after awaited past c last none place of less = let before = none place of in absurd (omega (arith, before, less))

-- its tickets go with the same calls
pub alone_at : (old new : Awaited) (past : Past) (c : ClientCursor) (last : ℕ) → ((m : ℕ) → client_ticket c ≡ Some m → new m ≡ old m) → AloneBehind old past c last → AloneBehind new past c last
alone_at old new past c last same alone place of less =
    let a = alone place of less in
    record { sending = a.sending; ticket = a.ticket; asked = a.asked; held = a.held; at = same a.ticket (ap ticket_by a.asked ∙ a.held) ∙ a.at }

module _ (past past' : Past) (still : SendsNoMore past past') where
  pub sent_back : (place : ℕ) → HasSentAt past' place → HasSentAt past place
  sent_back place of = let before = still.none place of in (still.just.just place before of.0, before)

  pub none_grows : (last : ℕ) → NoneBehind past last → NoneBehind past' last
  none_grows last none place of = none place (sent_back place of)

  pub alone_grows : (old new : Awaited) (c : ClientCursor) (last : ℕ) → ((m : ℕ) → client_ticket c ≡ Some m → new m ≡ old m) → AloneBehind old past c last → AloneBehind new past' c last
  alone_grows old new c last same alone place of less = alone_at old new past c last same alone place (sent_back place of) less
