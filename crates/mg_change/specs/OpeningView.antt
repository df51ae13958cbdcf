-- What the parts of openings are seen as.
use Rattle.std.specs.Prelude.{◌≡◌, ℕ, Bool, true, false, Option, None}
use Rattle.mg_change.specs.ClientOpenings.{ClientOpening, IsSoundOpening, opening_ticket}
use Rattle.mg_change.specs.declared.opening.Opening.{Opening}
use Rattle.mg_change.specs.declared.opens.Opens.{Opens}
use Rattle.mg_change.specs.declared.session_opening.SessionOpening.{SessionOpening}

abbrev pub opens_of : Opens → ClientOpening
opens_of o = record { args = o.aggregate.args; sending = o.exec }

-- nothing is remembered, and what is on its way is the aggregate of its arguments
pub record IsOpens (plain : Bool) (o : Opens) : Type 0 where
  pub first : o.aggregate.resume ≡ None
  pub sound : IsSoundOpening plain (opens_of o)

abbrev pub opens_in : {T : Type 0} → Opening T → Opens
opens_in o = o.opens

abbrev pub session_opens_in : {T : Type 0} → SessionOpening T → Opens
session_opens_in o = o.opens

abbrev pub opening_of : {T : Type 0} → Opening T → ClientOpening
opening_of o = opens_of o.opens

abbrev pub session_opening_of : {T : Type 0} → SessionOpening T → ClientOpening
session_opening_of o = opens_of o.opens

abbrev pub ticket_in : {T : Type 0} → Opening T → Option ℕ
ticket_in o = opening_ticket (opening_of o)

abbrev pub session_ticket_in : {T : Type 0} → SessionOpening T → Option ℕ
session_ticket_in o = opening_ticket (session_opening_of o)

abbrev pub IsPlainOpening : {T : Type 0} → Opening T → Type 0
IsPlainOpening o = IsOpens true o.opens

abbrev pub IsSessionOpening : {T : Type 0} → SessionOpening T → Type 0
IsSessionOpening o = IsOpens false o.opens
