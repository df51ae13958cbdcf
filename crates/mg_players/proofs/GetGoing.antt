-- A turn of a get, put together from the part that its stage took.
use Rattle.std.proofs.Common.{◌≡◌, ℕ, ℤ, length, None, refl, sym, ap, ◌∙◌, subst}
use Rattle.mg_link.specs.Acts.{Tickets}
use Rattle.mg_link.specs.Link.{Awaited, LogTold}
use Rattle.mg_players.specs.Gets.{FewCalls, GetHolds, GetStageHolds, get_ticket, gets_ticket}
use Rattle.mg_players.specs.Headline.{GetPlays, get_task, sought_task}
use Rattle.mg_players.specs.Plays.{Goes, SentAt, no_move}
use Rattle.mg_players.specs.Progress.{ComesTo, GetAt, GetGoes, GetStageAt}
use Rattle.mg_players.specs.Telling.{GetSays, GetTurns}
use Rattle.mg_players.specs.declared.get.GetPlayer.{GetPlayer}
use Rattle.mg_players.specs.declared.get.GetStage.{GetStage}
use Rattle.mg_players.specs.declared.get.GetStage.TheVariants as gets
use Rattle.mg_script.specs.declared.outcome.Ended.{Ended}
use Rattle.mg_server.proofs.Apart.{passes_same}
use Rattle.mg_link.proofs.Onward.{tickets_same}
use Rattle.mg_players.proofs.GetKnowing.{holds_get}
use Rattle.mg_players.proofs.JobTelling.{get_number, get_turn, quiet_turn, tells_same_job}

-- a get draws no ids
abbrev pub draws_none : GetPlayer → Type 0
draws_none job = Unit {0}

abbrev pub holds_on : ℤ → GetPlayer → Type 0
holds_on wire job = GetHolds job

abbrev pub GetGone : ℤ → Awaited → Awaited → LogTold → LogTold → ℤ → GetPlayer → GetPlayer → Type 0
GetGone moment = Goes get_ticket holds_on get_task GetPlays GetSays get_number draws_none (SentAt moment)

-- behind a stage, whatever it was
gone_to : (old new : Awaited) (log log' : LogTold) (wire moment : ℤ) (p mid : GetPlayer) (next : GetStage) → Tickets old new (get_ticket p) (gets_ticket next) → GetStageHolds p.what.read next → FewCalls next (length mid.bytes.items) mid.done → mid.what ≡ p.what → GetTurns old new log log' wire p (record mid { stage = next }) → GetGone moment old new log log' wire p (record mid { stage = next })
gone_to old new log log' wire moment p mid next tickets holds few same turned = record {
  tickets = tickets;
  holds = record { stage = subst (λ w. GetStageHolds w.read next) (sym same) holds; few = few };
  next = turned.next;
  turned = turned.turned;
  told = get_turn (SentAt moment) old new log log' wire p (record mid { stage = next }) turned.next same turned.told;
  task = ap sought_task same;
  has = λ has. has;
}

pub get_gone : (old new : Awaited) (log log' : LogTold) (wire wire' moment : ℤ) (p mid after : GetPlayer) (s next : GetStage) → s ≡ p.stage → after ≡ record mid { stage = next } → wire' ≡ wire → Tickets old new (gets_ticket s) (gets_ticket next) → GetStageHolds p.what.read next → FewCalls next (length mid.bytes.items) mid.done → mid.what ≡ p.what
    → GetTurns old new log log' wire (record p { stage = s }) (record mid { stage = next }) → GetGone moment old new log log' wire' p after
get_gone old new log log' wire wire' moment p mid after s next was is same_wire tickets holds few same turned =
    subst (λ (x : GetPlayer). GetGone moment old new log log' wire' p x) (sym is)
    (subst (λ (w : ℤ). GetGone moment old new log log' w p (record mid { stage = next })) (sym same_wire)
    (gone_to old new log log' wire moment p mid next (subst (λ (t : GetStage). Tickets old new (gets_ticket t) (gets_ticket next)) was tickets) holds few same (subst (λ (t : GetStage). GetTurns old new log log' wire (record p { stage = t }) (record mid { stage = next })) was turned)))

pub get_comes : (before now : ℕ) (p mid after : GetPlayer) (s next : GetStage) → s ≡ p.stage → after ≡ record mid { stage = next } → mid.what ≡ p.what → GetGoes before now s (length p.bytes.items) p.done next (length mid.bytes.items) mid.done p.what.read → ComesTo (λ calls k last. GetAt p k last) (λ calls k last. GetAt after k last) before now
get_comes before now p mid after s next was is same goes =
    subst (λ (x : GetPlayer). ComesTo (λ calls k last. GetAt p k last) (λ calls k last. GetAt x k last) before now) (sym is)
    (subst (λ w. ComesTo (λ calls k last. GetAt p k last) (λ calls k last. GetStageAt next (length mid.bytes.items) mid.done k last w.read) before now) (sym same)
    (subst (λ (t : GetStage). GetGoes before now t (length p.bytes.items) p.done next (length mid.bytes.items) mid.done p.what.read) was goes))

-- a get that has ended stays as it is
same_get : (p after : GetPlayer) (e : Ended (Unit {0})) → gets.Ended e ≡ p.stage → after ≡ record p { stage = gets.Ended e } → after ≡ p
same_get p after e was is = is ∙ ap (λ (t : GetStage). record p { stage = t }) was

pub get_ended : (awaited : Awaited) (log : LogTold) (wire moment : ℤ) (p after : GetPlayer) (e : Ended (Unit {0})) → gets.Ended e ≡ p.stage → after ≡ record p { stage = gets.Ended e } → GetHolds p → GetGone moment awaited awaited log log wire p after
get_ended awaited log wire moment p after e was is holds =
    subst (λ (x : GetPlayer). GetGone moment awaited awaited log log wire p x) (sym (same_get p after e was is))
    (record {
      tickets = subst (λ (t : GetStage). Tickets awaited awaited (gets_ticket t) (gets_ticket t)) was (tickets_same awaited None (λ n held. absurd cc));
      holds = holds;
      next = no_move;
      turned = λ calls told o at plays. (calls, told, record { place = at; placed = refl; owner = o; plays = plays; passes = passes_same calls o (holds_get awaited calls p o at plays) });
      told = quiet_turn get_task GetPlays GetSays get_number (SentAt moment) awaited log wire p p (tells_same_job get_task GetSays get_number (SentAt moment) p);
      task = refl;
      has = λ has. has;
    })
