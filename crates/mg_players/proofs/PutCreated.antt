-- A put asks for the list of the indexes of a collection behind the creation of that: what is on its way, and what comes of it, stands in the log behind it.
use Rattle.std.proofs.Common.{◌≡◌, ◌<◌, ◌≤◌, ℕ, ℤ, true, false, List, [], length, None, Some, refl, sym, ap, ◌∙◌, subst, inl, inr, arith}
use Rattle.mg_bson.specs.Raw.{fields}
use Rattle.mg_bson.specs.Tree.{Fields}
use Rattle.mg_server.specs.Calls.{Came, Flies, Grows, HeardLast, IsOwn, Keeps, NoneBroken, Past, RequestFails, out_of_memory, past_of, was_broken, was_lost, was_refused}
use Rattle.mg_link.specs.Errors.{command_code}
use Rattle.mg_link.specs.Exec.{Runs, Sending, Stage, ticket_of, unsent}
use Rattle.mg_link.specs.Link.{Awaited, LogTold}
use Rattle.mg_link.specs.Log.{Call, reply}
use Rattle.mg_server.specs.Owner.{IsOf}
use Rattle.mg_link.specs.declared.action.Step.{Step}
use Rattle.mg_link.specs.declared.action.Step.TheVariants as came
use Rattle.mg_link.specs.declared.error.Error.{Error}
use Rattle.mg_server.proofs.Calls.{grows_on, keeps_longer, log_grows, request_ran, same_keeps}
use Rattle.mg_server.proofs.Filed.{Grew}
use Rattle.mg_server.proofs.Owners.{same_some}
use Rattle.mg_server.proofs.Pasts.{flies_grows, heard_at_grows}
use Rattle.mg_link.proofs.Places.{get_some, get_within}
use Rattle.mg_options.specs.Fields.{fields_in}
use Rattle.mg_gridfs.specs.Buckets.{ClientBucket}
use Rattle.mg_gridfs.specs.Checks.{namespace_exists}
use Rattle.mg_gridfs.specs.Commands.{IsRequest, creation_lines, listing_lines}
use Rattle.mg_gridfs.specs.declared.indexes.Place.{Place}
use Rattle.mg_players.specs.Causes.{sent_at, sent_since}
use Rattle.mg_players.specs.Asking.{FliesLast}
use Rattle.mg_players.specs.InTurn.{HasSentAt}
use Rattle.mg_players.specs.PutFailures.{AsksBehind, HeardCreation, HoldsBehind, MakesCollection, finds_it}
use Rattle.mg_players.proofs.GetNewest.{flies_kept}
use Rattle.mg_players.proofs.JustGrown.{SendsNoMore, sent_back}
use Rattle.mg_players.proofs.NewestHeard.{CameNewest, HeardNewest, runs_newest}
use Rattle.mg_players.proofs.Telling.{grows_ended, since_is}

-- ---- a later time

module _ (past past' : Past) (grows : Grows past past') where
  abbrev pub creation_grows : (b : ClientBucket) (at : Place) → HeardCreation past b at → HeardCreation past' b at
  creation_grows b at h = record { place = h.place; bytes = h.bytes; heard = heard_at_grows past past' grows h.place (fields_in (creation_lines b at)) (reply h.bytes) (λ bad. cc) h.heard; well = subst (λ (wire : ℤ). MakesCollection wire h.bytes) (sym grows.wire) h.well }

  pub behind_grows : (place : ℕ) (Says : Past → Type 0) → HoldsBehind place past Says → HoldsBehind place past' Says
  behind_grows place Says h = record { later = h.later; grows = grows_on h.later past past' h.grows grows; behind = h.behind; says = h.says }

module _ (past past' : Past) (still : SendsNoMore past past') where
  abbrev grows : Grows past past'
  grows = still.just.grows

  pub asks_grows : (old new : Awaited) (b : ClientBucket) (at : Place) (s : Sending) → ((m : ℕ) → ticket_of s ≡ Some m → new m ≡ old m) → AsksBehind old past b at s → AsksBehind new past' b at s
  asks_grows old new b at s same h =
      let longer = keeps_longer past.calls past'.calls grows.keeps in
      let before : Past = past_of h.near (length past.calls) past.calls past.wire in
      let now : Past = past_of h.near (length past'.calls) past'.calls past'.wire in
      let near_grows : Grows before now = record {
        own = λ place call there is. elim is [ inl of ↦ inl of | inr late ↦ absurd (let within = get_within past.calls place call there in omega (arith, late, within)) ];
        keeps = grows.keeps;
        wire = grows.wire;
      } in
      record {
        created = creation_grows past past' grows b at h.created;
        near = h.near;
        own = λ p of. let c = get_some past.calls p (h.within p of) in grows.own p c.0 c.1 (h.own p of);
        within = λ p of. let within = h.within p of in omega (arith, within, longer);
        behind = h.behind;
        flies = flies_grows before now near_grows old new (fields_in (listing_lines b at)) s.stage same h.flies;
        last = flies_kept past.calls past'.calls grows.keeps (HasSentAt past) (HasSentAt past') (λ place of. let c = get_some past.calls place of.1 in let high = of.1 in (grows.own place c.0 c.1 of.0, omega (arith, high, longer))) (sent_back past past' still) old new s.stage same h.last;
      }

-- ---- the creation

module _ (past : Past) (b : ClientBucket) (at : Place) where
  pub created_by : (bytes : List ℕ) → MakesCollection past.wire bytes → HeardLast past (fields_in (creation_lines b at)) false (reply bytes) → HeardCreation past b at
  created_by bytes well h = record { place = h.place; bytes = bytes; heard = h.heard; well = well }

  -- that it is there was told by a reply
  pub there_by : (e : Error) → command_code e.kind ≡ Some namespace_exists → RequestFails past (fields_in (creation_lines b at)) false NoneBroken e → HeardCreation past b at
  there_by e code (out_of_memory room) = absurd (let none : None ≡ Some namespace_exists = sym (ap command_code room) ∙ code in cc)
  there_by e code (was_lost io heard) = absurd (let none : None ≡ Some namespace_exists = sym (ap (λ (x : Error). command_code x.kind) io) ∙ code in cc)
  there_by e code (was_refused bytes heard refused) = created_by bytes (finds_it e refused code) heard
  there_by e code (was_broken bytes heard success none) = absurd none

  -- a list that is to be asked for
  pub first_asked : (awaited : Awaited) (s : Sending) → s.stage ≡ unsent → HeardCreation past b at → AsksBehind awaited past b at s
  first_asked awaited s new_one created = record {
    created = created;
    near = [];
    own = λ p of. absurd of;
    within = λ p of. absurd of;
    behind = λ p of. absurd of;
    flies = subst (λ (x : Stage). Flies awaited (past_of [] (length past.calls) past.calls past.wire) (fields_in (listing_lines b at)) x) (sym new_one) tt;
    last = subst (FliesLast awaited (HasSentAt past)) (sym new_one) tt;
  }

-- ---- a poll

-- what a poll of the request comes to
abbrev pub CameBehind : Awaited → Past → ClientBucket → Place → Step Sending (List ℕ) → Type 0
CameBehind awaited past b at (came.Pending s) = AsksBehind awaited past b at s
CameBehind awaited past b at (came.Done bytes) = (created : HeardCreation past b at) × HoldsBehind created.place past (λ p. HeardLast p (fields_in (listing_lines b at)) true (reply bytes)) × HeardNewest past (fields_in (listing_lines b at)) bytes
CameBehind awaited past b at (came.Failed e) = (created : HeardCreation past b at) × HoldsBehind created.place past (λ p. RequestFails p (fields_in (listing_lines b at)) true NoneBroken e)

module _ (old new : Awaited) (places : List ℕ) (since : ℕ) (calls calls' : List Call) (wire : ℤ) (room : since ≤ length calls) (keeps : Keeps calls calls') (b : ClientBucket) (at : Place) (s : Sending) (asks : AsksBehind old (past_of places since calls wire) b at s) where
  abbrev Before : Past
  Before = past_of places since calls wire

  abbrev There : Past
  There = past_of places since calls' wire

  -- by what it has on its way, and what it sent since
  abbrev Here : Past
  Here = past_of asks.near (length calls) calls' wire

  here_grows : Grows Here There
  here_grows = record { own = λ place call there is. wider place is; keeps = same_keeps calls'; wire = refl }
    where
      wider : (place : ℕ) → IsOwn Here place → IsOwn There place
      wider place (inl of) = asks.own place of
      wider place (inr from) = inr (omega (arith, room, from))

  first : asks.created.place < length calls
  first = get_within calls asks.created.place asks.created.heard.call asks.created.heard.there

  behind_first : (place : ℕ) → IsOwn Here place → asks.created.place < place
  behind_first place (inl of) = asks.behind place of
  behind_first place (inr from) = let less = first in omega (arith, less, from)

  abbrev created_there : HeardCreation There b at
  created_there = creation_grows Before There (log_grows places since calls calls' wire keeps) b at asks.created

  longer : length calls ≤ length calls'
  longer = keeps_longer calls calls' keeps

  abbrev near_then : List ℕ
  near_then = sent_since asks.near (length calls) (length calls')

  own_then : (p : ℕ) → IsOf near_then p → IsOwn There p
  own_then p of = elim (since_is asks.near (length calls) (length calls') p longer of) [ inl before ↦ asks.own p before | inr sent ↦ (let low = sent.0 in inr (omega (arith, room, low))) ]

  within_then : (p : ℕ) → IsOf near_then p → p < length calls'
  within_then p of = elim (since_is asks.near (length calls) (length calls') p longer of) [ inl before ↦ (let within = asks.within p before in let more = longer in omega (arith, within, more)) | inr sent ↦ sent.1 ]

  behind_then : (p : ℕ) → IsOf near_then p → asks.created.place < p
  behind_then p of = elim (since_is asks.near (length calls) (length calls') p longer of) [ inl before ↦ asks.behind p before | inr sent ↦ (let low = sent.0 in let less = first in omega (arith, less, low)) ]

  came_behind : (c : Step Sending (List ℕ)) → Came new Here (fields_in (listing_lines b at)) true c → CameNewest new There (fields_in (listing_lines b at)) c → CameBehind new There b at c
  came_behind (came.Pending s') flies newest = record {
    created = created_there;
    near = near_then;
    own = own_then;
    within = within_then;
    behind = behind_then;
    flies = flies_grows Here (sent_at near_then calls' wire) (grows_ended asks.near (length calls) calls' wire) new new (fields_in (listing_lines b at)) s'.stage (λ m held. refl) flies;
    last = newest;
  }
  came_behind (came.Done bytes) heard newest = (created_there, record { later = Here; grows = here_grows; behind = behind_first; says = heard }, newest)
  came_behind (came.Failed e) failed newest = (created_there, record { later = Here; grows = here_grows; behind = behind_first; says = failed })

-- A poll of the request for the list.
pub listing_ran : (old new : Awaited) (log log' : LogTold) (wire : ℤ) (b : ClientBucket) (at : Place) (s : Sending) (c : Step Sending (List ℕ)) → IsRequest true (listing_lines b at) s → Runs old new log log' wire s c → (calls : List Call) → log ≡ Some calls → (places : List ℕ) (since : ℕ) → since ≤ length calls
    → AsksBehind old (past_of places since calls wire) b at s → Grew places since calls log' wire (λ past. CameBehind new past b at c)
listing_ran old new log log' wire b at s c own runs calls told places since room asks =
    let ran = request_ran old new log log' wire s (fields_in (listing_lines b at)) true c own.command_is own.retries_is runs calls told asks.near (length calls) (omega arith) asks.flies in
    let flies : Flies old (past_of places since calls wire) (fields_in (listing_lines b at)) s.stage = flies_grows (past_of asks.near (length calls) calls wire) (past_of places since calls wire) (here_grows old new places since calls calls wire room (same_keeps calls) b at s asks) old old (fields_in (listing_lines b at)) s.stage (λ m held. refl) asks.flies in
    let last = runs_newest places since wire old new log log' s c runs calls told room (subst (λ (f : Fields). Flies old (past_of places since calls wire) f s.stage) (sym own.command_is) flies) asks.last in
    let newest : CameNewest new (past_of places since ran.calls' wire) (fields_in (listing_lines b at)) c
    = subst (λ (f : Fields). CameNewest new (past_of places since ran.calls' wire) f c) own.command_is (subst (λ (l : List Call). CameNewest new (past_of places since l wire) (fields s.command) c) (same_some last.0 ran.calls' (sym last.1 ∙ ran.told)) last.3) in
    (ran.calls', ran.told, ran.grows.keeps, came_behind old new places since calls ran.calls' wire room ran.grows.keeps b at s asks c ran.came newest)
