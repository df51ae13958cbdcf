-- What an upload knows of its file goes on to hold, and grows.
use Rattle.std.proofs.Common.{◌≡◌, ◌⊎◌, ◌<◌, ◌≤◌, ℕ, ℤ, List, [], ◌∷◌, ◌++◌, length, take, drop, Option, Some, None, refl, sym, ap, ◌∙◌, subst, inl, inr, arith, append_assoc, append-nil, length-append, take-append-drop}
use Rattle.std.specs.Prelude.{slice_get}
use Rattle.std.proofs.lemmas.Bool.{cases_lt}
use Rattle.std.proofs.lemmas.List.{length-take-le, take-append-le, take_all, take_at}
use Rattle.mg_bson.specs.Tree.{Tree}
use Rattle.mg_server.specs.Calls.{IsOwn, Past, past_of}
use Rattle.mg_server.specs.Commands.{Told, asked, told}
use Rattle.mg_server.specs.Files.{Bucket, File, LeavesFile, file_of}
use Rattle.mg_server.specs.Filing.{Clears, FileAs, Filing, HasDeleted, HasInserted, IsOwnStep, KnowsFile, Leaves, Makes, OthersLeave, SaysNothing, becomes, cleared, clears, no_file, stays, unknown, waited}
use Rattle.mg_server.specs.Follow.{CameAs}
use Rattle.mg_server.specs.History.{Step, IsLegal, state_after, state_of, step_after, told_at}
use Rattle.mg_link.specs.Log.{Sight, waiting, reply, Call, see}
use Rattle.mg_server.specs.Owner.{IsGrown, IsOf, Onward, Owner}
use Rattle.mg_server.specs.Standing.{SeenFits, Stands, TookEffect}
use Rattle.mg_server.specs.State.{State}
use Rattle.mg_server.proofs.Apart.{step_last}
use Rattle.mg_server.proofs.Heard.{heard_at}
use Rattle.mg_server.proofs.Moves.{at_last}
use Rattle.mg_link.proofs.Outs.{length-see}
use Rattle.mg_server.proofs.Owners.{BackTo, back_to, grown_see, highest, legal_parts, same_some, see_from, stands_unseen, stands_without, state_one, took_back}
use Rattle.mg_link.proofs.Places.{get_front, get_push, get_seam, get_within, split_at}

-- ---- steps that leave a file

-- steps that leave the file leave it together
left_alone : (b : Bucket) (id : Tree) (front back : List Step) → ((f r : List Step) (step : Step) → front ++ back ≡ f ++ step ∷ r → length front ≤ length f → LeavesFile (state_of f) step b id) → file_of (state_of (front ++ back)) b id ≡ file_of (state_of front) b id
left_alone b id front [] all = ap (λ (h : List Step). file_of (state_of h) b id) (append-nil front)
left_alone b id front (x ∷ back) all =
    let seam : front ++ x ∷ back ≡ (front ++ x ∷ []) ++ back = sym (append_assoc front (x ∷ []) back) in
    ap (λ (h : List Step). file_of (state_of h) b id) seam
    ∙ left_alone b id (front ++ x ∷ []) back (λ f r step e le. all f r step (seam ∙ e) (omega (arith, length-append front (x ∷ []))))
    ∙ ap (λ (s : State). file_of s b id) (state_one front x)
    ∙ all front back x refl (omega arith)

-- ---- who writes

-- the premise, of a step in its place
at_step : (past : Past) (history : List Step) (b : Bucket) (id : Tree) (others : OthersLeave past history b id) (f r : List Step) (step : Step) → others.from ≤ length f → history ≡ f ++ step ∷ r → IsOwnStep past (length f) ⊎ LeavesFile (state_of f) step b id
at_step past history b id others f r step low whole =
    let there : slice_get history (length f) ≡ Some step = ap (λ (h : List Step). slice_get h (length f)) whole ∙ get_seam f r step in
    let front : take (length f) history ≡ f = ap (take (length f)) whole ∙ take_at f (step ∷ r) (length f) refl in
    subst (λ (h : List Step). IsOwnStep past (length f) ⊎ LeavesFile (state_of h) step b id) front (others.each (length f) step low there)

-- and from all steps in their places
by_steps : (past : Past) (history : List Step) (b : Bucket) (id : Tree) (from : ℕ) → file_of (state_of (take from history)) b id ≡ no_file → ((position : ℕ) → IsOwnStep past position → from ≤ position)
    → ((f r : List Step) (step : Step) → from ≤ length f → history ≡ f ++ step ∷ r → IsOwnStep past (length f) ⊎ LeavesFile (state_of f) step b id) → OthersLeave past history b id
by_steps past history b id from nothing later all =
    record {
      from = from;
      nothing = nothing;
      later = later;
      each = λ position step low there.
          let at = split_at history position step there in
          let front : take position history ≡ at.front = ap (take position) at.whole ∙ take_at at.front (step ∷ at.back) position at.place in
          let place = at.place in
          subst (λ (h : List Step). IsOwnStep past position ⊎ LeavesFile (state_of h) step b id) (sym front)
          (subst (λ (n : ℕ). IsOwnStep past n ⊎ LeavesFile (state_of at.front) step b id) at.place (all at.front at.back step (omega (arith, low, place)) at.whole));
    }

-- that of the call which is waited for, once it took effect
own_came : (past : Past) (history : List Step) (place : Option ℕ) (position : ℕ) (step : Step) → ((n : ℕ) → place ≡ Some n → IsOwn past n × ((call : Call) × (slice_get past.calls n ≡ Some call))) → CameAs past.calls history place position step → IsOwnStep past position
own_came past history place position step flies came = record { place = came.0; own = (flies came.0 came.1).0; call = came.2.call; there = came.2.found; placed = came.2.placed }

own_within : (past : Past) (history : List Step) (position : ℕ) → Stands past.calls history → IsOwnStep past position → position < length history
own_within past history position stands own =
    let s = stands.same own.place own.call position own.there own.placed in
    get_within history position s.0 s.1

-- an own step of a longer log, whose call stood in the shorter one
own_back : (past past' : Past) → IsGrown past.calls past'.calls → (position : ℕ) (own : IsOwnStep past' position) → IsOwn past own.place → (c : Call) → slice_get past.calls own.place ≡ Some c → IsOwnStep past position
own_back past past' grown position own is c found =
    let g = grown.keeps own.place c found in
    let e : own.call ≡ g.0 = same_some own.call g.0 (sym own.there ∙ g.1) in
    record { place = own.place; own = is; call = c; there = found; placed = sym g.3 ∙ ap (λ (x : Call). x.position) (sym e) ∙ own.placed }

-- the file is as it was behind the last own step
still : (past : Past) (b : Bucket) (id : Tree) (history before tail : List Step) → history ≡ before ++ tail → (others : OthersLeave past history b id) → others.from ≤ length before → ((position : ℕ) → IsOwnStep past position → position < length before)
    → file_of (state_of history) b id ≡ file_of (state_of before) b id
still past b id history before tail whole others early low =
    ap (λ (h : List Step). file_of (state_of h) b id) whole
    ∙ left_alone b id before tail (λ f r step e le. elim (at_step past history b id others f r step (omega (arith, early, le)) (whole ∙ e)) [
      | inl own ↦ let lt = low (length f) own in absurd (omega arith)
      | inr leaves ↦ leaves
    ])

-- where the upload has no step, nothing of the file is there
none_there : (past : Past) (b : Bucket) (id : Tree) (history : List Step) → OthersLeave past history b id → ((position : ℕ) → IsOwnStep past position → ⊥) → file_of (state_of history) b id ≡ no_file
none_there past b id history others never = elim (cases_lt (length history) others.from) [
  | inl beyond ↦ ap (λ (h : List Step). file_of (state_of h) b id) (sym (take_all others.from history (omega (arith, beyond)))) ∙ others.nothing
  | inr inside ↦
      let long : length (take others.from history) ≡ others.from = length-take-le others.from history (omega (arith, inside)) in
      still past b id history (take others.from history) (drop others.from history) (sym (take-append-drop others.from history)) others (omega (arith, long)) (λ position own. absurd (never position own))
      ∙ others.nothing
]

-- and what an upload takes the file to be is so
says_nothing : (past : Past) (b : Bucket) (id : Tree) (filing : Filing) (history : List Step) → ((place : ℕ) → waited filing ≡ Some place → IsOwn past place × ((call : Call) × (slice_get past.calls place ≡ Some call))) → ((position : ℕ) → IsOwnStep past position → ⊥) → file_of (state_of history) b id ≡ no_file
    → SaysNothing filing → FileAs past.calls history b id filing
says_nothing past b id (stays file) history flies never empty says = empty ∙ sym says
says_nothing past b id (becomes place command file) history flies never empty says = λ position step came is. absurd (never position (own_came past history place position step flies came))
says_nothing past b id unknown history flies never empty says = tt
says_nothing past b id (clears place command) history flies never empty says = λ position step came is. absurd (never position (own_came past history place position step flies came))
says_nothing past b id cleared history flies never empty says = ap (λ (f : File). f.chunks) empty

-- ---- at first

-- Before an upload has sent anything nothing of its file is there.
pub file_begins : (calls : List Call) (wire : ℤ) (b : Bucket) (id : Tree) → KnowsFile (past_of [] (length calls) calls wire) b id (stays no_file)
file_begins calls wire b id =
    record {
      in_log = λ place is. absurd is;
      room = omega arith;
      flies = λ n e. let bad : None ≡ Some n = e in absurd cc;
      each = λ history legal stands others.
          none_there (past_of [] (length calls) calls wire) b id history others (λ position own. elim own.own [
            | inl is ↦ absurd is
            | inr later ↦ let lt = get_within calls own.place own.call own.there in absurd (omega arith)
          ]);
      none = λ history legal stands never. refl;
    }

-- ---- it gives up

-- nothing is known of the file any more
pub file_unknown : (past : Past) (b : Bucket) (id : Tree) (filing : Filing) → KnowsFile past b id filing → KnowsFile past b id unknown
file_unknown past b id filing k = record { in_log = k.in_log; room = k.room; flies = λ n e. (let bad : None ≡ Some n = e in absurd cc); each = λ history legal stands others. tt; none = λ history legal stands never. tt }

-- ---- a call was sent

module _ (places : List ℕ) (since : ℕ) (calls : List Call) (call : Call) (wire : ℤ) (b : Bucket) (id : Tree) where
  -- another step than that of the call was one before
  own_old : (position : ℕ) → IsOwnStep (past_of places since (calls ++ call ∷ []) wire) position → (call.position ≡ Some position → ⊥) → IsOwnStep (past_of places since calls wire) position
  own_old position own other =
      elim (get_push calls call own.place own.call own.there) [
        | inl old ↦ record { place = own.place; own = own.own; call = own.call; there = old; placed = own.placed }
        | inr new ↦ absurd (other (ap (λ (c : Call). c.position) new.1 ∙ own.placed))
      ]

  -- and that of the call is one now
  own_new : (position : ℕ) → IsOwnStep (past_of places since calls wire) position → IsOwnStep (past_of places since (calls ++ call ∷ []) wire) position
  own_new position own = record { place = own.place; own = own.own; call = own.call; there = get_front calls (call ∷ []) own.place own.call own.there; placed = own.placed }

  own_last : since ≤ length calls → (position : ℕ) → call.position ≡ Some position → IsOwnStep (past_of places since (calls ++ call ∷ []) wire) position
  own_last room position placed = record { place = length calls; own = inr room; call = call; there = get_seam calls [] call; placed = placed }

  -- nobody else touched the file before the call took effect
  others_before : since ≤ length calls → (history before rest : List Step) (step : Step) → history ≡ before ++ step ∷ rest → call.position ≡ Some (length before) → OthersLeave (past_of places since (calls ++ call ∷ []) wire) history b id → OthersLeave (past_of places since calls wire) before b id
  others_before room history before rest step whole placed others =
      let early : others.from ≤ length before = others.later (length before) (own_last room (length before) placed) in
      let front : take others.from history ≡ take others.from before = ap (take others.from) whole ∙ take-append-le others.from before (step ∷ rest) early in
      by_steps (past_of places since calls wire) before b id others.from (ap (λ (h : List Step). file_of (state_of h) b id) (sym front) ∙ others.nothing) (λ position own. others.later position (own_new position own)) (λ f r s low e.
      let shorter : length f < length before = omega (arith, ap length e, length-append f (s ∷ r)) in
      elim (at_step (past_of places since (calls ++ call ∷ []) wire) history b id others f (r ++ step ∷ rest) s low (whole ∙ ap (λ (h : List Step). h ++ step ∷ rest) e ∙ append_assoc f (s ∷ r) (step ∷ rest))) [
        | inl own ↦ inl (own_old (length f) own (λ at. let same : length before ≡ length f = same_some (length before) (length f) (sym placed ∙ at) in omega arith))
        | inr leaves ↦ inr leaves
      ])

  -- a call that never took effect is no step
  others_without : (history : List Step) → call.position ≡ None → OthersLeave (past_of places since (calls ++ call ∷ []) wire) history b id → OthersLeave (past_of places since calls wire) history b id
  others_without history none others =
      by_steps (past_of places since calls wire) history b id others.from others.nothing (λ position own. others.later position (own_new position own)) (λ f r s low e. elim (at_step (past_of places since (calls ++ call ∷ []) wire) history b id others f r s low e) [
        | inl own ↦ inl (own_old (length f) own (λ at. let bad : None ≡ Some (length f) = sym none ∙ at in cc))
        | inr leaves ↦ inr leaves
      ])

  place_before : (history : List Step) (position : ℕ) (back : BackTo calls call history position) → call.position ≡ Some position → call.position ≡ Some (length back.before)
  place_before history position back placed = placed ∙ ap (λ (n : ℕ). Some n) (sym back.place)

  -- the call is the last step that touched the file
  behind : since ≤ length calls → (history : List Step) (position : ℕ) → Stands (calls ++ call ∷ []) history → call.position ≡ Some position → (back : BackTo calls call history position) → OthersLeave (past_of places since (calls ++ call ∷ []) wire) history b id
      → file_of (state_of history) b id ≡ file_of (step_after (state_of back.before) back.step) b id
  behind room history position stands placed back others =
      let early = others.later position (own_last room position placed) in
      let at = back.place in
      let seam : history ≡ (back.before ++ back.step ∷ []) ++ back.rest = back.whole ∙ sym (append_assoc back.before (back.step ∷ []) back.rest) in
      still (past_of places since (calls ++ call ∷ []) wire) b id history (back.before ++ back.step ∷ []) back.rest seam others (omega (arith, early, at, length-append back.before (back.step ∷ []))) (λ p own.
      let low = highest calls call history stands position placed own.place own.call p own.there own.placed in
      omega (arith, length-append back.before (back.step ∷ [])))
      ∙ ap (λ (s : State). file_of s b id) (state_one back.before back.step)

  -- and this stood there before
  file_before : (filing : Filing) (history : List Step) (position : ℕ) → call.position ≡ Some position → (back : BackTo calls call history position) → OthersLeave (past_of places since (calls ++ call ∷ []) wire) history b id
      → KnowsFile (past_of places since calls wire) b id filing → FileAs calls back.before b id filing
  file_before filing history position placed back others k =
      k.each back.before back.legal back.stands (others_before k.room history back.before back.rest back.step back.whole (place_before history position back placed) others)

  in_log_more : ((place : ℕ) → IsOf places place → (c : Call) × (slice_get calls place ≡ Some c)) → (place : ℕ) → IsOf places place → (c : Call) × (slice_get (calls ++ call ∷ []) place ≡ Some c)
  in_log_more in_log place is = let c = in_log place is in (c.0, get_front calls (call ∷ []) place c.0 c.1)

  room_more : since ≤ length calls → since ≤ length (calls ++ call ∷ [])
  room_more room = omega (arith, length-append calls (call ∷ []))

  -- the call that is waited for is the upload's own
  flies_last : (place : Option ℕ) → place ≡ Some (length calls) → since ≤ length calls → (n : ℕ) → place ≡ Some n → IsOwn (past_of places since (calls ++ call ∷ []) wire) n × ((c : Call) × (slice_get (calls ++ call ∷ []) n ≡ Some c))
  flies_last place last room n e =
      let here : n ≡ length calls = same_some n (length calls) (sym e ∙ last) in
      (inr (subst (λ (m : ℕ). since ≤ m) (sym here) room), (call, subst (λ (m : ℕ). slice_get (calls ++ call ∷ []) m ≡ Some call) (sym here) (get_seam calls [] call)))

  -- what the reply of the step says is what the step tells
  told_last : (Has : Told → Type 0) (step its : Step) → its ≡ step → its.command ≡ call.command → Has (told (asked call.command) step.reply) → Has (told_at its)
  told_last Has step its there command is = subst (λ (c : List ℕ). Has (told (asked c) its.reply)) (sym command) (subst (λ (s : Step). Has (told (asked call.command) s.reply)) (sym there) is)

  -- An insert was sent.
  pub file_sent : (file file' : File) (place : Option ℕ) → place ≡ Some (length calls) → Makes call.command b id file file' → KnowsFile (past_of places since calls wire) b id (stays file) → KnowsFile (past_of places since (calls ++ call ∷ []) wire) b id (becomes place call.command file')
  file_sent file file' place last makes k =
      record {
        in_log = in_log_more k.in_log;
        room = room_more k.room;
        flies = flies_last place last k.room;
        each = λ history legal stands others position step came is.
            let placed = at_last calls call history place position step last came in
            let back = back_to calls call history stands position placed legal in
            let there = step_last calls call history position step back came.2.there in
            let may = (legal_parts (state_of back.before) back.step back.rest back.onward).0 in
            let done_so = told_last HasInserted step back.step there back.command is in
            behind k.room history position stands placed back others
            ∙ makes (state_of back.before) back.step back.command may done_so (file_before (stays file) history position placed back others k);
        none = λ history legal stands never. tt;
      }

  -- The deletion of the chunks was sent.
  pub file_clears : (filing : Filing) (place : Option ℕ) → place ≡ Some (length calls) → Clears call.command b id → KnowsFile (past_of places since calls wire) b id filing → KnowsFile (past_of places since (calls ++ call ∷ []) wire) b id (clears place call.command)
  file_clears filing place last empties k =
      record {
        in_log = in_log_more k.in_log;
        room = room_more k.room;
        flies = flies_last place last k.room;
        each = λ history legal stands others position step came is.
            let placed = at_last calls call history place position step last came in
            let back = back_to calls call history stands position placed legal in
            let there = step_last calls call history position step back came.2.there in
            let may = (legal_parts (state_of back.before) back.step back.rest back.onward).0 in
            let done_so = told_last HasDeleted step back.step there back.command is in
            ap (λ (f : File). f.chunks) (behind k.room history position stands placed back others)
            ∙ empties (state_of back.before) back.step back.command may done_so;
        none = λ history legal stands never. tt;
      }

  -- a call was sent, and nothing is known of the file
  pub file_spoiled : (filing : Filing) → KnowsFile (past_of places since calls wire) b id filing → KnowsFile (past_of places since (calls ++ call ∷ []) wire) b id unknown
  file_spoiled filing k = record { in_log = in_log_more k.in_log; room = room_more k.room; flies = λ n e. (let bad : None ≡ Some n = e in absurd cc); each = λ history legal stands others. tt; none = λ history legal stands never. tt }

  left_by : (file : File) → Leaves call.command b id → KnowsFile (past_of places since calls wire) b id (stays file) → (history : List Step) (o : Option ℕ) → call.position ≡ o → IsLegal history → Stands (calls ++ call ∷ []) history → OthersLeave (past_of places since (calls ++ call ∷ []) wire) history b id
      → file_of (state_of history) b id ≡ file
  left_by file leaves k history None is legal stands others = k.each history legal (stands_without calls call history stands is legal) (others_without history is others)
  left_by file leaves k history (Some position) is legal stands others =
      let back = back_to calls call history stands position is legal in
      let may = (legal_parts (state_of back.before) back.step back.rest back.onward).0 in
      behind k.room history position stands is back others
      ∙ leaves (state_of back.before) back.step back.command may
      ∙ file_before (stays file) history position is back others k

  still_none : (filing : Filing) → KnowsFile (past_of places since calls wire) b id filing → (history : List Step) (o : Option ℕ) → call.position ≡ o → IsLegal history → Stands (calls ++ call ∷ []) history → ((position : ℕ) → IsOwnStep (past_of places since (calls ++ call ∷ []) wire) position → ⊥) → SaysNothing filing
  still_none filing k history None is legal stands never = k.none history legal (stands_without calls call history stands is legal) (λ position own. never position (own_new position own))
  still_none filing k history (Some position) is legal stands never = absurd (never position (own_last k.room position is))

  -- A call was sent that leaves the file, whatever comes of it.
  pub file_left : (file : File) → Leaves call.command b id → KnowsFile (past_of places since calls wire) b id (stays file) → KnowsFile (past_of places since (calls ++ call ∷ []) wire) b id (stays file)
  file_left file leaves k =
      record {
        in_log = in_log_more k.in_log;
        room = room_more k.room;
        flies = λ n e. (let bad : None ≡ Some n = e in absurd cc);
        each = λ history legal stands others. left_by file leaves k history call.position refl legal stands others;
        none = λ history legal stands never. still_none (stays file) k history call.position refl legal stands never;
      }

-- ---- a call was sent, and its reply came at once

module _ (places : List ℕ) (since : ℕ) (calls : List Call) (call : Call) (wire : ℤ) (b : Bucket) (id : Tree) (bytes : List ℕ) (saw : call.seen ≡ reply bytes) where
  -- its step, right behind the history before it
  abbrev AtOnce : List Step → Type 0
  AtOnce history = (position : ℕ) × (call.position ≡ Some position) × (back : BackTo calls call history position) × (bytes ≡ back.step.reply)

  at_once : (history : List Step) → IsLegal history → Stands (calls ++ call ∷ []) history → AtOnce history
  at_once history legal stands =
      let p = stands.placed (length calls) call bytes (get_seam calls [] call) saw in
      let s = stands.same (length calls) call p.0 (get_seam calls [] call) p.1 in
      let back = back_to calls call history stands p.0 p.1 legal in
      let there = step_last calls call history p.0 s.0 back s.1 in
      (p.0, p.1, back, subst (λ (w : Sight). SeenFits w s.0.reply) saw s.3 ∙ ap (λ (x : Step). x.reply) (sym there))

  -- so the call has a step
  never_none : since ≤ length calls → (history : List Step) → Stands (calls ++ call ∷ []) history → ((position : ℕ) → IsOwnStep (past_of places since (calls ++ call ∷ []) wire) position → ⊥) → ⊥
  never_none room history stands never =
      let p = stands.placed (length calls) call bytes (get_seam calls [] call) saw in
      never p.0 (own_last places since calls call wire b id room p.0 p.1)

  told_once : (Has : Told → Type 0) (step : Step) → step.command ≡ call.command → bytes ≡ step.reply → Has (told (asked call.command) bytes) → Has (told_at step)
  told_once Has step command fits is = subst (λ (r : List ℕ). Has (told (asked step.command) r)) fits (subst (λ (c : List ℕ). Has (told (asked c) bytes)) (sym command) is)

  -- An insert was sent and done.
  pub file_made : (file file' : File) → HasInserted (told (asked call.command) bytes) → Makes call.command b id file file' → KnowsFile (past_of places since calls wire) b id (stays file) → KnowsFile (past_of places since (calls ++ call ∷ []) wire) b id (stays file')
  file_made file file' is makes k =
      record {
        in_log = in_log_more places since calls call wire b id k.in_log;
        room = room_more places since calls call wire b id k.room;
        flies = λ n e. (let bad : None ≡ Some n = e in absurd cc);
        each = λ history legal stands others.
            let o = at_once history legal stands in
            let may = (legal_parts (state_of o.2.before) o.2.step o.2.rest o.2.onward).0 in
            behind places since calls call wire b id k.room history o.0 stands o.1 o.2 others
            ∙ makes (state_of o.2.before) o.2.step o.2.command may (told_once HasInserted o.2.step o.2.command o.3 is)
            (file_before places since calls call wire b id (stays file) history o.0 o.1 o.2 others k);
        none = λ history legal stands never. absurd (never_none k.room history stands never);
      }

  -- The chunks were removed.
  pub file_emptied : (filing : Filing) → HasDeleted (told (asked call.command) bytes) → Clears call.command b id → KnowsFile (past_of places since calls wire) b id filing → KnowsFile (past_of places since (calls ++ call ∷ []) wire) b id cleared
  file_emptied filing is empties k =
      record {
        in_log = in_log_more places since calls call wire b id k.in_log;
        room = room_more places since calls call wire b id k.room;
        flies = λ n e. (let bad : None ≡ Some n = e in absurd cc);
        each = λ history legal stands others.
            let o = at_once history legal stands in
            let may = (legal_parts (state_of o.2.before) o.2.step o.2.rest o.2.onward).0 in
            ap (λ (f : File). f.chunks) (behind places since calls call wire b id k.room history o.0 stands o.1 o.2 others)
            ∙ empties (state_of o.2.before) o.2.step o.2.command may (told_once HasDeleted o.2.step o.2.command o.3 is);
        none = λ history legal stands never. tt;
      }

-- ---- an answer came

module _ (places : List ℕ) (since n : ℕ) (seen : Sight) (calls : List Call) (call : Call) (wire : ℤ) (b : Bucket) (id : Tree) (found : slice_get calls n ≡ Some call) (waits : call.seen ≡ waiting) where
  own_seen : (position : ℕ) → IsOwnStep (past_of places since calls wire) position → IsOwnStep (past_of places since (see n seen calls) wire) position
  own_seen position own =
      let g = (grown_see n seen calls call found waits).keeps own.place own.call own.there in
      record { place = own.place; own = own.own; call = g.0; there = g.1; placed = g.3 ∙ own.placed }

  others_unseen : (history : List Step) → OthersLeave (past_of places since (see n seen calls) wire) history b id → OthersLeave (past_of places since calls wire) history b id
  others_unseen history others =
      by_steps (past_of places since calls wire) history b id others.from others.nothing (λ position own. others.later position (own_seen position own)) (λ f r s low e. elim (at_step (past_of places since (see n seen calls) wire) history b id others f r s low e) [
        | inl own ↦
            let old = see_from n seen calls own.place own.call own.there in
            inl (own_back (past_of places since calls wire) (past_of places since (see n seen calls) wire) (grown_see n seen calls call found waits) (length f) own own.own old.0 old.1)
        | inr leaves ↦ inr leaves
      ])

  in_log_seen : ((place : ℕ) → IsOf places place → (c : Call) × (slice_get calls place ≡ Some c)) → (place : ℕ) → IsOf places place → (c : Call) × (slice_get (see n seen calls) place ≡ Some c)
  in_log_seen in_log place is =
      let c = in_log place is in
      let g = (grown_see n seen calls call found waits).keeps place c.0 c.1 in
      (g.0, g.1)

  room_seen : since ≤ length calls → since ≤ length (see n seen calls)
  room_seen room = let same = length-see n seen calls in omega arith

  -- whatever it was, nothing is known of the file
  pub file_seen : (filing : Filing) → KnowsFile (past_of places since calls wire) b id filing → KnowsFile (past_of places since (see n seen calls) wire) b id unknown
  file_seen filing k = record { in_log = in_log_seen k.in_log; room = room_seen k.room; flies = λ m e. (let bad : None ≡ Some m = e in absurd cc); each = λ history legal stands others. tt; none = λ history legal stands never. tt }

  -- the upload waits for no write
  pub file_still : (file : File) → KnowsFile (past_of places since calls wire) b id (stays file) → KnowsFile (past_of places since (see n seen calls) wire) b id (stays file)
  file_still file k =
      record {
        in_log = in_log_seen k.in_log;
        room = room_seen k.room;
        flies = λ m e. (let bad : None ≡ Some m = e in absurd cc);
        each = λ history legal stands others. k.each history legal (stands_unseen n seen calls call history found waits stands) (others_unseen history others);
        none = λ history legal stands never. k.none history legal (stands_unseen n seen calls call history found waits stands) (λ position own. never position (own_seen position own));
      }

module _ (places : List ℕ) (since n : ℕ) (bytes : List ℕ) (calls : List Call) (call : Call) (wire : ℤ) (b : Bucket) (id : Tree) (found : slice_get calls n ≡ Some call) (waits : call.seen ≡ waiting) where
  -- The insert was done.
  pub file_done : (file : File) (place : Option ℕ) (command : List ℕ) → place ≡ Some n → HasInserted (told (asked command) bytes) → KnowsFile (past_of places since calls wire) b id (becomes place command file) → KnowsFile (past_of places since (see n (reply bytes) calls) wire) b id (stays file)
  file_done file place command here is k =
      record {
        in_log = in_log_seen places since n (reply bytes) calls call wire b id found waits k.in_log;
        room = room_seen places since n (reply bytes) calls call wire b id found waits k.room;
        flies = λ m e. (let bad : None ≡ Some m = e in absurd cc);
        each = λ history legal stands others.
            let h = heard_at n bytes calls call history found stands in
            k.each history legal (stands_unseen n (reply bytes) calls call history found waits stands) (others_unseen places since n (reply bytes) calls call wire b id found waits history others)
            h.position h.step (n, here, h.took) (subst (λ (r : List ℕ). HasInserted (told (asked command) r)) h.fits is);
        none = λ history legal stands never.
            let h = heard_at n bytes calls call history found stands in
            absurd (never h.position (own_seen places since n (reply bytes) calls call wire b id found waits h.position (own_came (past_of places since calls wire) history place h.position h.step k.flies (n, here, h.took))));
      }

  -- The deletion was done.
  pub file_cleared : (place : Option ℕ) (command : List ℕ) → place ≡ Some n → HasDeleted (told (asked command) bytes) → KnowsFile (past_of places since calls wire) b id (clears place command) → KnowsFile (past_of places since (see n (reply bytes) calls) wire) b id cleared
  file_cleared place command here is k =
      record {
        in_log = in_log_seen places since n (reply bytes) calls call wire b id found waits k.in_log;
        room = room_seen places since n (reply bytes) calls call wire b id found waits k.room;
        flies = λ m e. (let bad : None ≡ Some m = e in absurd cc);
        each = λ history legal stands others.
            let h = heard_at n bytes calls call history found stands in
            k.each history legal (stands_unseen n (reply bytes) calls call history found waits stands) (others_unseen places since n (reply bytes) calls call wire b id found waits history others)
            h.position h.step (n, here, h.took) (subst (λ (r : List ℕ). HasDeleted (told (asked command) r)) h.fits is);
        none = λ history legal stands never. tt;
      }

-- ---- others call

-- the places of another list are those of the calls that the upload sent
pub record AreOwn (places : List ℕ) (since : ℕ) (calls : List Call) (places' : List ℕ) : Type 0 where
  pub stood : (place : ℕ) → IsOf places' place → (IsOf places place ⊎ (since ≤ place)) × ((c : Call) × (slice_get calls place ≡ Some c))
  pub kept : (place : ℕ) (c : Call) → slice_get calls place ≡ Some c → IsOf places place ⊎ (since ≤ place) → IsOf places' place

module _ (places places' : List ℕ) (since : ℕ) (calls calls' : List Call) (wire wire' : ℤ) (b : Bucket) (id : Tree) (own : AreOwn places since calls places') (grown : IsGrown calls calls') where
  -- of the longer log no call behind the own ones is the upload's
  stood_before : (position : ℕ) (step : IsOwnStep (past_of places' (length calls') calls' wire') position) → IsOwnStep (past_of places since calls wire) position
  stood_before position step =
      elim step.own [
        | inl is ↦ let s = own.stood step.place is in own_back (past_of places since calls wire) (past_of places' (length calls') calls' wire') grown position step s.0 s.1.0 s.1.1
        | inr later ↦ let lt = get_within calls' step.place step.call step.there in absurd (omega arith)
      ]

  -- and each of the upload's is one of them
  stood_later : (position : ℕ) → IsOwnStep (past_of places since calls wire) position → IsOwnStep (past_of places' (length calls') calls' wire') position
  stood_later position step =
      let g = grown.keeps step.place step.call step.there in
      record { place = step.place; own = inl (own.kept step.place step.call step.there step.own); call = g.0; there = g.1; placed = g.3 ∙ step.placed }

  others_front : (history before tail : List Step) → history ≡ before ++ tail → (others : OthersLeave (past_of places' (length calls') calls' wire') history b id) → others.from ≤ length before → OthersLeave (past_of places since calls wire) before b id
  others_front history before tail whole others early =
      let front : take others.from history ≡ take others.from before = ap (take others.from) whole ∙ take-append-le others.from before tail early in
      by_steps (past_of places since calls wire) before b id others.from (ap (λ (h : List Step). file_of (state_of h) b id) (sym front) ∙ others.nothing) (λ position step. others.later position (stood_later position step)) (λ f r s low e.
      elim (at_step (past_of places' (length calls') calls' wire') history b id others f (r ++ tail) s low (whole ∙ ap (λ (h : List Step). h ++ tail) e ∙ append_assoc f (s ∷ r) tail)) [
        | inl step ↦ inl (stood_before (length f) step)
        | inr leaves ↦ inr leaves
      ])

  as_before : (history before tail : List Step) → history ≡ before ++ tail → Stands calls before → (others : OthersLeave (past_of places' (length calls') calls' wire') history b id) → others.from ≤ length before → file_of (state_of history) b id ≡ file_of (state_of before) b id
  as_before history before tail whole stands others early =
      still (past_of places' (length calls') calls' wire') b id history before tail whole others early (λ position step. own_within (past_of places since calls wire) before position stands (stood_before position step))

  came_back : (history before tail : List Step) → history ≡ before ++ tail → Stands calls before → (place : Option ℕ) (position : ℕ) (step : Step) → ((n : ℕ) → place ≡ Some n → (c : Call) × (slice_get calls n ≡ Some c)) → CameAs calls' history place position step → CameAs calls before place position step
  came_back history before tail whole stands place position step stood came =
      let c = stood came.0 came.1 in
      (came.0, came.1, took_back calls calls' before tail came.0 position step c.0 grown stands c.1 (subst (λ (h : List Step). TookEffect calls' h came.0 position step) whole came.2))

  as_kept : (filing : Filing) (history before tail : List Step) → history ≡ before ++ tail → Stands calls before → ((n : ℕ) → waited filing ≡ Some n → (c : Call) × (slice_get calls n ≡ Some c)) → (others : OthersLeave (past_of places' (length calls') calls' wire') history b id) → others.from ≤ length before
      → FileAs calls before b id filing → FileAs calls' history b id filing
  as_kept (stays file) history before tail whole stands stood others early h = as_before history before tail whole stands others early ∙ h
  as_kept (becomes place command file) history before tail whole stands stood others early h =
      λ position step came is. as_before history before tail whole stands others early ∙ h position step (came_back history before tail whole stands place position step stood came) is
  as_kept unknown history before tail whole stands stood others early h = tt
  as_kept (clears place command) history before tail whole stands stood others early h =
      λ position step came is. ap (λ (f : File). f.chunks) (as_before history before tail whole stands others early) ∙ h position step (came_back history before tail whole stands place position step stood came) is
  as_kept cleared history before tail whole stands stood others early h = ap (λ (f : File). f.chunks) (as_before history before tail whole stands others early) ∙ h

  -- where it has no step but from beyond a history on, in which its log stands, it has none
  none_before : (before : List Step) → Stands calls before → (from : ℕ) → length before < from → ((position : ℕ) → IsOwnStep (past_of places since calls wire) position → from ≤ position) → (position : ℕ) → IsOwnStep (past_of places since calls wire) position → ⊥
  none_before before stands from beyond later position step =
      let high = later position step in
      let low = own_within (past_of places since calls wire) before position stands step in
      omega (arith, beyond, high, low)

  -- the call that it waits for is still its own
  kept_flies : (filing : Filing) → KnowsFile (past_of places since calls wire) b id filing → (n : ℕ) → waited filing ≡ Some n → IsOwn (past_of places' (length calls') calls' wire') n × ((call : Call) × (slice_get calls' n ≡ Some call))
  kept_flies filing k n e =
      let f = k.flies n e in
      let g = grown.keeps n f.1.0 f.1.1 in
      (inl (own.kept n f.1.0 f.1.1 f.0), (g.0, g.1))

  -- What an upload knows holds on while others call.
  pub file_kept : (o : Owner) (filing : Filing) → Onward calls calls' o → KnowsFile (past_of places since calls wire) b id filing → KnowsFile (past_of places' (length calls') calls' wire') b id filing
  file_kept o filing onward k =
      record {
        in_log = λ place is. (let s = own.stood place is in let g = grown.keeps place s.1.0 s.1.1 in (g.0, g.1));
        room = omega arith;
        flies = λ n e. kept_flies filing k n e;
        each = λ history legal stands others.
            let e = onward.earlier history legal stands in
            elim (cases_lt (length e.before) others.from) [
              | inl behind_all ↦
                  let never : (position : ℕ) → IsOwnStep (past_of places since calls wire) position → ⊥ = λ position step. none_before e.before e.stands others.from behind_all (λ p s. others.later p (stood_later p s)) position step in
                  let never_now : (position : ℕ) → IsOwnStep (past_of places' (length calls') calls' wire') position → ⊥ = λ position step. never position (stood_before position step) in
                  says_nothing (past_of places' (length calls') calls' wire') b id filing history (kept_flies filing k) never_now (none_there (past_of places' (length calls') calls' wire') b id history others never_now) (k.none e.before e.legal e.stands never)
              | inr early ↦
                  as_kept filing history e.before e.tail e.whole e.stands (λ n is. (k.flies n is).1) others early
                  (k.each e.before e.legal e.stands (others_front history e.before e.tail e.whole others early))
            ];
        none = λ history legal stands never. (let e = onward.earlier history legal stands in k.none e.before e.legal e.stands (λ position step. never position (stood_later position step)));
      }
