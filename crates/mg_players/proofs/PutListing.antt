-- What a put's upload knows of a list of indexes while it reads that.
use Rattle.std.proofs.Common.{◌≡◌, ◌≢◌, ◌⊎◌, ◌<◌, ◌≤◌, ◌+◌, ℕ, zero, suc, ℤ, pos, Bool, true, false, List, [], ◌∷◌, ◌++◌, length, length-append, Option, Some, None, Ok, refl, sym, ap, ap₂, ◌∙◌, subst, inl, inr, arith, append-nil, append_assoc}
use Rattle.std.specs.Ordering.{int_eq}
use Rattle.std.specs.Prelude.{if◌then◌else◌, unwrap_or}
use Rattle.mg_bson.specs.Raw.{fields}
use Rattle.mg_bson.specs.Tree.{Fields}
use Rattle.mg_server.specs.Calls.{AddsOnly, Grows, Keeps, Past, past_of}
use Rattle.mg_link.specs.Errors.{plain}
use Rattle.mg_link.specs.Exec.{Sending}
use Rattle.mg_link.specs.Link.{Awaited, LogTold}
use Rattle.mg_link.specs.Log.{Call, reply}
use Rattle.mg_link.specs.Pinned.{is_invalid}
use Rattle.mg_link.specs.Session.{Session}
use Rattle.mg_link.specs.declared.action.Step.{Step}
use Rattle.mg_link.specs.declared.action.Step.TheVariants as came
use Rattle.mg_link.specs.declared.error.Error.{Error}
use Rattle.mg_link.specs.declared.error.ErrorKind.TheVariants as kind
use Rattle.mg_link.specs.declared.pinned.PinnedConnection.{PinnedConnection}
use Rattle.mg_link.specs.declared.pinned.PinnedConnection.TheVariants as connection
use Rattle.mg_server.proofs.Adding.{adds_on}
use Rattle.mg_server.proofs.Calls.{keeps_longer, keeps_on, same_keeps}
use Rattle.mg_server.proofs.Filed.{Grew}
use Rattle.mg_server.proofs.Owners.{same_some}
use Rattle.mg_server.proofs.Pasts.{heard_at_grows, heard_reply}
use Rattle.mg_link.proofs.Places.{get_within}
use Rattle.mg_options.specs.Fields.{fields_in}
use Rattle.mg_ops.specs.Cursors.{Cursor, cursor_of}
use Rattle.mg_ops.specs.Failing.{FailsBy}
use Rattle.mg_cursor.specs.Batches.{documents_of}
use Rattle.mg_cursor.specs.Causes.{IsUnderway, MoreFails}
use Rattle.mg_cursor.specs.Client as client
use Rattle.mg_cursor.specs.Client.{ClientCursor, IsOver, IsSound, SoundBy, asks, at_rest, behind_reply, client_ticket, holds, new_client, reply_in, rests}
use Rattle.mg_cursor.specs.Documents as giving
use Rattle.mg_cursor.specs.Documents.{AdvancesOnce, DocumentCursor, Fills, TakesNext, advance_by, filled_with, gives, polls}
use Rattle.mg_cursor.specs.Polling as polling
use Rattle.mg_cursor.specs.Polling.{CannotAsk, Hears, PollsNext}
use Rattle.mg_cursor.specs.Seeking.{EndsSeeking, SeeksDocument, counted, most_empty, session_after, uncounted}
use Rattle.mg_cursor.specs.declared.polls.AdvancePoll.{AdvancePoll}
use Rattle.mg_cursor.specs.declared.polls.AdvancePoll.TheVariants as advance
use Rattle.mg_cursor.specs.declared.polls.NextPoll.{NextPoll}
use Rattle.mg_cursor.specs.declared.polls.NextPoll.TheVariants as next
use Rattle.mg_cursor.specs.declared.polls.TryPoll.{TryPoll}
use Rattle.mg_cursor.specs.declared.polls.TryPoll.TheVariants as try
use Rattle.mg_cursor.specs.declared.results.AdvanceResult.{AdvanceResult}
use Rattle.mg_cursor.specs.declared.results.AdvanceResult.TheVariants as result
use Rattle.mg_cursor.proofs.Caused.{next_caused}
use Rattle.mg_cursor.proofs.Keeping.{sound_in_any}
use Rattle.mg_cursor.proofs.SeekCaused.{fails_grow, underway_rest}
use Rattle.mg_gridfs.specs.Buckets.{ClientBucket}
use Rattle.mg_gridfs.specs.Commands.{listing_lines}
use Rattle.mg_gridfs.specs.declared.indexes.Place.{Place}
use Rattle.mg_players.specs.Gets.{no_manner}
use Rattle.mg_players.specs.InTurn.{AreInTurn, NoneBehind, empty_by, empty_taken, empty_with, newest}
use Rattle.mg_players.specs.PutFailures as fails
use Rattle.mg_players.specs.PutFailures.{AreListedIndexes, IsListBatch, IsListedIndex, IsOfList, PutCheckFails, ReadsList, HeardList, brought, documents_by, documents_held, batch_documents, first_batch, held_by, its_documents, last_empty, next_batch}
use Rattle.mg_players.specs.PutChecks.{IsGetMore}
use Rattle.mg_players.proofs.InTurn.{BatchFrom, HeardLater, NextLater, all_taken, batch_from, came_later, empty_on, from_hand, from_reply, heard_on, more_grows, near, newest_on, pending_more, sends_one, turn_behind}
use Rattle.mg_players.proofs.JustGrown.{GrowsBehind, GrowsJust, SendsNoMore, alone_at, alone_grows, just_behind, log_just, none_after}
use Rattle.mg_players.proofs.PutChecking.{IsMoreBy, more_sends, opened_plainly}

-- ---- a later time

-- where behind its first command nothing else became the call's own
abbrev pub of_list_behind : (past past' : Past) → GrowsBehind past past' → (b : ClientBucket) (c : ClientCursor) → IsOfList past b c → IsOfList past' b c
of_list_behind past past' later b c l = record {
  at = l.at;
  place = l.place;
  first = l.first;
  heard = heard_at_grows past past' later.grows l.place (fields_in (listing_lines b l.at)) (reply l.first) (λ bad. cc) l.heard;
  success = l.success;
  out = l.out;
  opens = l.opens;
  replies = l.replies;
  behind = turn_behind past past' later.grows (new_client l.out) l.place l.replies (at_rest c) (later.behind l.place (l.heard.own, get_within past.calls l.place l.heard.call l.heard.there)) l.behind;
}

module _ (past past' : Past) (just : GrowsJust past past') (b : ClientBucket) where
  abbrev grows : Grows past past'
  grows = just.grows

  abbrev pub of_list_grows : (c : ClientCursor) → IsOfList past b c → IsOfList past' b c
  of_list_grows c l = of_list_behind past past' (just_behind past past' just) b c l

  pub batch_grows : (bytes : List ℕ) → IsListBatch past b bytes → IsListBatch past' b bytes
  batch_grows bytes (first_batch at heard success) = first_batch at (heard_reply past past' grows (fields_in (listing_lines b at)) bytes heard) success
  batch_grows bytes (next_batch c l h) = next_batch c (of_list_grows c l) (more_grows past past' grows c bytes h)

  pub listed_grows : (document : List ℕ) → IsListedIndex past b document → IsListedIndex past' b document
  listed_grows document l = record { bytes = l.bytes; batch = batch_grows l.bytes l.batch; front = l.front; after = l.after; holds = l.holds }

  left_grows : (d : DocumentCursor) → (d.behind ≡ []) ⊎ (AreListedIndexes past b d.behind × (d.empty ≡ 0)) → (d.behind ≡ []) ⊎ (AreListedIndexes past' b d.behind × (d.empty ≡ 0))
  left_grows d (inl none) = inl none
  left_grows d (inr l) = inr (record { bytes = l.0.bytes; batch = batch_grows l.0.bytes l.0.batch; front = l.0.front; holds = l.0.holds }, l.1)

  longer : length past.calls ≤ length past'.calls
  longer = keeps_longer past.calls past'.calls grows.keeps

  pub more_fails_grows : (c : ClientCursor) (e : Error) → MoreFails past c e → MoreFails past' c e
  more_fails_grows c e f = fails_grow past past' grows c e f

module _ (past past' : Past) (still : SendsNoMore past past') (b : ClientBucket) where
  pub reads_grows : (old new : Awaited) (d : DocumentCursor) (k : Place) (given : List (List ℕ)) → ((m : ℕ) → client_ticket d.cursor ≡ Some m → new m ≡ old m) → ReadsList old past b d k given → ReadsList new past' b d k given
  reads_grows old new d k given same l =
      let more = longer past past' still.just b in
      let within = l.within in
      record {
        of_list = of_list_grows past past' still.just b d.cursor l.of_list;
        is_at = l.is_at;
        hand = l.hand;
        left = left_grows past past' still.just b d l.left;
        empties = l.empties;
        few = l.few;
        all = l.all;
        within = omega (arith, more, within);
        waits = λ sending ticket place is held at. l.waits sending ticket place is held (sym (same ticket (ap client.ticket_by is ∙ held)) ∙ at);
        alone = alone_grows past past' still old new d.cursor (newest l.of_list.place l.of_list.replies) same l.alone;
      }

-- ---- its cursor

documents_on : (replies : List (ℕ × List ℕ)) (place : ℕ) (bytes : List ℕ) → documents_by (replies ++ (place, bytes) ∷ []) ≡ documents_by replies ++ batch_documents bytes
documents_on [] place bytes = append-nil (batch_documents bytes)
documents_on (x ∷ more) place bytes = ap (λ (ds : List (List ℕ)). batch_documents x.1 ++ ds) (documents_on more place bytes) ∙ sym (append_assoc (batch_documents x.1) (documents_by more) (batch_documents bytes))

-- they are as many as its batches hold
held_documents : (replies : List (ℕ × List ℕ)) → length (documents_by replies) ≡ held_by replies
held_documents [] = refl
held_documents (x ∷ more) = let rest = held_documents more in length-append (batch_documents x.1) (documents_by more) ∙ ap (λ (n : ℕ). length (batch_documents x.1) + n) rest

pub brought_are : (past : Past) (b : ClientBucket) (c : ClientCursor) (l : IsOfList past b c) → length (its_documents l) ≡ brought l
brought_are past b c l = length-append (batch_documents l.first) (documents_by l.replies) ∙ ap (λ (n : ℕ). length (batch_documents l.first) + n) (held_documents l.replies)

-- nothing is left, and nothing in hand
none_more : (given left hand : List (List ℕ)) → left ≡ [] → hand ≡ [] → given ++ (left ++ hand) ≡ given
none_more given left hand none none_too = ap₂ (λ (xs ys : List (List ℕ)). given ++ (xs ++ ys)) none none_too ∙ append-nil given

-- no document is in a cursor that holds no reply
none_held : (doing : client.Doing) → reply_in doing ≡ None → documents_held doing ≡ []
none_held rests none = refl
none_held (holds bytes) none = absurd (let bad : Some bytes ≡ None = none in cc)
none_held (asks sending) none = refl

pub none_few : 0 < most_empty
none_few = omega arith

-- the first batch alone is not too many
first_few : (o : Option (List (List ℕ))) → empty_with 0 o < most_empty
first_few None = omega arith
first_few (Some []) = omega arith
first_few (Some (x ∷ xs)) = omega arith

-- not too many batches are empty at the end of a list that is read
few_in_row : (awaited : Awaited) (past : Past) (b : ClientBucket) (d : DocumentCursor) (k : Place) (given : List (List ℕ)) (l : ReadsList awaited past b d k given) (doing : client.Doing) → d.cursor.doing ≡ doing → last_empty l.of_list < most_empty
few_in_row awaited past b d k given l rests is = let all = l.empties ∙ ap (λ (y : client.Doing). empty_taken y (last_empty l.of_list)) is in let few = l.few in omega (arith, all, few)
few_in_row awaited past b d k given l (holds bytes) is =
    let first = first_few (documents_of l.of_list.first) in
    subst (λ (replies : List (ℕ × List ℕ)). empty_by (empty_with 0 (documents_of l.of_list.first)) replies < most_empty) (sym (l.hand bytes is).1) first
few_in_row awaited past b d k given l (asks sending) is = let all = l.empties ∙ ap (λ (y : client.Doing). empty_taken y (last_empty l.of_list)) is in let few = l.few in omega (arith, all, few)

module _ (past : Past) (b : ClientBucket) where
  -- what is in hand or on its way makes no difference
  abbrev resting_as : (c c' : ClientCursor) → at_rest c' ≡ at_rest c → IsOfList past b c → IsOfList past b c'
  resting_as c c' same l = record {
    at = l.at;
    place = l.place;
    first = l.first;
    heard = l.heard;
    success = l.success;
    out = l.out;
    opens = l.opens;
    replies = l.replies;
    behind = subst (AreInTurn past (new_client l.out) l.place l.replies) (sym same) l.behind;
  }

  abbrev heard_next : (bytes : List ℕ) (c c' : ClientCursor) (said : Cursor) (l : IsOfList past b c) → HeardLater past c bytes (newest l.place l.replies) → c.id ≢ pos 0 → cursor_of (fields bytes) ≡ Ok said → c' ≡ behind_reply said c → IsOfList past b c'
  heard_next bytes c c' said l h held says is = record {
    at = l.at;
    place = l.place;
    first = l.first;
    heard = l.heard;
    success = l.success;
    out = l.out;
    opens = l.opens;
    replies = l.replies ++ (h.more.heard.place, bytes) ∷ [];
    behind = subst (AreInTurn past (new_client l.out) l.place (l.replies ++ (h.more.heard.place, bytes) ∷ [])) (sym (ap at_rest is))
        (heard_on past (new_client l.out) l.place l.replies (at_rest c) h.more.heard.place bytes h.more.session said l.behind h.later held h.more.heard.heard h.more.success says);
  }

-- ---- its end

-- a cursor that is bound to no connection is bound to none behind a reply
unbound_still : (id : ℤ) (b : Bool) → (if b then connection.Unpinned else connection.Unpinned) ≡ connection.Unpinned
unbound_still id true = refl
unbound_still id false = refl

turns_unbound : (past : Past) (c : ClientCursor) (last : ℕ) (replies : List (ℕ × List ℕ)) (c' : ClientCursor) → AreInTurn past c last replies c' → c.pinned ≡ connection.Unpinned → c'.pinned ≡ connection.Unpinned
turns_unbound past c last [] c' h free = ap (λ (x : ClientCursor). x.pinned) h ∙ free
turns_unbound past c last (x ∷ more) c' h free =
    turns_unbound past (behind_reply h.5 c) x.0 more c' h.7 (ap (λ (p : PinnedConnection). if int_eq h.5.id (pos 0) then connection.Unpinned else p) free ∙ unbound_still h.5.id (int_eq h.5.id (pos 0)))

-- it is over where the server holds it no longer
over_there : (past : Past) (b : ClientBucket) (c : ClientCursor) → IsOfList past b c → IsOver c → c.id ≡ pos 0
over_there past b c l (inl zero_is) = zero_is
over_there past b c l (inr lost) =
    let free : c.pinned ≡ connection.Unpinned = turns_unbound past (new_client l.out) l.place l.replies (at_rest c) l.behind refl in
    absurd (let bad : is_invalid connection.Unpinned ≡ true = sym (ap is_invalid free) ∙ lost in cc)

never_ends : (c c' : ClientCursor) (s : Step Sending (List ℕ)) → Hears c s c' next.End → ⊥
never_ends c c' (came.Pending sending) h = let bad = h.1 in cc
never_ends c c' (came.Done bytes) (polling.gave said says is answer) = cc
never_ends c c' (came.Done bytes) (polling.broke e fails_so is answer) = cc
never_ends c c' (came.Failed e) h = let bad = h.1 in cc

-- nothing is in hand where it is over
ends_over : (old new : Awaited) (log log' : LogTold) (wire : ℤ) (started : Bool) (c c' : ClientCursor) → PollsNext old new log log' wire None started c c' next.End → (c.doing ≡ rests) × IsOver c
ends_over old new log log' wire started c c' (polling.hands_out bytes at none same is answer) = absurd cc
ends_over old new log log' wire started c c' (polling.is_over at over none same is answer) = (at, over)
ends_over old new log log' wire started c c' (polling.not_built at may e fails_so none same is answer) = absurd cc
ends_over old new log log' wire started c c' (polling.begins at may sending new_one runs) = absurd (never_ends c c' runs.came runs.hears)
ends_over old new log log' wire started c c' (polling.goes_on sending at runs) = absurd (never_ends c c' runs.came runs.hears)

-- ---- one advance

-- behind an empty batch
record Emptied (past : Past) (b : ClientBucket) (d d' : DocumentCursor) (k : Place) (given : List (List ℕ)) : Type 0 where
  of_list : IsOfList past b d'.cursor
  is_at : of_list.at ≡ k
  one_more : last_empty of_list ≡ suc d.empty
  rested : d'.cursor.doing ≡ rests
  behind_none : d'.behind ≡ []
  same_count : d'.empty ≡ d.empty
  all : its_documents of_list ≡ given
  within : newest of_list.place of_list.replies < length past.calls
  last : NoneBehind past (newest of_list.place of_list.replies)

abbrev GaveBy : Awaited → AdvanceResult (Unit {0}) → Past → ClientBucket → DocumentCursor → DocumentCursor → Place → List (List ℕ) → Type 0
GaveBy new (result.Advanced t) past b d d' k given = (document : List ℕ) × (d'.current ≡ Some document) × IsListedIndex past b document × ReadsList new past b (uncounted d') k (given ++ document ∷ [])
GaveBy new result.Exhausted past b d d' k given = HeardList past b k given
GaveBy new result.Waiting past b d d' k given = Emptied past b d d' k given

abbrev AdvancedBy : Awaited → TryPoll → Past → ClientBucket → DocumentCursor → DocumentCursor → Place → List (List ℕ) → Type 0
AdvancedBy new try.Pending past b d d' k given = ReadsList new past b d' k given
AdvancedBy new (try.Ready a) past b d d' k given = GaveBy new a past b d d' k given
AdvancedBy new (try.Failed e) past b d d' k given = PutCheckFails past b e

module _ (new : Awaited) (past : Past) (b : ClientBucket) (d : DocumentCursor) (k : Place) (given : List (List ℕ)) where
  gives_next : (old : Awaited) (x : List ℕ) (xs : List (List ℕ)) → d.behind ≡ x ∷ xs → ((m : ℕ) → client_ticket d.cursor ≡ Some m → new m ≡ old m) → ReadsList old past b d k given → ReadsList new past b (uncounted (record d { current = Some x; behind = xs })) k (given ++ x ∷ []) × IsListedIndex past b x
  gives_next old x xs these same l =
      elim l.left [
        | inl none ↦ absurd (let bad : x ∷ xs ≡ [] = sym these ∙ none in cc)
        | inr ahead ↦
            let at = ahead.0 in
            let holds_so : documents_of at.bytes ≡ Some (at.front ++ x ∷ xs) = at.holds ∙ ap (λ (ds : List (List ℕ)). Some (at.front ++ ds)) these in
            let hand = documents_held d.cursor.doing in (
              record {
                of_list = l.of_list;
                is_at = l.is_at;
                hand = l.hand;
                left = inr (record { bytes = at.bytes; batch = at.batch; front = at.front ++ x ∷ []; holds = holds_so ∙ ap (λ (ds : List (List ℕ)). Some ds) (sym (append_assoc at.front (x ∷ []) xs)) }, refl);
                empties = sym ahead.1 ∙ l.empties;
                few = none_few;
                all = l.all ∙ ap (λ (ds : List (List ℕ)). given ++ (ds ++ hand)) these ∙ sym (append_assoc given (x ∷ []) (xs ++ hand));
                within = l.within;
                waits = λ sending ticket place is held at_place. l.waits sending ticket place is held (sym (same ticket (ap client.ticket_by is ∙ held)) ∙ at_place);
                alone = alone_at old new past d.cursor (newest l.of_list.place l.of_list.replies) same l.alone;
              },
              record { bytes = at.bytes; batch = at.batch; front = at.front; after = xs; holds = holds_so },
            )
      ]

  -- what comes of a batch
  fills_by : (c : ClientCursor) (bytes : List ℕ) (documents : List (List ℕ)) → documents_of bytes ≡ Some documents → c.doing ≡ rests → (l : IsOfList past b c) → l.at ≡ k → IsListBatch past b bytes → last_empty l ≡ empty_with d.empty (documents_of bytes) → its_documents l ≡ given ++ batch_documents bytes → newest l.place l.replies < length past.calls → NoneBehind past (newest l.place l.replies) → AdvancedBy new (advance_by documents) past b d (filled_with c documents d) k given
  fills_by c bytes [] holds_so rested l its batch in_row sum within last =
      let none : batch_documents bytes ≡ [] = ap (λ (o : Option (List (List ℕ))). unwrap_or o []) holds_so in
      record { of_list = l; is_at = its; one_more = in_row ∙ ap (λ (o : Option (List (List ℕ))). empty_with d.empty o) holds_so; rested = rested; behind_none = refl; same_count = refl; all = sum ∙ ap (λ (ds : List (List ℕ)). given ++ ds) none ∙ append-nil given; within = within; last = last }
  fills_by c bytes (x ∷ xs) holds_so rested l its batch in_row sum within last =
      let none_last : last_empty l ≡ 0 = in_row ∙ ap (λ (o : Option (List (List ℕ))). empty_with d.empty o) holds_so in
      let some : batch_documents bytes ≡ x ∷ xs = ap (λ (o : Option (List (List ℕ))). unwrap_or o []) holds_so in
      let no_hand : xs ++ documents_held c.doing ≡ xs = ap (λ (y : client.Doing). xs ++ documents_held y) rested ∙ append-nil xs in (
        x,
        refl,
        record { bytes = bytes; batch = batch; front = []; after = xs; holds = holds_so },
        record {
          of_list = l;
          is_at = its;
          hand = λ held at. absurd (let bad : rests ≡ holds held = sym rested ∙ at in cc);
          left = inr (record { bytes = bytes; batch = batch; front = x ∷ []; holds = holds_so }, refl);
          empties = sym (ap (λ (y : client.Doing). empty_taken y (last_empty l)) rested ∙ none_last);
          few = none_few;
          all = sum ∙ ap (λ (ds : List (List ℕ)). given ++ ds) some ∙ sym (append_assoc given (x ∷ []) xs) ∙ sym (ap (λ (ds : List (List ℕ)). (given ++ x ∷ []) ++ ds) no_hand);
          within = within;
          waits = λ sending ticket place is held at. absurd (let bad : rests ≡ asks sending = sym rested ∙ is in cc);
          alone = none_after new past c (newest l.place l.replies) last;
        },
      )

  as_advanced : (d' e : DocumentCursor) (r q : TryPoll) → d' ≡ e → r ≡ q → AdvancedBy new q past b d e k given → AdvancedBy new r past b d d' k given
  as_advanced d' e r q is answer h = subst (λ (x : TryPoll). AdvancedBy new x past b d d' k given) (sym answer) (subst (λ (x : DocumentCursor). AdvancedBy new q past b d x k given) (sym is) h)

  by_fill : (c : ClientCursor) (bytes : List ℕ) (d' : DocumentCursor) (r : TryPoll) → Fills d c bytes d' r → IsListBatch past b bytes → c.doing ≡ rests → (m : IsOfList past b c) → m.at ≡ k → last_empty m ≡ empty_with d.empty (documents_of bytes) → its_documents m ≡ given ++ batch_documents bytes → newest m.place m.replies < length past.calls → NoneBehind past (newest m.place m.replies) → AdvancedBy new r past b d d' k given
  by_fill c bytes d' r (giving.filled documents holds_so where_is answer) batch rested m its in_row sum within last = as_advanced d' (filled_with c documents d) r (advance_by documents) where_is answer (fills_by c bytes documents holds_so rested m its batch in_row sum within last)
  by_fill c bytes d' r (giving.broken e breaks where_is answer) batch rested m its in_row sum within last = as_advanced d' d' r (try.Failed e) refl answer (fails.broken bytes batch breaks)

  memory_first : (Cause : Error → Type 0) (e : Error) → (Cause e → PutCheckFails past b e) → FailsBy Cause e → PutCheckFails past b e
  memory_first Cause e leads (inl full) = fails.out_of_memory (ap (λ (x : Error). x.kind) full)
  memory_first Cause e leads (inr cause) = leads cause

  next_fails : (e : Error) → IsOfList past b d.cursor → FailsBy (CannotAsk d.cursor None) e ⊎ MoreFails past d.cursor e → PutCheckFails past b e
  next_fails e l (inl not_asked) = memory_first (CannotAsk d.cursor None) e (λ cannot. fails.not_asked d.cursor l cannot) not_asked
  next_fails e l (inr failed) = fails.by_more d.cursor l failed

  module _ (old : Awaited) (log log' : LogTold) (wire : ℤ) (started : Bool) (sound : IsSound true d.cursor) (before : Awaited) (begun : Past) (grown : GrowsJust begun past) (l : ReadsList before begun b d k given) (none_left : d.behind ≡ []) where
    -- its list in the log behind the poll
    abbrev its : IsOfList past b d.cursor
    its = of_list_grows begun past grown b d.cursor l.of_list

    abbrev Most : ℕ
    Most = newest l.of_list.place l.of_list.replies

    within_now : Most < length past.calls
    within_now = let more = longer begun past grown b in let within = l.within in omega (arith, more, within)

    gave_by : (c : ClientCursor) (bytes : List ℕ) (d' : DocumentCursor) (r : TryPoll) → BatchFrom d.cursor c bytes → (d.cursor.doing ≡ holds bytes → NoneBehind past Most) → (d.cursor.doing ≡ holds bytes) ⊎ HeardLater past d.cursor bytes Most → Fills d c bytes d' r → AdvancedBy new r past b d d' k given
    gave_by c bytes d' r (from_hand at is) held heard h =
        let hand = l.hand bytes at in
        let batch : IsListBatch past b bytes = subst (IsListBatch past b) hand.0 (first_batch its.at (record { place = its.place; heard = its.heard }) its.success) in
        let in_it : documents_held d.cursor.doing ≡ batch_documents bytes = ap documents_held at in
        let none_taken : d.empty ≡ 0 = l.empties ∙ ap (λ (y : client.Doing). empty_taken y (last_empty l.of_list)) at in
        let in_row : last_empty l.of_list ≡ empty_with d.empty (documents_of bytes)
        = ap (λ (rs : List (ℕ × List ℕ)). empty_by (empty_with 0 (documents_of l.of_list.first)) rs) hand.1 ∙ ap (λ (bs : List ℕ). empty_with 0 (documents_of bs)) hand.0 ∙ ap (λ (n : ℕ). empty_with n (documents_of bytes)) (sym none_taken) in
        by_fill c bytes d' r h batch (ap (λ (x : ClientCursor). x.doing) is) (resting_as past b d.cursor c (ap at_rest is) its) l.is_at in_row (l.all ∙ ap₂ (λ (xs ys : List (List ℕ)). given ++ (xs ++ ys)) none_left in_it) within_now (held at)
    gave_by c bytes d' r (from_reply none_in may said says is) held (inl at) h = absurd (let bad : None ≡ Some bytes = sym none_in ∙ ap reply_in at in cc)
    gave_by c bytes d' r (from_reply none_in may said says is) held (inr later) h =
        let m : IsOfList past b c = heard_next past b bytes d.cursor c said its later may.held says is in
        let had : its_documents l.of_list ≡ given = l.all ∙ none_more given d.behind (documents_held d.cursor.doing) none_left (none_held d.cursor.doing none_in) in
        let first = batch_documents l.of_list.first in
        let sum : its_documents m ≡ given ++ batch_documents bytes
        = ap (λ (ds : List (List ℕ)). first ++ ds) (documents_on l.of_list.replies later.more.heard.place bytes) ∙ sym (append_assoc first (documents_by l.of_list.replies) (batch_documents bytes)) ∙ ap (λ (ds : List (List ℕ)). ds ++ batch_documents bytes) had in
        let there = get_within past.calls later.more.heard.place later.more.heard.heard.call later.more.heard.heard.there in
        let at_end = newest_on l.of_list.place l.of_list.replies later.more.heard.place bytes in
        let taken : d.empty ≡ last_empty l.of_list = l.empties ∙ all_taken (last_empty l.of_list) d.cursor.doing none_in in
        let in_row : last_empty m ≡ empty_with d.empty (documents_of bytes)
        = empty_on (empty_with 0 (documents_of l.of_list.first)) l.of_list.replies later.more.heard.place bytes ∙ ap (λ (n : ℕ). empty_with n (documents_of bytes)) (sym taken) in
        by_fill c bytes d' r h (next_batch d.cursor its later.more) (ap (λ (x : ClientCursor). x.doing) is) m l.is_at in_row sum (omega (arith, there, at_end)) (subst (NoneBehind past) (sym at_end) later.last)

    waits_on : (c : ClientCursor) → (sending : Sending) × (c ≡ record d.cursor { doing = asks sending }) × (reply_in d.cursor.doing ≡ None) → NextLater new past d.cursor c next.Pending Most → ReadsList new past b (filled_with c [] d) k given
    waits_on c w later =
        let had : its_documents l.of_list ≡ given = l.all ∙ none_more given d.behind (documents_held d.cursor.doing) none_left (none_held d.cursor.doing w.2) in
        let no_hand : documents_held c.doing ≡ [] = ap (λ (x : ClientCursor). documents_held x.doing) w.1 in
        let newest_so = last_empty l.of_list in
        record {
          of_list = resting_as past b d.cursor c (ap at_rest w.1) its;
          is_at = l.is_at;
          hand = λ held at. absurd (let bad : asks w.0 ≡ holds held = sym (ap (λ (x : ClientCursor). x.doing) w.1) ∙ at in cc);
          left = inl refl;
          empties = l.empties ∙ all_taken newest_so d.cursor.doing w.2 ∙ sym (ap (λ (x : ClientCursor). empty_taken x.doing newest_so) w.1);
          few = l.few;
          all = had ∙ sym (none_more given [] (documents_held c.doing) refl no_hand);
          within = within_now;
          waits = later.0;
          alone = later.1;
        }

    -- it was read to its end
    ended_whole : (c : ClientCursor) → PollsNext old new log log' wire None started d.cursor c next.End → HeardList past b k given
    ended_whole c asked =
        let e = ends_over old new log log' wire started d.cursor c asked in
        record { cursor = d.cursor; of_list = its; is_at = l.is_at; over = over_there begun b d.cursor l.of_list e.1; few = few_in_row before begun b d k given l d.cursor.doing refl; all = l.all ∙ none_more given d.behind (documents_held d.cursor.doing) none_left (ap documents_held e.0) }

    taken_by : (c : ClientCursor) (p : NextPoll) (d' : DocumentCursor) (r : TryPoll) → PollsNext old new log log' wire None started d.cursor c p → NextLater new past d.cursor c p Most → TakesNext d c p d' r → AdvancedBy new r past b d d' k given
    taken_by c next.Pending d' r asked later h = as_advanced d' (filled_with c [] d) r try.Pending h.0 h.1 (waits_on c (pending_more old new log log' wire started d.cursor c asked) later)
    taken_by c (next.Batch bytes) d' r asked later h = gave_by c bytes d' r (batch_from old new log log' wire started d.cursor c bytes sound asked) later.0 later.1 h
    taken_by c next.End d' r asked later h = as_advanced d' d' r (try.Ready result.Exhausted) refl h.1 (ended_whole c asked)
    taken_by c (next.Failed e) d' r asked later h = as_advanced d' d' r (try.Failed e) refl h.1 (next_fails e its later)

-- behind advances up to a document
abbrev pub SoughtBy : Awaited → ClientBucket → AdvancePoll → Past → DocumentCursor → Place → List (List ℕ) → Type 0
SoughtBy new b advance.Pending past d' k given = ReadsList new past b d' k given
SoughtBy new b (advance.Ready true) past d' k given = (document : List ℕ) × (d'.current ≡ Some document) × IsListedIndex past b document × ReadsList new past b d' k (given ++ document ∷ [])
SoughtBy new b (advance.Ready false) past d' k given = HeardList past b k given
SoughtBy new b (advance.Failed e) past d' k given = PutCheckFails past b e

module _ (b : ClientBucket) (wire : ℤ) (places : List ℕ) (since : ℕ) (k : Place) (given : List (List ℕ)) where
  advance_reads : (old new : Awaited) (log log' : LogTold) (started : Bool) (d d' : DocumentCursor) (r : TryPoll) → IsSound true d.cursor → AdvancesOnce old new log log' wire None started d d' r → (calls : List Call) → log ≡ Some calls → since ≤ length calls → IsUnderway old (past_of places since calls wire) d.cursor → ReadsList old (past_of places since calls wire) b d k given
      → Grew places since calls log' wire (λ past. AdvancedBy new r past b d d' k given)
  advance_reads old new log log' started d d' r sound (gives x xs these quiet same is answer) calls told room under l =
      let past = past_of places since calls wire in
      let next_one = gives_next new past b d k given old x xs these (λ m held. quiet.rest m) l in (
        calls,
        quiet.log_same ∙ told,
        same_keeps calls,
        as_advanced new past b d k given d' (record d { current = Some x; behind = xs }) r (try.Ready (result.Advanced tt)) is answer (x, refl, next_one.1, next_one.0),
      )
  advance_reads old new log log' started d d' r sound (polls none_left c p asked takes) calls told room under l =
      let before = past_of places since calls wire in
      let most : ℕ = newest l.of_list.place l.of_list.replies in
      let n = near old before d.cursor most l.waits sound under in
      let x = next_caused old new log log' wire None started d.cursor c p (sound_in_any true d.cursor sound) asked calls told n.places n.under in
      let past = past_of places since x.0 wire in
      let one = sends_one old new before log log' wire started d.cursor c p most told n x.0 x.1 sound asked in
      (x.0, x.1, x.2, taken_by new past b d k given old log log' wire started sound old before (log_just places since calls x.0 wire x.2) l none_left c p d' r asked (came_later old new places since calls x.0 wire room d.cursor c p most l.within n l.alone one p refl x.3) takes)

  -- ---- advances up to a document

  as_sought : (new : Awaited) (past : Past) (d' e : DocumentCursor) (r q : AdvancePoll) → d' ≡ e → r ≡ q → SoughtBy new b q past e k given → SoughtBy new b r past d' k given
  as_sought new past d' e r q is answer h = subst (λ (x : AdvancePoll). SoughtBy new b x past d' k given) (sym answer) (subst (λ (x : DocumentCursor). SoughtBy new b q past x k given) (sym is) h)

  -- an empty batch is one too many
  too_empty : (past : Past) (d a : DocumentCursor) → d.empty < most_empty → Emptied past b d a k given → most_empty ≤ a.empty + 1 → PutCheckFails past b (plain kind.EmptyBatches)
  too_empty past d a few emptied enough =
      let same = emptied.same_count in
      let last = emptied.one_more in
      fails.stays_empty a.cursor emptied.of_list (omega (arith, enough, few, same, last)) emptied.last refl

  ended_by : (new : Awaited) (past : Past) (d a d' : DocumentCursor) (p : TryPoll) (r : AdvancePoll) → d.empty < most_empty → AdvancedBy new p past b d a k given → EndsSeeking p a d' r → SoughtBy new b r past d' k given
  ended_by new past d a d' try.Pending r few h ends = as_sought new past d' a r advance.Pending ends.0 ends.1 h
  ended_by new past d a d' (try.Ready (result.Advanced t)) r few h ends = as_sought new past d' (uncounted a) r (advance.Ready true) ends.1 ends.2 h
  ended_by new past d a d' (try.Ready result.Exhausted) r few h ends = as_sought new past d' (uncounted a) r (advance.Ready false) ends.1 ends.2 h
  ended_by new past d a d' (try.Ready result.Waiting) r few h ends = as_sought new past d' (uncounted a) r (advance.Failed (plain kind.EmptyBatches)) ends.1 ends.2 (too_empty past d a few h ends.0)
  ended_by new past d a d' (try.Failed e) r few h ends = as_sought new past d' (uncounted a) r (advance.Failed e) ends.0 ends.1 h

  none_session : (started : Bool) → session_after started None ≡ None
  none_session true = refl
  none_session false = refl

  -- a call goes on behind an empty batch
  counted_reads : (new : Awaited) (past : Past) (d a e : DocumentCursor) → Emptied past b d a k given → a.empty + 1 < most_empty → e ≡ counted a → ReadsList new past b e k given
  counted_reads new past d a e h fewer is =
      let all : empty_taken a.cursor.doing (last_empty h.of_list) ≡ last_empty h.of_list = ap (λ (y : client.Doing). empty_taken y (last_empty h.of_list)) h.rested in
      let last = h.one_more in
      let same = h.same_count in
      let one_on : a.empty + 1 ≡ empty_taken a.cursor.doing (last_empty h.of_list) = omega (arith, all, last, same) in
      subst (λ (x : DocumentCursor). ReadsList new past b x k given) (sym is)
      (record {
        of_list = h.of_list;
        is_at = h.is_at;
        hand = λ held at. absurd (let bad : rests ≡ holds held = sym h.rested ∙ at in cc);
        left = inl h.behind_none;
        empties = one_on;
        few = fewer;
        all = h.all ∙ sym (none_more given a.behind (documents_held a.cursor.doing) h.behind_none (ap documents_held h.rested));
        within = h.within;
        waits = λ sending ticket place at held awaits. absurd (let bad : rests ≡ asks sending = sym h.rested ∙ at in cc);
        alone = none_after new past a.cursor (newest h.of_list.place h.of_list.replies) h.last;
      })

  pub seeks_list : (n : ℕ) (old new : Awaited) (log log' : LogTold) (starts : ℕ) (d d' : DocumentCursor) (r : AdvancePoll) → IsSound true d.cursor → SeeksDocument n old new log log' wire None starts d d' r → (calls : List Call) → log ≡ Some calls → since ≤ length calls → IsUnderway old (past_of places since calls wire) d.cursor → ReadsList old (past_of places since calls wire) b d k given
      → Grew places since calls log' wire (λ past. SoughtBy new b r past d' k given)
  unfolding SeeksDocument
  seeks_list zero old new log log' starts d d' r sound last calls told room under l =
      let x = advance_reads old new log log' last.started d last.advanced last.poll sound last.tries calls told room under l in
      let past = past_of places since x.0 wire in
      (x.0, x.1, x.2, ended_by new past d last.advanced d' last.poll r l.few x.3 last.ends)
  seeks_list (suc n) old new log log' starts d d' r sound more calls told room under l =
      let on = more.5 in
      let x = advance_reads old more.0 log more.1 more.2 d on.advanced (try.Ready result.Waiting) sound on.tries calls told room under l in
      let past = past_of places since x.0 wire in
      let rested : more.4.cursor.doing ≡ rests = ap (λ (y : DocumentCursor). y.cursor.doing) on.counts ∙ x.3.rested in
      let longer = keeps_longer calls x.0 x.2 in
      let room_on : since ≤ length x.0 = omega (arith, room, longer) in
      let y = seeks_list n more.0 new more.1 log' more.3 more.4 d' r (subst (SoundBy true more.4.cursor) (sym rested) tt) (subst (λ (s : Option Session). SeeksDocument n more.0 new more.1 log' wire s more.3 more.4 d' r) (none_session more.2) more.7) x.0 x.1 room_on (underway_rest more.0 past more.4.cursor rested) (counted_reads more.0 past d on.advanced more.4 x.3 on.few on.counts) in
      (y.0, y.1, keeps_on calls x.0 y.0 x.2 y.2, y.3)

  -- ---- what it asks for

  -- it has no options
  turn_manner : (past : Past) (replies : List (ℕ × List ℕ)) (c c' : ClientCursor) (last : ℕ) → AreInTurn past c last replies c' → c'.manner ≡ c.manner
  turn_manner past [] c c' last are = ap (λ (x : ClientCursor). x.manner) are
  turn_manner past (h ∷ more) c c' last are = turn_manner past more (behind_reply are.5 c) c' h.0 are.7

  list_manner : (past : Past) (c : ClientCursor) → IsOfList past b c → c.manner ≡ no_manner
  list_manner past c l = turn_manner past l.replies (new_client l.out) (at_rest c) l.place l.behind ∙ opened_plainly l.first l.out l.opens

  -- each command that was added reads this list on
  abbrev MoresFrom : List Call → Past → Type 0
  MoresFrom calls past = AddsOnly (IsGetMore past b k) calls past.calls

  mores_as : (may might : Fields → Type 0) (calls calls' : List Call) → ((command : Fields) → may command → might command) → AddsOnly may calls calls' → AddsOnly might calls calls'
  mores_as may might calls calls' so a = record { keeps = a.keeps; added = λ place call behind there. so (fields call.command) (a.added place call behind there) }

  mores_later : (calls mid calls' : List Call) → Keeps mid calls' → AddsOnly (IsGetMore (past_of places since mid wire) b k) calls mid → AddsOnly (IsGetMore (past_of places since calls' wire) b k) calls mid
  mores_later calls mid calls' keeps a =
      mores_as (IsGetMore (past_of places since mid wire) b k) (IsGetMore (past_of places since calls' wire) b k) calls mid
      (λ command m. record { cursor = m.cursor; of_list = of_list_grows (past_of places since mid wire) (past_of places since calls' wire) (log_just places since mid calls' wire keeps) b m.cursor m.of_list; is_at = m.is_at; held = m.held; few = m.few; command_is = m.command_is }) a

  advance_asks : (old new : Awaited) (log log' : LogTold) (started : Bool) (d d' : DocumentCursor) (r : TryPoll) → IsSound true d.cursor → AdvancesOnce old new log log' wire None started d d' r → (calls : List Call) → log ≡ Some calls → (l : IsOfList (past_of places since calls wire) b d.cursor) → l.at ≡ k → last_empty l < most_empty → Grew places since calls log' wire (MoresFrom calls)
  advance_asks old new log log' started d d' r sound once calls told l at few =
      let past : Past = past_of places since calls wire in
      let a = (more_sends old new log log' wire started d d' r sound (list_manner past d.cursor l) once).0 calls told in
      let now : Past = past_of places since a.0 wire in
      (a.0, a.1, a.2.keeps, mores_as (IsMoreBy d.cursor) (IsGetMore now b k) calls a.0 (λ command m. record { cursor = d.cursor; of_list = of_list_grows past now (log_just places since calls a.0 wire a.2.keeps) b d.cursor l; is_at = at; held = m.0; few = few; command_is = m.1 }) a.2)

  -- A step that reads the list sends just such getMores.
  pub seeks_asks : (n : ℕ) (old new : Awaited) (log log' : LogTold) (starts : ℕ) (d d' : DocumentCursor) (r : AdvancePoll) → IsSound true d.cursor → SeeksDocument n old new log log' wire None starts d d' r → (calls : List Call) → log ≡ Some calls → since ≤ length calls → IsUnderway old (past_of places since calls wire) d.cursor → ReadsList old (past_of places since calls wire) b d k given
      → Grew places since calls log' wire (MoresFrom calls)
  unfolding SeeksDocument
  seeks_asks zero old new log log' starts d d' r sound last calls told room under l = advance_asks old new log log' last.started d last.advanced last.poll sound last.tries calls told l.of_list l.is_at (few_in_row old (past_of places since calls wire) b d k given l d.cursor.doing refl)
  seeks_asks (suc n) old new log log' starts d d' r sound more calls told room under l =
      let on = more.5 in
      let a = advance_asks old more.0 log more.1 more.2 d on.advanced (try.Ready result.Waiting) sound on.tries calls told l.of_list l.is_at (few_in_row old (past_of places since calls wire) b d k given l d.cursor.doing refl) in
      let x = advance_reads old more.0 log more.1 more.2 d on.advanced (try.Ready result.Waiting) sound on.tries calls told room under l in
      let same : a.0 ≡ x.0 = same_some a.0 x.0 (sym a.1 ∙ x.1) in
      let first : MoresFrom calls (past_of places since x.0 wire) = subst (λ (cs : List Call). MoresFrom calls (past_of places since cs wire)) same a.3 in
      let past = past_of places since x.0 wire in
      let rested : more.4.cursor.doing ≡ rests = ap (λ (y : DocumentCursor). y.cursor.doing) on.counts ∙ x.3.rested in
      let longer = keeps_longer calls x.0 x.2 in
      let room_on : since ≤ length x.0 = omega (arith, room, longer) in
      let y = seeks_asks n more.0 new more.1 log' more.3 more.4 d' r (subst (SoundBy true more.4.cursor) (sym rested) tt) (subst (λ (s : Option Session). SeeksDocument n more.0 new more.1 log' wire s more.3 more.4 d' r) (none_session more.2) more.7) x.0 x.1 room_on (underway_rest more.0 past more.4.cursor rested) (counted_reads more.0 past d on.advanced more.4 x.3 on.few on.counts) in
      (y.0, y.1, keeps_on calls x.0 y.0 x.2 y.2, adds_on (IsGetMore (past_of places since y.0 wire) b k) calls x.0 y.0 (mores_later calls x.0 y.0 y.2 first) y.3)
