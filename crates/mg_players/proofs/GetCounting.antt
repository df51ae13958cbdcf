-- How many batches in a row a call of a get takes empty.
use Rattle.std.proofs.Common.{◌≡◌, ◌<◌, ◌≤◌, ◌⊎◌, ◌++◌, ℕ, suc, List, [], ◌∷◌, length, map, Option, Some, None, Result, Ok, option_map, refl, sym, ap, ◌∙◌, subst, inl, inr, arith, append_assoc}
use Rattle.std.specs.Prelude.{option_and_then}
use Rattle.mg_bson.specs.Raw.{IsDocument, fields, items}
use Rattle.mg_bson.specs.Spans.{documents_inside}
use Rattle.mg_bson.specs.Tree.{Fields, Items, no_items}
use Rattle.mg_server.specs.Calls.{Grows, Past}
use Rattle.mg_server.specs.Commands.{documents_in}
use Rattle.mg_link.specs.Exec.{Sending}
use Rattle.mg_link.specs.Link.{Awaited}
use Rattle.mg_link.specs.declared.error.Error.{Error}
use Rattle.mg_link.specs.declared.error.Malformed.{Malformed}
use Rattle.mg_server.proofs.Calls.{keeps_longer}
use Rattle.mg_link.proofs.Places.{get_within}
use Rattle.mg_ops.specs.Cursors.{Cursor, batch_at, cursor_of}
use Rattle.mg_ops.proofs.Reading.{items_read}
use Rattle.mg_cursor.specs.Batches.{batch_in, documents_of}
use Rattle.mg_cursor.specs.Client as client
use Rattle.mg_cursor.specs.Client.{ClientCursor, at_rest, client_ticket, reply_in}
use Rattle.mg_cursor.specs.declared.polls.NextPoll.TheVariants as next
use Rattle.mg_cursor.proofs.Batching.{documents_read}
use Rattle.mg_cursor.proofs.SeekCaused.{fails_grow}
use Rattle.mg_cursor.proofs.Spelled.{items_spelled}
use Rattle.mg_records.specs.FileRecords.{FileRecord}
use Rattle.mg_gridfs.specs.Downloaded.{AreReceived}
use Rattle.mg_gridfs.specs.Downloads.{ClientDownload, Doing, IsAtRest, ended, idle, most_empty, reads, spoiled, ticket_by}
use Rattle.mg_gridfs.specs.ReadCauses.{TakesNext, by_reply, was_held}
use Rattle.mg_players.specs.Gets.{GetTask}
use Rattle.mg_players.specs.InTurn.{AreInTurn, NoneBehind, empty_by, empty_held, empty_taken, empty_with, newest}
use Rattle.mg_players.specs.Reading.{BreaksAt, CameTo, CountsRow, GivesBy, GivesNone, GoesOn, HeardEmpty, HeardHeld, ReadFailsSo, SentNone, TookThese, as_begun, batches_in, by_batches, ends_so, had_ended, hand_of, memory_out, none_brought, none_built, not_taken, of_batches, of_hand, other_count, taken_of}
use Rattle.mg_players.proofs.GetReading.{held_grows}
use Rattle.mg_players.proofs.InTurn.{BatchFrom, HeardLater, NextLater, all_taken, empty_on, from_hand, from_reply, heard_on, more_grows, newest_on, turn_grows}
use Rattle.mg_players.proofs.JustGrown.{GrowsJust, SendsNoMore, alone_grows, before_or, none_after, none_grows, sent_back}

-- ---- a later time

module _ (call call' : Past) (still : SendsNoMore call call') where
  pub within_longer : (n : ℕ) → n < length call.calls → n < length call'.calls
  within_longer n within = let longer = keeps_longer call.calls call'.calls still.just.grows.keeps in omega (arith, longer, within)

  abbrev pub counts_grow : (old new : Awaited) (begun c : ClientCursor) (n : ℕ) (all : List (List ℕ)) → ((m : ℕ) → client_ticket c ≡ Some m → new m ≡ old m) → CountsRow old call begun c n all → CountsRow new call' begun c n all
  counts_grow old new begun c n all same k = record {
    replies = k.replies;
    heard = turn_grows call call' still.just begun 0 k.replies (at_rest c) k.heard;
    all_so = k.all_so;
    hand = k.hand;
    counted = k.counted;
    few = k.few;
    within = within_longer (newest 0 k.replies) k.within;
    waits = λ sending ticket place is held at. k.waits sending ticket place is held (sym (same ticket (ap client.ticket_by is ∙ held)) ∙ at);
    alone = alone_grows call call' still old new c (newest 0 k.replies) same k.alone;
  }

  module _ (past past' : Past) (more : Grows past past') (g : GetTask) (f : FileRecord) where
    pub heard_empty_grows : (start : ClientDownload) → HeardEmpty past call g f start → HeardEmpty past' call' g f start
    heard_empty_grows start h = record { begun = h.begun; idle_so = h.idle_so; held = held_grows past past' more g f h.begun h.held; replies = h.replies; behind = h.behind; heard = turn_grows call call' still.just h.begun 0 h.replies h.behind h.heard; last = none_grows call call' still (newest 0 h.replies) h.last; so_many = h.so_many }

  sent_none : SentNone call → SentNone call'
  sent_none none place of = none place (sent_back call call' still place of)

  pub goes_grow : (past past' : Past) (more : Grows past past') (g : GetTask) (room : ℕ) (old new : Awaited) (begun d : ClientDownload) (doing : Doing) → ((m : ℕ) → ticket_by doing ≡ Some m → new m ≡ old m) → GoesOn old past call g room begun d doing → GoesOn new past' call' g room begun d doing
  goes_grow past past' more g room old new begun d (idle c) same k = (k.0, sent_none k.1)
  goes_grow past past' more g room old new begun d (reads c missing empty) same k = (record { cursor = k.0.cursor; idle_so = k.0.idle_so; none_ahead = k.0.none_ahead; all = k.0.all; row = counts_grow old new k.0.cursor c empty k.0.all same k.0.row; taken_so = k.0.taken_so; missing_is = k.0.missing_is }, held_grows past past' more g d.file k.0.cursor k.1)
  goes_grow past past' more g room old new begun d ended same k = (k.0, sent_none k.1)
  goes_grow past past' more g room old new begun d spoiled same k = k

  -- what a call gave
  took_grow : (begun behind : ClientCursor) (all : List (List ℕ)) → TookThese call begun behind all → TookThese call' begun behind all
  took_grow begun behind all t = record { replies = t.replies; heard = turn_grows call call' still.just begun 0 t.replies (at_rest behind) t.heard; all_so = t.all_so; last = none_grows call call' still (newest 0 t.replies) t.last }

  pub gives_grow : (room : ℕ) (d d' : ClientDownload) (given : List ℕ) → GivesBy call room d d' given → GivesBy call' room d d' given
  gives_grow room d d' given (of_hand c is more none h) = of_hand c is more (sent_none none) h
  gives_grow room d d' given (of_batches c behind left all is none took so full h) = of_batches c behind left all is none (took_grow c behind all took) so full h

-- so it is of one that gave none
pub none_grows_on : (call call' : Past) (still : SendsNoMore call call') (room : ℕ) (d : ClientDownload) → GivesNone call room d → GivesNone call' room d
none_grows_on call call' still room d (had_ended over none) = had_ended over (λ place of. none place (sent_back call call' still place of))
none_grows_on call call' still room d (ends_so after over gives) = ends_so after over (gives_grow call call' still room d after [] gives)

-- so it is of one that failed
module _ (call call' : Past) (just : GrowsJust call call') where
  came_grow : (begun d : ClientDownload) (c : ClientCursor) → CameTo call begun d c → CameTo call' begun d c
  came_grow begun d c (as_begun same is) = as_begun same is
  came_grow begun d c (by_batches cursor all replies is none heard all_so so) = by_batches cursor all replies is none (turn_grows call call' just cursor 0 replies (at_rest c) heard) all_so so

  next_grows : (c : ClientCursor) (bytes : List ℕ) (behind : ClientCursor) → TakesNext call c bytes behind → TakesNext call' c bytes behind
  next_grows c bytes behind (was_held at is) = was_held at is
  next_grows c bytes behind (by_reply said h says is) = by_reply said (more_grows call call' just.grows c bytes h) says is

  breaks_grow : (room : ℕ) (d : ClientDownload) (c : ClientCursor) (e : Error) → BreaksAt call room d c e → BreaksAt call' room d c e
  breaks_grow room d c e (memory_out is) = memory_out is
  breaks_grow room d c e (none_built short cannot) = none_built short cannot
  breaks_grow room d c e (none_brought short fails) = none_brought short (fails_grow call call' just.grows c e fails)
  breaks_grow room d c e (not_taken short bytes behind next empty spoils) = not_taken short bytes behind (next_grows c bytes behind next) empty spoils
  breaks_grow room d c e (other_count none over other is) = other_count none over other is

  pub fails_so_grow : (room : ℕ) (begun : ClientDownload) (e : Error) → ReadFailsSo call room begun e → ReadFailsSo call' room begun e
  fails_so_grow room begun e f = record { left = f.left; cursor = f.cursor; came = came_grow begun f.left f.cursor f.came; breaks = breaks_grow room f.left f.cursor e f.breaks }

-- ---- as a call begins, and where it waits

none_begun : (doing : client.Doing) → IsAtRest doing → 0 ≡ empty_taken doing (empty_held doing)
none_begun client.rests rests = refl
none_begun (client.holds bytes) rests = refl
none_begun (client.asks sending) rests = absurd rests

none_taken : (doing : client.Doing) → IsAtRest doing → taken_of doing doing [] ≡ []
none_taken client.rests rests = refl
none_taken (client.holds bytes) rests = refl
none_taken (client.asks sending) rests = absurd rests

-- all were, where none is in hand
all_now : (begun now : client.Doing) (replies : List (ℕ × List ℕ)) → reply_in now ≡ None → taken_of begun now replies ≡ hand_of begun ++ batches_in replies
all_now begun client.rests replies none = refl
all_now begun (client.holds bytes) replies none = absurd (let bad : Some bytes ≡ None = none in cc)
all_now begun (client.asks sending) replies none = refl

one_on : (replies : List (ℕ × List ℕ)) (place : ℕ) (bytes : List ℕ) → batches_in (replies ++ (place, bytes) ∷ []) ≡ batches_in replies ++ bytes ∷ []
one_on [] place bytes = refl
one_on (h ∷ more) place bytes = ap (λ (l : List (List ℕ)). h.1 ∷ l) (one_on more place bytes)

pub counts_begin : (awaited : Awaited) (call : Past) (c : ClientCursor) → IsAtRest c.doing → 0 < length call.calls → SentNone call → CountsRow awaited call c c 0 []
counts_begin awaited call c rests some none = record {
  replies = [];
  heard = refl;
  all_so = none_taken c.doing rests;
  hand = λ bytes is. (is, refl);
  counted = none_begun c.doing rests;
  few = omega arith;
  within = some;
  waits = λ sending ticket place is held at. absurd (subst IsAtRest is rests);
  alone = λ place of. absurd (none place of);
}

-- a call whose log has grown by a poll
module _ (old new : Awaited) (before call : Past) (grown : GrowsJust before call) (begun c behind : ClientCursor) (n : ℕ) (all : List (List ℕ)) (k : CountsRow old before begun c n all) where
  -- what it heard, in the log behind the poll
  heard_now : AreInTurn call begun 0 k.replies (at_rest c)
  heard_now = turn_grows before call grown begun 0 k.replies (at_rest c) k.heard

  within_now : newest 0 k.replies < length call.calls
  within_now = let longer = keeps_longer before.calls call.calls grown.grows.keeps in let within = k.within in omega (arith, longer, within)

  -- how many it took
  abbrev In_row : ℕ
  In_row = empty_by (empty_held begun.doing) k.replies

  -- its getMore waits
  pub counts_waiting : (sending : Sending) × (behind ≡ record c { doing = client.asks sending }) × (reply_in c.doing ≡ None) → NextLater new call c behind next.Pending (newest 0 k.replies) → CountsRow new call begun behind n all
  counts_waiting w later = record {
    replies = k.replies;
    heard = subst (AreInTurn call begun 0 k.replies) (sym (ap at_rest w.1)) heard_now;
    all_so = ap (λ (x : ClientCursor). taken_of begun.doing x.doing k.replies) w.1 ∙ sym (all_now begun.doing c.doing k.replies w.2) ∙ k.all_so;
    hand = λ held at. absurd (let bad : client.asks w.0 ≡ client.holds held = sym (ap (λ (x : ClientCursor). x.doing) w.1) ∙ at in cc);
    counted = k.counted ∙ all_taken In_row c.doing w.2 ∙ sym (ap (λ (x : ClientCursor). empty_taken x.doing In_row) w.1);
    few = k.few;
    within = within_now;
    waits = later.0;
    alone = later.1;
  }

-- ---- behind a batch

-- so many in a row were empty of the batches that were taken
pub record TookOn (call : Past) (begun behind : ClientCursor) (n : ℕ) (all : List (List ℕ)) : Type 0 where
  pub replies : List (ℕ × List ℕ)
  pub heard : AreInTurn call begun 0 replies (at_rest behind)
  pub all_so : taken_of begun.doing client.rests replies ≡ all
  pub so_many : empty_by (empty_held begun.doing) replies ≡ n
  pub within : newest 0 replies < length call.calls
  pub last : NoneBehind call (newest 0 replies)

module _ (awaited : Awaited) (before call : Past) (grown : GrowsJust before call) (begun c behind : ClientCursor) (n : ℕ) (all : List (List ℕ)) (bytes : List ℕ) (k : CountsRow awaited before begun c n all) where
  abbrev heard_so : AreInTurn call begun 0 k.replies (at_rest c)
  heard_so = heard_now awaited awaited before call grown begun c behind n all k

  pub took_on : BatchFrom c behind bytes → (c.doing ≡ client.holds bytes → NoneBehind call (newest 0 k.replies)) → (c.doing ≡ client.holds bytes) ⊎ HeardLater call c bytes (newest 0 k.replies) → TookOn call begun behind (empty_with n (documents_of bytes)) (all ++ bytes ∷ [])
  took_on (from_hand at is) held later =
      let hand = k.hand bytes at in
      let none : n ≡ 0 = k.counted ∙ ap (λ (x : client.Doing). empty_taken x (empty_by (empty_held begun.doing) k.replies)) at in
      record {
        replies = k.replies;
        heard = subst (AreInTurn call begun 0 k.replies) (sym (ap at_rest is)) heard_so;
        all_so = ap (λ (x : client.Doing). hand_of x ++ batches_in k.replies) hand.0 ∙ ap (λ (rs : List (ℕ × List ℕ)). (bytes ∷ []) ++ batches_in rs) hand.1 ∙ sym (ap (λ (x : client.Doing). taken_of begun.doing x k.replies ++ bytes ∷ []) at) ∙ ap (λ (l : List (List ℕ)). l ++ bytes ∷ []) k.all_so;
        so_many = ap (λ (rs : List (ℕ × List ℕ)). empty_by (empty_held begun.doing) rs) hand.1 ∙ ap empty_held hand.0 ∙ ap (λ (m : ℕ). empty_with m (documents_of bytes)) (sym none);
        within = within_now awaited awaited before call grown begun c behind n all k;
        last = held at;
      }
  took_on (from_reply none_in may said says is) held (inl at) = absurd (let bad : None ≡ Some bytes = sym none_in ∙ ap reply_in at in cc)
  took_on (from_reply none_in may said says is) held (inr later) =
      let place : ℕ = later.more.heard.place in
      let taken : n ≡ empty_by (empty_held begun.doing) k.replies = k.counted ∙ all_taken (empty_by (empty_held begun.doing) k.replies) c.doing none_in in
      let there = get_within call.calls place later.more.heard.heard.call later.more.heard.heard.there in
      let at_end = newest_on 0 k.replies place bytes in
      record {
        replies = k.replies ++ (place, bytes) ∷ [];
        heard = subst (AreInTurn call begun 0 (k.replies ++ (place, bytes) ∷ [])) (sym (ap at_rest is))
            (heard_on call begun 0 k.replies (at_rest c) place bytes later.more.session said heard_so later.later may.held later.more.heard.heard later.more.success says);
        all_so = ap (λ (l : List (List ℕ)). hand_of begun.doing ++ l) (one_on k.replies place bytes) ∙ sym (append_assoc (hand_of begun.doing) (batches_in k.replies) (bytes ∷ [])) ∙ ap (λ (l : List (List ℕ)). l ++ bytes ∷ []) (sym (all_now begun.doing c.doing k.replies none_in) ∙ k.all_so);
        so_many = empty_on (empty_held begun.doing) k.replies place bytes ∙ ap (λ (m : ℕ). empty_with m (documents_of bytes)) (sym taken);
        within = omega (arith, there, at_end);
        last = subst (NoneBehind call) (sym at_end) later.last;
      }

-- the call goes on
pub counts_behind : (awaited : Awaited) (call : Past) (begun behind : ClientCursor) (m n : ℕ) (all : List (List ℕ)) → TookOn call begun behind n all → behind.doing ≡ client.rests → m ≡ n → m < most_empty → CountsRow awaited call begun behind m all
counts_behind awaited call begun behind m n all t rests same few = record {
  replies = t.replies;
  heard = t.heard;
  all_so = ap (λ (x : client.Doing). taken_of begun.doing x t.replies) rests ∙ t.all_so;
  hand = λ bytes at. absurd (let bad : client.rests ≡ client.holds bytes = sym rests ∙ at in cc);
  counted = same ∙ sym t.so_many ∙ sym (ap (λ (x : client.Doing). empty_taken x (empty_by (empty_held begun.doing) t.replies)) rests);
  few = few;
  within = t.within;
  waits = λ sending ticket place at held awaits. absurd (let bad : client.rests ≡ client.asks sending = sym rests ∙ at in cc);
  alone = none_after awaited call behind (newest 0 t.replies) t.last;
}

-- the call took all, where its cursor rests
pub took_all : (awaited : Awaited) (call : Past) (begun c : ClientCursor) (n : ℕ) (all : List (List ℕ)) → CountsRow awaited call begun c n all → c.doing ≡ client.rests → TookThese call begun c all
took_all awaited call begun c n all k rests = record {
  replies = k.replies;
  heard = k.heard;
  all_so = sym (ap (λ (x : client.Doing). taken_of begun.doing x k.replies) rests) ∙ k.all_so;
  last = λ place of. at_most place (newest 0 k.replies) (λ beyond. let a = k.alone place of beyond in let bad : client.rests ≡ client.asks a.sending = sym rests ∙ a.asked in cc);
}
  where
    at_most : (a b : ℕ) → (b < a → ⊥) → a ≤ b
    at_most a b none = elim (before_or b a) [ inl beyond ↦ absurd (none beyond) | inr within ↦ within ]

-- one is one too many
pub heard_too_many : (past call : Past) (g : GetTask) (f : FileRecord) (start : ClientDownload) (begun behind : ClientCursor) (n : ℕ) (all : List (List ℕ)) (bytes : List ℕ) → start.doing ≡ idle begun → HeardHeld past g f begun → TookOn call begun behind (empty_with n (documents_of bytes)) all → documents_of bytes ≡ Some [] → n < most_empty → most_empty ≤ suc n → HeardEmpty past call g f start
heard_too_many past call g f start begun behind n all bytes idle_so held t none few enough =
    let last : suc n ≡ most_empty = omega (arith, few, enough) in
    record { begun = begun; idle_so = idle_so; held = held; replies = t.replies; behind = at_rest behind; heard = t.heard; last = t.last; so_many = t.so_many ∙ ap (λ (o : Option (List (List ℕ))). empty_with n o) none ∙ last }

-- ---- the documents of a batch

none_by : (o : Option (List (List ℕ))) → option_map (map fields) o ≡ Some [] → o ≡ Some []
none_by (Some []) h = refl
none_by (Some (d ∷ ds)) h = absurd (let bad : Some (fields d ∷ map fields ds) ≡ Some [] = h in cc)
none_by None h = absurd (let bad : None ≡ Some [] = h in cc)

-- a batch without items has none
pub none_in_batch : (bytes : List ℕ) (said : Cursor) → cursor_of (fields bytes) ≡ Ok said → batch_at (fields bytes) ≡ Ok no_items → documents_of bytes ≡ Some []
none_in_batch bytes said says none =
    let same : said.batch ≡ no_items = same_ok said.batch no_items (sym (items_read (fields bytes) said says) ∙ none) in
    none_by (documents_of bytes) (sym (documents_read bytes said says) ∙ ap documents_in same)
  where
    same_ok : (x y : Items) → ◌≡◌ {A = Result Items Malformed} (Ok x) (Ok y) → x ≡ y
    same_ok x y e = cc

-- how many are empty, by the chunks of the last
abbrev pub count_behind : ℕ → List (List ℕ) → ℕ
count_behind n [] = suc n
count_behind n (chunk ∷ more) = 0

pub few_behind : (n : ℕ) (chunks : List (List ℕ)) → (chunks ≡ [] → suc n < most_empty) → count_behind n chunks < most_empty
few_behind n [] few = few refl
few_behind n (chunk ∷ more) few = omega arith

count_by : (f : FileRecord) (from n : ℕ) (chunks : List (List ℕ)) (documents : List Fields) (o : Option (List (List ℕ))) → option_map (map fields) o ≡ Some documents → AreReceived f from chunks documents → count_behind n chunks ≡ empty_with n o
count_by f from n [] [] (Some []) is a = refl
count_by f from n (c ∷ cs) (d ∷ ds) (Some (x ∷ xs)) is a = refl
count_by f from n [] [] (Some (x ∷ xs)) is a = absurd (let bad : Some (fields x ∷ map fields xs) ≡ Some [] = is in cc)
count_by f from n (c ∷ cs) (d ∷ ds) (Some []) is a = absurd (let bad : Some [] ≡ Some (d ∷ ds) = is in cc)
count_by f from n chunks documents None is a = absurd (let bad : None ≡ Some documents = is in cc)
count_by f from n [] (d ∷ ds) (Some xs) is a = absurd a
count_by f from n (c ∷ cs) [] (Some xs) is a = absurd a

pub count_of : (f : FileRecord) (from n : ℕ) (chunks : List (List ℕ)) (documents : List Fields) (bytes array : List ℕ) → IsDocument array → batch_in bytes ≡ Some array → documents_in (items array) ≡ Some documents → AreReceived f from chunks documents → count_behind n chunks ≡ empty_with n (documents_of bytes)
unfolding documents_of
count_of f from n chunks documents bytes array is there these received =
    count_by f from n chunks documents (option_and_then documents_inside (batch_in bytes))
    (ap (λ (o : Option (List ℕ)). option_map (map fields) (option_and_then documents_inside o)) there ∙ sym (items_spelled array is) ∙ these) received
