-- One advance of a cursor that gives its documents.
use Rattle.std.proofs.Common.{◌≡◌, ◌⊎◌, ℕ, ℤ, Bool, true, false, List, [], ◌∷◌, Option, Some, None, Ok, refl, sym, ap, ◌∙◌, subst, inl, inr}
use Rattle.std.specs.Prelude.{option_and_then}
use Rattle.mg_bson.specs.Raw.{fields}
use Rattle.mg_bson.specs.Spans.{documents_inside}
use Rattle.mg_link.specs.Exec.{Sending}
use Rattle.mg_link.specs.Link.{Awaited, LogTold}
use Rattle.mg_link.specs.Moment.{LinkKeeps, Moment, finished}
use Rattle.mg_link.specs.Session.{Session}
use Rattle.mg_link.specs.declared.action.Step.{Step}
use Rattle.mg_link.specs.declared.action.Step.TheVariants as step
use Rattle.mg_link.specs.declared.error.Error.{Error}
use Rattle.mg_link.specs.declared.error.ErrorKind.TheVariants as kind
use Rattle.mg_link.specs.declared.error.Malformed.TheVariants as malformed
use Rattle.mg_ops.specs.Cursors.{Cursor, cursor_of}
use Rattle.mg_cursor.specs.Batches.{BreaksBatch, bad_item, documents_of, no_batch}
use Rattle.mg_cursor.specs.Client.{ClientCursor, Doing, IsSound, PlainIf, asks, at_rest, behind_reply, client_ticket, holds, rests}
use Rattle.mg_cursor.specs.Documents.{AdvancesOnce, DocumentCursor, Fills, TakesNext, advance_by, broken, filled, filled_with, gives, polls, try_ending}
use Rattle.mg_cursor.specs.Polling.{Hears, PollsNext, ReadsReply, begins, broke, gave, goes_on, hands_out, is_over, not_built}
use Rattle.mg_cursor.specs.View.{AdvancesBy, behind_of, current_of, document_cursor}
use Rattle.mg_cursor.specs.declared.buffer.BatchBuffer.{BatchBuffer}
use Rattle.mg_cursor.specs.declared.documents.Documents.{Documents}
use Rattle.mg_cursor.specs.declared.polls.NextPoll.{NextPoll}
use Rattle.mg_cursor.specs.declared.polls.NextPoll.TheVariants as next
use Rattle.mg_cursor.specs.declared.polls.TryPoll.{TryPoll}
use Rattle.mg_cursor.specs.declared.polls.TryPoll.TheVariants as try
use Rattle.mg_cursor.specs.declared.results.AdvanceResult.TheVariants as result
use Rattle.mg_cursor.proofs.Hearing.{failing, other_kind}
use Rattle.mg_cursor.proofs.Keeping.{sound_next}

-- ---- inside a batch

-- the buffer stands at the next document
pub record StandsAt (b : BatchBuffer) (ds : List (List ℕ)) : Type 0 where
  pub first : List ℕ
  pub rest : List (List ℕ)
  pub these : ds ≡ first ∷ rest
  pub current_is : current_of b ≡ Some first
  pub behind_is : behind_of b ≡ rest

pub advanced_some : (ds : List (List ℕ)) (b : BatchBuffer) (there : Bool) → there ≡ true → AdvancesBy ds b there → StandsAt b ds
advanced_some [] b there so h = let bad : true ≡ false = sym so ∙ h.2 in absurd cc
advanced_some (x ∷ xs) b there so h = record { first = x; rest = xs; these = refl; current_is = h.0; behind_is = h.1 }

-- none was left
pub record StandsBehind (b : BatchBuffer) (ds : List (List ℕ)) : Type 0 where
  pub none_left : ds ≡ []
  pub no_current : current_of b ≡ None
  pub no_behind : behind_of b ≡ []

pub advanced_none : (ds : List (List ℕ)) (b : BatchBuffer) (there : Bool) → there ≡ false → AdvancesBy ds b there → StandsBehind b ds
advanced_none [] b there so h = record { none_left = refl; no_current = h.0; no_behind = h.1 }
advanced_none (x ∷ xs) b there so h = let bad : false ≡ true = sym so ∙ h.2 in absurd cc

-- a cursor with these documents
seen_as : (d : Documents) (o : Option (List ℕ)) (ds : List (List ℕ)) → current_of d.buffer ≡ o → behind_of d.buffer ≡ ds → document_cursor d ≡ record (document_cursor d) { current = o; behind = ds }
seen_as d o ds current behind =
    ap (λ (x : Option (List ℕ)). record (document_cursor d) { current = x }) current ∙ ap (λ (l : List (List ℕ)). record (document_cursor d) { current = o; behind = l }) behind

pub stands_at : (d : Documents) (ds : List (List ℕ)) (h : StandsAt d.buffer ds) → document_cursor d ≡ record (document_cursor d) { current = Some h.first; behind = h.rest }
stands_at d ds h = seen_as d (Some h.first) h.rest h.current_is h.behind_is

pub stands_behind : (d : Documents) (ds : List (List ℕ)) → StandsBehind d.buffer ds → document_cursor d ≡ record (document_cursor d) { current = None; behind = [] }
stands_behind d ds h = seen_as d None [] h.no_current h.no_behind

-- ---- a batch that was taken

-- a batch takes the place of what was there
fills_as : (c : ClientCursor) (documents : List (List ℕ)) (d : DocumentCursor) → filled_with c documents (filled_with c [] d) ≡ filled_with c documents d
fills_as c [] d = refl
fills_as c (x ∷ xs) d = refl

pub fills_over : (d e : DocumentCursor) (c : ClientCursor) (bytes : List ℕ) (d' : DocumentCursor) (r : TryPoll) → e ≡ filled_with c [] d → Fills e c bytes d' r → Fills d c bytes d' r
fills_over d e c bytes d' r same (filled documents these is answer) =
    filled documents these (is ∙ ap (filled_with c documents) same ∙ fills_as c documents d) answer
fills_over d e c bytes d' r same (broken f breaks is answer) = broken f breaks (is ∙ ap (filled_with c []) same) answer

filled_cursor : (c : ClientCursor) (documents : List (List ℕ)) (d : DocumentCursor) → (filled_with c documents d).cursor ≡ c
filled_cursor c [] d = refl
filled_cursor c (x ∷ xs) d = refl

pub fills_cursor : (d : DocumentCursor) (c : ClientCursor) (bytes : List ℕ) (d' : DocumentCursor) (r : TryPoll) → Fills d c bytes d' r → d'.cursor ≡ c
fills_cursor d c bytes d' r (filled documents these is answer) = ap (λ (x : DocumentCursor). x.cursor) is ∙ filled_cursor c documents d
fills_cursor d c bytes d' r (broken e breaks is answer) = ap (λ (x : DocumentCursor). x.cursor) is

pub takes_cursor : (d : DocumentCursor) (c : ClientCursor) (p : NextPoll) (d' : DocumentCursor) (r : TryPoll) → TakesNext d c p d' r → d'.cursor ≡ c
takes_cursor d c next.Pending d' r h = ap (λ (x : DocumentCursor). x.cursor) h.0
takes_cursor d c (next.Batch bytes) d' r h = fills_cursor d c bytes d' r h
takes_cursor d c next.End d' r h = ap (λ (x : DocumentCursor). x.cursor) h.0
takes_cursor d c (next.Failed e) d' r h = ap (λ (x : DocumentCursor). x.cursor) h.0

-- ---- broken batches

pub breaks_not_io : (bytes : List ℕ) (e : Error) → BreaksBatch bytes e → e.kind ≡ kind.Io → ⊥
breaks_not_io bytes e (no_batch none h) = other_kind e (kind.InvalidResponse h.how) h.error (λ bad. cc)
breaks_not_io bytes e (bad_item batch at none is) = other_kind e (kind.InvalidResponse malformed.BadItem) is (λ bad. cc)

pub breaks_none : (bytes : List ℕ) (e : Error) → BreaksBatch bytes e → documents_of bytes ≡ None
unfolding documents_of
breaks_none bytes e (no_batch none h) = ap (option_and_then documents_inside) none
breaks_none bytes e (bad_item batch at none is) = ap (option_and_then documents_inside) at ∙ none

-- ---- how an advance ended

as_taken : (m m' : Moment) (ticket : Option ℕ) (c : ClientCursor) (d' : DocumentCursor) (r r' : TryPoll) → d'.cursor ≡ c → r' ≡ r → LinkKeeps m m' ticket (client_ticket c) (try_ending r) → LinkKeeps m m' ticket (client_ticket d'.cursor) (try_ending r')
as_taken m m' ticket c d' r r' is answer k =
    subst (λ (x : TryPoll). LinkKeeps m m' ticket (client_ticket d'.cursor) (try_ending x)) (sym answer)
    (subst (λ (x : ClientCursor). LinkKeeps m m' ticket (client_ticket x) (try_ending r)) (sym is) k)

ends_by : (m m' : Moment) (ticket ticket' : Option ℕ) (documents : List (List ℕ)) → LinkKeeps m m' ticket ticket' finished → LinkKeeps m m' ticket ticket' (try_ending (advance_by documents))
ends_by m m' ticket ticket' [] k = k
ends_by m m' ticket ticket' (x ∷ xs) k = k

pub keeps_filled : (m m' : Moment) (ticket : Option ℕ) (d : DocumentCursor) (c : ClientCursor) (bytes : List ℕ) (d' : DocumentCursor) (r : TryPoll) → Fills d c bytes d' r → LinkKeeps m m' ticket (client_ticket c) finished → LinkKeeps m m' ticket (client_ticket d'.cursor) (try_ending r)
keeps_filled m m' ticket d c bytes d' r (filled documents these is answer) k =
    as_taken m m' ticket c d' (advance_by documents) r (fills_cursor d c bytes d' r (filled documents these is answer)) answer (ends_by m m' ticket (client_ticket c) documents k)
keeps_filled m m' ticket d c bytes d' r (broken e breaks is answer) k =
    as_taken m m' ticket c d' (try.Failed e) r (ap (λ (x : DocumentCursor). x.cursor) is) answer (failing m m' ticket (client_ticket c) e (breaks_not_io bytes e breaks) k)

-- ---- what is on its way stays the getMore of the cursor

pub advance_sound : (plain : Bool) (old new : Awaited) (log log' : LogTold) (wire : ℤ) (session : Option Session) (started : Bool) (d d' : DocumentCursor) (r : TryPoll) → IsSound plain d.cursor → PlainIf plain session → AdvancesOnce old new log log' wire session started d d' r → IsSound plain d'.cursor
advance_sound plain old new log log' wire session started d d' r h plainly (gives x xs these none same is answer) = subst (IsSound plain) (sym (ap (λ (y : DocumentCursor). y.cursor) is)) h
advance_sound plain old new log log' wire session started d d' r h plainly (polls none_left c p asked takes) =
    subst (IsSound plain) (sym (takes_cursor d c p d' r takes)) (sound_next plain old new log log' wire session started d.cursor c p h plainly asked)

-- ---- a batch that was handed out

-- the batch was in hand, or came with this reply, which was heard so
pub data Passes (Heard : Type 0) (bytes : List ℕ) (c c' : ClientCursor) : Type 0 where
  was_held : c.doing ≡ holds bytes → c' ≡ at_rest c → Passes Heard bytes c c'
  by_reply : (said : Cursor) → Heard → cursor_of (fields bytes) ≡ Ok said → c' ≡ behind_reply said c → Passes Heard bytes c c'

-- nothing is in hand behind it
pub passes_rest : (Heard : Type 0) (bytes : List ℕ) (c c' : ClientCursor) → Passes Heard bytes c c' → c'.doing ≡ rests
passes_rest Heard bytes c c' (was_held at is) = ap (λ (x : ClientCursor). x.doing) is
passes_rest Heard bytes c c' (by_reply said heard says is) = ap (λ (x : ClientCursor). x.doing) is

same_batch : (reply bytes : List ℕ) → next.Batch reply ≡ next.Batch bytes → reply ≡ bytes
same_batch reply bytes h = cc

module _ (Heard : Type 0) (bytes : List ℕ) (c c' : ClientCursor) (r : NextPoll) (gives_it : r ≡ next.Batch bytes) where
  read_passes : (reply : List ℕ) → Heard → ReadsReply c reply c' r → Passes Heard bytes c c'
  read_passes reply heard (gave said says is answer) =
      by_reply said heard (subst (λ (b : List ℕ). cursor_of (fields b) ≡ Ok said) (same_batch reply bytes (sym answer ∙ gives_it)) says) is
  read_passes reply heard (broke e fails is answer) = let bad : next.Failed e ≡ next.Batch bytes = sym answer ∙ gives_it in absurd cc

  heard_passes : (came : Step Sending (List ℕ)) → Heard → Hears c came c' r → Passes Heard bytes c c'
  heard_passes (step.Pending sending) heard h = let bad : next.Pending ≡ next.Batch bytes = sym h.1 ∙ gives_it in absurd cc
  heard_passes (step.Done reply) heard h = read_passes reply heard h
  heard_passes (step.Failed e) heard h = let bad : next.Failed e ≡ next.Batch bytes = sym h.1 ∙ gives_it in absurd cc

  -- where it was not in hand it was heard
  not_held : (d : Doing) → c.doing ≡ d → (d ≡ holds bytes → ⊥) → (c.doing ≡ holds bytes) ⊎ Heard → Heard
  not_held d at other (inl held) = absurd (other (sym at ∙ held))
  not_held d at other (inr heard) = heard

  pub passes_next : (old new : Awaited) (log log' : LogTold) (wire : ℤ) (session : Option Session) (started : Bool) → (c.doing ≡ holds bytes) ⊎ Heard → PollsNext old new log log' wire session started c c' r → Passes Heard bytes c c'
  passes_next old new log log' wire session started heard (hands_out reply at none same is answer) =
      was_held (at ∙ ap holds (same_batch reply bytes (sym answer ∙ gives_it))) is
  passes_next old new log log' wire session started heard (is_over at over none same is answer) = let bad : next.End ≡ next.Batch bytes = sym answer ∙ gives_it in absurd cc
  passes_next old new log log' wire session started heard (not_built at may e fails none same is answer) = let bad : next.Failed e ≡ next.Batch bytes = sym answer ∙ gives_it in absurd cc
  passes_next old new log log' wire session started heard (begins at may sending new_one asked) = heard_passes asked.came (not_held rests at (λ e. cc) heard) asked.hears
  passes_next old new log log' wire session started heard (goes_on sending at asked) = heard_passes asked.came (not_held (asks sending) at (λ e. cc) heard) asked.hears

-- ---- an advance that got an empty reply

pub record GotEmpty (old new : Awaited) (log log' : LogTold) (wire : ℤ) (session : Option Session) (started : Bool) (d d' : DocumentCursor) : Type 0 where
  pub bytes : List ℕ
  pub behind : ClientCursor
  pub asked : PollsNext old new log log' wire session started d.cursor behind (next.Batch bytes)
  pub empty : documents_of bytes ≡ Some []
  pub is : d' ≡ filled_with behind [] d

module _ (old new : Awaited) (log log' : LogTold) (wire : ℤ) (session : Option Session) (started : Bool) (d d' : DocumentCursor) (r : TryPoll) (waits : r ≡ try.Ready result.Waiting) where
  empty_by : (bytes : List ℕ) (c : ClientCursor) (documents : List (List ℕ)) → PollsNext old new log log' wire session started d.cursor c (next.Batch bytes) → documents_of bytes ≡ Some documents → d' ≡ filled_with c documents d → r ≡ advance_by documents → GotEmpty old new log log' wire session started d d'
  empty_by bytes c [] asked these is answer = record { bytes = bytes; behind = c; asked = asked; empty = these; is = is }
  empty_by bytes c (x ∷ xs) asked these is answer = let bad : try.Ready (result.Advanced tt) ≡ try.Ready result.Waiting = sym answer ∙ waits in absurd cc

  empty_filled : (bytes : List ℕ) (c : ClientCursor) → PollsNext old new log log' wire session started d.cursor c (next.Batch bytes) → Fills d c bytes d' r → GotEmpty old new log log' wire session started d d'
  empty_filled bytes c asked (filled documents these is answer) = empty_by bytes c documents asked these is answer
  empty_filled bytes c asked (broken e breaks is answer) = let bad : try.Failed e ≡ try.Ready result.Waiting = sym answer ∙ waits in absurd cc

  empty_taken : (c : ClientCursor) (p : NextPoll) → PollsNext old new log log' wire session started d.cursor c p → TakesNext d c p d' r → GotEmpty old new log log' wire session started d d'
  empty_taken c next.Pending asked h = let bad : try.Pending ≡ try.Ready result.Waiting = sym h.1 ∙ waits in absurd cc
  empty_taken c (next.Batch bytes) asked h = empty_filled bytes c asked h
  empty_taken c next.End asked h = let bad : try.Ready result.Exhausted ≡ try.Ready result.Waiting = sym h.1 ∙ waits in absurd cc
  empty_taken c (next.Failed e) asked h = let bad : try.Failed e ≡ try.Ready result.Waiting = sym h.1 ∙ waits in absurd cc

  pub got_empty : AdvancesOnce old new log log' wire session started d d' r → GotEmpty old new log log' wire session started d d'
  got_empty (gives x xs these none same is answer) = let bad : try.Ready (result.Advanced tt) ≡ try.Ready result.Waiting = sym answer ∙ waits in absurd cc
  got_empty (polls none_left c p asked takes) = empty_taken c p asked takes

-- ---- counts

filled_count : (c : ClientCursor) (documents : List (List ℕ)) (d : DocumentCursor) → (filled_with c documents d).empty ≡ d.empty
filled_count c [] d = refl
filled_count c (x ∷ xs) d = refl

fills_count : (d : DocumentCursor) (c : ClientCursor) (bytes : List ℕ) (d' : DocumentCursor) (r : TryPoll) → Fills d c bytes d' r → d'.empty ≡ d.empty
fills_count d c bytes d' r (filled documents these is answer) = ap (λ (x : DocumentCursor). x.empty) is ∙ filled_count c documents d
fills_count d c bytes d' r (broken e breaks is answer) = ap (λ (x : DocumentCursor). x.empty) is

takes_count : (d : DocumentCursor) (c : ClientCursor) (p : NextPoll) (d' : DocumentCursor) (r : TryPoll) → TakesNext d c p d' r → d'.empty ≡ d.empty
takes_count d c next.Pending d' r h = ap (λ (x : DocumentCursor). x.empty) h.0
takes_count d c (next.Batch bytes) d' r h = fills_count d c bytes d' r h
takes_count d c next.End d' r h = ap (λ (x : DocumentCursor). x.empty) h.0
takes_count d c (next.Failed e) d' r h = ap (λ (x : DocumentCursor). x.empty) h.0

-- an advance counts nothing
pub advance_count : (old new : Awaited) (log log' : LogTold) (wire : ℤ) (session : Option Session) (started : Bool) (d d' : DocumentCursor) (r : TryPoll) → AdvancesOnce old new log log' wire session started d d' r → d'.empty ≡ d.empty
advance_count old new log log' wire session started d d' r (gives x xs these none same is answer) = ap (λ (y : DocumentCursor). y.empty) is
advance_count old new log log' wire session started d d' r (polls none_left c p asked takes) = takes_count d c p d' r takes
