-- What the calls of a cursor that gives its documents come to, in small.
use Rattle.std.proofs.Common.{◌≡◌, ◌⊎◌, ◌↔◌, ℕ, zero, suc, Bool, true, false, IsTrue, List, [], ◌∷◌, Option, Some, None, Result, Ok, Err, IfErr, IfOk, is_some, refl, sym, ap, ◌∙◌, subst, inl, inr}
use Rattle.std.specs.Prelude.{if◌then◌else◌}
use Rattle.std.proofs.lemmas.Bool.{iff_false}
use Rattle.mg_bson.specs.Walks.{Walk, advanced, advanced_to}
use Rattle.mg_link.specs.Causes.{one_if}
use Rattle.mg_link.specs.Errors.{plain}
use Rattle.mg_link.specs.Exec.{Sending}
use Rattle.mg_link.specs.Session.{Session, after_command}
use Rattle.mg_link.specs.declared.error.Error.{Error}
use Rattle.mg_link.specs.declared.error.ErrorKind.TheVariants as kind
use Rattle.mg_link.specs.declared.error.Malformed.{Malformed}
use Rattle.mg_records.specs.Readings.{FailsToRead}
use Rattle.mg_steps.specs.Cursors.{HasNext as HasNextBy}
use Rattle.mg_cursor.specs.Client.{ClientCursor, HasNext, HoldsItems, IsOver, MayAsk, asks, holds, rests}
use Rattle.mg_cursor.specs.Documents.{DocumentCursor, HasMore, ReadsAs, ReadsBy}
use Rattle.mg_cursor.specs.Seeking.{CopiesIf, session_moved, times}
use Rattle.mg_cursor.specs.View.{AdvancesBy, behind_of, current_in, behind_in}
use Rattle.mg_cursor.specs.declared.buffer.BatchBuffer.{BatchBuffer}
use Rattle.mg_cursor.specs.declared.polls.ItemPoll.{ItemPoll}
use Rattle.mg_cursor.specs.declared.polls.ItemPoll.TheVariants as item
use Rattle.mg_cursor.proofs.Hearing.{may_ask}

-- ---- an advance inside a batch

pub advanced_whole : (whole : List ℕ) (ds : List (List ℕ)) → (advanced_to whole ds).whole ≡ whole
advanced_whole whole [] = refl
advanced_whole whole (x ∷ xs) = refl

-- the walk that the buffer holds moved on so
pub advances_by : (ds : List (List ℕ)) (w w' : Walk) (there : Bool) (b : BatchBuffer) → w.behind ≡ ds → w' ≡ advanced w → there ≡ is_some w'.current → b.batch ≡ Some w' → AdvancesBy ds b there
advances_by [] w w' there b at is said held =
    let moved : w' ≡ advanced_to w.whole [] = is ∙ ap (advanced_to w.whole) at in
    (ap current_in held ∙ ap (λ (x : Walk). x.current) moved, ap behind_in held ∙ ap (λ (x : Walk). x.behind) moved, said ∙ ap (λ (x : Walk). is_some x.current) moved)
advances_by (d ∷ ds) w w' there b at is said held =
    let moved : w' ≡ advanced_to w.whole (d ∷ ds) = is ∙ ap (advanced_to w.whole) at in
    (ap current_in held ∙ ap (λ (x : Walk). x.current) moved, ap behind_in held ∙ ap (λ (x : Walk). x.behind) moved, said ∙ ap (λ (x : Walk). is_some x.current) moved)

-- nothing is in the buffer
pub advances_none : (ds : List (List ℕ)) (b : BatchBuffer) → b.batch ≡ None → behind_of b ≡ ds → AdvancesBy ds b false
advances_none [] b none is = (ap current_in none, ap behind_in none, refl)
advances_none (d ∷ ds) b none is = let bad : [] ≡ d ∷ ds = sym (ap behind_in none) ∙ is in absurd cc

-- ---- sessions

-- one that is told of a command that was started
pub told_times : {H : Type 0} (told : H → H) (h : H) (started : Bool) → (if started then told h else h) ≡ times (one_if started) told h
told_times told h true = refl
told_times told h false = refl

-- what is seen of the session of one that was told so often
told_often : {H : Type 0} (told : H → H) (seen : H → Session) → ((x : H) → seen (told x) ≡ after_command (seen x)) → (n : ℕ) (h : H) → seen (times n told h) ≡ times n after_command (seen h)
told_often told seen moves zero h = refl
told_often told seen moves (suc n) h = told_often told seen moves n (told h) ∙ ap (times n after_command) (moves h)

pub session_told : {H : Type 0} (told : H → H) (seen : H → Session) (n : ℕ) (h h' : H) → h' ≡ times n told h → ((x : H) → seen (told x) ≡ after_command (seen x)) → seen h' ≡ times n after_command (seen h)
session_told told seen n h h' is moves = ap seen is ∙ told_often told seen moves n h

told_once : {H : Type 0} (told : H → H) (seen : H → Session) → ((x : H) → seen (told x) ≡ after_command (seen x)) → (started : Bool) (h : H) → seen (if started then told h else h) ≡ session_moved started (seen h)
told_once told seen moves true h = moves h
told_once told seen moves false h = refl

pub session_told_once : {H : Type 0} (told : H → H) (seen : H → Session) (started : Bool) (h h' : H) → h' ≡ (if started then told h else h) → ((x : H) → seen (told x) ≡ after_command (seen x)) → seen h' ≡ session_moved started (seen h)
session_told_once told seen started h h' is moves = ap seen is ∙ told_once told seen moves started h

-- what is seen of it that telling leaves as it was
kept_often : {H A : Type 0} (told : H → H) (seen : H → A) → ((x : H) → seen (told x) ≡ seen x) → (n : ℕ) (h : H) → seen (times n told h) ≡ seen h
kept_often told seen keeps zero h = refl
kept_often told seen keeps (suc n) h = kept_often told seen keeps n (told h) ∙ keeps h

pub session_kept : {H A : Type 0} (told : H → H) (seen : H → A) (n : ℕ) (h h' : H) → h' ≡ times n told h → ((x : H) → seen (told x) ≡ seen x) → seen h' ≡ seen h
session_kept told seen n h h' is keeps = ap seen is ∙ kept_often told seen keeps n h

-- ---- copies

pub copies_some : (d : DocumentCursor) (document : List ℕ) (r : ItemPoll) → Some document ≡ d.current → (r ≡ item.Item document) ⊎ (r ≡ item.Failed (plain kind.OutOfMemory)) → CopiesIf (is_some d.current) d r
copies_some d document r there (inl copy) = subst (λ (b : Bool). CopiesIf b d r) (ap is_some there) (inl (document, sym there, copy))
copies_some d document r there (inr room) = subst (λ (b : Bool). CopiesIf b d r) (ap is_some there) (inr room)

pub copies_none : (d : DocumentCursor) → None ≡ d.current → CopiesIf (is_some d.current) d item.End
copies_none d none = subst (λ (b : Bool). CopiesIf b d item.End) (ap is_some none) refl

-- ---- records

reads_by : {T Record : Type 0} (seen : T → Record) (read : Result Record Malformed) (r : Result T Error) → IfOk r (λ x. read ≡ Ok (seen x)) → IfErr r (λ e. FailsToRead read e) → ReadsBy seen read r
reads_by seen read (Ok x) ok err = ok
reads_by seen read (Err e) ok err = err

pub reads_as : {T Record : Type 0} (stands_for : List ℕ → Result Record Malformed) (seen : T → Record) (document : List ℕ) (o : Option (List ℕ)) (r : Result T Error) → Some document ≡ o → IfOk r (λ x. stands_for document ≡ Ok (seen x)) → IfErr r (λ e. FailsToRead (stands_for document) e) → ReadsAs stands_for seen o r
reads_as stands_for seen document o r there ok err = subst (λ (x : Option (List ℕ)). ReadsAs stands_for seen x r) there (reads_by seen (stands_for document) r ok err)

-- ---- what is asked for next

pub holds_still : (reply : List ℕ) → holds reply ≡ rests → ⊥
holds_still reply h = cc

pub asks_already : (sending : Sending) → asks sending ≡ rests → ⊥
asks_already sending h = cc

pub not_to_ask : (c : ClientCursor) → IsOver c → IsTrue false ↔ ((c.doing ≡ rests) × MayAsk c)
not_to_ask c over = (λ bad. absurd cc, λ h. absurd (may_not h.1 over))
  where
    may_not : MayAsk c → IsOver c → ⊥
    may_not may (inl ended) = may.held ended
    may_not may (inr lost) = let bad : true ≡ false = sym lost ∙ may.reached in cc

pub to_ask : (c : ClientCursor) (over : Bool) → (IsTrue over ↔ IsOver c) → over ≡ false → c.doing ≡ rests → IsTrue true ↔ ((c.doing ≡ rests) × MayAsk c)
to_ask c over means not quiet = (λ t. (quiet, may_ask c over means not), λ h. refl)

-- ---- what may follow

pub next_held : (c : ClientCursor) (held next : Bool) → (IsTrue next ↔ HasNextBy c.id (IsTrue held)) → (IsTrue held ↔ HoldsItems c.doing) → IsTrue next ↔ HasNext c
next_held c held next means holds_so = (λ t. onto (means.0 t), λ h. means.1 (back h))
  where
    onto : HasNextBy c.id (IsTrue held) → HasNext c
    onto (inl open_still) = inl open_still
    onto (inr some) = inr (holds_so.0 some)

    back : HasNext c → HasNextBy c.id (IsTrue held)
    back (inl open_still) = inl open_still
    back (inr some) = inr (holds_so.1 some)

pub more_there : (d : DocumentCursor) (there : Bool) → there ≡ is_some d.current → there ≡ true → IsTrue true ↔ HasMore d
more_there d there is so = (λ t. inl (sym is ∙ so), λ h. refl)

pub more_left : (d : DocumentCursor) (last : Bool) → (IsTrue last ↔ (d.behind ≡ [])) → last ≡ false → IsTrue true ↔ HasMore d
more_left d last means so = (λ t. inr (inl (λ none. iff_false means so none)), λ h. refl)

pub more_held : (d : DocumentCursor) (there last next : Bool) → there ≡ is_some d.current → there ≡ false → (IsTrue last ↔ (d.behind ≡ [])) → last ≡ true → (IsTrue next ↔ HasNext d.cursor) → IsTrue next ↔ HasMore d
more_held d there last next is not means so held = (λ t. inr (inr (held.0 t)), λ h. held.1 (only h))
  where
    only : HasMore d → HasNext d.cursor
    only (inl current) = let bad : true ≡ false = sym current ∙ sym is ∙ not in absurd cc
    only (inr (inl some)) = absurd (some (means.0 so))
    only (inr (inr more)) = more
