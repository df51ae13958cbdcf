-- What the reads of an index check, and requests of which nothing is asked, leave of the file.
use Rattle.std.proofs.Common.{◌≡◌, ◌⊎◌, ℕ, zero, suc, ℤ, Bool, true, false, List, [], ◌∷◌, Option, Some, None, refl, sym, ◌∙◌, subst, inl, inr}
use Rattle.std.specs.Prelude.{codes, option_and_then, option_map, unwrap_or}
use Rattle.mg_bson.specs.Find.{get}
use Rattle.mg_bson.specs.Raw.{fields}
use Rattle.mg_bson.specs.Tree.{Fields, Tree}
use Rattle.mg_server.specs.Calls.{Past, past_of}
use Rattle.mg_link.specs.Numbers.{as_integer}
use Rattle.mg_server.specs.Commands.{Asked, asked, asked_by, asks_more, asks_other, more_of, space_at}
use Rattle.mg_link.specs.Exec.{Runs, Sending}
use Rattle.mg_server.specs.Files.{Bucket, File}
use Rattle.mg_server.specs.Filing.{KnowsFile, Leaves, stays, unknown}
use Rattle.mg_link.specs.Link.{Awaited, SendsNothing, LogTold}
use Rattle.mg_link.specs.Log.{Call}
use Rattle.mg_link.specs.Namespace.{Space}
use Rattle.mg_link.specs.Session.{Session}
use Rattle.mg_link.specs.declared.action.Step.{Step}
use Rattle.mg_server.proofs.Calls.{same_keeps}
use Rattle.mg_exec.proofs.Execs.{runs_of}
use Rattle.mg_server.proofs.Filed.{Grew, any_ran, grew_on, read_ran}
use Rattle.mg_ops.specs.Naming.{IsNamed}
use Rattle.mg_cursor.specs.Client.{ClientCursor, IsSound, SoundBy, get_more}
use Rattle.mg_cursor.specs.Documents.{AdvancesOnce, DocumentCursor, Fills, TakesNext, broken, filled, filled_with, gives, polls}
use Rattle.mg_cursor.specs.Polling.{PollsNext, begins, goes_on, hands_out, is_over, not_built}
use Rattle.mg_cursor.specs.Seeking.{EndsSeeking, SeeksDocument, TriesAdvance, kept_behind, session_after}
use Rattle.mg_cursor.specs.declared.polls.AdvancePoll.{AdvancePoll}
use Rattle.mg_cursor.specs.declared.polls.NextPoll.{NextPoll}
use Rattle.mg_cursor.specs.declared.polls.NextPoll.TheVariants as next
use Rattle.mg_cursor.specs.declared.polls.TryPoll.{TryPoll}
use Rattle.mg_cursor.specs.declared.polls.TryPoll.TheVariants as try
use Rattle.mg_cursor.proofs.Keeping.{sound_next}
use Rattle.mg_gridfs.specs.Buckets.{ClientBucket}
use Rattle.mg_gridfs.specs.Checks.{CheckTurned, ChecksOn, ClientCheck, IsSoundCheck, LandsCheck, by_advance, by_creation, by_find, by_index, by_listing}
use Rattle.mg_gridfs.proofs.Meaning.{any_leaves, creation_leaves, index_leaves, leaves_by, listing_leaves}

-- ---- getMore

-- it asks for a cursor's documents, or for nothing that has a meaning
abbrev AsksMore : Asked → Type 0
AsksMore a = ((id : ℤ) × (space : Space) × (a ≡ asks_more id space)) ⊎ (a ≡ asks_other)

asks_more_by : (o : Option ℤ) (p : Option Space) → AsksMore (unwrap_or (option_and_then (λ id. option_map (asks_more id) p) o) asks_other)
asks_more_by None p = inr refl
asks_more_by (Some id) None = inr refl
asks_more_by (Some id) (Some space) = inl (id, space, refl)

more_asks : (fs : Fields) → AsksMore (unwrap_or (more_of fs) asks_other)
unfolding more_of
more_asks fs = asks_more_by (option_and_then as_integer (get (codes "getMore") fs)) (space_at (codes "collection") fs)

get_more_asks : (c : ClientCursor) (session : Option Session) → AsksMore (unwrap_or (asked_by (get_more c session)) asks_other)
get_more_asks c None = more_asks (get_more c None)
get_more_asks c (Some s) = more_asks (get_more c (Some s))

asks_so : (c : ClientCursor) (session : Option Session) (command : List ℕ) → fields command ≡ get_more c session → AsksMore (asked command)
unfolding asked
asks_so c session command is = subst (λ (fs : Fields). AsksMore (unwrap_or (asked_by fs) asks_other)) (sym is) (get_more_asks c session)

leaves_more : (command : List ℕ) (at : Bucket) (id : Tree) → AsksMore (asked command) → Leaves command at id
leaves_more command at id (inl m) = leaves_by command at id (asks_more m.0 m.1) m.2 tt tt
leaves_more command at id (inr other) = leaves_by command at id asks_other other tt tt

pub more_leaves : (c : ClientCursor) (session : Option Session) (command : List ℕ) (at : Bucket) (id : Tree) → fields command ≡ get_more c session → Leaves command at id
more_leaves c session command at id is = leaves_more command at id (asks_so c session command is)

-- ---- a list that is read

-- what holds behind each poll of a getMore
abbrev MoreKeeps : List ℕ → ℕ → ℤ → (Past → Type 0) → Type 0
MoreKeeps places since wire Holds = (old new : Awaited) (log log' : LogTold) (version : ℤ) (s : Sending) (came : Step Sending (List ℕ)) (c : ClientCursor) (session : Option Session) → fields s.command ≡ get_more c session → Runs old new log log' version s came
    → (calls : List Call) → log ≡ Some calls → Holds (past_of places since calls wire) → Grew places since calls log' wire Holds

plain_after : (started : Bool) → session_after started None ≡ None
plain_after true = refl
plain_after false = refl

filled_cursor : (c : ClientCursor) (documents : List (List ℕ)) (d : DocumentCursor) → (filled_with c documents d).cursor ≡ c
filled_cursor c [] d = refl
filled_cursor c (x ∷ xs) d = refl

advance_sound : (old new : Awaited) (log log' : LogTold) (version : ℤ) (started : Bool) (d d' : DocumentCursor) (r : TryPoll) → AdvancesOnce old new log log' version None started d d' r → IsSound true d.cursor → IsSound true d'.cursor
advance_sound old new log log' version started d d' r (gives x xs behind none quiet is answer) sound = subst (λ (e : DocumentCursor). IsSound true e.cursor) (sym is) sound
advance_sound old new log log' version started d d' r (polls behind c p next_is takes) sound = by_next p takes
  where
    now : IsSound true c
    now = sound_next true old new log log' version None started d.cursor c p sound refl next_is

    by_fill : (bytes : List ℕ) → Fills d c bytes d' r → IsSound true d'.cursor
    by_fill bytes (filled documents read is answer) = subst (λ (e : DocumentCursor). IsSound true e.cursor) (sym is) (subst (IsSound true) (sym (filled_cursor c documents d)) now)
    by_fill bytes (broken e breaks is answer) = subst (λ (e : DocumentCursor). IsSound true e.cursor) (sym is) now

    by_next : (q : NextPoll) → TakesNext d c q d' r → IsSound true d'.cursor
    by_next next.Pending t = subst (λ (e : DocumentCursor). IsSound true e.cursor) (sym t.0) now
    by_next (next.Batch bytes) t = by_fill bytes t
    by_next next.End t = subst (λ (e : DocumentCursor). IsSound true e.cursor) (sym t.0) now
    by_next (next.Failed e) t = subst (λ (f : DocumentCursor). IsSound true f.cursor) (sym t.0) now

ended_sound : (poll : TryPoll) (d d' : DocumentCursor) (r : AdvancePoll) → EndsSeeking poll d d' r → IsSound true d.cursor → IsSound true d'.cursor
ended_sound try.Pending d d' r h sound = subst (λ (e : DocumentCursor). IsSound true e.cursor) (sym h.0) sound
ended_sound (try.Ready a) d d' r h sound = subst (λ (e : DocumentCursor). IsSound true e.cursor) (sym h.1) sound
ended_sound (try.Failed e) d d' r h sound = subst (λ (f : DocumentCursor). IsSound true f.cursor) (sym h.0) sound

pub seek_sound : (n : ℕ) (old new : Awaited) (log log' : LogTold) (version : ℤ) (starts : ℕ) (d d' : DocumentCursor) (r : AdvancePoll) → IsSound true d.cursor → SeeksDocument n old new log log' version None starts d d' r → IsSound true d'.cursor
unfolding SeeksDocument
seek_sound zero old new log log' version starts d d' r sound s = ended_sound s.poll s.advanced d' r s.ends (advance_sound old new log log' version s.started d s.advanced s.poll s.tries sound)
seek_sound (suc n) old new log log' version starts d d' r sound s =
    let first = s.5 in
    let sound_on = advance_sound old s.0 log s.1 version s.2 d first.advanced _ first.tries sound in
    let sound_next_one : IsSound true s.4.cursor = subst (λ (e : DocumentCursor). IsSound true e.cursor) (sym first.counts) sound_on in
    seek_sound n s.0 new s.1 log' version s.3 s.4 d' r sound_next_one (subst (λ (session : Option Session). SeeksDocument n s.0 new s.1 log' version session s.3 s.4 d' r) (plain_after s.2) s.7)

kept_sound : (r : TryPoll) (d : DocumentCursor) → IsSound true d.cursor → IsSound true (kept_behind r d).cursor
kept_sound try.Pending d sound = sound
kept_sound (try.Ready a) d sound = sound
kept_sound (try.Failed e) d sound = sound

pub try_sound : (old new : Awaited) (log log' : LogTold) (version : ℤ) (started : Bool) (d d' : DocumentCursor) (r : TryPoll) → IsSound true d.cursor → TriesAdvance old new log log' version None started d d' r → IsSound true d'.cursor
try_sound old new log log' version started d d' r sound t =
    subst (λ (e : DocumentCursor). IsSound true e.cursor) (sym t.kept) (kept_sound r t.advanced (advance_sound old new log log' version started d t.advanced r t.tries sound))

module _ (places : List ℕ) (since : ℕ) (wire : ℤ) (Holds : Past → Type 0) (keep : MoreKeeps places since wire Holds) where
  quiet_ran : (old new : Awaited) (log log' : LogTold) → SendsNothing old new log log' → (calls : List Call) → log ≡ Some calls → Holds (past_of places since calls wire) → Grew places since calls log' wire Holds
  quiet_ran old new log log' none calls told h = (calls, none.log_same ∙ told, same_keeps calls, h)

  next_ran : (old new : Awaited) (log log' : LogTold) (version : ℤ) (started : Bool) (c c' : ClientCursor) (r : NextPoll) → IsSound true c → PollsNext old new log log' version None started c c' r → (calls : List Call) → log ≡ Some calls → Holds (past_of places since calls wire) → Grew places since calls log' wire Holds
  next_ran old new log log' version started c c' r sound (hands_out reply at none same is answer) calls told h = quiet_ran old new log log' none calls told h
  next_ran old new log log' version started c c' r sound (is_over at over none same is answer) calls told h = quiet_ran old new log log' none calls told h
  next_ran old new log log' version started c c' r sound (not_built at may e fails none same is answer) calls told h = quiet_ran old new log log' none calls told h
  next_ran old new log log' version started c c' r sound (begins at may sending new_one asked) calls told h =
      keep old new log log' version sending asked.came c None new_one.command_is (runs_of old new log log' version sending asked.came started asked.runs) calls told h
  next_ran old new log log' version started c c' r sound (goes_on sending at asked) calls told h =
      let on = subst (SoundBy true c) at sound in
      keep old new log log' version sending asked.came c on.session on.waits_on.command_is (runs_of old new log log' version sending asked.came started asked.runs) calls told h

  advance_ran : (old new : Awaited) (log log' : LogTold) (version : ℤ) (started : Bool) (d d' : DocumentCursor) (r : TryPoll) → IsSound true d.cursor → AdvancesOnce old new log log' version None started d d' r → (calls : List Call) → log ≡ Some calls → Holds (past_of places since calls wire)
      → Grew places since calls log' wire Holds
  advance_ran old new log log' version started d d' r sound (gives x xs behind none quiet is answer) calls told h = quiet_ran old new log log' none calls told h
  advance_ran old new log log' version started d d' r sound (polls behind c p next_is takes) calls told h = next_ran old new log log' version started d.cursor c p sound next_is calls told h

  seek_ran : (n : ℕ) (old new : Awaited) (log log' : LogTold) (version : ℤ) (starts : ℕ) (d d' : DocumentCursor) (r : AdvancePoll) → IsSound true d.cursor → SeeksDocument n old new log log' version None starts d d' r → (calls : List Call) → log ≡ Some calls → Holds (past_of places since calls wire)
      → Grew places since calls log' wire Holds
  unfolding SeeksDocument
  seek_ran zero old new log log' version starts d d' r sound s calls told h = advance_ran old new log log' version s.started d s.advanced s.poll sound s.tries calls told h
  seek_ran (suc n) old new log log' version starts d d' r sound s calls told h =
      let first = s.5 in
      let sound_on = advance_sound old s.0 log s.1 version s.2 d first.advanced _ first.tries sound in
      let sound_next_one : IsSound true s.4.cursor = subst (λ (e : DocumentCursor). IsSound true e.cursor) (sym first.counts) sound_on in
      grew_on places since calls s.1 log' wire Holds Holds (advance_ran old s.0 log s.1 version s.2 d first.advanced _ sound first.tries calls told h)
      (λ calls' told' h'. seek_ran n s.0 new s.1 log' version s.3 s.4 d' r sound_next_one (subst (λ (session : Option Session). SeeksDocument n s.0 new s.1 log' version session s.3 s.4 d' r) (plain_after s.2) s.7) calls' told' h')

-- ---- the index check

module _ (old new : Awaited) (log log' : LogTold) (version : ℤ) (b : ClientBucket) (at : Bucket) (id : Tree) (calls : List Call) (told : log ≡ Some calls) (places : List ℕ) (since : ℕ) (wire : ℤ) where
  -- a step of it leaves the file
  pub check_ran : (file : File) (c : ClientCheck) (t : CheckTurned) → IsNamed b.files → IsNamed b.chunks → IsSoundCheck b c → ChecksOn old new log log' version b c t → KnowsFile (past_of places since calls wire) at id (stays file) → Grew places since calls log' wire (λ past. KnowsFile past at id (stays file))
  check_ran file c t files chunks sound (by_find sending is came runs hears) k =
      let own = subst (IsSoundCheck b) is sound in
      read_ran old new log log' at id version sending came calls told places since wire file (any_leaves b at id sending.command own.command_is) runs k
  check_ran file c t files chunks sound (by_creation it sending is came runs hears) k =
      let own = subst (IsSoundCheck b) is sound in
      read_ran old new log log' at id version sending came calls told places since wire file (creation_leaves b at id files chunks it sending.command own.command_is) runs k
  check_ran file c t files chunks sound (by_listing it sending is came runs hears) k =
      let own = subst (IsSoundCheck b) is sound in
      read_ran old new log log' at id version sending came calls told places since wire file (listing_leaves b at id files chunks it sending.command own.command_is) runs k
  check_ran file c t files chunks sound (by_advance it cursor found count is empties starts left poll seeks hears) k =
      let own = subst (IsSoundCheck b) is sound in
      seek_ran places since wire (λ past. KnowsFile past at id (stays file))
      (λ old' new' mid mid' v s came c' session sends runs calls' told' k'. read_ran old' new' mid mid' at id v s came calls' told' places since wire file (more_leaves c' session s.command at id sends) runs k')
      empties old new log log' version starts cursor left poll own.0 seeks calls told k
  check_ran file c t files chunks sound (by_index it sending is came runs hears) k =
      let own = subst (IsSoundCheck b) is sound in
      read_ran old new log log' at id version sending came calls told places since wire file (index_leaves b at id files chunks it sending.command own.command_is) runs k

  -- one that is given up
  pub landing_ran : (c : ClientCheck) (t : Option ClientCheck) → IsSoundCheck b c → LandsCheck old new log log' version c t → KnowsFile (past_of places since calls wire) at id unknown → Grew places since calls log' wire (λ past. KnowsFile past at id unknown)
  landing_ran c t sound (by_find sending is came runs left) k = any_ran old new log log' at id version sending came calls told places since wire runs k
  landing_ran c t sound (by_creation it sending is came runs left) k = any_ran old new log log' at id version sending came calls told places since wire runs k
  landing_ran c t sound (by_listing it sending is came runs left) k = any_ran old new log log' at id version sending came calls told places since wire runs k
  landing_ran c t sound (by_advance it cursor found count is started left poll tries lands) k =
      let own = subst (IsSoundCheck b) is sound in
      advance_ran places since wire (λ past. KnowsFile past at id unknown)
      (λ old' new' mid mid' v s came c' session sends runs calls' told' k'. any_ran old' new' mid mid' at id v s came calls' told' places since wire runs k')
      old new log log' version started cursor tries.advanced poll own.0 tries.tries calls told k
  landing_ran c t sound (by_index it sending is came runs left) k = any_ran old new log log' at id version sending came calls told places since wire runs k
