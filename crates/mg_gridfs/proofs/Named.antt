-- The cursor of a list goes on naming a collection, and the commands of an upload name no cursor.
use Rattle.std.proofs.Common.{◌≡◌, ℕ, zero, suc, ℤ, true, false, Bool, List, [], ◌∷◌, Option, None, refl, sym, ap, ◌∙◌, subst, inl, inr}
use Rattle.std.specs.Prelude.{codes}
use Rattle.mg_bson.specs.Tree.{Fields, Tree}
use Rattle.mg_server.specs.Commands.{Asked, asked, asks_create, asks_delete, asks_indexes, asks_insert}
use Rattle.mg_link.specs.Exec.{Sending}
use Rattle.mg_server.specs.Files.{has_value}
use Rattle.mg_link.specs.Link.{Awaited, LogTold}
use Rattle.mg_link.specs.Session.{Session}
use Rattle.mg_server.specs.Standing.{Names}
use Rattle.mg_ops.specs.Naming.{IsNamed}
use Rattle.mg_ops.proofs.Asking.{asks_to_insert}
use Rattle.mg_ops.proofs.AskingMore.{asks_to_create, asks_to_delete, asks_to_index}
use Rattle.mg_cursor.specs.Client.{ClientCursor}
use Rattle.mg_cursor.specs.Documents.{AdvancesOnce, DocumentCursor, TakesNext, gives, polls}
use Rattle.mg_cursor.specs.Seeking.{EndsSeeking, SeeksDocument, TriesAdvance, session_after}
use Rattle.mg_cursor.specs.declared.polls.AdvancePoll.{AdvancePoll}
use Rattle.mg_cursor.specs.declared.polls.AdvancePoll.TheVariants as advance
use Rattle.mg_cursor.specs.declared.polls.NextPoll.{NextPoll}
use Rattle.mg_cursor.specs.declared.polls.NextPoll.TheVariants as next
use Rattle.mg_cursor.specs.declared.polls.TryPoll.{TryPoll}
use Rattle.mg_cursor.specs.declared.polls.TryPoll.TheVariants as try
use Rattle.mg_cursor.specs.declared.results.AdvanceResult.TheVariants as result
use Rattle.mg_cursor.proofs.Advancing.{takes_cursor}
use Rattle.mg_cursor.proofs.Sought.{ended_cursor, kept_cursor}
use Rattle.mg_gridfs.specs.Buckets.{ClientBucket}
use Rattle.mg_chunks.specs.Filters.{of_file}
use Rattle.mg_gridfs.specs.Commands.{IsRequest, any_lines, chunks_lines, creation_lines, deletion_lines, index_lines, insert_options, record_lines}
use Rattle.mg_gridfs.specs.Indexes.{keys_of, space_in}
use Rattle.mg_gridfs.specs.declared.indexes.Place.{Place}
use Rattle.mg_gridfs.proofs.Downloading.{IsNoFailure, next_named}
use Rattle.mg_gridfs.proofs.Meaning.{IsReading, any_reads, has_name, index_named, named_in}

-- ---- the cursor of a list

-- it did not fail
abbrev pub TriesWell : TryPoll → Type 0
TriesWell try.Pending = Unit {0}
TriesWell (try.Ready a) = Unit {0}
TriesWell (try.Failed e) = ⊥

abbrev pub SeeksWell : AdvancePoll → Type 0
SeeksWell advance.Pending = Unit {0}
SeeksWell (advance.Ready there) = Unit {0}
SeeksWell (advance.Failed e) = ⊥

next_fine : (d : DocumentCursor) (c : ClientCursor) (p : NextPoll) (d' : DocumentCursor) (r : TryPoll) → TriesWell r → TakesNext d c p d' r → IsNoFailure p
next_fine d c next.Pending d' r fine h = tt
next_fine d c (next.Batch bytes) d' r fine h = tt
next_fine d c next.End d' r fine h = tt
next_fine d c (next.Failed e) d' r fine h = subst TriesWell h.1 fine

advance_named : (old new : Awaited) (log log' : LogTold) (wire : ℤ) (started : Bool) (d d' : DocumentCursor) (r : TryPoll) → TriesWell r → IsNamed d.cursor.space → AdvancesOnce old new log log' wire None started d d' r → IsNamed d'.cursor.space
advance_named old new log log' wire started d d' r fine named (gives x xs these none same is answer) = subst (λ (y : DocumentCursor). IsNamed y.cursor.space) (sym is) named
advance_named old new log log' wire started d d' r fine named (polls none_left c p ran takes) =
    subst (λ (y : ClientCursor). IsNamed y.space) (sym (takes_cursor d c p d' r takes)) (next_named old new log log' wire started d.cursor c p (next_fine d c p d' r fine takes) named ran)

pub tries_named : (old new : Awaited) (log log' : LogTold) (wire : ℤ) (started : Bool) (d d' : DocumentCursor) (r : TryPoll) → TriesWell r → IsNamed d.cursor.space → TriesAdvance old new log log' wire None started d d' r → IsNamed d'.cursor.space
tries_named old new log log' wire started d d' r fine named h =
    let same : d'.cursor ≡ h.advanced.cursor = ap (λ (y : DocumentCursor). y.cursor) h.kept ∙ kept_cursor r h.advanced in
    subst (λ (y : ClientCursor). IsNamed y.space) (sym same) (advance_named old new log log' wire started d h.advanced r fine named h.tries)

last_fine : (p : TryPoll) (d d' : DocumentCursor) (r : AdvancePoll) → SeeksWell r → EndsSeeking p d d' r → TriesWell p
last_fine try.Pending d d' r fine h = tt
last_fine (try.Ready a) d d' r fine h = tt
last_fine (try.Failed e) d d' r fine h = subst SeeksWell h.1 fine

none_after : (started : Bool) → session_after started None ≡ None
none_after true = refl
none_after false = refl

pub seeks_named : (n : ℕ) (old new : Awaited) (log log' : LogTold) (wire : ℤ) (starts : ℕ) (d d' : DocumentCursor) (r : AdvancePoll) → SeeksWell r → IsNamed d.cursor.space → SeeksDocument n old new log log' wire None starts d d' r → IsNamed d'.cursor.space
unfolding SeeksDocument
seeks_named zero old new log log' wire starts d d' r fine named last =
    subst (λ (y : ClientCursor). IsNamed y.space) (sym (ended_cursor last.poll last.advanced d' r last.ends))
    (advance_named old new log log' wire last.started d last.advanced last.poll (last_fine last.poll last.advanced d' r fine last.ends) named last.tries)
seeks_named (suc n) old new log log' wire starts d d' r fine named more =
    let on = more.5 in
    let advanced = advance_named old more.0 log more.1 wire more.2 d on.advanced (try.Ready result.Waiting) tt named on.tries in
    let here : IsNamed more.4.cursor.space = subst (λ (y : DocumentCursor). IsNamed y.cursor.space) (sym on.counts) advanced in
    seeks_named n more.0 new more.1 log' wire more.3 more.4 d' r fine here (subst (λ (s : Option Session). SeeksDocument n more.0 new more.1 log' wire s more.3 more.4 d' r) (none_after more.2) more.7)

-- ---- commands that name no cursor

-- a request names none
abbrev pub NamesNone : Sending → Type 0
NamesNone s = (x : ℤ) → Names (asked s.command) x → ⊥

names_none : (command : List ℕ) (a : Asked) → asked command ≡ a → ((x : ℤ) → Names a x → ⊥) → (x : ℤ) → Names (asked command) x → ⊥
names_none command a is none x names = none x (subst (λ (c : Asked). Names c x) is names)

reading_none : (a : Asked) → IsReading a → (x : ℤ) → Names a x → ⊥
reading_none a (inl q) x names = subst (λ (c : Asked). Names c x) q.1 names
reading_none a (inr other) x names = subst (λ (c : Asked). Names c x) other names

module _ (b : ClientBucket) (files : IsNamed b.files) (chunks : IsNamed b.chunks) where
  pub any_none : (s : Sending) → IsRequest true (any_lines b) s → NamesNone s
  any_none s r = reading_none (asked s.command) (any_reads b s.command r.command_is)

  pub creation_none : (k : Place) (s : Sending) → IsRequest false (creation_lines b k) s → NamesNone s
  creation_none k s r = names_none s.command (asks_create (space_in b k)) (asks_to_create s.command (space_in b k) b.writes None (named_in b k files chunks) r.command_is) (λ x names. names)

  pub index_none : (k : Place) (s : Sending) → IsRequest false (index_lines b k) s → NamesNone s
  index_none k s r =
      names_none s.command (asks_indexes (space_in b k) (record { name = index_named k; key = keys_of k } ∷ [])) (asks_to_index s.command (space_in b k) (keys_of k) (index_named k) b.writes None (named_in b k files chunks) (has_name k) r.command_is) (λ x names. names)

  pub chunks_none : (documents : List Fields) (s : Sending) → IsRequest false (chunks_lines b documents) s → NamesNone s
  chunks_none documents s r = names_none s.command (asks_insert b.chunks documents true) (asks_to_insert s.command b.chunks documents (insert_options b.writes) None chunks r.command_is) (λ x names. names)

  pub record_none : (document : Fields) (s : Sending) → IsRequest false (record_lines b document) s → NamesNone s
  record_none document s r = names_none s.command (asks_insert b.files (document ∷ []) true) (asks_to_insert s.command b.files (document ∷ []) (insert_options b.writes) None files r.command_is) (λ x names. names)

  pub deletion_none : (id : Tree) (s : Sending) → IsRequest false (deletion_lines b id) s → NamesNone s
  deletion_none id s r =
      names_none s.command (asks_delete b.chunks (has_value (codes "files_id") id ∷ []) true) (asks_to_delete s.command b.chunks (of_file id) (has_value (codes "files_id") id ∷ []) true b.writes None chunks refl r.command_is) (λ x names. names)
