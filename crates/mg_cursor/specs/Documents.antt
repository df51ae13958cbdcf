-- A cursor that gives its documents one by one: a list with a place.
use Rattle.std.specs.Prelude.{◌≡◌, ◌≢◌, ◌⊎◌, refl, ℕ, ℤ, Bool, true, false, List, [], ◌∷◌, Option, Some, None, is_some, Result, Ok, Err}
use Rattle.std.specs.Coded.{Coded, code_by, coded×, coded_ℕ, coded_list, coded_option}
use Rattle.mg_link.specs.Link.{Awaited, SendsNothing, LogTold}
use Rattle.mg_link.specs.Moment.{Ending, pending, finished, failed}
use Rattle.mg_link.specs.Session.{Session}
use Rattle.mg_link.specs.declared.error.Error.{Error}
use Rattle.mg_link.specs.declared.error.Malformed.{Malformed}
use Rattle.mg_records.specs.Readings.{FailsToRead}
use Rattle.mg_cursor.specs.Batches.{BreaksBatch, documents_of}
use Rattle.mg_cursor.specs.Client.{ClientCursor, HasNext}
use Rattle.mg_cursor.specs.ClientCode.{coded_client}
use Rattle.mg_cursor.specs.Polling.{PollsNext}
use Rattle.mg_cursor.specs.declared.polls.NextPoll.{NextPoll}
use Rattle.mg_cursor.specs.declared.polls.NextPoll.TheVariants as next
use Rattle.mg_cursor.specs.declared.polls.TryPoll.{TryPoll}
use Rattle.mg_cursor.specs.declared.polls.TryPoll.TheVariants as try
use Rattle.mg_cursor.specs.declared.results.AdvanceResult.TheVariants as result

pub record DocumentCursor : Type 0 where
  pub cursor : ClientCursor
  -- the document that the last advance gave, as its bytes; none where it gave none
  pub current : Option (List ℕ)
  -- the documents received and not yet given
  pub behind : List (List ℕ)
  -- how many empty replies in a row a call got that goes on
  pub empty : ℕ

abbrev pub coded_documents : Coded DocumentCursor
coded_documents = code_by ((ClientCursor × ℕ) × (Option (List ℕ) × List (List ℕ)))
    (coded× (coded× coded_client coded_ℕ) (coded× (coded_option (coded_list coded_ℕ)) (coded_list (coded_list coded_ℕ))))
    (λ d. ((d.cursor, d.empty), (d.current, d.behind))) (λ p. record { cursor = p.0.0; current = p.1.0; behind = p.1.1; empty = p.0.1 }) (λ d. refl)

-- before its first document
abbrev pub new_documents : ClientCursor → DocumentCursor
new_documents c = record { cursor = c; current = None; behind = []; empty = 0 }

-- behind a batch, whose first document is given
abbrev pub filled_with : ClientCursor → List (List ℕ) → DocumentCursor → DocumentCursor
filled_with c [] d = record d { cursor = c; current = None; behind = [] }
filled_with c (x ∷ xs) d = record d { cursor = c; current = Some x; behind = xs }

abbrev pub advance_by : List (List ℕ) → TryPoll
advance_by [] = try.Ready result.Waiting
advance_by (x ∷ xs) = try.Ready (result.Advanced tt)

-- what comes of a batch: its first document is given, or it is empty; or it is no batch of documents, and none of it is kept
pub data Fills (d : DocumentCursor) (c : ClientCursor) (bytes : List ℕ) (d' : DocumentCursor) (r : TryPoll) : Type 0 where
  filled : (documents : List (List ℕ)) → documents_of bytes ≡ Some documents → d' ≡ filled_with c documents d → r ≡ advance_by documents → Fills d c bytes d' r
  broken : (e : Error) → BreaksBatch bytes e → d' ≡ filled_with c [] d → r ≡ try.Failed e → Fills d c bytes d' r

-- what comes of a poll for the next batch
abbrev pub TakesNext : DocumentCursor → ClientCursor → NextPoll → DocumentCursor → TryPoll → Type 0
TakesNext d c next.Pending d' r = (d' ≡ filled_with c [] d) × (r ≡ try.Pending)
TakesNext d c (next.Batch bytes) d' r = Fills d c bytes d' r
TakesNext d c next.End d' r = (d' ≡ filled_with c [] d) × (r ≡ try.Ready result.Exhausted)
TakesNext d c (next.Failed e) d' r = (d' ≡ filled_with c [] d) × (r ≡ try.Failed e)

-- One advance: the next document received is given, and nothing is sent; where none is left, one batch is asked for.
pub data AdvancesOnce (old new : Awaited) (log log' : LogTold) (wire : ℤ) (session : Option Session) (started : Bool) (d d' : DocumentCursor) (r : TryPoll) : Type 0 where
  gives : (x : List ℕ) (xs : List (List ℕ)) → d.behind ≡ x ∷ xs → SendsNothing old new log log' → started ≡ false → d' ≡ record d { current = Some x; behind = xs } → r ≡ try.Ready (result.Advanced tt) → AdvancesOnce old new log log' wire session started d d' r
  polls : d.behind ≡ [] → (c : ClientCursor) (p : NextPoll) → PollsNext old new log log' wire session started d.cursor c p → TakesNext d c p d' r → AdvancesOnce old new log log' wire session started d d' r

-- a document that is there, one that was received, or one that the server may hold
abbrev pub HasMore : DocumentCursor → Type 0
HasMore d = (is_some d.current ≡ true) ⊎ ((d.behind ≢ []) ⊎ HasNext d.cursor)

-- how an advance ended
abbrev pub try_ending : TryPoll → Ending
try_ending try.Pending = pending
try_ending (try.Ready r) = finished
try_ending (try.Failed e) = failed e

-- what the current document is read as, by the record that it stands for
abbrev pub ReadsBy : {T Record : Type 0} → (T → Record) → Result Record Malformed → Result T Error → Type 0
ReadsBy seen read (Ok value) = read ≡ Ok (seen value)
ReadsBy seen read (Err e) = FailsToRead read e

abbrev pub ReadsAs : {T Record : Type 0} → (List ℕ → Result Record Malformed) → (T → Record) → Option (List ℕ) → Result T Error → Type 0
ReadsAs stands_for seen None r = Unit {0}
ReadsAs stands_for seen (Some document) r = ReadsBy seen (stands_for document) r
