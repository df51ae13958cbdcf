-- What the steps of a check keep of the link.
use Rattle.std.proofs.Common.{◌≡◌, ◌↔◌, IsTrue, ℕ, ℤ, Bool, true, false, List, Option, Some, None, is_some, Result, Ok, Err, refl, sym, ap, ◌∙◌, subst, inl, inr}
use Rattle.std.specs.Prelude.{option_map}
use Rattle.mg_bson.specs.Raw.{fields}
use Rattle.mg_bson.specs.Tree.{Fields}
use Rattle.mg_link.specs.Acts.{ticket_after}
use Rattle.mg_link.specs.Exec.{Runs, Sending, ticket_at, ticket_of}
use Rattle.mg_link.specs.Link.{Awaited, LogTold}
use Rattle.mg_link.specs.Moment.{LinkKeeps, Moment, failed, finished, step_ending}
use Rattle.mg_link.specs.declared.action.Step.{Step}
use Rattle.mg_link.specs.declared.action.Step.TheVariants as came
use Rattle.mg_link.specs.declared.error.Error.{Error}
use Rattle.mg_link.specs.declared.error.ErrorKind.TheVariants as kind
use Rattle.mg_link.specs.declared.error.Malformed.{Malformed}
use Rattle.mg_options.specs.Fields.{Line}
use Rattle.mg_ops.specs.Failing.{FailsBy}
use Rattle.mg_ops.specs.Writes.{WriteFails}
use Rattle.mg_chunks.specs.Broken.{Breaks}
use Rattle.mg_records.specs.Readings.{FailsToRead, recorded}
use Rattle.mg_records.specs.Specifications.{index_of}
use Rattle.mg_cursor.specs.Client.{client_ticket}
use Rattle.mg_cursor.specs.Documents.{DocumentCursor}
use Rattle.mg_cursor.specs.Seeking.{advance_ending}
use Rattle.mg_cursor.specs.declared.polls.AdvancePoll.{AdvancePoll}
use Rattle.mg_cursor.specs.declared.polls.AdvancePoll.TheVariants as advance
use Rattle.mg_cursor.proofs.Hearing.{failing, keeps_to, no_room, other_kind, unread_not_io}
use Rattle.mg_gridfs.specs.Buckets.{ClientBucket}
use Rattle.mg_gridfs.specs.Checks as check
use Rattle.mg_gridfs.specs.Checks.{Builds, CheckTurned, ChecksOn, ClientCheck, Creates, EndsList, GoesBehind, HearsAdvance, LandsCheck, Looks, built, check_ending, check_ticket, creates, finds, indexes, lists, not_built, reads, still_of, turned_ticket}
use Rattle.mg_gridfs.specs.UploadView.{HearsAsked, asked_as}
use Rattle.mg_gridfs.specs.declared.check.Request.{Request}
use Rattle.mg_gridfs.specs.declared.check.Request.TheVariants as request
use Rattle.mg_gridfs.specs.declared.indexes.Place.{Place}
use Rattle.mg_gridfs.specs.declared.indexes.Place.TheVariants as place
use Rattle.mg_gridfs.proofs.Idle.{IdleBy}
use Rattle.mg_gridfs.proofs.Stepping.{keeps_end}
use Rattle.mg_gridfs.proofs.Unsent.{unsent_not_io}

-- a write that lists a failure, or breaks its grammar
unwritten_not_io : (said : Fields) (e : Error) → FailsBy (WriteFails said) e → e.kind ≡ kind.Io → ⊥
unwritten_not_io said e (inl room) = no_room e room
unwritten_not_io said e (inr (inl breaks)) = other_kind e (kind.InvalidResponse breaks.how) breaks.error (λ bad. cc)
unwritten_not_io said e (inr (inr lists_so)) = other_kind e (kind.Write lists_so.first) lists_so.error (λ bad. cc)

breaks_not_io : {Y : Type 0} (read : Result Y Malformed) (e : Error) → Breaks read e → e.kind ≡ kind.Io → ⊥
breaks_not_io (Ok y) e breaks = absurd breaks
breaks_not_io (Err m) e breaks = other_kind e (kind.InvalidResponse m) breaks (λ bad. cc)

-- an item that is no index
no_index_not_io : (document : List ℕ) (e : Error) → FailsToRead (recorded (index_of (fields document))) e → e.kind ≡ kind.Io → ⊥
no_index_not_io document e (inl room) = no_room e room
no_index_not_io document e (inr breaks) = breaks_not_io (recorded (index_of (fields document))) e breaks

pub asked_ticket : (r : Request) (s : Sending) → check_ticket (asked_as r s) ≡ ticket_of s
asked_ticket request.Find s = refl
asked_ticket (request.Create at) s = refl
asked_ticket (request.List at) s = refl
asked_ticket (request.Index at) s = refl

module _ (m m' : Moment) (t : Option ℕ) (r : CheckTurned) where
  -- by what it came to
  kept_as : (q : CheckTurned) → r ≡ q → LinkKeeps m m' t (turned_ticket q) (check_ending q) → LinkKeeps m m' t (turned_ticket r) (check_ending r)
  kept_as q is k = subst (λ (x : CheckTurned). LinkKeeps m m' t (turned_ticket x) (check_ending x)) (sym is) k

  kept_failed : (e : Error) → (e.kind ≡ kind.Io → ⊥) → r ≡ check.fails e → LinkKeeps m m' t None finished → LinkKeeps m m' t (turned_ticket r) (check_ending r)
  kept_failed e other is k = kept_as (check.fails e) is (failing m m' t None e other k)

  builds_kept : (again : Bool) (lines : List Line) (next : Sending → ClientCheck) → ((s : Sending) → check_ticket (next s) ≡ ticket_of s) → Builds again lines next r → LinkKeeps m m' t None finished → LinkKeeps m m' t (turned_ticket r) (check_ending r)
  builds_kept again lines next ticket (built s new_one is) k = kept_as (check.goes (next s)) is (keeps_to m m' t None (check_ticket (next s)) finished (sym (ticket s ∙ ap ticket_at new_one.new)) k)
  builds_kept again lines next ticket (not_built e fails is) k = kept_failed e (unsent_not_io lines e fails) is k

  behind_kept : (b : ClientBucket) (at : Place) → GoesBehind b at r → LinkKeeps m m' t None finished → LinkKeeps m m' t (turned_ticket r) (check_ending r)
  behind_kept b place.Files h k = builds_kept _ _ (creates place.Chunks) (λ s. refl) h k
  behind_kept b place.Chunks is k = kept_as check.passes is k

  -- ---- requests

  created_kept : (b : ClientBucket) (at : Place) (p : Step Sending (List ℕ)) → Creates b at p r → ((e : Error) → p ≡ came.Failed e → LinkKeeps m m' t None (failed e)) → LinkKeeps m m' t None finished → LinkKeeps m m' t (turned_ticket r) (check_ending r)
  created_kept b at p (check.created reply is success h) fault k = builds_kept _ _ (lists at) (λ s. refl) h k
  created_kept b at p (check.there e is code h) fault k = builds_kept _ _ (lists at) (λ s. refl) h k
  created_kept b at p (check.unread reply e is fails answer) fault k = kept_failed e (unwritten_not_io (fields reply) e fails) answer k
  created_kept b at p (check.other e is code answer) fault k = kept_as (check.fails e) answer (fault e is)

  asked_kept : (b : ClientBucket) (a : Request) (p : Step Sending (List ℕ)) → HearsAsked b a p r → LinkKeeps m m' t (ticket_after ticket_of p) (step_ending p) → LinkKeeps m m' t (turned_ticket r) (check_ending r)
  asked_kept b request.Find (came.Pending s) is k = kept_as (check.pends (finds s)) is k
  asked_kept b request.Find (came.Done reply) (check.some said read more is) k = kept_as check.passes is k
  asked_kept b request.Find (came.Done reply) (check.none said read empty h) k = builds_kept _ _ (creates place.Files) (λ s. refl) h k
  asked_kept b request.Find (came.Done reply) (check.broke e fails is) k = kept_failed e (unread_not_io (fields reply) e fails) is k
  asked_kept b request.Find (came.Failed e) is k = kept_as (check.fails e) is k
  asked_kept b (request.Create at) (came.Pending s) is k = kept_as (check.pends (creates at s)) is k
  asked_kept b (request.Create at) (came.Done reply) h k = created_kept b at (came.Done reply) h (λ e is. absurd (let bad : came.Done reply ≡ came.Failed e = is in cc)) k
  asked_kept b (request.Create at) (came.Failed e) h k = created_kept b at (came.Failed e) h (λ d is. (let same : e ≡ d = cc in subst (λ (x : Error). LinkKeeps m m' t None (failed x)) same k)) (keeps_end m m' t None e k)
  asked_kept b (request.List at) (came.Pending s) is k = kept_as (check.pends (lists at s)) is k
  asked_kept b (request.List at) (came.Done reply) (check.opened out opens is) k = kept_as _ is k
  asked_kept b (request.List at) (came.Done reply) (check.broke e fails is) k = kept_failed e (unread_not_io (fields reply) e fails) is k
  asked_kept b (request.List at) (came.Failed e) is k = kept_as (check.fails e) is k
  asked_kept b (request.Index at) (came.Pending s) is k = kept_as (check.pends (indexes at s)) is k
  asked_kept b (request.Index at) (came.Done reply) (check.done success h) k = behind_kept b at h k
  asked_kept b (request.Index at) (came.Done reply) (check.unread e fails is) k = kept_failed e (unwritten_not_io (fields reply) e fails) is k
  asked_kept b (request.Index at) (came.Failed e) is k = kept_as (check.fails e) is k

  pub keeps_asked : (b : ClientBucket) (a : Request) (p : Step Sending (List ℕ)) → HearsAsked b a p r → LinkKeeps m m' t (ticket_after ticket_of p) (step_ending p) → LinkKeeps m m' t (turned_ticket r) (check_ending r)
  keeps_asked b a p h k = asked_kept b a p h k

  -- ---- a list

  looks_kept : (at : Place) (d : DocumentCursor) (document : List ℕ) (found : Bool) (count : ℕ) → client_ticket d.cursor ≡ None → Looks at d document found count r → LinkKeeps m m' t (client_ticket d.cursor) finished → LinkKeeps m m' t (turned_ticket r) (check_ending r)
  looks_kept at d document found count none (check.looked i few index is) k = kept_as _ is k
  looks_kept at d document found count none (check.too_many many is) k = kept_failed _ (λ io. (let bad : kind.TooManyDocuments ≡ kind.Io = io in cc)) is (keeps_to m m' t (client_ticket d.cursor) None finished none k)
  looks_kept at d document found count none (check.broke e fails is) k = kept_failed e (no_index_not_io document e fails) is (keeps_to m m' t (client_ticket d.cursor) None finished none k)

  list_kept : (b : ClientBucket) (at : Place) (found : Bool) → EndsList b at found r → LinkKeeps m m' t None finished → LinkKeeps m m' t (turned_ticket r) (check_ending r)
  list_kept b at true h k = behind_kept b at h k
  list_kept b at false h k = builds_kept _ _ (indexes at) (λ s. refl) h k

  pub keeps_advance : (b : ClientBucket) (at : Place) (d : DocumentCursor) (found : Bool) (count : ℕ) (p : AdvancePoll) → IdleBy p d → HearsAdvance b at d found count p r → LinkKeeps m m' t (client_ticket d.cursor) (advance_ending p) → LinkKeeps m m' t (turned_ticket r) (check_ending r)
  keeps_advance b at d found count advance.Pending idle is k = kept_as (check.pends (reads at d found count)) is k
  keeps_advance b at d found count (advance.Ready true) idle h k = looks_kept at d h.0 found count idle h.2 k
  keeps_advance b at d found count (advance.Ready false) idle h k = list_kept b at found h (keeps_to m m' t (client_ticket d.cursor) None finished idle k)
  keeps_advance b at d found count (advance.Failed e) idle is k = kept_as (check.fails e) is (keeps_to m m' t (client_ticket d.cursor) None (failed e) idle k)

-- ---- what a request came to, as a step of the check

pub asked_checks : (old new : Awaited) (log log' : LogTold) (wire : ℤ) (b : ClientBucket) (r : Request) (s : Sending) (p : Step Sending (List ℕ)) (t : CheckTurned) → Runs old new log log' wire s p → HearsAsked b r p t → ChecksOn old new log log' wire b (asked_as r s) t
asked_checks old new log log' wire b request.Find s p t runs h = check.by_find s refl p runs h
asked_checks old new log log' wire b (request.Create at) s p t runs h = check.by_creation at s refl p runs h
asked_checks old new log log' wire b (request.List at) s p t runs h = check.by_listing at s refl p runs h
asked_checks old new log log' wire b (request.Index at) s p t runs h = check.by_index at s refl p runs h

pub asked_lands : (old new : Awaited) (log log' : LogTold) (wire : ℤ) (r : Request) (s : Sending) (p : Step Sending (List ℕ)) (t : Option ClientCheck) → Runs old new log log' wire s p → t ≡ option_map (asked_as r) (still_of p) → LandsCheck old new log log' wire (asked_as r s) t
asked_lands old new log log' wire request.Find s p t runs is = check.by_find s refl p runs is
asked_lands old new log log' wire (request.Create at) s p t runs is = check.by_creation at s refl p runs is
asked_lands old new log log' wire (request.List at) s p t runs is = check.by_listing at s refl p runs is
asked_lands old new log log' wire (request.Index at) s p t runs is = check.by_index at s refl p runs is

-- an advance that came to a document has a current one
pub current_there : (d : DocumentCursor) (at : Place) (found : Bool) (count : ℕ) (t : CheckTurned) → is_some d.current ≡ true → ((document : List ℕ) → d.current ≡ Some document → Looks at d document found count t) → (document : List ℕ) × (d.current ≡ Some document) × Looks at d document found count t
current_there d at found count t there looks = by_current d.current refl
  where
    by_current : (o : Option (List ℕ)) → d.current ≡ o → (document : List ℕ) × (d.current ≡ Some document) × Looks at d document found count t
    by_current (Some document) is = (document, is, looks document is)
    by_current None is = let bad : true ≡ false = sym there ∙ ap is_some is in absurd cc

-- ---- codes

pub code_there : (o : Option ℤ) (code : ℤ) (b : Bool) → o ≡ Some code → (IsTrue b ↔ (code ≡ check.namespace_exists)) → IsTrue b ↔ (o ≡ Some check.namespace_exists)
code_there o code b is test = (λ holds. is ∙ ap (λ (z : ℤ). Some z) (test.0 holds), λ same. test.1 (let e : Some code ≡ Some check.namespace_exists = sym is ∙ same in cc))

pub no_code : (o : Option ℤ) → o ≡ None → IsTrue false ↔ (o ≡ Some check.namespace_exists)
no_code o is = (λ bad. absurd cc, λ same. absurd (let bad : None ≡ Some check.namespace_exists = sym is ∙ same in cc))
