-- How puts end over a link that loses nothing, where their server holds nothing back.
use Rattle.std.proofs.Common.{◌≡◌, ◌<◌, ◌≤◌, ◌+◌, ℕ, List, length, Bool, Option, Some, sym, ap, ◌∙◌, subst, inl, inr, arith}
use Rattle.mg_bson.specs.Tree.{Fields}
use Rattle.mg_server.specs.Calls.{HeardAt, HeardBy, Past}
use Rattle.mg_server.specs.History.{IsLegal, Step}
use Rattle.mg_link.specs.Log.{fault, reply}
use Rattle.mg_link.specs.declared.error.Error.{Error}
use Rattle.mg_link.specs.declared.error.ErrorKind.TheVariants as kind
use Rattle.mg_ops.specs.Naming.{IsNamed}
use Rattle.mg_gridfs.specs.Causes as causes
use Rattle.mg_gridfs.specs.Causes.{RemovalFails, UploadFails}
use Rattle.mg_gridfs.specs.Steps as steps
use Rattle.mg_gridfs.specs.Steps.{FailsToUndo}
use Rattle.mg_gridfs.specs.Uploads.{record_of}
use Rattle.mg_script.specs.declared.outcome.Ended.{Ended}
use Rattle.mg_script.specs.declared.outcome.Ended.TheVariants as ended
use Rattle.mg_players.specs.Causes.{PutEndsBy}
use Rattle.mg_jobs.specs.Completing.{EndsWell, SendFresh}
use Rattle.mg_players.specs.Progress.{PutPlayed}
use Rattle.mg_players.specs.PutFailures as fails
use Rattle.mg_players.specs.PutFailures.{HasManyChunks, IsCommonKind, IsPutError, PutCheckFails, PutFails}
use Rattle.mg_jobs.specs.PutLimits as limits
use Rattle.mg_jobs.specs.PutLimits.{HasFewIndexes, IsExcusedPut, IsValidPut}
use Rattle.mg_players.specs.Puts.{CannotOpen, PutTask, put_aim, put_bucket}
use Rattle.mg_players.proofs.PutChecked.{next_of_check}
use Rattle.mg_players.proofs.PutErrors.{NoLimit, first_limit, never_both}
use Rattle.mg_jobs.proofs.PutHeard.{IsKnown, OwnStep, chunks_well, creation_well, deletion_well, find_well, index_well, listing_well, record_well}
use Rattle.mg_jobs.proofs.PutLists as lists
use Rattle.mg_jobs.proofs.PutLists.{asked_excused, more_well, never_broken, never_empty, never_too_many}

-- its chunks are not too many
few_chunks : (t : PutTask) → IsValidPut t → HasManyChunks t → ⊥
few_chunks t valid many = let some = valid.some in let few = valid.few in omega (arith, some, few, many)

module _ (own : List ℕ) (history : List Step) (legal : IsLegal history) (past : Past) (heard : List ℕ → Type 0) (t : PutTask) (lost : (command : Fields) → HeardBy past command fault → ⊥)
    (taken : (command : Fields) (bytes : List ℕ) (h : HeardBy past command (reply bytes)) → IsKnown past t h.place command bytes → OwnStep own history command bytes)
    (hears : (command : Fields) (bytes : List ℕ) → HeardBy past command (reply bytes) → heard bytes) (valid : IsValidPut t) (fresh : SendFresh own history)
    (rises : (place place' : ℕ) (command command' : Fields) (bytes bytes' : List ℕ) (h : HeardAt past place command (reply bytes)) (h' : HeardAt past place' command' (reply bytes')) (k : IsKnown past t place command bytes) (k' : IsKnown past t place' command' bytes') → place < place' → (taken command bytes (record { place = place; heard = h }) k).position < (taken command' bytes' (record { place = place'; heard = h' }) k').position) (few : HasFewIndexes own history t) where
  files : IsNamed (put_bucket t).files
  files = valid.named.0

  chunks : IsNamed (put_bucket t).chunks
  chunks = valid.named.1

  -- memory ran out, or something is not built
  abbrev Excused : Error → Type 0
  Excused e = IsExcusedPut heard t e

  room : (e : Error) → e.kind ≡ kind.OutOfMemory → Excused e
  room e full = inl full

  check_well : (e : Error) → PutCheckFails past (put_bucket t) e → Excused e
  check_well e (fails.out_of_memory full) = room e full
  check_well e (fails.not_built lines its cannot) = inr (limits.in_check lines (next_of_check past (put_bucket t) lines its) cannot)
  check_well e (fails.by_find failed) = room e (find_well past own history t lost taken files chunks e failed)
  check_well e (fails.by_creation at failed other) = room e (creation_well past own history t lost taken files chunks e at other failed)
  check_well e (fails.by_listing at created failed) = room e (listing_well past own history t lost taken files chunks e at created failed)
  check_well e (fails.by_index at failed) = room e (index_well past own history t lost taken files chunks e at failed)
  check_well e (fails.not_asked c l cannot) = inr (asked_excused own history legal past heard t lost taken hears files chunks c e l cannot)
  check_well e (fails.by_more c l failed) = room e (more_well own history legal past heard t lost taken hears files chunks c e l failed)
  check_well e (fails.broken bytes batch breaks) = absurd (never_broken own history legal past heard t lost taken hears files chunks bytes e batch breaks)
  check_well e (fails.stays_empty c l many last is) = absurd (never_empty own history legal past heard t lost taken hears files chunks c l many)
  check_well e (fails.no_index document listed failed) = room e (lists.index_well own history legal past heard t lost taken hears files chunks document e listed failed)
  check_well e (fails.too_many c l many is) = absurd (never_too_many own history legal past heard t lost taken hears files chunks rises few c l many)

  no_limit : (e : Error) → IsCommonKind e.kind → NoLimit past (put_aim t) e → Excused e
  no_limit e common (inl full) = room e full
  no_limit e common (inr (inl failed)) = room e (chunks_well past own history t lost taken files chunks e fresh failed.0 failed.1)
  no_limit e common (inr (inr (inl failed))) = room e (record_well past own history t lost taken files chunks e fresh (record_of (put_aim t) failed.0) failed.1)
  no_limit e common (inr (inr (inr is))) = absurd (subst (λ (x : Error). IsCommonKind x.kind) is common)

  upload_well : (e : Error) → IsPutError t e → UploadFails past (put_aim t) e → Excused e
  upload_well e (inl common) first = elim (first_limit past (put_aim t) e first) [ inl limit ↦ absurd (never_both e.kind limit common) | inr other ↦ no_limit e common other ]
  upload_well e (inr (inl cannot)) first = inr (limits.of_file cannot)
  upload_well e (inr (inr many)) first = absurd (few_chunks t valid many.1)

  undone_by : (original : Option Error) (d e : Error) → d.kind ≡ kind.OutOfMemory → FailsToUndo original d e → e.kind ≡ kind.OutOfMemory
  undone_by original d e full (steps.no_memory also same) = ap (λ (x : Error). x.kind) same ∙ full
  undone_by original d e full (steps.holds_both other failed) = absurd (other full)

  removal_well : (original d e : Error) → IsPutError t original → RemovalFails past (put_aim t) d → FailsToUndo (Some original) d e → Excused e
  removal_well original d e its (causes.out_of_memory full) both = room e (undone_by (Some original) d e full both)
  removal_well original d e its (causes.not_built cannot) both = inr (limits.a_removal original d its cannot both)
  removal_well original d e its (causes.by_deletion failed) both = room e (undone_by (Some original) d e (deletion_well past own history t lost taken files chunks d failed) both)

  call_well : (e : Error) → PutFails past t e → Excused e
  call_well e (fails.early (fails.check_fails failed)) = check_well e failed
  call_well e (fails.early (fails.not_taken is)) = room e (ap (λ (x : Error). x.kind) is)
  call_well e (fails.late original first (fails.first_error removed is)) = subst Excused (sym is) (upload_well original first.of_put first.by_upload)
  call_well e (fails.late original first (fails.not_removed d failed both)) = removal_well original d e first.of_put failed both

  opening_well : (e : Error) → CannotOpen t e → Excused e
  opening_well e (inl full) = room e (ap (λ (x : Error). x.kind) full)
  opening_well e (inr (inl none, is)) = let some = valid.some in absurd (omega (arith, some, none))
  opening_well e (inr (inr large, is)) = let small = valid.small in absurd (omega (arith, small, large))

  pub put_well : (all : Past) (end : Ended ℕ) (k : ℕ) (last : Bool) → PutEndsBy all past t end → PutPlayed end (length t.pieces) k last → length t.pieces + 2 ≤ k → EndsWell Excused end
  put_well all ended.Unfinished k last ends played turns = omega (arith, played, turns)
  put_well all (ended.Gave n) k last ends played turns = tt
  put_well all (ended.Failed e) k last (inl cannot) played turns = opening_well e cannot.0
  put_well all (ended.Failed e) k last (inr failed) played turns = call_well e failed.1
