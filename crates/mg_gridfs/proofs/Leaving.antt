-- What stands behind a poll of a read.
use Rattle.std.proofs.Common.{◌≡◌, ℕ, zero, suc, ℤ, List, sym, ap, ◌∙◌, subst}
use Rattle.mg_link.specs.Link.{Awaited, LogTold}
use Rattle.mg_cursor.specs.Client.{ClientCursor}
use Rattle.mg_gridfs.specs.Downloads.{ClientDownload, reads, spoiled}
use Rattle.mg_gridfs.specs.Reads as steps
use Rattle.mg_gridfs.specs.Reads.{Concludes, EndsFetch, Fetched, Fetches, Fills, HandsOut, LeavesRead, Reads, ReadsNone, enough, fails, no_more, none_missing, not_taken, over, pends, waits}
use Rattle.mg_gridfs.specs.declared.polls.ReadPoll.{ReadPoll}

abbrev FetchLeaves : ClientDownload → Fetched → Type 0
FetchLeaves d waits = (c : ClientCursor) × (missing : ℕ) × (empty : ℕ) × (d.doing ≡ reads c missing empty)
FetchLeaves d enough = Unit {0}
FetchLeaves d (fails e) = d.doing ≡ spoiled

ends_leave : (old new : Awaited) (log log' : LogTold) (wire : ℤ) (d d' : ClientDownload) (f : Fetched) → EndsFetch old new log log' wire d d' f → FetchLeaves d' f
ends_leave old new log log' wire d d' f (none_missing x empty there quiet is answer) = subst (FetchLeaves d') (sym answer) tt
ends_leave old new log log' wire d d' f (over x m k there short started behind polls is answer) = subst (FetchLeaves d') (sym answer) tt
ends_leave old new log log' wire d d' f (pends x m k there short started behind polls is answer) = subst (FetchLeaves d') (sym answer) (behind, m, k, ap (λ (y : ClientDownload). y.doing) is)
ends_leave old new log log' wire d d' f (no_more x m k there short started behind e polls is answer) = subst (FetchLeaves d') (sym answer) (ap (λ (y : ClientDownload). y.doing) is)
ends_leave old new log log' wire d d' f (not_taken x m k there short started behind reply e polls why is answer) = subst (FetchLeaves d') (sym answer) (ap (λ (y : ClientDownload). y.doing) is)

fetches_leave : (n : ℕ) (old new : Awaited) (log log' : LogTold) (wire : ℤ) (d d' : ClientDownload) (f : Fetched) → Fetches n old new log log' wire d d' f → FetchLeaves d' f
unfolding Fetches
fetches_leave zero old new log log' wire d d' f ends = ends_leave old new log log' wire d d' f ends
fetches_leave (suc n) old new log log' wire d d' f more = fetches_leave n more.0 new more.1 log' wire more.2 d' f more.4

module _ (old new : Awaited) (log log' : LogTold) (wire : ℤ) (d d' : ClientDownload) (given : List ℕ) (r : ReadPoll) where
  none_leaves : ReadsNone old new log log' d d' given r → LeavesRead d' r
  none_leaves h = subst (LeavesRead d') (sym h.answer) tt

  gives_leave : (room : ℕ) (c : ClientCursor) (e : ClientDownload) → HandsOut room c e d' given r → LeavesRead d' r
  gives_leave room c e (steps.goes_on more is there answer) = subst (LeavesRead d') (sym answer) tt
  gives_leave room c e (steps.ends none over_so full is there answer) = subst (LeavesRead d') (sym answer) tt
  gives_leave room c e (steps.miscounts none over_so other no_bytes there answer) = subst (LeavesRead d') (sym answer) (ap (λ (y : ClientDownload). y.doing) there)

  concluded_leaves : (room : ℕ) (f : Fetched) (left : ClientDownload) → FetchLeaves left f → Concludes room f left d' given r → LeavesRead d' r
  concluded_leaves room waits left h ends = subst (LeavesRead d') (sym ends.2) (h.0, h.1, h.2, ap (λ (y : ClientDownload). y.doing) ends.0 ∙ h.3)
  concluded_leaves room enough left h ends = gives_leave room ends.0 left ends.2
  concluded_leaves room (fails e) left h ends = subst (LeavesRead d') (sym ends.2) (ap (λ (y : ClientDownload). y.doing) ends.0 ∙ h)

  fills_leave : (room : ℕ) (e : ClientDownload) → Fills old new log log' wire room e d' given r → LeavesRead d' r
  fills_leave room e h = concluded_leaves room h.fetched h.left (fetches_leave h.batches old new log log' wire e h.left h.fetched h.fetches) h.concludes

  pub reads_leave : (room : ℕ) → Reads old new log log' wire room d d' given r → LeavesRead d' r
  reads_leave room (steps.no_room none h) = none_leaves h
  reads_leave room (steps.is_over some ended h) = none_leaves h
  reads_leave room (steps.in_hand some c is more quiet gives) = gives_leave room c d gives
  reads_leave room (steps.begins some c is none h) = fills_leave room (record d { doing = reads c room 0 }) h
  reads_leave room (steps.goes_on some c missing empty is h) = fills_leave room d h
