-- What a put sent, by what it heard, and its first error go on to hold at a later time.
use Rattle.std.proofs.Common.{◌+◌, ℕ, ℤ, Bool, true, false, List, length, Option, Some, None, refl}
use Rattle.mg_bson.specs.Tree.{Fields}
use Rattle.mg_server.specs.Calls.{Grows, Past}
use Rattle.mg_link.specs.Exec.{Stage, first, second, unsent}
use Rattle.mg_link.specs.declared.error.Error.{Error}
use Rattle.mg_server.proofs.Calls.{same_keeps}
use Rattle.mg_server.proofs.Pasts.{request_fails_grows}
use Rattle.mg_gridfs.specs.Uploads.{Doing, Phase, begins, busy, checks, closed, ends, fills, idle, inserts, lands, lasts, records, removes, rests, undoes}
use Rattle.mg_players.specs.PutSends as put_sends
use Rattle.mg_players.specs.PutSends.{Around, DoingSent, HoldsError, IsErrorBehind, ListsSome, NeedsNoCheck, PhaseSent, PutSends, Reach, SentAll, SentChunks, SentFor, SentUntil, file_chunks, record_insert}
use Rattle.mg_players.specs.Puts.{PutTask, Supply, put_bucket}
use Rattle.mg_players.proofs.JustGrown.{GrowsBehind}
use Rattle.mg_players.proofs.PutHeard.{passes_grow, sends_grow, sent_at_grows}

-- nothing more was sent or heard
pub as_is : (past : Past) → Grows past past
as_is past = record { own = λ place call there own. own; keeps = same_keeps past.calls; wire = refl }

pub as_all_is : (past : Past) → GrowsBehind past past
as_all_is past = record { grows = as_is past; behind = λ first of place less within own. own }

around_so : (stage : Stage) (Before Behind Before' Behind' : Type 0) → (Before → Before') → (Behind → Behind') → Around stage Before Behind → Around stage Before' Behind'
around_so unsent Before Behind Before' Behind' f g h = f h
around_so (first ticket) Before Behind Before' Behind' f g h = g h
around_so (second ticket) Before Behind Before' Behind' f g h = g h

-- ---- by what all its calls heard

module _ (ever ever' : Past) (wider : GrowsBehind ever ever') (supply : Supply) (t : PutTask) where
  chunks_grow : (commands : List Fields) (checked : Bool) (upto : ℕ) → SentChunks supply t ever commands checked upto → SentChunks supply t ever' commands checked upto
  chunks_grow commands checked upto s = record {
    check = s.check;
    chunks = s.chunks;
    parts = s.parts;
    of_check = sends_grow ever ever' wider (put_bucket t) s.check s.of_check;
    pieces = s.pieces;
    passed = λ is. passes_grow ever ever' wider (put_bucket t) s.check (s.passed is);
    unneeded = s.unneeded;
    nothing = s.nothing;
  }

  pub put_grows : (commands : List Fields) (upto : ℕ) (moment : Option ℤ) (removed : Bool) → PutSends supply t ever commands upto moment removed → PutSends supply t ever' commands upto moment removed
  put_grows commands upto moment removed s = record {
    check = s.check;
    chunks = s.chunks;
    parts = s.parts;
    of_check = sends_grow ever ever' wider (put_bucket t) s.check s.of_check;
    pieces = s.pieces;
    checked = λ some full. passes_grow ever ever' wider (put_bucket t) s.check (s.checked some full);
    unneeded = s.unneeded;
    recorded = s.recorded;
    timely = s.timely;
  }

  pub for_grows : (commands : List Fields) (Why : ℕ → Option ℤ → Bool → Type 0) → SentFor supply t ever commands Why → SentFor supply t ever' commands Why
  for_grows commands Why h = (h.0, (h.1.0, h.1.1, put_grows commands h.1.0 h.1.1 h.0 h.1.2), h.2)

  all_grow : (commands : List Fields) (moment : Option ℤ) → SentAll supply t ever commands moment → SentAll supply t ever' commands moment
  all_grow commands moment s = put_grows commands (length (file_chunks t)) moment false s

-- ---- by what its last call heard

module _ (past past' : Past) (grows : Grows past past') (supply : Supply) (t : PutTask) where
  -- a first error
  pub error_grows : (upto : ℕ) (moment : Option ℤ) (e : Error) → IsErrorBehind supply t past upto moment e → IsErrorBehind supply t past' upto moment e
  error_grows upto moment e (put_sends.out_of_memory is) = put_sends.out_of_memory is
  error_grows upto moment e (put_sends.not_built none cannot) = put_sends.not_built none cannot
  error_grows upto moment e (put_sends.by_chunks none from command newest failed) = put_sends.by_chunks none from command newest (request_fails_grows past past' grows command false (ListsSome (length newest.piece)) e failed)
  error_grows upto moment e (put_sends.by_record m is failed) = put_sends.by_record m is (request_fails_grows past past' grows (record_insert t m) false (ListsSome 1) e failed)

  holds_grows : (R : Reach) (upto : ℕ) (moment : Option ℤ) (error : Option Error) → HoldsError supply t R past upto moment error → HoldsError supply t R past' upto moment error
  holds_grows R upto moment None h = h
  holds_grows R upto moment (Some e) h = (error_grows upto moment e h.0, h.1)

-- ---- by both

module _ (ever ever' : Past) (wider : GrowsBehind ever ever') (past past' : Past) (grows : Grows past past') (supply : Supply) (t : PutTask) (R : Reach) where
  -- the way back
  until_grows : (commands : List Fields) (error : Option Error) (removed : Bool) → SentUntil supply t R ever past commands error removed → SentUntil supply t R ever' past' commands error removed
  unfolding put_grows
  until_grows commands error removed s = record {
    upto = s.upto;
    moment = s.moment;
    sends = put_grows ever ever' wider supply t commands s.upto s.moment removed s.sends;
    behind = λ full. passes_grow ever ever' wider (put_bucket t) s.sends.check (s.behind full);
    holds = holds_grows past past' grows supply t R s.upto s.moment error s.holds;
  }

  pub phase_grows : (commands : List Fields) (checked : Bool) (sent : ℕ) (p : Phase) → PhaseSent supply t R ever past commands checked sent p → PhaseSent supply t R ever' past' commands checked sent p
  phase_grows commands checked sent begins h = h
  phase_grows commands checked sent (checks c) h = (sent_at_grows ever ever' wider (put_bucket t) commands c h.0, h.1)
  phase_grows commands checked sent fills h = chunks_grow ever ever' wider supply t commands true sent h
  phase_grows commands checked sent (inserts s count) h =
      (h.0, around_so s.stage (SentChunks supply t ever commands true sent) (SentChunks supply t ever commands true (sent + count)) (SentChunks supply t ever' commands true sent) (SentChunks supply t ever' commands true (sent + count)) (chunks_grow ever ever' wider supply t commands true sent) (chunks_grow ever ever' wider supply t commands true (sent + count)) h.1)
  phase_grows commands checked sent (rests moment) h = chunks_grow ever ever' wider supply t commands checked sent h
  phase_grows commands checked sent (lasts s ending) h =
      (h.0, h.1, around_so s.stage (SentChunks supply t ever commands checked sent × NeedsNoCheck t checked) (SentAll supply t ever commands None) (SentChunks supply t ever' commands checked sent × NeedsNoCheck t checked) (SentAll supply t ever' commands None) (λ x. (chunks_grow ever ever' wider supply t commands checked sent x.0, x.1)) (all_grow ever ever' wider supply t commands None) h.2)
  phase_grows commands checked sent (ends ending) h = all_grow ever ever' wider supply t commands None h
  phase_grows commands checked sent (records s ending) h =
      (h.0, around_so s.stage (SentAll supply t ever commands None) (SentAll supply t ever commands (Some ending.moment)) (SentAll supply t ever' commands None) (SentAll supply t ever' commands (Some ending.moment)) (all_grow ever ever' wider supply t commands None) (all_grow ever ever' wider supply t commands (Some ending.moment)) h.1)
  phase_grows commands checked sent (lands flight error) h = h
  phase_grows commands checked sent (undoes error) h = until_grows commands error false h
  phase_grows commands checked sent (removes s error) h =
      (h.0, around_so s.stage (SentUntil supply t R ever past commands error false) (SentUntil supply t R ever past commands error true) (SentUntil supply t R ever' past' commands error false) (SentUntil supply t R ever' past' commands error true) (until_grows commands error false) (until_grows commands error true) h.1)

  pub doing_grows : (commands : List Fields) (checked : Bool) (sent : ℕ) (d : Doing) → DoingSent supply t R ever past commands checked sent d → DoingSent supply t R ever' past' commands checked sent d
  doing_grows commands checked sent idle h = chunks_grow ever ever' wider supply t commands checked sent h
  doing_grows commands checked sent (busy call p) h = phase_grows commands checked sent p h
  doing_grows commands checked sent closed h = tt
