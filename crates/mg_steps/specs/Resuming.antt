-- Where a change stream resumes (change streams specification, "Resume Process").
use Rattle.std.specs.Prelude.{◌≡◌, ◌&&◌, ℤ, pos, not, Bool, true, false, int_lt}
use Rattle.mg_steps.specs.declared.resuming.Resumption.{Resumption}
use Rattle.mg_steps.specs.declared.resuming.Resumption.TheVariants as resumption
use Rattle.mg_steps.specs.declared.resuming.Standing.{Standing}

-- from this wire version on a server takes a time to start at
abbrev pub times_from : ℤ
times_from = pos 7

-- `startAfter` is kept where the stream was opened by it and no document was returned yet
abbrev pub keeps_start_after : Bool → Bool → Bool
keeps_start_after starts_after returned = starts_after && not returned

-- Behind its token by `startAfter` where that is kept, and else by `resumeAfter`; without one at the time of its opening, where one was saved and
-- the server takes it, and else as it was opened.
pub data IsResumptionOf (s : Standing) (wire : ℤ) (r : Resumption) : Type 0 where
  start_after : s.has_token ≡ true → keeps_start_after s.starts_after s.document_returned ≡ true → r ≡ resumption.StartAfter → IsResumptionOf s wire r
  resume_after : s.has_token ≡ true → keeps_start_after s.starts_after s.document_returned ≡ false → r ≡ resumption.ResumeAfter → IsResumptionOf s wire r
  at_time : s.has_token ≡ false → s.has_time ≡ true → int_lt wire times_from ≡ false → r ≡ resumption.AtTime → IsResumptionOf s wire r
  no_time : s.has_token ≡ false → s.has_time ≡ false → r ≡ resumption.AsOpened → IsResumptionOf s wire r
  old_server : s.has_token ≡ false → int_lt wire times_from ≡ true → r ≡ resumption.AsOpened → IsResumptionOf s wire r
