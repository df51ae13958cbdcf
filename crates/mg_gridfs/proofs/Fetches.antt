-- The batches of a read, one after the other, and what each keeps.
use Rattle.std.proofs.Common.{ℕ, zero, suc, ℤ}
use Rattle.mg_link.specs.Link.{Awaited, LogTold}
use Rattle.mg_gridfs.specs.Downloads.{ClientDownload}
use Rattle.mg_gridfs.specs.Reads.{EndsFetch, Fetched, Fetches, TakesOne}

-- So far a read has come, and goes on: whatever batches it takes from here on, it takes these and those.
abbrev pub Took : Awaited → Awaited → LogTold → LogTold → ℤ → ClientDownload → ClientDownload → Type 0
Took old between log log_between wire d m = (new : Awaited) (log' : LogTold) (n : ℕ) (d' : ClientDownload) (r : Fetched) → Fetches n between new log_between log' wire m d' r → (k : ℕ) × Fetches k old new log log' wire d d' r

pub took_none : (old : Awaited) (log : LogTold) (wire : ℤ) (d : ClientDownload) → Took old old log log wire d d
took_none old log wire d new log' n d' r f = (n, f)

pub took_on : (old between next : Awaited) (log log_between log_next : LogTold) (wire : ℤ) (d m e : ClientDownload) → Took old between log log_between wire d m → TakesOne between next log_between log_next wire m e → Took old next log log_next wire d e
unfolding Fetches
took_on old between next log log_between log_next wire d m e took one new log' n d' r f = took new log' (suc n) d' r (next, log_next, e, one, f)

-- what ends the read in this poll
pub took_last : (old between new : Awaited) (log log_between log' : LogTold) (wire : ℤ) (d m d' : ClientDownload) (r : Fetched) → Took old between log log_between wire d m → EndsFetch between new log_between log' wire m d' r → (k : ℕ) × Fetches k old new log log' wire d d' r
unfolding Fetches
took_last old between new log log_between log' wire d m d' r took ends = took new log' zero d' r ends
