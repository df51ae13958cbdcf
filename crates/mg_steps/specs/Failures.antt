-- What a change stream does after a command of it failed (change streams specification, "Resumable Error" and "Resume Process").
use Rattle.std.specs.Prelude.{◌≡◌, ◌≢◌, true, false}
use Rattle.mg_link.specs.Resumable.{is_resumable}
use Rattle.mg_link.specs.declared.error.Error.{Error}
use Rattle.mg_link.specs.declared.error.ErrorKind.TheVariants as kind
use Rattle.mg_steps.specs.declared.failures.AfterFailure.{AfterFailure}
use Rattle.mg_steps.specs.declared.failures.AfterFailure.TheVariants as after
use Rattle.mg_steps.specs.declared.failures.Fault.{Fault}
use Rattle.mg_steps.specs.declared.failures.Fault.TheVariants as fault
use Rattle.mg_steps.specs.declared.failures.StreamCommand.{StreamCommand}
use Rattle.mg_steps.specs.declared.failures.StreamCommand.TheVariants as command

-- What an error means for a change stream.
pub data IsFault (e : Error) (f : Fault) : Type 0 where
  resumable : is_resumable e.kind e.labels e.wire_version ≡ true → f ≡ fault.Resumable → IsFault e f
  memory : e.kind ≡ kind.OutOfMemory → f ≡ fault.Memory → IsFault e f
  final : is_resumable e.kind e.labels e.wire_version ≡ false → e.kind ≢ kind.OutOfMemory → f ≡ fault.Final → IsFault e f

-- A getMore that may be lost: the stream resumes, and for want of memory it does so at the next call. One that was refused for good: the call
-- fails. An aggregate that resumes: it is owed still. A killCursors: its failure is passed over, but for want of memory.
abbrev pub after_failure : StreamCommand → Fault → AfterFailure
after_failure command.GetMore fault.Resumable = after.Resumes
after_failure command.GetMore fault.Memory = after.Owes
after_failure command.GetMore fault.Final = after.Fails
after_failure command.Aggregate f = after.Owes
after_failure command.KillCursors fault.Resumable = after.PassesOver
after_failure command.KillCursors fault.Memory = after.Owes
after_failure command.KillCursors fault.Final = after.PassesOver
