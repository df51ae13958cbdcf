-- What the parts of an exec are seen as.
use Rattle.std.specs.Prelude.{Bool, true, false}
use Rattle.mg_exec.specs.declared.exec.Retry.{Retry}
use Rattle.mg_exec.specs.declared.exec.Retry.TheVariants as retry
use Rattle.mg_exec.specs.declared.exec.Stage.{Stage}
use Rattle.mg_exec.specs.declared.exec.Stage.TheVariants as stage
use Rattle.mg_link.specs.Exec as exec

abbrev pub reads : Retry → Bool
reads retry.None = false
reads retry.Read = true

abbrev pub stage_of : Stage → exec.Stage
stage_of stage.Unsent = exec.unsent
stage_of (stage.First ticket) = exec.first ticket
stage_of (stage.Second ticket) = exec.second ticket
