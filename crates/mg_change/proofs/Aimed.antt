-- What an aggregate asks for whose target, filter and start are found.
use Rattle.std.proofs.Common.{◌≡◌, Some, refl}
use Rattle.mg_server.specs.Commands.{filter_stages}
use Rattle.mg_link.specs.Namespace.{target}
use Rattle.mg_server.specs.State.{Start, Watch}
use Rattle.mg_options.specs.declared.change_stream.ChangeStreamOptions.{ChangeStreamOptions}
use Rattle.mg_ops.specs.Aims.{aim, aim_of}
use Rattle.mg_ops.specs.Naming.{start_in}
use Rattle.mg_ops.specs.declared.change_stream.WatchArgs.{WatchArgs}

pub aimed_at : (a : WatchArgs) (w : Watch) (o : ChangeStreamOptions) (begin : Start) → aim o (target a.target) ≡ Some w.target → filter_stages a.pipeline.items ≡ Some w.filter → start_in o ≡ Some begin
    → aim_of (target a.target) a.pipeline.items o ≡ Some (record { watch = w; start = begin })
aimed_at a w o begin aimed by from = rw (by, from, aimed) refl
