-- Why documents are not inserted.
use Rattle.std.proofs.Common.{◌≡◌, ◌⊎◌, List, Option, Some, None, inl, inr}
use Rattle.mg_bson.specs.Tree.{Fields}
use Rattle.mg_link.specs.Errors.{plain}
use Rattle.mg_link.specs.declared.error.BadArgument.{BadArgument}
use Rattle.mg_link.specs.declared.error.Error.{Error}
use Rattle.mg_link.specs.declared.error.ErrorKind.TheVariants as kind
use Rattle.mg_options.specs.Fields.{Refuses}
use Rattle.mg_ops.specs.Failing.{CannotBeInserted, CannotInsert, FailsBy}

-- one command cannot insert them, whatever its options
pub cannot_at_all : (a : Option BadArgument) (ds : List Fields) (e : Error) → FailsBy (CannotBeInserted ds) e → FailsBy (CannotInsert a ds) e
cannot_at_all None ds e fails = fails
cannot_at_all (Some a) ds e (inl memory) = inl memory
cannot_at_all (Some a) ds e (inr cannot) = inr (inl cannot)

-- an argument of its options is outside its range
pub not_by_option : (a : Option BadArgument) (ds : List Fields) (e : Error) → (e ≡ plain kind.OutOfMemory) ⊎ Refuses a e → FailsBy (CannotInsert a ds) e
not_by_option None ds e (inl memory) = inl memory
not_by_option None ds e (inr never) = absurd never
not_by_option (Some a) ds e (inl memory) = inl memory
not_by_option (Some a) ds e (inr by) = inr (inr by)
