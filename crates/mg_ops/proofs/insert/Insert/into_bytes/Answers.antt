use Rattle.std.proofs.Common.{◌≡◌, ◌⊎◌, List, Option, None, inl, inr, subst}
use Rattle.std.proofs.lemmas.Result.{IfErr-weaker, err_from_is_err_and}
use Rattle.std.specs.Prelude.{IfErr, IfOk}
use Rattle.mg_bson.specs.Bytes.{bytes}
use Rattle.mg_bson.specs.Raw.{fields}
use Rattle.mg_bson.specs.Tree.{Fields, Items}
use Rattle.mg_link.specs.Namespace.{space}
use Rattle.mg_link.specs.declared.error.BadArgument.{BadArgument}
use Rattle.mg_link.specs.declared.error.Error.{Error}
use Rattle.mg_options.specs.Fields.{Line, Refuses, fields_in, first_unfit}
use Rattle.mg_ops.specs.Bodies.{insert_body, insert_lines}
use Rattle.mg_ops.specs.Failing.{CannotBeInserted, CannotBeSent, CannotInsert, FailsBy}
use Rattle.mg_ops.specs.declared.insert.Insert.{Insert}
use Rattle.mg_ops.proofs.InsertFailing.{cannot_at_all, not_by_option}
use Rattle.mg_ops.proofs.insert.Insert.into_bytes.Goals as goal

abbrev body_of : Insert → List Line
body_of o = insert_body (space o.ns) o.documents.items o.options None

-- the body with an array for its documents
abbrev lines_of : Insert → Items → List Line
lines_of o a = insert_lines (space o.ns) a o.options None

-- it cannot be inserted, whether it can be sent or not
not_sent : (a : Option BadArgument) (ds : List Fields) (d : Fields) (e : Error) → FailsBy (CannotInsert a ds) e → FailsBy (λ (x : Error). CannotInsert a ds x ⊎ CannotBeSent d x) e
not_sent a ds d e (inl room) = inl room
not_sent a ds d e (inr cannot) = inr (inl cannot)

-- an argument is outside its range, or it cannot be sent
not_made : (a : Option BadArgument) (ds : List Fields) (d : Fields) (e : Error) → FailsBy (λ (x : Error). Refuses a x ⊎ CannotBeSent d x) e → FailsBy (λ (x : Error). CannotInsert a ds x ⊎ CannotBeSent d x) e
not_made a ds d e (inl room) = inl room
not_made a ds d e (inr (inl refused)) = not_sent a ds d e (not_by_option a ds e (inr refused))
not_made a ds d e (inr (inr long)) = inr (inr long)

pub returns-clause-bytes : goal.returns-clause-bytes
returns-clause-bytes c = subst (λ (a : Items). IfOk c.array_bytes.result (λ r. r ≡ bytes (fields_in (lines_of c.args.self a)))) c.in_ok-documents.ensures.ok c.array_bytes.ensures.bytes

pub returns-clause-read_back : goal.returns-clause-read_back
returns-clause-read_back c = subst (λ (a : Items). IfOk c.array_bytes.result (λ r. fields r ≡ fields_in (lines_of c.args.self a))) c.in_ok-documents.ensures.ok c.array_bytes.ensures.read_back

pub returns-clause-err : goal.returns-clause-err
returns-clause-err c =
    let o = c.args.self in
    IfErr-weaker
    c.array_bytes.result
    (FailsBy (λ (x : Error). Refuses (first_unfit (body_of o)) x ⊎ CannotBeSent (fields_in (body_of o)) x))
    (FailsBy (λ (x : Error). CannotInsert (first_unfit (body_of o)) o.documents.items x ⊎ CannotBeSent (fields_in (body_of o)) x))
    (not_made (first_unfit (body_of o)) o.documents.items (fields_in (body_of o)))
    (subst (λ (a : Items). IfErr c.array_bytes.result (λ e. FailsBy (λ (x : Error). Refuses (first_unfit (lines_of o a)) x ⊎ CannotBeSent (fields_in (lines_of o a)) x) e)) c.in_ok-documents.ensures.ok c.array_bytes.ensures.err)

pub returns-in_err-check-clause-err : goal.returns-in_err-check-clause-err
returns-in_err-check-clause-err c =
    let p = err_from_is_err_and c.from_residual.result c.from_residual.ensures.1 in
    let o = c.args.self in
    let why = subst (λ (ds : List Fields). FailsBy (CannotBeInserted ds) c.in_err-check.field-0.0) c.deref.ensures.value c.in_err-check.ensures.err in
    rw (p.1, p.2) (not_sent (first_unfit (body_of o)) o.documents.items (fields_in (body_of o)) c.in_err-check.field-0.0 (cannot_at_all (first_unfit (body_of o)) o.documents.items c.in_err-check.field-0.0 why))
