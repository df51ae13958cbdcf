use Rattle.std.proofs.Common.{◌≡◌, ◌⊎◌, Option, None, refl, inl, inr, ◌∙◌, subst, rules}
use Rattle.std.proofs.lemmas.Result.{IfErr-weaker, err_from_is_err_and}
use Rattle.std.specs.Prelude.{IfErr, IfOk}
use Rattle.mg_bson.specs.Bytes.{bytes}
use Rattle.mg_bson.specs.Raw.{fields}
use Rattle.mg_bson.specs.Tree.{Fields, no_fields}
use Rattle.mg_link.specs.Errors.{plain}
use Rattle.mg_link.specs.Namespace.{space}
use Rattle.mg_link.specs.declared.error.BadArgument.{BadArgument}
use Rattle.mg_link.specs.declared.error.Error.{Error}
use Rattle.mg_link.specs.declared.error.ErrorKind.TheVariants as kind
use Rattle.mg_options.specs.Fields.{Refuses, fields_in, first_unfit}
use Rattle.mg_ops.specs.Bodies.{insert_lines}
use Rattle.mg_ops.specs.Failing.{CannotBeSent, FailsBy}
use Rattle.mg_ops.proofs.insert.array_bytes.Goals as goal
use Rattle.mg_ops.proofs.insert.array_bytes.Goals.{In_ok-append_all}

-- the documents stand in their place
made : (c : In_ok-append_all) → c.append_all.new.body ≡ fields_in (insert_lines (space c.args.ns.now) c.args.documents c.args.o.now None)
made c =
    let empty : c.new-command.result ≡ no_fields = search rules in
    c.in_ok-append_all.ensures.ok ∙ rw (c.in_ok-append.ensures.ok, c.in_ok-put_given.ensures.ok, empty) refl

-- an argument is outside its range, whether the command can be sent or not
refused : (a : Option BadArgument) (d : Fields) (e : Error) → (e ≡ plain kind.OutOfMemory) ⊎ Refuses a e → FailsBy (λ (x : Error). Refuses a x ⊎ CannotBeSent d x) e
refused a d e (inl room) = inl room
refused a d e (inr by) = inr (inl by)

-- it cannot be sent
too_long : (a : Option BadArgument) (d : Fields) (e : Error) → FailsBy (CannotBeSent d) e → FailsBy (λ (x : Error). Refuses a x ⊎ CannotBeSent d x) e
too_long a d e (inl room) = inl room
too_long a d e (inr limit) = inr (inr limit)

pub returns-clause-bytes : goal.returns-clause-bytes
returns-clause-bytes c = subst (λ (d : Fields). IfOk c.written.result (λ r. r ≡ bytes d)) (made (goal.at.returns-clause-bytes c).In_ok-append_all) c.written.ensures.bytes

pub returns-clause-read_back : goal.returns-clause-read_back
returns-clause-read_back c = subst (λ (d : Fields). IfOk c.written.result (λ r. fields r ≡ d)) (made (goal.at.returns-clause-read_back c).In_ok-append_all) c.written.ensures.read_back

pub returns-clause-err : goal.returns-clause-err
returns-clause-err c =
    let lines = insert_lines (space c.args.ns.now) c.args.documents c.args.o.now None in
    IfErr-weaker
    c.written.result
    (FailsBy (CannotBeSent (fields_in lines)))
    (FailsBy (λ (x : Error). Refuses (first_unfit lines) x ⊎ CannotBeSent (fields_in lines) x))
    (too_long (first_unfit lines) (fields_in lines))
    (subst (λ (d : Fields). IfErr c.written.result (FailsBy (CannotBeSent d))) (made (goal.at.returns-clause-err c).In_ok-append_all) c.written.ensures.err)

pub returns-in_err-append_all-clause-err : goal.returns-in_err-append_all-clause-err
returns-in_err-append_all-clause-err c =
    let p = err_from_is_err_and c.from_residual-in_err-append_all.result c.from_residual-in_err-append_all.ensures.1 in
    let lines = insert_lines (space c.args.ns.now) c.args.documents c.args.o.now None in
    rw (p.1, p.2) (refused (first_unfit lines) (fields_in lines) c.in_err-append_all.field-0.0 c.in_err-append_all.ensures.err)
