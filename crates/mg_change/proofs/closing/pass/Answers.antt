use Rattle.std.proofs.Common.{◌≡◌, None, refl, sym, ◌∙◌, inl, inr}
use Rattle.std.proofs.lemmas.Bool.{iff_false}
use Rattle.mg_link.specs.Moment.{finished, moment}
use Rattle.mg_link.specs.declared.error.ErrorKind.TheVariants as kind
use Rattle.mg_link.proofs.Moments.{keeps_same}
use Rattle.mg_cursor.proofs.Hearing.{failing}
use Rattle.mg_change.proofs.closing.pass.Goals as goal

pub returns-then-is_memory-clause-keeps : goal.returns-then-is_memory-clause-keeps
returns-then-is_memory-clause-keeps g c =
    failing _ _ None None c.args.error (λ io. let bad : kind.Io ≡ kind.OutOfMemory = sym io ∙ c.is_memory.ensures.0 c.if-is_memory.true in cc)
    (keeps_same (moment (g.L.Link.awaited c.args.link.now) (g.L.Link.log c.args.link.now) (g.L.Link.faults c.args.link.now) (g.L.Link.pends c.args.link.now) (g.L.Link.wire c.args.link.now) (g.L.Link.prompt c.args.link.now)) None finished (λ n e. cc) refl tt tt)

pub returns-then-is_memory-clause-passes : goal.returns-then-is_memory-clause-passes
returns-then-is_memory-clause-passes g c = inl (c.is_memory.ensures.0 c.if-is_memory.true, record { rest = λ n. refl; log_same = refl }, refl)

pub returns-clause-passes : goal.returns-clause-passes
returns-clause-passes g c = inr (iff_false c.is_memory.ensures c.if-is_memory.false, c.kill_left.ensures.kills)
