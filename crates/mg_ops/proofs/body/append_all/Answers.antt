use Rattle.std.proofs.Common.{◌≡◌, None, Option, OnOk, IfErr, subst}
use Rattle.std.specs.Prelude.{option_copied}
use Rattle.mg_link.specs.declared.error.BadArgument.{BadArgument}
use Rattle.mg_options.specs.Fields.{FailsBy, lines}
use Rattle.mg_ops.specs.Entries.{entry}
use Rattle.mg_ops.proofs.Sessions.{session_between}
use Rattle.mg_ops.proofs.body.append_all.Goals as goal

pub returns-clause-fits : goal.returns-clause-fits
returns-clause-fits g c =
    subst (λ (a : Option BadArgument). OnOk c.append_to.result (a ≡ None)) (session_between (g.P.Part.shows c.args.front.now) (entry c.args.db) (option_copied c.args.session) (lines entry c.args.concerns.now)) c.append_to.ensures.fits

pub returns-clause-err : goal.returns-clause-err
returns-clause-err g c =
    subst (λ (a : Option BadArgument). IfErr c.append_to.result (λ e. FailsBy a e)) (session_between (g.P.Part.shows c.args.front.now) (entry c.args.db) (option_copied c.args.session) (lines entry c.args.concerns.now)) c.append_to.ensures.err
