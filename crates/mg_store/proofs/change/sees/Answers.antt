use Rattle.std.proofs.Common.{◌≡◌, subst}
use Rattle.std.specs.Prelude.{IfOk}
use Rattle.mg_bson.specs.Raw.{fields}
use Rattle.mg_link.specs.Namespace.{target}
use Rattle.mg_query.specs.Asking.{matches_keys}
use Rattle.mg_query.specs.Selecting.{selecting}
use Rattle.mg_store.proofs.Seeing.{sees_ok}
use Rattle.mg_store.proofs.change.sees.Goals as goal

pub returns-then-is_of : goal.returns-then-is_of
returns-then-is_of c =
    sees_ok (target c.args.aimed.now) (selecting c.args.selection.now) c.args.entry.now c.is_of.result c.admits.result c.if-is_of.true c.is_of.ensures
    (subst (λ bytes. IfOk c.admits.result (λ d. d ≡ matches_keys (selecting c.args.selection.now) (fields bytes))) c.as_raw.ensures c.admits.ensures)
