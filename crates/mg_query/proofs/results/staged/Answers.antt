use Rattle.std.proofs.Common.{Some, map, sym, ap, ◌∙◌}
use Rattle.std.proofs.lemmas.List.{drop-map, take-map}
use Rattle.mg_bson.specs.Raw.{fields}
use Rattle.mg_query.proofs.results.staged.Goals as goal

pub returns-in_ok-behind-in-Skip : goal.returns-in_ok-behind-in-Skip
returns-in_ok-behind-in-Skip c = rw c.in-Skip.is (ap Some (sym (ap (map fields) c.in_ok-behind-in-Skip.ensures ∙ sym (drop-map fields c.in-Skip.n c.args.documents.items))))

pub returns-in-Limit : goal.returns-in-Limit
returns-in-Limit c = rw c.in-Limit.is (ap Some (sym (ap (map fields) c.front.ensures ∙ sym (take-map fields c.in-Limit.n c.args.documents.items))))
