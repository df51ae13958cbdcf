use Rattle.std.proofs.Common.{ap, ◌∙◌, arith}
use Rattle.std.proofs.lemmas.Result.{err_from_is_err_and}
use Rattle.std.proofs.lemmas.List.{map_push}
use Rattle.serde_json.specs.View.{items_view}
use Rattle.mg_script.specs.declared.fault.Place.TheVariants as place
use Rattle.mg_script.specs.Plan.{fated, fates}
use Rattle.mg_script.specs.Reads.{each}
use Rattle.mg_script.specs.Script.{fates_of, fate_of}
use Rattle.mg_script.proofs.Steps.{list_go_on, list_stop, list_end}
use Rattle.mg_script.proofs.parse_fate.fates_of.Goals as goal

pub returns-in_err-fate : goal.returns-in_err-fate
unfolding fates_of
returns-in_err-fate c =
    let p = err_from_is_err_and c.from_residual.result c.from_residual.ensures.1 in
    rw (p.1, p.2) (list_stop c.in_err-fate.field-0.0 (λ n. fate_of (place.Fate n)) (fates c.loop-i.fates.items) c.args.values.now c.loop-i.i c.index-values-i.result (each (λ n. fate_of (place.Fate n)) 0 (items_view c.args.values.now)) (omega arith) c.index-values-i.is c.in_err-fate.ensures c.loop-i.invariant)

pub loop-i-preserved : goal.loop-i-preserved
loop-i-preserved c =
    list_go_on (λ n. fate_of (place.Fate n)) (fates c.loop-i.fates.items) (fates c.push.new.self.items) (fated c.in_ok-fate.fate) c.args.values.now c.loop-i.i c.index-values-i.result (each (λ n. fate_of (place.Fate n)) 0 (items_view c.args.values.now)) (omega arith) c.index-values-i.is c.in_ok-fate.ensures (ap fates c.in_ok-push.ensures.items ∙ map_push fated c.loop-i.fates.items c.in_ok-fate.fate) c.loop-i.invariant

pub returns : goal.returns
unfolding fates_of
returns c =
    list_end (λ n. fate_of (place.Fate n)) (fates c.loop-i.fates.items) c.args.values.now c.loop-i.i (each (λ n. fate_of (place.Fate n)) 0 (items_view c.args.values.now)) (omega arith) c.loop-i.invariant
