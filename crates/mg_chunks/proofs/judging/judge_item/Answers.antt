use Rattle.std.proofs.Common.{◌≡◌, Err, sym, ap, ◌∙◌}
use Rattle.std.proofs.lemmas.Result.{IfErr-weaker, IfOk-weaker}
use Rattle.mg_bson.specs.Raw.{fields}
use Rattle.mg_bson.specs.RawView.{value}
use Rattle.mg_bson.specs.Tree.{Items, item}
use Rattle.mg_link.specs.declared.error.Error.{Error}
use Rattle.mg_chunks.specs.Chunks.{all_judged, judged}
use Rattle.mg_chunks.specs.Judging.{JudgesOne, TakesChunk}
use Rattle.mg_chunks.specs.declared.judging.ReadPlace.{ReadPlace}
use Rattle.mg_chunks.proofs.Ordered.{bad_item, differing, judges_one}
use Rattle.mg_chunks.proofs.judging.judge_item.Goals as goal

pub returns-in-Some-clause-ok : goal.returns-in-Some-clause-ok
returns-in-Some-clause-ok c =
    let f = c.args.file.now in
    let t = value c.args.found.now in
    let d = fields c.in-Some.document in
    IfOk-weaker c.judge_next.result (TakesChunk f c.args.place d) (JudgesOne f c.args.place t) (λ (p : ReadPlace). judges_one f c.args.place p t d (sym c.in-Some.ensures)) c.judge_next.ensures.ok

pub returns-in-Some-clause-err : goal.returns-in-Some-clause-err
returns-in-Some-clause-err c =
    let f = c.args.file.now in
    let t = value c.args.found.now in
    let d = fields c.in-Some.document in
    let n = c.args.place.taken in
    IfErr-weaker c.judge_next.result (λ e. judged f n d ≡ Err e) (λ e. (more : Items) → all_judged f n (item t more) ≡ Err e) (λ e differs more. differing f n t more d e (sym c.in-Some.ensures) differs) c.judge_next.ensures.err

pub returns-in-None-clause-err : goal.returns-in-None-clause-err
returns-in-None-clause-err c = λ more.
    bad_item c.args.file.now c.args.place.taken (value c.args.found.now) more (sym c.in-None.ensures) ∙ ap (λ (x : Error). Err x) (sym c.broken.ensures)
