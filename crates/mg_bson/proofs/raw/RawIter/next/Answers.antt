use Rattle.mg_bson.specs.ReadView.{spelling}
use Rattle.mg_bson.specs.Raw.{fields_left}
use Rattle.mg_bson.specs.RawView.{value}
use Rattle.mg_bson.proofs.Lending.{opened_next}
use Rattle.mg_bson.proofs.raw.RawIter.next.Goals as goal

pub returns : goal.returns
returns c =
    let x = c.in_ok-element in
    opened_next _ (λ r. r.0.now) (λ r. value r.1) (spelling x.element) x.element.name.now (fields_left c.args.self.now) (fields_left c.next_element.new.self) c.open.result x.ensures.0 x.ensures.1 c.open.ensures.name c.open.ensures.value
