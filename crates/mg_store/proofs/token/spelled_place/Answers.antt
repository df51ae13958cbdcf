use Rattle.mg_bson.specs.Raw.{fields}
use Rattle.mg_bson.specs.RawView.{value}
use Rattle.mg_store.proofs.Places.{text_of_token}
use Rattle.mg_store.proofs.token.spelled_place.Goals as goal

pub returns : goal.returns
returns c place lt is = c.number_of.ensures place lt (text_of_token place (value c.args.found.now) (fields c.in_ok-token.token) c.in_ok-digits.digits.now is c.in_ok-token.ensures c.in_ok-digits.ensures)
