use Rattle.std.proofs.Common.{refl, sym, ap, ◌∙◌}
use Rattle.std.specs.Prelude.{is_ok}
use Rattle.hex.proofs.HexLemmas.{IsOk-decode_sized}
use Rattle.mg_bson.proofs.object_id.ObjectId.parse_str.Goals as goal

pub returns-in-Ok-clause-found : goal.returns-in-Ok-clause-found
returns-in-Ok-clause-found c = (
  λ h. (IsOk-decode_sized c.args.text.now 12).0 (ap is_ok (sym c.from_hex.ensures ∙ c.in-Ok.is)),
  λ h. refl,
)

pub returns-in-Err-clause-found : goal.returns-in-Err-clause-found
returns-in-Err-clause-found c = (
  λ h. absurd cc,
  λ h. sym (ap is_ok (sym c.from_hex.ensures ∙ c.in-Err.is)) ∙ (IsOk-decode_sized c.args.text.now 12).1 h,
)
