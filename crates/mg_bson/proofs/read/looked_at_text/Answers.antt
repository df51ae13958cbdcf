use Rattle.std.proofs.Common.{sym, ap, ◌∙◌, Some}
use Rattle.mg_bson.proofs.Cutting.{text_is}
use Rattle.mg_bson.proofs.read.looked_at_text.Goals as goal

pub returns-then-is_ascii : goal.returns-then-is_ascii
returns-then-is_ascii c = ap Some c.known_text.ensures ∙ sym (text_is _ (c.requires c.if-is_ascii.true))
