use Rattle.std.proofs.Common.{sym, ap, ◌∙◌, Some}
use Rattle.mg_bson.proofs.Known.{is_text}
use Rattle.mg_bson.proofs.read.known_text_of.Goals as goal

pub known_text-requires : goal.known_text-requires
known_text-requires c = (is_text c.args.bytes.now c.requires).utf8

pub returns : goal.returns
returns c = (is_text c.args.bytes.now c.requires).read ∙ ap Some (sym c.known_text.ensures)
