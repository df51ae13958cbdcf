use Rattle.std.proofs.Common.{◌≡◌, map, drop, string_bytes}
use Rattle.mg_bson.specs.Find.{items_joined}
use Rattle.mg_server.specs.Rules.{words_of}
use Rattle.mg_query.proofs.reply.words_of.Given as goal

abbrev pub invariant-loop-label : goal.invariant-loop-label
invariant-loop-label l = items_joined l.words (words_of (map string_bytes (drop l.label-index l.labels))) ≡ words_of (map string_bytes l.labels)
