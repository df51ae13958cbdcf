use Rattle.std.proofs.Common.{◌≡◌, map, string_bytes, rules}
use Rattle.mg_bson.specs.Tree.{string}
use Rattle.mg_bson.specs.View.{tree}
use Rattle.mg_server.specs.Rules.{words_of}
use Rattle.mg_query.proofs.Words.{words_go_on, words_end}
use Rattle.mg_query.proofs.reply.words_of.Goals as goal

pub loop-label-preserved : goal.loop-label-preserved
loop-label-preserved c =
    let same : tree c.in_ok-word.word ≡ string (string_bytes c.label-item.result) = search rules in
    words_go_on string_bytes c.loop-label.words c.put_item.new.array c.args.labels.now c.loop-label.label-index c.label-item.result (tree c.in_ok-word.word) (words_of (map string_bytes c.args.labels.now)) c.loop-label-test.true c.label-item.is same c.in_ok-put_item.ensures c.loop-label.invariant

pub returns : goal.returns
returns c = words_end string_bytes c.loop-label.words c.args.labels.now c.loop-label.label-index (words_of (map string_bytes c.args.labels.now)) c.loop-label-test.false c.loop-label.invariant
