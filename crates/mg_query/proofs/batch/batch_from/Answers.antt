use Rattle.std.proofs.Common.{◌≡◌, ◌-◌, false, length, refl, sym, ap, ◌∙◌, arith}
use Rattle.std.specs.Prelude.{◌&&◌, nat_lt}
use Rattle.std.proofs.lemmas.Bool.{and_from, and_left, and_right, lt-ltb, le-ltb}
use Rattle.mg_bson.specs.Bytes.{bytes}
use Rattle.mg_bson.specs.Find.{with_item}
use Rattle.mg_bson.specs.Raw.{fields}
use Rattle.mg_bson.specs.Tree.{document}
use Rattle.mg_query.proofs.Giving.{going_more, left_at, left_none, left_some, stops_counted, stops_full, stops_last}
use Rattle.mg_query.proofs.batch.batch_from.Goals as goal
use Rattle.mg_query.proofs.batch.batch_from.Goals.{else-left-size-via-then-left-size+else-room-len, else-left-size-via-else-left-size}

pub returns-then-left-eq0 : goal.returns-then-left-eq0
returns-then-left-eq0 c =
    stops_counted _ _ c.args.size c.loop-place.given c.loop-place.room c.loop-place.left (left_some c.args.documents.now c.loop-place.place c.loop-place-test.true) c.if-left-eq0.true c.loop-place.invariant

pub returns-then-room-len : goal.returns-then-room-len
returns-then-room-len c =
    let len : c.in_ok-len.len ≡ length (bytes (fields c.index-documents-place.result)) = c.in_ok-len.ensures ∙ ap (λ d. length (bytes d)) (c.in_ok-document.ensures ∙ ap fields c.as_raw.ensures) in
    stops_full _ _ c.args.size c.loop-place.given c.loop-place.room c.loop-place.left (c.args.size - c.loop-place.left) (fields c.index-documents-place.result) _ (left_at c.args.documents.now c.loop-place.place c.index-documents-place.result c.loop-place-test.true c.index-documents-place.is)
    (and_from _ _ (lt-ltb c.loop-place.left c.args.size c.if-left-size.true) (ap (nat_lt c.loop-place.room) (sym len) ∙ lt-ltb c.loop-place.room c.in_ok-len.len c.if-room-len.true)) refl c.loop-place.invariant

pub loop-place-preserved : goal.loop-place-preserved
loop-place-preserved c =
    let len : c.in_ok-len.len ≡ length (bytes (fields c.index-documents-place.result)) = c.in_ok-len.ensures ∙ ap (λ d. length (bytes d)) (c.in_ok-document.ensures ∙ ap fields c.as_raw.ensures) in
    let fits : (nat_lt c.loop-place.left c.args.size && nat_lt c.loop-place.room (length (bytes (fields c.index-documents-place.result)))) ≡ false =
    elim c.else-left-size.branch [
      | else-left-size-via-then-left-size+else-room-len w ↦ and_right (nat_lt c.loop-place.left c.args.size) _ (ap (nat_lt c.loop-place.room) (sym len) ∙ le-ltb c.loop-place.room c.in_ok-len.len w.if-room-len.false)
      | else-left-size-via-else-left-size w ↦ and_left (nat_lt c.loop-place.left c.args.size) _ (le-ltb c.loop-place.left c.args.size w.if-left-size.false)
    ] in
    going_more _ _ c.args.size c.loop-place.given _ c.loop-place.room c.loop-place.left _ (c.loop-place.left - 1) (fields c.index-documents-place.result) _
    (left_at c.args.documents.now c.loop-place.place c.index-documents-place.result c.loop-place-test.true c.index-documents-place.is) (omega (arith, c.if-left-eq0.false)) fits
    (c.in_ok-put_item.ensures ∙ ap (λ d. with_item c.loop-place.given (document d)) (c.in_ok-document.ensures ∙ ap fields c.as_raw.ensures)) (omega (arith, c.saturating_sub-room.ensures, len)) c.loop-place.invariant

pub returns : goal.returns
returns c =
    stops_last _ _ c.args.size c.loop-place.given c.loop-place.room c.loop-place.left (c.args.size - c.loop-place.left) (left_none c.args.documents.now c.loop-place.place c.loop-place-test.false) refl c.loop-place.invariant
