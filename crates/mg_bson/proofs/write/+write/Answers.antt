use Rattle.std.proofs.Common.{◌≡◌, ◌+◌, ◌++◌, List, ℕ, [], drop, string_bytes, append_assoc, sym, ap, subst, ◌∙◌, arith, refl}
use Rattle.std.proofs.lemmas.Result.{on_ok_weaker}
use Rattle.std.specs.Prelude.{decimal}
use Rattle.mg_bson.specs.Tree.{field}
use Rattle.mg_bson.specs.Bytes.{le32, framed, text_bytes, bytes, element, fields_bytes, items_bytes}
use Rattle.mg_bson.specs.View.{tree, fields_of, items_of}
use Rattle.mg_bson.proofs.Along.{Along, AlongItems, along_step, along_end, along_items_step, along_items_end, fields_here, items_here, opened, opened_room}
use Rattle.mg_bson.proofs.Plain.{plain}
use Rattle.mg_bson.proofs.write.+write.Goals as goal

pub write_document-loop-field-preserved : goal.write_document-loop-field-preserved
write_document-loop-field-preserved t c =
    let fs = c.deref-field-items.result.now in
    let f = c.field-item.result in
    let gap = c.put_gap.new.out.items in
    let rest = fields_of (drop (c.loop-field.field-index + 1) fs) in
    let here = fields_here fs c.loop-field.field-index f (omega arith) c.field-item.is ∙ ap (λ k. field k (tree f.value) rest) (sym c.as_str.ensures) in
    let a = subst (Along gap c.loop-field.out.items (fields_of fs)) here c.loop-field.invariant in
    let head = c.in_ok-put_head.ensures ∙ ap (λ k. c.loop-field.out.items ++ element k c.as_str.result.now []) c.kind.ensures in
    along_step gap c.loop-field.out.items c.put_head.new.out.items c.write_value.new.out.items (fields_of fs) rest c.as_str.result.now (tree f.value) a head c.in_ok-write_value.ensures

pub write_document-end_document-requires : goal.write_document-end_document-requires
write_document-end_document-requires t c =
    let fs = c.deref-field-items.result.now in
    let old = c.args.out.now.items in
    let mid = c.loop-field.out.items in
    let body : mid ≡ (old ++ le32 0) ++ fields_bytes (fields_of fs) =
    along_end c.put_gap.new.out.items mid fs c.loop-field.field-index (omega arith) c.loop-field.invariant ∙ ap (λ (bs : List ℕ). bs ++ fields_bytes (fields_of fs)) c.in_ok-put_gap.ensures in
    opened_room old (fields_bytes (fields_of fs)) mid c.len-start.result (c.len-start.ensures ∙ c.args.out.now.ok.0) body

pub write_document-returns : goal.write_document-returns
write_document-returns t c =
    let fs = c.deref-field-items.result.now in
    let old = c.args.out.now.items in
    let mid = c.loop-field.out.items in
    let body : mid ≡ (old ++ le32 0) ++ fields_bytes (fields_of fs) =
    along_end c.put_gap.new.out.items mid fs c.loop-field.field-index (omega arith) c.loop-field.invariant ∙ ap (λ (bs : List ℕ). bs ++ fields_bytes (fields_of fs)) c.in_ok-put_gap.ensures in
    let o = opened old (fields_bytes (fields_of fs)) mid c.len-start.result (c.len-start.ensures ∙ c.args.out.now.ok.0) body in
    let whole = ap fields_of c.deref-field-items.ensures.value ∙ c.document.view_is in
    on_ok_weaker c.end_document.result (λ e. e ∙ rw (o.0, o.1) (ap (λ d. old ++ bytes d) whole)) c.end_document.ensures

pub write_array-loop-i-preserved : goal.write_array-loop-i-preserved
write_array-loop-i-preserved t c =
    let ts = c.deref-item-items.result.now in
    let x = c.item-item.result in
    let i = c.loop-i.i in
    let gap = c.put_gap.new.out.items in
    let rest = items_of (drop (i + 1) ts) in
    let a = subst (AlongItems i gap c.loop-i.out.items (items_of ts)) (items_here ts i x (omega arith) c.item-item.is) c.loop-i.invariant in
    let head = c.in_ok-put_numbered.ensures ∙ ap (λ k. c.loop-i.out.items ++ element k (decimal i) []) c.kind.ensures in
    along_items_step i gap c.loop-i.out.items c.put_numbered.new.out.items c.write_value.new.out.items (items_of ts) rest (tree x) a head c.in_ok-write_value.ensures

pub write_array-end_document-requires : goal.write_array-end_document-requires
write_array-end_document-requires t c =
    let ts = c.deref-item-items.result.now in
    let old = c.args.out.now.items in
    let mid = c.loop-i.out.items in
    let body : mid ≡ (old ++ le32 0) ++ items_bytes 0 (items_of ts) =
    along_items_end c.put_gap.new.out.items mid ts c.loop-i.i (omega arith) c.loop-i.invariant ∙ ap (λ (bs : List ℕ). bs ++ items_bytes 0 (items_of ts)) c.in_ok-put_gap.ensures in
    opened_room old (items_bytes 0 (items_of ts)) mid c.len-start.result (c.len-start.ensures ∙ c.args.out.now.ok.0) body

pub write_array-returns : goal.write_array-returns
write_array-returns t c =
    let ts = c.deref-item-items.result.now in
    let old = c.args.out.now.items in
    let mid = c.loop-i.out.items in
    let body : mid ≡ (old ++ le32 0) ++ items_bytes 0 (items_of ts) =
    along_items_end c.put_gap.new.out.items mid ts c.loop-i.i (omega arith) c.loop-i.invariant ∙ ap (λ (bs : List ℕ). bs ++ items_bytes 0 (items_of ts)) c.in_ok-put_gap.ensures in
    let o = opened old (items_bytes 0 (items_of ts)) mid c.len-start.result (c.len-start.ensures ∙ c.args.out.now.ok.0) body in
    let whole = ap items_of c.deref-item-items.ensures.value ∙ c.array.view_is in
    on_ok_weaker c.end_document.result (λ e. e ∙ rw (o.0, o.1) (ap (λ d. old ++ framed (items_bytes 0 d)) whole)) c.end_document.ensures

pub write_scoped-end_measured-requires : goal.write_scoped-end_measured-requires
write_scoped-end_measured-requires t c =
    let old = c.args.out.now.items in
    let text = string_bytes c.args.value.now.code in
    let scope = c.args.value.now.scope in
    let mid = c.write_document.new.out.items in
    let body : mid ≡ (old ++ le32 0) ++ (text_bytes text ++ bytes scope) =
    c.in_ok-write_document.ensures ∙ rw (c.in_ok-put_text.ensures, c.in_ok-put_gap.ensures, c.as_str.ensures.value) (append_assoc (old ++ le32 0) (text_bytes text) (bytes scope)) in
    opened_room old (text_bytes text ++ bytes scope) mid c.len-start.result (c.len-start.ensures ∙ c.args.out.now.ok.0) body

pub write_scoped-returns : goal.write_scoped-returns
write_scoped-returns t c =
    let old = c.args.out.now.items in
    let text = string_bytes c.args.value.now.code in
    let scope = c.args.value.now.scope in
    let mid = c.write_document.new.out.items in
    let body : mid ≡ (old ++ le32 0) ++ (text_bytes text ++ bytes scope) =
    c.in_ok-write_document.ensures ∙ rw (c.in_ok-put_text.ensures, c.in_ok-put_gap.ensures, c.as_str.ensures.value) (append_assoc (old ++ le32 0) (text_bytes text) (bytes scope)) in
    let o = opened old (text_bytes text ++ bytes scope) mid c.len-start.result (c.len-start.ensures ∙ c.args.out.now.ok.0) body in
    c.end_measured.ensures ∙ rw (o.0, o.1) refl

pub write_value-put_plain-requires : goal.write_value-put_plain-requires
write_value-put_plain-requires t c = plain c.args.value.now c.in_default.not-Document c.in_default.not-Array c.in_default.not-CodeWithScope
