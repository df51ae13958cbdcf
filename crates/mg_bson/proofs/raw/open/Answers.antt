use Rattle.std.proofs.Common.{◌≡◌, ℕ, List, Some, drop, sym, ap, ap₂, subst, ◌∙◌, arith, rules}
use Rattle.std.specs.Int.{w32, w64, cast_signed}
use Rattle.std.proofs.lemmas.Int.{to_z-of_z}
use mir.Val.{SFits}
use Rattle.mg_bson.specs.declared.kind.Kind.{Kind}
use Rattle.mg_bson.specs.Tree.{double, undefined, object_id, date_time, null, int32, timestamp, int64, decimal128, min_key, max_key}
use Rattle.mg_bson.specs.Reading.{le32_at, le64_at}
use Rattle.mg_bson.proofs.Known.{is_fixed}
use Rattle.mg_bson.specs.Raw.{IsValue}
use Rattle.mg_bson.proofs.Lending.{inner_document, inner_array}
use Rattle.mg_bson.proofs.raw.open.Goals as goal

at : (kind k : Kind) (bs : List ℕ) → kind ≡ k → IsValue (record { kind = kind; bytes = bs }) → IsValue (record { kind = k; bytes = bs })
at kind k bs is h = subst (λ k. IsValue (record { kind = k; bytes = bs })) is h

pub invariant_of-result : goal.invariant_of-result
invariant_of-result c = (inner_document c.args.bytes.now (subst (λ k. IsValue (record { kind = k; bytes = c.args.bytes.now })) c.in-Document.is c.requires)).0

pub returns-in-Document-clause-value : goal.returns-in-Document-clause-value
returns-in-Document-clause-value c = rw c.in-Document.is (sym (inner_document c.args.bytes.now (subst (λ k. IsValue (record { kind = k; bytes = c.args.bytes.now })) c.in-Document.is c.requires)).1)

pub invariant_of-result-in-Array : goal.invariant_of-result-in-Array
invariant_of-result-in-Array c = (inner_array c.args.bytes.now (subst (λ k. IsValue (record { kind = k; bytes = c.args.bytes.now })) c.in-Array.is c.requires)).0

pub returns-in-Array-clause-value : goal.returns-in-Array-clause-value
returns-in-Array-clause-value c = rw c.in-Array.is (sym (inner_array c.args.bytes.now (subst (λ k. IsValue (record { kind = k; bytes = c.args.bytes.now })) c.in-Array.is c.requires)).1)

pub open_scope-requires : goal.open_scope-requires
open_scope-requires c = at _ _ _ c.in-CodeWithScope.is c.requires

pub returns-in-CodeWithScope-clause-value : goal.returns-in-CodeWithScope-clause-value
returns-in-CodeWithScope-clause-value c = rw c.in-CodeWithScope.is c.open_scope.ensures.value

pub returns-in-Binary-clause-value : goal.returns-in-Binary-clause-value
returns-in-Binary-clause-value c = rw c.in-Binary.is c.open_binary.ensures.value

pub returns-in-Regex-clause-value : goal.returns-in-Regex-clause-value
returns-in-Regex-clause-value c = rw c.in-Regex.is c.open_regex.ensures.value

pub returns-in-DbPointer-clause-value : goal.returns-in-DbPointer-clause-value
returns-in-DbPointer-clause-value c = rw c.in-DbPointer.is c.open_pointer.ensures.value

pub array_of-requires : goal.array_of-requires
array_of-requires c = (omega arith, (is_fixed 8 double c.args.bytes.now (at _ _ _ c.in-Double.is c.requires)).long)

pub returns-in-Double-clause-value : goal.returns-in-Double-clause-value
returns-in-Double-clause-value c = rw c.in-Double.is (ap (λ v. Some (double v)) c.array_of.ensures ∙ sym (is_fixed 8 double c.args.bytes.now (at _ _ _ c.in-Double.is c.requires)).read)

pub returns-in-Undefined-clause-value : goal.returns-in-Undefined-clause-value
returns-in-Undefined-clause-value c = rw c.in-Undefined.is (sym (is_fixed 0 (λ _. undefined) c.args.bytes.now (at _ _ _ c.in-Undefined.is c.requires)).read)

pub array_of-requires-in-ObjectId : goal.array_of-requires-in-ObjectId
array_of-requires-in-ObjectId c = (omega arith, (is_fixed 12 object_id c.args.bytes.now (at _ _ _ c.in-ObjectId.is c.requires)).long)

pub returns-in-ObjectId-clause-value : goal.returns-in-ObjectId-clause-value
returns-in-ObjectId-clause-value c = rw c.in-ObjectId.is (ap (λ v. Some (object_id v)) c.array_of-in-ObjectId.ensures ∙ sym (is_fixed 12 object_id c.args.bytes.now (at _ _ _ c.in-ObjectId.is c.requires)).read)

pub i64_at-millis-requires : goal.i64_at-millis-requires
i64_at-millis-requires c = omega (arith, (is_fixed 8 (λ bs. date_time (cast_signed w64 (le64_at bs))) c.args.bytes.now (at _ _ _ c.in-DateTime.is c.requires)).long)

pub returns-in-DateTime-clause-value : goal.returns-in-DateTime-clause-value
returns-in-DateTime-clause-value c =
    let fits : SFits w64 c.i64_at-millis.result = search rules in
    rw c.in-DateTime.is (ap (λ v. Some (date_time v)) (to_z-of_z w64 c.i64_at-millis.result fits ∙ c.i64_at-millis.ensures) ∙ sym (is_fixed 8 (λ bs. date_time (cast_signed w64 (le64_at bs))) c.args.bytes.now (at _ _ _ c.in-DateTime.is c.requires)).read)

pub returns-in-Null-clause-value : goal.returns-in-Null-clause-value
returns-in-Null-clause-value c = rw c.in-Null.is (sym (is_fixed 0 (λ _. null) c.args.bytes.now (at _ _ _ c.in-Null.is c.requires)).read)

pub i32_at-requires : goal.i32_at-requires
i32_at-requires c = omega (arith, (is_fixed 4 (λ bs. int32 (cast_signed w32 (le32_at bs))) c.args.bytes.now (at _ _ _ c.in-Int32.is c.requires)).long)

pub returns-in-Int32-clause-value : goal.returns-in-Int32-clause-value
returns-in-Int32-clause-value c =
    let fits : SFits w32 c.i32_at.result = search rules in
    rw c.in-Int32.is (ap (λ v. Some (int32 v)) (to_z-of_z w32 c.i32_at.result fits ∙ c.i32_at.ensures) ∙ sym (is_fixed 4 (λ bs. int32 (cast_signed w32 (le32_at bs))) c.args.bytes.now (at _ _ _ c.in-Int32.is c.requires)).read)

pub timestamp_at-requires : goal.timestamp_at-requires
timestamp_at-requires c = (is_fixed 8 (λ bs. timestamp (le32_at (drop 4 bs)) (le32_at bs)) c.args.bytes.now (at _ _ _ c.in-Timestamp.is c.requires)).long

pub returns-in-Timestamp-clause-value : goal.returns-in-Timestamp-clause-value
returns-in-Timestamp-clause-value c = rw c.in-Timestamp.is (ap₂ (λ t i. Some (timestamp t i)) c.timestamp_at.ensures.0 c.timestamp_at.ensures.1 ∙ sym (is_fixed 8 (λ bs. timestamp (le32_at (drop 4 bs)) (le32_at bs)) c.args.bytes.now (at _ _ _ c.in-Timestamp.is c.requires)).read)

pub i64_at-requires : goal.i64_at-requires
i64_at-requires c = omega (arith, (is_fixed 8 (λ bs. int64 (cast_signed w64 (le64_at bs))) c.args.bytes.now (at _ _ _ c.in-Int64.is c.requires)).long)

pub returns-in-Int64-clause-value : goal.returns-in-Int64-clause-value
returns-in-Int64-clause-value c =
    let fits : SFits w64 c.i64_at.result = search rules in
    rw c.in-Int64.is (ap (λ v. Some (int64 v)) (to_z-of_z w64 c.i64_at.result fits ∙ c.i64_at.ensures) ∙ sym (is_fixed 8 (λ bs. int64 (cast_signed w64 (le64_at bs))) c.args.bytes.now (at _ _ _ c.in-Int64.is c.requires)).read)

pub array_of-requires-in-Decimal128 : goal.array_of-requires-in-Decimal128
array_of-requires-in-Decimal128 c = (omega arith, (is_fixed 16 decimal128 c.args.bytes.now (at _ _ _ c.in-Decimal128.is c.requires)).long)

pub returns-in-Decimal128-clause-value : goal.returns-in-Decimal128-clause-value
returns-in-Decimal128-clause-value c = rw c.in-Decimal128.is (ap (λ v. Some (decimal128 v)) c.array_of-in-Decimal128.ensures ∙ sym (is_fixed 16 decimal128 c.args.bytes.now (at _ _ _ c.in-Decimal128.is c.requires)).read)

pub returns-in-MinKey-clause-value : goal.returns-in-MinKey-clause-value
returns-in-MinKey-clause-value c = rw c.in-MinKey.is (sym (is_fixed 0 (λ _. min_key) c.args.bytes.now (at _ _ _ c.in-MinKey.is c.requires)).read)

pub returns-in-MaxKey-clause-value : goal.returns-in-MaxKey-clause-value
returns-in-MaxKey-clause-value c = rw c.in-MaxKey.is (sym (is_fixed 0 (λ _. max_key) c.args.bytes.now (at _ _ _ c.in-MaxKey.is c.requires)).read)
