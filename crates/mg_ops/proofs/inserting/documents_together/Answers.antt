use Rattle.std.proofs.Common.{◌≡◌, ℕ, ◌+◌, ◌*◌, ◌/◌, refl, ap, arith, div-add-mod', inl, inr}
use Rattle.std.proofs.lemmas.Nat.{mod_below, mul-le}
use Rattle.mg_ops.proofs.inserting.documents_together.Goals as goal

-- nothing passes the limit where nothing has bytes
pub returns-then-length-eq0-clause-together : goal.returns-then-length-eq0-clause-together
returns-then-length-eq0-clause-together c = let none = c.if-length-eq0.true in inl (omega (arith, none))

pub returns-then-length-eq0-clause-most : goal.returns-then-length-eq0-clause-most
returns-then-length-eq0-clause-most c = inr refl

-- ---- not even one fits

pub returns-then-fitting-eq0-clause-together : goal.returns-then-fitting-eq0-clause-together
returns-then-fitting-eq0-clause-together c = inr refl

pub returns-then-fitting-eq0-clause-most : goal.returns-then-fitting-eq0-clause-most
returns-then-fitting-eq0-clause-most c =
    let n = c.args.length in
    let some = c.if-length-eq0.false in
    let whole = div-add-mod' 47000000 n in
    let none = c.if-fitting-eq0.true in
    let less = mod_below 47000000 n (omega (arith, some)) in
    let nothing : 47000000 / n * n ≡ 0 * n = ap (λ (q : ℕ). q * n) none in
    inl (omega (arith, whole, nothing, less))

-- ---- more than one command may hold

pub returns-then-fitting-gt-MAX_DOCUMENTS-clause-together : goal.returns-then-fitting-gt-MAX_DOCUMENTS-clause-together
returns-then-fitting-gt-MAX_DOCUMENTS-clause-together c =
    let n = c.args.length in
    let many = c.if-fitting-gt-MAX_DOCUMENTS.true in
    let whole = div-add-mod' 47000000 n in
    let within = mul-le 100000 n (47000000 / n) n (omega (arith, many)) (omega arith) in
    inl (omega (arith, whole, within))

pub returns-then-fitting-gt-MAX_DOCUMENTS-clause-most : goal.returns-then-fitting-gt-MAX_DOCUMENTS-clause-most
returns-then-fitting-gt-MAX_DOCUMENTS-clause-most c = inr refl

-- ---- as many as fit

pub returns-clause-together : goal.returns-clause-together
returns-clause-together c = let whole = div-add-mod' 47000000 c.args.length in inl (omega (arith, whole))

pub returns-clause-most : goal.returns-clause-most
returns-clause-most c =
    let n = c.args.length in
    let some = c.if-length-eq0.false in
    let whole = div-add-mod' 47000000 n in
    let less = mod_below 47000000 n (omega (arith, some)) in
    let more : (47000000 / n + 1) * n ≡ 47000000 / n * n + n = omega arith in
    inl (omega (arith, whole, less, more))
