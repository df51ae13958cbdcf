-- Full chunks as the documents of one command.
use lib.Seq.{take-add}
use Rattle.std.proofs.Common.{◌≡◌, ◌<◌, ◌≤◌, ◌+◌, ◌*◌, ℕ, zero, suc, ℤ, pos, Bool, List, [], ◌∷◌, ◌++◌, length, take, drop, refl, sym, ap, ap₂, ◌∙◌, subst, inl, inr, arith, append-nil, length-append, length-drop}
use Rattle.std.proofs.lemmas.List.{drop-drop, length-take-le, take-append-drop, take-take}
use Rattle.std.proofs.lemmas.List.Sums.{sum_by-cons}
use Rattle.std.proofs.lemmas.Nat.{mul-le}
use Rattle.std.specs.Int.{cast_unsigned, w32}
use Rattle.std.specs.List.{AllByRecursion}
use Rattle.std.specs.Prelude.{◌⊎◌, codes, slice_get}
use Rattle.mg_bson.specs.Bytes.{bytes, element, fields_bytes, framed, kind_of, le32, value_bytes}
use Rattle.mg_bson.specs.Literal.{◌⇒◌⨾◌, empty}
use Rattle.mg_bson.specs.Tree.{Fields, Tree, binary, int32, object_id}
use Rattle.mg_bson.specs.declared.kind.Kind.{Kind}
use Rattle.mg_bson.proofs.Numbers.{length-le32}
use Rattle.mg_link.specs.Chunks.{chunked}
use Rattle.mg_server.proofs.Chunking.{chunked-append, chunked_full, chunked_none, length-chunked}
use Rattle.mg_ops.specs.InsertCauses.{FitTogether, max_piece, total}
use Rattle.mg_ops.specs.Limits.{max_documents}
use Rattle.mg_gridfs.specs.Commands.{chunk_document, chunk_documents}
use Rattle.mg_gridfs.specs.Steps.{IsPortion, first_chunks}
use Rattle.mg_gridfs.specs.Turns.{SameButBytes}
use Rattle.mg_gridfs.specs.Uploads as uploads
use Rattle.mg_gridfs.specs.Uploads.{ClientUpload, Doing}

-- ---- uploads that differ in their bytes

pub same_but : (u u' : ClientUpload) → SameButBytes u u' → u' ≡ record u { behind = u'.behind }
same_but u u' s =
    ap (λ (a : uploads.Aim). record { aim = a; checked = u'.checked; sent = u'.sent; behind = u'.behind; doing = u'.doing }) s.aim
    ∙ ap (λ (b : Bool). record { aim = u.aim; checked = b; sent = u'.sent; behind = u'.behind; doing = u'.doing }) s.checked
    ∙ ap (λ (n : ℕ). record { aim = u.aim; checked = u.checked; sent = n; behind = u'.behind; doing = u'.doing }) s.sent
    ∙ ap (λ (d : Doing). record { aim = u.aim; checked = u.checked; sent = u.sent; behind = u'.behind; doing = d }) s.doing

pub but_none : (u : ClientUpload) → SameButBytes u u
but_none u = record { aim = refl; checked = refl; sent = refl; doing = refl }

pub but_on : (u v w : ClientUpload) → SameButBytes u v → SameButBytes v w → SameButBytes u w
but_on u v w p q = record { aim = q.aim ∙ p.aim; checked = q.checked ∙ p.checked; sent = q.sent ∙ p.sent; doing = q.doing ∙ p.doing }

-- ---- bytes in parts

one_chunk : (size : ℕ) (b : List ℕ) → 0 < size → length b ≡ size → chunked size b ≡ b ∷ []
one_chunk size b lt long =
    ap (λ (l : List ℕ). chunked size l) (sym (append-nil b)) ∙ chunked_full size b [] lt long ∙ ap (λ (cs : List (List ℕ)). b ∷ cs) (chunked_none size)

abbrev HaveLength : ℕ → List (List ℕ) → Type 0
HaveLength size cs = AllByRecursion (λ (c : List ℕ). length c ≡ size) cs

chunked_have : (n size : ℕ) (a : List ℕ) → 0 < size → length a ≡ n * size → HaveLength size (chunked size a)
chunked_have zero size [] lt e = subst (HaveLength size) (sym (chunked_none size)) tt
chunked_have zero size (x ∷ a) lt e = absurd (omega (arith, e))
chunked_have (suc n) size a lt e =
    let more : suc n * size ≡ size + n * size = omega arith in
    let long : size ≤ length a = omega (arith, e, more) in
    let full : length (take size a) ≡ size = length-take-le size a long in
    let left : length (drop size a) ≡ n * size = omega (arith, e, length-drop size a, more) in
    let cut : chunked size a ≡ take size a ∷ chunked size (drop size a) = ap (λ (l : List ℕ). chunked size l) (sym (take-append-drop size a)) ∙ chunked_full size (take size a) (drop size a) lt full in
    subst (HaveLength size) (sym cut) (full, chunked_have n size (drop size a) lt left)

-- ---- bytes that are taken out

take_front : (a b : List ℕ) → take (length a) (a ++ b) ≡ a
take_front [] b = refl
take_front (x ∷ a) b = ap (λ (l : List ℕ). x ∷ l) (take_front a b)

drop_front : (a b : List ℕ) → drop (length a) (a ++ b) ≡ b
drop_front [] b = refl
drop_front (x ∷ a) b = drop_front a b

pub front_taken : (size : ℕ) (held a b : List ℕ) → held ≡ a ++ b → length a ≡ size → take size held ≡ a
front_taken size held a b is long = ap (λ (l : List ℕ). take size l) is ∙ ap (λ (n : ℕ). take n (a ++ b)) (sym long) ∙ take_front a b

pub front_dropped : (size : ℕ) (held a b : List ℕ) → held ≡ a ++ b → length a ≡ size → drop size held ≡ b
front_dropped size held a b is long = ap (λ (l : List ℕ). drop size l) is ∙ ap (λ (n : ℕ). drop n (a ++ b)) (sym long) ∙ drop_front a b

-- ---- one document more

docs_append : (ids : ℕ → List ℕ) (k : ℕ) (file : Tree) (n : ℕ) (cs ds : List (List ℕ)) → chunk_documents ids k file n (cs ++ ds) ≡ chunk_documents ids k file n cs ++ chunk_documents ids (k + length cs) file (n + length cs) ds
docs_append ids k file n [] ds =
    let e : k ≡ k + 0 = omega arith in
    let f : n ≡ n + 0 = omega arith in
    ap₂ (λ (i m : ℕ). chunk_documents ids i file m ds) e f
docs_append ids k file n (c ∷ cs) ds =
    let e : suc k + length cs ≡ k + suc (length cs) = omega arith in
    let f : suc n + length cs ≡ n + suc (length cs) = omega arith in
    ap (λ (l : List Fields). chunk_document (ids k) file n c ∷ l) (docs_append ids (suc k) file (suc n) cs ds ∙ ap₂ (λ (i m : ℕ). chunk_documents ids (suc k) file (suc n) cs ++ chunk_documents ids i file m ds) e f)

module _ (u : ClientUpload) (ids : ℕ → List ℕ) (lt : 0 < u.aim.size) where
  pub first_one : u.aim.size ≤ length u.behind → first_chunks u ids 1 ≡ chunk_document (ids 0) u.aim.id u.sent (take u.aim.size u.behind) ∷ []
  first_one long =
      let size = u.aim.size in
      let e : 1 * size ≡ size = omega arith in
      ap (λ (n : ℕ). chunk_documents ids 0 u.aim.id u.sent (chunked size (take n u.behind))) e
      ∙ ap (λ (cs : List (List ℕ)). chunk_documents ids 0 u.aim.id u.sent cs) (one_chunk size (take size u.behind) lt (length-take-le size u.behind long))

  pub first_more : (n : ℕ) → (n + 1) * u.aim.size ≤ length u.behind
      → first_chunks u ids (n + 1) ≡ first_chunks u ids n ++ chunk_document (ids n) u.aim.id (u.sent + n) (take u.aim.size (drop (n * u.aim.size) u.behind)) ∷ []
  first_more n long =
      let size = u.aim.size in
      let bs = u.behind in
      let sum : (n + 1) * size ≡ n * size + size = omega arith in
      let a = take (n * size) bs in
      let b = take size (drop (n * size) bs) in
      let a_long : length a ≡ n * size = length-take-le (n * size) bs (omega (arith, long, sum)) in
      let b_long : length b ≡ size = length-take-le size (drop (n * size) bs) (omega (arith, long, sum, length-drop (n * size) bs)) in
      let cut : chunked size (take ((n + 1) * size) bs) ≡ chunked size a ++ b ∷ [] = ap (λ (m : ℕ). chunked size (take m bs)) sum ∙ ap (λ (l : List ℕ). chunked size l) (take-add (n * size) size bs) ∙ chunked-append n size a b lt a_long ∙ ap (λ (cs : List (List ℕ)). chunked size a ++ cs) (one_chunk size b lt b_long) in
      let count = length-chunked n size a lt a_long in
      let e : 0 + length (chunked size a) ≡ n = omega (arith, count) in
      let f : u.sent + length (chunked size a) ≡ u.sent + n = omega (arith, count) in
      ap (λ (cs : List (List ℕ)). chunk_documents ids 0 u.aim.id u.sent cs) cut
      ∙ docs_append ids 0 u.aim.id u.sent (chunked size a) (b ∷ [])
      ∙ ap₂ (λ (i m : ℕ). first_chunks u ids n ++ chunk_document (ids i) u.aim.id m b ∷ []) e f

-- ---- their lengths

framed_long : (cs bs : List ℕ) → length cs ≡ length bs → length (framed cs) ≡ length (framed bs)
framed_long cs bs e =
    let p = length-append (le32 (length cs + 5)) (cs ++ 0 ∷ []) in
    let q = length-append (le32 (length bs + 5)) (bs ++ 0 ∷ []) in
    omega (arith, p, q, length-le32 (length cs + 5), length-le32 (length bs + 5), length-append cs (0 ∷ []), length-append bs (0 ∷ []), e)

element_long : (k : Kind) (name cs bs : List ℕ) → length cs ≡ length bs → length (element k name cs) ≡ length (element k name bs)
element_long k name cs bs e = omega (arith, length-append name (0 ∷ cs), length-append name (0 ∷ bs), e)

behind_long : (a b c d : List ℕ) → length a ≡ length b → length c ≡ length d → length (a ++ c) ≡ length (b ++ d)
behind_long a b c d e f = omega (arith, length-append a c, length-append b d, e, f)

number_long : (z : ℤ) → length (value_bytes (int32 z)) ≡ 4
number_long z = length-le32 (cast_unsigned w32 z)

-- all full chunks of a file are documents of one length
chunk_long : (id id' : List ℕ) (file : Tree) (n n' : ℕ) (b b' : List ℕ) → length id ≡ length id' → length b ≡ length b' → length (bytes (chunk_document id file n b)) ≡ length (bytes (chunk_document id' file n' b'))
chunk_long id id' file n n' b b' e f =
    let tail = fields_bytes ("data" ⇒ binary 0 b ⨾ empty) in
    let tail' = fields_bytes ("data" ⇒ binary 0 b' ⨾ empty) in
    let number = fields_bytes ("n" ⇒ int32 (pos n) ⨾ "data" ⇒ binary 0 b ⨾ empty) in
    let number' = fields_bytes ("n" ⇒ int32 (pos n') ⨾ "data" ⇒ binary 0 b' ⨾ empty) in
    let of_file = fields_bytes ("files_id" ⇒ file ⨾ "n" ⇒ int32 (pos n) ⨾ "data" ⇒ binary 0 b ⨾ empty) in
    let of_file' = fields_bytes ("files_id" ⇒ file ⨾ "n" ⇒ int32 (pos n') ⨾ "data" ⇒ binary 0 b' ⨾ empty) in
    let by_data : length tail ≡ length tail' = element_long (kind_of (binary 0 b)) (codes "data") (value_bytes (binary 0 b) ++ []) (value_bytes (binary 0 b') ++ []) (behind_long (value_bytes (binary 0 b)) (value_bytes (binary 0 b')) [] [] (behind_long (le32 (length b)) (le32 (length b')) (0 ∷ b) (0 ∷ b') (length-le32 (length b) ∙ sym (length-le32 (length b'))) (ap suc f)) refl) in
    let by_number : length number ≡ length number' = element_long (kind_of (int32 (pos n))) (codes "n") (value_bytes (int32 (pos n)) ++ tail) (value_bytes (int32 (pos n')) ++ tail') (behind_long (value_bytes (int32 (pos n))) (value_bytes (int32 (pos n'))) tail tail' (number_long (pos n) ∙ sym (number_long (pos n'))) by_data) in
    let by_file : length of_file ≡ length of_file' = element_long (kind_of file) (codes "files_id") (value_bytes file ++ number) (value_bytes file ++ number') (behind_long (value_bytes file) (value_bytes file) number number' refl by_number) in
    framed_long (fields_bytes (chunk_document id file n b)) (fields_bytes (chunk_document id' file n' b')) (element_long (kind_of (object_id id)) (codes "_id") (id ++ of_file) (id' ++ of_file') (behind_long id id' of_file of_file' e by_file))

abbrev HaveBytes : ℕ → List Fields → Type 0
HaveBytes n ds = AllByRecursion (λ (d : Fields). length (bytes d) ≡ n) ds

docs_long : (ids : ℕ → List ℕ) (file : Tree) (size : ℕ) (id b : List ℕ) (m k n : ℕ) (cs : List (List ℕ)) → length id ≡ 12 → length b ≡ size → ((j : ℕ) → j < length cs → length (ids (k + j)) ≡ 12) → HaveLength size cs → HaveBytes (length (bytes (chunk_document id file m b))) (chunk_documents ids k file n cs)
docs_long ids file size id b m k n [] twelve long ids_long have = tt
docs_long ids file size id b m k n (c ∷ cs) twelve long ids_long have =
    let e : k + 0 ≡ k = omega arith in
    let first : length (ids k) ≡ 12 = ap (λ (i : ℕ). length (ids i)) (sym e) ∙ ids_long 0 (omega arith) in (
      chunk_long (ids k) id file n m c b (first ∙ sym twelve) (have.0 ∙ sym long),
      docs_long ids file size id b m (suc k) (suc n) cs twelve long (λ j lt. let f : suc k + j ≡ k + suc j = omega arith in ap (λ (i : ℕ). length (ids i)) f ∙ ids_long (suc j) (omega (arith, lt))) have.1,
    )

total_long : (n : ℕ) (ds : List Fields) → HaveBytes n ds → total ds ≡ length ds * n
total_long n [] have = omega arith
total_long n (d ∷ ds) have =
    let first = sum_by-cons (λ (x : Fields). length (bytes x)) d ds in
    let rest = total_long n ds have.1 in
    let one = have.0 in
    let more : (length ds + 1) * n ≡ length ds * n + n = omega arith in
    omega (arith, first, rest, one, more)

length-docs : (ids : ℕ → List ℕ) (k : ℕ) (file : Tree) (n : ℕ) (cs : List (List ℕ)) → length (chunk_documents ids k file n cs) ≡ length cs
length-docs ids k file n [] = refl
length-docs ids k file n (c ∷ cs) = ap suc (length-docs ids (suc k) file (suc n) cs)

-- ---- a portion

module _ (u : ClientUpload) (ids : ℕ → List ℕ) (lt : 0 < u.aim.size) (count fitting held : ℕ) (some : 1 ≤ count) (first : Fields) (first_is : first ≡ chunk_document (ids 0) u.aim.id u.sent (take u.aim.size u.behind)) (fits : count ≤ fitting) (there : count ≤ held) (most : (count ≡ fitting) ⊎ (count ≡ held)) (few : fitting ≤ max_documents)
    (together : (fitting * length (bytes first) ≤ max_piece) ⊎ (fitting ≡ 1)) (limit : (max_piece < (fitting + 1) * length (bytes first)) ⊎ (fitting ≡ max_documents)) (all : held * u.aim.size ≤ length u.behind) (behind_all : length u.behind < (held + 1) * u.aim.size) (twelve : (k : ℕ) → k < count → length (ids k) ≡ 12) where
  within : count * u.aim.size ≤ length u.behind
  within = let le = mul-le count u.aim.size held u.aim.size there (omega arith) in omega (arith, le, all)

  cut_long : length (take (count * u.aim.size) u.behind) ≡ count * u.aim.size
  cut_long = length-take-le (count * u.aim.size) u.behind within

  many : length (chunked u.aim.size (take (count * u.aim.size) u.behind)) ≡ count
  many = length-chunked count u.aim.size (take (count * u.aim.size) u.behind) lt cut_long

  long : u.aim.size ≤ length u.behind
  long = let le = mul-le 1 u.aim.size count u.aim.size some (omega arith) in let one : 1 * u.aim.size ≡ u.aim.size = omega arith in let so = within in omega (arith, le, one, so)

  lengths : HaveBytes (length (bytes first)) (first_chunks u ids count)
  lengths =
      subst (λ (d : Fields). HaveBytes (length (bytes d)) (first_chunks u ids count)) (sym first_is)
      (docs_long ids u.aim.id u.aim.size (ids 0) (take u.aim.size u.behind) u.sent 0 u.sent (chunked u.aim.size (take (count * u.aim.size) u.behind)) (twelve 0 (omega (arith, some))) (length-take-le u.aim.size u.behind long)
      (λ j below. let e : 0 + j ≡ j = omega arith in let n = many in ap (λ (i : ℕ). length (ids i)) e ∙ twelve j (omega (arith, below, n))) (chunked_have count u.aim.size (take (count * u.aim.size) u.behind) lt cut_long))

  count_is : length (first_chunks u ids count) ≡ count
  count_is = length-docs ids 0 u.aim.id u.sent (chunked u.aim.size (take (count * u.aim.size) u.behind)) ∙ many

  fit : FitTogether (first_chunks u ids count)
  fit = elim together [
    | inl within_limit ↦
        let all_bytes : total (first_chunks u ids count) ≡ count * length (bytes first) = total_long (length (bytes first)) (first_chunks u ids count) lengths ∙ ap (λ (n : ℕ). n * length (bytes first)) count_is in
        let le = mul-le count (length (bytes first)) fitting (length (bytes first)) fits (omega arith) in
        inl (omega (arith, all_bytes, le, within_limit))
    | inr one ↦ inr (let n = count_is in omega (arith, n, one, fits, some))
  ]

  abbrev rest : List (List ℕ)
  rest = chunked u.aim.size (drop u.aim.size (take (count * u.aim.size) u.behind))

  front : first_chunks u ids count ≡ first ∷ chunk_documents ids 1 u.aim.id (suc u.sent) rest
  front =
      let cut = take (count * u.aim.size) u.behind in
      let size = u.aim.size in
      let le = mul-le 1 size count size some (omega arith) in
      let one_is : 1 * size ≡ size = omega arith in
      let enough : size ≤ length cut = let c = cut_long in omega (arith, le, one_is, c) in
      let same : take size cut ≡ take size u.behind = take-take size (count * size) u.behind (omega (arith, le, one_is)) in
      ap (λ (l : List ℕ). chunk_documents ids 0 u.aim.id u.sent (chunked size l)) (sym (take-append-drop size cut))
      ∙ ap (λ (cs : List (List ℕ)). chunk_documents ids 0 u.aim.id u.sent cs) (chunked_full size (take size cut) (drop size cut) lt (length-take-le size cut enough))
      ∙ ap (λ (l : List ℕ). chunk_document (ids 0) u.aim.id u.sent l ∷ chunk_documents ids 1 u.aim.id (suc u.sent) rest) same
      ∙ ap (λ (d : Fields). d ∷ chunk_documents ids 1 u.aim.id (suc u.sent) rest) (sym first_is)

  pub portion : IsPortion u (first_chunks u ids count) count
  portion = record {
    some = omega (arith, some);
    within = within;
    few = omega (arith, fits, few);
    together = fit;
    most = elim most [
      | inl is ↦ elim limit [
        | inl past ↦ inr (inr (first, ap (λ (l : List Fields). slice_get l 0) front, subst (λ (n : ℕ). max_piece < (n + 1) * length (bytes first)) (sym is) past))
        | inr greatest ↦ inr (inl (is ∙ greatest))
      ]
      | inr is ↦ inl (subst (λ (n : ℕ). length u.behind < (n + 1) * u.aim.size) (sym is) behind_all)
    ];
  }

-- ---- one chunk after the other

pub twelve_one : (ids : ℕ → List ℕ) → length (ids 0) ≡ 12 → (k : ℕ) → k < 1 → length (ids k) ≡ 12
twelve_one ids first zero lt = first
twelve_one ids first (suc k) lt = absurd (omega (arith, lt))

below_more : (k n : ℕ) → k < n + 1 → (k < n) ⊎ (k ≡ n)
below_more zero zero lt = inr refl
below_more zero (suc n) lt = inl (omega arith)
below_more (suc k) zero lt = absurd (omega (arith, lt))
below_more (suc k) (suc n) lt = elim (below_more k n (omega (arith, lt))) [ inl less ↦ inl (omega (arith, less)) | inr same ↦ inr (ap suc same) ]

pub twelve_more : (ids : ℕ → List ℕ) (n : ℕ) → ((k : ℕ) → k < n → length (ids k) ≡ 12) → length (ids n) ≡ 12 → (k : ℕ) → k < n + 1 → length (ids k) ≡ 12
twelve_more ids n before last k lt = elim (below_more k n lt) [ inl less ↦ before k less | inr same ↦ ap (λ (i : ℕ). length (ids i)) same ∙ last ]

-- the next chunk is that of its place
pub next_as : (u v : ClientUpload) (ids now : ℕ → List ℕ) (n : ℕ) → SameButBytes u v → v.behind ≡ drop (n * u.aim.size) u.behind → now 0 ≡ ids n → chunk_document (now 0) v.aim.id (v.sent + n) (take v.aim.size v.behind) ≡ chunk_document (ids n) u.aim.id (u.sent + n) (take u.aim.size (drop (n * u.aim.size) u.behind))
next_as u v ids now n same left first =
    ap (λ (i : List ℕ). chunk_document i v.aim.id (v.sent + n) (take v.aim.size v.behind)) first
    ∙ ap (λ (a : uploads.Aim). chunk_document (ids n) a.id (v.sent + n) (take a.size v.behind)) same.aim
    ∙ ap (λ (m : ℕ). chunk_document (ids n) u.aim.id (m + n) (take u.aim.size v.behind)) same.sent
    ∙ ap (λ (bs : List ℕ). chunk_document (ids n) u.aim.id (u.sent + n) (take u.aim.size bs)) left

pub next_left : (u v : ClientUpload) (n : ℕ) (bs : List ℕ) → SameButBytes u v → v.behind ≡ drop (n * u.aim.size) u.behind → bs ≡ drop v.aim.size v.behind → bs ≡ drop ((n + 1) * u.aim.size) u.behind
next_left u v n bs same left is =
    let sum : n * u.aim.size + u.aim.size ≡ (n + 1) * u.aim.size = omega arith in
    is
    ∙ ap (λ (a : uploads.Aim). drop a.size v.behind) same.aim
    ∙ ap (λ (l : List ℕ). drop u.aim.size l) left
    ∙ drop-drop u.aim.size (n * u.aim.size) u.behind
    ∙ ap (λ (m : ℕ). drop m u.behind) sum

-- so many more are there
pub next_within : (n count size long : ℕ) → n < count → count * size ≤ long → (n + 1) * size ≤ long
next_within n count size long lt within = let le = mul-le (n + 1) size count size (omega (arith, lt)) (omega arith) in omega (arith, le, within)

pub next_full : (u v : ClientUpload) (n : ℕ) → SameButBytes u v → v.behind ≡ drop (n * u.aim.size) u.behind → (n + 1) * u.aim.size ≤ length u.behind → v.aim.size ≤ length v.behind
next_full u v n same left long =
    let sum : (n + 1) * u.aim.size ≡ n * u.aim.size + u.aim.size = omega arith in
    let size : v.aim.size ≡ u.aim.size = ap (λ (a : uploads.Aim). a.size) same.aim in
    let some : length v.behind ≡ length (drop (n * u.aim.size) u.behind) = ap length left in
    omega (arith, sum, size, some, length-drop (n * u.aim.size) u.behind, long)
