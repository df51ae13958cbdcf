-- The chunks of a batch, which are looked at one by one.
use Rattle.std.proofs.Common.{◌≡◌, ◌≤◌, ◌+◌, ◌-◌, ◌^◌, ◌++◌, ℕ, suc, List, [], ◌∷◌, length, Option, Some, None, Result, Ok, Err, refl, sym, ap, ◌∙◌, arith, append_assoc, append-nil, length-append}
use Rattle.std.specs.List.{concat}
use Rattle.std.proofs.lemmas.List.Folds.{concat-append}
use Rattle.mg_bson.specs.Tree.{Fields, Items, Tree, item, no_items}
use Rattle.mg_bson.specs.Find.{as_document}
use Rattle.mg_link.specs.declared.error.Error.{Error}
use Rattle.mg_link.specs.declared.error.Malformed.TheVariants as malformed
use Rattle.mg_chunks.specs.declared.sizes.FileSizes.{FileSizes}
use Rattle.mg_chunks.specs.Broken.{broken}
use Rattle.mg_chunks.specs.Chunks.{all_judged, and_then, judged, needed_as}
use Rattle.mg_chunks.specs.Judging.{IsPlaceBehind, JudgesOne, TakesChunk}
use Rattle.mg_chunks.specs.declared.judging.ReadPlace.{ReadPlace}

-- ---- the first of a batch

-- by what its item is
abbrev judged_first : FileSizes → ℕ → Items → Option Fields → Result (List (List ℕ)) Error
judged_first f n ts o = and_then (needed_as malformed.BadItem o) (λ d. and_then (judged f n d) (λ bytes. and_then (all_judged f (suc n) ts) (λ more. Ok (bytes ∷ more))))

-- by what its document is
abbrev judged_behind : FileSizes → ℕ → Items → Result (List ℕ) Error → Result (List (List ℕ)) Error
judged_behind f n ts r = and_then r (λ bytes. and_then (all_judged f (suc n) ts) (λ more. Ok (bytes ∷ more)))

pub in_order_first : (f : FileSizes) (n : ℕ) (t : Tree) (ts : Items) (d : Fields) (bytes : List ℕ) → as_document t ≡ Some d → judged f n d ≡ Ok bytes → all_judged f n (item t ts) ≡ and_then (all_judged f (suc n) ts) (λ more. Ok (bytes ∷ more))
in_order_first f n t ts d bytes is in_order = ap (judged_first f n ts) is ∙ ap (judged_behind f n ts) in_order

pub bad_item : (f : FileSizes) (n : ℕ) (t : Tree) (ts : Items) → as_document t ≡ None → all_judged f n (item t ts) ≡ Err (broken malformed.BadItem)
bad_item f n t ts is = ap (judged_first f n ts) is

pub differing : (f : FileSizes) (n : ℕ) (t : Tree) (ts : Items) (d : Fields) (e : Error) → as_document t ≡ Some d → judged f n d ≡ Err e → all_judged f n (item t ts) ≡ Err e
differing f n t ts d e is differs = ap (judged_first f n ts) is ∙ ap (judged_behind f n ts) differs

-- ---- behind chunks that are in order

abbrev pub behind_those : List (List ℕ) → Result (List (List ℕ)) Error → Result (List (List ℕ)) Error
behind_those chunks r = and_then r (λ more. Ok (chunks ++ more))

behind_none : (r : Result (List (List ℕ)) Error) → behind_those [] r ≡ r
behind_none (Ok more) = refl
behind_none (Err e) = refl

behind_one : (chunks : List (List ℕ)) (bytes : List ℕ) (r : Result (List (List ℕ)) Error) → behind_those chunks (and_then r (λ more. Ok (bytes ∷ more))) ≡ behind_those (chunks ++ bytes ∷ []) r
behind_one chunks bytes (Ok more) = ap (λ (l : List (List ℕ)). Ok l) (sym (append_assoc chunks (bytes ∷ []) more))
behind_one chunks bytes (Err e) = refl

-- So far a look has come: those looked at were in order, and what becomes of the others becomes of all.
pub record CameTo (f : FileSizes) (start p : ReadPlace) (batch left : Items) : Type 0 where
  pub chunks : List (List ℕ)
  pub so_far : all_judged f start.taken batch ≡ behind_those chunks (all_judged f p.taken left)
  pub taken : p.taken ≡ start.taken + length chunks
  pub few : p.taken ≤ 2 ^ 31
  pub missing : p.missing ≡ start.missing - length (concat chunks)

pub came_none : (f : FileSizes) (p : ReadPlace) (batch left : Items) → left ≡ batch → p.taken ≤ 2 ^ 31 → CameTo f p p batch left
came_none f p batch left is few =
    let taken : p.taken ≡ p.taken + 0 = omega arith in
    let missing : p.missing ≡ p.missing - 0 = omega arith in
    record { chunks = []; so_far = ap (all_judged f p.taken) (sym is) ∙ sym (behind_none (all_judged f p.taken left)); taken = taken; few = few; missing = missing }

-- one more chunk counts one more
one_longer : (chunks : List (List ℕ)) (bytes : List ℕ) → length (chunks ++ bytes ∷ []) ≡ length chunks + 1
one_longer chunks bytes = length-append chunks (bytes ∷ [])

-- and as many bytes as it has
bytes_longer : (chunks : List (List ℕ)) (bytes : List ℕ) → length (concat (chunks ++ bytes ∷ [])) ≡ length (concat chunks) + length bytes
bytes_longer chunks bytes =
    ap (length {A = ℕ}) (concat-append chunks (bytes ∷ []) ∙ ap (λ (l : List ℕ). concat chunks ++ l) (append-nil bytes)) ∙ length-append (concat chunks) bytes

pub came_on : (f : FileSizes) (start p p' : ReadPlace) (batch left left' : Items) (t : Tree) → CameTo f start p batch left → left ≡ item t left' → JudgesOne f p t p' → CameTo f start p' batch left'
came_on f start p p' batch left left' t h is one =
    let takes = one.takes in
    let longer = one_longer h.chunks takes.bytes in
    let longer_by = bytes_longer h.chunks takes.bytes in
    let taken : p'.taken ≡ start.taken + length (h.chunks ++ takes.bytes ∷ []) = (let a = takes.taken in let b = h.taken in omega arith) in
    let missing : p'.missing ≡ start.missing - length (concat (h.chunks ++ takes.bytes ∷ [])) = (let a = takes.missing in let b = h.missing in omega arith) in
    record {
      chunks = h.chunks ++ takes.bytes ∷ [];
      so_far = h.so_far ∙ ap (λ (ts : Items). behind_those h.chunks (all_judged f p.taken ts)) is
          ∙ ap (behind_those h.chunks) (in_order_first f p.taken t left' one.chunk takes.bytes one.is_document takes.in_order)
          ∙ behind_one h.chunks takes.bytes (all_judged f (suc p.taken) left')
          ∙ ap (λ (n : ℕ). behind_those (h.chunks ++ takes.bytes ∷ []) (all_judged f n left')) (sym takes.taken);
      taken = taken;
      few = takes.few;
      missing = missing;
    }

-- no item is left
pub came_all : (f : FileSizes) (start p : ReadPlace) (batch left : Items) → CameTo f start p batch left → left ≡ no_items → IsPlaceBehind f start batch p
came_all f start p batch left h is =
    record {
      chunks = h.chunks;
      in_order = h.so_far ∙ ap (λ (ts : Items). behind_those h.chunks (all_judged f p.taken ts)) is ∙ ap (λ (l : List (List ℕ)). Ok l) (append-nil h.chunks);
      taken = h.taken;
      few = h.few;
      missing = h.missing;
    }

-- the next one differs
pub came_differing : (f : FileSizes) (start p : ReadPlace) (batch left left' : Items) (t : Tree) (e : Error) → CameTo f start p batch left → left ≡ item t left' → ((more : Items) → all_judged f p.taken (item t more) ≡ Err e) → all_judged f start.taken batch ≡ Err e
came_differing f start p batch left left' t e h is differs =
    h.so_far ∙ ap (λ (ts : Items). behind_those h.chunks (all_judged f p.taken ts)) is ∙ ap (behind_those h.chunks) (differs left')

-- an item that is a document
pub judges_one : (f : FileSizes) (p p' : ReadPlace) (t : Tree) (d : Fields) → as_document t ≡ Some d → TakesChunk f p d p' → JudgesOne f p t p'
judges_one f p p' t d is takes = record { chunk = d; is_document = is; takes = takes }
