-- The chunks of a put's file that an insert holds, and their documents.
use Rattle.std.proofs.Common.{◌≡◌, ◌≢◌, ◌<◌, ◌≤◌, ◌+◌, ◌*◌, ◌^◌, ℕ, suc, List, [], ◌∷◌, ◌++◌, length, refl, sym, ap, ◌∙◌, subst, arith, add-mul, append-nil, append_assoc, length-append}
use Rattle.mg_bson.specs.Tree.{Fields, Tree}
use Rattle.mg_link.specs.Chunks.{chunked, last_chunk}
use Rattle.mg_server.proofs.Chunking.{chunked-append, chunked_short, length-chunked}
use Rattle.mg_options.specs.Fields.{fields_in}
use Rattle.mg_ops.specs.Limits.{max_documents}
use Rattle.mg_gridfs.specs.Commands.{chunk_documents, chunks_lines}
use Rattle.mg_players.specs.PutSends.{AreNextChunks, InsertsChunks, file_chunks}
use Rattle.mg_players.specs.Puts.{ComeNext, PutTask, Supply, joined, put_bucket}

some_last : (bs : List ℕ) → bs ≢ [] → last_chunk bs ≡ bs ∷ []
some_last [] some = absurd (some refl)
some_last (b ∷ bs) some = refl

-- each chunk is one document
pub chunk_count : (ids : ℕ → List ℕ) (k : ℕ) (file : Tree) (n : ℕ) (chunks : List (List ℕ)) → length (chunk_documents ids k file n chunks) ≡ length chunks
chunk_count ids k file n [] = refl
chunk_count ids k file n (chunk ∷ chunks) = ap suc (chunk_count ids (suc k) file (suc n) chunks)

module _ (supply : Supply) (t : PutTask) (room : 0 < t.chunk) (from : ℕ) (front : List ℕ) (even : length front ≡ from * t.chunk) where
  -- full chunks that come next
  pub full_inserts : (count : ℕ) (these rest : List ℕ) → 0 < count → from + count ≤ 2 ^ 31 → joined t.pieces ≡ front ++ these ++ rest → length these ≡ count * t.chunk → (ids : ℕ → List ℕ) → ComeNext supply t ids from → (command : Fields) → command ≡ fields_in (chunks_lines (put_bucket t) (chunk_documents ids 0 t.id from (chunked t.chunk these))) → InsertsChunks supply t from (from + count) command
  full_inserts count these rest some small parts full ids come command is =
      let F : List (List ℕ) = chunked t.chunk front in
      let P : List (List ℕ) = chunked t.chunk these in
      let R : List (List ℕ) = chunked t.chunk rest in
      let both : length (front ++ these) ≡ (from + count) * t.chunk = length-append front these ∙ ap (λ (n : ℕ). n + length these) even ∙ ap (λ (n : ℕ). from * t.chunk + n) full ∙ sym (add-mul from count t.chunk) in
      let many : length P ≡ count = length-chunked count t.chunk these room full in
      record {
        front = F;
        piece = P;
        rest = R;
        parts = ap (λ (l : List ℕ). chunked t.chunk l) parts ∙ chunked-append (from + count) t.chunk (front ++ these) rest room both ∙ ap (λ (l : List (List ℕ)). l ++ R) (chunked-append from t.chunk front these room even) ∙ append_assoc F P R;
        behind = length-chunked from t.chunk front room even;
        some = subst (λ (n : ℕ). 0 < n) (sym many) some;
        next = ap (λ (n : ℕ). from + n) many;
        small = small;
        ids = ids;
        drawn = come;
        command_is = is;
      }

  -- the documents of the same
  pub full_documents : (count : ℕ) (these rest : List ℕ) → 0 < count → count ≤ max_documents → joined t.pieces ≡ front ++ these ++ rest → length these ≡ count * t.chunk → (ids : ℕ → List ℕ) → ComeNext supply t ids from → (documents : List Fields) → documents ≡ chunk_documents ids 0 t.id from (chunked t.chunk these) → AreNextChunks supply t from documents
  full_documents count these rest some few parts full ids come documents is =
      let F : List (List ℕ) = chunked t.chunk front in
      let P : List (List ℕ) = chunked t.chunk these in
      let R : List (List ℕ) = chunked t.chunk rest in
      let both : length (front ++ these) ≡ (from + count) * t.chunk = length-append front these ∙ ap (λ (n : ℕ). n + length these) even ∙ ap (λ (n : ℕ). from * t.chunk + n) full ∙ sym (add-mul from count t.chunk) in
      let many : length P ≡ count = length-chunked count t.chunk these room full in
      record {
        front = F;
        piece = P;
        rest = R;
        parts = ap (λ (l : List ℕ). chunked t.chunk l) parts ∙ chunked-append (from + count) t.chunk (front ++ these) rest room both ∙ ap (λ (l : List (List ℕ)). l ++ R) (chunked-append from t.chunk front these room even) ∙ append_assoc F P R;
        behind = length-chunked from t.chunk front room even;
        some = subst (λ (n : ℕ). 0 < n) (sym many) some;
        few = subst (λ (n : ℕ). n ≤ max_documents) (sym many) few;
        ids = ids;
        drawn = come;
        these = is;
      }

  -- what is left behind them is one
  pub last_count : (left : List ℕ) → joined t.pieces ≡ front ++ left → left ≢ [] → length left < t.chunk → from + 1 ≡ length (file_chunks t)
  last_count left parts some short =
      let F : List (List ℕ) = chunked t.chunk front in
      let cut : file_chunks t ≡ F ++ left ∷ [] = ap (λ (l : List ℕ). chunked t.chunk l) parts ∙ chunked-append from t.chunk front left room even ∙ ap (λ (l : List (List ℕ)). F ++ l) (chunked_short t.chunk left short ∙ some_last left some) in
      ap (λ (n : ℕ). n + 1) (sym (length-chunked from t.chunk front room even)) ∙ sym (length-append F (left ∷ [])) ∙ ap length (sym cut)

  -- as the last one
  pub last_inserts : (left : List ℕ) → from + 1 ≤ 2 ^ 31 → joined t.pieces ≡ front ++ left → left ≢ [] → length left < t.chunk → (ids : ℕ → List ℕ) → ComeNext supply t ids from → (command : Fields) → command ≡ fields_in (chunks_lines (put_bucket t) (chunk_documents ids 0 t.id from (left ∷ []))) → InsertsChunks supply t from (length (file_chunks t)) command
  last_inserts left small parts some short ids come command is =
      let F : List (List ℕ) = chunked t.chunk front in
      let cut : file_chunks t ≡ F ++ left ∷ [] = ap (λ (l : List ℕ). chunked t.chunk l) parts ∙ chunked-append from t.chunk front left room even ∙ ap (λ (l : List (List ℕ)). F ++ l) (chunked_short t.chunk left short ∙ some_last left some) in
      let next : from + 1 ≡ length (file_chunks t) = last_count left parts some short in
      record {
        front = F;
        piece = left ∷ [];
        rest = [];
        parts = cut;
        behind = length-chunked from t.chunk front room even;
        some = omega arith;
        next = next;
        small = subst (λ (n : ℕ). n ≤ 2 ^ 31) next small;
        ids = ids;
        drawn = come;
        command_is = is;
      }

  pub last_documents : (left : List ℕ) → joined t.pieces ≡ front ++ left → left ≢ [] → length left < t.chunk → (ids : ℕ → List ℕ) → ComeNext supply t ids from → (documents : List Fields) → documents ≡ chunk_documents ids 0 t.id from (left ∷ []) → AreNextChunks supply t from documents
  last_documents left parts some short ids come documents is =
      let F : List (List ℕ) = chunked t.chunk front in
      record {
        front = F;
        piece = left ∷ [];
        rest = [];
        parts = ap (λ (l : List ℕ). chunked t.chunk l) parts ∙ chunked-append from t.chunk front left room even ∙ ap (λ (l : List (List ℕ)). F ++ l) (chunked_short t.chunk left short ∙ some_last left some);
        behind = length-chunked from t.chunk front room even;
        some = omega arith;
        few = omega arith;
        ids = ids;
        drawn = come;
        these = is;
      }

  -- where nothing is left they are all
  pub all_full : joined t.pieces ≡ front ++ [] → from ≡ length (file_chunks t)
  all_full parts = sym (ap (λ (l : List ℕ). length (chunked t.chunk l)) (parts ∙ append-nil front) ∙ length-chunked from t.chunk front room even)
