-- Chunks that are not what their record says: which of a batch differs first, and that those of a whole file do not.
use Rattle.std.proofs.Common.{◌≡◌, ◌<◌, ◌≤◌, ◌++◌, ◌+◌, ◌-◌, ℕ, suc, List, [], ◌∷◌, length, take, Option, Some, Result, Ok, Err, refl, sym, ap, ◌∙◌, subst, arith, append_assoc, length-append}
use Rattle.std.specs.Prelude.{slice_get}
use Rattle.std.specs.List.{concat}
use Rattle.std.proofs.lemmas.List.Folds.{concat-append}
use Rattle.mg_bson.specs.Find.{as_document}
use Rattle.mg_bson.specs.Tree.{Fields, Items, Tree, item, no_items}
use Rattle.mg_server.specs.Commands.{documents_in}
use Rattle.mg_link.specs.Chunks.{chunked}
use Rattle.mg_server.specs.Files.{AreChunks, Bucket, File, IsChunk, IsWhole, LeavesFile, file_of}
use Rattle.mg_server.specs.History.{IsLegal, Step, state_of}
use Rattle.mg_link.specs.Log.{Call}
use Rattle.mg_server.specs.Standing.{Stands}
use Rattle.mg_link.specs.declared.error.Error.{Error}
use Rattle.mg_link.specs.declared.error.Malformed.TheVariants as malformed
use Rattle.mg_server.proofs.Files.{chunks_join, quiet_stays}
use Rattle.mg_link.proofs.Places.{get_seam, get_within}
use Rattle.mg_chunks.specs.Sizes.{chunk_count, chunk_count_of, chunk_length}
use Rattle.mg_records.specs.FileRecords.{FileRecord, file_record_of}
use Rattle.mg_gridfs.specs.Downloaded.{AreReceived}
use Rattle.mg_gridfs.specs.DownloadLaws.{IsBetween}
use Rattle.mg_chunks.specs.Chunks.{all_judged, and_then, judged, needed_as}
use Rattle.mg_gridfs.specs.Downloads.{sizes_of}
use Rattle.mg_gridfs.proofs.Received.{received_behind}
use Rattle.mg_players.specs.Files.{FirstHold, ListsSo}
use Rattle.mg_players.specs.Reading.{Differ, ListsOther, miscounted, one_differs}
use Rattle.mg_players.proofs.GetJudged.{WholeSays, are_cut, chunk_fine, chunks_many, count_said, paired, whole_counts, whole_says}

-- ---- the first that differs

-- one of these documents, which are to be chunks from a number on, is the first that differs
pub record FirstOther (f : FileRecord) (n : ℕ) (documents : List Fields) (e : Error) : Type 0 where
  pub before : List Fields
  pub chunks : List (List ℕ)
  pub d : Fields
  pub left : List Fields
  pub these : documents ≡ before ++ d ∷ left
  pub received : AreReceived f n chunks before
  pub other : judged (sizes_of f) (n + length chunks) d ≡ Err e

same_errors : (x y : Error) → ◌≡◌ {A = Result (List (List ℕ)) Error} (Err x) (Err y) → x ≡ y
same_errors x y is = cc

-- it is the first document, or one behind it
behind_first : (f : FileRecord) (n : ℕ) (ts : Items) (d : Fields) (more : List Fields) (e : Error) (c : List ℕ) → judged (sizes_of f) n d ≡ Ok c → (q : Result (List (List ℕ)) Error) → all_judged (sizes_of f) (suc n) ts ≡ q → and_then q (λ (cs : List (List ℕ)). Ok (c ∷ cs)) ≡ Err e
    → (all_judged (sizes_of f) (suc n) ts ≡ Err e → FirstOther f (suc n) more e) → FirstOther f n (d ∷ more) e
behind_first f n ts d more e c is (Ok cs) at bad go = absurd cc
behind_first f n ts d more e c is (Err x) at bad go =
    let same : x ≡ e = same_errors x e bad in
    let r = go (subst (λ (y : Error). all_judged (sizes_of f) (suc n) ts ≡ Err y) same at) in
    let number : suc n + length r.chunks ≡ n + suc (length r.chunks) = omega arith in
    record {
      before = d ∷ r.before;
      chunks = c ∷ r.chunks;
      d = r.d;
      left = r.left;
      these = ap (λ (l : List Fields). d ∷ l) r.these;
      received = (is, r.received);
      other = subst (λ (m : ℕ). judged (sizes_of f) m r.d ≡ Err e) number r.other;
    }

next_other : (f : FileRecord) (n : ℕ) (ts : Items) (d : Fields) (more : List Fields) (e : Error) (r : Result (List ℕ) Error) → judged (sizes_of f) n d ≡ r → and_then r (λ (c : List ℕ). and_then (all_judged (sizes_of f) (suc n) ts) (λ (cs : List (List ℕ)). Ok (c ∷ cs))) ≡ Err e
    → (all_judged (sizes_of f) (suc n) ts ≡ Err e → FirstOther f (suc n) more e) → FirstOther f n (d ∷ more) e
next_other f n ts d more e (Ok c) is bad go = behind_first f n ts d more e c is (all_judged (sizes_of f) (suc n) ts) refl bad go
next_other f n ts d more e (Err x) is bad go =
    let same : x ≡ e = same_errors x e bad in
    let number : n ≡ n + 0 = omega arith in
    record {
      before = [];
      chunks = [];
      d = d;
      left = more;
      these = refl;
      received = tt;
      other = subst (λ (m : ℕ). judged (sizes_of f) m d ≡ Err e) number (subst (λ (y : Error). judged (sizes_of f) n d ≡ Err y) same is);
    }

first_other : (f : FileRecord) (n : ℕ) (batch : Items) (documents : List Fields) (e : Error) → documents_in batch ≡ Some documents → all_judged (sizes_of f) n batch ≡ Err e → FirstOther f n documents e
first_other f n no_items documents e these bad = absurd cc
first_other f n (item t ts) documents e these bad =
    let p = paired (as_document t) (documents_in ts) documents these in
    let here : and_then (judged (sizes_of f) n p.x) (λ (c : List ℕ). and_then (all_judged (sizes_of f) (suc n) ts) (λ (cs : List (List ℕ)). Ok (c ∷ cs))) ≡ Err e
    = sym (ap (λ (o : Option Fields). and_then (needed_as malformed.BadItem o) (λ (d : Fields). and_then (judged (sizes_of f) n d) (λ (c : List ℕ). and_then (all_judged (sizes_of f) (suc n) ts) (λ (cs : List (List ℕ)). Ok (c ∷ cs))))) p.first_is) ∙ bad in
    subst (λ (l : List Fields). FirstOther f n l e) p.these (next_other f n ts p.x p.more e (judged (sizes_of f) n p.x) refl here (λ worse. first_other f (suc n) ts p.more e p.rest_is worse))

-- so it is where a batch comes behind those that were received
pub batch_differs : (f : FileRecord) (count : ℕ) (chunks : List (List ℕ)) (given documents tail left : List Fields) → AreReceived f 0 chunks given → (batch : Items) → documents_in batch ≡ Some documents → (e : Error) → all_judged (sizes_of f) (length chunks) batch ≡ Err e
    → Differ f count (((given ++ documents) ++ tail) ++ left) e
batch_differs f count chunks given documents tail left are batch these e bad =
    let o = first_other f (length chunks) batch documents e these bad in
    let number : length chunks ≡ 0 + length chunks = omega arith in
    let behind = received_behind f 0 chunks o.chunks given o.before are (subst (λ (n : ℕ). AreReceived f n o.chunks o.before) number o.received) in
    let parts : ((given ++ documents) ++ tail) ++ left ≡ (given ++ o.before) ++ o.d ∷ (o.left ++ (tail ++ left))
    = append_assoc (given ++ documents) tail left
    ∙ append_assoc given documents (tail ++ left)
    ∙ ap (λ (l : List Fields). given ++ (l ++ (tail ++ left))) o.these
    ∙ ap (λ (l : List Fields). given ++ l) (append_assoc o.before (o.d ∷ o.left) (tail ++ left))
    ∙ sym (append_assoc given o.before (o.d ∷ (o.left ++ (tail ++ left)))) in
    one_differs (given ++ o.before) (chunks ++ o.chunks) o.d (o.left ++ (tail ++ left)) parts behind (subst (λ (n : ℕ). judged (sizes_of f) n o.d ≡ Err e) (sym (length-append chunks o.chunks)) o.other)

-- ---- a whole file

-- as many documents as chunks
received_many : (f : FileRecord) (n : ℕ) (cs : List (List ℕ)) (ds : List Fields) → AreReceived f n cs ds → length cs ≡ length ds
received_many f n [] [] a = refl
received_many f n [] (d ∷ ds) a = absurd a
received_many f n (c ∷ cs) [] a = absurd a
received_many f n (c ∷ cs) (d ∷ ds) a = ap suc (received_many f (suc n) cs ds a.1)

module _ (f : FileRecord) (count : ℕ) (whole : List ℕ) (size : ℕ) (long : length whole ≡ f.length) (same : size ≡ f.chunk_size) (some : 0 < f.chunk_size) (counts : chunk_count_of f.length f.chunk_size ≡ Ok count) where
  -- the one that stands there is as it should be
  fine_at : (before rest : List (List ℕ)) (c : List ℕ) (d : Fields) → chunked size whole ≡ before ++ c ∷ rest → IsChunk (length before) c d → judged (sizes_of f) (length before) d ≡ Ok c
  fine_at before rest c d these is =
      let cut = whole_counts whole size f long same some in
      let there : slice_get (chunked size whole) (length before) ≡ Some c = ap (λ (l : List (List ℕ)). slice_get l (length before)) these ∙ get_seam before rest c in
      let expected : length c ≡ chunk_length f.length f.chunk_size (length before)
      = cut.each (length before) c there ∙ ap (λ (m : ℕ). chunk_length m size (length before)) long ∙ ap (λ (m : ℕ). chunk_length f.length m (length before)) same in
      chunk_fine f (length before) c d count is counts expected

  -- those that were received are the first
  first_are : (before rest cs : List (List ℕ)) (ds left : List Fields) → chunked size whole ≡ before ++ rest → AreReceived f (length before) cs ds → AreChunks (length before) rest (ds ++ left) → (tail : List (List ℕ)) × (rest ≡ cs ++ tail)
  first_are before rest [] [] left these got are = (rest, refl)
  first_are before rest [] (d ∷ ds) left these got are = absurd got
  first_are before rest (c ∷ cs) [] left these got are = absurd got
  first_are before [] (c ∷ cs) (d ∷ ds) left these got are = absurd are
  first_are before (x ∷ rest) (c ∷ cs) (d ∷ ds) left these got are =
      let both : ◌≡◌ {A = Result (List ℕ) Error} (Ok x) (Ok c) = sym (fine_at before rest x d these are.0) ∙ got.0 in
      let one : x ≡ c = cc in
      let number : suc (length before) ≡ length (before ++ x ∷ []) = (let l = length-append before (x ∷ []) in omega (arith, l)) in
      let r = first_are (before ++ x ∷ []) rest cs ds left (these ∙ sym (append_assoc before (x ∷ []) rest)) (subst (λ (n : ℕ). AreReceived f n cs ds) number got.1) (subst (λ (n : ℕ). AreChunks n rest (ds ++ left)) number are.1) in
      (r.0, ap (λ (y : List ℕ). y ∷ rest) one ∙ ap (λ (l : List (List ℕ)). c ∷ l) r.1)

  -- so its bytes begin with theirs
  pub first_bytes : (bytes : List ℕ) (stood : List Fields) → FirstHold f bytes stood → AreChunks 0 (chunked size whole) stood → (left : List ℕ) × (whole ≡ bytes ++ left)
  first_bytes bytes stood h are =
      let r = first_are [] (chunked size whole) h.chunks h.documents h.left refl h.received (subst (AreChunks 0 (chunked size whole)) h.cut are) in
      (concat r.0, sym (chunks_join size whole) ∙ ap (λ (l : List (List ℕ)). concat l) r.1 ∙ concat-append h.chunks r.0 ∙ ap (λ (l : List ℕ). l ++ concat r.0) h.together)

  never_other : (before rest : List (List ℕ)) (n : ℕ) (d : Fields) (left : List Fields) (e : Error) → chunked size whole ≡ before ++ rest → length before ≡ n → AreChunks (length before) rest (d ∷ left) → judged (sizes_of f) n d ≡ Err e → ⊥
  never_other before [] n d left e these number are bad = absurd are
  never_other before (c ∷ cs) n d left e these number are bad =
      let fine = fine_at before cs c d these are.0 in
      let both : ◌≡◌ {A = Result (List ℕ) Error} (Ok c) (Err e) = sym fine ∙ ap (λ (m : ℕ). judged (sizes_of f) m d) number ∙ bad in
      cc

  -- no chunk of a whole file differs, and there are as many as its record says
  pub never_differ : (stood : List Fields) (e : Error) → AreChunks 0 (chunked size whole) stood → Differ f count stood e → ⊥
  never_differ stood e are (one_differs before chunks d left is received bad) =
      let cut = are_cut (chunked size whole) before (d ∷ left) (subst (AreChunks 0 (chunked size whole)) is are) in
      never_other cut.before cut.rest (length chunks) d left e cut.these (cut.long ∙ sym (received_many f 0 chunks before received)) cut.are bad
  never_differ stood e are (miscounted chunks received other is) =
      let cut = whole_counts whole size f long same some in
      let total : chunk_count (length whole) size ≡ chunk_count f.length f.chunk_size = ap (λ (n : ℕ). chunk_count n size) long ∙ ap (λ (n : ℕ). chunk_count f.length n) same in
      other (received_many f 0 chunks stood received ∙ sym (chunks_many 0 (chunked size whole) stood are) ∙ cut.count ∙ total ∙ sym (count_said f.length f.chunk_size count counts))

-- Of a file that was whole, with this record, and that nobody touched until its chunks were listed, those that stood there are its own.
module _ (calls : List Call) (at : Bucket) (id : Tree) (f : FileRecord) (listed : ℕ) (history : List Step) (stands : Stands calls history) (whole : List ℕ) (size from upto : ℕ) (w : IsWhole (state_of (take from history)) at id whole size) (read : file_record_of w.record_of ≡ Ok f)
    (leaves : (position : ℕ) (step : Step) → from ≤ position → position < upto → slice_get history position ≡ Some step → LeavesFile (state_of (take position history)) step at id) (between : IsBetween calls from upto listed) (call : Call) (found_so : slice_get calls listed ≡ Some call) (position : ℕ) (placed : call.position ≡ Some position) where
  abbrev its_sizes : WholeSays (state_of (take from history)) at id whole size f
  its_sizes = whole_says (state_of (take from history)) at id whole size f w read

  stood_so : AreChunks 0 (chunked size whole) (file_of (state_of (take (suc position) history)) at f.id).chunks
  stood_so =
      let here = between call position found_so placed in
      let low = here.0 in
      let high = here.1 in
      let step = stands.same listed call position found_so placed in
      let within : position < length history = get_within history position step.0 step.1 in
      let n : ℕ = suc position - from in
      let all : from + n ≡ suc position = omega (arith, low) in
      let same : file_of (state_of (take (suc position) history)) at id ≡ file_of (state_of (take from history)) at id
      = subst (λ (m : ℕ). file_of (state_of (take m history)) at id ≡ file_of (state_of (take from history)) at id) all
      (quiet_stays history at id from n (omega (arith, all, within)) (λ p own lower higher found. leaves p own lower (omega (arith, all, high, higher)) found)) in
      let chunks_are : (file_of (state_of (take from history)) at id).chunks ≡ (file_of (state_of (take (suc position) history)) at f.id).chunks
      = ap (λ (x : File). x.chunks) (sym same) ∙ ap (λ (x : File). x.chunks) (sym (its_sizes.one (state_of (take (suc position) history)))) in
      subst (AreChunks 0 (chunked size whole)) chunks_are w.chunks_are

module _ (calls : List Call) (at : Bucket) (id : Tree) (f : FileRecord) (listed : ℕ) where
  -- so they are not other than its record says
  pub whole_never : (e : Error) → ListsOther calls at f listed e → (history : List Step) → IsLegal history → Stands calls history → (whole : List ℕ) (size from upto : ℕ) (w : IsWhole (state_of (take from history)) at id whole size) → file_record_of w.record_of ≡ Ok f
      → ((position : ℕ) (step : Step) → from ≤ position → position < upto → slice_get history position ≡ Some step → LeavesFile (state_of (take position history)) step at id) → IsBetween calls from upto listed → ⊥
  whole_never e o history legal stands whole size from upto w read leaves between =
      let there = o.differ history legal stands in
      let says = whole_says (state_of (take from history)) at id whole size f w read in
      never_differ f o.count whole size says.length_is says.size_is says.some o.counted (file_of (state_of (take (suc there.0) history)) at f.id).chunks e
      (stood_so calls at id f listed history stands whole size from upto w read leaves between o.call o.there there.0 there.1) there.2

  -- and its bytes begin with those of the first of them
  pub whole_begins : (bytes : List ℕ) (count : ℕ) → chunk_count_of f.length f.chunk_size ≡ Ok count → ListsSo calls at f listed (FirstHold f bytes) → (history : List Step) → IsLegal history → Stands calls history → (whole : List ℕ) (size from upto : ℕ) (w : IsWhole (state_of (take from history)) at id whole size) → file_record_of w.record_of ≡ Ok f
      → ((position : ℕ) (step : Step) → from ≤ position → position < upto → slice_get history position ≡ Some step → LeavesFile (state_of (take position history)) step at id) → IsBetween calls from upto listed → (left : List ℕ) × (whole ≡ bytes ++ left)
  whole_begins bytes count counts l history legal stands whole size from upto w read leaves between =
      let there = l.each history legal stands in
      let says = whole_says (state_of (take from history)) at id whole size f w read in
      first_bytes f count whole size says.length_is says.size_is says.some counts bytes (file_of (state_of (take (suc there.0) history)) at f.id).chunks there.2
      (stood_so calls at id f listed history stands whole size from upto w read leaves between l.asked_so.call l.asked_so.there there.0 there.1)
