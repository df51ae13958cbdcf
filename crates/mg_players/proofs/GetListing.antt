-- What the list of a file's chunks says in a legal history.
use Rattle.std.proofs.Common.{◌≡◌, ◌++◌, ◌&&◌, ℕ, suc, pos, Bool, true, false, List, [], ◌∷◌, take, filter, Option, Some, None, Result, Ok, refl, sym, ap, ◌∙◌, subst, if◌then◌else◌}
use Rattle.std.specs.Prelude.{codes, option_and_then, slice_get, unwrap_or}
use Rattle.mg_bson.specs.Raw.{fields}
use Rattle.mg_bson.specs.Tree.{Fields, Items, Tree}
use Rattle.mg_server.specs.Calls.{Past}
use Rattle.mg_server.specs.Commands.{Batch, asked, asks_query, batch_of, documents_in}
use Rattle.mg_link.specs.Exec.{IsSuccess}
use Rattle.mg_server.specs.Files.{Bucket, by_number, chunks_space, file_of, has_value, with_value}
use Rattle.mg_server.specs.Filter.{Condition, matches, meets}
use Rattle.mg_server.specs.History.{IsLegal, Step, state_of}
use Rattle.mg_link.specs.Log.{Call}
use Rattle.mg_link.specs.Namespace.{Space}
use Rattle.mg_server.specs.Query.{Query, can_sort, result, sorted, through}
use Rattle.mg_server.specs.Reader.{KnowsRead, Reader}
use Rattle.mg_server.specs.Standing.{Stands}
use Rattle.mg_server.specs.State.{State}
use Rattle.mg_server.specs.Step.{documents_of}
use Rattle.mg_link.specs.declared.error.Error.{Error}
use Rattle.mg_link.specs.declared.error.Malformed.{Malformed}
use Rattle.mg_server.proofs.Owners.{same_some}
use Rattle.mg_ops.specs.Cursors.{batch_at}
use Rattle.mg_ops.specs.Naming.{IsNamed}
use Rattle.mg_ops.proofs.Asking.{asks_for_more}
use Rattle.mg_ops.proofs.Reading.{named_read}
use Rattle.mg_cursor.specs.Batches.{NoBatchIn}
use Rattle.mg_cursor.specs.Causes.{HeardMore}
use Rattle.mg_cursor.specs.Client.{ClientCursor, get_more}
use Rattle.mg_cursor.specs.Reading.{batch_documents}
use Rattle.mg_chunks.specs.Sizes.{chunk_count_of}
use Rattle.mg_records.specs.FileRecords.{FileRecord}
use Rattle.mg_gridfs.specs.Downloaded.{IsPlainAt, chunks_query}
use Rattle.mg_gridfs.proofs.Fronts.{all_known, all_opened, front_known, front_opened}
use Rattle.mg_gridfs.proofs.OpeningKnown.{listed_asks}
use Rattle.mg_players.specs.Buckets.{plain_bucket}
use Rattle.mg_players.specs.Gets.{GetTask, chunks_find}
use Rattle.mg_players.specs.Reading.{Differ, IsListOf, IsTold, ListsOther}
use Rattle.mg_players.proofs.Batches.{events_read, read_as}
use Rattle.mg_players.proofs.GetSteps.{GivesBatch, OpensBatch, TookStep, more_gives, query_opens, took}
use Rattle.mg_players.proofs.Naming.{files_named}
use Rattle.mg_players.proofs.Prompting.{lawful_at}

-- ---- the chunks that stood

and_true : (t : Bool) → (t && true) ≡ t
and_true true = refl
and_true false = refl

pub those_same : (c : Condition) (ds : List Fields) → filter (matches (c ∷ [])) ds ≡ filter (meets c) ds
those_same c [] = refl
those_same c (d ∷ ds) =
    ap (λ (t : Bool). if t then d ∷ filter (matches (c ∷ [])) ds else filter (matches (c ∷ [])) ds) (and_true (meets c d))
    ∙ ap (λ (l : List Fields). if meets c d then d ∷ l else l) (those_same c ds)

sorted_so : (t : Bool) (xs ds : List Fields) → option_and_then (through []) (if t then Some xs else None) ≡ Some ds → xs ≡ ds
sorted_so true xs ds is = same_some xs ds is
sorted_so false xs ds is = absurd cc

chunks_result : (s : State) (space : Space) (id : Tree) (ds : List Fields) → result s (chunks_query space id) ≡ Some ds → sorted by_number (with_value (codes "files_id") id (documents_of s space)) ≡ ds
unfolding result
chunks_result s space id ds is =
    let c = has_value (codes "files_id") id in
    let xs = filter (matches (c ∷ [])) (documents_of s space) in
    ap (sorted by_number) (sym (those_same c (documents_of s space))) ∙ sorted_so (can_sort by_number xs) (sorted by_number xs) ds is

pub chunks_are : (s : State) (at : Bucket) (id : Tree) (ds : List Fields) → result s (chunks_query (chunks_space at) id) ≡ Some ds → (file_of s at id).chunks ≡ ds
unfolding file_of
chunks_are s at id ds is = chunks_result s (chunks_space at) id ds is

-- ---- the bucket of a get

pub bucket_is_plain : (g : GetTask) → IsNamed (chunks_space g.at) → IsPlainAt (plain_bucket g.at) g.at
bucket_is_plain g named = record { named = record { place = record { files = refl; chunks = refl }; files = files_named g.at named.db; chunks = named }; no_concern = refl; no_criteria = refl }

pub list_asks : (g : GetTask) (id : Tree) (command : List ℕ) → IsNamed (chunks_space g.at) → fields command ≡ chunks_find g id → asked command ≡ asks_query (chunks_query (chunks_space g.at) id)
list_asks g id command named is = listed_asks (plain_bucket g.at) g.at (bucket_is_plain g named).named id command is

-- ---- batches

-- a cursor that a reply told names a collection
pub told_named : (past : Past) (c : ClientCursor) → IsTold past c → IsNamed c.space
told_named past c t = subst IsNamed (sym t.space_is) (named_read (fields t.bytes) t.said t.says)

module _ (past : Past) (history : List Step) (legal : IsLegal history) (stands : Stands past.calls history) where
  -- the step of a list of chunks
  pub list_step : (g : GetTask) (f : FileRecord) (c : ClientCursor) (bytes : List ℕ) → IsNamed (chunks_space g.at) → (l : IsListOf past g f c bytes) → (t : TookStep history (chunks_find g f.id) bytes l.heard.heard.call) × OpensBatch t.step (state_of (take t.position history)) (chunks_query (chunks_space g.at) f.id)
  list_step g f c bytes named l =
      let t = took past history stands (chunks_find g f.id) bytes l.heard in
      (t, query_opens t.step (lawful_at history t.position t.step legal t.there) (subst IsSuccess t.reply_is l.success) (chunks_query (chunks_space g.at) f.id) (list_asks g f.id t.step.command named t.command_is))

  -- the step of a getMore
  pub more_step : (c : ClientCursor) (bytes : List ℕ) → IsNamed c.space → (h : HeardMore past c bytes) → (t : TookStep history (get_more c h.session) bytes h.heard.heard.call) × GivesBatch t.step (state_of (take t.position history)) c.id
  more_step c bytes named h =
      let t = took past history stands (get_more c h.session) bytes h.heard in
      (t, more_gives t.step (lawful_at history t.position t.step legal t.there) (subst IsSuccess t.reply_is h.success) c.id c.space (asks_for_more t.step.command c.id c.space c.manner.size c.manner.wait c.manner.comment h.session named t.command_is))

-- ---- what is received is what stands there

-- the documents received first are the first of the chunks that stood; where these differ from the record, the list says so
module _ (calls : List Call) (at : Bucket) (f : FileRecord) (listed : ℕ) (r : Reader) (k : KnowsRead calls r) (none_lost : r.losses ≡ 0) (queries : r.query ≡ chunks_query (chunks_space at) f.id) (asked_at : r.opened ≡ listed) where
  pub differs_by : IsNamed (chunks_space at) → (count : ℕ) → chunk_count_of f.length f.chunk_size ≡ Ok count → (e : Error)
      → ((left : List Fields) (history : List Step) → IsLegal history → Stands calls history → (r.cursor ≡ pos 0 → r.query.single ≡ false → r.refused ≡ false → left ≡ []) → Differ f count ((r.given ++ r.ahead) ++ left) e) → ListsOther calls at f listed e
  differs_by named count counted e differ =
      record {
        named = named;
        call = k.opened.call;
        there = subst (λ (n : ℕ). slice_get calls n ≡ Some k.opened.call) asked_at k.opened.found;
        asks = subst (λ (q : Query). asked k.opened.call.command ≡ asks_query q) queries k.opened.queries;
        bytes = k.opened.bytes;
        heard = k.opened.heard;
        count = count;
        counted = counted;
        differ = λ history legal stands.
            let placed = stands.placed r.opened k.opened.call k.opened.bytes k.opened.found k.opened.heard in
            let position : ℕ = placed.0 in
            let front = front_known calls r (r.given ++ r.ahead) k none_lost refl in
            let y = front.each history legal stands in
            let at_same : y.0 ≡ position = same_some y.0 position (sym y.1 ∙ ap (λ (c : Call). c.position) (same_call front.place front.call front.found (front_opened calls r (r.given ++ r.ahead) k none_lost refl)) ∙ placed.1) in
            let read_is : result (state_of (take (suc position) history)) (chunks_query (chunks_space at) f.id) ≡ Some ((r.given ++ r.ahead) ++ y.2)
            = subst (λ (q : Query). result (state_of (take (suc position) history)) q ≡ Some ((r.given ++ r.ahead) ++ y.2)) queries (subst (λ (m : ℕ). result (state_of (take (suc m) history)) r.query ≡ Some ((r.given ++ r.ahead) ++ y.2)) at_same y.3) in
            let stood = chunks_are (state_of (take (suc position) history)) at f.id ((r.given ++ r.ahead) ++ y.2) read_is in (
              position,
              placed.1,
              subst (λ (ds : List Fields). Differ f count ds e) (sym stood)
                  (differ y.2 history legal stands
                  (λ none many fine.
                  let whole_front = all_known calls r (r.given ++ r.ahead) k none_lost refl many fine none in
                  let x = whole_front.each history legal stands in
                  let same_too : x.0 ≡ position = same_some x.0 position (sym x.1 ∙ ap (λ (c : Call). c.position) (same_call whole_front.place whole_front.call whole_front.found (all_opened calls r (r.given ++ r.ahead) k none_lost refl many fine none)) ∙ placed.1) in
                  let both : Some ((r.given ++ r.ahead) ++ y.2) ≡ Some ((r.given ++ r.ahead) ++ x.2)
                  = sym y.3 ∙ ap (λ (m : ℕ). result (state_of (take (suc m) history)) r.query) (at_same ∙ sym same_too) ∙ x.3 in
                  same_tail (r.given ++ r.ahead) y.2 x.2 (same_some ((r.given ++ r.ahead) ++ y.2) ((r.given ++ r.ahead) ++ x.2) both) ∙ x.4 refl)),
            );
      }
    where
      same_call : (place : ℕ) (call : Call) → slice_get calls place ≡ Some call → place ≡ r.opened → call ≡ k.opened.call
      same_call place call found is = same_some call k.opened.call (sym found ∙ ap (λ (n : ℕ). slice_get calls n) is ∙ k.opened.found)

      same_tail : (xs ys zs : List Fields) → xs ++ ys ≡ xs ++ zs → ys ≡ zs
      same_tail [] ys zs is = is
      same_tail (x ∷ xs) ys zs is = same_tail xs ys zs (let e : x ∷ (xs ++ ys) ≡ x ∷ (xs ++ zs) = is in cc)

-- ---- the documents of a batch

-- the events of a reply that has a batch
pub documents_same : (bytes : List ℕ) (b : Batch) → batch_of (fields bytes) ≡ Some b → batch_documents bytes ≡ b.events
documents_same bytes b there = ap (λ (o : Option (List Fields)). unwrap_or o []) (events_read bytes b there)

-- as they are read
pub documents_there : (bytes : List ℕ) (b : Batch) (batch : Items) → batch_of (fields bytes) ≡ Some b → batch_at (fields bytes) ≡ Ok batch → documents_in batch ≡ Some (batch_documents bytes)
documents_there bytes b batch there at =
    let r = read_as (fields bytes) b there in
    let same : r.it.batch ≡ batch = same_ok r.it.batch batch (sym r.items_are ∙ at) in
    ap documents_in (sym same) ∙ r.documents_are ∙ ap (λ (l : List Fields). Some l) (sym (documents_same bytes b there))
  where
    same_ok : (x y : Items) → ◌≡◌ {A = Result Items Malformed} (Ok x) (Ok y) → x ≡ y
    same_ok x y e = cc

-- such a reply has its batch
pub batch_there : (bytes : List ℕ) (b : Batch) (e : Error) → batch_of (fields bytes) ≡ Some b → NoBatchIn (fields bytes) e → ⊥
batch_there bytes b e there none = let r = read_as (fields bytes) b there in let a = r.items_are in let c = none.says in cc
