-- The file of a put that ended well, as a get of it finds it.
use Rattle.std.proofs.Common.{◌≡◌, ◌<◌, ◌≤◌, ◌++◌, [], ◌∷◌, ℕ, suc, ℤ, pos, List, Some, None, length, take, refl, sym, ap, ◌∙◌, subst, inr, arith}
use Rattle.std.specs.Prelude.{◌^◌}
use Rattle.std.specs.List.{concat}
use Rattle.std.proofs.lemmas.List.{take_all}
use Rattle.mg_bson.specs.Tree.{Fields, Tree}
use Rattle.mg_link.specs.Chunks.{chunked}
use Rattle.mg_link.specs.Link.{Awaited}
use Rattle.mg_link.specs.Log.{Call}
use Rattle.mg_link.proofs.Places.{get_within}
use Rattle.mg_server.specs.Files.{AreChunks, Bucket, File, LeavesFile, file_of}
use Rattle.mg_server.specs.Filing.{whole_with}
use Rattle.mg_server.specs.History.{IsLegal, Step, state_of}
use Rattle.mg_server.specs.Standing.{Stands}
use Rattle.mg_gridfs.specs.Uploads.{record_of}
use Rattle.mg_gridfs.proofs.Holding.{record_is_read}
use Rattle.mg_players.specs.Causes.{Course, PutEnds}
use Rattle.mg_players.specs.Files.{IsFirstStepOf, IsLastStepOf, OthersLeave}
use Rattle.mg_players.specs.Gets.{GetTask}
use Rattle.mg_players.specs.PutSends.{ChunkPieces, file_chunks}
use Rattle.mg_players.specs.Puts.{PutTask, Supply, joined, put_aim}
use Rattle.mg_script.specs.declared.outcome.Ended.TheVariants as ended
use Rattle.mg_jobs.specs.Completing.{FileIsOf, StandsWhole}
use Rattle.mg_jobs.proofs.Behind.{stays_until}
use Rattle.mg_jobs.proofs.Filed.{left_behind, others_leave}

-- ---- how many chunks

-- inserted chunks are no more than a file may have
few_chunks : (supply : Supply) (t : PutTask) (from : ℕ) (commands : List Fields) (upto : ℕ) → from ≤ 2 ^ 31 → ChunkPieces supply t from commands upto → upto ≤ 2 ^ 31
few_chunks supply t from [] upto few same = omega (arith, few, same)
few_chunks supply t from (command ∷ commands) upto few (between, piece, more) = let small = piece.small in few_chunks supply t between commands upto small more

-- ---- the file

module _ (awaited : Awaited) (c : Course) (i j : ℕ) (calls : List Call) (wire : ℤ) (supply : Supply) (t : PutTask) (n : ℕ) (put : PutEnds awaited c i calls wire supply t (ended.Gave n)) (history : List Step) (legal : IsLegal history) (stands : Stands calls history) (leave : OthersLeave c i calls history t.at t.id) (last : ℕ) (is_last : IsLastStepOf c i calls last) where
  -- from right behind the put on it has its record and its chunks
  file_behind : (upto : ℕ) → last < upto → file_of (state_of (take upto history)) t.at t.id ≡ whole_with (record_of (put_aim t) put.by.2.ending) put.by.2.chunks
  file_behind upto behind =
      let stored = put.by.2 in
      let early = leave.later last is_last.own in
      let s = stands.same is_last.own.place is_last.own.call last is_last.own.there is_last.own.placed in
      let within = get_within history last s.0 s.1 in
      let there = stays_until history t.at t.id (suc last) upto (omega (arith, behind)) (omega (arith, within)) (λ position step low high found. left_behind c i calls history t.at t.id last (suc last) position step leave is_last (omega arith) low found) in
      let end = stays_until history t.at t.id (suc last) (length history) (omega (arith, within)) (omega (arith, within)) (λ position step low high found. left_behind c i calls history t.at t.id last (suc last) position step leave is_last (omega arith) low found) in
      there ∙ sym end ∙ ap (λ (h : List Step). file_of (state_of h) t.at t.id) (take_all (length history) history (omega arith))
      ∙ stored.knows.each history legal stands (others_leave c i calls wire (concat put.owns ++ put.places) put.whole history t.at t.id leave)

  -- So a get behind it has a file that is whole, as the headline asks of it.
  pub makes_whole : (g : GetTask) → FileIsOf t g → (first to : ℕ) → IsFirstStepOf c j calls first → IsLastStepOf c j calls to → last < first → StandsWhole c j calls history g (joined t.pieces)
  makes_whole g same first to is_first is_to behind =
      let stored = put.by.2 in
      let size = put.by.1 in
      let some = size.some in
      let few : length (file_chunks t) ≤ 2 ^ 31 = few_chunks supply t 0 put.sends.1.chunks (length (file_chunks t)) (omega arith) put.sends.1.pieces in
      let early = leave.later last is_last.own in
      let file_is : file_of (state_of (take first history)) g.at g.id ≡ whole_with (record_of (put_aim t) stored.ending) stored.chunks
      = ap (λ (b : Bucket). file_of (state_of (take first history)) b g.id) same.0 ∙ ap (λ (x : Tree). file_of (state_of (take first history)) t.at x) same.1 ∙ file_behind first behind in
      record {
        first = first;
        last = to;
        is_first = is_first;
        is_last = is_to;
        alone = λ position step low high found.
            let bucket = subst (λ (b : Bucket). LeavesFile (state_of (take position history)) step b t.id) (sym same.0) (left_behind c i calls history t.at t.id last (suc last) position step leave is_last (omega arith) (omega (arith, behind, low)) found) in
            inr (subst (λ (x : Tree). LeavesFile (state_of (take position history)) step g.at x) (sym same.1) bucket);
        size = t.chunk;
        whole = record {
          record_of = record_of (put_aim t) stored.ending;
          alone = ap (λ (f : File). f.records) file_is;
          length_is = ap (λ (n : ℕ). Some (pos n)) stored.counts;
          size_is = refl;
          chunks_are = subst (λ (ks : List Fields). AreChunks 0 (chunked t.chunk (joined t.pieces)) ks) (sym (ap (λ (f : File). f.chunks) file_is)) stored.chunks_are;
        };
        file = _;
        read = record_is_read t.id stored.ending.length t.chunk stored.ending.moment t.name None some;
        few = omega (arith, few);
      }
