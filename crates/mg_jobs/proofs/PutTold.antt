-- What a put tells at the end of a run says what caused its outcome.
use Rattle.std.proofs.Common.{◌≡◌, ◌<◌, ◌+◌, ◌*◌, ◌++◌, ℕ, suc, ℤ, true, false, List, [], length, take, refl, sym, ap, ◌∙◌, subst, inl, inr, arith}
use Rattle.std.specs.Prelude.{IsSome}
use Rattle.std.specs.List.{concat}
use Rattle.mg_server.specs.Calls.{Past}
use Rattle.mg_server.specs.Files.{AreChunks}
use Rattle.mg_server.specs.Filing.{KnowsFile, part, stays}
use Rattle.mg_link.specs.Chunks.{chunked}
use Rattle.mg_link.specs.Link.{Awaited}
use Rattle.mg_link.specs.Log.{Call}
use Rattle.mg_gridfs.specs.Storing.{KnowsAhead, KnowsBy, KnowsUpload}
use Rattle.mg_gridfs.specs.Uploads.{Aim, ClientUpload, Doing, RestsBy, abort, busy, close, closed, fills, idle, upload_ticket, write}
use Rattle.mg_gridfs.specs.UploadView.{upload_of}
use Rattle.mg_players.specs.Causes.{AllSentIn, AllWritten, Course, HasTurned, HasWritten, PutEnds, PutEndsBy, PutRests, PutWaits, StoresFull, commands_at, places_of, sent_at}
use Rattle.mg_players.specs.Follows.{IsUnfinished}
use Rattle.mg_players.specs.Kept.{ids_left}
use Rattle.mg_players.specs.Plays.{Places, all_places}
use Rattle.mg_players.specs.Progress.{PutAt, PutOver, pends_last, turns_done}
use Rattle.mg_players.specs.PutSends.{PutEndsSent, Reaches, StopsSo}
use Rattle.mg_players.specs.Puts.{CutBy, IsPutDoing, PutTask, Supply, joined, put_aim, put_end, taken_in}
use Rattle.mg_players.specs.Telling.{AllSent, PutSaid, PutTells, PutTellsOpen, put_number}
use Rattle.mg_players.specs.declared.put.PutStage.{PutStage}
use Rattle.mg_players.specs.declared.put.PutStage.TheVariants as puts
use Rattle.mg_players.proofs.Advancing.{put_going}
use Rattle.mg_players.proofs.PutFailing.{caused_error}
use Rattle.mg_players.proofs.PutOrder.{DoingNear, MayReach, doing_some, none_for, phase_near, reach_none}
use Rattle.mg_players.proofs.PutWriting.{close_reach, idle_near, write_reach}
use Rattle.mg_players.proofs.Whole.{only_now}
use Rattle.mg_script.specs.declared.outcome.Ended.{Ended}
use Rattle.mg_script.specs.declared.outcome.Ended.TheVariants as ended

-- what its last call sent stands behind what each piece's call sent
last_sent : (c : Course) (i : ℕ) (q : Places) (done : ℕ) → length q.owns ≡ done → AllSentIn c i (suc done) q.now → AllSentIn c i (suc (length q.owns)) q.now
last_sent c i q done counted sent = subst (λ (n : ℕ). AllSentIn c i (suc n) q.now) (sym counted) sent

all_sent : (q : Places) → q.opened ≡ [] → all_places q ≡ concat q.owns ++ q.now
all_sent q none = ap (λ (l : List ℕ). l ++ (concat q.owns ++ q.now)) none

-- its commands are those at all its places
said_all : (c : Course) (i : ℕ) (calls : List Call) (wire : ℤ) (supply : Supply) (t : PutTask) (q : Places) (done : ℕ) (end : Ended ℕ) (now : Past) → q.opened ≡ [] → length q.owns ≡ done → all_places q ≡ places_of c i → PutEndsSent supply t done (sent_at (all_places q) calls wire) now (commands_at calls (all_places q)) end → PutEndsSent supply t (length q.owns) (sent_at (concat q.owns ++ q.now) calls wire) now (commands_at calls (places_of c i)) end
said_all c i calls wire supply t q done end now none counted whole said =
    let all : Past = sent_at (concat q.owns ++ q.now) calls wire in
    let told : PutEndsSent supply t done all now (commands_at calls (places_of c i)) end = subst (λ (l : List ℕ). PutEndsSent supply t done all now (commands_at calls l) end) whole (subst (λ (l : List ℕ). PutEndsSent supply t done (sent_at l calls wire) now (commands_at calls (all_places q)) end) (all_sent q none) said) in
    subst (λ (n : ℕ). PutEndsSent supply t n all now (commands_at calls (places_of c i)) end) (sym counted) told

-- how far it came by its turns
over_turned : (t : PutTask) (done k : ℕ) (end : Ended ℕ) → PutOver end done (length t.pieces) k → HasWritten t done end → HasTurned t done k end
over_turned t done k ended.Unfinished over all = absurd over
over_turned t done k (ended.Gave n) over all = omega (arith, over, all)
over_turned t done k (ended.Failed e) (inl first) all = inl first
over_turned t done k (ended.Failed e) (inr more) all = inr (omega (arith, more))

over_not_unfinished : {A : Type 0} (end : Ended A) (done count k : ℕ) → PutOver end done count k → IsUnfinished end → ⊥
over_not_unfinished ended.Unfinished done count k over is = over
over_not_unfinished (ended.Gave x) done count k over is = is
over_not_unfinished (ended.Failed e) done count k over is = is

-- one that has ended
over_told : (awaited : Awaited) (c : Course) (i : ℕ) (calls : List Call) (wire : ℤ) (supply : Supply) (t : PutTask) (q : Places) (done : ℕ) (end : Ended ℕ) → AllSent c i q (suc done) → q.opened ≡ [] → length q.owns ≡ done → PutEndsBy (sent_at (all_places q) calls wire) (sent_at q.now calls wire) t end
    → HasWritten t done end → PutSaid calls q (λ commands. PutEndsSent supply t done (sent_at (all_places q) calls wire) (sent_at q.now calls wire) commands end) → AllWritten supply t calls q.owns → PutOver end done (length t.pieces) (turns_done i c.order c.notes) → PutEnds awaited c i calls wire supply t end
over_told awaited c i calls wire supply t q done end sent none counted by all said full over =
    record {
      owns = q.owns;
      sent_each = sent.owns;
      places = q.now;
      sent = last_sent c i q done counted sent.now;
      whole = sym (all_sent q none) ∙ sent.whole;
      by = subst (λ (l : List ℕ). PutEndsBy (sent_at l calls wire) (sent_at q.now calls wire) t end) (all_sent q none) by;
      waits = λ pended is. absurd (over_not_unfinished end done (length t.pieces) (turns_done i c.order c.notes) over is);
      rests = λ quiet is some. absurd (over_not_unfinished end done (length t.pieces) (turns_done i c.order c.notes) over is);
      written = subst (λ (n : ℕ). HasWritten t n end) (sym counted) all;
      turned = subst (λ (n : ℕ). HasTurned t n (turns_done i c.order c.notes) end) (sym counted) (over_turned t done (turns_done i c.order c.notes) end over all);
      full = full;
      sends = said_all c i calls wire supply t q done end (sent_at q.now calls wire) none counted sent.whole said.sends;
    }

-- ---- one that has not ended

-- what is stored between two calls
stores_full : (awaited : Awaited) (all : Past) (t : PutTask) (u : ClientUpload) (taken : List ℕ) → u.aim ≡ put_aim t → u.doing ≡ idle → length u.behind < u.aim.size → KnowsUpload awaited all t.at u taken → StoresFull all t taken
stores_full awaited all t u taken aim rests_so short knows =
    let k : KnowsAhead awaited all t.at u taken fills = subst (KnowsBy awaited all t.at u taken) rests_so knows.by in
    let size : u.aim.size ≡ t.chunk = ap (λ (a : Aim). a.size) aim in
    record {
      front = k.stored;
      left = u.behind;
      parts = k.parts ∙ ap (λ (l : List ℕ). k.stored ++ (l ++ u.behind)) k.comes;
      count = u.sent;
      even = k.even ∙ ap (λ (n : ℕ). u.sent * n) size;
      less = subst (λ (n : ℕ). length u.behind < n) size short;
      chunks = k.chunks;
      chunks_are = subst (λ (n : ℕ). AreChunks 0 (chunked n k.stored) k.chunks) size k.chunks_are;
      knows = subst (λ (a : Aim). KnowsFile all t.at a.id (stays (part k.chunks))) aim k.knows;
    }

-- it had one turn for its opening, and one for each piece that is written
going_turned : (t : PutTask) (owns : List (List ℕ)) (done count k : ℕ) (d : Doing) → length owns ≡ done → count ≡ length t.pieces → done + 1 ≡ k → IsPutDoing d done count → HasTurned t (length owns) k ended.Unfinished
going_turned t owns done count k d counted same turns does = let few = put_going d done count does in inr (omega (arith, counted, turns), omega (arith, counted, same, few))

-- and came no further than its pieces
near_told : (t : PutTask) (u : ClientUpload) (done count : ℕ) → u.aim ≡ put_aim t → count ≡ length t.pieces → (d : Doing) → IsPutDoing d done count → RestsBy d → CutBy u (taken_in d t.pieces done) d → DoingNear (Reaches t done) u.sent d
near_told t u done count aim same idle does pauses cut =
    let reach : MayReach t (joined (take (done + 1) t.pieces)) (write 0) (Reaches t done) = write_reach t done 0 in
    (reach_none t (Reaches t done) (joined (take (done + 1) t.pieces)) [] (write 0) tt reach, idle_near t u done aim cut)
near_told t u done count aim same (busy (write piece) p) does pauses cut =
    phase_near t (Reaches t done) (joined (take (done + 1) t.pieces)) [] (write piece) tt (write_reach t done piece) u aim p pauses.1 cut
near_told t u done count aim same (busy close p) does pauses cut = phase_near t (Reaches t done) (joined t.pieces) [] close refl (close_reach t done (omega (arith, does, same))) u aim p pauses.1 cut
near_told t u done count aim same (busy abort p) does pauses cut = absurd does
near_told t u done count aim same closed does pauses cut = absurd does

module _ (awaited : Awaited) (c : Course) (i : ℕ) (calls : List Call) (wire : ℤ) (supply : Supply) (t : PutTask) (q : Places) (done : ℕ) (u : ClientUpload) (ids : ℕ → List ℕ) (tells : PutTellsOpen awaited calls wire q supply t ids done u) where
  abbrev All : Past
  All = sent_at (concat q.owns ++ q.now) calls wire

  knows_all : KnowsUpload awaited All t.at u (taken_in u.doing t.pieces done)
  knows_all = subst (λ (l : List ℕ). KnowsUpload awaited (sent_at l calls wire) t.at u (taken_in u.doing t.pieces done)) (all_sent q tells.opened) tells.knows

  -- no call goes on
  rests_told : u.doing ≡ idle → PutRests All t (length q.owns) q.now
  rests_told is =
      let r = tells.rests is in
      let knows : KnowsUpload awaited All t.at u (joined (take done t.pieces)) = subst (λ (d : Doing). KnowsUpload awaited All t.at u (taken_in d t.pieces done)) is knows_all in
      record { none = r.0; stored = subst (λ (n : ℕ). StoresFull All t (joined (take n t.pieces))) (sym tells.counted) (stores_full awaited All t u (joined (take done t.pieces)) tells.aim_is is r.1 knows) }

  -- one does
  waits_told : IsSome (upload_ticket u) → IsPutDoing u.doing done (length t.pieces) → PutWaits awaited All (sent_at q.now calls wire) t (length q.owns)
  waits_told held does =
      record {
        upload = u;
        aim_is = tells.aim_is;
        holds = held;
        underway = tells.underway;
        does = subst (λ (n : ℕ). IsPutDoing u.doing n (length t.pieces)) (sym tells.counted) does;
        knows = subst (λ (n : ℕ). KnowsUpload awaited All t.at u (taken_in u.doing t.pieces n)) (sym tells.counted) knows_all;
      }

pub put_outcome : (awaited : Awaited) (c : Course) (i : ℕ) (calls : List Call) (wire : ℤ) (supply : Supply) (t : PutTask) (q : Places) (s : PutStage) (done count : ℕ) → PutTells awaited calls wire q supply t done s → AllSent c i q (put_number done s) → PutAt (length t.pieces) s done count (turns_done i c.order c.notes) (pends_last i c.order c.notes) → PutEnds awaited c i calls wire supply t (put_end s)
put_outcome awaited c i calls wire supply t q puts.Undrawn done count tells sent at =
    record {
      owns = [];
      sent_each = λ n own there. absurd cc;
      places = [];
      sent = λ place of. absurd of;
      whole = sym (only_now q tells.0.0 tells.0.1 ∙ tells.0.2) ∙ sent.whole;
      by = tt;
      waits = λ pended is. absurd (let bad : true ≡ false = sym pended ∙ at.3 in cc);
      rests = λ quiet is some. absurd (let none = at.2 in omega (arith, some, none));
      written = tt;
      turned = inl (at.2, refl);
      full = λ n less. absurd (omega (arith, less));
      sends = none_for supply t (sent_at [] calls wire) (commands_at calls (places_of c i)) (λ upto moment removed. StopsSo supply t (sent_at [] calls wire) upto moment removed × Reaches t 0 upto moment) (λ bad. absurd cc, λ less. (refl, omega arith)) (ap (commands_at calls) (sym sent.whole ∙ only_now q tells.0.0 tells.0.1 ∙ tells.0.2));
    }
put_outcome awaited c i calls wire supply t q (puts.Begins begun) done count tells sent at = absurd at
put_outcome awaited c i calls wire supply t q (puts.Goes going) done count tells sent at =
    record {
      owns = q.owns;
      sent_each = sent.owns;
      places = q.now;
      sent = last_sent c i q done tells.0.counted sent.now;
      whole = sym (all_sent q tells.0.opened) ∙ sent.whole;
      by = tt;
      waits = λ pended is. waits_told awaited c i calls wire supply t q done (upload_of going.upload) (ids_left going.ids) tells.0 (at.3 ∙ pended) (subst (IsPutDoing (upload_of going.upload).doing done) at.0 at.2);
      rests = λ quiet is some. rests_told awaited c i calls wire supply t q done (upload_of going.upload) (ids_left going.ids) tells.0 (at.4 quiet);
      written = tt;
      turned = going_turned t q.owns done count (turns_done i c.order c.notes) (upload_of going.upload).doing tells.0.counted at.0 at.1 at.2;
      full = tells.0.full;
      sends =
          said_all c i calls wire supply t q done ended.Unfinished (sent_at q.now calls wire) tells.0.opened tells.0.counted sent.whole
          (doing_some supply t (Reaches t done) (sent_at (all_places q) calls wire) (sent_at q.now calls wire) (commands_at calls (all_places q)) (upload_of going.upload).checked (upload_of going.upload).sent (λ upto moment removed. StopsSo supply t (sent_at q.now calls wire) upto moment removed × Reaches t done upto moment) (λ upto moment near. (λ bad. absurd cc, near)) (upload_of going.upload).doing done count at.2
          (near_told t (upload_of going.upload) done count tells.0.aim_is at.0 (upload_of going.upload).doing at.2 tells.0.pauses tells.0.cut)
          (λ original is upto moment near held. (λ yes. (original, caused_error t awaited (sent_at q.now calls wire) (upload_of going.upload).aim tells.0.aim_is (upload_of going.upload).doing original is tells.0.its tells.0.underway, held), near)) tells.0.said.sends);
    }
put_outcome awaited c i calls wire supply t q (puts.Ended end) done count tells sent at = over_told awaited c i calls wire supply t q done end sent tells.0 tells.1 tells.2 tells.3 tells.4 tells.6 at.0
