-- What becomes of the file of a put, by the steps of its job.
use Rattle.std.proofs.Common.{◌≡◌, ◌++◌, [], ℕ, ℤ, Bool, false, List, Option, Some, length, sym, ◌∙◌, subst, inl, inr}
use Rattle.std.specs.List.{concat}
use Rattle.mg_bson.specs.Tree.{Fields}
use Rattle.mg_server.specs.Calls.{Past}
use Rattle.mg_link.specs.Link.{Awaited}
use Rattle.mg_link.specs.Log.{Call}
use Rattle.mg_server.specs.Owner.{IsOf}
use Rattle.mg_gridfs.specs.UploadView.{upload_of}
use Rattle.mg_players.specs.Behind.{IsStepWith, RecordsOver, WholeBehind}
use Rattle.mg_players.specs.Causes.{Course, PutEnds, commands_at, places_of, sent_at}
use Rattle.mg_players.specs.Headline.{PutLeft}
use Rattle.mg_players.specs.Laying.{EndLays, IsRecordStep, LaysAll}
use Rattle.mg_players.specs.Plays.{Places, all_places}
use Rattle.mg_players.specs.PutSends.{PutEndsSent, PutSends, file_chunks, record_insert}
use Rattle.mg_players.specs.Puts.{NamesFiles, PutTask, Supply, put_end, taken_in}
use Rattle.mg_players.specs.Telling.{AllSent, PutTells, SentNothing}
use Rattle.mg_players.specs.declared.put.PutStage.{PutStage}
use Rattle.mg_players.specs.declared.put.PutStage.TheVariants as puts
use Rattle.mg_players.proofs.PutLaid.{doing_laid, names_of}
use Rattle.mg_players.proofs.Whole.{only_now}
use Rattle.mg_script.specs.declared.outcome.Ended.{Ended}
use Rattle.mg_script.specs.declared.outcome.Ended.TheVariants as ended
use Rattle.mg_jobs.proofs.Behind.{whole_behind}
use Rattle.mg_jobs.proofs.Filed.{others_leave, put_cleared, put_left, put_sent_none}
use Rattle.mg_jobs.proofs.Positions.{sent_place}
use Rattle.mg_jobs.proofs.PutLater.{later_steps}

-- ---- behind its record

-- some of its commands, as PutSends has them
pub record SomeSent (supply : Supply) (t : PutTask) (ever : Past) (commands : List Fields) : Type 0 where
  pub upto : ℕ
  pub moment : Option ℤ
  pub removed : Bool
  pub sends : PutSends supply t ever commands upto moment removed

pub some_sent : (supply : Supply) (t : PutTask) (written : ℕ) (ever past : Past) (commands : List Fields) (end : Ended ℕ) → PutEndsSent supply t written ever past commands end → SomeSent supply t ever commands
some_sent supply t written ever past commands ended.Unfinished h = record { upto = h.1.0; moment = h.1.1; removed = h.0; sends = h.1.2 }
some_sent supply t written ever past commands (ended.Gave n) h = record { upto = length (file_chunks t); moment = Some h.0; removed = false; sends = h.1 }
some_sent supply t written ever past commands (ended.Failed e) h = record { upto = h.1.0; moment = h.1.1; removed = h.0; sends = h.1.2 }

-- one that sent nothing has no record
none_behind : (c : Course) (i : ℕ) (calls : List Call) (t : PutTask) → places_of c i ≡ [] → WholeBehind c i calls t
none_behind c i calls t none history legal stands leave recorded upto r behind keeps =
    let own = r.by.own in
    absurd (subst (λ (l : List ℕ). IsOf l own.place) none (sent_place c i own.done own.place own.sent))

module _ (c : Course) (i : ℕ) (calls : List Call) (wire : ℤ) (places : List ℕ) (whole : places ≡ places_of c i) (supply : Supply) (t : PutTask) (ever : Past) (sent : SomeSent supply t ever (commands_at calls (places_of c i))) where
  -- the step of its record, as one of what it sent
  record_step : (moment : ℤ) (position : ℕ) → IsStepWith c i calls position (record_insert t moment) → IsRecordStep (sent_at places calls wire) t position
  record_step moment position s = record {
    own = record { place = s.own.place; own = inl (subst (λ (l : List ℕ). IsOf l s.own.place) (sym whole) (sent_place c i s.own.done s.own.place s.own.sent)); call = s.own.call; there = s.own.there; placed = s.own.placed };
    moment = moment;
    inserts = s.sends;
  }

  -- one that sent its record over all chunks
  records_over : NamesFiles t → LaysAll (sent_at places calls wire) t → (moment : ℤ) → RecordsOver c i calls t moment
  records_over named lays moment = record {
    named = named.0;
    stood = λ history legal stands leave position s. lays history legal stands (others_leave c i calls wire places whole history t.at t.id leave) position (record_step moment position s);
    later = λ history stands recorded position r o less. later_steps supply t ever c i calls sent.upto sent.moment sent.removed sent.sends named.0 named.1 history stands moment recorded position r o less;
  }

  put_behind : NamesFiles t → LaysAll (sent_at places calls wire) t → WholeBehind c i calls t
  put_behind named lays = whole_behind c i calls t (records_over named lays)

  end_behind : EndLays (sent_at places calls wire) t → WholeBehind c i calls t
  end_behind (inl none) = none_behind c i calls t (sym whole ∙ none)
  end_behind (inr x) = put_behind x.0 x.1

-- ---- all of a put

nothing_sent : (c : Course) (i n : ℕ) (q : Places) → AllSent c i q n → SentNothing q → places_of c i ≡ []
nothing_sent c i n q sent nothing = sym sent.whole ∙ only_now q nothing.0 nothing.1 ∙ nothing.2

-- What a put tells at the end of a run says what it left.
pub put_filed : (awaited : Awaited) (c : Course) (i n : ℕ) (calls : List Call) (wire : ℤ) (supply : Supply) (t : PutTask) (q : Places) (done : ℕ) (s : PutStage) → PutTells awaited calls wire q supply t done s → AllSent c i q n → PutEnds awaited c i calls wire supply t (put_end s) → PutLeft c i calls t (put_end s)
put_filed awaited c i n calls wire supply t q done puts.Undrawn tells sent ends_so = none_behind c i calls t (nothing_sent c i n q sent tells.0)
put_filed awaited c i n calls wire supply t q done (puts.Begins begun) tells sent ends_so = none_behind c i calls t (nothing_sent c i n q sent tells.0)
put_filed awaited c i n calls wire supply t q done (puts.Goes going) tells sent ends_so =
    let u = upload_of going.upload in
    let past : Past = sent_at (all_places q) calls wire in
    put_behind c i calls wire (all_places q) sent.whole supply t (sent_at (concat ends_so.owns ++ ends_so.places) calls wire) (some_sent supply t (length ends_so.owns) (sent_at (concat ends_so.owns ++ ends_so.places) calls wire) (sent_at ends_so.places calls wire) (commands_at calls (places_of c i)) ended.Unfinished ends_so.sends)
    (names_of awaited past t u (taken_in u.doing t.pieces done) tells.0.aim_is tells.0.knows) (doing_laid past t u.doing tells.0.lays)
put_filed awaited c i n calls wire supply t q done (puts.Ended ended.Unfinished) tells sent ends_so =
    end_behind c i calls wire (all_places q) sent.whole supply t (sent_at (concat ends_so.owns ++ ends_so.places) calls wire) (some_sent supply t (length ends_so.owns) (sent_at (concat ends_so.owns ++ ends_so.places) calls wire) (sent_at ends_so.places calls wire) (commands_at calls (places_of c i)) ended.Unfinished ends_so.sends) tells.5
put_filed awaited c i n calls wire supply t q done (puts.Ended (ended.Gave size)) tells sent ends_so = (
  put_left c i calls wire (all_places q) t sent.whole tells.2.2,
  end_behind c i calls wire (all_places q) sent.whole supply t (sent_at (concat ends_so.owns ++ ends_so.places) calls wire) (some_sent supply t (length ends_so.owns) (sent_at (concat ends_so.owns ++ ends_so.places) calls wire) (sent_at ends_so.places calls wire) (commands_at calls (places_of c i)) (ended.Gave size) ends_so.sends) tells.5,
)
put_filed awaited c i n calls wire supply t q done (puts.Ended (ended.Failed e)) tells sent ends_so = (
  λ leaves. elim tells.2 [
    | inl cannot ↦ put_sent_none c i calls t (sym sent.whole ∙ cannot.1)
    | inr fails ↦ put_cleared c i calls wire (all_places q) t sent.whole (fails.2 leaves)
  ],
  end_behind c i calls wire (all_places q) sent.whole supply t (sent_at (concat ends_so.owns ++ ends_so.places) calls wire) (some_sent supply t (length ends_so.owns) (sent_at (concat ends_so.owns ++ ends_so.places) calls wire) (sent_at ends_so.places calls wire) (commands_at calls (places_of c i)) (ended.Failed e) ends_so.sends) tells.5,
)
