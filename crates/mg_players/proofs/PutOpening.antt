-- The opening of a put's upload: nothing is sent, and nothing of its file is there.
use Rattle.std.proofs.Common.{◌≡◌, ℕ, ℤ, false, List, [], length, None, Result, Ok, Err, refl, sym, ap, ◌∙◌, subst, inl, arith}
use Rattle.mg_link.specs.Acts.{Tickets}
use Rattle.mg_server.specs.Calls.{past_of}
use Rattle.mg_link.specs.Link.{Awaited, LogTold}
use Rattle.mg_link.specs.Log.{Call}
use Rattle.mg_server.specs.Owner.{IsOf, Owner, Passes, nobody}
use Rattle.mg_link.specs.declared.error.Error.{Error}
use Rattle.mg_server.proofs.Adding.{adds_none}
use Rattle.mg_server.proofs.Apart.{holds_nobody, passes_same}
use Rattle.mg_link.proofs.Onward.{tickets_same}
use Rattle.mg_server.proofs.Owners.{same_some}
use Rattle.mg_gridfs.specs.Buckets.{IsSize}
use Rattle.mg_gridfs.specs.Storing.{KnowsUpload}
use Rattle.mg_gridfs.specs.Uploads.{ClientUpload, fresh_upload, upload_ticket}
use Rattle.mg_gridfs.specs.UploadView.{upload_of}
use Rattle.mg_gridfs.proofs.Holding.{upload_begins}
use Rattle.mg_gridfs.proofs.Staying.{cursors_begin}
use Rattle.mg_script.specs.declared.outcome.Ended.{Ended}
use Rattle.mg_script.specs.declared.outcome.Ended.TheVariants as ended
use Rattle.mg_bson.specs.Tree.{Fields}
use Rattle.mg_players.specs.Causes.{AllWritten, AreInLog, commands_at, sent_at}
use Rattle.mg_players.specs.Drawing.{supply_from}
use Rattle.mg_players.specs.Headline.{PutPlays, put_task}
use Rattle.mg_players.specs.Kept.{ids_left}
use Rattle.mg_players.specs.Plays.{Places, SentAt, TellsBehind, TurnTells, all_places, no_move}
use Rattle.mg_players.specs.Putting.{Opens, OpensFrom, PutTurns}
use Rattle.mg_players.specs.Puts.{BegunFor, ComeNext, IsPutDoing, NamesFiles, PutTask, PutsKnowing, Supply, put_aim, writes}
use Rattle.mg_players.specs.Sends.{MaySend}
use Rattle.mg_players.specs.PutSends as put_sends
use Rattle.mg_players.specs.PutSends.{FailsSo, PutEndsSent, Reaches, SentChunks}
use Rattle.mg_players.proofs.PutCommands.{sent_nothing}
use Rattle.mg_players.proofs.PutLaid.{nothing_lays}
use Rattle.mg_players.proofs.PutOrder.{none_for}
use Rattle.mg_players.proofs.PutSupplied.{next_as}
use Rattle.mg_players.specs.Telling.{PutSaid, PutSays, PutTells, PutTellsOpen, SentNothing, put_number}
use Rattle.mg_players.specs.declared.put.Beginning.{Beginning}
use Rattle.mg_players.specs.declared.put.PutPlayer.{PutPlayer}
use Rattle.mg_players.specs.declared.put.PutStage.{PutStage}
use Rattle.mg_players.specs.declared.put.PutStage.TheVariants as puts
use Rattle.mg_players.proofs.Telling.{extends_rest}
use Rattle.mg_players.proofs.Whole.{only_now}

-- ---- what it tells

-- one that has sent nothing did so at no places
nowhere : (q : Places) → SentNothing q → all_places q ≡ []
nowhere q nothing = only_now q nothing.0 nothing.1 ∙ nothing.2

-- and no commands
said_none : (calls : List Call) (q : Places) (P : List Fields → Type 0) → SentNothing q → P [] → PutSaid calls q P
said_none calls q P nothing h = record { within = subst (AreInLog (length calls)) (sym (nowhere q nothing)) tt; ordered = λ k m of now. absurd (subst (λ (l : List ℕ). IsOf l m) nothing.2 now); sends = subst (λ (l : List ℕ). P (commands_at calls l)) (sym (nowhere q nothing)) h }

-- and wrote no piece
none_written : (supply : Supply) (t : PutTask) (calls : List Call) (q : Places) → SentNothing q → AllWritten supply t calls q.owns
none_written supply t calls q nothing n less = (let count : length q.owns ≡ 0 = ap length nothing.1 in absurd (omega (arith, less, count)))

-- an upload that has taken nothing tells of no places
module _ (supply : Supply) (t : PutTask) (ids : ℕ → List ℕ) (next : ComeNext supply t ids 0) (awaited : Awaited) (calls : List Call) (wire : ℤ) (q : Places) (named : NamesFiles t) (sized : IsSize t.chunk) (nothing : SentNothing q) where
  fresh_knows : KnowsUpload awaited (sent_at (all_places q) calls wire) t.at (fresh_upload (put_aim t)) []
  fresh_knows = subst (λ (l : List ℕ). KnowsUpload awaited (past_of l (length calls) calls wire) t.at (fresh_upload (put_aim t)) []) (sym (nowhere q nothing)) (upload_begins awaited calls wire t.at (put_aim t) (record { files = refl; chunks = refl }) named.0 named.1)

  fresh_tells : PutTellsOpen awaited calls wire q supply t ids 0 (fresh_upload (put_aim t))
  fresh_tells = record {
    aim_is = refl;
    sized = sized;
    opened = nothing.0;
    counted = ap length nothing.1;
    rests = λ still. (nothing.2, sized.some);
    full = none_written supply t calls q nothing;
    needs = λ is. absurd cc;
    cut = record { front = []; parts = refl; even = omega arith };
    pauses = tt;
    underway = tt;
    flies = tt;
    supplied = next;
    its = tt;
    reads = tt;
    knows = fresh_knows;
    said = said_none calls q (λ commands. SentChunks supply t (sent_at (all_places q) calls wire) commands false 0) nothing (sent_nothing supply t (sent_at (all_places q) calls wire));
    lays = nothing_lays t calls wire (all_places q) (nowhere q nothing);
  }

  pub opened_tells : (u : ClientUpload) (done : ℕ) → done ≡ 0 → u ≡ fresh_upload (put_aim t) → PutTellsOpen awaited calls wire q supply t ids done u
  opened_tells u done none fresh = subst (λ (x : ClientUpload). PutTellsOpen awaited calls wire q supply t ids done x) (sym fresh) (subst (λ (n : ℕ). PutTellsOpen awaited calls wire q supply t ids n (fresh_upload (put_aim t))) (sym none) fresh_tells)

-- ---- a turn

-- its upload is open, or the put has failed
opens_tells : (supply : Supply) (t : PutTask) (awaited : Awaited) (calls : List Call) (wire : ℤ) (q : Places) (begun : Beginning) (done : ℕ) (s : PutStage) → done ≡ 0 → BegunFor supply t (Ok begun) → SentNothing q → Opens t begun s → PutTells awaited calls wire q supply t done s
opens_tells supply t awaited calls wire q begun done puts.Undrawn none is nothing opens = absurd opens
opens_tells supply t awaited calls wire q begun done (puts.Begins other) none is nothing opens = absurd opens
opens_tells supply t awaited calls wire q begun done (puts.Goes going) none is nothing opens =
    let sized : IsSize t.chunk = subst (λ (u : ClientUpload). IsSize u.aim.size) opens.1 opens.2.between.sound.bounds.size in
    (opened_tells supply t (ids_left going.ids) (next_as supply t (ids_left begun.ids) (ids_left going.ids) opens.4 0 is.1) awaited calls wire q opens.0 sized nothing (upload_of going.upload) done none opens.1, opens.3 ∙ is.0)
opens_tells supply t awaited calls wire q begun done (puts.Ended ended.Unfinished) none is nothing opens = absurd opens
opens_tells supply t awaited calls wire q begun done (puts.Ended (ended.Gave n)) none is nothing opens = absurd opens
opens_tells supply t awaited calls wire q begun done (puts.Ended (ended.Failed e)) none is nothing opens = (nothing.0, ap length nothing.1 ∙ sym none, inl (opens, nowhere q nothing), omega (arith, none), said_none calls q (λ commands. PutEndsSent supply t done (sent_at (all_places q) calls wire) (sent_at q.now calls wire) commands (ended.Failed e)) nothing (none_for supply t (sent_at (all_places q) calls wire) [] (λ upto moment removed. FailsSo supply t (sent_at q.now calls wire) e upto moment removed × Reaches t done upto moment) (put_sends.not_opened refl opens, λ less. (refl, omega arith)) refl), inl (nowhere q nothing), none_written supply t calls q nothing)

module _ (awaited : Awaited) (log : LogTold) (wire moment : ℤ) (p : PutPlayer) (begun : Result Beginning Error) (none : p.done ≡ 0) where
  abbrev T : PutTask
  T = writes p.what

  abbrev Before : PutPlayer
  Before = record p { stage = puts.Begins begun }

  -- it owned nothing, and has not called
  quietly : (calls : List Call) (o : Owner) → o ≡ nobody → Passes calls calls o nobody
  quietly calls o is = subst (λ (own : Owner). Passes calls calls own nobody) (sym is) (passes_same calls nobody (holds_nobody calls))

  module _ (s : PutStage) (tells : (supply : Supply) (calls : List Call) (q : Places) → SentNothing q → BegunFor supply T begun → PutTells awaited calls wire q supply T p.done s) where
    told_so : TurnTells put_task PutPlays PutSays (λ x. put_number x.done x.stage) (SentAt moment) awaited awaited log log wire Before (record p { stage = s }) no_move
    told_so calls calls' told told' supply n may q at at' placed o plays says =
        subst (λ (l : List Call). TellsBehind PutSays (λ x. put_number x.done x.stage) awaited calls l wire (supply_from supply n) (put_task Before) q 0 (record p { stage = s }) at') (same_some calls calls' (sym told ∙ told'))
        (record {
          longer = omega arith;
          places = q;
          tells = tells (supply_from supply n) calls q says.0 says.2;
          extends = extends_rest q 0 (put_number p.done s) (length calls) says.0.2;
          adds = adds_none (MaySend (supply_from supply n) (put_task Before)) calls;
        })

  -- it has failed
  failed_so : (end : Ended ℕ) → ((supply : Supply) (calls : List Call) (q : Places) → SentNothing q → BegunFor supply T begun → PutTells awaited calls wire q supply T p.done (puts.Ended end)) → PutTurns awaited awaited log log wire moment Before (record p { stage = puts.Ended end })
  failed_so end tells = record {
    same = refl;
    tickets = tickets_same awaited None (λ n held. absurd cc);
    holds = tt;
    has = tt;
    turned = λ calls told o at plays. (calls, told, record { place = at; placed = refl; owner = nobody; plays = refl; passes = quietly calls o plays });
    told = told_so (puts.Ended end) tells;
  }

  -- its upload is open
  opened_so : (mine : Beginning) (s : PutStage) → ((supply : Supply) → BegunFor supply T begun → BegunFor supply T (Ok mine)) → Opens T mine s → PutTurns awaited awaited log log wire moment Before (record p { stage = s })
  opened_so mine puts.Undrawn counts opens = absurd opens
  opened_so mine (puts.Begins other) counts opens = absurd opens
  opened_so mine (puts.Goes going) counts opens = record {
    same = refl;
    tickets = subst (λ (x : ClientUpload). Tickets awaited awaited None (upload_ticket x)) (sym opens.1) (tickets_same awaited None (λ n held. absurd cc));
    holds = record { sound = opens.2; doing = subst (λ (x : ClientUpload). IsPutDoing x.doing p.done (length T.pieces)) (sym opens.1) (omega (arith, none)) };
    has = tt;
    turned = λ calls told o at plays. (
      calls,
      told,
      record {
        place = at;
        placed = refl;
        owner = nobody;
        plays = subst (λ (x : ClientUpload). PutsKnowing awaited calls x nobody) (sym opens.1) (record { cursors = cursors_begin awaited calls (put_aim T) opens.0.0 opens.0.1; owns = refl });
        passes = quietly calls o plays;
      },
    );
    told = told_so (puts.Goes going) (λ supply calls q nothing is. opens_tells supply T awaited calls wire q mine p.done (puts.Goes going) none (counts supply is) nothing opens);
  }
  opened_so mine (puts.Ended end) counts opens = failed_so end (λ supply calls q nothing is. opens_tells supply T awaited calls wire q mine p.done (puts.Ended end) none (counts supply is) nothing opens)

-- A turn that opens its upload.
pub opening_turns : (awaited : Awaited) (log : LogTold) (wire moment : ℤ) (p : PutPlayer) (begun : Result Beginning Error) (s : PutStage) → p.done ≡ 0 → OpensFrom (writes p.what) begun s → PutTurns awaited awaited log log wire moment (record p { stage = puts.Begins begun }) (record p { stage = s })
opening_turns awaited log wire moment p (Ok begun) s none opens = opened_so awaited log wire moment p (Ok begun) none begun s (λ supply is. is) opens
opening_turns awaited log wire moment p (Err e) s none opens =
    subst (λ (x : PutStage). PutTurns awaited awaited log log wire moment (record p { stage = puts.Begins (Err e) }) (record p { stage = x })) (sym opens)
    (failed_so awaited log wire moment p (Err e) none (ended.Failed e) (λ supply calls q nothing is. (nothing.0, ap length nothing.1 ∙ sym none, inl (inl is, nowhere q nothing), omega (arith, none), said_none calls q (λ commands. PutEndsSent supply (writes p.what) p.done (sent_at (all_places q) calls wire) (sent_at q.now calls wire) commands (ended.Failed e)) nothing (none_for supply (writes p.what) (sent_at (all_places q) calls wire) [] (λ upto moment removed. FailsSo supply (writes p.what) (sent_at q.now calls wire) e upto moment removed × Reaches (writes p.what) p.done upto moment) (put_sends.not_opened refl (inl is), λ less. (refl, omega arith)) refl), inl (nowhere q nothing), none_written supply (writes p.what) calls q nothing)))
