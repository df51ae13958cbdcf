-- An insert goes on from one command to the next.
use Rattle.std.proofs.Common.{◌≡◌, ℕ, ℤ, pos, true, List, ◌++◌, length, Option, Some, None, refl, sym, ap, ◌∙◌, subst, take, arith}
use Rattle.mg_bson.specs.Tree.{Fields}
use Rattle.mg_bson.specs.Raw.{fields}
use Rattle.mg_server.specs.Calls.{Grows, Past, past_of}
use Rattle.mg_server.specs.Commands.{asked, asks_insert}
use Rattle.mg_link.specs.Exec.{Runs, ticket_of}
use Rattle.mg_link.specs.Link.{Awaited, LogTold}
use Rattle.mg_link.specs.Namespace.{Space, space}
use Rattle.mg_link.specs.declared.action.Step.TheVariants as step
use Rattle.mg_link.specs.declared.error.Error.{Error}
use Rattle.mg_ops.specs.Naming.{IsNamed}
use Rattle.mg_ops.specs.Writes.{Inserted}
use Rattle.mg_ops.proofs.Replying.{tells_of_insert}
use Rattle.mg_ops.specs.Appended.{Appended, InsertedBelow}
use Rattle.mg_ops.specs.Inserts.{held, insert_ticket}
use Rattle.mg_ops.specs.Underway.{AreSent, HasInserted, HearsSent, Holding, Inserts, IsInserting, IsNextOf, IsSameList, IsStarted, LeadsOn, SendsNext}
use Rattle.mg_ops.specs.declared.inserting.Batches.{Batches}
use Rattle.mg_ops.specs.declared.inserting.Command.{Command}
use Rattle.mg_ops.specs.declared.inserting.Heard.TheVariants as heard
use Rattle.mg_ops.specs.declared.inserting.Inserting.{Inserting}
use Rattle.mg_ops.specs.declared.inserting.Next.TheVariants as next
use Rattle.mg_ops.proofs.Appending.{below_grown, below_none, below_on, insert_ran, same_sent, sent_length, take_whole}
use Rattle.mg_ops.proofs.Plainly.{same_command}

-- ---- the same documents

pub same_list_on : (a b c : Batches) → IsSameList a b → IsSameList b c → IsSameList a c
same_list_on a b c p q = (q.0 ∙ p.0, q.1 ∙ p.1, q.2 ∙ p.2)

-- ---- what a poll of a command comes to

pub pending_sent : (old new : Awaited) (log log' : LogTold) (wire : ℤ) (c c' : Command) → Runs old new log log' wire c.exec (step.Pending c'.exec) → HearsSent old new log log' c (heard.Pending c')
pending_sent old new log log' wire c c' r calls told places since version room space sent u =
    let l = insert_ran space u.before u.piece places since version old new log log' wire c.exec (step.Pending c'.exec) calls u.asks told room u.holding r in
    (l.0, l.1, l.2, record { before = u.before; piece = u.piece; whole = u.whole; asks = ap asked (same_command old new log log' wire c.exec c'.exec r) ∙ u.asks; holding = l.3 })

pub failed_sent : (old new : Awaited) (log log' : LogTold) (wire : ℤ) (c : Command) (e e' : Error) → Runs old new log log' wire c.exec (step.Failed e) → HearsSent old new log log' c (heard.Failed e')
failed_sent old new log log' wire c e e' r calls told places since version room space sent u =
    let l = insert_ran space u.before u.piece places since version old new log log' wire c.exec (step.Failed e) calls u.asks told room u.holding r in
    (l.0, l.1, l.2, tt)

pub unread_sent : (old new : Awaited) (log log' : LogTold) (wire : ℤ) (c : Command) (bytes : List ℕ) (e : Error) → Runs old new log log' wire c.exec (step.Done bytes) → HearsSent old new log log' c (heard.Failed e)
unread_sent old new log log' wire c bytes e r calls told places since version room space sent u =
    let l = insert_ran space u.before u.piece places since version old new log log' wire c.exec (step.Done bytes) calls u.asks told room u.holding r in
    (l.0, l.1, l.2, tt)

pub done_sent : (old new : Awaited) (log log' : LogTold) (wire : ℤ) (c : Command) (bytes : List ℕ) (count n : ℕ) → Runs old new log log' wire c.exec (step.Done bytes) → Inserted count (fields bytes) n → HearsSent old new log log' c heard.Inserted
done_sent old new log log' wire c bytes count n r i calls told places since version room space sent u =
    let l = insert_ran space u.before u.piece places since version old new log log' wire c.exec (step.Done bytes) calls u.asks told room u.holding r in (
      l.0,
      l.1,
      l.2,
      subst (λ (s : List Fields). InsertedBelow (past_of places since l.0 version) (length l.0) space s) (sym u.whole) (l.3.1 (pos n) (tells_of_insert space u.piece true bytes count n l.3.0 i)),
    )

-- ---- what is sent next

pub next_some : (b b' : Batches) (c : Command) → IsSameList b b' → ticket_of c.exec ≡ None → IsNextOf b b' (Some c) → SendsNext b b' None (next.Send c)
next_some b b' c same unsent n awaited past at ds named i =
    record {
      at_is = ap (λ n. space n.now) same.0 ∙ i.at_is;
      sent_is = same_sent b b' same ∙ i.sent_is;
      done = record {
        before = take b.upto ds;
        piece = n.0;
        whole = subst (λ (l : List Fields). take b'.upto l ≡ take b.upto l ++ n.0) i.sent_is n.1;
        asks = subst (λ (s : Space). asked c.exec.command ≡ asks_insert s n.0 true) i.at_is (n.2 (subst IsNamed (sym i.at_is) named));
        holding = subst (Holding awaited past at (take b.upto ds) n.0) (sym unsent) i.done;
      };
    }

pub next_none : (b b' : Batches) → IsSameList b b' → IsNextOf b b' None → SendsNext b b' None next.Finished
next_none b b' same n awaited past at ds named i =
    let all : length ds ≡ length b.documents.now = ap (λ (x : List Fields). length x) (sym i.sent_is) ∙ sent_length b.drawn.items b.documents.now in
    let le = n.1 in
    record {
      count = ap (λ d. length d.now) same.1 ∙ sym all;
      stands = subst (λ (s : List Fields). InsertedBelow past (length past.calls) at s) (take_whole ds b.upto (omega (arith, all, le))) i.done;
    }

-- ---- the commands of an insert, one after another

module _ (old mid : Awaited) (log log' : LogTold) (i : Inserting) (b b' : Batches) (w : Option Command) (lead : LeadsOn old mid log log' i b w) where
  pub leads_finished : (n : ℕ) → n ≡ length b'.documents.now → SendsNext b b' w next.Finished → Inserts old mid log log' i (step.Done n)
  leads_finished n is sends calls told places wire at ds named h =
      let x = lead calls told places wire at ds named h in
      let past : Past = past_of places (length calls) x.0 wire in
      let s = sends mid past at ds named x.3 in
      (x.0, x.1, subst (Appended past at ds) (sym is) s)

  pub leads_stopped : (e : Error) → Inserts old mid log log' i (step.Failed e)
  leads_stopped e calls told places wire at ds named h = let x = lead calls told places wire at ds named h in (x.0, x.1, tt)

  module _ (new : Awaited) (log'' : LogTold) (c : Command) (sends : SendsNext b b' w (next.Send c)) where
    pub leads_pending : (c' : Command) → HearsSent mid new log' log'' c (heard.Pending c') → Inserts old new log log'' i (step.Pending (record { batches = b'; command = Some c' }))
    leads_pending c' hears calls told places wire at ds named h =
        let x = lead calls told places wire at ds named h in
        let s = sends mid (past_of places (length calls) x.0 wire) at ds named x.3 in
        let y = hears x.0 x.1 places (length calls) wire x.2 at (take b'.upto ds) s.done in
        (y.0, y.1, record { at_is = s.at_is; sent_is = s.sent_is; done = y.3 })

    pub leads_inserted : HearsSent mid new log' log'' c heard.Inserted → LeadsOn old new log log'' i b' None
    leads_inserted hears calls told places wire at ds named h =
        let x = lead calls told places wire at ds named h in
        let s = sends mid (past_of places (length calls) x.0 wire) at ds named x.3 in
        let y = hears x.0 x.1 places (length calls) wire x.2 at (take b'.upto ds) s.done in
        (y.0, y.1, y.2, record { at_is = s.at_is; sent_is = s.sent_is; done = y.3 })

    pub leads_failed : (e e' : Error) → HearsSent mid new log' log'' c (heard.Failed e) → Inserts old new log log'' i (step.Failed e')
    leads_failed e e' hears calls told places wire at ds named h =
        let x = lead calls told places wire at ds named h in
        let s = sends mid (past_of places (length calls) x.0 wire) at ds named x.3 in
        let y = hears x.0 x.1 places (length calls) wire x.2 at (take b'.upto ds) s.done in
        (y.0, y.1, tt)

-- An insert that has sent nothing, whatever the log is.
pub started : (awaited : Awaited) (past : Past) (at : Space) (ds : List Fields) (i : Inserting) → IsStarted at ds i → HasInserted awaited past at ds i
started awaited past at ds i s =
    subst (λ (w : Option Command). IsInserting awaited past at ds i.batches w) (sym s.quiet) (record {
      at_is = s.unsent.at_is;
      sent_is = s.unsent.sent_is;
      done = below_none past (length past.calls) at (take i.batches.upto ds) (ap (λ n. take n ds) s.unsent.none);
    })

-- ---- while others have their turns

module _ (old new : Awaited) (past past' : Past) (grows : Grows past past') (at : Space) where
  holding_grown : (before piece : List Fields) (ticket : Option ℕ) → ((m : ℕ) → ticket ≡ Some m → new m ≡ old m) → Holding old past at before piece ticket → Holding new past' at before piece ticket
  holding_grown before piece None same h = below_grown past past' at before grows h
  holding_grown before piece (Some n) same f =
      let kept = grows.keeps f.place f.call f.found in
      record {
        place = f.place;
        call = kept.0;
        at = same n refl ∙ f.at;
        own = grows.own f.place f.call f.found f.own;
        found = kept.1;
        asks = ap asked kept.2 ∙ f.asks;
        done = below_on past past' f.place f.place at before grows (omega arith) f.done;
      }

  sent_grown : (sent : List Fields) (w : Option Command) → ((m : ℕ) → held w ≡ Some m → new m ≡ old m) → AreSent old past at sent w → AreSent new past' at sent w
  sent_grown sent None same h = below_grown past past' at sent grows h
  sent_grown sent (Some c) same u = record { before = u.before; piece = u.piece; whole = u.whole; asks = u.asks; holding = holding_grown u.before u.piece (ticket_of c.exec) same u.holding }

  -- How far an insert has come it has come in any later log.
  pub has_grown : (ds : List Fields) (i : Inserting) → ((m : ℕ) → insert_ticket i ≡ Some m → new m ≡ old m) → HasInserted old past at ds i → HasInserted new past' at ds i
  has_grown ds i same h = record { at_is = h.at_is; sent_is = h.sent_is; done = sent_grown (take i.batches.upto ds) i.command same h.done }
