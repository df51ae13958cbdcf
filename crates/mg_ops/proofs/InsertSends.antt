-- An insert sends each piece once, one behind the other.
use Rattle.std.proofs.Common.{◌≡◌, ◌≤◌, ℕ, ℤ, false, List, [], ◌∷◌, ◌++◌, length, Option, Some, None, refl, sym, ap, ◌∙◌, subst, inl, inr, arith}
use Rattle.std.specs.Prelude.{◌⊎◌}
use Rattle.mg_bson.specs.Tree.{Fields}
use Rattle.mg_bson.specs.Raw.{fields}
use Rattle.mg_link.specs.Exec.{Stage, Runs, ticket_at, ticket_of}
use Rattle.mg_link.specs.Link.{Awaited, LogTold}
use Rattle.mg_link.specs.Namespace.{Space, space}
use Rattle.mg_link.specs.declared.action.Step.{Step}
use Rattle.mg_link.specs.declared.action.Step.TheVariants as step
use Rattle.mg_link.specs.declared.error.Error.{Error}
use Rattle.mg_ops.specs.InsertCauses.{IsBuilt}
use Rattle.mg_ops.specs.InsertSends.{AddsFirst, BatchesSent, HasSentPieces, HearsOnce, InsertPieces, IsHeldOrBuilt, StandsOnce, IsSentOnce, LeadsSent, NextOnce, SendsOn, SendsPieces, StandsSent, StepSentPieces, WaitsOnce, all_sent}
use Rattle.mg_ops.specs.Logs.{AddsJust}
use Rattle.mg_ops.specs.Underway.{GivesCount, IsSameList, IsStarted}
use Rattle.mg_ops.specs.declared.inserting.Batches.{Batches}
use Rattle.mg_ops.specs.declared.inserting.Command.{Command}
use Rattle.mg_ops.specs.declared.inserting.Heard.TheVariants as heard
use Rattle.mg_ops.specs.declared.inserting.Inserting.{Inserting}
use Rattle.mg_ops.specs.declared.inserting.Next.TheVariants as next
use Rattle.mg_ops.proofs.Appending.{same_sent, sent_length}
use Rattle.mg_ops.proofs.Logs.{done_first, failed_first, just_none, just_on, pending_first}

-- ---- pieces

pub pieces_on : (at : Space) (sent : List Fields) (from : ℕ) (cs : List Fields) (between : ℕ) (ds : List Fields) (upto : ℕ) → InsertPieces at sent from cs between → InsertPieces at sent between ds upto → InsertPieces at sent from (cs ++ ds) upto
pieces_on at sent from [] between ds upto is more = subst (λ (n : ℕ). InsertPieces at sent n ds upto) is more
pieces_on at sent from (c ∷ cs) between ds upto first more = (first.0, first.1, pieces_on at sent first.0 cs between ds upto first.2 more)

pub sends_none : (log log' : LogTold) (at : Space) (sent : List Fields) (from upto : ℕ) → AddsJust log log' [] → upto ≡ from → SendsPieces log log' at sent from upto
sends_none log log' at sent from upto none is = record { commands = []; adds = none; pieces = is }

pub sends_on : (log mid log' : LogTold) (at : Space) (sent : List Fields) (from between upto : ℕ) → SendsPieces log mid at sent from between → SendsPieces mid log' at sent between upto → SendsPieces log log' at sent from upto
sends_on log mid log' at sent from between upto a b =
    record { commands = a.commands ++ b.commands; adds = just_on log mid log' a.commands b.commands a.adds b.adds; pieces = pieces_on at sent from a.commands between b.commands upto a.pieces b.pieces }

-- the same list sends the same
batches_same : (log log' : LogTold) (b b' : Batches) (from upto : ℕ) → IsSameList b b' → BatchesSent log log' b' from upto → BatchesSent log log' b from upto
batches_same log log' b b' from upto same s =
    subst (λ (l : List Fields). SendsPieces log log' (space b.ns.now) l from upto) (same_sent b b' same)
    (subst (λ n. SendsPieces log log' (space n.now) (all_sent b') from upto) same.0 s)

-- ---- what a poll of a command sends

module _ (old new : Awaited) (log log' : LogTold) (wire : ℤ) (c : Command) where
  pub pending_once : (c' : Command) → Runs old new log log' wire c.exec (step.Pending c'.exec) → HearsOnce log log' c (heard.Pending c')
  pending_once c' runs single =
      let s = pending_first old new log log' wire c.exec single c'.exec runs in
      (s.0, record { once = s.1; ticket = s.2.0; holds = s.2.1 })

  pub inserted_once : (bytes : List ℕ) → Runs old new log log' wire c.exec (step.Done bytes) → HearsOnce log log' c heard.Inserted
  inserted_once bytes runs single = done_first old new log log' wire c.exec single bytes runs

  pub unread_once : (bytes : List ℕ) (e : Error) → Runs old new log log' wire c.exec (step.Done bytes) → HearsOnce log log' c (heard.Failed e)
  unread_once bytes e runs single = inl (done_first old new log log' wire c.exec single bytes runs)

  pub failed_once : (e e' : Error) → Runs old new log log' wire c.exec (step.Failed e) → HearsOnce log log' c (heard.Failed e')
  failed_once e e' runs single = failed_first old new log log' wire c.exec single e runs

-- ---- one command

-- where none waits it is built
pub next_once : (b b' : Batches) (waiting : Option Command) (c : Command) → waiting ≡ None → IsBuilt b b'.upto c → NextOnce b b' waiting (next.Send c)
next_once b b' waiting c none built = subst (λ (o : Option Command). IsHeldOrBuilt b b' o c) (sym none) built

module _ (b b' : Batches) (same : IsSameList b b') (c : Command) where
  -- it is not sent again
  next_single : (waiting : Option Command) → StandsSent b waiting → IsHeldOrBuilt b b' waiting c → c.exec.retries ≡ false
  next_single None stands built = built.once
  next_single (Some w) stands is = ap (λ (x : Command). x.exec.retries) is.0 ∙ stands.waits.once

  next_within : (waiting : Option Command) → StandsSent b waiting → IsHeldOrBuilt b b' waiting c → b'.upto ≤ length b'.documents.now
  next_within None stands built = subst (λ d. b'.upto ≤ length d.now) (sym same.1) built.part.within
  next_within (Some w) stands is = subst (λ d. b'.upto ≤ length d.now) (sym same.1) (subst (λ (n : ℕ). n ≤ length b.documents.now) (sym is.1) stands.within)

  module _ (log log' : LogTold) where
    next_built : IsBuilt b b'.upto c → AddsFirst log log' (fields c.exec.command) (ticket_of c.exec) → BatchesSent log log' b b.upto b'.upto
    next_built built adds =
        let all : length (all_sent b) ≡ length b.documents.now = sent_length b.drawn.items b.documents.now in
        let below = built.part.within in
        record {
          commands = fields c.exec.command ∷ [];
          adds = subst (λ (s : Stage). AddsFirst log log' (fields c.exec.command) (ticket_at s)) built.stage_is adds;
          pieces = (
            b'.upto,
            record { some = built.part.further; within = omega (arith, all, below); piece = c.insert.documents.items; these = built.part.these; command_is = built.command_is },
            refl,
          );
        }

    next_waited : (w : Command) → IsSentOnce w → (c ≡ w) × (b'.upto ≡ b.upto) → AddsFirst log log' (fields c.exec.command) (ticket_of c.exec) → BatchesSent log log' b b.upto b'.upto
    next_waited w once is adds =
        let ticket : ticket_of c.exec ≡ Some once.ticket = ap (λ (x : Command). ticket_of x.exec) is.0 ∙ once.holds in
        sends_none log log' (space b.ns.now) (all_sent b) b.upto b'.upto (subst (AddsFirst log log' (fields c.exec.command)) ticket adds) is.1

    next_sent : (waiting : Option Command) → StandsSent b waiting → IsHeldOrBuilt b b' waiting c → AddsFirst log log' (fields c.exec.command) (ticket_of c.exec) → BatchesSent log log' b b.upto b'.upto
    next_sent None stands built adds = next_built built adds
    next_sent (Some w) stands is adds = next_waited w stands.waits is adds

    -- it was sent, or was not
    next_failed : (waiting : Option Command) → StandsSent b waiting → IsHeldOrBuilt b b' waiting c → AddsFirst log log' (fields c.exec.command) (ticket_of c.exec) ⊎ AddsJust log log' [] → (upto : ℕ) × BatchesSent log log' b b.upto upto
    next_failed waiting stands is (inl adds) = (b'.upto, next_sent waiting stands is adds)
    next_failed waiting stands is (inr none) = (b.upto, sends_none log log' (space b.ns.now) (all_sent b) b.upto b.upto none refl)

-- ---- the commands of an insert, one behind another

-- at first none was sent
pub leads_first : (log : LogTold) (i : Inserting) → LeadsSent log log i i.batches i.command
leads_first log i stands = (sends_none log log (space i.batches.ns.now) (all_sent i.batches) i.batches.upto i.batches.upto (just_none log log refl) refl, stands)

module _ (log log' : LogTold) (i : Inserting) (b b' : Batches) (w : Option Command) (list : IsSameList i.batches b) (lead : LeadsSent log log' i b w) where
  pub sent_finished : (n : ℕ) → NextOnce b b' w next.Finished → SendsOn log log' i (step.Done n)
  sent_finished n ends stands =
      let so = lead stands in
      let most = so.1.within in
      let least = ends.1 in
      let all : length b.documents.now ≡ length i.batches.documents.now = ap (λ d. length d.now) list.1 in
      let upto : b.upto ≡ length i.batches.documents.now = omega (arith, most, least, all) in
      subst (BatchesSent log log' i.batches i.batches.upto) upto so.0

  pub sent_stopped : (e : Error) → SendsOn log log' i (step.Failed e)
  sent_stopped e stands = (b.upto, (lead stands).0)

  module _ (log'' : LogTold) (same : IsSameList b b') (c : Command) (goes : NextOnce b b' w (next.Send c)) where
    sent_more : (upto : ℕ) → StandsOnce i → BatchesSent log' log'' b b.upto upto → BatchesSent log log'' i.batches i.batches.upto upto
    sent_more upto stands more =
        sends_on log log' log'' (space i.batches.ns.now) (all_sent i.batches) i.batches.upto b.upto upto (lead stands).0 (batches_same log' log'' i.batches b b.upto upto list more)

    pub sent_pending : (c' : Command) → HearsOnce log' log'' c (heard.Pending c') → SendsOn log log'' i (step.Pending (record { batches = b'; command = Some c' }))
    sent_pending c' hears stands =
        let so = lead stands in
        let h = hears (next_single b b' same c w so.1 goes) in
        (sent_more b'.upto stands (next_sent b b' same c log' log'' w so.1 goes h.0), record { within = next_within b b' same c w so.1 goes; waits = h.1 })

    pub sent_inserted : HearsOnce log' log'' c heard.Inserted → LeadsSent log log'' i b' None
    sent_inserted hears stands =
        let so = lead stands in
        let h = hears (next_single b b' same c w so.1 goes) in
        (sent_more b'.upto stands (next_sent b b' same c log' log'' w so.1 goes h), record { within = next_within b b' same c w so.1 goes; waits = tt })

    pub sent_failed : (e : Error) → HearsOnce log' log'' c (heard.Failed e) → SendsOn log log'' i (step.Failed e)
    sent_failed e hears stands =
        let so = lead stands in
        let f = next_failed b b' same c log' log'' w so.1 goes (hears (next_single b b' same c w so.1 goes)) in
        (f.0, sent_more f.0 stands f.1)

-- ---- all polls

-- An insert that has sent nothing.
pub starts_sent : (at : Space) (ds : List Fields) (i : Inserting) → IsStarted at ds i → HasSentPieces at ds [] i
starts_sent at ds i s = record {
  at_is = s.unsent.at_is;
  sent_is = s.unsent.sent_is;
  once = record {
    within = (let none = s.unsent.none in omega (arith, none));
    waits = subst WaitsOnce (sym s.quiet) tt;
  };
  pieces = s.unsent.none;
}

module _ (log log' : LogTold) (at : Space) (ds commands : List Fields) (i : Inserting) (has : HasSentPieces at ds commands i) where
  -- what a poll sent stands behind what was sent before
  pieces_behind : (upto : ℕ) (s : BatchesSent log log' i.batches i.batches.upto upto) → InsertPieces at ds 0 (commands ++ s.commands) upto
  pieces_behind upto s =
      pieces_on at ds 0 commands i.batches.upto s.commands upto has.pieces
      (subst (λ (a : Space). InsertPieces a ds i.batches.upto s.commands upto) has.at_is (subst (λ (l : List Fields). InsertPieces (space i.batches.ns.now) l i.batches.upto s.commands upto) has.sent_is s.pieces))

  -- A poll led it on.
  pub poll_sends : (result : Step Inserting ℕ) → GivesCount i result → SendsOn log log' i result → (more : List Fields) × AddsJust log log' more × StepSentPieces at ds (commands ++ more) result
  poll_sends (step.Pending i') same sends =
      let s = sends has.once in (
        s.0.commands,
        s.0.adds,
        record {
          at_is = ap (λ n. space n.now) same.0 ∙ has.at_is;
          sent_is = same_sent i.batches i'.batches same ∙ has.sent_is;
          once = s.1;
          pieces = pieces_behind i'.batches.upto s.0;
        },
      )
  poll_sends (step.Done n) count sends =
      let s = sends has.once in
      let all : length i.batches.documents.now ≡ length ds = sym (sent_length i.batches.drawn.items i.batches.documents.now) ∙ ap (λ (l : List Fields). length l) has.sent_is in
      (s.commands, s.adds, subst (λ (n : ℕ). InsertPieces at ds 0 (commands ++ s.commands) n) all (pieces_behind (length i.batches.documents.now) s))
  poll_sends (step.Failed e) given sends = let f = sends has.once in (f.1.commands, f.1.adds, (f.0, pieces_behind f.0 f.1))
