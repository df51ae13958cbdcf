use Rattle.std.proofs.Common.{◌≡◌, ◌+◌, ◌∷◌, [], List, false, ap, arith, get_or, refl, sym, take, ◌∙◌, subst, length, length-append}
use Rattle.std.specs.List.{All, sum_by}
use Rattle.std.proofs.lemmas.List.Elements.{All-append, All-cons, All-nil}
use Rattle.mg_link.proofs.Onward.{later_on, later_same}
use Rattle.mg_players.specs.Causes.{AllPollOwn}
use Rattle.mg_turns.specs.Counts.{AreNoted, StartedBy}
use Rattle.mg_players.specs.Progress.{AllAt}
use Rattle.mg_players.specs.Telling.{AllTell}
use Rattle.mg_turns.specs.declared.turned.Turned.{Turned}
use Rattle.std.proofs.lemmas.Option.{slice_get-get_or}
use Rattle.mg_players.proofs.Advancing.{at_next}
use Rattle.mg_ops.specs.Drawn.{AreLater}
use Rattle.mg_players.specs.Drawing.{drawn_in}
use Rattle.mg_players.proofs.Drawing.{drawn_next, drawn_whole}
use Rattle.mg_players.proofs.Knowing.{length_take}
use Rattle.mg_players.proofs.Losing.{all_lose_on, none_lose}
use Rattle.mg_jobs.proofs.Polling.{polls_next, polls_whole}
use Rattle.mg_turns.proofs.Tallies.{loses_on, noted_more, started_more}
use Rattle.mg_jobs.proofs.Told.{tell_next, tell_whole}
use Rattle.mg_jobs.proofs.run.play.Goals as goal

pub returns-in_err-turn-clause-knowing : goal.returns-in_err-turn-clause-knowing
returns-in_err-turn-clause-knowing g c = λ begun before. c.turn.ensures.knowing begun (c.loop-number.invariant.knowing begun before)

pub returns-in_err-turn-clause-none_lost : goal.returns-in_err-turn-clause-none_lost
returns-in_err-turn-clause-none_lost g c = λ before was. c.turn.ensures.none_lost before (c.loop-number.invariant.none_lost before was)

pub loop-number-preserved : goal.loop-number-preserved
loop-number-preserved g c =
    let noted = c.in_ok-turn.ensures.noted in
    let there = slice_get-get_or c.args.order.now c.loop-number.number-index 0 (omega (arith, c.loop-number-test.true)) in
    let xs = c.loop-number.runner.turns.items in
    record {
      stands = c.turn.ensures.stands;
      later = later_on c.loop-number.invariant.later c.turn.ensures.later;
      turns = ap length noted.1 ∙ length-append xs (noted.0 ∷ []) ∙ ap (λ n. n + 1) c.loop-number.invariant.turns;
      started = subst (λ (ts : List Turned). StartedBy (sum_by (λ (t : Turned). t.started) ts) (g.L.Link.log c.args.link.now) (g.L.Link.log c.turn.new.link)) (sym noted.1)
          (started_more xs noted.0 _ _ _ c.loop-number.invariant.started noted.2.starts);
      noted = subst (λ (ts : List Turned). AreNoted ts (g.L.Link.log c.args.link.now) (g.L.Link.log c.turn.new.link) (g.L.Link.pends c.args.link.now) (g.L.Link.pends c.turn.new.link)) (sym noted.1)
          (noted_more xs noted.0 _ _ _ _ _ _ c.loop-number.invariant.noted noted.2.starts noted.2.stays noted.2.pends);
      quiet = λ prompt. subst (λ (ts : List Turned). All (λ (t : Turned). t.pended ≡ false) ts) (sym noted.1)
          (All-append (λ (t : Turned). t.pended ≡ false) xs (noted.0 ∷ []) (c.loop-number.invariant.quiet prompt) (All-cons (λ (t : Turned). t.pended ≡ false) noted.0 [] (noted.2.prompt (c.loop-number.invariant.later.prompt prompt).stays).1 (All-nil (λ (t : Turned). t.pended ≡ false))));
      lossless = λ prompt. loses_on _ _ _ (c.loop-number.invariant.lossless prompt) (noted.2.prompt (c.loop-number.invariant.later.prompt prompt).stays).2;
      jobs = c.turn.ensures.jobs ∙ c.loop-number.invariant.jobs;
      lost = let so = c.loop-number.invariant in all_lose_on (g.L.Link.faults c.args.link.now) (g.L.Link.faults c.loop-number.link) (g.L.Link.faults c.turn.new.link) (g.L.Link.pends c.args.link.now) (g.L.Link.pends c.loop-number.link) (g.L.Link.pends c.turn.new.link) c.args.runner.now.players.items c.loop-number.runner.players.items c.turn.new.self.players.items so.later.faults c.turn.ensures.later.faults so.later.pends c.turn.ensures.later.pends so.lost c.turn.ensures.lost;
      none_lost = λ first was. c.turn.ensures.none_lost first (c.loop-number.invariant.none_lost first was);
      knowing = λ begun before. c.turn.ensures.knowing begun (c.loop-number.invariant.knowing begun before);
      rows = λ ts before. at_next ts c.args.order.now c.loop-number.number-index (get_or c.args.order.now c.loop-number.number-index 0) c.turn.new.self.turns.items c.turn.new.self.players.items there
          (c.in_ok-turn.ensures.rows ts (take c.loop-number.number-index c.args.order.now) (length_take c.args.order.now c.loop-number.number-index (get_or c.args.order.now c.loop-number.number-index 0) there ∙ sym c.loop-number.invariant.turns) (c.loop-number.invariant.rows ts before));
      drawn = λ first ts does before. drawn_next first (g.I.IdSource.ids c.turn.new.ids) ts c.args.order.now c.loop-number.number-index (get_or c.args.order.now c.loop-number.number-index 0) c.turn.new.self.players.items there
          (c.in_ok-turn.ensures.drawn first ts (take c.loop-number.number-index c.args.order.now) (c.loop-number.invariant.tasks ts does) (c.loop-number.invariant.drawn first ts does before));
      told = λ supply begun ts its does at drawn before. tell_next supply (g.L.Link.awaited c.turn.new.link) begun (g.L.Link.log c.turn.new.link) (g.L.Link.wire c.turn.new.link) ts c.args.order.now c.loop-number.number-index (get_or c.args.order.now c.loop-number.number-index 0) c.turn.new.self.turns.items c.turn.new.self.players.items there
          (c.in_ok-turn.ensures.told supply begun ts (take c.loop-number.number-index c.args.order.now) its (length_take c.args.order.now c.loop-number.number-index (get_or c.args.order.now c.loop-number.number-index 0) there ∙ sym c.loop-number.invariant.turns) (c.loop-number.invariant.rows ts at) (c.loop-number.invariant.drawn supply.ids ts does drawn) (c.loop-number.invariant.told supply begun ts its does at drawn before));
      polled = λ supply begun ts its does at drawn before.
          let p = c.in_ok-turn.ensures.polled in
          subst (λ (ns : List Turned). AllPollOwn begun (take (c.loop-number.number-index + 1) c.args.order.now) ns (g.L.Link.polls c.args.link.now) (g.L.Link.polls c.turn.new.link)) (sym p.1)
          (polls_next begun c.args.order.now c.loop-number.number-index (get_or c.args.order.now c.loop-number.number-index 0) xs p.0 _ _ _ there
          (length_take c.args.order.now c.loop-number.number-index (get_or c.args.order.now c.loop-number.number-index 0) there ∙ sym c.loop-number.invariant.turns) (c.loop-number.invariant.polled supply begun ts its does at drawn before)
          (p.2 supply begun ts (take c.loop-number.number-index c.args.order.now) (c.loop-number.invariant.rows ts at) (c.loop-number.invariant.drawn supply.ids ts does drawn) (c.loop-number.invariant.told supply begun ts its does at drawn before)));
      tasks = λ ts does. c.turn.ensures.tasks ts (c.loop-number.invariant.tasks ts does);
    }

pub returns-clause-drawn : goal.returns-clause-drawn
returns-clause-drawn g c = λ first ts does before.
    drawn_whole first (g.I.IdSource.ids c.loop-number.ids) ts c.args.order.now c.loop-number.number-index c.loop-number.runner.players.items (omega (arith, c.loop-number-test.false)) (c.loop-number.invariant.drawn first ts does before)

pub returns-in_err-turn-clause-stopped : goal.returns-in_err-turn-clause-stopped
returns-in_err-turn-clause-stopped g c = λ first ts does before.
    let k = c.loop-number.number-index in
    (k, subst (λ ids. AreLater first (drawn_in ts (take k c.args.order.now)) (g.I.IdSource.ids ids)) (sym c.in_err-turn.ensures.undrawn) ((c.loop-number.invariant.drawn first ts does before).stands))

pub returns-clause-stopped : goal.returns-clause-stopped
returns-clause-stopped g c = λ first ts does before. (c.loop-number.number-index, (c.loop-number.invariant.drawn first ts does before).stands)

pub returns-clause-told : goal.returns-clause-told
returns-clause-told g c = λ supply begun ts its does at drawn before.
    tell_whole supply (g.L.Link.awaited c.loop-number.link) begun (g.L.Link.log c.loop-number.link) (g.L.Link.wire c.loop-number.link) ts c.args.order.now c.loop-number.number-index c.loop-number.runner.turns.items c.loop-number.runner.players.items (omega (arith, c.loop-number-test.false)) (c.loop-number.invariant.told supply begun ts its does at drawn before)

pub returns-clause-polled : goal.returns-clause-polled
returns-clause-polled g c = λ supply begun ts its does at drawn before.
    polls_whole begun c.args.order.now c.loop-number.number-index c.loop-number.runner.turns.items _ _ (omega (arith, c.loop-number-test.false)) (c.loop-number.invariant.polled supply begun ts its does at drawn before)

pub loop-number-init : goal.loop-number-init
loop-number-init g c =
    let none = c.requires.new in
    record {
      stands = c.requires.stands;
      later = later_same _ _ _ _;
      turns = ap length none;
      started = subst (λ (ts : List Turned). StartedBy (sum_by (λ (t : Turned). t.started) ts) (g.L.Link.log c.args.link.now) (g.L.Link.log c.args.link.now)) (sym none) (λ calls told. (calls, told, omega arith));
      noted = subst (λ (ts : List Turned). AreNoted ts (g.L.Link.log c.args.link.now) (g.L.Link.log c.args.link.now) (g.L.Link.pends c.args.link.now) (g.L.Link.pends c.args.link.now)) (sym none) (refl, refl);
      quiet = λ prompt. subst (λ (ts : List Turned). All (λ (t : Turned). t.pended ≡ false) ts) (sym none) (All-nil (λ (t : Turned). t.pended ≡ false));
      lossless = λ prompt calls told. (calls, told, λ place call there seen. there);
      jobs = refl;
      lost = none_lose (g.L.Link.faults c.args.link.now) (g.L.Link.faults c.args.link.now) (g.L.Link.pends c.args.link.now) (g.L.Link.pends c.args.link.now) c.args.runner.now.players.items;
      none_lost = λ first was. was;
      knowing = λ begun knowing. knowing;
      rows = λ ts rows. subst (λ (ns : List Turned). AllAt ts [] ns c.args.runner.now.players.items) (sym none) rows;
      drawn = λ first ts does drawn. drawn;
      told = λ supply begun ts its does at drawn told. subst (λ (ns : List Turned). AllTell supply (g.L.Link.awaited c.args.link.now) begun (g.L.Link.log c.args.link.now) (g.L.Link.wire c.args.link.now) ts [] ns c.args.runner.now.players.items) (sym none) told;
      polled = λ supply begun ts its does at drawn told. subst (λ (ns : List Turned). AllPollOwn begun [] ns (g.L.Link.polls c.args.link.now) (g.L.Link.polls c.args.link.now)) (sym none) (λ calls is place. refl);
      tasks = λ ts does. does;
    }

pub returns-in_err-turn-clause-lost : goal.returns-in_err-turn-clause-lost
returns-in_err-turn-clause-lost g c =
    let so = c.loop-number.invariant in
    all_lose_on (g.L.Link.faults c.args.link.now) (g.L.Link.faults c.loop-number.link) (g.L.Link.faults c.turn.new.link) (g.L.Link.pends c.args.link.now) (g.L.Link.pends c.loop-number.link) (g.L.Link.pends c.turn.new.link) c.args.runner.now.players.items c.loop-number.runner.players.items c.turn.new.self.players.items so.later.faults c.turn.ensures.later.faults so.later.pends c.turn.ensures.later.pends so.lost c.turn.ensures.lost
