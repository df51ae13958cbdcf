use Rattle.std.proofs.Common.{[], None, refl, true}
use Rattle.mg_change.specs.Following.{event_told}
use Rattle.mg_change.specs.StreamView.{stream_of}
use Rattle.mg_change.specs.declared.event_poll.EventPoll.TheVariants as poll
use Rattle.mg_change.proofs.Calls.{copies_args}
use Rattle.example_follower.proofs.Reporting.{answers_none, answers_on}
use Rattle.example_follower.proofs.follow.next.Goals as goal

pub polls-init : goal.polls-init
polls-init g c = record {
  held = c.requires.held;
  sound = c.requires.sound;
  answers = answers_none (g.L.Link.awaited c.args.link.now) (g.L.Link.log c.args.link.now) (stream_of c.args.stream.now);
}

pub polls-preserved : goal.polls-preserved
polls-preserved g c = record {
  held = c.in-Pending.ensures.keeps.tickets.held;
  sound = c.in-Pending.ensures.sound;
  answers =
      answers_on (g.L.Link.awaited c.args.link.now) (g.L.Link.awaited c.polls.link) (g.L.Link.awaited c.poll_next_if_any.new.link)
      (g.L.Link.log c.args.link.now) (g.L.Link.log c.polls.link) (g.L.Link.log c.poll_next_if_any.new.link)
      (stream_of c.args.stream.now) (stream_of c.polls.stream) (stream_of c.poll_next_if_any.new.self) [] [] c.polls.invariant.answers
      (record {
        args =
            let does = c.in-Pending.ensures.does in
            copies_args does.0 true (g.L.Link.awaited c.polls.link) (g.L.Link.awaited c.poll_next_if_any.new.link) (g.L.Link.log c.polls.link) (g.L.Link.log c.poll_next_if_any.new.link) (g.L.Link.wire c.polls.link) None does.1 (stream_of c.polls.stream) (stream_of c.poll_next_if_any.new.self) poll.Pending c.polls.invariant.sound.sound refl does.2;
        moved = c.in-Pending.ensures.moved;
      });
}

pub returns-in-Ready-clause-answers : goal.returns-in-Ready-clause-answers
returns-in-Ready-clause-answers g c =
    answers_on (g.L.Link.awaited c.args.link.now) (g.L.Link.awaited c.polls.link) (g.L.Link.awaited c.poll_next_if_any.new.link)
    (g.L.Link.log c.args.link.now) (g.L.Link.log c.polls.link) (g.L.Link.log c.poll_next_if_any.new.link)
    (stream_of c.args.stream.now) (stream_of c.polls.stream) (stream_of c.poll_next_if_any.new.self) [] (event_told (poll.Ready c.in-Ready.event)) c.polls.invariant.answers
    (record {
      args =
          let does = c.in-Ready.ensures.does in
          copies_args does.0 true (g.L.Link.awaited c.polls.link) (g.L.Link.awaited c.poll_next_if_any.new.link) (g.L.Link.log c.polls.link) (g.L.Link.log c.poll_next_if_any.new.link) (g.L.Link.wire c.polls.link) None does.1 (stream_of c.polls.stream) (stream_of c.poll_next_if_any.new.self) (poll.Ready c.in-Ready.event) c.polls.invariant.sound.sound refl does.2;
      moved = c.in-Ready.ensures.moved;
    })

pub returns-in-Failed-clause-answers : goal.returns-in-Failed-clause-answers
returns-in-Failed-clause-answers g c =
    answers_on (g.L.Link.awaited c.args.link.now) (g.L.Link.awaited c.polls.link) (g.L.Link.awaited c.poll_next_if_any.new.link)
    (g.L.Link.log c.args.link.now) (g.L.Link.log c.polls.link) (g.L.Link.log c.poll_next_if_any.new.link)
    (stream_of c.args.stream.now) (stream_of c.polls.stream) (stream_of c.poll_next_if_any.new.self) [] [] c.polls.invariant.answers
    (record {
      args =
          let does = c.in-Failed.ensures.does in
          copies_args does.0 true (g.L.Link.awaited c.polls.link) (g.L.Link.awaited c.poll_next_if_any.new.link) (g.L.Link.log c.polls.link) (g.L.Link.log c.poll_next_if_any.new.link) (g.L.Link.wire c.polls.link) None does.1 (stream_of c.polls.stream) (stream_of c.poll_next_if_any.new.self) (poll.Failed c.in-Failed.error) c.polls.invariant.sound.sound refl does.2;
      moved = c.in-Failed.ensures.moved;
    })
