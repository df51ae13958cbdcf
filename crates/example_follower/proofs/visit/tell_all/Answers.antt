use Rattle.std.proofs.Common.{ℕ, List, ◌++◌, ◌∙◌, ap}
use Rattle.std.specs.Prelude.{string_bytes}
use Rattle.mg_bson.specs.Raw.{fields}
use Rattle.mg_change.specs.StreamView.{stream_of}
use Rattle.example_follower.specs.Follower.{line_of}
use Rattle.example_follower.proofs.Reporting.{follows_all, reports_end, reports_none, reports_one}
use Rattle.example_follower.proofs.visit.tell_all.Goals as goal

pub events-init : goal.events-init
events-init g c = record {
  rests = c.requires.rests;
  sound = c.requires.sound;
  reports = reports_none (g.L.Link.awaited c.args.link.now) (g.L.Link.log c.args.link.now) (stream_of c.args.stream.now) (string_bytes c.args.report.now);
}

pub events-preserved : goal.events-preserved
events-preserved g c = record {
  rests = c.in_ok-event.ensures.rests;
  sound = c.in_ok-event.ensures.sound;
  reports =
      reports_one (g.L.Link.awaited c.args.link.now) (g.L.Link.awaited c.events.link) (g.L.Link.awaited c.next.new.link)
      (g.L.Link.log c.args.link.now) (g.L.Link.log c.events.link) (g.L.Link.log c.next.new.link)
      (stream_of c.args.stream.now) (stream_of c.events.stream) (stream_of c.next.new.stream) (string_bytes c.args.report.now) (string_bytes c.events.report) (string_bytes c.tell.new.report)
      c.in_ok-event.field-0 c.in-Some.event c.events.invariant.reports c.in_ok-event.ensures.answers c.in-Some.is
      (c.in_ok-tell-in-Some.ensures ∙ ap (λ (b : List ℕ). string_bytes c.events.report ++ line_of (fields b)) c.as_raw.ensures);
}

pub returns-in-None-clause-reports : goal.returns-in-None-clause-reports
returns-in-None-clause-reports g c =
    reports_end (g.L.Link.awaited c.args.link.now) (g.L.Link.awaited c.events.link) (g.L.Link.awaited c.next.new.link)
    (g.L.Link.log c.args.link.now) (g.L.Link.log c.events.link) (g.L.Link.log c.next.new.link)
    (stream_of c.args.stream.now) (stream_of c.events.stream) (stream_of c.next.new.stream) (string_bytes c.args.report.now) (string_bytes c.events.report)
    c.in_ok-event.field-0 c.events.invariant.reports c.in_ok-event.ensures.answers c.in-None.is

pub returns-in-None-clause-follows : goal.returns-in-None-clause-follows
returns-in-None-clause-follows g c = λ log args opens.
    follows_all (g.L.Link.awaited c.args.link.now) (g.L.Link.awaited c.next.new.link) log (g.L.Link.log c.args.link.now) (g.L.Link.log c.next.new.link)
    args (stream_of c.args.stream.now) (stream_of c.next.new.stream) (string_bytes c.args.report.now) (string_bytes c.events.report) opens c.in_ok-event.ensures.rests
    (reports_end (g.L.Link.awaited c.args.link.now) (g.L.Link.awaited c.events.link) (g.L.Link.awaited c.next.new.link)
    (g.L.Link.log c.args.link.now) (g.L.Link.log c.events.link) (g.L.Link.log c.next.new.link)
    (stream_of c.args.stream.now) (stream_of c.events.stream) (stream_of c.next.new.stream) (string_bytes c.args.report.now) (string_bytes c.events.report)
    c.in_ok-event.field-0 c.events.invariant.reports c.in_ok-event.ensures.answers c.in-None.is)

pub returns-clause-follows : goal.returns-clause-follows
returns-clause-follows g c = λ log args opens.
    follows_all (g.L.Link.awaited c.args.link.now) (g.L.Link.awaited c.events.link) log (g.L.Link.log c.args.link.now) (g.L.Link.log c.events.link)
    args (stream_of c.args.stream.now) (stream_of c.events.stream) (string_bytes c.args.report.now) (string_bytes c.events.report) opens c.events.invariant.rests c.events.invariant.reports
