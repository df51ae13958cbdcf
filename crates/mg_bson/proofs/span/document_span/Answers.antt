use Rattle.mg_bson.specs.Spans.{between}
use Rattle.mg_bson.proofs.Inside.{document_is, document_here, document_nowhere}
use Rattle.mg_bson.proofs.span.document_span.Goals as goal

pub returns-in-Document-clause-document : goal.returns-in-Document-clause-document
returns-in-Document-clause-document c =
    let s = c.in_ok-span in
    document_here c.args.name.now c.args.bytes.now s.kind (between s.span.from s.span.upto c.args.bytes.now) s.ensures.value c.in-Document.is

pub returns-in-Document-clause-read : goal.returns-in-Document-clause-read
returns-in-Document-clause-read c =
    let s = c.in_ok-span in
    document_is s.kind (between s.span.from s.span.upto c.args.bytes.now) s.ensures.read c.in-Document.is

pub returns-in_default-clause-document : goal.returns-in_default-clause-document
returns-in_default-clause-document c =
    let s = c.in_ok-span in
    document_nowhere c.args.name.now c.args.bytes.now s.kind (between s.span.from s.span.upto c.args.bytes.now) s.ensures.value c.in_default.not-Document
