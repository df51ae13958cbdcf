use Rattle.std.proofs.Common.{◌≡◌, ℕ, List, Result, Ok, Err, MatchResult, sym, ap, ◌∙◌, subst}
use Rattle.mg_bson.specs.Raw.{fields}
use Rattle.mg_link.specs.declared.error.Error.{Error}
use Rattle.mg_chunks.specs.Chunks.{data_of}
use Rattle.mg_chunks.proofs.Judged.{bytes_missing, bytes_there}
use Rattle.mg_chunks.proofs.judging.judge_bytes.Goals as goal

pub returns-in-Some-clause-judged : goal.returns-in-Some-clause-judged
returns-in-Some-clause-judged c =
    subst (λ (r : Result (List ℕ) Error). MatchResult c.sized.result (λ b. r ≡ Ok b.now) (λ e. r ≡ Err e))
    (sym (bytes_there c.args.file.now c.args.n c.args.same c.in-Some.bytes.now (data_of (fields c.args.chunk.now)) c.in-Some.ensures)) c.sized.ensures.judged

pub returns-in-Some-clause-so : goal.returns-in-Some-clause-so
returns-in-Some-clause-so c = c.sized.ensures.so

pub returns-in-None-clause-judged : goal.returns-in-None-clause-judged
returns-in-None-clause-judged c =
    bytes_missing c.args.file.now c.args.n c.args.same (data_of (fields c.args.chunk.now)) c.in-None.ensures ∙ ap (λ (x : Error). Err x) (sym c.broken.ensures)
