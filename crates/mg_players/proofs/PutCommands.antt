-- The commands of a put, as more are sent.
use Rattle.std.proofs.Common.{◌≡◌, ◌⊎◌, ◌<◌, ◌≤◌, ℕ, ℤ, Bool, true, false, List, [], ◌∷◌, ◌++◌, length, Option, Some, None, refl, sym, ap, ◌∙◌, subst, inl, inr, arith, append-nil, append_assoc}
use Rattle.std.proofs.lemmas.List.{map-append}
use Rattle.mg_bson.specs.Raw.{fields}
use Rattle.mg_bson.specs.Tree.{Fields}
use Rattle.mg_server.specs.Calls.{Past}
use Rattle.mg_link.specs.Exec.{Attempt, AttemptFails, Runs, Sending, Stage, Tries, answered, first, not_sent, second, ticket_at, unsent, waits}
use Rattle.mg_link.specs.Link.{Adds, Awaited, LogTold}
use Rattle.mg_link.specs.Log.{Call, Sight}
use Rattle.mg_link.specs.declared.action.Step.{Step}
use Rattle.mg_link.specs.declared.action.Step.TheVariants as came
use Rattle.mg_link.specs.declared.error.Error.{Error}
use Rattle.mg_link.specs.declared.error.ErrorKind.TheVariants as kind
use Rattle.mg_link.proofs.Waits.{never_again}
use Rattle.mg_ops.specs.InsertSends.{AddsFirst}
use Rattle.mg_ops.specs.Logs.{AddsJust}
use Rattle.mg_ops.proofs.Logs.{done_first, failed_first, pending_first}
use Rattle.mg_players.specs.PutChecks.{CheckPasses, to_find}
use Rattle.mg_players.specs.PutSends.{Around, ChunkPieces, InsertsChunks, IsErrorBehind, NeedsNoCheck, PutSends, Reach, SentAll, SentChunks, SentUntil, chunks_removal, file_chunks, record_at, record_insert}
use Rattle.mg_players.specs.Puts.{IsMoment, PutTask, Supply, put_bucket, total}
use Rattle.mg_players.proofs.PutSending.{some_chunks}

-- ---- chunks

pieces_on : (supply : Supply) (t : PutTask) (from : ℕ) (commands : List Fields) (between : ℕ) (command : Fields) (upto : ℕ) → ChunkPieces supply t from commands between → InsertsChunks supply t between upto command → ChunkPieces supply t from (commands ++ command ∷ []) upto
pieces_on supply t from [] between command upto is next = (upto, subst (λ (n : ℕ). InsertsChunks supply t n upto command) is next, refl)
pieces_on supply t from (c ∷ commands) between command upto head next = (head.0, head.1, pieces_on supply t head.0 commands between command upto head.2 next)

-- ---- one command more

pub sent_nothing : (supply : Supply) (t : PutTask) (ever : Past) → SentChunks supply t ever [] false 0
sent_nothing supply t ever = record { check = []; chunks = []; parts = refl; of_check = to_find 0 (omega arith) (λ many. absurd (omega (arith, many))) refl; pieces = refl; passed = λ is. absurd cc; unneeded = λ small. refl; nothing = λ is. refl }

pub chunks_more : (supply : Supply) (t : PutTask) (ever : Past) (commands : List Fields) (from upto : ℕ) (command : Fields) → InsertsChunks supply t from upto command → SentChunks supply t ever commands true from → SentChunks supply t ever (commands ++ command ∷ []) true upto
chunks_more supply t ever commands from upto command next s = record {
  check = s.check;
  chunks = s.chunks ++ command ∷ [];
  parts = ap (λ (l : List Fields). l ++ command ∷ []) s.parts ∙ append_assoc s.check s.chunks (command ∷ []);
  of_check = s.of_check;
  pieces = pieces_on supply t 0 s.chunks from command upto s.pieces next;
  passed = s.passed;
  unneeded = s.unneeded;
  nothing = λ is. absurd cc;
}

-- a file that has no full chunk needs no check
check_comes : (t : PutTask) (ever : Past) (checked : Bool) (check : List Fields) → (checked ≡ true → CheckPasses ever (put_bucket t) check) → NeedsNoCheck t checked → t.chunk ≤ total t.pieces → CheckPasses ever (put_bucket t) check
check_comes t ever checked check passed (inl is) full = passed is
check_comes t ever checked check passed (inr small) full = absurd (omega (arith, small, full))

-- where nothing is removed
pub only_chunks : (upto : ℕ) → (0 < upto) ⊎ (false ≡ true) → 0 < upto
only_chunks upto (inl more) = more
only_chunks upto (inr bad) = absurd cc

pub sends_chunks : (supply : Supply) (t : PutTask) (ever : Past) (commands : List Fields) (checked : Bool) (upto : ℕ) → (0 < upto → NeedsNoCheck t checked) → SentChunks supply t ever commands checked upto → PutSends supply t ever commands upto None false
sends_chunks supply t ever commands checked upto may s = record {
  check = s.check;
  chunks = s.chunks;
  parts = s.parts ∙ ap (λ (l : List Fields). s.check ++ l) (sym (append-nil s.chunks));
  of_check = s.of_check;
  pieces = s.pieces;
  checked = λ some full. check_comes t ever checked s.check s.passed (may (only_chunks upto some)) full;
  unneeded = s.unneeded;
  recorded = λ m is. absurd cc;
  timely = λ m is. absurd cc;
}

pub last_more : (supply : Supply) (t : PutTask) (ever : Past) (commands : List Fields) (checked : Bool) (from upto : ℕ) (command : Fields) → InsertsChunks supply t from upto command → SentChunks supply t ever commands checked from → NeedsNoCheck t checked → PutSends supply t ever (commands ++ command ∷ []) upto None false
last_more supply t ever commands checked from upto command next s may = record {
  check = s.check;
  chunks = s.chunks ++ command ∷ [];
  parts = ap (λ (l : List Fields). l ++ command ∷ []) s.parts ∙ append_assoc s.check s.chunks (command ∷ []) ∙ ap (λ (l : List Fields). s.check ++ l) (sym (append-nil (s.chunks ++ command ∷ [])));
  of_check = s.of_check;
  pieces = pieces_on supply t 0 s.chunks from command upto s.pieces next;
  checked = λ some full. check_comes t ever checked s.check s.passed may full;
  unneeded = s.unneeded;
  recorded = λ m is. absurd cc;
  timely = λ m is. absurd cc;
}

pub record_more : (supply : Supply) (t : PutTask) (ever : Past) (commands : List Fields) (moment : ℤ) (command : Fields) → IsMoment supply.moment moment → command ≡ record_insert t moment → SentAll supply t ever commands None → SentAll supply t ever (commands ++ command ∷ []) (Some moment)
record_more supply t ever commands moment command its is s = record {
  check = s.check;
  chunks = s.chunks;
  parts = ap (λ (l : List Fields). l ++ command ∷ []) s.parts ∙ append_assoc s.check (s.chunks ++ []) (command ∷ []) ∙ ap (λ (l : List Fields). s.check ++ l) (append_assoc s.chunks [] (command ∷ [])) ∙ ap (λ (c : Fields). s.check ++ (s.chunks ++ c ∷ [])) is;
  of_check = s.of_check;
  pieces = s.pieces;
  checked = s.checked;
  unneeded = s.unneeded;
  recorded = λ m there. refl;
  timely = λ m there. (let same : moment ≡ m = cc in subst (IsMoment supply.moment) same its);
}

-- ---- the way back

-- behind some chunks
pub until_chunks : (supply : Supply) (t : PutTask) (R : Reach) (ever : Past) (past : Past) (commands : List Fields) (checked : Bool) (upto : ℕ) (e : Error) → NeedsNoCheck t checked → IsErrorBehind supply t past upto None e → R upto None → SentChunks supply t ever commands checked upto → SentUntil supply t R ever past commands (Some e) false
until_chunks supply t R ever past commands checked upto e may holds near s = record {
  upto = upto;
  moment = None;
  sends = record {
    check = s.check;
    chunks = s.chunks;
    parts = s.parts ∙ ap (λ (l : List Fields). s.check ++ l) (sym (append-nil s.chunks));
    of_check = s.of_check;
    pieces = s.pieces;
    checked = λ some full. check_comes t ever checked s.check s.passed may full;
    unneeded = s.unneeded;
    recorded = λ m is. absurd cc;
    timely = λ m is. absurd cc;
  };
  behind = λ full. check_comes t ever checked s.check s.passed may full;
  holds = (holds, near);
}

-- behind all chunks
pub until_all : (supply : Supply) (t : PutTask) (R : Reach) (ever : Past) (past : Past) (commands : List Fields) (moment : Option ℤ) (e : Error) → 0 < t.chunk → IsErrorBehind supply t past (length (file_chunks t)) moment e → R (length (file_chunks t)) moment → SentAll supply t ever commands moment → SentUntil supply t R ever past commands (Some e) false
until_all supply t R ever past commands moment e room holds near s = record { upto = length (file_chunks t); moment = moment; sends = s; behind = λ full. s.checked (inl (some_chunks t room full)) full; holds = (holds, near) }

pub removal_more : (supply : Supply) (t : PutTask) (R : Reach) (ever : Past) (past : Past) (commands : List Fields) (command : Fields) (error : Option Error) → command ≡ chunks_removal t → SentUntil supply t R ever past commands error false → SentUntil supply t R ever past (commands ++ command ∷ []) error true
removal_more supply t R ever past commands command error is s =
    let p = s.sends in
    let R : List Fields = record_at t s.moment in
    record {
      upto = s.upto;
      moment = s.moment;
      sends = record {
        check = p.check;
        chunks = p.chunks;
        parts = ap (λ (l : List Fields). l ++ command ∷ []) p.parts ∙ append_assoc p.check (p.chunks ++ (R ++ [])) (command ∷ [])
            ∙ ap (λ (l : List Fields). p.check ++ l) (append_assoc p.chunks (R ++ []) (command ∷ []) ∙ ap (λ (l : List Fields). p.chunks ++ l) (append_assoc R [] (command ∷ [])))
            ∙ ap (λ (c : Fields). p.check ++ (p.chunks ++ (R ++ c ∷ []))) is;
        of_check = p.of_check;
        pieces = p.pieces;
        checked = λ some full. s.behind full;
        unneeded = p.unneeded;
        recorded = p.recorded;
        timely = p.timely;
      };
      behind = s.behind;
      holds = s.holds;
    }

-- ---- a write

-- what a command that is sent once comes to, before which the one holds, and the other behind it: one that failed and was not sent ran out of memory
abbrev pub OnceHeard : (List Fields → Type 0) → (List Fields → Type 0) → Step Sending (List ℕ) → List Fields → Type 0
OnceHeard Before Behind (came.Pending s) commands = Around s.stage (Before commands) (Behind commands)
OnceHeard Before Behind (came.Done bytes) commands = Behind commands
OnceHeard Before Behind (came.Failed e) commands = Behind commands ⊎ (Before commands × (e.kind ≡ kind.OutOfMemory))

module _ (old new : Awaited) (log log' : LogTold) (wire : ℤ) (s : Sending) (single : s.retries ≡ false) (Before Behind : List Fields → Type 0) (send : (l : List Fields) → Before l → Behind (l ++ fields s.command ∷ [])) (commands : List Fields) where
  abbrev pub Then : (List Fields → Type 0) → Type 0
  Then P = (more : List Fields) × AddsJust log log' more × P (commands ++ more)

  first_sent : (stage : Stage) → Around stage (Before commands) (Behind commands) → AddsFirst log log' (fields s.command) (ticket_at stage) → Then Behind
  first_sent unsent h adds = (fields s.command ∷ [], adds, send commands h)
  first_sent (first ticket) h adds = ([], adds, subst Behind (sym (append-nil commands)) h)
  first_sent (second ticket) h adds = ([], adds, subst Behind (sym (append-nil commands)) h)

  just_adds : (seen : Sight) → Adds log log' s.command seen → AddsJust log log' (fields s.command ∷ [])
  just_adds seen adds calls told =
      let add = adds calls told in
      let call : Call = record { command = s.command; position = add.0; seen = seen } in
      (calls ++ call ∷ [], add.1, map-append (λ (c : Call). fields c.command) calls (call ∷ []))

  -- where nothing was added, the first attempt was not sent, or was sent before
  none_sent : (e : Error) (stage : Stage) (attempt : Attempt) → Tries old new log log' s.command stage attempt → AttemptFails attempt wire e → Around stage (Before commands) (Behind commands) → AddsJust log log' [] → Then (OnceHeard Before Behind (came.Failed e))
  none_sent e unsent not_sent tries gives h adds = ([], adds, inr (subst Before (sym (append-nil commands)) h, ap (λ (x : Error). x.kind) gives))
  none_sent e unsent (waits given) tries gives h adds = absurd gives
  none_sent e unsent (answered seen) tries gives h adds = (fields s.command ∷ [], just_adds seen tries.adds, inl (send commands h))
  none_sent e (first ticket) attempt tries gives h adds = ([], adds, inl (subst Behind (sym (append-nil commands)) h))
  none_sent e (second ticket) attempt tries gives h adds = ([], adds, inl (subst Behind (sym (append-nil commands)) h))

  waits_behind : (stage : Stage) (ticket : ℕ) (l : List Fields) → ticket_at stage ≡ Some ticket → Behind l → Around stage (Before l) (Behind l)
  waits_behind unsent ticket l held h = absurd cc
  waits_behind (first n) ticket l held h = h
  waits_behind (second n) ticket l held h = h

  -- A poll of it sends it where it was not sent, and never again.
  pub once_sent : Around s.stage (Before commands) (Behind commands) → (c : Step Sending (List ℕ)) → Runs old new log log' wire s c → Then (OnceHeard Before Behind c)
  once_sent h (came.Pending s') runs =
      let p = pending_first old new log log' wire s single s' runs in
      let f = first_sent s.stage h p.0 in
      (f.0, f.1, waits_behind s'.stage p.2.0 (commands ++ f.0) p.2.1 f.2)
  once_sent h (came.Done bytes) runs = first_sent s.stage h (done_first old new log log' wire s single bytes runs)
  once_sent h (came.Failed e) runs = elim (failed_first old new log log' wire s single e runs) [
    | inl adds ↦ let f = first_sent s.stage h adds in (f.0, f.1, inl f.2)
    | inr none ↦ elim runs [
      | inl once ↦ none_sent e s.stage once.attempt once.tries once.gives h none
      | inr twice ↦ absurd (never_again s.retries s.stage twice.attempt single twice.repeated)
    ]
  ]
