-- The namespace of a cursor stays one that a server takes.
use Rattle.std.proofs.Common.{◌≡◌, ℕ, zero, suc, ℤ, Bool, true, false, List, Option, refl, sym, ap, ◌∙◌, subst}
use Rattle.mg_bson.specs.Raw.{fields}
use Rattle.mg_link.specs.Exec.{Sending}
use Rattle.mg_link.specs.Link.{Awaited, LogTold}
use Rattle.mg_link.specs.Session.{Session}
use Rattle.mg_server.specs.Step.{ends_cursor}
use Rattle.mg_link.specs.declared.action.Step.{Step}
use Rattle.mg_link.specs.declared.action.Step.TheVariants as step
use Rattle.mg_link.specs.declared.error.ErrorKind.{ErrorKind}
use Rattle.mg_link.specs.declared.error.ErrorKind.TheVariants as kind
use Rattle.mg_ops.specs.Naming.{IsNamed}
use Rattle.mg_ops.proofs.Reading.{named_read}
use Rattle.mg_cursor.specs.Client.{ClientCursor, behind_kind, unless_ended}
use Rattle.mg_cursor.specs.Documents.{AdvancesOnce, DocumentCursor, gives, polls}
use Rattle.mg_cursor.specs.Polling.{Hears, PollsNext, ReadsReply, begins, broke, gave, goes_on, hands_out, is_over, not_built}
use Rattle.mg_cursor.specs.Seeking.{EndsSeeking, SeeksDocument, TriesAdvance, kept_behind, session_after}
use Rattle.mg_cursor.specs.declared.polls.AdvancePoll.{AdvancePoll}
use Rattle.mg_cursor.specs.declared.polls.NextPoll.{NextPoll}
use Rattle.mg_cursor.specs.declared.polls.TryPoll.{TryPoll}
use Rattle.mg_cursor.specs.declared.polls.TryPoll.TheVariants as try
use Rattle.mg_cursor.specs.declared.results.AdvanceResult.TheVariants as result
use Rattle.mg_cursor.proofs.Advancing.{takes_cursor}

-- ---- a poll for the next batch

ended_space : (ended : Bool) (c : ClientCursor) → (unless_ended ended c).space ≡ c.space
ended_space true c = refl
ended_space false c = refl

behind_space : (k : ErrorKind) (c : ClientCursor) → (behind_kind k c).space ≡ c.space
behind_space kind.Io c = refl
behind_space (kind.Command refusal) c = ended_space (ends_cursor refusal.code) c
behind_space _ c = refl

-- a cursor with the same namespace
named_as : (c c' : ClientCursor) → c'.space ≡ c.space → IsNamed c.space → IsNamed c'.space
named_as c c' same named = subst IsNamed (sym same) named

read_named : (c : ClientCursor) (reply : List ℕ) (c' : ClientCursor) (r : NextPoll) → ReadsReply c reply c' r → IsNamed c.space → IsNamed c'.space
read_named c reply c' r (gave said says is answer) named = subst IsNamed (sym (ap (λ (x : ClientCursor). x.space) is)) (named_read (fields reply) said says)
read_named c reply c' r (broke e fails is answer) named = named_as c c' (ap (λ (x : ClientCursor). x.space) is) named

hears_named : (c : ClientCursor) (came : Step Sending (List ℕ)) (c' : ClientCursor) (r : NextPoll) → Hears c came c' r → IsNamed c.space → IsNamed c'.space
hears_named c (step.Pending sending) c' r h named = named_as c c' (ap (λ (x : ClientCursor). x.space) h.0) named
hears_named c (step.Done reply) c' r h named = read_named c reply c' r h named
hears_named c (step.Failed e) c' r h named = named_as c c' (ap (λ (x : ClientCursor). x.space) h.0 ∙ behind_space e.kind c) named

pub next_named : (old new : Awaited) (log log' : LogTold) (wire : ℤ) (session : Option Session) (started : Bool) (c c' : ClientCursor) (r : NextPoll) → PollsNext old new log log' wire session started c c' r → IsNamed c.space → IsNamed c'.space
next_named old new log log' wire session started c c' r (hands_out reply doing quiet none is answer) named = named_as c c' (ap (λ (x : ClientCursor). x.space) is) named
next_named old new log log' wire session started c c' r (is_over doing over quiet none is answer) named = named_as c c' (ap (λ (x : ClientCursor). x.space) is) named
next_named old new log log' wire session started c c' r (not_built doing may e fails quiet none is answer) named = named_as c c' (ap (λ (x : ClientCursor). x.space) is) named
next_named old new log log' wire session started c c' r (begins doing may sending new_is runs) named = hears_named c runs.came c' r runs.hears named
next_named old new log log' wire session started c c' r (goes_on sending doing runs) named = hears_named c runs.came c' r runs.hears named

-- ---- an advance, and calls of advances

advance_named : (old new : Awaited) (log log' : LogTold) (wire : ℤ) (session : Option Session) (started : Bool) (d d' : DocumentCursor) (r : TryPoll) → AdvancesOnce old new log log' wire session started d d' r → IsNamed d.cursor.space → IsNamed d'.cursor.space
advance_named old new log log' wire session started d d' r (gives x xs these quiet none is answer) named = named_as d.cursor d'.cursor (ap (λ (e : DocumentCursor). e.cursor.space) is) named
advance_named old new log log' wire session started d d' r (polls none_left c p asked takes) named =
    named_as c d'.cursor (ap (λ (x : ClientCursor). x.space) (takes_cursor d c p d' r takes)) (next_named old new log log' wire session started d.cursor c p asked named)

kept_space : (p : TryPoll) (d : DocumentCursor) → (kept_behind p d).cursor.space ≡ d.cursor.space
kept_space try.Pending d = refl
kept_space (try.Ready a) d = refl
kept_space (try.Failed e) d = refl

pub tries_named : (old new : Awaited) (log log' : LogTold) (wire : ℤ) (session : Option Session) (started : Bool) (d d' : DocumentCursor) (r : TryPoll) → TriesAdvance old new log log' wire session started d d' r → IsNamed d.cursor.space → IsNamed d'.cursor.space
tries_named old new log log' wire session started d d' r h named =
    named_as h.advanced.cursor d'.cursor (ap (λ (e : DocumentCursor). e.cursor.space) h.kept ∙ kept_space r h.advanced) (advance_named old new log log' wire session started d h.advanced r h.tries named)

ended_named : (p : TryPoll) (e d' : DocumentCursor) (r : AdvancePoll) → EndsSeeking p e d' r → d'.cursor.space ≡ e.cursor.space
ended_named try.Pending e d' r ends = ap (λ (x : DocumentCursor). x.cursor.space) ends.0
ended_named (try.Ready a) e d' r ends = ap (λ (x : DocumentCursor). x.cursor.space) ends.1
ended_named (try.Failed f) e d' r ends = ap (λ (x : DocumentCursor). x.cursor.space) ends.0

pub seeks_named : (n : ℕ) (old new : Awaited) (log log' : LogTold) (wire : ℤ) (session : Option Session) (starts : ℕ) (d d' : DocumentCursor) (r : AdvancePoll) → SeeksDocument n old new log log' wire session starts d d' r → IsNamed d.cursor.space → IsNamed d'.cursor.space
unfolding SeeksDocument
seeks_named zero old new log log' wire session starts d d' r last named =
    named_as last.advanced.cursor d'.cursor (ended_named last.poll last.advanced d' r last.ends) (advance_named old new log log' wire session last.started d last.advanced last.poll last.tries named)
seeks_named (suc n) old new log log' wire session starts d d' r more named =
    let on = more.5 in
    let between = named_as on.advanced.cursor more.4.cursor (ap (λ (x : DocumentCursor). x.cursor.space) on.counts) (advance_named old more.0 log more.1 wire session more.2 d on.advanced (try.Ready result.Waiting) on.tries named) in
    seeks_named n more.0 new more.1 log' wire (session_after more.2 session) more.3 more.4 d' r more.7 between
