-- What the polls of a get's reads send, and what a read leaves as it is.
use Rattle.std.proofs.Common.{◌≡◌, ◌<◌, ◌++◌, ◌∷◌, ℕ, zero, suc, ℤ, Bool, true, List, [], Option, Some, None, refl, sym, ap, ◌∙◌, subst, arith}
use Rattle.mg_bson.specs.Raw.{fields}
use Rattle.mg_bson.specs.Tree.{Fields, Tree}
use Rattle.mg_link.specs.Errors as errors
use Rattle.mg_link.specs.Exec.{Sending}
use Rattle.mg_link.specs.Link.{Awaited, LogTold}
use Rattle.mg_link.specs.Session.{Session}
use Rattle.mg_link.specs.declared.action.Step.{Step}
use Rattle.mg_link.specs.declared.action.Step.TheVariants as step
use Rattle.mg_link.specs.declared.error.ErrorKind.TheVariants as kind
use Rattle.mg_ops.specs.Cursors.{OpensWith, next_command}
use Rattle.mg_ops.specs.declared.cursor_reply.CursorSpecification.{CursorSpecification}
use Rattle.mg_cursor.specs.Client as client
use Rattle.mg_cursor.specs.Client.{ClientCursor, IsAsking, IsSound, get_more, new_client}
use Rattle.mg_cursor.specs.Polling as polling
use Rattle.mg_cursor.specs.Polling.{Hears, PollsNext, broke, gave}
use Rattle.mg_cursor.specs.declared.polls.NextPoll.{NextPoll}
use Rattle.mg_cursor.specs.declared.polls.NextPoll.TheVariants as next
use Rattle.mg_change.proofs.Sent.{sent_on}
use Rattle.mg_change.proofs.Such.{AddsSuch, AreAll, again_such, such_none}
use Rattle.mg_records.specs.FileRecords.{FileRecord}
use Rattle.mg_chunks.specs.Broken.{broken}
use Rattle.mg_gridfs.specs.Buckets.{ClientBucket}
use Rattle.mg_gridfs.specs.Commands.{found_lines, listed_lines}
use Rattle.mg_gridfs.specs.Downloaded.{IsPlainAt}
use Rattle.mg_gridfs.specs.Downloads as downloads
use Rattle.mg_chunks.specs.Chunks.{missing_chunk}
use Rattle.mg_gridfs.specs.Downloads.{ClientDownload, Doing, IsSoundDownload, download_ticket, empty_download, new_download}
use Rattle.mg_gridfs.specs.Findings as findings
use Rattle.mg_gridfs.specs.Findings.{BeginsFind, ClientFinding, FindsOn, HearsList, HearsRecord, Opens, OpensFile}
use Rattle.mg_gridfs.specs.ReadCauses.{cursor_in}
use Rattle.mg_gridfs.specs.Reads as fetching
use Rattle.mg_gridfs.specs.Reads.{Concludes, EndsFetch, Fetched, Fetches, Fills, HandsOut, Reads, ReadsNone, TakesOne, with_chunks}
use Rattle.mg_gridfs.specs.declared.polls.ReadPoll.{ReadPoll}
use Rattle.mg_gridfs.specs.declared.polls.ReadPoll.TheVariants as read
use Rattle.mg_gridfs.proofs.Sounding.{rest_ticket}
use Rattle.mg_players.specs.Buckets.{plain_bucket}
use Rattle.mg_players.specs.Gets.{AsksForMore, AsksPlainly, GetTask, no_manner}
use Rattle.mg_players.proofs.Sends.{manner_behind}

-- ---- commands of one kind

all_joined : (may : Fields → Type 0) (cs ds : List Fields) → AreAll may cs → AreAll may ds → AreAll may (cs ++ ds)
all_joined may [] ds a b = b
all_joined may (c ∷ cs) ds a b = (a.0, all_joined may cs ds a.1 b)

module _ (may : Fields → Type 0) where
  such_both : (log mid log' : LogTold) → AddsSuch may log mid → AddsSuch may mid log' → AddsSuch may log log'
  such_both log mid log' a b = record {
    commands = a.commands ++ b.commands;
    adds = sent_on log mid log' a.commands b.commands a.adds b.adds;
    such = all_joined may a.commands b.commands a.such b.such;
  }

-- ---- the commands of a bucket that is a copy

pub found_same : (g : GetTask) (b : ClientBucket) (id : Tree) → IsPlainAt b g.at → found_lines b id ≡ found_lines (plain_bucket g.at) id
found_same g b id is = rw (is.named.place.files, is.no_concern, is.no_criteria) refl

pub listed_same : (g : GetTask) (b : ClientBucket) (id : Tree) → IsPlainAt b g.at → listed_lines b id ≡ listed_lines (plain_bucket g.at) id
listed_same g b id is = rw (is.named.place.chunks, is.no_concern, is.no_criteria) refl

-- ---- a batch of a read

-- it reads plainly on
pub record IsPlainCursor (c : ClientCursor) : Type 0 where
  pub sound : IsSound true c
  pub manner : c.manner ≡ no_manner

module _ (old new : Awaited) (log log' : LogTold) (wire : ℤ) (started : Bool) (c c' : ClientCursor) where
  hears_manner : (came : Step Sending (List ℕ)) (r : NextPoll) → Hears c came c' r → c'.manner ≡ c.manner
  hears_manner (step.Pending s) r h = ap (λ (x : ClientCursor). x.manner) h.0
  hears_manner (step.Done bytes) r (gave said says is answer) = ap (λ (x : ClientCursor). x.manner) is
  hears_manner (step.Done bytes) r (broke e by is answer) = ap (λ (x : ClientCursor). x.manner) is
  hears_manner (step.Failed e) r h = ap (λ (x : ClientCursor). x.manner) h.0 ∙ manner_behind e.kind c

  polls_manner : (r : NextPoll) → PollsNext old new log log' wire None started c c' r → c'.manner ≡ c.manner
  polls_manner r (polling.hands_out reply at quiet unstarted is answer) = ap (λ (x : ClientCursor). x.manner) is
  polls_manner r (polling.is_over at over quiet unstarted is answer) = ap (λ (x : ClientCursor). x.manner) is
  polls_manner r (polling.not_built at may_ask e by quiet unstarted is answer) = ap (λ (x : ClientCursor). x.manner) is
  polls_manner r (polling.begins at may_ask sending new_one h) = hears_manner h.came r h.hears
  polls_manner r (polling.goes_on sending at h) = hears_manner h.came r h.hears

  -- behind a batch nothing is on its way
  hears_rest : (came : Step Sending (List ℕ)) (reply : List ℕ) → Hears c came c' (next.Batch reply) → c'.doing ≡ client.rests
  hears_rest (step.Pending s) reply h = absurd (let bad = h.1 in cc)
  hears_rest (step.Done bytes) reply (gave said says is answer) = ap (λ (x : ClientCursor). x.doing) is
  hears_rest (step.Done bytes) reply (broke e by is answer) = ap (λ (x : ClientCursor). x.doing) is
  hears_rest (step.Failed e) reply h = absurd (let bad = h.1 in cc)

  polls_rest : (reply : List ℕ) → PollsNext old new log log' wire None started c c' (next.Batch reply) → c'.doing ≡ client.rests
  polls_rest reply (polling.hands_out other at quiet unstarted is answer) = ap (λ (x : ClientCursor). x.doing) is
  polls_rest reply (polling.is_over at over quiet unstarted is answer) = absurd cc
  polls_rest reply (polling.not_built at may_ask e by quiet unstarted is answer) = absurd cc
  polls_rest reply (polling.begins at may_ask sending new_one h) = hears_rest h.came reply h.hears
  polls_rest reply (polling.goes_on sending at h) = hears_rest h.came reply h.hears

  module _ (plain : IsPlainCursor c) where
    more_so : (command : Fields) → command ≡ get_more c None → AsksForMore command
    more_so command is = record { cursor = c.id; space = c.space; asks_so = is ∙ ap (next_command c.id c.space) plain.manner }

    polls_such : (r : NextPoll) → PollsNext old new log log' wire None started c c' r → AddsSuch AsksForMore log log'
    polls_such r (polling.hands_out reply at quiet unstarted is answer) = such_none AsksForMore log log' quiet.log_same
    polls_such r (polling.is_over at over quiet unstarted is answer) = such_none AsksForMore log log' quiet.log_same
    polls_such r (polling.not_built at may_ask e by quiet unstarted is answer) = such_none AsksForMore log log' quiet.log_same
    polls_such r (polling.begins at may_ask sending new_one h) = again_such AsksForMore old new log log' wire sending h.came started (more_so (fields sending.command) new_one.command_is) h.runs
    polls_such r (polling.goes_on sending at h) =
        let own : IsAsking true c sending = subst (client.SoundBy true c) at plain.sound in
        again_such AsksForMore old new log log' wire sending h.came started (more_so (fields sending.command) (own.waits_on.command_is ∙ ap (λ (s : Option Session). get_more c s) own.plainly)) h.runs

-- ---- all batches of a poll

-- each cursor of it reads plainly on
abbrev pub IsPlainFetch : Doing → Type 0
IsPlainFetch doing = (c : ClientCursor) → cursor_in doing ≡ Some c → IsPlainCursor c

pub cursor_at : (d : ClientDownload) (c : ClientCursor) (missing empty : ℕ) → d.doing ≡ downloads.reads c missing empty → IsPlainFetch d.doing → IsPlainCursor c
cursor_at d c missing empty at plain = plain c (ap cursor_in at)

-- no read goes on
abbrev pub IsRested : Doing → Type 0
IsRested (downloads.idle cursor) = Unit {0}
IsRested (downloads.reads cursor missing empty) = ⊥
IsRested downloads.ended = Unit {0}
IsRested downloads.spoiled = Unit {0}

-- more may be read, or all was given
abbrev pub IsGiving : Doing → Type 0
IsGiving (downloads.idle cursor) = Unit {0}
IsGiving (downloads.reads cursor missing empty) = ⊥
IsGiving downloads.ended = Unit {0}
IsGiving downloads.spoiled = ⊥

-- what a poll of a read sent, and what it left as it is
pub record ReadsOn (log log' : LogTold) (d d' : ClientDownload) : Type 0 where
  pub such : AddsSuch AsksForMore log log'
  pub file : d'.file ≡ d.file
  pub plain : AsksPlainly d'

-- a cursor that is this one is plain
one_plain : (doing : Doing) (c : ClientCursor) → cursor_in doing ≡ Some c → c.manner ≡ no_manner → (x : ClientCursor) → cursor_in doing ≡ Some x → x.manner ≡ no_manner
one_plain doing c here manner x is = let same : c ≡ x = (let e : Some c ≡ Some x = sym here ∙ is in cc) in subst (λ (y : ClientCursor). y.manner ≡ no_manner) same manner

none_plain : (d : ClientDownload) → cursor_in d.doing ≡ None → AsksPlainly d
none_plain d none x is = absurd (let e : Some x ≡ None = sym is ∙ none in cc)

-- a batch is taken, behind which it goes on
chunks_file : (chunks : List (List ℕ)) (c : ClientCursor) (missing empty : ℕ) (d : ClientDownload) → (with_chunks chunks c missing empty d).file ≡ d.file
chunks_file [] c missing empty d = refl
chunks_file (b ∷ bs) c missing empty d = refl

pub chunks_cursor : (chunks : List (List ℕ)) (c : ClientCursor) (missing empty : ℕ) (d : ClientDownload) → cursor_in (with_chunks chunks c missing empty d).doing ≡ Some c
chunks_cursor [] c missing empty d = refl
chunks_cursor (b ∷ bs) c missing empty d = refl

pub record OneTaken (log log' : LogTold) (d m : ClientDownload) : Type 0 where
  pub such : AddsSuch AsksForMore log log'
  pub file : m.file ≡ d.file
  pub plain : IsPlainFetch m.doing

pub one_taken : (old mid : Awaited) (log log_mid : LogTold) (wire : ℤ) (d m : ClientDownload) → IsPlainFetch d.doing → TakesOne old mid log log_mid wire d m → OneTaken log log_mid d m
one_taken old mid log log_mid wire d m plain one =
    let here = cursor_at d one.cursor one.missing one.empty one.at plain in
    let rests = polls_rest old mid log log_mid wire one.started one.cursor one.behind one.reply one.polls in
    let manner = polls_manner old mid log log_mid wire one.started one.cursor one.behind (next.Batch one.reply) one.polls ∙ here.manner in
    let t = one.takes in
    let behind : IsPlainCursor one.behind = record { sound = subst (client.SoundBy true one.behind) (sym rests) tt; manner = manner } in
    record {
      such = polls_such old mid log log_mid wire one.started one.cursor one.behind here (next.Batch one.reply) one.polls;
      file = ap (λ (x : ClientDownload). x.file) t.taken ∙ chunks_file t.chunks one.behind one.missing one.empty d;
      plain = λ c is.
          let at : cursor_in m.doing ≡ Some one.behind = ap (λ (x : ClientDownload). cursor_in x.doing) t.taken ∙ chunks_cursor t.chunks one.behind one.missing one.empty d in
          let same : one.behind ≡ c = (let e : Some one.behind ≡ Some c = sym at ∙ is in cc) in
          subst IsPlainCursor same behind;
    }

ends_fetching : (old new : Awaited) (log log' : LogTold) (wire : ℤ) (d d' : ClientDownload) (f : Fetched) → IsPlainFetch d.doing → EndsFetch old new log log' wire d d' f → ReadsOn log log' d d'
ends_fetching old new log log' wire d d' f plain (fetching.none_missing c empty at quiet is answer) = record {
  such = such_none AsksForMore log log' quiet.log_same;
  file = ap (λ (x : ClientDownload). x.file) is;
  plain = one_plain d'.doing c (ap (λ (x : ClientDownload). cursor_in x.doing) is) (cursor_at d c 0 empty at plain).manner;
}
ends_fetching old new log log' wire d d' f plain (fetching.over c missing empty at short started behind polls is answer) =
    let here = cursor_at d c missing empty at plain in
    record {
      such = polls_such old new log log' wire started c behind here next.End polls;
      file = ap (λ (x : ClientDownload). x.file) is;
      plain = one_plain d'.doing behind (ap (λ (x : ClientDownload). cursor_in x.doing) is) (polls_manner old new log log' wire started c behind next.End polls ∙ here.manner);
    }
ends_fetching old new log log' wire d d' f plain (fetching.pends c missing empty at short started behind polls is answer) =
    let here = cursor_at d c missing empty at plain in
    record {
      such = polls_such old new log log' wire started c behind here next.Pending polls;
      file = ap (λ (x : ClientDownload). x.file) is;
      plain = one_plain d'.doing behind (ap (λ (x : ClientDownload). cursor_in x.doing) is) (polls_manner old new log log' wire started c behind next.Pending polls ∙ here.manner);
    }
ends_fetching old new log log' wire d d' f plain (fetching.no_more c missing empty at short started behind e polls is answer) = record {
  such = polls_such old new log log' wire started c behind (cursor_at d c missing empty at plain) (next.Failed e) polls;
  file = ap (λ (x : ClientDownload). x.file) is;
  plain = none_plain d' (ap (λ (x : ClientDownload). cursor_in x.doing) is);
}
ends_fetching old new log log' wire d d' f plain (fetching.not_taken c missing empty at short started behind reply e polls why is answer) = record {
  such = polls_such old new log log' wire started c behind (cursor_at d c missing empty at plain) (next.Batch reply) polls;
  file = ap (λ (x : ClientDownload). x.file) is;
  plain = none_plain d' (ap (λ (x : ClientDownload). cursor_in x.doing) is);
}

fetches_on : (n : ℕ) (old new : Awaited) (log log' : LogTold) (wire : ℤ) (d d' : ClientDownload) (f : Fetched) → IsPlainFetch d.doing → Fetches n old new log log' wire d d' f → ReadsOn log log' d d'
unfolding Fetches
fetches_on zero old new log log' wire d d' f plain h = ends_fetching old new log log' wire d d' f plain h
fetches_on (suc n) old new log log' wire d d' f plain h =
    let one = one_taken old h.0 log h.1 wire d h.2 plain h.3 in
    let rest = fetches_on n h.0 new h.1 log' wire h.2 d' f one.plain h.4 in
    record { such = such_both AsksForMore log h.1 log' one.such rest.such; file = rest.file ∙ one.file; plain = rest.plain }

-- ---- a read

-- what is given leaves the cursor where it is
hands_out : (room : ℕ) (c : ClientCursor) (d d' : ClientDownload) (given : List ℕ) (r : ReadPoll) → c.manner ≡ no_manner → HandsOut room c d d' given r → (d'.file ≡ d.file) × AsksPlainly d'
hands_out room c d d' given r manner (fetching.goes_on more these is answer) =
    (ap (λ (x : ClientDownload). x.file) is, one_plain d'.doing c (ap (λ (x : ClientDownload). cursor_in x.doing) is) manner)
hands_out room c d d' given r manner (fetching.ends all over counts these is answer) = (ap (λ (x : ClientDownload). x.file) is, none_plain d' (ap (λ (x : ClientDownload). cursor_in x.doing) is))
hands_out room c d d' given r manner (fetching.miscounts all over counts these is answer) = (ap (λ (x : ClientDownload). x.file) is, none_plain d' (ap (λ (x : ClientDownload). cursor_in x.doing) is))

same_plain : (d d' : ClientDownload) → d' ≡ d → AsksPlainly d → AsksPlainly d'
same_plain d d' is plain = subst AsksPlainly (sym is) plain

concludes_so : (room : ℕ) (f : Fetched) (d d' : ClientDownload) (given : List ℕ) (r : ReadPoll) → AsksPlainly d → Concludes room f d d' given r → (d'.file ≡ d.file) × AsksPlainly d'
concludes_so room fetching.waits d d' given r plain h = (ap (λ (x : ClientDownload). x.file) h.0, same_plain d d' h.0 plain)
concludes_so room fetching.enough d d' given r plain h = hands_out room h.0 d d' given r (plain h.0 (ap cursor_in h.1)) h.2
concludes_so room (fetching.fails e) d d' given r plain h = (ap (λ (x : ClientDownload). x.file) h.0, same_plain d d' h.0 plain)

fills_on : (old new : Awaited) (log log' : LogTold) (wire : ℤ) (room : ℕ) (d d' : ClientDownload) (given : List ℕ) (r : ReadPoll) → IsPlainFetch d.doing → Fills old new log log' wire room d d' given r → ReadsOn log log' d d'
fills_on old new log log' wire room d d' given r plain h =
    let f = fetches_on h.batches old new log log' wire d h.left h.fetched plain h.fetches in
    let c = concludes_so room h.fetched h.left d' given r f.plain h.concludes in
    record { such = f.such; file = c.0 ∙ f.file; plain = c.1 }

-- the cursors of a download are sound
pub plain_by : (d : ClientDownload) (doing : Doing) → downloads.SoundBy d doing → ((c : ClientCursor) → cursor_in doing ≡ Some c → c.manner ≡ no_manner) → IsPlainFetch doing
plain_by d (downloads.idle cursor) sound plain c is = let same : cursor ≡ c = cc in subst IsPlainCursor same (record { sound = sound.1; manner = plain cursor refl })
plain_by d (downloads.reads cursor missing empty) sound plain c is = let same : cursor ≡ c = cc in subst IsPlainCursor same (record { sound = sound.1.sound; manner = plain cursor refl })
plain_by d downloads.ended sound plain c is = absurd cc
plain_by d downloads.spoiled sound plain c is = absurd cc

-- nothing was given, and nothing changed
none_read : (old new : Awaited) (log log' : LogTold) (d d' : ClientDownload) (given : List ℕ) (r : ReadPoll) → AsksPlainly d → ReadsNone old new log log' d d' given r → ReadsOn log log' d d'
none_read old new log log' d d' given r plain h = record { such = such_none AsksForMore log log' h.quiet.log_same; file = ap (λ (x : ClientDownload). x.file) h.same; plain = same_plain d d' h.same plain }

-- A poll of a read asks for more chunks alone, and leaves the record of the file.
pub read_on : (old new : Awaited) (log log' : LogTold) (wire : ℤ) (room : ℕ) (d d' : ClientDownload) (given : List ℕ) (r : ReadPoll) → IsSoundDownload d → AsksPlainly d → Reads old new log log' wire room d d' given r → ReadsOn log log' d d'
read_on old new log log' wire room d d' given r sound plain (fetching.no_room none h) = none_read old new log log' d d' given r plain h
read_on old new log log' wire room d d' given r sound plain (fetching.is_over full over h) = none_read old new log log' d d' given r plain h
read_on old new log log' wire room d d' given r sound plain (fetching.in_hand full c at ahead quiet h) =
    let p = hands_out room c d d' given r (plain c (ap cursor_in at)) h in
    record { such = such_none AsksForMore log log' quiet.log_same; file = p.0; plain = p.1 }
read_on old new log log' wire room d d' given r sound plain (fetching.begins full c at ahead h) =
    let one : IsPlainCursor c = plain_by d d.doing sound.by plain c (ap cursor_in at) in
    let m : ClientDownload = record d { doing = downloads.reads c room 0 } in
    let f = fills_on old new log log' wire room m d' given r (λ x is. let same : c ≡ x = cc in subst IsPlainCursor same one) h in
    record { such = f.such; file = f.file; plain = f.plain }
read_on old new log log' wire room d d' given r sound plain (fetching.goes_on full c missing empty at h) = fills_on old new log log' wire room d d' given r (plain_by d d.doing sound.by plain) h

-- ---- where a read stands behind what it gave

module _ (room : ℕ) (d' : ClientDownload) (given : List ℕ) (n : ℕ) where
  given_out : (c : ClientCursor) (d : ClientDownload) (r : ReadPoll) → r ≡ read.Read n → HandsOut room c d d' given r → IsGiving d'.doing
  given_out c d r e (fetching.goes_on more these is answer) = subst (λ (x : ClientDownload). IsGiving x.doing) (sym is) tt
  given_out c d r e (fetching.ends all over counts these is answer) = subst (λ (x : ClientDownload). IsGiving x.doing) (sym is) tt
  given_out c d r e (fetching.miscounts all over counts these is answer) = absurd (let bad : read.Failed (missing_chunk d.taken) ≡ read.Read n = sym answer ∙ e in cc)

  given_by : (f : Fetched) (d : ClientDownload) (r : ReadPoll) → r ≡ read.Read n → Concludes room f d d' given r → IsGiving d'.doing
  given_by fetching.waits d r e h = absurd (let bad : read.Pending ≡ read.Read n = sym h.2 ∙ e in cc)
  given_by fetching.enough d r e h = given_out h.0 d r e h.2
  given_by (fetching.fails error) d r e h = absurd (let bad : read.Failed error ≡ read.Read n = sym h.2 ∙ e in cc)

giving_rested : (doing : Doing) → IsGiving doing → IsRested doing
giving_rested (downloads.idle cursor) gives = tt
giving_rested (downloads.reads cursor missing empty) gives = absurd gives
giving_rested downloads.ended gives = tt
giving_rested downloads.spoiled gives = tt

over_rested : (doing : Doing) → fetching.IsOver doing → IsRested doing
over_rested (downloads.idle cursor) over = tt
over_rested (downloads.reads cursor missing empty) over = absurd over
over_rested downloads.ended over = tt
over_rested downloads.spoiled over = tt

module _ (old new : Awaited) (log log' : LogTold) (wire : ℤ) (room : ℕ) (d d' : ClientDownload) (given : List ℕ) (r : ReadPoll) where
  none_gives : ReadsNone old new log log' d d' given r → (n : ℕ) → 0 < n → r ≡ read.Read n → IsGiving d'.doing
  none_gives h n more e = let none : 0 ≡ n = (let is : read.Read 0 ≡ read.Read n = sym h.answer ∙ e in cc) in absurd (omega (arith, more, none))

  -- a read that gave some bytes may go on, or gave all
  pub read_gives : Reads old new log log' wire room d d' given r → (n : ℕ) → 0 < n → r ≡ read.Read n → IsGiving d'.doing
  read_gives (fetching.no_room none h) n more e = none_gives h n more e
  read_gives (fetching.is_over full over h) n more e = none_gives h n more e
  read_gives (fetching.in_hand full c at ahead quiet h) n more e = given_out room d' given n c d r e h
  read_gives (fetching.begins full c at ahead h) n more e = given_by room d' given n h.fetched h.left r e h.concludes
  read_gives (fetching.goes_on full c missing empty at h) n more e = given_by room d' given n h.fetched h.left r e h.concludes

  -- where there is room, one that gave its bytes does not go on
  pub read_rested : 0 < room → Reads old new log log' wire room d d' given r → (n : ℕ) → r ≡ read.Read n → IsRested d'.doing
  read_rested some (fetching.no_room none h) n e = absurd (omega (arith, some, none))
  read_rested some (fetching.is_over full over h) n e = subst (λ (x : ClientDownload). IsRested x.doing) (sym h.same) (over_rested d.doing over)
  read_rested some (fetching.in_hand full c at ahead quiet h) n e = giving_rested d'.doing (given_out room d' given n c d r e h)
  read_rested some (fetching.begins full c at ahead h) n e = giving_rested d'.doing (given_by room d' given n h.fetched h.left r e h.concludes)
  read_rested some (fetching.goes_on full c missing empty at h) n e = giving_rested d'.doing (given_by room d' given n h.fetched h.left r e h.concludes)

-- then nothing is on its way
rested_by : (d : ClientDownload) (doing : Doing) → downloads.SoundBy d doing → IsRested doing → downloads.ticket_by doing ≡ None
rested_by d (downloads.idle cursor) sound rests = rest_ticket cursor sound.2
rested_by d (downloads.reads cursor missing empty) sound rests = absurd rests
rested_by d downloads.ended sound rests = refl
rested_by d downloads.spoiled sound rests = refl

pub rested_free : (d : ClientDownload) → IsSoundDownload d → IsRested d.doing → download_ticket d ≡ None
rested_free d sound rests = rested_by d d.doing sound.by rests

-- ---- the download that was opened

-- its chunks are listed, or it has none
pub data IsNewDownload (d : ClientDownload) : Type 0 where
  lists_some : (f : FileRecord) (count : ℕ) (out : CursorSpecification) (bytes : List ℕ) → OpensWith None None None bytes out → d ≡ new_download f count (new_client out) → IsNewDownload d
  has_none : (f : FileRecord) → f.length ≡ 0 → d ≡ empty_download f → IsNewDownload d

module _ (d : ClientDownload) where
  same_opened : (x : ClientDownload) → findings.opens d ≡ findings.opens x → d ≡ x
  same_opened x is = cc

  list_new : (f : FileRecord) (count : ℕ) (came : Step Sending (List ℕ)) → HearsList f count came (findings.opens d) → IsNewDownload d
  list_new f count (step.Pending s) is = absurd (let bad : findings.opens d ≡ findings.waits (findings.lists f count s) = is in cc)
  list_new f count (step.Done bytes) (findings.opened out with is) = lists_some f count out bytes with (same_opened (new_download f count (new_client out)) is)
  list_new f count (step.Done bytes) (findings.broke e why is) = absurd (let bad : findings.opens d ≡ findings.fails e = is in cc)
  list_new f count (step.Failed e) is = absurd (let bad : findings.opens d ≡ findings.fails e = is in cc)

  module _ (wire : ℤ) (b : ClientBucket) where
    file_new : (old new : Awaited) (log log' : LogTold) (f : FileRecord) → OpensFile old new log log' wire b f (findings.opens d) → IsNewDownload d
    file_new old new log log' f (findings.too_many m breaks none is) = absurd (let bad : findings.opens d ≡ findings.fails (broken m) = is in cc)
    file_new old new log log' f (findings.is_empty empty none is) = has_none f empty (same_opened (empty_download f) is)
    file_new old new log log' f (findings.not_built full e why none is) = absurd (let bad : findings.opens d ≡ findings.fails e = is in cc)
    file_new old new log log' f (findings.listed full count counted s new_one on) = list_new f count on.came on.hears

    hears_new : (old new : Awaited) (log log' : LogTold) (id : Tree) (bytes : List ℕ) → HearsRecord old new log log' wire b id bytes (findings.opens d) → IsNewDownload d
    hears_new old new log log' id bytes (findings.none_found reads_so e not_there none is) = absurd (let bad : findings.opens d ≡ findings.fails e = is in cc)
    hears_new old new log log' id bytes (findings.is_found f reads_so on) = file_new old new log log' f on
    hears_new old new log log' id bytes (findings.broke e why none is) = absurd (let bad : findings.opens d ≡ findings.fails e = is in cc)

    finds_new : (old new : Awaited) (log log' : LogTold) (id : Tree) (s : Sending) → FindsOn old new log log' wire b id s (findings.opens d) → IsNewDownload d
    finds_new old new log log' id s (findings.pends still runs is) = absurd (let bad : findings.opens d ≡ findings.waits (findings.finds still) = is in cc)
    finds_new old new log log' id s (findings.hears between log_between bytes runs on) = hears_new between new log_between log' id bytes on
    finds_new old new log log' id s (findings.failed e runs is) = absurd (let bad : findings.opens d ≡ findings.fails e = is in cc)

    begins_new : (old new : Awaited) (log log' : LogTold) (id : Tree) → BeginsFind old new log log' wire b id (findings.opens d) → IsNewDownload d
    begins_new old new log log' id (findings.built s new_one on) = finds_new old new log log' id s on
    begins_new old new log log' id (findings.not_built e why none is) = absurd (let bad : findings.opens d ≡ findings.fails e = is in cc)

  pub opened_new : (old new : Awaited) (log log' : LogTold) (wire : ℤ) (o : ClientFinding) → Opens old new log log' wire o (findings.opens d) → IsNewDownload d
  opened_new old new log log' wire o (findings.no_bucket none quiet is) = absurd (let bad : findings.opens d ≡ findings.fails (errors.plain kind.OutOfMemory) = is in cc)
  opened_new old new log log' wire o (findings.begins b is there on) = begins_new wire b old new log log' o.id on
  opened_new old new log log' wire o (findings.finds_on b is s there on) = finds_new wire b old new log log' o.id s on
  opened_new old new log log' wire o (findings.lists_on b is f count s there on) = list_new f count on.came on.hears

  -- it asks for more without options
  pub new_plain : IsNewDownload d → AsksPlainly d
  new_plain (lists_some f count out bytes with is) =
      let manner : (new_client out).manner ≡ no_manner = rw (with.opens.size_is, with.time_is, with.comment_is) refl in
      one_plain d.doing (new_client out) (ap (λ (x : ClientDownload). cursor_in x.doing) is) manner
  new_plain (has_none f empty is) = none_plain d (ap (λ (x : ClientDownload). cursor_in x.doing) is)

  pub new_giving : IsNewDownload d → IsGiving d.doing
  new_giving (lists_some f count out bytes with is) = subst (λ (x : ClientDownload). IsGiving x.doing) (sym is) tt
  new_giving (has_none f empty is) = subst (λ (x : ClientDownload). IsGiving x.doing) (sym is) tt
