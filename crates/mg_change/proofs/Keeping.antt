-- What is on its way stays the stream's own, step by step.
use Rattle.std.proofs.Common.{◌≡◌, ◌≢◌, ℕ, ℤ, pos, Bool, true, false, List, [], ◌∷◌, Option, Some, None, refl, sym, ap, ◌∙◌, subst, inl, inr, option_map}
use Rattle.std.specs.Prelude.{if◌then◌else◌}
use Rattle.std.specs.Ordering.{int_eq}
use Rattle.mg_bson.specs.Raw.{fields}
use Rattle.mg_bson.specs.Tree.{Tree}
use Rattle.mg_link.specs.Exec.{Runs, Sending, Stage, first, second, unsent, IsFirstTry}
use Rattle.mg_link.specs.Link.{Awaited, LogTold}
use Rattle.mg_link.specs.Namespace.{space}
use Rattle.mg_link.specs.Pinned.{invalidated}
use Rattle.mg_link.specs.Session.{Session}
use Rattle.mg_link.specs.declared.action.Step.{Step}
use Rattle.mg_link.specs.declared.action.Step.TheVariants as step
use Rattle.mg_link.specs.declared.error.Error.{Error}
use Rattle.mg_link.specs.declared.error.ErrorKind.{ErrorKind}
use Rattle.mg_link.specs.declared.error.ErrorKind.TheVariants as kind
use Rattle.mg_link.specs.declared.pinned.PinnedConnection.{PinnedConnection}
use Rattle.mg_link.specs.declared.pinned.PinnedConnection.TheVariants as connection
use Rattle.mg_server.specs.Step.{ends_cursor}
use Rattle.mg_exec.proofs.Execs.{runs_of}
use Rattle.mg_options.specs.declared.change_stream.ChangeStreamOptions.{ChangeStreamOptions}
use Rattle.mg_ops.specs.Cursors.{Cursor}
use Rattle.mg_ops.specs.Naming.{IsNamed}
use Rattle.mg_ops.specs.declared.change_stream.ChangeStreamData.{ChangeStreamData}
use Rattle.mg_ops.proofs.Reading.{named_read}
use Rattle.mg_cursor.specs.Client.{ClientCursor, IsAsking, PlainIf, asks, at_rest, behind_kind, holds, pinned_behind, rests, unless_ended}
use Rattle.mg_cursor.specs.Client as cursors
use Rattle.mg_cursor.specs.Closing.{ClosesBy, ClosingCursor, ClosingPolls, IsClosing, IsKilling, IsLanded, IsNotAsking, IsToKill, KillHears, KillsCursor, LandedBy, begins, goes_on as kill_goes_on, killed_by, kills as kills_it, lands, not_built, nothing_left}
use Rattle.mg_cursor.specs.Polling.{Hears, ReadsReply, broke as unread, gave as read}
use Rattle.mg_cursor.specs.Seeking.{session_after}
use Rattle.mg_cursor.specs.declared.polls.NextPoll.{NextPoll}
use Rattle.mg_cursor.specs.declared.polls.NextPoll.TheVariants as next
use Rattle.mg_cursor.specs.declared.polls.TryPoll.TheVariants as try
use Rattle.mg_cursor.proofs.Keeping.{IsPolled, kills_still, plain_told, polled_on, sound_heard, sound_in_any, to_kill, to_kill_new}
use Rattle.mg_change.specs.ClientStreams.{Aside, ClientStream, Doing, FollowsBy, IsAggregate, IsOnItsWay, IsSaved, IsSound, SoundBy, follows, is_read_again, kills, owes, owing_with, remembered, remembered_empty, renewed, resumes, resuming_in, with_cursor}
use Rattle.mg_change.specs.Steps.{AsksMore, DoesStep, FailsMore, HearsClosing, HearsResumption, LooksAt, ReadsResumption, RunsResumption, TakesMore, asks_more, broke, broken, closes, ends, final, finds, gave, goes_on, looks, no_memory, none, not_asked, not_resumed, renews, resumes_now, some, waits_more, waits_resumption}
use Rattle.mg_change.specs.declared.event_poll.Stepped.{Stepped}
use Rattle.mg_change.specs.declared.event_poll.Stepped.TheVariants as stepped
use Rattle.mg_change.proofs.Garbled.{IsHeld, still_waits}
use Rattle.mg_change.proofs.Turning.{StandsAtEvent}

-- ---- sessions

-- what holds of a stream without a session holds of one that may have one
any_aggregate : (plain : Bool) (s : ClientStream) (sending : Sending) → IsAggregate plain s.aggregate sending → IsAggregate false s.aggregate sending
any_aggregate plain s sending h = record { wire = h.wire; session = h.session; plainly = tt; command_is = h.command_is; retries_is = h.retries_is; waits = h.waits }

any_by : (plain : Bool) (s : ClientStream) (d : Doing) → SoundBy plain s d → SoundBy false s d
any_by plain s follows h = h
any_by plain s owes h = h
any_by plain s (resumes sending) h = (h.0, any_aggregate plain s sending h.1)
any_by plain s (kills before) h = h
any_by plain s renewed h = h

pub sound_any : (plain : Bool) (s : ClientStream) → IsSound plain s → IsSound false s
sound_any plain s h = record { saved = h.saved; named = h.named; unbound = h.unbound; asks_its_own = sound_in_any plain s.cursor h.asks_its_own; by = any_by plain s s.doing h.by }

pub plain_after : (plain started : Bool) (session : Option Session) → PlainIf plain session → PlainIf plain (session_after started session)
plain_after plain true session h = plain_told plain session h
plain_after plain false session h = h

-- ---- neither the counts nor what is lent tell what is on its way

by_counting : (plain : Bool) (s t : ClientStream) (d : Doing) → t.aggregate ≡ s.aggregate → t.cursor ≡ s.cursor → t.behind ≡ s.behind → SoundBy plain s d → SoundBy plain t d
by_counting plain s t d a c b h =
    subst (λ (x : ClientStream). SoundBy plain x d) (sym (same_parts s t d a c b)) (over_parts plain s d h)
  where
    parts : ClientStream → ClientStream
    parts x = record { aggregate = x.aggregate; cursor = x.cursor; current = t.current; behind = x.behind; counts = t.counts; doing = t.doing }

    same_parts : (x y : ClientStream) (d : Doing) → y.aggregate ≡ x.aggregate → y.cursor ≡ x.cursor → y.behind ≡ x.behind → t ≡ parts s
    same_parts x y d p q r =
        ap (λ (z : _). record t { aggregate = z }) a ∙ ap (λ (z : ClientCursor). record { aggregate = s.aggregate; cursor = z; current = t.current; behind = t.behind; counts = t.counts; doing = t.doing }) c
        ∙ ap (λ (z : List (List ℕ)). record { aggregate = s.aggregate; cursor = s.cursor; current = t.current; behind = z; counts = t.counts; doing = t.doing }) b

    over_parts : (p : Bool) (x : ClientStream) (e : Doing) → SoundBy p x e → SoundBy p (parts x) e
    over_parts p x follows h = h
    over_parts p x owes h = record { quiet = h.quiet; none_left = h.none_left }
    over_parts p x (resumes sending) h = (record { quiet = h.0.quiet; none_left = h.0.none_left }, h.1)
    over_parts p x (kills before) h = (record { quiet = h.0.quiet; none_left = h.0.none_left }, h.1, h.2, h.3)
    over_parts p x renewed h = (record { quiet = h.0.quiet; none_left = h.0.none_left }, h.1)

-- a stream with the same parts
pub sound_as : (plain : Bool) (s t : ClientStream) → t.aggregate ≡ s.aggregate → t.cursor ≡ s.cursor → t.behind ≡ s.behind → t.doing ≡ s.doing → IsSound plain s → IsSound plain t
sound_as plain s t a c b d h = record {
  saved = subst (λ (x : _). IsSaved x.args.options x.resume) (sym a) h.saved;
  named = subst (λ (x : ClientCursor). IsNamed x.space) (sym c) h.named;
  unbound = ap (λ (x : ClientCursor). x.pinned) c ∙ h.unbound;
  asks_its_own = subst (cursors.IsSound plain) (sym c) h.asks_its_own;
  by = subst (SoundBy plain t) (sym d) (by_counting plain s t s.doing a c b h.by);
}

-- ---- what is saved

saved_remembered : (o : ChangeStreamOptions) (r : Option ChangeStreamData) (token : Tree) (returned : Bool) → IsSaved o r → IsSaved o (option_map (remembered token returned) r)
saved_remembered o (Some known) token returned h = h
saved_remembered o None token returned h = h

pub saved_event : (o : ChangeStreamOptions) (r : Option ChangeStreamData) (token : Tree) → IsSaved o r → IsSaved o (option_map (remembered token true) r)
saved_event o r token h = saved_remembered o r token true h

saved_empty : (o : ChangeStreamOptions) (upto : Option Tree) (s : ClientStream) → IsSaved o s.aggregate.resume → IsSaved o (remembered_empty upto s.aggregate).resume
saved_empty o None s h = h
saved_empty o (Some token) s h = saved_remembered o s.aggregate.resume token false h

empty_args : (upto : Option Tree) (s : ClientStream) → IsSaved s.aggregate.args.options (remembered_empty upto s.aggregate).resume → IsSaved (remembered_empty upto s.aggregate).args.options (remembered_empty upto s.aggregate).resume
empty_args None s h = h
empty_args (Some token) s h = h

-- ---- a cursor that rests

-- what is true of the cursor that a getMore left
pub record IsLeft (c : ClientCursor) : Type 0 where
  pub quiet : c.doing ≡ rests
  pub named : IsNamed c.space
  pub unbound : c.pinned ≡ connection.Unpinned

rests_soundly : (plain : Bool) (c : ClientCursor) → c.doing ≡ rests → cursors.IsSound plain c
rests_soundly plain c is = subst (cursors.SoundBy plain c) (sym is) tt

quietly : (c : ClientCursor) → c.doing ≡ rests → IsNotAsking c.doing
quietly c is = subst IsNotAsking (sym is) tt

module _ (plain : Bool) (s : ClientStream) (sound : IsSound plain s) (c : ClientCursor) (left : IsLeft c) where
  -- a batch of it was looked at
  pub looked_sound : (again : Bool) (said : List ℕ) (s' : ClientStream) (r : Stepped) → LooksAt again s c said s' r → IsSound plain s'
  looked_sound again said s' r (some event events at is answer) =
      subst (IsSound plain) (sym is)
      (record { saved = sound.saved; named = left.named; unbound = left.unbound; asks_its_own = rests_soundly plain c left.quiet; by = subst (λ (d : cursors.Doing). FollowsBy d (event ∷ events)) (sym left.quiet) tt })
  looked_sound again said s' r (none at is answer) =
      subst (IsSound plain) (sym is)
      (record {
        saved = empty_args c.token s (saved_empty s.aggregate.args.options c.token s sound.saved);
        named = left.named;
        unbound = left.unbound;
        asks_its_own = rests_soundly plain c left.quiet;
        by = subst (λ (d : cursors.Doing). FollowsBy d []) (sym left.quiet) tt;
      })
  looked_sound again said s' r (broken e breaks is answer) = subst (IsSound plain) (sym is) owing_so
    where
      owing_so : IsSound plain (owing_with c s)
      owing_so = record { saved = sound.saved; named = left.named; unbound = left.unbound; asks_its_own = rests_soundly plain c left.quiet; by = record { quiet = quietly c left.quiet; none_left = refl } }

  owes_sound : IsSound plain (owing_with c s)
  owes_sound = record { saved = sound.saved; named = left.named; unbound = left.unbound; asks_its_own = rests_soundly plain c left.quiet; by = record { quiet = quietly c left.quiet; none_left = refl } }

  -- its getMore failed
  fails_sound : s.doing ≡ follows → (e : Error) (s' : ClientStream) (r : Stepped) → FailsMore s c e s' r → IsSound plain s'
  fails_sound on e s' r (goes_on so is answer) = subst (IsSound plain) (sym is) owes_sound
  fails_sound on e s' r (no_memory room is answer) = subst (IsSound plain) (sym is) owes_sound
  fails_sound on e s' r (final not room is answer) =
      subst (IsSound plain) (sym is)
      (record {
        saved = sound.saved;
        named = left.named;
        unbound = left.unbound;
        asks_its_own = rests_soundly plain c left.quiet;
        by = subst (SoundBy plain (with_cursor c s)) (sym on) (subst (λ (d : cursors.Doing). FollowsBy d s.behind) (sym left.quiet) tt);
      })

-- ---- the cursor that a getMore leaves

unbound_if : (b : Bool) → (if b then connection.Unpinned else connection.Unpinned) ≡ connection.Unpinned
unbound_if true = refl
unbound_if false = refl

unbound_read : (id : ℤ) (p : PinnedConnection) → p ≡ connection.Unpinned → pinned_behind id p ≡ connection.Unpinned
unbound_read id p is = ap (pinned_behind id) is ∙ unbound_if (int_eq id (pos 0))

ended_left : (ended : Bool) (c : ClientCursor) → c.pinned ≡ connection.Unpinned → ((unless_ended ended c).space ≡ c.space) × ((unless_ended ended c).pinned ≡ connection.Unpinned)
ended_left true c is = (refl, refl)
ended_left false c is = (refl, is)

failed_left : (k : ErrorKind) (c : ClientCursor) → c.pinned ≡ connection.Unpinned → ((behind_kind k c).space ≡ c.space) × ((behind_kind k c).pinned ≡ connection.Unpinned)
failed_left kind.Io c is = (refl, ap invalidated is)
failed_left (kind.Command refusal) c is = ended_left (ends_cursor refusal.code) c is
failed_left _ c is = (refl, is)

module _ (s : ClientStream) (named : IsNamed s.cursor.space) (unbound : s.cursor.pinned ≡ connection.Unpinned) where
  read_left : (bytes : List ℕ) (c : ClientCursor) (p : NextPoll) → ReadsReply s.cursor bytes c p → IsLeft c
  read_left bytes c p (read said says is answer) =
      subst IsLeft (sym is) (record { quiet = refl; named = named_read (fields bytes) said says; unbound = unbound_read said.id s.cursor.pinned unbound })
  read_left bytes c p (unread e fails is answer) = subst IsLeft (sym is) (record { quiet = refl; named = named; unbound = unbound })

  pub heard_left : (came : Step Sending (List ℕ)) (c : ClientCursor) (p : NextPoll) → (p ≡ next.Pending → ⊥) → Hears s.cursor came c p → IsLeft c
  heard_left (step.Pending waiting) c p ended h = absurd (ended h.1)
  heard_left (step.Done bytes) c p ended h = read_left bytes c p h
  heard_left (step.Failed e) c p ended h =
      let f = failed_left e.kind s.cursor unbound in
      subst IsLeft (sym h.0) (record { quiet = refl; named = subst IsNamed (sym f.0) named; unbound = f.1 })

  -- one that pends is the same cursor
  heard_pending : (came : Step Sending (List ℕ)) (c : ClientCursor) → Hears s.cursor came c next.Pending → (sending : Sending) × (c ≡ record s.cursor { doing = asks sending })
  heard_pending (step.Pending waiting) c h = (waiting, h.0)
  heard_pending (step.Done bytes) c h = absurd (none_read bytes h)
    where
      none_read : (bytes : List ℕ) → ReadsReply s.cursor bytes c next.Pending → ⊥
      none_read bytes (read said says is answer) = cc
      none_read bytes (unread e fails is answer) = cc
  heard_pending (step.Failed e) c h = absurd (let bad : next.Pending ≡ next.Failed e = h.1 in cc)

more_sound : (plain : Bool) (old new : Awaited) (log log' : LogTold) (wire : ℤ) (session : Option Session) (started : Bool) (s : ClientStream) (sending : Sending) (s' : ClientStream) (r : Stepped) → IsSound plain s → s.doing ≡ follows → s.behind ≡ [] → PlainIf plain session → IsPolled s.cursor session sending
    → AsksMore old new log log' wire started s sending s' r → IsSound plain s'
more_sound plain old new log log' wire session started s sending s' r sound on none_left plainly is h = by_poll h.poll h.left h.runs.hears own h.takes
  where
    own : cursors.IsSound plain h.left
    own = sound_heard plain old new log log' wire session s.cursor h.left sending h.runs.came h.poll plainly is (runs_of old new log log' wire sending h.runs.came started h.runs.runs) h.runs.hears

    by_poll : (p : NextPoll) (c : ClientCursor) → Hears s.cursor h.runs.came c p → cursors.IsSound plain c → TakesMore s c p s' r → IsSound plain s'
    by_poll next.Pending c heard its takes =
        let pending_so = heard_pending s sound.named sound.unbound h.runs.came c heard in
        subst (IsSound plain) (sym takes.0)
        (record {
          saved = sound.saved;
          named = subst (λ (x : ClientCursor). IsNamed x.space) (sym pending_so.1) sound.named;
          unbound = ap (λ (x : ClientCursor). x.pinned) pending_so.1 ∙ sound.unbound;
          asks_its_own = its;
          by = subst (SoundBy plain (with_cursor c s)) (sym on) (subst (λ (x : ClientCursor). FollowsBy x.doing s.behind) (sym pending_so.1) none_left);
        })
    by_poll (next.Batch bytes) c heard its takes = looked_sound plain s sound c (heard_left s sound.named sound.unbound h.runs.came c (next.Batch bytes) (λ e. cc) heard) false bytes s' r takes
    by_poll next.End c heard its takes = absurd takes
    by_poll (next.Failed e) c heard its takes = fails_sound plain s sound c (heard_left s sound.named sound.unbound h.runs.came c (next.Failed e) (λ f. cc) heard) on e s' r takes

-- ---- a resumption

on_its_way : (stage : Stage) → IsHeld stage → IsOnItsWay stage
on_its_way unsent held = absurd held
on_its_way (first ticket) held = tt
on_its_way (second ticket) held = tt

-- the aggregate that is polled, and how it is built
record IsOwn (plain : Bool) (s : ClientStream) (sending : Sending) : Type 0 where
  wire : ℤ
  session : Option Session
  plainly : PlainIf plain session
  command_is : fields sending.command ≡ resuming_in s.aggregate wire session
  retries_is : sending.retries ≡ is_read_again session

resumption_sound : (plain : Bool) (old new : Awaited) (log log' : LogTold) (wire : ℤ) (started : Bool) (s : ClientStream) (sending : Sending) (s' : ClientStream) (r : Stepped) → IsSound plain s → Aside s → IsOwn plain s sending → RunsResumption old new log log' wire started s sending s' r → IsSound plain s'
resumption_sound plain old new log log' wire started s sending s' r sound aside own h = by_came h.came (runs_of old new log log' wire sending h.came started h.runs) h.hears
  where
    owes_so : IsSound plain (record s { doing = owes })
    owes_so = record { saved = sound.saved; named = sound.named; unbound = sound.unbound; asks_its_own = sound.asks_its_own; by = record { quiet = aside.quiet; none_left = aside.none_left } }

    by_read : (said : List ℕ) → ReadsResumption s said s' r → IsSound plain s'
    by_read said (gave out opens is answer) =
        let o = opens.opens.opens in
        let c : Cursor = record { id = out.0.info.id; space = space out.0.info.ns; token = out.0.post_batch_resume_token; batch = o.batch } in
        subst (IsSound plain) (sym is)
        (record {
          saved = sound.saved;
          named = named_read (fields said) c o.says;
          unbound = refl;
          asks_its_own = tt;
          by = (record { quiet = tt; none_left = refl }, tt, sound_in_any plain s.cursor sound.asks_its_own, aside.quiet);
        })
    by_read said (broke e fails is answer) = subst (IsSound plain) (sym is) owes_so

    by_came : (came : Step Sending (List ℕ)) → Runs old new log log' wire sending came → HearsResumption s came s' r → IsSound plain s'
    by_came (step.Pending waiting) runs heard =
        let w = still_waits old new log log' wire sending waiting runs in
        subst (IsSound plain) (sym heard.0)
        (record {
          saved = sound.saved;
          named = sound.named;
          unbound = sound.unbound;
          asks_its_own = sound.asks_its_own;
          by = (
            record { quiet = aside.quiet; none_left = aside.none_left },
            record { wire = own.wire; session = own.session; plainly = own.plainly; command_is = ap fields w.same_command ∙ own.command_is; retries_is = w.same_retries ∙ own.retries_is; waits = on_its_way waiting.stage w.held },
          );
        })
    by_came (step.Done said) runs heard = by_read said heard
    by_came (step.Failed e) runs heard = subst (IsSound plain) (sym heard.0) owes_so

-- ---- the closing of the cursor before

-- it is its killCursors that is waited for
record IsEnding (k : ClosingCursor) : Type 0 where
  closing : IsClosing k
  landed : IsLanded k

same_closing : (x y : ClosingCursor) → ◌≡◌ {A = Step ClosingCursor (Unit {0})} (step.Pending x) (step.Pending y) → x ≡ y
same_closing x y h = cc

kill_pends : (old new : Awaited) (log log' : LogTold) (wire : ℤ) (c : ClientCursor) (sending : Sending) (came : Step Sending (List ℕ)) (k : ClosingCursor) → IsToKill c sending → Runs old new log log' wire sending came → KillHears c came (step.Pending k) → IsEnding k
kill_pends old new log log' wire c sending (step.Pending waiting) k is runs h =
    subst IsEnding (sym (same_closing k (killed_by c waiting) h)) (record { closing = kills_still old new log log' wire c sending waiting is runs; landed = tt })
kill_pends old new log log' wire c sending (step.Done bytes) k is runs h = absurd cc
kill_pends old new log log' wire c sending (step.Failed e) k is runs h = absurd cc

kills_pend : (old new : Awaited) (log log' : LogTold) (wire : ℤ) (c : ClientCursor) (k : ClosingCursor) → c.doing ≡ rests → KillsCursor old new log log' wire c (step.Pending k) → IsEnding k
kills_pend old new log log' wire c k quiet (nothing_left over sends is) = absurd cc
kills_pend old new log log' wire c k quiet (not_built may e fails sends is) = absurd cc
kills_pend old new log log' wire c k quiet (kills_it may sending new_one runs) = kill_pends old new log log' wire c sending runs.came k (to_kill_new c sending quiet may new_one) runs.runs runs.hears

pub closing_pends : (old new : Awaited) (log log' : LogTold) (wire : ℤ) (before k : ClosingCursor) → IsClosing before → IsLanded before → ClosingPolls old new log log' wire before (step.Pending k) → IsClosing k × IsLanded k
closing_pends old new log log' wire before k closing landed (lands idle sending at h) =
    absurd (subst IsNotAsking at (subst (λ (o : Option Sending). LandedBy o before.cursor.doing) idle landed))
closing_pends old new log log' wire before k closing landed (begins idle quiet h) = let e = kills_pend old new log log' wire (at_rest before.cursor) k refl h in (e.closing, e.landed)
closing_pends old new log log' wire before k closing landed (kill_goes_on sending at h) =
    let on : IsKilling before.cursor sending = subst (ClosesBy before.cursor) at closing in
    let e = kill_pends old new log log' wire before.cursor sending h.came k (to_kill before.cursor sending on) h.runs h.hears in
    (e.closing, e.landed)

closing_sound : (plain : Bool) (old new : Awaited) (log log' : LogTold) (wire : ℤ) (s : ClientStream) (before : ClosingCursor) (s' : ClientStream) (r : Stepped) (came : Step ClosingCursor (Unit {0})) → IsSound plain s → SoundBy plain s (kills before) → ClosingPolls old new log log' wire before came → HearsClosing s came s' r → IsSound plain s'
closing_sound plain old new log log' wire s before s' r came sound by polls h = by_came came polls h
  where
    with_doing : (d : Doing) → SoundBy plain (record s { doing = d }) d → IsSound plain (record s { doing = d })
    with_doing d its = record { saved = sound.saved; named = sound.named; unbound = sound.unbound; asks_its_own = sound.asks_its_own; by = its }

    aside_in : (d : Doing) → Aside (record s { doing = d })
    aside_in d = record { quiet = by.0.quiet; none_left = by.0.none_left }

    by_came : (x : Step ClosingCursor (Unit {0})) → ClosingPolls old new log log' wire before x → HearsClosing s x s' r → IsSound plain s'
    by_came (step.Pending k) p heard =
        let e = closing_pends old new log log' wire before k by.2 by.3 p in
        subst (IsSound plain) (sym heard.0) (with_doing (kills k) (aside_in (kills k), by.1, e.0, e.1))
    by_came (step.Done t) p heard = subst (IsSound plain) (sym heard.0) (with_doing renewed (aside_in renewed, by.1))
    by_came (step.Failed e) p (inl heard) = subst (IsSound plain) (sym heard.1) (with_doing owes (aside_in owes))
    by_came (step.Failed e) p (inr heard) = subst (IsSound plain) (sym heard.1) (with_doing renewed (aside_in renewed, by.1))

-- ---- a step

-- the cursor at rest
rested_left : (plain : Bool) (s : ClientStream) → IsSound plain s → IsLeft (at_rest s.cursor)
rested_left plain s h = record { quiet = refl; named = h.named; unbound = h.unbound }

pub step_sound : (plain : Bool) (old new : Awaited) (log log' : LogTold) (wire : ℤ) (session : Option Session) (started : Bool) (s s' : ClientStream) (r : Stepped) → IsSound plain s → PlainIf plain session → DoesStep old new log log' wire session started s s' r → IsSound plain s'
step_sound plain old new log log' wire session started s s' r sound plainly (finds on left quiet unstarted is answer) = subst (IsSound plain) (sym is) sound
step_sound plain old new log log' wire session started s s' r sound plainly (looks on none_left said at quiet unstarted h) = looked_sound plain s sound (at_rest s.cursor) (rested_left plain s sound) false said s' r h
step_sound plain old new log log' wire session started s s' r sound plainly (ends on none_left at over quiet unstarted is answer) = subst (IsSound plain) (sym is) sound
step_sound plain old new log log' wire session started s s' r sound plainly (not_asked on none_left at may e fails quiet unstarted is answer) = subst (IsSound plain) (sym is) sound
step_sound plain old new log log' wire session started s s' r sound plainly (asks_more on none_left at may sending new_one h) =
    more_sound plain old new log log' wire session started s sending s' r sound on none_left plainly
    (record { command_is = new_one.command_is; single = new_one.single; at = subst IsFirstTry (sym new_one.new) tt; may = may }) h
step_sound plain old new log log' wire session started s s' r sound plainly (waits_more on none_left sending at h) =
    let asking : IsAsking plain s.cursor sending = subst (cursors.SoundBy plain s.cursor) at sound.asks_its_own in
    more_sound plain old new log log' wire asking.session started s sending s' r sound on none_left asking.plainly (polled_on plain s.cursor sending asking) h
step_sound plain old new log log' wire session started s s' r sound plainly (not_resumed on e fails quiet unstarted is answer) = subst (IsSound plain) (sym is) sound
step_sound plain old new log log' wire session started s s' r sound plainly (resumes_now on sending new_one h) =
    resumption_sound plain old new log log' wire started s sending s' r sound (subst (SoundBy plain s) on sound.by)
    (record { wire = wire; session = session; plainly = plainly; command_is = new_one.command_is; retries_is = new_one.retries_is }) h
step_sound plain old new log log' wire session started s s' r sound plainly (waits_resumption sending on h) =
    let by = subst (SoundBy plain s) on sound.by in
    resumption_sound plain old new log log' wire started s sending s' r sound by.0
    (record { wire = by.1.wire; session = by.1.session; plainly = by.1.plainly; command_is = by.1.command_is; retries_is = by.1.retries_is }) h
step_sound plain old new log log' wire session started s s' r sound plainly (closes before on unstarted came polls h) =
    closing_sound plain old new log log' wire s before s' r came sound (subst (SoundBy plain s) on sound.by) polls h
step_sound plain old new log log' wire session started s s' r sound plainly (renews on said at quiet unstarted h) = looked_sound plain s sound (at_rest s.cursor) (rested_left plain s sound) true said s' r h

-- ---- what stands behind a step

-- an event is next
pub record FoundOne (s : ClientStream) : Type 0 where
  pub at_event : StandsAtEvent s
  pub some_left : s.behind ≢ []

found_looked : (again : Bool) (s : ClientStream) (c : ClientCursor) (said : List ℕ) (s' : ClientStream) → c.doing ≡ rests → LooksAt again s c said s' stepped.Found → FoundOne s'
found_looked again s c said s' quiet (some event events at is answer) = subst FoundOne (sym is) (record { at_event = record { follows_on = refl; quiet = quiet }; some_left = λ empty. cc })
found_looked again s c said s' quiet (none at is answer) = absurd cc
found_looked true s c said s' quiet (broken e breaks is answer) = absurd cc
found_looked false s c said s' quiet (broken e breaks is answer) = absurd cc

none_failed : (s : ClientStream) (c : ClientCursor) (e : Error) (s' : ClientStream) → FailsMore s c e s' stepped.Found → ⊥
none_failed s c e s' (goes_on so is answer) = cc
none_failed s c e s' (no_memory room is answer) = cc
none_failed s c e s' (final not room is answer) = cc

found_more : (old new : Awaited) (log log' : LogTold) (wire : ℤ) (started : Bool) (s : ClientStream) (sending : Sending) (s' : ClientStream) → IsNamed s.cursor.space → s.cursor.pinned ≡ connection.Unpinned → AsksMore old new log log' wire started s sending s' stepped.Found → FoundOne s'
found_more old new log log' wire started s sending s' named unbound h = by_poll h.poll h.left h.runs.hears h.takes
  where
    by_poll : (p : NextPoll) (c : ClientCursor) → Hears s.cursor h.runs.came c p → TakesMore s c p s' stepped.Found → FoundOne s'
    by_poll next.Pending c heard takes = absurd (let bad : stepped.Found ≡ stepped.Gives try.Pending = takes.1 in cc)
    by_poll (next.Batch bytes) c heard takes = found_looked false s c bytes s' (heard_left s named unbound h.runs.came c (next.Batch bytes) (λ e. cc) heard).quiet takes
    by_poll next.End c heard takes = absurd takes
    by_poll (next.Failed e) c heard takes = absurd (none_failed s c e s' takes)

not_found_resumed : (s : ClientStream) (said : List ℕ) (s' : ClientStream) → ReadsResumption s said s' stepped.Found → ⊥
not_found_resumed s said s' (gave out opens is answer) = cc
not_found_resumed s said s' (broke e fails is answer) = cc

not_found_heard : (s : ClientStream) (came : Step Sending (List ℕ)) (s' : ClientStream) → HearsResumption s came s' stepped.Found → ⊥
not_found_heard s (step.Pending waiting) s' h = let bad : stepped.Found ≡ stepped.Gives try.Pending = h.1 in cc
not_found_heard s (step.Done said) s' h = not_found_resumed s said s' h
not_found_heard s (step.Failed e) s' h = let bad : stepped.Found ≡ stepped.Gives (try.Failed e) = h.1 in cc

not_found_closed : (s : ClientStream) (came : Step ClosingCursor (Unit {0})) (s' : ClientStream) → HearsClosing s came s' stepped.Found → ⊥
not_found_closed s (step.Pending k) s' h = let bad : stepped.Found ≡ stepped.Gives try.Pending = h.1 in cc
not_found_closed s (step.Done t) s' h = let bad : stepped.Found ≡ stepped.Goes = h.1 in cc
not_found_closed s (step.Failed e) s' (inl h) = let bad : stepped.Found ≡ stepped.Gives (try.Failed e) = h.2 in cc
not_found_closed s (step.Failed e) s' (inr h) = let bad : stepped.Found ≡ stepped.Goes = h.2 in cc

-- events are in hand only where the cursor rests
rests_with : (d : cursors.Doing) (events : List (List ℕ)) → FollowsBy d events → events ≢ [] → d ≡ rests
rests_with rests events h left = refl
rests_with (holds said) events h left = absurd (left h)
rests_with (asks sending) events h left = absurd (left h)

pub found_stands : (old new : Awaited) (log log' : LogTold) (wire : ℤ) (session : Option Session) (started : Bool) (s s' : ClientStream) → IsSound false s → DoesStep old new log log' wire session started s s' stepped.Found → FoundOne s'
found_stands old new log log' wire session started s s' sound (finds on left quiet unstarted is answer) =
    subst FoundOne (sym is) (record { at_event = record { follows_on = on; quiet = rests_with s.cursor.doing s.behind (subst (SoundBy false s) on sound.by) left }; some_left = left })
found_stands old new log log' wire session started s s' sound (looks on none_left said at quiet unstarted h) = found_looked false s (at_rest s.cursor) said s' refl h
found_stands old new log log' wire session started s s' sound (ends on none_left at over quiet unstarted is answer) = absurd cc
found_stands old new log log' wire session started s s' sound (not_asked on none_left at may e fails quiet unstarted is answer) = absurd cc
found_stands old new log log' wire session started s s' sound (asks_more on none_left at may sending new_one h) = found_more old new log log' wire started s sending s' sound.named sound.unbound h
found_stands old new log log' wire session started s s' sound (waits_more on none_left sending at h) = found_more old new log log' wire started s sending s' sound.named sound.unbound h
found_stands old new log log' wire session started s s' sound (not_resumed on e fails quiet unstarted is answer) = absurd cc
found_stands old new log log' wire session started s s' sound (resumes_now on sending new_one h) = absurd (not_found_heard s h.came s' h.hears)
found_stands old new log log' wire session started s s' sound (waits_resumption sending on h) = absurd (not_found_heard s h.came s' h.hears)
found_stands old new log log' wire session started s s' sound (closes before on unstarted came polls h) = absurd (not_found_closed s came s' h)
found_stands old new log log' wire session started s s' sound (renews on said at quiet unstarted h) = found_looked true s (at_rest s.cursor) said s' refl h
