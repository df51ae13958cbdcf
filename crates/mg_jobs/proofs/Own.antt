-- Replies that a follow heard told its cursor, and what it resumes by.
use Rattle.std.proofs.Common.{◌≡◌, ◌⊎◌, ℕ, suc, Bool, true, false, List, [], ◌∷◌, Option, Some, None, Ok, option_map, refl, sym, ap, ◌∙◌, subst, inl, inr}
use Rattle.std.specs.Prelude.{slice_get}
use Rattle.mg_bson.specs.Tree.{Tree, Fields}
use Rattle.mg_bson.specs.Raw.{fields}
use Rattle.mg_server.specs.Calls.{HeardBy, Past}
use Rattle.mg_link.specs.Log.{reply}
use Rattle.mg_link.specs.Errors.{plain}
use Rattle.mg_link.specs.Namespace.{space}
use Rattle.mg_link.specs.declared.error.Error.{Error}
use Rattle.mg_link.specs.declared.error.ErrorKind.{ErrorKind}
use Rattle.mg_link.specs.declared.error.ErrorKind.TheVariants as kind
use Rattle.mg_server.proofs.Owners.{same_some}
use Rattle.mg_server.proofs.Pasts.{heard_by}
use Rattle.mg_options.specs.Tokens.{first_token, or_else}
use Rattle.mg_options.specs.declared.change_stream.ChangeStreamOptions.{ChangeStreamOptions}
use Rattle.mg_ops.specs.Cursors.{Cursor, OpensWith, cursor_of}
use Rattle.mg_ops.specs.declared.aggregate.ChangeStreamAggregate.{ChangeStreamAggregate}
use Rattle.mg_ops.specs.declared.change_stream.ChangeStreamData.{ChangeStreamData}
use Rattle.mg_ops.specs.declared.change_stream.WatchArgs.{WatchArgs}
use Rattle.mg_ops.specs.declared.cursor_reply.CursorSpecification.{CursorSpecification}
use Rattle.mg_cursor.specs.Batches.{documents_of}
use Rattle.mg_cursor.specs.Causes.{HeardMore, MoreFails}
use Rattle.mg_cursor.specs.Client as cursors
use Rattle.mg_cursor.specs.Client.{ClientCursor, at_rest, behind_failure, behind_kind, behind_reply, get_more, new_client}
use Rattle.mg_change.specs.Causes.{CallEmpty, CallFails, CallGave, CallNone, Called, HeardAggregate, HoldsFirst, IsOwing, MayLose, MoreFailed, Next, Replied, Resumed, Resumes, StaysSo}
use Rattle.mg_change.specs.Causes as causes
use Rattle.mg_change.specs.ClientOpenings.{first_aggregate, first_known}
use Rattle.mg_change.specs.ClientStreams.{ClientStream, is_read_again, remembered, remembered_by, remembered_empty, resuming_in, token_behind}
use Rattle.mg_change.specs.OpeningCauses.{StreamOpened}
use Rattle.mg_players.specs.Follows.{poll_of}
use Rattle.mg_jobs.specs.Own.{IsBehind, IsBrought, IsOwnCursor, IsOwnToken, KnowsOwn, of_batch, of_event, to_resume, to_start}
use Rattle.mg_script.specs.declared.outcome.Answer.{Answer}
use Rattle.mg_script.specs.declared.outcome.Answer.TheVariants as answers
use Rattle.mg_jobs.proofs.Identified.{owing_first, settled_first}

-- ---- what a reply tells

-- a reply told the cursor
abbrev pub HasOwn : (List ℕ → Type 0) → ClientCursor → Type 0
HasOwn heard c = IsOwnCursor heard c.id c.space

abbrev pub HasBehind : (List ℕ → Type 0) → Option Tree → Type 0
HasBehind heard upto = (token : Tree) → upto ≡ Some token → IsBehind heard token

-- replies told the cursor and the token behind its newest batch
pub record Owns (heard : List ℕ → Type 0) (c : ClientCursor) : Type 0 where
  pub own : HasOwn heard c
  pub behind : HasBehind heard c.token

abbrev pub AreBrought : (List ℕ → Type 0) → List (List ℕ) → Type 0
AreBrought heard events = (k : ℕ) (event : List ℕ) → slice_get events k ≡ Some event → IsBrought heard event

own_rest : (heard : List ℕ → Type 0) (c : ClientCursor) → Owns heard c → Owns heard (at_rest c)
own_rest heard c o = record { own = o.own; behind = o.behind }

own_now : (heard : List ℕ → Type 0) (c : ClientCursor) → Owns heard (at_rest c) → Owns heard c
own_now heard c o = record { own = o.own; behind = o.behind }

-- behind a reply to its getMore
own_said : (heard : List ℕ → Type 0) (bytes : List ℕ) (said : Cursor) (c : ClientCursor) → heard bytes → cursor_of (fields bytes) ≡ Ok said → Owns heard (behind_reply said c)
own_said heard bytes said c in_reply says = record {
  own = record { bytes = bytes; in_reply = in_reply; cursor = said; says = says; id_is = refl; space_is = refl };
  behind = λ token is. record { bytes = bytes; in_reply = in_reply; cursor = said; says = says; token_is = is };
}

-- behind an aggregate
own_new : (heard : List ℕ → Type 0) (o : ChangeStreamOptions) (bytes : List ℕ) (out : CursorSpecification) → heard bytes → OpensWith o.batch_size o.max_await_time o.comment bytes out → Owns heard (new_client out)
own_new heard o bytes out in_reply opens =
    let said : Cursor = record { id = out.info.id; space = space out.info.ns; token = out.post_batch_resume_token; batch = opens.opens.batch } in
    record {
      own = record { bytes = bytes; in_reply = in_reply; cursor = said; says = opens.opens.says; id_is = refl; space_is = refl };
      behind = λ token is. record { bytes = bytes; in_reply = in_reply; cursor = said; says = opens.opens.says; token_is = is };
    }

of_items : (heard : List ℕ → Type 0) (bytes : List ℕ) (events : List (List ℕ)) → heard bytes → documents_of bytes ≡ Some events → AreBrought heard events
of_items heard bytes events in_reply holds k event there = record { bytes = bytes; in_reply = in_reply; events = events; holds = holds; place = k; there = there }

none_brought : (heard : List ℕ → Type 0) → AreBrought heard []
none_brought heard k event there = absurd cc

-- ---- what is remembered

module _ (mine : Tree → Type 0) where
  remember_own : (o : Option ChangeStreamData) (token : Tree) (returned : Bool) → mine token → (known : ChangeStreamData) (t : Tree) → option_map (remembered token returned) o ≡ Some known → known.resume_token ≡ Some t → mine t
  remember_own (Some before) token returned is known t says has =
      let same = same_some (remembered token returned before) known says in
      subst mine (same_some token t (ap (λ (d : ChangeStreamData). d.resume_token) same ∙ has)) is
  remember_own None token returned is known t says has = absurd cc

  either_own : (a b : Option Tree) → ((t : Tree) → a ≡ Some t → mine t) → ((t : Tree) → b ≡ Some t → mine t) → (t : Tree) → or_else a b ≡ Some t → mine t
  either_own (Some x) b first second t is = first t is
  either_own None b first second t is = second t is

  first_own : (start resume : Option Tree) (empty : Bool) (upto : Option Tree) → ((t : Tree) → start ≡ Some t → mine t) → ((t : Tree) → resume ≡ Some t → mine t) → ((t : Tree) → upto ≡ Some t → mine t) → (t : Tree) → first_token start resume empty upto ≡ Some t → mine t
  first_own start resume true upto starts resumes behind t is = either_own upto (or_else start resume) behind (either_own start resume starts resumes) t is
  first_own start resume false upto starts resumes behind t is = either_own start resume starts resumes t is

remembered_own : (heard : List ℕ → Type 0) (a : ChangeStreamAggregate) (token : Tree) (returned : Bool) → IsOwnToken heard a.args.options token → KnowsOwn heard (remembered_by token returned a)
remembered_own heard a token returned is = remember_own (IsOwnToken heard a.args.options) a.resume token returned is

empty_own : (heard : List ℕ → Type 0) (a : ChangeStreamAggregate) (upto : Option Tree) → KnowsOwn heard a → HasBehind heard upto → KnowsOwn heard (remembered_empty upto a)
empty_own heard a (Some token) known behind = remembered_own heard a token false (of_batch (behind token refl))
empty_own heard a None known behind = known

token_own : (heard : List ℕ → Type 0) (o : ChangeStreamOptions) (es : List (List ℕ)) (upto : Option Tree) (id : Tree) → HasBehind heard upto → IsOwnToken heard o id → IsOwnToken heard o (token_behind es upto id)
token_own heard o [] (Some token) id behind is = of_batch (behind token refl)
token_own heard o [] None id behind is = is
token_own heard o (e ∷ es) upto id behind is = is

-- ---- how a stream stands

-- its cursor, its token and the events in hand are of replies that it heard
pub record StandsOwn (heard : List ℕ → Type 0) (s : ClientStream) : Type 0 where
  pub cursor : Owns heard s.cursor
  pub known : KnowsOwn heard s.aggregate
  pub first : (bytes : List ℕ) → HoldsFirst s bytes → heard bytes
  pub events : AreBrought heard s.behind

module _ (heard : List ℕ → Type 0) (past : Past) (hears : (command : Fields) (bytes : List ℕ) → HeardBy past command (reply bytes) → heard bytes) where
  -- ---- a call, whose getMore fails for want of memory alone

  module _ (at : ClientStream) (room : (e : Error) → MoreFails past at.cursor e → e.kind ≡ kind.OutOfMemory) (own : StandsOwn heard at) where
    cursor_same : (c : ClientCursor) → c ≡ at.cursor → Owns heard c
    cursor_same c is = subst (Owns heard) (sym is) own.cursor

    cursor_rest : (c : ClientCursor) → c ≡ at_rest at.cursor → Owns heard c
    cursor_rest c is = subst (Owns heard) (sym is) (own_rest heard at.cursor own.cursor)

    -- want of memory ends no cursor
    cursor_kept : (e : Error) (c : ClientCursor) → e.kind ≡ kind.OutOfMemory → c ≡ behind_failure e at.cursor → Owns heard c
    cursor_kept e c full is = cursor_rest c (is ∙ ap (λ (k : ErrorKind). at_rest (behind_kind k at.cursor)) full)

    heard_own : (bytes : List ℕ) → HeardMore past at.cursor bytes → heard bytes
    heard_own bytes h = hears (get_more at.cursor h.session) bytes h.heard

    cursor_said : (bytes : List ℕ) (said : Cursor) (c : ClientCursor) → HeardMore past at.cursor bytes → cursor_of (fields bytes) ≡ Ok said → c ≡ behind_reply said at.cursor → Owns heard c
    cursor_said bytes said c h says is = subst (Owns heard) (sym is) (own_said heard bytes said at.cursor (heard_own bytes h) says)

    again_own : (bytes : List ℕ) → HeardAggregate past true at bytes → heard bytes
    again_own bytes h = hears (resuming_in at.aggregate past.wire h.session) bytes (heard_by past (resuming_in at.aggregate past.wire h.session) (is_read_again h.session) (reply bytes) h.heard)

    cursor_again : (old : ClientCursor) (bytes : List ℕ) (c : ClientCursor) → Resumed past true at old bytes c → Owns heard c
    cursor_again old bytes c r = subst (Owns heard) (sym r.cursor_is) (own_new heard at.aggregate.args.options bytes r.out.0 (again_own bytes r.heard) r.opens.opens)

    full_or_not : (e : Error) → MoreFails past at.cursor e ⊎ (e ≡ plain kind.OutOfMemory) → e.kind ≡ kind.OutOfMemory
    full_or_not e (inl fails) = room e fails
    full_or_not e (inr full) = ap (λ (x : Error). x.kind) full

    cursor_fails : (e : Error) (c : ClientCursor) → MoreFailed past at e c → Owns heard c
    cursor_fails e c (causes.untold may why is) = cursor_kept e c (full_or_not e why) is
    cursor_fails e c (causes.broken may bytes said h says is breaks) = cursor_said bytes said c h says is

    cursor_left : (c : ClientCursor) → Resumes past at c → Owns heard c
    cursor_left c (causes.owed owes is) = cursor_rest c is
    cursor_left c (causes.more_failed e why is) = cursor_fails e c why
    cursor_left c (causes.first_broken bytes e first breaks is) = cursor_rest c is

    cursor_now : (c : ClientCursor) → Resumes past at (at_rest c) → Owns heard c
    cursor_now c why = own_now heard c (cursor_left (at_rest c) why)

    replied_own : (again : Bool) (bytes : List ℕ) (c : ClientCursor) → Replied past true at again bytes c → heard bytes × Owns heard c
    replied_own again bytes c (causes.opening not first is) = (own.first bytes first, cursor_rest c is)
    replied_own again bytes c (causes.more not may said h says is) = (heard_own bytes h, cursor_said bytes said c h says is)
    replied_own again bytes c (causes.once_more so old new r killed is) = (again_own bytes r.heard, subst (Owns heard) (sym is) (own_rest heard new (cursor_again old bytes new r)))

    next_own : (events : List (List ℕ)) (c : ClientCursor) → Next past true at events c → AreBrought heard events × Owns heard c
    next_own events c (causes.left settled are is) = (subst (AreBrought heard) (sym are) own.events, cursor_same c is)
    next_own events c (causes.came empty again bytes r holds) = let told = replied_own again bytes c r in (of_items heard bytes events told.0 holds, told.1)

    -- nothing is in hand
    quiet : (after : ClientStream) → KnowsOwn heard after.aggregate → Owns heard after.cursor → ((bytes : List ℕ) → HoldsFirst after bytes → ⊥) → after.behind ≡ [] → StandsOwn heard after
    quiet after known cursor looked empty = record {
      cursor = cursor;
      known = known;
      first = λ bytes held. absurd (looked bytes held);
      events = subst (AreBrought heard) (sym empty) (none_brought heard);
    }

    -- with an event
    gave_own : (after : ClientStream) (event : List ℕ) → CallGave past true at after event → StandsOwn heard after
    gave_own after event g =
        let next = next_own (event ∷ after.behind) after.cursor g.next in
        let token = token_own heard at.aggregate.args.options after.behind after.cursor.token g.id next.1.behind (of_event event (next.0 0 event refl) g.has) in
        record {
          cursor = next.1;
          known = subst (KnowsOwn heard) (sym g.remembers) (remembered_own heard at.aggregate (token_behind after.behind after.cursor.token g.id) true token);
          first = λ bytes held. absurd (settled_first after g.settled bytes held);
          events = λ k e there. next.0 (suc k) e there;
        }

    -- with nothing
    none_own : (after : ClientStream) (again : Bool) → CallNone past true at after again → KnowsOwn heard after.aggregate × Owns heard after.cursor
    none_own after again (causes.came_empty empty bytes r holds is) =
        let told = replied_own again bytes after.cursor r in
        (subst (KnowsOwn heard) (sym is) (empty_own heard at.aggregate after.cursor.token own.known told.1.behind), told.1)
    none_own after again (causes.none_left not settled empty gone is same) = (subst (KnowsOwn heard) (sym is) own.known, cursor_same after.cursor same)

    nothing_own : (after : ClientStream) (again : Bool) → CallEmpty past true at after again → StandsOwn heard after
    nothing_own after again e = let none = none_own after again e.why in quiet after none.0 none.1 (settled_first after e.settled) e.empty

    -- with a failure
    cursor_lost : (c : ClientCursor) → MayLose past true at c → Owns heard c
    cursor_lost c (causes.asking may is) = cursor_same c is
    cursor_lost c (causes.resuming why) = cursor_now c why
    cursor_lost c (causes.closing old bytes r held) = cursor_again old bytes c r

    module _ (after : ClientStream) (same : after.aggregate ≡ at.aggregate) where
      still_known : KnowsOwn heard after.aggregate
      still_known = subst (KnowsOwn heard) (sym same) own.known

      stays_own : StaysSo past true at after → StandsOwn heard after
      stays_own (causes.as_it_was settled is events doing) = record {
        cursor = cursor_same after.cursor is;
        known = still_known;
        first = λ bytes held. absurd (settled_first after (record { follows_on = doing ∙ settled.follows_on; looked = ap (λ (c : ClientCursor). c.doing) is ∙ settled.looked }) bytes held);
        events = subst (AreBrought heard) (sym events) own.events;
      }
      stays_own (causes.in_hand again bytes r holds some settled) =
          let told = replied_own again bytes after.cursor r in
          record {
            cursor = told.1;
            known = still_known;
            first = λ bytes' held. absurd (settled_first after settled bytes' held);
            events = of_items heard bytes after.behind told.0 holds;
          }

      owing_own : IsOwing after → Owns heard after.cursor → StandsOwn heard after
      owing_own owes cursor = quiet after still_known cursor (owing_first after owes) owes.none_left

      failed_own : (e : Error) → CallFails past None at after e → StandsOwn heard after
      failed_own e (causes.may_lose full owes may) = owing_own owes (cursor_lost after.cursor may)
      failed_own e (causes.no_memory full stays) = stays_own stays
      failed_own e (causes.not_resumed owes why fails) = owing_own owes (cursor_now after.cursor why)
      failed_own e (causes.batch_broken bytes owes r breaks) = owing_own owes (replied_own true bytes after.cursor r).1
      failed_own e (causes.cannot_resume owes why now by) = owing_own owes (cursor_now after.cursor why)
      failed_own e (causes.refused_more may fails final is empty settled) = quiet after still_known (cursor_kept e after.cursor (room e fails) is) (settled_first after settled) empty
      failed_own e (causes.cannot_ask may by is empty settled) = quiet after still_known (cursor_same after.cursor is) (settled_first after settled) empty
      failed_own e (causes.no_id event next lacks is settled) =
          let told = next_own (event ∷ after.behind) after.cursor next in
          record {
            cursor = told.1;
            known = still_known;
            first = λ bytes held. absurd (settled_first after settled bytes held);
            events = λ k event there. told.0 (suc k) event there;
          }

    pub called_own : (answer : Answer) (after : ClientStream) → Called past None at after (poll_of answer) → StandsOwn heard after
    called_own (answers.Event event) after called = gave_own after event called
    called_own answers.Nothing after called = nothing_own after called.0 called.1
    called_own (answers.Failed e) after called = failed_own after called.token e called.why

  -- ---- the opening

  pub opened_own : (args : WatchArgs) (first : ClientStream) → StreamOpened past args first → StandsOwn heard first
  opened_own args first o =
      let command = resuming_in (first_aggregate args) past.wire o.session in
      let in_reply = hears command o.bytes (heard_by past command (is_read_again o.session) (reply o.bytes) o.heard) in
      let told = own_new heard args.options o.bytes o.out.0 in_reply o.opens.opens in
      subst (StandsOwn heard) (sym o.stream_is)
      (record {
        cursor = told;
        known = λ known token says has.
            let same = same_some (first_known args past.wire o.out.0.is_empty o.out.0.post_batch_resume_token o.out.1) known says in
            let is = ap (λ (d : ChangeStreamData). d.resume_token) same ∙ has in
            first_own (IsOwnToken heard args.options) args.options.start_after args.options.resume_after o.out.0.is_empty o.out.0.post_batch_resume_token (λ t start. to_start start) (λ t resume. to_resume resume) (λ t behind. of_batch (told.behind t behind)) token is;
        first = λ bytes held. in_reply_of bytes o.out.0.initial_reply o.bytes held.in_hand o.opens.opens.opens.whole in_reply;
        events = none_brought heard;
      })
    where
      in_reply_of : (bytes held whole : List ℕ) → cursors.holds held ≡ cursors.holds bytes → held ≡ whole → heard whole → heard bytes
      in_reply_of bytes held whole is same h = let e : held ≡ bytes = cc in subst heard (sym same ∙ e) h
