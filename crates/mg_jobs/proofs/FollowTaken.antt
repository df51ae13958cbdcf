-- The store of a run refuses none of the commands of a follow that may begin.
use Rattle.std.proofs.Common.{◌≡◌, ◌≢◌, ◌⊎◌, ◌≤◌, ◌<◌, ◌++◌, ℕ, zero, suc, ℤ, pos, Bool, true, false, List, [], ◌∷◌, length, take, Option, Some, None, refl, sym, ap, ◌∙◌, subst, inl, inr, arith, append_assoc, append-nil}
use Rattle.std.specs.Prelude.{if◌then◌else◌, slice_get, is_some}
use Rattle.std.specs.List.{concat}
use Rattle.mg_bson.specs.Raw.{fields}
use Rattle.mg_bson.specs.Tree.{Fields, Tree}
use Rattle.mg_server.specs.Calls.{HeardBy, Past, RequestFails, out_of_memory, was_broken, was_lost, was_refused}
use Rattle.mg_server.specs.Commands.{Asked, asked, asks_more}
use Rattle.mg_link.specs.Errors.{plain}
use Rattle.mg_link.specs.Exec.{IsSuccess}
use Rattle.mg_server.specs.History.{IsLegal, Step, state_of, told_at}
use Rattle.mg_server.specs.Kept.{IsByRules as AreByRules, Kept, steps_of}
use Rattle.mg_link.specs.Link.{Awaited}
use Rattle.mg_link.specs.Log.{Call, fault, reply}
use Rattle.mg_link.specs.Namespace.{Space, Target, target}
use Rattle.mg_server.specs.Owner.{IsOf, NamesItsOwn}
use Rattle.mg_server.specs.Prompt.{HoldsBackNone}
use Rattle.mg_link.specs.Resumable.{is_resumable}
use Rattle.mg_server.specs.Rules.{watch_space}
use Rattle.mg_link.specs.Session.{Session}
use Rattle.mg_server.specs.Standing.{Names, Stands}
use Rattle.mg_server.specs.State.{State}
use Rattle.mg_link.specs.declared.error.Error.{Error}
use Rattle.mg_link.specs.declared.error.ErrorKind.{ErrorKind}
use Rattle.mg_link.specs.declared.error.ErrorKind.TheVariants as kind
use Rattle.mg_server.proofs.Pasts.{heard_by}
use Rattle.mg_link.proofs.Places.{get_within}
use Rattle.mg_server.proofs.SelfMade.{names_whole}
use Rattle.mg_server.proofs.Watched.{IsWatched}
use Rattle.mg_server.proofs.Cursoring.{not_zero}
use Rattle.mg_options.specs.declared.change_stream.ChangeStreamOptions.{ChangeStreamOptions}
use Rattle.mg_ops.specs.Bodies.{watch_command}
use Rattle.mg_ops.specs.Commands.{kill_command}
use Rattle.mg_ops.specs.Cursors.{Cursor, Manner, next_command}
use Rattle.mg_ops.specs.Limits.{SizePasses}
use Rattle.mg_ops.specs.Resuming.{options_for}
use Rattle.mg_ops.specs.Sessions.{in_session}
use Rattle.mg_ops.specs.declared.change_stream.ChangeStreamData.{ChangeStreamData}
use Rattle.mg_ops.specs.declared.change_stream.WatchArgs.{WatchArgs}
use Rattle.mg_ops.proofs.Asking.{asks_for_more}
use Rattle.mg_store.specs.InMemory.{AreAsFates, AreKept}
use Rattle.mg_store.specs.declared.fate.Fate.{Fate}
use Rattle.mg_store.proofs.Sending.{length-steps}
use Rattle.mg_store.proofs.Standing.{same_some}
use Rattle.mg_cursor.specs.Causes.{MoreFails, TellsNoCursor}
use Rattle.mg_cursor.specs.Client.{ClientCursor, at_rest, get_more, kill}
use Rattle.mg_change.specs.Causes.{Called, IsOwing, MoreFailed, Resumes}
use Rattle.mg_change.specs.Causes as causes
use Rattle.mg_change.specs.ClientOpenings.{first_aggregate}
use Rattle.mg_change.specs.ClientStreams.{ClientStream, IsSaved, SavedFor, follows, is_read_again, owes, resuming_in}
use Rattle.mg_change.specs.OpenedStreams.{IsOpening}
use Rattle.mg_change.specs.OpeningCauses.{StreamOpened}
use Rattle.mg_change.specs.Sent as calling
use Rattle.mg_change.specs.Sent.{AsksMoreOf, IsSentAt, KillsReplaced, ResumesBy}
use Rattle.mg_change.specs.ClosingStreams.{unless_none}
use Rattle.mg_script.specs.Plan.{Begin}
use Rattle.mg_script.specs.declared.outcome.Answer.{Answer}
use Rattle.mg_script.specs.declared.outcome.Ended.{Ended}
use Rattle.mg_script.specs.declared.outcome.Ended.TheVariants as ended
use Rattle.mg_players.specs.Causes.{AllSentIn, Answered, Course, FallsAt, KillsLast, SentIn, places_of, sent_at, CloseCaused, FollowCaused, OpenCaused, OpenStands, OpenWaits, at_rest as at_ease, in_call, in_closing}
use Rattle.mg_jobs.specs.Completing.{IsThere, MayBegin, NoneRefused}
use Rattle.mg_jobs.proofs.Created.{is_taken}
use Rattle.mg_jobs.specs.Fated.{AreItsSteps}
use Rattle.mg_players.specs.Follows.{IsArgsFor, options_of, poll_of, stages_of, start_of}
use Rattle.mg_players.specs.Sends.{IsCommandOf, SendsOnly}
use Rattle.mg_players.specs.Progress.{FollowPlayed, pends_last, turns_done}
use Rattle.mg_players.proofs.Batches.{breaks_not, tells_not}
use Rattle.mg_players.proofs.Creating.{CreatesNone, asked_creates, asking_none}
use Rattle.mg_jobs.proofs.FollowFine.{HeardIn, IsFine, IsSent, aggregate_fine, heard_among, kill_fine, more_fine, token_there}
use Rattle.mg_jobs.proofs.Hearing.{IsTold, TellsThere}
use Rattle.mg_jobs.proofs.Identified.{IsHonest, StandsWell, called_stands, heard_more, opened_well}
use Rattle.mg_jobs.proofs.Killers.{kills_that, more_spares, resuming_spares}
use Rattle.mg_players.proofs.CallPlaces.{CallFalls, call_falls, opens_falls}
use Rattle.mg_players.proofs.Left.{places_few}
use Rattle.mg_jobs.proofs.Mild.{IsMildCommand}
use Rattle.mg_jobs.proofs.Openers.{IsOpenedIn, TookAt, honest_as, opened_among, opened_place, opened_watched, took_at}
use Rattle.mg_jobs.proofs.Own.{StandsOwn, called_own, opened_own}
use Rattle.mg_jobs.proofs.OwnCommands.{alone_aggregate, alone_more, its_body, its_manner, watches_its}
use Rattle.mg_jobs.proofs.OwnFurther.{stands_further}
use Rattle.mg_jobs.proofs.OpeningTaken.{fits_size}
use Rattle.mg_jobs.proofs.PlacesRise.{Rise, below_others, of_either, of_first, of_rise, of_second, sent_pends}
use Rattle.mg_jobs.proofs.Positions.{has_position, sent_place}
use Rattle.mg_players.proofs.Prompting.{prompt_success}
use Rattle.mg_jobs.proofs.Refusing.{call_at, falls_each}
use Rattle.mg_jobs.proofs.Resumed.{GoesOnFrom, as_before, behind, from_time, resumes_as}
use Rattle.mg_jobs.proofs.StoreRuns.{never_fault, opened_lasts, prompted_at}
use Rattle.mg_jobs.proofs.WatchStands.{KillsIt, StandsFor, opens_some}
use Rattle.mg_jobs.proofs.WatchTaken.{few_ids, sized}
use Rattle.mg_jobs.proofs.CallParts.{AreSaved, IsNumbered, IsRenewed, called_saved, fails_not, follows_first, is_following, more_not_kill, numbered, renewed_called, saved_first}
use Rattle.mg_jobs.proofs.OpeningRead.{FitsSize}

module _ (history : List Kept) (fates : List Fate) (kept : AreKept 0 fates) (calls : List Call) (pended : List ℕ) (as_fates : AreAsFates history fates calls pended) (stands : Stands calls (steps_of history)) (alone : AreItsSteps history calls)
    (ruled : AreByRules history) (mild : (p : ℕ) (k : Kept) → slice_get history p ≡ Some k → IsMildCommand (fields k.command)) (legal : IsLegal (steps_of history)) (prompt : HoldsBackNone (steps_of history))
    (c : Course) (i : ℕ) (on : Target) (start : Begin) (filter : Option Fields) (batch : Option ℕ) (small : SizePasses batch → ⊥) (may : MayBegin c i calls (steps_of history) on start filter)
    (names : NamesItsOwn calls) (sends : SendsOnly (IsCommandOf (IsArgsFor on start filter batch)) c i calls)
    (killers : (K : ℕ) (call : Call) (x : ℤ) → slice_get calls K ≡ Some call → KillsIt (fields call.command) x → IsOf (places_of c i) K ⊎ (IsOpenedIn calls (steps_of history) (places_of c i) x → ⊥)) where
  abbrev steps : List Step
  steps = steps_of history

  abbrev state_at : ℕ → State
  state_at p = state_of (take p steps)

  abbrev its : List ℕ
  its = places_of c i

  abbrev AreIts : WatchArgs → Type 0
  AreIts = IsArgsFor on start filter batch

  few : FitsSize batch
  few = fits_size batch small

  abbrev Opened : List ℕ → ℤ → Type 0
  Opened = IsOpenedIn calls steps

  abbrev Heard : List ℕ → List ℕ → Type 0
  Heard = HeardIn calls steps on

  abbrev Sent : ℕ → Call → ℕ → Step → Type 0
  Sent = IsSent history fates kept calls pended as_fates stands alone ruled mild legal prompt c i on start filter batch small may

  abbrev Fine : ℕ → Step → Type 0
  Fine = IsFine history fates kept calls pended as_fates stands alone ruled mild legal prompt c i on start filter batch small may

  -- each was sent in a turn of the job
  abbrev pub AreSent : List ℕ → Type 0
  AreSent places = (place : ℕ) → IsOf places place → (k : ℕ) × SentIn c i k place

  -- the steps of the commands at these places are fine
  abbrev pub AreFine : List ℕ → Type 0
  AreFine places = (place : ℕ) (call : Call) (p : ℕ) (step : Step) → IsOf places place → slice_get calls place ≡ Some call → call.position ≡ Some p → slice_get steps p ≡ Some step → Fine p step

  -- the cursor is not killed by a command at one of these places
  abbrev IsSparedBy : List ℕ → ℤ → Type 0
  IsSparedBy places x = (K : ℕ) (call : Call) → IsOf places K → slice_get calls K ≡ Some call → KillsIt (fields call.command) x → ⊥

  is_sent : (k place : ℕ) (call : Call) (p : ℕ) (step : Step) → SentIn c i k place → slice_get calls place ≡ Some call → call.position ≡ Some p → slice_get steps p ≡ Some step → Sent place call p step
  is_sent k place call p step sent there position_is at =
      let s = stands.same place call p there position_is in
      record {
        there = there;
        position_is = position_is;
        at = at;
        same_command = ap (λ (x : Step). x.command) (same_some step s.0 (sym at ∙ s.1)) ∙ s.2;
        own = has_position calls its place call p (sent_place c i k place sent) there position_is;
        may_send = sends.each k place call sent there;
      }

  -- How a stream of it stands that has sent at these places.
  pub record Holds (before : List ℕ) (at : ClientStream) : Type 0 where
    pub sent : AreSent before
    pub well : StandsWell (IsOpenedIn calls (steps_of history) before) (IsArgsFor on start filter batch) at
    pub told : StandsOwn (HeardIn calls (steps_of history) on before) at
    pub saved : AreSaved at.aggregate
    -- what was killed was opened by its own
    pub killed : (K : ℕ) (call : Call) (x : ℤ) → IsOf before K → slice_get calls K ≡ Some call → KillsIt (fields call.command) x → IsOpenedIn calls (steps_of history) before x
    -- where no resumption is owed its cursor was not killed
    pub lives : at.doing ≡ follows → at.cursor.id ≢ pos 0 → IsSparedBy before at.cursor.id
    pub fine : AreFine before

  -- a reply that a call of it heard tells what is there
  heard_in : (places : List ℕ) (wire : ℤ) → AreFine places → (command : Fields) (bytes : List ℕ) → HeardBy (sent_at places calls wire) command (reply bytes) → Heard places bytes
  heard_in places wire fine command bytes h =
      let t = took_at steps calls legal stands places wire command bytes h in
      record {
        place = t.place;
        of = t.of;
        call = t.call;
        there = t.there;
        position = t.position;
        position_is = t.position_is;
        step = t.step;
        stands = t.stands;
        told = subst (IsTold (length (state_at t.position).changes) on) (sym t.reply_is) (fine t.place t.call t.position t.step t.of t.there t.position_is t.stands).told;
      }

  -- ---- the cursor that it has

  tells_cursor : (before : List ℕ) (at : ClientStream) → Holds before at → (B : ℕ) × (said : Cursor) × TellsThere B on said × (said.id ≡ at.cursor.id) × (said.space ≡ at.cursor.space)
  tells_cursor before at h =
      let o = h.told.cursor.own in
      (_, o.cursor, o.in_reply.told.cursor o.cursor o.says, o.id_is, o.space_is)

  cursor_space : (before : List ℕ) (at : ClientStream) → Holds before at → at.cursor.space ≡ watch_space on
  cursor_space before at h = let t = tells_cursor before at h in sym t.4 ∙ t.2.space_is

  cursor_id : (before : List ℕ) (at : ClientStream) → Holds before at → (n : ℕ) × (at.cursor.id ≡ pos n)
  cursor_id before at h = let t = tells_cursor before at h in (t.2.id, sym t.3 ∙ t.2.id_is)

  -- ---- a call

  module _ (before own rest : List ℕ) (whole : before ++ (own ++ rest) ≡ its) (sent : AreSent own) (at : ClientStream) (holds : Holds before at) (wire : ℤ) (falls : CallFalls calls wire at own 0) where
    rising : Rise c.begun (before ++ (own ++ rest))
    rising = subst (Rise c.begun) (sym whole) (of_rise c i)

    abbrev past : Past
    past = sent_at own calls wire

    abbrev now : List ℕ
    now = before ++ own

    earlier : (g place : ℕ) → IsOf before g → IsOf own place → g < place
    earlier g place first second = below_others before (own ++ rest) c.begun g place rising first (of_first own rest place second)

    is_before : (place : ℕ) (call : Call) (p : ℕ) → IsOf own place → slice_get calls place ≡ Some call → call.position ≡ Some p → (g : ℕ) (other : Call) (q : ℕ) → IsOf before g → slice_get calls g ≡ Some other → other.position ≡ Some q → q < p
    is_before place call p of there position_is g other q first here placed = stands.rising g place other call q p (earlier g place first of) here there placed position_is

    never_both : (x : ℤ) → Opened before x → Opened own x → ⊥
    never_both x a b =
        let same = opened_place calls steps legal stands before own x a b in
        let less = earlier a.place b.place a.of b.of in
        omega (arith, same, less)

    its_number : (place : ℕ) (call : Call) → IsOf own place → slice_get calls place ≡ Some call → IsNumbered (IsSentAt (KillsReplaced past true at) at) (calling.places at) own place (fields call.command)
    its_number place call of there = numbered (IsSentAt (KillsReplaced past true at) at) calls (calling.places at) own 0 falls.within falls.falling place call of there

    -- ---- the aggregate that resumes it

    resumes_fine : (place : ℕ) (call : Call) (p : ℕ) (step : Step) → IsOf own place → Sent place call p step → ResumesBy at.aggregate (fields call.command) → Fine p step
    resumes_fine place call p step of s r =
        let none = alone_aggregate on start filter batch few (fields call.command) at.aggregate.args at.aggregate.resume r.wire r.session s.may_send holds.well.args r.resumes_so in
        let is : fields call.command ≡ resuming_in at.aggregate r.wire None = subst (λ (x : Option Session). fields call.command ≡ resuming_in at.aggregate r.wire x) none r.resumes_so in
        by_known at.aggregate.resume refl (is ∙ its_body on start filter batch at.aggregate.args at.aggregate.resume r.wire None holds.well.args)
      where
        there_by : (known : ChangeStreamData) (again : Begin) → at.aggregate.resume ≡ Some known → GoesOnFrom start known again → IsThere (state_at p) (start_of again)
        there_by known again has (as_before same) = subst (λ (b : Begin). IsThere (state_at p) (start_of b)) (sym same) (subst (IsThere (state_at p)) may.watches.from_is (may.there p step s.own s.at))
        there_by known again has (behind token knows is) =
            subst (IsThere (state_at p)) (sym is)
            (token_there history fates kept calls pended as_fates stands alone ruled mild legal prompt c i on start filter batch small may before place call p step s (is_before place call p of s.there s.position_is) at.aggregate.args.options token holds.well.args.options_are (holds.told.known known token has knows))
        there_by known again has (from_time time is) = subst (IsThere (state_at p)) (sym is) tt

        by_known : (o : Option ChangeStreamData) → at.aggregate.resume ≡ o → fields call.command ≡ watch_command on (stages_of filter) (options_for (options_of on start batch) at.aggregate.resume r.wire) → Fine p step
        by_known None has command = absurd (subst (IsSaved at.aggregate.args.options) has holds.saved)
        by_known (Some known) has command =
            let saved : SavedFor (options_of on start batch) known.initial_operation_time = subst (λ (o : ChangeStreamOptions). SavedFor o known.initial_operation_time) holds.well.args.options_are (subst (IsSaved at.aggregate.args.options) has holds.saved) in
            let like = resumes_as on batch known r.wire start saved in
            aggregate_fine history fates kept calls pended as_fates stands alone ruled mild legal prompt c i on start filter batch small may place call p step s like.again
            (command ∙ ap (λ (x : Option ChangeStreamData). watch_command on (stages_of filter) (options_for (options_of on start batch) x r.wire)) has ∙ ap (watch_command on (stages_of filter)) like.options_are) (there_by known like.again has like.from)

    -- ---- its getMore

    -- what is killed between is not the cursor that it has
    spared_until : (place : ℕ) (call : Call) (p : ℕ) (step : Step) → Sent place call p step → (tail : List ℕ) → own ≡ place ∷ tail → at.doing ≡ follows → at.cursor.id ≢ pos 0 → (o : Opened before at.cursor.id) → (r : ℕ) (other : Step) → suc o.position ≤ r → r < p → slice_get steps r ≡ Some other → KillsIt (fields other.command) at.cursor.id → ⊥
    spared_until place call p step s tail head so held o r other low high there kills =
        let long = length-steps history in
        let less = get_within steps r other there in
        let k = alone r (omega (arith, long, less)) in
        let same = stands.same k.0 k.1 r k.2 k.3 in
        let is : other.command ≡ k.1.command = ap (λ (x : Step). x.command) (same_some other same.0 (sym there ∙ same.1)) ∙ same.2 in
        let kills' : KillsIt (fields k.1.command) at.cursor.id = subst (λ (command : List ℕ). KillsIt (fields command) at.cursor.id) is kills in
        elim (killers k.0 k.1 at.cursor.id k.2 kills') [
          | inl mine ↦ by_place k.0 k.1 k.2 k.3 kills' (of_either before (own ++ rest) k.0 (subst (λ (l : List ℕ). IsOf l k.0) (sym whole) mine))
          | inr others ↦ others (opened_among calls steps before its (λ q of. subst (λ (l : List ℕ). IsOf l q) whole (of_first before (own ++ rest) q of)) at.cursor.id o)
        ]
      where
        not_later : (K : ℕ) (killer : Call) → slice_get calls K ≡ Some killer → killer.position ≡ Some r → place < K → ⊥
        not_later K killer here placed later = let bad = stands.rising place K call killer p r later s.there here s.position_is placed in omega (arith, bad, high)

        not_same : (K : ℕ) (killer : Call) → slice_get calls K ≡ Some killer → killer.position ≡ Some r → place ≡ K → ⊥
        not_same K killer here placed same =
            let one : killer ≡ call = same_some killer call (sym here ∙ ap (slice_get calls) (sym same) ∙ s.there) in
            let both : r ≡ p = same_some r p (sym placed ∙ ap (λ (x : Call). x.position) one ∙ s.position_is) in
            omega (arith, both, high)

        by_tail : (K : ℕ) (killer : Call) → slice_get calls K ≡ Some killer → killer.position ≡ Some r → IsOf ((place ∷ tail) ++ rest) K → ⊥
        by_tail K killer here placed (inl same) = not_same K killer here placed same
        by_tail K killer here placed (inr later) =
            let rise : Rise c.begun ((before ++ place ∷ []) ++ (tail ++ rest)) = subst (Rise c.begun) (ap (λ (l : List ℕ). before ++ (l ++ rest)) head ∙ sym (append_assoc before (place ∷ []) (tail ++ rest))) rising in
            not_later K killer here placed (below_others (before ++ place ∷ []) (tail ++ rest) c.begun place K rise (of_second before (place ∷ []) place (inl refl)) later)

        by_place : (K : ℕ) (killer : Call) → slice_get calls K ≡ Some killer → killer.position ≡ Some r → KillsIt (fields killer.command) at.cursor.id → IsOf before K ⊎ IsOf (own ++ rest) K → ⊥
        by_place K killer here placed kills (inl first) = holds.lives so held K killer first here kills
        by_place K killer here placed kills (inr later) = by_tail K killer here placed (subst (λ (l : List ℕ). IsOf (l ++ rest) K) head later)

    more_is_fine : (place : ℕ) (call : Call) (p : ℕ) (step : Step) → IsOf own place → Sent place call p step → (tail : List ℕ) → own ≡ place ∷ tail → at.doing ≡ follows → AsksMoreOf at.cursor (fields call.command) → Fine p step
    more_is_fine place call p step of s tail head so m =
        let x : ℤ = at.cursor.id in
        let manner : at.cursor.manner ≡ sized batch = holds.well.cursor.manner_is ∙ its_manner on start filter batch at.aggregate.args holds.well.args in
        let asks : fields call.command ≡ in_session m.session (next_command x at.cursor.space (sized batch)) = m.asks_so ∙ ap (λ (y : Manner). in_session m.session (next_command x at.cursor.space y)) manner in
        let none = alone_more on start filter batch few (fields call.command) x at.cursor.space m.session s.may_send asks in
        let plainly : fields call.command ≡ next_command x at.cursor.space (sized batch) = subst (λ (y : Option Session). fields call.command ≡ in_session y (next_command x at.cursor.space (sized batch))) none asks in
        let wants : asked call.command ≡ asks_more x at.cursor.space = asks_for_more call.command x at.cursor.space batch None None None holds.well.cursor.named plainly in
        let held : x ≢ pos 0 = opens_some _ x (names_whole calls steps names legal stands place call x s.there (subst (λ (a : Asked). Names a x) (sym wants) refl)).opens in
        let o = holds.well.cursor.watches held in
        let k = holds.sent o.place o.of in
        let opener = is_sent k.0 o.place o.call o.position o.step k.1 o.there o.position_is o.stands in
        let w = watches_its on start filter batch may.short o.step.command (subst (λ (command : List ℕ). IsCommandOf AreIts (fields command)) (sym opener.same_command) opener.may_send) o.asks in
        let less = is_before place call p of s.there s.position_is o.place o.call o.position o.of o.there o.position_is in
        let within = get_within steps p step s.at in
        let stood = opened_lasts history fates kept calls pended as_fates stands alone ruled mild legal prompt x w.watch w.from o.position p o.step o.stands w.is o.opens held less (omega (arith, within)) (spared_until place call p step s tail head so held o) in
        let id = cursor_id before at holds in
        more_fine history fates kept calls pended as_fates stands alone ruled mild legal prompt c i on start filter batch small may place call p step s id.0
        (plainly ∙ ap (λ (y : ℤ). next_command y at.cursor.space (sized batch)) id.1 ∙ ap (λ (y : Space). next_command (pos id.0) y (sized batch)) (cursor_space before at holds))
        w.watch w.aims (subst (λ (y : ℤ). StandsFor (state_at p) y w.watch) id.1 stood)

    -- ---- all but the killing

    abbrev FineOr : ℕ → Step → Call → Type 0
    FineOr p step call = Fine p step ⊎ KillsReplaced past true at (fields call.command)

    by_number : (place : ℕ) (call : Call) (p : ℕ) (step : Step) → IsOf own place → Sent place call p step → (n : ℕ) → n < calling.places at → IsSentAt (KillsReplaced past true at) at n (fields call.command) → (suc n ≡ calling.places at → (tail : List ℕ) × (own ≡ place ∷ tail)) → FineOr p step call
    by_number place call p step of s zero less is first = inr is
    by_number place call p step of s (suc zero) less is first = inl (resumes_fine place call p step of s is)
    by_number place call p step of s (suc (suc zero)) less is first = inl (resumes_fine place call p step of s is)
    by_number place call p step of s (suc (suc (suc zero))) less is first =
        let most = places_few at.cursor at.doing in
        let head = first (omega (arith, less, most)) in
        inl (more_is_fine place call p step of s head.0 head.1 (follows_first at.cursor at.doing less) is)
    by_number place call p step of s (suc (suc (suc (suc n)))) less is first = absurd is

    fine_or : (place : ℕ) (call : Call) (p : ℕ) (step : Step) → IsOf own place → slice_get calls place ≡ Some call → call.position ≡ Some p → slice_get steps p ≡ Some step → FineOr p step call
    fine_or place call p step of there placed here =
        let k = sent place of in
        let n = its_number place call of there in
        by_number place call p step of (is_sent k.0 place call p step k.1 there placed here) n.number n.below n.is n.first

    -- ---- what it heard

    heard_fine : (command : Fields) (bytes : List ℕ) → ((old : ClientCursor) → command ≡ kill old → ⊥) → (h : HeardBy past command (reply bytes)) → (t : TookAt calls steps own command bytes) × Fine t.position t.step
    heard_fine command bytes other h =
        let t = took_at steps calls legal stands own wire command bytes h in
        elim (fine_or t.place t.call t.position t.step t.of t.there t.position_is t.stands) [
          | inl fine ↦ (t, fine)
          | inr k ↦ absurd (other k.old (sym t.command_is ∙ ap fields t.same_command ∙ k.kills_so))
        ]

    succeeds : (command : Fields) (bytes : List ℕ) → CreatesNone command → ((old : ClientCursor) → command ≡ kill old → ⊥) → HeardBy past command (reply bytes) → IsSuccess bytes
    succeeds command bytes creates other h =
        let f = heard_fine command bytes other h in
        let t = f.0 in
        let p = prompted_at history fates kept calls pended as_fates stands alone ruled mild legal prompt t.position t.step t.stands f.1.taken in
        subst IsSuccess (sym t.reply_is) (prompt_success t.step p (asked_creates t.step.command command t.command_is creates))

    never_lost : (command : Fields) → HeardBy past command fault → ⊥
    never_lost command h = never_fault history fates kept calls pended as_fates stands alone ruled mild legal prompt h.place h.heard.call h.heard.there h.heard.has_seen

    abbrev Ours : ℤ → Type 0
    Ours = Opened now

    ours_before : (x : ℤ) → Opened before x → Ours x
    ours_before x o = opened_among calls steps before now (λ p of. of_first before own p of) x o

    ours_own : (x : ℤ) → Opened own x → Ours x
    ours_own x o = opened_among calls steps own now (λ p of. of_second before own p of) x o

    honest : IsHonest Ours past
    honest = honest_as steps calls legal stands own wire Ours ours_own (opened_watched calls steps now)

    -- another view of the same stream
    well_as : (watched : ℤ → Type 0) → (at.cursor.id ≢ pos 0 → watched at.cursor.id) → StandsWell watched AreIts at
    well_as watched watches = record { args = holds.well.args; cursor = record { manner_is = holds.well.cursor.manner_is; named = holds.well.cursor.named; watches = watches }; first = holds.well.first; events = holds.well.events }

    well_now : StandsWell Ours AreIts at
    well_now = well_as Ours (λ held. ours_before at.cursor.id (holds.well.cursor.watches held))

    more_room : (e : Error) → MoreFails past at.cursor e → e.kind ≡ kind.OutOfMemory
    more_room e f = by_request f.fails
      where
        command : Fields
        command = get_more at.cursor f.session

        other : (old : ClientCursor) → command ≡ kill old → ⊥
        other old is = more_not_kill at.cursor old f.session command refl is

        by_request : RequestFails past (get_more at.cursor f.session) false TellsNoCursor e → e.kind ≡ kind.OutOfMemory
        by_request (out_of_memory room) = room
        by_request (was_lost is heard) = absurd (never_lost command (heard_by past command false fault heard))
        by_request (was_refused bytes heard fails) = absurd (fails_not bytes wire e (succeeds command bytes (asking_none at.cursor.id at.cursor.space at.cursor.manner f.session) other (heard_by past command false (reply bytes) heard)) fails)
        by_request (was_broken bytes heard success broken) =
            let b = (heard_more Ours AreIts past honest at well_now bytes (record { session = f.session; heard = heard_by past command false (reply bytes) heard; success = success })).0 in
            absurd (tells_not bytes b.batch e b.there broken)

    untold_room : (e : Error) → MoreFails past at.cursor e ⊎ (e ≡ plain kind.OutOfMemory) → e.kind ≡ kind.OutOfMemory
    untold_room e (inl fails) = more_room e fails
    untold_room e (inr full) = ap (λ (x : Error). x.kind) full

    never_fails : (e : Error) (left : ClientCursor) → MoreFailed past at e left → is_resumable e.kind e.labels e.wire_version ≡ true → ⊥
    never_fails e left (causes.untold ask why is) resumable =
        let bad : is_resumable kind.OutOfMemory e.labels e.wire_version ≡ true = subst (λ (k : ErrorKind). is_resumable k e.labels e.wire_version ≡ true) (untold_room e why) resumable in cc
    never_fails e left (causes.broken ask bytes told h says is breaks) resumable = let b = (heard_more Ours AreIts past honest at well_now bytes h).0 in breaks_not bytes b.batch e b.there breaks

    -- it resumes only where that was owed
    resumes_owed : (left : ClientCursor) → Resumes past at left → IsOwing at × (left ≡ at_rest at.cursor)
    resumes_owed left (causes.owed owing is) = (owing, is)
    resumes_owed left (causes.more_failed e why resumable) = absurd (never_fails e left why resumable)
    resumes_owed left (causes.first_broken bytes e first breaks is) = let b = holds.well.first bytes first in absurd (breaks_not bytes b.batch e b.there breaks)

    -- ---- the killing

    killed_same : (command : List ℕ) (k : KillsReplaced past true at (fields command)) (x : ℤ) → KillsIt (fields command) x → (x ≡ at.cursor.id) × (at.cursor.id ≢ pos 0) × IsOwing at
    killed_same command k x kills =
        let owed = resumes_owed k.old k.resumed.why in
        let id : k.old.id ≡ at.cursor.id = ap (λ (y : ClientCursor). y.id) owed.1 in
        (sym (kills_that command k.old.space k.old.id x k.kills_so kills) ∙ id, (λ none. k.there (id ∙ none)), owed.0)

    pub own_fine : AreFine own
    own_fine place call p step of there placed here =
        elim (fine_or place call p step of there placed here) [
          | inl fine ↦ fine
          | inr k ↦
              let owed = resumes_owed k.old k.resumed.why in
              let id = cursor_id before at holds in
              let s = sent place of in
              kill_fine history fates kept calls pended as_fates stands alone ruled mild legal prompt c i on start filter batch small may place call p step (is_sent s.0 place call p step s.1 there placed here) (Some id.0)
              (k.kills_so ∙ ap kill owed.1 ∙ ap (λ (y : ℤ). kill_command at.cursor.space (y ∷ [])) id.1 ∙ ap (λ (y : Space). kill_command y (pos id.0 ∷ [])) (cursor_space before at holds))
        ]

    -- what a command of the call kills, if any, is the cursor that it had, to which a resumption was owed
    kills_own : (K : ℕ) (call : Call) (x : ℤ) → IsOf own K → slice_get calls K ≡ Some call → KillsIt (fields call.command) x → (x ≡ at.cursor.id) × (at.cursor.id ≢ pos 0) × IsOwing at
    kills_own K call x of there kills = let n = its_number K call of there in by_kind n.number n.is
      where
        by_kind : (n : ℕ) → IsSentAt (KillsReplaced past true at) at n (fields call.command) → (x ≡ at.cursor.id) × (at.cursor.id ≢ pos 0) × IsOwing at
        by_kind zero is = killed_same call.command is x kills
        by_kind (suc zero) is = absurd (resuming_spares at.aggregate is.wire is.session x (subst (λ (fs : Fields). KillsIt fs x) is.resumes_so kills))
        by_kind (suc (suc zero)) is = absurd (resuming_spares at.aggregate is.wire is.session x (subst (λ (fs : Fields). KillsIt fs x) is.resumes_so kills))
        by_kind (suc (suc (suc zero))) is = absurd (more_spares at.cursor is.session x (subst (λ (fs : Fields). KillsIt fs x) is.asks_so kills))
        by_kind (suc (suc (suc (suc m)))) is = absurd is

    -- ---- behind the call

    module _ (answer : Answer) (then_at : ClientStream) (called : Called past None at then_at (poll_of answer)) where
      hears : (command : Fields) (bytes : List ℕ) → HeardBy past command (reply bytes) → Heard now bytes
      hears command bytes h = heard_among calls steps on own now (λ p of. of_second before own p of) bytes (heard_in own wire own_fine command bytes h)

      still_heard : (bytes : List ℕ) → Heard before bytes → Heard now bytes
      still_heard bytes h = heard_among calls steps on before now (λ p of. of_first before own p of) bytes h

      -- the cursor that it goes on with is the same one, or one that the call opened
      abbrev IsEither : ℤ → Type 0
      IsEither x = ((x ≡ at.cursor.id) × (at.cursor.id ≢ pos 0)) ⊎ Opened own x

      either_watched : (x : ℤ) → IsEither x → IsWatched steps x
      either_watched x (inl same) = subst (IsWatched steps) (sym same.0) (opened_watched calls steps before at.cursor.id (holds.well.cursor.watches same.1))
      either_watched x (inr o) = opened_watched calls steps own x o

      goes_with : then_at.cursor.id ≢ pos 0 → IsEither then_at.cursor.id
      goes_with held =
          (called_stands IsEither AreIts past (honest_as steps calls legal stands own wire IsEither (λ x o. inr o) either_watched) at (well_as IsEither (λ ne. inl (refl, ne))) answer then_at called).0.cursor.watches held

      -- a cursor that the call opened was not killed before
      fresh_before : (x : ℤ) → Opened own x → IsSparedBy before x
      fresh_before x o K call of there kills = never_both x (holds.killed K call x of there kills) o

      fresh_now : (x : ℤ) → Opened own x → IsSparedBy now x
      fresh_now x o K call of there kills =
          elim (of_either before own K of) [
            | inl first ↦ fresh_before x o K call first there kills
            | inr second ↦ (let k = kills_own K call x second there kills in never_both x (subst (Opened before) (sym k.0) (holds.well.cursor.watches k.1)) o)
          ]

      honest_only : IsHonest (Opened own) past
      honest_only = honest_as steps calls legal stands own wire (Opened own) (λ x o. o) (opened_watched calls steps own)

      -- that of a resumption is one
      renewed_opened : (not : at.doing ≡ follows → ⊥) (so : then_at.doing ≡ follows) → IsRenewed past at then_at not so → then_at.cursor.id ≢ pos 0 → Opened own then_at.cursor.id
      renewed_opened not so r held =
          let q = r.resumed in
          let command = resuming_in at.aggregate wire q.heard.session in
          let tells = (honest_only.watch (target at.aggregate.args.target) at.aggregate.args.pipeline.items (options_for at.aggregate.args.options at.aggregate.resume wire) q.heard.session r.bytes (heard_by past command (is_read_again q.heard.session) (reply r.bytes) q.heard.heard) q.heard.success).1 in
          let id : then_at.cursor.id ≡ q.out.0.info.id = ap (λ (x : ClientCursor). x.id) (r.same ∙ ap at_rest q.cursor_is) in
          subst (Opened own) (sym id) (tells _ q.opens.opens.opens.says (λ none. held (id ∙ none)))

      lives_on : then_at.doing ≡ follows → then_at.cursor.id ≢ pos 0 → IsSparedBy now then_at.cursor.id
      lives_on so held =
          elim (is_following at.doing) [
            | inl was ↦ elim (goes_with held) [
              | inl same ↦ λ K call of there kills. elim (of_either before own K of) [
                | inl first ↦ holds.lives was same.1 K call first there (subst (KillsIt (fields call.command)) same.0 kills)
                | inr second ↦ (let k = kills_own K call then_at.cursor.id second there kills in let bad : follows ≡ owes = sym was ∙ k.2.owes_one in cc)
              ]
              | inr o ↦ fresh_now then_at.cursor.id o
            ]
            | inr not ↦ fresh_now then_at.cursor.id (renewed_opened not so (renewed_called past at then_at not so answer called) held)
          ]

      killed_now : (K : ℕ) (call : Call) (x : ℤ) → IsOf now K → slice_get calls K ≡ Some call → KillsIt (fields call.command) x → Ours x
      killed_now K call x of there kills =
          elim (of_either before own K of) [
            | inl first ↦ ours_before x (holds.killed K call x first there kills)
            | inr second ↦ (let k = kills_own K call x second there kills in subst Ours (sym k.0) (ours_before at.cursor.id (holds.well.cursor.watches k.1)))
          ]

      -- How the stream stands behind it.
      pub holds_after : Holds now then_at
      holds_after = record {
        sent = λ place of. elim (of_either before own place of) [ inl first ↦ holds.sent place first | inr second ↦ sent place second ];
        well = (called_stands Ours AreIts past honest at well_now answer then_at called).0;
        told = called_own (Heard now) past hears at more_room (stands_further (Heard before) (Heard now) still_heard at holds.told) answer then_at called;
        saved = called_saved past at then_at answer called holds.saved;
        killed = killed_now;
        lives = lives_on;
        fine = λ place call p step of there placed here. elim (of_either before own place of) [ inl first ↦ holds.fine place call p step first there placed here | inr second ↦ own_fine place call p step second there placed here ];
      }

  -- ---- all calls

  calls_hold : (wire : ℤ) (before : List ℕ) (owns : List (List ℕ)) (rest : List ℕ) (said : List Answer) (at last : ClientStream) → before ++ (concat owns ++ rest) ≡ its → ((k : ℕ) (own : List ℕ) → slice_get owns k ≡ Some own → AreSent own) → Holds before at → Answered calls wire at owns said last → Holds (before ++ concat owns) last
  calls_hold wire before [] rest [] at last whole sent holds is = subst (λ (l : List ℕ). Holds l last) (sym (append-nil before)) (subst (Holds before) (sym is) holds)
  calls_hold wire before (own ∷ owns) rest (answer ∷ said) at last whole sent holds answered =
      let here : before ++ (own ++ (concat owns ++ rest)) ≡ its = ap (λ (l : List ℕ). before ++ l) (sym (append_assoc own (concat owns) rest)) ∙ whole in
      let next = holds_after before own (concat owns ++ rest) here (sent 0 own refl) at holds wire (call_falls calls wire at own answered.3) answer answered.0 answered.1 in
      let later : (before ++ own) ++ (concat owns ++ rest) ≡ its = append_assoc before own (concat owns ++ rest) ∙ here in
      subst (λ (l : List ℕ). Holds l last) (append_assoc before own (concat owns)) (calls_hold wire (before ++ own) owns rest said answered.0 last later (λ k o there. sent (suc k) o there) next answered.2)
  calls_hold wire before [] rest (answer ∷ said) at last whole sent holds answered = absurd answered
  calls_hold wire before (own ∷ owns) rest [] at last whole sent holds answered = absurd answered

  -- ---- its opening

  openings_fine : (wire : ℤ) (places : List ℕ) (args : WatchArgs) → AreSent places → AreIts args → FallsAt (IsOpening args wire None) calls 3 places 1 → AreFine places
  openings_fine wire places args sent are falls place call p step of there placed here =
      let k = sent place of in
      let s = is_sent k.0 place call p step k.1 there placed here in
      let is = (falls_each (IsOpening args wire None) calls 3 places 1 falls.falling place call of there).1 in
      aggregate_fine history fates kept calls pended as_fates stands alone ruled mild legal prompt c i on start filter batch small may place call p step s start (is ∙ its_body on start filter batch args None wire None are)
      (subst (IsThere (state_at p)) may.watches.from_is (may.there p step s.own here))

  opening_spares : (wire : ℤ) (places : List ℕ) (args : WatchArgs) → FallsAt (IsOpening args wire None) calls 3 places 1 → (x : ℤ) → IsSparedBy places x
  opening_spares wire places args falls x K call of there kills =
      let is = (falls_each (IsOpening args wire None) calls 3 places 1 falls.falling K call of there).1 in
      resuming_spares (first_aggregate args) wire None x (subst (λ (fs : Fields). KillsIt fs x) is kills)

  opening_holds : (wire : ℤ) (places : List ℕ) (args : WatchArgs) (first : ClientStream) → AreSent places → AreIts args → StreamOpened (sent_at places calls wire) args first → FallsAt (IsOpening args wire None) calls 3 places 1 → Holds places first
  opening_holds wire places args first sent are o falls =
      let past = sent_at places calls wire in
      let fine = openings_fine wire places args sent are falls in
      record {
        sent = sent;
        well = opened_well (Opened places) AreIts past (honest_as steps calls legal stands places wire (Opened places) (λ x p. p) (opened_watched calls steps places)) args are first o;
        told = opened_own (Heard places) past (heard_in places wire fine) args first o;
        saved = subst (λ (s : ClientStream). AreSaved s.aggregate) (sym o.stream_is) (saved_first args.options wire o.out.0.is_empty (is_some o.out.0.post_batch_resume_token) o.out.1);
        killed = λ K call x of there kills. absurd (opening_spares wire places args falls x K call of there kills);
        lives = λ so held. opening_spares wire places args falls first.cursor.id;
        fine = fine;
      }

  -- ---- its closing

  left_ids : (n : ℕ) → (o : Option ℕ) × (unless_none (pos n) ++ unless_none (pos 0) ≡ few_ids o)
  left_ids zero = (None, refl)
  left_ids (suc n) = (Some (suc n), ap (λ (b : Bool). (if b then [] else pos (suc n) ∷ []) ++ unless_none (pos 0)) (not_zero n))

  closing_fine : (before places : List ℕ) (last : ClientStream) → Holds before last → AreSent places → FallsAt (KillsLast last) calls 1 places 0 → AreFine places
  closing_fine before places last holds sent falls place call p step of there placed here =
      let k = sent place of in
      let s = is_sent k.0 place call p step k.1 there placed here in
      let is = (falls_each (KillsLast last) calls 1 places 0 falls.falling place call of there).1 in
      let id = cursor_id before last holds in
      let ids = left_ids id.0 in
      kill_fine history fates kept calls pended as_fates stands alone ruled mild legal prompt c i on start filter batch small may place call p step s ids.0
      (is ∙ ap (λ (y : ℤ). kill_command last.cursor.space (unless_none y ++ unless_none (pos 0))) id.1 ∙ ap (kill_command last.cursor.space) ids.1 ∙ ap (λ (y : Space). kill_command y (few_ids ids.0)) (cursor_space before last holds))

  all_sent : (k : ℕ) (places : List ℕ) → AllSentIn c i k places → AreSent places
  all_sent k places sent place of = (k, sent place of)

  module _ (awaited : Awaited) (count answered : ℕ) (wire : ℤ) (before places : List ℕ) (whole : before ++ (places ++ []) ≡ its) (last : ClientStream) (holds : Holds before last) where
    stands_fine : OpenStands awaited c i count answered calls wire last places → AreFine places
    stands_fine (at_ease pended less none) = λ place call p step of. absurd (subst (λ (l : List ℕ). IsOf l place) none of)
    stands_fine (in_call pended less sent waits sends) = own_fine before places [] whole (all_sent (suc answered) places sent) last holds wire (call_falls calls wire last places sends)
    stands_fine (in_closing pended all sent waits falls) = closing_fine before places last holds (all_sent answered places sent) falls

    end_fine : {A : Type 0} (closed : Ended A) → CloseCaused awaited c i count answered calls wire last places closed → AreFine places
    end_fine ended.Unfinished stood = stands_fine stood
    end_fine (ended.Gave x) close = closing_fine before places last holds (all_sent answered places close.sent) close.kills
    end_fine (ended.Failed e) close = closing_fine before places last holds (all_sent answered places close.sent) close.kills

  open_fine : {A : Type 0} (awaited : Awaited) (count : ℕ) (wire : ℤ) (said : List Answer) (token : Option Tree) (alive : Bool) (closed : Ended A) → OpenCaused awaited c i count calls wire on start filter batch said token alive closed → AreFine its
  open_fine awaited count wire said token alive closed o =
      let a = o.answers in
      let opened = opening_holds wire a.places o.args a.first (all_sent 0 a.places a.sent) o.args_are a.opened (opens_falls calls wire o.args a.places a.opens) in
      let called = calls_hold wire a.places a.owns o.now said a.first o.last o.whole (λ k own there. all_sent (suc k) own (a.sent_each k own there)) opened a.answered in
      let before : List ℕ = a.places ++ concat a.owns in
      let joined : before ++ o.now ≡ its = append_assoc a.places (concat a.owns) o.now ∙ o.whole in
      let end = end_fine awaited count (length said) wire before o.now (ap (λ (l : List ℕ). before ++ l) (append-nil o.now) ∙ joined) o.last called closed o.close in
      λ place call p step of there placed here.
      elim (of_either before o.now place (subst (λ (l : List ℕ). IsOf l place) (sym joined) of)) [
        | inl first ↦ called.fine place call p step first there placed here
        | inr later ↦ end place call p step later there placed here
      ]

  none_refused : AreFine its → NoneRefused c i calls steps
  none_refused fine position step own at =
      let by = call_at calls its position own in
      is_taken (asked step.command) (told_at step) (fine by.place by.call position step by.of by.there by.position_is at).taken

  none_sent : its ≡ [] → AreFine its
  none_sent none place call p step of there placed here = absurd (subst (λ (l : List ℕ). IsOf l place) none of)

  -- one that is being opened waits once it sent something
  opening_fine : (awaited : Awaited) (wire : ℤ) → turns_done i c.order c.notes ≡ 0 → (pends_last i c.order c.notes ≡ true → OpenWaits awaited c i calls wire on start filter batch) → AreFine its
  opening_fine awaited wire none waits place call p step of =
      let w = waits (sent_pends c i place none of) in
      subst AreFine w.whole (openings_fine wire w.places w.args (all_sent 0 w.places w.sent) w.args_are (opens_falls calls wire w.args w.places w.opens)) place call p step of

  -- It refused none of them.
  pub follow_taken : (awaited : Awaited) (count : ℕ) (wire : ℤ) (opened closed : Ended (Unit {0})) (said : List Answer) (token : Option Tree) (alive : Bool) → FollowCaused awaited c i count calls wire on start filter batch opened said token alive closed
      → FollowPlayed opened closed count (length said) alive (turns_done i c.order c.notes) (pends_last i c.order c.notes) → NoneRefused c i calls steps
  follow_taken awaited count wire ended.Unfinished closed said token alive caused played = none_refused (opening_fine awaited wire played.0 caused)
  follow_taken awaited count wire (ended.Gave x) closed said token alive caused played = none_refused (open_fine awaited count wire said token alive closed caused)
  follow_taken awaited count wire (ended.Failed e) closed said token alive (inl room) played = none_refused (none_sent room.1)
  follow_taken awaited count wire (ended.Failed e) closed said token alive (inr f) played =
      none_refused (subst AreFine f.whole (openings_fine wire f.places f.args (all_sent 0 f.places f.sent) f.args_are (opens_falls calls wire f.args f.places f.opens)))
