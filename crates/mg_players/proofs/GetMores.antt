-- By which cursor the polls of a get's reads ask for more: the one that the newest reply told.
use Rattle.std.proofs.Common.{◌≡◌, ◌⊎◌, ◌<◌, ◌≤◌, ℕ, zero, suc, ℤ, Bool, true, false, List, length, Some, None, refl, sym, ap, ◌∙◌, subst, inl, inr, arith}
use Rattle.mg_bson.specs.Raw.{fields}
use Rattle.mg_server.specs.Calls.{Keeps}
use Rattle.mg_link.specs.Exec.{Sending, Stage, first, second, unsent}
use Rattle.mg_link.specs.Link.{Awaited, LogTold, SendsNothing}
use Rattle.mg_link.specs.Log.{Call}
use Rattle.mg_server.specs.Owner.{IsOf}
use Rattle.mg_link.specs.declared.action.Step.{Step}
use Rattle.mg_link.specs.declared.action.Step.TheVariants as came
use Rattle.mg_server.proofs.Calls.{keeps_longer, same_keeps}
use Rattle.mg_exec.proofs.Execs.{runs_of}
use Rattle.mg_server.proofs.Owners.{same_some}
use Rattle.mg_link.proofs.Places.{get_within}
use Rattle.mg_ops.specs.Cursors.{next_command}
use Rattle.mg_cursor.specs.Client as client
use Rattle.mg_cursor.specs.Client.{ClientCursor, IsAsking, MayAsk, get_more}
use Rattle.mg_cursor.specs.Polling as polling
use Rattle.mg_cursor.specs.Polling.{Hears, PollsNext, RunsMore, broke, gave}
use Rattle.mg_cursor.specs.declared.polls.NextPoll.{NextPoll}
use Rattle.mg_cursor.specs.declared.polls.NextPoll.TheVariants as next
use Rattle.mg_gridfs.specs.Downloads as downloads
use Rattle.mg_gridfs.specs.Downloads.{ClientDownload, IsSoundDownload}
use Rattle.mg_gridfs.specs.ReadCauses.{cursor_in}
use Rattle.mg_gridfs.specs.Reads as fetching
use Rattle.mg_gridfs.specs.Reads.{Concludes, EndsFetch, Fetched, Fetches, Fills, HandsOut, Reads, TakesOne}
use Rattle.mg_gridfs.specs.declared.polls.ReadPoll.{ReadPoll}
use Rattle.mg_players.specs.Asking.{AsksOnBy, CursorLast, DownloadLast, FliesLast, IsToldLast, MoreLast, TellsAt}
use Rattle.mg_players.specs.Causes.{sent_since}
use Rattle.mg_players.specs.Gets.{AsksPlainly, more_chunks}
use Rattle.mg_players.proofs.GetNewest.{CameLast, GrewBy, Own, SentLast, SentOnce, asks_kept, cursor_kept, download_kept, own_back, own_on, ran_last, tells_kept}
use Rattle.mg_players.proofs.GetSending.{IsPlainCursor, IsPlainFetch, chunks_cursor, cursor_at, one_taken, plain_by}
use Rattle.mg_players.proofs.Telling.{in_first, is_since, since_is}

below_or : (m n : ℕ) → m ≤ n → (m < n) ⊎ (m ≡ n)
below_or zero zero less = inr refl
below_or zero (suc n) less = inl (omega arith)
below_or (suc m) zero less = absurd (omega (arith, less))
below_or (suc m) (suc n) less = elim (below_or m n (omega (arith, less))) [ inl lower ↦ inl (omega (arith, lower)) | inr same ↦ inr (ap suc same) ]

-- The commands of a get stand at these places, and at all from one on.
module _ (P : List ℕ) (L : ℕ) (below : (place : ℕ) → IsOf P place → place < L) where
  -- each command from there on asks for more so
  abbrev MoresIn : List Call → Type 0
  MoresIn calls = (place : ℕ) → L ≤ place → place < length calls → AsksOnBy calls (Own P L (length calls)) place

  mores_kept : (calls calls' : List Call) → Keeps calls calls' → (place : ℕ) → L ≤ place → place < length calls → MoresIn calls → AsksOnBy calls' (Own P L (length calls')) place
  mores_kept calls calls' keeps place low high mores =
      let longer = keeps_longer calls calls' keeps in
      asks_kept calls calls' keeps (Own P L (length calls)) (Own P L (length calls')) (own_on P L (length calls) (length calls') longer) place
      (λ other of less. own_back P L (length calls) (length calls') place (omega (arith, high)) other of less) (mores place low high)

  -- ---- a poll of the cursor

  abbrev CameBehind : Awaited → List Call → (ℕ → Type 0) → ClientCursor → NextPoll → Type 0
  CameBehind awaited calls own c next.Pending = CursorLast awaited calls own c c.doing
  CameBehind awaited calls own c (next.Batch bytes) = IsToldLast calls own c × (c.doing ≡ client.rests)
  CameBehind awaited calls own c next.End = IsToldLast calls own c × (c.doing ≡ client.rests)
  CameBehind awaited calls own c (next.Failed e) = Unit {0}

  record PolledLast (new : Awaited) (log' : LogTold) (c : ClientCursor) (r : NextPoll) : Type 0 where
    calls' : List Call
    told : log' ≡ Some calls'
    room : L ≤ length calls'
    mores : MoresIn calls'
    behind : CameBehind new calls' (Own P L (length calls')) c r

  module _ (old new : Awaited) (log log' : LogTold) (wire : ℤ) (started : Bool) (c c' : ClientCursor) (r : NextPoll) (plain : IsPlainCursor c) (calls : List Call) (told : log ≡ Some calls) (room : L ≤ length calls) (mores : MoresIn calls) where
    abbrev Its : ℕ → Type 0
    Its place = Own P L (length calls) place

    -- as the command that was sent
    abbrev Asks : List ℕ → Type 0
    Asks command = fields command ≡ more_chunks c.id c.space

    asks_so : (command : List ℕ) → fields command ≡ get_more c None → Asks command
    asks_so command is = is ∙ ap (next_command c.id c.space) plain.manner

    -- nothing was sent
    quiet : SendsNothing old new log log' → CameBehind new calls Its c' r → PolledLast new log' c' r
    quiet none behind = record { calls' = calls; told = none.log_same ∙ told; room = room; mores = mores; behind = behind }

    -- the getMore was sent at the end of the log, where it was
    module _ (calls' : List Call) (keeps : Keeps calls calls') (command : List ℕ) (may : MayAsk c) (asks : Asks command) where
      one_more : (stage : Stage) → (stage ≡ unsent → IsToldLast calls Its c) → GrewBy command stage calls calls' → MoresIn calls'
      one_more stage last (inl same) place low high = mores_kept calls calls' keeps place low (omega (arith, high, same)) mores
      one_more stage last (inr sent) place low high =
          let long = sent.long in
          elim (below_or place (length calls) (omega (arith, high, long))) [
            | inl before ↦ mores_kept calls calls' keeps place low before mores
            | inr here ↦ subst (AsksOnBy calls' (Own P L (length calls'))) (sym here) (this (last sent.new_one) sent)
          ]
        where
          this : (t : IsToldLast calls Its c) → SentOnce command stage calls calls' → AsksOnBy calls' (Own P L (length calls')) (length calls)
          this t once =
              let longer = keeps_longer calls calls' keeps in
              let same : (n : ℕ) → n ≤ n = λ n. omega arith in
              record {
                call = once.call;
                there = once.there;
                id = c.id;
                space = c.space;
                asks_so = ap fields once.command_is ∙ asks;
                held = may.held;
                before = t.before;
                its = own_on P L (length calls) (length calls') longer t.before t.its;
                less = get_within calls t.before t.told.call t.told.there;
                newest = λ other of less. t.newest other (own_back P L (length calls) (length calls') (length calls) (same (length calls)) other of less);
                told = tells_kept calls calls' keeps t.before c t.told;
              }

    -- what comes of a poll of it
    hears_last : (sending : Sending) (calls' : List Call) (own : ℕ → Type 0) (x : Step Sending (List ℕ)) → CameLast new calls' own x → Hears c x c' r → CameBehind new calls' own c' r
    hears_last sending calls' own (came.Pending s) l h = subst (CameBehind new calls' own c') (sym h.1) (subst (λ (y : ClientCursor). CursorLast new calls' own y y.doing) (sym h.0) (sent_more s.stage l))
      where
        sent_more : (stage : Stage) → SentLast new own stage → MoreLast new calls' own (record c { doing = client.asks s }) stage
        sent_more unsent l = absurd l
        sent_more (first ticket) l = l
        sent_more (second ticket) l = l
    hears_last sending calls' own (came.Done bytes) l (gave said says is answer) =
        let seen = l.0 in
        let t : TellsAt calls' seen.place said.id said.space = record { call = seen.call; there = seen.there; bytes = bytes; has_seen = seen.has_seen; success = l.1; cursor = said; says = says; id_is = refl; space_is = refl } in
        let told : IsToldLast calls' own (client.behind_reply said c) = record { before = seen.place; its = seen.its; newest = seen.newest; told = t } in
        subst (CameBehind new calls' own c') (sym answer) (subst (λ (y : ClientCursor). IsToldLast calls' own y × (y.doing ≡ client.rests)) (sym is) (told, refl))
    hears_last sending calls' own (came.Done bytes) l (broke e why is answer) = subst (CameBehind new calls' own c') (sym answer) tt
    hears_last sending calls' own (came.Failed e) l h = subst (CameBehind new calls' own c') (sym h.1) tt

    more_last : (sending : Sending) → sending.retries ≡ false → Asks sending.command → MayAsk c → MoreLast old calls Its c sending.stage → RunsMore old new log log' wire started c sending c' r → PolledLast new log' c' r
    more_last sending single asks may last h =
        let ran = ran_last P L below old new log log' wire sending h.came calls told room (flies sending.stage last) (runs_of old new log log' wire sending h.came started h.runs) in
        let longer = keeps_longer calls ran.calls' ran.keeps in
        record {
          calls' = ran.calls';
          told = ran.told;
          room = omega (arith, room, longer);
          mores = one_more ran.calls' ran.keeps sending.command may asks sending.stage (λ new_one. at_first sending.stage new_one last) (ran.once single);
          behind = hears_last sending ran.calls' (Own P L (length ran.calls')) h.came ran.came h.hears;
        }
      where
        flies : (stage : Stage) → MoreLast old calls Its c stage → FliesLast old Its stage
        flies unsent l = tt
        flies (first ticket) l = l
        flies (second ticket) l = l

        at_first : (stage : Stage) → stage ≡ unsent → MoreLast old calls Its c stage → IsToldLast calls Its c
        at_first stage is l = subst (MoreLast old calls Its c) is l

    at_rest_told : (doing : client.Doing) → doing ≡ client.rests → CursorLast old calls Its c doing → IsToldLast calls Its c
    at_rest_told doing is l = subst (CursorLast old calls Its c) is l

    polled_last : CursorLast old calls Its c c.doing → PollsNext old new log log' wire None started c c' r → PolledLast new log' c' r
    polled_last last (polling.hands_out reply at none unstarted is answer) =
        let t = subst (CursorLast old calls Its c) at last in
        let here : IsToldLast calls Its (client.at_rest c) = record { before = t.before; its = t.its; newest = t.newest; told = t.told } in
        quiet none (subst (CameBehind new calls Its c') (sym answer) (subst (λ (y : ClientCursor). IsToldLast calls Its y × (y.doing ≡ client.rests)) (sym is) (here, refl)))
    polled_last last (polling.is_over at over none unstarted is answer) =
        quiet none (subst (CameBehind new calls Its c') (sym answer) (subst (λ (y : ClientCursor). IsToldLast calls Its y × (y.doing ≡ client.rests)) (sym is) (at_rest_told c.doing at last, at)))
    polled_last last (polling.not_built at may e by none unstarted is answer) = quiet none (subst (CameBehind new calls Its c') (sym answer) tt)
    polled_last last (polling.begins at may sending new_one h) =
        more_last sending new_one.single (asks_so sending.command new_one.command_is) may (subst (MoreLast old calls Its c) (sym new_one.new) (at_rest_told c.doing at last)) h
    polled_last last (polling.goes_on sending at h) =
        let own : IsAsking true c sending = subst (client.SoundBy true c) at plain.sound in
        more_last sending own.waits_on.single (asks_so sending.command (own.waits_on.command_is ∙ ap (λ s. get_more c s) own.plainly)) own.may (subst (CursorLast old calls Its c) at last) h

  -- ---- batches

  -- how the reads of a poll stand that have come so far
  pub record StandsSo (awaited : Awaited) (log : LogTold) (d : ClientDownload) : Type 0 where
    pub calls : List Call
    pub told : log ≡ Some calls
    pub room : L ≤ length calls
    pub mores : MoresIn calls
    pub last : DownloadLast awaited calls (Own P L (length calls)) d

  -- one has this cursor, or none
  with_cursor : (new : Awaited) (log' : LogTold) (d : ClientDownload) (c : ClientCursor) (calls : List Call) → log' ≡ Some calls → L ≤ length calls → MoresIn calls → cursor_in d.doing ≡ Some c → CursorLast new calls (Own P L (length calls)) c c.doing → StandsSo new log' d
  with_cursor new log' d c calls told room mores at l = record {
    calls = calls;
    told = told;
    room = room;
    mores = mores;
    last = λ x is. subst (λ (y : ClientCursor). CursorLast new calls (Own P L (length calls)) y y.doing) (same_some c x (sym at ∙ is)) l;
  }

  with_none : (new : Awaited) (log' : LogTold) (d : ClientDownload) (calls : List Call) → log' ≡ Some calls → L ≤ length calls → MoresIn calls → cursor_in d.doing ≡ None → StandsSo new log' d
  with_none new log' d calls told room mores none = record { calls = calls; told = told; room = room; mores = mores; last = λ x is. absurd (let bad : None ≡ Some x = sym none ∙ is in cc) }

  resting : (new : Awaited) (calls : List Call) (own : ℕ → Type 0) (c : ClientCursor) → IsToldLast calls own c × (c.doing ≡ client.rests) → CursorLast new calls own c c.doing
  resting new calls own c t = subst (CursorLast new calls own c) (sym t.1) t.0

  -- nothing was sent, and the tickets are the same
  still_last : (old new : Awaited) (log log' : LogTold) (calls : List Call) (own : ℕ → Type 0) (c : ClientCursor) → SendsNothing old new log log' → CursorLast old calls own c c.doing → CursorLast new calls own c c.doing
  still_last old new log log' calls own c none l = cursor_kept calls calls (same_keeps calls) own own (λ place of. of) (λ place of. of) old new c c.doing (λ m e. none.rest m) l

  module _ (old new : Awaited) (log log' : LogTold) (wire : ℤ) (d d' : ClientDownload) (plain : IsPlainFetch d.doing) (s : StandsSo old log d) where
    abbrev here : ℕ → Type 0
    here place = Own P L (length s.calls) place

    polled : (c behind : ClientCursor) (missing empty : ℕ) → d.doing ≡ downloads.reads c missing empty → (started : Bool) (r : NextPoll) → PollsNext old new log log' wire None started c behind r → PolledLast new log' behind r
    polled c behind missing empty at started r polls = polled_last old new log log' wire started c behind r (cursor_at d c missing empty at plain) s.calls s.told s.room s.mores (s.last c (ap cursor_in at)) polls

    ends_last : (f : Fetched) → EndsFetch old new log log' wire d d' f → StandsSo new log' d'
    ends_last f (fetching.none_missing c empty at none is answer) =
        with_cursor new log' d' c s.calls (none.log_same ∙ s.told) s.room s.mores (ap (λ (x : ClientDownload). cursor_in x.doing) is) (still_last old new log log' s.calls here c none (s.last c (ap cursor_in at)))
    ends_last f (fetching.over c missing empty at short started behind polls is answer) =
        let p = polled c behind missing empty at started next.End polls in
        with_cursor new log' d' behind p.calls' p.told p.room p.mores (ap (λ (x : ClientDownload). cursor_in x.doing) is) (resting new p.calls' (Own P L (length p.calls')) behind p.behind)
    ends_last f (fetching.pends c missing empty at short started behind polls is answer) =
        let p = polled c behind missing empty at started next.Pending polls in
        with_cursor new log' d' behind p.calls' p.told p.room p.mores (ap (λ (x : ClientDownload). cursor_in x.doing) is) p.behind
    ends_last f (fetching.no_more c missing empty at short started behind e polls is answer) =
        let p = polled c behind missing empty at started (next.Failed e) polls in
        with_none new log' d' p.calls' p.told p.room p.mores (ap (λ (x : ClientDownload). cursor_in x.doing) is)
    ends_last f (fetching.not_taken c missing empty at short started behind reply e polls why is answer) =
        let p = polled c behind missing empty at started (next.Batch reply) polls in
        with_none new log' d' p.calls' p.told p.room p.mores (ap (λ (x : ClientDownload). cursor_in x.doing) is)

    takes_last : TakesOne old new log log' wire d d' → StandsSo new log' d'
    takes_last one =
        let p = polled one.cursor one.behind one.missing one.empty one.at one.started (next.Batch one.reply) one.polls in
        let t = one.takes in
        with_cursor new log' d' one.behind p.calls' p.told p.room p.mores (ap (λ (x : ClientDownload). cursor_in x.doing) t.taken ∙ chunks_cursor t.chunks one.behind one.missing one.empty d) (resting new p.calls' (Own P L (length p.calls')) one.behind p.behind)

  fetches_last : (n : ℕ) (old new : Awaited) (log log' : LogTold) (wire : ℤ) (d d' : ClientDownload) (f : Fetched) → IsPlainFetch d.doing → StandsSo old log d → Fetches n old new log log' wire d d' f → StandsSo new log' d'
  unfolding Fetches
  fetches_last zero old new log log' wire d d' f plain s h = ends_last old new log log' wire d d' plain s f h
  fetches_last (suc n) old new log log' wire d d' f plain s h =
      let one = one_taken old h.0 log h.1 wire d h.2 plain h.3 in
      fetches_last n h.0 new h.1 log' wire h.2 d' f one.plain (takes_last old h.0 log h.1 wire d h.2 plain s h.3) h.4

  -- ---- a read

  same_last : (new : Awaited) (log' : LogTold) (d d' : ClientDownload) → d' ≡ d → StandsSo new log' d → StandsSo new log' d'
  same_last new log' d d' is s = subst (StandsSo new log') (sym is) s

  hands_last : (new : Awaited) (log' : LogTold) (room : ℕ) (c : ClientCursor) (d d' : ClientDownload) (given : List ℕ) (r : ReadPoll) → d.doing ≡ downloads.idle c → StandsSo new log' d → HandsOut room c d d' given r → StandsSo new log' d'
  hands_last new log' room c d d' given r at s (fetching.goes_on more these is answer) = with_cursor new log' d' c s.calls s.told s.room s.mores (ap (λ (x : ClientDownload). cursor_in x.doing) is) (s.last c (ap cursor_in at))
  hands_last new log' room c d d' given r at s (fetching.ends all over counts these is answer) = with_none new log' d' s.calls s.told s.room s.mores (ap (λ (x : ClientDownload). cursor_in x.doing) is)
  hands_last new log' room c d d' given r at s (fetching.miscounts all over counts these is answer) = with_none new log' d' s.calls s.told s.room s.mores (ap (λ (x : ClientDownload). cursor_in x.doing) is)

  concludes_last : (new : Awaited) (log' : LogTold) (room : ℕ) (f : Fetched) (d d' : ClientDownload) (given : List ℕ) (r : ReadPoll) → StandsSo new log' d → Concludes room f d d' given r → StandsSo new log' d'
  concludes_last new log' room fetching.waits d d' given r s h = same_last new log' d d' h.0 s
  concludes_last new log' room fetching.enough d d' given r s h = hands_last new log' room h.0 d d' given r h.1 s h.2
  concludes_last new log' room (fetching.fails e) d d' given r s h = same_last new log' d d' h.0 s

  fills_last : (old new : Awaited) (log log' : LogTold) (wire : ℤ) (room : ℕ) (d d' : ClientDownload) (given : List ℕ) (r : ReadPoll) → IsPlainFetch d.doing → StandsSo old log d → Fills old new log log' wire room d d' given r → StandsSo new log' d'
  fills_last old new log log' wire room d d' given r plain s h = concludes_last new log' room h.fetched h.left d' given r (fetches_last h.batches old new log log' wire d h.left h.fetched plain s h.fetches) h.concludes

  -- nothing was sent
  quiet_so : (old new : Awaited) (log log' : LogTold) (d : ClientDownload) → SendsNothing old new log log' → StandsSo old log d → StandsSo new log' d
  quiet_so old new log log' d none s = record {
    calls = s.calls;
    told = none.log_same ∙ s.told;
    room = s.room;
    mores = s.mores;
    last = λ c is. still_last old new log log' s.calls (Own P L (length s.calls)) c none (s.last c is);
  }

  reads_so : (old new : Awaited) (log log' : LogTold) (wire : ℤ) (room : ℕ) (d d' : ClientDownload) (given : List ℕ) (r : ReadPoll) → IsPlainFetch d.doing → StandsSo old log d → Reads old new log log' wire room d d' given r → StandsSo new log' d'
  reads_so old new log log' wire room d d' given r plain s (fetching.no_room none h) = same_last new log' d d' h.same (quiet_so old new log log' d h.quiet s)
  reads_so old new log log' wire room d d' given r plain s (fetching.is_over full over h) = same_last new log' d d' h.same (quiet_so old new log log' d h.quiet s)
  reads_so old new log log' wire room d d' given r plain s (fetching.in_hand full c at ahead none h) = hands_last new log' room c d d' given r at (quiet_so old new log log' d none s) h
  reads_so old new log log' wire room d d' given r plain s (fetching.begins full c at ahead h) =
      let m : ClientDownload = record d { doing = downloads.reads c room 0 } in
      let one : IsPlainCursor c = plain c (ap cursor_in at) in
      fills_last old new log log' wire room m d' given r (λ x is. let same : c ≡ x = cc in subst IsPlainCursor same one)
      (with_cursor old log m c s.calls s.told s.room s.mores refl (s.last c (ap cursor_in at))) h
  reads_so old new log log' wire room d d' given r plain s (fetching.goes_on full c missing empty at h) = fills_last old new log log' wire room d d' given r plain s h

-- Behind a poll of a read: each command that it sent asks for more so, and its cursor is the one that the newest reply told, or its getMore is the newest command.
pub record MoresBehind (new : Awaited) (calls' : List Call) (places : List ℕ) (since : ℕ) (d' : ClientDownload) : Type 0 where
  pub mores : (place : ℕ) → since ≤ place → place < length calls' → AsksOnBy calls' (λ (n : ℕ). IsOf places n) place
  pub last : DownloadLast new calls' (λ (n : ℕ). IsOf places n) d'

module _ (old new : Awaited) (log log' : LogTold) (wire : ℤ) (room : ℕ) (d d' : ClientDownload) (given : List ℕ) (r : ReadPoll) (sound : IsSoundDownload d) (asks : AsksPlainly d) (reads : Reads old new log log' wire room d d' given r) where
  pub read_last : (calls calls' : List Call) → log ≡ Some calls → log' ≡ Some calls' → length calls ≤ length calls' → (places : List ℕ) → ((place : ℕ) → IsOf places place → place < length calls) → DownloadLast old calls (λ (n : ℕ). IsOf places n) d
      → MoresBehind new calls' (sent_since places (length calls) (length calls')) (length calls) d'
  read_last calls calls' told told' longer places below last =
      let since : ℕ = length calls in
      let own : ℕ → Type 0 = Own places since since in
      let before : StandsSo places since below old log d = record {
        calls = calls;
        told = told;
        room = omega arith;
        mores = λ place low high. absurd (omega (arith, low, high));
        last = download_kept calls calls (same_keeps calls) (λ (n : ℕ). IsOf places n) own (λ place of. inl of) (none_beyond since) old old d (λ m e. refl) last;
      } in
      let s = reads_so places since below old new log log' wire room d d' given r (plain_by d d.doing sound.by asks) before reads in
      behind_so s (same_some s.calls calls' (sym s.told ∙ told'))
    where
      none_beyond : (since other : ℕ) → Own places since since other → IsOf places other
      none_beyond since other (inl of) = of
      none_beyond since other (inr range) = let low = range.0 in let high = range.1 in absurd (omega (arith, low, high))

      forth : (n : ℕ) → (place : ℕ) → Own places (length calls) n place → IsOf (sent_since places (length calls) n) place
      forth n place (inl of) = in_first places _ place of
      forth n place (inr range) = is_since places (length calls) n place range.0 range.1

      back : (n : ℕ) → length calls ≤ n → (place : ℕ) → IsOf (sent_since places (length calls) n) place → Own places (length calls) n place
      back n room place of = since_is places (length calls) n place room of

      behind_so : (s : StandsSo places (length calls) below new log' d') → s.calls ≡ calls' → MoresBehind new calls' (sent_since places (length calls) (length calls')) (length calls) d'
      behind_so s same = subst (λ (l : List Call). MoresBehind new l (sent_since places (length calls) (length l)) (length calls) d') same
          (record {
            mores = λ place low high. asks_kept s.calls s.calls (same_keeps s.calls) (Own places (length calls) (length s.calls)) (λ (n : ℕ). IsOf (sent_since places (length calls) (length s.calls)) n) (forth (length s.calls)) place
                (λ other of less. back (length s.calls) s.room other of) (s.mores place low high);
            last = download_kept s.calls s.calls (same_keeps s.calls) (Own places (length calls) (length s.calls)) (λ (n : ℕ). IsOf (sent_since places (length calls) (length s.calls)) n) (forth (length s.calls)) (back (length s.calls) s.room) new new d' (λ m e. refl) s.last;
          })
