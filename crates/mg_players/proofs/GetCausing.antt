-- What became of a get, by what it tells.
use Rattle.std.proofs.Common.{◌≡◌, ◌≤◌, ◌+◌, ◌-◌, ◌*◌, ◌++◌, ◌∷◌, [], ℕ, zero, suc, ℤ, false, true, List, length, Option, Some, None, refl, sym, ap, ◌∙◌, subst, inl, inr, arith}
use Rattle.std.specs.List.{concat}
use Rattle.std.specs.Prelude.{IsSome, slice_get}
use Rattle.mg_server.specs.Calls.{HeardBy, IsAwaited, Past}
use Rattle.mg_link.specs.Exec as exec
use Rattle.mg_link.specs.Exec.{Stage}
use Rattle.mg_link.specs.Link.{Awaited}
use Rattle.mg_link.specs.Log.{Call, reply}
use Rattle.mg_server.specs.Owner.{IsOf}
use Rattle.mg_link.specs.declared.error.Error.{Error}
use Rattle.mg_server.proofs.Calls.{awaited_by, none_held}
use Rattle.mg_options.specs.Fields.{Line, fields_in}
use Rattle.mg_bson.specs.Tree.{Fields, Tree}
use Rattle.mg_link.specs.Session.{Session}
use Rattle.mg_ops.specs.Cursors.{Manner, next_command}
use Rattle.mg_change.specs.Sent.{resuming_places}
use Rattle.mg_cursor.specs.Causes.{UnderwayBy}
use Rattle.mg_cursor.specs.Client as client
use Rattle.mg_cursor.specs.Client.{ClientCursor, get_more}
use Rattle.mg_records.specs.FileRecords.{FileRecord}
use Rattle.mg_gridfs.specs.Buckets.{ClientBucket}
use Rattle.mg_gridfs.specs.Commands.{found_lines, listed_lines}
use Rattle.mg_gridfs.specs.Downloaded.{IsPlainAt}
use Rattle.mg_gridfs.specs.Downloads as downloads
use Rattle.mg_gridfs.specs.Downloads.{ClientDownload}
use Rattle.mg_gridfs.specs.DownloadView.{download_of, finding_of}
use Rattle.mg_gridfs.specs.Findings as findings
use Rattle.mg_gridfs.specs.Findings.{ClientFinding, IsSoundFinding, Looking}
use Rattle.mg_gridfs.specs.ReadCauses.{HeardRecord, IsOpening, LookingUnderway, cursor_in}
use Rattle.mg_script.specs.declared.outcome.Ended.{Ended}
use Rattle.mg_script.specs.declared.outcome.Ended.TheVariants as ended
use Rattle.mg_players.specs.Asking.{AllAskOn}
use Rattle.mg_players.specs.Causes as causes
use Rattle.mg_players.specs.Causes.{AllSentIn, AreSentIn, Course, FallsAt, OpeningAsks, GetCaused, GetFails, GetOpened, GetSent, ReadGoesOn, GetStands, GetWaits, SentIfPends, places_of, sent_at}
use Rattle.mg_players.specs.Buckets.{plain_bucket}
use Rattle.mg_players.specs.Gets.{GetTask, IsFindAt, IsOpeningFor, get_end, more_chunks, no_manner, room_of}
use Rattle.mg_players.specs.Plays.{Places, all_places}
use Rattle.mg_players.specs.Reading.{GoesOn}
use Rattle.mg_players.specs.Progress.{FitsReads, GetEndedAt, GetStageAt, pends_last, turns_done}
use Rattle.mg_players.specs.Telling as tells
use Rattle.mg_players.specs.Telling.{AllSent, GetTells, TellsAsked, TellsGetEnd, TellsGetFails, TellsGetOpened, TellsNoCall, finding_places, found_in}
use Rattle.mg_players.specs.declared.get.GetStage.{GetStage}
use Rattle.mg_players.specs.declared.get.GetStage.TheVariants as gets
use Rattle.mg_turns.proofs.OwnTickets.{none_if}
use Rattle.mg_players.proofs.Commands.{falls_below, falls_none}
use Rattle.mg_players.proofs.GetFinds.{far_finds}
use Rattle.mg_players.proofs.GetSending.{found_same, listed_same}
use Rattle.mg_players.proofs.Whole.{only_now}
use Rattle.mg_players.proofs.Telling.{in_either}

-- ---- the record that was heard, by the words of a bucket that is a copy

pub heard_same : (past : Past) (g : GetTask) (b : ClientBucket) (id : Tree) (found : Option FileRecord) → IsPlainAt b g.at → HeardRecord past b id found → HeardRecord past (plain_bucket g.at) id found
heard_same past g b id found is h = record { bytes = h.bytes; heard = subst (λ (lines : List Line). HeardBy past (fields_in lines) (reply h.bytes)) (found_same g b id is) h.heard; success = h.success; reads_so = h.reads_so }

-- ---- all that it sent

-- an opening may ask once more
some_left : (stage : Stage) → 1 ≤ resuming_places stage
some_left exec.unsent = omega arith
some_left (exec.first ticket) = omega arith
some_left (exec.second ticket) = omega arith

pub places_left : (doing : Looking) → 1 ≤ finding_places doing
places_left findings.starts = omega arith
places_left (findings.finds sending) = omega arith
places_left (findings.lists file count sending) = some_left sending.stage

concat_of : (owns : List (List ℕ)) (place : ℕ) → IsOf (concat owns) place → (k : ℕ) × (own : List ℕ) × (slice_get owns k ≡ Some own) × IsOf own place
concat_of [] place of = absurd of
concat_of (own ∷ owns) place of = elim (in_either own (concat owns) place of) [
  | inl here ↦ (0, own, refl, here)
  | inr there ↦ let r = concat_of owns place there in (suc r.0, r.1, r.2, r.3)
]

-- each command that it tells of is its own
pub all_own : (c : Course) (i : ℕ) (q : Places) (n : ℕ) → AllSent c i q n → AreSentIn c i (all_places q)
all_own c i q n sent place of = elim (in_either q.opened (concat q.owns ++ q.now) place of) [
  | inl opened ↦ (0, sent.opened place opened)
  | inr rest ↦ elim (in_either (concat q.owns) q.now place rest) [
    | inl answered ↦ let r = concat_of q.owns place answered in (suc r.0, sent.owns r.0 r.1 r.2 place r.3)
    | inr now ↦ (n, sent.now place now)
  ]
]

-- ---- why it failed

above : (n : ℕ) → 1 ≤ n → (k : ℕ) × (n ≡ suc k)
above zero some = absurd (omega (arith, some))
above (suc n) some = (n, refl)

-- none are no bytes
none_in : (bytes : List ℕ) → length bytes ≡ 0 → bytes ≡ []
none_in [] none = refl
none_in (b ∷ bytes) none = absurd cc

module _ (c : Course) (i : ℕ) (calls : List Call) (wire : ℤ) (q : Places) (g : GetTask) (done : ℕ) (sent : AllSent c i q done) where
  abbrev get_opened : (f : FileRecord) (at : Option ℕ) → TellsGetOpened calls wire q g f at → GetOpened c i calls wire g f
  get_opened f at t = record { places = q.opened; sent = sent.opened; heard = t.heard; finds = t.finds; sends = t.sends }

  -- without a call its turns sent what goes on alone
  alone : TellsNoCall q → q.now ≡ places_of c i
  alone none = sym (only_now q none.0 none.1) ∙ sent.whole

  unopened_so : (bytes : List ℕ) (well : ℕ) (So : List ℕ → Type 0) (Goes : ClientDownload → List ℕ → Type 0) → well ≡ 0 → bytes ≡ [] → TellsNoCall q → done ≡ 0 → So q.now → (found : Option FileRecord) → OpeningAsks calls wire g found q.now → GetStands c i calls wire g bytes well So Goes
  unopened_so bytes well So Goes none_well empty none first so found asks =
      causes.unopened none_well empty (subst (AllSentIn c i 0) (alone none) (subst (λ (n : ℕ). AllSentIn c i n q.now) first sent.now)) (subst So (alone none) so) found (subst (OpeningAsks calls wire g found) (alone none) asks)

  -- behind so many calls that gave these bytes
  module _ (bytes : List ℕ) (few : done ≤ length bytes + 1) (fits : FitsReads (length bytes) done g.read) where
    -- its turns sent these
    abbrev all_sent : (k : ℕ) → done ≡ suc k → suc (length q.owns) ≡ done → AllAskOn calls (all_places q) (concat q.owns ++ q.now) → GetSent c i calls g (length bytes) q.opened k q.now
    all_sent k is counted more = record {
      owns = q.owns;
      counted = omega (arith, is, counted);
      sent_each = sent.owns;
      sent_now = subst (λ (m : ℕ). AllSentIn c i m q.now) is sent.now;
      whole = sent.whole;
      more = more;
      gave = (omega (arith, is, few), (let one : done - 1 ≡ k = omega (arith, is) in subst (λ (n : ℕ). length bytes ≤ n * room_of g.read) one fits));
    }

    -- all of it
    asked_so : TellsAsked calls wire q g bytes done → GetStands c i calls wire g bytes done (λ (now : List ℕ). Unit {0}) (λ (last : ClientDownload) (now : List ℕ). Unit {0})
    asked_so (tells.in_opening silent first none found asks) = unopened_so bytes done (λ (now : List ℕ). Unit {0}) (λ (last : ClientDownload) (now : List ℕ). Unit {0}) first none silent first tt found asks
    asked_so (tells.behind_it f at opened counted front last h) = causes.has_opened f (get_opened f at opened) (length q.owns) (sym counted) q.now tt (all_sent (length q.owns) (sym counted) counted opened.more) last h tt

    get_fails : (e : Error) → done + 1 ≤ turns_done i c.order c.notes → TellsGetFails calls wire q g bytes done e → GetFails c i calls wire g bytes e
    get_fails e turned (tells.out_of_memory room) = causes.out_of_memory room
    get_fails e turned (tells.has_no_room none is) = causes.has_no_room none is
    get_fails e turned (tells.not_opened some silent first fails) = causes.not_opened some q.now (subst (λ (n : ℕ). AllSentIn c i n q.now) first sent.now) fails (alone silent)
    get_fails e turned (tells.not_read some more d at opened cursor fails its sound plain counted last listed of held why h came) =
        let n = above done more in
        causes.not_read some d (get_opened d.file at opened) n.0 (let is = n.1 in omega (arith, turned, is)) q.now (subst (λ (m : ℕ). AllSentIn c i m q.now) n.1 sent.now) cursor fails its sound plain (all_sent n.0 n.1 counted opened.more) last
        (record { places = all_places q; sent = all_own c i q done sent; listed = listed; by_opening = sent.opened listed of; held = held; why = why }) h came

    get_end_caused : (awaited : Awaited) (end : Ended (Unit {0})) (at : Option ℕ) → GetEndedAt end done (turns_done i c.order c.notes) → TellsGetEnd awaited calls wire q g bytes done at end → GetCaused awaited c i calls wire g bytes end
    get_end_caused awaited ended.Unfinished at turned t = absurd turned
    get_end_caused awaited (ended.Gave x) at turned t =
        let counted = t.3 in
        let many = turned.1 in
        (t.0, t.1, get_opened t.1 at t.2, length q.owns, omega (arith, counted, many), q.now, all_sent (length q.owns) (sym t.3) t.3 t.2.more, t.5, t.6, t.7)
    get_end_caused awaited (ended.Failed e) at turned t = (get_fails e turned t.0, record { well = done; turned = omega (arith, turned); stands = asked_so t.1 })

-- ---- what it heard

module _ (past : Past) (g : GetTask) where
  looking_heard : (awaited : Awaited) (b : ClientBucket) (id : Tree) (doing : Looking) → id ≡ g.id → IsPlainAt b g.at → LookingUnderway awaited past b id doing → (f : FileRecord) → found_in doing ≡ Some f → HeardRecord past (plain_bucket g.at) g.id (Some f)
  looking_heard awaited b id findings.starts same is h f found = let bad : None ≡ Some f = found in absurd cc
  looking_heard awaited b id (findings.finds sending) same is h f found = let bad : None ≡ Some f = found in absurd cc
  looking_heard awaited b id (findings.lists file count sending) same is h f found =
      subst (HeardRecord past (plain_bucket g.at) g.id) found (subst (λ (x : Tree). HeardRecord past (plain_bucket g.at) x (Some file)) same (heard_same past g b id (Some file) is h.1))

  opening_heard : (awaited : Awaited) (o : ClientFinding) (bucket : Option ClientBucket) → o.bucket ≡ bucket → IsOpeningFor g o → IsSoundFinding o → IsOpening awaited past o → (f : FileRecord) → found_in o.doing ≡ Some f → HeardRecord past (plain_bucket g.at) g.id (Some f)
  opening_heard awaited o None is aim sound h f found = let bad : None ≡ Some f = sym (ap found_in (sound.none is)) ∙ found in absurd cc
  opening_heard awaited o (Some b) is aim sound h f found = looking_heard awaited b o.id o.doing aim.id_is (aim.placed b is) (h b is) f found

-- ---- what it waits for

module _ (awaited : Awaited) (c : Course) (i : ℕ) (calls : List Call) (wire : ℤ) (q : Places) (g : GetTask) (bytes : ℕ) where
  looking_waits : (b : ClientBucket) (id : Tree) (doing : Looking) → AllSentIn c i 0 q.now → q.now ≡ places_of c i → id ≡ g.id → IsPlainAt b g.at → IsSome (findings.ticket_by doing) → LookingUnderway awaited (sent_at q.now calls wire) b id doing → GetWaits awaited c i calls wire g bytes
  looking_waits b id findings.starts sent whole same is held h = none_held held
  looking_waits b id (findings.finds sending) sent whole same is held h =
      causes.for_record q.now sent
      (subst (λ (x : Tree). IsAwaited awaited (sent_at q.now calls wire) (fields_in (found_lines (plain_bucket g.at) x))) same
      (subst (λ (lines : List Line). IsAwaited awaited (sent_at q.now calls wire) (fields_in lines)) (found_same g b id is) (awaited_by awaited (sent_at q.now calls wire) (fields_in (found_lines b id)) sending.stage h held)))
      whole
  looking_waits b id (findings.lists file count sending) sent whole same is held h =
      causes.for_chunks q.now sent file
      (subst (λ (x : Tree). HeardRecord (sent_at q.now calls wire) (plain_bucket g.at) x (Some file)) same (heard_same (sent_at q.now calls wire) g b id (Some file) is h.1))
      (subst (λ (lines : List Line). IsAwaited awaited (sent_at q.now calls wire) (fields_in lines)) (listed_same g b file.id is) (awaited_by awaited (sent_at q.now calls wire) (fields_in (listed_lines b file.id)) sending.stage h.0 held))
      whole

-- more chunks, in the manner and without the session of a plain cursor
module _ (awaited : Awaited) (past : Past) where
  cursor_waits : (c : ClientCursor) (doing : client.Doing) → client.SoundBy true c doing → UnderwayBy awaited past c doing → IsSome (client.ticket_by doing) → c.manner ≡ no_manner → IsAwaited awaited past (more_chunks c.id c.space)
  cursor_waits c client.rests sound h held manner = none_held held
  cursor_waits c (client.holds bytes) sound h held manner = none_held held
  cursor_waits c (client.asks sending) sound h held manner =
      let plain : get_more c h.session ≡ get_more c None = sym h.command_is ∙ sound.waits_on.command_is ∙ ap (λ (s : Option Session). get_more c s) sound.plainly in
      let command : get_more c h.session ≡ more_chunks c.id c.space = plain ∙ ap (λ (m : Manner). next_command c.id c.space m) manner in
      subst (λ (d : Fields). IsAwaited awaited past d) command (awaited_by awaited past (get_more c h.session) sending.stage h.flies held)

  doing_waits : (d : ClientDownload) (doing : downloads.Doing) → downloads.SoundBy d doing → ((c : ClientCursor) → cursor_in doing ≡ Some c → UnderwayBy awaited past c c.doing) → ((c : ClientCursor) → cursor_in doing ≡ Some c → c.manner ≡ no_manner) → IsSome (downloads.ticket_by doing) → (c : ClientCursor) × IsAwaited awaited past (more_chunks c.id c.space)
  doing_waits d (downloads.idle cursor) sound h manner held = (cursor, cursor_waits cursor cursor.doing sound.1 (h cursor refl) held (manner cursor refl))
  doing_waits d (downloads.reads cursor missing empty) sound h manner held = (cursor, cursor_waits cursor cursor.doing sound.1.sound (h cursor refl) held (manner cursor refl))
  doing_waits d downloads.ended sound h manner held = none_held held
  doing_waits d downloads.spoiled sound h manner held = none_held held

-- ---- at any stage

none_waits : (doing : Looking) → doing ≡ findings.starts → IsSome (findings.ticket_by doing) → ⊥
none_waits doing is held = none_held (subst (λ (x : Looking). IsSome (findings.ticket_by x)) is held)

module _ (awaited : Awaited) (c : Course) (i : ℕ) (calls : List Call) (wire : ℤ) (q : Places) (g : GetTask) (bytes : List ℕ) where
  opening_waits : (o : ClientFinding) (bucket : Option ClientBucket) → o.bucket ≡ bucket → AllSentIn c i 0 q.now → q.now ≡ places_of c i → IsOpeningFor g o → IsSoundFinding o → IsOpening awaited (sent_at q.now calls wire) o → IsSome (findings.finding_ticket o) → GetWaits awaited c i calls wire g (length bytes)
  opening_waits o None is sent whole aim sound h held = absurd (none_waits o.doing (sound.none is) held)
  opening_waits o (Some b) is sent whole aim sound h held = looking_waits awaited c i calls wire q g (length bytes) b o.id o.doing sent whole aim.id_is (aim.placed b is) held (h b is)

  pub get_caused : (s : GetStage) (done : ℕ) (at : Option ℕ) → AllSent c i q done → GetTells awaited calls wire q g s bytes done at → GetStageAt s (length bytes) done (turns_done i c.order c.notes) (pends_last i c.order c.notes) g.read → GetCaused awaited c i calls wire g bytes (get_end s)
  get_caused gets.Unsent done at sent t is_at = (λ pended. let bad : false ≡ true = sym is_at.3 ∙ pended in absurd cc, unopened_so c i calls wire q g done sent bytes (turns_done i c.order c.notes) (SentIfPends c i) (ReadGoesOn awaited c i calls wire g) is_at.0 (none_in bytes is_at.2) t.0 is_at.1 (λ rests. t.1) None (record { finds = subst (λ (l : List ℕ). FallsAt (IsFindAt g None) calls 5 l 1) (sym t.1) (falls_none (IsFindAt g None) calls 5 1 (omega arith)); heard = λ f is. let bad : None ≡ Some f = is in absurd cc; sends = far_finds awaited calls g q.now findings.starts t.1 }))
  get_caused (gets.Opens opening) done at sent t is_at = (
    λ pended. opening_waits (finding_of opening) (finding_of opening).bucket refl (subst (λ (n : ℕ). AllSentIn c i n q.now) is_at.1 sent.now) (alone c i calls wire q g done sent t.0) t.1 t.2 t.3 (is_at.3 ∙ pended),
    unopened_so c i calls wire q g done sent bytes (turns_done i c.order c.notes) (SentIfPends c i) (ReadGoesOn awaited c i calls wire g) is_at.0 (none_in bytes is_at.2) t.0 is_at.1 (λ rests. t.6 (none_if (findings.finding_ticket (finding_of opening)) (pends_last i c.order c.notes) (sym is_at.3) rests)) (found_in (finding_of opening).doing) (record {
      finds = falls_below (IsFindAt g (found_in (finding_of opening).doing)) calls 5 q.now (finding_places (finding_of opening).doing) 1 (places_left (finding_of opening).doing) t.4;
      heard = opening_heard (sent_at q.now calls wire) g awaited (finding_of opening) (finding_of opening).bucket refl t.1 t.2 t.3;
      sends = far_finds awaited calls g q.now (finding_of opening).doing t.7;
    }),
  )
  get_caused (gets.Reads download room) done at sent t is_at =
      let n = above done is_at.1 in
      let d : ClientDownload = download_of download in
      let these : GetSent c i calls g (length bytes) q.opened n.0 q.now = all_sent c i calls wire q g done sent bytes is_at.2 is_at.4 n.0 n.1 t.1 t.0.more in (
        λ pended.
            let w = doing_waits awaited (sent_at q.now calls wire) d d.doing t.3.between.sound.by t.2 t.4 (is_at.3 ∙ pended) in
            causes.for_more n.0 q.now (subst (λ (m : ℕ). AllSentIn c i m q.now) n.1 sent.now) w.0.id w.0.space w.1 d.file (get_opened c i calls wire q g done sent d.file at t.0) these,
        causes.has_opened d.file (get_opened c i calls wire q g done sent d.file at t.0) n.0 (is_at.0 ∙ n.1) q.now (λ rests. t.9 (none_if (downloads.download_ticket d) (pends_last i c.order c.notes) (sym is_at.3) rests)) these t.7.last t.7.so_far (d, subst (λ (l : List ℕ). GoesOn awaited (sent_at l calls wire) (sent_at q.now calls wire) g (room_of g.read) t.7.last d d.doing) sent.whole t.7.goes),
      )
  get_caused (gets.Ended end) done at sent t is_at = get_end_caused c i calls wire q g done sent bytes is_at.1 is_at.3 awaited end at is_at.0 t
