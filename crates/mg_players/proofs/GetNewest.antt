-- Which command of a get is its newest: behind a poll of a request, and in its opening.
use Rattle.std.proofs.Common.{◌≡◌, ◌⊎◌, ◌<◌, ◌≤◌, ◌++◌, ℕ, suc, ℤ, Bool, true, false, List, [], ◌∷◌, length, length-append, Some, None, refl, sym, ap, ◌∙◌, subst, inl, inr, arith}
use Rattle.std.specs.Prelude.{slice_get}
use Rattle.mg_bson.specs.Raw.{fields}
use Rattle.mg_bson.specs.Tree.{Tree}
use Rattle.mg_server.specs.Calls.{Keeps}
use Rattle.mg_link.specs.Errors as errors
use Rattle.mg_link.specs.Exec.{Attempt, AttemptGives, Begins, GoesOn, IsSuccess, Once, Runs, Sending, Stage, Tries, Twice, answered, first, holding, is_repeated, not_sent, second, ticket_at, unsent, waits}
use Rattle.mg_link.specs.Link.{Awaited, LogTold, SendsNothing}
use Rattle.mg_link.specs.Log.{Call, Sight, reply, see, waiting}
use Rattle.mg_link.specs.Namespace.{space}
use Rattle.mg_server.specs.Owner.{IsOf}
use Rattle.mg_link.specs.declared.action.Step.{Step}
use Rattle.mg_link.specs.declared.action.Step.TheVariants as came
use Rattle.mg_link.specs.declared.error.ErrorKind.TheVariants as kind
use Rattle.mg_server.proofs.Calls.{keeps_longer, keeps_on, same_keeps, see_keeps}
use Rattle.mg_link.proofs.Outs.{length-see}
use Rattle.mg_server.proofs.Owners.{same_some, see_here}
use Rattle.mg_server.proofs.Pasts.{not_waiting}
use Rattle.mg_link.proofs.Places.{get_front, get_seam}
use Rattle.mg_ops.specs.Cursors.{OpensWith}
use Rattle.mg_ops.specs.declared.cursor_reply.CursorSpecification.{CursorSpecification}
use Rattle.mg_cursor.specs.Client as client
use Rattle.mg_cursor.specs.Client.{ClientCursor, new_client}
use Rattle.mg_records.specs.FileRecords.{FileRecord}
use Rattle.mg_chunks.specs.Broken.{broken}
use Rattle.mg_gridfs.specs.Buckets.{ClientBucket}
use Rattle.mg_gridfs.specs.Downloads as downloads
use Rattle.mg_gridfs.specs.Downloads.{ClientDownload, empty_download, new_download}
use Rattle.mg_gridfs.specs.Findings as findings
use Rattle.mg_gridfs.specs.Findings.{BeginsFind, ClientFinding, FindsOn, HearsList, HearsRecord, ListsOn, Looking, Opened, Opens, OpensFile}
use Rattle.mg_gridfs.specs.ReadCauses.{cursor_in}
use Rattle.mg_players.specs.Asking.{AsksOnBy, CursorLast, DownloadLast, FindingLast, FliesLast, IsToldLast, MoreLast, TellsAt, WaitsLast}
use Rattle.mg_players.specs.Causes.{sent_since}
use Rattle.mg_players.proofs.Telling.{in_first, is_since, since_is}

-- ---- a later time

pub tells_kept : (calls calls' : List Call) → Keeps calls calls' → (place : ℕ) (c : ClientCursor) → TellsAt calls place c.id c.space → TellsAt calls' place c.id c.space
tells_kept calls calls' keeps place c t =
    let k = keeps place t.call t.there in
    let same : k.0 ≡ t.call = k.3 (λ e. not_waiting t.bytes (sym t.has_seen ∙ e)) in
    record { call = k.0; there = k.1; bytes = t.bytes; has_seen = ap (λ (x : Call). x.seen) same ∙ t.has_seen; success = t.success; cursor = t.cursor; says = t.says; id_is = t.id_is; space_is = t.space_is }

-- where the log grew, and the commands that are its own are as many or more
module _ (calls calls' : List Call) (keeps : Keeps calls calls') (own own' : ℕ → Type 0) (still : (place : ℕ) → own place → own' place) where
  -- no other is added before a place
  pub asks_kept : (place : ℕ) → ((other : ℕ) → own' other → other < place → own other) → AsksOnBy calls own place → AsksOnBy calls' own' place
  asks_kept place none a =
      let k = keeps place a.call a.there in
      let t = keeps a.before a.told.call a.told.there in
      let same : t.0 ≡ a.told.call = t.3 (λ e. not_waiting a.told.bytes (sym a.told.has_seen ∙ e)) in
      record {
        call = k.0;
        there = k.1;
        id = a.id;
        space = a.space;
        asks_so = ap fields k.2 ∙ a.asks_so;
        held = a.held;
        before = a.before;
        its = still a.before a.its;
        less = a.less;
        newest = λ other of less. a.newest other (none other of less) less;
        told = record { call = t.0; there = t.1; bytes = a.told.bytes; has_seen = ap (λ (x : Call). x.seen) same ∙ a.told.has_seen; success = a.told.success; cursor = a.told.cursor; says = a.told.says; id_is = a.told.id_is; space_is = a.told.space_is };
      }

  -- no other is added at all
  module _ (none : (other : ℕ) → own' other → own other) where
    pub told_kept : (c : ClientCursor) → IsToldLast calls own c → IsToldLast calls' own' c
    told_kept c t = record { before = t.before; its = still t.before t.its; newest = λ other of. t.newest other (none other of); told = tells_kept calls calls' keeps t.before c t.told }

    module _ (old new : Awaited) where
      waits_kept : (ticket : ℕ) → new ticket ≡ old ticket → WaitsLast old own ticket → WaitsLast new own' ticket
      waits_kept ticket same w = record { place = w.place; at = same ∙ w.at; its = still w.place w.its; newest = λ other of. w.newest other (none other of) }

      pub flies_kept : (stage : Stage) → ((m : ℕ) → ticket_at stage ≡ Some m → new m ≡ old m) → FliesLast old own stage → FliesLast new own' stage
      flies_kept unsent same f = tt
      flies_kept (first ticket) same f = waits_kept ticket (same ticket refl) f
      flies_kept (second ticket) same f = waits_kept ticket (same ticket refl) f

      more_kept : (c : ClientCursor) (stage : Stage) → ((m : ℕ) → ticket_at stage ≡ Some m → new m ≡ old m) → MoreLast old calls own c stage → MoreLast new calls' own' c stage
      more_kept c unsent same f = told_kept c f
      more_kept c (first ticket) same f = waits_kept ticket (same ticket refl) f
      more_kept c (second ticket) same f = waits_kept ticket (same ticket refl) f

      pub cursor_kept : (c : ClientCursor) (doing : client.Doing) → ((m : ℕ) → client.ticket_by doing ≡ Some m → new m ≡ old m) → CursorLast old calls own c doing → CursorLast new calls' own' c doing
      cursor_kept c client.rests same l = told_kept c l
      cursor_kept c (client.holds bytes) same l = told_kept c l
      cursor_kept c (client.asks sending) same l = more_kept c sending.stage same l

      doing_kept : (doing : downloads.Doing) → ((m : ℕ) → downloads.ticket_by doing ≡ Some m → new m ≡ old m) → ((c : ClientCursor) → cursor_in doing ≡ Some c → CursorLast old calls own c c.doing) → (c : ClientCursor) → cursor_in doing ≡ Some c → CursorLast new calls' own' c c.doing
      doing_kept (downloads.idle cursor) same l c is = let one : cursor ≡ c = cc in subst (λ (x : ClientCursor). CursorLast new calls' own' x x.doing) one (cursor_kept cursor cursor.doing same (l cursor refl))
      doing_kept (downloads.reads cursor missing empty) same l c is = let one : cursor ≡ c = cc in subst (λ (x : ClientCursor). CursorLast new calls' own' x x.doing) one (cursor_kept cursor cursor.doing same (l cursor refl))
      doing_kept downloads.ended same l c is = absurd cc
      doing_kept downloads.spoiled same l c is = absurd cc

      pub download_kept : (d : ClientDownload) → ((m : ℕ) → downloads.download_ticket d ≡ Some m → new m ≡ old m) → DownloadLast old calls own d → DownloadLast new calls' own' d
      download_kept d same l = doing_kept d.doing same l

      pub finding_kept : (doing : Looking) → ((m : ℕ) → findings.ticket_by doing ≡ Some m → new m ≡ old m) → FindingLast old own doing → FindingLast new own' doing
      finding_kept findings.starts same f = tt
      finding_kept (findings.finds sending) same f = flies_kept sending.stage same f
      finding_kept (findings.lists file count sending) same f = flies_kept sending.stage same f

-- ---- one attempt

-- what the newest of its commands has seen
pub record SeenLast (calls : List Call) (own : ℕ → Type 0) (seen : Sight) : Type 0 where
  pub place : ℕ
  pub its : own place
  pub newest : (other : ℕ) → own other → other ≤ place
  pub call : Call
  pub there : slice_get calls place ≡ Some call
  pub has_seen : call.seen ≡ seen

abbrev StoodBy : Awaited → List Call → (ℕ → Type 0) → Attempt → Type 0
StoodBy awaited calls own not_sent = Unit {0}
StoodBy awaited calls own (waits ticket) = WaitsLast awaited own ticket
StoodBy awaited calls own (answered seen) = SeenLast calls own seen

-- the command was sent, once
pub record SentOnce (command : List ℕ) (stage : Stage) (calls calls' : List Call) : Type 0 where
  pub new_one : stage ≡ unsent
  pub long : length calls' ≡ suc (length calls)
  pub call : Call
  pub there : slice_get calls' (length calls) ≡ Some call
  pub command_is : call.command ≡ command

-- nothing was sent, or the command once
abbrev pub GrewBy : List ℕ → Stage → List Call → List Call → Type 0
GrewBy command stage calls calls' = (length calls' ≡ length calls) ⊎ SentOnce command stage calls calls'

one_longer : (calls : List Call) (call : Call) → length (calls ++ call ∷ []) ≡ suc (length calls)
one_longer calls call = let more = length-append calls (call ∷ []) in omega (arith, more)

-- ---- what came

-- it waits for the reply to its newest command
abbrev pub SentLast : Awaited → (ℕ → Type 0) → Stage → Type 0
SentLast awaited own unsent = ⊥
SentLast awaited own (first ticket) = WaitsLast awaited own ticket
SentLast awaited own (second ticket) = WaitsLast awaited own ticket

abbrev pub CameLast : Awaited → List Call → (ℕ → Type 0) → Step Sending (List ℕ) → Type 0
CameLast awaited calls own (came.Pending sending) = SentLast awaited own sending.stage
CameLast awaited calls own (came.Done bytes) = SeenLast calls own (reply bytes) × IsSuccess bytes
CameLast awaited calls own (came.Failed e) = Unit {0}

-- behind a poll of an opening
abbrev pub OpenedLast : Awaited → List Call → (ℕ → Type 0) → Opened → Type 0
OpenedLast awaited calls own (findings.waits doing) = FindingLast awaited own doing
OpenedLast awaited calls own (findings.opens d) = DownloadLast awaited calls own d
OpenedLast awaited calls own (findings.fails e) = Unit {0}

-- The commands of a get stand at these places, and at all from one on.
module _ (P : List ℕ) (L : ℕ) where
  abbrev pub Own : ℕ → ℕ → Type 0
  Own n place = IsOf P place ⊎ ((L ≤ place) × (place < n))

  pub own_on : (n n' : ℕ) → n ≤ n' → (place : ℕ) → Own n place → Own n' place
  own_on n n' more place (inl of) = inl of
  own_on n n' more place (inr range) = let high = range.1 in inr (range.0, omega (arith, high, more))

  pub own_back : (n n' upto : ℕ) → upto ≤ n → (place : ℕ) → Own n' place → place < upto → Own n place
  own_back n n' upto within place (inl of) less = inl of
  own_back n n' upto within place (inr range) less = inr (range.0, omega (arith, less, within))

module _ (P : List ℕ) (L : ℕ) (below : (place : ℕ) → IsOf P place → place < L) where
  -- where the log ends with it, it is the newest
  at_end : (n m : ℕ) → L ≤ n → m ≡ suc n → (other : ℕ) → Own P L m other → other ≤ n
  at_end n m room long other (inl of) = let low = below other of in omega (arith, low, room)
  at_end n m room long other (inr range) = let high = range.1 in omega (arith, high, long)

  record TriedLast (new : Awaited) (calls : List Call) (log' : LogTold) (command : List ℕ) (stage : Stage) (attempt : Attempt) : Type 0 where
    calls' : List Call
    told : log' ≡ Some calls'
    keeps : Keeps calls calls'
    stood : StoodBy new calls' (Own P L (length calls')) attempt
    grew : GrewBy command stage calls calls'

  module _ (old new : Awaited) (log log' : LogTold) (calls : List Call) (told : log ≡ Some calls) (room : L ≤ length calls) (command : List ℕ) where
    begun_last : (attempt : Attempt) → Begins old new log log' command attempt → TriedLast new calls log' command unsent attempt
    begun_last not_sent b = record { calls' = calls; told = b.log_same ∙ told; keeps = same_keeps calls; stood = tt; grew = inl refl }
    begun_last (waits ticket) b =
        let add = b.adds calls told in
        let call : Call = record { command = command; position = add.0; seen = waiting } in
        let long = one_longer calls call in
        record {
          calls' = calls ++ call ∷ [];
          told = add.1;
          keeps = λ place c there. (c, get_front calls (call ∷ []) place c there, refl, λ saw. refl);
          stood = record { place = length calls; at = b.place calls told; its = inr (room, omega (arith, long)); newest = at_end (length calls) (length (calls ++ call ∷ [])) room long };
          grew = inr (record { new_one = refl; long = long; call = call; there = get_seam calls [] call; command_is = refl });
        }
    begun_last (answered seen) b =
        let add = b.adds calls told in
        let call : Call = record { command = command; position = add.0; seen = seen } in
        let long = one_longer calls call in
        record {
          calls' = calls ++ call ∷ [];
          told = add.1;
          keeps = λ place c there. (c, get_front calls (call ∷ []) place c there, refl, λ saw. refl);
          stood = record { place = length calls; its = inr (room, omega (arith, long)); newest = at_end (length calls) (length (calls ++ call ∷ [])) room long; call = call; there = get_seam calls [] call; has_seen = refl };
          grew = inr (record { new_one = refl; long = long; call = call; there = get_seam calls [] call; command_is = refl });
        }

    gone_last : (stage : Stage) (ticket : ℕ) (attempt : Attempt) → WaitsLast old (Own P L (length calls)) ticket → GoesOn old new log log' ticket attempt → TriedLast new calls log' command stage attempt
    gone_last stage ticket not_sent w g = absurd g
    gone_last stage ticket (waits given) w g =
        record { calls' = calls; told = g.log_same ∙ told; keeps = same_keeps calls; stood = record { place = w.place; at = g.rest given ∙ ap old g.same ∙ w.at; its = w.its; newest = w.newest }; grew = inl refl }
    gone_last stage ticket (answered seen) w g =
        let s = g.sees calls told in
        let at : w.place ≡ s.0 = same_some w.place s.0 (sym w.at ∙ s.2) in
        let long = length-see s.0 seen calls in
        record {
          calls' = see s.0 seen calls;
          told = s.5;
          keeps = see_keeps s.0 seen calls s.1 s.3 s.4;
          stood = record {
            place = s.0;
            its = own_on P L (length calls) (length (see s.0 seen calls)) (omega (arith, long)) s.0 (subst (λ (n : ℕ). Own P L (length calls) n) at w.its);
            newest = λ other of. let less = w.newest other (subst (λ (n : ℕ). Own P L n other) long of) in omega (arith, less, at);
            call = record s.1 { seen = seen };
            there = see_here s.0 seen calls s.1 s.3;
            has_seen = refl;
          };
          grew = inl long;
        }

    tried_last : (stage : Stage) (attempt : Attempt) → FliesLast old (Own P L (length calls)) stage → Tries old new log log' command stage attempt → TriedLast new calls log' command stage attempt
    tried_last unsent attempt f t = begun_last attempt t
    tried_last (first ticket) attempt f t = gone_last (first ticket) ticket attempt f t
    tried_last (second ticket) attempt f t = gone_last (second ticket) ticket attempt f t

  -- ---- a poll of a request

  pub record RanLast (new : Awaited) (calls : List Call) (log' : LogTold) (s : Sending) (c : Step Sending (List ℕ)) : Type 0 where
    pub calls' : List Call
    pub told : log' ≡ Some calls'
    pub keeps : Keeps calls calls'
    pub came : CameLast new calls' (Own P L (length calls')) c
    pub once : s.retries ≡ false → GrewBy s.command s.stage calls calls'

  pub sent_flies : (awaited : Awaited) (own : ℕ → Type 0) (stage : Stage) → SentLast awaited own stage → FliesLast awaited own stage
  sent_flies awaited own unsent s = absurd s
  sent_flies awaited own (first ticket) s = s
  sent_flies awaited own (second ticket) s = s

  held_last : (new : Awaited) (own : ℕ → Type 0) (stage : Stage) (ticket : ℕ) → WaitsLast new own ticket → SentLast new own (holding stage ticket)
  held_last new own unsent ticket w = w
  held_last new own (first given) ticket w = w
  held_last new own (second given) ticket w = w

  came_last : (new : Awaited) (calls : List Call) (own : ℕ → Type 0) (wire : ℤ) (hold : ℕ → Sending) (attempt : Attempt) (c : Step Sending (List ℕ)) → ((ticket : ℕ) → WaitsLast new own ticket → SentLast new own (hold ticket).stage) → StoodBy new calls own attempt → AttemptGives attempt wire hold c → CameLast new calls own c
  came_last new calls own wire hold attempt (came.Pending s) holds stood g = subst (λ (x : Sending). SentLast new own x.stage) (sym g.2) (holds g.0 (subst (StoodBy new calls own) g.1 stood))
  came_last new calls own wire hold attempt (came.Done bytes) holds stood g = (subst (StoodBy new calls own) g.0 stood, g.1)
  came_last new calls own wire hold attempt (came.Failed e) holds stood g = tt

  never_repeated : (retries : Bool) (stage : Stage) (attempt : Attempt) → retries ≡ false → is_repeated retries stage attempt ≡ true → ⊥
  never_repeated true stage attempt single repeated = let bad : true ≡ false = single in cc
  never_repeated false unsent attempt single repeated = let bad : false ≡ true = repeated in cc
  never_repeated false (first ticket) attempt single repeated = let bad : false ≡ true = repeated in cc
  never_repeated false (second ticket) attempt single repeated = let bad : false ≡ true = repeated in cc

  module _ (old new : Awaited) (log log' : LogTold) (wire : ℤ) (s : Sending) (c : Step Sending (List ℕ)) (calls : List Call) (told : log ≡ Some calls) (room : L ≤ length calls) (flies : FliesLast old (Own P L (length calls)) s.stage) where
    once_last : Once old new log log' wire s c → RanLast new calls log' s c
    once_last once =
        let t = tried_last old new log log' calls told room s.command s.stage once.attempt flies once.tries in
        record {
          calls' = t.calls';
          told = t.told;
          keeps = t.keeps;
          came = came_last new t.calls' (Own P L (length t.calls')) wire (λ (ticket : ℕ). record s { stage = holding s.stage ticket }) once.attempt c (λ ticket w. held_last new (Own P L (length t.calls')) s.stage ticket w) t.stood once.gives;
          once = λ single. t.grew;
        }

    twice_last : Twice old new log log' wire s c → RanLast new calls log' s c
    twice_last twice =
        let t = tried_last old twice.between log twice.log_between calls told room s.command s.stage twice.attempt flies twice.tries in
        let longer = keeps_longer calls t.calls' t.keeps in
        let u = begun_last twice.between new twice.log_between log' t.calls' t.told (omega (arith, room, longer)) s.command twice.again twice.begins in
        record {
          calls' = u.calls';
          told = u.told;
          keeps = keeps_on calls t.calls' u.calls' t.keeps u.keeps;
          came = came_last new u.calls' (Own P L (length u.calls')) wire (λ (ticket : ℕ). record s { stage = second ticket }) twice.again c (λ ticket w. w) u.stood twice.gives;
          once = λ single. absurd (never_repeated s.retries s.stage twice.attempt single twice.repeated);
        }

    -- behind a poll of a request its newest command has seen what came, or waits
    pub ran_last : Runs old new log log' wire s c → RanLast new calls log' s c
    ran_last (inl once) = once_last once
    ran_last (inr twice) = twice_last twice

  -- ---- an opening

  pub record BehindLast (new : Awaited) (log' : LogTold) (r : Opened) : Type 0 where
    pub calls' : List Call
    pub told : log' ≡ Some calls'
    pub last : OpenedLast new calls' (Own P L (length calls')) r

  quiet_last : (old new : Awaited) (log log' : LogTold) (calls : List Call) (r q : Opened) → log ≡ Some calls → SendsNothing old new log log' → r ≡ q → OpenedLast new calls (Own P L (length calls)) q → BehindLast new log' r
  quiet_last old new log log' calls r q told none is l = record { calls' = calls; told = none.log_same ∙ told; last = subst (OpenedLast new calls (Own P L (length calls))) (sym is) l }

  -- the reply to the list of its chunks told its cursor
  new_last : (new : Awaited) (calls : List Call) (own : ℕ → Type 0) (f : FileRecord) (count : ℕ) (bytes : List ℕ) (out : CursorSpecification) → OpensWith None None None bytes out → SeenLast calls own (reply bytes) → IsSuccess bytes → DownloadLast new calls own (new_download f count (new_client out))
  new_last new calls own f count bytes out w seen success c is =
      let x : ClientCursor = new_client out in
      let same : x ≡ c = same_some x c is in
      let told : IsToldLast calls own x = record {
        before = seen.place;
        its = seen.its;
        newest = seen.newest;
        told = record {
          call = seen.call;
          there = seen.there;
          bytes = bytes;
          has_seen = seen.has_seen;
          success = success;
          cursor = record { id = out.info.id; space = space out.info.ns; token = out.post_batch_resume_token; batch = w.opens.batch };
          says = w.opens.says;
          id_is = refl;
          space_is = refl;
        };
      } in
      subst (λ (y : ClientCursor). CursorLast new calls own y y.doing) same told

  module _ (old new : Awaited) (log log' : LogTold) (wire : ℤ) (r : Opened) (calls : List Call) (told : log ≡ Some calls) (room : L ≤ length calls) where
    list_heard : (f : FileRecord) (count : ℕ) (own : ℕ → Type 0) (calls' : List Call) (c : Step Sending (List ℕ)) → CameLast new calls' own c → HearsList f count c r → OpenedLast new calls' own r
    list_heard f count own calls' (came.Pending s) l h = subst (OpenedLast new calls' own) (sym h) (sent_flies new own s.stage l)
    list_heard f count own calls' (came.Done bytes) l (findings.opened out w is) = subst (OpenedLast new calls' own) (sym is) (new_last new calls' own f count bytes out w l.0 l.1)
    list_heard f count own calls' (came.Done bytes) l (findings.broke e why is) = subst (OpenedLast new calls' own) (sym is) tt
    list_heard f count own calls' (came.Failed e) l h = subst (OpenedLast new calls' own) (sym h) tt

    lists_last : (f : FileRecord) (count : ℕ) (s : Sending) → FliesLast old (Own P L (length calls)) s.stage → ListsOn old new log log' wire f count s r → BehindLast new log' r
    lists_last f count s flies on =
        let ran = ran_last old new log log' wire s on.came calls told room flies on.runs in
        record { calls' = ran.calls'; told = ran.told; last = list_heard f count (Own P L (length ran.calls')) ran.calls' on.came ran.came on.hears }

    -- what is built was not sent yet
    flies_new : (s : Sending) → s.stage ≡ unsent → FliesLast old (Own P L (length calls)) s.stage
    flies_new s is = subst (FliesLast old (Own P L (length calls))) (sym is) tt

    file_last : (b : ClientBucket) (f : FileRecord) → OpensFile old new log log' wire b f r → BehindLast new log' r
    file_last b f (findings.too_many m many none is) = quiet_last old new log log' calls r (findings.fails (broken m)) told none is tt
    file_last b f (findings.is_empty zero_long none is) = quiet_last old new log log' calls r (findings.opens (empty_download f)) told none is (λ c at. let bad : None ≡ Some c = at in absurd cc)
    file_last b f (findings.not_built some e why none is) = quiet_last old new log log' calls r (findings.fails e) told none is tt
    file_last b f (findings.listed some count counted s new_one on) = lists_last f count s (flies_new s new_one.new) on

    record_last : (b : ClientBucket) (id : Tree) (bytes : List ℕ) → HearsRecord old new log log' wire b id bytes r → BehindLast new log' r
    record_last b id bytes (findings.none_found reads_so e not_there none is) = quiet_last old new log log' calls r (findings.fails e) told none is tt
    record_last b id bytes (findings.is_found f reads_so on) = file_last b f on
    record_last b id bytes (findings.broke e why none is) = quiet_last old new log log' calls r (findings.fails e) told none is tt

  module _ (old new : Awaited) (log log' : LogTold) (wire : ℤ) (r : Opened) (calls : List Call) (told : log ≡ Some calls) (room : L ≤ length calls) where
    finds_last : (b : ClientBucket) (id : Tree) (s : Sending) → FliesLast old (Own P L (length calls)) s.stage → FindsOn old new log log' wire b id s r → BehindLast new log' r
    finds_last b id s flies (findings.pends still runs is) =
        let ran = ran_last old new log log' wire s (came.Pending still) calls told room flies runs in
        record { calls' = ran.calls'; told = ran.told; last = subst (OpenedLast new ran.calls' (Own P L (length ran.calls'))) (sym is) (sent_flies new (Own P L (length ran.calls')) still.stage ran.came) }
    finds_last b id s flies (findings.hears between log_between bytes runs on) =
        let ran = ran_last old between log log_between wire s (came.Done bytes) calls told room flies runs in
        let longer = keeps_longer calls ran.calls' ran.keeps in
        record_last between new log_between log' wire r ran.calls' ran.told (omega (arith, room, longer)) b id bytes on
    finds_last b id s flies (findings.failed e runs is) =
        let ran = ran_last old new log log' wire s (came.Failed e) calls told room flies runs in
        record { calls' = ran.calls'; told = ran.told; last = subst (OpenedLast new ran.calls' (Own P L (length ran.calls'))) (sym is) tt }

    begins_last : (b : ClientBucket) (id : Tree) → BeginsFind old new log log' wire b id r → BehindLast new log' r
    begins_last b id (findings.built s new_one on) = finds_last b id s (flies_new old new log log' wire r calls told room s new_one.new) on
    begins_last b id (findings.not_built e why none is) = quiet_last old new log log' calls r (findings.fails e) told none is tt

    -- Behind a poll of an opening the find that waits is the newest command, or the newest reply told the cursor of the download.
    pub opening_last : (o : ClientFinding) → FindingLast old (Own P L (length calls)) o.doing → Opens old new log log' wire o r → BehindLast new log' r
    opening_last o l (findings.no_bucket none quiet is) = quiet_last old new log log' calls r (findings.fails (errors.plain kind.OutOfMemory)) told quiet is tt
    opening_last o l (findings.begins b is at on) = begins_last b o.id on
    opening_last o l (findings.finds_on b is s at on) = finds_last b o.id s (subst (FindingLast old (Own P L (length calls))) at l) on
    opening_last o l (findings.lists_on b is f count s at on) = lists_last old new log log' wire r calls told room f count s (subst (FindingLast old (Own P L (length calls))) at l) on

-- So it is behind a poll of an opening whose commands stand at these places.
pub opens_last : (old new : Awaited) (log log' : LogTold) (wire : ℤ) (o : ClientFinding) (r : Opened) → Opens old new log log' wire o r → (calls calls' : List Call) → log ≡ Some calls → log' ≡ Some calls' → length calls ≤ length calls' → (places : List ℕ) → ((place : ℕ) → IsOf places place → place < length calls)
    → FindingLast old (λ (n : ℕ). IsOf places n) o.doing → OpenedLast new calls' (λ (n : ℕ). IsOf (sent_since places (length calls) (length calls')) n) r
opens_last old new log log' wire o r opens calls calls' told told' longer places below last = behind_so b (same_some b.calls' calls' (sym b.told ∙ told'))
  where
    none_beyond : (other : ℕ) → Own places (length calls) (length calls) other → IsOf places other
    none_beyond other (inl of) = of
    none_beyond other (inr range) = let low = range.0 in let high = range.1 in absurd (omega (arith, low, high))

    b : BehindLast places (length calls) below new log' r
    b = opening_last places (length calls) below old new log log' wire r calls told (omega arith) o (finding_kept calls calls (same_keeps calls) (λ (n : ℕ). IsOf places n) (Own places (length calls) (length calls)) (λ place of. inl of) none_beyond old old o.doing (λ m e. refl) last) opens

    forth : (n place : ℕ) → Own places (length calls) n place → IsOf (sent_since places (length calls) n) place
    forth n place (inl of) = in_first places _ place of
    forth n place (inr range) = is_since places (length calls) n place range.0 range.1

    back : (n : ℕ) → length calls ≤ n → (place : ℕ) → IsOf (sent_since places (length calls) n) place → Own places (length calls) n place
    back n room place of = since_is places (length calls) n place room of

    as_places : (l : List Call) → length calls ≤ length l → (q : Opened) → OpenedLast new l (Own places (length calls) (length l)) q → OpenedLast new l (λ (n : ℕ). IsOf (sent_since places (length calls) (length l)) n) q
    as_places l room (findings.waits doing) h = finding_kept l l (same_keeps l) (Own places (length calls) (length l)) (λ (n : ℕ). IsOf (sent_since places (length calls) (length l)) n) (forth (length l)) (back (length l) room) new new doing (λ m e. refl) h
    as_places l room (findings.opens d) h = download_kept l l (same_keeps l) (Own places (length calls) (length l)) (λ (n : ℕ). IsOf (sent_since places (length calls) (length l)) n) (forth (length l)) (back (length l) room) new new d (λ m e. refl) h
    as_places l room (findings.fails e) h = tt

    behind_so : (x : BehindLast places (length calls) below new log' r) → x.calls' ≡ calls' → OpenedLast new calls' (λ (n : ℕ). IsOf (sent_since places (length calls) (length calls')) n) r
    behind_so x same = as_places calls' longer r (subst (λ (l : List Call). OpenedLast new l (Own places (length calls) (length l)) r) same x.last)
