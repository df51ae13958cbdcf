-- What each download keeps is kept by each of its polls.
use Rattle.std.proofs.Common.{◌≡◌, ◌≢◌, ◌⊎◌, ◌<◌, ◌≤◌, ◌+◌, ◌-◌, ◌^◌, ℕ, zero, suc, ℤ, pos, Bool, true, false, List, [], ◌∷◌, length, take, drop, None, Ok, refl, sym, ap, ◌∙◌, subst, inl, inr, arith, length-append, length-take, length-drop}
use Rattle.std.specs.Ordering.{int_eq}
use Rattle.std.specs.Prelude.{if◌then◌else◌}
use Rattle.std.specs.List.{concat}
use Rattle.mg_bson.specs.Raw.{items}
use Rattle.mg_link.specs.Exec.{Sending}
use Rattle.mg_link.specs.Link.{Awaited, LogTold}
use Rattle.mg_link.specs.Pinned.{is_invalid}
use Rattle.mg_link.specs.declared.action.Step.{Step}
use Rattle.mg_link.specs.declared.action.Step.TheVariants as step
use Rattle.mg_link.specs.declared.pinned.PinnedConnection.TheVariants as connection
use Rattle.mg_cursor.specs.Client as client
use Rattle.mg_cursor.specs.Client.{ClientCursor, HasNext, IsOver as IsOverBy, IsSound, SoundBy as SoundIn, client_ticket}
use Rattle.mg_cursor.specs.Polling as poll
use Rattle.mg_cursor.specs.Polling.{Hears, PollsNext, ReadsReply}
use Rattle.mg_cursor.specs.declared.polls.NextPoll.{NextPoll}
use Rattle.mg_cursor.specs.declared.polls.NextPoll.TheVariants as next
use Rattle.mg_cursor.proofs.Keeping.{sound_next}
use Rattle.mg_chunks.specs.Sizes.{chunk_count_of}
use Rattle.mg_records.specs.FileRecords.{FileRecord}
use Rattle.mg_gridfs.specs.Downloads.{ClientDownload, Doing, HasSizes, IsAtRest, IsBetween, IsFree, IsSoundDownload, IsWaiting, RestsBy, SoundBy, ended, idle, most_empty, reads, received, spoiled, spoiled_at}
use Rattle.mg_gridfs.specs.Reads as read_steps
use Rattle.mg_gridfs.specs.Reads.{Concludes, EndsFetch, Fetched, Fetches, Fills, FillsFront, HandsOut, IsOver, IsWithin, Reads, ReadsNone, ReadsNothing, TakesOne, enough, fails, no_more, none_missing, not_taken, over, pends, waits, with_chunks}
use Rattle.mg_gridfs.specs.declared.polls.ReadPoll.{ReadPoll}
use Rattle.mg_gridfs.specs.declared.polls.ReadPoll.TheVariants as read
use Rattle.mg_gridfs.proofs.Downloading.{TakenAs, next_rests, taken_as}
use Rattle.mg_gridfs.proofs.Received.{batch_is, received_more}

none_of : {X : Type 0} (l : List X) → length l ≡ 0 → l ≡ []
none_of [] h = refl
none_of (x ∷ xs) h = absurd (omega arith)

-- ---- cursors

sound_at_rest : (c : ClientCursor) (d : client.Doing) → IsAtRest d → SoundIn true c d
sound_at_rest c client.rests h = tt
sound_at_rest c (client.holds reply) h = tt
sound_at_rest c (client.asks sending) h = absurd h

pub rest_sound : (c : ClientCursor) → IsAtRest c.doing → IsSound true c
rest_sound c h = sound_at_rest c c.doing h

none_at_rest : (d : client.Doing) → IsAtRest d → client.ticket_by d ≡ None
none_at_rest client.rests h = refl
none_at_rest (client.holds reply) h = refl
none_at_rest (client.asks sending) h = absurd h

-- one at rest holds no ticket
pub rest_ticket : (c : ClientCursor) → IsAtRest c.doing → client_ticket c ≡ None
rest_ticket c h = none_at_rest c.doing h

pub rests_ticket : (c : ClientCursor) → c.doing ≡ client.rests → client_ticket c ≡ None
rests_ticket c is = ap client.ticket_by is

-- one that is bound to no connection stays so, but behind an error
unbound_by : (b : Bool) → (if b then connection.Unpinned else connection.Unpinned) ≡ connection.Unpinned
unbound_by true = refl
unbound_by false = refl

abbrev IsNoError : NextPoll → Type 0
IsNoError next.Pending = Unit {0}
IsNoError (next.Batch reply) = Unit {0}
IsNoError next.End = Unit {0}
IsNoError (next.Failed e) = ⊥

reply_free : (c : ClientCursor) (reply : List ℕ) (c' : ClientCursor) (r : NextPoll) → IsNoError r → IsFree c → ReadsReply c reply c' r → IsFree c'
reply_free c reply c' r fine free (poll.gave said says is answer) = ap (λ (x : ClientCursor). x.pinned) is ∙ ap (λ p. if int_eq said.id (pos 0) then connection.Unpinned else p) free ∙ unbound_by (int_eq said.id (pos 0))
reply_free c reply c' r fine free (poll.broke e why is answer) = ap (λ (x : ClientCursor). x.pinned) is ∙ free

heard_free : (c : ClientCursor) (came : Step Sending (List ℕ)) (c' : ClientCursor) (r : NextPoll) → IsNoError r → IsFree c → Hears c came c' r → IsFree c'
heard_free c (step.Pending sending) c' r fine free h = ap (λ (x : ClientCursor). x.pinned) h.0 ∙ free
heard_free c (step.Done reply) c' r fine free h = reply_free c reply c' r fine free h
heard_free c (step.Failed e) c' r fine free h = absurd (subst IsNoError h.1 fine)

next_free : (old new : Awaited) (log log' : LogTold) (wire : ℤ) (started : Bool) (c c' : ClientCursor) (r : NextPoll) → IsNoError r → IsFree c → PollsNext old new log log' wire None started c c' r → IsFree c'
next_free old new log log' wire started c c' r fine free (poll.hands_out reply at none same is answer) = ap (λ (x : ClientCursor). x.pinned) is ∙ free
next_free old new log log' wire started c c' r fine free (poll.is_over at ended_so none same is answer) = ap (λ (x : ClientCursor). x.pinned) is ∙ free
next_free old new log log' wire started c c' r fine free (poll.not_built at may e why none same is answer) = ap (λ (x : ClientCursor). x.pinned) is ∙ free
next_free old new log log' wire started c c' r fine free (poll.begins at may sending new_one asked) = heard_free c asked.came c' r fine free asked.hears
next_free old new log log' wire started c c' r fine free (poll.goes_on sending at asked) = heard_free c asked.came c' r fine free asked.hears

-- one whose reply pends waits
abbrev IsPending : NextPoll → Type 0
IsPending next.Pending = Unit {0}
IsPending (next.Batch reply) = ⊥
IsPending next.End = ⊥
IsPending (next.Failed e) = ⊥

reply_no_wait : (c : ClientCursor) (reply : List ℕ) (c' : ClientCursor) (r : NextPoll) → IsPending r → ReadsReply c reply c' r → ⊥
reply_no_wait c reply c' r fine (poll.gave said says is answer) = subst IsPending answer fine
reply_no_wait c reply c' r fine (poll.broke e why is answer) = subst IsPending answer fine

heard_waits : (c : ClientCursor) (came : Step Sending (List ℕ)) (c' : ClientCursor) (r : NextPoll) → IsPending r → Hears c came c' r → IsWaiting c'.doing
heard_waits c (step.Pending sending) c' r fine h = subst IsWaiting (sym (ap (λ (x : ClientCursor). x.doing) h.0)) tt
heard_waits c (step.Done reply) c' r fine h = absurd (reply_no_wait c reply c' r fine h)
heard_waits c (step.Failed e) c' r fine h = absurd (subst IsPending h.1 fine)

next_waits : (old new : Awaited) (log log' : LogTold) (wire : ℤ) (started : Bool) (c c' : ClientCursor) (r : NextPoll) → IsPending r → PollsNext old new log log' wire None started c c' r → IsWaiting c'.doing
next_waits old new log log' wire started c c' r fine (poll.hands_out reply at none same is answer) = absurd (subst IsPending answer fine)
next_waits old new log log' wire started c c' r fine (poll.is_over at ended_so none same is answer) = absurd (subst IsPending answer fine)
next_waits old new log log' wire started c c' r fine (poll.not_built at may e why none same is answer) = absurd (subst IsPending answer fine)
next_waits old new log log' wire started c c' r fine (poll.begins at may sending new_one asked) = heard_waits c asked.came c' r fine asked.hears
next_waits old new log log' wire started c c' r fine (poll.goes_on sending at asked) = heard_waits c asked.came c' r fine asked.hears

-- ---- sizes

-- the same download, where it does something else
pub sizes_at : (d : ClientDownload) (doing : Doing) → d.doing ≢ spoiled → HasSizes d → HasSizes (record d { doing = doing })
sizes_at d doing fine s = record { counted = s.counted; few = s.few; given = s.given; parts = λ ok. s.parts fine }

-- behind chunks that are in order
sizes_taken : (d d' : ClientDownload) (chunks : List (List ℕ)) (c : ClientCursor) (t : TakenAs chunks c d d') → d.doing ≢ spoiled → d'.taken ≤ 2 ^ 31 → received d.file (d.taken + length chunks) ≡ received d.file d.taken + length (concat chunks) → HasSizes d → HasSizes d'
sizes_taken d d' chunks c t fine few more s =
    let ahead = ap (length {A = ℕ}) t.ahead ∙ length-append d.ahead (concat chunks) in
    let known = s.parts fine in
    let sum : s.given + length d'.ahead ≡ received d.file d.taken + length (concat chunks) = omega arith in
    record {
      counted = subst (λ (f : FileRecord). chunk_count_of f.length f.chunk_size ≡ Ok d'.count) (sym t.file) (s.counted ∙ ap (λ (n : ℕ). Ok n) (sym t.count));
      few = few;
      given = s.given;
      parts = λ ok. sum ∙ sym more ∙ sym (ap (received d.file) t.taken) ∙ ap (λ (f : FileRecord). received f d'.taken) (sym t.file);
    }

sizes_spoiled : (d : ClientDownload) → HasSizes d → HasSizes (spoiled_at d)
sizes_spoiled d s = record { counted = s.counted; few = s.few; given = s.given; parts = λ ok. absurd (ok refl) }

spoiled_sound : (d : ClientDownload) → HasSizes d → IsSoundDownload (spoiled_at d)
spoiled_sound d s = record { sizes = sizes_spoiled d s; by = refl }

-- ---- a batch is taken

sound_at : (d : ClientDownload) (doing : Doing) → d.doing ≡ doing → IsSoundDownload d → SoundBy d doing
sound_at d doing is s = subst (SoundBy d) is s.by

busy : (d : ClientDownload) (c : ClientCursor) (missing empty : ℕ) → d.doing ≡ reads c missing empty → d.doing ≢ spoiled
busy d c missing empty is bad = let e : reads c missing empty ≡ spoiled = sym is ∙ bad in cc

free_of : (d : ClientDownload) (c : ClientCursor) → d.doing ≡ idle c → d.doing ≢ spoiled
free_of d c is bad = let e : idle c ≡ spoiled = sym is ∙ bad in cc

taken_by : (d : ClientDownload) (chunks : List (List ℕ)) (c : ClientCursor) (missing empty : ℕ) → IsFree c → IsSound true c → c.doing ≡ client.rests → 0 < missing → (chunks ≡ [] → suc empty < most_empty) → SoundBy (with_chunks chunks c missing empty d) (with_chunks chunks c missing empty d).doing
taken_by d [] c missing empty free sound rests short few = (free, record { sound = sound; few = few refl; rests_so = λ z. rests }, λ z bad. omega arith)
taken_by d (b ∷ bs) c missing empty free sound rests short few =
    let first : 0 < most_empty = omega arith in (
      free,
      record { sound = sound; few = first; rests_so = λ z. rests },
      λ z bad. let all = ap (length {A = ℕ}) bad in let parts = length-append d.ahead (concat (b ∷ bs)) in omega arith,
    )

pub takes_sound : (old new : Awaited) (log log' : LogTold) (wire : ℤ) (d d' : ClientDownload) → IsSoundDownload d → TakesOne old new log log' wire d d' → IsSoundDownload d'
takes_sound old new log log' wire d d' s one =
    let here = sound_at d (reads one.cursor one.missing one.empty) one.at s in
    let t = one.takes in
    let b = batch_is d.file d.taken (items t.array) t.chunks t.in_order in
    let answer = next.Batch one.reply in
    let free = next_free old new log log' wire one.started one.cursor one.behind answer tt here.0 one.polls in
    let sound = sound_next true old new log log' wire None one.started one.cursor one.behind answer here.1.sound refl one.polls in
    let rests = next_rests old new log log' wire one.started one.cursor one.behind answer tt one.polls in
    let by = taken_by d t.chunks one.behind one.missing one.empty free sound rests one.short t.few in
    record {
      sizes = sizes_taken d d' t.chunks one.behind (taken_as t.chunks one.behind one.missing one.empty d d' t.taken) (busy d one.cursor one.missing one.empty one.at) t.numbered (received_more d.file d.taken t.chunks b.documents b.received) s.sizes;
      by = subst (λ (x : ClientDownload). SoundBy x x.doing) (sym t.taken) by;
    }

-- ---- what ends the taking

-- an end comes only from a cursor that is over
abbrev IsEnd : NextPoll → Type 0
IsEnd next.Pending = ⊥
IsEnd (next.Batch reply) = ⊥
IsEnd next.End = Unit {0}
IsEnd (next.Failed e) = ⊥

reply_no_end : (c : ClientCursor) (reply : List ℕ) (c' : ClientCursor) (r : NextPoll) → IsEnd r → ReadsReply c reply c' r → ⊥
reply_no_end c reply c' r fine (poll.gave said says is answer) = subst IsEnd answer fine
reply_no_end c reply c' r fine (poll.broke e why is answer) = subst IsEnd answer fine

heard_no_end : (c : ClientCursor) (came : Step Sending (List ℕ)) (c' : ClientCursor) (r : NextPoll) → IsEnd r → Hears c came c' r → ⊥
heard_no_end c (step.Pending sending) c' r fine h = subst IsEnd h.1 fine
heard_no_end c (step.Done reply) c' r fine h = reply_no_end c reply c' r fine h
heard_no_end c (step.Failed e) c' r fine h = subst IsEnd h.1 fine

-- a free one that is over has no next
never_lost : (c : ClientCursor) → IsFree c → is_invalid c.pinned ≡ true → ⊥
never_lost c free lost = let e : is_invalid connection.Unpinned ≡ true = sym (ap is_invalid free) ∙ lost in cc

over_next : (c : ClientCursor) → IsFree c → c.doing ≡ client.rests → IsOverBy c → HasNext c → ⊥
over_next c free rests (inl zero_is) (inl other) = other zero_is
over_next c free rests (inr lost) (inl other) = never_lost c free lost
over_next c free rests past (inr holds_some) = subst client.HoldsItems rests holds_some

next_over : (old new : Awaited) (log log' : LogTold) (wire : ℤ) (started : Bool) (c c' : ClientCursor) (r : NextPoll) → IsEnd r → IsFree c → PollsNext old new log log' wire None started c c' r → HasNext c' → ⊥
next_over old new log log' wire started c c' r fine free (poll.hands_out reply at none same is answer) has = subst IsEnd answer fine
next_over old new log log' wire started c c' r fine free (poll.is_over at ended_so none same is answer) has = over_next c free at ended_so (subst HasNext is has)
next_over old new log log' wire started c c' r fine free (poll.not_built at may e why none same is answer) has = subst IsEnd answer fine
next_over old new log log' wire started c c' r fine free (poll.begins at may sending new_one asked) has = heard_no_end c asked.came c' r fine asked.hears
next_over old new log log' wire started c c' r fine free (poll.goes_on sending at asked) has = heard_no_end c asked.came c' r fine asked.hears

-- where all that was awaited is in hand, nothing is on its way; and bytes are in hand, or none follows
pub record IsFetched (d : ClientDownload) (c : ClientCursor) : Type 0 where
  pub rests : c.doing ≡ client.rests
  pub some : (d.ahead ≢ []) ⊎ (HasNext c → ⊥)

abbrev pub FetchSound : ClientDownload → Fetched → Type 0
FetchSound d waits = IsBetween d
FetchSound d enough = IsSoundDownload d × ((c : ClientCursor) → d.doing ≡ idle c → IsFetched d c)
FetchSound d (fails e) = IsSoundDownload d × (d.doing ≡ spoiled)

same_idle : (c c' : ClientCursor) → idle c ≡ idle c' → c ≡ c'
same_idle c c' e = cc

idle_sound : (d : ClientDownload) (c : ClientCursor) → d.doing ≢ spoiled → HasSizes d → IsFree c → IsSound true c → c.doing ≡ client.rests → (d.ahead ≢ []) ⊎ (HasNext c → ⊥) → FetchSound (record d { doing = idle c }) enough
idle_sound d c fine sizes free sound rests some = (
  record { sizes = sizes_at d (idle c) fine sizes; by = (free, sound, subst IsAtRest (sym rests) tt, λ more. rests) },
  λ x is. subst (λ (y : ClientCursor). IsFetched (record d { doing = idle c }) y) (same_idle c x is) (record { rests = rests; some = some }),
)

ends_sound : (old new : Awaited) (log log' : LogTold) (wire : ℤ) (d d' : ClientDownload) (f : Fetched) → IsSoundDownload d → EndsFetch old new log log' wire d d' f → FetchSound d' f
ends_sound old new log log' wire d d' f s (none_missing x empty there quiet is answer) =
    let here = sound_at d (reads x 0 empty) there s in
    subst (FetchSound d') (sym answer) (subst (λ (y : ClientDownload). FetchSound y enough) (sym is) (idle_sound d x (busy d x 0 empty there) s.sizes here.0 here.1.sound (here.1.rests_so refl) (inl (here.2 refl))))
ends_sound old new log log' wire d d' f s (over x m k there short started behind polls is answer) =
    let here = sound_at d (reads x m k) there s in
    let free = next_free old new log log' wire started x behind next.End tt here.0 polls in
    let sound = sound_next true old new log log' wire None started x behind next.End here.1.sound refl polls in
    let rests = next_rests old new log log' wire started x behind next.End tt polls in
    subst (FetchSound d') (sym answer) (subst (λ (y : ClientDownload). FetchSound y enough) (sym is) (idle_sound d behind (busy d x m k there) s.sizes free sound rests (inr (next_over old new log log' wire started x behind next.End tt here.0 polls))))
ends_sound old new log log' wire d d' f s (pends x m k there short started behind polls is answer) =
    let here = sound_at d (reads x m k) there s in
    let free = next_free old new log log' wire started x behind next.Pending tt here.0 polls in
    let sound = sound_next true old new log log' wire None started x behind next.Pending here.1.sound refl polls in
    let between : IsBetween (record d { doing = reads behind m k }) = record {
      sound = record {
        sizes = sizes_at d (reads behind m k) (busy d x m k there) s.sizes;
        by = (free, record { sound = sound; few = here.1.few; rests_so = λ z. absurd (omega arith) }, λ z bad. omega arith);
      };
      rests_so = (short, next_waits old new log log' wire started x behind next.Pending tt polls);
    } in
    subst (FetchSound d') (sym answer) (subst IsBetween (sym is) between)
ends_sound old new log log' wire d d' f s (no_more x m k there short started behind e polls is answer) =
    subst (FetchSound d') (sym answer) (subst (λ (y : ClientDownload). FetchSound y (fails e)) (sym is) (spoiled_sound d s.sizes, refl))
ends_sound old new log log' wire d d' f s (not_taken x m k there short started behind reply e polls why is answer) =
    subst (FetchSound d') (sym answer) (subst (λ (y : ClientDownload). FetchSound y (fails e)) (sym is) (spoiled_sound d s.sizes, refl))

pub fetches_sound : (n : ℕ) (old new : Awaited) (log log' : LogTold) (wire : ℤ) (d d' : ClientDownload) (f : Fetched) → IsSoundDownload d → Fetches n old new log log' wire d d' f → FetchSound d' f
unfolding Fetches
fetches_sound zero old new log log' wire d d' f s ends = ends_sound old new log log' wire d d' f s ends
fetches_sound (suc n) old new log log' wire d d' f s more = fetches_sound n more.0 new more.1 log' wire more.2 d' f (takes_sound old more.0 log more.1 wire d more.2 s more.3) more.4

-- ---- a read begins

pub begin_sound : (d : ClientDownload) (c : ClientCursor) (room : ℕ) → d.doing ≡ idle c → 0 < room → IsSoundDownload d → IsSoundDownload (record d { doing = reads c room 0 })
begin_sound d c room is some s =
    let here = sound_at d (idle c) is s in
    let first : 0 < most_empty = omega arith in
    record { sizes = sizes_at d (reads c room 0) (free_of d c is) s.sizes; by = (here.0, record { sound = here.1; few = first; rests_so = λ z. absurd (omega arith) }, λ z bad. omega arith) }

-- ---- what is given

pub gives_sound : (room : ℕ) (c : ClientCursor) (d d' : ClientDownload) (given : List ℕ) (r : ReadPoll) → d.doing ≡ idle c → c.doing ≡ client.rests → IsSoundDownload d → HandsOut room c d d' given r → IsBetween d'
gives_sound room c d d' given r is rests s (read_steps.goes_on more these there answer) =
    let here = sound_at d (idle c) is s in
    let known = s.sizes.parts (free_of d c is) in
    let front = length-take room d.ahead in
    let left = length-drop room d.ahead in
    let sum : s.sizes.given + length (take room d.ahead) + length (drop room d.ahead) ≡ received d.file d.taken = omega arith in
    subst IsBetween (sym there) (record {
      sound = record {
        sizes = record { counted = s.sizes.counted; few = s.sizes.few; given = s.sizes.given + length (take room d.ahead); parts = λ ok. sum };
        by = (here.0, here.1, subst IsAtRest (sym rests) tt, λ some. rests);
      };
      rests_so = tt;
    })
gives_sound room c d d' given r is rests s (read_steps.ends none over_so full these there answer) =
    let known = s.sizes.parts (free_of d c is) in
    let sum : s.sizes.given + length d.ahead + 0 ≡ received d.file d.taken = omega arith in
    subst IsBetween (sym there) (record {
      sound = record { sizes = record { counted = s.sizes.counted; few = s.sizes.few; given = s.sizes.given + length d.ahead; parts = λ ok. sum }; by = (refl, full) };
      rests_so = tt;
    })
gives_sound room c d d' given r is rests s (read_steps.miscounts none over_so other no_bytes there answer) = subst IsBetween (sym there) (record { sound = spoiled_sound d s.sizes; rests_so = tt })

-- ---- a poll

-- the answer counts the bytes that were given
abbrev CountsGiven : List ℕ → ReadPoll → Type 0
CountsGiven given read.Pending = Unit {0}
CountsGiven given (read.Read n) = n ≡ length given
CountsGiven given (read.Failed e) = Unit {0}

module _ (old new : Awaited) (log log' : LogTold) (wire : ℤ) (d d' : ClientDownload) (given : List ℕ) (r : ReadPoll) where
  concludes_sound : (room : ℕ) (f : Fetched) (left : ClientDownload) → FetchSound left f → Concludes room f left d' given r → IsBetween d'
  concludes_sound room waits left s ends = subst IsBetween (sym ends.0) s
  concludes_sound room enough left s ends = gives_sound room ends.0 left d' given r ends.1 (s.1 ends.0 ends.1).rests s.0 ends.2
  concludes_sound room (fails e) left s ends = subst IsBetween (sym ends.0) (record { sound = s.0; rests_so = subst RestsBy (sym s.1) tt })

  fills_sound : (room : ℕ) (e : ClientDownload) → IsSoundDownload e → Fills old new log log' wire room e d' given r → IsBetween d'
  fills_sound room e s h = concludes_sound room h.fetched h.left (fetches_sound h.batches old new log log' wire e h.left h.fetched s h.fetches) h.concludes

  -- it is sound between two polls
  pub reads_between : (room : ℕ) → IsBetween d → Reads old new log log' wire room d d' given r → IsBetween d'
  reads_between room s (read_steps.no_room none h) = subst IsBetween (sym h.same) s
  reads_between room s (read_steps.is_over some over_so h) = subst IsBetween (sym h.same) s
  reads_between room s (read_steps.in_hand some c is more quiet gives) = gives_sound room c d d' given r is ((sound_at d (idle c) is s.sound).3 more) s.sound gives
  reads_between room s (read_steps.begins some c is none h) = fills_sound room (record d { doing = reads c room 0 }) (begin_sound d c room is some s.sound) h
  reads_between room s (read_steps.goes_on some c missing empty is h) = fills_sound room d s.sound h

  -- ---- no more is read than there is room for

  gives_within : (room : ℕ) (c : ClientCursor) (e : ClientDownload) → HandsOut room c e d' given r → IsWithin room r
  gives_within room c e (read_steps.goes_on more these there answer) =
      let n = ap (length {A = ℕ}) these ∙ length-take room e.ahead in
      let within : length given ≤ room = omega arith in
      subst (IsWithin room) (sym answer) within
  gives_within room c e (read_steps.ends none over_so full these there answer) =
      let n = ap (length {A = ℕ}) these ∙ length-take room e.ahead in
      let within : length given ≤ room = omega arith in
      subst (IsWithin room) (sym answer) within
  gives_within room c e (read_steps.miscounts none over_so other no_bytes there answer) = subst (IsWithin room) (sym answer) tt

  concludes_within : (room : ℕ) (f : Fetched) (left : ClientDownload) → Concludes room f left d' given r → IsWithin room r
  concludes_within room waits left ends = subst (IsWithin room) (sym ends.2) tt
  concludes_within room enough left ends = gives_within room ends.0 left ends.2
  concludes_within room (fails e) left ends = subst (IsWithin room) (sym ends.2) tt

  none_within : (room : ℕ) → ReadsNone old new log log' d d' given r → IsWithin room r
  none_within room h = let none : 0 ≤ room = omega arith in subst (IsWithin room) (sym h.answer) none

  pub reads_within : (room : ℕ) → Reads old new log log' wire room d d' given r → IsWithin room r
  reads_within room (read_steps.no_room none h) = none_within room h
  reads_within room (read_steps.is_over some over_so h) = none_within room h
  reads_within room (read_steps.in_hand some c is more quiet gives) = gives_within room c d gives
  reads_within room (read_steps.begins some c is none h) = concludes_within room h.fetched h.left h.concludes
  reads_within room (read_steps.goes_on some c missing empty is h) = concludes_within room h.fetched h.left h.concludes

  -- ---- nothing is read only where all was given

  gives_nothing : (room : ℕ) (c : ClientCursor) (e : ClientDownload) → 0 < room → (e.ahead ≢ []) ⊎ (HasNext c → ⊥) → HandsOut room c e d' given r → r ≡ read.Read 0 → d'.doing ≡ ended
  gives_nothing room c e some known (read_steps.goes_on more these there answer) zero_read =
      let n = ap (length {A = ℕ}) these ∙ length-take room e.ahead in
      let z : length given ≡ 0 = same_read (length given) (sym answer ∙ zero_read) in
      let short : length e.ahead ≡ 0 = omega arith in
      absurd (never known more short)
    where
      same_read : (m : ℕ) → read.Read m ≡ read.Read 0 → m ≡ 0
      same_read m x = cc

      never : (e.ahead ≢ []) ⊎ (HasNext c → ⊥) → (drop room e.ahead ≢ []) ⊎ HasNext c → length e.ahead ≡ 0 → ⊥
      never (inl full) x short = full (none_of e.ahead short)
      never (inr none) (inl full) short = full (none_of (drop room e.ahead) (length-drop room e.ahead ∙ (let y : length e.ahead - room ≡ 0 = omega arith in y)))
      never (inr none) (inr has) short = none has
  gives_nothing room c e some known (read_steps.ends none over_so full these there answer) zero_read = ap (λ (x : ClientDownload). x.doing) there
  gives_nothing room c e some known (read_steps.miscounts none over_so other no_bytes there answer) zero_read = let bad = sym answer ∙ zero_read in absurd cc

  concludes_nothing : (room : ℕ) (f : Fetched) (left : ClientDownload) → 0 < room → FetchSound left f → Concludes room f left d' given r → r ≡ read.Read 0 → d'.doing ≡ ended
  concludes_nothing room waits left some s ends zero_read = let bad = sym ends.2 ∙ zero_read in absurd cc
  concludes_nothing room enough left some s ends zero_read = gives_nothing room ends.0 left some (s.1 ends.0 ends.1).some ends.2 zero_read
  concludes_nothing room (fails e) left some s ends zero_read = let bad = sym ends.2 ∙ zero_read in absurd cc

  fills_nothing : (room : ℕ) (e : ClientDownload) → 0 < room → IsSoundDownload e → Fills old new log log' wire room e d' given r → r ≡ read.Read 0 → d'.doing ≡ ended
  fills_nothing room e some s h zero_read = concludes_nothing room h.fetched h.left some (fetches_sound h.batches old new log log' wire e h.left h.fetched s h.fetches) h.concludes zero_read

  over_so_far : (x : Doing) → IsOver x → (x ≡ spoiled) ⊎ (x ≡ ended)
  over_so_far (idle c) h = absurd h
  over_so_far (reads c missing empty) h = absurd h
  over_so_far ended h = inr refl
  over_so_far spoiled h = inl refl

  pub reads_nothing : (room : ℕ) → IsSoundDownload d → Reads old new log log' wire room d d' given r → ReadsNothing room d d' r
  reads_nothing room s (read_steps.no_room none h) zero_read = inl none
  reads_nothing room s (read_steps.is_over some over_so h) zero_read = inr (by_end (over_so_far d.doing over_so))
    where
      by_end : (d.doing ≡ spoiled) ⊎ (d.doing ≡ ended) → (d.doing ≡ spoiled) ⊎ (d'.doing ≡ ended)
      by_end (inl is) = inl is
      by_end (inr is) = inr (ap (λ (x : ClientDownload). x.doing) h.same ∙ is)
  reads_nothing room s (read_steps.in_hand some c is more quiet gives) zero_read = inr (inr (gives_nothing room c d some (inl more) gives zero_read))
  reads_nothing room s (read_steps.begins some c is none h) zero_read = inr (inr (fills_nothing room (record d { doing = reads c room 0 }) some (begin_sound d c room is some s) h zero_read))
  reads_nothing room s (read_steps.goes_on some c missing empty is h) zero_read = inr (inr (fills_nothing room d some s h zero_read))

  -- ---- what is given is counted

  gives_counted : (room : ℕ) (c : ClientCursor) (e : ClientDownload) → HandsOut room c e d' given r → CountsGiven given r
  gives_counted room c e (read_steps.goes_on more these there answer) = subst (CountsGiven given) (sym answer) refl
  gives_counted room c e (read_steps.ends none over_so full these there answer) = subst (CountsGiven given) (sym answer) refl
  gives_counted room c e (read_steps.miscounts none over_so other no_bytes there answer) = subst (CountsGiven given) (sym answer) tt

  concludes_counted : (room : ℕ) (f : Fetched) (left : ClientDownload) → Concludes room f left d' given r → CountsGiven given r
  concludes_counted room waits left ends = subst (CountsGiven given) (sym ends.2) tt
  concludes_counted room enough left ends = gives_counted room ends.0 left ends.2
  concludes_counted room (fails e) left ends = subst (CountsGiven given) (sym ends.2) tt

  none_counted : ReadsNone old new log log' d d' given r → CountsGiven given r
  none_counted h = subst (CountsGiven given) (sym h.answer) (sym (ap (length {A = ℕ}) h.none_given))

  pub reads_counted : (room : ℕ) → Reads old new log log' wire room d d' given r → CountsGiven given r
  reads_counted room (read_steps.no_room none h) = none_counted h
  reads_counted room (read_steps.is_over some over_so h) = none_counted h
  reads_counted room (read_steps.in_hand some c is more quiet gives) = gives_counted room c d gives
  reads_counted room (read_steps.begins some c is none h) = concludes_counted room h.fetched h.left h.concludes
  reads_counted room (read_steps.goes_on some c missing empty is h) = concludes_counted room h.fetched h.left h.concludes

-- the room keeps its size
pub same_room : (before now given : List ℕ) (r : ReadPoll) → IsWithin (length before) r → CountsGiven given r → FillsFront before now given r → length now ≡ length before
same_room before now given read.Pending within counted fills = ap (length {A = ℕ}) fills
same_room before now given (read.Failed e) within counted fills = fills
same_room before now given (read.Read n) within counted fills =
    let e = ap (length {A = ℕ}) fills ∙ length-append given (drop (length given) before) in
    let d = length-drop (length given) before in
    omega arith
