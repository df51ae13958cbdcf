-- A turn of a put whose upload is open, by what its poll came to.
use Rattle.std.proofs.Common.{◌≡◌, ◌<◌, ◌≤◌, ◌+◌, ℕ, suc, ℤ, true, false, List, length, Option, Some, None, refl, sym, ap, ◌∙◌, subst, inl, inr, arith}
use Rattle.std.specs.Prelude.{slice_get}
use Rattle.std.proofs.lemmas.List.{length-map}
use Rattle.mg_link.specs.Acts.{PendsAfter, Tickets}
use Rattle.mg_link.specs.Link.{Awaited, LogTold}
use Rattle.mg_link.specs.Moment.{PendsJust, failed}
use Rattle.mg_link.specs.declared.error.Error.{Error}
use Rattle.mg_link.proofs.Places.{get_within}
use Rattle.mg_gridfs.specs.Calls.{LeavesEnd, LeavesWrite, ending_beside}
use Rattle.mg_gridfs.specs.Uploads.{ClientUpload, Doing, abort, busy, close, closed, idle, ticket_by, upload_ticket, write}
use Rattle.mg_gridfs.specs.UploadView.{IsUpload, upload_of}
use Rattle.mg_gridfs.specs.declared.polls.Step2.TheVariants as end
use Rattle.mg_gridfs.specs.declared.polls.WritePoll.TheVariants as wrote
use Rattle.mg_script.specs.Plan.{piece, pieces}
use Rattle.mg_script.specs.declared.outcome.Ended.TheVariants as ended
use Rattle.mg_players.specs.Drawing.{supply_from}
use Rattle.mg_players.specs.Kept.{ids_left}
use Rattle.mg_players.specs.Progress.{HoldsIf, PutGoes}
use Rattle.mg_players.specs.Puts.{HoldsUpload, IsPutDoing, PutTask, writes}
use Rattle.mg_players.specs.Putting.{PutTurns}
use Rattle.mg_players.specs.declared.put.Going.{Going}
use Rattle.mg_players.specs.declared.put.PutPlayer.{PutPlayer}
use Rattle.mg_players.specs.declared.put.PutStage.TheVariants as puts
use Rattle.mg_players.proofs.PutPolled.{takes_close, takes_write}
use Rattle.mg_players.proofs.PutSending.{joined_total}
use Rattle.mg_players.proofs.PutTurning.{put_over, put_still}
use Rattle.mg_players.proofs.PutWriting.{ClosePolled, WritePolled, close_adds, close_clears, close_done, close_fails, close_kept, close_lays_done, close_lays_fails, close_room, close_said_done, close_said_fails, close_waits, write_adds, write_clears, write_done, write_fails, write_kept, write_lays, write_room, write_said, write_waits}
use Rattle.mg_players.proofs.Telling.{answered_by, extends_answered, extends_going, going_on}

-- ---- the put behind a poll, by another name

pub turns_as : (old new : Awaited) (log log' : LogTold) (wire moment : ℤ) (p x r : PutPlayer) → r ≡ x → PutTurns old new log log' wire moment p x → PutTurns old new log log' wire moment p r
turns_as old new log log' wire moment p x r is turns = subst (PutTurns old new log log' wire moment p) (sym is) turns

pub comes_as : (before now : ℕ) (p x r : PutPlayer) → r ≡ x → PutGoes before now p x → PutGoes before now p r
comes_as before now p x r is goes = subst (PutGoes before now p) (sym is) goes

-- ---- tickets behind a poll

-- a put that has failed holds no ticket
none_written : (u u' : ClientUpload) (e : Error) (made count : ℕ) → IsPutDoing u.doing made count → made < count → LeavesWrite u u' (wrote.Failed e) → upload_ticket u' ≡ None
none_written u u' e made count doing within (inl over) = ap ticket_by over
none_written u u' e made count doing within (inr (same, inl rest)) = ap upload_ticket same ∙ ap ticket_by rest.0
none_written u u' e made count doing within (inr (same, inr refused)) = absurd (takes_write u.doing made count doing within refused.0)

none_closed : (u u' : ClientUpload) (e : Error) (made count : ℕ) → IsPutDoing u.doing made count → LeavesEnd close u u' (end.Failed e) → upload_ticket u' ≡ None
none_closed u u' e made count doing (inl over) = ap ticket_by over
none_closed u u' e made count doing (inr left) = absurd (takes_close u.doing made count doing left.1)

let_go : (old new : Awaited) (ticket ticket' : Option ℕ) → ticket' ≡ None → Tickets old new ticket ticket' → Tickets old new ticket None
let_go old new ticket ticket' none t = subst (Tickets old new ticket) none t

-- the count of pending replies is the same where a poll failed
pub failed_pends : (e : Error) (known : Option Error) (ticket : Option ℕ) (before now : ℕ) → PendsJust (ending_beside (failed e) known) ticket before now → now ≡ before
failed_pends e None ticket before now pended = pended
failed_pends e (Some other) ticket before now pended = pended

-- ---- a write

module _ (moment : ℤ) (p : PutPlayer) (going going' : Going) (bytes : List ℕ) (old new : Awaited) (log log' : LogTold) (wire : ℤ) (there : slice_get (pieces p.what.pieces.now) p.done ≡ Some bytes) (holds : HoldsUpload going.upload p.done (length (pieces p.what.pieces.now))) (length_is : going'.length ≡ going.length) where
  abbrev T : PutTask
  T = writes p.what

  abbrev U : ClientUpload
  U = upload_of going.upload

  abbrev U' : ClientUpload
  U' = upload_of going'.upload

  -- what its source gives before the poll, and behind it
  abbrev Ids : ℕ → List ℕ
  Ids = ids_left going.ids

  abbrev Later : ℕ → List ℕ
  Later = ids_left going'.ids

  abbrev Before : PutPlayer
  Before = record p { stage = puts.Goes going }

  within : p.done < length T.pieces
  within = get_within T.pieces p.done bytes there

  pub write_waits_turns : IsUpload going'.upload → WritePolled Ids Later old new log log' wire U U' bytes wrote.Pending → PutTurns old new log log' wire moment Before (record p { stage = puts.Goes going' })
  write_waits_turns sound polled = record {
    same = refl;
    tickets = polled.tickets;
    holds = record { sound = sound; doing = subst (λ (d : Doing). IsPutDoing d p.done (length T.pieces)) (sym polled.leaves.2) (omega (arith, within)) };
    has = tt;
    turned = λ calls told o at plays. put_still old new log log' U U' polled.passes calls told o plays (record p { stage = puts.Goes going' }) going' at refl refl;
    told = λ calls calls' told told' supply n may q at at' placed o plays says.
        record {
          longer = write_room (supply_from supply n) T Ids Later old new log log' wire U U' bytes wrote.Pending polled holds.sound.between p.done there holds.doing calls calls' told told' q says.0;
          places = going_on q (length calls) (length calls');
          tells = (write_waits (supply_from supply n) T Ids Later old new log log' wire U U' bytes wrote.Pending polled holds.sound.between p.done there holds.doing calls calls' told told' q says.0 sound.between.rests_so refl, length_is ∙ says.1);
          extends = extends_going q (suc p.done) (suc p.done) (length calls) (length calls') refl (write_room (supply_from supply n) T Ids Later old new log log' wire U U' bytes wrote.Pending polled holds.sound.between p.done there holds.doing calls calls' told told' q says.0);
          adds = write_adds (supply_from supply n) T Ids Later old new log log' wire U U' bytes wrote.Pending polled holds.sound.between p.done there holds.doing calls calls' told told' q says.0;
        };
  }

  pub write_done_turns : (n : ℕ) → IsUpload going'.upload → WritePolled Ids Later old new log log' wire U U' bytes (wrote.Wrote n) → PutTurns old new log log' wire moment Before (record p { stage = puts.Goes going'; done = p.done + 1 })
  write_done_turns n sound polled = record {
    same = refl;
    tickets = polled.tickets;
    holds = record { sound = sound; doing = subst (λ (d : Doing). IsPutDoing d (p.done + 1) (length T.pieces)) (sym polled.leaves.0) (omega (arith, within)) };
    has = tt;
    turned = λ calls told o at plays. put_still old new log log' U U' polled.passes calls told o plays (record p { stage = puts.Goes going'; done = p.done + 1 }) going' at refl refl;
    told = λ calls calls' told told' supply m may q at at' placed o plays says.
        record {
          longer = write_room (supply_from supply m) T Ids Later old new log log' wire U U' bytes (wrote.Wrote n) polled holds.sound.between p.done there holds.doing calls calls' told told' q says.0;
          places = answered_by q (length calls) (length calls');
          tells = (write_done (supply_from supply m) T Ids Later old new log log' wire U U' bytes (wrote.Wrote n) polled holds.sound.between p.done there holds.doing calls calls' told told' q says.0 n refl, length_is ∙ says.1);
          extends = extends_answered q (suc p.done) (suc (p.done + 1)) (length calls) (length calls') (ap suc (sym says.0.counted)) (write_room (supply_from supply m) T Ids Later old new log log' wire U U' bytes (wrote.Wrote n) polled holds.sound.between p.done there holds.doing calls calls' told told' q says.0);
          adds = write_adds (supply_from supply m) T Ids Later old new log log' wire U U' bytes (wrote.Wrote n) polled holds.sound.between p.done there holds.doing calls calls' told told' q says.0;
        };
  }

  pub write_fails_turns : (e : Error) → WritePolled Ids Later old new log log' wire U U' bytes (wrote.Failed e) → PutTurns old new log log' wire moment Before (record p { stage = puts.Ended (ended.Failed e) })
  write_fails_turns e polled = record {
    same = refl;
    tickets = let_go old new (upload_ticket U) (upload_ticket U') (none_written U U' e p.done (length T.pieces) holds.doing within polled.leaves) polled.tickets;
    holds = tt;
    has = tt;
    turned = λ calls told o at plays. put_over old new log log' U U' polled.passes calls told o plays (record p { stage = puts.Ended (ended.Failed e) }) (ended.Failed e) at refl;
    told = λ calls calls' told told' supply n may q at at' placed o plays says.
        record {
          longer = write_room (supply_from supply n) T Ids Later old new log log' wire U U' bytes (wrote.Failed e) polled holds.sound.between p.done there holds.doing calls calls' told told' q says.0;
          places = going_on q (length calls) (length calls');
          tells = (says.0.opened, says.0.counted, inr (says.0.sized, write_fails (supply_from supply n) T Ids Later old new log log' wire U U' bytes (wrote.Failed e) polled holds.sound.between p.done there holds.doing calls calls' told told' q says.0 e refl, write_clears (supply_from supply n) T Ids Later old new log log' wire U U' bytes (wrote.Failed e) polled holds.sound.between p.done there holds.doing calls calls' told told' q says.0 e refl), (omega (arith, within)), write_said (supply_from supply n) T Ids Later old new log log' wire U U' bytes (wrote.Failed e) polled holds.sound.between p.done there holds.doing calls calls' told told' q says.0 e refl, write_lays (supply_from supply n) T Ids Later old new log log' wire U U' bytes (wrote.Failed e) polled holds.sound.between p.done there holds.doing calls calls' told told' q says.0 e refl, write_kept (supply_from supply n) T Ids Later old new log log' wire U U' bytes (wrote.Failed e) polled holds.sound.between p.done there holds.doing calls calls' told told' q says.0);
          extends = extends_going q (suc p.done) (suc p.done) (length calls) (length calls') refl (write_room (supply_from supply n) T Ids Later old new log log' wire U U' bytes (wrote.Failed e) polled holds.sound.between p.done there holds.doing calls calls' told told' q says.0);
          adds = write_adds (supply_from supply n) T Ids Later old new log log' wire U U' bytes (wrote.Failed e) polled holds.sound.between p.done there holds.doing calls calls' told told' q says.0;
        };
  }

-- ---- how far it comes

module _ (p : PutPlayer) (going going' : Going) (bytes : List ℕ) (there : slice_get (pieces p.what.pieces.now) p.done ≡ Some bytes) where
  within_now : p.done < length p.what.pieces.now
  within_now =
      let same : length (pieces p.what.pieces.now) ≡ length p.what.pieces.now = length-map p.what.pieces.now piece in
      let less = get_within (pieces p.what.pieces.now) p.done bytes there in
      omega (arith, less, same)

  pub write_waits_comes : (before now : ℕ) → LeavesWrite (upload_of going.upload) (upload_of going'.upload) wrote.Pending → PendsAfter 1 (upload_ticket (upload_of going'.upload)) before now → PutGoes before now (record p { stage = puts.Goes going }) (record p { stage = puts.Goes going' })
  write_waits_comes before now leaves pended = (
    true,
    pended.1,
    λ calls k last at. (at.0, omega (arith, at.1), subst (λ (d : Doing). IsPutDoing d p.done (length p.what.pieces.now)) (sym leaves.2) (omega (arith, within_now)), pended.0, λ still. absurd cc),
  )

  pub write_done_comes : (before now : ℕ) → (upload_of going'.upload).doing ≡ idle → now ≡ before → PutGoes before now (record p { stage = puts.Goes going }) (record p { stage = puts.Goes going'; done = p.done + 1 })
  write_done_comes before now rests same = (
    false,
    same,
    λ calls k last at. (
      at.0,
      omega (arith, at.1),
      subst (λ (d : Doing). IsPutDoing d (p.done + 1) (length p.what.pieces.now)) (sym rests) (omega (arith, within_now)),
      subst (λ (d : Doing). HoldsIf false (ticket_by d)) (sym rests) refl,
      λ still. rests,
    ),
  )

-- one that has failed had a turn that did not pend
pub fails_comes : (p : PutPlayer) (going : Going) (e : Error) (before now : ℕ) → now ≡ before → PutGoes before now (record p { stage = puts.Goes going }) (record p { stage = puts.Ended (ended.Failed e) })
fails_comes p going e before now same = (false, same, λ calls k last at. (inr (omega (arith, at.1)), refl))

-- ---- a close

-- a put that does something has written no more pieces than there are
by_doing : (d : Doing) (made count : ℕ) → count ≤ made → IsPutDoing d made count → made ≡ count
by_doing idle made count all doing = omega (arith, all, doing)
by_doing (busy (write n) p) made count all doing = absurd (omega (arith, all, doing))
by_doing (busy close p) made count all doing = doing
by_doing (busy abort p) made count all doing = absurd doing
by_doing closed made count all doing = absurd doing

module _ (moment : ℤ) (p : PutPlayer) (going going' : Going) (old new : Awaited) (log log' : LogTold) (wire : ℤ) (all : length (pieces p.what.pieces.now) ≤ p.done) (holds : HoldsUpload going.upload p.done (length (pieces p.what.pieces.now))) (length_is : going'.length ≡ going.length) where
  abbrev Task : PutTask
  Task = writes p.what

  abbrev V : ClientUpload
  V = upload_of going.upload

  abbrev V' : ClientUpload
  V' = upload_of going'.upload

  abbrev Source : ℕ → List ℕ
  Source = ids_left going.ids

  abbrev Source' : ℕ → List ℕ
  Source' = ids_left going'.ids

  abbrev Open : PutPlayer
  Open = record p { stage = puts.Goes going }

  -- all pieces are written
  all_made : p.done ≡ length (pieces p.what.pieces.now)
  all_made = by_doing V.doing p.done (length (pieces p.what.pieces.now)) all holds.doing

  pub close_waits_turns : IsUpload going'.upload → ClosePolled Source Source' moment old new log log' wire V V' end.Pending → PutTurns old new log log' wire moment Open (record p { stage = puts.Goes going' })
  close_waits_turns sound polled = record {
    same = refl;
    tickets = polled.tickets;
    holds = record { sound = sound; doing = subst (λ (d : Doing). IsPutDoing d p.done (length (pieces p.what.pieces.now))) (sym polled.leaves.1) all_made };
    has = tt;
    turned = λ calls told o at plays. put_still old new log log' V V' polled.passes calls told o plays (record p { stage = puts.Goes going' }) going' at refl refl;
    told = λ calls calls' told told' supply n may q at at' placed o plays says.
        record {
          longer = close_room (supply_from supply n) Task Source Source' moment may old new log log' wire V V' end.Pending polled holds.sound.between p.done all holds.doing calls calls' told told' q says.0;
          places = going_on q (length calls) (length calls');
          tells = (close_waits (supply_from supply n) Task Source Source' moment may old new log log' wire V V' end.Pending polled holds.sound.between p.done all holds.doing calls calls' told told' q says.0 sound.between.rests_so refl, length_is ∙ says.1);
          extends = extends_going q (suc p.done) (suc p.done) (length calls) (length calls') refl (close_room (supply_from supply n) Task Source Source' moment may old new log log' wire V V' end.Pending polled holds.sound.between p.done all holds.doing calls calls' told told' q says.0);
          adds = close_adds (supply_from supply n) Task Source Source' moment may old new log log' wire V V' end.Pending polled holds.sound.between p.done all holds.doing calls calls' told told' q says.0;
        };
  }

  pub close_done_turns : ClosePolled Source Source' moment old new log log' wire V V' end.Done → PutTurns old new log log' wire moment Open (record p { stage = puts.Ended (ended.Gave going.length) })
  close_done_turns polled = record {
    same = refl;
    tickets = let_go old new (upload_ticket V) (upload_ticket V') (ap ticket_by polled.leaves) polled.tickets;
    holds = tt;
    has = tt;
    turned = λ calls told o at plays. put_over old new log log' V V' polled.passes calls told o plays (record p { stage = puts.Ended (ended.Gave going.length) }) (ended.Gave going.length) at refl;
    told = λ calls calls' told told' supply n may q at at' placed o plays says.
        record {
          longer = close_room (supply_from supply n) Task Source Source' moment may old new log log' wire V V' end.Done polled holds.sound.between p.done all holds.doing calls calls' told told' q says.0;
          places = going_on q (length calls) (length calls');
          tells = (says.0.opened, says.0.counted, (says.1 ∙ sym (joined_total (Task).pieces), says.0.sized, close_done (supply_from supply n) Task Source Source' moment may old new log log' wire V V' end.Done polled holds.sound.between p.done all holds.doing calls calls' told told' q says.0 refl), all_made, close_said_done (supply_from supply n) Task Source Source' moment may old new log log' wire V V' end.Done polled holds.sound.between p.done all holds.doing calls calls' told told' q says.0 going.length refl, close_lays_done (supply_from supply n) Task Source Source' moment may old new log log' wire V V' end.Done polled holds.sound.between p.done all holds.doing calls calls' told told' q says.0 refl, close_kept (supply_from supply n) Task Source Source' moment may old new log log' wire V V' end.Done polled holds.sound.between p.done all holds.doing calls calls' told told' q says.0);
          extends = extends_going q (suc p.done) (suc p.done) (length calls) (length calls') refl (close_room (supply_from supply n) Task Source Source' moment may old new log log' wire V V' end.Done polled holds.sound.between p.done all holds.doing calls calls' told told' q says.0);
          adds = close_adds (supply_from supply n) Task Source Source' moment may old new log log' wire V V' end.Done polled holds.sound.between p.done all holds.doing calls calls' told told' q says.0;
        };
  }

  pub close_fails_turns : (e : Error) → ClosePolled Source Source' moment old new log log' wire V V' (end.Failed e) → PutTurns old new log log' wire moment Open (record p { stage = puts.Ended (ended.Failed e) })
  close_fails_turns e polled = record {
    same = refl;
    tickets = let_go old new (upload_ticket V) (upload_ticket V') (none_closed V V' e p.done (length (pieces p.what.pieces.now)) holds.doing polled.leaves) polled.tickets;
    holds = tt;
    has = tt;
    turned = λ calls told o at plays. put_over old new log log' V V' polled.passes calls told o plays (record p { stage = puts.Ended (ended.Failed e) }) (ended.Failed e) at refl;
    told = λ calls calls' told told' supply n may q at at' placed o plays says.
        record {
          longer = close_room (supply_from supply n) Task Source Source' moment may old new log log' wire V V' (end.Failed e) polled holds.sound.between p.done all holds.doing calls calls' told told' q says.0;
          places = going_on q (length calls) (length calls');
          tells = (says.0.opened, says.0.counted, inr (says.0.sized, close_fails (supply_from supply n) Task Source Source' moment may old new log log' wire V V' (end.Failed e) polled holds.sound.between p.done all holds.doing calls calls' told told' q says.0 e refl, close_clears (supply_from supply n) Task Source Source' moment may old new log log' wire V V' (end.Failed e) polled holds.sound.between p.done all holds.doing calls calls' told told' q says.0 e refl), (let made = all_made in omega (arith, made)), close_said_fails (supply_from supply n) Task Source Source' moment may old new log log' wire V V' (end.Failed e) polled holds.sound.between p.done all holds.doing calls calls' told told' q says.0 e refl, close_lays_fails (supply_from supply n) Task Source Source' moment may old new log log' wire V V' (end.Failed e) polled holds.sound.between p.done all holds.doing calls calls' told told' q says.0 e refl, close_kept (supply_from supply n) Task Source Source' moment may old new log log' wire V V' (end.Failed e) polled holds.sound.between p.done all holds.doing calls calls' told told' q says.0);
          extends = extends_going q (suc p.done) (suc p.done) (length calls) (length calls') refl (close_room (supply_from supply n) Task Source Source' moment may old new log log' wire V V' (end.Failed e) polled holds.sound.between p.done all holds.doing calls calls' told told' q says.0);
          adds = close_adds (supply_from supply n) Task Source Source' moment may old new log log' wire V V' (end.Failed e) polled holds.sound.between p.done all holds.doing calls calls' told told' q says.0;
        };
  }

module _ (p : PutPlayer) (going going' : Going) (all : length (pieces p.what.pieces.now) ≤ p.done) (holds : HoldsUpload going.upload p.done (length (pieces p.what.pieces.now))) where
  made_now : p.done ≡ length p.what.pieces.now
  made_now = by_doing (upload_of going.upload).doing p.done (length (pieces p.what.pieces.now)) all holds.doing ∙ length-map p.what.pieces.now piece

  pub close_waits_comes : (before now : ℕ) → LeavesEnd close (upload_of going.upload) (upload_of going'.upload) end.Pending → PendsAfter 1 (upload_ticket (upload_of going'.upload)) before now → PutGoes before now (record p { stage = puts.Goes going }) (record p { stage = puts.Goes going' })
  close_waits_comes before now leaves pended = (
    true,
    pended.1,
    λ calls k last at. (at.0, omega (arith, at.1), subst (λ (d : Doing). IsPutDoing d p.done (length p.what.pieces.now)) (sym leaves.1) made_now, pended.0, λ still. absurd cc),
  )

  pub close_done_comes : (before now : ℕ) → now ≡ before → PutGoes before now (record p { stage = puts.Goes going }) (record p { stage = puts.Ended (ended.Gave going.length) })
  close_done_comes before now same = (false, same, λ calls k last at. (let made = made_now in omega (arith, at.0, at.1, made), refl))
