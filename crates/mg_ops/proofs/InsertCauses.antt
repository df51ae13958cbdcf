-- What the answers of an insert are caused by.
use Rattle.std.proofs.Common.{◌≡◌, ℕ, ℤ, suc, ◌+◌, ◌-◌, ◌<◌, ◌≤◌, false, List, [], ◌∷◌, ◌++◌, length, Option, Some, None, refl, sym, ap, ◌∙◌, subst, inl, inr, take, drop, arith}
use Rattle.std.proofs.lemmas.List.{length-append, length-take-le, take-append-drop}
use Rattle.std.specs.Prelude.{◌⊎◌, IsSome, slice_get, unwrap_or}
use Rattle.std.proofs.lemmas.Bool.{cases_lt}
use Rattle.std.proofs.lemmas.List.Sums.{sum_by-append}
use Rattle.std.specs.List.{sum_by}
use Rattle.std.specs.Option.{option_flatten}
use Rattle.mg_bson.specs.Bytes.{bytes, fields_bytes, framed, le32}
use Rattle.mg_bson.specs.Tree.{Fields}
use Rattle.mg_bson.specs.Raw.{fields}
use Rattle.mg_bson.specs.declared.object_id.ObjectId.{ObjectId}
use Rattle.mg_server.specs.Calls.{Flies, Grows, Past, past_of, AddsOnly}
use Rattle.mg_link.specs.Exec.{Runs, Sending}
use Rattle.mg_link.specs.Link.{Awaited, LogTold}
use Rattle.mg_link.specs.Log.{Call}
use Rattle.mg_link.specs.Namespace.{Space, space}
use Rattle.mg_link.specs.declared.action.Step.{Step}
use Rattle.mg_link.specs.declared.action.Step.TheVariants as step
use Rattle.mg_link.specs.declared.error.Error.{Error}
use Rattle.mg_server.proofs.Calls.{HoldsOwn, awaited_by, own_by, request_ran, success_ran}
use Rattle.mg_server.proofs.Pasts.{fails_anyhow, flies_grows, request_fails_grows}
use Rattle.mg_ops.specs.Bodies.{insert_command}
use Rattle.mg_ops.specs.Failing.{CannotBeInserted, CannotBeSent, FailsBy}
use Rattle.mg_ops.specs.Limits.{max_documents}
use Rattle.mg_ops.specs.Writes.{NotInserted}
use Rattle.mg_ops.proofs.Unread.{unread_fails}
use Rattle.mg_ops.specs.InsertCauses.{CannotEncode, CannotGoOn, FitTogether, HasSent, HearsCaused, InsertCaused, InsertFails, InsertFlies, InsertWaits, IsBuilt, IsInsertOf, IsLength, IsNextPiece, IsPiece, IsSentFor, LeadsCaused, ListsFor, NextCaused, cannot_encode, cannot_insert, command_fails, max_piece, no_memory, total}
use Rattle.mg_ops.specs.Inserts.{held, insert_ticket}
use Rattle.mg_ops.specs.Underway.{IsBatch, IsSameList, IsStarted, sent_of, with_id}
use Rattle.mg_ops.specs.declared.inserting.Batches.{Batches}
use Rattle.mg_ops.specs.declared.inserting.Command.{Command}
use Rattle.mg_ops.specs.declared.inserting.Heard.{Heard}
use Rattle.mg_ops.specs.declared.inserting.Heard.TheVariants as heard
use Rattle.mg_ops.specs.declared.inserting.Inserting.{Inserting}
use Rattle.mg_ops.specs.declared.inserting.Next.TheVariants as next
use Rattle.mg_link.proofs.Places.{take_more}
use Rattle.mg_server.proofs.Adding.{adds_on, adds_ran}
use Rattle.mg_ops.proofs.Appending.{same_sent, sent_at, sent_length}
use Rattle.mg_ops.proofs.Plainly.{same_command}

-- ---- what is sent next

-- the room that these documents leave, unless a single one is larger than all room
abbrev pub LeavesRoom : List Fields → ℕ → Type 0
LeavesRoom batch room = (total batch + room ≡ max_piece) ⊎ ((length batch ≡ 1) × (room ≡ 0))

room_small : (batch : List Fields) (room : ℕ) → LeavesRoom batch room → room ≤ max_piece
room_small batch room (inl left) = omega (arith, left)
room_small batch room (inr alone) = let none = alone.1 in omega (arith, none)

framed_some : (body : List ℕ) → 1 ≤ length (framed body)
framed_some body = omega (arith, length-append (le32 (length body + 5)) (body ++ 0 ∷ []), length-append body (0 ∷ []))

-- one document more
module _ (batch : List Fields) (e : Fields) (room : ℕ) where
  more_total : total (batch ++ e ∷ []) ≡ total batch + length (bytes e)
  more_total =
      let all = sum_by-append (λ (d : Fields). length (bytes d)) batch (e ∷ []) in
      let one : sum_by (λ (d : Fields). length (bytes d)) (e ∷ []) ≡ 0 + length (bytes e) = refl in
      omega (arith, all, one)

  room_for : (n : ℕ) → n ≡ length (bytes e) → n ≤ room → LeavesRoom batch room → LeavesRoom (batch ++ e ∷ []) (room - n)
  room_for n is le (inl left) = let more = more_total in inl (omega (arith, more, is, le, left))
  room_for n is le (inr alone) = let none = alone.1 in let some : 1 ≤ length (bytes e) = framed_some (fields_bytes e) in absurd (omega (arith, is, le, none, some))

  room_alone : (n : ℕ) → length batch ≡ 0 → room ≤ n → LeavesRoom (batch ++ e ∷ []) (room - n)
  room_alone n none le =
      let long : length (batch ++ e ∷ []) ≡ length batch + 1 = length-append batch (e ∷ []) in
      inr (omega (arith, long, none), omega (arith, le))

  room_by : (n : ℕ) → n ≡ length (bytes e) → LeavesRoom batch room → (n ≤ room) ⊎ (length batch ≡ 0) → (room < n) ⊎ (n ≤ room) → LeavesRoom (batch ++ e ∷ []) (room - n)
  room_by n is left (inl le) order = room_for n is le left
  room_by n is left (inr none) (inl more) = room_alone n none (omega (arith, more))
  room_by n is left (inr none) (inr le) = room_for n is le left

  room_past : (most : ℕ) → max_piece < most → LeavesRoom batch room → (most ≤ room) ⊎ (length batch ≡ 0) → LeavesRoom (batch ++ e ∷ []) (room - most)
  room_past most large left (inl le) = absurd (let small = room_small batch room left in omega (arith, large, le, small))
  room_past most large left (inr none) = let small = room_small batch room left in room_alone most none (omega (arith, large, small))

  pub room_more : (o : Option ℕ) (most n : ℕ) → max_piece < most → IsLength e o → n ≡ unwrap_or o most → (n ≤ room) ⊎ (length batch ≡ 0) → LeavesRoom batch room → LeavesRoom (batch ++ e ∷ []) (room - n)
  room_more None most n large long is fits left = subst (λ (k : ℕ). LeavesRoom (batch ++ e ∷ []) (room - k)) (sym is) (room_past most large left (subst (λ (k : ℕ). (k ≤ room) ⊎ (length batch ≡ 0)) is fits))
  room_more (Some m) most n large long is fits left = room_by n (is ∙ long) left fits (cases_lt room n)

-- the length of a document with its id was not found
pub not_measured : (drawn : List (Option ObjectId)) (ds : List Fields) (place : ℕ) (d sent : Fields) (o : Option ObjectId) (e : Error) → slice_get ds place ≡ Some d → o ≡ option_flatten (slice_get drawn place) → sent ≡ with_id o d → FailsBy (CannotBeSent sent) e → FailsBy (CannotEncode (sent_of drawn ds)) e
not_measured drawn ds place d sent o e there is_id is (inl room) = inl room
not_measured drawn ds place d sent o e there is_id is (inr by) =
    let here : slice_get (sent_of drawn ds) place ≡ Some sent = sent_at drawn ds place d there ∙ ap (λ (x : Option ObjectId). Some (with_id x d)) (sym is_id) ∙ ap (λ (x : Fields). Some x) (sym is) in
    inr (place, sent, here, by)

pub no_batch : (b : Batches) (drawn : List (Option ObjectId)) (e : Error) → drawn ≡ b.drawn.items → FailsBy (CannotEncode (sent_of drawn b.documents.now)) e → FailsBy (CannotGoOn b) e
no_batch b drawn e same (inl room) = inl room
no_batch b drawn e same (inr by) = inr (inl (subst (λ (os : List (Option ObjectId)). CannotEncode (sent_of os b.documents.now) e) same by))

pub next_piece : (b : Batches) (drawn : List (Option ObjectId)) (piece : List Fields) (upto : ℕ) → drawn ≡ b.drawn.items → IsBatch drawn b.documents.now b.upto piece upto → (b.upto < upto) × (upto ≤ length b.documents.now) → upto ≤ b.upto + max_documents → FitTogether piece → IsNextPiece b piece upto
next_piece b drawn piece upto same these further few together =
    record { these = subst (λ (os : List (Option ObjectId)). IsBatch os b.documents.now b.upto piece upto) same these; further = further.0; within = further.1; few = few; together = together }

-- the command of a batch was not built
pub not_built : (b : Batches) (piece : List Fields) (upto : ℕ) (at : Space) (e : Error) → IsNextPiece b piece upto → at ≡ space b.ns.now → FailsBy (λ (x : Error). CannotBeInserted piece x ⊎ CannotBeSent (insert_command at piece) x) e → FailsBy (CannotGoOn b) e
not_built b piece upto at e part at_is (inl room) = inl room
not_built b piece upto at e part at_is (inr by) = inr (inr (piece, upto, part, subst (λ (s : Space). CannotBeInserted piece e ⊎ CannotBeSent (insert_command s piece) e) at_is by))

pub batch_length : (drawn : List (Option ObjectId)) (ds : List Fields) (from : ℕ) (batch : List Fields) (upto : ℕ) → IsBatch drawn ds from batch upto → from ≤ upto → upto ≤ length ds → from + length batch ≡ upto
batch_length drawn ds from batch upto these further within =
    let all : List Fields = sent_of drawn ds in
    let l : length all ≡ length ds = sent_length drawn ds in
    let to_last : length (take upto all) ≡ upto = length-take-le upto all (omega (arith, l, within)) in
    let to_first : length (take from all) ≡ from = length-take-le from all (omega (arith, l, within, further)) in
    let both : length (take from all ++ batch) ≡ length (take from all) + length batch = length-append (take from all) batch in
    let one : length (take upto all) ≡ length (take from all ++ batch) = ap (λ (x : List Fields). length x) these in
    omega (arith, to_last, to_first, both, one)

piece_of_batch : (drawn : List (Option ObjectId)) (ds : List Fields) (from : ℕ) (batch : List Fields) (upto : ℕ) → IsBatch drawn ds from batch upto → 1 ≤ length batch → length batch ≤ max_documents → FitTogether batch → IsPiece (sent_of drawn ds) batch
piece_of_batch drawn ds from batch upto b some few together =
    let all : List Fields = sent_of drawn ds in
    record {
      before = take from all;
      after = drop upto all;
      whole = sym (take-append-drop upto all) ∙ ap (λ (l : List Fields). l ++ drop upto all) b;
      some = some;
      few = few;
      together = together;
    }

piece_of_one : (drawn : List (Option ObjectId)) (ds : List Fields) (place : ℕ) (d : Fields) → slice_get (sent_of drawn ds) place ≡ Some d → IsPiece (sent_of drawn ds) (d ∷ [])
piece_of_one drawn ds place d there = piece_of_batch drawn ds place (d ∷ []) (suc place) (take_more (sent_of drawn ds) place d there) (omega arith) (omega arith) (inr refl)

piece_of_next : (b : Batches) (sent piece : List Fields) (upto : ℕ) → sent_of b.drawn.items b.documents.now ≡ sent → IsNextPiece b piece upto → IsPiece sent piece
piece_of_next b sent piece upto sent_is part =
    let further = part.further in
    let few = part.few in
    let whole : b.upto + length piece ≡ upto = batch_length b.drawn.items b.documents.now b.upto piece upto part.these (omega (arith, further)) part.within in
    subst (λ (l : List Fields). IsPiece l piece) sent_is
    (piece_of_batch b.drawn.items b.documents.now b.upto piece upto part.these (omega (arith, whole, further)) (omega (arith, whole, few)) part.together)

module _ (b b' : Batches) where
  module _ (past : Past) (at : Space) (ds : List Fields) (e : Error) (at_is : space b.ns.now ≡ at) (sent_is : sent_of b.drawn.items b.documents.now ≡ ds) where
    encodes_none : CannotEncode (sent_of b.drawn.items b.documents.now) e → InsertFails past at ds e
    encodes_none c = cannot_encode c.1 (subst (λ (l : List Fields). IsPiece l (c.1 ∷ [])) sent_is (piece_of_one b.drawn.items b.documents.now c.0 c.1 c.2)) c.3

    cannot_go_on : CannotGoOn b e → InsertFails past at ds e
    cannot_go_on (inl c) = encodes_none c
    cannot_go_on (inr c) =
        cannot_insert c.0 (piece_of_next b ds c.0 c.1 sent_is c.2) (subst (λ (s : Space). CannotBeInserted c.0 e ⊎ CannotBeSent (insert_command s c.0) e) at_is c.3)

    stopped_by : FailsBy (CannotGoOn b) e → InsertFails past at ds e
    stopped_by (inl room) = no_memory (ap (λ (x : Error). x.kind) room)
    stopped_by (inr c) = cannot_go_on c

  pub next_stopped : (e : Error) → FailsBy (CannotGoOn b) e → NextCaused b b' None (next.Stopped e)
  next_stopped e by awaited past at ds i = stopped_by past at ds e i.at_is i.sent_is by

  pub next_built : (c : Command) → IsSameList b b' → IsBuilt b b'.upto c → NextCaused b b' None (next.Send c)
  next_built c same built awaited past at ds i =
      let piece : List Fields = c.insert.documents.items in
      record {
        at_is = ap (λ n. space n.now) same.0 ∙ i.at_is;
        sent_is = same_sent b b' same ∙ i.sent_is;
        flies = record {
          part = piece_of_next b ds piece b'.upto i.sent_is built.part;
          command_is = built.command_is ∙ ap (λ (s : Space). insert_command s piece) i.at_is;
          once = built.once;
          flies = subst (Flies awaited past (insert_command at piece)) (sym built.stage_is) tt;
        };
      }

-- ---- what a poll of a command comes to

same_retries : (old new : Awaited) (log log' : LogTold) (wire : ℤ) (s s' : Sending) → Runs old new log log' wire s (step.Pending s') → s'.retries ≡ s.retries
same_retries old new log log' wire s s' (inl once) = ap (λ (x : Sending). x.retries) once.gives.2
same_retries old new log log' wire s s' (inr twice) = ap (λ (x : Sending). x.retries) twice.gives.2

module _ (old new : Awaited) (log log' : LogTold) (wire : ℤ) (c : Command) where
  -- it adds its own command alone
  command_adds : (awaited : Awaited) (past : Past) (at : Space) (ds : List Fields) (result : Step Sending (List ℕ)) → Runs old new log log' wire c.exec result → IsSentFor awaited past at ds c → (calls calls' : List Call) → log ≡ Some calls → log' ≡ Some calls' → AddsOnly (IsInsertOf at ds) calls calls'
  command_adds awaited past at ds result runs s calls calls' told told' = adds_ran (IsInsertOf at ds) old new log log' wire c.exec result (record { piece = c.insert.documents.items; part = s.part; command_is = s.command_is }) runs calls calls' told told'

  pub pending_caused : (exec : Sending) → Runs old new log log' wire c.exec (step.Pending exec) → HearsCaused old new log log' wire c (heard.Pending (record { exec = exec; insert = c.insert }))
  pending_caused exec runs calls told places since room at ds s =
      let r = request_ran old new log log' wire c.exec (insert_command at c.insert.documents.items) false (step.Pending exec) s.command_is s.once runs calls told places since room s.flies in (
        r.calls',
        r.told,
        r.room,
        record {
          part = s.part;
          command_is = ap fields (same_command old new log log' wire c.exec exec runs) ∙ s.command_is;
          once = same_retries old new log log' wire c.exec exec runs ∙ s.once;
          flies = r.came;
        },
        command_adds old (past_of places since calls wire) at ds (step.Pending exec) runs s calls r.calls' told r.told,
      )

  pub failed_caused : (e : Error) → Runs old new log log' wire c.exec (step.Failed e) → HearsCaused old new log log' wire c (heard.Failed e)
  failed_caused e runs calls told places since room at ds s =
      let piece : List Fields = c.insert.documents.items in
      let r = request_ran old new log log' wire c.exec (insert_command at piece) false (step.Failed e) s.command_is s.once runs calls told places since room s.flies in
      (r.calls', r.told, r.room, command_fails piece s.part (fails_anyhow (past_of places since r.calls' wire) (insert_command at piece) false (ListsFor piece) e r.came), command_adds old (past_of places since calls wire) at ds (step.Failed e) runs s calls r.calls' told r.told)

  pub unread_caused : (bytes : List ℕ) (e : Error) → Runs old new log log' wire c.exec (step.Done bytes) → FailsBy (NotInserted (length c.insert.documents.items) (fields bytes)) e → HearsCaused old new log log' wire c (heard.Failed e)
  unread_caused bytes e runs by calls told places since room at ds s =
      let piece : List Fields = c.insert.documents.items in
      let r = request_ran old new log log' wire c.exec (insert_command at piece) false (step.Done bytes) s.command_is s.once runs calls told places since room s.flies in
      (r.calls', r.told, r.room, command_fails piece s.part (unread_fails (past_of places since r.calls' wire) (insert_command at piece) false (ListsFor piece) bytes e by r.came (success_ran old new log log' wire c.exec bytes runs)), command_adds old (past_of places since calls wire) at ds (step.Done bytes) runs s calls r.calls' told r.told)

  pub inserted_caused : (bytes : List ℕ) → Runs old new log log' wire c.exec (step.Done bytes) → HearsCaused old new log log' wire c heard.Inserted
  inserted_caused bytes runs calls told places since room at ds s =
      let r = request_ran old new log log' wire c.exec (insert_command at c.insert.documents.items) false (step.Done bytes) s.command_is s.once runs calls told places since room s.flies in
      (r.calls', r.told, r.room, tt, command_adds old (past_of places since calls wire) at ds (step.Done bytes) runs s calls r.calls' told r.told)

-- ---- the commands of an insert, one after another

module _ (old mid : Awaited) (log log' : LogTold) (wire : ℤ) (i : Inserting) (b b' : Batches) (w : Option Command) (lead : LeadsCaused old mid log log' wire i b w) where
  pub led_finished : (n : ℕ) → InsertCaused old mid log log' wire i (step.Done n)
  led_finished n calls told places at ds h = let x = lead calls told places at ds h in (x.0, x.1, tt, x.4)

  pub led_stopped : (e : Error) → NextCaused b b' w (next.Stopped e) → InsertCaused old mid log log' wire i (step.Failed e)
  led_stopped e goes calls told places at ds h =
      let x = lead calls told places at ds h in
      (x.0, x.1, goes mid (past_of places (length calls) x.0 wire) at ds x.3, x.4)

  module _ (new : Awaited) (log'' : LogTold) (wire' : ℤ) (same : wire' ≡ wire) (c : Command) (goes : NextCaused b b' w (next.Send c)) where
    heard_at_wire : (h : Heard) → HearsCaused mid new log' log'' wire' c h → HearsCaused mid new log' log'' wire c h
    heard_at_wire h hears = subst (λ (v : ℤ). HearsCaused mid new log' log'' v c h) same hears

    pub led_pending : (c' : Command) → HearsCaused mid new log' log'' wire' c (heard.Pending c') → InsertCaused old new log log'' wire i (step.Pending (record { batches = b'; command = Some c' }))
    led_pending c' hears calls told places at ds h =
        let x = lead calls told places at ds h in
        let s = goes mid (past_of places (length calls) x.0 wire) at ds x.3 in
        let y = heard_at_wire (heard.Pending c') hears x.0 x.1 places (length calls) x.2 at ds s.flies in
        (y.0, y.1, record { at_is = s.at_is; sent_is = s.sent_is; flies = y.3 }, adds_on (IsInsertOf at ds) calls x.0 y.0 x.4 y.4)

    pub led_inserted : HearsCaused mid new log' log'' wire' c heard.Inserted → LeadsCaused old new log log'' wire i b' None
    led_inserted hears calls told places at ds h =
        let x = lead calls told places at ds h in
        let s = goes mid (past_of places (length calls) x.0 wire) at ds x.3 in
        let y = heard_at_wire heard.Inserted hears x.0 x.1 places (length calls) x.2 at ds s.flies in
        (y.0, y.1, y.2, record { at_is = s.at_is; sent_is = s.sent_is; flies = tt }, adds_on (IsInsertOf at ds) calls x.0 y.0 x.4 y.4)

    pub led_failed : (e : Error) → HearsCaused mid new log' log'' wire' c (heard.Failed e) → InsertCaused old new log log'' wire i (step.Failed e)
    led_failed e hears calls told places at ds h =
        let x = lead calls told places at ds h in
        let s = goes mid (past_of places (length calls) x.0 wire) at ds x.3 in
        let y = heard_at_wire (heard.Failed e) hears x.0 x.1 places (length calls) x.2 at ds s.flies in
        (y.0, y.1, y.3, adds_on (IsInsertOf at ds) calls x.0 y.0 x.4 y.4)

-- ---- while others have their turns

-- An insert that has sent nothing, whatever the log is.
pub inserts_begin : (awaited : Awaited) (past : Past) (at : Space) (ds : List Fields) (i : Inserting) → IsStarted at ds i → HasSent awaited past at ds i
inserts_begin awaited past at ds i s =
    record { at_is = s.unsent.at_is; sent_is = s.unsent.sent_is; flies = subst (InsertFlies awaited past at ds) (sym s.quiet) tt }

module _ (past past' : Past) (grows : Grows past past') (at : Space) (ds : List Fields) where
  pub insert_fails_grow : (e : Error) → InsertFails past at ds e → InsertFails past' at ds e
  insert_fails_grow e (no_memory room) = no_memory room
  insert_fails_grow e (command_fails piece part fails) = command_fails piece part (request_fails_grows past past' grows (insert_command at piece) false (ListsFor piece) e fails)
  insert_fails_grow e (cannot_encode d part by) = cannot_encode d part by
  insert_fails_grow e (cannot_insert piece part by) = cannot_insert piece part by

  module _ (awaited awaited' : Awaited) where
    insert_flies_grow : (w : Option Command) → ((n : ℕ) → held w ≡ Some n → awaited' n ≡ awaited n) → InsertFlies awaited past at ds w → InsertFlies awaited' past' at ds w
    insert_flies_grow None tickets f = tt
    insert_flies_grow (Some c) tickets f =
        record { part = f.part; command_is = f.command_is; once = f.once; flies = flies_grows past past' grows awaited awaited' (insert_command at c.insert.documents.items) c.exec.stage tickets f.flies }

    pub inserts_grow : (i : Inserting) → ((n : ℕ) → insert_ticket i ≡ Some n → awaited' n ≡ awaited n) → HasSent awaited past at ds i → HasSent awaited' past' at ds i
    inserts_grow i tickets h = record { at_is = h.at_is; sent_is = h.sent_is; flies = insert_flies_grow i.command tickets h.flies }

-- ---- a ticket that it holds

module _ (awaited : Awaited) (past : Past) (at : Space) (ds : List Fields) where
  command_own : (waiting : Option Command) (ticket : ℕ) → InsertFlies awaited past at ds waiting → held waiting ≡ Some ticket → HoldsOwn awaited past ticket
  command_own None ticket flies holds = absurd cc
  command_own (Some c) ticket flies holds = own_by awaited past (insert_command at c.insert.documents.items) c.exec.stage ticket flies.flies holds

  -- its call is the insert's own
  pub insert_own : (i : Inserting) (ticket : ℕ) → HasSent awaited past at ds i → insert_ticket i ≡ Some ticket → HoldsOwn awaited past ticket
  insert_own i ticket so holds = command_own i.command ticket so.flies holds

  command_waits : (waiting : Option Command) → InsertFlies awaited past at ds waiting → IsSome (held waiting) → InsertWaits awaited past at ds
  command_waits None flies holds = absurd cc
  command_waits (Some c) flies holds = record { piece = c.insert.documents.items; part = flies.part; waits = awaited_by awaited past (insert_command at c.insert.documents.items) c.exec.stage flies.flies holds }

  -- the insert waits for the reply to it
  pub insert_waits : (i : Inserting) → HasSent awaited past at ds i → IsSome (insert_ticket i) → InsertWaits awaited past at ds
  insert_waits i so holds = command_waits i.command so.flies holds
