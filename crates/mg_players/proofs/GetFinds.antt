-- The finds that a get's opening sent, each once more only behind one that was lost, or refused so: in a later log, and at which places.
use Rattle.std.proofs.Common.{◌≡◌, ℕ, true, List, [], Option, Some, None, refl, sym, subst, inl, inr, arith, append-nil}
use Rattle.mg_server.specs.Calls.{Keeps}
use Rattle.mg_link.specs.Link.{Awaited}
use Rattle.mg_link.specs.Log.{Call}
use Rattle.mg_change.specs.Calling.{nowhere}
use Rattle.mg_change.proofs.Calling.{far_later, far_request, request_later}
use Rattle.mg_records.specs.FileRecords.{FileRecord}
use Rattle.mg_gridfs.specs.Findings as findings
use Rattle.mg_gridfs.specs.Findings.{Looking, ticket_by}
use Rattle.mg_players.specs.Causes.{FallsAt, FindsAt, ListsAt}
use Rattle.mg_players.specs.Gets.{GetTask, IsFindAt, chunks_find, record_find}
use Rattle.mg_players.specs.Telling.{FindsFar, found_in}
use Rattle.mg_players.proofs.CallPlaces.{falls_both, request_falls}
use Rattle.mg_players.proofs.Commands.{falls_none}

-- ---- by a later log

module _ (calls calls' : List Call) (keeps : Keeps calls calls') (g : GetTask) where
  lists_later : (found : Option FileRecord) (listing : List ℕ) → ListsAt calls g found listing → ListsAt calls' g found listing
  lists_later None listing l = l
  lists_later (Some f) listing (inl none) = inl none
  lists_later (Some f) listing (inr some) = inr (some.0, request_later calls calls' keeps (chunks_find g f.id) true listing some.1)

  pub finds_later : (found : Option FileRecord) (places : List ℕ) → FindsAt calls g found places → FindsAt calls' g found places
  finds_later found places f = record { finding = f.finding; listing = f.listing; whole = f.whole; record_at = request_later calls calls' keeps (record_find g) true f.finding f.record_at; list_at = lists_later found f.listing f.list_at }

  pub finds_far_later : (old new : Awaited) (places : List ℕ) (doing : Looking) → ((n : ℕ) → ticket_by doing ≡ Some n → new n ≡ old n) → FindsFar old calls g places doing → FindsFar new calls' g places doing
  finds_far_later old new places findings.starts same far = far
  finds_far_later old new places (findings.finds sending) same far = far_later calls calls' keeps old new (record_find g) true sending.stage places same far
  finds_far_later old new places (findings.lists file count sending) same far =
      (far.0, far.1, far.2, request_later calls calls' keeps (record_find g) true far.0 far.3, far.4, far_later calls calls' keeps old new (chunks_find g file.id) true sending.stage far.1 same far.5)

-- ---- all of them

-- what an opening sent that goes on
pub far_finds : (awaited : Awaited) (calls : List Call) (g : GetTask) (places : List ℕ) (doing : Looking) → FindsFar awaited calls g places doing → FindsAt calls g (found_in doing) places
far_finds awaited calls g places findings.starts far = record { finding = []; listing = []; whole = far; record_at = nowhere refl; list_at = refl }
far_finds awaited calls g places (findings.finds sending) far = record { finding = places; listing = []; whole = sym (append-nil places); record_at = far_request awaited calls (record_find g) true sending.stage places far; list_at = refl }
far_finds awaited calls g places (findings.lists file count sending) far =
    record { finding = far.0; listing = far.1; whole = far.2; record_at = far.3; list_at = inr (far.4, far_request awaited calls (chunks_find g file.id) true sending.stage far.1 far.5) }

list_falls : (calls : List Call) (g : GetTask) (found : Option FileRecord) (listing : List ℕ) → ListsAt calls g found listing → FallsAt (IsFindAt g found) calls 3 listing 1
list_falls calls g None listing none = subst (λ (l : List ℕ). FallsAt (IsFindAt g None) calls 3 l 1) (sym none) (falls_none (IsFindAt g None) calls 3 1 (omega arith))
list_falls calls g (Some f) listing (inl none) = subst (λ (l : List ℕ). FallsAt (IsFindAt g (Some f)) calls 3 l 1) (sym none) (falls_none (IsFindAt g (Some f)) calls 3 1 (omega arith))
list_falls calls g (Some f) listing (inr some) = request_falls (IsFindAt g (Some f)) calls (chunks_find g f.id) true listing 2 1 (omega arith) (λ so. omega arith) (some.0, refl) (some.0, refl) some.1

-- they stand at places that fall
pub finds_fall : (calls : List Call) (g : GetTask) (found : Option FileRecord) (places : List ℕ) → FindsAt calls g found places → FallsAt (IsFindAt g found) calls 5 places 1
finds_fall calls g found places f =
    subst (λ (l : List ℕ). FallsAt (IsFindAt g found) calls 5 l 1) (sym f.whole)
    (falls_both (IsFindAt g found) calls 5 f.finding 3 f.listing 1 (request_falls (IsFindAt g found) calls (record_find g) true f.finding 4 3 (omega arith) (λ so. omega arith) refl refl f.record_at) (list_falls calls g found f.listing f.list_at))
