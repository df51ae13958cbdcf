-- What the answers of a call that seeks an event are caused by: its parts, joined.
use Rattle.std.proofs.Common.{◌≡◌, ◌≢◌, ◌⊎◌, ◌≤◌, ◌<◌, ℕ, zero, suc, ℤ, pos, Bool, false, List, [], length, Option, Some, None, refl, sym, ap, ◌∙◌, subst, inl, inr, arith}
use Rattle.mg_bson.specs.Tree.{Fields}
use Rattle.mg_bson.specs.Raw.{fields}
use Rattle.mg_bson.specs.Reading.{doc}
use Rattle.mg_server.specs.Calls.{Keeps, Past, RequestFails, out_of_memory, was_broken, was_lost, was_refused}
use Rattle.mg_link.specs.Errors.{plain}
use Rattle.mg_link.specs.Exec.{FailsAs, FailsByReply}
use Rattle.mg_link.specs.Failures.{refusal_by}
use Rattle.mg_link.specs.Link.{Awaited, LogTold}
use Rattle.mg_link.specs.Log.{Call}
use Rattle.mg_link.specs.Reply.{refusal_of, verdict_of}
use Rattle.mg_link.specs.Session.{Session}
use Rattle.mg_link.specs.declared.error.BadArgument.TheVariants as argument
use Rattle.mg_link.specs.declared.error.Error.{Error}
use Rattle.mg_link.specs.declared.error.ErrorKind.{ErrorKind}
use Rattle.mg_link.specs.declared.error.ErrorKind.TheVariants as kind
use Rattle.mg_link.specs.declared.error.Malformed.TheVariants as malformed
use Rattle.mg_link.specs.declared.reply.Verdict.{Verdict}
use Rattle.mg_link.specs.declared.reply.Verdict.TheVariants as verdict
use Rattle.mg_server.proofs.Calls.{keeps_on, same_keeps}
use Rattle.mg_ops.specs.Cursors.{BreaksIn}
use Rattle.mg_ops.specs.Failing.{CannotBeSent, HasBadSize}
use Rattle.mg_cursor.specs.Batches.{BreaksBatch, bad_item, no_batch}
use Rattle.mg_cursor.specs.Causes.{TellsNoCursor}
use Rattle.mg_cursor.specs.Client.{get_more}
use Rattle.mg_change.specs.Causes.{ByCursor, ByDoing, CallCame, CallEmpty, CallFailed, CallFails, CallGave, IsSettled, SoFar, batch_broken, cannot_ask, cannot_resume, is_lone, may_lose, no_id, no_memory, not_resumed, refused_more}
use Rattle.mg_change.specs.ClientStreams.{ClientStream, IsExhausted, IsSound, is_read_again, lends_nothing, resuming_in}
use Rattle.mg_change.specs.SeekCauses.{CallPart, IsNotEmptyBatches, IsTooMany, PartCame, Row, SeekCame, SeekCaused, begins, one_more, part_past}
use Rattle.mg_change.specs.StreamCalls.{CopiesEvent, EndsSeeking, SeeksEvent, SeeksOn, closed, counted, event_ending, fails, finds, got, kept_behind, over, pends, session_behind, too_many, too_often, uncounted}
use Rattle.mg_change.specs.declared.counts.Counts.{Counts}
use Rattle.mg_change.specs.declared.event_poll.EventPoll.{EventPoll}
use Rattle.mg_change.specs.declared.event_poll.EventPoll.TheVariants as poll
use Rattle.mg_change.specs.declared.event_poll.Stepped.{Stepped}
use Rattle.mg_change.proofs.CallCauses.{copied_so, empty_uncounted, failed_uncounted, lets_go, steps_caused}
use Rattle.mg_change.proofs.Calls.{StepLeaves, steps_went}
use Rattle.mg_change.proofs.Causes.{StepCame}
use Rattle.mg_change.proofs.Keeping.{sound_any, sound_as}

-- ---- other failures

plainly : (k : ErrorKind) (e : Error) → e ≡ plain k → (k ≡ kind.EmptyBatches → ⊥) → IsNotEmptyBatches e
plainly k e is other empty = other (sym (ap (λ (x : Error). x.kind) is) ∙ empty)

refused_otherwise : (v : Verdict) (said : Fields) (wire : ℤ) (e : Error) → FailsAs v said wire e → IsNotEmptyBatches e
refused_otherwise verdict.Success said wire e h empty = absurd h
refused_otherwise verdict.Refusal said wire e (inl room) empty = plainly kind.OutOfMemory e room (λ x. absurd cc) empty
refused_otherwise verdict.Refusal said wire e (inr told) empty = absurd (let bad : None ≡ Some (refusal_of said) = sym (ap (λ (k : ErrorKind). refusal_by k e.labels) empty) ∙ told.refusal in cc)
refused_otherwise verdict.NoOk said wire e h empty = plainly (kind.InvalidResponse malformed.NoOk) e h (λ x. absurd cc) empty

replied_otherwise : (said : Option Fields) (wire : ℤ) (e : Error) → FailsByReply said wire e → IsNotEmptyBatches e
replied_otherwise None wire e h = plainly kind.BsonDeserialization e h (λ x. absurd cc)
replied_otherwise (Some said) wire e h = refused_otherwise (verdict_of said) said wire e h

unbuilt_otherwise : (size : Option ℕ) (command : Fields) (e : Error) → HasBadSize size e ⊎ CannotBeSent command e → IsNotEmptyBatches e
unbuilt_otherwise size command e (inl bad) = plainly (kind.InvalidArgument argument.BatchSize) e bad.0 (λ x. absurd cc)
unbuilt_otherwise size command e (inr bad) = plainly kind.BsonSerialization e bad.0 (λ x. absurd cc)

unread_otherwise : (said : Fields) (e : Error) → BreaksIn said e → IsNotEmptyBatches e
unread_otherwise said e by = plainly (kind.InvalidResponse by.how) e by.error (λ x. absurd cc)

broken_otherwise : (bytes : List ℕ) (e : Error) → BreaksBatch bytes e → IsNotEmptyBatches e
broken_otherwise bytes e (no_batch none how) = plainly (kind.InvalidResponse how.how) e how.error (λ x. absurd cc)
broken_otherwise bytes e (bad_item batch at none is) = plainly (kind.InvalidResponse malformed.BadItem) e is (λ x. absurd cc)

memory_otherwise : (e : Error) → e.kind ≡ kind.OutOfMemory → IsNotEmptyBatches e
memory_otherwise e room empty = let bad = sym room ∙ empty in absurd cc

request_otherwise : (past : Past) (command : Fields) (retries : Bool) (e : Error) → RequestFails past command retries TellsNoCursor e → IsNotEmptyBatches e
request_otherwise past command retries e (out_of_memory room) = memory_otherwise e room
request_otherwise past command retries e (was_lost io h) = plainly kind.Io e io (λ x. absurd cc)
request_otherwise past command retries e (was_refused bytes h by) = replied_otherwise (doc bytes) past.wire e by
request_otherwise past command retries e (was_broken bytes h success by) = unread_otherwise (fields bytes) e by

fails_otherwise : (past : Past) (session : Option Session) (at after : ClientStream) (e : Error) → CallFails past session at after e → IsNotEmptyBatches e
fails_otherwise past session at after e (may_lose room owes may) = memory_otherwise e room
fails_otherwise past session at after e (no_memory room stays) = memory_otherwise e room
fails_otherwise past session at after e (not_resumed owes why h) = request_otherwise past (resuming_in at.aggregate past.wire h.session) (is_read_again h.session) e h.fails
fails_otherwise past session at after e (batch_broken bytes owes replied by) = broken_otherwise bytes e by
fails_otherwise past session at after e (cannot_resume owes why now by) = unbuilt_otherwise at.aggregate.args.options.batch_size (resuming_in at.aggregate past.wire now) e by.1
fails_otherwise past session at after e (refused_more may h final cursor behind settled) = request_otherwise past (get_more at.cursor h.session) false e h.fails
fails_otherwise past session at after e (cannot_ask may by cursor behind settled) = unbuilt_otherwise at.cursor.manner.size (get_more at.cursor session) e by
fails_otherwise past session at after e (no_id event next lacks is settled) = plainly kind.MissingResumeToken e is (λ x. absurd cc)

-- ---- a row

pub row_keeps : (calls calls' : List Call) (wire : ℤ) (lone : Bool) (start p : CallPart) → Keeps calls calls' → Row calls wire lone start p → Row calls' wire lone start p
row_keeps calls calls' wire lone start p keeps begins = begins
row_keeps calls calls' wire lone start p keeps (one_more q then after again row room kept empty open_still few) =
    one_more q then after again (row_keeps calls calls' wire lone start q keeps row) room (keeps_on then calls calls' kept keeps) empty open_still few

-- where a call has come to between two parts: a row, and a part that has begun
pub record RowSought (awaited : Awaited) (calls : List Call) (wire : ℤ) (lone : Bool) (start : CallPart) (s : ClientStream) : Type 0 where
  pub part : CallPart
  pub room : part.since ≤ length calls
  pub counts : s.counts ≡ part.counts
  pub row : Row calls wire lone start part
  pub so_far : SoFar awaited (part_past part calls wire) lone part.at s

-- behind an empty reply the next part begins
module _ (awaited : Awaited) (past : Past) (lone : Bool) (left : ClientStream) (d : Counts) (settled : IsSettled left) where
  begins_behind : SoFar awaited past lone left (record left { counts = d })
  begins_behind = record {
    same = refl;
    by = subst (ByDoing awaited past lone left (record left { counts = d })) (sym settled.follows_on)
        (subst (ByCursor awaited past left (record left { counts = d })) (sym settled.looked) (record { follows_on = settled.follows_on; cursor = refl; events = refl }));
  }

-- ---- the last part

module _ (awaited : Awaited) (past : Past) (session : Option Session) (mid left : ClientStream) (again : Bool) (c : Counts) (counts_are : left.counts ≡ c) where
  failed_part : (s' : ClientStream) (e : Error) → CallFailed past session mid s' e → PartCame awaited past session mid c s' (poll.Failed e)
  failed_part s' e h = inl ((session, (λ none. none), h), fails_otherwise past session mid s' e h.why)

  none_part : (b : Bool) (s' : ClientStream) → s' ≡ uncounted left → CallEmpty past (is_lone session) mid left b → left.cursor.id ≡ pos 0 → PartCame awaited past session mid c s' (poll.Ready None)
  none_part b s' is empty none = subst (λ (x : ClientStream). PartCame awaited past session mid c x (poll.Ready None)) (sym is) (b, empty_uncounted past session mid left b empty, none)

  many_part : (s' : ClientStream) → s' ≡ uncounted left → CallEmpty past (is_lone session) mid left again → left.cursor.id ≢ pos 0 → too_many ≤ got again left.counts → PartCame awaited past session mid c s' (poll.Failed (plain kind.EmptyBatches))
  many_part s' is empty held many =
      subst (λ (x : ClientStream). PartCame awaited past session mid c x (poll.Failed (plain kind.EmptyBatches))) (sym is)
      (inr (record { error = refl; again = again; empty = empty_uncounted past session mid left again empty; open_still = held; many = subst (λ (x : Counts). too_many ≤ got again x) counts_are many }))

  -- an event was copied, or not
  came_part : (s' : ClientStream) (r : EventPoll) → r ≢ poll.Pending → r ≢ poll.Ready None → CallCame awaited past session mid s' r → PartCame awaited past session mid c s' r
  came_part s' poll.Pending not_pending not_none h = absurd (not_pending refl)
  came_part s' (poll.Ready None) not_pending not_none h = absurd (not_none refl)
  came_part s' (poll.Ready (Some event)) not_pending not_none h = h
  came_part s' (poll.Failed e) not_pending not_none h = failed_part s' e h

  copies_some : (copied : ClientStream) (r : EventPoll) → CopiesEvent left copied r → (r ≢ poll.Pending) × (r ≢ poll.Ready None)
  copies_some copied poll.Pending h = absurd h
  copies_some copied (poll.Ready None) h = absurd h
  copies_some copied (poll.Ready (Some event)) h = (λ bad. cc, λ bad. cc)
  copies_some copied (poll.Failed e) h = (λ bad. cc, λ bad. cc)

  -- the stream behind an answer that ends the call
  kept_as : (ended s' : ClientStream) (r q : EventPoll) → r ≡ q → ended ≡ left → s' ≡ kept_behind (event_ending r) ended → s' ≡ kept_behind (event_ending q) left
  kept_as ended s' r q is same kept = subst (λ (x : EventPoll). s' ≡ kept_behind (event_ending x) ended) is kept ∙ ap (kept_behind (event_ending q)) same

  ended_part : (came : Stepped) (ended s' : ClientStream) (r : EventPoll) → StepCame awaited past session mid again left came → StepLeaves came left → EndsSeeking again came left ended r → s' ≡ kept_behind (event_ending r) ended → PartCame awaited past session mid c s' r
  ended_part came ended s' r h leaves (finds is copies) kept =
      let found = subst (StepCame awaited past session mid again left) is h in
      let some = copies_some ended r copies in
      came_part s' r some.0 some.1 (copied_so past session mid left found ended s' r awaited copies kept)
  ended_part came ended s' r h leaves (pends is same answer) kept =
      let so = subst (StepCame awaited past session mid again left) is h in
      let here : s' ≡ left = kept_as ended s' r poll.Pending answer same kept in
      subst (PartCame awaited past session mid c s') (sym answer) (subst (λ (x : ClientStream). PartCame awaited past session mid c x poll.Pending) (sym here) (so, counts_are))
  ended_part came ended s' r h leaves (over is same answer) kept =
      let so = subst (StepCame awaited past session mid again left) is h in
      let none : IsExhausted left = subst (λ (x : Stepped). StepLeaves x left) is leaves in
      subst (PartCame awaited past session mid c s') (sym answer) (none_part false s' (kept_as ended s' r (poll.Ready None) answer same kept) so.0 none.over)
  ended_part came ended s' r h leaves (closed is none same answer) kept =
      let so = subst (StepCame awaited past session mid again left) is h in
      subst (PartCame awaited past session mid c s') (sym answer) (none_part again s' (kept_as ended s' r (poll.Ready None) answer same kept) so none)
  ended_part came ended s' r h leaves (too_often is held many same answer) kept =
      let so = subst (StepCame awaited past session mid again left) is h in
      subst (PartCame awaited past session mid c s') (sym answer) (many_part s' (kept_as ended s' r (poll.Failed (plain kind.EmptyBatches)) answer same kept) so held many)
  ended_part came ended s' r h leaves (fails e is same answer) kept =
      let so = subst (StepCame awaited past session mid again left) is h in
      subst (PartCame awaited past session mid c s') (sym answer)
      (failed_part s' e (subst (λ (x : ClientStream). CallFailed past session mid x e) (sym (kept_as ended s' r (poll.Failed e) answer same kept)) (failed_uncounted past session mid left e so)))

-- so it comes to in a call whose session was told of commands since it began
part_of : (awaited : Awaited) (past : Past) (first session : Option Session) → (first ≡ None → session ≡ None) → is_lone session ≡ is_lone first → (mid s' : ClientStream) (c : Counts) (r : EventPoll) → PartCame awaited past session mid c s' r → PartCame awaited past first mid c s' r
part_of awaited past first session none_then same mid s' c poll.Pending h = (subst (λ (b : Bool). SoFar awaited past b mid s') same h.0, h.1)
part_of awaited past first session none_then same mid s' c (poll.Ready None) h = (h.0, subst (λ (b : Bool). CallEmpty past b mid s' h.0) same h.1, h.2)
part_of awaited past first session none_then same mid s' c (poll.Ready (Some event)) h = subst (λ (b : Bool). CallGave past b mid s' event) same h
part_of awaited past first session none_then same mid s' c (poll.Failed e) (inl h) = inl ((h.0.0, (λ none. h.0.1 (none_then none)), h.0.2), h.1)
part_of awaited past first session none_then same mid s' c (poll.Failed e) (inr h) = inr (subst (λ (b : Bool). IsTooMany past b mid s' c e) same h)

-- whether it names none stays
pub lone_behind : (n : ℕ) (session : Option Session) → is_lone (session_behind n session) ≡ is_lone session
lone_behind n None = refl
lone_behind n (Some named) = refl

-- ---- a part with an empty reply

-- where a call has come to behind it
pub record PartGoes (mid : Awaited) (calls : List Call) (log_mid : LogTold) (wire : ℤ) (lone : Bool) (start : CallPart) (t : ClientStream) : Type 0 where
  pub calls' : List Call
  pub told : log_mid ≡ Some calls'
  pub keeps : Keeps calls calls'
  pub so : RowSought mid calls' wire lone start t

module _ (old mid : Awaited) (log log_mid : LogTold) (wire : ℤ) (session : Option Session) (starts : ℕ) where
  pub part_sound : (s t : ClientStream) → IsSound false s → SeeksOn old mid log log_mid wire session starts s t → IsSound false t
  part_sound s t sound on =
      let went = steps_went on.steps false old mid log log_mid wire session starts on.again s on.left on.came sound tt on.does in
      sound_as false on.left t (ap (λ (y : ClientStream). y.aggregate) on.goes.counts) (ap (λ (y : ClientStream). y.cursor) on.goes.counts) (ap (λ (y : ClientStream). y.behind) on.goes.counts) (ap (λ (y : ClientStream). y.doing) on.goes.counts) went.sound

  pub part_goes : (lone : Bool) (s t : ClientStream) → IsSound false s → is_lone session ≡ lone → SeeksOn old mid log log_mid wire session starts s t → (start : CallPart) (calls : List Call) → log ≡ Some calls → RowSought old calls wire lone start s → PartGoes mid calls log_mid wire lone start t
  part_goes lone s t sound same on start calls told so =
      let p = so.part in
      let so_far = subst (λ (b : Bool). SoFar old (part_past p calls wire) b p.at s) (sym same) so.so_far in
      let went = steps_went on.steps false old mid log log_mid wire session starts on.again s on.left on.came sound tt on.does in
      let x = steps_caused on.steps old mid log log_mid wire session session starts on.again p.at s on.left on.came sound (λ on_so. refl) (λ none. none) on.does p.places p.since calls told so.room so_far in
      let past : Past = part_past p x.calls' wire in
      let empty : CallEmpty past (is_lone session) p.at on.left on.again = subst (StepCame mid past session p.at on.again on.left) on.goes.empty x.came in
      let empty_so : CallEmpty past lone p.at on.left on.again = subst (λ (b : Bool). CallEmpty past b p.at on.left on.again) same empty in
      let counts : on.left.counts ≡ p.counts = went.kept.counts ∙ so.counts in
      let next : CallPart = record { at = on.left; counts = counted on.again p.counts; places = []; since = length x.calls' } in
      let row : Row x.calls' wire lone start next = one_more p x.calls' on.left on.again (row_keeps calls x.calls' wire lone start p x.keeps so.row) x.room (same_keeps x.calls') empty_so on.goes.open_still (subst (λ (c : Counts). got on.again c < too_many) counts on.goes.few) in
      let going : RowSought mid x.calls' wire lone start t = record {
        part = next;
        room = omega arith;
        counts = ap (λ (y : ClientStream). y.counts) on.goes.counts ∙ ap (counted on.again) counts;
        row = row;
        so_far = subst (SoFar mid (part_past next x.calls' wire) lone on.left) (sym on.goes.counts) (begins_behind mid (part_past next x.calls' wire) lone on.left (counted on.again on.left.counts) empty.settled);
      } in
      record { calls' = x.calls'; told = x.told; keeps = x.keeps; so = going }

-- ---- all parts

-- what the parts of a call come to behind such a row
pub record PartsCame (new : Awaited) (calls : List Call) (log' : LogTold) (wire : ℤ) (first : Option Session) (start : CallPart) (s' : ClientStream) (r : EventPoll) : Type 0 where
  pub calls' : List Call
  pub told : log' ≡ Some calls'
  pub keeps : Keeps calls calls'
  pub came : SeekCame new calls' wire first start s' r

pub parts_caused : (n : ℕ) (old new : Awaited) (log log' : LogTold) (wire : ℤ) (first session : Option Session) (starts : ℕ) (s s' : ClientStream) (r : EventPoll) → IsSound false s → (first ≡ None → session ≡ None) → is_lone session ≡ is_lone first → SeeksEvent n old new log log' wire session starts s s' r
    → (start : CallPart) (calls : List Call) → log ≡ Some calls → RowSought old calls wire (is_lone first) start s → PartsCame new calls log' wire first start s' r
unfolding SeeksEvent
parts_caused zero old new log log' wire first session starts s s' r sound none_then same h start calls told so =
    let p = so.part in
    let so_far = subst (λ (b : Bool). SoFar old (part_past p calls wire) b p.at s) (sym same) so.so_far in
    let went = steps_went h.steps false old new log log' wire session starts h.again s h.left h.came sound tt h.does in
    let x = steps_caused h.steps old new log log' wire session session starts h.again p.at s h.left h.came sound (λ on. refl) (λ none. none) h.does p.places p.since calls told so.room so_far in
    record {
      calls' = x.calls';
      told = x.told;
      keeps = x.keeps;
      came = record {
        part = p;
        room = x.room;
        row = row_keeps calls x.calls' wire (is_lone first) start p x.keeps so.row;
        came = part_of new (part_past p x.calls' wire) first session none_then same p.at s' p.counts r
            (ended_part new (part_past p x.calls' wire) session p.at h.left h.again p.counts (went.kept.counts ∙ so.counts) h.came h.ended s' r x.came went.leaves h.ends h.kept);
      };
    }
parts_caused (suc n) old new log log' wire first session starts s s' r sound none_then same h start calls told so =
    let mid = h.0 in
    let log_mid = h.1 in
    let t = h.4 in
    let goes = part_goes old mid log log_mid wire session h.2 (is_lone first) s t sound same h.5 start calls told so in
    let rest = parts_caused n mid new log_mid log' wire first (session_behind h.2 session) h.3 t s' r (part_sound old mid log log_mid wire session h.2 s t sound h.5) (λ none. ap (session_behind h.2) (none_then none)) (lone_behind h.2 session ∙ same) h.7 start goes.calls' goes.told goes.so in
    record { calls' = rest.calls'; told = rest.told; keeps = keeps_on calls goes.calls' rest.calls' goes.keeps rest.keeps; came = rest.came }

pub seeks_caused : (n : ℕ) (b : Bool) (old new : Awaited) (log log' : LogTold) (wire : ℤ) (session : Option Session) (starts : ℕ) (s s' : ClientStream) (r : EventPoll) → IsSound b (lends_nothing s) → SeeksEvent n old new log log' wire session starts (lends_nothing s) s' r → SeekCaused old new log log' wire session s s' r
seeks_caused n b old new log log' wire session starts s s' r sound does = λ calls told places at so.
    let start : CallPart = record { at = at; counts = s.counts; places = places; since = length calls } in
    let x = parts_caused n old new log log' wire session session starts (lends_nothing s) s' r (sound_any b (lends_nothing s) sound) (λ none. none) refl does start calls told
    (record { part = start; room = omega arith; counts = refl; row = begins; so_far = lets_go old (part_past start calls wire) (is_lone session) at s so }) in
    (x.calls', x.told, x.keeps, x.came)
