-- What the commands of an insert appended.
use Rattle.std.proofs.Common.{◌≡◌, ℕ, ℤ, zero, suc, ◌+◌, ◌<◌, ◌≤◌, true, List, [], ◌∷◌, ◌++◌, length, Option, Some, refl, sym, ap, ◌∙◌, subst, inl, inr, take, arith, append_assoc, get_or}
use Rattle.std.specs.Prelude.{slice_get}
use Rattle.std.specs.Option.{option_flatten}
use Rattle.mg_bson.specs.Tree.{Fields}
use Rattle.mg_bson.specs.declared.object_id.ObjectId.{ObjectId}
use Rattle.mg_server.specs.Calls.{Grows, IsOwn, Keeps, Past, past_of}
use Rattle.mg_server.specs.Commands.{asked, asks_insert, inserted, told}
use Rattle.mg_link.specs.Exec.{Stage, unsent, first, second, Sending, Attempt, not_sent, waits, answered, Begins, GoesOn, Tries, AttemptGives, Runs, IsSuccess, holding, ticket_at, ticket_of}
use Rattle.mg_link.specs.Link.{Awaited, LogTold}
use Rattle.mg_link.specs.Log.{Sight, waiting, reply, Call, see}
use Rattle.mg_link.specs.Namespace.{Space}
use Rattle.mg_link.specs.declared.action.Step.{Step}
use Rattle.mg_link.specs.declared.action.Step.TheVariants as step
use Rattle.mg_server.proofs.Calls.{log_grows, keeps_longer, see_keeps}
use Rattle.mg_link.proofs.Places.{get_front, get_seam, get_within, take_more}
use Rattle.mg_ops.specs.Appended.{InsertsAt, Piece, ArePieces, InsertedBelow, Appended}
use Rattle.mg_ops.specs.Underway.{with_id, IsBatch, IsSameList, sent_of, WaitsBehind, Holding}
use Rattle.mg_ops.specs.declared.inserting.Batches.{Batches}

-- ---- a log that grew

inserts_kept : (calls calls' : List Call) (k : ℕ) (space : Space) (ds : List Fields) → Keeps calls calls' → InsertsAt calls k space ds → InsertsAt calls' k space ds
inserts_kept calls calls' k space ds keeps i =
    let kept = keeps k i.call i.found in
    let stays : kept.0 ≡ i.call = kept.3 (λ e. let bad : waiting ≡ reply i.bytes = sym e ∙ i.saw in cc) in
    record { call = kept.0; bytes = i.bytes; count = i.count; found = kept.1; asks = ap asked kept.2 ∙ i.asks; saw = ap (λ (c : Call). c.seen) stays ∙ i.saw; tells = i.tells }

pieces_grown : (past past' : Past) (k : ℕ) (space : Space) (sent : List Fields) (ps : List Piece) → Grows past past' → ArePieces past k space sent ps → ArePieces past' k space sent ps
pieces_grown past past' k space sent [] grows are = are
pieces_grown past past' k space sent (p ∷ ps) grows are =
    (are.0, grows.own p.at are.2.call are.2.found are.1, inserts_kept past.calls past'.calls p.at space p.documents grows.keeps are.2, (are.3.0, are.3.1, pieces_grown past past' p.at space are.3.0 ps grows are.3.2))

pieces_below : (past : Past) (k k' : ℕ) (space : Space) (sent : List Fields) (ps : List Piece) → k ≤ k' → ArePieces past k space sent ps → ArePieces past k' space sent ps
pieces_below past k k' space sent [] le are = are
pieces_below past k k' space sent (p ∷ ps) le are = let lt = are.0 in (omega arith, are.1, are.2, are.3)

-- what was inserted below a place was so below any later one
below_up : (past : Past) (k k' : ℕ) (space : Space) (sent : List Fields) → k ≤ k' → InsertedBelow past k space sent → InsertedBelow past k' space sent
below_up past k k' space sent le i = record { pieces = i.pieces; are = pieces_below past k k' space sent i.pieces le i.are }

-- what was inserted stays so
pub below_on : (past past' : Past) (k k' : ℕ) (space : Space) (sent : List Fields) → Grows past past' → k ≤ k' → InsertedBelow past k space sent → InsertedBelow past' k' space sent
below_on past past' k k' space sent grows le i = below_up past' k k' space sent le (record { pieces = i.pieces; are = pieces_grown past past' k space sent i.pieces grows i.are })

-- all that was inserted is so in the later log
pub below_grown : (past past' : Past) (space : Space) (sent : List Fields) → Grows past past' → InsertedBelow past (length past.calls) space sent → InsertedBelow past' (length past'.calls) space sent
below_grown past past' space sent grows i = below_on past past' (length past.calls) (length past'.calls) space sent grows (keeps_longer past.calls past'.calls grows.keeps) i

pub below_none : (past : Past) (k : ℕ) (space : Space) (sent : List Fields) → sent ≡ [] → InsertedBelow past k space sent
below_none past k space sent none = record { pieces = []; are = none }

-- one piece more
below_more : (past : Past) (k k' : ℕ) (space : Space) (before piece : List Fields) → k < k' → IsOwn past k → InsertedBelow past k space before → InsertsAt past.calls k space piece → InsertedBelow past k' space (before ++ piece)
below_more past k k' space before piece lt own done i = record { pieces = record { at = k; documents = piece } ∷ done.pieces; are = (lt, own, i, (before, refl, done.are)) }

-- What was appended stays so when the log grows.
pub appended_grown : (past past' : Past) (space : Space) (ds : List Fields) (n : ℕ) → Grows past past' → Appended past space ds n → Appended past' space ds n
appended_grown past past' space ds n grows a = record { count = a.count; stands = below_grown past past' space ds grows a.stands }

-- ---- what is sent

pub sent_length : (os : List (Option ObjectId)) (ds : List Fields) → length (sent_of os ds) ≡ length ds
sent_length os [] = refl
sent_length [] (d ∷ ds) = ap suc (sent_length [] ds)
sent_length (o ∷ os) (d ∷ ds) = ap suc (sent_length os ds)

-- batches of the same list send the same
pub same_sent : (b b' : Batches) → IsSameList b b' → sent_of b'.drawn.items b'.documents.now ≡ sent_of b.drawn.items b.documents.now
same_sent b b' same = ap (λ v. sent_of v.items b'.documents.now) same.2 ∙ ap (λ d. sent_of b.drawn.items d.now) same.1

pub sent_at : (os : List (Option ObjectId)) (ds : List Fields) (i : ℕ) (d : Fields) → slice_get ds i ≡ Some d → slice_get (sent_of os ds) i ≡ Some (with_id (option_flatten (slice_get os i)) d)
sent_at os [] i d h = absurd cc
sent_at [] (e ∷ ds) zero d h = h
sent_at [] (e ∷ ds) (suc i) d h = sent_at [] ds i d h
sent_at (o ∷ os) (e ∷ ds) zero d h = let same : e ≡ d = cc in ap (λ (x : Fields). Some (with_id o x)) same
sent_at (o ∷ os) (e ∷ ds) (suc i) d h = sent_at os ds i d h

pub take_whole : {A : Type 0} (xs : List A) (k : ℕ) → length xs ≤ k → take k xs ≡ xs
take_whole [] zero le = refl
take_whole [] (suc k) le = refl
take_whole (x ∷ xs) zero le = absurd (omega arith)
take_whole (x ∷ xs) (suc k) le = ap (λ l. x ∷ l) (take_whole xs k (omega arith))

one_more : (k : ℕ) → suc k ≡ k + 1
one_more k = omega arith

pub at_of : {A : Type 0} (xs : List A) (i : ℕ) (x : A) → i < length xs → x ≡ get_or xs i x → slice_get xs i ≡ Some x
at_of [] i x lt is = absurd (omega arith)
at_of (y ∷ ys) zero x lt is = ap (λ z. Some z) (sym is)
at_of (y ∷ ys) (suc i) x lt is = at_of ys i x (omega arith) is

-- one document more in a command
pub batch_more : (drawn : List (Option ObjectId)) (ds : List Fields) (from : ℕ) (batch : List Fields) (i : ℕ) (d e : Fields) (o : Option ObjectId) → slice_get ds i ≡ Some d → o ≡ option_flatten (slice_get drawn i) → e ≡ with_id o d → IsBatch drawn ds from batch i → IsBatch drawn ds from (batch ++ e ∷ []) (i + 1)
batch_more drawn ds from batch i d e o at is_id is b =
    let all : List Fields = sent_of drawn ds in
    let here : slice_get all i ≡ Some e = sent_at drawn ds i d at ∙ ap (λ (x : Option ObjectId). Some (with_id x d)) (sym is_id) ∙ ap (λ (x : Fields). Some x) (sym is) in
    ap (λ (n : ℕ). take n all) (sym (one_more i)) ∙ take_more all i e here ∙ ap (λ (l : List Fields). l ++ e ∷ []) b ∙ append_assoc (take from all) batch (e ∷ [])

-- ---- a command that goes on

see_here : (k : ℕ) (seen : Sight) (calls : List Call) (call : Call) → slice_get calls k ≡ Some call → slice_get (see k seen calls) k ≡ Some (record call { seen = seen })
see_here k seen [] call h = absurd cc
see_here zero seen (c ∷ calls) call h = let same : c ≡ call = cc in ap (λ (x : Call). Some (record x { seen = seen })) same
see_here (suc k) seen (c ∷ calls) call h = see_here k seen calls call h

push_keeps : (calls : List Call) (call : Call) → Keeps calls (calls ++ call ∷ [])
push_keeps calls call place c there = (c, get_front calls (call ∷ []) place c there, refl, λ saw. refl)

module _ (space : Space) (before piece : List Fields) where
  -- what was inserted before is so still, and so is this piece where a reply that was seen tells of no failure
  record Told_of (past : Past) (seen : Sight) : Type 0 where
    base : InsertedBelow past (length past.calls) space before
    more : (bytes : List ℕ) (count : ℤ) → seen ≡ reply bytes → told (asks_insert space piece true) bytes ≡ inserted count [] → InsertedBelow past (length past.calls) space (before ++ piece)

  abbrev Tried : Awaited → Past → Attempt → Type 0
  Tried awaited past not_sent = InsertedBelow past (length past.calls) space before
  Tried awaited past (waits ticket) = WaitsBehind awaited past space before piece ticket
  Tried awaited past (answered seen) = Told_of past seen

  flies_base : (awaited : Awaited) (past : Past) (ticket : ℕ) → WaitsBehind awaited past space before piece ticket → InsertedBelow past (length past.calls) space before
  flies_base awaited past ticket f = let within = get_within past.calls f.place f.call f.found in below_up past f.place (length past.calls) space before (omega arith) f.done

  base_of : (awaited : Awaited) (past : Past) (attempt : Attempt) → Tried awaited past attempt → InsertedBelow past (length past.calls) space before
  base_of awaited past not_sent t = t
  base_of awaited past (waits ticket) t = flies_base awaited past ticket t
  base_of awaited past (answered seen) t = t.base

  heard_at : (past : Past) (k : ℕ) (call : Call) (seen : Sight) → IsOwn past k → slice_get past.calls k ≡ Some call → call.seen ≡ seen → asked call.command ≡ asks_insert space piece true → InsertedBelow past k space before → Told_of past seen
  heard_at past k call seen own found saw asks done =
      let within = get_within past.calls k call found in
      record {
        base = below_up past k (length past.calls) space before (omega arith) done;
        more = λ bytes count is tells. below_more past k (length past.calls) space before piece within own done (record { call = call; bytes = bytes; count = count; found = found; asks = asks; saw = saw ∙ is; tells = tells });
      }

  -- what a poll of the command leads to
  abbrev pub Ran : Awaited → Past → Step Sending (List ℕ) → Type 0
  Ran awaited past (step.Pending s) = Holding awaited past space before piece (ticket_of s)
  Ran awaited past (step.Done bytes) = IsSuccess bytes × ((count : ℤ) → told (asks_insert space piece true) bytes ≡ inserted count [] → InsertedBelow past (length past.calls) space (before ++ piece))
  Ran awaited past (step.Failed e) = Unit {0}

  flies_held : (awaited : Awaited) (past : Past) (attempt : Attempt) (ticket : ℕ) (held : Option ℕ) → attempt ≡ waits ticket → held ≡ Some ticket → Tried awaited past attempt → Holding awaited past space before piece held
  flies_held awaited past attempt ticket held is is_held t = subst (Holding awaited past space before piece) (sym is_held) (subst (Tried awaited past) is t)

  done_told : (awaited : Awaited) (past : Past) (attempt : Attempt) (bytes : List ℕ) → attempt ≡ answered (reply bytes) → Tried awaited past attempt → (count : ℤ) → told (asks_insert space piece true) bytes ≡ inserted count [] → InsertedBelow past (length past.calls) space (before ++ piece)
  done_told awaited past attempt bytes is t count tells = let h = subst (Tried awaited past) is t in h.more bytes count refl tells

  held_at : (stage : Stage) (ticket : ℕ) → ticket_at (holding stage ticket) ≡ Some ticket
  held_at unsent ticket = refl
  held_at (first old) ticket = refl
  held_at (second old) ticket = refl

  -- what it leads to in the log of an insert that sent at these places
  module _ (places : List ℕ) (since : ℕ) (wire : ℤ) where
    abbrev Leads : Awaited → LogTold → Attempt → Type 0
    Leads awaited log attempt = (calls : List Call) × (log ≡ Some calls) × (since ≤ length calls) × Tried awaited (past_of places since calls wire) attempt

    abbrev pub LeadsTo : Awaited → LogTold → Step Sending (List ℕ) → Type 0
    LeadsTo awaited log result = (calls : List Call) × (log ≡ Some calls) × (since ≤ length calls) × Ran awaited (past_of places since calls wire) result

    -- so much was inserted when the log had these calls, and it is when it has more or one has seen its answer
    base_on : (calls calls' : List Call) (k : ℕ) → Keeps calls calls' → InsertedBelow (past_of places since calls wire) k space before → InsertedBelow (past_of places since calls' wire) k space before
    base_on calls calls' k keeps done = below_on (past_of places since calls wire) (past_of places since calls' wire) k k space before (log_grows places since calls calls' wire keeps) (omega arith) done

    module _ (command : List ℕ) (asks : asked command ≡ asks_insert space piece true) where
      begins_sent : (old new : Awaited) (log log' : LogTold) (calls : List Call) (attempt : Attempt) → log ≡ Some calls → since ≤ length calls → InsertedBelow (past_of places since calls wire) (length calls) space before → Begins old new log log' command attempt → Leads new log' attempt
      begins_sent old new log log' calls not_sent told room done b = (calls, b.log_same ∙ told, room, done)
      begins_sent old new log log' calls (waits ticket) told room done b =
          let add = b.adds calls told in
          let call : Call = record { command = command; position = add.0; seen = waiting } in
          let calls' : List Call = calls ++ call ∷ [] in
          let longer = keeps_longer calls calls' (push_keeps calls call) in (
            calls',
            add.1,
            omega arith,
            record {
              place = length calls;
              call = call;
              at = b.place calls told;
              own = inr room;
              found = get_seam calls [] call;
              asks = asks;
              done = base_on calls calls' (length calls) (push_keeps calls call) done;
            },
          )
      begins_sent old new log log' calls (answered seen) told room done b =
          let add = b.adds calls told in
          let call : Call = record { command = command; position = add.0; seen = seen } in
          let calls' : List Call = calls ++ call ∷ [] in
          let longer = keeps_longer calls calls' (push_keeps calls call) in (
            calls',
            add.1,
            omega arith,
            heard_at (past_of places since calls' wire) (length calls) call seen (inr room) (get_seam calls [] call) refl asks (base_on calls calls' (length calls) (push_keeps calls call) done),
          )

      goes_on_sent : (old new : Awaited) (log log' : LogTold) (calls : List Call) (ticket : ℕ) (attempt : Attempt) → log ≡ Some calls → since ≤ length calls → WaitsBehind old (past_of places since calls wire) space before piece ticket → GoesOn old new log log' ticket attempt → Leads new log' attempt
      goes_on_sent old new log log' calls ticket not_sent told room f g = absurd g
      goes_on_sent old new log log' calls ticket (waits given) told room f g =
          (calls, g.log_same ∙ told, room, record { place = f.place; call = f.call; at = g.rest given ∙ ap old g.same ∙ f.at; own = f.own; found = f.found; asks = f.asks; done = f.done })
      goes_on_sent old new log log' calls ticket (answered seen) told room f g =
          let s = g.sees calls told in
          let one : f.place ≡ s.0 = (let a = f.at in let b = s.2 in cc) in
          let there : slice_get calls f.place ≡ Some s.1 = ap (λ n. slice_get calls n) one ∙ s.3 in
          let same : f.call ≡ s.1 = (let a = f.found in cc) in
          let waits : f.call.seen ≡ waiting = ap (λ (x : Call). x.seen) same ∙ s.4 in
          let calls' : List Call = see f.place seen calls in
          let keeps = see_keeps f.place seen calls f.call f.found waits in
          let longer = keeps_longer calls calls' keeps in (
            calls',
            s.5 ∙ ap (λ n. Some (see n seen calls)) (sym one),
            omega arith,
            heard_at (past_of places since calls' wire) f.place (record f.call { seen = seen }) seen f.own (see_here f.place seen calls f.call f.found) refl f.asks (base_on calls calls' f.place keeps f.done),
          )

      tries_sent : (old new : Awaited) (log log' : LogTold) (calls : List Call) (stage : Stage) (attempt : Attempt) → log ≡ Some calls → since ≤ length calls → Holding old (past_of places since calls wire) space before piece (ticket_at stage) → Tries old new log log' command stage attempt → Leads new log' attempt
      tries_sent old new log log' calls unsent attempt told room h t = begins_sent old new log log' calls attempt told room h t
      tries_sent old new log log' calls (first ticket) attempt told room h t = goes_on_sent old new log log' calls ticket attempt told room h t
      tries_sent old new log log' calls (second ticket) attempt told room h t = goes_on_sent old new log log' calls ticket attempt told room h t

    gives_sent : (awaited : Awaited) (log : LogTold) (attempt : Attempt) (version : ℤ) (hold : ℕ → Sending) (result : Step Sending (List ℕ)) → ((ticket : ℕ) → ticket_of (hold ticket) ≡ Some ticket) → AttemptGives attempt version hold result → Leads awaited log attempt → LeadsTo awaited log result
    gives_sent awaited log attempt version hold (step.Pending s) holds g l =
        (l.0, l.1, l.2, flies_held awaited (past_of places since l.0 wire) attempt g.0 (ticket_of s) g.1 (ap (λ (x : Sending). ticket_of x) g.2 ∙ holds g.0) l.3)
    gives_sent awaited log attempt version hold (step.Done bytes) holds g l = (l.0, l.1, l.2, (g.1, done_told awaited (past_of places since l.0 wire) attempt bytes g.0 l.3))
    gives_sent awaited log attempt version hold (step.Failed e) holds g l = (l.0, l.1, l.2, tt)

    -- A poll of a command that inserts this piece.
    pub insert_ran : (old new : Awaited) (log log' : LogTold) (version : ℤ) (s : Sending) (result : Step Sending (List ℕ)) (calls : List Call) → asked s.command ≡ asks_insert space piece true → log ≡ Some calls → since ≤ length calls → Holding old (past_of places since calls wire) space before piece (ticket_of s) → Runs old new log log' version s result → LeadsTo new log' result
    insert_ran old new log log' version s result calls asks told room h (inl once) =
        gives_sent new log' once.attempt version _ result (held_at s.stage) once.gives (tries_sent s.command asks old new log log' calls s.stage once.attempt told room h once.tries)
    insert_ran old new log log' version s result calls asks told room h (inr twice) =
        let tried = tries_sent s.command asks old twice.between log twice.log_between calls s.stage twice.attempt told room h twice.tries in
        gives_sent new log' twice.again version _ result (λ ticket. refl) twice.gives
        (begins_sent s.command asks twice.between new twice.log_between log' tried.0 twice.again tried.1 tried.2 (base_of twice.between (past_of places since tried.0 wire) twice.attempt tried.3) twice.begins)
