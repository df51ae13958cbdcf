-- What one request of an upload does to what the upload knows of its file.
use Rattle.std.proofs.Common.{◌≡◌, ℕ, ℤ, false, List, [], ◌∷◌, ◌++◌, Option, Some, refl, sym, ap, ◌∙◌, subst, inl, inr}
use Rattle.std.specs.Prelude.{slice_get}
use Rattle.mg_bson.specs.Tree.{Tree}
use Rattle.mg_server.specs.Calls.{Keeps, Past, past_of}
use Rattle.mg_server.specs.Commands.{asked, told}
use Rattle.mg_link.specs.Exec.{Attempt, Begins, AttemptGives, GoesOn, Runs, Sending, Stage, Tries, answered, first, holding, not_sent, second, unsent, waits, IsFirstTry}
use Rattle.mg_server.specs.Files.{Bucket, File}
use Rattle.mg_server.specs.Filing.{Clears, HasDeleted, HasInserted, KnowsFile, Leaves, Makes, becomes, cleared, clears, insert_at, removal_at, stays, unknown}
use Rattle.mg_link.specs.Link.{Awaited, LogTold}
use Rattle.mg_link.specs.Log.{Sight, waiting, reply, Call, see}
use Rattle.mg_link.specs.declared.action.Step.{Step}
use Rattle.mg_link.specs.declared.action.Step.TheVariants as step
use Rattle.mg_server.proofs.Calls.{keeps_on, same_keeps, see_keeps}
use Rattle.mg_server.proofs.Filing.{file_cleared, file_clears, file_done, file_emptied, file_left, file_made, file_seen, file_sent, file_spoiled, file_still, file_unknown}
use Rattle.mg_link.proofs.Places.{get_front}
use Rattle.mg_link.proofs.Waits.{held_first, never_again}

-- the log has grown, and this is known
abbrev pub Grew : List ℕ → ℕ → List Call → LogTold → ℤ → (Past → Type 0) → Type 0
Grew places since calls log' wire Now = (calls' : List Call) × (log' ≡ Some calls') × Keeps calls calls' × Now (past_of places since calls' wire)

push_keeps : (calls : List Call) (call : Call) → Keeps calls (calls ++ call ∷ [])
push_keeps calls call place c there = (c, get_front calls (call ∷ []) place c there, refl, λ saw. refl)

-- one after the other
pub grew_on : (places : List ℕ) (since : ℕ) (calls : List Call) (mid log' : LogTold) (wire : ℤ) (Between Now : Past → Type 0) → Grew places since calls mid wire Between
    → ((calls' : List Call) → mid ≡ Some calls' → Between (past_of places since calls' wire) → Grew places since calls' log' wire Now) → Grew places since calls log' wire Now
grew_on places since calls mid log' wire Between Now g next =
    let h = next g.0 g.1 g.3 in
    (h.0, h.1, keeps_on calls g.0 h.0 g.2 h.2, h.3)

pub grew_as : (places : List ℕ) (since : ℕ) (calls : List Call) (log' : LogTold) (wire : ℤ) (Now Then : Past → Type 0) → ((past : Past) → Now past → Then past) → Grew places since calls log' wire Now → Grew places since calls log' wire Then
grew_as places since calls log' wire Now Then leads g = (g.0, g.1, g.2, leads (past_of places since g.0 wire) g.3)

-- ---- by where an attempt stands

abbrev MadeBy : Awaited → Bucket → Tree → List ℕ → File → Attempt → Past → Type 0
MadeBy awaited b id command file' not_sent past = KnowsFile past b id unknown
MadeBy awaited b id command file' (waits ticket) past = KnowsFile past b id (becomes (awaited ticket) command file')
MadeBy awaited b id command file' (answered seen) past = KnowsFile past b id unknown × ((bytes : List ℕ) → seen ≡ reply bytes → HasInserted (told (asked command) bytes) → KnowsFile past b id (stays file'))

abbrev ClearedBy : Awaited → Bucket → Tree → List ℕ → Attempt → Past → Type 0
ClearedBy awaited b id command not_sent past = KnowsFile past b id unknown
ClearedBy awaited b id command (waits ticket) past = KnowsFile past b id (clears (awaited ticket) command)
ClearedBy awaited b id command (answered seen) past = KnowsFile past b id unknown × ((bytes : List ℕ) → seen ≡ reply bytes → HasDeleted (told (asked command) bytes) → KnowsFile past b id cleared)

module _ (old new : Awaited) (log log' : LogTold) (b : Bucket) (id : Tree) (command : List ℕ) (calls : List Call) (told_is : log ≡ Some calls) (places : List ℕ) (since : ℕ) (wire : ℤ) where
  -- ---- an insert

  begins_insert : (file file' : File) → Makes command b id file file' → (attempt : Attempt) → Begins old new log log' command attempt → KnowsFile (past_of places since calls wire) b id (stays file) → Grew places since calls log' wire (MadeBy new b id command file' attempt)
  begins_insert file file' makes not_sent begun k = (calls, begun.log_same ∙ told_is, same_keeps calls, file_unknown (past_of places since calls wire) b id (stays file) k)
  begins_insert file file' makes (waits ticket) begun k =
      let add = begun.adds calls told_is in
      let call : Call = record { command = command; position = add.0; seen = waiting } in
      (calls ++ call ∷ [], add.1, push_keeps calls call, file_sent places since calls call wire b id file file' (new ticket) (begun.place calls told_is) makes k)
  begins_insert file file' makes (answered seen) begun k =
      let add = begun.adds calls told_is in
      let call : Call = record { command = command; position = add.0; seen = seen } in
      (calls ++ call ∷ [], add.1, push_keeps calls call, (file_spoiled places since calls call wire b id (stays file) k, λ bytes saw is. file_made places since calls call wire b id bytes saw file file' is makes k))

  insert_seen : (seen : Sight) (n : ℕ) (call : Call) (place : Option ℕ) (file' : File) → place ≡ Some n → slice_get calls n ≡ Some call → call.seen ≡ waiting → KnowsFile (past_of places since calls wire) b id (becomes place command file')
      → (bytes : List ℕ) → seen ≡ reply bytes → HasInserted (told (asked command) bytes) → KnowsFile (past_of places since (see n seen calls) wire) b id (stays file')
  insert_seen seen n call place file' here found waiting_so k bytes saw is =
      subst (λ (w : Sight). KnowsFile (past_of places since (see n w calls) wire) b id (stays file')) (sym saw) (file_done places since n bytes calls call wire b id found waiting_so file' place command here is k)

  goes_on_insert : (file' : File) (ticket : ℕ) (attempt : Attempt) → GoesOn old new log log' ticket attempt → KnowsFile (past_of places since calls wire) b id (becomes (old ticket) command file') → Grew places since calls log' wire (MadeBy new b id command file' attempt)
  goes_on_insert file' ticket not_sent on k = absurd on
  goes_on_insert file' ticket (waits given) on k =
      (calls, on.log_same ∙ told_is, same_keeps calls, subst (λ (o : Option ℕ). KnowsFile (past_of places since calls wire) b id (becomes o command file')) (ap old (sym on.same) ∙ sym (on.rest given)) k)
  goes_on_insert file' ticket (answered seen) on k =
      let s = on.sees calls told_is in (
        see s.0 seen calls,
        s.5,
        see_keeps s.0 seen calls s.1 s.3 s.4,
        (file_seen places since s.0 seen calls s.1 wire b id s.3 s.4 (becomes (old ticket) command file') k, insert_seen seen s.0 s.1 (old ticket) file' s.2 s.3 s.4 k),
      )

  tries_insert : (file file' : File) → Makes command b id file file' → (stage : Stage) → IsFirstTry stage → (attempt : Attempt) → Tries old new log log' command stage attempt → KnowsFile (past_of places since calls wire) b id (insert_at old command file file' stage)
      → Grew places since calls log' wire (MadeBy new b id command file' attempt)
  tries_insert file file' makes unsent at attempt t k = begins_insert file file' makes attempt t k
  tries_insert file file' makes (first ticket) at attempt t k = goes_on_insert file' ticket attempt t k
  tries_insert file file' makes (second ticket) at attempt t k = absurd at

  -- ---- a deletion

  begins_removal : Clears command b id → (attempt : Attempt) → Begins old new log log' command attempt → KnowsFile (past_of places since calls wire) b id unknown → Grew places since calls log' wire (ClearedBy new b id command attempt)
  begins_removal empties not_sent begun k = (calls, begun.log_same ∙ told_is, same_keeps calls, k)
  begins_removal empties (waits ticket) begun k =
      let add = begun.adds calls told_is in
      let call : Call = record { command = command; position = add.0; seen = waiting } in
      (calls ++ call ∷ [], add.1, push_keeps calls call, file_clears places since calls call wire b id unknown (new ticket) (begun.place calls told_is) empties k)
  begins_removal empties (answered seen) begun k =
      let add = begun.adds calls told_is in
      let call : Call = record { command = command; position = add.0; seen = seen } in
      (calls ++ call ∷ [], add.1, push_keeps calls call, (file_spoiled places since calls call wire b id unknown k, λ bytes saw is. file_emptied places since calls call wire b id bytes saw unknown is empties k))

  removal_seen : (seen : Sight) (n : ℕ) (call : Call) (place : Option ℕ) → place ≡ Some n → slice_get calls n ≡ Some call → call.seen ≡ waiting → KnowsFile (past_of places since calls wire) b id (clears place command)
      → (bytes : List ℕ) → seen ≡ reply bytes → HasDeleted (told (asked command) bytes) → KnowsFile (past_of places since (see n seen calls) wire) b id cleared
  removal_seen seen n call place here found waiting_so k bytes saw is =
      subst (λ (w : Sight). KnowsFile (past_of places since (see n w calls) wire) b id cleared) (sym saw) (file_cleared places since n bytes calls call wire b id found waiting_so place command here is k)

  goes_on_removal : (ticket : ℕ) (attempt : Attempt) → GoesOn old new log log' ticket attempt → KnowsFile (past_of places since calls wire) b id (clears (old ticket) command) → Grew places since calls log' wire (ClearedBy new b id command attempt)
  goes_on_removal ticket not_sent on k = absurd on
  goes_on_removal ticket (waits given) on k =
      (calls, on.log_same ∙ told_is, same_keeps calls, subst (λ (o : Option ℕ). KnowsFile (past_of places since calls wire) b id (clears o command)) (ap old (sym on.same) ∙ sym (on.rest given)) k)
  goes_on_removal ticket (answered seen) on k =
      let s = on.sees calls told_is in (
        see s.0 seen calls,
        s.5,
        see_keeps s.0 seen calls s.1 s.3 s.4,
        (file_seen places since s.0 seen calls s.1 wire b id s.3 s.4 (clears (old ticket) command) k, removal_seen seen s.0 s.1 (old ticket) s.2 s.3 s.4 k),
      )

  tries_removal : Clears command b id → (stage : Stage) → IsFirstTry stage → (attempt : Attempt) → Tries old new log log' command stage attempt → KnowsFile (past_of places since calls wire) b id (removal_at old command stage) → Grew places since calls log' wire (ClearedBy new b id command attempt)
  tries_removal empties unsent at attempt t k = begins_removal empties attempt t k
  tries_removal empties (first ticket) at attempt t k = goes_on_removal ticket attempt t k
  tries_removal empties (second ticket) at attempt t k = absurd at

  -- ---- a command that leaves the file, and any command of which nothing is asked

  begins_read : (file : File) → Leaves command b id → (attempt : Attempt) → Begins old new log log' command attempt → KnowsFile (past_of places since calls wire) b id (stays file) → Grew places since calls log' wire (λ past. KnowsFile past b id (stays file))
  begins_read file leaves not_sent begun k = (calls, begun.log_same ∙ told_is, same_keeps calls, k)
  begins_read file leaves (waits ticket) begun k =
      let add = begun.adds calls told_is in
      let call : Call = record { command = command; position = add.0; seen = waiting } in
      (calls ++ call ∷ [], add.1, push_keeps calls call, file_left places since calls call wire b id file leaves k)
  begins_read file leaves (answered seen) begun k =
      let add = begun.adds calls told_is in
      let call : Call = record { command = command; position = add.0; seen = seen } in
      (calls ++ call ∷ [], add.1, push_keeps calls call, file_left places since calls call wire b id file leaves k)

  goes_on_read : (file : File) (ticket : ℕ) (attempt : Attempt) → GoesOn old new log log' ticket attempt → KnowsFile (past_of places since calls wire) b id (stays file) → Grew places since calls log' wire (λ past. KnowsFile past b id (stays file))
  goes_on_read file ticket not_sent on k = absurd on
  goes_on_read file ticket (waits given) on k = (calls, on.log_same ∙ told_is, same_keeps calls, k)
  goes_on_read file ticket (answered seen) on k =
      let s = on.sees calls told_is in
      (see s.0 seen calls, s.5, see_keeps s.0 seen calls s.1 s.3 s.4, file_still places since s.0 seen calls s.1 wire b id s.3 s.4 file k)

  tries_read : (file : File) → Leaves command b id → (stage : Stage) (attempt : Attempt) → Tries old new log log' command stage attempt → KnowsFile (past_of places since calls wire) b id (stays file) → Grew places since calls log' wire (λ past. KnowsFile past b id (stays file))
  tries_read file leaves unsent attempt t k = begins_read file leaves attempt t k
  tries_read file leaves (first ticket) attempt t k = goes_on_read file ticket attempt t k
  tries_read file leaves (second ticket) attempt t k = goes_on_read file ticket attempt t k

  begins_any : (attempt : Attempt) → Begins old new log log' command attempt → KnowsFile (past_of places since calls wire) b id unknown → Grew places since calls log' wire (λ past. KnowsFile past b id unknown)
  begins_any not_sent begun k = (calls, begun.log_same ∙ told_is, same_keeps calls, k)
  begins_any (waits ticket) begun k =
      let add = begun.adds calls told_is in
      let call : Call = record { command = command; position = add.0; seen = waiting } in
      (calls ++ call ∷ [], add.1, push_keeps calls call, file_spoiled places since calls call wire b id unknown k)
  begins_any (answered seen) begun k =
      let add = begun.adds calls told_is in
      let call : Call = record { command = command; position = add.0; seen = seen } in
      (calls ++ call ∷ [], add.1, push_keeps calls call, file_spoiled places since calls call wire b id unknown k)

  goes_on_any : (ticket : ℕ) (attempt : Attempt) → GoesOn old new log log' ticket attempt → KnowsFile (past_of places since calls wire) b id unknown → Grew places since calls log' wire (λ past. KnowsFile past b id unknown)
  goes_on_any ticket not_sent on k = absurd on
  goes_on_any ticket (waits given) on k = (calls, on.log_same ∙ told_is, same_keeps calls, k)
  goes_on_any ticket (answered seen) on k =
      let s = on.sees calls told_is in
      (see s.0 seen calls, s.5, see_keeps s.0 seen calls s.1 s.3 s.4, file_seen places since s.0 seen calls s.1 wire b id s.3 s.4 unknown k)

  tries_any : (stage : Stage) (attempt : Attempt) → Tries old new log log' command stage attempt → KnowsFile (past_of places since calls wire) b id unknown → Grew places since calls log' wire (λ past. KnowsFile past b id unknown)
  tries_any unsent attempt t k = begins_any attempt t k
  tries_any (first ticket) attempt t k = goes_on_any ticket attempt t k
  tries_any (second ticket) attempt t k = goes_on_any ticket attempt t k

-- ---- by what a poll comes to

abbrev pub InsertRan : Awaited → Bucket → Tree → List ℕ → File → File → Step Sending (List ℕ) → Past → Type 0
InsertRan awaited b id command file file' (step.Pending s) past = KnowsFile past b id (insert_at awaited command file file' s.stage)
InsertRan awaited b id command file file' (step.Done bytes) past = KnowsFile past b id unknown × (HasInserted (told (asked command) bytes) → KnowsFile past b id (stays file'))
InsertRan awaited b id command file file' (step.Failed e) past = KnowsFile past b id unknown

abbrev pub RemovalRan : Awaited → Bucket → Tree → List ℕ → Step Sending (List ℕ) → Past → Type 0
RemovalRan awaited b id command (step.Pending s) past = KnowsFile past b id (removal_at awaited command s.stage)
RemovalRan awaited b id command (step.Done bytes) past = KnowsFile past b id unknown × (HasDeleted (told (asked command) bytes) → KnowsFile past b id cleared)
RemovalRan awaited b id command (step.Failed e) past = KnowsFile past b id unknown

gives_insert : (awaited : Awaited) (b : Bucket) (id : Tree) (s : Sending) (file file' : File) (wire : ℤ) (attempt : Attempt) (result : Step Sending (List ℕ)) → IsFirstTry s.stage → AttemptGives attempt wire (λ ticket. record s { stage = holding s.stage ticket }) result
    → (past : Past) → MadeBy awaited b id s.command file' attempt past → InsertRan awaited b id s.command file file' result past
gives_insert awaited b id s file file' wire attempt (step.Pending s') at g past made =
    let stage_is : s'.stage ≡ first g.0 = ap (λ (x : Sending). x.stage) g.2 ∙ held_first s.stage at g.0 in
    subst (λ (stage : Stage). KnowsFile past b id (insert_at awaited s.command file file' stage)) (sym stage_is) (subst (λ (a : Attempt). MadeBy awaited b id s.command file' a past) g.1 made)
gives_insert awaited b id s file file' wire attempt (step.Done bytes) at g past made =
    let seen_so = subst (λ (a : Attempt). MadeBy awaited b id s.command file' a past) g.0 made in
    (seen_so.0, λ is. seen_so.1 bytes refl is)
gives_insert awaited b id s file file' wire not_sent (step.Failed e) at g past made = made
gives_insert awaited b id s file file' wire (waits ticket) (step.Failed e) at g past made = absurd g
gives_insert awaited b id s file file' wire (answered seen) (step.Failed e) at g past made = made.0

gives_removal : (awaited : Awaited) (b : Bucket) (id : Tree) (s : Sending) (wire : ℤ) (attempt : Attempt) (result : Step Sending (List ℕ)) → IsFirstTry s.stage → AttemptGives attempt wire (λ ticket. record s { stage = holding s.stage ticket }) result
    → (past : Past) → ClearedBy awaited b id s.command attempt past → RemovalRan awaited b id s.command result past
gives_removal awaited b id s wire attempt (step.Pending s') at g past made =
    let stage_is : s'.stage ≡ first g.0 = ap (λ (x : Sending). x.stage) g.2 ∙ held_first s.stage at g.0 in
    subst (λ (stage : Stage). KnowsFile past b id (removal_at awaited s.command stage)) (sym stage_is) (subst (λ (a : Attempt). ClearedBy awaited b id s.command a past) g.1 made)
gives_removal awaited b id s wire attempt (step.Done bytes) at g past made =
    let seen_so = subst (λ (a : Attempt). ClearedBy awaited b id s.command a past) g.0 made in
    (seen_so.0, λ is. seen_so.1 bytes refl is)
gives_removal awaited b id s wire not_sent (step.Failed e) at g past made = made
gives_removal awaited b id s wire (waits ticket) (step.Failed e) at g past made = absurd g
gives_removal awaited b id s wire (answered seen) (step.Failed e) at g past made = made.0

module _ (old new : Awaited) (log log' : LogTold) (b : Bucket) (id : Tree) (version : ℤ) (s : Sending) (result : Step Sending (List ℕ)) (calls : List Call) (told_is : log ≡ Some calls) (places : List ℕ) (since : ℕ) (wire : ℤ) where
  -- An insert was polled, which leads from one file to another.
  pub insert_ran : (file file' : File) → Makes s.command b id file file' → s.retries ≡ false → IsFirstTry s.stage → Runs old new log log' version s result → KnowsFile (past_of places since calls wire) b id (insert_at old s.command file file' s.stage)
      → Grew places since calls log' wire (InsertRan new b id s.command file file' result)
  insert_ran file file' makes single at (inl once) k =
      grew_as places since calls log' wire (MadeBy new b id s.command file' once.attempt) (InsertRan new b id s.command file file' result) (gives_insert new b id s file file' version once.attempt result at once.gives)
      (tries_insert old new log log' b id s.command calls told_is places since wire file file' makes s.stage at once.attempt once.tries k)
  insert_ran file file' makes single at (inr twice) k = absurd (never_again s.retries s.stage twice.attempt single twice.repeated)

  -- The deletion of the chunks was polled.
  pub removal_ran : Clears s.command b id → s.retries ≡ false → IsFirstTry s.stage → Runs old new log log' version s result → KnowsFile (past_of places since calls wire) b id (removal_at old s.command s.stage) → Grew places since calls log' wire (RemovalRan new b id s.command result)
  removal_ran empties single at (inl once) k =
      grew_as places since calls log' wire (ClearedBy new b id s.command once.attempt) (RemovalRan new b id s.command result) (gives_removal new b id s version once.attempt result at once.gives)
      (tries_removal old new log log' b id s.command calls told_is places since wire empties s.stage at once.attempt once.tries k)
  removal_ran empties single at (inr twice) k = absurd (never_again s.retries s.stage twice.attempt single twice.repeated)

  -- A request was polled that leaves the file, once or twice.
  pub read_ran : (file : File) → Leaves s.command b id → Runs old new log log' version s result → KnowsFile (past_of places since calls wire) b id (stays file) → Grew places since calls log' wire (λ past. KnowsFile past b id (stays file))
  read_ran file leaves (inl once) k = tries_read old new log log' b id s.command calls told_is places since wire file leaves s.stage once.attempt once.tries k
  read_ran file leaves (inr twice) k =
      grew_on places since calls twice.log_between log' wire (λ past. KnowsFile past b id (stays file)) (λ past. KnowsFile past b id (stays file))
      (tries_read old twice.between log twice.log_between b id s.command calls told_is places since wire file leaves s.stage twice.attempt twice.tries k)
      (λ calls' told' k'. begins_read twice.between new twice.log_between log' b id s.command calls' told' places since wire file leaves twice.again twice.begins k')

  -- A request was polled of which nothing is asked.
  pub any_ran : Runs old new log log' version s result → KnowsFile (past_of places since calls wire) b id unknown → Grew places since calls log' wire (λ past. KnowsFile past b id unknown)
  any_ran (inl once) k = tries_any old new log log' b id s.command calls told_is places since wire s.stage once.attempt once.tries k
  any_ran (inr twice) k =
      grew_on places since calls twice.log_between log' wire (λ past. KnowsFile past b id unknown) (λ past. KnowsFile past b id unknown)
      (tries_any old twice.between log twice.log_between b id s.command calls told_is places since wire s.stage twice.attempt twice.tries k)
      (λ calls' told' k'. begins_any twice.between new twice.log_between log' b id s.command calls' told' places since wire twice.again twice.begins k')
