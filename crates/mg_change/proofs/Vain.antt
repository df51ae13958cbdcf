-- An aggregate that no server takes: what it asks for, and what comes of it.
use Rattle.std.proofs.Common.{◌≡◌, ℕ, zero, suc, ℤ, Bool, List, [], ◌∷◌, ◌++◌, Option, Some, None, option_map, refl, sym, ap, ◌∙◌, subst, inl, inr, length}
use Rattle.std.specs.Prelude.{option_and_then, slice_get}
use Rattle.mg_bson.specs.Raw.{fields}
use Rattle.mg_link.specs.declared.action.Step.{Step}
use Rattle.mg_link.specs.declared.action.Step.TheVariants as step
use Rattle.mg_link.specs.declared.error.Error.{Error}
use Rattle.mg_server.specs.Commands.{Asked, asks_other, asked, filter_stages, garbled, told, told_by}
use Rattle.mg_server.specs.Commands as commands
use Rattle.mg_link.specs.Exec.{Stage, unsent, first, second, Sending, waits, answered, Begins, GoesOn, IsSuccess, Tries, Runs, holding, ticket_at, ticket_of}
use Rattle.mg_server.specs.Filter.{Condition}
use Rattle.mg_server.specs.History as history
use Rattle.mg_server.specs.History.{IsLegalFrom, step_after, told_at}
use Rattle.mg_link.specs.Link.{Awaited, LogTold}
use Rattle.mg_link.specs.Log.{Call, Sight, reply, see, waiting}
use Rattle.mg_link.specs.Namespace.{Target, target}
use Rattle.mg_server.specs.Owner.{Passes, nobody, PassesPlain}
use Rattle.mg_link.specs.Session.{Session}
use Rattle.mg_server.specs.Standing.{Names, SeenFits}
use Rattle.mg_server.specs.State.{Start, State}
use Rattle.mg_server.specs.Step.{May, MayTell, grown}
use Rattle.mg_server.specs.State as state
use Rattle.mg_exec.proofs.Execs.{runs_of}
use Rattle.mg_server.proofs.Heard.{told_heard}
use Rattle.mg_server.proofs.Owners.{legal_parts, same_some, see_here}
use Rattle.mg_link.proofs.Places.{get_seam}
use Rattle.mg_server.proofs.Killing.{plain_ran, plain_stayed}
use Rattle.mg_ops.specs.Aims.{Aim, aim, asked_for}
use Rattle.mg_ops.specs.Naming.{start_in}
use Rattle.mg_ops.specs.declared.change_stream.WatchArgs.{WatchArgs}
use Rattle.mg_ops.proofs.Asking.{asks_as_aimed}
use Rattle.mg_change.specs.ClientOpenings.{ClientOpening, HearsOpening, IsSoundOpening, OpensStream, RunsOpening, SendsSoundly, begins, broke, first_aggregate, goes_on, not_built, opened, opened_with}
use Rattle.mg_change.specs.ClientStreams.{ClientStream}
use Rattle.mg_change.specs.Following.{AsksNothing}
use Rattle.mg_change.specs.Growths.{HasCommand, IsInFlight, OpensInVain, StandsNowhere}
use Rattle.mg_change.proofs.Growths.{grows_tried}
use Rattle.mg_change.proofs.Opened.{first_is}
use Rattle.mg_change.proofs.Turning.{IsResumption}

-- ---- what is asked for

none_found : (f : Option (List Condition)) (s : Option Start) (t : Option Target) → ((c : List Condition) (b : Start) (g : Target) → f ≡ Some c → s ≡ Some b → t ≡ Some g → ⊥)
    → option_and_then {U = Aim} (λ filter. option_and_then (λ start. option_map (λ g. record { watch = record { target = g; filter = filter }; start = start }) t) s) f ≡ None
none_found None s t never = refl
none_found (Some c) None t never = refl
none_found (Some c) (Some b) None never = refl
none_found (Some c) (Some b) (Some g) never = absurd (never c b g refl refl refl)

asks_nothing : (a : WatchArgs) (sending : Sending) → AsksNothing a → IsResumption (first_aggregate a) sending → asked sending.command ≡ asks_other
asks_nothing a sending none is =
    asks_as_aimed sending.command (target a.target) a.pipeline.items a.options is.session is.command_is
    ∙ ap asked_for (none_found (filter_stages a.pipeline.items) (start_in a.options) (aim a.options (target a.target)) (λ c b g by from aimed. none (record { target = g; filter = c }) b (record { aimed = aimed; by = by; from = from })))

-- ---- it is always refused

told_other : (bytes : List ℕ) → IsSuccess bytes → told asks_other bytes ≡ garbled
unfolding told
told_other bytes success = ap (λ v. told_by v asks_other (fields bytes)) success

may_at : (s : State) (h : List history.Step) (p : ℕ) (x : history.Step) → IsLegalFrom s h → slice_get h p ≡ Some x → (t : State) × May t (asked x.command) (told_at x) x.made
may_at s [] p x legal found = absurd cc
may_at s (y ∷ ys) zero x legal found = (s, subst (λ z. May s (asked z.command) (told_at z) z.made) (same_some y x found) (legal_parts s y ys legal).0)
may_at s (y ∷ ys) (suc p) x legal found = may_at (step_after s y) ys p x (legal_parts s y ys legal).1 found

never_told : (s : State) (x : history.Step) → asked x.command ≡ asks_other → told_at x ≡ garbled → May s (asked x.command) (told_at x) x.made → ⊥
never_told s x asks tells may = subst (λ (r : commands.Told). MayTell s (grown s x.made) asks_other r x.made) tells (subst (λ (c : Asked). MayTell s (grown s x.made) c (told_at x) x.made) asks may.tells)

never_given : (calls : List Call) (k : ℕ) (call : Call) (bytes : List ℕ) → slice_get calls k ≡ Some call → call.seen ≡ reply bytes → asked call.command ≡ asks_other → IsSuccess bytes → StandsNowhere calls
never_given calls k call bytes found seen asks success h legal stands =
    let p = stands.placed k call bytes found seen in
    let s = stands.same k call p.0 found p.1 in
    let fits : bytes ≡ s.0.reply = subst (λ (x : Sight). SeenFits x s.0.reply) seen s.3 in
    let asks_none : asked s.0.command ≡ asks_other = ap asked s.2 ∙ asks in
    let may = may_at state.nothing h p.0 s.0 legal s.1 in
    never_told may.0 s.0 asks_none (told_heard s.0 bytes asks_other asks_none fits ∙ told_other bytes success) may.1

-- ---- what a poll of it comes to

-- a call of the log, which is told, has this command and has seen this
record Sought (log : LogTold) (command : List ℕ) (seen : Sight) : Type 0 where
  calls : List Call
  is_told : log ≡ Some calls
  k : ℕ
  call : Call
  found : slice_get calls k ≡ Some call
  command_is : call.command ≡ command
  saw : call.seen ≡ seen

module _ (command : List ℕ) where
  sought_begun : (old new : Awaited) (log log' : LogTold) (seen : Sight) (calls : List Call) → log ≡ Some calls → Begins old new log log' command (answered seen) → Sought log' command seen
  sought_begun old new log log' seen calls is b =
      let add = b.adds calls is in
      let call : Call = record { command = command; position = add.0; seen = seen } in
      record { calls = calls ++ call ∷ []; is_told = add.1; k = length calls; call = call; found = get_seam calls [] call; command_is = refl; saw = refl }

  sought_ended : (old new : Awaited) (log log' : LogTold) (ticket : ℕ) (seen : Sight) (calls : List Call) → log ≡ Some calls → HasCommand old calls command (Some ticket) → GoesOn old new log log' ticket (answered seen) → Sought log' command seen
  sought_ended old new log log' ticket seen calls is has g =
      let s = g.sees calls is in
      let at : s.0 ≡ has.0 = same_some s.0 has.0 (sym s.2 ∙ has.2) in
      let one : s.1 ≡ has.1 = same_some s.1 has.1 (sym s.3 ∙ subst (λ n. slice_get calls n ≡ Some has.1) (sym at) has.3) in
      record { calls = see s.0 seen calls; is_told = s.5; k = s.0; call = record s.1 { seen = seen }; found = see_here s.0 seen calls s.1 s.3; command_is = ap (λ (c : Call). c.command) one ∙ has.4; saw = refl }

  sought_tried : (old new : Awaited) (log log' : LogTold) (stage : Stage) (seen : Sight) (calls : List Call) → log ≡ Some calls → HasCommand old calls command (ticket_at stage) → Tries old new log log' command stage (answered seen) → Sought log' command seen
  sought_tried old new log log' unsent seen calls is has t = sought_begun old new log log' seen calls is t
  sought_tried old new log log' (first ticket) seen calls is has t = sought_ended old new log log' ticket seen calls is has t
  sought_tried old new log log' (second ticket) seen calls is has t = sought_ended old new log log' ticket seen calls is has t

  -- it waits: its ticket is that of a call with this command
  held_begun : (old new : Awaited) (log log' : LogTold) (ticket : ℕ) (calls calls' : List Call) → log ≡ Some calls → log' ≡ Some calls' → Begins old new log log' command (waits ticket) → HasCommand new calls' command (Some ticket)
  held_begun old new log log' ticket calls calls' is is' b =
      let add = b.adds calls is in
      let call : Call = record { command = command; position = add.0; seen = waiting } in
      let same : calls ++ call ∷ [] ≡ calls' = same_some (calls ++ call ∷ []) calls' (sym add.1 ∙ is') in
      (length calls, call, b.place calls is, subst (λ l. slice_get l (length calls) ≡ Some call) same (get_seam calls [] call), refl)

  held_on : (old new : Awaited) (log log' : LogTold) (ticket given : ℕ) (calls calls' : List Call) → log ≡ Some calls → log' ≡ Some calls' → HasCommand old calls command (Some ticket) → GoesOn old new log log' ticket (waits given) → HasCommand new calls' command (Some given)
  held_on old new log log' ticket given calls calls' is is' has g =
      let same : calls ≡ calls' = same_some calls calls' (sym is ∙ sym g.log_same ∙ is') in
      (has.0, has.1, g.rest given ∙ ap old g.same ∙ has.2, subst (λ l. slice_get l has.0 ≡ Some has.1) same has.3, has.4)

  held_tried : (old new : Awaited) (log log' : LogTold) (stage : Stage) (ticket : ℕ) (calls calls' : List Call) → log ≡ Some calls → log' ≡ Some calls' → HasCommand old calls command (ticket_at stage) → Tries old new log log' command stage (waits ticket) → HasCommand new calls' command (Some ticket)
  held_tried old new log log' unsent ticket calls calls' is is' has t = held_begun old new log log' ticket calls calls' is is' t
  held_tried old new log log' (first given) ticket calls calls' is is' has t = held_on old new log log' given ticket calls calls' is is' has t
  held_tried old new log log' (second given) ticket calls calls' is is' has t = held_on old new log log' given ticket calls calls' is is' has t

holding_ticket : (stage : Stage) (ticket : ℕ) → ticket_at (holding stage ticket) ≡ Some ticket
holding_ticket unsent ticket = refl
holding_ticket (first given) ticket = refl
holding_ticket (second given) ticket = refl

module _ (a : WatchArgs) (none : AsksNothing a) (exec : Sending) (is_first : IsResumption (first_aggregate a) exec) (old new : Awaited) (log log' : LogTold) (wire : ℤ) where
  asks : asked exec.command ≡ asks_other
  asks = asks_nothing a exec none is_first

  passes : (result : Step Sending (List ℕ)) → Runs old new log log' wire exec result → PassesPlain log log'
  passes result runs = plain_ran exec.command (λ x names. subst (λ (c : Asked). Names c x) asks names) old new log log' wire exec result refl runs

  sought : (bytes : List ℕ) (calls : List Call) → log ≡ Some calls → HasCommand old calls exec.command (ticket_of exec) → Runs old new log log' wire exec (step.Done bytes) → Sought log' exec.command (reply bytes) × IsSuccess bytes
  sought bytes calls is has (inl once) = (sought_tried exec.command old new log log' exec.stage (reply bytes) calls is has (subst (Tries old new log log' exec.command exec.stage) once.gives.0 once.tries), once.gives.1)
  sought bytes calls is has (inr twice) =
      let mid = grows_tried old twice.between log twice.log_between exec.command exec.stage twice.attempt twice.tries calls is in
      (sought_begun exec.command twice.between new twice.log_between log' (reply bytes) mid.0 mid.1 (subst (Begins twice.between new twice.log_between log' exec.command) twice.gives.0 twice.begins), twice.gives.1)

  nowhere : (bytes : List ℕ) (calls calls' : List Call) → log ≡ Some calls → log' ≡ Some calls' → HasCommand old calls exec.command (ticket_of exec) → Runs old new log log' wire exec (step.Done bytes) → StandsNowhere calls'
  nowhere bytes calls calls' is is' has runs =
      let r = sought bytes calls is has runs in
      let s = r.0 in
      subst StandsNowhere (same_some s.calls calls' (sym s.is_told ∙ is')) (never_given s.calls s.k s.call bytes s.found s.saw (ap asked s.command_is ∙ asks) r.1)

  held : (exec' : Sending) (calls calls' : List Call) → log ≡ Some calls → log' ≡ Some calls' → HasCommand old calls exec.command (ticket_of exec) → Runs old new log log' wire exec (step.Pending exec') → HasCommand new calls' exec'.command (ticket_of exec')
  held exec' calls calls' is is' has (inl once) =
      let g = once.gives in
      let here : HasCommand new calls' exec.command (Some g.0) = held_tried exec.command old new log log' exec.stage g.0 calls calls' is is' has (subst (Tries old new log log' exec.command exec.stage) g.1 once.tries) in
      subst (λ (e : Sending). HasCommand new calls' e.command (ticket_of e)) (sym g.2) (subst (HasCommand new calls' exec.command) (sym (holding_ticket exec.stage g.0)) here)
  held exec' calls calls' is is' has (inr twice) =
      let g = twice.gives in
      let mid = grows_tried old twice.between log twice.log_between exec.command exec.stage twice.attempt twice.tries calls is in
      let here : HasCommand new calls' exec.command (Some g.0) = held_begun exec.command twice.between new twice.log_between log' g.0 mid.0 calls' mid.1 is' (subst (Begins twice.between new twice.log_between log' exec.command) g.1 twice.begins) in
      subst (λ (e : Sending). HasCommand new calls' e.command (ticket_of e)) (sym g.2) here

  -- It waits still.
  vainly_held : (exec' : Sending) → Runs old new log log' wire exec (step.Pending exec') → (calls : List Call) → log ≡ Some calls → IsInFlight old calls (Some exec)
      → (calls' : List Call) × (log' ≡ Some calls') × Passes calls calls' nobody nobody × IsInFlight new calls' (Some exec')
  vainly_held exec' runs calls told_log has =
      let p = passes (step.Pending exec') runs calls told_log in
      (p.0, p.1, p.2, held exec' calls p.0 told_log p.1 has runs)

  -- A reply came that no server may give.
  vainly_came : (bytes : List ℕ) (s : ClientStream) → Runs old new log log' wire exec (step.Done bytes) → OpensInVain old new log log' (Some exec) (step.Done s)
  vainly_came bytes s runs calls told_log has =
      let p = passes (step.Done bytes) runs calls told_log in
      (p.0, p.1, p.2, nowhere bytes calls p.0 told_log p.1 has runs)

  vainly_failed : (result : Step Sending (List ℕ)) (e : Error) → Runs old new log log' wire exec result → OpensInVain old new log log' (Some exec) (step.Failed e)
  vainly_failed result e runs calls told_log has =
      let p = passes result runs calls told_log in
      (p.0, p.1, p.2, tt)

-- nothing was sent between
new_flight : (sending : Sending) (awaited : Awaited) (calls : List Call) → sending.stage ≡ unsent → IsInFlight awaited calls (Some sending)
new_flight sending awaited calls new = subst (λ (st : Stage). HasCommand awaited calls sending.command (ticket_at st)) (sym new) tt

-- nothing was sent
vainly_unsent : (exec : Option Sending) (old new : Awaited) (log log' : LogTold) (e : Error) → log' ≡ log → OpensInVain old new log log' exec (step.Failed e)
vainly_unsent exec old new log log' e same calls is has =
    let p = plain_stayed log log' same calls is in
    (p.0, p.1, p.2, tt)

-- ---- a poll

module _ (old new : Awaited) (log log' : LogTold) (wire : ℤ) (session : Option Session) (started : Bool) (o : ClientOpening) (r : Step ClientOpening ClientStream) (none : AsksNothing o.args) where
  heard_in_vain : (sending : Sending) → IsResumption (first_aggregate o.args) sending → (came : Step Sending (List ℕ)) → Runs old new log log' wire sending came → HearsOpening wire o came r → OpensInVain old new log log' (Some sending) r
  heard_in_vain sending is (step.Pending later) runs h =
      subst (OpensInVain old new log log' (Some sending)) (sym h) (vainly_held o.args none sending is old new log log' wire later runs)
  heard_in_vain sending is (step.Done bytes) runs (opened out opens answer) =
      subst (OpensInVain old new log log' (Some sending)) (sym answer) (vainly_came o.args none sending is old new log log' wire bytes (opened_with o.args wire out) runs)
  heard_in_vain sending is (step.Done bytes) runs (broke e by answer) =
      subst (OpensInVain old new log log' (Some sending)) (sym answer) (vainly_failed o.args none sending is old new log log' wire (step.Done bytes) e runs)
  heard_in_vain sending is (step.Failed e) runs h =
      subst (OpensInVain old new log log' (Some sending)) (sym h) (vainly_failed o.args none sending is old new log log' wire (step.Failed e) e runs)

  run_in_vain : (sending : Sending) → IsResumption (first_aggregate o.args) sending → RunsOpening old new log log' wire started o sending r → OpensInVain old new log log' (Some sending) r
  run_in_vain sending is h = heard_in_vain sending is h.came (runs_of old new log log' wire sending h.came started h.runs) h.hears

  pub opens_in_vain : (plain : Bool) → IsSoundOpening plain o → OpensStream old new log log' wire session started o r → OpensInVain old new log log' o.sending r
  opens_in_vain plain sound (not_built unsent_so e fails nothing not_so answer) = subst (OpensInVain old new log log' o.sending) (sym answer) (vainly_unsent o.sending old new log log' e nothing.log_same)
  opens_in_vain plain sound (begins unsent_so sending new_one h) = λ calls told_log has.
      run_in_vain sending (record { wire = wire; session = session; command_is = new_one.command_is }) h calls told_log (new_flight sending old calls new_one.new)
  opens_in_vain plain sound (goes_on sending is h) =
      subst (λ (x : Option Sending). OpensInVain old new log log' x r) (sym is) (run_in_vain sending (first_is plain o.args sending (subst (SendsSoundly plain o.args) is sound)) h)
