use Rattle.std.proofs.Common.{ℕ, Result, Ok, Err, OnErr, refl, subst, rules, w64}
use mir.Val.{SFits}
use Rattle.std.proofs.lemmas.Int.{to_z-of_z}
use Rattle.mg_server.specs.State.{State}
use Rattle.mg_store.specs.Contents.{Leads, Represents}
use Rattle.mg_store.specs.declared.cursor.Cursor as code
use Rattle.mg_store.specs.declared.content.Content.{Content}
use Rattle.mg_store.specs.declared.content.Effect.{Effect}
use Rattle.mg_store.proofs.Committing.{does_kill, does_take, some_of}
use Rattle.mg_store.proofs.content.Effect.commit.Goals as goal

pub returns-in-Insert-clause-ok : goal.returns-in-Insert-clause-ok
returns-in-Insert-clause-ok c = rw c.in-Insert.is c.append.ensures.ok

pub returns-in-Insert-clause-err : goal.returns-in-Insert-clause-err
returns-in-Insert-clause-err c = rw c.in-Insert.is c.append.ensures.err

pub returns-in-Kill-clause-ok : goal.returns-in-Kill-clause-ok
returns-in-Kill-clause-ok c s given s' given' h does =
    let d = subst (λ (e : Effect). Leads e s given s' given') c.in-Kill.is does in
    does_kill c.args.content.now _ s s' given given' c.in-Kill.ids.items h d.0.documents_are d.1 d.0.changes_are d.0.cursors_are d.0.given_are refl refl refl c.remove_cursors.ensures

pub returns-in-Some-get_mut-clause-ok : goal.returns-in-Some-get_mut-clause-ok
returns-in-Some-get_mut-clause-ok c s given s' given' h does =
    let d = subst (λ (e : Effect). Leads e s given s' given') c.in-Take.is does in
    let fits : SFits w64 c.in-Take.id = search rules in
    let old : code.Cursor = c.in-Some-get_mut.cursor.now in
    let new : code.Cursor = record old { place = c.saturating_add-cursor.result } in
    let writes = c.get_mut-in-Take.follows.holds new in
    let updates = writes.3 (some_of _ old c.in-Some-get_mut.ensures.value) in
    does_take c.args.content.now _ s s' given given' c.in-Take.id _ c.in-Take.count c.saturating_add-cursor.result old h d (to_z-of_z w64 c.in-Take.id fits) c.in-Some-get_mut.ensures.value c.saturating_add-cursor.ensures refl refl refl updates.0

pub returns-in-Indexes-clause-ok : goal.returns-in-Indexes-clause-ok
returns-in-Indexes-clause-ok c = rw c.in-Indexes.is c.index.ensures.ok

pub returns-in-Indexes-clause-err : goal.returns-in-Indexes-clause-err
returns-in-Indexes-clause-err c = rw c.in-Indexes.is c.index.ensures.err

pub returns-in-Drop-clause-ok : goal.returns-in-Drop-clause-ok
returns-in-Drop-clause-ok c = rw c.in-Drop.is c.take_out.ensures.ok

pub returns-in-Drop-clause-err : goal.returns-in-Drop-clause-err
returns-in-Drop-clause-err c = rw c.in-Drop.is c.take_out.ensures.err

pub returns-in-Change-clause-ok : goal.returns-in-Change-clause-ok
returns-in-Change-clause-ok c = rw c.in-Change.is c.change.ensures.ok

pub returns-in-Remove-clause-ok : goal.returns-in-Remove-clause-ok
returns-in-Remove-clause-ok c = rw c.in-Remove.is c.remove.ensures.ok

still : {A E : Type 0} (x : Result A E) (c c' : Content) (e : Effect) → OnErr x ((s : State) (given : ℕ) → Represents c s given → Represents c' s given)
    → OnErr x ((s : State) (given : ℕ) (s' : State) (given' : ℕ) → Represents c s given → Leads e s given s' given' → Represents c' s given)
still (Ok y) c c' e h = tt
still (Err y) c c' e h = λ s given s' given' r l. h s given r

pub returns-in-Change-clause-err : goal.returns-in-Change-clause-err
returns-in-Change-clause-err c = still c.change.result c.args.content.now c.change.new.self c.args.self c.change.ensures.err

pub returns-in-Remove-clause-err : goal.returns-in-Remove-clause-err
returns-in-Remove-clause-err c = still c.remove.result c.args.content.now c.remove.new.self c.args.self c.remove.ensures.err
