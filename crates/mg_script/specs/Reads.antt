-- Steps that may find a fault, and what a function that takes them returns.
use Rattle.std.specs.Prelude.{◌≡◌, ℕ, suc, List, [], ◌∷◌, Bool, Option, Some, None, Result, Ok, Err, ⊤, if◌then◌else◌}
use Rattle.serde_json.specs.Data.{Data, Items, no_items, item}
use Rattle.mg_script.specs.declared.fault.Place.{Place}
use Rattle.mg_script.specs.declared.fault.ScriptError.{ScriptError}
use Rattle.mg_script.specs.declared.fault.ScriptError.TheVariants as errors

-- one step after another, up to the first fault
infixl 10 ◌>>=◌
abbrev pub ◌>>=◌ : {A B : Type 0} → Result A Place → (A → Result B Place) → Result B Place
(Ok x) >>= f = f x
(Err e) >>= f = Err e

-- an error is the fault that reading finds, or want of memory
abbrev pub Fails : {Y : Type 0} → ScriptError → Result Y Place → Type 0
Fails errors.OutOfMemory read = Unit {0}
Fails (errors.Fault p) read = read ≡ Err p

-- what a function returned, seen by view, is what reading gives, unless memory ran out
abbrev pub Gives : {X Y : Type 0} → (X → Y) → Result X ScriptError → Result Y Place → Type 0
Gives view (Ok x) read = read ≡ Ok (view x)
Gives view (Err e) read = Fails e read

-- the value, or a fault at the place
abbrev pub found : {A : Type 0} → Place → Option A → Result A Place
found p (Some x) = Ok x
found p None = Err p

-- a fault at the place unless the test holds
abbrev pub guard : Place → Bool → Result ⊤ Place
guard p b = if b then Ok tt else Err p

-- each item by f, numbered from n, up to the first fault
unfoldable pub each : {A : Type 0} → (ℕ → Data → Result A Place) → ℕ → Items → Result (List A) Place
each f n no_items = Ok []
each f n (item d ds) = f n d >>= λ x. each f (suc n) ds >>= λ xs. Ok (x ∷ xs)
