-- What an advance of a cursor comes to.
use Rattle.std.specs.Prelude.{◌≡◌, Option, Some, None, Result, Ok, Err}
use Rattle.mg_cursor.specs.declared.results.AdvanceResult.{AdvanceResult}
use Rattle.mg_cursor.specs.declared.results.AdvanceResult.TheVariants.{Advanced, Exhausted, Waiting}

-- the value of an advance, where there is one
abbrev pub advanced_value : {T : Type 0} → AdvanceResult T → Option T
advanced_value (Advanced value) = Some value
advanced_value Exhausted = None
advanced_value Waiting = None

-- an error of the value comes first
abbrev pub transposed : {T E : Type 0} → AdvanceResult (Result T E) → Result (AdvanceResult T) E
transposed (Advanced (Ok value)) = Ok (Advanced value)
transposed (Advanced (Err e)) = Err e
transposed Exhausted = Ok Exhausted
transposed Waiting = Ok Waiting

-- ---- another value

-- a call at the value is allowed
abbrev pub MayMap : {T : Type 0} → (T → Type 0) → AdvanceResult T → Type 0
MayMap pre (Advanced value) = pre value
MayMap pre Exhausted = Unit {0}
MayMap pre Waiting = Unit {0}

abbrev pub IsAdvancedAnd : {T : Type 0} → AdvanceResult T → (T → Type 0) → Type 0
IsAdvancedAnd (Advanced value) P = P value
IsAdvancedAnd Exhausted P = ⊥
IsAdvancedAnd Waiting P = ⊥

-- the call changes the value alone
abbrev pub Maps : {T U : Type 0} → (T → U → Type 0) → AdvanceResult T → AdvanceResult U → Type 0
Maps post (Advanced value) r = IsAdvancedAnd r (post value)
Maps post Exhausted r = r ≡ Exhausted
Maps post Waiting r = r ≡ Waiting
