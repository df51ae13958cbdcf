-- Steps that may give nothing.
use Rattle.std.proofs.Common.{◌≡◌, Bool, true, false, cond, Option, Some, None, option_map, is_some, refl}
use Rattle.mg_bson.specs.Reading.{◌>>=◌}

pub bind_some : {A B : Type 0} (r : Option A) (f : A → Option B) (y : B) → (r >>= f) ≡ Some y → (x : A) × (r ≡ Some x) × (f x ≡ Some y)
bind_some (Some x) f y e = (x, refl, e)
bind_some None f y e = absurd cc

pub map_some : {A B : Type 0} (r : Option A) (f : A → B) (y : B) → option_map f r ≡ Some y → (x : A) × (r ≡ Some x) × (f x ≡ y)
map_some (Some x) f y e = (x, refl, cc)
map_some None f y e = absurd cc

pub some_there : {A : Type 0} (r : Option A) → is_some r ≡ true → (x : A) × (r ≡ Some x)
some_there (Some x) e = (x, refl)
some_there None e = absurd cc

pub guard_some : {A : Type 0} (b : Bool) (r : Option A) (y : A) → cond b None r ≡ Some y → (b ≡ false) × (r ≡ Some y)
guard_some true r y e = absurd cc
guard_some false r y e = (refl, e)

pub test_some : {A : Type 0} (b : Bool) (r : Option A) (y : A) → cond b r None ≡ Some y → (b ≡ true) × (r ≡ Some y)
test_some true r y e = (refl, e)
test_some false r y e = absurd cc

pub some_is : {A : Type 0} (x y : A) → Some x ≡ Some y → x ≡ y
some_is x y e = cc

pub bind_same : {A B : Type 0} (r : Option A) (f g : A → Option B) → ((x : A) → r ≡ Some x → f x ≡ g x) → (r >>= f) ≡ (r >>= g)
bind_same (Some x) f g h = h x refl
bind_same None f g h = refl

pub map_map : {A B C : Type 0} (o : Option A) (g : A → B) (f : B → C) → option_map f (option_map g o) ≡ option_map (λ x. f (g x)) o
map_map (Some x) g f = refl
map_map None g f = refl
