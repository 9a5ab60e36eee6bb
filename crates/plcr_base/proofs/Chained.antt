-- What stands behind an answer of several steps.
use Rattle.std.proofs.Common.{◌≡◌, ◌⊎◌, inl, inr, Bool, true, false, cond, Option, Some, None, Result, Ok, Err, refl}
use Rattle.std.specs.Prelude.{ok_or}
use Rattle.plcr_base.specs.Chains.{◌>>=◌, result_map}

-- a chain that went well went well in each of its steps
pub bind_ok : {A B E : Type 0} (r : Result A E) (f : A → Result B E) (y : B) → (r >>= f) ≡ Ok y → (x : A) × (r ≡ Ok x) × (f x ≡ Ok y)
bind_ok (Ok x) f y h = (x, refl, h)
bind_ok (Err e) f y h = cc

-- a chain that fails did so at its first step or behind it
pub bind_err : {A B E : Type 0} (r : Result A E) (f : A → Result B E) (e : E) → (r >>= f) ≡ Err e → (r ≡ Err e) ⊎ ((x : A) × (r ≡ Ok x) × (f x ≡ Err e))
bind_err (Ok x) f e h = inr (x, refl, h)
bind_err (Err d) f e h = inl (cc)

-- a test that found no fault
pub if_ok : {A E : Type 0} (b : Bool) (e : E) (r : Result A E) (y : A) → cond b (Err e) r ≡ Ok y → (b ≡ false) × (r ≡ Ok y)
if_ok true e r y h = cc
if_ok false e r y h = (refl, h)

-- a value that was there
pub ok_or_ok : {A E : Type 0} (o : Option A) (e : E) (x : A) → ok_or o e ≡ Ok x → o ≡ Some x
ok_or_ok None e x h = cc
ok_or_ok (Some y) e x h = cc

-- an answer under a function that went well, and one that failed
pub map_ok : {A B E : Type 0} (f : A → B) (r : Result A E) (y : B) → result_map f r ≡ Ok y → (x : A) × (r ≡ Ok x) × (f x ≡ y)
map_ok f (Ok x) y h = (x, refl, cc)
map_ok f (Err e) y h = cc

pub map_err : {A B E : Type 0} (f : A → B) (r : Result A E) (e : E) → result_map f r ≡ Err e → r ≡ Err e
map_err f (Ok x) e h = cc
map_err f (Err d) e h = cc
