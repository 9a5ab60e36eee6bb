-- Answers in a row, the first fault of which counts.
use Rattle.std.specs.Prelude.{Option, Some, None, Result, Ok, Err}

infixl 10 ◌>>=◌
-- the next step's answer, or the fault that stands before it
abbrev pub ◌>>=◌ : {A B E : Type 0} → Result A E → (A → Result B E) → Result B E
(Ok x) >>= f = f x
(Err e) >>= f = Err e

-- the value, unless a test has found a fault
abbrev pub passed : {A E : Type 0} → A → Option E → Result A E
passed x None = Ok x
passed x (Some e) = Err e

-- the same fault, or the value under a function
abbrev pub result_map : {A B E : Type 0} → (A → B) → Result A E → Result B E
result_map f (Ok x) = Ok (f x)
result_map f (Err e) = Err e
