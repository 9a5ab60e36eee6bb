-- A text whose bytes are written one run after the other.
use Rattle.std.specs.Prelude.{◌≡◌, ℕ, List, ◌++◌}
use Rattle.plcr_wire.specs.Pen.{Pen, Wrote}
use Rattle.plcr_decode.specs.Text.{all_from, byte_text}

-- the bytes of a text as they are written
abbrev pub escaped : List ℕ → List ℕ
escaped text = all_from (λ n b. byte_text b) 0 text

-- a front of the text was written, and the rest is left
pub record EscapesUpTo (old new : Pen) (text rest : List ℕ) : Type 0 where
  pub front : List ℕ
  pub parts : escaped text ≡ front ++ escaped rest
  pub wrote : Wrote old new front
