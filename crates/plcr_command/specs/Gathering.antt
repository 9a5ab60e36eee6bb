-- What an output has of bytes that weren't written whole.
use Rattle.std.specs.Prelude.{◌≡◌, ℕ, List, ◌++◌, Option}
use Rattle.std.specs.Io.KnownBytes.{append_known}

-- a front of these bytes was put, and all of it was written but some bytes at its end, or none
pub record HasFront (old new : Option (List ℕ)) (bytes : List ℕ) : Type 0 where
  pub front : List ℕ
  pub rest : List ℕ
  pub parts : bytes ≡ front ++ rest
  pub lost : List ℕ
  pub written : append_known new lost ≡ append_known old front
