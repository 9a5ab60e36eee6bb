-- What a stopped process means to a run.
use Rattle.std.specs.Prelude.{ℕ, List, Option}
use Rattle.plcr_macho.specs.Images.{Listed}

pub record Meanings : Type 0 where
  -- the number of the fault of the image at a header; none where there is an image
  pub fault : ℕ → Option ℕ
  -- the bytes of a report with these images
  pub report : List Listed → List ℕ

abbrev pub meanings : (ℕ → Option ℕ) → (List Listed → List ℕ) → Meanings
meanings fault report = record { fault = fault; report = report }
