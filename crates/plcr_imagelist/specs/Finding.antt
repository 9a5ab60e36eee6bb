-- Which image an unload takes, and which nodes a load may take.
use Rattle.std.specs.Prelude.{ℕ, ◌<◌, ◌≤◌, List, [], ◌∷◌, ◌==◌, if◌then◌else◌, Option, Some, None, IsTrue, IsFalse}
use Rattle.plcr_machine.specs.declared.image.Image.{Image}
use Rattle.plcr_machine.specs.declared.entry.Entry.{Entry}
use Rattle.plcr_machine.specs.Nodes.{is_free}
use Rattle.plcr_imagelist.specs.States.{WriterState}

-- the first image of a list with a header
abbrev pub first_with : ℕ → List Image → Option Image
first_with header [] = None
first_with header (image ∷ images) = if image.header == header then Some image
    else first_with header images

-- a list without its first image with a header
abbrev pub without_first : ℕ → List Image → List Image
without_first header [] = []
without_first header (image ∷ images) = if image.header == header then images
    else image ∷ without_first header images

-- the number is that of a node that is free in what the writer has seen
abbrev pub IsFreeIn : WriterState → ℕ → Type 0
IsFreeIn s node = (0 < node) × (node ≤ s.nodes) × IsTrue (is_free s.passes node s.history)

-- no node is free
abbrev pub NoneFree : ℕ → ℕ → List Entry → Type 0
NoneFree nodes passes h = (n : ℕ) → 0 < n → n ≤ nodes → IsFalse (is_free passes n h)
