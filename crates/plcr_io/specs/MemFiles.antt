-- Files in memory, under their names.
use Rattle.std.specs.Prelude.{ℕ, List, reverse, find, bytes_eq, Option}
use Rattle.std.specs.Option.{option_map}

-- a name and the bytes of the file
abbrev pub File : Type 0
File = List ℕ × List ℕ

-- the bytes of the first file with this name
abbrev pub first_named : List ℕ → List File → Option (List ℕ)
first_named name files = option_map (λ f. f.1) (find (λ f. bytes_eq f.0 name) files)

-- the bytes of the last file with this name
abbrev pub last_named : List ℕ → List File → Option (List ℕ)
last_named name files = first_named name (reverse files)
