-- How the bytes of a script split into lines, and a line into words.
use Rattle.std.specs.Prelude.{ℕ, ◌+◌, List, [], ◌∷◌, Option, Some, None, ◌==◌, position, take, drop}
use Rattle.std.specs.List.{slice_split}

-- what stands before, between and after the bytes that equal the separator
abbrev pub parts : ℕ → List ℕ → List (List ℕ)
parts separator bytes = slice_split (λ b. b == separator) bytes

-- the parts of what stands after a separator, and no part where there is no separator
abbrev pub parts_after : ℕ → Option (List ℕ) → List (List ℕ)
parts_after separator None = []
parts_after separator (Some rest) = parts separator rest

-- the parts, without the last where it is empty
abbrev pub without_empty_end : List (List ℕ) → List (List ℕ)
without_empty_end [] = []
without_empty_end ([] ∷ []) = []
without_empty_end ((b ∷ bs) ∷ []) = (b ∷ bs) ∷ []
without_empty_end (part ∷ next ∷ more) = part ∷ without_empty_end (next ∷ more)

-- the lines of a script: a last line without a newline counts, and nothing after the last newline
-- is no line
abbrev pub lines : List ℕ → List (List ℕ)
lines bytes = without_empty_end (parts 10 bytes)

-- the words of a text, which are separated by exactly one space; no words where there is no text
abbrev pub words : Option (List ℕ) → List (List ℕ)
words text = parts_after 32 text

-- a text in two: what stands before a separator, and what stands after it, where there is one
pub record Cut : Type 0 where
  pub front : List ℕ
  pub rest : Option (List ℕ)

-- a text cut at a place
abbrev pub cut_at : Option ℕ → List ℕ → Cut
cut_at None text = record { front = text; rest = None }
cut_at (Some place) text = record { front = take place text; rest = Some (drop (place + 1) text) }

-- a text cut at its first separator
abbrev pub cut_in : ℕ → List ℕ → Cut
cut_in separator text = cut_at (position (λ b. b == separator) text) text

-- the first word of a text, and what stands after the space behind it, where there is one
unfoldable pub first_word : List ℕ → Cut
first_word text = cut_in 32 text
