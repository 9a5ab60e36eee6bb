-- Base 128 varints and tags, as the Protocol Buffers documentation ("Encoding") has them.
use Rattle.std.specs.Prelude.{◌≡◌, ◌<◌, ◌≤◌, ℕ, zero, suc, ◌+◌, ◌*◌, ◌/◌, ◌%◌, List, [], ◌∷◌, nat_lt, if◌then◌else◌}

-- The groups of seven bits of n, the lowest first, each with 128 added where another follows; at
-- most k follow.
abbrev pub varint_within : ℕ → ℕ → List ℕ
varint_within zero n = n ∷ []
varint_within (suc k) n = if nat_lt n 128 then n ∷ []
    else (n % 128 + 128) ∷ varint_within k (n / 128)

-- the shortest varint of n
unfoldable pub varint : ℕ → List ℕ
varint n = varint_within n n

-- These bytes are a varint of n, long or short: a byte from 128 on has the low seven bits, and the
-- bytes after it stand for the rest.
abbrev pub IsVarint : List ℕ → ℕ → Type 0
IsVarint [] n = ⊥
IsVarint (b ∷ []) n = (b < 128) × (n ≡ b)
IsVarint (b ∷ c ∷ bs) n = (128 ≤ b) × (b < 256) × (high : ℕ) × (n + 128 ≡ b + 128 * high)
    × IsVarint (c ∷ bs) high

-- the tag of a field: its number and its wire type
unfoldable pub tag : ℕ → ℕ → List ℕ
tag field wire = varint (field * 8 + wire)
