-- Lists of functions by their offsets, as the index and the pages of a section `__unwind_info` are
-- (compact_unwind_encoding.h).
use Rattle.std.specs.Prelude.{ℕ, zero, suc, ◌+◌, Bool, false, nat_le, nat_lt, ◌&&◌, ◌||◌, if◌then◌else◌, List, [], ◌∷◌, Option, Some, None, Result, Ok, Err}
use Rattle.plcr_base.specs.Chains.{◌>>=◌}
use Rattle.plcr_compact.specs.declared.bad.TheConstants.{FALLING_OFFSETS}
use Rattle.plcr_compact.specs.declared.section.Entry.{Entry}

-- an answer, or the number of what is bad
abbrev pub Answer : Type 0 → Type 0
Answer A = Result A ℕ

-- so many entries from a place on, one behind the other, each of so many bytes
abbrev pub entries_at : (ℕ → Answer Entry) → ℕ → ℕ → ℕ → Answer (List Entry)
entries_at read size zero place = Ok []
entries_at read size (suc count) place =
    read place >>= λ e. entries_at read size count (place + size) >>= λ es. Ok (e ∷ es)

-- an entry has an offset below that of the one before it, which is this
abbrev pub falls_from : ℕ → List Entry → Bool
falls_from before [] = false
falls_from before (e ∷ es) = nat_lt e.function before || falls_from e.function es

-- some entry has an offset below that of the one before it
abbrev pub falls : List Entry → Bool
falls es = falls_from 0 es

-- entries that don't fall
unfoldable pub lawful : List Entry → Answer (List Entry)
lawful es = if falls es then Err FALLING_OFFSETS else Ok es

-- of the best entry so far and one behind it the one with the greater offset, of equals the later;
-- those above the offset that is looked for don't count
abbrev pub better : ℕ → Option Entry → Entry → Option Entry
better offset None e = if nat_le e.function offset then Some e else None
better offset (Some best) e = if nat_le e.function offset && nat_le best.function e.function
    then Some e else Some best

-- of a best entry and those behind it the best
abbrev pub best_of : ℕ → Option Entry → List Entry → Option Entry
best_of offset best [] = best
best_of offset best (e ∷ es) = best_of offset (better offset best e) es

-- the entry with the greatest offset that isn't above another, of equals the last
unfoldable pub chosen : ℕ → List Entry → Option Entry
chosen offset es = best_of offset None es
