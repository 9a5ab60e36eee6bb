-- Bytes that are held at the end of a list.
use Rattle.std.proofs.Common.{◌≡◌, ℕ, ◌/◌, ◌%◌, ◌+◌, ◌^◌, ◌<◌, ◌≤◌, List, [], ◌∷◌, ◌++◌, length, sym, ap, ◌∙◌, append_assoc, length-append, arith}
use Rattle.plcr_wire.specs.Varint.{varint}
use Rattle.plcr_wire.proofs.Varints.{varint_small, varint_large, varint_short}

-- one more group of a varint is held
pub varint_held : (held more : List ℕ) (rest : ℕ) (all : List ℕ) → held ++ varint rest ≡ all → more ≡ held ++ (rest % 128 + 128) ∷ [] → 128 ≤ rest → more ++ varint (rest / 128) ≡ all
varint_held held more rest all before e h =
    ap (λ l. l ++ varint (rest / 128)) e ∙ append_assoc held ((rest % 128 + 128) ∷ []) (varint (rest / 128)) ∙ ap (λ l. held ++ l) (sym (varint_large rest h)) ∙ before

-- the last group is
pub varint_last : (held more : List ℕ) (rest : ℕ) (all : List ℕ) → held ++ varint rest ≡ all → more ≡ held ++ rest ∷ [] → rest < 128 → more ≡ all
varint_last held more rest all before e h = e ∙ ap (λ l. held ++ l) (sym (varint_small rest h)) ∙ before

-- where two varints have room, the second has it behind the first
pub room_left : (held more : List ℕ) (first room : ℕ) → more ≡ held ++ varint first → first < 2 ^ 64 → length held + 20 ≤ room → length more + 10 ≤ room
room_left held more first room e fits enough =
    let len = ap length e ∙ length-append held (varint first) in
    let short = varint_short first fits in
    omega (arith, len, short, enough)
