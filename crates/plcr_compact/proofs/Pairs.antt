-- Pairs of arm64's registers, one by one.
use Rattle.std.proofs.Common.{◌≡◌, ◌<◌, ℕ, ◌+◌, Bool, true, false, List, [], ◌∷◌, ◌++◌, length, get_or, drop, refl, sym, ap, ◌∙◌, arith}
use Rattle.std.specs.Prelude.{ℤ, pos, ◌-ℤ◌, int_le, ◌*◌}
use Rattle.std.proofs.lemmas.Int.{ints}
use Rattle.std.proofs.lemmas.List.{append_assoc, drop_more}
use Rattle.plcr_compact.specs.declared.caller.SavedWord.{SavedWord}
use Rattle.plcr_compact.specs.Callers.{pair_places, pair_words}
use Rattle.plcr_compact.specs.inner.Carrying.{pair_top, pair_word}

-- their places
pub pair_table : pair_places ≡ (19, 20) ∷ (21, 22) ∷ (23, 24) ∷ (25, 26) ∷ (27, 28) ∷ []
unfolding pair_places
pair_table = refl

one_pair : (top : ℤ) (saved : Bool) (place : ℕ × ℕ) (pairs : List Bool) (places : List (ℕ × ℕ))
    → pair_words top (saved ∷ pairs) (place ∷ places) ≡ pair_word top saved place ++ pair_words (pair_top top saved) pairs places
one_pair top true place pairs places = refl
one_pair top false place pairs places = refl

pub pair_more : (done : List SavedWord) (top : ℤ) (pairs : List Bool) (places : List (ℕ × ℕ)) (i : ℕ) (none : ℕ × ℕ) → i < length pairs → i < length places
    → (done ++ pair_word top (get_or pairs i false) (get_or places i none)) ++ pair_words (pair_top top (get_or pairs i false)) (drop (i + 1) pairs) (drop (i + 1) places)
    ≡ done ++ pair_words top (drop i pairs) (drop i places)
pair_more done top pairs places i none within inside =
    append_assoc done (pair_word top (get_or pairs i false) (get_or places i none)) (pair_words (pair_top top (get_or pairs i false)) (drop (i + 1) pairs) (drop (i + 1) places))
    ∙ ap (λ (rest : List SavedWord). done ++ rest) (sym (one_pair top (get_or pairs i false) (get_or places i none) (drop (i + 1) pairs) (drop (i + 1) places)))
    ∙ ap (λ (ps : List Bool). done ++ pair_words top ps (get_or places i none ∷ drop (i + 1) places)) (sym (drop_more pairs i false within))
    ∙ ap (λ (qs : List (ℕ × ℕ)). done ++ pair_words top (drop i pairs) qs) (sym (drop_more places i none inside))

-- where the next pair stands
pub lower : (first top : ℤ) (saved : Bool) (i : ℕ) → int_le (first -ℤ pos (16 * i)) top ≡ true → int_le (first -ℤ pos (16 * (i + 1))) (pair_top top saved) ≡ true
lower first top true i h = grind (arith, ints)
lower first top false i h = grind (arith, ints)

pub table_long : length pair_places ≡ 5
table_long = ap length pair_table
