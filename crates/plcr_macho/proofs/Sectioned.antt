-- The sections read so far gave what was found, and the rest is still to give.
use Rattle.std.proofs.Common.{◌≡◌, ◌≤◌, ◌<◌, ℕ, zero, suc, lit≤, ◌+◌, ◌-◌, ◌*◌, List, [], ◌∷◌, take, drop, None, refl, sym, ap, subst, ◌∙◌, arith}
use Rattle.std.proofs.lemmas.List.{drop-drop, take-take}
use Rattle.plcr_loader.specs.declared.section_64.TheConstants.{LENGTH}
use Rattle.plcr_loader.specs.Fields.{bytes_of}
use Rattle.plcr_macho.specs.declared.kept.Parts.{Parts}
use Rattle.plcr_macho.specs.Loading.{sections_in}
use Rattle.plcr_macho.specs.inner.Keeping.{first_parts, parts_in}
use Rattle.plcr_macho.proofs.FirstKept.{parts_more, parts_twice, parts_none, none_parts, parts_no}

-- what was found, and the sections from an index on, give what all sections give
abbrev pub PartsSoFar : ℕ → ℕ → List ℕ → Parts → Type 0
PartsSoFar count index bytes found = first_parts found (parts_in (sections_in (count - index) (drop (LENGTH * index) bytes))) ≡ parts_in (sections_in count bytes)

pub parts_start : (count : ℕ) (bytes : List ℕ) (found : Parts) → found ≡ record { unwind = None; eh_frame = None } → PartsSoFar count 0 bytes found
parts_start count bytes found none =
    let left : count - 0 ≡ count = omega arith in
    let here : LENGTH * 0 ≡ 0 = omega arith in
    ap (λ (p : Parts). first_parts p (parts_in (sections_in (count - 0) (drop (LENGTH * 0) bytes)))) none
    ∙ none_parts (parts_in (sections_in (count - 0) (drop (LENGTH * 0) bytes)))
    ∙ ap (λ (n : ℕ). parts_in (sections_in n (drop (LENGTH * 0) bytes))) left
    ∙ ap (λ (n : ℕ). parts_in (sections_in count (drop n bytes))) here

pub parts_move : (count index : ℕ) (bytes section : List ℕ) (old new : Parts) → PartsSoFar count index bytes old → index < count
    → section ≡ take LENGTH (drop (LENGTH * index) bytes) → new ≡ first_parts old (parts_in (section ∷ [])) → PartsSoFar count (index + 1) bytes new
parts_move count index bytes section old new h more is added =
    let left : count - index ≡ suc (count - (index + 1)) = omega arith in
    let later : LENGTH * index + LENGTH ≡ LENGTH * (index + 1) = omega arith in
    let rest = sections_in (count - (index + 1)) (drop (LENGTH * (index + 1)) bytes) in
    let behind : drop LENGTH (drop (LENGTH * index) bytes) ≡ drop (LENGTH * (index + 1)) bytes = drop-drop LENGTH (LENGTH * index) bytes ∙ ap (λ (n : ℕ). drop n bytes) later in
    let from : first_parts old (parts_in (sections_in (suc (count - (index + 1))) (drop (LENGTH * index) bytes))) ≡ parts_in (sections_in count bytes) = subst (λ (n : ℕ). first_parts old (parts_in (sections_in n (drop (LENGTH * index) bytes))) ≡ parts_in (sections_in count bytes)) left h in
    let whole : first_parts old (parts_in (section ∷ rest)) ≡ parts_in (sections_in count bytes) =
    ap (λ (s : List ℕ). first_parts old (parts_in (s ∷ rest))) is
    ∙ ap (λ (ys : List ℕ). first_parts old (parts_in (take LENGTH (drop (LENGTH * index) bytes) ∷ sections_in (count - (index + 1)) ys))) (sym behind)
    ∙ from in
    ap (λ (p : Parts). first_parts p (parts_in rest)) added
    ∙ parts_twice old (parts_in (section ∷ [])) (parts_in rest)
    ∙ ap (first_parts old) (sym (parts_more section rest)) ∙ whole

-- a section that begins with a zero has neither name
zero_named : (section : List ℕ) → take 1 section ≡ 0 ∷ [] → parts_in (section ∷ []) ≡ record { unwind = None; eh_frame = None }
unfolding parts_in bytes_of
zero_named [] h = cc
zero_named (x ∷ xs) h =
    let zeroed : x ≡ 0 = cc in
    subst (λ (y : ℕ). parts_in ((y ∷ xs) ∷ []) ≡ record { unwind = None; eh_frame = None }) (sym zeroed) refl

-- such a section is passed over
pub parts_pass : (count index : ℕ) (bytes : List ℕ) (found : Parts) → PartsSoFar count index bytes found → index < count
    → take 1 (drop (LENGTH * index) bytes) ≡ 0 ∷ [] → PartsSoFar count (index + 1) bytes found
parts_pass count index bytes found h more start =
    let section = take LENGTH (drop (LENGTH * index) bytes) in
    let begins : take 1 section ≡ 0 ∷ [] = take-take 1 LENGTH (drop (LENGTH * index) bytes) (lit≤ tt) ∙ start in
    let kept : found ≡ first_parts found (parts_in (section ∷ [])) = sym (ap (first_parts found) (zero_named section begins) ∙ parts_no found) in
    parts_move count index bytes section found found h more refl kept

pub parts_skip : (count index n : ℕ) (bytes : List ℕ) (found : Parts) → PartsSoFar count index bytes found → index + n ≤ count
    → ((k : ℕ) → k < n → take 1 (drop (LENGTH * (index + k)) bytes) ≡ 0 ∷ []) → PartsSoFar count (index + n) bytes found
parts_skip count index zero bytes found h le each =
    let e : index ≡ index + 0 = omega arith in subst (λ (i : ℕ). PartsSoFar count i bytes found) e h
parts_skip count index (suc n) bytes found h le each =
    let e : index + n + 1 ≡ index + suc n = omega arith in
    let before = parts_skip count index n bytes found h (omega (arith, le)) (λ k lt. each k (omega (arith, lt))) in
    subst (λ (i : ℕ). PartsSoFar count i bytes found) e
    (parts_pass count (index + n) bytes found before (omega (arith, le)) (each n (omega arith)))

pub parts_end : (count index : ℕ) (bytes : List ℕ) (found : Parts) → PartsSoFar count index bytes found → count ≤ index → found ≡ parts_in (sections_in count bytes)
parts_end count index bytes found h none_left =
    let left : count - index ≡ 0 = omega arith in
    sym (parts_none found) ∙ subst (λ (n : ℕ). first_parts found (parts_in (sections_in n (drop (LENGTH * index) bytes))) ≡ parts_in (sections_in count bytes)) left h

-- no sections
pub parts_zero : (count : ℕ) (bytes : List ℕ) → count ≡ 0 → record { unwind = None; eh_frame = None } ≡ parts_in (sections_in count bytes)
unfolding parts_in
parts_zero count bytes none = subst (λ (n : ℕ). record { unwind = None; eh_frame = None } ≡ parts_in (sections_in n bytes)) (sym none) refl
