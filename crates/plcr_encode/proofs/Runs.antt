-- Lookups that stand one behind the other in one image, and their answers.
use Rattle.std.proofs.Common.{◌≡◌, ℕ, zero, suc, ◌+◌, ◌-◌, ◌<◌, ◌≤◌, List, [], ◌∷◌, ◌++◌, min, length, map, take, drop, get_or, replicate, Option, None, refl, sym, ap, subst, ◌∙◌, arith}
use Rattle.std.specs.Prelude.{All}
use Rattle.std.specs.List.{AllAdjacentBelow}
use Rattle.std.specs.List.Sorted.{IsNonDecreasing}
use Rattle.std.proofs.Math.Seq.{take-add}
use Rattle.std.proofs.lemmas.List.{length-map, length-take-le, length-drop, get_or-map, get_or-take, get_or_default, get_or-drop, map-append, take_all, take_rest, take-map, drop-map, length-take, length-append}
use Rattle.std.proofs.lemmas.List.Elements.{All-head, All-tail}
use Rattle.std.proofs.lemmas.List.Sorted.{IsNonDecreasingBy-from_all_adjacent}
use Rattle.std.proofs.lemmas.Slice.{take-put_mid}
use borrow.Rule.Slice.PartMut.{put_mid}
use Rattle.plcr_symbols.specs.declared.symbol.SymbolAt.{SymbolAt}
use Rattle.plcr_encode.specs.declared.lookups.Lookup.{Lookup}
use Rattle.plcr_encode.specs.inner.Lookups.{Continues, address_of, answer}

-- a lookup that stands for none
abbrev pub no_lookup : Lookup
no_lookup = record { position = None; address = 0; frame = 0 }

-- where nothing is found, all answers are none
all_none : (symbol : ℕ → Option SymbolAt) (addresses : List ℕ) → ((a : ℕ) → symbol a ≡ None) → replicate {A = Option SymbolAt} (length addresses) None ≡ map symbol addresses
all_none symbol [] none = refl
all_none symbol (a ∷ others) none = λ k. sym (none a) k ∷ all_none symbol others none k

pub none_answered : (symbol : ℕ → Option SymbolAt) (addresses : List ℕ) (found : List (Option SymbolAt)) → ((a : ℕ) → symbol a ≡ None)
    → found ≡ replicate {A = Option SymbolAt} (length addresses) None → found ≡ map symbol addresses
none_answered symbol addresses found none is = is ∙ all_none symbol addresses none

-- the addresses of a run rise
pub run_rises : (lookups : List Lookup) (n : ℕ) → n ≤ length lookups → AllAdjacentBelow Continues lookups n → IsNonDecreasing (map address_of (take n lookups))
run_rises lookups n le run =
    let xs = take n lookups in
    let count : length (map address_of xs) ≡ n = length-map xs address_of ∙ length-take-le n lookups le in
    let size : length xs ≡ n = length-take-le n lookups le in
    let at = λ (k : ℕ) (d : ℕ) (lt : k < n). get_or-map address_of xs k no_lookup d (omega (arith, size, lt)) ∙ ap address_of (get_or-take n lookups k no_lookup lt) in
    IsNonDecreasingBy-from_all_adjacent (λ (x : ℕ). x) (map address_of xs) (λ k d lt.
    let below : k + 1 < n = omega (arith, count, lt) in
    let here = at k d (omega (arith, below)) in
    let next = at (k + 1) d below in
    let rises = (run k no_lookup below).rising in
    omega (arith, here, next, rises))

-- its lookups are in one image
same_position : (lookups : List Lookup) (n : ℕ) (d : Lookup) → AllAdjacentBelow Continues lookups n → (k : ℕ) → k < n → (get_or lookups k d).position ≡ (get_or lookups 0 d).position
same_position lookups n d run zero lt = refl
same_position lookups n d run (suc k) lt =
    let next : k + 1 ≡ suc k = omega arith in
    subst (λ (j : ℕ). (get_or lookups j d).position ≡ (get_or lookups 0 d).position) next
    ((run k d (omega (arith, lt))).image ∙ same_position lookups n d run k (omega (arith, lt)))

one_image : (symbol : Option ℕ → ℕ → Option SymbolAt) (position : Option ℕ) (xs : List Lookup) → All (λ (l : Lookup). l.position ≡ position) xs
    → map (symbol position) (map address_of xs) ≡ map (answer symbol) xs
one_image symbol position [] all = refl
one_image symbol position (x ∷ xs) all =
    let here = sym (All-head (λ (l : Lookup). l.position ≡ position) x xs all) in
    let others = one_image symbol position xs (All-tail (λ (l : Lookup). l.position ≡ position) x xs all) in
    λ k. symbol (here k) x.address ∷ others k

-- so what is found in that image answers them
pub run_answers : (symbol : Option ℕ → ℕ → Option SymbolAt) (lookups : List Lookup) (n : ℕ) → n ≤ length lookups → AllAdjacentBelow Continues lookups n
    → map (symbol (get_or lookups 0 no_lookup).position) (map address_of (take n lookups)) ≡ map (answer symbol) (take n lookups)
run_answers symbol lookups n le run =
    let size : length (take n lookups) ≡ n = length-take-le n lookups le in
    one_image symbol (get_or lookups 0 no_lookup).position (take n lookups) (λ k d lt.
    let inside : k < n = omega (arith, size, lt) in
    let other = get_or_default lookups k d no_lookup (omega (arith, inside, le)) in
    ap (λ (l : Lookup). l.position) (get_or-take n lookups k d inside ∙ other) ∙ same_position lookups n no_lookup run k inside)

-- a run that begins at a place
pub rest_run : (lookups : List Lookup) (done n : ℕ) → AllAdjacentBelow Continues (take (length lookups - done) (drop done lookups)) n → AllAdjacentBelow Continues (drop done lookups) n
rest_run lookups done n run = subst (λ (ls : List Lookup). AllAdjacentBelow Continues ls n) (take_rest lookups done) run

pub run_inside : (lookups : List Lookup) (done n : ℕ) → done ≤ length lookups → n ≤ length (take (length lookups - done) (drop done lookups)) → n ≤ length (drop done lookups) × (done + n ≤ length lookups)
run_inside lookups done n le inside =
    let whole : length (take (length lookups - done) (drop done lookups)) ≡ length (drop done lookups) = ap length (take_rest lookups done) in
    let rest : length (drop done lookups) ≡ length lookups - done = length-drop done lookups in
    (omega (arith, inside, whole), omega (arith, inside, whole, rest, le))

-- and its addresses
pub run_addresses : (lookups : List Lookup) (addresses : List ℕ) (done n k : ℕ) → addresses ≡ map address_of lookups → k ≡ n
    → take k (drop done addresses) ≡ map address_of (take n (drop done lookups))
run_addresses lookups addresses done n k are same =
    (λ i. take (same i) (drop done (are i))) ∙ ap (take n) (drop-map address_of done lookups) ∙ take-map address_of n (drop done lookups)

pub run_room : (lookups : List Lookup) (addresses : List ℕ) (found : List (Option SymbolAt)) (done k : ℕ) → addresses ≡ map address_of lookups → length found ≡ length lookups
    → length (take k (drop done found)) ≡ length (take k (drop done addresses))
run_room lookups addresses found done k are size =
    let all : length found ≡ length addresses = size ∙ sym (length-map lookups address_of) ∙ sym (ap length are) in
    length-take k (drop done found)
    ∙ ap (λ (n : ℕ). min k n) (length-drop done found ∙ ap (λ (n : ℕ). n - done) all ∙ sym (length-drop done addresses))
    ∙ sym (length-take k (drop done addresses))

-- what is found for a run that begins at a place answers it
pub rest_answers : (symbol : Option ℕ → ℕ → Option SymbolAt) (lookups : List Lookup) (addresses : List ℕ) (more : List (Option SymbolAt)) (done n k : ℕ)
    → addresses ≡ map address_of lookups → k ≡ n → n ≤ length (drop done lookups) → AllAdjacentBelow Continues (drop done lookups) n
    → more ≡ map (symbol (get_or lookups done no_lookup).position) (take k (drop done addresses))
    → more ≡ map (answer symbol) (take n (drop done lookups))
rest_answers symbol lookups addresses more done n k are same le run found =
    let place : done + 0 ≡ done = omega arith in
    let first : get_or (drop done lookups) 0 no_lookup ≡ get_or lookups done no_lookup =
    get_or-drop done lookups 0 no_lookup ∙ ap (λ (i : ℕ). get_or lookups i no_lookup) place in
    found
    ∙ ap (map (symbol (get_or lookups done no_lookup).position)) (run_addresses lookups addresses done n k are same)
    ∙ ap (λ (l : Lookup). map (symbol l.position) (map address_of (take n (drop done lookups)))) (sym first)
    ∙ run_answers symbol (drop done lookups) n le run

-- as many stand there after a part was replaced
pub replaced_length : (found more : List (Option SymbolAt)) (done k : ℕ) → done + k ≤ length found → length more ≡ k → length (put_mid done k found more) ≡ length found
replaced_length found more done k le size =
    let front : length (take done found) ≡ done = length-take-le done found (omega (arith, le)) in
    let rest : length (drop k (drop done found)) ≡ length found - done - k = length-drop k (drop done found) ∙ ap (λ (n : ℕ). n - k) (length-drop done found) in
    let whole : length (put_mid done k found more) ≡ length (take done found) + (length more + length (drop k (drop done found))) =
    length-append (take done found) (more ++ drop k (drop done found)) ∙ ap (λ (n : ℕ). length (take done found) + n) (length-append more (drop k (drop done found))) in
    omega (arith, whole, front, rest, size, le)

-- one more run is answered
pub answers_more : (symbol : Option ℕ → ℕ → Option SymbolAt) (lookups : List Lookup) (found more : List (Option SymbolAt)) (done n : ℕ)
    → done + n ≤ length lookups → length found ≡ length lookups → take done found ≡ map (answer symbol) (take done lookups)
    → more ≡ map (answer symbol) (take n (drop done lookups)) → take (done + n) (put_mid done n found more) ≡ map (answer symbol) (take (done + n) lookups)
answers_more symbol lookups found more done n le size before here =
    let rest : length (drop done lookups) ≡ length lookups - done = length-drop done lookups in
    let taken : length (take n (drop done lookups)) ≡ n = length-take-le n (drop done lookups) (omega (arith, rest, le)) in
    let count : length more ≡ n = ap length here ∙ length-map (take n (drop done lookups)) (answer symbol) ∙ taken in
    take-put_mid done n found more (done + n) (omega (arith, count)) (omega (arith, size, le))
    ∙ (λ k. before k ++ here k)
    ∙ sym (map-append (answer symbol) (take done lookups) (take n (drop done lookups)))
    ∙ ap (map (answer symbol)) (sym (take-add done n lookups))

-- all are answered
pub answers_all : (symbol : Option ℕ → ℕ → Option SymbolAt) (lookups : List Lookup) (found : List (Option SymbolAt)) (done : ℕ)
    → length lookups ≤ done → length found ≡ length lookups → take done found ≡ map (answer symbol) (take done lookups) → found ≡ map (answer symbol) lookups
answers_all symbol lookups found done le size are =
    sym (take_all done found (omega (arith, size, le))) ∙ are ∙ ap (map (answer symbol)) (take_all done lookups le)
