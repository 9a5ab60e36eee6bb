-- Which spots can't have an address, so that a search may pass them over.
use Rattle.std.proofs.Common.{◌≡◌, ◌≤◌, ◌<◌, ℕ, suc, ◌+◌, ◌-◌, ◌^◌, Bool, false, ◌&&◌, ltb, leb, if◌then◌else◌, List, [], ◌∷◌, ◌++◌, length, get_or, take, drop, Some, None, refl, sym, ap, ◌∙◌, subst, arith}
use Rattle.std.proofs.lemmas.Bool.{le-ltb, lt-leb}
use Rattle.std.proofs.lemmas.List.{take-append-drop, get_or-take, get_or-drop, length-take, length-drop}
use Rattle.plcr_base.proofs.Plain.{and_false}
use Rattle.plcr_macho.specs.declared.spot.Spot.{Spot}
use Rattle.plcr_macho.specs.Index.{has_address, lesser, least_over}
use Rattle.plcr_macho.specs.Spots.{end_of, extent_of, extents_of}

-- none of the spots has the address
abbrev pub NoneHas : ℕ → List Spot → Type 0
NoneHas address spots = (k : ℕ) (d : Spot) → k < length spots → has_address address (extent_of (get_or spots k d)) ≡ false

-- a spot that starts behind the address, and one that ends before it
pub starts_past : (address : ℕ) (s : Spot) → address < s.start → has_address address (extent_of s) ≡ false
starts_past address s past = ap (λ (b : Bool). b && ltb (address - s.start) s.size) (lt-leb s.start address past)

pub ends_before : (address : ℕ) (s : Spot) → end_of s < address → address < 2 ^ 64 → has_address address (extent_of s) ≡ false
ends_before address s before most =
    ap (λ (b : Bool). leb s.start address && b) (le-ltb (address - s.start) s.size (omega (arith, before, most))) ∙ and_false (leb s.start address)

-- spots that haven't the address change no answer
pub passed_over : (address : ℕ) (front rest : List Spot) → NoneHas address front → least_over (extents_of (front ++ rest)) address ≡ least_over (extents_of rest) address
passed_over address [] rest none = refl
passed_over address (s ∷ front) rest none =
    ap (λ (b : Bool). if b then Some (lesser s.position (least_over (extents_of (front ++ rest)) address)) else least_over (extents_of (front ++ rest)) address) (none 0 s (omega arith))
    ∙ passed_over address front rest (λ k d below. none (suc k) d (omega (arith, below)))

pub none_has : (address : ℕ) (spots : List Spot) → NoneHas address spots → None ≡ least_over (extents_of spots) address
none_has address [] none = refl
none_has address (s ∷ spots) none =
    none_has address spots (λ k d below. none (suc k) d (omega (arith, below)))
    ∙ sym (ap (λ (b : Bool). if b then Some (lesser s.position (least_over (extents_of spots) address)) else least_over (extents_of spots) address) (none 0 s (omega arith)))

-- the spots from a place on start behind the address
pub none_behind : (address : ℕ) (spots : List Spot) (i : ℕ) → ((k : ℕ) (d : Spot) → i ≤ k → k < length spots → address < (get_or spots k d).start) → None ≡ least_over (extents_of (drop i spots)) address
none_behind address spots i past =
    none_has address (drop i spots)
    (λ k d below. starts_past address (get_or (drop i spots) k d)
    (subst (λ (s : Spot). address < s.start) (sym (get_or-drop i spots k d)) (past (i + k) d (omega arith) (omega (arith, below, length-drop i spots)))))

-- the spots up to a place end before the address
pub none_before : (address : ℕ) (spots : List Spot) (i : ℕ) → address < 2 ^ 64 → i ≤ length spots → ((k : ℕ) (d : Spot) → k < i → end_of (get_or spots k d) < address)
    → least_over (extents_of (drop i spots)) address ≡ least_over (extents_of spots) address
none_before address spots i most inside before =
    sym (passed_over address (take i spots) (drop i spots)
    (λ k d below. let here : k < i = omega (arith, below, length-take i spots) in
    ends_before address (get_or (take i spots) k d) (subst (λ (s : Spot). end_of s < address) (sym (get_or-take i spots k d here)) (before k d here)) most))
    ∙ ap (λ (ss : List Spot). least_over (extents_of ss) address) (take-append-drop i spots)
