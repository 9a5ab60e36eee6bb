-- The groups of a thread command, one step at a time.
use Rattle.std.proofs.Common.{◌≡◌, ℕ, zero, suc, ◌+◌, ◌*◌, ◌<◌, ◌≤◌, nat_lt, Bool, true, false, cond, ◌⊎◌, inl, inr, List, [], ◌∷◌, length, take, drop, Option, Some, None, option_map, if◌then◌else◌, refl, sym, ap, ◌∙◌, arith}
use Rattle.std.specs.Option.{option_or}
use Rattle.std.proofs.lemmas.Bool.{lt-ltb, le-ltb, ltb-true, ltb-false}
use Rattle.std.proofs.lemmas.List.{length-drop}
use Rattle.plcr_loader.specs.declared.thread_group.TheConstants.{LENGTH, FLAVOR, COUNT, WORD}
use Rattle.plcr_loader.specs.Fields.{number}
use Rattle.plcr_regs.specs.declared.arch.Arch.{Arch}
use Rattle.plcr_regs.specs.declared.registers.Registers.{Registers}
use Rattle.plcr_regs.specs.States.{state_in}
use Rattle.plcr_core.specs.Groups.{Group, state_length, group_at_front, first_groups, groups_in, first_state, AreGroups}

-- where the next group begins
abbrev next_place : List ℕ → ℕ
next_place bytes = LENGTH + state_length bytes

-- the step of first_groups, with what is found in the rest
abbrev with_rest : List ℕ → Option (List Group) → Option (List Group)
with_rest bytes found =
    if nat_lt (length bytes) LENGTH then Some [] else
    if nat_lt (length bytes) (next_place bytes) then None else
    option_map (λ groups. group_at_front bytes ∷ groups) found

short : (most : ℕ) (bytes : List ℕ) → length bytes < LENGTH → first_groups most bytes ≡ Some []
short zero bytes h = refl
short (suc most) bytes h = let e : nat_lt (length bytes) LENGTH ≡ true = lt-ltb (length bytes) LENGTH h in rw e

-- more fuel than bytes finds the same
enough : (n m : ℕ) (bytes : List ℕ) → length bytes ≤ n → length bytes ≤ m → first_groups n bytes ≡ first_groups m bytes
enough zero m bytes p q = sym (short m bytes (omega arith))
enough (suc n) zero bytes p q = short (suc n) bytes (omega arith)
enough (suc n) (suc m) bytes p q =
    let rest = drop (next_place bytes) bytes in
    let size = length-drop (next_place bytes) bytes in
    ap (with_rest bytes) (enough n m rest (omega (arith, size)) (omega (arith, size)))

-- the groups are the one at the front and those of the rest
pub groups_step : (bytes : List ℕ) → groups_in bytes ≡ with_rest bytes (groups_in (drop (next_place bytes) bytes))
unfolding groups_in
groups_step bytes =
    let rest = drop (next_place bytes) bytes in
    let size = length-drop (next_place bytes) bytes in
    enough (length bytes) (suc (length bytes)) bytes (omega arith) (omega arith)
    ∙ ap (with_rest bytes) (enough (length bytes) (length rest) rest (omega (arith, size)) (omega arith))

-- the first accepted state of the groups
abbrev pub accepted_in : Arch → List ℕ → Option (Option Registers)
accepted_in arch bytes = option_map (first_state arch) (groups_in bytes)

pub accepted_none : (arch : Arch) (bytes : List ℕ) → length bytes < LENGTH → accepted_in arch bytes ≡ Some None
accepted_none arch bytes h =
    let e : nat_lt (length bytes) LENGTH ≡ true = lt-ltb (length bytes) LENGTH h in
    let none : with_rest bytes (groups_in (drop (next_place bytes) bytes)) ≡ Some [] = rw e in
    ap (option_map (first_state arch)) (groups_step bytes ∙ none)

pub accepted_past : (arch : Arch) (bytes : List ℕ) → LENGTH ≤ length bytes → length bytes < LENGTH + WORD * number COUNT bytes → accepted_in arch bytes ≡ None
accepted_past arch bytes long past =
    let e : nat_lt (length bytes) LENGTH ≡ false = le-ltb (length bytes) LENGTH long in
    let f : nat_lt (length bytes) (LENGTH + WORD * number COUNT bytes) ≡ true = lt-ltb (length bytes) (LENGTH + WORD * number COUNT bytes) past in
    let past : with_rest bytes (groups_in (drop (next_place bytes) bytes)) ≡ None = rw (e, f) in
    ap (option_map (first_state arch)) (groups_step bytes ∙ past)

-- the first accepted state after a group
first_after : (arch : Arch) (group : Group) (found : Option (List Group)) → option_map (first_state arch) (option_map (λ groups. group ∷ groups) found) ≡ option_map (option_or (state_in arch group.flavor group.state)) (option_map (first_state arch) found)
first_after arch group None = refl
first_after arch group (Some groups) = refl

pub accepted_step : (arch : Arch) (bytes : List ℕ) → LENGTH + WORD * number COUNT bytes ≤ length bytes → accepted_in arch bytes ≡ option_map (option_or (state_in arch (number FLAVOR bytes) (take (WORD * number COUNT bytes) (drop LENGTH bytes)))) (accepted_in arch (drop (LENGTH + WORD * number COUNT bytes) bytes))
accepted_step arch bytes long =
    let e : nat_lt (length bytes) LENGTH ≡ false = le-ltb (length bytes) LENGTH (omega arith) in
    let f : nat_lt (length bytes) (LENGTH + WORD * number COUNT bytes) ≡ false = le-ltb (length bytes) (LENGTH + WORD * number COUNT bytes) long in
    let more : with_rest bytes (groups_in (drop (next_place bytes) bytes)) ≡ option_map (λ groups. group_at_front bytes ∷ groups) (groups_in (drop (next_place bytes) bytes)) = rw (e, f) in
    ap (option_map (first_state arch)) (groups_step bytes ∙ more)
    ∙ first_after arch (group_at_front bytes) (groups_in (drop (LENGTH + WORD * number COUNT bytes) bytes))

-- a state found earlier stays the first
pub or_again : (a b : Option Registers) (found : Option (Option Registers)) → option_map (option_or (option_or a b)) found ≡ option_map (option_or a) (option_map (option_or b) found)
or_again a b None = refl
or_again None b (Some c) = refl
or_again (Some x) b (Some c) = refl

-- a turn of the loop: the group at the front is read, and its state counts where none was accepted before
pub turn : (arch : Arch) (groups rest others : List ℕ) (before found after : Option Registers)
    → option_map (option_or before) (accepted_in arch rest) ≡ accepted_in arch groups
    → LENGTH + WORD * number COUNT rest ≤ length rest
    → found ≡ state_in arch (number FLAVOR rest) (take (WORD * number COUNT rest) (drop LENGTH rest))
    → others ≡ drop (LENGTH + WORD * number COUNT rest) rest
    → after ≡ option_or before found
    → option_map (option_or after) (accepted_in arch others) ≡ accepted_in arch groups
turn arch groups rest others before found after so_far long found_is others_is after_is =
    let step : accepted_in arch rest ≡ option_map (option_or found) (accepted_in arch others) = rw (found_is, others_is) (accepted_step arch rest long) in
    rw after_is (or_again before found (accepted_in arch others) ∙ ap (option_map (option_or before)) (sym step) ∙ so_far)

-- after the last group the state kept is the accepted one
pub done : (arch : Arch) (groups rest : List ℕ) (kept : Option Registers) → option_map (option_or kept) (accepted_in arch rest) ≡ accepted_in arch groups → length rest < LENGTH → Some kept ≡ accepted_in arch groups
done arch groups rest kept so_far short =
    let none : (a : Option Registers) → Some a ≡ option_map (option_or a) (Some None) = λ a. elim a as (λ o. Some o ≡ option_map (option_or o) (Some None)) [ None ↦ refl | Some x ↦ refl ] in
    none kept ∙ ap (option_map (option_or kept)) (sym (accepted_none arch rest short)) ∙ so_far

-- what a list of groups comes from
steps_of : (b past : Bool) (front : Group) (found : Option (List Group)) (groups : List Group)
    → cond b (Some []) (cond past None (option_map (λ gs. front ∷ gs) found)) ≡ Some groups
    → ((b ≡ true) × (groups ≡ [])) ⊎ ((past ≡ false) × (others : List Group) × (found ≡ Some others) × (groups ≡ front ∷ others))
steps_of true past front found groups h = inl (refl, cc)
steps_of false true front found groups h = absurd cc
steps_of false false front None groups h = absurd cc
steps_of false false front (Some others) groups h = inr (refl, others, refl, cc)

-- the step that a list of groups comes from, as facts on the bytes
Step : List ℕ → List Group → Type 0
Step bytes groups =
    ((nat_lt (length bytes) LENGTH ≡ true) × (groups ≡ []))
    ⊎ ((nat_lt (length bytes) (next_place bytes) ≡ false) × (others : List Group) × (groups_in (drop (next_place bytes) bytes) ≡ Some others) × (groups ≡ group_at_front bytes ∷ others))

step_of : (bytes : List ℕ) (groups : List Group) → groups_in bytes ≡ Some groups → Step bytes groups
unfolding Step
step_of bytes groups h =
    steps_of (nat_lt (length bytes) LENGTH) (nat_lt (length bytes) (next_place bytes)) (group_at_front bytes) (groups_in (drop (next_place bytes) bytes)) groups (sym (groups_step bytes) ∙ h)

none_stands : (bytes : List ℕ) → Step bytes [] → length bytes < LENGTH
unfolding Step
none_stands bytes (inl h) = ltb-true (length bytes) LENGTH h.0
none_stands bytes (inr h) = absurd (let e : [] ≡ group_at_front bytes ∷ h.1 = h.3 in cc)

one_stands : (bytes : List ℕ) (group : Group) (groups : List Group) → Step bytes (group ∷ groups)
    → (next_place bytes ≤ length bytes) × (group ≡ group_at_front bytes) × (groups_in (drop (next_place bytes) bytes) ≡ Some groups)
unfolding Step
one_stands bytes group groups (inl h) = absurd (let e : group ∷ groups ≡ [] = h.1 in cc)
one_stands bytes group groups (inr h) =
    let e : group ∷ groups ≡ group_at_front bytes ∷ h.1 = h.3 in
    (ltb-false (length bytes) (next_place bytes) h.0, cc, rw (let o : groups ≡ h.1 = cc in o) h.2)

-- the groups found stand in the bytes
pub groups_stand : (groups : List Group) (bytes : List ℕ) → groups_in bytes ≡ Some groups → AreGroups bytes groups
groups_stand [] bytes h = none_stands bytes (step_of bytes [] h)
groups_stand (group ∷ groups) bytes h =
    let one = one_stands bytes group groups (step_of bytes (group ∷ groups) h) in
    (one.0, one.1, groups_stand groups (drop (next_place bytes) bytes) one.2)

-- the groups that stand in the bytes are found
pub groups_found : (groups : List Group) (bytes : List ℕ) → AreGroups bytes groups → groups_in bytes ≡ Some groups
groups_found [] bytes short =
    let e : nat_lt (length bytes) LENGTH ≡ true = lt-ltb (length bytes) LENGTH short in
    let none : with_rest bytes (groups_in (drop (next_place bytes) bytes)) ≡ Some [] = rw e in
    groups_step bytes ∙ none
groups_found (group ∷ groups) bytes h =
    let e : nat_lt (length bytes) LENGTH ≡ false = le-ltb (length bytes) LENGTH (omega (arith, h.0)) in
    let f : nat_lt (length bytes) (next_place bytes) ≡ false = le-ltb (length bytes) (next_place bytes) h.0 in
    let found = groups_found groups (drop (next_place bytes) bytes) h.2 in
    let more : with_rest bytes (groups_in (drop (next_place bytes) bytes)) ≡ Some (group ∷ groups) = rw (e, f, found, h.1) in
    groups_step bytes ∙ more
