-- Lists of shares: which scripts are among them, to whom they belong, and what the parts say of them.
use Rattle.std.proofs.Common.{◌≡◌, ◌≢◌, ℕ, zero, suc, ◌+◌, ◌<◌, ◌⊎◌, inl, inr, ⊎_elim, Bool, true, false, ◌||◌, ◌==◌, eqb, eqb-true, List, [], ◌∷◌, ◌++◌, length, Option, Some, None, slice_get, refl, sym, ap, ◌∙◌, subst, append_assoc, arith}
use Rattle.std.proofs.lemmas.Bool.{or_cases, or_left, or_right}
use Rattle.std.proofs.lemmas.Option.{slice_get_within}
use Rattle.plcr_machine.proofs.Cases.{by_cases, eqb_same, not_both}
use mathlib.Core.List.{IsPrefix}
use Rattle.plcr_turns.specs.declared.lines.ChangeLine.{ChangeLine}
use Rattle.plcr_turns.specs.declared.turn.Part.{Part}
use Rattle.plcr_turns.specs.declared.view.Share.{Share}
use Rattle.plcr_turns.specs.Views.{shares_from, has_share, Agrees, part_or, renewed, AllBegin}
use Rattle.plcr_turns.specs.Rule.{Belong, AreApart}

-- what begins what begins a list begins it
pub prefix_itself : {A : Type 0} (xs : List A) → IsPrefix xs xs
prefix_itself [] = ([], refl)
prefix_itself (x ∷ xs) = let r = prefix_itself xs in (r.0, ap (λ l. x ∷ l) r.1)

pub prefix_again : {A : Type 0} (xs ys zs : List A) → IsPrefix xs ys → IsPrefix ys zs → IsPrefix xs zs
prefix_again xs ys zs f g = (f.0 ++ g.0, sym (append_assoc xs f.0 g.0) ∙ ap (λ l. l ++ g.0) f.1 ∙ g.1)

pub begin_longer : (journals : List (List ChangeLine)) (ys zs : List ChangeLine) → AllBegin journals ys → IsPrefix ys zs → AllBegin journals zs
begin_longer [] ys zs all p = tt
begin_longer (xs ∷ journals) ys zs all p = (prefix_again xs ys zs all.0 p, begin_longer journals ys zs all.1 p)

pub begin_both : (some others : List (List ChangeLine)) (ys : List ChangeLine) → AllBegin some ys → AllBegin others ys → AllBegin (some ++ others) ys
begin_both [] others ys a b = b
begin_both (xs ∷ journals) others ys a b = (a.0, begin_both journals others ys a.1 b)

-- the script of the first share is among them, and that of a later one
pub has_first : (share : Share) (shares : List Share) → has_share share.script (share ∷ shares) ≡ true
has_first share shares = or_left (eqb share.script share.script) (has_share share.script shares) (eqb_same share.script)

pub has_later : (script : ℕ) (share : Share) (shares : List Share) → has_share script shares ≡ true → has_share script (share ∷ shares) ≡ true
has_later script share shares h = or_right (eqb share.script script) (has_share script shares) h

-- one among them is the first's or a later one's
pub has_cases : {P : Type 0} (script : ℕ) (share : Share) (shares : List Share) → has_share script (share ∷ shares) ≡ true → (share.script ≡ script → P) → (has_share script shares ≡ true → P) → P
has_cases script share shares h first later = ⊎_elim (λ e. first (eqb-true share.script script e)) later (or_cases (eqb share.script script) (has_share script shares) h)

pub has_left : (script : ℕ) (some others : List Share) → has_share script some ≡ true → has_share script (some ++ others) ≡ true
has_left script [] others h = not_both false h refl
has_left script (share ∷ some) others h =
    has_cases script share some h (λ e. subst (λ s. has_share s (share ∷ (some ++ others)) ≡ true) e (has_first share (some ++ others)))
    (λ l. has_later script share (some ++ others) (has_left script some others l))

pub has_right : (script : ℕ) (some others : List Share) → has_share script others ≡ true → has_share script (some ++ others) ≡ true
has_right script [] others h = h
has_right script (share ∷ some) others h = has_later script share (some ++ others) (has_right script some others h)

pub has_either : (script : ℕ) (some others : List Share) → has_share script some ≡ false → has_share script others ≡ false → has_share script (some ++ others) ≡ false
has_either script [] others a b = b
has_either script (share ∷ some) others a b = by_cases (has_share script (share ∷ (some ++ others)))
    (λ h. absurd (has_cases script share (some ++ others) h (λ e. not_both _ (subst (λ s. has_share s (share ∷ some) ≡ true) e (has_first share some)) a)
    (λ l. not_both _ l (has_either script some others (by_cases (has_share script some) (λ t. not_both _ (has_later script share some t) a) (λ f. f)) b))))
    (λ f. f)

pub has_other : (script : ℕ) (some others : List Share) → has_share script (some ++ others) ≡ true → has_share script some ≡ false → has_share script others ≡ true
has_other script [] others h a = h
has_other script (share ∷ some) others h a =
    has_cases script share (some ++ others) h (λ e. not_both _ (subst (λ s. has_share s (share ∷ some) ≡ true) e (has_first share some)) a)
    (λ l. has_other script some others l (by_cases (has_share script some) (λ t. not_both _ (has_later script share some t) a) (λ f. f)))

-- shares belong to whom their scripts belong to
pub belong_to : (owner : ℕ → ℕ) (pass : ℕ) (shares : List Share) → Belong owner pass shares → (script : ℕ) → has_share script shares ≡ true → owner script ≡ pass
belong_to owner pass [] b script h = not_both false h refl
belong_to owner pass (share ∷ shares) b script h = has_cases script share shares h (λ e. ap owner (sym e) ∙ b.0) (λ l. belong_to owner pass shares b.1 script l)

pub belong_if : (owner : ℕ → ℕ) (pass : ℕ) (shares : List Share) → ((script : ℕ) → has_share script shares ≡ true → owner script ≡ pass) → Belong owner pass shares
belong_if owner pass [] all = tt
belong_if owner pass (share ∷ shares) all = (all share.script (has_first share shares), belong_if owner pass shares (λ s h. all s (has_later s share shares h)))

-- parts that say the same of their scripts agree
pub agrees_at : (parts : List Part) (shares : List Share) → Agrees parts shares → (script : ℕ) → has_share script shares ≡ true → script < length parts
agrees_at parts [] a script h = not_both false h refl
agrees_at parts (share ∷ shares) a script h =
    has_cases script share shares h (λ e. subst (λ s. s < length parts) e (slice_get_within parts share.script share.part a.0)) (λ l. agrees_at parts shares a.1 script l)

pub agrees_still : (parts new : List Part) (shares : List Share) → Agrees parts shares → ((script : ℕ) → has_share script shares ≡ true → slice_get new script ≡ slice_get parts script) → Agrees new shares
agrees_still parts new [] a same = tt
agrees_still parts new (share ∷ shares) a same =
    (same share.script (has_first share shares) ∙ a.0, agrees_still parts new shares a.1 (λ s h. same s (has_later s share shares h)))

pub agrees_both : (parts : List Part) (some others : List Share) → Agrees parts some → Agrees parts others → Agrees parts (some ++ others)
agrees_both parts [] others a b = b
agrees_both parts (share ∷ some) others a b = (a.0, agrees_both parts some others a.1 b)

-- no script twice, in both
pub apart_both : (some others : List Share) → AreApart some → AreApart others → ((script : ℕ) → has_share script some ≡ true → has_share script others ≡ false) → AreApart (some ++ others)
apart_both [] others a b none = b
apart_both (share ∷ some) others a b none =
    (has_either share.script some others a.0 (none share.script (has_first share some)), apart_both some others a.1 b (λ s h. none s (has_later s share some h)))

-- renewed shares are of the same scripts, and the parts say what they say
pub renewed_same : (parts : List Part) (script : ℕ) (shares : List Share) → has_share script (renewed parts shares) ≡ has_share script shares
renewed_same parts script [] = refl
renewed_same parts script (share ∷ shares) = ap (λ b. (share.script == script) || b) (renewed_same parts script shares)

pub renewed_apart : (parts : List Part) (shares : List Share) → AreApart shares → AreApart (renewed parts shares)
renewed_apart parts [] a = tt
renewed_apart parts (share ∷ shares) a = (renewed_same parts share.script shares ∙ a.0, renewed_apart parts shares a.1)

pub renewed_some : (parts : List Part) (shares : List Share) → shares ≢ [] → renewed parts shares ≢ []
renewed_some parts [] some = absurd (some refl)
renewed_some parts (share ∷ shares) some = λ e. absurd (let e' : suc (length (renewed parts shares)) ≡ 0 = ap length e in omega arith)

part_there : (parts : List Part) (script : ℕ) (part : Part) → script < length parts → slice_get parts script ≡ Some (part_or (slice_get parts script) part)
part_there [] script part h = absurd (omega arith)
part_there (p ∷ parts) zero part h = refl
part_there (p ∷ parts) (suc script) part h = part_there parts script part (omega arith)

pub renewed_agrees : (parts : List Part) (shares : List Share) → ((script : ℕ) → has_share script shares ≡ true → script < length parts) → Agrees parts (renewed parts shares)
renewed_agrees parts [] all = tt
renewed_agrees parts (share ∷ shares) all =
    (part_there parts share.script share.part (all share.script (has_first share shares)), renewed_agrees parts shares (λ s h. all s (has_later s share shares h)))

-- the shares of all parts
pub from_below : (parts : List Part) (from script : ℕ) → script < from → has_share script (shares_from from parts) ≡ false
from_below [] from script h = refl
from_below (part ∷ parts) from script h = by_cases (has_share script (shares_from from (part ∷ parts)))
    (λ t. absurd (has_cases script (record { script = from; part = part }) (shares_from (suc from) parts) t (λ e. omega arith) (λ l. not_both _ l (from_below parts (suc from) script (omega arith)))))
    (λ f. f)

pub from_apart : (parts : List Part) (from : ℕ) → AreApart (shares_from from parts)
from_apart [] from = tt
from_apart (part ∷ parts) from = (from_below parts (suc from) from (omega arith), from_apart parts (suc from))

after_front : {A : Type 0} (before : List A) (x : A) (after : List A) (n : ℕ) → n ≡ length before → slice_get (before ++ x ∷ after) n ≡ Some x
after_front [] x after zero e = refl
after_front [] x after (suc n) e = absurd (omega arith)
after_front (y ∷ before) x after zero e = absurd (omega arith)
after_front (y ∷ before) x after (suc n) e = after_front before x after n (omega arith)

longer : (before : List Part) (part : Part) (n : ℕ) → n ≡ length before → suc n ≡ length (before ++ part ∷ [])
longer [] part n e = ap suc e
longer (p ∷ ps) part zero e = absurd (omega arith)
longer (p ∷ ps) part (suc n) e = ap suc (longer ps part n (omega arith))

pub from_agrees : (before parts : List Part) (from : ℕ) → from ≡ length before → Agrees (before ++ parts) (shares_from from parts)
from_agrees before [] from e = tt
from_agrees before (part ∷ parts) from e = (
  after_front before part parts from e,
  subst (λ ps. Agrees ps (shares_from (suc from) parts)) (append_assoc before (part ∷ []) parts) (from_agrees (before ++ part ∷ []) parts (suc from) (longer before part from e)),
)

pub other_of : (m n : ℕ) → eqb m n ≡ false → m ≢ n
other_of m n f e = not_both (eqb m n) (subst (λ k. eqb m k ≡ true) e (eqb_same m)) f

pub from_has : (parts : List Part) (from script : ℕ) → from < suc script → script < from + length parts → has_share script (shares_from from parts) ≡ true
from_has [] from script a b = absurd (omega arith)
from_has (part ∷ parts) from script a b =
    by_cases (eqb from script) (λ e. or_left (eqb from script) (has_share script (shares_from (suc from) parts)) e)
    (λ f. or_right (eqb from script) (has_share script (shares_from (suc from) parts)) (from_has parts (suc from) script (let n = other_of from script f in omega arith) (omega arith)))
