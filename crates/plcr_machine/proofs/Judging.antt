-- Lists that stand one after the other, and the tests of a lawful walk.
use Rattle.std.proofs.Common.{◌≡◌, ℕ, zero, suc, ◌+◌, ◌<◌, ◌≤◌, List, [], ◌∷◌, ◌++◌, length, reverse, take, drop, get_or, true, false, cond, ◌||◌, eqb, ltb, refl, sym, ap, ◌∙◌, subst, arith, le_refl, Contains, Option, Some, None, ⊎_elim}
use Rattle.std.specs.Prelude.{Vec}
use Rattle.std.specs.Global.{Global}
use Rattle.std.specs.List.{list_any, position_or_len}
use Rattle.std.proofs.Math.Seq.{drop-cons}
use Rattle.std.proofs.lemmas.List.{reverse-append, length-append, length-reverse, length-take-le, take-append-drop, take_more}
use Rattle.std.proofs.lemmas.Bool.{le-leb, lt-leb, lt-ltb, le-ltb, ltb-true, ltb-false}
use Rattle.plcr_machine.specs.declared.change.Named.{Named}
use Rattle.plcr_machine.specs.declared.change.Change.{Change}
use Rattle.plcr_machine.specs.Walks.{RisesAbove, is_listed, first_of_list, next_in, last_with, follow, IsLawfulWalk}
use Rattle.plcr_machine.specs.Changes.{load_of, without_first, list_of, first_changes, lists_at}
use Rattle.plcr_machine.specs.inner.Judging.{WasListed, StayedListed, EachWasListed, NoneWasMissed}
use Rattle.std.proofs.lemmas.Bool.{cases_eq}
use Rattle.plcr_machine.proofs.Cases.{by_cases}
use Rattle.plcr_machine.proofs.Rising.{some_same, contains_here, contains_later, contains_cases, contains_none}

pub listed-any : (i : ℕ) (xs : List Named) → list_any (λ x. eqb x.load i) xs ≡ is_listed load_of i xs
listed-any i [] = refl
listed-any i (x ∷ xs) = ap (λ b. eqb x.load i || b) (listed-any i xs)

-- a list without its first image with a header, by the place of that
abbrev place : ℕ → List Named → ℕ
place header xs = position_or_len (λ x. eqb x.header header) xs

without_first-place : (header : ℕ) (xs : List Named)
    → without_first header xs ≡ cond (ltb (place header xs) (length xs)) (take (place header xs) xs ++ drop (suc (place header xs)) xs) xs
without_first-place header [] = refl
without_first-place header (x ∷ xs) =
    by_cases (eqb x.header header)
    (λ e. let here : ltb 0 (suc (length xs)) ≡ true = lt-ltb 0 (suc (length xs)) (omega arith) in rw (e, here) refl)
    (λ e. let before = without_first-place header xs in
    let one : 1 + place header xs ≡ suc (place header xs) = omega arith in
    by_cases (ltb (place header xs) (length xs))
    (λ t. let inside = ltb-true (place header xs) (length xs) t in
    let later : ltb (suc (place header xs)) (suc (length xs)) ≡ true = lt-ltb (suc (place header xs)) (suc (length xs)) (omega (arith, inside)) in
    let here : without_first header xs ≡ take (place header xs) xs ++ drop (suc (place header xs)) xs = rw t at before in
    rw (e, one, later) (ap (λ (l : List Named). x ∷ l) here))
    (λ t. let past = ltb-false (place header xs) (length xs) t in
    let later : ltb (suc (place header xs)) (suc (length xs)) ≡ false = le-ltb (suc (place header xs)) (suc (length xs)) (omega (arith, past)) in
    let here : without_first header xs ≡ xs = rw t at before in
    rw (e, one, later) (ap (λ (l : List Named). x ∷ l) here)))

-- where the first place was found, and where there is none
pub without_first-found : (header : ℕ) (xs : List Named) (o : Option ℕ) (at : ℕ) → o ≡ cond (ltb (place header xs) (length xs)) (Some (place header xs)) None → o ≡ Some at
    → without_first header xs ≡ take at xs ++ drop (suc at) xs
without_first-found header xs o at is some =
    by_cases (ltb (place header xs) (length xs))
    (λ t. let found : o ≡ Some (place header xs) = rw t at is in
    let same : place header xs ≡ at = some_same (place header xs) at (sym found ∙ some) in
    let here : without_first header xs ≡ take (place header xs) xs ++ drop (suc (place header xs)) xs = rw t at (without_first-place header xs) in
    subst (λ k. without_first header xs ≡ take k xs ++ drop (suc k) xs) same here)
    (λ t. let none : o ≡ None = rw t at is in let clash : Some at ≡ None = sym some ∙ none in cc)

pub without_first-none : (header : ℕ) (xs : List Named) (o : Option ℕ) → o ≡ cond (ltb (place header xs) (length xs)) (Some (place header xs)) None → o ≡ None
    → without_first header xs ≡ xs
without_first-none header xs o is none =
    by_cases (ltb (place header xs) (length xs))
    (λ t. let found : o ≡ Some (place header xs) = rw t at is in let clash : Some (place header xs) ≡ None = sym found ∙ none in cc)
    (λ t. rw t at (without_first-place header xs))

pub lists_at-get : (lists : List (Vec Named Global)) (j : ℕ) (d : Vec Named Global) → j < length lists → lists_at lists j ≡ (get_or lists j d).items
lists_at-get [] j d lt = absurd (omega (arith, lt))
lists_at-get (v ∷ lists) zero d lt = refl
lists_at-get (v ∷ lists) (suc j) d lt = lists_at-get lists j d (omega (arith, lt))

pub lists_at-old : (lists : List (Vec Named Global)) (v : Vec Named Global) (j : ℕ) → j < length lists → lists_at (lists ++ v ∷ []) j ≡ lists_at lists j
lists_at-old [] v j lt = absurd (omega (arith, lt))
lists_at-old (w ∷ lists) v zero lt = refl
lists_at-old (w ∷ lists) v (suc j) lt = lists_at-old lists v j (omega (arith, lt))

pub lists_at-last : (lists : List (Vec Named Global)) (v : Vec Named Global) → lists_at (lists ++ v ∷ []) (length lists) ≡ v.items
lists_at-last [] v = refl
lists_at-last (w ∷ lists) v = lists_at-last lists v

-- the first changes, oldest first
first_changes-all : (j : ℕ) (cs : List Change) → length cs ≤ j → first_changes j cs ≡ cs
first_changes-all j [] le = refl
first_changes-all j (c ∷ cs) le = rw (le-leb (suc (length cs)) j le) refl

first_changes-past : (j : ℕ) (added cs : List Change) → length cs ≡ j → first_changes j (added ++ cs) ≡ cs
first_changes-past j [] cs e = first_changes-all j cs (omega (arith, e))
first_changes-past j (c ∷ added) cs e =
    let more = length-append added cs in
    rw (lt-leb (suc (length (added ++ cs))) j (omega (arith, e, more))) (first_changes-past j added cs e)

pub first_changes-reverse : (j : ℕ) (cs : List Change) → j ≤ length cs → first_changes j (reverse cs) ≡ reverse (take j cs)
first_changes-reverse j cs le =
    let whole : reverse cs ≡ reverse (drop j cs) ++ reverse (take j cs) = ap (λ (l : List Change). reverse l) (sym (take-append-drop j cs)) ∙ reverse-append (take j cs) (drop j cs) in
    let long : length (reverse (take j cs)) ≡ j = length-reverse (take j cs) ∙ length-take-le j cs le in
    ap (λ (l : List Change). first_changes j l) whole ∙ first_changes-past j (reverse (drop j cs)) (reverse (take j cs)) long

pub reverse-more : (cs : List Change) (i : ℕ) (c : Change) → i < length cs → c ≡ get_or cs i c → c ∷ reverse (take i cs) ≡ reverse (take (i + 1) cs)
reverse-more cs i c lt is =
    let more : take (i + 1) cs ≡ take i cs ++ c ∷ [] = take_more cs i c lt ∙ ap (λ (x : Change). take i cs ++ x ∷ []) (sym is) in
    sym (ap (λ (l : List Change). reverse l) more ∙ reverse-append (take i cs) (c ∷ []))

-- lists with one more behind them
pub lists_at-pushed : (lists : List (Vec Named Global)) (v : Vec Named Global) (cs : List Change) (i : ℕ) → length lists ≡ i → ((j : ℕ) → j < i → lists_at lists j ≡ list_of (reverse (take j cs)))
    → v.items ≡ list_of (reverse (take i cs)) → (j : ℕ) → j < i + 1 → lists_at (lists ++ v ∷ []) j ≡ list_of (reverse (take j cs))
lists_at-pushed lists v cs i long old last j lt =
    ⊎_elim
    (λ (e : j ≡ i). let at : length lists ≡ j = omega (arith, long, e) in
    subst (λ k. lists_at (lists ++ v ∷ []) k ≡ v.items) at (lists_at-last lists v) ∙ last ∙ ap (λ k. list_of (reverse (take k cs))) (sym e))
    (λ (n : j ≡ i → ⊥). lists_at-old lists v j (omega (arith, long, n)) ∙ old j (omega (arith, n))) (cases_eq j i)

pub follow-first : (lists : ℕ → List Named) (i j : ℕ) → i ≡ 0 → follow load_of lists i j ≡ first_of_list load_of (lists j)
follow-first lists i j e = subst (λ k. follow load_of lists k j ≡ first_of_list load_of (lists j)) (sym e) refl

pub follow-later : (lists : ℕ → List Named) (i j : ℕ) → (i ≡ 0 → ⊥) → follow load_of lists i j ≡ next_in load_of i (lists (last_with load_of lists i j))
follow-later lists zero j n = absurd (n refl)
follow-later lists (suc i) j n = refl

-- what holds below a number and at it
pub up_to : (P : ℕ → Type 0) (from at : ℕ) → ((j : ℕ) → from ≤ j → j < at → P j) → P at → (j : ℕ) → from ≤ j → j < at + 1 → P j
up_to P from at below here j low high =
    ⊎_elim (λ (e : j ≡ at). subst P (sym e) here) (λ (n : j ≡ at → ⊥). below j low (omega (arith, n))) (cases_eq j at)

-- the tests of a lawful walk
each_listed : (lists : List (Vec Named Global)) (from to : ℕ) (met : List Named) → EachWasListed lists from to met → (x : Named) → Contains met x → WasListed lists from to x
each_listed lists from to [] e x c = contains_none x c
each_listed lists from to (y ∷ met) e x c =
    ⊎_elim (λ (s : y ≡ x). subst (λ (z : Named). WasListed lists from to z) s e.0) (λ (d : Contains met x). each_listed lists from to met e.1 x d) (contains_cases y x met c)

listed_each : (lists : List (Vec Named Global)) (from to : ℕ) (met : List Named) → ((x : Named) → Contains met x → WasListed lists from to x) → EachWasListed lists from to met
listed_each lists from to [] all = tt
listed_each lists from to (y ∷ met) all = (all y (contains_here y met), listed_each lists from to met (λ x c. all x (contains_later y x met c)))

none_missed : (lists : List (Vec Named Global)) (from to : ℕ) (met images : List Named) → NoneWasMissed lists from to met images
    → (x : Named) → Contains images x → StayedListed lists from to x → Contains met x
none_missed lists from to met [] none x c stayed = contains_none x c
none_missed lists from to met (y ∷ images) none x c stayed =
    ⊎_elim (λ (s : y ≡ x). subst (λ (z : Named). Contains met z) s (none.0 (subst (λ (z : Named). StayedListed lists from to z) (sym s) stayed)))
    (λ (d : Contains images x). none_missed lists from to met images none.1 x d stayed) (contains_cases y x images c)

missed_none : (lists : List (Vec Named Global)) (from to : ℕ) (met images : List Named) → ((x : Named) → Contains images x → StayedListed lists from to x → Contains met x)
    → NoneWasMissed lists from to met images
missed_none lists from to met [] all = tt
missed_none lists from to met (y ∷ images) all = (all y (contains_here y images), missed_none lists from to met images (λ x c. all x (contains_later y x images c)))

module _ (lists : List (Vec Named Global)) (from to : ℕ) (met : List Named) where
  pub judged : from ≤ to → RisesAbove load_of 0 met → EachWasListed lists from to met → NoneWasMissed lists from to met (lists_at lists from) → (from ≡ to → met ≡ lists_at lists from)
      → IsLawfulWalk load_of (lists_at lists) from to met
  judged order rises listed complete same = record {
    rises = rises;
    listed = each_listed lists from to met listed;
    complete = λ x all. none_missed lists from to met (lists_at lists from) complete x (all from (le_refl from) order) all;
    same = same;
  }

  pub judged_listed : IsLawfulWalk load_of (lists_at lists) from to met → EachWasListed lists from to met
  judged_listed w = listed_each lists from to met w.listed

  pub judged_complete : IsLawfulWalk load_of (lists_at lists) from to met → NoneWasMissed lists from to met (lists_at lists from)
  judged_complete w = missed_none lists from to met (lists_at lists from) (λ x c stayed. w.complete x stayed)

  pub missed-here : (images : List Named) (i : ℕ) (x : Named) → i < length images → x ≡ get_or images i x → NoneWasMissed lists from to met (drop i images)
      → (StayedListed lists from to x → Contains met x) × NoneWasMissed lists from to met (drop (i + 1) images)
  missed-here images i x lt is none =
      let at : drop i images ≡ x ∷ drop (suc i) images = drop-cons images i x lt ∙ ap (λ (y : Named). y ∷ drop (suc i) images) (sym is) in
      let one : i + 1 ≡ suc i = omega arith in
      let here : NoneWasMissed lists from to met (x ∷ drop (suc i) images) = subst (λ (l : List Named). NoneWasMissed lists from to met l) at none in
      (here.0, subst (λ k. NoneWasMissed lists from to met (drop k images)) (sym one) here.1)

  pub missed-on : (images : List Named) (i : ℕ) (x : Named) → i < length images → x ≡ get_or images i x → (StayedListed lists from to x → Contains met x)
      → NoneWasMissed lists from to met (drop (i + 1) images) → NoneWasMissed lists from to met (drop i images)
  missed-on images i x lt is here none =
      let at : drop i images ≡ x ∷ drop (suc i) images = drop-cons images i x lt ∙ ap (λ (y : Named). y ∷ drop (suc i) images) (sym is) in
      let one : i + 1 ≡ suc i = omega arith in
      subst (λ (l : List Named). NoneWasMissed lists from to met l) (sym at) (here, subst (λ k. NoneWasMissed lists from to met (drop k images)) one none)
