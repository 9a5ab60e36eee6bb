-- The opening: an empty list, the numbers of the passes, and a seat for each.
use Rattle.std.proofs.Common.{◌≡◌, ◌⊎◌, ⊎_elim, inl, inr, ℕ, zero, suc, ◌+◌, ◌%◌, ◌^◌, ◌<◌, ◌≤◌, List, [], ◌∷◌, ◌++◌, true, false, cond, eqb, refl, sym, ap, ◌∙◌, subst, arith, length, length-set, get_or, set, replicate, get_or-set_same, get_or-set_other, eqb-true, ne_eqb}
use Rattle.std.proofs.lemmas.Bool.{or_cases}
use Rattle.std.proofs.lemmas.List.{length-replicate}
use mathlib.Core.Option.{some, none, some-injective, some-ne-none}
use lib.ListN.{get_elem?}
use Rattle.atomic_table.specs.Table.{keeps, step, opening, Allows, Splits}
use Rattle.atomic_table.specs.Seated.{TableId}
use Rattle.atomic_table.proofs.Lists.{at_set}
use Rattle.plcr_machine.specs.Parts.{own_entries}
use Rattle.plcr_machine.specs.declared.limits.TheConstants.{MOST_NODES, MOST_PASSES}
use Rattle.plcr_machine.proofs.Cases.{not_both, eqb_same}
use Rattle.plcr_nodes.specs.declared.view.View.{View}
use Rattle.plcr_nodes.specs.declared.view.Heard.{Heard}
use Rattle.plcr_nodes.specs.Entries.{among}
use Rattle.plcr_nodes.specs.inner.Words.{base, stamp_place, table_words}
use Rattle.plcr_nodes.specs.inner.Rule.{first_of, Truth, Stands, Fits, Holds, owner_view, first_view}
use Rattle.plcr_nodes.specs.Opening.{IsSized}
use Rattle.plcr_nodes.specs.inner.Seats.{IsPassing}
use Rattle.plcr_nodes.specs.inner.Plays.{Mine, numbered, giving, given_view}
use Rattle.plcr_nodes.proofs.Known.{no_own}
use Rattle.plcr_nodes.proofs.Fitting.{truth, there, stands_held, still_fits, moved, sees_all}

zero_word : (n k : ℕ) → ◌≡◌ {A = ℕ} (get_or (replicate n 0) k 0) 0
zero_word zero k = refl
zero_word (suc n) zero = refl
zero_word (suc n) (suc k) = zero_word n k

only_first : (x y : View) (j : ℕ) → get_elem? (x ∷ []) j ≡ some y → (j ≡ 0) × (x ≡ y)
only_first x y zero e = (refl, some-injective x y e)
only_first x y (suc j) e = cc

-- the rule holds at the start
pub opens : (nodes passes : ℕ) (ws : List ℕ) → nodes ≤ MOST_NODES → passes ≤ MOST_PASSES → ws ≡ replicate (table_words nodes passes) 0 → Holds nodes passes (opening ws [] (first_view nodes passes))
opens nodes passes ws few_nodes few_passes is =
    let words : (k : ℕ) → get_or ws k 0 ≡ 0 = λ k. ap (λ (l : List ℕ). get_or l k 0) is ∙ zero_word (table_words nodes passes) k in
    let t : Truth = truth ws [] [] 0 0 (λ p. 0) in
    record {
      history = [];
      names = [];
      numbered = 0;
      owner = 0;
      holder = λ p. 0;
      stands = record {
        sizes = (few_nodes, few_passes);
        wide = ap length is ∙ length-replicate (table_words nodes passes) 0;
        legal = tt;
        named = refl;
        short = tt;
        beside = record { gate = words 0; stamps = λ p _. words (stamp_place nodes p) };
        number = words 1;
        enough = omega arith;
        unused = λ p _. refl;
        links = λ n _ _. words (base n);
        payload = λ n k _ _ busy _ _. not_both true refl busy;
      };
      seats = λ j v at _. let e = only_first (first_view nodes passes) v j at in
          subst (λ (z : ℕ × View). Fits nodes passes t z.0 z.1) (λ i. (sym e.0 i, e.1 i)) (record {
            sizes = (refl, refl);
            sees = sees_all t true [] refl;
            owns = λ _. (refl, refl);
            holds = λ p a. not_both false a refl;
            given = λ n a _. not_both false a refl;
            filled = λ _ n k x _ _ a. cc;
            heard = λ k w a. cc;
          });
    }

module _ (nodes passes slots id : ℕ) (me : Mine) (lives : me.0.spent ≡ false) (owns : me.0.owns ≡ true) where
  -- the owner takes the next pass number
  pub numbers : me.0.numbered < me.0.passes
      → Allows (Holds nodes passes) slots id me 1 (λ n. (n + 1) % 2 ^ 64) (numbered (step slots 1 1 0 none) me)
  numbers left s r _ at _ =
      let v : View = me.0 in
      let t : Truth = there s r in
      let f : Fits nodes passes t id v = r.seats id v at lives in
      let st : Stands nodes passes t = r.stands in
      let ws : List ℕ = s.words in
      let x : ℕ = (get_or ws 1 0 + 1) % 2 ^ 64 in
      let wide = st.wide in
      let own = f.owns owns in
      let m : ℕ = v.numbered in
      let m_is : m ≡ r.numbered = own.1 in
      let found : get_or ws 1 0 ≡ r.numbered = st.number in
      let sizes = f.sizes in
      let small = st.sizes in
      let holder : ℕ → ℕ = λ p. cond (eqb m p) id (r.holder p) in
      let w : View = record v { numbered = m + 1; numbers = m ∷ v.numbers; given = [] } in
      let t' : Truth = truth (set ws 1 x) r.history r.names (m + 1) r.owner holder in
      let next : x ≡ m + 1 = omega arith in
      let older : (p : ℕ) → p < r.numbered → holder p ≡ r.holder p = λ p b. rw (ne_eqb m p (λ z. omega arith)) refl in
      let none_yet : own_entries m r.history ≡ [] = st.unused m (omega arith) in
      let seen = f.sees.added.grows in
      let stands : Stands nodes passes t' = record {
        sizes = st.sizes;
        wide = length-set ws 1 x ∙ st.wide;
        legal = st.legal;
        named = st.named;
        short = st.short;
        beside = record {
          gate = get_or-set_other ws 1 0 x 0 (λ z. omega arith) ∙ st.beside.gate;
          stamps = λ p b. get_or-set_other ws 1 (stamp_place nodes p) x 0 (λ z. omega arith) ∙ st.beside.stamps p b;
        };
        number = get_or-set_same ws 1 x 0 (omega arith) ∙ next;
        enough = omega arith;
        unused = λ p b. st.unused p (omega arith);
        links = λ n b held. get_or-set_other ws 1 (base n) x 0 (λ z. omega arith) ∙ st.links n b held;
        payload = λ n k some_n b busy k_in k_words. get_or-set_other ws 1 (base n + (k + 1)) x 0 (λ z. omega arith) ∙ st.payload n k some_n b busy k_in k_words;
      } in
      let mine : Fits nodes passes t' id w = record {
        sizes = f.sizes;
        sees = record {
          named = f.sees.named;
          as_many = f.sees.as_many;
          added = record {
            grows = f.sees.added.grows;
            owner = f.sees.added.owner;
            own = λ p a. ⊎_elim (λ e. subst (λ q. own_entries q r.history ≡ own_entries q v.history) (eqb-true m p e)
                (none_yet ∙ sym (no_own m seen.0 v.history (subst (λ g. own_entries m g ≡ []) seen.1 none_yet))))
                (λ e. f.sees.added.own p e) (or_cases (eqb m p) (among p v.numbers) a);
          };
        };
        owns = λ _. (own.0, refl);
        holds = λ p a. ⊎_elim (λ e. let z : m ≡ p = eqb-true m p e in (omega arith, rw e refl)) (λ e. let h = f.holds p e in (omega arith, older p h.0 ∙ h.1)) (or_cases (eqb m p) (among p v.numbers) a);
        given = λ n a _. not_both false a refl;
        filled = λ o n k y some_n k_in is. let g = f.filled o n k y some_n k_in is in (g.0, g.1, get_or-set_other ws 1 (base n + k) x 0 (λ z. omega arith) ∙ g.2);
        heard = λ k u a. let d = f.heard k u a in
            (record { added = d.0.added; named = d.0.named; as_many = d.0.as_many }, λ p b. let h = d.1 p b in (omega arith, older p h.0 ∙ h.1));
      } in (
        w,
        keeps,
        tt,
        moved nodes passes s r id 1 x me.1 w r.history r.names (m + 1) holder stands mine
            (λ j u apart _ g. record {
              added = [];
              history = refl;
              new = [];
              names = refl;
              same_owner = refl;
              own = λ q _ _. refl;
              owner = λ o. absurd (apart ((g.owns o).0 ∙ sym own.0));
              holder = λ q b held. (omega arith, older q b ∙ held);
            }),
        (omega arith, refl, refl),
      )

pub at_snoc_place : {A : Type 0} (l : List A) (a b : A) (j : ℕ) → get_elem? (l ++ a ∷ []) j ≡ some b → ((j < length l) × (get_elem? l j ≡ some b)) ⊎ ((j ≡ length l) × (a ≡ b))
at_snoc_place [] a b zero e = inr (refl, some-injective a b e)
at_snoc_place [] a b (suc j) e = absurd (some-ne-none b (sym e))
at_snoc_place (x ∷ xs) a b zero e = inl (omega arith, e)
at_snoc_place (x ∷ xs) a b (suc j) e = ⊎_elim (λ d. inl (let z = d.0 in omega arith, d.1)) (λ d. inr (ap suc d.0, d.1)) (at_snoc_place xs a b j e)

pub at_within : {A : Type 0} (l : List A) (a : A) (j : ℕ) → get_elem? l j ≡ some a → j < length l
at_within [] a j e = absurd (some-ne-none a (sym e))
at_within (x ∷ xs) a zero e = omega arith
at_within (x ∷ xs) a (suc j) e = let z = at_within xs a j e in omega arith

-- the owner gives the number that it has to a new seat
pub gives : (nodes passes id : ℕ) (v : View) → v.spent ≡ false → v.owns ≡ true → v.numbers ≡ first_of v.numbers ∷ [] → v.heard ≡ []
    → Splits (Holds nodes passes) id v (giving v) (given_view v)
gives nodes passes id v lives owns one quiet s r at =
    let t : Truth = there s r in
    let f : Fits nodes passes t id v = r.seats id v at lives in
    let p : ℕ = first_of v.numbers in
    let new : ℕ = length s.views in
    let within : id < new = at_within s.views v id at in
    let has_p : among p v.numbers ≡ true = subst (λ (l : List ℕ). among p l ≡ true) (sym one) (rw (eqb_same p) refl) in
    let holder : ℕ → ℕ = λ q. cond (eqb p q) new (r.holder q) in
    let t' : Truth = truth s.words r.history r.names r.numbered r.owner holder in
    let st : Stands nodes passes t = r.stands in
    let left : Fits nodes passes t' id (giving v) = record {
      sizes = f.sizes;
      sees = record { added = record { grows = f.sees.added.grows; owner = f.sees.added.owner; own = λ q a. not_both false a refl }; named = f.sees.named; as_many = f.sees.as_many };
      owns = f.owns;
      holds = λ q a. not_both false a refl;
      given = λ n a _. not_both false a refl;
      filled = f.filled;
      heard = λ k u a. let z : none ≡ some u = subst (λ (l : List Heard). get_elem? l k ≡ some u) quiet a in absurd (some-ne-none u (sym z));
    } in
    let right : Fits nodes passes t' new (given_view v) = record {
      sizes = f.sizes;
      sees = record {
        named = f.sees.named;
        as_many = f.sees.as_many;
        added = record { grows = f.sees.added.grows; owner = λ o. not_both false o refl; own = λ q a. ⊎_elim (λ e. f.sees.added.own q (subst (λ z. among z v.numbers ≡ true) (eqb-true p q e) has_p)) (λ e. not_both false e refl) (or_cases (eqb p q) false a) };
      };
      owns = λ o. not_both false o refl;
      holds = λ q a. ⊎_elim (λ e. (subst (λ z. z < r.numbered) (eqb-true p q e) (f.holds p has_p).0, rw e refl)) (λ e. not_both false e refl) (or_cases (eqb p q) false a);
      given = λ n a _. not_both false a refl;
      filled = λ o. not_both false o refl;
      heard = λ k u a. cc;
    } in
    record {
      history = r.history;
      names = r.names;
      numbered = r.numbered;
      owner = r.owner;
      holder = holder;
      stands = stands_held nodes passes t holder st;
      seats = λ j u a lives'. ⊎_elim
          (λ e. ⊎_elim (λ d. subst (λ (z : ℕ × View). Fits nodes passes t' z.0 z.1) (λ k. (sym d.0 k, d.1 k)) left)
          (λ d. let g = r.seats j u d.1 lives' in still_fits nodes passes t t' j u (record {
            added = [];
            history = refl;
            new = [];
            names = refl;
            same_owner = refl;
            own = λ q _ _. refl;
            owner = λ o. (refl, refl, λ n k _ _ _. refl);
            holder = λ q below held. (below, rw (ne_eqb p q (λ z. d.0 (sym held ∙ (ap r.holder (sym z) ∙ (f.holds p has_p).1)))) held);
          }) g)
          (at_set s.views id j (giving v) u e.1))
          (λ e. subst (λ (z : ℕ × View). Fits nodes passes t' z.0 z.1) (λ k. (sym (e.0 ∙ length-set s.views id (giving v)) k, e.1 k)) right)
          (at_snoc_place (set s.views id (giving v)) (given_view v) u j a);
    }

-- a pass of a table that is being opened
pub opened_passing : (nodes passes number : ℕ) (z : TableId) (stamp : ℕ) → IsSized nodes passes → number < passes → z.words ≡ table_words nodes passes → stamp ≡ stamp_place nodes number
    → IsPassing z (given_view (record (owner_view nodes passes number) { numbered = number + 1; numbers = number ∷ []; given = [] }), []) stamp
opened_passing nodes passes number z stamp sized few wide is = record {
  pass = record {
    seat = record {
      wide = wide;
      lives = refl;
      light = refl;
      known = record { few_nodes = sized.0.1; few_passes = sized.1.1; legal = tt; named = refl };
      short = tt;
    };
    one = refl;
    few = few;
    given = λ n a _. not_both false a refl;
  };
  stamped = is;
}
