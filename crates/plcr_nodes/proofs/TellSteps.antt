-- Notes and joins: words and history stay, and what a joined seat had seen is kept until the next load.
use Rattle.std.proofs.Common.{◌≡◌, ⊎_elim, ◌⊎◌, inl, inr, ℕ, zero, suc, List, [], ◌∷◌, ◌++◌, true, false, cond, eqb, refl, sym, ◌∙◌, subst, set}
use Rattle.std.proofs.lemmas.Bool.{or_cases, or_left, or_right}
use mathlib.Core.Option.{some, none, some-injective, some-ne-none}
use lib.ListN.{get_elem?}
use Rattle.atomic_table.specs.Table.{keeps, step, Allows, Splits, Joins}
use Rattle.atomic_table.proofs.Lists.{at_set}
use Rattle.plcr_machine.proofs.Cases.{not_both, by_cases}
use Rattle.plcr_nodes.specs.declared.view.View.{View}
use Rattle.plcr_nodes.specs.declared.view.Heard.{Heard}
use Rattle.plcr_nodes.specs.Entries.{among}
use Rattle.plcr_nodes.specs.inner.Rule.{number_of, Truth, Fits, Hears, Holds}
use Rattle.plcr_nodes.specs.inner.Plays.{Mine, view_at}
use Rattle.plcr_nodes.specs.inner.Telling.{noted_view, heard_of, hearing_view, spent_view, gained, TakesAllOver, learned, gathered}
use Rattle.plcr_nodes.proofs.Fitting.{St, truth, there, stands_held, still_fits, taken}
use Rattle.plcr_nodes.proofs.LoadSteps.{loads_as, load_holds, given_reach}
use Rattle.plcr_nodes.proofs.Opening.{at_snoc_place}

only_one : {A : Type 0} (x y : A) (k : ℕ) → get_elem? (x ∷ []) k ≡ some y → x ≡ y
only_one x y zero e = some-injective x y e
only_one x y (suc k) e = absurd (some-ne-none y (sym e))

among-append : (p : ℕ) (xs ys : List ℕ) → among p (xs ++ ys) ≡ true → (among p xs ≡ true) ⊎ (among p ys ≡ true)
among-append p [] ys a = inr a
among-append p (x ∷ xs) ys a =
    ⊎_elim (λ (e : eqb x p ≡ true). inl (or_left (eqb x p) (among p xs) e))
    (λ (b : among p (xs ++ ys) ≡ true). ⊎_elim (λ c. inl (or_right (eqb x p) (among p xs) c)) (λ c. inr c) (among-append p xs ys b))
    (or_cases (eqb x p) (among p (xs ++ ys)) a)

-- a number that was gained came with a joined seat, or was there
gained_from : {P : Type 0} (p : ℕ) (hs : List Heard) (ns : List ℕ) → ((k : ℕ) (w : Heard) → get_elem? hs k ≡ some w → among p w.numbers ≡ true → P) → (among p ns ≡ true → P)
    → among p (gained hs ns) ≡ true → P
gained_from p [] ns joined before a = before a
gained_from p (w ∷ hs) ns joined before a =
    ⊎_elim (λ b. joined 0 w refl b) (λ b. gained_from p hs ns (λ k u at c. joined (suc k) u at c) before b) (among-append p w.numbers (gained hs ns) a)

module _ (nodes passes id : ℕ) (v : View) (lives : v.spent ≡ false) where
  -- a note has no rights, so it agrees with what there is as its token does
  noted_fits : (t : Truth) (j : ℕ) → Fits nodes passes t id v → Fits nodes passes t j (noted_view v)
  noted_fits t j f = record {
    sizes = f.sizes;
    sees = record {
      added = record { grows = f.sees.added.grows; owner = λ o. not_both false o refl; own = λ p a. not_both false a refl };
      named = f.sees.named;
      as_many = f.sees.as_many;
    };
    owns = λ o. not_both false o refl;
    holds = λ p a. not_both false a refl;
    given = λ n a _. not_both false a refl;
    filled = λ o. not_both false o refl;
    heard = λ k u a. cc;
  }

  pub notes : Splits (Holds nodes passes) id v v (noted_view v)
  notes s r at =
      let t : Truth = there s r in
      let f : Fits nodes passes t id v = r.seats id v at lives in
      record {
        history = r.history;
        names = r.names;
        numbered = r.numbered;
        owner = r.owner;
        holder = r.holder;
        stands = r.stands;
        seats = λ j u a lives'. ⊎_elim
            (λ e. ⊎_elim (λ d. subst (λ (z : ℕ × View). Fits nodes passes t z.0 z.1) (λ k. (sym d.0 k, d.1 k)) f) (λ d. r.seats j u d.1 lives') (at_set s.views id j v u e.1))
            (λ e. subst (λ (w : View). Fits nodes passes t j w) e.1 (noted_fits t j f))
            (at_snoc_place (set s.views id v) (noted_view v) u j a);
      }

  -- a seat into which another is joined has the other's pass numbers from then on
  pub hears : (other : ℕ) (w : View) → w.spent ≡ false → Joins (Holds nodes passes) id v other w (hearing_view v w) spent_view
  hears other w lives_w s r at apart at_other =
      let t : Truth = there s r in
      let f : Fits nodes passes t id v = r.seats id v at lives in
      let b : View = hearing_view v w in
      let was : get_elem? s.views other ≡ some w = ⊎_elim (λ e. absurd (apart e.0)) (λ e. e.1) (at_set s.views id other b w at_other) in
      let g : Fits nodes passes t other w = r.seats other w was lives_w in
      let holder : ℕ → ℕ = λ q. cond (among q w.numbers) id (r.holder q) in
      let t' : Truth = truth s.words r.history r.names r.numbered r.owner holder in
      let now : Hears t' id (heard_of w) = (
        record {
          added = record { grows = g.sees.added.grows; owner = λ o. not_both false o refl; own = g.sees.added.own };
          named = g.sees.named;
          as_many = g.sees.as_many;
        },
        λ q a. ((g.holds q a).0, rw a refl),
      ) in
      let both : Fits nodes passes t' id b = record {
        sizes = f.sizes;
        sees = record { added = f.sees.added; named = f.sees.named; as_many = f.sees.as_many };
        owns = f.owns;
        holds = λ q a. let h = f.holds q a in (h.0, by_cases (among q w.numbers) (λ e. rw e refl) (λ e. rw e h.1));
        given = f.given;
        filled = f.filled;
        heard = λ k u a. subst (Hears t' id) (only_one (heard_of w) u k a) now;
      } in
      record {
        history = r.history;
        names = r.names;
        numbered = r.numbered;
        owner = r.owner;
        holder = holder;
        stands = stands_held nodes passes t holder r.stands;
        seats = λ j u a lives'. ⊎_elim
            (λ e. not_both u.spent (subst (λ (x : View). x.spent ≡ true) e.1 refl) lives')
            (λ e. ⊎_elim (λ d. subst (λ (z : ℕ × View). Fits nodes passes t' z.0 z.1) (λ k. (sym d.0 k, d.1 k)) both)
            (λ d. still_fits nodes passes t t' j u (record {
              added = [];
              history = refl;
              new = [];
              names = refl;
              same_owner = refl;
              own = λ q _ _. refl;
              owner = λ _. (refl, refl, λ n k _ _ _. refl);
              holder = λ q below held. (below, by_cases (among q w.numbers) (λ c. absurd (e.0 (sym held ∙ (g.holds q c).1))) (λ c. rw c held));
            }) (r.seats j u d.1 lives'))
            (at_set s.views id j b u e.1))
            (at_set (set s.views id b) other j spent_view u a);
      }

module _ (nodes passes slots id : ℕ) (me : Mine) (lives : me.0.spent ≡ false) where
  all_over : (s : St) (r : Holds nodes passes s) → get_elem? s.views id ≡ some me.0 → TakesAllOver me.0 r.history r.names
  all_over s r at k w here = let g = (r.seats id me.0 at lives).heard k w here in record { added = g.0.added; named = g.0.named }

  -- a pass takes in what joined seats had seen
  pub learns : among (number_of me.0) me.0.numbers ≡ true → Allows (Holds nodes passes) slots id me 0 (λ n. n) (learned (step slots 0 0 0 none) me)
  learns mine s r _ at _ =
      let v : View = me.0 in
      let f : Fits nodes passes (there s r) id v = r.seats id v at lives in (
        view_at v r.history r.names,
        keeps,
        tt,
        load_holds nodes passes s r id v at lives 0 me.1 v.given (λ n a some_node. given_reach nodes passes slots id me lives mine s r at n (f.given n a some_node)),
        (r.history, r.names, taken nodes passes (there s r) id v r.stands f, all_over s r at, refl, refl),
      )

  -- the owner takes in their pass numbers too
  pub gathers : Allows (Holds nodes passes) slots id me 0 (λ n. n) (gathered (step slots 0 0 0 none) me)
  gathers s r _ at _ =
      let v : View = me.0 in
      let f : Fits nodes passes (there s r) id v = r.seats id v at lives in (
        record (view_at v r.history r.names) { numbers = gained v.heard v.numbers; given = [] },
        keeps,
        tt,
        loads_as nodes passes s r id v at lives 0 me.1 (gained v.heard v.numbers) []
            (λ p a. gained_from p v.heard v.numbers (λ k w here b. (f.heard k w here).1 p b) (λ b. f.holds p b) a) (λ n a _. not_both false a refl),
        (r.history, r.names, taken nodes passes (there s r) id v r.stands f, all_over s r at, refl, refl),
      )
