-- Steps of the owner on nodes: it stores words in a free node, and links the node at the end of the list.
use Rattle.std.proofs.Common.{◌≡◌, ◌≢◌, ◌⊎◌, ⊎_elim, inl, inr, ℕ, ◌+◌, ◌<◌, ◌≤◌, List, [], ◌∷◌, true, false, ◌&&◌, eqb, refl, sym, ◌∙◌, subst, arith, length-set, get_or, set, get_or-set_same, get_or-set_other, eqb-true, ne_eqb, eq-eqb, Some}
use Rattle.std.proofs.lemmas.Bool.{eqb-false, and_parts}
use mathlib.Core.Option.{some, none}
use lib.ListN.{get_elem?}
use Rattle.atomic_table.specs.Table.{keeps, step, Allows}
use Rattle.plcr_machine.specs.declared.entry.Entry.{Entry}
use Rattle.plcr_machine.specs.Nodes.{is_free}
use Rattle.plcr_machine.proofs.Cases.{not_both, by_cases}
use Rattle.plcr_nodes.specs.declared.view.View.{View}
use Rattle.plcr_nodes.specs.declared.view.Store.{Store}
use Rattle.plcr_nodes.specs.declared.words.TheConstants.{NODE_WORDS}
use Rattle.plcr_nodes.specs.Names.{store, stored, stored_elsewhere}
use Rattle.plcr_nodes.specs.inner.Words.{base}
use Rattle.plcr_nodes.specs.inner.Rule.{Truth, Stands, Fits, Holds}
use Rattle.plcr_nodes.specs.inner.Plays.{Mine, filled}
use Rattle.plcr_nodes.proofs.Known.{free_same}
use Rattle.plcr_nodes.proofs.Fitting.{St, truth, there, moved}
use Rattle.plcr_nodes.proofs.Beside.{shows_within}

-- the last of several stores of a word counts
pub stored_new : (n k x m j y : ℕ) (ss : List Store) → stored m j (store n k x ∷ ss) ≡ Some y → ((n ≡ m) × (k ≡ j) × (x ≡ y)) ⊎ ((eqb n m && eqb k j ≡ false) × (stored m j ss ≡ Some y))
stored_new n k x m j y ss e =
    by_cases (eqb n m && eqb k j)
    (λ b. let p = and_parts (eqb n m) (eqb k j) b in let f : Some x ≡ Some y = rw b at e in inl (eqb-true n m p.0, eqb-true k j p.1, cc))
    (λ b. let f : stored m j ss ≡ Some y = rw b at e in inr (b, f))

pub stored_other : (n m k x : ℕ) (ss : List Store) → stored m k (stored_elsewhere n ss) ≡ Some x → (n ≢ m) × (stored m k ss ≡ Some x)
stored_other n m k x [] e = cc
stored_other n m k x (s ∷ ss) e =
    by_cases (eqb s.node n)
    (λ b. let r = stored_other n m k x ss (rw b at e) in (r.0, rw (ne_eqb s.node m (λ z. r.0 (sym (eqb-true s.node n b) ∙ z))) r.1))
    (λ b. by_cases (eqb s.node m && eqb s.word k)
    (λ d. let f : Some s.value ≡ Some x = rw d at (rw b at e) in ((λ z. eqb-false s.node n b (eqb-true s.node m (and_parts (eqb s.node m) (eqb s.word k) d).0 ∙ sym z)), rw d f))
    (λ d. let r = stored_other n m k x ss (rw d at (rw b at e)) in (r.0, rw d r.1)))

module _ (nodes passes slots id : ℕ) (me : Mine) (lives : me.0.spent ≡ false) (owns : me.0.owns ≡ true) where
  -- another seat does not own
  pub owned_else : (s : St) (r : Holds nodes passes s) → get_elem? s.views id ≡ some me.0 → {P : Type 0} → (j : ℕ) (u : View) → j ≢ id → Fits nodes passes (there s r) j u → u.owns ≡ true → P
  owned_else s r at j u apart g o = absurd (apart ((g.owns o).0 ∙ sym ((r.seats id me.0 at lives).owns owns).0))

  pub fills : (n k x : ℕ) → 0 < n → n ≤ me.0.nodes → is_free me.0.passes n me.0.history ≡ true → k < NODE_WORDS
      → Allows (Holds nodes passes) slots id me (base n + k) (λ _. x) (λ _. filled (step slots (base n + k) x 0 none) me x)
  fills n k x some_node in_view free k_in s r _ at _ =
      let v : View = me.0 in
      let f : Fits nodes passes (there s r) id v = r.seats id v at lives in
      let sizes = f.sizes in
      let in_table : n ≤ nodes = omega arith in
      let st : Stands nodes passes (there s r) = r.stands in
      let h : List Entry = r.history in
      let ws : List ℕ = s.words in
      let wide = st.wide in
      let own_free : is_free passes n v.history ≡ true = subst (λ p. is_free p n v.history ≡ true) sizes.1 free in
      let free' : is_free passes n h ≡ true = free_same passes n h v.history (f.sees.added.owner owns) ∙ own_free in
      let i : ℕ = base n + k in
      let t' : Truth = truth (set ws i x) h r.names r.numbered r.owner r.holder in
      let w : View = record v { filled = store n k x ∷ v.filled } in
      let away : (m : ℕ) → is_free passes m h ≡ false → m ≢ n = λ m busy z. not_both (is_free passes n h) free' (subst (λ q. is_free passes q h ≡ false) z busy) in
      let stands : Stands nodes passes t' = record {
        sizes = st.sizes;
        wide = length-set ws i x ∙ st.wide;
        legal = st.legal;
        named = st.named;
        short = st.short;
        beside = shows_within nodes passes ws i x h h (omega arith, omega arith) refl (λ p. refl) st.beside;
        number = get_or-set_other ws i 1 x 0 (λ z. omega arith) ∙ st.number;
        enough = st.enough;
        unused = st.unused;
        links = λ m b held. get_or-set_other ws i (base m) x 0 (⊎_elim (λ z e. omega arith) (λ busy e. away m busy (omega arith)) held) ∙ st.links m b held;
        payload = λ m j some_m b busy j_in j_words. get_or-set_other ws i (base m + (j + 1)) x 0 (λ e. away m busy (omega arith)) ∙ st.payload m j some_m b busy j_in j_words;
      } in
      let mine : Fits nodes passes t' id w = record {
        sizes = f.sizes;
        sees = record { added = f.sees.added; named = f.sees.named; as_many = f.sees.as_many };
        owns = f.owns;
        holds = f.holds;
        given = f.given;
        filled = λ o m j y some_m j_in is. ⊎_elim
            (λ e. (
              subst (λ q. q ≤ nodes) e.0 in_table,
              subst (λ q. is_free passes q v.history ≡ true) e.0 own_free,
              subst (λ (q : ℕ × ℕ). get_or (set ws i x) (base q.0 + q.1) 0 ≡ y) (λ d. (e.0 d, e.1 d)) (get_or-set_same ws i x 0 (omega arith) ∙ e.2),
            ))
            (λ e. let g = f.filled o m j y some_m j_in e.1 in
            (g.0, g.1, get_or-set_other ws i (base m + j) x 0 (λ z. let a : n ≡ m = omega arith in let b : k ≡ j = omega arith in not_both (eqb n m && eqb k j) (rw (eq-eqb n m a) (eq-eqb k j b)) e.0) ∙ g.2))
            (stored_new n k x m j y v.filled is);
        heard = λ q u a. let d = f.heard q u a in (record { added = d.0.added; named = d.0.named; as_many = d.0.as_many }, d.1);
      } in (
        w,
        keeps,
        tt,
        moved nodes passes s r id i x me.1 w h r.names r.numbered r.holder stands mine
            (λ j u apart _ g. record {
              added = [];
              history = refl;
              new = [];
              names = refl;
              same_owner = refl;
              own = λ q _ _. refl;
              owner = λ o. owned_else s r at j u apart g o;
              holder = λ q b held. (b, held);
            }),
        (λ n' k' e in_node. let z : n ≡ n' = omega arith in let y : k ≡ k' = omega arith in (λ q. record v { filled = store (z q) (y q) x ∷ v.filled }, refl)),
      )
