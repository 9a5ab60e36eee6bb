-- What the owner knows after a step, from what the step told its seat.
use Rattle.std.proofs.Common.{◌≡◌, ⊎_elim, ℕ, suc, ◌+◌, ◌<◌, ◌≤◌, List, ◌∷◌, true, false, refl, sym, ap, ◌∙◌, subst, arith}
use mathlib.Core.Option.{none}
use Rattle.atomic_table.specs.Table.{Step, step, Allows}
use Rattle.atomic_table.specs.Seated.{TableId}
use Rattle.plcr_machine.specs.declared.entry.Entry.{Entry}
use Rattle.plcr_machine.specs.Histories.{IsHistory}
use Rattle.plcr_machine.specs.Lists.{loads, live}
use Rattle.plcr_machine.specs.Nodes.{is_free}
use Rattle.plcr_machine.specs.Links.{last_place}
use Rattle.plcr_nodes.specs.declared.view.View.{View}
use Rattle.plcr_nodes.specs.declared.words.TheConstants.{NODE_WORDS}
use Rattle.plcr_nodes.specs.Names.{store, header_in, IsFilled, IsEnded}
use Rattle.plcr_nodes.specs.inner.Words.{base}
use Rattle.plcr_nodes.specs.inner.Rule.{Holds}
use Rattle.plcr_nodes.specs.Tokens.{OwnerSeesMore}
use Rattle.plcr_nodes.specs.Owning.{IsLinked}
use Rattle.plcr_nodes.specs.inner.Plays.{Mine, TakesIn, filled, linked, linked_view}
use Rattle.plcr_nodes.specs.inner.Seats.{owner_state, IsOwner}
use Rattle.plcr_nodes.proofs.Spelling.{name_bytes}
use Rattle.plcr_nodes.proofs.Known.{free_same}
use Rattle.plcr_nodes.proofs.StoreSteps.{stored_new, stored_other, fills}
use Rattle.plcr_nodes.proofs.LinkStep.{free_else, links}

module _ (z : TableId) (m : Mine) (g : IsOwner z m) where
  pub sees : (past : List Entry) (names : List (List ℕ)) → TakesIn m.0 past names → OwnerSeesMore (owner_state z m.0) past names
  sees past names t = record { added = record { grows = t.added.grows; owner = λ _. t.added.owner g.owns; own = t.added.own }; named = t.named; legal = t.legal; short = t.short }

  pub owner_filled : (st : Step Unit) (found n k : ℕ) (m' : Mine) → st.word ≡ base n + k → k < NODE_WORDS → n ≤ m.0.nodes → is_free m.0.passes n m.0.history ≡ true → filled st m found m'
      → IsOwner z m' × (owner_state z m'.0 ≡ record (owner_state z m.0) { filled = store n k st.first ∷ m.0.filled })
  owner_filled st found n k m' word k_in in_table free told =
      let w : View = record m.0 { filled = store n k st.first ∷ m.0.filled } in
      let t = told n k word k_in in
      let same : m' ≡ (w, m.1) = λ i. (t.0 i, t.1 i) in
      subst (λ (q : Mine). IsOwner z q × (owner_state z q.0 ≡ record (owner_state z m.0) { filled = store n k st.first ∷ m.0.filled })) (sym same) (
        record {
          seat = record { wide = g.seat.wide; lives = g.seat.lives; light = g.seat.light; known = g.seat.known; short = g.seat.short };
          owns = g.owns;
          filled = λ j i x some_j i_in is. ⊎_elim
              (λ e. (subst (λ q. q ≤ m.0.nodes) e.0 in_table, subst (λ q. is_free m.0.passes q m.0.history ≡ true) e.0 free))
              (λ e. g.filled j i x some_j i_in e.1) (stored_new n k st.first j i x m.0.filled is);
        },
        refl,
      )

  pub owner_linked : (st : Step Unit) (found n : ℕ) (m' : Mine) → st.first ≡ n → 0 < n → IsFilled n m.0.filled → linked st m found m'
      → IsOwner z m' × IsLinked (owner_state z m.0) n (owner_state z m'.0)
  owner_linked st found n m' word some_node full told =
      let past : List Entry = told.0 in
      let names : List (List ℕ) = told.1 in
      let t : TakesIn m.0 past names = told.2 in
      let w : View = linked_view m.0 n past names in
      let at : m'.0 ≡ w = subst (λ k. m'.0 ≡ linked_view m.0 k past names) word told.3 in
      let same : m' ≡ (w, m.1) = λ i. (at i, told.4 i) in
      let known = g.seat.known in
      let first = g.filled n 1 (header_in n m.0.filled) some_node (omega arith) full.header in
      let passes : ℕ = m.0.passes in
      let free : (k : ℕ) → is_free passes k m.0.history ≡ true → is_free passes k past ≡ true = λ k f. free_same passes k past m.0.history (t.added.owner g.owns) ∙ f in
      let after : IsHistory w.nodes w.passes w.history w.names =
      record { few_nodes = known.few_nodes; few_passes = known.few_passes; legal = ((some_node, first.0, free n first.1, refl), t.legal.legal); named = ap suc t.legal.named } in
      subst (λ (q : Mine). IsOwner z q × IsLinked (owner_state z m.0) n (owner_state z q.0)) (sym same) (
        record {
          seat = record {
            wide = g.seat.wide;
            lives = g.seat.lives;
            light = g.seat.light;
            known = after;
            short = (full.short, name_bytes n m.0.filled, t.short);
          };
          owns = g.owns;
          filled = λ j i x some_j i_in is.
              let q = stored_other n j i x m.0.filled is in
              let f = g.filled j i x some_j i_in q.1 in
              (f.0, free_else passes n j (suc (loads past)) (header_in n m.0.filled) past q.0 ∙ free j f.1);
        },
        record { past = past; names = names; sees = sees past names t; now = refl; legal = after },
      )

-- the same steps at a word that is known by an equation
module _ (nodes passes slots id : ℕ) (me : Mine) (lives : me.0.spent ≡ false) (owns : me.0.owns ≡ true) where
  pub fills_at : (i n k x : ℕ) → i ≡ base n + k → 0 < n → n ≤ me.0.nodes → is_free me.0.passes n me.0.history ≡ true → k < NODE_WORDS
      → Allows (Holds nodes passes) slots id me i (λ _. x) (λ _. filled (step slots i x 0 none) me x)
  fills_at i n k x e some_node in_table free k_in =
      subst (λ j. Allows (Holds nodes passes) slots id me j (λ _. x) (λ _. filled (step slots j x 0 none) me x)) (sym e) (fills nodes passes slots id me lives owns n k x some_node in_table free k_in)

  pub links_at : (i tail n : ℕ) → i ≡ base tail → 0 < n → IsFilled n me.0.filled → IsEnded n me.0.filled → tail ≡ last_place 0 (live me.0.history)
      → Allows (Holds nodes passes) slots id me i (λ _. n) (linked (step slots i n 0 none) me)
  links_at i tail n e some_node full ended last =
      subst (λ j. Allows (Holds nodes passes) slots id me j (λ _. n) (linked (step slots j n 0 none) me)) (sym e) (links nodes passes slots id me lives owns tail n some_node full ended last)
