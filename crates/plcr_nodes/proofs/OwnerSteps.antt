-- The owner counts a change at the gate, or looks at a stamp. Both leave the list; a look may make removed nodes free.
use Rattle.std.proofs.Common.{◌≡◌, inl, inr, ℕ, suc, ◌+◌, ◌%◌, ◌^◌, ◌<◌, List, [], ◌∷◌, true, false, refl, sym, ap, ◌∙◌, subst, arith, get_or, set}
use mathlib.Core.Option.{some, none}
use lib.ListN.{get_elem?}
use Rattle.atomic_table.specs.Table.{keeps, stepped, step, Step, Allows}
use Rattle.atomic_table.specs.Seated.{TableId}
use Rattle.plcr_machine.specs.declared.entry.Entry.{Entry}
use Rattle.plcr_machine.specs.declared.entry.Entry.TheVariants.{Count, Look}
use Rattle.plcr_machine.specs.Histories.{MayFollow}
use Rattle.plcr_machine.specs.Passes.{counts, stamp_of}
use Rattle.plcr_machine.specs.Parts.{own_entries}
use Rattle.plcr_machine.specs.declared.limits.TheConstants.{MOST_CHANGES}
use Rattle.plcr_machine.proofs.Cases.{not_both}
use Rattle.plcr_machine.proofs.Freedom.{free_looked}
use Rattle.plcr_nodes.specs.declared.view.View.{View}
use Rattle.plcr_nodes.specs.declared.words.TheConstants.{GATE}
use Rattle.plcr_nodes.specs.inner.Words.{stamp_place}
use Rattle.plcr_nodes.specs.inner.Rule.{Truth, ShowsBeside, Stands, Fits, Holds}
use Rattle.plcr_nodes.specs.Owning.{IsOwnerEntry, IsCounted, IsLooked}
use Rattle.plcr_nodes.specs.inner.Plays.{Mine, Makes, TakesIn, view_at, counted, looked}
use Rattle.plcr_nodes.specs.inner.Seats.{owner_state, IsOwner}
use Rattle.plcr_nodes.proofs.Known.{counts_same, free_same}
use Rattle.plcr_nodes.proofs.OwnerKnows.{sees}
use Rattle.plcr_nodes.proofs.Fitting.{St, there, moved, taken, sees_all}
use Rattle.plcr_nodes.proofs.Beside.{IsBeside, SameList, node_else, shows_loaded, shows_gate, stands_beside}
use Rattle.plcr_nodes.proofs.StoreSteps.{owned_else}

-- the entry is one of the owner's that leaves the list
pub record IsOfOwner (e : Entry) (h : List Entry) : Type 0 where
  pub same : (passes : ℕ) → SameList passes e h
  pub own : (p : ℕ) → own_entries p (e ∷ h) ≡ own_entries p h

pub count_of : (h : List Entry) → IsOfOwner Count h
count_of h = record { same = λ passes. record { live = refl; loads = refl; loaded = λ n. refl; free = λ n f. f }; own = λ p. refl }

pub look_of : (pass stamp : ℕ) (h : List Entry) → IsOfOwner (Look pass stamp) h
look_of pass stamp h = record {
  same = λ passes. record { live = refl; loads = refl; loaded = λ n. refl; free = λ n f. free_looked passes n pass stamp h f };
  own = λ p. refl;
}

module _ (nodes passes slots id : ℕ) (me : Mine) (lives : me.0.spent ≡ false) (owns : me.0.owns ≡ true) where
  owner_holds : (s : St) (r : Holds nodes passes s) → get_elem? s.views id ≡ some me.0 → (e : Entry) (i x : ℕ) (c : List (ℕ × Unit)) → IsOfOwner e r.history → MayFollow nodes passes r.history e → IsBeside nodes i
      → ShowsBeside nodes passes (set s.words i x) (e ∷ r.history)
      → Holds nodes passes (stepped s i x id c (record (view_at me.0 (e ∷ r.history) r.names) { given = [] }) keeps)
  owner_holds s r at e i x c of may beside shows =
      let v : View = me.0 in
      let t : Truth = there s r in
      let f : Fits nodes passes t id v = r.seats id v at lives in
      let st : Stands nodes passes t = r.stands in
      let t' : Truth = record t { words = set t.words i x; history = e ∷ t.history } in
      let st' : Stands nodes passes t' = stands_beside nodes passes t e i x st may (of.same passes) beside shows (λ q above. of.own q ∙ st.unused q above) in
      let w : View = record (view_at v (e ∷ r.history) r.names) { given = [] } in
      moved nodes passes s r id i x c w (e ∷ r.history) r.names r.numbered r.holder st'
      (record {
        sizes = f.sizes;
        sees = sees_all t' v.owns v.numbers st'.named;
        owns = f.owns;
        holds = f.holds;
        given = λ n z _. not_both false z refl;
        filled = λ o n k y some_node word is. let g = f.filled o n k y some_node word is in
            (g.0, (of.same passes).free n (free_same passes n r.history v.history (f.sees.added.owner o) ∙ g.1), node_else nodes passes s.words i x n k beside g.0 word ∙ g.2);
        heard = λ k u z. cc;
      })
      (λ j u apart _ g. record {
        added = e ∷ [];
        history = refl;
        new = [];
        names = refl;
        same_owner = refl;
        own = λ q _ _. of.own q;
        owner = λ o. owned_else nodes passes slots id me lives owns s r at j u apart g o;
        holder = λ q b held. (b, held);
      })

  pub counting : counts me.0.history < MOST_CHANGES → Allows (Holds nodes passes) slots id me GATE (λ n. (n + 1) % 2 ^ 64) (counted (step slots GATE 1 0 none) me)
  counting fewer s r _ at _ =
      let v : View = me.0 in
      let f : Fits nodes passes (there s r) id v = r.seats id v at lives in
      let st : Stands nodes passes (there s r) = r.stands in
      let h : List Entry = r.history in
      let same : counts h ≡ counts v.history = counts_same h v.history (f.sees.added.owner owns) in
      let may : MayFollow nodes passes h Count = omega arith in
      let g : get_or s.words GATE 0 ≡ counts h = st.beside.gate in
      let x : ℕ = (get_or s.words GATE 0 + 1) % 2 ^ 64 in
      let word : x ≡ suc (counts h) = omega arith in (
        record (view_at v (Count ∷ h) r.names) { given = [] },
        keeps,
        tt,
        owner_holds s r at Count GATE x me.1 (count_of h) may (inl refl) (shows_gate nodes passes s.words x h st.wide word st.beside),
        (record { past = h; names = r.names; takes = taken nodes passes (there s r) id v st f; now = refl }, g),
      )

  pub looking : (i pass : ℕ) → i ≡ stamp_place me.0.nodes pass → pass < me.0.passes → Allows (Holds nodes passes) slots id me i (λ n. n) (looked (step slots i 0 0 none) me)
  looking i pass is few s r _ at _ =
      let v : View = me.0 in
      let f : Fits nodes passes (there s r) id v = r.seats id v at lives in
      let st : Stands nodes passes (there s r) = r.stands in
      let h : List Entry = r.history in
      let sizes = f.sizes in
      let few' : pass < passes = omega arith in
      let place : i ≡ stamp_place nodes pass = is ∙ ap (λ n. stamp_place n pass) sizes.0 in
      let x : ℕ = get_or s.words i 0 in
      let word : x ≡ stamp_of pass h = ap (λ k. get_or s.words k 0) place ∙ st.beside.stamps pass few' in
      let w : View = record (view_at v (Look pass x ∷ h) r.names) { given = [] } in
      let made : Makes (Look pass x) me (w, me.1) = record { past = h; names = r.names; takes = taken nodes passes (there s r) id v st f; now = refl } in (
        w,
        keeps,
        tt,
        owner_holds s r at (Look pass x) i x me.1 (look_of pass x h) (few', word) (inr (omega arith)) (shows_loaded nodes passes s.words i h (Look pass x ∷ h) refl (λ q. refl) st.beside),
        (λ pass' e. let z : pass ≡ pass' = omega arith in subst (λ q. (m : Makes (Look q x) me (w, me.1)) × (x ≡ stamp_of q m.past)) z (made, word)),
      )

-- what the owner knows after it
module _ (z : TableId) (m : Mine) (g : IsOwner z m) where
  abbrev entry_seen : (e : Entry) (past : List Entry) (names : List (List ℕ)) → TakesIn m.0 past names → IsOfOwner e past → MayFollow m.0.nodes m.0.passes past e
      → IsOwnerEntry e (owner_state z m.0) (owner_state z (record (view_at m.0 (e ∷ past) names) { given = [] }))
  entry_seen e past names t of may = record {
    past = past;
    names = names;
    sees = sees z m g past names t;
    now = refl;
    legal = record { few_nodes = g.seat.known.few_nodes; few_passes = g.seat.known.few_passes; legal = (may, t.legal.legal); named = t.legal.named ∙ sym (of.same m.0.passes).loads };
  }

  owner_after : (e : Entry) (past : List Entry) (names : List (List ℕ)) → TakesIn m.0 past names → IsOfOwner e past → MayFollow m.0.nodes m.0.passes past e
      → IsOwner z (record (view_at m.0 (e ∷ past) names) { given = [] }, m.1)
  owner_after e past names t of may = record {
    seat = record { wide = g.seat.wide; lives = g.seat.lives; light = g.seat.light; known = (entry_seen e past names t of may).legal; short = t.short };
    owns = g.owns;
    filled = λ j i x some_j i_in is. let f = g.filled j i x some_j i_in is in (f.0, (of.same m.0.passes).free j (free_same m.0.passes j past m.0.history (t.added.owner g.owns) ∙ f.1));
  }

  pub owner_counted : (st : Step Unit) (found : ℕ) (m' : Mine) → counts m.0.history < MOST_CHANGES → counted st m found m' → IsOwner z m' × IsCounted (owner_state z m.0) found (owner_state z m'.0)
  owner_counted st found m' fewer told =
      let k = told.0 in
      let same : counts k.past ≡ counts m.0.history = counts_same k.past m.0.history (k.takes.added.owner g.owns) in
      let may : MayFollow m.0.nodes m.0.passes k.past Count = omega arith in
      subst (λ (q : Mine). IsOwner z q × IsCounted (owner_state z m.0) found (owner_state z q.0)) (sym k.now)
      (owner_after Count k.past k.names k.takes (count_of k.past) may, record { entry = entry_seen Count k.past k.names k.takes (count_of k.past) may; gate = told.1 })

  pub owner_looked : (st : Step Unit) (pass found : ℕ) (m' : Mine) → st.word ≡ stamp_place m.0.nodes pass → pass < m.0.passes → looked st m found m'
      → IsOwner z m' × IsLooked (owner_state z m.0) pass found (owner_state z m'.0)
  owner_looked st pass found m' word few told =
      let made = told pass word in
      let k = made.0 in
      let e : Entry = Look pass found in
      subst (λ (q : Mine). IsOwner z q × IsLooked (owner_state z m.0) pass found (owner_state z q.0)) (sym k.now)
      (owner_after e k.past k.names k.takes (look_of pass found k.past) (few, made.1), record { entry = entry_seen e k.past k.names k.takes (look_of pass found k.past) (few, made.1); stamp = made.1 })
