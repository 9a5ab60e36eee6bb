-- The entries of a pass: it announces that it may go in, goes in, comes out and retires.
use Rattle.std.proofs.Common.{◌≡◌, ◌≢◌, inl, inr, ℕ, suc, ◌+◌, ◌<◌, ◌≤◌, List, [], ◌∷◌, true, false, refl, sym, ap, ◌∙◌, subst, arith, get_or, set, ne_eqb}
use mathlib.Core.Option.{some, none}
use lib.ListN.{get_elem?}
use Rattle.atomic_table.specs.Table.{keeps, stepped, step, Allows}
use Rattle.plcr_machine.specs.declared.entry.Entry.{Entry}
use Rattle.plcr_machine.specs.declared.entry.Entry.TheVariants.{Announce, Enter, Leave, Retire}
use Rattle.plcr_machine.specs.Histories.{MayFollow}
use Rattle.plcr_machine.specs.Passes.{is_inside, is_announced, counts, stamp_of}
use Rattle.plcr_machine.specs.Parts.{own_entries, owner_entries}
use Rattle.plcr_machine.proofs.Cases.{not_both, eqb_same}
use Rattle.plcr_nodes.specs.declared.view.View.{View}
use Rattle.plcr_nodes.specs.declared.words.TheConstants.{GATE}
use Rattle.plcr_nodes.specs.Entries.{among}
use Rattle.plcr_nodes.specs.inner.Words.{stamp_place}
use Rattle.plcr_nodes.specs.inner.Rule.{number_of, Truth, ShowsBeside, Stands, Fits, Holds}
use Rattle.plcr_nodes.specs.inner.Plays.{Mine, Makes, view_at, announced, entered, left, retired}
use Rattle.plcr_nodes.proofs.Known.{inside_same, announced_same, free_same}
use Rattle.plcr_machine.proofs.Growing.{counts-grows}
use Rattle.plcr_nodes.proofs.Fitting.{St, there, moved, taken, sees_all}
use Rattle.plcr_nodes.proofs.Beside.{IsBeside, SameList, node_else, shows_loaded, shows_stamp, stands_beside}

-- the entry is one of pass p, and none of the owner's or of another pass
pub record IsOfPass (p : ℕ) (e : Entry) (h : List Entry) : Type 0 where
  pub same : (passes : ℕ) → SameList passes e h
  pub owner : owner_entries (e ∷ h) ≡ owner_entries h
  pub others : (q : ℕ) → q ≢ p → own_entries q (e ∷ h) ≡ own_entries q h

pub announce_of : (p seen : ℕ) (h : List Entry) → IsOfPass p (Announce p seen) h
announce_of p seen h = record {
  same = λ passes. record { live = refl; loads = refl; loaded = λ n. refl; free = λ n f. f };
  owner = refl;
  others = λ q n. rw (ne_eqb p q (λ z. n (sym z))) refl;
}

pub enter_of : (p : ℕ) (h : List Entry) → IsOfPass p (Enter p) h
enter_of p h = record {
  same = λ passes. record { live = refl; loads = refl; loaded = λ n. refl; free = λ n f. f };
  owner = refl;
  others = λ q n. rw (ne_eqb p q (λ z. n (sym z))) refl;
}

pub leave_of : (p : ℕ) (h : List Entry) → IsOfPass p (Leave p) h
leave_of p h = record {
  same = λ passes. record { live = refl; loads = refl; loaded = λ n. refl; free = λ n f. f };
  owner = refl;
  others = λ q n. rw (ne_eqb p q (λ z. n (sym z))) refl;
}

pub retire_of : (p : ℕ) (h : List Entry) → IsOfPass p (Retire p) h
retire_of p h = record {
  same = λ passes. record { live = refl; loads = refl; loaded = λ n. refl; free = λ n f. f };
  owner = refl;
  others = λ q n. rw (ne_eqb p q (λ z. n (sym z))) refl;
}

module _ (nodes passes : ℕ) (s : St) (r : Holds nodes passes s) (id : ℕ) (v : View) (at : get_elem? s.views id ≡ some v) (lives : v.spent ≡ false) where
  -- the pass's entry, made by the seat that has its number
  pass_holds : (p : ℕ) (e : Entry) (i x : ℕ) (c : List (ℕ × Unit)) → among p v.numbers ≡ true → IsOfPass p e r.history → MayFollow nodes passes r.history e → IsBeside nodes i
      → ShowsBeside nodes passes (set s.words i x) (e ∷ r.history)
      → Holds nodes passes (stepped s i x id c (record (view_at v (e ∷ r.history) r.names) { given = [] }) keeps)
  pass_holds p e i x c mine of may beside shows =
      let t : Truth = there s r in
      let f : Fits nodes passes t id v = r.seats id v at lives in
      let st : Stands nodes passes t = r.stands in
      let t' : Truth = record t { words = set t.words i x; history = e ∷ t.history } in
      let st' : Stands nodes passes t' = stands_beside nodes passes t e i x st may (of.same passes) beside shows
      (λ q above. of.others q (λ z. let b = (f.holds p mine).0 in omega arith) ∙ st.unused q above) in
      let w : View = record (view_at v (e ∷ r.history) r.names) { given = [] } in
      moved nodes passes s r id i x c w (e ∷ r.history) r.names r.numbered r.holder st'
      (record {
        sizes = f.sizes;
        sees = sees_all t' v.owns v.numbers st'.named;
        owns = f.owns;
        holds = f.holds;
        given = λ n z _. not_both false z refl;
        filled = λ o n k y some_node word is. let g = f.filled o n k y some_node word is in
            (g.0, (of.same passes).free n (free_same passes n r.history v.history (f.sees.added.owner o) ∙ g.1), node_else nodes passes s.words i x n k beside g.0 word ∙ g.2);
        heard = λ k u z. cc;
      })
      (λ j u apart _ g. record {
        added = e ∷ [];
        history = refl;
        new = [];
        names = refl;
        same_owner = refl;
        own = λ q _ held. of.others q (λ z. apart (sym held ∙ (ap r.holder z ∙ (f.holds p mine).1)));
        owner = λ _. (of.owner, refl, λ n k _ b word. node_else nodes passes s.words i x n k beside b word);
        holder = λ q b held. (b, held);
      })

module _ (nodes passes slots id : ℕ) (me : Mine) (lives : me.0.spent ≡ false) (mine : among (number_of me.0) me.0.numbers ≡ true) where
  -- what there is shows the pass as its own entries do
  few_of : (s : St) (r : Holds nodes passes s) → get_elem? s.views id ≡ some me.0 → number_of me.0 < passes
  few_of s r at = let a = ((r.seats id me.0 at lives).holds (number_of me.0) mine).0 in let z = r.stands.enough in omega arith

  pub enters : is_announced (number_of me.0) me.0.history ≡ true → is_inside (number_of me.0) me.0.history ≡ false
      → Allows (Holds nodes passes) slots id me GATE (λ n. n) (entered (step slots GATE 0 0 none) me)
  enters stamped out s r _ at _ =
      let v : View = me.0 in
      let p : ℕ = number_of v in
      let f : Fits nodes passes (there s r) id v = r.seats id v at lives in
      let st : Stands nodes passes (there s r) = r.stands in
      let h : List Entry = r.history in
      let own = f.sees.added.own p mine in
      let may : MayFollow nodes passes h (Enter p) = (announced_same p h v.history own ∙ stamped, inside_same p h v.history own ∙ out) in (
        record (view_at v (Enter p ∷ h) r.names) { given = [] },
        keeps,
        tt,
        pass_holds nodes passes s r id v at lives p (Enter p) GATE (get_or s.words GATE 0) me.1 mine (enter_of p h) may (inl refl) (shows_loaded nodes passes s.words GATE h (Enter p ∷ h) refl (λ q. refl) st.beside),
        (record { past = h; names = r.names; takes = taken nodes passes (there s r) id v st f; now = refl }, st.beside.gate),
      )

  pub leaves : is_inside (number_of me.0) me.0.history ≡ true → Allows (Holds nodes passes) slots id me GATE (λ n. n) (left (step slots GATE 0 0 none) me)
  leaves inn s r _ at _ =
      let v : View = me.0 in
      let p : ℕ = number_of v in
      let f : Fits nodes passes (there s r) id v = r.seats id v at lives in
      let st : Stands nodes passes (there s r) = r.stands in
      let h : List Entry = r.history in
      let may : MayFollow nodes passes h (Leave p) = inside_same p h v.history (f.sees.added.own p mine) ∙ inn in (
        record (view_at v (Leave p ∷ h) r.names) { given = [] },
        keeps,
        tt,
        pass_holds nodes passes s r id v at lives p (Leave p) GATE (get_or s.words GATE 0) me.1 mine (leave_of p h) may (inl refl) (shows_loaded nodes passes s.words GATE h (Leave p ∷ h) refl (λ q. refl) st.beside),
        (record { past = h; names = r.names; takes = taken nodes passes (there s r) id v st f; now = refl }, st.beside.gate),
      )

  -- the word of the pass's own stamp
  own_stamp : (s : St) (r : Holds nodes passes s) → get_elem? s.views id ≡ some me.0 → (i : ℕ) → i ≡ stamp_place me.0.nodes (number_of me.0) → i ≡ stamp_place nodes (number_of me.0)
  own_stamp s r at i is = is ∙ ap (λ n. stamp_place n (number_of me.0)) (r.seats id me.0 at lives).sizes.0

  -- what is found there
  own_found : (s : St) (r : Holds nodes passes s) → get_elem? s.views id ≡ some me.0 → (i : ℕ) → i ≡ stamp_place me.0.nodes (number_of me.0) → get_or s.words i 0 ≡ stamp_of (number_of me.0) r.history
  own_found s r at i is = ap (λ k. get_or s.words k 0) (own_stamp s r at i is) ∙ r.stands.beside.stamps (number_of me.0) (few_of s r at)

  pub announces : (i seen : ℕ) → i ≡ stamp_place me.0.nodes (number_of me.0) → is_announced (number_of me.0) me.0.history ≡ false → seen ≤ counts me.0.history
      → Allows (Holds nodes passes) slots id me i (λ _. seen + 1) (announced (step slots i (seen + 1) 0 none) me)
  announces i seen is quiet known s r _ at _ =
      let v : View = me.0 in
      let p : ℕ = number_of v in
      let f : Fits nodes passes (there s r) id v = r.seats id v at lives in
      let st : Stands nodes passes (there s r) = r.stands in
      let h : List Entry = r.history in
      let few : p < passes = few_of s r at in
      let quiet' : is_announced p h ≡ false = announced_same p h v.history (f.sees.added.own p mine) ∙ quiet in
      let grown = counts-grows v.history h f.sees.added.grows in
      let may : MayFollow nodes passes h (Announce p seen) = (few, quiet', omega arith) in
      let place : i ≡ stamp_place nodes p = own_stamp s r at i is in
      let x : ℕ = seen + 1 in
      let now : x ≡ stamp_of p (Announce p seen ∷ h) = let a : stamp_of p (Announce p seen ∷ h) ≡ suc seen = rw (eqb_same p) refl in omega arith in
      let shows : ShowsBeside nodes passes (set s.words i x) (Announce p seen ∷ h) =
      subst (λ k. ShowsBeside nodes passes (set s.words k x) (Announce p seen ∷ h)) (sym place)
      (shows_stamp nodes passes s.words p x h (Announce p seen ∷ h) st.wide few refl now (λ q d. rw (ne_eqb p q (λ z. d (sym z))) refl) st.beside) in
      let w : View = record (view_at v (Announce p seen ∷ h) r.names) { given = [] } in
      let made : Makes (Announce p seen) me (w, me.1) = record { past = h; names = r.names; takes = taken nodes passes (there s r) id v st f; now = refl } in (
        w,
        keeps,
        tt,
        pass_holds nodes passes s r id v at lives p (Announce p seen) i x me.1 mine (announce_of p seen h) may (inr (omega arith)) shows,
        ((λ seen' e. let z : seen ≡ seen' = omega arith in subst (λ k. Makes (Announce p k) me (w, me.1)) z made), own_found s r at i is ∙ rw quiet' refl),
      )

  pub retires : (i : ℕ) → i ≡ stamp_place me.0.nodes (number_of me.0) → is_announced (number_of me.0) me.0.history ≡ true → is_inside (number_of me.0) me.0.history ≡ false
      → Allows (Holds nodes passes) slots id me i (λ _. 0) (retired (step slots i 0 0 none) me)
  retires i is stamped out s r _ at _ =
      let v : View = me.0 in
      let p : ℕ = number_of v in
      let f : Fits nodes passes (there s r) id v = r.seats id v at lives in
      let st : Stands nodes passes (there s r) = r.stands in
      let h : List Entry = r.history in
      let few : p < passes = few_of s r at in
      let own = f.sees.added.own p mine in
      let stamped' : is_announced p h ≡ true = announced_same p h v.history own ∙ stamped in
      let may : MayFollow nodes passes h (Retire p) = (stamped', inside_same p h v.history own ∙ out) in
      let place : i ≡ stamp_place nodes p = own_stamp s r at i is in
      let now : ◌≡◌ {A = ℕ} 0 (stamp_of p (Retire p ∷ h)) = rw (eqb_same p) refl in
      let shows : ShowsBeside nodes passes (set s.words i 0) (Retire p ∷ h) =
      subst (λ k. ShowsBeside nodes passes (set s.words k 0) (Retire p ∷ h)) (sym place)
      (shows_stamp nodes passes s.words p 0 h (Retire p ∷ h) st.wide few refl now (λ q d. rw (ne_eqb p q (λ z. d (sym z))) refl) st.beside) in
      let some_stamp : 0 < stamp_of p h = rw stamped' (omega arith) in (
        record (view_at v (Retire p ∷ h) r.names) { given = [] },
        keeps,
        tt,
        pass_holds nodes passes s r id v at lives p (Retire p) i 0 me.1 mine (retire_of p h) may (inr (omega arith)) shows,
        (record { past = h; names = r.names; takes = taken nodes passes (there s r) id v st f; now = refl }, subst (λ k. 0 < k) (sym (own_found s r at i is)) some_stamp),
      )
