-- Steps that load a word: they change nothing, and the seat sees the whole history.
use Rattle.std.proofs.Common.{◌≡◌, ◌≢◌, ◌⊎◌, ⊎_elim, inl, inr, ℕ, ◌+◌, ◌<◌, ◌≤◌, List, ◌∷◌, ◌++◌, true, false, eqb, refl, sym, ap, ◌∙◌, subst, arith, length, get_or, set, eqb-true}
use Rattle.std.proofs.lemmas.Bool.{or_cases}
use Rattle.std.proofs.lemmas.List.{set-get_or}
use mathlib.Core.Option.{some, none}
use lib.ListN.{get_elem?}
use Rattle.atomic_table.specs.Table.{keeps, stepped, step, Allows}
use Rattle.atomic_table.proofs.Lists.{at_set}
use Rattle.plcr_machine.specs.declared.image.Image.{Image}
use Rattle.plcr_machine.specs.declared.entry.Entry.{Entry}
use Rattle.plcr_machine.specs.Histories.{IsLegal}
use Rattle.plcr_machine.specs.Lists.{loads, loaded, name_of}
use Rattle.plcr_machine.specs.Holds.{may_reach}
use Rattle.plcr_machine.specs.Passes.{is_inside}
use Rattle.plcr_machine.specs.Links.{link_of}
use Rattle.plcr_machine.specs.Parts.{own_entries}
use Rattle.plcr_nodes.specs.declared.view.View.{View}
use Rattle.plcr_nodes.specs.Entries.{among}
use Rattle.plcr_nodes.specs.Names.{words_of}
use Rattle.plcr_nodes.specs.declared.words.TheConstants.{GATE, PAYLOAD_WORDS}
use Rattle.plcr_nodes.specs.inner.Words.{base}
use Rattle.plcr_nodes.specs.Payload.{name_on, image_word, image_words}
use Rattle.plcr_nodes.specs.inner.Rule.{first_of, number_of, Stands, Fits, Holds}
use Rattle.plcr_nodes.specs.inner.Plays.{Mine, view_at, glanced, followed, loaded_word}
use Rattle.plcr_nodes.proofs.Known.{inside_same, free_same, reach_grows, reach_bound, link_bound, loaded_grows, loaded_most}
use Rattle.plcr_nodes.proofs.NamesKept.{name-older}
use Rattle.plcr_nodes.proofs.Fitting.{St, there, taken, sees_all}
use Rattle.plcr_machine.proofs.Leads.{link_reach, head_reach}
use Rattle.plcr_machine.proofs.Makers.{legal_tail}
use Rattle.plcr_machine.proofs.Reach.{reach_busy}

module _ (nodes passes : ℕ) (s : St) (r : Holds nodes passes s) (id : ℕ) (v : View) (at : get_elem? s.views id ≡ some v) (lives : v.spent ≡ false) where
  -- the seat has seen all, and may have gained pass numbers
  seen_fits : (numbers given : List ℕ) → ((p : ℕ) → among p numbers ≡ true → (p < r.numbered) × (r.holder p ≡ id))
      → ((n : ℕ) → among n given ≡ true → 0 < n → may_reach (first_of numbers) n r.history ≡ true)
      → Fits nodes passes (there s r) id (record (view_at v r.history r.names) { numbers = numbers; given = given })
  seen_fits numbers given held met =
      let f : Fits nodes passes (there s r) id v = r.seats id v at lives in
      record {
        sizes = f.sizes;
        sees = sees_all (there s r) v.owns numbers r.stands.named;
        owns = f.owns;
        holds = held;
        given = met;
        filled = λ o n k y some_node word is. let g = f.filled o n k y some_node word is in (g.0, free_same passes n r.history v.history (f.sees.added.owner o) ∙ g.1, g.2);
        heard = λ k u z. cc;
      }

  pub loads_as : (i : ℕ) (c : List (ℕ × Unit)) (numbers given : List ℕ) → ((p : ℕ) → among p numbers ≡ true → (p < r.numbered) × (r.holder p ≡ id))
      → ((n : ℕ) → among n given ≡ true → 0 < n → may_reach (first_of numbers) n r.history ≡ true)
      → Holds nodes passes (stepped s i (get_or s.words i 0) id c (record (view_at v r.history r.names) { numbers = numbers; given = given }) keeps)
  loads_as i c numbers given held met =
      let w : View = record (view_at v r.history r.names) { numbers = numbers; given = given } in
      let here : Holds nodes passes (record { words = s.words; homes = s.homes; views = set s.views id w }) = record {
        history = r.history;
        names = r.names;
        numbered = r.numbered;
        owner = r.owner;
        holder = r.holder;
        stands = r.stands;
        seats = λ j u a l. ⊎_elim (λ e. subst (λ (z : ℕ × View). Fits nodes passes (there s r) z.0 z.1) (λ k. (sym e.0 k, e.1 k)) (seen_fits numbers given held met))
            (λ e. r.seats j u e.1 l) (at_set s.views id j w u a);
      } in
      subst (λ (ws : List ℕ). Holds nodes passes (record { words = ws; homes = s.homes; views = set s.views id w })) (sym (set-get_or s.words i 0)) here

  pub load_holds : (i : ℕ) (c : List (ℕ × Unit)) (given : List ℕ) → ((n : ℕ) → among n given ≡ true → 0 < n → may_reach (number_of v) n r.history ≡ true)
      → Holds nodes passes (stepped s i (get_or s.words i 0) id c (record (view_at v r.history r.names) { given = given }) keeps)
  load_holds i c given met = loads_as i c v.numbers given (r.seats id v at lives).holds met

-- the name on a node that stays loaded as it was
pub name_grows : (nodes passes : ℕ) (p n : ℕ) (added past : List Entry) (new names : List (List ℕ)) → IsLegal nodes passes (added ++ past) → own_entries p (added ++ past) ≡ own_entries p past
    → may_reach p n past ≡ true → length names ≡ loads past → name_on n (added ++ past) (new ++ names) ≡ name_on n past names
name_grows nodes passes p n added past new names l s r e =
    let m = loaded_most nodes passes n past (legal_tail nodes passes added past l) in
    ap (λ (x : Image). name_of x.load (new ++ names)) (loaded_grows nodes passes p n added past l s r) ∙ name-older (loaded n past).load new names (omega arith)

module _ (nodes passes slots id : ℕ) (me : Mine) (lives : me.0.spent ≡ false) (mine : among (number_of me.0) me.0.numbers ≡ true) where
  -- what was given may still be reached
  pub given_reach : (s : St) (r : Holds nodes passes s) → get_elem? s.views id ≡ some me.0 → (n : ℕ) → may_reach (number_of me.0) n me.0.history ≡ true
      → may_reach (number_of me.0) n r.history ≡ true
  given_reach s r at n m =
      let f : Fits nodes passes (there s r) id me.0 = r.seats id me.0 at lives in
      let w = f.sees.added.grows in
      let o : own_entries (number_of me.0) (w.0 ++ me.0.history) ≡ own_entries (number_of me.0) me.0.history = subst (λ h. own_entries (number_of me.0) h ≡ own_entries (number_of me.0) me.0.history) w.1 (f.sees.added.own (number_of me.0) mine) in
      subst (λ h. may_reach (number_of me.0) n h ≡ true) (sym w.1) (reach_grows (number_of me.0) n w.0 me.0.history o m)

  -- the gate is the number of counts
  pub glances : Allows (Holds nodes passes) slots id me GATE (λ x. x) (glanced (step slots GATE 0 0 none) me)
  glances s r _ at _ =
      let v : View = me.0 in
      let f : Fits nodes passes (there s r) id v = r.seats id v at lives in
      let st : Stands nodes passes (there s r) = r.stands in (
        view_at v r.history r.names,
        keeps,
        tt,
        load_holds nodes passes s r id v at lives GATE me.1 v.given (λ n a some_node. given_reach s r at n (f.given n a some_node)),
        (r.history, r.names, taken nodes passes (there s r) id v st f, st.beside.gate, refl),
      )

  pub follows : (n : ℕ) → is_inside (number_of me.0) me.0.history ≡ true → (n ≡ 0) ⊎ (may_reach (number_of me.0) n me.0.history ≡ true)
      → Allows (Holds nodes passes) slots id me (base n) (λ x. x) (followed (step slots (base n) 0 0 none) me)
  follows n inn place s r _ at _ =
      let v : View = me.0 in
      let p : ℕ = number_of v in
      let f : Fits nodes passes (there s r) id v = r.seats id v at lives in
      let st : Stands nodes passes (there s r) = r.stands in
      let h : List Entry = r.history in
      let inn' : is_inside p h ≡ true = inside_same p h v.history (f.sees.added.own p mine) ∙ inn in
      let x : ℕ = get_or s.words (base n) 0 in
      let word : x ≡ link_of n h = ⊎_elim (λ z. st.links n (omega arith) (inl z)) (λ m. let m' = given_reach s r at n m in st.links n (reach_bound nodes passes p n h st.legal m').1 (inr (reach_busy nodes passes p n h st.legal m'))) place in
      let bound : link_of n h ≤ nodes = link_bound nodes passes n h st.legal in
      let same : v.nodes ≡ nodes = f.sizes.0 in
      let met : 0 < x → may_reach p x h ≡ true = λ some_link. subst (λ y. may_reach p y h ≡ true) (sym word)
      (⊎_elim (λ z. subst (λ k. may_reach p (link_of k h) h ≡ true) (sym z) (head_reach p h inn' (subst (λ k. link_of k h ≢ 0) z (λ zero_link. omega arith))))
      (λ m. link_reach p n h (given_reach s r at n m) (λ zero_link. omega arith)) place) in (
        record (view_at v h r.names) { given = x ∷ v.given },
        keeps,
        tt,
        load_holds nodes passes s r id v at lives (base n) me.1 (x ∷ v.given)
            (λ k a some_node. ⊎_elim (λ e. subst (λ y. may_reach p y h ≡ true) (eqb-true x k e) (met (let z = eqb-true x k e in omega arith))) (λ a'. given_reach s r at k (f.given k a' some_node)) (or_cases (eqb x k) (among k v.given) a)),
        (h, r.names, taken nodes passes (there s r) id v st f, refl, (λ m e. let z : n ≡ m = omega arith in subst (λ k. x ≡ link_of k h) z word), omega arith, met, refl),
      )

  pub reads : (n k : ℕ) → may_reach (number_of me.0) n me.0.history ≡ true → k < PAYLOAD_WORDS → k < image_words n me.0.history me.0.names
      → Allows (Holds nodes passes) slots id me (base n + (k + 1)) (λ x. x) (loaded_word (step slots (base n + (k + 1)) 0 0 none) me)
  reads n k m k_in k_words s r _ at _ =
      let v : View = me.0 in
      let p : ℕ = number_of v in
      let f : Fits nodes passes (there s r) id v = r.seats id v at lives in
      let st : Stands nodes passes (there s r) = r.stands in
      let h : List Entry = r.history in
      let m' : may_reach p n h ≡ true = given_reach s r at n m in
      let b = reach_bound nodes passes p n h st.legal m' in
      let w = f.sees.added.grows in
      let ns = f.sees.named in
      let name : name_on n h r.names ≡ name_on n v.history v.names =
      subst (λ (z : List Entry × List (List ℕ)). name_on n z.0 z.1 ≡ name_on n v.history v.names) (λ i. (sym w.1 i, sym ns.1 i))
      (name_grows nodes passes p n w.0 v.history ns.0 v.names (subst (IsLegal nodes passes) w.1 st.legal) (subst (λ g. own_entries p g ≡ own_entries p v.history) w.1 (f.sees.added.own p mine)) m f.sees.as_many) in
      let x : ℕ = get_or s.words (base n + (k + 1)) 0 in
      let word : x ≡ image_word n h r.names k = st.payload n k b.0 b.1 (reach_busy nodes passes p n h st.legal m') k_in (subst (λ (l : List ℕ). k < 2 + words_of (length l)) (sym name) k_words) in (
        view_at v h r.names,
        keeps,
        tt,
        load_holds nodes passes s r id v at lives (base n + (k + 1)) me.1 v.given (λ j a some_node. given_reach s r at j (f.given j a some_node)),
        (h, r.names, taken nodes passes (there s r) id v st f, refl, (λ n' k' e in_node. let z : n ≡ n' = omega arith in let y : k ≡ k' = omega arith in subst (λ (q : ℕ × ℕ). x ≡ image_word q.0 h r.names q.1) (λ i. (z i, y i)) word), refl),
      )

  pub follows_at : (i n : ℕ) → i ≡ base n → is_inside (number_of me.0) me.0.history ≡ true → (n ≡ 0) ⊎ (may_reach (number_of me.0) n me.0.history ≡ true)
      → Allows (Holds nodes passes) slots id me i (λ x. x) (followed (step slots i 0 0 none) me)
  follows_at i n e inn place = subst (λ j. Allows (Holds nodes passes) slots id me j (λ x. x) (followed (step slots j 0 0 none) me)) (sym e) (follows n inn place)

  pub reads_at : (i n k : ℕ) → i ≡ base n + (k + 1) → may_reach (number_of me.0) n me.0.history ≡ true → k < PAYLOAD_WORDS → k < image_words n me.0.history me.0.names
      → Allows (Holds nodes passes) slots id me i (λ x. x) (loaded_word (step slots i 0 0 none) me)
  reads_at i n k e m k_in k_words = subst (λ j. Allows (Holds nodes passes) slots id me j (λ x. x) (loaded_word (step slots j 0 0 none) me)) (sym e) (reads n k m k_in k_words)
