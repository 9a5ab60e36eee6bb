-- The writer's books agree with the history after each of its steps.
use Rattle.std.proofs.Common.{◌≡◌, ◌≢◌, ℕ, zero, suc, ◌+◌, ◌<◌, ◌≤◌, List, [], ◌∷◌, ◌++◌, length, get_or, Bool, true, false, cond, not, ◌||◌, ◌&&◌, eqb, ltb, filter, refl, sym, ap, ◌∙◌, subst, arith, length-append, take, drop}
use Rattle.std.proofs.lemmas.Bool.{and_parts, eqb-true}
use Rattle.plcr_base.proofs.Plain.{and_false}
use Rattle.plcr_machine.specs.declared.image.Image.{Image}
use Rattle.plcr_machine.specs.declared.entry.Entry.{Entry}
use Rattle.plcr_machine.specs.declared.entry.Entry.TheVariants.{Unload, Count}
use Rattle.plcr_machine.specs.Lists.{has, without, live, loads}
use Rattle.plcr_machine.specs.Nodes.{is_new, is_removed, is_cleared, is_free, is_waiting, is_let_go, counts_before}
use Rattle.plcr_machine.specs.Passes.{counts, owes_count, all_under}
use Rattle.plcr_machine.specs.Histories.{IsHistory}
use Rattle.plcr_machine.specs.Parts.{owner_entries}
use Rattle.plcr_machine.proofs.Cases.{by_cases, eqb_same, not_both}
use Rattle.plcr_machine.proofs.OnNodes.{IsApart}
use Rattle.plcr_machine.proofs.Under.{all_under-more}
use Rattle.plcr_machine.proofs.Freedom.{listed_old, listed_busy, listed_kept, removed_old, live_apart, live_bound}
use Rattle.plcr_machine.proofs.Full.{all_live}
use Rattle.plcr_machine.proofs.Pace.{paced_rest}
use Rattle.plcr_machine.proofs.Insiders.{counts_few}
use Rattle.plcr_machine.proofs.Reach.{before_most}
use Rattle.plcr_nodes.specs.declared.view.Store.{Store}
use Rattle.plcr_nodes.specs.Names.{header_in}
use Rattle.plcr_nodes.specs.Tokens.{OwnerState}
use Rattle.plcr_nodes.specs.Owning.{IsLinked, IsUnlinked, IsCounted}
use Rattle.plcr_nodes.proofs.Known.{live_same, loads_same, free_same, counts_same, removed_same, before_same, let_go_same}
use Rattle.plcr_nodes.proofs.Pacing.{changes_same, owes_same, paced_same}
use Rattle.plcr_imagelist.specs.declared.bounds.Removed.{Removed}
use Rattle.plcr_imagelist.specs.declared.bounds.TheConstants.{MOST_BOUND}
use Rattle.plcr_imagelist.specs.Finding.{NoneFree}
use Rattle.plcr_imagelist.specs.States.{WriterState, IsAtRest}
use Rattle.plcr_imagelist.specs.Changes.{Looks}
use Rattle.plcr_imagelist.specs.inner.Keeping.{writer_state, times, is_node, once_where, nodes_of, AreTold, AreBounds, least_from, is_above, let_go_below, Agrees, last_of}
use Rattle.plcr_imagelist.proofs.Counted.{times-append, times-snoc, times_empty, once_true, once_false, is_node_bound, is_node_at, last_none, last_some}
use Rattle.plcr_imagelist.proofs.Placed.{cut_out}
use Rattle.plcr_imagelist.proofs.Bounding.{bounds_seen, bounds_loaded, bounds_unloaded, bounds_counted, cleared_least}
use Rattle.plcr_imagelist.proofs.Freeing.{nodes_of-snoc, times-split, times-given, length-split, told_kept, told_seen, told_unloaded, told-snoc}
use Rattle.plcr_imagelist.proofs.Looking.{OnlyLooks, looks_only, looks_out}

once_never : (a : Bool) → once_where (a && false) ≡ 0
once_never true = refl
once_never false = refl

once_most : (a : Bool) → once_where a ≤ 1
once_most true = omega arith
once_most false = omega arith

-- a node that is free, or in the list, does not wait
free_settled : (new removed cleared : Bool) → (removed ≡ true → new ≡ false) → (new || (removed && cleared)) ≡ true → (removed && not cleared) ≡ false
free_settled true true cleared old f = not_both true refl (old refl)
free_settled true false cleared old f = refl
free_settled false true true old f = refl
free_settled false true false old f = not_both false f refl
free_settled false false cleared old f = refl

cleared_same : (passes n : ℕ) (g h : List Entry) → owner_entries g ≡ owner_entries h → is_cleared passes n g ≡ is_cleared passes n h
cleared_same passes n g h e = ap (λ (f : ℕ → Bool). all_under f passes) (λ i p. let_go_same p n g h e i)

-- right after its unload no pass has let go of a node
not_cleared : (passes n node : ℕ) (past : List Entry) → eqb node n ≡ true → 0 < passes → is_cleared passes n (Unload node ∷ past) ≡ false
not_cleared zero n node past e some = absurd (omega arith)
not_cleared (suc p) n node past e some = rw e refl

pub waiting_same : (passes n : ℕ) (g h : List Entry) → owner_entries g ≡ owner_entries h → is_waiting passes n g ≡ is_waiting passes n h
waiting_same passes n g h e = λ i. removed_same n g h e i && not (cleared_same passes n g h e i)

-- no node is free where the last of the free ones is 0
pub spare_none : (o : OwnerState) (bounds spares : List ℕ) (gone : List Removed) (listed : List Image) (c l : ℕ) → Agrees o bounds spares gone listed c l → last_of spares ≡ 0 → NoneFree o.nodes o.passes o.history
spare_none o bounds spares gone listed c l a last n some most =
    let zeros : times 0 spares ≡ 0 = a.free 0 in
    let empty = times_empty n spares (last_none spares zeros last) in
    let off = once_false (is_node o.nodes n && is_free o.passes n o.history) (sym (a.free n) ∙ empty) in
    rw (is_node_at o.nodes n some most) at off

-- and it is free where it isn't 0
pub spare_free : (o : OwnerState) (bounds spares : List ℕ) (gone : List Removed) (listed : List Image) (c l : ℕ) → Agrees o bounds spares gone listed c l → last_of spares ≢ 0
    → (0 < last_of spares) × (last_of spares ≤ o.nodes) × (is_free o.passes (last_of spares) o.history ≡ true)
spare_free o bounds spares gone listed c l a some =
    let n : ℕ = last_of spares in
    let once = last_some spares some in
    let same = a.free n in
    let both = and_parts (is_node o.nodes n) (is_free o.passes n o.history) (once_true (is_node o.nodes n && is_free o.passes n o.history) (omega (arith, once, same))) in
    let bound = is_node_bound o.nodes n both.0 in
    (bound.0, bound.1, both.1)

-- what is stored in free nodes changes no book
pub agrees_stored : (o : OwnerState) (ss : List Store) (bounds spares : List ℕ) (gone : List Removed) (listed : List Image) (c l : ℕ) → Agrees o bounds spares gone listed c l → Agrees (record o { filled = ss }) bounds spares gone listed c l
agrees_stored o ss bounds spares gone listed c l a =
    record { known = a.known; paced = a.paced; some = a.some; images = a.images; bounded = a.bounded; free = a.free; removed = a.removed; told = a.told; all = a.all; changes_are = a.changes_are; loads_are = a.loads_are }

-- a free node was linked at the end
pub agrees_linked : (old : OwnerState) (node : ℕ) (new : OwnerState) (bounds front : List ℕ) (gone : List Removed) (listed : List Image) (c l : ℕ) → IsLinked old node new → owes_count old.history ≡ false
    → Agrees old bounds (front ++ node ∷ []) gone listed c l → Agrees new bounds front gone (listed ++ record { node = node; load = suc l; header = header_in node old.filled } ∷ []) (suc c) (suc l)
agrees_linked old node new bounds front gone listed c l k owes a =
    let own = k.sees.added.owner refl in
    let past : List Entry = k.past in
    let header : ℕ = header_in node old.filled in
    let lists : live past ≡ live old.history = live_same past old.history own in
    let numbers : loads past ≡ loads old.history = loads_same past old.history own in
    let legal = subst (λ (s : OwnerState). IsHistory s.nodes s.passes s.history s.names) k.now k.legal in
    let node_free : is_free old.passes node old.history ≡ true = sym (free_same old.passes node past old.history own) ∙ legal.legal.0.2 in
    subst (λ (s : OwnerState). Agrees s bounds front gone (listed ++ record { node = node; load = suc l; header = header } ∷ []) (suc c) (suc l)) (sym k.now)
    (record {
      known = legal;
      paced = (owes_same past old.history own ∙ owes, paced_same past old.history own a.paced);
      some = a.some;
      images = let xs : listed ≡ live past = a.images ∙ sym lists in let n : l ≡ loads past = a.loads_are ∙ sym numbers in
          ap (λ (ys : List Image). ys ++ record { node = node; load = suc l; header = header } ∷ []) xs ∙ ap (λ (i : ℕ). live past ++ record { node = node; load = suc i; header = header } ∷ []) n;
      bounded = bounds_loaded old.passes node (suc (loads past)) header past bounds (bounds_seen old.passes past old.history bounds own a.bounded);
      free = λ n. let before = sym (times-snoc n node front) ∙ a.free n in
          by_cases (eqb node n)
          (λ e. let one : times n front + 1 ≡ once_where (is_node old.nodes n && is_free old.passes n old.history) = rw e at before in
          let most = once_most (is_node old.nodes n && is_free old.passes n old.history) in
          let none : times n front ≡ 0 = omega arith in none ∙ rw e (sym (once_never (is_node old.nodes n))))
          (λ e. let none : times n front + 0 ≡ once_where (is_node old.nodes n && is_free old.passes n old.history) = rw e at before in
          let same : times n front ≡ once_where (is_node old.nodes n && is_free old.passes n old.history) = omega arith in
          same ∙ rw e (ap (λ b. once_where (is_node old.nodes n && b)) (sym (free_same old.passes n past old.history own))));
      removed = λ n. let before = a.removed n in
          by_cases (eqb node n)
          (λ e. let m : node ≡ n = eqb-true node n e in
          let f : is_free old.passes n old.history ≡ true = subst (λ i. is_free old.passes i old.history ≡ true) m node_free in
          let w : is_waiting old.passes n old.history ≡ false = free_settled (is_new n old.history) (is_removed n old.history) (is_cleared old.passes n old.history) (removed_old old.nodes old.passes n old.history a.known.legal) f in
          before ∙ ap (λ b. once_where (is_node old.nodes n && b)) w ∙ rw e refl)
          (λ e. before ∙ rw e (ap (λ b. once_where (is_node old.nodes n && b)) (sym (waiting_same old.passes n past old.history own))));
      told = told_seen past old.history (λ n. before_same n past old.history own) gone a.told;
      all = let total = a.all in let size = length-append front (node ∷ []) in let more = length-append listed (record { node = node; load = suc l; header = header } ∷ []) in omega arith;
      changes_are = ap suc (a.changes_are ∙ sym (changes_same past old.history own));
      loads_are = ap suc (a.loads_are ∙ sym numbers);
    })

-- a node of the list was unlinked
pub agrees_unlinked : (old : OwnerState) (node : ℕ) (new : OwnerState) (bounds spares : List ℕ) (gone : List Removed) (listed rest : List Image) (c l : ℕ) → IsUnlinked old node new → owes_count old.history ≡ false
    → rest ≡ without node listed → suc (length rest) ≡ length listed
    → Agrees old bounds spares gone listed c l → Agrees new bounds spares (gone ++ record { node = node; before = c } ∷ []) rest (suc c) l
agrees_unlinked old node new bounds spares gone listed rest c l k owes taken shorter a =
    let own = k.sees.added.owner refl in
    let past : List Entry = k.past in
    let r : Removed = record { node = node; before = c } in
    let lists : live past ≡ live old.history = live_same past old.history own in
    let legal = subst (λ (s : OwnerState). IsHistory s.nodes s.passes s.history s.names) k.now k.legal in
    let on : has node (live old.history) ≡ true = sym (ap (has node) lists) ∙ legal.legal.0 in
    let on' : has node (live past) ≡ true = legal.legal.0 in
    let bound = live_bound old.nodes old.passes node old.history a.known.legal on in
    let kept : is_removed node old.history ≡ false = listed_kept node old.history on in
    let none : times node (nodes_of gone) ≡ 0 = a.removed node ∙ ap (λ b. once_where (is_node old.nodes node && (b && not (is_cleared old.passes node old.history)))) kept ∙ once_never (is_node old.nodes node) in
    let bounded = bounds_unloaded old.passes node past bounds (bounds_seen old.passes past old.history bounds own a.bounded) in
    let same_free : (n : ℕ) → is_free old.passes n (Unload node ∷ past) ≡ is_free old.passes n old.history = λ n.
    by_cases (eqb node n)
    (λ e. let m : node ≡ n = eqb-true node n e in
    let there : has n (live old.history) ≡ true = subst (λ i. has i (live old.history) ≡ true) m on in
    let there' : has n (live past) ≡ true = ap (has n) lists ∙ there in
    let held : is_cleared old.passes n (Unload node ∷ past) ≡ false = not_cleared old.passes n node past e a.some in
    let new : is_new n past ≡ false = listed_old n past there' in
    (λ i. new i || (is_removed n (Unload node ∷ past) && held i)) ∙ and_false (is_removed n (Unload node ∷ past)) ∙ sym (listed_busy old.passes n old.history there))
    (λ e. rw e (free_same old.passes n past old.history own)) in
    subst (λ (s : OwnerState). Agrees s bounds spares (gone ++ r ∷ []) rest (suc c) l) (sym k.now)
    (record {
      known = legal;
      paced = (owes_same past old.history own ∙ owes, paced_same past old.history own a.paced);
      some = a.some;
      images = taken ∙ ap (without node) (a.images ∙ sym lists);
      bounded = bounded;
      free = λ n. a.free n ∙ ap (λ b. once_where (is_node old.nodes n && b)) (sym (same_free n));
      removed = λ n. let before = a.removed n in let more = ap (times n) (nodes_of-snoc gone r) ∙ times-snoc n node (nodes_of gone) in
          by_cases (eqb node n)
          (λ e. let m : node ≡ n = eqb-true node n e in
          let none' : times n (nodes_of gone) ≡ 0 = subst (λ i. times i (nodes_of gone) ≡ 0) m none in
          let one : times n (nodes_of (gone ++ r ∷ [])) ≡ 1 = more ∙ rw e (omega arith) in
          let number : is_node old.nodes n ≡ true = subst (λ i. is_node old.nodes i ≡ true) m (is_node_at old.nodes node bound.0 bound.1) in
          let held : is_cleared old.passes n (Unload node ∷ past) ≡ false = not_cleared old.passes n node past e a.some in
          let gone_now : is_removed n (Unload node ∷ past) ≡ true = rw e refl in
          one ∙ sym (λ i. once_where (number i && (gone_now i && not (held i)))))
          (λ e. let plus : times n (nodes_of (gone ++ r ∷ [])) ≡ times n (nodes_of gone) = more ∙ rw e (omega arith) in
          plus ∙ before ∙ rw e (ap (λ b. once_where (is_node old.nodes n && b)) (sym (waiting_same old.passes n past old.history own))));
      told = let before = told_unloaded node past gone none (told_seen past old.history (λ n. before_same n past old.history own) gone a.told) in
          let rest_is = paced_rest old.history a.paced owes in
          let at : c ≡ counts past = a.changes_are ∙ rest_is ∙ sym (counts_same past old.history own) in
          told-snoc (Unload node ∷ past) gone r before (at ∙ rw (eqb_same node) refl);
      all = let total = a.all in let more = length-append gone (r ∷ []) in omega arith;
      changes_are = ap suc (a.changes_are ∙ sym (changes_same past old.history own));
      loads_are = a.loads_are ∙ sym (loads_same past old.history own);
    })

-- a change was counted, which makes nothing free
pub agrees_counted : (old : OwnerState) (found : ℕ) (new : OwnerState) (bounds spares : List ℕ) (gone : List Removed) (listed : List Image) (c l : ℕ) → IsCounted old found new → owes_count old.history ≡ true
    → Agrees old bounds spares gone listed c l → Agrees new bounds spares gone listed c l
agrees_counted old found new bounds spares gone listed c l k owes a =
    let own = k.entry.sees.added.owner refl in
    let past : List Entry = k.entry.past in
    subst (λ (s : OwnerState). Agrees s bounds spares gone listed c l) (sym k.entry.now)
    (record {
      known = subst (λ (s : OwnerState). IsHistory s.nodes s.passes s.history s.names) k.entry.now k.entry.legal;
      paced = (owes_same past old.history own ∙ owes, paced_same past old.history own a.paced);
      some = a.some;
      images = a.images ∙ sym (live_same past old.history own);
      bounded = bounds_counted old.passes past bounds (bounds_seen old.passes past old.history bounds own a.bounded);
      free = λ n. a.free n ∙ ap (λ b. once_where (is_node old.nodes n && b)) (sym (free_same old.passes n past old.history own));
      removed = λ n. a.removed n ∙ ap (λ b. once_where (is_node old.nodes n && b)) (sym (waiting_same old.passes n past old.history own));
      told = told_seen (Count ∷ past) old.history (λ n. before_same n past old.history own) gone a.told;
      all = a.all;
      changes_are = a.changes_are ∙ sym (changes_same past old.history own);
      loads_are = a.loads_are ∙ sym (loads_same past old.history own);
    })

-- each pass was looked at, and the nodes below the least bound are free now
freed_now : (a new removed cleared below : Bool) → (removed ≡ true → new ≡ false) → (cleared ≡ true → removed ≡ true → below ≡ true)
    → once_where (a && (new || (removed && cleared))) + cond below (once_where (a && (removed && not cleared))) 0 ≡ once_where (a && (new || (removed && below)))
freed_now false new removed cleared true old more = refl
freed_now false new removed cleared false old more = refl
freed_now true true true cleared below old more = not_both true refl (old refl)
freed_now true true false cleared true old more = refl
freed_now true true false cleared false old more = refl
freed_now true false true true true old more = refl
freed_now true false true true false old more = not_both false (more refl refl) refl
freed_now true false true false true old more = refl
freed_now true false true false false old more = refl
freed_now true false false cleared true old more = refl
freed_now true false false cleared false old more = refl

held_now : (a removed cleared below : Bool) → (cleared ≡ true → removed ≡ true → below ≡ true) → (here : ℕ) → here + cond below (once_where (a && (removed && not cleared))) 0 ≡ once_where (a && (removed && not cleared))
    → here ≡ once_where (a && (removed && not below))
held_now false removed cleared true more here e = omega arith
held_now false removed cleared false more here e = omega arith
held_now true true true true more here e = omega arith
held_now true true true false more here e = not_both false (more refl refl) refl
held_now true true false true more here e = omega arith
held_now true true false false more here e = omega arith
held_now true false cleared true more here e = omega arith
held_now true false cleared false more here e = omega arith

same_where : (removed a b : Bool) → (removed ≡ true → a ≡ b) → (removed && a) ≡ (removed && b)
same_where true a b s = s refl
same_where false a b s = refl

same_unless : (removed a b : Bool) → (removed ≡ true → a ≡ b) → (removed && not a) ≡ (removed && not b)
same_unless true a b s = ap not (s refl)
same_unless false a b s = refl

pub agrees_looked : (old new : OwnerState) (found : ℕ) (bounds bounds' spares : List ℕ) (gone : List Removed) (listed : List Image) (c l : ℕ) → Looks old.passes (writer_state old) found (writer_state new)
    → new ≡ record old { history = new.history; names = new.names } → IsAtRest (writer_state new) → AreBounds old.passes new.history bounds'
    → Agrees old bounds spares gone listed c l
    → Agrees new bounds' (spares ++ let_go_below (least_from MOST_BOUND bounds') gone) (filter (is_above (least_from MOST_BOUND bounds')) gone) listed c l
agrees_looked old new found bounds bounds' spares gone listed c l looks same rest b a =
    let h : List Entry = old.history in
    let g : List Entry = new.history in
    let only : OnlyLooks h g = looks_only old.passes (writer_state old) found (writer_state new) looks in
    let least : ℕ = least_from MOST_BOUND bounds' in
    let told : AreTold g gone = told_seen g h only.before gone a.told in
    let known : IsHistory old.nodes old.passes g new.names = subst (λ (s : OwnerState). IsHistory s.nodes s.passes s.history s.names) same rest.known in
    let few = counts_few old.nodes old.passes g known.legal in
    let below : ℕ → Bool = λ n. ltb (suc (counts_before n g)) least in
    let small : (n : ℕ) → is_removed n g ≡ true → suc (counts_before n g) < MOST_BOUND = λ n r. let m = before_most n g in omega arith in
    let now : (n : ℕ) → is_removed n h ≡ true → is_cleared old.passes n g ≡ below n = λ n r.
    cleared_least old.passes n MOST_BOUND g bounds' b (only.removed n ∙ r) (small n (only.removed n ∙ r)) in
    let more : (n : ℕ) → is_cleared old.passes n h ≡ true → is_removed n h ≡ true → below n ≡ true = λ n t r.
    sym (now n r) ∙ all_under-more (λ p. is_let_go p n h) (λ p. is_let_go p n g) old.passes (λ p under e. only.let_go p n e) t in
    let given : (n : ℕ) → times n (let_go_below least gone) ≡ cond (below n) (once_where (is_node old.nodes n && is_waiting old.passes n h)) 0 = λ n.
    times-given n least g gone told ∙ ap (λ k. cond (below n) k 0) (a.removed n) in
    let free : (n : ℕ) → is_free old.passes n g ≡ (is_new n h || (is_removed n h && below n)) = λ n.
    (λ i. only.new n i || (only.removed n i && is_cleared old.passes n g)) ∙ ap (λ b. is_new n h || b) (same_where (is_removed n h) (is_cleared old.passes n g) (below n) (now n)) in
    let waiting : (n : ℕ) → is_waiting old.passes n g ≡ (is_removed n h && not (below n)) = λ n.
    (λ i. only.removed n i && not (is_cleared old.passes n g)) ∙ same_unless (is_removed n h) (is_cleared old.passes n g) (below n) (now n) in
    subst (λ (s : OwnerState). Agrees s bounds' (spares ++ let_go_below least gone) (filter (is_above least) gone) listed c l) (sym same)
    (record {
      known = known;
      paced = rest.paced;
      some = a.some;
      images = a.images ∙ sym only.list;
      bounded = b;
      free = λ n. times-append n spares (let_go_below least gone) ∙ (λ i. a.free n i + given n i)
          ∙ freed_now (is_node old.nodes n) (is_new n h) (is_removed n h) (is_cleared old.passes n h) (below n) (removed_old old.nodes old.passes n h a.known.legal) (more n)
          ∙ ap (λ b. once_where (is_node old.nodes n && b)) (sym (free n));
      removed = λ n. let parts = times-split n least gone in let g' = given n in let whole = a.removed n in
          held_now (is_node old.nodes n) (is_removed n h) (is_cleared old.passes n h) (below n) (more n) (times n (nodes_of (filter (is_above least) gone))) (omega arith)
          ∙ ap (λ b. once_where (is_node old.nodes n && b)) (sym (waiting n));
      told = told_kept (is_above least) g gone told;
      all = let total = a.all in let size = length-append spares (let_go_below least gone) in let parts = length-split least gone in omega arith;
      changes_are = a.changes_are ∙ sym only.changed;
      loads_are = a.loads_are ∙ sym only.loaded;
    })

-- the same, by what the lists and numbers are then
pub books_linked : (old : OwnerState) (node : ℕ) (new : OwnerState) (bounds spares front : List ℕ) (gone : List Removed) (listed listed' : List Image) (c l header : ℕ) → IsLinked old node new → owes_count old.history ≡ false
    → spares ≡ front ++ node ∷ [] → header ≡ header_in node old.filled → listed' ≡ listed ++ record { node = node; load = l + 1; header = header } ∷ []
    → Agrees old bounds spares gone listed c l → Agrees new bounds front gone listed' (c + 1) (l + 1)
books_linked old node new bounds spares front gone listed listed' c l header k owes parts same longer a =
    let more : c + 1 ≡ suc c = omega arith in
    let more' : l + 1 ≡ suc l = omega arith in
    let is : listed' ≡ listed ++ record { node = node; load = suc l; header = header_in node old.filled } ∷ [] =
    longer ∙ ap (λ (i : ℕ). listed ++ record { node = node; load = i; header = header } ∷ []) more' ∙ ap (λ (h : ℕ). listed ++ record { node = node; load = suc l; header = h } ∷ []) same in
    subst (λ i. Agrees new bounds front gone listed' i (l + 1)) (sym more)
    (subst (λ i. Agrees new bounds front gone listed' (suc c) i) (sym more')
    (subst (λ (ys : List Image). Agrees new bounds front gone ys (suc c) (suc l)) (sym is)
    (agrees_linked old node new bounds front gone listed c l k owes (subst (λ (xs : List ℕ). Agrees old bounds xs gone listed c l) parts a))))

pub books_unlinked : (old : OwnerState) (image : Image) (new : OwnerState) (bounds spares : List ℕ) (gone gone' : List Removed) (listed rest : List Image) (c l i : ℕ) → IsUnlinked old image.node new → owes_count old.history ≡ false
    → i < length (live old.history) → image ≡ get_or (live old.history) i image → rest ≡ take i listed ++ drop (suc i) listed → suc (length rest) ≡ length listed → gone' ≡ gone ++ record { node = image.node; before = c } ∷ []
    → Agrees old bounds spares gone listed c l → Agrees new bounds spares gone' rest (c + 1) l
books_unlinked old image new bounds spares gone gone' listed rest c l i k owes below is cut shorter longer a =
    let more : c + 1 ≡ suc c = omega arith in
    let lists : live old.history ≡ listed = sym a.images in
    let apart = subst (λ (xs : List Image). IsApart xs) lists (live_apart old.nodes old.passes old.history a.known.legal) in
    let taken : rest ≡ without image.node listed = cut ∙ cut_out listed i image apart (subst (λ (xs : List Image). i < length xs) lists below) (subst (λ (xs : List Image). image ≡ get_or xs i image) lists is) in
    subst (λ j. Agrees new bounds spares gone' rest j l) (sym more)
    (subst (λ (xs : List Removed). Agrees new bounds spares xs rest (suc c) l) (sym longer) (agrees_unlinked old image.node new bounds spares gone listed rest c l k owes taken shorter a))

-- where no node is free, the others wait
pub held_count : (o : OwnerState) (bounds spares : List ℕ) (gone : List Removed) (listed : List Image) (c l : ℕ) → Agrees o bounds spares gone listed c l → last_of spares ≡ 0 → length gone + length (live o.history) ≡ o.nodes
held_count o bounds spares gone listed c l a last =
    let zeros : times 0 spares ≡ 0 = a.free 0 in
    let empty = last_none spares zeros last in
    let total = a.all in let lists = ap length a.images in omega arith

-- and where no pass had a stamp, none does
pub none_held : (o : OwnerState) (found : ℕ) (old : WriterState) (bounds spares : List ℕ) (gone : List Removed) (listed : List Image) (c l : ℕ) → Agrees o bounds spares gone listed c l → last_of spares ≡ 0
    → Looks o.passes old found (writer_state o) → found ≡ 0 → length (live o.history) ≡ o.nodes
none_held o found old bounds spares gone listed c l a last looks none =
    all_live o.nodes o.passes o.history a.known.legal (looks_out o.passes old found (writer_state o) looks none) (spare_none o bounds spares gone listed c l a last)
