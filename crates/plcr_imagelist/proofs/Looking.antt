-- A run of looks: what it leaves as it was, and what it makes free.
use Rattle.std.proofs.Common.{◌≡◌, ℕ, zero, suc, ◌+◌, ◌<◌, ◌≤◌, List, [], ◌∷◌, ◌++◌, get_or, set, true, cond, ◌||◌, ◌&&◌, eqb, refl, sym, ap, ◌∙◌, subst, arith, append_assoc}
use Rattle.std.proofs.lemmas.Bool.{or_right, eqb-false, cond_both}
use Rattle.plcr_machine.specs.declared.entry.Entry.{Entry}
use Rattle.plcr_machine.specs.declared.entry.Entry.TheVariants.{Announce, Enter, Leave, Retire, Load, Unload, Count, Look}
use Rattle.plcr_machine.specs.Lists.{Grows, live, loads, changes}
use Rattle.plcr_machine.specs.Nodes.{is_new, is_removed, counts_before, is_let_go, is_found_out, lets_go}
use Rattle.plcr_machine.specs.Passes.{counts, owes_count, IsPaced}
use Rattle.plcr_machine.specs.Changes.{TakesFirst}
use Rattle.plcr_machine.specs.Parts.{owner_entries}
use Rattle.plcr_machine.proofs.Cases.{by_cases}
use Rattle.plcr_nodes.specs.Entries.{WentOn}
use Rattle.plcr_nodes.proofs.Seeing.{grows_again}
use Rattle.plcr_nodes.proofs.Known.{live_same, loads_same, counts_same, new_same, removed_same, before_same, let_go_same}
use Rattle.plcr_nodes.proofs.Pacing.{changes_same, owes_same, paced_same}
use Rattle.plcr_imagelist.specs.States.{WriterState, IsAtRest}
use Rattle.plcr_imagelist.specs.Changes.{IsLookedAt, Looks}
use Rattle.plcr_nodes.specs.Tokens.{OwnerState}
use Rattle.plcr_nodes.specs.Owning.{IsLooked}
use Rattle.plcr_imagelist.specs.inner.Keeping.{writer_state, AreBounds, higher, bound_of}
use Rattle.plcr_machine.proofs.ListsMade.{takes_same}
use Rattle.plcr_imagelist.proofs.Bounding.{bounds_seen, bounds_looked}

-- all that looks leave as it was; and what was let go stays so
pub record OnlyLooks (h g : List Entry) : Type 0 where
  pub list : live g ≡ live h
  pub loaded : loads g ≡ loads h
  pub changed : changes g ≡ changes h
  pub counted : counts g ≡ counts h
  pub owes : owes_count g ≡ owes_count h
  pub new : (n : ℕ) → is_new n g ≡ is_new n h
  pub removed : (n : ℕ) → is_removed n g ≡ is_removed n h
  pub before : (n : ℕ) → counts_before n g ≡ counts_before n h
  pub let_go : (p n : ℕ) → is_let_go p n h ≡ true → is_let_go p n g ≡ true
  pub paced : IsPaced h → IsPaced g
  pub first : TakesFirst h → TakesFirst g

none_looked : (h : List Entry) → OnlyLooks h h
none_looked h = record { list = refl; loaded = refl; changed = refl; counted = refl; owes = refl; new = λ n. refl; removed = λ n. refl; before = λ n. refl; let_go = λ p n t. t; paced = λ p. p; first = λ t. t }

one_look : (h past : List Entry) (q v : ℕ) → owner_entries past ≡ owner_entries h → OnlyLooks h (Look q v ∷ past)
one_look h past q v own = record {
  list = live_same past h own;
  loaded = loads_same past h own;
  changed = changes_same past h own;
  counted = counts_same past h own;
  owes = owes_same past h own;
  new = λ n. new_same n past h own;
  removed = λ n. removed_same n past h own;
  before = λ n. before_same n past h own;
  let_go = λ p n t. or_right (eqb q p && lets_go (counts_before n past) v) (is_let_go p n past) (let_go_same p n past h own ∙ t);
  paced = λ p. paced_same past h own p;
  first = λ t. takes_same h past own t;
}

again : (a b c : List Entry) → OnlyLooks a b → OnlyLooks b c → OnlyLooks a c
again a b c f g = record {
  list = g.list ∙ f.list;
  loaded = g.loaded ∙ f.loaded;
  changed = g.changed ∙ f.changed;
  counted = g.counted ∙ f.counted;
  owes = g.owes ∙ f.owes;
  new = λ n. g.new n ∙ f.new n;
  removed = λ n. g.removed n ∙ f.removed n;
  before = λ n. g.before n ∙ f.before n;
  let_go = λ p n t. g.let_go p n (f.let_go p n t);
  paced = λ p. g.paced (f.paced p);
  first = λ t. g.first (f.first t);
}

pub looked_only : (old : WriterState) (pass stamp : ℕ) (new : WriterState) → IsLookedAt old pass stamp new → OnlyLooks old.history new.history
looked_only old pass stamp new k = subst (λ (s : WriterState). OnlyLooks old.history s.history) (sym k.now) (one_look old.history k.past pass stamp (k.sees.added.owner refl))

pub looks_only : (pass : ℕ) (old : WriterState) (found : ℕ) (new : WriterState) → Looks pass old found new → OnlyLooks old.history new.history
looks_only zero old found new l = subst (λ (s : WriterState). OnlyLooks old.history s.history) (sym l.0) (none_looked old.history)
looks_only (suc pass) old found new (mid, less, stamp, before, look, sum) =
    again old.history mid.history new.history (looks_only pass old less mid before) (looked_only mid pass stamp new look)

-- a writer at rest stays so
pub looked_rest : (old : WriterState) (pass stamp : ℕ) (new : WriterState) → IsLookedAt old pass stamp new → IsAtRest old → IsAtRest new
looked_rest old pass stamp new k r =
    let only = looked_only old pass stamp new k in
    record { known = k.legal; paced = only.paced r.paced; first = only.first r.first; counted = only.owes ∙ r.counted }

pub went_again : {A : Type 0} (a b c : List A) → WentOn a b → WentOn b c → WentOn a c
went_again a b c g h = (h.0 ++ g.0, h.1 ∙ ap (λ l. h.0 ++ l) g.1 ∙ sym (append_assoc h.0 g.0 a))

-- its history and names go on
pub looks_grow : (pass : ℕ) (old : WriterState) (found : ℕ) (new : WriterState) → Looks pass old found new → Grows old.history new.history × WentOn old.names new.names
looks_grow zero old found new l = subst (λ (s : WriterState). Grows old.history s.history × WentOn old.names s.names) (sym l.0) (([], refl), ([], refl))
looks_grow (suc pass) old found new (mid, less, stamp, before, look, sum) =
    let first = looks_grow pass old less mid before in
    subst (λ (s : WriterState). Grows old.history s.history × WentOn old.names s.names) (sym look.now) (
      grows_again old.history mid.history (Look pass stamp ∷ look.past) first.0 (grows_again mid.history look.past (Look pass stamp ∷ look.past) look.sees.added.grows (Look pass stamp ∷ [], refl)),
      went_again old.names mid.names look.names first.1 look.sees.named,
    )

-- where no pass had a stamp, each was found out
found_out-owner : (q : ℕ) (h : List Entry) → is_found_out q (owner_entries h) ≡ is_found_out q h
found_out-owner q [] = refl
found_out-owner q (Announce p s ∷ past) = found_out-owner q past
found_out-owner q (Enter p ∷ past) = found_out-owner q past
found_out-owner q (Leave p ∷ past) = found_out-owner q past
found_out-owner q (Retire p ∷ past) = found_out-owner q past
found_out-owner q (Load n i a ∷ past) = refl
found_out-owner q (Unload n ∷ past) = refl
found_out-owner q (Count ∷ past) = found_out-owner q past
found_out-owner q (Look w x ∷ past) = ap (λ b. (eqb w q && eqb x 0) || b) (found_out-owner q past)

found_out_same : (q : ℕ) (g h : List Entry) → owner_entries g ≡ owner_entries h → is_found_out q g ≡ is_found_out q h
found_out_same q g h e = sym (found_out-owner q g) ∙ ap (is_found_out q) e ∙ found_out-owner q h

pub looks_out : (pass : ℕ) (old : WriterState) (found : ℕ) (new : WriterState) → Looks pass old found new → found ≡ 0 → (q : ℕ) → q < pass → is_found_out q new.history ≡ true
looks_out zero old found new l none q below = absurd (omega arith)
looks_out (suc pass) old found new (mid, less, stamp, before, look, sum) none q below =
    let own = look.sees.added.owner refl in
    subst (λ (s : WriterState). is_found_out q s.history ≡ true) (sym look.now)
    (by_cases (eqb pass q)
    (λ e. by_cases (eqb stamp 0)
    (λ z. rw (e, z) refl)
    (λ z. let one : found ≡ less + 1 = rw z at sum in absurd (omega arith)))
    (λ e. let less_none : less ≡ 0 = omega arith in
    let other = eqb-false pass q e in let lower : q < pass = omega arith in
    or_right (eqb pass q && eqb stamp 0) (is_found_out q look.past) (found_out_same q look.past mid.history own ∙ looks_out pass old less mid before less_none q lower)))

-- some passes were looked at
pub record LooksSoFar (old now : OwnerState) (pass found : ℕ) (bounds : List ℕ) : Type 0 where
  pub looks : Looks pass (writer_state old) found (writer_state now)
  pub few : found ≤ pass
  pub bounded : AreBounds old.passes now.history bounds
  pub rest : IsAtRest (writer_state now)
  pub same : now ≡ record old { history = now.history; names = now.names }

pub looks_begin : (old : OwnerState) (bounds : List ℕ) → IsAtRest (writer_state old) → AreBounds old.passes old.history bounds → LooksSoFar old old 0 0 bounds
looks_begin old bounds rest b = record { looks = (refl, refl); few = omega arith; bounded = b; rest = rest; same = refl }

looked : (old : OwnerState) (pass stamp : ℕ) (new : OwnerState) → IsLooked old pass stamp new → IsLookedAt (writer_state old) pass stamp (writer_state new)
looked old pass stamp new k = record { past = k.entry.past; names = k.entry.names; sees = k.entry.sees; now = ap writer_state k.entry.now; legal = k.entry.legal }

bounds_more : (now new : OwnerState) (pass stamp counted : ℕ) (bounds : List ℕ) → IsLooked now pass stamp new → pass < now.passes → counted ≡ counts now.history → IsAtRest (writer_state now) → AreBounds now.passes now.history bounds
    → AreBounds now.passes new.history (set bounds pass (higher (get_or bounds pass 0) (bound_of stamp counted)))
bounds_more now new pass stamp counted bounds k below is rest b =
    let e = k.entry in
    let own = e.sees.added.owner refl in
    let same : counts e.past ≡ counted = counts_same e.past now.history own ∙ sym is in
    let step = bounds_looked now.nodes now.passes pass stamp e.past bounds e.sees.legal.legal below k.stamp (paced_same e.past now.history own rest.paced) (owes_same e.past now.history own ∙ rest.counted) (bounds_seen now.passes e.past now.history bounds own b) in
    subst (λ (s : OwnerState). AreBounds now.passes s.history (set bounds pass (higher (get_or bounds pass 0) (bound_of stamp counted)))) (sym e.now)
    (subst (λ n. AreBounds now.passes (Look pass stamp ∷ e.past) (set bounds pass (higher (get_or bounds pass 0) (bound_of stamp n)))) same step)

pub looks_more : (old now new : OwnerState) (pass found stamp counted n said : ℕ) (bounds bounds' : List ℕ) → LooksSoFar old now pass found bounds → pass < old.passes → IsLooked now pass stamp new → counted ≡ counts old.history
    → n ≡ suc pass → said ≡ found + cond (eqb stamp 0) 0 1 → bounds' ≡ set bounds pass (higher (get_or bounds pass 0) (bound_of stamp counted)) → LooksSoFar old new n said bounds'
looks_more old now new pass found stamp counted n said bounds bounds' s below k is next sum set_is =
    let passes : now.passes ≡ old.passes = ap (λ (o : OwnerState). o.passes) s.same in
    let at = looked now pass stamp new k in
    let only = looks_only pass (writer_state old) found (writer_state now) s.looks in
    let few = s.few in
    let one = cond_both (eqb stamp 0) 0 1 (λ x. x ≤ 1) (λ _. omega arith) (λ _. omega arith) in
    let b = bounds_more now new pass stamp counted bounds k (subst (λ m. pass < m) (sym passes) below) (is ∙ sym only.counted) s.rest (subst (λ m. AreBounds m now.history bounds) (sym passes) s.bounded) in
    let e = k.entry in
    subst (λ m. LooksSoFar old new m said bounds') (sym next)
    (subst (λ (xs : List ℕ). LooksSoFar old new (suc pass) said xs) (sym set_is)
    (record {
      looks = (writer_state now, found, stamp, s.looks, at, sum);
      few = omega arith;
      bounded = subst (λ m. AreBounds m new.history (set bounds pass (higher (get_or bounds pass 0) (bound_of stamp counted)))) passes b;
      rest = looked_rest (writer_state now) pass stamp (writer_state new) at s.rest;
      same = e.now ∙ ap (λ (o : OwnerState). record o { history = Look pass stamp ∷ e.past; names = e.names }) s.same
          ∙ (λ i. record old { history = (sym e.now i).history; names = (sym e.now i).names });
    }))
