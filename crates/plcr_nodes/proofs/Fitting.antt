-- How a state under the rule becomes the next one: the words, the seat that steps, and all others.
use Rattle.std.proofs.Common.{◌≡◌, ◌≢◌, ⊎_elim, ℕ, ◌+◌, ◌<◌, ◌≤◌, List, [], ◌++◌, Bool, true, false, refl, sym, ap, ◌∙◌, subst, length, append_assoc, get_or, set}
use Rattle.atomic_table.specs.Table.{State, keeps, stepped}
use Rattle.atomic_table.proofs.Lists.{at_set}
use Rattle.plcr_machine.specs.declared.entry.Entry.{Entry}
use Rattle.plcr_machine.specs.Histories.{IsHistory}
use Rattle.plcr_machine.specs.Lists.{loads}
use Rattle.plcr_machine.specs.Parts.{own_entries, owner_entries}
use Rattle.plcr_machine.proofs.Cases.{not_both}
use Rattle.plcr_nodes.specs.declared.view.View.{View}
use Rattle.plcr_nodes.specs.Entries.{among, WentOn}
use Rattle.plcr_nodes.specs.declared.words.TheConstants.{NODE_WORDS}
use Rattle.plcr_nodes.specs.inner.Words.{base}
use Rattle.plcr_nodes.specs.inner.Rule.{Truth, Stands, Sees, Fits, Holds}
use Rattle.plcr_nodes.specs.inner.Plays.{TakesIn}

abbrev pub St : Type 0
St = State Unit View

-- what there is in a state
abbrev pub truth : List ℕ → List Entry → List (List ℕ) → ℕ → ℕ → (ℕ → ℕ) → Truth
truth words history names numbered owner holder = record { words = words; history = history; names = names; numbered = numbered; owner = owner; holder = holder }

abbrev pub there : {nodes passes : ℕ} (s : St) → Holds nodes passes s → Truth
there s r = truth s.words r.history r.names r.numbered r.owner r.holder

went_further : {A : Type 0} (old all added all' : List A) → all' ≡ added ++ all → WentOn old all → WentOn old all'
went_further old all added all' e w = (added ++ w.0, e ∙ ap (λ (l : List _). added ++ l) w.1 ∙ sym (append_assoc added w.0 old))

-- t' came from t by more entries and names, and leaves what the seat j, with the view u, has a right to
pub record Leaves (nodes : ℕ) (t t' : Truth) (j : ℕ) (u : View) : Type 0 where
  pub added : List Entry
  pub history : t'.history ≡ added ++ t.history
  pub new : List (List ℕ)
  pub names : t'.names ≡ new ++ t.names
  pub same_owner : t'.owner ≡ t.owner
  pub own : (p : ℕ) → p < t.numbered → t.holder p ≡ j → own_entries p t'.history ≡ own_entries p t.history
  pub owner : u.owns ≡ true → (owner_entries t'.history ≡ owner_entries t.history) × (t'.numbered ≡ t.numbered)
      × ((n k : ℕ) → 0 < n → n ≤ nodes → k < NODE_WORDS → get_or t'.words (base n + k) 0 ≡ get_or t.words (base n + k) 0)
  pub holder : (p : ℕ) → p < t.numbered → t.holder p ≡ j → (p < t'.numbered) × (t'.holder p ≡ j)

sees_left : (nodes : ℕ) (t t' : Truth) (j : ℕ) (u : View) (l : Leaves nodes t t' j u) (history : List Entry) (names : List (List ℕ)) (owns : Bool) (numbers : List ℕ)
    → (owns ≡ true → u.owns ≡ true) → ((p : ℕ) → among p numbers ≡ true → (p < t.numbered) × (t.holder p ≡ j)) → Sees t history names owns numbers → Sees t' history names owns numbers
sees_left nodes t t' j u l history names owns numbers o n s = record {
  added = record {
    grows = went_further history t.history l.added t'.history l.history s.added.grows;
    owner = λ e. (l.owner (o e)).0 ∙ s.added.owner e;
    own = λ p a. l.own p (n p a).0 (n p a).1 ∙ s.added.own p a;
  };
  named = went_further names t.names l.new t'.names l.names s.named;
  as_many = s.as_many;
}

module _ (nodes passes : ℕ) where
  -- the words show the same whichever seats have the pass numbers
  pub stands_held : (t : Truth) (holder : ℕ → ℕ) → Stands nodes passes t → Stands nodes passes (record t { holder = holder })
  stands_held t holder st = record {
    sizes = st.sizes;
    wide = st.wide;
    legal = st.legal;
    named = st.named;
    short = st.short;
    beside = st.beside;
    number = st.number;
    enough = st.enough;
    unused = st.unused;
    links = st.links;
    payload = st.payload;
  }

  -- another seat's view agrees as before
  pub still_fits : (t t' : Truth) (j : ℕ) (u : View) → Leaves nodes t t' j u → Fits nodes passes t j u → Fits nodes passes t' j u
  still_fits t t' j u l f = record {
    sizes = f.sizes;
    sees = sees_left nodes t t' j u l u.history u.names u.owns u.numbers (λ e. e) f.holds f.sees;
    owns = λ e. let o = f.owns e in (o.0 ∙ sym l.same_owner, o.1 ∙ sym (l.owner e).1);
    holds = λ p a. let h = f.holds p a in l.holder p h.0 h.1;
    given = f.given;
    filled = λ e n k x some_node word is. let g = f.filled e n k x some_node word is in (g.0, g.1, (l.owner e).2 n k some_node g.0 word ∙ g.2);
    heard = λ k w at. let g = f.heard k w at in
        (sees_left nodes t t' j u l w.history w.names false w.numbers (λ e. not_both false e refl) g.1 g.0, λ p a. let h = g.1 p a in l.holder p h.0 h.1);
  }

  -- a seat steps: the words, its own view and all others' agree with what there is then
  pub moved : (s : St) (r : Holds nodes passes s) (id i x : ℕ) (c : List (ℕ × Unit)) (w : View) (h : List Entry) (names : List (List ℕ)) (numbered : ℕ) (holder : ℕ → ℕ)
      → Stands nodes passes (truth (set s.words i x) h names numbered r.owner holder)
      → Fits nodes passes (truth (set s.words i x) h names numbered r.owner holder) id w
      → ((j : ℕ) (u : View) → j ≢ id → u.spent ≡ false → Fits nodes passes (there s r) j u → Leaves nodes (there s r) (truth (set s.words i x) h names numbered r.owner holder) j u)
      → Holds nodes passes (stepped s i x id c w keeps)
  moved s r id i x c w h names numbered holder stands mine others = record {
    history = h;
    names = names;
    numbered = numbered;
    owner = r.owner;
    holder = holder;
    stands = stands;
    seats = λ j v at lives.
        let t = truth (set s.words i x) h names numbered r.owner holder in
        ⊎_elim (λ e. subst (λ (z : ℕ × View). Fits nodes passes t z.0 z.1) (λ k. (sym e.0 k, e.1 k)) mine)
        (λ e. let f = r.seats j v e.1 lives in still_fits (there s r) t j v (others j v e.0 lives f) f) (at_set s.views id j w v at);
  }

  -- what a step lets a view take in
  pub taken : (t : Truth) (id : ℕ) (v : View) → Stands nodes passes t → Fits nodes passes t id v → TakesIn v t.history t.names
  taken t id v s f = record {
    added = f.sees.added;
    named = f.sees.named;
    legal = subst (λ (z : ℕ × ℕ). IsHistory z.0 z.1 t.history t.names) (λ i. (sym f.sizes.0 i, sym f.sizes.1 i))
        (record { few_nodes = s.sizes.0; few_passes = s.sizes.1; legal = s.legal; named = s.named });
    short = s.short;
  }

-- a view with the whole history sees it
pub sees_all : (t : Truth) (owns : Bool) (numbers : List ℕ) → length t.names ≡ loads t.history → Sees t t.history t.names owns numbers
sees_all t owns numbers e = record { added = record { grows = ([], refl); owner = λ _. refl; own = λ _ _. refl }; named = ([], refl); as_many = e }
