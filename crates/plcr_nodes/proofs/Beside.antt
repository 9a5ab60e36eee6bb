-- Steps on the words beside the nodes, the gate and the stamps: they leave the list, the links and the payload as they are.
use Rattle.std.proofs.Common.{◌≡◌, ◌≢◌, ◌⊎◌, ⊎_elim, inl, inr, ℕ, suc, ◌+◌, ◌<◌, ◌≤◌, List, [], ◌∷◌, true, false, sym, ap, ◌∙◌, subst, arith, length, length-set, get_or, set, get_or-set_same, get_or-set_other}
use Rattle.std.proofs.lemmas.Bool.{cases_eq, false_from_ne_true}
use Rattle.std.proofs.lemmas.List.{set-get_or}
use Rattle.plcr_machine.specs.declared.entry.Entry.{Entry}
use Rattle.plcr_machine.specs.declared.entry.Entry.TheVariants.{Count}
use Rattle.plcr_machine.specs.Histories.{MayFollow}
use Rattle.plcr_machine.specs.Lists.{live, loads, loaded, name_of}
use Rattle.plcr_machine.specs.Nodes.{is_free}
use Rattle.plcr_machine.specs.Passes.{counts, stamp_of}
use Rattle.plcr_machine.specs.Parts.{own_entries}
use Rattle.plcr_machine.proofs.Cases.{not_both}
use Rattle.plcr_machine.proofs.Leads.{link_same}
use Rattle.plcr_nodes.specs.declared.words.TheConstants.{GATE, HEAD, NODE_WORDS}
use Rattle.plcr_nodes.specs.Names.{words_of, payload_word}
use Rattle.plcr_nodes.specs.inner.Words.{base, stamp_place, table_words}
use Rattle.plcr_nodes.specs.inner.Rule.{IsHeld, Truth, ShowsBeside, Stands}

-- a word that no node has: the gate, or one behind the nodes
abbrev pub IsBeside : ℕ → ℕ → Type 0
IsBeside nodes i = (i ≡ GATE) ⊎ (base (nodes + 1) ≤ i)

-- a word of the head or of a node
abbrev pub IsWithin : ℕ → ℕ → Type 0
IsWithin nodes i = (HEAD ≤ i) × (i < base (nodes + 1))

-- the entry changes nothing of the list, and makes no node busy
pub record SameList (passes : ℕ) (e : Entry) (h : List Entry) : Type 0 where
  pub live : live (e ∷ h) ≡ live h
  pub loads : loads (e ∷ h) ≡ loads h
  pub loaded : (n : ℕ) → loaded n (e ∷ h) ≡ loaded n h
  pub free : (n : ℕ) → is_free passes n h ≡ true → is_free passes n (e ∷ h) ≡ true

busy_before : (passes n : ℕ) (e : Entry) (h : List Entry) → SameList passes e h → is_free passes n (e ∷ h) ≡ false → is_free passes n h ≡ false
busy_before passes n e h same b = false_from_ne_true (is_free passes n h) (λ f. not_both (is_free passes n (e ∷ h)) (same.free n f) b)

held_before : (passes n : ℕ) (e : Entry) (h : List Entry) → SameList passes e h → IsHeld passes n (e ∷ h) → IsHeld passes n h
held_before passes n e h same held = ⊎_elim (λ z. inl z) (λ b. inr (busy_before passes n e h same b)) held

module _ (nodes passes : ℕ) where
  -- a store beside the nodes leaves the words of nodes
  pub node_else : (ws : List ℕ) (i x n k : ℕ) → IsBeside nodes i → n ≤ nodes → k < NODE_WORDS → get_or (set ws i x) (base n + k) 0 ≡ get_or ws (base n + k) 0
  node_else ws i x n k beside b k_in = get_or-set_other ws i (base n + k) x 0 (λ z. ⊎_elim (λ gate. omega arith) (λ behind. omega arith) beside)

  link_word_else : (ws : List ℕ) (i x n : ℕ) → IsBeside nodes i → n ≤ nodes → get_or (set ws i x) (base n) 0 ≡ get_or ws (base n) 0
  link_word_else ws i x n beside b = get_or-set_other ws i (base n) x 0 (λ z. ⊎_elim (λ gate. omega arith) (λ behind. omega arith) beside)

  -- a store in a node leaves the words beside them
  pub shows_within : (ws : List ℕ) (i x : ℕ) (g h : List Entry) → IsWithin nodes i → counts h ≡ counts g → ((p : ℕ) → stamp_of p h ≡ stamp_of p g) → ShowsBeside nodes passes ws g
      → ShowsBeside nodes passes (set ws i x) h
  shows_within ws i x g h within count stamp s =
      let low = within.0 in let high = within.1 in
      record {
        gate = get_or-set_other ws i GATE x 0 (λ z. omega arith) ∙ (s.gate ∙ sym count);
        stamps = λ p b. get_or-set_other ws i (stamp_place nodes p) x 0 (λ z. omega arith) ∙ (s.stamps p b ∙ sym (stamp p));
      }

  -- a load leaves all words
  pub shows_loaded : (ws : List ℕ) (i : ℕ) (g h : List Entry) → counts h ≡ counts g → ((p : ℕ) → stamp_of p h ≡ stamp_of p g) → ShowsBeside nodes passes ws g
      → ShowsBeside nodes passes (set ws i (get_or ws i 0)) h
  shows_loaded ws i g h count stamp s =
      subst (λ (l : List ℕ). ShowsBeside nodes passes l h) (sym (set-get_or ws i 0)) (record { gate = s.gate ∙ sym count; stamps = λ p b. s.stamps p b ∙ sym (stamp p) })

  -- a count leaves the stamps
  pub shows_gate : (ws : List ℕ) (x : ℕ) (h : List Entry) → length ws ≡ table_words nodes passes → x ≡ suc (counts h) → ShowsBeside nodes passes ws h → ShowsBeside nodes passes (set ws GATE x) (Count ∷ h)
  shows_gate ws x h wide is s = record {
    gate = get_or-set_same ws GATE x 0 (omega arith) ∙ is;
    stamps = λ p b. get_or-set_other ws GATE (stamp_place nodes p) x 0 (λ z. omega arith) ∙ s.stamps p b;
  }

  -- a pass's stamp leaves the gate and the others' stamps
  pub shows_stamp : (ws : List ℕ) (p x : ℕ) (g h : List Entry) → length ws ≡ table_words nodes passes → p < passes → counts h ≡ counts g → x ≡ stamp_of p h → ((q : ℕ) → q ≢ p → stamp_of q h ≡ stamp_of q g)
      → ShowsBeside nodes passes ws g → ShowsBeside nodes passes (set ws (stamp_place nodes p) x) h
  shows_stamp ws p x g h wide few count is else s = record {
    gate = get_or-set_other ws (stamp_place nodes p) GATE x 0 (λ z. omega arith) ∙ (s.gate ∙ sym count);
    stamps = λ q b. ⊎_elim
        (λ (e : p ≡ q). subst (λ k. get_or (set ws (stamp_place nodes p) x) (stamp_place nodes k) 0 ≡ stamp_of k h) e (get_or-set_same ws (stamp_place nodes p) x 0 (omega arith) ∙ is))
        (λ (d : p ≡ q → ⊥). get_or-set_other ws (stamp_place nodes p) (stamp_place nodes q) x 0 (λ z. d (omega arith)) ∙ (s.stamps q b ∙ sym (else q (λ z. d (sym z)))))
        (cases_eq p q);
  }

  -- the words show the longer history, where those beside the nodes do
  pub stands_beside : (t : Truth) (e : Entry) (i x : ℕ) → Stands nodes passes t → MayFollow nodes passes t.history e → SameList passes e t.history → IsBeside nodes i
      → ShowsBeside nodes passes (set t.words i x) (e ∷ t.history) → ((p : ℕ) → t.numbered ≤ p → own_entries p (e ∷ t.history) ≡ [])
      → Stands nodes passes (record t { words = set t.words i x; history = e ∷ t.history })
  stands_beside t e i x s may same beside shows unused = record {
    sizes = s.sizes;
    wide = length-set t.words i x ∙ s.wide;
    legal = (may, s.legal);
    named = s.named ∙ sym same.loads;
    short = s.short;
    beside = shows;
    number = get_or-set_other t.words i 1 x 0 (λ z. ⊎_elim (λ gate. omega arith) (λ behind. omega arith) beside) ∙ s.number;
    enough = s.enough;
    unused = unused;
    links = λ n b held. link_word_else t.words i x n beside b ∙ s.links n b (held_before passes n e t.history same held) ∙ sym (link_same n e t.history same.live);
    payload = λ n k some_node b busy k_in k_words.
        let l = same.loaded n in
        node_else t.words i x n (k + 1) beside b (omega arith)
        ∙ s.payload n k some_node b (busy_before passes n e t.history same busy) k_in (subst (λ m. k < 2 + words_of (length (name_of m.load t.names))) l k_words)
        ∙ ap (λ m. payload_word m.header (name_of m.load t.names) k) (sym l);
  }
