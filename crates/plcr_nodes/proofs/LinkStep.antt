-- The owner links a filled node after the last place of the list.
use Rattle.std.proofs.Common.{◌≡◌, ◌≢◌, ⊎_elim, inl, inr, ℕ, zero, suc, ◌+◌, ◌*◌, ◌<◌, ◌≤◌, List, [], ◌∷◌, true, false, refl, sym, ap, ◌∙◌, subst, arith, length, length-set, get_or, set, get_or-set_same, get_or-set_other, ne_eqb, eq-eqb, Some}
use Rattle.std.proofs.lemmas.Bool.{cases_eq, eqb-false}
use mathlib.Core.Option.{none}
use Rattle.atomic_table.specs.Table.{keeps, step, Allows}
use Rattle.plcr_base.specs.Numbers.{u64_in}
use Rattle.plcr_machine.specs.declared.image.Image.{Image}
use Rattle.plcr_machine.specs.declared.entry.Entry.{Entry}
use Rattle.plcr_machine.specs.declared.entry.Entry.TheVariants.{Load}
use Rattle.plcr_machine.specs.Histories.{IsLegal}
use Rattle.plcr_machine.specs.Lists.{live, loads, loaded, name_of}
use Rattle.plcr_machine.specs.Nodes.{is_free}
use Rattle.plcr_machine.specs.Links.{link_of, last_place}
use Rattle.plcr_machine.proofs.Cases.{not_both, eqb_same}
use Rattle.plcr_machine.proofs.Freedom.{free_absent}
use Rattle.plcr_nodes.specs.declared.view.View.{View}
use Rattle.plcr_nodes.specs.declared.view.Store.{Store}
use Rattle.plcr_nodes.specs.declared.words.TheConstants.{NODE_WORDS, PAYLOAD_WORDS}
use Rattle.plcr_nodes.specs.Names.{stored, words_of, payload_word, header_in, name_in, IsFilled, IsEnded}
use Rattle.plcr_nodes.specs.inner.Words.{base}
use Rattle.plcr_nodes.specs.Payload.{image_word, image_words}
use Rattle.plcr_nodes.specs.inner.Rule.{IsHeld, Truth, Stands, Fits, Holds}
use Rattle.plcr_nodes.specs.inner.Plays.{Mine, linked, linked_view}
use Rattle.plcr_nodes.proofs.Spelling.{name_bytes}
use Rattle.plcr_nodes.proofs.Known.{free_same, live_same, loaded_most}
use Rattle.plcr_nodes.proofs.NamesKept.{name-older, name-new}
use Rattle.plcr_nodes.proofs.Fitting.{truth, there, moved, taken, sees_all}
use Rattle.plcr_nodes.proofs.StoreSteps.{owned_else, stored_other}
use Rattle.plcr_nodes.proofs.Beside.{shows_within}
use Rattle.plcr_nodes.proofs.LastPlace.{last_held, last_bound, last_end}
use Rattle.plcr_machine.proofs.Leads.{link-load, link-loaded}
use Rattle.plcr_machine.proofs.Followers.{last_place-other}

-- what a filled node's words are, when each stored word is there
filled_word : (n : ℕ) (ss : List Store) (word : ℕ → ℕ) → IsFilled n ss → ((k x : ℕ) → k < NODE_WORDS → stored n k ss ≡ Some x → word k ≡ x)
    → (k : ℕ) → k < PAYLOAD_WORDS → k < 2 + words_of (length (name_in n ss)) → word (k + 1) ≡ payload_word (header_in n ss) (name_in n ss) k
filled_word n ss word f is zero k_in k_words = is 1 (header_in n ss) (omega arith) f.header
filled_word n ss word f is (suc zero) k_in k_words = is 2 (length (name_in n ss)) (omega arith) f.len
filled_word n ss word f is (suc (suc k)) k_in k_words =
    let e : k + 3 ≡ suc (suc k) + 1 = omega arith in
    subst (λ j. word j ≡ u64_in (name_in n ss) (8 * k)) e (is (k + 3) (u64_in (name_in n ss) (8 * k)) (omega arith) (f.name k (omega arith)))

-- loading one node leaves whether another is free, and its image
pub free_else : (passes n m i a : ℕ) (h : List Entry) → n ≢ m → is_free passes m (Load n i a ∷ h) ≡ is_free passes m h
free_else passes n m i a h d = rw (ne_eqb n m d) refl

image_else : (n m i a : ℕ) (h : List Entry) → n ≢ m → loaded m (Load n i a ∷ h) ≡ loaded m h
image_else n m i a h d = rw (ne_eqb n m d) refl

image_here : (n i a : ℕ) (h : List Entry) → loaded n (Load n i a ∷ h) ≡ record { node = n; load = i; header = a }
image_here n i a h = rw (eqb_same n) refl

-- the words after the link, for a free and filled node n after the last place t
module _ (nodes passes : ℕ) (t : Truth) (tail n header : ℕ) (name : List ℕ) (st : Stands nodes passes t)
    (some_node : 0 < n) (in_table : n ≤ nodes) (free : is_free passes n t.history ≡ true) (last : tail ≡ last_place 0 (live t.history)) where
  -- a free node is not the tail
  tail_else : (m : ℕ) → 0 < m → is_free passes m t.history ≡ true → tail ≢ m
  tail_else m some_m is_free' e =
      eqb-false (last_place 0 (live t.history)) m (last_place-other 0 m (live t.history) (ne_eqb 0 m (λ z. omega arith)) (free_absent passes m t.history is_free')) (sym last ∙ e)

  pub linked_links : (get_or t.words (base n) 0 ≡ 0) → (m : ℕ) → m ≤ nodes → IsHeld passes m (Load n (suc (loads t.history)) header ∷ t.history)
      → get_or (set t.words (base tail) n) (base m) 0 ≡ link_of m (Load n (suc (loads t.history)) header ∷ t.history)
  linked_links ended m b held =
      let h : List Entry = t.history in
      let ws : List ℕ = t.words in
      let i : ℕ = suc (loads h) in
      let wide = st.wide in
      let legal : IsLegal nodes passes (Load n i header ∷ h) = ((some_node, in_table, free, refl), st.legal) in
      let here : n ≢ tail = λ z. tail_else n some_node free (sym z) in
      ⊎_elim
      (λ e. subst (λ q. get_or (set ws (base tail) n) (base q) 0 ≡ link_of q (Load n i header ∷ h)) e
      (get_or-set_other ws (base tail) (base n) n 0 (λ z. here (omega arith)) ∙ (ended ∙ sym (link-loaded nodes passes n i header h legal))))
      (λ d. let old = link-load nodes passes m n i header h legal (ne_eqb n m d) in
      ⊎_elim
      (λ e. subst (λ q. get_or (set ws (base tail) n) (base q) 0 ≡ n) e (get_or-set_same ws (base tail) n 0 (let z = e in omega arith))
      ∙ sym (old ∙ rw (eq-eqb (last_place 0 (live h)) m (sym last ∙ e)) refl))
      (λ d'. get_or-set_other ws (base tail) (base m) n 0 (λ z. d' (omega arith))
      ∙ (st.links m b (⊎_elim (λ z. inl z) (λ busy. inr (sym (free_else passes n m i header h d) ∙ busy)) held)
      ∙ sym (old ∙ rw (ne_eqb (last_place 0 (live h)) m (λ z. d' (last ∙ z))) refl)))
      (cases_eq tail m))
      (cases_eq n m)

  pub linked_payload : ((k : ℕ) → k < PAYLOAD_WORDS → k < 2 + words_of (length name) → get_or t.words (base n + (k + 1)) 0 ≡ payload_word header name k)
      → (m k : ℕ) → 0 < m → m ≤ nodes → is_free passes m (Load n (suc (loads t.history)) header ∷ t.history) ≡ false → k < PAYLOAD_WORDS
      → k < image_words m (Load n (suc (loads t.history)) header ∷ t.history) (name ∷ t.names)
      → get_or (set t.words (base tail) n) (base m + (k + 1)) 0 ≡ image_word m (Load n (suc (loads t.history)) header ∷ t.history) (name ∷ t.names) k
  linked_payload words m k some_m b busy k_in k_words =
      let h : List Entry = t.history in
      let ws : List ℕ = t.words in
      let i : ℕ = suc (loads h) in
      let shown : Image → ℕ = λ (x : Image). payload_word x.header (name_of x.load (name ∷ t.names)) k in
      let wide : Image → ℕ = λ (x : Image). 2 + words_of (length (name_of x.load (name ∷ t.names))) in
      let away : get_or (set ws (base tail) n) (base m + (k + 1)) 0 ≡ get_or ws (base m + (k + 1)) 0 = get_or-set_other ws (base tail) (base m + (k + 1)) n 0 (λ z. omega arith) in
      away ∙ ⊎_elim
      (λ e. let img : loaded m (Load n i header ∷ h) ≡ record { node = n; load = i; header = header } = subst (λ q. loaded q (Load n i header ∷ h) ≡ record { node = n; load = i; header = header }) e (image_here n i header h) in
      let new : name_of i (name ∷ t.names) ≡ name = name-new i name t.names (ap suc (sym st.named)) in
      let fits : k < 2 + words_of (length name) = subst (λ (l : List ℕ). k < 2 + words_of (length l)) new (subst (λ (x : Image). k < wide x) img k_words) in
      subst (λ q. get_or ws (base q + (k + 1)) 0 ≡ payload_word header name k) e (words k k_in fits)
      ∙ (ap (λ (l : List ℕ). payload_word header l k) (sym new) ∙ ap shown (sym img)))
      (λ d. let img = image_else n m i header h d in
      let most = loaded_most nodes passes m h st.legal in
      let named = st.named in
      let old : name_of (loaded m h).load (name ∷ t.names) ≡ name_of (loaded m h).load t.names = name-older (loaded m h).load (name ∷ []) t.names (omega arith) in
      st.payload m k some_m b (sym (free_else passes n m i header h d) ∙ busy) k_in (subst (λ (l : List ℕ). k < 2 + words_of (length l)) old (subst (λ (x : Image). k < wide x) img k_words))
      ∙ (ap (λ (l : List ℕ). payload_word (loaded m h).header l k) (sym old) ∙ ap shown (sym img)))
      (cases_eq n m)

module _ (nodes passes slots id : ℕ) (me : Mine) (lives : me.0.spent ≡ false) (owns : me.0.owns ≡ true) where
  pub links : (tail n : ℕ) → 0 < n → IsFilled n me.0.filled → IsEnded n me.0.filled → tail ≡ last_place 0 (live me.0.history)
      → Allows (Holds nodes passes) slots id me (base tail) (λ _. n) (linked (step slots (base tail) n 0 none) me)
  links tail n some_node full ended last s r _ at _ =
      let v : View = me.0 in
      let f : Fits nodes passes (there s r) id v = r.seats id v at lives in
      let t : Truth = there s r in
      let st : Stands nodes passes t = r.stands in
      let h : List Entry = r.history in
      let ws : List ℕ = s.words in
      let first = f.filled owns n 1 (header_in n v.filled) some_node (omega arith) full.header in
      let in_table : n ≤ nodes = first.0 in
      let same = f.sees.added.owner owns in
      let free : is_free passes n h ≡ true = free_same passes n h v.history same ∙ first.1 in
      let last' : tail ≡ last_place 0 (live h) = last ∙ sym (ap (last_place 0) (live_same h v.history same)) in
      let header : ℕ = header_in n v.filled in
      let name : List ℕ = name_in n v.filled in
      let e : Entry = Load n (suc (loads h)) header in
      let end_word : get_or ws (base n) 0 ≡ 0 = ap (λ i. get_or ws i 0) (omega arith) ∙ (f.filled owns n 0 0 some_node (omega arith) ended).2 in
      let words : (k : ℕ) → k < PAYLOAD_WORDS → k < 2 + words_of (length name) → get_or ws (base n + (k + 1)) 0 ≡ payload_word header name k =
      filled_word n v.filled (λ j. get_or ws (base n + j) 0) full (λ k x k_in is. (f.filled owns n k x some_node k_in is).2) in
      let in_list : tail ≤ nodes = subst (λ k. k ≤ nodes) (sym last') (last_bound nodes passes h st.legal) in
      let found : get_or ws (base tail) 0 ≡ 0 =
      st.links tail in_list (subst (λ k. IsHeld passes k h) (sym last') (last_held passes h)) ∙ (ap (λ k. link_of k h) last' ∙ last_end nodes passes h st.legal) in
      let t' : Truth = truth (set ws (base tail) n) (e ∷ h) (name ∷ r.names) r.numbered r.owner r.holder in
      let stands : Stands nodes passes t' = record {
        sizes = st.sizes;
        wide = length-set ws (base tail) n ∙ st.wide;
        legal = ((some_node, in_table, free, refl), st.legal);
        named = ap suc st.named;
        short = (full.short, name_bytes n v.filled, st.short);
        beside = shows_within nodes passes ws (base tail) n h (e ∷ h) (omega arith, omega arith) refl (λ p. refl) st.beside;
        number = get_or-set_other ws (base tail) 1 n 0 (λ z. omega arith) ∙ st.number;
        enough = st.enough;
        unused = st.unused;
        links = linked_links nodes passes t tail n header name st some_node in_table free last' end_word;
        payload = linked_payload nodes passes t tail n header name st some_node in_table free last' words;
      } in
      let w : View = linked_view v n h r.names in
      let mine : Fits nodes passes t' id w = record {
        sizes = f.sizes;
        sees = sees_all t' v.owns v.numbers stands.named;
        owns = f.owns;
        holds = f.holds;
        given = λ m z _. not_both false z refl;
        filled = λ o m k y some_m k_in is.
            let q = stored_other n m k y v.filled is in
            let g = f.filled o m k y some_m k_in q.1 in
            let m_free : is_free passes m h ≡ true = free_same passes m h v.history same ∙ g.1 in (
              g.0,
              free_else passes n m (suc (loads h)) header h q.0 ∙ m_free,
              get_or-set_other ws (base tail) (base m + k) n 0 (λ z. tail_else nodes passes t tail n header name st some_node in_table free last' m some_m m_free (omega arith)) ∙ g.2,
            );
        heard = λ q u a. cc;
      } in (
        w,
        keeps,
        tt,
        moved nodes passes s r id (base tail) n me.1 w (e ∷ h) (name ∷ r.names) r.numbered r.holder stands mine
            (λ j u apart _ g. record {
              added = e ∷ [];
              history = refl;
              new = name ∷ [];
              names = refl;
              same_owner = refl;
              own = λ q _ _. refl;
              owner = λ o. owned_else nodes passes slots id me lives owns s r at j u apart g o;
              holder = λ q b held. (b, held);
            }),
        (h, r.names, taken nodes passes t id v st f, refl, refl, found),
      )
