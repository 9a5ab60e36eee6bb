-- The owner takes a node out of the list. The link of the place before it is made to lead to where the node's link leads, and the node's own link stays: it is stale from then on.
use Rattle.std.proofs.Common.{◌≡◌, ◌≢◌, ⊎_elim, inl, inr, ℕ, ◌+◌, ◌<◌, ◌≤◌, List, [], ◌∷◌, true, false, ◌||◌, eqb, refl, sym, ap, ◌∙◌, subst, arith, length-set, get_or, set, get_or-set_same, get_or-set_other, ne_eqb, eqb-true}
use Rattle.std.proofs.lemmas.Bool.{cases_eq, or_cases, or_right}
use mathlib.Core.Option.{none}
use Rattle.atomic_table.specs.Table.{keeps, stepped, step, Step, Allows}
use Rattle.atomic_table.specs.Seated.{TableId}
use Rattle.plcr_machine.specs.declared.image.Image.{Image}
use Rattle.plcr_machine.specs.declared.entry.Entry.{Entry}
use Rattle.plcr_machine.specs.declared.entry.Entry.TheVariants.{Unload}
use Rattle.plcr_machine.specs.Histories.{IsLegal, IsHistory}
use Rattle.plcr_machine.specs.Lists.{has, live}
use Rattle.plcr_machine.specs.Nodes.{is_free}
use Rattle.plcr_machine.specs.Links.{after, link_of}
use Rattle.plcr_machine.proofs.Cases.{not_both, at_or_else}
use Rattle.plcr_machine.proofs.Freedom.{listed_busy, live_bound}
use Rattle.plcr_machine.proofs.Followers.{after_listed}
use Rattle.plcr_machine.proofs.Leads.{link_here, link_over, link_else}
use Rattle.plcr_nodes.specs.declared.view.View.{View}
use Rattle.plcr_nodes.specs.inner.Words.{base}
use Rattle.plcr_nodes.specs.inner.Rule.{IsHeld, Truth, Stands, Fits, Holds}
use Rattle.plcr_nodes.specs.Owning.{Follows, IsUnlinked}
use Rattle.plcr_nodes.specs.inner.Plays.{Mine, TakesIn, view_at, unlinked}
use Rattle.plcr_nodes.specs.inner.Seats.{owner_state, IsOwner}
use Rattle.plcr_nodes.proofs.Known.{free_same, live_same}
use Rattle.plcr_nodes.proofs.OwnerKnows.{sees}
use Rattle.plcr_nodes.proofs.Fitting.{truth, there, moved, taken, sees_all}
use Rattle.plcr_nodes.proofs.StoreSteps.{owned_else}
use Rattle.plcr_nodes.proofs.Beside.{shows_within}

-- what follows a place is in the list
pub follower_listed : (before node : ℕ) (h : List Entry) → Follows before node h → has node (live h) ≡ true
follower_listed before node h f =
    let here = link_here before h f.place in
    subst (λ k. has k (live h) ≡ true) f.next (subst (λ k. has k (live h) ≡ true) (sym here) (after_listed 0 before (live h) (λ z. f.some (sym f.next ∙ here ∙ z))))

-- a place of one list is one of the same list, and leads to the same node
pub follows_same : (before node : ℕ) (g h : List Entry) → live g ≡ live h → Follows before node h → Follows before node g
follows_same before node g h same f =
    let place : (eqb before 0 || has before (live g)) ≡ true = subst (λ (l : List Image). (eqb before 0 || has before l) ≡ true) (sym same) f.place in
    record { place = place; next = link_here before g place ∙ ap (after 0 before) same ∙ sym (link_here before h f.place) ∙ f.next; some = f.some }

-- the link of a node in the list is told by the list
pub link_told : (node : ℕ) (g h : List Entry) → live g ≡ live h → has node (live h) ≡ true → link_of node g ≡ link_of node h
link_told node g h same there =
    let there' : has node (live g) ≡ true = subst (λ (l : List Image). has node l ≡ true) (sym same) there in
    link_here node g (or_right (eqb node 0) (has node (live g)) there') ∙ ap (after 0 node) same ∙ sym (link_here node h (or_right (eqb node 0) (has node (live h)) there))

-- a node that is free after an unload was free before it, or is none that was not
pub free_left : (passes n node : ℕ) (h : List Entry) → node ≢ n → is_free passes n (Unload node ∷ h) ≡ is_free passes n h
free_left passes n node h d = rw (ne_eqb node n d) refl

module _ (nodes passes : ℕ) (t : Truth) (before node : ℕ) (st : Stands nodes passes t) (f : Follows before node t.history) where
  listed : has node (live t.history) ≡ true
  listed = follower_listed before node t.history f

  -- the place before is one of the table's, whose link readers may load
  pub before_held : (before ≤ nodes) × IsHeld passes before t.history
  before_held =
      ⊎_elim (λ (z : eqb before 0 ≡ true). let zero : before ≡ 0 = eqb-true before 0 z in (omega arith, inl zero))
      (λ (b : has before (live t.history) ≡ true). ((live_bound nodes passes before t.history st.legal b).1, inr (listed_busy passes before t.history b)))
      (or_cases (eqb before 0) (has before (live t.history)) f.place)

  pub unlink_legal : IsLegal nodes passes (Unload node ∷ t.history)
  unlink_legal = (listed, st.legal)

  -- who is reachable after it was before
  held_before : (n : ℕ) → IsHeld passes n (Unload node ∷ t.history) → IsHeld passes n t.history
  held_before n held =
      ⊎_elim (λ z. inl z)
      (λ (b : is_free passes n (Unload node ∷ t.history) ≡ false). inr (at_or_else node n (λ e. subst (λ k. is_free passes k t.history ≡ false) e (listed_busy passes node t.history listed)) (λ e. rw e at b))) held

  -- a free node is not the place before
  pub before_else : (n : ℕ) → 0 < n → is_free passes n t.history ≡ true → before ≢ n
  before_else n positive free e =
      ⊎_elim (λ (z : eqb before 0 ≡ true). let zero = eqb-true before 0 z in omega arith)
      (λ (b : has before (live t.history) ≡ true). not_both (is_free passes n t.history) free (subst (λ k. is_free passes k t.history ≡ false) e (listed_busy passes before t.history b)))
      (or_cases (eqb before 0) (has before (live t.history)) f.place)

  pub unlinked_links : (x : ℕ) → x ≡ link_of node t.history → (n : ℕ) → n ≤ nodes → IsHeld passes n (Unload node ∷ t.history)
      → get_or (set t.words (base before) x) (base n) 0 ≡ link_of n (Unload node ∷ t.history)
  unlinked_links x is n b held =
      let wide = st.wide in
      ⊎_elim
      (λ (e : before ≡ n).
      subst (λ k. get_or (set t.words (base before) x) (base k) 0 ≡ link_of k (Unload node ∷ t.history)) e
      (get_or-set_same t.words (base before) x 0 (omega arith) ∙ is ∙ sym (link_over nodes passes before node t.history unlink_legal f.place f.next)))
      (λ (d : before ≡ n → ⊥).
      get_or-set_other t.words (base before) (base n) x 0 (λ z. d (omega arith)) ∙ st.links n b (held_before n held)
      ∙ sym (link_else nodes passes n before node t.history unlink_legal f.place f.next (λ z. d (sym z))))
      (cases_eq before n)

  pub unlinked_stands : (x : ℕ) → x ≡ link_of node t.history → Stands nodes passes (record t { words = set t.words (base before) x; history = Unload node ∷ t.history })
  unlinked_stands x is = record {
    sizes = st.sizes;
    wide = length-set t.words (base before) x ∙ st.wide;
    legal = unlink_legal;
    named = st.named;
    short = st.short;
    beside = shows_within nodes passes t.words (base before) x t.history (Unload node ∷ t.history) (let b = before_held.0 in (omega arith, omega arith)) refl (λ p. refl) st.beside;
    number = get_or-set_other t.words (base before) 1 x 0 (λ z. omega arith) ∙ st.number;
    enough = st.enough;
    unused = st.unused;
    links = unlinked_links x is;
    payload = λ n k some_node b busy k_in k_words.
        get_or-set_other t.words (base before) (base n + (k + 1)) x 0 (λ z. omega arith)
        ∙ st.payload n k some_node b (⊎_elim (λ z. absurd (omega arith)) (λ (q : is_free passes n t.history ≡ false). q) (held_before n (inr busy))) k_in k_words;
  }

module _ (nodes passes slots id : ℕ) (me : Mine) (lives : me.0.spent ≡ false) (owns : me.0.owns ≡ true) where
  pub unlinks : (before node : ℕ) → Follows before node me.0.history
      → Allows (Holds nodes passes) slots id me (base before) (λ _. link_of node me.0.history) (unlinked (step slots (base before) (link_of node me.0.history) 0 none) me)
  unlinks before node follows s r _ at _ =
      let v : View = me.0 in
      let t : Truth = there s r in
      let f : Fits nodes passes t id v = r.seats id v at lives in
      let st : Stands nodes passes t = r.stands in
      let h : List Entry = r.history in
      let ws : List ℕ = s.words in
      let same = f.sees.added.owner owns in
      let lists : live h ≡ live v.history = live_same h v.history same in
      let follows' : Follows before node h = follows_same before node h v.history lists follows in
      let there : has node (live v.history) ≡ true = follower_listed before node v.history follows in
      let x : ℕ = link_of node v.history in
      let is : x ≡ link_of node h = sym (link_told node h v.history lists there) in
      let t' : Truth = truth (set ws (base before) x) (Unload node ∷ h) r.names r.numbered r.owner r.holder in
      let stands : Stands nodes passes t' = unlinked_stands nodes passes t before node st follows' x is in
      let held = before_held nodes passes t before node st follows' in
      let found : get_or ws (base before) 0 ≡ node = st.links before held.0 held.1 ∙ follows'.next in
      let w : View = record (view_at v (Unload node ∷ h) r.names) { given = [] } in
      let mine : Fits nodes passes t' id w = record {
        sizes = f.sizes;
        sees = sees_all t' v.owns v.numbers stands.named;
        owns = f.owns;
        holds = f.holds;
        given = λ m z _. not_both false z refl;
        filled = λ o m k y some_m k_in stored.
            let g = f.filled o m k y some_m k_in stored in
            let m_free : is_free passes m h ≡ true = free_same passes m h v.history same ∙ g.1 in
            let busy : is_free passes node h ≡ false = listed_busy passes node h (follower_listed before node h follows') in (
              g.0,
              free_left passes m node h (λ z. not_both (is_free passes m h) m_free (subst (λ q. is_free passes q h ≡ false) z busy)) ∙ m_free,
              get_or-set_other ws (base before) (base m + k) x 0 (λ z. before_else nodes passes t before node st follows' m some_m m_free (omega arith)) ∙ g.2,
            );
        heard = λ q u a. cc;
      } in (
        record (view_at v (Unload (get_or ws (base before) 0) ∷ h) r.names) { given = [] },
        keeps,
        tt,
        subst (λ n. Holds nodes passes (stepped s (base before) x id me.1 (record (view_at v (Unload n ∷ h) r.names) { given = [] }) keeps)) (sym found)
            (moved nodes passes s r id (base before) x me.1 w (Unload node ∷ h) r.names r.numbered r.holder stands mine
            (λ j u apart _ g. record {
              added = Unload node ∷ [];
              history = refl;
              new = [];
              names = refl;
              same_owner = refl;
              own = λ q _ _. refl;
              owner = λ o. owned_else nodes passes slots id me lives owns s r at j u apart g o;
              holder = λ q b held. (b, held);
            })),
        (
          record { past = h; names = r.names; takes = taken nodes passes t id v st f; now = refl },
          λ n e. let b : before ≡ n = omega arith in subst (λ q. Follows q (get_or ws (base before) 0) h) b (subst (λ q. Follows before q h) (sym found) follows'),
        ),
      )

  -- the same at a word and a number that are known by equations
  pub unlinks_at : (i before node x : ℕ) → i ≡ base before → x ≡ link_of node me.0.history → Follows before node me.0.history
      → Allows (Holds nodes passes) slots id me i (λ _. x) (unlinked (step slots i x 0 none) me)
  unlinks_at i before node x word is follows =
      subst (λ (q : ℕ × ℕ). Allows (Holds nodes passes) slots id me q.0 (λ _. q.1) (unlinked (step slots q.0 q.1 0 none) me)) (λ d. (sym word d, sym is d)) (unlinks before node follows)

-- the place before a node is one of the table's
pub before_bound : (nodes passes before node : ℕ) (h : List Entry) → IsLegal nodes passes h → Follows before node h → before ≤ nodes
before_bound nodes passes before node h l f =
    ⊎_elim (λ (z : eqb before 0 ≡ true). let zero : before ≡ 0 = eqb-true before 0 z in omega arith)
    (λ (b : has before (live h) ≡ true). (live_bound nodes passes before h l b).1) (or_cases (eqb before 0) (has before (live h)) f.place)

-- what the owner knows after it
pub owner_unlinked : (z : TableId) (m : Mine) → IsOwner z m → (st : Step Unit) (found before node : ℕ) (m' : Mine) → st.word ≡ base before → Follows before node m.0.history → unlinked st m found m'
    → IsOwner z m' × IsUnlinked (owner_state z m.0) node (owner_state z m'.0)
owner_unlinked z m g st found before node m' word follows told =
    let made = told.0 in
    let past : List Entry = made.past in
    let names : List (List ℕ) = made.names in
    let t : TakesIn m.0 past names = made.takes in
    let known = g.seat.known in
    let same = t.added.owner g.owns in
    let lists : live past ≡ live m.0.history = live_same past m.0.history same in
    let follows' : Follows before node past = follows_same before node past m.0.history lists follows in
    let is : found ≡ node = sym (told.1 before word).next ∙ follows'.next in
    let listed_now : has node (live past) ≡ true = follower_listed before node past follows' in
    let w : View = record (view_at m.0 (Unload node ∷ past) names) { given = [] } in
    let moved_to : m' ≡ (w, m.1) = subst (λ n. m' ≡ (record (view_at m.0 (Unload n ∷ past) names) { given = [] }, m.1)) is made.now in
    let after : IsHistory w.nodes w.passes w.history w.names =
    record { few_nodes = known.few_nodes; few_passes = known.few_passes; legal = (listed_now, t.legal.legal); named = t.legal.named } in
    let passes : ℕ = m.0.passes in
    subst (λ (q : Mine). IsOwner z q × IsUnlinked (owner_state z m.0) node (owner_state z q.0)) (sym moved_to) (
      record {
        seat = record {
          wide = g.seat.wide;
          lives = g.seat.lives;
          light = g.seat.light;
          known = after;
          short = t.short;
        };
        owns = g.owns;
        filled = λ j i x some_j i_in stored.
            let f = g.filled j i x some_j i_in stored in
            let free : is_free passes j past ≡ true = free_same passes j past m.0.history same ∙ f.1 in
            (f.0, free_left passes j node past (λ e. not_both (is_free passes j past) free (subst (λ q. is_free passes q past ≡ false) e (listed_busy passes node past listed_now))) ∙ free);
      },
      record { past = past; names = names; sees = sees z m g past names t; now = refl; legal = after },
    )
