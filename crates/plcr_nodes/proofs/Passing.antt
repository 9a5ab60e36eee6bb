-- What a pass knows after a step, from what the step told its seat.
use Rattle.std.proofs.Common.{◌≡◌, ◌⊎◌, ⊎_elim, inl, inr, ℕ, zero, suc, ◌+◌, ◌<◌, ◌≤◌, List, [], ◌∷◌, true, false, eqb, refl, sym, ◌∙◌, subst, arith, eqb-true}
use Rattle.std.proofs.lemmas.Bool.{or_cases}
use Rattle.atomic_table.specs.Table.{Step}
use Rattle.atomic_table.specs.Seated.{TableId}
use Rattle.plcr_machine.specs.declared.entry.Entry.{Entry}
use Rattle.plcr_machine.specs.declared.entry.Entry.TheVariants.{Announce, Enter, Leave, Retire}
use Rattle.plcr_machine.specs.Histories.{MayFollow}
use Rattle.plcr_machine.specs.Lists.{loads}
use Rattle.plcr_machine.specs.Passes.{is_inside, is_announced, counts}
use Rattle.plcr_machine.specs.Holds.{may_reach}
use Rattle.plcr_machine.proofs.Cases.{not_both, eqb_same}
use Rattle.plcr_nodes.specs.declared.view.View.{View}
use Rattle.plcr_nodes.specs.Entries.{among}
use Rattle.plcr_nodes.specs.declared.words.TheConstants.{PAYLOAD_WORDS}
use Rattle.plcr_nodes.specs.inner.Words.{base}
use Rattle.plcr_nodes.specs.Payload.{image_word}
use Rattle.plcr_nodes.specs.inner.Rule.{number_of}
use Rattle.plcr_nodes.specs.Tokens.{SeesMore, IsEntry, IsGlanced, IsEntered, IsLeft, IsFollowed, IsRead}
use Rattle.plcr_nodes.specs.inner.Plays.{Mine, TakesIn, view_at, glanced, announced, retired, entered, left, followed, loaded_word}
use Rattle.plcr_nodes.specs.inner.Seats.{pass_state, IsPass, IsPassing}
use Rattle.plcr_machine.proofs.Growing.{counts-grows}
use Rattle.plcr_nodes.proofs.Known.{inside_same, announced_same, reach_bound}
use Rattle.plcr_nodes.proofs.Staying.{reach_stays, word_stays}

module _ (z : TableId) (m : Mine) (stamp : ℕ) (g : IsPassing z m stamp) where
  -- the seat has its number
  pub has_number : among (number_of m.0) m.0.numbers ≡ true
  has_number = subst (λ (l : List ℕ). among (number_of m.0) l ≡ true) (sym g.pass.one) (rw (eqb_same (number_of m.0)) refl)

  pub sees : (past : List Entry) (names : List (List ℕ)) → TakesIn m.0 past names → SeesMore (pass_state z m.0) past names
  sees past names t = record {
    added = record { grows = t.added.grows; owner = λ e. not_both false e refl; own = λ p a. t.added.own p (subst (λ (l : List ℕ). among p l ≡ true) (sym g.pass.one) a) };
    named = t.named;
    legal = t.legal;
    short = t.short;
  }

  -- its stamp is one of the table's words
  pub stamp_within : stamp < z.words
  stamp_within = let few = g.pass.few in let wide = g.pass.seat.wide in let place = g.stamped in omega arith

  -- a node that was given is one of the table's, and may be reached
  pub given_reached : (n : ℕ) → among n m.0.given ≡ true → 0 < n → (n ≤ m.0.nodes) × (may_reach (number_of m.0) n m.0.history ≡ true)
  given_reached n a some_node = let r = g.pass.given n a some_node in ((reach_bound m.0.nodes m.0.passes (number_of m.0) n m.0.history g.pass.seat.known.legal r).1, r)

  -- a place that a walk may go on from
  pub place_bound : (n : ℕ) → (n ≡ 0) ⊎ (among n m.0.given ≡ true) → n ≤ m.0.nodes
  place_bound zero p = omega arith
  place_bound (suc n) p = ⊎_elim (λ e. omega arith) (λ a. (given_reached (suc n) a (omega arith)).0) p

  pub place_reached : (n : ℕ) → (n ≡ 0) ⊎ (among n m.0.given ≡ true) → (n ≡ 0) ⊎ (may_reach (number_of m.0) n m.0.history ≡ true)
  place_reached zero p = inl refl
  place_reached (suc n) p = ⊎_elim (λ e. inl e) (λ a. inr (given_reached (suc n) a (omega arith)).1) p

  -- the seat and its number stay, so the word of its stamp does
  passing_at : (past : List Entry) (names : List (List ℕ)) (given : List ℕ) → IsPass z (record (view_at m.0 past names) { given = given }, m.1) → IsPassing z (record (view_at m.0 past names) { given = given }, m.1) stamp
  passing_at past names given p = record { pass = p; stamped = g.stamped }

  -- an entry of the pass
  abbrev entry_seen : (e : Entry) (past : List Entry) (names : List (List ℕ)) → TakesIn m.0 past names → loads (e ∷ past) ≡ loads past → MayFollow m.0.nodes m.0.passes past e
      → IsEntry e (pass_state z m.0) (pass_state z (record (view_at m.0 (e ∷ past) names) { given = [] }))
  entry_seen e past names t same may = record {
    past = past;
    names = names;
    sees = sees past names t;
    now = refl;
    legal = record { few_nodes = g.pass.seat.known.few_nodes; few_passes = g.pass.seat.known.few_passes; legal = (may, t.legal.legal); named = t.legal.named ∙ sym same };
  }

  entry_made : (e : Entry) (past : List Entry) (names : List (List ℕ)) → TakesIn m.0 past names → loads (e ∷ past) ≡ loads past → MayFollow m.0.nodes m.0.passes past e
      → IsPassing z (record (view_at m.0 (e ∷ past) names) { given = [] }, m.1) stamp
  entry_made e past names t same may = passing_at (e ∷ past) names [] (record {
    seat = record { wide = g.pass.seat.wide; lives = g.pass.seat.lives; light = g.pass.seat.light; known = (entry_seen e past names t same may).legal; short = t.short };
    one = g.pass.one;
    few = g.pass.few;
    given = λ n a _. not_both false a refl;
  })

  -- what a pass was stays so in what was taken in
  announced_still : (past : List Entry) (names : List (List ℕ)) → TakesIn m.0 past names → is_announced (number_of m.0) past ≡ is_announced (number_of m.0) m.0.history
  announced_still past names t = announced_same (number_of m.0) past m.0.history (t.added.own (number_of m.0) has_number)

  inside_still : (past : List Entry) (names : List (List ℕ)) → TakesIn m.0 past names → is_inside (number_of m.0) past ≡ is_inside (number_of m.0) m.0.history
  inside_still past names t = inside_same (number_of m.0) past m.0.history (t.added.own (number_of m.0) has_number)

  pub pass_announced : (st : Step Unit) (seen found : ℕ) (m' : Mine) → st.first ≡ seen + 1 → is_announced (number_of m.0) m.0.history ≡ false → seen ≤ counts m.0.history → announced st m found m'
      → IsPassing z m' stamp × IsEntry (Announce (number_of m.0) seen) (pass_state z m.0) (pass_state z m'.0)
  pass_announced st seen found m' first quiet known told =
      let k = told.0 seen first in
      let e : Entry = Announce (number_of m.0) seen in
      let grown = counts-grows m.0.history k.past k.takes.added.grows in
      let may : MayFollow m.0.nodes m.0.passes k.past e = (g.pass.few, announced_still k.past k.names k.takes ∙ quiet, omega arith) in
      subst (λ (q : Mine). IsPassing z q stamp × IsEntry e (pass_state z m.0) (pass_state z q.0)) (sym k.now) (entry_made e k.past k.names k.takes refl may, entry_seen e k.past k.names k.takes refl may)

  pub pass_retired : (st : Step Unit) (found : ℕ) (m' : Mine) → is_announced (number_of m.0) m.0.history ≡ true → is_inside (number_of m.0) m.0.history ≡ false → retired st m found m'
      → IsPassing z m' stamp × IsEntry (Retire (number_of m.0)) (pass_state z m.0) (pass_state z m'.0)
  pass_retired st found m' stamped out told =
      let k = told.0 in
      let e : Entry = Retire (number_of m.0) in
      let may : MayFollow m.0.nodes m.0.passes k.past e = (announced_still k.past k.names k.takes ∙ stamped, inside_still k.past k.names k.takes ∙ out) in
      subst (λ (q : Mine). IsPassing z q stamp × IsEntry e (pass_state z m.0) (pass_state z q.0)) (sym k.now) (entry_made e k.past k.names k.takes refl may, entry_seen e k.past k.names k.takes refl may)

  pub pass_entered : (st : Step Unit) (found : ℕ) (m' : Mine) → is_announced (number_of m.0) m.0.history ≡ true → is_inside (number_of m.0) m.0.history ≡ false → entered st m found m'
      → IsPassing z m' stamp × IsEntered (pass_state z m.0) found (pass_state z m'.0)
  pass_entered st found m' stamped out told =
      let k = told.0 in
      let e : Entry = Enter (number_of m.0) in
      let may : MayFollow m.0.nodes m.0.passes k.past e = (announced_still k.past k.names k.takes ∙ stamped, inside_still k.past k.names k.takes ∙ out) in
      subst (λ (q : Mine). IsPassing z q stamp × IsEntered (pass_state z m.0) found (pass_state z q.0)) (sym k.now)
      (entry_made e k.past k.names k.takes refl may, record { entry = entry_seen e k.past k.names k.takes refl may; gate = told.1 })

  pub pass_left : (st : Step Unit) (found : ℕ) (m' : Mine) → is_inside (number_of m.0) m.0.history ≡ true → left st m found m'
      → IsPassing z m' stamp × IsLeft (pass_state z m.0) found (pass_state z m'.0)
  pass_left st found m' inn told =
      let k = told.0 in
      let e : Entry = Leave (number_of m.0) in
      let may : MayFollow m.0.nodes m.0.passes k.past e = inside_still k.past k.names k.takes ∙ inn in
      subst (λ (q : Mine). IsPassing z q stamp × IsLeft (pass_state z m.0) found (pass_state z q.0)) (sym k.now)
      (entry_made e k.past k.names k.takes refl may, record { entry = entry_seen e k.past k.names k.takes refl may; gate = told.1 })

  -- what could be reached can still be reached in the history that was taken in
  pub still_reached : (past : List Entry) (names : List (List ℕ)) → TakesIn m.0 past names → (n : ℕ) → may_reach (number_of m.0) n m.0.history ≡ true → may_reach (number_of m.0) n past ≡ true
  still_reached past names t n r = reach_stays m.0.nodes m.0.passes (number_of m.0) n m.0.history past m.0.names names (sees past names t) r

  pub seen_after : (past : List Entry) (names : List (List ℕ)) (given : List ℕ) → TakesIn m.0 past names → ((n : ℕ) → among n given ≡ true → 0 < n → may_reach (number_of m.0) n past ≡ true)
      → IsPassing z (record (view_at m.0 past names) { given = given }, m.1) stamp
  seen_after past names given t reach = passing_at past names given (record {
    seat = record { wide = g.pass.seat.wide; lives = g.pass.seat.lives; light = g.pass.seat.light; known = t.legal; short = t.short };
    one = g.pass.one;
    few = g.pass.few;
    given = reach;
  })

  pub pass_glanced : (st : Step Unit) (found : ℕ) (m' : Mine) → glanced st m found m' → IsPassing z m' stamp × IsGlanced (pass_state z m.0) found (pass_state z m'.0)
  pass_glanced st found m' told =
      let past : List Entry = told.0 in
      let names : List (List ℕ) = told.1 in
      let t : TakesIn m.0 past names = told.2 in
      subst (λ (q : Mine). IsPassing z q stamp × IsGlanced (pass_state z m.0) found (pass_state z q.0)) (sym told.4) (
        seen_after past names m.0.given t (λ n a some_node. still_reached past names t n (g.pass.given n a some_node)),
        record { past = past; names = names; sees = sees past names t; now = refl; gate = told.3 },
      )

  pub pass_followed : (st : Step Unit) (node found : ℕ) (m' : Mine) → st.word ≡ base node → followed st m found m'
      → IsPassing z m' stamp × IsFollowed (pass_state z m.0) node found (pass_state z m'.0)
  pass_followed st node found m' word told =
      let past : List Entry = told.0 in
      let names : List (List ℕ) = told.1 in
      let t : TakesIn m.0 past names = told.2 in
      let p : ℕ = number_of m.0 in
      let w : View = record (view_at m.0 past names) { given = found ∷ m.0.given } in
      let same : m' ≡ (w, m.1) = λ i. (told.3 i, told.7 i) in
      let reach : 0 < found → may_reach p found past ≡ true = told.6 in
      subst (λ (q : Mine). IsPassing z q stamp × IsFollowed (pass_state z m.0) node found (pass_state z q.0)) (sym same) (
        seen_after past names (found ∷ m.0.given) t
            (λ n a some_node. ⊎_elim (λ e. let x : found ≡ n = eqb-true found n e in subst (λ y. may_reach p y past ≡ true) x (reach (omega arith))) (λ a'. still_reached past names t n (g.pass.given n a' some_node)) (or_cases (eqb found n) (among n m.0.given) a)),
        record { past = past; names = names; sees = sees past names t; now = refl; link = told.4 node word; inside = told.5; reach = reach },
      )

  pub pass_read : (st : Step Unit) (node k found : ℕ) (m' : Mine) → st.word ≡ base node + (k + 1) → k < PAYLOAD_WORDS → may_reach (number_of m.0) node m.0.history ≡ true → loaded_word st m found m'
      → IsPassing z m' stamp × IsRead (pass_state z m.0) node k found (pass_state z m'.0)
  pass_read st node k found m' word k_in reach told =
      let past : List Entry = told.0 in
      let names : List (List ℕ) = told.1 in
      let t : TakesIn m.0 past names = told.2 in
      let p : ℕ = number_of m.0 in
      let w : View = view_at m.0 past names in
      let same : m' ≡ (w, m.1) = λ i. (told.3 i, told.5 i) in
      let here : found ≡ image_word node past names k = told.4 node k word k_in in
      let same_word = word_stays m.0.nodes m.0.passes p node m.0.history past m.0.names names (sees past names t) reach g.pass.seat.known.named k in
      subst (λ (q : Mine). IsPassing z q stamp × IsRead (pass_state z m.0) node k found (pass_state z q.0)) (sym same) (
        seen_after past names m.0.given t (λ n a some_node. still_reached past names t n (g.pass.given n a some_node)),
        record { past = past; names = names; sees = sees past names t; now = refl; image = here; same = here ∙ same_word },
      )
