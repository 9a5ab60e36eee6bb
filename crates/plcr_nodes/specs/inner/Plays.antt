-- What each step tells its seat: which entry it made or what it found, and the view after.
use Rattle.std.specs.Prelude.{◌≡◌, ℕ, suc, ◌+◌, ◌<◌, ◌≤◌, true, false, List, [], ◌∷◌}
use Rattle.atomic_table.specs.Table.{Step, Me}
use Rattle.plcr_machine.specs.declared.entry.Entry.{Entry}
use Rattle.plcr_machine.specs.declared.entry.Entry.TheVariants.{Announce, Enter, Leave, Retire, Load, Unload, Count, Look}
use Rattle.plcr_machine.specs.Lists.{loads}
use Rattle.plcr_machine.specs.Passes.{counts, stamp_of}
use Rattle.plcr_machine.specs.Links.{link_of}
use Rattle.plcr_machine.specs.Holds.{may_reach}
use Rattle.plcr_nodes.specs.declared.view.View.{View}
use Rattle.plcr_nodes.specs.declared.words.TheConstants.{NODE_WORDS, PAYLOAD_WORDS}
use Rattle.plcr_nodes.specs.Seeing.{GoesOn}
use Rattle.plcr_nodes.specs.Names.{store, header_in, name_in, stored_elsewhere}
use Rattle.plcr_nodes.specs.inner.Words.{base, stamp_place}
use Rattle.plcr_nodes.specs.Payload.{image_word}
use Rattle.plcr_nodes.specs.inner.Rule.{first_of, number_of}
use Rattle.plcr_nodes.specs.Owning.{Follows}

-- the history so far, as a step lets a view take it in
abbrev pub TakesIn : View → List Entry → List (List ℕ) → Type 0
TakesIn v past names = GoesOn v.nodes v.passes v.owns v.numbers v.history v.names past names

-- the view, with this history
abbrev pub view_at : View → List Entry → List (List ℕ) → View
view_at v h names = record v { history = h; names = names; heard = [] }

-- what a step sees of the seat that makes it
abbrev pub Mine : Type 0
Mine = Me Unit View

-- the seat took the history in, and made an entry
pub record Makes (entry : Entry) (m m' : Mine) : Type 0 where
  pub past : List Entry
  pub names : List (List ℕ)
  pub takes : TakesIn m.0 past names
  pub now : m' ≡ (record (view_at m.0 (entry ∷ past) names) { given = [] }, m.1)

-- the gate was seen
abbrev pub glanced : Step Unit → Mine → ℕ → Mine → Type 0
glanced st m found m' = (past : List Entry) × (names : List (List ℕ)) × TakesIn m.0 past names
    × (found ≡ counts past) × (m' ≡ (view_at m.0 past names, m.1))

-- the pass's stamp was 0, and is one more than the number of counts that is announced
abbrev pub announced : Step Unit → Mine → ℕ → Mine → Type 0
announced st m found m' =
    ((seen : ℕ) → st.first ≡ seen + 1 → Makes (Announce (number_of m.0) seen) m m') × (found ≡ 0)

-- the pass's stamp was not 0, and is 0
abbrev pub retired : Step Unit → Mine → ℕ → Mine → Type 0
retired st m found m' = Makes (Retire (number_of m.0)) m m' × (0 < found)

abbrev pub entered : Step Unit → Mine → ℕ → Mine → Type 0
entered st m found m' = (e : Makes (Enter (number_of m.0)) m m') × (found ≡ counts e.past)

abbrev pub left : Step Unit → Mine → ℕ → Mine → Type 0
left st m found m' = (e : Makes (Leave (number_of m.0)) m m') × (found ≡ counts e.past)

-- a link was loaded: the end, or a node that was in the list since the enter
abbrev pub followed : Step Unit → Mine → ℕ → Mine → Type 0
followed st m found m' = (past : List Entry) × (names : List (List ℕ)) × TakesIn m.0 past names
    × (m'.0 ≡ record (view_at m.0 past names) { given = found ∷ m.0.given })
    × ((n : ℕ) → st.word ≡ base n → found ≡ link_of n past) × (found ≤ m.0.nodes)
    × (0 < found → may_reach (number_of m.0) found past ≡ true) × (m'.1 ≡ m.1)

-- a payload word was loaded
abbrev pub loaded_word : Step Unit → Mine → ℕ → Mine → Type 0
loaded_word st m found m' = (past : List Entry) × (names : List (List ℕ)) × TakesIn m.0 past names
    × (m'.0 ≡ view_at m.0 past names) × ((n k : ℕ) → st.word ≡ base n + (k + 1) →
    k < PAYLOAD_WORDS → found ≡ image_word n past names k) × (m'.1 ≡ m.1)

abbrev pub filled : Step Unit → Mine → ℕ → Mine → Type 0
filled st m found m' = (n k : ℕ) → st.word ≡ base n + k → k < NODE_WORDS →
    (m'.0 ≡ record m.0 { filled = store n k st.first ∷ m.0.filled }) × (m'.1 ≡ m.1)

-- the view after the node was linked at the end of the list
abbrev pub linked_view : View → ℕ → List Entry → List (List ℕ) → View
linked_view v n past names =
    record (view_at v (Load n (suc (loads past)) (header_in n v.filled) ∷ past)
    (name_in n v.filled ∷ names)) { given = []; filled = stored_elsewhere n v.filled }

-- the link was the end, and leads to the node
abbrev pub linked : Step Unit → Mine → ℕ → Mine → Type 0
linked st m found m' = (past : List Entry) × (names : List (List ℕ)) × TakesIn m.0 past names
    × (m'.0 ≡ linked_view m.0 st.first past names) × (m'.1 ≡ m.1) × (found ≡ 0)

-- the node that the link led to was taken out of the list
abbrev pub unlinked : Step Unit → Mine → ℕ → Mine → Type 0
unlinked st m found m' = (e : Makes (Unload found) m m')
    × ((n : ℕ) → st.word ≡ base n → Follows n found e.past)

-- a change was counted
abbrev pub counted : Step Unit → Mine → ℕ → Mine → Type 0
counted st m found m' = (e : Makes Count m m') × (found ≡ counts e.past)

-- the stamp of a pass was looked at
abbrev pub looked : Step Unit → Mine → ℕ → Mine → Type 0
looked st m found m' = (pass : ℕ) → st.word ≡ stamp_place m.0.nodes pass →
    (e : Makes (Look pass found) m m') × (found ≡ stamp_of pass e.past)

-- one more pass number was given
abbrev pub numbered : Step Unit → Mine → ℕ → Mine → Type 0
numbered st m found m' = (found ≡ m.0.numbered)
    × (m'.0 ≡ record m.0 {
      numbered = m.0.numbered + 1;
      numbers = m.0.numbered ∷ m.0.numbers;
      given = [];
    }) × (m'.1 ≡ m.1)

-- the seat that gives its pass number away
abbrev pub giving : View → View
giving v = record v { numbers = []; given = [] }

-- the seat that is given that number, with a copy of what was seen
abbrev pub given_view : View → View
given_view v = record v {
  owns = false;
  numbered = 0;
  numbers = first_of v.numbers ∷ [];
  given = [];
  filled = [];
  heard = [];
}
