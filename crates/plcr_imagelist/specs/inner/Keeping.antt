-- What the writer keeps beside the table: which nodes are free, which wait to become free, what
-- each pass let go of, and the list itself.
use Rattle.std.specs.Prelude.{◌≡◌, ℕ, zero, suc, ◌+◌, ◌-◌, ◌<◌, ◌≤◌, List, [], ◌∷◌, length, slice_index, Bool, false, nat_lt, nat_le, ◌==◌, ◌&&◌, if◌then◌else◌, IsTrue}
use Rattle.plcr_machine.specs.declared.image.Image.{Image}
use Rattle.plcr_machine.specs.declared.entry.Entry.{Entry}
use Rattle.plcr_machine.specs.Lists.{live, loads, changes}
use Rattle.plcr_machine.specs.Nodes.{is_free, is_removed, is_waiting, is_let_go, counts_before}
use Rattle.plcr_machine.specs.Passes.{counts, IsPaced}
use Rattle.plcr_machine.specs.Histories.{IsHistory}
use Rattle.plcr_nodes.specs.Tokens.{OwnerState}
use Rattle.plcr_imagelist.specs.declared.bounds.Removed.{Removed}
use Rattle.plcr_imagelist.specs.States.{WriterState}

abbrev pub writer_state : OwnerState → WriterState
writer_state o = record {
  table = o.table;
  nodes = o.nodes;
  passes = o.passes;
  history = o.history;
  names = o.names;
  joined = o.joined;
  stores = o.filled;
}

-- how often a number stands in a list
abbrev pub times : ℕ → List ℕ → ℕ
times n [] = 0
times n (x ∷ xs) = (if x == n then 1 else 0) + times n xs

-- whether a number is that of a node
abbrev pub is_node : ℕ → ℕ → Bool
is_node nodes zero = false
is_node nodes (suc n) = nat_lt n nodes

abbrev pub once_where : Bool → ℕ
once_where b = if b then 1 else 0

-- the nodes among those that were taken out
abbrev pub nodes_of : List Removed → List ℕ
nodes_of [] = []
nodes_of (r ∷ rs) = r.node ∷ nodes_of rs

-- each was taken out after so many counts
abbrev pub AreTold : List Entry → List Removed → Type 0
AreTold h [] = Unit {0}
AreTold h (r ∷ rs) = (r.before ≡ counts_before r.node h) × AreTold h rs

-- One number for each pass, which only rises: the pass has let go of just the removed nodes that
-- were taken out below it, by whichever of the looks so far
pub record AreBounds (passes : ℕ) (h : List Entry) (bounds : List ℕ) : Type 0 where
  pub wide : length bounds ≡ passes
  pub most : (p : ℕ) → p < passes → slice_index bounds p ≤ suc (counts h)
  pub told : (p n : ℕ) → p < passes → IsTrue (is_removed n h) →
      is_let_go p n h ≡ nat_lt (suc (counts_before n h)) (slice_index bounds p)

-- what becomes of a bound as a stamp is found after so many counts
abbrev pub bound_of : ℕ → ℕ → ℕ
bound_of stamp counted = if stamp == 0 then suc counted else stamp

abbrev pub higher : ℕ → ℕ → ℕ
higher a b = if nat_lt a b then b else a

-- the least of some numbers and one more
abbrev pub least_from : ℕ → List ℕ → ℕ
least_from d [] = d
least_from d (x ∷ xs) = least_from (if nat_lt x d then x else d) xs

-- the nodes that were taken out below a bound, and the others
abbrev pub is_below : ℕ → Removed → Bool
is_below bound r = nat_lt (suc r.before) bound

abbrev pub is_above : ℕ → Removed → Bool
is_above bound r = nat_le bound (suc r.before)

abbrev pub let_go_below : ℕ → List Removed → List ℕ
let_go_below bound [] = []
let_go_below bound (r ∷ rs) = if is_below bound r then r.node ∷ let_go_below bound rs
    else let_go_below bound rs

-- the lists and numbers agree with the history that the owner knows
pub record Agrees (owner : OwnerState) (bounds spares : List ℕ) (gone : List Removed)
    (listed : List Image) (changed loaded : ℕ) : Type 0 where
  pub known : IsHistory owner.nodes owner.passes owner.history owner.names
  pub paced : IsPaced owner.history
  pub some : 0 < owner.passes
  pub images : listed ≡ live owner.history
  pub bounded : AreBounds owner.passes owner.history bounds
  -- each free node stands once among the free, and each that waits once among the removed
  pub free : (n : ℕ) →
      times n spares ≡ once_where (is_node owner.nodes n && is_free owner.passes n owner.history)
  pub removed : (n : ℕ) →
      times n (nodes_of gone)
      ≡ once_where (is_node owner.nodes n && is_waiting owner.passes n owner.history)
  pub told : AreTold owner.history gone
  pub all : length spares + length gone + length listed ≡ owner.nodes
  pub changes_are : changed ≡ changes owner.history
  pub loads_are : loaded ≡ loads owner.history

-- what the other functions see: what the owner knows, and the free node that the next load takes, 0
-- where none is free
pub record BooksState : Type 0 where
  pub owner : OwnerState
  pub spare : ℕ

-- the last number of a list, 0 where it is empty
abbrev pub last_of : List ℕ → ℕ
last_of xs = slice_index xs (length xs - 1)
