-- What passes and holds keep beside their pass of the table.
use Rattle.std.specs.Prelude.{◌≡◌, ℕ, ◌<◌, Bool, true, List, [], ◌∷◌, IsFalse}
use Rattle.plcr_machine.specs.declared.image.Image.{Image}
use Rattle.plcr_machine.specs.declared.entry.Entry.{Entry}
use Rattle.plcr_machine.specs.Lists.{loaded}
use Rattle.plcr_machine.specs.Passes.{is_inside, is_announced, counts}
use Rattle.plcr_machine.specs.Histories.{IsHistory}
use Rattle.plcr_machine.specs.Holds.{before_enter, may_reach}
use Rattle.plcr_machine.specs.Parts.{MadeHolds, MadeHoldsAndEntered}
use Rattle.plcr_nodes.specs.Entries.{among}
use Rattle.plcr_nodes.specs.Tokens.{PassState}
use Rattle.plcr_imagelist.specs.Holds.{WalkerState, IsWalking}

abbrev pub walker_state : PassState → WalkerState
walker_state s = record {
  table = s.table;
  nodes = s.nodes;
  passes = s.passes;
  number = s.number;
  history = s.history;
  names = s.names;
}

-- a pass that is out and not announced, and has made whole holds alone
pub record IsOut (s : WalkerState) : Type 0 where
  pub known : IsHistory s.nodes s.passes s.history s.names
  pub outside : IsFalse (is_inside s.number s.history)
  pub retired : IsFalse (is_announced s.number s.history)
  pub made : MadeHolds s.number s.history

-- the images that were loaded last on nodes
abbrev pub images_on : List ℕ → List Entry → List Image
images_on [] h = []
images_on (n ∷ ns) h = loaded n h ∷ images_on ns h

-- the nodes that a hold keeps are those that its pass was given
pub record IsHolding (pass : PassState) (met : List ℕ) (ended : Bool) (low : ℕ) : Type 0 where
  pub walking : IsWalking
      (record {
        walker = walker_state pass;
        met = images_on met pass.history;
        ended = ended;
        extents = [];
      })
  pub given : (n : ℕ) → among n met ≡ true → (0 < n) × (among n pass.given ≡ true)
      × (may_reach pass.number n pass.history ≡ true)
  pub low_is : low ≡ counts (before_enter pass.number pass.history)
  pub made : MadeHoldsAndEntered pass.number pass.history

-- a pass of a table of this size that is out
abbrev pub IsReady : ℕ → PassState → Type 0
IsReady nodes s = IsOut (walker_state s) × (s.nodes ≡ nodes)
