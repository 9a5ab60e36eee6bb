-- What the tokens of a list that was just opened know.
use Rattle.std.specs.Prelude.{◌≡◌, ℕ, zero, suc, ◌<◌, List, [], ◌∷◌, ◌++◌, length, slice_index_or, Result, Ok, Err}
use Rattle.atomic_table.specs.Seated.{TableId}
use Rattle.plcr_machine.specs.Lists.{live}
use Rattle.plcr_imagelist.specs.declared.refusals.LoadRefused.{LoadRefused}
use Rattle.plcr_imagelist.specs.declared.refusals.UnloadRefused.{UnloadRefused}
use Rattle.plcr_imagelist.specs.declared.refusals.UnloadRefused.TheVariants.{NotLoaded}
use Rattle.plcr_imagelist.specs.Finding.{first_with}
use Rattle.plcr_imagelist.specs.Loading.{LoadsOrRefuses, UnloadsOrRefuses}
use Rattle.plcr_imagelist.specs.States.{WriterState}
use Rattle.plcr_imagelist.specs.Holds.{WalkerState}

abbrev pub opened_writer : TableId → ℕ → ℕ → WriterState
opened_writer table nodes passes =
    record {
      table = table;
      nodes = nodes;
      passes = passes;
      history = [];
      names = [];
      joined = [];
      stores = [];
    }

abbrev pub opened_walker : TableId → ℕ → ℕ → ℕ → WalkerState
opened_walker table nodes passes number =
    record {
      table = table;
      nodes = nodes;
      passes = passes;
      number = number;
      history = [];
      names = [];
    }

-- the first passes, with the numbers from 0 on
abbrev pub opened_walkers : TableId → ℕ → ℕ → ℕ → List WalkerState
opened_walkers table nodes passes zero = []
opened_walkers table nodes passes (suc count) =
    opened_walkers table nodes passes count ++ opened_walker table nodes passes count ∷ []

-- the list is empty and nothing has happened yet
pub record IsOpenedList (nodes passes : ℕ) (table : TableId) (writer : WriterState)
    (all : List WalkerState) : Type 0 where
  pub writing : writer ≡ opened_writer table nodes passes
  pub numbered : all ≡ opened_walkers table nodes passes passes

-- what the first calls of a writer come to: a load is not refused, and has the number 1, and there
-- is no image to unload
pub record StartsEmpty (writer : WriterState) : Type 0 where
  pub load : (header : ℕ) (name : List ℕ) (new : WriterState) (answer : Result ℕ LoadRefused) →
      LoadsOrRefuses writer header name new answer → answer ≡ Ok 1
  pub unload : (header : ℕ) (new : WriterState) (answer : Result ℕ UnloadRefused) →
      UnloadsOrRefuses writer (first_with header (live writer.history)) new answer →
      answer ≡ Err NotLoaded

-- so there is one pass for each number, at its place
abbrev pub PassesAreNumbered : Type 0
PassesAreNumbered = (table : TableId) (nodes passes count : ℕ) →
    (length (opened_walkers table nodes passes count) ≡ count)
    × ((number : ℕ) (default : WalkerState) → number < count →
    slice_index_or (opened_walkers table nodes passes count) number default
    ≡ opened_walker table nodes passes number)
