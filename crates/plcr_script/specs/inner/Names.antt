-- A set of files by their names, and which passes are in.
use Rattle.std.specs.Prelude.{◌≡◌, ℕ, ◌<◌, Bool, false, List, length, slice_index_or}
use Rattle.std.specs.Ordering.{nat_cmp}
use Rattle.std.specs.Cmp.Lexicographic.{slice_cmp}
use Rattle.std.specs.BTreeSet.{BTreeSet, contains_by}
use denote.Ref.{Bor}
use Rattle.plcr_machine.specs.declared.limits.TheConstants.{MOST_PASSES}
use Rattle.plcr_script.specs.declared.statements.NumberedStatement.{NumberedStatement}
use Rattle.plcr_script.specs.declared.names.Index.{Index}
use Rattle.plcr_script.specs.Places.{is_in_behind}
use Rattle.plcr_script.specs.Reading.{DraftValue, is_named, files_before}

-- whether the set has a name
abbrev pub has : BTreeSet (Bor (List ℕ)) → List ℕ → Bool
has names name = contains_by (λ k. slice_cmp nat_cmp name k.now) names

-- the set has just these files
abbrev pub IsIndex : BTreeSet (Bor (List ℕ)) → List (List ℕ) → Type 0
IsIndex names files = (name : List ℕ) → has names name ≡ is_named name files

-- these are the passes that are in behind the statements
pub record AreInside (inside : List Bool) (statements : List NumberedStatement) : Type 0 where
  pub wide : length inside ≡ MOST_PASSES
  pub are : (pass : ℕ) → pass < MOST_PASSES →
      slice_index_or inside pass false ≡ is_in_behind pass statements

-- the index is that of the lines so far
pub record IsIndexOf (index : Index) (draft : DraftValue) : Type 0 where
  pub names : IsIndex index.names (files_before draft)
  pub inside : AreInside index.inside.items draft.script.statements
