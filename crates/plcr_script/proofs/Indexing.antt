-- The index behind one line more.
use Rattle.std.proofs.Common.{◌≡◌, ℕ, ◌<◌, Bool, false, cond, eqb, List, [], ◌∷◌, Some, None, replicate, refl, arith, ◌||◌}
use Rattle.std.specs.Prelude.{slice_set}
use Rattle.std.specs.Str.{bytes_eq}
use Rattle.std.proofs.lemmas.List.{length-replicate, get_or-replicate}
use Rattle.plcr_machine.specs.declared.limits.TheConstants.{MOST_PASSES}
use Rattle.plcr_script.specs.declared.names.Index.{Index}
use Rattle.plcr_script.specs.declared.modes.Mode.{Mode}
use Rattle.plcr_script.specs.declared.modes.Mode.TheVariants.{Single, Worker}
use Rattle.plcr_script.specs.declared.statements.Statement.{Statement}
use Rattle.plcr_script.specs.declared.statements.NumberedStatement.{NumberedStatement}
use Rattle.plcr_script.specs.Places.{in_behind, is_in_behind}
use Rattle.plcr_script.specs.Sayings.{States}
use Rattle.plcr_script.specs.Lawful.{AreSizes}
use Rattle.plcr_script.specs.Reading.{DraftValue, passes_of, with_said, written_by, files_before, files_of, file_of}
use Rattle.plcr_script.specs.inner.Names.{has, IsIndex, AreInside, IsIndexOf}
use Rattle.plcr_script.proofs.Insides.{inside_same, inside_moved}
use Rattle.plcr_script.proofs.Naming.{index_same, index_more, index_behind, files_one}

-- a pass that a statement may name is one that a list may have
pub few_passes : (mode : Mode) (nodes passes p : ℕ) → AreSizes nodes passes → p < passes_of mode passes → p < MOST_PASSES
few_passes Single nodes passes p sizes less = omega (arith, less, sizes.3)
few_passes (Worker first) nodes passes p sizes less = omega (arith, less)

-- the files behind a statement that writes none
none_written : (s : NumberedStatement) → file_of s.statement ≡ None → files_of (s ∷ []) ≡ []
none_written s none = rw (files_one s, none) refl

-- and behind one that writes a file
one_written : (s : NumberedStatement) (file : List ℕ) → file_of s.statement ≡ Some file → files_of (s ∷ []) ≡ file ∷ []
one_written s file one = rw (files_one s, one) refl

module _ (index : Index) (draft : DraftValue) (line : ℕ) (s : Statement) (h : IsIndexOf index draft) where
  abbrev added : NumberedStatement
  added = record { line = line; statement = s }

  names_same : file_of s ≡ None → IsIndex index.names (files_before (with_said draft line (States s)))
  names_same none = index_behind index.names (written_by draft.before) draft.script.statements added (rw (none_written added none) (index_same index.names (files_before draft) h.names))

  -- a statement that writes no file and moves no pass
  pub quiet_index : ((pass : ℕ) (was : Bool) → in_behind pass was s ≡ was) → file_of s ≡ None → IsIndexOf index (with_said draft line (States s))
  quiet_index stays none = record { names = names_same none; inside = inside_same index.inside.items draft.script.statements added stays h.inside }

  -- a statement that moves a pass
  pub moved_index : (new : Index) (p : ℕ) (now : Bool) → p < MOST_PASSES → ((pass : ℕ) (was : Bool) → in_behind pass was s ≡ cond (eqb p pass) now was) → file_of s ≡ None
      → new.inside.items ≡ slice_set index.inside.items p now → new.names ≡ index.names → IsIndexOf new (with_said draft line (States s))
  moved_index new p now few moves none inside names = record {
    names = rw names (names_same none);
    inside = rw inside (inside_moved index.inside.items draft.script.statements added p now few moves h.inside);
  }

  -- a statement that moves a pass and writes a file
  pub written_index : (new : Index) (p : ℕ) (now : Bool) (file : List ℕ) → p < MOST_PASSES → ((pass : ℕ) (was : Bool) → in_behind pass was s ≡ cond (eqb p pass) now was) → file_of s ≡ Some file
      → new.inside.items ≡ slice_set index.inside.items p now → ((q : List ℕ) → has new.names q ≡ (bytes_eq file q || has index.names q)) → IsIndexOf new (with_said draft line (States s))
  written_index new p now file few moves one inside names = record {
    names = index_behind new.names (written_by draft.before) draft.script.statements added (rw (one_written added file one) (index_more index.names new.names (files_before draft) file h.names names));
    inside = rw inside (inside_moved index.inside.items draft.script.statements added p now few moves h.inside);
  }

-- all passes are out at first
pub all_out : AreInside (replicate MOST_PASSES false) []
unfolding is_in_behind
all_out = record {
  wide = length-replicate MOST_PASSES false;
  are = λ pass few. get_or-replicate MOST_PASSES pass false false few;
}
