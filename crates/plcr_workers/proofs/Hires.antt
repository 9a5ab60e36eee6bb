-- A worker that was just hired has its whole script before it.
use Rattle.std.proofs.Common.{◌≡◌, ℕ, zero, suc, List, [], ◌∷◌, length, map, slice_get, Option, Some, unwrap_or, sym, ap, ◌∙◌}
use Rattle.atomic_table.specs.Seated.{TableId}
use Rattle.plcr_script.specs.Scripts.{ScriptValue}
use Rattle.plcr_turns.specs.declared.lines.ChangeLine.{ChangeLine}
use Rattle.plcr_turns.specs.declared.view.View.{View}
use Rattle.plcr_turns.specs.Lines.{lines_of, wanted_by}
use Rattle.plcr_turns.specs.Working.{IsFresh}
use Rattle.plcr_workers.specs.Asking.{change_lines}
use Rattle.plcr_workers.specs.inner.Places.{total_of}
use Rattle.plcr_workers.specs.inner.Hired.{SoFar, totals_in}

-- what a function gives of the element at a place
mapped_at : {A B : Type 0} (f : A → B) (xs : List A) (n : ℕ) (x : A) (y : B) → slice_get xs n ≡ Some x → slice_get (map f xs) n ≡ Some y → y ≡ f x
mapped_at f [] n x y e h = absurd cc
mapped_at f (z ∷ xs) zero x y e h = let same : z ≡ x = cc in let there : f z ≡ y = cc in sym there ∙ ap f same
mapped_at f (z ∷ xs) (suc n) x y e h = mapped_at f xs n x y e h

pub fresh_so_far : (scripts : List ScriptValue) (n : ℕ) (list : TableId) (v : View) (s : ScriptValue) (total : ℕ) → slice_get scripts n ≡ Some s → slice_get (totals_in scripts) n ≡ Some total → IsFresh n total list v
    → SoFar n list s.statements 0 v
fresh_so_far scripts n list v s total stands at fresh = record {
  working = fresh.working;
  lines = ap (λ (journal : List ChangeLine). wanted_by (lines_of n journal)) fresh.journal;
  total = ap total_of fresh.shares ∙ mapped_at (λ (script : ScriptValue). length (change_lines script.statements)) scripts n s total stands at;
}

pub some_value : {A : Type 0} {a b : A} → Some a ≡ Some b → a ≡ b
some_value {A} {a} {b} e = ap (λ (o : Option A). unwrap_or o a) e
