use Rattle.std.specs.Prelude.{◌≡◌, ◌<◌, ◌≤◌, ◌+◌, ℕ}
use Rattle.plcr_symbols.specs.inner.Gaps.{kept_at, settled}
use Rattle.plcr_symbols.proofs.finding.settle.Given as goal

abbrev pub invariant-loop-answer : goal.invariant-loop-answer
invariant-loop-answer l =
    ((k : ℕ) → k < l.answer-index → kept_at l.found k ≡ settled l.memory l.initial.found (k + 1)) × ((k : ℕ) → l.answer-index ≤ k → kept_at l.found k ≡ kept_at l.initial.found k)
    × (l.below ≡ settled l.memory l.initial.found l.answer-index)
