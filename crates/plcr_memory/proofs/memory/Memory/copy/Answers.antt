use Rattle.std.proofs.Common.{◌≡◌, ◌≤◌, ◌∙◌, ◌+◌, ℕ, List, Some, is_some, length, sym, ap, subst, arith}
use Rattle.plcr_memory.specs.Regions.{Contents, bytes_at, byte_in}
use Rattle.plcr_memory.proofs.Ranges.{one_run, left_in}
use Rattle.plcr_memory.proofs.memory.Memory.copy.Goals as goal

pub returns-then-into-left-clause-copied : goal.returns-then-into-left-clause-copied
returns-then-into-left-clause-copied c =
    let m = c.args.self.now in
    let r = c.in-Some.region in
    let xs = c.copy_run.new.into in
    let same : length xs ≡ length c.args.into.now = c.copy_run.auto.into in
    let short : length xs ≤ left_in r c.args.at = omega (arith, c.if-into-left.true, same) in
    let file_is : c.as_slice.result.now ≡ m.file = c.as_slice.ensures.value ∙ ap (λ (x : Contents). x.file) c.self.view_is in
    let run = one_run m c.args.at r xs c.in-Some.ensures.found short (λ k lt. c.copy_run.ensures k lt ∙ ap (λ (f : List ℕ). byte_in f r (c.args.at + k)) file_is) in
    subst (λ (n : ℕ). bytes_at m c.args.at n ≡ Some xs) same run

pub returns-then-into-left-clause-mapped : goal.returns-then-into-left-clause-mapped
returns-then-into-left-clause-mapped c = sym (ap is_some (returns-then-into-left-clause-copied c))
