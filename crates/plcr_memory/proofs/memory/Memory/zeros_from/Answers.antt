use Rattle.std.proofs.Common.{◌≡◌, ◌+◌, None, sym, ap, subst, ℕ, arith}
use Rattle.std.specs.Prelude.{option_map, unwrap_or, Option}
use Rattle.plcr_memory.specs.declared.region.Region.{Region}
use Rattle.plcr_memory.specs.Regions.{zeros_in, byte_at}
use Rattle.plcr_memory.proofs.Searches.{no_byte}
use Rattle.plcr_memory.proofs.memory.Memory.zeros_from.Goals as goal

pub returns-in_default-clause-size : goal.returns-in_default-clause-size
returns-in_default-clause-size c =
    let here : c.args.at + 0 ≡ c.args.at = omega arith in
    let none = no_byte c.args.self.now c.args.at (subst (λ (a : ℕ). byte_at c.args.self.now a ≡ None) here c.in_default.ensures.none) in
    sym (ap (λ (o : Option Region). unwrap_or (option_map (λ r. zeros_in r c.args.at) o) 0) none)
