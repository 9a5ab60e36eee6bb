-- The passes of a list that was just opened are of that list.
use Rattle.std.proofs.Common.{◌≡◌, ℕ, zero, suc, All, refl, sym, subst}
use Rattle.atomic_table.specs.Seated.{TableId}
use Rattle.plcr_imagelist.specs.Holds.{WalkerState}
use Rattle.plcr_imagelist.specs.Opening.{opened_walker, opened_walkers}
use Rattle.plcr_turns.proofs.Fronts.{all_more, all_none}

pub opened_all : (table : TableId) (nodes passes count : ℕ) → All (λ (w : WalkerState). w.table ≡ table) (opened_walkers table nodes passes count)
opened_all table nodes passes zero = all_none (λ (w : WalkerState). w.table ≡ table)
opened_all table nodes passes (suc count) =
    all_more (λ (w : WalkerState). w.table ≡ table) (opened_walkers table nodes passes count) (opened_walker table nodes passes count) (opened_all table nodes passes count) refl
