-- The passes of a list that was just opened are passes of that list.
use Rattle.std.proofs.Common.{◌≡◌, ℕ, zero, suc, List, All, refl, sym, subst}
use Rattle.std.proofs.lemmas.List.Elements.{All-nil, All-push}
use Rattle.atomic_table.specs.Seated.{TableId}
use Rattle.plcr_imagelist.specs.States.{WriterState}
use Rattle.plcr_imagelist.specs.Holds.{WalkerState}
use Rattle.plcr_imagelist.specs.Opening.{opened_walker, opened_walkers, IsOpenedList}

walkers_on : (z : TableId) (nodes passes count : ℕ) → All (λ (p : WalkerState). p.table ≡ z) (opened_walkers z nodes passes count)
walkers_on z nodes passes zero = All-nil (λ (p : WalkerState). p.table ≡ z)
walkers_on z nodes passes (suc count) =
    All-push (λ (p : WalkerState). p.table ≡ z) (opened_walkers z nodes passes count) (opened_walker z nodes passes count) (walkers_on z nodes passes count) refl

pub opened_on : (nodes passes : ℕ) (z : TableId) (writer : WriterState) (all : List WalkerState) → IsOpenedList nodes passes z writer all → All (λ (p : WalkerState). p.table ≡ z) all
opened_on nodes passes z writer all opened =
    subst (λ (xs : List WalkerState). All (λ (p : WalkerState). p.table ≡ z) xs) (sym opened.numbered) (walkers_on z nodes passes passes)
