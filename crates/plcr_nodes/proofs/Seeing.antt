-- What a token knows of the entries that came new to it.
use Rattle.std.proofs.Common.{◌≡◌, ℕ, List, [], ◌∷◌, ◌++◌, Bool, false, refl, sym, ap, ◌∙◌, append_assoc}
use Rattle.plcr_machine.specs.declared.entry.Entry.{Entry}
use Rattle.plcr_machine.specs.Lists.{Grows}
use Rattle.plcr_machine.specs.Parts.{own_entries}
use Rattle.plcr_machine.proofs.Cases.{eqb_same}
use Rattle.plcr_nodes.specs.Seeing.{AddsOthers}

-- none of them is an entry of a pass, who has its own
pub own_of : (p : ℕ) (old all : List Entry) → AddsOthers false (p ∷ []) old all → own_entries p all ≡ own_entries p old
own_of p old all a = a.own p (rw (eqb_same p) refl)

pub grows_again : (a b c : List Entry) → Grows a b → Grows b c → Grows a c
grows_again a b c g h = (h.0 ++ g.0, h.1 ∙ ap (λ (l : List Entry). h.0 ++ l) g.1 ∙ sym (append_assoc h.0 g.0 a))

-- what came new twice came new
pub adds_again : (owns : Bool) (numbers : List ℕ) (a b c : List Entry) → AddsOthers owns numbers a b → AddsOthers owns numbers b c → AddsOthers owns numbers a c
adds_again owns numbers a b c g h = record {
  grows = grows_again a b c g.grows h.grows;
  owner = λ e. h.owner e ∙ g.owner e;
  own = λ p m. h.own p m ∙ g.own p m;
}
