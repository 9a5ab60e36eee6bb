-- That the pens of this crate show some bytes.
use Rattle.std.proofs.Common.{ℕ, ◌≤◌, ◌-◌, ◌^◌, Bool, true, false, List, [], ◌∷◌, Option, None, replicate, refl, sym, ap, ◌∙◌, lit<}
use Rattle.std.proofs.lemmas.List.{length-replicate}
use Rattle.std.proofs.Math.Nat.{min-eq_left}
use Rattle.std.specs.Prelude.{min}
use Rattle.std.specs.Borrow.{GName}
use Rattle.plcr_base.proofs.Appended.{append_nothing, up_to_start}
use Rattle.plcr_wire.specs.Pen.{counter_pen, sink_pen, IsShown}

-- a counter shows as many bytes as it counts
pub counter_shown : (n : ℕ) → n ≤ 2 ^ 64 - 1 → IsShown (counter_pen n)
counter_shown n h = record {
  base = None;
  given = replicate n 0;
  shows = sym (ap (λ l. min l (2 ^ 64 - 1)) (length-replicate n 0) ∙ min-eq_left h);
}

-- a pen over a sink shows what is held for it; where it lost bytes, that it lost one
pub sink_shown : (name : GName) (told : Option (List ℕ)) (faults : ℕ) (mark held : List ℕ)
    (failed : Bool) → IsShown (sink_pen name told faults mark held failed)
sink_shown name told faults mark held false =
    record { base = told; given = held; shows = up_to_start told held }
sink_shown name told faults mark held true = record {
  base = told;
  given = 0 ∷ [];
  shows = record {
    front = [];
    rest = 0 ∷ [];
    parts = refl;
    left = lit< tt;
    appended = sym (append_nothing told);
  };
}
