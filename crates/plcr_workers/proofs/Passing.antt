-- The pass of a worker goes on.
use Rattle.std.proofs.Common.{ℕ, [], refl, ap, ◌∙◌}
use Rattle.plcr_nodes.proofs.Seeing.{grows_again}
use Rattle.plcr_imagelist.specs.Holds.{WalkerState, HoldState, IsHeld, IsReleased}
use Rattle.plcr_imagelist.specs.Carrying.{OnlySees}
use Rattle.plcr_imagelist.specs.Walk.{IsSameWalk}
use Rattle.plcr_imagelist.proofs.Looking.{went_again}
use Rattle.plcr_workers.specs.inner.Places.{PassGoes}

pub stays : (a : WalkerState) → PassGoes a a
stays a = record { number = refl; grows = ([], refl); went = ([], refl) }

pub again : (a b c : WalkerState) → PassGoes a b → PassGoes b c → PassGoes a c
again a b c g h = record { number = h.number ∙ g.number; grows = grows_again a.history b.history c.history g.grows h.grows; went = went_again a.names b.names c.names g.went h.went }

pub sees : (a b : WalkerState) → OnlySees a b → PassGoes a b
sees a b o = record { number = ap (λ (w : WalkerState). w.number) o.now; grows = o.sees.added.grows; went = o.sees.named }

pub held : (a : WalkerState) (h : HoldState) → IsHeld a h → PassGoes a h.walker
held a h k = record {
  number = ap (λ (w : WalkerState). w.number) k.enter.now ∙ ap (λ (w : WalkerState). w.number) k.announce.now;
  grows = k.grows;
  went = k.went;
}

pub released : (h : HoldState) (a : WalkerState) (low high : ℕ) → IsReleased h a low high → PassGoes h.walker a
released h a low high r = record {
  number = ap (λ (w : WalkerState). w.number) r.retire.now ∙ ap (λ (w : WalkerState). w.number) r.leave.now;
  grows = r.grows;
  went = r.went;
}

pub same_walk : (old new : HoldState) → IsSameWalk old new → PassGoes old.walker new.walker
same_walk old new s = record { number = s.pass; grows = s.added.grows; went = s.went }
