-- What stands behind an answer whose troubles are told as faults.
use Rattle.std.proofs.Common.{◌≡◌, Result, Ok, Err, refl}
use Rattle.plcr_loader.specs.declared.trouble.Trouble.{Trouble}
use Rattle.plcr_loader.specs.Commands.{faulted}

pub faulted_ok : {A E : Type 0} (fault : Trouble → E) (r : Result A Trouble) (x : A) → faulted fault r ≡ Ok x → r ≡ Ok x
faulted_ok fault (Ok y) x h = cc
faulted_ok fault (Err t) x h = cc

pub faulted_err : {A E : Type 0} (fault : Trouble → E) (r : Result A Trouble) (e : E) → faulted fault r ≡ Err e → (t : Trouble) × (r ≡ Err t) × (e ≡ fault t)
faulted_err fault (Ok y) e h = cc
faulted_err fault (Err t) e h = (t, refl, cc)
