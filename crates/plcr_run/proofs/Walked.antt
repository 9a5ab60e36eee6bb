-- Walks, call by call.
use Rattle.std.proofs.Common.{◌≡◌, suc, true, false, List, [], ◌∷◌, length, length-append, refl, ap, ◌∙◌, ⊎_elim, arith}
use Rattle.std.proofs.lemmas.Bool.{cases_Bool}
use Rattle.plcr_machine.specs.declared.image.Image.{Image}
use Rattle.plcr_imagelist.specs.Holds.{HoldState, IsWalking, IsNext}
use Rattle.plcr_imagelist.specs.Carrying.{OnlySees}
use Rattle.plcr_imagelist.proofs.Sees.{sees_itself}

pub walk_starts : (s : HoldState) → IsWalking s → OnlySees s.walker s.walker
walk_starts s w = sees_itself s.walker w.known w.short

-- a call that met one has one more
pub met_more : (old new : HoldState) → IsNext old true new → length new.met ≡ suc (length old.met)
met_more old new n =
    ⊎_elim
    (λ (e : old.ended ≡ true). let no : true ≡ false = (n.ended e).0 in cc)
    (λ (e : old.ended ≡ false). let m = ((n.goes e).met refl).1 in let x : Image = m.0 in ap (λ (l : List Image). length l) m.2 ∙ length-append old.met (x ∷ []) ∙ omega arith)
    (cases_Bool old.ended)

-- a call that met none ended the walk
pub met_end : (old new : HoldState) → IsNext old false new → new.ended ≡ true
met_end old new n =
    ⊎_elim
    (λ (e : old.ended ≡ true). ap (λ (s : HoldState). s.ended) (n.ended e).1 ∙ e)
    (λ (e : old.ended ≡ false). ((n.goes e).end refl).0)
    (cases_Bool old.ended)
