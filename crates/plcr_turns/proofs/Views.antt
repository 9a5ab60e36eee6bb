-- Views of passes: one of them changes, or one is added, and the others stay.
use Rattle.std.proofs.Common.{◌≡◌, ◌≢◌, ℕ, zero, suc, ◌<◌, ◌⊎◌, ⊎_elim, Bool, true, false, List, [], ◌∷◌, ◌++◌, set, Option, Some, None, refl, sym, ap, ◌∙◌, subst}
use mathlib.Core.Option.{some, some-injective, some-ne-none}
use lib.ListN.{get_elem?}
use Rattle.crossbeam_queue.proofs.Lists.{at_set, set_here, set_else, at_longer, at_last}
use Rattle.plcr_machine.proofs.Cases.{at_or_else, not_both}
use Rattle.plcr_nodes.proofs.Opening.{at_within}
use Rattle.plcr_turns.specs.declared.view.Role.{Role}
use Rattle.plcr_turns.specs.declared.view.Role.TheVariants.{Fresh, Chief, Worker, Spent}
use Rattle.plcr_turns.specs.declared.view.View.{View}
use Rattle.plcr_turns.specs.declared.view.Face.{Face}
use Rattle.plcr_turns.specs.Views.{has_share, IsUnspent, first_view}
use Rattle.plcr_turns.specs.Rule.{HasOwner}
use Rattle.plcr_turns.proofs.Shares.{other_of}

-- the only one
pub only_one : {A : Type 0} (x y : A) (k : ℕ) → get_elem? (x ∷ []) k ≡ some y → (k ≡ 0) × (x ≡ y)
only_one x y zero e = (refl, some-injective x y e)
only_one x y (suc k) e = absurd (some-ne-none y (sym e))

-- what holds of each unspent view
abbrev pub All : (ℕ → View → Type 0) → List View → Type 0
All F views = (pass : ℕ) (v : View) → get_elem? views pass ≡ some v → IsUnspent v → F pass v

pub all_set : (F : ℕ → View → Type 0) (views : List View) (pass : ℕ) (w : View) → (IsUnspent w → F pass w)
    → ((j : ℕ) (u : View) → j ≢ pass → get_elem? views j ≡ some u → IsUnspent u → F j u) → (j : ℕ) (u : View) → get_elem? (set views pass w) j ≡ some u → IsUnspent u → F j u
all_set F views pass w mine others j u at live =
    ⊎_elim (λ (x : (j ≡ pass) × (w ≡ u)). subst (λ (y : ℕ × View). IsUnspent y.1 → F y.0 y.1) (λ i. (sym x.0 i, x.1 i)) mine live) (λ (x : (j ≢ pass) × (get_elem? views j ≡ some u)). others j u x.0 x.1 live) (at_set views pass j w u at)

-- roles differ
abbrev is_fresh : Role → Bool
is_fresh Fresh = true
is_fresh Chief = false
is_fresh Worker = false
is_fresh Spent = false

abbrev is_chief : Role → Bool
is_chief Fresh = false
is_chief Chief = true
is_chief Worker = false
is_chief Spent = false

pub chief_not_fresh : (v : View) → first_view ≡ v → v.role ≡ Chief → ⊥
chief_not_fresh v e r = not_both (is_fresh v.role) (ap (λ (u : View). is_fresh u.role) (sym e)) (ap is_fresh r)

pub worker_not_chief : (r : Role) → r ≡ Worker → r ≡ Chief → ⊥
worker_not_chief r w c = not_both (is_chief r) (ap is_chief c) (ap is_chief w)

-- one that has the turn is not one that has none
abbrev is_none : Option Face → Bool
is_none None = true
is_none (Some face) = false

pub has_and_not : {P : Type 0} (turn : Option Face) (face : Face) → turn ≡ Some face → turn ≡ None → P
has_and_not turn face h n = absurd (not_both (is_none turn) (ap is_none n) (ap is_none h))

abbrev the_face : Option Face → Face → Face
the_face None face = face
the_face (Some face) other = face

pub same_face : (turn : Option Face) (a b : Face) → turn ≡ Some a → turn ≡ Some b → a ≡ b
same_face turn a b p q = ap (λ t. the_face t a) (sym p ∙ q)

-- the same place has the same view
pub same_view : (views : List View) (pass : ℕ) (v w : View) → get_elem? views pass ≡ some v → get_elem? views pass ≡ some w → v ≡ w
same_view views pass v w p q = some-injective v w (sym p ∙ q)

-- who has a script has it still where one view changes, but for its scripts that went
pub owned_set : (owner : ℕ → ℕ) (views : List View) (pass : ℕ) (v w : View) (script : ℕ) → get_elem? views pass ≡ some v → (has_share script v.shares ≡ true → IsUnspent w × (has_share script w.shares ≡ true))
    → HasOwner owner views script → HasOwner owner (set views pass w) script
owned_set owner views pass v w script at still h =
    at_or_else (owner script) pass
    (λ e. let s = still (subst (λ (u : View). has_share script u.shares ≡ true) (same_view views pass h.view v (subst (λ p. get_elem? views p ≡ some h.view) e h.there) at) h.has) in
    record {
      view = w;
      there = subst (λ p. get_elem? (set views pass w) p ≡ some w) (sym e) (set_here views pass w (at_within views v pass at));
      unspent = s.0;
      has = s.1;
    })
    (λ f. record {
      view = h.view;
      there = set_else views pass (owner script) w (other_of (owner script) pass f) ∙ h.there;
      unspent = h.unspent;
      has = h.has;
    })
