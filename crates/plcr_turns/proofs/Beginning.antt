-- The rule of a queue that was just made, and after the first push.
use Rattle.std.proofs.Common.{◌≡◌, ◌≢◌, ℕ, zero, suc, ◌+◌, ◌<◌, inl, inr, ⊎_elim, true, false, List, [], ◌∷◌, ◌++◌, length, set, Option, Some, None, refl, sym, ap, ◌∙◌, subst, arith}
use mathlib.Core.Option.{some, some-ne-none}
use lib.ListN.{get_elem?}
use Rattle.crossbeam_queue.specs.Fifo.{Pushes, Learns}
use Rattle.plcr_turns.specs.declared.view.View.{View}
use Rattle.plcr_turns.specs.declared.turn.Part.{Part}
use Rattle.plcr_turns.specs.declared.view.Role.TheVariants.{Fresh, Chief}
use Rattle.plcr_turns.specs.Turns.{TurnState}
use Rattle.plcr_turns.specs.Views.{face_of, shares_from, has_share, first_view, opened_view, IsUnspent}
use Rattle.plcr_turns.specs.Rule.{Truth, Fits, IsInQueue, HasOwner, IsNew, IsGoing, IsKept, IsWhose, Belong}
use Rattle.plcr_turns.proofs.Shares.{prefix_itself, belong_if, from_apart, from_agrees, from_has}
use Rattle.plcr_turns.proofs.Views.{only_one, same_view}

pub begins : IsKept [] (first_view ∷ [])
begins = inl (record { empty = refl; alone = refl })

opened_truth : TurnState → Truth
opened_truth x = record { list = x.writer.table; nodes = x.writer.nodes; passes = x.writer.passes; face = face_of x; owner = λ _. 0; chief = 0 }

-- the first view is in no queue in which the turn goes round
pub fresh_is_new : {P : Type 0} (items : List TurnState) (views : List View) (port : ℕ) → IsGoing items views → get_elem? views port ≡ some first_view → P
fresh_is_new items views port g at = absurd ((g.fits port first_view at refl).whose)

opened_fits : (x : TurnState) → Fits (record { list = x.writer.table; nodes = x.writer.nodes; passes = x.writer.passes; face = face_of x; owner = λ _. 0; chief = 0 }) 0 (opened_view x)
opened_fits x = record {
  list = refl;
  sizes = (refl, refl);
  count = refl;
  whose = refl;
  scripts = belong_if (λ _. 0) 0 (shares_from 0 x.parts) (λ _ _. refl);
  apart = from_apart x.parts 0;
  seen = prefix_itself x.journal;
  joined = tt;
  progress = from_agrees [] x.parts 0 refl;
}

opened_going : (x : TurnState) → IsGoing (x ∷ []) (opened_view x ∷ [])
opened_going x = record {
  truth = record { list = x.writer.table; nodes = x.writer.nodes; passes = x.writer.passes; face = face_of x; owner = λ _. 0; chief = 0 };
  place = inl (record { turn = x; items_are = refl; list = refl; sizes = (refl, refl); face = refl; nobody = λ pass v at live. ap (λ (u : View). u.turn) (sym (only_one (opened_view x) v pass at).1) });
  fits = λ pass v at live.
      let o = only_one (opened_view x) v pass at in
      subst (λ (y : ℕ × View). Fits (record { list = x.writer.table; nodes = x.writer.nodes; passes = x.writer.passes; face = face_of x; owner = λ _. 0; chief = 0 }) y.0 y.1) (λ i. (sym o.0 i, o.1 i)) (opened_fits x);
  owned = λ script few. record { view = opened_view x; there = refl; unspent = refl; has = from_has x.parts 0 script (omega arith) (omega arith) };
}

pub opens : (n port : ℕ) (x : TurnState) → Pushes IsKept n port first_view x (λ w. w ≡ opened_view x)
opens n port x items views room kept at =
    ⊎_elim
    (λ (new : IsNew items views).
    let o = only_one first_view first_view port (subst (λ vs. get_elem? vs port ≡ some first_view) new.alone at) in (
      opened_view x,
      subst (λ (y : List TurnState × List View). IsKept (y.0 ++ x ∷ []) y.1)
          (λ i. (sym new.empty i, sym (ap (λ (p : ℕ). set views p (opened_view x)) o.0 ∙ ap (λ (vs : List View). set vs 0 (opened_view x)) new.alone) i))
          (inr (opened_going x)),
      refl,
    ))
    (λ (g : IsGoing items views). fresh_is_new items views port g at)
    kept

pub opens_empty : (port : ℕ) → Learns IsKept port first_view (λ items. items ≡ [])
opens_empty port items views kept at = ⊎_elim (λ (new : IsNew items views). new.empty) (λ (g : IsGoing items views). fresh_is_new items views port g at) kept
