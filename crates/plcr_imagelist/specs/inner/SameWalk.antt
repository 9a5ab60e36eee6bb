-- The laws of being the same walk, which the list of its images owes to its trait.
use Rattle.std.proofs.Common.{false, [], ◌∷◌, ◌++◌, append_assoc, refl, sym, ap, ◌∙◌, subst}
use Rattle.plcr_nodes.specs.Seeing.{AddsOthers}
use Rattle.plcr_nodes.proofs.Seeing.{adds_again}
use Rattle.plcr_imagelist.specs.Holds.{HoldState}
use Rattle.plcr_imagelist.specs.Walk.{IsSameWalk}

-- a walk is the same as itself, and as one that is the same as another that is
pub walk_itself : (s : HoldState) → IsSameWalk s s
walk_itself s = record {
  list = refl;
  sizes = (refl, refl);
  pass = refl;
  met = refl;
  named = refl;
  ended = refl;
  enter = refl;
  added =
      record { grows = ([], refl); owner = λ _. refl; own = λ _ _. refl };
  went =
      ([], refl);
  walking = λ w. w;
  ends = λ _ e. e;
}

pub walk_again : (a b c : HoldState) → IsSameWalk a b → IsSameWalk b c → IsSameWalk a c
walk_again a b c g h = record {
  list = h.list ∙ g.list;
  sizes = (h.sizes.0 ∙ g.sizes.0, h.sizes.1 ∙ g.sizes.1);
  pass = h.pass ∙ g.pass;
  met = h.met ∙ g.met;
  named = h.named ∙ g.named;
  ended = h.ended ∙ g.ended;
  enter = h.enter ∙ g.enter;
  added = adds_again false (a.walker.number ∷ []) a.walker.history b.walker.history c.walker.history
      g.added (subst (λ p. AddsOthers false (p ∷ []) b.walker.history c.walker.history) g.pass
      h.added);
  went = (
    h.went.0 ++ g.went.0,
    h.went.1 ∙ ap (λ l. h.went.0 ++ l) g.went.1 ∙ sym
        (append_assoc h.went.0 g.went.0 a.walker.names),
  );
  walking = λ w. h.walking (g.walking w);
  ends = λ n e. h.ends n (g.ends n e);
}
