use Rattle.std.proofs.Common.{◌≡◌, ◌++◌, ◌∷◌, [], All, List, Some, map, reverse, sym, ap, ◌∙◌, subst}
use Rattle.std.proofs.lemmas.List.{reverse-reverse}
use Rattle.std.proofs.lemmas.List.Elements.{All-pop}
use Rattle.plcr_nodes.specs.Tokens.{PassState}
use Rattle.plcr_imagelist.specs.Holds.{WalkerState}
use Rattle.plcr_imagelist.specs.inner.Holding.{walker_state, IsReady}
use Rattle.plcr_imagelist.proofs.Opened.{all_reversed, taken_more}
use Rattle.plcr_imagelist.proofs.hold.Pass.open_all.Goals as goal

pub loop-pass-init : goal.loop-pass-init
loop-pass-init c =
    let turned = c.reverse.ensures.items in (
      subst (All (IsReady c.args.nodes)) (sym turned) (all_reversed c.args.nodes c.args.all.items c.requires),
      (λ i. c.in_ok-opened.ensures.items i ++ map walker_state (reverse (turned i))) ∙ ap (map walker_state) (reverse-reverse c.args.all.items),
    )

pub loop-pass-preserved : goal.loop-pass-preserved
loop-pass-preserved c =
    let before = c.loop-pass.invariant in
    let front : List PassState = c.pop.new.self.items in
    let opened : List WalkerState = c.loop-pass.opened.items in
    let pass = c.in-Some.pass in
    let more : c.push.new.self.items ≡ opened ++ walker_state pass ∷ [] = c.in_ok-push.ensures.items ∙ ap (λ (w : WalkerState). opened ++ w ∷ []) c.in_ok-open.ensures in (
      (All-pop (IsReady c.args.nodes) c.loop-pass.rest.items front (Some pass) c.in-Some.ensures.items before.0).0,
      ap (λ (xs : List WalkerState). xs ++ map walker_state (reverse front)) more
          ∙ taken_more opened c.loop-pass.rest.items front pass (map walker_state c.args.all.items) c.in-Some.ensures.items before.1,
    )
