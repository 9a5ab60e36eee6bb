use Rattle.std.proofs.Common.{◌≡◌, ◌∷◌, [], ◌++◌, All, List, sym, ap, ◌∙◌, subst, append-nil, append_assoc}
use Rattle.plcr_imagelist.specs.Holds.{WalkerState}
use Rattle.plcr_turns.proofs.Fronts.{all_front, all_last}
use Rattle.plcr_workers.proofs.Meetings.{met_none, met_one}
use Rattle.plcr_workers.proofs.opening.meet_all.Goals as goal

pub loop-image-init : goal.loop-image-init
loop-image-init c = record {
  gone = [];
  parts = sym (append-nil c.args.images.items);
  met = met_none c.args.writer;
  list = c.requires.list;
  rest = c.requires.rest;
}

pub loop-image-preserved : goal.loop-image-preserved
loop-image-preserved c =
    let i = c.loop-image.invariant in
    let items : c.loop-image.images.items ≡ c.pop.new.self.items ++ c.in-Some.image ∷ [] = c.in-Some.ensures.items in
    record {
      gone = c.in-Some.image ∷ i.gone;
      parts = i.parts ∙ ap (λ (l : List WalkerState). l ++ i.gone) items ∙ append_assoc c.pop.new.self.items (c.in-Some.image ∷ []) i.gone;
      met = met_one i.gone c.in-Some.image c.args.writer c.loop-image.writer c.meet-writer.result i.rest i.met c.meet-writer.ensures.met;
      list = c.meet-writer.ensures.list ∙ i.list;
      rest = c.meet-writer.ensures.rest;
    }

pub meet-writer-requires-clause-pass : goal.meet-writer-requires-clause-pass
meet-writer-requires-clause-pass c =
    let i = c.loop-image.invariant in
    let items : c.loop-image.images.items ≡ c.pop.new.self.items ++ c.in-Some.image ∷ [] = c.in-Some.ensures.items in
    let P : WalkerState → Type 0 = λ w. w.table ≡ c.args.list.now in
    all_last P c.pop.new.self.items c.in-Some.image
    (subst (All P) items (all_front P c.loop-image.images.items i.gone (subst (All P) i.parts c.requires.images)))
