use Rattle.std.proofs.Common.{◌≡◌, suc, ◌∷◌, [], ◌++◌, length, length-append, refl, sym, ap, ◌∙◌, subst, List, arith}
use Rattle.std.proofs.Math.Seq.{take-length}
use Rattle.plcr_run.specs.declared.slots.Slot.{Slot}
use Rattle.plcr_run.specs.inner.Slots.{IsOutSlot}
use Rattle.plcr_run.proofs.Meetings.{LastSlot, met_none, last_slot, met_one}
use Rattle.plcr_run.proofs.ending.meet_all.Goals as goal

pub loop-slot-init : goal.loop-slot-init
loop-slot-init c = record {
  met = met_none c.args.list.now c.args.writer c.args.slots.items (length c.args.slots.items) c.requires.tokens refl;
  left = sym (take-length c.args.slots.items);
  list = c.requires.tokens.list;
  rest = c.requires.tokens.going;
}

pub loop-slot-preserved : goal.loop-slot-preserved
loop-slot-preserved c =
    let items : c.loop-slot.rest.items ≡ c.pop.new.self.items ++ c.in-Some.slot ∷ [] = c.in-Some.ensures.items in
    let last : LastSlot c.args.slots.items c.pop.new.self.items c.in-Some.slot = last_slot c.args.slots.items c.pop.new.self.items c.in-Some.slot (length c.loop-slot.rest.items) (sym items ∙ c.loop-slot.invariant.left) in
    let long : length c.loop-slot.rest.items ≡ suc (length c.pop.new.self.items) = let l = ap (λ (xs : List Slot). length xs) items in let m = length-append c.pop.new.self.items (c.in-Some.slot ∷ []) in omega arith in
    record {
      met = met_one c.args.list.now c.args.writer c.args.slots.items (length c.pop.new.self.items) (length c.loop-slot.rest.items) c.loop-slot.writer c.in-Out.pass c.meet-writer.result c.requires.tokens long last.within (last.is ∙ c.in-Out.is) c.loop-slot.invariant.met c.meet-writer.ensures.met;
      left = last.left;
      list = c.meet-writer.ensures.list ∙ c.loop-slot.invariant.list;
      rest = c.meet-writer.ensures.rest;
    }

pub unreachable-requires : goal.unreachable-requires
unreachable-requires c =
    let items : c.loop-slot.rest.items ≡ c.pop.new.self.items ++ c.in-Some.slot ∷ [] = c.in-Some.ensures.items in
    let last : LastSlot c.args.slots.items c.pop.new.self.items c.in-Some.slot = last_slot c.args.slots.items c.pop.new.self.items c.in-Some.slot (length c.loop-slot.rest.items) (sym items ∙ c.loop-slot.invariant.left) in
    subst (λ (s : Slot). IsOutSlot s) (last.is ∙ c.in-In.is) (c.requires.out (length c.pop.new.self.items) last.within)

pub unreachable-requires-in-Away : goal.unreachable-requires-in-Away
unreachable-requires-in-Away c =
    let items : c.loop-slot.rest.items ≡ c.pop.new.self.items ++ c.in-Some.slot ∷ [] = c.in-Some.ensures.items in
    let last : LastSlot c.args.slots.items c.pop.new.self.items c.in-Some.slot = last_slot c.args.slots.items c.pop.new.self.items c.in-Some.slot (length c.loop-slot.rest.items) (sym items ∙ c.loop-slot.invariant.left) in
    subst (λ (s : Slot). IsOutSlot s) (last.is ∙ c.in-Away.is) (c.requires.out (length c.pop.new.self.items) last.within)
