use Rattle.std.proofs.Common.{◌≡◌, ℕ, ◌+◌, ◌<◌, ◌∙◌, List, ◌∷◌, [], length, All, slice_get, slice_index_or, sym, ap, subst, add-one, refl, arith}
use Rattle.std.proofs.lemmas.List.{length-map, length-append}
use Rattle.crossbeam_queue.specs.Passes.{view}
use Rattle.plcr_imagelist.specs.Holds.{WalkerState}
use Rattle.plcr_script.specs.Scripts.{ScriptValue}
use Rattle.plcr_script.specs.Reading.{files_of}
use Rattle.plcr_turns.specs.declared.view.View.{View}
use Rattle.plcr_turns.specs.Gathering.{HasHanded}
use Rattle.plcr_turns.specs.Views.{left_view}
use Rattle.plcr_turns.proofs.Fronts.{all_front, all_last, all_more, all_none}
use Rattle.plcr_turns.proofs.Gathered.{hands_next}
use Rattle.plcr_workers.specs.Asking.{change_lines}
use Rattle.plcr_workers.specs.inner.Hired.{SoFar, IsHired, AreNew, IsNew, AreFromTheLast, totals_in, AreUntouched}
use Rattle.plcr_workers.proofs.Hires.{fresh_so_far, some_value}
use Rattle.plcr_workers.proofs.Crews.{each_front, each_last, each_more, all_reversed}
use Rattle.plcr_workers.proofs.Joined.{element}
use Rattle.plcr_workers.proofs.Reported.{get_or_any}
use Rattle.plcr_workers.proofs.crew.hire.Goals as goal

totals_count : (scripts : List ScriptValue) → length (totals_in scripts) ≡ length scripts
totals_count scripts = length-map scripts (λ (script : ScriptValue). length (change_lines script.statements))

-- a script that was looked up is as long as that at its place
script_long : (scripts : List ScriptValue) (n : ℕ) (found there : ScriptValue) → found ≡ slice_index_or scripts n found → slice_index_or scripts n there ≡ there → n < length scripts → length found.statements ≡ length there.statements
script_long scripts n found there is at less = ap (λ (s : ScriptValue). length s.statements) (is ∙ get_or_any scripts n found there less ∙ at)

-- and writes as many files
files_long : (scripts : List ScriptValue) (n : ℕ) (found there : ScriptValue) → found ≡ slice_index_or scripts n found → slice_index_or scripts n there ≡ there → n < length scripts → length (files_of found.statements) ≡ length (files_of there.statements)
files_long scripts n found there is at less = ap (λ (s : ScriptValue). length (files_of s.statements)) (is ∙ get_or_any scripts n found there less ∙ at)

pub hand_out-turns-requires-clause-script : goal.hand_out-turns-requires-clause-script
hand_out-turns-requires-clause-script g c =
    let many = totals_count c.args.scripts.now in
    let less = c.loop-script-test.true in
    (hands_next c.loop-script.script c.args.list.now (totals_in c.args.scripts.now) (view c.loop-script.chief) c.loop-script.invariant.handed (omega (arith, many, less))).0

pub loop-script-init : goal.loop-script-init
loop-script-init g c = record {
  same = (refl, refl, refl);
  handed = c.requires.handed;
  sizes = (refl, refl);
  images_are = subst (λ n. AreFromTheLast n c.args.list.now c.from_the_last-images.result.items) c.requires.count c.from_the_last-images.ensures.order;
  many = (let n = c.from_the_last-images.ensures.count in let m = c.requires.count in omega (arith, n, m));
  untouched = subst AreUntouched (sym c.from_the_last-images.ensures.items) (all_reversed (λ (i : WalkerState). i.history ≡ []) c.args.images.items c.requires.untouched);
  hired = subst (All (λ w. IsHired c.args.queue.now.table.shared.table_id c.args.list.now c.args.scripts.now w)) (sym c.in_ok-workers.ensures.items) (all_none (λ w. IsHired c.args.queue.now.table.shared.table_id c.args.list.now c.args.scripts.now w));
  new = subst (AreNew c.args.scripts.now) (sym c.in_ok-workers.ensures.items) (λ place other less. absurd (omega (arith, less)));
  count = c.in_ok-workers.ensures.len;
  room = c.in_ok-workers.ensures.capacity;
}

pub loop-script-preserved : goal.loop-script-preserved
loop-script-preserved g c =
    let n = c.loop-script.script in
    let less = c.loop-script-test.true in
    let many = totals_count c.args.scripts.now in
    let next = hands_next n c.args.list.now (totals_in c.args.scripts.now) (view c.loop-script.chief) c.loop-script.invariant.handed (omega (arith, many, less)) in
    let same = c.hand_out-turns.ensures.queue.0 in
    let was = c.loop-script.invariant.same in
    let script = element c.args.scripts.now n less in
    let images = subst (AreFromTheLast (length c.args.scripts.now) c.args.list.now) c.in-Some.ensures.items c.loop-script.invariant.images_are in
    let image = each_last (λ k (i : WalkerState). (i.table ≡ c.args.list.now) × (i.number + k + 1 ≡ length c.args.scripts.now)) c.pop.new.self.items c.in-Some.image images in
    let untouched = subst AreUntouched c.in-Some.ensures.items c.loop-script.invariant.untouched in
    let long = ap length c.in-Some.ensures.items ∙ length-append c.pop.new.self.items (c.in-Some.image ∷ []) in
    let left = c.loop-script.invariant.many in
    let number : c.in-Some.image.number ≡ n = (let e = image.1 in omega (arith, e, long, left)) in
    let so_far : SoFar n c.args.list.now script.0.statements 0 (view c.hand_out-turns.result) =
    subst (SoFar n c.args.list.now script.0.statements 0) (sym c.hand_out-turns.ensures.right) (fresh_so_far c.args.scripts.now n c.args.list.now _ script.0 next.2.0 script.2 next.2.1 next.2.2) in
    let counted = c.loop-script.invariant.count in
    let few = c.requires.few in
    let new_count : length c.loop-script.workers.items ≡ n = (let o = c.loop-script.workers.ok.0 in omega (arith, o, counted)) in
    record {
      same = (same.0 ∙ was.0, same.1 ∙ was.1, same.2 ∙ was.2);
      handed = subst (λ (v : View). HasHanded (n + 1) c.args.list.now (totals_in c.args.scripts.now) v) (sym c.hand_out-turns.ensures.left)
          (subst (λ m. HasHanded m c.args.list.now (totals_in c.args.scripts.now) (left_view (view c.loop-script.chief))) (sym (add-one n)) next.1);
      sizes = (
        ap (λ (v : View). v.nodes) c.hand_out-turns.ensures.left ∙ c.loop-script.invariant.sizes.0,
        ap (λ (v : View). v.passes) c.hand_out-turns.ensures.left ∙ c.loop-script.invariant.sizes.1,
      );
      images_are = each_front (λ k (i : WalkerState). (i.table ≡ c.args.list.now) × (i.number + k + 1 ≡ length c.args.scripts.now)) c.pop.new.self.items (c.in-Some.image ∷ []) images;
      many = omega (arith, long, left);
      untouched = all_front (λ (i : WalkerState). i.history ≡ []) c.pop.new.self.items (c.in-Some.image ∷ []) untouched;
      hired = subst (All (λ w. IsHired c.args.queue.now.table.shared.table_id c.args.list.now c.args.scripts.now w)) (sym c.push_reserved.ensures.items)
          (all_more (λ w. IsHired c.args.queue.now.table.shared.table_id c.args.list.now c.args.scripts.now w) c.loop-script.workers.items _ c.loop-script.invariant.hired (record {
            script = script.0;
            stands = script.2;
            ready = record {
              begins = record {
                pass = c.hand_out-turns.ensures.queue.1;
                few = omega (arith, less, few);
                so_far = so_far;
                room = (let r = c.in_ok-lines.ensures.capacity in
                    let l = script_long c.args.scripts.now n c.index-scripts-script-in-loop-script.result script.0 c.index-scripts-script-in-loop-script.is script.1 less in
                    let m = c.len.ensures in omega (arith, r, l, m));
                none = c.in_ok-lines.ensures.len;
              };
              image = record { image = c.in-Some.image; held = refl; walks = image.0; number = number };
            };
          }));
      new = subst (AreNew c.args.scripts.now) (sym c.push_reserved.ensures.items)
          (each_more (λ place w. IsNew c.args.scripts.now place w) c.loop-script.workers.items _ c.loop-script.invariant.new (record {
            number = sym new_count;
            none = c.in_ok-drafts.ensures.len;
            room = λ s at. (let r = c.in_ok-drafts.ensures.capacity in
                let same = ap (λ (x : ScriptValue). length (files_of x.statements)) (some_value (sym at ∙ ap (slice_get c.args.scripts.now) new_count ∙ script.2)) in
                let l = files_long c.args.scripts.now n c.index-scripts-script.result script.0 c.index-scripts-script.is script.1 less in
                let m = c.reports_of.ensures in omega (arith, r, l, m, same));
            journal = ap (λ (v : View). v.journal) c.hand_out-turns.ensures.right ∙ next.2.2.journal;
            untouched = λ i e. (ap (λ (x : WalkerState). x.history) (some_value (sym e)) ∙ all_last (λ (x : WalkerState). x.history ≡ []) c.pop.new.self.items c.in-Some.image untouched);
          }));
      count = (let m = c.push_reserved.ensures.len in omega (arith, m, counted));
      room = (let m = c.push_reserved.ensures.capacity in let r = c.loop-script.invariant.room in omega (arith, m, r));
    }
