use Rattle.std.proofs.Common.{◌≡◌, ◌+◌, ◌-◌, List, map, take, drop, sym, subst, ◌∙◌, arith, ℕ, Option}
use Rattle.std.specs.List.Sorted.{IsNonDecreasing}
use Rattle.std.proofs.lemmas.List.{length-drop, length-take-le}
use borrow.Rule.Slice.PartMut.{put_mid}
use Rattle.plcr_symbols.specs.declared.symbol.SymbolAt.{SymbolAt}
use Rattle.plcr_encode.specs.inner.FrameRows.{symbol_by}
use Rattle.plcr_encode.specs.inner.Lookups.{answer}
use Rattle.plcr_encode.proofs.Runs.{answers_all, answers_more, replaced_length, rest_answers, rest_run, run_addresses, run_inside, run_rises, run_room, no_lookup}
use Rattle.plcr_encode.proofs.answers.answer_all.Goals as goal

pub answer_run-requires : goal.answer_run-requires
answer_run-requires g c =
    let lookups = c.args.lookups.now in
    let addresses = c.args.addresses.now in
    let done = c.loop-done.done in
    let n = c.run_len.result in
    let k : ℕ = done + n - done in
    let same : k ≡ n = omega arith in
    let inside = run_inside lookups done n c.loop-done.invariant.within c.run_len.ensures.within in
    let rises = run_rises (drop done lookups) n inside.0 (rest_run lookups done n c.run_len.ensures.run) in
    record {
      within = rw c.loop-done.invariant.same (c.requires.within done no_lookup c.loop-done-test.true);
      rising = subst (λ (xs : List ℕ). IsNonDecreasing xs) (sym (run_addresses lookups addresses done n k c.requires.addresses same)) rises;
      room = run_room lookups addresses c.loop-done.found done k c.requires.addresses c.loop-done.invariant.room;
    }

pub loop-done-preserved : goal.loop-done-preserved
loop-done-preserved g c =
    let lookups = c.args.lookups.now in
    let addresses = c.args.addresses.now in
    let listed = g.I.Images.images c.args.images.now in
    let symbol : Option ℕ → ℕ → Option SymbolAt = symbol_by c.args.memory.now c.args.arch listed in
    let done = c.loop-done.done in
    let n = c.run_len.result in
    let k : ℕ = done + n - done in
    let same : k ≡ n = omega arith in
    let inside = run_inside lookups done n c.loop-done.invariant.within c.run_len.ensures.within in
    let run = rest_run lookups done n c.run_len.ensures.run in
    let more = c.answer_run.new.found in
    let found = rw c.loop-done.invariant.same at c.answer_run.ensures.found in
    let taken = length-take-le k (drop done c.loop-done.found) (omega (arith, length-drop done c.loop-done.found, inside.1, c.loop-done.invariant.room)) in
    let answers = rest_answers symbol lookups addresses more done n k c.requires.addresses same inside.0 run found in
    record {
      within = inside.1;
      room = replaced_length c.loop-done.found more done k (omega (arith, inside.1, c.loop-done.invariant.room)) (omega (arith, c.answer_run.auto.found, taken)) ∙ c.loop-done.invariant.room;
      answers = subst (λ (i : ℕ). take (done + n) (put_mid done i c.loop-done.found more) ≡ map (answer symbol) (take (done + n) lookups)) (sym same)
          (answers_more symbol lookups c.loop-done.found more done n inside.1 c.loop-done.invariant.room c.loop-done.invariant.answers answers);
      same = c.answer_run.ensures.same ∙ c.loop-done.invariant.same;
      still = c.answer_run.ensures.index ∙ c.loop-done.invariant.still;
      follows = g.met.I.Images.follows_on _ _ _ c.loop-done.invariant.follows c.answer_run.ensures.follows;
    }

pub returns-clause-found : goal.returns-clause-found
returns-clause-found g c =
    answers_all (symbol_by c.args.memory.now c.args.arch (g.I.Images.images c.args.images.now)) c.args.lookups.now c.loop-done.found c.loop-done.done
    c.loop-done-test.false c.loop-done.invariant.room c.loop-done.invariant.answers
