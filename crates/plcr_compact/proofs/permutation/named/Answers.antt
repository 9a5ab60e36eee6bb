use Rattle.std.proofs.Common.{◌∙◌, ◌+◌, ℕ, length, ap, sym, arith}
use Rattle.std.proofs.lemmas.List.{length_push}
use Rattle.plcr_compact.proofs.Naming.{named_more, named_past}
use Rattle.plcr_compact.proofs.permutation.named.Goals as goal

pub returns-then-place-len : goal.returns-then-place-len
returns-then-place-len c =
    let l = c.loop-digit in
    sym (named_past l.found.items l.left.items c.args.digits.now l.digit-index c.loop-digit-test.true (omega (arith, c.len.ensures.value))) ∙ l.invariant.rest

pub loop-digit-preserved : goal.loop-digit-preserved
loop-digit-preserved c =
    let l = c.loop-digit in
    record {
      size = ap length c.push.ensures.items ∙ length_push l.found.items c.remove.result ∙ ap (λ (n : ℕ). n + 1) l.invariant.size;
      rest =
          rw (c.push.ensures.items, c.remove.ensures.items)
          (sym (named_more l.found.items l.left.items c.args.digits.now l.digit-index c.remove.result c.loop-digit-test.true (omega (arith, c.len.ensures.value)) c.remove.ensures.value) ∙ l.invariant.rest);
    }
