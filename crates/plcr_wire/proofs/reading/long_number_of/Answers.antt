-- Each group stands above those before it, and has room there.
use Rattle.std.proofs.Common.{◌≡◌, ◌∷◌, ℕ, suc, ◌+◌, ◌-◌, ◌*◌, length, refl, sym, ap, ◌∙◌, arith}
use Rattle.plcr_wire.specs.Reading.{number_at, varint_at}
use Rattle.plcr_wire.proofs.Groups.{plus, plus_start, none_left, last_group, next_group, tenth_group, tenth_bad, scale_more, group_room, group_fits, next_fits, tenth_fits}
use Rattle.plcr_wire.proofs.reading.long_number_of.Goals as goal

pub loop-group-init : goal.loop-group-init
loop-group-init c = record { scale = refl; small = omega arith; shorter = omega arith; read = plus_start (varint_at c.args.end (c.args.end - length c.args.bytes.now) 9 c.args.bytes.now) }

pub returns-in_default-clause-reads : goal.returns-in_default-clause-reads
unfolding number_at
returns-in_default-clause-reads c =
    let l = c.loop-group in
    let first : ℕ = c.args.end - length c.args.bytes.now in
    let none = c.in_default.ensures in
    sym l.invariant.read ∙ (ap (λ rest. plus l.value l.scale (varint_at c.args.end first (9 - l._group) rest)) none ∙ none_left l.value l.scale c.args.end first (9 - l._group))

pub overflow_mul-result : goal.overflow_mul-result
overflow_mul-result c = let l = c.loop-group in let fits = group_fits l.value l.scale c.in-Some.byte l._group l.invariant.scale c.loop-group-test.true l.invariant.small c.if-byte-lt-BASE.true in omega (arith, fits)

pub overflow_add-result : goal.overflow_add-result
overflow_add-result c = let l = c.loop-group in let fits = group_fits l.value l.scale c.in-Some.byte l._group l.invariant.scale c.loop-group-test.true l.invariant.small c.if-byte-lt-BASE.true in omega (arith, fits)

pub returns-then-byte-lt-BASE-clause-reads : goal.returns-then-byte-lt-BASE-clause-reads
unfolding number_at
returns-then-byte-lt-BASE-clause-reads c =
    let l = c.loop-group in
    let first : ℕ = c.args.end - length c.args.bytes.now in
    let k : ℕ = 9 - (l._group + 1) in
    let groups : 9 - l._group ≡ suc k = let h = c.loop-group-test.true in omega (arith, h) in
    let some = c.in-Some.ensures.0 in
    sym l.invariant.read
    ∙ (ap (λ rest. plus l.value l.scale (varint_at c.args.end first (9 - l._group) rest)) some
    ∙ (ap (λ n. plus l.value l.scale (varint_at c.args.end first n (c.in-Some.byte ∷ c.in-Some.after.now))) groups
    ∙ last_group l.value l.scale c.args.end first k c.in-Some.byte c.in-Some.after.now c.if-byte-lt-BASE.true))

pub returns-then-byte-lt-BASE-clause-shorter : goal.returns-then-byte-lt-BASE-clause-shorter
returns-then-byte-lt-BASE-clause-shorter c =
    let some = ap length c.in-Some.ensures.0 in let shorter = c.loop-group.invariant.shorter in omega (arith, some, shorter)

pub overflow_mul-value : goal.overflow_mul-value
overflow_mul-value c = let l = c.loop-group in let b = c.in-Some.ensures.1 in let fits = group_fits l.value l.scale (c.in-Some.byte - 128) l._group l.invariant.scale c.loop-group-test.true l.invariant.small (omega (arith, b)) in omega (arith, fits)

pub overflow_add-value : goal.overflow_add-value
overflow_add-value c = let l = c.loop-group in let b = c.in-Some.ensures.1 in let fits = group_fits l.value l.scale (c.in-Some.byte - 128) l._group l.invariant.scale c.loop-group-test.true l.invariant.small (omega (arith, b)) in omega (arith, fits)

pub overflow_mul-scale : goal.overflow_mul-scale
overflow_mul-scale c = let l = c.loop-group in let fits = next_fits l.scale l._group l.invariant.scale c.loop-group-test.true in omega (arith, fits)

pub loop-group-preserved : goal.loop-group-preserved
loop-group-preserved c =
    let l = c.loop-group in
    let first : ℕ = c.args.end - length c.args.bytes.now in
    let k : ℕ = 9 - (l._group + 1) in
    let groups : 9 - l._group ≡ suc k = let h = c.loop-group-test.true in omega (arith, h) in
    let some = c.in-Some.ensures.0 in
    let b = c.in-Some.ensures.1 in
    record {
      scale = ap (λ n. n * 128) l.invariant.scale ∙ sym (scale_more l._group);
      small = group_room l.value l.scale (c.in-Some.byte - 128) l.invariant.small (omega (arith, b));
      shorter = let len = ap length some in let shorter = l.invariant.shorter in omega (arith, len, shorter);
      read =
          sym (ap (λ rest. plus l.value l.scale (varint_at c.args.end first (9 - l._group) rest)) some
          ∙ (ap (λ n. plus l.value l.scale (varint_at c.args.end first n (c.in-Some.byte ∷ c.in-Some.after.now))) groups
          ∙ next_group l.value l.scale c.args.end first k c.in-Some.byte c.in-Some.after.now c.if-byte-lt-BASE.false))
          ∙ l.invariant.read;
    }

pub returns-in_default-first_of-clause-reads : goal.returns-in_default-first_of-clause-reads
unfolding number_at
returns-in_default-first_of-clause-reads c =
    let l = c.loop-group in
    let first : ℕ = c.args.end - length c.args.bytes.now in
    let none = c.in_default-first_of.ensures in
    sym l.invariant.read ∙ (ap (λ rest. plus l.value l.scale (varint_at c.args.end first (9 - l._group) rest)) none ∙ none_left l.value l.scale c.args.end first (9 - l._group))

pub overflow_add-result-then-byte-lt2 : goal.overflow_add-result-then-byte-lt2
overflow_add-result-then-byte-lt2 c = let l = c.loop-group in let fits = tenth_fits l.value l.scale c.in-Some-first_of.byte l._group l.invariant.scale l.auto._group-end l.invariant.small c.if-byte-lt2.true in omega (arith, fits)

pub returns-then-byte-lt2-clause-reads : goal.returns-then-byte-lt2-clause-reads
unfolding number_at
returns-then-byte-lt2-clause-reads c =
    let l = c.loop-group in
    let first : ℕ = c.args.end - length c.args.bytes.now in
    let groups : 9 - l._group ≡ 0 = let h = c.loop-group-test.false in omega (arith, h) in
    let some = c.in-Some-first_of.ensures.0 in
    sym l.invariant.read
    ∙ (ap (λ rest. plus l.value l.scale (varint_at c.args.end first (9 - l._group) rest)) some
    ∙ (ap (λ n. plus l.value l.scale (varint_at c.args.end first n (c.in-Some-first_of.byte ∷ c.in-Some-first_of.after.now))) groups
    ∙ tenth_group l.value l.scale c.args.end first c.in-Some-first_of.byte c.in-Some-first_of.after.now c.if-byte-lt2.true))

pub returns-then-byte-lt2-clause-shorter : goal.returns-then-byte-lt2-clause-shorter
returns-then-byte-lt2-clause-shorter c =
    let some = ap length c.in-Some-first_of.ensures.0 in let shorter = c.loop-group.invariant.shorter in omega (arith, some, shorter)

pub returns-else-byte-lt2-clause-reads : goal.returns-else-byte-lt2-clause-reads
unfolding number_at
returns-else-byte-lt2-clause-reads c =
    let l = c.loop-group in
    let first : ℕ = c.args.end - length c.args.bytes.now in
    let groups : 9 - l._group ≡ 0 = let h = c.loop-group-test.false in omega (arith, h) in
    let some = c.in-Some-first_of.ensures.0 in
    sym l.invariant.read
    ∙ (ap (λ rest. plus l.value l.scale (varint_at c.args.end first (9 - l._group) rest)) some
    ∙ (ap (λ n. plus l.value l.scale (varint_at c.args.end first n (c.in-Some-first_of.byte ∷ c.in-Some-first_of.after.now))) groups
    ∙ tenth_bad l.value l.scale c.args.end first c.in-Some-first_of.byte c.in-Some-first_of.after.now c.if-byte-lt2.false))
