-- How pens that remember failures go on from one piece to the next.
use Rattle.std.proofs.Common.{◌≡◌, ◌⊎◌, ℕ, ◌≤◌, ◌-◌, ◌^◌, min, true, List, [], ◌++◌, length, refl, sym, subst, ◌∙◌, inl, inr, append_assoc, append-nil, length-append, arith}
use Rattle.plcr_base.specs.Causes.{Rose}
use Rattle.plcr_base.proofs.Risen.{rose_first, rose_second}
use Rattle.plcr_wire.specs.Varint.{varint, tag}
use Rattle.plcr_wire.specs.Message.{number_field, bytes_field, message_head, field_spelling}
use Rattle.std.proofs.Common.{◌+◌}
use Rattle.plcr_wire.specs.Pen.{Pen, counter_pen, PenShows, Wrote}

-- nothing was written
pub wrote_none : (pen : Pen) → Wrote pen pen []
wrote_none pen = record {
  each = λ base given h. subst (PenShows pen.failed pen.page base) (sym (append-nil given)) h;
  later = omega arith;
  cause = λ h. inl h;
  sink = refl;
  mark = refl;
}

cause_twice : (old mid new : Pen) → (mid.failed ≡ true → (old.failed ≡ true) ⊎ Rose old.faults mid.faults) → old.faults ≤ mid.faults → mid.faults ≤ new.faults
    → (mid.failed ≡ true) ⊎ Rose mid.faults new.faults → (old.failed ≡ true) ⊎ Rose old.faults new.faults
cause_twice old mid new first a b (inr h) = inr (rose_second old.faults mid.faults new.faults a h)
cause_twice old mid new first a b (inl h) = elim (first h) [ inl already ↦ inl already | inr rose ↦ inr (rose_first old.faults mid.faults new.faults rose b) ]

-- one piece after the other
pub wrote_twice : (old mid new : Pen) (xs ys : List ℕ) → Wrote old mid xs → Wrote mid new ys → Wrote old new (xs ++ ys)
wrote_twice old mid new xs ys first second = record {
  each = λ base given h. subst (PenShows new.failed new.page base) (append_assoc given xs ys) (second.each base (given ++ xs) (first.each base given h));
  later = let a = first.later in let b = second.later in omega arith;
  cause = λ h. cause_twice old mid new first.cause first.later second.later (second.cause h);
  sink = second.sink ∙ first.sink;
  mark = second.mark ∙ first.mark;
}

-- a field of two parts
pub wrote_number : (old mid new : Pen) (field value : ℕ) → Wrote old mid (tag field 0) → Wrote mid new (varint value) → Wrote old new (field_spelling (number_field field value))
unfolding field_spelling
wrote_number old mid new field value first second = wrote_twice old mid new (tag field 0) (varint value) first second

-- a head, and the bytes that it announces
pub wrote_bytes : (old mid new : Pen) (field : ℕ) (bytes : List ℕ) → Wrote old mid (message_head field (length bytes)) → Wrote mid new bytes → Wrote old new (field_spelling (bytes_field field bytes))
unfolding field_spelling
wrote_bytes old mid new field bytes first second =
    subst (Wrote old new) (append_assoc (tag field 2) (varint (length bytes)) bytes) (wrote_twice old mid new (message_head field (length bytes)) bytes first second)

-- a counter that was raised by the length of these bytes, unless it stands at its greatest value
pub counter_wrote : (n m : ℕ) (bytes : List ℕ) → m ≡ min (n + length bytes) (2 ^ 64 - 1) → Wrote (counter_pen n) (counter_pen m) bytes
counter_wrote n m bytes e = record {
  each = λ base given h. let l = length-append given bytes in omega (arith, h, l);
  later = omega arith;
  cause = λ h. inl h;
  sink = refl;
  mark = refl;
}
