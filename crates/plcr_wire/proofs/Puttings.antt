-- How putting bytes one after the other goes on, ends and is cut short.
use Rattle.std.proofs.Common.{◌≡◌, ℕ, ◌<◌, ◌≤◌, List, [], ◌∷◌, ◌++◌, length, refl, sym, ap, subst, ◌∙◌, append_assoc, append-nil, arith}
use Rattle.std.proofs.Common.{◌+◌, ◌/◌, ◌%◌}
use Rattle.plcr_wire.specs.Varint.{varint}
use Rattle.plcr_wire.proofs.Varints.{varint_small, varint_large, varint_some}
use Rattle.plcr_wire.specs.Pen.{Pen, Shows, Puts, PutsProperFront}

-- a front of the bytes was put, and the rest is left
pub record PutsUpTo (old new : Pen) (bytes rest : List ℕ) : Type 0 where
  pub front : List ℕ
  pub parts : bytes ≡ front ++ rest
  pub put : Puts old new front

-- nothing was put
pub puts_none : (pen : Pen) → Puts pen pen []
puts_none pen = record {
  each = λ base given h. subst (Shows pen.page base) (sym (append-nil given)) h;
  later = omega arith;
  failed = refl;
  sink = refl;
  mark = refl;
}

-- one piece after the other
pub puts_twice : (old mid new : Pen) (xs ys : List ℕ) → Puts old mid xs → Puts mid new ys → Puts old new (xs ++ ys)
puts_twice old mid new xs ys first second = record {
  each = λ base given h. subst (Shows new.page base) (append_assoc given xs ys) (second.each base (given ++ xs) (first.each base given h));
  later = let a = first.later in let b = second.later in omega arith;
  failed = second.failed ∙ first.failed;
  sink = second.sink ∙ first.sink;
  mark = second.mark ∙ first.mark;
}

pub puts_start : (pen : Pen) (bytes : List ℕ) → PutsUpTo pen pen bytes bytes
puts_start pen bytes = record { front = []; parts = refl; put = puts_none pen }

-- one more piece of what is left
pub puts_more : (old mid new : Pen) (bytes rest piece left : List ℕ) → PutsUpTo old mid bytes rest → Puts mid new piece → rest ≡ piece ++ left → PutsUpTo old new bytes left
puts_more old mid new bytes rest piece left before more e = record {
  front = before.front ++ piece;
  parts = before.parts ∙ ap (λ l. before.front ++ l) e ∙ sym (append_assoc before.front piece left);
  put = puts_twice old mid new before.front piece before.put more;
}

-- all that was left
pub puts_end : (old mid new : Pen) (bytes rest : List ℕ) → PutsUpTo old mid bytes rest → Puts mid new rest → Puts old new bytes
puts_end old mid new bytes rest before more = subst (Puts old new) (sym before.parts) (puts_twice old mid new before.front rest before.put more)

-- nothing more, where something was left
pub puts_err : (old mid new : Pen) (bytes rest : List ℕ) → PutsUpTo old mid bytes rest → 0 < length rest → Puts mid new [] → PutsProperFront old new bytes
puts_err old mid new bytes rest before left none = record {
  front = before.front;
  rest = rest;
  parts = before.parts;
  left = left;
  put = subst (Puts old new) (append-nil before.front) (puts_twice old mid new before.front [] before.put none);
}

-- one more piece of what is left, of which a part may wait, and then does so no more
pub piece_more : (old mid held new : Pen) (bytes rest piece left : List ℕ) → PutsUpTo old mid bytes rest → rest ≡ piece ++ left → Puts mid held piece → Puts held new [] → PutsUpTo old new bytes left
piece_more old mid held new bytes rest piece left before e more passed =
    puts_more old mid new bytes rest piece left before (subst (Puts mid new) (append-nil piece) (puts_twice mid held new piece [] more passed)) e

-- one more piece, and no more, where something is left
pub piece_cut : (old mid held new : Pen) (bytes rest piece left : List ℕ) → PutsUpTo old mid bytes rest → rest ≡ piece ++ left → 0 < length left → Puts mid held piece → Puts held new [] → PutsProperFront old new bytes
piece_cut old mid held new bytes rest piece left before e some more passed =
    puts_err old held new bytes left (puts_more old mid held bytes rest piece left before more e) some passed

-- one more group of a varint
pub varint_more : (old mid new : Pen) (bytes : List ℕ) (rest : ℕ) → PutsUpTo old mid bytes (varint rest) → Puts mid new ((rest % 128 + 128) ∷ []) → 128 ≤ rest → PutsUpTo old new bytes (varint (rest / 128))
varint_more old mid new bytes rest before more large = puts_more old mid new bytes (varint rest) ((rest % 128 + 128) ∷ []) (varint (rest / 128)) before more (varint_large rest large)

-- the last group of a varint
pub varint_last : (old mid new : Pen) (bytes : List ℕ) (rest : ℕ) → PutsUpTo old mid bytes (varint rest) → Puts mid new (rest ∷ []) → rest < 128 → Puts old new bytes
varint_last old mid new bytes rest before more small = puts_end old mid new bytes (varint rest) before (let e = varint_small rest small in rw e more)

-- a group that was not put
pub varint_cut : (old mid new : Pen) (bytes : List ℕ) (rest : ℕ) → PutsUpTo old mid bytes (varint rest) → Puts mid new [] → PutsProperFront old new bytes
varint_cut old mid new bytes rest before none = puts_err old mid new bytes (varint rest) before (varint_some rest) none
