-- How a text is written run by run.
use Rattle.std.proofs.Common.{◌≡◌, ℕ, zero, suc, ◌+◌, ◌<◌, List, [], ◌∷◌, ◌++◌, length, take, get_or, Bool, true, cond, refl, sym, ap, subst, ◌∙◌, append_assoc, append-nil, add-one, arith}
use Rattle.plcr_wire.specs.Pen.{Pen, Wrote}
use Rattle.plcr_wire.proofs.Writing.{wrote_none, wrote_twice}
use Rattle.plcr_decode.specs.Text.{all_from, byte_text, is_plain, hex}
use Rattle.plcr_decode.specs.inner.Escapes.{escaped, EscapesUpTo}

-- a byte's text is the same at each place
any_place : (n m : ℕ) (xs : List ℕ) → all_from (λ n b. byte_text b) n xs ≡ all_from (λ n b. byte_text b) m xs
any_place n m [] = refl
any_place n m (x ∷ xs) = ap (λ l. byte_text x ++ l) (any_place (n + 1) (m + 1) xs)

pub escaped_first : (x : ℕ) (xs : List ℕ) → escaped (x ∷ xs) ≡ byte_text x ++ escaped xs
escaped_first x xs = ap (λ l. byte_text x ++ l) (any_place (0 + 1) 0 xs)

pub escaped_both : (xs ys : List ℕ) → escaped (xs ++ ys) ≡ escaped xs ++ escaped ys
escaped_both [] ys = refl
escaped_both (x ∷ xs) ys =
    escaped_first x (xs ++ ys) ∙ ap (λ l. byte_text x ++ l) (escaped_both xs ys) ∙ sym (append_assoc (byte_text x) (escaped xs) (escaped ys))
    ∙ ap (λ l. l ++ escaped ys) (sym (escaped_first x xs))

plain_byte : (b : ℕ) → is_plain b ≡ true → byte_text b ≡ b ∷ []
unfolding byte_text
plain_byte b h = ap (λ (c : Bool). cond c (b ∷ []) (92 ∷ 120 ∷ hex 2 b)) h

take_more : (xs : List ℕ) (i : ℕ) → i < length xs → take (suc i) xs ≡ take i xs ++ get_or xs i 0 ∷ []
take_more [] i h = absurd (omega arith)
take_more (x ∷ xs) zero h = refl
take_more (x ∷ xs) (suc i) h = ap (λ l. x ∷ l) (take_more xs i (omega arith))

-- one more byte that stands as it is
pub plain_more : (xs : List ℕ) (i : ℕ) → i < length xs → escaped (take i xs) ≡ take i xs → is_plain (get_or xs i 0) ≡ true → escaped (take (i + 1) xs) ≡ take (i + 1) xs
plain_more xs i h before plain =
    rw add-one
    (ap escaped (take_more xs i h) ∙ escaped_both (take i xs) (get_or xs i 0 ∷ []) ∙ ap (λ l. l ++ escaped (get_or xs i 0 ∷ [])) before
    ∙ ap (λ l. take i xs ++ l) (escaped_first (get_or xs i 0) [] ∙ append-nil (byte_text (get_or xs i 0)) ∙ plain_byte (get_or xs i 0) plain) ∙ sym (take_more xs i h))

-- nothing was written
pub escapes_none : (pen : Pen) (text : List ℕ) → EscapesUpTo pen pen text text
escapes_none pen text = record { front = []; parts = refl; wrote = wrote_none pen }

-- one run after the others
pub escapes_more : (old mid new : Pen) (text rest left : List ℕ) → EscapesUpTo old mid text rest → EscapesUpTo mid new rest left → EscapesUpTo old new text left
escapes_more old mid new text rest left first second = record {
  front = first.front ++ second.front;
  parts = first.parts ∙ ap (λ l. first.front ++ l) second.parts ∙ sym (append_assoc first.front second.front (escaped left));
  wrote = wrote_twice old mid new first.front second.front first.wrote second.wrote;
}

-- no run is left
pub escapes_all : (old new : Pen) (text rest : List ℕ) → rest ≡ [] → EscapesUpTo old new text rest → Wrote old new (escaped text)
escapes_all old new text [] none all = subst (Wrote old new) (sym (all.parts ∙ append-nil all.front)) all.wrote
escapes_all old new text (x ∷ rest) none all = absurd (cc)

-- a run and no more
pub escapes_run : (old new : Pen) (text run rest : List ℕ) → text ≡ run ++ rest → escaped run ≡ run → Wrote old new run → EscapesUpTo old new text rest
escapes_run old new text run rest parts plain wrote = record {
  front = run;
  parts = ap escaped parts ∙ escaped_both run rest ∙ ap (λ l. l ++ escaped rest) plain;
  wrote = wrote;
}

-- a run and the byte after it
pub escapes_byte : (old mid new : Pen) (text run after rest : List ℕ) (b : ℕ) → text ≡ run ++ after → escaped run ≡ run → after ≡ b ∷ rest → Wrote old mid run → Wrote mid new (byte_text b) → EscapesUpTo old new text rest
escapes_byte old mid new text run after rest b parts plain first wrote more = record {
  front = run ++ byte_text b;
  parts = ap escaped parts ∙ escaped_both run after ∙ ap (λ l. l ++ escaped after) plain ∙ ap (λ l. run ++ escaped l) first ∙ ap (λ l. run ++ l) (escaped_first b rest) ∙ sym (append_assoc run (byte_text b) (escaped rest));
  wrote = wrote_twice old mid new run (byte_text b) wrote more;
}
