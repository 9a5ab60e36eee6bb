-- What the name of a symbol is.
use Rattle.std.proofs.Common.{◌≡◌, ◌<◌, ℕ, zero, suc, ◌+◌, min, false, is_some, nat_eq, List, Option, Some, None, refl, sym, ap, subst, ◌∙◌, arith}
use Rattle.std.specs.Prelude.{◌==◌, if◌then◌else◌, option_map, IsSome}
use Rattle.std.specs.Option.{option_and_then}
use Rattle.plcr_memory.specs.Regions.{Contents, byte_at, bytes_at}
use Rattle.plcr_memory.proofs.Ranges.{all_mapped}
use Rattle.plcr_macho.specs.declared.image.Symtab.{Symtab}
use Rattle.plcr_macho.specs.declared.image.Image.{Image}
use Rattle.plcr_symbols.specs.declared.limits.TheConstants.{SYMBOL_NAME_BYTES}
use Rattle.plcr_symbols.specs.declared.symbol.SymbolAt.{SymbolAt}
use Rattle.plcr_symbols.specs.Symbols.{address_in, named, said_by, zero_within}
use Rattle.plcr_symbols.specs.Laws.{IsName}
use Rattle.plcr_symbols.proofs.Zeros.{eq_not, passed_by}

-- so many bytes that aren't zero, and then a zero
pub record Ends (m : Contents) (a z : ℕ) : Type 0 where
  pub bytes : (k : ℕ) → k < z → (b : ℕ) × (byte_at m (a + k) ≡ Some b) × (0 < b)
  pub ends : byte_at m (a + z) ≡ Some 0

ends_here : (m : Contents) (a : ℕ) → byte_at m a ≡ Some 0 → Ends m a 0
ends_here m a h =
    let here : a ≡ a + 0 = omega arith in
    record { bytes = λ k lt. absurd (omega (arith, lt)); ends = subst (λ (x : ℕ). byte_at m x ≡ Some 0) here h }

ends_more : (m : Contents) (a z b : ℕ) → byte_at m a ≡ Some (suc b) → Ends m (a + 1) z → Ends m a (suc z)
ends_more m a z b h more =
    let place : (a + 1) + z ≡ a + suc z = omega arith in
    record { bytes = all; ends = subst (λ (x : ℕ). byte_at m x ≡ Some 0) place more.ends }
  where
    all : (k : ℕ) → k < suc z → (c : ℕ) × (byte_at m (a + k) ≡ Some c) × (0 < c)
    all zero lt = let here : a ≡ a + 0 = omega arith in (suc b, subst (λ (x : ℕ). byte_at m x ≡ Some (suc b)) here h, omega arith)
    all (suc k) lt =
        let next = more.bytes k (omega (arith, lt)) in
        let there : (a + 1) + k ≡ a + suc k = omega arith in
        (next.0, subst (λ (x : ℕ). byte_at m x ≡ Some next.0) there next.1, next.2)

-- the first byte, which is zero, or isn't and stands before others
one_found : (m : Contents) (n a z : ℕ) (r : Option ℕ) (b : ℕ) → byte_at m a ≡ Some (suc b) → ((y : ℕ) → r ≡ Some y → (y < n) × Ends m (a + 1) y) → option_map suc r ≡ Some z → (z < suc n) × Ends m a z
one_found m n a z None b is more h = cc
one_found m n a z (Some y) b is more h =
    let same : suc y ≡ z = cc in
    let rest = more y refl in
    (omega (arith, rest.0, same), subst (λ (x : ℕ). Ends m a x) same (ends_more m a y b is rest.1))

first_found : (m : Contents) (n a z : ℕ) (r o : Option ℕ) → byte_at m a ≡ o → ((y : ℕ) → r ≡ Some y → (y < n) × Ends m (a + 1) y)
    → option_and_then (λ b. if b == 0 then Some 0 else option_map suc r) o ≡ Some z → (z < suc n) × Ends m a z
first_found m n a z r None is more h = cc
first_found m n a z r (Some zero) is more h =
    let same : 0 ≡ z = cc in
    (omega (arith, same), subst (λ (x : ℕ). Ends m a x) same (ends_here m a is))
first_found m n a z r (Some (suc b)) is more h =
    let other : nat_eq (suc b) 0 ≡ false = eq_not (suc b) 0 (λ e. cc) in
    one_found m n a z r b is more (rw other at h)

pub zero_found : (m : Contents) (n a z : ℕ) → zero_within m n a ≡ Some z → (z < n) × Ends m a z
zero_found m zero a z h = cc
zero_found m (suc n) a z h = first_found m n a z (zero_within m n (a + 1)) (byte_at m a) refl (λ y e. zero_found m n (a + 1) y e) h

pub zero_only : (m : Contents) (n a z : ℕ) → z < n → Ends m a z → zero_within m n a ≡ Some z
zero_only m zero a z lt h = absurd (omega (arith, lt))
zero_only m (suc n) a zero lt h =
    let here : a + 0 ≡ a = omega arith in
    let is : byte_at m a ≡ Some 0 = subst (λ (x : ℕ). byte_at m x ≡ Some 0) here h.ends in
    rw is refl
zero_only m (suc n) a (suc z) lt h =
    let one = h.bytes 0 (omega arith) in
    let here : a + 0 ≡ a = omega arith in
    let is : byte_at m a ≡ Some one.0 = subst (λ (x : ℕ). byte_at m x ≡ Some one.0) here one.1 in
    let place : a + suc z ≡ (a + 1) + z = omega arith in
    let more : Ends m (a + 1) z = record {
      bytes = λ k low.
          let next = h.bytes (suc k) (omega (arith, low)) in
          let there : a + suc k ≡ (a + 1) + k = omega arith in
          (next.0, subst (λ (x : ℕ). byte_at m x ≡ Some next.0) there next.1, next.2);
      ends = subst (λ (x : ℕ). byte_at m x ≡ Some 0) place h.ends;
    } in
    passed_by m n a one.0 is (λ e. absurd (omega (arith, e, one.2))) ∙ ap (option_map suc) (zero_only m n (a + 1) z (omega (arith, lt)) more)

of_some : (f : ℕ → SymbolAt) (o : Option ℕ) (s : SymbolAt) → option_map f o ≡ Some s → (z : ℕ) × (o ≡ Some z) × (f z ≡ s)
of_some f None s h = cc
of_some f (Some z) s h = (z, refl, cc)

pub name_found : (m : Contents) (image : Image) (table : Symtab) (row : List ℕ) (s : SymbolAt) → named m (said_by image table row) ≡ Some s
    → (s.value ≡ address_in image row) × IsName m table row s.name_at s.name_len
unfolding named
name_found m image table row s h =
    let u = said_by image table row in
    let p = of_some (λ n. record u { name_len = n }) (zero_within m (min u.name_len (SYMBOL_NAME_BYTES + 1)) u.name_at) s h in
    let q = zero_found m (min u.name_len (SYMBOL_NAME_BYTES + 1)) u.name_at p.0 p.1 in
    let len : p.0 ≡ s.name_len = ap (λ (x : SymbolAt). x.name_len) p.2 in
    let at : u.name_at ≡ s.name_at = ap (λ (x : SymbolAt). x.name_at) p.2 in
    let ends : Ends m s.name_at s.name_len = subst (λ (x : ℕ). Ends m s.name_at x) len (subst (λ (x : ℕ). Ends m x p.0) at q.1) in (
      sym (ap (λ (x : SymbolAt). x.value) p.2),
      record {
        begins = sym at;
        short = omega (arith, q.0, len);
        within = omega (arith, q.0, len);
        bytes = ends.bytes;
        ends = ends.ends;
      },
    )

pub name_only : (m : Contents) (image : Image) (table : Symtab) (row : List ℕ) (s : SymbolAt) → s.value ≡ address_in image row → IsName m table row s.name_at s.name_len
    → named m (said_by image table row) ≡ Some s
unfolding named
name_only m image table row s value name =
    let u = said_by image table row in
    let most = min u.name_len (SYMBOL_NAME_BYTES + 1) in
    let less : s.name_len < most = omega (arith, name.within, name.short) in
    let ends : Ends m s.name_at s.name_len = record { bytes = name.bytes; ends = name.ends } in
    let found : zero_within m most u.name_at ≡ Some s.name_len = zero_only m most u.name_at s.name_len less (subst (λ (x : ℕ). Ends m x s.name_len) name.begins ends) in
    ap (option_map (λ (n : ℕ). let symbol : SymbolAt = record u { name_len = n } in symbol)) found
    ∙ ap (λ (v : ℕ). let o : Option SymbolAt = Some (record { value = v; name_at = u.name_at; name_len = s.name_len }) in o) (sym value)
    ∙ ap (λ (a : ℕ). let o : Option SymbolAt = Some (record { value = s.value; name_at = a; name_len = s.name_len }) in o) (sym name.begins)

-- the bytes of a name are mapped
pub name_mapped : (m : Contents) (table : Symtab) (row : List ℕ) (a n : ℕ) → IsName m table row a n → IsSome (bytes_at m a n)
name_mapped m table row a n h = all_mapped m a n (λ k lt. some_from (byte_at m (a + k)) (h.bytes k lt).0 (h.bytes k lt).1)
  where
    some_from : (o : Option ℕ) (b : ℕ) → o ≡ Some b → IsSome o
    some_from o b e = ap is_some e
