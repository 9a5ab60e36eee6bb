-- How long the name of a symbol and a symbol are.
use Rattle.std.proofs.Common.{◌≡◌, ℕ, zero, suc, ◌+◌, List, [], length, Option, Some, None, refl, ap, append-nil, length-append}
use Rattle.std.specs.Prelude.{IsSome, unwrap_or}
use Rattle.plcr_memory.specs.Regions.{Contents, byte_at, bytes_at, cons_known}
use Rattle.plcr_wire.specs.Message.{field_spelling, bytes_field, number_field, spelling}
use Rattle.plcr_report.specs.Messages.{symbol_message}

one_more : (n : ℕ) (byte : Option ℕ) (rest : Option (List ℕ)) → IsSome (cons_known byte rest) → (IsSome rest → length (unwrap_or rest []) ≡ n)
    → length (unwrap_or (cons_known byte rest) []) ≡ suc n
one_more n (Some b) (Some bs) there size = ap (λ (k : ℕ). suc k) (size refl)
one_more n (Some b) None there size = absurd (cc)
one_more n None rest there size = absurd (cc)

-- bytes that are mapped are as many as are asked for
pub mapped_length : (memory : Contents) (at n : ℕ) → IsSome (bytes_at memory at n) → length (unwrap_or (bytes_at memory at n) []) ≡ n
mapped_length memory at zero there = refl
mapped_length memory at (suc n) there = one_more n (byte_at memory at) (bytes_at memory (at + 1) n) there (mapped_length memory (at + 1) n)

pub symbol_length : (name : List ℕ) (start : ℕ) → length (spelling (symbol_message (record { name = name; start_address = start; end_address = None })))
    ≡ length (field_spelling (bytes_field 1 name)) + length (field_spelling (number_field 2 start))
unfolding symbol_message
symbol_length name start = simp (append-nil, length-append) refl
