-- A desk in memory made at least as many outputs as it kept and dropped.
use Rattle.std.specs.Prelude.{◌≡◌, ℕ, ◌+◌, ◌≤◌, length, map, Vec, vec_len}
use Rattle.std.proofs.Common.{sym, ◌∙◌, subst}
use Rattle.std.proofs.lemmas.List.{length-map}
use Rattle.plcr_io.specs.Desk.{Balances}
use Rattle.plcr_io.specs.MemDesk.{contents, tells}
use Rattle.plcr_io.specs.declared.mem_desk.MemDesk.{MemDesk}

-- what is known of the lengths of three vectors is so of the lists in them
counted : {A B C D Z : Type 0} (kept : Vec A Z) (dropped : Vec B Z) (made : Vec C Z) (see : B → D) →
    vec_len kept + vec_len dropped ≤ vec_len made →
    length kept.items + length (map see dropped.items) ≤ length made.items
counted kept dropped made see fits =
    let seen : vec_len dropped ≡ length (map see dropped.items) =
    dropped.ok.0 ∙ sym (length-map dropped.items see) in
    let in_made = subst (λ (n : ℕ). vec_len kept + vec_len dropped ≤ n) made.ok.0 fits in
    let in_dropped = subst (λ (n : ℕ). vec_len kept + n ≤ length made.items) seen in_made in
    subst (λ (n : ℕ). n + length (map see dropped.items) ≤ length made.items) kept.ok.0 in_dropped

-- no more outputs were kept and dropped than were made
pub balanced : (desk : MemDesk) → Balances (tells (contents desk))
balanced desk = counted desk.kept desk.dropped desk.made (λ out. out.bytes) desk.balanced
