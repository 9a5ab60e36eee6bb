-- A count that rose in one of several calls rose over all of them.
use Rattle.std.proofs.Common.{inl, inr, ℕ, ◌≤◌, arith}
use Rattle.plcr_base.specs.Causes.{Rose}

pub rose_first : (before mid after : ℕ) → Rose before mid → mid ≤ after → Rose before after
rose_first before mid after (inl more) later = inl (omega arith)
rose_first before mid after (inr full) later = inr (omega arith)

pub rose_second : (before mid after : ℕ) → before ≤ mid → Rose mid after → Rose before after
rose_second before mid after earlier (inl more) = inl (omega arith)
rose_second before mid after earlier (inr full) = inr full
