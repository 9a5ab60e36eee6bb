-- What is known of a desk, from which files are taken and on which outputs are made, and what each
-- of its calls does to that.
use Rattle.std.specs.Prelude.{◌≡◌, ◌⊎◌, ℕ, ◌+◌, ◌<◌, ◌≤◌, List, [], length, Option, Result, Vec, IfOk, OnOk, OnErr, IsErrOf}
use Rattle.std.specs.Option.{option_map}
use Rattle.std.specs.declared.alloc.Global.{Global}
use Rattle.plcr_base.specs.Causes.{Rose}
use Rattle.plcr_base.specs.Told.{IfTold, add, add_told}
use Rattle.plcr_io.specs.declared.desks.MakeFailed.{MakeFailed}
use Rattle.plcr_io.specs.declared.desks.TakeFault.{TakeFault}
use Rattle.plcr_io.specs.declared.desks.TakeFault.TheVariants.{Failed, TooLong, Memory}

-- the meanings of a desk; names are lists of bytes
pub record Told : Type 0 where
  -- the bytes behind a name, told or not told
  pub files : List ℕ → Option (List ℕ)
  -- the names of the takes, and of the makes, that answered Ok, in order
  pub taken : Option (List (List ℕ))
  pub made : Option (List (List ℕ))
  -- the names and bytes that were kept, in order
  pub kept : Option (List (List ℕ × List ℕ))
  -- what the outputs that were given up had written, in order
  pub dropped : Option (List (List ℕ))
  -- how often a take, and how often anything about outputs, has failed
  pub take_faults : ℕ
  pub out_faults : ℕ

-- a name with the bytes of a file, where they are told
abbrev pub file : List ℕ → Option (List ℕ) → Option (List ℕ × List ℕ)
file name written = option_map (λ bytes. (name, bytes)) written

-- a take with this name and limit
pub record Takes (name : List ℕ) (limit : ℕ) (old new : Told)
    (result : Result (Vec ℕ Global) TakeFault) : Type 0 where
  -- Ok has the whole bytes of the file, and never more than `limit` of them
  pub bytes : IfOk result (λ whole. IfTold (old.files name) (λ bytes. whole.items ≡ bytes))
  pub within : IfOk result (λ whole. length whole.items ≤ limit)
  pub listed : OnOk result (new.taken ≡ add old.taken name)
  pub unlisted : OnErr result (new.taken ≡ old.taken)
  -- it fails only where its count rose
  pub failed : IsErrOf result Failed → Rose old.take_faults new.take_faults
  -- too long comes only where the file has more bytes than the limit, and always then, but for want
  -- of memory, where the count didn't rise
  pub too_long : (n : ℕ) → IsErrOf result (TooLong n) →
      (n ≡ limit) × IfTold (old.files name) (λ bytes. limit < length bytes)
  pub longer : IfTold (old.files name) (λ bytes. limit < length bytes →
      IsErrOf result (TooLong limit) ⊎ IsErrOf result Memory ⊎ Rose old.take_faults new.take_faults)
  pub later : old.take_faults ≤ new.take_faults
  -- nothing else changes
  pub files : new.files ≡ old.files
  pub made : new.made ≡ old.made
  pub kept : new.kept ≡ old.kept
  pub dropped : new.dropped ≡ old.dropped
  pub out_faults : new.out_faults ≡ old.out_faults

-- the making of an output with this name, where an output's bytes and count of faults are read by
-- `written` and `faults`
pub record Makes {Out : Type 0} (written : Out → Option (List ℕ)) (faults : Out →
    ℕ) (name : List ℕ) (old new : Told) (result : Result Out MakeFailed) : Type 0 where
  -- the output has written nothing and has no faults
  pub empty : IfOk result (λ out. IfTold (written out) (λ bytes. bytes ≡ []))
  pub faultless : IfOk result (λ out. faults out ≡ 0)
  pub listed : OnOk result (new.made ≡ add old.made name)
  pub unlisted : OnErr result (new.made ≡ old.made)
  -- it fails only where the count rose
  pub failed : OnErr result (Rose old.out_faults new.out_faults)
  pub later : old.out_faults ≤ new.out_faults
  -- nothing else changes
  pub files : new.files ≡ old.files
  pub taken : new.taken ≡ old.taken
  pub kept : new.kept ≡ old.kept
  pub dropped : new.dropped ≡ old.dropped
  pub take_faults : new.take_faults ≡ old.take_faults

-- the keeping, under this name, of an output that has written these bytes
pub record Keeps (name : List ℕ) (written : Option (List ℕ)) (old new : Told)
    (result : Result (Unit {0}) MakeFailed) : Type 0 where
  pub listed : OnOk result (new.kept ≡ add_told old.kept (file name written))
  pub unlisted : OnErr result (new.kept ≡ old.kept)
  -- it fails only where the count rose
  pub failed : OnErr result (Rose old.out_faults new.out_faults)
  pub later : old.out_faults ≤ new.out_faults
  -- nothing else changes
  pub files : new.files ≡ old.files
  pub taken : new.taken ≡ old.taken
  pub made : new.made ≡ old.made
  pub dropped : new.dropped ≡ old.dropped
  pub take_faults : new.take_faults ≡ old.take_faults

-- the giving up of an output that has written these bytes and has this count of faults
pub record Abandons (written : Option (List ℕ)) (faults : ℕ) (old new : Told) : Type 0 where
  pub listed : new.dropped ≡ add_told old.dropped written
  -- the count rises where the output has faults, and only there
  pub faulty : 0 < faults → Rose old.out_faults new.out_faults
  pub faultless : faults ≡ 0 → new.out_faults ≡ old.out_faults
  pub later : old.out_faults ≤ new.out_faults
  -- nothing else changes
  pub files : new.files ≡ old.files
  pub taken : new.taken ≡ old.taken
  pub made : new.made ≡ old.made
  pub kept : new.kept ≡ old.kept
  pub take_faults : new.take_faults ≡ old.take_faults

-- where all three are told, at least as many outputs were made as were kept and dropped
abbrev pub Balances : Told → Type 0
Balances told = IfTold told.made
    (λ made. IfTold told.kept
    (λ kept. IfTold told.dropped (λ dropped. length kept + length dropped ≤ length made)))

-- where all three are told, more outputs were made than were kept and dropped: one is still open
abbrev pub HasOpen : Told → Type 0
HasOpen told = IfTold told.made
    (λ made. IfTold told.kept
    (λ kept. IfTold told.dropped (λ dropped. length kept + length dropped < length made)))
