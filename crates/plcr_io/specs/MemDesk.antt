-- A desk in memory, and what its calls do to it.
use Rattle.std.specs.Prelude.{◌≡◌, ◌⊎◌, ◌↔◌, ℕ, ◌<◌, List, [], ◌∷◌, ◌++◌, map, reverse, Option, None, Some, Result, Vec, IsErr, IfOk, OnOk, OnErr, IsErrOf}
use Rattle.std.specs.Option.{option_or}
use Rattle.std.specs.declared.alloc.Global.{Global}
use Rattle.plcr_io.specs.Counting.{next}
use Rattle.plcr_io.specs.Calls.{CallFails}
use Rattle.plcr_io.specs.Desk.{Told}
use Rattle.plcr_io.specs.MemFiles.{File, first_named, last_named}
use Rattle.plcr_io.specs.Output.{Output}
use Rattle.plcr_io.specs.declared.desks.MakeFailed.{MakeFailed}
use Rattle.plcr_io.specs.declared.desks.TakeFault.{TakeFault}
use Rattle.plcr_io.specs.declared.desks.TakeFault.TheVariants.{Failed, TooLong, Memory}
use Rattle.plcr_io.specs.declared.mem_desk.MemDesk.{MemDesk}

-- a desk in memory, as callers see it
pub record MemoryDesk : Type 0 where
  -- what can be taken; of several files with one name the first counts
  pub files : List File
  -- what makes hand out, in order
  pub outs : List Output
  -- the numbers of the takes, makes and keeps that fail, from 1, and how many of these calls there
  -- were
  pub failing : List ℕ
  pub calls : ℕ
  -- what the calls did, in order
  pub taken : List (List ℕ)
  pub made : List (List ℕ)
  pub kept : List File
  pub dropped : List (List ℕ)
  pub take_faults : ℕ
  pub out_faults : ℕ

-- what callers see of a desk; the outputs that are left lie last first
abbrev pub contents : MemDesk → MemoryDesk
contents desk = record {
  files = desk.files.items;
  outs = reverse desk.outs.items;
  failing = desk.failing.items;
  calls = desk.calls;
  taken = desk.taken.items;
  made = desk.made.items;
  kept = desk.kept.items;
  dropped = map (λ out. out.bytes) desk.dropped.items;
  take_faults = desk.take_faults;
  out_faults = desk.out_faults;
}

-- what is behind a name now: the last that was kept under it, or else the file
abbrev pub file_now : MemoryDesk → List ℕ → Option (List ℕ)
file_now desk name = option_or (last_named name desk.kept) (first_named name desk.files)

-- all of its meanings are told
abbrev pub tells : MemoryDesk → Told
tells desk = record {
  files = λ name. first_named name desk.files;
  taken = Some desk.taken;
  made = Some desk.made;
  kept = Some desk.kept;
  dropped = Some desk.dropped;
  take_faults = desk.take_faults;
  out_faults = desk.out_faults;
}

-- a take with this name and limit
pub record TakesFile (name : List ℕ) (limit : ℕ) (old new : MemoryDesk)
    (result : Result (Vec ℕ Global) TakeFault) : Type 0 where
  pub fails : IsErrOf result Failed ↔ (CallFails old.failing old.calls name
      ⊎ (first_named name old.files ≡ None))
  pub ok : OnOk result (new ≡ record old { calls = next old.calls; taken = old.taken ++ name ∷ [] })
  pub failed : IsErrOf result Failed →
      new ≡ record old { calls = next old.calls; take_faults = next old.take_faults }
  pub too_long : IsErrOf result (TooLong limit) → new ≡ record old { calls = next old.calls }
  pub memory : IsErrOf result Memory → new ≡ record old { calls = next old.calls }

-- a make with this name, whose output is seen as one in memory
pub record MakesOutput (name : List ℕ) (old new : MemoryDesk)
    (result : Result Output MakeFailed) : Type 0 where
  pub fails : IsErr result ↔ (CallFails old.failing old.calls name ⊎ (old.outs ≡ []))
  pub first : IfOk result (λ out. old.outs ≡ out ∷ new.outs)
  pub ok : OnOk result
      (new ≡ record old { calls = next old.calls; outs = new.outs; made = old.made ++ name ∷ [] })
  pub failed : OnErr result
      (new ≡ record old { calls = next old.calls; out_faults = next old.out_faults })

-- a keep under this name of an output with these bytes
pub record KeepsOutput (name bytes : List ℕ) (old new : MemoryDesk)
    (result : Result (Unit {0}) MakeFailed) : Type 0 where
  pub fails : IsErr result ↔ CallFails old.failing old.calls name
  pub ok : OnOk result
      (new ≡ record old { calls = next old.calls; kept = old.kept ++ (name, bytes) ∷ [] })
  pub failed : OnErr result
      (new ≡ record old { calls = next old.calls; out_faults = next old.out_faults })

-- the giving up of an output with these bytes and this count of faults
pub record AbandonsOutput (bytes : List ℕ) (faults : ℕ) (old new : MemoryDesk) : Type 0 where
  pub faulty : 0 < faults →
      new ≡ record old { dropped = old.dropped ++ bytes ∷ []; out_faults = next old.out_faults }
  pub faultless : faults ≡ 0 → new ≡ record old { dropped = old.dropped ++ bytes ∷ [] }
