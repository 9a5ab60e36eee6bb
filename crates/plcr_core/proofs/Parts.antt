-- The parts of a core by what was gathered.
use Rattle.std.proofs.Common.{◌≡◌, ℕ, ◌==◌, nat_lt, Bool, true, false, cond, List, length, take, filter_map, Result, Ok, Err, refl, sym, ap, ◌∙◌}
use Rattle.std.proofs.lemmas.Bool.{ltb-false}
use Rattle.std.proofs.lemmas.List.{take_all}
use Rattle.plcr_base.specs.Chains.{◌>>=◌, result_map}
use Rattle.plcr_memory.specs.declared.region.Region.{Region}
use Rattle.plcr_loader.specs.Commands.{Command}
use Rattle.plcr_regs.specs.declared.arch.Arch.{Arch}
use Rattle.plcr_regs.specs.declared.registers.Registers.{Registers}
use Rattle.plcr_core.specs.declared.fault.CoreFault.{CoreFault}
use Rattle.plcr_core.specs.declared.fault.CoreFault.TheVariants as faults
use Rattle.plcr_core.specs.declared.header.Header.{Header}
use Rattle.plcr_core.specs.Heads.{header_in}
use Rattle.plcr_core.specs.Cores.{Parts, commands_in, parts_of, parts_in, region_of, thread_of}
use Rattle.plcr_core.specs.declared.limits.TheConstants.{MOST_THREADS}
use Rattle.plcr_core.specs.inner.Gathering.{Fails, Gives, gains_in, gains_of, parts_from}

-- the same parts, by the states that are kept
by_kept : (most : ℕ) (arch : Arch) (regions : List Region) (threads : List Registers) (b : Bool) → nat_lt most (length threads) ≡ b
    → ◌≡◌ {A = Result Parts CoreFault}
    (cond b (Err (faults.TooManyThreads (length threads))) (Ok (record { arch = arch; regions = regions; threads = threads })))
    (cond b (Err (faults.TooManyThreads (length threads))) (Ok (record { arch = arch; regions = regions; threads = take most threads })))
by_kept most arch regions threads true h = refl
by_kept most arch regions threads false h =
    ap (λ (l : List Registers). let r : Result Parts CoreFault = Ok (record { arch = arch; regions = regions; threads = l }) in r)
    (sym (take_all most threads (ltb-false most (length threads) h)))

parts_by_gains : (arch : Arch) (cs : List Command) → parts_of arch cs ≡ parts_from arch (gains_of arch cs)
parts_by_gains arch cs =
    let threads = filter_map (thread_of arch) cs in
    ap (λ (r : Result Parts CoreFault). cond (length threads == 0) (Err faults.NoThread) r)
    (by_kept MOST_THREADS arch (filter_map region_of cs) threads (nat_lt MOST_THREADS (length threads)) refl)

gathered_by : (arch : Arch) (read : Result (List Command) CoreFault) → (read >>= λ cs. parts_of arch cs) ≡ ((read >>= λ cs. Ok (gains_of arch cs)) >>= λ g. parts_from arch g)
gathered_by arch (Ok cs) = parts_by_gains arch cs
gathered_by arch (Err e) = refl

-- without a header there is nothing else
pub no_header : (file : List ℕ) (e : CoreFault) → header_in file ≡ Err e → parts_in file ≡ Err e
unfolding parts_in
no_header file e h = ap (λ (r : Result Header CoreFault). r >>= λ header. commands_in file header >>= λ cs. parts_of header.arch cs) h

-- with a header, the parts come from what is gathered
pub by_header : (file : List ℕ) (header : Header) → header_in file ≡ Ok header → parts_in file ≡ (gains_in file header >>= λ g. parts_from header.arch g)
unfolding parts_in
by_header file header h =
    ap (λ (r : Result Header CoreFault). r >>= λ header. commands_in file header >>= λ cs. parts_of header.arch cs) h
    ∙ gathered_by header.arch (commands_in file header)

-- a fault of reading is answered as it is
pub fails_by : {Y : Type 0} (e : CoreFault) (read : Result Y CoreFault) → read ≡ Err e → Fails e read
fails_by (faults.Truncated at) read h = h
fails_by (faults.NotCore magic filetype) read h = h
fails_by (faults.OtherCpu cpu) read h = h
fails_by (faults.BadCommand index) read h = h
fails_by faults.NoThread read h = h
fails_by (faults.TooManyThreads count) read h = h
fails_by (faults.Overlap first second) read h = h
fails_by (faults.Wraps index) read h = h
fails_by faults.Memory read h = tt

-- a fault of what is read first is one of all that is read
pub fails_on : {X Y : Type 0} (e : CoreFault) (first : Result X CoreFault) (all : Result Y CoreFault) → ((f : CoreFault) → first ≡ Err f → all ≡ Err f) → Fails e first → Fails e all
fails_on (faults.Truncated at) first all on h = on (faults.Truncated at) h
fails_on (faults.NotCore magic filetype) first all on h = on (faults.NotCore magic filetype) h
fails_on (faults.OtherCpu cpu) first all on h = on (faults.OtherCpu cpu) h
fails_on (faults.BadCommand index) first all on h = on (faults.BadCommand index) h
fails_on faults.NoThread first all on h = on faults.NoThread h
fails_on (faults.TooManyThreads count) first all on h = on (faults.TooManyThreads count) h
fails_on (faults.Overlap first second) one all on h = on (faults.Overlap first second) h
fails_on (faults.Wraps index) first all on h = on (faults.Wraps index) h
fails_on faults.Memory first all on h = tt

pub gives_by : {X Y : Type 0} (view : X → Y) (answer : Result X CoreFault) (read : Result Y CoreFault) → read ≡ result_map view answer → Gives view answer read
gives_by view (Ok x) read h = h
gives_by view (Err e) read h = fails_by e read h
