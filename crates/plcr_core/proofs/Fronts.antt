-- The commands read so far, and what is left to read.
use Rattle.std.proofs.Common.{◌≡◌, ℕ, suc, ◌+◌, List, [], ◌∷◌, ◌++◌, length, take, filter_map, Option, Some, None, Result, Ok, Err, refl, sym, ap, ◌∙◌, append-nil, append_assoc, length-append}
use Rattle.std.specs.Option.{option_to_list}
use Rattle.std.proofs.lemmas.List.Elements.{filter_map-append}
use Rattle.std.specs.List.{cons_option}
use Rattle.plcr_base.specs.Chains.{◌>>=◌}
use Rattle.plcr_memory.specs.declared.region.Region.{Region}
use Rattle.plcr_loader.specs.Commands.{Bytes, Command, Test, command_at, commands_at}
use Rattle.plcr_loader.specs.declared.trouble.Trouble.{Trouble}
use Rattle.plcr_loader.specs.declared.trouble.Trouble.TheVariants.{Bad, Absent}
use Rattle.plcr_regs.specs.declared.arch.Arch.{Arch}
use Rattle.plcr_regs.specs.declared.registers.Registers.{Registers}
use Rattle.plcr_core.specs.declared.fault.CoreFault.{CoreFault}
use Rattle.plcr_core.specs.Cores.{region_of, thread_of, fault_of}
use Rattle.plcr_core.specs.declared.limits.TheConstants.{MOST_THREADS}
use Rattle.plcr_core.specs.inner.Gathering.{Fails, Gains, gain_of, gains_of, with_gain}
use Rattle.plcr_core.proofs.Kept.{kept_twice}

-- what the rest gives, behind the commands read so far
abbrev pub after : List Command → Result (List Command) Trouble → Result (List Command) Trouble
after front rest = rest >>= λ cs. Ok (front ++ cs)

after_more : (front : List Command) (c : Command) (rest : Result (List Command) Trouble) → after (front ++ c ∷ []) rest ≡ after front (rest >>= λ cs. Ok (c ∷ cs))
after_more front c (Ok cs) = ap (λ (l : List Command). let r : Result (List Command) Trouble = Ok l in r) (append_assoc front (c ∷ []) cs)
after_more front c (Err e) = refl

pub goes_on : (source : Bytes) (test : Test) (end left index at : ℕ) (front : List Command) (c : Command) (all : Result (List Command) Trouble)
    → command_at source test end index at ≡ Ok c
    → after front (commands_at source test end (suc left) index at) ≡ all
    → after (front ++ c ∷ []) (commands_at source test end left (index + 1) (at + c.cmdsize)) ≡ all
goes_on source test end left index at front c all here so_far =
    let rest = commands_at source test end left (index + 1) (at + c.cmdsize) in
    let next = λ (d : Command). commands_at source test end left (index + 1) (at + d.cmdsize) >>= λ (cs : List Command). let r : Result (List Command) Trouble = Ok (d ∷ cs) in r in
    let step : after front (command_at source test end index at >>= next) ≡ after front (rest >>= λ (cs : List Command). let r : Result (List Command) Trouble = Ok (c ∷ cs) in r) =
    ap (λ (r : Result Command Trouble). after front (r >>= next)) here in
    after_more front c rest ∙ sym step ∙ so_far

pub stops : (source : Bytes) (test : Test) (end left index at : ℕ) (front : List Command) (trouble : Trouble) (all : Result (List Command) Trouble)
    → command_at source test end index at ≡ Err trouble
    → after front (commands_at source test end (suc left) index at) ≡ all
    → all ≡ Err trouble
stops source test end left index at front trouble all here so_far =
    let next = λ (d : Command). commands_at source test end left (index + 1) (at + d.cmdsize) >>= λ (cs : List Command). let r : Result (List Command) Trouble = Ok (d ∷ cs) in r in
    sym so_far ∙ ap (λ (r : Result Command Trouble). after front (r >>= next)) here

pub is_done : (source : Bytes) (test : Test) (end index at : ℕ) (front : List Command) (all : Result (List Command) Trouble)
    → after front (commands_at source test end 0 index at) ≡ all → all ≡ Ok front
is_done source test end index at front all so_far =
    sym so_far ∙ ap (λ (l : List Command). let r : Result (List Command) Trouble = Ok l in r) (append-nil front)

one : {Z : Type 0} (o : Option Z) → cons_option o [] ≡ option_to_list o
one None = refl
one (Some z) = refl

filter_more : {X Y : Type 0} (f : X → Option Y) (front : List X) (x : X) → filter_map f (front ++ x ∷ []) ≡ filter_map f front ++ option_to_list (f x)
filter_more {Y = Y} f front x =
    filter_map-append f front (x ∷ []) ∙ ap (λ (l : List Y). filter_map f front ++ l) (one (f x))

same_gains : {r s : List Region} {t u : List Registers} {m n : ℕ} → r ≡ s → t ≡ u → m ≡ n → ◌≡◌ {A = Gains} (record { regions = r; threads = t; count = m }) (record { regions = s; threads = u; count = n })
same_gains p q e = cc

-- nothing read so far
pub after_none : (rest : Result (List Command) Trouble) → after [] rest ≡ rest
after_none (Ok cs) = refl
after_none (Err e) = refl

-- one more command gives its gain
pub gains_more : (arch : Arch) (front : List Command) (c : Command) → gains_of arch (front ++ c ∷ []) ≡ with_gain (gains_of arch front) (gain_of arch c)
gains_more arch front c =
    let states = filter_map (thread_of arch) front in
    let regions = filter_more region_of front c in
    let threads = filter_more (thread_of arch) front c in
    same_gains regions
    (ap (take MOST_THREADS) threads ∙ sym (kept_twice MOST_THREADS states (option_to_list (thread_of arch c))))
    (ap length threads ∙ length-append states (option_to_list (thread_of arch c)))

-- the fault of a trouble is no want of memory
pub fails_at : {Y : Type 0} (file_length : ℕ) (trouble : Trouble) (read : Result Y CoreFault) → read ≡ Err (fault_of file_length trouble) → Fails (fault_of file_length trouble) read
fails_at file_length (Bad index) read h = h
fails_at file_length (Absent place) read h = h
