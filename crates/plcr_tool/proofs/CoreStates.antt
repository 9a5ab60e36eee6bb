-- What a core of bytes holds has the width of its type: the states of its threads, and the bytes of its memory.
use Rattle.std.proofs.Common.{◌≡◌, ℕ, zero, suc, ◌+◌, ◌*◌, ◌^◌, ◌<◌, Bool, true, false, List, [], ◌∷◌, length, take, drop, filter_map, Option, Some, None, Ok, leb, ltb, sym, ap, subst, arith, lit<}
use Rattle.std.specs.Prelude.{IfSome, option_map, ◌==◌, ◌&&◌, if◌then◌else◌}
use Rattle.std.specs.List.{AllByRecursion, cons_option, range_with_len}
use Rattle.std.specs.Option.{option_and_then}
use Rattle.plcr_base.specs.Bytes.{IsBytes}
use Rattle.plcr_base.specs.Numbers.{u32_in, u64_in}
use Rattle.plcr_memory.specs.Regions.{Contents}
use Rattle.plcr_loader.specs.declared.load_command.TheConstants as load_command
use Rattle.plcr_loader.specs.declared.thread_group.TheConstants.{LENGTH}
use Rattle.plcr_loader.specs.declared.mach_header_64.TheConstants as mach_header_64
use Rattle.plcr_loader.specs.Commands.{Command, Test, AreLaid, is_thread}
use Rattle.plcr_loader.specs.Fields.{number}
use Rattle.plcr_loader.specs.Sources.{file_bytes}
use Rattle.plcr_regs.specs.declared.arch.Arch.{Arch}
use Rattle.plcr_regs.specs.declared.arch.Arch.TheVariants.{X86_64, Arm64}
use Rattle.plcr_regs.specs.declared.form.TheConstants.{HEADER}
use Rattle.plcr_regs.specs.declared.limits.TheConstants.{MOST_REGISTERS}
use Rattle.plcr_regs.specs.declared.registers.Registers.{Registers}
use Rattle.plcr_regs.specs.Names.{register_count}
use Rattle.plcr_regs.specs.States.{cpsr_place, register_in, value_in, registers_in, plain_form, wrapping_form, has_form, begins, state_in}
use Rattle.plcr_core.specs.declared.read.Core.{Core}
use Rattle.plcr_core.specs.Groups.{Group, state_length, group_at_front, first_groups, groups_in, first_state, thread_in}
use Rattle.plcr_core.specs.Cores.{thread_of, core_trouble, parts_in}
use Rattle.plcr_core.specs.Reading.{IsAnswer}
use Rattle.plcr_core.proofs.LaidOut.{cores_lie}
use Rattle.plcr_core.proofs.WholeThreads.{whole_or}
use Rattle.plcr_tool.specs.Laws.{IsHandedState}
use Rattle.plcr_tool.proofs.Stored.{dropped_bytes, four_small, eight_small}
use Rattle.plcr_tool.proofs.Threaded.{all_mapped}

-- the first of some bytes are bytes
taken_bytes : (n : ℕ) (xs : List ℕ) → IsBytes xs → IsBytes (take n xs)
taken_bytes zero xs bytes i = lit< tt
taken_bytes (suc n) [] bytes i = lit< tt
taken_bytes (suc n) (x ∷ xs) bytes zero = bytes 0
taken_bytes (suc n) (x ∷ xs) bytes (suc i) = taken_bytes n xs (λ j. bytes (suc j)) i

-- a piece of a file
file_piece : (file : List ℕ) (at n : ℕ) (xs : List ℕ) → IsBytes file → file_bytes file at n ≡ Some xs → IsBytes xs
unfolding file_bytes
file_piece file at n xs bytes h = of (leb (at + n) (length file)) h
  where
    of : (b : Bool) → (if b then Some (take n (drop at file)) else None) ≡ Some xs → IsBytes xs
    of true e = let same : take n (drop at file) ≡ xs = cc in subst IsBytes same (taken_bytes n (drop at file) (dropped_bytes at file bytes))
    of false e = absurd cc

-- the numbers of a state
word_small : (at : ℕ) (xs : List ℕ) → IsBytes xs → u64_in xs at < 2 ^ 64
unfolding u64_in number
word_small at xs bytes = eight_small at xs bytes

half_small : (at : ℕ) (xs : List ℕ) → IsBytes xs → u32_in xs at < 2 ^ 64
unfolding u32_in number
half_small at xs bytes = let small = four_small at xs bytes in omega (arith, small)

register_small : (arch : Arch) (bytes : List ℕ) (i : ℕ) → IsBytes bytes → register_in arch bytes i < 2 ^ 64
register_small X86_64 bytes i all = word_small (8 * i) bytes all
register_small Arm64 bytes i all = of (i == cpsr_place)
  where
    of : (b : Bool) → (if b then u32_in bytes (8 * i) else u64_in bytes (8 * i)) < 2 ^ 64
    of true = half_small (8 * i) bytes all
    of false = word_small (8 * i) bytes all

value_fits : (arch : Arch) (bytes : List ℕ) → IsBytes bytes → (i : ℕ) → IfSome (value_in arch bytes i) (λ n. n < 2 ^ 64)
value_fits arch bytes all i = of (ltb i (register_count arch))
  where
    of : (b : Bool) → IfSome (if b then Some (register_in arch bytes i) else None) (λ n. n < 2 ^ 64)
    of true = register_small arch bytes i all
    of false = tt

registers_fit : (arch : Arch) (bytes : List ℕ) → IsBytes bytes → IsHandedState (registers_in arch bytes)
unfolding registers_in
registers_fit arch bytes all = all_mapped (λ value. IfSome value (λ n. n < 2 ^ 64)) (value_in arch bytes) (value_fits arch bytes all) (range_with_len 0 MOST_REGISTERS)

state_fits : (arch : Arch) (flavor : ℕ) (bytes : List ℕ) → IsBytes bytes → IfSome (state_in arch flavor bytes) IsHandedState
unfolding state_in
state_fits arch flavor bytes all = of (has_form flavor bytes (plain_form arch)) (has_form flavor bytes (wrapping_form arch) && begins bytes (plain_form arch))
  where
    of : (a b : Bool) → IfSome (if a then Some (registers_in arch bytes) else if b then Some (registers_in arch (drop HEADER bytes)) else None) IsHandedState
    of true b = registers_fit arch bytes all
    of false true = registers_fit arch (drop HEADER bytes) (dropped_bytes HEADER bytes all)
    of false false = tt

-- the groups of a thread command
abbrev IsGroup : Group → Type 0
IsGroup group = IsBytes group.state

groups_fit : (most : ℕ) (bytes : List ℕ) → IsBytes bytes → IfSome (first_groups most bytes) (AllByRecursion IsGroup)
groups_fit zero bytes all = tt
groups_fit (suc most) bytes all = of (ltb (length bytes) LENGTH) (ltb (length bytes) (LENGTH + state_length bytes)) (first_groups most (drop (LENGTH + state_length bytes) bytes)) (groups_fit most (drop (LENGTH + state_length bytes) bytes) (dropped_bytes (LENGTH + state_length bytes) bytes all))
  where
    of : (a b : Bool) (rest : Option (List Group)) → IfSome rest (AllByRecursion IsGroup) → IfSome (if a then Some [] else if b then None else option_map (λ groups. group_at_front bytes ∷ groups) rest) (AllByRecursion IsGroup)
    of true b rest h = tt
    of false true rest h = tt
    of false false None h = tt
    of false false (Some groups) h = (taken_bytes (state_length bytes) (drop LENGTH bytes) (dropped_bytes LENGTH bytes all), h)

first_fits : (arch : Arch) (groups : List Group) → AllByRecursion IsGroup groups → IfSome (first_state arch groups) IsHandedState
first_fits arch [] all = tt
first_fits arch (group ∷ groups) all = whole_or IsHandedState (state_in arch group.flavor group.state) (first_state arch groups) (state_fits arch group.flavor group.state all.0) (first_fits arch groups all.1)

found_fits : (arch : Arch) (found : Option (List Group)) → IfSome found (AllByRecursion IsGroup) → IfSome (option_and_then (first_state arch) found) IsHandedState
found_fits arch None h = tt
found_fits arch (Some groups) h = first_fits arch groups h

thread_fits : (arch : Arch) (command : List ℕ) → IsBytes command → IfSome (thread_in arch command) IsHandedState
unfolding thread_in groups_in
thread_fits arch command all =
    let rest = drop load_command.LENGTH command in
    found_fits arch (first_groups (length rest) rest) (groups_fit (length rest) rest (dropped_bytes load_command.LENGTH command all))

-- the threads of commands that lie in a file
where_thread : (b : Bool) (o : Option Registers) → IfSome o IsHandedState → IfSome (if b then o else None) IsHandedState
where_thread true o h = h
where_thread false o h = tt

more_fit : (o : Option Registers) (states : List Registers) → IfSome o IsHandedState → AllByRecursion IsHandedState states → AllByRecursion IsHandedState (cons_option o states)
more_fit None states h k = k
more_fit (Some state) states h k = (h, k)

threads_fit : (file : List ℕ) (test : Test) (arch : Arch) (end index at : ℕ) (cs : List Command) → IsBytes file → AreLaid (file_bytes file) test end index at cs → AllByRecursion IsHandedState (filter_map (thread_of arch) cs)
threads_fit file test arch end index at [] bytes laid = tt
threads_fit file test arch end index at (c ∷ cs) bytes laid =
    let here = file_piece file at c.cmdsize c.bytes bytes laid.0.there in
    more_fit (thread_of arch c) (filter_map (thread_of arch) cs) (where_thread (is_thread c) (thread_in arch c.bytes) (thread_fits arch c.bytes here)) (threads_fit file test arch end (index + 1) (at + c.cmdsize) cs bytes laid.1)

-- the memory of a core is over its bytes
pub core_bytes : (file : List ℕ) (core : Core) → IsAnswer file (parts_in file) (Ok core) → IsBytes file → IsBytes core.memory.file
core_bytes file core is bytes = subst IsBytes (sym (ap (λ (m : Contents). m.file) (cores_lie file core is).memory)) bytes

pub core_states : (file : List ℕ) (core : Core) → IsAnswer file (parts_in file) (Ok core) → IsBytes core.memory.file → AllByRecursion IsHandedState core.threads
core_states file core is bytes =
    let l = cores_lie file core is in
    let same : core.memory.file ≡ file = ap (λ (m : Contents). m.file) l.memory in
    subst (AllByRecursion IsHandedState) (sym l.threads) (threads_fit file (core_trouble (length file)) l.header.arch l.header.end 0 mach_header_64.LENGTH l.commands (subst IsBytes same bytes) l.lie.laid)
