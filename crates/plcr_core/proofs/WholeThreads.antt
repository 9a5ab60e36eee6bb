-- The threads of a core are some, not too many, and in whole states.
use Rattle.std.proofs.Common.{◌≡◌, ℕ, Bool, true, false, cond, List, [], ◌∷◌, drop, filter_map, All, Option, Some, None, IfSome, Ok, subst}
use Rattle.std.specs.List.{cons_option}
use Rattle.std.specs.Option.{option_and_then, option_or}
use Rattle.std.proofs.lemmas.List.Elements.{All-nil, All-cons}
use Rattle.plcr_loader.specs.declared.load_command.TheConstants as load_command
use Rattle.plcr_loader.specs.Commands.{Command, is_thread}
use Rattle.plcr_regs.specs.declared.arch.Arch.{Arch}
use Rattle.plcr_regs.specs.declared.registers.Registers.{Registers}
use Rattle.plcr_regs.specs.States.{IsWhole, state_in}
use Rattle.plcr_regs.proofs.WholeStates.{whole_state}
use Rattle.plcr_core.specs.Groups.{Group, first_state, groups_in, thread_in}
use Rattle.plcr_core.specs.Cores.{AreThreads, Parts, parts_in, thread_of}
use Rattle.plcr_core.proofs.LaidOut.{comes_from}

pub whole_or : (P : Registers → Type 0) (a b : Option Registers) → IfSome a P → IfSome b P → IfSome (option_or a b) P
whole_or P None b h k = k
whole_or P (Some x) b h k = h

whole_first : (arch : Arch) (groups : List Group) → IfSome (first_state arch groups) (IsWhole arch)
whole_first arch [] = tt
whole_first arch (group ∷ groups) =
    whole_or (IsWhole arch) (state_in arch group.flavor group.state) (first_state arch groups) (whole_state arch group.flavor group.state) (whole_first arch groups)

whole_found : (arch : Arch) (found : Option (List Group)) → IfSome (option_and_then (first_state arch) found) (IsWhole arch)
whole_found arch None = tt
whole_found arch (Some groups) = whole_first arch groups

whole_thread : (arch : Arch) (command : List ℕ) → IfSome (thread_in arch command) (IsWhole arch)
unfolding thread_in
whole_thread arch command = whole_found arch (groups_in (drop load_command.LENGTH command))

whole_if : (P : Registers → Type 0) (b : Bool) (o : Option Registers) → IfSome o P → IfSome (cond b o None) P
whole_if P true o h = h
whole_if P false o h = tt

All-cons_option : {X : Type 0} (P : X → Type 0) (o : Option X) (xs : List X) → IfSome o P → All P xs → All P (cons_option o xs)
All-cons_option P None xs h k = k
All-cons_option P (Some x) xs h k = All-cons P x xs h k

whole_all : (arch : Arch) (cs : List Command) → All (IsWhole arch) (filter_map (thread_of arch) cs)
whole_all arch [] = All-nil (IsWhole arch)
whole_all arch (c ∷ cs) =
    All-cons_option (IsWhole arch) (thread_of arch c) (filter_map (thread_of arch) cs)
    (whole_if (IsWhole arch) (is_thread c) (thread_in arch c.bytes) (whole_thread arch c.bytes)) (whole_all arch cs)

-- the parts that reading gives have such threads
pub whole_in : (file : List ℕ) (p : Parts) → parts_in file ≡ Ok p → AreThreads p.arch p.threads
whole_in file p h =
    let f = comes_from file p h in
    subst (λ (q : Parts). AreThreads q.arch q.threads) f.is
    (record { each = whole_all f.header.arch f.commands; some = f.some.some; few = f.some.few })
