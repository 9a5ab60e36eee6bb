-- A command in memory that was found to lie before the end of the list, with all its bytes mapped.
use Rattle.std.proofs.Common.{◌≡◌, ℕ, ◌+◌, ◌≤◌, List, [], Option, is_some, Result, Ok, sym, ap, subst, ◌∙◌}
use Rattle.std.specs.Prelude.{unwrap_or, IsSome}
use Rattle.plcr_base.specs.Chains.{result_map}
use Rattle.plcr_memory.specs.Regions.{Contents, bytes_at}
use Rattle.plcr_loader.specs.declared.load_command.LoadCommand.{LoadCommand}
use Rattle.plcr_loader.specs.declared.load_command.TheConstants.{LENGTH}
use Rattle.plcr_loader.specs.declared.trouble.Trouble.{Trouble}
use Rattle.plcr_loader.specs.Commands.{Command, framed_at, load_command_of}
use Rattle.plcr_loader.proofs.Framed.{framed_by, command_is}
use Rattle.plcr_macho.specs.Sources.{plus, memory_bytes}
use Rattle.plcr_macho.specs.inner.Keeping.{bytes_there}

-- what is known of the command that says so of itself: it stands at its address
pub record IsStanding (m : Contents) (start end index at address : ℕ) (said : LoadCommand) : Type 0 where
  pub frame : ◌≡◌ {A = Result Command Trouble} (Ok (record { cmd = said.cmd; cmdsize = said.cmdsize; place = at; bytes = bytes_there m address said.cmdsize })) (framed_at (memory_bytes m start) end index at)
  pub stands : IsSome (bytes_at m address said.cmdsize)
  pub least : LENGTH ≤ said.cmdsize
  pub within : at + said.cmdsize ≤ end

pub standing_is : (m : Contents) (start end index at address : ℕ) (said : LoadCommand) → Ok said ≡ result_map load_command_of (framed_at (memory_bytes m start) end index at) → address ≡ plus start at → IsStanding m start end index at address said
unfolding memory_bytes
standing_is m start end index at address said h is =
    let framed = framed_by (memory_bytes m start) end index at said h in
    let c = framed.0 in
    let known = framed.3 in
    let bytes : c.bytes ≡ bytes_there m (plus start at) c.cmdsize = sym (ap (λ (o : Option (List ℕ)). unwrap_or o []) known.there) in
    let here : IsStanding m start end index at (plus start at) (load_command_of c) = record {
      frame = sym (framed.1 ∙ ap (λ (x : Command). let r : Result Command Trouble = Ok x in r) (command_is c at (bytes_there m (plus start at) c.cmdsize) known.stands bytes));
      stands = ap is_some known.there;
      least = known.least;
      within = known.within;
    } in
    subst (λ (l : LoadCommand). IsStanding m start end index at address l) (sym framed.2)
    (subst (λ (a : ℕ). IsStanding m start end index at a (load_command_of c)) (sym is) here)
