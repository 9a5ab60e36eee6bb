-- A load command of a file that was found to lie before the end of the list and of the file.
use Rattle.std.proofs.Common.{◌≡◌, ℕ, ◌+◌, ◌≤◌, List, length, take, drop, Result, Ok, subst, sym, ap, ◌∙◌}
use Rattle.plcr_base.specs.Chains.{result_map}
use Rattle.plcr_loader.specs.declared.load_command.LoadCommand.{LoadCommand}
use Rattle.plcr_loader.specs.declared.load_command.TheConstants.{LENGTH}
use Rattle.plcr_loader.specs.declared.trouble.Trouble.{Trouble}
use Rattle.plcr_loader.specs.Commands.{Command, framed_at, load_command_of}
use Rattle.plcr_loader.specs.Sources.{file_bytes}
use Rattle.plcr_loader.proofs.Files.{file_piece, within_file}
use Rattle.plcr_loader.proofs.Framed.{framed_by, command_is}

-- what is known of the command that says so of itself
pub record IsFramed (file : List ℕ) (end index at : ℕ) (said : LoadCommand) : Type 0 where
  pub is : framed_at (file_bytes file) end index at ≡ Ok (record { cmd = said.cmd; cmdsize = said.cmdsize; place = at; bytes = take said.cmdsize (drop at file) })
  pub least : LENGTH ≤ said.cmdsize
  pub within : at + said.cmdsize ≤ length file

pub framed_is : (file : List ℕ) (end index at : ℕ) (said : LoadCommand) → Ok said ≡ result_map load_command_of (framed_at (file_bytes file) end index at) → IsFramed file end index at said
framed_is file end index at said h =
    let framed = framed_by (file_bytes file) end index at said h in
    let c = framed.0 in
    let known = framed.3 in
    let within : at + c.cmdsize ≤ length file = within_file file at c.cmdsize c.bytes known.there in
    let piece = file_piece file at c.cmdsize within in
    let there = known.there in
    let bytes : c.bytes ≡ take c.cmdsize (drop at file) = cc in
    subst (IsFramed file end index at) (sym framed.2) (record {
      is = framed.1 ∙ ap (λ (x : Command). let r : Result Command Trouble = Ok x in r) (command_is c at (take c.cmdsize (drop at file)) known.stands bytes);
      least = known.least;
      within = within;
    })
