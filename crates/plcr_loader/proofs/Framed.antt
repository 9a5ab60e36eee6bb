-- A load command that was found to lie before the end of the list, with all its bytes there.
use Rattle.std.proofs.Common.{◌≡◌, ℕ, ◌+◌, ◌≤◌, false, nat_lt, ◌||◌, List, Some, Result, Ok, refl, sym, subst, arith}
use Rattle.std.specs.Prelude.{ok_or}
use Rattle.std.proofs.lemmas.Bool.Decides.{nat_tests}
use Rattle.plcr_base.specs.Chains.{◌>>=◌, result_map}
use Rattle.plcr_base.proofs.Chained.{bind_ok, if_ok, map_ok, ok_or_ok}
use Rattle.plcr_loader.specs.declared.load_command.LoadCommand.{LoadCommand}
use Rattle.plcr_loader.specs.declared.load_command.TheConstants.{LENGTH, CMD, CMDSIZE}
use Rattle.plcr_loader.specs.declared.trouble.Trouble.{Trouble}
use Rattle.plcr_loader.specs.declared.trouble.Trouble.TheVariants.{Bad, Absent}
use Rattle.plcr_loader.specs.Fields.{number}
use Rattle.plcr_loader.specs.Commands.{Bytes, Command, load_command_of, whole_at, framed_at}

-- what is known of a framed command: its front, and all its bytes
pub record IsFramed (source : Bytes) (end at : ℕ) (c : Command) : Type 0 where
  pub front : List ℕ
  pub begins : source at LENGTH ≡ Some front
  pub stands : c.place ≡ at
  pub least : LENGTH ≤ c.cmdsize
  pub within : at + c.cmdsize ≤ end
  pub there : source at c.cmdsize ≡ Some c.bytes
  pub cmd : c.cmd ≡ number CMD front
  pub cmdsize : c.cmdsize ≡ number CMDSIZE front

size_fits : (size end at : ℕ) → (nat_lt size LENGTH || nat_lt end (at + size)) ≡ false → (LENGTH ≤ size) × (at + size ≤ end)
size_fits size end at h = (grind (arith, nat_tests), grind (arith, nat_tests))

pub framed_ok : (source : Bytes) (end index at : ℕ) (c : Command) → framed_at source end index at ≡ Ok c → IsFramed source end at c
unfolding framed_at
framed_ok source end index at c h =
    let read = λ (front : List ℕ). whole_at source end index at (number CMD front) (number CMDSIZE front) in
    let a = if_ok (nat_lt end (at + LENGTH)) (Bad index) (ok_or (source at LENGTH) (Absent at) >>= read) c h in
    let b = bind_ok (ok_or (source at LENGTH) (Absent at)) read c a.1 in
    let cmd = number CMD b.0 in
    let size = number CMDSIZE b.0 in
    let made = λ (bytes : List ℕ). let d : Command = record { cmd = cmd; cmdsize = size; place = at; bytes = bytes } in d in
    let d = if_ok (nat_lt size LENGTH || nat_lt end (at + size)) (Bad index) (ok_or (source at size) (Absent at) >>= λ bytes. Ok (made bytes)) c b.2 in
    let e = bind_ok (ok_or (source at size) (Absent at)) (λ bytes. let r : Result Command Trouble = Ok (made bytes) in r) c d.1 in
    let same : made e.0 ≡ c = cc in
    subst (IsFramed source end at) same (record {
      front = b.0;
      begins = ok_or_ok (source at LENGTH) (Absent at) b.0 b.1;
      stands = refl;
      least = (size_fits size end at d.0).0;
      within = (size_fits size end at d.0).1;
      there = ok_or_ok (source at size) (Absent at) e.0 e.1;
      cmd = refl;
      cmdsize = refl;
    })

-- the command that says so of itself
pub framed_by : (source : Bytes) (end index at : ℕ) (said : LoadCommand) → Ok said ≡ result_map load_command_of (framed_at source end index at)
    → (c : Command) × (framed_at source end index at ≡ Ok c) × (said ≡ load_command_of c) × IsFramed source end at c
framed_by source end index at said h =
    let framed = map_ok load_command_of (framed_at source end index at) said (sym h) in
    (framed.0, framed.1, sym framed.2, framed_ok source end index at framed.0 framed.1)

-- a command by its place and its bytes
pub command_is : (c : Command) (at : ℕ) (bytes : List ℕ) → c.place ≡ at → c.bytes ≡ bytes → c ≡ record { cmd = c.cmd; cmdsize = c.cmdsize; place = at; bytes = bytes }
command_is c at bytes stands is = λ i. record { cmd = c.cmd; cmdsize = c.cmdsize; place = stands i; bytes = is i }
