-- When a load is refused since no node is free.
use Rattle.std.specs.Prelude.{◌≡◌, ℕ, ◌+◌, ◌*◌, ◌<◌, ◌≤◌, length}
use Rattle.plcr_machine.specs.Lists.{live, changes}
use Rattle.plcr_machine.specs.declared.limits.TheConstants.{COUNT_UNIT}
use Rattle.plcr_imagelist.specs.declared.refusals.LoadRefused.{LoadRefused}
use Rattle.plcr_imagelist.specs.declared.refusals.LoadRefused.TheVariants.{Full, NameTooLong, Worn}
use Rattle.plcr_imagelist.specs.Finding.{NoneFree}
use Rattle.plcr_imagelist.specs.States.{WriterState}
use Rattle.plcr_imagelist.specs.Changes.{Looks}

-- no node is free, even after a look at each pass, and so many of these had a stamp
pub record IsFull (old : WriterState) (lives held seen : ℕ) (new : WriterState) : Type 0 where
  pub none : NoneFree old.nodes old.passes old.history
  pub announced : ℕ
  pub few : announced ≤ old.passes
  pub looks : Looks old.passes old announced new
  pub still : NoneFree new.nodes new.passes new.history
  pub live : lives ≡ length (live new.history)
  pub all : lives + held ≡ new.nodes
  pub seen_is : seen ≡ changes old.history * COUNT_UNIT + announced
  pub held_back : 0 < held → 0 < announced

abbrev pub RefusesFull : WriterState → WriterState → LoadRefused → Type 0
RefusesFull old new (Full lives held seen) = IsFull old lives held seen new
RefusesFull old new (NameTooLong len) = ⊥
RefusesFull old new (Worn changes) = ⊥
