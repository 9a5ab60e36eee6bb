-- What the caller by a saved frame is, above the order in which it is looked for.
use Rattle.std.specs.Prelude.{◌≡◌, ◌≢◌, ◌<◌, ◌⊎◌, ℕ, List, Some}
use Rattle.plcr_base.specs.Numbers.{u64_in}
use Rattle.plcr_memory.specs.Regions.{Contents, bytes_at}
use Rattle.plcr_regs.specs.declared.frame.Frame.{Frame}
use Rattle.plcr_regs.specs.Frames.{register_at}
use Rattle.plcr_regs.specs.Places.{fp_place}
use Rattle.plcr_frameptr.specs.declared.saved.TheConstants.{SAVED_FRAME}
use Rattle.plcr_frameptr.specs.Saved.{caller_of}

-- the frame pointer of the one is known and leads to two words, and the other is the caller by
-- them; its frame pointer is 0 or lies above
pub record IsCaller (memory : Contents) (frame caller : Frame) : Type 0 where
  pub pointer : ℕ
  pub words : List ℕ
  pub known : register_at frame.registers (fp_place frame.registers.arch) ≡ Some pointer
  pub leads : pointer ≢ 0
  pub there : bytes_at memory pointer SAVED_FRAME ≡ Some words
  pub rises : (u64_in words 0 ≡ 0) ⊎ (pointer < u64_in words 0)
  pub is : caller ≡ caller_of frame pointer (u64_in words 0) (u64_in words 8)
