-- The frames of threads, one thread after the other.
use Rattle.std.proofs.Common.{◌≡◌, ℕ, ◌+◌, ◌<◌, List, length, refl, ap, ◌∙◌, take}
use Rattle.std.specs.Prelude.{get_or}
use Rattle.std.proofs.lemmas.List.Sums.{sum_by_push}
use Rattle.std.proofs.lemmas.Option.{slice_get_read}
use Rattle.plcr_report.specs.declared.messages.Thread.{Thread}
use Rattle.plcr_command.proofs.Numbered.{take_next}
use Rattle.plcr_maker.specs.Make.{frames_in}

-- the frames of one thread more
pub frames_next : (threads : List Thread) (i : ℕ) (thread : Thread) → i < length threads → thread ≡ get_or threads i thread → frames_in (take (i + 1) threads) ≡ frames_in (take i threads) + length thread.frames
frames_next threads i thread within is =
    let there = slice_get_read threads (length threads) i thread refl within is in
    ap frames_in (take_next threads i thread there) ∙ sum_by_push (λ (t : Thread). length t.frames) (take i threads) thread
