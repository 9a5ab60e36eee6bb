-- The answer that counts is the first that isn't Bad.
use Rattle.std.proofs.Common.{◌≡◌, Option, Some, None, refl}
use Rattle.std.specs.Prelude.{◌++◌, ◌∷◌, [], List, find, not}
use Rattle.std.specs.Option.{option_and_then}
use Rattle.plcr_memory.specs.Regions.{Contents}
use Rattle.plcr_regs.specs.declared.frame.Frame.{Frame}
use Rattle.plcr_regs.specs.declared.frame.Step.{Step}
use Rattle.plcr_regs.specs.declared.frame.Step.TheVariants as steps
use Rattle.plcr_macho.specs.declared.image.Image.{Image}
use Rattle.plcr_macho.specs.Images.{Listed}
use Rattle.plcr_cursor.specs.declared.given.Reader.{Reader}
use Rattle.plcr_cursor.specs.Frames.{call_frame_answer, caller_in, compact_answer, given_in, image_answers, image_over, is_bad, saved_answer}
use Rattle.plcr_cursor.specs.inner.Answering.{answer_by, or_next}

alone : (r : Reader) (s : Step) → option_and_then given_in (find (λ a. not (is_bad a.step)) (record { step = s; by = r } ∷ [])) ≡ given_in (record { step = s; by = r })
alone r (steps.Frame f) = refl
alone r steps.End = refl
alone r (steps.Bad n) = refl

two : (r q : Reader) (s t : Step) → option_and_then given_in (find (λ a. not (is_bad a.step)) (record { step = s; by = r } ∷ record { step = t; by = q } ∷ [])) ≡ given_in (or_next (record { step = s; by = r }) (record { step = t; by = q }))
two r q (steps.Frame f) t = refl
two r q steps.End t = refl
two r q (steps.Bad n) t = alone q t

three : (r q p : Reader) (s t u : Step)
    → option_and_then given_in (find (λ a. not (is_bad a.step)) (record { step = s; by = r } ∷ record { step = t; by = q } ∷ record { step = u; by = p } ∷ []))
    ≡ given_in (or_next (or_next (record { step = s; by = r }) (record { step = t; by = q })) (record { step = u; by = p }))
three r q p (steps.Frame f) t u = refl
three r q p steps.End t u = refl
three r q p (steps.Bad n) t u = two q p t u

by_image : (memory : Contents) (frame : Frame) (image : Option Image)
    → option_and_then given_in (find (λ a. not (is_bad a.step)) (image_answers memory frame image ++ saved_answer memory frame ∷ []))
    ≡ given_in (answer_by memory frame image)
by_image memory frame None = alone (saved_answer memory frame).by (saved_answer memory frame).step
by_image memory frame (Some image) =
    three (compact_answer memory frame image).by (call_frame_answer memory frame image).by (saved_answer memory frame).by
    (compact_answer memory frame image).step (call_frame_answer memory frame image).step (saved_answer memory frame).step

pub caller_by : (memory : Contents) (images : List Listed) (frame : Frame) → caller_in memory images frame ≡ given_in (answer_by memory frame (image_over memory images frame))
unfolding caller_in
caller_by memory images frame = by_image memory frame (image_over memory images frame)
