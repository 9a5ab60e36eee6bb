-- The messages that hold other messages are read again.
use Rattle.std.proofs.Common.{◌≡◌, ℕ, ◌%◌, ◌^◌, ◌==◌, List, [], ◌∷◌, ◌++◌, map, Option, Some, None, Result, Ok, Bool, cond, not, refl, ap, ◌∙◌, append-nil}
use Rattle.std.specs.Option.{IfSome}
use Rattle.plcr_wire.specs.Message.{Value, Number, Field}
use Rattle.plcr_base.specs.Chains.{◌>>=◌}
use Rattle.plcr_report.specs.Messages.{symbol_message, frame_message, register_message, thread_message, processor_message, image_message}
use Rattle.plcr_report.specs.declared.kinds.Kind.{Kind}
use Rattle.plcr_report.specs.declared.kinds.Kind.TheVariants as kinds
use Rattle.plcr_report.specs.declared.messages.Symbol.{Symbol}
use Rattle.plcr_report.specs.declared.messages.Frame.{Frame}
use Rattle.plcr_report.specs.declared.messages.Register.{Register}
use Rattle.plcr_report.specs.declared.messages.Thread.{Thread}
use Rattle.plcr_report.specs.declared.messages.Processor.{Processor}
use Rattle.plcr_report.specs.declared.messages.Image.{Image}
use Rattle.plcr_decode.specs.declared.faults.DecodeFault.{DecodeFault}
use Rattle.plcr_decode.specs.Fields.{messages_in, last_value, number_of, or_zero}
use Rattle.plcr_decode.specs.Required.{needs, each_whole}
use Rattle.plcr_decode.proofs.Wholes.{symbol_whole, frame_whole, register_whole, thread_whole, processor_whole, image_whole}
use Rattle.plcr_decode.specs.Values.{symbol_of, frame_of, register_of, thread_of, processor_of, image_of}
use Rattle.plcr_decode.proofs.Bounded.{FitsSymbol, FitsFrame, FitsRegister, FitsThread, FitsProcessor, FitsImage}
use Rattle.plcr_decode.proofs.Again.{Says, good_append, good_number, good_text, good_maybe_text, good_maybe_message, good_rows, rows_of, rows_messages, rows_whole, rows_values, rows_others, rows_last, one_whole_again, one_value_again}
use Rattle.plcr_decode.proofs.AgainLeaves.{low_same, wide, flag_fits, flag_same, symbol_says, register_says, processor_says}

-- one step after another
pub then_ok : (r next : Result (Unit {0}) DecodeFault) → r ≡ Ok tt → next ≡ Ok tt → (r >>= λ u. next) ≡ Ok tt
then_ok r next p q = ap (λ (r : Result (Unit {0}) DecodeFault). r >>= λ u. next) p ∙ q

frame_value : ℕ → Option Symbol → Frame
frame_value pc symbol = record { pc = pc; symbol = symbol }

frame_lacks : (pc : ℕ) (symbol : Option Symbol) → IfSome symbol FitsSymbol → frame_whole (frame_message (frame_value pc symbol)) ≡ Ok tt
unfolding frame_whole frame_message frame_value
frame_lacks pc None fits = refl
frame_lacks pc (Some s) fits = one_whole_again kinds.Symbol symbol_whole symbol_of (symbol_message s) s (symbol_says s fits)

frame_gives : (pc : ℕ) (symbol : Option Symbol) → IfSome symbol FitsSymbol → frame_of (frame_message (frame_value pc symbol)) ≡ frame_value pc symbol
unfolding frame_of frame_message frame_value
frame_gives pc None fits = refl
frame_gives pc (Some s) fits = ap (λ (x : Symbol). frame_value pc (Some x)) (one_value_again kinds.Symbol symbol_whole symbol_of (symbol_message s) s (symbol_says s fits))

pub frame_says : (f : Frame) → FitsFrame f → Says kinds.Frame frame_whole frame_of (frame_message f) f
unfolding frame_message frame_value
frame_says f h = record {
  good = (good_number kinds.Frame 3 f.pc refl refl h.pc, good_maybe_message kinds.Symbol symbol_whole symbol_of symbol_message FitsSymbol symbol_says kinds.Frame 6 f.symbol [] refl refl h.symbol tt);
  lacks_none = frame_lacks f.pc f.symbol h.symbol;
  gives = frame_gives f.pc f.symbol h.symbol;
  short = h.short;
}

image_value : ℕ → ℕ → List ℕ → Option (List ℕ) → Option Processor → Image
image_value base size name uuid code = record { base_address = base; size = size; name = name; uuid = uuid; code_type = code }

image_lacks : (base size : ℕ) (name : List ℕ) (uuid : Option (List ℕ)) (code : Option Processor) → IfSome code FitsProcessor → image_whole (image_message (image_value base size name uuid code)) ≡ Ok tt
unfolding image_whole image_message image_value
image_lacks base size name None None fits = refl
image_lacks base size name (Some u) None fits = refl
image_lacks base size name None (Some p) fits = one_whole_again kinds.Processor processor_whole processor_of (processor_message p) p (processor_says p fits)
image_lacks base size name (Some u) (Some p) fits = one_whole_again kinds.Processor processor_whole processor_of (processor_message p) p (processor_says p fits)

image_gives : (base size : ℕ) (name : List ℕ) (uuid : Option (List ℕ)) (code : Option Processor) → IfSome code FitsProcessor → image_of (image_message (image_value base size name uuid code)) ≡ image_value base size name uuid code
unfolding image_of image_message image_value
image_gives base size name None None fits = refl
image_gives base size name (Some u) None fits = refl
image_gives base size name None (Some p) fits = ap (λ (x : Processor). image_value base size name None (Some x)) (one_value_again kinds.Processor processor_whole processor_of (processor_message p) p (processor_says p fits))
image_gives base size name (Some u) (Some p) fits = ap (λ (x : Processor). image_value base size name (Some u) (Some x)) (one_value_again kinds.Processor processor_whole processor_of (processor_message p) p (processor_says p fits))

pub image_says : (i : Image) → FitsImage i → Says kinds.Image image_whole image_of (image_message i) i
unfolding image_message image_value
image_says i h = record {
  good = (
    good_number kinds.Image 1 i.base_address refl refl h.base_address,
    (
      good_number kinds.Image 2 i.size refl refl h.size,
      (
        good_text kinds.Image 3 i.name refl refl h.name,
        good_maybe_text kinds.Image 4 i.uuid _ refl refl h.uuid (good_maybe_message kinds.Processor processor_whole processor_of processor_message FitsProcessor processor_says kinds.Image 5 i.code_type [] refl refl h.code_type tt),
      ),
    ),
  );
  lacks_none = image_lacks i.base_address i.size i.name i.uuid i.code_type h.code_type;
  gives = image_gives i.base_address i.size i.name i.uuid i.code_type h.code_type;
  short = h.short;
}

-- the fields of frames and of registers
abbrev frames_in : List Frame → List Field
frames_in frames = rows_of kinds.Frame frame_whole frame_of 2 frame_message frames

abbrev registers_in : List Register → List Field
registers_in registers = rows_of kinds.Register register_whole register_of 4 register_message registers

-- a thread by what is asked of its fields
thread_from : Option Value → Option Value → List (List Field) → List (List Field) → Thread
thread_from n c frames registers = record {
  thread_number = or_zero (number_of n) % 2 ^ 32;
  frames = map frame_of frames;
  crashed = not (or_zero (number_of c) == 0);
  registers = map register_of registers;
}

thread_of_from : (fs : List Field) → thread_of fs ≡ thread_from (last_value 1 fs) (last_value 3 fs) (messages_in 2 fs) (messages_in 4 fs)
unfolding thread_of thread_from
thread_of_from fs = refl

same_four : {A B C D E : Type 0} (f : A → B → C → D → E) (a a' : A) (b b' : B) (c c' : C) (d d' : D) → a ≡ a' → b ≡ b' → c ≡ c' → d ≡ d' → f a b c d ≡ f a' b' c' d'
same_four f a a' b b' c c' d d' p q r s = ap (λ x. f x b c d) p ∙ (ap (λ x. f a' x c d) q ∙ (ap (λ x. f a' b' x d) r ∙ ap (f a' b' c') s))

module _ (t : Thread) (h : FitsThread t) where
  abbrev thread_fields : List Field
  thread_fields = record { number = 1; value = Number t.thread_number } ∷ (frames_in t.frames ++ (record { number = 3; value = Number (cond t.crashed 1 0) } ∷ (registers_in t.registers ++ [])))

  thread_number_in : last_value 1 thread_fields ≡ Some (Number t.thread_number)
  thread_number_in = rows_last kinds.Frame frame_whole frame_of frame_message 2 1 (Some (Number t.thread_number)) t.frames (record { number = 3; value = Number (cond t.crashed 1 0) } ∷ (registers_in t.registers ++ [])) refl
      ∙ rows_last kinds.Register register_whole register_of register_message 4 1 (Some (Number t.thread_number)) t.registers [] refl

  thread_crashed_in : last_value 3 thread_fields ≡ Some (Number (cond t.crashed 1 0))
  thread_crashed_in = rows_last kinds.Frame frame_whole frame_of frame_message 2 3 None t.frames (record { number = 3; value = Number (cond t.crashed 1 0) } ∷ (registers_in t.registers ++ [])) refl
      ∙ rows_last kinds.Register register_whole register_of register_message 4 3 (Some (Number (cond t.crashed 1 0))) t.registers [] refl

  thread_frames_in : messages_in 2 thread_fields ≡ map frame_message t.frames
  thread_frames_in = rows_messages kinds.Frame frame_whole frame_of frame_message FitsFrame frame_says 2 t.frames (record { number = 3; value = Number (cond t.crashed 1 0) } ∷ (registers_in t.registers ++ [])) refl h.frames
      ∙ (ap (λ l. map frame_message t.frames ++ l) (rows_others kinds.Register register_whole register_of register_message 4 2 t.registers [] refl) ∙ append-nil (map frame_message t.frames))

  thread_registers_in : messages_in 4 thread_fields ≡ map register_message t.registers
  thread_registers_in = rows_others kinds.Frame frame_whole frame_of frame_message 2 4 t.frames (record { number = 3; value = Number (cond t.crashed 1 0) } ∷ (registers_in t.registers ++ [])) refl
      ∙ (rows_messages kinds.Register register_whole register_of register_message FitsRegister register_says 4 t.registers [] refl h.registers ∙ append-nil (map register_message t.registers))

needs_two : (kind : Kind) (m n : ℕ) (fs : List Field) (v w : Value) → last_value m fs ≡ Some v → last_value n fs ≡ Some w → needs kind (m ∷ n ∷ []) fs ≡ Ok tt
needs_two kind m n fs v w p q = rw (p, q) refl

thread_lacks : (t : Thread) (h : FitsThread t) → thread_whole (thread_fields t h) ≡ Ok tt
unfolding thread_whole
thread_lacks t h =
    then_ok _ _ (needs_two kinds.Thread 1 3 (thread_fields t h) _ _ (thread_number_in t h) (thread_crashed_in t h))
    (then_ok _ _ (ap (each_whole frame_whole) (thread_frames_in t h) ∙ rows_whole kinds.Frame frame_whole frame_of frame_message FitsFrame frame_says t.frames h.frames)
    (ap (each_whole register_whole) (thread_registers_in t h) ∙ rows_whole kinds.Register register_whole register_of register_message FitsRegister register_says t.registers h.registers))

thread_value : ℕ → List Frame → Bool → List Register → Thread
thread_value number frames crashed registers = record { thread_number = number; frames = frames; crashed = crashed; registers = registers }

thread_from_value : (n c : ℕ) (frames registers : List (List Field)) → thread_from (Some (Number n)) (Some (Number c)) frames registers ≡ thread_value (n % 2 ^ 32) (map frame_of frames) (not (c == 0)) (map register_of registers)
unfolding thread_from thread_value
thread_from_value n c frames registers = refl

thread_gives : (t : Thread) (h : FitsThread t) → thread_of (thread_fields t h) ≡ thread_value t.thread_number t.frames t.crashed t.registers
thread_gives t h =
    thread_of_from (thread_fields t h)
    ∙ (same_four thread_from _ _ _ _ _ _ _ _ (thread_number_in t h) (thread_crashed_in t h) (thread_frames_in t h) (thread_registers_in t h)
    ∙ (thread_from_value t.thread_number (cond t.crashed 1 0) (map frame_message t.frames) (map register_message t.registers)
    ∙ same_four thread_value _ _ _ _ _ _ _ _ (low_same t.thread_number h.thread_number) (rows_values kinds.Frame frame_whole frame_of frame_message FitsFrame frame_says t.frames h.frames) (flag_same t.crashed)
    (rows_values kinds.Register register_whole register_of register_message FitsRegister register_says t.registers h.registers)))

pub thread_says : (t : Thread) → FitsThread t → Says kinds.Thread thread_whole thread_of (thread_message t) t
unfolding thread_message thread_value
thread_says t h = record {
  good = (
    good_number kinds.Thread 1 t.thread_number refl refl (wide t.thread_number h.thread_number),
    good_append kinds.Thread (frames_in t.frames) _ (good_rows kinds.Frame frame_whole frame_of frame_message FitsFrame frame_says kinds.Thread 2 t.frames refl refl h.frames) (
      good_number kinds.Thread 3 (cond t.crashed 1 0) refl refl (flag_fits t.crashed),
      good_append kinds.Thread (registers_in t.registers) [] (good_rows kinds.Register register_whole register_of register_message FitsRegister register_says kinds.Thread 4 t.registers refl refl h.registers) tt,
    ),
  );
  lacks_none = thread_lacks t h;
  gives = thread_gives t h;
  short = h.short;
}
