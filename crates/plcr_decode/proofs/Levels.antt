-- No level of messages is cut off: what a message lacks is what it lacks itself, or what the messages in it do.
use Rattle.std.proofs.Common.{◌≡◌, ℕ, suc, List, [], ◌∷◌, Result, refl, sym, ap, ◌∙◌}
use Rattle.std.specs.List.{AllByRecursion}
use Rattle.plcr_wire.specs.Message.{Field}
use Rattle.plcr_base.specs.Chains.{◌>>=◌}
use Rattle.plcr_report.specs.Schema.{Label, Required, Optional, Repeated, Row, rows}
use Rattle.plcr_report.specs.declared.kinds.Kind.{Kind}
use Rattle.plcr_report.specs.declared.kinds.Kind.TheVariants as kinds
use Rattle.plcr_report.specs.declared.kinds.Holds.{Holds}
use Rattle.plcr_report.specs.declared.kinds.Holds.TheVariants as holds
use Rattle.plcr_decode.specs.declared.faults.DecodeFault.{DecodeFault}
use Rattle.plcr_decode.specs.Fields.{messages_in}
use Rattle.plcr_decode.specs.Required.{has_all, held_whole, inner_whole, whole_within, whole, WholeByParts}
use Rattle.plcr_decode.proofs.Wholes.{bind_same, one_same, each_same, plain_system, plain_application, plain_symbol, plain_register, plain_processor, plain_signal, plain_process, plain_info}

-- two ways to judge agree at what a field holds
abbrev SameAt : (f g : Kind → List Field → Result (Unit {0}) DecodeFault) → Holds → Type 0
SameAt f g holds.Number = Unit {0}
SameAt f g holds.Text = Unit {0}
SameAt f g (holds.Message kind) = (m : List Field) → f kind m ≡ g kind m

abbrev SameRow : (f g : Kind → List Field → Result (Unit {0}) DecodeFault) → Row → Type 0
SameRow f g row = SameAt f g row.holds

held_same : (f g : Kind → List Field → Result (Unit {0}) DecodeFault) (h : Holds) (label : Label) (n : ℕ) (fs : List Field) → SameAt f g h → held_whole f h label n fs ≡ held_whole g h label n fs
held_same f g holds.Number label n fs same = refl
held_same f g holds.Text label n fs same = refl
held_same f g (holds.Message kind) Required n fs same = one_same (f kind) (g kind) n fs same
held_same f g (holds.Message kind) Optional n fs same = one_same (f kind) (g kind) n fs same
held_same f g (holds.Message kind) Repeated n fs same = each_same (f kind) (g kind) (messages_in n fs) same

inner_same : (f g : Kind → List Field → Result (Unit {0}) DecodeFault) (rows : List Row) (fs : List Field) → AllByRecursion (SameRow f g) rows → inner_whole f rows fs ≡ inner_whole g rows fs
inner_same f g [] fs same = refl
inner_same f g (row ∷ rows) fs same = bind_same _ _ _ _ (held_same f g row.holds row.label row.number fs same.0) (inner_same f g rows fs same.1)

-- one level more tells the same, where it does of the messages within
deeper : (kind : Kind) (k : ℕ) → AllByRecursion (SameRow (whole_within k) (whole_within (suc k))) (rows kind) → (fs : List Field) → whole_within (suc k) kind fs ≡ whole_within (suc (suc k)) kind fs
deeper kind k same fs = ap (λ (r : Result (Unit {0}) DecodeFault). has_all kind fs >>= λ u. r) (inner_same (whole_within k) (whole_within (suc k)) (rows kind) fs same)

symbol_same : (k : ℕ) (fs : List Field) → whole_within k kinds.Symbol fs ≡ whole_within (suc k) kinds.Symbol fs
symbol_same k fs = plain_symbol k fs ∙ sym (plain_symbol (suc k) fs)

register_same : (k : ℕ) (fs : List Field) → whole_within k kinds.Register fs ≡ whole_within (suc k) kinds.Register fs
register_same k fs = plain_register k fs ∙ sym (plain_register (suc k) fs)

processor_same : (k : ℕ) (fs : List Field) → whole_within k kinds.Processor fs ≡ whole_within (suc k) kinds.Processor fs
processor_same k fs = plain_processor k fs ∙ sym (plain_processor (suc k) fs)

frame_same : (k : ℕ) (fs : List Field) → whole_within (suc k) kinds.Frame fs ≡ whole_within (suc (suc k)) kinds.Frame fs
frame_same k = deeper kinds.Frame k (tt, (symbol_same k, tt))

thread_same : (fs : List Field) → whole_within 2 kinds.Thread fs ≡ whole_within 3 kinds.Thread fs
thread_same = deeper kinds.Thread 1 (tt, (frame_same 0, (tt, (register_same 1, tt))))

image_same : (fs : List Field) → whole_within 2 kinds.Image fs ≡ whole_within 3 kinds.Image fs
image_same = deeper kinds.Image 1 (tt, (tt, (tt, (tt, (processor_same 1, tt)))))

levels_same : (kind : Kind) → AllByRecursion (SameRow (whole_within 2) (whole_within 3)) (rows kind)
levels_same kinds.Root = (
  λ m. plain_system 2 m ∙ sym (plain_system 3 m),
  (
    λ m. plain_application 2 m ∙ sym (plain_application 3 m),
    (thread_same, (image_same, (λ m. plain_signal 2 m ∙ sym (plain_signal 3 m), (λ m. plain_process 2 m ∙ sym (plain_process 3 m), (λ m. plain_info 2 m ∙ sym (plain_info 3 m), tt))))),
  ),
)
levels_same kinds.System = (tt, (tt, (tt, (tt, (tt, tt)))))
levels_same kinds.Application = (tt, (tt, tt))
levels_same kinds.Thread = (tt, (frame_same 1, (tt, (register_same 2, tt))))
levels_same kinds.Frame = (tt, (symbol_same 2, tt))
levels_same kinds.Symbol = (tt, (tt, (tt, tt)))
levels_same kinds.Register = (tt, (tt, tt))
levels_same kinds.Image = (tt, (tt, (tt, (tt, (processor_same 2, tt)))))
levels_same kinds.Processor = (tt, (tt, (tt, tt)))
levels_same kinds.Signal = (tt, (tt, (tt, tt)))
levels_same kinds.Process = (tt, (tt, (tt, (tt, (tt, (tt, tt))))))
levels_same kinds.Info = (tt, (tt, tt))

pub whole_by_parts : WholeByParts
unfolding whole
whole_by_parts kind fs = ap (λ (r : Result (Unit {0}) DecodeFault). has_all kind fs >>= λ u. r) (inner_same (whole_within 2) (whole_within 3) (rows kind) fs (levels_same kind))
