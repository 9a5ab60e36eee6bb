-- What each kind of message lacks, written out.
use Rattle.std.proofs.Common.{◌≡◌, ℕ, zero, suc, List, [], ◌∷◌, Result, Ok, Err, cond, refl, ap, ◌∙◌}
use Rattle.plcr_wire.specs.Message.{Field}
use Rattle.plcr_base.specs.Chains.{◌>>=◌}
use Rattle.plcr_report.specs.Schema.{rows}
use Rattle.plcr_report.specs.declared.kinds.Kind.{Kind}
use Rattle.plcr_report.specs.declared.kinds.Kind.TheVariants as kinds
use Rattle.plcr_decode.specs.declared.faults.DecodeFault.{DecodeFault}
use Rattle.plcr_decode.specs.Fields.{has, messages_in, joined}
use Rattle.plcr_decode.specs.Required.{has_all, each_whole, one_whole, inner_whole, whole_within, whole}

unfoldable pub symbol_whole : List Field → Result (Unit {0}) DecodeFault
symbol_whole fs = has_all kinds.Symbol fs

unfoldable pub frame_whole : List Field → Result (Unit {0}) DecodeFault
frame_whole fs = has_all kinds.Frame fs >>= λ u. one_whole symbol_whole 6 fs

unfoldable pub register_whole : List Field → Result (Unit {0}) DecodeFault
register_whole fs = has_all kinds.Register fs

unfoldable pub thread_whole : List Field → Result (Unit {0}) DecodeFault
thread_whole fs = has_all kinds.Thread fs >>= λ u. (each_whole frame_whole (messages_in 2 fs) >>= λ u. each_whole register_whole (messages_in 4 fs))

unfoldable pub system_whole : List Field → Result (Unit {0}) DecodeFault
system_whole fs = has_all kinds.System fs

unfoldable pub application_whole : List Field → Result (Unit {0}) DecodeFault
application_whole fs = has_all kinds.Application fs

unfoldable pub processor_whole : List Field → Result (Unit {0}) DecodeFault
processor_whole fs = has_all kinds.Processor fs

unfoldable pub image_whole : List Field → Result (Unit {0}) DecodeFault
image_whole fs = has_all kinds.Image fs >>= λ u. one_whole processor_whole 5 fs

unfoldable pub signal_whole : List Field → Result (Unit {0}) DecodeFault
signal_whole fs = has_all kinds.Signal fs

unfoldable pub process_whole : List Field → Result (Unit {0}) DecodeFault
process_whole fs = has_all kinds.Process fs

unfoldable pub info_whole : List Field → Result (Unit {0}) DecodeFault
info_whole fs = has_all kinds.Info fs

unfoldable pub report_whole : List Field → Result (Unit {0}) DecodeFault
report_whole fs =
    has_all kinds.Root fs >>= λ u. (one_whole system_whole 1 fs >>= λ u. (one_whole application_whole 2 fs
    >>= λ u. (each_whole thread_whole (messages_in 3 fs) >>= λ u. (each_whole image_whole (messages_in 4 fs)
    >>= λ u. (one_whole signal_whole 6 fs >>= λ u. (one_whole process_whole 7 fs >>= λ u. one_whole info_whole 9 fs))))))

pub bind_unit : (r : Result (Unit {0}) DecodeFault) → (r >>= λ u. Ok tt) ≡ r
bind_unit (Ok u) = refl
bind_unit (Err e) = refl

pub bind_same : (r s : Result (Unit {0}) DecodeFault) (x y : Result (Unit {0}) DecodeFault) → r ≡ s → x ≡ y → (r >>= λ u. x) ≡ (s >>= λ u. y)
bind_same r s x y p q = ap (λ (r : Result (Unit {0}) DecodeFault). r >>= λ u. x) p ∙ ap (λ (x : Result (Unit {0}) DecodeFault). s >>= λ u. x) q

pub one_same : (f g : List Field → Result (Unit {0}) DecodeFault) (n : ℕ) (fs : List Field) → ((m : List Field) → f m ≡ g m) → one_whole f n fs ≡ one_whole g n fs
one_same f g n fs h = ap (λ (r : Result (Unit {0}) DecodeFault). cond (has n fs) r (Ok tt)) (h (joined n fs))

pub each_same : (f g : List Field → Result (Unit {0}) DecodeFault) (ms : List (List Field)) → ((m : List Field) → f m ≡ g m) → each_whole f ms ≡ each_whole g ms
each_same f g [] h = refl
each_same f g (m ∷ ms) h = bind_same (f m) (g m) (each_whole f ms) (each_whole g ms) (h m) (each_same f g ms h)

-- a message that holds none lacks only fields of its own
plain : (kind : Kind) → ((w : Kind → List Field → Result (Unit {0}) DecodeFault) (fs : List Field) → inner_whole w (rows kind) fs ≡ Ok tt) → (k : ℕ) (fs : List Field) → whole_within k kind fs ≡ has_all kind fs
plain kind none zero fs = refl
plain kind none (suc k) fs = ap (λ (r : Result (Unit {0}) DecodeFault). has_all kind fs >>= λ u. r) (none (whole_within k) fs) ∙ bind_unit (has_all kind fs)

pub plain_system : (k : ℕ) (fs : List Field) → whole_within k kinds.System fs ≡ has_all kinds.System fs
plain_system = plain kinds.System (λ w fs. refl)

pub plain_application : (k : ℕ) (fs : List Field) → whole_within k kinds.Application fs ≡ has_all kinds.Application fs
plain_application = plain kinds.Application (λ w fs. refl)

pub plain_symbol : (k : ℕ) (fs : List Field) → whole_within k kinds.Symbol fs ≡ has_all kinds.Symbol fs
plain_symbol = plain kinds.Symbol (λ w fs. refl)

pub plain_register : (k : ℕ) (fs : List Field) → whole_within k kinds.Register fs ≡ has_all kinds.Register fs
plain_register = plain kinds.Register (λ w fs. refl)

pub plain_processor : (k : ℕ) (fs : List Field) → whole_within k kinds.Processor fs ≡ has_all kinds.Processor fs
plain_processor = plain kinds.Processor (λ w fs. refl)

pub plain_signal : (k : ℕ) (fs : List Field) → whole_within k kinds.Signal fs ≡ has_all kinds.Signal fs
plain_signal = plain kinds.Signal (λ w fs. refl)

pub plain_process : (k : ℕ) (fs : List Field) → whole_within k kinds.Process fs ≡ has_all kinds.Process fs
plain_process = plain kinds.Process (λ w fs. refl)

pub plain_info : (k : ℕ) (fs : List Field) → whole_within k kinds.Info fs ≡ has_all kinds.Info fs
plain_info = plain kinds.Info (λ w fs. refl)

frame_written : (fs : List Field) → whole_within 1 kinds.Frame fs ≡ frame_whole fs
unfolding frame_whole symbol_whole
frame_written fs =
    ap (λ (r : Result (Unit {0}) DecodeFault). has_all kinds.Frame fs >>= λ u. r)
    (bind_unit (one_whole (whole_within 0 kinds.Symbol) 6 fs) ∙ one_same (whole_within 0 kinds.Symbol) symbol_whole 6 fs (plain_symbol 0))

register_written : (fs : List Field) → whole_within 1 kinds.Register fs ≡ register_whole fs
unfolding register_whole
register_written fs = plain_register 1 fs

thread_written : (fs : List Field) → whole_within 2 kinds.Thread fs ≡ thread_whole fs
unfolding thread_whole
thread_written fs =
    ap (λ (r : Result (Unit {0}) DecodeFault). has_all kinds.Thread fs >>= λ u. r)
    (bind_same _ _ _ _ (each_same (whole_within 1 kinds.Frame) frame_whole (messages_in 2 fs) frame_written)
    (bind_unit (each_whole (whole_within 1 kinds.Register) (messages_in 4 fs)) ∙ each_same (whole_within 1 kinds.Register) register_whole (messages_in 4 fs) register_written))

image_written : (fs : List Field) → whole_within 2 kinds.Image fs ≡ image_whole fs
unfolding image_whole processor_whole
image_written fs =
    ap (λ (r : Result (Unit {0}) DecodeFault). has_all kinds.Image fs >>= λ u. r)
    (bind_unit (one_whole (whole_within 1 kinds.Processor) 5 fs) ∙ one_same (whole_within 1 kinds.Processor) processor_whole 5 fs (plain_processor 1))

-- so what a report lacks is this
pub root_written : (fs : List Field) → whole kinds.Root fs ≡ report_whole fs
unfolding whole report_whole system_whole application_whole signal_whole process_whole info_whole
root_written fs =
    ap (λ (r : Result (Unit {0}) DecodeFault). has_all kinds.Root fs >>= λ u. r)
    (bind_same _ _ _ _ (one_same (whole_within 2 kinds.System) system_whole 1 fs (plain_system 2))
    (bind_same _ _ _ _ (one_same (whole_within 2 kinds.Application) application_whole 2 fs (plain_application 2))
    (bind_same _ _ _ _ (each_same (whole_within 2 kinds.Thread) thread_whole (messages_in 3 fs) thread_written)
    (bind_same _ _ _ _ (each_same (whole_within 2 kinds.Image) image_whole (messages_in 4 fs) image_written)
    (bind_same _ _ _ _ (one_same (whole_within 2 kinds.Signal) signal_whole 6 fs (plain_signal 2))
    (bind_same _ _ _ _ (one_same (whole_within 2 kinds.Process) process_whole 7 fs (plain_process 2))
    (bind_unit (one_whole (whole_within 2 kinds.Info) 9 fs) ∙ one_same (whole_within 2 kinds.Info) info_whole 9 fs (plain_info 2))))))))
