-- The messages that hold no other message are read again.
use Rattle.std.proofs.Common.{◌≡◌, ℕ, ◌%◌, ◌^◌, ◌<◌, ◌==◌, List, [], Option, Some, None, Ok, Bool, cond, true, false, not, refl, ap, ◌∙◌, arith}
use Rattle.std.specs.Prelude.{ℤ}
use Rattle.std.specs.Int.{w64, cast_signed, cast_unsigned}
use Rattle.std.proofs.Math.Facts.{to_z-of_z, Fits-of_z}
use Rattle.plcr_report.specs.Messages.{symbol_message, register_message, system_message, application_message, processor_message, signal_message, process_message, info_message}
use Rattle.plcr_report.specs.declared.kinds.Kind.TheVariants as kinds
use Rattle.plcr_report.specs.declared.messages.System.{System}
use Rattle.plcr_report.specs.declared.messages.Application.{Application}
use Rattle.plcr_report.specs.declared.messages.Symbol.{Symbol}
use Rattle.plcr_report.specs.declared.messages.Register.{Register}
use Rattle.plcr_report.specs.declared.messages.Processor.{Processor}
use Rattle.plcr_report.specs.declared.messages.Signal.{Signal}
use Rattle.plcr_report.specs.declared.messages.Process.{Process}
use Rattle.plcr_report.specs.declared.messages.Info.{Info}
use Rattle.plcr_decode.proofs.Wholes.{symbol_whole, register_whole, system_whole, application_whole, processor_whole, signal_whole, process_whole, info_whole}
use Rattle.plcr_decode.specs.Values.{symbol_of, register_of, system_of, application_of, processor_of, signal_of, process_of, info_of}
use Rattle.plcr_decode.proofs.Bounded.{FitsSymbol, FitsRegister, FitsSystem, FitsApplication, FitsProcessor, FitsSignal, FitsProcess, FitsInfo}
use Rattle.plcr_decode.proofs.Again.{Says, good_number, good_text, good_maybe_number, good_maybe_text}

-- a number of 32 bits keeps all its bits
pub low_same : (n : ℕ) → n < 2 ^ 32 → n % 2 ^ 32 ≡ n
low_same n h = omega arith

pub wide : (n : ℕ) → n < 2 ^ 32 → n < 2 ^ 64
wide n h = omega arith

pub flag_fits : (b : Bool) → cond b 1 0 < 2 ^ 64
flag_fits true = omega arith
flag_fits false = omega arith

symbol_lacks : (name : List ℕ) (start : ℕ) (end : Option ℕ) → symbol_whole (symbol_message (record { name = name; start_address = start; end_address = end })) ≡ Ok tt
unfolding symbol_whole symbol_message
symbol_lacks name start None = refl
symbol_lacks name start (Some e) = refl

symbol_gives : (name : List ℕ) (start : ℕ) (end : Option ℕ) → symbol_of (symbol_message (record { name = name; start_address = start; end_address = end })) ≡ record { name = name; start_address = start; end_address = end }
unfolding symbol_of symbol_message
symbol_gives name start None = refl
symbol_gives name start (Some e) = refl

pub symbol_says : (s : Symbol) → FitsSymbol s → Says kinds.Symbol symbol_whole symbol_of (symbol_message s) s
unfolding symbol_message
symbol_says s h = record {
  good = (good_text kinds.Symbol 1 s.name refl refl h.name, (good_number kinds.Symbol 2 s.start_address refl refl h.start_address, good_maybe_number kinds.Symbol 3 s.end_address [] refl refl h.end_address tt));
  lacks_none = symbol_lacks s.name s.start_address s.end_address;
  gives = symbol_gives s.name s.start_address s.end_address;
  short = h.short;
}

pub register_says : (r : Register) → FitsRegister r → Says kinds.Register register_whole register_of (register_message r) r
unfolding register_message register_whole register_of
register_says r h = record {
  good = (good_text kinds.Register 1 r.name refl refl h.name, (good_number kinds.Register 2 r.value refl refl h.value, tt));
  lacks_none = refl;
  gives = refl;
  short = h.short;
}

pub application_says : (a : Application) → FitsApplication a → Says kinds.Application application_whole application_of (application_message a) a
unfolding application_message application_whole application_of
application_says a h = record {
  good = (good_text kinds.Application 1 a.identifier refl refl h.identifier, (good_text kinds.Application 2 a.version refl refl h.version, tt));
  lacks_none = refl;
  gives = refl;
  short = h.short;
}

pub signal_says : (s : Signal) → FitsSignal s → Says kinds.Signal signal_whole signal_of (signal_message s) s
unfolding signal_message signal_whole signal_of
signal_says s h = record {
  good = (good_text kinds.Signal 1 s.name refl refl h.name, (good_text kinds.Signal 2 s.code refl refl h.code, (good_number kinds.Signal 3 s.address refl refl h.address, tt)));
  lacks_none = refl;
  gives = refl;
  short = h.short;
}

processor_value : ℕ → ℕ → ℕ → Processor
processor_value encoding cpu subtype = record { encoding = encoding; cpu = cpu; subtype = subtype }

pub processor_says : (p : Processor) → FitsProcessor p → Says kinds.Processor processor_whole processor_of (processor_message p) p
unfolding processor_message processor_whole processor_of processor_value
processor_says p h = record {
  good = (good_number kinds.Processor 1 p.encoding refl refl (wide p.encoding h.encoding), (good_number kinds.Processor 2 p.cpu refl refl h.cpu, (good_number kinds.Processor 3 p.subtype refl refl h.subtype, tt)));
  lacks_none = refl;
  gives = ap (λ e. processor_value e p.cpu p.subtype) (low_same p.encoding h.encoding);
  short = h.short;
}

info_lacks : (b : Bool) (uuid : Option (List ℕ)) → info_whole (info_message (record { user_requested = b; uuid = uuid })) ≡ Ok tt
unfolding info_whole info_message
info_lacks b None = refl
info_lacks b (Some u) = refl

info_gives : (b : Bool) (uuid : Option (List ℕ)) → info_of (info_message (record { user_requested = b; uuid = uuid })) ≡ record { user_requested = b; uuid = uuid }
unfolding info_of info_message
info_gives true None = refl
info_gives false None = refl
info_gives true (Some u) = refl
info_gives false (Some u) = refl

pub info_says : (i : Info) → FitsInfo i → Says kinds.Info info_whole info_of (info_message i) i
unfolding info_message
info_says i h = record {
  good = (good_number kinds.Info 1 (cond i.user_requested 1 0) refl refl (flag_fits i.user_requested), good_maybe_text kinds.Info 2 i.uuid [] refl refl h.uuid tt);
  lacks_none = info_lacks i.user_requested i.uuid;
  gives = info_gives i.user_requested i.uuid;
  short = h.short;
}

system_value : ℕ → List ℕ → ℕ → ℤ → Option (List ℕ) → System
system_value os version arch time build = record { operating_system = os; os_version = version; architecture = arch; timestamp = time; os_build = build }

system_lacks : (os : ℕ) (version : List ℕ) (arch : ℕ) (time : ℤ) (build : Option (List ℕ)) → system_whole (system_message (system_value os version arch time build)) ≡ Ok tt
unfolding system_whole system_message system_value
system_lacks os version arch time None = refl
system_lacks os version arch time (Some b) = refl

system_gives : (os : ℕ) (version : List ℕ) (arch : ℕ) (time : ℤ) (build : Option (List ℕ)) → system_of (system_message (system_value os version arch time build)) ≡ system_value (os % 2 ^ 32) version (arch % 2 ^ 32) (cast_signed w64 (cast_unsigned w64 time)) build
unfolding system_of system_message system_value
system_gives os version arch time None = refl
system_gives os version arch time (Some b) = refl

pub system_says : (s : System) → FitsSystem s → Says kinds.System system_whole system_of (system_message s) s
unfolding system_message system_value
system_says s h = record {
  good = (
    good_number kinds.System 1 s.operating_system refl refl (wide s.operating_system h.operating_system),
    (
      good_text kinds.System 2 s.os_version refl refl h.os_version,
      (
        good_number kinds.System 3 s.architecture refl refl (wide s.architecture h.architecture),
        (
          good_number kinds.System 4 (cast_unsigned w64 s.timestamp) refl refl ((Fits-of_z h.timestamp).fits),
          good_maybe_text kinds.System 5 s.os_build [] refl refl h.os_build tt,
        ),
      ),
    ),
  );
  lacks_none = system_lacks s.operating_system s.os_version s.architecture s.timestamp s.os_build;
  gives = system_gives s.operating_system s.os_version s.architecture s.timestamp s.os_build
      ∙ (ap (λ os. system_value os s.os_version (s.architecture % 2 ^ 32) (cast_signed w64 (cast_unsigned w64 s.timestamp)) s.os_build) (low_same s.operating_system h.operating_system)
      ∙ (ap (λ arch. system_value s.operating_system s.os_version arch (cast_signed w64 (cast_unsigned w64 s.timestamp)) s.os_build) (low_same s.architecture h.architecture)
      ∙ ap (λ time. system_value s.operating_system s.os_version s.architecture time s.os_build) (to_z-of_z h.timestamp)));
  short = h.short;
}

process_value : Option (List ℕ) → ℕ → Option (List ℕ) → Option (List ℕ) → ℕ → Bool → Process
process_value name id path parent parent_id native = record { name = name; id = id; path = path; parent_name = parent; parent_id = parent_id; native = native }

process_lacks : (name : Option (List ℕ)) (id : ℕ) (path parent : Option (List ℕ)) (parent_id : ℕ) (native : Bool) → process_whole (process_message (process_value name id path parent parent_id native)) ≡ Ok tt
unfolding process_whole process_message process_value
process_lacks None id None None parent_id native = refl
process_lacks None id None (Some c) parent_id native = refl
process_lacks None id (Some b) None parent_id native = refl
process_lacks None id (Some b) (Some c) parent_id native = refl
process_lacks (Some a) id None None parent_id native = refl
process_lacks (Some a) id None (Some c) parent_id native = refl
process_lacks (Some a) id (Some b) None parent_id native = refl
process_lacks (Some a) id (Some b) (Some c) parent_id native = refl

process_gives : (name : Option (List ℕ)) (id : ℕ) (path parent : Option (List ℕ)) (parent_id : ℕ) (native : Bool) → process_of (process_message (process_value name id path parent parent_id native)) ≡ process_value name (id % 2 ^ 32) path parent (parent_id % 2 ^ 32) (not (cond native 1 0 == 0))
unfolding process_of process_message process_value
process_gives None id None None parent_id native = refl
process_gives None id None (Some c) parent_id native = refl
process_gives None id (Some b) None parent_id native = refl
process_gives None id (Some b) (Some c) parent_id native = refl
process_gives (Some a) id None None parent_id native = refl
process_gives (Some a) id None (Some c) parent_id native = refl
process_gives (Some a) id (Some b) None parent_id native = refl
process_gives (Some a) id (Some b) (Some c) parent_id native = refl

pub flag_same : (b : Bool) → not (cond b 1 0 == 0) ≡ b
flag_same true = refl
flag_same false = refl

pub process_says : (p : Process) → FitsProcess p → Says kinds.Process process_whole process_of (process_message p) p
unfolding process_message process_value
process_says p h = record {
  good = good_maybe_text kinds.Process 1 p.name _ refl refl h.name (
    good_number kinds.Process 2 p.id refl refl (wide p.id h.id),
    good_maybe_text kinds.Process 3 p.path _ refl refl h.path (good_maybe_text kinds.Process 4 p.parent_name _ refl refl h.parent_name
        (good_number kinds.Process 5 p.parent_id refl refl (wide p.parent_id h.parent_id), (good_number kinds.Process 6 (cond p.native 1 0) refl refl (flag_fits p.native), tt))),
  );
  lacks_none = process_lacks p.name p.id p.path p.parent_name p.parent_id p.native;
  gives = process_gives p.name p.id p.path p.parent_name p.parent_id p.native
      ∙ (ap (λ id. process_value p.name id p.path p.parent_name (p.parent_id % 2 ^ 32) (not (cond p.native 1 0 == 0))) (low_same p.id h.id)
      ∙ (ap (λ id. process_value p.name p.id p.path p.parent_name id (not (cond p.native 1 0 == 0))) (low_same p.parent_id h.parent_id)
      ∙ ap (process_value p.name p.id p.path p.parent_name p.parent_id) (flag_same p.native)));
  short = h.short;
}
