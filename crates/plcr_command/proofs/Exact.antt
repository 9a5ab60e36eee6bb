-- Where a command refuses a core, and where scripts, exactly; and that a core and scripts mean one job.
use Rattle.std.proofs.Common.{inl, inr, ◌⊎◌, ◌≡◌, ◌≢◌, ℕ, All, List, [], ◌∷◌, Result, Ok, Err, refl, sym, ap, ◌∙◌, arith}
use Rattle.std.proofs.lemmas.List.Elements.{All-get_or}
use Rattle.plcr_memory.specs.declared.region.Region.{Region}
use Rattle.plcr_memory.specs.Regions.{region_at, Ends}
use Rattle.plcr_memory.specs.Faults.{IsFirstWrap}
use Rattle.plcr_core.specs.declared.fault.CoreFault.{CoreFault}
use Rattle.plcr_core.specs.declared.fault.CoreFault.TheVariants as cores
use Rattle.plcr_core.specs.declared.read.Core.{Core}
use Rattle.plcr_core.specs.Cores.{Parts, parts_in}
use Rattle.plcr_core.specs.Reading.{IsAnswer}
use Rattle.plcr_script.specs.Scripts.{ScriptValue}
use Rattle.plcr_command.specs.declared.jobs.Job.{Job}
use Rattle.plcr_command.specs.declared.jobs.Modes.{Modes}
use Rattle.plcr_command.specs.declared.refusals.Refusal.{Refusal}
use Rattle.plcr_command.specs.declared.refusals.Refusal.TheVariants.{CannotRead, TooLong, CoreRefused, ScriptRefused, ReportRefused, OutOfMemory}
use Rattle.plcr_command.specs.Jobs.{IsJob, JobMisread, HasNoCore, HasNoScript, scripts_in}
use Rattle.plcr_command.specs.Complete.{ComesExactly}
use Rattle.plcr_command.proofs.Offered.{Found, Value, None, Wants}

-- a file has one core
one_core : (file : List ℕ) (read : Result Parts CoreFault) (a b : Core) → IsAnswer file read (Ok a) → IsAnswer file read (Ok b) → a ≡ b
one_core file (Ok p) a b x y = x.0 ∙ sym y.0
one_core file (Err fault) a b x y = absurd cc

no_wrap : (rs : List Region) (index : ℕ) → All Ends rs → IsFirstWrap rs index → ⊥
no_wrap rs index ends wrap =
    let fits : Ends (region_at rs index) = All-get_or Ends rs index (record { start = 0; size = 0; «from» = 0; len = 0 }) wrap.inside ends in
    let past = wrap.wraps in
    omega (arith, fits, past)

-- a core has no fault
core_or_fault : (file : List ℕ) (read : Result Parts CoreFault) (a : Core) (fault : CoreFault) → fault ≢ cores.Memory → IsAnswer file read (Ok a) → IsAnswer file read (Err fault) → ⊥
core_or_fault file (Err e) a fault named x y = absurd cc
core_or_fault file (Ok p) a (cores.Truncated at) named x y = y
core_or_fault file (Ok p) a (cores.NotCore magic filetype) named x y = y
core_or_fault file (Ok p) a (cores.OtherCpu cpu) named x y = y
core_or_fault file (Ok p) a (cores.BadCommand index) named x y = y
core_or_fault file (Ok p) a cores.NoThread named x y = y
core_or_fault file (Ok p) a (cores.TooManyThreads count) named x y = y
core_or_fault file (Ok p) a (cores.Overlap first second) named x y = x.2 first second y.1.before y.1.inside y.1.shared
core_or_fault file (Ok p) a (cores.Wraps index) named x y = no_wrap p.regions index x.1 y
core_or_fault file (Ok p) a cores.Memory named x y = named refl

one_reading : {A E : Type 0} (read : Result A E) (a b : A) → read ≡ Ok a → read ≡ Ok b → a ≡ b
one_reading read a b x y = cc

same_job : (a b : Job) → a.core ≡ b.core → a.scripts ≡ b.scripts → a ≡ b
same_job a b one two =
    let F : Core → List ScriptValue → Job = λ core scripts. record { core = core; scripts = scripts } in
    ap (λ core. F core a.scripts) one ∙ ap (λ scripts. F b.core scripts) two

-- the bytes of a core and of scripts mean one job
pub one_job : (modes : Modes) (contents : List (List ℕ)) (a b : Job) → IsJob modes contents a → IsJob modes contents b → a ≡ b
one_job modes [] a b x y = absurd x
one_job modes (core_bytes ∷ contents) a b x y =
    same_job a b (one_core core_bytes (parts_in core_bytes) a.core b.core x.0 y.0) (one_reading (scripts_in modes contents) a.scripts b.scripts x.1 y.1)

-- and are refused for want of memory alone
pub job_wants : (modes : Modes) (contents : List (List ℕ)) (job : Job) (refusal : Refusal) → IsJob modes contents job → JobMisread modes contents refusal → refusal ≡ OutOfMemory
job_wants modes [] job refusal read is = absurd read
job_wants modes (core_bytes ∷ contents) job (CannotRead word) read is = absurd is
job_wants modes (core_bytes ∷ contents) job (TooLong word) read is = absurd is
job_wants modes (core_bytes ∷ contents) job (CoreRefused fault) read is = absurd (core_or_fault core_bytes (parts_in core_bytes) job.core fault is.no_want read.0 is.first)
job_wants modes (core_bytes ∷ contents) job (ScriptRefused script line kind) read is = let a = is.2 in let b = read.1 in absurd cc
job_wants modes (core_bytes ∷ contents) job (ReportRefused fault) read is = absurd is
job_wants modes (core_bytes ∷ contents) job OutOfMemory read is = refl

-- a core and scripts, or what they are refused for, or want of memory
data Read (modes : Modes) (contents : List (List ℕ)) (status : ℕ) : Type 0 where
  Both : (job : Job) (read : IsJob modes contents job) (is : (status ≡ 0) ⊎ (status ≡ 5)) → Read modes contents status
  NoCore : (none : HasNoCore contents) (is : status ≡ 3) → Read modes contents status
  NoScript : (none : HasNoScript modes contents) (is : status ≡ 4) → Read modes contents status
  Wanting : (is : status ≡ 7) → Read modes contents status

refused_by : (modes : Modes) (contents : List (List ℕ)) (status : ℕ) → Found (IsJob modes) (JobMisread modes) contents status → Read modes contents status
refused_by modes contents status (Value job read is) = Both job read is
refused_by modes contents status (Wants is) = Wanting is
refused_by modes [] status (None refusal misread is) = absurd misread
refused_by modes (core_bytes ∷ contents) status (None (CannotRead word) misread is) = absurd misread
refused_by modes (core_bytes ∷ contents) status (None (TooLong word) misread is) = absurd misread
refused_by modes (core_bytes ∷ contents) status (None (CoreRefused fault) misread is) = NoCore (fault, misread) is
refused_by modes (core_bytes ∷ contents) status (None (ScriptRefused script line kind) misread is) = NoScript (misread.0, misread.1, (record { script = script; line = line; kind = kind }, misread.2)) is
refused_by modes (core_bytes ∷ contents) status (None (ReportRefused fault) misread is) = absurd misread
refused_by modes (core_bytes ∷ contents) status (None OutOfMemory misread is) = Wanting is

-- bytes that are a core aren't none
job_or_none : (modes : Modes) (contents : List (List ℕ)) (job : Job) → IsJob modes contents job → HasNoCore contents → ⊥
job_or_none modes [] job read none = none
job_or_none modes (core_bytes ∷ contents) job read none = core_or_fault core_bytes (parts_in core_bytes) job.core none.0 none.1.no_want read.0 none.1.first

scripts_or_none : (modes : Modes) (contents : List (List ℕ)) (job : Job) → IsJob modes contents job → HasNoScript modes contents → ⊥
scripts_or_none modes [] job read none = none
scripts_or_none modes (core_bytes ∷ contents) job read none = let a = read.1 in let b = none.2.1 in absurd cc

script_or_core : (modes : Modes) (contents : List (List ℕ)) → HasNoScript modes contents → HasNoCore contents → ⊥
script_or_core modes [] none core = none
script_or_core modes (core_bytes ∷ contents) none core = core_or_fault core_bytes (parts_in core_bytes) none.0 core.0 core.1.no_want none.1 core.1.first

core_read : (modes : Modes) (contents : List (List ℕ)) (status : ℕ) → Read modes contents status → ComesExactly 3 (HasNoCore contents) status
core_read modes contents status (Both job read is) = record {
  only = λ three. absurd (elim is [ inl zero ↦ omega (arith, three, zero) | inr five ↦ omega (arith, three, five) ]);
  always = λ none. absurd (job_or_none modes contents job read none);
}
core_read modes contents status (NoCore none is) = record { only = λ three. none; always = λ again. inl is }
core_read modes contents status (NoScript none is) = record {
  only = λ three. absurd (omega (arith, three, is));
  always = λ no. absurd (script_or_core modes contents none no);
}
core_read modes contents status (Wanting is) = record { only = λ three. absurd (omega (arith, three, is)); always = λ none. inr is }

scripts_read : (modes : Modes) (contents : List (List ℕ)) (status : ℕ) → Read modes contents status → ComesExactly 4 (HasNoScript modes contents) status
scripts_read modes contents status (Both job read is) = record {
  only = λ four. absurd (elim is [ inl zero ↦ omega (arith, four, zero) | inr five ↦ omega (arith, four, five) ]);
  always = λ none. absurd (scripts_or_none modes contents job read none);
}
scripts_read modes contents status (NoCore none is) = record {
  only = λ four. absurd (omega (arith, four, is));
  always = λ no. absurd (script_or_core modes contents no none);
}
scripts_read modes contents status (NoScript none is) = record { only = λ four. none; always = λ again. inl is }
scripts_read modes contents status (Wanting is) = record { only = λ four. absurd (omega (arith, four, is)); always = λ none. inr is }

-- status 3 comes exactly for what is no core, and 4 for what is no script behind a core
pub core_exact : (modes : Modes) (contents : List (List ℕ)) (status : ℕ) → Found (IsJob modes) (JobMisread modes) contents status → ComesExactly 3 (HasNoCore contents) status
core_exact modes contents status found = core_read modes contents status (refused_by modes contents status found)

pub scripts_exact : (modes : Modes) (contents : List (List ℕ)) (status : ℕ) → Found (IsJob modes) (JobMisread modes) contents status → ComesExactly 4 (HasNoScript modes contents) status
scripts_exact modes contents status found = scripts_read modes contents status (refused_by modes contents status found)
