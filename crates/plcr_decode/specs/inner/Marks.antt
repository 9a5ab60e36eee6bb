-- What is known of a message once some of its fields are passed, as it lies in memory.
use Rattle.std.specs.Prelude.{◌≡◌, ◌≢◌, ◌<◌, ◌==◌, ℕ, Bool, true, false, List, [], ◌∷◌, slice_index_or, Option, Some, None, Result, Ok, Err, if◌then◌else◌}
use Rattle.plcr_base.specs.Chains.{◌>>=◌}
use Rattle.plcr_wire.specs.Message.{Field, value_bytes}
use Rattle.plcr_report.specs.Schema.{Label, Required, Optional, Repeated, Row, rows, rule}
use Rattle.plcr_report.specs.declared.kinds.Kind.{Kind}
use Rattle.plcr_report.specs.declared.kinds.Kind.TheVariants as kinds
use Rattle.plcr_report.specs.declared.kinds.Holds.{Holds}
use Rattle.plcr_report.specs.declared.kinds.Holds.TheVariants as holds
use Rattle.plcr_decode.specs.Fields.{fields_of, has, messages_in, joined}
use Rattle.plcr_decode.specs.Required.{required_of, each_whole, whole}
use Rattle.plcr_decode.specs.declared.faults.DecodeFault.{DecodeFault}
use Rattle.plcr_decode.specs.declared.faults.DecodeFault.TheVariants.{Missing}
use Rattle.plcr_decode.specs.declared.found.TheConstants.{NUMBERS}
use Rattle.plcr_decode.specs.declared.marks.Lack.{Lack}
use Rattle.plcr_decode.specs.declared.marks.Seen.{Seen}
use Rattle.plcr_decode.specs.declared.marks.Marks.{Marks}

abbrev pub lack_fault : Lack → DecodeFault
lack_fault l = Missing l.message l.field

-- what lacks, as the definition of a whole message says it
abbrev pub told_lack : Option Lack → Result (Unit {0}) DecodeFault
told_lack None = Ok tt
told_lack (Some l) = Err (lack_fault l)

-- the first of two faults
abbrev pub before : Result (Unit {0}) DecodeFault → Result (Unit {0}) DecodeFault →
    Result (Unit {0}) DecodeFault
before r s = r >>= λ u. s

-- a message that may stand in parts
abbrev pub is_joined : Kind → Bool
is_joined kinds.Root = false
is_joined kinds.System = true
is_joined kinds.Application = true
is_joined kinds.Thread = false
is_joined kinds.Frame = false
is_joined kinds.Symbol = true
is_joined kinds.Register = false
is_joined kinds.Image = false
is_joined kinds.Processor = true
is_joined kinds.Signal = true
is_joined kinds.Process = true
is_joined kinds.Info = true

-- a field whose number has a place of its own
abbrev pub Small : Row → Type 0
Small row = row.number < NUMBERS

abbrev pub seen : Seen → ℕ → Bool
seen s n = slice_index_or s.numbers n false

abbrev unseen : Seen
unseen = record { numbers = [] }

abbrev pub part : Marks → ℕ → Seen
part marks n = slice_index_or marks.parts n unseen

abbrev pub lack : Marks → ℕ → Option Lack
lack marks n = slice_index_or marks.lacks n None

-- no field is passed yet
pub record Unmarked (marks : Marks) : Type 0 where
  pub fields : (n : ℕ) → n < NUMBERS → seen marks.fields n ≡ false
  pub parts : (n m : ℕ) → n < NUMBERS → m < NUMBERS → seen (part marks n) m ≡ false
  pub lacks : (n : ℕ) → n < NUMBERS → lack marks n ≡ None

-- these fields are passed too
abbrev pub SeesMore : Seen → Seen → List Field → Type 0
SeesMore old new fs = (m : ℕ) → m < NUMBERS → seen new m ≡ (if seen old m then true else has m fs)

-- a message is passed that stands in a field of this number
abbrev pub MessageTakes : Bool → Kind → ℕ → List ℕ → Marks → Marks → Type 0
MessageTakes true kind n text old new = SeesMore (part old n) (part new n) (fields_of text)
MessageTakes false kind n text old new =
    told_lack (lack new n) ≡ (told_lack (lack old n) >>= λ u. whole kind (fields_of text))

abbrev pub HeldTakes : Option Holds → ℕ → List ℕ → Marks → Marks → Type 0
HeldTakes None n text old new = Unit {0}
HeldTakes (Some holds.Number) n text old new = Unit {0}
HeldTakes (Some holds.Text) n text old new = Unit {0}
HeldTakes (Some (holds.Message kind)) n text old new =
    MessageTakes (is_joined kind) kind n text old new

-- one more field is passed
pub record Takes (kind : Kind) (f : Field) (old new : Marks) : Type 0 where
  pub fields : (n : ℕ) → n < NUMBERS →
      seen new.fields n ≡ (if f.number == n then true else seen old.fields n)
  pub parts : (n : ℕ) → n < NUMBERS → n ≢ f.number → part new n ≡ part old n
  pub lacks : (n : ℕ) → n < NUMBERS → n ≢ f.number → lack new n ≡ lack old n
  pub here : HeldTakes (rule kind f.number) f.number (value_bytes f.value) old new

-- what is known of a number and the fields that are left tell what all fields do
abbrev pub MessageUpTo : Bool → Kind → Marks → ℕ → List Field → List Field → Type 0
MessageUpTo true kind marks n all rest = (m : ℕ) → m < NUMBERS →
    (if seen (part marks n) m then true else has m (joined n rest)) ≡ has m (joined n all)
MessageUpTo false kind marks n all rest =
    (told_lack (lack marks n) >>= λ u. each_whole (whole kind) (messages_in n rest))
    ≡ each_whole (whole kind) (messages_in n all)

abbrev pub HeldUpTo : Option Holds → Marks → ℕ → List Field → List Field → Type 0
HeldUpTo None marks n all rest = Unit {0}
HeldUpTo (Some holds.Number) marks n all rest = Unit {0}
HeldUpTo (Some holds.Text) marks n all rest = Unit {0}
HeldUpTo (Some (holds.Message kind)) marks n all rest =
    MessageUpTo (is_joined kind) kind marks n all rest

pub record MarkUpTo (kind : Kind) (marks : Marks) (n : ℕ) (all rest : List Field) : Type 0 where
  pub field : (if seen marks.fields n then true else has n rest) ≡ has n all
  pub held : HeldUpTo (rule kind n) marks n all rest

abbrev pub MarksUpTo : Kind → Marks → List Field → List Field → Type 0
MarksUpTo kind marks all rest = (n : ℕ) → n < NUMBERS → MarkUpTo kind marks n all rest

-- what lacks by what is known
abbrev pub needs_by : Kind → List ℕ → Seen → Result (Unit {0}) DecodeFault
needs_by kind [] fields = Ok tt
needs_by kind (n ∷ ns) fields = if seen fields n then needs_by kind ns fields
    else Err (Missing kind n)

abbrev pub joined_by : Marks → Kind → ℕ → Result (Unit {0}) DecodeFault
joined_by marks kind n = if seen marks.fields n
    then needs_by kind (required_of (rows kind)) (part marks n) else Ok tt

abbrev pub held_by : Marks → Holds → Label → ℕ → Result (Unit {0}) DecodeFault
held_by marks holds.Number label n = Ok tt
held_by marks holds.Text label n = Ok tt
held_by marks (holds.Message kind) Required n = joined_by marks kind n
held_by marks (holds.Message kind) Optional n = joined_by marks kind n
held_by marks (holds.Message kind) Repeated n = told_lack (lack marks n)

abbrev pub inner_by : Marks → List Row → Result (Unit {0}) DecodeFault
inner_by marks [] = Ok tt
inner_by marks (row ∷ rows) = held_by marks row.holds row.label row.number >>= λ u.
    inner_by marks rows

abbrev pub marks_by : Kind → Marks → Result (Unit {0}) DecodeFault
marks_by kind marks = needs_by kind (required_of (rows kind)) marks.fields >>= λ u.
    inner_by marks (rows kind)
