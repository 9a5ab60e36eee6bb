-- Whether a message and those within it have the fields that they have to have (the label
-- `required` of proto2).
use Rattle.std.specs.Prelude.{◌≡◌, ℕ, zero, suc, Bool, true, false, List, [], ◌∷◌, Result, Ok, Err, if◌then◌else◌}
use Rattle.plcr_wire.specs.Message.{Field}
use Rattle.plcr_base.specs.Chains.{◌>>=◌}
use Rattle.plcr_report.specs.Schema.{Label, Required, Optional, Repeated, Row, rows}
use Rattle.plcr_report.specs.declared.kinds.Kind.{Kind}
use Rattle.plcr_report.specs.declared.kinds.Holds.{Holds}
use Rattle.plcr_report.specs.declared.kinds.Holds.TheVariants as holds
use Rattle.plcr_decode.specs.Fields.{has, messages_in, joined}
use Rattle.plcr_decode.specs.declared.faults.DecodeFault.{DecodeFault}
use Rattle.plcr_decode.specs.declared.faults.DecodeFault.TheVariants.{Missing}

abbrev pub is_required : Label → Bool
is_required Required = true
is_required Optional = false
is_required Repeated = false

-- the numbers of the fields that a message has to have, in rising order
abbrev pub required_of : List Row → List ℕ
required_of [] = []
required_of (row ∷ rows) = if is_required row.label then row.number ∷ required_of rows
    else required_of rows

-- the first of these fields that lacks
abbrev pub needs : Kind → List ℕ → List Field → Result (Unit {0}) DecodeFault
needs kind [] fs = Ok tt
needs kind (n ∷ ns) fs = if has n fs then needs kind ns fs else Err (Missing kind n)

-- the first field that a message of this kind lacks
abbrev pub has_all : Kind → List Field → Result (Unit {0}) DecodeFault
has_all kind fs = needs kind (required_of (rows kind)) fs

-- the first fault of several messages
abbrev pub each_whole : (List Field → Result (Unit {0}) DecodeFault) → List (List Field) →
    Result (Unit {0}) DecodeFault
each_whole whole [] = Ok tt
each_whole whole (m ∷ ms) = whole m >>= λ u. each_whole whole ms

-- the fault of the one message in the fields of this number, where there is one
abbrev pub one_whole : (List Field → Result (Unit {0}) DecodeFault) → ℕ → List Field →
    Result (Unit {0}) DecodeFault
one_whole whole n fs = if has n fs then whole (joined n fs) else Ok tt

-- the fault of the messages that stand in a field: of each where it repeats, else of the one that
-- its parts join to
abbrev pub held_whole : (Kind → List Field → Result (Unit {0}) DecodeFault) → Holds → Label → ℕ →
    List Field → Result (Unit {0}) DecodeFault
held_whole whole holds.Number label n fs = Ok tt
held_whole whole holds.Text label n fs = Ok tt
held_whole whole (holds.Message kind) Required n fs = one_whole (whole kind) n fs
held_whole whole (holds.Message kind) Optional n fs = one_whole (whole kind) n fs
held_whole whole (holds.Message kind) Repeated n fs = each_whole (whole kind) (messages_in n fs)

-- the first fault of the messages in these fields, in order of field number and place
abbrev pub inner_whole : (Kind → List Field → Result (Unit {0}) DecodeFault) → List Row →
    List Field → Result (Unit {0}) DecodeFault
inner_whole whole [] fs = Ok tt
inner_whole whole (row ∷ rows) fs = held_whole whole row.holds row.label row.number fs >>= λ u.
    inner_whole whole rows fs

-- a message's own fields come first, then the messages in it, which hold messages of at most so
-- many levels
abbrev pub whole_within : ℕ → Kind → List Field → Result (Unit {0}) DecodeFault
whole_within zero kind fs = has_all kind fs
whole_within (suc k) kind fs = has_all kind fs >>= λ u. inner_whole (whole_within k) (rows kind) fs

-- the deepest level of messages in a root: below it stand threads, their frames, and the frames'
-- symbols
abbrev pub deepest_level : ℕ
deepest_level = 3

-- the first field that a message lacks, or one in it
unfoldable pub whole : Kind → List Field → Result (Unit {0}) DecodeFault
whole kind fs = whole_within deepest_level kind fs

-- what a message lacks is a field of its own, or what the messages in it lack: no level of them is
-- cut off
abbrev pub WholeByParts : Type 0
WholeByParts = (kind : Kind) (fs : List Field) →
    whole kind fs ≡ (has_all kind fs >>= λ u. inner_whole whole (rows kind) fs)
