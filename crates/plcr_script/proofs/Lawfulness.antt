-- A script stays within its limits with each line that is within its own.
use Rattle.std.proofs.Common.{◌≡◌, ℕ, ◌+◌, ◌<◌, ◌≤◌, ◌^◌, ◌⊎◌, false, ltb, List, [], ◌∷◌, ◌++◌, Option, Some, None, length, take, get_or, refl, sym, ◌∙◌, ap, subst, inl, inr, arith, length-append}
use Rattle.std.specs.Prelude.{slice_get, IfSome, IsFalse}
use Rattle.std.proofs.Math.Seq.{get_or-append_seam, take-append_seam}
use Rattle.std.proofs.lemmas.Bool.{ltb-true, ltb-false, or_parts, cases_Bool}
use Rattle.std.proofs.lemmas.Option.{slice_get_within, slice_get-get_or, get_or_from_slice_get}
use Rattle.std.proofs.lemmas.List.{get_or_append_left, take-append-le}
use Rattle.std.proofs.lemmas.List.Elements.{All-nil, All-push}
use Rattle.plcr_regs.specs.declared.arch.Arch.{Arch}
use Rattle.plcr_encode.specs.Conditions.{IsWritable}
use Rattle.plcr_script.specs.declared.keys.NumberKey.{NumberKey}
use Rattle.plcr_script.specs.declared.keys.NumberKey.TheVariants.{Os, Timestamp, Address, Pid, Ppid, Crashed, User, Bits}
use Rattle.plcr_script.specs.declared.keys.TextKey.{TextKey}
use Rattle.plcr_script.specs.declared.keys.TextKey.TheVariants.{OsVersion, Identifier, Version, Signal, Code, Process}
use Rattle.plcr_script.specs.declared.modes.Mode.{Mode}
use Rattle.plcr_script.specs.declared.modes.Mode.TheVariants.{Single, Worker}
use Rattle.plcr_script.specs.declared.statements.Statement.{Statement}
use Rattle.plcr_script.specs.Places.{pass_of, is_misplaced, HasPass, AreInPlace}
use Rattle.plcr_script.specs.declared.statements.NumberedStatement.{NumberedStatement}
use Rattle.plcr_script.specs.Keys.{with_number, with_text}
use Rattle.plcr_script.specs.inner.Keys.{IsAllowed}
use Rattle.plcr_script.specs.Scripts.{ScriptValue}
use Rattle.plcr_script.specs.Sayings.{Saying, Sizes, Number, Words, States}
use Rattle.plcr_script.specs.Reading.{DraftValue, no_lines, passes_of, is_out_of_place, with_saying, with_said}
use Rattle.plcr_script.specs.Contexts.{context_of}
use Rattle.plcr_script.specs.Lawful.{IsFitStatement, IsLawful}
use Rattle.plcr_script.specs.inner.Fits.{IsFit, IsLawfulDraft}

-- the values with another number can be written
number_writable : (script : ScriptValue) (key : NumberKey) (n : ℕ) (arch : Arch) → IsAllowed key n → IsWritable (context_of script arch) → IsWritable (context_of (record script { values = with_number key n script.values }) arch)
number_writable script Os n arch fits w = record { os = omega (arith, fits.1); timestamp = w.timestamp; os_version = w.os_version; identifier = w.identifier; version = w.version; signal = w.signal; code = w.code; process = w.process; bits = w.bits }
number_writable script Timestamp n arch fits w = record { os = w.os; timestamp = fits.1; os_version = w.os_version; identifier = w.identifier; version = w.version; signal = w.signal; code = w.code; process = w.process; bits = w.bits }
number_writable script Address n arch fits w = record { os = w.os; timestamp = w.timestamp; os_version = w.os_version; identifier = w.identifier; version = w.version; signal = w.signal; code = w.code; process = w.process; bits = w.bits }
number_writable script Pid n arch fits w = record { os = w.os; timestamp = w.timestamp; os_version = w.os_version; identifier = w.identifier; version = w.version; signal = w.signal; code = w.code; process = w.process; bits = w.bits }
number_writable script Ppid n arch fits w = record { os = w.os; timestamp = w.timestamp; os_version = w.os_version; identifier = w.identifier; version = w.version; signal = w.signal; code = w.code; process = w.process; bits = w.bits }
number_writable script Crashed n arch fits w = record { os = w.os; timestamp = w.timestamp; os_version = w.os_version; identifier = w.identifier; version = w.version; signal = w.signal; code = w.code; process = w.process; bits = w.bits }
number_writable script User n arch fits w = record { os = w.os; timestamp = w.timestamp; os_version = w.os_version; identifier = w.identifier; version = w.version; signal = w.signal; code = w.code; process = w.process; bits = w.bits }
number_writable script Bits n arch fits w = record { os = w.os; timestamp = w.timestamp; os_version = w.os_version; identifier = w.identifier; version = w.version; signal = w.signal; code = w.code; process = w.process; bits = (fits.0, omega (arith, fits.1)) }

-- and so can they with another text
text_writable : (script : ScriptValue) (key : TextKey) (text : List ℕ) (arch : Arch) → length text < 2 ^ 32 → IsWritable (context_of script arch) → IsWritable (context_of (record script { values = with_text key text script.values }) arch)
text_writable script OsVersion text arch fits w = record { os = w.os; timestamp = w.timestamp; os_version = fits; identifier = w.identifier; version = w.version; signal = w.signal; code = w.code; process = w.process; bits = w.bits }
text_writable script Identifier text arch fits w = record { os = w.os; timestamp = w.timestamp; os_version = w.os_version; identifier = fits; version = w.version; signal = w.signal; code = w.code; process = w.process; bits = w.bits }
text_writable script Version text arch fits w = record { os = w.os; timestamp = w.timestamp; os_version = w.os_version; identifier = w.identifier; version = fits; signal = w.signal; code = w.code; process = w.process; bits = w.bits }
text_writable script Signal text arch fits w = record { os = w.os; timestamp = w.timestamp; os_version = w.os_version; identifier = w.identifier; version = w.version; signal = fits; code = w.code; process = w.process; bits = w.bits }
text_writable script Code text arch fits w = record { os = w.os; timestamp = w.timestamp; os_version = w.os_version; identifier = w.identifier; version = w.version; signal = w.signal; code = fits; process = w.process; bits = w.bits }
text_writable script Process text arch fits w = record { os = w.os; timestamp = w.timestamp; os_version = w.os_version; identifier = w.identifier; version = w.version; signal = w.signal; code = w.code; process = fits; bits = w.bits }

-- an item of a list with one more is an item of the list, or the one
one_more : (xs : List NumberedStatement) (x s : NumberedStatement) (i : ℕ) → slice_get (xs ++ x ∷ []) i ≡ Some s → ((i < length xs) × (slice_get xs i ≡ Some s)) ⊎ ((i ≡ length xs) × (s ≡ x))
one_more xs x s i h =
    let within : i < length (xs ++ x ∷ []) = slice_get_within (xs ++ x ∷ []) i s h in
    let long : length (xs ++ x ∷ []) ≡ length xs + 1 = length-append xs (x ∷ []) in
    let got : get_or (xs ++ x ∷ []) i s ≡ s = get_or_from_slice_get (xs ++ x ∷ []) i s s h in
    elim (cases_Bool (ltb i (length xs))) [
      | inl below ↦
          let lt : i < length xs = ltb-true _ _ below in
          inl (lt, slice_get-get_or xs i s lt ∙ ap Some (sym (get_or_append_left xs (x ∷ []) s i lt) ∙ got))
      | inr above ↦
          let past : length xs ≤ i = ltb-false _ _ above in
          let at : i ≡ length xs = omega (arith, within, long, past) in
          inr (at, sym got ∙ ap (λ (k : ℕ). get_or (xs ++ x ∷ []) k s) at ∙ get_or-append_seam xs x [] s)
    ]

-- one statement more in its place
in_place_more : (passes : ℕ) (xs : List NumberedStatement) (x : NumberedStatement) → AreInPlace passes xs → HasPass passes x.statement → is_misplaced xs x.statement ≡ false → AreInPlace passes (xs ++ x ∷ [])
in_place_more passes xs x h has place i s is = elim (one_more xs x s i is) [
  | inl old ↦ subst (λ (ys : List NumberedStatement). HasPass passes s.statement × IsFalse (is_misplaced ys s.statement)) (sym (take-append-le i xs (x ∷ []) (omega (arith, old.0)))) (h i s old.1)
  | inr new ↦
      let earlier : take i (xs ++ x ∷ []) ≡ xs = ap (λ (k : ℕ). take k (xs ++ x ∷ [])) new.0 ∙ take-append_seam xs (x ∷ []) in
      rw (earlier, new.1) (has, place)
]

-- a pass that a statement may name is one of the script's
has_pass : (mode : Mode) (passes : ℕ) (statement : Statement) → 1 ≤ passes → HasPass (passes_of mode passes) statement → HasPass passes statement
has_pass Single passes statement some has = has
has_pass (Worker first) passes statement some has = of (pass_of statement) has
  where
    of : (pass : Option ℕ) → IfSome pass (λ p. p < 1) → IfSome pass (λ p. p < passes)
    of None h = h
    of (Some p) h = omega (arith, h, some)

-- the script of no lines is lawful
lawful_script_at_first : (mode : Mode) (before : List ScriptValue) → IsLawful (no_lines mode before).script
lawful_script_at_first mode before = record {
  sizes = (omega arith, omega arith, omega arith, omega arith);
  places = λ i s h. absurd cc;
  statements = All-nil (λ (s : NumberedStatement). IsFitStatement s.statement);
  writable = λ arch. record {
    os = omega arith;
    timestamp = omega arith;
    os_version = omega arith;
    identifier = omega arith;
    version = omega arith;
    signal = omega arith;
    code = omega arith;
    process = omega arith;
    bits = (omega arith, omega arith);
  };
}

pub lawful_at_first : (mode : Mode) (before : List ScriptValue) → IsLawfulDraft (no_lines mode before)
lawful_at_first mode before = record { script = lawful_script_at_first mode before; first = λ h. refl }

-- one more line within its limits and in its place keeps it so
lawful_script_with : (draft : DraftValue) (line : ℕ) (s : Saying) → IsLawfulDraft draft → IsFit (passes_of draft.mode draft.script.passes) s → is_out_of_place draft s ≡ false → IsLawful (with_saying draft.script line s)
lawful_script_with draft line (Sizes nodes passes) h fits place =
    let none : draft.script.statements ≡ [] = h.first (or_parts draft.begun _ place).0 in
    record { sizes = fits; places = rw none (λ i s is. absurd cc); statements = h.script.statements; writable = h.script.writable }
lawful_script_with draft line (Number key n) h fits place = record { sizes = h.script.sizes; places = h.script.places; statements = h.script.statements; writable = λ arch. number_writable draft.script key n arch fits (h.script.writable arch) }
lawful_script_with draft line (Words key text) h fits place = record { sizes = h.script.sizes; places = h.script.places; statements = h.script.statements; writable = λ arch. text_writable draft.script key text arch fits (h.script.writable arch) }
lawful_script_with draft line (States statement) h fits place =
    let placed = or_parts (is_misplaced draft.script.statements statement) _ (or_parts _ _ place).1 in
    let x : NumberedStatement = record { line = line; statement = statement } in
    record {
      sizes = h.script.sizes;
      places = in_place_more draft.script.passes draft.script.statements x h.script.places (has_pass draft.mode draft.script.passes statement h.script.sizes.2 fits.1) placed.0;
      statements = All-push (λ (s : NumberedStatement). IsFitStatement s.statement) draft.script.statements x h.script.statements fits.0;
      writable = h.script.writable;
    }

pub lawful_with : (draft : DraftValue) (line : ℕ) (s : Saying) → IsLawfulDraft draft → IsFit (passes_of draft.mode draft.script.passes) s → is_out_of_place draft s ≡ false → IsLawfulDraft (with_said draft line s)
lawful_with draft line s h fits place = record { script = lawful_script_with draft line s h fits place; first = λ begun. absurd cc }
