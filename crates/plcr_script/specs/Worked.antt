-- Runs worked out by hand.
use Rattle.std.specs.Prelude.{◌≡◌, ℕ, true, false, List, [], ◌∷◌, Some, None, Ok, length, ◌==◌, codes, replicate, if◌then◌else◌}
use Rattle.plcr_machine.specs.Changes.{list_of}
use Rattle.plcr_machine.specs.Passes.{counts}
use Rattle.plcr_machine.specs.Events.{changes_in, noted_in}
use Rattle.plcr_macho.specs.Images.{Listed}
use Rattle.plcr_script.specs.declared.modes.Mode.TheVariants.{Single}
use Rattle.plcr_script.specs.declared.statements.Statement.{Statement}
use Rattle.plcr_script.specs.declared.statements.Statement.TheVariants.{Load, Unload, BeginLoad, Step, End, Enter, Walk, Leave, Report}
use Rattle.plcr_script.specs.declared.statements.NumberedStatement.{NumberedStatement}
use Rattle.plcr_script.specs.declared.limits.TheConstants.{DEFAULT_NODES, DEFAULT_PASSES}
use Rattle.plcr_script.specs.Values.{default_values}
use Rattle.plcr_script.specs.Scripts.{ScriptValue, script_value}
use Rattle.plcr_script.specs.Reading.{script_in}
use Rattle.plcr_script.specs.declared.outcomes.Outcome.{Outcome}
use Rattle.plcr_script.specs.declared.outcomes.Outcome.TheVariants as outcomes
use Rattle.plcr_script.specs.Contexts.{lent}
use Rattle.plcr_script.specs.Meanings.{Meanings}
use Rattle.plcr_script.specs.RunTurns.{listed}
use Rattle.plcr_script.specs.Run.{run_of, outcomes_of, kept_by, end_of}

abbrev pub numbered : ℕ → Statement → NumberedStatement
numbered line statement = record { line = line; statement = statement }

abbrev pub image : ℕ → List ℕ → Listed
image header name = record { header = header; name = name }

-- the headers of eight images
abbrev pub A0 : ℕ
A0 = 0x100000000

abbrev pub A1 : ℕ
A1 = 0x100004000

abbrev pub A2 : ℕ
A2 = 0x100008000

abbrev pub A3 : ℕ
A3 = 0x10000c000

abbrev pub A4 : ℕ
A4 = 0x100010000

abbrev pub A5 : ℕ
A5 = 0x100014000

-- a process with an image wherever one is asked for, but at two addresses, whose reports are these
abbrev pub process_with : (List Listed → List ℕ) → Meanings
process_with report = record {
  fault = λ header. if header == 0x5000 then Some 1 else if header == 0x7000 then Some 2 else None;
  report = report;
}

-- a script of the usual sizes
abbrev pub script_of : List NumberedStatement → ScriptValue
script_of statements = script_value statements DEFAULT_NODES DEFAULT_PASSES default_values

-- the line of a report
abbrev pub report_line : (line : ℕ) → List ℕ → (bytes images low high : ℕ) → ℕ × Outcome
report_line line file bytes images low high =
    (line, outcomes.Reported (lent file) bytes images low high)

-- reports between the steps of a load, which stands in the list from its fourth step on and is
-- counted at its fifth
abbrev pub between_steps : ScriptValue
between_steps = script_of
    (numbered 1 (BeginLoad A0 [])
    ∷ numbered 2 (Step 3)
    ∷ numbered 3 (Report 0 (codes "a"))
    ∷ numbered 4 (Step 1)
    ∷ numbered 5 (Report 0 (codes "b"))
    ∷ numbered 6 End
    ∷ numbered 7 (Report 0 (codes "c"))
    ∷ [])

-- names of the most bytes, and of one more
abbrev pub long_name : ScriptValue
long_name = script_of (numbered 1 (BeginLoad A0 (replicate 1024 120)) ∷ [])

abbrev pub too_long_name : ScriptValue
too_long_name = script_of (numbered 1 (BeginLoad A0 (replicate 1025 120)) ∷ [])

-- two images of one header: the first goes first
abbrev pub two_of_a_header : ScriptValue
two_of_a_header = script_of
    (numbered 1 (Load A0 (codes "x"))
    ∷ numbered 2 (Load A0 (codes "y"))
    ∷ numbered 3 (Unload A0)
    ∷ numbered 4 (Report 0 (codes "a"))
    ∷ numbered 5 (Unload A0)
    ∷ numbered 6 (Unload A0)
    ∷ [])

-- a script that ends with its change open
abbrev pub left_open_at_end : ScriptValue
left_open_at_end = script_of
    (numbered 1 (BeginLoad A0 (codes "A"))
    ∷ numbered 2 (Step 4)
    ∷ numbered 3 (Report 0 (codes "a"))
    ∷ numbered 4 (Step 1)
    ∷ numbered 5 (Report 0 (codes "b"))
    ∷ [])

-- a walk that stays on images that were unloaded, and holds their nodes back
abbrev pub held_back : ScriptValue
held_back = script_value
    (numbered 2 (Load A0 (codes "A"))
    ∷ numbered 3 (Load A1 (codes "B"))
    ∷ numbered 4 (Enter 0)
    ∷ numbered 5 (Walk 0 1)
    ∷ numbered 6 (Unload A0)
    ∷ numbered 7 (Unload A1)
    ∷ numbered 8 (Load A2 (codes "C"))
    ∷ numbered 9 (Load A3 (codes "D"))
    ∷ numbered 10 (Walk 0 9)
    ∷ numbered 11 (Leave 0)
    ∷ numbered 12 (Load A3 (codes "D"))
    ∷ [])
    3 1 default_values

-- a walk that goes on while the list changes
abbrev pub changed_under_a_walk : ScriptValue
changed_under_a_walk = script_of
    (numbered 1 (Load A0 (codes "A"))
    ∷ numbered 2 (Load A1 (codes "B"))
    ∷ numbered 3 (Load A2 (codes "C"))
    ∷ numbered 4 (Enter 0)
    ∷ numbered 5 (Walk 0 2)
    ∷ numbered 6 (Load A3 (codes "D"))
    ∷ numbered 7 (Load A4 (codes "E"))
    ∷ numbered 8 (Load A5 (codes "F"))
    ∷ numbered 9 (Unload A0)
    ∷ numbered 10 (Unload A2)
    ∷ numbered 11 (Report 0 (codes "a"))
    ∷ [])

-- a list of one node
abbrev pub one_node : ScriptValue
one_node = script_value
    (numbered 2 (Load A0 (codes "A"))
    ∷ numbered 3 (Load A1 (codes "B"))
    ∷ numbered 4 (Unload A0)
    ∷ numbered 5 (Load A1 (codes "B"))
    ∷ [])
    1 1 default_values

-- statements while a change is open, and behind it
abbrev pub busy : ScriptValue
busy = script_of
    (numbered 1 (BeginLoad A0 (codes "A"))
    ∷ numbered 2 (BeginLoad A1 (codes "B"))
    ∷ numbered 3 (Unload A0)
    ∷ numbered 4 End
    ∷ numbered 5 End
    ∷ [])

-- a pass that went in after the unload doesn't hold back its node
abbrev pub overlapping : ScriptValue
overlapping = script_value
    (numbered 2 (Load A0 (codes "A"))
    ∷ numbered 3 (Enter 0)
    ∷ numbered 4 (Unload A0)
    ∷ numbered 5 (Enter 1)
    ∷ numbered 6 (Leave 0)
    ∷ numbered 7 (Load A1 (codes "B"))
    ∷ numbered 8 (Load A2 (codes "C"))
    ∷ [])
    2 2 default_values

-- a pass that never comes out
abbrev pub never_left : ScriptValue
never_left = script_value
    (numbered 2 (Load A0 (codes "A"))
    ∷ numbered 3 (Enter 0)
    ∷ numbered 4 (Unload A0)
    ∷ numbered 5 (Load A1 (codes "B"))
    ∷ numbered 6 (Load A2 (codes "C"))
    ∷ numbered 7 (Unload A1)
    ∷ numbered 8 (Load A2 (codes "C"))
    ∷ [])
    2 1 default_values

-- loads where there is no image
abbrev pub no_images : ScriptValue
no_images = script_of (numbered 1 (Load 0x5000 (codes "x")) ∷ numbered 2 (Load 0x7000 (codes "x"))
    ∷ [])

-- what the lines of two of these scripts say
pub record WorkedScripts : Type 0 where
  pub two_of_one_header : script_in Single []
      (codes "load 0x100000000 x\nload 0x100000000 y\nunload 0x100000000\nreport 0 a\nunload 0x100000000\nunload 0x100000000\n") ≡ Ok two_of_a_header
  pub sized : script_in Single []
      (codes "table 1 1\nload 0x100000000 A\nload 0x100004000 B\nunload 0x100000000\nload 0x100004000 B\n") ≡ Ok one_node

-- how many bytes the reports of some lists have
pub record AreLengths (report : List Listed → List ℕ) : Type 0 where
  pub empty : length (report []) ≡ 271
  pub unnamed : length (report (image A0 [] ∷ [])) ≡ 314
  pub named_y : length (report (image A0 (codes "y") ∷ [])) ≡ 315
  pub named_a : length (report (image A0 (codes "A") ∷ [])) ≡ 315
  pub five : length (report (image A0 (codes "A") ∷ image A1 (codes "B") ∷ image A3 (codes "D")
      ∷ image A4 (codes "E") ∷ image A5 (codes "F") ∷ [])) ≡ 491

-- the runs, line by line
pub record WorkedRuns (report : List Listed → List ℕ) : Type 0 where
  pub between : outcomes_of (run_of (process_with report) between_steps)
      ≡ (1, outcomes.Begun 5) ∷ (2, outcomes.Stepped 3) ∷ report_line 3 (codes "a") 271 0 0 0
      ∷ (4, outcomes.Stepped 4)
      ∷ report_line 5 (codes "b") 314 1 0 0 ∷ (6, outcomes.Loaded 1) ∷ report_line 7 (codes "c") 314
      1 1 1 ∷ []
  pub long : outcomes_of (run_of (process_with report) long_name) ≡ (1, outcomes.Begun 133) ∷ []
  pub too_long : outcomes_of (run_of (process_with report) too_long_name) ≡ (1, outcomes.Long 1025)
      ∷ []
  pub two : outcomes_of (run_of (process_with report) two_of_a_header)
      ≡ (1, outcomes.Loaded 1) ∷ (2, outcomes.Loaded 2) ∷ (3, outcomes.Unloaded 1)
      ∷ report_line 4 (codes "a") 315 1 3 3 ∷ (5, outcomes.Unloaded 2) ∷ (6, outcomes.NotLoaded)
      ∷ []
  pub file : kept_by (run_of (process_with report) two_of_a_header)
      ≡ (codes "a", report (image A0 (codes "y") ∷ [])) ∷ []
  pub opened : outcomes_of (run_of (process_with report) left_open_at_end)
      ≡ (1, outcomes.Begun 6) ∷ (2, outcomes.Stepped 4) ∷ report_line 3 (codes "a") 271 0 0 0
      ∷ (4, outcomes.Stepped 5) ∷ report_line 5 (codes "b") 315 1 0 0 ∷ []
  -- the open change is made to its end, which counts it
  pub counted : counts (noted_in (end_of (process_with report) left_open_at_end)) ≡ 1
  pub held : outcomes_of (run_of (process_with report) held_back)
      ≡ (2, outcomes.Loaded 1) ∷ (3, outcomes.Loaded 2) ∷ (4, outcomes.Entered 0)
      ∷ (5, outcomes.Walked 0 1 false) ∷ (6, outcomes.Unloaded 1) ∷ (7, outcomes.Unloaded 2)
      ∷ (8, outcomes.Loaded 3) ∷ (9, outcomes.Full 1 2 21474836481) ∷ (10, outcomes.Walked 0 2 true)
      ∷ (11, outcomes.Left 0 2 2 5) ∷ (12, outcomes.Loaded 4) ∷ []
  pub changed : outcomes_of (run_of (process_with report) changed_under_a_walk)
      ≡ (1, outcomes.Loaded 1) ∷ (2, outcomes.Loaded 2) ∷ (3, outcomes.Loaded 3)
      ∷ (4, outcomes.Entered 0) ∷ (5, outcomes.Walked 0 2 false) ∷ (6, outcomes.Loaded 4)
      ∷ (7, outcomes.Loaded 5) ∷ (8, outcomes.Loaded 6) ∷ (9, outcomes.Unloaded 1)
      ∷ (10, outcomes.Unloaded 3) ∷ report_line 11 (codes "a") 491 5 3 8 ∷ []
  pub one : outcomes_of (run_of (process_with report) one_node) ≡ (2, outcomes.Loaded 1)
      ∷ (3, outcomes.Full 1 0 4294967296) ∷ (4, outcomes.Unloaded 1) ∷ (5, outcomes.Loaded 2) ∷ []
  pub list : listed (list_of (changes_in (end_of (process_with report) one_node)))
      ≡ image A1 (codes "B") ∷ []
  pub busy_or_idle : outcomes_of (run_of (process_with report) busy) ≡ (1, outcomes.Begun 6)
      ∷ (2, outcomes.Busy) ∷ (3, outcomes.Busy) ∷ (4, outcomes.Loaded 1) ∷ (5, outcomes.Idle) ∷ []
  pub overlap : outcomes_of (run_of (process_with report) overlapping)
      ≡ (2, outcomes.Loaded 1) ∷ (3, outcomes.Entered 0) ∷ (4, outcomes.Unloaded 1)
      ∷ (5, outcomes.Entered 1) ∷ (6, outcomes.Left 0 0 1 2) ∷ (7, outcomes.Loaded 2)
      ∷ (8, outcomes.Loaded 3) ∷ []
  pub never : outcomes_of (run_of (process_with report) never_left)
      ≡ (2, outcomes.Loaded 1) ∷ (3, outcomes.Entered 0) ∷ (4, outcomes.Unloaded 1)
      ∷ (5, outcomes.Loaded 2) ∷ (6, outcomes.Full 1 1 12884901889) ∷ (7, outcomes.Unloaded 2)
      ∷ (8, outcomes.Full 0 2 17179869185) ∷ []
  pub refused : outcomes_of (run_of (process_with report) no_images) ≡ (1, outcomes.NotImage 1)
      ∷ (2, outcomes.NotImage 2) ∷ []
