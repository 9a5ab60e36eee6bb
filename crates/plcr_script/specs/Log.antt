-- The lines of a run's log.
use Rattle.std.specs.Prelude.{ℕ, Bool, if◌then◌else◌, List, [], ◌∷◌, ◌++◌, Option, Some, None, codes, decimal}
use Rattle.plcr_script.specs.declared.outcomes.Outcome.{Outcome}
use Rattle.plcr_script.specs.declared.outcomes.Outcome.TheVariants.{Busy, Idle, NotImage, Worn, Long, Full, NotLoaded, Loaded, Unloaded, Begun, Stepped, Entered, Walked, Left, Reported}

-- each number in decimal after a space
abbrev pub numbers : List ℕ → List ℕ
numbers [] = []
numbers (n ∷ ns) = codes " " ++ decimal n ++ numbers ns

-- a line's number, behind its script's number and a colon where there are several scripts
abbrev pub place_text : Option ℕ → ℕ → List ℕ
place_text None line = decimal line
place_text (Some script) line = decimal script ++ codes ":" ++ decimal line

-- a report: its file and numbers
abbrev pub report_text : List ℕ → List ℕ → List ℕ
report_text file ns = codes " report " ++ file ++ numbers ns

-- the last word of a walk: whether it has ended
abbrev pub walk_end : Bool → List ℕ
walk_end ended = if ended then codes " end" else codes " more"

-- what stands after the place: a space and the outcome
abbrev pub outcome_text : Outcome → List ℕ
outcome_text Busy = codes " busy"
outcome_text Idle = codes " idle"
outcome_text (NotImage kind) = codes " notimage" ++ numbers (kind ∷ [])
outcome_text (Worn changes) = codes " worn" ++ numbers (changes ∷ [])
outcome_text (Long len) = codes " long" ++ numbers (len ∷ [])
outcome_text (Full live held seen) = codes " full" ++ numbers (live ∷ held ∷ seen ∷ [])
outcome_text NotLoaded = codes " notloaded"
outcome_text (Loaded load) = codes " load" ++ numbers (load ∷ [])
outcome_text (Unloaded load) = codes " unload" ++ numbers (load ∷ [])
outcome_text (Begun steps) = codes " begin" ++ numbers (steps ∷ [])
outcome_text (Stepped made) = codes " step" ++ numbers (made ∷ [])
outcome_text (Entered pass) = codes " enter" ++ numbers (pass ∷ [])
outcome_text (Walked pass met ended) = codes " walk" ++ numbers (pass ∷ met ∷ []) ++ walk_end ended
outcome_text (Left pass met low high) = codes " leave" ++ numbers (pass ∷ met ∷ low ∷ high ∷ [])
outcome_text (Reported file bytes images low high) =
    report_text file.now (bytes ∷ images ∷ low ∷ high ∷ [])

-- the line of an outcome, with its newline
unfoldable pub log_line : Option ℕ → ℕ → Outcome → List ℕ
log_line script line outcome = place_text script line ++ outcome_text outcome ++ codes "\n"
