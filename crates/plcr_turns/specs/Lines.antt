-- The lines of the journal: what the loads and unloads of the scripts came to, in the order in
-- which they were applied.
use Rattle.std.specs.Prelude.{ℕ, Bool, true, false, List, filter, count_by, map, ◌==◌}
use Rattle.plcr_turns.specs.declared.lines.Asked.{Asked}
use Rattle.plcr_turns.specs.declared.lines.Asked.TheVariants as asked
use Rattle.plcr_turns.specs.declared.lines.Said.{Said}
use Rattle.plcr_turns.specs.declared.lines.Said.TheVariants.{NotImage, Worn, Long, Full, NotLoaded, Loaded, Unloaded}
use Rattle.plcr_turns.specs.declared.lines.Wanted.{Wanted}
use Rattle.plcr_turns.specs.declared.lines.ChangeLine.{ChangeLine}
use Rattle.plcr_turns.specs.declared.lines.Request.{Request}
use Rattle.plcr_turns.specs.declared.lines.Request.TheVariants.{Load, Unload}

-- what a request asks for
abbrev pub asked_by : Request → Asked
asked_by (Load header name fault) = asked.Load header
asked_by (Unload header) = asked.Unload header

-- whether the line was accepted: it changed the list
abbrev pub is_change : Said → Bool
is_change (NotImage kind) = false
is_change (Worn changes) = false
is_change (Long len) = false
is_change (Full live held seen) = false
is_change NotLoaded = false
is_change (Loaded load) = true
is_change (Unloaded load) = true

-- how many lines were accepted
abbrev pub accepted : List ChangeLine → ℕ
accepted lines = count_by (λ (l : ChangeLine). is_change l.said) lines

-- the lines of one script
abbrev pub lines_of : ℕ → List ChangeLine → List ChangeLine
lines_of script lines = filter (λ (l : ChangeLine). l.script == script) lines

-- what the lines asked for
abbrev pub wanted_by : List ChangeLine → List Wanted
wanted_by lines = map (λ (l : ChangeLine). l.wanted) lines
