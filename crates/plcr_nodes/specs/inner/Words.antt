-- How the words of a table lie. Word 0 is the gate and word 1 counts the pass numbers. Then come
-- the words of the head and of each node, and behind them the stamps, one for each pass number.
use Rattle.std.specs.Prelude.{ℕ, ◌+◌, ◌*◌}
use Rattle.plcr_nodes.specs.declared.words.TheConstants.{HEAD, NODE_WORDS, STAMP_SPACING}

-- the first word of node n, which has its link; its payload words follow. Node 0 is the head, which
-- has a link alone
abbrev pub base : ℕ → ℕ
base n = HEAD + NODE_WORDS * n

-- the word that has the stamp of a pass
abbrev pub stamp_place : ℕ → ℕ → ℕ
stamp_place nodes pass = base (nodes + 1) + STAMP_SPACING * pass

-- how many words a table of these sizes has
abbrev pub table_words : ℕ → ℕ → ℕ
table_words nodes passes = stamp_place nodes passes
