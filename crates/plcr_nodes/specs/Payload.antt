-- Which image a node has: the last that was loaded on it, with its name, and its payload words.
use Rattle.std.specs.Prelude.{ℕ, ◌+◌, List, length}
use Rattle.plcr_machine.specs.declared.entry.Entry.{Entry}
use Rattle.plcr_machine.specs.Lists.{loaded, name_of}
use Rattle.plcr_nodes.specs.Names.{payload_word, words_of}

-- the name of the last image that was loaded on the node
abbrev pub name_on : ℕ → List Entry → List (List ℕ) → List ℕ
name_on n h names = name_of (loaded n h).load names

-- payload word k of the last image that was loaded on the node
abbrev pub image_word : ℕ → List Entry → List (List ℕ) → ℕ → ℕ
image_word n h names = payload_word (loaded n h).header (name_on n h names)

-- how many payload words that image has
abbrev pub image_words : ℕ → List Entry → List (List ℕ) → ℕ
image_words n h names = 2 + words_of (length (name_on n h names))
