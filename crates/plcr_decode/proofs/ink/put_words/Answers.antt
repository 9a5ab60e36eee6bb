-- The words, and a newline.
use Rattle.std.proofs.Common.{ℕ, List, ◌++◌, codes, subst}
use Rattle.plcr_wire.specs.Pen.{Wrote}
use Rattle.plcr_wire.proofs.Writing.{wrote_twice}
use Rattle.plcr_decode.specs.inner.Words.{word_text}
use Rattle.plcr_decode.proofs.Lines.{all_map}
use Rattle.plcr_decode.proofs.ink.put_words.Goals as goal

pub returns : goal.returns
returns g c =
    subst (λ (l : List ℕ). Wrote (g.W.Put.pen c.args.ink.now) (g.W.Put.pen c.raw.new.self) (l ++ codes "\n")) (all_map (λ n w. codes " " ++ w) word_text 0 c.args.words.now)
    (wrote_twice _ _ _ _ _ c.put_each.ensures c.raw.ensures)
