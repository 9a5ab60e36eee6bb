use Rattle.std.proofs.Common.{◌*◌, ◌<◌, length, ◌∙◌, arith}
use Rattle.plcr_macho.specs.Images.{listed_at}
use Rattle.plcr_encode.proofs.Words.{word_more}
use Rattle.plcr_encode.proofs.names.read_name.Goals as goal

pub loop-j-preserved : goal.loop-j-preserved
loop-j-preserved g c =
    let name = (listed_at (g.I.Images.images c.args.images.now) c.args.i).name in
    let j = c.loop-j.j in
    let len = c.name_len-len.ensures.length in
    let end = c.div_ceil-j-end.ensures in
    let before = c.loop-j-test.true in
    let inside : 8 * j < length name = omega (arith, len, end, before) in
    let word = rw c.loop-j.invariant.same at c.name_word-word.ensures.word in
    let pushed = rw (c.min.ensures, len) at c.push_front.ensures in
    record {
      read = word_more name _ _ j _ c.name_len-len.ensures.bytes inside word c.loop-j.invariant.read pushed;
      same = c.name_word-word.ensures.same ∙ c.loop-j.invariant.same;
      follows = g.met.I.Images.follows_on _ _ _ c.loop-j.invariant.follows c.name_word-word.ensures.follows;
    }
