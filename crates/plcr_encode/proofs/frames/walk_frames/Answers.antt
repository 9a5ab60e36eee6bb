use Rattle.std.proofs.Common.{◌≡◌, ◌++◌, ℕ, List, map, Some, Option, ap, sym, ◌∙◌, length-append, arith}
use Rattle.std.specs.Prelude.{unwrap_or}
use Rattle.std.proofs.lemmas.List.{length-map}
use Rattle.plcr_macho.specs.Index.{index_of}
use Rattle.plcr_encode.specs.declared.limits.TheConstants.{GROUP_FRAMES}
use Rattle.plcr_encode.specs.inner.Groups.{walked}
use Rattle.plcr_cursor.specs.declared.located.Located.{Located}
use Rattle.plcr_cursor.specs.Frames.{frames_of, lookup_of, number_of}
use Rattle.plcr_cursor.specs.Walks.{coming, given_last, located_last}
use Rattle.plcr_encode.specs.declared.frame_rows.FrameRow.{FrameRow}
use Rattle.plcr_encode.specs.inner.FrameRows.{row_of, tabled}
use Rattle.plcr_encode.proofs.Told.{few_frames, fewer, row_fits, row_more, rows_end}
use Rattle.plcr_encode.proofs.frames.walk_frames.Goals as goal

pub next_over-requires : goal.next_over-requires
next_over-requires g c =
    let listed = g.I.Images.images c.args.images.now in
    let over : c.loop-pc.over ≡ located_last c.loop-pc.known listed c.loop-pc.cursor = rw c.loop-pc.invariant.memory c.loop-pc.invariant.over in
    record { located = (listed, over) }

pub locate-over-requires : goal.locate-over-requires
locate-over-requires g c =
    let memory = c.args.known.now in
    let arch = sym c.next_over.ensures.arch in
    let known = sym (c.next_over.ensures.memory ∙ c.loop-pc.invariant.memory) in
    record { index = c.loop-pc.invariant.index ∙ (λ k. Some (index_of (known k) (arch k) (g.I.Images.images c.loop-pc.images))) }

pub push-requires : goal.push-requires
push-requires g c =
    let memory = c.args.known.now in
    let state = c.args.state.now in
    let listed = g.I.Images.images c.args.images.now in
    let whole : List FrameRow = c.args.rows.now.items ++ walked memory listed c.args.bits state in
    let before = coming memory listed c.loop-pc.cursor in
    let after = coming memory listed c.next_over.new.self in
    let frames = frames_of memory listed state c.args.bits in
    let count = length-map frames (row_of memory state.arch listed) in
    let sum = length-append c.args.rows.now.items (walked memory listed c.args.bits state) in
    let few = few_frames memory listed state c.args.bits in
    let gives = rw c.loop-pc.invariant.memory at c.next_over.ensures.gives listed c.loop-pc.invariant.over in (
      omega arith,
      row_fits memory state.arch listed GROUP_FRAMES c.loop-pc.rows.items before after whole (given_last c.loop-pc.cursor) (given_last c.next_over.new.self) c.next_over.result c.in-Some.pc gives c.in-Some.is
          c.loop-pc.invariant.kept (let room = c.requires.room in omega (arith, sum, count, few, room)),
    )

pub loop-pc-preserved : goal.loop-pc-preserved
loop-pc-preserved g c =
    let memory = c.args.known.now in
    let state = c.args.state.now in
    let listed = g.I.Images.images c.args.images.now in
    let whole : List FrameRow = c.args.rows.now.items ++ walked memory listed c.args.bits state in
    let before = coming memory listed c.loop-pc.cursor in
    let after = coming memory listed c.next_over.new.self in
    let walk = c.next_over.new.self in
    let gives = rw c.loop-pc.invariant.memory at c.next_over.ensures.gives listed c.loop-pc.invariant.over in
    let by : c.unwrap_or.result ≡ unwrap_or (number_of (given_last walk)) 0 = c.unwrap_or.ensures ∙ ap (λ (n : Option ℕ). unwrap_or n 0) c.by.ensures in
    let lookup : c.unwrap_or-lookup.result ≡ unwrap_or (lookup_of (given_last walk)) 0 = c.unwrap_or-lookup.ensures ∙ ap (λ (n : Option ℕ). unwrap_or n 0) c.lookup.ensures in
    let known = c.next_over.ensures.memory ∙ c.loop-pc.invariant.memory in
    let over : c.locate-over.result ≡ located_last memory listed walk =
    c.locate-over.ensures.located ∙ (λ k. located_last (known k) (c.loop-pc.invariant.same k) walk) in
    let position : c.tabled.result ≡ tabled (located_last memory listed walk) = c.tabled.ensures ∙ ap (λ (o : Option Located). tabled o) over in
    let arch = c.next_over.ensures.arch ∙ c.loop-pc.invariant.arch in
    record {
      kept = ap (λ (rows : List FrameRow). rows ++ map (row_of memory state.arch listed) after) c.push.ensures.items
          ∙ row_more memory state.arch listed c.loop-pc.rows.items before after whole (given_last c.loop-pc.cursor) walk c.next_over.result c.in-Some.pc
          c.unwrap_or.result c.unwrap_or-lookup.result c.tabled.result gives c.in-Some.is (omega arith) arch by lookup position c.loop-pc.invariant.kept;
      over = over;
      index = c.locate-over.ensures.index ∙ c.loop-pc.invariant.index ∙ (λ k. Some (index_of memory (sym c.next_over.ensures.arch k) (sym c.locate-over.ensures.same k)));
      arch = arch;
      same = c.locate-over.ensures.same ∙ c.loop-pc.invariant.same;
      still = c.locate-over.ensures.index ∙ c.loop-pc.invariant.still;
      follows = g.met.I.Images.follows_on _ _ _ c.loop-pc.invariant.follows c.locate-over.ensures.follows;
      memory = c.locate-over.ensures.memory ∙ known;
    }

pub loop-pc-smaller : goal.loop-pc-smaller
loop-pc-smaller g c =
    let memory = c.args.known.now in
    let state = c.args.state.now in
    let listed = g.I.Images.images c.args.images.now in
    let before = coming memory listed c.loop-pc.cursor in
    let after = coming memory listed c.next_over.new.self in
    let gives = rw c.loop-pc.invariant.memory at c.next_over.ensures.gives listed c.loop-pc.invariant.over in
    fewer memory state.arch listed before after (given_last c.loop-pc.cursor) (given_last c.next_over.new.self) c.next_over.result c.in-Some.pc gives c.in-Some.is

pub returns-clause-found : goal.returns-clause-found
returns-clause-found g c =
    let memory = c.args.known.now in
    let state = c.args.state.now in
    let listed = g.I.Images.images c.args.images.now in
    let whole : List FrameRow = c.args.rows.now.items ++ walked memory listed c.args.bits state in
    let before = coming memory listed c.loop-pc.cursor in
    let after = coming memory listed c.next_over.new.self in
    let gives = rw c.loop-pc.invariant.memory at c.next_over.ensures.gives listed c.loop-pc.invariant.over in
    rows_end memory state.arch listed c.loop-pc.rows.items before after whole (given_last c.loop-pc.cursor) (given_last c.next_over.new.self) c.next_over.result gives c.in_default.is c.loop-pc.invariant.kept
