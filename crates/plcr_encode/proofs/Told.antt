-- The rows in which the frames of a thread are kept, one after the other as a walk tells them.
use Rattle.std.proofs.Common.{◌≡◌, ℕ, Bool, true, false, ◌+◌, ◌<◌, ◌≤◌, ◌%◌, ◌^◌, List, [], ◌∷◌, ◌++◌, length, map, Option, Some, None, refl, sym, ap, ◌∙◌, append_assoc, append-nil, length-append, arith}
use Rattle.std.specs.Prelude.{option_map, unwrap_or}
use Rattle.std.specs.Option.{option_and_then}
use Rattle.std.proofs.lemmas.List.{length-map}
use Rattle.plcr_regs.specs.declared.arch.Arch.{Arch}
use Rattle.plcr_regs.specs.declared.registers.Registers.{Registers}
use Rattle.plcr_regs.specs.declared.frame.Frame.{Frame}
use Rattle.plcr_regs.specs.Frames.{frame_lookup, frame_pc, looked_up}
use Rattle.plcr_memory.specs.Regions.{Contents}
use Rattle.plcr_macho.specs.Containing.{first_over}
use Rattle.plcr_macho.specs.Images.{Listed}
use Rattle.plcr_cursor.specs.declared.given.Given.{Given}
use Rattle.plcr_cursor.specs.declared.limits.TheConstants.{MOST_FRAMES}
use Rattle.plcr_cursor.specs.Frames.{frames_of, located_at, located_over, lookup_of, number_of, reader_number}
use Rattle.plcr_cursor.specs.Walks.{Gives, Walk, arch_of, given_last, located_last}
use Rattle.plcr_cursor.proofs.Chained.{are_frames}
use Rattle.plcr_encode.specs.declared.frame_rows.FrameRow.{FrameRow}
use Rattle.plcr_encode.specs.Frames.{lookup_in, pc_of}
use Rattle.plcr_encode.specs.inner.FrameRows.{position_of, row_of, tabled}

-- a row that stands for none
abbrev pub no_row : FrameRow
no_row = record { pc = 0; by = 0; lookup = 0; position = None; symbol = None }

-- a row of the frame that was told last
abbrev pub row_told : ℕ → ℕ → ℕ → Option ℕ → FrameRow
row_told pc by lookup position = record { pc = pc; by = by; lookup = lookup; position = position; symbol = None }

-- the frame given last is that of the walk
last_is : (last : Given) (given : Bool) (x : Given) → given_last (record { last = last; given = given; left = 0 }) ≡ Some x → last ≡ x
last_is last true x is = cc
last_is last false x is = absurd (cc)

module _ (memory : Contents) (arch : Arch) (listed : List Listed) where
  abbrev kept : List Given → List FrameRow
  kept frames = map (row_of memory arch listed) frames

  -- the image that was located has the address
  over_is : (looked : Option ℕ) (address : ℕ) → looked ≡ Some address
      → tabled (option_and_then (λ (a : ℕ). option_map located_at (first_over memory arch a 0 listed)) looked) ≡ position_of memory arch listed (unwrap_or looked 0)
  over_is None address is = absurd (cc)
  over_is (Some a) address is = refl

  placed_by : (frame : Frame) (pc : ℕ) → frame_pc frame ≡ Some pc → frame.registers.arch ≡ arch → tabled (located_over memory listed frame) ≡ position_of memory arch listed (unwrap_or (frame_lookup frame) 0)
  placed_by frame pc known same =
      let looked : frame_lookup frame ≡ Some (looked_up frame.exact pc) = ap (option_map (looked_up frame.exact)) known in
      ap (λ (a : Arch). tabled (option_and_then (λ (n : ℕ). option_map located_at (first_over memory a n 0 listed)) (frame_lookup frame))) same
      ∙ over_is (frame_lookup frame) (looked_up frame.exact pc) looked

  placed_in : (walk : Walk) (x : Given) (pc : ℕ) → given_last walk ≡ Some x → frame_pc x.frame ≡ Some pc → arch_of walk ≡ arch
      → tabled (located_last memory listed walk) ≡ position_of memory arch listed (lookup_in x)
  placed_in walk x pc is known same =
      let last : walk.last ≡ x = last_is walk.last walk.given x is in
      let own : x.frame.registers.arch ≡ arch = ap (λ (g : Given). g.frame.registers.arch) (sym last) ∙ same in
      ap (λ (n : Option Given). tabled (option_and_then (λ (g : Given). located_over memory listed g.frame) n)) is
      ∙ placed_by x.frame pc known own

  row_is : (x : Given) (walk : Walk) (pc by lookup : ℕ) (position : Option ℕ) → given_last walk ≡ Some x → Some pc ≡ frame_pc x.frame → pc < 2 ^ 64 → arch_of walk ≡ arch
      → by ≡ unwrap_or (number_of (given_last walk)) 0 → lookup ≡ unwrap_or (lookup_of (given_last walk)) 0 → position ≡ tabled (located_last memory listed walk)
      → row_told pc by lookup position ≡ row_of memory arch listed x
  row_is x walk pc by lookup position is known fits same by_is lookup_is position_is =
      let word : pc ≡ pc % 2 ^ 64 = omega (arith, fits) in
      let pc_at : pc ≡ pc_of x = word ∙ ap (λ (o : Option ℕ). unwrap_or o 0 % 2 ^ 64) known in
      let by_at : by ≡ reader_number x.by = by_is ∙ ap (λ (n : Option Given). unwrap_or (number_of n) 0) is in
      let at : lookup ≡ lookup_in x = lookup_is ∙ ap (λ (n : Option Given). unwrap_or (lookup_of n) 0) is in
      let placed : position ≡ position_of memory arch listed (lookup_in x) = position_is ∙ placed_in walk x pc is (sym known) same in
      λ k. record { pc = pc_at k; by = by_at k; lookup = at k; position = placed k; symbol = None }

  -- one more row is kept
  pub row_more : (rows : List FrameRow) (before after : List Given) (whole : List FrameRow) (last : Option Given) (walk : Walk) (answer : Option ℕ) (pc by lookup : ℕ) (position : Option ℕ)
      → Gives before after last (given_last walk) answer → answer ≡ Some pc → pc < 2 ^ 64 → arch_of walk ≡ arch
      → by ≡ unwrap_or (number_of (given_last walk)) 0 → lookup ≡ unwrap_or (lookup_of (given_last walk)) 0 → position ≡ tabled (located_last memory listed walk)
      → rows ++ kept before ≡ whole
      → (rows ++ row_told pc by lookup position ∷ []) ++ kept after ≡ whole
  row_more rows [] after whole last walk answer pc by lookup position gives is fits same by_is lookup_is position_is had = let none = gives.0 in absurd (cc)
  row_more rows (x ∷ xs) after whole last walk answer pc by lookup position gives is fits same by_is lookup_is position_is had =
      let row = row_is x walk pc by lookup position gives.2 (sym is ∙ gives.1) fits same by_is lookup_is position_is in
      let others = gives.3 in
      append_assoc rows (row_told pc by lookup position ∷ []) (kept after) ∙ ((λ k. rows ++ (row k ∷ kept (others k))) ∙ had)

  -- fewer frames come behind one
  pub fewer : (before after : List Given) (last now : Option Given) (answer : Option ℕ) (pc : ℕ) → Gives before after last now answer → answer ≡ Some pc → length after < length before
  fewer [] after last now answer pc gives is = let none = gives.0 in absurd (cc)
  fewer (x ∷ xs) after last now answer pc gives is = let others = ap length gives.3 in omega (arith, others)

  -- where no frame comes, all rows are kept
  pub rows_end : (rows : List FrameRow) (before after : List Given) (whole : List FrameRow) (last now : Option Given) (answer : Option ℕ)
      → Gives before after last now answer → answer ≡ None → rows ++ kept before ≡ whole → rows ≡ whole
  rows_end rows [] after whole last now answer gives is had = sym (append-nil rows) ∙ had
  rows_end rows (x ∷ xs) after whole last now answer gives is had = let some = gives.0 in absurd (cc)

  -- there is room for the row of a frame that comes
  pub row_fits : (n : ℕ) (rows : List FrameRow) (before after : List Given) (whole : List FrameRow) (last now : Option Given) (answer : Option ℕ) (pc : ℕ)
      → Gives before after last now answer → answer ≡ Some pc → rows ++ kept before ≡ whole → length whole ≤ n → length rows < n
  row_fits n rows [] after whole last now answer pc gives is had few = let none = gives.0 in absurd (cc)
  row_fits n rows (x ∷ xs) after whole last now answer pc gives is had few =
      let sum : length rows + length (kept (x ∷ xs)) ≡ length whole = sym (length-append rows (kept (x ∷ xs))) ∙ ap length had in
      let left = length-map (x ∷ xs) (row_of memory arch listed) in
      omega (arith, sum, left, few)

-- a thread has no more frames than there are rows
pub few_frames : (memory : Contents) (images : List Listed) (state : Registers) (bits : ℕ) → length (frames_of memory images state bits) ≤ MOST_FRAMES
few_frames memory images state bits = (are_frames memory images state bits).few
