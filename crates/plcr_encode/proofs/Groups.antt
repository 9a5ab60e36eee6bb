-- The frames of several threads, one thread behind the other.
use Rattle.std.proofs.Common.{◌≡◌, ℕ, suc, ◌+◌, ◌-◌, ◌<◌, ◌≤◌, List, [], ◌∷◌, ◌++◌, length, map, take, drop, get_or, refl, sym, ap, subst, ◌∙◌, append-nil, length-append, arith}
use Rattle.std.specs.Prelude.{All}
use Rattle.std.specs.List.{enumerate_from, flat_map}
use Rattle.std.proofs.lemmas.List.{length-map, length-take-le, map-append, map_more, take_more, take_at, drop_at, drop_more, drop-drop, take-append-drop, take-map, drop-map, drop_all, get_or-map, length-drop}
use Rattle.std.proofs.lemmas.List.Concat.{flat_map-append}
use Rattle.std.proofs.lemmas.List.Elements.{All-nil, All-append, All-head, All-tail}
use Rattle.plcr_memory.specs.Regions.{Contents}
use Rattle.plcr_wire.specs.Pen.{Pen, Wrote}
use Rattle.plcr_wire.specs.Message.{field_spelling, spelling}
use Rattle.plcr_regs.specs.declared.arch.Arch.{Arch}
use Rattle.plcr_regs.specs.declared.registers.Registers.{Registers}
use Rattle.plcr_regs.specs.States.{IsWhole}
use Rattle.plcr_macho.specs.Images.{Listed}
use Rattle.plcr_report.specs.Messages.{thread_message}
use Rattle.plcr_report.specs.declared.messages.Frame.{Frame}
use Rattle.plcr_report.specs.declared.messages.Thread.{Thread}
use Rattle.plcr_cursor.specs.declared.limits.TheConstants.{MOST_FRAMES}
use Rattle.plcr_cursor.specs.Frames.{frames_of}
use Rattle.plcr_encode.specs.declared.frame_rows.FrameRow.{FrameRow}
use Rattle.plcr_encode.specs.Frames.{frame_of, thread_frames}
use Rattle.plcr_encode.specs.Values.{thread_with}
use Rattle.plcr_encode.specs.inner.FrameRows.{IsPlaced, frame_in, row_of, symbol_by}
use Rattle.plcr_encode.specs.inner.Groups.{AreRowsOf, count_of, numbered_thread, walked}
use Rattle.plcr_encode.specs.inner.Lookups.{answered}
use Rattle.plcr_encode.specs.inner.Rows.{message_field, message_fields}
use Rattle.plcr_encode.proofs.Placed.{rows_hold, rows_placed}
use Rattle.plcr_encode.proofs.Rows.{WroteUpTo, sized_more, spelling-append, up_to_end, up_to_more}
use Rattle.plcr_encode.proofs.Told.{few_frames}

-- one more thread
pub flat_more : {A : Type 0} (of : Registers → List A) (states : List Registers) (i : ℕ) (d : Registers) → i < length states
    → flat_map of (take (i + 1) states) ≡ flat_map of (take i states) ++ of (get_or states i d)
flat_more of states i d lt =
    ap (flat_map of) (take_more states i d lt)
    ∙ flat_map-append of (take i states) (get_or states i d ∷ [])
    ∙ ap (λ l. flat_map of (take i states) ++ l) (append-nil (of (get_or states i d)))

pub counts_more : {A : Type 0} (of : Registers → List A) (states : List Registers) (i n : ℕ) (old new : List ℕ) (d : Registers) → i < length states
    → n ≡ length (of (get_or states i d)) → old ≡ map (count_of of) (take i states) → new ≡ old ++ n ∷ [] → new ≡ map (count_of of) (take (i + 1) states)
counts_more of states i n old new d lt size before is =
    is ∙ (λ k. before k ++ size k ∷ []) ∙ sym (map_more (count_of of) states i d lt)

module _ (memory : Contents) (listed : List Listed) (bits : ℕ) where
  -- what the rows of threads hold, with their symbols, is what is written of their frames
  pub threads_hold : (arch : Arch) (states : List Registers) → All (IsWhole arch) states
      → map (frame_in memory) (map (answered (symbol_by memory arch listed)) (flat_map (walked memory listed bits) states)) ≡ flat_map (thread_frames memory listed bits) states
  threads_hold arch [] whole = refl
  threads_hold arch (state ∷ states) whole =
      let same = (All-head (IsWhole arch) state states whole).same in
      let own = walked memory listed bits state in
      let others = flat_map (walked memory listed bits) states in
      let answer = λ (a : Arch). map (answered (symbol_by memory a listed)) in
      ap (map (frame_in memory)) (map-append (answered (symbol_by memory arch listed)) own others)
      ∙ map-append (frame_in memory) (answer arch own) (answer arch others)
      ∙ (λ k. map (frame_in memory) (map (answered (symbol_by memory (sym same k) listed)) own) ++ threads_hold arch states (All-tail (IsWhole arch) state states whole) k)
      ∙ ap (λ (l : List Frame). l ++ flat_map (thread_frames memory listed bits) states) (rows_hold memory state.arch listed (frames_of memory listed state bits))

  pub threads_placed : (states : List Registers) → All (IsPlaced listed) (flat_map (walked memory listed bits) states)
  threads_placed [] = All-nil (IsPlaced listed)
  threads_placed (state ∷ states) =
      All-append (IsPlaced listed) (walked memory listed bits state) (flat_map (walked memory listed bits) states)
      (rows_placed memory state.arch listed (frames_of memory listed state bits)) (threads_placed states)

  -- a thread has as many rows as frames
  count_same : (state : Registers) → count_of (walked memory listed bits) state ≡ count_of (thread_frames memory listed bits) state
  count_same state =
      let frames = frames_of memory listed state bits in
      length-map frames (row_of memory state.arch listed) ∙ sym (length-map frames (frame_of memory state.arch listed))

  pub counts_same : (states : List Registers) → map (count_of (walked memory listed bits)) states ≡ map (count_of (thread_frames memory listed bits)) states
  counts_same [] = refl
  counts_same (state ∷ states) = λ k. count_same state k ∷ counts_same states k

  pub few_told : (state : Registers) → length (thread_frames memory listed bits state) ≤ MOST_FRAMES
  few_told state =
      let frames = frames_of memory listed state bits in
      let same = length-map frames (frame_of memory state.arch listed) in
      let few = few_frames memory listed state bits in
      omega (arith, same, few)

-- the rows of the next thread, and those behind them
module _ (frames : Registers → List Frame) (memory : Contents) (rows : List FrameRow) (counts : List ℕ) (states : List Registers) (are : AreRowsOf frames memory rows counts states) where
  pub counts_length : length counts ≡ length states
  counts_length = ap length are.split ∙ length-map states (count_of frames)

  count_at : (k : ℕ) (d : Registers) → k < length states → get_or counts k 0 ≡ length (frames (get_or states k d))
  count_at k d lt = ap (λ (ns : List ℕ). get_or ns k 0) are.split ∙ get_or-map (count_of frames) states k d 0 lt

  -- where so many rows are left
  next : (rest : List FrameRow) (k : ℕ) (d : Registers) → k < length states → map (frame_in memory) rest ≡ flat_map frames (drop k states)
      → map (frame_in memory) rest ≡ frames (get_or states k d) ++ flat_map frames (drop (k + 1) states)
  next rest k d lt left = left ∙ ap (flat_map frames) (drop_more states k d lt)

  pub own_rows : (rest : List FrameRow) (k : ℕ) (d : Registers) → k < length states → map (frame_in memory) rest ≡ flat_map frames (drop k states)
      → map (frame_in memory) (take (get_or counts k 0) rest) ≡ frames (get_or states k d)
  own_rows rest k d lt left =
      sym (take-map (frame_in memory) (get_or counts k 0) rest)
      ∙ ap (take (get_or counts k 0)) (next rest k d lt left)
      ∙ take_at (frames (get_or states k d)) (flat_map frames (drop (k + 1) states)) (get_or counts k 0) (sym (count_at k d lt))

  pub rows_behind : (rest : List FrameRow) (k : ℕ) (d : Registers) → k < length states → map (frame_in memory) rest ≡ flat_map frames (drop k states)
      → map (frame_in memory) (drop (get_or counts k 0) rest) ≡ flat_map frames (drop (k + 1) states)
  rows_behind rest k d lt left =
      sym (drop-map (frame_in memory) (get_or counts k 0) rest)
      ∙ ap (drop (get_or counts k 0)) (next rest k d lt left)
      ∙ drop_at (frames (get_or states k d)) (flat_map frames (drop (k + 1) states)) (get_or counts k 0) (sym (count_at k d lt))

  pub count_fits : (rest : List FrameRow) (k : ℕ) (d : Registers) → k < length states → map (frame_in memory) rest ≡ flat_map frames (drop k states)
      → get_or counts k 0 ≤ length rest
  count_fits rest k d lt left =
      let sum : length rest ≡ length (frames (get_or states k d)) + length (flat_map frames (drop (k + 1) states)) =
      sym (length-map rest (frame_in memory)) ∙ ap length (next rest k d lt left) ∙ length-append (frames (get_or states k d)) (flat_map frames (drop (k + 1) states)) in
      let count = count_at k d lt in
      omega (arith, sum, count)

  pub count_few : (k : ℕ) (d : Registers) → k < length states → get_or counts k 0 ≤ MOST_FRAMES
  count_few k d lt = let count = count_at k d lt in let few = are.few (get_or states k d) in omega (arith, count, few)

-- numbered items of a list in two parts
numbered-append : {A : Type 0} (i : ℕ) (xs ys : List A) → enumerate_from i (xs ++ ys) ≡ enumerate_from i xs ++ enumerate_from (i + length xs) ys
numbered-append i [] ys = let none : i ≡ i + 0 = omega arith in ap (λ (n : ℕ). enumerate_from n ys) none
numbered-append i (x ∷ xs) ys =
    let next : i + 1 + length xs ≡ i + suc (length xs) = omega arith in
    ap (λ l. (i, x) ∷ l) (numbered-append (i + 1) xs ys ∙ ap (λ (n : ℕ). enumerate_from (i + 1) xs ++ enumerate_from n ys) next)

-- the threads of a group stand before those that are left
pub group_left : (thread : ℕ × Registers → Thread) (states : List Registers) (done n : ℕ) → done + n ≤ length states
    → spelling (message_fields 3 thread_message (map thread (enumerate_from done (drop done states))))
    ≡ spelling (message_fields 3 thread_message (map thread (enumerate_from done (take n (drop done states)))))
    ++ spelling (message_fields 3 thread_message (map thread (enumerate_from (done + n) (drop (done + n) states))))
group_left thread states done n le =
    let left = drop done states in
    let rest : length left ≡ length states - done = length-drop done states in
    let count : length (take n left) ≡ n = length-take-le n left (omega (arith, rest, le)) in
    let parts : enumerate_from done left ≡ enumerate_from done (take n left) ++ enumerate_from (done + n) (drop (done + n) states) =
    ap (enumerate_from done) (sym (take-append-drop n left))
    ∙ numbered-append done (take n left) (drop n left)
    ∙ (λ k. enumerate_from done (take n left) ++ enumerate_from (done + count k) (drop-drop n done states k)) in
    let field = λ (t : Thread). message_field 3 (thread_message t) in
    ap (λ (ns : List (ℕ × Registers)). spelling (message_fields 3 thread_message (map thread ns))) parts
    ∙ ap (λ (ts : List Thread). spelling (map field ts)) (map-append thread (enumerate_from done (take n left)) (enumerate_from (done + n) (drop (done + n) states)))
    ∙ ap spelling (map-append field (map thread (enumerate_from done (take n left))) (map thread (enumerate_from (done + n) (drop (done + n) states))))
    ∙ spelling-append (message_fields 3 thread_message (map thread (enumerate_from done (take n left)))) (message_fields 3 thread_message (map thread (enumerate_from (done + n) (drop (done + n) states))))

-- the threads before a number are written, and the rows of those from it on are left
pub record WrittenUpTo (old new : Pen) (memory : Contents) (frames : Registers → List Frame) (crashed first : ℕ) (states : List Registers) (rest : List FrameRow) (n k : ℕ) : Type 0 where
  pub left : map (frame_in memory) rest ≡ flat_map frames (drop k states)
  pub wrote : WroteUpTo old new (spelling (message_fields 3 thread_message (map (numbered_thread crashed frames) (enumerate_from first states))))
      (spelling (message_fields 3 thread_message (map (numbered_thread crashed frames) (enumerate_from (first + k) (drop k states)))))
  pub size : n + length (spelling (message_fields 3 thread_message (map (numbered_thread crashed frames) (enumerate_from (first + k) (drop k states)))))
      ≡ length (spelling (message_fields 3 thread_message (map (numbered_thread crashed frames) (enumerate_from first states))))

-- the next thread of those that are left
next_thread : (thread : ℕ × Registers → Thread) (states : List Registers) (first k : ℕ) (d : Registers) → k < length states
    → spelling (message_fields 3 thread_message (map thread (enumerate_from (first + k) (drop k states))))
    ≡ field_spelling (message_field 3 (thread_message (thread (first + k, get_or states k d)))) ++ spelling (message_fields 3 thread_message (map thread (enumerate_from (first + (k + 1)) (drop (k + 1) states))))
next_thread thread states first k d lt =
    let number : first + k + 1 ≡ first + (k + 1) = omega arith in
    ap (λ (ss : List Registers). spelling (message_fields 3 thread_message (map thread (enumerate_from (first + k) ss)))) (drop_more states k d lt)
    ∙ ap (λ (n : ℕ). field_spelling (message_field 3 (thread_message (thread (first + k, get_or states k d)))) ++ spelling (message_fields 3 thread_message (map thread (enumerate_from n (drop (k + 1) states))))) number

pub written_more : (old mid new : Pen) (memory : Contents) (frames : Registers → List Frame) (crashed first : ℕ) (rows : List FrameRow) (counts : List ℕ) (states : List Registers) (rest : List FrameRow) (size n k : ℕ) (d : Registers)
    → AreRowsOf frames memory rows counts states → k < length states → WrittenUpTo old mid memory frames crashed first states rest size k
    → Wrote mid new (field_spelling (message_field 3 (thread_message (thread_with crashed (first + k) (map (frame_in memory) (take (get_or counts k 0) rest)) (get_or states k d)))))
    → n ≡ length (field_spelling (message_field 3 (thread_message (thread_with crashed (first + k) (map (frame_in memory) (take (get_or counts k 0) rest)) (get_or states k d)))))
    → WrittenUpTo old new memory frames crashed first states (drop (get_or counts k 0) rest) (size + n) (k + 1)
written_more old mid new memory frames crashed first rows counts states rest size n k d are lt before wrote count =
    let own = own_rows frames memory rows counts states are rest k d lt before.left in
    let thread = numbered_thread crashed frames in
    let bytes = λ (fs : List Frame). field_spelling (message_field 3 (thread_message (thread_with crashed (first + k) fs (get_or states k d)))) in
    let next = next_thread thread states first k d lt in
    record {
      left = rows_behind frames memory rows counts states are rest k d lt before.left;
      wrote = up_to_more _ _ _ _ _ _ _ next before.wrote (subst (λ (fs : List Frame). Wrote mid new (bytes fs)) own wrote);
      size = sized_more _ _ _ _ _ _ before.size next (count ∙ ap (λ (fs : List Frame). length (bytes fs)) own);
    }

pub written_end : (old new : Pen) (memory : Contents) (frames : Registers → List Frame) (crashed first : ℕ) (states : List Registers) (rest : List FrameRow) (size k : ℕ) → length states ≤ k
    → WrittenUpTo old new memory frames crashed first states rest size k
    → Wrote old new (spelling (message_fields 3 thread_message (map (numbered_thread crashed frames) (enumerate_from first states))))
    × (size ≡ length (spelling (message_fields 3 thread_message (map (numbered_thread crashed frames) (enumerate_from first states)))))
written_end old new memory frames crashed first states rest size k le all =
    let thread = numbered_thread crashed frames in
    let bytes = spelling (message_fields 3 thread_message (map thread (enumerate_from first states))) in
    let none = λ (ss : List Registers). spelling (message_fields 3 thread_message (map thread (enumerate_from (first + k) ss))) in
    let over : drop k states ≡ [] = drop_all k states le in
    let whole : size + length (none (drop k states)) ≡ length bytes = all.size in
    let left : length (none (drop k states)) ≡ 0 = ap (λ (ss : List Registers). length (none ss)) over in
    (up_to_end old new bytes (subst (λ (ss : List Registers). WroteUpTo old new bytes (none ss)) over all.wrote), omega (arith, whole, left))
