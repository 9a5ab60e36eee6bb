-- The threads of a process can be handed in for a report: their registers have 64 bits, and so have those of each frame, since they are told as words.
use Rattle.std.proofs.Common.{◌≡◌, ℕ, zero, suc, ◌+◌, ◌^◌, ◌<◌, ◌≤◌, true, List, [], ◌∷◌, length, map, Option, Some, None, refl, sym, subst, ◌∙◌, arith, lit<, lit≤}
use Rattle.std.specs.Prelude.{slice_index_or, unwrap_or, IfSome, nat_le, option_map}
use Rattle.std.specs.List.{AllByRecursion, enumerate_from, range_with_len, list_all}
use Rattle.std.specs.Option.{option_and_then}
use Rattle.std.proofs.lemmas.List.FromFn.{length-map-range_with_len, length-enumerate_from}
use Rattle.std.proofs.lemmas.List.{length-map}
use Rattle.std.proofs.lemmas.Bool.{and_parts, leb-true}
use Rattle.std.proofs.lemmas.Nat.{mod_below}
use Rattle.plcr_base.specs.Bytes.{IsBytes}
use Rattle.plcr_memory.specs.Regions.{Contents}
use Rattle.plcr_loader.specs.Fields.{number}
use Rattle.plcr_regs.specs.declared.arch.Arch.{Arch}
use Rattle.plcr_regs.specs.declared.arch.Arch.TheVariants.{X86_64, Arm64}
use Rattle.plcr_regs.specs.declared.registers.Registers.{Registers}
use Rattle.plcr_regs.specs.Frames.{frame_pc}
use Rattle.plcr_regs.specs.Names.{register_names, register_count}
use Rattle.plcr_loader.specs.declared.nlist_64.TheConstants.{N_VALUE}
use Rattle.plcr_macho.specs.declared.image.Image.{Image}
use Rattle.plcr_macho.specs.Containing.{first_over}
use Rattle.plcr_macho.specs.Images.{Listed}
use Rattle.plcr_symbols.specs.declared.symbol.SymbolAt.{SymbolAt}
use Rattle.plcr_symbols.specs.Laws.{row_of}
use Rattle.plcr_symbols.specs.Symbols.{rows_of, symbol_at}
use Rattle.plcr_symbols.proofs.Lawful.{symbol_found, symbol_named}
use Rattle.plcr_cursor.specs.declared.given.Given.{Given}
use Rattle.plcr_cursor.specs.declared.limits.TheConstants.{MOST_FRAMES}
use Rattle.plcr_cursor.specs.Frames.{frames_of}
use Rattle.plcr_cursor.proofs.Chained.{are_frames}
use Rattle.plcr_encode.specs.declared.context.Context.{Context}
use Rattle.plcr_encode.specs.Frames.{frame_of, lookup_in, symbol_of}
use Rattle.plcr_encode.specs.Values.{register_at as register_named, registers_of, thread_of, threads_of}
use Rattle.plcr_encode.proofs.Named.{mapped_length}
use Rattle.plcr_tool.specs.Laws.{IsHandedState, AreHandedStates, IsHandedSymbol, IsHandedFrame, IsHandedRegister, IsHandedThread, AreHandedThreads}

-- what holds of each that a function gives
pub all_mapped : {A B : Type 0} (P : B → Type 0) (f : A → B) → ((x : A) → P (f x)) → (xs : List A) → AllByRecursion P (map f xs)
all_mapped P f holds [] = tt
all_mapped P f holds (x ∷ xs) = (holds x, all_mapped P f holds xs)

all_mapped_from : {A B : Type 0} (P : A → Type 0) (Q : B → Type 0) (f : A → B) → ((x : A) → P x → Q (f x)) → (xs : List A) → AllByRecursion P xs → AllByRecursion Q (map f xs)
all_mapped_from P Q f holds [] all = tt
all_mapped_from P Q f holds (x ∷ xs) all = (holds x all.0, all_mapped_from P Q f holds xs all.1)

-- the names of registers have at most 8 bytes
each_short : (names : List (List ℕ)) (i : ℕ) → list_all (λ name. nat_le (length name) 8) names ≡ true → length (slice_index_or names i []) ≤ 8
each_short [] i all = lit≤ tt
each_short (name ∷ names) zero all = leb-true (length name) 8 (and_parts (nat_le (length name) 8) _ all).0
each_short (name ∷ names) (suc i) all = each_short names i (and_parts (nat_le (length name) 8) _ all).1

name_short : (arch : Arch) (i : ℕ) → length (slice_index_or (register_names arch) i []) ≤ 8
name_short X86_64 i = each_short (register_names X86_64) i refl
name_short Arm64 i = each_short (register_names Arm64) i refl

count_small : (arch : Arch) → register_count arch ≤ 34
count_small X86_64 = lit≤ tt
count_small Arm64 = lit≤ tt

-- what is known has 64 bits
abbrev IsSmall : Option ℕ → Type 0
IsSmall value = IfSome value (λ n. n < 2 ^ 64)

-- the value at a place
value_small : (values : List (Option ℕ)) (i : ℕ) → AllByRecursion IsSmall values → IsSmall (slice_index_or values i None)
value_small [] i all = tt
value_small (value ∷ values) zero all = all.0
value_small (value ∷ values) (suc i) all = value_small values i all.1

known_small : (value : Option ℕ) → IsSmall value → unwrap_or value 0 < 2 ^ 64
known_small None small = lit< tt
known_small (Some n) small = small

-- a symbol that is found
symbol_handed : (memory : Contents) (image : Image) (address : ℕ) (found : Option SymbolAt) → symbol_at memory image address ≡ found → IfSome (option_map (symbol_of memory) found) IsHandedSymbol
symbol_handed memory image address None is = tt
symbol_handed memory image address (Some symbol) is =
    let named = symbol_named memory image address symbol is in
    let lies = symbol_found memory image address symbol is in
    let count = mapped_length memory symbol.name_at symbol.name_len named.0 in
    let row = row_of (rows_of memory lies.table) lies.index in
    record {
      name = omega (arith, count, named.1);
      typed = record {
        start_address = subst (λ (n : ℕ). n < 2 ^ 64) (sym lies.value) (mod_below (number N_VALUE row + image.slide) (2 ^ 64) (lit< tt));
        end_address = tt;
      };
    }

symbol_in_handed : (memory : Contents) (address : ℕ) (first : Option (ℕ × Image)) → IfSome (option_map (symbol_of memory) (option_and_then (λ (found : ℕ × Image). symbol_at memory found.1 address) first)) IsHandedSymbol
symbol_in_handed memory address None = tt
symbol_in_handed memory address (Some found) = symbol_handed memory found.1 address (symbol_at memory found.1 address) refl

-- what is written of a frame
frame_handed : (memory : Contents) (arch : Arch) (listed : List Listed) (given : Given) → IsHandedFrame (frame_of memory arch listed given)
frame_handed memory arch listed given = record {
  pc = mod_below (unwrap_or (frame_pc given.frame) 0) (2 ^ 64) (lit< tt);
  symbol = symbol_in_handed memory (lookup_in given) (first_over memory arch (lookup_in given) 0 listed);
}

-- a register of a state
register_handed : (state : Registers) → IsHandedState state → (i : ℕ) → IsHandedRegister (register_named state i)
register_handed state handed i = record {
  name = name_short state.arch i;
  value = known_small (slice_index_or state.value i None) (value_small state.value i handed);
}

-- a thread
thread_handed : (memory : Contents) (images : List Listed) (context : Context) (number : ℕ) (state : Registers) → IsBytes memory.file → number < 2 ^ 32 → IsHandedState state → IsHandedThread (thread_of memory images context (number, state))
thread_handed memory images context number state bytes small handed =
    let frames = frames_of memory images state context.bits in
    let few : length frames ≤ MOST_FRAMES = (are_frames memory images state context.bits).few in
    let frame = frame_of memory state.arch images in
    let same : length (map frame frames) ≡ length frames = length-map frames frame in
    let count : length (registers_of state) ≡ register_count state.arch = length-map-range_with_len (register_named state) 0 (register_count state.arch) in
    let most : register_count state.arch ≤ 34 = count_small state.arch in
    record {
      thread_number = small;
      frames = all_mapped IsHandedFrame frame (frame_handed memory state.arch images) frames;
      few_frames = omega (arith, few, same);
      registers = all_mapped IsHandedRegister (register_named state) (register_handed state handed) (range_with_len 0 (register_count state.arch));
      few_registers = omega (arith, count, most);
    }

-- the threads in these states, numbered from this on
numbered_handed : (memory : Contents) (images : List Listed) (context : Context) (first : ℕ) (states : List Registers) → IsBytes memory.file → first + length states < 2 ^ 32 → AllByRecursion IsHandedState states
    → AllByRecursion IsHandedThread (map (thread_of memory images context) (enumerate_from first states))
numbered_handed memory images context first [] bytes few all = tt
numbered_handed memory images context first (state ∷ states) bytes few all =
    (thread_handed memory images context first state bytes (omega arith) all.0, numbered_handed memory images context (first + 1) states bytes (omega arith) all.1)

pub threads_handed : (memory : Contents) (images : List Listed) (context : Context) (states : List Registers) → IsBytes memory.file → AreHandedStates context states → AreHandedThreads (threads_of memory images context states)
threads_handed memory images context states bytes handed =
    let most = handed.whole.few in
    record {
      each = numbered_handed memory images context 0 states bytes (omega (arith, most)) handed.each;
      few = let count : length (threads_of memory images context states) ≡ length states = length-map (enumerate_from 0 states) (thread_of memory images context) ∙ length-enumerate_from 0 states in omega (arith, count, most);
    }
