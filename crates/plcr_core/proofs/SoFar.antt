-- What is known while the load commands of a core are read one by one.
use Rattle.std.proofs.Common.{◌≡◌, ℕ, suc, ◌+◌, ◌-◌, ◌≤◌, ◌<◌, List, [], ◌∷◌, ◌++◌, length, filter_map, take, All, Option, Some, None, IfSome, Result, Ok, Err, sym, ap, subst, ◌∙◌, arith}
use Rattle.std.specs.Option.{option_to_list}
use Rattle.std.proofs.lemmas.List.Elements.{All-nil, All-same}
use Rattle.std.proofs.Math.Nat.{sub-zero}
use Rattle.plcr_base.specs.Chains.{◌>>=◌, result_map}
use Rattle.plcr_base.proofs.Chained.{map_ok, map_err}
use Rattle.plcr_memory.specs.declared.region.Region.{Region}
use Rattle.plcr_memory.specs.Regions.{IsBacked}
use Rattle.plcr_loader.specs.Commands.{Command, command_at, commands_at, faulted}
use Rattle.plcr_loader.specs.Sources.{file_bytes}
use Rattle.plcr_loader.specs.declared.mach_header_64.TheConstants.{LENGTH}
use Rattle.plcr_loader.specs.declared.trouble.Trouble.{Trouble}
use Rattle.plcr_core.specs.declared.header.Header.{Header}
use Rattle.plcr_core.specs.declared.gain.Gain.{Gain}
use Rattle.plcr_core.specs.declared.fault.CoreFault.{CoreFault}
use Rattle.plcr_core.specs.Cores.{core_trouble, thread_of, fault_of, commands_in}
use Rattle.plcr_core.specs.declared.limits.TheConstants.{MOST_THREADS}
use Rattle.plcr_core.specs.inner.Gathering.{Fails, Gains, gain_of, gains_in, gains_of, with_gain}
use Rattle.plcr_core.proofs.Fronts.{after, after_none, goes_on, stops, is_done, gains_more, fails_at}
use Rattle.plcr_core.proofs.Kept.{All-option, length-option, kept_few}

-- the command at an index and a place
abbrev pub here : List ℕ → Header → ℕ → ℕ → Result Command Trouble
here file header index at = command_at (file_bytes file) (core_trouble (length file)) header.end index at

-- so many commands from an index and a place on
abbrev pub rest : List ℕ → Header → ℕ → ℕ → ℕ → Result (List Command) Trouble
rest file header left index at = commands_at (file_bytes file) (core_trouble (length file)) header.end left index at

-- the commands before an index, which end at a place, gave what was found
pub record SoFar (file : List ℕ) (header : Header) (index at : ℕ) (found : Gains) : Type 0 where
  pub front : List Command
  pub read : after front (rest file header (header.commands - index) index at) ≡ rest file header header.commands 0 LENGTH
  pub gathered : found ≡ gains_of header.arch front
  pub few : found.count ≤ index
  pub backed : All (IsBacked file) found.regions

-- the region's bytes stand in the file and within the region
abbrev pub StandsIn : ℕ → Region → Type 0
StandsIn file_length r = (r.from + r.len ≤ file_length) × (r.len ≤ r.size) × (1 ≤ r.size)

pub starts : (file : List ℕ) (header : Header) (found : Gains) → found ≡ record { regions = []; threads = []; count = 0 } → SoFar file header 0 LENGTH found
starts file header found none =
    let regions : found.regions ≡ [] = ap (λ (g : Gains). g.regions) none in
    let count : found.count ≡ 0 = ap (λ (g : Gains). g.count) none in
    record {
      front = [];
      read = rw (sub-zero header.commands) (after_none (rest file header header.commands 0 LENGTH));
      gathered = none;
      few = omega arith;
      backed = All-same (IsBacked file) found.regions [] regions (All-nil (IsBacked file));
    }

pub kept : (file : List ℕ) (header : Header) (index at : ℕ) (found : Gains) → SoFar file header index at found → length found.threads ≤ MOST_THREADS
kept file header index at found h =
    let threads : found.threads ≡ take MOST_THREADS (filter_map (thread_of header.arch) h.front) = ap (λ (g : Gains). g.threads) h.gathered in
    rw threads (kept_few MOST_THREADS (filter_map (thread_of header.arch) h.front))

backed_by : (file : List ℕ) (o : Option Region) → IfSome o (StandsIn (length file)) → IfSome o (IsBacked file)
backed_by file None h = h
backed_by file (Some r) h = record { in_file = h.0; in_region = h.1; not_empty = h.2 }

moves_by : (file : List ℕ) (header : Header) (index at : ℕ) (old new : Gains) (c : Command)
    → SoFar file header index at old → index < header.commands
    → here file header index at ≡ Ok c
    → new ≡ with_gain old (gain_of header.arch c)
    → IfSome (gain_of header.arch c).region (StandsIn (length file))
    → SoFar file header (index + 1) (at + c.cmdsize) new
moves_by file header index at old new c h more found added stands =
    let left : header.commands - index ≡ suc (header.commands - (index + 1)) = omega arith in
    let read : after h.front (rest file header (suc (header.commands - (index + 1))) index at) ≡ rest file header header.commands 0 LENGTH = subst (λ (n : ℕ). after h.front (rest file header n index at) ≡ rest file header header.commands 0 LENGTH) left h.read in
    let count : new.count ≡ old.count + length (option_to_list (gain_of header.arch c).thread) = ap (λ (g : Gains). g.count) added in
    let regions : new.regions ≡ old.regions ++ option_to_list (gain_of header.arch c).region = ap (λ (g : Gains). g.regions) added in
    record {
      front = h.front ++ c ∷ [];
      read = goes_on (file_bytes file) (core_trouble (length file)) header.end (header.commands - (index + 1)) index at h.front c (rest file header header.commands 0 LENGTH) found read;
      gathered = added ∙ ap (λ (g : Gains). with_gain g (gain_of header.arch c)) h.gathered ∙ sym (gains_more header.arch h.front c);
      few = omega (arith, h.few, length-option (gain_of header.arch c).thread);
      backed = All-same (IsBacked file) new.regions _ regions (All-option (IsBacked file) old.regions (gain_of header.arch c).region h.backed (backed_by file (gain_of header.arch c).region stands));
    }

-- one more command is read
pub moves : (file : List ℕ) (header : Header) (index at : ℕ) (old new : Gains) (gain : Gain)
    → SoFar file header index at old → index < header.commands
    → Ok gain ≡ result_map (gain_of header.arch) (here file header index at)
    → new ≡ with_gain old gain
    → IfSome gain.region (StandsIn (length file))
    → SoFar file header (index + 1) (at + gain.size) new
moves file header index at old new gain h more found =
    let read = map_ok (gain_of header.arch) (here file header index at) gain (sym found) in
    subst (λ (g : Gain). new ≡ with_gain old g → IfSome g.region (StandsIn (length file)) → SoFar file header (index + 1) (at + g.size) new)
    read.2
    (moves_by file header index at old new read.0 h more read.1)

-- a command with a trouble ends the reading
pub breaks : (file : List ℕ) (header : Header) (index at : ℕ) (old : Gains) (trouble : Trouble)
    → SoFar file header index at old → index < header.commands
    → Err trouble ≡ result_map (gain_of header.arch) (here file header index at)
    → Fails (fault_of (length file) trouble) (gains_in file header)
unfolding commands_in
breaks file header index at old trouble h more found =
    let left : header.commands - index ≡ suc (header.commands - (index + 1)) = omega arith in
    let read : after h.front (rest file header (suc (header.commands - (index + 1))) index at) ≡ rest file header header.commands 0 LENGTH = subst (λ (n : ℕ). after h.front (rest file header n index at) ≡ rest file header header.commands 0 LENGTH) left h.read in
    let all : rest file header header.commands 0 LENGTH ≡ Err trouble =
    stops (file_bytes file) (core_trouble (length file)) header.end (header.commands - (index + 1)) index at h.front trouble (rest file header header.commands 0 LENGTH)
    (map_err (gain_of header.arch) (here file header index at) trouble (sym found)) read in
    fails_at (length file) trouble (gains_in file header)
    (ap (λ (r : Result (List Command) Trouble). faulted (fault_of (length file)) r >>= λ (cs : List Command). let g : Result Gains CoreFault = Ok (gains_of header.arch cs) in g) all)

-- after the last command all is found
pub ends : (file : List ℕ) (header : Header) (index at : ℕ) (found : Gains)
    → SoFar file header index at found → header.commands ≤ index → gains_in file header ≡ Ok found
unfolding commands_in
ends file header index at found h none_left =
    let left : header.commands - index ≡ 0 = omega arith in
    let read : after h.front (rest file header 0 index at) ≡ rest file header header.commands 0 LENGTH = subst (λ (n : ℕ). after h.front (rest file header n index at) ≡ rest file header header.commands 0 LENGTH) left h.read in
    let all : rest file header header.commands 0 LENGTH ≡ Ok h.front =
    is_done (file_bytes file) (core_trouble (length file)) header.end index at h.front (rest file header header.commands 0 LENGTH) read in
    ap (λ (r : Result (List Command) Trouble). faulted (fault_of (length file)) r >>= λ (cs : List Command). let g : Result Gains CoreFault = Ok (gains_of header.arch cs) in g) all
    ∙ ap (λ (g : Gains). let r : Result Gains CoreFault = Ok g in r) (sym h.gathered)
