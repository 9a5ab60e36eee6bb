-- The commands read so far gave what was kept, and the rest is still to give.
use Rattle.std.proofs.Common.{◌≡◌, ◌≤◌, ◌<◌, ℕ, suc, ◌+◌, ◌-◌, List, [], ◌∷◌, Result, Ok, Err, refl, sym, ap, subst, ◌∙◌, arith}
use Rattle.plcr_base.specs.Chains.{◌>>=◌, result_map}
use Rattle.plcr_loader.specs.declared.trouble.Trouble.{Trouble}
use Rattle.plcr_loader.specs.Commands.{Bytes, Command, command_at, commands_at}
use Rattle.plcr_base.proofs.Chained.{map_ok, map_err}
use Rattle.plcr_macho.specs.declared.kept.Kept.{Kept}
use Rattle.plcr_macho.specs.declared.gain.Gain.{Gain}
use Rattle.plcr_macho.specs.Loading.{image_trouble}
use Rattle.plcr_macho.specs.inner.Keeping.{first_kept, gain_with, kept_of, nothing}
use Rattle.plcr_macho.proofs.FirstKept.{kept_more, kept_twice, kept_none, none_kept}

-- so many commands from an index and a place on
abbrev pub rest : Bytes → ℕ → ℕ → ℕ → ℕ → Result (List Command) Trouble
rest source end left index at = commands_at source image_trouble end left index at

-- what is kept of commands behind what was kept
abbrev pub behind : Kept → Result (List Command) Trouble → Result Kept Trouble
behind kept cs = result_map (first_kept kept) (result_map kept_of cs)

-- what was kept, and the commands from an index and a place on, give what all commands give
abbrev pub SoFar : Bytes → ℕ → ℕ → ℕ → ℕ → Kept → Type 0
SoFar source end count index at kept = behind kept (rest source end (count - index) index at) ≡ result_map kept_of (rest source end count 0 0)

behind_nothing : (r : Result (List Command) Trouble) → behind nothing r ≡ result_map kept_of r
behind_nothing (Ok cs) = ap (λ (k : Kept). let r : Result Kept Trouble = Ok k in r) (none_kept (kept_of cs))
behind_nothing (Err e) = refl

pub starts : (source : Bytes) (end count : ℕ) (kept : Kept) → kept ≡ nothing → SoFar source end count 0 0 kept
starts source end count kept none =
    let left : count - 0 ≡ count = omega arith in
    ap (λ (n : ℕ). behind kept (rest source end n 0 0)) left ∙ ap (λ (k : Kept). behind k (rest source end count 0 0)) none ∙ behind_nothing (rest source end count 0 0)

one_more : (old : Kept) (c : Command) (r : Result (List Command) Trouble) → behind (first_kept old (kept_of (c ∷ []))) r ≡ behind old (r >>= λ cs. Ok (c ∷ cs))
one_more old c (Ok cs) =
    ap (λ (k : Kept). let r : Result Kept Trouble = Ok k in r)
    (kept_twice old (kept_of (c ∷ [])) (kept_of cs) ∙ ap (first_kept old) (sym (kept_more c cs)))
one_more old c (Err e) = refl

-- the commands from here on are one command and those behind it
here_on : (source : Bytes) (end count index at : ℕ) (kept : Kept) → SoFar source end count index at kept → index < count
    → behind kept (command_at source image_trouble end index at >>= λ c. rest source end (count - (index + 1)) (index + 1) (at + c.cmdsize) >>= λ cs. Ok (c ∷ cs)) ≡ result_map kept_of (rest source end count 0 0)
here_on source end count index at kept h more =
    let left : count - index ≡ suc (count - (index + 1)) = omega arith in
    subst (λ (n : ℕ). behind kept (rest source end n index at) ≡ result_map kept_of (rest source end count 0 0)) left h

-- one command more
pub moves : (source : Bytes) (end count index at : ℕ) (old : Kept) (gain : Gain)
    → SoFar source end count index at old → index < count
    → Ok gain ≡ result_map (gain_with old) (command_at source image_trouble end index at)
    → SoFar source end count (index + 1) (at + gain.size) gain.kept
moves source end count index at old gain h more found =
    let read = map_ok (gain_with old) (command_at source image_trouble end index at) gain (sym found) in
    let c = read.0 in
    let left = count - (index + 1) in
    let step = λ (r : Result Command Trouble). behind old (r >>= λ (d : Command). rest source end left (index + 1) (at + d.cmdsize) >>= λ (cs : List Command). let q : Result (List Command) Trouble = Ok (d ∷ cs) in q) in
    let whole : step (Ok c) ≡ result_map kept_of (rest source end count 0 0) = ap step (sym read.1) ∙ here_on source end count index at old h more in
    let kept : gain.kept ≡ first_kept old (kept_of (c ∷ [])) = ap (λ (g : Gain). g.kept) (sym read.2) in
    let size : gain.size ≡ c.cmdsize = ap (λ (g : Gain). g.size) (sym read.2) in
    ap (λ (k : Kept). behind k (rest source end left (index + 1) (at + gain.size))) kept
    ∙ ap (λ (n : ℕ). behind (first_kept old (kept_of (c ∷ []))) (rest source end left (index + 1) (at + n))) size
    ∙ one_more old c (rest source end left (index + 1) (at + c.cmdsize)) ∙ whole

-- a command with a trouble ends the reading
pub breaks : (source : Bytes) (end count index at : ℕ) (old : Kept) (trouble : Trouble)
    → SoFar source end count index at old → index < count
    → Err trouble ≡ result_map (gain_with old) (command_at source image_trouble end index at)
    → Err trouble ≡ result_map kept_of (rest source end count 0 0)
breaks source end count index at old trouble h more found =
    let left = count - (index + 1) in
    let step = λ (r : Result Command Trouble). behind old (r >>= λ (d : Command). rest source end left (index + 1) (at + d.cmdsize) >>= λ (cs : List Command). let q : Result (List Command) Trouble = Ok (d ∷ cs) in q) in
    ap step (sym (map_err (gain_with old) (command_at source image_trouble end index at) trouble (sym found))) ∙ here_on source end count index at old h more

-- behind the last command all is kept
pub ends : (source : Bytes) (end count index at : ℕ) (kept : Kept) → SoFar source end count index at kept → count ≤ index → Ok kept ≡ result_map kept_of (rest source end count 0 0)
ends source end count index at kept h none_left =
    let left : count - index ≡ 0 = omega arith in
    ap (λ (k : Kept). let r : Result Kept Trouble = Ok k in r) (sym (kept_none kept))
    ∙ subst (λ (n : ℕ). behind kept (rest source end n index at) ≡ result_map kept_of (rest source end count 0 0)) left h
