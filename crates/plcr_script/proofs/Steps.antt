-- What each line of a script makes of the script so far.
use Rattle.std.proofs.Common.{◌≡◌, ℕ, ◌+◌, true, false, List, [], ◌∷◌, length, Option, Some, None, is_some, Result, Ok, Err, ◌==◌, refl, ap, arith}
use Rattle.std.specs.Prelude.{IfOk}
use Rattle.std.specs.Option.{option_copied}
use denote.Ref.{Bor}
use Rattle.plcr_script.proofs.Cutting.{a_part}
use Rattle.plcr_script.specs.declared.faults.Kind.TheVariants.{TooMany}
use Rattle.plcr_script.specs.declared.faults.Kind.{Kind}
use Rattle.plcr_script.specs.declared.faults.ScriptFault.{ScriptFault}
use Rattle.plcr_script.specs.declared.faults.ScriptFault.TheVariants.{Refused, Memory}
use Rattle.plcr_script.specs.declared.wording.Wording.{Wording}
use Rattle.plcr_script.specs.Splits.{lines, words}
use Rattle.plcr_script.specs.inner.Fits.{IsFit}
use Rattle.plcr_script.specs.inner.Wording.{said}
use Rattle.plcr_base.specs.Chains.{◌>>=◌}
use Rattle.plcr_script.specs.Refusals.{Refusal, kind_number, refused_at}
use Rattle.plcr_script.specs.Sayings.{Saying, says_nothing, saying_in, one_word, two_words, end_in}
use Rattle.plcr_script.specs.Reading.{DraftValue, passes_of, is_out_of_place, with_said, with_line, with_lines, Tells}

-- a line that says nothing
pub nothing : (draft : DraftValue) (n : ℕ) (line : List ℕ) → says_nothing line ≡ true → with_line draft n line ≡ Ok draft
unfolding with_line
nothing draft n line h = rw h refl

-- a line that is refused by itself
pub unworded : (draft : DraftValue) (n : ℕ) (line : List ℕ) (kind : Kind) → says_nothing line ≡ false → saying_in (passes_of draft.mode draft.script.passes) line ≡ Err kind → refused_at n (with_line draft n line) ≡ Err (record { line = n; kind = kind_number kind })
unfolding with_line
unworded draft n line kind h e = rw (h, e) refl

-- what is said out of place
pub displaced : (draft : DraftValue) (n : ℕ) (line : List ℕ) (s : Saying) → says_nothing line ≡ false → saying_in (passes_of draft.mode draft.script.passes) line ≡ Ok s → is_out_of_place draft s ≡ true → refused_at n (with_line draft n line) ≡ Err (record { line = n; kind = 6 })
unfolding with_line
displaced draft n line s h e out = rw (h, e, out) refl

-- what is said in its place
pub placed : (draft : DraftValue) (n : ℕ) (line : List ℕ) (s : Saying) → says_nothing line ≡ false → saying_in (passes_of draft.mode draft.script.passes) line ≡ Ok s → is_out_of_place draft s ≡ false → with_line draft n line ≡ Ok (with_said draft n s)
unfolding with_line
placed draft n line s h e in_place = rw (h, e, in_place) refl

-- the lines after one that is read
pub goes_on : (draft next : DraftValue) (n : ℕ) (bytes line rest : List ℕ) → lines bytes ≡ line ∷ lines rest → with_line draft n line ≡ Ok next → with_lines draft n (lines bytes) ≡ with_lines next (n + 1) (lines rest)
unfolding with_lines
goes_on draft next n bytes line rest h e = rw (h, e) refl

-- a refusal stays behind what follows
pub tells_on : {A B : Type 0} (fault : ScriptFault) (r : Result A Refusal) (f : A → Result B Refusal) → Tells fault r → Tells fault (r >>= f)
tells_on Memory r f h = tt
tells_on (Refused line kind) r f h = ap (λ x. x >>= f) h

-- the first line is refused
pub stops : (draft : DraftValue) (n : ℕ) (bytes line rest : List ℕ) (fault : ScriptFault) → lines bytes ≡ line ∷ lines rest → Tells fault (refused_at n (with_line draft n line)) → Tells fault (with_lines draft n (lines bytes))
unfolding with_lines
stops draft n bytes line rest fault h e = rw h (tells_on fault (refused_at n (with_line draft n line)) (λ next. with_lines next (n + 1) (lines rest)) e)

-- no more lines
pub ends : (draft : DraftValue) (n : ℕ) (rest : List ℕ) → length rest ≡ 0 → with_lines draft n (lines rest) ≡ Ok draft
unfolding with_lines
ends draft n [] h = refl
ends draft n (b ∷ bs) h = absurd (omega arith)

-- words after the last that counts
pub more_than_one : (word : List ℕ) (more : Option (Bor (List ℕ))) → is_some more ≡ true → one_word (word ∷ words (option_copied more)) ≡ Err TooMany
more_than_one word None h = absurd cc
more_than_one word (Some rest) h = let some = a_part (λ b. b == 32) rest.now in rw some.2 refl

pub more_than_two : (first second : List ℕ) (more : Option (Bor (List ℕ))) → is_some more ≡ true → two_words (first ∷ second ∷ words (option_copied more)) ≡ Err TooMany
more_than_two first second None h = absurd cc
more_than_two first second (Some rest) h = let some = a_part (λ b. b == 32) rest.now in rw some.2 refl

pub more_than_none : (more : Option (Bor (List ℕ))) → is_some more ≡ true → end_in (words (option_copied more)) ≡ Err TooMany
unfolding end_in
more_than_none None h = absurd cc
more_than_none (Some rest) h = let some = a_part (λ b. b == 32) rest.now in rw some.2 refl

-- what is within its limits for any number of passes is so for one
pub at_passes : (p : ℕ) (r : Result Wording Kind) → IfOk r (λ wording. (count : ℕ) → IsFit count (said wording)) → IfOk r (λ wording. IsFit p (said wording))
at_passes p (Ok wording) h = h p
at_passes p (Err kind) h = tt
