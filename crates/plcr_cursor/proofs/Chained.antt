-- The frames of a thread lead from one to the next.
use Rattle.std.proofs.Common.{◌≡◌, ℕ, zero, suc, ◌<◌, ◌≤◌, List, [], ◌∷◌, length, Option, Some, None, refl, sym, ap, ◌∙◌, ◌⊎◌, inl, inr, arith}
use Rattle.std.specs.Prelude.{slice_get}
use Rattle.std.proofs.lemmas.Bool.{cases_lt}
use Rattle.std.proofs.lemmas.Option.{slice_get_past}
use Rattle.plcr_memory.specs.Regions.{Contents}
use Rattle.plcr_macho.specs.Images.{Listed}
use Rattle.plcr_regs.specs.declared.registers.Registers.{Registers}
use Rattle.plcr_cursor.specs.declared.given.Given.{Given}
use Rattle.plcr_cursor.specs.declared.limits.TheConstants.{MOST_FRAMES}
use Rattle.plcr_cursor.specs.Frames.{first_given, frames_from, frames_of, next_of}
use Rattle.plcr_cursor.specs.Chains.{AreFrames, next_after}

-- the first of at most n frames, where n isn't 0
head : (memory : Contents) (images : List Listed) (n : ℕ) (given : Option Given) → 0 < n → slice_get (frames_from memory images n given) 0 ≡ given
head memory images zero given h = absurd (omega arith)
head memory images (suc n) None h = refl
head memory images (suc n) (Some g) h = refl

few : (memory : Contents) (images : List Listed) (n : ℕ) (given : Option Given) → length (frames_from memory images n given) ≤ n
few memory images zero given = omega arith
few memory images (suc n) None = omega arith
few memory images (suc n) (Some g) = omega (arith, few memory images n (next_of memory images g.frame))

leads : (memory : Contents) (images : List Listed) (n : ℕ) (given : Option Given) (k : ℕ) → suc k < n
    → slice_get (frames_from memory images n given) (suc k) ≡ next_after memory images (slice_get (frames_from memory images n given) k)
leads memory images zero given k h = absurd (omega arith)
leads memory images (suc n) None k h = refl
leads memory images (suc n) (Some g) zero h = head memory images n (next_of memory images g.frame) (omega arith)
leads memory images (suc n) (Some g) (suc k) h = leads memory images n (next_of memory images g.frame) k (omega arith)

pub are_frames : (memory : Contents) (images : List Listed) (state : Registers) (bits : ℕ) → AreFrames memory images state bits (frames_of memory images state bits)
unfolding frames_of
are_frames memory images state bits =
    let given : Option Given = Some (first_given state bits) in
    record {
      first = head memory images MOST_FRAMES given (omega arith);
      leads = λ k h. leads memory images MOST_FRAMES given k h;
      few = few memory images MOST_FRAMES given;
    }

same_gets : {X : Type 0} (xs ys : List X) → ((k : ℕ) → slice_get xs k ≡ slice_get ys k) → xs ≡ ys
same_gets [] [] h = refl
same_gets [] (y ∷ ys) h = let e = h 0 in cc
same_gets (x ∷ xs) [] h = let e = h 0 in cc
same_gets (x ∷ xs) (y ∷ ys) h =
    let e = h 0 in
    let t = same_gets xs ys (λ k. h (suc k)) in
    cc

-- two lists that lead from the same frame agree at each place
agree : (memory : Contents) (images : List Listed) (state : Registers) (bits : ℕ) (gs hs : List Given)
    → AreFrames memory images state bits gs → AreFrames memory images state bits hs → (k : ℕ) → k < MOST_FRAMES → slice_get gs k ≡ slice_get hs k
agree memory images state bits gs hs g h zero within = g.first ∙ sym h.first
agree memory images state bits gs hs g h (suc k) within =
    g.leads k within ∙ ap (next_after memory images) (agree memory images state bits gs hs g h k (omega arith)) ∙ sym (h.leads k within)

agree_by : (memory : Contents) (images : List Listed) (state : Registers) (bits : ℕ) (gs hs : List Given)
    → AreFrames memory images state bits gs → AreFrames memory images state bits hs → (k : ℕ) → (k < MOST_FRAMES) ⊎ (MOST_FRAMES ≤ k) → slice_get gs k ≡ slice_get hs k
agree_by memory images state bits gs hs g h k (inl within) = agree memory images state bits gs hs g h k within
agree_by memory images state bits gs hs g h k (inr past) =
    slice_get_past gs k (omega (arith, g.few)) ∙ sym (slice_get_past hs k (omega (arith, h.few)))

pub only_frames : (memory : Contents) (images : List Listed) (state : Registers) (bits : ℕ) (frames : List Given)
    → AreFrames memory images state bits frames → frames ≡ frames_of memory images state bits
only_frames memory images state bits frames h =
    same_gets frames (frames_of memory images state bits)
    (λ k. agree_by memory images state bits frames (frames_of memory images state bits) h (are_frames memory images state bits) k (cases_lt k MOST_FRAMES))
