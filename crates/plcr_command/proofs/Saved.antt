-- What is given up of an output that wasn't written whole.
use Rattle.std.proofs.Common.{inl, inr, ◌≡◌, ◌⊎◌, ℕ, ◌<◌, ◌≤◌, List, [], ◌∷◌, ◌++◌, Option, None, Some, Result, Ok, Err, OnErr, sym, ap, subst, ◌∙◌, append_assoc, append-nil, arith}
use Rattle.std.specs.Io.KnownBytes.{append_known}
use Rattle.plcr_base.specs.Causes.{Rose}
use Rattle.plcr_base.specs.Told.{IfTold, Gains, add, add_told}
use Rattle.plcr_base.proofs.Gained.{gains_none, gains_more}
use Rattle.plcr_base.proofs.Risen.{rose_second}
use Rattle.plcr_io.specs.Desk.{Told}
use Rattle.plcr_io.specs.Gathered.{IsShort}
use Rattle.plcr_io.specs.declared.sinks.PutFailed.{PutFailed}
use Rattle.plcr_command.specs.Gathering.{HasFront}
use Rattle.plcr_command.specs.Saving.{IsUnsaved}
use Rattle.plcr_command.specs.inner.Saving.{Settles}
use Rattle.plcr_command.specs.declared.saving.Unsaved.{Unsaved}

pub when_err : {T E P : Type 0} (r : Result T E) → P → OnErr r P
when_err (Ok value) p = tt
when_err (Err error) p = p

-- all of the bytes were put, and some of them were lost at the end
pub lost_at_end : (old new put : Option (List ℕ)) (bytes : List ℕ) → IsShort new put →
    put ≡ append_known old bytes → HasFront old new bytes
lost_at_end old new put bytes short all = record {
  front = bytes;
  rest = [];
  parts = sym (append-nil bytes);
  lost = short.0;
  written = short.1 ∙ all;
}

from_some : {A : Type 0} {a b : A} → Some a ≡ Some b → a ≡ b
from_some same = cc

some_none : {A : Type 0} {a : A} → Some a ≡ None → ⊥
some_none same = cc

-- an output that had written nothing, and then a front, was given up
pub front_given_up : (bytes : List ℕ) (fresh written : Option (List ℕ))
    (before after : Option (List (List ℕ))) → IfTold fresh (λ b. b ≡ []) →
    HasFront fresh written bytes → after ≡ add_told before written →
    Gains before after []
    ⊎ ((front : List ℕ) × (rest : List ℕ) × (bytes ≡ front ++ rest) × Gains before after (front ∷ []))
front_given_up bytes fresh written before None empty has listed = inl tt
front_given_up bytes fresh None before (Some a) empty has listed = absurd (some_none listed)
front_given_up bytes fresh (Some w) None (Some a) empty has listed = absurd (some_none listed)
front_given_up bytes None (Some w) (Some b) (Some a) empty has listed = absurd (some_none has.written)
front_given_up bytes (Some f) (Some w) (Some b) (Some a) empty has listed =
    let front : w ++ has.lost ≡ has.front = from_some has.written ∙ ap (λ l. l ++ has.front) empty in
    inr (
      w,
      has.lost ++ has.rest,
      has.parts ∙ ap (λ l. l ++ has.rest) (sym front) ∙ append_assoc w has.lost has.rest,
      from_some listed,
    )

risen : (before after : ℕ) → Rose before after → 0 < after
risen before after (inl more) = omega arith
risen before after (inr full) = omega arith

-- a list that is the same gained nothing; one with one more entry gained it
gained_none : {A : Type 0} (old new : Option (List A)) → new ≡ old → Gains old new []
gained_none {A} old new same = subst (λ (l : Option (List A)). Gains old l []) (sym same) (gains_none old)

gained_one : {A : Type 0} (old new : Option (List A)) (entry : A) → new ≡ add old entry →
    Gains old new (entry ∷ [])
gained_one {A} old new entry one =
    subst (λ (l : Option (List A)). Gains old l (entry ∷ [])) (sym one)
    (gains_more old old [] entry (gains_none old))

-- an output was made, had nothing, and wasn't kept
pub unsaved : {T : Type 0} (name bytes : List ℕ) (fresh written : Option (List ℕ))
    (before faults : ℕ) (told mid end : Told) (captured : Result T PutFailed)
    (settled : Result T Unsaved) → mid.made ≡ add told.made name → mid.kept ≡ told.kept →
    mid.dropped ≡ told.dropped → told.out_faults ≤ mid.out_faults → IfTold fresh (λ b. b ≡ []) →
    OnErr captured (HasFront fresh written bytes) → OnErr captured (Rose before faults) →
    Settles written faults name mid end captured settled →
    OnErr settled (IsUnsaved name bytes told end)
unsaved name bytes fresh written before faults told mid end (Ok v) (Ok s) made kept dropped later empty cut cause settles = tt
unsaved name bytes fresh written before faults told mid end (Err f) (Ok s) made kept dropped later empty cut cause settles = tt
unsaved name bytes fresh written before faults told mid end (Ok v) (Err u) made kept dropped later empty cut cause settles =
    let keeps = settles.1 in
    record {
      outcome = inr (
        gained_one told.made end.made name (keeps.made ∙ made),
        inl (gained_none told.dropped end.dropped (keeps.dropped ∙ dropped)),
      );
      kept = gained_none told.kept end.kept (keeps.unlisted ∙ kept);
      cause = rose_second told.out_faults mid.out_faults end.out_faults later keeps.failed;
    }
unsaved name bytes fresh written before faults told mid end (Err f) (Err u) made kept dropped later empty cut cause settles = record {
  outcome = inr (
    gained_one told.made end.made name (settles.made ∙ made),
    front_given_up bytes fresh written told.dropped end.dropped empty cut
        (settles.listed ∙ ap (λ d. add_told d written) dropped),
  );
  kept = gained_none told.kept end.kept (settles.kept ∙ kept);
  cause = rose_second told.out_faults mid.out_faults end.out_faults later (settles.faulty (risen before faults cause));
}
