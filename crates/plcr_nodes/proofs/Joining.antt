-- What a token can go on with after a telling, and what the owner knows of a pass that it has joined.
use Rattle.std.proofs.Common.{◌≡◌, ℕ, suc, ◌∷◌, true, false, refl, sym, ap, ◌∙◌, subst}
use Rattle.plcr_machine.specs.declared.entry.Entry.TheVariants.{Look}
use Rattle.plcr_machine.specs.Passes.{is_inside, is_announced, counts}
use Rattle.plcr_machine.specs.Parts.{own_entries}
use Rattle.plcr_machine.proofs.Cases.{eqb_same}
use Rattle.plcr_nodes.specs.Entries.{among}
use Rattle.plcr_nodes.specs.Tokens.{PassState, OwnerState, NoteState}
use Rattle.plcr_nodes.specs.Owning.{Follows, IsCounted, IsLooked}
use Rattle.plcr_nodes.specs.Telling.{IsPassTold, IsOwnerTold, IsJoined}
use Rattle.plcr_nodes.proofs.Seeing.{own_of}
use Rattle.plcr_nodes.proofs.Known.{inside_same, announced_same, live_same, counts_same}
use Rattle.plcr_nodes.proofs.UnlinkStep.{follows_same}

-- a look after a join finds no entry of the pass that it had not made before, so where the pass was not announced it finds 0
pub joined_quiet : (old : OwnerState) (pass : PassState) (mid : OwnerState) (found : ℕ) (new : OwnerState) → IsJoined old pass mid → IsLooked mid pass.number found new
    → is_announced pass.number pass.history ≡ false → found ≡ 0
joined_quiet old pass mid found new j l quiet =
    let p : ℕ = pass.number in
    let past = l.entry.past in
    let has : among p mid.joined ≡ true = subst (λ (s : OwnerState). among p s.joined ≡ true) (sym j.now) (rw (eqb_same p) refl) in
    let later : own_entries p past ≡ own_entries p mid.history = l.entry.sees.added.own p has in
    let met : own_entries p mid.history ≡ own_entries p pass.history = ap (λ (s : OwnerState). own_entries p s.history) j.now ∙ own_of p pass.history j.past j.met in
    let quiet' : is_announced p past ≡ false = announced_same p past pass.history (later ∙ met) ∙ quiet in
    l.stamp ∙ rw quiet' refl

-- a pass that was told is in where it was
pub told_inside : (old : PassState) (note : NoteState) (new : PassState) → IsPassTold old note new → is_inside old.number old.history ≡ true → is_inside new.number new.history ≡ true
told_inside old note new t inn =
    subst (λ (s : PassState). is_inside s.number s.history ≡ true) (sym t.now) (inside_same old.number t.past old.history (own_of old.number old.history t.past t.sees.added) ∙ inn)

-- and announced or not as it was
pub told_announced : (old : PassState) (note : NoteState) (new : PassState) → IsPassTold old note new → is_announced new.number new.history ≡ is_announced old.number old.history
told_announced old note new t =
    subst (λ (s : PassState). is_announced s.number s.history ≡ is_announced old.number old.history) (sym t.now) (announced_same old.number t.past old.history (own_of old.number old.history t.past t.sees.added))

-- it may go on from what it was given
pub told_given : (old : PassState) (note : NoteState) (new : PassState) → IsPassTold old note new → (n : ℕ) → among n old.given ≡ true → among n new.given ≡ true
told_given old note new t n a = subst (λ (s : PassState). among n s.given ≡ true) (sym t.now) a

-- an owner that was told or looked has the list that it had
pub told_follows : (before node : ℕ) (old : OwnerState) (note : NoteState) (new : OwnerState) → IsOwnerTold old note new → Follows before node old.history → Follows before node new.history
told_follows before node old note new t f =
    subst (λ (s : OwnerState). Follows before node s.history) (sym t.now) (follows_same before node t.past old.history (live_same t.past old.history (t.sees.added.owner refl)) f)

pub looked_follows : (before node : ℕ) (old : OwnerState) (pass found : ℕ) (new : OwnerState) → IsLooked old pass found new → Follows before node old.history → Follows before node new.history
looked_follows before node old pass found new l f =
    let e = l.entry in
    subst (λ (s : OwnerState). Follows before node s.history) (sym e.now)
    (follows_same before node (Look pass found ∷ e.past) old.history (live_same e.past old.history (e.sees.added.owner refl)) f)

-- a look leaves the number of counts, and a count is one more
pub looked_counts : (old : OwnerState) (pass found : ℕ) (new : OwnerState) → IsLooked old pass found new → counts new.history ≡ counts old.history
looked_counts old pass found new l =
    let e = l.entry in ap (λ (s : OwnerState). counts s.history) e.now ∙ counts_same e.past old.history (e.sees.added.owner refl)

pub counted_counts : (old : OwnerState) (found : ℕ) (new : OwnerState) → IsCounted old found new → counts new.history ≡ suc (counts old.history)
counted_counts old found new c =
    let e = c.entry in ap (λ (s : OwnerState). counts s.history) e.now ∙ ap suc (counts_same e.past old.history (e.sees.added.owner refl))
