-- What a pass may reach stays as it was, as what the pass has seen goes on.
use Rattle.std.proofs.Common.{◌≡◌, ℕ, List, [], ◌∷◌, ◌++◌, true, false, sym, subst, length}
use Rattle.plcr_machine.specs.declared.entry.Entry.{Entry}
use Rattle.plcr_machine.specs.Histories.{IsLegal}
use Rattle.plcr_machine.specs.Lists.{loads, loaded}
use Rattle.plcr_machine.specs.Holds.{may_reach}
use Rattle.plcr_machine.specs.Parts.{own_entries}
use Rattle.plcr_nodes.specs.Names.{payload_word}
use Rattle.plcr_nodes.specs.Payload.{name_on, image_word}
use Rattle.plcr_nodes.specs.Seeing.{GoesOn}
use Rattle.plcr_nodes.proofs.Seeing.{own_of}
use Rattle.plcr_nodes.proofs.Known.{reach_grows, loaded_grows}
use Rattle.plcr_nodes.proofs.LoadSteps.{name_grows}

module _ (nodes passes p n : ℕ) (old all : List Entry) (old_names names : List (List ℕ)) (g : GoesOn nodes passes false (p ∷ []) old old_names all names) where
  own : own_entries p (g.added.grows.0 ++ old) ≡ own_entries p old
  own = subst (λ h. own_entries p h ≡ own_entries p old) g.added.grows.1 (own_of p old all g.added)

  legal : IsLegal nodes passes (g.added.grows.0 ++ old)
  legal = subst (IsLegal nodes passes) g.added.grows.1 g.legal.legal

  -- it may still be reached
  pub reach_stays : may_reach p n old ≡ true → may_reach p n all ≡ true
  reach_stays r = subst (λ h. may_reach p n h ≡ true) (sym g.added.grows.1) (reach_grows p n g.added.grows.0 old own r)

  -- with its image
  pub image_stays : may_reach p n old ≡ true → loaded n all ≡ loaded n old
  image_stays r = subst (λ h. loaded n h ≡ loaded n old) (sym g.added.grows.1) (loaded_grows nodes passes p n g.added.grows.0 old legal own r)

  -- and the name of that
  pub name_stays : may_reach p n old ≡ true → length old_names ≡ loads old → name_on n all names ≡ name_on n old old_names
  name_stays r named =
      subst (λ (q : List Entry × List (List ℕ)). name_on n q.0 q.1 ≡ name_on n old old_names) (λ i. (sym g.added.grows.1 i, sym g.named.1 i))
      (name_grows nodes passes p n g.added.grows.0 old g.named.0 old_names legal own r named)

  -- so each of its payload words is the same
  pub word_stays : may_reach p n old ≡ true → length old_names ≡ loads old → (k : ℕ) → image_word n all names k ≡ image_word n old old_names k
  word_stays r named k = λ i. payload_word (image_stays r i).header (name_stays r named i) k
