-- The last place of the list: the head, or a node of the list, and its link is the end.
use Rattle.std.proofs.Common.{◌≡◌, ◌⊎◌, ⊎_elim, inl, inr, ℕ, ◌≤◌, List, [], ◌∷◌, true, false, eqb, refl, sym, ◌∙◌, arith, eq-eqb}
use Rattle.std.proofs.lemmas.Bool.{or_left, or_right, or_parts}
use Rattle.plcr_machine.specs.declared.image.Image.{Image}
use Rattle.plcr_machine.specs.declared.entry.Entry.{Entry}
use Rattle.plcr_machine.specs.Histories.{IsLegal}
use Rattle.plcr_machine.specs.Lists.{has, live}
use Rattle.plcr_machine.specs.Links.{after, last_place, link_of, IsPlace}
use Rattle.plcr_machine.proofs.OnNodes.{IsApart, turned}
use Rattle.plcr_machine.proofs.Freedom.{listed_busy, live_apart, live_bound, head_absent}
use Rattle.plcr_machine.proofs.Followers.{last_place-other}
use Rattle.plcr_machine.proofs.Leads.{link_here}
use Rattle.plcr_nodes.specs.inner.Rule.{IsHeld}

last_place_is : (p : ℕ) (xs : List Image) → (last_place p xs ≡ p) ⊎ (has (last_place p xs) xs ≡ true)
last_place_is p [] = inl refl
last_place_is p (x ∷ xs) =
    let q : ℕ = last_place x.node xs in
    ⊎_elim (λ (e : q ≡ x.node). inr (or_left (eqb x.node q) (has q xs) (eq-eqb x.node q (sym e))))
    (λ (b : has q xs ≡ true). inr (or_right (eqb x.node q) (has q xs) b)) (last_place_is x.node xs)

is_place : (h : List Entry) → IsPlace (last_place 0 (live h)) h
is_place h =
    let q : ℕ = last_place 0 (live h) in
    ⊎_elim (λ (e : q ≡ 0). or_left (eqb q 0) (has q (live h)) (eq-eqb q 0 e)) (λ (b : has q (live h) ≡ true). or_right (eqb q 0) (has q (live h)) b) (last_place_is 0 (live h))

pub last_held : (passes : ℕ) (h : List Entry) → IsHeld passes (last_place 0 (live h)) h
last_held passes h =
    let q : ℕ = last_place 0 (live h) in
    ⊎_elim (λ (e : q ≡ 0). inl e) (λ (b : has q (live h) ≡ true). inr (listed_busy passes q h b)) (last_place_is 0 (live h))

after_last : (p : ℕ) (xs : List Image) → has p xs ≡ false → IsApart xs → after p (last_place p xs) xs ≡ 0
after_last p [] absent apart = refl
after_last p (x ∷ xs) absent apart =
    let parts = or_parts (eqb x.node p) (has p xs) absent in
    rw (turned (last_place x.node xs) p (last_place-other x.node p xs parts.0 parts.1)) (after_last x.node xs apart.0 apart.1)

module _ (nodes passes : ℕ) where
  pub last_bound : (h : List Entry) → IsLegal nodes passes h → last_place 0 (live h) ≤ nodes
  last_bound h l =
      let q : ℕ = last_place 0 (live h) in
      ⊎_elim (λ (e : q ≡ 0). omega arith) (λ (b : has q (live h) ≡ true). (live_bound nodes passes q h l b).1) (last_place_is 0 (live h))

  -- nothing follows it
  pub last_end : (h : List Entry) → IsLegal nodes passes h → link_of (last_place 0 (live h)) h ≡ 0
  last_end h l = link_here (last_place 0 (live h)) h (is_place h) ∙ after_last 0 (live h) (head_absent nodes passes h l) (live_apart nodes passes h l)
