-- The names of loads as more names come.
use Rattle.std.proofs.Common.{◌≡◌, ℕ, suc, ◌≤◌, List, [], ◌∷◌, ◌++◌, eqb, refl, ne_eqb, eq-eqb, arith, length, length-append}
use Rattle.std.proofs.lemmas.Bool.{cond_both}
use Rattle.plcr_machine.specs.declared.entry.Entry.{Entry}
use Rattle.plcr_machine.specs.Lists.{name_of, loaded}
use Rattle.plcr_nodes.specs.Payload.{name_on, image_words}
use Rattle.plcr_base.specs.Bytes.{IsBytes}
use Rattle.plcr_base.specs.Limits.{IsImageName}
use Rattle.plcr_nodes.specs.declared.words.TheConstants.{PAYLOAD_WORDS}
use Rattle.plcr_nodes.specs.Names.{AreNames}
use Rattle.plcr_nodes.proofs.Spelling.{no_bytes}

-- the newest name is that of the newest load
pub name-new : (i : ℕ) (x : List ℕ) (names : List (List ℕ)) → i ≡ suc (length names) → name_of i (x ∷ names) ≡ x
name-new i x names e = rw (eq-eqb i (suc (length names)) e) refl

pub name-older : (i : ℕ) (added names : List (List ℕ)) → i ≤ length names → name_of i (added ++ names) ≡ name_of i names
name-older i [] names h = refl
name-older i (x ∷ added) names h =
    rw (ne_eqb i (suc (length (added ++ names))) (λ e. omega (arith, length-append added names))) (name-older i added names h)

pub name_short : (i : ℕ) (names : List (List ℕ)) → AreNames names → IsImageName (name_of i names)
name_short i [] s = omega arith
name_short i (x ∷ xs) s = cond_both (eqb i (suc (length xs))) x (name_of i xs) IsImageName (λ _. s.0) (λ _. name_short i xs s.2)

pub bytes_named : (i : ℕ) (names : List (List ℕ)) → AreNames names → IsBytes (name_of i names)
bytes_named i [] s = no_bytes
bytes_named i (x ∷ xs) s = cond_both (eqb i (suc (length xs))) x (name_of i xs) IsBytes (λ _. s.1) (λ _. bytes_named i xs s.2)

-- an image has no more payload words than a node
pub image_most : (n : ℕ) (h : List Entry) (names : List (List ℕ)) → AreNames names → image_words n h names ≤ PAYLOAD_WORDS
image_most n h names s = let b : IsImageName (name_on n h names) = name_short (loaded n h).load names s in omega arith
