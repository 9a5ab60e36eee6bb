use Rattle.std.proofs.Common.{◌≡◌, ◌∙◌, ℕ, zero, suc, ◌+◌, ◌*◌, ◌<◌, arith, length, List, [], ◌∷◌, Some, refl, sym, ap, subst}
use Rattle.plcr_base.specs.Bytes.{IsBytes}
use Rattle.plcr_base.specs.Numbers.{u64_in}
use Rattle.plcr_nodes.specs.declared.view.Store.{Store}
use Rattle.plcr_base.specs.Limits.{IsImageName}
use Rattle.plcr_nodes.specs.Names.{store, IsFilled, words_of, stored, value_or, name_in}
use Rattle.plcr_nodes.specs.Tokens.{OwnerState}
use Rattle.plcr_nodes.proofs.Spelling.{spelled}
use Rattle.plcr_nodes.proofs.tests.put_named.Goals as goal

abbrev letters : List ℕ
letters = 97 ∷ 98 ∷ 99 ∷ 100 ∷ 101 ∷ 102 ∷ 103 ∷ 104 ∷ 105 ∷ []

-- what was stored, newest first
abbrev stores : ℕ → List Store → List Store
stores header ss = store 1 0 0 ∷ store 1 4 105 ∷ store 1 3 7523094288207667809 ∷ store 1 2 9 ∷ store 1 1 header ∷ ss

letters_are_bytes : IsBytes letters
letters_are_bytes zero = omega arith
letters_are_bytes (suc zero) = omega arith
letters_are_bytes (suc (suc zero)) = omega arith
letters_are_bytes (suc (suc (suc zero))) = omega arith
letters_are_bytes (suc (suc (suc (suc zero)))) = omega arith
letters_are_bytes (suc (suc (suc (suc (suc zero))))) = omega arith
letters_are_bytes (suc (suc (suc (suc (suc (suc zero)))))) = omega arith
letters_are_bytes (suc (suc (suc (suc (suc (suc (suc zero))))))) = omega arith
letters_are_bytes (suc (suc (suc (suc (suc (suc (suc (suc zero)))))))) = omega arith
letters_are_bytes (suc (suc (suc (suc (suc (suc (suc (suc (suc i))))))))) = omega arith

words : (header : ℕ) (ss : List Store) (k : ℕ) → k < 2 → stored 1 (k + 3) (stores header ss) ≡ Some (u64_in letters (8 * k))
unfolding u64_in
words header ss zero below = refl
words header ss (suc zero) below = refl
words header ss (suc (suc k)) below = absurd (omega arith)

named : (header : ℕ) (ss : List Store) → name_in 1 (stores header ss) ≡ letters
named header ss = spelled 1 letters (stores header ss) letters_are_bytes refl (λ k below. ap (value_or 0) (words header ss k (omega arith)))

is_filled : (header : ℕ) (ss : List Store) → IsFilled 1 (stores header ss)
is_filled header ss = record {
  header = refl;
  short = subst IsImageName (sym (named header ss)) (omega arith);
  len = ap (λ (name : List ℕ). Some (length name)) (sym (named header ss));
  name = subst (λ (name : List ℕ). (k : ℕ) → k < words_of (length name) → stored 1 (k + 3) (stores header ss) ≡ Some (u64_in name (8 * k))) (sym (named header ss)) (λ k below. words header ss k (omega arith));
}

pub link-requires-clause-filled : goal.link-requires-clause-filled
link-requires-clause-filled c =
    let all : c.end_link.new.self.filled ≡ stores c.args.header c.args.owner.now.filled =
    ap (λ (s : OwnerState). s.filled) c.end_link.ensures.stored
    ∙ ap (λ (s : OwnerState). store 1 0 0 ∷ s.filled) c.fill-4.ensures.stored
    ∙ ap (λ (s : OwnerState). store 1 0 0 ∷ store 1 4 105 ∷ s.filled) c.fill-3.ensures.stored
    ∙ ap (λ (s : OwnerState). store 1 0 0 ∷ store 1 4 105 ∷ store 1 3 7523094288207667809 ∷ s.filled) c.fill-2.ensures.stored
    ∙ ap (λ (s : OwnerState). store 1 0 0 ∷ store 1 4 105 ∷ store 1 3 7523094288207667809 ∷ store 1 2 9 ∷ s.filled) c.fill.ensures.stored in
    (omega arith, subst (IsFilled 1) (sym all) (is_filled c.args.header c.args.owner.now.filled))
