-- What the first steps of a load have stored in its node.
use Rattle.std.proofs.Common.{◌≡◌, ◌≢◌, ℕ, zero, suc, ◌+◌, ◌*◌, ◌<◌, ◌≤◌, List, ◌∷◌, length, true, false, cond, eqb, ltb, refl, sym, ap, ◌∙◌, subst, arith, Some, Option, ne_eqb}
use Rattle.std.proofs.lemmas.Bool.{lt-ltb, le-ltb, eqb-true, eqb-false}
use Rattle.plcr_base.specs.Bytes.{IsBytes}
use Rattle.plcr_base.specs.Numbers.{u64_in}
use Rattle.plcr_base.specs.Limits.{IsImageName}
use Rattle.plcr_machine.proofs.Cases.{by_cases, eqb_same}
use Rattle.plcr_nodes.specs.declared.view.Store.{Store}
use Rattle.plcr_nodes.specs.Names.{words_of, payload_word, stored, stored_elsewhere, value_or, header_in, name_in, IsFilled, IsEnded, store}
use Rattle.plcr_nodes.proofs.Spelling.{spelled}
use Rattle.plcr_imagelist.specs.Steps.{word_stored, value_stored}
use Rattle.plcr_imagelist.specs.inner.Making.{AreStored, stores_after}

-- different steps store different words
word_apart : (name : List ℕ) (j k : ℕ) → j < k → k < 3 + words_of (length name) → word_stored name j ≢ word_stored name k
word_apart name j k below most =
    let w : ℕ = 2 + words_of (length name) in
    let early : ltb j w ≡ true = lt-ltb j w (omega arith) in
    by_cases (ltb k w)
    (λ t. λ e. let same : j + 1 ≡ k + 1 = rw (early, t) at e in omega (arith, same))
    (λ t. λ e. let same : j + 1 ≡ 0 = rw (early, t) at e in omega (arith, same))

-- one word more
pub stored_more : (node header : ℕ) (name : List ℕ) (made : ℕ) (ss : List Store) → made < 3 + words_of (length name) → AreStored node header name made ss
    → AreStored node header name (made + 1) (store node (word_stored name made) (value_stored header name made) ∷ ss)
stored_more node header name made ss most before k below =
    by_cases (eqb made k)
    (λ e. let m = eqb-true made k e in rw (eqb_same node) (subst (λ j. cond (eqb (word_stored name made) (word_stored name j)) (Some (value_stored header name made)) (stored node (word_stored name j) ss) ≡ Some (value_stored header name j)) m (rw (eqb_same (word_stored name made)) refl)))
    (λ e. let m = eqb-false made k e in
    let other : eqb (word_stored name made) (word_stored name k) ≡ false = ne_eqb (word_stored name made) (word_stored name k) (λ q. word_apart name k made (omega arith) most (sym q)) in
    rw (eqb_same node, other) (before k (omega arith)))

-- so many steps store just that
pub stored_after : (node header : ℕ) (name : List ℕ) (made : ℕ) (ss : List Store) → made ≤ 3 + words_of (length name) → AreStored node header name made (stores_after node header name made ss)
stored_after node header name zero ss most = λ k below. absurd (omega arith)
stored_after node header name (suc made) ss most =
    let one : made + 1 ≡ suc made = omega arith in
    subst (λ m. AreStored node header name m (stores_after node header name (suc made) ss)) one
    (stored_more node header name made (stores_after node header name made ss) (omega arith) (stored_after node header name made ss (omega arith)))

-- and nothing in other nodes
pub after_elsewhere : (node header : ℕ) (name : List ℕ) (made : ℕ) (ss : List Store) → stored_elsewhere node (stores_after node header name made ss) ≡ stored_elsewhere node ss
after_elsewhere node header name zero ss = refl
after_elsewhere node header name (suc made) ss = rw (eqb_same node) (after_elsewhere node header name made ss)

-- a word of the name is the next
pub word_after : (node header : ℕ) (name : List ℕ) (word made : ℕ) (ss : List Store) → word < words_of (length name) → made ≡ word + 2
    → store node (word + 2 + 1) (u64_in name (8 * word)) ∷ stores_after node header name made ss ≡ stores_after node header name (made + 1) ss
word_after node header name word made ss below is =
    let one : suc made ≡ made + 1 = omega arith in
    let here : suc (suc word) ≡ made = omega arith in
    let early : ltb made (2 + words_of (length name)) ≡ true = lt-ltb made (2 + words_of (length name)) (omega arith) in
    let place : word_stored name made ≡ word + 2 + 1 = rw early (omega arith) in
    let value : value_stored header name made ≡ u64_in name (8 * word) = rw early (ap (payload_word header name) (sym here)) in
    (λ i. store node (sym place i) (sym value i) ∷ stores_after node header name made ss) ∙ ap (λ m. stores_after node header name m ss) one

-- and the end the last
pub end_after : (node header : ℕ) (name : List ℕ) (made : ℕ) (ss : List Store) → made ≡ 2 + words_of (length name)
    → store node 0 0 ∷ stores_after node header name made ss ≡ stores_after node header name (made + 1) ss
end_after node header name made ss is =
    let one : suc made ≡ made + 1 = omega arith in
    let late : ltb made (2 + words_of (length name)) ≡ false = le-ltb made (2 + words_of (length name)) (omega arith) in
    let place : word_stored name made ≡ 0 = rw late refl in
    let value : value_stored header name made ≡ 0 = rw late refl in
    (λ i. store node (sym place i) (sym value i) ∷ stores_after node header name made ss) ∙ ap (λ m. stores_after node header name m ss) one

-- once all words are stored, the node is filled, and leads to the end
pub record IsWhole (node header : ℕ) (name : List ℕ) (ss : List Store) : Type 0 where
  pub filled : IsFilled node ss
  pub ended : IsEnded node ss
  pub header_is : header ≡ header_in node ss
  pub name_is : name ≡ name_in node ss

pub whole : (node header : ℕ) (name : List ℕ) (ss : List Store) → IsBytes name → IsImageName name → AreStored node header name (3 + words_of (length name)) ss → IsWhole node header name ss
whole node header name ss bytes short all =
    let w : ℕ = words_of (length name) in
    let at : (k : ℕ) → k < 2 + w → stored node (k + 1) ss ≡ Some (payload_word header name k) = λ k below.
    let t : ltb k (2 + w) ≡ true = lt-ltb k (2 + w) below in let s = all k (omega arith) in rw t at s in
    let last : stored node 0 ss ≡ Some 0 = let t : ltb (2 + w) (2 + w) ≡ false = le-ltb (2 + w) (2 + w) (omega arith) in let s = all (2 + w) (omega arith) in rw t at s in
    let head : stored node 1 ss ≡ Some header = at 0 (omega arith) in
    let size : stored node 2 ss ≡ Some (length name) = at 1 (omega arith) in
    let words : (k : ℕ) → k < w → stored node (k + 3) ss ≡ Some (u64_in name (8 * k)) = λ k below.
    let x : suc (suc k) + 1 ≡ k + 3 = omega arith in subst (λ j. stored node j ss ≡ Some (u64_in name (8 * k))) x (at (suc (suc k)) (omega arith)) in
    let same : name_in node ss ≡ name = spelled node name ss bytes (ap (value_or 0) size) (λ k below. ap (value_or 0) (words k below)) in
    record {
      filled = record {
        header = head ∙ ap (λ (o : Option ℕ). Some (value_or 0 o)) (sym head);
        short = subst IsImageName (sym same) short;
        len = size ∙ ap (λ (xs : List ℕ). Some (length xs)) (sym same);
        name = subst (λ (xs : List ℕ). (k : ℕ) → k < words_of (length xs) → stored node (k + 3) ss ≡ Some (u64_in xs (8 * k))) (sym same) words;
      };
      ended = last;
      header_is = sym (ap (value_or 0) head);
      name_is = sym same;
    }
