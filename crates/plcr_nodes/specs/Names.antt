-- How an image lies in the words of its node: the header, the length of its name, and the name in
-- words of 8 bytes, the lowest byte first and zero past the end.
use Rattle.std.specs.Prelude.{◌≡◌, ℕ, zero, suc, ◌+◌, ◌*◌, ◌/◌, ◌<◌, cond, ◌&&◌, ◌==◌, List, [], ◌∷◌, ◌++◌, length, take, Option, Some, None}
use Rattle.byteorder.specs.Endian.{little_bytes}
use Rattle.plcr_base.specs.Bytes.{IsBytes}
use Rattle.plcr_base.specs.Limits.{IsImageName}
use Rattle.plcr_base.specs.Numbers.{u64_in}
use Rattle.plcr_nodes.specs.declared.view.Store.{Store}

-- names of images
abbrev pub AreNames : List (List ℕ) → Type 0
AreNames [] = Unit {0}
AreNames (name ∷ names) = IsImageName name × IsBytes name × AreNames names

-- the number of words that the bytes take
abbrev pub words_of : ℕ → ℕ
words_of len = (len + 7) / 8

-- payload word k of an image with this header and name: word 0 is the header, word 1 the length,
-- and then comes the name
abbrev pub payload_word : ℕ → List ℕ → ℕ → ℕ
payload_word header name zero = header
payload_word header name (suc zero) = length name
payload_word header name (suc (suc k)) = u64_in name (8 * k)

-- the value x stored in word k of node n; word 0 is the link, and word k + 1 payload word k
abbrev pub store : ℕ → ℕ → ℕ → Store
store n k x = record { node = n; word = k; value = x }

-- what was stored last in word k of the node, of stores with the newest first
abbrev pub stored : ℕ → ℕ → List Store → Option ℕ
stored n k [] = None
stored n k (s ∷ ss) = cond ((s.node == n) && (s.word == k)) (Some s.value) (stored n k ss)

abbrev pub value_or : ℕ → Option ℕ → ℕ
value_or d None = d
value_or d (Some x) = x

-- the number that was stored last in word k of the node, 0 where none was
abbrev pub stored_or : ℕ → ℕ → List Store → ℕ
stored_or n k ss = value_or 0 (stored n k ss)

-- the stores in other nodes
abbrev pub stored_elsewhere : ℕ → List Store → List Store
stored_elsewhere n [] = []
stored_elsewhere n (s ∷ ss) = cond (s.node == n) (stored_elsewhere n ss) (s ∷ stored_elsewhere n ss)

-- the bytes of `count` payload words from word k on
abbrev pub stored_bytes : ℕ → ℕ → ℕ → List Store → List ℕ
stored_bytes n k zero ss = []
stored_bytes n k (suc count) ss =
    little_bytes 8 (stored_or n (k + 1) ss) ++ stored_bytes n (k + 1) count ss

-- the header that was stored in the node
abbrev pub header_in : ℕ → List Store → ℕ
header_in n ss = stored_or n 1 ss

-- the name that was stored in the node
abbrev pub name_in : ℕ → List Store → List ℕ
name_in n ss = take (stored_or n 2 ss) (stored_bytes n 2 (words_of (stored_or n 2 ss)) ss)

-- The node is filled: its stores are the words of one image, whose name is within its limit
pub record IsFilled (n : ℕ) (ss : List Store) : Type 0 where
  pub header : stored n 1 ss ≡ Some (header_in n ss)
  pub short : IsImageName (name_in n ss)
  pub len : stored n 2 ss ≡ Some (length (name_in n ss))
  pub name : (k : ℕ) → k < words_of (length (name_in n ss)) →
      stored n (k + 3) ss ≡ Some (u64_in (name_in n ss) (8 * k))

-- the end was stored as the node's link
abbrev pub IsEnded : ℕ → List Store → Type 0
IsEnded n ss = stored n 0 ss ≡ Some 0
