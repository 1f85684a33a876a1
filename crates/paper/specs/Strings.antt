-- Document 01, "Strings that are hashed".
use Rattle.std.specs.Prelude.{◌≡◌, [], ◌∷◌, ◌++◌, ℕ, ◌^◌, ◌≤◌, ◌<◌, length}
use Rattle.paper.specs.Numbers.{wide}
use Rattle.paper.specs.Bytes.{Bytes, be}
use Rattle.paper.specs.Bits.{Bits, pack}

-- what stands in a tree: a leaf of label, commitment and epoch; an inner node of prefix, left and right digest; nothing
pub data Node : Type 0 where
  leaf : Bits → Bytes → ℕ → Node
  inner : Bits → Bytes → Bytes → Node
  nothing : Node

-- "Leaf, 69 bytes: 0x00, label 32, commitment 32, epoch 4."
unfoldable pub leaf_string : Bytes → Bytes → ℕ → Bytes
leaf_string label commitment epoch = 0x00 ∷ (label ++ (commitment ++ be 4 epoch))

-- "Inner node, 99 bytes: 0x01, prefix length 2, prefix 32 (bits past the length zero), left digest 32, right digest 32."
unfoldable pub inner_string : ℕ → Bytes → Bytes → Bytes → Bytes
inner_string n prefix left right = 0x01 ∷ (be 2 n ++ (prefix ++ (left ++ right)))

-- "Nothing: the single byte 0x02."
unfoldable pub nothing_string : Bytes
nothing_string = 0x02 ∷ []

abbrev pub node_string : Node → Bytes
node_string (leaf label commitment epoch) = leaf_string (pack wide label) commitment epoch
node_string (inner prefix left right) = inner_string (length prefix) (pack wide prefix) left right
node_string nothing = nothing_string

-- a head: what its digest closes
pub record Head : Type 0 where
  pub epoch : ℕ
  pub previous : Bytes
  pub all : Bytes
  pub old : Bytes

-- "the 100 bytes of a head after its 0x03"
unfoldable pub head_bytes : Head → Bytes
head_bytes h = be 4 h.epoch ++ (h.previous ++ (h.all ++ h.old))

-- "Head, 101 bytes: 0x03, epoch 4, previous head 32, root of *all* 32, root of *old* 32."
unfoldable pub head_string : Head → Bytes
head_string h = 0x03 ∷ head_bytes h

-- "Kind 1 is a version, kind 2 a marker."
pub data Kind : Type 0 where
  version : Kind
  marker : Kind

abbrev pub kind_byte : Kind → ℕ
kind_byte version = 1
kind_byte marker = 2

-- "Label: 0x04, kind 1, number 2, name."
unfoldable pub label_string : ℕ → ℕ → Bytes → Bytes
label_string kind n name = 0x04 ∷ (kind ∷ (be 2 n ++ name))

-- "Commitment: 0x05, opening 32, key."
unfoldable pub commitment_string : Bytes → Bytes → Bytes
commitment_string opening key = 0x05 ∷ (opening ++ key)

-- a node and a head whose fields have the sizes that the document gives them: such strings tell their fields (proofs/Strings.antt)
abbrev pub NodeSized : Node → Type 0
NodeSized (leaf m c e) = (length m ≡ 256) × (length c ≡ wide) × (e < 2 ^ 32)
NodeSized (inner p l r) = (length p ≤ 255) × (length l ≡ wide) × (length r ≡ wide)
NodeSized nothing = Unit {0}

abbrev pub HeadSized : Head → Type 0
HeadSized h = (h.epoch < 2 ^ 32) × (length h.previous ≡ wide) × (length h.all ≡ wide) × (length h.old ≡ wide)
