-- Document 01, "Proof bytes": the fields that proofs are made of, and the layout of a path.
use Rattle.std.specs.Prelude.{Bool, true, not, ◌&&◌, List, [], ◌∷◌, ◌++◌, ℕ, zero, suc, eqb, leb, length, take, drop}
use Rattle.paper.specs.Lists.{every}
use Rattle.paper.specs.Numbers.{wide, key_most, epoch_most, name_most, name_byte_low, name_byte_high}
use Rattle.paper.specs.Bytes.{Bytes, be}
use Rattle.paper.specs.Bits.{Bits, bits_of, pack}
use Rattle.paper.specs.Strings.{Head}
use Rattle.paper.specs.Path.{Step, End, this, other, off, none, Path}
use Rattle.paper.specs.Layout.{Layout, block, fixed, within, seq, led, times, such, view, never}

-- "name | 1 to 64 bytes, each 0x21 to 0x7E"
unfoldable pub is_name : Bytes → Bool
is_name name = leb 1 (length name) && (leb (length name) name_most && every (λ b. leb name_byte_low b && leb b name_byte_high) name)

-- a digest, an opening or a commitment
abbrev pub digest_field : Layout Bytes
digest_field = block wide

-- "epoch in a proof | 32 bits, unsigned"
abbrev pub epoch_field : Layout ℕ
epoch_field = within 4 0 epoch_most

-- a label
abbrev pub label_field : Layout Bits
label_field = view (block wide) bits_of (pack wide)

-- "prefix length 2, prefix 32 (bits past the length zero)", "length 1 to 255"
abbrev pub prefix_body : ℕ → Layout Bits
prefix_body n = view (such (block wide) (λ x. every not (drop n (bits_of x)))) (λ x. take n (bits_of x)) (pack wide)

abbrev pub prefix_field : Layout Bits
prefix_field = led (within 2 1 255) length prefix_body

-- "key length, key", "key | 1 to 64 bytes"
abbrev pub key_field : Layout Bytes
key_field = led (within 1 1 key_most) length block

-- "the 100 bytes of a head after its 0x03"
abbrev pub head_field : Layout Head
head_field = view (seq epoch_field (λ _. seq digest_field (λ _. seq digest_field (λ _. digest_field))))
    (λ x. record { epoch = x.0; previous = x.1.0; all = x.1.1.0; old = x.1.1.1 })
    (λ h. (h.epoch, (h.previous, (h.all, h.old))))

-- "Each proof begins "VKD", 16-bit version 1, kind 1 (1 lookup, 2 history, 3 audit)"
abbrev pub opens : ℕ → Layout (Unit {0})
opens kind = fixed (0x56 ∷ 0x4B ∷ 0x44 ∷ (be 2 1 ++ (kind ∷ [])))

-- "m steps of prefix length (2) and sibling digest (32)", "at most 255"
abbrev pub step_field : Layout Step
step_field = view (seq (within 2 0 255) (λ _. digest_field)) (λ x. record { length = x.0; sibling = x.1 }) (λ s. (s.length, s.sibling))

-- "Lengths begin at 0, rise strictly"
unfoldable pub rise_from : ℕ → List Step → Bool
rise_from low [] = true
rise_from low (s ∷ ss) = leb low s.length && rise_from (suc s.length) ss

unfoldable pub rise : List Step → Bool
rise [] = true
rise (s ∷ ss) = eqb s.length 0 && rise_from 1 ss

-- "end kind (1)"
abbrev pub end_kind : End → ℕ
end_kind (this c e) = 0
end_kind (other m c e) = 1
end_kind (off p l r) = 2
end_kind none = 3

-- an end's fields; those of another kind are no fields of it
abbrev pub this_fields : End → Bytes × ℕ
this_fields (this c e) = (c, e)
this_fields (other m c e) = ([], 0)
this_fields (off p l r) = ([], 0)
this_fields none = ([], 0)

abbrev pub other_fields : End → Bits × (Bytes × ℕ)
other_fields (this c e) = ([], ([], 0))
other_fields (other m c e) = (m, (c, e))
other_fields (off p l r) = ([], ([], 0))
other_fields none = ([], ([], 0))

abbrev pub off_fields : End → Bits × (Bytes × Bytes)
off_fields (this c e) = ([], ([], []))
off_fields (other m c e) = ([], ([], []))
off_fields (off p l r) = (p, (l, r))
off_fields none = ([], ([], []))

-- "Ends: 0, this leaf: commitment, epoch. 1, another leaf: label, commitment, epoch. 2, another inner node: its 98 bytes after
-- 0x01, length 1 to 255. 3, nothing, only with m = 1."
unfoldable pub end_of : ℕ → ℕ → Layout End
end_of m zero = view (seq digest_field (λ _. epoch_field)) (λ x. this x.0 x.1) this_fields
end_of m (suc zero) = view (seq label_field (λ _. seq digest_field (λ _. epoch_field))) (λ x. other x.0 x.1.0 x.1.1) other_fields
end_of m (suc (suc zero)) = view (seq prefix_field (λ _. seq digest_field (λ _. digest_field))) (λ x. off x.0 x.1.0 x.1.1) off_fields
end_of m (suc (suc (suc zero))) = such (view (fixed []) (λ _. none) (λ _. tt)) (λ _. eqb m 1)
end_of m (suc (suc (suc (suc k)))) = never

abbrev pub end_field : ℕ → Layout End
end_field m = led (within 1 0 3) end_kind (end_of m)

-- "Path for a label: count m (2 bytes, 1 to 256); m steps ..; end kind (1)."
abbrev pub path_body : ℕ → Layout Path
path_body m = view (seq (such (times m step_field) rise) (λ _. end_field m)) (λ x. record { steps = x.0; end = x.1 }) (λ p. (p.steps, p.end))

abbrev pub path_field : Layout Path
path_field = led (within 2 1 256) (λ p. length p.steps) path_body
