-- What fits each field: from facts on sizes and ranges to the layouts' `Fits`, the way back of Fits.antt. Assumes nothing.
use mathlib.Core.Path.{◌≡◌, refl, sym, ap, ◌∙◌}
use mathlib.Core.Bool.{true, false, not}
use mathlib.Core.List.{List, ◌++◌}
use Prim.Native.Nat.{ℕ, zero, suc, ◌-◌, ◌*◌, ◌^◌, ◌≤◌, ◌<◌}
use native.Mathlib.Omega.{arith}
use lib.ListN.{length, take, drop, replicate, length-append, length-replicate}
use lib.Seq.{take_at, drop_at}
use Rattle.paper.specs.Lists.{every}
use Rattle.paper.specs.Numbers.{wide, key_most}
use Rattle.paper.specs.Bytes.{Bytes, Bytewise}
use Rattle.paper.specs.Bits.{Bits, bits_of, pack}
use Rattle.paper.specs.Strings.{Head}
use Rattle.paper.specs.Path.{Step, End, this, other, off, none, Path}
use Rattle.paper.specs.Layout.{block, fixed, within, seq, led, times, such, view}
use Rattle.paper.specs.Fields.{digest_field, epoch_field, label_field, prefix_field, key_field, head_field, step_field, end_of, end_field, path_field}
use Rattle.paper.specs.Shows.{Item, item_field, Proof, proof_field, Asked}
use Rattle.paper.specs.Audit.{AuditRecord, unchanged, opened, fresh, record_of, leaf_fields, audit_record_field}
use Rattle.paper.proofs.Bytes.{pack-length, pack-bytes, pack-fill, bits_of-pack}
use Rattle.paper.proofs.Fits.{Wide, PathFits, ItemFits, ProofFits}

pub digest-fit : (x : Bytes) → Wide x → digest_field.Fits x
unfolding block
digest-fit x w = (w.size, w.bytes)

pub epoch-fit : (n : ℕ) → n < 2 ^ 32 → epoch_field.Fits n
unfolding within
epoch-fit n h = (omega arith, omega arith, h)

pub label-fit : (m : Bits) → length m ≡ 256 → label_field.Fits m
unfolding view block
label-fit m h = ((pack-length wide m, pack-bytes wide m), bits_of-pack wide m h)

-- the bits of a prefix in bytes are the prefix and zeros
bits-filled : (n : ℕ) (p : Bits) → length p ≤ 8 * n → bits_of (pack n p) ≡ p ++ replicate (8 * n - length p) false
bits-filled n p h =
    let z = replicate (8 * n - length p) false in
    ap bits_of (sym (pack-fill n p (8 * n - length p)))
    ∙ bits_of-pack n (p ++ z) (omega (arith, length-append p z, length-replicate (8 * n - length p) false))

zeros-not : (n : ℕ) → every not (replicate n false) ≡ true
unfolding every
zeros-not zero = refl
zeros-not (suc n) = zeros-not n

pub prefix-fit : (p : Bits) → 1 ≤ length p → length p ≤ 255 → prefix_field.Fits p
unfolding led within view such block
prefix-fit p h k =
    let z = replicate (8 * wide - length p) false in
    let e : bits_of (pack wide p) ≡ p ++ z = bits-filled wide p (omega arith) in
    let zero-past : every not (drop (length p) (bits_of (pack wide p))) ≡ true =
    ap (λ x. every not (drop (length p) x)) e ∙ ap (every not) (drop_at p z (length p) refl) ∙ zeros-not (8 * wide - length p) in
    ((h, k, omega arith), (((pack-length wide p, pack-bytes wide p), zero-past), ap (take (length p)) e ∙ take_at p z (length p) refl))

pub head-fit : (h : Head) → h.epoch < 2 ^ 32 → Wide h.previous → Wide h.all → Wide h.old → head_field.Fits h
unfolding view seq
head-fit h e p a o = ((epoch-fit h.epoch e, (digest-fit h.previous p, (digest-fit h.all a, digest-fit h.old o))), refl)

pub key-fit : (k : Bytes) → 1 ≤ length k → length k ≤ key_most → Bytewise k → key_field.Fits k
unfolding led within block
key-fit k l m b = ((l, m, omega arith), (refl, b))

pub item-fit : (i : Item) → ItemFits i → item_field.Fits i
unfolding view seq
item-fit i g = ((key-fit i.key g.least g.most g.bytes, digest-fit i.opening g.opening), refl)

pub step-fit : (s : Step) → s.length ≤ 255 → Wide s.sibling → step_field.Fits s
unfolding view seq within
step-fit s h w = (((omega arith, h, omega arith), digest-fit s.sibling w), refl)

-- the fields of an end
abbrev pub EndSized : ℕ → End → Type 0
EndSized m (this c e) = Wide c × (e < 2 ^ 32)
EndSized m (other l c e) = (length l ≡ 256) × Wide c × (e < 2 ^ 32)
EndSized m (off p l r) = (1 ≤ length p) × (length p ≤ 255) × Wide l × Wide r
EndSized m none = m ≡ 1

pub end-fit : (m : ℕ) (e : End) → EndSized m e → (end_field m).Fits e
unfolding led within end_of view seq such fixed
end-fit m (this c e) s = ((omega arith, omega arith, omega arith), ((digest-fit c s.0, epoch-fit e s.1), refl))
end-fit m (other l c e) s = ((omega arith, omega arith, omega arith), ((label-fit l s.0, (digest-fit c s.1, epoch-fit e s.2)), refl))
end-fit m (off p l r) s = ((omega arith, omega arith, omega arith), ((prefix-fit p s.0 s.1, (digest-fit l s.2, digest-fit r s.3)), refl))
end-fit m none s = ((omega arith, omega arith, omega arith), ((tt, refl), rw s refl))

pub path-fit : (x : Path) → PathFits x → path_field.Fits x
unfolding led within view seq such times
path-fit x g = ((g.least, g.most, omega (arith, g.most)), ((((refl, g.each), g.rises), g.last), refl))

pub proof-fit : (kind : ℕ) (keys : ℕ → ℕ) (asked : ℕ → ℕ → List Asked) (p : Proof) → ProofFits keys asked p → (proof_field kind keys asked).Fits p
unfolding view seq times within fixed
proof-fit kind keys asked p g =
    ((tt, (g.head, ((omega arith, g.small, omega (arith, g.small)), ((g.keyed, g.items), (g.counted, g.paths))))), refl)

-- a record of an audit
abbrev pub RecordSized : AuditRecord → Type 0
RecordSized (unchanged m c e) = (length m ≡ 256) × Wide c × (e < 2 ^ 32)
RecordSized (opened p l r) = (1 ≤ length p) × (length p ≤ 255) × Wide l × Wide r
RecordSized (fresh m c e) = (length m ≡ 256) × Wide c × (e < 2 ^ 32)

leaf-fit : (m : Bits) (c : Bytes) (e : ℕ) → length m ≡ 256 → Wide c → e < 2 ^ 32 → leaf_fields.Fits (m, (c, e))
unfolding view seq fixed
leaf-fit m c e h w l = ((tt, (label-fit m h, (digest-fit c w, (epoch-fit e l, tt)))), refl)

pub record-fit : (x : AuditRecord) → RecordSized x → audit_record_field.Fits x
unfolding led within record_of view seq
record-fit (unchanged m c e) s = ((omega arith, omega arith, omega arith), (leaf-fit m c e s.0 s.1 s.2, refl))
record-fit (opened p l r) s = ((omega arith, omega arith, omega arith), ((prefix-fit p s.0 s.1, (digest-fit l s.2, digest-fit r s.3)), refl))
record-fit (fresh m c e) s = ((omega arith, omega arith, omega arith), (leaf-fit m c e s.0 s.1 s.2, refl))
