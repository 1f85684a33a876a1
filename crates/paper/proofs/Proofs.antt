-- Reading and writing are inverse for every field, proof and record of document 01. Assumes nothing.
use mathlib.Core.Path.{◌≡◌, refl, sym, ap, ap₂, ◌∙◌}
use mathlib.Core.Bool.{Bool, true, false, not}
use mathlib.Core.List.{List, [], ◌∷◌, ◌++◌}
use Prim.Native.Nat.{ℕ, zero, suc, ◌-◌}
use native.Mathlib.Omega.{arith}
use lib.ListN.{length, take, drop, replicate, take-append-drop}
use lib.Seq.{length-take-le}
use Rattle.paper.specs.Lists.{every}
use Rattle.paper.specs.Numbers.{wide, key_most, version_most, audit_most}
use Rattle.paper.specs.Bytes.{Bytes, be, zeros}
use Rattle.paper.specs.Bits.{Bits, bits_of, pack}
use Rattle.paper.specs.Path.{End, this}
use Rattle.paper.specs.Layout.{block, within, seq, times, such, view, never}
use Rattle.paper.specs.Fields.{is_name, digest_field, epoch_field, label_field, prefix_body, prefix_field, key_field, head_field, step_field, rise, end_kind, end_of, end_field, path_body, path_field, this_fields, other_fields, off_fields}
use Rattle.paper.specs.Shows.{item_field, proof_field, Asked}
use Rattle.paper.specs.Lookup.{lookup_field, lookup_keys, lookup_asked}
use Rattle.paper.specs.History.{history_field, history_asked}
use Rattle.paper.specs.Audit.{AuditRecord, record_kind, record_of, leaf_fields, unchanged_fields, opened_fields, fresh_fields, audit_record_field, list_field, audit_field}
use Rattle.paper.specs.Table.{filled_body, filled_field, name_field, record_field, update_field}
use Rattle.paper.proofs.Lists.{and_left, and_right}
use Rattle.paper.proofs.Bytes.{bits_of-length, pack-length, pack-bits_of, pack-fill}
use Rattle.paper.proofs.Layouts.{Lawful, block-lawful, fixed-lawful, within-lawful, seq-lawful, led-lawful, times-lawful, such_lawful, view-lawful, never-lawful}

digest-lawful : Lawful digest_field
digest-lawful = block-lawful wide

pub epoch-lawful : Lawful epoch_field
epoch-lawful = within-lawful 4 0 _

pub label-lawful : Lawful label_field
unfolding block
label-lawful = view-lawful bits_of (pack wide) (block-lawful wide) (λ x (n, w). ap (λ k. pack k (bits_of x)) (sym n) ∙ pack-bits_of x w)

-- bits that are all zero
all-zero : (p : Bits) → every not p ≡ true → p ≡ replicate (length p) false
unfolding every
all-zero [] e = refl
all-zero (b ∷ p) e = ap₂ {C = Bits} (λ x y. x ∷ y) (zero_bit b (and_left (not b) _ e)) (all-zero p (and_right (not b) _ e))
  where
    zero_bit : (b : Bool) → not b ≡ true → b ≡ false
    zero_bit true e = sym e
    zero_bit false e = refl

-- a prefix whose further bits are zero is its own bytes
cut-back : (n : ℕ) (x : Bytes) → (such (block wide) (λ x. every not (drop n (bits_of x)))).Fits x → pack wide (take n (bits_of x)) ≡ x
unfolding such block
cut-back n x ((l, w), z) =
    let k = length (drop n (bits_of x)) in
    let e : take n (bits_of x) ++ replicate k false ≡ bits_of x = ap (λ t. take n (bits_of x) ++ t) (sym (all-zero (drop n (bits_of x)) z)) ∙ take-append-drop n (bits_of x) in
    sym (pack-fill wide (take n (bits_of x)) k) ∙ ap (pack wide) e ∙ ap (λ m. pack m (bits_of x)) (sym l) ∙ pack-bits_of x w

prefix-size : (n : ℕ) (p : Bits) → (within 2 1 255).Fits n → (prefix_body n).Fits p → length p ≡ n
unfolding within view
prefix-size n p k f = sym (ap length f.1) ∙ length-take-le n (bits_of (pack wide p)) (omega (arith, bits_of-length (pack wide p), pack-length wide p))

pub prefix-lawful : Lawful prefix_field
prefix-lawful = led-lawful length (within-lawful 2 1 255) (λ n. view-lawful _ _ (such_lawful _ (block-lawful wide)) (cut-back n)) prefix-size

pub key-lawful : Lawful key_field
unfolding block
key-lawful = led-lawful length (within-lawful 1 1 key_most) block-lawful (λ n x k f. f.0)

pub head-lawful : Lawful head_field
head-lawful = view-lawful _ _ (seq-lawful epoch-lawful (λ _. seq-lawful digest-lawful (λ _. seq-lawful digest-lawful (λ _. digest-lawful)))) (λ x f. refl)

pub step-lawful : Lawful step_field
step-lawful = view-lawful _ _ (seq-lawful (within-lawful 2 0 255) (λ _. digest-lawful)) (λ x f. refl)

end-of-lawful : (m k : ℕ) → Lawful (end_of m k)
unfolding end_of
end-of-lawful m zero = view-lawful (λ x. this x.0 x.1) this_fields (seq-lawful digest-lawful (λ _. epoch-lawful)) (λ x f. refl)
end-of-lawful m (suc zero) = view-lawful _ other_fields (seq-lawful label-lawful (λ _. seq-lawful digest-lawful (λ _. epoch-lawful))) (λ x f. refl)
end-of-lawful m (suc (suc zero)) = view-lawful _ off_fields (seq-lawful prefix-lawful (λ _. seq-lawful digest-lawful (λ _. digest-lawful))) (λ x f. refl)
end-of-lawful m (suc (suc (suc zero))) = such_lawful _ (view-lawful _ _ (fixed-lawful []) (λ x f. refl))
end-of-lawful m (suc (suc (suc (suc k)))) = never-lawful

end-kind : (m k : ℕ) (e : End) → (end_of m k).Fits e → end_kind e ≡ k
unfolding end_of view such never
end-kind m zero e f = sym (ap end_kind f.1)
end-kind m (suc zero) e f = sym (ap end_kind f.1)
end-kind m (suc (suc zero)) e f = sym (ap end_kind f.1)
end-kind m (suc (suc (suc zero))) e f = sym (ap end_kind f.0.1)
end-kind m (suc (suc (suc (suc k)))) e f = absurd f

pub end-lawful : (m : ℕ) → Lawful (end_field m)
end-lawful m = led-lawful end_kind (within-lawful 1 0 3) (end-of-lawful m) (λ k e _ f. end-kind m k e f)

path-body-lawful : (m : ℕ) → Lawful (path_body m)
path-body-lawful m = view-lawful _ _ (seq-lawful (such_lawful rise (times-lawful m step-lawful)) (λ _. end-lawful m)) (λ x f. refl)

pub path-lawful : Lawful path_field
unfolding view seq such times
path-lawful = led-lawful _ (within-lawful 2 1 256) path-body-lawful (λ m p _ f. f.0.0.0.0)

pub item-lawful : Lawful item_field
item-lawful = view-lawful _ _ (seq-lawful key-lawful (λ _. digest-lawful)) (λ x f. refl)

pub proof-lawful : (kind : ℕ) (keys : ℕ → ℕ) (asked : ℕ → ℕ → List Asked) → Lawful (proof_field kind keys asked)
proof-lawful kind keys asked = view-lawful _ _
    (seq-lawful (fixed-lawful _) (λ _. seq-lawful head-lawful (λ h. seq-lawful (within-lawful 2 0 version_most) (λ n.
    seq-lawful (times-lawful (keys n) item-lawful) (λ _. times-lawful (length (asked n h.epoch)) path-lawful)))))
    (λ x f. refl)

pub lookup-lawful : Lawful lookup_field
lookup-lawful = proof-lawful 1 lookup_keys (λ v t. lookup_asked v)

pub history-lawful : Lawful history_field
history-lawful = proof-lawful 2 (λ n. n) history_asked

leaf-lawful : Lawful leaf_fields
leaf-lawful = view-lawful _ _
    (seq-lawful (fixed-lawful (be 2 256)) (λ _. seq-lawful label-lawful (λ _. seq-lawful digest-lawful (λ _. seq-lawful epoch-lawful (λ _. fixed-lawful (zeros 28))))))
    (λ x f. refl)

record-of-lawful : (k : ℕ) → Lawful (record_of k)
unfolding record_of
record-of-lawful zero = view-lawful _ unchanged_fields leaf-lawful (λ x f. refl)
record-of-lawful (suc zero) = view-lawful _ opened_fields (seq-lawful prefix-lawful (λ _. seq-lawful digest-lawful (λ _. digest-lawful))) (λ x f. refl)
record-of-lawful (suc (suc zero)) = view-lawful _ fresh_fields leaf-lawful (λ x f. refl)
record-of-lawful (suc (suc (suc k))) = never-lawful

record-kind : (k : ℕ) (r : AuditRecord) → (record_of k).Fits r → record_kind r ≡ k
unfolding record_of view never
record-kind zero r f = sym (ap record_kind f.1)
record-kind (suc zero) r f = sym (ap record_kind f.1)
record-kind (suc (suc zero)) r f = sym (ap record_kind f.1)
record-kind (suc (suc (suc k))) r f = absurd f

pub audit-record-lawful : Lawful audit_record_field
audit-record-lawful = led-lawful record_kind (within-lawful 1 0 2) record-of-lawful (λ k r _ f. record-kind k r f)

pub list_lawful : Lawful list_field
unfolding times
list_lawful = led-lawful length (within-lawful 4 0 audit_most) (λ n. times-lawful n audit-record-lawful) (λ n l _ f. f.0)

pub audit-lawful : Lawful audit_field
audit-lawful = view-lawful _ _
    (seq-lawful (fixed-lawful _) (λ _. seq-lawful head-lawful (λ _. seq-lawful head-lawful (λ _. seq-lawful list_lawful (λ _. list_lawful)))))
    (λ x f. refl)

filled-body-lawful : (n : ℕ) → Lawful (filled_body n)
filled-body-lawful n = view-lawful _ _ (seq-lawful (block-lawful n) (λ _. fixed-lawful (zeros (64 - n)))) (λ x f. refl)

pub filled-lawful : Lawful filled_field
unfolding view seq block
filled-lawful = led-lawful length (within-lawful 1 1 64) filled-body-lawful (λ n x _ f. f.0.0.0)

pub name-lawful : Lawful name_field
name-lawful = such_lawful is_name filled-lawful

pub record-lawful : Lawful record_field
record-lawful = view-lawful _ _
    (seq-lawful name-lawful (λ _. seq-lawful (within-lawful 2 1 version_most) (λ _. seq-lawful epoch-lawful (λ _. seq-lawful filled-lawful (λ _. digest-lawful)))))
    (λ x f. refl)

pub update-lawful : Lawful update_field
update-lawful = view-lawful _ _ (seq-lawful name-lawful (λ _. seq-lawful filled-lawful (λ _. digest-lawful))) (λ x f. refl)
