-- Equal strings have equal parts: what makes a digest's preimage determine its fields. Assumes nothing.
use mathlib.Core.Path.{◌≡◌, refl, sym, ap, ◌∙◌}
use mathlib.Core.List.{◌++◌, head-eq_of_cons-eq, tail-eq_of_cons-eq}
use Prim.Native.Nat.{ℕ, ◌^◌, ◌<◌}
use native.Mathlib.Omega.{arith}
use lib.ListN.{length, get_or, length-append}
use Rattle.paper.specs.Numbers.{wide}
use Rattle.paper.specs.Bytes.{Bytes, be}
use Rattle.paper.specs.Strings.{Node, leaf, inner, nothing, leaf_string, inner_string, nothing_string, node_string, Head, head_bytes, head_string, label_string, commitment_string}
pub use Rattle.paper.specs.Strings.{NodeSized, HeadSized}
use Rattle.paper.proofs.Lists.{append-split}
use Rattle.paper.proofs.Bytes.{be-length, be-inj, pack-length, pack-inj}

pub leaf-inj : {l m c d : Bytes} {e f : ℕ} → length l ≡ length m → length c ≡ length d → e < 2 ^ 32 → f < 2 ^ 32
    → leaf_string l c e ≡ leaf_string m d f → (l ≡ m) × (c ≡ d) × (e ≡ f)
unfolding leaf_string
leaf-inj {l} {m} {c} {d} {e} {f} hl hc he hf q =
    let (a, b) = append-split l (c ++ be 4 e) m (d ++ be 4 f) hl (tail-eq_of_cons-eq q) in
    let (g, h) = append-split c (be 4 e) d (be 4 f) hc b in
    (a, g, be-inj 4 e f he hf h)

pub inner-inj : {n k : ℕ} {p q l m r s : Bytes} → n < 2 ^ 16 → k < 2 ^ 16 → length p ≡ length q → length l ≡ length m
    → inner_string n p l r ≡ inner_string k q m s → (n ≡ k) × (p ≡ q) × (l ≡ m) × (r ≡ s)
unfolding inner_string
inner-inj {n} {k} {p} {q} {l} {m} {r} {s} hn hk hp hl e =
    let (a, b) = append-split (be 2 n) (p ++ (l ++ r)) (be 2 k) (q ++ (m ++ s)) (be-length 2 n ∙ sym (be-length 2 k)) (tail-eq_of_cons-eq e) in
    let (c, d) = append-split p (l ++ r) q (m ++ s) hp b in
    let (f, g) = append-split l r m s hl d in
    (be-inj 2 n k hn hk a, c, f, g)

-- the first byte tells the sorts of node apart
abbrev tag : Node → ℕ
tag (leaf m c e) = 0
tag (inner p l r) = 1
tag nothing = 2

string-tag : (x : Node) → get_or (node_string x) 0 0 ≡ tag x
unfolding leaf_string inner_string nothing_string
string-tag (leaf m c e) = refl
string-tag (inner p l r) = refl
string-tag nothing = refl

same_tag : (x y : Node) → node_string x ≡ node_string y → tag x ≡ tag y
same_tag x y q = sym (string-tag x) ∙ ap (λ s. get_or s 0 0) q ∙ string-tag y

pub node-inj : (x y : Node) → NodeSized x → NodeSized y → node_string x ≡ node_string y → x ≡ y
node-inj (leaf m c e) (leaf m' c' e') h k q =
    let w : length c ≡ length c' = omega arith in
    let (a, b, d) = leaf-inj (pack-length wide m ∙ sym (pack-length wide m')) w h.2 k.2 q in
    let u : m ≡ m' = pack-inj wide m m' (omega arith) (omega arith) a in
    cc
node-inj (inner p l r) (inner p' l' r') h k q =
    let n : length p < 2 ^ 16 = omega arith in
    let n' : length p' < 2 ^ 16 = omega arith in
    let w : length l ≡ length l' = omega arith in
    let (a, b, d, e) = inner-inj n n' (pack-length wide p ∙ sym (pack-length wide p')) w q in
    let u : p ≡ p' = pack-inj wide p p' a (omega arith) b in
    cc
node-inj nothing nothing h k q = refl
node-inj (leaf m c e) (inner p l r) h k q = absurd (omega (arith, same_tag (leaf m c e) (inner p l r) q))
node-inj (leaf m c e) nothing h k q = absurd (omega (arith, same_tag (leaf m c e) nothing q))
node-inj (inner p l r) (leaf m c e) h k q = absurd (omega (arith, same_tag (inner p l r) (leaf m c e) q))
node-inj (inner p l r) nothing h k q = absurd (omega (arith, same_tag (inner p l r) nothing q))
node-inj nothing (leaf m c e) h k q = absurd (omega (arith, same_tag nothing (leaf m c e) q))
node-inj nothing (inner p l r) h k q = absurd (omega (arith, same_tag nothing (inner p l r) q))

pub head-inj : (x y : Head) → HeadSized x → HeadSized y → head_string x ≡ head_string y → x ≡ y
unfolding head_string head_bytes
head-inj x y h k q =
    let (a, b) = append-split (be 4 x.epoch) _ (be 4 y.epoch) _ (be-length 4 x.epoch ∙ sym (be-length 4 y.epoch)) (tail-eq_of_cons-eq q) in
    let (c, d) = append-split x.previous _ y.previous _ (omega arith) b in
    let (e, f) = append-split x.all _ y.all _ (omega arith) d in
    let n : x.epoch ≡ y.epoch = be-inj 4 x.epoch y.epoch h.0 k.0 a in
    λ i. record { epoch = n i; previous = c i; all = e i; old = f i }

pub commitment-inj : {o p k l : Bytes} → length o ≡ length p → commitment_string o k ≡ commitment_string p l → (o ≡ p) × (k ≡ l)
unfolding commitment_string
commitment-inj {o} {p} {k} {l} h q = append-split o k p l h (tail-eq_of_cons-eq q)

pub label-inj : {a b n m : ℕ} {x y : Bytes} → n < 2 ^ 16 → m < 2 ^ 16 → label_string a n x ≡ label_string b m y → (a ≡ b) × (n ≡ m) × (x ≡ y)
unfolding label_string
label-inj {a} {b} {n} {m} {x} {y} h k q =
    let t = tail-eq_of_cons-eq q in
    let (c, d) = append-split (be 2 n) x (be 2 m) y (be-length 2 n ∙ sym (be-length 2 m)) (tail-eq_of_cons-eq t) in
    (head-eq_of_cons-eq t, be-inj 2 n m h k c, d)

-- "Leaf, 69 bytes", "Inner node, 99 bytes", "Head, 101 bytes"
pub leaf-length : (l c : Bytes) (e : ℕ) → length l ≡ wide → length c ≡ wide → length (leaf_string l c e) ≡ 69
unfolding leaf_string
leaf-length l c e h k = omega (arith, length-append l (c ++ be 4 e), length-append c (be 4 e), be-length 4 e)

pub inner-length : (n : ℕ) (p l r : Bytes) → length p ≡ wide → length l ≡ wide → length r ≡ wide → length (inner_string n p l r) ≡ 99
unfolding inner_string
inner-length n p l r h k m = omega (arith, length-append (be 2 n) (p ++ (l ++ r)), length-append p (l ++ r), length-append l r, be-length 2 n)

pub head-length : (x : Head) → HeadSized x → length (head_string x) ≡ 101
unfolding head_string head_bytes
head-length x h = omega (arith, length-append (be 4 x.epoch) (x.previous ++ (x.all ++ x.old)), length-append x.previous (x.all ++ x.old), length-append x.all x.old, be-length 4 x.epoch)
