-- Where the key of a lookup stands in its bytes. Assumes nothing.
use mathlib.Core.Path.{◌≡◌, refl, sym, ap, ap₂, ◌∙◌}
use mathlib.Core.List.{List, [], ◌∷◌, ◌++◌, append_assoc}
use Prim.Native.Nat.{ℕ, ◌≤◌}
use native.Mathlib.Omega.{arith}
use lib.ListN.{length, take, drop, length-append}
use lib.Seq.{take_at, drop_at, drop-drop}
use Rattle.paper.specs.Bytes.{Bytes, be, number}
use Rattle.paper.specs.Strings.{Head}
use Rattle.paper.specs.Layout.{block, fixed, within, seq, led, times, times_bytes, view}
use Rattle.paper.specs.Fields.{head_field, path_field}
use Rattle.paper.specs.Shows.{Item, item_field, Proof}
use Rattle.paper.specs.Lookup.{lookup_field, accepted_key}
use Rattle.std.specs.Prelude.{Ok}
use Rattle.paper.specs.declared.AcceptedLookup.TheVariants.{Found}
use Rattle.paper.proofs.Bytes.{be-length, number-be}
use Rattle.paper.proofs.Strings.{HeadSized}

head-length : (h : Head) → HeadSized h → length (head_field.bytes h) ≡ 100
unfolding view seq within block
head-length h s =
    omega (
      arith,
      length-append (be 4 h.epoch) (h.previous ++ (h.all ++ h.old)),
      length-append h.previous (h.all ++ h.old),
      length-append h.all h.old,
      be-length 4 h.epoch,
    )

-- what stands behind header, head and version
behind : Proof → Bytes
behind p = times_bytes item_field.bytes p.items ++ times_bytes path_field.bytes p.paths

lookup-bytes : (p : Proof) → lookup_field.bytes p ≡ (0x56 ∷ 0x4B ∷ 0x44 ∷ 0 ∷ 1 ∷ 1 ∷ []) ++ (head_field.bytes p.head ++ (be 2 p.number ++ behind p))
unfolding behind view seq fixed within times be
lookup-bytes p = refl

behind-at : (p : Proof) → HeadSized p.head → drop 108 (lookup_field.bytes p) ≡ behind p
behind-at p s =
    let w : Bytes = 0x56 ∷ 0x4B ∷ 0x44 ∷ 0 ∷ 1 ∷ 1 ∷ [] in
    let r = be 2 p.number ++ behind p in
    ap (drop 108) (lookup-bytes p)
    ∙ sym (drop-drop 102 6 (w ++ (head_field.bytes p.head ++ r)))
    ∙ ap (drop 102) (drop_at w (head_field.bytes p.head ++ r) 6 refl)
    ∙ sym (drop-drop 2 100 (head_field.bytes p.head ++ r))
    ∙ ap (drop 2) (drop_at (head_field.bytes p.head) r 100 (head-length p.head s))
    ∙ drop_at (be 2 p.number) (behind p) 2 (be-length 2 p.number)

item-bytes : (x : Item) (l : List Item) → times_bytes item_field.bytes (x ∷ l) ≡ be 1 (length x.key) ++ (x.key ++ (x.opening ++ times_bytes item_field.bytes l))
unfolding times_bytes view seq led within block
item-bytes x l = append_assoc (be 1 (length x.key) ++ x.key) x.opening (times_bytes item_field.bytes l) ∙ append_assoc (be 1 (length x.key)) x.key _

-- the accepted key is the proof's key
pub key-accepted : (p : Proof) (x : Item) (l : List Item) → HeadSized p.head → length x.key ≤ 64 → p.items ≡ x ∷ l → (v t c : ℕ) → accepted_key (Ok (Found v t c)) (lookup_field.bytes p) ≡ x.key
unfolding behind
key-accepted p x l s k e v t c =
    let b = lookup_field.bytes p in
    let r = x.opening ++ times_bytes item_field.bytes l ++ times_bytes path_field.bytes p.paths in
    let n = be 1 (length x.key) in
    let q : drop 108 b ≡ n ++ (x.key ++ r) =
    behind-at p s ∙ ap (λ i. times_bytes item_field.bytes i ++ times_bytes path_field.bytes p.paths) e
    ∙ ap (λ i. i ++ times_bytes path_field.bytes p.paths) (item-bytes x l) ∙ simp append_assoc in
    let m : number (take 1 (drop 108 b)) ≡ length x.key =
    ap (λ i. number (take 1 i)) q ∙ ap number (take_at n (x.key ++ r) 1 (be-length 1 (length x.key))) ∙ number-be 1 (length x.key) (omega arith) in
    let d : drop 109 b ≡ x.key ++ r = sym (drop-drop 1 108 b) ∙ ap (drop 1) q ∙ drop_at n (x.key ++ r) 1 (be-length 1 (length x.key)) in
    ap₂ (λ i j. take i j) m d ∙ take_at x.key r (length x.key) refl
