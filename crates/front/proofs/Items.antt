-- A key's bytes, and the keys of more and more records. Assumes nothing.
use mathlib.Core.Path.{◌≡◌, refl, sym, ap, ap₂, ◌∙◌, subst}
use mathlib.Core.Bool.{Bool, true, false}
use mathlib.Core.List.{List, [], ◌∷◌, ◌++◌, map, map-append, append_assoc}
use Prim.Native.Nat.{ℕ, zero, suc, ◌+◌, ◌-◌, ◌*◌, ◌≤◌, ◌<◌}
use native.Mathlib.Nat.{add-zero, add-suc}
use native.Mathlib.Omega.{arith}
use lib.ListN.{length, drop, set, length-append, length-drop}
use lib.Seq.{length-take-le, drop-append-le, drop-append_seam, drop-length}
use Rattle.paper.specs.Bytes.{Bytes, be, pasted}
use Rattle.paper.specs.Labelling.{plain}
use Rattle.paper.specs.Layout.{view, seq, led, within, block, times_bytes}
use Rattle.paper.specs.Shows.{Item, item_field}
use Rattle.paper.specs.Table.{Record}
use Rattle.paper.specs.Write.{versions_by, item_of, last_item}
use Rattle.paper.proofs.Bytes.{be-length}
use Rattle.paper.proofs.Pasted.{pasted-none}
use Rattle.words.proofs.Number.{pasted-byte}
use Rattle.record.specs.Places.{record_in, record_at, records_in, Stands}
use Rattle.gather.proofs.Leaves.{key-few}
use Rattle.std.specs.Prelude.{None, Some}
use Rattle.table.specs.Index.{last_where}
use Rattle.own.specs.Own.{own_by}
use Rattle.own.proofs.Versions.{versions-zero, versions-yes, versions-no, versions-none, versions-last, item-none, item-last}
use Rattle.path_fields.specs.Written.{Wrote}
use Rattle.path_fields.proofs.Writing.{laid_next, times-append, times-one, wrote-next}
use Rattle.front.specs.Front.{item_bytes, versions_from, items_from}

-- ---- one key

item-bytes : (x : Item) → item_field.bytes x ≡ be 1 (length x.key) ++ (x.key ++ x.opening)
unfolding view seq led within block
item-bytes x = append_assoc (be 1 (length x.key)) x.key x.opening

opening-long : (s : Bytes) (i : ℕ) → Stands s i → length (record_at s i).opening ≡ 32
unfolding record_at record_in
opening-long s i h = let t = drop (i * 168) s in length-take-le 32 (drop 136 t) (omega (arith, length-drop 136 t, length-drop (i * 168) s, h.reach))

module _ (s : Bytes) (i : ℕ) (h : Stands s i) where
  abbrev r : Record
  r = record_at s i

  pub item-size : length (item_field.bytes (item_of r)) ≡ 33 + length r.key
  item-size = ap length (item-bytes (item_of r)) ∙ omega (arith, length-append (be 1 (length r.key)) (r.key ++ r.opening), length-append r.key r.opening, be-length 1 (length r.key), opening-long s i h)

  pub item-most : length (item_field.bytes (item_of r)) ≤ 97
  item-most = omega (arith, item-size, key-few s i)

  -- length, key and opening
  laid-parts : (o a b : Bytes) (at : ℕ) → at + length (item_field.bytes (item_of r)) ≤ length o → a ≡ pasted (set o at (length r.key)) (at + 1) r.key → b ≡ pasted a (at + 1 + length r.key) r.opening
      → Wrote o at (item_field.bytes (item_of r)) b (at + 33 + length r.key)
  laid-parts o a b at room ea eb =
      let n = length r.key in
      let m : at + 1 ≡ at + length (be 1 n) = omega (arith, be-length 1 n) in
      let first = laid_next o (set o at n) a (be 1 n) r.key at (at + 1) (omega arith) (pasted-byte o at n (omega (arith, item-size))) m ea in
      let k : at + 1 + n ≡ at + length (be 1 n ++ r.key) = omega (arith, length-append (be 1 n) r.key, be-length 1 n) in
      record {
        laid = laid_next o a b (be 1 n ++ r.key) r.opening at (at + 1 + n) (omega arith) first k eb ∙ ap (pasted o at) (append_assoc (be 1 n) r.key r.opening ∙ sym (item-bytes (item_of r)));
        behind = omega (arith, item-size);
      }

  -- as they were read
  module _ (k q : Bytes) (e : k ≡ r.key) (f : q ≡ r.opening) where
    pub read-size : length (item_field.bytes (item_of r)) ≡ 33 + length k
    read-size = item-size ∙ ap (λ x. 33 + length x) (sym e)

    pub item-wrote : (o a b : Bytes) (at : ℕ) → at + length (item_field.bytes (item_of r)) ≤ length o → a ≡ pasted (set o at (length k)) (at + 1) k → b ≡ pasted a (at + 1 + length k) q
        → Wrote o at (item_field.bytes (item_of r)) b (at + 33 + length k)
    item-wrote o a b at room ea eb =
        let n = ap length e in
        let x = ea ∙ ap₂ (λ m y. pasted (set o at m) (at + 1) y) n e in
        let y = eb ∙ ap₂ (λ m z. pasted a (at + 1 + m) z) n f in
        subst (λ m. Wrote o at (item_field.bytes (item_of r)) b (at + 33 + m)) (sym n) (laid-parts o a b at room x y)

-- ---- the keys of more and more records

drop-none : (n : ℕ) → ◌≡◌ {A = List Record} (drop n []) []
drop-none zero = refl
drop-none (suc n) = refl

bytes-snoc : (l : List Item) (x : Item) → item_bytes (l ++ (x ∷ [])) ≡ item_bytes l ++ item_field.bytes x
unfolding item_bytes
bytes-snoc l x = times-append item_field.bytes l (x ∷ []) ∙ ap (λ b. times_bytes item_field.bytes l ++ b) (times-one item_field.bytes x)

bytes-nil : item_bytes [] ≡ []
unfolding item_bytes times_bytes
bytes-nil = refl

module _ (s name : Bytes) (t from : ℕ) where
  abbrev versions : ℕ → List Record
  versions n = versions_by plain name t (records_in n s)

  -- so many are left out
  abbrev left_out : ℕ
  left_out = length (versions from)

  abbrev bytes : ℕ → Bytes
  bytes n = item_bytes (items_from s name t from n)

  -- none yet
  pub bytes-start : bytes from ≡ []
  bytes-start = ap (λ l. item_bytes (map item_of l)) (drop-length (versions from)) ∙ bytes-nil

  pub wrote-start : (o : Bytes) (at : ℕ) → Wrote o at (bytes from) o at
  wrote-start o at = rw bytes-start (record { laid = sym (pasted-none o at); behind = sym (add-zero at) })

  module _ (i : ℕ) (h : left_out ≤ length (versions i)) where
    -- record i is the name's
    module _ (e : own_by s name t i ≡ true) where
      pub long-yes : left_out ≤ length (versions (suc i))
      long-yes = omega (arith, ap length (versions-yes s name t i e), length-append (versions i) (record_at s i ∷ []))

      pub bytes-yes : bytes (suc i) ≡ bytes i ++ item_field.bytes (item_of (record_at s i))
      bytes-yes =
          let q : versions_from s name t from (suc i) ≡ versions_from s name t from i ++ (record_at s i ∷ []) =
          ap (drop left_out) (versions-yes s name t i e) ∙ drop-append-le left_out (versions i) (record_at s i ∷ []) h in
          ap (λ l. item_bytes (map item_of l)) q ∙ ap item_bytes (map-append item_of (versions_from s name t from i) (record_at s i ∷ [])) ∙ bytes-snoc (items_from s name t from i) (item_of (record_at s i))

      pub length-yes : length (bytes (suc i)) ≡ length (bytes i) + length (item_field.bytes (item_of (record_at s i)))
      length-yes = ap length bytes-yes ∙ length-append (bytes i) (item_field.bytes (item_of (record_at s i)))

      pub wrote-yes : (o v u : Bytes) (at mid r : ℕ) → at ≤ length o → Wrote o at (bytes i) v mid → Wrote v mid (item_field.bytes (item_of (record_at s i))) u r → Wrote o at (bytes (suc i)) u r
      wrote-yes o v u at mid r k w x = wrote-next o v u (bytes i) (item_field.bytes (item_of (record_at s i))) (bytes (suc i)) at mid r k w.laid w.behind x bytes-yes

    -- it is not
    module _ (e : own_by s name t i ≡ false) where
      pub long-no : left_out ≤ length (versions (suc i))
      long-no = omega (arith, ap length (versions-no s name t i e))

      pub bytes-no : bytes (suc i) ≡ bytes i
      bytes-no = ap (λ l. item_bytes (map item_of (drop left_out l))) (versions-no s name t i e)

    grown : (b : Bool) → own_by s name t i ≡ b → (left_out ≤ length (versions (suc i))) × (length (bytes i) ≤ length (bytes (suc i)))
    grown true e = (long-yes e, omega (arith, length-yes e))
    grown false e = (long-no e, omega (arith, ap length (bytes-no e)))

  -- there are more and more
  grows : (i k : ℕ) → left_out ≤ length (versions i) → (left_out ≤ length (versions (i + k))) × (length (bytes i) ≤ length (bytes (i + k)))
  grows i zero h = rw (add-zero i) (h, omega arith)
  grows i (suc k) h =
      let (a, b) = grows i k h in
      let (c, d) = grown (i + k) a (own_by s name t (i + k)) refl in
      rw (add-suc i k) (c, omega arith)

  pub bytes-room : (i n : ℕ) → i < n → left_out ≤ length (versions i) → own_by s name t i ≡ true → length (bytes i) + length (item_field.bytes (item_of (record_at s i))) ≤ length (bytes n)
  bytes-room i n l h e =
      let k : n ≡ suc i + (n - suc i) = omega arith in
      let g = (grows (suc i) (n - suc i) (long-yes i h e)).1 in
      omega (arith, length-yes i h e, g, ap (λ m. length (bytes m)) k)

-- ---- those of a history, and that of a lookup

pub items-all : (s name : Bytes) (t n : ℕ) → items_from s name t 0 n ≡ map item_of (versions_by plain name t (records_in n s))
items-all s name t n = ap (λ (l : List Record). map item_of (drop (length l) (versions_by plain name t (records_in n s)))) (versions-zero s name t)

pub items-none : (s name : Bytes) (t from n : ℕ) → last_where (own_by s name t) n ≡ None → items_from s name t from n ≡ last_item (versions_by plain name t (records_in n s))
items-none s name t from n h = ap (λ l. map item_of (drop (length (versions_by plain name t (records_in from s))) l)) (versions-none s name t n h) ∙ ap (map item_of) (drop-none (length (versions_by plain name t (records_in from s)))) ∙ sym (item-none s name t n h)

pub items-last : (s name : Bytes) (t k n : ℕ) → last_where (own_by s name t) n ≡ Some k → items_from s name t k n ≡ last_item (versions_by plain name t (records_in n s))
items-last s name t k n h =
    let before = versions_by plain name t (records_in k s) in
    ap (λ l. map item_of (drop (length before) l)) (versions-last s name t n k h) ∙ ap (map item_of) (drop-append_seam before (record_at s k ∷ [])) ∙ sym (item-last s name t n k h)
