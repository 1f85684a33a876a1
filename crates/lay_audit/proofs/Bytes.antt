-- A proof's bytes as they are written: how many they are, and that they stand one behind the other. Assumes nothing.
use mathlib.Core.Path.{◌≡◌, refl, sym, ap, ◌∙◌}
use mathlib.Core.Bool.{true}
use mathlib.Core.List.{List, [], ◌∷◌, ◌++◌, append_assoc}
use Prim.Native.Nat.{ℕ, zero, suc, ◌+◌, ◌-◌, ◌*◌, ◌≤◌}
use native.Mathlib.Omega.{arith}
use lib.ListN.{length, drop, length-append, length-replicate}
use lib.Seq.{drop_at, drop-drop}
use Rattle.paper.specs.Numbers.{audit_most}
use Rattle.paper.specs.Bytes.{Bytes, Bytewise, be, pasted}
use Rattle.paper.specs.Strings.{Node, Head, node_string}
use Rattle.paper.specs.Tree.{top, root, root_digest}
use Rattle.paper.specs.Layout.{view, seq, fixed}
use Rattle.paper.specs.Fields.{head_field}
use Rattle.paper.specs.Audit.{Audit, in_order, olds, list_field, audit_field}
use Rattle.paper.specs.Table.{previous_head}
use Rattle.paper.specs.Write.{below_root}
use Rattle.paper.proofs.Bytes.{be-length}
use Rattle.paper.proofs.Pasted.{pasted-behind}
use Rattle.paper.proofs.Proofs.{list_lawful}
use Rattle.paper.proofs.Fits.{digest-wide}
use Rattle.paper.proofs.Honest.{LeafSet}
use Rattle.paper.proofs.Audited.{list-order, list-fit}
use Rattle.ranges.proofs.Slices.{length_part}
use Rattle.leaf_row.specs.Row.{as_nodes, Sized}
use Rattle.leaf_row.proofs.Rows.{nodes-length}
use Rattle.tree.specs.Stored.{Sorted}
use Rattle.tree.specs.declared.StoredTree.{StoredTree}
use Rattle.tree.proofs.Slots.{kept-lent}
use Rattle.path_fields.specs.Written.{Wrote}
use Rattle.tree_path.proofs.Root as Root
use Rattle.path_fields.proofs.Writing.{laid_next}
use Rattle.subtrees.proofs.News.{root-few}
use Rattle.subtrees.proofs.Records.{list-size}
use Rattle.front.proofs.Front.{head-parts, previous-some}
use Rattle.audit_form.specs.Places.{count_at, records_at}
use Rattle.audit_form.proofs.Form.{ListStands, list-stands}
use Rattle.lay_audit.specs.Audited.{head_with, root_before, audit_with, bytes_with, new_with, NewLaid, Step, Listable, ListableLent}

-- ---- a head

-- a head whose three digests have 32 bytes
pub record Digests (h : Head) : Type 0 where
  pub previous : length h.previous ≡ 32
  pub all : length h.all ≡ 32
  pub old : length h.old ≡ 32

module _ (h : Head) (w : Digests h) where
  pub head-size : length (head_field.bytes h) ≡ 100
  head-size = ap length (head-parts h) ∙ omega (
    arith,
    length-append (be 4 h.epoch) (h.previous ++ (h.all ++ h.old)),
    length-append h.previous (h.all ++ h.old),
    length-append h.all h.old,
    be-length 4 h.epoch,
    w.previous,
    w.all,
    w.old,
  )

  pub head-laid : (o a b c d : Bytes) (at : ℕ) → at ≤ length o → a ≡ pasted o at (be 4 h.epoch) → b ≡ pasted a (at + 4) h.previous → c ≡ pasted b (at + 36) h.all → d ≡ pasted c (at + 68) h.old
      → d ≡ pasted o at (head_field.bytes h)
  head-laid o a b c d at k ea eb ec ed =
      let x = be 4 h.epoch in
      let x1 = x ++ h.previous in
      let x2 = x1 ++ h.all in
      let s1 : at + 36 ≡ at + length x1 = omega (arith, length-append x h.previous, be-length 4 h.epoch, w.previous) in
      let s2 : at + 68 ≡ at + length x2 = omega (arith, length-append x1 h.all, w.all) in
      let q1 = laid_next o a b x h.previous at (at + 4) k ea (omega (arith, be-length 4 h.epoch)) eb in
      let q2 = laid_next o b c x1 h.all at (at + 36) k q1 s1 ec in
      let q3 = laid_next o c d x2 h.old at (at + 68) k q2 s2 ed in
      let whole : x2 ++ h.old ≡ head_field.bytes h = rw (head-parts h) (simp append_assoc) in
      q3 ∙ ap (pasted o at) whole

previous-wide : (heads : Bytes) (t : ℕ) → t * 32 ≤ length heads → length (previous_head heads t) ≡ 32
previous-wide heads zero h = length-replicate {A = ℕ} 32 0
previous-wide heads (suc t) h = ap length (previous-some heads t) ∙ length_part heads (t * 32) 32 (omega arith)

pub head-wide : (heads : Bytes) (t : ℕ) (all old : Bytes) → t * 32 ≤ length heads → length all ≡ 32 → length old ≡ 32 → Digests (head_with heads t all old)
head-wide heads t all old h a o = record { previous = previous-wide heads t h; all = a; old = o }

-- the root of a tree has 32 bytes
root-wide : (S : List Node) → length (root_digest S) ≡ 32
root-wide S = (digest-wide (node_string (top (root S)))).size

-- ---- the whole

abbrev opening : Bytes
opening = 0x56 ∷ 0x4B ∷ 0x44 ∷ 0 ∷ 1 ∷ 3 ∷ []

audit-parts : (x : Audit) → audit_field.bytes x ≡ opening ++ (head_field.bytes x.before ++ (head_field.bytes x.after ++ (list_field.bytes x.all ++ list_field.bytes x.old)))
unfolding view seq fixed be
audit-parts x = refl

-- laid at the front, and before what lies behind it
front : (s u : Bytes) → pasted s 0 u ≡ u ++ drop (0 + length u) s
unfolding pasted
front s u = refl

laid-before : (o x y : Bytes) (a : ℕ) → length x ≡ a → a + length y ≤ length o → pasted (pasted o a y) 0 x ≡ pasted o 0 (x ++ y)
laid-before o x y a e h =
    let z : 0 + length x ≡ a = omega arith in
    let w : a + length y ≡ 0 + length (x ++ y) = omega (arith, length-append x y) in
    front (pasted o a y) x ∙ ap (λ n. x ++ drop n (pasted o a y)) z ∙ ap (λ r. x ++ r) (pasted-behind o a y h ∙ ap (λ n. y ++ drop n o) w)
    ∙ sym (append_assoc x y (drop (0 + length (x ++ y)) o)) ∙ sym (front o (x ++ y))

module _ (heads : Bytes) (t : ℕ) (A O : List Node) (step : Step heads t) where
  abbrev first : Bytes
  first = head_field.bytes (head_with heads (t - 1) (root_before t A) (root_before t O))

  abbrev second : Bytes
  second = head_field.bytes (head_with heads t (root_digest A) (root_digest O))

  abbrev all : Bytes
  all = list_field.bytes (below_root t (root A))

  abbrev old : Bytes
  old = list_field.bytes (below_root t (root O))

  parts : bytes_with heads t A O ≡ opening ++ (first ++ new_with heads t A O)
  unfolding bytes_with new_with
  parts = audit-parts (audit_with heads t A O)

  first-size : length first ≡ 100
  first-size = head-size (head_with heads (t - 1) (root_before t A) (root_before t O)) (head-wide heads (t - 1) _ _ (omega (arith, step.reach)) (root-wide _) (root-wide _))

  second-size : length second ≡ 100
  second-size = head-size (head_with heads t (root_digest A) (root_digest O)) (head-wide heads t _ _ step.reach (root-wide A) (root-wide O))

  pub new-size : length (new_with heads t A O) ≡ 100 + length all + length old
  unfolding new_with
  new-size = omega (arith, length-append second (all ++ old), length-append all old, second-size)

  pub with_size : length (bytes_with heads t A O) ≡ 106 + length (new_with heads t A O)
  with_size = ap length parts ∙ omega (arith, length-append opening (first ++ new_with heads t A O), length-append first (new_with heads t A O), first-size)

  -- the new head and both lists, one behind the other
  pub new-laid : (o v w z : Bytes) (next r : ℕ) → 106 ≤ length o → v ≡ pasted o 106 second → Wrote v 206 all w next → Wrote w next old z r → NewLaid heads t A O o z next
  unfolding new_with
  new-laid o v w z next r h ev ew ez =
      let s1 : 206 ≡ 106 + length second = omega (arith, second-size) in
      let s2 : next ≡ 106 + length (second ++ all) = omega (arith, length-append second all, second-size, ew.behind) in
      let q1 = laid_next o v w second all 106 206 h ev s1 ew.laid in
      let q2 = laid_next o w z (second ++ all) old 106 next h q1 s2 ez.laid in
      record { laid = q2 ∙ ap (pasted o 106) (append_assoc second all old); second = ew.behind }

  -- and before them the header and the old head
  pub laid-all : (o z p u : Bytes) (next : ℕ) → length (bytes_with heads t A O) ≤ length o → NewLaid heads t A O o z next → p ≡ pasted z 0 opening → u ≡ pasted p 6 first
      → u ≡ pasted o 0 (bytes_with heads t A O)
  laid-all o z p u next h l ep eu =
      let x = opening ++ first in
      let b = new_with heads t A O in
      let e : length x ≡ 106 = omega (arith, length-append opening first, first-size) in
      laid_next z p u opening first 0 6 (omega arith) ep refl eu ∙ ap (λ d. pasted d 0 x) l.laid
      ∙ laid-before o x b 106 e (omega (arith, with_size)) ∙ ap (pasted o 0) (append_assoc opening first b ∙ sym parts)

  -- what stands at either list's place
  module _ (o z : Bytes) (next : ℕ) (h : 106 + length (new_with heads t A O) ≤ length o) (l : NewLaid heads t A O o z next) where
    abbrev rest : Bytes
    rest = drop (106 + length (new_with heads t A O)) o

    at_all : drop 206 z ≡ all ++ (old ++ rest)
    unfolding new_with
    at_all =
        sym (drop-drop 100 106 z) ∙ ap (drop 100) (ap (drop 106) l.laid ∙ pasted-behind o 106 (new_with heads t A O) h ∙ append_assoc second (all ++ old) rest)
        ∙ drop_at second ((all ++ old) ++ rest) 100 second-size ∙ append_assoc all old rest

    at_old : drop next z ≡ old ++ rest
    at_old = let e : 206 + length all ≡ next = sym l.second in ap (λ n. drop n z) (sym e) ∙ sym (drop-drop (length all) 206 z) ∙ ap (drop (length all)) at_all ∙ drop_at all (old ++ rest) (length all) refl

    pub all-stands : Bytewise z → LeafSet A → length (below_root t (root A)) ≤ audit_most → ListStands z 206 (below_root t (root A))
    all-stands w set n = list-stands z 206 _ (old ++ rest) w (ap list_field.read at_all ∙ list_lawful.reads _ _ (list-fit t A set n))

    pub old-stands : Bytewise z → LeafSet O → length (below_root t (root O)) ≤ audit_most → ListStands z next (below_root t (root O))
    old-stands w set n = list-stands z next _ rest w (ap list_field.read at_old ∙ list_lawful.reads _ _ (list-fit t O set n))

-- a list that stands is in order, and builds the old root
module _ (z : Bytes) (at t : ℕ) (S : List Node) (set : LeafSet S) (l : ListStands z at (below_root t (root S))) where
  pub stands-order : in_order (records_at z (at + 4) (count_at z at)) ≡ true
  stands-order = ap in_order l.records ∙ list-order t S set

  pub stands-root : root_digest (olds (records_at z (at + 4) (count_at z at))) ≡ root_before t S
  stands-root = ap (λ R. root_digest (olds R)) l.records

-- over leaves in bit order, by how many records the lists have
pub rows-size : (heads : Bytes) (t : ℕ) (A O : List Node) → Step heads t → Sorted A → Sorted O
    → length (bytes_with heads t A O) ≡ 214 + (length (below_root t (root A)) + length (below_root t (root O))) * 99
rows-size heads t A O step wa wo = with_size heads t A O step ∙ omega (arith, new-size heads t A O step, list-size t A wa.sized, list-size t O wo.sized)

-- a tree that may be listed may be lent for it
pub listable-lent : (T : StoredTree) → Listable T → ListableLent T
listable-lent T k = record { tree = kept-lent T k.tree; few = k.few }

-- "audit records per tree | 0 to 16,384": there are no more records than leaves
pub lent-few : (t : ℕ) (T : StoredTree) → Sized (as_nodes T.leaves.now) → ListableLent T → length (below_root t (root (as_nodes T.leaves.now))) ≤ 16384
lent-few t T s k =
    let S = as_nodes T.leaves.now in
    let w : Sorted S = record { sized = s; rises = k.tree.rises } in
    omega (arith, root-few t S T.sides.split w (Root.parts S T.slots.now T.sides w k.tree.stored), nodes-length T.leaves.now, k.few)

pub list-few : (t : ℕ) (T : StoredTree) → Listable T → length (below_root t (root (as_nodes T.leaves.now))) ≤ 16384
list-few t T k = lent-few t T k.tree.sorted.sized (listable-lent T k)

-- a head as its roots were found
pub head-found : (heads : Bytes) (t : ℕ) (o : Bytes) (at : ℕ) {a b x y : Bytes} → a ≡ x → b ≡ y → pasted o at (head_field.bytes (head_with heads t a b)) ≡ pasted o at (head_field.bytes (head_with heads t x y))
head-found heads t o at ex ey = λ i. pasted o at (head_field.bytes (head_with heads t (ex i) (ey i)))
