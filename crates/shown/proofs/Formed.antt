-- A proof is in layout exactly where its front is, and what stands behind it; and then it is known where keys and paths stand.
-- Assumes nothing.
use mathlib.Core.Path.{◌≡◌, refl, sym, ap, ◌∙◌}
use mathlib.Core.List.{List, [], ◌∷◌}
use Prim.Native.Nat.{ℕ, suc, ◌+◌, ◌-◌, ◌≤◌}
use native.Mathlib.Omega.{arith}
use lib.ListN.{length, drop}
use Rattle.paper.specs.Bytes.{Bytes, Bytewise}
use Rattle.paper.specs.Strings.{Head}
use Rattle.paper.specs.Path.{Path}
use Rattle.paper.specs.Layout.{Read, got, bad, and_then, seq, times, times_bytes, view, whole, parse}
use Rattle.paper.specs.Fields.{path_field}
use Rattle.paper.specs.Shows.{Asked, Item, item_field, Proof, proof_field}
use Rattle.paper.proofs.Layouts.{times-lawful}
use Rattle.paper.proofs.Proofs.{item-lawful}
use Rattle.fields.specs.After.{after_of, after_at}
use Rattle.shown.specs.Form.{front_field, front_at, head_in, body_field, start_of, first_path}
use Rattle.std.specs.Prelude.{Option, Some, None}
use Rattle.shown.specs.declared.Front.{Front}
use Rattle.fields.proofs.Behind.{Stood, stood}
use Rattle.shown.proofs.Fronts.{front-told, front-bad}

-- ---- readings one behind the other

then-then : {A B C : Type 0} (m : Read A) (f : A → Bytes → Read B) (g : B → Bytes → Read C) → and_then (and_then m f) g ≡ and_then m (λ x r. and_then (f x r) g)
then-then bad f g = refl
then-then (got x r) f g = refl

whole-then : {A B : Type 0} (m : Read A) (to : A → B) → whole (and_then m (λ x r. got (to x) r)) ≡ and_then (whole m) (λ x r. got (to x) r)
whole-then bad to = refl
whole-then (got x []) to = refl
whole-then (got x (b ∷ r)) to = refl

-- a proof out of its front and what stands behind it
abbrev with : Head × ℕ → List Item × List Path → Proof
with x y = record { head = x.0; number = x.1; items = y.0; paths = y.1 }

module _ (kind : ℕ) (keys : ℕ → ℕ) (asked : ℕ → ℕ → List Asked) where
  proof-reads : (s : Bytes) → (proof_field kind keys asked).read s
      ≡ and_then ((front_field kind).read s) (λ x q. and_then ((body_field (keys x.1) (length (asked x.1 x.0.epoch))).read q) (λ y r. got (with x y) r))
  unfolding view seq
  proof-reads s = simp then-then

  proof-parse : (s : Bytes) → parse (proof_field kind keys asked) s
      ≡ and_then ((front_field kind).read s) (λ x q. and_then (parse (body_field (keys x.1) (length (asked x.1 x.0.epoch))) q) (λ y r. got (with x y) r))
  proof-parse s = ap whole (proof-reads s) ∙ by ((front_field kind).read s)
    where
      by : (m : Read (Head × ℕ))
          → whole (and_then m (λ x q. and_then ((body_field (keys x.1) (length (asked x.1 x.0.epoch))).read q) (λ y r. got (with x y) r)))
          ≡ and_then m (λ x q. and_then (parse (body_field (keys x.1) (length (asked x.1 x.0.epoch))) q) (λ y r. got (with x y) r))
      by bad = refl
      by (got x q) = whole-then ((body_field (keys x.1) (length (asked x.1 x.0.epoch))).read q) (with x)

-- ---- what stands behind the front

module _ (k m : ℕ) (s : Bytes) (w : Bytewise s) (front : 108 ≤ length s) where
  -- keys that were read, and where they end
  record Keys (start : ℕ) : Type 0 where
    items : List Item
    reads : (times k item_field).read (drop 108 s) ≡ got items (drop start s)
    place : start ≡ 108 + length (times_bytes item_field.bytes items)
    room : start ≤ length s

  keys-told : (start : ℕ) → after_at (times k item_field) s 108 ≡ Some start → Keys start
  unfolding times
  keys-told start e = by ((times k item_field).read (drop 108 s)) refl e
    where
      by : (x : Read (List Item)) → (times k item_field).read (drop 108 s) ≡ x → after_of (length s) x ≡ Some start → Keys start
      by bad q e = let z : ◌≡◌ {A = ℕ} 0 1 = cc in absurd (omega arith)
      by (got x r) q e =
          let t = stood (times-lawful k item-lawful) s w 108 x r front q in
          let u : length s - length r ≡ start = cc in
          let p : start ≡ 108 + length (times_bytes item_field.bytes x) = sym u ∙ t.place in
          record {
            items = x;
            reads = q ∙ ap (got x) (sym t.rest ∙ ap (λ i. drop i s) (sym p));
            place = p;
            room = omega (arith, t.room);
          }

  -- the keys are not there
  pub first-keyless : after_at (times k item_field) s 108 ≡ None → first_path k m s ≡ None
  unfolding first_path seq
  first-keyless e = by ((times k item_field).read (drop 108 s)) e
    where
      by : (x : Read (List Item)) → after_of (length s) x ≡ None
          → start_of (whole (and_then x (λ i r. and_then ((times m path_field).read r) (λ p q. got (i, p) q)))) ≡ None
      by bad e = refl
      by (got i r) e = let z : ◌≡◌ {A = ℕ} 0 1 = cc in absurd (omega arith)

  module _ (start : ℕ) (keys : after_at (times k item_field) s 108 ≡ Some start) where
    abbrev items : List Item
    items = (keys-told start keys).items

    -- from the paths on
    from-keys : first_path k m s ≡ start_of (whole (and_then ((times m path_field).read (drop start s)) (λ p q. got (items, p) q)))
    unfolding first_path seq
    from-keys = rw (keys-told start keys).reads

    -- the paths are not there
    pub first-pathless : after_at (times m path_field) s start ≡ None → first_path k m s ≡ None
    first-pathless e = from-keys ∙ by ((times m path_field).read (drop start s)) e
      where
        by : (x : Read (List Path)) → after_of (length s) x ≡ None → start_of (whole (and_then x (λ p q. got (items, p) q))) ≡ None
        by bad e = refl
        by (got p r) e = let z : ◌≡◌ {A = ℕ} 0 1 = cc in absurd (omega arith)

    -- they are, and something or nothing stands behind them
    pub first_more : (last : ℕ) → after_at (times m path_field) s start ≡ Some last → (last ≡ length s → ⊥) → first_path k m s ≡ None
    first_more last e h = from-keys ∙ by ((times m path_field).read (drop start s)) e
      where
        by : (x : Read (List Path)) → after_of (length s) x ≡ Some last → start_of (whole (and_then x (λ p q. got (items, p) q))) ≡ None
        by bad e = refl
        by (got p []) e = let u : length s - 0 ≡ last = cc in absurd (h (omega arith))
        by (got p (b ∷ r)) e = refl

    pub first-at : (last : ℕ) → after_at (times m path_field) s start ≡ Some last → last ≡ length s → first_path k m s ≡ Some start
    first-at last e h = from-keys ∙ by ((times m path_field).read (drop start s)) e
      where
        by : (x : Read (List Path)) → after_of (length s) x ≡ Some last → start_of (whole (and_then x (λ p q. got (items, p) q))) ≡ Some start
        by bad e = let z : ◌≡◌ {A = ℕ} 0 1 = cc in absurd (omega arith)
        by (got p []) e = ap Some (sym (keys-told start keys).place)
        by (got p (b ∷ r)) e = let u : length s - suc (length r) ≡ last = cc in absurd (omega arith)

  -- what the place of the first path tells
  record BodyTold (start : ℕ) : Type 0 where
    items : List Item
    paths : List Path
    reads : parse (body_field k m) (drop 108 s) ≡ got (items, paths) []
    keyed : (times k item_field).read (drop 108 s) ≡ got items (drop start s)
    walks : (times m path_field).read (drop start s) ≡ got paths []
    room : start ≤ length s

  body-told : (start : ℕ) → first_path k m s ≡ Some start → BodyTold start
  unfolding first_path seq times
  body-told start e = by ((times k item_field).read (drop 108 s)) refl e
    where
      ends : (i : List Item) (r : Bytes) → Stood (times k item_field) s 108 i r → (times k item_field).read (drop 108 s) ≡ got i r
          → (x : Read (List Path)) → (times m path_field).read r ≡ x → start_of (whole (and_then x (λ p q. got (i, p) q))) ≡ Some start → BodyTold start
      ends i r t o bad q e = let z : ◌≡◌ {A = ℕ} 0 1 = cc in absurd (omega arith)
      ends i r t o (got p (b ∷ l)) q e = let z : ◌≡◌ {A = ℕ} 0 1 = cc in absurd (omega arith)
      ends i r t o (got p []) q e =
          let u : 108 + length (times_bytes item_field.bytes i) ≡ start = cc in
          let d : drop start s ≡ r = ap (λ n. drop n s) (sym u) ∙ t.rest in
          record {
            items = i;
            paths = p;
            reads = rw (o, q);
            keyed = rw d o;
            walks = rw d q;
            room = omega (arith, t.room);
          }

      by : (x : Read (List Item)) → (times k item_field).read (drop 108 s) ≡ x
          → start_of (whole (and_then x (λ i r. and_then ((times m path_field).read r) (λ p q. got (i, p) q)))) ≡ Some start → BodyTold start
      by bad q e = let z : ◌≡◌ {A = ℕ} 0 1 = cc in absurd (omega arith)
      by (got i r) q e = ends i r (stood (times-lawful k item-lawful) s w 108 i r front q) q ((times m path_field).read r) refl e

  body-bad : first_path k m s ≡ None → parse (body_field k m) (drop 108 s) ≡ bad
  unfolding first_path
  body-bad e = by (parse (body_field k m) (drop 108 s)) e
    where
      by : (x : Read (List Item × List Path)) → start_of x ≡ None → x ≡ bad
      by bad e = refl
      by (got y r) e = let z : ◌≡◌ {A = ℕ} 0 1 = cc in absurd (omega arith)

-- ---- the whole proof

module _ (kind : ℕ) (keys : ℕ → ℕ) (asked : ℕ → ℕ → List Asked) (s : Bytes) (w : Bytewise s) where
  pub front-refused : front_at kind s ≡ None → parse (proof_field kind keys asked) s ≡ bad
  front-refused e = proof-parse kind keys asked s ∙ rw (front-bad kind s w e)

  module _ (n t : ℕ) (front : front_at kind s ≡ Some (record { number = n; epoch = t })) where
    from_front : parse (proof_field kind keys asked) s
        ≡ and_then (parse (body_field (keys n) (length (asked n t))) (drop 108 s)) (λ y r. got (with (head_in s, n) y) r)
    from_front = let f = front-told kind s w n t front in proof-parse kind keys asked s ∙ rw (f.reads, f.epoch)

    pub body_refused : first_path (keys n) (length (asked n t)) s ≡ None → parse (proof_field kind keys asked) s ≡ bad
    body_refused e = from_front ∙ rw (body-bad (keys n) (length (asked n t)) s w (front-told kind s w n t front).room e)

    -- a proof in layout: what it is, and where its keys and paths stand
    pub record Formed (start : ℕ) : Type 0 where
      pub items : List Item
      pub paths : List Path
      pub found : parse (proof_field kind keys asked) s ≡ got (record { head = head_in s; number = n; items = items; paths = paths }) []
      pub keyed : (times (keys n) item_field).read (drop 108 s) ≡ got items (drop start s)
      pub walks : (times (length (asked n t)) path_field).read (drop start s) ≡ got paths []
      pub room : start ≤ length s

    pub formed : (start : ℕ) → first_path (keys n) (length (asked n t)) s ≡ Some start → Formed start
    formed start e =
        let b = body-told (keys n) (length (asked n t)) s w (front-told kind s w n t front).room start e in
        record {
          items = b.items;
          paths = b.paths;
          found = from_front ∙ rw b.reads;
          keyed = b.keyed;
          walks = b.walks;
          room = b.room;
        }

  -- and so stands every proof that is read
  pub parsed : (p : Proof) (r : Bytes) → parse (proof_field kind keys asked) s ≡ got p r → (n : ℕ) × (t : ℕ) × (front : front_at kind s ≡ Some (record { number = n; epoch = t })) × (start : ℕ) × Formed n t front start
  parsed p r e = by_front (front_at kind s) refl
    where
      no : {A : Type 0} → parse (proof_field kind keys asked) s ≡ bad → A
      no q = let z : ◌≡◌ {A = ℕ} 0 1 = cc in absurd (omega arith)

      by-body : (n t : ℕ) (front : front_at kind s ≡ Some (record { number = n; epoch = t })) (x : Option ℕ) → first_path (keys n) (length (asked n t)) s ≡ x
          → (n : ℕ) × (t : ℕ) × (front : front_at kind s ≡ Some (record { number = n; epoch = t })) × (start : ℕ) × Formed n t front start
      by-body n t front None q = no (body_refused n t front q)
      by-body n t front (Some start) q = (n, t, front, start, formed n t front start q)

      by_front : (x : Option Front) → front_at kind s ≡ x → (n : ℕ) × (t : ℕ) × (front : front_at kind s ≡ Some (record { number = n; epoch = t })) × (start : ℕ) × Formed n t front start
      by_front None q = no (front-refused q)
      by_front (Some f) q = by-body f.number f.epoch q (first_path (keys f.number) (length (asked f.number f.epoch)) s) refl
