-- A history's rows are asked what it is asked, on its terms. Assumes nothing.
use mathlib.Core.Path.{◌≡◌, refl, sym, ap, ap₂, ◌∙◌}
use mathlib.Core.Logic.{by_cases}
use mathlib.Core.Bool.{◌&&◌}
use mathlib.Core.List.{List, [], ◌∷◌, ◌++◌, map, map-append}
use Prim.Native.Nat.{ℕ, zero, suc, ◌+◌, ◌-◌, ◌^◌, ◌≤◌, ◌<◌}
use native.Mathlib.Omega.{arith}
use native.Mathlib.Decide.{dec_le}
use native.Mathlib.Numerals.{add-one}
use lib.Dec.{leb, ltb, eqb}
use lib.Pow.{pow_mono, pow_pos}
use lib.ListN.{length, get_or, drop}
use borrow.Author.Tests.{le-leb, lt-leb, eq-eqb, ne_eqb}
use Rattle.std.specs.Prelude.{Some}
use Rattle.fips.specs.Sha256.{sha256}
use Rattle.paper.specs.Lists.{All, up_from}
use Rattle.paper.specs.Bytes.{Bytes, Bytewise}
use Rattle.paper.specs.Bits.{log2}
use Rattle.paper.specs.Strings.{commitment_string}
use Rattle.paper.specs.Path.{Path, none}
use Rattle.paper.specs.Shows.{Item, Proof, epoch_at, commitment_at, present, missing, in_all, in_old, as_marker}
use Rattle.paper.specs.Shows as S
use Rattle.paper.specs.History.{history_asked, history_terms, markers_by}
use Rattle.paper.proofs.Lists.{all_append}
use Rattle.paper.proofs.Proofs.{item-lawful, path-lawful}
use Rattle.plan.specs.Asked.{markers_of, asked_by}
use Rattle.plan.specs.Kinds.{keys_in}
use Rattle.plan.specs.declared.Kind.TheVariants.{History}
use Rattle.plan.proofs.Rows.{asked-length}
use Rattle.shown.specs.Form.{front_at, head_in, item_in, ItemStands, commitment_in}
use Rattle.shown.specs.Terms.{asked_of}
use Rattle.shown.specs.declared.Asked.{Asked}
use Rattle.plan.specs.declared.Place.TheVariants.{InAll, AsMarker}
use Rattle.shown.proofs.Keyed.{item-told}
use Rattle.shown.proofs.Fronts.{front-told}
use Rattle.shown.proofs.Formed.{Formed}
use Rattle.walks.proofs.Walked.{Suits}
use Rattle.runs.specs.Runs.{item_on, item_at, path_on, place_at, epoch_from, ask_version, ask_replaced, ask_marker, lack, row, lacks, ItemsStand}
use Rattle.rows.specs.Rows.{rows_ask}
use Rattle.runs.proofs.Cursors.{path-epoch, path-moves}
use Rattle.runs.proofs.Powers.{marked}
use Rattle.checks.proofs.Standing.{item-moves, nth}

-- ---- rows

row-asked : (f : ℕ → Asked) (g : ℕ → S.Asked) → ((i : ℕ) → asked_of (f i) ≡ g i) → (a k : ℕ) → map asked_of (map f (up_from a k)) ≡ map g (up_from a k)
unfolding up_from
row-asked f g h a zero = refl
row-asked f g h a (suc k) = ap₂ {C = List S.Asked} (λ x l. x ∷ l) (h a) (row-asked f g h (suc a) k)

-- a row, and what stands behind it
row-then : (f : ℕ → Asked) (g : ℕ → S.Asked) → ((i : ℕ) → asked_of (f i) ≡ g i) → (a b k : ℕ) → b - a ≡ k → (l : List Asked) (m : List S.Asked) → map asked_of l ≡ m
    → map asked_of (row f a b ++ l) ≡ map g (up_from a k) ++ m
row-then f g h a b k e l m q = map-append asked_of (row f a b) l ∙ ap₂ (λ x y. x ++ y) (row-asked f g h a (b - a) ∙ ap (λ k. map g (up_from a k)) e) q

row-all : (P : Asked → Type 0) (f : ℕ → Asked) (a k : ℕ) → ((i : ℕ) → a ≤ i → i < a + k → P (f i)) → All P (map f (up_from a k))
unfolding up_from
row-all P f a zero h = tt
row-all P f a (suc k) h = (h a (omega arith) (omega arith), row-all P f (suc a) k (λ i l r. h i (omega arith) (omega arith)))

-- all that the rows are asked
abbrev pub asks : Bytes → ℕ → ℕ → ℕ → List Asked
asks s first t n = rows_ask s first (record { kind = History; number = n; epoch = t })

pub asks-are : (s : Bytes) (first t n : ℕ) → map asked_of (asks s first t n) ≡ history_asked n t
unfolding up_from
asks-are s first t zero = row-asked (λ j. lack (AsMarker j)) (λ j. missing (as_marker j)) (λ j. refl) 0 (markers_by t - 0)
asks-are s first t (suc m) =
    let b = suc (log2 (suc m)) in
    row-then (ask_version s first t) (λ i. present (in_all i)) (λ i. refl) 1 (suc (suc m)) (suc m) (omega arith) _ _
    (row-then (ask_replaced s first) (λ i. present (in_old i)) (λ i. refl) 1 (suc m) m (omega arith) _ _
    (ap {B = List S.Asked} (λ l. missing (in_old (suc m)) ∷ l)
    (row-then (λ i. lack (InAll i)) (λ i. missing (in_all i)) (λ i. refl) (suc (suc m)) (2 ^ b) (2 ^ b - suc (suc m)) refl _ _
    (row-then (ask_marker s first) (λ j. present (as_marker j)) (λ j. refl) 0 b b (omega arith) _ _
    (row-asked (λ j. lack (AsMarker j)) (λ j. missing (as_marker j)) (λ j. refl) b (markers_by t - b))))))

-- ---- the terms

-- one epoch, as a range
one-epoch : (e y : ℕ) → eqb e y ≡ (leb y e && leb e y)
one-epoch e y = by_cases (dec_le y e)
    (λ h. by_cases (dec_le e y)
    (λ k. rw (eq-eqb e y (omega arith), le-leb y e h, le-leb e y k))
    (λ k. rw (ne_eqb e y (λ q. omega arith), le-leb y e h, lt-leb e y (omega arith))))
    (λ h. rw (ne_eqb e y (λ q. omega arith), lt-leb y e (omega arith)))

module _ (s : Bytes) (w : Bytewise s) (n t : ℕ) (front : front_at 2 s ≡ Some (record { number = n; epoch = t })) (start : ℕ) (f : Formed 2 (keys_in History) (asked_by History) s w n t front start) where
  -- the proof that is read
  abbrev pub read : Proof
  read = record { head = head_in s; number = n; items = f.items; paths = f.paths }

  -- each version has a path
  versions-few : n ≤ length (history_asked n t)
  versions-few = omega (arith, asked-length n t (omega (arith, (front-told 2 s w n t front).small)), pow_pos (markers_of n))

  abbrev no_path : Path
  no_path = record { steps = []; end = none }

  epoch-is : (k : ℕ) → k ≤ n → epoch_at read k ≡ epoch_from s start k
  unfolding epoch_at epoch_from
  epoch-is zero h = refl
  epoch-is (suc k) h =
      let (next, e) = nth path-lawful s w (path_on s) (path-moves s) start (length (history_asked n t)) f.paths [] f.room f.walks k no_path (omega (arith, versions-few)) in
      sym (path-epoch s (place_at s start k) (get_or f.paths k no_path) _ e)

  abbrev no_item : Item
  no_item = record { key = []; opening = [] }

  key-told : (k : ℕ) → k < n → ItemStands s (item_at s k) × (item_in s (item_at s k) ≡ get_or f.items k no_item)
  key-told k h =
      let (next, e) = nth item-lawful s w (item_on s) (item-moves s w) 108 n f.items (drop start s) (front-told 2 s w n t front).room f.keyed k no_item h in
      item-told s (item_at s k) w (get_or f.items k no_item) _ e

  pub keys-stand : ItemsStand s n
  keys-stand k h = (key-told k h).0

  commitment-is : (i : ℕ) → 1 ≤ i → i ≤ n → commitment_at read i ≡ commitment_in s (item_at s (i - 1))
  unfolding commitment_at commitment_in
  commitment-is i l h = ap (λ x. sha256 (commitment_string x.opening x.key)) (sym (key-told (i - 1) (omega arith)).1)

  version-suits : (i : ℕ) → 1 ≤ i → i ≤ n → Suits (history_terms read) (ask_version s start t i)
  version-suits i l h = (
    commitment-is i l h,
    λ e.
        ap₂ (λ x y. ltb x e && leb e y) (epoch-is (i - 1) (omega arith)) (sym (front-told 2 s w n t front).epoch)
        ∙ ap (λ x. leb x e && leb e t) (sym (add-one (epoch_from s start (i - 1)))),
  )

  -- the epoch of another version's leaf
  epoch-window : (k : ℕ) → k ≤ n → (e : ℕ) → eqb e (epoch_at read k) ≡ (leb (epoch_from s start k) e && leb e (epoch_from s start k))
  epoch-window k h e = ap (eqb e) (epoch-is k h) ∙ one-epoch e (epoch_from s start k)

  replaced-suits : (i : ℕ) → i < n → Suits (history_terms read) (ask_replaced s start i)
  replaced-suits i h = (refl, λ e. ap (λ k. eqb e (epoch_at read k)) (sym (add-one i)) ∙ epoch-window (i + 1) (omega arith) e)

  marker-suits : (j : ℕ) → 2 ^ j ≤ n → Suits (history_terms read) (ask_marker s start j)
  marker-suits j h = (refl, epoch-window (2 ^ j) h)

  pub asks-suit : (m : ℕ) → m ≡ n → All (Suits (history_terms read)) (asks s start t m)
  unfolding up_from
  asks-suit zero q = row-all _ (λ j. lack (AsMarker j)) 0 (markers_by t - 0) (λ j l r. tt)
  asks-suit (suc m) q =
      let P = Suits (history_terms read) in
      let b = suc (log2 (suc m)) in
      let k = marked (suc m) (omega arith) (omega (arith, (front-told 2 s w n t front).small)) in
      all_append P (row (ask_version s start t) 1 (suc (suc m))) _ (row-all P (ask_version s start t) 1 (suc (suc m) - 1) (λ i l r. version-suits i l (omega arith)))
      (all_append P (row (ask_replaced s start) 1 (suc m)) _ (row-all P (ask_replaced s start) 1 (suc m - 1) (λ i l r. replaced-suits i (omega arith))) (
        tt,
        all_append P (lacks InAll (suc (suc m)) (2 ^ b)) _ (row-all P (λ i. lack (InAll i)) (suc (suc m)) (2 ^ b - suc (suc m)) (λ i l r. tt))
            (all_append P (row (ask_marker s start) 0 b) _ (row-all P (ask_marker s start) 0 (b - 0) (λ j l r. marker-suits j (omega (arith, k.reached, pow_mono {i = j} {j = log2 (suc m)} (omega arith)))))
            (row-all P (λ j. lack (AsMarker j)) b (markers_by t - b) (λ j l r. tt))),
      ))
