-- What the accepted paths of a lookup or history show: the walks of the labels that were asked. Assumes nothing.
use mathlib.Core.Path.{◌≡◌, refl, sym, ap, ◌∙◌, subst}
use mathlib.Core.Logic.{inl, inr}
use mathlib.Core.Bool.{Bool, true, false, cond, ◌&&◌}
use mathlib.Core.List.{List, [], ◌∷◌, ◌++◌, map}
use Prim.Native.Nat.{ℕ, zero, suc, ◌<◌}
use native.Mathlib.Omega.{arith}
use lib.ListN.{length, get_or}
use Rattle.paper.specs.Lists.{◌∈◌, All}
use Rattle.paper.specs.Bytes.{Bytes, same}
use Rattle.paper.specs.Bits.{Bits}
use Rattle.paper.specs.Strings.{Node, node_string, Head}
use Rattle.paper.specs.Labelling.{Labelling, Sized}
use Rattle.paper.specs.Path as P
use Rattle.paper.specs.Path.{End, this, other, off, none, Path, path_nodes, path_root, last_length, present_with, epoch_of}
use Rattle.paper.specs.Fields.{path_field}
use Rattle.paper.specs.Shows.{Place, in_all, in_old, as_marker, Asked, Terms, kind_of, number_of, root_at, label_at, meets, path_tests, path_strings}
use Rattle.paper.specs.declared.Which.{Which}
use Rattle.paper.specs.declared.Which.TheVariants.{OfAll, OfOld}
use Rattle.paper.proofs.Lists.{all_left, all_right, all_in, in-all, and_left, and_right, not-both}
use Rattle.paper.proofs.Bytes.{same-eq, bits_of-length}
use Rattle.paper.proofs.Strings.{NodeSized}
use Rattle.paper.proofs.Verdicts.{Hold}
use Rattle.paper.proofs.Fits.{step_fits, path-fits}
use Rattle.paper.proofs.Walk.{Found, absent, present, Walk}
use Rattle.paper.proofs.PathWalk.{end_shows, EndShows, absent-shows, path-walk}
use Rattle.paper.proofs.Chain.{root_in}
use Rattle.paper.proofs.Collide.{OneToOne, hashed_in}
use Rattle.paper.proofs.Sizes.{path-sized}

-- strings of the list
abbrev pub Within : List Bytes → List Bytes → Type 0
Within U = All (λ s. s ∈ U)

abbrev pub which_of : Place → Which
which_of (in_all i) = OfAll
which_of (in_old i) = OfOld
which_of (as_marker j) = OfAll

root-of : (h : Head) (x : Place) → root_at h x ≡ root_in h (which_of x)
root-of h (in_all i) = refl
root-of h (in_old i) = refl
root-of h (as_marker j) = refl

-- nodes whose strings are of the list, and that have their sizes, were hashed
pub inside : (U : List Bytes) (f : OneToOne U) (N : List Node) → All NodeSized N → Within U (map node_string N) → All (hashed_in U f).trees.In N
inside U f [] s i = tt
inside U f (x ∷ N) s i = ((s.0, i.0), inside U f N s.1 i.1)

-- what an end shows, where it is the leaf that is asked
present-shows : (L : Bits) (c : Bytes) (e : End) → present_with c e ≡ true → EndShows L e × (end_shows e ≡ present c (epoch_of e))
unfolding present_with
present-shows L c (this d e) h = (tt, ap (λ x. present x e) (same-eq d c h))
present-shows L c (other m d e) h = not-both h refl
present-shows L c (off p l r) h = not-both h refl
present-shows L c none h = not-both h refl

module _ (lab : Labelling) (sized : Sized lab) (name : Bytes) (U : List Bytes) (f : OneToOne U) where
  pub label-size : (x : Place) → length (label_at lab name x) ≡ 256
  label-size x = omega (arith, bits_of-length (lab.label (kind_of x) (number_of x) (lab.person name)), sized.size (kind_of x) (number_of x) (lab.person name))

  -- the walk of a place's label at a head comes to r
  abbrev pub At : Head → Place → Found → Type 0
  At h x r = Walk (hashed_in U f).trees (label_at lab name x) (root_in h (which_of x)) r

  -- what one path shows of what is asked: a leaf with its commitment, at an epoch that passed the test; or that there is none
  abbrev pub Shows : Bool → Head → Terms → Place → Path → Type 0
  Shows true h terms x p = At h x (present (terms.commitment x) (epoch_of p.end)) × (terms.epoch x (epoch_of p.end) ≡ true)
  Shows false h terms x p = At h x absent

  path-shows : (h : Head) (x : Place) (p : Path) (r : Found) → path_field.Fits p → Within U (map node_string (path_nodes (label_at lab name x) p.steps p.end))
      → same (path_root (label_at lab name x) p) (root_at h x) ≡ true → EndShows (label_at lab name x) p.end → end_shows p.end ≡ r → At h x r
  path-shows h x p r k i e o q =
      let L = label_at lab name x in
      let short : All (λ s. s.length < length L) p.steps = in-all _ p.steps (λ s m.
      omega (arith, (step_fits s (all_in _ p.steps (path-fits p k).each s m)).short, label-size x)) in
      let w = path-walk (hashed_in U f).trees L p.steps p.end (inside U f (path_nodes L p.steps p.end) (path-sized L p (label-size x) k) i) short o in
      subst (λ d. Walk (hashed_in U f).trees L d r) (same-eq _ _ e ∙ root-of h x) (subst (λ t. Walk (hashed_in U f).trees L (path_root L p) t) q w)

  pub asked-shows : (h : Head) (terms : Terms) (a : Asked) (p : Path) → path_field.Fits p → Within U (map node_string (path_nodes (label_at lab name a.place) p.steps p.end))
      → same (path_root (label_at lab name a.place) p) (root_at h a.place) ≡ true → meets lab name terms a p ≡ true → Shows a.there h terms a.place p
  unfolding meets
  asked-shows h terms a p k i e m = by a.there m
    where
      x : Place
      x = a.place

      by : (t : Bool)
          → cond t (present_with (terms.commitment x) p.end && terms.epoch x (epoch_of p.end)) (P.absent (label_at lab name x) (last_length p.steps) p.end) ≡ true
          → Shows t h terms x p
      by true q =
          let (o, s) = present-shows (label_at lab name x) (terms.commitment x) p.end (and_left _ _ q) in
          (path-shows h x p _ k i e o s, and_right (present_with (terms.commitment x) p.end) _ q)
      by false q =
          let (o, s) = absent-shows (label_at lab name x) (last_length p.steps) p.end q in
          path-shows h x p absent k i e o s

  abbrev pub AllShow : Head → Terms → List Asked → List Path → Type 0
  AllShow h terms [] ps = Unit {0}
  AllShow h terms (a ∷ more) [] = ⊥
  AllShow h terms (a ∷ more) (p ∷ ps) = Shows a.there h terms a.place p × AllShow h terms more ps

  -- tests that hold, path by path, show all that is asked
  pub paths-show : (h : Head) (terms : Terms) (asked : List Asked) (ps : List Path) → length ps ≡ length asked → All path_field.Fits ps
      → Within U (path_strings lab name asked ps) → Hold (path_tests lab name h terms asked ps) → AllShow h terms asked ps
  unfolding path_tests path_strings
  paths-show h terms [] ps n k i t = tt
  paths-show h terms (a ∷ more) [] n k i t = absurd (omega arith)
  paths-show h terms (a ∷ more) (p ∷ ps) n k i t =
      let own = lab.strings (kind_of a.place) (number_of a.place) (lab.person name) in
      let N = map node_string (path_nodes (label_at lab name a.place) p.steps p.end) in
      let j = all_right _ own (N ++ path_strings lab name more ps) i in (
        asked-shows h terms a p k.0 (all_left _ N (path_strings lab name more ps) j) t.0 t.1.0,
        paths-show h terms more ps (omega arith) k.1 (all_right _ N (path_strings lab name more ps) j) t.1.1,
      )

  -- of one that is asked, some path shows it
  pub show-in : (h : Head) (terms : Terms) (asked : List Asked) (ps : List Path) → AllShow h terms asked ps → (a : Asked) → a ∈ asked → (p : Path) × Shows a.there h terms a.place p
  show-in h terms (b ∷ more) (p ∷ ps) s a (inl e) = (p, subst (λ a. Shows a.there h terms a.place p) (sym e) s.0)
  show-in h terms (b ∷ more) (p ∷ ps) s a (inr m) = show-in h terms more ps s.1 a m
  show-in h terms [] ps s a m = elim m [ ]
  show-in h terms (b ∷ more) [] s a _ = elim s [ ]

  -- the i-th that is asked, the i-th path shows
  pub show-at : (h : Head) (terms : Terms) (asked : List Asked) (ps : List Path) → AllShow h terms asked ps → (a₀ : Asked) (p₀ : Path) (i : ℕ) → i < length asked
      → Shows (get_or asked i a₀).there h terms (get_or asked i a₀).place (get_or ps i p₀)
  show-at h terms [] ps s a₀ p₀ i l = absurd (omega arith)
  show-at h terms (a ∷ more) (p ∷ ps) s a₀ p₀ zero l = s.0
  show-at h terms (a ∷ more) (p ∷ ps) s a₀ p₀ (suc i) l = show-at h terms more ps s.1 a₀ p₀ i (omega arith)
  show-at h terms (a ∷ more) [] s a₀ p₀ i l = elim s [ ]
