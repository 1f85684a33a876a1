-- Demand 2, the honest way, for lookups and histories: what the writers' definitions give for records in shape fits the layout and passes
-- every test at the head of its epoch. Stated once over the labelling. Assumes nothing.
use mathlib.Core.Path.{◌≡◌, refl, sym, ap, ◌∙◌, subst}
use mathlib.Core.Logic.{inl, inr, by_cases}
use mathlib.Core.Bool.{true, not, ◌||◌}
use mathlib.Core.List.{List, [], ◌∷◌, map}
use Prim.Native.Nat.{ℕ, zero, suc, ◌-◌, ◌^◌, ◌<◌, ◌≤◌}
use native.Mathlib.Omega.{arith}
use native.Mathlib.Decide.{dec_le}
use lib.Pow.{pow_pos, pow_mono}
use lib.Dec.{leb, ltb}
use lib.ListN.{length, get_or, length-map}
use borrow.Author.Tests.{le-leb, lt-ltb, eq-eqb, not-true}
use Rattle.fips.specs.Sha256.{sha256}
use Rattle.fips.proofs.Size.{sha256-length}
use Rattle.paper.specs.Lists.{◌∈◌, All}
use Rattle.paper.specs.Numbers.{wide, version_most}
use Rattle.paper.specs.Bytes.{Bytes, zeros, same}
use Rattle.paper.specs.Bits.{log2}
use Rattle.paper.specs.Strings.{leaf, commitment_string}
use Rattle.paper.specs.Labelling.{Labelling, Sized}
use Rattle.paper.specs.Tree.{root, root_digest}
use Rattle.paper.specs.Path.{Path, this, epoch_of, present_with, way, way_end, path_root}
use Rattle.paper.specs.Fields.{is_name, path_field, head_field}
use Rattle.paper.specs.Shows.{Place, in_all, in_old, as_marker, Asked, present, missing, Item, item_field, Proof, Terms, label_at, root_at, meets, path_tests, proof_tests, input_tests, epoch_at, commitment_at}
use Rattle.paper.specs.Lookup.{lookup_asked, lookup_keys, lookup_field, lookup_terms, lookup_gives, lookup_strings, check_lookup}
use Rattle.paper.specs.History.{history_asked, history_field, history_terms, history_strings, check_history}
use Rattle.paper.specs.Table.{Record, in_shape, all_at, old_at, head_of, head_digest, previous_head, holds, distinct, last_version}
use Rattle.paper.specs.Write.{versions_by, item_of, last_item, leaves_at, unclashed, lookup_proof, history_proof}
use Rattle.paper.proofs.Lists.{all_in, in-all, every-all, and_left, and_right, and_both, all_get_d, get_or-map-at}
use Rattle.paper.proofs.Bytes.{eq-same, same_refl}
use Rattle.paper.proofs.Marker.{log2-spec}
use Rattle.paper.proofs.Verdicts.{Hold}
use Rattle.paper.specs.Answer.{history_accepted}
use Rattle.paper.proofs.Asked.{version-asked, Only, a-version, an-old, a-marker, not_there, asked-only}
use Rattle.paper.proofs.Layouts.{parse-bytes}
use Rattle.paper.proofs.Proofs.{lookup-lawful, history-lawful}
use Rattle.paper.proofs.Accepted.{lookup-accept, history-accept}
use Rattle.paper.proofs.Fits.{Wide, digest-wide, ProofFits}
use Rattle.paper.proofs.Fit.{head-fit, item-fit, proof-fit}
use Rattle.paper.proofs.Honest.{LeafSet, held-not, distinct-set, way-gives-root, way-present, way-absent, way-fits}
use Rattle.paper.proofs.Records.{Runs, versions-run, runs-at, runs-rise, run-count}
use Rattle.paper.proofs.Leaves.{RecordFits, all-at-sized, old-at-sized, label-long, own-epoch, own_in, version-leaf, marker-leaf, old-leaf}

module _ (lab : Labelling) (sized : Sized lab) (name : Bytes) (t : ℕ) (rs : List Record) (fits : All RecordFits rs) where
  abbrev versions : List Record
  versions = versions_by lab name t rs

  abbrev path_for : Asked → Path
  path_for a = way (label_at lab name a.place) (root (leaves_at lab name t rs a.place))

  -- no clash: the leaves of both trees are sets, and what is to be shown absent is not there
  pub record Clear (asked : List Asked) : Type 0 where
    pub all_set : LeafSet (all_at lab t rs)
    pub old-set : LeafSet (old_at lab t rs)
    pub gone : All (λ a. (a.there || not (holds (label_at lab name a.place) (leaves_at lab name t rs a.place))) ≡ true) asked

  pub clear : (asked : List Asked) → unclashed lab name t rs asked ≡ true → Clear asked
  clear asked e =
      let f = and_right (distinct (all_at lab t rs)) _ e in
      record {
        all_set = distinct-set _ (all-at-sized lab sized t rs fits) (and_left _ _ e);
        old-set = distinct-set _ (old-at-sized lab sized t rs fits) (and_left _ _ f);
        gone = every-all _ asked (and_right (distinct (old_at lab t rs)) _ f);
      }

  module _ (asked : List Asked) (free : Clear asked) where
    set_at : (x : Place) → LeafSet (leaves_at lab name t rs x)
    set_at (in_all i) = free.all_set
    set_at (in_old i) = free.old-set
    set_at (as_marker j) = free.all_set

    long : (x : Place) → length (label_at lab name x) ≡ 256
    long (in_all i) = label-long lab sized _ _ _
    long (in_old i) = label-long lab sized _ _ _
    long (as_marker j) = label-long lab sized _ _ _

    -- every path is in layout and gives its root
    pub path-in-layout : (a : Asked) → path_field.Fits (path_for a)
    path-in-layout a = way-fits _ (set_at a.place) _ (long a.place)

    root_is : (heads : Bytes) (x : Place) → root_digest (leaves_at lab name t rs x) ≡ root_at (head_of lab heads t rs) x
    root_is heads (in_all i) = refl
    root_is heads (in_old i) = refl
    root_is heads (as_marker j) = refl

    pub gives-root : (heads : Bytes) (a : Asked) → same (path_root (label_at lab name a.place) (path_for a)) (root_at (head_of lab heads t rs) a.place) ≡ true
    gives-root heads a = eq-same (way-gives-root _ (set_at a.place) _ (long a.place) ∙ root_is heads a.place)

    -- a leaf that is there is shown with its commitment and epoch
    pub shows-leaf : (x : Place) (c : Bytes) (e : ℕ) → leaf (label_at lab name x) c e ∈ leaves_at lab name t rs x → way_end (label_at lab name x) (root (leaves_at lab name t rs x)) ≡ this c e
    shows-leaf x c e m = way-present _ (set_at x) _ (long x) c e m

    -- so what is asked present meets its terms
    pub meets-present : (terms : Terms) (x : Place) (e : ℕ) → leaf (label_at lab name x) (terms.commitment x) e ∈ leaves_at lab name t rs x → terms.epoch x e ≡ true
        → meets lab name terms (present x) (path_for (present x)) ≡ true
    unfolding meets present_with
    meets-present terms x e m k = rw (shows-leaf x (terms.commitment x) e m) (and_both (same_refl (terms.commitment x)) k)

    -- and what is asked absent is shown absent
    pub meets-missing : (terms : Terms) (x : Place) → missing x ∈ asked → meets lab name terms (missing x) (path_for (missing x)) ≡ true
    unfolding meets
    meets-missing terms x m =
        way-absent _ (set_at x) _ (long x) (held-not _ _ (not-true _ (all_in (λ a. (a.there || not (holds (label_at lab name a.place) (leaves_at lab name t rs a.place))) ≡ true) asked free.gone (missing x) m)))

    -- all tests of the paths hold, where each that is asked meets its terms
    pub paths-hold : (heads : Bytes) (terms : Terms) (some : List Asked) → All (λ a. meets lab name terms a (path_for a) ≡ true) some
        → Hold (path_tests lab name (head_of lab heads t rs) terms some (map path_for some))
    unfolding path_tests
    paths-hold heads terms [] h = tt
    paths-hold heads terms (a ∷ more) h = (gives-root heads a, (h.0, paths-hold heads terms more h.1))

    pub paths-fit : (some : List Asked) → All path_field.Fits (map path_for some)
    paths-fit [] = tt
    paths-fit (a ∷ more) = (path-in-layout a, paths-fit more)

  -- ---- a name's own records by the epoch

  module _ (current : ℕ) (shape : in_shape lab current [] rs ≡ true) where
    run : Runs 0 0 versions
    run = versions-run lab name current t rs shape

    no_record : Record
    no_record = record { name = []; version = 0; epoch = 0; key = []; opening = [] }

    -- version j + 1
    at : ℕ → Record
    at j = get_or versions j no_record

    at_in : (j : ℕ) → j < length versions → at j ∈ versions
    unfolding at
    at_in j h = all_get_d (λ r. r ∈ versions) versions no_record (in-all _ versions (λ r m. m)) j h

    at-version : (j : ℕ) → j < length versions → ((at j).version ≡ suc j) × ((at j).version ≤ (at j).epoch) × ((at j).epoch ≤ t)
    unfolding at
    at-version j h =
        let (a, b) = runs-at 0 0 versions no_record (omega arith) run j h in
        (omega arith, b, own-epoch lab sized name t rs (at j) (at_in j h))

    at-fits : (j : ℕ) → j < length versions → RecordFits (at j)
    at-fits j h = all_in RecordFits rs fits (at j) (own_in lab sized name t rs (at j) (at_in j h))

    at-rise : (i j : ℕ) → i ≤ j → j < length versions → (at i).epoch ≤ (at j).epoch
    unfolding at
    at-rise i zero l h = let e : i ≡ 0 = omega arith in omega (arith, ap (λ k. (at k).epoch) e)
    at-rise i (suc j) l h = by_cases (dec_le i j)
        (λ k. omega (arith, at-rise i j k (omega arith), runs-rise 0 0 versions no_record run j h))
        (λ k. let e : i ≡ suc j = omega arith in omega (arith, ap (λ k. (at k).epoch) e))

    -- the leaves of version j + 1
    leaf-at : (j : ℕ) → j < length versions → leaf (label_at lab name (in_all (suc j))) (sha256 (commitment_string (at j).opening (at j).key)) (at j).epoch ∈ all_at lab t rs
    leaf-at j h = subst (λ v. leaf (label_at lab name (in_all v)) (sha256 (commitment_string (at j).opening (at j).key)) (at j).epoch ∈ all_at lab t rs) (at-version j h).0 (version-leaf lab sized name t rs (at j) (at_in j h))

    -- marker j stands at the epoch of version 2^j
    marker-at : (j : ℕ) → 2 ^ j ≤ length versions → leaf (label_at lab name (as_marker j)) (zeros wide) (at (2 ^ j - 1)).epoch ∈ all_at lab t rs
    marker-at j h =
        let p = pow_pos j in
        let i : 2 ^ j - 1 < length versions = omega arith in
        let v = at-version (2 ^ j - 1) i in
        let f = at-fits (2 ^ j - 1) i in
        marker-leaf lab sized name t rs (at (2 ^ j - 1)) (at_in (2 ^ j - 1) i) j (omega arith) (omega (arith, f.most))

    old-at : (i : ℕ) → 0 < i → i < length versions → leaf (label_at lab name (in_old i)) (zeros wide) (at i).epoch ∈ old_at lab t rs
    old-at i z h = old-leaf lab sized name t rs (at i) (at_in i h) i (at-version i h).0 z

    few : length versions ≤ version_most
    few = by (length versions) refl
      where
        by : (n : ℕ) → length versions ≡ n → n ≤ version_most
        by zero e = omega arith
        by (suc m) e = omega (arith, (at-version m (omega arith)).0, (at-fits m (omega arith)).most)

    last-item : (x : Record) (l : List Record) → last_item (x ∷ l) ≡ item_of (get_or (x ∷ l) (length l) no_record) ∷ []
    unfolding last_item
    last-item x [] = refl
    last-item x (y ∷ l) = last-item y l

    -- ---- lookups

    module _ (heads : Bytes) (short : t < 2 ^ 32) (previous : Wide (previous_head heads t)) where
      head-fits-here : head_field.Fits (head_of lab heads t rs)
      head-fits-here = head-fit _ short previous (digest-wide _) (digest-wide _)

      -- a lookup of version v has that version's key
      abbrev lookup_items : ℕ → List Item
      lookup_items zero = []
      lookup_items (suc m) = item_of (at m) ∷ []

      abbrev lookup_of : ℕ → Proof
      lookup_of v = record { head = head_of lab heads t rs; number = v; items = lookup_items v; paths = map path_for (lookup_asked v) }

      -- the last of the name's records by then
      items-are : last_item versions ≡ lookup_items (length versions)
      unfolding at last_item
      items-are = by versions refl
        where
          by : (l : List Record) → versions ≡ l → last_item l ≡ lookup_items (length l)
          by [] e = refl
          by (x ∷ l) e = last-item x l ∙ ap (λ r. item_of (get_or r (length l) no_record) ∷ []) (sym e)

      lookup-meets : (v : ℕ) → length versions ≡ v → Clear (lookup_asked v) → All (λ a. meets lab name (lookup_terms (lookup_of v)) a (path_for a) ≡ true) (lookup_asked v)
      unfolding commitment_at epoch_at
      lookup-meets zero n c = (meets-missing (lookup_asked 0) c (lookup_terms (lookup_of 0)) (in_all 1) (inl refl), tt)
      lookup-meets (suc m) n c =
          let asked = lookup_asked (suc m) in
          let terms = lookup_terms (lookup_of (suc m)) in
          let j = log2 (suc m) in
          let here : m < length versions = omega arith in
          let (v, ve, et) = at-version m here in
          let (lo, hi) = log2-spec (suc m) (omega arith) (omega (arith, few)) in
          let i : 2 ^ j - 1 < length versions = omega (arith, pow_pos j) in
          let (w, we, wt) = at-version (2 ^ j - 1) i in
          let own : leb (suc m) (at m).epoch ≡ true = le-leb (suc m) (at m).epoch (omega arith) in
          let first : epoch_at (lookup_of (suc m)) 1 ≡ (at m).epoch = ap epoch_of (shows-leaf asked c (in_all (suc m)) _ _ (leaf-at m here)) in
          let low : leb (2 ^ j) (at (2 ^ j - 1)).epoch ≡ true = le-leb (2 ^ j) (at (2 ^ j - 1)).epoch (omega (arith, pow_pos j)) in
          let high : leb (at (2 ^ j - 1)).epoch (epoch_at (lookup_of (suc m)) 1) ≡ true = le-leb (at (2 ^ j - 1)).epoch (epoch_at (lookup_of (suc m)) 1) (omega (arith, first, at-rise (2 ^ j - 1) m (omega arith) here)) in (
            meets-present asked c terms (in_all (suc m)) (at m).epoch (leaf-at m here) (and_both own (le-leb _ _ et)),
            (
              meets-missing asked c terms (in_old (suc m)) (inr (inl refl)),
              (meets-present asked c terms (as_marker j) (at (2 ^ j - 1)).epoch (marker-at j (omega arith)) (and_both low high), tt),
            ),
          )

      lookup-fits : (v : ℕ) → length versions ≡ v → Clear (lookup_asked v) → ProofFits lookup_keys (λ v t. lookup_asked v) (lookup_of v)
      lookup-fits v n c = record {
        head = head-fits-here;
        small = omega (arith, few);
        keyed = keyed v;
        items = items v n;
        counted = length-map (lookup_asked v) path_for;
        paths = paths-fit (lookup_asked v) c (lookup_asked v);
      }
        where
          keyed : (v : ℕ) → length (lookup_items v) ≡ lookup_keys v
          keyed zero = refl
          keyed (suc m) = refl

          items : (v : ℕ) → length versions ≡ v → All item_field.Fits (lookup_items v)
          items zero n = tt
          items (suc m) n = (item-fit _ (at-fits m (omega arith)).item, tt)

      -- the head of the epoch, and a name in bounds
      input-holds : is_name name ≡ true → Hold (input_tests (head_digest lab heads t rs) name)
      unfolding input_tests
      input-holds e = (and_both (eq-eqb _ wide (sha256-length _)) e, tt)

      lookup-is : lookup_proof lab name t rs heads ≡ lookup_of (length versions)
      lookup-is =
          let n = run-count versions run in
          λ i. record { head = head_of lab heads t rs; number = n i; items = items-are i; paths = map path_for (lookup_asked (n i)) }

      pub lookup-in-layout : unclashed lab name t rs (lookup_asked (last_version versions)) ≡ true → lookup_field.Fits (lookup_proof lab name t rs heads)
      lookup-in-layout u =
          let c = clear (lookup_asked (length versions)) (subst (λ k. unclashed lab name t rs (lookup_asked k) ≡ true) (run-count versions run) u) in
          subst lookup_field.Fits (sym lookup-is) (proof-fit 1 lookup_keys (λ v t. lookup_asked v) (lookup_of (length versions)) (lookup-fits (length versions) refl c))

      -- "every lookup .. written from tables and state that publishing left is accepted at its epoch's head, with the directory's own answer"
      pub lookup-complete : is_name name ≡ true → unclashed lab name t rs (lookup_asked (last_version versions)) ≡ true
          → check_lookup lab (head_digest lab heads t rs) name (lookup_field.bytes (lookup_proof lab name t rs heads))
          ≡ lookup_gives lab name (last_version versions) t (length (lookup_strings lab name (lookup_proof lab name t rs heads)))
      unfolding proof_tests
      lookup-complete e u =
          let n = run-count versions run in
          let v = length versions in
          let c = clear (lookup_asked v) (subst (λ k. unclashed lab name t rs (lookup_asked k) ≡ true) n u) in
          let p = lookup_of v in
          let f = proof-fit 1 lookup_keys (λ v t. lookup_asked v) p (lookup-fits v refl c) in
          let holds : Hold (proof_tests lab name (head_digest lab heads t rs) (lookup_terms p) (lookup_asked v) p) =
          (same_refl (head_digest lab heads t rs), paths-hold (lookup_asked v) c heads (lookup_terms p) (lookup_asked v) (lookup-meets v refl c)) in
          let done = lookup-accept lab (head_digest lab heads t rs) name (lookup_field.bytes p) p (parse-bytes lookup-lawful p f) (input-holds e) holds in
          subst (λ q. check_lookup lab (head_digest lab heads t rs) name (lookup_field.bytes q) ≡ lookup_gives lab name q.number t (length (lookup_strings lab name q))) (sym lookup-is) done

      -- ---- histories

      abbrev chronicle : Proof
      chronicle = history_proof lab name t rs heads

      abbrev plan : List Asked
      plan = history_asked (length versions) t

      history-fits : Clear plan → ProofFits (λ n. n) history_asked chronicle
      history-fits c = record {
        head = head-fits-here;
        small = few;
        keyed = length-map versions item_of;
        items = items versions (in-all _ versions (λ r m. all_in RecordFits rs fits r (own_in lab sized name t rs r m)));
        counted = length-map plan path_for;
        paths = paths-fit plan c plan;
      }
        where
          items : (l : List Record) → All RecordFits l → All item_field.Fits (map item_of l)
          items [] h = tt
          items (r ∷ l) h = (item-fit _ h.0.item, items l h.1)

      -- the i-th key is the i-th version's
      commitment-is : (j : ℕ) → j < length versions → commitment_at chronicle (suc j) ≡ sha256 (commitment_string (at j).opening (at j).key)
      unfolding commitment_at at
      commitment-is j h =
          let e : suc j - 1 ≡ j = omega arith in
          let no : Item = record { key = []; opening = [] } in
          let q : get_or (map item_of versions) (suc j - 1) no ≡ item_of (at j) = ap (λ i. get_or (map item_of versions) i no) e ∙ get_or-map-at item_of versions no_record no j h in
          ap (λ x. sha256 (commitment_string x.opening x.key)) q

      module _ (c : Clear plan) where
        -- the epoch of the i-th path's leaf is the i-th version's
        epoch-is : (j : ℕ) → j < length versions → epoch_at chronicle (suc j) ≡ (at j).epoch
        unfolding epoch_at
        epoch-is j h =
            let (a, k) = version-asked (length versions) t j h in
            ap (λ x. epoch_of x.end) (get_or-map-at path_for plan (missing (in_all 0)) _ j k ∙ ap path_for a)
            ∙ ap epoch_of (shows-leaf plan c (in_all (suc j)) _ _ (leaf-at j h))

        rises-at : (j : ℕ) → j < length versions → epoch_at chronicle (suc j - 1) < (at j).epoch
        unfolding epoch_at at
        rises-at zero h = let (v, w, x) = at-version 0 h in omega arith
        rises-at (suc i) h =
            let e : suc (suc i) - 1 ≡ suc i = omega arith in
            omega (arith, ap (epoch_at chronicle) e, epoch-is i (omega arith), runs-rise 0 0 versions no_record run i h)

        each-meets : (a : Asked) → a ∈ plan → Only (length versions) a → meets lab name (history_terms chronicle) a (path_for a) ≡ true
        each-meets a m (a-version j h) =
            let rise : ltb (epoch_at chronicle (suc j - 1)) (at j).epoch ≡ true = lt-ltb _ _ (rises-at j h) in
            meets-present plan c (history_terms chronicle) (in_all (suc j)) (at j).epoch
            (subst (λ x. leaf (label_at lab name (in_all (suc j))) x (at j).epoch ∈ all_at lab t rs) (sym (commitment-is j h)) (leaf-at j h))
            (and_both rise (le-leb (at j).epoch t (at-version j h).2))
        each-meets a m (an-old i z h) =
            meets-present plan c (history_terms chronicle) (in_old i) (at i).epoch (old-at i z h) (eq-eqb _ _ (sym (epoch-is i h)))
        each-meets a m (a-marker j z h) =
            let p = pow_pos j in
            let (lo, hi) = log2-spec (length versions) z (omega (arith, few)) in
            let b : 2 ^ j ≤ length versions = omega (arith, pow_mono {i = j} {j = log2 (length versions)} h) in
            let e : suc (2 ^ j - 1) ≡ 2 ^ j = omega arith in
            meets-present plan c (history_terms chronicle) (as_marker j) (at (2 ^ j - 1)).epoch (marker-at j b)
            (eq-eqb _ _ (sym (ap (epoch_at chronicle) (sym e) ∙ epoch-is (2 ^ j - 1) (omega arith))))
        each-meets a m (not_there x g) = meets-missing plan c (history_terms chronicle) x m

        history-meets : All (λ a. meets lab name (history_terms chronicle) a (path_for a) ≡ true) plan
        history-meets = in-all _ plan (λ a m. each-meets a m (asked-only (length versions) t a m))

      -- "every .. history .. is accepted at its epoch's head, with the directory's own answer"
      pub history-complete : is_name name ≡ true → unclashed lab name t rs plan ≡ true
          → check_history lab (head_digest lab heads t rs) name (history_field.bytes chronicle) ≡ history_accepted (length versions) t (length (history_strings lab name chronicle))
      unfolding proof_tests
      history-complete e u =
          let c = clear plan u in
          let f = proof-fit 2 (λ n. n) history_asked chronicle (history-fits c) in
          let holds : Hold (proof_tests lab name (head_digest lab heads t rs) (history_terms chronicle) plan chronicle) =
          (same_refl (head_digest lab heads t rs), paths-hold plan c heads (history_terms chronicle) plan (history-meets c)) in
          history-accept lab (head_digest lab heads t rs) name (history_field.bytes chronicle) chronicle (parse-bytes history-lawful chronicle f) (input-holds e) holds
