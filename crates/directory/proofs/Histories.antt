-- Histories from what publishing left: accepted at the epoch's head, telling each of the name's records: version, key, opening and epoch.
-- Assumes nothing.
use mathlib.Core.Path.{◌≡◌, refl, sym, ap, ◌∙◌, subst}
use mathlib.Core.Logic.{◌⊎◌, inl, inr, ⊎_elim}
use mathlib.Core.Bool.{true}
use mathlib.Core.List.{List, [], ◌∷◌, map}
use Prim.Native.Nat.{ℕ, suc, ◌+◌, ◌-◌, ◌<◌, ◌≤◌}
use native.Mathlib.Omega.{arith}
use lib.ListN.{length, take, get_or, length-map}
use Rattle.fips.specs.Sha256.{sha256}
use Rattle.paper.specs.Lists.{◌∈◌, All, up_from}
use Rattle.paper.specs.Bytes.{Bytes, pasted}
use Rattle.paper.specs.Strings.{leaf, commitment_string}
use Rattle.paper.specs.Labelling.{Labelling, Sized, Telling}
use Rattle.paper.specs.Layout.{got, parse}
use Rattle.paper.specs.Path.{Path, way, epoch_of}
use Rattle.paper.specs.Tree.{root}
use Rattle.paper.specs.Fields.{is_name}
use Rattle.paper.specs.Shows.{in_all, Asked, missing, item_field, Proof, label_at, epoch_at}
use Rattle.paper.specs.History.{history_asked, history_field, history_strings, check_history}
use Rattle.paper.specs.Table.{Record, head_at, all_at}
use Rattle.paper.specs.Write.{Wrote, item_of, versions_by, leaves_at, unclashed, history_proof, write_history}
use Rattle.paper.specs.Left.{Left}
use Rattle.paper.specs.Answer.{reply, history_reply}
use Rattle.paper.specs.Arrow.{told_at, told_by, told, Collision}
use Rattle.paper.specs.Standing.{Standing, RecordFits}
use Rattle.paper.specs.declared.State.{State}
use Rattle.paper.proofs.Lists.{all_in, in-all, and_both, all_get_d, get_or-map-at}
use Rattle.paper.proofs.Asked.{version-asked, asked-only}
use Rattle.paper.proofs.Layouts.{parse-bytes}
use Rattle.paper.proofs.Proofs.{history-lawful}
use Rattle.paper.proofs.Fits.{digest-wide, ProofFits}
use Rattle.paper.proofs.Fit.{head-fit, item-fit, proof-fit}
use Rattle.paper.proofs.Records.{versions-run, runs-at}
use Rattle.paper.proofs.Leaves.{own_in, version-leaf}
use Rattle.paper.proofs.Complete.{Clear, clear, shows-leaf, paths-fit}
use Rattle.paper.proofs.Writers.{answered}
use Rattle.paper.proofs.Demand2.{history-answered}
use Rattle.directory.specs.Own.{directory, tells, own_history, history_answer}
use Rattle.directory.specs.Clash.{label_strings}
use Rattle.directory.proofs.Standing.{left-stands}
use Rattle.directory.proofs.Writers.{answers}
use Rattle.directory.proofs.Clashes.{few, gone-or-collide}
use Rattle.paper.specs.Answer as W

-- two lists by their elements: one counted from a on, the other as it stands
map-up : {B : Type 0} (f : ℕ → B) (g : Record → B) (d : Record) (a : ℕ) (l : List Record) → ((j : ℕ) → j < length l → f (a + j) ≡ g (get_or l j d)) → map f (up_from a (length l)) ≡ map g l
unfolding up_from
map-up f g d a [] h = refl
map-up f g d a (r ∷ l) h =
    let first : f a ≡ g r = ap f (omega arith) ∙ h 0 (omega arith) in
    let rest = map-up f g d (suc a) l (λ j k. ap f (omega arith) ∙ h (suc j) (omega arith)) in
    λ i. first i ∷ rest i

module _ (lab : Labelling) (sized : Sized lab) {records heads : Bytes} {state : State} (left : Left lab records heads state) (name : Bytes) (t : ℕ) where
  abbrev rs : List Record
  rs = directory records state

  abbrev mine : List Record
  mine = versions_by lab name t rs

  abbrev plan : List Asked
  plan = history_asked (length mine) t

  abbrev proof : Proof
  proof = history_proof lab name t rs heads

  stands : Standing lab records heads state rs
  stands = left-stands lab left

  -- ---- accepted

  accepted : t ≤ state.epoch → is_name name ≡ true → unclashed lab name t rs plan ≡ true → check_history lab (head_at heads t) name (history_field.bytes proof) ≡ history_answer lab name t rs heads
  unfolding own_history
  accepted k n u =
      history-answered lab sized stands name t k n u ∙ ap (λ v. W.history_accepted v t (length (history_strings lab name proof))) (sym (length-map mine tells))

  -- ---- what it tells

  no_record : Record
  no_record = record { name = []; version = 0; epoch = 0; key = []; opening = [] }

  -- the record of version j + 1
  abbrev at : ℕ → Record
  at j = get_or mine j no_record

  at-fits : (j : ℕ) → j < length mine → RecordFits (at j)
  at-fits j h = all_get_d RecordFits mine no_record (in-all _ mine (λ r m. all_in RecordFits rs stands.fits r (own_in lab sized name t rs r m))) j h

  at-version : (j : ℕ) → j < length mine → (at j).version ≡ suc j
  at-version j h = omega (arith, (runs-at 0 0 mine no_record (omega arith) (versions-run lab name state.epoch t rs stands.shape) j h).0)

  item-at : (j : ℕ) → j < length mine → get_or (map item_of mine) (suc j - 1) (record { key = []; opening = [] }) ≡ item_of (at j)
  item-at j h =
      let e : suc j - 1 ≡ j = omega arith in
      ap (λ i. get_or (map item_of mine) i (record { key = []; opening = [] })) e ∙ get_or-map-at item_of mine no_record (record { key = []; opening = [] }) j h

  module _ (k : t ≤ state.epoch) (free : Clear lab sized name t rs stands.fits plan) where
    proof-fits : ProofFits (λ n. n) history_asked proof
    proof-fits = record {
      head = head-fit _ (omega (arith, stands.epochs)) (stands.previous t k) (digest-wide _) (digest-wide _);
      small = few lab name t state.epoch rs stands.fits stands.shape;
      keyed = length-map mine item_of;
      items = items mine (in-all _ mine (λ r m. all_in RecordFits rs stands.fits r (own_in lab sized name t rs r m)));
      counted = length-map plan _;
      paths = paths-fit lab sized name t rs stands.fits plan free plan;
    }
      where
        items : (l : List Record) → All RecordFits l → All item_field.Fits (map item_of l)
        items [] h = tt
        items (r ∷ l) h = (item-fit _ h.0.item, items l h.1)

    -- it is read back as it was
    read : parse history_field (history_field.bytes proof) ≡ got proof []
    read = parse-bytes history-lawful proof (proof-fit 2 (λ n. n) history_asked proof proof-fits)

    -- the leaf of the i-th path bears the i-th record's epoch
    epoch-at : (j : ℕ) → j < length mine → epoch_at proof (suc j) ≡ (at j).epoch
    unfolding epoch_at
    epoch-at j h =
        let (a, l) = version-asked (length mine) t j h in
        let m = all_get_d (λ r. r ∈ mine) mine no_record (in-all _ mine (λ r m. m)) j h in
        let path_for : Asked → Path = λ a. way (label_at lab name a.place) (root (leaves_at lab name t rs a.place)) in
        let there = subst (λ v. leaf (label_at lab name (in_all v)) (sha256 (commitment_string (at j).opening (at j).key)) (at j).epoch ∈ all_at lab t rs) (at-version j h) (version-leaf lab sized name t rs (at j) m) in
        ap (λ x. epoch_of x.end) (get_or-map-at path_for plan (missing (in_all 0)) _ j l ∙ ap path_for a)
        ∙ ap epoch_of (shows-leaf lab sized name t rs stands.fits plan free (in_all (suc j)) _ _ there)

    told-at : (j : ℕ) → j < length mine → told_at proof (1 + j) ≡ tells (at j)
    told-at j h =
        let e : 1 + j ≡ suc j = omega arith in
        let v = sym (at-version j h) in
        let i = item-at j h in
        let d = epoch-at j h in
        ap (told_at proof) e ∙ (λ x. record { version = v x; key = (i x).key; opening = (i x).opening; epoch = d x })

    tells-own : told (history_field.bytes proof) ≡ own_history lab name t rs
    unfolding told own_history
    tells-own = ap told_by read ∙ map-up (told_at proof) tells no_record 1 mine told-at

  module _ (out : Bytes) where
    -- ---- what the writer wrote

    module _ (n : ℕ) (s : State) (written : (write_history lab records heads state out name t).answer ≡ W.written n s) where
      pub history-wrote : Wrote lab records heads state out (is_name name) t (λ rs. unclashed lab name t rs (history_asked (length (versions_by lab name t rs)) t)) (λ rs. history_field.bytes (history_proof lab name t rs heads)) rs n
      history-wrote = answered lab records heads state out (is_name name) t _ _ rs stands.read n s written

      -- the answer is the directory's own
      pub history-is : check_history lab (head_at heads t) name (take n (write_history lab records heads state out name t).out) ≡ history_answer lab name t rs heads
      history-is = let w = history-wrote in ap (check_history lab (head_at heads t) name) w.bytes ∙ accepted w.reached w.input-good w.unclashed

      -- "every .. history .. is accepted at its epoch's head, with the directory's own answer": number 0, how many versions, the epoch and the count
      pub history-kept : history_reply (check_history lab (head_at heads t) name (take n (write_history lab records heads state out name t).out))
          ≡ reply 0 (length (own_history lab name t rs) ∷ t ∷ length (history_strings lab name proof) ∷ [])
      history-kept = ap history_reply history-is

      -- and it tells just the name's own records by then
      pub history-tells : told (take n (write_history lab records heads state out name t).out) ≡ own_history lab name t rs
      history-tells = let w = history-wrote in ap told w.bytes ∙ tells-own w.reached (clear lab sized name t rs stands.fits plan w.unclashed)

    -- ---- and the writer does answer

    -- for a name, at an epoch that is reached, with room; or two different label strings have one digest
    pub history-answers : Telling lab → is_name name ≡ true → t ≤ state.epoch → length (history_field.bytes proof) ≤ length out
        → (write_history lab records heads state out name t ≡ record { answer = W.written (length (history_field.bytes proof)) state; out = pasted out 0 (history_field.bytes proof) })
        ⊎ Collision (label_strings lab name t rs plan)
    history-answers told i k n = ⊎_elim
        (λ c. inl (answers lab records heads state rs out (is_name name) t _ _ stands i k (and_both (stands.all-distinct t k) (and_both (stands.old-distinct t k) c)) n)) inr
        (gone-or-collide lab name t state.epoch rs stands.fits stands.shape told plan (asked-only (length mine) t))
