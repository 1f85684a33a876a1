-- "A lookup's version, epoch, key and opening depend only on that name's own records and the epoch asked". Assumes nothing.
use Rattle.std.specs.Prelude.{Ok, Err}
use mathlib.Core.Path.{◌≡◌, refl, sym, ap, ◌∙◌, subst}
use mathlib.Core.Logic.{inl, inr}
use mathlib.Core.Bool.{true, false≢true}
use mathlib.Core.List.{List, [], ◌∷◌}
use Prim.Native.Nat.{ℕ, zero, suc, ◌*◌, ◌^◌, ◌≤◌, ◌<◌}
use native.Mathlib.Omega.{arith}
use lib.ListN.{length, take}
use borrow.Author.Tests.{leb-true}
use Rattle.paper.specs.Lists.{All, ◌∈◌}
use Rattle.paper.specs.Numbers.{wide, record_size}
use Rattle.paper.specs.Bytes.{Bytes, Bytewise, same}
use Rattle.paper.specs.Bits.{Bits}
use Rattle.paper.specs.Labelling.{Labelling, Sized}
use Rattle.paper.specs.Path.{End, this, other, off, none, epoch_of}
use Rattle.paper.specs.Path as P
use Rattle.paper.specs.Layout.{got, bad, fixed, seq, times, view, parse}
use Rattle.paper.specs.Shows.{Asked, missing, in_all, meets}
use Rattle.paper.specs.Fields.{is_name}
use Rattle.paper.specs.Lookup.{lookup_asked, lookup_field}
use Rattle.paper.specs.Table.{Record, counted, head_lies, by_epoch, own_records, last_version}
use Rattle.paper.specs.Write.{Written, last_item, versions_by, paths_of, lookup_proof, write_lookup}
use Rattle.paper.specs.Private.{Said, first_epoch, said_by, last_says, proof_left, Says}
use Rattle.paper.specs.declared.State.{State}
use Rattle.paper.specs.Answer.{WriteAnswer, written}
use Rattle.paper.proofs.Lists.{all_in, in-all, all_take}
use Rattle.paper.proofs.Layouts.{times-lawful, parse-bytes, bytes-parse}
use Rattle.paper.proofs.Proofs.{lookup-lawful, record-lawful}
use Rattle.paper.proofs.Leaves.{RecordFits, record-fits, own_in, version-leaf}
use Rattle.paper.proofs.Records.{own-by-epoch}
use Rattle.paper.proofs.Complete.{Clear, clear, shows-leaf, meets-missing, lookup-in-layout}
use Rattle.paper.proofs.Standing.{epochs-few, previous-wide}
use Rattle.paper.proofs.Writers.{answered}

-- ---- the last of a name's records

last-version : (l : List Record) → (last_says l).version ≡ last_version l
unfolding last_says last_version
last-version [] = refl
last-version (r ∷ []) = refl
last-version (r ∷ q ∷ l) = last-version (q ∷ l)

last-items : (l : List Record) → (last_says l).items ≡ last_item l
unfolding last_says last_item
last-items [] = refl
last-items (r ∷ []) = refl
last-items (r ∷ q ∷ l) = last-items (q ∷ l)

-- the record itself
record Last (l : List Record) : Type 0 where
  it : Record
  mine : it ∈ l
  version : it.version ≡ last_version l
  epoch : it.epoch ≡ (last_says l).epoch

last : (r : Record) (l : List Record) → Last (r ∷ l)
unfolding last_says last_version
last r [] = record { it = r; mine = inl refl; version = refl; epoch = refl }
last r (q ∷ l) = let w = last q l in record { it = w.it; mine = inr w.mine; version = w.version; epoch = w.epoch }

none-version : last_version [] ≡ 0
unfolding last_version
none-version = refl

none-epoch : (last_says []).epoch ≡ 0
unfolding last_says
none-epoch = refl

-- an end that shows absence bears no epoch
absent_none : (L : Bits) (k : ℕ) (e : End) → P.absent L k e ≡ true → epoch_of e ≡ 0
unfolding P.absent
absent_none L k (this c e) h = absurd (false≢true h)
absent_none L k (other m c e) h = refl
absent_none L k (off p l r) h = refl
absent_none L k none h = refl

-- ---- the epoch that the first path shows is the record's own

module _ (lab : Labelling) (sized : Sized lab) (name : Bytes) (t : ℕ) (rs : List Record) (fits : All RecordFits rs) where
  abbrev mine : List Record
  mine = versions_by lab name t rs

  abbrev asked : List Asked
  asked = lookup_asked (last_version mine)

  module _ (free : Clear lab sized name t rs fits asked) where
    first_absent : (v : ℕ) → v ≡ 0 → last_version mine ≡ v → first_epoch (paths_of lab name t rs (lookup_asked v)) ≡ 0
    unfolding first_epoch meets
    first_absent zero e q =
        let m : missing (in_all 1) ∈ asked = rw q (inl refl) in
        absent_none _ _ _ (meets-missing lab sized name t rs fits asked free (record { commitment = λ _. []; epoch = λ _ _. true }) (in_all 1) m)
    first_absent (suc v) e q = absurd (omega arith)

    first-present : (r : Record) → r ∈ mine → (v : ℕ) → r.version ≡ v → 1 ≤ v → first_epoch (paths_of lab name t rs (lookup_asked v)) ≡ r.epoch
    unfolding first_epoch
    first-present r m zero e h = absurd (omega arith)
    first-present r m (suc v) e h =
        let there = version-leaf lab sized name t rs r m in
        ap epoch_of (shows-leaf lab sized name t rs fits asked free (in_all (suc v)) _ r.epoch (rw e at there))

    first-epoch : first_epoch (paths_of lab name t rs asked) ≡ (last_says mine).epoch
    first-epoch = by mine refl
      where
        by : (l : List Record) → mine ≡ l → first_epoch (paths_of lab name t rs asked) ≡ (last_says mine).epoch
        by [] e = first_absent (last_version mine) (ap last_version e ∙ none-version) refl ∙ sym (ap (λ l. (last_says l).epoch) e ∙ none-epoch)
        by (r ∷ l) e =
            let w = subst Last (sym e) (last r l) in
            let least = (all_in RecordFits rs fits w.it (own_in lab sized name t rs w.it w.mine)).least in
            first-present w.it w.mine (last_version mine) w.version (omega (arith, w.version)) ∙ w.epoch

    pub proof-says : (heads : Bytes) → said_by (lookup_proof lab name t rs heads) ≡ last_says (by_epoch t (own_records lab name rs))
    proof-says heads =
        let l = own-by-epoch lab name t rs in
        rw (first-epoch, ← (last-version mine), ← (last-items mine)) (ap last_says l)

-- ---- what the writer left

-- a proof that was left says one thing
pub says-one : (w : Written) (s s' : Said) → Says w s → Says w s' → s ≡ s'
says-one w s s' says says' = cc

none_left : parse lookup_field [] ≡ bad
unfolding view seq fixed same
none_left = refl

-- and a refusal says nothing
says-written : (w : Written) (x : Said) → Says w x → (n : ℕ) × (s : State) × (w.answer ≡ written n s)
says-written w x says = by w.answer refl
  where
    by : (a : WriteAnswer) → w.answer ≡ a → (n : ℕ) × (s : State) × (w.answer ≡ written n s)
    by (Ok a) e = (a.length, a.state, e)
    by (Err r) e =
        let q : proof_left w.answer w.out ≡ [] = ap (λ a. proof_left a w.out) e in
        let z : ◌≡◌ {A = ℕ} 0 1 = cc none_left in absurd (omega arith)

-- whatever else is in the tables, what the proof says is what the name's own records by the epoch say
module _ (lab : Labelling) (sized : Sized lab) (records heads : Bytes) (records-bytes : Bytewise records) (heads-bytes : Bytewise heads) (state : State) (out name : Bytes) (t : ℕ) where
  pub lookup-says : (rs : List Record) → counted records state.count ≡ got rs [] → (n : ℕ) (s : State) → (write_lookup lab records heads state out name t).answer ≡ written n s
      → Says (write_lookup lab records heads state out name t) (last_says (by_epoch t (own_records lab name rs)))
  unfolding counted times head_lies
  lookup-says rs read n s e =
      let f = (bytes-parse (times-lawful state.count record-lawful) (take (state.count * record_size) records) rs [] (all_take _ (state.count * record_size) records records-bytes) read).0.1 in
      let fits = in-all _ rs (λ r m. record-fits r (all_in _ rs f r m)) in
      let w = answered lab records heads state out (is_name name) t _ _ rs read n s e in
      let lies = leb-true (suc state.epoch * wide) (length heads) w.lies in
      let short : t < 2 ^ 32 = omega (arith, w.reached, epochs-few heads state.epoch lies w.heads-within) in
      let p = lookup_proof lab name t rs heads in
      let layout = lookup-in-layout lab sized name t rs fits state.epoch w.shape heads short (previous-wide heads state.epoch lies heads-bytes t w.reached) w.unclashed in
      let left : proof_left (write_lookup lab records heads state out name t).answer (write_lookup lab records heads state out name t).out ≡ lookup_field.bytes p =
      ap (λ a. proof_left a (write_lookup lab records heads state out name t).out) e ∙ w.bytes in
      let found : parse lookup_field (lookup_field.bytes p) ≡ got p [] = parse-bytes lookup-lawful p layout in
      record { proof = p; read = cc; said = proof-says lab sized name t rs fits (clear lab sized name t rs fits _ w.unclashed) heads }

-- "depend only on that name's own records and the epoch asked": where two tables agree on these, whatever the one lookup proof says the other says
module _ (lab : Labelling) (sized : Sized lab) (records heads records' heads' : Bytes) (b : Bytewise records) (h : Bytewise heads) (b' : Bytewise records') (h' : Bytewise heads')
    (state state' : State) (out out' name : Bytes) (t : ℕ) where
  pub lookup-private : (rs rs' : List Record) → counted records state.count ≡ got rs [] → counted records' state'.count ≡ got rs' [] → own_records lab name rs ≡ own_records lab name rs'
      → (x y : Said) → Says (write_lookup lab records heads state out name t) x → Says (write_lookup lab records' heads' state' out' name t) y → x ≡ y
  lookup-private rs rs' read read' own x y says says' =
      let (n, s, e) = says-written _ x says in
      let (n', s', e') = says-written _ y says' in
      says-one _ x _ says (lookup-says lab sized records heads b h state out name t rs read n s e)
      ∙ ap (λ l. last_says (by_epoch t l)) own
      ∙ says-one _ _ y (lookup-says lab sized records' heads' b' h' state' out' name t rs' read' n' s' e') says'
