-- Lookups from what publishing left: accepted at the epoch's head, with the directory's own version and key. Assumes nothing.
use mathlib.Core.Path.{◌≡◌, refl, sym, ap, ◌∙◌, subst}
use mathlib.Core.Logic.{◌⊎◌, inl, inr, ⊎_elim}
use mathlib.Core.Bool.{true}
use mathlib.Core.List.{List, [], ◌∷◌, map}
use Prim.Native.Nat.{ℕ, zero, suc, ◌≤◌}
use native.Mathlib.Omega.{arith}
use lib.ListN.{length, take}
use Rattle.paper.specs.Lists.{◌∈◌}
use Rattle.paper.specs.Bytes.{Bytes, pasted}
use Rattle.paper.specs.Labelling.{Labelling, Sized, Telling}
use Rattle.paper.specs.Fields.{is_name}
use Rattle.paper.specs.Shows.{Asked, Proof}
use Rattle.paper.specs.Lookup.{lookup_asked, lookup_field, lookup_strings, lookup_gives, check_lookup, accepted_key}
use Rattle.paper.specs.Table.{Record, head_at, last_version}
use Rattle.paper.specs.Write.{Wrote, item_of, last_item, versions_by, unclashed, lookup_proof, write_lookup}
use Rattle.paper.specs.Left.{Left}
use Rattle.paper.specs.Answer.{reply, lookup_reply}
use Rattle.paper.specs.Arrow.{last_told, Collision}
use Rattle.paper.specs.Standing.{Standing, RecordFits}
use Rattle.paper.specs.Strings.{HeadSized}
use Rattle.paper.specs.declared.State.{State}
use Rattle.paper.proofs.Lists.{all_in, and_both}
use Rattle.paper.proofs.Fits.{head-fits, digest-wide}
use Rattle.paper.proofs.Accepted.{gives-reply}
use Rattle.paper.proofs.Asked.{Only, lookup-only}
use Rattle.paper.proofs.Records.{versions-run, run-count}
use Rattle.paper.proofs.Fit.{head-fit}
use Rattle.paper.proofs.Leaves.{own_in}
use Rattle.paper.proofs.Writers.{answered}
use Rattle.paper.proofs.Demand2.{lookup-answered}
use Rattle.paper.proofs.KeyPart.{key-accepted}
use Rattle.directory.specs.Own.{directory, tells, own_history, own_lookup, lookup_answer}
use Rattle.directory.specs.Clash.{label_strings}
use Rattle.directory.proofs.Standing.{left-stands}
use Rattle.directory.proofs.Writers.{answers}
use Rattle.directory.proofs.Clashes.{gone-or-collide}
use Rattle.paper.specs.Answer as W

-- ---- the last of a name's records

record Last (l : List Record) : Type 0 where
  it : Record
  mine : it ∈ l
  told : last_told (map tells l) ≡ tells it
  version : last_version l ≡ it.version
  item : last_item l ≡ item_of it ∷ []

last : (r : Record) (l : List Record) → Last (r ∷ l)
unfolding last_told last_version last_item
last r [] = record { it = r; mine = inl refl; told = refl; version = refl; item = refl }
last r (q ∷ l) =
    let w = last q l in
    record { it = w.it; mine = inr w.mine; told = w.told; version = w.version; item = w.item }

last-version : (l : List Record) → last_version l ≡ (last_told (map tells l)).version
unfolding last_told last_version
last-version [] = refl
last-version (r ∷ l) = let w = last r l in w.version ∙ sym (ap (λ v. v.version) w.told)

module _ (lab : Labelling) (sized : Sized lab) {records heads : Bytes} {state : State} (left : Left lab records heads state) (name : Bytes) (t : ℕ) where
  abbrev rs : List Record
  rs = directory records state

  abbrev mine : List Record
  mine = versions_by lab name t rs

  abbrev asked : List Asked
  asked = lookup_asked (last_version mine)

  abbrev proof : Proof
  proof = lookup_proof lab name t rs heads

  stands : Standing lab records heads state rs
  stands = left-stands lab left

  -- ---- accepted

  accepted : t ≤ state.epoch → is_name name ≡ true → unclashed lab name t rs asked ≡ true → check_lookup lab (head_at heads t) name (lookup_field.bytes proof) ≡ lookup_answer lab name t rs heads
  unfolding own_lookup own_history
  accepted k n u =
      lookup-answered lab sized stands name t k n u ∙ ap (λ v. lookup_gives lab name v t (length (lookup_strings lab name proof))) (last-version mine)

  head-sized : t ≤ state.epoch → HeadSized proof.head
  head-sized k = head-fits _ (head-fit _ (omega (arith, stands.epochs)) (stands.previous t k) (digest-wide _) (digest-wide _))

  -- the key of the last record, or the empty one
  key-is : t ≤ state.epoch → accepted_key (lookup_answer lab name t rs heads) (lookup_field.bytes proof) ≡ (own_lookup lab name t rs).key
  unfolding own_lookup own_history last_told
  key-is k = by mine refl
    where
      digests : ℕ
      digests = length (lookup_strings lab name proof)

      found : (v : ℕ) → 1 ≤ v → (r : Record) → RecordFits r → last_item mine ≡ item_of r ∷ [] → accepted_key (lookup_gives lab name v t digests) (lookup_field.bytes proof) ≡ r.key
      found zero h r f e = absurd (omega arith)
      found (suc v) h r f e = key-accepted proof (item_of r) [] (head-sized k) f.item.most e (suc v) t digests

      by : (l : List Record) → mine ≡ l → accepted_key (lookup_gives lab name (last_told (map tells l)).version t digests) (lookup_field.bytes proof) ≡ (last_told (map tells l)).key
      by [] e = refl
      by (r ∷ l) e =
          let w = last r l in
          let f = all_in RecordFits rs stands.fits w.it (own_in lab sized name t rs w.it (subst (λ m. w.it ∈ m) (sym e) w.mine)) in
          rw w.told (found w.it.version f.least w.it f (ap last_item e ∙ w.item))

  module _ (out : Bytes) where
    -- ---- what the writer wrote

    module _ (n : ℕ) (s : State) (written : (write_lookup lab records heads state out name t).answer ≡ W.written n s) where
      pub lookup-wrote : Wrote lab records heads state out (is_name name) t (λ rs. unclashed lab name t rs (lookup_asked (last_version (versions_by lab name t rs)))) (λ rs. lookup_field.bytes (lookup_proof lab name t rs heads)) rs n
      lookup-wrote = answered lab records heads state out (is_name name) t _ _ rs stands.read n s written

      -- the answer is the directory's own
      pub lookup-is : check_lookup lab (head_at heads t) name (take n (write_lookup lab records heads state out name t).out) ≡ lookup_answer lab name t rs heads
      lookup-is = let w = lookup-wrote in ap (check_lookup lab (head_at heads t) name) w.bytes ∙ accepted w.reached w.input-good w.unclashed

      -- "every lookup .. written from tables and state that publishing left is accepted at its epoch's head, with the directory's own answer":
      -- number 0, the version, the epoch and the count
      pub lookup-kept : lookup_reply (check_lookup lab (head_at heads t) name (take n (write_lookup lab records heads state out name t).out))
          ≡ reply 0 ((own_lookup lab name t rs).version ∷ t ∷ length (lookup_strings lab name proof) ∷ [])
      lookup-kept = ap lookup_reply lookup-is ∙ gives-reply lab name (own_lookup lab name t rs).version t (length (lookup_strings lab name proof))

      pub key-kept : accepted_key (lookup_answer lab name t rs heads) (take n (write_lookup lab records heads state out name t).out) ≡ (own_lookup lab name t rs).key
      key-kept = let w = lookup-wrote in ap (accepted_key (lookup_answer lab name t rs heads)) w.bytes ∙ key-is w.reached

    -- ---- and the writer does answer

    -- for a name, at an epoch that is reached, with room; or two different label strings have one digest
    pub lookup-answers : Telling lab → is_name name ≡ true → t ≤ state.epoch → length (lookup_field.bytes proof) ≤ length out
        → (write_lookup lab records heads state out name t ≡ record { answer = W.written (length (lookup_field.bytes proof)) state; out = pasted out 0 (lookup_field.bytes proof) })
        ⊎ Collision (label_strings lab name t rs asked)
    lookup-answers told i k n = ⊎_elim
        (λ c. inl (answers lab records heads state rs out (is_name name) t _ _ stands i k (and_both (stands.all-distinct t k) (and_both (stands.old-distinct t k) c)) n)) inr
        (gone-or-collide lab name t state.epoch rs stands.fits stands.shape told asked only)
      where
        count : last_version mine ≡ length mine
        count = run-count mine (versions-run lab name state.epoch t rs stands.shape)

        only : (a : Asked) → a ∈ asked → Only (length mine) a
        only a m = subst (λ n. Only n a) count (lookup-only (last_version mine) a m)
