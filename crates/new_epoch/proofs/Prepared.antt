-- The records that a batch becomes, one after the other. Assumes nothing.
use mathlib.Core.Path.{◌≡◌, refl, sym, ap, ap₂, ◌∙◌}
use mathlib.Core.Logic.{⊎_elim}
use mathlib.Core.Bool.{true, false}
use mathlib.Core.List.{List, [], ◌∷◌, ◌++◌, map, map-append, append-nil, append_assoc}
use Prim.Native.Nat.{ℕ, zero, suc, ◌+◌, ◌-◌, ◌*◌, ◌^◌, ◌≤◌, ◌<◌}
use native.Mathlib.Nat.{add-zero}
use native.Mathlib.Omega.{arith}
use lib.ListN.{length, take, drop, length-append}
use borrow.Author.Tests.{leb-true}
use Rattle.paper.specs.Lists.{every, up_from}
use Rattle.paper.specs.Numbers.{version_most, record_size, update_size}
use Rattle.paper.specs.Bytes.{Bytes, Bytewise, pasted}
use Rattle.paper.specs.Labelling.{plain}
use Rattle.paper.specs.Layout.{times_bytes, in_layout}
use Rattle.paper.specs.Table.{Record, record_field, update_field}
use Rattle.paper.specs.Publish.{new_record}
use Rattle.paper.proofs.Lists.{true-or-false, not-both, and_left, and_right, all_in, all_append, every-all, all-every, in_map}
use Rattle.paper.proofs.Kept.{record-length, times-append}
use Rattle.paper.proofs.Success.{record-new}
use Rattle.paper.proofs.Pasted.{pasted-none, pasted-front, pasted-pasted}
use Rattle.record.specs.Places.{records_in}
use Rattle.batch.specs.Places.{update_at, updates_in}
use Rattle.batch.proofs.Places.{updates-snoc, updates-in}
use Rattle.batch.proofs.Form.{update-told}
use Rattle.new_epoch.specs.Prepared.{record_over, new_records, numbered, while_numbered}
use Rattle.new_epoch.proofs.Made.{over-bytes}

-- ---- the records before the first one that has no version

pub while-all : (l : List Record) → every numbered l ≡ true → while_numbered l ≡ l
unfolding every while_numbered
while-all [] e = refl
while-all (q ∷ l) e = rw (and_left (numbered q) _ e) (ap (λ r. q ∷ r) (while-all l (and_right (numbered q) _ e)))

while-stop : (l : List Record) (q : Record) (m : List Record) → every numbered l ≡ true → numbered q ≡ false → while_numbered (l ++ (q ∷ m)) ≡ l
unfolding every while_numbered
while-stop [] q m e f = rw f
while-stop (p ∷ l) q m e f = rw (and_left (numbered p) _ e) (ap (λ r. p ∷ r) (while-stop l q m (and_right (numbered p) _ e) f))

module _ (records : Bytes) (count epoch : ℕ) (batch : Bytes) where
  -- the record that update i becomes
  abbrev pub made : ℕ → Record
  made i = new_record plain (records_in count records) epoch (update_at batch i)

  abbrev new : ℕ → List Record
  new i = new_records records count epoch batch i

  new-snoc : (i : ℕ) → new (suc i) ≡ new i ++ (made i ∷ [])
  new-snoc i = ap (map (new_record plain (records_in count records) epoch)) (updates-snoc i batch) ∙ map-append (new_record plain (records_in count records) epoch) (updates_in i batch) (update_at batch i ∷ [])

  -- the first i of them are laid over the start
  pub record Begun (i : ℕ) (before fresh : Bytes) : Type 0 where
    pub versions : every numbered (new i) ≡ true
    pub size : length (times_bytes record_field.bytes (new i)) ≡ i * record_size
    pub laid : fresh ≡ pasted before 0 (times_bytes record_field.bytes (new i))

  pub begun-none : (fresh : Bytes) → Begun 0 fresh fresh
  unfolding every times_bytes updates_in up_from
  begun-none fresh = record { versions = refl; size = refl; laid = sym (pasted-none fresh 0) }

  -- where all are, they stand first
  pub begun-front : (i : ℕ) (before fresh : Bytes) → Begun i before fresh → take (i * record_size) fresh ≡ times_bytes record_field.bytes (new i)
  begun-front i before fresh b =
      let x = times_bytes record_field.bytes (new i) in
      let k : i * record_size ≡ 0 + length x = omega (arith, b.size) in
      ap₂ take k b.laid ∙ pasted-front before 0 x (omega arith)

  -- one more
  module _ (w : Bytewise batch) (small : epoch < 2 ^ 32) (i : ℕ) (reach : suc i * update_size ≤ length batch) (formed : in_layout (update_field.read (drop (i * update_size) batch)) ≡ true) (version : numbered (made i) ≡ true) where
    fits : record_field.Fits (made i)
    fits = record-new plain (records_in count records) epoch (update_at batch i) (update-told batch i w reach formed).0 (leb-true (made i).version version_most version) small

    over : record_over (drop (i * update_size) batch) (made i).version epoch ≡ record_field.bytes (made i)
    over =
        let t = drop (i * update_size) batch in
        ap (λ u. record_over u (made i).version epoch) (sym (update-told batch i w reach formed).1)
        ∙ over-bytes (update_at batch i) (drop update_size t) (made i).version epoch (update-told batch i w reach formed).0

    more_bytes : times_bytes record_field.bytes (new (suc i)) ≡ times_bytes record_field.bytes (new i) ++ record_field.bytes (made i)
    unfolding times_bytes
    more_bytes = ap (times_bytes record_field.bytes) (new-snoc i) ∙ times-append (new i) (made i ∷ []) ∙ ap (λ x. times_bytes record_field.bytes (new i) ++ x) (append-nil (record_field.bytes (made i)))

    pub begun_more : (before fresh after : Bytes) → Begun i before fresh
        → after ≡ pasted fresh (i * record_size) (record_over (drop (i * update_size) batch) (made i).version epoch) → Begun (suc i) before after
    begun_more before fresh after b e =
        let x = times_bytes record_field.bytes (new i) in
        let q = record_field.bytes (made i) in
        let k : i * record_size ≡ 0 + length x = omega (arith, b.size) in
        record {
          versions = ap (every numbered) (new-snoc i) ∙ all-every numbered (new i ++ (made i ∷ [])) (all_append _ (new i) (made i ∷ []) (every-all numbered (new i) b.versions) (version, tt));
          size = ap length more_bytes ∙ omega (arith, length-append x q, b.size, record-length (made i) fits);
          laid = e ∙ ap₂ (λ s r. pasted s (i * record_size) r) b.laid over ∙ ap (λ m. pasted (pasted before 0 x) m q) k ∙ pasted-pasted before 0 x q (omega arith) ∙ ap (pasted before 0) (sym more_bytes);
        }

  -- a name at 1,023 stops them all
  pub begun-stop : (n i : ℕ) → i < n → numbered (made i) ≡ false → every numbered (new n) ≡ false
  begun-stop n i h e = ⊎_elim
      (λ t. not-both (all_in _ (new n) (every-all numbered (new n) t) (made i) (in_map (new_record plain (records_in count records) epoch) (updates_in n batch) (update_at batch i) (updates-in n batch i h))) e)
      (λ t. t)
      (true-or-false (every numbered (new n)))

  -- .. and those before it are laid
  new_split : (i k : ℕ) → (rest : List Record) × (new (suc (i + k)) ≡ new i ++ (made i ∷ rest))
  new_split i zero = rw (add-zero i) ([], new-snoc i)
  new_split i (suc k) =
      let (rest, e) = new_split i k in
      let j : suc (i + suc k) ≡ suc (suc (i + k)) = omega arith in
      let last = made (suc (i + k)) ∷ [] in
      (rest ++ last, ap new j ∙ new-snoc (suc (i + k)) ∙ ap (λ l. l ++ last) e ∙ append_assoc (new i) (made i ∷ rest) last)

  pub begun-laid : (n i : ℕ) → i < n → numbered (made i) ≡ false → every numbered (new i) ≡ true → while_numbered (new n) ≡ new i
  begun-laid n i h e v =
      let (rest, s) = new_split i (n - suc i) in
      let k : n ≡ suc (i + (n - suc i)) = omega arith in
      ap (λ m. while_numbered (new m)) k ∙ ap while_numbered s ∙ while-stop (new i) (made i) rest v e
