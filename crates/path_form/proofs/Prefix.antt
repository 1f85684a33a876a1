-- "bits past the length zero": the prefix at a place, as it is read and tested. Assumes nothing.
use mathlib.Core.Path.{◌≡◌, ap, ◌∙◌}
use mathlib.Core.Logic.{◌⊎◌}
use mathlib.Core.Bool.{false}
use Prim.Native.Nat.{ℕ, ◌+◌, ◌≤◌, ◌<◌}
use native.Mathlib.Omega.{arith}
use lib.ListN.{length, take, drop}
use lib.Seq.{drop-drop}
use Rattle.paper.specs.Bytes.{Bytes, Bytewise, number, same}
use Rattle.paper.specs.Bits.{bits_of, pack}
use Rattle.paper.proofs.Lists.{all_take, all_drop}
use Rattle.ranges.proofs.Slices.{length_part}
use Rattle.path_form.specs.Places.{prefix_good}
use Rattle.fields.proofs.Flat.{inside, outside}
use Rattle.fields.proofs.Prefix.{zero_bits}

module _ (s : Bytes) (at n : ℕ) (count : n ≡ number (take 2 (drop at s))) where
  pub prefix-long : (n < 1) ⊎ (255 < n) → prefix_good (drop at s) ≡ false
  unfolding prefix_good
  prefix-long h = rw (← count, outside 1 255 n h)

  pub prefix-tested : (x cut : Bytes) → Bytewise s → at + 34 ≤ length s → 1 ≤ n → n ≤ 255
      → x ≡ take 32 (drop (at + 2) s) → cut ≡ pack 32 (take n (bits_of x)) → prefix_good (drop at s) ≡ same cut x
  unfolding prefix_good
  prefix-tested x cut w h low high ex ec =
      let l : length x ≡ 32 = ap length ex ∙ length_part s (at + 2) 32 (omega arith) in
      let b : Bytewise x = rw ex (all_take _ 32 (drop (at + 2) s) (all_drop _ (at + 2) s w)) in
      rw (← count, drop-drop 2 at s, ← ex, inside 1 255 n low high, ec) (rw l at (zero_bits x n b (omega arith)))
