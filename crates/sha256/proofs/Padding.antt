-- The padding as the code makes it, on plain lists. Assumes nothing.
use mathlib.Core.Path.{◌≡◌, refl, sym, ap, ◌∙◌}
use mathlib.Core.List.{List, ◌∷◌, ◌++◌, append_assoc}
use Prim.Native.Nat.{ℕ, zero, suc, ◌+◌, ◌-◌, ◌*◌, ◌/◌, ◌%◌, ◌^◌, ◌≤◌, ◌<◌}
use native.Mathlib.Omega.{arith}
use lib.ListN.{length, take, drop, set, replicate, length-append, length-drop, length-replicate, replicate-append-replicate}
use lib.Pow.{field, mod-pow-add}
use borrow.Rule.Slice.PartMut.{put_mid}
use lib.Seq.{set-append_seam, take_all, take_at, drop_at, drop-drop, take-append-le, drop-append-le}
use Rattle.fips.specs.declared.State.{State}
use Rattle.fips.specs.Sha256.{compress, hash, H0, zeros, be64, pad, digest, sha256}
use Rattle.sha256.specs.Ending.{ending}
use Rattle.sha256.proofs.Turns.{hash-step, hash-none}

-- ---- the last blocks

abbrev blank : ℕ → List ℕ
blank n = replicate n 0

length-be64 : (n : ℕ) → length (be64 n) ≡ 8
unfolding be64
length-be64 n = refl

-- the bytes m, the mark and the length n, as b, stored in k zeros so that the length ends at e
module _ (m : List ℕ) (n k e w : ℕ) (d₁ d₂ b : List ℕ) (short : length m < 64) (size : k ≡ 128) (end : e ≡ (length m + 8) / 64 * 64 + 64)
    (first : d₁ ≡ m ++ drop (length m) (blank k)) (bytes : b ≡ be64 n) (second : d₂ ≡ put_mid (e - 8) w (set d₁ (length m) 0x80) b) where
  -- the bytes, the mark and the zeros, and what the length leaves behind it
  abbrev front : List ℕ
  front = m ++ (0x80 ∷ blank (zeros (length m)))

  abbrev after : List ℕ
  after = blank (136 - e)

  marked : set d₁ (length m) 0x80 ≡ front ++ after
  unfolding zeros
  marked =
      let z : ℕ = zeros (length m) in
      let c : k ≡ length m + suc (z + (136 - e)) = omega arith in
      let split : blank k ≡ blank (length m) ++ (0 ∷ (blank z ++ after)) =
      rw (c, ← replicate-append-replicate, ← replicate-append-replicate) in
      let l : length (blank (length m)) ≡ length m = length-replicate (length m) 0 in
      rw (first, split, drop_at (blank (length m)) (0 ∷ (blank z ++ after)) (length m) l)
      (set-append_seam m 0 (blank z ++ after) 0x80 ∙ sym (append_assoc m (0x80 ∷ blank z) after))

  -- the code takes the first j bytes of it
  pub made : (s r : State) (j : ℕ) → j ≡ e → r ≡ hash s (take j d₂) → r ≡ hash s (ending m n)
  unfolding ending zeros
  made s r j i q =
      let lb : length (be64 n) ≡ 8 = length-be64 n in
      let lf : length front ≡ e - 8 = simp (length-append, length-replicate) (omega arith) in
      let le : length (front ++ be64 n) ≡ e = simp (length-append, length-replicate) (omega arith) in
      rw (q, i, second, bytes, marked, take_at front after (e - 8) lf)
      (ap (λ d. hash s (take e d)) (sym (append_assoc front (be64 n) (drop w (drop (e - 8) (front ++ after)))))
      ∙ ap (hash s)
      (take_at (front ++ be64 n) (drop w (drop (e - 8) (front ++ after))) e le
      ∙ append_assoc m (0x80 ∷ blank (zeros (length m))) (be64 n)))

-- ---- the length in bits

-- a byte of a word of 64 bits does not see what is above the word
wrap : (n j k : ℕ) → n % 2 ^ (j + 8 + k) / 2 ^ k % 256 ≡ n / 2 ^ k % 256
wrap n j k = rw (field n (j + 8) k, mod-pow-add (n / 2 ^ k) j 8) (omega arith)

wrapped : (n : ℕ) → be64 (n % 2 ^ 64) ≡ be64 n
unfolding be64
wrapped n =
    let low : n % 2 ^ 64 % 256 ≡ n % 256 = omega arith in
    cc (wrap n 0 56, wrap n 8 48, wrap n 16 40, wrap n 24 32, wrap n 32 24, wrap n 40 16, wrap n 48 8, low)

-- the code's count of bits wraps, as the definition's bytes do
bits : (k : ℕ) → be64 (k * 2 ^ 3 % 2 ^ 64) ≡ be64 (8 * k)
bits k =
    let e : k * 2 ^ 3 ≡ 8 * k = omega arith in
    wrapped (k * 2 ^ 3) ∙ ap be64 e

-- ---- the whole message

-- the whole blocks of q come first, then what is left of q, with r
hash-append : (n : ℕ) (s : State) (q r : List ℕ) → length q / 64 ≡ n → hash s (q ++ r) ≡ hash (hash s q) (drop (n * 64) q ++ r)
hash-append zero s q r e = rw (hash-none s q (omega arith))
hash-append (suc n) s q r e =
    let l : 64 ≤ length q = omega arith in
    let g : 64 ≤ length (q ++ r) = simp length-append (omega arith) in
    let f : length (drop 64 q) / 64 ≡ n = simp length-drop (omega arith) in
    let k : suc n * 64 ≡ 64 + n * 64 = omega arith in
    rw (hash-step s (q ++ r) g, hash-step s q l, take-append-le 64 q r l, drop-append-le 64 q r l, k, ← drop-drop)
    (hash-append n (compress s (take 64 q)) (drop 64 q) r f)

zeros-left : (n : ℕ) → zeros (n - n / 64 * 64) ≡ zeros n
unfolding zeros
zeros-left n = omega arith

-- the whole blocks of the message first, then its end, of which the code takes the k bytes after those
pub whole : (m : List ℕ) (k : ℕ) (s r : State) → k ≡ length m - length m / 64 * 64 → s ≡ hash H0 m
    → r ≡ hash s (ending (take k (drop (length m / 64 * 64) m)) (length m * 2 ^ 3 % 2 ^ 64)) → digest r ≡ sha256 m
unfolding ending pad sha256
whole m k s r e f g =
    let q : List ℕ = drop (length m / 64 * 64) m in
    let l : length q ≤ k = simp length-drop (omega arith) in
    rw (g, f, take_all k q l, bits (length m), length-drop, zeros-left) (ap digest (sym (hash-append (length m / 64) H0 m _ refl)))
