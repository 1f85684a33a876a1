-- The tests of an audit in parts: what a part's verdict says of the whole, and the digests that a list takes. Assumes nothing.
use mathlib.Core.Path.{◌≡◌, refl, sym, ap, ◌∙◌}
use mathlib.Core.Logic.{⊎_elim}
use mathlib.Core.Bool.{true, false, cond, and-false}
use mathlib.Core.List.{List, [], ◌∷◌, ◌++◌, map}
use Prim.Native.Nat.{ℕ, suc, ◌+◌, ◌*◌, ◌≤◌}
use native.Mathlib.Omega.{arith}
use lib.ListN.{length, take, drop, length-append, length-map}
use borrow.Author.Tests.{eq-eqb, ne_eqb}
use Rattle.fips.specs.Sha256.{sha256}
use Rattle.paper.specs.Numbers.{wide, INPUT, HEAD, RULE}
use Rattle.paper.specs.Bytes.{Bytes, number, same}
use Rattle.paper.specs.Strings.{node_string, head_string}
use Rattle.paper.specs.Tree.{nodes, root}
use Rattle.paper.specs.Layout.{got, parse}
use Rattle.paper.specs.Verdict.{Test, verdict}
use Rattle.paper.specs.Audit.{AuditRecord, Audit, in_order, olds, news, list_tests, audit_tests, list_strings, audit_strings, audit_field, audit_read, check_audit}
use Rattle.paper.specs.Answer.{AuditAnswer, audit_accepted}
use Rattle.paper.specs.declared.Refusal.{Refusal}
use Rattle.paper.specs.declared.Which.{Which}
use Rattle.paper.specs.declared.Which.TheVariants.{OfAll, OfOld}
use Rattle.std.specs.Prelude.{Result, Ok, Err}
use Rattle.paper.proofs.Verdicts.{Hold, verdict-cases, verdict-all, verdict-first}
use Rattle.paper.proofs.Lists.{and_left, and_both}
use Rattle.fields.specs.Head.{head_at}
use Rattle.audit_form.specs.Places.{records_at, count_at, behind_at, audit_at, Listed}
use Rattle.audit_root.proofs.Step.{root-few}
use Rattle.audit.specs.Tests.{checked, head_tests, tests_at, digests_at, old_answer, lists_answer}

-- tests behind tests
verdict-append : {A : Type 0} (refuse : Refusal → A) (answer : A) (ts us : List Test) → verdict refuse answer (ts ++ us) ≡ verdict refuse (verdict refuse answer us) ts
unfolding verdict
verdict-append refuse answer [] us = refl
verdict-append refuse answer (t ∷ ts) us = ap (λ v. cond t.holds v (refuse t.refusal)) (verdict-append refuse answer ts us)

-- three tests: the first that fails gives its number
module _ {A : Type 0} (refuse : Refusal → A) (answer : A) (t u v : Test) where
  pub first-fails : t.holds ≡ false → verdict refuse answer (t ∷ u ∷ v ∷ []) ≡ refuse t.refusal
  unfolding verdict
  first-fails e = rw e

  pub second-fails : t.holds ≡ true → u.holds ≡ false → verdict refuse answer (t ∷ u ∷ v ∷ []) ≡ refuse u.refusal
  unfolding verdict
  second-fails e f = rw (e, f)

  pub third-fails : t.holds ≡ true → u.holds ≡ true → v.holds ≡ false → verdict refuse answer (t ∷ u ∷ v ∷ []) ≡ refuse v.refusal
  unfolding verdict
  third-fails e f g = rw (e, f, g)

  pub none-fails : t.holds ≡ true → u.holds ≡ true → v.holds ≡ true → verdict refuse answer (t ∷ u ∷ v ∷ []) ≡ answer
  unfolding verdict
  none-fails e f g = rw (e, f, g)

-- a part that passed holds, whatever is to be answered; one that is refused gives its number
pub passed : (c k : ℕ) (ts : List Test) → checked c ts ≡ Ok k → (k ≡ c) × Hold ts
passed c k ts e = ⊎_elim
    (λ (h, q). let z : k ≡ c = cc in (z, h))
    (λ (n, f, q). let z : ◌≡◌ {A = ℕ} 0 1 = cc in absurd (omega arith))
    (verdict-cases Err (Ok c) ts)

pub refused : {A : Type 0} (refuse : Refusal → A) (answer : A) (c : ℕ) (r : Refusal) (ts : List Test) → checked c ts ≡ Err r → verdict refuse answer ts ≡ refuse r
refused refuse answer c r ts e = ⊎_elim
    (λ (h, q). let z : ◌≡◌ {A = ℕ} 0 1 = cc in absurd (omega arith))
    (λ (m, f, q). let z : f.failed.refusal ≡ r = cc in verdict-first refuse answer ts m f ∙ ap refuse z)
    (verdict-cases Err (Ok c) ts)

-- the tests of the heads
module _ (d d' s : Bytes) where
  pub heads-old : same (sha256 (head_string (head_at s 6))) d ≡ false → checked 2 (head_tests d d' (audit_at s)) ≡ Err HEAD
  unfolding audit_tests audit_at
  heads-old e = first-fails Err (Ok 2) _ _ _ e

  pub heads-new : same (sha256 (head_string (head_at s 6))) d ≡ true → same (sha256 (head_string (head_at s 106))) d' ≡ false → checked 2 (head_tests d d' (audit_at s)) ≡ Err HEAD
  unfolding audit_tests audit_at
  heads-new e f = second-fails Err (Ok 2) _ _ _ e f

  module _ (e : same (sha256 (head_string (head_at s 6))) d ≡ true) (f : same (sha256 (head_string (head_at s 106))) d' ≡ true) where
    pub heads-epoch : (number (take 4 (drop 106 s)) ≡ suc (number (take 4 (drop 6 s))) → ⊥) → checked 2 (head_tests d d' (audit_at s)) ≡ Err RULE
    unfolding audit_tests audit_at
    heads-epoch n = third-fails Err (Ok 2) _ _ _ e f (rw (ne_eqb _ _ n))

    pub heads-previous : same (take wide (drop 110 s)) d ≡ false → checked 2 (head_tests d d' (audit_at s)) ≡ Err RULE
    unfolding audit_tests audit_at
    heads-previous g = third-fails Err (Ok 2) _ _ _ e f (rw g (simp and-false))

    pub heads-pass : number (take 4 (drop 106 s)) ≡ suc (number (take 4 (drop 6 s))) → same (take wide (drop 110 s)) d ≡ true → checked 2 (head_tests d d' (audit_at s)) ≡ Ok 2
    unfolding audit_tests audit_at
    heads-pass n g = none-fails Err (Ok 2) _ _ _ e f (and_both (eq-eqb _ _ n) g)

-- the digests of a list: those of its old root, and those of its new one
pub list-digests : (R : List AuditRecord) → length (list_strings R) ≡ length (nodes (root (olds R))) + length (nodes (root (news R)))
list-digests R = omega (
  arith,
  length-append (map node_string (nodes (root (olds R)))) (map node_string (nodes (root (news R)))),
  length-map (nodes (root (olds R))) node_string,
  length-map (nodes (root (news R))) node_string,
)

pub list-few : (s : Bytes) (at n : ℕ) → Listed s at n → in_order (records_at s at n) ≡ true → digests_at s at n ≤ 4 * n + 6
list-few s at n l e = omega (arith, list-digests (records_at s at n), root-few s at n l e false, root-few s at n l e true)

-- a list that passed was in order, and its digests are few
pub list-passed : (s : Bytes) (w : Which) (at n roots k : ℕ) → Listed s at n → checked (digests_at s at n) (tests_at s w at n roots) ≡ Ok k → (k ≡ digests_at s at n) × (k ≤ 65542)
list-passed s w at n roots k l e =
    let (q, h) = passed (digests_at s at n) k (tests_at s w at n roots) e in
    (q, omega (arith, q, list-few s at n l (and_left (in_order (records_at s at n)) _ h.0), l.few))

-- the verdicts on the two lists, and what they leave to answer
abbrev pub all_checked : Bytes → Result ℕ Refusal
all_checked s = checked (digests_at s 210 (count_at s 206)) (tests_at s OfAll 210 (count_at s 206) 42)

abbrev pub old_checked : Bytes → Result ℕ Refusal
old_checked s = checked (digests_at s (behind_at s 206 + 4) (count_at s (behind_at s 206))) (tests_at s OfOld (behind_at s 206 + 4) (count_at s (behind_at s 206)) 74)

module _ (s : Bytes) (digests : ℕ) where
  pub all-refused : (n : Refusal) → all_checked s ≡ Err n → lists_answer (audit_at s) digests ≡ Err n
  unfolding audit_at
  all-refused n e =
      let c = digests_at s 210 (count_at s 206) in
      refused Err (old_answer (audit_at s) (digests + c)) c n (tests_at s OfAll 210 (count_at s 206) 42) e

  pub all-passed : (k : ℕ) → all_checked s ≡ Ok k → lists_answer (audit_at s) digests ≡ old_answer (audit_at s) (digests + k)
  unfolding audit_at
  all-passed k e =
      let ts = tests_at s OfAll 210 (count_at s 206) 42 in
      let (q, h) = passed (digests_at s 210 (count_at s 206)) k ts e in
      verdict-all Err (old_answer (audit_at s) (digests + digests_at s 210 (count_at s 206))) ts h ∙ ap (λ k. old_answer (audit_at s) (digests + k)) (sym q)

  abbrev answer : ℕ → AuditAnswer
  answer k = audit_accepted (number (take 4 (drop 6 s))) (number (take 4 (drop 106 s))) (digests + k)

  abbrev old_digests : ℕ
  old_digests = digests_at s (behind_at s 206 + 4) (count_at s (behind_at s 206))

  abbrev old_tests : List Test
  old_tests = tests_at s OfOld (behind_at s 206 + 4) (count_at s (behind_at s 206)) 74

  pub old-refused : (n : Refusal) → old_checked s ≡ Err n → old_answer (audit_at s) digests ≡ Err n
  unfolding audit_at
  old-refused n e = refused Err (answer old_digests) old_digests n old_tests e

  pub old-passed : (k : ℕ) → old_checked s ≡ Ok k → old_answer (audit_at s) digests ≡ audit_accepted (number (take 4 (drop 6 s))) (number (take 4 (drop 106 s))) (digests + k)
  unfolding audit_at
  old-passed k e =
      let (q, h) = passed old_digests k old_tests e in
      verdict-all Err (answer old_digests) old_tests h ∙ ap answer (sym q)

-- the heads' tests, and behind them the lists'
pub audit-parts : (d d' : Bytes) (a : Audit) (r : Bytes) → audit_read d d' (got a r) ≡ verdict Err (lists_answer a 2) (head_tests d d' a)
unfolding audit_tests audit_strings
audit-parts d d' a r =
    let c : length (audit_strings a) ≡ 2 + length (list_strings a.all) + length (list_strings a.old) = omega (arith, length-append (list_strings a.all) (list_strings a.old)) in
    verdict-append Err (answer (length (audit_strings a))) (head_tests d d' a) (all ++ old)
    ∙ ap (λ v. verdict Err v (head_tests d d' a))
    (verdict-append Err (answer (length (audit_strings a))) all old ∙ ap (λ k. verdict Err (verdict Err (answer k) old) all) c)
  where
    answer : ℕ → AuditAnswer
    answer k = audit_accepted a.before.epoch a.after.epoch k

    all : List Test
    all = list_tests OfAll a.before.epoch a.after.epoch a.all a.before.all a.after.all

    old : List Test
    old = list_tests OfOld a.before.epoch a.after.epoch a.old a.before.old a.after.old

-- the entry's own tests
pub input-old : (d d' b : Bytes) → (length d ≡ wide → ⊥) → check_audit d d' b ≡ Err INPUT
unfolding check_audit verdict
input-old d d' b h = rw (ne_eqb (length d) wide h)

pub input-new : (d d' b : Bytes) → (length d' ≡ wide → ⊥) → check_audit d d' b ≡ Err INPUT
unfolding check_audit verdict
input-new d d' b h = rw (ne_eqb (length d') wide h) (simp and-false)

pub input-fits : (d d' b : Bytes) → length d ≡ wide → length d' ≡ wide → check_audit d d' b ≡ audit_read d d' (parse audit_field b)
unfolding check_audit verdict
input-fits d d' b h l = rw (eq-eqb (length d) wide h, eq-eqb (length d') wide l)

-- the heads, when the layout has been read
module _ (d d' s : Bytes) (e : parse audit_field s ≡ got (audit_at s) []) where
  pub heads-refused : (n : Refusal) → checked 2 (head_tests d d' (audit_at s)) ≡ Err n → audit_read d d' (parse audit_field s) ≡ Err n
  heads-refused n q = ap (audit_read d d') e ∙ audit-parts d d' (audit_at s) [] ∙ refused Err (lists_answer (audit_at s) 2) 2 n (head_tests d d' (audit_at s)) q

  pub heads-passed : (k : ℕ) → checked 2 (head_tests d d' (audit_at s)) ≡ Ok k → (k ≡ 2) × (audit_read d d' (parse audit_field s) ≡ lists_answer (audit_at s) k)
  heads-passed k q =
      let (c, h) = passed 2 k (head_tests d d' (audit_at s)) q in
      (c, ap (audit_read d d') e ∙ audit-parts d d' (audit_at s) [] ∙ verdict-all Err (lists_answer (audit_at s) 2) (head_tests d d' (audit_at s)) h ∙ ap (lists_answer (audit_at s)) (sym c))
