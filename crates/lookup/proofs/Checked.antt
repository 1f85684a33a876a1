-- What the lookup check answers is what the check finds; and where it finds a version, its key stands behind the front. Assumes nothing.
use mathlib.Core.Path.{◌≡◌, refl, sym, ap, ◌∙◌}
use mathlib.Core.List.{[]}
use Prim.Native.Nat.{ℕ, zero, suc, ◌+◌, ◌-◌, ◌≤◌}
use native.Mathlib.Omega.{arith}
use lib.ListN.{get_or, take, drop}
use denote.Ref.{Bor}
use Rattle.std.specs.Prelude.{Result, Ok, Err}
use Rattle.paper.specs.Bytes.{Bytes, Bytewise}
use Rattle.paper.specs.Labelling.{plain}
use Rattle.paper.specs.Layout.{Read, got, bad, parse}
use Rattle.paper.specs.Verdict.{verdict}
use Rattle.paper.specs.Shows.{Proof, proof_tests, input_tests}
use Rattle.paper.specs.Lookup.{lookup_field, lookup_terms, lookup_asked, lookup_gives, lookup_read, check_lookup, key_start, key_length}
use Rattle.paper.specs.declared.Refusal.{Refusal}
use Rattle.paper.specs.declared.AcceptedLookup.TheVariants.{Found, NotRegistered}
use Rattle.paper.specs.Answer.{LookupAnswer, lookup_number}
use Rattle.paper.proofs.Accepted.{lookup-told}
use Rattle.ranges.proofs.Slices.{part-is}
use Rattle.words.proofs.Number.{number-one}
use Rattle.plan.specs.Asked.{asked_by}
use Rattle.plan.specs.Kinds.{keys_in}
use Rattle.plan.specs.declared.Kind.TheVariants.{Lookup}
use Rattle.shown.specs.Form.{ItemStands}
use Rattle.shown.proofs.Formed.{parsed}
use Rattle.checks.specs.Checked.{field_of, accepts, checked_of, checked}
use Rattle.checks.specs.declared.Accepted.{Accepted}
use Rattle.checks.proofs.Lookup.{read, key-stands}
use Rattle.checks.proofs.Verdicts.{verdict-on}
use Rattle.lookup.specs.Part.{KeyPart}

module _ (d name s : Bytes) where
  -- "An accepted lookup gives its version, .. with the head's epoch and its digests"
  abbrev pub told : Result Accepted Refusal → LookupAnswer
  told (Err e) = Err e
  told (Ok a) = lookup_gives plain name a.number a.epoch a.digests

  pub lookup-checked : told (checked Lookup d name s) ≡ check_lookup plain d name s
  unfolding checked check_lookup
  lookup-checked =
      verdict-on told Err Err (λ e. refl) (checked_of Lookup d name (parse (field_of Lookup) s)) (input_tests d name)
      ∙ ap (λ x. verdict Err x (input_tests d name)) (by (parse lookup_field s))
    where
      by : (x : Read Proof) → told (checked_of Lookup d name x) ≡ lookup_read plain name d x
      by bad = refl
      by (got p r) = verdict-on told Err Err (λ e. refl) (Ok (accepts Lookup name p)) (proof_tests plain name d (lookup_terms p) (lookup_asked p.number) p)

  -- version 0 is none
  pub told-none : (v t c : ℕ) → v ≡ 0 → Ok (NotRegistered t c) ≡ told (Ok (record { number = v; epoch = t; digests = c }))
  told-none zero t c e = refl
  told-none (suc v) t c e = absurd (omega arith)

  pub told-some : (v t c : ℕ) → (v ≡ 0 → ⊥) → Ok (Found v t c) ≡ told (Ok (record { number = v; epoch = t; digests = c }))
  told-some zero t c h = absurd (h refl)
  told-some (suc v) t c h = refl

  -- where a version is found its key stands behind the front
  pub key-found : Bytewise s → (v t c : ℕ) → check_lookup plain d name s ≡ Ok (Found v t c) → ItemStands s 108
  key-found w v t c e =
      let k = lookup-told plain d name s (ap lookup_number e) in
      let (n, u, front, start, f) = parsed 1 (keys_in Lookup) (asked_by Lookup) s w k.proof [] k.found in
      let is : k.proof.number ≡ n = number_is k.proof (read s w n u front start f) (sym k.found ∙ f.found) in
      key-stands s w n u front start f (some k.proof.number n _ _ is (sym k.answer ∙ e))
    where
      number_is : (p q : Proof) → got p [] ≡ got q [] → p.number ≡ q.number
      number_is p q e = let u : p ≡ q = cc in ap (λ x. x.number) u

      some : (m n t' c' : ℕ) → m ≡ n → lookup_gives plain name m t' c' ≡ Ok (Found v t c) → 1 ≤ n
      some zero n t' c' i q = let z : ◌≡◌ {A = ℕ} 0 1 = cc in absurd (omega arith)
      some (suc m) n t' c' i q = omega arith

-- ---- the part that is the key

module _ (proof part : Bor Bytes) (a : LookupAnswer) where
  pub key-part : (v t c : ℕ) → Ok (Found v t c) ≡ a → ItemStands proof.now 108
      → part.now ≡ take (109 + get_or proof.now 108 0 - 109) (drop 109 proof.now) → part.ref_ptr ≡ (proof.ref_ptr.0, 109 + proof.ref_ptr.1) → KeyPart a proof part
  key-part v t c e k b p =
      let s = proof.now in
      rw (← e) (record {
        bytes = b ∙ part-is s 109 (get_or s 108 0) ∙ ap (λ n. take n (drop 109 s)) (sym (number-one s 108 (omega (arith, k.room))));
        block = ap (λ x. x.0) p;
        offset = omega (arith, ap (λ x. x.1) p);
      })

  pub no_part : (b : LookupAnswer) → b ≡ a → key_start b ≡ 0 → key_length b proof.now ≡ 0 → part.now ≡ [] → part.ref_ptr ≡ proof.ref_ptr → KeyPart a proof part
  no_part b e i n q p = rw (← e) (record { bytes = rw (i, n, q); block = ap (λ x. x.0) p; offset = rw i (omega (arith, ap (λ x. x.1) p)) })
