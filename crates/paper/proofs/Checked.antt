-- A checker's tests: the bounds, the layout, and then one for each rule, in order. All hold exactly where the arguments are in bounds and a value has the
-- layout and meets the rest; and the first that fails is that of the first rule that is broken. Assumes nothing.
use mathlib.Core.Path.{◌≡◌, refl, sym, ap, ◌∙◌}
use mathlib.Core.Logic.{inl, inr, ⊎_elim, ◌↔◌}
use mathlib.Core.Bool.{Bool, false}
use mathlib.Core.List.{List, [], ◌∷◌}
use Prim.Native.Nat.{ℕ}
use Rattle.paper.specs.Numbers.{INPUT, FORM, refusal_number}
use Rattle.paper.specs.Bytes.{Bytes, Bytewise}
use Rattle.paper.specs.Layout.{Layout, Read, got, bad, parse}
use Rattle.paper.specs.Verdict.{Test, test, Hold, FirstFails}
use Rattle.paper.specs.Rules.{LaidOut}
use Rattle.paper.specs.Broken.{Rule, FirstBroken, Refuses, by-input, by_form, by-rule}
use Rattle.paper.specs.Refusals.{reading}
use Rattle.paper.proofs.Lists.{not-both}
use Rattle.paper.proofs.Verdicts.{no-first, first-cons}
use Rattle.paper.proofs.Layouts.{Lawful, parse-bytes, bytes-parse, bad-parse}
use Rattle.paper.proofs.Walk.{fails}
use Rattle.paper.proofs.Reflect.{Tells}

-- tests and rules, one for one: the same refusal, and the test passes exactly where the rule holds
abbrev pub Alike : List Test → List Rule → Type 0
Alike [] [] = Unit {0}
Alike [] (r ∷ rs) = ⊥
Alike (t ∷ ts) [] = ⊥
Alike (t ∷ ts) (r ∷ rs) = (t.refusal ≡ r.refusal) × Tells t.holds r.says × Alike ts rs

-- so the first test that fails is that of the first rule that is broken
first-broken : (ts : List Test) (rs : List Rule) → Alike ts rs → (n : ℕ) → FirstFails ts n ↔ FirstBroken rs n
first-broken [] [] a n = (no-first n, λ f. absurd f)
first-broken [] (r ∷ rs) a n = absurd a
first-broken (t ∷ ts) [] a n = absurd a
first-broken (t ∷ ts) (r ∷ rs) (q, s, a) n =
    let (to, from) = first-broken ts rs a n in (
      λ f. ⊎_elim (λ (e, k). inl (ap refusal_number (sym q) ∙ k, λ h. not-both (s.1 h) e)) (λ (e, g). inr (s.0 e, to g)) ((first-cons t ts n).0 f),
      ⊎_elim
          (λ (k, h). (first-cons t ts n).1 (inl (fails t.holds (λ e. h (s.0 e)), ap refusal_number q ∙ k)))
          (λ (h, g). (first-cons t ts n).1 (inr (s.1 h, from g))),
    )

module _ {A : Type 0} (field : Layout A) (lawful : Lawful field) (b : Bytes) (w : Bytewise b) where
  pub laid-got : (x : A) → LaidOut field x b → parse field b ≡ got x []
  laid-got x l = ap (parse field) (sym l.bytes) ∙ parse-bytes lawful x l.fits

  got-laid : (x : A) (r : Bytes) → parse field b ≡ got x r → LaidOut field x b
  got-laid x r o = let (f, e) = bytes-parse lawful b x r w o in record { fits = f; bytes = e }

  module _ {i : Bool} {InBounds : Type 0} (tells : Tells i InBounds) (tests : A → List Test) where
    -- all tests hold
    pub checker-holds : Hold (test INPUT i ∷ reading FORM (parse field b) tests) ↔ (InBounds × ((x : A) × LaidOut field x b × Hold (tests x)))
    checker-holds = (λ h. (tells.0 h.0, to (parse field b) refl h.1), λ (e, (x, l, h)). (tells.1 e, rw (laid-got x l) (refl, h)))
      where
        to : (m : Read A) → parse field b ≡ m → Hold (reading FORM m tests) → (x : A) × LaidOut field x b × Hold (tests x)
        to bad o h = not-both h.0 refl
        to (got x r) o h = (x, got-laid x r o, h.1)

    -- the first that fails
    pub checker-refuses : (rules : A → List Rule) → ((x : A) → Alike (tests x) (rules x)) → (n : ℕ)
        → FirstFails (test INPUT i ∷ reading FORM (parse field b) tests) n ↔ Refuses InBounds field rules b n
    checker-refuses rules alike n = (λ f. ⊎_elim input (λ (e, g). to (parse field b) refl (tells.0 e) g) ((first-cons _ _ n).0 f), from)
      where
        input : (i ≡ false) × (refusal_number INPUT ≡ n) → Refuses InBounds field rules b n
        input (e, q) = by-input (sym q) (λ h. not-both (tells.1 h) e)

        to : (m : Read A) → parse field b ≡ m → InBounds → FirstFails (reading FORM m tests) n → Refuses InBounds field rules b n
        to bad o h f = ⊎_elim (λ (e, q). by_form (sym q) h (λ x l. bad-parse lawful b o x l.fits l.bytes)) (λ (e, g). not-both e refl) ((first-cons _ _ n).0 f)
        to (got x r) o h f =
            ⊎_elim (λ (e, q). not-both refl e) (λ (e, g). by-rule h x (got-laid x r o) ((first-broken (tests x) (rules x) (alike x) n).0 g)) ((first-cons _ _ n).0 f)

        unread : (m : Read A) → parse field b ≡ m → ((x : A) → ¬ LaidOut field x b) → refusal_number FORM ≡ n → FirstFails (reading FORM m tests) n
        unread bad o h q = (first-cons _ _ n).1 (inl (refl, q))
        unread (got x r) o h q = absurd (h x (got-laid x r o))

        from : Refuses InBounds field rules b n → FirstFails (test INPUT i ∷ reading FORM (parse field b) tests) n
        from (by-input q h) = (first-cons _ _ n).1 (inl (fails i (λ e. h (tells.0 e)), sym q))
        from (by_form q h l) = (first-cons _ _ n).1 (inr (tells.1 h, unread (parse field b) refl l (sym q)))
        from (by-rule h x l f) =
            (first-cons _ _ n).1 (inr (tells.1 h, rw (laid-got x l) ((first-cons _ _ n).1 (inr (refl, (first-broken (tests x) (rules x) (alike x) n).1 f)))))
