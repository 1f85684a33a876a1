-- The bytes that `tree_path` says it wrote lie in the output. Assumes nothing.
use Rattle.std.specs.Prelude.{Ok, Err}
use mathlib.Core.Path.{◌≡◌, refl, sym, subst}
use mathlib.Core.Logic.{inl, ⊎_elim}
use mathlib.Core.Bool.{Bool, true}
use mathlib.Core.List.{List, [], ◌∷◌, ◌++◌}
use Prim.Native.Nat.{ℕ, ◌≤◌}
use native.Mathlib.Omega.{arith}
use lib.Dec.{leb}
use lib.ListN.{length}
use borrow.Author.Tests.{leb-true}
use Rattle.paper.specs.Numbers.{ROOM}
use Rattle.paper.specs.Bytes.{Bytes, pasted}
use Rattle.paper.specs.Verdict.{Test, test}
use Rattle.paper.specs.Level.{Laid, laid, tree_path}
use Rattle.paper.specs.Answer.{TreeAnswer}
use Rattle.paper.specs.declared.Refusal.{Refusal}
use Rattle.paper.proofs.Lists.{all_in, in_right}
use Rattle.paper.proofs.Verdicts.{verdict-cases}

abbrev written : TreeAnswer → ℕ
written (Ok n) = n
written (Err r) = 0

module _ (out : Bytes) where
  abbrev Within : TreeAnswer → Type 0
  Within r = written r ≤ length out

  laid-within : (s : Bytes) (ts : List Test) → Within (laid out s ts).answer
  unfolding laid
  laid-within s ts =
      let room = test ROOM (leb (length s) (length out)) in
      let every = ts ++ (room ∷ []) in
      let refused : Refusal → Laid = λ r. record { answer = Err r; out = out } in
      let success : Laid = record { answer = Ok (length s); out = pasted out 0 s } in
      ⊎_elim
      (λ (h, q). subst (λ x. Within x.answer) (sym q) (leb-true (length s) (length out) (all_in (λ t. t.holds ≡ true) every h room (in_right room ts (room ∷ []) (inl refl)))))
      (λ (n, f, q). subst (λ x. Within x.answer) (sym q) (omega arith))
      (verdict-cases refused success every)

pub path-within : (entries label : Bytes) (absent : Bool) (out o : Bytes) (r : TreeAnswer) (n : ℕ) → record { answer = r; out = o } ≡ tree_path entries label absent out
    → r ≡ Ok n → n ≤ length out
unfolding tree_path
path-within entries label absent out o r n e q =
    let w : Within out (tree_path entries label absent out).answer = laid-within out _ _ in
    subst (Within out) q (subst (λ x. Within out x.answer) (sym e) w)
