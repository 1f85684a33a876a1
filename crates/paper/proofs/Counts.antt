-- "a lookup has at most 776": the count is the length of the list of strings hashed, and is bounded. Assumes nothing.
use mathlib.Core.Path.{◌≡◌, refl, ap}
use mathlib.Core.Logic.{⊎_elim}
use mathlib.Core.List.{List, [], ◌∷◌, ◌++◌, map}
use Prim.Native.Nat.{ℕ, zero, suc, ◌+◌, ◌*◌, ◌≤◌}
use native.Mathlib.Omega.{arith}
use native.Mathlib.Nat.{suc-mul, mul-le-mul_right}
use lib.ListN.{length, length-append, length-map}
use Rattle.paper.specs.Lists.{All}
use Rattle.paper.specs.Bytes.{Bytes, Bytewise}
use Rattle.paper.specs.Bits.{Bits}
use Rattle.paper.specs.Strings.{node_string, commitment_string}
use Rattle.paper.specs.Labelling.{Labelling, Tied, plain}
use Rattle.paper.specs.Path.{Step, End, Path, path_nodes}
use Rattle.paper.specs.Layout.{Read, got, bad, parse}
use Rattle.paper.specs.Fields.{path_field}
use Rattle.paper.specs.Shows.{Asked, Proof, kind_of, number_of, label_at, path_strings, proof_strings, proof_tests, input_tests}
use Rattle.paper.specs.Lookup.{lookup_asked, lookup_keys, lookup_field, lookup_strings, lookup_read, lookup_gives, lookup_terms, check_lookup}
use Rattle.std.specs.Prelude.{Err}
use Rattle.paper.specs.Answer.{value_at, answered_digests}
use Rattle.paper.proofs.Verdicts.{verdict-cases}
use Rattle.paper.proofs.Accepted.{gives-reply}
use Rattle.paper.proofs.Layouts.{bytes-parse}
use Rattle.paper.proofs.Proofs.{lookup-lawful}
use Rattle.paper.proofs.Fits.{path-fits, proof-fits}
use Rattle.paper.proofs.Labelling.{plain-tied}

-- "m+2 for each path (its label, m nodes, its end)": m nodes and the end
pub nodes-length : (L : Bits) (ss : List Step) (e : End) → length (path_nodes L ss e) ≡ suc (length ss)
unfolding path_nodes
nodes-length L [] e = refl
nodes-length L (s ∷ ss) e = ap suc (nodes-length L ss e)

module _ (lab : Labelling) (tied : Tied lab) (name : Bytes) where
  -- how many strings are hashed for a label
  abbrev k : ℕ
  k = tied.each

  -- with k strings for a label, a path hashes at most k + 257
  paths-most : (asked : List Asked) (ps : List Path) → All path_field.Fits ps → length (path_strings lab name asked ps) ≤ length asked * (k + 257)
  unfolding path_strings
  paths-most [] ps f = omega arith
  paths-most (a ∷ asked) [] f = omega arith
  paths-most (a ∷ asked) (x ∷ ps) f =
      let own = lab.strings (kind_of a.place) (number_of a.place) (lab.person name) in
      let N = path_nodes (label_at lab name a.place) x.steps x.end in
      omega (
        arith,
        tied.as_many (kind_of a.place) (number_of a.place) (lab.person name),
        paths-most asked ps f.1,
        (path-fits x f.0).most,
        nodes-length (label_at lab name a.place) x.steps x.end,
        length-append own (map node_string N ++ path_strings lab name asked ps),
        length-append (map node_string N) (path_strings lab name asked ps),
        length-map N node_string,
        suc-mul (length asked) (k + 257),
      )

  few-asked : (v : ℕ) → (length (lookup_asked v) ≤ 3) × (lookup_keys v ≤ 1)
  few-asked zero = (omega arith, omega arith)
  few-asked (suc v) = (omega arith, omega arith)

  lookup-strings-most : (p : Proof) → lookup_field.Fits p → length (lookup_strings lab name p) ≤ 773 + 3 * k
  unfolding proof_strings
  lookup-strings-most p f =
      let g = proof-fits 1 lookup_keys (λ v t. lookup_asked v) p f in
      let asked = lookup_asked p.number in
      let (h₁, h₂) = few-asked p.number in
      let m : length asked * (k + 257) ≤ 3 * (k + 257) = mul-le-mul_right (k + 257) h₁ in
      omega (
        arith,
        paths-most asked p.paths g.paths,
        length-append (map (λ i. commitment_string i.opening i.key) p.items) (path_strings lab name asked p.paths),
        length-map p.items (λ i. commitment_string i.opening i.key),
        g.keyed,
      )

  -- whatever the bytes, no answer reports more
  pub lookup-counts : (d b : Bytes) → Bytewise b → answered_digests (check_lookup lab d name b) ≤ 773 + 3 * tied.each
  unfolding check_lookup
  lookup-counts d b w =
      ⊎_elim (λ (_, e). rw e (read (parse lookup_field b) refl)) (λ (n, _, e). rw e (omega arith))
      (verdict-cases Err (lookup_read lab name d (parse lookup_field b)) (input_tests d name))
    where
      read : (m : Read Proof) → parse lookup_field b ≡ m → answered_digests (lookup_read lab name d m) ≤ 773 + 3 * tied.each
      read bad q = omega arith
      read (got p r) q =
          let (f, _) = bytes-parse lookup-lawful b p r w q in
          let c = length (lookup_strings lab name p) in
          ⊎_elim
          (λ (_, e). rw (e, ap (value_at 2) (gives-reply lab name p.number p.head.epoch c)) (lookup-strings-most p f))
          (λ (n, _, e). rw e (omega arith))
          (verdict-cases Err (lookup_gives lab name p.number p.head.epoch c) (proof_tests lab name d (lookup_terms p) (lookup_asked p.number) p))

-- "a lookup has at most 776"
pub lookup-most : (d name b : Bytes) → Bytewise b → answered_digests (check_lookup plain d name b) ≤ 776
lookup-most d name b w = lookup-counts plain plain-tied name d b w
