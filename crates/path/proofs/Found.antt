-- A path that was read stands at its places, and is found there again. Assumes nothing.
use mathlib.Core.Path.{◌≡◌, refl, sym, ap, ap₂, ◌∙◌, subst}
use mathlib.Core.Bool.{true, ◌&&◌}
use mathlib.Core.List.{List}
use Prim.Native.Nat.{ℕ, zero, suc, ◌+◌, ◌-◌, ◌*◌, ◌≤◌, ◌<◌}
use native.Mathlib.Omega.{arith}
use lib.Dec.{leb}
use lib.ListN.{length, take, drop, length-drop}
use lib.Seq.{drop-drop}
use borrow.Author.Tests.{leb-true}
use Rattle.paper.specs.Bytes.{Bytes, Bytewise, number, same}
use Rattle.paper.specs.Bits.{bits_of}
use Rattle.paper.specs.Layout.{Read, got, bad, within, led, times, such, never}
use Rattle.paper.specs.Fields.{step_field, rise, end_of, end_field, path_body, path_field}
use Rattle.paper.specs.Path.{path_root}
use Rattle.paper.specs.Path as P
use Rattle.paper.proofs.Lists.{and_left, and_right, all_take, all_drop}
use Rattle.paper.proofs.Layouts.{then-got}
use Rattle.ranges.proofs.Slices.{length_part}
use Rattle.path_form.specs.Places.{commitment_of, steps_in, ranged, prefix_length, prefix_bytes, prefix_good, end_in, path_in, EndStands, PathStands}
use Rattle.std.specs.Prelude.{Some, None}
use Rattle.path_form.specs.Parsed.{placed, path_of, path_at}
use Rattle.path.specs.Taken.{shown_by, taken_of, taken}
use Rattle.path_form.specs.declared.Path.{Path}
use Rattle.path.specs.declared.Taken.{Taken}
use Rattle.fields.proofs.Flat.{flat-got, within-flat}
use Rattle.fields.proofs.Prefix.{cut-same}
use Rattle.path_form.proofs.Fields.{this-flat, other-flat, off-flat, none-flat, steps-flat}
use Rattle.path_form.proofs.Steps.{steps-length}
use Rattle.path_form.proofs.Reading.{body_reads, counted}

-- ---- an end

-- an end whose fields stand from a place on
abbrev EndFound : Bytes → ℕ → P.End → Type 0
EndFound s fields e = EndStands s (placed fields e) × (end_in s (placed fields e) ≡ e)

end-found : (m k : ℕ) (s : Bytes) (fields : ℕ) (e : P.End) (r : Bytes) → Bytewise s → (end_of m k).read (drop fields s) ≡ got e r → EndFound s fields e
unfolding end_of never prefix_good
end-found m zero s fields e r w h =
    let (n, _, v, _) = flat-got (this-flat m) (drop fields s) (all_drop _ fields s w) e r h in
    subst (EndFound s fields) v (omega (arith, length-drop fields s), refl)
end-found m (suc zero) s fields e r w h =
    let (n, _, v, _) = flat-got (other-flat m) (drop fields s) (all_drop _ fields s w) e r h in
    subst (EndFound s fields) v (omega (arith, length-drop fields s), rw (drop-drop 32 fields s))
end-found m (suc (suc zero)) s fields e r w h =
    let t = drop fields s in
    let (n, g, v, _) = flat-got (off-flat m) t (all_drop _ fields s w) e r h in
    let room : fields + 98 ≤ length s = omega (arith, length-drop fields s) in
    let range = and_left (leb 1 (prefix_length t) && leb (prefix_length t) 255) _ g in
    let zero = and_right (leb 1 (prefix_length t) && leb (prefix_length t) 255) _ g in
    let most = leb-true (prefix_length t) 255 (and_right (leb 1 (prefix_length t)) _ range) in
    let size : length (prefix_bytes t) ≡ 32 = rw (drop-drop 2 fields s) (length_part s (fields + 2) 32 (omega arith)) in
    let cut = rw size at (cut-same (prefix_bytes t) (prefix_length t) (all_take _ 32 (drop 2 t) (all_drop _ 2 t (all_drop _ fields s w))) zero) in
    subst (EndFound s fields) v ((room, most, rw (drop-drop 2 fields s) at cut), rw (drop-drop 2 fields s, drop-drop 34 fields s, drop-drop 66 fields s))
end-found m (suc (suc (suc zero))) s fields e r w h =
    let (_, _, v, _) = flat-got (none-flat m) (drop fields s) (all_drop _ fields s w) e r h in
    subst (EndFound s fields) v (tt, refl)
end-found m (suc (suc (suc (suc k)))) s fields e r w h = let z : ◌≡◌ {A = ℕ} 0 1 = cc in absurd (omega arith)

-- ---- steps

short-steps : (m low high : ℕ) (t : Bytes) → high ≤ 255 → ranged low high (steps_in m t) ≡ true → (i : ℕ) → i < m → number (take 2 (drop (34 * i) t)) ≤ 255
unfolding steps_in ranged
short-steps zero low high t h e i l = absurd (omega arith)
short-steps (suc m) low high t h e zero l =
    let n = number (take 2 t) in
    omega (arith, leb-true n high (and_left (leb n high) _ (and_right (leb low n) _ e)))
short-steps (suc m) low high t h e (suc i) l =
    let n = number (take 2 t) in
    let k : 34 + 34 * i ≡ 34 * suc i = omega arith in
    let rest = short-steps m (suc n) 255 (drop 34 t) (omega arith) (and_right (leb n high) _ (and_right (leb low n) _ e)) i (omega arith) in
    subst (λ j. number (take 2 (drop j t)) ≤ 255) k (rw (drop-drop (34 * i) 34 t) at rest)

-- ---- the path

-- a path that was read in s from `at` on, and what parsing makes of it
record PathFound (s : Bytes) (at : ℕ) (x : P.Path) (r : Bytes) : Type 0 where
  parsed : Path
  was : path_of (length s) at (got x r) ≡ Some parsed
  stands : PathStands s parsed
  is : path_in s parsed ≡ x

module _ (s : Bytes) (at m : ℕ) (w : Bytewise s) (some : 1 ≤ m) (most : m ≤ 256) where
  -- steps and end
  abbrev steps : List P.Step
  steps = steps_in m (drop (at + 2) s)

  abbrev behind : ℕ
  behind = at + 2 + 34 * m

  whole-found : (e : P.End) (r : Bytes) → behind ≤ length s → ranged 0 0 steps ≡ true → EndFound s (behind + 1) e → PathFound s at (record { steps = steps; end = e }) r
  whole-found e r room rises (h, i) =
      let n = steps-length m (drop (at + 2) s) in
      record {
        parsed = _;
        was = refl;
        stands = rw n (record {
          some = some;
          most = most;
          room = room;
          each = λ i l. record {
            room = omega arith;
            short = rw (drop-drop (34 * i) (at + 2) s) at (short-steps m 0 0 (drop (at + 2) s) (omega arith) rises i l);
          };
          last = h;
          shown = ap commitment_of (sym i);
        });
        is = rw (n, i);
      }

  kind-found : (e : P.End) (r : Bytes) → (end_field m).read (drop behind s) ≡ got e r → EndFound s (behind + 1) e
  unfolding led
  kind-found e r h =
      let (k, q, h₁, h₂) = then-got ((within 1 0 3).read (drop behind s)) _ e r h in
      let (_, _, _, b) = flat-got (within-flat 1 0 3) (drop behind s) (all_drop _ behind s w) k q h₁ in
      end-found m k s (behind + 1) e r w (ap (end_of m k).read (sym (drop-drop 1 behind s) ∙ b) ∙ h₂)

  body-found : (x : P.Path) (r : Bytes) → (path_body m).read (drop (at + 2) s) ≡ got x r → PathFound s at x r
  body-found x r h =
      let t = drop (at + 2) s in
      let (l, q, h₁, h₂) = then-got ((such (times m step_field) rise).read t) _ x r (sym (body_reads m t) ∙ h) in
      let (n, g, v, b) = flat-got (steps-flat m) t (all_drop _ (at + 2) s w) l q h₁ in
      let (e, q', h₃, h₄) = then-got ((end_field m).read q) _ x r h₂ in
      let k = kind-found e q' (ap (end_field m).read (sym (drop-drop (34 * m) (at + 2) s) ∙ b) ∙ h₃) in
      let y : record { steps = steps; end = e } ≡ x = cc in
      subst (λ x. PathFound s at x r) y (whole-found e r (omega (arith, length-drop (at + 2) s)) g k)

found : (s : Bytes) (at : ℕ) (x : P.Path) (r : Bytes) → Bytewise s → path_field.read (drop at s) ≡ got x r → PathFound s at x r
unfolding led
found s at x r w h =
    let (m, q, h₁, _) = then-got ((within 2 1 256).read (drop at s)) _ x r h in
    let c = counted s at w m q h₁ in
    body-found s at m w c.low c.high x r (sym c.reads ∙ h)

-- ---- a parsed path, as it is taken

-- a parsed path that is the value x
abbrev pub taken_as : Bytes → Bytes → Path → P.Path → Taken
taken_as label root p x = record {
  nodes = p.count;
  matches = same (path_root (bits_of label) x) root;
  shows = shown_by (bits_of label) x;
  next = p.next;
}

module _ (s : Bytes) (at : ℕ) (w : Bytewise s) where
  -- what was parsed stands at its places
  pub path-stands : (p : Path) → path_at s at ≡ Some p → PathStands s p
  unfolding path_at
  path-stands p e = by (path_field.read (drop at s)) refl e
    where
      by : (x : Read P.Path) → path_field.read (drop at s) ≡ x → path_of (length s) at x ≡ Some p → PathStands s p
      by bad h e = let z : ◌≡◌ {A = ℕ} 0 1 = cc in absurd (omega arith)
      by (got x r) h e = let f = found s at x r w h in let q : f.parsed ≡ p = cc (f.was) in subst (PathStands s) q f.stands

  module _ (label root : Bytes) where
    pub taken-bad : path_at s at ≡ None → taken s at label root ≡ None
    unfolding path_at taken
    taken-bad e = by (path_field.read (drop at s)) e
      where
        by : (x : Read P.Path) → path_of (length s) at x ≡ None → taken_of (length s) label root x ≡ None
        by bad e = refl
        by (got x r) e = let z : ◌≡◌ {A = ℕ} 0 1 = cc in absurd (omega arith)

    pub taken-good : (p : Path) → path_at s at ≡ Some p → taken s at label root ≡ Some (taken_as label root p (path_in s p))
    unfolding path_at taken
    taken-good p e = by (path_field.read (drop at s)) refl e
      where
        by : (x : Read P.Path) → path_field.read (drop at s) ≡ x → path_of (length s) at x ≡ Some p → taken_of (length s) label root x ≡ Some (taken_as label root p (path_in s p))
        by bad h e = let z : ◌≡◌ {A = ℕ} 0 1 = cc in absurd (omega arith)
        by (got x r) h e =
            let f = found s at x r w h in
            let q : f.parsed ≡ p = cc (f.was) in
            let n : length x.steps ≡ p.count = cc in
            let i : x ≡ path_in s p = subst (λ q. x ≡ path_in s q) q (sym f.is) in
            let m : length s - length r ≡ p.next = cc in
            ap₂ (λ k y. Some (record { nodes = k; matches = same (path_root (bits_of label) y) root; shows = shown_by (bits_of label) y; next = length s - length r })) n i
            ∙ ap (λ m. Some (record { nodes = p.count; matches = same (path_root (bits_of label) (path_in s p)) root; shows = shown_by (bits_of label) (path_in s p); next = m })) m
