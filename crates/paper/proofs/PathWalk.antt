-- A path that gives a root is a walk of its label from that root. Assumes nothing.
use mathlib.Core.Path.{◌≡◌, refl, ap, ◌∙◌}
use mathlib.Core.Bool.{Bool, true, false, cond}
use mathlib.Core.List.{List, [], ◌∷◌}
use Prim.Native.Nat.{ℕ, suc, ◌<◌}
use lib.Dec.{ltb}
use lib.ListN.{length, take, get_or}
use borrow.Author.Tests.{not-true}
use Rattle.paper.specs.Lists.{All}
use Rattle.paper.specs.Bytes.{Bytes}
use Rattle.paper.specs.Bits.{Bits, Pfx, starts}
use Rattle.paper.specs.Tree.{digest}
use Rattle.paper.specs.Path as P
use Rattle.paper.specs.Path.{Step, End, this, other, off, none, end_node, step_node, path_top, path_nodes, same_bits}
use Rattle.paper.proofs.Lists.{and_right, not-both}
use Rattle.paper.proofs.Bits.{pfx-bit, no-pfx}
use Rattle.paper.proofs.Walk.{eq-same_bits, Found, absent, present, go, stop, look, look-leaf, look-other, look-down, look-off, World, Walk, ends, steps}

-- what an end shows
abbrev pub end_shows : End → Found
end_shows (this c e) = present c e
end_shows (other m c e) = absent
end_shows (off p l r) = absent
end_shows none = absent

-- the part of the ends' rules that a walk needs
abbrev pub EndShows : Bits → End → Type 0
EndShows L (this c e) = Unit {0}
EndShows L (other m c e) = ¬ (m ≡ L)
EndShows L (off p l r) = ¬ Pfx p L
EndShows L none = Unit {0}

-- "the others absence": an end that passes the rules of absence shows it
pub absent-shows : (L : Bits) (k : ℕ) (e : End) → P.absent L k e ≡ true → EndShows L e × (end_shows e ≡ absent)
unfolding P.absent
absent-shows L k (this c e) h = not-both h refl
absent-shows L k (other m c e) h = (λ q. not-both (eq-same_bits m L q) (not-true (same_bits m L) (and_right (starts (take (suc k) L) m) _ h)), refl)
absent-shows L k (off p l r) h = (no-pfx p L (not-true (starts p L) (and_right (starts (take (suc k) L) p) _ (and_right (ltb (suc k) (length p)) _ h))), refl)
absent-shows L k none h = (tt, refl)

end-look : (L : Bits) (e : End) → EndShows L e → look L (end_node L e) ≡ stop (end_shows e)
unfolding look
end-look L (this c e) h = look-leaf L c e
end-look L (other m c e) h = look-other L m c e h
end-look L (off p l r) h = look-off L p l r h
end-look L none h = refl

-- the digest from below stands on the side of the label's bit
cond-cond : (b : Bool) (d s : Bytes) → cond b (cond b d s) (cond b s d) ≡ d
cond-cond true d s = refl
cond-cond false d s = refl

step-look : (L : Bits) (s : Step) (d : Bytes) → s.length < length L → look L (step_node L s d) ≡ go d
unfolding step_node
step-look L s d h =
    look-down L (take s.length L) (get_or L s.length false) _ _ (pfx-bit L s.length h) ∙ ap go (cond-cond (get_or L s.length false) d s.sibling)

pub path-walk : (W : World) (L : Bits) (ss : List Step) (e : End) → All W.In (path_nodes L ss e) → All (λ s. s.length < length L) ss → EndShows L e
    → Walk W L (digest (path_top L ss e)) (end_shows e)
unfolding path_nodes path_top
path-walk W L [] e i k h = ends (end_node L e) i.0 refl (end-look L e h)
path-walk W L (s ∷ ss) e i k h =
    steps (step_node L s (digest (path_top L ss e))) i.0 refl (step-look L s (digest (path_top L ss e)) k.0) (path-walk W L ss e i.1 k.1 h)
