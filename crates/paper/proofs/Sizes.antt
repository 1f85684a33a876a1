-- The nodes that a path and a tree hash have their sizes. Assumes nothing.
use mathlib.Core.Path.{◌≡◌, refl}
use mathlib.Core.Logic.{inl}
use mathlib.Core.Bool.{Bool, true, false, cond}
use mathlib.Core.List.{List, [], ◌∷◌}
use Prim.Native.Nat.{ℕ, zero, suc, ◌≤◌}
use native.Mathlib.Omega.{arith}
use lib.ListN.{length, get_or, length-take}
use Rattle.fips.proofs.Size.{sha256-length}
use Rattle.paper.specs.Lists.{All}
use Rattle.paper.specs.Numbers.{wide}
use Rattle.paper.specs.Bytes.{Bytes}
use Rattle.paper.specs.Bits.{Bits, ◌▹◌}
use Rattle.paper.specs.Strings.{Node}
use Rattle.paper.specs.Tree.{key, Tree, fork, nodes, common, side, build, root}
use Rattle.paper.specs.Path.{Step, End, this, other, off, none, Path, end_node, step_node, path_nodes}
use Rattle.paper.specs.Layout.{led, view, seq}
use Rattle.paper.specs.Fields.{step_field, end_of, end_field, path_field}
use Rattle.paper.specs.Audit.{AuditRecord, unchanged, opened, fresh, news, record_of, audit_record_field}
use Rattle.paper.proofs.Lists.{all_append}
use Rattle.paper.proofs.Bits.{pfx-length, length-snoc}
use Rattle.paper.proofs.Strings.{NodeSized}
use Rattle.paper.proofs.Fits.{digest-fits, epoch-fits, label-fits, prefix-fits, step_fits, path-fits}
use Rattle.paper.proofs.Tree.{Free, common-next, side-all, side-free}

-- ---- paths

cond-size : (b : Bool) (d s : Bytes) → length d ≡ wide → length s ≡ wide → length (cond b d s) ≡ wide
cond-size true d s h k = h
cond-size false d s h k = k

end-sized : (L : Bits) (m : ℕ) (e : End) → length L ≡ 256 → (end_field m).Fits e → NodeSized (end_node L e)
unfolding led end_of view seq
end-sized L m (this c e) h f = (h, (digest-fits c f.1.0.0).size, epoch-fits e f.1.0.1)
end-sized L m (other x c e) h f = (label-fits x f.1.0.0, (digest-fits c f.1.0.1.0).size, epoch-fits e f.1.0.1.1)
end-sized L m (off p l r) h f = ((prefix-fits p f.1.0.0).1, (digest-fits l f.1.0.1.0).size, (digest-fits r f.1.0.1.1).size)
end-sized L m none h f = tt

steps-sized : (L : Bits) (ss : List Step) (e : End) → All step_field.Fits ss → NodeSized (end_node L e) → All NodeSized (path_nodes L ss e)
unfolding path_nodes step_node
steps-sized L [] e h k = (k, tt)
steps-sized L (s ∷ ss) e h k =
    let f = step_fits s h.0 in
    let b = get_or L s.length false in (
      (
        omega (arith, length-take s.length L, f.short),
        cond-size b _ _ f.sibling.size (sha256-length _),
        cond-size b _ _ (sha256-length _) f.sibling.size,
      ),
      steps-sized L ss e h.1 k,
    )

pub path-sized : (L : Bits) (x : Path) → length L ≡ 256 → path_field.Fits x → All NodeSized (path_nodes L x.steps x.end)
path-sized L x h f =
    let g = path-fits x f in
    steps-sized L x.steps x.end g.each (end-sized L (length x.steps) x.end h g.last)

-- ---- trees

fork-sized : (p : Bits) (t : Bool → Tree) → length p ≤ 255 → ((b : Bool) → All NodeSized (nodes (t b))) → All NodeSized (nodes (fork p (t false) (t true)))
fork-sized p t h f = ((h, sha256-length _, sha256-length _), all_append NodeSized (nodes (t false)) _ (f false) (f true))

build-sized : (n : ℕ) (S : List Node) → Free S → All (λ y. length (key y) ≤ 256) S → All NodeSized S → All NodeSized (nodes (build n S))
unfolding build
build-sized zero S f b s = (tt, tt)
build-sized (suc n) [] f b s = (tt, tt)
build-sized (suc n) (x ∷ []) f b s = s
build-sized (suc n) (x ∷ y ∷ r) f b s =
    let S = x ∷ y ∷ r in
    let p = common x (y ∷ r) in
    let (d, w) = common-next x y r f x (inl refl) in
    fork-sized p (λ e. build n (side (p ▹ e) S)) (omega (arith, pfx-length w, length-snoc p d, b.0))
    (λ e. build-sized n (side (p ▹ e) S) (side-free _ S f) (side-all _ _ S b) (side-all _ _ S s))

pub root-sized : (S : List Node) → Free S → All (λ y. length (key y) ≤ 256) S → All NodeSized S → All NodeSized (nodes (root S))
unfolding root
root-sized S f b s = fork-sized [] (λ e. build 256 (side ([] ▹ e) S)) (omega arith)
    (λ e. build-sized 256 (side ([] ▹ e) S) (side-free _ S f) (side-all _ _ S b) (side-all _ _ S s))

-- ---- audit records

pub news-sized : (R : List AuditRecord) → All audit_record_field.Fits R → All NodeSized (news R)
unfolding news led record_of view seq
news-sized [] f = tt
news-sized (unchanged m c e ∷ R) f =
    let g = f.0.1.0.0.1 in
    ((label-fits m g.0, (digest-fits c g.1.0).size, epoch-fits e g.1.1.0), news-sized R f.1)
news-sized (opened p l r ∷ R) f =
    let g = f.0.1.0 in
    (((prefix-fits p g.0).1, (digest-fits l g.1.0).size, (digest-fits r g.1.1).size), news-sized R f.1)
news-sized (fresh m c e ∷ R) f =
    let g = f.0.1.0.0.1 in
    ((label-fits m g.0, (digest-fits c g.1.0).size, epoch-fits e g.1.1.0), news-sized R f.1)
