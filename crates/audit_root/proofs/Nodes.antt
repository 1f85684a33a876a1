-- The nodes of records, and the trees over them: two sides joined are the tree over both. Assumes nothing.
use mathlib.Core.Path.{◌≡◌, refl, sym, ap, ap₂, ◌∙◌}
use mathlib.Core.Logic.{◌⊎◌, inl, inr, ⊎_elim}
use mathlib.Core.Bool.{Bool, true, false}
use mathlib.Core.List.{List, [], ◌∷◌, ◌++◌, append-nil, cons≢nil}
use Prim.Native.Nat.{suc, ◌+◌, ◌*◌, ◌≤◌}
use native.Mathlib.Omega.{arith}
use lib.ListN.{length, length-append}
use Rattle.std.specs.Prelude.{Option, None, Some}
use Rattle.paper.specs.Lists.{All}
use Rattle.paper.specs.Numbers.{wide}
use Rattle.paper.specs.Bits.{Bits, pack}
use Rattle.paper.specs.Strings.{Node}
use Rattle.paper.specs.Tree.{key, Tree, fork, nodes, build, root}
use Rattle.paper.specs.Audit.{AuditRecord, unchanged, opened, fresh, record_key, olds, news}
use Rattle.paper.proofs.Tree.{Free, Below, below_none}
use Rattle.paper.proofs.Order.{Before}
use Rattle.bit_order.proofs.Order.{Ordered}
use Rattle.bit_order.proofs.Sides.{Parts, root-parts, build-parts, build-few}
use Rattle.audit_root.specs.Built.{built, grown, hashed, or_nothing, joined, forked, nodes_of, record_node}
use Rattle.audit_root.specs.declared.Built.{Built}

-- ---- the nodes of records

pub node-key : (r : AuditRecord) → key (record_node r) ≡ record_key r
node-key (unchanged m c e) = refl
node-key (opened p l r) = refl
node-key (fresh m c e) = refl

-- a record gives its node or none
nodes-cons : (new : Bool) (r : AuditRecord) (R : List AuditRecord) → (nodes_of new (r ∷ R) ≡ nodes_of new R) ⊎ (nodes_of new (r ∷ R) ≡ record_node r ∷ nodes_of new R)
unfolding olds news
nodes-cons true (unchanged m c e) R = inr refl
nodes-cons true (opened p l r) R = inr refl
nodes-cons true (fresh m c e) R = inr refl
nodes-cons false (unchanged m c e) R = inr refl
nodes-cons false (opened p l r) R = inr refl
nodes-cons false (fresh m c e) R = inl refl

nodes-none : (new : Bool) → nodes_of new [] ≡ []
unfolding olds news
nodes-none true = refl
nodes-none false = refl

pub nodes-all : (P : Bits → Type 0) (new : Bool) (R : List AuditRecord) → All (λ r. P (record_key r)) R → All (λ x. P (key x)) (nodes_of new R)
nodes-all P new [] h = rw (nodes-none new) tt
nodes-all P new (r ∷ R) h = ⊎_elim (λ e. rw e (nodes-all P new R h.1)) (λ e. rw e (rw (node-key r) h.0, nodes-all P new R h.1)) (nodes-cons new r R)

pub nodes-ordered : (new : Bool) (R : List AuditRecord) → Ordered record_key R → Ordered key (nodes_of new R)
nodes-ordered new [] h = rw (nodes-none new) tt
nodes-ordered new (r ∷ R) h = ⊎_elim
    (λ e. rw e (nodes-ordered new R h.1))
    (λ e. rw e (rw (node-key r) (nodes-all (Before (record_key r)) new R h.0), nodes-ordered new R h.1))
    (nodes-cons new r R)

pub nodes-most : (new : Bool) (R : List AuditRecord) → length (nodes_of new R) ≤ length R
nodes-most new [] = rw (nodes-none new) (omega arith)
nodes-most new (r ∷ R) = ⊎_elim (λ e. rw e (omega (arith, nodes-most new R))) (λ e. rw e (omega (arith, nodes-most new R))) (nodes-cons new r R)

pub nodes-append : (new : Bool) (R Q : List AuditRecord) → nodes_of new (R ++ Q) ≡ nodes_of new R ++ nodes_of new Q
unfolding olds news
nodes-append true [] Q = refl
nodes-append true (unchanged m c e ∷ R) Q = ap (λ l. record_node (unchanged m c e) ∷ l) (nodes-append true R Q)
nodes-append true (opened p l r ∷ R) Q = ap (λ t. record_node (opened p l r) ∷ t) (nodes-append true R Q)
nodes-append true (fresh m c e ∷ R) Q = ap (λ l. record_node (fresh m c e) ∷ l) (nodes-append true R Q)
nodes-append false [] Q = refl
nodes-append false (unchanged m c e ∷ R) Q = ap (λ l. record_node (unchanged m c e) ∷ l) (nodes-append false R Q)
nodes-append false (opened p l r ∷ R) Q = ap (λ t. record_node (opened p l r) ∷ t) (nodes-append false R Q)
nodes-append false (fresh m c e ∷ R) Q = nodes-append false R Q

-- ---- the trees over them

pub grown-few : (S : List Node) → Free S → hashed (grown S) ≤ 2 * length S
unfolding grown
grown-few [] f = omega arith
grown-few (x ∷ S) f = omega (arith, build-few 256 (x ∷ S) f (λ e. cons≢nil e))

joined-fork : (p : Bits) (l r : Tree) → joined (length p) (pack wide p) (built l) (built r) ≡ built (fork p l r)
joined-fork p l r =
    let e : length (nodes l) + length (nodes r) + 1 ≡ suc (length (nodes l ++ nodes r)) = omega (arith, length-append (nodes l) (nodes r)) in
    ap (λ n. record { digest = (built (fork p l r)).digest; count = n }) e

pub fork-grown : (p : Bits) (S T : List Node) → Parts p S T → Below (S ++ T) → grown (S ++ T) ≡ forked (length p) (pack wide p) (grown S) (grown T)
unfolding grown forked
fork-grown p [] T h b = refl
fork-grown p (x ∷ S) [] h b = rw (append-nil S)
fork-grown p (x ∷ S) (y ∷ T) h b = rw (build-parts p x S y T h b) (ap Some (sym (joined-fork p (build 256 (x ∷ S)) (build 256 (y ∷ T)))))

pub or-few : (b : Option Built) → (or_nothing b).count ≤ hashed b + 1
unfolding or_nothing
or-few None = omega arith
or-few (Some b) = omega arith

side-built : (S : List Node) → or_nothing (grown S) ≡ built (build 256 S)
unfolding grown or_nothing
side-built [] = ap built (sym below_none)
side-built (x ∷ S) = refl

pub root-grown : (S T : List Node) → Parts [] S T → joined 0 (pack wide []) (or_nothing (grown S)) (or_nothing (grown T)) ≡ built (root (S ++ T))
root-grown S T h =
    ap₂ (joined 0 (pack wide [])) (side-built S) (side-built T) ∙ joined-fork [] (build 256 S) (build 256 T) ∙ ap built (sym (root-parts S T h))
