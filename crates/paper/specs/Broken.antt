-- The rules of specs/Rules.antt in the order in which document 01 has them tested, each with the number by which it is refused; and a checker's
-- refusal with its cause: "each number .. given exactly when" the first rule that is broken has it.
use Rattle.std.specs.Prelude.{◌≡◌, ◌⊎◌, Bool, true, false, List, [], ◌∷◌, ℕ, suc, ◌-◌, ◌^◌, ◌≤◌, ◌<◌}
use Rattle.fips.specs.Sha256.{sha256}
use Rattle.paper.specs.Numbers.{INPUT, FORM, HEAD, ROOT, RULE, refusal_number}
use Rattle.paper.specs.Bytes.{Bytes}
use Rattle.paper.specs.Bits.{Bits}
use Rattle.paper.specs.Strings.{Head, head_string}
use Rattle.paper.specs.Labelling.{Labelling}
use Rattle.paper.specs.Tree.{root_digest}
use Rattle.paper.specs.Path.{this, Path, path_root, last_length}
use Rattle.paper.specs.Layout.{Layout}
use Rattle.paper.specs.Shows.{Place, in_all, in_old, as_marker, Asked, Proof, root_at, epoch_at, label_at}
use Rattle.paper.specs.Lookup.{lookup_asked, lookup_field, lookup_commitment}
use Rattle.paper.specs.History.{history_asked, history_field, history_commitment}
use Rattle.paper.specs.Audit.{Audit, audit_field, olds, news}
use Rattle.paper.specs.declared.Refusal.{Refusal}
use Rattle.paper.specs.declared.Which.TheVariants.{OfAll, OfOld}
use Rattle.paper.specs.Rules.{Bounds, HeadBounds, LaidOut, AbsentEnd, Listed, Joined}

-- a rule, and the refusal that it is refused by
pub record Rule : Type 1 where
  pub refusal : Refusal
  pub says : Type 0

abbrev pub rule : Refusal → Type 0 → Rule
rule r P = record { refusal = r; says = P }

-- the first of the rules that is broken has the number n; those before it hold
abbrev pub FirstBroken : List Rule → ℕ → Type 0
FirstBroken [] n = ⊥
FirstBroken (r ∷ rs) n = ((refusal_number r.refusal ≡ n) × ¬ r.says) ⊎ (r.says × FirstBroken rs n)

-- an end that shows a leaf with this commitment, at an epoch that obeys E; or that there is none
abbrev pub ShownEnd : Bool → Bits → Bytes → (ℕ → Type 0) → Path → Type 0
ShownEnd true L commitment E x = (e : ℕ) × (x.end ≡ this commitment e) × E e
ShownEnd false L commitment E x = AbsentEnd L (last_length x.steps) x.end

-- "lookup and history take paths in order, 4 before 5 for each"
module _ (lab : Labelling) (name : Bytes) (h : Head) (commitment : Place → Bytes) (E : Place → ℕ → Type 0) where
  abbrev pub paths_in_order : List Asked → List Path → List Rule
  paths_in_order [] ps = []
  paths_in_order (a ∷ more) [] = []
  paths_in_order (a ∷ more) (x ∷ ps) =
      rule ROOT (path_root (label_at lab name a.place) x ≡ root_at h a.place)
      ∷ rule RULE (ShownEnd a.there (label_at lab name a.place) (commitment a.place) (E a.place) x)
      ∷ paths_in_order more ps

-- "A rule that joins paths is tested at the later one."
abbrev pub LookupEpoch : Proof → Place → ℕ → Type 0
LookupEpoch p (in_all v) e = (v ≤ e) × (e ≤ p.head.epoch)
LookupEpoch p (in_old v) e = Unit {0}
LookupEpoch p (as_marker j) e = (2 ^ j ≤ e) × (e ≤ epoch_at p 1)

abbrev pub HistoryEpoch : Proof → Place → ℕ → Type 0
HistoryEpoch p (in_all i) e = (epoch_at p (i - 1) < e) × (e ≤ p.head.epoch)
HistoryEpoch p (in_old i) e = e ≡ epoch_at p (suc i)
HistoryEpoch p (as_marker j) e = e ≡ epoch_at p (2 ^ j)

module _ (lab : Labelling) (d name : Bytes) (p : Proof) where
  abbrev pub lookup_in_order : List Rule
  lookup_in_order =
      rule HEAD (sha256 (head_string p.head) ≡ d)
      ∷ paths_in_order lab name p.head (lookup_commitment p) (LookupEpoch p) (lookup_asked p.number) p.paths

  abbrev pub history_in_order : List Rule
  history_in_order =
      rule HEAD (sha256 (head_string p.head) ≡ d)
      ∷ paths_in_order lab name p.head (history_commitment p) (HistoryEpoch p) (history_asked p.number p.head.epoch) p.paths

-- "Audits test the old head, the new head, the rules joining the heads, then per tree its list rules, old root, new root."
abbrev pub audit_in_order : Bytes → Bytes → Audit → List Rule
audit_in_order d d' a =
    rule HEAD (sha256 (head_string a.before) ≡ d)
    ∷ rule HEAD (sha256 (head_string a.after) ≡ d')
    ∷ rule RULE (Joined d a.before a.after)
    ∷ rule RULE (Listed OfAll a.before.epoch a.after.epoch a.all)
    ∷ rule ROOT (root_digest (olds a.all) ≡ a.before.all)
    ∷ rule ROOT (root_digest (news a.all) ≡ a.after.all)
    ∷ rule RULE (Listed OfOld a.before.epoch a.after.epoch a.old)
    ∷ rule ROOT (root_digest (olds a.old) ≡ a.before.old)
    ∷ rule ROOT (root_digest (news a.old) ≡ a.after.old)
    ∷ []

-- ---- refused

-- a checker's refusal by n, with its cause: 1, the arguments are out of bounds; or they are not, and, 2, no value has the layout; or one has
-- it, and n is the number of the first of its rules that is broken
pub data Refuses {A : Type 0} (InBounds : Type 0) (field : Layout A) (rules : A → List Rule) (b : Bytes) (n : ℕ) : Type 0 where
  by-input : n ≡ refusal_number INPUT → ¬ InBounds → Refuses InBounds field rules b n
  by_form : n ≡ refusal_number FORM → InBounds → ((x : A) → ¬ LaidOut field x b) → Refuses InBounds field rules b n
  by-rule : InBounds → (x : A) → LaidOut field x b → FirstBroken (rules x) n → Refuses InBounds field rules b n

abbrev pub LookupRefuses : Labelling → Bytes → Bytes → Bytes → ℕ → Type 0
LookupRefuses lab d name = Refuses (Bounds d name) lookup_field (lookup_in_order lab d name)

abbrev pub HistoryRefuses : Labelling → Bytes → Bytes → Bytes → ℕ → Type 0
HistoryRefuses lab d name = Refuses (Bounds d name) history_field (history_in_order lab d name)

abbrev pub AuditRefuses : Bytes → Bytes → Bytes → ℕ → Type 0
AuditRefuses d d' = Refuses (HeadBounds d d') audit_field (audit_in_order d d')
