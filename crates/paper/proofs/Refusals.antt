-- Demand 1 over the definitions: each public entry is decided by its tests in document 01's order (specs/Refusals.antt): it answers exactly
-- where all hold, it refuses exactly by the number of the first that fails, which is one of document 01's, and a refusal leaves the state and every byte as
-- they were. Assumes nothing.
use mathlib.Core.Path.{◌≡◌, refl, sym, ap, ◌∙◌, subst}
use mathlib.Core.Logic.{inl, inr, ⊎_elim}
use Rattle.std.specs.Prelude.{Err}
use mathlib.Core.Bool.{Bool, true, false, cond, ◌&&◌}
use mathlib.Core.List.{List, [], ◌∷◌, map}
use Prim.Native.Nat.{ℕ, suc, ◌+◌, ◌/◌, ◌<◌}
use native.Mathlib.Omega.{arith}
use lib.Dec.{leb}
use lib.ListN.{length, take, drop, get_or}
use Rattle.paper.specs.Lists.{◌∈◌, All}
use Rattle.paper.specs.Numbers.{wide, update_size, INPUT, FORM, TABLE, EPOCH, CLASH, ROOM, refusal_number}
use Rattle.paper.specs.Bytes.{Bytes}
use Rattle.paper.specs.Strings.{Head}
use Rattle.paper.specs.Labelling.{Labelling, plain}
use Rattle.paper.specs.Path.{Path}
use Rattle.paper.specs.Layout.{Read, got, bad, times, parse}
use Rattle.paper.specs.Verdict.{Test, test, verdict}
use Rattle.paper.specs.Shows.{Asked, Terms, Proof, path_tests, proof_tests, input_tests}
use Rattle.paper.specs.Lookup.{lookup_field, lookup_strings, lookup_read, check_lookup, accepted_key}
use Rattle.paper.specs.History.{history_field, history_read, check_history}
use Rattle.paper.specs.Audit.{Audit, audit_field, audit_tests, audit_read, check_audit}
use Rattle.paper.specs.Table.{Record, Update, update_field, counted, head_lies, in_shape}
use Rattle.paper.specs.Publish.{start, Published, new_record, unpublished, publish_tests, publish_table, publish_batch, publish}
use Rattle.paper.specs.Write.{Written, unwritten, write_read, write_with}
use Rattle.paper.specs.Level.{Laid, laid, tree_root, tree_path}
use Rattle.paper.specs.Answer.{Reply, LookupAnswer, HistoryAnswer, AuditAnswer, reply, lookup_reply, history_reply, audit_reply, state_values, start_reply, publish_reply, write_reply, tree_reply}
use Rattle.paper.specs.Program.{line, program_line}
use Rattle.paper.specs.Refusals.{Decided, EveryEntry, reading, checker_numbers, lookup_tests, lookup_order, history_tests, history_order, audit_order, program_order, start_numbers, start_order, publish_numbers, publish_order, writer_numbers, writer_order, tree_numbers, tree_root_order, tree_path_order}
use Rattle.paper.specs.declared.State.{State}
use Rattle.paper.specs.declared.Refusal.{Refusal}
use Rattle.paper.proofs.Lists.{not-both}
use Rattle.paper.proofs.Verdicts.{no-first, first-cons, refusal-positive}
use Rattle.paper.proofs.Accepted.{gives-reply}

-- the numbers of the tests are of the list
abbrev Of : List ℕ → List Test → Type 0
Of numbers = All (λ t. refusal_number t.refusal ∈ numbers)

-- ---- the law

-- an entry's number and values, what it leaves where it refuses, which has its number only and what was given, and its numbers
record Entry (A : Type 0) : Type 0 where
  says : A → Reply
  given : List ℕ
  refused : Refusal → A
  back : (r : Refusal) → says (refused r) ≡ reply (refusal_number r) given
  numbers : List ℕ

module _ {A : Type 0} (entry : Entry A) where
  open entry use {says, given, refused, back, numbers}

  -- with no test, the answer
  answered : (answer : A) → (says answer).number ≡ 0 → Decided says given refused [] numbers answer
  answered answer z = record {
    answers = (λ _. tt, λ _. z);
    refuses = λ n d. (λ e. absurd (d (sym e ∙ z)), λ f. absurd (no-first n f));
    known = inl z;
    only = λ d. absurd (d z);
    keeps = λ d. absurd (d z);
  }

  -- behind a test that holds, as without it
  behind : (n : Refusal) (order : List Test) (left : A) → Decided says given refused order numbers left → Decided says given refused (test n true ∷ order) numbers left
  behind n order left d = record {
    answers = (λ e. (refl, d.answers.0 e), λ h. d.answers.1 h.1);
    refuses = λ k z.
        (λ e. (first-cons _ order k).1 (inr (refl, (d.refuses k z).0 e)), λ f. ⊎_elim (λ (e, _). not-both refl e) (λ (_, g). (d.refuses k z).1 g) ((first-cons _ order k).0 f));
    known = d.known;
    only = d.only;
    keeps = d.keeps;
  }

  number-back : (r : Refusal) → (says (refused r)).number ≡ refusal_number r
  number-back r = ap (λ x. x.number) (back r)

  -- at a test that fails, its refusal
  stopped : (n : Refusal) → refusal_number n ∈ numbers → (order : List Test) → Decided says given refused (test n false ∷ order) numbers (refused n)
  stopped n m order = record {
    answers = (λ e. absurd (omega (arith, refusal-positive n, number-back n)), λ h. not-both h.0 refl);
    refuses = λ k z.
        (λ e. (first-cons _ order k).1 (inl (refl, sym (number-back n) ∙ e)), λ f. ⊎_elim (λ (_, e). number-back n ∙ e) (λ (e, _). not-both e refl) ((first-cons _ order k).0 f));
    known = inr (subst (λ k. k ∈ numbers) (sym (number-back n)) m);
    only = λ _. ap (λ r. r.values) (back n);
    keeps = λ _. (n, sym (number-back n), refl);
  }

  tested : (n : Refusal) → refusal_number n ∈ numbers → (b : Bool) (order : List Test) (left : A) → Decided says given refused order numbers left
      → Decided says given refused (test n b ∷ order) numbers (cond b left (refused n))
  tested n m true order left d = behind n order left d
  tested n m false order left d = stopped n m order

  -- so a verdict is decided by its tests
  decided : (answer : A) → (says answer).number ≡ 0 → (order : List Test) → Of numbers order → Decided says given refused order numbers (verdict refused answer order)
  unfolding verdict
  decided answer z [] o = answered answer z
  decided answer z (t ∷ ts) o = tested t.refusal o.0 t.holds ts _ (decided answer z ts o.1)

-- ---- the checkers

abbrev lookups : Entry LookupAnswer
lookups = record { says = lookup_reply; given = []; refused = Err; back = λ n. refl; numbers = checker_numbers }

abbrev histories : Entry HistoryAnswer
histories = record { says = history_reply; given = []; refused = Err; back = λ n. refl; numbers = checker_numbers }

abbrev audits : Entry AuditAnswer
audits = record { says = audit_reply; given = []; refused = Err; back = λ n. refl; numbers = checker_numbers }

module _ (lab : Labelling) (d name : Bytes) where
  paths-of : (h : Head) (terms : Terms) (asked : List Asked) (ps : List Path) → Of checker_numbers (path_tests lab name h terms asked ps)
  unfolding path_tests
  paths-of h terms [] ps = tt
  paths-of h terms (a ∷ more) [] = tt
  paths-of h terms (a ∷ more) (x ∷ ps) = (inr (inr (inr (inl refl))), (inr (inr (inr (inr (inl refl)))), paths-of h terms more ps))

  proof-of : (terms : Terms) (asked : List Asked) (p : Proof) → Of checker_numbers (proof_tests lab name d terms asked p)
  unfolding proof_tests
  proof-of terms asked p = (inr (inr (inl refl)), paths-of p.head terms asked p.paths)

  lookup-read : (m : Read Proof) → Decided lookup_reply [] Err (reading FORM m (lookup_tests lab d name)) checker_numbers (lookup_read lab name d m)
  lookup-read bad = stopped lookups FORM (inr (inl refl)) []
  lookup-read (got p r) = behind lookups FORM _ _ (decided lookups _ (ap (λ r. r.number) (gives-reply lab name p.number p.head.epoch (length (lookup_strings lab name p)))) _ (proof-of _ _ p))

  history-read : (m : Read Proof) → Decided history_reply [] Err (reading FORM m (history_tests lab d name)) checker_numbers (history_read lab name d m)
  history-read bad = stopped histories FORM (inr (inl refl)) []
  history-read (got p r) = behind histories FORM _ _ (decided histories _ refl _ (proof-of _ _ p))

  pub lookup-decided : (b : Bytes) → Decided lookup_reply [] Err (lookup_order lab d name b) checker_numbers (check_lookup lab d name b)
  unfolding check_lookup input_tests verdict
  lookup-decided b = tested lookups INPUT (inl refl) _ _ _ (lookup-read (parse lookup_field b))

  pub history-decided : (b : Bytes) → Decided history_reply [] Err (history_order lab d name b) checker_numbers (check_history lab d name b)
  unfolding check_history input_tests verdict
  history-decided b = tested histories INPUT (inl refl) _ _ _ (history-read (parse history_field b))

module _ (d d' : Bytes) where
  audit-of : (a : Audit) → Of checker_numbers (audit_tests d d' a)
  unfolding audit_tests
  audit-of a =
      let root = inr (inr (inr (inl refl))) in
      let rule = inr (inr (inr (inr (inl refl)))) in
      (inr (inr (inl refl)), (inr (inr (inl refl)), (rule, (rule, (root, (root, (rule, (root, (root, tt)))))))))

  audit-read : (m : Read Audit) → Decided audit_reply [] Err (reading FORM m (audit_tests d d')) checker_numbers (audit_read d d' m)
  audit-read bad = stopped audits FORM (inr (inl refl)) []
  audit-read (got a r) = behind audits FORM _ _ (decided audits _ refl _ (audit-of a))

  pub audit-decided : (b : Bytes) → Decided audit_reply [] Err (audit_order d d' b) checker_numbers (check_audit d d' b)
  unfolding check_audit verdict
  audit-decided b = tested audits INPUT (inl refl) _ _ _ (audit-read (parse audit_field b))

-- the program prints the line of the lookup checker's answer behind a test of its own
program-decided : (b : Bytes) → (a : LookupAnswer) × (program_line b ≡ line a) × Decided lookup_reply [] Err (program_order b) checker_numbers a
unfolding program_line
program-decided b =
    let n : ℕ = get_or b wide 0 in
    let c : Bool = leb (length b) 65536 && leb (33 + n) (length b) in
    let a = check_lookup plain (take wide b) (take n (drop 33 b)) (drop (33 + n) b) in (
      cond c a (Err INPUT),
      line_of c a (Err INPUT),
      tested lookups INPUT (inl refl) c _ a (lookup-decided plain (take wide b) (take n (drop 33 b)) (drop (33 + n) b)),
    )
  where
    line_of : (c : Bool) (x y : LookupAnswer) → cond c (line x) (line y) ≡ line (cond c x y)
    line_of true x y = refl
    line_of false x y = refl

-- ---- the server

start-decided : (lab : Labelling) (heads : Bytes)
    → Decided (λ x. start_reply x.answer) [] (λ r. record { answer = Err r; heads = heads }) (start_order heads) start_numbers (start lab heads)
unfolding start
start-decided lab heads =
    decided (record { says = λ x. start_reply x.answer; given = []; refused = λ r. record { answer = Err r; heads = heads }; back = λ n. refl; numbers = start_numbers })
    _ refl _ (inl refl, tt)

module _ (lab : Labelling) (records heads : Bytes) (state : State) where
  abbrev publishings : Entry Published
  publishings = record { says = λ x. publish_reply x.answer; given = state_values state; refused = unpublished lab records heads state; back = λ n. refl; numbers = publish_numbers }

  -- of these updates and what was counted
  publish-table : (us : List Update) (m : Read (List Record))
      → Decided (λ x. publish_reply x.answer) (state_values state) (unpublished lab records heads state)
      (reading TABLE m (λ rs. publish_tests lab records heads state rs us (map (new_record lab rs (suc state.epoch)) us))) publish_numbers
      (publish_table lab records heads state us m)
  publish-table us bad = stopped publishings TABLE (inr (inl refl)) []
  publish-table us (got rs r) = behind publishings TABLE _ _
      (decided publishings _ refl _
      (inr (inl refl), (inr (inr (inl refl)), (inr (inr (inr (inl refl))), (inr (inr (inr (inr (inl refl)))), tt)))))

  publish-read : (m : Read (List Update))
      → Decided (λ x. publish_reply x.answer) (state_values state) (unpublished lab records heads state)
      (reading INPUT m (λ us. reading TABLE (counted records state.count) (λ rs. publish_tests lab records heads state rs us (map (new_record lab rs (suc state.epoch)) us)))) publish_numbers
      (publish_batch lab records heads state m)
  publish-read bad = stopped publishings INPUT (inl refl) []
  publish-read (got us r) = behind publishings INPUT _ _ (publish-table us (counted records state.count))

  publish-decided : (batch : Bytes)
      → Decided (λ x. publish_reply x.answer) (state_values state) (unpublished lab records heads state) (publish_order lab records heads state batch) publish_numbers (publish lab records heads state batch)
  unfolding publish verdict
  publish-decided batch = tested publishings INPUT (inl refl) _ _ _ (publish-read (parse (times (length batch / update_size) update_field) batch))

  -- ---- the writers

  module _ (out : Bytes) (t : ℕ) (clear : List Record → Bool) (proof : List Record → Bytes) where
    abbrev writings : Entry Written
    writings = record { says = λ x. write_reply x.answer; given = state_values state; refused = unwritten lab records heads state out; back = λ n. refl; numbers = writer_numbers }

    abbrev writer_tests : List Record → List Test
    writer_tests rs =
        test TABLE (head_lies heads state.epoch && in_shape lab state.epoch [] rs)
        ∷ test EPOCH (leb t state.epoch)
        ∷ test CLASH (clear rs)
        ∷ test ROOM (leb (length (proof rs)) (length out))
        ∷ []

    write-read : (m : Read (List Record))
        → Decided (λ x. write_reply x.answer) (state_values state) (unwritten lab records heads state out) (reading TABLE m writer_tests) writer_numbers (write_read lab records heads state out t clear proof m)
    write-read bad = stopped writings TABLE (inr (inl refl)) []
    write-read (got rs r) = behind writings TABLE _ _
        (decided writings _ refl (writer_tests rs)
        (inr (inl refl), (inr (inr (inl refl)), (inr (inr (inr (inl refl))), (inr (inr (inr (inr (inl refl)))), tt)))))

    -- the three writers are this one, each with its test of its arguments and of the trees, and its proof
    writer-decided : (input : Bool)
        → Decided (λ x. write_reply x.answer) (state_values state) (unwritten lab records heads state out) (writer_order lab records heads state out input t clear proof) writer_numbers
        (write_with lab records heads state out input t clear proof)
    unfolding write_with verdict
    writer-decided input = tested writings INPUT (inl refl) _ _ _ (write-read (counted records state.count))

-- ---- the tree level

abbrev layings : Bytes → Entry Laid
layings out = record { says = λ x. tree_reply x.answer; given = []; refused = λ r. record { answer = Err r; out = out }; back = λ n. refl; numbers = tree_numbers }

tree-root-decided : (entries out : Bytes)
    → Decided (λ x. tree_reply x.answer) [] (λ r. record { answer = Err r; out = out }) (tree_root_order entries out) tree_numbers (tree_root entries out)
unfolding tree_root laid
tree-root-decided entries out = decided (layings out) _ refl _ (inl refl, (inr (inl refl), (inr (inr (inl refl)), tt)))

tree-path-decided : (entries label : Bytes) (absent : Bool) (out : Bytes)
    → Decided (λ x. tree_reply x.answer) [] (λ r. record { answer = Err r; out = out }) (tree_path_order entries label absent out) tree_numbers (tree_path entries label absent out)
unfolding tree_path laid
tree-path-decided entries label absent out = decided (layings out) _ refl _ (inl refl, (inr (inl refl), (inr (inr (inl refl)), tt)))

-- ---- gathered

pub demand-1 : (lab : Labelling) → EveryEntry lab
demand-1 lab = record {
  check-lookup = lookup-decided lab;
  check-history = history-decided lab;
  check-audit = audit-decided;
  accepted-key = λ d name b z. let (r, q, e) = (lookup-decided lab d name b).keeps z in ap (λ a. accepted_key a b) e;
  program-line = program-decided;
  starts = start-decided lab;
  publishes = publish-decided lab;
  write-lookup = λ records heads state out name t. writer-decided lab records heads state out t _ _ _;
  write-history = λ records heads state out name t. writer-decided lab records heads state out t _ _ _;
  write-audit = λ records heads state out t. writer-decided lab records heads state out t _ _ _;
  tree-root = tree-root-decided;
  tree-path = tree-path-decided;
}
