-- How values stand in bytes. A layout says three things at once: which values it holds (`Fits`: the document's ranges), their
-- bytes, and how bytes are read. proofs/Layouts.antt shows that for each layout built here reading and writing are inverse: the
-- bytes of a value that fits are read as that value, and what is read fits and has just those bytes. So "the bytes have the
-- layout" means that some value that fits has these bytes, and reading finds it.
use Rattle.std.specs.Prelude.{◌≡◌, Bool, true, false, cond, ◌&&◌, List, [], ◌∷◌, ◌++◌, ℕ, zero, suc, ◌^◌, ◌≤◌, ◌<◌, leb, length, take, drop}
use Rattle.paper.specs.Lists.{All}
use Rattle.paper.specs.Bytes.{Bytes, Bytewise, be, number, same}

-- a value and the bytes behind it, or no value
pub data Read (A : Type 0) : Type 0 where
  got : A → Bytes → Read A
  bad : Read A

pub record Layout (A : Type 0) : Type 1 where
  pub Fits : A → Type 0
  pub bytes : A → Bytes
  pub read : Bytes → Read A

-- go on with what was read
abbrev pub and_then : {A B : Type 0} → Read A → (A → Bytes → Read B) → Read B
and_then (got x r) f = f x r
and_then bad f = bad

-- n bytes, whatever they are
unfoldable pub block : ℕ → Layout Bytes
block n = record {
  Fits = λ x. (length x ≡ n) × Bytewise x;
  bytes = λ x. x;
  read = λ b. cond (leb n (length b)) (got (take n b) (drop n b)) bad;
}

-- these very bytes
unfoldable pub fixed : Bytes → Layout (Unit {0})
fixed s = record {
  Fits = λ x. Unit {0};
  bytes = λ x. s;
  read = λ b. cond (same (take (length s) b) s) (got tt (drop (length s) b)) bad;
}

-- a number in k bytes, from low to high
unfoldable pub within : ℕ → ℕ → ℕ → Layout ℕ
within k low high = record {
  Fits = λ n. (low ≤ n) × (n ≤ high) × (n < 256 ^ k);
  bytes = λ n. be k n;
  read = λ b. cond (leb k (length b) && (leb low (number (take k b)) && leb (number (take k b)) high)) (got (number (take k b)) (drop k b)) bad;
}

-- one behind the other; the second may depend on the first
unfoldable pub seq : {A B : Type 0} → Layout A → (A → Layout B) → Layout (A × B)
seq a b = record {
  Fits = λ x. a.Fits x.0 × (b x.0).Fits x.1;
  bytes = λ x. a.bytes x.0 ++ (b x.0).bytes x.1;
  read = λ s. and_then (a.read s) (λ x r. and_then ((b x).read r) (λ y q. got (x, y) q));
}

-- a number that the value determines (a length, a count, a kind), and behind it what it says
unfoldable pub led : {A : Type 0} → Layout ℕ → (A → ℕ) → (ℕ → Layout A) → Layout A
led n size a = record {
  Fits = λ x. n.Fits (size x) × (a (size x)).Fits x;
  bytes = λ x. n.bytes (size x) ++ (a (size x)).bytes x;
  read = λ s. and_then (n.read s) (λ k r. (a k).read r);
}

-- the first n values of a layout, one behind the other
unfoldable pub times_read : {A : Type 0} → (Bytes → Read A) → ℕ → Bytes → Read (List A)
times_read read zero s = got [] s
times_read read (suc n) s = and_then (read s) (λ x r. and_then (times_read read n r) (λ l q. got (x ∷ l) q))

unfoldable pub times_bytes : {A : Type 0} → (A → Bytes) → List A → Bytes
times_bytes bytes [] = []
times_bytes bytes (x ∷ l) = bytes x ++ times_bytes bytes l

unfoldable pub times : {A : Type 0} → ℕ → Layout A → Layout (List A)
times n a = record {
  Fits = λ l. (length l ≡ n) × All a.Fits l;
  bytes = times_bytes a.bytes;
  read = times_read a.read n;
}

-- those that pass a test
unfoldable pub such : {A : Type 0} → Layout A → (A → Bool) → Layout A
such a test = record {
  Fits = λ x. a.Fits x × (test x ≡ true);
  bytes = a.bytes;
  read = λ s. and_then (a.read s) (λ x r. cond (test x) (got x r) bad);
}

-- the same in other words: `to` takes a value over, `from` takes it back
unfoldable pub view : {A B : Type 0} → Layout A → (A → B) → (B → A) → Layout B
view a to from = record {
  Fits = λ y. a.Fits (from y) × (to (from y) ≡ y);
  bytes = λ y. a.bytes (from y);
  read = λ s. and_then (a.read s) (λ x r. got (to x) r);
}

-- no value at all
unfoldable pub never : {A : Type 0} → Layout A
never = record { Fits = λ x. ⊥; bytes = λ x. []; read = λ s. bad }

-- "Nothing may follow the last field.": the value of the whole bytes
abbrev pub whole : {A : Type 0} → Read A → Read A
whole (got x []) = got x []
whole (got x (b ∷ r)) = bad
whole bad = bad

abbrev pub parse : {A : Type 0} → Layout A → Bytes → Read A
parse a s = whole (a.read s)

-- whether bytes have a layout: whether a value was read
abbrev pub in_layout : {A : Type 0} → Read A → Bool
in_layout (got x r) = true
in_layout bad = false

-- reading and writing are inverse: the bytes of a value that fits are read as that value, and what is read fits and has just those bytes
pub record Lawful {A : Type 0} (a : Layout A) : Type 0 where
  pub reads : (x : A) (r : Bytes) → a.Fits x → a.read (a.bytes x ++ r) ≡ got x r
  pub tells : (s : Bytes) (x : A) (r : Bytes) → Bytewise s → a.read s ≡ got x r → a.Fits x × (a.bytes x ++ r ≡ s)
