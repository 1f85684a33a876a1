-- What it means that a path, a lookup or a history proof fits its layout, field by field. Assumes nothing.
use mathlib.Core.Path.{◌≡◌, ap}
use mathlib.Core.List.{List, [], ◌∷◌}
use mathlib.Core.Bool.{true}
use Prim.Native.Nat.{ℕ, suc, ◌^◌, ◌≤◌, ◌<◌}
use native.Mathlib.Omega.{arith}
use lib.ListN.{length, get_or}
use Rattle.fips.specs.Sha256.{sha256}
use Rattle.fips.proofs.Size.{sha256-length, sha256-byte}
use Rattle.paper.specs.Lists.{All}
use Rattle.paper.specs.Numbers.{wide, version_most}
use Rattle.paper.specs.Bytes.{Bytes, Bytewise}
use Rattle.paper.specs.Bits.{Bits, pack}
use Rattle.paper.specs.Strings.{Head}
use Rattle.paper.specs.Path.{Step, Path}
use Rattle.paper.specs.Layout.{block, within, seq, led, times, such, view}
use Rattle.paper.specs.Fields.{digest_field, epoch_field, label_field, prefix_field, head_field, step_field, rise, end_field, path_field}
use Rattle.paper.specs.Shows.{Item, item_field, Proof, proof_field, Asked}
pub use Rattle.paper.specs.Standing.{Wide, ItemFits}
use Rattle.paper.proofs.Bytes.{bits_of-length, pack-length}
use Rattle.paper.proofs.Strings.{HeadSized}

bytes-all : (s : Bytes) → ((i : ℕ) → get_or s i 0 < 256) → Bytewise s
bytes-all [] h = tt
bytes-all (b ∷ s) h = (h 0, bytes-all s (λ i. h (suc i)))

-- so is a digest
pub digest-wide : (s : Bytes) → Wide (sha256 s)
digest-wide s = record { size = sha256-length s; bytes = bytes-all (sha256 s) (sha256-byte s) }

pub digest-fits : (x : Bytes) → digest_field.Fits x → Wide x
unfolding block
digest-fits x f = record { size = f.0; bytes = f.1 }

pub epoch-fits : (n : ℕ) → epoch_field.Fits n → n < 2 ^ 32
unfolding within
epoch-fits n f = omega arith

pub label-fits : (m : Bits) → label_field.Fits m → length m ≡ 256
unfolding view
label-fits m f = omega (arith, ap length f.1, bits_of-length (pack wide m), pack-length wide m)

pub prefix-fits : (p : Bits) → prefix_field.Fits p → (1 ≤ length p) × (length p ≤ 255)
unfolding led within
prefix-fits p f = (f.0.0, f.0.1)

pub head-fits : (h : Head) → head_field.Fits h → HeadSized h
unfolding view seq
head-fits h f = (
  epoch-fits h.epoch f.0.0,
  (digest-fits h.previous f.0.1.0).size,
  (digest-fits h.all f.0.1.1.0).size,
  (digest-fits h.old f.0.1.1.1).size,
)

pub record StepFits (s : Step) : Type 0 where
  pub short : s.length ≤ 255
  pub sibling : Wide s.sibling

pub step_fits : (s : Step) → step_field.Fits s → StepFits s
unfolding view seq within
step_fits s f = record { short = f.0.0.1; sibling = digest-fits s.sibling f.0.1 }

pub record PathFits (x : Path) : Type 0 where
  pub least : 1 ≤ length x.steps
  pub most : length x.steps ≤ 256
  pub each : All step_field.Fits x.steps
  pub rises : rise x.steps ≡ true
  pub last : (end_field (length x.steps)).Fits x.end

pub path-fits : (x : Path) → path_field.Fits x → PathFits x
unfolding led within view seq such times
path-fits x f = record { least = f.0.0; most = f.0.1; each = f.1.0.0.0.1; rises = f.1.0.0.1; last = f.1.0.1 }

pub item-fits : (i : Item) → item_field.Fits i → ItemFits i
unfolding view seq led within block
item-fits i f = record { least = f.0.0.0.0; most = f.0.0.0.1; bytes = f.0.0.1.1; opening = digest-fits i.opening f.0.1 }

pub record ProofFits (keys : ℕ → ℕ) (asked : ℕ → ℕ → List Asked) (p : Proof) : Type 0 where
  pub head : head_field.Fits p.head
  pub small : p.number ≤ version_most
  pub keyed : length p.items ≡ keys p.number
  pub items : All item_field.Fits p.items
  pub counted : length p.paths ≡ length (asked p.number p.head.epoch)
  pub paths : All path_field.Fits p.paths

pub proof-fits : (kind : ℕ) (keys : ℕ → ℕ) (asked : ℕ → ℕ → List Asked) (p : Proof) → (proof_field kind keys asked).Fits p → ProofFits keys asked p
unfolding view seq times within
proof-fits kind keys asked p f =
    let g = f.0.1 in
    record {
      head = g.0;
      small = g.1.0.1;
      keyed = g.1.1.0.0;
      items = g.1.1.0.1;
      counted = g.1.1.1.0;
      paths = g.1.1.1.1;
    }
