-- Publishing does something: a first batch of one update, into tables that starting left, gives the state of one record at epoch 1, lays the
-- record into its slot and the head of epoch 1 into its own. By computation down to SHA-256. The bytes are those of tests/server.py. Assumes nothing.
use mathlib.Core.Path.{◌≡◌, refl, ap, ap₂, ◌∙◌}
use mathlib.Core.Bool.{true, ◌&&◌}
use mathlib.Core.List.{[], ◌∷◌, flat_map}
use Rattle.fips.specs.Sha256.{sha256}
use Rattle.paper.specs.Lists.{every, some, keep}
use Rattle.paper.specs.Numbers.{INPUT}
use Rattle.paper.specs.Bytes.{Bytes, be, zeros, number, same, pasted}
use Rattle.paper.specs.Bits.{to_bits, bits_of, starts, lcp, top_power, log2}
use Rattle.paper.specs.Strings.{leaf, head_string}
use Rattle.paper.specs.Labelling.{plain}
use Rattle.paper.specs.Tree.{common, side, build, root, root_digest}
use Rattle.paper.specs.Path.{same_bits}
use Rattle.paper.specs.Layout.{got, block, fixed, within, seq, led, times, times_read, times_bytes, such, view, parse}
use Rattle.paper.specs.Fields.{is_name}
use Rattle.paper.specs.Verdict.{test}
use Rattle.paper.specs.Table.{Record, Update, update_field, records_within, heads_within, head_at, counted, head_lies, by_epoch, last_version, own_records, in_shape, all_leaves, old_leaves, all_at, old_at, head_digest, holds, distinct}
use Rattle.paper.specs.Publish.{once, publish_tests, publish_batch, batch_within, publish}
use Rattle.paper.specs.declared.State.{State}
use Rattle.std.specs.Prelude.{Ok}
use Rattle.paper.proofs.Verdicts.{Hold, verdict-all}
use Rattle.worked_arrow.proofs.Digests as D
use Rattle.worked_arrow.proofs.Digests.{name, key-1, opening-1, label-1, mark-0, commitment-1, prefix, all-1, old-1, before, over}

-- what starting left in a table of two heads, and a table of one record
abbrev begun : Bytes
begun = 90 ∷ 130 ∷ 232 ∷ 110 ∷ 236 ∷ 79 ∷ 141 ∷ 195 ∷ 212 ∷ 48 ∷ 213 ∷ 125 ∷ 72 ∷ 225 ∷ 238 ∷ 59 ∷ 20 ∷ 25 ∷ 96 ∷ 46 ∷ 48 ∷ 112 ∷ 7 ∷ 62 ∷ 2 ∷ 61 ∷ 51 ∷ 155 ∷ 104 ∷ 24 ∷ 108 ∷ 132 ∷ 0 ∷ 0 ∷ 0 ∷ 0 ∷ 0 ∷ 0 ∷ 0 ∷ 0 ∷ 0 ∷ 0 ∷ 0 ∷ 0 ∷ 0 ∷ 0 ∷ 0 ∷ 0 ∷ 0 ∷ 0 ∷ 0 ∷ 0 ∷ 0 ∷ 0 ∷ 0 ∷ 0 ∷ 0 ∷ 0 ∷ 0 ∷ 0 ∷ 0 ∷ 0 ∷ 0 ∷ 0 ∷ []

abbrev none : State
none = record { count = 0; epoch = 0 }

abbrev batch : Bytes
batch = 3 ∷ 105 ∷ 100 ∷ 97 ∷ 0 ∷ 0 ∷ 0 ∷ 0 ∷ 0 ∷ 0 ∷ 0 ∷ 0 ∷ 0 ∷ 0 ∷ 0 ∷ 0 ∷ 0 ∷ 0 ∷ 0 ∷ 0 ∷ 0 ∷ 0 ∷ 0 ∷ 0 ∷ 0 ∷ 0 ∷ 0 ∷ 0 ∷ 0 ∷ 0 ∷ 0 ∷ 0 ∷ 0 ∷ 0 ∷ 0 ∷ 0 ∷ 0 ∷ 0 ∷ 0 ∷ 0 ∷ 0 ∷ 0 ∷ 0 ∷ 0 ∷ 0 ∷ 0 ∷ 0 ∷ 0 ∷ 0 ∷ 0 ∷ 0 ∷ 0 ∷ 0 ∷ 0 ∷ 0 ∷ 0 ∷ 0 ∷ 0 ∷ 0 ∷ 0 ∷ 0 ∷ 0 ∷ 0 ∷ 0 ∷ 0 ∷ 5 ∷ 102 ∷ 105 ∷ 114 ∷ 115 ∷ 116 ∷ 0 ∷ 0 ∷ 0 ∷ 0 ∷ 0 ∷ 0 ∷ 0 ∷ 0 ∷ 0 ∷ 0 ∷ 0 ∷ 0 ∷ 0 ∷ 0 ∷ 0 ∷ 0 ∷ 0 ∷ 0 ∷ 0 ∷ 0 ∷ 0 ∷ 0 ∷ 0 ∷ 0 ∷ 0 ∷ 0 ∷ 0 ∷ 0 ∷ 0 ∷ 0 ∷ 0 ∷ 0 ∷ 0 ∷ 0 ∷ 0 ∷ 0 ∷ 0 ∷ 0 ∷ 0 ∷ 0 ∷ 0 ∷ 0 ∷ 0 ∷ 0 ∷ 0 ∷ 0 ∷ 0 ∷ 0 ∷ 0 ∷ 0 ∷ 0 ∷ 0 ∷ 0 ∷ 0 ∷ 0 ∷ 0 ∷ 0 ∷ 0 ∷ 0 ∷ 7 ∷ 7 ∷ 7 ∷ 7 ∷ 7 ∷ 7 ∷ 7 ∷ 7 ∷ 7 ∷ 7 ∷ 7 ∷ 7 ∷ 7 ∷ 7 ∷ 7 ∷ 7 ∷ 7 ∷ 7 ∷ 7 ∷ 7 ∷ 7 ∷ 7 ∷ 7 ∷ 7 ∷ 7 ∷ 7 ∷ 7 ∷ 7 ∷ 7 ∷ 7 ∷ 7 ∷ 7 ∷ []

abbrev update : Update
update = record { name = name; key = key-1; opening = opening-1 }

abbrev first : Record
first = record { name = name; version = 1; epoch = 1; key = key-1; opening = opening-1 }

batch-read : parse (times 1 update_field) batch ≡ got (update ∷ []) []
unfolding every be number same block fixed within seq led times times_read such view is_name
batch-read = refl

-- ---- the leaves of epoch 1, and its head

leaves : all_at plain 1 (first ∷ []) ≡ leaf (bits_of label-1) commitment-1 1 ∷ leaf (bits_of mark-0) (zeros 32) 1 ∷ []
unfolding keep flat_map by_epoch all_leaves top_power log2
leaves = λ i. leaf (bits_of (D.label-1-is i)) (D.commitment-1-is i) 1 ∷ leaf (bits_of (D.mark-0-is i)) (zeros 32) 1 ∷ []

unclashed : distinct (all_at plain 1 (first ∷ [])) && distinct (old_at plain 1 (first ∷ [])) ≡ true
unfolding keep flat_map by_epoch old_leaves distinct holds some same_bits starts to_bits bits_of
unclashed = ap (λ l. distinct l && distinct (old_at plain 1 (first ∷ []))) leaves

all-is : root_digest (all_at plain 1 (first ∷ [])) ≡ all-1
unfolding keep starts lcp to_bits bits_of common side build root
all-is = ap root_digest leaves ∙ over [] (over prefix D.leaf-1-is D.marker-0-is D.pair-1-is) D.empty-is D.all-1-is

old-is : root_digest (old_at plain 1 (first ∷ [])) ≡ old-1
unfolding keep flat_map by_epoch old_leaves side build root
old-is = over [] D.empty-is D.empty-is D.old-1-is

head-is : head_digest plain begun 1 (first ∷ []) ≡ before
unfolding head_at
head-is = ap₂ (λ a o. sha256 (head_string (record { epoch = 1; previous = head_at begun 0; all = a; old = o }))) all-is old-is ∙ D.before-is

-- ---- publishing

tests-hold : Hold (publish_tests plain (zeros 168) begun none [] (update ∷ []) (first ∷ []))
unfolding every some head_lies in_shape once
tests-hold = (refl, (refl, (refl, (unclashed, tt))))

pub first-batch : publish plain (zeros 168) begun none batch ≡ record {
  answer = Ok (record { count = 1; epoch = 1 });
  records = 3 ∷ 105 ∷ 100 ∷ 97 ∷ 0 ∷ 0 ∷ 0 ∷ 0 ∷ 0 ∷ 0 ∷ 0 ∷ 0 ∷ 0 ∷ 0 ∷ 0 ∷ 0 ∷ 0 ∷ 0 ∷ 0 ∷ 0 ∷ 0 ∷ 0 ∷ 0 ∷ 0 ∷ 0 ∷ 0 ∷ 0 ∷ 0 ∷ 0 ∷ 0 ∷ 0 ∷ 0 ∷ 0 ∷ 0 ∷ 0 ∷ 0 ∷ 0 ∷ 0 ∷ 0 ∷ 0 ∷ 0 ∷ 0 ∷ 0 ∷ 0 ∷ 0 ∷ 0 ∷ 0 ∷ 0 ∷ 0 ∷ 0 ∷ 0 ∷ 0 ∷ 0 ∷ 0 ∷ 0 ∷ 0 ∷ 0 ∷ 0 ∷ 0 ∷ 0 ∷ 0 ∷ 0 ∷ 0 ∷ 0 ∷ 0 ∷ 0 ∷ 1 ∷ 0 ∷ 0 ∷ 0 ∷ 1 ∷ 5 ∷ 102 ∷ 105 ∷ 114 ∷ 115 ∷ 116 ∷ 0 ∷ 0 ∷ 0 ∷ 0 ∷ 0 ∷ 0 ∷ 0 ∷ 0 ∷ 0 ∷ 0 ∷ 0 ∷ 0 ∷ 0 ∷ 0 ∷ 0 ∷ 0 ∷ 0 ∷ 0 ∷ 0 ∷ 0 ∷ 0 ∷ 0 ∷ 0 ∷ 0 ∷ 0 ∷ 0 ∷ 0 ∷ 0 ∷ 0 ∷ 0 ∷ 0 ∷ 0 ∷ 0 ∷ 0 ∷ 0 ∷ 0 ∷ 0 ∷ 0 ∷ 0 ∷ 0 ∷ 0 ∷ 0 ∷ 0 ∷ 0 ∷ 0 ∷ 0 ∷ 0 ∷ 0 ∷ 0 ∷ 0 ∷ 0 ∷ 0 ∷ 0 ∷ 0 ∷ 0 ∷ 0 ∷ 0 ∷ 0 ∷ 0 ∷ 7 ∷ 7 ∷ 7 ∷ 7 ∷ 7 ∷ 7 ∷ 7 ∷ 7 ∷ 7 ∷ 7 ∷ 7 ∷ 7 ∷ 7 ∷ 7 ∷ 7 ∷ 7 ∷ 7 ∷ 7 ∷ 7 ∷ 7 ∷ 7 ∷ 7 ∷ 7 ∷ 7 ∷ 7 ∷ 7 ∷ 7 ∷ 7 ∷ 7 ∷ 7 ∷ 7 ∷ 7 ∷ [];
  heads = 90 ∷ 130 ∷ 232 ∷ 110 ∷ 236 ∷ 79 ∷ 141 ∷ 195 ∷ 212 ∷ 48 ∷ 213 ∷ 125 ∷ 72 ∷ 225 ∷ 238 ∷ 59 ∷ 20 ∷ 25 ∷ 96 ∷ 46 ∷ 48 ∷ 112 ∷ 7 ∷ 62 ∷ 2 ∷ 61 ∷ 51 ∷ 155 ∷ 104 ∷ 24 ∷ 108 ∷ 132 ∷ 220 ∷ 123 ∷ 234 ∷ 132 ∷ 165 ∷ 228 ∷ 46 ∷ 31 ∷ 4 ∷ 125 ∷ 16 ∷ 27 ∷ 153 ∷ 148 ∷ 95 ∷ 4 ∷ 77 ∷ 239 ∷ 169 ∷ 232 ∷ 208 ∷ 39 ∷ 196 ∷ 57 ∷ 118 ∷ 30 ∷ 154 ∷ 123 ∷ 146 ∷ 238 ∷ 89 ∷ 24 ∷ [];
}
unfolding publish records_within heads_within batch_within counted times times_read own_records keep last_version pasted times_bytes view seq led within block fixed such be
first-batch =
    verdict-all _ _ (test INPUT true ∷ []) (refl, tt)
    ∙ ap (publish_batch plain (zeros 168) begun none) batch-read
    ∙ verdict-all _ _ _ tests-hold
    ∙ (λ i. record { answer = Ok (record { count = 1; epoch = 1 }); records = 3 ∷ 105 ∷ 100 ∷ 97 ∷ 0 ∷ 0 ∷ 0 ∷ 0 ∷ 0 ∷ 0 ∷ 0 ∷ 0 ∷ 0 ∷ 0 ∷ 0 ∷ 0 ∷ 0 ∷ 0 ∷ 0 ∷ 0 ∷ 0 ∷ 0 ∷ 0 ∷ 0 ∷ 0 ∷ 0 ∷ 0 ∷ 0 ∷ 0 ∷ 0 ∷ 0 ∷ 0 ∷ 0 ∷ 0 ∷ 0 ∷ 0 ∷ 0 ∷ 0 ∷ 0 ∷ 0 ∷ 0 ∷ 0 ∷ 0 ∷ 0 ∷ 0 ∷ 0 ∷ 0 ∷ 0 ∷ 0 ∷ 0 ∷ 0 ∷ 0 ∷ 0 ∷ 0 ∷ 0 ∷ 0 ∷ 0 ∷ 0 ∷ 0 ∷ 0 ∷ 0 ∷ 0 ∷ 0 ∷ 0 ∷ 0 ∷ 0 ∷ 1 ∷ 0 ∷ 0 ∷ 0 ∷ 1 ∷ 5 ∷ 102 ∷ 105 ∷ 114 ∷ 115 ∷ 116 ∷ 0 ∷ 0 ∷ 0 ∷ 0 ∷ 0 ∷ 0 ∷ 0 ∷ 0 ∷ 0 ∷ 0 ∷ 0 ∷ 0 ∷ 0 ∷ 0 ∷ 0 ∷ 0 ∷ 0 ∷ 0 ∷ 0 ∷ 0 ∷ 0 ∷ 0 ∷ 0 ∷ 0 ∷ 0 ∷ 0 ∷ 0 ∷ 0 ∷ 0 ∷ 0 ∷ 0 ∷ 0 ∷ 0 ∷ 0 ∷ 0 ∷ 0 ∷ 0 ∷ 0 ∷ 0 ∷ 0 ∷ 0 ∷ 0 ∷ 0 ∷ 0 ∷ 0 ∷ 0 ∷ 0 ∷ 0 ∷ 0 ∷ 0 ∷ 0 ∷ 0 ∷ 0 ∷ 0 ∷ 0 ∷ 0 ∷ 0 ∷ 0 ∷ 0 ∷ 7 ∷ 7 ∷ 7 ∷ 7 ∷ 7 ∷ 7 ∷ 7 ∷ 7 ∷ 7 ∷ 7 ∷ 7 ∷ 7 ∷ 7 ∷ 7 ∷ 7 ∷ 7 ∷ 7 ∷ 7 ∷ 7 ∷ 7 ∷ 7 ∷ 7 ∷ 7 ∷ 7 ∷ 7 ∷ 7 ∷ 7 ∷ 7 ∷ 7 ∷ 7 ∷ 7 ∷ 7 ∷ []; heads = pasted begun 32 (head-is i) })
