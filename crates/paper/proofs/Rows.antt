-- Document 01, "Rows to prove": the table, by computation. Assumes nothing.
use mathlib.Core.Path.{refl}
use Rattle.paper.specs.Lists.{up_from}
use Rattle.paper.specs.Bits.{first_difference, lcp, bits_of, to_bits, log2, top_power}
use Rattle.paper.specs.Rows.{Rows}

pub rows : Rows
unfolding up_from log2 top_power first_difference lcp bits_of to_bits
rows = record {
  histories = (refl, (refl, (refl, (refl, (refl, (refl, (refl, tt)))))));
  labels = (refl, (refl, (refl, (refl, tt))));
}
