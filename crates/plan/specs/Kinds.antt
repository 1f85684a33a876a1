-- The two kinds of proof that have paths.
use Rattle.std.specs.Prelude.{ℕ}
use Rattle.paper.specs.Lookup.{lookup_keys}
use Rattle.plan.specs.declared.Kind.{Kind}
use Rattle.plan.specs.declared.Kind.TheVariants.{Lookup, History}

-- "kind 1 (1 lookup, 2 history, 3 audit)"
abbrev pub kind_number : Kind → ℕ
kind_number Lookup = 1
kind_number History = 2

-- as many keys as stand behind the front
abbrev pub keys_in : Kind → ℕ → ℕ
keys_in Lookup v = lookup_keys v
keys_in History n = n
