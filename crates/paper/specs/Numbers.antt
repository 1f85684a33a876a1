-- Document 01, "Numbers" and "Numbers that say no".
use Rattle.std.specs.Prelude.{ℕ, ◌-◌, ◌^◌}
use Rattle.paper.specs.declared.Refusal.{Refusal}
use Rattle.paper.specs.declared.Refusal.TheVariants as R

-- "name | 1 to 64 bytes, each 0x21 to 0x7E"
abbrev pub name_most : ℕ
name_most = 64

abbrev pub name_byte_low : ℕ
name_byte_low = 0x21

abbrev pub name_byte_high : ℕ
name_byte_high = 0x7E

-- "key | 1 to 64 bytes"
abbrev pub key_most : ℕ
key_most = 64

-- "opening | 32 bytes"; a digest, a label and a commitment have as many
abbrev pub wide : ℕ
wide = 32

-- "versions of a name | 1 to 1,023"
abbrev pub version_most : ℕ
version_most = 1023

-- "batch | 0 to 256 updates"
abbrev pub batch_most : ℕ
batch_most = 256

-- "record table | a multiple of 168 bytes, at most 4,096 records"
abbrev pub record_size : ℕ
record_size = 168

abbrev pub records_most : ℕ
records_most = 4096

-- "An update has 162 bytes: a record without version and epoch."
abbrev pub update_size : ℕ
update_size = 162

-- "head table | a multiple of 32 bytes, 1 to 65,536 heads"
abbrev pub heads_most : ℕ
heads_most = 65536

-- "epoch in a proof | 32 bits, unsigned"
abbrev pub epoch_most : ℕ
epoch_most = 2 ^ 32 - 1

-- "audit records per tree | 0 to 16,384"
abbrev pub audit_most : ℕ
audit_most = 16384

-- "Numbers that say no", each by its name
abbrev pub INPUT : Refusal
INPUT = R.Input

abbrev pub FORM : Refusal
FORM = R.Form

abbrev pub HEAD : Refusal
HEAD = R.Head

abbrev pub ROOT : Refusal
ROOT = R.Root

abbrev pub RULE : Refusal
RULE = R.Rule

abbrev pub FULL : Refusal
FULL = R.Full

abbrev pub CLASH : Refusal
CLASH = R.Clash

abbrev pub ROOM : Refusal
ROOM = R.Room

abbrev pub TWICE : Refusal
TWICE = R.Twice

abbrev pub EPOCH : Refusal
EPOCH = R.Epoch

abbrev pub TABLE : Refusal
TABLE = R.Table

-- the number of each
abbrev pub refusal_number : Refusal → ℕ
refusal_number R.Input = 1
refusal_number R.Form = 2
refusal_number R.Head = 3
refusal_number R.Root = 4
refusal_number R.Rule = 5
refusal_number R.Full = 6
refusal_number R.Clash = 7
refusal_number R.Room = 8
refusal_number R.Twice = 9
refusal_number R.Epoch = 10
refusal_number R.Table = 11
