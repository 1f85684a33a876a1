-- Cases of the three checkers, of starting and of the checking program, worked out by computation from the definitions alone, down to
-- SHA-256. Heads, proofs and answers are those of an independent implementation. Assumes nothing.
use mathlib.Core.Path.{◌≡◌, refl, ap, ap₂, ◌∙◌}
use mathlib.Core.List.{[], ◌∷◌, flat_map}
use Prim.Native.Nat.{ℕ}
use Rattle.fips.specs.Sha256 as F
use Rattle.fips.proofs.Fast.{fast-is}
use Rattle.paper.specs.Lists.{every, keep, up_from}
use Rattle.paper.specs.Bytes.{Bytes, be, zeros, number, same, pasted}
use Rattle.paper.specs.Bits.{to_bits, bits_of, from_bits, pack, top_power, log2}
use Rattle.paper.specs.Strings.{inner, nothing, node_string, inner_string, nothing_string, Head, head_bytes, head_string, label_string}
use Rattle.paper.specs.Labelling.{plain}
use Rattle.paper.specs.Tree.{side, build, root, root_digest, digest}
use Rattle.paper.specs.Path.{none, Path, step_node, path_top, path_nodes, path_root, absent}
use Rattle.paper.specs.Layout.{got, block, fixed, within, seq, led, times, times_read, such, view, never, parse}
use Rattle.paper.specs.Fields.{is_name, rise_from, rise, end_of}
use Rattle.paper.specs.Verdict.{verdict}
use Rattle.paper.specs.Shows.{Proof, meets, path_tests, path_strings, proof_strings, proof_tests, input_tests}
use Rattle.paper.specs.Lookup.{lookup_field, check_lookup}
use Rattle.paper.specs.History.{history_field, check_history}
use Rattle.paper.specs.Audit.{Audit, audit_field, check_audit, record_of, olds, news, in_order, audit_tests, audit_strings}
use Rattle.paper.specs.Answer.{reply, lookup_reply, history_reply, audit_reply}
use Rattle.paper.specs.Table.{heads_within, by_epoch}
use Rattle.paper.specs.Publish.{start}
use Rattle.paper.specs.Program.{program_line, decimal_in}
use Rattle.paper.proofs.Bytes.{eq-same}
use Rattle.paper.proofs.Accepted.{lookup-accept, audit-accept, history-accept}

-- ---- each digest of a directory with no record, worked out once: nothing, the root of an empty tree, the heads of epochs 0 to 2, a label

abbrev empty : Bytes
empty = 219 ∷ 193 ∷ 180 ∷ 201 ∷ 0 ∷ 255 ∷ 228 ∷ 141 ∷ 87 ∷ 91 ∷ 93 ∷ 165 ∷ 198 ∷ 56 ∷ 4 ∷ 1 ∷ 37 ∷ 246 ∷ 93 ∷ 176 ∷ 254 ∷ 62 ∷ 36 ∷ 73 ∷ 75 ∷ 118 ∷ 234 ∷ 152 ∷ 100 ∷ 87 ∷ 217 ∷ 134 ∷ []

empty-is : F.sha256 (node_string nothing) ≡ empty
unfolding F.be64 F.zeros F.pad F.parse F.digest nothing_string
empty-is = fast-is (node_string nothing)

abbrev bare : Bytes
bare = 132 ∷ 171 ∷ 229 ∷ 2 ∷ 218 ∷ 220 ∷ 92 ∷ 132 ∷ 178 ∷ 182 ∷ 22 ∷ 237 ∷ 10 ∷ 164 ∷ 93 ∷ 136 ∷ 129 ∷ 33 ∷ 49 ∷ 120 ∷ 85 ∷ 224 ∷ 116 ∷ 1 ∷ 159 ∷ 100 ∷ 167 ∷ 231 ∷ 26 ∷ 201 ∷ 93 ∷ 0 ∷ []

bare-is : F.sha256 (node_string (inner [] empty empty)) ≡ bare
unfolding F.be64 F.zeros F.pad F.parse F.digest be from_bits pack inner_string
bare-is = fast-is (node_string (inner [] empty empty))

-- the head of an epoch without records, over the head before it
abbrev opened : ℕ → Bytes → Head
opened t d = record { epoch = t; previous = d; all = bare; old = bare }

abbrev head-0 : Bytes
head-0 = 90 ∷ 130 ∷ 232 ∷ 110 ∷ 236 ∷ 79 ∷ 141 ∷ 195 ∷ 212 ∷ 48 ∷ 213 ∷ 125 ∷ 72 ∷ 225 ∷ 238 ∷ 59 ∷ 20 ∷ 25 ∷ 96 ∷ 46 ∷ 48 ∷ 112 ∷ 7 ∷ 62 ∷ 2 ∷ 61 ∷ 51 ∷ 155 ∷ 104 ∷ 24 ∷ 108 ∷ 132 ∷ []

head-0-is : F.sha256 (head_string (opened 0 (zeros 32))) ≡ head-0
unfolding F.be64 F.zeros F.pad F.parse F.digest be head_bytes head_string
head-0-is = fast-is (head_string (opened 0 (zeros 32)))

abbrev head-1 : Bytes
head-1 = 84 ∷ 129 ∷ 22 ∷ 33 ∷ 161 ∷ 129 ∷ 96 ∷ 95 ∷ 126 ∷ 30 ∷ 143 ∷ 182 ∷ 42 ∷ 104 ∷ 39 ∷ 88 ∷ 126 ∷ 35 ∷ 236 ∷ 0 ∷ 252 ∷ 126 ∷ 209 ∷ 201 ∷ 52 ∷ 238 ∷ 18 ∷ 101 ∷ 53 ∷ 226 ∷ 98 ∷ 189 ∷ []

head-1-is : F.sha256 (head_string (opened 1 head-0)) ≡ head-1
unfolding F.be64 F.zeros F.pad F.parse F.digest be head_bytes head_string
head-1-is = fast-is (head_string (opened 1 head-0))

abbrev head-2 : Bytes
head-2 = 131 ∷ 166 ∷ 237 ∷ 122 ∷ 123 ∷ 144 ∷ 92 ∷ 76 ∷ 49 ∷ 86 ∷ 226 ∷ 139 ∷ 107 ∷ 250 ∷ 58 ∷ 188 ∷ 241 ∷ 101 ∷ 40 ∷ 47 ∷ 190 ∷ 72 ∷ 19 ∷ 127 ∷ 112 ∷ 6 ∷ 202 ∷ 245 ∷ 43 ∷ 47 ∷ 192 ∷ 58 ∷ []

head-2-is : F.sha256 (head_string (opened 2 head-1)) ≡ head-2
unfolding F.be64 F.zeros F.pad F.parse F.digest be head_bytes head_string
head-2-is = fast-is (head_string (opened 2 head-1))

abbrev anna : Bytes
anna = 97 ∷ 110 ∷ 110 ∷ 97 ∷ []

abbrev label : Bytes
label = 66 ∷ 205 ∷ 79 ∷ 185 ∷ 190 ∷ 189 ∷ 75 ∷ 243 ∷ 23 ∷ 65 ∷ 146 ∷ 146 ∷ 196 ∷ 99 ∷ 172 ∷ 211 ∷ 209 ∷ 51 ∷ 245 ∷ 94 ∷ 250 ∷ 253 ∷ 51 ∷ 77 ∷ 131 ∷ 239 ∷ 107 ∷ 86 ∷ 245 ∷ 35 ∷ 58 ∷ 43 ∷ []

label_is : F.sha256 (label_string 1 1 anna) ≡ label
unfolding F.be64 F.zeros F.pad F.parse F.digest be label_string
label_is = fast-is (label_string 1 1 anna)

-- an inner node over two that are nothing
over : {l r : Bytes} → l ≡ empty → r ≡ empty → digest (inner [] l r) ≡ bare
over e f = ap₂ (λ l r. digest (inner [] l r)) e f ∙ bare-is

bare-tree : root_digest [] ≡ bare
unfolding keep side build root
bare-tree = over empty-is empty-is

-- ---- starting, and each checker accepts

-- starting a directory: the head of epoch 0
pub head-zero : (start plain (zeros 32)).heads ≡ head-0
unfolding heads_within by_epoch start verdict pasted flat_map keep
head-zero = ap (λ d. pasted (zeros 32) 0 d) (ap₂ (λ a o. F.sha256 (head_string (record { epoch = 0; previous = zeros 32; all = a; old = o }))) bare-tree bare-tree ∙ head-0-is)

abbrev history : Bytes
history = 86 ∷ 75 ∷ 68 ∷ 0 ∷ 1 ∷ 2 ∷ 0 ∷ 0 ∷ 0 ∷ 0 ∷ 0 ∷ 0 ∷ 0 ∷ 0 ∷ 0 ∷ 0 ∷ 0 ∷ 0 ∷ 0 ∷ 0 ∷ 0 ∷ 0 ∷ 0 ∷ 0 ∷ 0 ∷ 0 ∷ 0 ∷ 0 ∷ 0 ∷ 0 ∷ 0 ∷ 0 ∷ 0 ∷ 0 ∷ 0 ∷ 0 ∷ 0 ∷ 0 ∷ 0 ∷ 0 ∷ 0 ∷ 0 ∷ 132 ∷ 171 ∷ 229 ∷ 2 ∷ 218 ∷ 220 ∷ 92 ∷ 132 ∷ 178 ∷ 182 ∷ 22 ∷ 237 ∷ 10 ∷ 164 ∷ 93 ∷ 136 ∷ 129 ∷ 33 ∷ 49 ∷ 120 ∷ 85 ∷ 224 ∷ 116 ∷ 1 ∷ 159 ∷ 100 ∷ 167 ∷ 231 ∷ 26 ∷ 201 ∷ 93 ∷ 0 ∷ 132 ∷ 171 ∷ 229 ∷ 2 ∷ 218 ∷ 220 ∷ 92 ∷ 132 ∷ 178 ∷ 182 ∷ 22 ∷ 237 ∷ 10 ∷ 164 ∷ 93 ∷ 136 ∷ 129 ∷ 33 ∷ 49 ∷ 120 ∷ 85 ∷ 224 ∷ 116 ∷ 1 ∷ 159 ∷ 100 ∷ 167 ∷ 231 ∷ 26 ∷ 201 ∷ 93 ∷ 0 ∷ 0 ∷ 0 ∷ []

abbrev no-history : Proof
no-history = record { head = opened 0 (zeros 32); number = 0; items = []; paths = [] }

history-read : parse history_field history ≡ got no-history []
unfolding every be number same to_bits bits_of from_bits pack block fixed within seq led times times_read such view never rise_from rise end_of up_from top_power log2
history-read = refl

-- the history of a name that has none, at epoch 0: no path, one digest
pub empty-history : history_reply (check_history plain head-0 anna history) ≡ reply 0 (0 ∷ 0 ∷ 1 ∷ [])
unfolding every is_name input_tests proof_tests path_tests proof_strings path_strings up_from
empty-history = ap history_reply (history-accept plain head-0 anna history no-history history-read (refl, tt) (eq-same head-0-is, tt))

abbrev lookup : Bytes
lookup = 86 ∷ 75 ∷ 68 ∷ 0 ∷ 1 ∷ 1 ∷ 0 ∷ 0 ∷ 0 ∷ 0 ∷ 0 ∷ 0 ∷ 0 ∷ 0 ∷ 0 ∷ 0 ∷ 0 ∷ 0 ∷ 0 ∷ 0 ∷ 0 ∷ 0 ∷ 0 ∷ 0 ∷ 0 ∷ 0 ∷ 0 ∷ 0 ∷ 0 ∷ 0 ∷ 0 ∷ 0 ∷ 0 ∷ 0 ∷ 0 ∷ 0 ∷ 0 ∷ 0 ∷ 0 ∷ 0 ∷ 0 ∷ 0 ∷ 132 ∷ 171 ∷ 229 ∷ 2 ∷ 218 ∷ 220 ∷ 92 ∷ 132 ∷ 178 ∷ 182 ∷ 22 ∷ 237 ∷ 10 ∷ 164 ∷ 93 ∷ 136 ∷ 129 ∷ 33 ∷ 49 ∷ 120 ∷ 85 ∷ 224 ∷ 116 ∷ 1 ∷ 159 ∷ 100 ∷ 167 ∷ 231 ∷ 26 ∷ 201 ∷ 93 ∷ 0 ∷ 132 ∷ 171 ∷ 229 ∷ 2 ∷ 218 ∷ 220 ∷ 92 ∷ 132 ∷ 178 ∷ 182 ∷ 22 ∷ 237 ∷ 10 ∷ 164 ∷ 93 ∷ 136 ∷ 129 ∷ 33 ∷ 49 ∷ 120 ∷ 85 ∷ 224 ∷ 116 ∷ 1 ∷ 159 ∷ 100 ∷ 167 ∷ 231 ∷ 26 ∷ 201 ∷ 93 ∷ 0 ∷ 0 ∷ 0 ∷ 0 ∷ 1 ∷ 0 ∷ 0 ∷ 219 ∷ 193 ∷ 180 ∷ 201 ∷ 0 ∷ 255 ∷ 228 ∷ 141 ∷ 87 ∷ 91 ∷ 93 ∷ 165 ∷ 198 ∷ 56 ∷ 4 ∷ 1 ∷ 37 ∷ 246 ∷ 93 ∷ 176 ∷ 254 ∷ 62 ∷ 36 ∷ 73 ∷ 75 ∷ 118 ∷ 234 ∷ 152 ∷ 100 ∷ 87 ∷ 217 ∷ 134 ∷ 3 ∷ []

abbrev path : Path
path = record { steps = record { length = 0; sibling = empty } ∷ []; end = none }

abbrev unregistered : Proof
unregistered = record { head = opened 0 (zeros 32); number = 0; items = []; paths = path ∷ [] }

lookup-read : parse lookup_field lookup ≡ got unregistered []
unfolding every be number same to_bits bits_of from_bits pack block fixed within seq led times times_read such view never rise_from rise end_of
lookup-read = refl

path-root : path_root (bits_of (F.sha256 (label_string 1 1 anna))) path ≡ bare
unfolding to_bits bits_of step_node path_top
path-root = ap (λ l. path_root (bits_of l) path) label_is ∙ over empty-is refl

-- a lookup of the same name: one path, which ends at nothing
pub not-registered : lookup_reply (check_lookup plain head-0 anna lookup) ≡ reply 0 (0 ∷ 0 ∷ 4 ∷ [])
unfolding every is_name input_tests proof_tests path_tests proof_strings path_strings path_nodes meets absent
not-registered = ap lookup_reply (lookup-accept plain head-0 anna lookup unregistered lookup-read (refl, tt) (eq-same head-0-is, (eq-same path-root, (refl, tt))))

abbrev step : Bytes
step = 86 ∷ 75 ∷ 68 ∷ 0 ∷ 1 ∷ 3 ∷ 0 ∷ 0 ∷ 0 ∷ 1 ∷ 90 ∷ 130 ∷ 232 ∷ 110 ∷ 236 ∷ 79 ∷ 141 ∷ 195 ∷ 212 ∷ 48 ∷ 213 ∷ 125 ∷ 72 ∷ 225 ∷ 238 ∷ 59 ∷ 20 ∷ 25 ∷ 96 ∷ 46 ∷ 48 ∷ 112 ∷ 7 ∷ 62 ∷ 2 ∷ 61 ∷ 51 ∷ 155 ∷ 104 ∷ 24 ∷ 108 ∷ 132 ∷ 132 ∷ 171 ∷ 229 ∷ 2 ∷ 218 ∷ 220 ∷ 92 ∷ 132 ∷ 178 ∷ 182 ∷ 22 ∷ 237 ∷ 10 ∷ 164 ∷ 93 ∷ 136 ∷ 129 ∷ 33 ∷ 49 ∷ 120 ∷ 85 ∷ 224 ∷ 116 ∷ 1 ∷ 159 ∷ 100 ∷ 167 ∷ 231 ∷ 26 ∷ 201 ∷ 93 ∷ 0 ∷ 132 ∷ 171 ∷ 229 ∷ 2 ∷ 218 ∷ 220 ∷ 92 ∷ 132 ∷ 178 ∷ 182 ∷ 22 ∷ 237 ∷ 10 ∷ 164 ∷ 93 ∷ 136 ∷ 129 ∷ 33 ∷ 49 ∷ 120 ∷ 85 ∷ 224 ∷ 116 ∷ 1 ∷ 159 ∷ 100 ∷ 167 ∷ 231 ∷ 26 ∷ 201 ∷ 93 ∷ 0 ∷ 0 ∷ 0 ∷ 0 ∷ 2 ∷ 84 ∷ 129 ∷ 22 ∷ 33 ∷ 161 ∷ 129 ∷ 96 ∷ 95 ∷ 126 ∷ 30 ∷ 143 ∷ 182 ∷ 42 ∷ 104 ∷ 39 ∷ 88 ∷ 126 ∷ 35 ∷ 236 ∷ 0 ∷ 252 ∷ 126 ∷ 209 ∷ 201 ∷ 52 ∷ 238 ∷ 18 ∷ 101 ∷ 53 ∷ 226 ∷ 98 ∷ 189 ∷ 132 ∷ 171 ∷ 229 ∷ 2 ∷ 218 ∷ 220 ∷ 92 ∷ 132 ∷ 178 ∷ 182 ∷ 22 ∷ 237 ∷ 10 ∷ 164 ∷ 93 ∷ 136 ∷ 129 ∷ 33 ∷ 49 ∷ 120 ∷ 85 ∷ 224 ∷ 116 ∷ 1 ∷ 159 ∷ 100 ∷ 167 ∷ 231 ∷ 26 ∷ 201 ∷ 93 ∷ 0 ∷ 132 ∷ 171 ∷ 229 ∷ 2 ∷ 218 ∷ 220 ∷ 92 ∷ 132 ∷ 178 ∷ 182 ∷ 22 ∷ 237 ∷ 10 ∷ 164 ∷ 93 ∷ 136 ∷ 129 ∷ 33 ∷ 49 ∷ 120 ∷ 85 ∷ 224 ∷ 116 ∷ 1 ∷ 159 ∷ 100 ∷ 167 ∷ 231 ∷ 26 ∷ 201 ∷ 93 ∷ 0 ∷ 0 ∷ 0 ∷ 0 ∷ 0 ∷ 0 ∷ 0 ∷ 0 ∷ 0 ∷ []

abbrev audit : Audit
audit = record { before = opened 1 head-0; after = opened 2 head-1; all = []; old = [] }

step-read : parse audit_field step ≡ got audit []
unfolding every be number same to_bits bits_of from_bits pack block fixed within seq led times times_read such view never rise_from rise end_of record_of
step-read = refl

-- an audit step between two epochs with no record: four empty trees
pub empty-step : audit_reply (check_audit head-1 head-2 step) ≡ reply 0 (1 ∷ 2 ∷ 14 ∷ [])
unfolding every same olds news in_order audit_tests audit_strings keep side build root
empty-step = let bare-same = eq-same bare-tree in
    ap audit_reply (audit-accept head-1 head-2 step audit step-read (refl, tt) (
      eq-same head-1-is,
      (eq-same head-2-is, (refl, (refl, (bare-same, (bare-same, (refl, (bare-same, (bare-same, tt)))))))),
    ))

-- ---- refusals

-- a name that breaks the bounds is refused whatever the proof
pub bad-name : lookup_reply (check_lookup plain head-0 [] []) ≡ reply 1 []
unfolding every is_name verdict input_tests check_lookup
bad-name = refl

-- no bytes are no proof
pub no-lookup-bytes : lookup_reply (check_lookup plain head-0 anna []) ≡ reply 2 []
unfolding every be number same to_bits bits_of from_bits pack block fixed within seq led times times_read such view never rise_from rise end_of is_name verdict input_tests check_lookup
no-lookup-bytes = refl

pub no-history-bytes : history_reply (check_history plain head-0 anna []) ≡ reply 2 []
unfolding every be number same to_bits bits_of from_bits pack block fixed within seq led times times_read such view never rise_from rise end_of is_name verdict input_tests check_history
no-history-bytes = refl

pub no-step-bytes : audit_reply (check_audit head-1 head-2 []) ≡ reply 2 []
unfolding every be number same to_bits bits_of from_bits pack block fixed within seq led times times_read such view never rise_from rise end_of record_of verdict check_audit
no-step-bytes = refl

-- ---- so no checker refuses everything, and none has one fixed reply: under the same heads and name it accepts one proof and refuses another

pub lookup-not-fixed : (lookup_reply (check_lookup plain head-0 anna lookup) ≡ reply 0 (0 ∷ 0 ∷ 4 ∷ [])) × (lookup_reply (check_lookup plain head-0 anna []) ≡ reply 2 [])
lookup-not-fixed = (not-registered, no-lookup-bytes)

pub history-not-fixed : (history_reply (check_history plain head-0 anna history) ≡ reply 0 (0 ∷ 0 ∷ 1 ∷ [])) × (history_reply (check_history plain head-0 anna []) ≡ reply 2 [])
history-not-fixed = (empty-history, no-history-bytes)

pub audit-not-fixed : (audit_reply (check_audit head-1 head-2 step) ≡ reply 0 (1 ∷ 2 ∷ 14 ∷ [])) × (audit_reply (check_audit head-1 head-2 []) ≡ reply 2 [])
audit-not-fixed = (empty-step, no-step-bytes)

-- the checking program on empty input: "refused 1"
pub empty-input : program_line [] ≡ 114 ∷ 101 ∷ 102 ∷ 117 ∷ 115 ∷ 101 ∷ 100 ∷ 32 ∷ 49 ∷ 10 ∷ []
unfolding program_line decimal_in
empty-input = refl
