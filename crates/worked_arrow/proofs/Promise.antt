-- Demand 3 is not empty: a directory of one name whose key was replaced. A lookup at epoch 1, the audit step from epoch 1 to 2, and a
-- history at epoch 2 are accepted, each by computation down to SHA-256; so the theorem applies to them, and the lookup gave the key that
-- the history says was current then. The bytes are those of tests/directory.py. Assumes nothing.
use mathlib.Core.Path.{◌≡◌, refl, ap, ◌∙◌}
use mathlib.Core.Logic.{◌⊎◌, inl, inr}
use mathlib.Core.Bool.{true, ◌&&◌}
use mathlib.Core.List.{List, [], ◌∷◌}
use Prim.Native.Nat.{ℕ, suc}
use lib.Dec.{eqb}
use Rattle.paper.specs.Lists.{every, keep, up_from}
use Rattle.paper.specs.Bytes.{Bytes, be, zeros, number, same}
use Rattle.paper.specs.Bits.{to_bits, bits_of, from_bits, pack, starts, lcp, top_power, log2}
use Rattle.paper.specs.Strings.{Head}
use Rattle.paper.specs.Labelling.{plain}
use Rattle.paper.specs.Tree.{digest, common, side, build, root, root_digest}
use Rattle.paper.specs.Path.{End, this, off, none, Path, step_node, path_top, path_nodes, path_root, last_length, present_with, epoch_of, absent}
use Rattle.paper.specs.Layout.{got, block, fixed, within, seq, led, times, times_read, such, view, never, parse}
use Rattle.paper.specs.Fields.{is_name, rise_from, rise, end_of}
use Rattle.paper.specs.Verdict.{Test}
use Rattle.paper.specs.Shows.{Place, in_all, in_old, as_marker, kind_of, number_of, Asked, present, missing, Terms, Item, Proof, root_at, label_at, epoch_at, commitment_at, meets, path_tests, path_strings, proof_strings, proof_tests, input_tests}
use Rattle.paper.specs.Lookup.{lookup_asked, lookup_field, lookup_terms, check_lookup}
use Rattle.paper.specs.History.{history_asked, history_field, history_terms, history_read, check_history}
use Rattle.paper.specs.Audit.{opened, fresh, Audit, audit_field, record_of, olds, news, before?, in_order, record_rule, audit_tests, audit_strings, check_audit}
use Rattle.paper.specs.declared.Which.TheVariants.{OfAll, OfOld}
use Rattle.paper.specs.Answer.{Reply, reply, lookup_reply, history_reply, audit_reply}
use Rattle.paper.specs.Arrow.{AuditStep, Agrees, Collision, hashed}
use Rattle.paper.proofs.Bytes.{bytewise, eq-same}
use Rattle.paper.proofs.Labelling.{plain-tied}
use Rattle.paper.proofs.Verdicts.{Hold, FirstFails, first-cons, verdict-all, verdict-first}
use Rattle.paper.proofs.Accepted.{lookup-accept, audit-accept, history-accept}
use Rattle.arrow.specs.Pointed.{all_accepted}
use Rattle.arrow.proofs.Pointing.{accepted-agrees}
use Rattle.worked_arrow.proofs.Digests as D
use Rattle.worked_arrow.proofs.Digests.{name, key-1, opening-1, key-2, opening-2, label-1, label-2, mark-1, commitment-1, commitment-2, leaf-1, marker-0, prefix, pair-1, leaf-2, marker-1, pair-2, empty, all-1, all-2, wrong, gone-1, old-1, old-2, head-1, before, head-2, after, over}

abbrev lookup : Bytes
lookup = 86 ∷ 75 ∷ 68 ∷ 0 ∷ 1 ∷ 1 ∷ 0 ∷ 0 ∷ 0 ∷ 1 ∷ 90 ∷ 130 ∷ 232 ∷ 110 ∷ 236 ∷ 79 ∷ 141 ∷ 195 ∷ 212 ∷ 48 ∷ 213 ∷ 125 ∷ 72 ∷ 225 ∷ 238 ∷ 59 ∷ 20 ∷ 25 ∷ 96 ∷ 46 ∷ 48 ∷ 112 ∷ 7 ∷ 62 ∷ 2 ∷ 61 ∷ 51 ∷ 155 ∷ 104 ∷ 24 ∷ 108 ∷ 132 ∷ 162 ∷ 208 ∷ 154 ∷ 101 ∷ 156 ∷ 42 ∷ 60 ∷ 226 ∷ 182 ∷ 53 ∷ 78 ∷ 83 ∷ 244 ∷ 106 ∷ 51 ∷ 22 ∷ 57 ∷ 164 ∷ 57 ∷ 174 ∷ 110 ∷ 168 ∷ 115 ∷ 220 ∷ 175 ∷ 236 ∷ 156 ∷ 154 ∷ 227 ∷ 38 ∷ 102 ∷ 10 ∷ 132 ∷ 171 ∷ 229 ∷ 2 ∷ 218 ∷ 220 ∷ 92 ∷ 132 ∷ 178 ∷ 182 ∷ 22 ∷ 237 ∷ 10 ∷ 164 ∷ 93 ∷ 136 ∷ 129 ∷ 33 ∷ 49 ∷ 120 ∷ 85 ∷ 224 ∷ 116 ∷ 1 ∷ 159 ∷ 100 ∷ 167 ∷ 231 ∷ 26 ∷ 201 ∷ 93 ∷ 0 ∷ 0 ∷ 1 ∷ 5 ∷ 102 ∷ 105 ∷ 114 ∷ 115 ∷ 116 ∷ 7 ∷ 7 ∷ 7 ∷ 7 ∷ 7 ∷ 7 ∷ 7 ∷ 7 ∷ 7 ∷ 7 ∷ 7 ∷ 7 ∷ 7 ∷ 7 ∷ 7 ∷ 7 ∷ 7 ∷ 7 ∷ 7 ∷ 7 ∷ 7 ∷ 7 ∷ 7 ∷ 7 ∷ 7 ∷ 7 ∷ 7 ∷ 7 ∷ 7 ∷ 7 ∷ 7 ∷ 7 ∷ 0 ∷ 2 ∷ 0 ∷ 0 ∷ 219 ∷ 193 ∷ 180 ∷ 201 ∷ 0 ∷ 255 ∷ 228 ∷ 141 ∷ 87 ∷ 91 ∷ 93 ∷ 165 ∷ 198 ∷ 56 ∷ 4 ∷ 1 ∷ 37 ∷ 246 ∷ 93 ∷ 176 ∷ 254 ∷ 62 ∷ 36 ∷ 73 ∷ 75 ∷ 118 ∷ 234 ∷ 152 ∷ 100 ∷ 87 ∷ 217 ∷ 134 ∷ 0 ∷ 5 ∷ 121 ∷ 203 ∷ 41 ∷ 177 ∷ 94 ∷ 7 ∷ 127 ∷ 17 ∷ 242 ∷ 159 ∷ 214 ∷ 83 ∷ 144 ∷ 61 ∷ 43 ∷ 192 ∷ 121 ∷ 47 ∷ 133 ∷ 218 ∷ 48 ∷ 57 ∷ 184 ∷ 251 ∷ 69 ∷ 29 ∷ 198 ∷ 105 ∷ 253 ∷ 142 ∷ 37 ∷ 78 ∷ 0 ∷ 142 ∷ 31 ∷ 86 ∷ 183 ∷ 100 ∷ 33 ∷ 247 ∷ 215 ∷ 96 ∷ 56 ∷ 142 ∷ 65 ∷ 163 ∷ 241 ∷ 118 ∷ 74 ∷ 199 ∷ 42 ∷ 177 ∷ 222 ∷ 75 ∷ 123 ∷ 209 ∷ 159 ∷ 244 ∷ 232 ∷ 76 ∷ 8 ∷ 217 ∷ 36 ∷ 84 ∷ 46 ∷ 0 ∷ 0 ∷ 0 ∷ 1 ∷ 0 ∷ 1 ∷ 0 ∷ 0 ∷ 219 ∷ 193 ∷ 180 ∷ 201 ∷ 0 ∷ 255 ∷ 228 ∷ 141 ∷ 87 ∷ 91 ∷ 93 ∷ 165 ∷ 198 ∷ 56 ∷ 4 ∷ 1 ∷ 37 ∷ 246 ∷ 93 ∷ 176 ∷ 254 ∷ 62 ∷ 36 ∷ 73 ∷ 75 ∷ 118 ∷ 234 ∷ 152 ∷ 100 ∷ 87 ∷ 217 ∷ 134 ∷ 3 ∷ 0 ∷ 2 ∷ 0 ∷ 0 ∷ 219 ∷ 193 ∷ 180 ∷ 201 ∷ 0 ∷ 255 ∷ 228 ∷ 141 ∷ 87 ∷ 91 ∷ 93 ∷ 165 ∷ 198 ∷ 56 ∷ 4 ∷ 1 ∷ 37 ∷ 246 ∷ 93 ∷ 176 ∷ 254 ∷ 62 ∷ 36 ∷ 73 ∷ 75 ∷ 118 ∷ 234 ∷ 152 ∷ 100 ∷ 87 ∷ 217 ∷ 134 ∷ 0 ∷ 5 ∷ 141 ∷ 92 ∷ 38 ∷ 222 ∷ 224 ∷ 203 ∷ 165 ∷ 47 ∷ 221 ∷ 174 ∷ 66 ∷ 59 ∷ 98 ∷ 135 ∷ 212 ∷ 13 ∷ 130 ∷ 116 ∷ 219 ∷ 37 ∷ 56 ∷ 84 ∷ 197 ∷ 66 ∷ 250 ∷ 67 ∷ 45 ∷ 95 ∷ 64 ∷ 150 ∷ 169 ∷ 216 ∷ 0 ∷ 0 ∷ 0 ∷ 0 ∷ 0 ∷ 0 ∷ 0 ∷ 0 ∷ 0 ∷ 0 ∷ 0 ∷ 0 ∷ 0 ∷ 0 ∷ 0 ∷ 0 ∷ 0 ∷ 0 ∷ 0 ∷ 0 ∷ 0 ∷ 0 ∷ 0 ∷ 0 ∷ 0 ∷ 0 ∷ 0 ∷ 0 ∷ 0 ∷ 0 ∷ 0 ∷ 0 ∷ 0 ∷ 0 ∷ 0 ∷ 0 ∷ 1 ∷ []

abbrev step : AuditStep
step = record {
  head = after;
  proof = 86 ∷ 75 ∷ 68 ∷ 0 ∷ 1 ∷ 3 ∷ 0 ∷ 0 ∷ 0 ∷ 1 ∷ 90 ∷ 130 ∷ 232 ∷ 110 ∷ 236 ∷ 79 ∷ 141 ∷ 195 ∷ 212 ∷ 48 ∷ 213 ∷ 125 ∷ 72 ∷ 225 ∷ 238 ∷ 59 ∷ 20 ∷ 25 ∷ 96 ∷ 46 ∷ 48 ∷ 112 ∷ 7 ∷ 62 ∷ 2 ∷ 61 ∷ 51 ∷ 155 ∷ 104 ∷ 24 ∷ 108 ∷ 132 ∷ 162 ∷ 208 ∷ 154 ∷ 101 ∷ 156 ∷ 42 ∷ 60 ∷ 226 ∷ 182 ∷ 53 ∷ 78 ∷ 83 ∷ 244 ∷ 106 ∷ 51 ∷ 22 ∷ 57 ∷ 164 ∷ 57 ∷ 174 ∷ 110 ∷ 168 ∷ 115 ∷ 220 ∷ 175 ∷ 236 ∷ 156 ∷ 154 ∷ 227 ∷ 38 ∷ 102 ∷ 10 ∷ 132 ∷ 171 ∷ 229 ∷ 2 ∷ 218 ∷ 220 ∷ 92 ∷ 132 ∷ 178 ∷ 182 ∷ 22 ∷ 237 ∷ 10 ∷ 164 ∷ 93 ∷ 136 ∷ 129 ∷ 33 ∷ 49 ∷ 120 ∷ 85 ∷ 224 ∷ 116 ∷ 1 ∷ 159 ∷ 100 ∷ 167 ∷ 231 ∷ 26 ∷ 201 ∷ 93 ∷ 0 ∷ 0 ∷ 0 ∷ 0 ∷ 2 ∷ 220 ∷ 123 ∷ 234 ∷ 132 ∷ 165 ∷ 228 ∷ 46 ∷ 31 ∷ 4 ∷ 125 ∷ 16 ∷ 27 ∷ 153 ∷ 148 ∷ 95 ∷ 4 ∷ 77 ∷ 239 ∷ 169 ∷ 232 ∷ 208 ∷ 39 ∷ 196 ∷ 57 ∷ 118 ∷ 30 ∷ 154 ∷ 123 ∷ 146 ∷ 238 ∷ 89 ∷ 24 ∷ 172 ∷ 100 ∷ 235 ∷ 95 ∷ 174 ∷ 162 ∷ 2 ∷ 198 ∷ 29 ∷ 69 ∷ 132 ∷ 30 ∷ 252 ∷ 230 ∷ 230 ∷ 174 ∷ 224 ∷ 82 ∷ 166 ∷ 180 ∷ 93 ∷ 115 ∷ 131 ∷ 90 ∷ 246 ∷ 54 ∷ 150 ∷ 187 ∷ 200 ∷ 233 ∷ 154 ∷ 79 ∷ 105 ∷ 47 ∷ 207 ∷ 192 ∷ 148 ∷ 89 ∷ 112 ∷ 221 ∷ 195 ∷ 147 ∷ 16 ∷ 14 ∷ 182 ∷ 233 ∷ 152 ∷ 211 ∷ 163 ∷ 54 ∷ 66 ∷ 78 ∷ 115 ∷ 238 ∷ 246 ∷ 70 ∷ 170 ∷ 109 ∷ 229 ∷ 203 ∷ 122 ∷ 67 ∷ 101 ∷ 241 ∷ 0 ∷ 0 ∷ 0 ∷ 3 ∷ 1 ∷ 0 ∷ 5 ∷ 96 ∷ 0 ∷ 0 ∷ 0 ∷ 0 ∷ 0 ∷ 0 ∷ 0 ∷ 0 ∷ 0 ∷ 0 ∷ 0 ∷ 0 ∷ 0 ∷ 0 ∷ 0 ∷ 0 ∷ 0 ∷ 0 ∷ 0 ∷ 0 ∷ 0 ∷ 0 ∷ 0 ∷ 0 ∷ 0 ∷ 0 ∷ 0 ∷ 0 ∷ 0 ∷ 0 ∷ 0 ∷ 141 ∷ 92 ∷ 38 ∷ 222 ∷ 224 ∷ 203 ∷ 165 ∷ 47 ∷ 221 ∷ 174 ∷ 66 ∷ 59 ∷ 98 ∷ 135 ∷ 212 ∷ 13 ∷ 130 ∷ 116 ∷ 219 ∷ 37 ∷ 56 ∷ 84 ∷ 197 ∷ 66 ∷ 250 ∷ 67 ∷ 45 ∷ 95 ∷ 64 ∷ 150 ∷ 169 ∷ 216 ∷ 121 ∷ 203 ∷ 41 ∷ 177 ∷ 94 ∷ 7 ∷ 127 ∷ 17 ∷ 242 ∷ 159 ∷ 214 ∷ 83 ∷ 144 ∷ 61 ∷ 43 ∷ 192 ∷ 121 ∷ 47 ∷ 133 ∷ 218 ∷ 48 ∷ 57 ∷ 184 ∷ 251 ∷ 69 ∷ 29 ∷ 198 ∷ 105 ∷ 253 ∷ 142 ∷ 37 ∷ 78 ∷ 2 ∷ 1 ∷ 0 ∷ 144 ∷ 54 ∷ 145 ∷ 225 ∷ 1 ∷ 77 ∷ 68 ∷ 244 ∷ 198 ∷ 216 ∷ 183 ∷ 18 ∷ 100 ∷ 172 ∷ 133 ∷ 200 ∷ 40 ∷ 47 ∷ 7 ∷ 201 ∷ 132 ∷ 122 ∷ 209 ∷ 43 ∷ 133 ∷ 24 ∷ 28 ∷ 58 ∷ 147 ∷ 50 ∷ 136 ∷ 206 ∷ 0 ∷ 0 ∷ 0 ∷ 0 ∷ 0 ∷ 0 ∷ 0 ∷ 0 ∷ 0 ∷ 0 ∷ 0 ∷ 0 ∷ 0 ∷ 0 ∷ 0 ∷ 0 ∷ 0 ∷ 0 ∷ 0 ∷ 0 ∷ 0 ∷ 0 ∷ 0 ∷ 0 ∷ 0 ∷ 0 ∷ 0 ∷ 0 ∷ 0 ∷ 0 ∷ 0 ∷ 0 ∷ 0 ∷ 0 ∷ 0 ∷ 2 ∷ 0 ∷ 0 ∷ 0 ∷ 0 ∷ 0 ∷ 0 ∷ 0 ∷ 0 ∷ 0 ∷ 0 ∷ 0 ∷ 0 ∷ 0 ∷ 0 ∷ 0 ∷ 0 ∷ 0 ∷ 0 ∷ 0 ∷ 0 ∷ 0 ∷ 0 ∷ 0 ∷ 0 ∷ 0 ∷ 0 ∷ 0 ∷ 0 ∷ 2 ∷ 1 ∷ 0 ∷ 204 ∷ 60 ∷ 16 ∷ 203 ∷ 108 ∷ 188 ∷ 42 ∷ 132 ∷ 0 ∷ 249 ∷ 7 ∷ 63 ∷ 112 ∷ 100 ∷ 222 ∷ 243 ∷ 37 ∷ 182 ∷ 205 ∷ 52 ∷ 88 ∷ 74 ∷ 222 ∷ 199 ∷ 109 ∷ 7 ∷ 14 ∷ 171 ∷ 7 ∷ 37 ∷ 127 ∷ 187 ∷ 117 ∷ 123 ∷ 218 ∷ 120 ∷ 211 ∷ 93 ∷ 125 ∷ 33 ∷ 211 ∷ 89 ∷ 32 ∷ 156 ∷ 33 ∷ 13 ∷ 38 ∷ 225 ∷ 61 ∷ 155 ∷ 236 ∷ 26 ∷ 203 ∷ 175 ∷ 116 ∷ 99 ∷ 156 ∷ 32 ∷ 166 ∷ 254 ∷ 202 ∷ 83 ∷ 6 ∷ 142 ∷ 0 ∷ 0 ∷ 0 ∷ 2 ∷ 0 ∷ 0 ∷ 0 ∷ 0 ∷ 0 ∷ 0 ∷ 0 ∷ 0 ∷ 0 ∷ 0 ∷ 0 ∷ 0 ∷ 0 ∷ 0 ∷ 0 ∷ 0 ∷ 0 ∷ 0 ∷ 0 ∷ 0 ∷ 0 ∷ 0 ∷ 0 ∷ 0 ∷ 0 ∷ 0 ∷ 0 ∷ 0 ∷ 0 ∷ 0 ∷ 0 ∷ 1 ∷ 2 ∷ 1 ∷ 0 ∷ 96 ∷ 93 ∷ 49 ∷ 145 ∷ 156 ∷ 63 ∷ 94 ∷ 253 ∷ 118 ∷ 62 ∷ 215 ∷ 181 ∷ 136 ∷ 247 ∷ 99 ∷ 198 ∷ 191 ∷ 253 ∷ 220 ∷ 96 ∷ 207 ∷ 139 ∷ 250 ∷ 184 ∷ 72 ∷ 218 ∷ 65 ∷ 210 ∷ 226 ∷ 183 ∷ 79 ∷ 2 ∷ 0 ∷ 0 ∷ 0 ∷ 0 ∷ 0 ∷ 0 ∷ 0 ∷ 0 ∷ 0 ∷ 0 ∷ 0 ∷ 0 ∷ 0 ∷ 0 ∷ 0 ∷ 0 ∷ 0 ∷ 0 ∷ 0 ∷ 0 ∷ 0 ∷ 0 ∷ 0 ∷ 0 ∷ 0 ∷ 0 ∷ 0 ∷ 0 ∷ 0 ∷ 0 ∷ 0 ∷ 0 ∷ 0 ∷ 0 ∷ 0 ∷ 2 ∷ 0 ∷ 0 ∷ 0 ∷ 0 ∷ 0 ∷ 0 ∷ 0 ∷ 0 ∷ 0 ∷ 0 ∷ 0 ∷ 0 ∷ 0 ∷ 0 ∷ 0 ∷ 0 ∷ 0 ∷ 0 ∷ 0 ∷ 0 ∷ 0 ∷ 0 ∷ 0 ∷ 0 ∷ 0 ∷ 0 ∷ 0 ∷ 0 ∷ [];
}

abbrev history : Bytes
history = 86 ∷ 75 ∷ 68 ∷ 0 ∷ 1 ∷ 2 ∷ 0 ∷ 0 ∷ 0 ∷ 2 ∷ 220 ∷ 123 ∷ 234 ∷ 132 ∷ 165 ∷ 228 ∷ 46 ∷ 31 ∷ 4 ∷ 125 ∷ 16 ∷ 27 ∷ 153 ∷ 148 ∷ 95 ∷ 4 ∷ 77 ∷ 239 ∷ 169 ∷ 232 ∷ 208 ∷ 39 ∷ 196 ∷ 57 ∷ 118 ∷ 30 ∷ 154 ∷ 123 ∷ 146 ∷ 238 ∷ 89 ∷ 24 ∷ 172 ∷ 100 ∷ 235 ∷ 95 ∷ 174 ∷ 162 ∷ 2 ∷ 198 ∷ 29 ∷ 69 ∷ 132 ∷ 30 ∷ 252 ∷ 230 ∷ 230 ∷ 174 ∷ 224 ∷ 82 ∷ 166 ∷ 180 ∷ 93 ∷ 115 ∷ 131 ∷ 90 ∷ 246 ∷ 54 ∷ 150 ∷ 187 ∷ 200 ∷ 233 ∷ 154 ∷ 79 ∷ 105 ∷ 47 ∷ 207 ∷ 192 ∷ 148 ∷ 89 ∷ 112 ∷ 221 ∷ 195 ∷ 147 ∷ 16 ∷ 14 ∷ 182 ∷ 233 ∷ 152 ∷ 211 ∷ 163 ∷ 54 ∷ 66 ∷ 78 ∷ 115 ∷ 238 ∷ 246 ∷ 70 ∷ 170 ∷ 109 ∷ 229 ∷ 203 ∷ 122 ∷ 67 ∷ 101 ∷ 241 ∷ 0 ∷ 2 ∷ 5 ∷ 102 ∷ 105 ∷ 114 ∷ 115 ∷ 116 ∷ 7 ∷ 7 ∷ 7 ∷ 7 ∷ 7 ∷ 7 ∷ 7 ∷ 7 ∷ 7 ∷ 7 ∷ 7 ∷ 7 ∷ 7 ∷ 7 ∷ 7 ∷ 7 ∷ 7 ∷ 7 ∷ 7 ∷ 7 ∷ 7 ∷ 7 ∷ 7 ∷ 7 ∷ 7 ∷ 7 ∷ 7 ∷ 7 ∷ 7 ∷ 7 ∷ 7 ∷ 7 ∷ 6 ∷ 115 ∷ 101 ∷ 99 ∷ 111 ∷ 110 ∷ 100 ∷ 8 ∷ 8 ∷ 8 ∷ 8 ∷ 8 ∷ 8 ∷ 8 ∷ 8 ∷ 8 ∷ 8 ∷ 8 ∷ 8 ∷ 8 ∷ 8 ∷ 8 ∷ 8 ∷ 8 ∷ 8 ∷ 8 ∷ 8 ∷ 8 ∷ 8 ∷ 8 ∷ 8 ∷ 8 ∷ 8 ∷ 8 ∷ 8 ∷ 8 ∷ 8 ∷ 8 ∷ 8 ∷ 0 ∷ 2 ∷ 0 ∷ 0 ∷ 5 ∷ 103 ∷ 116 ∷ 71 ∷ 100 ∷ 202 ∷ 88 ∷ 136 ∷ 19 ∷ 66 ∷ 217 ∷ 135 ∷ 128 ∷ 55 ∷ 169 ∷ 90 ∷ 207 ∷ 104 ∷ 208 ∷ 158 ∷ 110 ∷ 255 ∷ 106 ∷ 73 ∷ 125 ∷ 206 ∷ 166 ∷ 190 ∷ 149 ∷ 168 ∷ 252 ∷ 47 ∷ 0 ∷ 5 ∷ 121 ∷ 203 ∷ 41 ∷ 177 ∷ 94 ∷ 7 ∷ 127 ∷ 17 ∷ 242 ∷ 159 ∷ 214 ∷ 83 ∷ 144 ∷ 61 ∷ 43 ∷ 192 ∷ 121 ∷ 47 ∷ 133 ∷ 218 ∷ 48 ∷ 57 ∷ 184 ∷ 251 ∷ 69 ∷ 29 ∷ 198 ∷ 105 ∷ 253 ∷ 142 ∷ 37 ∷ 78 ∷ 0 ∷ 142 ∷ 31 ∷ 86 ∷ 183 ∷ 100 ∷ 33 ∷ 247 ∷ 215 ∷ 96 ∷ 56 ∷ 142 ∷ 65 ∷ 163 ∷ 241 ∷ 118 ∷ 74 ∷ 199 ∷ 42 ∷ 177 ∷ 222 ∷ 75 ∷ 123 ∷ 209 ∷ 159 ∷ 244 ∷ 232 ∷ 76 ∷ 8 ∷ 217 ∷ 36 ∷ 84 ∷ 46 ∷ 0 ∷ 0 ∷ 0 ∷ 1 ∷ 0 ∷ 2 ∷ 0 ∷ 0 ∷ 191 ∷ 7 ∷ 32 ∷ 119 ∷ 152 ∷ 171 ∷ 113 ∷ 100 ∷ 156 ∷ 41 ∷ 18 ∷ 79 ∷ 194 ∷ 160 ∷ 167 ∷ 17 ∷ 40 ∷ 103 ∷ 13 ∷ 61 ∷ 231 ∷ 77 ∷ 164 ∷ 193 ∷ 54 ∷ 204 ∷ 140 ∷ 121 ∷ 68 ∷ 85 ∷ 196 ∷ 210 ∷ 0 ∷ 1 ∷ 126 ∷ 30 ∷ 86 ∷ 25 ∷ 232 ∷ 48 ∷ 208 ∷ 145 ∷ 133 ∷ 74 ∷ 208 ∷ 197 ∷ 20 ∷ 101 ∷ 250 ∷ 192 ∷ 36 ∷ 8 ∷ 52 ∷ 39 ∷ 190 ∷ 81 ∷ 134 ∷ 159 ∷ 45 ∷ 192 ∷ 192 ∷ 14 ∷ 146 ∷ 82 ∷ 171 ∷ 183 ∷ 0 ∷ 117 ∷ 123 ∷ 218 ∷ 120 ∷ 211 ∷ 93 ∷ 125 ∷ 33 ∷ 211 ∷ 89 ∷ 32 ∷ 156 ∷ 33 ∷ 13 ∷ 38 ∷ 225 ∷ 61 ∷ 155 ∷ 236 ∷ 26 ∷ 203 ∷ 175 ∷ 116 ∷ 99 ∷ 156 ∷ 32 ∷ 166 ∷ 254 ∷ 202 ∷ 83 ∷ 6 ∷ 142 ∷ 0 ∷ 0 ∷ 0 ∷ 2 ∷ 0 ∷ 1 ∷ 0 ∷ 0 ∷ 219 ∷ 193 ∷ 180 ∷ 201 ∷ 0 ∷ 255 ∷ 228 ∷ 141 ∷ 87 ∷ 91 ∷ 93 ∷ 165 ∷ 198 ∷ 56 ∷ 4 ∷ 1 ∷ 37 ∷ 246 ∷ 93 ∷ 176 ∷ 254 ∷ 62 ∷ 36 ∷ 73 ∷ 75 ∷ 118 ∷ 234 ∷ 152 ∷ 100 ∷ 87 ∷ 217 ∷ 134 ∷ 0 ∷ 0 ∷ 0 ∷ 0 ∷ 0 ∷ 0 ∷ 0 ∷ 0 ∷ 0 ∷ 0 ∷ 0 ∷ 0 ∷ 0 ∷ 0 ∷ 0 ∷ 0 ∷ 0 ∷ 0 ∷ 0 ∷ 0 ∷ 0 ∷ 0 ∷ 0 ∷ 0 ∷ 0 ∷ 0 ∷ 0 ∷ 0 ∷ 0 ∷ 0 ∷ 0 ∷ 0 ∷ 0 ∷ 0 ∷ 0 ∷ 0 ∷ 2 ∷ 0 ∷ 1 ∷ 0 ∷ 0 ∷ 80 ∷ 34 ∷ 203 ∷ 120 ∷ 196 ∷ 109 ∷ 83 ∷ 70 ∷ 95 ∷ 13 ∷ 218 ∷ 181 ∷ 36 ∷ 90 ∷ 48 ∷ 183 ∷ 248 ∷ 196 ∷ 122 ∷ 93 ∷ 34 ∷ 83 ∷ 216 ∷ 129 ∷ 47 ∷ 73 ∷ 92 ∷ 28 ∷ 57 ∷ 155 ∷ 192 ∷ 113 ∷ 3 ∷ 0 ∷ 1 ∷ 0 ∷ 0 ∷ 5 ∷ 103 ∷ 116 ∷ 71 ∷ 100 ∷ 202 ∷ 88 ∷ 136 ∷ 19 ∷ 66 ∷ 217 ∷ 135 ∷ 128 ∷ 55 ∷ 169 ∷ 90 ∷ 207 ∷ 104 ∷ 208 ∷ 158 ∷ 110 ∷ 255 ∷ 106 ∷ 73 ∷ 125 ∷ 206 ∷ 166 ∷ 190 ∷ 149 ∷ 168 ∷ 252 ∷ 47 ∷ 2 ∷ 0 ∷ 5 ∷ 96 ∷ 0 ∷ 0 ∷ 0 ∷ 0 ∷ 0 ∷ 0 ∷ 0 ∷ 0 ∷ 0 ∷ 0 ∷ 0 ∷ 0 ∷ 0 ∷ 0 ∷ 0 ∷ 0 ∷ 0 ∷ 0 ∷ 0 ∷ 0 ∷ 0 ∷ 0 ∷ 0 ∷ 0 ∷ 0 ∷ 0 ∷ 0 ∷ 0 ∷ 0 ∷ 0 ∷ 0 ∷ 141 ∷ 92 ∷ 38 ∷ 222 ∷ 224 ∷ 203 ∷ 165 ∷ 47 ∷ 221 ∷ 174 ∷ 66 ∷ 59 ∷ 98 ∷ 135 ∷ 212 ∷ 13 ∷ 130 ∷ 116 ∷ 219 ∷ 37 ∷ 56 ∷ 84 ∷ 197 ∷ 66 ∷ 250 ∷ 67 ∷ 45 ∷ 95 ∷ 64 ∷ 150 ∷ 169 ∷ 216 ∷ 121 ∷ 203 ∷ 41 ∷ 177 ∷ 94 ∷ 7 ∷ 127 ∷ 17 ∷ 242 ∷ 159 ∷ 214 ∷ 83 ∷ 144 ∷ 61 ∷ 43 ∷ 192 ∷ 121 ∷ 47 ∷ 133 ∷ 218 ∷ 48 ∷ 57 ∷ 184 ∷ 251 ∷ 69 ∷ 29 ∷ 198 ∷ 105 ∷ 253 ∷ 142 ∷ 37 ∷ 78 ∷ 0 ∷ 2 ∷ 0 ∷ 0 ∷ 5 ∷ 103 ∷ 116 ∷ 71 ∷ 100 ∷ 202 ∷ 88 ∷ 136 ∷ 19 ∷ 66 ∷ 217 ∷ 135 ∷ 128 ∷ 55 ∷ 169 ∷ 90 ∷ 207 ∷ 104 ∷ 208 ∷ 158 ∷ 110 ∷ 255 ∷ 106 ∷ 73 ∷ 125 ∷ 206 ∷ 166 ∷ 190 ∷ 149 ∷ 168 ∷ 252 ∷ 47 ∷ 0 ∷ 5 ∷ 141 ∷ 92 ∷ 38 ∷ 222 ∷ 224 ∷ 203 ∷ 165 ∷ 47 ∷ 221 ∷ 174 ∷ 66 ∷ 59 ∷ 98 ∷ 135 ∷ 212 ∷ 13 ∷ 130 ∷ 116 ∷ 219 ∷ 37 ∷ 56 ∷ 84 ∷ 197 ∷ 66 ∷ 250 ∷ 67 ∷ 45 ∷ 95 ∷ 64 ∷ 150 ∷ 169 ∷ 216 ∷ 0 ∷ 0 ∷ 0 ∷ 0 ∷ 0 ∷ 0 ∷ 0 ∷ 0 ∷ 0 ∷ 0 ∷ 0 ∷ 0 ∷ 0 ∷ 0 ∷ 0 ∷ 0 ∷ 0 ∷ 0 ∷ 0 ∷ 0 ∷ 0 ∷ 0 ∷ 0 ∷ 0 ∷ 0 ∷ 0 ∷ 0 ∷ 0 ∷ 0 ∷ 0 ∷ 0 ∷ 0 ∷ 0 ∷ 0 ∷ 0 ∷ 0 ∷ 1 ∷ 0 ∷ 2 ∷ 0 ∷ 0 ∷ 191 ∷ 7 ∷ 32 ∷ 119 ∷ 152 ∷ 171 ∷ 113 ∷ 100 ∷ 156 ∷ 41 ∷ 18 ∷ 79 ∷ 194 ∷ 160 ∷ 167 ∷ 17 ∷ 40 ∷ 103 ∷ 13 ∷ 61 ∷ 231 ∷ 77 ∷ 164 ∷ 193 ∷ 54 ∷ 204 ∷ 140 ∷ 121 ∷ 68 ∷ 85 ∷ 196 ∷ 210 ∷ 0 ∷ 1 ∷ 152 ∷ 29 ∷ 188 ∷ 196 ∷ 133 ∷ 78 ∷ 72 ∷ 178 ∷ 147 ∷ 224 ∷ 228 ∷ 70 ∷ 207 ∷ 133 ∷ 239 ∷ 173 ∷ 156 ∷ 226 ∷ 57 ∷ 218 ∷ 45 ∷ 232 ∷ 65 ∷ 55 ∷ 89 ∷ 52 ∷ 103 ∷ 106 ∷ 64 ∷ 187 ∷ 104 ∷ 199 ∷ 0 ∷ 0 ∷ 0 ∷ 0 ∷ 0 ∷ 0 ∷ 0 ∷ 0 ∷ 0 ∷ 0 ∷ 0 ∷ 0 ∷ 0 ∷ 0 ∷ 0 ∷ 0 ∷ 0 ∷ 0 ∷ 0 ∷ 0 ∷ 0 ∷ 0 ∷ 0 ∷ 0 ∷ 0 ∷ 0 ∷ 0 ∷ 0 ∷ 0 ∷ 0 ∷ 0 ∷ 0 ∷ 0 ∷ 0 ∷ 0 ∷ 0 ∷ 2 ∷ []

-- the history with one sibling of its last path replaced by zero bytes
abbrev broken : Bytes
broken = 86 ∷ 75 ∷ 68 ∷ 0 ∷ 1 ∷ 2 ∷ 0 ∷ 0 ∷ 0 ∷ 2 ∷ 220 ∷ 123 ∷ 234 ∷ 132 ∷ 165 ∷ 228 ∷ 46 ∷ 31 ∷ 4 ∷ 125 ∷ 16 ∷ 27 ∷ 153 ∷ 148 ∷ 95 ∷ 4 ∷ 77 ∷ 239 ∷ 169 ∷ 232 ∷ 208 ∷ 39 ∷ 196 ∷ 57 ∷ 118 ∷ 30 ∷ 154 ∷ 123 ∷ 146 ∷ 238 ∷ 89 ∷ 24 ∷ 172 ∷ 100 ∷ 235 ∷ 95 ∷ 174 ∷ 162 ∷ 2 ∷ 198 ∷ 29 ∷ 69 ∷ 132 ∷ 30 ∷ 252 ∷ 230 ∷ 230 ∷ 174 ∷ 224 ∷ 82 ∷ 166 ∷ 180 ∷ 93 ∷ 115 ∷ 131 ∷ 90 ∷ 246 ∷ 54 ∷ 150 ∷ 187 ∷ 200 ∷ 233 ∷ 154 ∷ 79 ∷ 105 ∷ 47 ∷ 207 ∷ 192 ∷ 148 ∷ 89 ∷ 112 ∷ 221 ∷ 195 ∷ 147 ∷ 16 ∷ 14 ∷ 182 ∷ 233 ∷ 152 ∷ 211 ∷ 163 ∷ 54 ∷ 66 ∷ 78 ∷ 115 ∷ 238 ∷ 246 ∷ 70 ∷ 170 ∷ 109 ∷ 229 ∷ 203 ∷ 122 ∷ 67 ∷ 101 ∷ 241 ∷ 0 ∷ 2 ∷ 5 ∷ 102 ∷ 105 ∷ 114 ∷ 115 ∷ 116 ∷ 7 ∷ 7 ∷ 7 ∷ 7 ∷ 7 ∷ 7 ∷ 7 ∷ 7 ∷ 7 ∷ 7 ∷ 7 ∷ 7 ∷ 7 ∷ 7 ∷ 7 ∷ 7 ∷ 7 ∷ 7 ∷ 7 ∷ 7 ∷ 7 ∷ 7 ∷ 7 ∷ 7 ∷ 7 ∷ 7 ∷ 7 ∷ 7 ∷ 7 ∷ 7 ∷ 7 ∷ 7 ∷ 6 ∷ 115 ∷ 101 ∷ 99 ∷ 111 ∷ 110 ∷ 100 ∷ 8 ∷ 8 ∷ 8 ∷ 8 ∷ 8 ∷ 8 ∷ 8 ∷ 8 ∷ 8 ∷ 8 ∷ 8 ∷ 8 ∷ 8 ∷ 8 ∷ 8 ∷ 8 ∷ 8 ∷ 8 ∷ 8 ∷ 8 ∷ 8 ∷ 8 ∷ 8 ∷ 8 ∷ 8 ∷ 8 ∷ 8 ∷ 8 ∷ 8 ∷ 8 ∷ 8 ∷ 8 ∷ 0 ∷ 2 ∷ 0 ∷ 0 ∷ 5 ∷ 103 ∷ 116 ∷ 71 ∷ 100 ∷ 202 ∷ 88 ∷ 136 ∷ 19 ∷ 66 ∷ 217 ∷ 135 ∷ 128 ∷ 55 ∷ 169 ∷ 90 ∷ 207 ∷ 104 ∷ 208 ∷ 158 ∷ 110 ∷ 255 ∷ 106 ∷ 73 ∷ 125 ∷ 206 ∷ 166 ∷ 190 ∷ 149 ∷ 168 ∷ 252 ∷ 47 ∷ 0 ∷ 5 ∷ 121 ∷ 203 ∷ 41 ∷ 177 ∷ 94 ∷ 7 ∷ 127 ∷ 17 ∷ 242 ∷ 159 ∷ 214 ∷ 83 ∷ 144 ∷ 61 ∷ 43 ∷ 192 ∷ 121 ∷ 47 ∷ 133 ∷ 218 ∷ 48 ∷ 57 ∷ 184 ∷ 251 ∷ 69 ∷ 29 ∷ 198 ∷ 105 ∷ 253 ∷ 142 ∷ 37 ∷ 78 ∷ 0 ∷ 142 ∷ 31 ∷ 86 ∷ 183 ∷ 100 ∷ 33 ∷ 247 ∷ 215 ∷ 96 ∷ 56 ∷ 142 ∷ 65 ∷ 163 ∷ 241 ∷ 118 ∷ 74 ∷ 199 ∷ 42 ∷ 177 ∷ 222 ∷ 75 ∷ 123 ∷ 209 ∷ 159 ∷ 244 ∷ 232 ∷ 76 ∷ 8 ∷ 217 ∷ 36 ∷ 84 ∷ 46 ∷ 0 ∷ 0 ∷ 0 ∷ 1 ∷ 0 ∷ 2 ∷ 0 ∷ 0 ∷ 191 ∷ 7 ∷ 32 ∷ 119 ∷ 152 ∷ 171 ∷ 113 ∷ 100 ∷ 156 ∷ 41 ∷ 18 ∷ 79 ∷ 194 ∷ 160 ∷ 167 ∷ 17 ∷ 40 ∷ 103 ∷ 13 ∷ 61 ∷ 231 ∷ 77 ∷ 164 ∷ 193 ∷ 54 ∷ 204 ∷ 140 ∷ 121 ∷ 68 ∷ 85 ∷ 196 ∷ 210 ∷ 0 ∷ 1 ∷ 126 ∷ 30 ∷ 86 ∷ 25 ∷ 232 ∷ 48 ∷ 208 ∷ 145 ∷ 133 ∷ 74 ∷ 208 ∷ 197 ∷ 20 ∷ 101 ∷ 250 ∷ 192 ∷ 36 ∷ 8 ∷ 52 ∷ 39 ∷ 190 ∷ 81 ∷ 134 ∷ 159 ∷ 45 ∷ 192 ∷ 192 ∷ 14 ∷ 146 ∷ 82 ∷ 171 ∷ 183 ∷ 0 ∷ 117 ∷ 123 ∷ 218 ∷ 120 ∷ 211 ∷ 93 ∷ 125 ∷ 33 ∷ 211 ∷ 89 ∷ 32 ∷ 156 ∷ 33 ∷ 13 ∷ 38 ∷ 225 ∷ 61 ∷ 155 ∷ 236 ∷ 26 ∷ 203 ∷ 175 ∷ 116 ∷ 99 ∷ 156 ∷ 32 ∷ 166 ∷ 254 ∷ 202 ∷ 83 ∷ 6 ∷ 142 ∷ 0 ∷ 0 ∷ 0 ∷ 2 ∷ 0 ∷ 1 ∷ 0 ∷ 0 ∷ 219 ∷ 193 ∷ 180 ∷ 201 ∷ 0 ∷ 255 ∷ 228 ∷ 141 ∷ 87 ∷ 91 ∷ 93 ∷ 165 ∷ 198 ∷ 56 ∷ 4 ∷ 1 ∷ 37 ∷ 246 ∷ 93 ∷ 176 ∷ 254 ∷ 62 ∷ 36 ∷ 73 ∷ 75 ∷ 118 ∷ 234 ∷ 152 ∷ 100 ∷ 87 ∷ 217 ∷ 134 ∷ 0 ∷ 0 ∷ 0 ∷ 0 ∷ 0 ∷ 0 ∷ 0 ∷ 0 ∷ 0 ∷ 0 ∷ 0 ∷ 0 ∷ 0 ∷ 0 ∷ 0 ∷ 0 ∷ 0 ∷ 0 ∷ 0 ∷ 0 ∷ 0 ∷ 0 ∷ 0 ∷ 0 ∷ 0 ∷ 0 ∷ 0 ∷ 0 ∷ 0 ∷ 0 ∷ 0 ∷ 0 ∷ 0 ∷ 0 ∷ 0 ∷ 0 ∷ 2 ∷ 0 ∷ 1 ∷ 0 ∷ 0 ∷ 80 ∷ 34 ∷ 203 ∷ 120 ∷ 196 ∷ 109 ∷ 83 ∷ 70 ∷ 95 ∷ 13 ∷ 218 ∷ 181 ∷ 36 ∷ 90 ∷ 48 ∷ 183 ∷ 248 ∷ 196 ∷ 122 ∷ 93 ∷ 34 ∷ 83 ∷ 216 ∷ 129 ∷ 47 ∷ 73 ∷ 92 ∷ 28 ∷ 57 ∷ 155 ∷ 192 ∷ 113 ∷ 3 ∷ 0 ∷ 1 ∷ 0 ∷ 0 ∷ 5 ∷ 103 ∷ 116 ∷ 71 ∷ 100 ∷ 202 ∷ 88 ∷ 136 ∷ 19 ∷ 66 ∷ 217 ∷ 135 ∷ 128 ∷ 55 ∷ 169 ∷ 90 ∷ 207 ∷ 104 ∷ 208 ∷ 158 ∷ 110 ∷ 255 ∷ 106 ∷ 73 ∷ 125 ∷ 206 ∷ 166 ∷ 190 ∷ 149 ∷ 168 ∷ 252 ∷ 47 ∷ 2 ∷ 0 ∷ 5 ∷ 96 ∷ 0 ∷ 0 ∷ 0 ∷ 0 ∷ 0 ∷ 0 ∷ 0 ∷ 0 ∷ 0 ∷ 0 ∷ 0 ∷ 0 ∷ 0 ∷ 0 ∷ 0 ∷ 0 ∷ 0 ∷ 0 ∷ 0 ∷ 0 ∷ 0 ∷ 0 ∷ 0 ∷ 0 ∷ 0 ∷ 0 ∷ 0 ∷ 0 ∷ 0 ∷ 0 ∷ 0 ∷ 141 ∷ 92 ∷ 38 ∷ 222 ∷ 224 ∷ 203 ∷ 165 ∷ 47 ∷ 221 ∷ 174 ∷ 66 ∷ 59 ∷ 98 ∷ 135 ∷ 212 ∷ 13 ∷ 130 ∷ 116 ∷ 219 ∷ 37 ∷ 56 ∷ 84 ∷ 197 ∷ 66 ∷ 250 ∷ 67 ∷ 45 ∷ 95 ∷ 64 ∷ 150 ∷ 169 ∷ 216 ∷ 121 ∷ 203 ∷ 41 ∷ 177 ∷ 94 ∷ 7 ∷ 127 ∷ 17 ∷ 242 ∷ 159 ∷ 214 ∷ 83 ∷ 144 ∷ 61 ∷ 43 ∷ 192 ∷ 121 ∷ 47 ∷ 133 ∷ 218 ∷ 48 ∷ 57 ∷ 184 ∷ 251 ∷ 69 ∷ 29 ∷ 198 ∷ 105 ∷ 253 ∷ 142 ∷ 37 ∷ 78 ∷ 0 ∷ 2 ∷ 0 ∷ 0 ∷ 5 ∷ 103 ∷ 116 ∷ 71 ∷ 100 ∷ 202 ∷ 88 ∷ 136 ∷ 19 ∷ 66 ∷ 217 ∷ 135 ∷ 128 ∷ 55 ∷ 169 ∷ 90 ∷ 207 ∷ 104 ∷ 208 ∷ 158 ∷ 110 ∷ 255 ∷ 106 ∷ 73 ∷ 125 ∷ 206 ∷ 166 ∷ 190 ∷ 149 ∷ 168 ∷ 252 ∷ 47 ∷ 0 ∷ 5 ∷ 141 ∷ 92 ∷ 38 ∷ 222 ∷ 224 ∷ 203 ∷ 165 ∷ 47 ∷ 221 ∷ 174 ∷ 66 ∷ 59 ∷ 98 ∷ 135 ∷ 212 ∷ 13 ∷ 130 ∷ 116 ∷ 219 ∷ 37 ∷ 56 ∷ 84 ∷ 197 ∷ 66 ∷ 250 ∷ 67 ∷ 45 ∷ 95 ∷ 64 ∷ 150 ∷ 169 ∷ 216 ∷ 0 ∷ 0 ∷ 0 ∷ 0 ∷ 0 ∷ 0 ∷ 0 ∷ 0 ∷ 0 ∷ 0 ∷ 0 ∷ 0 ∷ 0 ∷ 0 ∷ 0 ∷ 0 ∷ 0 ∷ 0 ∷ 0 ∷ 0 ∷ 0 ∷ 0 ∷ 0 ∷ 0 ∷ 0 ∷ 0 ∷ 0 ∷ 0 ∷ 0 ∷ 0 ∷ 0 ∷ 0 ∷ 0 ∷ 0 ∷ 0 ∷ 0 ∷ 1 ∷ 0 ∷ 2 ∷ 0 ∷ 0 ∷ 0 ∷ 0 ∷ 0 ∷ 0 ∷ 0 ∷ 0 ∷ 0 ∷ 0 ∷ 0 ∷ 0 ∷ 0 ∷ 0 ∷ 0 ∷ 0 ∷ 0 ∷ 0 ∷ 0 ∷ 0 ∷ 0 ∷ 0 ∷ 0 ∷ 0 ∷ 0 ∷ 0 ∷ 0 ∷ 0 ∷ 0 ∷ 0 ∷ 0 ∷ 0 ∷ 0 ∷ 0 ∷ 0 ∷ 1 ∷ 152 ∷ 29 ∷ 188 ∷ 196 ∷ 133 ∷ 78 ∷ 72 ∷ 178 ∷ 147 ∷ 224 ∷ 228 ∷ 70 ∷ 207 ∷ 133 ∷ 239 ∷ 173 ∷ 156 ∷ 226 ∷ 57 ∷ 218 ∷ 45 ∷ 232 ∷ 65 ∷ 55 ∷ 89 ∷ 52 ∷ 103 ∷ 106 ∷ 64 ∷ 187 ∷ 104 ∷ 199 ∷ 0 ∷ 0 ∷ 0 ∷ 0 ∷ 0 ∷ 0 ∷ 0 ∷ 0 ∷ 0 ∷ 0 ∷ 0 ∷ 0 ∷ 0 ∷ 0 ∷ 0 ∷ 0 ∷ 0 ∷ 0 ∷ 0 ∷ 0 ∷ 0 ∷ 0 ∷ 0 ∷ 0 ∷ 0 ∷ 0 ∷ 0 ∷ 0 ∷ 0 ∷ 0 ∷ 0 ∷ 0 ∷ 0 ∷ 0 ∷ 0 ∷ 0 ∷ 2 ∷ []

-- ---- what the bytes hold

-- a path of one step, and one of two
abbrev one : ℕ → Bytes → End → Path
one m s e = record { steps = record { length = m; sibling = s } ∷ []; end = e }

abbrev two : ℕ → Bytes → ℕ → Bytes → End → Path
two m s n t e = record { steps = record { length = m; sibling = s } ∷ record { length = n; sibling = t } ∷ []; end = e }

abbrev item-1 : Item
item-1 = record { key = key-1; opening = opening-1 }

abbrev looked : Proof
looked = record {
  head = head-1;
  number = 1;
  items = item-1 ∷ [];
  paths = two 0 empty 5 marker-0 (this commitment-1 1) ∷ one 0 empty none ∷ two 0 empty 5 leaf-1 (this (zeros 32) 1) ∷ [];
}

abbrev audit : Audit
audit = record {
  before = head-1;
  after = head-2;
  all = opened prefix leaf-1 marker-0 ∷ fresh (bits_of mark-1) (zeros 32) 2 ∷ fresh (bits_of label-2) commitment-2 2 ∷ [];
  old = fresh (bits_of label-1) (zeros 32) 2 ∷ [];
}

-- the history, up to its last path
abbrev told : Path → Proof
told x = record {
  head = head-2;
  number = 2;
  items = item-1 ∷ record { key = key-2; opening = opening-2 } ∷ [];
  paths =
      two 0 pair-2 5 marker-0 (this commitment-1 1) ∷ two 0 pair-1 1 marker-1 (this commitment-2 2)
      ∷ one 0 empty (this (zeros 32) 2) ∷ one 0 gone-1 none ∷ one 0 pair-2 (off prefix leaf-1 marker-0)
      ∷ two 0 pair-2 5 leaf-1 (this (zeros 32) 1) ∷ x ∷ [];
}

-- and the last: as it is, and with another sibling
abbrev last : Path
last = two 0 pair-1 1 leaf-2 (this (zeros 32) 2)

abbrev bad_last : Path
bad_last = two 0 (zeros 32) 1 leaf-2 (this (zeros 32) 2)

lookup-read : parse lookup_field lookup ≡ got looked []
unfolding every be number same to_bits bits_of from_bits pack block fixed within seq led times times_read such view never rise_from rise end_of up_from top_power log2
lookup-read = refl

step-read : parse audit_field step.proof ≡ got audit []
unfolding every be number same to_bits bits_of from_bits pack block fixed within seq led times times_read such view never rise_from rise end_of starts record_of
step-read = refl

history-read : parse history_field history ≡ got (told last) []
unfolding every be number same to_bits bits_of from_bits pack block fixed within seq led times times_read such view never rise_from rise end_of up_from top_power log2
history-read = refl

broken-read : parse history_field broken ≡ got (told bad_last) []
unfolding every be number same to_bits bits_of from_bits pack block fixed within seq led times times_read such view never rise_from rise end_of up_from top_power log2
broken-read = refl

-- ---- the audit step: its nine tests

step-rules : (eqb audit.after.epoch (suc audit.before.epoch) && same audit.after.previous before ≡ true)
    × (in_order audit.all && every (record_rule OfAll audit.before.epoch audit.after.epoch) audit.all ≡ true)
    × (in_order audit.old && every (record_rule OfOld audit.before.epoch audit.after.epoch) audit.old ≡ true)
unfolding every same to_bits bits_of starts lcp before? in_order
step-rules = (refl, refl, refl)

all-before : root_digest (olds audit.all) ≡ all-1
unfolding keep starts lcp to_bits bits_of common side build root olds
all-before = over [] D.pair-1-is D.empty-is D.all-1-is

all_after : root_digest (news audit.all) ≡ all-2
unfolding keep starts lcp to_bits bits_of common side build root news
all_after = over [] D.pair-1-is (over (true ∷ []) D.marker-1-is D.leaf-2-is D.pair-2-is) D.all-2-is

old-before : root_digest (olds audit.old) ≡ old-1
unfolding keep starts lcp to_bits bits_of common side build root olds
old-before = over [] D.empty-is D.empty-is D.old-1-is

old-after : root_digest (news audit.old) ≡ old-2
unfolding keep starts lcp to_bits bits_of common side build root news
old-after = over [] D.gone-1-is D.empty-is D.old-2-is

pub step-accepted : audit_reply (check_audit before after step.proof) ≡ reply 0 (1 ∷ 2 ∷ 16 ∷ [])
unfolding keep starts lcp to_bits bits_of common side build root olds news audit_tests audit_strings
step-accepted = ap audit_reply (audit-accept before after step.proof audit step-read (refl, tt) (
  eq-same D.before-is,
  (eq-same D.after_is, (step-rules.0, (step-rules.1, (eq-same all-before, (eq-same all_after, (step-rules.2, (eq-same old-before, (eq-same old-after, tt)))))))),
))

-- ---- the lookup and the history: path by path

-- a path gives its root, and shows what is asked
abbrev Passes : Head → Terms → Asked → Path → Type 0
Passes h terms a x = (same (path_root (label_at plain name a.place) x) (root_at h a.place) ≡ true) × (meets plain name terms a x ≡ true)

module _ (h : Head) (terms : Terms) (p : Place) (x : Path) {l : Bytes} (label : plain.label (kind_of p) (number_of p) name ≡ l)
    (roots : digest (path_top (bits_of l) x.steps x.end) ≡ root_at h p) where
  there : {c : Bytes} → terms.commitment p ≡ c → present_with c x.end && terms.epoch p (epoch_of x.end) ≡ true → Passes h terms (present p) x
  unfolding meets
  there e q = (
    eq-same (ap (λ l. path_root (bits_of l) x) label ∙ roots),
    ap (λ c. present_with c x.end && terms.epoch p (epoch_of x.end)) e ∙ q,
  )

  away : absent (bits_of l) (last_length x.steps) x.end ≡ true → Passes h terms (missing p) x
  unfolding meets
  away q = (eq-same (ap (λ l. path_root (bits_of l) x) label ∙ roots), ap (λ l. absent (bits_of l) (last_length x.steps) x.end) label ∙ q)

looked-1 : Passes head-1 (lookup_terms looked) (present (in_all 1)) (two 0 empty 5 marker-0 (this commitment-1 1))
unfolding same to_bits bits_of step_node path_top present_with commitment_at epoch_at
looked-1 = there head-1 _ _ _ D.label-1-is (over [] (over prefix D.leaf-1-is refl D.pair-1-is) refl D.all-1-is) D.commitment-1-is refl

looked-2 : Passes head-1 (lookup_terms looked) (missing (in_old 1)) (one 0 empty none)
unfolding to_bits bits_of step_node path_top last_length absent
looked-2 = away head-1 _ _ _ D.label-1-is (over [] D.empty-is refl D.old-1-is) refl

looked-3 : Passes head-1 (lookup_terms looked) (present (as_marker 0)) (two 0 empty 5 leaf-1 (this (zeros 32) 1))
unfolding same to_bits bits_of step_node path_top present_with commitment_at epoch_at
looked-3 = there head-1 _ _ _ D.mark-0-is (over [] (over prefix refl D.marker-0-is D.pair-1-is) refl D.all-1-is) refl refl

lookup-holds : Hold (proof_tests plain name before (lookup_terms looked) (lookup_asked 1) looked)
unfolding top_power log2 proof_tests path_tests
lookup-holds = (eq-same D.before-is, (looked-1.0, (looked-1.1, (looked-2.0, (looked-2.1, (looked-3.0, (looked-3.1, tt)))))))

-- version 1, found at epoch 1
pub lookup-accepted : lookup_reply (check_lookup plain before name lookup) ≡ reply 0 (1 ∷ 1 ∷ 13 ∷ [])
unfolding every is_name input_tests top_power log2 proof_strings path_strings path_nodes
lookup-accepted = ap lookup_reply (lookup-accept plain before name lookup looked lookup-read (refl, tt) lookup-holds)

-- the first six paths of the history, whatever the last is
module _ (x : Path) where
  told-1 : Passes head-2 (history_terms (told x)) (present (in_all 1)) (two 0 pair-2 5 marker-0 (this commitment-1 1))
  unfolding same to_bits bits_of step_node path_top present_with commitment_at epoch_at
  told-1 = there head-2 _ _ _ D.label-1-is (over [] (over prefix D.leaf-1-is refl D.pair-1-is) refl D.all-2-is) D.commitment-1-is refl

  told-2 : Passes head-2 (history_terms (told x)) (present (in_all 2)) (two 0 pair-1 1 marker-1 (this commitment-2 2))
  unfolding same to_bits bits_of step_node path_top present_with commitment_at epoch_at
  told-2 = there head-2 _ _ _ D.label-2-is (over [] refl (over (true ∷ []) refl D.leaf-2-is D.pair-2-is) D.all-2-is) D.commitment-2-is refl

  told-3 : Passes head-2 (history_terms (told x)) (present (in_old 1)) (one 0 empty (this (zeros 32) 2))
  unfolding same to_bits bits_of step_node path_top present_with commitment_at epoch_at
  told-3 = there head-2 _ _ _ D.label-1-is (over [] D.gone-1-is refl D.old-2-is) refl refl

  told-4 : Passes head-2 (history_terms (told x)) (missing (in_old 2)) (one 0 gone-1 none)
  unfolding to_bits bits_of step_node path_top last_length absent
  told-4 = away head-2 _ _ _ D.label-2-is (over [] refl D.empty-is D.old-2-is) refl

  told-5 : Passes head-2 (history_terms (told x)) (missing (in_all 3)) (one 0 pair-2 (off prefix leaf-1 marker-0))
  unfolding to_bits bits_of starts step_node path_top last_length absent
  told-5 = away head-2 _ _ _ D.label-3-is (over [] D.pair-1-is refl D.all-2-is) refl

  told-6 : Passes head-2 (history_terms (told x)) (present (as_marker 0)) (two 0 pair-2 5 leaf-1 (this (zeros 32) 1))
  unfolding same to_bits bits_of step_node path_top present_with commitment_at epoch_at
  told-6 = there head-2 _ _ _ D.mark-0-is (over [] (over prefix refl D.marker-0-is D.pair-1-is) refl D.all-2-is) refl refl

told-7 : Passes head-2 (history_terms (told last)) (present (as_marker 1)) last
unfolding same to_bits bits_of step_node path_top present_with commitment_at epoch_at
told-7 = there head-2 _ _ _ D.mark-1-is (over [] refl (over (true ∷ []) D.marker-1-is refl D.pair-2-is) D.all-2-is) refl refl

history-holds : Hold (proof_tests plain name after (history_terms (told last)) (history_asked 2 2) (told last))
unfolding up_from top_power log2 proof_tests path_tests
history-holds = (
  eq-same D.after_is,
  ((told-1 last).0, ((told-1 last).1, ((told-2 last).0, ((told-2 last).1, ((told-3 last).0, ((told-3 last).1, ((told-4 last).0, ((told-4 last).1, ((told-5 last).0, ((told-5 last).1, ((told-6 last).0, ((told-6 last).1, (told-7.0, (told-7.1, tt)))))))))))))),
)

-- two versions by epoch 2
pub history-accepted : history_reply (check_history plain after name history) ≡ reply 0 (2 ∷ 2 ∷ 28 ∷ [])
unfolding every is_name input_tests up_from top_power log2 proof_strings path_strings path_nodes
history-accepted = ap history_reply (history-accept plain after name history (told last) history-read (refl, tt) history-holds)

-- ---- a history is walked to its end: with six good paths and a bad last one it is refused

bad-root : path_root (label_at plain name (as_marker 1)) bad_last ≡ wrong
unfolding to_bits bits_of step_node path_top
bad-root = ap (λ l. path_root (bits_of l) bad_last) D.mark-1-is ∙ over [] refl (over (true ∷ []) D.marker-1-is refl D.pair-2-is) D.wrong-is

history-fails : FirstFails (proof_tests plain name after (history_terms (told bad_last)) (history_asked 2 2) (told bad_last)) 4
unfolding same up_from top_power log2 proof_tests path_tests
history-fails =
    let x = bad_last in
    later (eq-same D.after_is)
    (later (told-1 x).0 (later (told-1 x).1 (later (told-2 x).0 (later (told-2 x).1 (later (told-3 x).0 (later (told-3 x).1
    (later (told-4 x).0 (later (told-4 x).1 (later (told-5 x).0 (later (told-5 x).1 (later (told-6 x).0 (later (told-6 x).1
    ((first-cons _ _ 4).1 (inl (ap (λ r. same r all-2) bad-root, refl)))))))))))))))
  where
    later : {t : Test} {ts : List Test} → t.holds ≡ true → FirstFails ts 4 → FirstFails (t ∷ ts) 4
    later h f = (first-cons _ _ 4).1 (inr (h, f))

pub history-to-the-end : history_reply (check_history plain after name broken) ≡ reply 4 []
unfolding every is_name input_tests check_history
history-to-the-end = ap history_reply (verdict-all _ _ (input_tests after name) (refl, tt) ∙ ap (history_read plain name after) broken-read ∙ verdict-first _ _ _ 4 history-fails) ∙ ap (λ n. reply n []) history-fails.number

-- ---- so the arrow's theorem speaks of them
points : all_accepted plain before name lookup (step ∷ []) history ≡ true
unfolding all_accepted
points =
    let number : Reply → ℕ = λ r. r.number in
    rw (ap number lookup-accepted, ap number step-accepted, ap number history-accepted)

pub promise : Agrees (check_lookup plain before name lookup) lookup (step ∷ []) (check_history plain after name history) history
    ⊎ Collision (hashed plain name lookup (step ∷ []) history)
promise = accepted-agrees plain plain-tied before name lookup (step ∷ []) history (bytewise lookup tt) (bytewise step.proof tt, tt) (bytewise history tt) points
