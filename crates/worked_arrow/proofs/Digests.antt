-- Every digest of the directory in Promise.antt and Publishing.antt, each worked out once. The bytes are those of tests/directory.py. Assumes nothing.
use mathlib.Core.Path.{◌≡◌, ap₂, ◌∙◌}
use mathlib.Core.Bool.{true, false}
use mathlib.Core.List.{[], ◌∷◌}
use Rattle.fips.specs.Sha256 as F
use Rattle.fips.proofs.Fast.{fast-is}
use Rattle.paper.specs.Bytes.{Bytes, be, zeros}
use Rattle.paper.specs.Bits.{Bits, to_bits, bits_of, from_bits, pack}
use Rattle.paper.specs.Strings.{leaf, inner, nothing, node_string, leaf_string, inner_string, nothing_string, Head, head_bytes, head_string, label_string, commitment_string}
use Rattle.paper.specs.Tree.{digest}

abbrev pub name : Bytes
name = 105 ∷ 100 ∷ 97 ∷ []

abbrev pub key-1 : Bytes
key-1 = 102 ∷ 105 ∷ 114 ∷ 115 ∷ 116 ∷ []

abbrev pub opening-1 : Bytes
opening-1 = 7 ∷ 7 ∷ 7 ∷ 7 ∷ 7 ∷ 7 ∷ 7 ∷ 7 ∷ 7 ∷ 7 ∷ 7 ∷ 7 ∷ 7 ∷ 7 ∷ 7 ∷ 7 ∷ 7 ∷ 7 ∷ 7 ∷ 7 ∷ 7 ∷ 7 ∷ 7 ∷ 7 ∷ 7 ∷ 7 ∷ 7 ∷ 7 ∷ 7 ∷ 7 ∷ 7 ∷ 7 ∷ []

abbrev pub key-2 : Bytes
key-2 = 115 ∷ 101 ∷ 99 ∷ 111 ∷ 110 ∷ 100 ∷ []

abbrev pub opening-2 : Bytes
opening-2 = 8 ∷ 8 ∷ 8 ∷ 8 ∷ 8 ∷ 8 ∷ 8 ∷ 8 ∷ 8 ∷ 8 ∷ 8 ∷ 8 ∷ 8 ∷ 8 ∷ 8 ∷ 8 ∷ 8 ∷ 8 ∷ 8 ∷ 8 ∷ 8 ∷ 8 ∷ 8 ∷ 8 ∷ 8 ∷ 8 ∷ 8 ∷ 8 ∷ 8 ∷ 8 ∷ 8 ∷ 8 ∷ []

-- the labels of versions 1 to 3 and of markers 0 and 1
abbrev pub label-1 : Bytes
label-1 = 96 ∷ 93 ∷ 49 ∷ 145 ∷ 156 ∷ 63 ∷ 94 ∷ 253 ∷ 118 ∷ 62 ∷ 215 ∷ 181 ∷ 136 ∷ 247 ∷ 99 ∷ 198 ∷ 191 ∷ 253 ∷ 220 ∷ 96 ∷ 207 ∷ 139 ∷ 250 ∷ 184 ∷ 72 ∷ 218 ∷ 65 ∷ 210 ∷ 226 ∷ 183 ∷ 79 ∷ 2 ∷ []

pub label-1-is : F.sha256 (label_string 1 1 name) ≡ label-1
unfolding F.be64 F.zeros F.pad F.parse F.digest be to_bits bits_of from_bits pack leaf_string inner_string nothing_string head_bytes head_string label_string commitment_string
label-1-is = fast-is (label_string 1 1 name)

abbrev pub label-2 : Bytes
label-2 = 204 ∷ 60 ∷ 16 ∷ 203 ∷ 108 ∷ 188 ∷ 42 ∷ 132 ∷ 0 ∷ 249 ∷ 7 ∷ 63 ∷ 112 ∷ 100 ∷ 222 ∷ 243 ∷ 37 ∷ 182 ∷ 205 ∷ 52 ∷ 88 ∷ 74 ∷ 222 ∷ 199 ∷ 109 ∷ 7 ∷ 14 ∷ 171 ∷ 7 ∷ 37 ∷ 127 ∷ 187 ∷ []

pub label-2-is : F.sha256 (label_string 1 2 name) ≡ label-2
unfolding F.be64 F.zeros F.pad F.parse F.digest be to_bits bits_of from_bits pack leaf_string inner_string nothing_string head_bytes head_string label_string commitment_string
label-2-is = fast-is (label_string 1 2 name)

abbrev pub label-3 : Bytes
label-3 = 45 ∷ 11 ∷ 183 ∷ 221 ∷ 45 ∷ 132 ∷ 106 ∷ 195 ∷ 164 ∷ 236 ∷ 177 ∷ 124 ∷ 9 ∷ 233 ∷ 8 ∷ 89 ∷ 222 ∷ 224 ∷ 5 ∷ 113 ∷ 208 ∷ 251 ∷ 254 ∷ 81 ∷ 82 ∷ 3 ∷ 83 ∷ 47 ∷ 144 ∷ 151 ∷ 19 ∷ 106 ∷ []

pub label-3-is : F.sha256 (label_string 1 3 name) ≡ label-3
unfolding F.be64 F.zeros F.pad F.parse F.digest be to_bits bits_of from_bits pack leaf_string inner_string nothing_string head_bytes head_string label_string commitment_string
label-3-is = fast-is (label_string 1 3 name)

abbrev pub mark-0 : Bytes
mark-0 = 103 ∷ 120 ∷ 189 ∷ 193 ∷ 142 ∷ 196 ∷ 56 ∷ 207 ∷ 92 ∷ 137 ∷ 163 ∷ 12 ∷ 180 ∷ 242 ∷ 232 ∷ 179 ∷ 132 ∷ 182 ∷ 139 ∷ 185 ∷ 146 ∷ 193 ∷ 64 ∷ 13 ∷ 230 ∷ 210 ∷ 253 ∷ 146 ∷ 74 ∷ 182 ∷ 178 ∷ 194 ∷ []

pub mark-0-is : F.sha256 (label_string 2 0 name) ≡ mark-0
unfolding F.be64 F.zeros F.pad F.parse F.digest be to_bits bits_of from_bits pack leaf_string inner_string nothing_string head_bytes head_string label_string commitment_string
mark-0-is = fast-is (label_string 2 0 name)

abbrev pub mark-1 : Bytes
mark-1 = 144 ∷ 54 ∷ 145 ∷ 225 ∷ 1 ∷ 77 ∷ 68 ∷ 244 ∷ 198 ∷ 216 ∷ 183 ∷ 18 ∷ 100 ∷ 172 ∷ 133 ∷ 200 ∷ 40 ∷ 47 ∷ 7 ∷ 201 ∷ 132 ∷ 122 ∷ 209 ∷ 43 ∷ 133 ∷ 24 ∷ 28 ∷ 58 ∷ 147 ∷ 50 ∷ 136 ∷ 206 ∷ []

pub mark-1-is : F.sha256 (label_string 2 1 name) ≡ mark-1
unfolding F.be64 F.zeros F.pad F.parse F.digest be to_bits bits_of from_bits pack leaf_string inner_string nothing_string head_bytes head_string label_string commitment_string
mark-1-is = fast-is (label_string 2 1 name)

-- the commitments
abbrev pub commitment-1 : Bytes
commitment-1 = 142 ∷ 31 ∷ 86 ∷ 183 ∷ 100 ∷ 33 ∷ 247 ∷ 215 ∷ 96 ∷ 56 ∷ 142 ∷ 65 ∷ 163 ∷ 241 ∷ 118 ∷ 74 ∷ 199 ∷ 42 ∷ 177 ∷ 222 ∷ 75 ∷ 123 ∷ 209 ∷ 159 ∷ 244 ∷ 232 ∷ 76 ∷ 8 ∷ 217 ∷ 36 ∷ 84 ∷ 46 ∷ []

pub commitment-1-is : F.sha256 (commitment_string opening-1 key-1) ≡ commitment-1
unfolding F.be64 F.zeros F.pad F.parse F.digest be to_bits bits_of from_bits pack leaf_string inner_string nothing_string head_bytes head_string label_string commitment_string
commitment-1-is = fast-is (commitment_string opening-1 key-1)

abbrev pub commitment-2 : Bytes
commitment-2 = 117 ∷ 123 ∷ 218 ∷ 120 ∷ 211 ∷ 93 ∷ 125 ∷ 33 ∷ 211 ∷ 89 ∷ 32 ∷ 156 ∷ 33 ∷ 13 ∷ 38 ∷ 225 ∷ 61 ∷ 155 ∷ 236 ∷ 26 ∷ 203 ∷ 175 ∷ 116 ∷ 99 ∷ 156 ∷ 32 ∷ 166 ∷ 254 ∷ 202 ∷ 83 ∷ 6 ∷ 142 ∷ []

pub commitment-2-is : F.sha256 (commitment_string opening-2 key-2) ≡ commitment-2
unfolding F.be64 F.zeros F.pad F.parse F.digest be to_bits bits_of from_bits pack leaf_string inner_string nothing_string head_bytes head_string label_string commitment_string
commitment-2-is = fast-is (commitment_string opening-2 key-2)

-- *all*: the leaves of epoch 1 and the node above them, those of epoch 2, and the roots
abbrev pub leaf-1 : Bytes
leaf-1 = 141 ∷ 92 ∷ 38 ∷ 222 ∷ 224 ∷ 203 ∷ 165 ∷ 47 ∷ 221 ∷ 174 ∷ 66 ∷ 59 ∷ 98 ∷ 135 ∷ 212 ∷ 13 ∷ 130 ∷ 116 ∷ 219 ∷ 37 ∷ 56 ∷ 84 ∷ 197 ∷ 66 ∷ 250 ∷ 67 ∷ 45 ∷ 95 ∷ 64 ∷ 150 ∷ 169 ∷ 216 ∷ []

pub leaf-1-is : F.sha256 (node_string (leaf (bits_of label-1) commitment-1 1)) ≡ leaf-1
unfolding F.be64 F.zeros F.pad F.parse F.digest be to_bits bits_of from_bits pack leaf_string inner_string nothing_string head_bytes head_string label_string commitment_string
leaf-1-is = fast-is (node_string (leaf (bits_of label-1) commitment-1 1))

abbrev pub marker-0 : Bytes
marker-0 = 121 ∷ 203 ∷ 41 ∷ 177 ∷ 94 ∷ 7 ∷ 127 ∷ 17 ∷ 242 ∷ 159 ∷ 214 ∷ 83 ∷ 144 ∷ 61 ∷ 43 ∷ 192 ∷ 121 ∷ 47 ∷ 133 ∷ 218 ∷ 48 ∷ 57 ∷ 184 ∷ 251 ∷ 69 ∷ 29 ∷ 198 ∷ 105 ∷ 253 ∷ 142 ∷ 37 ∷ 78 ∷ []

pub marker-0-is : F.sha256 (node_string (leaf (bits_of mark-0) (zeros 32) 1)) ≡ marker-0
unfolding F.be64 F.zeros F.pad F.parse F.digest be to_bits bits_of from_bits pack leaf_string inner_string nothing_string head_bytes head_string label_string commitment_string
marker-0-is = fast-is (node_string (leaf (bits_of mark-0) (zeros 32) 1))

abbrev pub prefix : Bits
prefix = false ∷ true ∷ true ∷ false ∷ false ∷ []

abbrev pub pair-1 : Bytes
pair-1 = 191 ∷ 7 ∷ 32 ∷ 119 ∷ 152 ∷ 171 ∷ 113 ∷ 100 ∷ 156 ∷ 41 ∷ 18 ∷ 79 ∷ 194 ∷ 160 ∷ 167 ∷ 17 ∷ 40 ∷ 103 ∷ 13 ∷ 61 ∷ 231 ∷ 77 ∷ 164 ∷ 193 ∷ 54 ∷ 204 ∷ 140 ∷ 121 ∷ 68 ∷ 85 ∷ 196 ∷ 210 ∷ []

pub pair-1-is : F.sha256 (node_string (inner prefix leaf-1 marker-0)) ≡ pair-1
unfolding F.be64 F.zeros F.pad F.parse F.digest be to_bits bits_of from_bits pack leaf_string inner_string nothing_string head_bytes head_string label_string commitment_string
pair-1-is = fast-is (node_string (inner prefix leaf-1 marker-0))

abbrev pub leaf-2 : Bytes
leaf-2 = 152 ∷ 29 ∷ 188 ∷ 196 ∷ 133 ∷ 78 ∷ 72 ∷ 178 ∷ 147 ∷ 224 ∷ 228 ∷ 70 ∷ 207 ∷ 133 ∷ 239 ∷ 173 ∷ 156 ∷ 226 ∷ 57 ∷ 218 ∷ 45 ∷ 232 ∷ 65 ∷ 55 ∷ 89 ∷ 52 ∷ 103 ∷ 106 ∷ 64 ∷ 187 ∷ 104 ∷ 199 ∷ []

pub leaf-2-is : F.sha256 (node_string (leaf (bits_of label-2) commitment-2 2)) ≡ leaf-2
unfolding F.be64 F.zeros F.pad F.parse F.digest be to_bits bits_of from_bits pack leaf_string inner_string nothing_string head_bytes head_string label_string commitment_string
leaf-2-is = fast-is (node_string (leaf (bits_of label-2) commitment-2 2))

abbrev pub marker-1 : Bytes
marker-1 = 126 ∷ 30 ∷ 86 ∷ 25 ∷ 232 ∷ 48 ∷ 208 ∷ 145 ∷ 133 ∷ 74 ∷ 208 ∷ 197 ∷ 20 ∷ 101 ∷ 250 ∷ 192 ∷ 36 ∷ 8 ∷ 52 ∷ 39 ∷ 190 ∷ 81 ∷ 134 ∷ 159 ∷ 45 ∷ 192 ∷ 192 ∷ 14 ∷ 146 ∷ 82 ∷ 171 ∷ 183 ∷ []

pub marker-1-is : F.sha256 (node_string (leaf (bits_of mark-1) (zeros 32) 2)) ≡ marker-1
unfolding F.be64 F.zeros F.pad F.parse F.digest be to_bits bits_of from_bits pack leaf_string inner_string nothing_string head_bytes head_string label_string commitment_string
marker-1-is = fast-is (node_string (leaf (bits_of mark-1) (zeros 32) 2))

abbrev pub pair-2 : Bytes
pair-2 = 5 ∷ 103 ∷ 116 ∷ 71 ∷ 100 ∷ 202 ∷ 88 ∷ 136 ∷ 19 ∷ 66 ∷ 217 ∷ 135 ∷ 128 ∷ 55 ∷ 169 ∷ 90 ∷ 207 ∷ 104 ∷ 208 ∷ 158 ∷ 110 ∷ 255 ∷ 106 ∷ 73 ∷ 125 ∷ 206 ∷ 166 ∷ 190 ∷ 149 ∷ 168 ∷ 252 ∷ 47 ∷ []

pub pair-2-is : F.sha256 (node_string (inner (true ∷ []) marker-1 leaf-2)) ≡ pair-2
unfolding F.be64 F.zeros F.pad F.parse F.digest be to_bits bits_of from_bits pack leaf_string inner_string nothing_string head_bytes head_string label_string commitment_string
pair-2-is = fast-is (node_string (inner (true ∷ []) marker-1 leaf-2))

abbrev pub empty : Bytes
empty = 219 ∷ 193 ∷ 180 ∷ 201 ∷ 0 ∷ 255 ∷ 228 ∷ 141 ∷ 87 ∷ 91 ∷ 93 ∷ 165 ∷ 198 ∷ 56 ∷ 4 ∷ 1 ∷ 37 ∷ 246 ∷ 93 ∷ 176 ∷ 254 ∷ 62 ∷ 36 ∷ 73 ∷ 75 ∷ 118 ∷ 234 ∷ 152 ∷ 100 ∷ 87 ∷ 217 ∷ 134 ∷ []

pub empty-is : F.sha256 (node_string nothing) ≡ empty
unfolding F.be64 F.zeros F.pad F.parse F.digest be to_bits bits_of from_bits pack leaf_string inner_string nothing_string head_bytes head_string label_string commitment_string
empty-is = fast-is (node_string nothing)

abbrev pub all-1 : Bytes
all-1 = 162 ∷ 208 ∷ 154 ∷ 101 ∷ 156 ∷ 42 ∷ 60 ∷ 226 ∷ 182 ∷ 53 ∷ 78 ∷ 83 ∷ 244 ∷ 106 ∷ 51 ∷ 22 ∷ 57 ∷ 164 ∷ 57 ∷ 174 ∷ 110 ∷ 168 ∷ 115 ∷ 220 ∷ 175 ∷ 236 ∷ 156 ∷ 154 ∷ 227 ∷ 38 ∷ 102 ∷ 10 ∷ []

pub all-1-is : F.sha256 (node_string (inner [] pair-1 empty)) ≡ all-1
unfolding F.be64 F.zeros F.pad F.parse F.digest be to_bits bits_of from_bits pack leaf_string inner_string nothing_string head_bytes head_string label_string commitment_string
all-1-is = fast-is (node_string (inner [] pair-1 empty))

abbrev pub all-2 : Bytes
all-2 = 172 ∷ 100 ∷ 235 ∷ 95 ∷ 174 ∷ 162 ∷ 2 ∷ 198 ∷ 29 ∷ 69 ∷ 132 ∷ 30 ∷ 252 ∷ 230 ∷ 230 ∷ 174 ∷ 224 ∷ 82 ∷ 166 ∷ 180 ∷ 93 ∷ 115 ∷ 131 ∷ 90 ∷ 246 ∷ 54 ∷ 150 ∷ 187 ∷ 200 ∷ 233 ∷ 154 ∷ 79 ∷ []

pub all-2-is : F.sha256 (node_string (inner [] pair-1 pair-2)) ≡ all-2
unfolding F.be64 F.zeros F.pad F.parse F.digest be to_bits bits_of from_bits pack leaf_string inner_string nothing_string head_bytes head_string label_string commitment_string
all-2-is = fast-is (node_string (inner [] pair-1 pair-2))

-- a root over nothing that stands there
abbrev pub wrong : Bytes
wrong = 122 ∷ 115 ∷ 102 ∷ 59 ∷ 198 ∷ 190 ∷ 221 ∷ 30 ∷ 22 ∷ 107 ∷ 128 ∷ 222 ∷ 188 ∷ 77 ∷ 92 ∷ 159 ∷ 30 ∷ 36 ∷ 3 ∷ 167 ∷ 94 ∷ 173 ∷ 89 ∷ 215 ∷ 211 ∷ 186 ∷ 54 ∷ 133 ∷ 136 ∷ 255 ∷ 248 ∷ 107 ∷ []

pub wrong-is : F.sha256 (node_string (inner [] (zeros 32) pair-2)) ≡ wrong
unfolding F.be64 F.zeros F.pad F.parse F.digest be to_bits bits_of from_bits pack leaf_string inner_string nothing_string head_bytes head_string label_string commitment_string
wrong-is = fast-is (node_string (inner [] (zeros 32) pair-2))

-- *old*: version 1, from epoch 2 on, and the roots
abbrev pub gone-1 : Bytes
gone-1 = 80 ∷ 34 ∷ 203 ∷ 120 ∷ 196 ∷ 109 ∷ 83 ∷ 70 ∷ 95 ∷ 13 ∷ 218 ∷ 181 ∷ 36 ∷ 90 ∷ 48 ∷ 183 ∷ 248 ∷ 196 ∷ 122 ∷ 93 ∷ 34 ∷ 83 ∷ 216 ∷ 129 ∷ 47 ∷ 73 ∷ 92 ∷ 28 ∷ 57 ∷ 155 ∷ 192 ∷ 113 ∷ []

pub gone-1-is : F.sha256 (node_string (leaf (bits_of label-1) (zeros 32) 2)) ≡ gone-1
unfolding F.be64 F.zeros F.pad F.parse F.digest be to_bits bits_of from_bits pack leaf_string inner_string nothing_string head_bytes head_string label_string commitment_string
gone-1-is = fast-is (node_string (leaf (bits_of label-1) (zeros 32) 2))

abbrev pub old-1 : Bytes
old-1 = 132 ∷ 171 ∷ 229 ∷ 2 ∷ 218 ∷ 220 ∷ 92 ∷ 132 ∷ 178 ∷ 182 ∷ 22 ∷ 237 ∷ 10 ∷ 164 ∷ 93 ∷ 136 ∷ 129 ∷ 33 ∷ 49 ∷ 120 ∷ 85 ∷ 224 ∷ 116 ∷ 1 ∷ 159 ∷ 100 ∷ 167 ∷ 231 ∷ 26 ∷ 201 ∷ 93 ∷ 0 ∷ []

pub old-1-is : F.sha256 (node_string (inner [] empty empty)) ≡ old-1
unfolding F.be64 F.zeros F.pad F.parse F.digest be to_bits bits_of from_bits pack leaf_string inner_string nothing_string head_bytes head_string label_string commitment_string
old-1-is = fast-is (node_string (inner [] empty empty))

abbrev pub old-2 : Bytes
old-2 = 105 ∷ 47 ∷ 207 ∷ 192 ∷ 148 ∷ 89 ∷ 112 ∷ 221 ∷ 195 ∷ 147 ∷ 16 ∷ 14 ∷ 182 ∷ 233 ∷ 152 ∷ 211 ∷ 163 ∷ 54 ∷ 66 ∷ 78 ∷ 115 ∷ 238 ∷ 246 ∷ 70 ∷ 170 ∷ 109 ∷ 229 ∷ 203 ∷ 122 ∷ 67 ∷ 101 ∷ 241 ∷ []

pub old-2-is : F.sha256 (node_string (inner [] gone-1 empty)) ≡ old-2
unfolding F.be64 F.zeros F.pad F.parse F.digest be to_bits bits_of from_bits pack leaf_string inner_string nothing_string head_bytes head_string label_string commitment_string
old-2-is = fast-is (node_string (inner [] gone-1 empty))

-- the heads of epochs 1 and 2
abbrev pub head-1 : Head
head-1 = record { epoch = 1; previous = 90 ∷ 130 ∷ 232 ∷ 110 ∷ 236 ∷ 79 ∷ 141 ∷ 195 ∷ 212 ∷ 48 ∷ 213 ∷ 125 ∷ 72 ∷ 225 ∷ 238 ∷ 59 ∷ 20 ∷ 25 ∷ 96 ∷ 46 ∷ 48 ∷ 112 ∷ 7 ∷ 62 ∷ 2 ∷ 61 ∷ 51 ∷ 155 ∷ 104 ∷ 24 ∷ 108 ∷ 132 ∷ []; all = all-1; old = old-1 }

abbrev pub before : Bytes
before = 220 ∷ 123 ∷ 234 ∷ 132 ∷ 165 ∷ 228 ∷ 46 ∷ 31 ∷ 4 ∷ 125 ∷ 16 ∷ 27 ∷ 153 ∷ 148 ∷ 95 ∷ 4 ∷ 77 ∷ 239 ∷ 169 ∷ 232 ∷ 208 ∷ 39 ∷ 196 ∷ 57 ∷ 118 ∷ 30 ∷ 154 ∷ 123 ∷ 146 ∷ 238 ∷ 89 ∷ 24 ∷ []

pub before-is : F.sha256 (head_string head-1) ≡ before
unfolding F.be64 F.zeros F.pad F.parse F.digest be to_bits bits_of from_bits pack leaf_string inner_string nothing_string head_bytes head_string label_string commitment_string
before-is = fast-is (head_string head-1)

abbrev pub head-2 : Head
head-2 = record { epoch = 2; previous = before; all = all-2; old = old-2 }

abbrev pub after : Bytes
after = 53 ∷ 239 ∷ 66 ∷ 28 ∷ 124 ∷ 105 ∷ 138 ∷ 43 ∷ 28 ∷ 12 ∷ 233 ∷ 17 ∷ 155 ∷ 103 ∷ 214 ∷ 49 ∷ 36 ∷ 142 ∷ 163 ∷ 81 ∷ 249 ∷ 193 ∷ 112 ∷ 95 ∷ 155 ∷ 84 ∷ 74 ∷ 195 ∷ 71 ∷ 225 ∷ 88 ∷ 177 ∷ []

pub after_is : F.sha256 (head_string head-2) ≡ after
unfolding F.be64 F.zeros F.pad F.parse F.digest be to_bits bits_of from_bits pack leaf_string inner_string nothing_string head_bytes head_string label_string commitment_string
after_is = fast-is (head_string head-2)

-- the digest of an inner node, from those below it
pub over : (p : Bits) {l r x y d : Bytes} → l ≡ x → r ≡ y → digest (inner p x y) ≡ d → digest (inner p l r) ≡ d
over p e f q = ap₂ (λ l r. digest (inner p l r)) e f ∙ q
