-- The lines beside the output, computed.
use Rattle.std.specs.Prelude.{◌≡◌, [], ◌∷◌, ◌++◌, map, codes, refl}
use Rattle.std.specs.Fmt.{digits}
use Rattle.definitions.specs.Diagnostics
use Rattle.definitions.specs.believed.Diagnostics as believed_diagnostics
use Rattle.definitions.specs.believed.Limits.{Parameters, Values, Names, Constraints, DemandedSets, DemandedTuples, Rows, SuspectCandidates, most_counted, ModelFile, RowFile, ProofFile, most_bytes}
use Rattle.definitions.proofs.Models.{row}

seed : believed_diagnostics.used_seed_line 5 ≡ codes "Used seed: 5\n"
unfolding digits
seed = refl

repeated : Diagnostics.repeated_name_line 1 ≡ codes "warning: model line 1: V1 repeated value name dropped\n"
unfolding digits
repeated = refl

notes : Diagnostics.unknown_column_line 1 ++ Diagnostics.unknown_value_line 7 ++ Diagnostics.row_dropped_line 5
    ≡ codes "warning: row file line 1: V2 unknown column\nwarning: row file line 7: V3 unknown value\nwarning: row file line 5: V4 no valid row serves this row\n"
unfolding digits
notes = refl

budget : Diagnostics.budget_line 2 (row (codes "_0_1")) ≡ codes "error: search budget 2 spent on 1=0 3=1\n"
unfolding digits
budget = refl

word : believed_diagnostics.word_line 12 ≡ codes "error: word 12 is not understood\n"
unfolding digits
word = refl

model : believed_diagnostics.model_line 1 (codes "M18") (codes "order above the number of parameters") ≡ codes "error: model line 1: M18 order above the number of parameters\n"
unfolding digits
model = refl

two_columns : believed_diagnostics.two_columns_line 1 ≡ codes "error: row file line 1: F2 parameter in two columns\n"
unfolding digits
two_columns = refl

no_column : believed_diagnostics.no_column_line 1 ≡ codes "error: row file: F3 no column for parameter 1\n"
unfolding digits
no_column = refl

too_wide : believed_diagnostics.too_wide_line 2 ≡ codes "error: row file line 2: F4 more cells than the header\n"
unfolding digits
too_wide = refl

bad_result : believed_diagnostics.bad_result_line 10 ≡ codes "error: row file line 10: F6 neither pass nor fail\n"
unfolding digits
bad_result = refl

cannot_read : believed_diagnostics.cannot_read_line (codes "s") ≡ codes "error: cannot read s\n"
cannot_read = refl

cannot_write : believed_diagnostics.cannot_write_line (codes "p") ≡ codes "error: cannot write p\n"
cannot_write = refl

sets : believed_diagnostics.count_limit_line DemandedSets 2763520 ≡ codes "error: limit: demanded sets 2763520 above 1048576\n"
unfolding digits
sets = refl

values : believed_diagnostics.count_limit_line Values 4096 ≡ codes "error: limit: values 4096 above 4095\n"
unfolding digits
values = refl

tuples : believed_diagnostics.count_limit_line DemandedTuples 67108865 ≡ codes "error: limit: demanded tuples 67108865 above 67108864\n"
unfolding digits
tuples = refl

proof : believed_diagnostics.bytes_limit_line ProofFile ≡ codes "error: limit: proof bytes above 268435456\n"
unfolding digits
proof = refl

counted-most : map most_counted (Parameters ∷ Values ∷ Names ∷ Constraints ∷ DemandedSets ∷ DemandedTuples ∷ Rows ∷ SuspectCandidates ∷ [])
    ≡ 256 ∷ 4095 ∷ 64 ∷ 4096 ∷ 1048576 ∷ 67108864 ∷ 1048576 ∷ 4194304 ∷ []
counted-most = refl

bytes-most : map most_bytes (ModelFile ∷ RowFile ∷ ProofFile ∷ []) ≡ 4194304 ∷ 67108864 ∷ 268435456 ∷ []
bytes-most = refl

names : believed_diagnostics.count_limit_line Parameters 257 ++ believed_diagnostics.count_limit_line Names 65 ++ believed_diagnostics.count_limit_line Constraints 4097
    ++ believed_diagnostics.count_limit_line Rows 1048577 ++ believed_diagnostics.count_limit_line SuspectCandidates 4194305
    ≡ codes "error: limit: parameters 257 above 256\nerror: limit: names 65 above 64\nerror: limit: constraints 4097 above 4096\n"
    ++ codes "error: limit: rows 1048577 above 1048576\nerror: limit: suspect candidates 4194305 above 4194304\n"
unfolding digits
names = refl

files : believed_diagnostics.bytes_limit_line ModelFile ++ believed_diagnostics.bytes_limit_line RowFile
    ≡ codes "error: limit: model bytes above 4194304\nerror: limit: row file bytes above 67108864\n"
unfolding digits
files = refl

-- lines without a number
plain_lines : believed_diagnostics.memory_line ++ believed_diagnostics.no_header_line ++ believed_diagnostics.no_result_line ++ believed_diagnostics.cannot_write_report_line
    ≡ codes "error: out of memory\nerror: row file: F1 no header\nerror: row file: F5 no result column\nerror: cannot write the report\n"
plain_lines = refl
