-- Verdicts and their texts, computed on small models.
use Rattle.std.specs.Prelude.{◌≡◌, ℕ, List, [], ◌++◌, Option, codes, refl}
use Rattle.std.specs.Fmt.{digits}
use Rattle.std.specs.List.{enumerate_from}
use Rattle.definitions.specs.believed.Verdict.{Accepted, BadRow, BadProof, BadOmission, Uncovered, verdict, verdict_text}
use Rattle.definitions.proofs.Models.{row, table, bound, barred, negative, twin_and_one}

-- the rows stand on the lines from 2 on
abbrev lines : List (List (Option ℕ)) → List (ℕ × List (Option ℕ))
lines rows = enumerate_from 2 rows

abbrev proof : List ℕ
proof = codes "pict-proof 1\nomit 0=0 1=1 : L1\n"

bound-accepted : verdict bound (lines (table (codes "00 10 11"))) proof ≡ Accepted 3 1
bound-accepted = refl

accepted-text : verdict_text (Accepted 3 1) ≡ codes "accepted: 3 rows, 1 omissions\n"
unfolding digits
accepted-text = refl

bound-uncovered : verdict bound (lines (table (codes "00 10"))) proof ≡ Uncovered (row (codes "11"))
bound-uncovered = refl

uncovered-text : verdict_text (Uncovered (row (codes "11"))) ≡ codes "refused: uncovered 0=1 1=1\n"
unfolding digits
uncovered-text = refl

bound-row : verdict bound (lines (table (codes "01 10 11"))) proof ≡ BadRow 2
bound-row = refl

row-text : verdict_text (BadRow 2) ≡ codes "refused: report line 2: not a valid row\n"
unfolding digits
row-text = refl

-- a row without a value isn't valid; the first such line counts, and comes before the proof's faults
bound-incomplete : verdict bound (lines (table (codes "00 1_ 01"))) [] ≡ BadRow 3
bound-incomplete = refl

bound-proof : verdict bound (lines (table (codes "00 10 11"))) [] ≡ BadProof 1
bound-proof = refl

proof-text : verdict_text (BadProof 1) ≡ codes "refused: proof line 1: not a proof line\n"
unfolding digits
proof-text = refl

-- a line that is no spelling comes before an earlier one whose tree doesn't refute
bound-spelling : verdict bound (lines (table (codes "00 10 11"))) (codes "pict-proof 1\nomit 0=0 : L1\nomit 0=0 1=1 : L1 \n") ≡ BadProof 3
bound-spelling = refl

bound-omission : verdict bound (lines (table (codes "00 10"))) (codes "pict-proof 1\nomit 0=0 1=1 : L1\nomit 0=0 : L1\n") ≡ BadOmission 3
bound-omission = refl

omission-text : verdict_text (BadOmission 3) ≡ codes "refused: proof line 3: the tree does not refute the tuple\n"
unfolding digits
omission-text = refl

-- the first tuple in the order of the demand; a listed tuple that contains it doesn't list it
barred-first : verdict barred (lines []) (codes "pict-proof 1\nomit 0=0 1=0 2=0 : L1\n") ≡ Uncovered (row (codes "00_"))
barred-first = refl

-- repeated rows and lines are allowed
bound-repeated : verdict bound (lines (table (codes "00 10 11 11"))) (codes "pict-proof 1\nomit 0=0 1=1 : L1\nomit 0=0 1=1 : L1\n") ≡ Accepted 4 2
bound-repeated = refl

-- tuples that only rows with a foreign negative value contain are listed
negative-accepted : verdict negative (lines (table (codes "000 011 100 111")))
    (codes "pict-proof 1\nomit 1=0 2=0 : B0 N N\nomit 1=0 2=1 : B0 N N\nomit 1=1 2=0 : B0 N N\nomit 1=1 2=1 : B0 N N\n") ≡ Accepted 4 4
negative-accepted = refl

-- a proof of format 2 that cites, and the same with a citation of another tuple
abbrev citing : List ℕ → List ℕ
citing last =
    codes "pict-proof 2\nomit 0=0 1=0 : B2 L2 L1\nomit 0=0 1=1 : B2 L1 L2\nomit 0=0 2=0 : B1 L2 L1\nomit 0=0 2=1 : B1 L1 L2\nomit 0=0 3=0 : B1 O1 O2\nomit 0=0 3=1 : B1 "
    ++ last

abbrev five : List (ℕ × List (Option ℕ))
five = lines (table (codes "1000 1111 1010 1100 1001"))

citing-accepted : verdict twin_and_one five (citing (codes "O1 O2\n")) ≡ Accepted 5 6
citing-accepted = refl

citing-other : verdict twin_and_one five
    (codes "pict-proof 2\nomit 0=0 1=0 : B2 L2 L1\nomit 0=0 1=1 : B2 L1 L2\nomit 0=0 2=0 : B1 L2 L1\nomit 0=0 2=1 : B1 L1 L2\nomit 0=0 3=0 : B1 O5 O2\nomit 0=0 3=1 : B1 O1 O2\n")
    ≡ BadOmission 6
citing-other = refl

-- the same lines in format 1
citing-plain : verdict twin_and_one five
    (codes "pict-proof 1\nomit 0=0 1=0 : B2 L2 L1\nomit 0=0 1=1 : B2 L1 L2\nomit 0=0 2=0 : B1 L2 L1\nomit 0=0 2=1 : B1 L1 L2\nomit 0=0 3=0 : B1 O1 O2\nomit 0=0 3=1 : B1 O1 O2\n")
    ≡ BadProof 6
citing-plain = refl
