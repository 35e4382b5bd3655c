-- Texts of proofs, and the proofs that files hold, computed on small models.
use Rattle.std.specs.Prelude.{◌≡◌, ℕ, List, [], ◌∷◌, ◌++◌, Ok, Err, codes, refl}
use Rattle.std.specs.Fmt.{digits}
use Rattle.definitions.specs.believed.Refutation.{Token, Branch, ByRule, ByNegative, ByOmission}
use Rattle.cov_model.specs.believed.Tuples.{cells_of}
use Rattle.definitions.specs.believed.Pairs.{pairs_of, cells_text}
use Rattle.definitions.specs.believed.ProofText.{Omission, proof_text, omissions_of}
use Rattle.definitions.proofs.Models.{row, bound, barred, negative, twin_and_one}

pairs-cells : cells_of 3 ((0, 1) ∷ (2, 4) ∷ []) ≡ row (codes "1_4")
pairs-cells = refl

cells-pairs : pairs_of (row (codes "1_4")) ≡ (0, 1) ∷ (2, 4) ∷ []
cells-pairs = refl

pairs-text : cells_text (row (codes "1_4")) ≡ codes "0=1 2=4"
unfolding digits
pairs-text = refl

abbrev omit : List (ℕ × ℕ) → List Token → Omission
omit tuple tree = record { tuple = tuple; tree = tree }

abbrev bound_proof : List Omission
bound_proof = omit ((0, 0) ∷ (1, 1) ∷ []) (ByRule 1 ∷ []) ∷ []

bound-text : proof_text 1 bound_proof ≡ codes "pict-proof 1\nomit 0=0 1=1 : L1\n"
unfolding digits
bound-text = refl

bound-read : omissions_of bound (codes "pict-proof 1\nomit 0=0 1=1 : L1\n") ≡ Ok (1, bound_proof)
bound-read = refl

abbrev barred_proof : List Omission
barred_proof =
    omit ((0, 0) ∷ (2, 0) ∷ []) (ByRule 1 ∷ []) ∷ omit ((0, 0) ∷ (2, 1) ∷ []) (ByRule 2 ∷ []) ∷ omit ((0, 0) ∷ (2, 2) ∷ []) (ByRule 3 ∷ [])
    ∷ omit ((0, 0) ∷ (1, 0) ∷ []) (Branch 2 ∷ ByRule 1 ∷ ByRule 2 ∷ ByRule 3 ∷ []) ∷ omit ((0, 0) ∷ (1, 1) ∷ []) (Branch 2 ∷ ByRule 1 ∷ ByRule 2 ∷ ByRule 3 ∷ []) ∷ []

abbrev barred_text : List ℕ
barred_text = codes "pict-proof 1\nomit 0=0 2=0 : L1\nomit 0=0 2=1 : L2\nomit 0=0 2=2 : L3\nomit 0=0 1=0 : B2 L1 L2 L3\nomit 0=0 1=1 : B2 L1 L2 L3\n"

barred-text : proof_text 1 barred_proof ≡ barred_text
unfolding digits
barred-text = refl

barred-read : omissions_of barred barred_text ≡ Ok (1, barred_proof)
barred-read = refl

negative-text : proof_text 1 (omit ((1, 0) ∷ (2, 0) ∷ []) (Branch 0 ∷ ByNegative ∷ ByNegative ∷ []) ∷ []) ≡ codes "pict-proof 1\nomit 1=0 2=0 : B0 N N\n"
unfolding digits
negative-text = refl

negative-read : omissions_of negative (codes "pict-proof 1\nomit 1=0 2=0 : B0 N N\n")
    ≡ Ok (1, omit ((1, 0) ∷ (2, 0) ∷ []) (Branch 0 ∷ ByNegative ∷ ByNegative ∷ []) ∷ [])
negative-read = refl

-- without omissions the first line is all
none-text : proof_text 2 [] ≡ codes "pict-proof 2\n"
unfolding digits
none-text = refl

none-read : omissions_of bound (codes "pict-proof 2\n") ≡ Ok (2, [])
none-read = refl

-- a line may cite in format 2 alone, and also a line that isn't earlier
citing-read : omissions_of twin_and_one (codes "pict-proof 2\nomit 0=0 3=1 : B1 O10 O4294967295\n")
    ≡ Ok (2, omit ((0, 0) ∷ (3, 1) ∷ []) (Branch 1 ∷ ByOmission 10 ∷ ByOmission 4294967295 ∷ []) ∷ [])
citing-read = refl

citing-text : proof_text 2 (omit ((0, 0) ∷ (3, 1) ∷ []) (Branch 1 ∷ ByOmission 10 ∷ []) ∷ []) ≡ codes "pict-proof 2\nomit 0=0 3=1 : B1 O10\n"
unfolding digits
citing-text = refl

-- the first line that spells none, of a file for the model whose constraint is number 1
abbrev refused : List ℕ → ℕ → Type 0
refused bytes line = omissions_of bound bytes ≡ Err line

empty : refused [] 1
empty = refl

unended_first : refused (codes "pict-proof 1") 1
unended_first = refl

other_format : refused (codes "pict-proof 3\n") 1
other_format = refl

with_return : refused (codes "pict-proof 1\r\n") 1
with_return = refl

rest : refused (codes "pict-proof 1\nomit 0=0 1=1 : L1\nomit 0=0 1=1 : L1") 3
rest = refl

empty_line : refused (codes "pict-proof 1\n\n") 2
empty_line = refl

first_of_two : refused (codes "pict-proof 1\nomit 0=0 1=1 : L2\nomit 0=0\n") 2
first_of_two = refl

-- lines that are no spelling
abbrev no_line : List ℕ → Type 0
no_line line = refused (codes "pict-proof 1\nomit 0=0 1=1 : L1\n" ++ line ++ codes "\n") 3

falling_params : no_line (codes "omit 1=1 0=0 : L1")
falling_params = refl

repeated_param : no_line (codes "omit 0=0 0=1 : L1")
repeated_param = refl

no_param : no_line (codes "omit 2=0 : L1")
no_param = refl

no_value : no_line (codes "omit 0=2 : L1")
no_value = refl

no_branch : no_line (codes "omit 0=0 : B2")
no_branch = refl

no_rule : no_line (codes "omit 0=0 : L0")
no_rule = refl

no_pair : no_line (codes "omit : L1")
no_pair = refl

no_token : no_line (codes "omit 0=0 :")
no_token = refl

no_colon : no_line (codes "omit 0=0 L1")
no_colon = refl

space_at_end : no_line (codes "omit 0=0 : L1 ")
space_at_end = refl

two_spaces : no_line (codes "omit  0=0 : L1")
two_spaces = refl

leading_zero : no_line (codes "omit 00=0 : L1")
leading_zero = refl

two_equals : no_line (codes "omit 0=0=0 : L1")
two_equals = refl

capital : no_line (codes "Omit 0=0 : L1")
capital = refl

long_negative : no_line (codes "omit 0=0 : N1")
long_negative = refl

citing : no_line (codes "omit 0=0 : O1")
citing = refl

cited_zero : omissions_of bound (codes "pict-proof 2\nomit 0=0 : O0\n") ≡ Err 2
cited_zero = refl

cited_large : omissions_of bound (codes "pict-proof 2\nomit 0=0 : O4294967296\n") ≡ Err 2
cited_large = refl
