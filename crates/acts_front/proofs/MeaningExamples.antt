-- What constraints of a file mean on small rows, worked out from the definitions alone.
use Rattle.std.proofs.Common.{◌≡◌, true, false, [], ◌∷◌, codes, List, Option, Some, ℕ, refl}
use Rattle.cov_model.specs.declared.constraint.Rel.TheVariants.{Eq, Ne, Gt, Lt}
use Rattle.acts_front.specs.believed.Constraints.{Compares, Each, Either, End, Implies, More, Negated, OfParameter, OfText, OfTruth, OfWhole, Plain}
use Rattle.acts_front.specs.believed.Meaning.{constraint_holds}
use Rattle.acts_front.specs.believed.ParameterLines.{Parameter}
use Rattle.acts_front.specs.declared.kind.Kind.TheVariants.{Int, Enum, Boolean}

-- A (int): -1, 007    B (enum): x, Y    C (boolean): True, false
abbrev params : List Parameter
params =
    record { name = codes "A"; kind = Int; values = codes "-1" ∷ codes "007" ∷ [] }
    ∷ record { name = codes "B"; kind = Enum; values = codes "x" ∷ codes "Y" ∷ [] }
    ∷ record { name = codes "C"; kind = Boolean; values = codes "True" ∷ codes "false" ∷ [] } ∷ []

abbrev row : ℕ → ℕ → ℕ → List (Option ℕ)
row a b c = Some a ∷ Some b ∷ Some c ∷ []

-- whole numbers are compared as such
seven : constraint_holds true params (row 1 0 0) (Plain (Compares (codes "a") Eq (OfWhole (codes "7")))) ≡ true
seven = refl

below_zero : constraint_holds true params (row 0 0 0) (Plain (Compares (codes "A") Lt (OfWhole (codes "-0")))) ≡ true
below_zero = refl

above : constraint_holds true params (row 0 0 0) (Plain (Compares (codes "A") Gt (OfWhole (codes "-2")))) ≡ true
above = refl

-- texts are compared under the case rule
either_case : constraint_holds true params (row 0 1 0) (Plain (Compares (codes "B") Eq (OfText (codes "y")))) ≡ true
either_case = refl

case_counts : constraint_holds false params (row 0 1 0) (Plain (Compares (codes "B") Eq (OfText (codes "y")))) ≡ false
case_counts = refl

-- truth values are compared in any case
truth : constraint_holds false params (row 0 0 0) (Plain (Compares (codes "C") Eq (OfTruth true))) ≡ true
truth = refl

untruth : constraint_holds false params (row 0 0 1) (Plain (Compares (codes "C") Ne (OfTruth true))) ≡ true
untruth = refl

itself : constraint_holds true params (row 0 0 1) (Plain (Compares (codes "C") Ne (OfParameter (codes "c")))) ≡ false
itself = refl

-- A = 1 || C = TRUE => B = "x": the premise is all that stands before `=>`
premise_met : constraint_holds true params (row 0 1 0)
    (Implies (Either (More (Compares (codes "A") Eq (OfWhole (codes "1"))) (More (Compares (codes "C") Eq (OfTruth true)) End))) (Compares (codes "B") Eq (OfText (codes "x")))) ≡ false
premise_met = refl

premise_missed : constraint_holds true params (row 0 1 1)
    (Implies (Either (More (Compares (codes "A") Eq (OfWhole (codes "1"))) (More (Compares (codes "C") Eq (OfTruth true)) End))) (Compares (codes "B") Eq (OfText (codes "x")))) ≡ true
premise_missed = refl

-- !(A = 7 && B = "x")
neither : constraint_holds true params (row 1 1 0)
    (Plain (Negated (Each (More (Compares (codes "A") Eq (OfWhole (codes "7"))) (More (Compares (codes "B") Eq (OfText (codes "x"))) End))))) ≡ true
neither = refl
