-- Proofs of suites, computed on small models.
use Rattle.std.specs.Prelude.{ℕ, List, [], ◌∷◌, codes, refl}
use Rattle.std.specs.Fmt.{digits}
use Rattle.std.proofs.Common.{lit≤}
use Rattle.cov_model.specs.believed.Sound.{ModelView}
use Rattle.definitions.specs.declared.effort.Effort.TheVariants.{Within}
use Rattle.definitions.specs.believed.ProofText.{Omission}
use Rattle.definitions.specs.believed.Refutation.{Token, Branch, ByRule, ByNegative, ByOmission}
use Rattle.definitions.specs.believed.SuiteProof.{AreOmitted, IsProofOfSuite}
use Rattle.definitions.proofs.Examples.{declared}
use Rattle.definitions.proofs.Models.{bound, negative, impossible, twin, twin_and_one}

-- the proof of the suite without seeds, with the values in declared order
abbrev IsPlainProof : ModelView → ℕ → List ℕ → Type 0
IsPlainProof m format bytes = IsProofOfSuite m (declared m) [] (Within 9) format bytes

abbrev omit : List (ℕ × ℕ) → List Token → Omission
omit tuple tree = record { tuple = tuple; tree = tree }

-- the omitted tuple breaks the constraint itself
bound-first : IsPlainProof bound 1 (codes "pict-proof 1\nomit 0=0 1=1 : L1\n")
unfolding digits
bound-first = record {
  omissions = omit ((0, 0) ∷ (1, 1) ∷ []) (ByRule 1 ∷ []) ∷ [];
  omitted = record { tuples = refl; trees = (record { eager = refl; few = lit≤ tt }, tt) };
  text = refl;
}

bound-second : IsPlainProof bound 2 (codes "pict-proof 2\nomit 0=0 1=1 : L1\n")
unfolding digits
bound-second = record {
  omissions = omit ((0, 0) ∷ (1, 1) ∷ []) (ByRule 1 ∷ []) ∷ [];
  omitted = record { tuples = refl; trees = (record { eager = refl; few = lit≤ tt }, tt) };
  text = refl;
}

-- each value of A is negative, and isn't in the tuple
abbrev no_positive : List Token
no_positive = Branch 0 ∷ ByNegative ∷ ByNegative ∷ []

negative-first : IsPlainProof negative 1
    (codes "pict-proof 1\nomit 1=0 2=0 : B0 N N\nomit 1=0 2=1 : B0 N N\nomit 1=1 2=0 : B0 N N\nomit 1=1 2=1 : B0 N N\n")
unfolding digits
negative-first = record {
  omissions =
      omit ((1, 0) ∷ (2, 0) ∷ []) no_positive ∷ omit ((1, 0) ∷ (2, 1) ∷ []) no_positive
      ∷ omit ((1, 1) ∷ (2, 0) ∷ []) no_positive ∷ omit ((1, 1) ∷ (2, 1) ∷ []) no_positive ∷ [];
  omitted = record {
    tuples = refl;
    trees = (
      record { eager = refl; few = lit≤ tt },
      (
        record { eager = refl; few = lit≤ tt },
        (record { eager = refl; few = lit≤ tt }, (record { eager = refl; few = lit≤ tt }, tt)),
      ),
    );
  };
  text = refl;
}

-- no row is valid, and each tuple breaks the constraint
impossible-first : IsPlainProof impossible 1 (codes "pict-proof 1\nomit 0=0 : L1\nomit 0=1 : L1\n")
unfolding digits
impossible-first = record {
  omissions = omit ((0, 0) ∷ []) (ByRule 1 ∷ []) ∷ omit ((0, 1) ∷ []) (ByRule 1 ∷ []) ∷ [];
  omitted = record { tuples = refl; trees = (record { eager = refl; few = lit≤ tt }, (record { eager = refl; few = lit≤ tt }, tt)) };
  text = refl;
}

-- a branch for each value of B, and below it for each of C
abbrev both : List Token
both = Branch 1 ∷ Branch 2 ∷ ByRule 2 ∷ ByRule 1 ∷ Branch 2 ∷ ByRule 1 ∷ ByRule 2 ∷ []

twin-first : IsPlainProof twin 1 (codes "pict-proof 1\nomit 0=0 : B1 B2 L2 L1 B2 L1 L2\n")
unfolding digits
twin-first = record {
  omissions = omit ((0, 0) ∷ []) both ∷ [];
  omitted = record { tuples = refl; trees = (record { eager = refl; few = lit≤ tt }, tt) };
  text = refl;
}

-- with a fourth parameter, trees of format 2 cite earlier omissions where those of format 1 branch again
abbrev and_one : List Token → List Omission
and_one last =
    omit ((0, 0) ∷ (1, 0) ∷ []) (Branch 2 ∷ ByRule 2 ∷ ByRule 1 ∷ []) ∷ omit ((0, 0) ∷ (1, 1) ∷ []) (Branch 2 ∷ ByRule 1 ∷ ByRule 2 ∷ [])
    ∷ omit ((0, 0) ∷ (2, 0) ∷ []) (Branch 1 ∷ ByRule 2 ∷ ByRule 1 ∷ []) ∷ omit ((0, 0) ∷ (2, 1) ∷ []) (Branch 1 ∷ ByRule 1 ∷ ByRule 2 ∷ [])
    ∷ omit ((0, 0) ∷ (3, 0) ∷ []) last ∷ omit ((0, 0) ∷ (3, 1) ∷ []) last ∷ []

twin_and_one-first : AreOmitted twin_and_one (declared twin_and_one) [] (Within 9) 1 (and_one both)
twin_and_one-first = record {
  tuples = refl;
  trees = (
    record { eager = refl; few = lit≤ tt },
    (
      record { eager = refl; few = lit≤ tt },
      (
        record { eager = refl; few = lit≤ tt },
        (record { eager = refl; few = lit≤ tt }, (record { eager = refl; few = lit≤ tt }, (record { eager = refl; few = lit≤ tt }, tt))),
      ),
    ),
  );
}

twin_and_one-second : AreOmitted twin_and_one (declared twin_and_one) [] (Within 9) 2 (and_one (Branch 1 ∷ ByOmission 1 ∷ ByOmission 2 ∷ []))
twin_and_one-second = record {
  tuples = refl;
  trees = (
    record { eager = refl; few = lit≤ tt },
    (
      record { eager = refl; few = lit≤ tt },
      (
        record { eager = refl; few = lit≤ tt },
        (record { eager = refl; few = lit≤ tt }, (record { eager = refl; few = lit≤ tt }, (record { eager = refl; few = lit≤ tt }, tt))),
      ),
    ),
  );
}
