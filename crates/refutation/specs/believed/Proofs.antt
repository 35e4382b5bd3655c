-- What proofs, omissions and tokens of the code mean. (This project's rule.)
use Rattle.std.specs.Prelude.{ℕ}
use Rattle.refutation.specs.declared.omissions.ProofForm.{ProofForm}
use Rattle.refutation.specs.declared.omissions.ProofForm.TheVariants.{One, Two}

-- the number of a format
abbrev pub format_of : ProofForm → ℕ
format_of One = 1
format_of Two = 2
