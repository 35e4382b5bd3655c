-- What a run of the checker does with the files that it reads. (The steps, their order and their statuses are this
-- project's rules.)
use Rattle.std.specs.Prelude.{ℕ, List, ◌++◌, codes}
use Rattle.definitions.specs.believed.Pairs.{pairs_text}
use Rattle.definitions.specs.believed.Verdict as defined
use Rattle.definitions.specs.believed.Verdict.{verdict_text}
use Rattle.proof_check.specs.declared.verdict.Verdict.{Verdict}
use Rattle.proof_check.specs.declared.verdict.Verdict.TheVariants.{Accepted, BadRow, BadProof, BadOmission, Uncovered}

abbrev pub answer_text : Verdict → List ℕ
answer_text (Accepted rows omissions) = verdict_text (defined.Accepted rows omissions)
answer_text (BadRow line) = verdict_text (defined.BadRow line)
answer_text (BadProof line) = verdict_text (defined.BadProof line)
answer_text (BadOmission line) = verdict_text (defined.BadOmission line)
answer_text (Uncovered pairs) = codes "refused: uncovered " ++ pairs_text pairs ++ codes "\n"
