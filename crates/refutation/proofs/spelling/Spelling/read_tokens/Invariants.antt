use Rattle.std.proofs.Common.{map, length}
use Rattle.definitions.specs.believed.ProofText.{read_token}
use Rattle.refutation.specs.believed.Proofs.{format_of}
use Rattle.refutation.specs.Proofs.{meant}
use Rattle.refutation.proofs.WordLemmas.{ReadSoFar}
use Rattle.refutation.proofs.spelling.Spelling.read_tokens.Given as goal

abbrev pub decreases-loop-word : goal.decreases-loop-word
decreases-loop-word l = length l.words

abbrev pub invariant-loop-word : goal.invariant-loop-word
invariant-loop-word l = ReadSoFar (read_token l.self.model (format_of l.self.form)) l.fn.words l.words (map meant l.tree)
