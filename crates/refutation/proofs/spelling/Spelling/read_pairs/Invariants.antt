use Rattle.std.proofs.Common.{◌≡◌, length}
use Rattle.std.specs.List.{after_first, before_first}
use Rattle.definitions.specs.believed.ProofText.{is_colon_word, read_pair}
use Rattle.refutation.proofs.WordLemmas.{ReadSoFar}
use Rattle.refutation.proofs.spelling.Spelling.read_pairs.Given as goal

abbrev pub decreases-loop-word : goal.decreases-loop-word
decreases-loop-word l = length l.words

abbrev pub invariant-loop-word : goal.invariant-loop-word
invariant-loop-word l = record {
  read : ReadSoFar (read_pair l.self.model) (before_first is_colon_word l.fn.words) (before_first is_colon_word l.words) l.pairs.items;
  left : after_first is_colon_word l.fn.words ≡ after_first is_colon_word l.words;
}
