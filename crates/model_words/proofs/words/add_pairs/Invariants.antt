use Rattle.std.proofs.Common.{◌≡◌, ◌++◌, drop}
use Rattle.model_words.specs.believed.Words.{listed, listed_from, pair_words}
use Rattle.model_words.proofs.words.add_pairs.Given as goal

-- what is added with what the pairs that are left add is what all add
abbrev pub invariant-loop-pair : goal.invariant-loop-pair
invariant-loop-pair l =
    l.text.items ++ listed_from (pair_words l.model) l.is_first (drop l.pair-index l.pairs) ≡ l.fn.text.items ++ listed (pair_words l.model) l.pairs
