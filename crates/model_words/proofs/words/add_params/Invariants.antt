use Rattle.std.proofs.Common.{◌≡◌, ◌++◌, drop}
use Rattle.model_words.specs.believed.Words.{listed, listed_from, param_words}
use Rattle.model_words.proofs.words.add_params.Given as goal

-- what is added with what the parameters that are left add is what all add
abbrev pub invariant-loop-param : goal.invariant-loop-param
invariant-loop-param l =
    l.text.items ++ listed_from (param_words l.model) l.is_first (drop l.param-index l.params) ≡ l.fn.text.items ++ listed (param_words l.model) l.params
