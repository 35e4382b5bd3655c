use Rattle.std.proofs.Common.{◌≡◌, ℕ, List, position, take}
use Rattle.row_text.specs.Lookups.{is_param_named, number_of}
use Rattle.row_text.proofs.model_names.param_texts.Given as goal

abbrev pub invariant-loop-number : goal.invariant-loop-number
invariant-loop-number l = (key : List ℕ) → number_of l.texts key ≡ position (is_param_named l.model key) (take l.number l.param-items)
