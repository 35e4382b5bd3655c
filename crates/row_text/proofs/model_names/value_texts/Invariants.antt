use Rattle.std.proofs.Common.{◌≡◌, ℕ, List, position, take}
use Rattle.row_text.specs.Lookups.{is_value_named, number_of}
use Rattle.row_text.proofs.model_names.value_texts.Given as goal

abbrev pub invariant-loop-number : goal.invariant-loop-number
invariant-loop-number l = (key : List ℕ) → number_of l.texts key ≡ position (is_value_named l.model key) (take l.number l.value-items)
