use Rattle.std.proofs.Common.{◌∙◌, List, Option, None, ℕ, get_or, ap}
use Rattle.ipog_grow.proofs.PlaceTupleLemmas.{none_taken}
use Rattle.ipog_grow.proofs.place_tuple.clear_values.Goals as goal

pub returns-clause-none : goal.returns-clause-none
returns-clause-none c p =
    ap (λ (cells : List (Option ℕ)). get_or cells p None) c.copy_from_slice.ensures ∙ none_taken 256 c.len.result p
