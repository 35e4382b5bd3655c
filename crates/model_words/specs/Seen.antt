-- What the code's explanations are.
use Rattle.model_words.specs.believed.Explanations as defined
use Rattle.model_words.specs.declared.explanation.Explanation.{Explanation}

abbrev pub explanation_seen : Explanation → defined.Explanation
explanation_seen e = record { cases = e.cases; rules = e.rules.items; by_invalid = e.by_invalid; cited = e.cited.items }
