-- Answers of a search that answers every question. (This project's rule.)
use Rattle.std.specs.Prelude.{Bool, true, false}
use Rattle.feasibility.specs.declared.answer.Answer.{Answer}
use Rattle.feasibility.specs.declared.answer.Answer.TheVariants.{Yes, No, Spent}

abbrev pub is_yes : Answer → Bool
is_yes Yes = true
is_yes No = false
is_yes Spent = false
