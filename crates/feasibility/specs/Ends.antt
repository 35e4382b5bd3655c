-- How a run of questions ends. (This project's rule.)
use Rattle.std.specs.Prelude.{◌≡◌, ℕ, List, Option, Some, None, Result, Ok, Err, option_map}
use Rattle.definitions.specs.believed.Pairs.{pairs_of}
use Rattle.feasibility.specs.declared.answer.SearchFault.{SearchFault}
use Rattle.feasibility.specs.declared.answer.SearchFault.TheVariants.{Spent, NoMemory}

-- it ends early by the first of its questions whose cost is above the budget, or for want of memory
abbrev pub EndsBy : Option (List (Option ℕ)) → SearchFault → Type 0
EndsBy over (Spent question) = option_map pairs_of over ≡ Some question.cells
EndsBy over NoMemory = Unit {0}

-- and with an answer only where it has no question whose cost is above the budget
abbrev pub Ends : {A : Type 0} → Result A SearchFault → Option (List (Option ℕ)) → Type 0
Ends (Ok value) over = over ≡ None
Ends (Err fault) over = EndsBy over fault
