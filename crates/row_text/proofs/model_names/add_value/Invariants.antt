use Rattle.std.proofs.Common.{◌≡◌, ℕ, List, cond, Some, None, take}
use Rattle.std.specs.List.{list_any}
use Rattle.std.specs.Option.{option_or}
use Rattle.std.specs.Str.{bytes_eq}
use Rattle.value_text.specs.believed.Texts.{folded}
use Rattle.definitions.specs.believed.Report.{printed}
use Rattle.row_text.specs.Lookups.{number_of}
use Rattle.row_text.proofs.model_names.add_value.Given as goal

abbrev pub invariant-loop-name : goal.invariant-loop-name
invariant-loop-name l = (key : List ℕ) → number_of l.texts key
    ≡ option_or (number_of l.initial.texts key) (cond (list_any (λ name. bytes_eq (folded l.model.fold (printed l.model l.value name)) key) (take l.name-index l.name-items)) (Some l.number) None)
