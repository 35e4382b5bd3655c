use Rattle.std.proofs.Common.{◌≡◌, map, take}
use Rattle.row_text.specs.Turns.{first_turns}
use Rattle.suite_forms.proofs.name_turns.NameTurns.new.Given as goal

abbrev pub invariant-loop-param : goal.invariant-loop-param
invariant-loop-param l = map (λ next. next.items) l.places.items ≡ take l.param-index (first_turns l.model)
