use Rattle.std.proofs.Common.{◌≡◌, map}
use Rattle.cov_model.specs.believed.Valid.{param_numbers}
use Rattle.uncovered_table.proofs.TableLemmas.{first_in_play}
use Rattle.uncovered_table.proofs.part.SlicePart.plays.Given as goal

abbrev pub invariant-loop-set : goal.invariant-loop-set
invariant-loop-set l = map (λ list. list.items) l.lists.items ≡ map (first_in_play l.self.model l.self.slice l.set) (param_numbers l.self.model)
