use Rattle.std.proofs.Common.{◌≡◌, drop}
use Rattle.cov_model.specs.believed.Kleene.{and_of, or_of}
use Rattle.compiled_rules.specs.Codes.{all_codes, any_codes}
use Rattle.compiled_rules.proofs.code.+truths.Given as goal

abbrev pub invariant-all_codes-loop-part : goal.invariant-all_codes-loop-part
invariant-all_codes-loop-part l = and_of l.so_far (all_codes l.model l.table (drop l.part-index l.parts) l.cells) ≡ all_codes l.model l.table l.parts l.cells

abbrev pub invariant-any_codes-loop-part : goal.invariant-any_codes-loop-part
invariant-any_codes-loop-part l = or_of l.so_far (any_codes l.model l.table (drop l.part-index l.parts) l.cells) ≡ any_codes l.model l.table l.parts l.cells
