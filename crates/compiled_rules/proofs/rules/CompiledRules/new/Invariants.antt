use Rattle.cov_model.specs.Fits.{FitsModel}
use Rattle.compiled_rules.specs.Codes.{AreBodyCodes}
use Rattle.compiled_rules.proofs.rules.CompiledRules.new.Given as goal

abbrev pub invariant-loop-rule : goal.invariant-loop-rule
invariant-loop-rule l = record {
  fits : FitsModel l.model l.room;
  codes : AreBodyCodes l.model l.table l.rule-index l.bodies;
}
