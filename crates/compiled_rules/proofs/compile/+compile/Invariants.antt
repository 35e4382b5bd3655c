use Rattle.std.proofs.Common.{take}
use Rattle.cov_model.specs.Fits.{FitsModel}
use Rattle.compiled_rules.specs.Codes.{Extends, AreCodesOf}
use Rattle.compiled_rules.proofs.compile.+compile.Given as goal

abbrev pub invariant-compile_parts-loop-part : goal.invariant-compile_parts-loop-part
invariant-compile_parts-loop-part l = record {
  fits : FitsModel l.model l.room;
  grows : Extends l.table l.initial.table;
  codes : AreCodesOf l.model l.table (take l.part-index l.parts) l.codes;
}
