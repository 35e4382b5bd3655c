use Rattle.std.proofs.Common.{◌∙◌, sym, subst}
use Rattle.cov_model.specs.Tuples.{IsRising}
use Rattle.definitions.proofs.ProofLines.{passes_rising}
use Rattle.refutation.proofs.spelling.Spelling.read_tuple.Goals as goal

pub of-requires : goal.of-requires
of-requires c =
    subst IsRising (c.as_slice.ensures ∙ sym c.as_slice-2.ensures) (passes_rising c.as_slice.result.now (sym c.if-not-is_rising.ensures))
