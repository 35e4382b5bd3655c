use Rattle.std.proofs.Common.{rules, arith, All, subst, sym}
use Rattle.cov_model.specs.declared.constraint.Pred.{the_lemmas}
use Rattle.cov_model.specs.Views.{pred_view}
use Rattle.cov_model.specs.believed.Sound.{IsSoundPred}
use Rattle.cov_model.proofs.TruthLemmas.{each_sound, either_sound}
use Rattle.compiled_rules.specs.Codes.{AreCodesOf}
use Rattle.compiled_rules.proofs.ListLemmas.{extends_more, codes_more, all_is_code, any_is_code}
use Rattle.compiled_rules.proofs.compile.+compile.Goals as goal

pub compile_parts-loop-part-preserved : goal.compile_parts-loop-part-preserved
compile_parts-loop-part-preserved t c = record {
  fits = c.in_ok-code.ensures.fits;
  grows = extends_more c.compile_pred.new.table c.loop-part.table c.args.table.now c.in_ok-code.ensures.grows c.loop-part.invariant.grows;
  codes = codes_more c.args.model.now c.loop-part.table c.compile_pred.new.table c.args.parts.now c.loop-part.part-index _ c.loop-part.codes
      c.push.new.self c.in_ok-code.code
      c.loop-part-test.true (search rules) c.loop-part.invariant.codes c.in_ok-code.ensures.grows c.in_ok-code.ensures.code c.in_ok-push.ensures.ok;
}

pub compile_pred-compile_parts-requires : goal.compile_pred-compile_parts-requires
compile_pred-compile_parts-requires t c = (
  first_of (search (rules, the_lemmas), grind (arith, the_lemmas)),
  (
    subst (All (λ part. IsSoundPred c.args.model.now.params (pred_view part))) (sym c.as_slice.ensures)
        (each_sound c.args.model.now.params c.args.pred.now c.in-All.parts c.in-All.is c.requires.sound),
    c.requires.fits,
  ),
)

pub compile_pred-compile_parts-requires-in-Any : goal.compile_pred-compile_parts-requires-in-Any
compile_pred-compile_parts-requires-in-Any t c = (
  first_of (search (rules, the_lemmas), grind (arith, the_lemmas)),
  (
    subst (All (λ part. IsSoundPred c.args.model.now.params (pred_view part))) (sym c.as_slice-in-Any.ensures)
        (either_sound c.args.model.now.params c.args.pred.now c.in-Any.parts c.in-Any.is c.requires.sound),
    c.requires.fits,
  ),
)

pub compile_pred-returns-in_ok-codes-in-All-clause-code : goal.compile_pred-returns-in_ok-codes-in-All-clause-code
compile_pred-returns-in_ok-codes-in-All-clause-code t c =
    all_is_code c.args.model.now c.compile_parts.new.table c.args.pred.now c.in-All.parts c.in_ok-codes-in-All.codes c.in-All.is
    (subst (λ parts. AreCodesOf c.args.model.now c.compile_parts.new.table parts c.in_ok-codes-in-All.codes) c.as_slice.ensures
    c.in_ok-codes-in-All.ensures.codes)

pub compile_pred-returns-in_ok-codes-in-Any-clause-code : goal.compile_pred-returns-in_ok-codes-in-Any-clause-code
compile_pred-returns-in_ok-codes-in-Any-clause-code t c =
    any_is_code c.args.model.now c.compile_parts-in-Any.new.table c.args.pred.now c.in-Any.parts c.in_ok-codes-in-Any.codes c.in-Any.is
    (subst (λ parts. AreCodesOf c.args.model.now c.compile_parts-in-Any.new.table parts c.in_ok-codes-in-Any.codes) c.as_slice-in-Any.ensures
    c.in_ok-codes-in-Any.ensures.codes)
