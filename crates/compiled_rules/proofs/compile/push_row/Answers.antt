use Rattle.std.proofs.Common.{◌≡◌, ◌++◌, ◌∷◌, ◌∙◌, [], Some, set, sym, ap, subst, arith, rules}
use Rattle.std.proofs.lemmas.List.{set-set}
use Rattle.cov_model.specs.Fits.{FitsModel}
use Rattle.cov_model.specs.believed.Kleene.{term_truth}
use Rattle.compiled_rules.specs.Codes.{is_yes}
use Rattle.compiled_rules.proofs.TermLemmas.{FitsModel-set, row_more}
use Rattle.compiled_rules.proofs.compile.push_row.Goals as goal

pub loop-w-preserved : goal.loop-w-preserved
loop-w-preserved c =
    let pushed : c.push.new.self ≡ c.loop-w.table ++ c.is_yes-holds.result ∷ [] = search rules in
    record {
      fits = subst (FitsModel c.args.model.now) (sym c.set_cell.ensures)
          (FitsModel-set c.args.model.now c.loop-w.room c.args.q c.loop-w.w c.loop-w.invariant.fits c.requires.within
          (omega (arith, c.loop-w.invariant.count)));
      near = λ v. ap (λ cells. set cells c.args.q (Some v)) c.set_cell.ensures ∙ set-set c.loop-w.room c.args.q (Some c.loop-w.w) (Some v)
          ∙ c.loop-w.invariant.near v;
      count = c.loop-w.invariant.count;
      table = row_more c.args.model.now c.args.term.now c.args.room.now c.args.q c.loop-w.w c.args.table.now c.loop-w.table c.push.new.self
          c.is_yes-holds.result
          c.loop-w.invariant.table pushed (c.is_yes-holds.ensures
          ∙ ap is_yes (c.term_truth.ensures ∙ ap (λ cells. term_truth c.args.model.now c.args.term.now cells)
          (c.set_cell.ensures ∙ c.loop-w.invariant.near c.loop-w.w)));
    }
