use Rattle.std.proofs.Common.{◌≡◌, ◌++◌, ◌∙◌, length, set, Some, ap, subst, arith}
use Rattle.std.proofs.lemmas.List.{append_assoc}
use Rattle.cov_model.specs.believed.Sound.{param_at}
use Rattle.compiled_rules.specs.Codes.{truths_over, PairTruths}
use Rattle.compiled_rules.proofs.PairLemmas.{pairs_more, two_is_code}
use Rattle.compiled_rules.proofs.compile.compile_two.Goals as goal

pub loop-v-preserved : goal.loop-v-preserved
loop-v-preserved c =
    let row = truths_over c.args.model.now c.args.term.now (set c.loop-v.room c.args.p (Some c.loop-v.v)) c.args.q in
    record {
      fits = c.in_ok-push_row.ensures.fits;
      count = c.loop-v.invariant.count;
      added = c.loop-v.invariant.added ++ row;
      table = c.in_ok-push_row.ensures.row
          ∙ ap (λ room. c.loop-v.table ++ truths_over c.args.model.now c.args.term.now room c.args.q) c.set_cell.ensures
          ∙ ap (λ table. table ++ row) c.loop-v.invariant.table ∙ append_assoc c.args.table.now c.loop-v.invariant.added row;
      pairs = pairs_more c.args.model.now c.args.term.now c.loop-v.room c.args.p c.args.q c.loop-v.v c.loop-v.invariant.added c.requires.named
          c.loop-v.invariant.fits
          c.requires.first c.requires.second c.loop-v.invariant.pairs;
    }

pub returns-clause-code : goal.returns-clause-code
returns-clause-code c =
    let start : c.len-start.result ≡ length c.args.table.now = grind arith in
    let end : c.loop-v.v ≡ length (param_at c.args.model.now.params c.args.p).values = omega (arith, c.loop-v.invariant.count) in
    two_is_code c.args.model.now c.args.term.now c.args.p c.args.q c.len-start.result c.value_count-width.result c.args.table.now c.loop-v.invariant.added
    c.loop-v.table start
    c.loop-v.invariant.table c.value_count-width.ensures c.requires.named (subst
    (λ n. PairTruths c.args.model.now c.args.term.now c.args.p c.args.q n c.loop-v.invariant.added) end c.loop-v.invariant.pairs)
