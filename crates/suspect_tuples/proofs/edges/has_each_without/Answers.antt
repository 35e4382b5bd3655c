use Rattle.std.proofs.Common.{length, sym, ◌∙◌}
use Rattle.std.specs.Prelude.{remove}
use Rattle.suspect_tuples.specs.Edges.{is_had}
use Rattle.suspect_tuples.proofs.PartLemmas.{others_fail, others_more}
use Rattle.suspect_tuples.proofs.edges.has_each_without.Goals as goal

pub returns-then-not-has_without : goal.returns-then-not-has_without
returns-then-not-has_without c =
    others_fail (λ i. is_had c.args.rows.now (remove c.args.tuple.now i)) (length c.args.tuple.now) c.loop-left_out.left_out c.loop-left_out-test.true
    (sym c.has_without.ensures ∙ c.if-not-has_without.true)

pub loop-left_out-preserved : goal.loop-left_out-preserved
loop-left_out-preserved c =
    others_more (λ i. is_had c.args.rows.now (remove c.args.tuple.now i)) c.loop-left_out.left_out c.loop-left_out.invariant
    (sym c.has_without.ensures ∙ c.if-not-has_without.false)
