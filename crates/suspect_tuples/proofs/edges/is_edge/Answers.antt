use Rattle.suspect_tuples.proofs.PartLemmas.{edge_from_others}
use Rattle.suspect_tuples.proofs.edges.is_edge.Goals as goal

pub returns-else-tuple-lt2 : goal.returns-else-tuple-lt2
returns-else-tuple-lt2 c =
    edge_from_others c.args.passing.now c.args.tuple.now c.has.result c.has_each_without.result c.has.ensures c.if-has.false c.if-tuple-lt2.false c.has_each_without.ensures
