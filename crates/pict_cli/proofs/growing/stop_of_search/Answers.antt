use Rattle.pict_cli.proofs.Questions.{not_spent}
use Rattle.pict_cli.proofs.growing.stop_of_search.Goals as goal

pub unreachable-requires : goal.unreachable-requires
unreachable-requires c = not_spent c.args.fault c.in-Spent.question (c.requires c.in-Full.is) c.in-Spent.is
