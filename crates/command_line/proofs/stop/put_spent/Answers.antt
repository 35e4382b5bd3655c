use Rattle.std.proofs.Common.{subst}
use Rattle.outside_io.specs.believed.Puts.{Puts}
use Rattle.definitions.specs.believed.Pairs.{pairs_text}
use Rattle.outside_io.specs.declared.answers.WriteAnswer.TheVariants.{Done, Failed}
use Rattle.command_line.proofs.PutLines.{Puts-spent, Puts-spent_opening, Puts-spent_pairs}
use Rattle.command_line.proofs.stop.put_spent.Goals as goal

pub returns-in-Failed : goal.returns-in-Failed
returns-in-Failed g c =
    Puts-spent_opening c.args.budget c.args.question.now (g.E.Sink.seen c.args.sink.now)
    (g.E.Sink.seen c.put_opening.new.sink) c.in-Failed.ensures

pub returns-in-Done-put_pairs : goal.returns-in-Done-put_pairs
returns-in-Done-put_pairs g c =
    Puts-spent c.put_pieces.result c.args.budget c.args.question.now
    (g.E.Sink.seen c.args.sink.now) (g.E.Sink.seen c.put_opening.new.sink) (g.E.Sink.seen c.put_pairs.new.sink)
    (g.E.Sink.seen c.put_pieces.new.sink)
    c.in-Done.ensures
    (subst (λ pairs. Puts Done (g.E.Sink.seen c.put_opening.new.sink) (g.E.Sink.seen c.put_pairs.new.sink) (pairs_text pairs)) c.as_slice.ensures.value c.in-Done-put_pairs.ensures)
    c.put_pieces.ensures

pub returns-in-Failed-put_pairs : goal.returns-in-Failed-put_pairs
returns-in-Failed-put_pairs g c =
    Puts-spent_pairs c.args.budget c.args.question.now
    (g.E.Sink.seen c.args.sink.now) (g.E.Sink.seen c.put_opening.new.sink) (g.E.Sink.seen c.put_pairs.new.sink) c.in-Done.ensures
    (subst (λ pairs. Puts Failed (g.E.Sink.seen c.put_opening.new.sink) (g.E.Sink.seen c.put_pairs.new.sink) (pairs_text pairs)) c.as_slice.ensures.value c.in-Failed-put_pairs.ensures)
