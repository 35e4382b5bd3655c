use Rattle.std.proofs.Common.{◌++◌, subst}
use Rattle.std.specs.Prelude.{codes}
use Rattle.definitions.specs.believed.Pairs.{pairs_text}
use Rattle.outside_io.specs.declared.answers.WriteAnswer.TheVariants.{Done, Failed}
use Rattle.outside_io.specs.believed.Puts.{Puts}
use Rattle.outside_io.proofs.PutsLaws.{Puts-then, Puts-stopped}
use Rattle.check_cli.proofs.verdict_line.put_uncovered.Goals as goal

pub returns-in-Failed : goal.returns-in-Failed
returns-in-Failed g c =
    let before = g.O.Sink.seen c.args.out.now in
    let after = g.O.Sink.seen c.put_pieces.new.sink in
    let opening = codes "refused: uncovered " in
    let pairs = pairs_text c.args.tuple.now in
    Puts-stopped before after (opening ++ pairs) (codes "\n") (Puts-stopped before after opening pairs c.in-Failed.ensures)

pub returns-in-Done-put_pairs : goal.returns-in-Done-put_pairs
returns-in-Done-put_pairs g c =
    let before = g.O.Sink.seen c.args.out.now in
    let opened = g.O.Sink.seen c.put_pieces.new.sink in
    let middle = g.O.Sink.seen c.put_pairs.new.sink in
    let opening = codes "refused: uncovered " in
    let pairs = pairs_text c.args.tuple.now in
    Puts-then c.put_pieces-in-Done-put_pairs.result before middle (g.O.Sink.seen c.put_pieces-in-Done-put_pairs.new.sink) (opening ++ pairs) (codes "\n")
    (Puts-then Done before opened middle opening pairs c.in-Done.ensures
    (subst (λ given. Puts Done opened middle (pairs_text given)) c.as_slice.ensures.value c.in-Done-put_pairs.ensures))
    c.put_pieces-in-Done-put_pairs.ensures

pub returns-in-Failed-put_pairs : goal.returns-in-Failed-put_pairs
returns-in-Failed-put_pairs g c =
    let before = g.O.Sink.seen c.args.out.now in
    let opened = g.O.Sink.seen c.put_pieces.new.sink in
    let after = g.O.Sink.seen c.put_pairs.new.sink in
    let opening = codes "refused: uncovered " in
    let pairs = pairs_text c.args.tuple.now in
    Puts-stopped before after (opening ++ pairs) (codes "\n")
    (Puts-then Failed before opened after opening pairs c.in-Done.ensures
    (subst (λ given. Puts Failed opened after (pairs_text given)) c.as_slice.ensures.value c.in-Failed-put_pairs.ensures))
