use Rattle.std.proofs.Common.{sym, ◌+◌}
use Rattle.std.proofs.lemmas.List.{take_rest}
use Rattle.model_lex.proofs.Cutting.{first_ended, only_ended}
use Rattle.model_lex.proofs.lines.cut_at_line_feed.Goals as goal

pub returns-in-Some-clause-lines : goal.returns-in-Some-clause-lines
returns-in-Some-clause-lines c =
    rw (take_rest c.args.bytes.now (c.in-Some.end + 1)) (first_ended c.args.bytes.now c.in-Some.end (sym c.in-Some.ensures))

pub returns-in-None-clause-lines : goal.returns-in-None-clause-lines
returns-in-None-clause-lines c = only_ended c.args.bytes.now c.requires (sym c.in-None.ensures)
