use Rattle.std.proofs.Common.{◌∙◌, sym}
use Rattle.model_lex.specs.believed.Sections.{sections_of}
use Rattle.model_lex.specs.Sections.{split_seen}
use Rattle.model_lex.proofs.Splitting.{sorts}
use Rattle.model_lex.proofs.sections.split_model.Goals as goal

pub loop-rest-preserved : goal.loop-rest-preserved
loop-rest-preserved c =
    let read = c.in-Ok.ensures.ok in
    rw (c.in_ok-push-in-Ok.ensures, read.2, read.1)
    (sorts (sections_of c.args.bytes.now) (split_seen c.loop-rest.sections) c.loop-rest.before c.loop-rest.line c.loop-rest.rest.now c.cut_line.result.0.now c.cut_line.result.1.now
    c.loop-rest.invariant c.cut_line.ensures.lines c.cut_line.ensures.shorter (sym c.is_ignored.ensures ∙ c.if-is_ignored.false) read.0)
