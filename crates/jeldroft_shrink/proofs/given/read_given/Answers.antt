use Rattle.std.proofs.Common.{sym, subst}
use Rattle.std.specs.Prelude.{IfSome}
use Rattle.value_text.proofs.ListLemmas.{is_err}
use Rattle.definitions.specs.believed.RowReading.{Suite}
use Rattle.row_text.specs.RowFiles.{seeds_seen}
use Rattle.jeldroft_files.specs.believed.Tables.{is_comma}
use Rattle.jeldroft_shrink.specs.believed.Reading.{given_in, lines_of, tests_of}
use Rattle.jeldroft_shrink.specs.Steps.{Gives}
use Rattle.jeldroft_shrink.proofs.ReadLemmas.{then_told, unread_tests}
use Rattle.jeldroft_shrink.proofs.given.read_given.Goals as goal

pub returns-in_err-file-clause-reads : goal.returns-in_err-file-clause-reads
returns-in_err-file-clause-reads g c =
    let m = c.args.model.now in
    let comma = is_comma c.args.delimiter c.args.name.now in
    subst (λ r. IfSome ((g.F.Folder.seen c.args.files.now).files c.args.name.now) (λ held. Gives seeds_seen (given_in m comma held) r))
    (sym (is_err c.from_residual.ensures.1))
    (then_told ((g.F.Folder.seen c.args.files.now).files c.args.name.now)
    (λ held is. unread_tests m (lines_of m Suite comma held) c.in_err-file.field-0.0.cause is) c.in_err-file.ensures.reads)

pub returns-clause-reads : goal.returns-clause-reads
returns-clause-reads g c =
    then_told ((g.F.Folder.seen c.args.files.now).files c.args.name.now)
    (λ held is. subst (λ lines. Gives seeds_seen (tests_of c.args.model.now lines) c.unless_flawed.result) (sym is) c.unless_flawed.ensures.reads)
    c.in_ok-file.ensures.reads
