use Rattle.std.proofs.Common.{◌∙◌, ap, sym}
use Rattle.std.specs.Prelude.{◌&&◌}
use Rattle.cov_model.specs.believed.Rows.{is_complete}
use Rattle.cov_model.specs.believed.Valid.{is_valid}
use Rattle.shared_marks.specs.TestColumns.{is_positive}
use Rattle.shared_marks.proofs.SignLemmas.{no_negative}
use Rattle.shared_marks.proofs.test_columns.is_plain.Goals as goal

pub returns-then-none_negative : goal.returns-then-none_negative
returns-then-none_negative c =
    let m = c.args.model.now in
    let row = c.args.cells.now in
    c.is_test.ensures ∙ ap (λ slice. is_positive slice && (is_complete row && is_valid m row))
    (sym (no_negative m row (c.requires.none c.if-none_negative.true) c.requires.fits))
