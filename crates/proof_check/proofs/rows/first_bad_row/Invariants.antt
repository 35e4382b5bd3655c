use Rattle.std.proofs.Common.{◌≡◌, find, not, drop}
use Rattle.std.specs.Prelude.{map}
use Rattle.cov_model.specs.believed.Valid.{is_valid}
use Rattle.row_text.specs.RowFiles.{row_seen}
use Rattle.proof_check.proofs.rows.first_bad_row.Given as goal

abbrev pub invariant-loop-row : goal.invariant-loop-row
invariant-loop-row l =
    find (λ line. not (is_valid l.model line.1)) (map row_seen (drop l.row-index l.file.rows))
    ≡ find (λ line. not (is_valid l.model line.1)) (map row_seen l.file.rows)
