use Rattle.std.proofs.Common.{◌≡◌, [], find, not, ◌∙◌, sym, ap}
use Rattle.std.proofs.lemmas.Result.{IfOk-weaker}
use Rattle.cov_model.specs.believed.Valid.{is_valid}
use Rattle.definitions.specs.believed.Refutation.{first_unrefuted}
use Rattle.definitions.specs.believed.Verdict.{as_cells, by_omission, verdict}
use Rattle.refutation.specs.believed.Proofs.{format_of}
use Rattle.refutation.specs.Reading.{omissions_meant}
use Rattle.row_text.specs.RowFiles.{seeds_seen, suite_seen}
use Rattle.proof_check.specs.believed.Checks.{verdict_given}
use Rattle.proof_check.proofs.VerdictLemmas.{judged, none_bad, none_mapped}
use Rattle.proof_check.proofs.check.judge.Goals as goal

pub judge_proof-requires-clause-valid : goal.judge_proof-requires-clause-valid
judge_proof-requires-clause-valid g c κs within =
    none_bad c.args.model.now c.args.file.now.rows
    (none_mapped (λ line. line.0) (find (λ line. not (is_valid c.args.model.now line.1)) (seeds_seen c.args.file.now)) c.in_default.ensures)

pub returns-in-Ok : goal.returns-in-Ok
returns-in-Ok g c =
    let m = c.args.model.now in
    let file = c.args.file.now in
    let proof = c.in-Ok.omissions in
    let none = none_mapped (λ line. line.0) (find (λ line. not (is_valid m line.1)) (seeds_seen file)) c.in_default.ensures in
    IfOk-weaker c.judge_proof.result
    (λ given. given
    ≡ verdict_given (by_omission m (suite_seen file) (omissions_meant proof.omissions)
    (first_unrefuted m (format_of proof.form) [] 2 (as_cells m (omissions_meant proof.omissions)))))
    (λ given. given ≡ verdict_given (verdict m (seeds_seen file) c.args.proof.now))
    (λ given is. is ∙ ap verdict_given (sym (judged m file c.args.proof.now proof none c.in-Ok.ensures.read)))
    c.judge_proof.ensures
