use Rattle.std.proofs.Common.{◌≡◌, List, subst}
use Rattle.std.specs.Prelude.{IfOk}
use Rattle.definitions.specs.believed.ProofText.{Omission}
use Rattle.row_text.specs.RowFiles.{suite_seen}
use Rattle.jeldroft_show.specs.believed.Due.{text_shown}
use Rattle.jeldroft_show.proofs.judged.write_judged.Goals as goal

pub returns : goal.returns
returns g c =
    subst (λ (told : List Omission). IfOk c.write_text.result (λ text. text.items ≡ text_shown c.args.args.now c.args.model.now (suite_seen c.args.tests.now) told c.args.verdict.now))
    c.in_ok-omissions.ensures c.write_text.ensures
