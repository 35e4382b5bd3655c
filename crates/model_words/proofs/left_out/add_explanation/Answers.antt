use Rattle.std.proofs.Common.{map}
use Rattle.std.proofs.lemmas.Result.{on_ok_weaker}
use Rattle.refutation.specs.Proofs.{omission_meant}
use Rattle.model_words.proofs.LineLemmas.{lines_are}
use Rattle.model_words.proofs.left_out.add_explanation.Goals as goal

pub returns : goal.returns
returns c =
    on_ok_weaker c.add_cited.result
    (lines_are c.args.model.now (map omission_meant c.args.proof.now.omissions) c.args.explanation.now c.as_slice.result.now c.as_slice-2.result.now
    c.args.text.now.items c.add_cases.new.text.items c.add_rules.new.text.items c.add_invalid.new.text.items c.add_cited.new.text.items
    c.as_slice.ensures.value c.as_slice-2.ensures.value c.in_ok-add_cases.ensures c.in_ok-add_rules.ensures c.in_ok-add_invalid.ensures)
    c.add_cited.ensures
