use Rattle.std.proofs.Common.{◌≡◌, ◌∷◌, [], ◌++◌, length, arith}
use Rattle.std.proofs.lemmas.Grind.{common_steps}
use Rattle.coverage_measure.specs.declared.asking.KeptQuestions.{KeptQuestions}
use Rattle.coverage_measure.proofs.AskLemmas.{kept_more, last_place}
use Rattle.coverage_measure.proofs.asking.Asking.place_of.Goals as goal

pub returns-clause-place : goal.returns-clause-place
returns-clause-place c =
    let one : KeptQuestions = record { slice = c.args.slice; questions = c.in_ok-questions.questions; values = c.in_ok-values.values } in
    let pushed : c.push.new.self.items ≡ c.truncate.new.self.items ++ one ∷ [] = grind (arith, common_steps) in
    let last : c.len-place.result ≡ length c.truncate.new.self.items = grind (arith, common_steps) in
    last_place c.truncate.new.self.items c.push.new.self.items one c.len-place.result last pushed

pub returns-clause-kept : goal.returns-clause-kept
returns-clause-kept c =
    let one : KeptQuestions = record { slice = c.args.slice; questions = c.in_ok-questions.questions; values = c.in_ok-values.values } in
    let pushed : c.push.new.self.items ≡ c.truncate.new.self.items ++ one ∷ [] = grind (arith, common_steps) in
    kept_more c.args.self.now.model.now c.args.self.now.prefs.now c.args.self.now.effort 255 c.args.kept.now.items c.truncate.new.self.items c.push.new.self.items one c.requires.kept
    c.truncate.ensures.items
    (record { slice = c.requires.slice; questions = c.in_ok-questions.ensures; values = c.in_ok-values.ensures }) pushed
