use Rattle.std.proofs.Common.{◌≡◌, arith, ap, map, subst, ◌∙◌}
use Rattle.std.proofs.lemmas.Grind.{common_steps}
use Rattle.cov_model.specs.believed.Sound.{ModelView}
use Rattle.definitions.specs.believed.Completion.{is_extendable}
use Rattle.model_lint.specs.Changes.{IsTestOf, changed, kept_alone}
use Rattle.model_lint.proofs.ChangedModels.{extends_kept, kept_test}
use Rattle.model_lint.proofs.Steps.{ok_also}
use Rattle.model_lint.proofs.conflict.Gathering.seek_marked.Goals as goal

pub returns-clause-found : goal.returns-clause-found
returns-clause-found g c =
    let whole : c.in_ok-part.part ≡ changed c.args.self.now.model.now (map kept_alone c.args.marks.now) = first_of (cc, grind (arith, common_steps)) in
    ok_also c.seek_in.result (λ found is.
    is ∙ ap (λ (x : ModelView). is_extendable x c.args.self.now.slice c.args.self.now.cells.now) whole ∙ extends_kept c.args.self.now.model.now c.args.marks.now c.args.self.now.slice c.args.self.now.cells.now)
    c.seek_in.ensures.found

pub returns-clause-test : goal.returns-clause-test
returns-clause-test g c =
    let whole : c.in_ok-part.part ≡ changed c.args.self.now.model.now (map kept_alone c.args.marks.now) = first_of (cc, grind (arith, common_steps)) in
    ok_also c.seek_in.result (λ found means yes.
    kept_test c.args.self.now.model.now c.args.marks.now c.args.self.now.slice c.args.self.now.cells.now c.seek_in.new.into
    (subst (λ (x : ModelView). IsTestOf x c.args.self.now.slice c.args.self.now.cells.now c.seek_in.new.into) whole (means yes)))
    c.seek_in.ensures.test
