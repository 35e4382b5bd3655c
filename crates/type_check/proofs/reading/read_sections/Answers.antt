use Rattle.std.proofs.Common.{◌≡◌, ◌∙◌, ap, map, None, subst, sym}
use Rattle.cov_model.specs.believed.Sound.{IsSound}
use Rattle.cov_model.specs.Views.{rule_view}
use Rattle.constraint_ast.specs.Trees.{rule_tree}
use Rattle.model_lex.specs.Sections.{split_seen}
use Rattle.type_check.specs.believed.Constraints.{rules_fault, rules_from}
use Rattle.type_check.specs.believed.ModelOf.{by_params, by_rules}
use Rattle.constraint_ast.proofs.Lexing.{handed_on}
use Rattle.type_check.proofs.Models.{Refuses, grammar_refused, model_read, read_through, with_rules}
use Rattle.type_check.proofs.Soundness.{model_sound}
use Rattle.type_check.proofs.reading.read_sections.Goals as goal
use Rattle.type_check.proofs.reading.read_sections.Goals.{In_ok-rules}

pub returns-in_err-raw-clause-err : goal.returns-in_err-raw-clause-err
returns-in_err-raw-clause-err c =
    handed_on _ (Refuses c.args.opts.now (split_seen c.args.sections.now)) c.from_residual.result c.in_err-raw.field-0.0 c.from_residual.ensures.1
    (λ some. by_params (c.in_err-raw.ensures.value some))

pub returns-in_err-trees-clause-err : goal.returns-in_err-trees-clause-err
returns-in_err-trees-clause-err c =
    handed_on _ (Refuses c.args.opts.now (split_seen c.args.sections.now)) c.from_residual-in_err-trees.result c.in_err-trees.field-0.0 c.from_residual-in_err-trees.ensures.1
    (grammar_refused c.args.opts.now (split_seen c.args.sections.now) c.in_ok-raw.raw c.in_err-trees.field-0.0 c.in_ok-raw.ensures.value c.in_err-trees.ensures.err)

pub returns-in_err-rules-clause-err : goal.returns-in_err-rules-clause-err
returns-in_err-rules-clause-err c =
    handed_on _ (Refuses c.args.opts.now (split_seen c.args.sections.now)) c.from_residual-in_err-rules.result c.in_err-rules.field-0.0 c.from_residual-in_err-rules.ensures.1
    (λ some. by_rules c.in_ok-raw.raw (map rule_tree c.in_ok-trees.trees) c.in_ok-raw.ensures.value c.in_ok-trees.ensures.ok
    (sym (read_through (rules_fault c.args.opts.now.fold) c.as_slice.ensures c.as_slice-2.ensures) ∙ c.in_err-rules.ensures.err some))

-- the constraints are those of the trees, and they aren't refused
are : (c : In_ok-rules) → map rule_view c.in_ok-rules.rules ≡ rules_from 1 c.args.opts.now.fold c.in_ok-raw.raw.params (map rule_tree c.in_ok-trees.trees)
are c = c.in_ok-rules.ensures.ok ∙ read_through (rules_from 1 c.args.opts.now.fold) c.as_slice.ensures c.as_slice-2.ensures

unrefused : (c : In_ok-rules) → rules_fault c.args.opts.now.fold c.in_ok-raw.raw.params (map rule_tree c.in_ok-trees.trees) ≡ None
unrefused c = sym (read_through (rules_fault c.args.opts.now.fold) c.as_slice.ensures c.as_slice-2.ensures) ∙ c.in_ok-rules.ensures.unrefused

pub new-model-requires : goal.new-model-requires
new-model-requires c =
    subst (λ rules. IsSound (with_rules c.args.opts.now c.in_ok-raw.raw rules)) (sym (are c))
    (model_sound c.args.opts.now c.in_ok-raw.raw (map rule_tree c.in_ok-trees.trees) c.requires.opts c.in_ok-raw.ensures.sound (unrefused c))

pub returns-clause-ok : goal.returns-clause-ok
returns-clause-ok c =
    let read = (goal.at.returns-clause-ok c).In_ok-rules in
    model_read c.args.opts.now (split_seen c.args.sections.now) c.in_ok-raw.raw
    (map rule_tree c.in_ok-trees.trees) c.new-model.result c.in_ok-raw.ensures.value c.in_ok-trees.ensures.ok
    (unrefused read) (c.new-model.ensures ∙ ap (with_rules c.args.opts.now c.in_ok-raw.raw) (are read))
