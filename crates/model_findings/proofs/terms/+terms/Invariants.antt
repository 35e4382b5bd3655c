use Rattle.std.proofs.Common.{◌≡◌, ◌++◌, drop, map}
use Rattle.cov_model.specs.Views.{preds_in}
use Rattle.model_findings.specs.believed.Terms.{terms_in_each}
use Rattle.model_findings.proofs.terms.+terms.Given as goal

-- with the terms of the predicates from here on they are those of all
abbrev pub invariant-add_terms_in_each-loop-part : goal.invariant-add_terms_in_each-loop-part
invariant-add_terms_in_each-loop-part l =
    map (λ t. t.now) l.terms.items ++ terms_in_each (preds_in (drop l.part-index l.parts)) ≡ map (λ t. t.now) l.initial.terms.items ++ terms_in_each (preds_in l.parts)
