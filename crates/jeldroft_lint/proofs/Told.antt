-- What is told of a model whose findings are known.
use Rattle.std.proofs.Common.{◌≡◌, ◌∙◌, ◌++◌, ℕ, Bool, List, [], ◌∷◌, Option, map, length, ap, arith, refl, sym, subst}
use Rattle.std.specs.Prelude.{◌≢◌, ◌≤◌}
use Rattle.std.proofs.lemmas.List.Sorted.{length_permutation}
use Rattle.outside_io.specs.believed.Seen.{SinkSeen}
use Rattle.jeldroft_args.specs.declared.lint.Lint.{Lint}
use Rattle.jeldroft_files.specs.believed.Runs.{IsPrinted}
use Rattle.model_findings.specs.believed.Findings.{Fact, facts}
use Rattle.cov_model.specs.believed.Sound.{ModelView}
use Rattle.jeldroft_lint.specs.Linting.{IsAnswer}
use Rattle.jeldroft_lint.specs.declared.remark.Remark.{Remark}
use Rattle.jeldroft_lint.specs.believed.Linting.{LintsAs, Prints, status_with}
use Rattle.jeldroft_lint.specs.believed.Remarks.{Tells, fact_gist, gist_of}

none_told : (told : List Remark) → status_with told ≡ 0 → told ≡ []
none_told [] zero = refl
none_told (remark ∷ told) one = absurd (omega (arith, one))

some_told : (told : List Remark) → status_with told ≡ 1 → told ≢ []
some_told [] zero = absurd (omega (arith, zero))
some_told (remark ∷ told) one = λ none. absurd (omega (arith, ap length none))

both_empty : (found hints : List Remark) → length (found ++ hints) ≡ 0 → found ≡ []
both_empty [] hints none = refl
both_empty (remark ∷ found) hints some = absurd (omega (arith, some))

no_fact : (m : ModelView) (found : List Fact) → map (fact_gist m) found ≡ [] → found ≡ []
no_fact m [] none = refl
no_fact m (fact ∷ found) some = absurd (omega (arith, ap length some))

-- where nothing is told there is no finding
no_finding : (m : ModelView) (all : Bool) (told : List Remark) → Tells m all told → told ≡ [] → facts m all ≡ []
no_finding m all told tells none =
    let same : length told ≡ length (tells.found ++ tells.hints) = length_permutation (tells.found ++ tells.hints) told tells.order.each in
    let empty : tells.found ≡ [] = both_empty tells.found tells.hints (sym same ∙ ap length none) in
    no_fact m (facts m all) (sym tells.findings ∙ ap (map gist_of) empty)

module _ (args : Lint) (held : Option (List ℕ)) (text : List ℕ) (status : ℕ) (answer : IsAnswer args held text status) where
  abbrev told : List Remark
  told = answer.3.0

  tells : Tells answer.0 args.all told
  tells = answer.3.1

  goes : status ≡ status_with told
  goes = answer.3.2.0

  pub answered : status ≤ 1 → LintsAs args held status
  answered few = record {
    clean = λ zero. (answer.0, answer.1, answer.2, no_finding answer.0 args.all told tells (none_told told (sym goes ∙ zero)));
    untold = λ zero. (answer.0, answer.1, answer.2, (told, tells, none_told told (sym goes ∙ zero)));
    found = λ one. (answer.0, answer.1, answer.2, (told, tells, some_told told (sym goes ∙ one)));
    refused = λ two. absurd (omega (arith, few, two));
  }

  pub printed : (before after : SinkSeen) → IsPrinted text before after → Prints args held before after status
  printed before after print few = (answer.0, answer.1, answer.2, (told, tells, (goes, subst (λ t. IsPrinted t before after) answer.3.2.1 print)))
