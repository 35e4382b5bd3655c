-- The lines on an explanation, as they are added.
use Rattle.std.proofs.Common.{◌≡◌, ◌-◌, ℕ, List, ◌++◌, ap, sym, ◌∙◌}
use Rattle.std.specs.Prelude.{slice_get}
use Rattle.std.specs.List.{flat_map}
use Rattle.std.proofs.lemmas.List.{append_assoc}
use Rattle.cov_model.specs.believed.Sound.{ModelView}
use Rattle.definitions.specs.believed.ProofText.{Omission}
use Rattle.model_words.specs.Seen.{explanation_seen}
use Rattle.model_words.specs.believed.Explanations.{cases_line, cited_line, explanation_lines, invalid_line, rule_line}
use Rattle.model_words.specs.declared.explanation.Explanation.{Explanation}

module _ (m : ModelView) (omissions : List Omission) (e : Explanation) (rules cited : List ℕ) where
  abbrev rule_lines : List ℕ → List ℕ
  rule_lines numbers = flat_map (λ k. rule_line m (slice_get m.rules (k - 1))) numbers

  abbrev cited_lines : List ℕ → List ℕ
  cited_lines numbers = flat_map (λ n. cited_line m (slice_get omissions (n - 1))) numbers

  joined : (old one two three four : List ℕ) → (((old ++ one) ++ two) ++ three) ++ four ≡ old ++ (one ++ (two ++ (three ++ four)))
  joined old one two three four =
      append_assoc ((old ++ one) ++ two) three four ∙ append_assoc (old ++ one) two (three ++ four) ∙ append_assoc old one (two ++ (three ++ four))

  pub lines_are : (old one two three new : List ℕ) → rules ≡ e.rules.items → cited ≡ e.cited.items → one ≡ old ++ cases_line e.cases
      → two ≡ one ++ rule_lines rules → three ≡ two ++ invalid_line e.by_invalid → new ≡ three ++ cited_lines cited
      → new ≡ old ++ explanation_lines m omissions (explanation_seen e)
  lines_are old one two three new ruled cites first second third last =
      last
      ∙ ap (λ text. text ++ cited_lines cited) (third ∙ ap (λ text. text ++ invalid_line e.by_invalid) (second ∙ ap (λ text. text ++ rule_lines rules) first))
      ∙ ap (λ numbers. (((old ++ cases_line e.cases) ++ rule_lines numbers) ++ invalid_line e.by_invalid) ++ cited_lines cited) ruled
      ∙ ap (λ numbers. (((old ++ cases_line e.cases) ++ rule_lines e.rules.items) ++ invalid_line e.by_invalid) ++ cited_lines numbers) cites
      ∙ joined old (cases_line e.cases) (rule_lines e.rules.items) (invalid_line e.by_invalid) (cited_lines e.cited.items)
