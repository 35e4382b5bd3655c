-- The page of a suite: its verdict and its numbers are those of the text. (This project's rule.)
use Rattle.std.specs.Prelude.{ℕ, Bool, List, [], ◌∷◌, Option}
use Rattle.cov_model.specs.believed.Sound.{ModelView}
use Rattle.definitions.specs.believed.ProofText.{Omission}
use Rattle.html_page.specs.believed.Trees.{page_text}
use Rattle.model_page.specs.believed.Pages.{PageWords, page_of}
use Rattle.suite_facts.specs.believed.Coverages.{numbers_of}
use Rattle.suite_facts.specs.believed.Facts.{largest_of}
use Rattle.proof_check.specs.declared.verdict.Verdict.{Verdict}
use Rattle.jeldroft_show.specs.believed.Words.{coverage_words, is_accepted, least_words, proof_words, verdict_words}

-- what is said of a suite on its page, which has the model file's name
abbrev pub page_words : List ℕ → ModelView → List (List (Option ℕ)) → Bool → Verdict → PageWords
page_words name m rows is_named given = record {
  name = name;
  accepted = is_accepted given;
  verdict = verdict_words m given;
  remark = proof_words is_named (is_accepted given);
  numbers = coverage_words (numbers_of m rows) (is_accepted given) ∷ least_words m (largest_of m rows) (is_accepted given) ∷ [];
}

abbrev pub suite_page : List ℕ → ModelView → List (List (Option ℕ)) → Bool → List Omission → Verdict → List ℕ
suite_page name m rows is_named omissions given = page_text (page_of m rows omissions (page_words name m rows is_named given))
