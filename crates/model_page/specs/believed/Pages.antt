-- The page of a suite: what is said of it, its curve, its tests, and what is left out. (This project's rule.)
use Rattle.std.specs.Prelude.{ℕ, ◌-◌, Bool, List, length, map, min, take, Option}
use Rattle.std.specs.List.{range_with_len}
use Rattle.cov_model.specs.believed.Sound.{ModelView}
use Rattle.definitions.specs.believed.ProofText as proofs
use Rattle.html_page.specs.believed.Trees.{Content}
use Rattle.model_page.specs.believed.Curves.{picture_of}
use Rattle.model_page.specs.believed.Omitted.{omitted}
use Rattle.model_page.specs.believed.Tests.{param_names, test_of}
use Rattle.suite_page.specs.believed.Document.{Suite, suite_tree}
use Rattle.suite_page.specs.believed.LeftOut.{groups_of}

-- so many tests, and so many combinations that are left out, are shown
abbrev pub most_shown : ℕ
most_shown = 1000

-- the model file's name, whether the suite is accepted, the verdict in words, a remark on it, and numbers in sentences
pub record PageWords : Type 0 where
  pub name : List ℕ
  pub accepted : Bool
  pub verdict : List ℕ
  pub remark : List ℕ
  pub numbers : List (List ℕ)

abbrev pub suite_of : ModelView → List (List (Option ℕ)) → List proofs.Omission → PageWords → Suite
suite_of m rows omissions words = record {
  name = words.name;
  accepted = words.accepted;
  verdict = words.verdict;
  remark = words.remark;
  numbers = words.numbers;
  picture = picture_of m rows words.accepted;
  names = param_names m;
  tests = map (test_of m rows) (range_with_len 0 (min (length rows) most_shown));
  more_tests = length rows - most_shown;
  groups = groups_of (map (omitted m omissions) (take most_shown omissions));
  more_combinations = length omissions - most_shown;
}

-- the page of the rows of a suite, and of a proof that leaves combinations out
abbrev pub page_of : ModelView → List (List (Option ℕ)) → List proofs.Omission → PageWords → Content
page_of m rows omissions words = suite_tree (suite_of m rows omissions words)
