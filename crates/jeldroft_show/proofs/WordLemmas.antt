-- The words on a suite, from what is known of it.
use Rattle.std.proofs.Common.{◌≡◌, ℕ, ◌<◌, Bool, ◌||◌, cond, List, [], ◌++◌, map, length, Option, ◌∙◌, sym, ap, arith}
use Rattle.std.specs.Prelude.{◌==◌, codes}
use Rattle.std.specs.List.{flat_map}
use Rattle.std.proofs.lemmas.Bool.{ne_eqb}
use Rattle.std.proofs.lemmas.List.{length-map}
use Rattle.cov_model.specs.believed.Sound.{ModelView}
use Rattle.definitions.specs.believed.ProofText.{Omission}
use Rattle.row_text.specs.declared.row_file.FileRow.{FileRow}
use Rattle.suite_facts.specs.believed.Coverages.{numbers_of, point_of}
use Rattle.suite_facts.specs.believed.Facts.{SetCount, largest_of, round_counts}
use Rattle.suite_facts.specs.declared.coverage.SuiteNumbers.{SuiteNumbers}
use Rattle.suite_facts.specs.declared.curve.CurvePoint.{CurvePoint}
use Rattle.proof_check.specs.declared.verdict.Verdict.{Verdict}
use Rattle.jeldroft_show.specs.believed.Shows.{Shown}
use Rattle.jeldroft_show.specs.believed.Words.{curve_words, point_words, suite_words, words_of}

pub words_are : (m : ModelView) (file : List FileRow) (numbers : SuiteNumbers) (largest : Option SetCount) (points : List CurvePoint) (counts : List ℕ) (count : ℕ)
    (is_named : Bool) (omissions : List Omission) (given : Verdict) (text : List ℕ) → numbers ≡ numbers_of m (map (λ row. row.cells) file) → largest ≡ largest_of m (map (λ row. row.cells) file)
    → points ≡ map (point_of m (map (λ row. row.cells) file)) counts → counts ≡ round_counts count → count ≡ length file
    → text ≡ words_of m numbers largest points is_named omissions given → text ≡ suite_words m (map (λ row. row.cells) file) is_named omissions given
words_are m file numbers largest points counts count is_named omissions given text numbered found pointed counted many is =
    let rows : List (List (Option ℕ)) = map (λ (row : FileRow). row.cells) file in
    is
    ∙ ap (λ n. words_of m n largest points is_named omissions given) numbered
    ∙ ap (λ set. words_of m (numbers_of m rows) set points is_named omissions given) found
    ∙ ap (λ all. words_of m (numbers_of m rows) (largest_of m rows) all is_named omissions given)
    (pointed ∙ ap (map (point_of m rows)) (counted ∙ ap round_counts (many ∙ sym (length-map file (λ (row : FileRow). row.cells)))))

-- a text and a verdict
abbrev pub shown_with : List ℕ → Bool → Shown
shown_with text accepted = record { text = text; accepted = accepted }

-- the words on the first tests, where there are tests and something is demanded
pub curve_is : (n : SuiteNumbers) (points : List CurvePoint) → 0 < n.tests → 0 < n.demanded
    → curve_words n points ≡ codes "Covered after\n" ++ flat_map (point_words n.demanded) points
curve_is n points some more =
    ap (λ b. cond (b || (n.demanded == 0)) [] told) (ne_eqb n.tests 0 (λ none. omega (arith, none, some)))
    ∙ ap (λ b. cond b [] told) (ne_eqb n.demanded 0 (λ none. omega (arith, none, more)))
  where
    told : List ℕ
    told = codes "Covered after\n" ++ flat_map (point_words n.demanded) points
