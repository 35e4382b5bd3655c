-- How many follow, where some do and where none does; and a sentence that says nothing.
use Rattle.std.proofs.Common.{◌≡◌, ◌≢◌, ℕ, zero, suc, List, [], ◌∷◌, ◌++◌, ◌∙◌, length, refl, sym, ap, append-nil, codes, arith}
use Rattle.std.specs.Prelude.{decimal}
use Rattle.html_page.specs.believed.Pieces.{Start, End, Text, pieces_text}
use Rattle.html_page.specs.Trees.{content_text}
use Rattle.html_page.specs.declared.tag.Tag.TheVariants as tag
use Rattle.html_page.proofs.TreeTexts.{behind, no_pieces}
use Rattle.suite_page.specs.believed.Sections.{more_tree, words_for}
use Rattle.suite_page.specs.believed.Verdicts.{sentence_tree}

pub more_none : (count : ℕ) (one several before : List ℕ) → count ≡ 0 → before ≡ before ++ content_text (more_tree count one several)
more_none zero one several before none = sym (ap (λ bytes. before ++ bytes) no_pieces ∙ append-nil before)
more_none (suc n) one several before none =
    let no : ⊥ = omega (arith, none) in
    absurd no

pub more_some : (count : ℕ) (one several words before first second now : List ℕ) → count ≢ 0 → words ≡ words_for count one several
    → first ≡ before ++ pieces_text (Start tag.P [] ∷ Text (codes "And ") ∷ [])
    → second ≡ first ++ pieces_text (Text (decimal count) ∷ Text words ∷ [])
    → now ≡ second ++ pieces_text (End tag.P ∷ [])
    → now ≡ before ++ content_text (more_tree count one several)
more_some zero one several words before first second now some are begins goes_on ends = absurd (some refl)
more_some (suc n) one several words before first second now some are begins goes_on ends =
    let said = words_for (suc n) one several in
    behind (Start tag.P [] ∷ Text (codes "And ") ∷ Text (decimal (suc n)) ∷ Text said ∷ []) (End tag.P ∷ []) before second now
    (behind (Start tag.P [] ∷ Text (codes "And ") ∷ []) (Text (decimal (suc n)) ∷ Text said ∷ []) before first second begins
    (goes_on ∙ ap (λ w. first ++ pieces_text (Text (decimal (suc n)) ∷ Text w ∷ [])) are))
    ends

pub nothing_said : (sentence before : List ℕ) → length sentence ≡ 0 → before ≡ before ++ content_text (sentence_tree sentence)
nothing_said [] before none = sym (ap (λ bytes. before ++ bytes) no_pieces ∙ append-nil before)
nothing_said (first ∷ rest) before none =
    let never : ⊥ = omega (arith, none) in
    absurd never
