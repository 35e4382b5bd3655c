-- A section's beginning, and how many follow what is shown.
use Rattle.std.specs.Prelude.{ℕ, zero, suc, List, [], ◌==◌, if◌then◌else◌, codes, decimal}
use Rattle.html_page.specs.believed.Trees.{Content, nothing, text, element}
use Rattle.html_page.specs.declared.tag.Tag.TheVariants as tag

-- the words behind a number
abbrev pub words_for : ℕ → List ℕ → List ℕ → List ℕ
words_for count one several = if count == 1 then one else several

-- `And 3 more tests.`, with these words, where there are more
abbrev pub more_tree : ℕ → List ℕ → List ℕ → Content
more_tree zero one several = nothing
more_tree (suc n) one several =
    element tag.P [] (text (codes "And ") (text (decimal (suc n)) (text (words_for (suc n) one several) nothing))) nothing
