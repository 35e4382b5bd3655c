-- The head of a page: the model file's name, the verdict, and the numbers of the suite.
use Rattle.std.specs.Prelude.{ℕ, Bool, List, [], ◌∷◌, if◌then◌else◌, codes}
use Rattle.html_page.specs.believed.Trees.{Content, nothing, text, element, all_of, followed_by}
use Rattle.html_page.specs.declared.attribute.AttributeName.TheVariants as attribute
use Rattle.html_page.specs.declared.tag.Tag.TheVariants as tag

abbrev pub verdict_class : Bool → List ℕ
verdict_class accepted = if accepted then codes "verdict accepted" else codes "verdict refused"

abbrev pub heading_tree : List ℕ → Content
heading_tree name = element tag.H1 [] (text name nothing) nothing

-- the verdict, and a remark on it
abbrev pub reason_tree : Bool → List ℕ → List ℕ → Content
reason_tree accepted verdict remark =
    element tag.P (record { name = attribute.Class; value = verdict_class accepted } ∷ []) (
    element tag.Strong [] (text verdict nothing) (text (codes " ") (text remark nothing))
    ) nothing

abbrev pub verdict_tree : List ℕ → Bool → List ℕ → List ℕ → Content
verdict_tree name accepted verdict remark =
    element tag.Header [] (followed_by (heading_tree name) (reason_tree accepted verdict remark)) nothing

-- a paragraph, where there is something to say
abbrev pub sentence_tree : List ℕ → Content
sentence_tree [] = nothing
sentence_tree (first ∷ rest) = element tag.P [] (text (first ∷ rest) nothing) nothing

abbrev pub numbers_tree : List (List ℕ) → Content
numbers_tree sentences =
    element tag.Section [] (element tag.H2 [] (text (codes "Numbers") nothing) (all_of sentence_tree sentences)) nothing
