-- The picture of a suite: covered combinations by number of tests.
use Rattle.std.specs.Prelude.{ℕ, Bool, ◌+◌, ◌-◌, ◌*◌, ◌/◌, List, [], ◌∷◌, ◌++◌, ◌==◌, min, if◌then◌else◌, codes, decimal}
use Rattle.std.specs.List.{flat_map}
use Rattle.html_page.specs.believed.Pieces.{Attribute}
use Rattle.html_page.specs.believed.Trees.{Content, nothing, text, element, title, followed_by}
use Rattle.html_page.specs.declared.attribute.AttributeName.{AttributeName}
use Rattle.html_page.specs.declared.attribute.AttributeName.TheVariants as attribute
use Rattle.html_page.specs.declared.tag.Tag.TheVariants as tag
use Rattle.suite_page.specs.believed.Sections.{words_for}
use Rattle.suite_page.specs.declared.picture.Point.{Point}

-- The curve; how many tests there are, how many combinations they cover, and how many can be covered. Where that isn't
-- known, it is how many are demanded.
pub record Picture : Type 0 where
  pub points : List Point
  pub tests : ℕ
  pub covered : ℕ
  pub total : ℕ
  pub is_known : Bool

abbrev pub given : AttributeName → List ℕ → Attribute
given name value = record { name = name; value = value }

-- how much of a length a part is of a whole, rounded down
abbrev pub share : ℕ → ℕ → ℕ → ℕ
share part whole size = if whole == 0 then 0 else min part whole * size / whole

-- The place of a point. The axes cross at (50, 1900); all tests stand at 3250, all that can be covered at 300.
abbrev pub across : ℕ → ℕ → ℕ
across tests all = 50 + 2 * share tests all 1600

abbrev pub down : ℕ → ℕ → ℕ
down covered total = 1900 - share covered total 1600

abbrev pub place_text : ℕ → ℕ → List ℕ
place_text x y = codes " " ++ decimal x ++ codes "," ++ decimal y

abbrev pub points_text : Picture → List ℕ
points_text picture = flat_map (λ point. place_text (across point.tests picture.tests) (down point.covered picture.total)) picture.points

-- what the total counts
abbrev pub total_words : Bool → ℕ → List ℕ
total_words is_known total =
    if is_known
    then words_for total (codes " combination that can be covered.") (codes " combinations that can be covered.")
    else words_for total (codes " demanded combination.") (codes " demanded combinations.")

abbrev pub caption : Bool → List ℕ
caption is_known =
    if is_known
    then codes "The curve shows what the first tests cover, the dashed line all that can be covered."
    else codes "The curve shows what the first tests cover, the dashed line all that is demanded."

-- `60 tests cover 9 of 10 combinations that can be covered.`
abbrev pub description : Picture → Content
description picture =
    title (given attribute.Id (codes "picture-title") ∷ []) (codes "Covered combinations by number of tests")
    (element tag.Desc (given attribute.Id (codes "picture-text") ∷ [])
    (text (decimal picture.tests) (text (words_for picture.tests (codes " test covers ") (codes " tests cover "))
    (text (decimal picture.covered) (text (codes " of ") (text (decimal picture.total)
    (text (total_words picture.is_known picture.total) nothing))))))
    nothing)

-- the axes, and the line of all that can be covered; a curve through points
abbrev pub axes : Content
axes =
    element tag.Path (given attribute.Class (codes "axis") ∷ given attribute.D (codes "M50 300V1900H3250") ∷ []) nothing
    (element tag.Path (given attribute.Class (codes "total") ∷ given attribute.D (codes "M50 300H3250") ∷ []) nothing nothing)

abbrev pub curve_tree : List ℕ → Content
curve_tree points = element tag.Polyline (given attribute.Points points ∷ []) nothing nothing

-- two texts at a place
abbrev pub label_tree : List ℕ → List ℕ → List ℕ → List ℕ → List ℕ → Content
label_tree x y anchor one two =
    element tag.Text (given attribute.X x ∷ given attribute.Y y ∷ given attribute.TextAnchor anchor ∷ []) (text one (text two nothing)) nothing

-- `all: 10`, `60 tests`
abbrev pub total_label : ℕ → Content
total_label total = label_tree (codes "3250") (codes "200") (codes "end") (codes "all: ") (decimal total)

abbrev pub tests_label : ℕ → Content
tests_label tests =
    label_tree (codes "3250") (codes "2100") (codes "end") (decimal tests) (words_for tests (codes " test") (codes " tests"))

-- `covered combinations` and `all: 10` above, `0` and `60 tests` below
abbrev pub labels : Picture → Content
labels picture =
    followed_by (label_tree (codes "50") (codes "200") (codes "start") (codes "covered combinations") [])
    (followed_by (total_label picture.total)
    (followed_by (label_tree (codes "50") (codes "2100") (codes "start") (codes "0") []) (tests_label picture.tests)))

abbrev pub drawing : Picture → Content
drawing picture =
    followed_by (description picture) (followed_by axes (followed_by (curve_tree (points_text picture)) (labels picture)))

abbrev pub picture_tree : Picture → Content
picture_tree picture =
    element tag.Section [] (
    element tag.H2 [] (text (codes "Coverage") nothing)
    (element tag.Figure [] (
    element tag.Svg (
    given attribute.ViewBox (codes "0 0 3300 2150") ∷ given attribute.Role (codes "img")
    ∷ given attribute.AriaLabelledBy (codes "picture-title picture-text") ∷ []
    ) (drawing picture)
    (element tag.Figcaption []
    (text (caption picture.is_known) nothing)
    nothing)
    ) nothing)
    ) nothing
