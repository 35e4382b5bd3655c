-- The combinations that are left out, in groups that the same constraints leave out.
use Rattle.std.specs.Prelude.{ℕ, Bool, List, [], ◌∷◌, length, map, take, bytes_eq, slice_index_or, codes, decimal, if◌then◌else◌}
use Rattle.std.specs.List.{filter, flat_map, list_any, range_with_len}
use Rattle.html_page.specs.believed.Pieces.{Attribute}
use Rattle.html_page.specs.believed.Trees.{Content, nothing, text, element, all_of, followed_by}
use Rattle.html_page.specs.declared.attribute.AttributeName.TheVariants as attribute
use Rattle.html_page.specs.declared.tag.Tag.TheVariants as tag
use Rattle.suite_page.specs.believed.Sections.{more_tree}

-- a combination that is left out, in words; the numbers of what leaves it out, and the texts of these
pub record Omission : Type 0 where
  pub combination : List ℕ
  pub causes : List ℕ
  pub reasons : List (List ℕ)

-- the texts of its constraints, how many combinations it has, and those that are shown, in words
pub record Group : Type 0 where
  pub constraints : List (List ℕ)
  pub count : ℕ
  pub combinations : List (List ℕ)

-- whether just these leave a combination out
abbrev pub is_by : List ℕ → Omission → Bool
is_by causes omission = bytes_eq omission.causes causes

-- those that are left out by these, which have these texts
abbrev pub group_of : List Omission → List ℕ → List (List ℕ) → Group
group_of all causes reasons =
    let combinations = map (λ one. one.combination) (filter (is_by causes) all) in
    record { constraints = reasons; count = length combinations; combinations = combinations }

abbrev pub no_omission : Omission
no_omission = record { combination = []; causes = []; reasons = [] }

abbrev pub omission_at : List Omission → ℕ → Omission
omission_at all at = slice_index_or all at no_omission

-- a group stands where the first of its combinations does
abbrev pub group_at : List Omission → ℕ → List Group
group_at all at =
    let here = omission_at all at in
    if list_any (is_by here.causes) (take at all) then [] else group_of all here.causes here.reasons ∷ []

abbrev pub groups_of : List Omission → List Group
groups_of all = flat_map (group_at all) (range_with_len 0 (length all))

abbrev pub item_tree : List ℕ → Content
item_tree item = element tag.Li [] (text item nothing) nothing

abbrev pub opened : List Attribute
opened = record { name = attribute.Open; value = [] } ∷ []

abbrev pub of_constraints : List Attribute
of_constraints = record { name = attribute.Class; value = codes "constraints" } ∷ []

abbrev pub group_tree : Group → Content
group_tree group =
    element tag.Details opened (
    element tag.Summary [] (text (codes "Combinations left out: ") (text (decimal group.count) nothing))
    (element tag.Ul of_constraints (all_of item_tree group.constraints) (element tag.Ul [] (all_of item_tree group.combinations) nothing))
    ) nothing

abbrev pub more_combinations : ℕ → Content
more_combinations more = more_tree more (codes " more combination.") (codes " more combinations.")

-- the section, some of whose combinations are shown
abbrev pub left_out_tree : List Group → ℕ → Content
left_out_tree groups more =
    element tag.Section [] (
    element tag.H2 [] (text (codes "Left out") nothing) (followed_by (all_of group_tree groups) (more_combinations more))
    ) nothing
