-- Combinations that are left out, group by group as they are written.
use Rattle.std.proofs.Common.{◌≡◌, ℕ, ◌+◌, ◌<◌, Bool, true, false, cond, List, [], ◌∷◌, ◌++◌, length, get_or, map, take, sym, ap, ap₂, ◌∙◌, append-nil, arith, zero-add}
use Rattle.std.proofs.lemmas.Grind.{flat_map-append}
use Rattle.std.proofs.lemmas.List.{get_or-map, length-map, take-map}
use Rattle.std.proofs.lemmas.List.Folds.{flat_map-map}
use Rattle.std.specs.List.{filter, flat_map, list_any, range_with_len}
use Rattle.value_text.proofs.ListLemmas.{list_any-map, range_with_len_more, filter-map}
use Rattle.html_page.specs.believed.Pieces.{pieces_text}
use Rattle.html_page.specs.Trees.{content_text}
use Rattle.html_page.proofs.TreeTexts.{no_pieces}
use Rattle.suite_page.specs.believed.Document.{left_out}
use Rattle.suite_page.specs.Laws.{group_parts}
use Rattle.suite_page.specs.believed.LeftOut as defined
use Rattle.suite_page.specs.believed.LeftOut.{Group, group_at, group_of, groups_of, is_by, item_tree, no_omission, omission_at}
use Rattle.suite_page.specs.LeftOut.{group_closing, group_opening, left_out_closing, left_out_opening}
use Rattle.suite_page.specs.Seen.{combination_text, omission_seen}
use Rattle.suite_page.specs.declared.left_out.Omission.{Omission}
use Rattle.suite_page.proofs.Wholes.{left_out_whole, three}

-- ---- the combinations of a group

alike_text : (causes : List ℕ) (all : List Omission)
    → flat_map (λ item. content_text (item_tree item)) (map (λ (one : defined.Omission). one.combination) (filter (is_by causes) (map omission_seen all)))
    ≡ flat_map combination_text (filter (λ one. is_by causes (omission_seen one)) all)
alike_text causes all =
    let those = filter (λ one. is_by causes (omission_seen one)) all in
    ap (λ list. flat_map (λ item. content_text (item_tree item)) (map (λ (one : defined.Omission). one.combination) list)) (filter-map (is_by causes) omission_seen all)
    ∙ flat_map-map (λ item. content_text (item_tree item)) (λ (one : defined.Omission). one.combination) (map omission_seen those)
    ∙ flat_map-map (λ (one : defined.Omission). content_text (item_tree one.combination)) omission_seen those

alike_count : (causes : List ℕ) (all : List Omission)
    → length (map (λ (one : defined.Omission). one.combination) (filter (is_by causes) (map omission_seen all)))
    ≡ length (filter (λ one. is_by causes (omission_seen one)) all)
alike_count causes all =
    let those = filter (λ one. is_by causes (omission_seen one)) all in
    length-map (filter (is_by causes) (map omission_seen all)) (λ (one : defined.Omission). one.combination)
    ∙ ap length (filter-map (is_by causes) omission_seen all) ∙ length-map those omission_seen

-- ---- a group

pub group_written : (all : List Omission) (causes : List ℕ) (reasons : List (List ℕ)) (count : ℕ) (before one two now : List ℕ)
    → count ≡ length (filter (λ other. is_by causes (omission_seen other)) all) → one ≡ before ++ pieces_text (group_opening reasons count)
    → two ≡ one ++ flat_map combination_text (filter (λ other. is_by causes (omission_seen other)) all) → now ≡ two ++ pieces_text group_closing
    → now ≡ before ++ group_parts (group_of (map omission_seen all) causes reasons)
group_written all causes reasons count before one two now counted begins goes_on ends =
    let group = group_of (map omission_seen all) causes reasons in
    three before (pieces_text (group_opening reasons group.count)) (flat_map (λ item. content_text (item_tree item)) group.combinations) (pieces_text group_closing) one two now
    (begins ∙ ap (λ n. before ++ pieces_text (group_opening reasons n)) (counted ∙ sym (alike_count causes all)))
    (goes_on ∙ ap (λ bytes. one ++ bytes) (sym (alike_text causes all))) ends

-- the combination at a place of a list, and whether one before it is left out by the same
module _ (all : List Omission) (at : ℕ) (first : Omission) (inside : at < length all) (is : first ≡ get_or all at first) where
  here : omission_at (map omission_seen all) at ≡ omission_seen first
  here = get_or-map omission_seen all at first no_omission inside ∙ ap omission_seen (sym is)

  known : (causes : List ℕ) (earlier : List Omission) (b : Bool) → causes ≡ first.causes.items → earlier ≡ take at all
      → b ≡ list_any (λ one. is_by causes (omission_seen one)) earlier
      → list_any (is_by (omission_at (map omission_seen all) at).causes) (take at (map omission_seen all)) ≡ b
  known causes earlier b caused before found =
      ap (λ (one : defined.Omission). list_any (is_by one.causes) (take at (map omission_seen all))) here
      ∙ ap (list_any (is_by first.causes.items)) (take-map omission_seen at all)
      ∙ list_any-map (is_by first.causes.items) omission_seen (take at all)
      ∙ ap₂ (λ (cs : List ℕ) (list : List Omission). list_any (λ one. is_by cs (omission_seen one)) list) (sym caused) (sym before)
      ∙ sym found

  pub group_known : (causes : List ℕ) (earlier : List Omission) (b : Bool) (page : List ℕ) → causes ≡ first.causes.items → earlier ≡ take at all
      → b ≡ list_any (λ one. is_by causes (omission_seen one)) earlier → b ≡ true
      → page ≡ page ++ flat_map group_parts (group_at (map omission_seen all) at)
  group_known causes earlier b page caused before found earlier_one =
      let group = group_of (map omission_seen all) (omission_at (map omission_seen all) at).causes (omission_at (map omission_seen all) at).reasons in
      sym (ap (λ c. page ++ flat_map group_parts (cond c [] (group ∷ []))) (known causes earlier b caused before found ∙ earlier_one) ∙ append-nil page)

  pub group_new : (causes : List ℕ) (reasons : List (List ℕ)) (earlier : List Omission) (b : Bool) → causes ≡ first.causes.items
      → reasons ≡ map (λ text. text.items) first.reasons.items → earlier ≡ take at all
      → b ≡ list_any (λ one. is_by causes (omission_seen one)) earlier → b ≡ false
      → group_parts (group_of (map omission_seen all) causes reasons) ≡ flat_map group_parts (group_at (map omission_seen all) at)
  group_new causes reasons earlier b caused told before found first_one =
      let seen = map omission_seen all in
      let group = group_of seen (omission_at seen at).causes (omission_at seen at).reasons in
      ap₂ (λ (cs : List ℕ) (texts : List (List ℕ)). group_parts (group_of seen cs texts)) caused told
      ∙ ap (λ (one : defined.Omission). group_parts (group_of seen one.causes one.reasons)) (sym here)
      ∙ sym (append-nil (group_parts group))
      ∙ ap (λ c. flat_map group_parts (cond c [] (group ∷ []))) (sym (known causes earlier b caused before found ∙ first_one))

-- ---- all groups

pub groups_more : (all : List defined.Omission) (at : ℕ)
    → flat_map group_parts (flat_map (group_at all) (range_with_len 0 (at + 1)))
    ≡ flat_map group_parts (flat_map (group_at all) (range_with_len 0 at)) ++ flat_map group_parts (group_at all at)
groups_more all at =
    ap (λ places. flat_map group_parts (flat_map (group_at all) places)) (range_with_len_more 0 at ∙ ap (λ k. range_with_len 0 at ++ k ∷ []) (zero-add at))
    ∙ ap (flat_map group_parts) (flat_map-append (group_at all) (range_with_len 0 at) (at ∷ []) ∙ ap (λ groups. flat_map (group_at all) (range_with_len 0 at) ++ groups) (append-nil (group_at all at)))
    ∙ flat_map-append group_parts (flat_map (group_at all) (range_with_len 0 at)) (group_at all at)

-- ---- the section

pub none_written : (all : List Omission) (more : ℕ) (before : List ℕ) → length all ≡ 0 → before ≡ before ++ content_text (left_out (groups_of (map omission_seen all)) more)
none_written [] more before none = sym (ap (λ bytes. before ++ bytes) no_pieces ∙ append-nil before)
none_written (one ∷ all) more before none =
    let never : ⊥ = omega (arith, none) in
    absurd never

with_group : (group : Group) (groups : List Group) (more : ℕ) (before one two now : List ℕ) → one ≡ before ++ pieces_text left_out_opening
    → two ≡ one ++ flat_map group_parts (group ∷ groups) → now ≡ two ++ pieces_text (left_out_closing more)
    → now ≡ before ++ content_text (left_out (group ∷ groups) more)
with_group group groups more before one two now begins goes_on ends =
    three before (pieces_text left_out_opening) (flat_map group_parts (group ∷ groups)) (pieces_text (left_out_closing more)) one two now begins goes_on ends
    ∙ ap (λ bytes. before ++ bytes) (left_out_whole (group ∷ groups) more)

pub section_written : (all : List Omission) (more : ℕ) (before one two now : List ℕ) → 0 < length all → one ≡ before ++ pieces_text left_out_opening
    → two ≡ one ++ flat_map group_parts (groups_of (map omission_seen all)) → now ≡ two ++ pieces_text (left_out_closing more)
    → now ≡ before ++ content_text (left_out (groups_of (map omission_seen all)) more)
section_written [] more before one two now some begins goes_on ends =
    let never : ⊥ = omega (arith, some) in
    absurd never
section_written (first ∷ all) more before one two now some begins goes_on ends =
    let seen = map omission_seen (first ∷ all) in
    with_group (group_of seen first.causes.items (map (λ text. text.items) first.reasons.items)) (flat_map (group_at seen) (range_with_len 1 (length (map omission_seen all))))
    more before one two now begins goes_on ends
