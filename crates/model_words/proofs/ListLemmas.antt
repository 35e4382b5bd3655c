-- Lists of the code's tokens and omissions, by what they mean.
use Rattle.std.proofs.Common.{◌≡◌, ℕ, suc, Bool, true, false, ◌||◌, List, [], ◌∷◌, ◌++◌, ◌-◌, Bor, map, length, refl, ap, sym, ◌∙◌}
use Rattle.std.specs.Prelude.{cond, filter, codes, ◌==◌, Option, option_copied, option_map, slice_get}
use Rattle.std.specs.List.{flat_map, list_any}
use Rattle.std.proofs.lemmas.Bool.{false≢true}
use Rattle.std.proofs.lemmas.Option.{slice_get-map}
use Rattle.cov_model.specs.believed.Sound.{ModelView}
use Rattle.refutation.specs.Proofs.{meant, omission_meant}
use Rattle.refutation.specs.declared.omissions.Omission.{Omission}
use Rattle.refutation.specs.declared.token.TreeToken.{TreeToken}
use Rattle.model_words.specs.believed.Explanations as defined
use Rattle.model_words.specs.believed.Explanations.{cited_line, explained, is_by_invalid, is_case, left_out_words, omission_lines, omission_of, rule_of, with_numbers}

module _ {X Y : Type 0} (f : X → Y) where
  any_map : (test : Y → Bool) (xs : List X) → list_any test (map f xs) ≡ list_any (λ x. test (f x)) xs
  any_map test [] = refl
  any_map test (x ∷ xs) = ap (λ rest. test (f x) || rest) (any_map test xs)

  flat_map_map : {Z : Type 0} (g : Y → List Z) (xs : List X) → flat_map g (map f xs) ≡ flat_map (λ x. g (f x)) xs
  flat_map_map g [] = refl
  flat_map_map g (x ∷ xs) = ap (λ rest. g (f x) ++ rest) (flat_map_map g xs)

  one_more : (passes : Bool) (y : Y) (x : X) (ys : List Y) (xs : List X) → length ys ≡ length xs → length (cond passes (y ∷ ys) ys) ≡ length (cond passes (x ∷ xs) xs)
  one_more true y x ys xs same = ap suc same
  one_more false y x ys xs same = same

  count_map : (test : Y → Bool) (xs : List X) → length (filter test (map f xs)) ≡ length (filter (λ x. test (f x)) xs)
  count_map test [] = refl
  count_map test (x ∷ xs) = one_more (test (f x)) (f x) x (filter test (map f xs)) (filter (λ y. test (f y)) xs) (count_map test xs)

abbrev made : ℕ → List ℕ → Bool → List ℕ → defined.Explanation
made cases rules by_invalid cited = record { cases = cases; rules = rules; by_invalid = by_invalid; cited = cited }

-- what the leaves of a tree say
pub explained_is : (tree : List TreeToken) (cases : ℕ) (rules : List ℕ) (by_invalid : Bool) (cited : List ℕ)
    → cases ≡ length (filter (λ token. is_case (meant token)) tree) → rules ≡ with_numbers [] (flat_map rule_of (map meant tree))
    → by_invalid ≡ list_any (λ token. is_by_invalid (meant token)) tree → cited ≡ with_numbers [] (flat_map omission_of (map meant tree))
    → made cases rules by_invalid cited ≡ explained (map meant tree)
explained_is tree cases rules by_invalid cited counted ruled invalid cites =
    let tokens = map meant tree in
    let numbers = with_numbers [] (flat_map rule_of tokens) in
    ap (λ n. made n rules by_invalid cited) (counted ∙ sym (count_map meant is_case tree))
    ∙ ap (λ found. made (length (filter is_case tokens)) found by_invalid cited) ruled
    ∙ ap (λ is. made (length (filter is_case tokens)) numbers is cited) (invalid ∙ sym (any_map meant is_by_invalid tree))
    ∙ ap (made (length (filter is_case tokens)) numbers (list_any is_by_invalid tokens)) cites

-- the words on omissions, where there is one
pub left_out_is : (m : ModelView) (omissions : List Omission) → (length omissions == 0) ≡ false
    → left_out_words m (map omission_meant omissions)
    ≡ codes "Left out\n" ++ flat_map (λ omission. omission_lines m (map omission_meant omissions) (omission_meant omission)) omissions
left_out_is m [] some = absurd (false≢true (sym some))
left_out_is m (omission ∷ omissions) some =
    ap (λ lines. codes "Left out\n" ++ lines) (flat_map_map omission_meant (omission_lines m (map omission_meant (omission ∷ omissions))) (omission ∷ omissions))

-- the line of an omission that is cited, or of none
pub cited_found : (m : ModelView) (omissions : List Omission) (i number : ℕ) (got : Option (Bor Omission)) (found : Option Omission)
    → option_copied got ≡ slice_get omissions i → i ≡ number - 1 → option_copied got ≡ found
    → cited_line m (slice_get (map omission_meant omissions) (number - 1)) ≡ cited_line m (option_map omission_meant found)
cited_found m omissions i number got found read place is =
    ap (cited_line m) (slice_get-map omission_meant omissions (number - 1)
    ∙ ap (option_map omission_meant) (ap (slice_get omissions) (sym place) ∙ sym read ∙ is))
