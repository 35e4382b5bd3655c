-- The rows that repeat no earlier one, one after another.
use Rattle.std.proofs.Common.{◌≡◌, ℕ, ◌+◌, ◌<◌, ◌≤◌, true, false, cond, List, [], ◌∷◌, ◌++◌, take, length, get_or, All, Option, ◌∙◌, sym, ap, subst}
use Rattle.std.specs.Prelude.{AllPairs}
use Rattle.std.proofs.lemmas.Bool.{false≢true, false_from_ne_true}
use Rattle.std.proofs.lemmas.List.{take_all, take_more}
use Rattle.std.proofs.lemmas.List.Quantifiers.{all_pairs_push}
use Rattle.std.proofs.lemmas.Option.{slice_get-get_or}
use Rattle.cov_model.specs.Fits.{FitsModel}
use Rattle.cov_model.specs.believed.Sound.{ModelView}
use Rattle.definitions.specs.believed.Seeds.{distinct, is_same_row}
use Rattle.definitions.proofs.Members.{any_member, has_place}
use Rattle.distinct_rows.specs.Known.{is_known_row, with_row}
use Rattle.definitions.proofs.SameRows.{distinct_by-push}
use Rattle.shrink_search.proofs.FewerLemmas.{before_more, before_skip, fit_long}
use Rattle.suite_shrink.specs.FirstRows.{AreFirst}

module _ (m : ModelView) (given : List (List (Option ℕ))) (count : ℕ) (known after : List (List (Option ℕ))) (numbers : List ℕ)
    (rows : List (List (Option ℕ))) (first : AreFirst m given count known numbers rows) (within : count < length given)
    (is : after ≡ with_row known (get_or given count [])) where
  abbrev row : List (Option ℕ)
  row = get_or given count []

  after_is : after ≡ distinct (take (count + 1) given)
  after_is =
      is ∙ ap (λ rs. with_row rs row) (first.are_known ∙ first.are_distinct)
      ∙ sym (ap distinct (take_more given count [] within) ∙ distinct_by-push (λ r. r) (take count given) row)

  -- one that repeats an earlier one
  pub first_known : is_known_row known row ≡ true → AreFirst m given (count + 1) after numbers rows
  first_known repeats =
      let same : after ≡ known = is ∙ ap (λ b. cond b known (known ++ row ∷ [])) repeats in
      record {
        before = before_skip m given count numbers rows first.before;
        are_known = same ∙ first.are_known;
        are_distinct = sym first.are_known ∙ sym same ∙ after_is;
      }

  -- one that doesn't
  pub first_new : All (FitsModel m) given → is_known_row known row ≡ false → AreFirst m given (count + 1) after (numbers ++ count ∷ []) (rows ++ row ∷ [])
  first_new fits differs =
      let more : after ≡ rows ++ row ∷ [] = is ∙ ap (λ b. cond b known (known ++ row ∷ [])) differs ∙ ap (λ rs. rs ++ row ∷ []) first.are_known in
      record {
        before = before_more m given count numbers rows row first.before within (fits count [] within);
        are_known = more;
        are_distinct = sym more ∙ after_is;
      }

-- the known rows are as long as a given one
pub known_long : (m : ModelView) (given : List (List (Option ℕ))) (count : ℕ) (known : List (List (Option ℕ))) (numbers : List ℕ)
    (rows : List (List (Option ℕ))) (row : List (Option ℕ))
    → AreFirst m given count known numbers rows → FitsModel m row → All (λ other. length other ≡ length row) known
known_long m given count known numbers rows row first fits =
    subst (All (λ other. length other ≡ length row)) (sym first.are_known) (fit_long m rows row first.before.are.fit fits)

pub first_all : (m : ModelView) (given : List (List (Option ℕ))) (count : ℕ) (known : List (List (Option ℕ))) (numbers : List ℕ)
    (rows : List (List (Option ℕ)))
    → AreFirst m given count known numbers rows → length given ≤ count → rows ≡ distinct given
first_all m given count known numbers rows first past = first.are_distinct ∙ ap distinct (take_all count given past)

-- one more row, which is the same as none before it
pub apart_more : (rows known after : List (List (Option ℕ))) (i : ℕ) → i < length rows → known ≡ take i rows
    → AllPairs (λ a b. is_same_row a b ≡ false) (take i rows) → after ≡ with_row known (get_or rows i []) → is_known_row known (get_or rows i []) ≡ false
    → (after ≡ take (i + 1) rows) × AllPairs (λ a b. is_same_row a b ≡ false) (take (i + 1) rows)
apart_more rows known after i within are apart is differs =
    let row = get_or rows i [] in
    let more = sym (take_more rows i [] within) in (
      is ∙ ap (λ b. cond b known (known ++ row ∷ [])) differs ∙ ap (λ rs. rs ++ row ∷ []) are ∙ more,
      subst (AllPairs (λ a b. is_same_row a b ≡ false)) more
          (all_pairs_push (λ a b. is_same_row a b ≡ false) (take i rows) row apart (λ k d inside.
          none_same (take i rows) row k d inside (ap (λ rs. is_known_row rs row) (sym are) ∙ differs))),
    )
  where
    none_same : (rows : List (List (Option ℕ))) (row : List (Option ℕ)) (k : ℕ) (d : List (Option ℕ)) → k < length rows → is_known_row rows row ≡ false
        → is_same_row (get_or rows k d) row ≡ false
    none_same rows row k d inside none =
        let other = get_or rows k d in
        false_from_ne_true (is_same_row other row) (λ same.
        false≢true (sym none ∙ any_member (λ known. is_same_row known row) rows other (has_place rows k other (slice_get-get_or rows k d inside)) same))
