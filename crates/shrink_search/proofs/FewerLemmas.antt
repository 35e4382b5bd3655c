-- Fewer rows, one after another.
use Rattle.std.proofs.Common.{◌≡◌, ℕ, ◌+◌, ◌<◌, List, [], ◌∷◌, ◌++◌, length, Option, All, ◌∙◌, sym, ap, arith, length-append}
use Rattle.std.proofs.lemmas.List.Elements.{All-get_or, All-push, All-weaker}
use Rattle.std.proofs.lemmas.List.Quantifiers.{all_pairs_push}
use Rattle.cov_model.specs.believed.Sound.{ModelView}
use Rattle.cov_model.specs.Fits.{FitsModel}
use Rattle.shrink_search.specs.Fewer.{AreFewerBefore}

pub before_skip : (m : ModelView) (given : List (List (Option ℕ))) (count : ℕ) (numbers : List ℕ) (rows : List (List (Option ℕ)))
    → AreFewerBefore m given count numbers rows → AreFewerBefore m given (count + 1) numbers rows
before_skip m given count numbers rows before = record {
  are = before.are;
  below = All-weaker (λ number. number < count) (λ number. number < count + 1) (λ number below. omega arith) numbers before.below;
}

pub before_more : (m : ModelView) (given : List (List (Option ℕ))) (count : ℕ) (numbers : List ℕ) (rows : List (List (Option ℕ))) (row : List (Option ℕ))
    → AreFewerBefore m given count numbers rows → count < length given → FitsModel m row
    → AreFewerBefore m given (count + 1) (numbers ++ count ∷ []) (rows ++ row ∷ [])
before_more m given count numbers rows row before within fits = record {
  are = record {
    as_many = length-append numbers (count ∷ []) ∙ ap (λ n. n + 1) before.are.as_many ∙ sym (length-append rows (row ∷ []));
    exist = All-push (λ number. number < length given) numbers count before.are.exist within;
    rising = all_pairs_push (λ a b. a < b) numbers count before.are.rising (λ k d inside. All-get_or (λ number. number < count) numbers k d inside before.below);
    fit = All-push (FitsModel m) rows row before.are.fit fits;
  };
  below = All-push (λ number. number < count + 1) numbers count (before_skip m given count numbers rows before).below (omega arith);
}

-- rows that fit are as long as each other
pub fit_long : (m : ModelView) (rows : List (List (Option ℕ))) (row : List (Option ℕ)) → All (FitsModel m) rows → FitsModel m row
    → All (λ other. length other ≡ length row) rows
fit_long m rows row fit fits = All-weaker (FitsModel m) (λ other. length other ≡ length row) (λ other own. own.as_long ∙ sym fits.as_long) rows fit
