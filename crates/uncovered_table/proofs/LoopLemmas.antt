-- Steps of the loops over members, sets and places.
use Rattle.std.proofs.Common.{◌≡◌, ℕ, ◌+◌, ◌<◌, ◌≤◌, List, ◌∷◌, Option, Some, None, length, drop, get_or, ◌∙◌, sym, ap}
use Rattle.std.proofs.lemmas.List.{drop_more, at_drop_all}
use Rattle.uncovered_table.specs.Lasts.{lower, lowest, with_last}
use Rattle.uncovered_table.proofs.ColumnLemmas.{lowest_step}

-- the later of the last member so far and the next one
pub last_more : (count : ℕ → ℕ) (set : List ℕ) (i p next : ℕ) (last whole : Option ℕ) → i < length set → p ≡ get_or set i 0 → next ≡ lower count last p
    → lowest count (with_last last (drop i set)) ≡ whole → lowest count (with_last (Some next) (drop (i + 1) set)) ≡ whole
last_more count set i p next last whole more member made so_far =
    ap (λ q. lowest count (q ∷ drop (i + 1) set)) made ∙ sym (lowest_step count last p (drop (i + 1) set))
    ∙ sym (ap (λ ps. lowest count (with_last last ps)) (drop_more set i 0 more ∙ ap (λ q. q ∷ drop (i + 1) set) (sym member))) ∙ so_far

pub last_end : (count : ℕ → ℕ) (set : List ℕ) (i : ℕ) (last whole : Option ℕ) → length set ≤ i → lowest count (with_last last (drop i set)) ≡ whole
    → last ≡ whole
last_end count set i None whole past so_far = sym (at_drop_all (λ ps. lowest count (with_last None ps)) set i past) ∙ so_far
last_end count set i (Some q) whole past so_far = sym (at_drop_all (λ ps. lowest count (with_last (Some q) ps)) set i past) ∙ so_far
