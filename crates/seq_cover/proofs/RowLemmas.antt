-- A row, event by event.
use Rattle.std.proofs.Common.{◌≡◌, ℕ, zero, suc, ◌+◌, ◌-◌, ◌<◌, Bool, true, false, ◌||◌, not, cond, List, [], ◌∷◌, ◌++◌}
use Rattle.std.proofs.Common.{filter, nat_lt, Option, Some, None, IfSome, is_some, fold, refl, sym, ap, ◌∙◌, arith, zero-add}
use Rattle.std.specs.List.{range_with_len}
use Rattle.std.proofs.lemmas.List.{append-nil}
use Rattle.std.proofs.lemmas.List.Elements.{filter-append}
use Rattle.std.proofs.lemmas.List.Sums.{fold_push}
use Rattle.value_text.proofs.ListLemmas.{range_with_len_more}
use Rattle.seq_cover.specs.believed.OrderGrowth.{better, built_from, next_placed, with_next}

module _ (p : ℕ → Bool) (n : ℕ) where
  filtered : filter p (range_with_len 0 (n + 1)) ≡ filter p (range_with_len 0 n) ++ cond (p n) (n ∷ []) []
  filtered =
      ap (filter p) (range_with_len_more 0 n ∙ ap (λ k. range_with_len 0 n ++ k ∷ []) (zero-add n)) ∙ filter-append p (range_with_len 0 n) (n ∷ [])

  pub filter_skips : p n ≡ false → filter p (range_with_len 0 (n + 1)) ≡ filter p (range_with_len 0 n)
  filter_skips fails = filtered ∙ ap (λ b. filter p (range_with_len 0 n) ++ cond b (n ∷ []) []) fails ∙ append-nil (filter p (range_with_len 0 n))

  pub filter_takes : p n ≡ true → filter p (range_with_len 0 (n + 1)) ≡ filter p (range_with_len 0 n) ++ n ∷ []
  filter_takes passes = filtered ∙ ap (λ b. filter p (range_with_len 0 n) ++ cond b (n ∷ []) []) passes

module _ (gains : ℕ → ℕ) (p : ℕ → Bool) (event : ℕ) (best : Option ℕ) (most gained : ℕ) (is : best ≡ fold (better gains) None (filter p (range_with_len 0 event))) where
  pub best_skips : p event ≡ false → best ≡ fold (better gains) None (filter p (range_with_len 0 (event + 1)))
  best_skips fails = is ∙ ap (fold (better gains) None) (sym (filter_skips p event fails))

  one_more : p event ≡ true → fold (better gains) None (filter p (range_with_len 0 (event + 1))) ≡ better gains best event
  one_more passes =
      ap (fold (better gains) None) (filter_takes p event passes) ∙ fold_push (better gains) None (filter p (range_with_len 0 event)) event
      ∙ ap (λ b. better gains b event) (sym is)

stays : (gains : ℕ → ℕ) (event most gained : ℕ) (best : Option ℕ) → IfSome best (λ b. most ≡ gains b)
    → gained ≡ gains event → (not (is_some best) || nat_lt most gained) ≡ false → better gains best event ≡ best
stays gains event most gained None kept is worse = cc
stays gains event most gained (Some b) kept is worse =
    ap (λ t. cond t (Some event) (Some b)) (ap (λ m. nat_lt m (gains event)) (sym kept) ∙ ap (nat_lt most) (sym is) ∙ worse)

changes : (gains : ℕ → ℕ) (event most gained : ℕ) (best : Option ℕ) → IfSome best (λ b. most ≡ gains b)
    → gained ≡ gains event → (not (is_some best) || nat_lt most gained) ≡ true → better gains best event ≡ Some event
changes gains event most gained None kept is more = refl
changes gains event most gained (Some b) kept is more =
    ap (λ t. cond t (Some event) (Some b)) (ap (λ m. nat_lt m (gains event)) (sym kept) ∙ ap (nat_lt most) (sym is) ∙ more)

pub best_stays : (gains : ℕ → ℕ) (p : ℕ → Bool) (event : ℕ) (best : Option ℕ) (most gained : ℕ)
    → best ≡ fold (better gains) None (filter p (range_with_len 0 event)) → p event ≡ true
    → IfSome best (λ b. most ≡ gains b) → gained ≡ gains event → (not (is_some best) || nat_lt most gained) ≡ false
    → best ≡ fold (better gains) None (filter p (range_with_len 0 (event + 1)))
best_stays gains p event best most gained is passes kept gains_is worse = sym (one_more gains p event best most gained is passes ∙ stays gains event most gained best kept gains_is worse)

pub best_changes : (gains : ℕ → ℕ) (p : ℕ → Bool) (event : ℕ) (best : Option ℕ) (most gained : ℕ)
    → best ≡ fold (better gains) None (filter p (range_with_len 0 event)) → p event ≡ true
    → IfSome best (λ b. most ≡ gains b) → gained ≡ gains event → (not (is_some best) || nat_lt most gained) ≡ true
    → Some event ≡ fold (better gains) None (filter p (range_with_len 0 (event + 1)))
best_changes gains p event best most gained is passes kept gains_is more = sym (one_more gains p event best most gained is passes ∙ changes gains event most gained best kept gains_is more)

pub build_step : (n len : ℕ) (pairs : List (ℕ × ℕ)) (rows : List (List ℕ)) (k : ℕ) (row : List ℕ) → 0 < k
    → built_from n len pairs rows k row ≡ with_next (next_placed n len pairs rows row) row (built_from n len pairs rows (k - 1))
build_step n len pairs rows zero row some = absurd (omega arith)
build_step n len pairs rows (suc k) row some = let same : suc k - 1 ≡ k = omega arith in rw same refl
