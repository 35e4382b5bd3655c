-- Lists of distinct events, one more at a time.
use Rattle.std.proofs.Common.{◌≡◌, ℕ, ◌+◌, true, false, not, cond, List, [], ◌∷◌, ◌++◌, map, filter, ap, ◌∙◌, zero-add}
use Rattle.std.specs.List.{range_with_len}
use Rattle.std.proofs.lemmas.List.{map-append, append-nil}
use Rattle.std.proofs.lemmas.List.Elements.{filter-append}
use Rattle.value_text.proofs.ListLemmas.{range_with_len_more}
use Rattle.seq_check.specs.believed.Orders.{is_among, lengthened}

module _ (n : ℕ) (front : List ℕ) where
  joined : lengthened (n + 1) front ≡ lengthened n front ++ map (λ event. front ++ event ∷ []) (filter (λ event. not (is_among front event)) (n ∷ []))
  joined =
      ap (λ events. map (λ event. front ++ event ∷ []) (filter (λ event. not (is_among front event)) events)) (range_with_len_more 0 n ∙ ap (λ k. range_with_len 0 n ++ k ∷ []) (zero-add n))
      ∙ ap (map (λ event. front ++ event ∷ [])) (filter-append (λ event. not (is_among front event)) (range_with_len 0 n) (n ∷ []))
      ∙ map-append (λ event. front ++ event ∷ []) (filter (λ event. not (is_among front event)) (range_with_len 0 n)) (filter (λ event. not (is_among front event)) (n ∷ []))

  pub lengthened_skips : is_among front n ≡ true → lengthened (n + 1) front ≡ lengthened n front
  lengthened_skips among =
      joined ∙ ap (λ b. lengthened n front ++ map (λ event. front ++ event ∷ []) (cond (not b) (n ∷ []) [])) among ∙ append-nil (lengthened n front)

  pub lengthened_takes : is_among front n ≡ false → lengthened (n + 1) front ≡ lengthened n front ++ (front ++ n ∷ []) ∷ []
  lengthened_takes other = joined ∙ ap (λ b. lengthened n front ++ map (λ event. front ++ event ∷ []) (cond (not b) (n ∷ []) [])) other
