-- Seed rows that are asked one after another, and how runs of questions end.
use Rattle.std.proofs.Common.{◌≡◌, ℕ, ◌+◌, ◌<◌, Bool, true, false, cond, not, List, [], ◌∷◌, ◌++◌, map, length, filter}
use Rattle.std.proofs.Common.{find, take, drop, get_or, Option, Some, None, option_map, ◌∙◌, sym, ap, refl}
use Rattle.std.proofs.lemmas.List.{map-append, append_assoc, take_more, take-append-drop}
use Rattle.std.proofs.lemmas.List.Elements.{filter-append}
use Rattle.std.proofs.lemmas.Option.{none-some}
use Rattle.cov_model.specs.believed.Sound.{ModelView}
use Rattle.definitions.specs.declared.effort.Effort.{Effort}
use Rattle.definitions.specs.believed.Completion.{has_slice, can_be_served}
use Rattle.definitions.specs.believed.Pairs.{pairs_of}
use Rattle.definitions.specs.believed.Search.{exceeds, first_over, question_cost}
use Rattle.feasibility.specs.declared.answer.SearchFault.{SearchFault}
use Rattle.feasibility.specs.declared.answer.SearchFault.TheVariants.{Spent, NoMemory}
use Rattle.feasibility.specs.Ends.{EndsBy}
use Rattle.ipog_grow.proofs.Spending.{find-later, find-earlier}

-- a run ends as its part does, where the part's first question that costs more than it may is the run's
pub ends-by : (fault : SearchFault) (part whole : Option (List (Option ℕ))) → ((q : List (Option ℕ)) → part ≡ Some q → whole ≡ Some q) → EndsBy part fault
    → EndsBy whole fault
ends-by NoMemory part whole more ends = tt
ends-by (Spent question) None whole more ends = absurd (none-some question.cells ends)
ends-by (Spent question) (Some q) whole more ends = ap (option_map pairs_of) (more q refl) ∙ ends

-- a list at one of its places
pub split_at : {X : Type 0} (xs : List X) (i : ℕ) (d : X) → i < length xs → xs ≡ take i xs ++ get_or xs i d ∷ drop (i + 1) xs
split_at xs i d within =
    sym (take-append-drop (i + 1) xs) ∙ ap (λ front. front ++ drop (i + 1) xs) (take_more xs i d within)
    ∙ append_assoc (take i xs) (get_or xs i d ∷ []) (drop (i + 1) xs)

module _ (m : ModelView) (pref : List (List ℕ)) (effort : Effort) where
  -- the questions of some seeds
  abbrev asks : List (ℕ × List (Option ℕ)) → List (List (Option ℕ))
  asks seeds = filter (has_slice m) (map (λ seed. seed.1) seeds)

  abbrev over : List (Option ℕ) → Bool
  over cells = exceeds effort (question_cost m pref cells)

  -- the seeds are split, and no question of theirs cost more than it may
  pub record Split (seeds : List (ℕ × List (Option ℕ))) (kept : List (List (Option ℕ))) (dropped : List ℕ) : Type 0 where
    pub kept_are : kept ≡ filter (can_be_served m) (map (λ seed. seed.1) seeds)
    pub dropped_are : dropped ≡ map (λ seed. seed.0) (filter (λ seed. not (can_be_served m seed.1)) seeds)
    pub unspent : first_over m pref effort (filter (has_slice m) (map (λ seed. seed.1) seeds)) ≡ None

  asks-append : (seeds more : List (ℕ × List (Option ℕ))) → asks (seeds ++ more) ≡ asks seeds ++ asks more
  asks-append seeds more =
      ap (filter (has_slice m)) (map-append (λ seed. seed.1) seeds more) ∙ filter-append (has_slice m) (map (λ seed. seed.1) seeds) (map (λ seed. seed.1) more)

  pub split-next : (seeds : List (ℕ × List (Option ℕ))) (x : ℕ × List (Option ℕ)) (kept kept' : List (List (Option ℕ))) (dropped dropped' : List ℕ)
      → Split seeds kept dropped
      → kept' ≡ kept ++ filter (can_be_served m) (x.1 ∷ []) → dropped' ≡ dropped ++ cond (can_be_served m x.1) [] (x.0 ∷ [])
      → first_over m pref effort (filter (has_slice m) (x.1 ∷ [])) ≡ None → Split (seeds ++ x ∷ []) kept' dropped'
  split-next seeds x kept kept' dropped dropped' split keeps drops unspent = record {
    kept_are = keeps ∙ ap (λ ks. ks ++ filter (can_be_served m) (x.1 ∷ [])) split.kept_are
        ∙ sym (filter-append (can_be_served m) (map (λ seed. seed.1) seeds) (x.1 ∷ []))
        ∙ ap (filter (can_be_served m)) (sym (map-append (λ seed. seed.1) seeds (x ∷ [])));
    dropped_are = drops ∙ ap (λ ks. ks ++ cond (can_be_served m x.1) [] (x.0 ∷ [])) split.dropped_are
        ∙ ap (λ ks. map line (filter drop_it seeds) ++ ks) (at (can_be_served m x.1)) ∙ sym (map-append line (filter drop_it seeds) (filter drop_it (x ∷ [])))
        ∙ ap (map line) (sym (filter-append drop_it seeds (x ∷ [])));
    unspent = ap (find over) (asks-append seeds (x ∷ [])) ∙ find-later over (asks seeds) (asks (x ∷ [])) split.unspent ∙ unspent;
  }
    where
      line : ℕ × List (Option ℕ) → ℕ
      line = λ seed. seed.0

      drop_it : ℕ × List (Option ℕ) → Bool
      drop_it = λ seed. not (can_be_served m seed.1)

      at : (b : Bool) → cond b [] (x.0 ∷ []) ≡ map line (cond (not b) (x ∷ []) [])
      at true = refl
      at false = refl

  pub split-spent : (seeds : List (ℕ × List (Option ℕ))) (x : ℕ × List (Option ℕ)) (rest : List (ℕ × List (Option ℕ))) (kept : List (List (Option ℕ)))
      (dropped : List ℕ) → Split seeds kept dropped
      → (q : List (Option ℕ)) → first_over m pref effort (filter (has_slice m) (x.1 ∷ [])) ≡ Some q
      → first_over m pref effort (filter (has_slice m) (map (λ seed. seed.1) (seeds ++ x ∷ rest))) ≡ Some q
  split-spent seeds x rest kept dropped split q spent =
      ap (find over) (asks-append seeds (x ∷ rest)) ∙ find-later over (asks seeds) (asks (x ∷ rest)) split.unspent
      ∙ ap (find over) (asks-append (x ∷ []) rest) ∙ find-earlier over q (asks (x ∷ [])) (asks rest) spent
