-- The values by falling score: the best one first, then the rest as if it had none.
use Rattle.std.proofs.Common.{◌≡◌, ◌≢◌, ◌⊎◌, ℕ, zero, suc, ◌<◌, ◌≤◌, Bool, true, false, cond, ◌&&◌, ◌||◌, not, List, [], ◌∷◌, ◌++◌}
use Rattle.std.proofs.Common.{filter, length, get_or, Option, Some, None, nat_eq, nat_lt, ◌∙◌, sym, ap, subst, refl, arith, inl, inr}
use Rattle.std.proofs.lemmas.Bool.{false≢true, cases_lt, cases_eq}
use Rattle.std.proofs.lemmas.Bool.Decides.{nat_tests}
use Rattle.std.proofs.lemmas.Option.{none-some, same_Some}
use Rattle.definitions.proofs.PartialRowLemmas.{among_head, among_tail}
use Rattle.value_text.proofs.ListLemmas.{filter_same, filter-filter}
use Rattle.definitions.specs.believed.Demand.{is_among}
use Rattle.definitions.specs.believed.Completion.{falling}
use Rattle.ipog_grow.specs.Growing.{better, best}

-- no value stands twice
abbrev pub Distinct : List ℕ → Type 0
Distinct [] = Unit {0}
Distinct (v ∷ values) = (is_among values v ≡ false) × Distinct values

-- a score without that of one value
abbrev pub without : (ℕ → ℕ) → ℕ → ℕ → ℕ
without score v w = cond (nat_eq w v) 0 (score w)

-- the value is the best of the list
pub record IsBest (score : ℕ → ℕ) (values : List ℕ) (v : ℕ) : Type 0 where
  pub some : 0 < score v
  pub listed : is_among values v ≡ true
  pub most : (w : ℕ) → is_among values w ≡ true → score w ≤ score v
  pub first : filter (λ w. nat_eq (score w) (score v)) values ≡ v ∷ filter (λ w. nat_eq (score w) (score v)) (filter (λ w. not (nat_eq w v)) values)

-- tests that agree on the values of a list
pub filter-same_among : (p q : ℕ → Bool) (values : List ℕ) → ((w : ℕ) → is_among values w ≡ true → p w ≡ q w) → filter p values ≡ filter q values
filter-same_among p q [] same = refl
filter-same_among p q (v ∷ values) same =
    let here : p v ≡ q v = same v (among_head v values) in
    ap (λ (b : Bool). cond b (v ∷ filter p values) (filter p values)) here
    ∙ ap (λ (rest : List ℕ). cond (q v) (v ∷ rest) rest) (filter-same_among p q values (λ w among. same w (among_tail v w values among)))

pub among_cases : (v w : ℕ) (values : List ℕ) → is_among (v ∷ values) w ≡ true → (v ≡ w) ⊎ (is_among values w ≡ true)
among_cases v w values among = at (cases_eq v w)
  where
    at : (v ≡ w) ⊎ (v ≢ w) → (v ≡ w) ⊎ (is_among values w ≡ true)
    at (inl same) = inl same
    at (inr differs) =
        let test : nat_eq v w ≡ false = grind (arith, nat_tests) in
        inr (sym (ap (λ (b : Bool). b || is_among values w) test) ∙ among)

pub filter-none : (test : ℕ → Bool) (values : List ℕ) → ((w : ℕ) → is_among values w ≡ true → test w ≡ false) → filter test values ≡ []
filter-none test values fails = filter-same_among test (λ w. false) values fails ∙ all_false values
  where
    all_false : (xs : List ℕ) → filter (λ w. false) xs ≡ []
    all_false [] = refl
    all_false (x ∷ xs) = all_false xs

pub filter-all : (test : ℕ → Bool) (values : List ℕ) → ((w : ℕ) → is_among values w ≡ true → test w ≡ true) → filter test values ≡ values
filter-all test values holds = filter-same_among test (λ w. true) values holds ∙ all_true values
  where
    all_true : (xs : List ℕ) → filter (λ w. true) xs ≡ xs
    all_true [] = refl
    all_true (x ∷ xs) = ap (λ (rest : List ℕ). x ∷ rest) (all_true xs)

-- a value with less than the best
best_later : (score : ℕ → ℕ) (u v : ℕ) (values : List ℕ) → score u < score v → IsBest score values v → IsBest score (u ∷ values) v
best_later score u v values less is =
    let test : nat_eq (score u) (score v) ≡ false = grind (arith, nat_tests) in
    let differs : u ≢ v = λ same. omega (arith, ap score same) in
    let other : nat_eq u v ≡ false = grind (arith, nat_tests) in
    record {
      some = is.some;
      listed = among_tail u v values is.listed;
      most = λ w among. elim (among_cases u w values among) [ inl same ↦ omega (arith, ap score same) | inr later ↦ is.most w later ];
      first =
          ap (λ (b : Bool). cond b (u ∷ filter (λ w. nat_eq (score w) (score v)) values) (filter (λ w. nat_eq (score w) (score v)) values)) test
          ∙ is.first
          ∙ sym (ap (λ (b : Bool). v ∷ filter (λ w. nat_eq (score w) (score v))
          (cond (not b) (u ∷ filter (λ w. not (nat_eq w v)) values) (filter (λ w. not (nat_eq w v)) values))) other
          ∙ ap (λ (b : Bool). v ∷ cond b (u ∷ filter (λ w. nat_eq (score w) (score v)) (filter (λ w. not (nat_eq w v)) values))
          (filter (λ w. nat_eq (score w) (score v)) (filter (λ w. not (nat_eq w v)) values))) test);
    }

best_first : (score : ℕ → ℕ) (u : ℕ) (values : List ℕ) → is_among values u ≡ false → 0 < score u
    → ((w : ℕ) → is_among values w ≡ true → score w ≤ score u) → IsBest score (u ∷ values) u
best_first score u values new some most =
    let test : nat_eq (score u) (score u) ≡ true = grind (arith, nat_tests) in
    let same : nat_eq u u ≡ true = grind (arith, nat_tests) in
    let rest : filter (λ w. not (nat_eq w u)) values ≡ values = filter-all (λ w. not (nat_eq w u)) values (λ w among. ap not (apart w among)) in
    record {
      some = some;
      listed = among_head u values;
      most = λ w among. elim (among_cases u w values among) [ inl e ↦ omega (arith, ap score e) | inr later ↦ most w later ];
      first =
          ap (λ (b : Bool). cond b (u ∷ filter (λ w. nat_eq (score w) (score u)) values) (filter (λ w. nat_eq (score w) (score u)) values)) test
          ∙ sym (ap (λ (b : Bool). u ∷ filter (λ w. nat_eq (score w) (score u))
          (cond (not b) (u ∷ filter (λ w. not (nat_eq w u)) values) (filter (λ w. not (nat_eq w u)) values))) same
          ∙ ap (λ (list : List ℕ). u ∷ filter (λ w. nat_eq (score w) (score u)) list) rest);
    }
  where
    apart : (w : ℕ) → is_among values w ≡ true → nat_eq w u ≡ false
    apart w among =
        elim (cases_eq w u) [
          | inl e ↦ absurd (false≢true (sym new ∙ ap (is_among values) (sym e) ∙ among))
          | inr differs ↦ grind (arith, nat_tests)
        ]

better_none : (score : ℕ → ℕ) (first second : Option ℕ) → better score first second ≡ None → (first ≡ None) × (second ≡ None)
better_none score None second e = (refl, e)
better_none score (Some v) None e = absurd (none-some v (sym e))
better_none score (Some v) (Some w) e = absurd (at (nat_lt (score v) (score w)) e)
  where
    at : (b : Bool) → cond b (Some w) (Some v) ≡ None → ⊥
    at true e = none-some w (sym e)
    at false e = none-some v (sym e)

-- where there is no best value, no value has a score
pub best_none : (score : ℕ → ℕ) (values : List ℕ) → best score values ≡ None → (w : ℕ) → is_among values w ≡ true → score w ≡ 0
best_none score [] e w among = absurd (false≢true among)
best_none score (u ∷ values) e w among =
    let parts = better_none score (cond (nat_lt 0 (score u)) (Some u) None) (best score values) e in
    elim (among_cases u w values among) [
      | inl same ↦ ap score (sym same) ∙ zero_of (cases_lt 0 (score u)) parts.0
      | inr later ↦ best_none score values parts.1 w later
    ]
  where
    zero_of : (0 < score u) ⊎ (score u ≤ 0) → cond (nat_lt 0 (score u)) (Some u) None ≡ None → score u ≡ 0
    zero_of (inl some) e =
        let test : nat_lt 0 (score u) ≡ true = grind (arith, nat_tests) in
        absurd (none-some u (sym e ∙ ap (λ (b : Bool). cond b (Some u) None) test))
    zero_of (inr none) e = omega arith

-- the first value of the greatest score is found
pub best_at : (score : ℕ → ℕ) (values : List ℕ) (i most : ℕ) → 0 < most → ((w : ℕ) → score w ≤ most) → i < length values
    → ((k : ℕ) → k < i → score (get_or values k 0) ≢ most) → score (get_or values i 0) ≡ most → best score values ≡ Some (get_or values i 0)
best_at score [] i most some all within before is = absurd (omega (arith, within))
best_at score (v ∷ values) zero most some all within before is =
    let test : nat_lt 0 (score v) ≡ true = grind (arith, nat_tests) in
    ap (λ (b : Bool). better score (cond b (Some v) None) (best score values)) test ∙ stays (best score values)
  where
    stays : (found : Option ℕ) → better score (Some v) found ≡ Some v
    stays None = refl
    stays (Some w) =
        let bound = all w in
        let test : nat_lt (score v) (score w) ≡ false = grind (arith, nat_tests) in
        ap (λ (b : Bool). cond b (Some w) (Some v)) test
best_at score (v ∷ values) (suc i) most some all within before is =
    ap (better score (cond (nat_lt 0 (score v)) (Some v) None))
    (best_at score values i most some all (omega (arith, within)) (λ k below. before (suc k) (omega arith)) is)
    ∙ gives (nat_lt 0 (score v))
  where
    gives : (b : Bool) → better score (cond b (Some v) None) (Some (get_or values i 0)) ≡ Some (get_or values i 0)
    gives false = refl
    gives true =
        let bound = all v in
        let differs : score v ≢ most = before 0 (omega arith) in
        let less : score v < score (get_or values i 0) = omega (arith, is, bound, differs) in
        let test : nat_lt (score v) (score (get_or values i 0)) ≡ true = grind (arith, nat_tests) in
        ap (λ (b : Bool). cond b (Some (get_or values i 0)) (Some v)) test

-- where no value has a score, none is found
pub best_of_none : (score : ℕ → ℕ) (values : List ℕ) → ((w : ℕ) → score w ≡ 0) → best score values ≡ None
best_of_none score [] none = refl
best_of_none score (v ∷ values) none =
    let e : score v ≡ 0 = none v in
    let test : nat_lt 0 (score v) ≡ false = grind (arith, nat_tests) in
    ap (λ (b : Bool). better score (cond b (Some v) None) (best score values)) test ∙ best_of_none score values none

-- what is found is the best value
pub best_is : (score : ℕ → ℕ) (values : List ℕ) (v : ℕ) → Distinct values → best score values ≡ Some v → IsBest score values v
best_is score [] v distinct e = absurd (none-some v e)
best_is score (u ∷ values) v distinct e =
    by_first (λ w is. best_is score values w distinct.1 is) (cases_lt 0 (score u)) (best score values) refl
  where
    by_second : (w : ℕ) → 0 < score u → IsBest score values w → (score u < score w) ⊎ (score w ≤ score u)
        → cond (nat_lt (score u) (score w)) (Some w) (Some u) ≡ Some v → IsBest score (u ∷ values) v
    by_second w some own (inl less) e =
        let test : nat_lt (score u) (score w) ≡ true = grind (arith, nat_tests) in
        let same : w ≡ v = same_Some w v (sym (ap (λ (b : Bool). cond b (Some w) (Some u)) test) ∙ e) in
        subst (IsBest score (u ∷ values)) same (best_later score u w values less own)
    by_second w some own (inr most) e =
        let test : nat_lt (score u) (score w) ≡ false = grind (arith, nat_tests) in
        let same : u ≡ v = same_Some u v (sym (ap (λ (b : Bool). cond b (Some w) (Some u)) test) ∙ e) in
        subst (IsBest score (u ∷ values)) same (best_first score u values distinct.0 some (λ x among. omega (arith, own.most x among)))

    by_best : ((w : ℕ) → best score values ≡ Some w → IsBest score values w) → (o : Option ℕ) → 0 < score u → best score values ≡ o
        → better score (Some u) o ≡ Some v
        → IsBest score (u ∷ values) v
    by_best own None some is e =
        subst (IsBest score (u ∷ values)) (same_Some u v e)
        (best_first score u values distinct.0 some (λ x among. omega (arith, best_none score values is x among)))
    by_best own (Some w) some is e = by_second w some (own w is) (cases_lt (score u) (score w)) e

    by_first : ((w : ℕ) → best score values ≡ Some w → IsBest score values w) → (0 < score u) ⊎ (score u ≤ 0) → (o : Option ℕ) → best score values ≡ o
        → IsBest score (u ∷ values) v
    by_first own (inl some) o is =
        let test : nat_lt 0 (score u) ≡ true = grind (arith, nat_tests) in
        by_best own o some is (sym (ap (λ (b : Bool). better score (cond b (Some u) None) (best score values)) test ∙ ap (better score (Some u)) is) ∙ e)
    by_first own (inr none) o is =
        let test : nat_lt 0 (score u) ≡ false = grind (arith, nat_tests) in
        let found : best score values ≡ Some v = sym (ap (λ (b : Bool). better score (cond b (Some u) None) (best score values)) test) ∙ e in
        best_later score u v values (omega (arith, (own v found).some)) (own v found)

-- scores that agree on the values give the same list
pub falling-same : (n : ℕ) (f g : ℕ → ℕ) (values : List ℕ) → ((w : ℕ) → is_among values w ≡ true → f w ≡ g w) → falling n f values ≡ falling n g values
falling-same zero f g values same = refl
falling-same (suc n) f g values same =
    ap (λ (list : List ℕ). list ++ falling n f values)
    (filter-same_among (λ w. nat_eq (f w) (suc n)) (λ w. nat_eq (g w) (suc n)) values (λ w among. ap (λ (k : ℕ). nat_eq k (suc n)) (same w among)))
    ∙ ap (λ (list : List ℕ). filter (λ w. nat_eq (g w) (suc n)) values ++ list) (falling-same n f g values same)

-- values without a score don't count
pub falling-filter : (n : ℕ) (f : ℕ → ℕ) (keep : ℕ → Bool) (values : List ℕ) → ((w : ℕ) → keep w ≡ false → f w ≡ 0) → falling n f (filter keep values)
    ≡ falling n f values
falling-filter zero f keep values zero_at = refl
falling-filter (suc n) f keep values zero_at =
    ap (λ (list : List ℕ). list ++ falling n f (filter keep values))
    (filter-filter (λ w. nat_eq (f w) (suc n)) keep values ∙ filter_same (λ w. keep w && nat_eq (f w) (suc n)) (λ w. nat_eq (f w) (suc n)) values
    (λ w. at w (keep w) (zero_at w)))
    ∙ ap (λ (list : List ℕ). filter (λ w. nat_eq (f w) (suc n)) values ++ list) (falling-filter n f keep values zero_at)
  where
    at : (w : ℕ) (b : Bool) → (b ≡ false → f w ≡ 0) → (b && nat_eq (f w) (suc n)) ≡ nat_eq (f w) (suc n)
    at w true none = refl
    at w false none = let e : f w ≡ 0 = none refl in grind (arith, nat_tests)

pub falling-none : (n : ℕ) (score : ℕ → ℕ) (values : List ℕ) → ((w : ℕ) → is_among values w ≡ true → score w ≡ 0) → falling n score values ≡ []
falling-none zero score values none = refl
falling-none (suc n) score values none =
    ap (λ (list : List ℕ). list ++ falling n score values)
    (filter-none (λ w. nat_eq (score w) (suc n)) values (λ w among. let e : score w ≡ 0 = none w among in grind (arith, nat_tests)))
    ∙ falling-none n score values none

-- a score at or above all that are looked for doesn't count
falling-without : (n : ℕ) (score : ℕ → ℕ) (v : ℕ) (values : List ℕ) → n < score v → falling n score values ≡ falling n (without score v) values
falling-without zero score v values above = refl
falling-without (suc n) score v values above =
    ap (λ (list : List ℕ). list ++ falling n score values) (filter_same (λ w. nat_eq (score w) (suc n)) (λ w. nat_eq (without score v w) (suc n)) values
    (λ w. at w (cases_eq w v)))
    ∙ ap (λ (list : List ℕ). filter (λ w. nat_eq (without score v w) (suc n)) values ++ list) (falling-without n score v values (omega arith))
  where
    at : (w : ℕ) → (w ≡ v) ⊎ (w ≢ v) → nat_eq (score w) (suc n) ≡ nat_eq (without score v w) (suc n)
    at w (inl same) =
        let test : nat_eq w v ≡ true = grind (arith, nat_tests) in
        let more : suc n < score w = omega (arith, ap score same) in
        let other : nat_eq (score w) (suc n) ≡ false = grind (arith, nat_tests) in
        other ∙ sym (ap (λ (b : Bool). nat_eq (cond b 0 (score w)) (suc n)) test ∙ zero_other)
      where
        zero_other : nat_eq 0 (suc n) ≡ false
        zero_other = grind (arith, nat_tests)
    at w (inr differs) =
        let test : nat_eq w v ≡ false = grind (arith, nat_tests) in
        sym (ap (λ (b : Bool). nat_eq (cond b 0 (score w)) (suc n)) test)

-- the best value comes first, and then the rest as if it had no score
pub falling-best : (n : ℕ) (score : ℕ → ℕ) (v : ℕ) (values : List ℕ) → IsBest score values v → score v ≤ n
    → falling n score values ≡ v ∷ falling n (without score v) values
falling-best zero score v values is within = absurd (omega (arith, is.some))
falling-best (suc n) score v values is within = by_case (λ low. falling-best n score v values is low) (cases_lt n (score v))
  where
    kept : (w : ℕ) → n < score v → (not (nat_eq w v) && nat_eq (score w) (score v)) ≡ nat_eq (without score v w) (suc n)
    kept w top = at (nat_eq w v)
      where
        whole : score v ≡ suc n
        whole = omega arith

        at : (b : Bool) → (not b && nat_eq (score w) (score v)) ≡ nat_eq (cond b 0 (score w)) (suc n)
        at true = grind (arith, nat_tests)
        at false = ap (nat_eq (score w)) whole

    below : (w : ℕ) → score v ≤ n → is_among values w ≡ true → nat_eq (score w) (suc n) ≡ false
    below w low among = let most : score w ≤ score v = is.most w among in grind (arith, nat_tests)

    below_without : (w : ℕ) → score v ≤ n → is_among values w ≡ true → nat_eq (without score v w) (suc n) ≡ false
    below_without w low among = at (nat_eq w v)
      where
        at : (b : Bool) → nat_eq (cond b 0 (score w)) (suc n) ≡ false
        at true = grind (arith, nat_tests)
        at false = below w low among

    by_case : (score v ≤ n → falling n score values ≡ v ∷ falling n (without score v) values) → (n < score v) ⊎ (score v ≤ n)
        → filter (λ w. nat_eq (score w) (suc n)) values ++ falling n score values
        ≡ v ∷ (filter (λ w. nat_eq (without score v w) (suc n)) values ++ falling n (without score v) values)
    by_case later (inl top) =
        let whole : score v ≡ suc n = omega arith in
        ap (λ (k : ℕ). filter (λ w. nat_eq (score w) k) values ++ falling n score values) (sym whole)
        ∙ ap (λ (list : List ℕ). list ++ falling n score values) (is.first ∙ ap (λ (list : List ℕ). v ∷ list)
        (filter-filter (λ w. nat_eq (score w) (score v)) (λ w. not (nat_eq w v)) values ∙ filter_same (λ w. not (nat_eq w v) && nat_eq (score w) (score v))
        (λ w. nat_eq (without score v w) (suc n)) values (λ w. kept w top)))
        ∙ ap (λ (list : List ℕ). v ∷ (filter (λ w. nat_eq (without score v w) (suc n)) values ++ list)) (falling-without n score v values top)
    by_case later (inr low) =
        ap (λ (list : List ℕ). list ++ falling n score values) (filter-none (λ w. nat_eq (score w) (suc n)) values (λ w among. below w low among))
        ∙ later low
        ∙ ap (λ (list : List ℕ). v ∷ (list ++ falling n (without score v) values))
        (sym (filter-none (λ w. nat_eq (without score v w) (suc n)) values (λ w among. below_without w low among)))
