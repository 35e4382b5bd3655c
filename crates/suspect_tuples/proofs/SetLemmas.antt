-- Parameters of sets, as they are walked.
use Rattle.std.proofs.Common.{◌≡◌, ℕ, suc, ◌+◌, ◌-◌, ◌<◌, ◌≤◌, List, [], ◌∷◌, ◌++◌, map, take, drop}
use Rattle.std.proofs.Common.{length, get_or, All, AllPairs, Option, inl, refl, sym, ap, subst, ◌∙◌, arith, append_assoc, length-append}
use Rattle.std.proofs.lemmas.List.{append-nil, get_or_default, map-append, take-append-le, take_all}
use Rattle.std.proofs.lemmas.List.Elements.{All-cons, All-nil}
use Rattle.std.proofs.lemmas.List.Quantifiers.{all_pairs_push}
use Rattle.cov_model.specs.believed.Sound.{ModelView, IsSound, no_param, param_at}
use Rattle.cov_model.specs.declared.parameter.Param.{Param}
use Rattle.cov_model.specs.Tuples.{IsRising}
use Rattle.definitions.proofs.Members.{has_right, member_of_all}
use Rattle.suspect_tuples.specs.Sets.{AreBefore, AreParams, AreWide}
use Rattle.suspect_tuples.specs.believed.Suspects.{tuples_on}
use Rattle.suspect_tuples.proofs.WalkLemmas.{tuples_up_to}

-- a list with an item is its first and the rest, and one without is empty
pub first_and_rest : {X : Type 0} (xs : List X) (d : X) → 1 ≤ length xs → xs ≡ get_or xs 0 d ∷ take (length xs - 1) (drop 1 xs)
first_and_rest [] d some = absurd (omega (arith, some))
first_and_rest (x ∷ xs) d some = ap (λ rest. x ∷ rest) (sym (take_all (length (x ∷ xs) - 1) xs (omega arith)))

pub no_items : {X : Type 0} (xs : List X) → length xs < 1 → xs ≡ []
no_items [] none = refl
no_items (x ∷ xs) none = absurd (omega (arith, none))

-- what was pushed is taken away
pub without_pushed : {X : Type 0} (xs ys : List X) (x : X) → ys ≡ xs ++ x ∷ [] → take (length ys - 1) ys ≡ xs
without_pushed xs ys x pushed =
    let many : length ys - 1 ≡ length xs = omega (arith, ap length pushed, length-append xs (x ∷ [])) in
    ap (λ n. take n ys) many ∙ ap (take (length xs)) pushed ∙ take-append-le (length xs) xs (x ∷ []) (omega arith) ∙ take_all (length xs) xs (omega arith)

-- the first parameter of what follows exists
pub param_exists : (m : ModelView) (before set : List ℕ) → AreParams m (before ++ set) → 1 ≤ length set → get_or set 0 0 < length m.params
param_exists m before [] are some = absurd (omega (arith, some))
param_exists m before (p ∷ rest) are some = member_of_all (λ q. q < length m.params) (before ++ p ∷ rest) p are.exist (has_right before (p ∷ rest) p (inl refl))

-- the same parameters, one more of them before
pub params_pushed : (m : ModelView) (before longer : List (ℕ × ℕ)) (set : List ℕ) (v : ℕ) → AreParams m (map (λ pair. pair.0) before ++ set) → 1 ≤ length set
    → longer ≡ before ++ (get_or set 0 0, v) ∷ [] → AreParams m (map (λ pair. pair.0) longer ++ take (length set - 1) (drop 1 set))
params_pushed m before longer set v are some pushed =
    let p = get_or set 0 0 in
    let rest = take (length set - 1) (drop 1 set) in
    let same : map (λ pair. pair.0) before ++ set ≡ map (λ pair. pair.0) longer ++ rest =
    ap (λ ps. map (λ pair. pair.0) before ++ ps) (first_and_rest set 0 some)
    ∙ sym (ap (λ pairs. map (λ pair. pair.0) pairs ++ rest) pushed ∙ ap (λ ps. ps ++ rest) (map-append (λ pair. pair.0) before ((p, v) ∷ []))
    ∙ append_assoc (map (λ pair. pair.0) before) (p ∷ []) rest) in
    subst (AreParams m) same are

-- a whole tuple
pub whole_params : (m : ModelView) (before : List (ℕ × ℕ)) (set : List ℕ) → AreParams m (map (λ pair. pair.0) before ++ set) → length set < 1
    → AreParams m (map (λ pair. pair.0) before)
whole_params m before set are none =
    subst (AreParams m) (ap (λ ps. map (λ pair. pair.0) before ++ ps) (no_items set none) ∙ append-nil (map (λ pair. pair.0) before)) are

pub rising_pairs : (pairs : List (ℕ × ℕ)) → AllPairs (λ p q. p < q) (map (λ pair. pair.0) pairs) → IsRising pairs
rising_pairs [] rising = tt
rising_pairs (a ∷ []) rising = tt
rising_pairs (a ∷ b ∷ pairs) rising =
    (rising 0 1 0 (omega arith) (omega arith), rising_pairs (b ∷ pairs) (λ i j d before within. rising (suc i) (suc j) d (omega (arith, before)) (omega (arith, within))))

pub wide_for : (m : ModelView) (p : ℕ) (rows : List (List (Option ℕ))) → p < length m.params → AreWide m rows → All (λ row. p < length row) rows
wide_for m p rows exists wide = λ k d within. omega (arith, exists, wide k d within)

-- a parameter has few values
pub few_values : (m : ModelView) (p count : ℕ) (param : Param) (params : List Param) → IsSound m → params ≡ m.params → p < length m.params
    → count ≡ length (get_or params p param).values → (count ≤ 4095) × (count ≡ length (param_at m.params p).values)
few_values m p count param params sound same exists many =
    let own : count ≡ length (get_or m.params p param).values = many ∙ ap (λ (ps : List Param). length (get_or ps p param).values) same in
    (omega (arith, own, (sound.params p param exists).few), own ∙ ap (λ (param : Param). length param.values) (get_or_default m.params p param no_param exists))

-- all values of the first parameter, each with the tuples of the rest
pub all_values : (m : ModelView) (set : List ℕ) (count v : ℕ) → 1 ≤ length set → count ≡ length (param_at m.params (get_or set 0 0)).values → count ≤ v → v ≤ count
    → tuples_up_to m (get_or set 0 0) (take (length set - 1) (drop 1 set)) v ≡ tuples_on m set
all_values m set count v some many least most =
    let same : v ≡ length (param_at m.params (get_or set 0 0)).values = omega (arith, many, least, most) in
    ap (tuples_up_to m (get_or set 0 0) (take (length set - 1) (drop 1 set))) same ∙ ap (tuples_on m) (sym (first_and_rest set 0 some))

-- a parameter more before the first
pub before_pushed : (first p : ℕ) (set longer : List ℕ) → AreBefore first set → first ≤ p → longer ≡ set ++ p ∷ [] → AreBefore (p + 1) longer
before_pushed first p set longer are least pushed = subst (AreBefore (p + 1)) (sym pushed) (record {
  rising = all_pairs_push (λ p q. p < q) set p are.rising (λ k d within. omega (arith, are.before k d within, least));
  before = all_push set (λ k d within. omega (arith, are.before k d within, least));
})
  where
    all_push : (xs : List ℕ) → All (λ q. q < p + 1) xs → All (λ q. q < p + 1) (xs ++ p ∷ [])
    all_push [] all = All-cons (λ q. q < p + 1) p [] (omega arith) (All-nil (λ q. q < p + 1))
    all_push (x ∷ xs) all = All-cons (λ q. q < p + 1) x (xs ++ p ∷ []) (all 0 x (omega arith)) (all_push xs (λ k d within. all (suc k) d (omega (arith, within))))

-- parameters before one that is no further than the last are parameters
pub before_are_params : (m : ModelView) (first : ℕ) (set : List ℕ) → AreBefore first set → first ≤ length m.params → AreParams m set
before_are_params m first set are most = record { rising = are.rising; exist = λ k d within. omega (arith, are.before k d within, most) }
