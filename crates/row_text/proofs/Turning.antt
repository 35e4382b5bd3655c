-- The numbers of the names that are shown next, as they are made, shown and set to 0.
use Rattle.std.proofs.Common.{◌≡◌, ◌≢◌, ℕ, ◌+◌, ◌%◌, ◌<◌, ◌⊎◌, inl, inr, Bool, true, false, ◌&&◌, ◌==◌, List, [], ◌∷◌, ◌++◌, Option}
use Rattle.std.proofs.Common.{map, length, get_or, set, take, refl, sym, ap, subst, ◌∙◌, arith, eq-eqb, ne_eqb, mod-eq_of_lt}
use Rattle.std.specs.Prelude.{replicate}
use Rattle.std.proofs.lemmas.List.{take_more, get_or-map, length-map, map-append, map-set, get_or-set_same, get_or-set_other, length-set, length-replicate, get_or-replicate, get_or_default}
use Rattle.std.proofs.lemmas.List.Sums.{count_by_more_yes, count_by_more_no}
use Rattle.std.proofs.lemmas.Bool.{and_from, and_right, cases_eq}
use Rattle.std.proofs.Math.Seq.{map-set_same}
use Rattle.std.proofs.Math.Nat.{zero-mod, mod-add-mod, mod-lt}
use Rattle.cov_model.specs.declared.parameter.Param.{Param}
use Rattle.cov_model.specs.declared.parameter.Value.{Value}
use Rattle.cov_model.specs.believed.Sound.{ModelView, param_at, no_param}
use Rattle.cov_model.specs.believed.Rows.{is_assigned, value_in}
use Rattle.cov_model.specs.believed.Meaning.{value_at}
use Rattle.definitions.specs.believed.Report.{times_given, printed, printed_turn, cell_text}
use Rattle.row_text.specs.Turns.{IsFor, AreTurns, first_turns, cleared, turns_at, turn_at, after_turn}

-- a number below the count stays
pub below_count : (n count : ℕ) → n < count → n ≡ n % count
below_count n count below = sym (mod-eq_of_lt below)

-- one more element of a list made element by element
pub map_made_more : {X Y Z : Type 0} (f : X → Z) (g : Y → Z) (xs : List X) (ys : List Y) (i : ℕ) (d : X) (y : Y) → i < length xs
    → map g ys ≡ take i (map f xs) → g y ≡ f (get_or xs i d) → map g (ys ++ y ∷ []) ≡ take (i + 1) (map f xs)
map_made_more f g xs ys i d y inside so_far is =
    let within : i < length (map f xs) = omega (arith, length-map xs f) in
    map-append g ys (y ∷ []) ∙ ap (λ zs. zs ++ g y ∷ []) so_far ∙ ap (λ z. take i (map f xs) ++ z ∷ [])
    (is ∙ sym (get_or-map f xs i d (f (get_or xs i d)) inside))
    ∙ sym (take_more (map f xs) i (f (get_or xs i d)) within)

-- an element of a list that is seen through a function
pub seen_at : {Y : Type 0} (g : Y → List ℕ) (ys : List Y) (turns : List (List ℕ)) (p : ℕ) (y : Y) → map g ys ≡ turns → p < length ys → y ≡ get_or ys p y
    → get_or turns p [] ≡ g y
seen_at g ys turns p y seen inside is = ap (λ ts. get_or ts p []) (sym seen) ∙ get_or-map g ys p y [] inside ∙ ap g (sym is)

-- a number after its name was shown
pub turn_taken : {Y : Type 0} (g : Y → List ℕ) (ys : List Y) (turns : List (List ℕ)) (p v shown count : ℕ) (y y' : Y) → map g ys ≡ turns → p < length ys
    → y ≡ get_or ys p y
    → shown ≡ get_or (g y) v 0 → g y' ≡ set (g y) v ((shown + 1) % count) → map g (set ys p y') ≡ after_turn turns p v count
turn_taken g ys turns p v shown count y y' seen inside is now after =
    let at = seen_at g ys turns p y seen inside is in
    map-set g ys p y' ∙ ap (λ ts. set ts p (g y')) seen ∙ ap (set turns p)
    (after ∙ ap (λ n. set (g y) v ((n + 1) % count)) now ∙ ap (λ next. set next v ((get_or next v 0 + 1) % count)) (sym at))

-- the first numbers of a model are for it
pub first_turns-IsFor : (m : ModelView) → IsFor m (first_turns m)
first_turns-IsFor m = over m.params
  where
    over : (params : List Param) → cleared (map (λ param. replicate (length param.values) 0) params) ≡ map (λ param. replicate (length param.values) 0) params
    over [] = refl
    over (param ∷ params) = rw (length-replicate {A = ℕ} (length param.values) 0) (ap (λ rest. replicate (length param.values) 0 ∷ rest) (over params))

-- there is a list for each parameter
pub IsFor-count : (m : ModelView) (turns : List (List ℕ)) → IsFor m turns → length turns ≡ length m.params
IsFor-count m turns is =
    sym (length-map turns (λ next. replicate (length next) 0)) ∙ ap length is ∙ length-map m.params (λ param. replicate (length param.values) 0)

-- there is a number for each value
pub IsFor-length : (m : ModelView) (turns : List (List ℕ)) (p : ℕ) → IsFor m turns → p < length m.params
    → length (turns_at turns p) ≡ length (param_at m.params p).values
IsFor-length m turns p is inside =
    let within : p < length turns = omega (arith, IsFor-count m turns is) in
    sym (length-replicate (length (turns_at turns p)) 0)
    ∙ ap length (sym (get_or-map (λ next. replicate (length next) 0) turns p [] [] within) ∙ ap (λ ts. get_or ts p []) is
    ∙ get_or-map (λ param. replicate (length param.values) 0) m.params p no_param [] inside)
    ∙ length-replicate (length (param_at m.params p).values) 0

-- there still is after one was shown
pub after_turn-IsFor : (m : ModelView) (turns : List (List ℕ)) (p v count : ℕ) → IsFor m turns → IsFor m (after_turn turns p v count)
after_turn-IsFor m turns p v count is =
    map-set_same (λ next. replicate (length next) 0) turns p (set (turns_at turns p) v ((turn_at turns p v + 1) % count)) []
    (ap (λ n. replicate n 0) (length-set (turns_at turns p) v _)) ∙ is

-- the numbers of another parameter stay
pub after_turn-others : (turns : List (List ℕ)) (p v count q : ℕ) → q ≢ p → turns_at (after_turn turns p v count) q ≡ turns_at turns q
after_turn-others turns p v count q other = get_or-set_other turns p q _ [] other

-- before the first row each number is 0
pub AreTurns-first : (m : ModelView) (p : ℕ) → p < length m.params → AreTurns m [] p (turns_at (first_turns m) p)
AreTurns-first m p inside = λ v exists.
    ap (λ next. get_or next v 0) (get_or-map (λ param. replicate (length param.values) 0) m.params p no_param [] inside)
    ∙ get_or-replicate (length (param_at m.params p).values) v 0 0 exists ∙ sym (zero-mod (length (value_at m p v).names))

-- after a row was shown its value has the next number, and the others keep theirs
pub AreTurns-more : (m : ModelView) (rows : List (List (Option ℕ))) (at p shown : ℕ) (turns : List (List ℕ)) → at < length rows
    → is_assigned (get_or rows at []) p ≡ true → shown ≡ value_in (get_or rows at []) p
    → p < length turns → shown < length (turns_at turns p) → AreTurns m (take at rows) p (turns_at turns p) → shown < length (param_at m.params p).values
    → AreTurns m (take (at + 1) rows) p (turns_at (after_turn turns p shown (length (value_at m p shown).names)) p)
AreTurns-more m rows at p shown turns inside assigned is there within are exists = λ v known.
    ap (λ next. get_or next v 0) (get_or-set_same turns p (set (turns_at turns p) shown _) [] there) ∙ by_value v known (cases_eq v shown)
  where
    count : ℕ
    count = length (value_at m p shown).names

    gives : ℕ → List (Option ℕ) → Bool
    gives v row = is_assigned row p && (value_in row p == v)

    by_value : (v : ℕ) → v < length (param_at m.params p).values → (v ≡ shown) ⊎ (v ≢ shown)
        → get_or (set (turns_at turns p) shown ((turn_at turns p shown + 1) % count)) v 0 ≡ times_given (take (at + 1) rows) p v % length (value_at m p v).names
    by_value v known (inl same) =
        let yes : gives shown (get_or rows at []) ≡ true = and_from _ _ assigned (eq-eqb _ _ (sym is)) in
        let one_more : times_given (take (at + 1) rows) p shown ≡ times_given (take at rows) p shown + 1 = count_by_more_yes
        (gives shown) rows at [] inside yes in
        let shows : get_or (set (turns_at turns p) shown ((turn_at turns p shown + 1) % count)) shown 0 ≡ times_given (take (at + 1) rows) p shown % count =
        get_or-set_same (turns_at turns p) shown _ 0 within ∙ ap (λ n. (n + 1) % count) (are shown exists) ∙ mod-add-mod
        (times_given (take at rows) p shown) count 1
        ∙ ap (λ n. n % count) (sym one_more) in
        subst (λ w. get_or (set (turns_at turns p) shown ((turn_at turns p shown + 1) % count)) w 0 ≡ times_given (take (at + 1) rows) p w % length (value_at m p w).names) (sym same) shows
    by_value v known (inr other) =
        let no : gives v (get_or rows at []) ≡ false = and_right _ _ (ne_eqb _ _ (λ e. other (sym (is ∙ e)))) in
        get_or-set_other (turns_at turns p) shown v _ 0 other ∙ are v known ∙ ap (λ n. n % length (value_at m p v).names)
        (sym (count_by_more_no (gives v) rows at [] inside no))

-- a value's name of the number that is shown is its cell
pub cell_shown : (m : ModelView) (earlier : List (List (Option ℕ))) (row : List (Option ℕ)) (p number shown : ℕ) (value : Value) (name d : List ℕ)
    → number ≡ value_in row p → value ≡ value_at m p number → 0 < length value.names
    → shown ≡ times_given earlier p number % length (value_at m p number).names → name ≡ get_or value.names shown d
    → printed m value name ≡ cell_text m earlier row p
cell_shown m earlier row p number shown value name d gives is some turn named =
    let count : ℕ = length (value_at m p number).names in
    let several : 0 < count = omega (arith, ap (λ v. length v.names) is) in
    let within : shown < length value.names = omega (arith, ap (λ v. length v.names) is, mod-lt (times_given earlier p number) several) in
    let names : name ≡ get_or (value_at m p number).names (times_given earlier p number % count) [] =
    named ∙ get_or_default value.names shown d [] within ∙ ap (λ k. get_or value.names k []) turn ∙ ap
    (λ v. get_or v.names (times_given earlier p number % count) []) is in
    ap (λ v. printed m v name) is ∙ ap (printed m (value_at m p number)) names ∙ ap (λ n. printed_turn m (value_at m p n) (times_given earlier p n)) gives
