-- Reading item by item: what a loop over the items has read, and what is left to read.
use Rattle.std.proofs.Common.{◌≡◌, ℕ, ◌+◌, ◌<◌, ◌≤◌, Bool, true, false, List, [], ◌∷◌, ◌++◌, map, length, take, drop, get_or, Option, Some, None, Result, Ok, Err, Bor, is_some, refl, sym, ◌∙◌, ap}
use Rattle.std.proofs.lemmas.List.{drop_more, drop_all, take_more, map-append}
use Rattle.std.specs.Option.{option_or}
use Rattle.model_lex.specs.declared.diag.DiagCode.{DiagCode}
use Rattle.model_lex.specs.declared.fault.ModelFault.{ModelFault}
use Rattle.model_parse.specs.Steps.{and_then, and_each}
use Rattle.model_parse.specs.believed.Values.{name_code}
use Rattle.model_parse.specs.ValueSteps.{Kept, names_code, keep_name, keep_names}

-- the items of a loop, as the definition has them
module _ {A X Y : Type 0} (step : A → X → Result A ModelFault) (seen : Y → X) (ys : List Y) (start : A) where
  pub each_next :
      (at : ℕ) (d : Y) (read next : A) → at < length ys → and_each step read (map seen (drop at ys)) ≡ and_each step start (map seen ys)
      → step read (seen (get_or ys at d)) ≡ Ok next → and_each step next (map seen (drop (at + 1) ys)) ≡ and_each step start (map seen ys)
  each_next at d read next within so_far is =
      sym (ap (λ r. and_then r (λ n. and_each step n (map seen (drop (at + 1) ys)))) is)
      ∙ sym (ap (λ rest. and_each step read (map seen rest)) (drop_more ys at d within)) ∙ so_far

  pub each_stops :
      (at : ℕ) (d : Y) (read : A) (fault : ModelFault) → at < length ys → and_each step read (map seen (drop at ys)) ≡ and_each step start (map seen ys)
      → step read (seen (get_or ys at d)) ≡ Err fault → and_each step start (map seen ys) ≡ Err fault
  each_stops at d read fault within so_far is =
      sym so_far ∙ ap (λ rest. and_each step read (map seen rest)) (drop_more ys at d within)
      ∙ ap (λ r. and_then r (λ n. and_each step n (map seen (drop (at + 1) ys)))) is

  pub each_ends : (at : ℕ) (read : A) → length ys ≤ at → and_each step read (map seen (drop at ys)) ≡ and_each step start (map seen ys) → and_each step start (map seen ys) ≡ Ok read
  each_ends at read past so_far = sym so_far ∙ ap (λ rest. and_each step read (map seen rest)) (drop_all at ys past)

pub map_same : {X : Type 0} (xs : List X) → map (λ x. x) xs ≡ xs
map_same [] = refl
map_same (x ∷ xs) = ap (λ rest. x ∷ rest) (map_same xs)

-- one more text behind others
pub one_more : {Y : Type 0} (f : Y → List ℕ) (names : List (Bor (List ℕ))) (name : Bor (List ℕ)) (ys : List Y) (at : ℕ) (d : Y) → at < length ys
    → map (λ n. n.now) names ≡ map f (take at ys) → name.now ≡ f (get_or ys at d) → map (λ n. n.now) (names ++ name ∷ []) ≡ map f (take (at + 1) ys)
one_more f names name ys at d within e is =
    map-append (λ (n : Bor (List ℕ)). n.now) names (name ∷ []) ∙ ap (λ ns. ns ++ name.now ∷ []) e ∙ ap (λ t. map f (take at ys) ++ t ∷ []) is
    ∙ sym (ap (map f) (take_more ys at d within) ∙ map-append f (take at ys) (get_or ys at d ∷ []))

-- the first refusal among names
pub stays : {C : Type 0} (a b : Option C) → is_some a ≡ true → option_or a b ≡ a
stays None b h = cc
stays (Some c) b h = refl

pub goes_on : {C : Type 0} (a b : Option C) → is_some a ≡ false → option_or a b ≡ b
goes_on None b h = refl
goes_on (Some c) b h = cc

pub code_more : (prefix : ℕ) (names : List (Bor (List ℕ))) (at : ℕ) (d : Bor (List ℕ)) (code : Option DiagCode) → at < length names → code ≡ name_code prefix (get_or names at d).now
    → names_code prefix (map (λ n. n.now) (drop at names)) ≡ option_or code (names_code prefix (map (λ n. n.now) (drop (at + 1) names)))
code_more prefix names at d code within is =
    ap (λ rest. names_code prefix (map (λ (n : Bor (List ℕ)). n.now) rest)) (drop_more names at d within)
    ∙ ap (λ o. option_or o (names_code prefix (map (λ (n : Bor (List ℕ)). n.now) (drop (at + 1) names)))) (sym is)

-- one more name of a value
pub keep_more : (fold : Bool) (line : ℕ) (names : List (Bor (List ℕ))) (at : ℕ) (d : Bor (List ℕ)) (kept next all : Kept) → at < length names
    → keep_names fold line kept (map (λ n. n.now) (drop at names)) ≡ all → keep_name fold line kept (get_or names at d).now ≡ next
    → keep_names fold line next (map (λ n. n.now) (drop (at + 1) names)) ≡ all
keep_more fold line names at d kept next all within so_far is =
    sym (ap (λ k. keep_names fold line k (map (λ (n : Bor (List ℕ)). n.now) (drop (at + 1) names))) is)
    ∙ sym (ap (λ rest. keep_names fold line kept (map (λ (n : Bor (List ℕ)). n.now) rest)) (drop_more names at d within)) ∙ so_far

pub keep_all : (fold : Bool) (line : ℕ) (names : List (Bor (List ℕ))) (at : ℕ) (kept all : Kept) → length names ≤ at → keep_names fold line kept (map (λ n. n.now) (drop at names)) ≡ all → all ≡ kept
keep_all fold line names at kept all past so_far = sym so_far ∙ ap (λ rest. keep_names fold line kept (map (λ (n : Bor (List ℕ)). n.now) rest)) (drop_all at names past)
