-- The model of the tests is sound, and which rows fit it.
use Rattle.std.proofs.Common.{◌≡◌, ℕ, zero, suc, ◌+◌, ◌<◌, ◌≤◌, true, false, List, [], ◌∷◌, ◌++◌, length, get_or, AllPairs, Option}
use Rattle.std.proofs.Common.{Some, None, IfSome, nat_lt, ◌&&◌, ◌∙◌, refl, sym, subst, ap, arith, codes}
use Rattle.std.specs.Str.{chars}
use Rattle.std.specs.List.{AllByRecursion}
use Rattle.std.proofs.lemmas.Bool.{false≢true}
use Rattle.std.proofs.lemmas.List.Elements.{All-from_recursion, All-push}
use Rattle.std.proofs.lemmas.Grind.{common_steps}
use Rattle.cov_model.specs.believed.Views.{RuleView}
use Rattle.cov_model.specs.declared.parameter.Param.{Param}
use Rattle.value_text.specs.believed.Texts.{is_same_text}
use Rattle.cov_model.specs.believed.Sound.{ModelView, IsSound, IsSoundParam, IsSoundValue, IsSoundGroup, IsSoundBody, param_at}
use Rattle.cov_model.specs.believed.Names.{is_name}
use Rattle.cov_model.specs.believed.Rows.{is_assigned, value_in}
use Rattle.cov_model.specs.Fits.{FitsModel}
use Rattle.cov_model.specs.believed.Valid.{is_row}
use Rattle.cov_model.specs.Sample.{sample_numbers, sample_texts, sample_params, sample_model, AreSampleRules}

abbrev PairsByRecursion : {X : Type 0} → (X → X → Type 0) → List X → Type 0
PairsByRecursion R [] = Unit {0}
PairsByRecursion R (x ∷ xs) = AllByRecursion (R x) xs × PairsByRecursion R xs

AllPairs-from_recursion : {X : Type 0} (R : X → X → Type 0) (xs : List X) → PairsByRecursion R xs → AllPairs R xs
AllPairs-from_recursion R [] h i j d before within = absurd (omega arith)
AllPairs-from_recursion R (x ∷ xs) h zero zero d before within = absurd (omega arith)
AllPairs-from_recursion R (x ∷ xs) h zero (suc j) d before within = All-from_recursion (R x) xs h.0 j d (omega arith)
AllPairs-from_recursion R (x ∷ xs) h (suc i) zero d before within = absurd (omega arith)
AllPairs-from_recursion R (x ∷ xs) h (suc i) (suc j) d before within = AllPairs-from_recursion R xs h.1 i j d (omega arith) (omega arith)

-- a value of one name
one_name : (name : List ℕ) (weight : ℕ) (negative : _) → is_name name ≡ true → (get_or name 0 0 ≡ 126 → ⊥)
    → IsSoundValue 126 (record { names = name ∷ []; weight = weight; negative = negative })
one_name name weight negative named unmarked = record {
  some = omega arith;
  few = omega arith;
  named = All-from_recursion (λ n. is_name n ≡ true) (name ∷ []) (named, tt);
  unmarked = All-from_recursion (λ n. get_or n 0 0 ≡ 126 → ⊥) (name ∷ []) (unmarked, tt);
}

numbers_sound : IsSoundParam 126 true (record { name = codes "A"; line = 1; numeric = true; values = sample_numbers })
unfolding chars
numbers_sound = record {
  named = refl;
  no_colon = refl;
  some = omega arith;
  few = omega arith;
  values = All-from_recursion (IsSoundValue 126) sample_numbers
      (one_name (codes "1") 1 false refl (λ e. omega (arith, e)), (one_name (codes "2.50") 1 false refl (λ e. omega (arith, e)), (one_name (codes "-3") 1 true refl (λ e. omega (arith, e)), tt)));
  distinct = AllPairs-from_recursion (λ a b. is_same_text true a b ≡ false) (codes "1" ∷ codes "2.50" ∷ codes "-3" ∷ [])
      ((refl, (refl, tt)), ((refl, tt), (tt, tt)));
  numeric = refl;
}

texts_sound : IsSoundParam 126 true (record { name = codes "B"; line = 2; numeric = false; values = sample_texts })
unfolding chars
texts_sound = record {
  named = refl;
  no_colon = refl;
  some = omega arith;
  few = omega arith;
  values = All-from_recursion (IsSoundValue 126) sample_texts (
    record {
      some = omega arith;
      few = omega arith;
      named = All-from_recursion (λ n. is_name n ≡ true) (codes "red" ∷ codes "rot" ∷ []) (refl, (refl, tt));
      unmarked = All-from_recursion (λ n. get_or n 0 0 ≡ 126 → ⊥) (codes "red" ∷ codes "rot" ∷ []) (λ e. omega (arith, e), (λ e. omega (arith, e), tt));
    },
    (one_name (codes "Green") 1 true refl (λ e. omega (arith, e)), tt),
  );
  distinct = AllPairs-from_recursion (λ a b. is_same_text true a b ≡ false) (codes "red" ∷ codes "rot" ∷ codes "Green" ∷ [])
      ((refl, (refl, tt)), ((refl, tt), (tt, tt)));
  numeric = refl;
}

pub sample_sound : (rules : List RuleView) → length rules ≤ 4096 → AreSampleRules rules → IsSound (sample_model rules)
sample_sound rules few are = record {
  some = omega arith;
  few = omega arith;
  params = All-from_recursion (IsSoundParam 126 true) sample_params (numbers_sound, (texts_sound, tt));
  distinct = AllPairs-from_recursion (λ (a b : Param). is_same_text true a.name b.name ≡ false) sample_params ((refl, tt), (tt, tt));
  prefix = refl;
  few_rules = few;
  numbered = are.numbered;
  rules = are.sound;
  demand = record {
    least = omega arith;
    most = omega arith;
    subs = All-from_recursion (IsSoundGroup 2) [] tt;
    relations = All-from_recursion (IsSoundGroup 2) [] tt;
  };
}

-- cells with values that exist fit
pub sample_fits : (m : ModelView) (a b : Option ℕ) → m.params ≡ sample_params → IfSome a (λ v. v < 3) → IfSome b (λ v. v < 2) → FitsModel m (a ∷ b ∷ [])
sample_fits m a b same first second = record {
  as_long = ap length (sym same);
  exist = λ p assigned. subst (λ params. value_in (a ∷ b ∷ []) p < length (param_at params p).values) (sym same) (within a b first second p assigned);
}
  where
    within : (a b : Option ℕ) → IfSome a (λ v. v < 3) → IfSome b (λ v. v < 2) → (p : ℕ) → is_assigned (a ∷ b ∷ []) p ≡ true
        → value_in (a ∷ b ∷ []) p < length (param_at sample_params p).values
    within (Some v) b first second zero assigned = first
    within None b first second zero assigned = absurd (false≢true assigned)
    within a (Some v) first second (suc zero) assigned = second
    within a None first second (suc zero) assigned = absurd (false≢true assigned)
    within a b first second (suc (suc p)) assigned = absurd (false≢true assigned)

-- rows with values that exist are rows
pub sample_row : (m : ModelView) (a b : ℕ) → m.params ≡ sample_params → nat_lt a 3 ≡ true → nat_lt b 2 ≡ true → is_row m (Some a ∷ Some b ∷ []) ≡ true
sample_row m a b same first second =
    subst (λ params. is_row (record m { params = params }) (Some a ∷ Some b ∷ []) ≡ true) (sym same)
    (ap (λ k. k && (nat_lt b 2 && true)) first ∙ ap (λ k. k && true) second)

-- one more constraint with the next number
pub sample_rules-push : (rules : List RuleView) (rule : RuleView) → AreSampleRules rules → rule.number ≡ length rules + 1 → IsSoundBody sample_params rule.body
    → AreSampleRules (rules ++ rule ∷ [])
sample_rules-push rules rule are next sound = record {
  numbered = λ i d within. grind (arith, common_steps, are.numbered i d);
  sound = All-push (λ r. IsSoundBody sample_params r.body) rules rule are.sound sound;
}
