-- What is known of a constraint stays so when cells get values.
use Rattle.std.proofs.Common.{◌≡◌, ℕ, Bool, true, false, not, ◌&&◌, if◌then◌else◌, List, Option, Some, None, is_some, unwrap_or, get_or, ap, sym, subst, ◌∙◌, refl}
use Rattle.std.specs.List.{list_any}
use Rattle.std.specs.Ordering.{is_eq}
use Rattle.std.proofs.lemmas.Bool.{false≢true}
use Rattle.value_text.specs.believed.Like.{is_like}
use Rattle.cov_model.specs.declared.truth.Truth.{Truth}
use Rattle.cov_model.specs.declared.truth.Truth.TheVariants.{Yes, No, Unknown}
use Rattle.cov_model.specs.declared.constraint.Literal.{Literal}
use Rattle.cov_model.specs.declared.constraint.Term as terms
use Rattle.cov_model.specs.declared.constraint.Term.TheVariants.{ValueIs, ParamIs, OneOf, Like, Negative, Positive}
use Rattle.cov_model.specs.believed.Views.{PredView, PredViews, Leaf, Negated, Each, Either, End, More, BodyView, Plain, IfThen, IfElse}
use Rattle.cov_model.specs.believed.Sound.{ModelView, param_at, first_name}
use Rattle.cov_model.specs.believed.Rows.{is_assigned}
use Rattle.cov_model.specs.believed.Meaning.{value_at, operand_of, literal_order, stands_in}
use Rattle.cov_model.specs.believed.Kleene.{known, not_of, and_of, or_of, term_truth, pred_truth, all_truth, any_truth, body_truth}
use Rattle.definitions.specs.believed.Search.{is_no}
use Rattle.compiled_rules.specs.Codes.{is_yes}

-- what is known stays
abbrev pub Stays : Truth → Truth → Type 0
Stays Yes t = t ≡ Yes
Stays No t = t ≡ No
Stays Unknown t = Unit {0}

stays_self : (t : Truth) → Stays t t
stays_self Yes = refl
stays_self No = refl
stays_self Unknown = tt

stays_not : (s t : Truth) → Stays s t → Stays (not_of s) (not_of t)
stays_not Yes t h = ap not_of h
stays_not No t h = ap not_of h
stays_not Unknown t h = tt

and_no : (t : Truth) → and_of t No ≡ No
and_no Yes = refl
and_no No = refl
and_no Unknown = refl

or_yes : (t : Truth) → or_of t Yes ≡ Yes
or_yes Yes = refl
or_yes No = refl
or_yes Unknown = refl

stays_and : (s t u v : Truth) → Stays s t → Stays u v → Stays (and_of s u) (and_of t v)
stays_and No t u v h g = ap (λ (x : Truth). and_of x v) h
stays_and Yes t Yes v h g = ap (λ (x : Truth). and_of x v) h ∙ g
stays_and Yes t No v h g = ap (λ (x : Truth). and_of x v) h ∙ g
stays_and Yes t Unknown v h g = tt
stays_and Unknown t Yes v h g = tt
stays_and Unknown t No v h g = ap (λ (x : Truth). and_of t x) g ∙ and_no t
stays_and Unknown t Unknown v h g = tt

stays_or : (s t u v : Truth) → Stays s t → Stays u v → Stays (or_of s u) (or_of t v)
stays_or Yes t u v h g = ap (λ (x : Truth). or_of x v) h
stays_or No t Yes v h g = ap (λ (x : Truth). or_of x v) h ∙ g
stays_or No t No v h g = ap (λ (x : Truth). or_of x v) h ∙ g
stays_or No t Unknown v h g = tt
stays_or Unknown t No v h g = tt
stays_or Unknown t Yes v h g = ap (λ (x : Truth). or_of t x) g ∙ or_yes t
stays_or Unknown t Unknown v h g = tt

-- the longer row gives every value that the other gives
abbrev pub Longer : List (Option ℕ) → List (Option ℕ) → Type 0
Longer a b = (q : ℕ) → is_assigned a q ≡ true → get_or b q None ≡ get_or a q None

stays_one : (holds : Option ℕ → Bool) (x y : Option ℕ) → (is_some x ≡ true → y ≡ x)
    → Stays (if is_some x && true then known (holds x) else Unknown) (if is_some y && true then known (holds y) else Unknown)
stays_one holds None y same = tt
stays_one holds (Some v) y same =
    subst (λ (cell : Option ℕ). Stays (known (holds (Some v))) (if is_some cell && true then known (holds cell) else Unknown)) (sym (same refl))
    (stays_self (known (holds (Some v))))

stays_two : (holds : Option ℕ → Option ℕ → Bool) (x y u v : Option ℕ) → (is_some x ≡ true → y ≡ x) → (is_some u ≡ true → v ≡ u)
    → Stays (if is_some x && (is_some u && true) then known (holds x u) else Unknown)
    (if is_some y && (is_some v && true) then known (holds y v) else Unknown)
stays_two holds None y u v same also = tt
stays_two holds (Some a) y None v same also = tt
stays_two holds (Some a) y (Some b) v same also =
    subst (λ (cell : Option ℕ). Stays (known (holds (Some a) (Some b))) (if is_some cell && (is_some v && true) then known (holds cell v) else Unknown))
    (sym (same refl))
    (subst (λ (cell : Option ℕ). Stays (known (holds (Some a) (Some b))) (if true && (is_some cell && true) then known (holds (Some a) cell) else Unknown))
    (sym (also refl))
    (stays_self (known (holds (Some a) (Some b)))))

stays_term : (m : ModelView) (term : terms.Term) (a b : List (Option ℕ)) → Longer a b → Stays (term_truth m term a) (term_truth m term b)
stays_term m (ValueIs p rel literal) a b longer =
    stays_one (λ cell. stands_in rel (literal_order m.fold (operand_of (param_at m.params p).numeric (first_name (value_at m p (unwrap_or cell 0)))) literal))
    _ _ (longer p)
stays_term m (ParamIs p rel q) a b longer =
    stays_two (λ x y. stands_in rel (literal_order m.fold (operand_of (param_at m.params p).numeric (first_name (value_at m p (unwrap_or x 0))))
    (operand_of (param_at m.params q).numeric (first_name (value_at m q (unwrap_or y 0)))))) _ _ _ _ (longer p) (longer q)
stays_term m (OneOf p literals) a b longer =
    stays_one (λ cell. list_any (λ (literal : Literal). is_eq (literal_order m.fold
    (operand_of (param_at m.params p).numeric (first_name (value_at m p (unwrap_or cell 0)))) literal)) literals) _ _ (longer p)
stays_term m (Like p pattern) a b longer = stays_one (λ cell. is_like m.fold pattern (first_name (value_at m p (unwrap_or cell 0)))) _ _ (longer p)
stays_term m (Negative p) a b longer = stays_one (λ cell. (value_at m p (unwrap_or cell 0)).negative) _ _ (longer p)
stays_term m (Positive p) a b longer = stays_one (λ cell. not (value_at m p (unwrap_or cell 0)).negative) _ _ (longer p)

mutual
  stays_pred : (m : ModelView) (pred : PredView) (a b : List (Option ℕ)) → Longer a b → Stays (pred_truth m pred a) (pred_truth m pred b)
  stays_pred m (Leaf term) a b longer = stays_term m term a b longer
  stays_pred m (Negated inner) a b longer = stays_not (pred_truth m inner a) (pred_truth m inner b) (stays_pred m inner a b longer)
  stays_pred m (Each parts) a b longer = stays_all m parts a b longer
  stays_pred m (Either parts) a b longer = stays_any m parts a b longer

  stays_all : (m : ModelView) (parts : PredViews) (a b : List (Option ℕ)) → Longer a b → Stays (all_truth m parts a) (all_truth m parts b)
  stays_all m End a b longer = refl
  stays_all m (More part rest) a b longer =
      stays_and (pred_truth m part a) (pred_truth m part b) (all_truth m rest a) (all_truth m rest b) (stays_pred m part a b longer)
      (stays_all m rest a b longer)

  stays_any : (m : ModelView) (parts : PredViews) (a b : List (Option ℕ)) → Longer a b → Stays (any_truth m parts a) (any_truth m parts b)
  stays_any m End a b longer = refl
  stays_any m (More part rest) a b longer =
      stays_or (pred_truth m part a) (pred_truth m part b) (any_truth m rest a) (any_truth m rest b) (stays_pred m part a b longer)
      (stays_any m rest a b longer)

pub stays_body : (m : ModelView) (body : BodyView) (a b : List (Option ℕ)) → Longer a b → Stays (body_truth m body a) (body_truth m body b)
stays_body m (Plain pred) a b longer = stays_pred m pred a b longer
stays_body m (IfThen premise pred) a b longer =
    stays_or _ _ _ _ (stays_not _ _ (stays_pred m premise a b longer)) (stays_pred m pred a b longer)
stays_body m (IfElse premise pred other) a b longer =
    stays_and _ _ _ _ (stays_or _ _ _ _ (stays_not _ _ (stays_pred m premise a b longer)) (stays_pred m pred a b longer))
    (stays_or _ _ _ _ (stays_pred m premise a b longer) (stays_pred m other a b longer))

-- so a constraint that is No, or holds, is so on each longer row
pub no_from_no : (s t : Truth) → Stays s t → is_no s ≡ true → is_no t ≡ true
no_from_no Yes t h is = absurd (false≢true is)
no_from_no No t h is = ap is_no h
no_from_no Unknown t h is = absurd (false≢true is)

pub yes_from_yes : (s t : Truth) → Stays s t → is_yes s ≡ true → is_yes t ≡ true
yes_from_yes Yes t h is = ap is_yes h
yes_from_yes No t h is = absurd (false≢true is)
yes_from_yes Unknown t h is = absurd (false≢true is)

pub not_no : (t : Truth) → is_yes t ≡ true → is_no t ≡ false
not_no Yes is = refl
not_no No is = absurd (false≢true is)
not_no Unknown is = refl
