-- What is known on a partial row is so on every row that contains it.
use Rattle.std.proofs.Common.{◌≡◌, ℕ, Bool, true, false, ◌&&◌, ◌||◌, not, if◌then◌else◌, List, [], ◌∷◌, Option, ◌∙◌, sym, ap, subst, refl}
use Rattle.std.specs.List.{list_all, list_any}
use Rattle.std.specs.Ordering.{is_eq}
use Rattle.std.proofs.lemmas.Bool.{and_parts}
use Rattle.cov_model.specs.declared.truth.Truth.{Truth}
use Rattle.cov_model.specs.declared.truth.Truth.TheVariants.{Yes, No, Unknown}
use Rattle.cov_model.specs.declared.parameter.Value.{Value}
use Rattle.cov_model.specs.declared.constraint.Term as terms
use Rattle.cov_model.specs.declared.constraint.Term.TheVariants.{ValueIs, ParamIs, OneOf, Like, Negative, Positive}
use Rattle.cov_model.specs.believed.Views.{PredView, PredViews, Leaf, Negated, Each, Either, End, More, BodyView, Plain, IfThen, IfElse}
use Rattle.value_text.specs.believed.Like.{is_like}
use Rattle.cov_model.specs.believed.Sound.{ModelView, IsSoundTerm, IsSoundPred, AreSoundPreds, param_at, first_name}
use Rattle.cov_model.specs.believed.Rows.{contains, is_assigned}
use Rattle.cov_model.specs.believed.Meaning.{given_value, value_at, operand, operand_of, literal_order, stands_in, term_holds, pred_holds, all_hold, any_holds, body_holds}
use Rattle.cov_model.specs.believed.Kleene.{known, not_of, and_of, or_of, term_params, term_truth, pred_truth, all_truth, any_truth, body_truth}
use Rattle.cov_model.specs.believed.Valid.{is_row}
use Rattle.cov_model.specs.Laws.{NoStays, YesStays, RowsAreKnown}
use Rattle.cov_model.proofs.CellLemmas.{contains-value_in}
use Rattle.cov_model.proofs.RowLemmas.{row_is_assigned}

-- what is known of a fact is so
abbrev Agrees : Truth → Bool → Type 0
Agrees Yes holds = holds ≡ true
Agrees No holds = holds ≡ false
Agrees Unknown holds = Unit {0}

agree_if : (assigned a x : Bool) → (assigned ≡ true → a ≡ x) → Agrees (if assigned then known a else Unknown) x
agree_if true true x same = sym (same refl)
agree_if true false x same = sym (same refl)
agree_if false a x same = tt

agree_not : (a : Truth) (x : Bool) → Agrees a x → Agrees (not_of a) (not x)
agree_not Yes x h = ap not h
agree_not No x h = ap not h
agree_not Unknown x h = tt

agree_and : (a b : Truth) (x y : Bool) → Agrees a x → Agrees b y → Agrees (and_of a b) (x && y)
agree_and Yes b x y h k = subst (λ (z : Bool). Agrees b (z && y)) (sym h) k
agree_and No b x y h k = ap (λ (z : Bool). z && y) h
agree_and Unknown Yes x y h k = tt
agree_and Unknown No true y h k = k
agree_and Unknown No false y h k = refl
agree_and Unknown Unknown x y h k = tt

agree_or : (a b : Truth) (x y : Bool) → Agrees a x → Agrees b y → Agrees (or_of a b) (x || y)
agree_or Yes b x y h k = ap (λ (z : Bool). z || y) h
agree_or No b x y h k = subst (λ (z : Bool). Agrees b (z || y)) (sym h) k
agree_or Unknown Yes true y h k = refl
agree_or Unknown Yes false y h k = k
agree_or Unknown No x y h k = tt
agree_or Unknown Unknown x y h k = tt

given_value-contains : (m : ModelView) (cells row : List (Option ℕ)) (p : ℕ) → contains row cells ≡ true → is_assigned cells p ≡ true
    → given_value m cells p ≡ given_value m row p
given_value-contains m cells row p contained assigned =
    ap (value_at m p) (sym (contains-value_in row cells p contained assigned))

-- a term whose parameters are assigned holds on a row that contains the partial row where it holds there
term_holds-contains : (m : ModelView) (term : terms.Term) (cells row : List (Option ℕ)) → contains row cells ≡ true
    → list_all (λ p. is_assigned cells p) (term_params term) ≡ true → term_holds m term cells ≡ term_holds m term row
term_holds-contains m (ValueIs p rel literal) cells row contained assigned =
    ap (λ (value : Value). stands_in rel (literal_order m.fold (operand_of (param_at m.params p).numeric (first_name value)) literal))
    (given_value-contains m cells row p contained (and_parts _ _ assigned).0)
term_holds-contains m (ParamIs p rel q) cells row contained assigned =
    ap (λ (value : Value). stands_in rel (literal_order m.fold (operand_of (param_at m.params p).numeric (first_name value)) (operand m cells q)))
    (given_value-contains m cells row p contained (and_parts _ _ assigned).0)
    ∙ ap (λ (value : Value). stands_in rel (literal_order m.fold (operand m row p) (operand_of (param_at m.params q).numeric (first_name value))))
    (given_value-contains m cells row q contained (and_parts _ _ (and_parts _ _ assigned).1).0)
term_holds-contains m (OneOf p literals) cells row contained assigned =
    ap (λ (value : Value). list_any (λ literal. is_eq (literal_order m.fold (operand_of (param_at m.params p).numeric (first_name value)) literal)) literals)
    (given_value-contains m cells row p contained (and_parts _ _ assigned).0)
term_holds-contains m (Like p pattern) cells row contained assigned =
    ap (λ (value : Value). is_like m.fold pattern (first_name value)) (given_value-contains m cells row p contained (and_parts _ _ assigned).0)
term_holds-contains m (Negative p) cells row contained assigned =
    ap (λ (value : Value). value.negative) (given_value-contains m cells row p contained (and_parts _ _ assigned).0)
term_holds-contains m (Positive p) cells row contained assigned =
    ap (λ (value : Value). not value.negative) (given_value-contains m cells row p contained (and_parts _ _ assigned).0)

agree_term : (m : ModelView) (term : terms.Term) (cells row : List (Option ℕ)) → contains row cells ≡ true
    → Agrees (term_truth m term cells) (term_holds m term row)
agree_term m term cells row contained =
    agree_if (list_all (λ p. is_assigned cells p) (term_params term)) (term_holds m term cells) (term_holds m term row)
    (term_holds-contains m term cells row contained)

mutual
  agree_pred : (m : ModelView) (pred : PredView) (cells row : List (Option ℕ)) → contains row cells ≡ true
      → Agrees (pred_truth m pred cells) (pred_holds m pred row)
  agree_pred m (Leaf term) cells row contained = agree_term m term cells row contained
  agree_pred m (Negated inner) cells row contained =
      agree_not (pred_truth m inner cells) (pred_holds m inner row) (agree_pred m inner cells row contained)
  agree_pred m (Each parts) cells row contained = agree_all m parts cells row contained
  agree_pred m (Either parts) cells row contained = agree_any m parts cells row contained

  agree_all : (m : ModelView) (parts : PredViews) (cells row : List (Option ℕ)) → contains row cells ≡ true
      → Agrees (all_truth m parts cells) (all_hold m parts row)
  agree_all m End cells row contained = refl
  agree_all m (More part rest) cells row contained =
      agree_and (pred_truth m part cells) (all_truth m rest cells) (pred_holds m part row) (all_hold m rest row)
      (agree_pred m part cells row contained) (agree_all m rest cells row contained)

  agree_any : (m : ModelView) (parts : PredViews) (cells row : List (Option ℕ)) → contains row cells ≡ true
      → Agrees (any_truth m parts cells) (any_holds m parts row)
  agree_any m End cells row contained = refl
  agree_any m (More part rest) cells row contained =
      agree_or (pred_truth m part cells) (any_truth m rest cells) (pred_holds m part row) (any_holds m rest row)
      (agree_pred m part cells row contained) (agree_any m rest cells row contained)

agree_body : (m : ModelView) (body : BodyView) (cells row : List (Option ℕ)) → contains row cells ≡ true
    → Agrees (body_truth m body cells) (body_holds m body row)
agree_body m (Plain pred) cells row contained = agree_pred m pred cells row contained
agree_body m (IfThen premise pred) cells row contained =
    agree_or (not_of (pred_truth m premise cells)) (pred_truth m pred cells) (not (pred_holds m premise row)) (pred_holds m pred row)
    (agree_not _ _ (agree_pred m premise cells row contained)) (agree_pred m pred cells row contained)
agree_body m (IfElse premise pred other) cells row contained =
    agree_and (or_of (not_of (pred_truth m premise cells)) (pred_truth m pred cells)) (or_of (pred_truth m premise cells) (pred_truth m other cells))
    (not (pred_holds m premise row) || pred_holds m pred row) (pred_holds m premise row || pred_holds m other row)
    (agree_or (not_of (pred_truth m premise cells)) (pred_truth m pred cells) (not (pred_holds m premise row)) (pred_holds m pred row)
    (agree_not (pred_truth m premise cells) (pred_holds m premise row) (agree_pred m premise cells row contained)) (agree_pred m pred cells row contained))
    (agree_or (pred_truth m premise cells) (pred_truth m other cells) (pred_holds m premise row) (pred_holds m other row)
    (agree_pred m premise cells row contained) (agree_pred m other cells row contained))

pub no_stays : NoStays
no_stays m body cells row contained is_no =
    subst (λ (truth : Truth). Agrees truth (body_holds m body row)) is_no (agree_body m body cells row contained)

pub yes_stays : YesStays
yes_stays m body cells row contained is_yes =
    subst (λ (truth : Truth). Agrees truth (body_holds m body row)) is_yes (agree_body m body cells row contained)

not_of-known : (a : Bool) → not_of (known a) ≡ known (not a)
not_of-known true = refl
not_of-known false = refl

and_of-known : (a b : Bool) → and_of (known a) (known b) ≡ known (a && b)
and_of-known true b = refl
and_of-known false b = refl

or_of-known : (a b : Bool) → or_of (known a) (known b) ≡ known (a || b)
or_of-known true b = refl
or_of-known false b = refl

not_known : (a : Truth) (x : Bool) → a ≡ known x → not_of a ≡ known (not x)
not_known a x h = ap not_of h ∙ not_of-known x

and_known : (a b : Truth) (x y : Bool) → a ≡ known x → b ≡ known y → and_of a b ≡ known (x && y)
and_known a b x y h k = ap (λ (t : Truth). and_of t b) h ∙ ap (λ (t : Truth). and_of (known x) t) k ∙ and_of-known x y

or_known : (a b : Truth) (x y : Bool) → a ≡ known x → b ≡ known y → or_of a b ≡ known (x || y)
or_known a b x y h k = ap (λ (t : Truth). or_of t b) h ∙ ap (λ (t : Truth). or_of (known x) t) k ∙ or_of-known x y

one_assigned : (row : List (Option ℕ)) (p : ℕ) → is_assigned row p ≡ true → list_all (λ q. is_assigned row q) (p ∷ []) ≡ true
one_assigned row p assigned = ap (λ (b : Bool). b && true) assigned

term_assigned : (m : ModelView) (term : terms.Term) (row : List (Option ℕ)) → IsSoundTerm m.params term → is_row m row ≡ true
    → list_all (λ p. is_assigned row p) (term_params term) ≡ true
term_assigned m (ValueIs p rel literal) row sound complete = one_assigned row p (row_is_assigned m row p complete sound.0)
term_assigned m (ParamIs p rel q) row sound complete =
    ap (λ (b : Bool). b && (is_assigned row q && true)) (row_is_assigned m row p complete sound.0)
    ∙ one_assigned row q (row_is_assigned m row q complete sound.1)
term_assigned m (OneOf p literals) row sound complete = one_assigned row p (row_is_assigned m row p complete sound.0)
term_assigned m (Like p pattern) row sound complete = one_assigned row p (row_is_assigned m row p complete sound.0)
term_assigned m (Negative p) row sound complete = one_assigned row p (row_is_assigned m row p complete sound)
term_assigned m (Positive p) row sound complete = one_assigned row p (row_is_assigned m row p complete sound)

known_term : (m : ModelView) (term : terms.Term) (row : List (Option ℕ)) → IsSoundTerm m.params term → is_row m row ≡ true
    → term_truth m term row ≡ known (term_holds m term row)
known_term m term row sound complete =
    ap (λ (b : Bool). if b then known (term_holds m term row) else Unknown) (term_assigned m term row sound complete)

mutual
  known_pred : (m : ModelView) (pred : PredView) (row : List (Option ℕ)) → IsSoundPred m.params pred → is_row m row ≡ true
      → pred_truth m pred row ≡ known (pred_holds m pred row)
  known_pred m (Leaf term) row sound complete = known_term m term row sound complete
  known_pred m (Negated inner) row sound complete =
      not_known (pred_truth m inner row) (pred_holds m inner row) (known_pred m inner row sound complete)
  known_pred m (Each parts) row sound complete = known_all m parts row sound complete
  known_pred m (Either parts) row sound complete = known_any m parts row sound complete

  known_all : (m : ModelView) (parts : PredViews) (row : List (Option ℕ)) → AreSoundPreds m.params parts → is_row m row ≡ true
      → all_truth m parts row ≡ known (all_hold m parts row)
  known_all m End row sound complete = refl
  known_all m (More part rest) row sound complete =
      and_known (pred_truth m part row) (all_truth m rest row) (pred_holds m part row) (all_hold m rest row)
      (known_pred m part row sound.0 complete) (known_all m rest row sound.1 complete)

  known_any : (m : ModelView) (parts : PredViews) (row : List (Option ℕ)) → AreSoundPreds m.params parts → is_row m row ≡ true
      → any_truth m parts row ≡ known (any_holds m parts row)
  known_any m End row sound complete = refl
  known_any m (More part rest) row sound complete =
      or_known (pred_truth m part row) (any_truth m rest row) (pred_holds m part row) (any_holds m rest row)
      (known_pred m part row sound.0 complete) (known_any m rest row sound.1 complete)

pub rows_are_known : RowsAreKnown
rows_are_known m (Plain pred) row sound complete = known_pred m pred row sound complete
rows_are_known m (IfThen premise pred) row sound complete =
    or_known (not_of (pred_truth m premise row)) (pred_truth m pred row) (not (pred_holds m premise row)) (pred_holds m pred row)
    (not_known (pred_truth m premise row) (pred_holds m premise row) (known_pred m premise row sound.0 complete)) (known_pred m pred row sound.1 complete)
rows_are_known m (IfElse premise pred other) row sound complete =
    and_known (or_of (not_of (pred_truth m premise row)) (pred_truth m pred row)) (or_of (pred_truth m premise row) (pred_truth m other row))
    (not (pred_holds m premise row) || pred_holds m pred row) (pred_holds m premise row || pred_holds m other row)
    (or_known (not_of (pred_truth m premise row)) (pred_truth m pred row) (not (pred_holds m premise row)) (pred_holds m pred row)
    (not_known (pred_truth m premise row) (pred_holds m premise row) (known_pred m premise row sound.0 complete)) (known_pred m pred row sound.1 complete))
    (or_known (pred_truth m premise row) (pred_truth m other row) (pred_holds m premise row) (pred_holds m other row)
    (known_pred m premise row sound.0 complete) (known_pred m other row sound.2 complete))
