-- The lines of a translation have the bytes that a file may have.
use Rattle.std.proofs.Common.{◌≡◌, ℕ, Bool, true, false, ◌||◌, if◌then◌else◌, List, [], ◌∷◌, ◌++◌}
use Rattle.std.proofs.Common.{flat_map, length, map, drop, All, codes, refl, ap, subst, ◌∙◌, arith}
use Rattle.std.proofs.lemmas.Bool.{and_from, and_parts, cond_both, eqb-true}
use Rattle.std.proofs.lemmas.Bool.Decides.{nat_tests}
use Rattle.std.proofs.lemmas.List.Elements.{All-cons, All-head, All-nil, All-tail}
use Rattle.std.proofs.lemmas.List.Folds.{list_all-append}
use Rattle.std.specs.Char.{is_ascii_digit}
use Rattle.std.proofs.lemmas.List.{map-id}
use Rattle.std.specs.List.{list_all, list_any}
use Rattle.std.specs.Prelude.{◌==◌, nat_lt}
use Rattle.cov_model.specs.declared.constraint.Rel.{Rel}
use Rattle.cov_model.specs.declared.constraint.Rel.TheVariants.{Eq, Ne, Gt, Ge, Lt, Le}
use Rattle.model_lex.specs.believed.Sections.{is_word_byte}
use Rattle.model_parse.specs.believed.Pieces.{begins_with}
use Rattle.model_parse.specs.believed.Written.{joined}
use Rattle.acts_front.specs.believed.Lines.{is_allowed}
use Rattle.acts_front.specs.believed.ParameterLines.{Parameter, Scope, are_few_digits, is_name, is_true, is_value, is_whole, without_minus}
use Rattle.value_text.specs.believed.Numbers.{is_point}
use Rattle.acts_front.specs.believed.RelationLines as relations
use Rattle.acts_front.specs.believed.Tokens.{Token, Name, Whole, Words, Truth, Relation, Arrow, Or, And, Not, Open, Close}
use Rattle.acts_front.specs.believed.ActsFiles.{Line, Nothing, OfParameter, OfRelation, OfConstraint}
use Rattle.acts_front.specs.believed.Translation.{constraint_text, translated_text, opening, parameter_text, rel_text, relation_text, token_text, truth_text, value_text}
use Rattle.acts_front.specs.believed.Constraints.{Constraint, is_arrow}
use Rattle.acts_front.specs.declared.kind.Kind.{Kind}
use Rattle.acts_front.specs.declared.kind.Kind.TheVariants.{Int, Enum, Boolean}
use Rattle.acts_front.proofs.Given.{IsParameter, IsRelation}
use Rattle.acts_front.proofs.GivenTokens.{IsWritten}
use Rattle.acts_front.proofs.GivenLines.{IsConstraint, IsGiven}

abbrev pub Allowed : List ℕ → Type 0
Allowed text = list_all is_allowed text ≡ true

-- joined texts, and what passes a narrower test
pub appended : (a b : List ℕ) → Allowed a → Allowed b → Allowed (a ++ b)
appended a b one two = list_all-append is_allowed a b ∙ and_from _ _ one two

pub all_weaker : (p q : ℕ → Bool) → ((b : ℕ) → p b ≡ true → q b ≡ true) → (text : List ℕ) → list_all p text ≡ true → list_all q text ≡ true
all_weaker p q gives [] all = refl
all_weaker p q gives (b ∷ text) all = let parts = and_parts (p b) (list_all p text) all in and_from _ _ (gives b parts.0) (all_weaker p q gives text parts.1)

more_joined : (between : List ℕ) (texts : List (List ℕ)) → Allowed between → All Allowed texts → Allowed (flat_map (λ next. between ++ next) texts)
more_joined between [] gap all = refl
more_joined between (text ∷ texts) gap all =
    appended (between ++ text) (flat_map (λ next. between ++ next) texts) (appended between text gap (All-head Allowed text texts all))
    (more_joined between texts gap (All-tail Allowed text texts all))

pub joined_allowed : (between : List ℕ) (texts : List (List ℕ)) → Allowed between → All Allowed texts → Allowed (joined between texts)
joined_allowed between [] gap all = refl
joined_allowed between (text ∷ texts) gap all =
    appended text (flat_map (λ next. between ++ next) texts) (All-head Allowed text texts all) (more_joined between texts gap (All-tail Allowed text texts all))

-- ---- names, values and numbers

word_allowed : (b : ℕ) → is_word_byte b ≡ true → is_allowed b ≡ true
word_allowed b word = grind (arith, nat_tests)

digit_allowed : (b : ℕ) → is_ascii_digit b ≡ true → is_allowed b ≡ true
digit_allowed b digit = grind (arith, nat_tests)

symbol_allowed : (b : ℕ) → (is_word_byte b || is_point b) ≡ true → is_allowed b ≡ true
symbol_allowed b symbol = grind (arith, nat_tests)

pub name_allowed : (name : List ℕ) → is_name name ≡ true → Allowed name
name_allowed name named = all_weaker is_word_byte is_allowed word_allowed name (and_parts _ _ named).1

pub digits_allowed : (text : List ℕ) → are_few_digits text ≡ true → Allowed text
digits_allowed text digits = all_weaker is_ascii_digit is_allowed digit_allowed text (and_parts _ _ digits).1

pub whole_allowed : (text : List ℕ) → is_whole text ≡ true → Allowed text
whole_allowed [] whole = refl
whole_allowed (b ∷ rest) whole =
    by (begins_with 45 (b ∷ rest)) refl (digits_allowed (without_minus (b ∷ rest)) whole)
  where
    minus : begins_with 45 (b ∷ rest) ≡ true → is_allowed b ≡ true
    minus is = let same : b ≡ 45 = eqb-true b 45 (and_parts (nat_lt 0 (length (b ∷ rest))) (b == 45) is).1 in ap is_allowed same

    by : (is : Bool) → begins_with 45 (b ∷ rest) ≡ is → Allowed (if is then drop 1 (b ∷ rest) else b ∷ rest) → Allowed (b ∷ rest)
    by true is all = and_from _ _ (minus is) all
    by false is all = all

pub truth_allowed : (truth : Bool) → Allowed (truth_text truth)
truth_allowed true = refl
truth_allowed false = refl

pub value_allowed : (kind : Kind) (value : List ℕ) → is_value kind value ≡ true → Allowed (value_text kind value)
value_allowed Int value is = whole_allowed value is
value_allowed Enum value is = all_weaker (λ b. is_word_byte b || is_point b) is_allowed symbol_allowed value (and_parts _ _ is).1
value_allowed Boolean value is = truth_allowed (is_true value)

rel_allowed : (rel : Rel) → Allowed (rel_text rel)
rel_allowed Eq = refl
rel_allowed Ne = refl
rel_allowed Gt = refl
rel_allowed Ge = refl
rel_allowed Lt = refl
rel_allowed Le = refl

token_allowed : (token : Token) → IsWritten token → Allowed (token_text token)
token_allowed (Name name) is = appended (codes "[" ++ name) (codes "]") (appended (codes "[") name refl (name_allowed name is)) refl
token_allowed (Whole text) is = whole_allowed text is
token_allowed (Words text) is = appended (codes "\"" ++ text) (codes "\"") (appended (codes "\"") text refl is.allowed) refl
token_allowed (Truth truth) is = appended (codes "\"" ++ truth_text truth) (codes "\"") (appended (codes "\"") (truth_text truth) refl (truth_allowed truth)) refl
token_allowed (Relation rel) is = rel_allowed rel
token_allowed Arrow is = refl
token_allowed Or is = refl
token_allowed And is = refl
token_allowed Not is = refl
token_allowed Open is = refl
token_allowed Close is = refl

-- ---- lines

all_mapped : {X : Type 0} (P : X → Type 0) (text : X → List ℕ) → ((x : X) → P x → Allowed (text x)) → (list : List X) → All P list → All Allowed (map text list)
all_mapped P text gives [] all = All-nil Allowed
all_mapped P text gives (x ∷ list) all = All-cons Allowed (text x) (map text list) (gives x (All-head P x list all)) (all_mapped P text gives list (All-tail P x list all))

pub each_passes : {X : Type 0} (p : X → Bool) (list : List X) → list_all p list ≡ true → All (λ x. p x ≡ true) list
each_passes p [] all = All-nil (λ x. p x ≡ true)
each_passes p (x ∷ list) all = let parts = and_parts (p x) (list_all p list) all in All-cons (λ y. p y ≡ true) x list parts.0 (each_passes p list parts.1)

pub parameter_allowed : (scope : Scope) (param : Parameter) → IsParameter scope param → Allowed (parameter_text param)
parameter_allowed scope param is =
    appended (param.name ++ codes ": ") _ (appended param.name (codes ": ") (name_allowed param.name is.named) refl)
    (joined_allowed (codes ", ") (map (value_text param.kind) param.values) refl
    (all_mapped (λ value. is_value param.kind value ≡ true) (value_text param.kind) (value_allowed param.kind) param.values (each_passes (is_value param.kind) param.values is.values)))

pub relation_allowed : (scope : Scope) (relation : relations.Relation) → IsRelation scope relation → Allowed (relation_text relation)
relation_allowed scope relation is =
    appended (codes "@ " ++ relation.strength ++ codes " { " ++ joined (codes ", ") relation.members) (codes " }")
    (appended (codes "@ " ++ relation.strength ++ codes " { ") (joined (codes ", ") relation.members)
    (appended (codes "@ " ++ relation.strength) (codes " { ") (appended (codes "@ ") relation.strength refl (digits_allowed relation.strength is.digits)) refl)
    (joined_allowed (codes ", ") relation.members refl
    (subst (All Allowed) (map-same relation.members) (all_mapped (λ name. is_name name ≡ true) (λ name. name) name_allowed relation.members (each_passes is_name relation.members is.named)))))
    refl
  where
    map-same : (list : List (List ℕ)) → map (λ name. name) list ≡ list
    map-same list = map-id list

opening_allowed : (tokens : List Token) → Allowed (opening tokens)
opening_allowed tokens = cond_both (list_any is_arrow tokens) (codes "IF ") [] Allowed (λ e. refl) (λ e. refl)

pub constraint_allowed : (scope : Scope) (tokens : List Token) (constraint : Constraint) → IsConstraint scope tokens constraint → Allowed (constraint_text tokens)
constraint_allowed scope tokens constraint is =
    appended (opening tokens ++ joined (codes " ") (map token_text tokens)) (codes ";")
    (appended (opening tokens) _ (opening_allowed tokens) (joined_allowed (codes " ") (map token_text tokens) refl (all_mapped IsWritten token_text token_allowed tokens is.written)))
    refl

pub line_allowed : (scope : Scope) (line : Line) → IsGiven scope line → Allowed (translated_text line)
line_allowed scope Nothing is = refl
line_allowed scope (OfParameter param) is = parameter_allowed scope param is
line_allowed scope (OfRelation relation) is = relation_allowed scope relation is
line_allowed scope (OfConstraint tokens constraint) is = constraint_allowed scope tokens constraint is
