-- A constraint of a translation means what the constraint of the file means.
use Rattle.std.proofs.Common.{◌≡◌, ℕ, ◌+◌, ◌*◌, ◌^◌, ◌<◌, pos, neg_ℤ, Bool, true, false, not, ◌&&◌, ◌||◌, List, []}
use Rattle.std.proofs.Common.{length, map, get_or, All, Some, None, Option, Ok, refl, sym, ap, ◌∙◌, arith, codes}
use Rattle.std.proofs.lemmas.Bool.{and_parts, ltb-true, false≢true}
use Rattle.std.proofs.lemmas.List.{get_or-map, length-map}
use Rattle.std.proofs.lemmas.List.FromFn.{get_or-range_with_len, length-range_with_len}
use Rattle.std.proofs.lemmas.Int.{ints}
use Rattle.std.proofs.lemmas.Map.Text.{is_eq-slice_cmp}
use Rattle.std.specs.Cmp.{int_cmp_is, int_ranks}
use Rattle.std.specs.List.{list_all, range_with_len}
use Rattle.std.specs.Ordering.{MatchOrdering, int_cmp, is_eq, is_ne}
use Rattle.std.specs.Int.Signed.{◌<ℤ◌}
use Rattle.std.specs.Prelude.{slice_index_or}
use Rattle.std.specs.Str.Parse.{digits_value}
use Rattle.std.specs.declared.cmp.Ordering.{Ordering}
use Rattle.std.specs.declared.cmp.Ordering.TheVariants.{Less, Equal, Greater}
use Rattle.value_text.specs.believed.Texts.{is_same_text, text_order, folded}
use Rattle.cov_model.specs.believed.Meaning as model
use Rattle.cov_model.specs.believed.Meaning.{body_holds, given_value, literal_order, no_value, number_in, operand, operand_of, stands_in, term_holds}
use Rattle.cov_model.specs.believed.Rows.{value_in}
use Rattle.cov_model.specs.believed.Sound.{ModelView, first_name, no_param, param_at}
use Rattle.cov_model.specs.believed.Valid.{has_value, is_row}
use Rattle.cov_model.specs.believed.Views.{RuleView}
use Rattle.cov_model.specs.declared.constraint.Literal.{Literal}
use Rattle.cov_model.specs.declared.constraint.Rel.{Rel}
use Rattle.cov_model.specs.declared.constraint.Rel.TheVariants.{Eq, Ne, Gt, Ge, Lt, Le}
use Rattle.cov_model.specs.declared.constraint.Term as terms
use Rattle.cov_model.specs.declared.constraint.Term.TheVariants as term
use Rattle.cov_model.specs.declared.demand.Demand.{Demand}
use Rattle.cov_model.specs.declared.parameter.Param.{Param}
use Rattle.type_check.specs.believed.Checking.{body_terms, first_refusal, given_that, is_of_type, is_same_type, literal_of, numeric_at, param_named}
use Rattle.type_check.specs.believed.Checking.{term_refusal_or, rel_of, term_of, terms_in, terms_of, with_param}
use Rattle.type_check.specs.believed.Constraints.{body_of, found_term, pred_of, preds_of}
use Rattle.type_check.proofs.Refusals.{behind_none}
use Rattle.constraint_ast.specs.declared.tree.RawLiteral.{RawLiteral}
use Rattle.constraint_ast.specs.declared.tree.RawLiteral.TheVariants as literals
use Rattle.constraint_ast.specs.declared.tree.RawTerm.TheVariants as raws
use Rattle.model_lex.specs.declared.diag.DiagCode.TheVariants.{TypeMismatch}
use Rattle.acts_front.specs.believed.Constraints.{Operand, OfWhole, OfText, OfTruth, OfParameter, Pred, Preds, Compares, Negated, Each, Either, End}
use Rattle.acts_front.specs.believed.Constraints.{More, Constraint, Plain, Implies, each_term, every_term, is_order, is_same_kind, is_typed, terms_pass}
use Rattle.acts_front.specs.believed.Meaning as acts
use Rattle.acts_front.specs.believed.Meaning.{compare, constraint_holds, content_at, content_of, given_content, is_as, is_same_truth, no_parameter, operand_content, whole_of}
use Rattle.acts_front.specs.believed.ParameterLines.{Parameter, Scope, is_true, is_value, is_whole, kind_named, without_minus}
use Rattle.acts_front.specs.believed.SameModels.{is_int, param_is, value_is}
use Rattle.acts_front.specs.believed.Translation.{truth_text, value_text}
use Rattle.acts_front.specs.declared.kind.Kind.{Kind}
use Rattle.acts_front.specs.declared.kind.Kind.TheVariants.{Int, Enum, Boolean}
use Rattle.acts_front.proofs.AllowedTexts.{each_passes}
use Rattle.acts_front.proofs.GivenLists.{declared_as, scope_of}
use Rattle.acts_front.proofs.Placed.{IsPlaced, kind_at, kind_declared, no_found, place_in, placed}
use Rattle.acts_front.proofs.TokensRead.{signed, whole_is_number}
use Rattle.acts_front.proofs.TranslatedTrees.{body_at, number_read, raw_rel, raw_term, tree_at, trees_at}
use Rattle.model_parse.specs.believed.Pieces.{begins_with}

-- ---- numbers, texts and truth values are compared alike

scaled_less : (one two : Bool) (x y : ℕ) → signed one x <ℤ signed two y → signed one (x * 10 ^ 9) <ℤ signed two (y * 10 ^ 9)
scaled_less false false x y is = less x y is
  where
    less : (x y : ℕ) → pos x <ℤ pos y → pos (x * 10 ^ 9) <ℤ pos (y * 10 ^ 9)
    less x y is = omega (arith, ints)
scaled_less false true x y is = less x y is
  where
    less : (x y : ℕ) → pos x <ℤ neg_ℤ (pos y) → pos (x * 10 ^ 9) <ℤ neg_ℤ (pos (y * 10 ^ 9))
    less x y is = omega (arith, ints)
scaled_less true false x y is = less x y is
  where
    less : (x y : ℕ) → neg_ℤ (pos x) <ℤ pos y → neg_ℤ (pos (x * 10 ^ 9)) <ℤ pos (y * 10 ^ 9)
    less x y is = omega (arith, ints)
scaled_less true true x y is = less x y is
  where
    less : (x y : ℕ) → neg_ℤ (pos x) <ℤ neg_ℤ (pos y) → neg_ℤ (pos (x * 10 ^ 9)) <ℤ neg_ℤ (pos (y * 10 ^ 9))
    less x y is = omega (arith, ints)

scaled_same : (one two : Bool) (x y : ℕ) → signed one x ≡ signed two y → signed one (x * 10 ^ 9) ≡ signed two (y * 10 ^ 9)
scaled_same false false x y is = same x y is
  where
    same : (x y : ℕ) → pos x ≡ pos y → pos (x * 10 ^ 9) ≡ pos (y * 10 ^ 9)
    same x y is = omega (arith, ints)
scaled_same false true x y is = same x y is
  where
    same : (x y : ℕ) → pos x ≡ neg_ℤ (pos y) → pos (x * 10 ^ 9) ≡ neg_ℤ (pos (y * 10 ^ 9))
    same x y is = omega (arith, ints)
scaled_same true false x y is = same x y is
  where
    same : (x y : ℕ) → neg_ℤ (pos x) ≡ pos y → neg_ℤ (pos (x * 10 ^ 9)) ≡ pos (y * 10 ^ 9)
    same x y is = omega (arith, ints)
scaled_same true true x y is = same x y is
  where
    same : (x y : ℕ) → neg_ℤ (pos x) ≡ neg_ℤ (pos y) → neg_ℤ (pos (x * 10 ^ 9)) ≡ neg_ℤ (pos (y * 10 ^ 9))
    same x y is = omega (arith, ints)

scaled_order : (one two : Bool) (x y : ℕ) → int_cmp (signed one (x * 10 ^ 9)) (signed two (y * 10 ^ 9)) ≡ int_cmp (signed one x) (signed two y)
scaled_order one two x y = sym (int_cmp_is (signed one (x * 10 ^ 9)) (signed two (y * 10 ^ 9))
    (int_cmp (signed one x) (signed two y)) (by (int_cmp (signed one x) (signed two y)) (int_ranks (signed one x) (signed two y))))
  where
    by : (o : Ordering) → MatchOrdering o (signed one x <ℤ signed two y) (signed one x ≡ signed two y) (signed two y <ℤ signed one x)
        → MatchOrdering o (signed one (x * 10 ^ 9) <ℤ signed two (y * 10 ^ 9)) (signed one (x * 10 ^ 9) ≡ signed two (y * 10 ^ 9)) (signed two (y * 10 ^ 9) <ℤ signed one (x * 10 ^ 9))
    by Less is = scaled_less one two x y is
    by Equal is = scaled_same one two x y is
    by Greater is = scaled_less two one y x is

wholes_compared : (rel : Rel) (a b : List ℕ) → is_whole a ≡ true → is_whole b ≡ true
    → stands_in rel (int_cmp (number_read a) (number_read b)) ≡ stands_in rel (int_cmp (whole_of a) (whole_of b))
wholes_compared rel a b one two =
    ap (λ n. stands_in rel (int_cmp n (number_read b))) (ap number_in (whole_is_number a one))
    ∙ (ap (λ n. stands_in rel (int_cmp (signed (begins_with 45 a) (digits_value 10 (without_minus a) * 10 ^ 9)) n)) (ap number_in (whole_is_number b two))
    ∙ ap (stands_in rel) (scaled_order (begins_with 45 a) (begins_with 45 b) (digits_value 10 (without_minus a)) (digits_value 10 (without_minus b))))

ne_is : (o : Ordering) → is_ne o ≡ not (is_eq o)
ne_is Less = refl
ne_is Equal = refl
ne_is Greater = refl

texts_compared : (fold : Bool) (rel : Rel) (a b : List ℕ) → is_order rel ≡ false → stands_in rel (text_order fold a b) ≡ is_as rel (is_same_text fold a b)
texts_compared fold Eq a b equality = is_eq-slice_cmp (folded fold a) (folded fold b)
texts_compared fold Ne a b equality = ne_is (text_order fold a b) ∙ ap not (is_eq-slice_cmp (folded fold a) (folded fold b))
texts_compared fold Gt a b equality = absurd (false≢true (sym equality))
texts_compared fold Ge a b equality = absurd (false≢true (sym equality))
texts_compared fold Lt a b equality = absurd (false≢true (sym equality))
texts_compared fold Le a b equality = absurd (false≢true (sym equality))

truths_compared : (fold : Bool) (rel : Rel) (a b : Bool) → is_order rel ≡ false → stands_in rel (text_order fold (truth_text a) (truth_text b)) ≡ is_as rel (is_same_truth a b)
truths_compared fold rel a b equality = texts_compared fold rel (truth_text a) (truth_text b) equality ∙ ap (is_as rel) (by fold a b)
  where
    by : (fold a b : Bool) → is_same_text fold (truth_text a) (truth_text b) ≡ is_same_truth a b
    by true true true = refl
    by true true false = refl
    by true false true = refl
    by true false false = refl
    by false true true = refl
    by false true false = refl
    by false false true = refl
    by false false false = refl

-- what constraints of a model see of a value of a type
abbrev seen : Kind → List ℕ → Literal
seen kind text = operand_of (is_int kind) (value_text kind text)

-- an order stands between whole numbers alone
abbrev IsOf : Rel → Kind → Type 0
IsOf rel Int = Unit {0}
IsOf rel Enum = is_order rel ≡ false
IsOf rel Boolean = is_order rel ≡ false

values_compared : (fold : Bool) (rel : Rel) (kind : Kind) (a b : List ℕ) → IsOf rel kind → is_value kind a ≡ true → is_value kind b ≡ true
    → stands_in rel (literal_order fold (seen kind a) (seen kind b)) ≡ compare fold rel (content_of kind a) (content_of kind b)
values_compared fold rel Int a b of one two = wholes_compared rel a b one two
values_compared fold rel Enum a b of one two = texts_compared fold rel a b of
values_compared fold rel Boolean a b of one two = truths_compared fold rel (is_true a) (is_true b) of

rel_back : (rel : Rel) → rel_of (raw_rel rel) ≡ rel
rel_back Eq = refl
rel_back Ne = refl
rel_back Gt = refl
rel_back Ge = refl
rel_back Lt = refl
rel_back Le = refl

-- ---- a term

-- a whole number is written as one
abbrev pub is_number_written : Operand → Bool
is_number_written (OfWhole text) = is_whole text
is_number_written (OfText text) = true
is_number_written (OfTruth truth) = true
is_number_written (OfParameter name) = true

-- ---- types

record AreBoth (a b : Option Kind) : Type 0 where
  kind : Kind
  one : a ≡ Some kind
  two : b ≡ Some kind

same_kinds : (a b : Option Kind) → is_same_kind a b ≡ true → AreBoth a b
same_kinds (Some Int) (Some Int) same = record { kind = Int; one = refl; two = refl }
same_kinds (Some Enum) (Some Enum) same = record { kind = Enum; one = refl; two = refl }
same_kinds (Some Boolean) (Some Boolean) same = record { kind = Boolean; one = refl; two = refl }
same_kinds (Some Int) (Some Enum) same = absurd (false≢true same)
same_kinds (Some Int) (Some Boolean) same = absurd (false≢true same)
same_kinds (Some Int) None same = absurd (false≢true same)
same_kinds (Some Enum) (Some Int) same = absurd (false≢true same)
same_kinds (Some Enum) (Some Boolean) same = absurd (false≢true same)
same_kinds (Some Enum) None same = absurd (false≢true same)
same_kinds (Some Boolean) (Some Int) same = absurd (false≢true same)
same_kinds (Some Boolean) (Some Enum) same = absurd (false≢true same)
same_kinds (Some Boolean) None same = absurd (false≢true same)
same_kinds None b same = absurd (false≢true same)

kinds_same : (a : Option Kind) (kind : Kind) → is_same_kind a (Some kind) ≡ true → a ≡ Some kind
kinds_same a kind same = let both = same_kinds a (Some kind) same in both.one ∙ sym both.two

equality_alone : (order : Bool) → (not order || false) ≡ true → order ≡ false
equality_alone false is = refl
equality_alone true is = absurd (false≢true is)

of_kinds : (rel : Rel) (kind : Kind) → (not (is_order rel) || is_same_kind (Some kind) (Some Int)) ≡ true → IsOf rel kind
of_kinds rel Int is = tt
of_kinds rel Enum is = equality_alone (is_order rel) is
of_kinds rel Boolean is = equality_alone (is_order rel) is

no_order : (rel : Rel) (a : Option Kind) (kind : Kind) → a ≡ Some kind → is_int kind ≡ false → (not (is_order rel) || is_same_kind a (Some Int)) ≡ true → is_order rel ≡ false
no_order rel a Int kind other is = absurd (false≢true (sym other))
no_order rel a Enum kind other is = of_kinds rel Enum (ap (λ k. not (is_order rel) || is_same_kind k (Some Int)) (sym kind) ∙ is)
no_order rel a Boolean kind other is = of_kinds rel Boolean (ap (λ k. not (is_order rel) || is_same_kind k (Some Int)) (sym kind) ∙ is)

abbrev pub is_all_written : List ℕ → Rel → Operand → Bool
is_all_written name rel operand = is_number_written operand

module _ (fold : Bool) (params : List (ℕ × Parameter)) (valued : All (λ found. list_all (is_value found.1.kind) found.1.values ≡ true) params)
    (rules : List RuleView) (demand : Demand) (prefix : ℕ) where
  abbrev pub m : ModelView
  m = record { params = map param_is params; rules = rules; demand = demand; prefix = prefix; fold = fold }

  abbrev found_at : ℕ → ℕ × Parameter
  found_at n = get_or params n no_found

  abbrev ours : List Parameter
  ours = map (λ found. found.1) params

  -- the text of the value that a row gives
  abbrev text_at : List (Option ℕ) → ℕ → List ℕ
  text_at row n = slice_index_or (found_at n).1.values (value_in row n) []

  param_is_at : (n : ℕ) → n < length params → param_at (map param_is params) n ≡ param_is (found_at n)
  param_is_at n within = get_or-map param_is params n no_found no_param within

  row_within : (row : List (Option ℕ)) (n : ℕ) → is_row m row ≡ true → n < length params → value_in row n < length (found_at n).1.values
  row_within row n is within =
      let size : length (map param_is params) ≡ length params = length-map params param_is in
      let range = range_with_len 0 (length (map param_is params)) in
      let count : n < length range = omega (arith, length-range_with_len 0 (length (map param_is params)), size, within) in
      let all = (and_parts _ _ is).1 in
      let here = each_passes (has_value m row) range all n 0 count in
      let number : get_or range n 0 ≡ n = get_or-range_with_len 0 (length (map param_is params)) n 0 (omega (arith, size, within)) ∙ zero_more n in
      let has : has_value m row n ≡ true = ap (has_value m row) (sym number) ∙ here in
      let below : value_in row n < length (param_at (map param_is params) n).values = ltb-true _ _ (and_parts _ _ has).1 in
      let same : length (param_at (map param_is params) n).values ≡ length (found_at n).1.values =
      ap (λ (p : Param). length p.values) (param_is_at n within) ∙ length-map (found_at n).1.values (value_is (found_at n).1.kind) in
      omega (arith, below, same)
    where
      zero_more : (n : ℕ) → 0 + n ≡ n
      zero_more n = omega arith

  text_is_value : (row : List (Option ℕ)) (n : ℕ) → is_row m row ≡ true → n < length params → is_value (found_at n).1.kind (text_at row n) ≡ true
  text_is_value row n is within =
      each_passes (is_value (found_at n).1.kind) (found_at n).1.values (valued n no_found within) (value_in row n) [] (row_within row n is within)

  operand_seen : (row : List (Option ℕ)) (n : ℕ) → is_row m row ≡ true → n < length params → operand m row n ≡ seen (found_at n).1.kind (text_at row n)
  operand_seen row n is within =
      let found = found_at n in
      let value : given_value m row n ≡ value_is found.1.kind (text_at row n) =
      ap (λ (p : Param). slice_index_or p.values (value_in row n) no_value) (param_is_at n within)
      ∙ get_or-map (value_is found.1.kind) found.1.values (value_in row n) [] no_value (row_within row n is within) in
      ap (λ (p : Param). operand_of p.numeric (first_name (given_value m row n))) (param_is_at n within) ∙ ap (λ v. operand_of (is_int found.1.kind) (first_name v)) value

  content_seen : (row : List (Option ℕ)) (n : ℕ) → n < length params → content_at ours row n ≡ content_of (found_at n).1.kind (text_at row n)
  content_seen row n within =
      ap (λ (p : Parameter). content_of p.kind (slice_index_or p.values (value_in row n) [])) (get_or-map (λ (f : ℕ × Parameter). f.1) params n no_found no_parameter within)

  abbrev pub scope : Scope
  scope = scope_of fold (map declared_as params)

  -- the parameter of a name with a type
  record IsTyped (name : List ℕ) (kind : Kind) : Type 0 where
    place : IsPlaced fold name params
    of_kind : (found_at (place_in fold name params)).1.kind ≡ kind

  typed : (name : List ℕ) (kind : Kind) → kind_named scope name ≡ Some kind → IsTyped name kind
  typed name kind is = record { place = placed fold name params (kind_declared fold name params kind is); of_kind = kind_at fold name params kind is }

  module _ (name : List ℕ) (kind : Kind) (is : IsTyped name kind) where
    numeric_is : numeric_at (map param_is params) (place_in fold name params) ≡ is_int kind
    numeric_is = ap (λ (p : Param). p.numeric) (param_is_at (place_in fold name params) is.place.within) ∙ ap is_int is.of_kind

    operand_is : (row : List (Option ℕ)) → is_row m row ≡ true → operand m row (place_in fold name params) ≡ seen kind (text_at row (place_in fold name params))
    operand_is row r = operand_seen row (place_in fold name params) r is.place.within ∙ ap (λ k. seen k (text_at row (place_in fold name params))) is.of_kind

    given_is : (row : List (Option ℕ)) → given_content fold ours row name ≡ content_of kind (text_at row (place_in fold name params))
    given_is row =
        ap (content_at ours row) is.place.as_number ∙ (content_seen row (place_in fold name params) is.place.within ∙ ap (λ k. content_of k (text_at row (place_in fold name params))) is.of_kind)

    value_given : (row : List (Option ℕ)) → is_row m row ≡ true → is_value kind (text_at row (place_in fold name params)) ≡ true
    value_given row r = ap (λ k. is_value k (text_at row (place_in fold name params))) (sym is.of_kind) ∙ text_is_value row (place_in fold name params) r is.place.within

  -- the term of a comparison
  record TermIs (name : List ℕ) (rel : Rel) (operand : Operand) : Type 0 where
    term : terms.Term
    found : term_of fold (map param_is params) (raw_term name rel operand) ≡ Ok term
    means : (row : List (Option ℕ)) → is_row m row ≡ true → term_holds m term row ≡ compare fold rel (given_content fold ours row name) (operand_content fold ours row operand)

  -- with a literal that stands for a text of the type
  literal_term : (name : List ℕ) (rel : Rel) (operand : Operand) (kind : Kind) (is : IsTyped name kind) (text : List ℕ) → IsOf rel kind
      → (holds : (a : List ℕ) → is_value kind a ≡ true → stands_in rel (literal_order fold (seen kind a) (seen kind text)) ≡ compare fold rel (content_of kind a) (content_of kind text))
      → term_of fold (map param_is params) (raw_term name rel operand) ≡ Ok (term.ValueIs (place_in fold name params) rel (seen kind text))
      → ((row : List (Option ℕ)) → operand_content fold ours row operand ≡ content_of kind text) → TermIs name rel operand
  literal_term name rel operand kind is text of holds found contents = record {
    term = term.ValueIs (place_in fold name params) rel (seen kind text);
    found = found;
    means = λ row r.
        ap (λ o. stands_in rel (literal_order fold o (seen kind text))) (operand_is name kind is row r)
        ∙ (holds (text_at row (place_in fold name params)) (value_given name kind is row r)
        ∙ (ap (λ c. compare fold rel c (content_of kind text)) (sym (given_is name kind is row)) ∙ ap (compare fold rel (given_content fold ours row name)) (sym (contents row))));
  }

  value_found : (name : List ℕ) (rel : Rel) (raw : RawLiteral) (kind : Kind) → IsTyped name kind → is_of_type (is_int kind) raw ≡ true
      → term_of fold (map param_is params) (raws.ValueIs name (raw_rel rel) raw) ≡ Ok (term.ValueIs (place_in fold name params) rel (literal_of raw))
  value_found name rel raw kind is passes =
      let n = place_in fold name params in
      ap (λ o. with_param o (λ p. given_that (is_of_type (numeric_at (map param_is params) p) raw) TypeMismatch (term.ValueIs p (rel_of (raw_rel rel)) (literal_of raw)))) is.place.as_param
      ∙ (ap (λ b. given_that b TypeMismatch (term.ValueIs n (rel_of (raw_rel rel)) (literal_of raw))) (ap (λ x. is_of_type x raw) (numeric_is name kind is) ∙ passes)
      ∙ ap (λ r. Ok (term.ValueIs n r (literal_of raw))) (rel_back rel))

  param_found : (name : List ℕ) (rel : Rel) (other : List ℕ) (kind : Kind) → IsTyped name kind → IsTyped other kind
      → term_of fold (map param_is params) (raws.ParamIs name (raw_rel rel) other) ≡ Ok (term.ParamIs (place_in fold name params) rel (place_in fold other params))
  param_found name rel other kind one two =
      let n = place_in fold name params in
      let k = place_in fold other params in
      let all = map param_is params in
      let same : is_same_type (numeric_at all n) (numeric_at all k) ≡ true =
      ap (λ x. is_same_type x (numeric_at all k)) (numeric_is name kind one) ∙ (ap (is_same_type (is_int kind)) (numeric_is other kind two) ∙ itself (is_int kind)) in
      ap (λ o. with_param o (λ p. with_param (param_named fold all other)
      (λ q. given_that (is_same_type (numeric_at all p) (numeric_at all q)) TypeMismatch (term.ParamIs p (rel_of (raw_rel rel)) q)))) one.place.as_param
      ∙ (ap (λ o. with_param o (λ q. given_that (is_same_type (numeric_at all n) (numeric_at all q)) TypeMismatch (term.ParamIs n (rel_of (raw_rel rel)) q))) two.place.as_param
      ∙ (ap (λ b. given_that b TypeMismatch (term.ParamIs n (rel_of (raw_rel rel)) k)) same ∙ ap (λ r. Ok (term.ParamIs n r k)) (rel_back rel)))
    where
      itself : (b : Bool) → is_same_type b b ≡ true
      itself true = refl
      itself false = refl

  term_is : (name : List ℕ) (rel : Rel) (operand : Operand) → is_typed scope name rel operand ≡ true → is_number_written operand ≡ true → TermIs name rel operand
  term_is name rel (OfWhole text) fits written =
      let tests = and_parts _ _ fits in
      let is = typed name Int (kinds_same (kind_named scope name) Int tests.0) in
      literal_term name rel (OfWhole text) Int is text tt (λ a value. wholes_compared rel a text value written) (value_found name rel (literals.Number (number_read text)) Int is refl) (λ row. refl)
  term_is name rel (OfText text) fits written =
      let tests = and_parts _ _ fits in
      let kind = kinds_same (kind_named scope name) Enum tests.0 in
      let of = no_order rel (kind_named scope name) Enum kind refl tests.1 in
      let is = typed name Enum kind in
      literal_term name rel (OfText text) Enum is text of (λ a value. texts_compared fold rel a text of) (value_found name rel (literals.Words text) Enum is refl) (λ row. refl)
  term_is name rel (OfTruth true) fits written =
      let tests = and_parts _ _ fits in
      let kind = kinds_same (kind_named scope name) Boolean tests.0 in
      let of = no_order rel (kind_named scope name) Boolean kind refl tests.1 in
      let is = typed name Boolean kind in
      literal_term name rel (OfTruth true) Boolean is (codes "TRUE") of (λ a value. truths_compared fold rel (is_true a) true of)
      (value_found name rel (literals.Words (truth_text true)) Boolean is refl) (λ row. refl)
  term_is name rel (OfTruth false) fits written =
      let tests = and_parts _ _ fits in
      let kind = kinds_same (kind_named scope name) Boolean tests.0 in
      let of = no_order rel (kind_named scope name) Boolean kind refl tests.1 in
      let is = typed name Boolean kind in
      literal_term name rel (OfTruth false) Boolean is (codes "FALSE") of (λ a value. truths_compared fold rel (is_true a) false of)
      (value_found name rel (literals.Words (truth_text false)) Boolean is refl) (λ row. refl)
  term_is name rel (OfParameter other) fits written =
      let tests = and_parts _ _ fits in
      let both = same_kinds (kind_named scope name) (kind_named scope other) tests.0 in
      let one = typed name both.kind both.one in
      let two = typed other both.kind both.two in
      let of = of_kinds rel both.kind (ap (λ k. not (is_order rel) || is_same_kind k (Some Int)) (sym both.one) ∙ tests.1) in
      record {
        term = term.ParamIs (place_in fold name params) rel (place_in fold other params);
        found = param_found name rel other both.kind one two;
        means = λ row r.
            ap (λ o. stands_in rel (literal_order fold o (operand m row (place_in fold other params)))) (operand_is name both.kind one row r)
            ∙ (ap (λ o. stands_in rel (literal_order fold (seen both.kind (text_at row (place_in fold name params))) o)) (operand_is other both.kind two row r)
            ∙ (values_compared fold rel both.kind (text_at row (place_in fold name params))
            (text_at row (place_in fold other params)) of (value_given name both.kind one row r) (value_given other both.kind two row r)
            ∙ (ap (λ c. compare fold rel c (content_of both.kind (text_at row (place_in fold other params)))) (sym (given_is name both.kind one row))
            ∙ ap (compare fold rel (given_content fold ours row name)) (sym (given_is other both.kind two row)))));
      }

  -- ---- predicates and constraints

  record PredIs (line : ℕ) (pred : Pred) : Type 0 where
    unrefused : first_refusal fold (map param_is params) (terms_of (tree_at line pred)) ≡ None
    holds : (row : List (Option ℕ)) → is_row m row ≡ true → model.pred_holds m (pred_of fold (map param_is params) (tree_at line pred)) row ≡ acts.pred_holds fold ours row pred

  record PredsAre (line : ℕ) (preds : Preds) : Type 0 where
    none_refused : first_refusal fold (map param_is params) (terms_in (trees_at line preds)) ≡ None
    all_hold : (row : List (Option ℕ)) → is_row m row ≡ true → model.all_hold m (preds_of fold (map param_is params) (trees_at line preds)) row ≡ acts.all_hold fold ours row preds
    any_holds : (row : List (Option ℕ)) → is_row m row ≡ true → model.any_holds m (preds_of fold (map param_is params) (trees_at line preds)) row ≡ acts.any_holds fold ours row preds

  mutual
    pred_is : (line : ℕ) (pred : Pred) → each_term (is_typed scope) pred ≡ true → each_term is_all_written pred ≡ true → PredIs line pred
    pred_is line (Compares name rel operand) fits written =
        let is = term_is name rel operand fits written in
        record {
          unrefused = ap (λ r. term_refusal_or line r None) is.found;
          holds = λ row r. ap (λ f. term_holds m (found_term f) row) is.found ∙ is.means row r;
        }
    pred_is line (Negated pred) fits written =
        let is = pred_is line pred fits written in
        record { unrefused = is.unrefused; holds = λ row r. ap not (is.holds row r) }
    pred_is line (Each preds) fits written =
        let are = preds_are line preds fits written in
        record { unrefused = are.none_refused; holds = are.all_hold }
    pred_is line (Either preds) fits written =
        let are = preds_are line preds fits written in
        record { unrefused = are.none_refused; holds = are.any_holds }

    preds_are : (line : ℕ) (preds : Preds) → every_term (is_typed scope) preds ≡ true → every_term is_all_written preds ≡ true → PredsAre line preds
    preds_are line End fits written = record { none_refused = refl; all_hold = λ row r. refl; any_holds = λ row r. refl }
    preds_are line (More pred preds) fits written =
        let tests = and_parts _ _ fits in
        let numbers = and_parts _ _ written in
        let first = pred_is line pred tests.0 numbers.0 in
        let rest = preds_are line preds tests.1 numbers.1 in
        let all = map param_is params in
        record {
          none_refused = behind_none fold all (terms_of (tree_at line pred)) (terms_in (trees_at line preds)) first.unrefused ∙ rest.none_refused;
          all_hold = λ row r.
              ap (λ b. b && model.all_hold m (preds_of fold all (trees_at line preds)) row) (first.holds row r) ∙ ap (λ b. acts.pred_holds fold ours row pred && b) (rest.all_hold row r);
          any_holds = λ row r.
              ap (λ b. b || model.any_holds m (preds_of fold all (trees_at line preds)) row) (first.holds row r) ∙ ap (λ b. acts.pred_holds fold ours row pred || b) (rest.any_holds row r);
        }

  pub record ConstraintIs (line : ℕ) (constraint : Constraint) : Type 0 where
    pub accepted : first_refusal fold (map param_is params) (body_terms (body_at line constraint)) ≡ None
    pub same : (row : List (Option ℕ)) → is_row m row ≡ true → body_holds m (body_of fold (map param_is params) (body_at line constraint)) row ≡ constraint_holds fold ours row constraint

  pub constraint_is : (line : ℕ) (constraint : Constraint) → terms_pass (is_typed scope) constraint ≡ true → terms_pass is_all_written constraint ≡ true → ConstraintIs line constraint
  constraint_is line (Plain pred) fits written =
      let is = pred_is line pred fits written in
      record { accepted = is.unrefused; same = is.holds }
  constraint_is line (Implies premise pred) fits written =
      let tests = and_parts _ _ fits in
      let numbers = and_parts _ _ written in
      let one = pred_is line premise tests.0 numbers.0 in
      let two = pred_is line pred tests.1 numbers.1 in
      let all = map param_is params in
      record {
        accepted = behind_none fold all (terms_of (tree_at line premise)) (terms_of (tree_at line pred)) one.unrefused ∙ two.unrefused;
        same = λ row r.
            ap (λ b. not b || model.pred_holds m (pred_of fold all (tree_at line pred)) row) (one.holds row r) ∙ ap (λ b. not (acts.pred_holds fold ours row premise) || b) (two.holds row r);
      }
