-- The translation of a file spells a model that says what the file says, or it is refused by a limit or since the
-- order is above the number of parameters.
use Rattle.std.proofs.Common.{◌≡◌, ℕ, ◌+◌, ◌<◌, Bool, true, false, not, if◌then◌else◌, List, [], ◌∷◌, ◌++◌, flat_map}
use Rattle.std.proofs.Common.{length, map, All, Some, None, Option, Ok, Err, Result, refl, sym, ap, subst, ◌∙◌, arith}
use Rattle.std.proofs.lemmas.Option.{same_Some}
use Rattle.std.proofs.lemmas.Bool.{cond_both, false≢true}
use Rattle.std.proofs.lemmas.List.{length-map}
use Rattle.std.proofs.lemmas.List.Elements.{All-cons, All-head, All-nil, All-tail}
use Rattle.std.specs.List.{list_all, list_any}
use Rattle.std.specs.Prelude.{nat_lt}
use Rattle.cov_model.specs.believed.Sound.{ModelView}
use Rattle.cov_model.specs.believed.Views.{RuleView}
use Rattle.cov_model.specs.declared.demand.Demand.{Demand}
use Rattle.model_lex.specs.believed.Codes.{most_of}
use Rattle.model_lex.specs.believed.Lines.{numbered_lines}
use Rattle.model_lex.specs.believed.Sections.{Split, sections_behind, sections_of}
use Rattle.model_lex.specs.declared.diag.DiagCode.TheVariants.{OrderTooLarge}
use Rattle.model_lex.specs.declared.fault.LimitName.{LimitName}
use Rattle.model_lex.specs.declared.fault.LimitName.TheVariants.{Rules}
use Rattle.model_lex.specs.declared.fault.ModelFault.{ModelFault}
use Rattle.model_lex.specs.declared.fault.ModelFault.TheVariants.{Bad, Limit}
use Rattle.model_lex.specs.declared.line_kind.LineKind.TheVariants.{Param as ParamLine}
use Rattle.model_lex.specs.declared.options.ModelOpts.{ModelOpts}
use Rattle.model_lex.specs.declared.options.OrderWord.{OrderWord}
use Rattle.model_parse.specs.GroupSteps.{read_groups}
use Rattle.model_parse.specs.believed.RawModels.{order_in, raw_model_of}
use Rattle.model_parse.specs.ModelSteps.{with_demand}
use Rattle.model_parse.specs.Steps.{and_then}
use Rattle.model_parse.specs.declared.raw_model.RawModel.{RawModel}
use Rattle.model_parse.specs.declared.reading.ParamsRead.{ParamsRead}
use Rattle.model_parse.proofs.RuledGroups.{raw_ruled}
use Rattle.constraint_ast.proofs.OneReading.{lines_have_one_reading}
use Rattle.constraint_ast.specs.believed.Grammar.{next_rule, no_rule}
use Rattle.constraint_ast.specs.believed.Lexing.{Spell, both_tokens, tokens_of}
use Rattle.constraint_ast.specs.believed.Trees.{RuleTree}
use Rattle.type_check.proofs.Refusals.{behind_none}
use Rattle.type_check.specs.believed.Checking.{body_terms, first_refusal, rules_terms}
use Rattle.type_check.specs.believed.Constraints.{fault_of, rules_fault, rules_from}
use Rattle.type_check.specs.believed.ModelOf.{Answer, IsAnswerIn, IsAnswerOf, by_grammar, by_model, by_params, by_rules, by_sections, in_sections, model_of}
use Rattle.acts_front.specs.believed.ActsFiles.{Line, Nothing, OfParameter, OfRelation, OfConstraint, acts, declared_by, is_parameter, lines_give, parameters_from, relations_from, with_parameters}
use Rattle.acts_front.specs.believed.Constraints.{Constraint, constraint_code, is_known, is_typed, terms_pass}
use Rattle.acts_front.specs.believed.ParameterLines.{Declared, Parameter, Scope, is_value}
use Rattle.acts_front.specs.believed.SameModels.{AreSame, IsFaithful, Says, SaysTheSame, param_is, read_as}
use Rattle.acts_front.specs.SameModels.{TranslationsSayTheSame}
use Rattle.acts_front.specs.believed.Tokens.{Token}
use Rattle.acts_front.specs.believed.Translation.{constraint_text, lines_text, text_given, translation}
use Rattle.acts_front.specs.declared.code.ActsCode.{ActsCode}
use Rattle.acts_front.specs.declared.code.ActsCode.TheVariants.{A8, A10, A11}
use Rattle.acts_front.specs.declared.section.Section.TheVariants.{Outside}
use Rattle.acts_front.proofs.Given.{IsRelation, ok_is}
use Rattle.acts_front.proofs.GivenLines.{AreGiven, AreOrdered, IsConstraint, lines_given}
use Rattle.acts_front.proofs.GivenLists.{AreParameters, IsSpelled, constraints_are, constraints_known, declared_are, declared_as, parameters_known, relations_known, scope_of, spelled_from}
use Rattle.acts_front.proofs.LineCuts.{lines_back}
use Rattle.acts_front.proofs.NumbersWritten.{constraint_written}
use Rattle.acts_front.proofs.ParametersRead.{IsOrLimit, is_limit, is_wanted, parameters_read, params_read}
use Rattle.acts_front.proofs.RelationsRead.{demand_read, relations_read}
use Rattle.acts_front.proofs.SplitLines.{sections_are, split_from}
use Rattle.acts_front.proofs.TermsMean.{ConstraintIs, constraint_is}
use Rattle.acts_front.proofs.TokensRead.{constraint_read}
use Rattle.acts_front.proofs.TranslatedTrees.{constraint_spells, constraint_tokens, rule_at}

-- ---- what is known of the lines of a file

record AreLines (fold : Bool) (lines : List Line) : Type 0 where
  given : AreGiven (scope_of fold []) lines
  ordered : AreOrdered ParamLine lines
  some : list_any is_parameter lines ≡ true

-- a parameter has to be there
abbrev with_test : Bool → List Line → Result (List Line) (ℕ × ActsCode)
with_test any lines = if any then Ok lines else Err (1, A8)

are_lines : (fold : Bool) (bytes : List ℕ) (lines : List Line) → acts fold bytes ≡ Ok lines → AreLines fold lines
are_lines fold bytes lines is = by (lines_give Outside (scope_of fold []) (numbered_lines bytes)) refl is
  where
    tested : (others : List Line) (any : Bool) → list_any is_parameter others ≡ any → with_test any others ≡ Ok lines
        → lines_give Outside (scope_of fold []) (numbered_lines bytes) ≡ Ok others → AreLines fold lines
    tested others false any e found = absurd (cc)
    tested others true any e found =
        let known = lines_given Outside (scope_of fold []) (numbered_lines bytes) others found in
        subst (AreLines fold) (ok_is e) (record { given = known.given; ordered = known.ordered ParamLine refl; some = any })

    by : (found : Result (List Line) (ℕ × ActsCode)) → lines_give Outside (scope_of fold []) (numbered_lines bytes) ≡ found → with_parameters found ≡ Ok lines → AreLines fold lines
    by (Err refused) found e = absurd (cc)
    by (Ok others) found e = tested others (list_any is_parameter others) refl e found

some_parameters : (number : ℕ) (lines : List Line) → list_any is_parameter lines ≡ true → 0 < length (parameters_from number lines)
some_parameters number [] any = absurd (false≢true any)
some_parameters number (Nothing ∷ lines) any = some_parameters (number + 1) lines any
some_parameters number (OfParameter param ∷ lines) any = omega arith
some_parameters number (OfRelation relation ∷ lines) any = some_parameters (number + 1) lines any
some_parameters number (OfConstraint tokens constraint ∷ lines) any = some_parameters (number + 1) lines any

abbrev IsValued : ℕ × Parameter → Type 0
IsValued found = list_all (is_value found.1.kind) found.1.values ≡ true

all_valued : (fold : Bool) (declared : List Declared) (params : List (ℕ × Parameter)) → AreParameters fold declared params → All IsValued params
all_valued fold declared [] are = All-nil IsValued
all_valued fold declared (found ∷ params) are = All-cons IsValued found params are.0.values (all_valued fold (declared ++ declared_as found ∷ []) params are.1)

-- a constraint that is accepted compares what is of one type
types_fit : (scope : Scope) (constraint : Constraint) → constraint_code scope constraint ≡ None → terms_pass (is_typed scope) constraint ≡ true
types_fit scope constraint none = by (terms_pass (is_known scope) constraint) (terms_pass (is_typed scope) constraint) none
  where
    by : (known typed : Bool) → (if not known then Some A10 else if not typed then Some A11 else None) ≡ None → typed ≡ true
    by true true e = refl
    by true false e = absurd (cc)
    by false typed e = absurd (cc)

-- ---- the parameters and the relations

data RawAnswer (raw : RawModel) : Result RawModel ModelFault → Type 0 where
  raw_is : RawAnswer raw (Ok raw)
  raw_limit : (limit : LimitName) (count : ℕ) → RawAnswer raw (Err (Limit limit count))
  raw_order : (line : ℕ) → RawAnswer raw (Err (Bad (record { line = line; code = OrderTooLarge })))

module _ (order : OrderWord) (fold : Bool) (lines : List Line) (are : AreLines fold lines) where
  abbrev opts : ModelOpts
  opts = read_as order fold

  abbrev params : List (ℕ × Parameter)
  params = parameters_from 1 lines

  abbrev scope : Scope
  scope = scope_of fold (map declared_as params)

  abbrev split : Split
  split = split_from 1 lines

  abbrev listed : List (ℕ × (List Token × Constraint))
  listed = spelled_from 1 lines

  all_declared : scope_of fold (flat_map declared_by lines) ≡ scope
  all_declared = ap (scope_of fold) (declared_are 1 lines)

  are_parameters : AreParameters fold [] params
  are_parameters = parameters_known fold 1 [] lines are.given

  are_relations : All (λ found. IsRelation scope found.1) (relations_from 1 lines)
  are_relations = subst (λ s. All (λ found. IsRelation s found.1) (relations_from 1 lines)) all_declared (relations_known fold 1 [] ParamLine lines are.given are.ordered)

  are_constraints : All (IsSpelled fold scope) listed
  are_constraints = subst (λ s. All (IsSpelled fold s) listed) all_declared (constraints_known fold 1 [] ParamLine lines are.given are.ordered)

  sections : sections_of (lines_text lines) ≡ Ok split
  sections = ap (sections_behind ParamLine) (lines_back (scope_of fold []) lines are.given) ∙ sections_are (scope_of fold []) 1 ParamLine lines are.given are.ordered

  abbrev demand : Demand
  demand = demand_read order fold params (order_in order (length (map param_is params))) (relations_from 1 lines)

  abbrev raw : RawModel
  raw = record { params = map param_is params; demand = demand; notes = [] }

  raw_answer : RawAnswer raw (raw_model_of opts split)
  raw_answer = subst (RawAnswer raw) (raw_ruled opts split) (by (parameters_read order fold params (some_parameters 1 lines are.some) are_parameters))
    where
      groups : read_groups opts (params_read order fold params).known (order_in order (length (map param_is params))) split.groups ≡ Ok demand
      groups = relations_read order fold params (order_in order (length (map param_is params))) [] (relations_from 1 lines) are_relations

      ordered : RawAnswer raw (with_demand split.params (params_read order fold params) demand)
      ordered = cond_both (nat_lt (length (map param_is params)) demand.order) _ (Ok raw) (RawAnswer raw) (λ above. raw_order _) (λ within. raw_is)

      by : {answer : Result ParamsRead ModelFault} → IsOrLimit (params_read order fold params) answer
          → RawAnswer raw (and_then answer (λ read. and_then (read_groups opts read.known (order_in order (length read.params)) split.groups) (λ d. with_demand split.params read d)))
      by (is_limit limit count) = raw_limit limit count
      by is_wanted = subst (λ d. RawAnswer raw (and_then d (λ d. with_demand split.params (params_read order fold params) d))) (sym groups) ordered

  -- ---- the constraints

  abbrev line_of : ℕ × (List Token × Constraint) → ℕ × List ℕ
  line_of found = (found.0, constraint_text found.1.0)

  abbrev tree_of : ℕ × (List Token × Constraint) → RuleTree
  tree_of found = rule_at found.0 found.1.1

  spelled : (list : List (ℕ × (List Token × Constraint))) → All (IsSpelled fold scope) list → Spell (map line_of list) (map tree_of list)
  spelled [] all = ([], refl, no_rule)
  spelled (found ∷ list) all =
      let here : IsConstraint scope found.1.0 found.1.1 = All-head (IsSpelled fold scope) found list all in
      let rest = spelled list (All-tail (IsSpelled fold scope) found list all) in
      let read = ap (λ r. both_tokens r (tokens_of (map line_of list))) (constraint_read found.0 found.1.0 here.written) ∙ ap (both_tokens (Ok (constraint_tokens found.0 found.1.0))) rest.1 in
      (constraint_tokens found.0 found.1.0 ++ rest.0, read, next_rule (constraint_spells found.0 found.1.0 found.1.1 here.spelled rest.0) rest.2)

  abbrev trees : List RuleTree
  trees = map tree_of listed

  spells : Spell split.rules trees
  spells = spelled listed are_constraints

  abbrev ours : List Parameter
  ours = map (λ found. found.1) params

  valued : All IsValued params
  valued = all_valued fold [] params are_parameters

  means : (rules : List RuleView) (found : ℕ × (List Token × Constraint)) → IsSpelled fold scope found → ConstraintIs fold params valued rules demand 126 found.0 found.1.1
  means rules found is = constraint_is fold params valued rules demand 126 found.0 found.1.1 (types_fit scope found.1.1 is.fits) (constraint_written found.1.0 found.1.1 is.spelled is.written)

  accepted : (list : List (ℕ × (List Token × Constraint))) → All (IsSpelled fold scope) list → first_refusal fold (map param_is params) (rules_terms (map tree_of list)) ≡ None
  accepted [] all = refl
  accepted (found ∷ list) all =
      let here = means [] found (All-head (IsSpelled fold scope) found list all) in
      behind_none fold (map param_is params) (body_terms (tree_of found).body) (rules_terms (map tree_of list)) here.accepted ∙ accepted list (All-tail (IsSpelled fold scope) found list all)

  abbrev model : ModelView
  model = model_of opts raw trees

  same : (count : ℕ) (list : List (ℕ × (List Token × Constraint))) → All (IsSpelled fold scope) list
      → AreSame model fold ours (rules_from count fold (map param_is params) (map tree_of list)) (map (λ c. (c.0, c.1.1)) list)
  same count [] all = tt
  same count (found ∷ list) all =
      let here = means model.rules found (All-head (IsSpelled fold scope) found list all) in
      (refl, here.same, same (count + 1) list (All-tail (IsSpelled fold scope) found list all))

  says_the_same : SaysTheSame opts lines model
  says_the_same = record {
    params = refl;
    order = ap (order_in order) (length-map params param_is);
    subs = refl;
    relations = refl;
    rules = subst (AreSame model fold ours model.rules) (sym (constraints_are 1 lines)) (same 1 listed are_constraints);
    prefix = refl;
    fold = refl;
  }

  -- ---- the answer

  limited : (fault : ModelFault) → rules_fault fold (map param_is params) trees ≡ Some fault → Says opts lines (Err fault)
  limited fault is = by (nat_lt (most_of Rules) (length trees)) (ap (λ r. fault_of r (length trees)) (sym (accepted listed are_constraints)) ∙ is)
    where
      by : (many : Bool) → (if many then Some (Limit Rules (length trees)) else None) ≡ Some fault → Says opts lines (Err fault)
      by true e = let limit : Limit Rules (length trees) ≡ fault = same_Some _ _ e in subst (λ f. Says opts lines (Err f)) limit tt
      by false e = absurd (cc)

  refused : {fault : ModelFault} → RawAnswer raw (Err fault) → Says opts lines (Err fault)
  refused (raw_limit limit count) = tt
  refused (raw_order line) = refl

  accepted_is : {other : RawModel} → RawAnswer raw (Ok other) → raw ≡ other
  accepted_is raw_is = refl

  in_split : (answer : Answer) → IsAnswerIn opts split answer → Says opts lines answer
  in_split answer (by_params is) = refused (subst (RawAnswer raw) is raw_answer)
  in_split answer (by_grammar {diag} other is told) = absurd ((lines_have_one_reading split.rules).read_or_refused trees diag spells told)
  in_split answer (by_rules {fault} other others is spell found) =
      let one : trees ≡ others = (lines_have_one_reading split.rules).one_reading trees others spells spell in
      let raws : raw ≡ other = accepted_is (subst (RawAnswer raw) is raw_answer) in
      limited fault (ap (λ t. rules_fault fold (map param_is params) t) one ∙ (ap (λ (r : RawModel). rules_fault fold r.params others) raws ∙ found))
  in_split answer (by_model other others is spell none) =
      let one : trees ≡ others = (lines_have_one_reading split.rules).one_reading trees others spells spell in
      let raws : raw ≡ other = accepted_is (subst (RawAnswer raw) is raw_answer) in
      subst (λ t. Says opts lines (Ok (model_of opts other t, other.notes))) one (subst (λ (r : RawModel). Says opts lines (Ok (model_of opts r trees, r.notes))) raws (refl, says_the_same))

  of_file : (answer : Answer) → IsAnswerOf opts (lines_text lines) answer → Says opts lines answer
  of_file answer (by_sections is) = absurd (let clash : _ = sym sections ∙ is in cc)
  of_file answer (in_sections other is answers) =
      let split_is : split ≡ other = ok_is (sym sections ∙ is) in
      in_split answer (subst (λ s. IsAnswerIn opts s answer) (sym split_is) answers)

pub translations_say_the_same : TranslationsSayTheSame
translations_say_the_same fold bytes lines is order answer answers = of_file order fold lines (are_lines fold bytes lines is) answer answers

-- so it is with what a file is translated to
pub faithful : (fold : Bool) (bytes text : List ℕ) → translation fold bytes ≡ Ok text → IsFaithful fold bytes text
faithful fold bytes text is = by (acts fold bytes) refl is
  where
    by : (found : Result (List Line) (ℕ × ActsCode)) → acts fold bytes ≡ found → text_given found ≡ Ok text → IsFaithful fold bytes text
    by (Err refused) declares e = absurd (cc)
    by (Ok lines) declares e = subst (IsFaithful fold bytes) (ok_is e) (record { lines = lines; declares = declares; says = translations_say_the_same fold bytes lines declares })
