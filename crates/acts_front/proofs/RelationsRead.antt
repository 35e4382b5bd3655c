-- The relation lines of a translation, read again.
use Rattle.std.proofs.Common.{◌≡◌, ℕ, ◌<◌, ◌≤◌, Bool, true, false, ◌&&◌, List, [], ◌∷◌, ◌++◌, length, map, take, drop}
use Rattle.std.proofs.Common.{get_or, All, Some, None, Ok, codes, refl, sym, ap, ◌∙◌, arith, append_assoc, append-nil}
use Rattle.std.proofs.Math.Seq.{drop-append_seam, take-append_seam}
use Rattle.std.proofs.lemmas.List.Folds.{list_all-append}
use Rattle.std.proofs.lemmas.Bool.{and_from, and_parts, cond-false, cond-true, eqb-true, leb-true, lt-ltb, ne_eqb, or_parts}
use Rattle.std.proofs.lemmas.List.{length-map, map-append}
use Rattle.std.proofs.lemmas.List.Elements.{All-cons, All-head, All-nil, All-tail}
use Rattle.std.proofs.lemmas.Slice.Eq.{bytes_eq-Decides}
use Rattle.std.specs.Char.{is_ascii_digit}
use Rattle.std.specs.List.{list_all, list_any, prefix_len}
use Rattle.std.specs.Prelude.{◌==◌}
use Rattle.std.specs.Str.Parse.{digits_value}
use Rattle.value_text.specs.believed.Numbers.{count_of}
use Rattle.value_text.specs.believed.Texts.{folded, is_same_text, is_blank}
use Rattle.cov_model.specs.declared.demand.Demand.{Demand}
use Rattle.cov_model.specs.declared.demand.Group.{Group}
use Rattle.model_lex.specs.believed.Blanks.{trimmed, without_first_blanks}
use Rattle.model_lex.specs.declared.options.OrderWord.{OrderWord}
use Rattle.model_parse.specs.believed.GroupLines.{behind_braces, braced, has_braces, inside_braces, is_relation, strength_text}
use Rattle.model_parse.specs.GroupSteps.{behind_strength, add_group, add_member, group_code, group_list, group_order, member_or, order_text, read_group}
use Rattle.model_parse.specs.believed.Pieces.{is_byte, pieces}
use Rattle.model_parse.specs.Steps.{and_each, and_then, refused_or}
use Rattle.model_parse.specs.believed.Written.{joined}
use Rattle.model_parse.proofs.Joining.{AreBlanks, IsWhole, Lacks, after_last_back, before_last_back, joined_back, stands_back}
use Rattle.model_parse.proofs.WrittenValues.{none_stands, digit_ink}
use Rattle.constraint_ast.proofs.Digits.{Stops, run_prefix}
use Rattle.acts_front.specs.believed.Meaning.{number_named}
use Rattle.acts_front.specs.believed.ParameterLines.{Parameter, is_declared, is_name, has_repeated}
use Rattle.acts_front.specs.believed.RelationLines.{Relation}
use Rattle.acts_front.specs.believed.SameModels.{group_is, read_as}
use Rattle.acts_front.specs.believed.Translation.{relation_text}
use Rattle.acts_front.proofs.AllowedTexts.{each_passes}
use Rattle.acts_front.proofs.Given.{IsRelation, taken}
use Rattle.acts_front.proofs.GivenLists.{declared_as, scope_of}
use Rattle.acts_front.proofs.ParametersRead.{name_symbolic, symbolic_lacks, symbolic_whole}
use Rattle.acts_front.proofs.Placed.{no_found, place_in, placed}

-- ---- the form of a line

blank_off : (text : List ℕ) → Stops is_blank text → without_first_blanks (32 ∷ text) ≡ text
blank_off text stops = ap (λ n. drop n (32 ∷ text)) (run_prefix is_blank (32 ∷ []) text refl stops)

digit_stops : (digits rest : List ℕ) → 0 < length digits → list_all is_ascii_digit digits ≡ true → Stops is_blank (digits ++ rest)
digit_stops [] rest some all = absurd (omega (arith, some))
digit_stops (b ∷ digits) rest some all = digit_ink b (and_parts _ _ all).0

module _ (digits inside : List ℕ) (some : 0 < length digits) (all : list_all is_ascii_digit digits ≡ true) where
  abbrev list : List ℕ
  list = 123 ∷ (inside ++ 125 ∷ [])

  abbrev behind : List ℕ
  behind = 32 ∷ (digits ++ 32 ∷ list)

  abbrev pub text : List ℕ
  text = 64 ∷ behind

  begins : is_relation text ≡ true
  begins = ap (λ b. b && true) (lt-ltb 0 (length text) (omega arith))

  no_blank : without_first_blanks behind ≡ digits ++ 32 ∷ list
  no_blank = blank_off (digits ++ 32 ∷ list) (digit_stops digits (32 ∷ list) some all)

  run_len : prefix_len is_ascii_digit (digits ++ 32 ∷ list) ≡ length digits
  run_len = run_prefix is_ascii_digit digits (32 ∷ list) all refl

  strength : strength_text behind ≡ digits
  strength = ap (λ t. take (prefix_len is_ascii_digit t) t) no_blank ∙ (ap (λ n. take n (digits ++ 32 ∷ list)) run_len ∙ take-append_seam digits (32 ∷ list))

  braces : behind_strength behind ≡ list
  braces =
      ap (λ s. without_first_blanks (drop (length s) (without_first_blanks behind))) strength
      ∙ (ap (λ t. without_first_blanks (drop (length digits) t)) no_blank ∙ (ap without_first_blanks (drop-append_seam digits (32 ∷ list)) ∙ blank_off list refl))

  closed : has_braces list ≡ true
  closed = rw (lt-ltb 0 (length list) (omega arith)) (stands_back 125 inside [])

  none_behind : behind_braces list ≡ []
  none_behind = ap trimmed (after_last_back 125 inside [] (All-nil (λ b. is_byte 125 b ≡ false)))

  pub no_code : group_code text ≡ None
  no_code =
      let counted : (length (strength_text behind) == 0) ≡ false = ap (λ s. length s == 0) strength ∙ ne_eqb (length digits) 0 (λ e. omega (arith, e, some)) in
      rw (begins, counted, braces, closed, none_behind) refl

  pub list_is : group_list text ≡ inside
  list_is =
      let where_it_is : braced text ≡ list = cond-true (is_relation text) _ _ begins ∙ braces in
      ap inside_braces where_it_is ∙ before_last_back 125 inside [] (All-nil (λ b. is_byte 125 b ≡ false))

  pub order_is : order_text text ≡ Some digits
  order_is = cond-true (is_relation text) _ _ begins ∙ ap Some strength

  pub relation_is : is_relation text ≡ true
  relation_is = begins

-- ---- the members

module _ (fold : Bool) (params : List (ℕ × Parameter)) (line : ℕ) where
  abbrev known : List (List ℕ)
  known = map (λ (found : ℕ × Parameter). folded fold found.1.name) params

  abbrev number : List ℕ → ℕ
  number name = number_named fold (map (λ found. found.1) params) name

  abbrev is_there : List ℕ → Bool
  is_there name = is_declared (scope_of fold (map declared_as params)) name

  -- names that are apart have numbers that are apart
  none_equal : (name : List ℕ) (earlier : List (List ℕ)) → is_there name ≡ true → list_all is_there earlier ≡ true → list_any (is_same_text fold name) earlier ≡ false
      → list_any (λ q. q == number name) (map number earlier) ≡ false
  none_equal name [] one all apart = refl
  none_equal name (other ∷ earlier) one all apart =
      let parts = and_parts _ _ all in
      let tests = or_parts (is_same_text fold name other) _ apart in
      rw (by (number other == number name) refl parts.0 tests.0, none_equal name earlier one parts.1 tests.1) refl
    where
      by : (same : Bool) → (number other == number name) ≡ same → is_there other ≡ true → is_same_text fold name other ≡ false → (number other == number name) ≡ false
      by false same two apart = same
      by true same two apart =
          let here = placed fold name params one in
          let there = placed fold other params two in
          let places : place_in fold name params ≡ place_in fold other params = sym here.as_number ∙ (sym (eqb-true (number other) (number name) same) ∙ there.as_number) in
          let texts : folded fold name ≡ folded fold other = here.same ∙ (ap (λ p. folded fold (get_or params p no_found).1.name) places ∙ sym there.same) in
          let equal : is_same_text fold name other ≡ true = (bytes_eq-Decides _ _).1 texts in
          absurd (let clash : false ≡ true = sym apart ∙ equal in cc)

  members_read : (earlier rest : List (List ℕ)) → list_all is_there earlier ≡ true → list_all is_there rest ≡ true → has_repeated fold earlier rest ≡ false
      → and_each (add_member fold known line) (map number earlier) rest ≡ Ok (map number (earlier ++ rest))
  members_read earlier [] before are distinct = ap (λ list. Ok (map number list)) (sym (append-nil earlier))
  members_read earlier (name ∷ rest) before are distinct =
      let parts = and_parts _ _ are in
      let tests = or_parts (list_any (is_same_text fold name) earlier) _ distinct in
      let here = placed fold name params parts.0 in
      let place : add_member fold known line (map number earlier) name ≡ member_or line (map number earlier) (Some (number name)) =
      ap (member_or line (map number earlier)) (here.as_read ∙ ap Some (sym here.as_number)) in
      let step : add_member fold known line (map number earlier) name ≡ Ok (map number (earlier ++ name ∷ [])) =
      place ∙ (cond-false (list_any (λ q. q == number name) (map number earlier)) _ _ (none_equal name earlier parts.0 before tests.0) ∙ ap Ok (sym (map-append number earlier (name ∷ [])))) in
      let more : list_all is_there (earlier ++ name ∷ []) ≡ true = list_all-append is_there earlier (name ∷ []) ∙ and_from _ _ before (and_from _ _ parts.0 refl) in
      ap (λ r. and_then r (λ a. and_each (add_member fold known line) a rest)) step
      ∙ (members_read (earlier ++ name ∷ []) rest more parts.1 tests.1 ∙ ap (λ list. Ok (map number list)) (append_assoc earlier (name ∷ []) rest))

-- ---- a line, and all lines

module _ (order : OrderWord) (fold : Bool) (params : List (ℕ × Parameter)) (whole : ℕ) where
  abbrev pub ours : Relation → Group
  ours relation = group_is fold (map (λ found. found.1) params) relation

  abbrev pub demand_read : List (ℕ × Relation) → Demand
  demand_read relations = record { order = whole; subs = []; relations = map (λ found. ours found.1) relations }

  line_read : (done : List (ℕ × Relation)) (found : ℕ × Relation) → IsRelation (scope_of fold (map declared_as params)) found.1
      → read_group (read_as order fold) (known fold params found.0) (demand_read done) (found.0, relation_text found.1) ≡ Ok (demand_read (done ++ found ∷ []))
  line_read done (line, relation) is =
      let digits = relation.strength in
      let names = joined (codes ", ") relation.members in
      let inside = 32 ∷ (names ++ 32 ∷ []) in
      let tests = and_parts _ _ is.digits in
      let some : 0 < length digits = let least : 1 ≤ length digits = leb-true 1 (length digits) (and_parts _ _ tests.0).0 in omega (arith, least) in
      let shape : relation_text relation ≡ text digits inside some tests.1 = grind (arith, append_assoc) in
      let blank = λ (b : ℕ). is_blank b ≡ true in
      let gap : AreBlanks (32 ∷ []) = All-cons blank 32 [] refl (All-nil blank) in
      let each = each_passes is_name relation.members is.named in
      let wholes : All IsWhole relation.members = λ i d within. symbolic_whole _ (name_symbolic (get_or relation.members i d) (each i d within)) in
      let lacks : All (Lacks 44) relation.members = λ i d within. none_stands (is_byte 44) _ (symbolic_lacks _ (name_symbolic (get_or relation.members i d) (each i d within)) 44 refl) in
      let cut : pieces 44 inside ≡ relation.members = joined_back 44 [] (32 ∷ []) (All-nil blank) gap refl (32 ∷ []) (32 ∷ []) relation.members gap gap is.some wholes lacks in
      let numbers = map (number fold params line) relation.members in
      let members : and_each (add_member fold (known fold params line) line) [] (pieces 44 inside) ≡ Ok numbers =
      ap (and_each (add_member fold (known fold params line) line) []) cut ∙ members_read fold params line [] relation.members refl is.declared is.distinct in
      let value = (taken _ _ is.order is.counts).1 in
      let orders : group_order whole (Some digits) (length numbers) ≡ Some (digits_value 10 digits) =
      ap (count_of digits 1) (length-map relation.members (number fold params line)) ∙ (is.counts ∙ ap Some (sym value)) in
      let t = text digits inside some tests.1 in
      let behind = λ (members : List ℕ). add_group line (is_relation t) (demand_read done) members (group_order whole (order_text t) (length members)) in
      ap (λ l. read_group (read_as order fold) (known fold params line) (demand_read done) (line, l)) shape
      ∙ (ap (λ c. refused_or line c (and_then (and_each (add_member fold (known fold params line) line) [] (pieces 44 (group_list t))) behind)) (no_code digits inside some tests.1)
      ∙ (ap (λ l. and_then (and_each (add_member fold (known fold params line) line) [] (pieces 44 l)) behind) (list_is digits inside some tests.1)
      ∙ (ap (λ r. and_then r behind) members
      ∙ (ap (λ o. add_group line (is_relation t) (demand_read done) numbers (group_order whole o (length numbers))) (order_is digits inside some tests.1)
      ∙ (ap (add_group line (is_relation t) (demand_read done) numbers) orders
      ∙ (ap (λ b. add_group line b (demand_read done) numbers (Some (digits_value 10 digits))) (relation_is digits inside some tests.1)
      ∙ ap (λ list. Ok (record { order = whole; subs = []; relations = list })) (sym (map-append (λ (f : ℕ × Relation). ours f.1) done ((line, relation) ∷ [])))))))))

  pub relations_read : (done rest : List (ℕ × Relation)) → All (λ found. IsRelation (scope_of fold (map declared_as params)) found.1) rest
      → and_each (read_group (read_as order fold) (known fold params 0)) (demand_read done)
      (map (λ (found : ℕ × Relation). (found.0, relation_text found.1)) rest) ≡ Ok (demand_read (done ++ rest))
  relations_read done [] are = ap (λ list. Ok (demand_read list)) (sym (append-nil done))
  relations_read done (found ∷ rest) are =
      let P = λ (f : ℕ × Relation). IsRelation (scope_of fold (map declared_as params)) f.1 in
      ap (λ r. and_then r (λ a. and_each (read_group (read_as order fold) (known fold params 0)) a (map (λ (f : ℕ × Relation). (f.0, relation_text f.1)) rest)))
      (line_read done found (All-head P found rest are))
      ∙ (relations_read (done ++ found ∷ []) rest (All-tail P found rest are) ∙ ap (λ list. Ok (demand_read list)) (append_assoc done (found ∷ []) rest))
