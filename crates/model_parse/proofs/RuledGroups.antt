-- What is read step by step of a model file's lines is what the rules give.
use Rattle.std.proofs.Common.{◌≡◌, ℕ, ◌+◌, ◌-◌, Bool, true, false, not, ◌&&◌, ◌||◌, cond, List, [], ◌∷◌, ◌++◌, map, length, min}
use Rattle.std.proofs.Common.{Option, Some, None, Ok, refl, sym, ◌∙◌, ap, eqb, ltb, position, is_some, arith}
use Rattle.std.proofs.lemmas.Bool.{eq-eqb, eqb-true, false_from_ne_true, true≢false}
use Rattle.std.proofs.lemmas.Grind.{flat_map-append}
use Rattle.std.proofs.lemmas.List.{append-nil, length-append, map-append}
use Rattle.std.proofs.lemmas.List.Elements.{filter-append}
use Rattle.std.proofs.lemmas.List.Folds.{list_any-append}
use Rattle.std.proofs.lemmas.List.Quantifiers.{position-Some}
use Rattle.std.proofs.lemmas.Slice.Eq.{bytes_eq-Decides}
use Rattle.std.specs.List.{list_any, filter}
use Rattle.std.specs.Option.{option_or, option_map, option_map_or, option_to_list}
use Rattle.std.specs.Prelude.{slice_index_or, unwrap_or}
use Rattle.std.specs.Str.{bytes_eq}
use Rattle.value_text.specs.believed.Texts.{folded, is_same_text}
use Rattle.value_text.specs.believed.Numbers.{count_of}
use Rattle.cov_model.specs.declared.demand.Demand.{Demand}
use Rattle.cov_model.specs.declared.demand.Group.{Group}
use Rattle.cov_model.specs.declared.parameter.Param.{Param}
use Rattle.cov_model.specs.believed.Sound.{no_param, param_at}
use Rattle.model_lex.specs.believed.Blanks.{without_first_blanks}
use Rattle.model_lex.specs.believed.Sections.{Split}
use Rattle.model_lex.specs.declared.diag.DiagCode.{DiagCode}
use Rattle.model_lex.specs.declared.diag.DiagCode.TheVariants.{BadGroupOrder, NoParameters, OrderTooLarge, RelationNoOrder, RepeatedMember, UnknownMember}
use Rattle.model_lex.specs.declared.fault.LimitName.TheVariants.{Params}
use Rattle.model_lex.specs.declared.options.ModelOpts.{ModelOpts}
use Rattle.model_parse.specs.declared.raw_model.RawModel.{RawModel}
use Rattle.model_parse.specs.believed.GroupLines.{behind_sign, demand_of, form_code, group_fault, group_of, group_pieces, is_relation, member_code, members_of, order_of_group, strength_text, written_order}
use Rattle.model_parse.specs.believed.ParamLines.{is_repeated, param_of, params_of, place_named}
use Rattle.model_parse.specs.believed.RawModels.{order_fault, order_in, raw_model_of}
use Rattle.model_parse.specs.believed.Rules.{above, bad_line, first_some, read_unless, with_earlier}
use Rattle.model_parse.specs.Steps.{and_each, and_then, refused, refused_or}
use Rattle.model_parse.specs.GroupSteps.{behind_strength, add_group, add_member, braces_code, group_code, group_order, member_or, order_text, read_group, read_groups, relation_code, sub_order}
use Rattle.model_parse.specs.ModelSteps.{read_raw, with_demand}
use Rattle.model_parse.proofs.RuledParams.{each_is, first-append, first_last, known_names, limit_is, lines_at, lines_fault, params_is, place_same, refused_is, then_is}

-- ---- members

module _ (fold : Bool) (params : List Param) where
  abbrev places : List ℕ → List ℕ
  places name = option_to_list (place_named fold params name)

  members-append : (before : List (List ℕ)) (piece : List ℕ) → members_of fold params (before ++ piece ∷ []) ≡ members_of fold params before ++ places piece
  members-append before piece = flat_map-append places before (piece ∷ []) ∙ ap (λ ns. members_of fold params before ++ ns) (append-nil (places piece))

  -- a parameter's name is the same as the text that found it
  found_same : (name : List ℕ) (p : ℕ) → place_named fold params name ≡ Some p → folded fold name ≡ folded fold (param_at params p).name
  found_same name p at = (bytes_eq-Decides (folded fold name) (folded fold (param_at params p).name)).0 (position-Some (λ param. is_same_text fold name param.name) params p no_param at).1

  -- another text finds it exactly if it is the same
  finds : (name other : List ℕ) (p : ℕ) → place_named fold params name ≡ Some p → list_any (λ q. eqb q p) (places other) ≡ is_same_text fold name other
  finds name other p at = by (is_same_text fold name other) refl
    where
      apart : is_same_text fold name other ≡ false → (o : Option ℕ) → place_named fold params other ≡ o → list_any (λ q. eqb q p) (option_to_list o) ≡ false
      apart differs None there = refl
      apart differs (Some q) there =
          ap (λ b. b || false) (false_from_ne_true (eqb q p) (λ same.
          let here : folded fold name ≡ folded fold other = found_same name p at ∙ ap (λ n. folded fold (param_at params n).name) (sym (eqb-true q p same)) ∙ sym (found_same other q there) in
          true≢false (sym ((bytes_eq-Decides (folded fold name) (folded fold other)).1 here) ∙ differs)))

      by : (b : Bool) → is_same_text fold name other ≡ b → list_any (λ q. eqb q p) (places other) ≡ b
      by false differs = apart differs (place_named fold params other) refl
      by true equal =
          ap (λ t. list_any (λ q. eqb q p) (option_to_list (position (λ (param : Param). bytes_eq t (folded fold param.name)) params)))
          (sym ((bytes_eq-Decides (folded fold name) (folded fold other)).0 equal))
          ∙ ap (λ o. list_any (λ q. eqb q p) (option_to_list o)) at ∙ ap (λ b. b || false) (eq-eqb p p refl)

  -- a parameter stood before exactly if its name did
  stood : (name : List ℕ) (p : ℕ) → place_named fold params name ≡ Some p → (before : List (List ℕ))
      → list_any (λ q. eqb q p) (members_of fold params before) ≡ list_any (is_same_text fold name) before
  stood name p at [] = refl
  stood name p at (other ∷ before) =
      list_any-append (λ q. eqb q p) (places other) (members_of fold params before) ∙ ap (λ b. b || list_any (λ q. eqb q p) (members_of fold params before)) (finds name other p at)
      ∙ ap (λ b. is_same_text fold name other || b) (stood name p at before)

  module _ (line : ℕ) where
    member_is : (before : List (List ℕ)) (piece : List ℕ)
        → add_member fold (known_names fold params) line (members_of fold params before) piece
        ≡ read_unless (option_map (bad_line line) (member_code fold params (before, piece))) (members_of fold params (before ++ piece ∷ []))
    member_is before piece = ap (member_or line (members_of fold params before)) (place_same fold params piece) ∙ at (place_named fold params piece) refl
      where
        repeated : (b : Bool) (p : ℕ) (members next : List ℕ) → members ++ p ∷ [] ≡ next
            → cond b (refused line RepeatedMember) (Ok (members ++ p ∷ [])) ≡ read_unless (option_map (bad_line line) (cond b (Some RepeatedMember) None)) next
        repeated true p members next is = refl
        repeated false p members next is = ap Ok is

        at : (o : Option ℕ) → place_named fold params piece ≡ o
            → member_or line (members_of fold params before) o ≡ read_unless (option_map (bad_line line) (member_code fold params (before, piece))) (members_of fold params (before ++ piece ∷ []))
        at None there =
            sym (ap (λ o. read_unless (option_map (bad_line line) (cond (not (is_some o)) (Some UnknownMember) (cond (is_repeated fold (before, piece)) (Some RepeatedMember) None)))
            (members_of fold params (before ++ piece ∷ []))) there)
        at (Some p) there =
            ap (λ b. cond b (refused line RepeatedMember) (Ok (members_of fold params before ++ p ∷ []))) (stood piece p there before)
            ∙ repeated (is_repeated fold (before, piece)) p (members_of fold params before) _ (sym (members-append before piece ∙ ap (λ o. members_of fold params before ++ option_to_list o) there))
            ∙ sym (ap (λ o. read_unless (option_map (bad_line line) (cond (not (is_some o)) (Some UnknownMember) (cond (is_repeated fold (before, piece)) (Some RepeatedMember) None)))
            (members_of fold params (before ++ piece ∷ []))) there)

-- ---- group lines

module _ (text : List ℕ) where
  abbrev behind : List ℕ
  behind = behind_sign text

  form_by : (b : Bool)
      → cond b (relation_code behind) (braces_code false (without_first_blanks text))
      ≡ cond (b && eqb (length (strength_text behind)) 0) (Some RelationNoOrder) (braces_code b (cond b (behind_strength behind) (without_first_blanks text)))
  form_by true = refl
  form_by false = refl

  form_is : group_code text ≡ form_code text
  form_is = form_by (is_relation text)

  order_by : (b : Bool)
      → cond b (Some (strength_text behind)) (sub_order (without_first_blanks text)) ≡ cond b (Some (strength_text behind)) (sub_order (cond b (behind_strength behind) (without_first_blanks text)))
  order_by true = refl
  order_by false = refl

  order_is : order_text text ≡ written_order text
  order_is = order_by (is_relation text)

order_same : (whole : ℕ) (written : Option (List ℕ)) (count : ℕ) → group_order whole written count ≡ option_map_or (λ text. count_of text 1 count) written (Some (min whole count))
order_same whole None count = refl
order_same whole (Some text) count = refl

-- one more of the lines that pass
pass-append : {X Y : Type 0} (p : X → Bool) (f : X → Y) (before : List X) (x : X) → map f (filter p (before ++ x ∷ [])) ≡ cond (p x) (map f (filter p before) ++ f x ∷ []) (map f (filter p before))
pass-append p f before x = ap (map f) (filter-append p before (x ∷ [])) ∙ map-append f (filter p before) (filter p (x ∷ [])) ∙ at (p x)
  where
    at : (b : Bool) → map f (filter p before) ++ map f (cond b (x ∷ []) []) ≡ cond b (map f (filter p before) ++ f x ∷ []) (map f (filter p before))
    at true = refl
    at false = append-nil (map f (filter p before))

map-or : {A B : Type 0} (f : A → B) (a b : Option A) → option_map f (option_or a b) ≡ option_or (option_map f a) (option_map f b)
map-or f None b = refl
map-or f (Some a) b = refl

first-map : {A B X : Type 0} (f : A → B) (g : X → Option A) (xs : List X) → first_some (map (λ x. option_map f (g x)) xs) ≡ option_map f (first_some (map g xs))
first-map f g [] = refl
first-map f g (x ∷ xs) = ap (option_or (option_map f (g x))) (first-map f g xs) ∙ sym (map-or f (g x) (first_some (map g xs)))

earlier-map : {A B : Type 0} (f : A → B) (before xs : List A) → map (λ x. f x.1) (with_earlier before xs) ≡ map f xs
earlier-map f before [] = refl
earlier-map f before (x ∷ xs) = ap (λ ys. f x ∷ ys) (earlier-map f (before ++ x ∷ []) xs)

module _ (opts : ModelOpts) (params : List Param) (whole : ℕ) where
  abbrev groups_at : List (ℕ × List ℕ) → Demand
  groups_at lines = demand_of opts params whole lines

  same_demand : (subs subs' relations relations' : List Group) → subs ≡ subs' → relations ≡ relations'
      → let a : Demand = record { order = whole; subs = subs; relations = relations } in let b : Demand = record { order = whole; subs = subs'; relations = relations' } in a ≡ b
  same_demand subs subs' relations relations' a b = cc

  abbrev group : ℕ × List ℕ → Group
  group line = group_of opts params whole line.1

  abbrev relation : ℕ × List ℕ → Bool
  relation line = is_relation line.1

  abbrev sub : ℕ × List ℕ → Bool
  sub line = not (is_relation line.1)

  -- one more group, whose order is given
  more_is : (before : List (ℕ × List ℕ)) (line : ℕ × List ℕ) (one : Group) → one ≡ group line → (b : Bool)
      → map group (filter sub (before ++ line ∷ [])) ≡ cond (not b) (map group (filter sub before) ++ group line ∷ []) (map group (filter sub before))
      → map group (filter relation (before ++ line ∷ [])) ≡ cond b (map group (filter relation before) ++ group line ∷ []) (map group (filter relation before))
      → cond b (record (groups_at before) { relations = map group (filter relation before) ++ one ∷ [] }) (record (groups_at before) { subs = map group (filter sub before) ++ one ∷ [] })
      ≡ groups_at (before ++ line ∷ [])
  more_is before line one is true subs relations = same_demand _ _ _ _ (sym subs) (ap (λ g. map group (filter relation before) ++ g ∷ []) is ∙ sym relations)
  more_is before line one is false subs relations = same_demand _ _ _ _ (ap (λ g. map group (filter sub before) ++ g ∷ []) is ∙ sym subs) (sym relations)

  added_is : (before : List (ℕ × List ℕ)) (line : ℕ × List ℕ) (o : Option ℕ) → order_of_group opts params whole line.1 ≡ o
      → add_group line.0 (is_relation line.1) (groups_at before) (members_of opts.fold params (group_pieces opts line.1)) o
      ≡ read_unless (option_map (bad_line line.0) (cond (is_some o) None (Some BadGroupOrder))) (groups_at (before ++ line ∷ []))
  added_is before line None is = refl
  added_is before line (Some order) is =
      let is_one = ap (λ o. let g : Group = record { order = unwrap_or o 0; members = members_of opts.fold params (group_pieces opts line.1) } in g) (sym is) in
      ap Ok (more_is before line _ is_one (is_relation line.1) (pass-append sub group before line) (pass-append relation group before line))

  group_is : (before : List (ℕ × List ℕ)) (line : ℕ × List ℕ)
      → read_group opts (known_names opts.fold params) (groups_at before) line ≡ read_unless (group_fault opts params whole line) (groups_at (before ++ line ∷ []))
  group_is before line =
      let known = known_names opts.fold params in
      let pieces = group_pieces opts line.1 in
      let members = members_of opts.fold params pieces in
      let codes = map (member_code opts.fold params) (with_earlier [] pieces) in
      let order = order_of_group opts params whole line.1 in
      let code = cond (is_some order) None (Some BadGroupOrder) in
      let bad = λ (o : Option DiagCode). option_map (bad_line line.0) o in
      let next = groups_at (before ++ line ∷ []) in
      let add = λ (ms : List ℕ). add_group line.0 (is_relation line.1) (groups_at before) ms (group_order whole (order_text line.1) (length ms)) in
      let read : and_each (add_member opts.fold known line.0) [] pieces ≡ read_unless (bad (first_some codes)) members =
      each_is (add_member opts.fold known line.0) (λ piece. bad (member_code opts.fold params piece)) (members_of opts.fold params) (member_is opts.fold params line.0) [] pieces
      ∙ ap (λ o. read_unless o members) (first-map (bad_line line.0) (member_code opts.fold params) (with_earlier [] pieces)) in
      let added : add members ≡ read_unless (bad code) next =
      ap (add_group line.0 (is_relation line.1) (groups_at before) members)
      (ap (λ w. group_order whole w (length members)) (order_is line.1) ∙ order_same whole (written_order line.1) (length members))
      ∙ added_is before line order refl in
      ap (λ o. refused_or line.0 o (and_then (and_each (add_member opts.fold known line.0) [] pieces) add)) (form_is line.1)
      ∙ refused_is line.0 (form_code line.1) (option_or (bad (first_some codes)) (bad code)) next _ (ap (λ r. and_then r add) read ∙ then_is (bad (first_some codes)) (bad code) members next add added)
      ∙ ap (λ o. read_unless o next) (sym (ap (λ o. bad (option_or (form_code line.1) o)) (first_last codes code) ∙ map-or (bad_line line.0) (form_code line.1) (option_or (first_some codes) code)
      ∙ ap (option_or (bad (form_code line.1))) (map-or (bad_line line.0) (first_some codes) code)))

  groups_is : (lines : List (ℕ × List ℕ)) → read_groups opts (known_names opts.fold params) whole lines ≡ read_unless (first_some (map (group_fault opts params whole) lines)) (groups_at lines)
  groups_is lines =
      each_is (read_group opts (known_names opts.fold params)) (λ line. group_fault opts params whole line.1) groups_at group_is [] lines
      ∙ ap (λ os. read_unless (first_some os) (groups_at lines)) (earlier-map (group_fault opts params whole) [] lines)

-- ---- the whole

or-assoc : {A : Type 0} (a b c : Option A) → option_or (option_or a b) c ≡ option_or a (option_or b c)
or-assoc None b c = refl
or-assoc (Some a) b c = refl

length-params : (opts : ModelOpts) (params : List Param) (lines : List (ℕ × List ℕ)) → length (params_of opts params lines) ≡ length params + length lines
length-params opts params [] = omega arith
length-params opts params (line ∷ lines) =
    let more = length-params opts (params ++ param_of opts params line ∷ []) lines in
    omega (arith, length-append params (param_of opts params line ∷ []))

-- what is read step by step of a model file's lines is what the rules give
pub raw_ruled : (opts : ModelOpts) (split : Split) → read_raw opts split ≡ raw_model_of opts split
raw_ruled opts split =
    let lines = split.params in
    let params = params_of opts [] lines in
    let whole = order_in opts.order (length lines) in
    let read = lines_at opts lines in
    let demand = demand_of opts params whole split.groups in
    let raw : RawModel = record { params = params; demand = demand; notes = read.notes } in
    let none = cond (eqb (length lines) 0) (Some (bad_line 1 NoParameters)) None in
    let many = above Params (length lines) in
    let first = first_some (lines_fault opts lines) in
    let faults = map (group_fault opts params whole) split.groups in
    let last = order_fault opts.order lines in
    let count : length params ≡ length lines = let same = length-params opts [] lines in omega arith in
    let ends : with_demand lines read demand ≡ read_unless last raw =
    ap (λ n. cond (ltb n whole) (refused (slice_index_or lines (length lines - 1) (0, [])).0 OrderTooLarge) (Ok raw)) count ∙ limit_is (ltb (length lines) whole) _ raw in
    let behind : and_then (read_groups opts read.known (order_in opts.order (length params)) split.groups) (λ d. with_demand lines read d) ≡ read_unless (option_or (first_some faults) last) raw =
    ap (λ n. and_then (read_groups opts read.known (order_in opts.order n) split.groups) (λ d. with_demand lines read d)) count
    ∙ ap (λ r. and_then r (λ d. with_demand lines read d)) (groups_is opts params whole split.groups) ∙ then_is (first_some faults) last demand raw (λ d. with_demand lines read d) ends in
    ap (λ r. and_then r (λ q. and_then (read_groups opts q.known (order_in opts.order (length q.params)) split.groups) (λ d. with_demand lines q d))) (params_is opts lines)
    ∙ then_is (option_or none (option_or many first)) (option_or (first_some faults) last) read raw _ behind
    ∙ ap (λ o. read_unless o raw) (or-assoc none (option_or many first) (option_or (first_some faults) last) ∙ ap (option_or none) (or-assoc many first (option_or (first_some faults) last)
    ∙ ap (option_or many) (sym (first_last (lines_fault opts lines ++ faults) last
    ∙ ap (λ o. option_or o last) (first-append (lines_fault opts lines) faults) ∙ or-assoc first (first_some faults) last))))
