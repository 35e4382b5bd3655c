-- What is read step by step of the parameter lines is what their rules give.
use Rattle.std.proofs.Common.{◌≡◌, ℕ, Bool, true, false, not, ◌||◌, cond, List, [], ◌∷◌, ◌++◌, map, flat_map, length, Option, Some, None, Result, Ok, Err, refl, sym, ◌∙◌, ap, arith, eqb, ltb, is_some}
use Rattle.std.proofs.Math.Bool.{or_assoc, or-false}
use Rattle.std.proofs.lemmas.Bool.{cond-true, cond-false}
use Rattle.std.proofs.lemmas.Bool.Decides.{nat_tests}
use Rattle.std.proofs.lemmas.Grind.{flat_map-append}
use Rattle.std.proofs.lemmas.List.{append-nil, append_assoc, map-append}
use Rattle.std.proofs.lemmas.List.Elements.{filter-append}
use Rattle.std.proofs.lemmas.List.Folds.{list_any-append}
use Rattle.std.proofs.lemmas.Slice.Eq.{bytes_eq-Decides}
use Rattle.std.specs.List.{list_any, filter}
use Rattle.std.specs.Option.{option_or, option_map, option_map_or}
use Rattle.std.specs.Str.{bytes_eq}
use Rattle.value_text.specs.believed.Texts.{folded}
use Rattle.value_text.proofs.ListLemmas.{list_any-map, option_or-None, place_text}
use Rattle.cov_model.specs.declared.parameter.Param.{Param}
use Rattle.cov_model.specs.declared.parameter.Value.{Value}
use Rattle.cov_model.specs.believed.Sound.{param_at}
use Rattle.model_lex.specs.declared.diag.DiagCode.{DiagCode}
use Rattle.model_lex.specs.declared.diag.DiagCode.TheVariants.{NoParameters, RepeatedParameter, UnknownReference, EmptyParameterName, BadParameterName}
use Rattle.model_lex.specs.declared.fault.LimitName.TheVariants.{Names, Params, Values}
use Rattle.model_lex.specs.declared.fault.ModelFault.{ModelFault}
use Rattle.model_lex.specs.declared.note.Note.{Note}
use Rattle.model_lex.specs.declared.note.NoteCode.TheVariants.{RepeatedValueName}
use Rattle.model_lex.specs.declared.options.ModelOpts.{ModelOpts}
use Rattle.model_parse.specs.declared.reading.ParamsRead.{ParamsRead}
use Rattle.model_parse.specs.declared.reading.Reading.{Reading}
use Rattle.model_parse.specs.believed.ParamLines.{all_names, called_code, given, is_repeated, kept_names, kept_value, kept_values, line_name, line_pieces, notes_of}
use Rattle.model_parse.specs.believed.ParamLines.{param_fault, param_of, params_of, piece_fault, place_named, values_code, values_of}
use Rattle.model_parse.specs.believed.Pieces.{is_unfit}
use Rattle.model_parse.specs.believed.Rules.{above, bad_line, first_some, read_unless, with_earlier}
use Rattle.model_parse.specs.believed.Values.{is_reference, piece_code, referred, value_of}
use Rattle.model_parse.specs.Steps.{and_each, and_then, refused_or}
use Rattle.model_parse.specs.ValueSteps.{Kept, add_kept, add_piece, add_value, is_known, keep_name, keep_names, piece_values, place_of, values_at}
use Rattle.model_parse.specs.ParamSteps.{add_param, line_list, param_code, read_param, read_params, read_values}

-- ---- items and those before them

pub earlier-append : {A : Type 0} (before xs ys : List A) → with_earlier before (xs ++ ys) ≡ with_earlier before xs ++ with_earlier (before ++ xs) ys
earlier-append before [] ys = ap (λ b. with_earlier b ys) (sym (append-nil before))
earlier-append before (x ∷ xs) ys =
    ap (λ rest. (before, x) ∷ rest) (earlier-append (before ++ x ∷ []) xs ys ∙ ap (λ b. with_earlier (before ++ x ∷ []) xs ++ with_earlier b ys) (append_assoc before (x ∷ []) xs))

pub first-append : {A : Type 0} (xs ys : List (Option A)) → first_some (xs ++ ys) ≡ option_or (first_some xs) (first_some ys)
first-append [] ys = refl
first-append (None ∷ xs) ys = first-append xs ys
first-append (Some x ∷ xs) ys = refl

-- the last of some refusals
pub first_last : {A : Type 0} (xs : List (Option A)) (y : Option A) → first_some (xs ++ y ∷ []) ≡ option_or (first_some xs) y
first_last xs y = first-append xs (y ∷ []) ∙ ap (option_or (first_some xs)) (option_or-None y)

-- ---- steps and refusals

pub then_is : {A B : Type 0} (o p : Option ModelFault) (a : A) (b : B) (next : A → Result B ModelFault) → next a ≡ read_unless p b → and_then (read_unless o a) next ≡ read_unless (option_or o p) b
then_is None p a b next is = is
then_is (Some fault) p a b next is = refl

pub refused_is : {A : Type 0} (line : ℕ) (code : Option DiagCode) (p : Option ModelFault) (a : A) (r : Result A ModelFault) → r ≡ read_unless p a
    → refused_or line code r ≡ read_unless (option_or (option_map (bad_line line) code) p) a
refused_is line None p a r is = is
refused_is line (Some code) p a r is = refl

pub limit_is : {A : Type 0} (many : Bool) (fault : ModelFault) (a : A) → cond many (Err fault) (Ok a) ≡ read_unless (cond many (Some fault) None) a
limit_is true fault a = refl
limit_is false fault a = refl

-- a step for each item is its rule for each, said of the items before it
pub each_is :
    {A X : Type 0} (step : A → X → Result A ModelFault) (fault : List X × X → Option ModelFault) (state : List X → A)
    → ((before : List X) (x : X) → step (state before) x ≡ read_unless (fault (before, x)) (state (before ++ x ∷ []))) → (before xs : List X)
    → and_each step (state before) xs ≡ read_unless (first_some (map fault (with_earlier before xs))) (state (before ++ xs))
each_is step fault state one before [] = ap (λ b. Ok (state b)) (sym (append-nil before))
each_is step fault state one before (x ∷ xs) =
    let rest = first_some (map fault (with_earlier (before ++ x ∷ []) xs)) in
    ap (λ r. and_then r (λ next. and_each step next xs)) (one before x)
    ∙ then_is (fault (before, x)) rest (state (before ++ x ∷ [])) (state (before ++ x ∷ xs)) (λ next. and_each step next xs)
    (each_is step fault state one (before ++ x ∷ []) xs ∙ ap (λ b. read_unless rest (state b)) (append_assoc before (x ∷ []) xs))

-- ---- names

module _ (fold : Bool) where
  kept-append : (before xs ys : List (List ℕ)) → kept_names fold before (xs ++ ys) ≡ kept_names fold before xs ++ kept_names fold (before ++ xs) ys
  kept-append before xs ys =
      let new = λ (name : List (List ℕ) × List ℕ). not (is_repeated fold name) in
      ap (λ ns. map (λ name. name.1) (filter new ns)) (earlier-append before xs ys) ∙ ap (map (λ name. name.1)) (filter-append new (with_earlier before xs) (with_earlier (before ++ xs) ys))
      ∙ map-append (λ name. name.1) (filter new (with_earlier before xs)) (filter new (with_earlier (before ++ xs) ys))

  kept_one : (before : List (List ℕ)) (name : List ℕ) (b : Bool) → is_repeated fold (before, name) ≡ b → kept_names fold before (name ∷ []) ≡ cond b [] (name ∷ [])
  kept_one before name true is = ap (λ b. map (λ (n : List (List ℕ) × List ℕ). n.1) (cond (not b) ((before, name) ∷ []) [])) is
  kept_one before name false is = ap (λ b. map (λ (n : List (List ℕ) × List ℕ). n.1) (cond (not b) ((before, name) ∷ []) [])) is

  -- a text is the same as an earlier name exactly if it is the same as one that is kept
  module _ (q : List ℕ) where
    abbrev same : List ℕ → Bool
    same text = bytes_eq q (folded fold text)

    one_same : (before : List (List ℕ)) (name : List ℕ) (b : Bool) → is_repeated fold (before, name) ≡ b
        → (list_any same before || list_any same (kept_names fold before (name ∷ []))) ≡ (list_any same before || list_any same (name ∷ []))
    one_same before name false is = ap (λ ns. list_any same before || list_any same ns) (kept_one before name false is)
    one_same before name true is = ap (λ ns. list_any same before || list_any same ns) (kept_one before name true is) ∙ at (same name) refl
      where
        at : (b : Bool) → same name ≡ b → (list_any same before || false) ≡ (list_any same before || (same name || false))
        at false e = ap (λ b. list_any same before || (b || false)) (sym e)
        at true e =
            let found : list_any same before ≡ true = ap (λ t. list_any (λ x. bytes_eq t (folded fold x)) before) ((bytes_eq-Decides q (folded fold name)).0 e) ∙ is in
            ap (λ b. b || false) found ∙ ap (λ b. b || (same name || false)) (sym found)

    kept_same : (before names : List (List ℕ)) → (list_any same before || list_any same (kept_names fold before names)) ≡ (list_any same before || list_any same names)
    kept_same before [] = refl
    kept_same before (name ∷ names) =
        let kept = kept_names fold before (name ∷ []) in
        let rest = kept_names fold (before ++ name ∷ []) names in
        ap (λ ns. list_any same before || list_any same ns) (kept-append before (name ∷ []) names) ∙ ap (λ b. list_any same before || b) (list_any-append same kept rest)
        ∙ sym (or_assoc (list_any same before) (list_any same kept) (list_any same rest))
        ∙ ap (λ b. b || list_any same rest) (one_same before name (is_repeated fold (before, name)) refl ∙ sym (list_any-append same before (name ∷ [])))
        ∙ kept_same (before ++ name ∷ []) names ∙ ap (λ b. b || list_any same names) (list_any-append same before (name ∷ []))
        ∙ or_assoc (list_any same before) (list_any same (name ∷ [])) (list_any same names)
        ∙ ap (λ b. list_any same before || (b || list_any same names)) (or-false (same name))

  -- the names that are kept, as the case rule compares them
  abbrev known_of : List (List ℕ) → List (List ℕ)
  known_of names = map (folded fold) (kept_names fold [] names)

  known-append : (before names : List (List ℕ)) → known_of (before ++ names) ≡ known_of before ++ map (folded fold) (kept_names fold before names)
  known-append before names = ap (map (folded fold)) (kept-append [] before names) ∙ map-append (folded fold) (kept_names fold [] before) (kept_names fold before names)

  known_is : (before : List (List ℕ)) (name : List ℕ) → is_known fold (known_of before) name ≡ is_repeated fold (before, name)
  known_is before name = list_any-map (bytes_eq (folded fold name)) (folded fold) (kept_names fold [] before) ∙ kept_same (folded fold name) [] before

  module _ (line : ℕ) where
    -- the notes of names that aren't kept
    abbrev note : Note
    note = record { line = line; code = RepeatedValueName }

    abbrev dropped : List (List ℕ) → List (List ℕ) → List Note
    dropped before names = map (λ _. note) (filter (is_repeated fold) (with_earlier before names))

    dropped-append : (before xs ys : List (List ℕ)) → dropped before (xs ++ ys) ≡ dropped before xs ++ dropped (before ++ xs) ys
    dropped-append before xs ys =
        ap (λ ns. map (λ _. note) (filter (is_repeated fold) ns)) (earlier-append before xs ys)
        ∙ ap (map (λ _. note)) (filter-append (is_repeated fold) (with_earlier before xs) (with_earlier (before ++ xs) ys))
        ∙ map-append (λ _. note) (filter (is_repeated fold) (with_earlier before xs)) (filter (is_repeated fold) (with_earlier (before ++ xs) ys))

    dropped_one : (before : List (List ℕ)) (name : List ℕ) (b : Bool) → is_repeated fold (before, name) ≡ b → dropped before (name ∷ []) ≡ cond b (note ∷ []) []
    dropped_one before name true is = ap (λ b. map (λ (_ : List (List ℕ) × List ℕ). note) (cond b ((before, name) ∷ []) [])) is
    dropped_one before name false is = ap (λ b. map (λ (_ : List (List ℕ) × List ℕ). note) (cond b ((before, name) ∷ []) [])) is

    -- what is kept so far of a value's names
    abbrev kept_at : List (List ℕ) → List (List ℕ) → List Note → Kept
    kept_at own before notes = record { names = own; known = known_of before; notes = notes }

    same_kept : (names names' known known' : List (List ℕ)) (notes notes' : List Note) → names ≡ names' → known ≡ known' → notes ≡ notes'
        → let a : Kept = record { names = names; known = known; notes = notes } in let b : Kept = record { names = names'; known = known'; notes = notes' } in a ≡ b
    same_kept names names' known known' notes notes' a b c = cc

    keep_one : (own before : List (List ℕ)) (notes : List Note) (name : List ℕ) (b : Bool) → is_repeated fold (before, name) ≡ b
        → keep_name fold line (kept_at own before notes) name ≡ kept_at (own ++ kept_names fold before (name ∷ [])) (before ++ name ∷ []) (notes ++ dropped before (name ∷ []))
    keep_one own before notes name true is =
        let none = kept_one before name true is in
        cond-true (is_known fold (known_of before) name) _ _ (known_is before name ∙ is)
        ∙ same_kept _ _ _ _ _ _ (sym (ap (λ ns. own ++ ns) none ∙ append-nil own))
        (sym (known-append before (name ∷ []) ∙ ap (λ ns. known_of before ++ map (folded fold) ns) none ∙ append-nil (known_of before)))
        (ap (λ ns. notes ++ ns) (sym (dropped_one before name true is)))
    keep_one own before notes name false is =
        let one = kept_one before name false is in
        cond-false (is_known fold (known_of before) name) _ _ (known_is before name ∙ is)
        ∙ same_kept _ _ _ _ _ _ (ap (λ ns. own ++ ns) (sym one)) (sym (known-append before (name ∷ []) ∙ ap (λ ns. known_of before ++ map (folded fold) ns) one))
        (sym (ap (λ ns. notes ++ ns) (dropped_one before name false is) ∙ append-nil notes))

    keep_is : (own before : List (List ℕ)) (notes : List Note) (names : List (List ℕ))
        → keep_names fold line (kept_at own before notes) names ≡ kept_at (own ++ kept_names fold before names) (before ++ names) (notes ++ dropped before names)
    keep_is own before notes [] = same_kept _ _ _ _ _ _ (sym (append-nil own)) (ap known_of (sym (append-nil before))) (sym (append-nil notes))
    keep_is own before notes (name ∷ names) =
        let next = before ++ name ∷ [] in
        ap (λ k. keep_names fold line k names) (keep_one own before notes name (is_repeated fold (before, name)) refl)
        ∙ keep_is (own ++ kept_names fold before (name ∷ [])) next (notes ++ dropped before (name ∷ [])) names
        ∙ same_kept _ _ _ _ _ _ (append_assoc own _ _ ∙ ap (λ ns. own ++ ns) (sym (kept-append before (name ∷ []) names))) (ap known_of (append_assoc before (name ∷ []) names))
        (append_assoc notes _ _ ∙ ap (λ ns. notes ++ ns) (sym (dropped-append before (name ∷ []) names)))

    -- ---- values

    module _ (start : List Note) where
      -- what is read of the values of a line
      abbrev read_at : List Value → Reading
      read_at values = record { values = kept_values fold values; known = known_of (all_names values); notes = start ++ dropped [] (all_names values) }

      same_read : (values values' : List Value) (known known' : List (List ℕ)) (notes notes' : List Note) → values ≡ values' → known ≡ known' → notes ≡ notes'
          → let a : Reading = record { values = values; known = known; notes = notes } in let b : Reading = record { values = values'; known = known'; notes = notes' } in a ≡ b
      same_read values values' known known' notes notes' a b c = cc

      kept_last : (values : List Value) (value : Value) (n : ℕ) → values ++ cond (ltb 0 n) (value ∷ []) [] ≡ cond (eqb n 0) values (values ++ value ∷ [])
      kept_last values value n = ap (λ b. values ++ cond b (value ∷ []) []) some ∙ at (eqb n 0)
        where
          some : ltb 0 n ≡ not (eqb n 0)
          some = grind (arith, nat_tests)

          at : (b : Bool) → values ++ cond (not b) (value ∷ []) [] ≡ cond b values (values ++ value ∷ [])
          at true = append-nil values
          at false = refl

      names-append : (before : List Value) (value : Value) → all_names (before ++ value ∷ []) ≡ all_names before ++ value.names
      names-append before value = flat_map-append (λ (v : Value). v.names) before (value ∷ []) ∙ ap (λ ns. all_names before ++ ns) (append-nil value.names)

      values-append : (before : List Value) (value : Value)
          → let one = kept_value fold (before, value) in kept_values fold (before ++ value ∷ []) ≡ cond (eqb (length one.names) 0) (kept_values fold before) (kept_values fold before ++ one ∷ [])
      values-append before value =
          let one = kept_value fold (before, value) in
          let some = λ (v : Value). ltb 0 (length v.names) in
          ap (λ vs. filter some (map (kept_value fold) vs)) (earlier-append [] before (value ∷ [])) ∙ ap (filter some) (map-append (kept_value fold) (with_earlier [] before) ((before, value) ∷ []))
          ∙ filter-append some (map (kept_value fold) (with_earlier [] before)) (one ∷ []) ∙ kept_last (kept_values fold before) one (length one.names)

      abbrev names_fault : List Value × Value → Option ModelFault
      names_fault value = above Names (length (kept_value fold value).names)

      value_is : (before : List Value) (value : Value) → add_value fold line (read_at before) value ≡ read_unless (names_fault (before, value)) (read_at (before ++ value ∷ []))
      value_is before value =
          let names = all_names before in
          let own = kept_names fold names value.names in
          ap (add_kept (kept_values fold before) value) (keep_is [] names (start ++ dropped [] names) value.names)
          ∙ limit_is (ltb 64 (length own)) _ _
          ∙ ap (read_unless (names_fault (before, value))) (same_read _ _ _ _ _ _ (sym (values-append before value)) (ap known_of (sym (names-append before value)))
          (append_assoc start (dropped [] names) (dropped names value.names) ∙ ap (λ ns. start ++ ns) (sym (ap (dropped []) (names-append before value) ∙ dropped-append [] names value.names))))

-- ---- pieces

abbrev pub known_names : Bool → List Param → List (List ℕ)
known_names fold params = map (λ (param : Param). folded fold param.name) params

pub place_same : (fold : Bool) (params : List Param) (name : List ℕ) → place_of fold (known_names fold params) name ≡ place_named fold params name
place_same fold params name = sym (place_text (λ (param : Param). folded fold param.name) (folded fold name) params)

module _ (opts : ModelOpts) (line : ℕ) (params : List Param) where
  at_place : (place : Option ℕ)
      → values_at line params place ≡ read_unless (option_map (bad_line line) (cond (is_some place) None (Some UnknownReference))) (option_map_or (λ p. (param_at params p).values) place [])
  at_place None = refl
  at_place (Some p) = refl

  module _ (piece : List ℕ) where
    abbrev place : Option ℕ
    place = place_named opts.fold params (referred piece)

    abbrev spelled : List Value
    spelled = value_of opts.marks piece ∷ []

    gives_by : (b : Bool)
        → cond b (values_at line params (place_of opts.fold (known_names opts.fold params) (referred piece))) (refused_or line (piece_code opts.marks piece) (Ok spelled))
        ≡ read_unless (option_map (bad_line line) (cond b (cond (is_some place) None (Some UnknownReference)) (piece_code opts.marks piece)))
        (cond b (option_map_or (λ p. (param_at params p).values) place []) spelled)
    gives_by true = ap (values_at line params) (place_same opts.fold params (referred piece)) ∙ at_place place
    gives_by false =
        refused_is line (piece_code opts.marks piece) None spelled (Ok spelled) refl
        ∙ ap (λ o. read_unless o spelled) (option_or-None (option_map (bad_line line) (piece_code opts.marks piece)))

    gives_is : piece_values opts line params (known_names opts.fold params) piece ≡ read_unless (option_map (bad_line line) (values_code opts params piece)) (values_of opts params piece)
    gives_is = gives_by (is_reference piece)

  module _ (start : List Note) where
    abbrev pieces_at : List (List ℕ) → Reading
    pieces_at before = read_at opts.fold line start (given opts params before)

    piece_is : (before : List (List ℕ)) (piece : List ℕ)
        → add_piece opts line params (known_names opts.fold params) (pieces_at before) piece ≡ read_unless (piece_fault opts line params (before, piece)) (pieces_at (before ++ piece ∷ []))
    piece_is before piece =
        let values = values_of opts params piece in
        let more : given opts params (before ++ piece ∷ []) ≡ given opts params before ++ values =
        flat_map-append (values_of opts params) before (piece ∷ []) ∙ ap (λ vs. given opts params before ++ vs) (append-nil values) in
        let faults = first_some (map (names_fault opts.fold line start) (with_earlier (given opts params before) values)) in
        ap (λ r. and_then r (λ vs. and_each (add_value opts.fold line) (pieces_at before) vs)) (gives_is piece)
        ∙ then_is (option_map (bad_line line) (values_code opts params piece)) faults values (pieces_at (before ++ piece ∷ [])) _
        (each_is (add_value opts.fold line) (names_fault opts.fold line start) (read_at opts.fold line start) (value_is opts.fold line start) (given opts params before) values
        ∙ ap (λ vs. read_unless faults (read_at opts.fold line start vs)) (sym more))

-- ---- lines

called_is : (fold : Bool) (params : List Param) (name : List ℕ) → param_code fold (known_names fold params) name ≡ called_code fold params name
called_is fold params name =
    ap (λ b. cond (eqb (length name) 0) (Some EmptyParameterName) (cond (is_unfit name) (Some BadParameterName) (cond b (Some RepeatedParameter) None)))
    (list_any-map (bytes_eq (folded fold name)) (λ (param : Param). folded fold param.name) params)

module _ (opts : ModelOpts) where
  params-append : (params : List Param) (xs ys : List (ℕ × List ℕ)) → params_of opts params (xs ++ ys) ≡ params_of opts (params_of opts params xs) ys
  params-append params [] ys = refl
  params-append params (x ∷ xs) ys = params-append (params ++ param_of opts params x ∷ []) xs ys

  abbrev notes_at : List (ℕ × List ℕ) × (ℕ × List ℕ) → List Note
  notes_at line = notes_of opts (params_of opts [] line.0) line.1

  -- what is read of the lines
  abbrev pub lines_at : List (ℕ × List ℕ) → ParamsRead
  lines_at lines =
      let params = params_of opts [] lines in
      record { params = params; known = known_names opts.fold params; notes = flat_map notes_at (with_earlier [] lines) }

  same_lines : (params params' : List Param) (known known' : List (List ℕ)) (notes notes' : List Note) → params ≡ params' → known ≡ known' → notes ≡ notes'
      → let a : ParamsRead = record { params = params; known = known; notes = notes } in let b : ParamsRead = record { params = params'; known = known'; notes = notes' } in a ≡ b
  same_lines params params' known known' notes notes' a b c = cc

  -- the values of a line
  list_is : (line : ℕ) (params : List Param) (notes : List Note) (text : List ℕ)
      → read_values opts line params (known_names opts.fold params) notes (line_list text)
      ≡ read_unless (first_some (map (piece_fault opts line params) (with_earlier [] (line_pieces opts text)))) (pieces_at opts line params notes (line_pieces opts text))
  list_is line params notes text =
      ap (λ ns. let start : Reading = record { values = []; known = []; notes = ns } in and_each (add_piece opts line params (known_names opts.fold params)) start (line_pieces opts text))
      (sym (append-nil notes))
      ∙ each_is (add_piece opts line params (known_names opts.fold params)) (piece_fault opts line params) (pieces_at opts line params notes) (piece_is opts line params notes) []
      (line_pieces opts text)

  line_is : (before : List (ℕ × List ℕ)) (line : ℕ × List ℕ) → read_param opts (lines_at before) line ≡ read_unless (param_fault opts (params_of opts [] before) line) (lines_at (before ++ line ∷ []))
  line_is before line =
      let params = params_of opts [] before in
      let known = known_names opts.fold params in
      let notes = flat_map notes_at (with_earlier [] before) in
      let param = param_of opts params line in
      let values = pieces_at opts line.0 params notes (line_pieces opts line.1) in
      let called = option_map (bad_line line.0) (called_code opts.fold params (line_name line.1)) in
      let faults = map (piece_fault opts line.0 params) (with_earlier [] (line_pieces opts line.1)) in
      let many = above Values (length param.values) in
      let next = lines_at (before ++ line ∷ []) in
      let more : params_of opts [] (before ++ line ∷ []) ≡ params ++ param ∷ [] = params-append [] before (line ∷ []) in
      let added : add_param opts.fold line.0 (line_name line.1) params known values ≡ read_unless many next =
      limit_is (ltb 4095 (length param.values)) _ _
      ∙ ap (read_unless many) (same_lines _ _ _ _ _ _ (sym more) (sym (ap (known_names opts.fold) more ∙ map-append (λ (p : Param). folded opts.fold p.name) params (param ∷ [])))
      (sym (ap (flat_map notes_at) (earlier-append [] before (line ∷ [])) ∙ flat_map-append notes_at (with_earlier [] before) ((before, line) ∷ []) ∙ ap (λ ns. notes ++ ns)
      (append-nil (notes_at (before, line)))))) in
      ap (λ o. refused_or line.0 o (and_then (read_values opts line.0 params known notes (line_list line.1)) (λ vs. add_param opts.fold line.0 (line_name line.1) params known vs)))
      (called_is opts.fold params (line_name line.1))
      ∙ refused_is line.0 (called_code opts.fold params (line_name line.1)) (option_or (first_some faults) many) next _
      (ap (λ r. and_then r (λ vs. add_param opts.fold line.0 (line_name line.1) params known vs)) (list_is line.0 params notes line.1) ∙ then_is (first_some faults) many values next _ added)
      ∙ ap (λ o. read_unless (option_or called o) next) (sym (first_last faults many))

  -- why the parameter lines are refused
  abbrev pub lines_fault : List (ℕ × List ℕ) → List (Option ModelFault)
  lines_fault lines = map (λ line. param_fault opts (params_of opts [] line.0) line.1) (with_earlier [] lines)

  counted : {A : Type 0} (none many : Bool) (one limit : ModelFault) (o : Option ModelFault) (a : A) (r : Result A ModelFault) → r ≡ read_unless o a
      → cond none (Err one) (cond many (Err limit) r) ≡ read_unless (option_or (cond none (Some one) None) (option_or (cond many (Some limit) None) o)) a
  counted true many one limit o a r is = refl
  counted false true one limit o a r is = refl
  counted false false one limit o a r is = is

  pub params_is : (lines : List (ℕ × List ℕ))
      → read_params opts lines
      ≡ read_unless (option_or (cond (eqb (length lines) 0) (Some (bad_line 1 NoParameters)) None) (option_or (above Params (length lines)) (first_some (lines_fault lines)))) (lines_at lines)
  params_is lines =
      counted (eqb (length lines) 0) (ltb 256 (length lines)) _ _ (first_some (lines_fault lines)) (lines_at lines) _
      (each_is (read_param opts) (λ line. param_fault opts (params_of opts [] line.0) line.1) lines_at line_is [] lines)
