-- The lines of parameters as they are written, read again.
use Rattle.std.proofs.Common.{◌≡◌, ℕ, Bool, true, false, List, [], ◌∷◌, ◌++◌, map, length, get_or, All, AllPairs, None, Ok, refl, sym, ◌∙◌, ap, subst, arith, eqb, ltb}
use Rattle.std.proofs.Math.Seq.{get_or-append_seam}
use Rattle.std.proofs.lemmas.Bool.{true≢false, false_from_ne_true, cond-false, ne_eqb, le-ltb}
use Rattle.std.proofs.lemmas.List.{append-nil, append_assoc, length-map, length-append, map-append, get_or-map, get_or_append_left}
use Rattle.std.proofs.lemmas.List.Elements.{All-nil, All-cons, All-head, All-tail, All-map}
use Rattle.std.proofs.lemmas.List.Folds.{list_any_none}
use Rattle.std.proofs.lemmas.Slice.Eq.{bytes_eq-Decides}
use Rattle.std.specs.Str.{bytes_eq}
use Rattle.value_text.specs.believed.Texts.{folded, is_same_text, is_blank}
use Rattle.cov_model.specs.declared.parameter.Param.{Param}
use Rattle.cov_model.specs.declared.parameter.Value.{Value}
use Rattle.cov_model.specs.believed.Sound.{IsSoundValue, IsSoundParam, is_numeric, no_param}
use Rattle.model_lex.specs.believed.Blanks.{trimmed}
use Rattle.model_lex.specs.declared.note.Note.{Note}
use Rattle.model_lex.specs.declared.options.Marks.{Marks}
use Rattle.model_lex.specs.declared.options.ModelOpts.{ModelOpts}
use Rattle.model_parse.specs.declared.reading.ParamsRead.{ParamsRead}
use Rattle.model_parse.specs.declared.reading.Reading.{Reading}
use Rattle.model_parse.specs.believed.ParamLines.{line_name}
use Rattle.model_parse.specs.ParamSteps.{param_code, read_values, read_param, read_params, no_params}
use Rattle.model_parse.specs.believed.Pieces.{is_byte, pieces, is_unfit}
use Rattle.model_parse.specs.RawModels.{AreOpts}
use Rattle.model_parse.specs.believed.RawModels.{order_in}
use Rattle.model_parse.specs.Steps.{and_then, and_each}
use Rattle.model_parse.specs.ValueSteps.{Kept, is_known, keep_name, keep_names, add_kept, add_value, add_piece}
use Rattle.model_parse.specs.believed.Written.{joined}
use Rattle.model_parse.specs.Written.{written_value, written_param, written_lines, IsWritable, ParamsReadBack}
use Rattle.model_parse.proofs.Answering.{read_goes, raw_goes}
use Rattle.model_parse.proofs.Joining.{IsWhole, AreBlanks, Lacks, trimmed_back, joined_back, before_first_back, after_first_back}
use Rattle.model_parse.proofs.RuledGroups.{raw_ruled}
use Rattle.model_parse.proofs.SoundParams.{names_of}
use Rattle.model_parse.proofs.SoundValues.{texts_of}
use Rattle.model_parse.proofs.WrittenPieces.{ReadsBack, value_back, values_back}
use Rattle.model_parse.proofs.WrittenValues.{mark_blank, none_stands, named_fit}

-- two texts are apart, whichever comes first
turned : (a b : List ℕ) → bytes_eq a b ≡ false → bytes_eq b a ≡ false
turned a b apart =
    false_from_ne_true (bytes_eq b a) (λ same. true≢false (sym ((bytes_eq-Decides a b).1 (sym ((bytes_eq-Decides b a).0 same))) ∙ apart))

abbrev Distinct : Bool → List (List ℕ) → Type 0
Distinct fold texts = AllPairs (λ a b. is_same_text fold a b ≡ false) texts

-- a text isn't known where it is apart from those before it
unknown : (fold : Bool) (texts : List (List ℕ)) (name : List ℕ) (rest : List (List ℕ)) → Distinct fold (texts ++ name ∷ rest) → is_known fold (map (folded fold) texts) name ≡ false
unknown fold texts name rest distinct =
    list_any_none (bytes_eq (folded fold name)) (map (folded fold) texts) (All-map (λ key. bytes_eq (folded fold name) key ≡ false) (folded fold) texts (λ i d within.
    let here : get_or (texts ++ name ∷ rest) i d ≡ get_or texts i d = get_or_append_left texts (name ∷ rest) d i within in
    let there : get_or (texts ++ name ∷ rest) (length texts) d ≡ name = get_or-append_seam texts name rest d in
    let apart = distinct i (length texts) d within (omega (arith, length-append texts (name ∷ rest))) in
    turned (folded fold (get_or texts i d)) (folded fold name) (subst (λ t. is_same_text fold (get_or texts i d) t ≡ false) there
    (subst (λ t. is_same_text fold t (get_or (texts ++ name ∷ rest) (length texts) d) ≡ false) here apart))))

known_too : (fold : Bool) (texts known : List (List ℕ)) (name : List ℕ) → known ≡ map (folded fold) texts → known ++ folded fold name ∷ [] ≡ map (folded fold) (texts ++ name ∷ [])
known_too fold texts known name is = ap (λ ks. ks ++ folded fold name ∷ []) is ∙ sym (map-append (folded fold) texts (name ∷ []))

regrouped : (fold : Bool) (texts : List (List ℕ)) (name : List ℕ) (rest : List (List ℕ)) → Distinct fold (texts ++ name ∷ rest) → Distinct fold ((texts ++ name ∷ []) ++ rest)
regrouped fold texts name rest distinct = subst (Distinct fold) (sym (append_assoc texts (name ∷ []) rest)) distinct

same_kept : (names names' known known' : List (List ℕ)) (notes : List Note) → names ≡ names' → known ≡ known'
    → let a : Kept = record { names = names; known = known; notes = notes } in let b : Kept = record { names = names'; known = known'; notes = notes } in a ≡ b
same_kept names names' known known' notes a b = cc

-- distinct names are all kept
module _ (fold : Bool) (line : ℕ) (notes : List Note) where
  kept_all : (texts known own rest : List (List ℕ)) → known ≡ map (folded fold) texts → Distinct fold (texts ++ rest)
      → keep_names fold line (record { names = own; known = known; notes = notes }) rest ≡ record { names = own ++ rest; known = map (folded fold) (texts ++ rest); notes = notes }
  kept_all texts known own [] is distinct = same_kept _ _ _ _ notes (sym (append-nil own)) (is ∙ ap (map (folded fold)) (sym (append-nil texts)))
  kept_all texts known own (name ∷ rest) is distinct =
      let kept : Kept = record { names = own; known = known; notes = notes } in
      let next : Kept = record { names = own ++ name ∷ []; known = known ++ folded fold name ∷ []; notes = notes } in
      let new : is_known fold known name ≡ false = ap (λ ks. is_known fold ks name) is ∙ unknown fold texts name rest distinct in
      let step : keep_name fold line kept name ≡ next = cond-false (is_known fold known name) _ _ new in
      ap (λ k. keep_names fold line k rest) step
      ∙ kept_all (texts ++ name ∷ []) (known ++ folded fold name ∷ []) (own ++ name ∷ []) rest (known_too fold texts known name is) (regrouped fold texts name rest distinct)
      ∙ same_kept _ _ _ _ notes (append_assoc own (name ∷ []) rest) (ap (map (folded fold)) (append_assoc texts (name ∷ []) rest))

front_distinct : (fold : Bool) (texts rest : List (List ℕ)) → Distinct fold (texts ++ rest) → Distinct fold texts
front_distinct fold texts rest distinct i j d lt within =
    let low : get_or (texts ++ rest) i d ≡ get_or texts i d = get_or_append_left texts rest d i (omega arith) in
    let high : get_or (texts ++ rest) j d ≡ get_or texts j d = get_or_append_left texts rest d j within in
    rw (← low, ← high) (distinct i j d lt (omega (arith, length-append texts rest)))

-- one more value
value_added : (prefix : ℕ) (fold : Bool) (line : ℕ) (texts : List (List ℕ)) (read : Reading) (value : Value) → read.known ≡ map (folded fold) texts → Distinct fold (texts ++ value.names)
    → IsSoundValue prefix value
    → add_value fold line read value ≡ Ok (record { values = read.values ++ value ∷ []; known = map (folded fold) (texts ++ value.names); notes = read.notes })
value_added prefix fold line texts read value is distinct sound =
    ap (add_kept read.values value) (kept_all fold line read.notes texts read.known [] value.names is distinct)
    ∙ cond-false (ltb 64 (length value.names)) _ _ (le-ltb 64 (length value.names) sound.few)
    ∙ ap (λ vs. Ok (record { values = vs; known = map (folded fold) (texts ++ value.names); notes = read.notes }))
    (cond-false (eqb (length value.names) 0) _ _ (ne_eqb (length value.names) 0 (λ e. let some = sound.some in omega arith)))

-- the values of a line, one after another
values_added : (opts : ModelOpts) (line : ℕ) (params : List Param) (known : List (List ℕ)) (texts : List (List ℕ)) (read : Reading) (values : List Value)
    → read.known ≡ map (folded opts.fold) texts → Distinct opts.fold (texts ++ texts_of values) → All (IsSoundValue opts.marks.prefix) values
    → All (λ value. ReadsBack opts.marks value (written_value opts.marks value)) values
    → and_each (add_piece opts line params known) read (map (written_value opts.marks) values)
    ≡ Ok (record { values = read.values ++ values; known = map (folded opts.fold) (texts ++ texts_of values); notes = read.notes })
values_added opts line params known texts read [] is distinct sound backs =
    ap Ok (same_reading _ _ _ _ read.notes (sym (append-nil read.values)) (is ∙ ap (map (folded opts.fold)) (sym (append-nil texts))))
  where
    same_reading : (values values' : List Value) (known known' : List (List ℕ)) (notes : List Note) → values ≡ values' → known ≡ known'
        → let a : Reading = record { values = values; known = known; notes = notes } in let b : Reading = record { values = values'; known = known'; notes = notes } in a ≡ b
    same_reading values values' known known' notes a b = cc
values_added opts line params known texts read (value ∷ values) is distinct sound backs =
    let back = λ (v : Value). ReadsBack opts.marks v (written_value opts.marks v) in
    let piece = written_value opts.marks value in
    let next : Reading = record { values = read.values ++ value ∷ []; known = map (folded opts.fold) (texts ++ value.names); notes = read.notes } in
    let apart : Distinct opts.fold ((texts ++ value.names) ++ texts_of values) = subst (Distinct opts.fold) (sym (append_assoc texts value.names (texts_of values))) distinct in
    let one : add_value opts.fold line read value ≡ Ok next =
    value_added opts.marks.prefix opts.fold line texts read value is (front_distinct opts.fold (texts ++ value.names) (texts_of values) apart)
    (All-head (IsSoundValue opts.marks.prefix) value values sound) in
    let step : add_piece opts line params known read piece ≡ Ok next =
    ap (λ r. and_then r (λ vs. and_each (add_value opts.fold line) read vs)) (values_back opts line params known value piece (All-head back value values backs))
    ∙ ap (λ r. and_then r (λ a. Ok a)) one in
    ap (λ r. and_then r (λ a. and_each (add_piece opts line params known) a (map (written_value opts.marks) values))) step
    ∙ values_added opts line params known (texts ++ value.names) next values refl apart (All-tail (IsSoundValue opts.marks.prefix) value values sound) (All-tail back value values backs)
    ∙ ap (λ vs. Ok (record { values = vs; known = map (folded opts.fold) (texts ++ value.names ++ texts_of values); notes = read.notes })) (append_assoc read.values (value ∷ []) values)
    ∙ ap (λ ts. Ok (record { values = read.values ++ (value ∷ values); known = map (folded opts.fold) ts; notes = read.notes })) (append_assoc texts value.names (texts_of values))

-- the list of a line
list_back : (opts : ModelOpts) (line : ℕ) (params : List Param) (known : List (List ℕ)) (notes : List Note) (param : Param) → AreOpts opts → IsSoundParam opts.marks.prefix opts.fold param
    → All (IsWritable opts.marks) param.values
    → read_values opts line params known notes (32 ∷ joined (opts.marks.separator ∷ 32 ∷ []) (map (written_value opts.marks) param.values))
    ≡ Ok (record { values = param.values; known = map (folded opts.fold) (texts_of param.values); notes = notes })
list_back opts line params known notes param are sound writable =
    let marks = opts.marks in
    let blank = λ (b : ℕ). is_blank b ≡ true in
    let gap : AreBlanks (32 ∷ []) = All-cons blank 32 [] refl (All-nil blank) in
    let texts = map (written_value marks) param.values in
    let backs : All (λ value. ReadsBack marks value (written_value marks value)) param.values =
    λ i d within. value_back marks (get_or param.values i d) are.marks (sound.values i d within) (writable i d within) in
    let cut : pieces marks.separator (32 ∷ joined (marks.separator ∷ 32 ∷ []) texts) ≡ texts =
    ap (λ t. pieces marks.separator (32 ∷ t)) (sym (append-nil (joined (marks.separator ∷ 32 ∷ []) texts)))
    ∙ joined_back marks.separator [] (32 ∷ []) (All-nil blank) gap (mark_blank marks.separator are.marks.separator) (32 ∷ []) [] texts gap (All-nil blank)
    (let some = sound.some in omega (arith, length-map param.values (written_value marks)))
    (All-map IsWhole (written_value marks) param.values (λ i d within. (backs i d within).whole))
    (All-map (Lacks marks.separator) (written_value marks) param.values (λ i d within. (backs i d within).lacks)) in
    let start : Reading = record { values = []; known = []; notes = notes } in
    ap (and_each (add_piece opts line params known) start) cut ∙ values_added opts line params known [] start param.values refl sound.distinct sound.values backs

same_param : (param : Param) (numeric : Bool) → param.numeric ≡ numeric → let other : Param = record { name = param.name; line = param.line; numeric = numeric; values = param.values } in other ≡ param
same_param param numeric is = ap (λ b. let other : Param = record { name = param.name; line = param.line; numeric = b; values = param.values } in other) (sym is)

-- a line
line_back : (opts : ModelOpts) (read : ParamsRead) (param : Param) → AreOpts opts → IsSoundParam opts.marks.prefix opts.fold param → All (IsWritable opts.marks) param.values
    → is_known opts.fold read.known param.name ≡ false
    → read_param opts read (param.line, written_param opts.marks param) ≡ Ok (record { params = read.params ++ param ∷ []; known = read.known ++ folded opts.fold param.name ∷ []; notes = read.notes })
line_back opts read param are sound writable new =
    let list = 32 ∷ joined (opts.marks.separator ∷ 32 ∷ []) (map (written_value opts.marks) param.values) in
    let lacks : Lacks 58 param.name = none_stands (is_byte 58) param.name sound.no_colon in
    let fits = named_fit param.name sound.named in
    let blank = λ (b : ℕ). is_blank b ≡ true in
    let called : line_name (param.name ++ 58 ∷ list) ≡ param.name =
    ap trimmed (before_first_back 58 param.name list lacks) ∙ ap trimmed (sym (append-nil param.name)) ∙ trimmed_back [] param.name [] (All-nil blank) fits.whole (All-nil blank) in
    let code : param_code opts.fold read.known param.name ≡ None =
    cond-false (eqb (length param.name) 0) _ _ (ne_eqb (length param.name) 0 (λ e. let some = fits.whole.some in omega arith)) ∙ cond-false (is_unfit param.name) _ _ fits.fits
    ∙ cond-false (is_known opts.fold read.known param.name) _ _ new in
    read_goes opts read (param.line, written_param opts.marks param) param.name list _ code (sym called) (sym (after_first_back 58 param.name list lacks))
    (list_back opts param.line read.params read.known read.notes param are sound writable)
    ∙ cond-false (ltb 4095 (length param.values)) _ _ (le-ltb 4095 (length param.values) sound.few)
    ∙ ap (λ p. Ok (record { params = read.params ++ p ∷ []; known = read.known ++ folded opts.fold param.name ∷ []; notes = read.notes })) (same_param param (is_numeric param.values) sound.numeric)

-- all lines
abbrev line_of : Marks → Param → ℕ × List ℕ
line_of marks param = (param.line, written_param marks param)

lines_back : (opts : ModelOpts) (read : ParamsRead) (texts : List (List ℕ)) (params : List Param) → AreOpts opts → read.known ≡ map (folded opts.fold) texts
    → Distinct opts.fold (texts ++ names_of params)
    → All (IsSoundParam opts.marks.prefix opts.fold) params → All (λ param. All (IsWritable opts.marks) param.values) params
    → and_each (read_param opts) read (map (line_of opts.marks) params) ≡ Ok (record { params = read.params ++ params; known = map (folded opts.fold) (texts ++ names_of params); notes = read.notes })
lines_back opts read texts [] are is distinct sound writable = ap Ok (same_read _ _ _ _ read.notes (sym (append-nil read.params)) (is ∙ ap (map (folded opts.fold)) (sym (append-nil texts))))
  where
    same_read : (params params' : List Param) (known known' : List (List ℕ)) (notes : List Note) → params ≡ params' → known ≡ known'
        → let a : ParamsRead = record { params = params; known = known; notes = notes } in let b : ParamsRead = record { params = params'; known = known'; notes = notes } in a ≡ b
    same_read params params' known known' notes a b = cc
lines_back opts read texts (param ∷ params) are is distinct sound writable =
    let each = λ (p : Param). All (IsWritable opts.marks) p.values in
    let next : ParamsRead = record { params = read.params ++ param ∷ []; known = read.known ++ folded opts.fold param.name ∷ []; notes = read.notes } in
    let new : is_known opts.fold read.known param.name ≡ false = ap (λ ks. is_known opts.fold ks param.name) is ∙ unknown opts.fold texts param.name (names_of params) distinct in
    let step = line_back opts read param are (All-head (IsSoundParam opts.marks.prefix opts.fold) param params sound) (All-head each param params writable) new in
    ap (λ r. and_then r (λ a. and_each (read_param opts) a (map (line_of opts.marks) params))) step
    ∙ lines_back opts next (texts ++ param.name ∷ []) params are (known_too opts.fold texts read.known param.name is) (regrouped opts.fold texts param.name (names_of params) distinct)
    (All-tail (IsSoundParam opts.marks.prefix opts.fold) param params sound) (All-tail each param params writable)
    ∙ ap (λ ps. Ok (record { params = ps; known = map (folded opts.fold) ((texts ++ param.name ∷ []) ++ names_of params); notes = read.notes })) (append_assoc read.params (param ∷ []) params)
    ∙ ap (λ ts. Ok (record { params = read.params ++ (param ∷ params); known = map (folded opts.fold) ts; notes = read.notes })) (append_assoc texts (param.name ∷ []) (names_of params))

pub read_back : ParamsReadBack
read_back opts params are sound writable =
    let lines = map (line_of opts.marks) params in
    let count : length lines ≡ length params = length-map params (line_of opts.marks) in
    let name = λ (p : Param). p.name in
    let distinct : Distinct opts.fold (names_of params) =
    λ i j d lt within. rw (get_or-map name params i no_param d (omega (arith, length-map params name)), get_or-map name params j no_param d (omega (arith, length-map params name)))
    (sound.distinct i j no_param lt (omega (arith, length-map params name))) in
    let read : ParamsRead = record { params = params; known = map (folded opts.fold) (names_of params); notes = [] } in
    let all : read_params opts lines ≡ Ok read =
    cond-false (eqb (length lines) 0) _ _ (ne_eqb (length lines) 0 (λ e. let some = sound.some in omega arith))
    ∙ cond-false (ltb 256 (length lines)) _ _ (le-ltb 256 (length lines) (let few = sound.few in omega arith))
    ∙ lines_back opts no_params [] params are refl distinct sound.params writable in
    sym (raw_ruled opts (written_lines opts.marks params)) ∙ raw_goes opts (written_lines opts.marks params) lines [] read _ refl refl all refl
    ∙ cond-false (ltb (length params) (order_in opts.order (length params))) _ _ (le-ltb (length params) (order_in opts.order (length params)) sound.demand.most)
