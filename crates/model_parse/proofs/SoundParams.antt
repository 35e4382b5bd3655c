-- The parameters that the parameter lines give are sound, and their names are distinct.
use Rattle.std.proofs.Common.{◌≡◌, ◌≢◌, ℕ, ◌+◌, ◌<◌, ◌≤◌, Bool, true, false, cond, List, [], ◌∷◌, ◌++◌, map, length, All, AllPairs, Some, None, IfOk, refl, sym, ◌∙◌, ap, subst, arith, ltb, eqb}
use Rattle.std.proofs.lemmas.Bool.{ltb-false, eqb-false, cond_both}
use Rattle.std.proofs.lemmas.List.{length-map, length-append, map-append, get_or-map}
use Rattle.std.proofs.lemmas.List.Elements.{All-nil, All-push}
use Rattle.std.specs.List.{list_any, before_first}
use Rattle.value_text.specs.believed.Texts.{folded, is_same_text}
use Rattle.cov_model.specs.believed.Names.{is_name}
use Rattle.cov_model.specs.believed.Sound.{IsSoundValue, IsSoundParam, is_numeric}
use Rattle.cov_model.specs.declared.parameter.Param.{Param}
use Rattle.cov_model.specs.declared.parameter.Value.{Value}
use Rattle.model_lex.specs.declared.options.ModelOpts.{ModelOpts}
use Rattle.model_parse.specs.declared.reading.ParamsRead.{ParamsRead}
use Rattle.model_parse.specs.declared.reading.Reading.{Reading}
use Rattle.model_parse.specs.believed.ParamLines.{line_name}
use Rattle.model_parse.specs.ParamSteps.{line_list, param_code, read_values, add_param, read_param, read_params, no_params}
use Rattle.model_parse.specs.believed.Pieces.{is_byte, is_unfit, pieces}
use Rattle.model_parse.specs.Steps.{and_each}
use Rattle.model_parse.specs.ValueSteps.{is_known, add_piece}
use Rattle.model_parse.proofs.Keeping.{then_ok, accepted_ok, any_ok, both_ok, each_ok, each_some, each_counts}
use Rattle.model_parse.proofs.SoundNames.{fit_name, none_before, some_pieces}
use Rattle.model_parse.proofs.SoundValues.{AreKnown, known_more, texts_of, IsRead, IsReadSome, add_piece_ok}

-- the names of parameters, one after another
abbrev pub names_of : List Param → List (List ℕ)
names_of params = map (λ (param : Param). param.name) params

-- what has been read of the parameter lines
pub record AreRead (prefix : ℕ) (fold : Bool) (read : ParamsRead) : Type 0 where
  pub params : All (IsSoundParam prefix fold) read.params
  pub are : AreKnown fold (names_of read.params) read.known

-- as many names are known as there are parameters
pub numbered : (prefix : ℕ) (fold : Bool) (read : ParamsRead) → AreRead prefix fold read → length read.known ≡ length read.params
numbered prefix fold read is = ap length is.are.as_folded ∙ length-map (names_of read.params) (folded fold) ∙ length-map read.params (λ (param : Param). param.name)

-- the values of a line
values_ok : (opts : ModelOpts) (line : ℕ) (read : ParamsRead) (list : List ℕ) → AreRead opts.marks.prefix opts.fold read
    → IfOk (read_values opts line read.params read.known read.notes list) (IsReadSome opts.marks.prefix opts.fold)
values_ok opts line read list is =
    let prefix = opts.marks.prefix in
    let start : Reading = record { values = []; known = []; notes = read.notes } in
    let begins : IsRead prefix opts.fold start = record { values = All-nil (IsSoundValue prefix); are = record { as_folded = refl; distinct = λ i j d lt within. absurd (omega arith) } } in
    each_some (add_piece opts line read.params read.known) (IsRead prefix opts.fold) (IsReadSome prefix opts.fold) (λ _. Unit {0})
    (λ r piece p _. add_piece_ok opts line read.params read.known r piece is.params (numbered prefix opts.fold read is) p) (λ r s. s.is) (pieces opts.marks.separator list) start
    (λ i d within. tt) (some_pieces opts.marks.separator list) begins

some_values : (fold : Bool) (values : List Value) (known : List (List ℕ)) → AreKnown fold (texts_of values) known → 0 < length known → 0 < length values
some_values fold [] known are some = let none : length known ≡ 0 = ap length are.as_folded in absurd (omega arith)
some_values fold (value ∷ values) known are some = omega arith

-- a name that a line may give behind these parameters
record IsNew (fold : Bool) (known : List (List ℕ)) (name : List ℕ) : Type 0 where
  named : is_name name ≡ true
  no_colon : list_any (is_byte 58) name ≡ false
  new : is_known fold known name ≡ false

three_of : {C : Type 0} (a b c : Bool) (x y z : C) → cond a (Some x) (cond b (Some y) (cond c (Some z) None)) ≡ None → (a ≡ false) × (b ≡ false) × (c ≡ false)
three_of true b c x y z e = cc
three_of false true c x y z e = cc
three_of false false true x y z e = cc
three_of false false false x y z e = (refl, refl, refl)

new_name : (fold : Bool) (known : List (List ℕ)) (text : List ℕ) → param_code fold known (line_name text) ≡ None → IsNew fold known (line_name text)
new_name fold known text code =
    let tests = three_of (eqb (length (line_name text)) 0) (is_unfit (line_name text)) (is_known fold known (line_name text)) _ _ _ code in
    let apart : length (line_name text) ≢ 0 = eqb-false (length (line_name text)) 0 tests.0 in
    record { named = fit_name (line_name text) (before_first (is_byte 58) text, refl) (omega (arith, apart)) tests.1; no_colon = none_before 58 text; new = tests.2 }

added_ok : (prefix : ℕ) (fold : Bool) (line : ℕ) (name : List ℕ) (read : ParamsRead) (values : Reading) → AreRead prefix fold read → IsNew fold read.known name → IsReadSome prefix fold values
    → IfOk (add_param fold line name read.params read.known values) (AreRead prefix fold)
added_ok prefix fold line name read values is new sound =
    cond_both (ltb 4095 (length values.values)) _ _ (λ r. IfOk r (AreRead prefix fold)) (λ many. tt) (λ few.
    let param : Param = record { name = name; line = line; numeric = is_numeric values.values; values = values.values } in
    let one : IsSoundParam prefix fold param = record {
      named = new.named;
      no_colon = new.no_colon;
      some = some_values fold values.values values.known sound.is.are sound.some;
      few = ltb-false 4095 (length values.values) few;
      values = sound.is.values;
      distinct = sound.is.are.distinct;
      numeric = refl;
    } in
    record {
      params = All-push (IsSoundParam prefix fold) read.params param is.params one;
      are =
          subst (λ names. AreKnown fold names (read.known ++ folded fold name ∷ [])) (sym (map-append (λ (p : Param). p.name) read.params (param ∷ [])))
          (known_more fold (names_of read.params) read.known name is.are new.new);
    })

param_ok : (opts : ModelOpts) (read : ParamsRead) (line : ℕ × List ℕ) → AreRead opts.marks.prefix opts.fold read → IfOk (read_param opts read line) (AreRead opts.marks.prefix opts.fold)
param_ok opts read line is =
    let prefix = opts.marks.prefix in
    accepted_ok (AreRead prefix opts.fold) line.0 (param_code opts.fold read.known (line_name line.1)) _ (λ code.
    then_ok (IsReadSome prefix opts.fold) (AreRead prefix opts.fold) (read_values opts line.0 read.params read.known read.notes (line_list line.1)) _ (values_ok opts line.0 read (line_list line.1) is)
    (λ values sound. added_ok prefix opts.fold line.0 (line_name line.1) read values is (new_name opts.fold read.known line.1 code) sound))

-- one parameter more for each line
param_more : (opts : ModelOpts) (read : ParamsRead) (line : ℕ × List ℕ) → IfOk (read_param opts read line) (λ next. length next.params ≡ length read.params + 1)
param_more opts read line =
    let more = λ (next : ParamsRead). length next.params ≡ length read.params + 1 in
    accepted_ok more line.0 (param_code opts.fold read.known (line_name line.1)) _ (λ code.
    then_ok (λ _. Unit {0}) more (read_values opts line.0 read.params read.known read.notes (line_list line.1)) _
    (any_ok (read_values opts line.0 read.params read.known read.notes (line_list line.1)))
    (λ values _. cond_both (ltb 4095 (length values.values)) _ _ (λ r. IfOk r more) (λ many. tt) (λ few. length-append read.params _)))

-- the parameters of all lines: 1 to 256, and distinct
pub record AreSoundParams (opts : ModelOpts) (read : ParamsRead) : Type 0 where
  pub some : 0 < length read.params
  pub few : length read.params ≤ 256
  pub is : AreRead opts.marks.prefix opts.fold read

pub params_ok : (opts : ModelOpts) (lines : List (ℕ × List ℕ)) → IfOk (read_params opts lines) (AreSoundParams opts)
params_ok opts lines =
    cond_both (eqb (length lines) 0) _ _ (λ r. IfOk r (AreSoundParams opts)) (λ none. tt) (λ some.
    cond_both (ltb 256 (length lines)) _ _ (λ r. IfOk r (AreSoundParams opts)) (λ many. tt) (λ few.
    let apart : length lines ≢ 0 = eqb-false (length lines) 0 some in
    let most : length lines ≤ 256 = ltb-false 256 (length lines) few in
    let begins : AreRead opts.marks.prefix opts.fold no_params =
    record { params = All-nil (IsSoundParam opts.marks.prefix opts.fold); are = record { as_folded = refl; distinct = λ i j d lt within. absurd (omega arith) } } in
    both_ok (λ read. length read.params ≡ 0 + length lines) (AreRead opts.marks.prefix opts.fold) (AreSoundParams opts) (and_each (read_param opts) no_params lines)
    (λ read count is. record { some = omega (arith, apart); few = omega arith; is = is })
    (each_counts (read_param opts) (λ (read : ParamsRead). length read.params) (param_more opts) lines no_params)
    (each_ok (read_param opts) (AreRead opts.marks.prefix opts.fold) (λ _. Unit {0}) (λ read line p _. param_ok opts read line p) lines no_params (λ i d within. tt) begins)))

-- distinct names are those of distinct parameters
pub distinct_params : (fold : Bool) (params : List Param) → AllPairs (λ a b. is_same_text fold a b ≡ false) (names_of params) → AllPairs (λ a b. is_same_text fold a.name b.name ≡ false) params
distinct_params fold params apart i j d lt within =
    let name = λ (p : Param). p.name in
    let here = apart i j d.name lt (omega (arith, length-map params name)) in
    rw (← get_or-map name params i d d.name (omega arith), ← get_or-map name params j d d.name within) here
