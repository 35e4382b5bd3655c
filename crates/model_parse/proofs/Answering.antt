-- What an answer says, passed on from step to step.
use Rattle.std.proofs.Common.{◌≡◌, ℕ, ◌<◌, true, cond, List, [], ◌∷◌, ◌-◌, map, length, get_or, arith, Option, Some, None, Result, Ok, Err, sym, ◌∙◌, ap, subst}
use Rattle.std.proofs.lemmas.List.{get_or_default, get_or-map, length-map}
use Rattle.std.specs.Prelude.{◌≢◌, slice_index_or}
use Rattle.std.specs.Result.{IsErrAnd}
use Rattle.model_lex.specs.believed.Sections.{Split}
use Rattle.model_lex.specs.Sections.{line_seen}
use Rattle.model_lex.specs.declared.sections.NumLine.{NumLine}
use Rattle.cov_model.specs.declared.parameter.Param.{Param}
use Rattle.cov_model.specs.believed.Sound.{param_at}
use Rattle.model_lex.specs.declared.diag.DiagCode.{DiagCode}
use Rattle.model_lex.specs.declared.fault.ModelFault.{ModelFault}
use Rattle.model_lex.specs.declared.fault.ModelFault.TheVariants.{NoMemory}
use Rattle.model_lex.specs.declared.options.ModelOpts.{ModelOpts}
use Rattle.model_parse.specs.declared.reading.Reading.{Reading}
use Rattle.cov_model.specs.declared.demand.Demand.{Demand}
use Rattle.model_parse.specs.GroupSteps.{read_groups}
use Rattle.model_parse.specs.believed.RawModels.{order_in}
use Rattle.model_parse.specs.ModelSteps.{read_raw, with_demand}
use Rattle.model_parse.specs.declared.reading.ParamsRead.{ParamsRead}
use Rattle.model_parse.specs.believed.ParamLines.{line_name}
use Rattle.model_parse.specs.ParamSteps.{line_list, param_code, read_values, add_param, read_param, read_params}
use Rattle.model_parse.specs.Rules.{Gives}
use Rattle.model_parse.specs.Steps.{refused_or, and_then, and_each}
use Rattle.model_parse.specs.believed.Values.{is_reference, referred, piece_code, value_of}
use Rattle.model_parse.specs.ValueSteps.{place_of, add_value, add_piece, values_at}

pub gives_same : {A B : Type 0} (seen : B → A) (result : Result B ModelFault) (wanted wanted' : Result A ModelFault) → wanted ≡ wanted' → Gives wanted seen result → Gives wanted' seen result
gives_same seen result wanted wanted' e h = subst (λ w. Gives w seen result) e h

-- a fault that is handed on
pub gives_fault : {A B : Type 0} (seen : B → A) (wanted : Result A ModelFault) (result : Result B ModelFault) (fault : ModelFault)
    → IsErrAnd result (λ told. told ≡ fault) → (fault ≢ NoMemory → wanted ≡ Err fault) → Gives wanted seen result
gives_fault seen wanted (Ok b) fault same h = absurd same
gives_fault seen wanted (Err told) fault same h = subst (λ f. f ≢ NoMemory → wanted ≡ Err f) (sym same) h

pub accepted_is : {A B : Type 0} (line : ℕ) (code : Option DiagCode) (a b : A) (next : A → Result B ModelFault) → code ≡ None → a ≡ b → next b ≡ and_then (refused_or line code (Ok a)) next
accepted_is line code a b next none same = sym (ap (λ o. and_then (refused_or line o (Ok a)) next) none ∙ ap next same)

pub reference_is : (opts : ModelOpts) (line : ℕ) (params : List Param) (known : List (List ℕ)) (read : Reading) (piece : List ℕ) (p : ℕ) (d : Param)
    → is_reference piece ≡ true → place_of opts.fold known (referred piece) ≡ Some p → p < length params
    → and_each (add_value opts.fold line) read (get_or params p d).values ≡ add_piece opts line params known read piece
reference_is opts line params known read piece p d is place within =
    let same : param_at params p ≡ get_or params p d = get_or_default params p _ d within in
    sym (ap (λ b. and_then (cond b (values_at line params (place_of opts.fold known (referred piece))) (refused_or line (piece_code opts.marks piece) (Ok (value_of opts.marks piece ∷ []))))
    (λ values. and_each (add_value opts.fold line) read values)) is
    ∙ ap (λ o. and_then (values_at line params o) (λ values. and_each (add_value opts.fold line) read values)) place ∙ ap (λ q. and_each (add_value opts.fold line) read q.values) same)

-- the line of the last parameter line
pub last_line : (lines : List NumLine) (d : NumLine) → 0 < length lines → (slice_index_or (map line_seen lines) (length (map line_seen lines) - 1) (0, [])).0 ≡ (get_or lines (length lines - 1) d).line
last_line lines d some =
    ap (λ n. (slice_index_or (map line_seen lines) (n - 1) (0, [])).0) (length-map lines line_seen)
    ∙ ap (λ l. l.0) (get_or-map line_seen lines (length lines - 1) d (0, []) (omega arith))

-- a parameter line whose name is accepted
pub read_goes : (opts : ModelOpts) (read : ParamsRead) (line : ℕ × List ℕ) (name list : List ℕ) (values : Result Reading ModelFault)
    → param_code opts.fold read.known name ≡ None → name ≡ line_name line.1 → list ≡ line_list line.1
    → read_values opts line.0 read.params read.known read.notes list ≡ values
    → read_param opts read line ≡ and_then values (λ v. add_param opts.fold line.0 name read.params read.known v)
read_goes opts read line name list values code is_name is_list is =
    ap (λ o. refused_or line.0 o (and_then (read_values opts line.0 read.params read.known read.notes (line_list line.1))
    (λ v. add_param opts.fold line.0 (line_name line.1) read.params read.known v))) (ap (param_code opts.fold read.known) (sym is_name) ∙ code)
    ∙ ap (λ l. and_then (read_values opts line.0 read.params read.known read.notes l) (λ v. add_param opts.fold line.0 (line_name line.1) read.params read.known v)) (sym is_list)
    ∙ ap (λ r. and_then r (λ v. add_param opts.fold line.0 (line_name line.1) read.params read.known v)) is
    ∙ ap (λ n. and_then values (λ v. add_param opts.fold line.0 n read.params read.known v)) (sym is_name)

-- where the parameter lines are accepted
pub raw_goes : (opts : ModelOpts) (split : Split) (params groups : List (ℕ × List ℕ)) (read : ParamsRead) (demand : Result Demand ModelFault)
    → params ≡ split.params → groups ≡ split.groups → read_params opts params ≡ Ok read → read_groups opts read.known (order_in opts.order (length read.params)) groups ≡ demand
    → read_raw opts split ≡ and_then demand (λ d. with_demand params read d)
raw_goes opts split params groups read demand is_params is_groups ok is =
    ap (λ ps. and_then (read_params opts ps) (λ q. and_then (read_groups opts q.known (order_in opts.order (length q.params)) split.groups) (λ d. with_demand ps q d))) (sym is_params)
    ∙ ap (λ gs. and_then (read_params opts params) (λ q. and_then (read_groups opts q.known (order_in opts.order (length q.params)) gs) (λ d. with_demand params q d))) (sym is_groups)
    ∙ ap (λ p. and_then p (λ q. and_then (read_groups opts q.known (order_in opts.order (length q.params)) groups) (λ d. with_demand params q d))) ok
    ∙ ap (λ g. and_then g (λ d. with_demand params read d)) is

-- where a parameter line is refused
pub raw_stops : (opts : ModelOpts) (split : Split) (params : List (ℕ × List ℕ)) (fault : ModelFault) → params ≡ split.params → read_params opts params ≡ Err fault → read_raw opts split ≡ Err fault
raw_stops opts split params fault is_params is =
    ap (λ r. and_then r (λ q. and_then (read_groups opts q.known (order_in opts.order (length q.params)) split.groups) (λ d. with_demand split.params q d)))
    (ap (read_params opts) (sym is_params) ∙ is)
