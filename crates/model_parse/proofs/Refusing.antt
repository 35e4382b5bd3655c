-- What refuses the lines of parameters and groups is never that memory is wanting.
use Rattle.std.proofs.Common.{◌≡◌, ◌≢◌, ℕ, List, [], ◌∷◌, Bool, true, false, cond, length, Option, Some, None, Result, Ok, Err, ap, subst}
use Rattle.model_lex.specs.believed.Sections.{Split}
use Rattle.model_lex.specs.declared.diag.DiagCode.{DiagCode}
use Rattle.model_lex.specs.declared.fault.LimitName.{LimitName}
use Rattle.model_lex.specs.declared.fault.ModelFault.{ModelFault}
use Rattle.model_lex.specs.declared.fault.ModelFault.TheVariants.{Limit, NoMemory}
use Rattle.model_lex.specs.declared.note.Note.{Note}
use Rattle.model_lex.specs.declared.options.ModelOpts.{ModelOpts}
use Rattle.cov_model.specs.declared.demand.Demand.{Demand}
use Rattle.cov_model.specs.declared.parameter.Param.{Param}
use Rattle.cov_model.specs.declared.parameter.Value.{Value}
use Rattle.model_parse.specs.believed.GroupLines.{is_relation}
use Rattle.model_parse.specs.GroupSteps.{add_group, group_code, group_list, group_order, member_or, order_text, read_group, read_groups}
use Rattle.model_parse.specs.believed.ParamLines.{line_name}
use Rattle.model_parse.specs.ParamSteps.{line_list, param_code, read_param, read_params, read_values}
use Rattle.model_parse.specs.believed.Pieces.{pieces}
use Rattle.model_parse.specs.believed.RawModels.{order_in, raw_model_of}
use Rattle.model_parse.specs.Steps.{and_each, and_then, refused, refused_or}
use Rattle.model_parse.specs.believed.Values.{is_reference, referred}
use Rattle.model_parse.specs.ValueSteps.{Kept, add_kept, add_piece, piece_values, place_of, values_at}
use Rattle.model_parse.specs.ModelSteps.{read_raw}
use Rattle.model_parse.specs.declared.reading.ParamsRead.{ParamsRead}
use Rattle.model_parse.proofs.RuledGroups.{raw_ruled}

-- an answer is no want of memory
abbrev Told : {A : Type 0} → Result A ModelFault → Type 0
Told r = r ≢ Err NoMemory

ok_told : {A : Type 0} (a : A) → Told (Ok a)
ok_told a e = cc

limit_told : (A : Type 0) (limit : LimitName) (count : ℕ) → Told {A = A} (Err (Limit limit count))
limit_told A limit count e = cc

line_told : (A : Type 0) (line : ℕ) (code : DiagCode) → Told {A = A} (refused line code)
line_told A line code e = cc

if_told : {A : Type 0} (b : Bool) (r s : Result A ModelFault) → Told r → Told s → Told (cond b r s)
if_told true r s one other = one
if_told false r s one other = other

or_told : {A : Type 0} (line : ℕ) (code : Option DiagCode) (r : Result A ModelFault) → Told r → Told (refused_or line code r)
or_told {A} line (Some code) r told = line_told A line code
or_told line None r told = told

same_fault : (A : Type 0) (fault : ModelFault) → ◌≡◌ {A = Result A ModelFault} (Err fault) (Err NoMemory) → fault ≡ NoMemory
same_fault A fault e = cc

then_told : {A B : Type 0} (r : Result A ModelFault) (next : A → Result B ModelFault) → Told r → ((a : A) → Told (next a)) → Told (and_then r next)
then_told (Ok a) next told step = step a
then_told {B = B} (Err fault) next told step = λ e. told (ap Err (same_fault B fault e))

each_told : {A X : Type 0} (step : A → X → Result A ModelFault) → ((a : A) (x : X) → Told (step a x)) → (a : A) (xs : List X) → Told (and_each step a xs)
each_told step told a [] = ok_told a
each_told step told a (x ∷ xs) = then_told (step a x) (λ next. and_each step next xs) (told a x) (λ next. each_told step told next xs)

kept_told : (values : List Value) (value : Value) (kept : Kept) → Told (add_kept values value kept)
kept_told values value kept = if_told _ _ _ (limit_told _ _ _) (ok_told _)

place_told : (line : ℕ) (params : List Param) (place : Option ℕ) → Told (values_at line params place)
place_told line params (Some p) = ok_told _
place_told line params None = line_told _ line _

piece_told : (opts : ModelOpts) (line : ℕ) (params : List Param) (known : List (List ℕ)) (piece : List ℕ) → Told (piece_values opts line params known piece)
piece_told opts line params known piece = if_told (is_reference piece) _ _ (place_told line params (place_of opts.fold known (referred piece)))
    (or_told line _ _ (ok_told _))

values_told : (opts : ModelOpts) (line : ℕ) (params : List Param) (known : List (List ℕ)) (notes : List Note) (list : List ℕ)
    → Told (read_values opts line params known notes list)
values_told opts line params known notes list =
    each_told (add_piece opts line params known) (λ values piece. then_told _ _ (piece_told opts line params known piece)
    (λ more. each_told _ (λ next value. kept_told next.values value _) values more))
    (record { values = []; known = []; notes = notes }) (pieces opts.marks.separator list)

param_told : (opts : ModelOpts) (read : ParamsRead) (line : ℕ × List ℕ) → Told (read_param opts read line)
param_told opts read line =
    or_told line.0 (param_code opts.fold read.known (line_name line.1)) _
    (then_told _ _ (values_told opts line.0 read.params read.known read.notes (line_list line.1)) (λ values. if_told _ _ _ (limit_told _ _ _) (ok_told _)))

member_told : (line : ℕ) (members : List ℕ) (place : Option ℕ) → Told (member_or line members place)
member_told line members (Some p) = if_told _ _ _ (line_told _ line _) (ok_told _)
member_told line members None = line_told _ line _

added_told : (line : ℕ) (relation : Bool) (demand : Demand) (members : List ℕ) (order : Option ℕ) → Told (add_group line relation demand members order)
added_told line relation demand members (Some order) = ok_told _
added_told line relation demand members None = line_told _ line _

group_told : (opts : ModelOpts) (known : List (List ℕ)) (demand : Demand) (line : ℕ × List ℕ) → Told (read_group opts known demand line)
group_told opts known demand line =
    or_told line.0 (group_code line.1) _
    (then_told _ _ (each_told _ (λ members piece. member_told line.0 members (place_of opts.fold known piece)) []
    (pieces opts.marks.separator (group_list line.1)))
    (λ members. added_told line.0 (is_relation line.1) demand members (group_order demand.order (order_text line.1) (length members))))

raw_told : (opts : ModelOpts) (split : Split) → Told (read_raw opts split)
raw_told opts split =
    then_told (read_params opts split.params) _ (if_told _ _ _ (line_told _ 1 _)
    (if_told _ _ _ (limit_told _ _ _) (each_told (read_param opts) (param_told opts) _ split.params)))
    (λ read. then_told (read_groups opts read.known (order_in opts.order _) split.groups) _
    (each_told (read_group opts read.known) (group_told opts read.known) _ split.groups)
    (λ demand. if_told _ _ _ (line_told _ _ _) (ok_told _)))

pub raw_refusal : (opts : ModelOpts) (split : Split) → raw_model_of opts split ≢ Err NoMemory
raw_refusal opts split = subst Told (raw_ruled opts split) (raw_told opts split)
