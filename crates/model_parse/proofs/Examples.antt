-- Models as they are read, computed from the definitions.
use Rattle.std.proofs.Common.{◌≡◌, ℕ, zero, suc, Bool, true, false, Some, None, List, [], ◌∷◌, ◌++◌, Result, Ok, Err, refl, ap, arith, codes}
use Rattle.std.specs.Prelude.{replicate}
use Rattle.std.proofs.lemmas.Fmt.{decimal_digit}
use Rattle.std.specs.Str.{chars}
use Rattle.cov_model.specs.declared.parameter.Param.{Param}
use Rattle.cov_model.specs.declared.parameter.Value.{Value}
use Rattle.cov_model.specs.declared.demand.Demand.{Demand}
use Rattle.model_lex.specs.declared.diag.DiagCode.{DiagCode}
use Rattle.model_lex.specs.declared.diag.DiagCode.TheVariants.{EmptyParameterName, BadParameterName, RepeatedParameter, EmptyValueName, BadValueName}
use Rattle.model_lex.specs.declared.diag.DiagCode.TheVariants.{BadWeight, UnknownReference, GroupNotClosed, UnknownMember}
use Rattle.model_lex.specs.declared.diag.DiagCode.TheVariants.{RepeatedMember, BadGroupOrder, TextAfterGroup, RelationNoOrder, NoParameters, OrderTooLarge}
use Rattle.model_lex.specs.declared.fault.LimitName.TheVariants.{Params, Names, Values}
use Rattle.model_lex.specs.declared.fault.ModelFault.{ModelFault}
use Rattle.model_lex.specs.declared.fault.ModelFault.TheVariants.{Limit}
use Rattle.model_lex.specs.declared.note.Note.{Note}
use Rattle.model_lex.specs.declared.note.NoteCode.TheVariants.{RepeatedValueName}
use Rattle.model_lex.specs.declared.options.Marks.{Marks}
use Rattle.model_lex.specs.declared.options.ModelOpts.{ModelOpts}
use Rattle.model_lex.specs.declared.options.OrderWord.TheVariants.{Number, Max}
use Rattle.model_parse.specs.believed.ParamLines.{kept_names, piece_fault}
use Rattle.model_parse.specs.believed.Rules.{above}
use Rattle.model_parse.specs.Steps.{refused}
use Rattle.model_parse.specs.believed.RawModels.{raw_model_of}
use Rattle.model_parse.specs.believed.Written.{joined}
use Rattle.model_parse.specs.Written.{written_param}
use Rattle.model_parse.specs.declared.raw_model.RawModel.{RawModel}

-- the default marks, order 1
abbrev opts : Bool → ModelOpts
opts fold = record { order = Number 1; marks = record { separator = 44; alias = 124; prefix = 126 }; fold = fold }

-- lines with their numbers, and the lines of groups
abbrev read : Bool → List (ℕ × List ℕ) → List (ℕ × List ℕ) → Result RawModel ModelFault
read fold params groups = raw_model_of (opts fold) (record { params = params; groups = groups; rules = [] })

-- a value of one name with the weight 1
abbrev plain : List ℕ → Value
plain name = record { names = name ∷ []; weight = 1; negative = false }

abbrev param : List ℕ → ℕ → Bool → List Value → Param
param name line numeric values = record { name = name; line = line; numeric = numeric; values = values }

abbrev model : List Param → List Note → Result RawModel ModelFault
model params notes = Ok (record { params = params; demand = record { order = 1; subs = []; relations = [] }; notes = notes })

abbrev note : ℕ → Note
note line = record { line = line; code = RepeatedValueName }

repeated_name : read true ((1, codes "A: a, A, b") ∷ []) [] ≡ model (param (codes "A") 1 false (plain (codes "a") ∷ plain (codes "b") ∷ []) ∷ []) (record { line = 1; code = RepeatedValueName } ∷ [])
unfolding chars
repeated_name = refl

-- a name is trimmed again behind its mark, and the list begins behind the first colon
trimmed_twice :
    read true ((1, codes "A: ~ x | ~ y, b:c") ∷ []) []
    ≡ model (param (codes "A") 1 false (record { names = codes "x" ∷ codes "y" ∷ []; weight = 1; negative = true } ∷ plain (codes "b:c") ∷ []) ∷ []) []
unfolding chars
trimmed_twice = refl

-- a name that was dropped drops no other, a value without names is dropped, each dropped name is noted
kept : kept_names true [] (codes "a" ∷ codes "A" ∷ codes "b" ∷ codes "a" ∷ []) ≡ codes "a" ∷ codes "b" ∷ []
kept = refl

dropped :
    read true ((1, codes "A: a | x, A | a, b | X") ∷ (2, codes "B: <A>, c | b, X") ∷ []) []
    ≡ model (param (codes "A") 1 false (record { names = codes "a" ∷ codes "x" ∷ []; weight = 1; negative = false } ∷ plain (codes "b") ∷ [])
    ∷ param (codes "B") 2 false (record { names = codes "a" ∷ codes "x" ∷ []; weight = 1; negative = false } ∷ plain (codes "b") ∷ plain (codes "c") ∷ []) ∷ [])
    (note 1 ∷ note 1 ∷ note 1 ∷ note 2 ∷ note 2 ∷ [])
unfolding chars
dropped = refl

case_counts : read false ((1, codes "A: a, A, b") ∷ []) [] ≡ model (param (codes "A") 1 false (plain (codes "a") ∷ plain (codes "A") ∷ plain (codes "b") ∷ []) ∷ []) []
unfolding chars
case_counts = refl

reference : read true ((1, codes "A: 1, 2") ∷ (2, codes "B: <A>, 3") ∷ []) []
    ≡ model (param (codes "A") 1 true (plain (codes "1") ∷ plain (codes "2") ∷ []) ∷ param (codes "B") 2 true (plain (codes "1") ∷ plain (codes "2") ∷ plain (codes "3") ∷ []) ∷ []) []
unfolding chars
reference = refl

-- a copy has all names, the weight and the sign of its value
abbrev weighed : List Value
weighed = record { names = codes "x" ∷ codes "y" ∷ []; weight = 3; negative = false } ∷ record { names = codes "z" ∷ []; weight = 1; negative = true } ∷ []

copies : read true ((1, codes "A: x | y (3), ~z") ∷ (2, codes "B: < a >") ∷ []) [] ≡ model (param (codes "A") 1 false weighed ∷ param (codes "B") 2 false weighed ∷ []) []
unfolding chars
copies = refl

weights :
    read true ((1, codes "B: x (007), Foo (bar), ~y | z") ∷ []) []
    ≡ model (param (codes "B") 1 false (record { names = codes "x" ∷ []; weight = 7; negative = false }
    ∷ plain (codes "Foo (bar)") ∷ record { names = codes "y" ∷ codes "z" ∷ []; weight = 1; negative = true } ∷ []) ∷ []) []
unfolding chars
weights = refl

other_separator :
    raw_model_of (record { order = Max; marks = record { separator = 59; alias = 124; prefix = 126 }; fold = true }) (record { params = (1, codes "A: 1; 2,5") ∷ []; groups = []; rules = [] })
    ≡ model (param (codes "A") 1 false (plain (codes "1") ∷ plain (codes "2,5") ∷ []) ∷ []) []
unfolding chars
other_separator = refl

-- two parameters and a group line, or a refusal
abbrev groups : List ℕ → Result RawModel ModelFault
groups line = read true ((1, codes "A: 1") ∷ (2, codes "B: 2") ∷ []) ((3, line) ∷ [])

abbrev demanded : Demand → Result RawModel ModelFault
demanded demand = Ok (record { params = param (codes "A") 1 true (plain (codes "1") ∷ []) ∷ param (codes "B") 2 true (plain (codes "2") ∷ []) ∷ []; demand = demand; notes = [] })

sub_model : groups (codes "{ b, A }") ≡ demanded (record { order = 1; subs = record { order = 1; members = 1 ∷ 0 ∷ [] } ∷ []; relations = [] })
unfolding chars
sub_model = refl

relation : groups (codes " @ 02 {A,B}") ≡ demanded (record { order = 1; subs = []; relations = record { order = 2; members = 0 ∷ 1 ∷ [] } ∷ [] })
unfolding chars
relation = refl

-- the order of all parameters, to which two are a pair and one is lowered
by_max :
    raw_model_of (record { order = Max; marks = record { separator = 44; alias = 124; prefix = 126 }; fold = true })
    (record { params = (1, codes "A: 1") ∷ (2, codes "B: 2") ∷ []; groups = (3, codes "{ B }") ∷ (4, codes "{ A, B }") ∷ []; rules = [] })
    ≡ demanded (record { order = 2; subs = record { order = 1; members = 1 ∷ [] } ∷ record { order = 2; members = 0 ∷ 1 ∷ [] } ∷ []; relations = [] })
unfolding chars
by_max = refl

abbrev at : ℕ → DiagCode → Result RawModel ModelFault
at line code = refused line code

refusals :
    (read true [] [] ≡ at 1 NoParameters) × (read true ((2, codes ": 1") ∷ []) [] ≡ at 2 EmptyParameterName) × (read true ((2, 1 ∷ 58 ∷ []) ∷ []) [] ≡ at 2 BadParameterName)
    × (read true ((1, codes "A: 1") ∷ (2, codes "a: 2") ∷ []) [] ≡ at 2 RepeatedParameter) × (read true ((1, codes "A: 1, ") ∷ []) [] ≡ at 1 EmptyValueName)
    × (read true ((1, codes "A: ~~a") ∷ []) [] ≡ at 1 BadValueName) × (read true ((1, codes "A: ~~a (0)") ∷ []) [] ≡ at 1 BadWeight)
    × (read true ((1, codes "A: |a (4294967296)") ∷ []) [] ≡ at 1 BadWeight) × (read true ((1, codes "A: <A>") ∷ []) [] ≡ at 1 UnknownReference)
    × (read true ((1, codes "A: a, ~~b, c (0)") ∷ []) [] ≡ at 1 BadValueName) × (read true ((1, codes "A: |~~a") ∷ []) [] ≡ at 1 EmptyValueName)
    × (read true ((1, codes "A: ~~a") ∷ (2, codes "A: <Z>") ∷ []) [] ≡ at 1 BadValueName)
unfolding chars
refusals = (refl, refl, refl, refl, refl, refl, refl, refl, refl, refl, refl, refl)

group_refusals :
    (groups (codes "@ { A") ≡ at 3 RelationNoOrder) × (groups (codes "@ 2 A }") ≡ at 3 GroupNotClosed)
    × (groups (codes "{ A, Z") ≡ at 3 GroupNotClosed) × (groups (codes "{ Z } x") ≡ at 3 TextAfterGroup)
    × (groups (codes "@ 9 { Z } @") ≡ at 3 TextAfterGroup) × (groups (codes "{ Z } @ 9") ≡ at 3 UnknownMember) × (groups (codes "{ A, a }") ≡ at 3 RepeatedMember)
    × (groups (codes "@ 3 { A, B }") ≡ at 3 BadGroupOrder)
    × (groups (codes "{ A, B } @ 2 x") ≡ at 3 BadGroupOrder) × (groups (codes "{ A, B } @ 0") ≡ at 3 BadGroupOrder) × (groups (codes "@ 0 { A, B }") ≡ at 3 BadGroupOrder)
    × (groups (codes "@ 2 { A, B } x") ≡ at 3 TextAfterGroup) × (groups (codes "{ A, B } }") ≡ at 3 UnknownMember)
unfolding chars
group_refusals = (refl, refl, refl, refl, refl, refl, refl, refl, refl, refl, refl, refl, refl)

order_too_large : raw_model_of (record { order = Number 2; marks = record { separator = 44; alias = 124; prefix = 126 }; fold = true })
    (record { params = (4, codes "A: 1") ∷ []; groups = []; rules = [] }) ≡ at 4 OrderTooLarge
unfolding chars
order_too_large = refl

-- it is told at the last parameter line
order_told : raw_model_of (record { order = Number 3; marks = record { separator = 44; alias = 124; prefix = 126 }; fold = true })
    (record { params = (4, codes "A: 1") ∷ (7, codes "B: 1") ∷ []; groups = []; rules = [] }) ≡ at 7 OrderTooLarge
unfolding chars
order_told = refl

-- ---- limits

-- so many names, no two of which are the same
abbrev names : ℕ → List (List ℕ)
names zero = []
names (suc n) = replicate (suc n) 97 ∷ names n

abbrev piece : ℕ → List ℕ
piece count = joined (124 ∷ []) (names count)

names_64 : piece_fault (opts true) 1 [] ([], piece 64) ≡ None
unfolding chars
names_64 = refl

names_65 : piece_fault (opts true) 1 [] ([], piece 65) ≡ Some (Limit Names 65)
unfolding chars
names_65 = refl

-- one of 65 names is dropped
names_kept : piece_fault (opts true) 1 [] (codes "A" ∷ [], piece 65) ≡ None
unfolding chars
names_kept = refl

values_4095 : above Values 4095 ≡ None
values_4095 = refl

values_4096 : above Values 4096 ≡ Some (Limit Values 4096)
values_4096 = refl

-- 256 parameters, of which the first is refused here, and 257, which are too many
params_256 : read true (replicate 256 (1, [])) [] ≡ at 1 EmptyParameterName
params_256 = refl

params_257 : read true (replicate 257 (1, [])) [] ≡ Err (Limit Params 257)
params_257 = refl

-- parameters as they are written
abbrev marks : Marks
marks = record { separator = 44; alias = 124; prefix = 126 }

written :
    written_param marks (param (codes "A") 1 false (record { names = codes "a" ∷ codes "b" ∷ []; weight = 3; negative = false }
    ∷ record { names = codes "c" ∷ []; weight = 1; negative = true } ∷ plain (codes "d") ∷ [])) ≡ codes "A: a | b (3), ~c, d"
written = ap (λ w. codes "A: a | b (" ++ ((w ++ 41 ∷ []) ++ codes ", ~c, d")) (decimal_digit 3 (omega arith))

weight_kept : written_param marks (param (codes "B") 1 false (plain (codes "x (y)") ∷ plain (codes "<A>") ∷ [])) ≡ codes "B: x (y) (1), <A> (1)"
weight_kept = ap (λ w. codes "B: x (y) (" ++ ((w ++ 41 ∷ []) ++ (codes ", <A> (" ++ ((w ++ 41 ∷ []) ++ [])))) (decimal_digit 1 (omega arith))
