-- The group lines of a model file: `{ A, B } @ N` is a sub-model (PICT's guide), `@ N { A, B }` a
-- relation (the ACTS guide). The order of the refusals is this project's rule.
use Rattle.std.specs.Prelude.{ℕ, Bool, not, ◌&&◌, ◌||◌, List, [], ◌∷◌, ◌++◌, map, flat_map, filter, length, drop, min, Option, Some, None, ◌==◌, nat_lt, if◌then◌else◌, is_some, unwrap_or}
use Rattle.std.specs.Char.{is_ascii_digit}
use Rattle.std.specs.List.{list_any, take_while, before_last, after_last}
use Rattle.std.specs.Option.{option_map, option_map_or, option_to_list}
use Rattle.value_text.specs.believed.Numbers.{count_of}
use Rattle.model_lex.specs.believed.Blanks.{trimmed, without_first_blanks}
use Rattle.model_lex.specs.declared.diag.DiagCode.{DiagCode}
use Rattle.model_lex.specs.declared.diag.DiagCode.TheVariants.{GroupNotClosed, UnknownMember, RepeatedMember, BadGroupOrder, TextAfterGroup, RelationNoOrder}
use Rattle.model_lex.specs.declared.fault.ModelFault.{ModelFault}
use Rattle.model_lex.specs.declared.options.ModelOpts.{ModelOpts}
use Rattle.cov_model.specs.declared.demand.Demand.{Demand}
use Rattle.cov_model.specs.declared.demand.Group.{Group}
use Rattle.cov_model.specs.declared.parameter.Param.{Param}
use Rattle.model_parse.specs.believed.Pieces.{is_byte, pieces, begins_with}
use Rattle.model_parse.specs.believed.ParamLines.{place_named, is_repeated}
use Rattle.model_parse.specs.believed.Rules.{with_earlier, first_some, bad_line}

-- a relation begins with `@`
abbrev pub is_relation : List ℕ → Bool
is_relation text = begins_with 64 (without_first_blanks text)

-- what stands behind the `@` of a relation
abbrev pub behind_sign : List ℕ → List ℕ
behind_sign text = drop 1 (without_first_blanks text)

-- the digits there
abbrev pub strength_text : List ℕ → List ℕ
strength_text behind = take_while is_ascii_digit (without_first_blanks behind)

-- the list of a group with its braces, in a relation behind these digits, and what stands behind the list
abbrev pub braced : List ℕ → List ℕ
braced text =
    if is_relation text then without_first_blanks (drop (length (strength_text (behind_sign text))) (without_first_blanks (behind_sign text)))
    else without_first_blanks text

-- between its first `{` and the last `}`
abbrev pub has_braces : List ℕ → Bool
has_braces text = begins_with 123 text && list_any (is_byte 125) (drop 1 text)

abbrev pub inside_braces : List ℕ → List ℕ
inside_braces text = before_last (is_byte 125) (drop 1 text)

abbrev pub behind_braces : List ℕ → List ℕ
behind_braces text = trimmed (after_last (is_byte 125) (drop 1 text))

-- why the form of a line is refused: a relation without a strength, braces that are missing, a text behind them that is no order
abbrev pub form_code : List ℕ → Option DiagCode
form_code text =
    if is_relation text && (length (strength_text (behind_sign text)) == 0) then Some RelationNoOrder
    else if not (has_braces (braced text)) then Some GroupNotClosed
    else if nat_lt 0 (length (behind_braces (braced text))) && (is_relation text || not (begins_with 64 (behind_braces (braced text)))) then Some TextAfterGroup
    else None

-- the text of a group's order, where one is written
abbrev pub written_order : List ℕ → Option (List ℕ)
written_order text =
    if is_relation text then Some (strength_text (behind_sign text))
    else if length (behind_braces (braced text)) == 0 then None
    else Some (trimmed (drop 1 (behind_braces (braced text))))

-- the pieces of a group's list, and the places of the parameters that pieces name
abbrev pub group_pieces : ModelOpts → List ℕ → List (List ℕ)
group_pieces opts text = pieces opts.marks.separator (inside_braces (braced text))

abbrev pub members_of : Bool → List Param → List (List ℕ) → List ℕ
members_of fold params pieces = flat_map (λ piece. option_to_list (place_named fold params piece)) pieces

-- the order of a group: a written one is from 1 to the number of members, without one it is that of the whole, lowered to this number
abbrev pub order_of_group : ModelOpts → List Param → ℕ → List ℕ → Option ℕ
order_of_group opts params whole text =
    let count = length (members_of opts.fold params (group_pieces opts text)) in
    option_map_or (λ written. count_of written 1 count) (written_order text) (Some (min whole count))

-- why a piece is refused behind others of its list: it names no parameter, or one that stood before
abbrev pub member_code : Bool → List Param → List (List ℕ) × List ℕ → Option DiagCode
member_code fold params piece =
    if not (is_some (place_named fold params piece.1)) then Some UnknownMember
    else if is_repeated fold piece then Some RepeatedMember
    else None

-- why a line is refused: its form, the first piece that is refused, its order
abbrev pub group_fault : ModelOpts → List Param → ℕ → ℕ × List ℕ → Option ModelFault
group_fault opts params whole line =
    option_map (bad_line line.0) (first_some (form_code line.1 ∷ map (member_code opts.fold params) (with_earlier [] (group_pieces opts line.1))
    ++ (if is_some (order_of_group opts params whole line.1) then None else Some BadGroupOrder) ∷ []))

-- the group of a line
abbrev pub group_of : ModelOpts → List Param → ℕ → List ℕ → Group
group_of opts params whole text = record { order = unwrap_or (order_of_group opts params whole text) 0; members = members_of opts.fold params (group_pieces opts text) }

-- what is demanded, where the whole has this order: the lines of relations begin with `@`
abbrev pub demand_of : ModelOpts → List Param → ℕ → List (ℕ × List ℕ) → Demand
demand_of opts params whole lines =
    let groups = λ (those : List (ℕ × List ℕ)). map (λ line. group_of opts params whole line.1) those in
    record { order = whole; subs = groups (filter (λ line. not (is_relation line.1)) lines); relations = groups (filter (λ line. is_relation line.1) lines) }
