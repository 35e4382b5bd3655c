-- Working notions: the group lines as they are read, line by line. `RuledGroups` of proofs/ shows that this is what
-- the rules of `GroupLines` give.
use Rattle.std.specs.Prelude.{ℕ, Bool, true, false, not, ◌&&◌, ◌||◌, List, [], ◌∷◌, ◌++◌, length, drop, min, Option, Some, None, Result, Ok, ◌==◌, nat_lt, if◌then◌else◌}
use Rattle.std.specs.List.{list_any}
use Rattle.value_text.specs.believed.Numbers.{count_of}
use Rattle.model_lex.specs.believed.Blanks.{trimmed, without_first_blanks}
use Rattle.model_lex.specs.declared.diag.DiagCode.{DiagCode}
use Rattle.model_lex.specs.declared.diag.DiagCode.TheVariants.{GroupNotClosed, UnknownMember, RepeatedMember, BadGroupOrder, TextAfterGroup, RelationNoOrder}
use Rattle.model_lex.specs.declared.fault.ModelFault.{ModelFault}
use Rattle.model_lex.specs.declared.options.ModelOpts.{ModelOpts}
use Rattle.cov_model.specs.declared.demand.Demand.{Demand}
use Rattle.cov_model.specs.declared.demand.Group.{Group}
use Rattle.model_parse.specs.believed.Pieces.{pieces, begins_with}
use Rattle.model_parse.specs.believed.GroupLines.{is_relation, behind_sign, strength_text, braced, has_braces, inside_braces, behind_braces}
use Rattle.model_parse.specs.Steps.{refused, refused_or, and_then, and_each}
use Rattle.model_parse.specs.ValueSteps.{place_of}

-- the list of a relation with its braces, from what stands behind its `@`
abbrev pub behind_strength : List ℕ → List ℕ
behind_strength behind = without_first_blanks (drop (length (strength_text behind)) (without_first_blanks behind))

-- why the braces of a group are refused: they are missing, or a text follows that is no order
abbrev pub braces_code : Bool → List ℕ → Option DiagCode
braces_code relation text =
    if not (has_braces text) then Some GroupNotClosed
    else if nat_lt 0 (length (behind_braces text)) && (relation || not (begins_with 64 (behind_braces text))) then Some TextAfterGroup
    else None

-- why a relation is refused, from what stands behind its `@`
abbrev pub relation_code : List ℕ → Option DiagCode
relation_code behind = if length (strength_text behind) == 0 then Some RelationNoOrder else braces_code true (behind_strength behind)

abbrev pub group_code : List ℕ → Option DiagCode
group_code text = if is_relation text then relation_code (behind_sign text) else braces_code false (without_first_blanks text)

-- the list of a group's members
abbrev pub group_list : List ℕ → List ℕ
group_list text = inside_braces (braced text)

-- the text of the order of a sub-model, where one is written
abbrev pub sub_order : List ℕ → Option (List ℕ)
sub_order braces = if length (behind_braces braces) == 0 then None else Some (trimmed (drop 1 (behind_braces braces)))

-- the text of a group's order, where one is written
abbrev pub order_text : List ℕ → Option (List ℕ)
order_text text = if is_relation text then Some (strength_text (behind_sign text)) else sub_order (without_first_blanks text)

-- the order of a group of so many members: a written one is from 1 to their number, without one it
-- is that of the whole, lowered to their number
abbrev pub group_order : ℕ → Option (List ℕ) → ℕ → Option ℕ
group_order whole (Some text) count = count_of text 1 count
group_order whole None count = Some (min whole count)

-- one more member
abbrev pub member_or : ℕ → List ℕ → Option ℕ → Result (List ℕ) ModelFault
member_or line members None = refused line UnknownMember
member_or line members (Some p) = if list_any (λ q. q == p) members then refused line RepeatedMember else Ok (members ++ p ∷ [])

abbrev pub add_member : Bool → List (List ℕ) → ℕ → List ℕ → List ℕ → Result (List ℕ) ModelFault
add_member fold known line members piece = member_or line members (place_of fold known piece)

-- one more group
abbrev pub add_group : ℕ → Bool → Demand → List ℕ → Option ℕ → Result Demand ModelFault
add_group line relation demand members None = refused line BadGroupOrder
add_group line relation demand members (Some order) =
    let group : Group = record { order = order; members = members } in
    Ok (if relation then record demand { relations = demand.relations ++ group ∷ [] } else record demand { subs = demand.subs ++ group ∷ [] })

-- one more line, where the parameters have these names
abbrev pub read_group : ModelOpts → List (List ℕ) → Demand → ℕ × List ℕ → Result Demand ModelFault
read_group opts known demand line =
    refused_or line.0 (group_code line.1)
    (and_then (and_each (add_member opts.fold known line.0) [] (pieces opts.marks.separator (group_list line.1)))
    (λ members. add_group line.0 (is_relation line.1) demand members (group_order demand.order (order_text line.1) (length members))))

abbrev pub read_groups : ModelOpts → List (List ℕ) → ℕ → List (ℕ × List ℕ) → Result Demand ModelFault
read_groups opts known order lines = and_each (read_group opts known) (record { order = order; subs = []; relations = [] }) lines
