-- The demand that the group lines give is sound, and so is the raw model.
use Rattle.std.proofs.Common.{◌≡◌, ◌≢◌, ℕ, ◌<◌, ◌≤◌, Bool, true, false, ◌&&◌, List, [], ◌∷◌, min, length, All, AllPairs, Option}
use Rattle.std.proofs.Common.{Some, None, IfOk, position, refl, sym, ◌∙◌, subst, arith, ltb, leb, eqb}
use Rattle.std.proofs.lemmas.Bool.{and_parts, true≢false, ltb-false, leb-true, eq-eqb, cond_both}
use Rattle.std.proofs.lemmas.Option.{cond_some}
use Rattle.std.proofs.lemmas.List.{length-append}
use Rattle.std.proofs.lemmas.List.Elements.{All-nil, All-push}
use Rattle.std.proofs.lemmas.List.Folds.{list_any_at}
use Rattle.std.proofs.lemmas.List.Quantifiers.{all_pairs_push, position-Some}
use Rattle.std.specs.List.{list_any}
use Rattle.std.specs.Str.Parse.{digits_value}
use Rattle.value_text.specs.believed.Numbers.{is_digits}
use Rattle.cov_model.specs.declared.demand.Demand.{Demand}
use Rattle.cov_model.specs.declared.demand.Group.{Group}
use Rattle.cov_model.specs.believed.Sound.{IsSoundGroup}
use Rattle.model_lex.specs.believed.Sections.{Split}
use Rattle.model_lex.specs.declared.options.ModelOpts.{ModelOpts}
use Rattle.model_lex.specs.declared.options.OrderWord.{OrderWord}
use Rattle.model_lex.specs.declared.options.OrderWord.TheVariants.{Number, Max}
use Rattle.model_parse.specs.declared.reading.ParamsRead.{ParamsRead}
use Rattle.model_parse.specs.believed.GroupLines.{is_relation}
use Rattle.model_parse.specs.GroupSteps.{member_or, add_member, group_code, group_list, group_order, order_text, add_group, read_group, read_groups}
use Rattle.model_parse.specs.ParamSteps.{read_params}
use Rattle.model_parse.specs.believed.Pieces.{pieces}
use Rattle.model_parse.specs.RawModels.{AreOpts, IsOrder, IsSoundRaw}
use Rattle.model_parse.specs.believed.RawModels.{order_in, raw_model_of}
use Rattle.model_parse.specs.ModelSteps.{read_raw, with_demand}
use Rattle.model_parse.specs.Steps.{and_each}
use Rattle.model_parse.specs.ValueSteps.{place_of}
use Rattle.model_parse.proofs.Keeping.{then_ok, accepted_ok, each_ok, each_some}
use Rattle.model_parse.proofs.RuledGroups.{raw_ruled}
use Rattle.model_parse.proofs.SoundNames.{some_pieces}
use Rattle.model_parse.proofs.SoundParams.{AreSoundParams, params_ok, numbered, distinct_params}

-- distinct members, which exist
record AreMembers (count : ℕ) (members : List ℕ) : Type 0 where
  exist : All (λ p. p < count) members
  distinct : AllPairs (λ p q. p ≢ q) members

record AreSomeMembers (count : ℕ) (members : List ℕ) : Type 0 where
  are : AreMembers count members
  some : 0 < length members

member_ok : (count line : ℕ) (members : List ℕ) (known : List (List ℕ)) (test : List ℕ → Bool) → length known ≡ count → AreMembers count members
    → (place : Option ℕ) → position test known ≡ place → IfOk (member_or line members place) (AreSomeMembers count)
member_ok count line members known test numbered are None is = tt
member_ok count line members known test numbered are (Some p) is =
    let within = position-Some test known p [] is in
    cond_both (list_any (λ q. eqb q p) members) _ _ (λ r. IfOk r (AreSomeMembers count)) (λ repeated. tt) (λ new. record {
      are = record {
        exist = All-push (λ q. q < count) members p are.exist (omega (arith, within.0));
        distinct = all_pairs_push (λ a b. a ≢ b) members p are.distinct (λ k d inside e. true≢false (sym (list_any_at (λ q. eqb q p) members k d inside (eq-eqb _ _ e)) ∙ new));
      };
      some = omega (arith, length-append members (p ∷ []));
    })

-- an order is from 1 to the number of members
order_within : (whole : ℕ) (text : Option (List ℕ)) (count n : ℕ) → 1 ≤ whole → 0 < count → group_order whole text count ≡ Some n → (1 ≤ n) × (n ≤ count)
order_within whole (Some text) count n least some is =
    let value = digits_value 10 text in
    let found = cond_some _ value n is in
    let tests = and_parts (is_digits text && leb (length text) 20 && leb 1 value) (leb value count) found.0 in
    let lower = and_parts (is_digits text && leb (length text) 20) (leb 1 value) tests.0 in
    let low : 1 ≤ value = leb-true 1 value lower.1 in
    let high : value ≤ count = leb-true value count tests.1 in
    let same : value ≡ n = found.1 in
    (omega arith, omega arith)
order_within whole None count n least some is =
    let same : min whole count ≡ n = cc in
    (omega arith, omega arith)

-- what has been read of the group lines
record IsDemand (count : ℕ) (demand : Demand) : Type 0 where
  least : 1 ≤ demand.order
  subs : All (IsSoundGroup count) demand.subs
  relations : All (IsSoundGroup count) demand.relations

added_ok : (count line : ℕ) (relation : Bool) (demand : Demand) (members : List ℕ) (order : Option ℕ) → IsDemand count demand → AreSomeMembers count members
    → ((n : ℕ) → order ≡ Some n → (1 ≤ n) × (n ≤ length members)) → IfOk (add_group line relation demand members order) (IsDemand count)
added_ok count line relation demand members None is are within = tt
added_ok count line relation demand members (Some n) is are within = at relation
  where
    group : Group
    group = record { order = n; members = members }

    sound : IsSoundGroup count group
    sound = record { some = are.some; exist = are.are.exist; distinct = are.are.distinct; least = (within n refl).0; most = (within n refl).1 }

    at : (b : Bool) → IfOk (add_group line b demand members (Some n)) (IsDemand count)
    at true = record { least = is.least; subs = is.subs; relations = All-push (IsSoundGroup count) demand.relations group is.relations sound }
    at false = record { least = is.least; subs = All-push (IsSoundGroup count) demand.subs group is.subs sound; relations = is.relations }

group_ok : (opts : ModelOpts) (known : List (List ℕ)) (count : ℕ) (demand : Demand) (line : ℕ × List ℕ) → length known ≡ count → IsDemand count demand
    → IfOk (read_group opts known demand line) (IsDemand count)
group_ok opts known count demand line numbered is =
    let list = pieces opts.marks.separator (group_list line.1) in
    let none : AreMembers count [] = record { exist = All-nil (λ p. p < count); distinct = λ i j d lt within. absurd (omega arith) } in
    accepted_ok (IsDemand count) line.0 (group_code line.1) _ (λ code.
    then_ok (AreSomeMembers count) (IsDemand count) (and_each (add_member opts.fold known line.0) [] list) _
    (each_some (add_member opts.fold known line.0) (AreMembers count) (AreSomeMembers count) (λ _. Unit {0})
    (λ members piece are _. member_ok count line.0 members known _ numbered are (place_of opts.fold known piece) refl) (λ members s. s.are) list [] (λ i d within. tt)
    (some_pieces opts.marks.separator (group_list line.1)) none)
    (λ members are. added_ok count line.0 (is_relation line.1) demand members (group_order demand.order (order_text line.1) (length members)) is are
    (λ n e. order_within demand.order (order_text line.1) (length members) n is.least are.some e)))

groups_ok : (opts : ModelOpts) (known : List (List ℕ)) (count order : ℕ) (lines : List (ℕ × List ℕ)) → length known ≡ count → 1 ≤ order → IfOk (read_groups opts known order lines) (IsDemand count)
groups_ok opts known count order lines numbered least =
    each_ok (read_group opts known) (IsDemand count) (λ _. Unit {0}) (λ demand line p _. group_ok opts known count demand line numbered p) lines
    (record { order = order; subs = []; relations = [] }) (λ i d within. tt)
    (record { least = least; subs = All-nil (IsSoundGroup count); relations = All-nil (IsSoundGroup count) })

least_order : (word : OrderWord) (count : ℕ) → IsOrder word → 0 < count → 1 ≤ order_in word count
least_order (Number n) count is some = is
least_order Max count is some = omega arith

demand_ok : (opts : ModelOpts) (lines : List (ℕ × List ℕ)) (read : ParamsRead) (demand : Demand) → AreSoundParams opts read → IsDemand (length read.params) demand
    → IfOk (with_demand lines read demand) (IsSoundRaw opts)
demand_ok opts lines read demand are is =
    cond_both (ltb (length read.params) demand.order) _ _ (λ r. IfOk r (IsSoundRaw opts)) (λ large. tt) (λ within. record {
      some = are.some;
      few = are.few;
      params = are.is.params;
      distinct = distinct_params opts.fold read.params are.is.are.distinct;
      demand = record { least = is.least; most = ltb-false (length read.params) demand.order within; subs = is.subs; relations = is.relations };
    })

read_ok : (opts : ModelOpts) (split : Split) → AreOpts opts → IfOk (read_raw opts split) (IsSoundRaw opts)
read_ok opts split is =
    then_ok (AreSoundParams opts) (IsSoundRaw opts) (read_params opts split.params) _ (params_ok opts split.params) (λ read are.
    then_ok (IsDemand (length read.params)) (IsSoundRaw opts) (read_groups opts read.known (order_in opts.order (length read.params)) split.groups) _
    (groups_ok opts read.known (length read.params) (order_in opts.order (length read.params)) split.groups (numbered opts.marks.prefix opts.fold read are.is)
    (least_order opts.order (length read.params) is.order are.some))
    (λ demand good. demand_ok opts split.params read demand are good))

-- what the lines give is sound
pub raw_ok : (opts : ModelOpts) (split : Split) → AreOpts opts → IfOk (raw_model_of opts split) (IsSoundRaw opts)
raw_ok opts split is = subst (λ r. IfOk r (IsSoundRaw opts)) (raw_ruled opts split) (read_ok opts split is)
