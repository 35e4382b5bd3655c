-- What is known of the lines of a file that isn't refused.
use Rattle.std.proofs.Common.{◌≡◌, ℕ, ◌<◌, Bool, true, false, if◌then◌else◌, List, [], length, drop, Option, Some, None, Result, Ok, Err, is_none, refl, subst}
use Rattle.std.proofs.lemmas.Bool.{and_parts, or_parts, not-false, not-true, ltb-true}
use Rattle.std.specs.List.{list_all}
use Rattle.value_text.specs.believed.Numbers.{count_of}
use Rattle.model_parse.proofs.SoundNames.{some_pieces}
use Rattle.acts_front.specs.believed.ParameterLines.{Parameter, Scope, are_few_digits, behind_kind, declared_in, folds, is_declared}
use Rattle.acts_front.specs.believed.ParameterLines.{is_name, has_repeated, is_value, kind_in, parameter_in, parameter_with, read_parameter}
use Rattle.acts_front.specs.believed.RelationLines.{Relation, parts_in, read_relation, related_in, relation_in, relation_in_parts}
use Rattle.acts_front.specs.declared.kind.Kind.{Kind}

-- what an answer holds
pub ok_is : {A E : Type 0} {x y : A} → ◌≡◌ {A = Result A E} (Ok x) (Ok y) → x ≡ y
ok_is e = cc

-- what a choice gave
pub taken : {A : Type 0} (b : Bool) (x y : A) → (if b then Some x else None) ≡ Some y → (b ≡ true) × (x ≡ y)
taken true x y e = (refl, cc)
taken false x y e = absurd (cc)

pub passed : {A E : Type 0} (b : Bool) (fault : E) (answer : Result A E) (y : A) → (if b then Err fault else answer) ≡ Ok y → (b ≡ false) × (answer ≡ Ok y)
passed false fault answer y e = (refl, e)
passed true fault answer y e = absurd (cc)

-- a parameter behind others
pub record IsParameter (scope : Scope) (param : Parameter) : Type 0 where
  pub named : is_name param.name ≡ true
  pub some : 0 < length param.values
  pub values : list_all (is_value param.kind) param.values ≡ true
  pub new : is_declared scope param.name ≡ false
  pub distinct : has_repeated (folds scope.fold param.kind) [] param.values ≡ false

-- its form
record HasForm (param : Parameter) : Type 0 where
  form_named : is_name param.name ≡ true
  form_some : 0 < length param.values
  form_values : list_all (is_value param.kind) param.values ≡ true

formed : (text : List ℕ) (kind : Option Kind) (param : Parameter) → parameter_with text kind ≡ Some param → HasForm param
formed text None param is = absurd (cc)
formed text (Some kind) param is =
    let found = taken _ _ param is in
    let tests = and_parts _ _ found.0 in
    subst HasForm found.1
    (record { form_named = (and_parts _ _ tests.0).0; form_some = some_pieces 44 (drop 1 (behind_kind text)); form_values = tests.1 })

pub parameter_given : (scope : Scope) (text : List ℕ) (param : Parameter) → read_parameter scope text ≡ Ok param → IsParameter scope param
parameter_given scope text param read = by (parameter_in text) refl read
  where
    by : (found : Option Parameter) → parameter_in text ≡ found → declared_in scope found ≡ Ok param → IsParameter scope param
    by None is e = absurd (cc)
    by (Some other) is e =
        let fresh = passed _ _ (Ok other) param e in
        let tests = or_parts _ _ fresh.0 in
        let same : other ≡ param = ok_is fresh.1 in
        let form = formed text (kind_in text) other is in
        subst (IsParameter scope) same
        (record { named = form.form_named; some = form.form_some; values = form.form_values; new = tests.0; distinct = tests.1 })

-- a relation behind others
pub record IsRelation (scope : Scope) (relation : Relation) : Type 0 where
  pub some : 0 < length relation.members
  pub named : list_all is_name relation.members ≡ true
  pub digits : are_few_digits relation.strength ≡ true
  pub declared : list_all (is_declared scope) relation.members ≡ true
  pub distinct : has_repeated scope.fold [] relation.members ≡ false
  pub order : ℕ
  pub counts : count_of relation.strength 1 (length relation.members) ≡ Some order

record HasParts (relation : Relation) : Type 0 where
  parts_some : 0 < length relation.members
  parts_named : list_all is_name relation.members ≡ true
  parts_digits : are_few_digits relation.strength ≡ true

parted : (parts : List (List ℕ)) (relation : Relation) → relation_in_parts parts ≡ Some relation → HasParts relation
parted parts relation is =
    let found = taken _ _ relation is in
    let tests = and_parts _ _ found.0 in
    let front = and_parts _ _ tests.0 in
    subst HasParts found.1 (record { parts_some = ltb-true 0 _ front.0; parts_named = front.1; parts_digits = tests.1 })

parted_line : (text : List ℕ) (relation : Relation) → relation_in text ≡ Some relation → HasParts relation
parted_line text relation is = parted (parts_in text) relation (by _ refl is)
  where
    by : (b : Bool) → b ≡ b → (if b then relation_in_parts (parts_in text) else None) ≡ Some relation → relation_in_parts (parts_in text) ≡ Some relation
    by true same e = e
    by false same e = absurd (cc)

counted : (found : Option ℕ) → is_none found ≡ false → (order : ℕ) × (found ≡ Some order)
counted (Some order) some = (order, refl)
counted None some = absurd (cc)

pub relation_given : (scope : Scope) (text : List ℕ) (relation : Relation) → read_relation scope text ≡ Ok relation → IsRelation scope relation
relation_given scope text relation read = by (relation_in text) refl read
  where
    by : (found : Option Relation) → relation_in text ≡ found → related_in scope found ≡ Ok relation → IsRelation scope relation
    by None is e = absurd (cc)
    by (Some other) is e =
        let members = passed _ _ _ relation e in
        let counts = passed _ _ (Ok other) relation members.1 in
        let tests = and_parts _ _ (not-false _ members.0) in
        let order = counted _ counts.0 in
        let same : other ≡ relation = ok_is counts.1 in
        let parts = parted_line text other is in
        subst (IsRelation scope) same
        (record {
          some = parts.parts_some;
          named = parts.parts_named;
          digits = parts.parts_digits;
          declared = tests.0;
          distinct = not-true _ tests.1;
          order = order.0;
          counts = order.1;
        })
