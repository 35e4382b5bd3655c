-- The whole numbers of a constraint are those of its tokens.
use Rattle.std.proofs.Common.{◌≡◌, ℕ, zero, suc, ◌+◌, ◌-◌, Bool, true, false, if◌then◌else◌, List, [], ◌∷◌, ◌++◌}
use Rattle.std.proofs.Common.{length, map, take, All, Some, None, Option, refl, sym, ap, subst, ◌∙◌, arith}
use Rattle.std.proofs.lemmas.Option.{same_Some}
use Rattle.std.proofs.lemmas.Bool.{and_from, and_parts}
use Rattle.std.proofs.lemmas.List.Elements.{All-cons, All-drop, All-head, All-tail, All-take}
use Rattle.std.specs.List.{after_first, before_first, list_any, position_or_len}
use Rattle.std.specs.Prelude.{option_map, slice_index_or}
use Rattle.acts_front.specs.believed.Tokens.{Token, Name, Whole, Words, Truth, Relation, Arrow, Or, And, Not, Open, Close}
use Rattle.acts_front.specs.believed.Constraints.{Operand, OfWhole, OfText, OfTruth, OfParameter, Pred, Preds, Negated, End, More, Constraint, Plain, Implies}
use Rattle.acts_front.specs.believed.Constraints.{comparison_of, conj_in, cons_of, disj_in, disj_of, each_of, each_term, either_of, enclosed_of, every_term}
use Rattle.acts_front.specs.believed.Constraints.{implied, is_and, is_arrow, is_close, is_or, operand_in, parts, preds_of, terms_pass, unit_of}
use Rattle.constraint_ast.specs.believed.Grammar.{most_open}
use Rattle.acts_front.proofs.GivenTokens.{IsWritten}
use Rattle.acts_front.proofs.Glued.{and_glued, glue, mapped_some, or_glued, spells_first}
use Rattle.acts_front.proofs.TermsMean.{is_all_written, is_number_written}
use Rattle.acts_front.proofs.TranslatedTrees.{comparison_is}

abbrev Writes : Pred → Type 0
Writes pred = each_term is_all_written pred ≡ true

operand_written : (token : Token) (operand : Operand) → operand_in token ≡ Some operand → IsWritten token → is_number_written operand ≡ true
operand_written (Whole text) operand is written = let same : OfWhole text ≡ operand = same_Some _ _ is in subst (λ o. is_number_written o ≡ true) same written
operand_written (Words text) operand is written = let same : OfText text ≡ operand = same_Some _ _ is in subst (λ o. is_number_written o ≡ true) same refl
operand_written (Truth truth) operand is written = let same : OfTruth truth ≡ operand = same_Some _ _ is in subst (λ o. is_number_written o ≡ true) same refl
operand_written (Name name) operand is written = let same : OfParameter name ≡ operand = same_Some _ _ is in subst (λ o. is_number_written o ≡ true) same refl
operand_written (Relation rel) operand is written = absurd (cc)
operand_written Arrow operand is written = absurd (cc)
operand_written Or operand is written = absurd (cc)
operand_written And operand is written = absurd (cc)
operand_written Not operand is written = absurd (cc)
operand_written Open operand is written = absurd (cc)
operand_written Close operand is written = absurd (cc)

comparison_written : (tokens : List Token) (pred : Pred) → comparison_of tokens ≡ Some pred → All IsWritten tokens → Writes pred
comparison_written tokens pred is all =
    let found = comparison_is tokens pred is in
    let list = subst (All IsWritten) (sym found.tokens_are) all in
    let more = All-tail IsWritten (Name found.name) (Relation found.rel ∷ found.token ∷ []) list in
    let last = All-head IsWritten found.token [] (All-tail IsWritten (Relation found.rel) (found.token ∷ []) more) in
    subst Writes found.pred_is (operand_written found.token found.operand found.operand_is last)

-- the tokens of the first part, and those behind the mark
first_part : (front back : List Token) → All IsWritten (front ++ back) → All IsWritten front
first_part [] back all = λ i d within. absurd (omega (arith, within))
first_part (token ∷ front) back all = All-cons IsWritten token front (All-head IsWritten token (front ++ back) all) (first_part front back (All-tail IsWritten token (front ++ back) all))

behind_part : (front back : List Token) → All IsWritten (front ++ back) → All IsWritten back
behind_part [] back all = all
behind_part (token ∷ front) back all = behind_part front back (All-tail IsWritten token (front ++ back) all)

module _ (mark : Token) (read : List Token → Option Pred) (writes : (part : List Token) (pred : Pred) → read part ≡ Some pred → All IsWritten part → Writes pred) where
  parts_written : (list : List (List Token)) (preds : Preds) → preds_of (map read list) ≡ Some preds → All IsWritten (glue mark list) → every_term is_all_written preds ≡ true
  parts_written [] preds is all = let same : End ≡ preds = same_Some _ _ is in subst (λ p. every_term is_all_written p ≡ true) same refl
  parts_written (part ∷ []) preds is all =
      let first = spells_first read part [] preds is in
      let none : End ≡ first.rest = same_Some _ _ first.later in
      subst (λ p. every_term is_all_written p ≡ true) (ap (λ more. More first.pred more) none ∙ first.are) (and_from _ _ (writes part first.pred first.first all) refl)
  parts_written (part ∷ next ∷ others) preds is all =
      let first = spells_first read part (next ∷ others) preds is in
      let back = behind_part part (mark ∷ glue mark (next ∷ others)) all in
      subst (λ p. every_term is_all_written p ≡ true) first.are
      (and_from _ _ (writes part first.pred first.first (first_part part (mark ∷ glue mark (next ∷ others)) all))
      (parts_written (next ∷ others) first.rest first.later (All-tail IsWritten mark (glue mark (next ∷ others)) back)))

each_written : (preds : Preds) → every_term is_all_written preds ≡ true → Writes (each_of preds)
each_written End all = refl
each_written (More pred End) all = (and_parts _ _ all).0
each_written (More pred (More next preds)) all = all

either_written : (preds : Preds) → every_term is_all_written preds ≡ true → Writes (either_of preds)
either_written End all = refl
either_written (More pred End) all = (and_parts _ _ all).0
either_written (More pred (More next preds)) all = all

module _ (read : List Token → Option Pred) (writes : (part : List Token) (pred : Pred) → read part ≡ Some pred → All IsWritten part → Writes pred) where
  conj_written : (tokens : List Token) (pred : Pred) → conj_in read tokens ≡ Some pred → All IsWritten tokens → Writes pred
  conj_written tokens pred is all =
      let found = mapped_some each_of (preds_of (map read (parts is_and tokens))) pred is in
      subst Writes found.2 (each_written found.0 (parts_written And read writes (parts is_and tokens) found.0 found.1 (subst (All IsWritten) (sym (and_glued tokens)) all)))

  disj_written : (tokens : List Token) (pred : Pred) → disj_in read tokens ≡ Some pred → All IsWritten tokens → Writes pred
  disj_written tokens pred is all =
      let found = mapped_some either_of (preds_of (map (conj_in read) (parts is_or tokens))) pred is in
      subst Writes found.2 (either_written found.0 (parts_written Or (conj_in read) conj_written (parts is_or tokens) found.0 found.1 (subst (All IsWritten) (sym (or_glued tokens)) all)))

  enclosed_written : (tokens : List Token) (pred : Pred) → enclosed_of (disj_in read) tokens ≡ Some pred → All IsWritten tokens → Writes pred
  enclosed_written tokens pred is all = by (is_close (slice_index_or tokens (length tokens - 1) Open)) is
    where
      by : (closes : Bool) → (if closes then disj_in read (take (length tokens - 1) tokens) else None) ≡ Some pred → Writes pred
      by false none = absurd (cc)
      by true found = disj_written (take (length tokens - 1) tokens) pred found (All-take IsWritten (length tokens - 1) tokens all)

unit_written : (room : ℕ) (tokens : List Token) (pred : Pred) → unit_of room tokens ≡ Some pred → All IsWritten tokens → Writes pred
unit_written zero tokens pred is all = comparison_written tokens pred is all
unit_written (suc room) (Not ∷ tokens) pred is all =
    let inner = mapped_some Negated (unit_of room tokens) pred is in
    subst Writes inner.2 (unit_written room tokens inner.0 inner.1 (All-tail IsWritten Not tokens all))
unit_written (suc room) (Open ∷ tokens) pred is all = enclosed_written (unit_of room) (unit_written room) tokens pred is (All-tail IsWritten Open tokens all)
unit_written (suc room) [] pred is all = comparison_written [] pred is all
unit_written (suc room) (Name name ∷ more) pred is all = comparison_written (Name name ∷ more) pred is all
unit_written (suc room) (Whole text ∷ more) pred is all = comparison_written (Whole text ∷ more) pred is all
unit_written (suc room) (Words text ∷ more) pred is all = comparison_written (Words text ∷ more) pred is all
unit_written (suc room) (Truth truth ∷ more) pred is all = comparison_written (Truth truth ∷ more) pred is all
unit_written (suc room) (Relation rel ∷ more) pred is all = comparison_written (Relation rel ∷ more) pred is all
unit_written (suc room) (Arrow ∷ more) pred is all = comparison_written (Arrow ∷ more) pred is all
unit_written (suc room) (Or ∷ more) pred is all = comparison_written (Or ∷ more) pred is all
unit_written (suc room) (And ∷ more) pred is all = comparison_written (And ∷ more) pred is all
unit_written (suc room) (Close ∷ more) pred is all = comparison_written (Close ∷ more) pred is all

pub constraint_written : (tokens : List Token) (constraint : Constraint) → cons_of most_open tokens ≡ Some constraint → All IsWritten tokens → terms_pass is_all_written constraint ≡ true
constraint_written tokens constraint is all = by (list_any is_arrow tokens) is
  where
    place : ℕ
    place = position_or_len is_arrow tokens

    premised : (premise pred : Option Pred) → disj_of most_open (before_first is_arrow tokens) ≡ premise → disj_of most_open (after_first is_arrow tokens) ≡ pred
        → implied premise pred ≡ Some constraint
        → terms_pass is_all_written constraint ≡ true
    premised None pred one two e = absurd (cc)
    premised (Some premise) None one two e = absurd (cc)
    premised (Some premise) (Some pred) one two e =
        let same : Implies premise pred ≡ constraint = same_Some _ _ e in
        let front = disj_written (unit_of most_open) (unit_written most_open) (before_first is_arrow tokens) premise one (All-take IsWritten place tokens all) in
        let back = disj_written (unit_of most_open) (unit_written most_open) (after_first is_arrow tokens) pred two (All-drop IsWritten (place + 1) tokens all) in
        subst (λ c. terms_pass is_all_written c ≡ true) same (and_from _ _ front back)

    by : (any : Bool) → (if any then implied (disj_of most_open (before_first is_arrow tokens)) (disj_of most_open (after_first is_arrow tokens))
        else option_map Plain (disj_of most_open tokens)) ≡ Some constraint
        → terms_pass is_all_written constraint ≡ true
    by true e = premised (disj_of most_open (before_first is_arrow tokens)) (disj_of most_open (after_first is_arrow tokens)) refl refl e
    by false e =
        let found = mapped_some Plain (disj_of most_open tokens) constraint e in
        subst (λ c. terms_pass is_all_written c ≡ true) found.2 (disj_written (unit_of most_open) (unit_written most_open) tokens found.0 found.1 all)
