use Rattle.std.proofs.Common.{◌≡◌, ◌∙◌, ◌||◌, ◌+◌, ◌∷◌, ℕ, Bool, List, Option, None, drop, length, get_or, refl, sym, ap, arith, inl, inr, add-one, drop-cons}
use Rattle.std.proofs.Common.{set as list_set}
use Rattle.std.proofs.lemmas.Bool.{cases_eq, ne_eqb}
use Rattle.std.proofs.lemmas.List.{drop_all, length-set, get_or-set_other, get_or-set_same}
use Rattle.definitions.specs.believed.Demand.{is_among}
use Rattle.ipog_grow.proofs.Giving.{given_exist}
use Rattle.ipog_grow.proofs.Uniting.{given_away}
use Rattle.ipog_grow.proofs.place_tuple.take_tuple.Goals as goal

pub loop-p-init : goal.loop-p-init
loop-p-init c = record {
  long = refl;
  none = λ q away. given_away c.args.into.now q (ap (λ (given : List ℕ). is_among given q) (sym c.requires) ∙ away);
}

pub clear_cell-requires : goal.clear_cell-requires
clear_cell-requires c =
    given_exist c.args.into.now c.loop-p.into c.args.given.now c.requires (sym c.loop-p.invariant.long) c.loop-p.p-index 0 c.loop-p-test.true

pub loop-p-preserved : goal.loop-p-preserved
loop-p-preserved c =
    let given = c.args.given.now in
    let p = get_or given c.loop-p.p-index 0 in
    let within = given_exist c.args.into.now c.loop-p.into given c.requires (sym c.loop-p.invariant.long) c.loop-p.p-index 0 c.loop-p-test.true in
    let next : drop c.loop-p.p-index given ≡ p ∷ drop (c.loop-p.p-index + 1) given =
    drop-cons given c.loop-p.p-index 0 c.loop-p-test.true ∙ ap (λ (k : ℕ). p ∷ drop k given) (sym (add-one c.loop-p.p-index)) in
    record {
      long = ap length c.clear_cell.ensures ∙ length-set c.loop-p.into p None ∙ c.loop-p.invariant.long;
      none = λ q away. ap (λ (cells : List (Option ℕ)). get_or cells q None) c.clear_cell.ensures ∙ elim (cases_eq q p) [
        | inl same ↦ ap (λ (k : ℕ). get_or (list_set c.loop-p.into p None) k None) same ∙ get_or-set_same c.loop-p.into p None None within
        | inr differs ↦
            get_or-set_other c.loop-p.into p q None None differs
            ∙ c.loop-p.invariant.none q (ap (λ (list : List ℕ). is_among list q) next
            ∙ ap (λ (b : Bool). b || is_among (drop (c.loop-p.p-index + 1) given) q) (ne_eqb p q (λ same. differs (sym same))) ∙ away)
      ];
    }

pub returns-clause-none : goal.returns-clause-none
returns-clause-none c q =
    c.loop-p.invariant.none q (ap (λ (given : List ℕ). is_among given q) (drop_all c.loop-p.p-index c.args.given.now (omega arith)))
