use Rattle.std.proofs.Common.{◌≡◌, ◌+◌, ◌++◌, ◌∷◌, [], ℕ, true, length, List, Some, sym, subst, rules}
use Rattle.definitions.specs.believed.Demand.{is_among}
use Rattle.refutation.specs.declared.omissions.Omission.{Omission}
use Rattle.refutation.specs.Holders.{AreHolders, last_pair, numbers_at}
use Rattle.refutation.proofs.HolderLemmas.{holders_kept, holders_more}
use Rattle.refutation.proofs.omissions.Omissions.push.Goals as goal

pub invariant_of-self-in_err-push : goal.invariant_of-self-in_err-push
invariant_of-self-in_err-push c =
    let listed = c.self.inside.listed.items in
    let same : c.push.new.self.items ≡ listed = search rules in
    let next : c.in-Ok.number ≡ length listed + 1 = search rules in
    subst (λ (omissions : List Omission). AreHolders omissions c.add.new.self c.self.inside.width) (sym same)
    (holders_kept listed c.self.inside.holders c.add.new.self c.self.inside.width c.in-Ok.number c.self.invariant next c.add.ensures.adds)

pub invariant_of-self-2 : goal.invariant_of-self-2
invariant_of-self-2 c =
    let listed = c.self.inside.listed.items in
    let own = c.args.omission in
    let more : c.push.new.self.items ≡ listed ++ own ∷ [] = search rules in
    let next : c.in-Ok.number ≡ length listed + 1 = search rules in
    let each : (p v : ℕ) → last_pair own.tuple ≡ Some (p, v) → is_among (numbers_at c.add.new.self p v) c.in-Ok.number ≡ true =
    subst (λ (pairs : List (ℕ × ℕ)). (p v : ℕ) → last_pair pairs ≡ Some (p, v) → is_among (numbers_at c.add.new.self p v) c.in-Ok.number ≡ true)
    c.as_slice.ensures.value c.in_ok-add.ensures.listed in
    subst (λ (omissions : List Omission). AreHolders omissions c.add.new.self c.max-width.result) (sym more)
    (subst (AreHolders (listed ++ own ∷ []) c.add.new.self) (sym c.max-width.ensures)
    (holders_more listed own c.self.inside.holders c.add.new.self c.self.inside.width c.least_width.result c.in-Ok.number c.self.invariant next
    c.add.ensures.adds each c.least_width.ensures))
