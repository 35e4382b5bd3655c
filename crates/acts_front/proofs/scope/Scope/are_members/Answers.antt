use Rattle.std.proofs.Common.{◌≡◌, ◌∙◌, ◌&&◌, [], not, map, sym, ap, true, false}
use Rattle.std.proofs.lemmas.List.Folds.{list_all-map}
use Rattle.std.specs.List.{list_all}
use Rattle.acts_front.specs.believed.ParameterLines.{is_declared, has_repeated}
use Rattle.acts_front.proofs.scope.Scope.are_members.Goals as goal

pub returns-then-not-branch : goal.returns-then-not-branch
returns-then-not-branch c =
    let names = map (λ name. name.now) c.args.names.now in
    let all : list_all (is_declared c.args.self.now) names ≡ false =
    list_all-map (is_declared c.args.self.now) (λ name. name.now) c.args.names.now ∙ (sym c.in_ok-declares_all.ensures ∙ c.if-not-branch.true) in
    ap (λ b. b && not (has_repeated c.args.self.now.fold [] names)) (sym all)

pub returns : goal.returns
returns c =
    let names = map (λ name. name.now) c.args.names.now in
    let all : list_all (is_declared c.args.self.now) names ≡ true =
    list_all-map (is_declared c.args.self.now) (λ name. name.now) c.args.names.now ∙ (sym c.in_ok-declares_all.ensures ∙ c.if-not-branch.false) in
    ap not (c.in_ok-repeated.ensures ∙ ap (λ fold. has_repeated fold [] names) c.fold.ensures)
    ∙ ap (λ b. b && not (has_repeated c.args.self.now.fold [] names)) (sym all)
