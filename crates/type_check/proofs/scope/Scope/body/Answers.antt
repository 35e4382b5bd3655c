use Rattle.std.proofs.Common.{rules, ◌++◌, ◌∙◌}
use Rattle.constraint_ast.specs.Trees.{tree_of}
use Rattle.type_check.specs.believed.Checking.{terms_of}
use Rattle.type_check.proofs.Refusals.{behind_none, refused_behind, refused_front}
use Rattle.type_check.proofs.scope.Scope.body.Goals as goal

pub returns-in_err-premise-in-IfThen-clause-err : goal.returns-in_err-premise-in-IfThen-clause-err
returns-in_err-premise-in-IfThen-clause-err c =
    let told = refused_front c.args.self.now.fold c.args.self.now.params.now (terms_of (tree_of c.in-IfThen.premise))
    (terms_of (tree_of c.in-IfThen.pred)) c.in_err-premise-in-IfThen.field-0.0 c.in_err-premise-in-IfThen.ensures.err in
    search rules

pub returns-in_err-pred-in-IfThen-clause-err : goal.returns-in_err-pred-in-IfThen-clause-err
returns-in_err-pred-in-IfThen-clause-err c =
    let told = refused_behind c.args.self.now.fold c.args.self.now.params.now (tree_of c.in-IfThen.premise)
    (terms_of (tree_of c.in-IfThen.pred)) c.in_err-pred-in-IfThen.field-0.0 c.in_ok-premise-in-IfThen.ensures.unrefused c.in_err-pred-in-IfThen.ensures.err in
    search rules

pub returns-in_err-premise-in-IfElse-clause-err : goal.returns-in_err-premise-in-IfElse-clause-err
returns-in_err-premise-in-IfElse-clause-err c =
    let told = refused_front c.args.self.now.fold c.args.self.now.params.now (terms_of (tree_of c.in-IfElse.premise))
    (terms_of (tree_of c.in-IfElse.pred) ++ terms_of (tree_of c.in-IfElse.other)) c.in_err-premise-in-IfElse.field-0.0 c.in_err-premise-in-IfElse.ensures.err in
    search rules

pub returns-in_err-pred-in-IfElse-clause-err : goal.returns-in_err-pred-in-IfElse-clause-err
returns-in_err-pred-in-IfElse-clause-err c =
    let front = refused_front c.args.self.now.fold c.args.self.now.params.now (terms_of (tree_of c.in-IfElse.pred))
    (terms_of (tree_of c.in-IfElse.other)) c.in_err-pred-in-IfElse.field-0.0 c.in_err-pred-in-IfElse.ensures.err in
    let told = refused_behind c.args.self.now.fold c.args.self.now.params.now (tree_of c.in-IfElse.premise)
    (terms_of (tree_of c.in-IfElse.pred) ++ terms_of (tree_of c.in-IfElse.other)) c.in_err-pred-in-IfElse.field-0.0 c.in_ok-premise-in-IfElse.ensures.unrefused front in
    search rules

pub returns-in_err-pred-in-IfElse-2-clause-err : goal.returns-in_err-pred-in-IfElse-2-clause-err
returns-in_err-pred-in-IfElse-2-clause-err c =
    let behind = refused_behind c.args.self.now.fold c.args.self.now.params.now (tree_of c.in-IfElse.pred)
    (terms_of (tree_of c.in-IfElse.other)) c.in_err-pred-in-IfElse-2.field-0.0 c.in_ok-pred-in-IfElse.ensures.unrefused c.in_err-pred-in-IfElse-2.ensures.err in
    let told = refused_behind c.args.self.now.fold c.args.self.now.params.now (tree_of c.in-IfElse.premise)
    (terms_of (tree_of c.in-IfElse.pred) ++ terms_of (tree_of c.in-IfElse.other)) c.in_err-pred-in-IfElse-2.field-0.0 c.in_ok-premise-in-IfElse.ensures.unrefused behind in
    search rules

pub returns-in_ok-pred-in-IfThen-clause-unrefused : goal.returns-in_ok-pred-in-IfThen-clause-unrefused
returns-in_ok-pred-in-IfThen-clause-unrefused c =
    let none = behind_none c.args.self.now.fold c.args.self.now.params.now (terms_of (tree_of c.in-IfThen.premise)) (terms_of (tree_of c.in-IfThen.pred)) c.in_ok-premise-in-IfThen.ensures.unrefused
    ∙ c.in_ok-pred-in-IfThen.ensures.unrefused in
    search rules

pub returns-in_ok-pred-in-IfElse-2-clause-unrefused : goal.returns-in_ok-pred-in-IfElse-2-clause-unrefused
returns-in_ok-pred-in-IfElse-2-clause-unrefused c =
    let none = behind_none c.args.self.now.fold c.args.self.now.params.now (terms_of (tree_of c.in-IfElse.premise))
    (terms_of (tree_of c.in-IfElse.pred) ++ terms_of (tree_of c.in-IfElse.other)) c.in_ok-premise-in-IfElse.ensures.unrefused
    ∙ behind_none c.args.self.now.fold c.args.self.now.params.now (terms_of (tree_of c.in-IfElse.pred)) (terms_of (tree_of c.in-IfElse.other)) c.in_ok-pred-in-IfElse.ensures.unrefused
    ∙ c.in_ok-pred-in-IfElse-2.ensures.unrefused in
    search rules
