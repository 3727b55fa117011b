-- Definitions of functions, by what is kept of their heads.
use Rattle.std.proofs.Common.{rules, ◌≡◌, refl, sym, ap, ◌∙◌}
use Rattle.cx_core.specs.declared.ty.FunctionTy.{FunctionTy}
use Rattle.cx_core.specs.declared.ty.Params.TheFolds.{fold_out-FunctionTy}
use Rattle.cx_core.specs.Trees.{CTy, ty, void, basic, enum_type, pointer, array, record_type, function, CStmt}
use Rattle.cx_core.specs.Views.{view_function_type, view_type}
use Rattle.cx_unit_walk.specs.Functions.{given_by, in_function, result_in}
use Rattle.cx_unit_walk.specs.Walks as walks
use Rattle.cx_decl_steps.proofs.Kept.{body_is}
use Rattle.cx_decl_steps.specs.Kept.{CHeadKept, kept_of}
use Rattle.cx_decl_steps.specs.Steps as decl_steps
use Rattle.cx_declarations.proofs.Definitions.{definition_is}
use Rattle.cx_declarations.specs.Walks as declared
use Rattle.cx_rules.specs.Readings.{CChecked, stops, fine, Check, check_behind, check_gives, check_chain, check_here, check_becomes, check_look}
use Rattle.cx_rules.specs.Scope.{CScope}
use Rattle.cx_rules.specs.UnitWalk as unit
use Rattle.cx_rules.specs.UnitWalk.{CHead, labels_of}
use Rattle.cx_tree.specs.Trees.{StmtTree, Label, Case, Default, Block, ExprStmt, If, Switch, While, Do, For, Goto, Continue, Break, Return, DefinitionTree}

pub given_view : (held : FunctionTy) → given_by (view_function_type held) ≡ view_type held.result_ty
given_view held = search (rules, fold_out-FunctionTy)

where_by : (head : CHead) (body : StmtTree) (type : CTy) → unit.where_in (record head { written = type }) body ≡ in_function (result_in type) (labels_of body)
where_by head body (ty void is_const) = refl
where_by head body (ty (basic which) is_const) = refl
where_by head body (ty (enum_type number) is_const) = refl
where_by head body (ty (pointer to) is_const) = refl
where_by head body (ty (array element length) is_const) = refl
where_by head body (ty (record_type number) is_const) = refl
where_by head body (ty (function result params variadic) is_const) = refl

at_place : (head : CHead) (body : StmtTree) (scope : CScope) → walks.body_at (unit.where_in head body) body scope ≡ walks.body_walk (kept_of head) body scope
at_place head body scope = ap (λ here. walks.body_at here body scope) (where_by head body head.written)

body_by : (head : CHead) (body : StmtTree) (scope : CScope) →
    unit.function_body Check check_gives check_chain check_here check_becomes check_look head body scope ≡ walks.body_walk (kept_of head) body scope
body_by head (Label name inner lines) scope = at_place head (Label name inner lines) scope
body_by head (Case value inner lines) scope = at_place head (Case value inner lines) scope
body_by head (Default inner lines) scope = at_place head (Default inner lines) scope
body_by head (Block items lines) scope = at_place head (Block items lines) scope
body_by head (ExprStmt value lines) scope = at_place head (ExprStmt value lines) scope
body_by head (If condition branch otherwise lines) scope = at_place head (If condition branch otherwise lines) scope
body_by head (Switch on inner lines) scope = at_place head (Switch on inner lines) scope
body_by head (While condition inner lines) scope = at_place head (While condition inner lines) scope
body_by head (Do inner condition lines) scope = at_place head (Do inner condition lines) scope
body_by head (For first second third inner lines) scope = at_place head (For first second third inner lines) scope
body_by head (Goto name lines) scope = at_place head (Goto name lines) scope
body_by head (Continue lines) scope = at_place head (Continue lines) scope
body_by head (Break lines) scope = at_place head (Break lines) scope
body_by head (Return value lines) scope = at_place head (Return value lines) scope

ends_by : (head : CHead) (walked : CChecked CStmt) →
    check_behind walked (λ body. unit.body_ends Check check_gives check_chain check_here check_becomes check_look head body)
    ≡ check_behind walked (λ body. decl_steps.body_ended (kept_of head) body)
ends_by head (stops refusal) = refl
ends_by head (fine body scope) = sym (body_is head body scope)

rest_by : (head : CHead) (body : StmtTree) (scope : CScope) →
    check_behind (unit.function_body Check check_gives check_chain check_here check_becomes check_look head body scope)
    (λ one. unit.body_ends Check check_gives check_chain check_here check_becomes check_look head one)
    ≡ walks.definition_rest body (kept_of head) scope
unfolding check_chain
rest_by head body scope =
    ap (λ walked. check_behind walked (λ one. unit.body_ends Check check_gives check_chain check_here check_becomes check_look head one)) (body_by head body scope)
    ∙ ends_by head (walks.body_walk (kept_of head) body scope)

pub definition_walk_is : (d : DefinitionTree) (before : CScope) →
    walks.definition_walk d before ≡ check_behind (declared.definition_begins d.specs d.declarator before) (λ head. walks.definition_rest d.body head)
unfolding check_chain
definition_walk_is d before =
    definition_is d.specs d.declarator
    (λ head. check_chain _ _ (unit.function_body Check check_gives check_chain check_here check_becomes check_look head d.body)
    (λ one. unit.body_ends Check check_gives check_chain check_here check_becomes check_look head one))
    (λ head. walks.definition_rest d.body head) (λ head scope. rest_by head d.body scope) before

pub definition_fine : (d : DefinitionTree) (before : CScope) (head : CHeadKept) (after : CScope) → declared.definition_begins d.specs d.declarator before ≡ fine head after →
    walks.definition_rest d.body head after ≡ walks.definition_walk d before
definition_fine d before head after e =
    sym (definition_walk_is d before ∙ ap (λ walked. check_behind walked (λ one. walks.definition_rest d.body one)) e)
