-- The two walks over declarations, statements and units agree: one line a form.
use Rattle.std.specs.Prelude.{ℕ, ℤ, Bool, List, [], ◌∷◌, ◌++◌, Option, None, Some, is_some}
use Rattle.cx_core.specs.Trees.{CTy, CExpr, CStmt, CStmtForm, switch, do_while, for_loop, COtherwise, CUnit}
use Rattle.cx_rules.specs.declared.kinds.SpecsPlace.{SpecsPlace}
use Rattle.cx_rules.specs.declared.kinds.SpecsPlace.TheVariants.{ForClause}
use Rattle.cx_rules.specs.Declare.{CBegun, CDeclaring, declaring}
use Rattle.cx_rules.specs.Initial.{CStored}
use Rattle.cx_rules.specs.Lines.{expr_line, specs_line, declarator_line}
use Rattle.cx_rules.specs.Operands.{COperand, value_of}
use Rattle.cx_rules.specs.Rules.{case_value}
use Rattle.cx_rules.specs.Scope.{CScope, CLabels, CThing}
use Rattle.cx_rules.specs.Shapes.{CSpecs, no_specs_yet, base_type, CShape}
use Rattle.cx_rules.specs.Pieces.{Done, CTarget, CFilled}
use Rattle.cx_tree.specs.Trees.{ExprTree, OptionExprTree, no_expr, some_expr, SpecTrees, DeclaratorTree, InitialiserTree, InitDeclaratorTree, DeclTree, ForFirstTree, FirstValue, FirstDeclared, StmtTree, OptionStmtTree, ItemTree, ItemTrees, DefinitionTree, ExternalTree, UnitTree}
use Rattle.cx_rules.specs.Readings.{Seen, seen_gives, seen_chain, seen_here, seen_becomes, seen_look, Check, check_gives, check_chain, check_here, check_becomes, check_look}
use Rattle.cx_rules.specs.UnitWalk as unit
use Rattle.cx_rules.specs.UnitWalk.{CTested, CWithin, CFor, option_value, name_or_none, content_of, with_content_if, case_number, fun_of, CWhere, in_loop, in_switch, labels_of, labels_of_else, labels_of_item, labels_of_items, CMeant, nothing_meant, meant_behind, CStated, as_meant, stmts_of, as_block, literals_since, stated, labelled, declares_tag, declared_meant, with_body, CHead, where_in, tentative_things, tentative_line}
use Rattle.cx_rules.proofs.NodesAgree as nodes
use Rattle.cx_rules.proofs.TreesAgree as trees
use Rattle.cx_rules.proofs.Verdicts.{Agree, on_gives, on_chain, on_here, on_becomes, on_settled, on_changed}

-- ---- the two readings of each piece

abbrev pub c_expr_walk : ExprTree → Check COperand
c_expr_walk = unit.expr_walk Check check_gives check_chain check_here check_becomes check_look

abbrev pub s_expr_walk : ExprTree → Seen COperand
s_expr_walk = unit.expr_walk Seen seen_gives seen_chain seen_here seen_becomes seen_look

abbrev pub c_option_walk : OptionExprTree → Check (Option COperand)
c_option_walk = unit.option_walk Check check_gives check_chain check_here check_becomes check_look

abbrev pub s_option_walk : OptionExprTree → Seen (Option COperand)
s_option_walk = unit.option_walk Seen seen_gives seen_chain seen_here seen_becomes seen_look

abbrev pub c_specs_walk : Bool → CSpecs → SpecTrees → Check CSpecs
c_specs_walk = unit.specs_walk Check check_gives check_chain check_here check_becomes check_look

abbrev pub s_specs_walk : Bool → CSpecs → SpecTrees → Seen CSpecs
s_specs_walk = unit.specs_walk Seen seen_gives seen_chain seen_here seen_becomes seen_look

abbrev pub c_specs_seen : SpecsPlace → ℕ → CSpecs → Check CSpecs
c_specs_seen = unit.specs_seen Check check_gives check_chain check_here check_becomes check_look

abbrev pub s_specs_seen : SpecsPlace → ℕ → CSpecs → Seen CSpecs
s_specs_seen = unit.specs_seen Seen seen_gives seen_chain seen_here seen_becomes seen_look

abbrev pub c_declarator_walk : DeclaratorTree → Check CShape
c_declarator_walk = unit.declarator_walk Check check_gives check_chain check_here check_becomes check_look

abbrev pub s_declarator_walk : DeclaratorTree → Seen CShape
s_declarator_walk = unit.declarator_walk Seen seen_gives seen_chain seen_here seen_becomes seen_look

abbrev pub c_derives_seen : ℕ → CTy → CShape → Check CTy
c_derives_seen = unit.derives_seen Check check_gives check_chain check_here check_becomes check_look

abbrev pub s_derives_seen : ℕ → CTy → CShape → Seen CTy
s_derives_seen = unit.derives_seen Seen seen_gives seen_chain seen_here seen_becomes seen_look

abbrev pub c_initialiser_walk : CTarget → InitialiserTree → Check (List CStored)
c_initialiser_walk = unit.initialiser_walk Check check_gives check_chain check_here check_becomes check_look

abbrev pub s_initialiser_walk : CTarget → InitialiserTree → Seen (List CStored)
s_initialiser_walk = unit.initialiser_walk Seen seen_gives seen_chain seen_here seen_becomes seen_look

abbrev pub c_scope_begins : Check CScope
c_scope_begins = unit.scope_begins Check check_gives check_chain check_here check_becomes check_look

abbrev pub s_scope_begins : Seen CScope
s_scope_begins = unit.scope_begins Seen seen_gives seen_chain seen_here seen_becomes seen_look

abbrev pub c_init_walk : CTarget → Option InitialiserTree → Check (List CStored)
c_init_walk = unit.init_walk Check check_gives check_chain check_here check_becomes check_look

abbrev pub s_init_walk : CTarget → Option InitialiserTree → Seen (List CStored)
s_init_walk = unit.init_walk Seen seen_gives seen_chain seen_here seen_becomes seen_look

abbrev pub c_begins_as : CScope → CDeclaring → CTy → Check CBegun
c_begins_as = unit.begins_as Check check_gives check_chain check_here check_becomes check_look

abbrev pub s_begins_as : CScope → CDeclaring → CTy → Seen CBegun
s_begins_as = unit.begins_as Seen seen_gives seen_chain seen_here seen_becomes seen_look

abbrev pub c_declared_begins : SpecsPlace → CSpecs → List ℕ → ℕ → CTy → Bool → Check CBegun
c_declared_begins = unit.declared_begins Check check_gives check_chain check_here check_becomes check_look

abbrev pub s_declared_begins : SpecsPlace → CSpecs → List ℕ → ℕ → CTy → Bool → Seen CBegun
s_declared_begins = unit.declared_begins Seen seen_gives seen_chain seen_here seen_becomes seen_look

abbrev pub c_ends_as : SpecsPlace → CSpecs → ℕ → CScope → CBegun → Bool → CScope → CFilled → Check CMeant
c_ends_as = unit.ends_as Check check_gives check_chain check_here check_becomes check_look

abbrev pub s_ends_as : SpecsPlace → CSpecs → ℕ → CScope → CBegun → Bool → CScope → CFilled → Seen CMeant
s_ends_as = unit.ends_as Seen seen_gives seen_chain seen_here seen_becomes seen_look

abbrev pub c_declared_ends : SpecsPlace → CSpecs → ℕ → CScope → CBegun → Bool → List CStored → Check CMeant
c_declared_ends = unit.declared_ends Check check_gives check_chain check_here check_becomes check_look

abbrev pub s_declared_ends : SpecsPlace → CSpecs → ℕ → CScope → CBegun → Bool → List CStored → Seen CMeant
s_declared_ends = unit.declared_ends Seen seen_gives seen_chain seen_here seen_becomes seen_look

abbrev pub c_named_walk : SpecsPlace → CSpecs → ℕ → CTy → CShape → Option InitialiserTree → Check CMeant
c_named_walk = unit.named_walk Check check_gives check_chain check_here check_becomes check_look

abbrev pub s_named_walk : SpecsPlace → CSpecs → ℕ → CTy → CShape → Option InitialiserTree → Seen CMeant
s_named_walk = unit.named_walk Seen seen_gives seen_chain seen_here seen_becomes seen_look

abbrev pub c_init_declarator_walk : SpecsPlace → CSpecs → ℕ → InitDeclaratorTree → Check CMeant
c_init_declarator_walk = unit.init_declarator_walk Check check_gives check_chain check_here check_becomes check_look

abbrev pub s_init_declarator_walk : SpecsPlace → CSpecs → ℕ → InitDeclaratorTree → Seen CMeant
s_init_declarator_walk = unit.init_declarator_walk Seen seen_gives seen_chain seen_here seen_becomes seen_look

abbrev pub c_init_declarators_walk : SpecsPlace → CSpecs → ℕ → List InitDeclaratorTree → Check CMeant
c_init_declarators_walk = unit.init_declarators_walk Check check_gives check_chain check_here check_becomes check_look

abbrev pub s_init_declarators_walk : SpecsPlace → CSpecs → ℕ → List InitDeclaratorTree → Seen CMeant
s_init_declarators_walk = unit.init_declarators_walk Seen seen_gives seen_chain seen_here seen_becomes seen_look

abbrev pub c_empty_seen : ℕ → CSpecs → Check CMeant
c_empty_seen = unit.empty_seen Check check_gives check_chain check_here check_becomes check_look

abbrev pub s_empty_seen : ℕ → CSpecs → Seen CMeant
s_empty_seen = unit.empty_seen Seen seen_gives seen_chain seen_here seen_becomes seen_look

abbrev pub c_list_walk : SpecsPlace → CSpecs → ℕ → List InitDeclaratorTree → Check CMeant
c_list_walk = unit.list_walk Check check_gives check_chain check_here check_becomes check_look

abbrev pub s_list_walk : SpecsPlace → CSpecs → ℕ → List InitDeclaratorTree → Seen CMeant
s_list_walk = unit.list_walk Seen seen_gives seen_chain seen_here seen_becomes seen_look

abbrev pub c_decl_walk : SpecsPlace → DeclTree → Check CMeant
c_decl_walk = unit.decl_walk Check check_gives check_chain check_here check_becomes check_look

abbrev pub s_decl_walk : SpecsPlace → DeclTree → Seen CMeant
s_decl_walk = unit.decl_walk Seen seen_gives seen_chain seen_here seen_becomes seen_look

abbrev pub c_label_seen : List ℕ → ℕ → CStated → Check CStated
c_label_seen = unit.label_seen Check check_gives check_chain check_here check_becomes check_look

abbrev pub s_label_seen : List ℕ → ℕ → CStated → Seen CStated
s_label_seen = unit.label_seen Seen seen_gives seen_chain seen_here seen_becomes seen_look

abbrev pub c_case_as : CWhere → ℕ → COperand → CStated → CScope → Option ℤ → Check CStated
c_case_as = unit.case_as Check check_gives check_chain check_here check_becomes check_look

abbrev pub s_case_as : CWhere → ℕ → COperand → CStated → CScope → Option ℤ → Seen CStated
s_case_as = unit.case_as Seen seen_gives seen_chain seen_here seen_becomes seen_look

abbrev pub c_case_by : CWhere → ℕ → COperand → CStated → CScope → Option CTy → Check CStated
c_case_by = unit.case_by Check check_gives check_chain check_here check_becomes check_look

abbrev pub s_case_by : CWhere → ℕ → COperand → CStated → CScope → Option CTy → Seen CStated
s_case_by = unit.case_by Seen seen_gives seen_chain seen_here seen_becomes seen_look

abbrev pub c_case_seen : CWhere → ℕ → COperand → CStated → Check CStated
c_case_seen = unit.case_seen Check check_gives check_chain check_here check_becomes check_look

abbrev pub s_case_seen : CWhere → ℕ → COperand → CStated → Seen CStated
s_case_seen = unit.case_seen Seen seen_gives seen_chain seen_here seen_becomes seen_look

abbrev pub c_default_seen : CWhere → ℕ → CStated → Check CStated
c_default_seen = unit.default_seen Check check_gives check_chain check_here check_becomes check_look

abbrev pub s_default_seen : CWhere → ℕ → CStated → Seen CStated
s_default_seen = unit.default_seen Seen seen_gives seen_chain seen_here seen_becomes seen_look

abbrev pub c_null_seen : ℕ → Check CStated
c_null_seen = unit.null_seen Check check_gives check_chain check_here check_becomes check_look

abbrev pub s_null_seen : ℕ → Seen CStated
s_null_seen = unit.null_seen Seen seen_gives seen_chain seen_here seen_becomes seen_look

abbrev pub c_dropped_seen : ℕ → COperand → Check CExpr
c_dropped_seen = unit.dropped_seen Check check_gives check_chain check_here check_becomes check_look

abbrev pub s_dropped_seen : ℕ → COperand → Seen CExpr
s_dropped_seen = unit.dropped_seen Seen seen_gives seen_chain seen_here seen_becomes seen_look

abbrev pub c_dropped_walk : ExprTree → Check CExpr
c_dropped_walk = unit.dropped_walk Check check_gives check_chain check_here check_becomes check_look

abbrev pub s_dropped_walk : ExprTree → Seen CExpr
s_dropped_walk = unit.dropped_walk Seen seen_gives seen_chain seen_here seen_becomes seen_look

abbrev pub c_dropped_option : OptionExprTree → Check (Option CExpr)
c_dropped_option = unit.dropped_option Check check_gives check_chain check_here check_becomes check_look

abbrev pub s_dropped_option : OptionExprTree → Seen (Option CExpr)
s_dropped_option = unit.dropped_option Seen seen_gives seen_chain seen_here seen_becomes seen_look

abbrev pub c_expression_ends : CScope → ℕ → CExpr → Check CStated
c_expression_ends = unit.expression_ends Check check_gives check_chain check_here check_becomes check_look

abbrev pub s_expression_ends : CScope → ℕ → CExpr → Seen CStated
s_expression_ends = unit.expression_ends Seen seen_gives seen_chain seen_here seen_becomes seen_look

abbrev pub c_expression_walk : ExprTree → Check CStated
c_expression_walk = unit.expression_walk Check check_gives check_chain check_here check_becomes check_look

abbrev pub s_expression_walk : ExprTree → Seen CStated
s_expression_walk = unit.expression_walk Seen seen_gives seen_chain seen_here seen_becomes seen_look

abbrev pub c_controls_seen : ℕ → COperand → Check Done
c_controls_seen = unit.controls_seen Check check_gives check_chain check_here check_becomes check_look

abbrev pub s_controls_seen : ℕ → COperand → Seen Done
s_controls_seen = unit.controls_seen Seen seen_gives seen_chain seen_here seen_becomes seen_look

abbrev pub c_whole_ends : CScope → ℕ → CStmtForm → List ℕ → Check CStated
c_whole_ends = unit.whole_ends Check check_gives check_chain check_here check_becomes check_look

abbrev pub s_whole_ends : CScope → ℕ → CStmtForm → List ℕ → Seen CStated
s_whole_ends = unit.whole_ends Seen seen_gives seen_chain seen_here seen_becomes seen_look

abbrev pub c_begun_with : CScope → COperand → Check CTested
c_begun_with = unit.begun_with Check check_gives check_chain check_here check_becomes check_look

abbrev pub s_begun_with : CScope → COperand → Seen CTested
s_begun_with = unit.begun_with Seen seen_gives seen_chain seen_here seen_becomes seen_look

abbrev pub c_tested_begins : ExprTree → Check CTested
c_tested_begins = unit.tested_begins Check check_gives check_chain check_here check_becomes check_look

abbrev pub s_tested_begins : ExprTree → Seen CTested
s_tested_begins = unit.tested_begins Seen seen_gives seen_chain seen_here seen_becomes seen_look

abbrev pub c_tested_ends : CTested → ℕ → CStmtForm → Check CStated
c_tested_ends = unit.tested_ends Check check_gives check_chain check_here check_becomes check_look

abbrev pub s_tested_ends : CTested → ℕ → CStmtForm → Seen CStated
s_tested_ends = unit.tested_ends Seen seen_gives seen_chain seen_here seen_becomes seen_look

abbrev pub c_switch_begins : CWhere → COperand → Check CWithin
c_switch_begins = unit.switch_begins Check check_gives check_chain check_here check_becomes check_look

abbrev pub s_switch_begins : CWhere → COperand → Seen CWithin
s_switch_begins = unit.switch_begins Seen seen_gives seen_chain seen_here seen_becomes seen_look

abbrev pub c_switch_seen : ℕ → CLabels → COperand → Check CExpr
c_switch_seen = unit.switch_seen Check check_gives check_chain check_here check_becomes check_look

abbrev pub s_switch_seen : ℕ → CLabels → COperand → Seen CExpr
s_switch_seen = unit.switch_seen Seen seen_gives seen_chain seen_here seen_becomes seen_look

abbrev pub c_switch_ends : CTested → ℕ → CLabels → CStmt → Check CStated
c_switch_ends = unit.switch_ends Check check_gives check_chain check_here check_becomes check_look

abbrev pub s_switch_ends : CTested → ℕ → CLabels → CStmt → Seen CStated
s_switch_ends = unit.switch_ends Seen seen_gives seen_chain seen_here seen_becomes seen_look

abbrev pub c_do_ends : CScope → ℕ → ExprTree → CStmt → Check CStated
c_do_ends = unit.do_ends Check check_gives check_chain check_here check_becomes check_look

abbrev pub s_do_ends : CScope → ℕ → ExprTree → CStmt → Seen CStated
s_do_ends = unit.do_ends Seen seen_gives seen_chain seen_here seen_becomes seen_look

abbrev pub c_first_walk : ForFirstTree → Check CMeant
c_first_walk = unit.first_walk Check check_gives check_chain check_here check_becomes check_look

abbrev pub s_first_walk : ForFirstTree → Seen CMeant
s_first_walk = unit.first_walk Seen seen_gives seen_chain seen_here seen_becomes seen_look

abbrev pub c_for_with : CScope → CScope → CMeant → Option COperand → Option CExpr → Check CFor
c_for_with = unit.for_with Check check_gives check_chain check_here check_becomes check_look

abbrev pub s_for_with : CScope → CScope → CMeant → Option COperand → Option CExpr → Seen CFor
s_for_with = unit.for_with Seen seen_gives seen_chain seen_here seen_becomes seen_look

abbrev pub c_for_clauses : CScope → CMeant → OptionExprTree → OptionExprTree → Check CFor
c_for_clauses = unit.for_clauses Check check_gives check_chain check_here check_becomes check_look

abbrev pub s_for_clauses : CScope → CMeant → OptionExprTree → OptionExprTree → Seen CFor
s_for_clauses = unit.for_clauses Seen seen_gives seen_chain seen_here seen_becomes seen_look

abbrev pub c_for_begins : ForFirstTree → OptionExprTree → OptionExprTree → Check CFor
c_for_begins = unit.for_begins Check check_gives check_chain check_here check_becomes check_look

abbrev pub s_for_begins : ForFirstTree → OptionExprTree → OptionExprTree → Seen CFor
s_for_begins = unit.for_begins Seen seen_gives seen_chain seen_here seen_becomes seen_look

abbrev pub c_controls_option : ℕ → Option COperand → Check Done
c_controls_option = unit.controls_option Check check_gives check_chain check_here check_becomes check_look

abbrev pub s_controls_option : ℕ → Option COperand → Seen Done
s_controls_option = unit.controls_option Seen seen_gives seen_chain seen_here seen_becomes seen_look

abbrev pub c_for_ends : CFor → ℕ → CStmt → Check CStated
c_for_ends = unit.for_ends Check check_gives check_chain check_here check_becomes check_look

abbrev pub s_for_ends : CFor → ℕ → CStmt → Seen CStated
s_for_ends = unit.for_ends Seen seen_gives seen_chain seen_here seen_becomes seen_look

abbrev pub c_goto_seen : CWhere → List ℕ → ℕ → Check CStated
c_goto_seen = unit.goto_seen Check check_gives check_chain check_here check_becomes check_look

abbrev pub s_goto_seen : CWhere → List ℕ → ℕ → Seen CStated
s_goto_seen = unit.goto_seen Seen seen_gives seen_chain seen_here seen_becomes seen_look

abbrev pub c_jump_seen : ℕ → Bool → CStmtForm → Check CStated
c_jump_seen = unit.jump_seen Check check_gives check_chain check_here check_becomes check_look

abbrev pub s_jump_seen : ℕ → Bool → CStmtForm → Seen CStated
s_jump_seen = unit.jump_seen Seen seen_gives seen_chain seen_here seen_becomes seen_look

abbrev pub c_return_as : CWhere → CScope → ℕ → CScope → Option COperand → Check CStated
c_return_as = unit.return_as Check check_gives check_chain check_here check_becomes check_look

abbrev pub s_return_as : CWhere → CScope → ℕ → CScope → Option COperand → Seen CStated
s_return_as = unit.return_as Seen seen_gives seen_chain seen_here seen_becomes seen_look

abbrev pub c_return_seen : CWhere → CScope → ℕ → Option COperand → Check CStated
c_return_seen = unit.return_seen Check check_gives check_chain check_here check_becomes check_look

abbrev pub s_return_seen : CWhere → CScope → ℕ → Option COperand → Seen CStated
s_return_seen = unit.return_seen Seen seen_gives seen_chain seen_here seen_becomes seen_look

abbrev pub c_stmt_walk : CWhere → StmtTree → Check CStated
c_stmt_walk = unit.stmt_walk Check check_gives check_chain check_here check_becomes check_look

abbrev pub s_stmt_walk : CWhere → StmtTree → Seen CStated
s_stmt_walk = unit.stmt_walk Seen seen_gives seen_chain seen_here seen_becomes seen_look

abbrev pub c_else_walk : CWhere → OptionStmtTree → Check COtherwise
c_else_walk = unit.else_walk Check check_gives check_chain check_here check_becomes check_look

abbrev pub s_else_walk : CWhere → OptionStmtTree → Seen COtherwise
s_else_walk = unit.else_walk Seen seen_gives seen_chain seen_here seen_becomes seen_look

abbrev pub c_item_walk : CWhere → ItemTree → Check CMeant
c_item_walk = unit.item_walk Check check_gives check_chain check_here check_becomes check_look

abbrev pub s_item_walk : CWhere → ItemTree → Seen CMeant
s_item_walk = unit.item_walk Seen seen_gives seen_chain seen_here seen_becomes seen_look

abbrev pub c_items_walk : CWhere → ItemTrees → Check CMeant
c_items_walk = unit.items_walk Check check_gives check_chain check_here check_becomes check_look

abbrev pub s_items_walk : CWhere → ItemTrees → Seen CMeant
s_items_walk = unit.items_walk Seen seen_gives seen_chain seen_here seen_becomes seen_look

abbrev pub c_head_as : CSpecs → ℕ → CShape → CTy → CScope → CDeclaring → Check CHead
c_head_as = unit.head_as Check check_gives check_chain check_here check_becomes check_look

abbrev pub s_head_as : CSpecs → ℕ → CShape → CTy → CScope → CDeclaring → Seen CHead
s_head_as = unit.head_as Seen seen_gives seen_chain seen_here seen_becomes seen_look

abbrev pub c_head_seen : CSpecs → ℕ → CShape → CTy → Check CHead
c_head_seen = unit.head_seen Check check_gives check_chain check_here check_becomes check_look

abbrev pub s_head_seen : CSpecs → ℕ → CShape → CTy → Seen CHead
s_head_seen = unit.head_seen Seen seen_gives seen_chain seen_here seen_becomes seen_look

abbrev pub c_body_ends : CHead → CStmt → Check Done
c_body_ends = unit.body_ends Check check_gives check_chain check_here check_becomes check_look

abbrev pub s_body_ends : CHead → CStmt → Seen Done
s_body_ends = unit.body_ends Seen seen_gives seen_chain seen_here seen_becomes seen_look

abbrev pub c_function_body : CHead → StmtTree → Check CStmt
c_function_body = unit.function_body Check check_gives check_chain check_here check_becomes check_look

abbrev pub s_function_body : CHead → StmtTree → Seen CStmt
s_function_body = unit.function_body Seen seen_gives seen_chain seen_here seen_becomes seen_look

abbrev pub c_head_walk : CSpecs → ℕ → DeclaratorTree → Check CHead
c_head_walk = unit.head_walk Check check_gives check_chain check_here check_becomes check_look

abbrev pub s_head_walk : CSpecs → ℕ → DeclaratorTree → Seen CHead
s_head_walk = unit.head_walk Seen seen_gives seen_chain seen_here seen_becomes seen_look

abbrev pub c_definition_walk : DefinitionTree → Check Done
c_definition_walk = unit.definition_walk Check check_gives check_chain check_here check_becomes check_look

abbrev pub s_definition_walk : DefinitionTree → Seen Done
s_definition_walk = unit.definition_walk Seen seen_gives seen_chain seen_here seen_becomes seen_look

abbrev pub c_external_walk : ExternalTree → Check Done
c_external_walk = unit.external_walk Check check_gives check_chain check_here check_becomes check_look

abbrev pub s_external_walk : ExternalTree → Seen Done
s_external_walk = unit.external_walk Seen seen_gives seen_chain seen_here seen_becomes seen_look

abbrev pub c_externals_walk : List ExternalTree → Check Done
c_externals_walk = unit.externals_walk Check check_gives check_chain check_here check_becomes check_look

abbrev pub s_externals_walk : List ExternalTree → Seen Done
s_externals_walk = unit.externals_walk Seen seen_gives seen_chain seen_here seen_becomes seen_look

abbrev pub c_tentative_seen : CThing → Check Done
c_tentative_seen = unit.tentative_seen Check check_gives check_chain check_here check_becomes check_look

abbrev pub s_tentative_seen : CThing → Seen Done
s_tentative_seen = unit.tentative_seen Seen seen_gives seen_chain seen_here seen_becomes seen_look

abbrev pub c_tentatives_seen : List CThing → Check Done
c_tentatives_seen = unit.tentatives_seen Check check_gives check_chain check_here check_becomes check_look

abbrev pub s_tentatives_seen : List CThing → Seen Done
s_tentatives_seen = unit.tentatives_seen Seen seen_gives seen_chain seen_here seen_becomes seen_look

abbrev pub c_unit_ends : Check CUnit
c_unit_ends = unit.unit_ends Check check_gives check_chain check_here check_becomes check_look

abbrev pub s_unit_ends : Seen CUnit
s_unit_ends = unit.unit_ends Seen seen_gives seen_chain seen_here seen_becomes seen_look

abbrev pub c_unit_walk : UnitTree → Check CUnit
c_unit_walk = unit.unit_walk Check check_gives check_chain check_here check_becomes check_look

abbrev pub s_unit_walk : UnitTree → Seen CUnit
s_unit_walk = unit.unit_walk Seen seen_gives seen_chain seen_here seen_becomes seen_look

-- ---- they agree

pub on_expr_walk : (x1 : ExprTree) → Agree COperand (c_expr_walk x1) (s_expr_walk x1)
on_expr_walk x1 = trees.on_expr_walk x1

pub on_option_walk : (x1 : OptionExprTree) → Agree (Option COperand) (c_option_walk x1) (s_option_walk x1)
on_option_walk x1 = trees.on_option_walk x1

pub on_specs_walk : (x1 : Bool) (x2 : CSpecs) (x3 : SpecTrees) → Agree CSpecs (c_specs_walk x1 x2 x3) (s_specs_walk x1 x2 x3)
on_specs_walk x1 x2 x3 = trees.on_specs_walk x1 x2 x3

pub on_specs_seen : (x1 : SpecsPlace) (x2 : ℕ) (x3 : CSpecs) → Agree CSpecs (c_specs_seen x1 x2 x3) (s_specs_seen x1 x2 x3)
on_specs_seen x1 x2 x3 = nodes.on_specs_seen x1 x2 x3

pub on_declarator_walk : (x1 : DeclaratorTree) → Agree CShape (c_declarator_walk x1) (s_declarator_walk x1)
on_declarator_walk x1 = trees.on_declarator_walk x1

pub on_derives_seen : (x1 : ℕ) (x2 : CTy) (x3 : CShape) → Agree CTy (c_derives_seen x1 x2 x3) (s_derives_seen x1 x2 x3)
on_derives_seen x1 x2 x3 = nodes.on_derives_seen x1 x2 x3

pub on_initialiser_walk : (x1 : CTarget) (x2 : InitialiserTree) → Agree (List CStored) (c_initialiser_walk x1 x2) (s_initialiser_walk x1 x2)
on_initialiser_walk x1 x2 = trees.on_initialiser_walk x1 x2

pub on_scope_begins : Agree CScope c_scope_begins s_scope_begins
on_scope_begins = (on_chain _ _ _ _ _ _ on_here (λ scope. (on_chain _ _ _ _ _ _ (on_becomes _) (λ _. (on_gives _ _)))))

pub on_init_walk : (x1 : CTarget) (x2 : Option InitialiserTree) → Agree (List CStored) (c_init_walk x1 x2) (s_init_walk x1 x2)
on_init_walk target None = (on_gives _ _)
on_init_walk target (Some init) = (on_initialiser_walk target init)

pub on_begins_as : (x1 : CScope) (x2 : CDeclaring) (x3 : CTy) → Agree CBegun (c_begins_as x1 x2 x3) (s_begins_as x1 x2 x3)
on_begins_as scope one written = (on_chain _ _ _ _ _ _ (on_becomes _) (λ _. (on_gives _ _)))

pub on_declared_begins : (x1 : SpecsPlace) (x2 : CSpecs) (x3 : List ℕ) (x4 : ℕ) (x5 : CTy) (x6 : Bool) → Agree CBegun (c_declared_begins x1 x2 x3 x4 x5 x6) (s_declared_begins x1 x2 x3 x4 x5 x6)
on_declared_begins place specs name line type has_init = (on_chain _ _ _ _ _ _ on_here (λ scope. (on_begins_as scope (declaring scope place specs name line type has_init) type)))

pub on_ends_as : (x1 : SpecsPlace) (x2 : CSpecs) (x3 : ℕ) (x4 : CScope) (x5 : CBegun) (x6 : Bool) (x7 : CScope) (x8 : CFilled) → Agree CMeant (c_ends_as x1 x2 x3 x4 x5 x6 x7 x8) (s_ends_as x1 x2 x3 x4 x5 x6 x7 x8)
on_ends_as place specs line before begun has_init scope filled = (on_changed _ _ _ _ _ _)

pub on_declared_ends : (x1 : SpecsPlace) (x2 : CSpecs) (x3 : ℕ) (x4 : CScope) (x5 : CBegun) (x6 : Bool) (x7 : List CStored) → Agree CMeant (c_declared_ends x1 x2 x3 x4 x5 x6 x7) (s_declared_ends x1 x2 x3 x4 x5 x6 x7)
on_declared_ends place specs line before begun has_init stored = (on_chain _ _ _ _ _ _ on_here (λ scope. (on_ends_as place specs line before begun has_init scope (content_of has_init scope.types begun stored))))

pub on_named_walk : (x1 : SpecsPlace) (x2 : CSpecs) (x3 : ℕ) (x4 : CTy) (x5 : CShape) (x6 : Option InitialiserTree) → Agree CMeant (c_named_walk x1 x2 x3 x4 x5 x6) (s_named_walk x1 x2 x3 x4 x5 x6)
on_named_walk place specs line type shape init = (on_chain _ _ _ _ _ _ on_here (λ before. (on_chain _ _ _ _ _ _ (on_declared_begins place specs (name_or_none shape.name) line type (is_some init)) (λ begun. (on_chain _ _ _ _ _ _ (on_init_walk begun.target init) (λ stored. (on_declared_ends place specs line before begun (is_some init) stored)))))))

pub on_init_declarator_walk : (x1 : SpecsPlace) (x2 : CSpecs) (x3 : ℕ) (x4 : InitDeclaratorTree) → Agree CMeant (c_init_declarator_walk x1 x2 x3 x4) (s_init_declarator_walk x1 x2 x3 x4)
on_init_declarator_walk place specs missing d = (on_chain _ _ _ _ _ _ (on_declarator_walk d.declarator) (λ shape. (on_chain _ _ _ _ _ _ (on_derives_seen (declarator_line missing d.declarator) (base_type specs) shape) (λ type. (on_named_walk place specs (declarator_line missing d.declarator) type shape d.init)))))

pub on_init_declarators_walk : (x1 : SpecsPlace) (x2 : CSpecs) (x3 : ℕ) (x4 : List InitDeclaratorTree) → Agree CMeant (c_init_declarators_walk x1 x2 x3 x4) (s_init_declarators_walk x1 x2 x3 x4)
on_init_declarators_walk place specs missing [] = (on_gives _ _)
on_init_declarators_walk place specs missing (d ∷ ds) = (on_chain _ _ _ _ _ _ (on_init_declarator_walk place specs missing d) (λ one. (on_chain _ _ _ _ _ _ (on_init_declarators_walk place specs missing ds) (λ others. (on_gives _ _)))))

pub on_empty_seen : (x1 : ℕ) (x2 : CSpecs) → Agree CMeant (c_empty_seen x1 x2) (s_empty_seen x1 x2)
on_empty_seen line specs = (on_chain _ _ _ _ _ _ on_here (λ scope. (on_settled _ _ _ _ _)))

pub on_list_walk : (x1 : SpecsPlace) (x2 : CSpecs) (x3 : ℕ) (x4 : List InitDeclaratorTree) → Agree CMeant (c_list_walk x1 x2 x3 x4) (s_list_walk x1 x2 x3 x4)
on_list_walk place specs line [] = (on_empty_seen line specs)
on_list_walk place specs line (d ∷ ds) = (on_init_declarators_walk place specs line (d ∷ ds))

pub on_decl_walk : (x1 : SpecsPlace) (x2 : DeclTree) → Agree CMeant (c_decl_walk x1 x2) (s_decl_walk x1 x2)
on_decl_walk place decl = (on_chain _ _ _ _ _ _ (on_specs_walk (declares_tag decl) no_specs_yet decl.specs) (λ all. (on_chain _ _ _ _ _ _ (on_specs_seen place (specs_line decl.specs) all) (λ _. (on_list_walk place all (specs_line decl.specs) decl.list)))))

pub on_label_seen : (x1 : List ℕ) (x2 : ℕ) (x3 : CStated) → Agree CStated (c_label_seen x1 x2 x3) (s_label_seen x1 x2 x3)
on_label_seen name line inner = (on_chain _ _ _ _ _ _ on_here (λ scope. (on_changed _ _ _ _ _ _)))

pub on_case_as : (x1 : CWhere) (x2 : ℕ) (x3 : COperand) (x4 : CStated) (x5 : CScope) (x6 : Option ℤ) → Agree CStated (c_case_as x1 x2 x3 x4 x5 x6) (s_case_as x1 x2 x3 x4 x5 x6)
on_case_as where_is line value inner scope number = (on_changed _ _ _ _ _ _)

pub on_case_by : (x1 : CWhere) (x2 : ℕ) (x3 : COperand) (x4 : CStated) (x5 : CScope) (x6 : Option CTy) → Agree CStated (c_case_by x1 x2 x3 x4 x5 x6) (s_case_by x1 x2 x3 x4 x5 x6)
on_case_by where_is line value inner scope None = (on_case_as where_is line value inner scope None)
on_case_by where_is line value inner scope (Some type) = (on_case_as where_is line value inner scope (case_value scope.types type value))

pub on_case_seen : (x1 : CWhere) (x2 : ℕ) (x3 : COperand) (x4 : CStated) → Agree CStated (c_case_seen x1 x2 x3 x4) (s_case_seen x1 x2 x3 x4)
on_case_seen where_is line value inner = (on_chain _ _ _ _ _ _ on_here (λ scope. (on_case_by where_is line value inner scope where_is.in_switch)))

pub on_default_seen : (x1 : CWhere) (x2 : ℕ) (x3 : CStated) → Agree CStated (c_default_seen x1 x2 x3) (s_default_seen x1 x2 x3)
on_default_seen where_is line inner = (on_chain _ _ _ _ _ _ on_here (λ scope. (on_changed _ _ _ _ _ _)))

pub on_null_seen : (x1 : ℕ) → Agree CStated (c_null_seen x1) (s_null_seen x1)
on_null_seen line = (on_chain _ _ _ _ _ _ on_here (λ scope. (on_gives _ _)))

pub on_dropped_seen : (x1 : ℕ) (x2 : COperand) → Agree CExpr (c_dropped_seen x1 x2) (s_dropped_seen x1 x2)
on_dropped_seen line value = (on_chain _ _ _ _ _ _ on_here (λ scope. (on_settled _ _ _ _ _)))

pub on_dropped_walk : (x1 : ExprTree) → Agree CExpr (c_dropped_walk x1) (s_dropped_walk x1)
on_dropped_walk value = (on_chain _ _ _ _ _ _ (on_expr_walk value) (λ one. (on_dropped_seen (expr_line value) one)))

pub on_dropped_option : (x1 : OptionExprTree) → Agree (Option CExpr) (c_dropped_option x1) (s_dropped_option x1)
on_dropped_option no_expr = (on_gives _ _)
on_dropped_option (some_expr value) = (on_chain _ _ _ _ _ _ (on_dropped_walk value) (λ one. (on_gives _ _)))

pub on_expression_ends : (x1 : CScope) (x2 : ℕ) (x3 : CExpr) → Agree CStated (c_expression_ends x1 x2 x3) (s_expression_ends x1 x2 x3)
on_expression_ends before line value = (on_chain _ _ _ _ _ _ on_here (λ scope. (on_gives _ _)))

pub on_expression_walk : (x1 : ExprTree) → Agree CStated (c_expression_walk x1) (s_expression_walk x1)
on_expression_walk value = (on_chain _ _ _ _ _ _ on_here (λ before. (on_chain _ _ _ _ _ _ (on_dropped_walk value) (λ one. (on_expression_ends before (expr_line value) one)))))

pub on_controls_seen : (x1 : ℕ) (x2 : COperand) → Agree Done (c_controls_seen x1 x2) (s_controls_seen x1 x2)
on_controls_seen line value = (on_chain _ _ _ _ _ _ on_here (λ scope. (on_settled _ _ _ _ _)))

pub on_whole_ends : (x1 : CScope) (x2 : ℕ) (x3 : CStmtForm) (x4 : List ℕ) → Agree CStated (c_whole_ends x1 x2 x3 x4) (s_whole_ends x1 x2 x3 x4)
on_whole_ends before line form objects = (on_chain _ _ _ _ _ _ on_here (λ scope. (on_chain _ _ _ _ _ _ (on_becomes _) (λ _. (on_gives _ _)))))

pub on_begun_with : (x1 : CScope) (x2 : COperand) → Agree CTested (c_begun_with x1 x2) (s_begun_with x1 x2)
on_begun_with before test = (on_chain _ _ _ _ _ _ on_here (λ scope. (on_gives _ _)))

pub on_tested_begins : (x1 : ExprTree) → Agree CTested (c_tested_begins x1) (s_tested_begins x1)
on_tested_begins condition = (on_chain _ _ _ _ _ _ on_scope_begins (λ before. (on_chain _ _ _ _ _ _ (on_expr_walk condition) (λ test. (on_begun_with before test)))))

pub on_tested_ends : (x1 : CTested) (x2 : ℕ) (x3 : CStmtForm) → Agree CStated (c_tested_ends x1 x2 x3) (s_tested_ends x1 x2 x3)
on_tested_ends begun line form = (on_chain _ _ _ _ _ _ (on_controls_seen line begun.test) (λ _. (on_whole_ends begun.before line form begun.literals)))

pub on_switch_begins : (x1 : CWhere) (x2 : COperand) → Agree CWithin (c_switch_begins x1 x2) (s_switch_begins x1 x2)
on_switch_begins where_is value = (on_chain _ _ _ _ _ _ on_here (λ scope. (on_chain _ _ _ _ _ _ (on_becomes _) (λ _. (on_gives _ _)))))

pub on_switch_seen : (x1 : ℕ) (x2 : CLabels) (x3 : COperand) → Agree CExpr (c_switch_seen x1 x2 x3) (s_switch_seen x1 x2 x3)
on_switch_seen line before value = (on_chain _ _ _ _ _ _ on_here (λ scope. (on_changed _ _ _ _ _ _)))

pub on_switch_ends : (x1 : CTested) (x2 : ℕ) (x3 : CLabels) (x4 : CStmt) → Agree CStated (c_switch_ends x1 x2 x3 x4) (s_switch_ends x1 x2 x3 x4)
on_switch_ends begun line labels body = (on_chain _ _ _ _ _ _ (on_switch_seen line labels begun.test) (λ value. (on_whole_ends begun.before line (switch value body) begun.literals)))

pub on_do_ends : (x1 : CScope) (x2 : ℕ) (x3 : ExprTree) (x4 : CStmt) → Agree CStated (c_do_ends x1 x2 x3 x4) (s_do_ends x1 x2 x3 x4)
on_do_ends before line condition body = (on_chain _ _ _ _ _ _ on_here (λ behind. (on_chain _ _ _ _ _ _ (on_expr_walk condition) (λ test. (on_chain _ _ _ _ _ _ (on_begun_with behind test) (λ begun. (on_chain _ _ _ _ _ _ (on_controls_seen line test) (λ _. (on_whole_ends before line (do_while body (value_of test)) begun.literals)))))))))

pub on_first_walk : (x1 : ForFirstTree) → Agree CMeant (c_first_walk x1) (s_first_walk x1)
on_first_walk (FirstValue no_expr) = (on_gives _ _)
on_first_walk (FirstValue (some_expr value)) = (on_chain _ _ _ _ _ _ (on_expression_walk value) (λ one. (on_gives _ _)))
on_first_walk (FirstDeclared decl) = (on_decl_walk ForClause decl)

pub on_for_with : (x1 : CScope) (x2 : CScope) (x3 : CMeant) (x4 : Option COperand) (x5 : Option CExpr) → Agree CFor (c_for_with x1 x2 x3 x4 x5) (s_for_with x1 x2 x3 x4 x5)
on_for_with before behind first test next = (on_chain _ _ _ _ _ _ on_here (λ scope. (on_gives _ _)))

pub on_for_clauses : (x1 : CScope) (x2 : CMeant) (x3 : OptionExprTree) (x4 : OptionExprTree) → Agree CFor (c_for_clauses x1 x2 x3 x4) (s_for_clauses x1 x2 x3 x4)
on_for_clauses before first second third = (on_chain _ _ _ _ _ _ on_here (λ behind. (on_chain _ _ _ _ _ _ (on_option_walk second) (λ test. (on_chain _ _ _ _ _ _ (on_dropped_option third) (λ next. (on_for_with before behind first test next)))))))

pub on_for_begins : (x1 : ForFirstTree) (x2 : OptionExprTree) (x3 : OptionExprTree) → Agree CFor (c_for_begins x1 x2 x3) (s_for_begins x1 x2 x3)
on_for_begins first second third = (on_chain _ _ _ _ _ _ on_scope_begins (λ before. (on_chain _ _ _ _ _ _ (on_first_walk first) (λ begun. (on_for_clauses before begun second third)))))

pub on_controls_option : (x1 : ℕ) (x2 : Option COperand) → Agree Done (c_controls_option x1 x2) (s_controls_option x1 x2)
on_controls_option line None = (on_gives _ _)
on_controls_option line (Some value) = (on_controls_seen line value)

pub on_for_ends : (x1 : CFor) (x2 : ℕ) (x3 : CStmt) → Agree CStated (c_for_ends x1 x2 x3) (s_for_ends x1 x2 x3)
on_for_ends begun line body = (on_chain _ _ _ _ _ _ (on_controls_option line begun.test) (λ _. (on_whole_ends begun.before line (for_loop (stmts_of begun.first.stmts) (option_value begun.test) begun.next body) (begun.first.objects ++ begun.literals))))

pub on_goto_seen : (x1 : CWhere) (x2 : List ℕ) (x3 : ℕ) → Agree CStated (c_goto_seen x1 x2 x3) (s_goto_seen x1 x2 x3)
on_goto_seen where_is name line = (on_chain _ _ _ _ _ _ on_here (λ scope. (on_settled _ _ _ _ _)))

pub on_jump_seen : (x1 : ℕ) (x2 : Bool) (x3 : CStmtForm) → Agree CStated (c_jump_seen x1 x2 x3) (s_jump_seen x1 x2 x3)
on_jump_seen line is_inside form = (on_chain _ _ _ _ _ _ on_here (λ scope. (on_settled _ _ _ _ _)))

pub on_return_as : (x1 : CWhere) (x2 : CScope) (x3 : ℕ) (x4 : CScope) (x5 : Option COperand) → Agree CStated (c_return_as x1 x2 x3 x4 x5) (s_return_as x1 x2 x3 x4 x5)
on_return_as where_is before line scope None = (on_settled _ _ _ _ _)
on_return_as where_is before line scope (Some value) = (on_settled _ _ _ _ _)

pub on_return_seen : (x1 : CWhere) (x2 : CScope) (x3 : ℕ) (x4 : Option COperand) → Agree CStated (c_return_seen x1 x2 x3 x4) (s_return_seen x1 x2 x3 x4)
on_return_seen where_is before line value = (on_chain _ _ _ _ _ _ on_here (λ scope. (on_return_as where_is before line scope value)))
