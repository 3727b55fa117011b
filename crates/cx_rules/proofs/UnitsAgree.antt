-- The two walks over declarations, statements and units agree: one line a form.
use Rattle.std.specs.Prelude.{ℕ, true, false, ◌||◌, List, [], ◌∷◌, is_some}
use Rattle.cx_core.specs.Trees.{CTy, CStmt, block, if_then, while, continue, break, COtherwise, CUnit}
use Rattle.cx_rules.specs.declared.kinds.SpecsPlace.TheVariants.{File, Definition, Block as InBlock}
use Rattle.cx_rules.specs.Declare.{CDeclaring, declaring}
use Rattle.cx_rules.specs.Lines.{own_line, specs_line, declarator_line}
use Rattle.cx_rules.specs.Operands.{value_of}
use Rattle.cx_rules.specs.Scope.{CScope, CThing}
use Rattle.cx_rules.specs.Shapes.{CSpecs, no_specs_yet, base_type, CShape}
use Rattle.cx_rules.specs.Pieces.{Done}
use Rattle.cx_tree.specs.Trees.{ExprTree, OptionExprTree, no_expr, some_expr, DeclaratorTree, DeclTree, ForFirstTree, StmtTree, Label, Case, Default, Block, ExprStmt, If, Switch, While, Do, For, Goto, Continue, Break, Return, OptionStmtTree, no_stmt, some_stmt, ItemTree, Statement, Declared, ItemTrees, no_items, more_items, DefinitionTree, ExternalTree, Defined, Declaration, UnitTree}
use Rattle.cx_rules.specs.UnitWalk.{name_or_none, CWhere, in_loop, CMeant, CStated, stmts_of, CHead, where_in, tentative_things}
use Rattle.cx_rules.specs.Types.{defined_type}
use Rattle.cx_rules.proofs.Verdicts.{Agree, on_gives, on_chain, on_here, on_becomes, on_settled, on_changed, on_scoped}
use Rattle.cx_rules.proofs.UnitNodesAgree.{c_stmt_walk, s_stmt_walk, c_else_walk, s_else_walk, c_item_walk, s_item_walk, c_items_walk, s_items_walk, c_head_as, s_head_as, c_head_seen, s_head_seen, c_body_ends, s_body_ends, c_function_body, s_function_body, c_head_walk, s_head_walk, c_definition_walk, s_definition_walk, c_external_walk, s_external_walk, c_externals_walk, s_externals_walk, c_tentative_seen, s_tentative_seen, c_tentatives_seen, s_tentatives_seen, c_unit_ends, s_unit_ends, c_unit_walk, s_unit_walk, on_expr_walk, on_option_walk, on_specs_walk, on_specs_seen, on_declarator_walk, on_derives_seen, on_scope_begins, on_decl_walk, on_label_seen, on_case_seen, on_default_seen, on_null_seen, on_expression_walk, on_whole_ends, on_tested_begins, on_tested_ends, on_switch_begins, on_switch_ends, on_do_ends, on_for_begins, on_for_ends, on_goto_seen, on_jump_seen, on_return_seen}

stmt_walk_1 : (where_is : CWhere) (name : List ℕ) (inner : StmtTree) (lines : List ℕ) (h1 : (y1 : CWhere) → Agree CStated (c_stmt_walk y1 inner) (s_stmt_walk y1 inner)) → Agree CStated (c_stmt_walk where_is (Label name inner lines)) (s_stmt_walk where_is (Label name inner lines))
stmt_walk_1 where_is name inner lines h1 = (on_chain _ _ _ _ _ _ (h1 where_is) (λ one. (on_label_seen name (own_line lines) one)))

stmt_walk_2 : (where_is : CWhere) (value : ExprTree) (inner : StmtTree) (lines : List ℕ) (h1 : (y1 : CWhere) → Agree CStated (c_stmt_walk y1 inner) (s_stmt_walk y1 inner)) → Agree CStated (c_stmt_walk where_is (Case value inner lines)) (s_stmt_walk where_is (Case value inner lines))
stmt_walk_2 where_is value inner lines h1 = (on_chain _ _ _ _ _ _ (on_expr_walk value) (λ number. (on_chain _ _ _ _ _ _ (h1 where_is) (λ one. (on_case_seen where_is (own_line lines) number one)))))

stmt_walk_3 : (where_is : CWhere) (inner : StmtTree) (lines : List ℕ) (h1 : (y1 : CWhere) → Agree CStated (c_stmt_walk y1 inner) (s_stmt_walk y1 inner)) → Agree CStated (c_stmt_walk where_is (Default inner lines)) (s_stmt_walk where_is (Default inner lines))
stmt_walk_3 where_is inner lines h1 = (on_chain _ _ _ _ _ _ (h1 where_is) (λ one. (on_default_seen where_is (own_line lines) one)))

stmt_walk_4 : (where_is : CWhere) (items : ItemTrees) (lines : List ℕ) (h1 : (y1 : CWhere) → Agree CMeant (c_items_walk y1 items) (s_items_walk y1 items)) → Agree CStated (c_stmt_walk where_is (Block items lines)) (s_stmt_walk where_is (Block items lines))
stmt_walk_4 where_is items lines h1 = (on_chain _ _ _ _ _ _ on_scope_begins (λ before. (on_chain _ _ _ _ _ _ (h1 where_is) (λ all. (on_whole_ends before (own_line lines) (block (stmts_of all.stmts)) all.objects)))))

stmt_walk_5 : (where_is : CWhere) (lines : List ℕ) → Agree CStated (c_stmt_walk where_is (ExprStmt no_expr lines)) (s_stmt_walk where_is (ExprStmt no_expr lines))
stmt_walk_5 where_is lines = (on_null_seen (own_line lines))

stmt_walk_6 : (where_is : CWhere) (value : ExprTree) (lines : List ℕ) → Agree CStated (c_stmt_walk where_is (ExprStmt (some_expr value) lines)) (s_stmt_walk where_is (ExprStmt (some_expr value) lines))
stmt_walk_6 where_is value lines = (on_expression_walk value)

stmt_walk_7 : (where_is : CWhere) (condition : ExprTree) (branch : StmtTree) (otherwise : OptionStmtTree) (lines : List ℕ) (h1 : (y1 : CWhere) → Agree CStated (c_stmt_walk y1 branch) (s_stmt_walk y1 branch)) (h2 : (y1 : CWhere) → Agree COtherwise (c_else_walk y1 otherwise) (s_else_walk y1 otherwise)) → Agree CStated (c_stmt_walk where_is (If condition branch otherwise lines)) (s_stmt_walk where_is (If condition branch otherwise lines))
stmt_walk_7 where_is condition branch otherwise lines h1 h2 = (on_chain _ _ _ _ _ _ (on_tested_begins condition) (λ begun. (on_chain _ _ _ _ _ _ (on_scoped _ _ (h1 where_is)) (λ one. (on_chain _ _ _ _ _ _ (h2 where_is) (λ other. (on_tested_ends begun (own_line lines) (if_then (value_of begun.test) one other))))))))

stmt_walk_8 : (where_is : CWhere) (on : ExprTree) (body : StmtTree) (lines : List ℕ) (h1 : (y1 : CWhere) → Agree CStated (c_stmt_walk y1 body) (s_stmt_walk y1 body)) → Agree CStated (c_stmt_walk where_is (Switch on body lines)) (s_stmt_walk where_is (Switch on body lines))
stmt_walk_8 where_is on body lines h1 = (on_chain _ _ _ _ _ _ (on_tested_begins on) (λ begun. (on_chain _ _ _ _ _ _ (on_switch_begins where_is begun.test) (λ within. (on_chain _ _ _ _ _ _ (on_scoped _ _ (h1 within.where_is)) (λ one. (on_switch_ends begun (own_line lines) within.labels one)))))))

stmt_walk_9 : (where_is : CWhere) (condition : ExprTree) (body : StmtTree) (lines : List ℕ) (h1 : (y1 : CWhere) → Agree CStated (c_stmt_walk y1 body) (s_stmt_walk y1 body)) → Agree CStated (c_stmt_walk where_is (While condition body lines)) (s_stmt_walk where_is (While condition body lines))
stmt_walk_9 where_is condition body lines h1 = (on_chain _ _ _ _ _ _ (on_tested_begins condition) (λ begun. (on_chain _ _ _ _ _ _ (on_scoped _ _ (h1 (in_loop where_is))) (λ one. (on_tested_ends begun (own_line lines) (while (value_of begun.test) one))))))

stmt_walk_10 : (where_is : CWhere) (body : StmtTree) (condition : ExprTree) (lines : List ℕ) (h1 : (y1 : CWhere) → Agree CStated (c_stmt_walk y1 body) (s_stmt_walk y1 body)) → Agree CStated (c_stmt_walk where_is (Do body condition lines)) (s_stmt_walk where_is (Do body condition lines))
stmt_walk_10 where_is body condition lines h1 = (on_chain _ _ _ _ _ _ on_scope_begins (λ before. (on_chain _ _ _ _ _ _ (on_scoped _ _ (h1 (in_loop where_is))) (λ one. (on_do_ends before (own_line lines) condition one)))))

stmt_walk_11 : (where_is : CWhere) (first : ForFirstTree) (second : OptionExprTree) (third : OptionExprTree) (body : StmtTree) (lines : List ℕ) (h1 : (y1 : CWhere) → Agree CStated (c_stmt_walk y1 body) (s_stmt_walk y1 body)) → Agree CStated (c_stmt_walk where_is (For first second third body lines)) (s_stmt_walk where_is (For first second third body lines))
stmt_walk_11 where_is first second third body lines h1 = (on_chain _ _ _ _ _ _ (on_for_begins first second third) (λ begun. (on_chain _ _ _ _ _ _ (on_scoped _ _ (h1 (in_loop where_is))) (λ one. (on_for_ends begun (own_line lines) one)))))

stmt_walk_12 : (where_is : CWhere) (name : List ℕ) (lines : List ℕ) → Agree CStated (c_stmt_walk where_is (Goto name lines)) (s_stmt_walk where_is (Goto name lines))
stmt_walk_12 where_is name lines = (on_goto_seen where_is name (own_line lines))

stmt_walk_13 : (where_is : CWhere) (lines : List ℕ) → Agree CStated (c_stmt_walk where_is (Continue lines)) (s_stmt_walk where_is (Continue lines))
stmt_walk_13 where_is lines = (on_jump_seen (own_line lines) where_is.in_loop continue)

stmt_walk_14 : (where_is : CWhere) (lines : List ℕ) → Agree CStated (c_stmt_walk where_is (Break lines)) (s_stmt_walk where_is (Break lines))
stmt_walk_14 where_is lines = (on_jump_seen (own_line lines) (where_is.in_loop || is_some where_is.in_switch) break)

stmt_walk_15 : (where_is : CWhere) (value : OptionExprTree) (lines : List ℕ) → Agree CStated (c_stmt_walk where_is (Return value lines)) (s_stmt_walk where_is (Return value lines))
stmt_walk_15 where_is value lines = (on_chain _ _ _ _ _ _ on_here (λ before. (on_chain _ _ _ _ _ _ (on_option_walk value) (λ one. (on_return_seen where_is before (own_line lines) one)))))

else_walk_1 : (where_is : CWhere) → Agree COtherwise (c_else_walk where_is no_stmt) (s_else_walk where_is no_stmt)
else_walk_1 where_is = (on_gives _ _)

else_walk_2 : (where_is : CWhere) (inner : StmtTree) (h1 : (y1 : CWhere) → Agree CStated (c_stmt_walk y1 inner) (s_stmt_walk y1 inner)) → Agree COtherwise (c_else_walk where_is (some_stmt inner)) (s_else_walk where_is (some_stmt inner))
else_walk_2 where_is inner h1 = (on_chain _ _ _ _ _ _ (on_scoped _ _ (h1 where_is)) (λ one. (on_gives _ _)))

item_walk_1 : (where_is : CWhere) (inner : StmtTree) (h1 : (y1 : CWhere) → Agree CStated (c_stmt_walk y1 inner) (s_stmt_walk y1 inner)) → Agree CMeant (c_item_walk where_is (Statement inner)) (s_item_walk where_is (Statement inner))
item_walk_1 where_is inner h1 = (on_chain _ _ _ _ _ _ (h1 where_is) (λ one. (on_gives _ _)))

item_walk_2 : (where_is : CWhere) (decl : DeclTree) → Agree CMeant (c_item_walk where_is (Declared decl)) (s_item_walk where_is (Declared decl))
item_walk_2 where_is decl = (on_decl_walk InBlock decl)

items_walk_1 : (where_is : CWhere) → Agree CMeant (c_items_walk where_is no_items) (s_items_walk where_is no_items)
items_walk_1 where_is = (on_gives _ _)

items_walk_2 : (where_is : CWhere) (first : ItemTree) (others : ItemTrees) (h1 : (y1 : CWhere) → Agree CMeant (c_item_walk y1 first) (s_item_walk y1 first)) (h2 : (y1 : CWhere) → Agree CMeant (c_items_walk y1 others) (s_items_walk y1 others)) → Agree CMeant (c_items_walk where_is (more_items first others)) (s_items_walk where_is (more_items first others))
items_walk_2 where_is first others h1 h2 = (on_chain _ _ _ _ _ _ (h1 where_is) (λ one. (on_chain _ _ _ _ _ _ (h2 where_is) (λ more. (on_gives _ _)))))

mutual
  pub on_stmt_walk : (x1 : CWhere) (x2 : StmtTree) → Agree CStated (c_stmt_walk x1 x2) (s_stmt_walk x1 x2)
  on_stmt_walk where_is (Label name inner lines) = stmt_walk_1 where_is name inner lines (λ y1. on_stmt_walk y1 inner)
  on_stmt_walk where_is (Case value inner lines) = stmt_walk_2 where_is value inner lines (λ y1. on_stmt_walk y1 inner)
  on_stmt_walk where_is (Default inner lines) = stmt_walk_3 where_is inner lines (λ y1. on_stmt_walk y1 inner)
  on_stmt_walk where_is (Block items lines) = stmt_walk_4 where_is items lines (λ y1. on_items_walk y1 items)
  on_stmt_walk where_is (ExprStmt no_expr lines) = stmt_walk_5 where_is lines
  on_stmt_walk where_is (ExprStmt (some_expr value) lines) = stmt_walk_6 where_is value lines
  on_stmt_walk where_is (If condition branch otherwise lines) = stmt_walk_7 where_is condition branch otherwise lines (λ y1. on_stmt_walk y1 branch) (λ y1. on_else_walk y1 otherwise)
  on_stmt_walk where_is (Switch on body lines) = stmt_walk_8 where_is on body lines (λ y1. on_stmt_walk y1 body)
  on_stmt_walk where_is (While condition body lines) = stmt_walk_9 where_is condition body lines (λ y1. on_stmt_walk y1 body)
  on_stmt_walk where_is (Do body condition lines) = stmt_walk_10 where_is body condition lines (λ y1. on_stmt_walk y1 body)
  on_stmt_walk where_is (For first second third body lines) = stmt_walk_11 where_is first second third body lines (λ y1. on_stmt_walk y1 body)
  on_stmt_walk where_is (Goto name lines) = stmt_walk_12 where_is name lines
  on_stmt_walk where_is (Continue lines) = stmt_walk_13 where_is lines
  on_stmt_walk where_is (Break lines) = stmt_walk_14 where_is lines
  on_stmt_walk where_is (Return value lines) = stmt_walk_15 where_is value lines

  pub on_else_walk : (x1 : CWhere) (x2 : OptionStmtTree) → Agree COtherwise (c_else_walk x1 x2) (s_else_walk x1 x2)
  on_else_walk where_is no_stmt = else_walk_1 where_is
  on_else_walk where_is (some_stmt inner) = else_walk_2 where_is inner (λ y1. on_stmt_walk y1 inner)

  pub on_item_walk : (x1 : CWhere) (x2 : ItemTree) → Agree CMeant (c_item_walk x1 x2) (s_item_walk x1 x2)
  on_item_walk where_is (Statement inner) = item_walk_1 where_is inner (λ y1. on_stmt_walk y1 inner)
  on_item_walk where_is (Declared decl) = item_walk_2 where_is decl

  pub on_items_walk : (x1 : CWhere) (x2 : ItemTrees) → Agree CMeant (c_items_walk x1 x2) (s_items_walk x1 x2)
  on_items_walk where_is no_items = items_walk_1 where_is
  on_items_walk where_is (more_items first others) = items_walk_2 where_is first others (λ y1. on_item_walk y1 first) (λ y1. on_items_walk y1 others)

pub on_head_as : (x1 : CSpecs) (x2 : ℕ) (x3 : CShape) (x4 : CTy) (x5 : CScope) (x6 : CDeclaring) → Agree CHead (c_head_as x1 x2 x3 x4 x5 x6) (s_head_as x1 x2 x3 x4 x5 x6)
on_head_as specs line shape written scope one = (on_changed _ _ _ _ _ _)

pub on_head_seen : (x1 : CSpecs) (x2 : ℕ) (x3 : CShape) (x4 : CTy) → Agree CHead (c_head_seen x1 x2 x3 x4) (s_head_seen x1 x2 x3 x4)
on_head_seen specs line shape written = (on_chain _ _ _ _ _ _ on_here (λ scope. (on_head_as specs line shape written scope (declaring scope Definition specs (name_or_none shape.name) line written true))))

pub on_body_ends : (x1 : CHead) (x2 : CStmt) → Agree Done (c_body_ends x1 x2) (s_body_ends x1 x2)
on_body_ends head body = (on_chain _ _ _ _ _ _ on_here (λ scope. (on_becomes _)))

pub on_function_body : (x1 : CHead) (x2 : StmtTree) → Agree CStmt (c_function_body x1 x2) (s_function_body x1 x2)
on_function_body head (Block items lines) = (on_chain _ _ _ _ _ _ (on_items_walk (where_in head (Block items lines)) items) (λ all. (on_chain _ _ _ _ _ _ on_here (λ scope. (on_gives _ _)))))
on_function_body head body = (on_chain _ _ _ _ _ _ (on_stmt_walk (where_in head body) body) (λ one. (on_gives _ _)))

pub on_head_walk : (x1 : CSpecs) (x2 : ℕ) (x3 : DeclaratorTree) → Agree CHead (c_head_walk x1 x2 x3) (s_head_walk x1 x2 x3)
on_head_walk specs missing declarator = (on_chain _ _ _ _ _ _ (on_declarator_walk declarator) (λ shape. (on_chain _ _ _ _ _ _ (on_derives_seen (declarator_line missing declarator) (base_type specs) shape) (λ type. (on_head_seen specs (declarator_line missing declarator) shape (defined_type type))))))

pub on_definition_walk : (x1 : DefinitionTree) → Agree Done (c_definition_walk x1) (s_definition_walk x1)
on_definition_walk d = (on_chain _ _ _ _ _ _ (on_specs_walk false no_specs_yet d.specs) (λ all. (on_chain _ _ _ _ _ _ (on_specs_seen Definition (specs_line d.specs) all) (λ _. (on_chain _ _ _ _ _ _ (on_head_walk all (specs_line d.specs) d.declarator) (λ head. (on_chain _ _ _ _ _ _ (on_function_body head d.body) (λ body. (on_body_ends head body)))))))))

pub on_external_walk : (x1 : ExternalTree) → Agree Done (c_external_walk x1) (s_external_walk x1)
on_external_walk (Defined d) = (on_definition_walk d)
on_external_walk (Declaration decl) = (on_chain _ _ _ _ _ _ (on_decl_walk File decl) (λ _. (on_gives _ _)))

pub on_externals_walk : (x1 : List ExternalTree) → Agree Done (c_externals_walk x1) (s_externals_walk x1)
on_externals_walk [] = (on_gives _ _)
on_externals_walk (first ∷ others) = (on_chain _ _ _ _ _ _ (on_external_walk first) (λ _. (on_externals_walk others)))

pub on_tentative_seen : (x1 : CThing) → Agree Done (c_tentative_seen x1) (s_tentative_seen x1)
on_tentative_seen one = (on_chain _ _ _ _ _ _ on_here (λ scope. (on_settled _ _ _ _ _)))

pub on_tentatives_seen : (x1 : List CThing) → Agree Done (c_tentatives_seen x1) (s_tentatives_seen x1)
on_tentatives_seen [] = (on_gives _ _)
on_tentatives_seen (one ∷ others) = (on_chain _ _ _ _ _ _ (on_tentative_seen one) (λ _. (on_tentatives_seen others)))

pub on_unit_ends : Agree CUnit c_unit_ends s_unit_ends
on_unit_ends = (on_chain _ _ _ _ _ _ on_here (λ scope. (on_chain _ _ _ _ _ _ (on_tentatives_seen (tentative_things scope.things)) (λ _. (on_gives _ _)))))

pub on_unit_walk : (x1 : UnitTree) → Agree CUnit (c_unit_walk x1) (s_unit_walk x1)
on_unit_walk unit = (on_chain _ _ _ _ _ _ (on_externals_walk unit.parts) (λ _. on_unit_ends))
