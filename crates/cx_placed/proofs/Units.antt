-- What a statement, a definition of a function and a unit mean stands in the units where its scope does (ISO C99, 6.8, 6.9).
use Rattle.std.proofs.Common.{◌≡◌, refl, ℕ, true, false, ◌||◌, List, [], ◌∷◌, is_some}
use Rattle.cx_core.specs.Trees.{CTy, CStmt, block, if_then, while, continue, break, COtherwise, CUnit}
use Rattle.cx_placed.proofs.Declared.{head_stands, body_stands}
use Rattle.cx_placed.proofs.Keeps.{Anything, Keeps, on_gives, on_chain, on_here, on_becomes, on_settled, on_changed}
use Rattle.cx_placed.proofs.Operands.{value_stands}
use Rattle.cx_placed.proofs.Statements.{StatedStands, MeantStands, stmts_stand, block_stands, meant_behind_stands, on_scoped}
use Rattle.cx_placed.proofs.UnitEnd.{UnitStands, unit_stands}
use Rattle.cx_placed.proofs.UnitNodes.{on_case_seen, on_decl_walk, on_declarator_walk, on_default_seen, on_derives_seen, on_do_ends, on_expr_walk, on_expression_walk, on_for_begins, on_for_ends, on_goto_seen, on_jump_seen, on_label_seen, on_null_seen, on_option_walk, on_return_seen, on_scope_begins, on_specs_seen, on_specs_walk, on_switch_begins, on_switch_ends, on_tested_begins, on_tested_ends, on_whole_ends}
use Rattle.cx_placed.specs.Places.{StmtStandsIn, OtherwiseStandsIn}
use Rattle.cx_placed.specs.Stands.{MeantTreesStandInTheirUnit}
use Rattle.cx_rules.proofs.UnitNodesAgree.{s_body_ends, s_definition_walk, s_else_walk, s_external_walk, s_externals_walk, s_function_body, s_head_seen, s_head_walk, s_item_walk, s_items_walk, s_stmt_walk, s_tentatives_seen, s_unit_ends, s_unit_walk}
use Rattle.cx_rules.specs.declared.kinds.SpecsPlace.TheVariants.{File, Definition, Block as InBlock}
use Rattle.cx_rules.specs.Declare.{declaring}
use Rattle.cx_rules.specs.Lines.{own_line, specs_line, declarator_line}
use Rattle.cx_rules.specs.Operands.{value_of}
use Rattle.cx_rules.specs.Pieces.{Done}
use Rattle.cx_rules.specs.Readings.{seen_chain, seen_gives}
use Rattle.cx_rules.specs.Scope.{CThing, new_scope}
use Rattle.cx_rules.specs.Shapes.{CSpecs, no_specs_yet, base_type, CShape}
use Rattle.cx_rules.specs.UnitWalk.{name_or_none, CWhere, in_loop, CMeant, CStated, stmts_of, as_block, CHead, fun_of, where_in, tentative_things}
use Rattle.cx_rules.specs.Units.{seen_unit}
use Rattle.cx_rules.specs.Types.{defined_type}
use Rattle.cx_tree.specs.Trees.{ExprTree, OptionExprTree, no_expr, some_expr, DeclaratorTree, DeclTree, ForFirstTree, StmtTree, Label, Case, Default, Block, ExprStmt, If, Switch, While, Do, For, Goto, Continue, Break, Return, OptionStmtTree, no_stmt, some_stmt, ItemTree, Statement, Declared, ItemTrees, no_items, more_items, DefinitionTree, ExternalTree, Defined, Declaration, UnitTree}

module _ (Among : ℕ → Type 0) where
  -- ---- statements (6.8): one line a form

  stmt_walk_1 : (where_is : CWhere) (name : List ℕ) (inner : StmtTree) (lines : List ℕ) (h1 : (y1 : CWhere) → Keeps Among CStated (StatedStands Among) (s_stmt_walk y1 inner))
      → Keeps Among CStated (StatedStands Among) (s_stmt_walk where_is (Label name inner lines))
  stmt_walk_1 where_is name inner lines h1 = on_chain _ _ _ _ _ _ (h1 where_is) (λ one one_stands. (on_label_seen Among name (own_line lines) one one_stands))

  stmt_walk_2 : (where_is : CWhere) (value : ExprTree) (inner : StmtTree) (lines : List ℕ) (h1 : (y1 : CWhere) → Keeps Among CStated (StatedStands Among) (s_stmt_walk y1 inner))
      → Keeps Among CStated (StatedStands Among) (s_stmt_walk where_is (Case value inner lines))
  stmt_walk_2 where_is value inner lines h1 = on_chain _ _ _ _ _ _ (on_expr_walk Among value) (λ number number_stands. (on_chain _ _ _ _ _ _ (h1 where_is) (λ one one_stands. (on_case_seen Among where_is (own_line lines) number one one_stands))))

  stmt_walk_3 : (where_is : CWhere) (inner : StmtTree) (lines : List ℕ) (h1 : (y1 : CWhere) → Keeps Among CStated (StatedStands Among) (s_stmt_walk y1 inner))
      → Keeps Among CStated (StatedStands Among) (s_stmt_walk where_is (Default inner lines))
  stmt_walk_3 where_is inner lines h1 = on_chain _ _ _ _ _ _ (h1 where_is) (λ one one_stands. (on_default_seen Among where_is (own_line lines) one one_stands))

  stmt_walk_4 : (where_is : CWhere) (items : ItemTrees) (lines : List ℕ) (h1 : (y1 : CWhere) → Keeps Among CMeant (MeantStands Among) (s_items_walk y1 items))
      → Keeps Among CStated (StatedStands Among) (s_stmt_walk where_is (Block items lines))
  stmt_walk_4 where_is items lines h1 = on_chain _ _ _ _ _ _ (on_scope_begins Among) (λ before before_stands. (on_chain _ _ _ _ _ _ (h1 where_is) (λ all all_stands. (on_whole_ends Among before (own_line lines) (block (stmts_of all.stmts)) all.objects (stmts_stand Among all.stmts all_stands)))))

  stmt_walk_5 : (where_is : CWhere) (lines : List ℕ) → Keeps Among CStated (StatedStands Among) (s_stmt_walk where_is (ExprStmt no_expr lines))
  stmt_walk_5 where_is lines = on_null_seen Among (own_line lines)

  stmt_walk_6 : (where_is : CWhere) (value : ExprTree) (lines : List ℕ) → Keeps Among CStated (StatedStands Among) (s_stmt_walk where_is (ExprStmt (some_expr value) lines))
  stmt_walk_6 where_is value lines = on_expression_walk Among value

  stmt_walk_7 : (where_is : CWhere) (condition : ExprTree) (branch : StmtTree) (otherwise : OptionStmtTree) (lines : List ℕ) (h1 : (y1 : CWhere) → Keeps Among CStated (StatedStands Among) (s_stmt_walk y1 branch)) (h2 : (y1 : CWhere) → Keeps Among COtherwise (OtherwiseStandsIn Among) (s_else_walk y1 otherwise))
      → Keeps Among CStated (StatedStands Among) (s_stmt_walk where_is (If condition branch otherwise lines))
  stmt_walk_7 where_is condition branch otherwise lines h1 h2 = on_chain _ _ _ _ _ _ (on_tested_begins Among condition) (λ begun begun_stands. (on_chain _ _ _ _ _ _ (on_scoped Among _ (h1 where_is)) (λ one one_stands. (on_chain _ _ _ _ _ _ (h2 where_is) (λ other other_stands. (on_tested_ends Among begun (own_line lines) (if_then (value_of begun.test) one other) (value_stands Among begun.test begun_stands, one_stands, other_stands)))))))

  stmt_walk_8 : (where_is : CWhere) (on : ExprTree) (body : StmtTree) (lines : List ℕ) (h1 : (y1 : CWhere) → Keeps Among CStated (StatedStands Among) (s_stmt_walk y1 body))
      → Keeps Among CStated (StatedStands Among) (s_stmt_walk where_is (Switch on body lines))
  stmt_walk_8 where_is on body lines h1 = on_chain _ _ _ _ _ _ (on_tested_begins Among on) (λ begun begun_stands. (on_chain _ _ _ _ _ _ (on_switch_begins Among where_is begun.test) (λ within within_stands. (on_chain _ _ _ _ _ _ (on_scoped Among _ (h1 within.where_is)) (λ one one_stands. (on_switch_ends Among begun (own_line lines) within.labels one begun_stands one_stands))))))

  stmt_walk_9 : (where_is : CWhere) (condition : ExprTree) (body : StmtTree) (lines : List ℕ) (h1 : (y1 : CWhere) → Keeps Among CStated (StatedStands Among) (s_stmt_walk y1 body))
      → Keeps Among CStated (StatedStands Among) (s_stmt_walk where_is (While condition body lines))
  stmt_walk_9 where_is condition body lines h1 = on_chain _ _ _ _ _ _ (on_tested_begins Among condition) (λ begun begun_stands. (on_chain _ _ _ _ _ _ (on_scoped Among _ (h1 (in_loop where_is))) (λ one one_stands. (on_tested_ends Among begun (own_line lines) (while (value_of begun.test) one) (value_stands Among begun.test begun_stands, one_stands)))))

  stmt_walk_10 : (where_is : CWhere) (body : StmtTree) (condition : ExprTree) (lines : List ℕ) (h1 : (y1 : CWhere) → Keeps Among CStated (StatedStands Among) (s_stmt_walk y1 body))
      → Keeps Among CStated (StatedStands Among) (s_stmt_walk where_is (Do body condition lines))
  stmt_walk_10 where_is body condition lines h1 = on_chain _ _ _ _ _ _ (on_scope_begins Among) (λ before before_stands. (on_chain _ _ _ _ _ _ (on_scoped Among _ (h1 (in_loop where_is))) (λ one one_stands. (on_do_ends Among before (own_line lines) condition one one_stands))))

  stmt_walk_11 : (where_is : CWhere) (first : ForFirstTree) (second : OptionExprTree) (third : OptionExprTree) (body : StmtTree) (lines : List ℕ) (h1 : (y1 : CWhere) → Keeps Among CStated (StatedStands Among) (s_stmt_walk y1 body))
      → Keeps Among CStated (StatedStands Among) (s_stmt_walk where_is (For first second third body lines))
  stmt_walk_11 where_is first second third body lines h1 = on_chain _ _ _ _ _ _ (on_for_begins Among first second third) (λ begun begun_stands. (on_chain _ _ _ _ _ _ (on_scoped Among _ (h1 (in_loop where_is))) (λ one one_stands. (on_for_ends Among begun (own_line lines) one begun_stands one_stands))))

  stmt_walk_12 : (where_is : CWhere) (name : List ℕ) (lines : List ℕ) → Keeps Among CStated (StatedStands Among) (s_stmt_walk where_is (Goto name lines))
  stmt_walk_12 where_is name lines = on_goto_seen Among where_is name (own_line lines)

  stmt_walk_13 : (where_is : CWhere) (lines : List ℕ) → Keeps Among CStated (StatedStands Among) (s_stmt_walk where_is (Continue lines))
  stmt_walk_13 where_is lines = on_jump_seen Among (own_line lines) where_is.in_loop continue tt

  stmt_walk_14 : (where_is : CWhere) (lines : List ℕ) → Keeps Among CStated (StatedStands Among) (s_stmt_walk where_is (Break lines))
  stmt_walk_14 where_is lines = on_jump_seen Among (own_line lines) (where_is.in_loop || is_some where_is.in_switch) break tt

  stmt_walk_15 : (where_is : CWhere) (value : OptionExprTree) (lines : List ℕ) → Keeps Among CStated (StatedStands Among) (s_stmt_walk where_is (Return value lines))
  stmt_walk_15 where_is value lines = on_chain _ _ _ _ _ _ on_here (λ before before_stands. (on_chain _ _ _ _ _ _ (on_option_walk Among value) (λ one one_stands. (on_return_seen Among where_is before (own_line lines) one one_stands))))

  else_walk_1 : (where_is : CWhere) → Keeps Among COtherwise (OtherwiseStandsIn Among) (s_else_walk where_is no_stmt)
  else_walk_1 where_is = on_gives _ _ _ tt

  else_walk_2 : (where_is : CWhere) (inner : StmtTree) (h1 : (y1 : CWhere) → Keeps Among CStated (StatedStands Among) (s_stmt_walk y1 inner))
      → Keeps Among COtherwise (OtherwiseStandsIn Among) (s_else_walk where_is (some_stmt inner))
  else_walk_2 where_is inner h1 = on_chain _ _ _ _ _ _ (on_scoped Among _ (h1 where_is)) (λ one one_stands. (on_gives _ _ _ one_stands))

  item_walk_1 : (where_is : CWhere) (inner : StmtTree) (h1 : (y1 : CWhere) → Keeps Among CStated (StatedStands Among) (s_stmt_walk y1 inner))
      → Keeps Among CMeant (MeantStands Among) (s_item_walk where_is (Statement inner))
  item_walk_1 where_is inner h1 = on_chain _ _ _ _ _ _ (h1 where_is) (λ one one_stands. (on_gives _ _ _ (one_stands, tt)))

  item_walk_2 : (where_is : CWhere) (decl : DeclTree) → Keeps Among CMeant (MeantStands Among) (s_item_walk where_is (Declared decl))
  item_walk_2 where_is decl = on_decl_walk Among InBlock decl

  items_walk_1 : (where_is : CWhere) → Keeps Among CMeant (MeantStands Among) (s_items_walk where_is no_items)
  items_walk_1 where_is = on_gives _ _ _ tt

  items_walk_2 : (where_is : CWhere) (first : ItemTree) (others : ItemTrees) (h1 : (y1 : CWhere) → Keeps Among CMeant (MeantStands Among) (s_item_walk y1 first)) (h2 : (y1 : CWhere) → Keeps Among CMeant (MeantStands Among) (s_items_walk y1 others))
      → Keeps Among CMeant (MeantStands Among) (s_items_walk where_is (more_items first others))
  items_walk_2 where_is first others h1 h2 = on_chain _ _ _ _ _ _ (h1 where_is) (λ one one_stands. (on_chain _ _ _ _ _ _ (h2 where_is) (λ more more_stands. (on_gives _ _ _ (meant_behind_stands Among one more one_stands more_stands)))))

  mutual
    pub on_stmt_walk : (x1 : CWhere) (x2 : StmtTree) → Keeps Among CStated (StatedStands Among) (s_stmt_walk x1 x2)
    on_stmt_walk where_is (Label name inner lines) = stmt_walk_1 where_is name inner lines (λ y1. on_stmt_walk y1 inner)
    on_stmt_walk where_is (Case value inner lines) = stmt_walk_2 where_is value inner lines (λ y1. on_stmt_walk y1 inner)
    on_stmt_walk where_is (Default inner lines) = stmt_walk_3 where_is inner lines (λ y1. on_stmt_walk y1 inner)
    on_stmt_walk where_is (Block items lines) = stmt_walk_4 where_is items lines (λ y1. on_items_walk y1 items)
    on_stmt_walk where_is (ExprStmt no_expr lines) = stmt_walk_5 where_is lines
    on_stmt_walk where_is (ExprStmt (some_expr value) lines) = stmt_walk_6 where_is value lines
    on_stmt_walk where_is (If condition branch otherwise lines) = stmt_walk_7 where_is condition branch otherwise lines (λ y1. on_stmt_walk y1 branch) (λ y1. on_else_walk y1 otherwise)
    on_stmt_walk where_is (Switch on body lines) = stmt_walk_8 where_is on body lines (λ y1. on_stmt_walk y1 body)
    on_stmt_walk where_is (While condition body lines) = stmt_walk_9 where_is condition body lines (λ y1. on_stmt_walk y1 body)
    on_stmt_walk where_is (Do body condition lines) = stmt_walk_10 where_is body condition lines (λ y1. on_stmt_walk y1 body)
    on_stmt_walk where_is (For first second third body lines) = stmt_walk_11 where_is first second third body lines (λ y1. on_stmt_walk y1 body)
    on_stmt_walk where_is (Goto name lines) = stmt_walk_12 where_is name lines
    on_stmt_walk where_is (Continue lines) = stmt_walk_13 where_is lines
    on_stmt_walk where_is (Break lines) = stmt_walk_14 where_is lines
    on_stmt_walk where_is (Return value lines) = stmt_walk_15 where_is value lines

    pub on_else_walk : (x1 : CWhere) (x2 : OptionStmtTree) → Keeps Among COtherwise (OtherwiseStandsIn Among) (s_else_walk x1 x2)
    on_else_walk where_is no_stmt = else_walk_1 where_is
    on_else_walk where_is (some_stmt inner) = else_walk_2 where_is inner (λ y1. on_stmt_walk y1 inner)

    pub on_item_walk : (x1 : CWhere) (x2 : ItemTree) → Keeps Among CMeant (MeantStands Among) (s_item_walk x1 x2)
    on_item_walk where_is (Statement inner) = item_walk_1 where_is inner (λ y1. on_stmt_walk y1 inner)
    on_item_walk where_is (Declared decl) = item_walk_2 where_is decl

    pub on_items_walk : (x1 : CWhere) (x2 : ItemTrees) → Keeps Among CMeant (MeantStands Among) (s_items_walk x1 x2)
    on_items_walk where_is no_items = items_walk_1 where_is
    on_items_walk where_is (more_items first others) = items_walk_2 where_is first others (λ y1. on_item_walk y1 first) (λ y1. on_items_walk y1 others)

  -- ---- definitions and units (6.9)

  pub on_head_seen : (specs : CSpecs) (line : ℕ) (shape : CShape) (written : CTy) → Keeps Among CHead (Anything CHead) (s_head_seen specs line shape written)
  on_head_seen specs line shape written = on_chain _ _ _ _ _ _ on_here (λ scope held.
      on_changed _ _ _ _ _ _ _ (head_stands Among (declaring scope Definition specs (name_or_none shape.name) line written true) written shape.steps scope held) tt)

  pub on_body_ends : (head : CHead) (body : CStmt) → StmtStandsIn Among body → Keeps Among Done (Anything Done) (s_body_ends head body)
  on_body_ends head body inner = on_chain _ _ _ _ _ _ on_here (λ scope held.
      on_becomes _ (body_stands Among head.before (fun_of scope head.declaring head.number head.written head.params body) scope inner held))

  -- a body that is no block by itself
  by_statement : (head : CHead) (body : StmtTree)
      → Keeps Among CStmt (StmtStandsIn Among) (seen_chain CStated CStmt (s_stmt_walk (where_in head body) body) (λ one. seen_gives CStmt (as_block one)))
  by_statement head body = on_chain _ _ _ _ _ _ (on_stmt_walk (where_in head body) body) (λ one inner. on_gives _ _ _ (block_stands Among one inner))

  pub on_function_body : (head : CHead) (body : StmtTree) → Keeps Among CStmt (StmtStandsIn Among) (s_function_body head body)
  on_function_body head (Block items lines) = on_chain _ _ _ _ _ _ (on_items_walk (where_in head (Block items lines)) items) (λ all inner. on_chain _ _ _ _ _ _ on_here (λ scope held.
      on_gives _ _ _ (held.own, stmts_stand Among all.stmts inner)))
  on_function_body head (Label name inner lines) = by_statement head (Label name inner lines)
  on_function_body head (Case value inner lines) = by_statement head (Case value inner lines)
  on_function_body head (Default inner lines) = by_statement head (Default inner lines)
  on_function_body head (ExprStmt value lines) = by_statement head (ExprStmt value lines)
  on_function_body head (If condition branch otherwise lines) = by_statement head (If condition branch otherwise lines)
  on_function_body head (Switch on inner lines) = by_statement head (Switch on inner lines)
  on_function_body head (While condition inner lines) = by_statement head (While condition inner lines)
  on_function_body head (Do inner condition lines) = by_statement head (Do inner condition lines)
  on_function_body head (For first second third inner lines) = by_statement head (For first second third inner lines)
  on_function_body head (Goto name lines) = by_statement head (Goto name lines)
  on_function_body head (Continue lines) = by_statement head (Continue lines)
  on_function_body head (Break lines) = by_statement head (Break lines)
  on_function_body head (Return value lines) = by_statement head (Return value lines)

  pub on_head_walk : (specs : CSpecs) (missing : ℕ) (declarator : DeclaratorTree) → Keeps Among CHead (Anything CHead) (s_head_walk specs missing declarator)
  on_head_walk specs missing declarator = on_chain _ _ _ _ _ _ (on_declarator_walk Among declarator) (λ shape _. on_chain _ _ _ _ _ _
      (on_derives_seen Among (declarator_line missing declarator) (base_type specs) shape) (λ type _.
      on_head_seen specs (declarator_line missing declarator) shape (defined_type type)))

  pub on_definition_walk : (d : DefinitionTree) → Keeps Among Done (Anything Done) (s_definition_walk d)
  on_definition_walk d = on_chain _ _ _ _ _ _ (on_specs_walk Among false no_specs_yet d.specs) (λ all _. on_chain _ _ _ _ _ _ (on_specs_seen Among Definition (specs_line d.specs) all) (λ _ _. on_chain _ _ _ _ _ _
      (on_head_walk all (specs_line d.specs) d.declarator) (λ head _. on_chain _ _ _ _ _ _ (on_function_body head d.body) (λ body inner. on_body_ends head body inner))))

  pub on_external_walk : (one : ExternalTree) → Keeps Among Done (Anything Done) (s_external_walk one)
  on_external_walk (Defined d) = on_definition_walk d
  on_external_walk (Declaration decl) = on_chain _ _ _ _ _ _ (on_decl_walk Among File decl) (λ _ _. on_gives _ _ _ tt)

  pub on_externals_walk : (all : List ExternalTree) → Keeps Among Done (Anything Done) (s_externals_walk all)
  on_externals_walk [] = on_gives _ _ _ tt
  on_externals_walk (first ∷ others) = on_chain _ _ _ _ _ _ (on_external_walk first) (λ _ _. on_externals_walk others)

  pub on_tentatives_seen : (all : List CThing) → Keeps Among Done (Anything Done) (s_tentatives_seen all)
  on_tentatives_seen [] = on_gives _ _ _ tt
  on_tentatives_seen (one ∷ others) = on_chain _ _ (Anything Done) _ _ _ (on_chain _ _ _ _ _ _ on_here (λ scope held. on_settled _ _ _ _ _ _ tt)) (λ _ _. on_tentatives_seen others)

  pub on_unit_ends : Keeps Among CUnit (UnitStands Among) s_unit_ends
  on_unit_ends = on_chain _ _ _ _ _ _ on_here (λ scope held. on_chain _ _ _ _ _ _ (on_tentatives_seen (tentative_things scope.things)) (λ _ _. on_gives _ _ _ (unit_stands Among scope held)))

  pub on_unit_walk : (unit : UnitTree) → Keeps Among CUnit (UnitStands Among) (s_unit_walk unit)
  on_unit_walk unit = on_chain _ _ _ _ _ _ (on_externals_walk unit.parts) (λ _ _. on_unit_ends)

pub meant_trees_stand_in_their_unit : MeantTreesStandInTheirUnit
unfolding seen_unit
meant_trees_stand_in_their_unit number tree =
    (on_unit_walk (λ unit. unit ≡ number) tree).meaning_stands (new_scope number)
    (record { own = refl; literals_stand = tt; objects_stand = tt; functions_stand = tt })
