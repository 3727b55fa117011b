-- What a declaration and a node of a statement mean stands where their parts do, and so does the scope behind them (ISO C99, 6.7, 6.8).
use Rattle.std.proofs.Common.{ℕ, ℤ, Bool, List, [], ◌∷◌, ◌++◌, Option, None, Some, is_some}
use Rattle.cx_core.specs.Trees.{CTy, CExpr, CStmt, CStmtForm, switch, do_while, for_loop}
use Rattle.cx_placed.proofs.Declared.{declaration_stands, content_if_stands}
use Rattle.cx_placed.proofs.Initialisers.{AllStoredStand, content_stands}
use Rattle.cx_placed.proofs.Keeps.{Anything, ScopeStands, Keeps, on_gives, on_chain, on_here, on_becomes, on_settled, on_changed}
use Rattle.cx_placed.proofs.Nodes as nodes
use Rattle.cx_placed.proofs.Operands.{OperandStands, IfOperandStands, IfExprStands, value_stands, option_stands, fitted_stands, promoted_stands, dropped_stands}
use Rattle.cx_placed.proofs.Statements.{StatedStands, MeantStands, TestedStands, ForStands, stmts_stand, meant_behind_stands, declared_meant_stands}
use Rattle.cx_placed.proofs.Trees as trees
use Rattle.cx_placed.specs.Places.{ExprStandsIn, PutsStandIn, StmtStandsIn, StmtFormStandsIn}
use Rattle.cx_rules.proofs.UnitNodesAgree.{s_begun_with, s_case_as, s_case_by, s_case_seen, s_controls_option, s_controls_seen, s_decl_walk, s_declarator_walk, s_declared_begins, s_declared_ends, s_default_seen, s_derives_seen, s_do_ends, s_dropped_option, s_dropped_seen, s_dropped_walk, s_ends_as, s_expr_walk, s_expression_ends, s_expression_walk, s_first_walk, s_for_begins, s_for_clauses, s_for_ends, s_for_with, s_goto_seen, s_init_declarator_walk, s_init_declarators_walk, s_init_walk, s_initialiser_walk, s_jump_seen, s_label_seen, s_list_walk, s_named_walk, s_null_seen, s_option_walk, s_return_as, s_return_seen, s_scope_begins, s_specs_seen, s_specs_walk, s_switch_begins, s_switch_ends, s_switch_seen, s_tested_begins, s_tested_ends, s_whole_ends}
use Rattle.cx_rules.specs.declared.kinds.SpecsPlace.{SpecsPlace}
use Rattle.cx_rules.specs.declared.kinds.SpecsPlace.TheVariants.{ForClause}
use Rattle.cx_rules.specs.Declare.{CBegun, declaring}
use Rattle.cx_rules.specs.Initial.{CStored}
use Rattle.cx_rules.specs.Lines.{expr_line, specs_line, declarator_line}
use Rattle.cx_rules.specs.Operands.{COperand, value_of}
use Rattle.cx_rules.specs.Pieces.{Done, at_line, CTarget, CFilled}
use Rattle.cx_rules.specs.Rules.{case_value}
use Rattle.cx_rules.specs.Scope.{CScope, CLabels}
use Rattle.cx_rules.specs.Shapes.{CSpecs, no_specs_yet, base_type, CShape}
use Rattle.cx_rules.specs.UnitWalk.{CWhere, CMeant, CStated, CTested, CWithin, CFor, stmts_of, option_value, name_or_none, declares_tag, content_of}
use Rattle.cx_tree.specs.Trees.{ExprTree, OptionExprTree, no_expr, some_expr, SpecTrees, DeclaratorTree, InitialiserTree, InitDeclaratorTree, DeclTree, ForFirstTree, FirstValue, FirstDeclared}

module _ (Among : ℕ → Type 0) where
  -- ---- what `Walk` says, as `UnitWalk` names it

  pub on_expr_walk : (tree : ExprTree) → Keeps Among COperand (OperandStands Among) (s_expr_walk tree)
  on_expr_walk tree = trees.on_expr_walk Among tree

  pub on_option_walk : (tree : OptionExprTree) → Keeps Among (Option COperand) (IfOperandStands Among) (s_option_walk tree)
  on_option_walk tree = trees.on_option_walk Among tree

  pub on_specs_walk : (alone : Bool) (specs : CSpecs) (tree : SpecTrees) → Keeps Among CSpecs (Anything CSpecs) (s_specs_walk alone specs tree)
  on_specs_walk alone specs tree = trees.on_specs_walk Among alone specs tree

  pub on_specs_seen : (place : SpecsPlace) (line : ℕ) (specs : CSpecs) → Keeps Among CSpecs (Anything CSpecs) (s_specs_seen place line specs)
  on_specs_seen place line specs = nodes.on_specs_seen Among place line specs

  pub on_declarator_walk : (tree : DeclaratorTree) → Keeps Among CShape (Anything CShape) (s_declarator_walk tree)
  on_declarator_walk tree = trees.on_declarator_walk Among tree

  pub on_derives_seen : (line : ℕ) (from : CTy) (shape : CShape) → Keeps Among CTy (Anything CTy) (s_derives_seen line from shape)
  on_derives_seen line from shape = nodes.on_derives_seen Among line from shape

  pub on_initialiser_walk : (target : CTarget) (tree : InitialiserTree) → Keeps Among (List CStored) (AllStoredStand Among) (s_initialiser_walk target tree)
  on_initialiser_walk target tree = trees.on_initialiser_walk Among target tree

  -- ---- declarations (6.7)

  pub on_scope_begins : Keeps Among CScope (Anything CScope) s_scope_begins
  on_scope_begins = on_chain _ _ _ _ _ _ on_here (λ scope held. on_chain _ _ _ _ _ _ (on_becomes _ held) (λ _ _. on_gives _ _ _ tt))

  pub on_init_walk : (target : CTarget) (init : Option InitialiserTree) → Keeps Among (List CStored) (AllStoredStand Among) (s_init_walk target init)
  on_init_walk target None = on_gives _ _ _ tt
  on_init_walk target (Some init) = on_initialiser_walk target init

  pub on_declared_begins : (place : SpecsPlace) (specs : CSpecs) (name : List ℕ) (line : ℕ) (type : CTy) (has_init : Bool)
      → Keeps Among CBegun (Anything CBegun) (s_declared_begins place specs name line type has_init)
  on_declared_begins place specs name line type has_init = on_chain _ _ _ _ _ _ on_here (λ scope held.
      on_chain _ _ _ _ _ _ (on_becomes _ (declaration_stands Among (declaring scope place specs name line type has_init) scope held)) (λ _ _. on_gives _ _ _ tt))

  on_ends_as : (place : SpecsPlace) (specs : CSpecs) (line : ℕ) (before : CScope) (begun : CBegun) (has_init : Bool) (scope : CScope) (filled : CFilled) → PutsStandIn Among filled.puts → ScopeStands Among scope
      → Keeps Among CMeant (MeantStands Among) (s_ends_as place specs line before begun has_init scope filled)
  on_ends_as place specs line before begun has_init scope filled new held =
      on_changed _ _ _ _ _ _ _ (content_if_stands Among has_init begun filled scope new held) (declared_meant_stands Among before scope (at_line scope line) begun has_init filled.puts held.own new)

  pub on_declared_ends : (place : SpecsPlace) (specs : CSpecs) (line : ℕ) (before : CScope) (begun : CBegun) (has_init : Bool) (stored : List CStored) → AllStoredStand Among stored
      → Keeps Among CMeant (MeantStands Among) (s_declared_ends place specs line before begun has_init stored)
  on_declared_ends place specs line before begun has_init stored new = on_chain _ _ _ _ _ _ on_here (λ scope held.
      on_ends_as place specs line before begun has_init scope (content_of has_init scope.types begun stored) (content_stands Among has_init scope.types begun stored new) held)

  pub on_named_walk : (place : SpecsPlace) (specs : CSpecs) (line : ℕ) (type : CTy) (shape : CShape) (init : Option InitialiserTree)
      → Keeps Among CMeant (MeantStands Among) (s_named_walk place specs line type shape init)
  on_named_walk place specs line type shape init = on_chain _ _ _ _ _ _ on_here (λ before _. on_chain _ _ _ _ _ _
      (on_declared_begins place specs (name_or_none shape.name) line type (is_some init)) (λ begun _. on_chain _ _ _ _ _ _ (on_init_walk begun.target init) (λ stored new.
      on_declared_ends place specs line before begun (is_some init) stored new)))

  pub on_init_declarator_walk : (place : SpecsPlace) (specs : CSpecs) (missing : ℕ) (d : InitDeclaratorTree)
      → Keeps Among CMeant (MeantStands Among) (s_init_declarator_walk place specs missing d)
  on_init_declarator_walk place specs missing d = on_chain _ _ _ _ _ _ (on_declarator_walk d.declarator) (λ shape _. on_chain _ _ _ _ _ _
      (on_derives_seen (declarator_line missing d.declarator) (base_type specs) shape) (λ type _.
      on_named_walk place specs (declarator_line missing d.declarator) type shape d.init))

  pub on_init_declarators_walk : (place : SpecsPlace) (specs : CSpecs) (missing : ℕ) (ds : List InitDeclaratorTree)
      → Keeps Among CMeant (MeantStands Among) (s_init_declarators_walk place specs missing ds)
  on_init_declarators_walk place specs missing [] = on_gives _ _ _ tt
  on_init_declarators_walk place specs missing (d ∷ ds) = on_chain _ _ _ _ _ _ (on_init_declarator_walk place specs missing d) (λ one first. on_chain _ _ _ _ _ _
      (on_init_declarators_walk place specs missing ds) (λ others more. on_gives _ _ _ (meant_behind_stands Among one others first more)))

  pub on_list_walk : (place : SpecsPlace) (specs : CSpecs) (line : ℕ) (ds : List InitDeclaratorTree) → Keeps Among CMeant (MeantStands Among) (s_list_walk place specs line ds)
  on_list_walk place specs line [] = on_chain _ _ _ _ _ _ on_here (λ scope held. on_settled _ _ _ _ _ _ tt)
  on_list_walk place specs line (d ∷ ds) = on_init_declarators_walk place specs line (d ∷ ds)

  pub on_decl_walk : (place : SpecsPlace) (decl : DeclTree) → Keeps Among CMeant (MeantStands Among) (s_decl_walk place decl)
  on_decl_walk place decl = on_chain _ _ _ _ _ _ (on_specs_walk (declares_tag decl) no_specs_yet decl.specs) (λ all _. on_chain _ _ _ _ _ _
      (on_specs_seen place (specs_line decl.specs) all) (λ _ _. on_list_walk place all (specs_line decl.specs) decl.list))

  -- ---- statements (6.8)

  pub on_label_seen : (name : List ℕ) (line : ℕ) (inner : CStated) → StatedStands Among inner → Keeps Among CStated (StatedStands Among) (s_label_seen name line inner)
  on_label_seen name line inner one = on_chain _ _ _ _ _ _ on_here (λ scope held. on_changed _ _ _ _ _ _ _ held (held.own, one))

  on_case_as : (where_is : CWhere) (line : ℕ) (value : COperand) (inner : CStated) (scope : CScope) (number : Option ℤ) → StatedStands Among inner → ScopeStands Among scope
      → Keeps Among CStated (StatedStands Among) (s_case_as where_is line value inner scope number)
  on_case_as where_is line value inner scope number one held = on_changed _ _ _ _ _ _ _ held (held.own, one)

  on_case_by : (where_is : CWhere) (line : ℕ) (value : COperand) (inner : CStated) (scope : CScope) (type : Option CTy) → StatedStands Among inner → ScopeStands Among scope
      → Keeps Among CStated (StatedStands Among) (s_case_by where_is line value inner scope type)
  on_case_by where_is line value inner scope None one held = on_case_as where_is line value inner scope None one held
  on_case_by where_is line value inner scope (Some type) one held = on_case_as where_is line value inner scope (case_value scope.types type value) one held

  pub on_case_seen : (where_is : CWhere) (line : ℕ) (value : COperand) (inner : CStated) → StatedStands Among inner
      → Keeps Among CStated (StatedStands Among) (s_case_seen where_is line value inner)
  on_case_seen where_is line value inner one = on_chain _ _ _ _ _ _ on_here (λ scope held. on_case_by where_is line value inner scope where_is.in_switch one held)

  pub on_default_seen : (where_is : CWhere) (line : ℕ) (inner : CStated) → StatedStands Among inner → Keeps Among CStated (StatedStands Among) (s_default_seen where_is line inner)
  on_default_seen where_is line inner one = on_chain _ _ _ _ _ _ on_here (λ scope held. on_changed _ _ _ _ _ _ _ held (held.own, one))

  pub on_null_seen : (line : ℕ) → Keeps Among CStated (StatedStands Among) (s_null_seen line)
  on_null_seen line = on_chain _ _ _ _ _ _ on_here (λ scope held. on_gives _ _ _ (held.own, tt))

  pub on_dropped_seen : (line : ℕ) (value : COperand) → OperandStands Among value → Keeps Among CExpr (ExprStandsIn Among) (s_dropped_seen line value)
  on_dropped_seen line value one = on_chain _ _ _ _ _ _ on_here (λ scope held. on_settled _ _ _ _ _ _ (dropped_stands Among (value_of value) (value_stands Among value one)))

  pub on_dropped_walk : (value : ExprTree) → Keeps Among CExpr (ExprStandsIn Among) (s_dropped_walk value)
  on_dropped_walk value = on_chain _ _ _ _ _ _ (on_expr_walk value) (λ one stands. on_dropped_seen (expr_line value) one stands)

  pub on_dropped_option : (value : OptionExprTree) → Keeps Among (Option CExpr) (IfExprStands Among) (s_dropped_option value)
  on_dropped_option no_expr = on_gives _ _ _ tt
  on_dropped_option (some_expr value) = on_chain _ _ _ _ _ _ (on_dropped_walk value) (λ one stands. on_gives _ _ _ stands)

  pub on_expression_ends : (before : CScope) (line : ℕ) (value : CExpr) → ExprStandsIn Among value → Keeps Among CStated (StatedStands Among) (s_expression_ends before line value)
  on_expression_ends before line value one = on_chain _ _ _ _ _ _ on_here (λ scope held. on_gives _ _ _ (held.own, one))

  pub on_expression_walk : (value : ExprTree) → Keeps Among CStated (StatedStands Among) (s_expression_walk value)
  on_expression_walk value = on_chain _ _ _ _ _ _ on_here (λ before _. on_chain _ _ _ _ _ _ (on_dropped_walk value) (λ one stands. on_expression_ends before (expr_line value) one stands))

  pub on_controls_seen : (line : ℕ) (value : COperand) → Keeps Among Done (Anything Done) (s_controls_seen line value)
  on_controls_seen line value = on_chain _ _ _ _ _ _ on_here (λ scope held. on_settled _ _ _ _ _ _ tt)

  pub on_whole_ends : (before : CScope) (line : ℕ) (form : CStmtForm) (objects : List ℕ) → StmtFormStandsIn Among form
      → Keeps Among CStated (StatedStands Among) (s_whole_ends before line form objects)
  on_whole_ends before line form objects new = on_chain _ _ _ _ _ _ on_here (λ scope held. on_chain _ _ _ _ _ _ (on_becomes _ held) (λ _ _. on_gives _ _ _ (held.own, new)))

  pub on_begun_with : (before : CScope) (test : COperand) → OperandStands Among test → Keeps Among CTested (TestedStands Among) (s_begun_with before test)
  on_begun_with before test one = on_chain _ _ _ _ _ _ on_here (λ scope held. on_gives _ _ _ one)

  pub on_tested_begins : (condition : ExprTree) → Keeps Among CTested (TestedStands Among) (s_tested_begins condition)
  on_tested_begins condition = on_chain _ _ _ _ _ _ on_scope_begins (λ before _. on_chain _ _ _ _ _ _ (on_expr_walk condition) (λ test one. on_begun_with before test one))

  pub on_tested_ends : (begun : CTested) (line : ℕ) (form : CStmtForm) → StmtFormStandsIn Among form → Keeps Among CStated (StatedStands Among) (s_tested_ends begun line form)
  on_tested_ends begun line form new = on_chain _ _ _ _ _ _ (on_controls_seen line begun.test) (λ _ _. on_whole_ends begun.before line form begun.literals new)

  pub on_switch_begins : (where_is : CWhere) (value : COperand) → Keeps Among CWithin (Anything CWithin) (s_switch_begins where_is value)
  on_switch_begins where_is value = on_chain _ _ _ _ _ _ on_here (λ scope held. on_chain _ _ _ _ _ _ (on_becomes _ held) (λ _ _. on_gives _ _ _ tt))

  pub on_switch_seen : (line : ℕ) (before : CLabels) (value : COperand) → OperandStands Among value → Keeps Among CExpr (ExprStandsIn Among) (s_switch_seen line before value)
  on_switch_seen line before value one = on_chain _ _ _ _ _ _ on_here (λ scope held. on_changed _ _ _ _ _ _ _ held (promoted_stands Among scope.types value one))

  pub on_switch_ends : (begun : CTested) (line : ℕ) (labels : CLabels) (body : CStmt) → TestedStands Among begun → StmtStandsIn Among body
      → Keeps Among CStated (StatedStands Among) (s_switch_ends begun line labels body)
  on_switch_ends begun line labels body tested inner = on_chain _ _ _ _ _ _ (on_switch_seen line labels begun.test tested) (λ value one.
      on_whole_ends begun.before line (switch value body) begun.literals (one, inner))

  pub on_do_ends : (before : CScope) (line : ℕ) (condition : ExprTree) (body : CStmt) → StmtStandsIn Among body
      → Keeps Among CStated (StatedStands Among) (s_do_ends before line condition body)
  on_do_ends before line condition body inner = on_chain _ _ _ _ _ _ on_here (λ behind _. on_chain _ _ _ _ _ _ (on_expr_walk condition) (λ test one. on_chain _ _ _ _ _ _
      (on_begun_with behind test one) (λ begun _. on_chain _ _ _ _ _ _ (on_controls_seen line test) (λ _ _.
      on_whole_ends before line (do_while body (value_of test)) begun.literals (inner, value_stands Among test one)))))

  pub on_first_walk : (first : ForFirstTree) → Keeps Among CMeant (MeantStands Among) (s_first_walk first)
  on_first_walk (FirstValue no_expr) = on_gives _ _ _ tt
  on_first_walk (FirstValue (some_expr value)) = on_chain _ _ _ _ _ _ (on_expression_walk value) (λ one stands. on_gives _ _ _ (stands, tt))
  on_first_walk (FirstDeclared decl) = on_decl_walk ForClause decl

  pub on_for_with : (before : CScope) (behind : CScope) (first : CMeant) (test : Option COperand) (next : Option CExpr) → MeantStands Among first → IfOperandStands Among test → IfExprStands Among next
      → Keeps Among CFor (ForStands Among) (s_for_with before behind first test next)
  on_for_with before behind first test next one tested more = on_chain _ _ _ _ _ _ on_here (λ scope held. on_gives _ _ _ (one, tested, more))

  pub on_for_clauses : (before : CScope) (first : CMeant) (second : OptionExprTree) (third : OptionExprTree) → MeantStands Among first
      → Keeps Among CFor (ForStands Among) (s_for_clauses before first second third)
  on_for_clauses before first second third one = on_chain _ _ _ _ _ _ on_here (λ behind _. on_chain _ _ _ _ _ _ (on_option_walk second) (λ test tested. on_chain _ _ _ _ _ _
      (on_dropped_option third) (λ next more. on_for_with before behind first test next one tested more)))

  pub on_for_begins : (first : ForFirstTree) (second : OptionExprTree) (third : OptionExprTree) → Keeps Among CFor (ForStands Among) (s_for_begins first second third)
  on_for_begins first second third = on_chain _ _ _ _ _ _ on_scope_begins (λ before _. on_chain _ _ _ _ _ _ (on_first_walk first) (λ begun one. on_for_clauses before begun second third one))

  pub on_controls_option : (line : ℕ) (value : Option COperand) → Keeps Among Done (Anything Done) (s_controls_option line value)
  on_controls_option line None = on_gives _ _ _ tt
  on_controls_option line (Some value) = on_controls_seen line value

  pub on_for_ends : (begun : CFor) (line : ℕ) (body : CStmt) → ForStands Among begun → StmtStandsIn Among body
      → Keeps Among CStated (StatedStands Among) (s_for_ends begun line body)
  on_for_ends begun line body clauses inner = on_chain _ _ _ _ _ _ (on_controls_option line begun.test) (λ _ _.
      on_whole_ends begun.before line (for_loop (stmts_of begun.first.stmts) (option_value begun.test) begun.next body) (begun.first.objects ++ begun.literals)
      (stmts_stand Among begun.first.stmts clauses.0, option_stands Among begun.test clauses.1, clauses.2, inner))

  pub on_goto_seen : (where_is : CWhere) (name : List ℕ) (line : ℕ) → Keeps Among CStated (StatedStands Among) (s_goto_seen where_is name line)
  on_goto_seen where_is name line = on_chain _ _ _ _ _ _ on_here (λ scope held. on_settled _ _ _ _ _ _ (held.own, tt))

  pub on_jump_seen : (line : ℕ) (is_inside : Bool) (form : CStmtForm) → StmtFormStandsIn Among form → Keeps Among CStated (StatedStands Among) (s_jump_seen line is_inside form)
  on_jump_seen line is_inside form new = on_chain _ _ _ _ _ _ on_here (λ scope held. on_settled _ _ _ _ _ _ (held.own, new))

  on_return_as : (where_is : CWhere) (before : CScope) (line : ℕ) (scope : CScope) (value : Option COperand) → IfOperandStands Among value → ScopeStands Among scope
      → Keeps Among CStated (StatedStands Among) (s_return_as where_is before line scope value)
  on_return_as where_is before line scope None one held = on_settled _ _ _ _ _ _ (held.own, tt)
  on_return_as where_is before line scope (Some value) one held =
      on_settled _ _ _ _ _ _ (held.own, fitted_stands Among scope.types where_is.result (value_of value) (value_stands Among value one))

  pub on_return_seen : (where_is : CWhere) (before : CScope) (line : ℕ) (value : Option COperand) → IfOperandStands Among value
      → Keeps Among CStated (StatedStands Among) (s_return_seen where_is before line value)
  on_return_seen where_is before line value one = on_chain _ _ _ _ _ _ on_here (λ scope held. on_return_as where_is before line scope value one held)
