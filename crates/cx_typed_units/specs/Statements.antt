-- What statements and declarations in blocks give where the walk over them finds no broken node (ISO C99, 6.8).
use Rattle.std.specs.Prelude.{◌≡◌, ◌⊎◌, ℕ, true, false, List, [], ◌∷◌, ◌++◌, IfSome}
use Rattle.cx_core.specs.Conversions.{IsPromoted}
use Rattle.cx_core.specs.Statements.{CBody, AreBlockObjects, IsTypedStmt, IsTypedElse, AreTypedStmts, labels_in, labels_in_list, labels_in_else, cases_in_else, defaults_in_else, objects_in, objects_in_else, objects_in_list}
use Rattle.cx_core.specs.Trees.{CStmt, stmt, begin, COtherwise}
use Rattle.cx_core.specs.Typing.{CHome}
use Rattle.cx_core.specs.ValidTypes.{IsComplete}
use Rattle.cx_rules.specs.declared.kinds.SpecsPlace.{SpecsPlace}
use Rattle.cx_rules.specs.declared.kinds.SpecsPlace.TheVariants.{ForClause}
use Rattle.cx_rules.specs.Readings.{Seen, seen_gives, seen_chain, seen_here, seen_becomes, seen_look}
use Rattle.cx_rules.specs.Scope.{CScope}
use Rattle.cx_rules.specs.Types.{is_void}
use Rattle.cx_rules.specs.UnitWalk as unit
use Rattle.cx_rules.specs.UnitWalk.{CWhere, CMeant, CStated, stmts_of, labels_of, labels_of_else, labels_of_item, labels_of_items}
use Rattle.cx_tree.specs.Trees.{OptionExprTree, no_expr, some_expr, DeclTree, ForFirstTree, FirstValue, FirstDeclared, StmtTree, OptionStmtTree, ItemTree, ItemTrees}
use Rattle.cx_typed.specs.Operands.{IsKnownType}
use Rattle.cx_typed.specs.Walked.{IsGood, Ends, ExprGoes}
use Rattle.cx_typed_units.specs.Labels.{AddsLabels, AddsOf, AddsOfList}
use Rattle.cx_typed_units.specs.Once.{AreOnce}
use Rattle.cx_typed_units.specs.Stretches.{IsOrderly, Leads, DeclaresNone, Backs, IsHeldAt, AreIn}

-- ---- where a statement stands

-- a `switch` is over a promoted type (6.8.4.2p5), which is asked for behind what stands in it
abbrev pub IsSwitchable : CWhere → Type 0
IsSwitchable where_is = IfSome where_is.in_switch IsPromoted

-- in a function of the program as in the unit
pub record StandsIn (where_is : CWhere) (body : CBody) : Type 0 where
  pub result_is : body.result ≡ where_is.result
  pub labels_are : body.labels ≡ where_is.labels
  pub in_loop_is : body.in_loop ≡ where_is.in_loop
  pub in_switch_is : body.in_switch ≡ where_is.in_switch
  pub switchable : IsSwitchable where_is

-- what is known there: the result of the function has a size, or there is none (6.9.1p3)
pub record IsPlace (opens : List ℕ) (scope : CScope) (where_is : CWhere) : Type 0 where
  pub good : IsGood opens scope
  pub orderly : IsOrderly opens scope
  pub in_function : scope.in_function ≡ true
  pub result : IsKnownType opens scope.types scope.unit where_is.result
  pub gives : is_void where_is.result ≡ false → IsComplete scope.types where_is.result

-- ---- statements

abbrev pub own_objects : CStmt → List ℕ
own_objects (stmt place objects form) = objects

pub record IsStated (opens : List ℕ) (where_is : CWhere) (tree : StmtTree) (before : CScope) (one : CStated) (after : CScope) : Type 0 where
  pub good : IsGood opens after
  pub leads : Leads opens before after
  pub none : DeclaresNone before after
  pub adds : IsSwitchable where_is → AddsOf before.body after.body one.stmt
  pub labels_are : labels_in one.stmt ≡ labels_of tree
  -- it is a block itself, or its objects are those of the block around it
  pub apart : (one.objects ≡ []) ⊎ (own_objects one.stmt ≡ [])
  -- each object is that of one block
  pub numbers : AreOnce before.next_object after.next_object (one.objects ++ objects_in one.stmt)
  pub blocks : (home : CHome) → Backs home opens before after → AreBlockObjects home one.objects
  pub typed : (body : CBody) → StandsIn where_is body → Backs body.home opens before after → IsHeldAt body.home before.declared
      → AreIn body.home.scope one.objects → IsTypedStmt body [] one.stmt

abbrev pub StmtGoes : StmtTree → Type 0
StmtGoes tree = (opens : List ℕ) (where_is : CWhere) (scope : CScope) → IsPlace opens scope where_is
    → Ends (unit.stmt_walk Seen seen_gives seen_chain seen_here seen_becomes seen_look where_is tree) scope (IsStated opens where_is tree scope)

-- ---- what stands in a block

-- statements and declarations right in a block, which holds their objects
pub record AreItems (opens : List ℕ) (where_is : CWhere) (labels : List (List ℕ)) (before : CScope) (all : CMeant) (after : CScope) : Type 0 where
  pub good : IsGood opens after
  pub leads : Leads opens before after
  pub adds : IsSwitchable where_is → AddsOfList before.body after.body (stmts_of all.stmts)
  pub labels_are : labels_in_list (stmts_of all.stmts) ≡ labels
  pub numbers : AreOnce before.next_object after.next_object (all.objects ++ objects_in_list (stmts_of all.stmts))
  pub blocks : (home : CHome) → Backs home opens before after → AreBlockObjects home all.objects
  pub held : (home : CHome) → Backs home opens before after → IsHeldAt home before.declared → AreIn home.scope all.objects → IsHeldAt home after.declared
  pub typed : (body : CBody) (declares : List ℕ) → StandsIn where_is body → Backs body.home opens before after → IsHeldAt body.home before.declared
      → AreIn body.home.scope all.objects → AreIn declares all.objects → AreTypedStmts body declares (stmts_of all.stmts)

abbrev pub ItemGoes : ItemTree → Type 0
ItemGoes tree = (opens : List ℕ) (where_is : CWhere) (scope : CScope) → IsPlace opens scope where_is
    → Ends (unit.item_walk Seen seen_gives seen_chain seen_here seen_becomes seen_look where_is tree) scope (AreItems opens where_is (labels_of_item tree) scope)

abbrev pub ItemsGo : ItemTrees → Type 0
ItemsGo trees = (opens : List ℕ) (where_is : CWhere) (scope : CScope) → IsPlace opens scope where_is
    → Ends (unit.items_walk Seen seen_gives seen_chain seen_here seen_becomes seen_look where_is trees) scope (AreItems opens where_is (labels_of_items trees) scope)

-- ---- declarations in a block

-- where an object's life is filled
abbrev pub IsBegun : CStmt → Type 0
IsBegun (stmt place objects (begin number puts)) = objects ≡ []
IsBegun _ = ⊥

abbrev pub AreBegun : List CStmt → Type 0
AreBegun [] = Unit {0}
AreBegun (one ∷ others) = IsBegun one × AreBegun others

pub record IsDeclaration (opens : List ℕ) (before : CScope) (all : CMeant) (after : CScope) : Type 0 where
  pub good : IsGood opens after
  pub leads : Leads opens before after
  pub body_is : after.body ≡ before.body
  pub begun : AreBegun all.stmts
  pub numbers : AreOnce before.next_object after.next_object all.objects
  pub blocks : (home : CHome) → Backs home opens before after → AreBlockObjects home all.objects
  pub held : (home : CHome) → Backs home opens before after → IsHeldAt home before.declared → AreIn home.scope all.objects → IsHeldAt home after.declared
  pub typed : (body : CBody) (declares : List ℕ) → Backs body.home opens before after → IsHeldAt body.home before.declared
      → AreIn body.home.scope all.objects → AreIn declares all.objects → AreTypedStmts body declares (stmts_of all.stmts)

abbrev pub DeclGoes : SpecsPlace → DeclTree → Type 0
DeclGoes place tree = (opens : List ℕ) (scope : CScope) → IsGood opens scope → IsOrderly opens scope → scope.in_function ≡ true
    → Ends (unit.decl_walk Seen seen_gives seen_chain seen_here seen_becomes seen_look place tree) scope (IsDeclaration opens scope)

-- ---- branches and bodies, which are blocks of their own (6.8.4p3, 6.8.5p5)

pub record IsScoped (opens : List ℕ) (where_is : CWhere) (labels : List (List ℕ)) (before : CScope) (one : CStmt) (after : CScope) : Type 0 where
  pub good : IsGood opens after
  pub leads : Leads opens before after
  pub none : DeclaresNone before after
  pub adds : IsSwitchable where_is → AddsOf before.body after.body one
  pub labels_are : labels_in one ≡ labels
  pub numbers : AreOnce before.next_object after.next_object (objects_in one)
  pub typed : (body : CBody) → StandsIn where_is body → Backs body.home opens before after → IsHeldAt body.home before.declared → IsTypedStmt body [] one

pub record IsElse (opens : List ℕ) (where_is : CWhere) (labels : List (List ℕ)) (before : CScope) (other : COtherwise) (after : CScope) : Type 0 where
  pub good : IsGood opens after
  pub leads : Leads opens before after
  pub none : DeclaresNone before after
  pub adds : IsSwitchable where_is → AddsLabels before.body after.body (labels_in_else other) (cases_in_else other) (defaults_in_else other)
  pub labels_are : labels_in_else other ≡ labels
  pub numbers : AreOnce before.next_object after.next_object (objects_in_else other)
  pub typed : (body : CBody) → StandsIn where_is body → Backs body.home opens before after → IsHeldAt body.home before.declared → IsTypedElse body other

abbrev pub ElseGoes : OptionStmtTree → Type 0
ElseGoes tree = (opens : List ℕ) (where_is : CWhere) (scope : CScope) → IsPlace opens scope where_is
    → Ends (unit.else_walk Seen seen_gives seen_chain seen_here seen_becomes seen_look where_is tree) scope (IsElse opens where_is (labels_of_else tree) scope)

-- an expression that may be missing, and what a `for` begins with (6.8.5.3)
abbrev pub OptionGoes : OptionExprTree → Type 0
OptionGoes no_expr = Unit {0}
OptionGoes (some_expr one) = ExprGoes one

abbrev pub FirstGoes : ForFirstTree → Type 0
FirstGoes (FirstValue value) = OptionGoes value
FirstGoes (FirstDeclared decl) = DeclGoes ForClause decl
