-- The walk over declarations, statements and units (ISO C99, 6.7 to 6.9), in the order in which nodes count.
use Rattle.std.specs.Prelude.{ℕ, ◌+◌, nat_le, ℤ, pos, Bool, true, false, not, ◌&&◌, ◌||◌, if◌then◌else◌, List, [], ◌∷◌, ◌++◌, map, length, drop, Option, None, Some, is_some, is_none}
use Rattle.cr_base.specs.declared.refusal.Place.{Place as TextPlace}
use Rattle.cx_core.specs.Trees.{CTy, CTyForm, function, form_of_type, CTypes, CExpr, CPuts, CStmt, stmt, CStmtForm, label, case, default, block, expression, if_then, switch, while, do_while, for_loop, goto, continue, break, returns, begin, COtherwise, no_else, else_do, CStmts, no_stmts, more_stmts, CUnit, CFun}
use Rattle.cx_rules.specs.declared.kinds.SpecsPlace.{SpecsPlace}
use Rattle.cx_rules.specs.declared.kinds.SpecsPlace.TheVariants.{File, Definition, Block as InBlock, ForClause}
use Rattle.cx_rules.specs.Declare.{is_typedef, CBegun, CDeclaring, declaring, begun_as, with_declaration, clashes_completed, with_content, with_head, head_number, own_params, clashes, unit_of}
use Rattle.cx_rules.specs.Initial.{CStored}
use Rattle.cx_rules.specs.Lines.{own_line, expr_line, specs_line, declarator_line}
use Rattle.cx_rules.specs.Nodes.{CNode, declares_node, empty_node, head_node, tentative_node, label_node, case_node, default_node, dropped_node, controls_node, switch_node, goto_node, jump_node, return_node, CPlaced}
use Rattle.cx_rules.specs.Operands.{COperand, value_of, dropped, fitted, promoted_type, promoted_value}
use Rattle.cx_rules.specs.Rules.{case_value}
use Rattle.cx_rules.specs.Scope.{CScope, CLabels, no_labels, CMade, CThing, entered, left}
use Rattle.cx_rules.specs.Shapes.{CSpecs, no_specs_yet, base_type, CParam, CShape}
use Rattle.cx_rules.specs.Types.{int_type, defined_type}
use Rattle.cx_rules.specs.Walk as walk
use Rattle.cx_rules.specs.Pieces.{Done, at_line, CTarget, CFilled, filled_object}
use Rattle.cx_tree.specs.Trees.{ExprTree, OptionExprTree, no_expr, some_expr, SpecTrees, no_specs, more_specs, Record, no_members, DeclaratorTree, InitialiserTree, InitDeclaratorTree, DeclTree, ForFirstTree, FirstValue, FirstDeclared, StmtTree, Label, Case, Default, Block, ExprStmt, If, Switch, While, Do, For, Goto, Continue, Break, Return, OptionStmtTree, no_stmt, some_stmt, ItemTree, Statement, Declared, ItemTrees, no_items, more_items, DefinitionTree, ExternalTree, Defined, Declaration, UnitTree}

-- ---- where a statement stands

pub record CWhere : Type 0 where
  -- the result type of the function, and its labels
  pub result : CTy
  pub labels : List (List ℕ)
  pub in_loop : Bool
  -- the promoted type of the innermost `switch`
  pub in_switch : Option CTy

abbrev pub in_loop : CWhere → CWhere
in_loop here = record here { in_loop = true }

abbrev pub in_switch : CTy → CWhere → CWhere
in_switch type here = record here { in_switch = Some type }

abbrev mutual
  -- the labels that stand in a statement (6.8.1)
  pub labels_of : StmtTree → List (List ℕ)
  labels_of (Label name inner lines) = name ∷ labels_of inner
  labels_of (Case value inner lines) = labels_of inner
  labels_of (Default inner lines) = labels_of inner
  labels_of (Block items lines) = labels_of_items items
  labels_of (ExprStmt value lines) = []
  labels_of (If condition branch otherwise lines) = labels_of branch ++ labels_of_else otherwise
  labels_of (Switch on body lines) = labels_of body
  labels_of (While condition body lines) = labels_of body
  labels_of (Do body condition lines) = labels_of body
  labels_of (For first second third body lines) = labels_of body
  labels_of (Goto name lines) = []
  labels_of (Continue lines) = []
  labels_of (Break lines) = []
  labels_of (Return value lines) = []

  pub labels_of_else : OptionStmtTree → List (List ℕ)
  labels_of_else no_stmt = []
  labels_of_else (some_stmt inner) = labels_of inner

  pub labels_of_item : ItemTree → List (List ℕ)
  labels_of_item (Statement inner) = labels_of inner
  labels_of_item (Declared decl) = []

  pub labels_of_items : ItemTrees → List (List ℕ)
  labels_of_items no_items = []
  labels_of_items (more_items first others) = labels_of_item first ++ labels_of_items others

-- ---- what statements mean

-- typed statements, and the objects that belong to the block in which they stand (6.2.4p5, 6.5.2.5p6)
pub record CMeant : Type 0 where
  pub stmts : List CStmt
  pub objects : List ℕ

abbrev pub nothing_meant : CMeant
nothing_meant = record { stmts = []; objects = [] }

abbrev pub meant_behind : CMeant → CMeant → CMeant
meant_behind first second = record { stmts = first.stmts ++ second.stmts; objects = first.objects ++ second.objects }

-- one statement, and its objects
pub record CStated : Type 0 where
  pub stmt : CStmt
  pub objects : List ℕ

abbrev pub as_meant : CStated → CMeant
as_meant stated = record { stmts = stated.stmt ∷ []; objects = stated.objects }

abbrev pub stmts_of : List CStmt → CStmts
stmts_of [] = no_stmts
stmts_of (first ∷ others) = more_stmts first (stmts_of others)

-- a statement that is a block holds the objects (6.8.2, 6.8.4p3, 6.8.5p5)
abbrev holding : List ℕ → CStmt → CStmt
holding objects (stmt place own form) = stmt place (objects ++ own) form

abbrev pub as_block : CStated → CStmt
as_block stated = holding stated.objects stated.stmt

-- the objects of compound literals in a block that came since there were so many literals
abbrev block_literals : List CMade → List ℕ
block_literals [] = []
block_literals (made ∷ others) = if is_none made.fixed then made.object ∷ block_literals others else block_literals others

abbrev pub literals_since : CScope → CScope → List ℕ
literals_since before scope = block_literals (drop (length before.literals) scope.literals)

abbrev pub stated : TextPlace → CStmtForm → List ℕ → CStated
stated place form objects = record { stmt = stmt place [] form; objects = objects }

-- a label, `case` or `default` in front of a statement
abbrev pub labelled : TextPlace → (CStmt → CStmtForm) → CStated → CStated
labelled place form inner = stated place (form inner.stmt) inner.objects

abbrev pub case_number : Option ℤ → ℤ
case_number None = pos 0
case_number (Some value) = value

abbrev pub option_value : Option COperand → Option CExpr
option_value None = None
option_value (Some one) = Some (value_of one)

-- a selection or iteration statement behind the expression that controls it: the objects of the literals in that
pub record CTested : Type 0 where
  pub before : CScope
  pub test : COperand
  pub literals : List ℕ

-- in a `switch`: where its body stands, and the labels around it
pub record CWithin : Type 0 where
  pub where_is : CWhere
  pub labels : CLabels

-- a `for` statement behind its clauses
pub record CFor : Type 0 where
  pub before : CScope
  pub first : CMeant
  pub test : Option COperand
  pub next : Option CExpr
  pub literals : List ℕ

-- ---- declarations

-- `struct s;` by itself
abbrev stands_alone : SpecTrees → Bool
stands_alone (more_specs (Record is_union name no_members lines) no_specs) = true
stands_alone _ = false

abbrev is_empty : {A : Type 0} → List A → Bool
is_empty [] = true
is_empty (first ∷ others) = false

abbrev pub declares_tag : DeclTree → Bool
declares_tag decl = is_empty decl.list && stands_alone decl.specs

abbrev pub name_or_none : Option (List ℕ) → List ℕ
name_or_none None = []
name_or_none (Some name) = name

-- what stands in a block for a declared object: its life is filled anew where its declaration is reached (6.2.4p6)
abbrev begin_of : TextPlace → Bool → CPuts → Option ℕ → CMeant
begin_of place has_init puts None = nothing_meant
begin_of place has_init puts (Some number) =
    record { stmts = stmt place [] (begin number (if has_init then Some puts else None)) ∷ []; objects = number ∷ [] }

abbrev with_literals : List ℕ → CMeant → CMeant
with_literals literals meant = record meant { objects = meant.objects ++ literals }

-- a declaration of an object that isn't static, in a function
abbrev pub declared_meant : CScope → CScope → TextPlace → CBegun → Bool → CPuts → CMeant
declared_meant before scope place begun has_init puts =
    with_literals (literals_since before scope)
    (if scope.in_function && not begun.is_static then begin_of place has_init puts begun.object else nothing_meant)

abbrev pub content_of : Bool → CTypes → CBegun → List CStored → CFilled
content_of true types begun stored = filled_object types begun.type stored
content_of false types begun stored = record { type = begun.type; puts = (filled_object types begun.type []).puts }

abbrev pub with_content_if : Bool → CBegun → CFilled → CScope → CScope
with_content_if true begun filled scope = with_content begun filled.type filled.puts scope
with_content_if false begun filled scope = scope

-- another declaration stands in the way of the declarator, or of the type that it has behind its initialiser
abbrev pub clashes_behind : Bool → CScope → CBegun → CTy → Bool
clashes_behind true scope begun type = begun.clashes || clashes_completed scope begun.name begun.linkage type
clashes_behind false scope begun type = begun.clashes

-- ---- functions

abbrev result_of_form : CTyForm → CTy
result_of_form (function result params variadic) = result
result_of_form _ = int_type

abbrev result_in : CTy → CTy
result_in type = result_of_form (form_of_type type)

abbrev pub fun_of : CScope → CDeclaring → ℕ → CTy → List CParam → CStmt → CFun
fun_of scope one number written params body = record {
  function = number;
  name = one.name;
  unit = scope.unit;
  linkage = one.linkage;
  type = written;
  params = map (λ param. param.object) params;
  body = body;
}

-- a function whose body has ended: its parameters and its labels are out of scope
abbrev pub with_body : CScope → CFun → CScope → CScope
with_body before one scope = record (left (length before.declared + 1) before.begins scope) {
  functions = scope.functions ++ one ∷ [];
  in_function = false;
  body = no_labels;
}

-- the head of a definition between its declarator and its body
pub record CHead : Type 0 where
  pub before : CScope
  pub declaring : CDeclaring
  pub number : ℕ
  pub written : CTy
  pub params : List CParam

abbrev pub where_in : CHead → StmtTree → CWhere
where_in head body = record { result = result_in head.written; labels = labels_of body; in_loop = false; in_switch = None }

-- ---- tentative definitions (6.9.2p2)

abbrev line_or_none : Option ℕ → ℕ
line_or_none None = 0
line_or_none (Some line) = line

abbrev pub tentative_line : CThing → ℕ
tentative_line one = line_or_none one.tentative

-- one more among those that stand in the order of their lines, in front of what is on its own line
abbrev pub put_by_line : CThing → List CThing → List CThing
put_by_line one [] = one ∷ []
put_by_line one (first ∷ others) =
    if nat_le (tentative_line one) (tentative_line first) then one ∷ first ∷ others else first ∷ put_by_line one others

-- those that are left at the end of a unit, in the order of their lines
abbrev pub tentative_things : List CThing → List CThing
tentative_things [] = []
tentative_things (one ∷ others) =
    if is_some one.tentative && not one.is_defined then put_by_line one (tentative_things others) else tentative_things others

-- ---- the walk

module _
    (M : Type 0 → Type 0)
    (gives : (A : Type 0) → A → M A)
    (chain : (A B : Type 0) → M A → (A → M B) → M B)
    (here : M CScope)
    (becomes : CScope → M Done)
    (look : CPlaced → M Done)
  where
    abbrev pub just : {A : Type 0} → A → M A
    just value = gives _ value

    infixl 10 ◌>>=◌
    abbrev pub ◌>>=◌ : {A B : Type 0} → M A → (A → M B) → M B
    first >>= next = chain _ _ first next

    abbrev pub settled : {A : Type 0} → CScope → ℕ → CNode → A → M A
    settled scope line node meaning = look (record { scope = scope; line = line; node = node }) >>= (λ _. just meaning)

    abbrev pub changed : {A : Type 0} → CScope → ℕ → CNode → CScope → A → M A
    changed scope line node after meaning =
        look (record { scope = scope; line = line; node = node }) >>= (λ _. becomes after >>= (λ _. just meaning))

    abbrev pub expr_walk : ExprTree → M COperand
    expr_walk = walk.expr_walk M gives chain here becomes look

    abbrev pub option_walk : OptionExprTree → M (Option COperand)
    option_walk = walk.option_walk M gives chain here becomes look

    abbrev pub specs_walk : Bool → CSpecs → SpecTrees → M CSpecs
    specs_walk = walk.specs_walk M gives chain here becomes look

    abbrev pub specs_seen : SpecsPlace → ℕ → CSpecs → M CSpecs
    specs_seen = walk.specs_seen M gives chain here becomes look

    abbrev pub declarator_walk : DeclaratorTree → M CShape
    declarator_walk = walk.declarator_walk M gives chain here becomes look

    abbrev pub derives_seen : ℕ → CTy → CShape → M CTy
    derives_seen = walk.derives_seen M gives chain here becomes look

    abbrev pub initialiser_walk : CTarget → InitialiserTree → M (List CStored)
    initialiser_walk = walk.initialiser_walk M gives chain here becomes look

    -- ---- scopes

    -- a block begins and ends (6.2.1p4)
    abbrev pub scope_begins : M CScope
    scope_begins = here >>= (λ scope. becomes (entered scope) >>= (λ _. just scope))

    abbrev pub scope_ends : {A : Type 0} → CScope → A → M A
    scope_ends before value = here >>= (λ scope. becomes (left (length before.declared) before.begins scope) >>= (λ _. just value))

    -- a branch or a body is a block of its own (6.8.4p3, 6.8.5p5)
    abbrev pub scoped : M CStated → M CStmt
    scoped inner = scope_begins >>= (λ before. inner >>= (λ one. scope_ends before (as_block one)))

    -- ---- declarations (6.7)

    abbrev pub init_walk : CTarget → Option InitialiserTree → M (List CStored)
    init_walk target None = just []
    init_walk target (Some init) = initialiser_walk target init

    abbrev pub begins_as : CScope → CDeclaring → CTy → M CBegun
    begins_as scope one written = becomes (with_declaration one scope) >>= (λ _. just (begun_as scope one written))

    abbrev pub declared_begins : SpecsPlace → CSpecs → List ℕ → ℕ → CTy → Bool → M CBegun
    declared_begins place specs name line type has_init = here >>= (λ scope.
        begins_as scope (declaring scope place specs name line type has_init) type)

    abbrev pub ends_as : SpecsPlace → CSpecs → ℕ → CScope → CBegun → Bool → CScope → CFilled → M CMeant
    ends_as place specs line before begun has_init scope filled =
        changed scope line
        (declares_node (record {
          where_stands = place;
          specs = specs;
          type = filled.type;
          linkage = begun.linkage;
          clashes = clashes_behind has_init scope begun filled.type;
          has_init = has_init;
        }))
        (with_content_if has_init begun filled scope)
        (declared_meant before scope (at_line scope line) begun has_init filled.puts)

    abbrev pub declared_ends : SpecsPlace → CSpecs → ℕ → CScope → CBegun → Bool → List CStored → M CMeant
    declared_ends place specs line before begun has_init stored = here >>= (λ scope.
        ends_as place specs line before begun has_init scope (content_of has_init scope.types begun stored))

    abbrev pub named_walk : SpecsPlace → CSpecs → ℕ → CTy → CShape → Option InitialiserTree → M CMeant
    named_walk place specs line type shape init = here >>= (λ before.
        declared_begins place specs (name_or_none shape.name) line type (is_some init) >>= (λ begun.
        init_walk begun.target init >>= (λ stored. declared_ends place specs line before begun (is_some init) stored)))

    abbrev pub init_declarator_walk : SpecsPlace → CSpecs → ℕ → InitDeclaratorTree → M CMeant
    init_declarator_walk place specs missing d = declarator_walk d.declarator >>= (λ shape.
        derives_seen (declarator_line missing d.declarator) (base_type specs) shape >>= (λ type.
        named_walk place specs (declarator_line missing d.declarator) type shape d.init))

    abbrev pub init_declarators_walk : SpecsPlace → CSpecs → ℕ → List InitDeclaratorTree → M CMeant
    init_declarators_walk place specs missing [] = just nothing_meant
    init_declarators_walk place specs missing (d ∷ ds) = init_declarator_walk place specs missing d >>= (λ one.
        init_declarators_walk place specs missing ds >>= (λ others. just (meant_behind one others)))

    abbrev pub empty_seen : ℕ → CSpecs → M CMeant
    empty_seen line specs = here >>= (λ scope. settled scope line (empty_node specs) nothing_meant)

    abbrev pub list_walk : SpecsPlace → CSpecs → ℕ → List InitDeclaratorTree → M CMeant
    list_walk place specs line [] = empty_seen line specs
    list_walk place specs line (d ∷ ds) = init_declarators_walk place specs line (d ∷ ds)

    abbrev pub decl_walk : SpecsPlace → DeclTree → M CMeant
    decl_walk place decl = specs_walk (declares_tag decl) no_specs_yet decl.specs >>= (λ all. specs_seen place (specs_line decl.specs) all >>= (λ _.
        list_walk place all (specs_line decl.specs) decl.list))

    -- ---- nodes of statements (6.8)

    abbrev pub label_seen : List ℕ → ℕ → CStated → M CStated
    label_seen name line inner = here >>= (λ scope.
        changed scope line (label_node name scope.body.labels) (record scope { body = record scope.body { labels = name ∷ scope.body.labels } })
        (labelled (at_line scope line) (label name) inner))

    abbrev pub case_as : CWhere → ℕ → COperand → CStated → CScope → Option ℤ → M CStated
    case_as where_is line value inner scope number =
        changed scope line (case_node where_is.in_switch value scope.body.cases)
        (record scope { body = record scope.body { cases = case_number number ∷ scope.body.cases } })
        (labelled (at_line scope line) (case (case_number number)) inner)

    abbrev pub case_by : CWhere → ℕ → COperand → CStated → CScope → Option CTy → M CStated
    case_by where_is line value inner scope None = case_as where_is line value inner scope None
    case_by where_is line value inner scope (Some type) = case_as where_is line value inner scope (case_value scope.types type value)

    abbrev pub case_seen : CWhere → ℕ → COperand → CStated → M CStated
    case_seen where_is line value inner = here >>= (λ scope. case_by where_is line value inner scope where_is.in_switch)

    abbrev pub default_seen : CWhere → ℕ → CStated → M CStated
    default_seen where_is line inner = here >>= (λ scope.
        changed scope line (default_node where_is.in_switch scope.body.has_default)
        (record scope { body = record scope.body { has_default = true } }) (labelled (at_line scope line) default inner))

    abbrev pub null_seen : ℕ → M CStated
    null_seen line = here >>= (λ scope. just (stated (at_line scope line) (expression None) []))

    -- an expression whose value isn't taken (6.8.3p2)
    abbrev pub dropped_seen : ℕ → COperand → M CExpr
    dropped_seen line value = here >>= (λ scope. settled scope line (dropped_node value) (dropped (value_of value)))

    abbrev pub dropped_walk : ExprTree → M CExpr
    dropped_walk value = expr_walk value >>= (λ one. dropped_seen (expr_line value) one)

    abbrev pub dropped_option : OptionExprTree → M (Option CExpr)
    dropped_option no_expr = just None
    dropped_option (some_expr value) = dropped_walk value >>= (λ one. just (Some one))

    abbrev pub expression_ends : CScope → ℕ → CExpr → M CStated
    expression_ends before line value = here >>= (λ scope.
        just (stated (at_line scope line) (expression (Some value)) (literals_since before scope)))

    abbrev pub expression_walk : ExprTree → M CStated
    expression_walk value = here >>= (λ before. dropped_walk value >>= (λ one. expression_ends before (expr_line value) one))

    abbrev pub controls_seen : ℕ → COperand → M Done
    controls_seen line value = here >>= (λ scope. settled scope line (controls_node value) tt)

    -- a block, or a selection or iteration statement, has ended, whose scope began so
    abbrev pub whole_ends : CScope → ℕ → CStmtForm → List ℕ → M CStated
    whole_ends before line form objects = here >>= (λ scope.
        becomes (left (length before.declared) before.begins scope)
        >>= (λ _. just (record { stmt = stmt (at_line scope line) objects form; objects = [] })))

    abbrev pub begun_with : CScope → COperand → M CTested
    begun_with before test = here >>= (λ scope. just (record { before = before; test = test; literals = literals_since before scope }))

    -- a statement begins with the expression that controls it (6.8.4, 6.8.5)
    abbrev pub tested_begins : ExprTree → M CTested
    tested_begins condition = scope_begins >>= (λ before. expr_walk condition >>= (λ test. begun_with before test))

    abbrev pub tested_ends : CTested → ℕ → CStmtForm → M CStated
    tested_ends begun line form = controls_seen line begun.test >>= (λ _. whole_ends begun.before line form begun.literals)

    -- the labels of a `switch` are its own (6.8.4.2p3)
    abbrev pub switch_begins : CWhere → COperand → M CWithin
    switch_begins where_is value = here >>= (λ scope.
        becomes (record scope { body = record scope.body { cases = []; has_default = false } })
        >>= (λ _. just (record { where_is = in_switch (promoted_type scope.types value) where_is; labels = scope.body })))

    abbrev pub switch_seen : ℕ → CLabels → COperand → M CExpr
    switch_seen line before value = here >>= (λ scope.
        changed scope line (switch_node value)
        (record scope { body = record scope.body { cases = before.cases; has_default = before.has_default } }) (promoted_value scope.types value))

    abbrev pub switch_ends : CTested → ℕ → CLabels → CStmt → M CStated
    switch_ends begun line labels body = switch_seen line labels begun.test >>= (λ value.
        whole_ends begun.before line (switch value body) begun.literals)

    abbrev pub do_ends : CScope → ℕ → ExprTree → CStmt → M CStated
    do_ends before line condition body = here >>= (λ behind. expr_walk condition >>= (λ test. begun_with behind test >>= (λ begun.
        controls_seen line test >>= (λ _. whole_ends before line (do_while body (value_of test)) begun.literals))))

    abbrev pub first_walk : ForFirstTree → M CMeant
    first_walk (FirstValue no_expr) = just nothing_meant
    first_walk (FirstValue (some_expr value)) = expression_walk value >>= (λ one. just (as_meant one))
    first_walk (FirstDeclared decl) = decl_walk ForClause decl

    abbrev pub for_with : CScope → CScope → CMeant → Option COperand → Option CExpr → M CFor
    for_with before behind first test next = here >>= (λ scope.
        just (record { before = before; first = first; test = test; next = next; literals = literals_since behind scope }))

    abbrev pub for_clauses : CScope → CMeant → OptionExprTree → OptionExprTree → M CFor
    for_clauses before first second third = here >>= (λ behind. option_walk second >>= (λ test. dropped_option third >>= (λ next.
        for_with before behind first test next)))

    -- the clauses of a `for` statement (6.8.5.3)
    abbrev pub for_begins : ForFirstTree → OptionExprTree → OptionExprTree → M CFor
    for_begins first second third = scope_begins >>= (λ before. first_walk first >>= (λ begun. for_clauses before begun second third))

    abbrev pub controls_option : ℕ → Option COperand → M Done
    controls_option line None = just tt
    controls_option line (Some value) = controls_seen line value

    abbrev pub for_ends : CFor → ℕ → CStmt → M CStated
    for_ends begun line body = controls_option line begun.test >>= (λ _.
        whole_ends begun.before line (for_loop (stmts_of begun.first.stmts) (option_value begun.test) begun.next body) (begun.first.objects ++ begun.literals))

    abbrev pub goto_seen : CWhere → List ℕ → ℕ → M CStated
    goto_seen where_is name line = here >>= (λ scope.
        settled scope line (goto_node name where_is.labels) (stated (at_line scope line) (goto name) []))

    abbrev pub jump_seen : ℕ → Bool → CStmtForm → M CStated
    jump_seen line is_inside form = here >>= (λ scope. settled scope line (jump_node is_inside) (stated (at_line scope line) form []))

    abbrev pub return_as : CWhere → CScope → ℕ → CScope → Option COperand → M CStated
    return_as where_is before line scope None =
        settled scope line (return_node where_is.result None) (stated (at_line scope line) (returns None) [])
    return_as where_is before line scope (Some value) =
        settled scope line (return_node where_is.result (Some value))
        (stated (at_line scope line) (returns (Some (fitted scope.types where_is.result (value_of value)))) (literals_since before scope))

    abbrev pub return_seen : CWhere → CScope → ℕ → Option COperand → M CStated
    return_seen where_is before line value = here >>= (λ scope. return_as where_is before line scope value)

    -- ---- statements

    abbrev mutual
      pub stmt_walk : CWhere → StmtTree → M CStated
      stmt_walk where_is (Label name inner lines) = stmt_walk where_is inner >>= (λ one. label_seen name (own_line lines) one)
      stmt_walk where_is (Case value inner lines) = expr_walk value >>= (λ number. stmt_walk where_is inner >>= (λ one.
          case_seen where_is (own_line lines) number one))
      stmt_walk where_is (Default inner lines) = stmt_walk where_is inner >>= (λ one. default_seen where_is (own_line lines) one)
      stmt_walk where_is (Block items lines) = scope_begins >>= (λ before. items_walk where_is items >>= (λ all.
          whole_ends before (own_line lines) (block (stmts_of all.stmts)) all.objects))
      stmt_walk where_is (ExprStmt no_expr lines) = null_seen (own_line lines)
      stmt_walk where_is (ExprStmt (some_expr value) lines) = expression_walk value
      stmt_walk where_is (If condition branch otherwise lines) = tested_begins condition >>= (λ begun. scoped (stmt_walk where_is branch) >>= (λ one.
          else_walk where_is otherwise >>= (λ other. tested_ends begun (own_line lines) (if_then (value_of begun.test) one other))))
      stmt_walk where_is (Switch on body lines) = tested_begins on >>= (λ begun. switch_begins where_is begun.test >>= (λ within.
          scoped (stmt_walk within.where_is body) >>= (λ one. switch_ends begun (own_line lines) within.labels one)))
      stmt_walk where_is (While condition body lines) = tested_begins condition >>= (λ begun. scoped (stmt_walk (in_loop where_is) body) >>= (λ one.
          tested_ends begun (own_line lines) (while (value_of begun.test) one)))
      stmt_walk where_is (Do body condition lines) = scope_begins >>= (λ before. scoped (stmt_walk (in_loop where_is) body) >>= (λ one.
          do_ends before (own_line lines) condition one))
      stmt_walk where_is (For first second third body lines) = for_begins first second third >>= (λ begun.
          scoped (stmt_walk (in_loop where_is) body) >>= (λ one. for_ends begun (own_line lines) one))
      stmt_walk where_is (Goto name lines) = goto_seen where_is name (own_line lines)
      stmt_walk where_is (Continue lines) = jump_seen (own_line lines) where_is.in_loop continue
      stmt_walk where_is (Break lines) = jump_seen (own_line lines) (where_is.in_loop || is_some where_is.in_switch) break
      stmt_walk where_is (Return value lines) = here >>= (λ before. option_walk value >>= (λ one. return_seen where_is before (own_line lines) one))

      pub else_walk : CWhere → OptionStmtTree → M COtherwise
      else_walk where_is no_stmt = just no_else
      else_walk where_is (some_stmt inner) = scoped (stmt_walk where_is inner) >>= (λ one. just (else_do one))

      pub item_walk : CWhere → ItemTree → M CMeant
      item_walk where_is (Statement inner) = stmt_walk where_is inner >>= (λ one. just (as_meant one))
      item_walk where_is (Declared decl) = decl_walk InBlock decl

      pub items_walk : CWhere → ItemTrees → M CMeant
      items_walk where_is no_items = just nothing_meant
      items_walk where_is (more_items first others) = item_walk where_is first >>= (λ one. items_walk where_is others >>= (λ more.
          just (meant_behind one more)))

    -- ---- units (6.9)

    abbrev pub head_as : CSpecs → ℕ → CShape → CTy → CScope → CDeclaring → M CHead
    head_as specs line shape written scope one =
        changed scope line
        (head_node (record { specs = specs; type = written; steps = shape.steps; clashes = clashes scope one.name (is_typedef specs) written one.linkage true }))
        (with_head one written shape.steps scope)
        (record { before = scope; declaring = one; number = head_number scope one; written = written; params = own_params shape.steps })

    -- what the declarator of a definition says is looked at before its body
    abbrev pub head_seen : CSpecs → ℕ → CShape → CTy → M CHead
    head_seen specs line shape written = here >>= (λ scope.
        head_as specs line shape written scope (declaring scope Definition specs (name_or_none shape.name) line written true))

    abbrev pub body_ends : CHead → CStmt → M Done
    body_ends head body = here >>= (λ scope.
        becomes (with_body head.before (fun_of scope head.declaring head.number head.written head.params body) scope))

    -- the body of a function is a block whose scope is that of its parameters
    abbrev pub function_body : CHead → StmtTree → M CStmt
    function_body head (Block items lines) = items_walk (where_in head (Block items lines)) items >>= (λ all.
        here >>= (λ scope. just (stmt (at_line scope (own_line lines)) all.objects (block (stmts_of all.stmts)))))
    function_body head body = stmt_walk (where_in head body) body >>= (λ one. just (as_block one))

    abbrev pub head_walk : CSpecs → ℕ → DeclaratorTree → M CHead
    head_walk specs missing declarator = declarator_walk declarator >>= (λ shape.
        derives_seen (declarator_line missing declarator) (base_type specs) shape >>= (λ type.
        head_seen specs (declarator_line missing declarator) shape (defined_type type)))

    abbrev pub definition_walk : DefinitionTree → M Done
    definition_walk d = specs_walk false no_specs_yet d.specs >>= (λ all. specs_seen Definition (specs_line d.specs) all >>= (λ _.
        head_walk all (specs_line d.specs) d.declarator >>= (λ head. function_body head d.body >>= (λ body. body_ends head body))))

    abbrev pub external_walk : ExternalTree → M Done
    external_walk (Defined d) = definition_walk d
    external_walk (Declaration decl) = decl_walk File decl >>= (λ _. just tt)

    abbrev pub externals_walk : List ExternalTree → M Done
    externals_walk [] = just tt
    externals_walk (first ∷ others) = external_walk first >>= (λ _. externals_walk others)

    abbrev pub tentative_seen : CThing → M Done
    tentative_seen one = here >>= (λ scope. settled scope (tentative_line one) (tentative_node one.type) tt)

    abbrev pub tentatives_seen : List CThing → M Done
    tentatives_seen [] = just tt
    tentatives_seen (one ∷ others) = tentative_seen one >>= (λ _. tentatives_seen others)

    abbrev pub unit_ends : M CUnit
    unit_ends = here >>= (λ scope. tentatives_seen (tentative_things scope.things) >>= (λ _. just (unit_of scope)))

    -- a unit
    abbrev pub unit_walk : UnitTree → M CUnit
    unit_walk unit = externals_walk unit.parts >>= (λ _. unit_ends)
