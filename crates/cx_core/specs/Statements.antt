-- Typed statements and functions (ISO C99, 6.8 and 6.9.1).
use Rattle.std.specs.Prelude.{◌≡◌, ◌⊎◌, ℕ, ◌+◌, ◌≤◌, ℤ, Bool, true, false, ◌||◌, List, [], ◌∷◌, ◌++◌, Option, Some, None, IfSome, IsSome, IsTrue, ◌&&◌, bytes_eq}
use Rattle.std.specs.List.{Contains, IsDistinct}
use Rattle.std.specs.Ordering.{int_eq}
use Rattle.cr_base.specs.Scalar.{IsInRange}
use Rattle.cx_core.specs.declared.program.Linkage.TheVariants.{Nothing}
use Rattle.cx_core.specs.Conversions.{scalar_of, IsPromoted, IsScalarType}
use Rattle.cx_core.specs.Trees.{CTy, CTyForm, void, function, CParams, unlisted, listed, CTys, no_types, more_types, form_of_type, unqualified, CExpr, type_of, CPuts, CStmt, stmt, CStmtForm, label, case, default, block, expression, if_then, switch, while, do_while, for_loop, goto, continue, break, returns, begin, COtherwise, no_else, else_do, CStmts, no_stmts, more_stmts, CObject, CFun}
use Rattle.cx_core.specs.Typing.{CHome, types_of_home, object_with, IsTyped, AreTypedPuts, IsResult}
use Rattle.cx_core.specs.ValidTypes.{IsComplete}

-- ---- what stands in a statement

abbrev mutual
  -- the labels of a statement (6.8.1)
  pub labels_in : CStmt → List (List ℕ)
  labels_in (stmt place objects form) = labels_in_form form

  pub labels_in_form : CStmtForm → List (List ℕ)
  labels_in_form (label name body) = name ∷ labels_in body
  labels_in_form (case value body) = labels_in body
  labels_in_form (default body) = labels_in body
  labels_in_form (block stmts) = labels_in_list stmts
  labels_in_form (if_then test body otherwise) = labels_in body ++ labels_in_else otherwise
  labels_in_form (switch value body) = labels_in body
  labels_in_form (while test body) = labels_in body
  labels_in_form (do_while body test) = labels_in body
  labels_in_form (for_loop first test next body) = labels_in body
  labels_in_form (expression value) = []
  labels_in_form (goto name) = []
  labels_in_form continue = []
  labels_in_form break = []
  labels_in_form (returns value) = []
  labels_in_form (begin number puts) = []

  pub labels_in_else : COtherwise → List (List ℕ)
  labels_in_else no_else = []
  labels_in_else (else_do body) = labels_in body

  pub labels_in_list : CStmts → List (List ℕ)
  labels_in_list no_stmts = []
  labels_in_list (more_stmts first others) = labels_in first ++ labels_in_list others

abbrev mutual
  -- the values of the `case` labels that belong to a `switch` of which this is the body (6.8.4.2)
  pub cases_in : CStmt → List ℤ
  cases_in (stmt place objects form) = cases_in_form form

  pub cases_in_form : CStmtForm → List ℤ
  cases_in_form (label name body) = cases_in body
  cases_in_form (case value body) = value ∷ cases_in body
  cases_in_form (default body) = cases_in body
  cases_in_form (block stmts) = cases_in_list stmts
  cases_in_form (if_then test body otherwise) = cases_in body ++ cases_in_else otherwise
  cases_in_form (switch value body) = []
  cases_in_form (while test body) = cases_in body
  cases_in_form (do_while body test) = cases_in body
  cases_in_form (for_loop first test next body) = cases_in body
  cases_in_form (expression value) = []
  cases_in_form (goto name) = []
  cases_in_form continue = []
  cases_in_form break = []
  cases_in_form (returns value) = []
  cases_in_form (begin number puts) = []

  pub cases_in_else : COtherwise → List ℤ
  cases_in_else no_else = []
  cases_in_else (else_do body) = cases_in body

  pub cases_in_list : CStmts → List ℤ
  cases_in_list no_stmts = []
  cases_in_list (more_stmts first others) = cases_in first ++ cases_in_list others

abbrev mutual
  -- how many `default` labels belong to a `switch` of which this is the body
  pub defaults_in : CStmt → ℕ
  defaults_in (stmt place objects form) = defaults_in_form form

  pub defaults_in_form : CStmtForm → ℕ
  defaults_in_form (label name body) = defaults_in body
  defaults_in_form (case value body) = defaults_in body
  defaults_in_form (default body) = 1 + defaults_in body
  defaults_in_form (block stmts) = defaults_in_list stmts
  defaults_in_form (if_then test body otherwise) = defaults_in body + defaults_in_else otherwise
  defaults_in_form (switch value body) = 0
  defaults_in_form (while test body) = defaults_in body
  defaults_in_form (do_while body test) = defaults_in body
  defaults_in_form (for_loop first test next body) = defaults_in body
  defaults_in_form (expression value) = 0
  defaults_in_form (goto name) = 0
  defaults_in_form continue = 0
  defaults_in_form break = 0
  defaults_in_form (returns value) = 0
  defaults_in_form (begin number puts) = 0

  pub defaults_in_else : COtherwise → ℕ
  defaults_in_else no_else = 0
  defaults_in_else (else_do body) = defaults_in body

  pub defaults_in_list : CStmts → ℕ
  defaults_in_list no_stmts = 0
  defaults_in_list (more_stmts first others) = defaults_in first + defaults_in_list others

abbrev mutual
  -- the objects whose block a statement is, or one that stands in it
  pub objects_in : CStmt → List ℕ
  objects_in (stmt place objects form) = objects ++ objects_in_form form

  pub objects_in_form : CStmtForm → List ℕ
  objects_in_form (label name body) = objects_in body
  objects_in_form (case value body) = objects_in body
  objects_in_form (default body) = objects_in body
  objects_in_form (block stmts) = objects_in_list stmts
  objects_in_form (if_then test body otherwise) = objects_in body ++ objects_in_else otherwise
  objects_in_form (switch value body) = objects_in body
  objects_in_form (while test body) = objects_in body
  objects_in_form (do_while body test) = objects_in body
  objects_in_form (for_loop first test next body) = objects_in_list first ++ objects_in body
  objects_in_form (expression value) = []
  objects_in_form (goto name) = []
  objects_in_form continue = []
  objects_in_form break = []
  objects_in_form (returns value) = []
  objects_in_form (begin number puts) = []

  pub objects_in_else : COtherwise → List ℕ
  objects_in_else no_else = []
  objects_in_else (else_do body) = objects_in body

  pub objects_in_list : CStmts → List ℕ
  objects_in_list no_stmts = []
  objects_in_list (more_stmts first others) = objects_in first ++ objects_in_list others

-- ---- where a statement stands

pub record CBody : Type 0 where
  pub home : CHome
  -- the result type of the function
  pub result : CTy
  -- the labels of the function
  pub labels : List (List ℕ)
  -- whether an iteration statement holds it
  pub in_loop : Bool
  -- the type of the innermost `switch` that holds it
  pub in_switch : Option CTy

-- in a block with these objects
abbrev pub with_objects : List ℕ → CBody → CBody
with_objects objects body = record body { home = record body.home { scope = objects ++ body.home.scope } }

abbrev pub within_loop : CBody → CBody
within_loop body = record body { in_loop = true }

abbrev pub within_switch : CTy → CBody → CBody
within_switch type body = record body { in_switch = Some type }

-- ---- statements

-- an object of a block that isn't static (6.2.4p5)
pub record IsBlockObject (home : CHome) (one : CObject) : Type 0 where
  pub no_linkage : one.linkage ≡ Nothing
  pub not_static : one.puts ≡ None
  pub here : one.unit ≡ home.unit
  pub complete : IsComplete (types_of_home home) one.type

abbrev pub AreBlockObjects : CHome → List ℕ → Type 0
AreBlockObjects home [] = Unit {0}
AreBlockObjects home (number ∷ others) =
    IsSome (object_with number home.program.objects)
    × IfSome (object_with number home.program.objects) (IsBlockObject home)
    × AreBlockObjects home others

-- a condition is scalar (6.8.4.1p1, 6.8.5p2)
abbrev pub IsCondition : CHome → CExpr → Type 0
IsCondition home test = IsTyped home test × IsScalarType (types_of_home home) (type_of test)

abbrev pub IsVoid : CTy → Type 0
IsVoid type = form_of_type type ≡ void

-- an expression whose value isn't taken has type `void` (6.8.3p2)
abbrev pub IsVoidExpr : CHome → CExpr → Type 0
IsVoidExpr home value = IsTyped home value × IsVoid (type_of value)

-- a `case` label stands in a `switch`, with a value of its type (6.8.4.2p5)
abbrev pub IsCase : CBody → ℤ → Type 0
IsCase body value =
    IsSome body.in_switch
    × IfSome body.in_switch (λ type. IfSome (scalar_of (types_of_home body.home) (form_of_type type)) (λ scalar. IsInRange scalar value))

-- a `switch` is over a promoted integer type; no two of its `case` labels have one value, and it has at most one `default`
-- (6.8.4.2p1, p3)
pub record IsSwitch (type : CTy) (within : CStmt) : Type 0 where
  pub promoted : IsPromoted type
  pub cases_differ : IsDistinct int_eq (cases_in within)
  pub one_default : defaults_in within ≤ 1

-- `return` in a function with a result type gives a value of it, and in another one none (6.8.6.4)
abbrev pub IsReturn : CHome → CTy → Option CExpr → Type 0
IsReturn home result None = IsVoid result
IsReturn home result (Some value) =
    IsTyped home value × IsComplete (types_of_home home) result × (type_of value ≡ unqualified result)

abbrev is_declaration : CStmt → Bool
is_declaration (stmt place objects (begin number puts)) = true
is_declaration (stmt place objects _) = false

abbrev are_declarations : CStmts → Bool
are_declarations no_stmts = true
are_declarations (more_stmts first others) = is_declaration first && are_declarations others

abbrev is_expression : CStmt → Bool
is_expression (stmt place objects (expression (Some value))) = true
is_expression (stmt place objects _) = false

abbrev is_one_expression : CStmts → Bool
is_one_expression (more_stmts first no_stmts) = is_expression first
is_one_expression _ = false

-- the first part of a `for`: declarations, or one expression statement, or nothing (6.8.5.3)
abbrev pub IsForFirst : CStmts → Type 0
IsForFirst stmts = IsTrue (are_declarations stmts || is_one_expression stmts)

-- the object of a declaration, and what its initialiser stores there (6.7.8)
pub record IsDeclared (home : CHome) (puts : Option CPuts) (one : CObject) : Type 0 where
  pub named : IsSome one.name
  pub stored : IfSome puts (AreTypedPuts home one.type)

-- a declaration stands right in the block of its object
abbrev pub IsBegin : CHome → List ℕ → ℕ → Option CPuts → Type 0
IsBegin home declares number puts =
    Contains declares number
    × IsSome (object_with number home.program.objects)
    × IfSome (object_with number home.program.objects) (IsDeclared home puts)

abbrev mutual
  -- a typed statement of a function; the list is of the objects that may be declared right there
  pub IsTypedStmt : CBody → List ℕ → CStmt → Type 0
  IsTypedStmt body declares (stmt place objects form) =
      AreBlockObjects body.home objects × IsTypedStmtForm (with_objects objects body) declares objects form

  -- the form of a statement, in the block of its objects
  pub IsTypedStmtForm : CBody → List ℕ → List ℕ → CStmtForm → Type 0
  IsTypedStmtForm body declares objects (label name inner) = IsTypedStmt body [] inner
  IsTypedStmtForm body declares objects (case value inner) = IsCase body value × IsTypedStmt body [] inner
  IsTypedStmtForm body declares objects (default inner) = IsSome body.in_switch × IsTypedStmt body [] inner
  IsTypedStmtForm body declares objects (block stmts) = AreTypedStmts body objects stmts
  IsTypedStmtForm body declares objects (expression None) = Unit {0}
  IsTypedStmtForm body declares objects (expression (Some value)) = IsVoidExpr body.home value
  IsTypedStmtForm body declares objects (if_then test inner otherwise) =
      IsCondition body.home test × IsTypedStmt body [] inner × IsTypedElse body otherwise
  IsTypedStmtForm body declares objects (switch value inner) =
      IsTyped body.home value × IsSwitch (type_of value) inner × IsTypedStmt (within_switch (type_of value) body) [] inner
  IsTypedStmtForm body declares objects (while test inner) =
      IsCondition body.home test × IsTypedStmt (within_loop body) [] inner
  IsTypedStmtForm body declares objects (do_while inner test) =
      IsTypedStmt (within_loop body) [] inner × IsCondition body.home test
  IsTypedStmtForm body declares objects (for_loop first test next inner) =
      IsForFirst first × AreTypedStmts body objects first
      × IfSome test (IsCondition body.home) × IfSome next (IsVoidExpr body.home)
      × IsTypedStmt (within_loop body) [] inner
  IsTypedStmtForm body declares objects (goto name) = Contains body.labels name
  IsTypedStmtForm body declares objects continue = body.in_loop ≡ true
  IsTypedStmtForm body declares objects break = (body.in_loop ≡ true) ⊎ IsSome body.in_switch
  IsTypedStmtForm body declares objects (returns value) = IsReturn body.home body.result value
  IsTypedStmtForm body declares objects (begin number puts) = IsBegin body.home declares number puts

  pub IsTypedElse : CBody → COtherwise → Type 0
  IsTypedElse body no_else = Unit {0}
  IsTypedElse body (else_do inner) = IsTypedStmt body [] inner

  -- statements right in the block of these objects
  pub AreTypedStmts : CBody → List ℕ → CStmts → Type 0
  AreTypedStmts body declares no_stmts = Unit {0}
  AreTypedStmts body declares (more_stmts first others) = IsTypedStmt body declares first × AreTypedStmts body declares others

-- ---- functions (6.9.1)

-- each parameter is an object of its type, which is complete (6.9.1p7, 6.7.5.3p4)
pub record IsParamObject (home : CHome) (type : CTy) (one : CObject) : Type 0 where
  pub object : IsBlockObject home one
  pub type_is : unqualified one.type ≡ unqualified type

abbrev pub AreParams : CHome → List ℕ → CTys → Type 0
AreParams home [] no_types = Unit {0}
AreParams home [] (more_types type types) = ⊥
AreParams home (number ∷ numbers) no_types = ⊥
AreParams home (number ∷ numbers) (more_types type types) =
    IsSome (object_with number home.program.objects)
    × IfSome (object_with number home.program.objects) (IsParamObject home type)
    × AreParams home numbers types

-- a definition without parameter list has no parameters (6.7.5.3p14)
abbrev pub AreParamsOf : CHome → List ℕ → CParams → Type 0
AreParamsOf home numbers unlisted = numbers ≡ []
AreParamsOf home numbers (listed types) = AreParams home numbers types

-- the body of a function is a block
abbrev pub IsBlock : CStmt → Type 0
IsBlock (stmt place objects (block stmts)) = Unit {0}
IsBlock (stmt place objects _) = ⊥

-- where the body of a function with a result type stands
abbrev pub body_of : CHome → CTy → CFun → CBody
body_of home result one = record {
  home = record home { scope = one.params };
  result = result;
  labels = labels_in one.body;
  in_loop = false;
  in_switch = None;
}

-- a definition of a function of a type, which isn't variadic in this profile
pub record IsDefinition (home : CHome) (one : CFun) (result : CTy) (params : CParams) (variadic : Bool) : Type 0 where
  pub fixed : variadic ≡ false
  pub result_complete : IsResult (types_of_home home) result
  pub params_are : AreParamsOf home one.params params
  pub labels_differ : IsDistinct bytes_eq (labels_in one.body)
  pub is_block : IsBlock one.body
  pub body : IsTypedStmt (body_of home result one) [] one.body

abbrev pub IsDefinitionOf : CHome → CFun → CTyForm → Type 0
IsDefinitionOf home one (function result params variadic) = IsDefinition home one result params variadic
IsDefinitionOf home one _ = ⊥
