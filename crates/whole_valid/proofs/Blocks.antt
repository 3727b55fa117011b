-- The parameters of a function and the objects of its blocks have complete types (ISO C99, 6.7p7, 6.9.1p7).
use Rattle.std.proofs.Common.{◌≡◌, ℕ, List, [], ◌∷◌, ◌++◌, Option, Some, None, IsSome, IfSome, All, refl, sym, subst}
use Rattle.std.proofs.lemmas.List.Elements.{All-append, All-cons, All-nil}
use Rattle.cx_core.specs.Statements.{objects_in, objects_in_form, objects_in_else, objects_in_list, CBody, with_objects, within_loop, within_switch, IsBlockObject, AreBlockObjects, IsParamObject, AreParams, AreParamsOf, IsDefinitionOf, IsTypedStmt, IsTypedStmtForm, IsTypedElse, AreTypedStmts}
use Rattle.cx_core.specs.Trees.{CTyForm, function, CParams, unlisted, listed, CTys, no_types, more_types, CStmt, stmt, CStmtForm, label, case, default, block, expression, if_then, switch, while, do_while, for_loop, goto, continue, break, returns, begin, COtherwise, no_else, else_do, CStmts, no_stmts, more_stmts, CObject, CFun, CProgram, type_of}
use Rattle.cx_core.specs.Typing.{CHome, object_with}
use Rattle.cx_core.specs.ValidTypes.{IsComplete}

-- an object of a complete type
pub record IsBlockOf (program : CProgram) (number : ℕ) : Type 0 where
  pub known : CObject
  pub found : object_with number program.objects ≡ Some known
  pub complete : IsComplete program.types known.type

block_by : (program : CProgram) (number : ℕ) (P : CObject → Type 0) → ((known : CObject) → P known → IsComplete program.types known.type) → (found : Option CObject)
    → object_with number program.objects ≡ found → IsSome found → IfSome found P → IsBlockOf program number
block_by program number P goes None is some held = absurd cc
block_by program number P goes (Some known) is some held = record { known = known; found = is; complete = goes known held }

of_blocks : (home : CHome) (objects : List ℕ) → AreBlockObjects home objects → All (IsBlockOf home.program) objects
of_blocks home [] held = All-nil (IsBlockOf home.program)
of_blocks home (number ∷ others) held =
    All-cons (IsBlockOf home.program) number others
    (block_by home.program number (IsBlockObject home) (λ known is. is.complete) (object_with number home.program.objects) refl held.0 held.1)
    (of_blocks home others held.2)

mutual
  blocks_in : (body : CBody) (declares : List ℕ) (of : CStmt) → IsTypedStmt body declares of → All (IsBlockOf body.home.program) (objects_in of)
  blocks_in body declares (stmt place objects form) held =
      All-append (IsBlockOf body.home.program) objects (objects_in_form form) (of_blocks body.home objects held.0)
      (blocks_in_form (with_objects objects body) declares objects form held.1)

  blocks_in_form : (body : CBody) (declares objects : List ℕ) (form : CStmtForm) → IsTypedStmtForm body declares objects form
      → All (IsBlockOf body.home.program) (objects_in_form form)
  blocks_in_form body declares objects (label name inner) held = blocks_in body [] inner held
  blocks_in_form body declares objects (case value inner) held = blocks_in body [] inner held.1
  blocks_in_form body declares objects (default inner) held = blocks_in body [] inner held.1
  blocks_in_form body declares objects (block stmts) held = blocks_in_list body objects stmts held
  blocks_in_form body declares objects (expression value) held = All-nil (IsBlockOf body.home.program)
  blocks_in_form body declares objects (if_then test inner otherwise) held =
      All-append (IsBlockOf body.home.program) (objects_in inner) (objects_in_else otherwise) (blocks_in body [] inner held.1) (blocks_in_else body otherwise held.2)
  blocks_in_form body declares objects (switch value inner) held = blocks_in (within_switch (type_of value) body) [] inner held.2
  blocks_in_form body declares objects (while test inner) held = blocks_in (within_loop body) [] inner held.1
  blocks_in_form body declares objects (do_while inner test) held = blocks_in (within_loop body) [] inner held.0
  blocks_in_form body declares objects (for_loop first test next inner) held =
      All-append (IsBlockOf body.home.program) (objects_in_list first) (objects_in inner) (blocks_in_list body objects first held.1)
      (blocks_in (within_loop body) [] inner held.4)
  blocks_in_form body declares objects (goto name) held = All-nil (IsBlockOf body.home.program)
  blocks_in_form body declares objects continue held = All-nil (IsBlockOf body.home.program)
  blocks_in_form body declares objects break held = All-nil (IsBlockOf body.home.program)
  blocks_in_form body declares objects (returns value) held = All-nil (IsBlockOf body.home.program)
  blocks_in_form body declares objects (begin number puts) held = All-nil (IsBlockOf body.home.program)

  blocks_in_else : (body : CBody) (otherwise : COtherwise) → IsTypedElse body otherwise → All (IsBlockOf body.home.program) (objects_in_else otherwise)
  blocks_in_else body no_else held = All-nil (IsBlockOf body.home.program)
  blocks_in_else body (else_do inner) held = blocks_in body [] inner held

  blocks_in_list : (body : CBody) (declares : List ℕ) (stmts : CStmts) → AreTypedStmts body declares stmts → All (IsBlockOf body.home.program) (objects_in_list stmts)
  blocks_in_list body declares no_stmts held = All-nil (IsBlockOf body.home.program)
  blocks_in_list body declares (more_stmts first others) held =
      All-append (IsBlockOf body.home.program) (objects_in first) (objects_in_list others) (blocks_in body declares first held.0)
      (blocks_in_list body declares others held.1)

-- ---- parameters

of_params : (home : CHome) (params : List ℕ) (types : CTys) → AreParams home params types → All (IsBlockOf home.program) params
of_params home [] types held = All-nil (IsBlockOf home.program)
of_params home (number ∷ others) no_types held = absurd held
of_params home (number ∷ others) (more_types type types) held =
    All-cons (IsBlockOf home.program) number others
    (block_by home.program number (IsParamObject home type) (λ known is. is.object.complete) (object_with number home.program.objects) refl held.0 held.1)
    (of_params home others types held.2)

of_params_of : (home : CHome) (params : List ℕ) (types : CParams) → AreParamsOf home params types → All (IsBlockOf home.program) params
of_params_of home params unlisted held = subst (All (IsBlockOf home.program)) (sym held) (All-nil (IsBlockOf home.program))
of_params_of home params (listed types) held = of_params home params types held

pub of_definition : (home : CHome) (one : CFun) (form : CTyForm) → IsDefinitionOf home one form → All (IsBlockOf home.program) (one.params ++ objects_in one.body)
of_definition home one (function result params variadic) held =
    All-append (IsBlockOf home.program) one.params (objects_in one.body) (of_params_of home one.params params held.params_are)
    (blocks_in _ [] one.body held.body)
of_definition home one form held = absurd held
