-- A typed statement of a unit, renumbered, is typed in the program (ISO C99, 6.8).
use Rattle.std.proofs.Common.{◌≡◌, ℕ, zero, suc, ◌≤◌, ℤ, Bool, true, List, [], ◌∷◌, ◌++◌, map, length, get_or, Option, None, Some, option_map, refl, sym, ap, ◌∙◌, subst, arith}
use Rattle.std.specs.Prelude.{IsSome, IfSome, ◌<◌}
use Rattle.std.specs.List.{IsDistinct}
use Rattle.std.specs.Ordering.{int_eq}
use Rattle.cr_base.specs.Scalar.{IsInRange}
use Rattle.cr_base.specs.declared.scalar.Scalar.{Scalar}
use Rattle.cx_core.specs.declared.program.Linkage.TheVariants.{Nothing}
use Rattle.cx_core.specs.Conversions.{IsScalarType}
use Rattle.cx_core.specs.Statements.{CBody, IsBlockObject, AreBlockObjects, IsCondition, IsVoid, IsVoidExpr, IsCase, IsSwitch, IsReturn, IsDeclared, IsBegin, IsTypedStmt, IsTypedStmtForm, IsTypedElse, AreTypedStmts}
use Rattle.cx_core.specs.Trees.{CTy, unqualified, CExpr, type_of, CPuts, CStmt, stmt, CStmtForm, label, case, default, block, expression, if_then, switch, while, do_while, for_loop, goto, continue, break, returns, begin, COtherwise, no_else, else_do, CStmts, no_stmts, more_stmts, CObject, CProgram, CMention}
use Rattle.cx_core.specs.Typing.{CHome, object_with, IsTyped, AreTypedPuts}
use Rattle.cx_core.specs.ValidTypes.{IsTypeIn}
use Rattle.cx_renumber.specs.Numbers.{CNumbers, type_there, form_there, expr_there, puts_there, stmt_there, action_there, else_there, stmts_there, object_there}
use Rattle.cx_typed_links.proofs.Expressions.{typed_as, expr_goes, typed_known, typed_puts_go}
use Rattle.cx_typed_links.proofs.Labels.{cases_go, defaults_go, for_first_goes}
use Rattle.cx_typed_links.proofs.Listed.{contains_there, map_joined}
use Rattle.cx_typed_links.proofs.Operators.{either, scalar_goes}
use Rattle.cx_typed_links.proofs.Sizes.{complete_there}
use Rattle.cx_typed_links.proofs.Types.{form_of_there, unqualified_there, is_promoted_there, scalar_same}
use Rattle.cx_typed_links.specs.Homes.{home_here, home_there, NamesHold}

module _ (unit : ℕ) (numbers : CNumbers) (mentions : Option (List CMention)) (one program : CProgram) (holds : NamesHold unit numbers mentions one program) where
  abbrev moved : CTy → CTy
  moved type = type_there numbers.before type

  abbrev renamed : List ℕ → List ℕ
  renamed all = map numbers.object_for all

  abbrev here : List ℕ → CHome
  here scope = home_here unit numbers mentions one program scope

  abbrev there : List ℕ → CHome
  there scope = home_there unit numbers mentions one program scope

  abbrev known_in : CTy → Type 0
  known_in type = IsTypeIn one.types unit type

  -- ---- the objects of blocks

  -- an object without linkage
  abbrev IsOwn : ℕ → Type 0
  IsOwn number = IfSome (object_with number one.objects) (λ known. known.linkage ≡ Nothing)

  abbrev AreOwn : List ℕ → Type 0
  AreOwn [] = Unit {0}
  AreOwn (number ∷ others) = IsOwn number × AreOwn others

  pub own_of : (scope : List ℕ) (found : Option CObject) → IfSome found (IsBlockObject (here scope)) → IfSome found (λ known. known.linkage ≡ Nothing)
  own_of scope None held = held
  own_of scope (Some known) held = held.no_linkage

  pub all_own : (scope objects : List ℕ) → AreBlockObjects (here scope) objects → AreOwn objects
  all_own scope [] held = tt
  all_own scope (number ∷ others) held = (own_of scope (object_with number one.objects) held.1, all_own scope others held.2)

  own_at : (objects : List ℕ) (number k : ℕ) → AreOwn objects → k < length objects → get_or objects k number ≡ number → IsOwn number
  own_at [] number k own less is = absurd (omega arith)
  own_at (first ∷ others) number zero own less is = subst IsOwn is own.0
  own_at (first ∷ others) number (suc k) own less is = own_at others number k own.1 (omega arith) is

  pub object_moved : (number : ℕ) (found : Option CObject) → object_with number one.objects ≡ found → (P Q : CObject → Type 0)
      → ((known : CObject) → P known → Q (object_there numbers known)) → IfSome found (λ known. known.linkage ≡ Nothing)
      → IsSome found → IfSome found P
      → IsSome (object_with (numbers.object_for number) program.objects) × IfSome (object_with (numbers.object_for number) program.objects) Q
  object_moved number None is P Q goes own some held = absurd cc
  object_moved number (Some known) is P Q goes own some held =
      subst (λ (other : Option CObject). IsSome other × IfSome other Q) (sym (holds.own_objects number known is own)) (refl, goes known held)

  pub block_object_goes : (scope : List ℕ) (known : CObject) → IsBlockObject (here scope) known → IsBlockObject (there scope) (object_there numbers known)
  block_object_goes scope known held = record {
    no_linkage = held.no_linkage;
    not_static = ap (option_map (puts_there numbers)) held.not_static;
    here = held.here;
    complete = complete_there numbers.before one.types program.types holds.types.inside known.type held.complete;
  }

  pub block_objects_go : (scope objects : List ℕ) → AreBlockObjects (here scope) objects → AreBlockObjects (there scope) (renamed objects)
  block_objects_go scope [] held = tt
  block_objects_go scope (number ∷ others) held =
      let found = object_moved number (object_with number one.objects) refl (IsBlockObject (here scope)) (IsBlockObject (there scope))
      (block_object_goes scope) (own_of scope (object_with number one.objects) held.1) held.0 held.1 in
      (found.0, found.1, block_objects_go scope others held.2)

  stored_goes : (scope : List ℕ) (type : CTy) (puts : Option CPuts) → IfSome puts (AreTypedPuts (here scope) type)
      → IfSome (option_map (puts_there numbers) puts) (AreTypedPuts (there scope) (moved type))
  stored_goes scope type None held = held
  stored_goes scope type (Some puts) held = typed_puts_go unit numbers mentions one program holds scope type puts held

  declared_goes : (scope : List ℕ) (puts : Option CPuts) (known : CObject) → IsDeclared (here scope) puts known
      → IsDeclared (there scope) (option_map (puts_there numbers) puts) (object_there numbers known)
  declared_goes scope puts known held = record { named = held.named; stored = stored_goes scope known.type puts held.stored }

  begin_goes : (scope declares : List ℕ) (number : ℕ) (puts : Option CPuts) → AreOwn declares → IsBegin (here scope) declares number puts
      → IsBegin (there scope) (renamed declares) (numbers.object_for number) (option_map (puts_there numbers) puts)
  begin_goes scope declares number puts own held =
      let found = object_moved number (object_with number one.objects) refl (IsDeclared (here scope) puts)
      (IsDeclared (there scope) (option_map (puts_there numbers) puts)) (declared_goes scope puts)
      (own_at declares number held.0.0 own held.0.1 held.0.2) held.1 held.2 in
      (contains_there numbers.object_for declares number held.0, found.0, found.1)

  -- ---- expressions of statements

  void_goes : (type : CTy) → IsVoid type → IsVoid (moved type)
  void_goes type held = form_of_there numbers.before type ∙ ap (form_there numbers.before) held

  module _ (scope : List ℕ) where
    value_goes : (of : CExpr) → IsTyped (here scope) of → IsTyped (there scope) (expr_there numbers of)
    value_goes of held = expr_goes unit numbers mentions one program holds scope of held

    known_of : (of : CExpr) → IsTyped (here scope) of → known_in (type_of of)
    known_of of held = typed_known unit numbers mentions one program holds scope of held

    condition_goes : (test : CExpr) → IsCondition (here scope) test → IsCondition (there scope) (expr_there numbers test)
    condition_goes test held = (
      value_goes test held.0,
      typed_as numbers (IsScalarType program.types) test
          (scalar_goes unit numbers.before one.types program.types holds.types (type_of test) (known_of test held.0) held.1),
    )

    void_expr_goes : (value : CExpr) → IsVoidExpr (here scope) value → IsVoidExpr (there scope) (expr_there numbers value)
    void_expr_goes value held = (value_goes value held.0, typed_as numbers IsVoid value (void_goes (type_of value) held.1))

    if_condition_goes : (test : Option CExpr) → IfSome test (IsCondition (here scope)) → IfSome (option_map (expr_there numbers) test) (IsCondition (there scope))
    if_condition_goes None held = held
    if_condition_goes (Some test) held = condition_goes test held

    if_void_goes : (value : Option CExpr) → IfSome value (IsVoidExpr (here scope)) → IfSome (option_map (expr_there numbers) value) (IsVoidExpr (there scope))
    if_void_goes None held = held
    if_void_goes (Some value) held = void_expr_goes value held

    return_goes : (result : CTy) (value : Option CExpr) → IsReturn (here scope) result value
        → IsReturn (there scope) (moved result) (option_map (expr_there numbers) value)
    return_goes result None held = void_goes result held
    return_goes result (Some value) held = (
      value_goes value held.0,
      complete_there numbers.before one.types program.types holds.types.inside result held.1,
      typed_as numbers (λ found. found ≡ unqualified (moved result)) value (ap moved held.2 ∙ unqualified_there numbers.before result),
    )

  switch_goes : (type : CTy) (inner : CStmt) → IsSwitch type inner → IsSwitch (moved type) (stmt_there numbers inner)
  switch_goes type inner held = record {
    promoted = is_promoted_there numbers.before type held.promoted;
    cases_differ = subst (λ values. IsDistinct int_eq values) (sym (cases_go numbers inner)) held.cases_differ;
    one_default = subst (λ (count : ℕ). count ≤ 1) (sym (defaults_go numbers inner)) held.one_default;
  }

  -- ---- statements of a function with this result type and these labels

  module _ (result : CTy) (labels : List (List ℕ)) where
    abbrev body_here : List ℕ → Bool → Option CTy → CBody
    body_here scope in_loop in_switch = record { home = here scope; result = result; labels = labels; in_loop = in_loop; in_switch = in_switch }

    -- in the program, with these objects of blocks
    abbrev body_at : List ℕ → Bool → Option CTy → CBody
    body_at scope in_loop in_switch = record {
      home = record { program = program; mentions = None; unit = unit; scope = scope };
      result = moved result;
      labels = labels;
      in_loop = in_loop;
      in_switch = in_switch;
    }

    abbrev body_there : List ℕ → Bool → Option CTy → CBody
    body_there scope in_loop in_switch = body_at (renamed scope) in_loop (option_map moved in_switch)

    case_goes : (scope : List ℕ) (in_loop : Bool) (in_switch : Option CTy) (value : ℤ) → IfSome in_switch known_in
        → IsCase (body_here scope in_loop in_switch) value → IsCase (body_there scope in_loop in_switch) value
    case_goes scope in_loop None value known held = held
    case_goes scope in_loop (Some type) value known held = (
      refl,
      subst (λ (found : Option Scalar). IfSome found (λ scalar. IsInRange scalar value))
          (sym (scalar_same numbers.before one.types program.types holds.types.inside holds.types.types.enum_units unit type known)) held.1,
    )

    in_switch_goes : (in_switch : Option CTy) → IsSome in_switch → IsSome (option_map moved in_switch)
    in_switch_goes None some = some
    in_switch_goes (Some type) some = refl

    mutual
      pub stmt_goes : (scope : List ℕ) (in_loop : Bool) (in_switch : Option CTy) → IfSome in_switch known_in → (declares : List ℕ) → AreOwn declares
          → (of : CStmt) → IsTypedStmt (body_here scope in_loop in_switch) declares of
          → IsTypedStmt (body_there scope in_loop in_switch) (renamed declares) (stmt_there numbers of)
      stmt_goes scope in_loop in_switch known declares own (stmt place objects form) held = (
        block_objects_go scope objects held.0,
        subst (λ all. IsTypedStmtForm (body_at all in_loop (option_map moved in_switch)) (renamed declares) (renamed objects) (action_there numbers form))
            (map_joined numbers.object_for objects scope)
            (form_goes (objects ++ scope) in_loop in_switch known declares own objects (all_own scope objects held.0) form held.1),
      )

      form_goes : (scope : List ℕ) (in_loop : Bool) (in_switch : Option CTy) → IfSome in_switch known_in → (declares : List ℕ) → AreOwn declares
          → (objects : List ℕ) → AreOwn objects → (form : CStmtForm) → IsTypedStmtForm (body_here scope in_loop in_switch) declares objects form
          → IsTypedStmtForm (body_there scope in_loop in_switch) (renamed declares) (renamed objects) (action_there numbers form)
      form_goes scope in_loop in_switch known declares own objects also (label name inner) held = stmt_goes scope in_loop in_switch known [] tt inner held
      form_goes scope in_loop in_switch known declares own objects also (case value inner) held =
          (case_goes scope in_loop in_switch value known held.0, stmt_goes scope in_loop in_switch known [] tt inner held.1)
      form_goes scope in_loop in_switch known declares own objects also (default inner) held =
          (in_switch_goes in_switch held.0, stmt_goes scope in_loop in_switch known [] tt inner held.1)
      form_goes scope in_loop in_switch known declares own objects also (block stmts) held = list_goes scope in_loop in_switch known objects also stmts held
      form_goes scope in_loop in_switch known declares own objects also (expression None) held = held
      form_goes scope in_loop in_switch known declares own objects also (expression (Some value)) held = void_expr_goes scope value held
      form_goes scope in_loop in_switch known declares own objects also (if_then test inner otherwise) held = (
        condition_goes scope test held.0,
        stmt_goes scope in_loop in_switch known [] tt inner held.1,
        else_goes scope in_loop in_switch known otherwise held.2,
      )
      form_goes scope in_loop in_switch known declares own objects also (switch value inner) held = (
        value_goes scope value held.0,
        typed_as numbers (λ type. IsSwitch type (stmt_there numbers inner)) value (switch_goes (type_of value) inner held.1),
        typed_as numbers (λ type. IsTypedStmt (body_at (renamed scope) in_loop (Some type)) [] (stmt_there numbers inner)) value
            (stmt_goes scope in_loop (Some (type_of value)) (known_of scope value held.0) [] tt inner held.2),
      )
      form_goes scope in_loop in_switch known declares own objects also (while test inner) held =
          (condition_goes scope test held.0, stmt_goes scope true in_switch known [] tt inner held.1)
      form_goes scope in_loop in_switch known declares own objects also (do_while inner test) held =
          (stmt_goes scope true in_switch known [] tt inner held.0, condition_goes scope test held.1)
      form_goes scope in_loop in_switch known declares own objects also (for_loop first test next inner) held = (
        for_first_goes numbers first held.0,
        list_goes scope in_loop in_switch known objects also first held.1,
        if_condition_goes scope test held.2,
        if_void_goes scope next held.3,
        stmt_goes scope true in_switch known [] tt inner held.4,
      )
      form_goes scope in_loop in_switch known declares own objects also (goto name) held = held
      form_goes scope in_loop in_switch known declares own objects also continue held = held
      form_goes scope in_loop in_switch known declares own objects also break held = either (λ is. is) (in_switch_goes in_switch) held
      form_goes scope in_loop in_switch known declares own objects also (returns value) held = return_goes scope result value held
      form_goes scope in_loop in_switch known declares own objects also (begin number puts) held = begin_goes scope declares number puts own held

      else_goes : (scope : List ℕ) (in_loop : Bool) (in_switch : Option CTy) → IfSome in_switch known_in → (otherwise : COtherwise)
          → IsTypedElse (body_here scope in_loop in_switch) otherwise → IsTypedElse (body_there scope in_loop in_switch) (else_there numbers otherwise)
      else_goes scope in_loop in_switch known no_else held = held
      else_goes scope in_loop in_switch known (else_do inner) held = stmt_goes scope in_loop in_switch known [] tt inner held

      list_goes : (scope : List ℕ) (in_loop : Bool) (in_switch : Option CTy) → IfSome in_switch known_in → (declares : List ℕ) → AreOwn declares
          → (stmts : CStmts) → AreTypedStmts (body_here scope in_loop in_switch) declares stmts
          → AreTypedStmts (body_there scope in_loop in_switch) (renamed declares) (stmts_there numbers stmts)
      list_goes scope in_loop in_switch known declares own no_stmts held = held
      list_goes scope in_loop in_switch known declares own (more_stmts first others) held =
          (stmt_goes scope in_loop in_switch known declares own first held.0, list_goes scope in_loop in_switch known declares own others held.1)
