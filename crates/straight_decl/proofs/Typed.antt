-- The expressions and statements of a unit's program are typed.
use Rattle.std.proofs.Common.{◌≡◌, ℕ, ◌<◌, ◌≤◌, Bool, true, false, ◌&&◌, pos, List, [], ◌∷◌, ◌++◌, length, Option, Some, None, IsSome, IfSome, refl, sym, ap, subst, ◌∙◌, arith, bytes_eq}
use Rattle.std.proofs.lemmas.Int.{ints}
use Rattle.cr_base.specs.declared.refusal.Place.{Place}
use Rattle.straight_core.specs.declared.expr.Op1.TheVariants.{Minus as Negate}
use Rattle.straight_core.specs.declared.expr.Op2.{Op2}
use Rattle.straight_core.specs.Trees.{CTy, void, CExpr, expr, whole, object, load, unary, binary, assign, call, more_exprs, no_exprs, type_of, unqualified, form_of_type, is_const_type, CStmt, stmt, expression, returns, CObject, CProgram}
use Rattle.straight_core.specs.Typing.{object_with, outer_with, IsObjectOf, IsTyped, IsLvalue, IsCallee, IsTypedStmt, AreTypedStmts, IsCallOf, IsScalarType}
use Rattle.straight_core.specs.Views.{stmts_of}
use Rattle.cx_lex.specs.declared.token.Punct.{Punct}
use Rattle.cx_lex.specs.declared.token.Punct.TheVariants as mark
use Rattle.straight_tree.specs.Trees as tree
use Rattle.straight_tree.specs.Trees.{ExprTree, ExprTrees, StmtTree, ItemTree}
use Rattle.straight_decl.specs.CoreOf.{Scope, object_named, int_type, place_in, place_of, is_int_constant, named_object, target_of, operator_of, negation_of, binary_of, assignment_of, call_of, is_putchar, core_expr, core_only, core_expression, core_return, core_first, core_last, core_firsts, core_stmts, last_of, before_last, dropped, putchar_name, putchar_outer, externals_of}
use Rattle.straight_decl.proofs.Linking.{both_some, map_some, cond_some, same, int_constant_small}
use Rattle.straight_decl.proofs.Named.{object_named_below}

-- a program in which the objects of a scope and `putchar` are found
pub record Finds (program : CProgram) (scope : Scope) : Type 0 where
  pub objects : (k : ℕ) → k < length scope.objects → (one : CObject) × (object_with k program.objects ≡ Some one) × IsObjectOf int_type one
  pub externals : program.externals ≡ externals_of scope.has_putchar

-- a typed expression of type `int`
pub record IsInt (program : CProgram) (e : CExpr) : Type 0 where
  pub typed : IsTyped program e
  pub type : type_of e ≡ int_type

-- ---- inversions

negation_some : (value : Option CExpr) (place : Place) (op : Punct) (e : CExpr) → negation_of value place op ≡ Some e → (v : CExpr) × (value ≡ Some v) × (expr int_type place (unary Negate v) ≡ e)
negation_some None place op e f = cc
negation_some (Some v) place mark.Minus e f = (v, refl, cc)
negation_some (Some v) place _ e f = cc

assignment_some : (target value : Option CExpr) (place : Place) (op : Punct) (e : CExpr) → assignment_of target value place op ≡ Some e → (t : CExpr) × (v : CExpr) × (target ≡ Some t) × (value ≡ Some v) × (expr int_type place (assign t v) ≡ e)
assignment_some None value place op e f = cc
assignment_some (Some t) None place op e f = cc
assignment_some (Some t) (Some v) place mark.Equal e f = (t, v, refl, refl, cc)
assignment_some (Some t) (Some v) place _ e f = cc

binary_some : (left right : Option CExpr) (place : Place) (operator : Option Op2) (e : CExpr) → binary_of left right place operator ≡ Some e → (op : Op2) × (l : CExpr) × (r : CExpr) × (left ≡ Some l) × (right ≡ Some r) × (expr int_type place (binary op l r) ≡ e)
binary_some None right place operator e f = cc
binary_some (Some l) None place operator e f = cc
binary_some (Some l) (Some r) place None e f = cc
binary_some (Some l) (Some r) place (Some op) e f = (op, l, r, refl, refl, cc)

call_some : (arg : Option CExpr) (place : Place) (known : Bool) (e : CExpr) → call_of arg place known ≡ Some e → (a : CExpr) × (known ≡ true) × (arg ≡ Some a) × (expr int_type place (call 0 (more_exprs a no_exprs)) ≡ e)
call_some None place known e f = cc
call_some (Some a) place true e f = (a, refl, refl, cc)
call_some (Some a) place false e f = cc

module _ (program : CProgram) (unit : ℕ) (scope : Scope) (finds : Finds program scope) where
  -- an lvalue of type `int`
  record IsIntLvalue (e : CExpr) : Type 0 where
    lvalue : IsLvalue program e
    type : type_of e ≡ int_type

  named_is : (place : Place) (name : List ℕ) (e : CExpr) → named_object place name scope ≡ Some e → IsIntLvalue e
  named_is place name e f =
      let found = map_some (λ number. expr int_type place (object number)) (object_named name scope.objects) e f in
      let one = finds.objects found.0 (object_named_below name scope.objects found.0 found.1) in
      subst IsIntLvalue found.2 (record {
        lvalue = (subst IsSome (sym one.1) refl, subst (λ o. IfSome o (IsObjectOf int_type)) (sym one.1) one.2);
        type = refl;
      })

  loaded_is : (place : Place) (from : CExpr) → IsIntLvalue from → IsInt program (expr int_type place (load from))
  loaded_is place from is = record {
    typed = (is.lvalue, record { scalar = subst (λ t. IsScalarType t) (sym is.type) refl; type_is = ap unqualified (sym is.type) });
    type = refl;
  }

  pub constant_is : (place : Place) (value : ℕ) → value ≤ 2147483647 → IsInt program (expr int_type place (whole (pos value)))
  constant_is place value small = record { typed = record { plain = refl; in_range = (omega (arith, ints), omega (arith, ints, small)); scalar = refl }; type = refl }

  target_is : (left : ExprTree) (e : CExpr) → target_of unit scope left ≡ Some e → IsIntLvalue e
  target_is (tree.Name name lines) e f = named_is (place_in unit lines) name e f
  target_is (tree.Number value type lines) e f = cc
  target_is (tree.Paren inner lines) e f = cc
  target_is (tree.Call of args lines) e f = cc
  target_is (tree.Unary op on lines) e f = cc
  target_is (tree.Binary left op right lines) e f = cc
  target_is (tree.Assign left op right lines) e f = cc

  -- `putchar` is the external function 0 where it is declared
  putchar_known : (of : ExprTree) → is_putchar scope of ≡ true → scope.has_putchar ≡ true
  putchar_known (tree.Name name lines) e = by_flag scope.has_putchar e
    where
      by_flag : (flag : Bool) → (flag && bytes_eq name putchar_name) ≡ true → flag ≡ true
      by_flag true f = refl
      by_flag false f = cc
  putchar_known (tree.Number value type lines) e = cc
  putchar_known (tree.Paren inner lines) e = cc
  putchar_known (tree.Call callee args lines) e = cc
  putchar_known (tree.Unary op on lines) e = cc
  putchar_known (tree.Binary left op right lines) e = cc
  putchar_known (tree.Assign left op right lines) e = cc

  callee_is : (arg : CExpr) → IsInt program arg → scope.has_putchar ≡ true → IsCallee program 0 int_type (more_exprs arg no_exprs)
  callee_is arg is known =
      let found : program.externals ≡ putchar_outer ∷ [] = finds.externals ∙ ap externals_of known in
      subst (λ list. IsSome (outer_with 0 list) × IfSome (outer_with 0 list) (λ one. IsCallOf int_type (more_exprs arg no_exprs) (form_of_type one.type))) (sym found) (refl, (refl, (is.type, tt)))

  mutual
    -- an expression of a unit gives an `int`
    pub expr_is : (e : ExprTree) (made : CExpr) → core_expr unit scope e ≡ Some made → IsInt program made
    expr_is (tree.Name name lines) made f =
        let from = map_some (λ at. expr int_type (place_in unit lines) (load at)) (named_object (place_in unit lines) name scope) made f in
        subst (IsInt program) from.2 (loaded_is (place_in unit lines) from.0 (named_is (place_in unit lines) name from.0 from.1))
    expr_is (tree.Number value type lines) made f =
        let test = cond_some (is_int_constant value type) (Some (expr int_type (place_in unit lines) (whole (pos value)))) made f in
        subst (IsInt program) (same (expr int_type (place_in unit lines) (whole (pos value))) made test.1) (constant_is (place_in unit lines) value (int_constant_small value type test.0))
    expr_is (tree.Paren inner lines) made f = expr_is inner made f
    expr_is (tree.Call of args lines) made f =
        let parts = call_some (core_only unit scope args) (place_of unit of) (is_putchar scope of) made f in
        let arg = only_is args parts.0 parts.2 in
        subst (IsInt program) parts.3 (record { typed = ((arg.typed, tt), callee_is parts.0 arg (putchar_known of parts.1)); type = refl })
    expr_is (tree.Unary op on lines) made f =
        let parts = negation_some (core_expr unit scope on) (place_in unit lines) op made f in
        let value = expr_is on parts.0 parts.1 in
        subst (IsInt program) parts.2 (record { typed = (value.typed, record { promoted = tt; plain = refl; value_is = value.type }); type = refl })
    expr_is (tree.Binary left op right lines) made f =
        let parts = binary_some (core_expr unit scope left) (core_expr unit scope right) (place_of unit left) (operator_of op) made f in
        let one = expr_is left parts.1 parts.3 in
        let other = expr_is right parts.2 parts.4 in
        subst (IsInt program) parts.5 (record { typed = (one.typed, other.typed, record { promoted = tt; plain = refl; left_is = one.type; right_is = other.type }); type = refl })
    expr_is (tree.Assign left op right lines) made f =
        let parts = assignment_some (target_of unit scope left) (core_expr unit scope right) (place_of unit left) op made f in
        let target = target_is left parts.0 parts.2 in
        let value = expr_is right parts.1 parts.3 in
        subst (IsInt program) parts.4 (record {
          typed = (
            target.lvalue,
            value.typed,
            record {
              modifiable = subst (λ t. is_const_type t ≡ false) (sym target.type) refl;
              scalar = subst IsScalarType (sym target.type) refl;
              type_is = sym target.type;
              value_is = value.type ∙ sym target.type;
            },
          );
          type = refl;
        })

    only_is : (args : ExprTrees) (made : CExpr) → core_only unit scope args ≡ Some made → IsInt program made
    only_is (tree.more_exprs arg tree.no_exprs) made f = expr_is arg made f
    only_is (tree.more_exprs arg (tree.more_exprs other others)) made f = cc
    only_is tree.no_exprs made f = cc

  -- ---- statements

  abbrev result : CTy
  result = int_type

  dropped_is : (e : CExpr) → IsInt program e → IsTyped program (dropped e) × (form_of_type (type_of (dropped e)) ≡ void)
  dropped_is (expr type place form) is = ((is.typed, refl), refl)

  expression_is : (e : ExprTree) (made : CStmt) → core_expression unit scope e ≡ Some made → IsTypedStmt program result made
  expression_is e made f =
      let parts = map_some (λ value. stmt (place_of unit e) [] (expression (dropped value))) (core_expr unit scope e) made f in
      subst (IsTypedStmt program result) parts.2 (refl, dropped_is parts.0 (expr_is e parts.0 parts.1))

  return_is : (e : ExprTree) (lines : List ℕ) (made : CStmt) → core_return unit scope e lines ≡ Some made → IsTypedStmt program result made
  return_is e lines made f =
      let parts = map_some (λ value. stmt (place_in unit lines) [] (returns (Some value))) (core_expr unit scope e) made f in
      let value = expr_is e parts.0 parts.1 in
      subst (IsTypedStmt program result) parts.2 (refl, (value.typed, refl, value.type))

  first_is : (item : ItemTree) (made : CStmt) → core_first unit scope item ≡ Some made → IsTypedStmt program result made
  first_is (tree.StmtItem (tree.ExprStmt (Some e) lines)) made f = expression_is e made f
  first_is (tree.StmtItem (tree.ExprStmt None lines)) made f = cc
  first_is (tree.StmtItem (tree.Block items lines)) made f = cc
  first_is (tree.StmtItem (tree.Return value lines)) made f = cc

  last_is : (item : ItemTree) (made : CStmt) → core_last unit scope item ≡ Some made → IsTypedStmt program result made
  last_is (tree.StmtItem (tree.Return (Some e) lines)) made f = return_is e lines made f
  last_is (tree.StmtItem (tree.Return None lines)) made f = cc
  last_is (tree.StmtItem (tree.Block items lines)) made f = cc
  last_is (tree.StmtItem (tree.ExprStmt e lines)) made f = cc

  firsts_are : (items : List ItemTree) (made more : List CStmt) → core_firsts unit scope items ≡ Some made → AreTypedStmts program result (stmts_of more) → AreTypedStmts program result (stmts_of (made ++ more))
  firsts_are [] made more f typed = subst (λ list. AreTypedStmts program result (stmts_of (list ++ more))) (same [] made f) typed
  firsts_are (item ∷ items) made more f typed =
      let parts = both_some (core_first unit scope item) (core_firsts unit scope items) (λ one rest. one ∷ rest) made f in
      subst (λ list. AreTypedStmts program result (stmts_of (list ++ more))) parts.made_is (first_is item parts.one parts.first_is, firsts_are items parts.other more parts.second_is typed)

  pub stmts_are : (items : List ItemTree) (made : List CStmt) → core_stmts unit scope items ≡ Some made → AreTypedStmts program result (stmts_of made)
  stmts_are [] made f = cc
  stmts_are (item ∷ items) made f =
      let parts = both_some (core_firsts unit scope (before_last item items)) (core_last unit scope (last_of item items)) (λ firsts last. firsts ++ last ∷ []) made f in
      subst (λ list. AreTypedStmts program result (stmts_of list)) parts.made_is
      (firsts_are (before_last item items) parts.one (parts.other ∷ []) parts.first_is (last_is (last_of item items) parts.other parts.second_is, tt))
