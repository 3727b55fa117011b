-- The calls behind others are those of the tree, behind them.
use Rattle.std.proofs.Common.{◌≡◌, ℕ, ◌==◌, Bool, true, false, if◌then◌else◌, List, [], ◌∷◌, ◌++◌, map, flat_map, append_assoc, Option, Some, None, refl, sym, ap, ◌∙◌}
use Rattle.std.proofs.lemmas.List.{append-nil}
use Rattle.cx_core.specs.Trees.{CExpr, expr, CForm, whole, null, object, code, load, deref, member, address, convert, unary, binary, and, or, cond, assign, assign_by, step, call, call_by, comma, literal, CExprs, no_exprs, more_exprs, CPut, put, CPuts, no_puts, more_puts, CStmt, stmt, CStmtForm, label, case, default, block, expression, if_then, switch, while, do_while, for_loop, goto, continue, break, returns, begin, COtherwise, no_else, else_do, CStmts, no_stmts, more_stmts, CObject, CFun, CProgram}
use Rattle.cx_core.specs.Views.{view_function, view_object, view_program}
use Rattle.cx_core.specs.declared.program.CoreObject.{CoreObject}
use Rattle.cx_core.specs.declared.program.Fun.{Fun}
use Rattle.cx_core.specs.declared.program.Parts.{Parts}
use Rattle.whole_keys.specs.Behind.{calls_behind, calls_behind_form, calls_behind_list, calls_behind_put, calls_behind_puts, calls_behind_option, calls_behind_contents, calls_behind_stmt, calls_behind_stmt_form, calls_behind_else, calls_behind_stmts, calls_behind_object, calls_behind_objects, calls_behind_function, calls_behind_functions}
use Rattle.whole_keys.specs.Views.{view_call}
use Rattle.whole_keys.specs.declared.calls.NamedCall.{NamedCall as Listed}
use Rattle.whole_names.specs.Calls.{NamedCall, is_bare, calls_in, calls_in_form, calls_in_list, calls_in_put, calls_in_puts, calls_in_option, calls_in_contents, calls_in_stmt, calls_in_stmt_form, calls_in_else, calls_in_stmts}
use Rattle.whole_names.specs.Keys.{calls_of_function, calls_of_object, calls_of}

-- one list behind another
then_behind : {first second : List NamedCall} (before one other : List NamedCall) → first ≡ before ++ one → second ≡ first ++ other → second ≡ before ++ (one ++ other)
then_behind before one other e f = f ∙ ap (λ list. list ++ other) e ∙ append_assoc before one other

mutual
  behind : (e : CExpr) (before : List NamedCall) → calls_behind e before ≡ before ++ calls_in e
  behind (expr type place form) before = behind_form form before

  behind_form : (form : CForm) (before : List NamedCall) → calls_behind_form form before ≡ before ++ calls_in_form form
  behind_form (whole value) before = sym (append-nil before)
  behind_form null before = sym (append-nil before)
  behind_form (object number) before = sym (append-nil before)
  behind_form (code number) before = sym (append-nil before)
  behind_form (load from) before = behind from before
  behind_form (deref pointer) before = behind pointer before
  behind_form (member of spot) before = behind of before
  behind_form (address of) before = behind of before
  behind_form (convert value) before = behind value before
  behind_form (unary op value) before = behind value before
  behind_form (binary op left right) before = then_behind before _ _ (behind left before) (behind right (calls_behind left before))
  behind_form (and left right) before = then_behind before _ _ (behind left before) (behind right (calls_behind left before))
  behind_form (or left right) before = then_behind before _ _ (behind left before) (behind right (calls_behind left before))
  behind_form (cond test first second) before =
      then_behind before _ _ (behind test before)
      (then_behind (calls_behind test before) _ _ (behind first (calls_behind test before)) (behind second (calls_behind first (calls_behind test before))))
  behind_form (assign target value) before = then_behind before _ _ (behind target before) (behind value (calls_behind target before))
  behind_form (assign_by op computes target value) before = then_behind before _ _ (behind target before) (behind value (calls_behind target before))
  behind_form (step up post on) before = behind on before
  behind_form (call callee args) before =
      let one : NamedCall = record { callee = callee; is_bare = is_bare args } in
      behind_list args (before ++ one ∷ []) ∙ append_assoc before (one ∷ []) (calls_in_list args)
  behind_form (call_by callee args) before = then_behind before _ _ (behind callee before) (behind_list args (calls_behind callee before))
  behind_form (comma first second) before = then_behind before _ _ (behind first before) (behind second (calls_behind first before))
  behind_form (literal number puts) before = behind_puts puts before

  behind_list : (args : CExprs) (before : List NamedCall) → calls_behind_list args before ≡ before ++ calls_in_list args
  behind_list no_exprs before = sym (append-nil before)
  behind_list (more_exprs first others) before = then_behind before _ _ (behind first before) (behind_list others (calls_behind first before))

  behind_put : (one : CPut) (before : List NamedCall) → calls_behind_put one before ≡ before ++ calls_in_put one
  behind_put (put spot type value) before = behind value before

  behind_puts : (puts : CPuts) (before : List NamedCall) → calls_behind_puts puts before ≡ before ++ calls_in_puts puts
  behind_puts no_puts before = sym (append-nil before)
  behind_puts (more_puts first others) before = then_behind before _ _ (behind_put first before) (behind_puts others (calls_behind_put first before))

behind_option : (e : Option CExpr) (before : List NamedCall) → calls_behind_option e before ≡ before ++ calls_in_option e
behind_option None before = sym (append-nil before)
behind_option (Some one) before = behind one before

behind_contents : (contents : Option CPuts) (before : List NamedCall) → calls_behind_contents contents before ≡ before ++ calls_in_contents contents
behind_contents None before = sym (append-nil before)
behind_contents (Some puts) before = behind_puts puts before

mutual
  behind_stmt : (s : CStmt) (before : List NamedCall) → calls_behind_stmt s before ≡ before ++ calls_in_stmt s
  behind_stmt (stmt place objects form) before = behind_stmt_form form before

  behind_stmt_form : (form : CStmtForm) (before : List NamedCall) → calls_behind_stmt_form form before ≡ before ++ calls_in_stmt_form form
  behind_stmt_form (label name body) before = behind_stmt body before
  behind_stmt_form (case value body) before = behind_stmt body before
  behind_stmt_form (default body) before = behind_stmt body before
  behind_stmt_form (block stmts) before = behind_stmts stmts before
  behind_stmt_form (expression value) before = behind_option value before
  behind_stmt_form (if_then test body otherwise) before =
      then_behind before _ _ (behind test before)
      (then_behind (calls_behind test before) _ _ (behind_stmt body (calls_behind test before)) (behind_else otherwise (calls_behind_stmt body (calls_behind test before))))
  behind_stmt_form (switch value body) before = then_behind before _ _ (behind value before) (behind_stmt body (calls_behind value before))
  behind_stmt_form (while test body) before = then_behind before _ _ (behind test before) (behind_stmt body (calls_behind test before))
  behind_stmt_form (do_while body test) before = then_behind before _ _ (behind_stmt body before) (behind test (calls_behind_stmt body before))
  behind_stmt_form (for_loop first test next body) before =
      let one = calls_behind_stmts first before in
      let two = calls_behind_option test one in
      then_behind before _ _ (behind_stmts first before)
      (then_behind one _ _ (behind_option test one) (then_behind two _ _ (behind_option next two) (behind_stmt body (calls_behind_option next two))))
  behind_stmt_form (goto name) before = sym (append-nil before)
  behind_stmt_form continue before = sym (append-nil before)
  behind_stmt_form break before = sym (append-nil before)
  behind_stmt_form (returns value) before = behind_option value before
  behind_stmt_form (begin number puts) before = behind_contents puts before

  behind_else : (otherwise : COtherwise) (before : List NamedCall) → calls_behind_else otherwise before ≡ before ++ calls_in_else otherwise
  behind_else no_else before = sym (append-nil before)
  behind_else (else_do body) before = behind_stmt body before

  behind_stmts : (stmts : CStmts) (before : List NamedCall) → calls_behind_stmts stmts before ≡ before ++ calls_in_stmts stmts
  behind_stmts no_stmts before = sym (append-nil before)
  behind_stmts (more_stmts first others) before = then_behind before _ _ (behind_stmt first before) (behind_stmts others (calls_behind_stmt first before))

-- ---- a unit

by_test : (test : Bool) (all before mine : List NamedCall) → all ≡ before ++ mine → (if test then all else before) ≡ before ++ (if test then mine else [])
by_test true all before mine e = e
by_test false all before mine e = sym (append-nil before)

behind_object : (unit : ℕ) (one : CObject) (before : List NamedCall) → calls_behind_object unit one before ≡ before ++ calls_of_object unit one
behind_object unit one before =
    by_test (one.unit == unit) (calls_behind_contents one.puts before) before (calls_in_contents one.puts) (behind_contents one.puts before)

behind_objects : (unit : ℕ) (objects : List CObject) (before : List NamedCall) → calls_behind_objects unit objects before ≡ before ++ flat_map (calls_of_object unit) objects
behind_objects unit [] before = sym (append-nil before)
behind_objects unit (one ∷ others) before =
    then_behind before _ _ (behind_object unit one before) (behind_objects unit others (calls_behind_object unit one before))

behind_function : (unit : ℕ) (one : CFun) (before : List NamedCall) → calls_behind_function unit one before ≡ before ++ calls_of_function unit one
behind_function unit one before =
    by_test (one.unit == unit) (calls_behind_stmt one.body before) before (calls_in_stmt one.body) (behind_stmt one.body before)

behind_functions : (unit : ℕ) (functions : List CFun) (before : List NamedCall) →
    calls_behind_functions unit functions before ≡ before ++ flat_map (calls_of_function unit) functions
behind_functions unit [] before = sym (append-nil before)
behind_functions unit (one ∷ others) before =
    then_behind before _ _ (behind_function unit one before) (behind_functions unit others (calls_behind_function unit one before))

calls_all : (unit : ℕ) (program : CProgram) → calls_behind_functions unit program.functions (calls_behind_objects unit program.objects []) ≡ calls_of program unit
calls_all unit program =
    behind_functions unit program.functions (calls_behind_objects unit program.objects [])
    ∙ ap (λ list. list ++ flat_map (calls_of_function unit) program.functions) (behind_objects unit program.objects [])

pub calls_made : (parts : Parts) (unit : ℕ) (objects : List CoreObject) (functions : List Fun) (none : List Listed) (one two : List NamedCall) → objects ≡ parts.objects →
    functions ≡ parts.functions → none ≡ [] → one ≡ calls_behind_objects unit (map view_object objects) (map view_call none) →
    two ≡ calls_behind_functions unit (map view_function functions) one → two ≡ calls_of (view_program parts) unit
calls_made parts unit objects functions none one two same_objects same_functions empty first second =
    second ∙ ap (λ (list : List Fun). calls_behind_functions unit (map view_function list) one) same_functions
    ∙ ap (λ (list : List NamedCall). calls_behind_functions unit (map view_function parts.functions) list)
    (first ∙ ap (λ (list : List CoreObject). calls_behind_objects unit (map view_object list) (map view_call none)) same_objects
    ∙ ap (λ (list : List Listed). calls_behind_objects unit (map view_object parts.objects) (map view_call list)) empty)
    ∙ calls_all unit (view_program parts)
