-- The types of the temporaries of a body don't depend on the names of its locals.
use Rattle.std.proofs.Common.{◌≡◌, ℕ, false, not, List, ◌++◌, Option, Some, None, refl, ap, ◌∙◌}
use Rattle.build_flow_nodes.specs.Parts.{temporaries_in_stmt, temporaries_in_form, temporaries_in_else, temporaries_in_stmts, temporaries_in_option, temporaries_in_condition, temporaries_in_contents}
use Rattle.cx_core.specs.Trees.{CTy, CExpr, expr, CForm, whole, null, object, code, load, deref, member, address, convert, unary, binary, and, or, cond, assign, assign_by, step, call, call_by, comma, literal, CExprs, no_exprs, more_exprs, CPut, put, CPuts, no_puts, more_puts, CStmt, stmt, CStmtForm, label, case, default, block, expression, if_then, switch, while, do_while, for_loop, goto, continue, break, returns, begin, COtherwise, no_else, else_do, CStmts, no_stmts, more_stmts}
use Rattle.lift_exprs.specs.Names.{Names}
use Rattle.lift_exprs.specs.Temporaries.{held_types, held_types_in, held_types_in_args, held_types_in_put, held_types_in_puts, own_type}
use Rattle.lift_held.specs.Held.{is_held_form, is_void, holds_call, some_holds_call, operand, operand_before, part_of, whole_of, full, value_for}
use Rattle.lift_held.specs.declared.asked.Asked.{Asked}
use Rattle.rs_text.specs.Tree.{Ty}
use Rattle.whole_bodies.specs.Names.{names_in}
use Rattle.whole_names.specs.Kept.{LocalNames, NamedProgram}

module _ (program : NamedProgram) (unit : ℕ) (own other : LocalNames) where
  abbrev one : Names
  one = names_in program unit own

  abbrev two : Names
  two = names_in program unit other

  joined : {a b c d : List Ty} → a ≡ b → c ≡ d → a ++ c ≡ b ++ d
  joined {a} {b} {c} {d} first second = ap (λ (x : List Ty). x ++ c) first ∙ ap (λ (x : List Ty). b ++ x) second

  mutual
    same_types : (asked : Asked) (e : CExpr) → held_types one asked e ≡ held_types two asked e
    same_types asked (expr type place form) = ap (λ (x : List Ty). x ++ own_type (is_held_form asked type form) one type form) (same_in asked type form)

    same_in : (asked : Asked) (type : CTy) (form : CForm) → held_types_in one asked type form ≡ held_types_in two asked type form
    same_in asked type (whole value) = refl
    same_in asked type null = refl
    same_in asked type (object number) = refl
    same_in asked type (code number) = refl
    same_in asked type (load from) = same_types operand from
    same_in asked type (deref from) = same_types operand from
    same_in asked type (member of spot) = same_types (whole_of spot) of
    same_in asked type (address of) = same_types operand of
    same_in asked type (convert value) = same_types (part_of (not (is_void type))) value
    same_in asked type (unary op value) = same_types operand value
    same_in asked type (binary op left right) = joined (same_types (operand_before (holds_call right)) left) (same_types operand right)
    same_in asked type (and left right) = joined (same_types operand left) (same_types operand right)
    same_in asked type (or left right) = joined (same_types operand left) (same_types operand right)
    same_in asked type (cond test first second) = joined (same_types operand test) (joined (same_types (part_of asked.used) first) (same_types (part_of asked.used) second))
    same_in asked type (assign target value) = joined (same_types (operand_before (holds_call value)) target) (same_types operand value)
    same_in asked type (assign_by op computes target value) = joined (same_types (operand_before (holds_call value)) target) (same_types operand value)
    same_in asked type (step up post on) = same_types operand on
    same_in asked type (call callee args) = same_args args
    same_in asked type (call_by callee args) = joined (same_types (operand_before (some_holds_call args)) callee) (same_args args)
    same_in asked type (comma first second) = joined (same_types (part_of false) first) (same_types (part_of asked.used) second)
    same_in asked type (literal number puts) = same_puts puts

    same_args : (args : CExprs) → held_types_in_args one args ≡ held_types_in_args two args
    same_args no_exprs = refl
    same_args (more_exprs first others) = joined (same_types (operand_before (some_holds_call others)) first) (same_args others)

    same_put : (it : CPut) → held_types_in_put one it ≡ held_types_in_put two it
    same_put (put spot type value) = same_types (value_for spot) value

    same_puts : (puts : CPuts) → held_types_in_puts one puts ≡ held_types_in_puts two puts
    same_puts no_puts = refl
    same_puts (more_puts first others) = joined (same_put first) (same_puts others)

  same_option : (e : Option CExpr) → temporaries_in_option one e ≡ temporaries_in_option two e
  same_option None = refl
  same_option (Some e) = same_types (full e) e

  same_condition : (e : Option CExpr) → temporaries_in_condition one e ≡ temporaries_in_condition two e
  same_condition None = refl
  same_condition (Some e) = same_types operand e

  same_contents : (puts : Option CPuts) → temporaries_in_contents one puts ≡ temporaries_in_contents two puts
  same_contents None = refl
  same_contents (Some puts) = same_puts puts

  mutual
    pub same_stmt : (s : CStmt) → temporaries_in_stmt one s ≡ temporaries_in_stmt two s
    same_stmt (stmt place objects form) = same_form form

    same_form : (form : CStmtForm) → temporaries_in_form one form ≡ temporaries_in_form two form
    same_form (label name body) = same_stmt body
    same_form (case value body) = same_stmt body
    same_form (default body) = same_stmt body
    same_form (block stmts) = same_stmts stmts
    same_form (expression value) = same_option value
    same_form (if_then test body otherwise) = joined (same_types operand test) (joined (same_stmt body) (same_else otherwise))
    same_form (switch value body) = joined (same_types operand value) (same_stmt body)
    same_form (while test body) = joined (same_types operand test) (same_stmt body)
    same_form (do_while body test) = joined (same_stmt body) (same_types operand test)
    same_form (for_loop first test next body) = joined (same_stmts first) (joined (same_condition test) (joined (same_option next) (same_stmt body)))
    same_form (goto name) = refl
    same_form continue = refl
    same_form break = refl
    same_form (returns value) = same_option value
    same_form (begin number puts) = same_contents puts

    same_else : (otherwise : COtherwise) → temporaries_in_else one otherwise ≡ temporaries_in_else two otherwise
    same_else no_else = refl
    same_else (else_do body) = same_stmt body

    same_stmts : (stmts : CStmts) → temporaries_in_stmts one stmts ≡ temporaries_in_stmts two stmts
    same_stmts no_stmts = refl
    same_stmts (more_stmts first others) = joined (same_stmt first) (same_stmts others)
