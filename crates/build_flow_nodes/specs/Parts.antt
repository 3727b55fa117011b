-- What the parts of a body are written as: full expressions, conditions, declarations and returns (ISO C99, 6.2.4, 6.7.8, 6.8). Temporaries are numbered in the order of the text, over all
-- parts, whether control reaches them or not.
use Rattle.std.specs.Prelude.{ℕ, ◌*◌, ◌&&◌, ◌||◌, not, Bool, false, if◌then◌else◌, List, [], ◌∷◌, ◌++◌, length, filter, Option, Some, None}
use Rattle.cx_core.specs.Trees.{CTy, CExpr, type_of, CPuts, CStmt, stmt, CStmtForm, label, case, default, block, expression, if_then, switch, while, do_while, for_loop, goto, continue, break, returns, begin, COtherwise, no_else, else_do, CStmts, no_stmts, more_stmts}
use Rattle.lift_exprs.specs.Lifted.{lifted, lifted_full, lifted_test, lifted_puts, Condition}
use Rattle.lift_exprs.specs.Names.{Names, type_in}
use Rattle.lift_exprs.specs.Objects.{object_at, leave_bits}
use Rattle.lift_exprs.specs.Temporaries.{held_types, held_types_in_puts}
use Rattle.lift_exprs.specs.Written.{Written, address_of_given, copied}
use Rattle.lift_forms.specs.Given.{address_of}
use Rattle.lift_forms.specs.Operators.{given_value, zero_of}
use Rattle.lift_held.specs.Held.{is_record, is_void, operand, full}
use Rattle.rs_mean.specs.Scalars.{is_scalar}
use Rattle.rs_text.specs.Tree.{Ty, Integer, Local, Expr, Read, AddressOf, Stmt, Assign}
use Rattle.rs_text.specs.declared.integer.IntegerTy.{IntegerTy}
use Rattle.rs_text.specs.declared.integer.IntegerTy.TheVariants.{I32}

-- what a function's body is written with
pub record BodyNames : Type 0 where
  pub names : Names
  -- the types of objects
  pub type_of_object : ℕ → CTy
  -- a local of an object's type that is never stored, from which zero bytes are copied
  pub zeros : ℕ → List ℕ
  -- the type of what the function gives, and the parameter that points to where it writes a structure or union
  pub result_type : CTy
  pub result : List ℕ

-- ---- temporaries

-- of a full expression, and of a condition or another operand
abbrev pub temporaries_in : Names → CExpr → List Ty
temporaries_in names e = held_types names (full e) e

abbrev pub temporaries_in_operand : Names → CExpr → List Ty
temporaries_in_operand names e = held_types names operand e

abbrev pub temporaries_in_option : Names → Option CExpr → List Ty
temporaries_in_option names None = []
temporaries_in_option names (Some e) = temporaries_in names e

abbrev pub temporaries_in_condition : Names → Option CExpr → List Ty
temporaries_in_condition names None = []
temporaries_in_condition names (Some e) = temporaries_in_operand names e

abbrev pub temporaries_in_contents : Names → Option CPuts → List Ty
temporaries_in_contents names None = []
temporaries_in_contents names (Some puts) = held_types_in_puts names puts

abbrev mutual
  -- of a statement, in the order of the text
  pub temporaries_in_stmt : Names → CStmt → List Ty
  temporaries_in_stmt names (stmt place objects form) = temporaries_in_form names form

  pub temporaries_in_form : Names → CStmtForm → List Ty
  temporaries_in_form names (label name body) = temporaries_in_stmt names body
  temporaries_in_form names (case value body) = temporaries_in_stmt names body
  temporaries_in_form names (default body) = temporaries_in_stmt names body
  temporaries_in_form names (block stmts) = temporaries_in_stmts names stmts
  temporaries_in_form names (expression value) = temporaries_in_option names value
  temporaries_in_form names (if_then test body otherwise) =
      temporaries_in_operand names test ++ (temporaries_in_stmt names body ++ temporaries_in_else names otherwise)
  temporaries_in_form names (switch value body) = temporaries_in_operand names value ++ temporaries_in_stmt names body
  temporaries_in_form names (while test body) = temporaries_in_operand names test ++ temporaries_in_stmt names body
  temporaries_in_form names (do_while body test) = temporaries_in_stmt names body ++ temporaries_in_operand names test
  temporaries_in_form names (for_loop first test next body) =
      temporaries_in_stmts names first
      ++ (temporaries_in_condition names test ++ (temporaries_in_option names next ++ temporaries_in_stmt names body))
  temporaries_in_form names (goto name) = []
  temporaries_in_form names continue = []
  temporaries_in_form names break = []
  temporaries_in_form names (returns value) = temporaries_in_option names value
  temporaries_in_form names (begin number puts) = temporaries_in_contents names puts

  pub temporaries_in_else : Names → COtherwise → List Ty
  temporaries_in_else names no_else = []
  temporaries_in_else names (else_do body) = temporaries_in_stmt names body

  pub temporaries_in_stmts : Names → CStmts → List Ty
  temporaries_in_stmts names no_stmts = []
  temporaries_in_stmts names (more_stmts first others) = temporaries_in_stmt names first ++ temporaries_in_stmts names others

-- how many they are
abbrev pub count_in_test : Names → CExpr → ℕ
count_in_test names e = length (temporaries_in_operand names e)

abbrev pub count_in_option : Names → Option CExpr → ℕ
count_in_option names e = length (temporaries_in_option names e)

abbrev pub count_in_condition : Names → Option CExpr → ℕ
count_in_condition names e = length (temporaries_in_condition names e)

abbrev pub count_in_stmt : Names → CStmt → ℕ
count_in_stmt names s = length (temporaries_in_stmt names s)

abbrev pub count_in_stmts : Names → CStmts → ℕ
count_in_stmts names ss = length (temporaries_in_stmts names ss)

-- ---- objects

-- an object becomes zero: a scalar by a store, any other by a copy of bytes that are zero
abbrev pub cleared : BodyNames → ℕ → List Stmt
cleared of number =
    let type = of.type_of_object number in
    if is_scalar (type_in of.names type) then Assign (object_at of.names type number) (zero_of (type_in of.names type)) ∷ []
    else copied (AddressOf (Local (of.zeros number))) (address_of (object_at of.names type number)) (of.names.size_of type) ∷ []

abbrev pub cleared_where : Bool → BodyNames → ℕ → List Stmt
cleared_where is_it of number = if is_it then cleared of number else []

abbrev pub all_cleared : BodyNames → List ℕ → List Stmt
all_cleared of [] = []
all_cleared of (number ∷ numbers) = cleared of number ++ all_cleared of numbers

-- the lives of objects begin (6.2.4p5): in a program with a bit-field member their bytes are zero first, since a bit-field is stored by reading its bytes
abbrev pub begun : BodyNames → List ℕ → List Stmt
begun of numbers = if of.names.has_bits then all_cleared of numbers else []

-- what isn't a scalar
abbrev pub is_copied : Names → CTy → Bool
is_copied names type = not (is_scalar (type_in names type))

abbrev pub zeroed_of : Names → (ℕ → CTy) → List ℕ → List ℕ
zeroed_of names types numbers = if names.has_bits then filter (λ number. is_copied names (types number)) numbers else []

-- an initialiser leaves bits of an object of a type
abbrev pub leaves_bits_of : Names → CTy → Option CPuts → Bool
leaves_bits_of names type None = false
leaves_bits_of names type (Some puts) = leave_bits names puts 0 (8 * names.size_of type)

abbrev pub zeroed_at : Names → (ℕ → CTy) → ℕ → Option CPuts → List ℕ
zeroed_at names types number puts =
    if not names.has_bits && (is_copied names (types number) && leaves_bits_of names (types number) puts) then number ∷ [] else []

-- a declaration is reached whose initialiser leaves bits of the object: they are zero (6.7.8p21); in a program with a bit-field member any object becomes zero
abbrev pub leaves_bits : BodyNames → ℕ → Option CPuts → Bool
leaves_bits of number puts = leaves_bits_of of.names (of.type_of_object number) puts

abbrev pub contents : BodyNames → ℕ → Option CPuts → (next : ℕ) → List Stmt
contents of number None next = []
contents of number (Some puts) next =
    (lifted_puts of.names (of.type_of_object number) (object_at of.names (of.type_of_object number) number) puts next).body

abbrev pub declared : BodyNames → ℕ → Option CPuts → (next : ℕ) → List Stmt
declared of number puts next = cleared_where (of.names.has_bits || leaves_bits of number puts) of number ++ contents of number puts next

abbrev mutual
  -- the objects to which zero bytes are copied: in a program with a bit-field member all of blocks but scalars, else those whose initialisers leave bits; in the order of the text
  pub zeroed_in : Names → (type_of_object : ℕ → CTy) → CStmt → List ℕ
  zeroed_in names types (stmt place objects form) = zeroed_of names types objects ++ zeroed_in_form names types form

  pub zeroed_in_form : Names → (ℕ → CTy) → CStmtForm → List ℕ
  zeroed_in_form names types (label name body) = zeroed_in names types body
  zeroed_in_form names types (case value body) = zeroed_in names types body
  zeroed_in_form names types (default body) = zeroed_in names types body
  zeroed_in_form names types (block stmts) = zeroed_among names types stmts
  zeroed_in_form names types (expression value) = []
  zeroed_in_form names types (if_then test body otherwise) = zeroed_in names types body ++ zeroed_in_else names types otherwise
  zeroed_in_form names types (switch value body) = zeroed_in names types body
  zeroed_in_form names types (while test body) = zeroed_in names types body
  zeroed_in_form names types (do_while body test) = zeroed_in names types body
  zeroed_in_form names types (for_loop first test next body) = zeroed_among names types first ++ zeroed_in names types body
  zeroed_in_form names types (goto name) = []
  zeroed_in_form names types continue = []
  zeroed_in_form names types break = []
  zeroed_in_form names types (returns value) = []
  zeroed_in_form names types (begin number puts) = zeroed_at names types number puts

  pub zeroed_in_else : Names → (ℕ → CTy) → COtherwise → List ℕ
  zeroed_in_else names types no_else = []
  zeroed_in_else names types (else_do body) = zeroed_in names types body

  pub zeroed_among : Names → (ℕ → CTy) → CStmts → List ℕ
  zeroed_among names types no_stmts = []
  zeroed_among names types (more_stmts first others) = zeroed_in names types first ++ zeroed_among names types others

-- ---- expressions

abbrev pub effect : BodyNames → CExpr → (next : ℕ) → List Stmt
effect of e next = (lifted_full of.names e next).body

abbrev pub effect_of_option : BodyNames → Option CExpr → (next : ℕ) → List Stmt
effect_of_option of None next = []
effect_of_option of (Some e) next = effect of e next

abbrev pub condition : BodyNames → CExpr → (next : ℕ) → Condition
condition of e next = lifted_test of.names e next

-- the operand of a `switch`: its statements, its value and the type of that
pub record Operand : Type 0 where
  pub body : List Stmt
  pub value : Expr
  pub by : IntegerTy

abbrev pub integer_of : Ty → IntegerTy
integer_of (Integer which) = which
integer_of _ = I32

abbrev pub operand_in : Names → CExpr → Written → Operand
operand_in names e one = record { body = one.body; value = given_value one.given; by = integer_of (type_in names (type_of e)) }

abbrev pub operand_of : BodyNames → CExpr → (next : ℕ) → Operand
operand_of of e next = operand_in of.names e (lifted of.names operand e next)

-- ---- returns (6.8.6.4)

-- what is done, and what is given back
pub record Return : Type 0 where
  pub body : List Stmt
  pub value : Option Expr

abbrev pub gives_record : BodyNames → CExpr → Written → Return
gives_record of e one = record {
  body = one.body ++ (copied (address_of_given one.given) (Read (Local of.result)) (of.names.size_of (type_of e)) ∷ []);
  value = None;
}

abbrev pub gives_value : Written → Return
gives_value one = record { body = one.body; value = Some (given_value one.given) }

abbrev pub given_in : BodyNames → CExpr → Written → Return
given_in of e one = if is_record (type_of e) then gives_record of e one else gives_value one

abbrev pub given : BodyNames → Option CExpr → (next : ℕ) → Return
given of None next = record { body = []; value = None }
given of (Some e) next = given_in of e (lifted of.names (full e) e next)

-- the end of the body: zero for a function with a result that isn't a structure or union. No `return` is reached there: the value isn't used, but for that of `main`, which is 0 (5.1.2.2.3)
abbrev pub at_end_of : BodyNames → Option Expr
at_end_of of =
    if is_void of.result_type || is_record of.result_type then None else Some (zero_of (type_in of.names of.result_type))
