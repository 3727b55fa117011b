-- What is written for an expression and for a statement is well typed, and of the subset.
use Rattle.std.proofs.Common.{◌≡◌, ℕ, suc, ◌<◌, ◌≤◌, ◌==◌, Bool, true, false, cond, ◌&&◌, ◌||◌, ℤ, int_le, int_lt, List, [], ◌∷◌, ◌++◌, map, Option, Some, None, is_some, refl, sym, ap, subst, ◌∙◌, arith, rules}
use Rattle.std.specs.Prelude.{All, IfSome, IsSome}
use Rattle.std.specs.List.{AllByRecursion}
use Rattle.std.proofs.lemmas.Bool.Decides.{nat_tests}
use Rattle.std.proofs.lemmas.Int.{ints}
use Rattle.std.proofs.lemmas.List.Elements.{All-head, All-tail}
use Rattle.cr_base.specs.declared.scalar.Scalar.TheVariants.{Whole}
use Rattle.cr_base.specs.Scalar.{IsInRange, least, above}
use Rattle.straight_core.specs.declared.expr.Op1.{Op1}
use Rattle.straight_core.specs.declared.expr.Op1.TheVariants.{Minus}
use Rattle.straight_core.specs.declared.expr.Op2.{Op2}
use Rattle.straight_core.specs.Linked.{IsTypedOuter, IsOpaque, AreOpaqueParams}
use Rattle.straight_core.specs.Trees.{CTy, ty, CTyForm, void, int, function, CParams, unlisted, listed, CTys, no_types, more_types, types_in, form_of_type, unqualified, CExpr, expr, CForm, whole, object, load, convert, unary, binary, assign as stores, call as calls, CExprs, no_exprs, more_exprs, type_of, CStmt, stmt, CStmtForm, block, expression, returns, CStmts, no_stmts, more_stmts, COuter, CProgram}
use Rattle.straight_core.specs.Typing.{IsScalarType, IsPromoted, IsConstantOf, IsLvalueForm, IsConversion, IsTypedForm, AreTyped, AreArguments, AreArgumentsOf, IsCallOf, IsReturnOf, IsTypedStmt, IsTypedStmtForm, AreTypedStmts, object_with, outer_with}
use Rattle.straight_lift.specs.Agrees.{param_types, result_type}
use Rattle.straight_lift.specs.declared.atom.Atom.{Atom}
use Rattle.straight_lift.specs.declared.atom.Atom.TheVariants.{Fixed, Temporary}
use Rattle.straight_lift.specs.Lifted.{Names, Lifted, LiftedArgs, temporary_place, operand_expr, operand_exprs, form_place, operator_of, in_temporary, held_atom, held, lifted_call, lifted_conversion, lifted_unary, lift_form, lift_args, lift_return, lift_stmt, lift_stmt_form, lift_stmts}
use Rattle.straight_rust_mean.specs.Items.{outer, signature_of}
use Rattle.straight_rust_mean.specs.Scalars.{literal_fits}
use Rattle.straight_rust_mean.specs.Typing as typing
use Rattle.straight_rust_mean.specs.Typing.{Scope, place_type, only_if, is_trailing, signature_at, args_fit, are_one_type, is_type, neg_type, binary_type, call_type, stmt_typed}
use Rattle.straight_rust_tree.specs.Names.{is_identifier, is_module_name}
use Rattle.straight_rust_tree.specs.Tree.{Ty, i32, Place, static_at, Expr, literal, read, call, neg, binary as operates, exprs, Stmt, assign, eval, gives}
use Rattle.straight_rust_tree.specs.Valid.{valid_place, valid_expr, valid_exprs, valid_stmt}
use Rattle.straight_whole.specs.Calls.{calls_in_form, calls_in_args, calls_in_option, calls_in_stmt, calls_in_stmt_form, calls_in_stmts}
use Rattle.straight_whole.specs.CrateOf.{declared_outer, outer_of}
use Rattle.straight_whole.proofs.TypedCount.{held_grows, form_grows, args_grow, stmts_grow}

-- ---- tests

pub and_true : (a b : Bool) → a ≡ true → b ≡ true → (a && b) ≡ true
and_true a b one other = rw (one, other) refl

pub or_left : (a b : Bool) → a ≡ true → (a || b) ≡ true
or_left a b one = rw one refl

pub or_right : (a b : Bool) → b ≡ true → (a || b) ≡ true
or_right true b one = refl
or_right false b one = one

pub all_append : {A : Type 0} (P : A → Type 0) (xs ys : List A) → AllByRecursion P xs → AllByRecursion P ys → AllByRecursion P (xs ++ ys)
all_append P [] ys one other = other
all_append P (x ∷ xs) ys one other = (one.0, all_append P xs ys one.1 other)

pub same_number : (n : ℕ) → (n == n) ≡ true
same_number n = grind (arith, nat_tests)

-- ---- what holds of places, values and statements that are written

-- a place of type `i32`
pub record IsPlace (scope : Scope) (place : Place) : Type 0 where
  pub valid : valid_place place ≡ true
  pub typed : place_type scope place ≡ Some i32

-- an expression of type `i32`
pub record IsValue (scope : Scope) (value : Expr) : Type 0 where
  pub valid : valid_expr value ≡ true
  pub typed : typing.type_of scope value ≡ Some i32

-- a typed statement of a function with this result
pub record IsStatement (scope : Scope) (result : Option Ty) (one : Stmt) : Type 0 where
  pub valid : valid_stmt one ≡ true
  pub typed : stmt_typed scope result one ≡ true

pub stored : (scope : Scope) (result : Option Ty) (place : Place) (value : Expr) → IsPlace scope place → IsValue scope value → IsStatement scope result (assign place value)
stored scope result place value is one = record {
  valid = and_true (valid_place place) (valid_expr value) is.valid one.valid;
  typed = ap (λ t. are_one_type t (typing.type_of scope value)) is.typed ∙ ap (λ t. are_one_type (Some i32) t) one.typed;
}

pub fits : (type : CTy) (value : ℤ) → IsConstantOf type value → literal_fits i32 value ≡ true
fits (ty int is_const) value is = in_range value is.in_range
  where
    in_range : (value : ℤ) → IsInRange (Whole 32 true) value → literal_fits i32 value ≡ true
    in_range value is =
        let from : int_le (least (Whole 32 true)) value ≡ true = grind (arith, ints, is.0) in
        let below : int_lt value (above (Whole 32 true)) ≡ true = grind (arith, ints, is.1) in
        and_true _ _ from below
fits (ty void is_const) value is = absurd (search (rules, is.scalar))
fits (ty (function result params variadic) is_const) value is = absurd (search (rules, is.scalar))

pub literal_is_value : (scope : Scope) (value : ℤ) → literal_fits i32 value ≡ true → IsValue scope (literal value i32)
literal_is_value scope value is = record { valid = refl; typed = ap (λ test. only_if test i32) is }

-- ---- what names stand for

-- a function's name stands for it
pub record IsCallable (names : Names) (scope : Scope) (one : COuter) (number : ℕ) : Type 0 where
  pub valid : is_identifier (names.functions number) ≡ true
  pub found : signature_at scope.whole names.home (names.functions number) ≡ Some (signature_of (outer (outer_of one)))

-- the names of objects and of temporaries below a number stand for objects of type `i32`
pub record AreKnown (program : CProgram) (names : Names) (scope : Scope) (limit : ℕ) : Type 0 where
  pub externals : All IsTypedOuter program.externals
  pub home : is_module_name names.home ≡ true
  pub objects : (number : ℕ) → IsSome (object_with number program.objects) → IsPlace scope (static_at names.home (names.objects number))
  pub temporaries : (number : ℕ) → number < limit → IsPlace scope (temporary_place names number)

-- the names of the functions that a test tells stand for them
abbrev pub AreCallable : CProgram → Names → Scope → (ℕ → Bool) → Type 0
AreCallable program names scope test = (number : ℕ) (one : COuter) → test number ≡ true → outer_with number program.externals ≡ Some one → IsCallable names scope one number

-- ---- atoms

abbrev pub IsAtom : Names → Scope → Option Atom → Type 0
IsAtom names scope None = ⊥
IsAtom names scope (Some (Fixed value)) = literal_fits i32 value ≡ true
IsAtom names scope (Some (Temporary number)) = IsPlace scope (temporary_place names number)

abbrev IsInTemporary : Names → Scope → Option Atom → Type 0
IsInTemporary names scope None = ⊥
IsInTemporary names scope (Some (Fixed value)) = ⊥
IsInTemporary names scope (Some (Temporary number)) = IsPlace scope (temporary_place names number)

pub atom_is_value : (names : Names) (scope : Scope) (atom : Option Atom) → IsAtom names scope atom → IsValue scope (operand_expr names atom)
atom_is_value names scope None is = absurd is
atom_is_value names scope (Some (Fixed value)) is = literal_is_value scope value is
atom_is_value names scope (Some (Temporary number)) is = record { valid = is.valid; typed = is.typed }

negated : (names : Names) (scope : Scope) (atom : Option Atom) → IsInTemporary names scope atom → IsValue scope (neg (operand_expr names atom))
negated names scope None is = absurd is
negated names scope (Some (Fixed value)) is = absurd is
negated names scope (Some (Temporary number)) is = record { valid = is.valid; typed = ap neg_type is.typed }

operated : (scope : Scope) (op : Op2) (left right : Expr) → IsValue scope left → IsValue scope right → IsValue scope (operates (operator_of op) left right)
operated scope op left right one other = record {
  valid = and_true (valid_expr left) (valid_expr right) one.valid other.valid;
  typed = ap (λ t. binary_type t (typing.type_of scope right)) one.typed ∙ ap (λ t. binary_type (Some i32) t) other.typed;
}

-- ---- what is written for an expression

-- its statements are typed, and it has a value of type `i32` where its type is a scalar one
pub record IsLifted (names : Names) (scope : Scope) (type : CTy) (one : Lifted) : Type 0 where
  pub stmts : AllByRecursion (IsStatement scope (Some i32)) one.stmts
  pub value : IsScalarType type → IsAtom names scope one.value

record IsHeld (names : Names) (scope : Scope) (one : Lifted) : Type 0 where
  pub stmts : AllByRecursion (IsStatement scope (Some i32)) one.stmts
  pub value : IsInTemporary names scope one.value

-- the values of arguments are of type `i32`
abbrev AreAtoms : Names → Scope → CExprs → List (Option Atom) → Type 0
AreAtoms names scope no_exprs [] = Unit {0}
AreAtoms names scope no_exprs (one ∷ more) = ⊥
AreAtoms names scope (more_exprs first others) [] = ⊥
AreAtoms names scope (more_exprs first others) (one ∷ more) = IsAtom names scope one × AreAtoms names scope others more

record AreLifted (names : Names) (scope : Scope) (args : CExprs) (ones : LiftedArgs) : Type 0 where
  pub stmts : AllByRecursion (IsStatement scope (Some i32)) ones.stmts
  pub values : AreAtoms names scope args ones.values

-- a value in the next temporary
in_next : (names : Names) (scope : Scope) (type : CTy) (list : List Stmt) (next : ℕ) (value : Expr) →
    AllByRecursion (IsStatement scope (Some i32)) list → IsPlace scope (temporary_place names next) → IsValue scope value → IsLifted names scope type (in_temporary names list next value)
in_next names scope type list next value all place is = record {
  stmts = all_append (IsStatement scope (Some i32)) list (assign (temporary_place names next) value ∷ []) all (stored scope (Some i32) (temporary_place names next) value place is, tt);
  value = λ scalar. place;
}

held_by : (names : Names) (scope : Scope) (one : Lifted) (value : Option Atom) → IsAtom names scope value → one.value ≡ value →
    AllByRecursion (IsStatement scope (Some i32)) one.stmts → ((held_atom names one value).next ≡ suc one.next → IsPlace scope (temporary_place names one.next)) → IsHeld names scope (held_atom names one value)
held_by names scope one None is same all place = absurd is
held_by names scope one (Some (Fixed number)) is same all place = record {
  stmts = all_append (IsStatement scope (Some i32)) one.stmts (assign (temporary_place names one.next) (literal number i32) ∷ []) all
      (stored scope (Some i32) (temporary_place names one.next) (literal number i32) (place refl) (literal_is_value scope number is), tt);
  value = place refl;
}
held_by names scope one (Some (Temporary number)) is same all place = record { stmts = all; value = subst (IsInTemporary names scope) (sym same) is }

-- ---- types

scalar_promoted : (type : CTy) → IsPromoted type → IsScalarType type
scalar_promoted (ty int is_const) is = refl
scalar_promoted (ty void is_const) is = absurd is
scalar_promoted (ty (function result params variadic) is_const) is = absurd is

scalar_unqualified : (type : CTy) → IsScalarType type → IsScalarType (unqualified type)
scalar_unqualified (ty form is_const) is = is

abbrev AreScalar : CExprs → Type 0
AreScalar no_exprs = Unit {0}
AreScalar (more_exprs first others) = IsScalarType (type_of first) × AreScalar others

listed_scalar : (types : CTys) (variadic : Bool) (args : CExprs) → All IsScalarType (types_in types) → AreArguments types variadic args → AreScalar args
listed_scalar no_types variadic no_exprs scalars are = tt
listed_scalar no_types variadic (more_exprs first others) scalars are =
    (scalar_promoted (type_of first) are.1, listed_scalar no_types variadic others scalars are.2)
listed_scalar (more_types type types) variadic no_exprs scalars are = absurd are
listed_scalar (more_types type types) variadic (more_exprs first others) scalars are = (
  subst IsScalarType (sym are.0) (scalar_unqualified type (All-head IsScalarType type (types_in types) scalars)),
  listed_scalar types variadic others (All-tail IsScalarType type (types_in types) scalars) are.1,
)

args_scalar : (params : CParams) (variadic : Bool) (args : CExprs) → AreOpaqueParams params → AreArgumentsOf params variadic args → AreScalar args
args_scalar unlisted variadic args opaque are = subst AreScalar (sym are) tt
args_scalar (listed types) variadic args opaque are = listed_scalar types variadic args opaque are

call_scalar : (form : CTyForm) (type : CTy) (args : CExprs) → IsOpaque form → IsCallOf type args form → AreScalar args
call_scalar (function result params variadic) type args opaque is = args_scalar params variadic args opaque.1 is.1
call_scalar void type args opaque is = absurd is
call_scalar int type args opaque is = absurd is

-- ---- calls

listed_fit : (names : Names) (scope : Scope) (types : CTys) (variadic : Bool) (args : CExprs) (values : List (Option Atom)) → AreAtoms names scope args values → AreArguments types variadic args →
    args_fit scope (map (λ type. i32) (types_in types)) variadic (exprs (operand_exprs names values)) ≡ true
listed_fit names scope no_types variadic no_exprs [] atoms are = refl
listed_fit names scope no_types variadic no_exprs (one ∷ more) atoms are = absurd atoms
listed_fit names scope no_types variadic (more_exprs first others) [] atoms are = absurd atoms
listed_fit names scope no_types variadic (more_exprs first others) (one ∷ more) atoms are =
    and_true _ _ (and_true variadic _ are.0 (ap is_trailing (atom_is_value names scope one atoms.0).typed))
    (listed_fit names scope no_types variadic others more atoms.1 are.2)
listed_fit names scope (more_types type types) variadic no_exprs values atoms are = absurd are
listed_fit names scope (more_types type types) variadic (more_exprs first others) [] atoms are = absurd atoms
listed_fit names scope (more_types type types) variadic (more_exprs first others) (one ∷ more) atoms are =
    and_true _ _ (ap (is_type i32) (atom_is_value names scope one atoms.0).typed) (listed_fit names scope types variadic others more atoms.1 are.1)

args_are_fit : (names : Names) (scope : Scope) (params : CParams) (variadic : Bool) (args : CExprs) (values : List (Option Atom)) → AreAtoms names scope args values → AreArgumentsOf params variadic args →
    args_fit scope (param_types params) variadic (exprs (operand_exprs names values)) ≡ true
args_are_fit names scope unlisted variadic no_exprs [] atoms are = refl
args_are_fit names scope unlisted variadic no_exprs (one ∷ more) atoms are = absurd atoms
args_are_fit names scope unlisted variadic (more_exprs first others) values atoms are = absurd (cc)
args_are_fit names scope (listed types) variadic args values atoms are = listed_fit names scope types variadic args values atoms are

values_valid : (names : Names) (scope : Scope) (args : CExprs) (values : List (Option Atom)) → AreAtoms names scope args values → valid_exprs (exprs (operand_exprs names values)) ≡ true
values_valid names scope no_exprs [] atoms = refl
values_valid names scope no_exprs (one ∷ more) atoms = absurd atoms
values_valid names scope (more_exprs first others) [] atoms = absurd atoms
values_valid names scope (more_exprs first others) (one ∷ more) atoms =
    and_true _ _ (atom_is_value names scope one atoms.0).valid (values_valid names scope others more atoms.1)

-- the call of a function of a type, in the crate
call_typed : (names : Names) (scope : Scope) (name : List ℕ) (m x : List ℕ) (result : CTy) (params : CParams) (variadic : Bool) (values : List (Option Atom)) →
    signature_at scope.whole m x ≡ Some (signature_of (outer (declared_outer name (function result params variadic)))) →
    args_fit scope (param_types params) variadic (exprs (operand_exprs names values)) ≡ true →
    call_type (signature_at scope.whole m x) (λ signature. args_fit scope signature.params signature.variadic (exprs (operand_exprs names values))) ≡ Some (result_type (form_of_type result))
call_typed names scope name m x result params variadic values found fit = rw (found, fit) refl

call_lifted : (names : Names) (scope : Scope) (name : List ℕ) (form : CTyForm) (type : CTy) (callee : ℕ) (args : CExprs) (ones : LiftedArgs) →
    is_module_name names.home ≡ true → is_identifier (names.functions callee) ≡ true →
    signature_at scope.whole names.home (names.functions callee) ≡ Some (signature_of (outer (declared_outer name form))) →
    IsOpaque form → IsCallOf type args form → AreLifted names scope args ones →
    (suc ones.next ≤ (lifted_call names (form_of_type type) callee ones).next → IsPlace scope (temporary_place names ones.next)) →
    IsLifted names scope type (lifted_call names (form_of_type type) callee ones)
call_lifted names scope name void type callee args ones home valid found opaque is are place = absurd is
call_lifted names scope name int type callee args ones home valid found opaque is are place = absurd is
call_lifted names scope name (function (ty void is_const) params variadic) (ty void other) callee args ones home valid found opaque is are place =
    record {
      stmts = all_append (IsStatement scope (Some i32)) ones.stmts (eval (call names.home (names.functions callee) (exprs (operand_exprs names ones.values))) ∷ []) are.stmts (
        record {
          valid = and_true _ _ (and_true _ _ home valid) (values_valid names scope args ones.values are.values);
          typed = ap is_some (call_typed names scope name names.home (names.functions callee) (ty void is_const) params variadic ones.values found (args_are_fit names scope params variadic args ones.values are.values is.1));
        },
        tt,
      );
      value = λ scalar. absurd (search (rules, scalar));
    }
call_lifted names scope name (function (ty int is_const) params variadic) (ty int other) callee args ones home valid found opaque is are place =
    in_next names scope (ty int other) ones.stmts ones.next (call names.home (names.functions callee) (exprs (operand_exprs names ones.values))) are.stmts (place (omega arith))
    (record {
      valid = and_true _ _ (and_true _ _ home valid) (values_valid names scope args ones.values are.values);
      typed = ap typing.value_type (call_typed names scope name names.home (names.functions callee) (ty int is_const) params variadic ones.values found (args_are_fit names scope params variadic args ones.values are.values is.1));
    })
call_lifted names scope name (function (ty (function r p v) is_const) params variadic) type callee args ones home valid found opaque is are place = absurd opaque.0
call_lifted names scope name (function (ty void is_const) params variadic) (ty int other) callee args ones home valid found opaque is are place = absurd (let e = is.0 in cc)
call_lifted names scope name (function (ty void is_const) params variadic) (ty (function r p v) other) callee args ones home valid found opaque is are place = absurd (let e = is.0 in cc)
call_lifted names scope name (function (ty int is_const) params variadic) (ty void other) callee args ones home valid found opaque is are place = absurd (let e = is.0 in cc)
call_lifted names scope name (function (ty int is_const) params variadic) (ty (function r p v) other) callee args ones home valid found opaque is are place = absurd (let e = is.0 in cc)

-- ---- external functions

found_by : (P : COuter → Type 0) (test : Bool) (first one : COuter) (rest : Option COuter) → P first → (rest ≡ Some one → P one) → cond test (Some first) rest ≡ Some one → P one
found_by P true first one rest holds others found =
    let same : first ≡ one = cc in
    subst P same holds
found_by P false first one rest holds others found = others found

-- what holds of all external functions holds of that of a number
pub outer_found : (P : COuter → Type 0) (list : List COuter) (number : ℕ) (one : COuter) → All P list → outer_with number list ≡ Some one → P one
outer_found P [] number one all found = absurd (cc)
outer_found P (first ∷ others) number one all found =
    found_by P (first.function == number) first one (outer_with number others) (All-head P first others all)
    (λ rest. outer_found P others number one (All-tail P first others all) rest) found

-- ---- expressions

module _ (program : CProgram) (names : Names) (scope : Scope) (limit : ℕ) (known : AreKnown program names scope limit) where
  abbrev Callables : (ℕ → Bool) → Type 0
  Callables test = AreCallable program names scope test

  -- the temporary of a number below the next one
  below : (number next : ℕ) → next ≤ limit → suc number ≤ next → IsPlace scope (temporary_place names number)
  below number next bound is = known.temporaries number (omega arith)

  lvalue_is_place : (type : CTy) (form : CForm) → IsLvalueForm program type form → IsPlace scope (form_place names form)
  lvalue_is_place type (whole value) is = absurd is
  lvalue_is_place type (object number) is = known.objects number is.0
  lvalue_is_place type (load from) is = absurd is
  lvalue_is_place type (convert value) is = absurd is
  lvalue_is_place type (unary op value) is = absurd is
  lvalue_is_place type (binary op left right) is = absurd is
  lvalue_is_place type (stores target value) is = absurd is
  lvalue_is_place type (calls callee args) is = absurd is

  converted : (from : CTy) (type : CTy) (one : Lifted) → IsConversion from type → IsLifted names scope from one → IsLifted names scope type (lifted_conversion (form_of_type type) one)
  converted from (ty void is_const) one is lifted = record { stmts = lifted.stmts; value = λ scalar. absurd (search (rules, scalar)) }
  converted from (ty int is_const) one is lifted = record { stmts = lifted.stmts; value = λ scalar. lifted.value is.1 }
  converted from (ty (function result params variadic) is_const) one is lifted = absurd is

  unary_lifted : (type : CTy) (op : Op1) (one : Lifted) → IsScalarType type → IsLifted names scope type one → (lifted_unary names op (held names one)).next ≤ limit → IsLifted names scope type (lifted_unary names op (held names one))
  unary_lifted type Minus one scalar lifted bound =
      let ready = held_by names scope one one.value (lifted.value scalar) refl lifted.stmts (λ e. below one.next (held names one).next (omega arith) (omega arith)) in
      in_next names scope type (held names one).stmts (held names one).next (neg (operand_expr names (held names one).value)) ready.stmts
      (below (held names one).next (suc (held names one).next) bound (omega arith)) (negated names scope (held names one).value ready.value)

  conversion_bound : (form : CTyForm) (one : Lifted) → (lifted_conversion form one).next ≤ limit → one.next ≤ limit
  conversion_bound void one bound = bound
  conversion_bound int one bound = bound
  conversion_bound (function result params variadic) one bound = bound

  unary_bound : (op : Op1) (one : Lifted) → (lifted_unary names op (held names one)).next ≤ limit → one.next ≤ limit
  unary_bound Minus one bound =
      let grown : one.next ≤ (held names one).next = held_grows names one in
      omega arith

  call_bound : (form : CTyForm) (callee : ℕ) (ones : LiftedArgs) → (lifted_call names form callee ones).next ≤ limit → ones.next ≤ limit
  call_bound void callee ones bound = bound
  call_bound int callee ones bound = omega arith
  call_bound (function result params variadic) callee ones bound = bound

  -- a call, by the function that has its number
  called : (type : CTy) (callee : ℕ) (args : CExprs) (ones : LiftedArgs) (one : COuter) → outer_with callee program.externals ≡ Some one → IsCallable names scope one callee →
      IsCallOf type args (form_of_type one.type) → AreLifted names scope args ones → (lifted_call names (form_of_type type) callee ones).next ≤ limit →
      IsLifted names scope type (lifted_call names (form_of_type type) callee ones)
  called type callee args ones one found callable is are bound =
      call_lifted names scope one.name (form_of_type one.type) type callee args ones known.home callable.valid callable.found
      (outer_found IsTypedOuter program.externals callee one known.externals found).opaque is are (λ more. below ones.next (lifted_call names (form_of_type type) callee ones).next bound more)

  call_by : (type : CTy) (callee : ℕ) (args : CExprs) (ones : LiftedArgs) (found : Option COuter) → outer_with callee program.externals ≡ found → IsSome found → IfSome found (λ one. IsCallOf type args (form_of_type one.type)) →
      Callables (λ n. callee == n || calls_in_args n args) → (AreScalar args → AreLifted names scope args ones) → (lifted_call names (form_of_type type) callee ones).next ≤ limit →
      IsLifted names scope type (lifted_call names (form_of_type type) callee ones)
  call_by type callee args ones None same some is callables are bound = absurd (search (rules, some))
  call_by type callee args ones (Some one) same some is callables are bound =
      called type callee args ones one same (callables callee one (or_left _ _ (same_number callee)) same) is
      (are (call_scalar (form_of_type one.type) type args (outer_found IsTypedOuter program.externals callee one known.externals same).opaque is)) bound

  mutual
    pub form_lifted : (type : CTy) (form : CForm) (next : ℕ) → IsTypedForm program type form → Callables (λ n. calls_in_form n form) → (lift_form names type form next).next ≤ limit → IsLifted names scope type (lift_form names type form next)
    form_lifted type (whole value) next is callables bound = record { stmts = tt; value = λ scalar. fits type value is }
    form_lifted type (object number) next is callables bound = absurd is
    form_lifted type (load (expr t p form)) next is callables bound =
        let place = lvalue_is_place t form is.0 in
        in_next names scope type [] next (read (form_place names form)) tt (below next (suc next) bound (omega arith)) (record { valid = place.valid; typed = place.typed })
    form_lifted type (convert (expr t p form)) next is callables bound =
        converted t type (lift_form names t form next) is.1 (form_lifted t form next is.0 callables (conversion_bound (form_of_type type) (lift_form names t form next) bound))
    form_lifted type (unary op (expr t p form)) next is callables bound =
        unary_lifted type op (lift_form names t form next) (scalar_promoted type is.1.promoted)
        (subst (λ kind. IsLifted names scope kind (lift_form names t form next)) is.1.value_is (form_lifted t form next is.0 callables (unary_bound op (lift_form names t form next) bound))) bound
    form_lifted type (binary op (expr t p left) (expr s q right)) next is callables bound =
        let one = lift_form names t left next in
        let other = lift_form names s right one.next in
        let grown : one.next ≤ other.next = form_grows names s right one.next in
        let first = form_lifted t left next is.0 (λ n found test. callables n found (or_left _ _ test)) (omega arith) in
        let second = form_lifted s right one.next is.1 (λ n found test. callables n found (or_right _ _ test)) (omega arith) in
        in_next names scope type (one.stmts ++ other.stmts) other.next (operates (operator_of op) (operand_expr names one.value) (operand_expr names other.value))
        (all_append (IsStatement scope (Some i32)) one.stmts other.stmts first.stmts second.stmts) (below other.next (suc other.next) bound (omega arith))
        (operated scope op (operand_expr names one.value) (operand_expr names other.value)
        (atom_is_value names scope one.value (first.value (subst IsScalarType (sym is.2.left_is) (scalar_promoted type is.2.promoted))))
        (atom_is_value names scope other.value (second.value (subst IsScalarType (sym is.2.right_is) (scalar_promoted type is.2.promoted)))))
    form_lifted type (stores (expr s q target) (expr t p form)) next is callables bound =
        let one = form_lifted t form next is.1 (λ n found test. callables n found (or_right _ _ test)) bound in
        let value = one.value (subst IsScalarType (sym is.2.value_is) is.2.scalar) in
        record {
          stmts = all_append (IsStatement scope (Some i32)) (lift_form names t form next).stmts (assign (form_place names target) (operand_expr names (lift_form names t form next).value) ∷ []) one.stmts
              (stored scope (Some i32) (form_place names target) (operand_expr names (lift_form names t form next).value) (lvalue_is_place s target is.0) (atom_is_value names scope (lift_form names t form next).value value), tt);
          value = λ scalar. value;
        }
    form_lifted type (calls callee args) next is callables bound =
        call_by type callee args (lift_args names args next) (outer_with callee program.externals) refl is.1.0 is.1.1 callables
        (λ scalar. args_lifted args next is.0 scalar (λ n found test. callables n found (or_right _ _ test)) (call_bound (form_of_type type) callee (lift_args names args next) bound)) bound

    args_lifted : (args : CExprs) (next : ℕ) → AreTyped program args → AreScalar args → Callables (λ n. calls_in_args n args) → (lift_args names args next).next ≤ limit → AreLifted names scope args (lift_args names args next)
    args_lifted no_exprs next are scalar callables bound = record { stmts = tt; values = tt }
    args_lifted (more_exprs (expr t p form) others) next are scalar callables bound =
        let one = lift_form names t form next in
        let more = lift_args names others one.next in
        let grown : one.next ≤ more.next = args_grow names others one.next in
        let first = form_lifted t form next are.0 (λ n found test. callables n found (or_left _ _ test)) (omega arith) in
        let rest = args_lifted others one.next are.1 scalar.1 (λ n found test. callables n found (or_right _ _ test)) bound in
        record { stmts = all_append (IsStatement scope (Some i32)) one.stmts more.stmts first.stmts rest.stmts; values = (first.value scalar.0, rest.values) }

  -- ---- statements

  return_lifted : (result : CTy) (value : Option CExpr) (next : ℕ) → IsScalarType result → IsReturnOf program result value → Callables (λ n. calls_in_option n value) → (lift_return names value next).next ≤ limit →
      AllByRecursion (IsStatement scope (Some i32)) (lift_return names value next).stmts
  return_lifted result None next scalar is callables bound = absurd (no_void result scalar is)
    where
      no_void : (type : CTy) → IsScalarType type → form_of_type type ≡ void → ⊥
      no_void (ty void is_const) scalar is = search (rules, scalar)
      no_void (ty int is_const) scalar is = cc
      no_void (ty (function r p v) is_const) scalar is = search (rules, scalar)
  return_lifted result (Some (expr t p form)) next scalar is callables bound =
      let one = form_lifted t form next is.0 callables bound in
      let value = atom_is_value names scope (lift_form names t form next).value (one.value (subst IsScalarType (sym is.2) (scalar_unqualified result is.1))) in
      all_append (IsStatement scope (Some i32)) (lift_form names t form next).stmts (gives (Some (operand_expr names (lift_form names t form next).value)) ∷ []) one.stmts
      (record { valid = value.valid; typed = ap (is_type i32) value.typed }, tt)

  mutual
    pub stmt_form_lifted : (result : CTy) (form : CStmtForm) (next : ℕ) → IsScalarType result → IsTypedStmtForm program result form → Callables (λ n. calls_in_stmt_form n form) →
        (lift_stmt_form names form next).next ≤ limit → AllByRecursion (IsStatement scope (Some i32)) (lift_stmt_form names form next).stmts
    stmt_form_lifted result (block stmts) next scalar is callables bound = stmts_lifted result stmts next scalar is callables bound
    stmt_form_lifted result (expression (expr t p form)) next scalar is callables bound = (form_lifted t form next is.0 callables bound).stmts
    stmt_form_lifted result (returns value) next scalar is callables bound = return_lifted result value next scalar is callables bound

    stmts_lifted : (result : CTy) (stmts : CStmts) (next : ℕ) → IsScalarType result → AreTypedStmts program result stmts → Callables (λ n. calls_in_stmts n stmts) →
        (lift_stmts names stmts next).next ≤ limit → AllByRecursion (IsStatement scope (Some i32)) (lift_stmts names stmts next).stmts
    stmts_lifted result no_stmts next scalar is callables bound = tt
    stmts_lifted result (more_stmts (stmt p objects form) others) next scalar is callables bound =
        let one = lift_stmt_form names form next in
        let more = lift_stmts names others one.next in
        let grown : one.next ≤ more.next = stmts_grow names others one.next in
        let first = stmt_form_lifted result form next scalar is.0.1 (λ n found test. callables n found (or_left _ _ test)) (omega arith) in
        let rest = stmts_lifted result others one.next scalar is.1 (λ n found test. callables n found (or_right _ _ test)) bound in
        all_append (IsStatement scope (Some i32)) one.stmts more.stmts first rest

  -- the statements that are written for a typed body are typed
  pub body_lifted : (result : CTy) (body : CStmt) → IsScalarType result → IsTypedStmt program result body → Callables (λ n. calls_in_stmt n body) → (lift_stmt names body 0).next ≤ limit →
      AllByRecursion (IsStatement scope (Some i32)) (lift_stmt names body 0).stmts
  body_lifted result (stmt p objects form) scalar is callables bound = stmt_form_lifted result form 0 scalar is.1 callables bound
