-- Calls in typed expressions: their arguments are of type `int`, and the step of a call is proper.
use Rattle.std.proofs.Common.{◌≡◌, ℕ, ◌==◌, Bool, true, false, if◌then◌else◌, List, [], ◌∷◌, map, Option, Some, None, refl, sym, subst, ap, ◌∙◌, rules}
use Rattle.std.specs.Prelude.{All, IfSome, IsSome}
use Rattle.std.proofs.lemmas.List.Elements.{All-head, All-tail}
use Rattle.cr_base.specs.Scalar.{converted}
use Rattle.cr_base.specs.declared.scalar.Scalar.TheVariants.{Whole}
use Rattle.straight_core.specs.Linked.{IsTypedOuter, IsOpaque, IsOpaqueResult, AreOpaqueParams}
use Rattle.straight_core.specs.Trees.{CTy, ty, CTyForm, void, int, function, CParams, unlisted, listed, CTys, no_types, more_types, types_in, form_of_type, unqualified, CExprs, no_exprs, more_exprs, type_of, COuter, CProgram}
use Rattle.straight_core.specs.Typing.{IsScalarType, IsPromoted, AreArguments, AreArgumentsOf, IsCallOf, outer_with}
use Rattle.straight_mean.specs.Marks.{united}
use Rattle.straight_mean.specs.Nodes.{Done, call_step, argument, arguments, number_in}
use Rattle.straight_mean.specs.Operands.{COperand, CWorld}
use Rattle.straight_mean.specs.Sound.{GivesInt, IsOperandOf}
use Rattle.straight_mean.proofs.Ranges.{wrapped_in_range}
use Rattle.straight_mean.proofs.Sound.{Proper, Any, Outcome, InInt, proper_and, united_proper, number_proper, int_given}
use Rattle.ext_calls.specs.Host.{first_answer}

-- ---- types

-- a fact of types that holds of `int` holds of each type whose form is that
pub by_type : (P : CTy → Type 0) → ((is_const : Bool) → P (ty int is_const)) → (type : CTy) → form_of_type type ≡ int → P type
by_type P holds (ty int is_const) is = holds is_const
by_type P holds (ty void is_const) is = absurd (cc)
by_type P holds (ty (function result params variadic) is_const) is = absurd (cc)

pub promoted_int : (type : CTy) → IsPromoted type → form_of_type type ≡ int
promoted_int (ty int is_const) is = refl
promoted_int (ty void is_const) is = absurd is
promoted_int (ty (function result params variadic) is_const) is = absurd is

pub scalar_int : (type : CTy) → IsScalarType type → form_of_type type ≡ int
scalar_int (ty int is_const) is = refl
scalar_int (ty void is_const) is = absurd (search rules)
scalar_int (ty (function result params variadic) is_const) is = absurd (search rules)

pub unqualified_form : (type : CTy) → form_of_type (unqualified type) ≡ form_of_type type
unqualified_form (ty form is_const) = refl

-- an operand of a type whose form is `int` gives an `int`
pub operand_int : (type : CTy) (operand : COperand) → form_of_type type ≡ int → IsOperandOf type operand → GivesInt operand.value
operand_int type operand is of = rw is at of.gives

-- ---- arguments

abbrev pub AreIntArgs : CExprs → Type 0
AreIntArgs no_exprs = Unit {0}
AreIntArgs (more_exprs first others) = (form_of_type (type_of first) ≡ int) × AreIntArgs others

listed_ints : (types : CTys) (variadic : Bool) (args : CExprs) → All IsScalarType (types_in types) → AreArguments types variadic args → AreIntArgs args
listed_ints no_types variadic no_exprs scalars are = tt
listed_ints no_types variadic (more_exprs first others) scalars are =
    (promoted_int (type_of first) are.1, listed_ints no_types variadic others scalars are.2)
listed_ints (more_types type types) variadic no_exprs scalars are = absurd are
listed_ints (more_types type types) variadic (more_exprs first others) scalars are = (
  ap (λ (one : CTy). form_of_type one) are.0 ∙ (unqualified_form type ∙ scalar_int type (All-head IsScalarType type (types_in types) scalars)),
  listed_ints types variadic others (All-tail IsScalarType type (types_in types) scalars) are.1,
)

pub args_ints : (params : CParams) (variadic : Bool) (args : CExprs) → AreOpaqueParams params → AreArgumentsOf params variadic args → AreIntArgs args
args_ints unlisted variadic args opaque are = rw are tt
args_ints (listed types) variadic args opaque are = listed_ints types variadic args opaque are

-- the operands that arguments give
abbrev pub AreOperands : CExprs → List COperand → Type 0
AreOperands no_exprs [] = Unit {0}
AreOperands no_exprs (one ∷ more) = ⊥
AreOperands (more_exprs first others) [] = ⊥
AreOperands (more_exprs first others) (one ∷ more) = IsOperandOf (type_of first) one × AreOperands others more

arguments_proper : (args : CExprs) (operands : List COperand) → AreIntArgs args → AreOperands args operands → Proper Any (arguments operands)
arguments_proper no_exprs [] ints are = tt
arguments_proper no_exprs (one ∷ more) ints are = absurd are
arguments_proper (more_exprs first others) [] ints are = absurd are
arguments_proper (more_exprs first others) (one ∷ more) ints are =
    let form : form_of_type one.type ≡ int = ap (λ (type : CTy). form_of_type type) are.0.type_is ∙ ints.0 in
    proper_and Any Any (argument one) _
    (rw form (proper_and InInt Any (number_in one) _ (number_proper one (operand_int (type_of first) one ints.0 are.0)) (λ value in_range. tt)))
    (λ arg some. proper_and Any Any (arguments more) _ (arguments_proper others more ints.1 are.1) (λ rest all. tt))

-- ---- calls

found_typed : (test : Bool) (first one : COuter) (rest : Option COuter) → IsTypedOuter first → (rest ≡ Some one → IsTypedOuter one) →
    (if test then Some first else rest) ≡ Some one → IsTypedOuter one
found_typed true first one rest typed others found =
    let same : first ≡ one = cc in
    rw same at typed
found_typed false first one rest typed others found = others found

pub outer_typed : (list : List COuter) (number : ℕ) (one : COuter) → All IsTypedOuter list → outer_with number list ≡ Some one → IsTypedOuter one
outer_typed [] number one all found = absurd (cc)
outer_typed (first ∷ others) number one all found =
    found_typed (first.function == number) first one (outer_with number others) (All-head IsTypedOuter first others all)
    (λ rest. outer_typed others number one (All-tail IsTypedOuter first others all) rest) found

-- the step of a call of an opaque function, by the form of its result
result_sound : (program : CProgram) (callee : ℕ) (one : COuter) (args : CExprs) (operands : List COperand) (world : CWorld) (form : CTyForm) →
    outer_with callee program.externals ≡ Some one → IsOpaqueResult form → AreIntArgs args → AreOperands args operands →
    Outcome (ty form false) (call_step program callee (ty form false) operands world)
result_sound program callee one args operands world int found opaque ints are =
    rw found (proper_and Any (λ (done : Done). IsOperandOf (ty int false) done.operand) (united (map (λ operand. operand.marks) operands)) _
    (united_proper (map (λ operand. operand.marks) operands)) (λ marks all.
    proper_and Any (λ (done : Done). IsOperandOf (ty int false) done.operand) (arguments operands) _ (arguments_proper args operands ints are) (λ list some.
    record { type_is = refl; gives = int_given (converted (Whole 32 true) (first_answer world.answers)) (wrapped_in_range (first_answer world.answers)) })))
result_sound program callee one args operands world void found opaque ints are =
    rw found (proper_and Any (λ (done : Done). IsOperandOf (ty void false) done.operand) (united (map (λ operand. operand.marks) operands)) _
    (united_proper (map (λ operand. operand.marks) operands)) (λ marks all.
    proper_and Any (λ (done : Done). IsOperandOf (ty void false) done.operand) (arguments operands) _ (arguments_proper args operands ints are) (λ list some.
    record { type_is = refl; gives = refl })))
result_sound program callee one args operands world (function result params variadic) found opaque ints are = absurd opaque

signature_sound : (program : CProgram) (callee : ℕ) (one : COuter) (type : CTy) (args : CExprs) (operands : List COperand) (world : CWorld) (signature : CTyForm) →
    outer_with callee program.externals ≡ Some one → IsOpaque signature → IsCallOf type args signature → AreOperands args operands →
    Outcome type (call_step program callee type operands world)
signature_sound program callee one type args operands world (function (ty form is_const) params variadic) found opaque calls are =
    subst (λ (t : CTy). Outcome t (call_step program callee t operands world)) (sym calls.0)
    (result_sound program callee one args operands world form found opaque.0 (args_ints params variadic args opaque.1 calls.1) are)
signature_sound program callee one type args operands world void found opaque calls are = absurd opaque
signature_sound program callee one type args operands world int found opaque calls are = absurd opaque

-- the step of a typed call gives an operand of its type, or is undefined by a proper rule
pub call_sound : (program : CProgram) (callee : ℕ) (type : CTy) (args : CExprs) (operands : List COperand) (world : CWorld) (found : Option COuter) →
    All IsTypedOuter program.externals → outer_with callee program.externals ≡ found → IsSome found → IfSome found (λ one. IsCallOf type args (form_of_type one.type)) →
    AreOperands args operands → Outcome type (call_step program callee type operands world)
call_sound program callee type args operands world None typed same some calls are = absurd (search rules)
call_sound program callee type args operands world (Some one) typed same some calls are =
    signature_sound program callee one type args operands world (form_of_type one.type) same
    (outer_typed program.externals callee one typed same).opaque calls are
