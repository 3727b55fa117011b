-- Arguments and results of calls (ISO C99, 6.5.2.2).
use Rattle.std.proofs.Common.{◌≡◌, ℕ, suc, ◌+◌, ◌==◌, ◌≤◌, nat_lt, Bool, true, false, not, if◌then◌else◌, List, [], ◌∷◌, length, Option, None, Some, option_map, slice_get, is_some, refl, sym, ◌∙◌, subst, arith}
use Rattle.std.proofs.lemmas.Bool.Decides.{nat_tests}
use Rattle.cx_core.specs.Conversions.{basic_of_enum}
use Rattle.cx_core.specs.Trees.{CTy, ty, void, basic, enum_type, pointer, array, record_type, function, listed, CTys, no_types, more_types, CTypes, type_of}
use Rattle.cx_core.specs.Typing.{CHome, IsTyped, AreTyped, IsTrailing, AreArguments}
use Rattle.cx_core.specs.ValidTypes.{AreTypesIn}
use Rattle.cx_rules.specs.Meanings.{trailing_value, args_for}
use Rattle.cx_rules.specs.Operands.{COperand, value_of, value_type, gives_nothing, holds_nothing, promoted_value, width_of_operand}
use Rattle.cx_rules.specs.Rules.{some_unassignable, types_count, count_is_wrong, is_empty}
use Rattle.cx_rules.specs.Types.{is_integer, is_void}
use Rattle.cx_typed.proofs.Conversions.{promotes}
use Rattle.cx_typed.proofs.Same.{number_is}
use Rattle.cx_typed.proofs.Fitting.{fitted_is}
use Rattle.cx_typed.proofs.Promoted.{neither, not_not, promoted_there}
use Rattle.cx_typed.proofs.Values.{value_is, value_type_is}
use Rattle.cx_typed.specs.Growth.{Grows, AreSettled}
use Rattle.cx_typed.specs.Nodes.{EachOf}
use Rattle.cx_typed.specs.Operands.{IsValueType, IsOperandType, IsTypedOperand}

-- an argument whose value may be taken
pub record IsArgument (opens : List ℕ) (types : CTypes) (home : CHome) (one : COperand) : Type 0 where
  pub known : IsOperandType opens types home.unit one
  pub something : gives_nothing one ≡ false
  pub holds : holds_nothing types one ≡ false
  pub typed : IsTypedOperand home one

-- a value of no integer type is an object, and no integer anywhere
enum_listed : (found : Option Bool) → is_some found ≡ true → is_some (option_map basic_of_enum found) ≡ true
enum_listed None is = absurd cc
enum_listed (Some one) is = refl

module _ (opens : List ℕ) (types : CTypes) (home : CHome) (grows : Grows opens types home.program.types) where
  -- ---- arguments behind those that parameters take

  trailing_integer : (arg : COperand) → IsArgument opens types home arg → is_integer types (value_type arg) ≡ true
      → IsTyped home (promoted_value types arg) × IsTrailing home.program.types (type_of (promoted_value types arg))
  trailing_integer arg held integer =
      let made = promoted_there opens types home grows arg held.known held.holds integer held.typed in
      let promoted_to = promotes types (value_type arg) (width_of_operand arg) integer in
      (made.0.typed, subst (IsTrailing home.program.types) (sym (made.0.type_is ∙ promoted_to.promoted_to)) (promoted_to.is_promoted, refl))

  -- the listed enumerated types are integer types
  module _ (listed_enums : (number other : ℕ) → slice_get types.enum_units number ≡ Some other → is_some (slice_get types.enums number) ≡ true) where
    trailing_form : (type : CTy) → IsValueType opens types home.unit type → is_void type ≡ false → is_integer types type ≡ false → IsTrailing home.program.types type
    trailing_form (ty void is_const) held something integer = absurd cc
    trailing_form (ty (basic which) is_const) held something integer = absurd cc
    trailing_form (ty (enum_type number) is_const) held something integer =
        absurd (let h : true ≡ false = sym (enum_listed (slice_get types.enums number) (listed_enums number home.unit held.known.type_in)) ∙ integer in cc)
    trailing_form (ty (pointer to) is_const) held something integer = tt
    trailing_form (ty (array element length) is_const) held something integer = absurd held.form
    trailing_form (ty (record_type number) is_const) held something integer = tt
    trailing_form (ty (function result params variadic) is_const) held something integer = absurd held.form

    trailing_by : (arg : COperand) (integer : Bool) → is_integer types (value_type arg) ≡ integer → IsArgument opens types home arg
        → IsTyped home (if integer then promoted_value types arg else value_of arg) × IsTrailing home.program.types (type_of (if integer then promoted_value types arg else value_of arg))
    trailing_by arg true is held = trailing_integer arg held is
    trailing_by arg false is held = (
      value_is opens types home grows arg held.known held.holds held.typed,
      trailing_form (value_type arg) (value_type_is opens types home.unit arg held.known) held.something is,
    )

    trailing_is : (arg : COperand) → IsArgument opens types home arg → IsTyped home (trailing_value types arg) × IsTrailing home.program.types (type_of (trailing_value types arg))
    trailing_is arg held = trailing_by arg (is_integer types (value_type arg)) refl held

    -- ---- all arguments

    pub arguments_are : (params : CTys) (variadic : Bool) (args : List COperand) → AreTypesIn types home.unit params → AreSettled opens params → EachOf (IsArgument opens types home) args
        → some_unassignable types params args ≡ false → types_count params ≤ length args → (variadic ≡ false → length args ≡ types_count params)
        → AreTyped home (args_for types params args) × AreArguments home.program.types params variadic (args_for types params args)
    arguments_are no_types variadic [] known settled held assignable enough exact = (tt, tt)
    arguments_are no_types true (arg ∷ args) known settled held assignable enough exact =
        let one = trailing_is arg held.0 in
        let others = arguments_are no_types true args known settled held.1 refl (omega arith) (λ is. absurd cc) in
        ((one.0, others.0), (refl, one.1, others.1))
    arguments_are no_types false (arg ∷ args) known settled held assignable enough exact = absurd (let h : suc (length args) ≡ 0 = exact refl in omega arith)
    arguments_are (more_types param params) variadic [] known settled held assignable enough exact = absurd (let h : 1 + types_count params ≤ 0 = enough in omega arith)
    arguments_are (more_types param params) variadic (arg ∷ args) known settled held assignable enough exact =
        let tests = neither assignable in
        let given = value_is opens types home grows arg held.0.known held.0.holds held.0.typed in
        let made = fitted_is opens types home grows param (value_of arg) (record { type_in = known.0; settled = settled.0 }) (value_type_is opens types home.unit arg held.0.known) (not_not tests.0) given in
        let others = arguments_are params variadic args known.2 settled.1 held.1 tests.1
        (let h : 1 + types_count params ≤ suc (length args) = enough in omega arith)
        (λ is. (let h : suc (length args) ≡ 1 + types_count params = exact is in omega arith)) in
        ((made.typed, others.0), (made.type_is, others.1))

-- ---- how many arguments there are

pub count_fits : (params : CTys) (variadic : Bool) (count : ℕ) → count_is_wrong (listed params) variadic count ≡ false → (types_count params ≤ count) × (variadic ≡ false → count ≡ types_count params)
count_fits params true count is = ((let h : nat_lt count (types_count params) ≡ false = is in grind (arith, nat_tests, h)), λ held. absurd cc)
count_fits params false count is =
    let same : (types_count params == count) ≡ true = not_not is in
    let e : types_count params ≡ count = number_is (types_count params) count same in
    ((let h : types_count params ≡ count = e in omega arith), λ held. sym e)

no_arguments : (args : List COperand) → not (is_empty args) ≡ false → args ≡ []
no_arguments [] is = refl
no_arguments (arg ∷ args) is = absurd cc
