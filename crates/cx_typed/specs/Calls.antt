-- What calls mean is typed, where they break no rule, and what is called and the arguments are typed (ISO C99, 6.5.2.2).
use Rattle.std.specs.Prelude.{◌≡◌, ℕ, true, false, List, ◌∷◌, IsSome, IfSome}
use Rattle.cr_base.specs.declared.refusal.Place.{Place as TextPlace}
use Rattle.cx_core.specs.Compatible.{AreCompatible}
use Rattle.cx_core.specs.Trees.{CTy, ty, pointer, function, CTypes, expr, code, CExprs, no_exprs}
use Rattle.cx_core.specs.Typing.{CHome, types_of_home, CCallee, callee_with, IsOutside}
use Rattle.cx_rules.specs.declared.kinds.OperandKind.TheVariants.{Function}
use Rattle.cx_rules.specs.Meanings.{args_of, call_meaning}
use Rattle.cx_rules.specs.Nodes.{call_node}
use Rattle.cx_rules.specs.Operands.{COperand}
use Rattle.cx_typed.specs.Growth.{Grows}
use Rattle.cx_typed.specs.Nodes.{EachOf, CStanding, IsKnownOperand, MeansTyped}
use Rattle.cx_typed.specs.Operands.{IsTypedOperand}
use Rattle.cx_typed.specs.Sound.{AreSound}
use Rattle.cx_typed.specs.Unbroken.{IsUnbroken}

-- ---- calls by name (6.5.2.2p1, 6.2.7p2)

-- the name of a function
abbrev pub named_function : TextPlace → ℕ → CTy → COperand
named_function place number visible = record { kind = Function; is_register = false; core = expr (ty (pointer visible) false) place (code number) }

-- the arguments as a function of a type takes them
abbrev pub args_to : CTypes → CTy → List COperand → CExprs
args_to types (ty (function result params variadic) is_const) args = args_of types params args
args_to types _ args = no_exprs

-- the type that is visible there is compatible with that of the function; where nothing defines it, it may be called with these arguments
pub record IsCalled (home : CHome) (visible : CTy) (args : CExprs) (callee : CCallee) : Type 0 where
  pub compatible : AreCompatible (types_of_home home) visible callee.type
  pub outside : IsOutside home visible args callee.outer

-- the function is there, and may be called so
abbrev pub MayBeCalled : CHome → ℕ → CTy → CExprs → Type 0
MayBeCalled home number visible args =
    IsSome (callee_with number home.program)
    × IfSome (callee_with number home.program) (IsCalled home visible args)

-- ---- all calls

-- as `MeansTyped`, but that of the called function only this is asked, that it is there and may be called so: what its name means by itself is a
-- pointer to it, and for that it has to be defined
pub record NameMeansTyped (standing : CStanding) (place : TextPlace) (number : ℕ) (visible : CTy) (args : List COperand) : Type 0 where
  pub known : AreSound standing.opens standing.types standing.unit → IsUnbroken standing.scope standing.types (call_node (named_function place number visible) args)
      → IsKnownOperand standing (named_function place number visible) → EachOf (IsKnownOperand standing) args
      → IsKnownOperand standing (call_meaning standing.at standing.types true (named_function place number visible) args)
  pub typed : (home : CHome) → home.unit ≡ standing.unit → Grows standing.opens standing.types home.program.types
      → AreSound standing.opens standing.types standing.unit → IsUnbroken standing.scope standing.types (call_node (named_function place number visible) args)
      → IsKnownOperand standing (named_function place number visible) → EachOf (IsKnownOperand standing) args
      → MayBeCalled home number visible (args_to standing.types visible args) → EachOf (IsTypedOperand home) args
      → IsTypedOperand home (call_meaning standing.at standing.types true (named_function place number visible) args)

pub record CallsAreTyped (standing : CStanding) : Type 0 where
  pub through : (callee : COperand) (args : List COperand)
      → MeansTyped standing (call_node callee args) (callee ∷ args) (call_meaning standing.at standing.types false callee args)
  pub by_name : (place : TextPlace) (number : ℕ) (visible : CTy) (args : List COperand) → NameMeansTyped standing place number visible args
