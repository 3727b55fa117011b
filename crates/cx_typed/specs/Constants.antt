-- What constants mean is typed (ISO C99, 6.4.4, 6.5.3.4, 6.7.2.2).
use Rattle.std.specs.Prelude.{ℕ, ◌<◌, ℤ, true, List, Option, All}
use Rattle.cr_base.specs.Scalar.{IsInRange}
use Rattle.cr_base.specs.declared.scalar.Scalar.{Scalar}
use Rattle.cr_base.specs.declared.scalar.Scalar.TheVariants.{Whole}
use Rattle.cx_core.specs.Trees.{CTy, ty, basic, enum_type, CExpr, expr, CForm, whole, convert, unary, binary, and, or, cond, comma}
use Rattle.cx_core.specs.Typing.{CHome}
use Rattle.cx_lex.specs.declared.token.Token.{Token}
use Rattle.cx_lex.specs.declared.token.TokenKind.{TokenKind}
use Rattle.cx_lex.specs.declared.token.TokenKind.TheVariants.{Number, Letter}
use Rattle.cx_lex.specs.declared.token.Ty0.{Ty0}
use Rattle.cx_lex.specs.Numbers.{above}
use Rattle.cx_lex.specs.Tokens.{Spells}
use Rattle.cx_rules.specs.Meanings.{number_meaning, int_meaning, size_meaning}
use Rattle.cx_rules.specs.Nodes.{enumerator_node}
use Rattle.cx_rules.specs.Operands.{COperand}
use Rattle.cx_typed.specs.Nodes.{CStanding, IsKnownOperand}
use Rattle.cx_typed.specs.Operands.{IsTypedOperand}
use Rattle.cx_typed.specs.Unbroken.{IsUnbroken}

-- the integers of type `int` of this profile
abbrev pub int_scalar : Scalar
int_scalar = Whole 32 true

-- a number of a token fits its type (6.4.4.1p5), and a character constant is of type `int` (6.4.4.4p10)
abbrev pub IsFitKind : TokenKind → Type 0
IsFitKind (Number value type) = value < above type
IsFitKind (Letter value) = IsInRange int_scalar value
IsFitKind _ = Unit {0}

abbrev pub IsByte : ℕ → Type 0
IsByte value = value < 256

-- the constants of the tokens that the bytes of a file spell
abbrev pub SpelledConstantsFit : Type 0
SpelledConstantsFit = (bytes : List ℕ) (tokens : List Token) → All IsByte bytes → Spells bytes tokens → All (λ one. IsFitKind one.kind) tokens

-- the form of an integer type, or of an enumerated one
abbrev pub IsWholeType : CTy → Type 0
IsWholeType (ty (basic which) is_const) = Unit {0}
IsWholeType (ty (enum_type number) is_const) = Unit {0}
IsWholeType _ = ⊥

-- an expression of numbers, whatever their values are: an integer constant expression is one (6.6p3, p6)
abbrev mutual
  pub IsOfNumbers : CExpr → Type 0
  IsOfNumbers (expr type place form) = IsWholeType type × IsFormOfNumbers form

  pub IsFormOfNumbers : CForm → Type 0
  IsFormOfNumbers (whole value) = Unit {0}
  IsFormOfNumbers (convert value) = IsOfNumbers value
  IsFormOfNumbers (unary op value) = IsOfNumbers value
  IsFormOfNumbers (binary op left right) = IsOfNumbers left × IsOfNumbers right
  IsFormOfNumbers (and left right) = IsOfNumbers left × IsOfNumbers right
  IsFormOfNumbers (or left right) = IsOfNumbers left × IsOfNumbers right
  IsFormOfNumbers (cond test first second) = IsOfNumbers test × IsOfNumbers first × IsOfNumbers second
  IsFormOfNumbers (comma first second) = IsOfNumbers first × IsOfNumbers second
  IsFormOfNumbers _ = ⊥

-- known and typed, whatever else there is in the unit and in the program
pub record IsTypedConstant (standing : CStanding) (meaning : COperand) : Type 0 where
  pub known : IsKnownOperand standing meaning
  pub typed : (home : CHome) → IsTypedOperand home meaning

pub record ConstantsAreTyped (standing : CStanding) : Type 0 where
  pub number : (value : ℕ) (type : Ty0) → value < above type → IsTypedConstant standing (number_meaning standing.at value type)
  -- character constants and enumerators
  pub int : (value : ℤ) → IsInRange int_scalar value → IsTypedConstant standing (int_meaning standing.at value)
  -- an enumerator that breaks no rule has a value of type `int` (6.7.2.2p2)
  pub enumerator : (name : List ℕ) (written : Option COperand) (value : ℤ)
      → IsUnbroken standing.scope standing.types (enumerator_node name written value) → IsInRange int_scalar value
  -- `sizeof`
  pub size : (type : CTy) → IsTypedConstant standing (size_meaning standing.at standing.types type)
