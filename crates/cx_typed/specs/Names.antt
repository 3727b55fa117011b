-- What names and literals mean is typed in a program that holds what the scope declares (ISO C99, 6.4.5, 6.5.1, 6.5.2.5).
use Rattle.std.specs.Prelude.{◌≡◌, ℕ, ◌<◌, Bool, true, false, List, length, Option, Some, IfSome, slice_get}
use Rattle.cr_base.specs.Scalar.{IsInRange}
use Rattle.cx_core.specs.Linked.{IsDeclaredForm}
use Rattle.cx_core.specs.Trees.{CTy, ty, CTyForm, pointer, function, form_of_type, CTypes, CPuts}
use Rattle.cx_core.specs.Typing.{CHome, IsNamed, IsCodeOf, IsLiteral, AreTypedPuts}
use Rattle.cx_core.specs.ValidTypes.{IsObjectForm}
use Rattle.cx_rules.specs.Initial.{text_type}
use Rattle.cx_rules.specs.Meanings.{name_meaning}
use Rattle.cx_rules.specs.Nodes.{name_node, literal_node}
use Rattle.cx_rules.specs.Operands.{COperand}
use Rattle.cx_rules.specs.Pieces.{text_meaning, literal_meaning}
use Rattle.cx_rules.specs.Scope.{CMeant, an_object, a_function, a_type_name, an_enumerator, a_tag, CTag, CScope}
use Rattle.cx_typed.specs.Constants.{int_scalar}
use Rattle.cx_typed.specs.Growth.{Grows, is_open}
use Rattle.cx_typed.specs.Nodes.{CStanding, IsKnownOperand}
use Rattle.cx_typed.specs.Operands.{IsKnownType, IsTypedOperand}
use Rattle.cx_typed.specs.Unbroken.{IsUnbroken}

abbrev pub IsFunctionForm : CTyForm → Type 0
IsFunctionForm (function result params variadic) = Unit {0}
IsFunctionForm _ = ⊥

-- ---- names (6.5.1)

-- what is known of what a name means by the types of its unit
abbrev pub IsKnownMeant : List ℕ → CTypes → ℕ → CMeant → Type 0
IsKnownMeant opens types unit (an_object number type is_register linkage) = IsKnownType opens types unit type × IsDeclaredForm linkage (form_of_type type)
IsKnownMeant opens types unit (a_function number type linkage) = IsKnownType opens types unit type × IsFunctionForm (form_of_type type)
IsKnownMeant opens types unit (a_type_name type) = IsKnownType opens types unit type
IsKnownMeant opens types unit (an_enumerator value) = IsInRange int_scalar value
IsKnownMeant opens types unit (a_tag is_record is_open number) = Unit {0}

-- a structure or union with this tag
pub record IsTagged (types : CTypes) (name : List ℕ) (number : ℕ) : Type 0 where
  pub is_union : Bool
  pub tag_is : slice_get types.record_tags number ≡ Some (record { tag = Some name; is_union = is_union })

-- a tag is that of a type of the unit, and one of an enumerated type is open until its list has ended
abbrev IsKnownTagBy : List ℕ → CTypes → ℕ → List ℕ → (is_record goes_on : Bool) → ℕ → Type 0
IsKnownTagBy opens types unit name true goes_on number = (slice_get types.record_units number ≡ Some unit) × IsTagged types name number
IsKnownTagBy opens types unit name false goes_on number = (slice_get types.enum_units number ≡ Some unit) × (goes_on ≡ false → is_open opens number ≡ false)

abbrev pub IsKnownTag : List ℕ → CTypes → ℕ → List ℕ → CTag → Type 0
IsKnownTag opens types unit name one = IsKnownTagBy opens types unit name one.is_record one.is_open one.number

-- a program holds the object or the function, and it may be used there
abbrev pub IsServed : CHome → CMeant → Type 0
IsServed home (an_object number type is_register linkage) = IsNamed home type number
IsServed home (a_function number type linkage) = IsCodeOf home number (ty (pointer type) false)
IsServed home _ = Unit {0}

-- ---- literals (6.4.5, 6.5.2.5)

-- where a compound literal stands in a function, its object is one of the block, and it stores there each time that it is reached; else it
-- is an object like another
abbrev pub IsLiteralServed : Bool → CHome → ℕ → CTy → CPuts → Type 0
IsLiteralServed true home number type puts = IsLiteral home type number × AreTypedPuts home type puts
IsLiteralServed false home number type puts = IsNamed home type number

-- ---- all names and literals

-- known by the types of the unit, and typed in each program whose types have grown from these and that serves it
pub record IsServedTyped (standing : CStanding) (Serves : CHome → Type 0) (meaning : COperand) : Type 0 where
  pub known : IsKnownOperand standing meaning
  pub typed : (home : CHome) → home.unit ≡ standing.unit → Grows standing.opens standing.types home.program.types → Serves home → IsTypedOperand home meaning

pub record NamesAreTyped (standing : CStanding) : Type 0 where
  pub name : (meant : Option CMeant) → IsUnbroken standing.scope standing.types (name_node meant) → IfSome meant (IsKnownMeant standing.opens standing.types standing.unit)
      → IsServedTyped standing (λ home. IfSome meant (IsServed home)) (name_meaning standing.at meant)
  pub text : (scope : CScope) (line : ℕ) (bytes : List ℕ) → IsUnbroken standing.scope standing.types (literal_node (text_type bytes))
      → 0 < length bytes → IsServedTyped standing (λ home. IsNamed home (text_type bytes) scope.next_object) (text_meaning scope line bytes)
  pub compound : (in_function : Bool) (number : ℕ) (type : CTy) (puts : CPuts) → IsKnownType standing.opens standing.types standing.unit type → IsObjectForm (form_of_type type)
      → IsServedTyped standing (λ home. IsLiteralServed in_function home number type puts) (literal_meaning in_function standing.at number type puts)
