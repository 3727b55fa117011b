-- Names and literals are typed (ISO C99, 6.4.5, 6.5.1, 6.5.2.5).
use Rattle.std.proofs.Common.{◌≡◌, ℕ, zero, suc, ◌<◌, ◌*◌, Bool, true, false, List, length, Option, None, Some, refl, sym, subst, arith}
use Rattle.std.specs.Prelude.{IsSome, IfSome}
use Rattle.std.specs.Option.{option_and_then}
use Rattle.cr_base.specs.declared.refusal.Place.{Place as TextPlace}
use Rattle.cx_core.specs.Layouts.{elements, bytes as laid_bytes, within_most}
use Rattle.cx_core.specs.Trees.{CTy, ty, pointer, function, form_of_type, CPuts, expr, object}
use Rattle.cx_core.specs.Typing.{CHome, IsNamed}
use Rattle.cx_core.specs.ValidTypes.{IsTypeIn, IsObjectForm}
use Rattle.cx_rules.specs.Initial.{text_type}
use Rattle.cx_rules.specs.Meanings.{name_meaning}
use Rattle.cx_rules.specs.Nodes.{name_node, literal_node}
use Rattle.cx_rules.specs.Operands.{a_place}
use Rattle.cx_rules.specs.Pieces.{literal_meaning}
use Rattle.cx_rules.specs.Scope.{CMeant, an_object, a_function, a_type_name, an_enumerator, a_tag}
use Rattle.cx_rules.specs.Types.{exceeds, is_void}
use Rattle.cx_typed.proofs.Called.{within_is}
use Rattle.cx_typed.proofs.Constants.{constants}
use Rattle.cx_typed.proofs.DeclaredForms.{declared_object}
use Rattle.cx_typed.proofs.Growing.{type_stays}
use Rattle.cx_typed.proofs.Promoted.{neither, not_not}
use Rattle.cx_typed.specs.Growth.{Grows}
use Rattle.cx_typed.specs.Names.{IsFunctionForm, IsKnownMeant, IsServed, IsLiteralServed, IsServedTyped, NamesAreTyped}
use Rattle.cx_typed.specs.Nodes.{CStanding}
use Rattle.cx_typed.specs.Operands.{IsKnownType, IsCodePointer}
use Rattle.cx_typed.specs.Unbroken.{IsUnbroken}

pub text_fits : (count : ℕ) → 0 < count → exceeds (elements count (Some (laid_bytes 1))) ≡ false → IsSome (option_and_then within_most (elements count (Some (laid_bytes 1))))
text_fits zero some fits = absurd (omega arith)
text_fits (suc n) some fits = within_is (record { size = suc n * 1; align = 1 }) (not_not fits)

module _ (s : CStanding) where
  -- a known type stays one in a program
  stays : (home : CHome) → home.unit ≡ s.unit → Grows s.opens s.types home.program.types → (type : CTy) → IsKnownType s.opens s.types s.unit type → IsTypeIn home.program.types home.unit type
  stays home is grows type known = type_stays s.opens s.types home.program.types grows home.unit type (subst (λ unit. IsTypeIn s.types unit type) (sym is) known.type_in)

  -- an lvalue that names an object
  object_typed : (is_register : Bool) (place : TextPlace) (number : ℕ) (type : CTy) → IsKnownType s.opens s.types s.unit type → IsObjectForm (form_of_type type)
      → IsServedTyped s (λ home. IsNamed home type number) (a_place is_register (expr type place (object number)))
  object_typed is_register place number type known form = record {
    known = record { known = known; object = form; bits = λ is. absurd cc; followed = tt };
    typed = λ home is grows named. (stays home is grows type known, form, named);
  }

  code_pointer : (type : CTy) → IsFunctionForm (form_of_type type) → IsCodePointer (ty (pointer type) false)
  code_pointer (ty (function result params variadic) is_const) form = refl
  code_pointer type form = absurd form

  name_typed : (meant : Option CMeant) → IsUnbroken s.scope s.types (name_node meant) → IfSome meant (IsKnownMeant s.opens s.types s.unit)
      → IsServedTyped s (λ home. IfSome meant (IsServed home)) (name_meaning s.at meant)
  name_typed (Some (an_object number type is_register linkage)) unbroken known =
      let some : is_void type ≡ false = unbroken.k10 in
      object_typed is_register s.at number type known.0 (declared_object linkage type known.1 some)
  name_typed (Some (a_function number type linkage)) unbroken known = record {
    known = record { known = record { type_in = known.0.type_in; settled = known.0.settled }; target = code_pointer type known.1 };
    typed = λ home is grows served. (stays home is grows type known.0, served);
  }
  name_typed (Some (an_enumerator value)) unbroken known =
      let made = (constants s).int value known in
      record { known = made.known; typed = λ home is grows served. made.typed home }
  name_typed (Some (a_type_name type)) unbroken known = absurd (let h : true ≡ false = unbroken.k1 in cc)
  name_typed (Some (a_tag is_record is_open number)) unbroken known = absurd (let h : true ≡ false = unbroken.k1 in cc)
  name_typed None unbroken known = absurd (let h : true ≡ false = unbroken.k1 in cc)

  -- ---- literals

  text_known : (bytes : List ℕ) → 0 < length bytes → IsUnbroken s.scope s.types (literal_node (text_type bytes)) → IsKnownType s.opens s.types s.unit (text_type bytes)
  text_known bytes some unbroken = record {
    type_in = (tt, record { plain = refl; complete = refl; length = (some, text_fits (length bytes) some (neither unbroken.m3).0) });
    settled = tt;
  }

  compound_typed : (in_function : Bool) (number : ℕ) (type : CTy) (puts : CPuts) → IsKnownType s.opens s.types s.unit type → IsObjectForm (form_of_type type)
      → IsServedTyped s (λ home. IsLiteralServed in_function home number type puts) (literal_meaning in_function s.at number type puts)
  compound_typed true number type puts known form = record {
    known = record { known = known; object = form; bits = λ is. absurd cc; followed = tt };
    typed = λ home is grows served. (stays home is grows type known, form, (served.0, served.1.0, served.1.1));
  }
  compound_typed false number type puts known form = object_typed false s.at number type known form

  pub names : NamesAreTyped s
  names = record {
    name = name_typed;
    text = λ scope line bytes unbroken some. object_typed false _ scope.next_object (text_type bytes) (text_known bytes some unbroken) tt;
    compound = compound_typed;
  }
