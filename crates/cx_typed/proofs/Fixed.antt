-- A constant in an initialiser of an object that lives as long as the program (ISO C99, 6.6p7 to p9) reads no object, and is typed outside of functions, too.
use Rattle.std.proofs.Common.{◌≡◌, ℕ, Bool, true, false, ◌||◌, ◌&&◌, List, [], Option, None, Some, is_some, is_none, refl}
use Rattle.std.specs.Prelude.{IsSome, IfSome}
use Rattle.std.specs.List.{Contains}
use Rattle.cx_core.specs.declared.expr.Op2.TheVariants as op
use Rattle.cx_core.specs.declared.program.Linkage.{Linkage}
use Rattle.cx_core.specs.declared.program.Linkage.TheVariants.{External, Internal, Nothing}
use Rattle.cx_core.specs.Linked.{home_of}
use Rattle.cx_core.specs.Trees.{CTy, ty, void, basic, enum_type, pointer, array, record_type, function, CTypes, CExpr, expr, CForm, whole, null, object, code, deref, member, address, convert, unary, binary, and, or, cond, comma, CPuts, CObject}
use Rattle.cx_core.specs.Typing.{CHome, CCallee, IsTyped, IsTypedForm, IsLvalue, IsLvalueForm, IsConstant, IsConstantForm, IsFixed, IsFixedForm, IsStaticObject, IsNamed, IsObjectOf, IsCodeOf, IsPointerToCode, IsMentioned, object_with, callee_with}
use Rattle.cx_core.specs.Trees.{uses}
use Rattle.cx_rules.specs.Initial.{is_initial, is_initial_form, is_initial_pointer, is_fixed, is_fixed_form}
use Rattle.cx_rules.specs.Operands.{constant_of}
use Rattle.cx_rules.specs.Types.{is_pointer}
use Rattle.cx_typed.proofs.OfNumbers.{constant_numbers}
use Rattle.cx_typed.proofs.Same.{both}
use Rattle.cx_typed.specs.Constants.{IsOfNumbers, IsFormOfNumbers}

-- the same program, outside of its functions
abbrev pub outside_of : CHome → CHome
outside_of home = home_of home.program home.mentions home.unit

-- ---- numbers

module _ (home : CHome) where
  mutual
    numbers_constant : (value : CExpr) → IsOfNumbers value → IsConstant home.program value
    numbers_constant (expr type place form) held = parts_constant form held.1

    parts_constant : (form : CForm) → IsFormOfNumbers form → IsConstantForm home.program form
    parts_constant (whole value) held = tt
    parts_constant (convert value) held = numbers_constant value held
    parts_constant (unary which value) held = numbers_constant value held
    parts_constant (binary which left right) held = (numbers_constant left held.0, numbers_constant right held.1)
    parts_constant (and left right) held = (numbers_constant left held.0, numbers_constant right held.1)
    parts_constant (or left right) held = (numbers_constant left held.0, numbers_constant right held.1)
    parts_constant (cond test first second) held = (numbers_constant test held.0, numbers_constant first held.1, numbers_constant second held.2)
    parts_constant (comma first second) held = (numbers_constant first held.0, numbers_constant second held.1)
    parts_constant form held = absurd held

  mutual
    numbers_outside : (value : CExpr) → IsOfNumbers value → IsTyped home value → IsTyped (outside_of home) value
    numbers_outside (expr type place form) held typed = (typed.0, parts_outside type form held.1 typed.1)

    parts_outside : (type : CTy) (form : CForm) → IsFormOfNumbers form → IsTypedForm home type form → IsTypedForm (outside_of home) type form
    parts_outside type (whole value) held typed = typed
    parts_outside type (convert value) held typed = (numbers_outside value held typed.0, typed.1)
    parts_outside type (unary which value) held typed = (numbers_outside value held typed.0, typed.1)
    parts_outside type (binary which left right) held typed = (numbers_outside left held.0 typed.0, numbers_outside right held.1 typed.1, typed.2)
    parts_outside type (and left right) held typed = (numbers_outside left held.0 typed.0, numbers_outside right held.1 typed.1, typed.2)
    parts_outside type (or left right) held typed = (numbers_outside left held.0 typed.0, numbers_outside right held.1 typed.1, typed.2)
    parts_outside type (cond test first second) held typed = (numbers_outside test held.0 typed.0, numbers_outside first held.1 typed.1, numbers_outside second held.2 typed.2, typed.3)
    parts_outside type (comma first second) held typed = (numbers_outside first held.0 typed.0, numbers_outside second held.1 typed.1, typed.2)
    parts_outside type form held typed = absurd held

-- ---- objects and functions

module _ (home : CHome) (type : CTy) where
  abbrev IsUsedHere : CObject → Option (List ℕ) → Type 0
  IsUsedHere one None = ⊥
  IsUsedHere one (Some name) = IsMentioned home.mentions name one.linkage type uses

  abbrev IsThereIn : List ℕ → CObject → Linkage → Option CPuts → Type 0
  IsThereIn scope one linkage (Some puts) = Unit {0}
  IsThereIn scope one Nothing None = Contains scope one.object
  IsThereIn scope one linkage None = IsUsedHere one one.name

  there_outside : (one : CObject) (linkage : Linkage) (puts : Option CPuts) → ((linkage ≡ Nothing) → IsSome puts) → IsThereIn home.scope one linkage puts → IsThereIn [] one linkage puts
  there_outside one linkage (Some puts) static there = tt
  there_outside one Nothing None static there = absurd (let h : IsSome {T = CPuts} None = static refl in cc)
  there_outside one External None static there = there
  there_outside one Internal None static there = there

  object_outside : (one : CObject) → ((one.linkage ≡ Nothing) → IsSome one.puts) → IsObjectOf home type one → IsObjectOf (outside_of home) type one
  object_outside one static held = record { compatible = held.compatible; there = there_outside one one.linkage one.puts static held.there }

  named_by : (found : Option CObject) → IfSome found (λ one. (one.linkage ≡ Nothing) → IsSome one.puts) → IfSome found (IsObjectOf home type) → IfSome found (IsObjectOf (outside_of home) type)
  named_by None static held = tt
  named_by (Some one) static held = object_outside one static held

  named_outside : (number : ℕ) → IsStaticObject home.program number → IsNamed home type number → IsNamed (outside_of home) type number
  named_outside number static held = (held.0, named_by (object_with number home.program.objects) static held.1)

code_by : (home : CHome) (visible : CTy) (found : Option CCallee) → IfSome found (IsPointerToCode home visible) → IfSome found (IsPointerToCode (outside_of home) visible)
code_by home visible None held = tt
code_by home visible (Some callee) held = record { is_function = held.is_function; compatible = held.compatible; usable = held.usable }

code_outside : (home : CHome) (number : ℕ) (type : CTy) → IsCodeOf home number type → IsCodeOf (outside_of home) number type
code_outside home number (ty (pointer visible) is_const) held = (held.0, (held.1.0, code_by home visible (callee_with number home.program) held.1.1))
code_outside home number (ty void is_const) held = absurd held
code_outside home number (ty (basic which) is_const) held = absurd held
code_outside home number (ty (enum_type other) is_const) held = absurd held
code_outside home number (ty (array element length) is_const) held = absurd held
code_outside home number (ty (record_type other) is_const) held = absurd held
code_outside home number (ty (function result params variadic) is_const) held = absurd held

-- ---- constants

module _ (types : CTypes) (statics : ℕ → Bool) (home : CHome) (there : (number : ℕ) → statics number ≡ true → IsStaticObject home.program number) where
  abbrev IsFixedValue : CExpr → Type 0
  IsFixedValue value = IsConstant home.program value × IsTyped (outside_of home) value

  either_of : {A : Type 0} (a b : Bool) → (a || b) ≡ true → (a ≡ true → A) → (b ≡ true → A) → A
  either_of true b is first second = first refl
  either_of false b is first second = second is

  is_there : {A : Type 0} (found : Option A) → is_some found ≡ true → is_none found ≡ false
  is_there None is = absurd cc
  is_there (Some x) is = refl

  constant_fixed : (value : CExpr) → is_some (constant_of types value) ≡ true → IsTyped home value → IsFixedValue value
  constant_fixed value is typed =
      let numbers = constant_numbers types value (is_there (constant_of types value) is) in
      (numbers_constant home value numbers, numbers_outside home value numbers typed)

  mutual
    pub initial_fixed : (value : CExpr) → is_initial types statics value ≡ true → IsTyped home value → IsFixedValue value
    initial_fixed (expr type place form) is typed =
        either_of (is_some (constant_of types (expr type place form))) (is_pointer type && is_initial_form types statics form) is (λ one. constant_fixed (expr type place form) one typed)
        (λ other. (let held = form_fixed type form (both other).1 typed.1 in (held.0, (typed.0, held.1))))

    form_fixed : (type : CTy) (form : CForm) → is_initial_form types statics form ≡ true → IsTypedForm home type form → IsConstantForm home.program form × IsTypedForm (outside_of home) type form
    form_fixed type null is typed = (tt, typed)
    form_fixed type (code number) is typed = (tt, code_outside home number type typed)
    form_fixed type (address of) is typed = (let held = lvalue_fixed of is typed.0 in (held.0, (held.1, typed.1)))
    form_fixed type (convert value) is typed = (let held = pointer_fixed value is typed.0 in (held.0, (held.1, typed.1)))
    form_fixed type (binary op.Add left right) is typed =
        (let one = initial_fixed left (both is).0 typed.0 in let other = initial_fixed right (both is).1 typed.1 in ((one.0, other.0), (one.1, other.1, typed.2)))
    form_fixed type (binary op.Subtract left right) is typed =
        (let one = initial_fixed left (both is).0 typed.0 in let other = initial_fixed right (both is).1 typed.1 in ((one.0, other.0), (one.1, other.1, typed.2)))
    form_fixed type form is typed = absurd cc

    pointer_fixed : (value : CExpr) → is_initial_pointer types statics value ≡ true → IsTyped home value → IsFixedValue value
    pointer_fixed (expr type place form) is typed = (let held = form_fixed type form (both is).1 typed.1 in (held.0, (typed.0, held.1)))

    lvalue_fixed : (of : CExpr) → is_fixed types statics of ≡ true → IsLvalue home of → IsFixed home.program of × IsLvalue (outside_of home) of
    lvalue_fixed (expr type place form) is typed = (let held = place_fixed type form is typed.2 in (held.0, (typed.0, typed.1, held.1)))

    place_fixed : (type : CTy) (form : CForm) → is_fixed_form types statics form ≡ true → IsLvalueForm home type form → IsFixedForm home.program form × IsLvalueForm (outside_of home) type form
    place_fixed type (object number) is typed = (there number is, named_outside home type number (there number is) typed)
    place_fixed type (deref from) is typed = (let held = initial_fixed from is typed.0 in (held.0, (held.1, typed.1)))
    place_fixed type (member of spot) is typed = (let held = lvalue_fixed of is typed.0 in (held.0, (held.1, typed.1)))
    place_fixed type form is typed = absurd cc
