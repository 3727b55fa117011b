-- The worked example is typed and linked, and trees that break a condition aren't.
use Rattle.std.proofs.Common.{◌≡◌, inl, inr, ℕ, ℤ, pos, true, List, [], ◌∷◌, Some, None, zero, suc, slice_get, subst, refl, rules, arith, codes}
use Rattle.std.proofs.lemmas.List.Elements.{All-nil, All-cons}
use Rattle.std.specs.List.{Contains, IsDistinct}
use Rattle.cr_base.specs.Scalar.{IsInRange}
use Rattle.cr_base.specs.declared.layout.Spot.{Spot}
use Rattle.cr_base.specs.declared.scalar.Scalar.TheVariants.{Whole}
use Rattle.cx_core.specs.Examples.{example, s_types, s_record, b_member, a_member, int_type, pair_type, s_type, to_s, byte_at, b_spot, number_at, i_at, i_value_at, p_at, elements_at, first_at, element_at, adds_at, below_at, x_at, b_set, sum_call, putchar_call, x_puts, i_puts, x_object, p_object, i_object, sum_type, sum_function, main_function, putchar_type, putchar_outer}
use Rattle.cx_core.specs.Externals.{known_functions, IsExternalType, IsOpaqueParam, IsOpaqueTrailing}
use Rattle.cx_core.specs.Layouts.{layouts_of}
use Rattle.cx_core.specs.Linked.{IsLinked, IsTypedObject, IsTypedFunction, IsTypedOuter}
use Rattle.cx_core.specs.Statements.{CBody, body_of, IsTypedStmt}
use Rattle.cx_core.specs.Trees.{CTy, put, form_of_type, CRecord}
use Rattle.cx_core.specs.Typing.{CHome, IsTyped, IsLvalue, IsConstantOf, IsNamed, IsTypedPut, AreTypedPuts}
use Rattle.cx_core.specs.ValidTypes.{IsTypeIn, IsComplete, IsPartOf, IsMemberOf, IsModifiable, holds_const, IsRecordIn, IsMemberIn}
use Rattle.cx_core.proofs.Relation.{compatible_reflexive}

-- where a body of the unit stands, with these objects
abbrev home : List ℕ → CHome
home scope = record { program = example; mentions = None; unit = 0; scope = scope }

-- ---- types

int_complete : IsComplete s_types int_type
unfolding layouts_of
int_complete = refl

pair_complete : IsComplete s_types pair_type
unfolding layouts_of
pair_complete = refl

s_complete : IsComplete s_types s_type
unfolding layouts_of
s_complete = refl

to_s_complete : IsComplete s_types to_s
unfolding layouts_of
to_s_complete = refl

pair_in : IsTypeIn s_types 0 pair_type
unfolding layouts_of
pair_in = (tt, record { plain = refl; complete = refl; length = (omega arith, refl) })

-- the members of `struct s`
b_is : IsMemberOf s_types s_type b_spot int_type
unfolding layouts_of
b_is = record { index = 0; one = b_member; member_is = refl; named = refl; spot_is = refl; type_is = refl }

a_is : IsMemberOf s_types s_type (byte_at 4) pair_type
unfolding layouts_of
a_is = record { index = 1; one = a_member; member_is = refl; named = refl; spot_is = refl; type_is = refl }

int_modifiable : IsModifiable s_types int_type
unfolding layouts_of holds_const
int_modifiable = record { no_array = tt; complete = refl; plain = refl }

-- ---- constants and names

in_int : (value : ℤ) → IsInRange (Whole 32 true) value → IsConstantOf s_types int_type value
in_int value range = record { plain = refl; integer = refl; in_range = range }

i_named : (scope : List ℕ) → Contains scope 2 → IsNamed (home scope) int_type 2
i_named scope there = (refl, record { compatible = compatible_reflexive s_types int_type; there = there })

x_named : (scope : List ℕ) → IsNamed (home scope) s_type 0
x_named scope = (refl, record { compatible = compatible_reflexive s_types s_type; there = tt })

p_named : (scope : List ℕ) → Contains scope 1 → IsNamed (home scope) to_s 1
p_named scope there = (refl, record { compatible = compatible_reflexive s_types to_s; there = there })

i_lvalue : (scope : List ℕ) (line : ℕ) → Contains scope 2 → IsLvalue (home scope) (i_at line)
i_lvalue scope line there = (tt, tt, i_named scope there)

i_typed : (scope : List ℕ) (line : ℕ) → Contains scope 2 → IsTyped (home scope) (i_value_at line)
i_typed scope line there = (tt, (i_lvalue scope line there, record { complete = int_complete; no_array = tt; type_is = refl }))

number_typed : (scope : List ℕ) (line : ℕ) (value : ℤ) → IsInRange (Whole 32 true) value → IsTyped (home scope) (number_at line value)
number_typed scope line value range = (tt, in_int value range)

zero_in_int : IsInRange (Whole 32 true) (pos 0)
zero_in_int = search rules

two_in_int : IsInRange (Whole 32 true) (pos 2)
two_in_int = search rules

-- ---- what is stored

number_put : (scope : List ℕ) (line : ℕ) (value : ℤ) (holder : CTy) (spot : Spot) → IsInRange (Whole 32 true) value → IsPartOf s_types holder spot int_type → IsTypedPut (home scope) holder (put spot int_type (number_at line value))
number_put scope line value holder spot range part = (number_typed scope line value range, record { part = part; no_array = tt; value_is = refl })

part_b : IsPartOf s_types s_type b_spot int_type
unfolding layouts_of
part_b = record { path = 0 ∷ []; leads = refl; named = refl }

part_0 : IsPartOf s_types s_type (byte_at 4) int_type
unfolding layouts_of
part_0 = record { path = 1 ∷ 0 ∷ []; leads = refl; named = refl }

part_1 : IsPartOf s_types s_type (byte_at 8) int_type
unfolding layouts_of
part_1 = record { path = 1 ∷ 1 ∷ []; leads = refl; named = refl }

x_puts_typed : AreTypedPuts (home []) s_type x_puts
x_puts_typed = (
  (number_put [] 2 (pos 1) s_type b_spot (search rules) part_b, (number_put [] 2 (pos 5) s_type (byte_at 4) (search rules) part_0, (number_put [] 2 (pos 7) s_type (byte_at 8) (search rules) part_1, tt))),
  (omega arith, (omega arith, (omega arith, tt))),
)

i_puts_typed : (scope : List ℕ) → AreTypedPuts (home scope) int_type i_puts
i_puts_typed scope = ((number_put scope 4 (pos 0) int_type (byte_at 0) zero_in_int (record { path = []; leads = refl; named = refl }), tt), (omega arith, tt))

-- ---- `sum`

abbrev sum_scope : List ℕ
sum_scope = 2 ∷ 1 ∷ []

i_there : Contains sum_scope 2
i_there = (0, omega arith, refl)

p_there : Contains sum_scope 1
p_there = (1, omega arith, refl)

p_typed : IsTyped (home sum_scope) p_at
p_typed = (refl, ((refl, tt, p_named sum_scope p_there), record { complete = to_s_complete; no_array = tt; type_is = refl }))

elements_lvalue : IsLvalue (home sum_scope) elements_at
elements_lvalue = (pair_in, tt, ((refl, tt, (p_typed, record { object = tt; pointer_is = refl })), a_is))

first_typed : IsTyped (home sum_scope) first_at
first_typed = (tt, (elements_lvalue, record { no_bits = refl; type_is = inr refl }))

element_lvalue : IsLvalue (home sum_scope) element_at
element_lvalue = (
  tt,
  tt,
  (
    (tt, (first_typed, i_typed sum_scope 5 i_there, inr (inl (record { elements = (refl, int_complete); integer = refl; type_is = refl })))),
    record { object = tt; pointer_is = refl },
  ),
)

adds_typed : IsTyped (home sum_scope) adds_at
adds_typed = (
  tt,
  (
    i_lvalue sum_scope 5 i_there,
    (tt, (element_lvalue, record { complete = int_complete; no_array = tt; type_is = refl })),
    record {
      modifiable = int_modifiable;
      type_is = refl;
      computed = inl (record { promoted = (refl, refl); common = refl; value_is = refl });
    },
  ),
)

below_typed : IsTyped (home sum_scope) below_at
below_typed = (tt, (i_typed sum_scope 5 i_there, number_typed sum_scope 5 (pos 2) two_in_int, inl (record { promoted = (refl, refl); right_is = refl; type_is = refl })))

abbrev sum_body : CBody
sum_body = body_of (home []) int_type sum_function

sum_typed : IsTypedStmt sum_body [] sum_function.body
sum_typed = (
  (refl, record { no_linkage = refl; not_static = refl; here = refl; complete = int_complete }, tt),
  (
    (tt, ((0, omega arith, refl), refl, record { named = refl; stored = i_puts_typed sum_scope })),
    (
      (tt, ((below_typed, refl), (tt, ((tt, (adds_typed, record { plain = refl; allowed = tt })), refl)))),
      ((tt, (i_typed sum_scope 6 i_there, int_complete, refl)), tt),
    ),
  ),
)

sum_defined : IsTypedFunction example None sum_function
unfolding IsDistinct
sum_defined = record {
  type_in = (tt, tt, (tt, (refl, tt, tt)));
  linked = refl;
  definition = record {
    fixed = refl;
    result_complete = int_complete;
    params_are = (
      refl,
      record {
        object = record { no_linkage = refl; not_static = refl; here = refl; complete = to_s_complete };
        type_is = refl;
      },
      tt,
    );
    labels_differ = tt;
    is_block = tt;
    body = sum_typed;
  };
}

-- ---- `main`

x_lvalue : (line : ℕ) → IsLvalue (home []) (x_at line)
x_lvalue line = (refl, tt, x_named [])

b_set_typed : IsTyped (home []) b_set
b_set_typed = (tt, ((tt, tt, (x_lvalue 9, b_is)), number_typed [] 9 (pos 2) two_in_int, record { modifiable = int_modifiable; type_is = refl; value_is = refl }))

sum_called : IsTyped (home []) sum_call
sum_called = (
  tt,
  (
    ((refl, (x_lvalue 10, record { no_bits = refl; type_is = inl refl })), tt),
    (
      refl,
      record {
        visible = sum_type;
        compatible = compatible_reflexive s_types sum_type;
        call = (refl, int_complete, (refl, tt));
        outside = tt;
      },
    ),
  ),
)

putchar_external : IsExternalType s_types (codes "putchar") (form_of_type putchar_type)
unfolding known_functions
putchar_external = (inr refl, All-cons (IsOpaqueParam s_types) int_type [] (inr refl) (All-nil (IsOpaqueParam s_types)))

putchar_called : IsTyped (home []) putchar_call
putchar_called = (
  tt,
  (
    (sum_called, tt),
    (
      refl,
      record {
        visible = putchar_type;
        compatible = compatible_reflexive s_types putchar_type;
        call = (refl, int_complete, (refl, tt));
        outside = record { external = putchar_external; trailing = All-nil IsOpaqueTrailing };
      },
    ),
  ),
)

main_typed : IsTypedStmt (body_of (home []) int_type main_function) [] main_function.body
main_typed = (
  tt,
  (
    (tt, ((tt, (b_set_typed, record { plain = refl; allowed = tt })), refl)),
    (
      (tt, ((tt, (putchar_called, record { plain = refl; allowed = tt })), refl)),
      ((tt, (number_typed [] 11 (pos 0) zero_in_int, int_complete, refl)), tt),
    ),
  ),
)

main_defined : IsTypedFunction example None main_function
unfolding IsDistinct
main_defined = record {
  type_in = (tt, tt, (refl, tt));
  linked = refl;
  definition = record {
    fixed = refl;
    result_complete = int_complete;
    params_are = tt;
    labels_differ = tt;
    is_block = tt;
    body = main_typed;
  };
}

-- ---- the program

b_member_in : IsMemberIn s_types 0 b_member
unfolding layouts_of
b_member_in = record {
  type_in = tt;
  complete = refl;
  bits = record { integer = refl; narrow = omega arith; fits = omega arith; named = λ _. omega arith };
  named = inl refl;
}

a_member_in : IsMemberIn s_types 0 a_member
a_member_in = record { type_in = pair_in; complete = pair_complete; bits = tt; named = inl refl }

s_record_in : IsRecordIn s_types 0 0 s_record
unfolding IsDistinct layouts_of
s_record_in = record {
  number_is = refl;
  tag_is = refl;
  members = All-cons (IsMemberIn s_types 0) b_member (a_member ∷ []) b_member_in (All-cons (IsMemberIn s_types 0) a_member [] a_member_in (All-nil (IsMemberIn s_types 0)));
  names_differ = search rules;
  named = omega arith;
  laid = refl;
}

records_in : (number unit : ℕ) (one : CRecord) → slice_get s_types.records number ≡ Some (Some one) → slice_get s_types.record_units number ≡ Some unit → IsRecordIn s_types number unit one
records_in zero unit one found unit_is =
    let e : s_record ≡ one = cc in
    let f : 0 ≡ unit = cc in
    subst (λ r. IsRecordIn s_types 0 unit r) e (subst (λ u. IsRecordIn s_types 0 u s_record) f s_record_in)
records_in (suc n) unit one found unit_is = absurd cc

x_typed : IsTypedObject example None x_object
x_typed = record {
  type_in = refl;
  object = tt;
  named = λ _. refl;
  text = λ h. absurd cc;
  static = record { complete = s_complete; typed = x_puts_typed; constant = (tt, (tt, (tt, tt))) };
}

p_object_typed : IsTypedObject example None p_object
p_object_typed = record { type_in = refl; object = tt; named = λ h. absurd cc; text = λ h. absurd cc; static = tt }

i_object_typed : IsTypedObject example None i_object
i_object_typed = record { type_in = tt; object = tt; named = λ h. absurd cc; text = λ h. absurd cc; static = tt }

pub linked : IsLinked example
unfolding IsDistinct
linked = record {
  types = record { tags = refl; record_units = refl; enum_units = refl; records = records_in };
  numbers = record { objects_differ = search rules; functions_differ = search rules; blocks_differ = search rules };
  names_differ = search rules;
  objects = All-cons (IsTypedObject example None) x_object (p_object ∷ i_object ∷ []) x_typed
      (All-cons (IsTypedObject example None) p_object (i_object ∷ []) p_object_typed
      (All-cons (IsTypedObject example None) i_object [] i_object_typed (All-nil (IsTypedObject example None))));
  functions = All-cons (IsTypedFunction example None) sum_function (main_function ∷ []) sum_defined
      (All-cons (IsTypedFunction example None) main_function [] main_defined (All-nil (IsTypedFunction example None)));
  externals = All-cons (IsTypedOuter s_types) putchar_outer [] (record { linkage_is = refl; external = putchar_external }) (All-nil (IsTypedOuter s_types));
  main_defined = refl;
  main_typed = (refl, refl);
}
