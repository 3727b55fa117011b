-- Calls are typed (ISO C99, 6.5.2.2).
use Rattle.std.proofs.Common.{◌≡◌, ℕ, zero, suc, ◌/◌, nat_le, Bool, true, false, not, ◌&&◌, if◌then◌else◌, List, [], ◌∷◌, ◌++◌, length, Option, None, Some, option_map, slice_get, is_some, refl, sym, ap, ◌∙◌, subst}
use Rattle.std.specs.Prelude.{IsSome, IfSome}
use Rattle.std.specs.List.{list_any}
use Rattle.std.specs.Option.{option_and_then}
use Rattle.cr_base.specs.declared.layout.Laid.{Laid}
use Rattle.cr_base.specs.declared.layout.Piece.{Piece}
use Rattle.cr_base.specs.declared.refusal.Place.{Place as TextPlace}
use Rattle.cr_base.specs.Layout.{most_bytes, laid_of, spots_of}
use Rattle.cx_core.specs.declared.ty.Basic.{Basic}
use Rattle.cx_core.specs.declared.ty.Basic.TheVariants as basics
use Rattle.cx_core.specs.Conversions.{width_of_basic}
use Rattle.cx_core.specs.Layouts.{CRow, row_at, bytes, within_most, row_of, row_of_pieces, pieces_of, passes, layouts_of, completed_count}
use Rattle.cx_core.specs.Trees.{CTy, ty, void, basic, enum_type, pointer, array, record_type, function, CParams, unlisted, listed, CTypes, form_of_type, is_const_type, unqualified}
use Rattle.cx_core.specs.Typing.{CHome, AreTyped, IsResult, IsCallOf, IsCallBy, IsCalleeOf, AreArgumentsOf, callee_with}
use Rattle.cx_core.specs.ValidTypes.{IsResultForm, AreParamsIn}
use Rattle.cx_layout.proofs.Builds.{layouts_are}
use Rattle.cx_layout.proofs.Passes.{row_at-pass, passes_none}
use Rattle.cx_layout.specs.Calls.{record_at}
use Rattle.cx_rules.specs.Meanings.{args_of, call_as, call_meaning}
use Rattle.cx_rules.specs.Nodes.{call_node}
use Rattle.cx_rules.specs.Operands.{COperand, value_type, gives_nothing, holds_nothing}
use Rattle.cx_rules.specs.Rules.{is_empty, not_listed, count_is_wrong, result_incomplete, not_callable, args_unassignable, broken_k10}
use Rattle.cx_rules.specs.Scope.{CScope}
use Rattle.cx_rules.specs.Types.{target_of}
use Rattle.cx_typed.proofs.Calls.{IsArgument, arguments_are, count_fits}
use Rattle.cx_typed.proofs.Growing.{then_inner, complete_stays, type_stays}
use Rattle.cx_typed.proofs.Promoted.{neither, not_not}
use Rattle.cx_typed.proofs.Values.{value_is, value_type_is, unqualified_known}
use Rattle.cx_typed.specs.Calls.{named_function, args_to, IsCalled, MayBeCalled, CallsAreTyped}
use Rattle.cx_typed.specs.Growth.{Grows, AreSettledParams}
use Rattle.cx_typed.specs.Nodes.{EachOf, CStanding}
use Rattle.cx_typed.specs.Operands.{IsValueType, IsOperandType, IsTypedOperand}
use Rattle.cx_typed.specs.Sound.{AreSound}
use Rattle.cx_typed.specs.Unbroken.{IsUnbroken}

-- ---- a record that is laid out isn't too large

abbrev row_with : Bool → List Piece → Laid → CRow
row_with is_union pieces found = record { laid = found; spots = spots_of is_union pieces }

row_fits : (is_union : Bool) (pieces : List Piece) (small : Bool) (row : CRow) → nat_le (laid_of is_union pieces).size most_bytes ≡ small → row_of_pieces is_union pieces ≡ Some row
    → nat_le row.laid.size most_bytes ≡ true
row_fits is_union pieces true row is same =
    let h : Some (row_with is_union pieces (laid_of is_union pieces)) ≡ Some row =
    subst (λ b. option_map (row_with is_union pieces) (if b then Some (laid_of is_union pieces) else None) ≡ Some row) is same in
    let e : row_with is_union pieces (laid_of is_union pieces) ≡ row = cc in
    subst (λ r. nat_le r.laid.size most_bytes ≡ true) e is
row_fits is_union pieces false row is same =
    let h : None ≡ Some row =
    subst (λ b. option_map (row_with is_union pieces) (if b then Some (laid_of is_union pieces) else None) ≡ Some row) is same in
    absurd cc

pub within_is : (found : Laid) → nat_le found.size most_bytes ≡ true → IsSome (within_most found)
within_is found is = ap (λ b. is_some (if b then Some found else None)) is

module _ (types : CTypes) where
  row_small : (n number : ℕ) (row : CRow) → row_at (passes n types) number ≡ Some row → nat_le row.laid.size most_bytes ≡ true
  row_small zero number row is = absurd (let h : None ≡ Some row = sym (passes_none types number) ∙ is in cc)
  row_small (suc n) number row is =
      let found = then_inner (row_of (passes n types)) (record_at types number) row (sym (row_at-pass types (passes n types) number) ∙ is) in
      let laid = then_inner (row_of_pieces found.0.is_union) (pieces_of (passes n types) found.0.members) row found.2 in
      row_fits found.0.is_union laid.0 (nat_le (laid_of found.0.is_union laid.0).size most_bytes) row refl laid.2

  record_by : (number : ℕ) (found : Option CRow) → row_at (layouts_of types) number ≡ found → is_some (option_map (λ row. row.laid) found) ≡ true
      → IsSome (option_and_then within_most (option_map (λ row. row.laid) found))
  record_by number None is some = absurd cc
  record_by number (Some row) is some =
      within_is row.laid (row_small (completed_count types.records) number row (sym (ap (λ all. row_at all number) (layouts_are types)) ∙ is))

-- ---- results (6.5.2.2p1)

basic_fits : (which : Basic) → IsSome (within_most (bytes (width_of_basic which / 8)))
basic_fits basics.Truth = refl
basic_fits basics.Char = refl
basic_fits basics.SignedChar = refl
basic_fits basics.UnsignedChar = refl
basic_fits basics.Short = refl
basic_fits basics.UnsignedShort = refl
basic_fits basics.Int = refl
basic_fits basics.Unsigned = refl
basic_fits basics.Long = refl
basic_fits basics.UnsignedLong = refl
basic_fits basics.LongLong = refl
basic_fits basics.UnsignedLongLong = refl

module _ (opens : List ℕ) (types : CTypes) (home : CHome) (grows : Grows opens types home.program.types) where
  result_there : (result : CTy) → IsResultForm (form_of_type result) → result_incomplete types result ≡ false → IsResult home.program.types result
  result_there (ty void is_const) form complete = tt
  result_there (ty (basic which) is_const) form complete = basic_fits which
  result_there (ty (enum_type number) is_const) form complete = refl
  result_there (ty (pointer to) is_const) form complete = refl
  result_there (ty (array element length) is_const) form complete = absurd form
  result_there (ty (record_type number) is_const) form complete =
      complete_stays opens types home.program.types grows (ty (record_type number) is_const) (record_by types number (row_at (layouts_of types) number) refl (not_not complete))
  result_there (ty (function result params variadic) is_const) form complete = absurd form

-- ---- arguments

listed_by : {X Y : Type 0} (some : List X) (many : List Y) (number : ℕ) (x : X) → length some ≡ length many → slice_get some number ≡ Some x → is_some (slice_get many number) ≡ true
listed_by [] many number x same is = absurd cc
listed_by (first ∷ some) [] number x same is = absurd cc
listed_by (first ∷ some) (one ∷ many) zero x same is = refl
listed_by (first ∷ some) (one ∷ many) (suc number) x same is = (let e : length some ≡ length many = cc in listed_by some many number x e is)

listed_here : (opens : List ℕ) (types : CTypes) (unit : ℕ) → AreSound opens types unit → (number other : ℕ) → slice_get types.enum_units number ≡ Some other
    → is_some (slice_get types.enums number) ≡ true
listed_here opens types unit sound number other is = listed_by types.enum_units types.enums number other sound.types_are.enum_units is

module _ (opens : List ℕ) (types : CTypes) (home : CHome) where
  each_argument : (args : List COperand) → EachOf (IsOperandType opens types home.unit) args → EachOf (IsTypedOperand home) args → list_any gives_nothing args ≡ false
      → list_any (holds_nothing types) (args ++ []) ≡ false → EachOf (IsArgument opens types home) args
  each_argument [] known typed something holds = tt
  each_argument (arg ∷ args) known typed something holds = (
    record { known = known.0; something = (neither something).0; holds = (neither holds).0; typed = typed.0 },
    each_argument args known.1 typed.1 (neither something).1 (neither holds).1,
  )

  module _ (grows : Grows opens types home.program.types) (sound : AreSound opens types home.unit) where
    abbrev AreGiven : CParams → Bool → List COperand → Type 0
    AreGiven params variadic args = AreTyped home (args_of types params args) × AreArgumentsOf home.program.types params variadic (args_of types params args)

    given_to : (result : CTy) (params : CParams) (variadic : Bool) (args : List COperand) → AreParamsIn types home.unit variadic params → AreSettledParams opens params
        → EachOf (IsArgument opens types home) args → (not (is_empty args) && not_listed (Some (function result params variadic))) ≡ false
        → args_unassignable types args (Some (function result params variadic)) ≡ false → count_is_wrong params variadic (length args) ≡ false → AreGiven params variadic args
    given_to result unlisted variadic [] known settled held written assignable count = (tt, refl)
    given_to result unlisted variadic (arg ∷ args) known settled held written assignable count = absurd cc
    given_to result (listed params) variadic args known settled held written assignable count =
        let fits = count_fits params variadic (length args) count in
        arguments_are opens types home grows (listed_here opens types home.unit sound) params variadic args known.1 settled held assignable fits.0 fits.1

-- ---- what is called

-- the value of what is called, and those of the arguments, may be taken
record AreTaken (types : CTypes) (callee : COperand) (args : List COperand) : Type 0 where
  something : list_any gives_nothing args ≡ false
  callee_holds : holds_nothing types callee ≡ false
  args_hold : list_any (holds_nothing types) (args ++ []) ≡ false

taken_by : (types : CTypes) (callee : COperand) (args : List COperand) → broken_k10 types (call_node callee args) ≡ false → AreTaken types callee args
taken_by types callee args is = record {
  something = (neither (neither (neither is).0).0).1;
  callee_holds = (neither (neither (neither is).0).1).0;
  args_hold = (neither (neither (neither is).0).1).1;
}

-- a value that is called points to a function that takes so many arguments
record Calls (types : CTypes) (count : ℕ) (type : CTy) : Type 0 where
  result : CTy
  params : CParams
  variadic : Bool
  to_const : Bool
  type_is : type ≡ ty (pointer (ty (function result params variadic) to_const)) false
  count_is : count_is_wrong params variadic count ≡ false
  complete : result_incomplete types result ≡ false

calls_by : (types : CTypes) (count : ℕ) (to : CTy) (is_const : Bool) → is_const ≡ false → not_callable types count (Some (form_of_type to)) ≡ false → Calls types count (ty (pointer to) is_const)
calls_by types count (ty (function result params variadic) to_const) is_const plain callable = record {
  result = result;
  params = params;
  variadic = variadic;
  to_const = to_const;
  type_is = ap (ty (pointer (ty (function result params variadic) to_const))) plain;
  count_is = (neither callable).0;
  complete = (neither callable).1;
}
calls_by types count (ty void to_const) is_const plain callable = absurd cc
calls_by types count (ty (basic which) to_const) is_const plain callable = absurd cc
calls_by types count (ty (enum_type number) to_const) is_const plain callable = absurd cc
calls_by types count (ty (pointer to) to_const) is_const plain callable = absurd cc
calls_by types count (ty (array element length) to_const) is_const plain callable = absurd cc
calls_by types count (ty (record_type number) to_const) is_const plain callable = absurd cc

calls_what : (types : CTypes) (count : ℕ) (type : CTy) → is_const_type type ≡ false → not_callable types count (option_map form_of_type (target_of type)) ≡ false → Calls types count type
calls_what types count (ty (pointer to) is_const) plain callable = calls_by types count to is_const plain callable
calls_what types count (ty void is_const) plain callable = absurd cc
calls_what types count (ty (basic which) is_const) plain callable = absurd cc
calls_what types count (ty (enum_type number) is_const) plain callable = absurd cc
calls_what types count (ty (array element length) is_const) plain callable = absurd cc
calls_what types count (ty (record_type number) is_const) plain callable = absurd cc
calls_what types count (ty (function result params variadic) is_const) plain callable = absurd cc

pointed : (one other : CTy) → ty (pointer one) false ≡ ty (pointer other) false → one ≡ other
pointed one other is = cc

if_some : {X : Type 0} (P Q : X → Type 0) (found : Option X) → ((x : X) → P x → Q x) → IfSome found P → IfSome found Q
if_some P Q None each held = held
if_some P Q (Some x) each held = each x held

-- ---- calls

module _ (opens : List ℕ) (scope : CScope) (types : CTypes) (at : TextPlace) where
  result_type : (unit : ℕ) (result : CTy) (params : CParams) (variadic to_const : Bool) → IsValueType opens types unit (ty (pointer (ty (function result params variadic) to_const)) false)
      → IsValueType opens types unit (unqualified result)
  result_type unit (ty form is_const) params variadic to_const held = record {
    known = unqualified_known opens types unit (ty form is_const) (record { type_in = held.known.type_in.0; settled = held.known.settled.0 });
    plain = refl;
    form = held.known.type_in.1;
  }

  call_known : (unit : ℕ) (by_name : Bool) (callee : COperand) (args : List COperand) → IsOperandType opens types unit callee → IsUnbroken scope types (call_node callee args)
      → IsOperandType opens types unit (call_meaning at types by_name callee args)
  call_known unit by_name callee args held unbroken =
      let value = value_type_is opens types unit callee held in
      let what = calls_what types (length args) (value_type callee) value.plain unbroken.k9 in
      subst (λ t. IsOperandType opens types unit (call_as at types by_name callee args (option_map form_of_type (target_of t)))) (sym what.type_is)
      (result_type unit what.result what.params what.variadic what.to_const (subst (IsValueType opens types unit) what.type_is value))

  module _ (home : CHome) (grows : Grows opens types home.program.types) (sound : AreSound opens types home.unit) where
    -- the type of a call, its arguments and its result
    call_is : (result : CTy) (params : CParams) (variadic to_const : Bool) (args : List COperand)
        → IsValueType opens types home.unit (ty (pointer (ty (function result params variadic) to_const)) false) → EachOf (IsArgument opens types home) args
        → (not (is_empty args) && not_listed (Some (function result params variadic))) ≡ false → args_unassignable types args (Some (function result params variadic)) ≡ false
        → count_is_wrong params variadic (length args) ≡ false → result_incomplete types result ≡ false
        → AreTyped home (args_of types params args) × IsCallOf home.program.types (unqualified result) (args_of types params args) (function result params variadic)
    call_is result params variadic to_const args held given written assignable count complete =
        let taken = given_to opens types home grows sound result params variadic args held.known.type_in.2 held.known.settled.1 given written assignable count in
        (taken.0, (refl, result_there opens types home grows result held.known.type_in.1 complete, taken.1))

    through_typed : (callee : COperand) (args : List COperand) → IsOperandType opens types home.unit callee → EachOf (IsOperandType opens types home.unit) args
        → IsUnbroken scope types (call_node callee args) → IsTypedOperand home callee → EachOf (IsTypedOperand home) args → IsTypedOperand home (call_meaning at types false callee args)
    through_typed callee args held args_held unbroken typed args_typed =
        let taken = taken_by types callee args unbroken.k10 in
        let value = value_type_is opens types home.unit callee held in
        let what = calls_what types (length args) (value_type callee) value.plain unbroken.k9 in
        let from = subst (IsValueType opens types home.unit) what.type_is value in
        let made = call_is what.result what.params what.variadic what.to_const args from
        (each_argument opens types home args args_held args_typed taken.something taken.args_hold)
        (subst (λ t. (not (is_empty args) && not_listed (option_map form_of_type (target_of t))) ≡ false) what.type_is unbroken.o4)
        (subst (λ t. args_unassignable types args (option_map form_of_type (target_of t)) ≡ false) what.type_is unbroken.k12) what.count_is what.complete in
        subst (λ t. IsTypedOperand home (call_as at types false callee args (option_map form_of_type (target_of t)))) (sym what.type_is) (
          type_stays opens types home.program.types grows home.unit (unqualified what.result) (result_type home.unit what.result what.params what.variadic what.to_const from).known.type_in,
          (
            value_is opens types home grows callee held taken.callee_holds typed,
            made.0,
            subst (IsCallBy home.program.types (unqualified what.result) (args_of types what.params args)) (sym what.type_is) made.1,
          ),
        )

    by_name_typed : (place : TextPlace) (number : ℕ) (visible : CTy) (args : List COperand) → IsOperandType opens types home.unit (named_function place number visible)
        → EachOf (IsOperandType opens types home.unit) args → IsUnbroken scope types (call_node (named_function place number visible) args)
        → MayBeCalled home number visible (args_to types visible args) → EachOf (IsTypedOperand home) args
        → IsTypedOperand home (call_meaning at types true (named_function place number visible) args)
    by_name_typed place number visible args held args_held unbroken there args_typed =
        let taken = taken_by types (named_function place number visible) args unbroken.k10 in
        let value = value_type_is opens types home.unit (named_function place number visible) held in
        let what = calls_what types (length args) (ty (pointer visible) false) refl unbroken.k9 in
        let from = subst (IsValueType opens types home.unit) what.type_is value in
        let visible_is : visible ≡ ty (function what.result what.params what.variadic) what.to_const = pointed visible (ty (function what.result what.params what.variadic) what.to_const) what.type_is in
        let made = call_is what.result what.params what.variadic what.to_const args from
        (each_argument opens types home args args_held args_typed taken.something taken.args_hold)
        (subst (λ t. (not (is_empty args) && not_listed (option_map form_of_type (target_of t))) ≡ false) what.type_is unbroken.o4)
        (subst (λ t. args_unassignable types args (option_map form_of_type (target_of t)) ≡ false) what.type_is unbroken.k12) what.count_is what.complete in
        let named = subst (λ v. MayBeCalled home number v (args_to types v args)) visible_is there in
        subst (λ v. IsTypedOperand home (call_as at types true (named_function place number visible) args (Some (form_of_type v)))) (sym visible_is) (
          type_stays opens types home.program.types grows home.unit (unqualified what.result) (result_type home.unit what.result what.params what.variadic what.to_const from).known.type_in,
          (
            made.0,
            (
              named.0,
              if_some (IsCalled home (ty (function what.result what.params what.variadic) what.to_const) (args_of types what.params args))
                  (IsCalleeOf home (unqualified what.result) (args_of types what.params args)) (callee_with number home.program) (λ one called. record {
                    visible = ty (function what.result what.params what.variadic) what.to_const;
                    compatible = called.compatible;
                    call = made.1;
                    outside = called.outside;
                  }) named.1,
            ),
          ),
        )

module _ (s : CStanding) where
  -- what is said of the unit of a program holds of the unit of the node
  at_unit : (home : CHome) → home.unit ≡ s.unit → (P : ℕ → Type 0) → P s.unit → P home.unit
  at_unit home is P held = subst P (sym is) held

  pub calls : CallsAreTyped s
  calls = record {
    through = λ callee args. record {
      known = λ sound unbroken held. call_known s.opens s.scope s.types s.at s.unit false callee args held.0 unbroken;
      typed = λ home is grows sound unbroken held given.
          let here = at_unit home is (λ unit. EachOf (IsOperandType s.opens s.types unit) (callee ∷ args)) held in
          through_typed s.opens s.scope s.types s.at home grows (at_unit home is (AreSound s.opens s.types) sound) callee args here.0 here.1 unbroken given.0 given.1;
    };
    by_name = λ place number visible args. record {
      known = λ sound unbroken held args_held. call_known s.opens s.scope s.types s.at s.unit true (named_function place number visible) args held unbroken;
      typed = λ home is grows sound unbroken held args_held there given.
          by_name_typed s.opens s.scope s.types s.at home grows (at_unit home is (AreSound s.opens s.types) sound) place number visible args
          (at_unit home is (λ unit. IsOperandType s.opens s.types unit (named_function place number visible)) held)
          (at_unit home is (λ unit. EachOf (IsOperandType s.opens s.types unit) args) args_held) unbroken there given;
    };
  }
