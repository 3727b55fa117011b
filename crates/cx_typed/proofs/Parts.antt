-- `.` and `->` (ISO C99, 6.5.2.3).
use Rattle.std.proofs.Common.{◌≡◌, ℕ, suc, ◌+◌, ◌==◌, Bool, true, false, ◌&&◌, not, if◌then◌else◌, List, [], ◌∷◌, Option, None, Some, option_map, slice_get, is_some, is_none, refl, sym, ap, ◌∙◌, subst, arith}
use Rattle.std.proofs.lemmas.Bool.Decides.{nat_tests}
use Rattle.std.specs.Option.{option_flatten}
use Rattle.std.specs.Prelude.{IsSome, IfSome}
use Rattle.cr_base.specs.declared.layout.Spot.{Spot}
use Rattle.cr_base.specs.declared.refusal.Place.{Place as TextPlace}
use Rattle.cx_core.specs.Conversions.{IsIntegerType}
use Rattle.cx_core.specs.Trees.{CTy, ty, CTyForm, void, basic, enum_type, pointer, array, record_type, function, form_of_type, is_const_type, unqualified, CTypes, CMember, CRecord, CExpr, expr, deref, member, type_of}
use Rattle.cx_core.specs.Typing.{CHome}
use Rattle.cx_core.specs.ValidTypes.{IsTypeIn, IsComplete, IsObjectForm, IsResultForm, IsMemberIn, IsBitFieldOf, IsMemberOf, member_of, spot_of, with_const}
use Rattle.cx_rules.specs.declared.kinds.OperandKind.{OperandKind}
use Rattle.cx_rules.specs.declared.kinds.OperandKind.TheVariants.{Value, Place, Function, VoidPlace}
use Rattle.cx_rules.specs.Meanings.{CFoundMember, find_member, found_at, found_as, named_from, is_named, members_in, dot_meaning, dot_as, arrow_meaning, deref_as}
use Rattle.cx_rules.specs.Nodes.{dot_node, arrow_node}
use Rattle.cx_rules.specs.Operands.{COperand, is_place, value_of, value_type}
use Rattle.cx_rules.specs.Rules.{is_record_operand, lacks_member_behind, is_array_member}
use Rattle.cx_rules.specs.Scope.{CScope}
use Rattle.cx_rules.specs.Types.{is_array, is_pointer, target_of, qualified}
use Rattle.cx_typed.proofs.Choosing.{qualified_in, qualified_settled}
use Rattle.cx_typed.proofs.Growing.{type_stays}
use Rattle.cx_typed.proofs.Members.{all_at, found_is}
use Rattle.cx_typed.proofs.Promoted.{neither, not_not}
use Rattle.cx_typed.proofs.Stays.{is_member_stays}
use Rattle.cx_typed.proofs.Single.{one_holds, deref_known, deref_typed}
use Rattle.cx_typed.proofs.Values.{unqualified_known, value_is, value_type_is}
use Rattle.cx_typed.specs.Growth.{Grows, IsSettled}
use Rattle.cx_typed.specs.Operands.{IsKnownType, IsValueType, IsPlaceType, IsOperandTypeBy, IsOperandType, IsTypedBy, IsTypedOperand}
use Rattle.cx_typed.specs.Sound.{AreSound}
use Rattle.cx_typed.specs.Unbroken.{IsUnbroken}

-- ---- the member of a name

record IsNamedAt (from : ℕ) (members : List CMember) (index : ℕ) : Type 0 where
  offset : ℕ
  index_is : index ≡ from + offset
  one : CMember
  one_is : slice_get members offset ≡ Some one
  named : IsSome one.name

has_a_name : (name : List ℕ) (found : Option (List ℕ)) → is_named name found ≡ true → IsSome found
has_a_name name None is = absurd cc
has_a_name name (Some other) is = refl

abbrev number_or : ℕ → Option ℕ → ℕ
number_or other None = other
number_or other (Some number) = number

named_first : (name : List ℕ) (from : ℕ) (one : CMember) (others : List CMember) (index : ℕ) (test : Bool) → is_named name one.name ≡ test
    → (named_from (from + 1) name others ≡ Some index → IsNamedAt (from + 1) others index)
    → (if test then Some from else named_from (from + 1) name others) ≡ Some index → IsNamedAt from (one ∷ others) index
named_first name from one others index true named rest held = record {
  offset = 0;
  index_is = (let e : from ≡ index = ap (number_or from) held in omega arith);
  one = one;
  one_is = refl;
  named = has_a_name name one.name named;
}
named_first name from one others index false named rest held =
    let later = rest held in
    record {
      offset = suc later.offset;
      index_is = (let e : index ≡ from + 1 + later.offset = later.index_is in omega arith);
      one = later.one;
      one_is = later.one_is;
      named = later.named;
    }

named_at : (name : List ℕ) (from : ℕ) (members : List CMember) (index : ℕ) → named_from from name members ≡ Some index → IsNamedAt from members index
named_at name from [] index is = absurd cc
named_at name from (one ∷ others) index is = named_first name from one others index (is_named name one.name) refl (named_at name (from + 1) others index) is

-- what is found of a member of a record type
record IsMemberFound (types : CTypes) (number : ℕ) (found : CFoundMember) : Type 0 where
  one : CMember
  member_is : member_of types (record_type number) found.index ≡ Some one
  spot_is : spot_of types (record_type number) found.index ≡ Some found.spot
  type_is : found.type ≡ one.type
  named : IsSome one.name

record IsFoundAs (index : ℕ) (member_there : Option CMember) (spot_there : Option Spot) (found : CFoundMember) : Type 0 where
  one : CMember
  member_is : member_there ≡ Some one
  spot_is : spot_there ≡ Some found.spot
  index_is : index ≡ found.index
  type_is : found.type ≡ one.type

abbrev found_or : CFoundMember → Option CFoundMember → CFoundMember
found_or other None = other
found_or other (Some found) = found

found_parts : (index : ℕ) (member_there : Option CMember) (spot_there : Option Spot) (found : CFoundMember) → found_as index member_there spot_there ≡ Some found
    → IsFoundAs index member_there spot_there found
found_parts index None spot_there found is = absurd cc
found_parts index (Some one) None found is = absurd cc
found_parts index (Some one) (Some spot) found is = record {
  one = one;
  member_is = refl;
  spot_is = ap (λ f. Some f.spot) (ap (found_or found) is);
  index_is = ap (λ f. f.index) (ap (found_or found) is);
  type_is = sym (ap (λ f. f.type) (ap (found_or found) is));
}

member_found_by : (types : CTypes) (number : ℕ) (is_const : Bool) (name : List ℕ) (found : CFoundMember) (index : Option ℕ)
    → index ≡ named_from 0 name (members_in types (Some number)) → found_at types (record_type number) index ≡ Some found → IsMemberFound types number found
member_found_by types number is_const name found None at is = absurd cc
member_found_by types number is_const name found (Some index) at is =
    let there = named_at name 0 (members_in types (Some number)) index (sym at) in
    let parts = found_parts index (member_of types (record_type number) index) (spot_of types (record_type number) index) found is in
    let where_is : index ≡ there.offset = (let e : index ≡ 0 + there.offset = there.index_is in omega arith) in
    let same : Some parts.one ≡ Some there.one =
    sym parts.member_is ∙ ap (λ i. slice_get (members_in types (Some number)) i) where_is ∙ there.one_is in
    record {
      one = parts.one;
      member_is = ap (member_of types (record_type number)) (sym parts.index_is) ∙ parts.member_is;
      spot_is = ap (spot_of types (record_type number)) (sym parts.index_is) ∙ parts.spot_is;
      type_is = parts.type_is;
      named = ap is_some (ap (λ m. m.name) (ap (member_or parts.one) same)) ∙ there.named;
    }
  where
    member_or : CMember → Option CMember → CMember
    member_or other None = other
    member_or other (Some held) = held

-- ---- types of members

pub complete_object : (types : CTypes) (type : CTy) → IsComplete types type → IsObjectForm (form_of_type type)
complete_object types (ty void is_const) is = absurd cc
complete_object types (ty (basic which) is_const) is = tt
complete_object types (ty (enum_type number) is_const) is = tt
complete_object types (ty (pointer to) is_const) is = tt
complete_object types (ty (array element length) is_const) is = tt
complete_object types (ty (record_type number) is_const) is = tt
complete_object types (ty (function result params variadic) is_const) is = absurd cc

with_const_is : (types : CTypes) (unit : ℕ) (is_const : Bool) (type : CTy) → IsTypeIn types unit type → IsObjectForm (form_of_type type) → with_const is_const type ≡ qualified is_const type
with_const_is types unit false type known object = refl
with_const_is types unit true (ty (array element length) is_const) known object =
    ap (λ e. ty (array e length) is_const) (with_const_is types unit true element known.0 (complete_object types element known.1.complete))
with_const_is types unit true (ty void is_const) known object = absurd object
with_const_is types unit true (ty (basic which) is_const) known object = refl
with_const_is types unit true (ty (enum_type number) is_const) known object = refl
with_const_is types unit true (ty (pointer to) is_const) known object = refl
with_const_is types unit true (ty (record_type number) is_const) known object = refl
with_const_is types unit true (ty (function result params variadic) is_const) known object = absurd object

const_object : (is_const : Bool) (type : CTy) → IsObjectForm (form_of_type type) → IsObjectForm (form_of_type (with_const is_const type))
const_object false type object = object
const_object true (ty (array element length) is_const) object = tt
const_object true (ty void is_const) object = absurd object
const_object true (ty (basic which) is_const) object = tt
const_object true (ty (enum_type number) is_const) object = tt
const_object true (ty (pointer to) is_const) object = tt
const_object true (ty (record_type number) is_const) object = tt
const_object true (ty (function result params variadic) is_const) object = absurd object

const_integer : (types : CTypes) (is_const : Bool) (type : CTy) → IsIntegerType types type → IsIntegerType types (with_const is_const type)
const_integer types false type is = is
const_integer types true (ty (basic which) is_const) is = refl
const_integer types true (ty (enum_type number) is_const) is = is
const_integer types true (ty (array element length) is_const) is = absurd cc
const_integer types true (ty void is_const) is = absurd cc
const_integer types true (ty (pointer to) is_const) is = absurd cc
const_integer types true (ty (record_type number) is_const) is = absurd cc
const_integer types true (ty (function result params variadic) is_const) is = absurd cc

-- ---- members of operands

module _ (opens : List ℕ) (types : CTypes) (unit : ℕ) (sound : AreSound opens types unit) where
  record IsKnownMember (holder : CTy) (found : CFoundMember) : Type 0 where
    known : IsKnownType opens types unit found.type
    object : IsObjectForm (form_of_type found.type)
    bits : not (found.spot.width == 0) ≡ true → IsIntegerType types found.type
    member_is : IsMemberOf types holder found.spot (with_const (is_const_type holder) found.type)

  bits_by : (one : CMember) (bits : Option ℕ) (width : ℕ) → one.bits ≡ bits → (one.bits ≡ None → width ≡ 0) → IfSome one.bits (IsBitFieldOf types one) → not (width == 0) ≡ true → IsIntegerType types one.type
  bits_by one None width is none held wide = absurd (let h : width ≡ 0 = none is in grind (arith, nat_tests, h, wide))
  bits_by one (Some bits) width is none held wide = (subst (λ b. IfSome b (IsBitFieldOf types one)) is held).integer

  known_member : (number : ℕ) (is_const : Bool) (name : List ℕ) (found : CFoundMember) → IsKnownType opens types unit (ty (record_type number) is_const)
      → find_member types (ty (record_type number) is_const) name ≡ Some found → IsKnownMember (ty (record_type number) is_const) found
  known_member number is_const name found holder is =
      let held = member_found_by types number is_const name found (named_from 0 name (members_in types (Some number))) refl is in
      let there = found_is types number found.index held.one found.spot held.member_is held.spot_is in
      let record_is = sound.types_are.records number unit there.whole (whole_there (slice_get types.records number) there.whole there.whole_is) holder.type_in in
      let member_in = all_at (IsMemberIn types unit) there.whole.members found.index held.one there.member_is record_is.members in
      let settled = all_at (λ m. IsSettled opens m.type) there.whole.members found.index held.one there.member_is (sound.settled number there.whole there.whole_is) in
      record {
        known = subst (IsKnownType opens types unit) (sym held.type_is) (record { type_in = member_in.type_in; settled = settled });
        object = subst (λ t. IsObjectForm (form_of_type t)) (sym held.type_is) (complete_object types held.one.type member_in.complete);
        bits = λ wide. subst (IsIntegerType types) (sym held.type_is) (bits_by held.one held.one.bits found.spot.width refl there.no_width member_in.bits wide);
        member_is = record {
          index = found.index;
          one = held.one;
          member_is = held.member_is;
          named = held.named;
          spot_is = held.spot_is;
          type_is = ap (with_const is_const) held.type_is;
        };
      }
    where
      whole_there : (found : Option (Option CRecord)) (one : CRecord) → option_flatten found ≡ Some one → found ≡ Some (Some one)
      whole_there None one is = absurd cc
      whole_there (Some None) one is = absurd cc
      whole_there (Some (Some other)) one is = ap Some is

  -- what `.` gives
  place_member : (at : TextPlace) (is_register : Bool) (core : CExpr) (found : CFoundMember) → IsKnownMember (type_of core) found
      → IsPlaceType opens types unit (expr (with_const (is_const_type (type_of core)) found.type) at (member core found.spot))
  place_member at is_register core found held = record {
    known = subst (IsKnownType opens types unit) (sym (with_const_is types unit (is_const_type (type_of core)) found.type held.known.type_in held.object)) (record {
      type_in = qualified_in types unit (is_const_type (type_of core)) found.type held.known.type_in;
      settled = qualified_settled opens (is_const_type (type_of core)) found.type held.known.settled;
    });
    object = const_object (is_const_type (type_of core)) found.type held.object;
    bits = λ wide. const_integer types (is_const_type (type_of core)) found.type (held.bits wide);
    followed = tt;
  }

  value_member : (type : CTy) → IsKnownType opens types unit type → IsObjectForm (form_of_type type) → is_array type ≡ false → IsValueType opens types unit (unqualified type)
  value_member (ty form is_const) known object no_array = record { known = unqualified_known opens types unit (ty form is_const) known; plain = refl; form = value_form form is_const object no_array }
    where
      value_form : (form : CTyForm) (is_const : Bool) → IsObjectForm form → is_array (ty form is_const) ≡ false → IsResultForm form
      value_form void is_const object no_array = absurd object
      value_form (basic which) is_const object no_array = tt
      value_form (enum_type number) is_const object no_array = tt
      value_form (pointer to) is_const object no_array = tt
      value_form (array element length) is_const object no_array = absurd cc
      value_form (record_type number) is_const object no_array = tt
      value_form (function result params variadic) is_const object no_array = absurd object

  -- the operand of `.` is a record, be it a value or an lvalue
  record IsHolder (core : CExpr) : Type 0 where
    known : IsKnownType opens types unit (type_of core)

  holder_by : (kind : OperandKind) (is_register : Bool) (core : CExpr) → is_record_operand (record { kind = kind; is_register = is_register; core = core }) ≡ true
      → IsOperandTypeBy kind opens types unit core → IsKnownType opens types unit (type_of core)
  holder_by Value is_register core is held = held.known
  holder_by Place is_register core is held = held.known
  holder_by Function is_register core is held = absurd cc
  holder_by VoidPlace is_register core is held = absurd cc

  found_member : (type : CTy) (name : List ℕ) (found : CFoundMember) → IsKnownType opens types unit type → find_member types type name ≡ Some found → IsKnownMember type found
  found_member (ty (record_type number) is_const) name found known is = known_member number is_const name found known is
  found_member (ty void is_const) name found known is = absurd cc
  found_member (ty (basic which) is_const) name found known is = absurd cc
  found_member (ty (enum_type number) is_const) name found known is = absurd cc
  found_member (ty (pointer to) is_const) name found known is = absurd cc
  found_member (ty (array element length) is_const) name found known is = absurd cc
  found_member (ty (function result params variadic) is_const) name found known is = absurd cc

  dot_known_by : (at : TextPlace) (kind : OperandKind) (is_register : Bool) (core : CExpr) (name : List ℕ) (found : Option CFoundMember)
      → found ≡ find_member types (type_of core) name → is_none found ≡ false
      → IsKnownType opens types unit (type_of core) → is_record_operand (record { kind = kind; is_register = is_register; core = core }) ≡ true
      → (not (is_place (record { kind = kind; is_register = is_register; core = core })) && is_array_member (option_map (λ one. one.type) found)) ≡ false
      → IsOperandType opens types unit (dot_as at (record { kind = kind; is_register = is_register; core = core }) found)
  dot_known_by at kind is_register core name None is some known operand no_array = absurd cc
  dot_known_by at Place is_register core name (Some found) is some known operand no_array = place_member at is_register core found (found_member (type_of core) name found known (sym is))
  dot_known_by at Value is_register core name (Some found) is some known operand no_array =
      let held = found_member (type_of core) name found known (sym is) in
      value_member found.type held.known held.object no_array
  dot_known_by at Function is_register core name (Some found) is some known operand no_array = absurd cc
  dot_known_by at VoidPlace is_register core name (Some found) is some known operand no_array = absurd cc

  pub dot_known : (scope : CScope) (at : TextPlace) (of : COperand) (name : List ℕ) → IsOperandType opens types unit of → IsUnbroken scope types (dot_node of name)
      → IsOperandType opens types unit (dot_meaning at types of name)
  dot_known scope at of name held unbroken =
      let operand = not_not (neither unbroken.k8).0 in
      dot_known_by at of.kind of.is_register of.core name (find_member types (type_of of.core) name) refl (neither unbroken.k8).1
      (holder_by of.kind of.is_register of.core operand held) operand unbroken.o11

module _ (opens : List ℕ) (types : CTypes) (home : CHome) (grows : Grows opens types home.program.types) (sound : AreSound opens types home.unit) where
  dot_typed_by : (at : TextPlace) (kind : OperandKind) (is_register : Bool) (core : CExpr) (name : List ℕ) (found : Option CFoundMember)
      → found ≡ find_member types (type_of core) name → is_none found ≡ false
      → IsOperandTypeBy kind opens types home.unit core → is_record_operand (record { kind = kind; is_register = is_register; core = core }) ≡ true
      → (not (is_place (record { kind = kind; is_register = is_register; core = core })) && is_array_member (option_map (λ one. one.type) found)) ≡ false
      → IsTypedBy kind home core
      → IsTypedOperand home (dot_as at (record { kind = kind; is_register = is_register; core = core }) found)
  dot_typed_by at kind is_register core name None is some held operand no_array typed = absurd cc
  dot_typed_by at Place is_register core name (Some found) is some held operand no_array typed =
      let known = found_member opens types home.unit sound (type_of core) name found held.known (sym is) in
      let place = place_member opens types home.unit sound at is_register core found known in (
        type_stays opens types home.program.types grows home.unit (with_const (is_const_type (type_of core)) found.type) place.known.type_in,
        place.object,
        (typed, is_member_stays opens types home.program.types grows (type_of core) found.spot (with_const (is_const_type (type_of core)) found.type) known.member_is),
      )
  dot_typed_by at Value is_register core name (Some found) is some held operand no_array typed =
      let known = found_member opens types home.unit sound (type_of core) name found held.known (sym is) in
      let value = value_member opens types home.unit sound found.type known.known known.object no_array in
      let plain : with_const (is_const_type (type_of core)) found.type ≡ found.type = ap (λ c. with_const c found.type) held.plain in (
        type_stays opens types home.program.types grows home.unit (unqualified found.type) value.known.type_in,
        (
          typed,
          record {
            declared = found.type;
            member = subst (IsMemberOf home.program.types (type_of core) found.spot) plain
                (is_member_stays opens types home.program.types grows (type_of core) found.spot (with_const (is_const_type (type_of core)) found.type) known.member_is);
            no_array = no_array_form found.type value.form;
            type_is = refl;
          },
        ),
      )
    where
      no_array_form : (type : CTy) → IsResultForm (form_of_type (unqualified type)) → IsResultForm (form_of_type type)
      no_array_form (ty form is_const) result = result
  dot_typed_by at Function is_register core name (Some found) is some held operand no_array typed = absurd cc
  dot_typed_by at VoidPlace is_register core name (Some found) is some held operand no_array typed = absurd cc

  pub dot_typed : (scope : CScope) (at : TextPlace) (of : COperand) (name : List ℕ) → IsOperandType opens types home.unit of → IsUnbroken scope types (dot_node of name)
      → IsTypedOperand home of → IsTypedOperand home (dot_meaning at types of name)
  dot_typed scope at of name held unbroken typed =
      dot_typed_by at of.kind of.is_register of.core name (find_member types (type_of of.core) name) refl (neither unbroken.k8).1 held (not_not (neither unbroken.k8).0) unbroken.o11 typed

-- ---- `->`: the member of what a pointer points to

pointer_of : (type : CTy) (to : CTy) → target_of type ≡ Some to → is_pointer type ≡ true
pointer_of (ty (pointer target) is_const) to is = refl
pointer_of (ty void is_const) to is = absurd cc
pointer_of (ty (basic which) is_const) to is = absurd cc
pointer_of (ty (enum_type number) is_const) to is = absurd cc
pointer_of (ty (array element length) is_const) to is = absurd cc
pointer_of (ty (record_type number) is_const) to is = absurd cc
pointer_of (ty (function result params variadic) is_const) to is = absurd cc

module _ (opens : List ℕ) (types : CTypes) (scope : CScope) (at : TextPlace) (name : List ℕ) where
  arrow_known_by : (unit : ℕ) (sound : AreSound opens types unit) (from : CExpr) (target : Option CTy) → target_of (type_of from) ≡ target → lacks_member_behind types target name ≡ false
      → IsOperandType opens types unit (deref_as at from target) → IsOperandType opens types unit (dot_meaning at types (deref_as at from target) name)
  arrow_known_by unit sound from None is lacks held = absurd cc
  arrow_known_by unit sound from (Some (ty (record_type number) is_const)) is lacks held =
      dot_known_by opens types unit sound at Place false (expr (ty (record_type number) is_const) at (deref from)) name (find_member types (ty (record_type number) is_const) name) refl lacks held.known refl refl
  arrow_known_by unit sound from (Some (ty void is_const)) is lacks held = absurd cc
  arrow_known_by unit sound from (Some (ty (basic which) is_const)) is lacks held = absurd cc
  arrow_known_by unit sound from (Some (ty (enum_type number) is_const)) is lacks held = absurd cc
  arrow_known_by unit sound from (Some (ty (pointer to) is_const)) is lacks held = absurd cc
  arrow_known_by unit sound from (Some (ty (array element length) is_const)) is lacks held = absurd cc
  arrow_known_by unit sound from (Some (ty (function result params variadic) is_const)) is lacks held = absurd cc

  arrow_typed_by : (home : CHome) (grows : Grows opens types home.program.types) (sound : AreSound opens types home.unit) (from : CExpr) (target : Option CTy) → target_of (type_of from) ≡ target
      → lacks_member_behind types target name ≡ false → IsOperandType opens types home.unit (deref_as at from target) → IsTypedOperand home (deref_as at from target)
      → IsTypedOperand home (dot_meaning at types (deref_as at from target) name)
  arrow_typed_by home grows sound from None is lacks held typed = absurd cc
  arrow_typed_by home grows sound from (Some (ty (record_type number) is_const)) is lacks held typed =
      dot_typed_by opens types home grows sound at Place false (expr (ty (record_type number) is_const) at (deref from)) name (find_member types (ty (record_type number) is_const) name) refl lacks held refl refl typed
  arrow_typed_by home grows sound from (Some (ty void is_const)) is lacks held typed = absurd cc
  arrow_typed_by home grows sound from (Some (ty (basic which) is_const)) is lacks held typed = absurd cc
  arrow_typed_by home grows sound from (Some (ty (enum_type number) is_const)) is lacks held typed = absurd cc
  arrow_typed_by home grows sound from (Some (ty (pointer to) is_const)) is lacks held typed = absurd cc
  arrow_typed_by home grows sound from (Some (ty (array element length) is_const)) is lacks held typed = absurd cc
  arrow_typed_by home grows sound from (Some (ty (function result params variadic) is_const)) is lacks held typed = absurd cc

  -- the pointer has something to point to
  points_by : (type : CTy) (target : Option CTy) → target_of type ≡ target → lacks_member_behind types target name ≡ false → is_pointer type ≡ true
  points_by type None is lacks = absurd cc
  points_by type (Some to) is lacks = pointer_of type to is

  pub arrow_known : (unit : ℕ) → AreSound opens types unit → (of : COperand) → IsOperandType opens types unit of → IsUnbroken scope types (arrow_node of name)
      → IsOperandType opens types unit (arrow_meaning at types of name)
  arrow_known unit sound of held unbroken =
      arrow_known_by unit sound (value_of of) (target_of (value_type of)) refl unbroken.k8
      (deref_known opens scope types at unit (value_of of) (value_type_is opens types unit of held) (points_by (value_type of) (target_of (value_type of)) refl unbroken.k8))

  pub arrow_typed : (home : CHome) → Grows opens types home.program.types → AreSound opens types home.unit → (of : COperand) → IsOperandType opens types home.unit of
      → IsUnbroken scope types (arrow_node of name) → IsTypedOperand home of → IsTypedOperand home (arrow_meaning at types of name)
  arrow_typed home grows sound of held unbroken typed =
      let value = value_type_is opens types home.unit of held in
      let points_is = points_by (value_type of) (target_of (value_type of)) refl unbroken.k8 in
      arrow_typed_by home grows sound (value_of of) (target_of (value_type of)) refl unbroken.k8
      (deref_known opens scope types at home.unit (value_of of) value points_is)
      (deref_typed opens scope types at home grows (value_of of) value points_is
      (value_is opens types home grows of held (one_holds types of false unbroken.k10) typed))
