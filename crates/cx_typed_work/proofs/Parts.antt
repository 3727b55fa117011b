-- Where the parts of the parts of an object stand: inside it, too (ISO C99, 6.7.8).
use Rattle.std.proofs.Common.{◌≡◌, ℕ, zero, suc, ◌+◌, ◌*◌, ◌<◌, ◌≤◌, nat_lt, Bool, true, false, if◌then◌else◌, List, [], ◌∷◌, Option, None, Some, option_map, IsSome, refl, sym, ap, ◌∙◌, subst, arith}
use Rattle.std.proofs.lemmas.Bool.{and_parts}
use Rattle.std.proofs.lemmas.Bool.Decides.{nat_tests}
use Rattle.cr_base.specs.declared.layout.Laid.{Laid}
use Rattle.cr_base.specs.declared.layout.Spot.{Spot}
use Rattle.cr_base.specs.declared.scalar.Scalar.{Scalar}
use Rattle.cx_core.specs.Conversions.{scalar_of}
use Rattle.cx_core.specs.Layouts.{elements, array_extent, whole_extent, extent, layouts_of}
use Rattle.cx_core.specs.Trees.{CTy, ty, CTyForm, void, basic, enum_type, pointer, array, record_type, function, form_of_type, CMember, CTypes}
use Rattle.cx_core.specs.ValidTypes.{AreTypes, CPart, direct_part, part_at, within, member_of, spot_of, has_name, is_named_path, IsPartOf}
use Rattle.cx_typed_work.proofs.Inside.{IsInside, member_inside, member_sized}
use Rattle.cx_typed_work.proofs.Rows.{then_found, map_found, some_same, extent_whole}

-- ---- what stands directly in an object

-- a part of an object of so many bytes, and its own size
pub record IsPlaced (types : CTypes) (size : ℕ) (part : CPart) : Type 0 where
  pub inside : IsInside types size part.type part.spot.byte part.spot.bit part.spot.width
  pub laid : Laid
  pub sized : extent (layouts_of types) part.type ≡ Some laid

abbrev part_as : Option CMember → Option Spot → Option CPart
part_as (Some one) (Some spot) = Some (record { spot = spot; type = one.type })
part_as (Some one) None = None
part_as None spot = None

-- a member as a part
record IsMemberPart (types : CTypes) (number index : ℕ) (outer : CPart) : Type 0 where
  one : CMember
  member_is : member_of types (record_type number) index ≡ Some one
  spot_is : spot_of types (record_type number) index ≡ Some outer.spot
  type_is : one.type ≡ outer.type

part_parts : (types : CTypes) (number index : ℕ) (found : Option CMember) (place : Option Spot) (outer : CPart) → member_of types (record_type number) index ≡ found → spot_of types (record_type number) index ≡ place
    → part_as found place ≡ Some outer → IsMemberPart types number index outer
part_parts types number index None place outer a b is = absurd cc
part_parts types number index (Some one) None outer a b is = absurd cc
part_parts types number index (Some one) (Some spot) outer a b is =
    let e : record { spot = spot; type = one.type } ≡ outer = some_same _ outer is in
    record { one = one; member_is = a; spot_is = b ∙ ap (λ (p : CPart). Some p.spot) e; type_is = ap (λ (p : CPart). p.type) e }

member_part : (types : CTypes) (number index : ℕ) (outer : CPart) → direct_part types index (record_type number) ≡ Some outer → IsMemberPart types number index outer
member_part types number index outer is = part_parts types number index (member_of types (record_type number) index) (spot_of types (record_type number) index) outer refl refl is

name_there : (found : Option CMember) (one : CMember) → found ≡ Some one → has_name found ≡ true → IsSome one.name
name_there found one e named = subst (λ (o : Option CMember). has_name o ≡ true) e named

member_direct : (types : CTypes) (number index : ℕ) (is_const : Bool) (laid : Laid) (outer : CPart) → AreTypes types → direct_part types index (record_type number) ≡ Some outer
    → has_name (member_of types (record_type number) index) ≡ true → extent (layouts_of types) (ty (record_type number) is_const) ≡ Some laid → IsPlaced types laid.size outer
member_direct types number index is_const laid outer are direct named sized =
    let held = member_part types number index outer direct in
    let own = member_sized types number index held.one are held.member_is in
    let inside = member_inside types (ty (record_type number) is_const) index held.one outer.spot laid are held.member_is (name_there (member_of types (record_type number) index) held.one held.member_is named) held.spot_is
    (extent_whole (layouts_of types) (ty (record_type number) is_const) laid sized) in
    record {
      inside = subst (λ (t : CTy). IsInside types laid.size t outer.spot.byte outer.spot.bit outer.spot.width) held.type_is inside;
      laid = own.0;
      sized = subst (λ (t : CTy). extent (layouts_of types) t ≡ Some own.0) held.type_is own.1;
    }

-- an element as a part
record IsElementPart (types : CTypes) (element : CTy) (length_is : Option ℕ) (index : ℕ) (outer : CPart) : Type 0 where
  count : ℕ
  count_is : length_is ≡ Some count
  less : index < count
  laid : Laid
  sized : extent (layouts_of types) element ≡ Some laid
  outer_is : record { spot = record { byte = index * laid.size; bit = 0; width = 0 }; type = element } ≡ outer

abbrev element_at_is : CTy → ℕ → Laid → CPart
element_at_is element index laid = record { spot = record { byte = index * laid.size; bit = 0; width = 0 }; type = element }

element_by : (types : CTypes) (element : CTy) (count index : ℕ) (outer : CPart) (test : Bool) → nat_lt index count ≡ test
    → (if test then option_map (element_at_is element index) (extent (layouts_of types) element) else None) ≡ Some outer → IsElementPart types element (Some count) index outer
element_by types element count index outer false e is = absurd cc
element_by types element count index outer true e is =
    let found = map_found (element_at_is element index) (extent (layouts_of types) element) outer is in
    record { count = count; count_is = refl; less = grind (arith, nat_tests); laid = found.0; sized = found.1; outer_is = found.2 }

element_part : (types : CTypes) (element : CTy) (length_is : Option ℕ) (index : ℕ) (outer : CPart) → direct_part types index (array element length_is) ≡ Some outer → IsElementPart types element length_is index outer
element_part types element None index outer is = absurd cc
element_part types element (Some count) index outer is = element_by types element count index outer (nat_lt index count) refl is

times_more : (index count size : ℕ) → index < count → index * size + size ≤ count * size
times_more index zero size less = absurd (omega arith)
times_more zero (suc n) size less = omega arith
times_more (suc k) (suc n) size less = (let h : k * size + size ≤ n * size = times_more k n size (omega arith) in omega (arith, h))

array_size : (count : ℕ) (inner laid : Laid) (found : Option Laid) → found ≡ Some inner → elements count found ≡ Some laid → laid.size ≡ count * inner.size
array_size zero inner laid found e is = absurd cc
array_size (suc n) inner laid None e is = absurd cc
array_size (suc n) inner laid (Some one) e is =
    let made : record { size = suc n * one.size; align = one.align } ≡ laid = some_same _ laid is in
    sym (ap (λ (l : Laid). l.size) made) ∙ ap (λ (l : Laid). suc n * l.size) (some_same one inner e)

element_inside : (types : CTypes) (size : ℕ) (element : CTy) (byte : ℕ) (inner : Laid) → whole_extent (layouts_of types) element ≡ Some inner → byte + inner.size ≤ size → IsInside types size element byte 0 0
element_inside types size element byte inner sized last =
    record {
      begins = λ zero. refl;
      ends = λ zero other other_is. subst (λ (l : Laid). byte + l.size ≤ size) (some_same inner other (sym sized ∙ other_is)) last;
      of_bits = λ some. absurd (some refl);
    }

element_direct : (types : CTypes) (element : CTy) (length_is : Option ℕ) (index : ℕ) (is_const : Bool) (laid : Laid) (outer : CPart) → direct_part types index (array element length_is) ≡ Some outer
    → extent (layouts_of types) (ty (array element length_is) is_const) ≡ Some laid → IsPlaced types laid.size outer
element_direct types element length_is index is_const laid outer direct sized =
    let held = element_part types element length_is index outer direct in
    let inner : whole_extent (layouts_of types) element ≡ Some held.laid = extent_whole (layouts_of types) element held.laid held.sized in
    let size : laid.size ≡ held.count * held.laid.size = array_size held.count held.laid laid (whole_extent (layouts_of types) element) inner
    (subst (λ (l : Option ℕ). array_extent l (whole_extent (layouts_of types) element) ≡ Some laid) held.count_is (extent_whole (layouts_of types) (ty (array element length_is) is_const) laid sized)) in
    let most : index * held.laid.size + held.laid.size ≤ held.count * held.laid.size = times_more index held.count held.laid.size held.less in
    subst (IsPlaced types laid.size) held.outer_is
    (record { inside = element_inside types laid.size element (index * held.laid.size) held.laid inner (subst (λ n. index * held.laid.size + held.laid.size ≤ n) (sym size) most); laid = held.laid; sized = held.sized })

direct_inside : (types : CTypes) (form : CTyForm) (index : ℕ) (is_const : Bool) (laid : Laid) (outer : CPart) → AreTypes types → direct_part types index form ≡ Some outer
    → has_name (member_of types form index) ≡ true → extent (layouts_of types) (ty form is_const) ≡ Some laid → IsPlaced types laid.size outer
direct_inside types (array element length_is) index is_const laid outer are direct named sized = element_direct types element length_is index is_const laid outer direct sized
direct_inside types (record_type number) index is_const laid outer are direct named sized = member_direct types number index is_const laid outer are direct named sized
direct_inside types void index is_const laid outer are direct named sized = absurd cc
direct_inside types (basic which) index is_const laid outer are direct named sized = absurd cc
direct_inside types (enum_type number) index is_const laid outer are direct named sized = absurd cc
direct_inside types (pointer to) index is_const laid outer are direct named sized = absurd cc
direct_inside types (function result params variadic) index is_const laid outer are direct named sized = absurd cc

-- ---- parts of parts

-- a part of a part that begins at a byte
nested : (types : CTypes) (whole mid first : ℕ) (type : CTy) (byte bit width : ℕ) → first + mid ≤ whole → IsInside types mid type byte bit width → IsInside types whole type (first + byte) bit width
nested types whole mid first type byte bit width fits is =
    record {
      begins = is.begins;
      ends = λ zero laid sized. let last : byte + laid.size ≤ mid = is.ends zero laid sized in omega (arith, fits, last);
      of_bits = λ some.
          let held = is.of_bits some in
          let last : 8 * byte + bit + width ≤ 8 * mid = held.ends in
          record { field = held.field; low = held.low; ends = omega (arith, fits, last) };
    }

-- a scalar type has no parts
no_parts : (types : CTypes) (form : CTyForm) (index : ℕ) (outer : CPart) (kind : Scalar) → scalar_of types form ≡ Some kind → direct_part types index form ≡ Some outer → ⊥
no_parts types (array element length_is) index outer kind scalar_is is = cc
no_parts types (record_type number) index outer kind scalar_is is = cc
no_parts types void index outer kind scalar_is is = cc
no_parts types (basic which) index outer kind scalar_is is = cc
no_parts types (enum_type number) index outer kind scalar_is is = cc
no_parts types (pointer to) index outer kind scalar_is is = cc
no_parts types (function result params variadic) index outer kind scalar_is is = cc

-- the whole of a part
whole_within : (types : CTypes) (size : ℕ) (outer inner : CPart) → IsPlaced types size outer → record { spot = record { byte = 0; bit = 0; width = 0 }; type = outer.type } ≡ inner
    → IsInside types size inner.type (outer.spot.byte + inner.spot.byte) (outer.spot.bit + inner.spot.bit) (outer.spot.width + inner.spot.width)
whole_within types size outer inner held e =
    subst (λ (i : CPart). IsInside types size i.type (outer.spot.byte + i.spot.byte) (outer.spot.bit + i.spot.bit) (outer.spot.width + i.spot.width)) e
    (subst (λ n. IsInside types size outer.type n (outer.spot.bit + 0) (outer.spot.width + 0)) (more_none outer.spot.byte)
    (subst (λ n. IsInside types size outer.type outer.spot.byte n (outer.spot.width + 0)) (more_none outer.spot.bit)
    (subst (λ n. IsInside types size outer.type outer.spot.byte outer.spot.bit n) (more_none outer.spot.width) held.inside)))
  where
    more_none : (n : ℕ) → n ≡ n + 0
    more_none n = omega arith

none_more : (n m : ℕ) → n ≡ 0 → m ≡ n + m
none_more n m none = omega (arith, none)

-- a part of what begins at a byte
object_within : (types : CTypes) (size : ℕ) (outer inner : CPart) (held : IsPlaced types size outer) → outer.spot.width ≡ 0 → IsInside types held.laid.size inner.type inner.spot.byte inner.spot.bit inner.spot.width
    → IsInside types size inner.type (outer.spot.byte + inner.spot.byte) (outer.spot.bit + inner.spot.bit) (outer.spot.width + inner.spot.width)
object_within types size outer inner held zero_is is =
    let fits : outer.spot.byte + held.laid.size ≤ size = held.inside.ends zero_is held.laid (extent_whole (layouts_of types) outer.type held.laid held.sized) in
    subst (λ n. IsInside types size inner.type (outer.spot.byte + inner.spot.byte) n (outer.spot.width + inner.spot.width)) (none_more outer.spot.bit inner.spot.bit (held.inside.begins zero_is))
    (subst (λ n. IsInside types size inner.type (outer.spot.byte + inner.spot.byte) inner.spot.bit n) (none_more outer.spot.width inner.spot.width zero_is)
    (nested types size held.laid.size outer.spot.byte inner.type inner.spot.byte inner.spot.bit inner.spot.width fits is))

-- all parts at a path stand inside
abbrev AtPath : CTypes → List ℕ → Type 0
AtPath types path = (type : CTy) (laid : Laid) (part : CPart) → extent (layouts_of types) type ≡ Some laid → part_at types path type ≡ Some part → is_named_path types path type ≡ true → IsPlaced types laid.size part

field_within : (types : CTypes) (size : ℕ) (outer inner : CPart) (path : List ℕ) → IsPlaced types size outer → (outer.spot.width ≡ 0 → ⊥) → part_at types path outer.type ≡ Some inner
    → IsInside types size inner.type (outer.spot.byte + inner.spot.byte) (outer.spot.bit + inner.spot.bit) (outer.spot.width + inner.spot.width)
field_within types size outer inner [] held some is = whole_within types size outer inner held (some_same _ inner is)
field_within types size outer inner (index ∷ path) held some is = absurd (by outer.type (held.inside.of_bits some).field.kind_is is)
  where
    by : (type : CTy) → scalar_of types (form_of_type type) ≡ Some (held.inside.of_bits some).field.kind → part_at types (index ∷ path) type ≡ Some inner → ⊥
    by (ty form is_const) kind_is there =
        let found = then_found (λ outer. option_map (within outer) (part_at types path outer.type)) (direct_part types index form) inner there in
        no_parts types form index found.0 (held.inside.of_bits some).field.kind kind_is found.1

step_within : (types : CTypes) (size : ℕ) (outer inner : CPart) (path : List ℕ) (width : ℕ) → outer.spot.width ≡ width → (held : IsPlaced types size outer) → part_at types path outer.type ≡ Some inner
    → IsPlaced types held.laid.size inner → IsInside types size inner.type (outer.spot.byte + inner.spot.byte) (outer.spot.bit + inner.spot.bit) (outer.spot.width + inner.spot.width)
step_within types size outer inner path zero e held is placed = object_within types size outer inner held e placed.inside
step_within types size outer inner path (suc n) e held is placed = field_within types size outer inner path held (λ none. absurd (omega (arith, e, none))) is

abbrev path_behind : CTypes → List ℕ → Option CPart → Bool
path_behind types path None = true
path_behind types path (Some part) = is_named_path types path part.type

-- a part stands inside its object
pub part_inside : (types : CTypes) → AreTypes types → (path : List ℕ) → AtPath types path
part_inside types are [] type laid part sized is named =
    subst (IsPlaced types laid.size) (some_same _ part is) (record { inside = element_inside types laid.size type 0 laid (extent_whole (layouts_of types) type laid sized) (omega arith); laid = laid; sized = sized })
part_inside types are (index ∷ path) (ty form is_const) laid part sized is named =
    let outer = then_found (λ outer. option_map (within outer) (part_at types path outer.type)) (direct_part types index form) part is in
    let inner = map_found (within outer.0) (part_at types path outer.0.type) part outer.2 in
    let names = and_parts (has_name (member_of types form index)) (path_behind types path (direct_part types index form)) named in
    let behind : is_named_path types path outer.0.type ≡ true = sym (ap (path_behind types path) outer.1) ∙ names.1 in
    let held = direct_inside types form index is_const laid outer.0 are outer.1 names.0 sized in
    let placed = part_inside types are path outer.0.type held.laid inner.0 held.sized inner.1 behind in
    subst (IsPlaced types laid.size) inner.2
    (record { inside = step_within types laid.size outer.0 inner.0 path outer.0.spot.width refl held inner.1 placed; laid = placed.laid; sized = placed.sized })

-- a part to which names and numbers lead
pub placed_inside : (types : CTypes) (holder type : CTy) (spot : Spot) (laid : Laid) → AreTypes types → IsPartOf types holder spot type → extent (layouts_of types) holder ≡ Some laid
    → IsPlaced types laid.size (record { spot = spot; type = type })
placed_inside types holder type spot laid are is sized = part_inside types are is.path holder laid (record { spot = spot; type = type }) sized is.leads is.named
