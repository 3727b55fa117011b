-- Members and parts of an object of a unit's type are those of the renumbered type, and where the one may be stored in, so may the other (ISO C99,
-- 6.3.2.1, 6.5.2.3, 6.7.2.1).
use Rattle.std.proofs.Common.{◌≡◌, ℕ, ◌+◌, ◌*◌, nat_lt, Bool, true, false, if◌then◌else◌, List, [], ◌∷◌, Option, None, Some, option_map, slice_get, refl, sym, ap, ◌∙◌}
use Rattle.std.specs.Prelude.{IsSome}
use Rattle.std.specs.Option.{option_and_then}
use Rattle.cr_base.specs.declared.layout.Laid.{Laid}
use Rattle.cr_base.specs.declared.layout.Spot.{Spot}
use Rattle.cx_core.specs.Layouts.{CRow, row_at, extent, layouts_of}
use Rattle.cx_core.specs.Trees.{CTy, ty, CTyForm, void, basic, enum_type, pointer, array, record_type, function, CMember, CRecord, CTypes}
use Rattle.cx_core.specs.ValidTypes.{CPart, member_of, spot_of, direct_part, part_at, within, has_name, is_named_path, with_const, IsPartOf, IsMemberOf}
use Rattle.cx_layout.specs.Calls.{record_at}
use Rattle.cx_renumber.specs.Numbers.{CCounts, type_there, form_there, member_there, record_there}
use Rattle.cx_typed_links.proofs.Compatible.{both, together_true}
use Rattle.cx_typed_links.proofs.Sizes.{got_as, record_given, layouts_carried, extent_there}
use Rattle.cx_typed_links.specs.Embedding.{Gives, GivesAs, IsInside}

-- ---- options

-- what follows of a value as a function makes it, and of what another makes of the value
then_as : {X Y V W : Type 0} (h : X → Y) (k : V → W) (f : X → Option V) (g : Y → Option W) (first : Option X) (second : Option Y)
    → GivesAs h first second → ((x : X) → GivesAs k (f x) (g (h x))) → GivesAs k (option_and_then f first) (option_and_then g second)
then_as h k f g None second gives each v is = absurd cc
then_as h k f g (Some x) second gives each v is = ap (option_and_then g) (gives x refl) ∙ each x v is

map_as : {X Y V W : Type 0} (h : X → Y) (k : V → W) (f : X → V) (g : Y → W) (first : Option X) (second : Option Y)
    → GivesAs h first second → ((x : X) → g (h x) ≡ k (f x)) → GivesAs k (option_map f first) (option_map g second)
map_as h k f g None second gives each v is = absurd cc
map_as h k f g (Some x) second gives each v is =
    ap (option_map g) (gives x refl) ∙ ap (λ y. Some y) (each x) ∙ ap (option_map k) is

-- the same function of what both give alike
map_alike : {X V W : Type 0} (k : V → W) (f : X → V) (g : X → W) (first second : Option X)
    → Gives first second → ((x : X) → g x ≡ k (f x)) → GivesAs k (option_map f first) (option_map g second)
map_alike k f g first second gives each = map_as (λ x. x) k f g first second gives each

pub then_inner : {X Y : Type 0} (f : X → Option Y) (o : Option X) (y : Y) → option_and_then f o ≡ Some y → (x : X) × (o ≡ Some x) × (f x ≡ Some y)
then_inner f None y is = absurd cc
then_inner f (Some x) y is = (x, refl, is)

pub map_inner : {X Y : Type 0} (f : X → Y) (o : Option X) (y : Y) → option_map f o ≡ Some y → (x : X) × (o ≡ Some x)
map_inner f None y is = absurd cc
map_inner f (Some x) y is = (x, refl)

if_as : {X Y : Type 0} (k : X → Y) (test : Bool) (first : Option X) (second : Option Y) → GivesAs k first second
    → GivesAs k (if test then first else None) (if test then second else None)
if_as k true first second gives = gives
if_as k false first second gives = λ x is. absurd cc

-- ---- `const` that is added

with_const_there : (before : CCounts) (is_const : Bool) (type : CTy) → type_there before (with_const is_const type) ≡ with_const is_const (type_there before type)
with_const_there before false type = refl
with_const_there before true (ty void is_const) = refl
with_const_there before true (ty (basic which) is_const) = refl
with_const_there before true (ty (enum_type number) is_const) = refl
with_const_there before true (ty (pointer to) is_const) = refl
with_const_there before true (ty (array element length) is_const) =
    ap (λ inner. ty (array inner length) is_const) (with_const_there before true element)
with_const_there before true (ty (record_type number) is_const) = refl
with_const_there before true (ty (function result params variadic) is_const) = refl

module _ (before : CCounts) where
  abbrev part_there : CPart → CPart
  part_there part = record { spot = part.spot; type = type_there before part.type }

  abbrev members_in : Option CRecord → List CMember
  members_in None = []
  members_in (Some one) = one.members

  members_as : (first second : Option CRecord) (index : ℕ) → GivesAs (record_there before) first second
      → GivesAs (member_there before) (slice_get (members_in first) index) (slice_get (members_in second) index)
  members_as None second index gives one is = absurd cc
  members_as (Some known) second index gives one is =
      ap (λ found. slice_get (members_in found) index) (gives known refl) ∙ got_as (member_there before) known.members index one is

  abbrev spots_in : Option CRow → List Spot
  spots_in None = []
  spots_in (Some row) = row.spots

  spots_alike : (first second : Option CRow) (index : ℕ) → Gives first second → Gives (slice_get (spots_in first) index) (slice_get (spots_in second) index)
  spots_alike None second index gives one is = absurd cc
  spots_alike (Some row) second index gives one is = ap (λ found. slice_get (spots_in found) index) (gives row refl) ∙ is

  abbrev part_as : Option CMember → Option Spot → Option CPart
  part_as (Some one) (Some spot) = Some (record { spot = spot; type = one.type })
  part_as (Some one) None = None
  part_as None spot = None

  parts_as : (first second : Option CMember) (spot place : Option Spot) → GivesAs (member_there before) first second → Gives spot place
      → GivesAs part_there (part_as first spot) (part_as second place)
  parts_as None second spot place gives also part is = absurd cc
  parts_as (Some one) second None place gives also part is = absurd cc
  parts_as (Some one) second (Some spot) place gives also part is =
      ap (λ found. part_as found place) (gives one refl) ∙ ap (part_as (Some (member_there before one))) (also spot refl) ∙ ap (option_map part_there) is

  abbrev has_index : Option ℕ → ℕ → Bool
  has_index None index = false
  has_index (Some length) index = nat_lt index length

  abbrev element_at_is : CTy → ℕ → Laid → CPart
  element_at_is element index laid = record { spot = record { byte = index * laid.size; bit = 0; width = 0 }; type = element }

  module _ (one whole : CTypes) (inside : IsInside before one whole) where
    -- ---- members

    pub member_of_there : (form : CTyForm) (index : ℕ) → GivesAs (member_there before) (member_of one form index) (member_of whole (form_there before form) index)
    member_of_there (record_type number) index =
        members_as (record_at one number) (record_at whole (before.records + number)) index (record_given before one whole inside number)
    member_of_there form index = λ known is. absurd cc

    pub spot_of_there : (form : CTyForm) (index : ℕ) → Gives (spot_of one form index) (spot_of whole (form_there before form) index)
    spot_of_there (record_type number) index =
        spots_alike (row_at (layouts_of one) number) (row_at (layouts_of whole) (before.records + number)) index
        (layouts_carried before one whole inside number)
    spot_of_there form index = λ known is. absurd cc

    pub is_member_there : (holder : CTy) (spot : Spot) (type : CTy) → IsMemberOf one holder spot type
        → IsMemberOf whole (type_there before holder) spot (type_there before type)
    is_member_there (ty form is_const) spot type held = record {
      index = held.index;
      one = member_there before held.one;
      member_is = member_of_there form held.index held.one held.member_is;
      named = held.named;
      spot_is = spot_of_there form held.index spot held.spot_is;
      type_is = ap (type_there before) held.type_is ∙ with_const_there before is_const held.one.type;
    }

    -- ---- parts

    pub direct_part_there : (index : ℕ) (form : CTyForm) → GivesAs part_there (direct_part one index form) (direct_part whole index (form_there before form))
    direct_part_there index (array element length) =
        if_as part_there (has_index length index)
        (option_map (element_at_is element index) (extent (layouts_of one) element))
        (option_map (element_at_is (type_there before element) index) (extent (layouts_of whole) (type_there before element)))
        (map_alike part_there (element_at_is element index) (element_at_is (type_there before element) index)
        (extent (layouts_of one) element) (extent (layouts_of whole) (type_there before element)) (extent_there before one whole inside element) (λ laid. refl))
    direct_part_there index (record_type number) =
        parts_as (member_of one (record_type number) index) (member_of whole (record_type (before.records + number)) index)
        (spot_of one (record_type number) index) (spot_of whole (record_type (before.records + number)) index)
        (member_of_there (record_type number) index) (spot_of_there (record_type number) index)
    direct_part_there index form = λ known is. absurd cc

    pub part_at_there : (path : List ℕ) (type : CTy) → GivesAs part_there (part_at one path type) (part_at whole path (type_there before type))
    part_at_there [] type = λ part is. ap (option_map part_there) is
    part_at_there (index ∷ path) (ty form is_const) =
        then_as part_there part_there
        (λ outer. option_map (within outer) (part_at one path outer.type)) (λ outer. option_map (within outer) (part_at whole path outer.type))
        (direct_part one index form) (direct_part whole index (form_there before form)) (direct_part_there index form)
        (λ outer. map_as part_there part_there (within outer) (within (part_there outer)) (part_at one path outer.type)
        (part_at whole path (type_there before outer.type)) (part_at_there path outer.type) (λ inner. refl))

    member_named : (first second : Option CMember) → GivesAs (member_there before) first second → IsSome first → has_name first ≡ true → has_name second ≡ true
    member_named None second gives some named = absurd cc
    member_named (Some known) second gives some named = ap has_name (gives known refl) ∙ named

    some_member : (first : Option CMember) (spot : Option Spot) (part : CPart) → part_as first spot ≡ Some part → IsSome first
    some_member None spot part is = absurd cc
    some_member (Some known) spot part is = refl

    -- what leads to a part has a name there, where it has one in the unit
    named_there : (form : CTyForm) (index : ℕ) (part : CPart) → direct_part one index form ≡ Some part → has_name (member_of one form index) ≡ true
        → has_name (member_of whole (form_there before form) index) ≡ true
    named_there (array element length) index part is named = refl
    named_there (record_type number) index part is named =
        member_named (member_of one (record_type number) index) (member_of whole (record_type (before.records + number)) index)
        (member_of_there (record_type number) index)
        (some_member (member_of one (record_type number) index) (spot_of one (record_type number) index) part is) named
    named_there form index part is named = absurd cc

    abbrev named_on : CTypes → List ℕ → Option CPart → Bool
    named_on types path found = elim found as (λ _. Bool) [
      | None ↦ true
      | Some part ↦ is_named_path types path part.type
    ]

    pub named_path_there : (path : List ℕ) (type : CTy) (part : CPart) → part_at one path type ≡ Some part → is_named_path one path type ≡ true
        → is_named_path whole path (type_there before type) ≡ true
    named_path_there [] type part leads named = refl
    named_path_there (index ∷ path) (ty form is_const) part leads named =
        let found = then_inner (λ outer. option_map (within outer) (part_at one path outer.type)) (direct_part one index form) part leads in
        let inner = map_inner (within found.0) (part_at one path found.0.type) part found.2 in
        let on : is_named_path one path found.0.type ≡ true = sym (ap (named_on one path) found.1) ∙ (both named).1 in
        together_true (named_there form index found.0 found.1 (both named).0)
        (ap (named_on whole path) (direct_part_there index form found.0 found.1) ∙ named_path_there path found.0.type inner.0 inner.1 on)

    pub is_part_there : (holder : CTy) (spot : Spot) (type : CTy) → IsPartOf one holder spot type
        → IsPartOf whole (type_there before holder) spot (type_there before type)
    is_part_there holder spot type held = record {
      path = held.path;
      leads = part_at_there held.path holder (record { spot = spot; type = type }) held.leads;
      named = named_path_there held.path holder (record { spot = spot; type = type }) held.leads held.named;
    }
