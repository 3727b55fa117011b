-- Parts of the object that is initialised, by their paths (ISO C99, 6.7.8p6, p7, p17, p20).
use Rattle.std.proofs.Common.{◌≡◌, ℕ, nat_lt, ℤ, pos, negsuc, Bool, true, false, if◌then◌else◌, List, [], ◌∷◌, ◌++◌, Option, None, Some, option_map, is_some, slice_get, refl, sym, ap, ◌∙◌, subst, append_assoc, arith}
use Rattle.std.proofs.lemmas.Bool.Decides.{nat_tests}
use Rattle.std.specs.Prelude.{IsSome, IfSome}
use Rattle.std.specs.Option.{option_and_then}
use Rattle.cx_core.specs.Layouts.{extent, layouts_of}
use Rattle.cx_core.specs.Trees.{CTy, ty, void, basic, enum_type, pointer, array, record_type, function, form_of_type, CMember, CRecord, CTypes}
use Rattle.cx_core.specs.ValidTypes.{member_of, has_name, IsMemberIn}
use Rattle.cx_layout.specs.Calls.{record_at}
use Rattle.cx_rules.specs.Initial.{CAt, whole_of, members_of, most_elements, has_element, part_type, first_part, first_named, one_step, first_path, first_at, type_by, at_path, at_within, following, landed_at, landing, CKind, element_at, member_at, members_by, called_from}
use Rattle.cx_rules.specs.Pieces.{CTarget, from_whole, next_of}
use Rattle.cx_rules.specs.Types.{is_array, record_of, size_of}
use Rattle.cx_typed.proofs.Growing.{map_gives, extent_grows}
use Rattle.cx_typed.proofs.Members.{all_at}
use Rattle.cx_typed.proofs.NamedPaths.{IsNamedIn, HaveNames, named_behind, named_tail, first_path_named, following_named, landing_named, called_is_named}
use Rattle.cx_typed.proofs.Ordered.{type_none}
use Rattle.cx_typed.proofs.Parts.{complete_object}
use Rattle.cx_typed.proofs.Placed.{map_found, some_same}
use Rattle.cx_typed.proofs.Puts.{whole_there}
use Rattle.cx_typed.proofs.Stays.{both, together, member_stays, name_stays}
use Rattle.cx_typed.proofs.Texts.{type_behind}
use Rattle.cx_typed.specs.Growth.{Gives, Grows, IsSettled}
use Rattle.cx_typed.specs.Initialised.{IsKnownWhole, is_named_by, IsPart, IsPlaced, IsOpened, IsOpenedAt}
use Rattle.cx_typed.specs.Sound.{AreSound}

-- ---- parts stay while types grow

if_gives : {X : Type 0} (few many : Bool) (x : X) → (few ≡ true → many ≡ true) → Gives (if few then Some x else None) (if many then Some x else None)
if_gives true many x more one is = ap (λ test. if test then Some x else None) (more refl) ∙ is
if_gives false many x more one is = absurd cc

most_gives : (few many : Option ℕ) (index : ℕ) → Gives few many → nat_lt index (most_elements few) ≡ true → nat_lt index (most_elements many) ≡ true
most_gives None many index more is = absurd (none_less index is)
  where
    none_less : (index : ℕ) → nat_lt index 0 ≡ true → ⊥
    none_less index is = grind (arith, nat_tests, is)
most_gives (Some size) many index more is = ap (λ found. nat_lt index (most_elements found)) (more size refl) ∙ is

members_give : (few many : Option CRecord) (index : ℕ) → Gives few many → Gives (slice_get (members_of few) index) (slice_get (members_of many) index)
members_give None many index more one is = absurd cc
members_give (Some whole) many index more one is = ap (λ found. slice_get (members_of found) index) (more whole refl) ∙ is

module _ (opens : List ℕ) (before after : CTypes) (grows : Grows opens before after) where
  element_more : (element : CTy) (length : Option ℕ) (index : ℕ) → has_element before element length index ≡ true → has_element after element length index ≡ true
  element_more element None index is =
      most_gives (size_of before element) (size_of after element) index
      (map_gives (λ laid. laid.size) (extent (layouts_of before) element) (extent (layouts_of after) element) (extent_grows opens before after grows element)) is
  element_more element (Some count) index is = is

  part_gives : (type : CTy) (index : ℕ) → Gives (part_type before type index) (part_type after type index)
  part_gives (ty (array element length) is_const) index = if_gives (has_element before element length index) (has_element after element length index) element (element_more element length index)
  part_gives (ty (record_type number) is_const) index =
      map_gives (λ one. one.type) (slice_get (members_of (record_at before number)) index) (slice_get (members_of (record_at after number)) index)
      (members_give (record_at before number) (record_at after number) index (grows.records number))
  part_gives (ty void is_const) index = λ type is. is
  part_gives (ty (basic which) is_const) index = λ type is. is
  part_gives (ty (enum_type number) is_const) index = λ type is. is
  part_gives (ty (pointer to) is_const) index = λ type is. is
  part_gives (ty (function result params variadic) is_const) index = λ type is. is

  types_give : (path : List ℕ) (few many : Option CTy) → Gives few many → Gives (type_by before few path) (type_by after many path)
  types_give [] None many more type is = absurd cc
  types_give (index ∷ path) None many more type is = absurd cc
  types_give [] (Some found) many more type is = ap (λ one. type_by after one []) (more found refl) ∙ is
  types_give (index ∷ path) (Some found) many more type is =
      ap (λ one. type_by after one (index ∷ path)) (more found refl) ∙ types_give path (part_type before found index) (part_type after found index) (part_gives found index) type is

  pub part_on : (whole type : CTy) (path : List ℕ) → type_by before (Some whole) path ≡ Some type → type_by after (Some whole) path ≡ Some type
  part_on whole type path is = types_give path (Some whole) (Some whole) (λ x is. is) type is

  member_was : (found : Option CMember) (inner : CTy) → option_map (λ one. one.type) found ≡ Some inner → IsSome found
  member_was None inner is = absurd cc
  member_was (Some one) inner is = refl

  name_on : (type : CTy) (index : ℕ) (inner : CTy) → part_type before type index ≡ Some inner → has_name (member_of before (form_of_type type) index) ≡ true → has_name (member_of after (form_of_type type) index) ≡ true
  name_on (ty (record_type number) is_const) index inner there is =
      name_stays opens before after grows (member_of before (record_type number) index) (member_of after (record_type number) index) (member_stays opens before after grows (record_type number) index)
      (member_was (slice_get (members_of (record_at before number)) index) inner there) is
  name_on (ty form is_const) index inner there is = is

  pub named_on : (path : List ℕ) (whole type : CTy) → type_by before (Some whole) path ≡ Some type → is_named_by before (Some whole) path ≡ true → is_named_by after (Some whole) path ≡ true
  named_on [] whole type there is = refl
  named_on (index ∷ path) whole type there is =
      let inner = type_none before path (part_type before whole index) type there in
      let rest : is_named_by before (Some inner.0) path ≡ true = sym (ap (λ found. is_named_by before found path) inner.1) ∙ (both is).1 in
      together (name_on whole index inner.0 inner.1 (both is).0)
      (ap (λ found. is_named_by after found path) (part_gives whole index inner.0 inner.1) ∙ named_on path inner.0 type inner.2 rest)

  pub is_part_on : (whole : CTy) (at : CAt) → IsPart before whole at → IsPart after whole at
  is_part_on whole at held = record { there = part_on whole at.type at.path held.there; named = named_on at.path whole at.type held.there held.named }

  pub opened_on : (type : CTy) → IsOpened before type → IsOpened after type
  opened_on (ty (record_type number) is_const) held = by_record (record_at before number) (grows.records number) held
    where
      by_record : (found : Option CRecord) → Gives found (record_at after number) → IsSome found → IsSome (record_at after number)
      by_record None more held = absurd cc
      by_record (Some one) more held = ap is_some (more one refl)
  opened_on (ty void is_const) held = tt
  opened_on (ty (basic which) is_const) held = tt
  opened_on (ty (enum_type number) is_const) held = tt
  opened_on (ty (pointer to) is_const) held = tt
  opened_on (ty (array element length) is_const) held = tt
  opened_on (ty (function result params variadic) is_const) held = tt

  pub placed_on : (whole : CTy) (target : CTarget) (at : Option CAt) → IsPlaced before whole target at → IsPlaced after whole target at
  placed_on whole target at held = record { part = if_part (from_whole target.base at) held.part; based = held.based }
    where
      if_part : (found : Option CAt) → IfSome found (IsPart before whole) → IfSome found (IsPart after whole)
      if_part None held = tt
      if_part (Some one) held = is_part_on whole one held

  pub opened_at_on : (at : Option CAt) → IsOpenedAt before at → IsOpenedAt after at
  opened_at_on None held = tt
  opened_at_on (Some one) held = opened_on one.type held

-- ---- types of parts are known

module _ (opens : List ℕ) (types : CTypes) (unit : ℕ) (sound : AreSound opens types unit) where
  element_known : (test : Bool) (element : CTy) (length : Option ℕ) (is_const : Bool) (type : CTy) → IsKnownWhole opens types unit (ty (array element length) is_const) → (if test then Some element else None) ≡ Some type
      → IsKnownWhole opens types unit type
  element_known true element length is_const type held is =
      subst (IsKnownWhole opens types unit) (some_same element type is) (record {
        known = record { type_in = held.known.type_in.0; settled = held.known.settled };
        object = complete_object types element held.known.type_in.1.complete;
      })
  element_known false element length is_const type held is = absurd cc

  record IsMemberThere (number index : ℕ) (one : CMember) : Type 0 where
    whole : CRecord
    whole_is : record_at types number ≡ Some whole
    one_is : slice_get whole.members index ≡ Some one

  member_there : (number index : ℕ) (one : CMember) (found : Option CRecord) → record_at types number ≡ found → slice_get (members_of found) index ≡ Some one → IsMemberThere number index one
  member_there number index one None e is = absurd cc
  member_there number index one (Some whole) e is = record { whole = whole; whole_is = e; one_is = is }

  member_known : (number index : ℕ) (is_const : Bool) (one : CMember) → IsKnownWhole opens types unit (ty (record_type number) is_const) → slice_get (members_of (record_at types number)) index ≡ Some one
      → IsKnownWhole opens types unit one.type
  member_known number index is_const one held is =
      let there = member_there number index one (record_at types number) refl is in
      let record_is = sound.types_are.records number unit there.whole (whole_there (slice_get types.records number) there.whole there.whole_is) held.known.type_in in
      let member_in = all_at (IsMemberIn types unit) there.whole.members index one there.one_is record_is.members in
      record {
        known = record {
          type_in = member_in.type_in;
          settled = all_at (λ member. IsSettled opens member.type) there.whole.members index one there.one_is (sound.settled number there.whole there.whole_is);
        };
        object = complete_object types one.type member_in.complete;
      }

  part_known : (type : CTy) (index : ℕ) (found : CTy) → IsKnownWhole opens types unit type → part_type types type index ≡ Some found → IsKnownWhole opens types unit found
  part_known (ty (array element length) is_const) index found held is = element_known (has_element types element length index) element length is_const found held is
  part_known (ty (record_type number) is_const) index found held is =
      let one = map_found (λ one. one.type) (slice_get (members_of (record_at types number)) index) found is in
      subst (IsKnownWhole opens types unit) one.2 (member_known number index is_const one.0 held one.1)
  part_known (ty void is_const) index found held is = absurd cc
  part_known (ty (basic which) is_const) index found held is = absurd cc
  part_known (ty (enum_type number) is_const) index found held is = absurd cc
  part_known (ty (pointer to) is_const) index found held is = absurd cc
  part_known (ty (function result params variadic) is_const) index found held is = absurd cc

  pub type_known : (path : List ℕ) (whole found : CTy) → IsKnownWhole opens types unit whole → type_by types (Some whole) path ≡ Some found → IsKnownWhole opens types unit found
  type_known [] whole found held is = subst (IsKnownWhole opens types unit) (some_same whole found is) held
  type_known (index ∷ path) whole found held is =
      let inner = type_none types path (part_type types whole index) found is in
      type_known path inner.0 found (part_known whole index inner.0 held inner.1) inner.2

-- ---- a place in the part that a list is for

module _ (types : CTypes) (whole : CTy) (is_static : Bool) where
  abbrev target_of : Option CAt → CTarget
  target_of base = record { is_static = is_static; base = base }

  abbrev IsBase : Option CAt → Type 0
  IsBase base = IfSome base (IsPart types whole)

  -- a part of the part
  placed_path : (base at : CAt) → IsPart types whole base → type_by types (Some base.type) at.path ≡ Some at.type → is_named_by types (Some base.type) at.path ≡ true
      → IsPlaced types whole (target_of (Some base)) (Some at)
  placed_path base at held is named = record {
    part = record {
      there = type_behind types (Some whole) base.path at.path ∙ (ap (λ found. type_by types found at.path) held.there ∙ is);
      named = named_behind types (Some whole) base.path at.path held.named (ap (λ found. is_named_by types found at.path) held.there ∙ named);
    };
    based = λ there. refl;
  }

  -- no part
  pub placed_none : (base : Option CAt) → IsPlaced types whole (target_of base) None
  placed_none None = record { part = tt; based = λ there. absurd cc }
  placed_none (Some base) = record { part = tt; based = λ there. absurd cc }

  -- where a list begins, and the whole that it is for
  pub placed_whole : (base : Option CAt) → IsBase base → IsPlaced types whole (target_of base) (option_map (λ one. whole_of one.type) base)
  placed_whole None held = placed_none None
  placed_whole (Some base) held = placed_path base (whole_of base.type) held refl refl

  found_placed : (base : CAt) (path : List ℕ) (found : Option CTy) → IsPart types whole base → is_named_by types (Some base.type) path ≡ true → type_by types (Some base.type) path ≡ found
      → IsPlaced types whole (target_of (Some base)) (option_map (λ type. record { path = path; type = type }) found)
  found_placed base path None held named is = placed_none (Some base)
  found_placed base path (Some type) held named is = placed_path base (record { path = path; type = type }) held is named

  at_path_placed : (base : CAt) (path : List ℕ) → IsPart types whole base → is_named_by types (Some base.type) path ≡ true → IsPlaced types whole (target_of (Some base)) (at_path types base.type path)
  at_path_placed base path held named = found_placed base path (type_by types (Some base.type) path) held named refl

  then_path_placed : (base : CAt) (path : Option (List ℕ)) → IsPart types whole base → HaveNames types (Some base.type) path → IsPlaced types whole (target_of (Some base)) (option_and_then (at_path types base.type) path)
  then_path_placed base None held named = placed_none (Some base)
  then_path_placed base (Some path) held named = at_path_placed base path held named

  pub first_placed : (base : Option CAt) → IsBase base → IsPlaced types whole (target_of base) (option_and_then (λ one. first_at types one.type) base)
  first_placed None held = placed_none None
  first_placed (Some base) held = then_path_placed base (first_path types base.type) held (first_path_named types base.type)

  named_inside : (base at : CAt) → IsPart types whole base → IsPlaced types whole (target_of (Some base)) (Some at) → is_named_by types (Some base.type) at.path ≡ true
  named_inside base at held placed = sym (ap (λ found. is_named_by types found at.path) held.there) ∙ named_tail types (Some whole) base.path at.path placed.part.named

  pub next_placed : (base at : Option CAt) → IsBase base → IsPlaced types whole (target_of base) at → IsPlaced types whole (target_of base) (next_of types base at)
  next_placed None at held placed = placed_none None
  next_placed (Some base) None held placed = placed_none (Some base)
  next_placed (Some base) (Some at) held placed =
      then_path_placed base (following types base.type at.path) held (following_named types (Some base.type) at.path (named_inside base at held placed))

  -- ---- within another place

  within_found : (base : Option CAt) (at : CAt) (path : List ℕ) (found : Option CTy) → IsPlaced types whole (target_of base) (Some at) → is_named_by types (Some at.type) path ≡ true
      → type_by types (Some at.type) path ≡ found
      → IsPlaced types whole (target_of base) (option_map (λ type. record { path = at.path ++ path; type = type }) found)
  within_found base at path None held named is = placed_none base
  within_found None at path (Some type) held named is = absurd (let h : IsSome {T = CAt} None = held.based refl in cc)
  within_found (Some base) at path (Some type) held named is = record {
    part = record {
      there = ap (type_by types (Some whole)) (sym (append_assoc base.path at.path path))
          ∙ (type_behind types (Some whole) (base.path ++ at.path) path ∙ (ap (λ found. type_by types found path) held.part.there ∙ is));
      named = ap (is_named_by types (Some whole)) (sym (append_assoc base.path at.path path))
          ∙ named_behind types (Some whole) (base.path ++ at.path) path held.part.named (ap (λ found. is_named_by types found path) held.part.there ∙ named);
    };
    based = λ there. refl;
  }

  within_placed : (base : Option CAt) (at : CAt) (path : List ℕ) → IsPlaced types whole (target_of base) (Some at) → is_named_by types (Some at.type) path ≡ true
      → IsPlaced types whole (target_of base) (at_within types at path)
  within_placed base at path held named = within_found base at path (type_by types (Some at.type) path) held named refl

  then_within : (base : Option CAt) (at : CAt) (path : Option (List ℕ)) → IsPlaced types whole (target_of base) (Some at) → HaveNames types (Some at.type) path
      → IsPlaced types whole (target_of base) (option_and_then (at_within types at) path)
  then_within base at None held named = placed_none base
  then_within base at (Some path) held named = within_placed base at path held named

  -- where a value lands
  pub landed_placed : (kind : CKind) (base at : Option CAt) → IsPlaced types whole (target_of base) at → IsPlaced types whole (target_of base) (option_and_then (landed_at types kind) at)
  landed_placed kind base None held = placed_none base
  landed_placed kind base (Some at) held = then_within base at (landing types kind at.type) held (landing_named types kind at.type)

  -- ---- designators

  if_placed : (base : Option CAt) (test : Bool) (at : Option CAt) → (test ≡ true → IsPlaced types whole (target_of base) at) → IsPlaced types whole (target_of base) (if test then at else None)
  if_placed base true at held = held refl
  if_placed base false at held = placed_none base

  element_needs_none : (type : CTy) (index : ℕ) → is_array type ≡ true → is_named_by types (Some type) (index ∷ []) ≡ true
  element_needs_none (ty (array element length) is_const) index is = refl
  element_needs_none (ty (record_type number) is_const) index is = absurd cc
  element_needs_none (ty form is_const) index is = refl

  pub element_placed : (base at : Option CAt) (index : Option ℤ) → IsPlaced types whole (target_of base) at → IsPlaced types whole (target_of base) (element_at types at index)
  element_placed base None index held = placed_none base
  element_placed base (Some at) None held = placed_none base
  element_placed base (Some at) (Some (pos index)) held = if_placed base (is_array at.type) (at_within types at (index ∷ [])) (λ is. within_placed base at (index ∷ []) held (element_needs_none at.type index is))
  element_placed base (Some at) (Some (negsuc n)) held = placed_none base

  member_called : (type : CTy) (name : List ℕ) → IfSome (called_from 0 name (members_by types (record_of type))) (λ index. is_named_by types (Some type) (index ∷ []) ≡ true)
  member_called (ty (record_type number) is_const) name =
      if_called (called_from 0 name (members_of (record_at types number))) (called_is_named (members_of (record_at types number)) name (members_of (record_at types number)) 0 refl)
    where
      if_called : (index : Option ℕ) → IfSome index (IsNamedIn (members_of (record_at types number))) → IfSome index (λ one. is_named_by types (Some (ty (record_type number) is_const)) (one ∷ []) ≡ true)
      if_called None held = tt
      if_called (Some index) held = together held refl
  member_called (ty form is_const) name = tt

  then_member : (base : Option CAt) (at : CAt) (index : Option ℕ) → IsPlaced types whole (target_of base) (Some at) → IfSome index (λ one. is_named_by types (Some at.type) (one ∷ []) ≡ true)
      → IsPlaced types whole (target_of base) (option_and_then (λ number. at_within types at (number ∷ [])) index)
  then_member base at None held named = placed_none base
  then_member base at (Some index) held named = within_placed base at (index ∷ []) held named

  pub member_placed : (base at : Option CAt) (name : List ℕ) → IsPlaced types whole (target_of base) at → IsPlaced types whole (target_of base) (member_at types at name)
  member_placed base None name held = placed_none base
  member_placed base (Some at) name held = then_member base at (called_from 0 name (members_by types (record_of at.type))) held (member_called at.type name)

-- ---- a part that is there stands in an object whose type is completed

module _ (types : CTypes) where
  array_opened : (type : CTy) → is_array type ≡ true → IsOpened types type
  array_opened (ty (array element length) is_const) is = tt
  array_opened (ty void is_const) is = tt
  array_opened (ty (basic which) is_const) is = tt
  array_opened (ty (enum_type number) is_const) is = tt
  array_opened (ty (pointer to) is_const) is = tt
  array_opened (ty (record_type number) is_const) is = absurd cc
  array_opened (ty (function result params variadic) is_const) is = tt

  some_record : (found : Option CRecord) (test : List CMember → Option ℕ) → test [] ≡ None → IsSome (test (members_of found)) → IsSome found
  some_record None test none is = absurd (let h : IsSome {T = ℕ} None = subst IsSome none is in cc)
  some_record (Some one) test none is = refl

  pub inner_some : {X Y : Type 0} (f : X → Option Y) (found : Option X) → IsSome (option_and_then f found) → IsSome found
  inner_some f None is = absurd cc
  inner_some f (Some x) is = refl

  inner_map : {X Y : Type 0} (f : X → Y) (found : Option X) → IsSome (option_map f found) → IsSome found
  inner_map f None is = absurd cc
  inner_map f (Some x) is = refl

  pub first_opened : (type : CTy) → IsSome (first_at types type) → IsOpened types type
  first_opened (ty (record_type number) is_const) is =
      some_record (record_at types number) (first_named 0) refl
      (inner_map (λ index. index ∷ []) (first_part types (ty (record_type number) is_const)) (inner_some (at_path types (ty (record_type number) is_const)) (one_step (first_part types (ty (record_type number) is_const))) is))
  first_opened (ty (array element length) is_const) is = tt
  first_opened (ty void is_const) is = tt
  first_opened (ty (basic which) is_const) is = tt
  first_opened (ty (enum_type number) is_const) is = tt
  first_opened (ty (pointer to) is_const) is = tt
  first_opened (ty (function result params variadic) is_const) is = tt

  if_some : {X : Type 0} (test : Bool) (found : Option X) → IsSome (if test then found else None) → test ≡ true
  if_some true found is = refl
  if_some false found is = absurd cc

  pub element_opened : (at : Option CAt) (index : Option ℤ) → IsSome (element_at types at index) → IsSome at × IsOpenedAt types at
  element_opened None index is = absurd cc
  element_opened (Some at) None is = absurd cc
  element_opened (Some at) (Some (pos index)) is = (refl, array_opened at.type (if_some (is_array at.type) (at_within types at (index ∷ [])) is))
  element_opened (Some at) (Some (negsuc n)) is = absurd cc

  member_opened_by : (type : CTy) (name : List ℕ) → IsSome (called_from 0 name (members_by types (record_of type))) → IsOpened types type
  member_opened_by (ty (record_type number) is_const) name is = some_record (record_at types number) (called_from 0 name) refl is
  member_opened_by (ty (array element length) is_const) name is = tt
  member_opened_by (ty void is_const) name is = tt
  member_opened_by (ty (basic which) is_const) name is = tt
  member_opened_by (ty (enum_type number) is_const) name is = tt
  member_opened_by (ty (pointer to) is_const) name is = tt
  member_opened_by (ty (function result params variadic) is_const) name is = tt

  pub member_opened : (at : Option CAt) (name : List ℕ) → IsSome (member_at types at name) → IsSome at × IsOpenedAt types at
  member_opened None name is = absurd cc
  member_opened (Some at) name is = (refl, member_opened_by at.type name (inner_some (λ number. at_within types at (number ∷ [])) (called_from 0 name (members_by types (record_of at.type))) is))
