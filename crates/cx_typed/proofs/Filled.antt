-- What is stored in an object gives its type and its typed puts (ISO C99, 6.7.8).
use Rattle.std.proofs.Common.{◌≡◌, ℕ, ◌+◌, ◌<◌, max, Bool, true, List, [], ◌∷◌, Option, None, Some, is_some, refl, sym, subst, arith}
use Rattle.cr_base.specs.declared.layout.Laid.{Laid}
use Rattle.std.specs.Option.{option_and_then}
use Rattle.cx_core.specs.Layouts.{whole_extent, within_most, layouts_of, elements}
use Rattle.cx_core.specs.Linked.{home_of}
use Rattle.cx_core.specs.Trees.{CTy, ty, void, basic, enum_type, pointer, array, record_type, function, form_of_type, CTypes}
use Rattle.cx_core.specs.ValidTypes.{IsResultForm}
use Rattle.cx_rules.specs.Initial.{CStored, type_by, least_length}
use Rattle.cx_typed.proofs.Derived.{fits_by, elements_some}
use Rattle.cx_typed.proofs.Placed.{some_same}
use Rattle.cx_typed.proofs.Promoted.{neither}
use Rattle.cx_typed.proofs.Puts.{whole_bits, in_place, are_puts, constant_puts}
use Rattle.cx_typed.proofs.Sorted.{each_more}
use Rattle.cx_typed.specs.Initialised.{IsStored, IsTypedStored, CompletedTypesAreKnown, StoredValuesFill}

-- ---- the length of an array (6.7.8p22)

length_by : (types : CTypes) (element type : CTy) (is_const : Bool) (others : List CStored) (path : List ℕ) → type_by types (Some (ty (array element None) is_const)) path ≡ Some type
    → IsResultForm (form_of_type type) → 0 < (elim path as (λ _. ℕ) [ [] ↦ least_length others | index ∷ path ↦ max (index + 1) (least_length others) ])
length_by types element type is_const others [] part no_array = absurd (subst (λ t. IsResultForm (form_of_type t)) (sym (some_same _ type part)) no_array)
length_by types element type is_const others (index ∷ path) part no_array = omega arith

some_length : (types : CTypes) (element : CTy) (is_const : Bool) (one : CStored) (others : List CStored) → IsStored types (ty (array element None) is_const) one → 0 < least_length (one ∷ others)
some_length types element is_const one others held = length_by types element one.type is_const others one.path held.part held.no_array

sized_by : (found : Option Laid) → is_some (option_and_then within_most found) ≡ true → is_some found ≡ true
sized_by None is = absurd cc
sized_by (Some laid) is = refl

pub completed_known : CompletedTypesAreKnown
completed_known opens types unit (ty (array element None) is_const) [] whole each some small = absurd (omega arith)
completed_known opens types unit (ty (array element None) is_const) (one ∷ others) whole each some small =
    let more : 0 < least_length (one ∷ others) = some_length types element is_const one others each.0 in
    record {
      known = record {
        type_in = (
          whole.known.type_in.0,
          record {
            plain = whole.known.type_in.1.plain;
            complete = whole.known.type_in.1.complete;
            length = (
              more,
              fits_by (elements (least_length (one ∷ others)) (whole_extent (layouts_of types) element))
                  (elements_some (least_length (one ∷ others)) (whole_extent (layouts_of types) element) more (sized_by (whole_extent (layouts_of types) element) whole.known.type_in.1.complete)) (neither small).0,
            );
          },
        );
        settled = whole.known.settled;
      };
      object = tt;
    }
completed_known opens types unit (ty (array element (Some count)) is_const) stored whole each some small = whole
completed_known opens types unit (ty void is_const) stored whole each some small = whole
completed_known opens types unit (ty (basic which) is_const) stored whole each some small = whole
completed_known opens types unit (ty (enum_type number) is_const) stored whole each some small = whole
completed_known opens types unit (ty (pointer to) is_const) stored whole each some small = whole
completed_known opens types unit (ty (record_type number) is_const) stored whole each some small = whole
completed_known opens types unit (ty (function result params variadic) is_const) stored whole each some small = whole

-- ---- puts

pub values_fill : StoredValuesFill
values_fill opens whole stored before after held =
    let bits = whole_bits opens after.types after.unit held.good.sound in
    let ordered = in_place after.types whole.type stored bits held.parts in
    record {
      typed = λ home serves. (
        are_puts after.types whole.type stored opens home serves.grows held.parts
            (each_more (IsTypedStored home whole.is_static) _ stored (λ one is. (is.typed, is.type_is)) (held.typed home serves)),
        ordered,
      );
      constant = λ home serves static. constant_puts after.types whole.type stored home.program
          (each_more (IsTypedStored home whole.is_static) _ stored (λ one is. is.constant static) (held.typed home serves));
      outside = λ home serves static. (
        are_puts after.types whole.type stored opens (home_of home.program home.mentions home.unit) serves.grows held.parts
            (each_more (IsTypedStored home whole.is_static) _ stored (λ one is. (is.outside static, is.type_is)) (held.typed home serves)),
        ordered,
      );
    }
