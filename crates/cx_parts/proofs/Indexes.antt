-- Indexes of arrays, by the number of their elements.
use Rattle.std.proofs.Common.{◌≡◌, refl, ap, sym, ◌∙◌, ℕ, ℤ, pos, negsuc, Bool, true, false, Option, None, Some, List, [], ◌∷◌, ◌++◌, nat_lt, if◌then◌else◌, option_map}
use Rattle.cx_core.specs.Trees.{CTy, ty, void, basic, enum_type, pointer, array, record_type, function, CTypes}
use Rattle.cx_parts.specs.Designators.{bound_of, below, index_below}
use Rattle.cx_rules.specs.Initial.{CAt, has_element, index_in, at_within, type_by}

pub has_element_is : (types : CTypes) (element : CTy) (length : Option ℕ) (index : ℕ) → nat_lt index (bound_of types element length) ≡ has_element types element length index
has_element_is types element None index = refl
has_element_is types element (Some length) index = refl

abbrev at_type : List ℕ → CTy → CAt
at_type path type = record { path = path; type = type }

below_by : (types : CTypes) (path : List ℕ) (element : CTy) (length : Option ℕ) (is_const : Bool) (index : ℕ) (found : Bool) → has_element types element length index ≡ found
    → below (bound_of types element length) (pos index) ≡ None → index_in types (at_type path (ty (array element length) is_const)) (pos index) ≡ None
below_by types path element length is_const index true e none =
    let there : nat_lt index (bound_of types element length) ≡ true = has_element_is types element length index ∙ e in
    let some : below (bound_of types element length) (pos index) ≡ Some index = rw there refl in cc
below_by types path element length is_const index false e none =
    ap (λ b. option_map (at_type (path ++ index ∷ [])) (type_by types (if b then Some element else None) [])) e

none_by : (types : CTypes) (path : List ℕ) (type : CTy) (index : ℤ) → index_below types type index ≡ None → index_in types (at_type path type) index ≡ None
none_by types path type (negsuc n) none = refl
none_by types path (ty (array element length) is_const) (pos index) none = below_by types path element length is_const index (has_element types element length index) refl none
none_by types path (ty void is_const) (pos index) none = refl
none_by types path (ty (basic which) is_const) (pos index) none = refl
none_by types path (ty (enum_type number) is_const) (pos index) none = refl
none_by types path (ty (pointer to) is_const) (pos index) none = refl
none_by types path (ty (record_type number) is_const) (pos index) none = refl
none_by types path (ty (function result params variadic) is_const) (pos index) none = refl

pub no_index_below : (types : CTypes) (at : CAt) (index : ℤ) → index_below types at.type index ≡ None → index_in types at index ≡ None
no_index_below types at index none = none_by types at.path at.type index none

some_below : (bound index found : ℕ) (less : Bool) → nat_lt index bound ≡ less → below bound (pos index) ≡ Some found → index ≡ found
some_below bound index found true e some = let there : below bound (pos index) ≡ Some index = rw e refl in cc
some_below bound index found false e some = let none : below bound (pos index) ≡ None = rw e refl in cc

some_by : (types : CTypes) (path : List ℕ) (type : CTy) (index : ℤ) (found : ℕ) → index_below types type index ≡ Some found
    → index_in types (at_type path type) index ≡ at_within types (at_type path type) (found ∷ [])
some_by types path (ty (array element length) is_const) (pos index) found some =
    ap (λ i. at_within types (at_type path (ty (array element length) is_const)) (i ∷ []))
    (some_below (bound_of types element length) index found (nat_lt index (bound_of types element length)) refl some)
some_by types path (ty (array element length) is_const) (negsuc n) found some = cc
some_by types path (ty void is_const) index found some = cc
some_by types path (ty (basic which) is_const) index found some = cc
some_by types path (ty (enum_type number) is_const) index found some = cc
some_by types path (ty (pointer to) is_const) index found some = cc
some_by types path (ty (record_type number) is_const) index found some = cc
some_by types path (ty (function result params variadic) is_const) index found some = cc

pub index_below_is : (types : CTypes) (at : CAt) (index : ℤ) (found : ℕ) → index_below types at.type index ≡ Some found → index_in types at index ≡ at_within types at (found ∷ [])
index_below_is types at index found some = some_by types at.path at.type index found some
