-- Worked examples of compatible types, in one unit and in two.
use Rattle.std.proofs.Common.{◌≡◌, ℕ, Bool, true, false, List, [], ◌∷◌, Option, Some, None, refl, codes}
use Rattle.cx_core.specs.declared.compatibility.RecordPair.{RecordPair}
use Rattle.cx_core.specs.declared.ty.Basic.TheVariants.{Char, Int, Unsigned, Long}
use Rattle.cx_core.specs.Compatible.{agree, is_good, in_pairs, AreCompatible}
use Rattle.cx_core.specs.Conversions.{same_basic as same}
use Rattle.cx_core.specs.Trees.{CTy, ty, basic, enum_type, pointer, array, record_type, function, unlisted, listed, CTys, no_types, more_types, CMember, CRecord, CRecordTag, CTypes}

abbrev int_type : CTy
int_type = ty (basic Int) false

abbrev char_type : CTy
char_type = ty (basic Char) false

abbrev to : CTy → CTy
to type = ty (pointer type) false

abbrev member_named : List ℕ → CTy → CMember
member_named name type = record { name = Some name; type = type; bits = None }

abbrev in_bits : Option (List ℕ) → CTy → ℕ → CMember
in_bits name type width = record { name = name; type = type; bits = Some width }

abbrev completed : Bool → ℕ → List ℕ → List CMember → Option CRecord
completed is_union number tag members = Some (record { number = number; tag = Some tag; is_union = is_union; members = members })

abbrev tagged : Bool → List ℕ → CRecordTag
tagged is_union tag = record { tag = Some tag; is_union = is_union }

abbrev holds : ℕ → CTy
holds number = ty (record_type number) false

-- in both units:     struct node { struct node *next; enum { A } kind; };     union u { .. };     and in unit 0 struct part { int x; };
-- in unit 0:         union u { int a; int : 3; char b; int : 5; };
-- in unit 1:         union u { char b; int : 5; int : 3; int a; };     struct part;
-- records 0, 1, 2 are of unit 0, and 3, 4, 5 of unit 1, as is 6: struct part with other members
abbrev node_members : ℕ → ℕ → List CMember
node_members number enum = member_named (codes "next") (to (holds number)) ∷ member_named (codes "kind") (ty (enum_type enum) false) ∷ []

abbrev two_units : CTypes
two_units = record {
  records =
      completed false 0 (codes "node") (node_members 0 0)
      ∷ completed true 1 (codes "u") (member_named (codes "a") int_type ∷ in_bits None int_type 3 ∷ member_named (codes "b") char_type ∷ in_bits None int_type 5 ∷ [])
      ∷ completed false 2 (codes "part") (member_named (codes "x") int_type ∷ [])
      ∷ completed false 3 (codes "node") (node_members 3 1)
      ∷ completed true 4 (codes "u") (member_named (codes "b") char_type ∷ in_bits None int_type 5 ∷ in_bits None int_type 3 ∷ member_named (codes "a") int_type ∷ [])
      ∷ None
      ∷ completed false 6 (codes "part") (member_named (codes "x") char_type ∷ [])
      ∷ [];
  record_tags = tagged false (codes "node") ∷ tagged true (codes "u") ∷ tagged false (codes "part")
      ∷ tagged false (codes "node") ∷ tagged true (codes "u") ∷ tagged false (codes "part") ∷ tagged false (codes "part") ∷ [];
  record_units = 0 ∷ 0 ∷ 0 ∷ 1 ∷ 1 ∷ 1 ∷ 1 ∷ [];
  enums = true ∷ true ∷ false ∷ true ∷ [];
  enum_units = 0 ∷ 1 ∷ 1 ∷ 1 ∷ [];
}

abbrev pair : ℕ → ℕ → RecordPair
pair first second = record { first = first; second = second }

-- what counts without any pair
abbrev alone : CTy → CTy → Bool
alone = agree two_units (in_pairs [])

-- `struct node` of both units: the pair by itself is a good set
nodes_good : is_good two_units (pair 0 3 ∷ []) ≡ true
unfolding same
nodes_good = refl

nodes_compatible : AreCompatible two_units (to (holds 0)) (to (holds 3))
unfolding same
nodes_compatible = record { pairs = pair 0 3 ∷ []; good = refl; meet = refl }

-- the members of two unions may stand in another order
unions_good : is_good two_units (pair 1 4 ∷ []) ≡ true
unfolding same
unions_good = refl

-- a record that one unit doesn't complete goes with that of the other, and other members don't
incomplete_good : is_good two_units (pair 2 5 ∷ []) ≡ true
unfolding same
incomplete_good = refl

other_members : is_good two_units (pair 2 6 ∷ []) ≡ false
unfolding same
other_members = refl

-- another kind, another tag, and two records of one unit
other_kind : is_good two_units (pair 1 5 ∷ []) ≡ false
other_kind = refl

other_tag : is_good two_units (pair 2 3 ∷ []) ≡ false
other_tag = refl

one_unit : is_good two_units (pair 5 6 ∷ []) ≡ false
one_unit = refl

-- enumerated types of two units, where both are `int`, and where one is `unsigned int`; two of one unit
enums_compatible : alone (ty (enum_type 0) false) (ty (enum_type 1) false) ≡ true
unfolding same
enums_compatible = refl

unsigned_enum : alone (ty (enum_type 0) false) (ty (enum_type 2) false) ≡ false
unfolding same
unsigned_enum = refl

enums_of_one_unit : alone (ty (enum_type 1) false) (ty (enum_type 3) false) ≡ false
enums_of_one_unit = refl

enum_and_int : alone (ty (enum_type 0) false) int_type ≡ true
unfolding same
enum_and_int = refl

enum_and_unsigned : alone (ty (enum_type 0) false) (ty (basic Unsigned) false) ≡ false
unfolding same
enum_and_unsigned = refl

-- `int[3]` and `int[]`, `int[4]`; `const char *` and `char *`
open_array : alone (ty (array int_type (Some 3)) false) (ty (array int_type None) false) ≡ true
unfolding same
open_array = refl

longer_array : alone (ty (array int_type (Some 3)) false) (ty (array int_type (Some 4)) false) ≡ false
unfolding same
longer_array = refl

const_pointee : alone (to (ty (basic Char) true)) (to char_type) ≡ false
const_pointee = refl

abbrev takes : CTys → Bool → CTy
takes types variadic = ty (function int_type (listed types) variadic) false

abbrev takes_any : CTy
takes_any = ty (function int_type unlisted false) false

-- `int f()` goes with `int f(long)` and `int f(enum e)`, and not with `int f(char)` or `int f(int, ...)`
unlisted_long : alone takes_any (takes (more_types (ty (basic Long) false) no_types) false) ≡ true
unfolding same
unlisted_long = refl

unlisted_enum : alone (takes (more_types (ty (enum_type 0) false) no_types) false) takes_any ≡ true
unfolding same
unlisted_enum = refl

unlisted_char : alone takes_any (takes (more_types char_type no_types) false) ≡ false
unfolding same
unlisted_char = refl

unlisted_variadic : alone takes_any (takes (more_types int_type no_types) true) ≡ false
unfolding same
unlisted_variadic = refl

-- a qualifier of a parameter doesn't count, and their number does
const_param : alone (takes (more_types (ty (basic Int) true) no_types) false) (takes (more_types int_type no_types) false) ≡ true
unfolding same
const_param = refl

more_params : alone (takes (more_types int_type no_types) false) (takes no_types false) ≡ false
unfolding same
more_params = refl
