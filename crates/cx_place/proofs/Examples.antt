-- Worked examples of initialisers: what they store, and which part breaks a rule first.
use Rattle.std.proofs.Common.{◌≡◌, ℕ, ℤ, pos, true, false, List, [], ◌∷◌, Option, None, Some, codes, refl}
use Rattle.cr_base.specs.declared.refusal.Place.{Place}
use Rattle.cr_base.specs.declared.rule.Rule.{Rule}
use Rattle.cr_base.specs.declared.rule.Rule.TheVariants.{K12, K21}
use Rattle.cx_core.specs.Conversions.{same_basic}
use Rattle.cx_core.specs.Layouts.{layouts_of}
use Rattle.cx_core.specs.Trees.{CTy, ty, basic, array, pointer, record_type, function, listed, no_types, CMember, CRecord, CTypes, no_types_yet, CExpr, expr, whole, convert, address, object, CPuts, no_puts, more_puts, put}
use Rattle.cx_core.specs.ValidTypes.{holds_const}
use Rattle.cx_core.specs.declared.ty.Basic.TheVariants.{Int, Char}
use Rattle.cx_place.specs.Initialisers.{CGiven, given_value, given_text, given_list}
use Rattle.cx_place.specs.Placing.{puts_placed, first_broken}
use Rattle.cx_place.specs.Views.{CEntry, entries_of}
use Rattle.cx_place.specs.declared.fault.BrokenPart.{BrokenPart}
use Rattle.cx_place.specs.declared.given.To.{To}
use Rattle.cx_place.specs.declared.given.To.TheVariants.{Index, Field}
use Rattle.cx_rules.specs.Initial.{landing, puts_of}
use Rattle.cx_rules.specs.Operands.{constant_of, is_null_constant}
use Rattle.cx_rules.specs.Pairs.{is_assignable}

-- ---- what an example shows

-- a byte, the bit in it, and the number that is stored there, or of the object whose address is
record CHeld : Type 0 where
  byte : ℕ
  bit : ℕ
  number : ℤ

abbrev held : ℕ → ℤ → CHeld
held byte number = record { byte = byte; bit = 0; number = number }

abbrev held_bits : ℕ → ℕ → ℤ → CHeld
held_bits byte bit number = record { byte = byte; bit = bit; number = number }

abbrev number_in : CExpr → ℤ
number_in (expr type place (whole value)) = value
number_in (expr type place (convert value)) = number_in value
number_in (expr type place (address (expr of there (object number)))) = pos number
number_in (expr type place form) = pos 0

abbrev held_by : CPuts → List CHeld
held_by no_puts = []
held_by (more_puts (put spot type value) others) = record { byte = spot.byte; bit = spot.bit; number = number_in value } ∷ held_by others

abbrev holds : CTypes → CTy → CGiven → List CHeld
holds types type given = held_by (puts_placed types type given)

abbrev at_part : Rule → ℕ → Option BrokenPart
at_part rule part = Some (record { rule = rule; part = part })

-- ---- types and values

abbrev here : Place
here = record { unit = 0; line = 1 }

abbrev int : CTy
int = ty (basic Int) false

abbrev char : CTy
char = ty (basic Char) false

abbrev const_char : CTy
const_char = ty (basic Char) true

abbrev to : CTy → CTy
to type = ty (pointer type) false

abbrev array_of : CTy → Option ℕ → CTy
array_of element length = ty (array element length) false

abbrev first_record : CTy
first_record = ty (record_type 0) false

abbrev named : List ℕ → CTy → CMember
named name type = record { name = Some name; type = type; bits = None }

abbrev bits_of : List ℕ → ℕ → CMember
bits_of name width = record { name = Some name; type = int; bits = Some width }

abbrev with_record : CRecord → CTypes
with_record one = record {
  records = Some one ∷ [];
  record_tags = record { tag = None; is_union = one.is_union } ∷ [];
  record_units = 0 ∷ [];
  enums = [];
  enum_units = [];
}

-- `struct { int x[2]; int y; }`
abbrev pair : CTypes
pair = with_record (record { number = 0; tag = None; is_union = false; members = named (codes "x") (array_of int (Some 2)) ∷ named (codes "y") int ∷ [] })

-- `union { int a; char b; }`
abbrev either : CTypes
either = with_record (record { number = 0; tag = None; is_union = true; members = named (codes "a") int ∷ named (codes "b") char ∷ [] })

-- `struct { int a : 3; int : 5; int b : 9; }`
abbrev fields : CTypes
fields = with_record (record { number = 0; tag = None; is_union = false; members = bits_of (codes "a") 3 ∷ record { name = None; type = int; bits = Some 5 } ∷ bits_of (codes "b") 9 ∷ [] })

-- `struct s;`, which isn't completed
abbrev incomplete : CTypes
incomplete = record { records = None ∷ []; record_tags = record { tag = Some (codes "s"); is_union = false } ∷ []; record_units = 0 ∷ []; enums = []; enum_units = [] }

abbrev n : ℕ → CGiven
n value = given_value (expr int here (whole (pos value)))

-- a string literal whose object has the number 7
abbrev text : List ℕ → CGiven
text bytes = given_text bytes 7 here

abbrev list : List CEntry → CGiven
list entries = given_list (entries_of entries)

abbrev next : CGiven → CEntry
next given = record { at = []; given = given }

abbrev at_ : List To → CGiven → CEntry
at_ steps given = record { at = steps; given = given }

-- ---- designators and elided braces (6.7.8p6, p7, p17, p20)

-- `int a[5] = { [3] = 1, 2, [0] = 9 };`
by_designators : holds no_types_yet (array_of int (Some 5)) (list (at_ (Index (pos 3) ∷ []) (n 1) ∷ next (n 2) ∷ at_ (Index (pos 0) ∷ []) (n 9) ∷ [])) ≡ held 0 (pos 9) ∷ held 12 (pos 1) ∷ held 16 (pos 2) ∷ []
unfolding layouts_of same_basic holds_const landing puts_of constant_of is_null_constant is_assignable
by_designators = refl

-- `struct pair s[2] = { { { 1 }, 2 }, 3 };`
elided : holds pair (array_of first_record (Some 2)) (list (next (list (next (list (next (n 1) ∷ [])) ∷ next (n 2) ∷ [])) ∷ next (n 3) ∷ [])) ≡ held 0 (pos 1) ∷ held 8 (pos 2) ∷ held 12 (pos 3) ∷ []
unfolding layouts_of same_basic holds_const landing puts_of constant_of is_null_constant is_assignable
elided = refl

-- `struct pair s = { 1, 2, 3 };`
all_elided : holds pair first_record (list (next (n 1) ∷ next (n 2) ∷ next (n 3) ∷ [])) ≡ held 0 (pos 1) ∷ held 4 (pos 2) ∷ held 8 (pos 3) ∷ []
unfolding layouts_of same_basic holds_const landing puts_of constant_of is_null_constant is_assignable
all_elided = refl

-- `struct pair s = { .y = 5, .x[1] = 6, 7 };`: behind the last element stands the next member
on_behind : holds pair first_record (list (at_ (Field (codes "y") ∷ []) (n 5) ∷ at_ (Field (codes "x") ∷ Index (pos 1) ∷ []) (n 6) ∷ next (n 7) ∷ [])) ≡ held 4 (pos 6) ∷ held 8 (pos 7) ∷ []
unfolding layouts_of same_basic holds_const landing puts_of constant_of is_null_constant is_assignable
on_behind = refl

-- `int a[2][2] = { 1, 2, 3 };`
two_rows : holds no_types_yet (array_of (array_of int (Some 2)) (Some 2)) (list (next (n 1) ∷ next (n 2) ∷ next (n 3) ∷ [])) ≡ held 0 (pos 1) ∷ held 4 (pos 2) ∷ held 8 (pos 3) ∷ []
unfolding layouts_of same_basic holds_const landing puts_of constant_of is_null_constant is_assignable
two_rows = refl

-- `int x = 4;` and `int x = { 4 };`
scalar : holds no_types_yet int (n 4) ≡ held 0 (pos 4) ∷ []
unfolding layouts_of same_basic holds_const landing puts_of constant_of is_null_constant is_assignable
scalar = refl

braced_scalar : holds no_types_yet int (list (next (n 4) ∷ [])) ≡ held 0 (pos 4) ∷ []
unfolding layouts_of same_basic holds_const landing puts_of constant_of is_null_constant is_assignable
braced_scalar = refl

-- `struct fields s = { 1, 2 };`: the unnamed one takes no value
bit_fields : holds fields first_record (list (next (n 1) ∷ next (n 2) ∷ [])) ≡ held 0 (pos 1) ∷ held_bits 1 0 (pos 2) ∷ []
unfolding layouts_of same_basic holds_const landing puts_of constant_of is_null_constant is_assignable
bit_fields = refl

-- ---- what later values take away (6.7.8p19)

-- `int a[2] = { [0] = 1, [0] = 2 };`
overridden : holds no_types_yet (array_of int (Some 2)) (list (at_ (Index (pos 0) ∷ []) (n 1) ∷ at_ (Index (pos 0) ∷ []) (n 2) ∷ [])) ≡ held 0 (pos 2) ∷ []
unfolding layouts_of same_basic holds_const landing puts_of constant_of is_null_constant is_assignable
overridden = refl

-- `struct pair s = { .x[0] = 1, .x = { [1] = 2 }, 3 };`
list_over_element : holds pair first_record (list (at_ (Field (codes "x") ∷ Index (pos 0) ∷ []) (n 1) ∷ at_ (Field (codes "x") ∷ []) (list (at_ (Index (pos 1) ∷ []) (n 2) ∷ [])) ∷ next (n 3) ∷ [])) ≡ held 4 (pos 2) ∷ held 8 (pos 3) ∷ []
unfolding layouts_of same_basic holds_const landing puts_of constant_of is_null_constant is_assignable
list_over_element = refl

-- `struct pair s = { .x = { 1, 2 }, .x[0] = 3 };`
element_over_list : holds pair first_record (list (at_ (Field (codes "x") ∷ []) (list (next (n 1) ∷ next (n 2) ∷ [])) ∷ at_ (Field (codes "x") ∷ Index (pos 0) ∷ []) (n 3) ∷ [])) ≡ held 0 (pos 3) ∷ held 4 (pos 2) ∷ []
unfolding layouts_of same_basic holds_const landing puts_of constant_of is_null_constant is_assignable
element_over_list = refl

-- `union either u = { 1 };`, `{ .b = 7 }` and `{ .a = 1, .b = 2 }`
first_of_union : holds either first_record (list (next (n 1) ∷ [])) ≡ held 0 (pos 1) ∷ []
unfolding layouts_of same_basic holds_const landing puts_of constant_of is_null_constant is_assignable
first_of_union = refl

second_of_union : holds either first_record (list (at_ (Field (codes "b") ∷ []) (n 7) ∷ [])) ≡ held 0 (pos 7) ∷ []
unfolding layouts_of same_basic holds_const landing puts_of constant_of is_null_constant is_assignable
second_of_union = refl

last_of_union : holds either first_record (list (at_ (Field (codes "a") ∷ []) (n 1) ∷ at_ (Field (codes "b") ∷ []) (n 2) ∷ [])) ≡ held 0 (pos 2) ∷ []
unfolding layouts_of same_basic holds_const landing puts_of constant_of is_null_constant is_assignable
last_of_union = refl

-- ---- arrays without length (6.7.8p22)

-- `int a[] = { [2] = 5, 6 };`
without_length : holds no_types_yet (array_of int None) (list (at_ (Index (pos 2) ∷ []) (n 5) ∷ next (n 6) ∷ [])) ≡ held 8 (pos 5) ∷ held 12 (pos 6) ∷ []
unfolding layouts_of same_basic holds_const landing puts_of constant_of is_null_constant is_assignable
without_length = refl

-- ---- string literals (6.7.8p14)

-- `char a[] = "ab";`, `char a[4] = "ab";` and `char a[2] = "ab";`: the zero byte is stored where it has a place
text_without_length : holds no_types_yet (array_of char None) (text (97 ∷ 98 ∷ 0 ∷ [])) ≡ held 0 (pos 97) ∷ held 1 (pos 98) ∷ held 2 (pos 0) ∷ []
unfolding layouts_of same_basic holds_const landing puts_of constant_of is_null_constant is_assignable
text_without_length = refl

text_in_longer : holds no_types_yet (array_of char (Some 4)) (text (97 ∷ 98 ∷ 0 ∷ [])) ≡ held 0 (pos 97) ∷ held 1 (pos 98) ∷ held 2 (pos 0) ∷ []
unfolding layouts_of same_basic holds_const landing puts_of constant_of is_null_constant is_assignable
text_in_longer = refl

text_without_zero : holds no_types_yet (array_of char (Some 2)) (text (97 ∷ 98 ∷ 0 ∷ [])) ≡ held 0 (pos 97) ∷ held 1 (pos 98) ∷ []
unfolding layouts_of same_basic holds_const landing puts_of constant_of is_null_constant is_assignable
text_without_zero = refl

-- `char a[2] = { "a" };` and `char a[2][2] = { "a", "b" };`
text_in_braces : holds no_types_yet (array_of char (Some 2)) (list (next (text (97 ∷ 0 ∷ [])) ∷ [])) ≡ held 0 (pos 97) ∷ held 1 (pos 0) ∷ []
unfolding layouts_of same_basic holds_const landing puts_of constant_of is_null_constant is_assignable
text_in_braces = refl

texts_in_rows : holds no_types_yet (array_of (array_of char (Some 2)) (Some 2)) (list (next (text (97 ∷ 0 ∷ [])) ∷ next (text (98 ∷ 0 ∷ [])) ∷ [])) ≡ held 0 (pos 97) ∷ held 1 (pos 0) ∷ held 2 (pos 98) ∷ held 3 (pos 0) ∷ []
unfolding layouts_of same_basic holds_const landing puts_of constant_of is_null_constant is_assignable
texts_in_rows = refl

-- `char *p = "ab";` is the address of its object
text_as_pointer : holds no_types_yet (to char) (text (97 ∷ 98 ∷ 0 ∷ [])) ≡ held 0 (pos 7) ∷ []
unfolding layouts_of same_basic holds_const landing puts_of constant_of is_null_constant is_assignable
text_as_pointer = refl

-- `const char *p[] = { "ab", 0 };`
texts_as_pointers : holds no_types_yet (array_of (to const_char) None) (list (next (text (97 ∷ 98 ∷ 0 ∷ [])) ∷ next (n 0) ∷ [])) ≡ held 0 (pos 7) ∷ held 8 (pos 0) ∷ []
unfolding layouts_of same_basic holds_const landing puts_of constant_of is_null_constant is_assignable
texts_as_pointers = refl

-- ---- parts that break a rule (6.7.8p2, p3, p7, p11)

-- `int a[2] = { 1, 2, 3 };`
one_too_many : first_broken no_types_yet (array_of int (Some 2)) (list (next (n 1) ∷ next (n 2) ∷ next (n 3) ∷ [])) ≡ at_part K21 2
unfolding layouts_of same_basic holds_const landing puts_of constant_of is_null_constant is_assignable
one_too_many = refl

-- `int a[2] = { [2] = 1 };` and `int a[2] = { 1, [-1] = 1 };`
no_such_element : first_broken no_types_yet (array_of int (Some 2)) (list (at_ (Index (pos 2) ∷ []) (n 1) ∷ [])) ≡ at_part K21 0
unfolding layouts_of same_basic holds_const landing puts_of constant_of is_null_constant is_assignable
no_such_element = refl

-- `struct pair s = { 1, .x[1] = 2, .z = 1 };`: the parts are 1, `.x`, `[1]`, 2 and then `.z`
no_such_member : first_broken pair first_record (list (next (n 1) ∷ at_ (Field (codes "x") ∷ Index (pos 1) ∷ []) (n 2) ∷ at_ (Field (codes "z") ∷ []) (n 1) ∷ [])) ≡ at_part K21 4
unfolding layouts_of same_basic holds_const landing puts_of constant_of is_null_constant is_assignable
no_such_member = refl

-- `int a[2] = { .x = 1 };` and `struct pair s = { [0] = 1 };`
member_of_array : first_broken no_types_yet (array_of int (Some 2)) (list (at_ (Field (codes "x") ∷ []) (n 1) ∷ [])) ≡ at_part K21 0
unfolding layouts_of same_basic holds_const landing puts_of constant_of is_null_constant is_assignable
member_of_array = refl

element_of_record : first_broken pair first_record (list (at_ (Index (pos 0) ∷ []) (n 1) ∷ [])) ≡ at_part K21 0
unfolding layouts_of same_basic holds_const landing puts_of constant_of is_null_constant is_assignable
element_of_record = refl

-- `int a[2][2] = { { 1 }, { 2 }, 3 };`: a list is a part behind those in it
behind_lists : first_broken no_types_yet (array_of (array_of int (Some 2)) (Some 2)) (list (next (list (next (n 1) ∷ [])) ∷ next (list (next (n 2) ∷ [])) ∷ next (n 3) ∷ [])) ≡ at_part K21 4
unfolding layouts_of same_basic holds_const landing puts_of constant_of is_null_constant is_assignable
behind_lists = refl

-- `int a[1] = { 1, { 2 } };`: of a list without a place the first value is the broken part
list_without_place : first_broken no_types_yet (array_of int (Some 1)) (list (next (n 1) ∷ next (list (next (n 2) ∷ [])) ∷ [])) ≡ at_part K21 1
unfolding layouts_of same_basic holds_const landing puts_of constant_of is_null_constant is_assignable
list_without_place = refl

-- `int *p = 1;`, and `int *p = 0;`
number_for_pointer : first_broken no_types_yet (to int) (n 1) ≡ at_part K12 0
unfolding layouts_of same_basic holds_const landing puts_of constant_of is_null_constant is_assignable
number_for_pointer = refl

null_for_pointer : first_broken no_types_yet (to int) (n 0) ≡ None
unfolding layouts_of same_basic holds_const landing puts_of constant_of is_null_constant is_assignable
null_for_pointer = refl

-- `struct pair s = 1;`
number_for_record : first_broken pair first_record (n 1) ≡ at_part K12 0
unfolding layouts_of same_basic holds_const landing puts_of constant_of is_null_constant is_assignable
number_for_record = refl

-- `char a[2] = "abc";` and `char a[4] = { "abc", 1 };`
text_too_long : first_broken no_types_yet (array_of char (Some 2)) (text (97 ∷ 98 ∷ 99 ∷ 0 ∷ [])) ≡ at_part K21 0
unfolding layouts_of same_basic holds_const landing puts_of constant_of is_null_constant is_assignable
text_too_long = refl

text_beside_value : first_broken no_types_yet (array_of char (Some 4)) (list (next (text (97 ∷ 98 ∷ 99 ∷ 0 ∷ [])) ∷ next (n 1) ∷ [])) ≡ at_part K12 0
unfolding layouts_of same_basic holds_const landing puts_of constant_of is_null_constant is_assignable
text_beside_value = refl

-- `int x = "ab";`
text_for_number : first_broken no_types_yet int (text (97 ∷ 98 ∷ 0 ∷ [])) ≡ at_part K12 0
unfolding layouts_of same_basic holds_const landing puts_of constant_of is_null_constant is_assignable
text_for_number = refl

-- of an object of incomplete type, or of function type
value_of_incomplete : first_broken incomplete first_record (n 1) ≡ at_part K21 0
unfolding layouts_of same_basic holds_const landing puts_of constant_of is_null_constant is_assignable
value_of_incomplete = refl

list_of_incomplete : first_broken incomplete first_record (list (next (n 1) ∷ [])) ≡ at_part K21 0
unfolding layouts_of same_basic holds_const landing puts_of constant_of is_null_constant is_assignable
list_of_incomplete = refl

of_function : first_broken no_types_yet (ty (function int (listed no_types) false) false) (n 1) ≡ at_part K21 0
unfolding layouts_of same_basic holds_const landing puts_of constant_of is_null_constant is_assignable
of_function = refl
