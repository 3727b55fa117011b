-- Worked examples of formats: what gcc's programs print, and what doesn't fit. tests/printf_rows.py prints this file.
use Rattle.std.proofs.Common.{◌≡◌, ℕ, ℤ, pos, negsuc, true, false, List, [], ◌∷◌, Some, None, codes, refl}
use Rattle.std.specs.Fmt.{digits}
use Rattle.cr_base.specs.declared.scalar.Scalar.TheVariants.{Whole as Integer}
use Rattle.ext_calls.specs.declared.call.Arg.{Arg}
use Rattle.ext_calls.specs.declared.call.Arg.TheVariants.{Whole, Text as TextArg}
use Rattle.std_host.specs.Formats.{formatted}

abbrev int : ℤ → Arg
int value = Whole (Integer 32 true) value

abbrev unsigned : ℤ → Arg
unsigned value = Whole (Integer 32 false) value

abbrev long : ℤ → Arg
long value = Whole (Integer 64 true) value

abbrev unsigned_long : ℤ → Arg
unsigned_long value = Whole (Integer 64 false) value

abbrev text : List ℕ → Arg
text bytes = TextArg bytes

nothing : formatted [] [] ≡ Some []
unfolding digits
nothing = refl

plain_text : formatted (codes "no conversion") [] ≡ Some (codes "no conversion")
unfolding digits
plain_text = refl

newline : formatted (97 ∷ 10 ∷ []) [] ≡ Some (97 ∷ 10 ∷ [])
unfolding digits
newline = refl

percent : formatted (codes "100%%") [] ≡ Some (codes "100%")
unfolding digits
percent = refl

two_percents : formatted (codes "%%%%") [] ≡ Some (codes "%%")
unfolding digits
two_percents = refl

percent_and_letter : formatted (codes "%%d") [] ≡ Some (codes "%d")
unfolding digits
percent_and_letter = refl

d_zero : formatted (codes "%d") (int (pos 0) ∷ []) ≡ Some (codes "0")
unfolding digits
d_zero = refl

d_least : formatted (codes "%d") (int (negsuc 2147483647) ∷ []) ≡ Some (codes "-2147483648")
unfolding digits
d_least = refl

d_greatest : formatted (codes "%d") (int (pos 2147483647) ∷ []) ≡ Some (codes "2147483647")
unfolding digits
d_greatest = refl

d_minus_one : formatted (codes "%d") (int (negsuc 0) ∷ []) ≡ Some (codes "-1")
unfolding digits
d_minus_one = refl

d_ten : formatted (codes "%d") (int (pos 10) ∷ []) ≡ Some (codes "10")
unfolding digits
d_ten = refl

d_of_unsigned : formatted (codes "%d") (unsigned (pos 4294967295) ∷ []) ≡ Some (codes "-1")
unfolding digits
d_of_unsigned = refl

d_of_unsigned_half : formatted (codes "%d") (unsigned (pos 2147483648) ∷ []) ≡ Some (codes "-2147483648")
unfolding digits
d_of_unsigned_half = refl

i_minus : formatted (codes "%i") (int (negsuc 304) ∷ []) ≡ Some (codes "-305")
unfolding digits
i_minus = refl

u_zero : formatted (codes "%u") (unsigned (pos 0) ∷ []) ≡ Some (codes "0")
unfolding digits
u_zero = refl

u_greatest : formatted (codes "%u") (unsigned (pos 4294967295) ∷ []) ≡ Some (codes "4294967295")
unfolding digits
u_greatest = refl

u_of_minus_one : formatted (codes "%u") (int (negsuc 0) ∷ []) ≡ Some (codes "4294967295")
unfolding digits
u_of_minus_one = refl

u_of_least : formatted (codes "%u") (int (negsuc 2147483647) ∷ []) ≡ Some (codes "2147483648")
unfolding digits
u_of_least = refl

x_zero : formatted (codes "%x") (unsigned (pos 0) ∷ []) ≡ Some (codes "0")
unfolding digits
x_zero = refl

x_ten : formatted (codes "%x") (int (pos 10) ∷ []) ≡ Some (codes "a")
unfolding digits
x_ten = refl

x_sixteen : formatted (codes "%x") (unsigned (pos 16) ∷ []) ≡ Some (codes "10")
unfolding digits
x_sixteen = refl

x_digits : formatted (codes "%x") (unsigned (pos 2427178479) ∷ []) ≡ Some (codes "90abcdef")
unfolding digits
x_digits = refl

x_greatest : formatted (codes "%x") (unsigned (pos 4294967295) ∷ []) ≡ Some (codes "ffffffff")
unfolding digits
x_greatest = refl

x_of_minus_one : formatted (codes "%x") (int (negsuc 0) ∷ []) ≡ Some (codes "ffffffff")
unfolding digits
x_of_minus_one = refl

c_letter : formatted (codes "%c") (int (pos 65) ∷ []) ≡ Some (codes "A")
unfolding digits
c_letter = refl

c_zero : formatted (codes "%c") (int (pos 0) ∷ []) ≡ Some (0 ∷ [])
unfolding digits
c_zero = refl

c_wrapped : formatted (codes "%c") (int (pos 321) ∷ []) ≡ Some (codes "A")
unfolding digits
c_wrapped = refl

c_minus_one : formatted (codes "%c") (int (negsuc 0) ∷ []) ≡ Some (255 ∷ [])
unfolding digits
c_minus_one = refl

c_of_unsigned : formatted (codes "%c") (unsigned (pos 4294967138) ∷ []) ≡ Some (codes "b")
unfolding digits
c_of_unsigned = refl

ld_zero : formatted (codes "%ld") (long (pos 0) ∷ []) ≡ Some (codes "0")
unfolding digits
ld_zero = refl

ld_least : formatted (codes "%ld") (long (negsuc 9223372036854775807) ∷ []) ≡ Some (codes "-9223372036854775808")
unfolding digits
ld_least = refl

ld_greatest : formatted (codes "%ld") (long (pos 9223372036854775807) ∷ []) ≡ Some (codes "9223372036854775807")
unfolding digits
ld_greatest = refl

ld_of_unsigned : formatted (codes "%ld") (unsigned_long (pos 18446744073709551614) ∷ []) ≡ Some (codes "-2")
unfolding digits
ld_of_unsigned = refl

lu_greatest : formatted (codes "%lu") (unsigned_long (pos 18446744073709551615) ∷ []) ≡ Some (codes "18446744073709551615")
unfolding digits
lu_greatest = refl

lu_of_minus_one : formatted (codes "%lu") (long (negsuc 0) ∷ []) ≡ Some (codes "18446744073709551615")
unfolding digits
lu_of_minus_one = refl

lu_past_int : formatted (codes "%lu") (unsigned_long (pos 4294967296) ∷ []) ≡ Some (codes "4294967296")
unfolding digits
lu_past_int = refl

lx_zero : formatted (codes "%lx") (unsigned_long (pos 0) ∷ []) ≡ Some (codes "0")
unfolding digits
lx_zero = refl

lx_digits : formatted (codes "%lx") (unsigned_long (pos 18364758544493064720) ∷ []) ≡ Some (codes "fedcba9876543210")
unfolding digits
lx_digits = refl

lx_of_minus_one : formatted (codes "%lx") (long (negsuc 0) ∷ []) ≡ Some (codes "ffffffffffffffff")
unfolding digits
lx_of_minus_one = refl

s_empty : formatted (codes "%s") (text [] ∷ []) ≡ Some []
unfolding digits
s_empty = refl

s_text : formatted (codes "%s") (text (codes "text") ∷ []) ≡ Some (codes "text")
unfolding digits
s_text = refl

s_with_percent : formatted (codes "%s") (text (codes "%d%") ∷ []) ≡ Some (codes "%d%")
unfolding digits
s_with_percent = refl

s_bytes : formatted (codes "%s") (text (255 ∷ 128 ∷ 1 ∷ []) ∷ []) ≡ Some (255 ∷ 128 ∷ 1 ∷ [])
unfolding digits
s_bytes = refl

number_and_text : formatted (37 ∷ 100 ∷ 32 ∷ 37 ∷ 115 ∷ 10 ∷ []) (int (pos 65) ∷ text (codes "x") ∷ []) ≡ Some (54 ∷ 53 ∷ 32 ∷ 120 ∷ 10 ∷ [])
unfolding digits
number_and_text = refl

text_between : formatted (codes "<%s|%c|%s>") (text (codes "a") ∷ int (pos 98) ∷ text (codes "c") ∷ []) ≡ Some (codes "<a|b|c>")
unfolding digits
text_between = refl

all_kinds : formatted (codes "%d%i%u%x%c%ld%lu%lx%s%%") (int (negsuc 0) ∷ int (pos 2) ∷ unsigned (pos 3) ∷ unsigned (pos 26) ∷ int (pos 44) ∷ long (negsuc 4) ∷ unsigned_long (pos 6) ∷ unsigned_long (pos 27) ∷ text (codes "!") ∷ []) ≡ Some (codes "-1231a,-561b!%")
unfolding digits
all_kinds = refl

beside_each_other : formatted (codes "%d%d%d") (int (pos 1) ∷ int (negsuc 1) ∷ int (pos 3) ∷ []) ≡ Some (codes "1-23")
unfolding digits
beside_each_other = refl

long_letter_behind : formatted (codes "%ldd") (long (pos 7) ∷ []) ≡ Some (codes "7d")
unfolding digits
long_letter_behind = refl

percent_first : formatted (codes "%%%d%%") (int (pos 5) ∷ []) ≡ Some (codes "%5%")
unfolding digits
percent_first = refl

argument_missing : formatted (codes "%d") [] ≡ None
unfolding digits
argument_missing = refl

second_argument_missing : formatted (codes "%d%d") (int (pos 1) ∷ []) ≡ None
unfolding digits
second_argument_missing = refl

argument_left_over : formatted [] (int (pos 1) ∷ []) ≡ None
unfolding digits
argument_left_over = refl

second_argument_left_over : formatted (codes "%d") (int (pos 1) ∷ int (pos 2) ∷ []) ≡ None
unfolding digits
second_argument_left_over = refl

percent_takes_none : formatted (codes "%%") (int (pos 1) ∷ []) ≡ None
unfolding digits
percent_takes_none = refl

d_of_long : formatted (codes "%d") (long (pos 1) ∷ []) ≡ None
unfolding digits
d_of_long = refl

u_of_long : formatted (codes "%u") (unsigned_long (pos 1) ∷ []) ≡ None
unfolding digits
u_of_long = refl

x_of_long : formatted (codes "%x") (long (pos 1) ∷ []) ≡ None
unfolding digits
x_of_long = refl

c_of_long : formatted (codes "%c") (long (pos 65) ∷ []) ≡ None
unfolding digits
c_of_long = refl

ld_of_int : formatted (codes "%ld") (int (pos 1) ∷ []) ≡ None
unfolding digits
ld_of_int = refl

lu_of_int : formatted (codes "%lu") (unsigned (pos 1) ∷ []) ≡ None
unfolding digits
lu_of_int = refl

lx_of_int : formatted (codes "%lx") (int (pos 1) ∷ []) ≡ None
unfolding digits
lx_of_int = refl

d_of_text : formatted (codes "%d") (text (codes "1") ∷ []) ≡ None
unfolding digits
d_of_text = refl

c_of_text : formatted (codes "%c") (text (codes "c") ∷ []) ≡ None
unfolding digits
c_of_text = refl

ld_of_text : formatted (codes "%ld") (text (codes "1") ∷ []) ≡ None
unfolding digits
ld_of_text = refl

s_of_int : formatted (codes "%s") (int (pos 0) ∷ []) ≡ None
unfolding digits
s_of_int = refl

s_of_long : formatted (codes "%s") (long (pos 0) ∷ []) ≡ None
unfolding digits
s_of_long = refl

lone_percent : formatted (codes "%") [] ≡ None
unfolding digits
lone_percent = refl

percent_at_the_end : formatted (codes "%d%") (int (pos 1) ∷ []) ≡ None
unfolding digits
percent_at_the_end = refl

l_at_the_end : formatted (codes "%l") (long (pos 1) ∷ []) ≡ None
unfolding digits
l_at_the_end = refl

unknown_letter : formatted (codes "%q") (int (pos 1) ∷ []) ≡ None
unfolding digits
unknown_letter = refl

octal : formatted (codes "%o") (unsigned (pos 1) ∷ []) ≡ None
unfolding digits
octal = refl

upper_hexadecimal : formatted (codes "%X") (unsigned (pos 1) ∷ []) ≡ None
unfolding digits
upper_hexadecimal = refl

pointer : formatted (codes "%p") (text (codes "a") ∷ []) ≡ None
unfolding digits
pointer = refl

width : formatted (codes "%5d") (int (pos 1) ∷ []) ≡ None
unfolding digits
width = refl

precision : formatted (codes "%.2s") (text (codes "abc") ∷ []) ≡ None
unfolding digits
precision = refl

flag : formatted (codes "%-d") (int (pos 1) ∷ []) ≡ None
unfolding digits
flag = refl

long_i : formatted (codes "%li") (long (pos 1) ∷ []) ≡ None
unfolding digits
long_i = refl

long_c : formatted (codes "%lc") (long (pos 65) ∷ []) ≡ None
unfolding digits
long_c = refl

long_s : formatted (codes "%ls") (text (codes "a") ∷ []) ≡ None
unfolding digits
long_s = refl

long_long : formatted (codes "%lld") (long (pos 1) ∷ []) ≡ None
unfolding digits
long_long = refl

half : formatted (codes "%hd") (int (pos 1) ∷ []) ≡ None
unfolding digits
half = refl

blank : formatted (codes "% d") (int (pos 1) ∷ []) ≡ None
unfolding digits
blank = refl

count_written : formatted (codes "%n") (text (codes "a") ∷ []) ≡ None
unfolding digits
count_written = refl

long_percent : formatted (codes "%l%") [] ≡ None
unfolding digits
long_percent = refl
