-- Worked examples of calls: what each does, and what calls write together.
use Rattle.std.proofs.Common.{◌≡◌, ℕ, ℤ, pos, negsuc, true, false, List, [], ◌∷◌, ◌++◌, Some, None, codes, refl}
use Rattle.std.specs.Fmt.{digits}
use Rattle.cr_base.specs.declared.scalar.Scalar.TheVariants.{Truth, Whole as Integer}
use Rattle.ext_calls.specs.declared.call.Arg.{Arg}
use Rattle.ext_calls.specs.declared.call.Arg.TheVariants.{Whole, Text as TextArg}
use Rattle.ext_calls.specs.declared.call.Call.{Call}
use Rattle.std_host.specs.Effects.{effect_of, is_taken, count_of, answer_read}
use Rattle.std_host.specs.Output.{output_of, out_of}
use Rattle.std_host.specs.declared.effect.Effect.TheVariants.{WritesByte, WritesText, Reads}

abbrev int : ℤ → Arg
int value = Whole (Integer 32 true) value

abbrev call : List ℕ → List Arg → Call
call name args = record { name = name; args = args }

abbrev putchar : ℤ → Call
putchar value = call (codes "putchar") (int value ∷ [])

abbrev puts : List ℕ → Call
puts text = call (codes "puts") (TextArg text ∷ [])

abbrev getchar : Call
getchar = call (codes "getchar") []

abbrev printf : List ℕ → List Arg → Call
printf form args = call (codes "printf") (TextArg form ∷ args)

-- ---- putchar writes its argument modulo 256

letter : effect_of (putchar (pos 65)) ≡ Some (WritesByte 65)
letter = refl

past_a_byte : effect_of (putchar (pos 256)) ≡ Some (WritesByte 0)
past_a_byte = refl

below_zero : effect_of (putchar (negsuc 0)) ≡ Some (WritesByte 255)
below_zero = refl

far_below_zero : effect_of (putchar (negsuc 300)) ≡ Some (WritesByte 211)
far_below_zero = refl

of_any_type : effect_of (call (codes "putchar") (Whole Truth (pos 1) ∷ [])) ≡ Some (WritesByte 1)
of_any_type = refl

of_long : effect_of (call (codes "putchar") (Whole (Integer 64 false) (pos 4294967361) ∷ [])) ≡ Some (WritesByte 65)
of_long = refl

putchar_without : is_taken (call (codes "putchar") []) ≡ false
putchar_without = refl

putchar_with_two : is_taken (call (codes "putchar") (int (pos 1) ∷ int (pos 2) ∷ [])) ≡ false
putchar_with_two = refl

putchar_of_text : is_taken (call (codes "putchar") (TextArg (codes "a") ∷ [])) ≡ false
putchar_of_text = refl

-- ---- puts writes a text and a newline

line : effect_of (puts (codes "ab")) ≡ Some (WritesText (97 ∷ 98 ∷ 10 ∷ []))
line = refl

empty_line : effect_of (puts []) ≡ Some (WritesText (10 ∷ []))
empty_line = refl

line_is_counted : count_of (codes "ab" ++ 10 ∷ []) ≡ pos 3
line_is_counted = refl

puts_without : is_taken (call (codes "puts") []) ≡ false
puts_without = refl

puts_of_number : is_taken (call (codes "puts") (int (pos 1) ∷ [])) ≡ false
puts_of_number = refl

puts_with_two : is_taken (call (codes "puts") (TextArg [] ∷ TextArg [] ∷ [])) ≡ false
puts_with_two = refl

-- ---- getchar reads

reading : effect_of getchar ≡ Some Reads
reading = refl

getchar_with_one : is_taken (call (codes "getchar") (int (pos 0) ∷ [])) ≡ false
getchar_with_one = refl

read_byte : answer_read (Some 255) ≡ pos 255
read_byte = refl

read_end : answer_read None ≡ negsuc 0
read_end = refl

-- ---- printf

printed_number : effect_of (printf (codes "%d %s") (int (pos 65) ∷ TextArg (codes "x") ∷ [])) ≡ Some (WritesText (codes "65 x"))
unfolding digits
printed_number = refl

printf_without : is_taken (call (codes "printf") []) ≡ false
printf_without = refl

printf_of_number : is_taken (call (codes "printf") (int (pos 0) ∷ [])) ≡ false
printf_of_number = refl

printf_without_argument : is_taken (printf (codes "%d") []) ≡ false
printf_without_argument = refl

-- ---- other names

unknown : is_taken (call (codes "fputs") (TextArg [] ∷ [])) ≡ false
unknown = refl

no_name : is_taken (call [] []) ≡ false
no_name = refl

longer_name : is_taken (call (codes "putchars") (int (pos 65) ∷ [])) ≡ false
longer_name = refl

shorter_name : is_taken (call (codes "print") (TextArg [] ∷ [])) ≡ false
shorter_name = refl

-- ---- what calls write together

no_calls : out_of [] ≡ Some []
no_calls = refl

several : out_of (putchar (pos 62) ∷ getchar ∷ printf (codes "%d,") (int (negsuc 6) ∷ []) ∷ puts (codes "b") ∷ []) ≡ Some (62 ∷ 45 ∷ 55 ∷ 44 ∷ 98 ∷ 10 ∷ [])
unfolding digits
several = refl

reads_write_nothing : output_of getchar ≡ Some []
reads_write_nothing = refl

one_unknown : out_of (putchar (pos 65) ∷ call (codes "abs") (int (pos 1) ∷ []) ∷ putchar (pos 66) ∷ []) ≡ None
one_unknown = refl
