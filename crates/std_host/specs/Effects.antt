-- What the functions do that the standard host knows (ISO C99, 7.19.6.3, 7.19.7.6, 7.19.7.9 and 7.19.7.10).
use Rattle.std.specs.Prelude.{ℕ, Bool, if◌then◌else◌, ℤ, pos, negsuc, List, [], ◌∷◌, ◌++◌, length, Option, None, Some, option_map, is_some, bytes_eq, codes, ⊤}
use Rattle.cr_base.specs.Scalar.{residue}
use Rattle.ext_calls.specs.declared.call.Arg.{Arg}
use Rattle.ext_calls.specs.declared.call.Arg.TheVariants.{Whole, Text as TextArg}
use Rattle.ext_calls.specs.declared.call.Call.{Call}
use Rattle.std_host.specs.Formats.{formatted}
use Rattle.std_host.specs.declared.effect.Effect.{Effect}
use Rattle.std_host.specs.declared.effect.Effect.TheVariants.{WritesByte, WritesText, Reads}
use Rattle.std_host.specs.declared.function.Function.{Function}
use Rattle.std_host.specs.declared.function.Function.TheVariants.{Putchar, Puts, Getchar, Printf}

-- ---- what each function does with its arguments; none where they don't fit

-- `putchar` takes one number and writes it modulo 256
abbrev pub putchar_effect : List Arg → Option Effect
putchar_effect [] = None
putchar_effect (Whole scalar value ∷ []) = Some (WritesByte (residue value 256))
putchar_effect (Whole scalar value ∷ (next ∷ more)) = None
putchar_effect (TextArg text ∷ more) = None

-- `puts` takes one text and writes it with a newline, which is 10
abbrev pub puts_effect : List Arg → Option Effect
puts_effect [] = None
puts_effect (TextArg text ∷ []) = Some (WritesText (text ++ 10 ∷ []))
puts_effect (TextArg text ∷ (next ∷ more)) = None
puts_effect (Whole scalar value ∷ more) = None

-- `getchar` takes nothing and reads one byte
abbrev pub getchar_effect : List Arg → Option Effect
getchar_effect [] = Some Reads
getchar_effect (arg ∷ args) = None

-- `printf` takes a text, the format, and the arguments that it asks for
abbrev pub printf_effect : List Arg → Option Effect
printf_effect [] = None
printf_effect (TextArg form ∷ args) = option_map WritesText (formatted form args)
printf_effect (Whole scalar value ∷ args) = None

-- ---- calls

-- which function a name means
abbrev pub function_named : List ℕ → Option Function
function_named name =
    if bytes_eq name (codes "putchar") then Some Putchar else
    (if bytes_eq name (codes "puts") then Some Puts else
    (if bytes_eq name (codes "getchar") then Some Getchar else
    (if bytes_eq name (codes "printf") then Some Printf else None)))

abbrev pub effect_with : Option Function → List Arg → Option Effect
effect_with None args = None
effect_with (Some Putchar) args = putchar_effect args
effect_with (Some Puts) args = puts_effect args
effect_with (Some Getchar) args = getchar_effect args
effect_with (Some Printf) args = printf_effect args

-- what a call does; none where its name isn't one of the four or its arguments don't fit
abbrev pub effect_of : Call → Option Effect
effect_of call = effect_with (function_named call.name) call.args

-- the host takes exactly the calls that do something
abbrev pub is_taken : Call → Bool
is_taken call = is_some (effect_of call)

-- ---- what effects write, and the answers to them

-- the bytes that an effect writes
abbrev pub written_by : Effect → List ℕ
written_by (WritesByte byte) = byte ∷ []
written_by (WritesText text) = text
written_by Reads = []

-- the answer to a call that writes one byte is that byte, and to one that writes a text the count of its bytes
abbrev pub count_of : List ℕ → ℤ
count_of text = pos (length text)

-- the answer to a call that reads: the byte that was read, from 0 to 255, or -1 at the end
abbrev pub answer_read : Option ℕ → ℤ
answer_read None = negsuc 0
answer_read (Some byte) = pos byte

-- a name is of a function that needs memory for what it writes
abbrev pub NeedsMemory : Option Function → Type 0
NeedsMemory None = ⊥
NeedsMemory (Some Putchar) = ⊥
NeedsMemory (Some Puts) = ⊤
NeedsMemory (Some Getchar) = ⊥
NeedsMemory (Some Printf) = ⊤
