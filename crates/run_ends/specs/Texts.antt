-- The words by which reports name undefined steps of C and wrong steps of Rust.
use Rattle.std.specs.Prelude.{ℕ, List, codes}
use Rattle.cr_base.specs.declared.rule.URule.{URule}
use Rattle.cr_base.specs.declared.rule.URule.TheVariants.{U1, U2, U3, U4, U5, U6, U7, U8, U9, U10, U11, U12, U13, U14, U15, U16}
use Rattle.rs_mean.specs.declared.cause.Cause.{Cause}
use Rattle.rs_mean.specs.declared.cause.Cause.TheVariants.{Overflow, Divisor, Shift, Dead, Outside, Unset, BadBool, MixedPointer, Misaligned, Offset, Apart, NoneCall, WrongCall, BadFree, Overlap}

-- the code of a rule by which a step is undefined
unfoldable pub code_of : URule → List ℕ
code_of U1 = codes "U1"
code_of U2 = codes "U2"
code_of U3 = codes "U3"
code_of U4 = codes "U4"
code_of U5 = codes "U5"
code_of U6 = codes "U6"
code_of U7 = codes "U7"
code_of U8 = codes "U8"
code_of U9 = codes "U9"
code_of U10 = codes "U10"
code_of U11 = codes "U11"
code_of U12 = codes "U12"
code_of U13 = codes "U13"
code_of U14 = codes "U14"
code_of U15 = codes "U15"
code_of U16 = codes "U16"

-- its words
unfoldable pub words_of : URule → List ℕ
words_of U1 = codes "unsequenced conflict"
words_of U2 = codes "overflow"
words_of U3 = codes "division"
words_of U4 = codes "shift"
words_of U5 = codes "dead object"
words_of U6 = codes "outside an object"
words_of U7 = codes "unset bits read"
words_of U8 = codes "bad truth value"
words_of U9 = codes "pointer bytes"
words_of U10 = codes "misaligned"
words_of U11 = codes "pointer arithmetic"
words_of U12 = codes "pointer comparison"
words_of U13 = codes "call"
words_of U14 = codes "missing value"
words_of U15 = codes "free"
words_of U16 = codes "overlap"

-- the words of a cause by which a step is wrong
unfoldable pub cause_of : Cause → List ℕ
cause_of Overflow = codes "overflow"
cause_of Divisor = codes "divisor"
cause_of Shift = codes "shift"
cause_of Dead = codes "dead"
cause_of Outside = codes "outside"
cause_of Unset = codes "unset"
cause_of BadBool = codes "bad bool"
cause_of MixedPointer = codes "mixed pointer"
cause_of Misaligned = codes "misaligned"
cause_of Offset = codes "offset"
cause_of Apart = codes "apart"
cause_of NoneCall = codes "none call"
cause_of WrongCall = codes "wrong call"
cause_of BadFree = codes "bad free"
cause_of Overlap = codes "overlap"
