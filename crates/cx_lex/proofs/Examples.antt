-- Worked examples: what files spell, and the first rule that they break.
use Rattle.std.proofs.Common.{◌≡◌, ℕ, [], ◌∷◌, ◌++◌, Some, None, codes, refl, negsuc}
use Rattle.cr_base.specs.declared.rule.Rule.TheVariants.{X1, X2, X3, X4, X5, X6, X7, X8, O1, O2, O12}
use Rattle.cx_lex.specs.declared.token.Token.{Token}
use Rattle.cx_lex.specs.declared.token.TokenKind.{TokenKind}
use Rattle.cx_lex.specs.declared.token.TokenKind.TheVariants.{Word, Key, Number, Letter, Text, Mark}
use Rattle.cx_lex.specs.declared.token.Ty0.TheVariants as ty
use Rattle.cx_lex.specs.declared.token.Keyword.TheVariants as key
use Rattle.cx_lex.specs.declared.token.Punct.TheVariants as punct
use Rattle.cx_lex.specs.Marks.{marks}
use Rattle.cx_lex.specs.Words.{keywords, floating_words, gnu_words, builtin_prefix}
use Rattle.cx_lex.specs.Tokens.{token_fault, piece_at, Spells, at_end, behind_space, behind_token}

pub zero_byte : token_fault ((0 ∷ [])) ≡ Some (X1, 1)
unfolding token_fault piece_at marks keywords floating_words gnu_words builtin_prefix
zero_byte = refl

pub open_string : token_fault (codes "char *s = \"ab") ≡ Some (X2, 1)
unfolding token_fault piece_at marks keywords floating_words gnu_words builtin_prefix
open_string = refl

pub two_letters : token_fault (codes "'ab'") ≡ Some (X2, 1)
unfolding token_fault piece_at marks keywords floating_words gnu_words builtin_prefix
two_letters = refl

pub no_letter : token_fault (codes "''") ≡ Some (X2, 1)
unfolding token_fault piece_at marks keywords floating_words gnu_words builtin_prefix
no_letter = refl

pub bad_escape : token_fault (codes "'\\q'") ≡ Some (X3, 1)
unfolding token_fault piece_at marks keywords floating_words gnu_words builtin_prefix
bad_escape = refl

pub large_escape : token_fault (codes "\"\\400\"") ≡ Some (X3, 1)
unfolding token_fault piece_at marks keywords floating_words gnu_words builtin_prefix
large_escape = refl

pub bad_octal : token_fault (codes "09") ≡ Some (X4, 1)
unfolding token_fault piece_at marks keywords floating_words gnu_words builtin_prefix
bad_octal = refl

pub no_digits : token_fault (codes "0x") ≡ Some (X4, 1)
unfolding token_fault piece_at marks keywords floating_words gnu_words builtin_prefix
no_digits = refl

pub two_suffixes : token_fault (codes "1uu") ≡ Some (X4, 1)
unfolding token_fault piece_at marks keywords floating_words gnu_words builtin_prefix
two_suffixes = refl

pub letters_behind : token_fault (codes "12ab") ≡ Some (X4, 1)
unfolding token_fault piece_at marks keywords floating_words gnu_words builtin_prefix
letters_behind = refl

pub point : token_fault (codes "1.5") ≡ Some (X5, 1)
unfolding token_fault piece_at marks keywords floating_words gnu_words builtin_prefix
point = refl

pub leading_point : token_fault (codes ".5") ≡ Some (X5, 1)
unfolding token_fault piece_at marks keywords floating_words gnu_words builtin_prefix
leading_point = refl

pub exponent : token_fault (codes "1e9") ≡ Some (X5, 1)
unfolding token_fault piece_at marks keywords floating_words gnu_words builtin_prefix
exponent = refl

pub hexadecimal_exponent : token_fault (codes "0x1p3") ≡ Some (X5, 1)
unfolding token_fault piece_at marks keywords floating_words gnu_words builtin_prefix
hexadecimal_exponent = refl

pub large : token_fault (codes "18446744073709551616") ≡ Some (X6, 1)
unfolding token_fault piece_at marks keywords floating_words gnu_words builtin_prefix
large = refl

pub wide_string : token_fault (codes "L\"a\"") ≡ Some (X7, 1)
unfolding token_fault piece_at marks keywords floating_words gnu_words builtin_prefix
wide_string = refl

pub wide_letter : token_fault (codes "L'a'") ≡ Some (X7, 1)
unfolding token_fault piece_at marks keywords floating_words gnu_words builtin_prefix
wide_letter = refl

pub universal : token_fault (codes "\\u0041") ≡ Some (X7, 1)
unfolding token_fault piece_at marks keywords floating_words gnu_words builtin_prefix
universal = refl

pub pragma : token_fault (codes "#pragma pack(1)") ≡ Some (X8, 1)
unfolding token_fault piece_at marks keywords floating_words gnu_words builtin_prefix
pragma = refl

pub late_define : token_fault (codes "int x = 1; # define Y") ≡ Some (X8, 1)
unfolding token_fault piece_at marks keywords floating_words gnu_words builtin_prefix
late_define = refl

pub double_word : token_fault ((10 ∷ []) ++ (codes "double")) ≡ Some (O1, 2)
unfolding token_fault piece_at marks keywords floating_words gnu_words builtin_prefix
double_word = refl

pub volatile_word : token_fault (codes "volatile") ≡ Some (O2, 1)
unfolding token_fault piece_at marks keywords floating_words gnu_words builtin_prefix
volatile_word = refl

pub attribute : token_fault (codes "__attribute__") ≡ Some (O12, 1)
unfolding token_fault piece_at marks keywords floating_words gnu_words builtin_prefix
attribute = refl

pub func : token_fault (codes "__func__") ≡ Some (O12, 1)
unfolding token_fault piece_at marks keywords floating_words gnu_words builtin_prefix
func = refl

pub builtin : token_fault (codes "__builtin_expect") ≡ Some (O12, 1)
unfolding token_fault piece_at marks keywords floating_words gnu_words builtin_prefix
builtin = refl

pub open_comment : token_fault (codes "/* end") ≡ Some (X2, 1)
unfolding token_fault piece_at marks keywords floating_words gnu_words builtin_prefix
open_comment = refl

pub digraph_hash : token_fault (codes "%: 1") ≡ Some (X8, 1)
unfolding token_fault piece_at marks keywords floating_words gnu_words builtin_prefix
digraph_hash = refl

pub letter_then_universal : token_fault (codes "'a\\u'") ≡ Some (X2, 1)
unfolding token_fault piece_at marks keywords floating_words gnu_words builtin_prefix
letter_then_universal = refl

pub universal_letter : token_fault (codes "'\\u0041'") ≡ Some (X7, 1)
unfolding token_fault piece_at marks keywords floating_words gnu_words builtin_prefix
universal_letter = refl

pub late_linemarker : token_fault (codes "x" ++ ((10 ∷ []) ++ (codes " y # 1 \"a\""))) ≡ Some (X8, 2)
unfolding token_fault piece_at marks keywords floating_words gnu_words builtin_prefix
late_linemarker = refl

pub universal_in_comment : token_fault (codes "/* \\u */") ≡ None
unfolding token_fault piece_at marks keywords floating_words gnu_words builtin_prefix
universal_in_comment = refl

pub linemarker : token_fault (codes "# 1 \"list.c\"") ≡ None
unfolding token_fault piece_at marks keywords floating_words gnu_words builtin_prefix
linemarker = refl

pub linemarker_flags : token_fault ((10 ∷ []) ++ (codes " " ++ ((9 ∷ []) ++ (codes "# 1 \"/usr/x.h\" 1 3 4" ++ ((10 ∷ [])))))) ≡ None
unfolding token_fault piece_at marks keywords floating_words gnu_words builtin_prefix
linemarker_flags = refl

pub minus_letter : token_fault (codes "'\\377'") ≡ None
unfolding token_fault piece_at marks keywords floating_words gnu_words builtin_prefix
minus_letter = refl

pub largest : token_fault (codes "0xffffffffffffffff 1ull 2147483648") ≡ None
unfolding token_fault piece_at marks keywords floating_words gnu_words builtin_prefix
largest = refl

pub string_bytes : token_fault (codes "\"" ++ ((200 ∷ []) ++ (codes "\"//" ++ ((255 ∷ []))))) ≡ None
unfolding token_fault piece_at marks keywords floating_words gnu_words builtin_prefix
string_bytes = refl

pub any_escape : token_fault (codes "\"\\'\\\"\\?\\\\\\a\\b\\f\\n\\r\\t\\v\\0\\12\\377\\x00ff\"") ≡ None
unfolding token_fault piece_at marks keywords floating_words gnu_words builtin_prefix
any_escape = refl

abbrev on : ℕ → TokenKind → Token
on line kind = record { kind = kind; line = line }

pub longest_marks : Spells (codes "a+++++b") (on 1 (Word (codes "a")) ∷ on 1 (Mark punct.PlusPlus) ∷ on 1 (Mark punct.PlusPlus) ∷ on 1 (Mark punct.Plus) ∷ on 1 (Word (codes "b")) ∷ [])
unfolding piece_at marks keywords floating_words gnu_words builtin_prefix
longest_marks = behind_token 1 _ refl (behind_token 2 _ refl (behind_token 2 _ refl (behind_token 1 _ refl (behind_token 1 _ refl at_end))))

pub digraph : Spells (codes "<:") (on 1 (Mark punct.LeftBracket) ∷ [])
unfolding piece_at marks keywords floating_words gnu_words builtin_prefix
digraph = behind_token 2 _ refl at_end

pub minus_one : Spells (codes "'\\377'") (on 1 (Letter (negsuc 0)) ∷ [])
unfolding piece_at marks keywords floating_words gnu_words builtin_prefix
minus_one = behind_token 6 _ refl at_end

pub lines_of_the_file : Spells (codes "# 7 \"a.c\"" ++ 10 ∷ codes "int/**/ 1ull") (on 2 (Key key.Int) ∷ on 2 (Number 1 ty.UnsignedLongLong) ∷ [])
unfolding piece_at marks keywords floating_words gnu_words builtin_prefix
lines_of_the_file = behind_space 9 refl (behind_space 1 refl (behind_token 3 _ refl (behind_space 4 refl (behind_space 1 refl (behind_token 4 _ refl at_end)))))

pub types : Spells (codes "2147483648 0x80000000 010") (on 1 (Number 2147483648 ty.Long) ∷ on 1 (Number 2147483648 ty.Unsigned) ∷ on 1 (Number 8 ty.Int) ∷ [])
unfolding piece_at marks keywords floating_words gnu_words builtin_prefix
types = behind_token 10 _ refl (behind_space 1 refl (behind_token 10 _ refl (behind_space 1 refl (behind_token 3 _ refl at_end))))

pub escapes : Spells (codes "\"\\x41\\12\\n\"\"\"") (on 1 (Text (65 ∷ 10 ∷ 10 ∷ [])) ∷ on 1 (Text []) ∷ [])
unfolding piece_at marks keywords floating_words gnu_words builtin_prefix
escapes = behind_token 11 _ refl (behind_token 2 _ refl at_end)
