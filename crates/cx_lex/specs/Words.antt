-- Identifiers and keywords (ISO C99, 6.4.1, 6.4.2), and the words that this profile leaves out.
use Rattle.std.specs.Prelude.{ℕ, Bool, false, ◌&&◌, ◌||◌, List, [], ◌∷◌, if◌then◌else◌, Option, Some, None, codes, bytes_eq, nat_eq}
use Rattle.std.specs.List.{list_all, list_any, starts_with}
use Rattle.cr_base.specs.declared.rule.Rule.{Rule}
use Rattle.cr_base.specs.declared.rule.Rule.TheVariants.{O1, O2, O12}
use Rattle.cx_lex.specs.declared.token.Keyword.{Keyword}
use Rattle.cx_lex.specs.declared.token.Keyword.TheVariants as key
use Rattle.cx_lex.specs.declared.token.TokenKind.{TokenKind}
use Rattle.cx_lex.specs.declared.token.TokenKind.TheVariants.{Word, Key}
use Rattle.cx_lex.specs.Bytes.{is_nondigit, is_word_byte}

-- a nondigit, and then digits and nondigits (6.4.2.1)
abbrev pub is_identifier : List ℕ → Bool
is_identifier [] = false
is_identifier (b ∷ rest) = is_nondigit b && list_all is_word_byte rest

-- the entry of a text in a table, where it has one
abbrev pub entry_of : {A : Type 0} → List (List ℕ × A) → List ℕ → Option A
entry_of [] text = None
entry_of (entry ∷ table) text = if bytes_eq text entry.0 then Some entry.1 else entry_of table text

-- the keywords (6.4.1)
unfoldable pub keywords : List (List ℕ × Keyword)
keywords = (codes "auto", key.Auto) ∷ (codes "break", key.Break) ∷ (codes "case", key.Case) ∷ (codes "char", key.Char)
    ∷ (codes "const", key.Const) ∷ (codes "continue", key.Continue) ∷ (codes "default", key.Default) ∷ (codes "do", key.Do)
    ∷ (codes "double", key.Double) ∷ (codes "else", key.Else) ∷ (codes "enum", key.Enum) ∷ (codes "extern", key.Extern)
    ∷ (codes "float", key.Float) ∷ (codes "for", key.For) ∷ (codes "goto", key.Goto) ∷ (codes "if", key.If)
    ∷ (codes "inline", key.Inline) ∷ (codes "int", key.Int) ∷ (codes "long", key.Long) ∷ (codes "register", key.Register)
    ∷ (codes "restrict", key.Restrict) ∷ (codes "return", key.Return) ∷ (codes "short", key.Short) ∷ (codes "signed", key.Signed)
    ∷ (codes "sizeof", key.Sizeof) ∷ (codes "static", key.Static) ∷ (codes "struct", key.Struct) ∷ (codes "switch", key.Switch)
    ∷ (codes "typedef", key.Typedef) ∷ (codes "union", key.Union) ∷ (codes "unsigned", key.Unsigned) ∷ (codes "void", key.Void)
    ∷ (codes "volatile", key.Volatile) ∷ (codes "while", key.While) ∷ (codes "_Bool", key.Bool) ∷ (codes "_Complex", key.Complex)
    ∷ (codes "_Imaginary", key.Imaginary) ∷ []

-- a keyword, or else the identifier
abbrev pub key_or_word : List ℕ → Option Keyword → TokenKind
key_or_word word None = Word word
key_or_word word (Some keyword) = Key keyword

-- the token of an identifier's bytes
abbrev pub word_of : List ℕ → Option TokenKind
word_of front = if is_identifier front then Some (key_or_word front (entry_of keywords front)) else None

-- the words of floating and complex types
unfoldable pub floating_words : List (List ℕ)
floating_words = codes "float" ∷ codes "double" ∷ codes "_Complex" ∷ codes "_Imaginary" ∷ []

-- the words of GNU C, and `__func__` (6.4.2.2)
unfoldable pub gnu_words : List (List ℕ)
gnu_words = codes "asm" ∷ codes "typeof" ∷ codes "__asm" ∷ codes "__asm__" ∷ codes "__attribute" ∷ codes "__attribute__"
    ∷ codes "__extension__" ∷ codes "__inline" ∷ codes "__inline__" ∷ codes "__typeof" ∷ codes "__typeof__"
    ∷ codes "__restrict" ∷ codes "__restrict__" ∷ codes "__volatile__" ∷ codes "__const" ∷ codes "__signed__"
    ∷ codes "__alignof__" ∷ codes "__label__" ∷ codes "__int128" ∷ codes "__func__" ∷ codes "__FUNCTION__" ∷ []

-- the beginning of the names of GNU C's built-in functions
unfoldable pub builtin_prefix : List ℕ
builtin_prefix = codes "__builtin_"

-- the text is one of the words
abbrev pub is_among : List (List ℕ) → List ℕ → Bool
is_among words text = list_any (λ word. bytes_eq text word) words

-- the rule that a word breaks: O1 at a floating word, O2 at `volatile`, O12 at a word of GNU C
abbrev pub word_rule : List ℕ → Option Rule
word_rule word =
    if is_among floating_words word then Some O1
    else (if is_among (codes "volatile" ∷ []) word then Some O2
    else (if is_among gnu_words word || starts_with nat_eq word builtin_prefix then Some O12
    else None))
