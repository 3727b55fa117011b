-- The keywords among a declaration's specifiers (ISO C99, 6.7). `float`, `double`, `_Complex`, `_Imaginary` and `volatile` aren't
-- among them: a unit that holds one of these words is refused before it is parsed.
use Rattle.std.specs.Prelude.{Bool, true, false, ◌||◌}
use Rattle.cx_lex.specs.declared.token.Keyword.{Keyword}
use Rattle.cx_lex.specs.declared.token.Keyword.TheVariants as keyword

-- a storage class specifier (6.7.1)
unfoldable pub is_storage_class : Keyword → Bool
is_storage_class keyword.Typedef = true
is_storage_class keyword.Extern = true
is_storage_class keyword.Static = true
is_storage_class keyword.Auto = true
is_storage_class keyword.Register = true
is_storage_class _ = false

-- a type specifier that is one keyword (6.7.2)
unfoldable pub is_type_word : Keyword → Bool
is_type_word keyword.Void = true
is_type_word keyword.Char = true
is_type_word keyword.Short = true
is_type_word keyword.Int = true
is_type_word keyword.Long = true
is_type_word keyword.Signed = true
is_type_word keyword.Unsigned = true
is_type_word keyword.Bool = true
is_type_word _ = false

-- a type qualifier (6.7.3)
unfoldable pub is_qualifier : Keyword → Bool
is_qualifier keyword.Const = true
is_qualifier keyword.Restrict = true
is_qualifier _ = false

-- a function specifier (6.7.4)
unfoldable pub is_function_specifier : Keyword → Bool
is_function_specifier keyword.Inline = true
is_function_specifier _ = false

-- `typedef` (6.7.1)
unfoldable pub is_typedef_word : Keyword → Bool
is_typedef_word keyword.Typedef = true
is_typedef_word _ = false

-- a keyword that is a whole specifier of a declaration (6.7)
abbrev pub is_specifier_word : Keyword → Bool
is_specifier_word word = is_storage_class word || is_type_word word || is_qualifier word || is_function_specifier word
