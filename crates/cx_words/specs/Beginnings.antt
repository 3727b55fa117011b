-- What begins what (ISO C99, 6.5 to 6.7), by the next token and the one behind it.
use Rattle.std.specs.Prelude.{Bool, true, false, not, ◌||◌, ◌&&◌}
use Rattle.cx_cursor.specs.Reading.{State}
use Rattle.cx_cursor.specs.Sights.{sight, sight_behind, shows_mark, shows_word, sees_mark}
use Rattle.cx_cursor.specs.declared.sight.Sight.{Sight}
use Rattle.cx_cursor.specs.declared.sight.Sight.TheVariants as sights
use Rattle.cx_lex.specs.declared.token.Keyword.{Keyword}
use Rattle.cx_lex.specs.declared.token.Keyword.TheVariants as keywords
use Rattle.cx_lex.specs.declared.token.Punct.TheVariants.{LeftBracket, RightBracket, LeftParenthesis, RightParenthesis, Star, Dot, Colon}
use Rattle.cx_tree.specs.Words.{is_type_word, is_qualifier, is_storage_class, is_function_specifier}
use Rattle.cx_words.specs.declared.form.Form.{Form}
use Rattle.cx_words.specs.declared.form.Form.TheVariants.{Named, Abstract, Parameter}

-- `struct`, `union` or `enum`
unfoldable pub begins_tagged : Keyword → Bool
begins_tagged keywords.Struct = true
begins_tagged keywords.Union = true
begins_tagged keywords.Enum = true
begins_tagged _ = false

-- a keyword that begins a specifier or qualifier of a member or of a type name
unfoldable pub begins_member_spec : Keyword → Bool
begins_member_spec word = is_type_word word || (is_qualifier word || begins_tagged word)

-- a keyword that begins a specifier; `all`: of any declaration, with storage classes and `inline`
unfoldable pub begins_spec : Bool → Keyword → Bool
begins_spec all word = begins_member_spec word || (all && (is_storage_class word || is_function_specifier word))

-- What stands ahead begins one more specifier; `typed`: a type specifier stands before it.
abbrev pub shows_spec : Bool → Bool → Sight → Bool
shows_spec all typed (sights.Key word) = begins_spec all word
shows_spec all typed sights.TypeWord = not typed
shows_spec all typed _ = false

-- What stands ahead begins an abstract declarator that isn't missing.
abbrev pub begins_abstract : Sight → Bool
begins_abstract sight = shows_mark Star sight || (shows_mark LeftParenthesis sight || shows_mark LeftBracket sight)

-- What stands ahead begins a declarator that isn't missing.
abbrev pub begins_declarator : Form → Sight → Bool
begins_declarator Named sight = true
begins_declarator Abstract sight = begins_abstract sight
begins_declarator Parameter sight = shows_word sight || begins_abstract sight

-- Behind a parenthesis, what stands ahead begins a list of parameters, or ends an empty one.
abbrev pub begins_params : Sight → Bool
begins_params sight = shows_mark RightParenthesis sight || shows_spec true false sight

-- a parenthesis ahead begins a declarator in parentheses
abbrev pub begins_group : Form → State → Bool
begins_group Named state = true
begins_group Abstract state = not (begins_params (sight_behind state))
begins_group Parameter state = not (begins_params (sight_behind state))

abbrev pub is_no_qualifier : Sight → Bool
is_no_qualifier (sights.Key word) = not (is_qualifier word)
is_no_qualifier _ = true

-- a star stands alone in front of the bracket
abbrev pub sees_star : State → Bool
sees_star state = sees_mark Star state && shows_mark RightBracket (sight_behind state)

abbrev pub is_plain : Sight → Bool
is_plain sights.Word = true
is_plain _ = false

-- behind a parenthesis, what stands ahead begins a type name
abbrev pub begins_type : Sight → Bool
begins_type sight = shows_spec false false sight

-- a parenthesis stands ahead, and a type name behind it
abbrev pub sees_type : State → Bool
sees_type state = sees_mark LeftParenthesis state && begins_type (sight_behind state)

-- a designator stands ahead
abbrev pub sees_designator : State → Bool
sees_designator state = sees_mark LeftBracket state || sees_mark Dot state

-- a label stands ahead (6.8.1)
abbrev pub sees_label : State → Bool
sees_label state = shows_word (sight state) && shows_mark Colon (sight_behind state)

-- a declaration stands ahead
abbrev pub sees_decl : State → Bool
sees_decl state = shows_spec true false (sight state) && not (sees_label state)
