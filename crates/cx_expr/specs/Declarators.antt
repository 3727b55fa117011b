-- The readers of declarators and parameters (ISO C99, 6.7.5 and 6.7.6).
use Rattle.std.specs.Prelude.{ℕ, Bool, true, false, not, ◌||◌, ◌&&◌, nat_lt, if◌then◌else◌, List, [], ◌∷◌, ◌++◌, length, drop, take, Some, None}
use Rattle.cx_cursor.specs.Lists.{ListRead, list_read, with_line, no_comma, many_ahead, taking, next_item}
use Rattle.cx_cursor.specs.Reading.{State, Reader, at, onward, bind, ◌>>=◌, pure, declaring}
use Rattle.cx_cursor.specs.Sights.{sight, sight_behind, shows_mark, shows_word, sees_mark, sees_key, mark, key, word, keyword}
use Rattle.cx_cursor.specs.declared.sight.Sight.{Sight}
use Rattle.cx_cursor.specs.declared.sight.Sight.TheVariants as sights
use Rattle.cx_expr.specs.Below.{Below, DeclaratorRead, declarator_read}
use Rattle.cx_expr.specs.Specifiers.{specs_from}
use Rattle.cx_words.specs.declared.form.Form.{Form}
use Rattle.cx_words.specs.declared.form.Form.TheVariants.{Named, Abstract, Parameter}
use Rattle.cx_lex.specs.declared.token.Keyword.{Keyword}
use Rattle.cx_lex.specs.declared.token.Keyword.TheVariants as keywords
use Rattle.cx_lex.specs.declared.token.Punct.TheVariants.{LeftBracket, RightBracket, LeftParenthesis, RightParenthesis, Star, Comma, Ellipsis}
use Rattle.cx_tree.specs.Depth.{declarator_depth}
use Rattle.cx_tree.specs.Levels.{assignment_level}
use Rattle.cx_tree.specs.Names.{Binding, bound, is_identifier}
use Rattle.cx_tree.specs.Trees as tree
use Rattle.cx_tree.specs.Trees.{ExprTree, DeclaratorTree, Missing, Identifier, Group, Pointer, Array, Function, Identifiers, BracketsTree, Unsized, Length, StaticFirst, StaticLast, ParamTree, Param}
use Rattle.cx_tree.specs.Valid.{has_name}
use Rattle.cx_tree.specs.Views.{specs, params}
use Rattle.cx_tree.specs.Words.{is_qualifier}
use Rattle.cx_words.specs.Beginnings.{begins_declarator, begins_group, is_no_qualifier, is_plain, sees_star, shows_spec}

-- ---- qualifiers (6.7.3)

-- qualifiers, and their lines behind those given
pub record QualifiersRead : Type 0 where
  pub list : List Keyword
  pub lines : List ℕ

abbrev pub qualifiers_read : List Keyword → List ℕ → QualifiersRead
qualifiers_read list lines = record { list = list; lines = lines }

abbrev pub with_qualifier : QualifiersRead → Keyword × ℕ → QualifiersRead
with_qualifier all next = record { list = all.list ++ next.0 ∷ []; lines = all.lines ++ next.1 ∷ [] }

abbrev pub stops_qualifiers : QualifiersRead → State → Bool
stops_qualifiers all state = is_no_qualifier (sight state)

unfoldable pub qualifiers : List ℕ → Reader QualifiersRead
qualifiers lines = many_ahead stops_qualifiers (taking keyword with_qualifier) (qualifiers_read [] lines)

-- ---- arrays (6.7.5.2)

-- what stands in brackets, and the lines of the tokens that aren't the length's
pub record BracketsRead : Type 0 where
  pub brackets : BracketsTree
  pub lines : List ℕ

abbrev pub brackets_read : BracketsTree → List ℕ → BracketsRead
brackets_read brackets lines = record { brackets = brackets; lines = lines }

-- a comma with an ellipsis behind it, or no comma
abbrev pub no_param : {A : Type 0} → A → State → Bool
no_param all state = not (sees_mark Comma state) || shows_mark Ellipsis (sight_behind state)

abbrev pub with_name : ListRead (List ℕ) → List ℕ × ℕ → ListRead (List ℕ)
with_name all next = record { list = all.list ++ next.0 ∷ []; lines = all.lines ++ next.1 ∷ [] }

-- an identifier that is no typedef name
unfoldable pub plain_word : Reader (List ℕ × ℕ)
plain_word state = if is_plain (sight state) then word state else None

abbrev pub with_comma_name : ListRead (List ℕ) → ℕ × (List ℕ × ℕ) → ListRead (List ℕ)
with_comma_name all next = with_name (with_line all next.0) next.1

unfoldable pub comma_name : Reader (ℕ × (List ℕ × ℕ))
comma_name = mark Comma >>= (λ comma. plain_word >>= (λ name. pure (comma, name)))

-- a list of identifiers that isn't empty stands behind a name alone
abbrev pub may_name : DeclaratorRead → State → Bool
may_name of state = has_name of.tree || sees_mark RightParenthesis state

abbrev pub no_tail : {A : Type 0} → A → State → Bool
no_tail of state = not (sees_mark LeftBracket state || sees_mark LeftParenthesis state)

-- no declarator
abbrev pub no_declarator : DeclaratorRead
no_declarator = declarator_read Missing []

unfoldable pub identifier : Reader DeclaratorRead
identifier = word >>= (λ w. pure (declarator_read (Identifier w.0 (w.1 ∷ [])) []))

-- parameters, whether `, ...` stands behind them, and the lines of the list's own tokens
pub record ParamsRead : Type 0 where
  pub params : List ParamTree
  pub variadic : Bool
  pub lines : List ℕ

abbrev pub params_read : List ParamTree → Bool → List ℕ → ParamsRead
params_read params variadic lines = record { params = params; variadic = variadic; lines = lines }

-- parameters with the lines of their list, and the names that they leave in the scope of their own
pub record ScopedRead : Type 0 where
  pub list : ListRead ParamTree
  pub declared : List Binding

abbrev pub scoped_read : ListRead ParamTree → List Binding → ScopedRead
scoped_read list declared = record { list = list; declared = declared }

-- the end of a list of parameters, behind the last of them
unfoldable pub params_end : ListRead ParamTree → Reader ParamsRead
params_end all state =
    if sees_mark Comma state
    then bind (mark Comma) (λ comma. mark Ellipsis >>= (λ dots. mark RightParenthesis >>= (λ last. pure (params_read all.list true (all.lines ++ comma ∷ dots ∷ last ∷ []))))) state
    else bind (mark RightParenthesis) (λ last. pure (params_read all.list false (all.lines ++ last ∷ []))) state

-- a function of a declarator, whose parameters leave these names in scope
abbrev pub function_of : DeclaratorRead → ParamsRead → List Binding → DeclaratorRead
function_of of read declared =
    declarator_read (Function of.tree (params read.params) read.variadic read.lines) (if is_identifier of.tree then declared else of.own)

-- one identifier or more, with commas between them
unfoldable pub some_names : ℕ → Reader (ListRead (List ℕ))
some_names first = plain_word >>= (λ one. many_ahead no_comma (taking comma_name with_comma_name) (with_name (list_read [] (first ∷ [])) one))

-- a list of identifiers, which may be empty
unfoldable pub names_in : ℕ → Reader (ListRead (List ℕ))
names_in first state = if sees_mark RightParenthesis state then Some (list_read [] (first ∷ []), state) else some_names first state

unfoldable pub identifiers : DeclaratorRead → ℕ → Reader DeclaratorRead
identifiers of first = names_in first >>= (λ all. mark RightParenthesis >>= (λ last. pure (declarator_read (Identifiers of.tree all.list (all.lines ++ last ∷ [])) of.own)))

unfoldable pub without_size : QualifiersRead → Reader BracketsRead
without_size q = mark RightBracket >>= (λ last. pure (brackets_read (Unsized q.list) (q.lines ++ last ∷ [])))

unfoldable pub star : QualifiersRead → Reader BracketsRead
star q = mark Star >>= (λ line. mark RightBracket >>= (λ last. pure (brackets_read (tree.Star q.list) (q.lines ++ line ∷ last ∷ []))))

module _ (below : Below) where
  unfoldable pub static_first : List ℕ → Reader BracketsRead
  static_first lines = key keywords.Static >>= (λ line. qualifiers (lines ++ line ∷ []) >>= (λ q. below.expr assignment_level >>= (λ e. mark RightBracket >>= (λ last.
      pure (brackets_read (StaticFirst q.list e) (q.lines ++ last ∷ []))))))

  unfoldable pub static_last : QualifiersRead → Reader BracketsRead
  static_last q = key keywords.Static >>= (λ line. below.expr assignment_level >>= (λ e. mark RightBracket >>= (λ last.
      pure (brackets_read (StaticLast q.list e) (q.lines ++ line ∷ last ∷ [])))))

  unfoldable pub sized : QualifiersRead → Reader BracketsRead
  sized q = below.expr assignment_level >>= (λ e. mark RightBracket >>= (λ last. pure (brackets_read (Length q.list e) (q.lines ++ last ∷ []))))

  -- what stands behind the qualifiers in brackets
  unfoldable pub behind_qualifiers : QualifiersRead → Reader BracketsRead
  behind_qualifiers q state =
      if sees_key keywords.Static state then static_last q state
      else (if sees_mark RightBracket state then without_size q state
      else (if sees_star state then star q state else sized q state))

  -- what stands in brackets, behind the first of them
  unfoldable pub in_brackets : List ℕ → Reader BracketsRead
  in_brackets lines state =
      if sees_key keywords.Static state then static_first lines state
      else bind (qualifiers lines) (λ q. behind_qualifiers q) state

  unfoldable pub array : DeclaratorRead → Reader DeclaratorRead
  array of = mark LeftBracket >>= (λ first. in_brackets (first ∷ []) >>= (λ read. pure (declarator_read (Array of.tree read.brackets read.lines) of.own)))

  -- ---- functions (6.7.5.3)

  -- the parameters, which are in scope up to the end of their list (6.2.1p4)
  unfoldable pub params_in : ℕ → Reader (ListRead ParamTree)
  params_in first = below.param >>= (λ one. many_ahead no_param (next_item below.param) (list_read (one ∷ []) (first ∷ [])))

  -- the parameters, in a scope of their own, and what they leave in it
  unfoldable pub scoped_params : ℕ → Reader ScopedRead
  scoped_params first state = onward (params_in first state) (λ all after.
      Some (scoped_read all (drop (length state.names) after.names), at after.tokens (take (length state.names) after.names)))

  unfoldable pub function : DeclaratorRead → ℕ → Reader DeclaratorRead
  function of first = scoped_params first >>= (λ all. params_end all.list >>= (λ read. pure (function_of of read all.declared)))

  unfoldable pub in_parentheses : DeclaratorRead → ℕ → Reader DeclaratorRead
  in_parentheses of first state =
      if shows_spec true false (sight state) then function of first state
      else (if may_name of state then identifiers of first state else None)

  unfoldable pub function_or_identifiers : DeclaratorRead → Reader DeclaratorRead
  function_or_identifiers of = mark LeftParenthesis >>= (λ first. in_parentheses of first)

  -- ---- declarators

  -- an array or a function of what was read, which may be `depth` deep
  unfoldable pub tail : ℕ → DeclaratorRead → Reader DeclaratorRead
  tail depth of state =
      if nat_lt depth (declarator_depth of.tree) then None
      else (if sees_mark LeftBracket state then array of state else function_or_identifiers of state)

  unfoldable pub tails : ℕ → DeclaratorRead → Reader DeclaratorRead
  tails depth = many_ahead no_tail (tail depth)

  -- a declarator, or none where none begins
  unfoldable pub declarator_or_missing : Form → Reader DeclaratorRead
  declarator_or_missing form state = if begins_declarator form (sight state) then below.declarator form state else Some (no_declarator, state)

  unfoldable pub pointer : Form → Reader DeclaratorRead
  pointer form = mark Star >>= (λ first. qualifiers (first ∷ []) >>= (λ q. declarator_or_missing form >>= (λ of. pure (declarator_read (Pointer q.list of.tree q.lines) of.own))))

  unfoldable pub group : Form → Reader DeclaratorRead
  group form = mark LeftParenthesis >>= (λ first. below.declarator form >>= (λ inner. mark RightParenthesis >>= (λ last. pure (declarator_read (Group inner.tree (first ∷ last ∷ [])) inner.own))))

  -- what no array and no function is of: a name, a declarator in parentheses, or nothing
  unfoldable pub abstract_head : Form → Reader DeclaratorRead
  abstract_head form state =
      if sees_mark LeftParenthesis state && begins_group form state then group form state
      else Some (no_declarator, state)

  unfoldable pub head : Form → Reader DeclaratorRead
  head Named state = if sees_mark LeftParenthesis state then group Named state else identifier state
  head Abstract state = abstract_head Abstract state
  head Parameter state = if shows_word (sight state) then identifier state else abstract_head Parameter state

  -- a declarator that isn't missing, whose parts are at most `depth` deep
  unfoldable pub declarator_from : ℕ → Form → Reader DeclaratorRead
  declarator_from depth form state =
      if sees_mark Star state then pointer form state
      else bind (head form) (λ of. tails depth of) state

  -- ---- parameters (6.7.5)

  -- a parameter, whose name is in scope behind it (6.2.1p7)
  unfoldable pub param_from : Reader ParamTree
  param_from = specs_from below true >>= (λ s. declarator_or_missing Parameter >>= (λ d.
      declaring (bound (specs s.list) d.tree) (Param (specs s.list) d.tree [])))
