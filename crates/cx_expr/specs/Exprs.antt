-- The readers of expressions and type names (ISO C99, 6.5 and 6.7.6), in the order of the tokens.
use Rattle.std.specs.Prelude.{ℕ, zero, suc, Bool, false, not, ◌&&◌, ◌||◌, nat_lt, nat_le, if◌then◌else◌, List, [], ◌∷◌, ◌++◌, Some, None}
use Rattle.cx_cursor.specs.Lists.{ListRead, list_read, many_ahead, taking, behind_commas}
use Rattle.cx_cursor.specs.Reading.{State, Reader, bind, ◌>>=◌, pure, refuse}
use Rattle.cx_cursor.specs.Sights.{sight, sight_behind, shows_text, sees_mark, same_mark, mark, key, word, number, letter, text, operator}
use Rattle.cx_cursor.specs.declared.sight.Sight.{Sight}
use Rattle.cx_cursor.specs.declared.sight.Sight.TheVariants as sights
use Rattle.cx_expr.specs.Below.{Below}
use Rattle.cx_words.specs.Continuations.{continuation_of, goes_on}
use Rattle.cx_expr.specs.Declarators.{declarator_or_missing}
use Rattle.cx_expr.specs.Specifiers.{specs_from}
use Rattle.cx_expr.specs.Tails.{TailTree, indexed, called, dotted, pointed, up, down, operated, chosen, assigned, sequenced, join}
use Rattle.cx_words.specs.declared.continuation.Continuation.{Continuation}
use Rattle.cx_words.specs.declared.continuation.Continuation.TheVariants.{Nothing, Operates, Assigns, Chooses, Commas, Indexes, Calls, Picks, Steps}
use Rattle.cx_words.specs.declared.form.Form.TheVariants.{Abstract}
use Rattle.cx_lex.specs.declared.token.Keyword.TheVariants as keywords
use Rattle.cx_lex.specs.declared.token.Punct.{Punct}
use Rattle.cx_lex.specs.declared.token.Punct.TheVariants as marks
use Rattle.cx_lex.specs.declared.token.Punct.TheVariants.{LeftBracket, RightBracket, LeftParenthesis, RightParenthesis, LeftBrace, PlusPlus, MinusMinus, Question, Colon}
use Rattle.cx_tree.specs.Depth.{expr_depth, type_name_depth}
use Rattle.cx_tree.specs.Levels.{expression_level, assignment_level, conditional_level, cast_level, unary_level, is_unary_operator, level}
use Rattle.cx_tree.specs.Trees.{ExprTree, Name, Number, Letter, Text, Paren, Literal, PreUp, PreDown, Unary, SizeofExpr, SizeofType, Cast, TypeNameTree, TypeName}
use Rattle.cx_tree.specs.Views.{exprs, specs}
use Rattle.cx_words.specs.Beginnings.{sees_type}

-- ---- what stands by itself (6.5.1)

unfoldable pub name : Reader ExprTree
name = word >>= (λ w. pure (Name w.0 (w.1 ∷ [])))

unfoldable pub constant : Reader ExprTree
constant = number >>= (λ n. pure (Number n.0 n.1 (n.2 ∷ [])))

unfoldable pub character : Reader ExprTree
character = letter >>= (λ n. pure (Letter n.0 (n.1 ∷ [])))

abbrev pub no_text : {A : Type 0} → A → State → Bool
no_text all state = not (shows_text (sight state))

abbrev pub with_text : ListRead (List ℕ) → List ℕ × ℕ → ListRead (List ℕ)
with_text all next = record { list = all.list ++ next.0 ∷ []; lines = all.lines ++ next.1 ∷ [] }

-- adjacent string literals
unfoldable pub texts : Reader ExprTree
texts = taking text with_text (list_read [] []) >>= (λ one. many_ahead no_text (taking text with_text) one >>= (λ all. pure (Text all.list all.lines)))

-- ---- what stands behind a left operand

abbrev pub picked : Punct → List ℕ → List ℕ → TailTree
picked op member lines = if same_mark op marks.Arrow then pointed member lines else dotted member lines

unfoldable pub picks : Reader TailTree
picks = operator >>= (λ op. word >>= (λ member. pure (picked op.0 member.0 (op.1 ∷ member.1 ∷ []))))

abbrev pub stepped : Punct → List ℕ → TailTree
stepped op lines = if same_mark op PlusPlus then up lines else down lines

unfoldable pub steps : Reader TailTree
steps = operator >>= (λ op. pure (stepped op.0 (op.1 ∷ [])))

-- a type name in parentheses, and the lines of these
pub record TypeRead : Type 0 where
  pub type : TypeNameTree
  pub lines : List ℕ

abbrev pub type_read : TypeNameTree → List ℕ → TypeRead
type_read type lines = record { type = type; lines = lines }

abbrev pub stepped_of : Punct → ExprTree → List ℕ → ExprTree
stepped_of op on lines = if same_mark op PlusPlus then PreUp on lines else PreDown on lines

module _ (below : Below) where
  unfoldable pub indexes : Reader TailTree
  indexes = mark LeftBracket >>= (λ first. below.expr expression_level >>= (λ index. mark RightBracket >>= (λ last.
      pure (indexed index (first ∷ last ∷ [])))))

  unfoldable pub some_args : ℕ → Reader (ListRead ExprTree)
  some_args first = below.expr assignment_level >>= (λ one. behind_commas (below.expr assignment_level) (list_read (one ∷ []) (first ∷ [])))

  unfoldable pub args : ℕ → Reader (ListRead ExprTree)
  args first state = if sees_mark RightParenthesis state then Some (list_read [] (first ∷ []), state) else some_args first state

  unfoldable pub calls : Reader TailTree
  calls = mark LeftParenthesis >>= (λ first. args first >>= (λ all. mark RightParenthesis >>= (λ last.
      pure (called (exprs all.list) (all.lines ++ last ∷ [])))))

  unfoldable pub operates : ℕ → Reader TailTree
  operates level = operator >>= (λ op. below.expr (suc level) >>= (λ right. pure (operated op.0 right (op.1 ∷ []))))

  unfoldable pub assigns : Reader TailTree
  assigns = operator >>= (λ op. below.expr assignment_level >>= (λ right. pure (assigned op.0 right (op.1 ∷ []))))

  unfoldable pub chooses : Reader TailTree
  chooses = mark Question >>= (λ first. below.expr expression_level >>= (λ if_true. mark Colon >>= (λ second. below.expr conditional_level >>= (λ if_false.
      pure (chosen if_true if_false (first ∷ second ∷ []))))))

  unfoldable pub commas : Reader TailTree
  commas = operator >>= (λ op. below.expr assignment_level >>= (λ right. pure (sequenced right (op.1 ∷ []))))

  -- what continues a left operand
  abbrev pub tail : Continuation → Reader TailTree
  tail Indexes = indexes
  tail Calls = calls
  tail Picks = picks
  tail Steps = steps
  tail (Operates level) = operates level
  tail Assigns = assigns
  tail Chooses = chooses
  tail Commas = commas
  tail Nothing = refuse

  -- what stands ahead continues the left operand, which may be `depth` deep
  unfoldable pub operation : ℕ → Continuation → ExprTree → Reader ExprTree
  operation depth continuation left state =
      if nat_lt depth (expr_depth left) then None else bind (tail continuation) (λ t. pure (join left t)) state

  unfoldable pub climb : ℕ → ℕ → ℕ → ExprTree → Reader ExprTree
  climb depth least zero left state = None
  climb depth least (suc turns) left state =
      if goes_on least (continuation_of (sight state)) (level left)
      then bind (operation depth (continuation_of (sight state)) left) (λ next. climb depth least turns next) state
      else Some (left, state)

  -- ---- what begins with no left operand

  unfoldable pub typed : Reader TypeRead
  typed = mark LeftParenthesis >>= (λ first. below.type_name >>= (λ type. mark RightParenthesis >>= (λ last. pure (type_read type (first ∷ last ∷ [])))))

  unfoldable pub literal_of : TypeNameTree → List ℕ → Reader ExprTree
  literal_of type lines = below.list >>= (λ list. pure (Literal type list lines))

  unfoldable pub cast_of : TypeRead → Reader ExprTree
  cast_of read = below.expr cast_level >>= (λ on. pure (Cast read.type on read.lines))

  -- what stands behind a type name in parentheses: a list in braces, or the operand of a cast
  unfoldable pub behind_type : ℕ → TypeRead → Reader ExprTree
  behind_type least read state =
      if sees_mark LeftBrace state then literal_of read.type read.lines state
      else (if nat_le least cast_level then cast_of read state else None)

  unfoldable pub paren : Reader ExprTree
  paren = mark LeftParenthesis >>= (λ first. below.expr expression_level >>= (λ inner. mark RightParenthesis >>= (λ last.
      pure (Paren inner (first ∷ last ∷ [])))))

  -- an expression that begins with a parenthesis
  unfoldable pub parenthesised : ℕ → Reader ExprTree
  parenthesised least state = if sees_type state then bind typed (λ read. behind_type least read) state else paren state

  unfoldable pub pre_step : Reader ExprTree
  pre_step = operator >>= (λ op. below.expr unary_level >>= (λ on. pure (stepped_of op.0 on (op.1 ∷ []))))

  unfoldable pub unary : Reader ExprTree
  unary = operator >>= (λ op. below.expr cast_level >>= (λ on. pure (Unary op.0 on (op.1 ∷ []))))

  unfoldable pub start_mark : ℕ → Punct → Reader ExprTree
  start_mark least punct =
      if same_mark punct LeftParenthesis then parenthesised least
      else (if same_mark punct PlusPlus || same_mark punct MinusMinus then pre_step
      else (if is_unary_operator punct then unary else refuse))

  -- the operand of `sizeof` that begins with a type name in parentheses, or that type name alone
  unfoldable pub sizeof_typed : ℕ → TypeRead → Reader ExprTree
  sizeof_typed line read state =
      if sees_mark LeftBrace state
      then bind (below.literal read.type read.lines) (λ on. pure (SizeofExpr on (line ∷ []))) state
      else Some (SizeofType read.type (line ∷ read.lines), state)

  unfoldable pub sizeof_expr : ℕ → Reader ExprTree
  sizeof_expr line = below.expr unary_level >>= (λ on. pure (SizeofExpr on (line ∷ [])))

  unfoldable pub sizeof_behind : ℕ → Reader ExprTree
  sizeof_behind line state = if sees_type state then bind typed (λ read. sizeof_typed line read) state else sizeof_expr line state

  unfoldable pub sizeof : Reader ExprTree
  sizeof = key keywords.Sizeof >>= (λ line. sizeof_behind line)

  abbrev pub start_by : ℕ → Sight → Reader ExprTree
  start_by least sights.Word = name
  start_by least sights.Number = constant
  start_by least sights.Letter = character
  start_by least sights.Text = texts
  start_by least (sights.Mark punct) = start_mark least punct
  start_by least (sights.Key keyword) = sizeof
  start_by least sights.End = refuse
  start_by least sights.TypeWord = refuse

  -- an expression of the level `least` or above that begins with no left operand
  unfoldable pub start : ℕ → Reader ExprTree
  start least state = start_by least (sight state) state

  -- an expression of the level `least` or above, whose parts are at most `depth` deep
  unfoldable pub expr_from : ℕ → ℕ → Reader ExprTree
  expr_from depth least = start least >>= (λ left. climb depth least (suc depth) left)

  -- a unary expression that begins with a compound literal, from behind its type name in parentheses on
  unfoldable pub literal_from : ℕ → TypeNameTree → List ℕ → Reader ExprTree
  literal_from depth type lines state =
      if nat_lt depth (type_name_depth type) then None
      else bind (literal_of type lines) (λ left. climb depth unary_level (suc depth) left) state

  -- a type name (6.7.6)
  unfoldable pub type_name_from : Reader TypeNameTree
  type_name_from = specs_from below false >>= (λ s. declarator_or_missing below Abstract >>= (λ d. pure (TypeName (specs s.list) d.tree [])))
