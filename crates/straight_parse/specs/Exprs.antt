-- The reader of expressions (ISO C99, 6.5), in the order of the tokens.
use Rattle.std.specs.Prelude.{ℕ, zero, suc, max, ◌&&◌, nat_lt, nat_le, if◌then◌else◌, [], ◌∷◌, Option, Some, None}
use Rattle.cx_lex.specs.declared.token.Punct.{Punct}
use Rattle.cx_lex.specs.declared.token.Punct.TheVariants.{LeftParenthesis, RightParenthesis, Semicolon}
use Rattle.straight_parse.specs.declared.continuation.Continuation.{Continuation}
use Rattle.straight_parse.specs.declared.continuation.Continuation.TheVariants.{Nothing, Operates, Assigns, Calls}
use Rattle.straight_parse.specs.declared.sight.Sight.{Sight}
use Rattle.straight_parse.specs.declared.sight.Sight.TheVariants as sights
use Rattle.straight_parse.specs.Continuations.{continuation_of, goes_on}
use Rattle.straight_parse.specs.Lists.{ListRead, listed_none, with_item, with_line, behind_commas}
use Rattle.straight_parse.specs.Reading.{Reader, bind, ◌>>=◌, pure, refuse}
use Rattle.straight_parse.specs.Sights.{sight, sees_mark, same_mark, mark, word, number, operator}
use Rattle.straight_tree.specs.Levels.{expression_level, assignment_level, cast_level, unary_level, is_unary_operator, level}
use Rattle.straight_tree.specs.Trees.{ExprTree, Name, Number, Paren, Call, Unary, Binary, Assign}
use Rattle.straight_tree.specs.Views.{exprs}

-- an expression and its depth
abbrev pub Measured : Type 0
Measured = ExprTree × ℕ

abbrev pub measured : ExprTree → ℕ → Measured
measured tree depth = (tree, depth)

unfoldable pub name : Reader Measured
name = word >>= (λ w. pure (Name w.0 (w.1 ∷ []), 1))

unfoldable pub constant : Reader Measured
constant = number >>= (λ n. pure (Number n.0 n.1 (n.2 ∷ []), 1))

-- the call of what was read before, with the arguments that were read
abbrev pub call_of : Measured → ListRead ExprTree → Measured
call_of of args = (Call of.0 (exprs args.list) args.lines, suc (max of.1 args.depth))

-- `below` reads an expression of a level or above that is less deep
module _ (below : ℕ → Reader Measured) where
  unfoldable pub paren : Reader Measured
  paren = mark LeftParenthesis >>= (λ first. below expression_level >>= (λ inner. mark RightParenthesis >>= (λ last.
      pure (Paren inner.0 (first ∷ last ∷ []), suc inner.1))))

  unfoldable pub unary : Reader Measured
  unary = operator >>= (λ op. below cast_level >>= (λ on. pure (Unary op.0 on.0 (op.1 ∷ []), suc on.1)))

  unfoldable pub start_mark : ℕ → Punct → Reader Measured
  start_mark least punct =
      if same_mark punct LeftParenthesis then paren
      else (if is_unary_operator punct && nat_le least unary_level then unary else refuse)

  abbrev pub start_by : ℕ → Sight → Reader Measured
  start_by least sights.Word = name
  start_by least sights.Number = constant
  start_by least (sights.Mark punct) = start_mark least punct
  start_by least sights.End = refuse
  start_by least (sights.Key keyword) = refuse
  start_by least sights.Literal = refuse

  -- an expression of the level `least` or above that begins with no operand
  unfoldable pub start : ℕ → Reader Measured
  start least state = start_by least (sight state) state

  unfoldable pub args : ℕ → Reader (ListRead ExprTree)
  args first = below assignment_level >>= (λ arg. behind_commas (below assignment_level) (with_item (listed_none (first ∷ [])) arg))

  unfoldable pub args_or_none : ℕ → Reader (ListRead ExprTree)
  args_or_none first state = if sees_mark RightParenthesis state then Some (listed_none (first ∷ []), state) else args first state

  unfoldable pub call : Measured → Reader Measured
  call left = mark LeftParenthesis >>= (λ first. args_or_none first >>= (λ list. mark RightParenthesis >>= (λ last.
      pure (call_of left (with_line list last)))))

  unfoldable pub binary : ℕ → Measured → Reader Measured
  binary level left = operator >>= (λ op. below (suc level) >>= (λ right.
      pure (Binary left.0 op.0 right.0 (op.1 ∷ []), suc (max left.1 right.1))))

  unfoldable pub assign : Measured → Reader Measured
  assign left = operator >>= (λ op. below assignment_level >>= (λ right.
      pure (Assign left.0 op.0 right.0 (op.1 ∷ []), suc (max left.1 right.1))))

  abbrev pub operation_by : Continuation → Measured → Reader Measured
  operation_by (Operates level) left = binary level left
  operation_by Assigns left = assign left
  operation_by Calls left = call left
  operation_by Nothing left = refuse

  -- what stands ahead continues the left operand, which may be `depth` deep
  unfoldable pub operation : ℕ → Continuation → Measured → Reader Measured
  operation depth continuation left = if nat_lt depth left.1 then refuse else operation_by continuation left

  unfoldable pub climb : ℕ → ℕ → ℕ → Measured → Reader Measured
  climb depth least zero left state = None
  climb depth least (suc turns) left state =
      if goes_on least (continuation_of (sight state)) (level left.0)
      then bind (operation depth (continuation_of (sight state)) left) (λ next. climb depth least turns next) state
      else Some (left, state)

  -- an expression of the level `least` or above, whose parts are at most `depth` deep
  unfoldable pub expr_from : ℕ → ℕ → Reader Measured
  expr_from depth least = start least >>= (λ left. climb depth least (suc depth) left)

-- an expression of the level `least` or above, at most `depth` deep
unfoldable pub expr : ℕ → ℕ → Reader Measured
expr zero least = refuse
expr (suc depth) least = expr_from (expr depth) depth least

-- an expression, or none where a semicolon stands ahead
unfoldable pub option_expr : ℕ → Reader (Option ExprTree)
option_expr depth state =
    if sees_mark Semicolon state then Some (None, state)
    else bind (expr depth expression_level) (λ e. pure (Some e.0)) state
