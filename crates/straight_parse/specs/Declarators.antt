-- The readers of specifiers and declarators (ISO C99, 6.7), in the order of the tokens.
use Rattle.std.specs.Prelude.{ℕ, zero, suc, Bool, true, false, not, max, nat_lt, if◌then◌else◌, List, [], ◌∷◌, ◌++◌, Option, Some, None}
use Rattle.cx_lex.specs.declared.token.Keyword.{Keyword}
use Rattle.cx_lex.specs.declared.token.Keyword.TheVariants as keywords
use Rattle.cx_lex.specs.declared.token.Punct.TheVariants.{LeftParenthesis, RightParenthesis}
use Rattle.straight_parse.specs.declared.sight.Sight.{Sight}
use Rattle.straight_parse.specs.declared.sight.Sight.TheVariants as sights
use Rattle.straight_parse.specs.Lists.{ListRead, listed_none, with_item, with_line, many_ahead, taking, behind_commas}
use Rattle.straight_parse.specs.Reading.{Reader, bind, ◌>>=◌, pure, refuse}
use Rattle.straight_parse.specs.Sights.{sight, shows_mark, mark, word, keyword}
use Rattle.straight_tree.specs.Trees.{SpecTree, Int, Void, SpecsTree, Specs, DeclaratorTree, Missing, Identifier, Function, ParamTree, Param}
use Rattle.straight_tree.specs.Views.{specs_list, params}

-- ---- specifiers (6.7)

-- the specifier that is this keyword
abbrev pub spec_of : Keyword → Option SpecTree
spec_of keywords.Int = Some Int
spec_of keywords.Void = Some Void
spec_of _ = None

abbrev pub spec_or_refuse : Option SpecTree → ℕ → Reader (SpecTree × ℕ)
spec_or_refuse None line = refuse
spec_or_refuse (Some tree) line = pure (tree, line)

-- a specifier, and its line
unfoldable pub spec : Reader (SpecTree × ℕ)
spec = keyword >>= (λ k. spec_or_refuse (spec_of k.0) k.1)

-- the specifiers so far, and their lines
pub record SpecsRead : Type 0 where
  pub list : List SpecTree
  pub lines : List ℕ

abbrev pub specs_read : List SpecTree → List ℕ → SpecsRead
specs_read list lines = record { list = list; lines = lines }

abbrev pub with_spec : SpecsRead → SpecTree × ℕ → SpecsRead
with_spec all next = record { list = all.list ++ next.0 ∷ []; lines = all.lines ++ next.1 ∷ [] }

-- no keyword that is a specifier stands ahead
abbrev pub is_no_spec : Option SpecTree → Bool
is_no_spec None = true
is_no_spec (Some tree) = false

abbrev pub stops_specs : Sight → Bool
stops_specs (sights.Key k) = is_no_spec (spec_of k)
stops_specs sights.End = true
stops_specs sights.Word = true
stops_specs sights.Number = true
stops_specs (sights.Mark punct) = true
stops_specs sights.Literal = true

abbrev pub specs_of : SpecsRead → SpecsTree
specs_of all = Specs (specs_list all.list) all.lines

-- one specifier or more
unfoldable pub some_specs : Reader SpecsTree
some_specs = taking spec with_spec (specs_read [] []) >>= (λ first. many_ahead stops_specs (taking spec with_spec) first >>= (λ all. pure (specs_of all)))

-- specifiers at most `depth` deep
unfoldable pub specs : ℕ → Reader SpecsTree
specs zero = refuse
specs (suc depth) = some_specs

-- ---- declarators (6.7.5)

-- a declarator and its depth
abbrev pub MeasuredDeclarator : Type 0
MeasuredDeclarator = DeclaratorTree × ℕ

abbrev pub measured_declarator : DeclaratorTree → ℕ → MeasuredDeclarator
measured_declarator tree depth = (tree, depth)

-- a parameter and its depth
abbrev pub MeasuredParam : Type 0
MeasuredParam = ParamTree × ℕ

abbrev pub measured_param : ParamTree → ℕ → MeasuredParam
measured_param tree depth = (tree, depth)

unfoldable pub identifier : Reader MeasuredDeclarator
identifier = word >>= (λ w. pure (Identifier w.0 (w.1 ∷ []), 1))

abbrev pub function_of : MeasuredDeclarator → ListRead ParamTree → MeasuredDeclarator
function_of of list = (Function of.0 (params list.list) list.lines, suc (max of.1 list.depth))

abbrev pub stops_functions : Sight → Bool
stops_functions sight = not (shows_mark LeftParenthesis sight)

-- `param` reads a parameter that is less deep
module _ (param : Reader MeasuredParam) where
  unfoldable pub params_from : ℕ → Reader (ListRead ParamTree)
  params_from first = param >>= (λ p. behind_commas param (with_item (listed_none (first ∷ [])) p))

  -- the parameters of a function, whose name may be `depth` deep
  unfoldable pub function : ℕ → MeasuredDeclarator → Reader MeasuredDeclarator
  function depth of state =
      if nat_lt depth of.1 then None
      else bind (mark LeftParenthesis) (λ first. params_from first >>= (λ list. mark RightParenthesis >>= (λ last.
      pure (function_of of (with_line list last))))) state

  unfoldable pub declarator_from : ℕ → Reader MeasuredDeclarator
  declarator_from depth = identifier >>= (λ of. many_ahead stops_functions (function depth) of)

-- `declarator` reads one with a name
module _ (declarator : Reader MeasuredDeclarator) where
  -- a declarator, or none where no identifier stands ahead
  abbrev pub declarator_by : Sight → Reader MeasuredDeclarator
  declarator_by sights.Word = declarator
  declarator_by sights.End = pure (Missing, 1)
  declarator_by sights.Number = pure (Missing, 1)
  declarator_by (sights.Key k) = pure (Missing, 1)
  declarator_by (sights.Mark punct) = pure (Missing, 1)
  declarator_by sights.Literal = pure (Missing, 1)

  unfoldable pub declarator_or_missing : Reader MeasuredDeclarator
  declarator_or_missing state = declarator_by (sight state) state

  unfoldable pub param_from : ℕ → Reader MeasuredParam
  param_from depth = specs depth >>= (λ s. declarator_or_missing >>= (λ d. pure (Param s d.0, suc (max 1 d.1))))

unfoldable mutual
  -- a declarator with a name, at most `depth` deep
  pub declarator : ℕ → Reader MeasuredDeclarator
  declarator zero = refuse
  declarator (suc depth) = declarator_from (param depth) depth

  -- a parameter, at most `depth` deep
  pub param : ℕ → Reader MeasuredParam
  param zero = refuse
  param (suc depth) = param_from (declarator depth) depth
