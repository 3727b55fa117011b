-- The readers of what may hold one another, at each depth.
use Rattle.std.specs.Prelude.{ℕ, zero, suc}
use Rattle.cx_cursor.specs.Reading.{refuse}
use Rattle.cx_expr.specs.Below.{Below}
use Rattle.cx_expr.specs.Declarators.{declarator_from, param_from}
use Rattle.cx_expr.specs.Exprs.{expr_from, literal_from, type_name_from}
use Rattle.cx_expr.specs.Initialisers.{list_from, entry_from, designator_from}
use Rattle.cx_expr.specs.Specifiers.{spec_from, member_from, member_declarator_from, enumerator_from}

-- nothing is read
abbrev pub nothing : Below
nothing = record {
  expr = λ least. refuse;
  literal = λ type. λ lines. refuse;
  type_name = refuse;
  spec = refuse;
  member = refuse;
  member_declarator = refuse;
  enumerator = refuse;
  declarator = λ form. refuse;
  param = refuse;
  list = refuse;
  entry = refuse;
  designator = refuse;
}

-- what is at most one node deeper than `below` reads, whose parts are at most `depth` deep
abbrev pub above : Below → ℕ → Below
above below depth = record {
  expr = expr_from below depth;
  literal = literal_from below depth;
  type_name = type_name_from below;
  spec = spec_from below;
  member = member_from below;
  member_declarator = member_declarator_from below;
  enumerator = enumerator_from below;
  declarator = declarator_from below depth;
  param = param_from below;
  list = list_from below;
  entry = entry_from below;
  designator = designator_from below;
}

-- readers of what is at most so many nodes deep
unfoldable pub readers : ℕ → Below
readers zero = nothing
readers (suc depth) = above (readers depth) depth
