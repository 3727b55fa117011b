-- The readers of initialisers (ISO C99, 6.7.8).
use Rattle.std.specs.Prelude.{Bool, not, ◌||◌, if◌then◌else◌, List, [], ◌∷◌, ◌++◌}
use Rattle.cx_cursor.specs.Lists.{many_ahead, taking}
use Rattle.cx_cursor.specs.Reading.{State, Reader, bind, ◌>>=◌, pure}
use Rattle.cx_cursor.specs.Sights.{sees_mark, mark, word}
use Rattle.cx_expr.specs.Below.{Below}
use Rattle.cx_expr.specs.Specifiers.{braced}
use Rattle.cx_lex.specs.declared.token.Punct.TheVariants.{LeftBrace, LeftBracket, RightBracket, Dot, Equal}
use Rattle.cx_tree.specs.Levels.{assignment_level, conditional_level}
use Rattle.cx_tree.specs.Trees.{InitialiserTree, Single, Braced, InitialiserListTree, InitialiserList, EntryTree, Entry, DesignatorTree, Element, Member, no_designators}
use Rattle.cx_tree.specs.Views.{entries, designators}
use Rattle.cx_words.specs.Beginnings.{sees_designator}

abbrev pub no_designator : {A : Type 0} → A → State → Bool
no_designator all state = not (sees_designator state)

abbrev pub with_designator : List DesignatorTree → DesignatorTree → List DesignatorTree
with_designator all next = all ++ next ∷ []

unfoldable pub member : Reader DesignatorTree
member = mark Dot >>= (λ line. word >>= (λ name. pure (Member name.0 (line ∷ name.1 ∷ []))))

module _ (below : Below) where
  -- an initialiser, which is no node of its own
  unfoldable pub initialiser : Reader InitialiserTree
  initialiser state =
      if sees_mark LeftBrace state then bind below.list (λ l. pure (Braced l)) state
      else bind (below.expr assignment_level) (λ e. pure (Single e)) state

  -- a list in braces
  unfoldable pub list_from : Reader InitialiserListTree
  list_from = braced below.entry [] >>= (λ read. pure (InitialiserList (entries read.items) read.last_comma read.marks))

  unfoldable pub designated : Reader EntryTree
  designated = taking below.designator with_designator [] >>= (λ one. many_ahead no_designator (taking below.designator with_designator) one >>= (λ all.
      mark Equal >>= (λ line. initialiser >>= (λ init. pure (Entry (designators all) init (line ∷ []))))))

  -- an initialiser in a list, with its designators
  unfoldable pub entry_from : Reader EntryTree
  entry_from state =
      if sees_designator state then designated state
      else bind initialiser (λ init. pure (Entry no_designators init [])) state

  unfoldable pub element : Reader DesignatorTree
  element = mark LeftBracket >>= (λ first. below.expr conditional_level >>= (λ at. mark RightBracket >>= (λ last. pure (Element at (first ∷ last ∷ [])))))

  unfoldable pub designator_from : Reader DesignatorTree
  designator_from state = if sees_mark LeftBracket state then element state else member state
