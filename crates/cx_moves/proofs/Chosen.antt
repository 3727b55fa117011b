-- Choices, by the forms of statements.
use Rattle.std.proofs.Common.{◌≡◌, refl, ℤ, Bool, true, false, Option, Some, None}
use Rattle.cx_core.specs.Trees.{CExpr, CStmt, CStmtForm, label, case, default, block, expression, if_then, switch, while, do_while, for_loop, goto, continue, break, returns, begin, no_else, else_do}
use Rattle.cx_mean.specs.Moves.{choosing, switching, following, stand, next_in}
use Rattle.cx_mean.specs.Paths.{CTarget, case_of, default_case, CWay, CLevel, CSite, way_to}
use Rattle.cx_moves.specs.Moving.{chosen_as, switching_as, switched_by, or_default}
use Rattle.mem_bytes.specs.Memory.{Blocks}

pub chosen_is : (form : CStmtForm) (holds : Bool) (level : CLevel) (site : CSite) (blocks : Blocks) →
    chosen_as form holds level site blocks ≡ choosing form holds level site.levels site.bottom blocks
chosen_is (label name body) true level site blocks = refl
chosen_is (label name body) false level site blocks = refl
chosen_is (case value body) true level site blocks = refl
chosen_is (case value body) false level site blocks = refl
chosen_is (default body) true level site blocks = refl
chosen_is (default body) false level site blocks = refl
chosen_is (block stmts) true level site blocks = refl
chosen_is (block stmts) false level site blocks = refl
chosen_is (expression value) true level site blocks = refl
chosen_is (expression value) false level site blocks = refl
chosen_is (if_then test body otherwise) true level site blocks = refl
chosen_is (if_then test body no_else) false level site blocks = refl
chosen_is (if_then test body (else_do other)) false level site blocks = refl
chosen_is (switch test body) true level site blocks = refl
chosen_is (switch test body) false level site blocks = refl
chosen_is (while test body) true level site blocks = refl
chosen_is (while test body) false level site blocks = refl
chosen_is (do_while body test) true level site blocks = refl
chosen_is (do_while body test) false level site blocks = refl
chosen_is (for_loop first test next body) true level site blocks = refl
chosen_is (for_loop first test next body) false level site blocks = refl
chosen_is (goto name) true level site blocks = refl
chosen_is (goto name) false level site blocks = refl
chosen_is continue true level site blocks = refl
chosen_is continue false level site blocks = refl
chosen_is break true level site blocks = refl
chosen_is break false level site blocks = refl
chosen_is (returns value) true level site blocks = refl
chosen_is (returns value) false level site blocks = refl
chosen_is (begin number puts) true level site blocks = refl
chosen_is (begin number puts) false level site blocks = refl

switched_is : (value : ℤ) (test : CExpr) (body : CStmt) (found other : Option CWay) (level : CLevel) (site : CSite) (blocks : Blocks) →
    way_to (case_of value) body ≡ found → way_to default_case body ≡ other →
    switched_by (or_default body found) level site blocks ≡ switching (switch test body) value level site.levels site.bottom blocks
switched_is value test body (Some way) other level site blocks found none = rw found refl
switched_is value test body None (Some way) level site blocks found is = rw (found, is) refl
switched_is value test body None None level site blocks found is = rw (found, is) refl

pub switching_is : (form : CStmtForm) (value : ℤ) (level : CLevel) (site : CSite) (blocks : Blocks) →
    switching_as form value level site blocks ≡ switching form value level site.levels site.bottom blocks
switching_is (label name body) value level site blocks = refl
switching_is (case one body) value level site blocks = refl
switching_is (default body) value level site blocks = refl
switching_is (block stmts) value level site blocks = refl
switching_is (expression one) value level site blocks = refl
switching_is (if_then test body otherwise) value level site blocks = refl
switching_is (switch test body) value level site blocks = switched_is value test body _ _ level site blocks refl refl
switching_is (while test body) value level site blocks = refl
switching_is (do_while body test) value level site blocks = refl
switching_is (for_loop first test next body) value level site blocks = refl
switching_is (goto name) value level site blocks = refl
switching_is continue value level site blocks = refl
switching_is break value level site blocks = refl
switching_is (returns one) value level site blocks = refl
switching_is (begin number puts) value level site blocks = refl
