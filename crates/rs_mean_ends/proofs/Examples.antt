-- In which ways some lists of statements end, which the check computes.
use Rattle.std.specs.Prelude.{◌≡◌, pos, true, false, [], ◌∷◌, Some, None, codes}
use Rattle.std.proofs.Common.{refl}
use Rattle.rs_text.specs.declared.integer.IntegerTy.TheVariants.{I32}
use Rattle.rs_text.specs.Tree.{Local, Truth, Literal, Stmt, Assign, If, Loop, Block, Break, Continue, Match, Return, stmts, arms, LiteralArm}
use Rattle.rs_mean_ends.specs.Ways.{goes, by_break, by_continue, stmts_end, stmts_name}

abbrev leaves_a : Stmt
leaves_a = If (Truth true) (stmts (Break (codes "'a") ∷ [])) (stmts (Return None ∷ []))

-- an `if` of which one side leaves a block and the other the function never comes to its end
never_goes : stmts_end (stmts (leaves_a ∷ [])) goes ≡ false
never_goes = refl

leaves : stmts_end (stmts (leaves_a ∷ [])) (by_break (codes "'a")) ≡ true
leaves = refl

-- what stands behind it isn't reached
not_behind : stmts_end (stmts (leaves_a ∷ Continue (codes "'l") ∷ [])) (by_continue (codes "'l")) ≡ false
not_behind = refl

-- its block does come to its end, and a loop without a label doesn't
block_goes_on : stmts_end (stmts (Block (codes "'a") (stmts (leaves_a ∷ [])) ∷ [])) goes ≡ true
block_goes_on = refl

block_leaves_by_no_own : stmts_end (stmts (Block (codes "'a") (stmts (leaves_a ∷ [])) ∷ [])) (by_break (codes "'a")) ≡ false
block_leaves_by_no_own = refl

loop_goes_round : stmts_end (stmts (Loop None (stmts (Assign (Local (codes "x")) (Literal (pos 1) I32) ∷ [])) ∷ [])) goes ≡ false
loop_goes_round = refl

loop_is_left : stmts_end (stmts (Loop (Some (codes "'a")) (stmts (leaves_a ∷ [])) ∷ [])) goes ≡ true
loop_is_left = refl

-- a `match` ends as its arms do
match_ends : stmts_end (stmts (Match (Literal (pos 1) I32) (arms (LiteralArm (pos 1) I32 (stmts (Return None ∷ [])) ∷ [])) (stmts []) ∷ [])) goes ≡ true
match_ends = refl

names_within : stmts_name (codes "'a") (stmts (Loop None (stmts (leaves_a ∷ [])) ∷ [])) ≡ true
names_within = refl

names_no_other : stmts_name (codes "'b") (stmts (Loop (Some (codes "'b")) (stmts (leaves_a ∷ [])) ∷ [])) ≡ false
names_no_other = refl
