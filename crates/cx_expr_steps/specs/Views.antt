-- What operators that are marks stand for.
use Rattle.cx_rules.specs.Pieces.{CUnary, takes_address, follows, computes, CBinary, tests_both, tests_either, operates}
use Rattle.cx_expr_steps.specs.declared.marks.Binary.{Binary}
use Rattle.cx_expr_steps.specs.declared.marks.Binary.TheVariants as binary
use Rattle.cx_expr_steps.specs.declared.marks.Unary.{Unary}
use Rattle.cx_expr_steps.specs.declared.marks.Unary.TheVariants as unary

abbrev pub view_unary : Unary → CUnary
view_unary unary.TakesAddress = takes_address
view_unary unary.Follows = follows
view_unary (unary.Computes op) = computes op

abbrev pub view_binary : Binary → CBinary
view_binary binary.TestsBoth = tests_both
view_binary binary.TestsEither = tests_either
view_binary (binary.Operates op) = operates op
