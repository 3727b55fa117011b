use Rattle.std.proofs.Common.{◌≡◌, ◌++◌, replicate}
use Rattle.rs_text.specs.Tokens.{Close}
use Rattle.rs_lex.specs.Views.{tokens_view}
use Rattle.rs_lex.proofs.angles.push_ends.Given as goal

abbrev pub invariant-loop-end : goal.invariant-loop-end
invariant-loop-end l = tokens_view l.tokens ≡ tokens_view l.fn.tokens ++ replicate l._end Close
