use Rattle.std.proofs.Common.{◌≡◌, drop}
use Rattle.rs_lex.specs.Same.{same_tokens}
use Rattle.rs_lex.specs.Views.{tokens_view}
use Rattle.rs_lex.proofs.same.same_tokens.Given as goal

-- what is left of both lists is the same where both lists are
abbrev pub invariant-loop-token : goal.invariant-loop-token
invariant-loop-token l = same_tokens (tokens_view (drop l.token-index l.tokens)) (tokens_view l.rest) ≡ same_tokens (tokens_view l.tokens) (tokens_view l.others)
