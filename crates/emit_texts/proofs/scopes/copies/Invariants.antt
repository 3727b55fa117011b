use Rattle.std.proofs.Common.{◌≡◌, ◌++◌, drop}
use Rattle.emit_texts.proofs.scopes.copies.Given as goal

abbrev pub invariant-loop-scope : goal.invariant-loop-scope
invariant-loop-scope l = l.made ++ drop l.scope-index l.scopes ≡ l.scopes
