use Rattle.std.proofs.Common.{length}
use Rattle.emit_texts.proofs.scopes.+jump_to.Given as goal

abbrev pub decreases-jump_to : goal.decreases-jump_to
decreases-jump_to l = length l.scopes.now
