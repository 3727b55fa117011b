use Rattle.std.proofs.Common.{sym, ◌∙◌, rules}
use Rattle.mem_bytes.proofs.Stored.{dead_there}
use Rattle.mem_bytes.proofs.list_store.is_dead.Goals as goal

pub returns-in-Some-held : goal.returns-in-Some-held
returns-in-Some-held c is =
    dead_there _ _ c.in-Some.held.now c.in-Some-held.chunk (search rules) (search rules) c.in-Some-held.is (sym c.is_dead.ensures ∙ is)
