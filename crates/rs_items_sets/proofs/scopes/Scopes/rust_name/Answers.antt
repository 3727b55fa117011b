use Rattle.std.proofs.Common.{◌∙◌}
use Rattle.rs_items_sets.specs.Sets.{set_of}
use Rattle.rs_items_sets.proofs.FirstFree.{names_first}
use Rattle.rs_items_sets.proofs.scopes.Scopes.rust_name.Goals as goal

pub returns-clause-name : goal.returns-clause-name
returns-clause-name c =
    let same = c.of.ensures ∙ (c.in_ok-copy.ensures.items ∙ c.as_slice.ensures.value) in
    same ∙ names_first.only (set_of c.args.self.now c.args.scope) c.args.scope c.args.name.now c.in_ok-found.found.name.items c.is_few.ensures c.in_ok-found.ensures.name
