use Rattle.std.proofs.Common.{List, length, ◌<◌, sym, subst}
use Rattle.rs_tree.specs.declared.item.Module.{Module}
use Rattle.rust_job.proofs.Names.{ill_unit}
use Rattle.rust_job.proofs.run.ill_typed.Goals as goal

pub name_of-requires : goal.name_of-requires
name_of-requires c = subst (λ (held : List Module). c.args.unit < length held) (sym c.as_slice.ensures) (ill_unit c.args.whole.now.modules c.args.unit c.args.item c.requires)
