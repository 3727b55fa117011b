use Rattle.std.proofs.Common.{sym, ◌∙◌, map}
use Rattle.rs_tree.specs.Views.{module_view}
use Rattle.rs_layout.proofs.Found.{function_is_found}
use Rattle.rs_layout.proofs.lookup.own_function_at.Goals as goal

pub returns : goal.returns
returns c = c.function_at.ensures ∙ sym (function_is_found (map module_view c.args.modules.now) c.args.path.now.home c.args.path.now.name)
