use Rattle.std.proofs.Common.{◌∙◌}
use Rattle.front.proofs.NameLaws.{names_utf8}
use Rattle.front.proofs.crate_files.module_paths.Goals as goal

pub path_of_module-requires : goal.path_of_module-requires
path_of_module-requires c =
    names_utf8 c.args.names.now c.loop-name.name-index c.bytes.result.now _ c.requires c.loop-name-test.true (c.bytes.ensures ∙ c.name-item.is)
