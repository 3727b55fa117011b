use Rattle.rs_tree.specs.Views.{crate_view}
use Rattle.std.proofs.Common.{refl}
use Rattle.rs_parse.proofs.ModuleFiles.{name_in, stands, no_file, module_read, only_of, only_within}
use Rattle.rs_parse.proofs.crates.read_module.Goals as goal

pub unreachable-requires : goal.unreachable-requires
unreachable-requires c =
    no_file c.in_ok-number.field-0 _ c.in_ok-number.ensures.once
    (stands c.args.files.now (crate_view c.args.outline.now) c.args.index _ c.requires.named
    (name_in c.args.outline.now.modules c.as_slice.result.now c.args.index c.index-as_slice-index.result c.as_slice.ensures c.requires.within))
    c.in_default.is

pub module_at-requires : goal.module_at-requires
module_at-requires c = only_within c.args.files.now _ c.in-Some.number (only_of c.args.files.now _ c.in_ok-number.field-0 c.in-Some.number c.in_ok-number.ensures.here c.in-Some.is)

pub returns : goal.returns
returns c =
    module_read c.args.files.now (crate_view c.args.outline.now) c.args.index c.in-Some.number _ _ c.module_at.result
    (name_in c.args.outline.now.modules c.as_slice.result.now c.args.index c.index-as_slice-index.result c.as_slice.ensures c.requires.within)
    (only_of c.args.files.now _ c.in_ok-number.field-0 c.in-Some.number c.in_ok-number.ensures.here c.in-Some.is) refl c.module_at.ensures
