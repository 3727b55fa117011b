use Rattle.std.proofs.Common.{◌≡◌, List, Some, map, ap, sym, subst, ◌∙◌, is_some}
use Rattle.cr_base.specs.Layout.{no_front}
use Rattle.rs_mean.specs.Layout.{laid_of}
use Rattle.rs_text.specs.Tree.{RecordTree}
use Rattle.rs_tree.specs.declared.item.Field.{Field}
use Rattle.rs_tree.specs.declared.item.Module.{Module}
use Rattle.rs_tree.specs.Views.{crate_view, field_view, module_view, record_view}
use Rattle.rs_layout.specs.Layouts.{ModulesAreAligned, byte_numbered}
use Rattle.rs_layout.specs.LayoutsNumbered.{record_numbered}
use Rattle.rs_layout.proofs.LayoutsAligned.{crate_aligned}
use Rattle.rs_layout.proofs.LayoutsFields.{byte_is, byte_none}
use Rattle.rs_layout.proofs.LayoutsNames.{byte_named}
use Rattle.rs_layout.proofs.layout.field_at.Goals as goal

pub byte_numbered-requires : goal.byte_numbered-requires
byte_numbered-requires c =
    subst (λ (list : List Module). ModulesAreAligned (map module_view list)) (sym c.as_slice-modules.ensures)
    (crate_aligned (crate_view c.args.whole.now) c.requires.valid)

pub returns-in-Some-clause-byte : goal.returns-in-Some-clause-byte
returns-in-Some-clause-byte c =
    let modules = map module_view c.args.whole.now.modules in
    let one : RecordTree = record_view c.in-Some.one.now in
    let found : Some one ≡ record_numbered modules c.args.unit c.args.item =
    c.in-Some.ensures ∙ ap (λ (list : List Module). record_numbered (map module_view list) c.args.unit c.args.item) c.as_slice-modules.ensures in
    c.byte_numbered.ensures
    ∙ ap (λ (list : List Module). byte_numbered (laid_of (map module_view list)) (no_front one.is_union) (map field_view c.as_slice.result.now) c.args.field) c.as_slice-modules.ensures
    ∙ ap (λ (list : List Field). byte_numbered (laid_of modules) (no_front one.is_union) (map field_view list) c.args.field) c.as_slice.ensures
    ∙ byte_is (crate_view c.args.whole.now) c.args.unit c.args.item c.args.field one c.requires.valid c.requires.typed found

pub returns-in-Some-clause-none : goal.returns-in-Some-clause-none
returns-in-Some-clause-none c =
    let modules = map module_view c.args.whole.now.modules in
    let one : RecordTree = record_view c.in-Some.one.now in
    let found : Some one ≡ record_numbered modules c.args.unit c.args.item =
    c.in-Some.ensures ∙ ap (λ (list : List Module). record_numbered (map module_view list) c.args.unit c.args.item) c.as_slice-modules.ensures in
    let byte : c.byte_numbered.result ≡ byte_numbered (laid_of modules) (no_front one.is_union) one.fields c.args.field =
    c.byte_numbered.ensures
    ∙ ap (λ (list : List Module). byte_numbered (laid_of (map module_view list)) (no_front one.is_union) (map field_view c.as_slice.result.now) c.args.field) c.as_slice-modules.ensures
    ∙ ap (λ (list : List Field). byte_numbered (laid_of modules) (no_front one.is_union) (map field_view list) c.args.field) c.as_slice.ensures in
    let same = ap (λ place. is_some place) byte
    ∙ byte_none (crate_view c.args.whole.now) c.args.unit c.args.item c.args.field one c.requires.valid c.requires.typed found in (
      λ none. sym same ∙ none,
      λ none. same ∙ none,
    )

pub returns-in-Some-clause-named : goal.returns-in-Some-clause-named
returns-in-Some-clause-named c =
    returns-in-Some-clause-byte c ∙ byte_named (crate_view c.args.whole.now) c.args.unit c.args.item c.args.field c.requires.valid c.requires.typed
