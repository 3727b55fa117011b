use Rattle.std.proofs.Common.{◌≡◌, List, IfOk, ap, arith, slice_get, subst, sym, ◌∙◌}
use Rattle.std.proofs.lemmas.Bool.Decides.{nat_tests}
use Rattle.cr_base.specs.declared.layout.Spot.{Spot}
use Rattle.cx_core.specs.Views.{view_record, view_types}
use Rattle.rs_items.specs.Known.{view_names}
use Rattle.rs_items.specs.Laid.{IsLaidOut}
use Rattle.rs_items.specs.Records.{record_tree}
use Rattle.rs_items_sets.specs.Sets.{TakenNames}
use Rattle.rs_text.specs.Tree.{ItemTree, RecordItem}
use Rattle.rs_tree.specs.Views.{item_view}
use Rattle.whole_given.specs.Whole.{named}
use Rattle.whole_records.proofs.Kept.{fields_there, flat_there, on_both, put_there}
use Rattle.whole_records.proofs.Rows.{is_laid_out}
use Rattle.whole_records.proofs.Walks.{made_is}
use Rattle.whole_records.specs.Laid.{view_laid}
use Rattle.whole_records.proofs.records.write_laid.Goals as goal

pub record_item-requires : goal.record_item-requires
record_item-requires c =
    let types = view_types c.args.whole.now.0.types in
    let one = view_record c.args.one.now in
    let row = view_laid c.args.laid.now in
    subst (λ (spots : List Spot). IsLaidOut one spots row.laid.size row.laid.align) (sym c.as_slice.ensures)
    (is_laid_out types c.args.number one row (flat_there (slice_get types.records c.args.number) one c.requires.one) c.requires.laid)

pub returns-clause-item : goal.returns-clause-item
returns-clause-item c =
    let whole = named c.args.whole.now in
    let old = view_names c.args.names.now in
    let one = view_record c.args.one.now in
    let row = view_laid c.args.laid.now in
    subst (λ (tree : ItemTree). IfOk c.record_item.result (λ item. item_view item ≡ tree))
    (ap (λ (spots : List Spot). RecordItem (record_tree old.known one spots row.laid.align)) c.as_slice.ensures ∙ made_is whole c.args._unit old.known c.requires.types one row)
    c.record_item.ensures.item

pub returns-clause-rest : goal.returns-clause-rest
returns-clause-rest c =
    let whole = named c.args.whole.now in
    let old = view_names c.args.names.now in
    let new = view_names c.record_item.new.names in
    let one = view_record c.args.one.now in
    let test = c.if-one-number.false in
    let same : c.args.one.now.number ≡ c.args.number = grind (arith, nat_tests, test) in
    on_both c.record_item.result (λ fields taken. record {
      fields_are = λ other. put_there whole c.args.number c.args.one.now.number other _ old.fields (new.fields other) same
          (fields_there whole old.known c.requires.types c.args.number one (view_laid c.args.laid.now) c.requires.one c.requires.laid c.as_slice.result.now c.as_slice.ensures) (fields other);
      rest = record {
        same_known = c.record_item.ensures.known;
        same_items = ap (λ (t : TakenNames). t.module_names) taken;
        same_own = ap (λ (t : TakenNames). t.own_names) taken;
        same_bits = c.record_item.ensures.bits;
      };
    }) c.record_item.ensures.fields c.record_item.ensures.taken
