use Rattle.std.proofs.Common.{◌≡◌, length, option_map, sym, ◌∙◌}
use Rattle.std.proofs.lemmas.List.{length-map}
use Rattle.cx_core.specs.Views.{view_record}
use Rattle.rs_items.specs.Known.{view_names}
use Rattle.whole_given.specs.Whole.{named}
use Rattle.whole_known.proofs.Kept.{on_ok}
use Rattle.whole_records.proofs.Kept.{base_keeps, fields_all}
use Rattle.whole_records.proofs.records.keep_fields.Goals as goal

pub returns-clause-base : goal.returns-clause-base
returns-clause-base c =
    on_ok c.write_first.result (λ writes. base_keeps (named c.args.whole.now) (view_names c.args.names.now) (view_names c.write_first.new.names) writes.rest c.requires.base) c.write_first.ensures

pub returns-clause-fields : goal.returns-clause-fields
returns-clause-fields c =
    let whole = named c.args.whole.now in
    let all : c.in_ok-count.count ≡ length whole.program.types.records = c.in_ok-count.ensures ∙ sym (length-map c.args.whole.now.0.types.records (option_map view_record)) in
    on_ok c.write_first.result (fields_all whole (view_names c.args.names.now) (view_names c.write_first.new.names) c.in_ok-count.count c.requires.none all) c.write_first.ensures
