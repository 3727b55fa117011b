use Rattle.std.proofs.Common.{◌<◌, ◌+◌, List, ℕ, length, get_or, map, drop, ap, arith, sym, ◌∙◌}
use Rattle.std.proofs.lemmas.Bool.Decides.{nat_tests}
use Rattle.rs_items.specs.Known.{view_names}
use Rattle.rs_text.specs.Tree.{ItemTree}
use Rattle.rs_tree.specs.Views.{item_view}
use Rattle.whole_given.specs.Whole.{named}
use Rattle.whole_records.proofs.Kept.{fields_again, keeps_more, step_at, types_keep}
use Rattle.whole_records.specs.Fields.{records_behind}
use Rattle.whole_records.proofs.records.write_numbers.Goals as goal

pub loop-one-preserved : goal.loop-one-preserved
loop-one-preserved c =
    let whole = named c.args.whole.now in
    let old = view_names c.loop-one.names in
    let new = view_names c.write.new.names in
    let numbers = c.args.numbers.now in
    let index = c.loop-one.one-index in
    let number = get_or numbers index 0 in
    let test = c.loop-one-test.true in
    let low : index < length numbers = grind (arith, nat_tests, test) in
    let step = c.in_ok-write.ensures in
    record {
      types = types_keep whole old new step.rest.rest c.loop-one.invariant.types;
      fields = fields_again whole number old new c.loop-one.invariant.fields step.rest;
      items = ap (λ (items : List ItemTree). records_behind whole c.args.unit (drop (index + 1) numbers) items) step.items
          ∙ sym (ap (λ (list : List ℕ). records_behind whole c.args.unit list (map item_view c.loop-one.items)) (step_at numbers index 0 low)) ∙ c.loop-one.invariant.items;
      rest = keeps_more c.loop-one.invariant.rest step.rest.rest;
    }
