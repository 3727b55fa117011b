use Rattle.std.proofs.Common.{List, ℕ, ap, ◌∙◌}
use Rattle.rs_items.specs.Known.{view_names}
use Rattle.rs_items_sets.specs.Sets.{with_name}
use Rattle.rs_items_sets.specs.declared.scope.NameScope.TheVariants.{Function}
use Rattle.whole_locals.proofs.Several.{anyway}
use Rattle.whole_locals.proofs.names.give.Goals as goal

pub returns-clause-taken : goal.returns-clause-taken
returns-clause-taken c =
    let old = view_names c.args.names.now in
    let made = c.in_ok-name.ensures in
    anyway c.push.result (record {
      taken_are = made.taken ∙ ap (λ (name : List ℕ). with_name old.taken Function name) made.name;
      same_known = made.known;
      same_fields = made.fields;
      same_bits = made.bits;
    })
