use Rattle.std.proofs.Common.{List, ℕ, ap, ◌∙◌}
use Rattle.rs_items.specs.Known.{view_names}
use Rattle.rs_items_sets.specs.Names.{rust_name}
use Rattle.rs_items_sets.specs.Sets.{with_name}
use Rattle.rs_items_sets.specs.declared.scope.NameScope.TheVariants.{Module}
use Rattle.whole_known.proofs.externals.take_name.Goals as goal

pub returns : goal.returns
returns c =
    let old = view_names c.args.names.now in
    let made = c.in_ok-rust_name.ensures in
    record {
      taken_are = made.taken ∙ ap (λ (name : List ℕ). with_name old.taken Module name)
          (made.name ∙ ap (λ (wanted : List ℕ). rust_name old.taken.module_names Module wanted) c.in_ok-wanted.ensures);
      same_known = made.known;
      same_fields = made.fields;
      same_bits = made.bits;
    }
