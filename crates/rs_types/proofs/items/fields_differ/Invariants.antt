use Rattle.std.proofs.Common.{◌≡◌, map, length}
use Rattle.rs_text.specs.Valid.{all_differ}
use Rattle.rs_tree.specs.Views.{field_view}
use Rattle.rs_types.proofs.items.fields_differ.Given as goal

-- what is left answers for all
abbrev pub invariant-loop-rest : goal.invariant-loop-rest
invariant-loop-rest l = all_differ (map (λ field. field.name) (map field_view l.rest)) ≡ all_differ (map (λ field. field.name) (map field_view l.fields))

abbrev pub decreases-loop-rest : goal.decreases-loop-rest
decreases-loop-rest l = length l.rest
