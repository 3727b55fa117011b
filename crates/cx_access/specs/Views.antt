-- What the values of src/ stand for in the definitions.
use Rattle.std.specs.Prelude.{List}
use Rattle.cx_access.specs.declared.kinds.Kind.{Kind}
use Rattle.cx_access.specs.declared.kinds.Kind.TheVariants as kept
use Rattle.cx_access.specs.declared.setting.Setting.{Setting}
use Rattle.cx_core.specs.Trees.{CTypes}
use Rattle.cx_core.specs.Views.{view_program, view_types}
use Rattle.cx_mean.specs.Accesses.{CKind, of_scalar, of_record}
use Rattle.cx_mean.specs.Settings.{CPair, CSetting, compatible_records}

-- the pairs of records of two units that are compatible
unfoldable pub compatible_pairs : CTypes → List CPair
compatible_pairs types = compatible_records types

abbrev pub view_setting : Setting → CSetting
view_setting one = record {
  program = view_program one.program.now;
  layouts = one.layouts.now;
  pairs = compatible_pairs (view_types one.program.now.types);
}

abbrev pub view_kind : Kind → CKind
view_kind (kept.Scalar kind) = of_scalar kind
view_kind (kept.Record laid) = of_record laid
