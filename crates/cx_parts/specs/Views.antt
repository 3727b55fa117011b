-- What a part of an object stands for.
use Rattle.std.specs.Prelude.{◌++◌, List, ℕ}
use Rattle.cx_core.specs.Views.{view_type}
use Rattle.cx_operands.specs.Views.{view_value_type}
use Rattle.cx_parts.specs.declared.at.At.{At}
use Rattle.cx_parts.specs.declared.landing.Kind.{Kind}
use Rattle.cx_parts.specs.declared.landing.Kind.TheVariants as kind
use Rattle.cx_rules.specs.Initial.{CAt, CKind, of_text, of_type}

abbrev pub view_at : At → CAt
view_at at = record { path = at.path; type = view_type at.ty }

-- what is given: a string literal, or a value of a type
abbrev pub view_kind : Kind → CKind
view_kind kind.Text = of_text
view_kind (kind.Value type) = of_type (view_value_type type)
