-- Laws of items: what a function is to its callers doesn't depend on its body.
use Rattle.std.specs.Prelude.{◌≡◌}
use Rattle.cx_core.specs.Trees.{CFun}
use Rattle.whole_items.specs.Items.{WrittenBody, function_tree}
use Rattle.whole_names.specs.Kept.{NamedProgram}

pub record BodiesAreInside : Type 0 where
  pub name : (program : NamedProgram) (fun : CFun) (body other : WrittenBody) → (function_tree program fun body).name ≡ (function_tree program fun other).name
  pub attribute : (program : NamedProgram) (fun : CFun) (body other : WrittenBody) → (function_tree program fun body).attribute ≡ (function_tree program fun other).attribute
  pub params : (program : NamedProgram) (fun : CFun) (body other : WrittenBody) → (function_tree program fun body).params ≡ (function_tree program fun other).params
  pub result : (program : NamedProgram) (fun : CFun) (body other : WrittenBody) → (function_tree program fun body).result ≡ (function_tree program fun other).result
