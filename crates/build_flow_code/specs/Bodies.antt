-- What the body of a function is written with.
use Rattle.std.specs.Prelude.{false, ℕ, suc, ◌+◌, ◌==◌, if◌then◌else◌, List, [], ◌∷◌, map, Option, Some, None}
use Rattle.build_flow_code.specs.declared.body.Body.{Body}
use Rattle.build_flow_code.specs.declared.body.Zeros.{Zeros}
use Rattle.build_flow_nodes.specs.Parts.{BodyNames}
use Rattle.cx_core.specs.Trees.{CTy, ty, void, CObject}
use Rattle.cx_core.specs.Typing.{object_with}
use Rattle.cx_core.specs.Views.{view_object, view_type}
use Rattle.lift_exprs.specs.Names.{Names}
use Rattle.lift_stores.specs.Names.{lift_names}
use Rattle.rs_items.specs.Known.{view_names}

-- the first place of a number in a list, or behind its end
abbrev pub index_in : ℕ → List ℕ → ℕ
index_in number [] = 0
index_in number (one ∷ others) = if number == one then 0 else suc (index_in number others)

abbrev pub zero_name : Names → Zeros → ℕ → List ℕ
zero_name names zeros number = names.temporary (zeros.first + index_in number zeros.objects)

abbrev pub void_type : CTy
void_type = ty void false

abbrev pub type_of_found : Option CObject → CTy
type_of_found None = void_type
type_of_found (Some one) = one.type

unfoldable pub body_of : Body → BodyNames
body_of one = record {
  names = lift_names (view_names one.names.now);
  type_of_object = λ number. type_of_found (object_with number (map view_object one.objects.now));
  zeros = zero_name (lift_names (view_names one.names.now)) one.zeros.now;
  result_type = view_type one.result_ty.now;
  result = one.result.now;
}
