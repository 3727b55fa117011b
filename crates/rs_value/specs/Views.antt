-- Which type, value and place of the meaning those of src/ are.
use Rattle.std.specs.Prelude.{map, option_map, Result, Ok, Err}
use Rattle.std.specs.Option.{option_copied}
use Rattle.rs_mean.specs.Calls.{Spot, based}
use Rattle.rs_mean.specs.Values.{Typed, typed}
use Rattle.rs_text.specs.Tree as tree
use Rattle.rs_text.specs.Tree.{Ty, tys, option_ty}
use Rattle.rs_tree.specs.Views.{ty_view}
use Rattle.rs_value.specs.declared.typed.TypedValue.{TypedValue}
use Rattle.rs_value.specs.declared.typed.ValueSpot.{ValueSpot}
use Rattle.rs_value.specs.declared.typed.ValueTy.{ValueTy}
use Rattle.rs_value.specs.declared.typed.ValueTy.TheVariants as held

abbrev pub value_ty_view : ValueTy → Ty
value_ty_view (held.Integer ty) = tree.Integer ty
value_ty_view held.Boolean = tree.Boolean
value_ty_view held.Void = tree.Void
value_ty_view (held.Pointer target) = tree.Pointer (ty_view target.now)
value_ty_view (held.Array element size) = tree.Array (ty_view element.now) size
value_ty_view (held.Code params given) = tree.Code (tys (map ty_view params.now)) (option_ty (option_map ty_view (option_copied given)))
value_ty_view (held.Record path) = tree.Record path.now.home path.now.name

abbrev pub typed_view : TypedValue → Typed
typed_view one = typed (value_ty_view one.ty) one.value

abbrev pub spot_view : ValueSpot → Spot
spot_view place = based place.is_based (ty_view place.ty.now) place.at

-- a result that stands for another
abbrev pub seen_as : {A B E : Type 0} → (A → B) → Result A E → Result B E
seen_as view (Ok value) = Ok (view value)
seen_as view (Err why) = Err why
