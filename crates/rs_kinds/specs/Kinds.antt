-- Which kind each held one is, and the tests on kinds.
use Rattle.std.specs.Prelude.{Bool, true, false, ◌||◌, map, option_map, Option, Some, None}
use Rattle.rs_text.specs.Tree.{Ty, Integer, Boolean, Void, Pointer, Array, Code, Record, tys, option_ty}
use Rattle.rs_tree.specs.Views.{ty_view}
use Rattle.rs_mean.specs.Scalars.{is_integer}
use Rattle.rs_mean.specs.Typing.{Kind, of, of_none, is_of, is_code, is_pointer, casts}
use Rattle.rs_kinds.specs.declared.kind.HeldKind.{HeldKind}
use Rattle.rs_kinds.specs.declared.kind.HeldKind.TheVariants as held

abbrev pub kind_view : HeldKind → Kind
kind_view (held.Integer ty) = of (Integer ty)
kind_view held.Boolean = of Boolean
kind_view held.Void = of Void
kind_view (held.Pointer target) = of (Pointer (ty_view target.now))
kind_view (held.Array element size) = of (Array (ty_view element.now) size)
kind_view (held.Code params result) = of (Code (tys (map ty_view params.now)) (option_ty (option_map ty_view result.now)))
kind_view (held.Record path) = of (Record path.now.home path.now.name)
kind_view held.NoFunction = of_none

-- the type of a kind meets a test
abbrev pub has_type : (Ty → Bool) → Kind → Bool
has_type test (of ty) = test ty
has_type test of_none = false

-- values that `<` compares
abbrev pub is_ordered : Ty → Bool
is_ordered ty = is_integer ty || is_pointer ty

-- a value of a kind is one of the type of another kind
abbrev pub is_of_kind : Kind → Kind → Bool
is_of_kind (of ty) other = is_of ty other
is_of_kind of_none other = false

abbrev pub is_none_kind : Kind → Bool
is_none_kind (of ty) = false
is_none_kind of_none = true

-- `None` is a value of every function pointer type
abbrev pub takes_none : Kind → Bool
takes_none (of ty) = is_code ty
takes_none of_none = true

abbrev pub kept : Bool → Kind → Option Kind
kept true kind = Some kind
kept false kind = None

-- `as` goes from a kind to a type
abbrev pub casts_from : Kind → Ty → Bool
casts_from (of from) ty = casts from ty
casts_from of_none ty = false
