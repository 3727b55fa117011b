-- The one kind of two values, by tests.
use Rattle.std.proofs.Common.{◌≡◌, refl, Bool, true, false, if◌then◌else◌, Some}
use Rattle.rs_text.specs.Tree.{Ty}
use Rattle.rs_mean.specs.Scalars.{same_type}
use Rattle.rs_mean.specs.Typing.{Kind, of, of_none, is_code, common}
use Rattle.rs_kinds.specs.Kinds.{is_none_kind, is_of_kind, takes_none, kept}

common_same : (test : Bool) (ty : Ty) → Rattle.rs_mean.specs.Typing.only_if test ty ≡ kept test (of ty)
common_same true ty = refl
common_same false ty = refl

pub common_kinds : (left right : Kind) →
    common (Some left) (Some right) ≡ (if is_none_kind left then kept (takes_none right) right else kept (is_of_kind left right) left)
common_kinds (of ty) (of other) = common_same (same_type ty other) ty
common_kinds (of ty) of_none = common_same (is_code ty) ty
common_kinds of_none (of ty) = common_same (is_code ty) ty
common_kinds of_none of_none = refl
