-- `const` in a type by its innermost element, and sizes that are too large by what layouts tell.
use Rattle.std.proofs.Common.{◌≡◌, ◌&&◌, ◌||◌, not, ℕ, Bool, true, false, Option, Some, None, is_some, nat_le, refl, ap, ◌∙◌}
use Rattle.std.specs.Option.{option_and_then}
use Rattle.cr_base.specs.Layout.{most_bytes}
use Rattle.cr_base.specs.declared.layout.Laid.{Laid}
use Rattle.cx_core.specs.Layouts.{within_most, completed_count}
use Rattle.cx_core.specs.Trees.{CTy, ty, void, basic, enum_type, pointer, array, record_type, function, form_of_type, CTypes}
use Rattle.cx_core.specs.ValidTypes.{const_in, has_const, holds_const}
use Rattle.cx_kinds.specs.Qualifiers.{innermost, const_on_way, if_record}
use Rattle.cx_rules.specs.Types.{exceeds}

or_joins : (a b c : Bool) → a || (b || c) ≡ (a || b) || c
or_joins true b c = refl
or_joins false b c = refl

or_false : (a : Bool) → a ≡ a || false
or_false true = refl
or_false false = refl

pub const_by_innermost : (P : ℕ → Bool) (type : CTy) → const_in P type ≡ const_on_way type || if_record P (form_of_type (innermost type))
const_by_innermost P (ty (array element length) is_const) =
    ap (λ b. is_const || b) (const_by_innermost P element) ∙ or_joins is_const (const_on_way element) (if_record P (form_of_type (innermost element)))
const_by_innermost P (ty void is_const) = or_false is_const
const_by_innermost P (ty (basic which) is_const) = or_false is_const
const_by_innermost P (ty (enum_type number) is_const) = or_false is_const
const_by_innermost P (ty (pointer to) is_const) = or_false is_const
const_by_innermost P (ty (record_type number) is_const) = refl
const_by_innermost P (ty (function result params variadic) is_const) = or_false is_const

within_by : (laid : Laid) (b : Bool) → nat_le laid.size most_bytes ≡ b → not b ≡ true && not (is_some (within_most laid))
within_by laid true is = rw (is) refl
within_by laid false is = rw (is) refl

-- a size is too large where there is one and layouts tell none
pub exceeds_by : (laid : Option Laid) → exceeds laid ≡ is_some laid && not (is_some (option_and_then within_most laid))
exceeds_by None = refl
exceeds_by (Some laid) = within_by laid (nat_le laid.size most_bytes) refl

pub holds_by : (types : CTypes) (depth : ℕ) (type : CTy) → depth ≡ completed_count types.records → const_in (has_const types depth) type ≡ holds_const types type
unfolding holds_const
holds_by types depth type is = ap (λ d. const_in (has_const types d) type) is
