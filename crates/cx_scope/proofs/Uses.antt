-- The use of a name, and the mention that it is.
use Rattle.std.proofs.Common.{◌≡◌, refl, ℕ, List, Option, None, Some}
use Rattle.cx_core.specs.declared.program.Linkage.TheVariants.{External, Internal, Nothing}
use Rattle.cx_rules.specs.Pieces.{used, at_line}
use Rattle.cx_rules.specs.Scope.{CMeant, an_object, a_function, a_type_name, an_enumerator, a_tag, CScope}
use Rattle.cx_scope.specs.Uses.{use_of, with_use}

pub used_is : (line : ℕ) (name : List ℕ) (meant : Option CMeant) (scope : CScope)
    → used line name meant scope ≡ with_use (use_of (at_line scope line) name meant) scope
used_is line name None scope = refl
used_is line name (Some (an_object number type is_register External)) scope = refl
used_is line name (Some (an_object number type is_register Internal)) scope = refl
used_is line name (Some (an_object number type is_register Nothing)) scope = refl
used_is line name (Some (a_function number type linkage)) scope = refl
used_is line name (Some (a_type_name type)) scope = refl
used_is line name (Some (an_enumerator value)) scope = refl
used_is line name (Some (a_tag is_record is_open number)) scope = refl
