-- The type that a typedef name names.
use Rattle.std.proofs.Common.{◌≡◌, refl, List, ℕ, Option, Some, None}
use Rattle.cx_rules.specs.Pieces.{typedef_in}
use Rattle.cx_rules.specs.Scope.{CMeant, an_object, a_function, a_type_name, an_enumerator, a_tag, CScope, ordinary}
use Rattle.cx_type_steps.specs.Typedefs.{named_type}

pub named_is : (scope : CScope) (name : List ℕ) (meant : Option CMeant) → meant ≡ ordinary name scope.declared → named_type meant ≡ typedef_in scope name
named_is scope name None e = rw (← e) refl
named_is scope name (Some (an_object number type is_register linkage)) e = rw (← e) refl
named_is scope name (Some (a_function number type linkage)) e = rw (← e) refl
named_is scope name (Some (a_type_name type)) e = rw (← e) refl
named_is scope name (Some (an_enumerator value)) e = rw (← e) refl
named_is scope name (Some (a_tag is_record is_open number)) e = rw (← e) refl
