-- What changes of a scope leave its types as they were.
use Rattle.std.proofs.Common.{◌≡◌, refl, sym, ap, ◌∙◌, subst, ℕ, List, Option, None, Some, Result, Ok, Err, OnOk, OnErr, option_map, Bor, Bool}
use Rattle.std.specs.Option.{option_copied}
use Rattle.cx_context.proofs.Declaring.{declared_laid, same_laid}
use Rattle.cx_context.specs.Laid.{IsLaid}
use Rattle.cx_core.specs.Layouts.{CLayouts}
use Rattle.cx_core.specs.declared.program.Linkage.TheVariants.{External, Internal, Nothing}
use Rattle.cx_rules.specs.Pieces.{used, with_param, with_used, with_open_enum, with_closed_enum}
use Rattle.cx_rules.specs.Scope.{CMeant, an_object, a_function, a_type_name, an_enumerator, a_tag, CScope, CTag}
use Rattle.cx_rules.specs.Shapes.{CParam}
use Rattle.cx_scope.specs.Views.{view_meant}
use Rattle.cx_scope.specs.declared.meant.Meant.{Meant}

pub used_types : (line : ℕ) (name : List ℕ) (meant : Option CMeant) (scope : CScope) → (used line name meant scope).types ≡ scope.types
used_types line name None scope = refl
used_types line name (Some (an_object number type is_register External)) scope = refl
used_types line name (Some (an_object number type is_register Internal)) scope = refl
used_types line name (Some (an_object number type is_register Nothing)) scope = refl
used_types line name (Some (a_function number type linkage)) scope = refl
used_types line name (Some (a_type_name type)) scope = refl
used_types line name (Some (an_enumerator value)) scope = refl
used_types line name (Some (a_tag is_record is_open number)) scope = refl

named_types : (name : Option (List ℕ)) (one : CParam) (scope : CScope) → (with_param (Some (record one { name = name })) scope).types ≡ scope.types
named_types None one scope = refl
named_types (Some name) one scope = refl

pub param_types : (param : Option CParam) (scope : CScope) → (with_param param scope).types ≡ scope.types
param_types None scope = refl
param_types (Some one) scope = named_types one.name one scope

-- the layouts are those of a scope that is another by an equation, whose types are the same
pub laid_by : (old new other : CScope) (layouts : CLayouts) → IsLaid old.types layouts → new ≡ other → other.types ≡ old.types → IsLaid new.types layouts
laid_by old new other layouts laid e same = subst (λ types. IsLaid types layouts) (sym (ap (λ scope. scope.types) e ∙ same)) laid

-- ---- tags

pub laid_used : (found : Option CTag) (name : Option (List ℕ)) (is_union : Bool) (old new : CScope) (layouts : CLayouts) →
    IsLaid old.types layouts → new ≡ with_used found name is_union old → IsLaid new.types layouts
laid_used None None is_union old new layouts laid e = declared_laid old.types new.types layouts laid (ap (λ scope. scope.types.records) e)
laid_used None (Some name) is_union old new layouts laid e = declared_laid old.types new.types layouts laid (ap (λ scope. scope.types.records) e)
laid_used (Some one) name is_union old new layouts laid e = subst (λ scope. IsLaid scope.types layouts) (sym e) laid

pub laid_open : (name : Option (List ℕ)) (old new : CScope) (layouts : CLayouts) →
    IsLaid old.types layouts → new ≡ with_open_enum name old → IsLaid new.types layouts
laid_open None old new layouts laid e = same_laid old.types new.types layouts laid (ap (λ scope. scope.types.records) e)
laid_open (Some name) old new layouts laid e = same_laid old.types new.types layouts laid (ap (λ scope. scope.types.records) e)

pub laid_closed : (name : Option (List ℕ)) (number : ℕ) (negative : Bool) (old new : CScope) (layouts : CLayouts) →
    IsLaid old.types layouts → new ≡ with_closed_enum name number negative old → IsLaid new.types layouts
laid_closed None number negative old new layouts laid e = same_laid old.types new.types layouts laid (ap (λ scope. scope.types.records) e)
laid_closed (Some name) number negative old new layouts laid e = same_laid old.types new.types layouts laid (ap (λ scope. scope.types.records) e)

-- where a call changes the scope so, or refuses and changes nothing
pub either_laid : {A E : Type 0} (result : Result A E) (old new other : CScope) (layouts : CLayouts) → IsLaid old.types layouts →
    OnOk result (new ≡ other) → OnErr result (new ≡ old) → (new ≡ other → IsLaid new.types layouts) → IsLaid new.types layouts
either_laid (Ok value) old new other layouts laid ok err next = next ok
either_laid (Err why) old new other layouts laid ok err next = subst (λ scope. IsLaid scope.types layouts) (sym err) laid

-- what a reference to a meaning stands for
pub copied_is : (found : Option (Bor Meant)) → option_map view_meant (option_copied found) ≡ option_map (λ one. view_meant one.now) found
copied_is None = refl
copied_is (Some one) = refl
