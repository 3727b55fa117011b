-- What the walk over expressions, specifiers, declarators and initialisers does to a scope leaves it standing where it stood.
use Rattle.std.proofs.Common.{ℕ, Bool, true, false, List, [], ◌∷◌, Option, None, Some}
use Rattle.std.specs.Prelude.{IfSome}
use Rattle.cx_core.specs.declared.program.Linkage.{Linkage}
use Rattle.cx_core.specs.declared.program.Linkage.TheVariants.{External, Internal, Nothing}
use Rattle.cx_core.specs.Trees.{CTy, CPuts}
use Rattle.cx_placed.proofs.Initialisers.{text_puts_stand}
use Rattle.cx_placed.proofs.Keeps.{MadeStandsIn, ScopeStands}
use Rattle.cx_placed.proofs.Lists.{each_both, each_set}
use Rattle.cx_placed.specs.Places.{PutsStandIn}
use Rattle.cx_rules.specs.Pieces.{at_line, use_linked, used, called, made_text, with_text, with_literal, if_outside, literal_made, with_used, with_open_enum, with_closed_enum, declared_param, with_param}
use Rattle.cx_rules.specs.Scope.{CMeant, an_object, a_function, a_type_name, an_enumerator, a_tag, CMade, CScope, CTag, with_made, with_made_at, with_object_number, unevaluated, with_tag}
use Rattle.cx_rules.specs.Shapes.{CParam}

module _ (Among : ℕ → Type 0) where
  use_stands : (line : ℕ) (name : List ℕ) (type : CTy) (linkage : Linkage) (scope : CScope) → ScopeStands Among scope → ScopeStands Among (use_linked line name type linkage scope)
  use_stands line name type External scope held = held
  use_stands line name type Internal scope held = held
  use_stands line name type Nothing scope held = held

  pub used_stands : (line : ℕ) (name : List ℕ) (meant : Option CMeant) (scope : CScope) → ScopeStands Among scope → ScopeStands Among (used line name meant scope)
  used_stands line name None scope held = held
  used_stands line name (Some (an_object number type is_register linkage)) scope held = use_stands line name type linkage scope held
  used_stands line name (Some (a_function number type linkage)) scope held = held
  used_stands line name (Some (a_type_name type)) scope held = held
  used_stands line name (Some (an_enumerator value)) scope held = held
  used_stands line name (Some (a_tag is_record is_open number)) scope held = held

  pub called_stands : (by_name : Bool) (index : ℕ) (types : List CTy) (scope : CScope) → ScopeStands Among scope → ScopeStands Among (called by_name index types scope)
  called_stands true index types scope held = held
  called_stands false index types scope held = held

  -- ---- literals

  made_stands : (made : CMade) (scope : CScope) → MadeStandsIn Among made → ScopeStands Among scope → ScopeStands Among (with_made made scope)
  made_stands made scope new held = record {
    own = held.own;
    literals_stand = each_both (MadeStandsIn Among) scope.literals (made ∷ []) held.literals_stand (new, tt);
    objects_stand = held.objects_stand;
    functions_stand = held.functions_stand;
  }

  pub text_stands : (line : ℕ) (bytes : List ℕ) (scope : CScope) → ScopeStands Among scope → ScopeStands Among (with_text line bytes scope)
  text_stands line bytes scope held = made_stands (made_text scope line bytes) (with_object_number scope) (text_puts_stand Among scope.types (at_line scope line) bytes held.own) held

  pub literal_stands : (type : CTy) (scope : CScope) → ScopeStands Among scope → ScopeStands Among (with_literal type scope)
  literal_stands type scope held =
      made_stands (record { object = scope.next_object; type = type; is_text = false; fixed = None }) (with_object_number scope) tt held

  outside_stands : (in_function : Bool) (puts : CPuts) → PutsStandIn Among puts → IfSome (if_outside in_function puts) (PutsStandIn Among)
  outside_stands true puts held = tt
  outside_stands false puts held = held

  pub completed_stands : (index : ℕ) (in_function : Bool) (number : ℕ) (type : CTy) (puts : CPuts) (scope : CScope) → PutsStandIn Among puts → ScopeStands Among scope
      → ScopeStands Among (with_made_at index (literal_made in_function number type puts) scope)
  completed_stands index in_function number type puts scope new held = record {
    own = held.own;
    literals_stand =
        each_set (MadeStandsIn Among) scope.literals index (literal_made in_function number type puts) (outside_stands in_function puts new) held.literals_stand;
    objects_stand = held.objects_stand;
    functions_stand = held.functions_stand;
  }

  pub unevaluated_stands : (before after : CScope) → ScopeStands Among before → ScopeStands Among after → ScopeStands Among (unevaluated before after)
  unevaluated_stands before after earlier held =
      record { own = held.own; literals_stand = earlier.literals_stand; objects_stand = held.objects_stand; functions_stand = held.functions_stand }

  -- ---- tags and parameters

  pub tag_stands : (name : Option (List ℕ)) (is_record is_open : Bool) (number : ℕ) (scope : CScope) → ScopeStands Among scope
      → ScopeStands Among (with_tag name is_record is_open number scope)
  tag_stands None is_record is_open number scope held = held
  tag_stands (Some name) is_record is_open number scope held = held

  pub record_stands : (found : Option CTag) (name : Option (List ℕ)) (is_union : Bool) (scope : CScope) → ScopeStands Among scope
      → ScopeStands Among (with_used found name is_union scope)
  record_stands None None is_union scope held = held
  record_stands None (Some name) is_union scope held = held
  record_stands (Some one) name is_union scope held = held

  pub open_enum_stands : (name : Option (List ℕ)) (scope : CScope) → ScopeStands Among scope → ScopeStands Among (with_open_enum name scope)
  open_enum_stands None scope held = held
  open_enum_stands (Some name) scope held = held

  pub closed_enum_stands : (name : Option (List ℕ)) (number : ℕ) (negative : Bool) (scope : CScope) → ScopeStands Among scope
      → ScopeStands Among (with_closed_enum name number negative scope)
  closed_enum_stands None number negative scope held = held
  closed_enum_stands (Some name) number negative scope held = held

  declared_stands : (name : Option (List ℕ)) (one : CParam) (scope : CScope) → ScopeStands Among scope → ScopeStands Among (declared_param name one scope)
  declared_stands None one scope held = held
  declared_stands (Some name) one scope held = held

  pub param_stands : (one : Option CParam) (scope : CScope) → ScopeStands Among scope → ScopeStands Among (with_param one scope)
  param_stands None scope held = held
  param_stands (Some one) scope held = declared_stands one.name one (with_object_number scope) held
