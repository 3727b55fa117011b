-- What declarations and definitions of functions do to a scope leaves it standing where it stood (ISO C99, 6.7, 6.9.1).
use Rattle.std.proofs.Common.{ℕ, ◌==◌, Bool, true, false, not, ◌&&◌, ◌||◌, if◌then◌else◌, List, [], ◌∷◌, ◌++◌, map, Option, None, Some, bytes_eq}
use Rattle.std.specs.Prelude.{IfSome}
use Rattle.cx_core.specs.declared.program.Linkage.{Linkage}
use Rattle.cx_core.specs.declared.program.Linkage.TheVariants.{External, Internal, Nothing}
use Rattle.cx_core.specs.Trees.{CTy, CPuts, no_puts, CObject, CFun, CDoes, declares, defines, CMention}
use Rattle.cx_lex.specs.declared.token.Keyword.TheVariants as keyword
use Rattle.cx_placed.proofs.Keeps.{ScopeStands}
use Rattle.cx_placed.proofs.Lists.{Each, by_test, each_both, each_mapped}
use Rattle.cx_placed.specs.Places.{PutsStandIn, ObjectStandsIn, FunctionStandsIn}
use Rattle.cx_rules.specs.declared.kinds.SpecsPlace.{SpecsPlace}
use Rattle.cx_rules.specs.Declare.{is_linked, is_outside, is_typedef, linked_thing, thing_named, beside_thing, with_object_at, declared_again, with_linked_object, with_linked_function, CBegun, CDeclaring, with_declaration, with_content, own_params, with_head}
use Rattle.cx_rules.specs.Pieces.{CFilled}
use Rattle.cx_rules.specs.Scope.{CMeant, an_object, a_function, a_type_name, an_enumerator, a_tag, CDeclared, CThing, CScope, with_object_number, with_mention, with_told_type, mention_of}
use Rattle.cx_rules.specs.Shapes.{has_storage, CParam, CStep}
use Rattle.cx_rules.specs.Types.{is_function, composite}
use Rattle.cx_rules.specs.UnitWalk.{with_content_if, with_body}

-- ---- as `Declare` says it

abbrev same_thing : List ℕ → CThing → CThing → CThing
same_thing name new one = if bytes_eq one.name name then new else one

abbrev set_thing : List ℕ → CThing → List CThing → List CThing
set_thing name new things = map (same_thing name new) things

abbrev retyped : CTy → CObject → CObject
retyped type one = record one { type = type }

abbrev new_object : CScope → List ℕ → CTy → Linkage → Option CPuts → CObject
new_object scope name type linkage puts = record {
  object = scope.next_object;
  unit = scope.unit;
  name = Some name;
  is_text = false;
  type = type;
  linkage = linkage;
  puts = puts;
}

abbrev with_new_object : List ℕ → CTy → Linkage → Option CPuts → CScope → CScope
with_new_object name type linkage puts scope =
    with_object_number (record scope { objects = scope.objects ++ new_object scope name type linkage puts ∷ [] })

abbrev with_things : List CThing → CScope → CScope
with_things things scope = record scope { things = things }

abbrev is_tentative : SpecsPlace → CDeclaring → Bool
is_tentative place one = is_outside place && not (one.has_init || has_storage keyword.Extern one.specs)

abbrev tentative_at : Bool → ℕ → Option ℕ
tentative_at true line = Some line
tentative_at false line = None

abbrev with_linked : CDeclaring → CScope → CScope
with_linked one scope =
    with_linked_object one.name one.type one.linkage one.has_init (tentative_at (is_tentative one.where_stands one) one.line) (thing_named one.name scope.things) scope

abbrev with_entity : CDeclaring → CScope → CScope
with_entity one scope =
    if is_typedef one.specs then scope
    else if is_function one.type then with_linked_function one.name one.type one.linkage false (thing_named one.name scope.things) scope
    else if is_linked one.linkage then with_linked one scope
    else with_new_object one.name one.type Nothing (if has_storage keyword.Static one.specs then Some no_puts else None) scope

abbrev is_external : Linkage → Bool
is_external External = true
is_external Internal = false
is_external Nothing = false

abbrev does_by : Bool → CDoes
does_by true = defines
does_by false = declares

abbrev defines_object : CDeclaring → Bool
defines_object one =
    not (is_function one.type) && (is_outside one.where_stands && (one.has_init || not (has_storage keyword.Extern one.specs)))

abbrev is_told : CDeclaring → Bool
is_told one = not (is_typedef one.specs) && (is_external one.linkage || (is_function one.type && is_linked one.linkage))

abbrev told_type : CDeclaring → Option CThing → CTy
told_type one None = one.type
told_type one (Some thing) = thing.type

abbrev told_of : CDeclaring → CScope → CMention
told_of one scope = mention_of scope one.name one.line (told_type one (thing_named one.name scope.things)) one.linkage (does_by (defines_object one))

abbrev stored_in : Bool → CTy → CPuts → CObject → CObject
stored_in true type puts one = record one { type = type; puts = Some puts }
stored_in false type puts one = record one { type = type }

abbrev thing_completed : CTy → CThing → CThing
thing_completed type one = record one { type = type }

abbrev completed_thing : List ℕ → CTy → Option CThing → CScope → CScope
completed_thing name type None scope = scope
completed_thing name type (Some one) scope = with_things (set_thing name (thing_completed type one) scope.things) scope

abbrev with_content_at : CBegun → CTy → CPuts → Option ℕ → CScope → CScope
with_content_at begun type puts None scope = scope
with_content_at begun type puts (Some number) scope = with_object_at number (stored_in begun.is_static type puts) scope

abbrev is_object_meant : CMeant → Bool
is_object_meant (an_object number type is_register linkage) = true
is_object_meant _ = false

abbrev redeclared : List ℕ → CTy → CDeclared → CDeclared
redeclared name type one = elim one.meant as (λ _. CDeclared) [
  | an_object number before is_register linkage ↦
      (if bytes_eq one.name name then record one { meant = an_object number type is_register linkage } else one)
  | a_function number before linkage ↦ one
  | a_type_name before ↦ one
  | an_enumerator value ↦ one
  | a_tag is_record is_open number ↦ one
]

abbrev redeclare_first : List ℕ → CTy → List CDeclared → List CDeclared
redeclare_first name type [] = []
redeclare_first name type (one ∷ others) =
    if bytes_eq one.name name && is_object_meant one.meant then redeclared name type one ∷ others else one ∷ redeclare_first name type others

abbrev completed_mention : Option ℕ → CTy → CScope → CScope
completed_mention None type scope = scope
completed_mention (Some index) type scope = with_told_type index type scope

abbrev with_object : CBegun → CTy → CPuts → CScope → CScope
with_object begun type puts scope = with_content_at begun type puts begun.object (record scope { declared = redeclare_first begun.name type scope.declared })

abbrev with_linked_type : CBegun → CTy → CPuts → CScope → CScope
with_linked_type begun type puts scope =
    completed_thing begun.name (beside_thing type (linked_thing begun.linkage begun.name scope.things)) (linked_thing begun.linkage begun.name scope.things)
    (with_object begun type puts scope)

abbrev param_object : CScope → CParam → CObject
param_object scope one = record {
  object = one.object;
  unit = scope.unit;
  name = one.name;
  is_text = false;
  type = one.type;
  linkage = Nothing;
  puts = None;
}

abbrev with_function : CDeclaring → CScope → CScope
with_function one scope = with_linked_function one.name one.type one.linkage true (thing_named one.name scope.things) scope

module _ (Among : ℕ → Type 0) where
  -- ---- objects

  object_at_stands : (number : ℕ) (change : CObject → CObject) → ((one : CObject) → ObjectStandsIn Among one → ObjectStandsIn Among (change one)) → (scope : CScope)
      → ScopeStands Among scope → ScopeStands Among (with_object_at number change scope)
  object_at_stands number change goes scope held = record {
    own = held.own;
    literals_stand = held.literals_stand;
    objects_stand = each_mapped (ObjectStandsIn Among) (ObjectStandsIn Among) (λ one. if one.object == number then change one else one)
        (λ one own. by_test (ObjectStandsIn Among) (one.object == number) (change one) one (goes one own) own) scope.objects held.objects_stand;
    functions_stand = held.functions_stand;
  }

  new_object_stands : (name : List ℕ) (type : CTy) (linkage : Linkage) (puts : Option CPuts) (scope : CScope) → IfSome puts (PutsStandIn Among) → ScopeStands Among scope
      → ScopeStands Among (with_new_object name type linkage puts scope)
  new_object_stands name type linkage puts scope new held = record {
    own = held.own;
    literals_stand = held.literals_stand;
    objects_stand = each_both (ObjectStandsIn Among) scope.objects (new_object scope name type linkage puts ∷ []) held.objects_stand (new, tt);
    functions_stand = held.functions_stand;
  }

  linked_object_stands : (name : List ℕ) (type : CTy) (linkage : Linkage) (has_content : Bool) (tentative : Option ℕ) (thing : Option CThing) (scope : CScope)
      → ScopeStands Among scope → ScopeStands Among (with_linked_object name type linkage has_content tentative thing scope)
  linked_object_stands name type linkage has_content tentative None scope held = new_object_stands name type linkage None scope tt held
  linked_object_stands name type linkage has_content tentative (Some one) scope held =
      by_test (ScopeStands Among) one.is_defined (with_things (set_thing name (declared_again type has_content tentative one) scope.things) scope)
      (with_object_at one.number (retyped (composite type one.type)) (with_things (set_thing name (declared_again type has_content tentative one) scope.things) scope)) held
      (object_at_stands one.number (retyped (composite type one.type)) (λ _ own. own) (with_things (set_thing name (declared_again type has_content tentative one) scope.things) scope) held)

  function_stands : (name : List ℕ) (type : CTy) (linkage : Linkage) (has_body : Bool) (thing : Option CThing) (scope : CScope)
      → ScopeStands Among scope → ScopeStands Among (with_linked_function name type linkage has_body thing scope)
  function_stands name type linkage has_body None scope held = held
  function_stands name type linkage has_body (Some one) scope held = held

  -- ---- a declarator, and what stands behind its initialiser

  one_of_four : (first second third : Bool) (a b c d : CScope) → ScopeStands Among a → ScopeStands Among b → ScopeStands Among c → ScopeStands Among d
      → ScopeStands Among (if first then a else if second then b else if third then c else d)
  one_of_four true second third a b c d h k l m = h
  one_of_four false true third a b c d h k l m = k
  one_of_four false false true a b c d h k l m = l
  one_of_four false false false a b c d h k l m = m

  entity_stands : (one : CDeclaring) (scope : CScope) → ScopeStands Among scope → ScopeStands Among (with_entity one scope)
  entity_stands one scope held = one_of_four (is_typedef one.specs) (is_function one.type) (is_linked one.linkage) scope
      (with_linked_function one.name one.type one.linkage false (thing_named one.name scope.things) scope) (with_linked one scope)
      (with_new_object one.name one.type Nothing (if has_storage keyword.Static one.specs then Some no_puts else None) scope) held
      (function_stands one.name one.type one.linkage false (thing_named one.name scope.things) scope held)
      (linked_object_stands one.name one.type one.linkage one.has_init (tentative_at (is_tentative one.where_stands one) one.line) (thing_named one.name scope.things) scope held)
      (new_object_stands one.name one.type Nothing (if has_storage keyword.Static one.specs then Some no_puts else None) scope
      (by_test (λ puts. IfSome puts (PutsStandIn Among)) (has_storage keyword.Static one.specs) (Some no_puts) None tt tt) held)

  told_stands : (told : Bool) (mention : CMention) (scope : CScope) → ScopeStands Among scope → ScopeStands Among (if told then with_mention mention scope else scope)
  told_stands true mention scope held = held
  told_stands false mention scope held = held

  pub declaration_stands : (one : CDeclaring) (scope : CScope) → ScopeStands Among scope → ScopeStands Among (with_declaration one scope)
  unfolding with_declaration
  declaration_stands one scope held = told_stands (is_told one) (told_of one (with_entity one scope)) (with_entity one scope) (entity_stands one scope held)

  stored_in_stands : (is_static : Bool) (type : CTy) (puts : CPuts) (one : CObject) → PutsStandIn Among puts → ObjectStandsIn Among one
      → ObjectStandsIn Among (stored_in is_static type puts one)
  stored_in_stands true type puts one new held = new
  stored_in_stands false type puts one new held = held

  content_at_stands : (begun : CBegun) (type : CTy) (puts : CPuts) (object : Option ℕ) (scope : CScope) → PutsStandIn Among puts → ScopeStands Among scope
      → ScopeStands Among (with_content_at begun type puts object scope)
  content_at_stands begun type puts None scope new held = held
  content_at_stands begun type puts (Some number) scope new held =
      object_at_stands number (stored_in begun.is_static type puts) (λ one own. stored_in_stands begun.is_static type puts one new own) scope held

  thing_stands : (name : List ℕ) (type : CTy) (thing : Option CThing) (scope : CScope) → ScopeStands Among scope → ScopeStands Among (completed_thing name type thing scope)
  thing_stands name type None scope held = held
  thing_stands name type (Some one) scope held = held

  mention_stands : (mention : Option ℕ) (type : CTy) (scope : CScope) → ScopeStands Among scope → ScopeStands Among (completed_mention mention type scope)
  mention_stands None type scope held = held
  mention_stands (Some index) type scope held = held

  content_stands : (begun : CBegun) (type : CTy) (puts : CPuts) (scope : CScope) → PutsStandIn Among puts → ScopeStands Among scope
      → ScopeStands Among (with_content begun type puts scope)
  unfolding with_content
  content_stands begun type puts scope new held =
      mention_stands begun.mention type (with_linked_type begun type puts scope)
      (thing_stands begun.name (beside_thing type (linked_thing begun.linkage begun.name scope.things)) (linked_thing begun.linkage begun.name scope.things)
      (with_object begun type puts scope)
      (content_at_stands begun type puts begun.object (record scope { declared = redeclare_first begun.name type scope.declared }) new held))

  pub content_if_stands : (has_init : Bool) (begun : CBegun) (filled : CFilled) (scope : CScope) → PutsStandIn Among filled.puts → ScopeStands Among scope
      → ScopeStands Among (with_content_if has_init begun filled scope)
  content_if_stands true begun filled scope new held = content_stands begun filled.type filled.puts scope new held
  content_if_stands false begun filled scope new held = held

  -- ---- definitions of functions

  params_stand : (scope : CScope) (params : List CParam) → Each (ObjectStandsIn Among) (map (param_object scope) params)
  params_stand scope [] = tt
  params_stand scope (one ∷ others) = (tt, params_stand scope others)

  pub head_stands : (one : CDeclaring) (written : CTy) (steps : List CStep) (scope : CScope) → ScopeStands Among scope → ScopeStands Among (with_head one written steps scope)
  unfolding with_head
  head_stands one written steps scope held = record {
    own = (function_stands one.name one.type one.linkage true (thing_named one.name scope.things) scope held).own;
    literals_stand = (function_stands one.name one.type one.linkage true (thing_named one.name scope.things) scope held).literals_stand;
    objects_stand = each_both (ObjectStandsIn Among) (with_function one scope).objects (map (param_object (with_function one scope)) (own_params steps))
        (function_stands one.name one.type one.linkage true (thing_named one.name scope.things) scope held).objects_stand (params_stand (with_function one scope) (own_params steps));
    functions_stand = (function_stands one.name one.type one.linkage true (thing_named one.name scope.things) scope held).functions_stand;
  }

  pub body_stands : (before : CScope) (one : CFun) (scope : CScope) → FunctionStandsIn Among one → ScopeStands Among scope → ScopeStands Among (with_body before one scope)
  body_stands before one scope new held = record {
    own = held.own;
    literals_stand = held.literals_stand;
    objects_stand = held.objects_stand;
    functions_stand = each_both (FunctionStandsIn Among) scope.functions (one ∷ []) held.functions_stand (new, tt);
  }
