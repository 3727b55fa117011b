-- What initialisers, heads and bodies of functions change of a scope (ISO C99, 6.7.8, 6.9.1).
use Rattle.std.specs.Prelude.{ℕ, ◌+◌, ◌==◌, Bool, true, false, ◌&&◌, if◌then◌else◌, List, [], ◌∷◌, ◌++◌, map, length, Option, None, Some, is_none, bytes_eq}
use Rattle.cx_core.specs.declared.program.Linkage.{Linkage}
use Rattle.cx_core.specs.declared.program.Linkage.TheVariants.{Nothing}
use Rattle.cx_core.specs.Trees.{CTy, CPuts, CObject, CFun, defines}
use Rattle.cx_entities.specs.Entities.{function_number}
use Rattle.cx_rules.specs.Declare.{CDeclaring, beside_thing, linked_thing, thing_named, with_object_at, with_linked_function}
use Rattle.cx_rules.specs.Scope.{CMeant, an_object, a_function, a_type_name, an_enumerator, a_tag, CDeclared, CMade, CScope, CThing, no_labels, left, with_declared, with_mention, mention_of, with_told_type}
use Rattle.cx_rules.specs.Shapes.{CParam, CStep, to_function}

-- what was declared whose initialiser ends
pub record CContent : Type 0 where
  pub name : List ℕ
  pub linkage : Linkage
  pub object : Option ℕ
  pub is_static : Bool
  pub mention : Option ℕ

-- ---- names

abbrev pub is_object_meant : CMeant → Bool
is_object_meant (an_object number type is_register linkage) = true
is_object_meant _ = false

abbrev pub redeclared : List ℕ → CTy → CDeclared → CDeclared
redeclared name type one = elim one.meant as (λ _. CDeclared) [
  | an_object number before is_register linkage ↦
      (if bytes_eq one.name name then record one { meant = an_object number type is_register linkage } else one)
  | a_function number before linkage ↦ one
  | a_type_name before ↦ one
  | an_enumerator value ↦ one
  | a_tag is_record is_open number ↦ one
]

-- the meaning of an object's name with another type
abbrev pub object_retyped : CTy → CMeant → Option CMeant
object_retyped type (an_object number before is_register linkage) = Some (an_object number type is_register linkage)
object_retyped type _ = None

-- it declares an object of a name
abbrev pub declares_object : List ℕ → CDeclared → Bool
declares_object name one = bytes_eq one.name name && is_object_meant one.meant

abbrev pub redeclare_first : List ℕ → CTy → List CDeclared → List CDeclared
redeclare_first name type [] = []
redeclare_first name type (one ∷ others) =
    if bytes_eq one.name name && is_object_meant one.meant then redeclared name type one ∷ others else one ∷ redeclare_first name type others

-- an object is declared, where anything is
abbrev pub is_object_in : Option CDeclared → Bool
is_object_in None = false
is_object_in (Some one) = is_object_meant one.meant

abbrev pub with_redeclared : List ℕ → CTy → CScope → CScope
with_redeclared name type scope = record scope { declared = redeclare_first name type scope.declared }

-- ---- objects

abbrev pub stored_in : Bool → CTy → CPuts → CObject → CObject
stored_in true type puts one = record one { type = type; puts = Some puts }
stored_in false type puts one = record one { type = type }

-- what is stored is told of an object that lives as long as the program
abbrev pub told_puts : Bool → CPuts → Option CPuts
told_puts true puts = Some puts
told_puts false puts = None

abbrev pub stored_at : Option ℕ → Bool → CTy → CPuts → List CObject → List CObject
stored_at None is_static type puts objects = objects
stored_at (Some number) is_static type puts objects = map (λ one. if one.object == number then stored_in is_static type puts one else one) objects

abbrev pub with_stored : Bool → CTy → CPuts → Option ℕ → CScope → CScope
with_stored is_static type puts None scope = scope
with_stored is_static type puts (Some number) scope = with_object_at number (stored_in is_static type puts) scope

-- ---- what has linkage

abbrev pub thing_completed : CTy → CThing → CThing
thing_completed type one = record one { type = type }

abbrev pub same_thing : List ℕ → CThing → CThing → CThing
same_thing name new one = if bytes_eq one.name name then new else one

abbrev pub completed_thing : List ℕ → CTy → Option CThing → CScope → CScope
completed_thing name type None scope = scope
completed_thing name type (Some one) scope = record scope { things = map (same_thing name (thing_completed type one)) scope.things }

abbrev pub with_thing_completed : Linkage → List ℕ → CTy → CScope → CScope
with_thing_completed linkage name type scope = completed_thing name type (linked_thing linkage name scope.things) scope

-- ---- the mention

abbrev pub completed_mention : Option ℕ → CTy → CScope → CScope
completed_mention None type scope = scope
completed_mention (Some index) type scope = with_told_type index type scope

-- ---- the whole

-- the name, the object and the declaration say one type, and later declarations are compared with another: that beside all of the unit
abbrev pub with_content_as : CContent → (type whole : CTy) → CPuts → CScope → CScope
with_content_as one type whole puts scope =
    completed_mention one.mention type
    (completed_thing one.name whole (linked_thing one.linkage one.name scope.things)
    (with_stored one.is_static type puts one.object (with_redeclared one.name type scope)))

abbrev pub with_content : CContent → CTy → CPuts → CScope → CScope
with_content one type puts scope =
    with_content_as one type (beside_thing type (linked_thing one.linkage one.name scope.things)) puts scope

-- ---- heads of functions

abbrev pub step_params : Option CStep → List CParam
step_params (Some (to_function (Some params) variadic within)) = params
step_params _ = []

abbrev pub step_within : Option CStep → List CDeclared
step_within (Some (to_function params variadic within)) = within
step_within _ = []

abbrev pub list_or_none : Option (List CParam) → List CParam
list_or_none None = []
list_or_none (Some params) = params

abbrev pub param_object : (unit : ℕ) → CParam → CObject
param_object unit one = record {
  object = one.object;
  unit = unit;
  name = one.name;
  is_text = false;
  type = one.type;
  linkage = Nothing;
  puts = None;
}

abbrev pub body_begun : List CDeclared → List CParam → CScope → CScope
body_begun within params scope = record scope {
  begins = length scope.declared;
  declared = within ++ scope.declared;
  objects = scope.objects ++ map (param_object scope.unit) params;
  in_function = true;
}

-- a definition says the type that is written there
abbrev pub with_function : CDeclaring → (written : CTy) → CScope → CScope
with_function one written scope =
    with_declared one.name (a_function (function_number scope one) one.type one.linkage)
    (with_mention (mention_of scope one.name one.line written one.linkage defines)
    (with_linked_function one.name one.type one.linkage true (thing_named one.name scope.things) scope))

-- ---- bodies of functions

abbrev pub body_closed : (count begins : ℕ) → CScope → CScope
body_closed count begins scope = record (left (count + 1) begins scope) { in_function = false; body = no_labels }

-- a function whose body has ended, where its scope began behind so many declarations
abbrev pub body_ended : (count begins : ℕ) → CFun → CScope → CScope
body_ended count begins one scope = record (left (count + 1) begins scope) {
  functions = scope.functions ++ one ∷ [];
  in_function = false;
  body = no_labels;
}

-- ---- literals

-- the objects of the compound literals of a block
abbrev pub block_literals : List CMade → List ℕ
block_literals [] = []
block_literals (made ∷ others) = if is_none made.fixed then made.object ∷ block_literals others else block_literals others
