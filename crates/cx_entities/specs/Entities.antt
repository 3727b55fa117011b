-- Objects and functions of a unit, as declarations make and change them (ISO C99, 6.2.2, 6.2.7, 6.9).
use Rattle.std.specs.Prelude.{ℕ, ◌==◌, Bool, true, false, not, ◌&&◌, ◌||◌, if◌then◌else◌, List, [], ◌∷◌, ◌++◌, Option, None, Some}
use Rattle.cx_core.specs.declared.program.Linkage.{Linkage}
use Rattle.cx_core.specs.declared.program.Linkage.TheVariants.{External, Internal, Nothing}
use Rattle.cx_core.specs.Trees.{CTy, CPuts, no_puts, CObject, CDoes, declares, defines, CMention}
use Rattle.cx_entities.specs.Linkage.{is_external}
use Rattle.cx_lex.specs.declared.token.Keyword.TheVariants as keyword
use Rattle.cx_rules.specs.Declare.{CDeclaring, is_linked, is_outside, is_typedef, thing_named, linked_number, joined_with, with_linked_object, with_linked_function}
use Rattle.cx_rules.specs.Scope.{CMeant, an_object, a_function, a_type_name, CScope, CThing, with_mention, mention_of, with_object_number, with_function_number}
use Rattle.cx_rules.specs.Shapes.{has_storage}
use Rattle.cx_rules.specs.Types.{is_function, composite}

-- ---- where something stands

-- an object of a number is found
abbrev pub numbered : ℕ → CObject → Bool
numbered number one = one.object == number

-- ---- objects

abbrev pub retyped : CTy → CObject → CObject
retyped type one = record one { type = type }

abbrev pub puts_at_first : Bool → Option CPuts
puts_at_first is_static = if is_static then Some no_puts else None

abbrev pub new_object : CScope → List ℕ → CTy → Linkage → Bool → CObject
new_object scope name type linkage is_static = record {
  object = scope.next_object;
  unit = scope.unit;
  name = Some name;
  is_text = false;
  type = type;
  linkage = linkage;
  puts = puts_at_first is_static;
}

abbrev pub with_new_object : List ℕ → CTy → Linkage → Bool → CScope → CScope
with_new_object name type linkage is_static scope =
    with_object_number (record scope { objects = scope.objects ++ new_object scope name type linkage is_static ∷ [] })

-- ---- objects and functions with linkage

abbrev pub new_thing : CDeclaring → Bool → ℕ → Bool → Option ℕ → CThing
new_thing one is_function number has_content tentative = record {
  name = one.name;
  linkage = one.linkage;
  is_function = is_function;
  number = number;
  type = one.type;
  is_defined = has_content;
  tentative = tentative;
}

abbrev pub with_thing : CThing → CScope → CScope
with_thing one scope = record scope { things = scope.things ++ one ∷ [] }

abbrev pub or_line : Option ℕ → Option ℕ → Option ℕ
or_line None line = line
or_line (Some line) other = Some line

abbrev pub with_function_declared : CDeclaring → Bool → CScope → CScope
with_function_declared one has_body scope = with_linked_function one.name one.type one.linkage has_body (thing_named one.name scope.things) scope

abbrev pub is_tentative : CDeclaring → Bool
is_tentative one = is_outside one.where_stands && not (one.has_init || has_storage keyword.Extern one.specs)

abbrev pub tentative_at : Bool → ℕ → Option ℕ
tentative_at true line = Some line
tentative_at false line = None

abbrev pub tentative_of : CDeclaring → Option ℕ
tentative_of one = tentative_at (is_tentative one) one.line

-- what is declared for the first time
abbrev pub first_function : CDeclaring → Bool → CScope → CScope
first_function one has_body scope =
    with_thing (new_thing one true scope.next_function has_body None) (with_function_number scope)

abbrev pub first_object : CDeclaring → CScope → CScope
first_object one scope =
    with_thing (new_thing one false scope.next_object one.has_init (tentative_of one)) (with_new_object one.name one.type one.linkage false scope)

abbrev pub with_object_declared : CDeclaring → CScope → CScope
with_object_declared one scope = with_linked_object one.name one.type one.linkage one.has_init (tentative_of one) (thing_named one.name scope.things) scope

abbrev pub with_entity : CDeclaring → CScope → CScope
with_entity one scope =
    if is_typedef one.specs then scope
    else if is_function one.type then with_function_declared one false scope
    else if is_linked one.linkage then with_object_declared one scope
    else with_new_object one.name one.type Nothing (has_storage keyword.Static one.specs) scope

-- ---- what a declaration is mentioned as

abbrev pub does_by : Bool → CDoes
does_by true = defines
does_by false = declares

abbrev pub defines_object : CDeclaring → Bool
defines_object one =
    not (is_function one.type) && (is_outside one.where_stands && (one.has_init || not (has_storage keyword.Extern one.specs)))

abbrev pub is_told : CDeclaring → Bool
is_told one = not (is_typedef one.specs) && (is_external one.linkage || (is_function one.type && is_linked one.linkage))

abbrev pub told_type : CTy → Option CThing → CTy
told_type type None = type
told_type type (Some thing) = thing.type

abbrev pub told_mention : CScope → CDeclaring → CTy → Bool → CMention
told_mention scope one type is_definition = mention_of scope one.name one.line type one.linkage (does_by is_definition)

abbrev pub with_told : CDeclaring → CScope → CScope
with_told one scope =
    if is_told one
    then with_mention (told_mention scope one (told_type one.type (thing_named one.name scope.things)) (defines_object one)) scope
    else scope

-- ---- what an identifier means

abbrev pub object_number : CScope → CDeclaring → ℕ
object_number scope one = if is_linked one.linkage then linked_number scope.next_object (thing_named one.name scope.things) else scope.next_object

abbrev pub function_number : CScope → CDeclaring → ℕ
function_number scope one = linked_number scope.next_function (thing_named one.name scope.things)

abbrev pub meant_as : CDeclaring → ℕ → ℕ → CMeant
meant_as one object function =
    if is_typedef one.specs then a_type_name one.type
    else if is_function one.type then a_function function one.type one.linkage
    else an_object object one.type (has_storage keyword.Register one.specs) one.linkage

abbrev pub joined_object : CTy → CTy → Linkage → CTy
joined_object type before External = composite type before
joined_object type before Internal = composite type before
joined_object type before Nothing = type

-- the type of a declaration beside the visible one before (6.2.7p4)
abbrev pub joined_type : Linkage → CTy → Option CMeant → CTy
joined_type linkage type before = if is_linked linkage then joined_with type before else type
