-- What declarations do (ISO C99, 6.2.2, 6.2.7, 6.7, 6.9): linkage, which declarations go together, and the objects and functions of a unit.
use Rattle.std.specs.Prelude.{ℕ, ◌==◌, nat_le, Bool, true, false, not, ◌&&◌, ◌||◌, if◌then◌else◌, List, [], ◌∷◌, ◌++◌, map, length, Option, None, Some, is_some, is_none, bytes_eq, find}
use Rattle.cx_core.specs.declared.program.Linkage.{Linkage}
use Rattle.cx_core.specs.declared.program.Linkage.TheVariants.{External, Internal, Nothing}
use Rattle.cx_core.specs.Trees.{CTy, ty, CTyForm, array, form_of_type, CTypes, CPuts, no_puts, CObject, COuter, CKey, a_function as function_key, an_object as object_key, CDeclaredOrder, CDoes, declares, defines, CMention, CUnit}
use Rattle.cx_lex.specs.declared.token.Keyword.TheVariants as keyword
use Rattle.cx_rules.specs.declared.kinds.SpecsPlace.{SpecsPlace}
use Rattle.cx_rules.specs.declared.kinds.SpecsPlace.TheVariants.{File, Definition, Block, ForClause, Parameter, Plain}
use Rattle.cx_rules.specs.Scope.{CScope, CMeant, an_object, a_function, a_type_name, an_enumerator, a_tag, CDeclared, CMade, CThing, ordinary, innermost, with_declared, with_object_number, with_function_number, with_mention, with_told_type, mention_of}
use Rattle.cx_rules.specs.Shapes.{CSpecs, has_storage, CParam, CStep, to_function, last_step}
use Rattle.cx_rules.specs.Types.{is_function, is_array, has_size, compatible, composite}
use Rattle.cx_rules.specs.Pieces.{CTarget, whole_target}

-- ---- linkage (6.2.2)

abbrev pub is_linked : Linkage → Bool
is_linked External = true
is_linked Internal = true
is_linked Nothing = false

abbrev pub same_linkage : Linkage → Linkage → Bool
same_linkage External External = true
same_linkage Internal Internal = true
same_linkage Nothing Nothing = true
same_linkage _ _ = false

abbrev pub is_outside : SpecsPlace → Bool
is_outside File = true
is_outside Definition = true
is_outside Block = false
is_outside ForClause = false
is_outside Parameter = false
is_outside Plain = false

abbrev pub is_typedef : CSpecs → Bool
is_typedef specs = has_storage keyword.Typedef specs

abbrev linkage_before : Option CMeant → Linkage
linkage_before (Some (an_object number type is_register linkage)) = linkage
linkage_before (Some (a_function number type linkage)) = linkage
linkage_before _ = Nothing

-- that of the visible declaration, where it has linkage, else external (6.2.2p4)
abbrev or_external : Linkage → Linkage
or_external External = External
or_external Internal = Internal
or_external Nothing = External

-- the linkage of a declared identifier, by what its name meant before (6.2.2p3 to p6)
unfoldable pub linkage_of : SpecsPlace → CSpecs → CTy → Option CMeant → Linkage
linkage_of place specs type before =
    if is_typedef specs then Nothing
    else if is_outside place && has_storage keyword.Static specs then Internal
    else if has_storage keyword.Extern specs || is_function type then or_external (linkage_before before)
    else if is_outside place then External
    else Nothing

-- ---- declarations that go together (6.2.7, 6.7p3)

abbrev pub thing_named : List ℕ → List CThing → Option CThing
thing_named name things = find (λ one. bytes_eq one.name name) things

-- that of an identifier with linkage
abbrev pub linked_thing : Linkage → List ℕ → List CThing → Option CThing
linked_thing linkage name things = if is_linked linkage then thing_named name things else None

-- a declaration in the same scope doesn't stand in the way: both have the same linkage, and their types are compatible
abbrev goes_with : CTypes → Bool → CTy → Linkage → CMeant → Bool
goes_with types typedef type linkage (an_object number before is_register other) =
    not typedef && (is_linked linkage && (same_linkage linkage other && compatible types type before))
goes_with types typedef type linkage (a_function number before other) =
    not typedef && (is_linked linkage && (same_linkage linkage other && compatible types type before))
goes_with types typedef type linkage _ = false

abbrev clashes_with : CTypes → Bool → CTy → Linkage → Option CMeant → Bool
clashes_with types typedef type linkage None = false
clashes_with types typedef type linkage (Some before) = not (goes_with types typedef type linkage before)

-- it isn't what other declarations of the unit, in whatever scope, say of the same object or function (6.2.2p7, 6.2.7p2), or has a second
-- body or initialiser (6.9p3, p5)
abbrev pub clashes_thing : CTypes → CTy → Linkage → Bool → Option CThing → Bool
clashes_thing types type linkage has_content None = false
clashes_thing types type linkage has_content (Some one) =
    not (same_linkage linkage one.linkage) || (not (compatible types type one.type) || (has_content && one.is_defined))

-- another declaration stands in the way
unfoldable pub clashes : CScope → List ℕ → Bool → CTy → Linkage → Bool → Bool
clashes scope name typedef type linkage has_content =
    clashes_with scope.types typedef type linkage (ordinary name (innermost scope))
    || (is_linked linkage && clashes_thing scope.types type linkage has_content (thing_named name scope.things))

-- the type that a declaration gives beside what the unit says of the same object or function (6.2.7p4)
abbrev pub beside_thing : CTy → Option CThing → CTy
beside_thing type None = type
beside_thing type (Some one) = composite type one.type

-- the type that a declaration gives beside the visible one before (6.2.7p4)
abbrev pub joined_with : CTy → Option CMeant → CTy
joined_with type (Some (an_object number before is_register External)) = composite type before
joined_with type (Some (an_object number before is_register Internal)) = composite type before
joined_with type (Some (a_function number before linkage)) = composite type before
joined_with type _ = type

-- ---- objects and functions of a unit

abbrev same_thing : List ℕ → CThing → CThing → CThing
same_thing name new one = if bytes_eq one.name name then new else one

abbrev set_thing : List ℕ → CThing → List CThing → List CThing
set_thing name new things = map (same_thing name new) things

abbrev pub with_object_at : ℕ → (CObject → CObject) → CScope → CScope
with_object_at number change scope = record scope { objects = map (λ one. if one.object == number then change one else one) scope.objects }

abbrev retyped : CTy → CObject → CObject
retyped type one = record one { type = type }

-- the tentative definition of an object (6.9.2p2)
abbrev or_line : Option ℕ → Option ℕ → Option ℕ
or_line None line = line
or_line (Some line) other = Some line

-- one more declaration of a thing
abbrev pub declared_again : CTy → Bool → Option ℕ → CThing → CThing
declared_again type has_content tentative one = record one {
  type = composite type one.type;
  is_defined = has_content || one.is_defined;
  tentative = or_line one.tentative tentative;
}

abbrev new_object : CScope → List ℕ → CTy → Linkage → Option CPuts → CObject
new_object scope name type linkage puts = record {
  object = scope.next_object;
  unit = scope.unit;
  name = Some name;
  is_text = false;
  type = type;
  linkage = linkage;
  puts = puts;
}

abbrev with_new_object : List ℕ → CTy → Linkage → Option CPuts → CScope → CScope
with_new_object name type linkage puts scope =
    with_object_number (record scope { objects = scope.objects ++ new_object scope name type linkage puts ∷ [] })

abbrev new_thing : List ℕ → Linkage → Bool → ℕ → CTy → Bool → Option ℕ → CThing
new_thing name linkage is_function number type has_content tentative = record {
  name = name;
  linkage = linkage;
  is_function = is_function;
  number = number;
  type = type;
  is_defined = has_content;
  tentative = tentative;
}

abbrev with_thing : CThing → CScope → CScope
with_thing one scope = record scope { things = scope.things ++ one ∷ [] }

abbrev with_things : List CThing → CScope → CScope
with_things things scope = record scope { things = things }

-- the number of an object with linkage
abbrev pub linked_number : ℕ → Option CThing → ℕ
linked_number new None = new
linked_number new (Some one) = one.number

-- an object that an initialiser defines keeps the type that it gave (6.7.8p22); before, it has the one beside all declarations of the unit
abbrev with_retyped : CThing → CTy → CScope → CScope
with_retyped one type scope = if one.is_defined then scope else with_object_at one.number (retyped (composite type one.type)) scope

-- an object with linkage is declared, for the first time or once more
abbrev pub with_linked_object : List ℕ → CTy → Linkage → Bool → Option ℕ → Option CThing → CScope → CScope
with_linked_object name type linkage has_content tentative None scope =
    with_thing (new_thing name linkage false scope.next_object type has_content tentative) (with_new_object name type linkage None scope)
with_linked_object name type linkage has_content tentative (Some one) scope =
    with_retyped one type
    (with_things (set_thing name (declared_again type has_content tentative one) scope.things) scope)

-- a function is declared, for the first time or once more
abbrev pub with_linked_function : List ℕ → CTy → Linkage → Bool → Option CThing → CScope → CScope
with_linked_function name type linkage has_body None scope =
    with_thing (new_thing name linkage true scope.next_function type has_body None) (with_function_number scope)
with_linked_function name type linkage has_body (Some one) scope =
    with_things (set_thing name (declared_again type has_body None one) scope.things) scope

-- ---- declared identifiers

-- a declared identifier between its declarator and the end of its initialiser
pub record CBegun : Type 0 where
  pub name : List ℕ
  pub type : CTy
  pub linkage : Linkage
  pub clashes : Bool
  -- the number of the object, where it is one
  pub object : Option ℕ
  -- an object that lives as long as the program
  pub is_static : Bool
  pub target : CTarget
  -- which mention of the scope the declaration is, where it is one
  pub mention : Option ℕ

-- a tentative definition, a definition, or only a declaration of an object outside of functions (6.9.2)
abbrev is_tentative : SpecsPlace → CSpecs → Bool → Bool
is_tentative place specs has_init = is_outside place && not (has_init || has_storage keyword.Extern specs)

abbrev tentative_at : Bool → ℕ → Option ℕ
tentative_at true line = Some line
tentative_at false line = None

abbrev does_by : Bool → CDoes
does_by true = defines
does_by false = declares

-- whether an initialiser may stand there: behind an object that isn't `extern` in a block, of complete type or of array type (6.7.8p3, p5)
abbrev may_be_initialised : CTypes → SpecsPlace → CSpecs → CTy → Bool
may_be_initialised types place specs type =
    not (is_typedef specs)
    && (not (is_function type) && ((is_outside place || not (has_storage keyword.Extern specs)) && (has_size types type || is_array type)))

abbrev target_type : Bool → CTy → Option CTy
target_type true type = Some type
target_type false type = None

abbrev if_object : Bool → ℕ → Option ℕ
if_object true number = Some number
if_object false number = None

abbrev lives_on : Linkage → CSpecs → Bool
lives_on linkage specs = is_linked linkage || has_storage keyword.Static specs

-- what comes into scope
abbrev meant_as : SpecsPlace → CSpecs → CTy → Linkage → ℕ → ℕ → CMeant
meant_as place specs type linkage object function =
    if is_typedef specs then a_type_name type
    else if is_function type then a_function function type linkage
    else an_object object type (has_storage keyword.Register specs) linkage

pub record CDeclaring : Type 0 where
  pub where_stands : SpecsPlace
  pub specs : CSpecs
  pub name : List ℕ
  pub line : ℕ
  -- its type beside the visible declaration before
  pub type : CTy
  pub linkage : Linkage
  pub has_init : Bool

abbrev object_number : CScope → CDeclaring → ℕ
object_number scope one = if is_linked one.linkage then linked_number scope.next_object (thing_named one.name scope.things) else scope.next_object

abbrev function_number : CScope → CDeclaring → ℕ
function_number scope one = linked_number scope.next_function (thing_named one.name scope.things)

-- the object or the function of the unit that is declared
abbrev with_entity : CDeclaring → CScope → CScope
with_entity one scope =
    if is_typedef one.specs then scope
    else if is_function one.type then with_linked_function one.name one.type one.linkage false (thing_named one.name scope.things) scope
    else if is_linked one.linkage
    then with_linked_object one.name one.type one.linkage one.has_init
    (tentative_at (is_tentative one.where_stands one.specs one.has_init) one.line) (thing_named one.name scope.things) scope
    else with_new_object one.name one.type Nothing (if has_storage keyword.Static one.specs then Some no_puts else None) scope

abbrev defines_object : CDeclaring → Bool
defines_object one =
    not (is_function one.type) && (is_outside one.where_stands && (one.has_init || not (has_storage keyword.Extern one.specs)))

abbrev is_external : Linkage → Bool
is_external External = true
is_external Internal = false
is_external Nothing = false

abbrev is_told : CDeclaring → Bool
is_told one = not (is_typedef one.specs) && (is_external one.linkage || (is_function one.type && is_linked one.linkage))

-- the type that the unit gives to what is declared, from this declaration on (6.2.7p4)
abbrev told_type : CDeclaring → Option CThing → CTy
told_type one None = one.type
told_type one (Some thing) = thing.type

abbrev with_told : CDeclaring → CScope → CScope
with_told one scope =
    if is_told one
    then with_mention
    (mention_of scope one.name one.line (told_type one (thing_named one.name scope.things)) one.linkage (does_by (defines_object one))) scope
    else scope

-- the scope once a declarator has ended (6.2.1p7)
unfoldable pub with_declaration : CDeclaring → CScope → CScope
with_declaration one scope =
    with_declared one.name (meant_as one.where_stands one.specs one.type one.linkage (object_number scope one) (function_number scope one))
    (with_told one (with_entity one scope))

abbrev declaring_as : SpecsPlace → CSpecs → List ℕ → ℕ → CTy → Linkage → Bool → Option CMeant → CDeclaring
declaring_as place specs name line type linkage has_init before = record {
  where_stands = place;
  specs = specs;
  name = name;
  line = line;
  type = if is_linked linkage then joined_with type before else type;
  linkage = linkage;
  has_init = has_init;
}

abbrev pub declaring : CScope → SpecsPlace → CSpecs → List ℕ → ℕ → CTy → Bool → CDeclaring
declaring scope place specs name line type has_init =
    declaring_as place specs name line type (linkage_of place specs type (ordinary name scope.declared)) has_init (ordinary name scope.declared)

abbrev pub begun_as : CScope → CDeclaring → CTy → CBegun
begun_as scope one written = record {
  name = one.name;
  type = one.type;
  linkage = one.linkage;
  clashes = clashes scope one.name (is_typedef one.specs) written one.linkage one.has_init;
  object = if_object (not (is_typedef one.specs || is_function one.type)) (object_number scope one);
  is_static = lives_on one.linkage one.specs;
  target = whole_target (lives_on one.linkage one.specs) (target_type (may_be_initialised scope.types one.where_stands one.specs one.type) one.type);
  mention = if is_told one then Some (length scope.mentions) else None;
}

-- what an initialiser stores in an object: at each time that its declaration is reached, or before the program begins
abbrev stored_in : Bool → CTy → CPuts → CObject → CObject
stored_in true type puts one = record one { type = type; puts = Some puts }
stored_in false type puts one = record one { type = type }

abbrev thing_completed : CTy → CThing → CThing
thing_completed type one = record one { type = type }

abbrev completed_thing : List ℕ → CTy → Option CThing → CScope → CScope
completed_thing name type None scope = scope
completed_thing name type (Some one) scope = with_things (set_thing name (thing_completed type one) scope.things) scope

-- the type that an initialiser completes isn't what other declarations of the unit, in whatever scope, say of the same object (6.2.7p2,
-- 6.7.8p22)
abbrev pub clashes_completed : CScope → List ℕ → Linkage → CTy → Bool
clashes_completed scope name linkage type = clashes_thing scope.types type linkage false (linked_thing linkage name scope.things)

abbrev with_content_at : CBegun → CTy → CPuts → Option ℕ → CScope → CScope
with_content_at begun type puts None scope = scope
with_content_at begun type puts (Some number) scope = with_object_at number (stored_in begun.is_static type puts) scope

abbrev is_object_meant : CMeant → Bool
is_object_meant (an_object number type is_register linkage) = true
is_object_meant _ = false

-- an array without length has one behind its initialiser, for whoever names it from there on
abbrev redeclared : List ℕ → CTy → CDeclared → CDeclared
redeclared name type one = elim one.meant as (λ _. CDeclared) [
  | an_object number before is_register linkage ↦
      (if bytes_eq one.name name then record one { meant = an_object number type is_register linkage } else one)
  | a_function number before linkage ↦ one
  | a_type_name before ↦ one
  | an_enumerator value ↦ one
  | a_tag is_record is_open number ↦ one
]

abbrev redeclare_first : List ℕ → CTy → List CDeclared → List CDeclared
redeclare_first name type [] = []
redeclare_first name type (one ∷ others) =
    if bytes_eq one.name name && is_object_meant one.meant then redeclared name type one ∷ others else one ∷ redeclare_first name type others

-- the declaration says the type that its initialiser gives (6.7.8p22)
abbrev completed_mention : Option ℕ → CTy → CScope → CScope
completed_mention None type scope = scope
completed_mention (Some index) type scope = with_told_type index type scope

-- the name, the object and the declaration say the type that the initialiser gives, as a definition of a function says the one that is written;
-- later declarations are beside that and all of the unit before
abbrev with_content_as : CBegun → (type whole : CTy) → CPuts → CScope → CScope
with_content_as begun type whole puts scope =
    completed_mention begun.mention type
    (completed_thing begun.name whole (linked_thing begun.linkage begun.name scope.things)
    (with_content_at begun type puts begun.object (record scope { declared = redeclare_first begun.name type scope.declared })))

-- the scope once an initialiser has ended
unfoldable pub with_content : CBegun → CTy → CPuts → CScope → CScope
with_content begun type puts scope = with_content_as begun type (beside_thing type (linked_thing begun.linkage begun.name scope.things)) puts scope

-- ---- definitions of functions (6.9.1)

abbrev step_params : Option CStep → List CParam
step_params (Some (to_function (Some params) variadic within)) = params
step_params _ = []

-- the parameters of the function that a declarator declares
abbrev pub own_params : List CStep → List CParam
own_params steps = step_params (last_step steps)

abbrev step_within : Option CStep → List CDeclared
step_within (Some (to_function params variadic within)) = within
step_within _ = []

abbrev pub own_within : List CStep → List CDeclared
own_within steps = step_within (last_step steps)

abbrev param_object : CScope → CParam → CObject
param_object scope one = record {
  object = one.object;
  unit = scope.unit;
  name = one.name;
  is_text = false;
  type = one.type;
  linkage = Nothing;
  puts = None;
}

-- the head of a definition: the function is declared, and its parameters are objects of the body's scope, which begins (6.2.1p4)
abbrev in_body : List CStep → CScope → CScope
in_body steps scope = record scope {
  begins = length scope.declared;
  declared = own_within steps ++ scope.declared;
  objects = scope.objects ++ map (param_object scope) (own_params steps);
  in_function = true;
}

-- a definition says the type that is written there, since its body goes by that one
abbrev with_function : CDeclaring → (written : CTy) → CScope → CScope
with_function one written scope =
    with_declared one.name (a_function (function_number scope one) one.type one.linkage)
    (with_mention (mention_of scope one.name one.line written one.linkage defines)
    (with_linked_function one.name one.type one.linkage true (thing_named one.name scope.things) scope))

unfoldable pub with_head : CDeclaring → (written : CTy) → List CStep → CScope → CScope
with_head one written steps scope = in_body steps (with_function one written scope)

abbrev pub head_number : CScope → CDeclaring → ℕ
head_number scope one = function_number scope one

-- ---- the end of a unit (6.9.2)

abbrev one_element : CTy → CTy
one_element (ty (array element None) is_const) = ty (array element (Some 1)) is_const
one_element type = type

-- the type of an object with a tentative definition at the end of the unit
abbrev pub final_type : CThing → CTy
final_type one = if is_some one.tentative && not one.is_defined then one_element one.type else one.type

abbrev final_puts : CThing → CObject → Option CPuts
final_puts thing one = if is_some thing.tentative && is_none one.puts then Some no_puts else one.puts

abbrev final_as : CObject → Option CThing → CObject
final_as one None = one
final_as one (Some thing) = if thing.is_defined then one else record one { type = final_type thing; puts = final_puts thing one }

abbrev names_object : ℕ → CThing → Bool
names_object number thing = not thing.is_function && thing.number == number

abbrev final_object : List CThing → CObject → CObject
final_object things one = final_as one (find (names_object one.object) things)

-- the objects of literals
abbrev made_object : ℕ → CMade → CObject
made_object unit made = record {
  object = made.object;
  unit = unit;
  name = None;
  is_text = made.is_text;
  type = made.type;
  linkage = Nothing;
  puts = made.fixed;
}

abbrev put_object : CObject → List CObject → List CObject
put_object one [] = one ∷ []
put_object one (first ∷ others) = if nat_le one.object first.object then one ∷ first ∷ others else first ∷ put_object one others

-- by their numbers, which is the text order of their first declarations
abbrev in_number_order : List CObject → List CObject
in_number_order [] = []
in_number_order (one ∷ others) = put_object one (in_number_order others)

abbrev outers_of : List CThing → List COuter
outers_of [] = []
outers_of (one ∷ others) =
    if one.is_function && not one.is_defined
    then record { function = one.number; name = one.name; linkage = one.linkage; type = one.type } ∷ outers_of others
    else outers_of others

abbrev is_defining : CDoes → Bool
is_defining defines = true
is_defining _ = false

-- an array that no declaration of the unit gives a length
abbrev has_no_length : CTyForm → Bool
has_no_length (array element None) = true
has_no_length _ = false

-- a tentative definition of an array that no declaration of the unit gives a length defines one of one element
abbrev ends_with_one_element : CThing → Bool
ends_with_one_element one = is_some one.tentative && (not one.is_defined && has_no_length (form_of_type one.type))

abbrev final_mention_by : CMention → Option CThing → CMention
final_mention_by one None = one
final_mention_by one (Some thing) = if ends_with_one_element thing then record one { type = final_type thing } else one

abbrev final_mention : List CThing → CMention → CMention
final_mention things one = if is_defining one.does then final_mention_by one (thing_named one.name things) else one

-- the order of declarations: what has linkage by its numbers, and the records
abbrev pub key_of : CThing → CKey
key_of one = if one.is_function then function_key one.number else object_key one.number

abbrev pub order_of : CScope → CDeclaredOrder
order_of scope = record { things = map key_of scope.things; completed = scope.completed }

-- the typed unit
unfoldable pub unit_of : CScope → CUnit
unit_of scope = record {
  types = scope.types;
  objects = in_number_order (map (final_object scope.things) scope.objects ++ map (made_object scope.unit) scope.literals);
  functions = scope.functions;
  externals = outers_of scope.things;
  mentions = map (final_mention scope.things) scope.mentions;
  order = order_of scope;
}
