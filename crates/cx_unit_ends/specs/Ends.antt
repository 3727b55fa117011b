-- What the end of a unit makes of its scope (ISO C99, 6.9.2).
use Rattle.std.specs.Prelude.{ℕ, suc, nat_le, ◌==◌, Bool, true, false, not, ◌&&◌, if◌then◌else◌, List, [], ◌∷◌, ◌++◌, map, length, find, Option, None, Some, is_some, is_none}
use Rattle.cx_core.specs.declared.program.Linkage.TheVariants.{Nothing}
use Rattle.cx_core.specs.Trees.{CTy, ty, array, CTyForm, form_of_type, CPuts, no_puts, CObject, COuter, CKey, a_function, an_object, CDeclaredOrder, CDoes, defines, CMention, CUnit}
use Rattle.cx_rules.specs.Declare.{final_type, thing_named}
use Rattle.cx_rules.specs.Scope.{CMade, CScope, CThing}

-- ---- types

abbrev pub one_element : CTy → CTy
one_element (ty (array element None) is_const) = ty (array element (Some 1)) is_const
one_element type = type

abbrev pub or_one : Option ℕ → Option ℕ
or_one None = Some 1
or_one (Some length) = Some length

-- a tentative definition without an other
abbrev pub is_left : CThing → Bool
is_left one = is_some one.tentative && not one.is_defined

-- ---- objects

abbrev pub final_puts : CThing → CObject → Option CPuts
final_puts thing one = if is_some thing.tentative && is_none one.puts then Some no_puts else one.puts

abbrev pub puts_when : Option ℕ → Option CPuts → Option CPuts
puts_when line None = if is_some line then Some no_puts else None
puts_when line (Some puts) = Some puts

abbrev pub puts_by : CThing → Option CPuts → Option CPuts
puts_by thing puts = puts_when thing.tentative puts

abbrev pub final_by : CThing → CObject → CObject
final_by thing one = record one { type = final_type thing; puts = final_puts thing one }

abbrev pub final_as : CObject → Option CThing → CObject
final_as one None = one
final_as one (Some thing) = if thing.is_defined then one else final_by thing one

abbrev pub names_object : ℕ → CThing → Bool
names_object number thing = not thing.is_function && thing.number == number

abbrev pub final_object : List CThing → CObject → CObject
final_object things one = final_as one (find (names_object one.object) things)

abbrev pub made_object : ℕ → CMade → CObject
made_object unit made = record {
  object = made.object;
  unit = unit;
  name = None;
  is_text = made.is_text;
  type = made.type;
  linkage = Nothing;
  puts = made.fixed;
}

abbrev pub put_object : CObject → List CObject → List CObject
put_object one [] = one ∷ []
put_object one (first ∷ others) = if nat_le one.object first.object then one ∷ first ∷ others else first ∷ put_object one others

abbrev pub in_number_order : List CObject → List CObject
in_number_order [] = []
in_number_order (one ∷ others) = put_object one (in_number_order others)

-- objects that are put among others, the last first
abbrev pub ordered_onto : List CObject → List CObject → List CObject
ordered_onto [] sorted = sorted
ordered_onto (one ∷ others) sorted = put_object one (ordered_onto others sorted)

-- how many of those in order don't stand before an object
abbrev pub place_of : List CObject → ℕ → ℕ
place_of [] number = 0
place_of (one ∷ others) number = if nat_le number one.object then suc (length others) else place_of others number

abbrev pub objects_of : (unit : ℕ) → List CThing → List CObject → List CMade → List CObject
objects_of unit things objects literals = in_number_order (map (final_object things) objects ++ map (made_object unit) literals)

-- ---- functions

abbrev pub outer_of : CThing → COuter
outer_of one = record { function = one.number; name = one.name; linkage = one.linkage; type = one.type }

abbrev pub is_outer : CThing → Bool
is_outer one = one.is_function && not one.is_defined

abbrev pub outers_of : List CThing → List COuter
outers_of [] = []
outers_of (one ∷ others) =
    if one.is_function && not one.is_defined
    then record { function = one.number; name = one.name; linkage = one.linkage; type = one.type } ∷ outers_of others
    else outers_of others

-- ---- mentions

abbrev pub is_defining : CDoes → Bool
is_defining defines = true
is_defining _ = false

abbrev pub has_no_length : CTyForm → Bool
has_no_length (array element None) = true
has_no_length _ = false

abbrev pub ends_with_one_element : CThing → Bool
ends_with_one_element one = is_some one.tentative && (not one.is_defined && has_no_length (form_of_type one.type))

abbrev pub final_mention_by : CMention → Option CThing → CMention
final_mention_by one None = one
final_mention_by one (Some thing) = if ends_with_one_element thing then record one { type = final_type thing } else one

abbrev pub final_mention : List CThing → CMention → CMention
final_mention things one = if is_defining one.does then final_mention_by one (thing_named one.name things) else one

-- ---- the order of declarations

abbrev pub key_of : CThing → CKey
key_of one = if one.is_function then a_function one.number else an_object one.number

abbrev pub order_with : CScope → List CKey → CDeclaredOrder
order_with scope things = record { things = things; completed = scope.completed }

-- ---- the whole

abbrev pub unit_with : CScope → List CObject → List COuter → List CMention → List CKey → CUnit
unit_with scope objects externals mentions keys = record {
  types = scope.types;
  objects = objects;
  functions = scope.functions;
  externals = externals;
  mentions = mentions;
  order = order_with scope keys;
}

abbrev pub unit_by : CScope → List COuter → List CMention → List CKey → CUnit
unit_by scope externals mentions keys = unit_with scope (objects_of scope.unit scope.things scope.objects scope.literals) externals mentions keys

abbrev pub unit_behind : CScope → List COuter → List CKey → CUnit
unit_behind scope externals keys = unit_by scope externals (map (final_mention scope.things) scope.mentions) keys
