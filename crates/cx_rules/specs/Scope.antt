-- What is known at a place in a unit: the declarations whose scope holds it (ISO C99, 6.2.1), the types and objects so far, and what
-- the unit did with names that have linkage.
use Rattle.std.specs.Prelude.{ℕ, ◌+◌, ◌-◌, ℤ, Bool, true, false, not, ◌&&◌, if◌then◌else◌, List, [], ◌∷◌, ◌++◌, length, take, drop, Option, Some, None, bytes_eq, slice_set, slice_get}
use Rattle.cx_core.specs.declared.program.Linkage.{Linkage}
use Rattle.cx_core.specs.Trees.{CTy, CTypes, CRecord, CPuts, CObject, CFun, CMention, CDoes, calls, no_types_yet}

-- ---- declarations

-- what an identifier means
pub data CMeant : Type 0 where
  -- an object by its number, its type, and whether it is declared `register`
  an_object : (object : ℕ) → (type : CTy) → (is_register : Bool) → (linkage : Linkage) → CMeant
  -- a function by its number
  a_function : (function : ℕ) → (type : CTy) → (linkage : Linkage) → CMeant
  a_type_name : (type : CTy) → CMeant
  an_enumerator : (value : ℤ) → CMeant
  -- a structure or union type, or an enumerated type, by its number; an enumerated type is open until its list has ended
  a_tag : (is_record : Bool) → (is_open : Bool) → (number : ℕ) → CMeant

pub record CDeclared : Type 0 where
  pub name : List ℕ
  pub meant : CMeant

-- a tag without its name
pub record CTag : Type 0 where
  pub is_record : Bool
  pub is_open : Bool
  pub number : ℕ

-- ---- objects of literals

-- the object of a string literal or of a compound literal; what is stored in it before the program begins, or none for a compound
-- literal of a block (6.4.5p5, 6.5.2.5p6)
pub record CMade : Type 0 where
  pub object : ℕ
  pub type : CTy
  pub is_text : Bool
  pub fixed : Option CPuts

-- ---- names with linkage (6.2.2)

-- an object or a function of the unit that has linkage: its type is the composite of those that its declarations gave it so far
pub record CThing : Type 0 where
  pub name : List ℕ
  pub linkage : Linkage
  pub is_function : Bool
  -- its number, among objects or among functions
  pub number : ℕ
  pub type : CTy
  -- it has a body or an initialiser
  pub is_defined : Bool
  -- the line of its first tentative definition (6.9.2p2)
  pub tentative : Option ℕ

-- ---- labels of the function, and of the innermost `switch` (6.8.1, 6.8.4.2)

pub record CLabels : Type 0 where
  -- the labels so far
  pub labels : List (List ℕ)
  -- the values of the `case` labels so far, and whether there was a `default`
  pub cases : List ℤ
  pub has_default : Bool

-- ---- scopes

pub record CScope : Type 0 where
  -- the number of the unit
  pub unit : ℕ
  -- the declarations whose scope holds the place, the newest first
  pub declared : List CDeclared
  -- how many of them were there when the innermost scope began
  pub begins : ℕ
  -- whether the place stands inside a function
  pub in_function : Bool
  -- the record and enumerated types of the unit so far
  pub types : CTypes
  -- the number of the next object, and of the next function
  pub next_object : ℕ
  pub next_function : ℕ
  -- the objects of literals so far, in text order
  pub literals : List CMade
  -- what the unit named so far that has linkage, in text order
  pub mentions : List CMention
  -- the objects so far that aren't those of literals, in the order of their numbers, and the functions with bodies
  pub objects : List CObject
  pub functions : List CFun
  -- the names with linkage, in the order of their first declarations
  pub things : List CThing
  -- the numbers of the records that were completed so far, in that order (6.7.2.3p4)
  pub completed : List ℕ
  pub body : CLabels

abbrev pub no_labels : CLabels
no_labels = record { labels = []; cases = []; has_default = false }

-- before the first declaration of a unit
abbrev pub new_scope : ℕ → CScope
new_scope unit = record {
  unit = unit;
  declared = [];
  begins = 0;
  in_function = false;
  types = no_types_yet;
  next_object = 0;
  next_function = 0;
  literals = [];
  mentions = [];
  objects = [];
  functions = [];
  things = [];
  completed = [];
  body = no_labels;
}

-- ---- which declaration an identifier means (6.2.1p4, 6.2.3)

-- it isn't in the name space of tags
abbrev pub is_ordinary : CMeant → Bool
is_ordinary (an_object object type is_register linkage) = true
is_ordinary (a_function function type linkage) = true
is_ordinary (a_type_name type) = true
is_ordinary (an_enumerator value) = true
is_ordinary (a_tag is_record is_open number) = false

abbrev pub tag_of : CMeant → Option CTag
tag_of (a_tag is_record is_open number) = Some (record { is_record = is_record; is_open = is_open; number = number })
tag_of _ = None

-- the newest declaration of an identifier that is no tag
abbrev pub ordinary : List ℕ → List CDeclared → Option CMeant
ordinary name [] = None
ordinary name (one ∷ others) = if is_ordinary one.meant && bytes_eq one.name name then Some one.meant else ordinary name others

-- the newest declaration of a tag
abbrev pub tag : List ℕ → List CDeclared → Option CTag
tag name [] = None
tag name (one ∷ others) = if not (is_ordinary one.meant) && bytes_eq one.name name then tag_of one.meant else tag name others

-- the declarations of the innermost scope
abbrev pub innermost : CScope → List CDeclared
innermost scope = take (length scope.declared - scope.begins) scope.declared

-- ---- what changes a scope

abbrev pub with_declared : List ℕ → CMeant → CScope → CScope
with_declared name meant scope = record scope { declared = record { name = name; meant = meant } ∷ scope.declared }

-- a scope begins (6.2.1p4)
abbrev pub entered : CScope → CScope
entered scope = record scope { begins = length scope.declared }

-- the newest declarations are dropped, down to so many
abbrev pub down_to : ℕ → List CDeclared → List CDeclared
down_to count declared = drop (length declared - count) declared

-- a scope ends that began with so many declarations; the one around it began with so many
abbrev pub left : (count : ℕ) → (begins : ℕ) → CScope → CScope
left count begins scope = record scope { declared = down_to count scope.declared; begins = begins }

-- a number for an object is taken
abbrev pub with_object_number : CScope → CScope
with_object_number scope = record scope { next_object = scope.next_object + 1 }

abbrev pub with_function_number : CScope → CScope
with_function_number scope = record scope { next_function = scope.next_function + 1 }

abbrev pub with_types : CTypes → CScope → CScope
with_types types scope = record scope { types = types }

abbrev pub with_made : CMade → CScope → CScope
with_made made scope = record scope { literals = scope.literals ++ made ∷ [] }

-- the object of a literal that was made is completed
abbrev pub with_made_at : ℕ → CMade → CScope → CScope
with_made_at index made scope = record scope { literals = slice_set scope.literals index made }

abbrev pub with_mention : CMention → CScope → CScope
with_mention mention scope = record scope { mentions = scope.mentions ++ mention ∷ [] }

-- what is named in the operand of `sizeof` isn't used, and its literals are no objects (6.5.3.4p2)
abbrev pub unevaluated : CScope → CScope → CScope
unevaluated before after = record after { literals = before.literals; mentions = before.mentions }

-- ---- new types

-- a structure or union that isn't completed (6.7.2.3p4)
abbrev pub with_record : Option (List ℕ) → Bool → CScope → CScope
with_record name is_union scope = with_types (record scope.types {
  records = scope.types.records ++ None ∷ [];
  record_tags = scope.types.record_tags ++ record { tag = name; is_union = is_union } ∷ [];
  record_units = scope.types.record_units ++ scope.unit ∷ [];
}) scope

-- the record with a number is completed
abbrev pub with_completed : ℕ → CRecord → CScope → CScope
with_completed number one scope = record scope {
  types = record scope.types { records = slice_set scope.types.records number (Some one) };
  completed = scope.completed ++ number ∷ [];
}

-- an enumerated type, whose list may follow (6.7.2.2)
abbrev pub with_enum : CScope → CScope
with_enum scope = with_types (record scope.types {
  enums = scope.types.enums ++ true ∷ [];
  enum_units = scope.types.enum_units ++ scope.unit ∷ [];
}) scope

-- whether the enumerated type with a number is `int`
abbrev pub with_enum_type : ℕ → Bool → CScope → CScope
with_enum_type number is_int scope = with_types (record scope.types { enums = slice_set scope.types.enums number is_int }) scope

-- a tag comes into scope, where there is one
abbrev pub with_tag : Option (List ℕ) → (is_record is_open : Bool) → ℕ → CScope → CScope
with_tag None is_record is_open number scope = scope
with_tag (Some name) is_record is_open number scope = with_declared name (a_tag is_record is_open number) scope

-- ---- mentions

-- a mention of what has linkage at a line of the unit
abbrev pub mention_of : CScope → List ℕ → (line : ℕ) → CTy → Linkage → CDoes → CMention
mention_of scope name line type linkage does = record {
  name = name;
  place = record { unit = scope.unit; line = line };
  type = type;
  linkage = linkage;
  does = does;
}

-- what is known of a call once its arguments are
abbrev with_trailing : Option CMention → List CTy → Option CMention
with_trailing None types = None
with_trailing (Some one) types = Some (record one { does = calls types })

abbrev set_mention : ℕ → List CMention → Option CMention → List CMention
set_mention index mentions None = mentions
set_mention index mentions (Some one) = slice_set mentions index one

abbrev with_type : CTy → Option CMention → Option CMention
with_type type None = None
with_type type (Some one) = Some (record one { type = type })

-- a mention says a type that is known behind it
abbrev pub with_told_type : ℕ → CTy → CScope → CScope
with_told_type index type scope = record scope { mentions = set_mention index scope.mentions (with_type type (slice_get scope.mentions index)) }

abbrev pub with_call : ℕ → List CTy → CScope → CScope
with_call index types scope = record scope { mentions = set_mention index scope.mentions (with_trailing (slice_get scope.mentions index) types) }
