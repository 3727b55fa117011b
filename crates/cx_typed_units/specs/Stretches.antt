-- What a program has of a stretch of a function's statements, and what they do to a scope (ISO C99, 6.2.1, 6.2.2, 6.2.4, 6.8).
use Rattle.std.specs.Prelude.{◌≡◌, ℕ, ◌≤◌, ◌<◌, Bool, true, false, not, ◌&&◌, ◌||◌, List, [], ◌∷◌, ◌++◌, length, Option, None, Some, IsSome, IfSome, is_some, slice_get}
use Rattle.std.specs.List.{Contains}
use Rattle.cx_core.specs.declared.program.Linkage.{Linkage}
use Rattle.cx_core.specs.declared.program.Linkage.TheVariants.{Internal, Nothing}
use Rattle.cx_core.specs.Compatible.{AreCompatible}
use Rattle.cx_core.specs.Linked.{home_of, IsStatic, IsTypedObject, IsTypedFunction}
use Rattle.cx_core.specs.Trees.{CTy, CTypes, CPuts, CObject, CFun, CProgram, CMention}
use Rattle.cx_core.specs.Typing.{CHome, CCallee, object_with, callee_with, IsStaticObject}
use Rattle.cx_core.specs.ValidTypes.{IsComplete}
use Rattle.cx_rules.specs.Declare.{is_linked, thing_named}
use Rattle.cx_rules.specs.Pieces.{is_static_object}
use Rattle.cx_rules.specs.Scope.{CMeant, an_object, a_function, CDeclared, CMade, CThing, CScope, new_scope, ordinary}
use Rattle.cx_rules.specs.Types.{is_function}
use Rattle.cx_typed.specs.Growth.{Gives, Grows}
use Rattle.cx_typed.specs.Operands.{IsKnownType}
use Rattle.cx_typed.specs.Scopes.{IsHeld, is_thing, object_made}
use Rattle.cx_typed_units.specs.Account.{account_of, IsAccounted}
use Rattle.cx_typed_units.specs.Fills.{Fills}
use Rattle.cx_typed_units.specs.Rest.{is_defining}

-- ---- what stays of a scope

-- a name with linkage stands for what it stood for, its type says no less, and a definition stays
pub record IsSameThing (opens : List ℕ) (types : CTypes) (one other : CThing) : Type 0 where
  pub number_is : other.number ≡ one.number
  pub linkage_is : other.linkage ≡ one.linkage
  pub function_is : other.is_function ≡ one.is_function
  pub fills : Fills opens types one.type other.type
  pub defined : one.is_defined ≡ true → other.is_defined ≡ true
  pub tentative : is_some one.tentative ≡ true → is_some other.tentative ≡ true

abbrev pub IsKept : List ℕ → CTypes → CThing → Option CThing → Type 0
IsKept opens types one found = IsSome found × IfSome found (IsSameThing opens types one)

-- ---- what is known of names with linkage

-- a declared name stands for this, and its type says no less
pub record IsThing (opens : List ℕ) (types : CTypes) (number : ℕ) (type : CTy) (linkage : Linkage) (is_function : Bool) (found : CThing) : Type 0 where
  pub number_is : found.number ≡ number
  pub linkage_is : found.linkage ≡ linkage
  pub function_is : found.is_function ≡ is_function
  pub fills : Fills opens types type found.type

abbrev pub IsThingOf : List ℕ → CScope → List ℕ → ℕ → CTy → Linkage → Bool → Type 0
IsThingOf opens scope name number type linkage is_function =
    IsSome (thing_named name scope.things)
    × IfSome (thing_named name scope.things) (IsThing opens scope.types number type linkage is_function)

-- the types of names with linkage are known, and their numbers are theirs alone
pub record IsKnownThing (opens : List ℕ) (scope : CScope) (one : CThing) : Type 0 where
  pub known : IsKnownType opens scope.types scope.unit one.type
  pub linked : is_linked one.linkage ≡ true
  pub function_is : is_function one.type ≡ one.is_function
  pub below : one.is_function ≡ false → one.number < scope.next_object
  pub own : one.is_function ≡ false → (index : ℕ) (object : CObject) → slice_get scope.objects index ≡ Some object → object.object ≡ one.number → is_linked object.linkage ≡ true

-- the declarations of a scope and the objects and names with linkage of its unit go together
pub record IsOrderly (opens : List ℕ) (scope : CScope) : Type 0 where
  pub objects : (name : List ℕ) (number : ℕ) (type : CTy) (is_register : Bool) (linkage : Linkage) → ordinary name scope.declared ≡ Some (an_object number type is_register linkage)
      → is_linked linkage ≡ true → IsThingOf opens scope name number type linkage false
  pub functions : (name : List ℕ) (number : ℕ) (type : CTy) (linkage : Linkage) → ordinary name scope.declared ≡ Some (a_function number type linkage)
      → (is_linked linkage ≡ true) × IsThingOf opens scope name number type linkage true
  pub things : (name : List ℕ) (one : CThing) → thing_named name scope.things ≡ Some one → IsKnownThing opens scope one
  pub numbers : (index : ℕ) (object : CObject) → slice_get scope.objects index ≡ Some object → object.object < scope.next_object

-- a function is defined by its body, an object by its initialiser or by a tentative definition (6.9p5, 6.9.2p2)
abbrev pub has_definition : CThing → Bool
has_definition one = one.is_defined || (not one.is_function && is_some one.tentative)

-- what a mention says that the unit defines, it defines, with the same linkage
pub record IsDefinedAs (thing : CThing) (one : CMention) : Type 0 where
  pub linkage_is : thing.linkage ≡ one.linkage
  pub defined : has_definition thing ≡ true

-- what the unit has of a name says all that a mention of it says
pub record IsCovered (opens : List ℕ) (types : CTypes) (things : List CThing) (one : CMention) : Type 0 where
  pub thing : CThing
  pub there : thing_named one.name things ≡ Some thing
  pub fills : Fills opens types one.type thing.type
  pub defined : is_defining one.does ≡ true → IsDefinedAs thing one

abbrev pub AreCovered : List ℕ → CScope → Type 0
AreCovered opens scope = (index : ℕ) (one : CMention) → slice_get scope.mentions index ≡ Some one → IsCovered opens scope.types scope.things one

-- the declarations, types, mentions and literals of a scope go on in a later one
pub record Continues (opens : List ℕ) (before after : CScope) : Type 0 where
  pub unit_is : after.unit ≡ before.unit
  pub grows : Grows opens before.types after.types
  pub mentions : (number : ℕ) → Gives (slice_get before.mentions number) (slice_get after.mentions number)
  pub literals : (number : ℕ) → Gives (slice_get before.literals number) (slice_get after.literals number)
  pub front : List CDeclared
  pub declared_is : after.declared ≡ front ++ before.declared

-- no object and no function is declared
abbrev pub DeclaresNone : CScope → CScope → Type 0
DeclaresNone before after = (name : List ℕ) (meant : CMeant) → is_thing meant ≡ true → ordinary name after.declared ≡ Some meant → ordinary name before.declared ≡ Some meant

-- ---- what a program has of it

-- an object of a block of a unit
pub record IsInBlock (types : CTypes) (unit : ℕ) (one : CObject) : Type 0 where
  pub no_linkage : one.linkage ≡ Nothing
  pub not_static : one.puts ≡ None
  pub here : one.unit ≡ unit
  pub complete : IsComplete types one.type

-- the object of a literal: of one that stands in a block, it is one of a block (6.5.2.5p6)
pub record IsMadeObject (types : CTypes) (unit : ℕ) (made : CMade) (one : CObject) : Type 0 where
  pub number_is : one.object ≡ made.object
  pub type_is : one.type ≡ made.type
  pub unnamed : one.name ≡ None
  pub no_text : one.is_text ≡ false
  pub in_block : IsInBlock types unit one

pub record IsFixedObject (types : CTypes) (made : CMade) (one : CObject) : Type 0 where
  pub compatible : AreCompatible types made.type one.type
  pub static : IsSome one.puts

abbrev pub IsMadeBy : Option CPuts → CTypes → ℕ → CMade → CObject → Type 0
IsMadeBy None types unit made one = IsMadeObject types unit made one
IsMadeBy (Some puts) types unit made one = IsFixedObject types made one

abbrev pub IsMadeThere : CProgram → ℕ → CMade → Type 0
IsMadeThere program unit made =
    IsSome (object_with made.object program.objects)
    × IfSome (object_with made.object program.objects) (IsMadeBy made.fixed program.types unit made)

-- an object or a function with linkage; whatever its declarations said of its type goes with what the program says
pub record IsLinkedObject (types : CTypes) (opens name : List ℕ) (thing : CThing) (one : CObject) : Type 0 where
  pub linkage_is : one.linkage ≡ thing.linkage
  pub named : one.name ≡ Some name
  pub defined : thing.linkage ≡ Internal → IsSome one.puts
  pub compatible : (earlier : CTy) → Fills opens types earlier thing.type → AreCompatible types earlier one.type

pub record IsLinkedFunction (types : CTypes) (opens name : List ℕ) (thing : CThing) (callee : CCallee) : Type 0 where
  pub compatible : (earlier : CTy) → Fills opens types earlier thing.type → AreCompatible types earlier callee.type
  pub outer : IfSome callee.outer (λ one. (one.name ≡ name) × (one.linkage ≡ thing.linkage))

abbrev pub IsLinkedBy : Bool → CProgram → (opens name : List ℕ) → CThing → Type 0
IsLinkedBy false program opens name thing =
    IsSome (object_with thing.number program.objects)
    × IfSome (object_with thing.number program.objects) (IsLinkedObject program.types opens name thing)
IsLinkedBy true program opens name thing =
    IsSome (callee_with thing.number program)
    × IfSome (callee_with thing.number program) (IsLinkedFunction program.types opens name thing)

-- the blocks of a function, and what a unit made and named in a stretch, are those of the program
pub record Backs (home : CHome) (opens : List ℕ) (before after : CScope) : Type 0 where
  pub unit_is : home.unit ≡ before.unit
  pub grows : Grows opens after.types home.program.types
  pub told : List CMention
  pub told_is : home.mentions ≡ Some told
  pub mentions : (number : ℕ) (one : CMention) → length before.mentions ≤ number → slice_get after.mentions number ≡ Some one → is_defining one.does ≡ false → Contains told one
  pub literals : (number : ℕ) (one : CMade) → length before.literals ≤ number → slice_get after.literals number ≡ Some one → IsMadeThere home.program home.unit one
  pub objects : (number : ℕ) (one : CObject) → one.linkage ≡ Nothing → length before.objects ≤ number → slice_get after.objects number ≡ Some one
      → object_with one.object home.program.objects ≡ Some one
  pub things : (name : List ℕ) (one : CThing) → thing_named name after.things ≡ Some one → IsLinkedBy one.is_function home.program opens name one
  pub statics : (number : ℕ) → is_static_object after number ≡ true → IsStaticObject home.program number

-- what is declared is there, and its block holds the place
abbrev pub IsHeldAt : CHome → List CDeclared → Type 0
IsHeldAt home declared = (name : List ℕ) (meant : CMeant) → ordinary name declared ≡ Some meant → IsHeld home name meant

abbrev pub AreIn : List ℕ → List ℕ → Type 0
AreIn scope [] = Unit {0}
AreIn scope (one ∷ others) = Contains scope one × AreIn scope others

-- ---- what is typed up to a place

-- a program has all that a unit has up to a place, and a block of it holds all of its objects
pub record HoldsAll (home : CHome) (opens : List ℕ) (scope : CScope) : Type 0 where
  pub backs : Backs home opens (new_scope scope.unit) scope
  pub objects_inside : (index : ℕ) (one : CObject) → slice_get scope.objects index ≡ Some one → one.linkage ≡ Nothing → Contains home.scope one.object
  pub literals_inside : (index : ℕ) (one : CMade) → slice_get scope.literals index ≡ Some one → Contains home.scope one.object

-- what is stored in a static object is typed
abbrev pub IsFilled : CHome → CObject → CPuts → Type 0
IsFilled home one puts = IsStatic (home_of home.program home.mentions home.unit) one.type puts

pub record AreTypedThere (home : CHome) (scope : CScope) : Type 0 where
  pub held : IsHeldAt home scope.declared
  pub literals : (index : ℕ) (one : CMade) → slice_get scope.literals index ≡ Some one → IsTypedObject home.program home.mentions (object_made home.unit one)
  pub objects : (index : ℕ) (one : CObject) → slice_get scope.objects index ≡ Some one → IfSome one.puts (IsFilled home one)
  pub functions : (index : ℕ) (one : CFun) → slice_get scope.functions index ≡ Some one → IsTypedFunction home.program home.mentions one

-- in each program that has it, what was made and defined is typed
abbrev pub AreTypedUpTo : List ℕ → CScope → Type 0
AreTypedUpTo opens scope = (home : CHome) → HoldsAll home opens scope → AreTypedThere home scope

-- what declarations and statements do to a scope: what isn't linked stays, and what is linked is declared once more at most
pub record Leads (opens : List ℕ) (before after : CScope) : Type 0 where
  pub declares : Continues opens before after
  pub begins_is : after.begins ≡ before.begins
  pub in_function_is : after.in_function ≡ before.in_function
  pub objects_more : length before.objects ≤ length after.objects
  pub objects : (number : ℕ) (one : CObject) → one.linkage ≡ Nothing → slice_get before.objects number ≡ Some one → slice_get after.objects number ≡ Some one
  pub things : (name : List ℕ) (one : CThing) → thing_named name before.things ≡ Some one → IsKept opens after.types one (thing_named name after.things)
  pub orderly : IsOrderly opens before → IsOrderly opens after
  pub covered : IsOrderly opens before → AreCovered opens before → AreCovered opens after
  pub functions_are : after.functions ≡ before.functions
  pub statics : (number : ℕ) → is_static_object before number ≡ true → is_static_object after number ≡ true
  pub keeps : (pending : Option (List ℕ)) → IsAccounted opens pending (account_of before) → IsAccounted opens pending (account_of after)
  pub typed : (pending : Option (List ℕ)) → IsAccounted opens pending (account_of before) → AreTypedUpTo opens before → AreTypedUpTo opens after
