-- A program holds what a unit declared up to a place, and what it named and made since (ISO C99, 6.2.2, 6.2.4, 6.4.5, 6.5.2.5).
use Rattle.std.specs.Prelude.{◌≡◌, ℕ, ◌≤◌, ◌<◌, Bool, true, false, List, ◌++◌, length, Option, None, Some, IsSome, IfSome, slice_get}
use Rattle.std.specs.List.{Contains}
use Rattle.cx_core.specs.declared.program.Linkage.{Linkage}
use Rattle.cx_core.specs.declared.program.Linkage.TheVariants.{External, Internal, Nothing}
use Rattle.cx_core.specs.Compatible.{AreCompatible}
use Rattle.cx_core.specs.Linked.{IsTypedObject}
use Rattle.cx_core.specs.Trees.{CTy, form_of_type, CTypes, CPuts, CObject, CFun, CMention}
use Rattle.cx_core.specs.Typing.{CHome, types_of_home, object_with, CCallee, callee_with, IsThere, IsNamed, IsLiteral, IsStaticObject}
use Rattle.cx_core.specs.ValidTypes.{IsComplete}
use Rattle.cr_base.specs.declared.refusal.Place.{Place as TextPlace}
use Rattle.cx_rules.specs.Initial.{text_type}
use Rattle.cx_rules.specs.Meanings.{trailing_types}
use Rattle.cx_rules.specs.Operands.{COperand}
use Rattle.cx_rules.specs.Pieces.{used, with_text, is_static_object}
use Rattle.cx_rules.specs.Scope.{CMeant, an_object, a_function, CDeclared, CMade, CThing, CLabels, CScope, ordinary, with_call}
use Rattle.cx_typed.specs.Calls.{named_function, args_to, MayBeCalled}
use Rattle.cx_typed.specs.Growth.{Gives, Grows}
use Rattle.cx_typed.specs.Names.{IsFunctionForm, IsServed}

-- ---- objects and functions that are declared

-- an object without linkage is static, or its block holds the place; one with internal linkage is defined in the unit; one with external linkage
-- has its name
abbrev pub IsHeldBy : Linkage → CHome → List ℕ → CTy → CObject → Type 0
IsHeldBy Nothing home name type one = IsThere home type one
IsHeldBy Internal home name type one = IsSome one.puts
IsHeldBy External home name type one = one.name ≡ Some name

pub record IsHeldObject (home : CHome) (name : List ℕ) (type : CTy) (linkage : Linkage) (one : CObject) : Type 0 where
  pub compatible : AreCompatible (types_of_home home) type one.type
  pub linkage_is : one.linkage ≡ linkage
  pub held : IsHeldBy linkage home name type one

pub record IsHeldFunction (home : CHome) (name : List ℕ) (type : CTy) (linkage : Linkage) (callee : CCallee) : Type 0 where
  pub compatible : AreCompatible (types_of_home home) type callee.type
  pub outer : IfSome callee.outer (λ one. (one.name ≡ name) × (one.linkage ≡ linkage))

-- what a name means is there
abbrev pub IsHeld : CHome → List ℕ → CMeant → Type 0
IsHeld home name (an_object number type is_register linkage) =
    IsSome (object_with number home.program.objects)
    × IfSome (object_with number home.program.objects) (IsHeldObject home name type linkage)
IsHeld home name (a_function number type linkage) =
    IsFunctionForm (form_of_type type)
    × IsSome (callee_with number home.program)
    × IfSome (callee_with number home.program) (IsHeldFunction home name type linkage)
IsHeld home name _ = Unit {0}

-- ---- literals

abbrev IsMadeBy : Option CPuts → CHome → CMade → Type 0
IsMadeBy None home one = IsLiteral home one.type one.object
IsMadeBy (Some puts) home one = IsNamed home one.type one.object

abbrev pub IsMade : CHome → CMade → Type 0
IsMade home one = IsMadeBy one.fixed home one

-- the object of a literal, as the unit holds it in the end (6.4.5p5, 6.5.2.5p6)
abbrev pub object_made : ℕ → CMade → CObject
object_made unit one = record {
  object = one.object;
  unit = unit;
  name = None;
  is_text = one.is_text;
  type = one.type;
  linkage = Nothing;
  puts = one.fixed;
}

-- ---- from one place of a unit to a later one

-- a program of a unit by itself holds what is declared at the first place, and what was named and made from there to the second
pub record Serves (home : CHome) (opens : List ℕ) (before after : CScope) : Type 0 where
  pub unit_is : home.unit ≡ before.unit
  pub grows : Grows opens after.types home.program.types
  pub told : List CMention
  pub told_is : home.mentions ≡ Some told
  pub declared : (name : List ℕ) (meant : CMeant) → ordinary name before.declared ≡ Some meant → IsHeld home name meant
  pub mentions : (number : ℕ) (one : CMention) → length before.mentions ≤ number → slice_get after.mentions number ≡ Some one → Contains told one
  pub literals : (number : ℕ) (one : CMade) → length before.literals ≤ number → slice_get after.literals number ≡ Some one → IsMade home one
  -- what lives as long as the program by the scope does so there
  pub statics : (number : ℕ) → is_static_object after number ≡ true → IsStaticObject home.program number

-- what an expression leaves as it is
pub record CRest : Type 0 where
  pub in_function : Bool
  pub next_function : ℕ
  pub objects : List CObject
  pub functions : List CFun
  pub things : List CThing
  pub body : CLabels

abbrev pub rest_of : CScope → CRest
rest_of scope = record {
  in_function = scope.in_function;
  next_function = scope.next_function;
  objects = scope.objects;
  functions = scope.functions;
  things = scope.things;
  body = scope.body;
}

-- the numbers of objects that are taken from one place to a later one: each literal that is made has one of its own
pub record TakesNumbers (before after : CScope) : Type 0 where
  pub grows : before.next_object ≤ after.next_object
  pub literals : (number : ℕ) (one : CMade) → length before.literals ≤ number → slice_get after.literals number ≡ Some one
      → (before.next_object ≤ one.object) × (one.object < after.next_object)
  pub in_order : (first second : ℕ) (one other : CMade) → length before.literals ≤ first → first < second → slice_get after.literals first ≡ Some one
      → slice_get after.literals second ≡ Some other → one.object < other.object

abbrev pub is_thing : CMeant → Bool
is_thing (an_object number type is_register linkage) = true
is_thing (a_function number type linkage) = true
is_thing _ = false

-- what an expression does to a scope: it declares no objects and no functions, and what was named and made before it stays
pub record Passes (opens : List ℕ) (before after : CScope) : Type 0 where
  pub unit_is : after.unit ≡ before.unit
  pub grows : Grows opens before.types after.types
  pub declared : (name : List ℕ) (meant : CMeant) → is_thing meant ≡ true → ordinary name after.declared ≡ Some meant → ordinary name before.declared ≡ Some meant
  pub mentions : (number : ℕ) → Gives (slice_get before.mentions number) (slice_get after.mentions number)
  pub literals : (number : ℕ) → Gives (slice_get before.literals number) (slice_get after.literals number)
  -- what is declared is put in front
  pub front : List CDeclared
  pub declared_is : after.declared ≡ front ++ before.declared
  pub begins_is : after.begins ≡ before.begins
  pub rest_is : rest_of after ≡ rest_of before
  pub numbers : TakesNumbers before after

-- a literal whose life begins where it is reached is a compound one of a complete type (6.4.5p5, 6.5.2.5p1, p6)
pub record IsWellMade (types : CTypes) (one : CMade) : Type 0 where
  pub complete : one.fixed ≡ None → IsComplete types one.type
  pub no_text : one.fixed ≡ None → one.is_text ≡ false

-- the literals that were made since are typed objects in each program that serves the stretch
pub record AreTypedLiterals (opens : List ℕ) (before after : CScope) : Type 0 where
  pub well : (number : ℕ) (one : CMade) → length before.literals ≤ number → slice_get after.literals number ≡ Some one → IsWellMade after.types one
  pub typed : (home : CHome) → Serves home opens before after → (number : ℕ) (one : CMade) → length before.literals ≤ number → slice_get after.literals number ≡ Some one
      → IsTypedObject home.program home.mentions (object_made home.unit one)

-- what was named and made from two numbers on stays: a called function's mention, and a literal's object, are completed behind what stands in them
pub record Keeps (opens : List ℕ) (mentioned made : ℕ) (before after : CScope) : Type 0 where
  pub grows : Grows opens before.types after.types
  pub mentions : (number : ℕ) → mentioned ≤ number → Gives (slice_get before.mentions number) (slice_get after.mentions number)
  pub literals : (number : ℕ) → made ≤ number → Gives (slice_get before.literals number) (slice_get after.literals number)
  pub statics : (number : ℕ) → is_static_object before number ≡ true → is_static_object after number ≡ true

pub record ScopesServe (opens : List ℕ) : Type 0 where
  pub stays : (scope : CScope) → Passes opens scope scope
  pub goes_on : (before middle after : CScope) → Passes opens before middle → Passes opens middle after → Passes opens before after
  -- a program that serves a stretch of a unit serves each part of it
  pub part : (home : CHome) (before middle later after : CScope) → Serves home opens before after → Passes opens before middle
      → Keeps opens (length middle.mentions) (length middle.literals) later after → Serves home opens middle later
  -- what a name means may be used there
  pub name_passes : (before : CScope) (line : ℕ) (name : List ℕ) (found : Option CMeant) → Passes opens before (used line name found before)
  pub name : (home : CHome) (before : CScope) (line : ℕ) (name : List ℕ) (meant : CMeant) → ordinary name before.declared ≡ Some meant
      → Serves home opens before (used line name (Some meant) before) → IsServed home meant
  -- a function may be called by its name with arguments that don't change what was named before
  pub called : (home : CHome) (before later : CScope) (line : ℕ) (name : List ℕ) (number : ℕ) (type : CTy) (linkage : Linkage) (place : TextPlace) (args : List COperand)
      → ordinary name before.declared ≡ Some (a_function number type linkage)
      → Passes opens (used line name (Some (a_function number type linkage)) before) later
      → Serves home opens before (with_call (length before.mentions) (trailing_types later.types (named_function place number type) args) later)
      → MayBeCalled home number type (args_to later.types type args)
  pub text : (home : CHome) (before : CScope) (line : ℕ) (bytes : List ℕ) → Serves home opens before (with_text line bytes before)
      → IsNamed home (text_type bytes) before.next_object
