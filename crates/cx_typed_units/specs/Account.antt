-- What a unit keeps account of up to a place: numbers, objects, functions, and what it says of names with linkage (ISO C99, 6.2.2, 6.7, 6.9).
use Rattle.std.specs.Prelude.{◌≡◌, ℕ, ◌<◌, Bool, true, false, ◌||◌, List, Option, Some, is_some, slice_get}
use Rattle.cx_core.specs.declared.program.Linkage.{Linkage}
use Rattle.cx_core.specs.declared.program.Linkage.TheVariants.{External, Internal}
use Rattle.cx_core.specs.Linked.{IsDeclaredForm}
use Rattle.cx_core.specs.Trees.{form_of_type, CTypes, CObject, CFun, CDoes, declares, defines, calls, uses, CMention}
use Rattle.cx_rules.specs.Declare.{is_linked, thing_named}
use Rattle.cx_rules.specs.Scope.{CMade, CThing, CScope}
use Rattle.cx_typed.specs.Operands.{IsKnownType}
use Rattle.cx_typed.specs.Scopes.{IsWellMade}
use Rattle.cx_typed_units.specs.Fills.{Fills}

pub record CAccount : Type 0 where
  pub unit : ℕ
  pub types : CTypes
  pub next_object : ℕ
  pub next_function : ℕ
  pub literals : List CMade
  pub mentions : List CMention
  pub objects : List CObject
  pub functions : List CFun
  pub things : List CThing

abbrev pub account_of : CScope → CAccount
account_of scope = record {
  unit = scope.unit;
  types = scope.types;
  next_object = scope.next_object;
  next_function = scope.next_function;
  literals = scope.literals;
  mentions = scope.mentions;
  objects = scope.objects;
  functions = scope.functions;
  things = scope.things;
}

-- ---- mentions

abbrev pub is_declaring : CDoes → Bool
is_declaring declares = true
is_declaring defines = true
is_declaring (calls trailing) = false
is_declaring uses = false

abbrev pub does_by : Bool → CDoes
does_by true = defines
does_by false = declares

-- some mention of a name says this
pub record IsToldAs (mentions : List CMention) (name : List ℕ) (linkage : Linkage) (Says : CMention → Type 0) : Type 0 where
  pub index : ℕ
  pub one : CMention
  pub at : slice_get mentions index ≡ Some one
  pub name_is : one.name ≡ name
  pub linkage_is : one.linkage ≡ linkage
  pub says : Says one

-- ---- objects

-- an object with linkage has its name
pub record IsObjectNamed (things : List CThing) (one : CObject) : Type 0 where
  pub name : List ℕ
  pub named : one.name ≡ Some name
  pub thing : CThing
  pub there : thing_named name things ≡ Some thing
  pub number_is : thing.number ≡ one.object
  pub object_is : thing.is_function ≡ false

pub record IsKnownObject (opens : List ℕ) (account : CAccount) (one : CObject) : Type 0 where
  pub here : one.unit ≡ account.unit
  pub known : IsKnownType opens account.types account.unit one.type
  pub object : IsDeclaredForm one.linkage (form_of_type one.type)
  pub no_text : one.is_text ≡ false
  pub named : is_linked one.linkage ≡ true → IsObjectNamed account.things one

-- a name with linkage has its object: of its type, or of the one that its initialiser gave, which later declarations say no less than; while
-- the initialiser is read, its value isn't there yet
pub record IsObjectThing (opens : List ℕ) (pending : Option (List ℕ)) (account : CAccount) (name : List ℕ) (thing : CThing) : Type 0 where
  pub index : ℕ
  pub one : CObject
  pub at : slice_get account.objects index ≡ Some one
  pub number_is : one.object ≡ thing.number
  pub linkage_is : one.linkage ≡ thing.linkage
  pub named : one.name ≡ Some name
  pub type_is : thing.is_defined ≡ false → one.type ≡ thing.type
  pub fills : Fills opens account.types one.type thing.type
  pub defined : is_some one.puts ≡ true → thing.is_defined ≡ true
  pub filled : (pending ≡ Some name → ⊥) → thing.is_defined ≡ true → is_some one.puts ≡ true
  -- one with internal linkage is defined in the unit (6.9p3)
  pub internal : thing.linkage ≡ Internal → (thing.is_defined || is_some thing.tentative) ≡ true
  pub type_told : thing.linkage ≡ External → IsToldAs account.mentions name External (λ mention. (mention.type ≡ one.type) × (is_declaring mention.does ≡ true))
  pub does_told : thing.linkage ≡ External → IsToldAs account.mentions name External (λ one. one.does ≡ does_by (thing.is_defined || is_some thing.tentative))

-- ---- functions

-- the definition of a function, which its type says no less than
pub record IsDefinedBy (opens : List ℕ) (account : CAccount) (name : List ℕ) (thing : CThing) : Type 0 where
  pub index : ℕ
  pub one : CFun
  pub at : slice_get account.functions index ≡ Some one
  pub number_is : one.function ≡ thing.number
  pub named : one.name ≡ name
  pub linkage_is : one.linkage ≡ thing.linkage
  pub fills : Fills opens account.types one.type thing.type

-- while its body is read, the function isn't there yet
pub record IsFunctionThing (opens : List ℕ) (pending : Option (List ℕ)) (account : CAccount) (name : List ℕ) (thing : CThing) : Type 0 where
  pub below : thing.number < account.next_function
  pub undefined : thing.is_defined ≡ false → IsToldAs account.mentions name thing.linkage (λ one. (one.type ≡ thing.type) × (one.does ≡ declares))
  pub defined : (pending ≡ Some name → ⊥) → thing.is_defined ≡ true → IsDefinedBy opens account name thing

pub record IsKnownFun (account : CAccount) (one : CFun) : Type 0 where
  pub here : one.unit ≡ account.unit
  pub linked : is_linked one.linkage ≡ true
  pub thing : CThing
  pub there : thing_named one.name account.things ≡ Some thing
  pub function_is : thing.is_function ≡ true
  pub defined : thing.is_defined ≡ true
  pub number_is : thing.number ≡ one.function
  pub told : one.linkage ≡ External → IsToldAs account.mentions one.name External (λ mention. (mention.type ≡ one.type) × (mention.does ≡ defines))

-- ---- all of them

-- no two names with linkage are the same
abbrev pub AreNamedApart : List CThing → Type 0
AreNamedApart things = (first second : ℕ) (one other : CThing) → slice_get things first ≡ Some one → slice_get things second ≡ Some other → one.name ≡ other.name → first ≡ second

pub record IsAccounted (opens : List ℕ) (pending : Option (List ℕ)) (account : CAccount) : Type 0 where
  -- each number stands for one object
  pub objects_differ : (first second : ℕ) (one other : CObject) → slice_get account.objects first ≡ Some one → slice_get account.objects second ≡ Some other → one.object ≡ other.object → first ≡ second
  pub literals_differ : (first second : ℕ) (one other : CMade) → slice_get account.literals first ≡ Some one → slice_get account.literals second ≡ Some other → one.object ≡ other.object → first ≡ second
  pub apart : (first second : ℕ) (one : CObject) (other : CMade) → slice_get account.objects first ≡ Some one → slice_get account.literals second ≡ Some other → one.object ≡ other.object → ⊥
  pub objects_below : (index : ℕ) (one : CObject) → slice_get account.objects index ≡ Some one → one.object < account.next_object
  pub literals_below : (index : ℕ) (one : CMade) → slice_get account.literals index ≡ Some one → one.object < account.next_object
  pub literals : (index : ℕ) (one : CMade) → slice_get account.literals index ≡ Some one → IsWellMade account.types one
  pub objects : (index : ℕ) (one : CObject) → slice_get account.objects index ≡ Some one → IsKnownObject opens account one
  -- each name with linkage is found, and no two functions have one number
  pub things_differ : AreNamedApart account.things
  pub listed : (index : ℕ) (one : CThing) → slice_get account.things index ≡ Some one → thing_named one.name account.things ≡ Some one
  pub object_things : (name : List ℕ) (one : CThing) → thing_named name account.things ≡ Some one → one.is_function ≡ false → IsObjectThing opens pending account name one
  pub function_things : (name : List ℕ) (one : CThing) → thing_named name account.things ≡ Some one → one.is_function ≡ true → IsFunctionThing opens pending account name one
  pub functions_differ : (name other : List ℕ) (one two : CThing) → thing_named name account.things ≡ Some one → thing_named other account.things ≡ Some two → one.is_function ≡ true → two.is_function ≡ true
      → one.number ≡ two.number → name ≡ other
  pub functions : (index : ℕ) (one : CFun) → slice_get account.functions index ≡ Some one → IsKnownFun account one
  pub bodies_differ : (first second : ℕ) (one other : CFun) → slice_get account.functions first ≡ Some one → slice_get account.functions second ≡ Some other → one.name ≡ other.name → first ≡ second
  -- what is pending has no definition yet
  pub awaited : (name : List ℕ) → pending ≡ Some name → (index : ℕ) (one : CFun) → slice_get account.functions index ≡ Some one → one.name ≡ name → ⊥
