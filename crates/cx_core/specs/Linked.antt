-- Typed units, and programs that are typed and linked (ISO C99, 5.1.2.2.1, 6.2.2, 6.2.4, 6.7.8 and 6.9).
use Rattle.std.specs.Prelude.{◌≡◌, ℕ, ◌&&◌, Bool, true, false, eqb, List, [], ◌∷◌, ◌++◌, map, Option, Some, None, if◌then◌else◌, IfSome, IsSome, codes, bytes_eq, All}
use Rattle.std.specs.List.{IsDistinct, find}
use Rattle.cx_core.specs.declared.program.Linkage.{Linkage}
use Rattle.cx_core.specs.declared.program.Linkage.TheVariants.{External, Internal, Nothing}
use Rattle.cx_core.specs.declared.ty.Basic.TheVariants.{Char, Int}
use Rattle.cx_core.specs.Externals.{IsExternalType}
use Rattle.cx_core.specs.Statements.{objects_in, IsDefinitionOf}
use Rattle.cx_core.specs.Texts.{HoldText}
use Rattle.cx_core.specs.Trees.{CTy, CTyForm, void, basic, array, function, CParams, unlisted, listed, no_types, form_of_type, CPuts, CTypes, CObject, CFun, COuter, CProgram, CDoes, declares, defines, calls, uses, CMention, CUnit}
use Rattle.cx_core.specs.Typing.{CHome, IsMentionedIn, AreTypedPuts, AreConstantPuts}
use Rattle.cx_core.specs.ValidTypes.{IsTypeIn, IsObjectForm, IsComplete, AreTypes}

-- ---- objects

-- what a unit of a program may name where no block holds it; the mentions are those of a unit by itself
abbrev pub home_of : CProgram → Option (List CMention) → ℕ → CHome
home_of program mentions unit = record { program = program; mentions = mentions; unit = unit; scope = [] }

-- a static object is complete, and what is stored in it before the program begins is constant (6.7.8p4)
pub record IsStatic (home : CHome) (type : CTy) (puts : CPuts) : Type 0 where
  pub complete : IsComplete home.program.types type
  pub typed : AreTypedPuts home type puts
  pub constant : AreConstantPuts home.program puts

abbrev IsTextForm : CTyForm → Type 0
IsTextForm (array element (Some length)) = form_of_type element ≡ basic Char
IsTextForm _ = ⊥

-- the object of a string literal is a static array of `char` without name, which holds a text (6.4.5p5)
pub record IsText (one : CObject) : Type 0 where
  pub unnamed : one.name ≡ None
  pub no_linkage : one.linkage ≡ Nothing
  pub static : IsSome one.puts
  pub array : IsTextForm (form_of_type one.type)
  pub holds : IfSome one.puts (HoldText one.type)

abbrev pub has_linkage : Linkage → Bool
has_linkage External = true
has_linkage Internal = true
has_linkage Nothing = false

-- the type that an object with such a linkage has where it is declared: that of an object, or `void` where it has linkage. A declaration
-- alone asks an object without linkage for a complete type (6.7p7), and what is stored in one (`static` below).
abbrev pub IsDeclaredForm : Linkage → CTyForm → Type 0
IsDeclaredForm linkage void = has_linkage linkage ≡ true
IsDeclaredForm linkage form = IsObjectForm form

-- an object, in the unit that defines or declares it
pub record IsTypedObject (program : CProgram) (mentions : Option (List CMention)) (one : CObject) : Type 0 where
  pub type_in : IsTypeIn program.types one.unit one.type
  pub object : IsDeclaredForm one.linkage (form_of_type one.type)
  pub named : has_linkage one.linkage ≡ true → IsSome one.name
  pub text : one.is_text ≡ true → IsText one
  pub static : IfSome one.puts (IsStatic (home_of program mentions one.unit) one.type)

-- ---- functions

-- a definition of a function, in its unit
pub record IsTypedFunction (program : CProgram) (mentions : Option (List CMention)) (one : CFun) : Type 0 where
  pub type_in : IsTypeIn program.types one.unit one.type
  pub linked : has_linkage one.linkage ≡ true
  pub definition : IsDefinitionOf (home_of program mentions one.unit) one (form_of_type one.type)

abbrev pub is_external : Linkage → Bool
is_external External = true
is_external Internal = false
is_external Nothing = false

-- a function that no unit of a program defines
pub record IsTypedOuter (types : CTypes) (one : COuter) : Type 0 where
  pub linkage_is : one.linkage ≡ External
  pub external : IsExternalType types one.name (form_of_type one.type)

-- the objects of each function that aren't static: its parameters, and those of its blocks
abbrev pub block_objects : List CFun → List ℕ
block_objects [] = []
block_objects (one ∷ others) = one.params ++ objects_in one.body ++ block_objects others

-- ---- names with linkage (6.2.2p2)

abbrev name_before : Option (List ℕ) → List (List ℕ) → List (List ℕ)
name_before None names = names
name_before (Some name) names = name ∷ names

abbrev names_of_objects : (Linkage → Bool) → List CObject → List (List ℕ)
names_of_objects counts [] = []
names_of_objects counts (one ∷ others) =
    if counts one.linkage then name_before one.name (names_of_objects counts others) else names_of_objects counts others

abbrev names_of_functions : (Linkage → Bool) → List CFun → List (List ℕ)
names_of_functions counts [] = []
names_of_functions counts (one ∷ others) =
    if counts one.linkage then one.name ∷ names_of_functions counts others else names_of_functions counts others

abbrev names_of_outers : (Linkage → Bool) → List COuter → List (List ℕ)
names_of_outers counts [] = []
names_of_outers counts (one ∷ others) =
    if counts one.linkage then one.name ∷ names_of_outers counts others else names_of_outers counts others

-- the names of things with such a linkage, each as often as something has it
abbrev pub names_with : (Linkage → Bool) → CProgram → List (List ℕ)
names_with counts program =
    names_of_objects counts program.objects
    ++ names_of_functions counts program.functions
    ++ names_of_outers counts program.externals

-- each number stands for one thing
pub record AreNumbered (program : CProgram) : Type 0 where
  pub objects_differ : IsDistinct eqb (map (λ one. one.object) program.objects)
  pub functions_differ : IsDistinct eqb (map (λ one. one.function) program.functions ++ map (λ one. one.function) program.externals)
  -- an object of a block is that of one block, and of one function
  pub blocks_differ : IsDistinct eqb (block_objects program.functions)

-- ---- programs

-- a function is that with which the program begins (5.1.2.2.1)
abbrev pub is_main : CFun → Bool
is_main one = bytes_eq one.name (codes "main") && is_external one.linkage

abbrev pub main_of : CProgram → Option CFun
main_of program = find is_main program.functions

-- no parameters
abbrev pub HasNoParams : CParams → Type 0
HasNoParams unlisted = Unit {0}
HasNoParams (listed types) = types ≡ no_types

-- a function that gives an `int` and takes nothing
abbrev pub IsMainType : CTyForm → Type 0
IsMainType (function result params variadic) = (form_of_type result ≡ basic Int) × HasNoParams params
IsMainType _ = ⊥

-- a program is typed, and linked: each number and each name with external linkage stands for one thing, each definition is
-- typed, what is used is defined or an external function of the profile, and there is a `main`
pub record IsLinked (program : CProgram) : Type 0 where
  pub types : AreTypes program.types
  pub numbers : AreNumbered program
  pub names_differ : IsDistinct bytes_eq (names_with is_external program)
  pub objects : All (IsTypedObject program None) program.objects
  pub functions : All (IsTypedFunction program None) program.functions
  pub externals : All (IsTypedOuter program.types) program.externals
  pub main_defined : IsSome (main_of program)
  pub main_typed : IfSome (main_of program) (λ one. IsMainType (form_of_type one.type))

-- ---- units

-- the things of a unit
abbrev pub program_of : CUnit → CProgram
program_of one = record { types = one.types; objects = one.objects; functions = one.functions; externals = one.externals; orders = one.order ∷ [] }

-- a function type of a unit that it declares and doesn't define
abbrev IsFunctionForm : CTyForm → Type 0
IsFunctionForm (function result params variadic) = Unit {0}
IsFunctionForm _ = ⊥

pub record IsDeclaredOuter (types : CTypes) (unit : ℕ) (one : COuter) : Type 0 where
  pub type_in : IsTypeIn types unit one.type
  pub is_function : IsFunctionForm (form_of_type one.type)
  pub linked : has_linkage one.linkage ≡ true

abbrev does_by : Option CPuts → CDoes
does_by None = declares
does_by (Some puts) = defines

abbrev is_declaring : CDoes → Bool
is_declaring declares = true
is_declaring defines = true
is_declaring (calls trailing) = false
is_declaring uses = false

-- some declaration says whether the unit defines it, and some declaration its type in the end (6.2.7p4)
pub record IsToldIn (mentions : List CMention) (name : List ℕ) (one : CObject) : Type 0 where
  pub type_there : CTy
  pub does_is : IsMentionedIn mentions name External type_there (does_by one.puts)
  pub does_there : CDoes
  pub type_is : IsMentionedIn mentions name External one.type does_there
  pub declaring : is_declaring does_there ≡ true

abbrev IsToldOf : List CMention → CObject → Option (List ℕ) → Type 0
IsToldOf mentions one None = ⊥
IsToldOf mentions one (Some name) = IsToldIn mentions name one

-- what has external linkage is mentioned where it is declared or defined
pub record AreMentioned (one : CUnit) : Type 0 where
  pub objects : All (λ object. is_external object.linkage ≡ true → IsToldOf one.mentions object object.name) one.objects
  pub functions : All (λ fun. is_external fun.linkage ≡ true → IsMentionedIn one.mentions fun.name External fun.type defines) one.functions
  pub externals : All (λ outer. IsMentionedIn one.mentions outer.name outer.linkage outer.type declares) one.externals

-- a typed unit: its types and things are of this unit, each number and each name with linkage stands for one thing, each
-- definition is typed, and what it uses and doesn't define is mentioned
pub record IsTypedUnit (unit : ℕ) (one : CUnit) : Type 0 where
  pub types : AreTypes one.types
  pub records_here : All (λ number. number ≡ unit) one.types.record_units
  pub enums_here : All (λ number. number ≡ unit) one.types.enum_units
  pub objects_here : All (λ object. object.unit ≡ unit) one.objects
  pub functions_here : All (λ fun. fun.unit ≡ unit) one.functions
  pub numbers : AreNumbered (program_of one)
  pub names_differ : IsDistinct bytes_eq (names_with has_linkage (program_of one))
  pub objects : All (IsTypedObject (program_of one) (Some one.mentions)) one.objects
  pub functions : All (IsTypedFunction (program_of one) (Some one.mentions)) one.functions
  pub externals : All (IsDeclaredOuter one.types unit) one.externals
  pub mentions : AreMentioned one
