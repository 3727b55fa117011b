-- Typed and linked programs (ISO C99, 6.2.2, 6.7.8, 6.9 and 5.1.2.2.1).
use Rattle.std.specs.Prelude.{◌≡◌, ℕ, ◌+◌, ◌/◌, ◌≤◌, ◌&&◌, Bool, true, false, eqb, if◌then◌else◌, IsFalse, List, [], ◌∷◌, ◌++◌, map, All, Option, Some, None, IfSome, IsSome, codes, bytes_eq}
use Rattle.std.specs.List.{IsDistinct, list_any}
use Rattle.cr_base.specs.declared.scalar.Scalar.{Scalar}
use Rattle.cr_base.specs.declared.scalar.Scalar.TheVariants.{Truth, Whole, Object, Code}
use Rattle.straight_core.specs.declared.program.Linkage.{Linkage}
use Rattle.straight_core.specs.declared.program.Linkage.TheVariants.{External, Internal, Nothing}
use Rattle.straight_core.specs.declared.ty.Spot.{Spot}
use Rattle.straight_core.specs.Trees.{CTy, CTyForm, void, int, function, CParams, unlisted, listed, CTys, no_types, more_types, types_in, form_of_type, unqualified, CExpr, expr, whole, type_of, CStmt, stmt, block, CPut, put, CObject, CFun, COuter, CProgram}
use Rattle.straight_core.specs.Typing.{scalar_of, IsScalarType, IsTyped, IsTypedStmt, object_with}

-- ---- objects

-- the size of a scalar in bytes, which is its alignment too (the choice of the profile)
abbrev pub bytes_of_scalar : Scalar → ℕ
bytes_of_scalar Truth = 1
bytes_of_scalar (Whole width signed) = width / 8
bytes_of_scalar Object = 8
bytes_of_scalar Code = 8

abbrev bytes_of : Option Scalar → ℕ
bytes_of None = 0
bytes_of (Some scalar) = bytes_of_scalar scalar

-- the size of an object of a type in bytes, which is its alignment too so far; 0 where no object has
-- the type
abbrev pub size_of_type : CTy → ℕ
size_of_type type = bytes_of (scalar_of (form_of_type type))

-- a constant expression for an initialiser of a static object (6.6p7): a constant so far
abbrev pub IsConstantExpr : CExpr → Type 0
IsConstantExpr (expr type place (whole value)) = Unit {0}
IsConstantExpr (expr type place _) = ⊥

-- what is stored in a part of an object stands inside it, in whole bytes, and is a constant of the
-- part's type (6.7.8p4)
pub record IsPutOf (program : CProgram) (whole_type : CTy) (spot : Spot) (type : CTy) (value : CExpr) : Type 0 where
  pub inside : spot.byte + size_of_type type ≤ size_of_type whole_type
  pub not_in_bits : (spot.bit ≡ 0) × (spot.width ≡ 0)
  pub scalar : IsScalarType type
  pub constant : IsConstantExpr value
  pub typed : IsTyped program value
  pub type_is : type_of value ≡ unqualified type

-- the puts of an object from a byte on stand in the order of their places, none upon another
abbrev pub ArePuts : CProgram → CTy → ℕ → List CPut → Type 0
ArePuts program type from [] = Unit {0}
ArePuts program type from (put spot part value ∷ others) =
    (from ≤ spot.byte)
    × IsPutOf program type spot part value
    × ArePuts program type (spot.byte + size_of_type part) others

-- an object of a scalar type, with what is stored in it before the program begins
pub record IsTypedObject (program : CProgram) (one : CObject) : Type 0 where
  pub scalar : IsScalarType one.type
  pub puts : IfSome one.puts (ArePuts program one.type 0)

-- ---- functions

abbrev pub is_external : Linkage → Bool
is_external External = true
is_external Internal = false
is_external Nothing = false

-- each parameter is an object of its type, which no other parameter is
abbrev pub AreParams : CProgram → List ℕ → CTys → Type 0
AreParams program [] no_types = Unit {0}
AreParams program [] (more_types type types) = ⊥
AreParams program (number ∷ numbers) no_types = ⊥
AreParams program (number ∷ numbers) (more_types type types) =
    IsSome (object_with number program.objects)
    × IfSome (object_with number program.objects) (λ one. one.type ≡ type)
    × AreParams program numbers types

-- a definition without parameter list has no parameters
abbrev pub AreParamsOf : CProgram → List ℕ → CParams → Type 0
AreParamsOf program numbers unlisted = numbers ≡ []
AreParamsOf program numbers (listed types) = AreParams program numbers types

-- a function's body is a block
abbrev pub IsBody : CStmt → Type 0
IsBody (stmt place objects (block stmts)) = Unit {0}
IsBody (stmt place objects _) = ⊥

-- a definition of a function of a type, which isn't variadic in this profile
abbrev pub IsDefinitionOf : CProgram → CFun → CTyForm → Type 0
IsDefinitionOf program one (function result params variadic) =
    (variadic ≡ false)
    × AreParamsOf program one.params params
    × IsDistinct eqb one.params
    × IsBody one.body
    × IsTypedStmt program result one.body
IsDefinitionOf program one void = ⊥
IsDefinitionOf program one int = ⊥

abbrev pub IsTypedFunction : CProgram → CFun → Type 0
IsTypedFunction program one = IsDefinitionOf program one (form_of_type one.type)

-- the names of the external functions whose meaning is known
unfoldable pub known_names : List (List ℕ)
known_names =
    codes "malloc" ∷ codes "calloc" ∷ codes "free" ∷ codes "memcpy" ∷ codes "memmove" ∷ codes "memset"
    ∷ codes "exit" ∷ codes "abort" ∷ []

-- a result that an opaque external function may have: an integer, or none
abbrev pub IsOpaqueResult : CTyForm → Type 0
IsOpaqueResult void = Unit {0}
IsOpaqueResult int = Unit {0}
IsOpaqueResult (function result params variadic) = ⊥

-- parameters that it may have: integers so far
abbrev pub AreOpaqueParams : CParams → Type 0
AreOpaqueParams unlisted = Unit {0}
AreOpaqueParams (listed types) = All IsScalarType (types_in types)

-- a type that it may have
abbrev pub IsOpaque : CTyForm → Type 0
IsOpaque (function result params variadic) = IsOpaqueResult (form_of_type result) × AreOpaqueParams params
IsOpaque void = ⊥
IsOpaque int = ⊥

-- an external function is opaque: what it does isn't known. None of the known ones is one so far.
pub record IsTypedOuter (one : COuter) : Type 0 where
  pub opaque : IsOpaque (form_of_type one.type)
  pub unknown : IsFalse (list_any (bytes_eq one.name) known_names)

-- ---- programs

-- a function is that with which the program begins (5.1.2.2.1)
abbrev pub is_main : CFun → Bool
is_main one = bytes_eq one.name (codes "main") && is_external one.linkage

-- the first such function of a list
abbrev pub main_of : List CFun → Option CFun
main_of [] = None
main_of (one ∷ others) = if is_main one then Some one else main_of others

-- no parameters
abbrev pub HasNoParams : CParams → Type 0
HasNoParams unlisted = Unit {0}
HasNoParams (listed types) = types ≡ no_types

-- a function that gives an `int` and takes nothing
abbrev pub IsMainType : CTyForm → Type 0
IsMainType (function result params variadic) = (form_of_type result ≡ int) × HasNoParams params
IsMainType void = ⊥
IsMainType int = ⊥

abbrev pub names_of_functions : List CFun → List (List ℕ)
names_of_functions [] = []
names_of_functions (one ∷ others) =
    if is_external one.linkage then one.name ∷ names_of_functions others else names_of_functions others

abbrev pub name_of_object : Option (List ℕ) → List (List ℕ)
name_of_object None = []
name_of_object (Some name) = name ∷ []

abbrev pub names_of_objects : List CObject → List (List ℕ)
names_of_objects [] = []
names_of_objects (one ∷ others) =
    if is_external one.linkage then name_of_object one.name ++ names_of_objects others else names_of_objects others

-- the names with external linkage, each as often as something is declared by it (6.2.2p2)
abbrev pub external_names : CProgram → List (List ℕ)
external_names program =
    names_of_objects program.objects
    ++ names_of_functions program.functions
    ++ map (λ one. one.name) program.externals

-- a program is typed, and linked: each number and each name with external linkage stands for one thing,
-- each definition is typed, and there is a `main`
pub record IsLinked (program : CProgram) : Type 0 where
  pub objects_differ : IsDistinct eqb (map (λ one. one.object) program.objects)
  pub functions_differ : IsDistinct eqb (map (λ one. one.function) program.functions ++ map (λ one. one.function) program.externals)
  pub names_differ : IsDistinct bytes_eq (external_names program)
  pub objects : All (IsTypedObject program) program.objects
  pub functions : All (IsTypedFunction program) program.functions
  pub externals : All IsTypedOuter program.externals
  pub main_defined : IsSome (main_of program.functions)
  pub main_typed : IfSome (main_of program.functions) (λ one. IsMainType (form_of_type one.type))
