-- When what the names of lifting say is so in a program and its crate (ISO C99, 6.2.1 and 6.2.5; the Rust Reference, "Paths" and "Type layout").
use Rattle.std.specs.Prelude.{◌≡◌, ℕ, suc, Bool, false, List, [], ◌∷◌, map, Some, None}
use Rattle.cr_base.specs.declared.layout.Laid.{Laid}
use Rattle.cr_base.specs.declared.layout.Spot.{Spot}
use Rattle.cr_base.specs.declared.scalar.Scalar.{Scalar}
use Rattle.cx_core.specs.BitFields.{has_bit_fields}
use Rattle.cx_core.specs.Trees.{CTy, ty, pointer, record_type, CFun}
use Rattle.cx_core.specs.Typing.{CHome, function_with as c_function_with}
use Rattle.cx_core.specs.ValidTypes.{IsMemberOf}
use Rattle.cx_mean.specs.Settings.{scalar_in_type, extent_in}
use Rattle.lift_calls.specs.Frames.{FunctionNames}
use Rattle.lift_calls.specs.Programs.{Setting, setting_in}
use Rattle.lift_exprs.specs.Names.{Names, KeptFunction, type_in, field_in}
use Rattle.lift_forms.specs.Places.{Kept}
use Rattle.rs_mean.specs.Layout.{laid_of, field_at}
use Rattle.rs_mean.specs.Lookups.{own, outer, callee_at, symbol_of}
use Rattle.rs_mean.specs.Scalars.{scalar_of}
use Rattle.rs_text.specs.Tree.{Ty, Code, Record, tys, option_ty, FunctionTree, OuterTree, LocalTree}
use Rattle.rs_tree.specs.declared.ty.RPath.{RPath}

-- ---- functions

-- a function that the program defines is kept with the path and the types of its item
pub record FunctionMeans (s : Setting) (number : ℕ) (kept : KeptFunction) : Type 0 where
  pub path : RPath
  pub path_is : s.functions number ≡ Some path
  pub home_is : kept.home ≡ path.home
  pub name_is : kept.name ≡ path.name
  pub no_symbol : kept.symbol ≡ None
  pub tree : FunctionTree
  pub tree_is : callee_at s.modules kept.home kept.name ≡ Some (own tree)
  pub ty_is : kept.ty ≡ Code (tys (map (λ (one : LocalTree). one.ty) tree.params)) (option_ty tree.result)

-- an external function is kept with its symbol, and with the types of the item that is called in its place: that has this symbol
pub record OuterMeans (s : Setting) (symbol called_as : List ℕ) (kept : KeptFunction) : Type 0 where
  pub symbol_is : kept.symbol ≡ Some symbol
  pub tree : OuterTree
  pub tree_is : callee_at s.modules kept.home kept.name ≡ Some (outer tree)
  pub named : symbol_of tree ≡ called_as
  pub ty_is : kept.ty ≡ Code (tys tree.params) (option_ty tree.result)

-- ---- members

-- the field of a member that is no bit-field stands where the member does, with its type
pub record FieldMeans (s : Setting) (names : Names) (holder : CTy) (byte : ℕ) (ty : Ty) : Type 0 where
  pub m : List ℕ
  pub x : List ℕ
  pub path_is : type_in names holder ≡ Record m x
  pub name : List ℕ
  pub name_is : field_in names holder byte ty ≡ Some name
  pub stands : field_at s.modules m x name ≡ Some (record { ty = ty; byte = byte })

-- ---- temporaries

-- temporaries of these types are kept from a number on
abbrev pub AreKeptFrom : Names → FunctionNames → (number : ℕ) → List Ty → Type 0
AreKeptFrom names kept number [] = Unit {0}
AreKeptFrom names kept number (one ∷ others) =
    (kept.temporaries number ≡ Some (record { name = names.temporary number; ty = one })) × AreKeptFrom names kept (suc number) others

-- ---- all of them

pub record NamesMean (s : Setting) (home : CHome) (names : Names) (kept : FunctionNames) : Type 0 where
  pub program : home.program ≡ s.program
  -- an object that a function keeps has this place; other functions' objects have none there
  pub objects : (number : ℕ) (it : Kept) → kept.objects number ≡ Some it → names.objects number ≡ Some it
  pub types : names.types ≡ kept.types
  -- a complete type is laid out as in C, and a scalar one has the same scalar
  pub laid : (type : CTy) (laid : Laid) → extent_in (setting_in s) type ≡ Some laid → laid_of s.modules (type_in names type) ≡ Some laid
  pub scalars : (type : CTy) (kind : Scalar) → scalar_in_type (setting_in s) type ≡ Some kind → scalar_of (type_in names type) ≡ Some kind
  pub sizes : (type : CTy) (laid : Laid) → extent_in (setting_in s) type ≡ Some laid → names.size_of type ≡ laid.size
  pub fields : (holder type : CTy) (spot : Spot) → IsMemberOf s.program.types holder spot type → spot.width ≡ 0 →
      FieldMeans s names holder spot.byte (type_in names type)
  -- a field that is found by a byte and a type stands there with it
  pub part_fields : (number : ℕ) (is_const : Bool) (byte : ℕ) (one : Ty) (name : List ℕ) → field_in names (ty (record_type number) is_const) byte one ≡ Some name →
      FieldMeans s names (ty (record_type number) is_const) byte one
  -- a function that the program defines is kept, with the type that pointers to it have
  pub functions : (number : ℕ) (one : CFun) → c_function_with number s.program.functions ≡ Some one →
      (function : KeptFunction) × (names.functions number ≡ Some function) × FunctionMeans s number function
      × (function.ty ≡ type_in names (ty (pointer one.type) false))
  pub bits : names.has_bits ≡ has_bit_fields s.program.types
