-- How a function of the crate is entered (ISO C99, 6.5.2.2p4, 6.9.1p10): a first parameter points to the place of a structure or union that it gives; each parameter of C is one of the
-- crate, or, where it is a structure or union, a local to which it is copied from where a parameter points.
use Rattle.std.specs.Prelude.{◌≡◌, ◌≢◌, ◌⊎◌, ℕ, ◌<◌, false, List, [], ◌∷◌, ◌++◌, Option, Some, None, Ok, bytes_eq}
use Rattle.std.specs.List.{Contains}
use Rattle.cr_base.specs.declared.layout.Laid.{Laid}
use Rattle.cr_base.specs.declared.scalar.Scalar.{Scalar}
use Rattle.cx_core.specs.Trees.{CObject, CFun, unqualified}
use Rattle.cx_core.specs.Typing.{object_with}
use Rattle.cx_mean.specs.Accesses.{kind_of, of_scalar, of_record}
use Rattle.cx_mean.specs.Settings.{scalar_in_type, extent_in}
use Rattle.lift_calls.specs.Calls.{result_laid}
use Rattle.lift_calls.specs.Frames.{KeptTemporary, FunctionNames, NamesApart}
use Rattle.lift_calls.specs.Programs.{Setting, setting_in}
use Rattle.lift_exprs.specs.Written.{copied}
use Rattle.lift_forms.specs.Places.{Kept}
use Rattle.mem_bytes.specs.Coding.{IsScalar}
use Rattle.rs_mean.specs.Layout.{laid_of}
use Rattle.rs_mean.specs.Lookups.{Home, static_home}
use Rattle.rs_mean.specs.Scalars.{scalar_of}
use Rattle.rs_text.specs.Tree.{Ty, Pointer, Local, Static, Read, AddressOf, Stmt, LocalTree, FunctionTree}
use Rattle.rs_tree.specs.declared.ty.RPath.{RPath}

-- ---- parameters

-- an object of C is a parameter, or a local, with its size and alignment
pub record IsObjectLocal (s : Setting) (names : FunctionNames) (number : ℕ) (local : LocalTree) : Type 0 where
  pub one : CObject
  pub object_is : object_with number s.program.objects ≡ Some one
  pub laid : Laid
  pub laid_is : extent_in (setting_in s) one.type ≡ Some laid
  pub crate_laid_is : laid_of s.modules local.ty ≡ Some laid
  pub kept_is : names.objects number ≡ Some (record { place = Local local.name; ty = local.ty })

-- a scalar is passed as it is
pub record IsPlainParam (s : Setting) (names : FunctionNames) (number : ℕ) (param : LocalTree) : Type 0 where
  pub object : IsObjectLocal s names number param
  pub kind : Scalar
  pub scalar : IsScalar kind
  pub c_kind_is : scalar_in_type (setting_in s) (unqualified object.one.type) ≡ Some kind
  pub kind_is : kind_of (setting_in s) (unqualified object.one.type) ≡ Ok (of_scalar kind)
  pub param_kind_is : scalar_of param.ty ≡ Some kind

-- a structure or union is copied from where its parameter points
pub record IsRecordParam (s : Setting) (names : FunctionNames) (locals : List LocalTree) (number : ℕ) (param : LocalTree) (copy : Stmt) : Type 0 where
  pub local : LocalTree
  pub among : Contains locals local
  pub object : IsObjectLocal s names number local
  pub kind_is : kind_of (setting_in s) (unqualified object.one.type) ≡ Ok (of_record object.laid)
  -- it has a byte
  pub some : 0 < object.laid.size
  pub to : Ty
  pub param_ty_is : param.ty ≡ Pointer to
  pub copy_is : copy ≡ copied (Read (Local param.name)) (AddressOf (Local local.name)) object.laid.size

-- the parameters of C, those of the crate, and the copies of structures and unions, in order
abbrev pub AreParams : Setting → FunctionNames → (locals : List LocalTree) → List ℕ → List LocalTree → List Stmt → Type 0
AreParams s names locals [] [] [] = Unit {0}
AreParams s names locals (number ∷ numbers) (param ∷ params) [] = IsPlainParam s names number param × AreParams s names locals numbers params []
AreParams s names locals (number ∷ numbers) (param ∷ params) (copy ∷ copies) =
    (IsPlainParam s names number param × AreParams s names locals numbers params (copy ∷ copies))
    ⊎ (IsRecordParam s names locals number param copy × AreParams s names locals numbers params copies)
AreParams s names locals [] (param ∷ params) copies = ⊥
AreParams s names locals [] [] (copy ∷ copies) = ⊥
AreParams s names locals (number ∷ numbers) [] copies = ⊥

-- the parameter that points to the place of what the function gives, in front of the others: there is one where that is a structure or union, and only there
abbrev pub ResultParam : Option Laid → Option (List ℕ) → (all others : List LocalTree) → Type 0
ResultParam None None all others = all ≡ others
ResultParam (Some laid) (Some name) all others =
    (param : LocalTree) × (to : Ty) × (all ≡ param ∷ others) × (param.name ≡ name) × (param.ty ≡ Pointer to)
ResultParam None (Some name) all others = ⊥
ResultParam (Some laid) None all others = ⊥

-- no object is two parameters
abbrev pub AllDiffer : List ℕ → Type 0
AllDiffer [] = Unit {0}
AllDiffer (number ∷ others) = ((other : ℕ) → Contains others other → number ≢ other) × AllDiffer others

-- ---- locals

abbrev pub all_locals : FunctionTree → List LocalTree
all_locals tree = tree.params ++ tree.locals

-- no two have one name
abbrev pub NamesDiffer : List LocalTree → Type 0
NamesDiffer [] = Unit {0}
NamesDiffer (one ∷ others) = ((other : LocalTree) → Contains others other → bytes_eq one.name other.name ≡ false) × NamesDiffer others

-- what begins has a layout
pub record CanBegin (s : Setting) (local : LocalTree) : Type 0 where
  pub laid : Laid
  pub laid_is : laid_of s.modules local.ty ≡ Some laid
  pub aligned : 0 < laid.align

-- an object that the function's text may name is a parameter or local, or a static object
pub record IsStaticKept (s : Setting) (kept : Kept) : Type 0 where
  pub path : RPath
  pub place_is : kept.place ≡ Static path.home path.name
  pub home : Home
  pub home_is : static_home s.modules path.home path.name ≡ Some home
  pub ty_is : home.ty ≡ kept.ty

pub record IsLocalKept (tree : FunctionTree) (kept : Kept) : Type 0 where
  pub local : LocalTree
  pub among : Contains (all_locals tree) local
  pub kept_is : kept ≡ record { place = Local local.name; ty = local.ty }

-- ---- the entry

pub record EntryMeans (s : Setting) (one : CFun) (tree : FunctionTree) (names : FunctionNames) (copies : List Stmt) : Type 0 where
  pub params : List LocalTree
  pub result : ResultParam (result_laid s one) names.result tree.params params
  pub are : AreParams s names tree.locals one.params params copies
  pub differ : AllDiffer one.params
  pub names_differ : NamesDiffer (all_locals tree)
  pub begins : (local : LocalTree) → Contains (all_locals tree) local → CanBegin s local
  pub kept : (number : ℕ) (it : Kept) → names.objects number ≡ Some it → IsStaticKept s it ⊎ IsLocalKept tree it
  pub statics : (number : ℕ) (path : RPath) → s.objects number ≡ Some path → (it : Kept) × (names.objects number ≡ Some it) × (it.place ≡ Static path.home path.name)
  pub temporaries : (number : ℕ) (it : KeptTemporary) → names.temporaries number ≡ Some it → Contains tree.locals (record { name = it.name; ty = it.ty })
  pub zeros : (number : ℕ) (it : KeptTemporary) → names.zeros number ≡ Some it → Contains tree.locals (record { name = it.name; ty = it.ty })
  pub apart : NamesApart names
