-- When what is kept of the structures and unions of a program agrees with how they are laid out in C and in the written crate.
use Rattle.std.specs.Prelude.{◌≡◌, ℕ, ◌<◌, ◌≤◌, List, Option, Some}
use Rattle.cr_base.specs.declared.layout.Laid.{Laid}
use Rattle.cx_core.specs.Layouts.{CLayouts, CRow, row_at}
use Rattle.cx_core.specs.Trees.{CTy}
use Rattle.rs_items.specs.Known.{KnownThing, Knows}
use Rattle.rs_items.specs.Records.{least_align, size_of}
use Rattle.rs_items.specs.Types.{enum_integer, path_in, rust_type, type_names}
use Rattle.rs_items.specs.declared.known.Named.TheVariants.{Enum, Record}
use Rattle.rs_mean.specs.Scalars.{width_of}
use Rattle.rs_text.specs.Tree.{Ty}
use Rattle.rs_tree.specs.declared.ty.RPath.{RPath}

-- how the records of the crate are laid out, by their paths
abbrev pub Records : Type 0
Records = List ℕ → List ℕ → Option Laid

-- a structure or union is kept with its path and its size, and the record of that path has its layout
pub record IsKept (known : Knows) (records : Records) (number : ℕ) (one : Laid) : Type 0 where
  pub thing : KnownThing
  pub path : RPath
  pub is : known (Record number) ≡ Some thing
  pub named : path_in thing.ty ≡ Some path
  pub size : thing.size ≡ one.size
  pub laid : records path.home path.name ≡ Some one
  pub some : 0 < one.size
  pub aligned : 0 < one.align

pub record AreKept (known : Knows) (records : Records) (layouts : CLayouts) : Type 0 where
  pub kept : (number : ℕ) (row : CRow) → row_at layouts number ≡ Some row → IsKept known records number row.laid
  -- an enumerated type is `i32` or `u32`
  pub enums : (number : ℕ) → width_of (enum_integer (known (Enum number))) ≡ 32

-- a type is laid out in the crate as in C
pub record Agrees (known : Knows) (layout : Ty → Option Laid) (type : CTy) (laid : Laid) : Type 0 where
  pub rust : layout (rust_type (type_names known) type) ≡ Some laid
  pub size : size_of known type ≡ laid.size
  pub align : least_align type ≤ laid.align
  pub some : 0 < laid.size
  pub aligned : 0 < laid.align
