-- Types of a crate that have a layout (the Rust Reference, "Type layout").
use Rattle.std.specs.Prelude.{◌≡◌, ◌<◌, List, [], ◌∷◌, Some}
use Rattle.cr_base.specs.declared.layout.Laid.{Laid}
use Rattle.rs_mean.specs.Layout.{laid_of}
use Rattle.rs_text.specs.Tree.{Ty, ModuleTree}

pub record IsLaid (modules : List ModuleTree) (one : Ty) : Type 0 where
  pub laid : Laid
  pub laid_is : laid_of modules one ≡ Some laid
  pub aligned : 0 < laid.align

abbrev pub AreLaid : List ModuleTree → List Ty → Type 0
AreLaid modules [] = Unit {0}
AreLaid modules (one ∷ others) = IsLaid modules one × AreLaid modules others
