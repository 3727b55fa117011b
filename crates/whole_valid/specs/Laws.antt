-- Laws of the whole written crate (the Rust Reference, "Crates and source files").
use Rattle.std.specs.Prelude.{◌≡◌, true}
use Rattle.rs_text.specs.Valid.{valid_crate}
use Rattle.whole_bodies.specs.Bodies.{ShapeOf, written_bodies}
use Rattle.whole_bodies.specs.Crates.{crate_of}
use Rattle.whole_means.specs.Written.{IsNamed}
use Rattle.whole_names.specs.Kept.{NamedProgram}
use Rattle.whole_valid.specs.Given.{AreFit, HasModuleNames, HasWords, OutersMayVary}

-- the crate of a linked program whose bodies fit is a crate of the subset
abbrev pub CratesAreValid : Type 0
CratesAreValid = (whole : NamedProgram) (shape : ShapeOf) → IsNamed whole → HasWords whole.program → OutersMayVary whole.program → HasModuleNames whole.module_names →
    AreFit whole (crate_of whole.program whole.module_names shape).modules (written_bodies whole shape) → valid_crate (crate_of whole.program whole.module_names shape) ≡ true
