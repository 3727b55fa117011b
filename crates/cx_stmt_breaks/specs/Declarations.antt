-- Objects without a size, by parts of their declaration. Named by the contracts of parts alone.
use Rattle.std.specs.Prelude.{Bool, not, ◌&&◌}
use Rattle.cx_core.specs.declared.program.Linkage.{Linkage}
use Rattle.cx_core.specs.Trees.{CTy, CTypes}
use Rattle.cx_rules.specs.Rules.{declares_typedef, is_unlinked}
use Rattle.cx_rules.specs.Shapes.{CSpecs}
use Rattle.cx_rules.specs.Types.{is_incomplete}

abbrev pub lacks_size : CTypes → CSpecs → CTy → Linkage → Bool
lacks_size types specs type linkage = not (declares_typedef specs) && (is_unlinked linkage && is_incomplete types type)
