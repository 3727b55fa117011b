-- What a unit declares and doesn't define says all that each mention of its name says (ISO C99, 6.2.7p3, p4).
use Rattle.std.specs.Prelude.{◌≡◌, ℕ, true, Some, None, All}
use Rattle.std.specs.List.{Contains}
use Rattle.cx_core.specs.Linked.{has_linkage}
use Rattle.cx_core.specs.Trees.{CObject, COuter, CMention, CUnit}
use Rattle.cx_rules.specs.Units.{seen_unit, broken_unit}
use Rattle.cx_tree.specs.Trees.{UnitTree}
use Rattle.cx_typed_files.specs.FileUnits.{AreSpelledExternals}
use Rattle.cx_typed_units.specs.Covers.{Covers}

-- the composite of all declarations of a name says what is said where it is declared or used
pub record IsMentionCovered (one : CUnit) (mention : CMention) : Type 0 where
  pub object : (known : CObject) → Contains one.objects known → known.puts ≡ None → has_linkage known.linkage ≡ true → known.name ≡ Some mention.name → Covers one.types known.type mention.type
  pub outer : (known : COuter) → Contains one.externals known → known.name ≡ mention.name → Covers one.types known.type mention.type

-- so it is with each mention of a unit that tokens can spell and in which no node is broken
abbrev pub MentionsAreCovered : Type 0
MentionsAreCovered = (number : ℕ) (tree : UnitTree) → AreSpelledExternals tree.parts → broken_unit number tree ≡ None → All (IsMentionCovered (seen_unit number tree).meaning) (seen_unit number tree).meaning.mentions
