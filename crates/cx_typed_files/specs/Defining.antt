-- What a mention says that a unit defines, the unit defines (ISO C99, 6.9p3, p5, 6.9.2p2).
use Rattle.std.specs.Prelude.{◌≡◌, ◌⊎◌, ℕ, true, None, Some, IsSome, All}
use Rattle.std.specs.List.{Contains}
use Rattle.cx_core.specs.Linked.{has_linkage}
use Rattle.cx_core.specs.Trees.{CObject, CFun, defines, CMention, CUnit}
use Rattle.cx_rules.specs.Units.{seen_unit, broken_unit}
use Rattle.cx_tree.specs.Trees.{UnitTree}
use Rattle.cx_typed_files.specs.FileUnits.{AreSpelledExternals}

-- an object, by an initialiser or a tentative definition
pub record IsDefinedObject (one : CUnit) (mention : CMention) : Type 0 where
  pub known : CObject
  pub among : Contains one.objects known
  pub linkage_is : known.linkage ≡ mention.linkage
  pub linked : has_linkage known.linkage ≡ true
  pub name_is : known.name ≡ Some mention.name
  pub defined : IsSome known.puts

-- a function, by its body
pub record IsDefinedFunction (one : CUnit) (mention : CMention) : Type 0 where
  pub known : CFun
  pub among : Contains one.functions known
  pub linkage_is : known.linkage ≡ mention.linkage
  pub name_is : known.name ≡ mention.name

abbrev pub IsDefinitionThere : CUnit → CMention → Type 0
IsDefinitionThere one mention = mention.does ≡ defines → IsDefinedObject one mention ⊎ IsDefinedFunction one mention

-- so it is with each mention of a unit that tokens can spell and in which no node is broken
abbrev pub MentionsDefine : Type 0
MentionsDefine = (number : ℕ) (tree : UnitTree) → AreSpelledExternals tree.parts → broken_unit number tree ≡ None → All (IsDefinitionThere (seen_unit number tree).meaning) (seen_unit number tree).meaning.mentions
