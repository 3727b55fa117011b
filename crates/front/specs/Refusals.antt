-- The first rule of the profile that a list of units breaks, and the program of one that breaks none.
use Rattle.std.specs.Prelude.{◌≡◌, ℕ, ◌⊎◌, List, [], ◌∷◌, map, Some}
use Rattle.cr_base.specs.declared.refusal.Refusal.{Refusal}
use Rattle.cr_base.specs.declared.rule.Rule.TheVariants.{N1}
use Rattle.cx_core.specs.Trees.{CUnit}
use Rattle.cx_lex.specs.declared.token.Token.{Token}
use Rattle.cx_lex.specs.Tokens.{Spells}
use Rattle.cx_units.specs.Broken.{AreUnbroken, FirstBroken as FirstBrokenOf}
use Rattle.straight_core.specs.Trees.{CProgram}
use Rattle.straight_decl.specs.CoreOf.{core_of}
use Rattle.straight_tree.specs.Derives.{Derives}
use Rattle.straight_tree.specs.Trees.{UnitTree}
use Rattle.straight_items.specs.Modules.{module_name, stem_of}
use Rattle.shelf.specs.declared.file.File.{File}
use Rattle.front.specs.Kept.{KeepsNames}

-- the bytes of units, in their order
abbrev pub bytes_of : List File → List (List ℕ)
bytes_of units = map (λ unit. unit.bytes) units

-- units break no rule of the profile, neither each by itself nor together: their bytes spell tokens that derive trees (ISO C99, 6.4 to
-- 6.9), no node of the trees is broken, and no mention of a name that they share
abbrev pub BreakNoRule : List File → Type 0
BreakNoRule units = (cores : List CUnit) × AreUnbroken (bytes_of units) cores

-- ---- the program of units that are translated today

-- the typed program of a unit, by its tokens and its tree
pub record ProgramOf (unit : File) (program : CProgram) : Type 0 where
  pub tokens : List Token
  pub tree : UnitTree
  pub spelled : Spells unit.bytes tokens
  pub derived : Derives tokens tree
  pub typed : core_of 0 tree ≡ Some program

-- a unit that is translated today, with its program: a straight `int` program whose declared names are their own Rust
-- names, and whose module is named by the stem of its file alone
pub record IsBuiltAs (unit : File) (program : CProgram) : Type 0 where
  pub plain : module_name unit.name ≡ stem_of unit.name
  pub program_is : ProgramOf unit program
  pub kept : KeepsNames program

-- the program of a list of units that are translated today: one unit
abbrev pub AreBuiltAs : List File → CProgram → Type 0
AreBuiltAs (unit ∷ []) program = IsBuiltAs unit program
AreBuiltAs [] program = ⊥
AreBuiltAs (unit ∷ other ∷ others) program = ⊥

-- the units break no rule, and this is their typed and linked program
pub record CoreOf (units : List File) (program : CProgram) : Type 0 where
  pub unbroken : BreakNoRule units
  pub built : AreBuiltAs units program

-- ---- the first rule that units break

-- the first rule of the profile that the bytes of units break, with its unit and line
abbrev pub BreaksProfile : List File → Refusal → Type 0
BreaksProfile units refusal = FirstBrokenOf (bytes_of units) refusal

-- the refusal of what isn't built yet
abbrev pub not_built : Refusal
not_built = record { rule = N1; unit = 0; line = 1 }

-- N1, which stands for what isn't built yet: it comes after every other rule, with the first unit and line 1
pub record BreaksN1 (units : List File) (refusal : Refusal) : Type 0 where
  pub refused : refusal ≡ not_built
  pub unbroken : BreakNoRule units
  pub unbuilt : (program : CProgram) → ¬ AreBuiltAs units program

abbrev pub FirstBroken : List File → Refusal → Type 0
FirstBroken units refusal = BreaksProfile units refusal ⊎ BreaksN1 units refusal
