-- Units that break no rule make a typed and linked program, and no run of it is stuck (ISO C99, 3.4.3, 5.1.1.1 and 5.1.2.3).
use Rattle.std.specs.Prelude.{◌≡◌, ℕ, suc, List, [], ◌∷◌, None, All}
use Rattle.cr_base.specs.declared.rule.URule.{URule}
use Rattle.cr_runs.specs.Runs.{bad}
use Rattle.cr_world.specs.World.{Outside, Terms, open_ended, World, wrong, full, asks, astray}
use Rattle.cx_core.specs.Linked.{IsLinked}
use Rattle.cx_core.specs.Trees.{CUnit, CProgram}
use Rattle.cx_lex.specs.declared.token.Token.{Token}
use Rattle.cx_lex.specs.Tokens.{Spells}
use Rattle.cx_links.specs.Program.{linked}
use Rattle.cx_links.specs.Rules.{broken_links}
use Rattle.cx_mean.specs.Leftmost.{c_program}
use Rattle.cx_mean.specs.Operands.{breaks, CStop}
use Rattle.cx_mean.specs.Run.{CProgress, going, ended, undefined, is_stuck, is_full, asks_for, is_astray, c_run, c_run_on}
use Rattle.cx_rules.specs.Units.{broken_unit, seen_unit}
use Rattle.cx_tree.specs.Derives.{Derives}
use Rattle.cx_tree.specs.Trees.{UnitTree}
use Rattle.cx_typed.specs.Constants.{IsByte}
use Rattle.cx_typed_runs.specs.Runs.{HasNamedProgress}

-- what the bytes of a unit with a number mean: they spell tokens that derive a tree in which no node is broken
pub record MeansUnit (number : ℕ) (bytes : List ℕ) (one : CUnit) : Type 0 where
  pub are_bytes : All IsByte bytes
  pub tokens : List Token
  pub spelled : Spells bytes tokens
  pub tree : UnitTree
  pub derived : Derives tokens tree
  pub unbroken : broken_unit number tree ≡ None
  pub meaning : (seen_unit number tree).meaning ≡ one

-- units are numbered in the order given
abbrev pub MeanUnits : ℕ → List (List ℕ) → List CUnit → Type 0
MeanUnits number [] [] = Unit {0}
MeanUnits number (bytes ∷ others) (one ∷ units) = MeansUnit number bytes one × MeanUnits (suc number) others units
MeanUnits number [] (one ∷ units) = ⊥
MeanUnits number (bytes ∷ others) [] = ⊥

-- units that break no rule, neither each by itself nor together
pub record BreakNothing (given : List (List ℕ)) (units : List CUnit) : Type 0 where
  pub mean : MeanUnits 0 given units
  pub unbroken : broken_links units ≡ None

-- Law: their program is typed and linked
abbrev pub UnbrokenUnitsAreLinked : Type 0
UnbrokenUnitsAreLinked = (given : List (List ℕ)) (units : List CUnit) → BreakNothing given units → IsLinked (linked units)

-- Law: so no run of it is stuck, after however many steps, under whatever order and outside
abbrev pub UnbrokenUnitsNeverStick : Type 0
UnbrokenUnitsNeverStick = (given : List (List ℕ)) (units : List CUnit) (order : List ℕ) (terms : Terms) (outside : Outside) (steps : ℕ)
    → BreakNothing given units → HasNamedProgress (c_run_on (linked units) order terms outside steps).progress

-- the three outcomes of a run that isn't one under a trail: it goes on, it has ended, or it broke a rule of undefined steps
abbrev pub GoesEndsOrBreaks : CProgress → Type 0
GoesEndsOrBreaks going = Unit {0}
GoesEndsOrBreaks (ended status) = Unit {0}
GoesEndsOrBreaks (undefined rule unit line) = Unit {0}
GoesEndsOrBreaks (is_stuck unit line) = ⊥
GoesEndsOrBreaks (is_full need left) = ⊥
GoesEndsOrBreaks (asks_for call) = ⊥
GoesEndsOrBreaks is_astray = ⊥

-- Law: and there is no fourth
abbrev pub UnbrokenUnitsHaveOutcomes : Type 0
UnbrokenUnitsHaveOutcomes = (given : List (List ℕ)) (units : List CUnit) (order : List ℕ) (outside : Outside) (steps : ℕ)
    → BreakNothing given units → GoesEndsOrBreaks (c_run (linked units) order outside steps).progress

-- ---- linked programs, whatever units they are of

-- Law: so no run of a program is stuck that is typed and linked
abbrev pub LinkedProgramsNeverStick : Type 0
LinkedProgramsNeverStick = (program : CProgram) (order : List ℕ) (terms : Terms) (outside : Outside) (steps : ℕ)
    → IsLinked program → HasNamedProgress (c_run_on program order terms outside steps).progress

-- Law: and its runs have these three outcomes
abbrev pub LinkedProgramsHaveOutcomes : Type 0
LinkedProgramsHaveOutcomes = (program : CProgram) (order : List ℕ) (outside : Outside) (steps : ℕ)
    → IsLinked program → GoesEndsOrBreaks (c_run program order outside steps).progress

-- a run goes no further for a rule of undefined steps
abbrev pub BreaksRule : CStop → Type 0
BreaksRule (wrong fault) = (rule : URule) × (fault.why ≡ breaks rule)
BreaksRule (full need left) = ⊥
BreaksRule (asks call) = ⊥
BreaksRule astray = ⊥

-- Law: so the leftmost run as a function of its trees has no meaning where it breaks a rule, and nowhere else
abbrev pub LinkedProgramsBreakRules : Type 0
LinkedProgramsBreakRules = (program : CProgram) (outside : Outside) (steps : ℕ) (stop : CStop) (world : World)
    → IsLinked program → c_program program open_ended outside steps ≡ bad stop world → BreaksRule stop
