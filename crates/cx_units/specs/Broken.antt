-- What the bytes of units mean, and the first rule of the profile that they break: units come in the order given, and inside a unit its size
-- comes first, then the rules of tokens, then syntax, then the nodes of its tree; the rules over all units come last.
use Rattle.std.specs.Prelude.{◌≡◌, ℕ, suc, ◌<◌, ◌≤◌, ◌⊎◌, List, [], ◌∷◌, take, length, Option, Some, None, option_map, slice_get, ⊤}
use Rattle.cr_base.specs.declared.refusal.Refusal.{Refusal}
use Rattle.cr_base.specs.declared.rule.Rule.{Rule}
use Rattle.cr_base.specs.declared.rule.Rule.TheVariants.{S1, M1}
use Rattle.cx_core.specs.Trees.{CUnit}
use Rattle.cx_lex.specs.declared.token.Token.{Token}
use Rattle.cx_lex.specs.Tokens.{Spells, token_fault}
use Rattle.cx_links.specs.Rules.{broken_links}
use Rattle.cx_rules.specs.Units.{broken_unit, seen_unit}
use Rattle.cx_tree.specs.Derives.{Derives}
use Rattle.cx_tree.specs.Trees.{UnitTree}

-- the most bytes of a unit
abbrev pub most_bytes : ℕ
most_bytes = 1048576

-- the bytes spell tokens that derive a tree (ISO C99, 6.5 to 6.9)
pub record HasTreeAs (bytes : List ℕ) (tree : UnitTree) : Type 0 where
  pub tokens : List Token
  pub spelled : Spells bytes tokens
  pub derived : Derives tokens tree

abbrev pub HasTree : List ℕ → Type 0
HasTree bytes = (tree : UnitTree) × HasTreeAs bytes tree

-- ---- units that break no rule of their own

-- the typed unit of bytes under a number: no node of their tree is broken
pub record IsTypedAs (number : ℕ) (bytes : List ℕ) (core : CUnit) : Type 0 where
  pub small : length bytes ≤ most_bytes
  pub tree : UnitTree
  pub read : HasTreeAs bytes tree
  pub unbroken : broken_unit number tree ≡ None
  pub meaning : (seen_unit number tree).meaning ≡ core

-- units are numbered in the order given
abbrev pub AreTyped : ℕ → List (List ℕ) → List CUnit → Type 0
AreTyped number [] [] = ⊤
AreTyped number (unit ∷ units) (core ∷ cores) = IsTypedAs number unit core × AreTyped (suc number) units cores
AreTyped number [] (core ∷ cores) = ⊥
AreTyped number (unit ∷ units) [] = ⊥

abbrev pub AreSound : ℕ → List (List ℕ) → Type 0
AreSound number units = (cores : List CUnit) × AreTyped number units cores

-- units that break no rule, neither each by itself nor together
pub record AreUnbroken (units : List (List ℕ)) (cores : List CUnit) : Type 0 where
  pub typed : AreTyped 0 units cores
  pub linked : broken_links cores ≡ None

-- ---- what a unit breaks by itself

-- a rule, and the line at which it is broken
abbrev pub told_at : Option Refusal → Option (Rule × ℕ)
told_at broken = option_map (λ refusal. (refusal.rule, refusal.line)) broken

-- it has too many bytes; that is told with line 1
pub record BreaksSize (bytes : List ℕ) (rule : Rule) (line : ℕ) : Type 0 where
  pub rule_is : rule ≡ M1
  pub line_is : line ≡ 1
  pub large : most_bytes < length bytes

-- the first rule of tokens that its bytes break
pub record BreaksTokens (bytes : List ℕ) (rule : Rule) (line : ℕ) : Type 0 where
  pub small : length bytes ≤ most_bytes
  pub fault : token_fault bytes ≡ Some (rule, line)

-- its bytes spell tokens that derive no tree
pub record BreaksSyntax (bytes : List ℕ) (rule : Rule) (line : ℕ) : Type 0 where
  pub rule_is : rule ≡ S1
  pub small : length bytes ≤ most_bytes
  pub spelled : token_fault bytes ≡ None
  pub none : ¬ HasTree bytes

-- the first broken node of its tree
pub record BreaksNode (number : ℕ) (bytes : List ℕ) (rule : Rule) (line : ℕ) : Type 0 where
  pub small : length bytes ≤ most_bytes
  pub tree : UnitTree
  pub read : HasTreeAs bytes tree
  pub broken : told_at (broken_unit number tree) ≡ Some (rule, line)

abbrev pub BreaksUnit : ℕ → List ℕ → Rule → ℕ → Type 0
BreaksUnit number bytes rule line =
    BreaksSize bytes rule line ⊎ (BreaksTokens bytes rule line ⊎ (BreaksSyntax bytes rule line ⊎ BreaksNode number bytes rule line))

-- ---- the first rule that units break

-- the unit of the refusal is the first that breaks a rule of its own
pub record BreaksFirst (units : List (List ℕ)) (refusal : Refusal) : Type 0 where
  pub bytes : List ℕ
  pub unit : slice_get units refusal.unit ≡ Some bytes
  pub broken : BreaksUnit refusal.unit bytes refusal.rule refusal.line
  pub before : AreSound 0 (take refusal.unit units)

-- none breaks a rule of its own, and this is the first that they break together
pub record BreaksTogether (units : List (List ℕ)) (refusal : Refusal) : Type 0 where
  pub cores : List CUnit
  pub typed : AreTyped 0 units cores
  pub broken : broken_links cores ≡ Some refusal

abbrev pub FirstBroken : List (List ℕ) → Refusal → Type 0
FirstBroken units refusal = BreaksFirst units refusal ⊎ BreaksTogether units refusal
