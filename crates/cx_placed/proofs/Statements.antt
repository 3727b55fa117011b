-- Statements and what declarations mean among them: they stand where their parts do (ISO C99, 6.8).
use Rattle.std.proofs.Common.{ℕ, Bool, true, false, not, ◌&&◌, if◌then◌else◌, List, [], ◌∷◌, Option, None, Some}
use Rattle.cr_base.specs.declared.refusal.Place.{Place as TextPlace}
use Rattle.cx_core.specs.Trees.{CPuts, CStmt, stmt, begin}
use Rattle.cx_placed.proofs.Keeps.{Anything, Keeps, on_gives, on_chain, on_here, on_becomes}
use Rattle.cx_placed.proofs.Lists.{Each, by_test, each_both}
use Rattle.cx_placed.proofs.Operands.{OperandStands, IfOperandStands, IfExprStands}
use Rattle.cx_placed.specs.Places.{PutsStandIn, StmtStandsIn, StmtsStandIn}
use Rattle.cx_rules.specs.Declare.{CBegun}
use Rattle.cx_rules.specs.Readings.{Seen, seen_gives, seen_chain, seen_here, seen_becomes, seen_look}
use Rattle.cx_rules.specs.Scope.{CScope}
use Rattle.cx_rules.specs.UnitWalk as unit
use Rattle.cx_rules.specs.UnitWalk.{CMeant, nothing_meant, meant_behind, CStated, stmts_of, as_block, CTested, CFor, declared_meant}

abbrev pub StatedStands : (ℕ → Type 0) → CStated → Type 0
StatedStands Among one = StmtStandsIn Among one.stmt

abbrev pub MeantStands : (ℕ → Type 0) → CMeant → Type 0
MeantStands Among one = Each (StmtStandsIn Among) one.stmts

abbrev pub TestedStands : (ℕ → Type 0) → CTested → Type 0
TestedStands Among one = OperandStands Among one.test

abbrev pub ForStands : (ℕ → Type 0) → CFor → Type 0
ForStands Among one = MeantStands Among one.first × IfOperandStands Among one.test × IfExprStands Among one.next

-- what a block holds for a declared object, as `UnitWalk` says it
abbrev begin_of : TextPlace → Bool → CPuts → Option ℕ → CMeant
begin_of place has_init puts None = nothing_meant
begin_of place has_init puts (Some number) =
    record { stmts = stmt place [] (begin number (if has_init then Some puts else None)) ∷ []; objects = number ∷ [] }

module _ (Among : ℕ → Type 0) where
  pub stmts_stand : (stmts : List CStmt) → Each (StmtStandsIn Among) stmts → StmtsStandIn Among (stmts_of stmts)
  stmts_stand [] held = tt
  stmts_stand (first ∷ others) held = (held.0, stmts_stand others held.1)

  block_by : (objects : List ℕ) (one : CStmt) → StmtStandsIn Among one → StmtStandsIn Among (as_block (record { stmt = one; objects = objects }))
  block_by objects (stmt place own form) held = held

  pub block_stands : (one : CStated) → StatedStands Among one → StmtStandsIn Among (as_block one)
  block_stands one held = block_by one.objects one.stmt held

  pub meant_behind_stands : (first second : CMeant) → MeantStands Among first → MeantStands Among second → MeantStands Among (meant_behind first second)
  meant_behind_stands first second one other = each_both (StmtStandsIn Among) first.stmts second.stmts one other

  begin_stands : (place : TextPlace) (has_init : Bool) (puts : CPuts) (object : Option ℕ) → Among place.unit → PutsStandIn Among puts
      → MeantStands Among (begin_of place has_init puts object)
  begin_stands place has_init puts None own held = tt
  begin_stands place true puts (Some number) own held = ((own, held), tt)
  begin_stands place false puts (Some number) own held = ((own, tt), tt)

  pub declared_meant_stands : (before scope : CScope) (place : TextPlace) (begun : CBegun) (has_init : Bool) (puts : CPuts) → Among place.unit → PutsStandIn Among puts
      → MeantStands Among (declared_meant before scope place begun has_init puts)
  declared_meant_stands before scope place begun has_init puts own held =
      by_test (MeantStands Among) (scope.in_function && not begun.is_static) (begin_of place has_init puts begun.object) nothing_meant
      (begin_stands place has_init puts begun.object own held) tt

  -- a branch or a body
  pub on_scoped : (seen : Seen CStated) → Keeps Among CStated (StatedStands Among) seen
      → Keeps Among CStmt (StmtStandsIn Among) (unit.scoped Seen seen_gives seen_chain seen_here seen_becomes seen_look seen)
  on_scoped seen inner =
      on_chain CScope CStmt (Anything CScope) _ _ _ (on_chain _ _ _ _ _ _ on_here (λ scope held. on_chain _ _ _ _ _ _ (on_becomes _ held) (λ _ _. on_gives _ _ _ tt)))
      (λ before _. on_chain _ _ _ _ _ _ inner (λ one stands. on_chain _ _ _ _ _ _ on_here (λ scope held.
      on_chain _ _ _ _ _ _ (on_becomes _ held) (λ _ _. on_gives _ _ _ (block_stands one stands)))))
