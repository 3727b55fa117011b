-- Worked examples: an undefined step in the one unit of a program, and one that has no place of its own (ISO C99, 6.5.5p5 and 6.9.1p12).
use Rattle.std.proofs.Common.{◌≡◌, ℕ, zero, suc, Bool, true, false, true≢false, pos, [], ◌∷◌, Some, None, codes, refl, sym}
use Rattle.std.proofs.lemmas.List.Elements.{All-nil, All-cons, All-head}
use Rattle.cr_base.specs.declared.refusal.Place.{Place}
use Rattle.cr_base.specs.declared.rule.URule.TheVariants.{U3, U14}
use Rattle.cr_world.specs.World.{open_ended}
use Rattle.cx_core.specs.declared.expr.Op2.TheVariants.{Divide}
use Rattle.cx_core.specs.declared.program.Linkage.TheVariants.{External}
use Rattle.cx_core.specs.Layouts.{layouts_of}
use Rattle.cx_core.specs.Trees.{CExpr, expr, whole, binary, CStmtForm, stmt, block, returns, no_stmts, more_stmts, CFun, CProgram, no_types_yet}
use Rattle.cx_mean.proofs.Programs.{int_t, taking, silent}
use Rattle.cx_mean.specs.Run.{undefined, c_run_on}
use Rattle.cx_placed.specs.Places.{ObjectStandsIn, FunctionStandsIn, StandIn}
use Rattle.cx_stops.proofs.States.{undefined_steps_stand_in_units}

-- unit 1 is the one unit, and all of it stands on line 3
abbrev here : Place
here = record { unit = 1; line = 3 }

abbrev main_doing : CStmtForm → CFun
main_doing form = record {
  function = 0;
  name = codes "main";
  unit = 1;
  linkage = External;
  type = taking int_t [];
  params = [];
  body = stmt here [] (block (more_stmts (stmt here [] form) no_stmts));
}

abbrev program_doing : CStmtForm → CProgram
program_doing form = record { types = no_types_yet; objects = []; functions = main_doing form ∷ []; externals = []; orders = [] }

abbrev number : ℕ → CExpr
number value = expr int_t here (whole (pos value))

-- int main(void) { return 1 / 0; }
abbrev divides : CProgram
divides = program_doing (returns (Some (expr int_t here (binary Divide (number 1) (number 0)))))

breaks_there : (c_run_on divides [] open_ended silent 20).progress ≡ undefined U3 1 3
unfolding layouts_of
breaks_there = refl

-- units 0 and 1
abbrev first_two : ℕ → Bool
first_two zero = true
first_two (suc zero) = true
first_two (suc (suc number)) = false

stands : StandIn (λ unit. first_two unit ≡ true) divides.objects divides.functions
stands = record {
  objects_stand = All-nil (ObjectStandsIn (λ unit. first_two unit ≡ true));
  functions_stand = All-cons (FunctionStandsIn (λ unit. first_two unit ≡ true)) (main_doing (returns (Some (expr int_t here (binary Divide (number 1) (number 0)))))) []
      (refl, ((refl, (refl, ((refl, tt), (refl, tt)))), tt)) (All-nil (FunctionStandsIn (λ unit. first_two unit ≡ true)));
}

-- so that step is in one of them, by the law
is_among : first_two 1 ≡ true
is_among = undefined_steps_stand_in_units first_two divides [] open_ended silent 20 U3 1 3 stands refl breaks_there

-- a program of unit 1 isn't one of unit 0 alone
abbrev first_only : ℕ → Bool
first_only zero = true
first_only (suc number) = false

stands_elsewhere : StandIn (λ unit. first_only unit ≡ true) divides.objects divides.functions → ⊥
stands_elsewhere all = true≢false (sym (All-head (FunctionStandsIn (λ unit. first_only unit ≡ true)) _ [] all.functions_stand).0)

-- int main(void) { return; }, which isn't typed, gives no status: that has no place, so unit 0 has to be among the units
abbrev gives_none : CProgram
gives_none = program_doing (returns None)

breaks_nowhere : (c_run_on gives_none [] open_ended silent 20).progress ≡ undefined U14 0 0
unfolding layouts_of
breaks_nowhere = refl

abbrev second_only : ℕ → Bool
second_only zero = false
second_only (suc zero) = true
second_only (suc (suc number)) = false

all_second : StandIn (λ unit. second_only unit ≡ true) gives_none.objects gives_none.functions
all_second = record {
  objects_stand = All-nil (ObjectStandsIn (λ unit. second_only unit ≡ true));
  functions_stand = All-cons (FunctionStandsIn (λ unit. second_only unit ≡ true)) (main_doing (returns None)) [] (refl, ((refl, tt), tt)) (All-nil (FunctionStandsIn (λ unit. second_only unit ≡ true)));
}
