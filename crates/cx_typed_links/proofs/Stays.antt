-- What the laws say, out of what is shown of types, expressions and things.
use Rattle.std.proofs.Common.{subst, sym}
use Rattle.cx_core.specs.Trees.{CTypes}
use Rattle.cx_core.specs.ValidTypes.{AreTypes}
use Rattle.cx_typed_links.proofs.Blocks.{all_blocks_differ}
use Rattle.cx_typed_links.proofs.Compatible.{compatible_there}
use Rattle.cx_typed_links.proofs.Constant.{modifiable_there}
use Rattle.cx_typed_links.proofs.Expressions.{expr_goes, lvalue_goes}
use Rattle.cx_typed_links.proofs.FunctionNumbers.{all_functions_differ}
use Rattle.cx_typed_links.proofs.ObjectNumbers.{all_objects_differ}
use Rattle.cx_typed_links.proofs.Parts.{is_member_there, is_part_there}
use Rattle.cx_typed_links.proofs.Mains.{main_typed}
use Rattle.cx_typed_links.proofs.Mentions.{main_defined}
use Rattle.cx_typed_links.proofs.NamesDiffer.{program_names_differ}
use Rattle.cx_typed_links.proofs.Programs.{all_types, linked_types, program_things_are_typed}
use Rattle.cx_typed_links.proofs.SameSizes.{size_same}
use Rattle.cx_typed_links.proofs.Things.{object_goes, function_goes}
use Rattle.cx_typed_links.proofs.Types.{type_in_there, basic_same, scalar_same, promoted_there}
use Rattle.cx_typed_links.proofs.Units.{program_types, unit_types_inside}
use Rattle.cx_typed_links.specs.Laws.{UnitsMakePrograms, ProgramsAreNumbered, ProgramTypesAreAllowed, UnitTypesStand, UnitTypesHold, ExpressionsStayTyped, ThingsStayTyped}

pub program_types_are_allowed : ProgramTypesAreAllowed
program_types_are_allowed units typed = program_types units (all_types units typed)

pub unit_types_stand : UnitTypesStand
unit_types_stand units typed unit one is = unit_types_inside units (all_types units typed) unit one is (typed unit one is)

pub unit_types_hold : UnitTypesHold
unit_types_hold unit before one whole in_unit type held = record {
  type_in = type_in_there before one whole in_unit.inside unit type held;
  size = size_same unit before one whole in_unit type held;
  basic = basic_same before one whole in_unit.inside in_unit.types.enum_units unit type held;
  scalar = scalar_same before one whole in_unit.inside in_unit.types.enum_units unit type held;
  promotes = λ bits. promoted_there before one whole in_unit.inside in_unit.types.enum_units unit type bits held;
  compatible = compatible_there unit before one whole in_unit type;
  members = is_member_there before one whole in_unit.inside type;
  parts = is_part_there before one whole in_unit.inside type;
  modifiable = modifiable_there before one whole in_unit.inside type;
}

pub expressions_stay_typed : ExpressionsStayTyped
expressions_stay_typed unit numbers mentions one whole holds scope of =
    (expr_goes unit numbers mentions one whole holds scope of, lvalue_goes unit numbers mentions one whole holds scope of)

pub things_stay_typed : ThingsStayTyped
things_stay_typed unit numbers mentions one whole holds =
    (object_goes unit numbers mentions one whole holds, function_goes unit numbers mentions one whole holds)

pub programs_are_numbered : ProgramsAreNumbered
programs_are_numbered units typed = record {
  objects_differ = all_objects_differ units typed;
  functions_differ = all_functions_differ units typed;
  blocks_differ = all_blocks_differ units typed;
}

pub units_make_programs : UnitsMakePrograms
units_make_programs units typed none uses externals =
    let things = program_things_are_typed units typed uses in
    record {
      types = subst (λ (types : CTypes). AreTypes types) (sym (linked_types units)) (program_types_are_allowed units typed);
      numbers = programs_are_numbered units typed;
      names_differ = program_names_differ units typed none;
      objects = things.0;
      functions = things.1;
      externals = externals;
      main_defined = main_defined units none;
      main_typed = main_typed units typed none;
    }
