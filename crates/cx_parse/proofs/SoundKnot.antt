-- Whatever the readers give, at each depth, stood in front.
use Rattle.std.proofs.Common.{ℕ, zero, suc, Bool}
use Rattle.cx_cursor.specs.Reading.{State}
use Rattle.cx_cursor.proofs.Readers.{Gives}
use Rattle.cx_expr.specs.Below.{Below}
use Rattle.cx_expr.specs.Initialisers.{initialiser}
use Rattle.cx_expr.specs.Knot.{above, readers}
use Rattle.cx_expr.specs.Specifiers.{specs_from}
use Rattle.cx_parse.proofs.SoundExprs.{expr_from_sound, literal_from_sound}
use Rattle.cx_parse.proofs.SoundInits.{initialiser_stood, list_from_sound, entry_from_sound, designator_from_sound}
use Rattle.cx_parse.proofs.SoundMembers.{member_from_sound, member_declarator_from_sound, enumerator_from_sound}
use Rattle.cx_parse.proofs.SoundRules.{refused}
use Rattle.cx_parse.proofs.SoundSpecs.{SpecsFound, specs_found}
use Rattle.cx_parse.proofs.SoundTagged.{spec_from_sound}
use Rattle.cx_parse.proofs.SoundTypes.{declarator_from_sound, type_name_from_sound, param_from_sound}
use Rattle.cx_parse.proofs.Stood.{InitialiserStood, AllSound}
use Rattle.cx_parse.proofs.StoodStmts.{SpecsStood}

pub above_sound : (below : Below) (most : ℕ) → AllSound below most → AllSound (above below most) (suc most)
above_sound below most sound = record {
  expr = λ least state low. expr_from_sound below most sound least state low;
  literal = literal_from_sound below most sound;
  type_name = type_name_from_sound below most sound;
  spec = spec_from_sound below most sound;
  member = member_from_sound below most sound;
  member_declarator = member_declarator_from_sound below most sound;
  enumerator = enumerator_from_sound below most sound;
  declarator = declarator_from_sound below most sound;
  param = param_from_sound below most sound;
  list = list_from_sound below most sound;
  entry = entry_from_sound below most sound;
  designator = designator_from_sound below most sound;
}

pub readers_sound : (depth : ℕ) → AllSound (readers depth) depth
unfolding readers
readers_sound zero = record {
  expr = λ least state low. refused _;
  literal = λ type lines start state found. refused _;
  type_name = λ state. refused _;
  spec = λ state. refused _;
  member = λ state. refused _;
  member_declarator = λ state. refused _;
  enumerator = λ state. refused _;
  declarator = λ form state. refused _;
  param = λ state. refused _;
  list = λ state. refused _;
  entry = λ state. refused _;
  designator = λ state. refused _;
}
readers_sound (suc depth) = above_sound (readers depth) depth (readers_sound depth)

-- ---- what stands at the depth itself

pub initialiser_sound : (depth : ℕ) (state : State) → Gives (initialiser (readers depth)) (InitialiserStood depth state) state
initialiser_sound depth state = initialiser_stood (readers depth) depth (readers_sound depth) state.tokens state.names

pub specs_sound : (depth : ℕ) (all : Bool) (state : State) → Gives (specs_from (readers depth) all) (SpecsStood depth all state) state
specs_sound depth all state read after e =
    let found : SpecsFound depth all state read after = specs_found (readers depth) depth (readers_sound depth) all state read after e in found.read_so
