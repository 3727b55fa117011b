-- What a declaration of an identifier stands for.
use Rattle.cx_core.specs.Views.{view_type}
use Rattle.cx_entities.specs.declared.declaring.Declaring.{Declaring}
use Rattle.cx_rules.specs.Declare.{CDeclaring}
use Rattle.cx_shapes.specs.Views.{view_specs}

abbrev pub view_declaring : Declaring → CDeclaring
view_declaring one = record {
  where_stands = one.place;
  specs = view_specs one.specs.now;
  name = one.name.now;
  line = one.line;
  type = view_type one.ty.now;
  linkage = one.linkage;
  has_init = one.has_init;
}
