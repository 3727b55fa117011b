-- What a scope stands for.
use Rattle.std.specs.Prelude.{map, reverse, option_map}
use Rattle.cx_core.specs.Views.{view_type, view_types, view_puts, view_mention, view_object, view_function}
use Rattle.cx_rules.specs.Scope.{CMeant, an_object, a_function, a_type_name, an_enumerator, a_tag, CDeclared, CTag, CMade, CThing, CLabels, CScope}
use Rattle.cx_scope.specs.declared.made.Made.{Made}
use Rattle.cx_scope.specs.declared.meant.Declared.{Declared}
use Rattle.cx_scope.specs.declared.meant.Meant.{Meant}
use Rattle.cx_scope.specs.declared.meant.Meant.TheVariants as meant
use Rattle.cx_scope.specs.declared.meant.Tag.{Tag}
use Rattle.cx_rules.specs.Shapes.{CParam}
use Rattle.cx_scope.specs.declared.param.Param.{Param}
use Rattle.cx_scope.specs.declared.scope.Scope.{Scope}
use Rattle.cx_scope.specs.declared.thing.Labels.{Labels}
use Rattle.cx_scope.specs.declared.thing.Thing.{Thing}

abbrev pub view_meant : Meant → CMeant
view_meant (meant.Object number t register linkage) = an_object number (view_type t) register linkage
view_meant (meant.Function number t linkage) = a_function number (view_type t) linkage
view_meant (meant.TypeName t) = a_type_name (view_type t)
view_meant (meant.Enumerator value) = an_enumerator value
view_meant (meant.Tag is_record is_open number) = a_tag is_record is_open number

abbrev pub view_declared : Declared → CDeclared
view_declared one = record { name = one.name; meant = view_meant one.meant }

abbrev pub view_tag : Tag → CTag
view_tag one = record { is_record = one.is_record; is_open = one.is_open; number = one.number }

abbrev pub view_made : Made → CMade
view_made one = record { object = one.object; type = view_type one.ty; is_text = one.is_text; fixed = option_map view_puts one.fixed }

abbrev pub view_param : Param → CParam
view_param one = record { name = one.name; object = one.object; type = view_type one.ty; is_register = one.is_register }

abbrev pub view_thing : Thing → CThing
view_thing one = record {
  name = one.name;
  linkage = one.linkage;
  is_function = one.is_function;
  number = one.number;
  type = view_type one.ty;
  is_defined = one.is_defined;
  tentative = one.tentative;
}

abbrev pub view_labels : Labels → CLabels
view_labels one = record { labels = one.labels; cases = one.cases; has_default = one.has_default }

-- what is known at a place in a unit
unfoldable pub view_scope : Scope → CScope
view_scope one = record {
  unit = one.unit;
  declared = reverse (map view_declared one.declared);
  begins = one.begins;
  in_function = one.in_function;
  types = view_types one.types;
  next_object = one.next_object;
  next_function = one.next_function;
  literals = map view_made one.literals;
  mentions = map view_mention one.mentions.items;
  objects = map view_object one.objects;
  functions = map view_function one.functions;
  things = map view_thing one.things;
  completed = one.completed;
  body = view_labels one.body;
}
