use Rattle.std.proofs.Common.{map}
use Rattle.cx_core.specs.Views.{view_object}
use Rattle.lift_stores.specs.Names.{lift_names}
use Rattle.rs_items.specs.Known.{view_names}
use Rattle.whole_texts.proofs.Initials.{initialiser_made}
use Rattle.whole_texts.proofs.statics.initialiser.Goals as goal

pub returns-clause-written : goal.returns-clause-written
returns-clause-written c = initialiser_made c.args.unit (lift_names (view_names c.args.names.now)) (map view_object c.args.objects.now) c.all_contents.result c.all_contents.ensures
