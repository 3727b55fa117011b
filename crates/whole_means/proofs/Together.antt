-- The laws of bodies and programs, each of its parts.
use Rattle.lift_calls_entry.specs.Entry.{EntryMeans}
use Rattle.reloop.specs.Shapes.{has_dispatch}
use Rattle.whole_bodies.specs.Bodies.{copies_of_passed, written_bodies, written_body}
use Rattle.whole_means.proofs.Agrees.{crate_agrees, crate_images_apart}
use Rattle.whole_means.proofs.Locals.{names_apart}
use Rattle.whole_means.proofs.Whole.{modules_are, objects_are, stretch_kept}
use Rattle.whole_means.specs.Laws.{BaresMean, EntriesMeanInCrate, NamesOfBodies, OutersMean, ProgramsAgree, tree_of}
use Rattle.whole_means.proofs.Bare.{bare_item_means}
use Rattle.whole_means.proofs.Differ.{locals_differ}
use Rattle.whole_means.proofs.Entries.{kept_there, params_differ, temporaries_there, zeros_there}
use Rattle.whole_means.proofs.Lists.{contains_among}
use Rattle.cx_core.specs.Trees.{no_exprs}
use Rattle.whole_means.proofs.Starting.{begins}
use Rattle.whole_means.proofs.Taking.{takes}
use Rattle.whole_means.specs.Layouts.{AreLaid}
use Rattle.lift_does.specs.Outers.{OuterItem}
use Rattle.whole_bodies.specs.Names.{held_in_body, locals_of, names_in}
use Rattle.whole_means.proofs.HeldTypes.{same_stmt}
use Rattle.whole_names.specs.Kept.{no_locals}
use Rattle.whole_means.proofs.Outers.{outer_item}
use Rattle.whole_means.proofs.Outside.{statics_kept}
use Rattle.whole_means.specs.FunctionNames.{kept_names}
use Rattle.whole_means.specs.Settings.{setting_with}
use Rattle.whole_items.specs.Items.{WrittenBodies}
use Rattle.rs_text.specs.Tree.{ModuleTree, no_stmts}
use Rattle.std.proofs.Common.{List, [], false, sym, subst, ◌∙◌}

-- names don't depend on bodies
no_bodies : WrittenBodies
no_bodies = record { of_function = λ fun. record { temporaries = []; has_dispatch = false; statements = no_stmts }; initialiser = λ unit. no_stmts }

pub bodies_named : NamesOfBodies
bodies_named = record {
  objects = objects_are;
  apart = λ whole fun is few. names_apart whole is no_bodies fun few;
  temporaries = λ whole fun front part behind same. stretch_kept whole fun front part behind (same_stmt whole fun.unit no_locals (locals_of whole fun) fun.body ∙ same);
}

pub all_agree : ProgramsAgree
all_agree = record { agrees = crate_agrees; functions_apart = crate_images_apart }

-- ---- entries

pub entries_mean : EntriesMeanInCrate
entries_mean whole shape statics fun is among few held =
    let there = contains_among whole.program.functions fun among in
    let bodies = written_bodies whole shape in
    let dispatch = has_dispatch (shape fun) in
    let text = (written_body whole shape fun).statements in
    let its = takes whole is bodies fun there statics dispatch text in
    subst (λ (modules : List ModuleTree). EntryMeans (setting_with whole modules statics) fun (tree_of whole shape fun) (kept_names whole fun) (copies_of_passed whole fun)) (sym (modules_are whole shape))
    (record {
      params = its.params;
      result = its.result;
      are = its.are;
      differ = params_differ whole.program.functions fun is.linked.numbers.blocks_differ there;
      names_differ = locals_differ whole is no_bodies fun few dispatch text;
      begins = begins whole is bodies fun there statics dispatch text (subst (λ (modules : List ModuleTree). AreLaid modules (held_in_body whole fun)) (modules_are whole shape) held);
      kept = kept_there whole fun dispatch text is bodies statics;
      statics = statics_kept whole is fun there;
      temporaries = temporaries_there whole fun dispatch text;
      zeros = zeros_there whole fun dispatch text;
      apart = names_apart whole is no_bodies fun few;
    })

pub outers_mean : OutersMean
outers_mean whole shape statics unit own number one args is low found undefined ordered declares takes itself =
    subst (λ (modules : List ModuleTree). OuterItem (setting_with whole modules statics) (names_in whole unit own) number args) (sym (modules_are whole shape))
    (outer_item whole is (written_bodies whole shape) unit low own statics number one found undefined ordered declares args takes itself)

pub bares_mean : BaresMean
bares_mean whole shape statics unit own number one is low found undefined is_bare itself =
    subst (λ (modules : List ModuleTree). OuterItem (setting_with whole modules statics) (names_in whole unit own) number no_exprs) (sym (modules_are whole shape))
    (bare_item_means whole is (written_bodies whole shape) unit low own statics number one found is_bare undefined itself)
