use Rattle.std.proofs.Common.{List, map, ap, ◌∙◌}
use Rattle.cx_core.specs.Views.{view_program}
use Rattle.whole_given.proofs.Tables.{names_all}
use Rattle.whole_given.specs.Told.{told}
use Rattle.whole_keys.specs.Views.{view_key}
use Rattle.whole_keys.specs.declared.key.NameKey.{NameKey}
use Rattle.whole_given.proofs.given.module_names.Goals as goal

pub returns : goal.returns
returns c = record {
  keys_are = c.in_ok-keys.ensures;
  names_are = λ key.
      names_all (view_program c.args.parts.now) c.args.unit (view_key key) (map view_key c.as_slice.result.now) (map view_key c.as_slice-2.result.now) (told c.new-names.result key)
      (told c.give_entries.new.table key) (told c.give_keys.new.table key) (c.new-names.ensures key)
      (ap (λ (list : List NameKey). map view_key list) c.as_slice.ensures ∙ c.in_ok-entries.ensures)
      (ap (λ (list : List NameKey). map view_key list) c.as_slice-2.ensures ∙ c.in_ok-keys.ensures)
      (c.in_ok-give_entries.ensures key) (c.in_ok-give_keys.ensures key);
}
