-- Entries that are string literals. Named by the contracts of parts alone.
use Rattle.std.specs.Prelude.{Bool, true, false}
use Rattle.cx_rules.specs.Pieces.{is_text}
use Rattle.cx_tree.specs.Trees.{EntryTree, Entry, InitialiserTree, Single, Braced, DesignatorTrees, no_designators, more_designators}

abbrev pub is_text_init : InitialiserTree → Bool
is_text_init (Single value) = is_text value
is_text_init (Braced list) = false

abbrev pub text_behind : DesignatorTrees → InitialiserTree → Bool
text_behind no_designators init = is_text_init init
text_behind (more_designators first others) init = false

abbrev pub is_text_entry : EntryTree → Bool
is_text_entry (Entry designators init lines) = text_behind designators init
