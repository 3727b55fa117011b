-- Kinds of static objects, and lists of parameters.
use Rattle.std.specs.Prelude.{ℕ, Bool, true, false}
use Rattle.cx_core.specs.Trees.{CParams, unlisted, listed, no_types, more_types, CObject}
use Rattle.whole_keys.specs.declared.entries.StaticKind.{StaticKind}
use Rattle.whole_keys.specs.declared.entries.StaticKind.TheVariants.{OfBlock, Text, Literal}
use Rattle.whole_names.specs.Keys.{is_block_static, is_static_literal, is_text_of}

abbrev pub is_static : StaticKind → ℕ → CObject → Bool
is_static OfBlock unit one = is_block_static unit one
is_static Text unit one = is_text_of unit one
is_static Literal unit one = is_static_literal unit one

abbrev pub lists_some : CParams → Bool
lists_some unlisted = false
lists_some (listed no_types) = false
lists_some (listed (more_types first others)) = true
