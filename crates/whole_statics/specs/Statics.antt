-- Static objects behind other items, as they are gone through.
use Rattle.std.specs.Prelude.{ℕ, ℤ, List, [], ◌∷◌, ◌++◌}
use Rattle.cx_core.specs.Trees.{CObject, CPuts, no_puts, more_puts}
use Rattle.rs_text.specs.Tree.{ItemTree}
use Rattle.whole_items.specs.Items.{put_value, static_of}
use Rattle.whole_names.specs.Kept.{NamedProgram}

abbrev pub values_behind : CPuts → List ℤ → List ℤ
values_behind no_puts before = before
values_behind (more_puts first others) before = values_behind others (before ++ put_value first ∷ [])

abbrev pub statics_behind : NamedProgram → (unit : ℕ) → List CObject → List ItemTree → List ItemTree
statics_behind whole unit [] before = before
statics_behind whole unit (one ∷ others) before = statics_behind whole unit others (before ++ static_of whole unit one)
