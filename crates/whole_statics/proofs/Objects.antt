-- What was put one behind the other is what the module has.
use Rattle.std.proofs.Common.{◌≡◌, ℕ, ℤ, List, [], ◌∷◌, ◌++◌, flat_map, append_assoc, refl, sym, ap, ◌∙◌}
use Rattle.std.proofs.lemmas.List.{append-nil}
use Rattle.cx_core.specs.Trees.{CObject, CPuts, no_puts, more_puts}
use Rattle.rs_text.specs.Tree.{ItemTree}
use Rattle.whole_items.specs.Items.{put_value, static_of, text_values}
use Rattle.whole_names.specs.Kept.{NamedProgram}
use Rattle.whole_statics.specs.Statics.{statics_behind, values_behind}

behind : (puts : CPuts) (before : List ℤ) → values_behind puts before ≡ before ++ text_values puts
behind no_puts before = sym (append-nil before)
behind (more_puts first others) before = behind others (before ++ put_value first ∷ []) ∙ append_assoc before (put_value first ∷ []) (text_values others)

pub values_are : (puts : CPuts) → values_behind puts [] ≡ text_values puts
values_are puts = behind puts []

statics_are : (whole : NamedProgram) (unit : ℕ) (objects : List CObject) (before : List ItemTree) → statics_behind whole unit objects before ≡ before ++ flat_map (static_of whole unit) objects
statics_are whole unit [] before = sym (append-nil before)
statics_are whole unit (one ∷ others) before =
    statics_are whole unit others (before ++ static_of whole unit one) ∙ append_assoc before (static_of whole unit one) (flat_map (static_of whole unit) others)

pub all_statics : (whole : NamedProgram) (unit : ℕ) (objects : List CObject) (none items : List ItemTree) → objects ≡ whole.program.objects → none ≡ [] → items ≡ statics_behind whole unit objects none →
    items ≡ flat_map (static_of whole unit) whole.program.objects
all_statics whole unit objects none items same empty e =
    e ∙ statics_are whole unit objects none ∙ ap (λ (list : List ItemTree). list ++ flat_map (static_of whole unit) objects) empty
    ∙ ap (λ (list : List CObject). flat_map (static_of whole unit) list) same
