-- The key of the `calloc` that is called in the place of `malloc`.
use Rattle.std.proofs.Common.{◌≡◌, ℕ, Bool, true, false, if◌then◌else◌, List, [], ◌∷◌, codes, refl, ap, ◌∙◌}
use Rattle.whole_keys.proofs.Ordered.{named_key}
use Rattle.whole_keys.specs.Kept.{has_function, number_of, put_where}
use Rattle.whole_names.specs.Keys.{NameKey, is_key_outer, is_outer_named, things_of}
use Rattle.whole_names.specs.Kept.{NamedProgram, calloc_key, first_key}

first_alike : (test other : NameKey → Bool) (alike : (key : NameKey) → test key ≡ other key) (keys : List NameKey) → first_key test keys ≡ first_key other keys
first_alike test other alike [] = refl
first_alike test other alike (key ∷ keys) =
    ap (λ (t : Bool). if t then key else first_key test keys) (alike key) ∙ ap (λ (found : NameKey). if other key then key else found) (first_alike test other alike keys)

pub calloc_is : (whole : NamedProgram) (unit : ℕ) (numbers : List ℕ) (things : List NameKey) (found : NameKey) → numbers ≡ put_where (is_outer_named (codes "calloc")) number_of whole.program.externals [] →
    things ≡ things_of whole.program unit → found ≡ first_key (has_function numbers) things → found ≡ calloc_key whole unit
calloc_is whole unit numbers things found same there is =
    is ∙ ap (λ (list : List ℕ). first_key (has_function list) things) same
    ∙ ap (λ (list : List NameKey). first_key (has_function (put_where (is_outer_named (codes "calloc")) number_of whole.program.externals [])) list) there
    ∙ first_alike (has_function (put_where (is_outer_named (codes "calloc")) number_of whole.program.externals [])) (is_key_outer whole.program (codes "calloc"))
    (named_key whole.program (codes "calloc")) (things_of whole.program unit)
