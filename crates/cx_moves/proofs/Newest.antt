-- Open statements are held the outermost first, and seen the innermost first.
use Rattle.std.proofs.Common.{◌≡◌, ◌∙◌, refl, sym, ap, List, [], ◌∷◌, ◌++◌, map, reverse}
use Rattle.std.proofs.lemmas.List.{map-append, reverse-append}
use Rattle.cx_mean.specs.Paths.{CLevel}
use Rattle.cx_moves.specs.declared.sites.Level.{Level}
use Rattle.cx_moves.specs.Sites.{view_level, levels_of}

pub newest : (outer : List Level) (level : Level) → levels_of (outer ++ level ∷ []) ≡ view_level level ∷ levels_of outer
newest outer level = ap reverse (map-append view_level outer (level ∷ [])) ∙ reverse-append (map view_level outer) (view_level level ∷ [])

pub newest_of : (all outer : List Level) (level : Level) → all ≡ outer ++ level ∷ [] → levels_of all ≡ view_level level ∷ levels_of outer
newest_of all outer level is = ap levels_of is ∙ newest outer level
