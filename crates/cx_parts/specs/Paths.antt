-- Paths that go on behind others. Named by the contracts of parts alone.
use Rattle.std.specs.Prelude.{ℕ, ◌∷◌, [], ◌++◌, take, List}
use Rattle.cx_parts.specs.declared.following.Behind.{Behind}

-- a path of which so many numbers are kept, and one follows
abbrev pub path_behind : List ℕ → Behind → List ℕ
path_behind path one = take one.kept path ++ one.index ∷ []
