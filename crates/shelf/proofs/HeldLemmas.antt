-- What is held under other names than that of a file that is stored.
use Rattle.std.proofs.Common.{◌≡◌, Bool, true, false, cond, ℕ, List, Option, Some, None, bytes_eq, refl, ap, ◌∙◌}
use Rattle.std.proofs.Math.Path.{fun_ext}
use Rattle.shelf.specs.Shelf.{with_file, without_file}

cond_cond : {A : Type 0} (b : Bool) (x y z : A) → cond b x (cond b y z) ≡ cond b x z
cond_cond true x y z = refl
cond_cond false x y z = refl

-- a file that is stored changes nothing under other names
pub without_file-with_file : (name bytes : List ℕ) (held : Option (List ℕ → Option (List ℕ))) → without_file name (with_file name bytes held) ≡ without_file name held
without_file-with_file name bytes None = refl
without_file-with_file name bytes (Some files) =
    ap (λ (f : List ℕ → Option (List ℕ)). Some f)
    (fun_ext (λ asked. cond_cond (bytes_eq name asked) None (Some bytes) (files asked)))

-- the same of what is held afterwards
pub others_of_stored : (name bytes : List ℕ) (before after : Option (List ℕ → Option (List ℕ))) → after ≡ with_file name bytes before → without_file name after ≡ without_file name before
others_of_stored name bytes before after stored = ap (without_file name) stored ∙ without_file-with_file name bytes before
