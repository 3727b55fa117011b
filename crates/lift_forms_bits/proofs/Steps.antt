-- One byte of a bit-field, and those behind it.
use Rattle.std.proofs.Common.{◌≡◌, ℕ, zero, suc, ◌+◌, ◌-◌, ◌<◌, min, List, [], ◌∷◌, ◌++◌, map, append_assoc, sym, ap, ◌∙◌, arith}
use Rattle.std.proofs.lemmas.List.{map-append}
use Rattle.lift_forms.specs.BitFields.{word, byte_word, bytes_word, byte_write, more_writes}
use Rattle.rs_text.specs.declared.operator.Operator.TheVariants as rust
use Rattle.rs_text.specs.Tree.{Expr, Binary, Stmt}
use Rattle.rs_tree.specs.declared.stmt.RStmt.{RStmt}
use Rattle.rs_tree.specs.Views.{stmt_view}

behind_one : (first behind : ℕ) → first + (behind + 1) ≡ suc (first + behind)
behind_one first behind = omega arith

pub more_words : (base : Expr) (first behind more : ℕ) → 0 < more →
    bytes_word base (first + behind) more
    ≡ Binary (byte_word base (first + behind)) rust.Add (Binary (bytes_word base (first + (behind + 1)) (more - 1)) rust.Mul (word 256))
more_words base first behind zero some = absurd (omega (arith, some))
more_words base first behind (suc more) some =
    let rest : more ≡ suc more - 1 = omega arith in
    ap (λ n. Binary (byte_word base (first + behind)) rust.Add (Binary (bytes_word base n more) rust.Mul (word 256))) (sym (behind_one first behind))
    ∙ ap (λ m. Binary (byte_word base (first + behind)) rust.Add (Binary (bytes_word base (first + (behind + 1)) m) rust.Mul (word 256))) rest

first_of_more : (base value : Expr) (k from width more : ℕ) → 0 < more →
    more_writes base value k from width more ≡ byte_write base value k from (min 8 width) 0 ∷ more_writes base value (suc k) (from + min 8 width) (width - min 8 width) (more - 1)
first_of_more base value k from width zero some = absurd (omega (arith, some))
first_of_more base value k from width (suc more) some =
    let rest : more ≡ suc more - 1 = omega arith in
    ap (λ m. byte_write base value k from (min 8 width) 0 ∷ more_writes base value (suc k) (from + min 8 width) (width - min 8 width) m) rest

-- the bytes that are left, of which the next one is written
next_write : (base value : Expr) (first behind from left more : ℕ) → behind < more →
    more_writes base value (suc (first + behind)) from left (more - behind)
    ≡ byte_write base value (first + (behind + 1)) from (min 8 left) 0 ∷ more_writes base value (suc (first + (behind + 1))) (from + min 8 left) (left - min 8 left) (more - (behind + 1))
next_write base value first behind from left more less =
    let rest : more - behind - 1 ≡ more - (behind + 1) = omega arith in
    ap (λ n. more_writes base value n from left (more - behind)) (sym (behind_one first behind))
    ∙ first_of_more base value (first + (behind + 1)) from left (more - behind) (omega (arith, less))
    ∙ ap (λ m. byte_write base value (first + (behind + 1)) from (min 8 left) 0 ∷ more_writes base value (suc (first + (behind + 1))) (from + min 8 left) (left - min 8 left) m) rest

-- so what is written and what is left stay all of them
pub kept_on : (base value : Expr) (first behind from left more count : ℕ) (made now : List RStmt) (written : RStmt) (all : List Stmt) → behind < more → count ≡ min 8 left →
    stmt_view written ≡ byte_write base value (first + (behind + 1)) from count 0 → now ≡ made ++ written ∷ [] →
    map stmt_view made ++ more_writes base value (suc (first + behind)) from left (more - behind) ≡ all →
    map stmt_view now ++ more_writes base value (suc (first + (behind + 1))) (from + count) (left - count) (more - (behind + 1)) ≡ all
kept_on base value first behind from left more count made now written all less is writes grown was =
    let rest : ℕ → List Stmt = λ n. more_writes base value (suc (first + (behind + 1))) (from + n) (left - n) (more - (behind + 1)) in
    ap (λ l. map stmt_view l ++ rest count) grown
    ∙ ap (λ l. l ++ rest count) (map-append stmt_view made (written ∷ []))
    ∙ ap (λ s. (map stmt_view made ++ s ∷ []) ++ rest count) writes
    ∙ append_assoc (map stmt_view made) (byte_write base value (first + (behind + 1)) from count 0 ∷ []) (rest count)
    ∙ ap (λ n. map stmt_view made ++ byte_write base value (first + (behind + 1)) from n 0 ∷ rest n) is
    ∙ ap (λ l. map stmt_view made ++ l) (sym (next_write base value first behind from left more less)) ∙ was
